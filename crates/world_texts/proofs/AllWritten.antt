-- Each message is spelled by its text after every list of events.
use Rattle.std.proofs.Common.{◌≡◌, ℕ, ◌≤◌, ◌^◌, Bool, true, false, List, [], ◌∷◌, Option, Some, None, IfSome, refl, sym, subst, arith}
use Rattle.std.specs.Prelude.{◌&&◌, not, nat_lt, if◌then◌else◌}
use Rattle.std.proofs.lemmas.Option.{none-some}
use Rattle.world_laws.specs.ReplicaModel.Rows.{FullReplica}
use Rattle.world_laws.specs.ReplicaModel.Found.{Found}
use Rattle.world_laws.specs.World.Delivery.{Delivery}
use Rattle.world_laws.specs.World.Delivery.TheVariants as delivery
use Rattle.world_laws.specs.World.Direction.{Direction}
use Rattle.world_laws.specs.World.Direction.TheVariants as direction
use Rattle.world_laws.specs.World.Event.{Event}
use Rattle.world_laws.specs.World.Event.TheVariants as event
use Rattle.world_laws.specs.World.FoundReplica.{FoundReplica}
use Rattle.world_laws.specs.World.OwnStep.{OwnStep}
use Rattle.world_laws.specs.World.OwnStep.TheVariants as own
use Rattle.world_laws.specs.World.Parts.{Upper, by_writer, by_member, by_reader, by_primary, Break}
use Rattle.world_laws.specs.World.Worlds.{World, Change, apply, start}
use Rattle.world_laws.specs.World.Connections.{Next, message, the_end, next_down, next_up, down_taken, up_taken, is_served}
use Rattle.world_laws.specs.World.Nodes.{lower_down, lower_ready}
use Rattle.world_laws.specs.World.Primaries.{office_event}
use Rattle.world_laws.specs.World.Restarts.{may_find, whole_found, replica_found, restarted, restart, found_in}
use Rattle.world_laws.specs.World.Events.{changed, own_change, down_as, down_event, ready_event, unless_fails, upper_up, up_as, up_event, fault_event, lost, stop, where_so, outcome, after_event, happens, run}
use Rattle.world_laws.specs.Stamping.{Givens, none_given, given_with, stamped_in, given_by, heard, Recorded}
use Rattle.world_laws.specs.Carrying.{Carried}
use Rattle.world_laws.proofs.AllCarried.{down-taken-facts, up-taken-facts, next-sent, happens-carried, reached-facts, start-carried, at-start}
use Rattle.world_laws.proofs.AllRecorded.{happens-recorded, Reached, reached-next, reached-agreed, start-recorded}
use Rattle.world_laws.proofs.ByteFrame.{each-nil}
use Rattle.world_laws.proofs.ByteLeaves.{Facts}
use Rattle.world_laws.proofs.FactTables.{when-each, put-each}
use Rattle.world_laws.proofs.Sessions.{run-later}
use Rattle.world_texts.specs.Texts.{Written, EventFits, AllFit}
use Rattle.world_texts.proofs.Spelling.{MessageFits, message-spelled}
use Rattle.world_texts.proofs.Frame.{PendingFits, ReplicaFits, Formed, Brings, formed-after, news-of}
use Rattle.world_texts.proofs.Nodes.{NextFits}
use Rattle.world_texts.proofs.Serving.{lower-down-brings, lower-ready-brings, mirror-up-brings}
use Rattle.world_texts.proofs.Ranges.{Ranged, holding}
use Rattle.world_texts.proofs.Clients.{Acts, own-writer-brings, writer-up-brings, own-reader-brings, reader-up-brings}
use Rattle.world_texts.proofs.Primaries.{WhileLeft, own-recover-brings, own-primary-brings, primary-up-brings, office-brings}
use Rattle.world_texts.proofs.Sessions.{Bounded, ranged, bounded-after, answered-bounded}

-- what fits, and how many bytes there are
record Fine (g : Givens) (w : World) : Type 0 where
  formed : Formed w
  bounded : Bounded g w

-- a world where the office has given only stamps of 64 bits
record Known (g : Givens) (w : World) : Type 0 where
  facts : Facts g w
  fine : Fine g w
  left : w.office.next.0 ≤ 2 ^ 64

in-range : (g : Givens) (w : World) → Known g w → Ranged g w
in-range g w k = ranged g w k.facts k.fine.bounded k.left

-- MARKS

down-taken-fine : (g : Givens) (w : World) (c : ℕ) (x : Next) → Fine g w → Fine g (down_taken w c x)
unfolding down_taken
down-taken-fine g w c x h = record {
  formed = record { downs = h.formed.downs; ups = h.formed.ups; lowers = h.formed.lowers; replicas = h.formed.replicas; writers = h.formed.writers; primaries = h.formed.primaries };
  bounded = record { most = h.bounded.most };
}

down-taken-left : (w : World) (c : ℕ) (x : Next) → w.office.next.0 ≤ 2 ^ 64 → (down_taken w c x).office.next.0 ≤ 2 ^ 64
unfolding down_taken
down-taken-left w c x left = left

down-taken-known : (g : Givens) (w : World) (c : ℕ) (x : Next) → Known g w → Known g (down_taken w c x)
down-taken-known g w c x k = record { facts = down-taken-facts g w c x k.facts; fine = down-taken-fine g w c x k.fine; left = down-taken-left w c x k.left }

up-taken-fine : (g : Givens) (w : World) (c : ℕ) (x : Next) → Fine g w → Fine g (up_taken w c x)
unfolding up_taken
up-taken-fine g w c x h = record {
  formed = record { downs = h.formed.downs; ups = h.formed.ups; lowers = h.formed.lowers; replicas = h.formed.replicas; writers = h.formed.writers; primaries = h.formed.primaries };
  bounded = record { most = h.bounded.most };
}

up-taken-left : (w : World) (c : ℕ) (x : Next) → w.office.next.0 ≤ 2 ^ 64 → (up_taken w c x).office.next.0 ≤ 2 ^ 64
unfolding up_taken
up-taken-left w c x left = left

up-taken-known : (g : Givens) (w : World) (c : ℕ) (x : Next) → Known g w → Known g (up_taken w c x)
up-taken-known g w c x k = record { facts = up-taken-facts g w c x k.facts; fine = up-taken-fine g w c x k.fine; left = up-taken-left w c x k.left }

-- CHANGES

changed-fine : (g : Givens) (w : World) (o : Option Change) → Known g w → IfSome o (Brings w) → IfSome (changed w o) (Fine g)
changed-fine g w None k n = tt
changed-fine g w (Some x) k n = record { formed = formed-after w x k.fine.formed (news-of w x n); bounded = bounded-after g w x k.facts.recorded k.fine.bounded n }

acts : (g : Givens) (w : World) (b : ℕ) → Known g w → Acts b (heard (w.writers b))
acts g w b k = record { fits = k.fine.formed.writers b; sound = (k.facts.carried.writers b).sound; block = k.facts.recorded.writers b; queue = (k.facts.carried.writers b).queue }

own-brings : (g : Givens) (w : World) (s : OwnStep) → Known g w → EventFits (event.Own s) → IfSome (own_change w s) (Brings w)
own-brings g w (own.Writer b takes answered) k e = own-writer-brings w k.fine.formed b.0 takes answered e (acts g w b.0 k)
own-brings g w (own.Reader i n r answered) k e = own-reader-brings w k.fine.formed i n.0 r answered e
own-brings g w (own.Recover i n b members answers) k e = own-recover-brings g w k.fine.formed k.facts (in-range g w k) i n.0 b members answers e
own-brings g w (own.Primary i) k e = own-primary-brings g w k.fine.formed k.facts (in-range g w k) i

-- DELIVERIES

down-fits : (w : World) (c : ℕ) (x : Next) → Formed w → next_down w c ≡ Some x → NextFits x
down-fits w c (message m) h e = (h.downs c).at (w.down_marks c).taken m (next-sent (w.downs c) (w.down_marks c) m e)
down-fits w c the_end h e = tt

up-fits : (w : World) (c : ℕ) (x : Next) → Formed w → next_up w c ≡ Some x → NextFits x
up-fits w c (message m) h e = (h.ups c).at (w.up_marks c).taken m (next-sent (w.ups c) (w.up_marks c) m e)
up-fits w c the_end h e = tt

down-as-fine : (g : Givens) (w : World) (c : ℕ) (answered fails : Bool) (o : Option Next) → Known g w → next_down w c ≡ o → IfSome (down_as w c answered fails o) (Fine g)
unfolding down_taken
down-as-fine g w c answered fails None k e = tt
down-as-fine g w c answered fails (Some x) k e =
    let v = down_taken w c x in
    let q = down-taken-known g w c x k in
    changed-fine g v (lower_down (w.lowers c) v c x answered fails) q
    (lower-down-brings v q.fine.formed (holding g v q.facts (in-range g v q)) (w.lowers c) c x answered fails (k.fine.formed.lowers c) (down-fits w c x k.fine.formed e))

down-fine : (g : Givens) (w : World) (c : ℕ) (answered fails : Bool) → Known g w → IfSome (down_event w c answered fails) (Fine g)
down-fine g w c answered fails k = when-each (Fine g) (is_served w c) _ (λ _. down-as-fine g w c answered fails (next_down w c) k refl)

ready-fine : (g : Givens) (w : World) (c : ℕ) (fails : Bool) → Known g w → IfSome (ready_event w c fails) (Fine g)
ready-fine g w c fails k = when-each (Fine g) (is_served w c) _
    (λ _. changed-fine g w (lower_ready (w.lowers c) w c fails) k (lower-ready-brings w k.fine.formed (holding g w k.facts (in-range g w k)) (w.lowers c) c fails (k.fine.formed.lowers c)))

unless-brings : (w : World) (fails : Bool) (o : Option Change) → IfSome o (Brings w) → IfSome (unless_fails fails o) (Brings w)
unless-brings w true o n = tt
unless-brings w false o n = n

upper-brings : (g : Givens) (u : Upper) (w : World) (c : ℕ) (x : Next) (fails : Bool) → Known g w → NextFits x → IfSome (upper_up u w c x fails) (Brings w)
upper-brings g (by_writer b) w c x fails k n = unless-brings w fails _ (writer-up-brings w k.fine.formed b c x)
upper-brings g (by_member d) w c x fails k n = mirror-up-brings w k.fine.formed (holding g w k.facts (in-range g w k)) (w.lowers d) d x fails (k.fine.formed.lowers d) n
upper-brings g (by_reader i) w c x fails k n = unless-brings w fails _ (reader-up-brings w k.fine.formed i c x)
upper-brings g (by_primary i place) w c x fails k n = unless-brings w fails _ (primary-up-brings g w k.fine.formed k.facts (in-range g w k) i place c x)

up-as-fine : (g : Givens) (w : World) (c : ℕ) (fails : Bool) (o : Option Next) → Known g w → next_up w c ≡ o → IfSome (up_as w c fails o) (Fine g)
unfolding up_taken
up-as-fine g w c fails None k e = tt
up-as-fine g w c fails (Some x) k e =
    let v = up_taken w c x in
    let q = up-taken-known g w c x k in
    changed-fine g v (upper_up (w.dialled c).upper v c x fails) q (upper-brings g (w.dialled c).upper v c x fails q (up-fits w c x k.fine.formed e))

up-fine : (g : Givens) (w : World) (c : ℕ) (fails : Bool) → Known g w → IfSome (up_event w c fails) (Fine g)
up-fine g w c fails k = when-each (Fine g) (nat_lt c w.next_conn) _ (λ _. up-as-fine g w c fails (next_up w c) k refl)

fault-fine : (g : Givens) (w : World) (d : Delivery) → Known g w → IfSome (fault_event w d) (Fine g)
fault-fine g w (delivery.Down c) k = down-fine g w c.0 false true k
fault-fine g w (delivery.Ready c) k = ready-fine g w c.0 true k
fault-fine g w (delivery.Up c) k = up-fine g w c.0 true k

-- LOSSES, STOPS, RESTARTS

lost-fine : (g : Givens) (w : World) (c : ℕ) (way : Direction) (more : ℕ) → Fine g w → Fine g (lost w c way more)
lost-fine g w c direction.Down more h = record {
  formed = record { downs = h.formed.downs; ups = h.formed.ups; lowers = h.formed.lowers; replicas = h.formed.replicas; writers = h.formed.writers; primaries = h.formed.primaries };
  bounded = record { most = h.bounded.most };
}
lost-fine g w c direction.Up more h = record {
  formed = record { downs = h.formed.downs; ups = h.formed.ups; lowers = h.formed.lowers; replicas = h.formed.replicas; writers = h.formed.writers; primaries = h.formed.primaries };
  bounded = record { most = h.bounded.most };
}

stop-fine : (g : Givens) (w : World) (n : ℕ) → Fine g w → Fine g (stop w n)
stop-fine g w n h = record {
  formed = record { downs = h.formed.downs; ups = h.formed.ups; lowers = h.formed.lowers; replicas = h.formed.replicas; writers = h.formed.writers; primaries = h.formed.primaries };
  bounded = record { most = h.bounded.most };
}

found-fits : (b : ℕ) (o : Option Found) → ReplicaFits (replica_found b o)
found-fits b None = record { pending = each-nil PendingFits }
found-fits b (Some x) = record { pending = each-nil PendingFits }

restarted-fits : (b : ℕ) (r : FullReplica) (x : Option Break) (o : Option Found) → ReplicaFits (restarted b r x o)
unfolding restarted
restarted-fits b r x o = found-fits b (if may_find r x o then o else whole_found r x)

restart-fine : (g : Givens) (w : World) (n : ℕ) (list : List FoundReplica) → Fine g w → Fine g (restart w n list)
unfolding restart
restart-fine g w n list h = record {
  formed = record {
    downs = h.formed.downs;
    ups = h.formed.ups;
    lowers = h.formed.lowers;
    replicas = put-each (λ (m : ℕ) (f : ℕ → FullReplica). (b : ℕ) → ReplicaFits (f b)) w.replicas n _ (λ b. restarted-fits b (w.replicas n b) (w.breaks n b) (found_in list b)) h.formed.replicas;
    writers = h.formed.writers;
    primaries = h.formed.primaries;
  };
  bounded = record { most = h.bounded.most };
}

where-fine : (g : Givens) (test : Bool) (v : World) → Fine g v → IfSome (where_so test v) (Fine g)
where-fine g true v h = h
where-fine g false v h = tt

-- ALL EVENTS

-- where the office has given only stamps of 64 bits
abbrev FineWhile : Givens → World → Type 0
FineWhile g v = v.office.next.0 ≤ 2 ^ 64 → Fine g v

answered-fine : (g : Givens) (w : World) (x : Change) (k : Known g w) → WhileLeft g w k.fine.formed k.facts (in-range g w k) x → FineWhile (given_with g x.stamped) (apply w x)
unfolding apply
answered-fine g w x k n left =
    let a = n left in
    record { formed = formed-after w x k.fine.formed a.news; bounded = answered-bounded g w k.facts k.fine.bounded a.asked x a.is a.given }

office-fine : (g : Givens) (w : World) (o : Option Change) (k : Known g w) → IfSome o (WhileLeft g w k.fine.formed k.facts (in-range g w k)) → IfSome (changed w o) (FineWhile (given_with g (stamped_in o)))
office-fine g w None k n = tt
office-fine g w (Some x) k n = answered-fine g w x k n

while-fine : (g : Givens) (o : Option World) → IfSome o (Fine g) → IfSome o (FineWhile g)
while-fine g None h = tt
while-fine g (Some v) h = λ _. h

outcome-fine : (g : Givens) (w : World) (e : Event) → Known g w → EventFits e → IfSome (outcome w e) (FineWhile (given_by g w e))
unfolding outcome
outcome-fine g w (event.Own s) k f = while-fine g _ (changed-fine g w (own_change w s) k (own-brings g w s k f))
outcome-fine g w (event.Office c) k f = office-fine g w (office_event w c) k (office-brings g w k.fine.formed k.facts (in-range g w k) c)
outcome-fine g w (event.Down c answered) k f = while-fine g _ (down-fine g w c.0 answered false k)
outcome-fine g w (event.Ready c) k f = while-fine g _ (ready-fine g w c.0 false k)
outcome-fine g w (event.Up c) k f = while-fine g _ (up-fine g w c.0 false k)
outcome-fine g w (event.Lost c way more) k f = while-fine g _ (where-fine g (nat_lt c.0 w.next_conn) (lost w c.0 way more) (lost-fine g w c.0 way more k.fine))
outcome-fine g w (event.Fault d) k f = while-fine g _ (fault-fine g w d k)
outcome-fine g w (event.Stop n) k f = while-fine g _ (where-fine g (w.running n.0) (stop w n.0) (stop-fine g w n.0 k.fine))
outcome-fine g w (event.Restart n list) k f =
    while-fine g _ (where-fine g (nat_lt n.0 w.nodes && not (w.running n.0)) (restart w n.0 list) (restart-fine g w n.0 list k.fine))

-- an event that isn't enabled gives no stamp
idle-office : (g : Givens) (w : World) (o : Option Change) → changed w o ≡ None → given_with g (stamped_in o) ≡ g
idle-office g w None e = refl
idle-office g w (Some x) e = absurd (none-some (apply w x) (sym e))

idle-given : (g : Givens) (w : World) (e : Event) → outcome w e ≡ None → given_by g w e ≡ g
unfolding outcome
idle-given g w (event.Own s) i = refl
idle-given g w (event.Office c) i = idle-office g w (office_event w c) i
idle-given g w (event.Down c answered) i = refl
idle-given g w (event.Ready c) i = refl
idle-given g w (event.Up c) i = refl
idle-given g w (event.Lost c way more) i = refl
idle-given g w (event.Fault d) i = refl
idle-given g w (event.Stop n) i = refl
idle-given g w (event.Restart n list) i = refl

after-fine : (g : Givens) (w : World) (e : Event) (o : Option World) → outcome w e ≡ o → Fine g w → IfSome o (FineWhile (given_by g w e)) → FineWhile (given_by g w e) (after_event w e o)
after-fine g w e None i h n = λ _. subst (λ (f : Givens). Fine f w) (sym (idle-given g w e i)) h
after-fine g w e (Some v) i h n = λ left. let q = n left in record {
  formed = record { downs = q.formed.downs; ups = q.formed.ups; lowers = q.formed.lowers; replicas = q.formed.replicas; writers = q.formed.writers; primaries = q.formed.primaries };
  bounded = record { most = q.bounded.most };
}

happens-fine : (g : Givens) (w : World) (e : Event) → Known g w → EventFits e → FineWhile (given_by g w e) (happens w e)
unfolding happens
happens-fine g w e k f = after-fine g w e (outcome w e) refl k.fine (outcome-fine g w e k f)

-- AFTER EVERY LIST OF EVENTS

run-formed : (g : Givens) (w : World) (events : List Event) → Reached w → Recorded g w → Carried g w → Fine g w → AllFit events → (run w events).office.next.0 ≤ 2 ^ 64 → Formed (run w events)
run-formed g w [] r i c h a left = h.formed
run-formed g w (e ∷ events) r i c h a left =
    let facts = reached-facts g w r i c in
    let agreed = reached-agreed w r in
    let here : w.office.next.0 ≤ 2 ^ 64 = omega (arith, (run-later w (e ∷ events)).rises, left) in
    let next : (happens w e).office.next.0 ≤ 2 ^ 64 = omega (arith, (run-later (happens w e) events).rises, left) in
    let k : Known g w = record { facts = facts; fine = h; left = here } in
    run-formed (given_by g w e) (happens w e) events (reached-next w e r) (happens-recorded g w e i agreed) (happens-carried g w e facts agreed) (happens-fine g w e k a.0 next) a.1 left

start-fine : (nodes : ℕ) → Fine none_given (start nodes)
unfolding start
start-fine nodes = record {
  formed = record {
    downs = λ c. each-nil MessageFits;
    ups = λ c. each-nil MessageFits;
    lowers = λ c. tt;
    replicas = λ n b. record { pending = each-nil PendingFits };
    writers = λ b. record { few = omega arith; acked = omega arith; packets = each-nil _; committed = omega arith; setup = tt; intake = omega arith };
    primaries = λ i. tt;
  };
  bounded = record { most = λ b t e q. absurd (none-some e q) };
}

pub all-formed : (nodes : ℕ) (events : List Event) → AllFit events → (run (start nodes) events).office.next.0 ≤ 2 ^ 64 → Formed (run (start nodes) events)
all-formed nodes events a left = run-formed none_given (start nodes) events (at-start nodes) (start-recorded nodes) (start-carried nodes) (start-fine nodes) a left

pub all-written : (nodes : ℕ) (events : List Event) → AllFit events → (run (start nodes) events).office.next.0 ≤ 2 ^ 64 → Written (run (start nodes) events)
all-written nodes events a left =
    let h = all-formed nodes events a left in
    record {
      downs = λ c k m e. message-spelled m ((h.downs c).at k m e);
      ups = λ c k m e. message-spelled m ((h.ups c).at k m e);
    }
