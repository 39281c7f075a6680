-- Bytes stand where they may, after every list of events.
use Rattle.std.proofs.Common.{◌≡◌, ℕ, ◌<◌, ◌≤◌, Bool, true, false, List, [], ◌∷◌, slice_get, Option, Some, None, IfSome, refl, sym, ap, subst, arith}
use Rattle.std.specs.Prelude.{◌&&◌, not, nat_lt, option_map, if◌then◌else◌}
use Rattle.std.proofs.lemmas.Bool.Decides.{nat_tests}
use Rattle.std.proofs.lemmas.Option.{none-some, same_Some}
use Rattle.hd_base.specs.SumRules.{default_rule}
use Rattle.world.specs.ReplicaModel.Rows.{IsFull}
use Rattle.world.proofs.WriterCore.SoundLemmas.{fresh_sound}
use Rattle.world.specs.declared.events.Delivery.{Delivery}
use Rattle.world.specs.declared.events.Delivery.TheVariants as delivery
use Rattle.world.specs.declared.events.Direction.{Direction}
use Rattle.world.specs.declared.events.Direction.TheVariants as direction
use Rattle.world.specs.declared.events.Event.{Event}
use Rattle.world.specs.declared.events.Event.TheVariants as event
use Rattle.world.specs.declared.events.OwnStep.{OwnStep}
use Rattle.world.specs.declared.events.OwnStep.TheVariants as own
use Rattle.world.specs.Parts.{Message, Marks, Upper, by_writer, by_member, by_reader, by_primary}
use Rattle.world.specs.Worlds.{World, Change, apply, start}
use Rattle.world.specs.Connections.{Next, message, the_end, ends_at, next_on, next_down, next_up, down_taken, up_taken, is_served}
use Rattle.world.specs.Nodes.{lower_down, lower_ready}
use Rattle.world.specs.Clients.{writer_up, reader_up}
use Rattle.world.specs.Primaries.{primary_up, office_event}
use Rattle.world.specs.Restarts.{restart}
use Rattle.world.specs.Events.{changed, own_change, down_as, down_event, ready_event, unless_fails, upper_up, up_as, up_event, fault_event, lost, stop, where_so, outcome, after_event, happens, run}
use Rattle.world_laws.proofs.FactTables.{when-each}
use Rattle.world_laws.proofs.PlacedLaws.{only-dialled-carry}
use Rattle.world_laws.proofs.FilledLaws.{all-filled}
use Rattle.world_laws.proofs.Unused.{unused-are-empty}
use Rattle.world_laws.specs.Stamping.{Givens, none_given, given_with, stamped_in, given_by, given_in, Recorded}
use Rattle.world_laws.proofs.StampRecording.{Agreed}
use Rattle.world_laws.proofs.AllRecorded.{same-recorded, happens-recorded, Reached, reached-next, reached-agreed, start-recorded}
use Rattle.world_laws.specs.Carrying.{Carried}
use Rattle.world_laws.proofs.ByteLeaves.{Facts}
use Rattle.world_laws.proofs.ByteAsking.{Keeps}
use Rattle.world_laws.proofs.ByteEnds.{NextSays, lower-down-keeps, lower-ready-keeps, mirror-up-keeps}
use Rattle.world_laws.proofs.ByteClients.{own-writer-keeps, writer-up-keeps, own-reader-keeps, reader-up-keeps}
use Rattle.world_laws.proofs.ByteLeading.{HeardSays, own-recover-keeps, own-primary-keeps, primary-up-keeps}
use Rattle.world_laws.proofs.ByteOffices.{Carries, office-event-keeps}
use Rattle.world_laws.proofs.ByteRestarting.{restart-carried}

-- MARKS

pub down-taken-facts : (g : Givens) (w : World) (c : ℕ) (x : Next) → Facts g w → Facts g (down_taken w c x)
unfolding down_taken
down-taken-facts g w c x h = record {
  carried = record {
    downs = h.carried.downs;
    ups = h.carried.ups;
    replicas = h.carried.replicas;
    breaks = h.carried.breaks;
    lowers = h.carried.lowers;
    writers = h.carried.writers;
    entries = h.carried.entries;
    primaries = h.carried.primaries;
    led = h.carried.led;
  };
  fresh = h.fresh;
  full = h.full;
  unused = h.unused;
  recorded = same-recorded g w (down_taken w c x) refl refl refl refl h.recorded;
}

pub up-taken-facts : (g : Givens) (w : World) (c : ℕ) (x : Next) → Facts g w → Facts g (up_taken w c x)
unfolding up_taken
up-taken-facts g w c x h = record {
  carried = record {
    downs = h.carried.downs;
    ups = h.carried.ups;
    replicas = h.carried.replicas;
    breaks = h.carried.breaks;
    lowers = h.carried.lowers;
    writers = h.carried.writers;
    entries = h.carried.entries;
    primaries = h.carried.primaries;
    led = h.carried.led;
  };
  fresh = h.fresh;
  full = h.full;
  unused = h.unused;
  recorded = same-recorded g w (up_taken w c x) refl refl refl refl h.recorded;
}

-- what stands next was sent
pub next-sent : (sent : List Message) (k : Marks) (m : Message) → next_on sent k ≡ Some (message m) → slice_get sent k.taken ≡ Some m
next-sent sent k m e = go k.over (ends_at k.end k.taken) e
  where
    said : (o : Option Message) → option_map message o ≡ Some (message m) → o ≡ Some m
    said None q = absurd (none-some (message m) q)
    said (Some n) q = ap (λ (y : Message). Some y) (same n (same_Some (message n) (message m) q))
      where
        same : (n : Message) → message n ≡ message m → n ≡ m
        same n r = cc

    go : (a b : Bool) → (if a then None else (if b then Some the_end else option_map message (slice_get sent k.taken))) ≡ Some (message m) → slice_get sent k.taken ≡ Some m
    go true b q = absurd (none-some (message m) q)
    go false true q = absurd (apart (same_Some the_end (message m) q))
      where
        apart : the_end ≡ message m → ⊥
        apart r = cc
    go false false q = said (slice_get sent k.taken) q

down-says : (g : Givens) (w : World) (c : ℕ) (x : Next) → Facts g w → next_down w c ≡ Some x → NextSays g w.past c x
down-says g w c (message m) h e = h.carried.downs c (w.down_marks c).taken m (next-sent (w.downs c) (w.down_marks c) m e)
down-says g w c the_end h e = tt

up-says : (g : Givens) (w : World) (c : ℕ) (x : Next) → Facts g w → next_up w c ≡ Some x → HeardSays g w.past c x
up-says g w c (message m) h e = h.carried.ups c (w.up_marks c).taken m (next-sent (w.ups c) (w.up_marks c) m e)
up-says g w c the_end h e = tt

-- DELIVERIES

pub changed-carried : (g : Givens) (w : World) (o : Option Change) → IfSome o (Keeps g w) → IfSome (changed w o) (Carried g)
changed-carried g w None k = tt
changed-carried g w (Some x) k = k

pub down-as-carried : (g : Givens) (w : World) (c : ℕ) (answered fails : Bool) (o : Option Next) → Facts g w → next_down w c ≡ o → IfSome (down_as w c answered fails o) (Carried g)
unfolding down_taken
down-as-carried g w c answered fails None h e = tt
down-as-carried g w c answered fails (Some x) h e =
    let v = down_taken w c x in
    changed-carried g v (lower_down (w.lowers c) v c x answered fails)
    (lower-down-keeps (w.lowers c) g v c x answered fails (down-taken-facts g w c x h) (h.carried.lowers c) (down-says g w c x h e))

down-carried : (g : Givens) (w : World) (c : ℕ) (answered fails : Bool) → Facts g w → IfSome (down_event w c answered fails) (Carried g)
down-carried g w c answered fails h = when-each (Carried g) (is_served w c) _ (λ _. down-as-carried g w c answered fails (next_down w c) h refl)

ready-carried : (g : Givens) (w : World) (c : ℕ) (fails : Bool) → Facts g w → IfSome (ready_event w c fails) (Carried g)
ready-carried g w c fails h =
    when-each (Carried g) (is_served w c) _ (λ _. changed-carried g w (lower_ready (w.lowers c) w c fails) (lower-ready-keeps (w.lowers c) g w c fails h (h.carried.lowers c)))

unless-keeps : (g : Givens) (w : World) (fails : Bool) (o : Option Change) → IfSome o (Keeps g w) → IfSome (unless_fails fails o) (Keeps g w)
unless-keeps g w true o k = tt
unless-keeps g w false o k = k

upper-keeps : (u : Upper) (g : Givens) (w : World) (c : ℕ) (x : Next) (fails : Bool) → Facts g w → c < w.next_conn → (w.dialled c).upper ≡ u → HeardSays g w.past c x → IfSome (upper_up u w c x fails) (Keeps g w)
upper-keeps (by_writer b) g w c x fails h lt e s = unless-keeps g w fails (writer_up w b c x) (writer-up-keeps g w b c x h)
upper-keeps (by_member d) g w c x fails h lt e s = mirror-up-keeps (w.lowers d) g w d x fails h (h.carried.lowers d)
upper-keeps (by_reader i) g w c x fails h lt e s = unless-keeps g w fails (reader_up w i c x) (reader-up-keeps g w i c x h)
upper-keeps (by_primary i p) g w c x fails h lt e s = unless-keeps g w fails (primary_up w i p c x) (primary-up-keeps g w i p c x h lt e s)

pub up-as-carried : (g : Givens) (w : World) (c : ℕ) (fails : Bool) (o : Option Next) → Facts g w → c < w.next_conn → next_up w c ≡ o → IfSome (up_as w c fails o) (Carried g)
unfolding up_taken
up-as-carried g w c fails None h lt e = tt
up-as-carried g w c fails (Some x) h lt e =
    let v = up_taken w c x in
    changed-carried g v (upper_up (w.dialled c).upper v c x fails) (upper-keeps (w.dialled c).upper g v c x fails (up-taken-facts g w c x h) lt refl (up-says g w c x h e))

up-carried : (g : Givens) (w : World) (c : ℕ) (fails : Bool) → Facts g w → IfSome (up_event w c fails) (Carried g)
up-carried g w c fails h = when-each (Carried g) (nat_lt c w.next_conn) _ (λ e. up-as-carried g w c fails (next_up w c) h (lt-true c w.next_conn e) refl)
  where
    lt-true : (a b : ℕ) → nat_lt a b ≡ true → a < b
    lt-true a b e = grind (arith, nat_tests, e)

fault-carried : (g : Givens) (w : World) (d : Delivery) → Facts g w → IfSome (fault_event w d) (Carried g)
fault-carried g w (delivery.Down c) h = down-carried g w c.0 false true h
fault-carried g w (delivery.Ready c) h = ready-carried g w c.0 true h
fault-carried g w (delivery.Up c) h = up-carried g w c.0 true h

pub own-keeps : (g : Givens) (w : World) (s : OwnStep) → Facts g w → IfSome (own_change w s) (Keeps g w)
own-keeps g w (own.Writer b takes answered) h = own-writer-keeps g w b.0 takes answered h
own-keeps g w (own.Reader i n r answered) h = own-reader-keeps g w i n.0 r answered h
own-keeps g w (own.Recover i n b members answers) h = own-recover-keeps g w i n.0 b members answers h
own-keeps g w (own.Primary i) h = own-primary-keeps g w i h

-- ALL EVENTS

where-carried : (g : Givens) (test : Bool) (v : World) → Carried g v → IfSome (where_so test v) (Carried g)
where-carried g true v h = h
where-carried g false v h = tt

stop-carried : (g : Givens) (w : World) (n : ℕ) → Carried g w → Carried g (stop w n)
stop-carried g w n h = record { downs = h.downs; ups = h.ups; replicas = h.replicas; breaks = h.breaks; lowers = h.lowers; writers = h.writers; entries = h.entries; primaries = h.primaries; led = h.led }

lost-carried : (g : Givens) (w : World) (c : ℕ) (way : Direction) (more : ℕ) → Carried g w → Carried g (lost w c way more)
lost-carried g w c direction.Down more h = record { downs = h.downs; ups = h.ups; replicas = h.replicas; breaks = h.breaks; lowers = h.lowers; writers = h.writers; entries = h.entries; primaries = h.primaries; led = h.led }
lost-carried g w c direction.Up more h = record { downs = h.downs; ups = h.ups; replicas = h.replicas; breaks = h.breaks; lowers = h.lowers; writers = h.writers; entries = h.entries; primaries = h.primaries; led = h.led }

pub office-carried : (g : Givens) (w : World) (o : Option Change) → IfSome o (Carries g w) → IfSome (changed w o) (Carried (given_with g (stamped_in o)))
office-carried g w None k = tt
office-carried g w (Some x) k = k

outcome-carried : (g : Givens) (w : World) (e : Event) → Facts g w → Agreed w → IfSome (outcome w e) (Carried (given_by g w e))
unfolding outcome
outcome-carried g w (event.Own s) h a = changed-carried g w (own_change w s) (own-keeps g w s h)
outcome-carried g w (event.Office c) h a = office-carried g w (office_event w c) (office-event-keeps g w c h a)
outcome-carried g w (event.Down c answered) h a = down-carried g w c.0 answered false h
outcome-carried g w (event.Ready c) h a = ready-carried g w c.0 false h
outcome-carried g w (event.Up c) h a = up-carried g w c.0 false h
outcome-carried g w (event.Lost c way more) h a = where-carried g (nat_lt c.0 w.next_conn) (lost w c.0 way more) (lost-carried g w c.0 way more h.carried)
outcome-carried g w (event.Fault d) h a = fault-carried g w d h
outcome-carried g w (event.Stop n) h a = where-carried g (w.running n.0) (stop w n.0) (stop-carried g w n.0 h.carried)
outcome-carried g w (event.Restart n list) h a =
    where-carried g (nat_lt n.0 w.nodes && not (w.running n.0)) (restart w n.0 list) (restart-carried g w n.0 list h.carried)

-- an event that isn't enabled gives no stamp
idle-office : (g : Givens) (w : World) (o : Option Change) → changed w o ≡ None → Carried g w → Carried (given_with g (stamped_in o)) w
idle-office g w None e h = h
idle-office g w (Some k) e h = absurd (none-some (apply w k) (sym e))

idle-carried : (g : Givens) (w : World) (e : Event) → outcome w e ≡ None → Carried g w → Carried (given_by g w e) w
unfolding outcome
idle-carried g w (event.Own s) i h = h
idle-carried g w (event.Office c) i h = idle-office g w (office_event w c) i h
idle-carried g w (event.Down c answered) i h = h
idle-carried g w (event.Ready c) i h = h
idle-carried g w (event.Up c) i h = h
idle-carried g w (event.Lost c way more) i h = h
idle-carried g w (event.Fault d) i h = h
idle-carried g w (event.Stop n) i h = h
idle-carried g w (event.Restart n list) i h = h

after-carried : (g : Givens) (w : World) (e : Event) (o : Option World) → outcome w e ≡ o → Carried g w → IfSome o (Carried (given_by g w e)) → Carried (given_by g w e) (after_event w e o)
after-carried g w e None i h k = idle-carried g w e i h
after-carried g w e (Some v) i h k = record { downs = k.downs; ups = k.ups; replicas = k.replicas; breaks = k.breaks; lowers = k.lowers; writers = k.writers; entries = k.entries; primaries = k.primaries; led = k.led }

pub happens-carried : (g : Givens) (w : World) (e : Event) → Facts g w → Agreed w → Carried (given_by g w e) (happens w e)
unfolding happens
happens-carried g w e h a = after-carried g w e (outcome w e) refl h.carried (outcome-carried g w e h a)

-- what is known of a world that events lead to
pub reached-facts : (g : Givens) (w : World) → Reached w → Recorded g w → Carried g w → Facts g w
reached-facts g w r i h = record {
  carried = h;
  fresh = subst (λ (v : World). (c : ℕ) → v.next_conn ≤ c → v.downs c ≡ []) r.is (λ c le. (only-dialled-carry r.nodes r.events c le).downs);
  full = subst (λ (v : World). (n b : ℕ) → IsFull (v.replicas n b)) r.is (λ n b. ((all-filled r.nodes r.events).replicas n b).full);
  unused = subst (λ (v : World). (s : ℕ) → v.office.next.0 ≤ s → v.written s ≡ []) r.is (λ s le. unused-are-empty r.nodes r.events s le);
  recorded = i;
}

run-carried : (g : Givens) (w : World) (events : List Event) → Reached w → Recorded g w → Carried g w → Carried (given_in g w events) (run w events)
run-carried g w [] r i h = h
run-carried g w (e ∷ events) r i h =
    let a = reached-agreed w r in
    run-carried (given_by g w e) (happens w e) events (reached-next w e r) (happens-recorded g w e i a) (happens-carried g w e (reached-facts g w r i h) a)

pub start-carried : (nodes : ℕ) → Carried none_given (start nodes)
unfolding start
start-carried nodes = record {
  downs = λ c i m e. absurd (none-some m e);
  ups = λ c i m e. absurd (none-some m e);
  replicas = λ n b. record { info = tt; stream = tt };
  breaks = λ n b. tt;
  lowers = λ c. tt;
  writers = λ b. record {
    conn = tt;
    linked = λ c e. absurd (none-some c e);
    sound = fresh_sound (record { 0 = b }) default_rule (record { least = omega arith; greatest = omega arith });
    queue = refl;
    own = [];
    are = λ q. absurd (none-some _ q);
    streams = tt;
    asks = tt;
  };
  entries = λ b. tt;
  primaries = λ i. tt;
  led = λ c i place lt u. absurd (omega (arith, lt));
}

pub at-start : (nodes : ℕ) → Reached (start nodes)
at-start nodes = record { nodes = nodes; events = []; is = refl }

pub all-carried : (nodes : ℕ) (events : List Event) → Carried (given_in none_given (start nodes) events) (run (start nodes) events)
all-carried nodes events = run-carried none_given (start nodes) events (at-start nodes) (start-recorded nodes) (start-carried nodes)
