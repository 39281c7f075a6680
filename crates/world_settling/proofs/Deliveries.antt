-- Each delivery lowers what is to be delivered.
use Rattle.std.proofs.Common.{◌≡◌, ℕ, ◌<◌, ◌≤◌, ◌+◌, Bool, true, false, List, [], ◌∷◌, Option, Some, None, IfSome, option_map, ◌++◌, refl, sym, subst, arith}
use Rattle.std.specs.Prelude.{is_some, nat_lt, ◌&&◌}
use Rattle.std.proofs.lemmas.Bool.Decides.{nat_tests}
use Rattle.std.proofs.lemmas.Bool.{false≢true}
use Rattle.hd_base.specs.SumRules.{Rule, IsChunkSize}
use Rattle.op_headers.specs.declared.ops.Op.TheVariants as op
use Rattle.replica_core.specs.Views.{rule_in}
use Rattle.world.specs.declared.events.Delivery.{Delivery}
use Rattle.world.specs.declared.events.Delivery.TheVariants as delivery
use Rattle.world.specs.declared.events.Event.{Event}
use Rattle.world.specs.declared.events.Event.TheVariants as event
use Rattle.world.specs.Parts.{Message, request, packet, ack, response, read_status, recovery_answer, Upper, by_writer, by_member, by_reader, by_primary, FullMember, Lower, idle, writes, serves, recovers, ended_below}
use Rattle.world.specs.Worlds.{World, Change, start}
use Rattle.world.specs.Connections.{Next, message, the_end, next_down, next_up, down_taken, up_taken, is_alive, is_served}
use Rattle.world.specs.Nodes.{node_of, closing, unless_failing, first_message, next_recovery, lower_down, lower_ready, mirror_up}
use Rattle.world.specs.Clients.{writer_up, reader_up}
use Rattle.world.specs.Primaries.{primary_up}
use Rattle.world.specs.Events.{changed, down_as, down_event, ready_event, unless_fails, upper_up, up_as, up_event, fault_event, outcome, after_event, is_enabled, happens, run}
use Rattle.replica_core.specs.declared.info.ReplicaInfo.{ReplicaInfo}
use Rattle.world_texts.specs.WorldLaws.Placing.{IsUpper}
use Rattle.world_texts.proofs.WorldLaws.PlacedLaws.{all-placed}
use Rattle.world_texts.proofs.WorldLaws.AllCarried.{all-carried}
use Rattle.world_texts.proofs.WorldLaws.FilledLaws.{all-filled}
use Rattle.world_texts.proofs.WorldLaws.RunLaws.{runs-end}
use Rattle.world_settling.specs.Traffic.{hops, traffic, is_delivery}
use Rattle.world_settling.proofs.Frame.{HasFirst}
use Rattle.world_settling.proofs.Outer.{when-each, named-keeps}
use Rattle.world_settling.proofs.Taking.{up_paid, down_paid, up-taken-falls, down-taken-falls}
use Rattle.world_settling.proofs.Begun.{AllBegun, all-begun}
use Rattle.world_settling.proofs.Clients.{Falls, writer-falls, reader-falls, primary-falls}
use Rattle.world_settling.proofs.Members.{Stands}
use Rattle.world_settling.proofs.MemberEnds.{ready-falls, up-falls}
use Rattle.world_settling.proofs.Receiving.{down-pays, member-down-falls}
use Rattle.world_settling.proofs.Requests.{IsNew, write-falls}
use Rattle.world_settling.proofs.ReadRequests.{read-falls}
use Rattle.world_settling.proofs.Chains.{Linked, LinkedAt, AllLinked}
use Rattle.world_settling.proofs.AllChained.{Ordered, happens-linked, start-linked}
use Rattle.world_settling.proofs.Nodes.{serve-falls, closing-falls, recovery-request-falls}

-- WHAT IS USED OF THE WORLD

-- a member has its connection's number; its mirror was dialled, and has fewer members below
pub record IsMember (w : World) (c : ℕ) (m : FullMember) : Type 0 where
  pub conn : m.state.conn.0 ≡ c
  pub dialled : IfSome m.mirror (λ d. HasFirst (w.downs d))
  pub fewer : IfSome m.mirror (λ d. hops w d + 1 ≤ hops w c)

pub record Chained (w : World) : Type 0 where
  pub first : (c : ℕ) → c < w.next_conn → HasFirst (w.downs c)
  pub new : IsNew w
  pub rules : (n b : ℕ) → IfSome (rule_in (w.replicas n b).known) (λ (r : Rule). IsChunkSize r.chunk)
  pub uppers : (c d : ℕ) → c < w.next_conn → (w.dialled c).upper ≡ by_member d → d < w.next_conn
  pub members : (c : ℕ) (m : FullMember) → w.lowers c ≡ writes m → IsMember w c m

taken-up : (w : World) (c : ℕ) (x : Next) → Chained w → Chained (up_taken w c x)
unfolding up_taken
taken-up w c x h = record {
  first = h.first;
  new = record { downs = h.new.downs; ups = h.new.ups; lower = h.new.lower };
  rules = h.rules;
  uppers = h.uppers;
  members = λ d m e. let k = h.members d m e in record { conn = k.conn; dialled = k.dialled; fewer = k.fewer };
}

taken-down : (w : World) (c : ℕ) (x : Next) → Chained w → Chained (down_taken w c x)
unfolding down_taken
taken-down w c x h = record {
  first = h.first;
  new = record { downs = h.new.downs; ups = h.new.ups; lower = h.new.lower };
  rules = h.rules;
  uppers = h.uppers;
  members = λ d m e. let k = h.members d m e in record { conn = k.conn; dialled = k.dialled; fewer = k.fewer };
}

stands : (w : World) (c : ℕ) (m : FullMember) → Chained w → c < w.next_conn → w.lowers c ≡ writes m → Stands w c m
stands w c m h lt e = record { known = lt; lower = e; mirror = (h.members c m e).dialled }

-- UP

unless-falls : (w : World) (fails : Bool) (k : Option Change) (paid : ℕ) → IfSome k (Falls w paid) → IfSome (unless_fails fails k) (Falls w paid)
unless-falls w true k paid h = tt
unless-falls w false k paid h = h

mirror-as : (l : Lower) (w : World) (d : ℕ) (x : Next) (fails : Bool) → Chained w → d < w.next_conn → w.lowers d ≡ l → IfSome (mirror_up l w d x fails) (Falls w (up_paid x))
mirror-as (writes m) w d x fails h lt e =
    when-each (Falls w (up_paid x)) (is_alive w (w.dialled d).to) _ (λ a. up-falls w d m x fails (stands w d m h lt e) (h.members d m e).conn)
mirror-as idle w d x fails h lt e = tt
mirror-as (serves b s) w d x fails h lt e = tt
mirror-as recovers w d x fails h lt e = tt
mirror-as ended_below w d x fails h lt e = tt

upper-falls : (u : Upper) (w : World) (c : ℕ) (x : Next) (fails : Bool) → Chained w → c < w.next_conn → (w.dialled c).upper ≡ u → IfSome (upper_up u w c x fails) (Falls w (up_paid x))
upper-falls (by_writer b) w c x fails h lt e = unless-falls w fails (writer_up w b c x) (up_paid x) (writer-falls w b c x)
upper-falls (by_member d) w c x fails h lt e = mirror-as (w.lowers d) w d x fails h (h.uppers c d lt e) refl
upper-falls (by_reader i) w c x fails h lt e = unless-falls w fails (reader_up w i c x) (up_paid x) (reader-falls w i c x (h.first c lt))
upper-falls (by_primary i place) w c x fails h lt e = unless-falls w fails (primary_up w i place c x) (up_paid x) (primary-falls w i place c x)

changed-lower : (w v : World) (o : Option Change) (paid : ℕ) → traffic v + paid ≤ traffic w → IfSome o (Falls v paid) → IfSome (changed v o) (λ u. traffic u < traffic w)
changed-lower w v None paid l h = tt
changed-lower w v (Some k) paid l h = omega (arith, l, h.is)

below : (a b : ℕ) → nat_lt a b ≡ true → a < b
below a b e = grind (arith, nat_tests, e)

upper-taken : (w : World) (c : ℕ) (x : Next) (fails : Bool) → Chained w → c < w.next_conn → IfSome (upper_up (w.dialled c).upper (up_taken w c x) c x fails) (Falls (up_taken w c x) (up_paid x))
unfolding up_taken
upper-taken w c x fails h lt = upper-falls (w.dialled c).upper (up_taken w c x) c x fails (taken-up w c x h) lt refl

up-lower : (w : World) (c : ℕ) (fails : Bool) → Chained w → IfSome (up_event w c fails) (λ v. traffic v < traffic w)
up-lower w c fails h = when-each (λ v. traffic v < traffic w) (nat_lt c w.next_conn) _ (λ e. at (below c w.next_conn e) (next_up w c) refl)
  where
    at : c < w.next_conn → (o : Option Next) → next_up w c ≡ o → IfSome (up_as w c fails o) (λ v. traffic v < traffic w)
    at lt None e = tt
    at lt (Some x) e =
        changed-lower w (up_taken w c x) (upper_up (w.dialled c).upper (up_taken w c x) c x fails) (up_paid x) (up-taken-falls w c x lt e) (upper-taken w c x fails h lt)

-- READY

ready-as : (l : Lower) (w : World) (c : ℕ) (fails : Bool) → Chained w → c < w.next_conn → w.lowers c ≡ l → IfSome (lower_ready l w c fails) (Falls w 0)
ready-as (writes m) w c fails h lt e = ready-falls w c m fails (stands w c m h lt e) (h.members c m e).conn
ready-as (serves b s) w c fails h lt e = serve-falls w c b s fails lt e
ready-as idle w c fails h lt e = tt
ready-as recovers w c fails h lt e = tt
ready-as ended_below w c fails h lt e = tt

served-below : (w : World) (c : ℕ) → is_served w c ≡ true → c < w.next_conn
served-below w c e = below c w.next_conn (left (nat_lt c w.next_conn) (is_alive w (w.dialled c).to) e)
  where
    left : (a b : Bool) → (a && b) ≡ true → a ≡ true
    left true b q = refl
    left false b q = absurd (false≢true q)

ready-lower : (w : World) (c : ℕ) (fails : Bool) → Chained w → IfSome (ready_event w c fails) (λ v. traffic v < traffic w)
ready-lower w c fails h =
    when-each (λ v. traffic v < traffic w) (is_served w c) _
    (λ e. changed-lower w w (lower_ready (w.lowers c) w c fails) 0 (omega arith) (ready-as (w.lowers c) w c fails h (served-below w c e) refl))

-- DOWN

closes-unless : (w : World) (c paid : ℕ) (fails : Bool) → c < w.next_conn → 1 ≤ paid → IfSome (unless_failing fails (closing w c)) (Falls w paid)
closes-unless w c paid true lt p = tt
closes-unless w c paid false lt p = closing-falls w c paid lt p

first-falls : (w : World) (c : ℕ) (m : Message) (answered fails : Bool) → Chained w → c < w.next_conn → IfSome (first_message w c m answered fails) (Falls w (down_paid (hops w c) (message m)))
first-falls w c (request (op.Write f)) answered fails h lt = write-falls w c f answered fails h.new lt
first-falls w c (request (op.Read r)) answered fails h lt = read-falls w c r fails lt (h.rules (node_of w c) r.block.block.0)
first-falls w c (request (op.Recovery r)) answered fails h lt = recovery-request-falls w c 3 r fails lt (omega arith)
first-falls w c (request (op.Transfer r)) answered fails h lt = closes-unless w c 3 fails lt (omega arith)
first-falls w c (request (op.Checksum r)) answered fails h lt = closes-unless w c 3 fails lt (omega arith)
first-falls w c (packet p) answered fails h lt = closes-unless w c (down_paid (hops w c) (message (packet p))) fails lt (down-pays w c (message (packet p)))
first-falls w c (ack a) answered fails h lt = closes-unless w c 1 fails lt (omega arith)
first-falls w c (response a) answered fails h lt = closes-unless w c 1 fails lt (omega arith)
first-falls w c (read_status a) answered fails h lt = closes-unless w c 1 fails lt (omega arith)
first-falls w c (recovery_answer a) answered fails h lt = closes-unless w c 1 fails lt (omega arith)

next-falls : (w : World) (c : ℕ) (x : Next) (fails : Bool) → c < w.next_conn → IfSome (next_recovery w c x fails) (Falls w (down_paid (hops w c) x))
next-falls w c (message (request (op.Recovery r))) fails lt = recovery-request-falls w c 3 r fails lt (omega arith)
next-falls w c (message (request (op.Write f))) fails lt = closes-unless w c _ fails lt (down-pays w c (message (request (op.Write f))))
next-falls w c (message (request (op.Read r))) fails lt = closes-unless w c _ fails lt (down-pays w c (message (request (op.Read r))))
next-falls w c (message (request (op.Transfer r))) fails lt = closes-unless w c 3 fails lt (omega arith)
next-falls w c (message (request (op.Checksum r))) fails lt = closes-unless w c 3 fails lt (omega arith)
next-falls w c (message (packet p)) fails lt = closes-unless w c _ fails lt (down-pays w c (message (packet p)))
next-falls w c (message (ack a)) fails lt = closes-unless w c 1 fails lt (omega arith)
next-falls w c (message (response a)) fails lt = closes-unless w c 1 fails lt (omega arith)
next-falls w c (message (read_status a)) fails lt = closes-unless w c 1 fails lt (omega arith)
next-falls w c (message (recovery_answer a)) fails lt = closes-unless w c 1 fails lt (omega arith)
next-falls w c the_end fails lt = closes-unless w c 1 fails lt (omega arith)

lower-falls : (l : Lower) (w : World) (c : ℕ) (x : Next) (answered fails : Bool) → Chained w → c < w.next_conn → w.lowers c ≡ l → IfSome (lower_down l w c x answered fails) (Falls w (down_paid (hops w c) x))
lower-falls idle w c (message m) answered fails h lt e = first-falls w c m answered fails h lt
lower-falls idle w c the_end answered fails h lt e = closes-unless w c 1 fails lt (omega arith)
lower-falls (writes m) w c x answered fails h lt e = member-down-falls w c m x fails (stands w c m h lt e) (h.members c m e).conn (h.members c m e).fewer
lower-falls (serves b s) w c x answered fails h lt e = closes-unless w c (down_paid (hops w c) x) fails lt (down-pays w c x)
lower-falls recovers w c x answered fails h lt e = next-falls w c x fails lt
lower-falls ended_below w c x answered fails h lt e = tt

lower-taken : (w : World) (c : ℕ) (x : Next) (answered fails : Bool) → Chained w → c < w.next_conn
    → IfSome (lower_down (w.lowers c) (down_taken w c x) c x answered fails) (Falls (down_taken w c x) (down_paid (hops w c) x))
unfolding down_taken
lower-taken w c x answered fails h lt = lower-falls (w.lowers c) (down_taken w c x) c x answered fails (taken-down w c x h) lt refl

down-lower : (w : World) (c : ℕ) (answered fails : Bool) → Chained w → IfSome (down_event w c answered fails) (λ v. traffic v < traffic w)
down-lower w c answered fails h = when-each (λ v. traffic v < traffic w) (is_served w c) _ (λ e. at (served-below w c e) (next_down w c) refl)
  where
    at : c < w.next_conn → (o : Option Next) → next_down w c ≡ o → IfSome (down_as w c answered fails o) (λ v. traffic v < traffic w)
    at lt None e = tt
    at lt (Some x) e =
        changed-lower w (down_taken w c x) (lower_down (w.lowers c) (down_taken w c x) c x answered fails) (down_paid (hops w c) x) (down-taken-falls w c x lt e) (lower-taken w c x answered fails h lt)

-- EVENTS

fault-lower : (w : World) (d : Delivery) → Chained w → IfSome (fault_event w d) (λ v. traffic v < traffic w)
fault-lower w (delivery.Down c) h = down-lower w c.0 false true h
fault-lower w (delivery.Ready c) h = ready-lower w c.0 true h
fault-lower w (delivery.Up c) h = up-lower w c.0 true h

outcome-lower : (w : World) (e : Event) → Chained w → is_delivery e ≡ true → IfSome (outcome w e) (λ v. traffic v < traffic w)
unfolding outcome
outcome-lower w (event.Down c answered) h d = down-lower w c.0 answered false h
outcome-lower w (event.Ready c) h d = ready-lower w c.0 false h
outcome-lower w (event.Up c) h d = up-lower w c.0 false h
outcome-lower w (event.Fault x) h d = fault-lower w x h
outcome-lower w (event.Own s) h d = absurd (false≢true d)
outcome-lower w (event.Office c) h d = absurd (false≢true d)
outcome-lower w (event.Lost c way more) h d = absurd (false≢true d)
outcome-lower w (event.Stop n) h d = absurd (false≢true d)
outcome-lower w (event.Restart n list) h d = absurd (false≢true d)

after-lower : (w : World) (e : Event) (o : Option World) → IfSome o (λ v. traffic v < traffic w) → is_some o ≡ true → traffic (after_event w e o) < traffic w
after-lower w e None h s = absurd (false≢true s)
after-lower w e (Some v) h s = omega (arith, named-keeps v e, h)

happens-lower : (w : World) (e : Event) → Chained w → is_delivery e ≡ true → is_enabled w e ≡ true → traffic (happens w e) < traffic w
unfolding happens
happens-lower w e h d s = after-lower w e (outcome w e) (outcome-lower w e h d) s

-- ALL WORLDS

ordered : (nodes : ℕ) (events : List Event) → Ordered (run (start nodes) events)
ordered nodes events =
    let p = (all-placed nodes events).undialled (run (start nodes) events).next_conn (omega arith) in
    record {
      begun = all-begun nodes events;
      new = record { downs = p.downs; ups = p.ups; lower = p.lower };
      first = λ c i f e. ((all-carried nodes events).downs c i (request (op.Write f)) e).first;
    }

linked-from : (nodes : ℕ) (before events : List Event) → AllLinked (run (start nodes) before) → AllLinked (run (run (start nodes) before) events)
linked-from nodes before [] h = h
linked-from nodes before (e ∷ events) h =
    let on = runs-end (start nodes) before e in
    let next : AllLinked (run (start nodes) (before ++ e ∷ [])) =
    subst (λ (v : World). AllLinked v) (sym on) (happens-linked (run (start nodes) before) e (ordered nodes before) h) in
    subst (λ (v : World). AllLinked (run v events)) on (linked-from nodes (before ++ e ∷ []) events next)

all-linked : (nodes : ℕ) (events : List Event) → AllLinked (run (start nodes) events)
all-linked nodes events = linked-from nodes [] events (start-linked nodes)

member-of : (w : World) (c : ℕ) (m : FullMember) → AllBegun w → Linked w c m → IsMember w c m
member-of w c m b h = record { conn = h.conn; dialled = at m.mirror h.known; fewer = h.fewer }
  where
    at : (o : Option ℕ) → IfSome o (λ d. d < w.next_conn) → IfSome o (λ d. HasFirst (w.downs d))
    at None l = tt
    at (Some d) l = b.first d l

rule-of : (o : Option ReplicaInfo) → IfSome o (λ (h : ReplicaInfo). IsChunkSize h.sums.chunk) → IfSome (option_map (λ (h : ReplicaInfo). h.sums) o) (λ (r : Rule). IsChunkSize r.chunk)
rule-of None h = tt
rule-of (Some x) h = h

all-chained : (nodes : ℕ) (events : List Event) → Chained (run (start nodes) events)
all-chained nodes events =
    let w : World = run (start nodes) events in
    let o = ordered nodes events in
    record {
      first = o.begun.first;
      new = o.new;
      rules = λ n b. rule-of (w.replicas n b).known.info ((all-filled nodes events).replicas n b).full.rule;
      uppers = λ c d lt e. subst (λ (u : Upper). IsUpper w.next_conn u) e ((all-placed nodes events).dialled c lt).upper;
      members = λ c m e. member-of w c m o.begun (subst (λ (l : Lower). LinkedAt w c l) e ((all-linked nodes events).lowers c));
    }

pub deliveries-lower : (nodes : ℕ) (events : List Event) (e : Event) → is_delivery e ≡ true → is_enabled (run (start nodes) events) e ≡ true
    → traffic (happens (run (start nodes) events) e) < traffic (run (start nodes) events)
deliveries-lower nodes events e d h = happens-lower (run (start nodes) events) e (all-chained nodes events) d h
