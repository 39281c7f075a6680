-- Members stand in chains after every list of events.
use Rattle.std.proofs.Common.{◌≡◌, ℕ, ◌<◌, Bool, true, false, List, slice_get, Option, Some, None, IfSome, Result, Ok, Err, refl, ap, ◌∙◌, arith}
use Rattle.std.specs.Prelude.{◌&&◌, nat_lt, not}
use Rattle.std.proofs.lemmas.Bool.Decides.{nat_tests}
use Rattle.std.proofs.lemmas.Bool.{false≢true}
use Rattle.op_headers.specs.declared.ops.Op.TheVariants as op
use Rattle.op_headers.specs.declared.ops.ReadOp.{ReadOp}
use Rattle.op_headers.specs.declared.ops.RecoveryOp.{RecoveryOp}
use Rattle.op_headers.specs.Values.{WriteFields}
use Rattle.replica_core.specs.declared.events.Event.{Event as CoreEvent}
use Rattle.replica_model.specs.Rows.{FullReplica}
use Rattle.request_refusals.specs.declared.refusals.RequestRefusal.{RequestRefusal}
use Rattle.world.specs.ReadCore.Servings.{ServingState, next_call, read_at, read_event, piece_at}
use Rattle.packet_codec.specs.declared.packets.Packet.{Packet}
use Rattle.world.specs.RecoveryCore.RecoveryReply.{RecoveryReply}
use Rattle.world.specs.RecoveryCore.Members.{recovery_event}
use Rattle.world.specs.declared.events.Delivery.{Delivery}
use Rattle.world.specs.declared.events.Delivery.TheVariants as delivery
use Rattle.world.specs.declared.events.Direction.{Direction}
use Rattle.world.specs.declared.events.Direction.TheVariants as direction
use Rattle.world.specs.declared.events.Event.{Event}
use Rattle.world.specs.declared.events.Event.TheVariants as event
use Rattle.world.specs.declared.events.FoundReplica.{FoundReplica}
use Rattle.world.specs.declared.events.OwnStep.{OwnStep}
use Rattle.world.specs.declared.events.OwnStep.TheVariants as own
use Rattle.world.specs.Parts.{Message, Marks, Break, Answered, request, packet, ack, response, read_status, recovery_answer, Upper, by_writer, by_member, by_reader, by_primary, Lower, idle, writes, serves, recovers, ended_below}
use Rattle.world.specs.Worlds.{World, Change, start}
use Rattle.world.specs.Connections.{Next, message, the_end, next_down, next_up, down_taken, up_taken, is_alive, is_served}
use Rattle.world.specs.Nodes.{replica_at, closing, unless_failing, read_change, failing_read, read_request, piece_as, serve_change, failing_recovery, recovery_request, first_message, next_recovery, lower_down, lower_ready, mirror_up}
use Rattle.world.specs.Clients.{writer_up, reader_up}
use Rattle.world.specs.Primaries.{primary_up, office_event}
use Rattle.world.specs.Restarts.{restart}
use Rattle.world.specs.Events.{changed, own_change, down_as, down_event, ready_event, unless_fails, upper_up, up_as, up_event, fault_event, lost, stop, where_so, outcome, after_event, happens}
use Rattle.world_settling.proofs.Ways.{next-message}
use Rattle.world_settling.proofs.Outer.{when-each}
use Rattle.world_settling.proofs.Begun.{AllBegun}
use Rattle.world_settling.proofs.Requests.{IsNew}
use Rattle.world_settling.proofs.LowerUntouching.{Untouched, own-writer-untouched, own-reader-untouched, own-recover-untouched, own-primary-untouched, office-untouched, writer-up-untouched, reader-up-untouched, primary-up-untouched}
use Rattle.world_settling.proofs.Chains.{LinkedAt, AllLinked, apply-linked, untouched-linked}
use Rattle.world_settling.proofs.ChainLaws.{Keeps, down-keeps, up-keeps, ready-keeps}
use Rattle.world_settling.proofs.ChainSetups.{Asks, write-keeps}

-- WHAT IS USED

-- a write request stands first on its connection
pub record Ordered (w : World) : Type 0 where
  pub begun : AllBegun w
  pub new : IsNew w
  pub first : (c i : ℕ) (f : WriteFields) → slice_get (w.downs c) i ≡ Some (request (op.Write f)) → slice_get (w.downs c) 0 ≡ Some (request (op.Write f))

changed-linked : (w : World) (o : Option Change) → IfSome o (Keeps w) → IfSome (changed w o) AllLinked
changed-linked w None h = tt
changed-linked w (Some k) h = h.linked

untouched-keeps : (w : World) (o : Option Change) → AllBegun w → AllLinked w → IfSome o (Untouched w) → IfSome o (Keeps w)
untouched-keeps w None b h u = tt
untouched-keeps w (Some k) b h u = record { linked = untouched-linked w k b h u }

closes : (w : World) (c : ℕ) (fails : Bool) → AllBegun w → AllLinked w → IfSome (unless_failing fails (closing w c)) (Keeps w)
closes w c true b h = tt
closes w c false b h = record { linked = apply-linked w (closing w c) b h tt }

-- MARKS, LIVES AND REPLICAS

other-linked : (w : World) (lives : ℕ → ℕ) (running : ℕ → Bool) (replicas : ℕ → ℕ → FullReplica) (breaks : ℕ → ℕ → Option Break) (downs ups : ℕ → Marks) (last : Option Event) (answer : Option Answered)
    → AllLinked w → AllLinked (record w { lives = lives; running = running; replicas = replicas; breaks = breaks; down_marks = downs; up_marks = ups; last = last; last_answer = answer })
other-linked w lives running replicas breaks downs ups last answer h = record { lowers = λ c. at c (w.lowers c) (h.lowers c) }
  where
    at : (c : ℕ) (l : Lower) → LinkedAt w c l → LinkedAt (record w { lives = lives; running = running; replicas = replicas; breaks = breaks; down_marks = downs; up_marks = ups; last = last; last_answer = answer }) c l
    at c (writes m) k = record { here = k.here; conn = k.conn; known = k.known; fewer = k.fewer }
    at c idle k = tt
    at c (serves b s) k = tt
    at c recovers k = tt
    at c ended_below k = tt

down-taken-linked : (w : World) (c : ℕ) (x : Next) → AllLinked w → AllLinked (down_taken w c x)
unfolding down_taken
down-taken-linked w c x h = other-linked w w.lives w.running w.replicas w.breaks _ w.up_marks w.last w.last_answer h

up-taken-linked : (w : World) (c : ℕ) (x : Next) → AllLinked w → AllLinked (up_taken w c x)
unfolding up_taken
up-taken-linked w c x h = other-linked w w.lives w.running w.replicas w.breaks w.down_marks _ w.last w.last_answer h

lost-linked : (w : World) (c : ℕ) (way : Direction) (more : ℕ) → AllLinked w → AllLinked (lost w c way more)
lost-linked w c direction.Down more h = other-linked w w.lives w.running w.replicas w.breaks _ w.up_marks w.last None h
lost-linked w c direction.Up more h = other-linked w w.lives w.running w.replicas w.breaks w.down_marks _ w.last None h

stop-linked : (w : World) (n : ℕ) → AllLinked w → AllLinked (stop w n)
stop-linked w n h = other-linked w w.lives _ w.replicas w.breaks _ _ w.last None h

restart-linked : (w : World) (n : ℕ) (list : List FoundReplica) → AllLinked w → AllLinked (restart w n list)
unfolding restart
restart-linked w n list h = other-linked w _ _ _ _ w.down_marks w.up_marks w.last None h

named-linked : (w : World) (e : Event) → AllLinked w → AllLinked (record w { last = Some e })
named-linked w e h = other-linked w w.lives w.running w.replicas w.breaks w.down_marks w.up_marks (Some e) w.last_answer h

-- OTHER LOWER ENDS

read-keeps : (w : World) (c b : ℕ) (s : Result ServingState RequestRefusal) → AllBegun w → AllLinked w → Keeps w (read_change w c b s)
read-keeps w c b (Ok s) g h = record { linked = apply-linked w (read_change w c b (Ok s)) g h tt }
read-keeps w c b (Err r) g h = record { linked = apply-linked w (read_change w c b (Err r)) g h tt }

failing-read-keeps : (w : World) (c b : ℕ) (o : Result CoreEvent RequestRefusal) → AllBegun w → AllLinked w → IfSome (failing_read w c b o) (Keeps w)
failing-read-keeps w c b (Err r) g h = tt
failing-read-keeps w c b (Ok e) g h = record { linked = apply-linked w _ g h tt }

read-request-keeps : (w : World) (c : ℕ) (r : ReadOp) (fails : Bool) → AllBegun w → AllLinked w → IfSome (read_request w c r fails) (Keeps w)
read-request-keeps w c r true g h = failing-read-keeps w c r.block.block.0 (read_event r) g h
read-request-keeps w c r false g h = read-keeps w c r.block.block.0 (read_at r (replica_at w c r.block.block.0)) g h

failing-recovery-keeps : (w : World) (c : ℕ) (r : RecoveryOp) (o : Result CoreEvent RecoveryReply) → AllBegun w → AllLinked w → IfSome (failing_recovery w c r o) (Keeps w)
failing-recovery-keeps w c r (Err x) g h = tt
failing-recovery-keeps w c r (Ok e) g h = record { linked = apply-linked w _ g h tt }

recovery-keeps : (w : World) (c : ℕ) (r : RecoveryOp) (fails : Bool) → AllBegun w → AllLinked w → IfSome (recovery_request w c r fails) (Keeps w)
recovery-keeps w c r true g h = failing-recovery-keeps w c r (recovery_event r) g h
recovery-keeps w c r false g h = record { linked = apply-linked w _ g h tt }

piece-keeps : (w : World) (c b : ℕ) (s : ServingState) (o : Option Packet) → AllBegun w → AllLinked w → Keeps w (piece_as w c b s o)
piece-keeps w c b s None g h = record { linked = apply-linked w (closing w c) g h tt }
piece-keeps w c b s (Some p) g h = record { linked = apply-linked w (piece_as w c b s (Some p)) g h tt }

serve-keeps : (w : World) (c b : ℕ) (s : ServingState) (o : Option CoreEvent) (fails : Bool) → AllBegun w → AllLinked w → IfSome (serve_change w c b s o fails) (Keeps w)
serve-keeps w c b s None fails g h = tt
serve-keeps w c b s (Some e) true g h = record { linked = apply-linked w _ g h tt }
serve-keeps w c b s (Some e) false g h = piece-keeps w c b (piece_at s (replica_at w c b)).serving (piece_at s (replica_at w c b)).packet g h

first-keeps : (w : World) (c : ℕ) (m : Message) (answered fails : Bool) → AllBegun w → AllLinked w → ((f : WriteFields) → m ≡ request (op.Write f) → Asks w c f) → IfSome (first_message w c m answered fails) (Keeps w)
first-keeps w c (request (op.Write f)) answered fails g h a = write-keeps w c f answered fails (a f refl)
first-keeps w c (request (op.Read r)) answered fails g h a = read-request-keeps w c r fails g h
first-keeps w c (request (op.Recovery r)) answered fails g h a = recovery-keeps w c r fails g h
first-keeps w c (request (op.Transfer r)) answered fails g h a = closes w c fails g h
first-keeps w c (request (op.Checksum r)) answered fails g h a = closes w c fails g h
first-keeps w c (packet p) answered fails g h a = closes w c fails g h
first-keeps w c (ack x) answered fails g h a = closes w c fails g h
first-keeps w c (response x) answered fails g h a = closes w c fails g h
first-keeps w c (read_status x) answered fails g h a = closes w c fails g h
first-keeps w c (recovery_answer x) answered fails g h a = closes w c fails g h

next-keeps : (w : World) (c : ℕ) (x : Next) (fails : Bool) → AllBegun w → AllLinked w → IfSome (next_recovery w c x fails) (Keeps w)
next-keeps w c (message (request (op.Recovery r))) fails g h = recovery-keeps w c r fails g h
next-keeps w c (message (request (op.Write f))) fails g h = closes w c fails g h
next-keeps w c (message (request (op.Read r))) fails g h = closes w c fails g h
next-keeps w c (message (request (op.Transfer r))) fails g h = closes w c fails g h
next-keeps w c (message (request (op.Checksum r))) fails g h = closes w c fails g h
next-keeps w c (message (packet p)) fails g h = closes w c fails g h
next-keeps w c (message (ack x)) fails g h = closes w c fails g h
next-keeps w c (message (response x)) fails g h = closes w c fails g h
next-keeps w c (message (read_status x)) fails g h = closes w c fails g h
next-keeps w c (message (recovery_answer x)) fails g h = closes w c fails g h
next-keeps w c the_end fails g h = closes w c fails g h

lower-keeps : (l : Lower) (w : World) (c : ℕ) (x : Next) (answered fails : Bool) → AllBegun w → AllLinked w → w.lowers c ≡ l → ((f : WriteFields) → x ≡ message (request (op.Write f)) → Asks w c f)
    → IfSome (lower_down l w c x answered fails) (Keeps w)
lower-keeps idle w c (message m) answered fails g h e a = first-keeps w c m answered fails g h (λ f q. a f (ap message q))
lower-keeps idle w c the_end answered fails g h e a = closes w c fails g h
lower-keeps (writes m) w c x answered fails g h e a = down-keeps w c m x fails g h e
lower-keeps (serves b s) w c x answered fails g h e a = closes w c fails g h
lower-keeps recovers w c x answered fails g h e a = next-keeps w c x fails g h
lower-keeps ended_below w c x answered fails g h e a = tt

ready-lower : (l : Lower) (w : World) (c : ℕ) (fails : Bool) → AllBegun w → AllLinked w → w.lowers c ≡ l → IfSome (lower_ready l w c fails) (Keeps w)
ready-lower (writes m) w c fails g h e = ready-keeps w c m fails g h e
ready-lower (serves b s) w c fails g h e = serve-keeps w c b s (next_call s) fails g h
ready-lower idle w c fails g h e = tt
ready-lower recovers w c fails g h e = tt
ready-lower ended_below w c fails g h e = tt

mirror-keeps : (l : Lower) (w : World) (d : ℕ) (x : Next) (fails : Bool) → AllBegun w → AllLinked w → w.lowers d ≡ l → IfSome (mirror_up l w d x fails) (Keeps w)
mirror-keeps (writes m) w d x fails g h e = when-each (Keeps w) (is_alive w (w.dialled d).to) _ (λ q. up-keeps w d m x fails g h e)
mirror-keeps idle w d x fails g h e = tt
mirror-keeps (serves b s) w d x fails g h e = tt
mirror-keeps recovers w d x fails g h e = tt
mirror-keeps ended_below w d x fails g h e = tt

unless-keeps : (w : World) (fails : Bool) (k : Option Change) → IfSome k (Keeps w) → IfSome (unless_fails fails k) (Keeps w)
unless-keeps w true k h = tt
unless-keeps w false k h = h

upper-keeps : (u : Upper) (w : World) (c : ℕ) (x : Next) (fails : Bool) → AllBegun w → AllLinked w → IfSome (upper_up u w c x fails) (Keeps w)
upper-keeps (by_writer b) w c x fails g h = unless-keeps w fails (writer_up w b c x) (untouched-keeps w (writer_up w b c x) g h (writer-up-untouched w b c x))
upper-keeps (by_member d) w c x fails g h = mirror-keeps (w.lowers d) w d x fails g h refl
upper-keeps (by_reader i) w c x fails g h = unless-keeps w fails (reader_up w i c x) (untouched-keeps w (reader_up w i c x) g h (reader-up-untouched w i c x))
upper-keeps (by_primary i p) w c x fails g h = unless-keeps w fails (primary_up w i p c x) (untouched-keeps w (primary_up w i p c x) g h (primary-up-untouched w i p c x))

-- EVENTS

taken-begun : (w : World) (c : ℕ) (x : Next) → AllBegun w → AllBegun (down_taken w c x)
unfolding down_taken
taken-begun w c x h = record { first = h.first }

up-taken-begun : (w : World) (c : ℕ) (x : Next) → AllBegun w → AllBegun (up_taken w c x)
unfolding up_taken
up-taken-begun w c x h = record { first = h.first }

taken-asks : (w : World) (c : ℕ) (x : Next) (f : WriteFields) → Ordered w → AllLinked w → c < w.next_conn → next_down w c ≡ Some x → x ≡ message (request (op.Write f)) → Asks (down_taken w c x) c f
unfolding down_taken
taken-asks w c x f o h lt e q = record {
  begun = taken-begun w c x o.begun;
  linked = down-taken-linked w c x h;
  new = record { downs = o.new.downs; ups = o.new.ups; lower = o.new.lower };
  known = lt;
  first = o.first c (w.down_marks c).taken f (next-message (w.downs c) (w.down_marks c) (request (op.Write f)) (e ∙ ap (λ (y : Next). Some y) q));
}

taken-keeps : (w : World) (c : ℕ) (x : Next) (answered fails : Bool) → Ordered w → AllLinked w → c < w.next_conn → next_down w c ≡ Some x
    → IfSome (lower_down (w.lowers c) (down_taken w c x) c x answered fails) (Keeps (down_taken w c x))
unfolding down_taken
taken-keeps w c x answered fails o h lt e =
    lower-keeps (w.lowers c) (down_taken w c x) c x answered fails (taken-begun w c x o.begun) (down-taken-linked w c x h) refl (λ f q. taken-asks w c x f o h lt e q)

below : (a b : ℕ) → nat_lt a b ≡ true → a < b
below a b e = grind (arith, nat_tests, e)

served-below : (w : World) (c : ℕ) → is_served w c ≡ true → c < w.next_conn
served-below w c e = below c w.next_conn (left (nat_lt c w.next_conn) (is_alive w (w.dialled c).to) e)
  where
    left : (a b : Bool) → (a && b) ≡ true → a ≡ true
    left true b q = refl
    left false b q = absurd (false≢true q)

down-linked : (w : World) (c : ℕ) (answered fails : Bool) → Ordered w → AllLinked w → IfSome (down_event w c answered fails) AllLinked
down-linked w c answered fails o h = when-each AllLinked (is_served w c) _ (λ e. at (served-below w c e) (next_down w c) refl)
  where
    at : c < w.next_conn → (x : Option Next) → next_down w c ≡ x → IfSome (down_as w c answered fails x) AllLinked
    at lt None e = tt
    at lt (Some x) e = changed-linked (down_taken w c x) (lower_down (w.lowers c) (down_taken w c x) c x answered fails) (taken-keeps w c x answered fails o h lt e)

ready-linked : (w : World) (c : ℕ) (fails : Bool) → Ordered w → AllLinked w → IfSome (ready_event w c fails) AllLinked
ready-linked w c fails o h =
    when-each AllLinked (is_served w c) _ (λ e. changed-linked w (lower_ready (w.lowers c) w c fails) (ready-lower (w.lowers c) w c fails o.begun h refl))

up-linked : (w : World) (c : ℕ) (fails : Bool) → Ordered w → AllLinked w → IfSome (up_event w c fails) AllLinked
up-linked w c fails o h = when-each AllLinked (nat_lt c w.next_conn) _ (λ e. at (next_up w c))
  where
    at : (x : Option Next) → IfSome (up_as w c fails x) AllLinked
    at None = tt
    at (Some x) =
        changed-linked (up_taken w c x) (upper_up (w.dialled c).upper (up_taken w c x) c x fails)
        (upper-keeps (w.dialled c).upper (up_taken w c x) c x fails (up-taken-begun w c x o.begun) (up-taken-linked w c x h))

own-untouched : (w : World) (s : OwnStep) → IfSome (own_change w s) (Untouched w)
own-untouched w (own.Writer b takes answered) = own-writer-untouched w b.0 takes answered
own-untouched w (own.Reader i n r answered) = own-reader-untouched w i n.0 r answered
own-untouched w (own.Recover i n b members answers) = own-recover-untouched w i n.0 b members answers
own-untouched w (own.Primary i) = own-primary-untouched w i

where-linked : (test : Bool) (v : World) → AllLinked v → IfSome (where_so test v) AllLinked
where-linked true v h = h
where-linked false v h = tt

fault-linked : (w : World) (d : Delivery) → Ordered w → AllLinked w → IfSome (fault_event w d) AllLinked
fault-linked w (delivery.Down c) o h = down-linked w c.0 false true o h
fault-linked w (delivery.Ready c) o h = ready-linked w c.0 true o h
fault-linked w (delivery.Up c) o h = up-linked w c.0 true o h

outcome-linked : (w : World) (e : Event) → Ordered w → AllLinked w → IfSome (outcome w e) AllLinked
unfolding outcome
outcome-linked w (event.Own s) o h = changed-linked w (own_change w s) (untouched-keeps w (own_change w s) o.begun h (own-untouched w s))
outcome-linked w (event.Office c) o h = changed-linked w (office_event w c) (untouched-keeps w (office_event w c) o.begun h (office-untouched w c))
outcome-linked w (event.Down c answered) o h = down-linked w c.0 answered false o h
outcome-linked w (event.Ready c) o h = ready-linked w c.0 false o h
outcome-linked w (event.Up c) o h = up-linked w c.0 false o h
outcome-linked w (event.Lost c way more) o h = where-linked (nat_lt c.0 w.next_conn) _ (lost-linked w c.0 way more h)
outcome-linked w (event.Fault d) o h = fault-linked w d o h
outcome-linked w (event.Stop n) o h = where-linked (w.running n.0) _ (stop-linked w n.0 h)
outcome-linked w (event.Restart n list) o h =
    where-linked (nat_lt n.0 w.nodes && not (w.running n.0)) _ (restart-linked w n.0 list h)

after-linked : (w : World) (e : Event) (o : Option World) → AllLinked w → IfSome o AllLinked → AllLinked (after_event w e o)
after-linked w e None h k = h
after-linked w e (Some v) h k = named-linked v e k

pub happens-linked : (w : World) (e : Event) → Ordered w → AllLinked w → AllLinked (happens w e)
unfolding happens
happens-linked w e o h = after-linked w e (outcome w e) h (outcome-linked w e o h)

pub start-linked : (nodes : ℕ) → AllLinked (start nodes)
unfolding start
start-linked nodes = record { lowers = λ c. tt }
