-- Each change of a replica is by the event that it is told to have taken.
use Rattle.std.proofs.Common.{◌≡◌, ℕ, Bool, true, false, Option, Some, None, IfSome, Result, Ok, Err, IfOk, refl, sym, ap, subst, ◌∙◌, eqb-true}
use Rattle.std.specs.Prelude.{◌==◌, ◌&&◌}
use Rattle.hd_base.specs.declared.numbers.ConnId.{ConnId}
use Rattle.op_headers.specs.declared.ops.Op.{Op}
use Rattle.op_headers.specs.declared.ops.Op.TheVariants as op
use Rattle.op_headers.specs.declared.ops.ReadOp.{ReadOp}
use Rattle.op_headers.specs.declared.ops.RecoveryOp.{RecoveryOp}
use Rattle.op_headers.specs.Values.{WriteFields}
use Rattle.packet_codec.specs.declared.packets.Packet.{Packet}
use Rattle.replica_core.specs.declared.events.Event.{Event}
use Rattle.replica_core.specs.declared.events.Event.TheVariants as replica
use Rattle.replica_core.specs.Views.{rule_in}
use Rattle.replica_model.specs.declared.events.ReplicaEvent.{ReplicaEvent}
use Rattle.replica_model.specs.declared.events.ReplicaEvent.TheVariants as replica_event
use Rattle.replica_model.specs.Rows.{FullReplica, IsFull, row}
use Rattle.request_refusals.specs.declared.refusals.RequestRefusal.{RequestRefusal}
use Rattle.request_refusals.specs.declared.refusals.RequestRefusal.TheVariants as request_refusal
use Rattle.request_refusals.specs.Pools.{is_in_pool}
use Rattle.member_core.specs.declared.turns.Turn.{Turn}
use Rattle.member_core.specs.Members.{hears, down_turn, up_turn}
use Rattle.member_core.specs.Requests.{request_event}
use Rattle.member_core.specs.Steps.{replica_after, oldest_at, ready_turn_at, request_at, booked_request}
use Rattle.read_core.specs.declared.serving.ServePhase.{ServePhase}
use Rattle.read_core.specs.declared.serving.ServePhase.TheVariants as serving
use Rattle.read_core.specs.Servings.{ServingState, read_event, read_at, next_call, call_at, piece_at}
use Rattle.recovery_core.specs.declared.members.RecoveryReply.{RecoveryReply}
use Rattle.recovery_core.specs.Members.{recovery_event, served_as}
use Rattle.world.specs.Parts.{Message, request, packet, ack, response, read_status, recovery_answer, FullMember, Lower, idle, writes, serves, recovers, ended_below, Upper, by_writer, by_member, by_reader, by_primary}
use Rattle.world.specs.Worlds.{World, Change, put_at}
use Rattle.world.specs.Connections.{Next, message, the_end, is_alive}
use Rattle.world.specs.Nodes.{node_of, replica_at, block_of, above_of, below_of, closing, unless_failing, turn_change, failing_turn, takes_next, pending_at, ready_change, is_asked, failing_write, write_request, setup_change, read_change, failing_read, read_request, piece_as, serve_change, recovery_change, failing_recovery, recovery_request, first_message, next_recovery, lower_down, lower_ready, mirror_up}
use Rattle.world.specs.Clients.{writer_up, reader_up}
use Rattle.world.specs.Primaries.{primary_up}
use Rattle.world.specs.Events.{unless_fails, upper_up}
use Rattle.world_laws.proofs.FactTables.{if-each, when-each, some-weaker, and-left, and-right}
use Rattle.world_laws.proofs.ReplicaUntouching.{Untouched, writer-up-untouched, reader-up-untouched, primary-up-untouched}
use Rattle.world_syncs.specs.Histories.{TakenEvent, call_of, call_in, taken_at, turn_event, first_event, recovery_next, lower_event, turn_event_in, acting_event, mirror_event, upper_event}
use Rattle.world_syncs.proofs.Rows.{row-same, read-same}

-- TABLES

-- the replicas, with an event that one of them takes
abbrev pub replicas_with : (ℕ → ℕ → FullReplica) → Option TakenEvent → ℕ → ℕ → FullReplica
replicas_with f None = f
replicas_with f (Some x) = put_at f x.node x.block (row (f x.node x.block) x.event)

-- a change of the replicas by an event, if it is one
pub record IsBooked (w : World) (o : Option TakenEvent) (k : Change) : Type 0 where
  pub each : (n b : ℕ) → put_at w.replicas k.node k.block k.replica n b ≡ replicas_with w.replicas o n b

pub put-same : (f : ℕ → ℕ → FullReplica) (i k : ℕ) (x : FullReplica) (n b : ℕ) → x ≡ f i k → put_at f i k x n b ≡ f n b
put-same f i k x n b e =
    if-each (λ (r : FullReplica). r ≡ f n b) (n == i && b == k) x (f n b)
    (λ q. e ∙ ap (λ (j : ℕ). f j k) (sym (eqb-true n i (and-left (n == i) (b == k) q))) ∙ ap (λ (j : ℕ). f n j) (sym (eqb-true b k (and-right (n == i) (b == k) q))))
    (λ _. refl)

-- the replica stays, and nothing is booked
booked-none : (w : World) (k : Change) → k.replica ≡ w.replicas k.node k.block → IsBooked w None k
booked-none w k e = record { each = λ n b. put-same w.replicas k.node k.block k.replica n b e }

-- the replica is what an event makes of it
booked-row : (w : World) (k : Change) (e : ReplicaEvent) → k.replica ≡ row (w.replicas k.node k.block) e → IsBooked w (Some (record { node = k.node; block = k.block; event = e })) k
booked-row w k e q = record { each = λ n b. ap (λ (r : FullReplica). put_at w.replicas k.node k.block r n b) q }

-- an event that leaves its replica, beside a change that does too
booked-aside : (w : World) (k : Change) (n b : ℕ) (e : ReplicaEvent) → k.replica ≡ w.replicas k.node k.block → row (w.replicas n b) e ≡ w.replicas n b → IsBooked w (Some (record { node = n; block = b; event = e })) k
booked-aside w k n b e q s = record { each = λ m d. put-same w.replicas k.node k.block k.replica m d q ∙ sym (put-same w.replicas n b (row (w.replicas n b) e) m d s) }

-- MEMBERS

turn-booked-as : (w : World) (c : ℕ) (m : FullMember) (k : Change) (o : Option ReplicaEvent) → k.node ≡ node_of w c → k.block ≡ block_of m.fields → k.replica ≡ replica_after (replica_at w c (block_of m.fields)) o → IsBooked w (taken_at w c (block_of m.fields) false o) k
turn-booked-as w c m k None n b q = booked-none w k (q ∙ ap (λ (j : ℕ). w.replicas j (block_of m.fields)) (sym n) ∙ ap (λ (j : ℕ). w.replicas k.node j) (sym b))
turn-booked-as w c m k (Some e) n b q =
    subst (λ (j : ℕ). IsBooked w (Some (record { node = j; block = block_of m.fields; event = e })) k) n
    (subst (λ (j : ℕ). IsBooked w (Some (record { node = k.node; block = j; event = e })) k) b
    (booked-row w k e (q ∙ ap (λ (j : ℕ). row (w.replicas j (block_of m.fields)) e) (sym n) ∙ ap (λ (j : ℕ). row (w.replicas k.node j) e) (sym b))))

failing-booked : (w : World) (c : ℕ) (m : FullMember) (x : Next) (t : Turn) (o : Option ReplicaEvent) → IfSome (failing_turn w c m x t o) (IsBooked w (taken_at w c (block_of m.fields) true o))
failing-booked w c m x t None = tt
failing-booked w c m x t (Some e) = record { each = λ n b. refl }

turn-booked : (w : World) (c : ℕ) (m : FullMember) (x : Next) (t : Turn) (fails : Bool) → IfSome (turn_change w c m x t fails) (IsBooked w (turn_event w c m t fails))
turn-booked w c m x t true = failing-booked w c m x t t.call
turn-booked w c m x t false = turn-booked-as w c m _ t.call refl refl refl

ready-booked : (w : World) (c : ℕ) (m : FullMember) (o : Option Turn) (fails : Bool) → IfSome (ready_change w c m o fails) (IsBooked w (turn_event_in w c m o fails))
ready-booked w c m None fails = tt
ready-booked w c m (Some t) fails = turn-booked w c m the_end t fails

-- REQUESTS

failing-write-booked : (w : World) (c : ℕ) (f : WriteFields) (o : Result Event RequestRefusal) → IfSome (failing_write w c f o) (IsBooked w (taken_at w c (block_of f) true (call_of o)))
failing-write-booked w c f (Err r) = tt
failing-write-booked w c f (Ok e) = record { each = λ n b. refl }

setup-replica : (conn : ConnId) (f : WriteFields) (asked : Bool) (r : FullReplica) (o : Option RequestRefusal) → (booked_request conn f asked r o).replica ≡ r
setup-replica conn f asked r None = refl
setup-replica conn f asked r (Some x) = refl

write-booked-as : (w : World) (c : ℕ) (f : WriteFields) (asked : Bool) (o : Result Event RequestRefusal) → IsBooked w (taken_at w c (block_of f) false (call_of o)) (setup_change w c f (request_at (record { 0 = c }) f asked (replica_at w c (block_of f)) o) (w.breaks (node_of w c) (block_of f)))
write-booked-as w c f asked (Err r) = booked-none w _ refl
write-booked-as w c f asked (Ok e) = booked-row w _ (replica_event.Other e) (setup-replica (record { 0 = c }) f asked (row (replica_at w c (block_of f)) (replica_event.Other e)) _)

write-booked : (w : World) (c : ℕ) (f : WriteFields) (answered fails : Bool) → IfSome (write_request w c f answered fails) (IsBooked w (first_event w c (request (op.Write f)) fails))
write-booked w c f answered true = failing-write-booked w c f (request_event (record { 0 = c }) f (rule_in (replica_at w c (block_of f)).known))
write-booked w c f answered false = write-booked-as w c f (is_asked w c f answered) (request_event (record { 0 = c }) f (rule_in (replica_at w c (block_of f)).known))

-- READS

-- a read leaves the replica
abbrev Leaves : FullReplica → Event → Type 0
Leaves r e = row r (replica_event.Other e) ≡ r

read-leaves : (r : FullReplica) (q : ReadOp) → IsFull r → IfOk (read_event q) (Leaves r)
unfolding read_event
read-leaves r q h =
    if-each (λ (o : Result Event RequestRefusal). IfOk o (Leaves r)) (is_in_pool q.block) (Ok (replica.Read q.block.stamp q.offset q.len)) (Err request_refusal.Pool)
    (λ _. row-same r (replica.Read q.block.stamp q.offset q.len) h (read-same r.known q.block.stamp q.offset q.len)) (λ _. tt)

call-leaves : (r : FullReplica) (s : ServingState) (p : ServePhase) → IsFull r → IfSome (call_at p s) (Leaves r)
call-leaves r s serving.Sending h = row-same r _ h (read-same r.known _ _ _)
call-leaves r s serving.Awaiting h = tt
call-leaves r s serving.Over h = tt

failing-read-booked : (w : World) (c b : ℕ) (o : Result Event RequestRefusal) → IfSome (failing_read w c b o) (IsBooked w (taken_at w c b true (call_of o)))
failing-read-booked w c b (Err r) = tt
failing-read-booked w c b (Ok e) = record { each = λ n d. refl }

aside-of : (w : World) (c b : ℕ) (k : Change) (o : Result Event RequestRefusal) → k.replica ≡ w.replicas k.node k.block → IfOk o (Leaves (replica_at w c b)) → IsBooked w (taken_at w c b false (call_of o)) k
aside-of w c b k (Err r) q h = booked-none w k q
aside-of w c b k (Ok e) q h = booked-aside w k (node_of w c) b (replica_event.Other e) q h

read-change-booked : (w : World) (c b : ℕ) (o : Result Event RequestRefusal) (s : Result ServingState RequestRefusal) → IfOk o (Leaves (replica_at w c b)) → IsBooked w (taken_at w c b false (call_of o)) (read_change w c b s)
read-change-booked w c b o (Ok s) h = aside-of w c b _ o refl h
read-change-booked w c b o (Err r) h = aside-of w c b _ o refl h

read-booked : (w : World) (c : ℕ) (r : ReadOp) (fails : Bool) → ((n b : ℕ) → IsFull (w.replicas n b)) → IfSome (read_request w c r fails) (IsBooked w (first_event w c (request (op.Read r)) fails))
read-booked w c r true f = failing-read-booked w c r.block.block.0 (read_event r)
read-booked w c r false f = read-change-booked w c r.block.block.0 (read_event r) (read_at r (replica_at w c r.block.block.0)) (read-leaves (replica_at w c r.block.block.0) r (f (node_of w c) r.block.block.0))

piece-booked : (w : World) (c b : ℕ) (s : ServingState) (p : Option Packet) (e : Event) → Leaves (replica_at w c b) e → IsBooked w (taken_at w c b false (call_in (Some e))) (piece_as w c b s p)
piece-booked w c b s None e h = booked-aside w _ (node_of w c) b (replica_event.Other e) refl h
piece-booked w c b s (Some p) e h = booked-aside w _ (node_of w c) b (replica_event.Other e) refl h

serve-booked : (w : World) (c b : ℕ) (s : ServingState) (o : Option Event) (fails : Bool) → IfSome o (Leaves (replica_at w c b)) → IfSome (serve_change w c b s o fails) (IsBooked w (taken_at w c b fails (call_in o)))
serve-booked w c b s None fails h = tt
serve-booked w c b s (Some e) true h = record { each = λ n d. refl }
serve-booked w c b s (Some e) false h = piece-booked w c b (piece_at s (replica_at w c b)).serving (piece_at s (replica_at w c b)).packet e h

-- RECOVERIES

failing-recovery-booked : (w : World) (c : ℕ) (r : RecoveryOp) (o : Result Event RecoveryReply) → IfSome (failing_recovery w c r o) (IsBooked w (taken_at w c r.block.block.0 true (call_of o)))
failing-recovery-booked w c r (Err x) = tt
failing-recovery-booked w c r (Ok e) = record { each = λ n b. refl }

served-booked : (w : World) (c : ℕ) (r : RecoveryOp) (o : Result Event RecoveryReply) → IsBooked w (taken_at w c r.block.block.0 false (call_of o)) (recovery_change w c r (served_as (replica_at w c r.block.block.0) o) (w.breaks (node_of w c) r.block.block.0))
served-booked w c r (Err x) = booked-none w _ refl
served-booked w c r (Ok e) = record { each = λ n b. refl }

recovery-booked : (w : World) (c : ℕ) (r : RecoveryOp) (fails : Bool) → IfSome (recovery_request w c r fails) (IsBooked w (taken_at w c r.block.block.0 fails (call_of (recovery_event r))))
recovery-booked w c r true = failing-recovery-booked w c r (recovery_event r)
recovery-booked w c r false = served-booked w c r (recovery_event r)

-- LOWER ENDS

unless-booked : (w : World) (fails : Bool) (c : ℕ) → IfSome (unless_failing fails (closing w c)) (IsBooked w None)
unless-booked w true c = tt
unless-booked w false c = booked-none w _ refl

request-booked : (w : World) (c : ℕ) (o : Op) (answered fails : Bool) → ((n b : ℕ) → IsFull (w.replicas n b)) → IfSome (first_message w c (request o) answered fails) (IsBooked w (first_event w c (request o) fails))
request-booked w c (op.Write f) answered fails h = write-booked w c f answered fails
request-booked w c (op.Read r) answered fails h = read-booked w c r fails h
request-booked w c (op.Recovery r) answered fails h = recovery-booked w c r fails
request-booked w c (op.Transfer r) answered fails h = unless-booked w fails c
request-booked w c (op.Checksum r) answered fails h = unless-booked w fails c

first-booked : (w : World) (c : ℕ) (m : Message) (answered fails : Bool) → ((n b : ℕ) → IsFull (w.replicas n b)) → IfSome (first_message w c m answered fails) (IsBooked w (first_event w c m fails))
first-booked w c (request o) answered fails h = request-booked w c o answered fails h
first-booked w c (packet p) answered fails h = unless-booked w fails c
first-booked w c (ack a) answered fails h = unless-booked w fails c
first-booked w c (response r) answered fails h = unless-booked w fails c
first-booked w c (read_status s) answered fails h = unless-booked w fails c
first-booked w c (recovery_answer a) answered fails h = unless-booked w fails c

next-op-booked : (w : World) (c : ℕ) (o : Op) (fails : Bool) → IfSome (next_recovery w c (message (request o)) fails) (IsBooked w (recovery_next w c (message (request o)) fails))
next-op-booked w c (op.Write f) fails = unless-booked w fails c
next-op-booked w c (op.Read r) fails = unless-booked w fails c
next-op-booked w c (op.Recovery r) fails = recovery-booked w c r fails
next-op-booked w c (op.Transfer r) fails = unless-booked w fails c
next-op-booked w c (op.Checksum r) fails = unless-booked w fails c

next-booked : (w : World) (c : ℕ) (x : Next) (fails : Bool) → IfSome (next_recovery w c x fails) (IsBooked w (recovery_next w c x fails))
next-booked w c (message (request o)) fails = next-op-booked w c o fails
next-booked w c (message (packet p)) fails = unless-booked w fails c
next-booked w c (message (ack a)) fails = unless-booked w fails c
next-booked w c (message (response r)) fails = unless-booked w fails c
next-booked w c (message (read_status s)) fails = unless-booked w fails c
next-booked w c (message (recovery_answer a)) fails = unless-booked w fails c
next-booked w c the_end fails = unless-booked w fails c

pub lower-down-booked : (l : Lower) (w : World) (c : ℕ) (x : Next) (answered fails : Bool) → ((n b : ℕ) → IsFull (w.replicas n b)) → IfSome (lower_down l w c x answered fails) (IsBooked w (lower_event l w c x fails))
lower-down-booked idle w c (message m) answered fails h = first-booked w c m answered fails h
lower-down-booked idle w c the_end answered fails h = unless-booked w fails c
lower-down-booked (writes m) w c x answered fails h = when-each (IsBooked w _) (takes_next m.state (pending_at w c m) x) _ (λ _. turn-booked w c m x (down_turn m.state (above_of x)) fails)
lower-down-booked (serves b s) w c x answered fails h = unless-booked w fails c
lower-down-booked recovers w c x answered fails h = next-booked w c x fails
lower-down-booked ended_below w c x answered fails h = tt

pub lower-ready-booked : (l : Lower) (w : World) (c : ℕ) (fails : Bool) → ((n b : ℕ) → IsFull (w.replicas n b)) → IfSome (lower_ready l w c fails) (IsBooked w (acting_event l w c fails))
lower-ready-booked idle w c fails h = tt
lower-ready-booked (writes m) w c fails h = ready-booked w c m (ready_turn_at m.state (replica_at w c (block_of m.fields))) fails
lower-ready-booked (serves b s) w c fails h = serve-booked w c b s (next_call s) fails (call-leaves (replica_at w c b) s s.phase (h (node_of w c) b))
lower-ready-booked recovers w c fails h = tt
lower-ready-booked ended_below w c fails h = tt

mirror-booked : (l : Lower) (w : World) (d : ℕ) (x : Next) (fails : Bool) → IfSome (mirror_up l w d x fails) (IsBooked w (mirror_event l w d x fails))
mirror-booked idle w d x fails = tt
mirror-booked (writes m) w d x fails =
    when-each (IsBooked w _) (is_alive w (w.dialled d).to) _ (λ _. when-each (IsBooked w _) (hears m.state) _ (λ _. turn-booked w d m x (up_turn m.state (oldest_at (replica_at w d (block_of m.fields))) (below_of x)) fails))
mirror-booked (serves b s) w d x fails = tt
mirror-booked recovers w d x fails = tt
mirror-booked ended_below w d x fails = tt

pub untouched-booked : (w : World) (o : Option Change) → IfSome o (Untouched w) → IfSome o (IsBooked w None)
untouched-booked w o h = some-weaker (Untouched w) (IsBooked w None) o (λ k u. booked-none w k u.replica) h

unless-untouched : (w : World) (fails : Bool) (o : Option Change) → IfSome o (Untouched w) → IfSome (unless_fails fails o) (IsBooked w None)
unless-untouched w true o h = tt
unless-untouched w false o h = untouched-booked w o h

pub upper-booked : (u : Upper) (w : World) (c : ℕ) (x : Next) (fails : Bool) → IfSome (upper_up u w c x fails) (IsBooked w (upper_event u w x fails))
upper-booked (by_writer b) w c x fails = unless-untouched w fails (writer_up w b c x) (writer-up-untouched w b c x)
upper-booked (by_member d) w c x fails = mirror-booked (w.lowers d) w d x fails
upper-booked (by_reader i) w c x fails = unless-untouched w fails (reader_up w i c x) (reader-up-untouched w i c x)
upper-booked (by_primary i p) w c x fails = unless-untouched w fails (primary_up w i p c x) (primary-up-untouched w i p c x)
