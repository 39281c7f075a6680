-- What becomes of each replica in an event.
use Rattle.std.proofs.Common.{◌≡◌, ℕ, Bool, true, false, List, [], length, slice_get, Option, Some, None, IfSome, Result, Ok, Err, IfOk, refl, sym, ◌∙◌, ap, subst, eqb-true}
use Rattle.std.specs.Prelude.{◌==◌, ◌&&◌, nat_lt, nat_le, not, option_map, if◌then◌else◌}
use Rattle.std.proofs.lemmas.Bool.{eqb-false}
use Rattle.std.proofs.lemmas.Option.{none-some, same_Some}
use Rattle.hd_base.specs.Results.{◌>>=◌}
use Rattle.hd_base.specs.SumRules.{Rule}
use Rattle.hd_base.specs.declared.numbers.ConnId.{ConnId}
use Rattle.op_headers.specs.declared.ops.Op.{Op}
use Rattle.op_headers.specs.declared.ops.Op.TheVariants as op
use Rattle.op_headers.specs.declared.ops.ReadOp.{ReadOp}
use Rattle.op_headers.specs.declared.ops.RecoveryKind.{RecoveryKind}
use Rattle.op_headers.specs.declared.ops.RecoveryKind.TheVariants as recovery_kind
use Rattle.op_headers.specs.declared.ops.RecoveryOp.{RecoveryOp}
use Rattle.op_headers.specs.Values.{WriteFields}
use Rattle.packet_codec.specs.declared.packets.Packet.{Packet}
use Rattle.replica_core.specs.declared.events.Event.{Event as CoreEvent}
use Rattle.replica_core.specs.declared.events.Event.TheVariants as core
use Rattle.replica_core.specs.Transitions.{is_written_by}
use Rattle.replica_core.specs.Views.{rule_in}
use Rattle.replica_model.specs.declared.events.ReplicaEvent.{ReplicaEvent}
use Rattle.replica_model.specs.declared.events.ReplicaEvent.TheVariants as replica_event
use Rattle.replica_model.specs.Rows.{FullReplica, event_at, row, broken}
use Rattle.replica_model.specs.Found.{Found}
use Rattle.request_refusals.specs.declared.refusals.RequestRefusal.{RequestRefusal}
use Rattle.request_refusals.specs.declared.refusals.RequestRefusal.TheVariants as refusal
use Rattle.request_refusals.specs.Pools.{is_in_pool}
use Rattle.member_core.specs.declared.requests.SetupKind.{SetupKind}
use Rattle.member_core.specs.declared.requests.SetupKind.TheVariants as kind
use Rattle.member_core.specs.declared.requests.TheConstants.{MAX_BELOW}
use Rattle.member_core.specs.declared.turns.Turn.{Turn}
use Rattle.member_core.specs.Members.{down_turn, up_turn, hears}
use Rattle.member_core.specs.Requests.{setup_with, rule_for, named_setup, named_rule, setup_event, request_event}
use Rattle.member_core.specs.Steps.{replica_after, booked_request, request_at, oldest_at, ready_turn_at}
use Rattle.world_recoveries.specs.ReadCore.Servings.{ServingState, read_at, read_event, next_call, call_at, piece_at}
use Rattle.world_recoveries.specs.ReadCore.ServePhase.{ServePhase}
use Rattle.world_recoveries.specs.ReadCore.ServePhase.TheVariants as serve_phase
use Rattle.world_recoveries.specs.RecoveryCore.RecoveryReply.{RecoveryReply}
use Rattle.world_recoveries.specs.RecoveryCore.Members.{no_recovery, step_event, recovery_event, served_as}
use Rattle.world_recoveries.specs.World.Delivery.{Delivery}
use Rattle.world_recoveries.specs.World.Delivery.TheVariants as delivery
use Rattle.world_recoveries.specs.World.Direction.{Direction}
use Rattle.world_recoveries.specs.World.Direction.TheVariants as direction
use Rattle.world_recoveries.specs.World.Event.{Event}
use Rattle.world_recoveries.specs.World.Event.TheVariants as event
use Rattle.world_recoveries.specs.World.FoundReplica.{FoundReplica}
use Rattle.world_recoveries.specs.World.OwnStep.{OwnStep}
use Rattle.world_recoveries.specs.World.OwnStep.TheVariants as own
use Rattle.world_recoveries.specs.World.Parts.{Message, request, packet, ack, response, read_status, recovery_answer, Marks, Upper, by_writer, by_member, by_reader, by_primary, FullMember, Lower, idle, writes, serves, recovers, ended_below, Break}
use Rattle.world_recoveries.specs.World.Worlds.{Past, World, Change, no_past, put_at, apply}
use Rattle.world_recoveries.specs.World.Connections.{Next, message, the_end, ends_at, next_on, next_down, next_up, down_taken, up_taken, is_served, is_alive}
use Rattle.world_recoveries.specs.World.Nodes.{node_of, replica_at, block_of, first_break, closing, unless_failing, above_of, below_of, failing_turn, turn_change, pending_at, takes_next, member_down, member_up, ready_change, is_asked, setup_change, failing_write, write_request, breaking, read_change, failing_read, read_request, piece_as, serve_change, recovery_change, failing_recovery, recovery_request, first_message, next_recovery, lower_down, lower_ready, mirror_up}
use Rattle.world_recoveries.specs.World.Clients.{writer_up, reader_up}
use Rattle.world_recoveries.specs.World.Primaries.{office_event, primary_up}
use Rattle.world_recoveries.specs.World.Restarts.{found_in, restarted, restart}
use Rattle.world_recoveries.specs.World.Events.{changed, own_change, down_as, down_event, ready_event, unless_fails, upper_up, up_as, up_event, fault_event, lost, stop, where_so, outcome}
use Rattle.world_recoveries.proofs.WorldLaws.FactTables.{if-each, when-each, some-weaker, and-left, and-right}
use Rattle.world_recoveries.proofs.WorldLaws.ReplicaUntouching.{Untouched, own-writer-untouched, writer-up-untouched, own-reader-untouched, reader-up-untouched, own-recover-untouched, own-primary-untouched, primary-up-untouched, office-untouched}
use Rattle.world_recoveries.specs.WorldLaws.Stamping.{Givens, none_given}
use Rattle.world_recoveries.specs.WorldLaws.Carrying.{stamp_set, Carried}
use Rattle.world_recoveries.proofs.WorldLaws.ByteRows.{Allows}
use Rattle.world_recoveries.proofs.WorldLaws.ByteTurns.{Idles, up-idles, ready-idles}
use Rattle.world_acks.specs.Closing.{Reopens}
use Rattle.world_acks.specs.Waiting.{Waits}
use Rattle.world_acks.proofs.ClosedRows.{IsAgain, IsOther, other-again}

-- WHAT BECOMES OF A REPLICA

-- Where it is the recovery of an append under this stamp, its request waited for the node.
abbrev pub AgainAt : Past → (ℕ → Lower) → ℕ → ℕ → FullReplica → ReplicaEvent → Type 0
AgainAt h lowers n b r e = (stamp : ℕ) → IsAgain stamp (event_at r e) → Reopens h lowers b stamp n

-- A replica and its break before an event and after it: both stay, it takes an event of its own, it breaks in one, or a restart finds it.
pub data Went (h : Past) (lowers : ℕ → Lower) (n b : ℕ) (r : FullReplica) (o : Option Break) (s : FullReplica) (p : Option Break) : Type 0 where
  rests : s ≡ r → p ≡ o → Went h lowers n b r o s p
  takes : (e : ReplicaEvent) → s ≡ row r e → p ≡ o → AgainAt h lowers n b r e → Went h lowers n b r o s p
  breaks_in : (e : ReplicaEvent) → s ≡ broken r → p ≡ first_break o r e → AgainAt h lowers n b r e → Went h lowers n b r o s p
  is_found : (f : Option Found) → s ≡ restarted b r o f → p ≡ None → Went h lowers n b r o s p

-- of the replica that a change names
pub record Moved (w : World) (k : Change) : Type 0 where
  pub went : Went w.past w.lowers k.node k.block (w.replicas k.node k.block) (w.breaks k.node k.block) k.replica k.broke

-- of all
pub record AllGo (w v : World) : Type 0 where
  pub each : (n b : ℕ) → Went w.past w.lowers n b (w.replicas n b) (w.breaks n b) (v.replicas n b) (v.breaks n b)

eq-self : (n : ℕ) → (n == n) ≡ true
eq-self n = go (n == n) refl
  where
    go : (b : Bool) → (n == n) ≡ b → (n == n) ≡ true
    go true e = e
    go false e = absurd (eqb-false n n e refl)

pub put-self : {A : Type 0} (f : ℕ → ℕ → A) (n b : ℕ) (x : A) → put_at f n b x n b ≡ x
put-self {A} f n b x = ap (λ (t : Bool). if t && b == b then x else f n b) (eq-self n) ∙ ap (λ (t : Bool). if t then x else f n b) (eq-self b)

abbrev GoesTo : World → ℕ → ℕ → FullReplica → Option Break → Type 0
GoesTo w n b s p = Went w.past w.lowers n b (w.replicas n b) (w.breaks n b) s p

abbrev PutTo : World → Change → ℕ → ℕ → Type 0
PutTo w k n b = GoesTo w n b (put_at w.replicas k.node k.block k.replica n b) (put_at w.breaks k.node k.block k.broke n b)

put-here : (w : World) (k : Change) → Moved w k → PutTo w k k.node k.block
put-here w k m =
    subst (λ (s : FullReplica). GoesTo w k.node k.block s (put_at w.breaks k.node k.block k.broke k.node k.block)) (sym (put-self w.replicas k.node k.block k.replica))
    (subst (λ (p : Option Break). GoesTo w k.node k.block k.replica p) (sym (put-self w.breaks k.node k.block k.broke)) m.went)

put-there : (w : World) (k : Change) (n b : ℕ) → Moved w k → (t : Bool) → (n == k.node && b == k.block) ≡ t → PutTo w k n b
put-there w k n b m true e =
    let en : k.node ≡ n = sym (eqb-true n k.node (and-left (n == k.node) (b == k.block) e)) in
    let eb : k.block ≡ b = sym (eqb-true b k.block (and-right (n == k.node) (b == k.block) e)) in
    subst (λ (i : ℕ). PutTo w k i b) en (subst (λ (j : ℕ). PutTo w k k.node j) eb (put-here w k m))
put-there w k n b m false e = rests (ap (λ (t : Bool). if t then k.replica else w.replicas n b) e) (ap (λ (t : Bool). if t then k.broke else w.breaks n b) e)

pub moves-on : (w : World) (k : Change) → Moved w k → AllGo w (apply w k)
unfolding apply
moves-on w k m = record { each = λ n b. put-there w k n b m (n == k.node && b == k.block) refl }

changed-on : (w : World) (o : Option Change) → IfSome o (Moved w) → IfSome (changed w o) (AllGo w)
changed-on w None m = tt
changed-on w (Some k) m = moves-on w k m

pub untouched-moved : (w : World) (o : Option Change) → IfSome o (Untouched w) → IfSome o (Moved w)
untouched-moved w o u = some-weaker (Untouched w) (Moved w) o (λ k x. record { went = rests x.replica x.broke }) u

-- MEMBERS

other-at : (h : Past) (lowers : ℕ → Lower) (n b : ℕ) (r : FullReplica) (e : CoreEvent) → IsOther e → AgainAt h lowers n b r (replica_event.Other e)
other-at h lowers n b r e i = λ stamp a. absurd (other-again stamp e i a)

abbrev Calls : World → ℕ → FullMember → Option ReplicaEvent → Type 0
Calls w c m o = IfSome o (AgainAt w.past w.lowers (node_of w c) (block_of m.fields) (replica_at w c (block_of m.fields)))

-- what is allowed where no stamp was given
abbrev NoneAllowed : ℕ → ReplicaEvent → Type 0
NoneAllowed b e = Allows none_given no_past b e

idle-at : (h : Past) (lowers : ℕ → Lower) (n b : ℕ) (r : FullReplica) (e : ReplicaEvent) → NoneAllowed b e → AgainAt h lowers n b r e
idle-at h lowers n b r (replica_event.Other (core.AppendRecovery conn named new m)) i = absurd (none-some i.session i.given)
idle-at h lowers n b r (replica_event.Other (core.Ack conn seqno good)) i = λ stamp a. absurd a
idle-at h lowers n b r (replica_event.Other (core.Ended conn)) i = λ stamp a. absurd a
idle-at h lowers n b r (replica_event.Packet conn p) i = λ stamp a. absurd a
idle-at h lowers n b r (replica_event.Other (core.Create conn t q)) i = λ stamp a. absurd a
idle-at h lowers n b r (replica_event.Other (core.Temporary conn t q)) i = λ stamp a. absurd a
idle-at h lowers n b r (replica_event.Other (core.Append conn named new m)) i = λ stamp a. absurd a
idle-at h lowers n b r (replica_event.Other (core.StreamRecovery conn named new low high)) i = λ stamp a. absurd a
idle-at h lowers n b r (replica_event.Other (core.CloseRecovery named new m)) i = λ stamp a. absurd a
idle-at h lowers n b r (replica_event.Other (core.Packet conn seqno offset m sums last sync bad)) i = λ stamp a. absurd a
idle-at h lowers n b r (replica_event.Other (core.Init named id)) i = λ stamp a. absurd a
idle-at h lowers n b r (replica_event.Other (core.Update id m)) i = λ stamp a. absurd a
idle-at h lowers n b r (replica_event.Other (core.Read named offset m)) i = λ stamp a. absurd a
idle-at h lowers n b r (replica_event.Other (core.Give named offset m)) i = λ stamp a. absurd a
idle-at h lowers n b r (replica_event.Other core.FileFault) i = λ stamp a. absurd a

idle-calls : (w : World) (c : ℕ) (m : FullMember) (t : Turn) → Idles t → Calls w c m t.call
idle-calls w c m t i =
    let b = block_of m.fields in
    some-weaker (NoneAllowed b) (AgainAt w.past w.lowers (node_of w c) b (replica_at w c b)) t.call (λ e x. idle-at w.past w.lowers (node_of w c) b (replica_at w c b) e x) (i.call none_given no_past b)

failing-moved : (w : World) (c : ℕ) (m : FullMember) (x : Next) (t : Turn) (o : Option ReplicaEvent) → Calls w c m o → IfSome (failing_turn w c m x t o) (Moved w)
failing-moved w c m x t None a = tt
failing-moved w c m x t (Some e) a = record { went = breaks_in e refl refl a }

turn-moved : (w : World) (c : ℕ) (m : FullMember) (x : Next) (t : Turn) (fails : Bool) → Calls w c m t.call → IfSome (turn_change w c m x t fails) (Moved w)
turn-moved w c m x t true a = failing-moved w c m x t t.call a
turn-moved w c m x t false a = record { went = go t.call a }
  where
    go : (o : Option ReplicaEvent) → Calls w c m o
        → Went w.past w.lowers (node_of w c) (block_of m.fields) (replica_at w c (block_of m.fields)) (w.breaks (node_of w c) (block_of m.fields)) (replica_after (replica_at w c (block_of m.fields)) o) (w.breaks (node_of w c) (block_of m.fields))
    go None y = rests refl refl
    go (Some e) y = takes e refl refl y

above-calls : (w : World) (c : ℕ) (m : FullMember) (x : Next) → Calls w c m (down_turn m.state (above_of x)).call
above-calls w c m (message (packet p)) = λ stamp a. absurd a
above-calls w c m (message (request o)) = tt
above-calls w c m (message (ack a)) = tt
above-calls w c m (message (response r)) = tt
above-calls w c m (message (read_status r)) = tt
above-calls w c m (message (recovery_answer r)) = tt
above-calls w c m the_end = λ stamp a. absurd a

down-moved : (w : World) (c : ℕ) (m : FullMember) (x : Next) (fails : Bool) → IfSome (member_down w c m x fails) (Moved w)
down-moved w c m x fails =
    when-each (Moved w) (takes_next m.state (pending_at w c m) x) _ (λ _. turn-moved w c m x (down_turn m.state (above_of x)) fails (above-calls w c m x))

up-moved : (w : World) (c : ℕ) (m : FullMember) (x : Next) (fails : Bool) → IfSome (member_up w c m x fails) (Moved w)
up-moved w c m x fails =
    let o = oldest_at (replica_at w c (block_of m.fields)) in
    when-each (Moved w) (hears m.state) _ (λ _. turn-moved w c m x (up_turn m.state o (below_of x)) fails (idle-calls w c m (up_turn m.state o (below_of x)) (up-idles m.state o (below_of x))))

ready-as : (w : World) (c : ℕ) (m : FullMember) (o : Option Turn) (fails : Bool) → IfSome o Idles → IfSome (ready_change w c m o fails) (Moved w)
ready-as w c m None fails i = tt
ready-as w c m (Some t) fails i = turn-moved w c m the_end t fails (idle-calls w c m t i)

-- WRITE REQUESTS

abbrev SetsAt : World → ℕ → WriteFields → Result CoreEvent RequestRefusal → Type 0
SetsAt w c q e = IfOk e (λ x. AgainAt w.past w.lowers (node_of w c) (block_of q) (replica_at w c (block_of q)) (replica_event.Other x))

kind-at : (w : World) (c : ℕ) (conn : ConnId) (q : WriteFields) (sums : Rule) (s : SetupKind) → Waits w c q → setup_with q.stage ≡ Some s
    → AgainAt w.past w.lowers (node_of w c) (block_of q) (replica_at w c (block_of q)) (replica_event.Other (setup_event conn q sums s))
kind-at w c conn q sums kind.Create h e = λ stamp a. absurd a
kind-at w c conn q sums kind.Append h e = λ stamp a. absurd a
kind-at w c conn q sums kind.StreamRecovery h e = λ stamp a. absurd a
kind-at w c conn q sums kind.CloseRecovery h e = λ stamp a. absurd a
kind-at w c conn q sums kind.AppendRecovery h e = λ stamp a. record {
  conn = c;
  fields = q;
  first = h.first;
  node = refl;
  block = refl;
  is = ap (λ (o : Option SetupKind). (stamp_set o q.block.stamp q.latest).0) e ∙ a;
  stage = e;
  waits = h.waits;
}

checked-at : (w : World) (c : ℕ) (q : WriteFields) (t : Bool) (x : RequestRefusal) (e : Result CoreEvent RequestRefusal) → SetsAt w c q e → SetsAt w c q (if t then e else Err x)
checked-at w c q true x e h = h
checked-at w c q false x e h = tt

few-at : (w : World) (c : ℕ) (conn : ConnId) (q : WriteFields) (s : SetupKind) (o : Option Rule) → Waits w c q → setup_with q.stage ≡ Some s
    → SetsAt w c q (named_rule q o >>= (λ sums. if nat_le (length q.targets) MAX_BELOW then Ok (setup_event conn q sums s) else Err (refusal.TooMany (length q.targets))))
few-at w c conn q s None h e = tt
few-at w c conn q s (Some u) h e = checked-at w c q (nat_le (length q.targets) MAX_BELOW) _ (Ok (setup_event conn q u s)) (kind-at w c conn q u s h e)

named-at : (w : World) (c : ℕ) (conn : ConnId) (q : WriteFields) (held : Option Rule) (o : Option SetupKind) → Waits w c q → setup_with q.stage ≡ o
    → SetsAt w c q (named_setup q.stage o >>= (λ kind. named_rule q (rule_for q held) >>= (λ sums. if nat_le (length q.targets) MAX_BELOW then Ok (setup_event conn q sums kind) else Err (refusal.TooMany (length q.targets)))))
named-at w c conn q held None h e = tt
named-at w c conn q held (Some s) h e = few-at w c conn q s (rule_for q held) h e

request-at : (w : World) (c : ℕ) (conn : ConnId) (q : WriteFields) (held : Option Rule) → Waits w c q → SetsAt w c q (request_event conn q held)
unfolding request_event
request-at w c conn q held h = checked-at w c q (is_in_pool q.block) refusal.Pool _ (named-at w c conn q held (setup_with q.stage) h refl)

booked-replica : (conn : ConnId) (q : WriteFields) (asked : Bool) (r : FullReplica) (o : Option RequestRefusal) → (booked_request conn q asked r o).replica ≡ r
booked-replica conn q asked r None = refl
booked-replica conn q asked r (Some x) = refl

asked-moved : (w : World) (c : ℕ) (q : WriteFields) (asked : Bool) (e : Result CoreEvent RequestRefusal) → SetsAt w c q e
    → Moved w (setup_change w c q (request_at (record { 0 = c }) q asked (replica_at w c (block_of q)) e) (w.breaks (node_of w c) (block_of q)))
asked-moved w c q asked (Err x) h = record { went = rests refl refl }
asked-moved w c q asked (Ok e) h = record { went = takes (replica_event.Other e) (booked-replica (record { 0 = c }) q asked (row (replica_at w c (block_of q)) (replica_event.Other e)) _) refl h }

failing-write-moved : (w : World) (c : ℕ) (q : WriteFields) (e : Result CoreEvent RequestRefusal) → SetsAt w c q e → IfSome (failing_write w c q e) (Moved w)
failing-write-moved w c q (Err x) h = tt
failing-write-moved w c q (Ok e) h = record { went = breaks_in (replica_event.Other e) refl refl h }

write-moved : (w : World) (c : ℕ) (q : WriteFields) (answered fails : Bool) → Waits w c q → IfSome (write_request w c q answered fails) (Moved w)
write-moved w c q answered true h =
    let r = replica_at w c (block_of q) in failing-write-moved w c q (request_event (record { 0 = c }) q (rule_in r.known)) (request-at w c (record { 0 = c }) q (rule_in r.known) h)
write-moved w c q answered false h =
    let r = replica_at w c (block_of q) in asked-moved w c q (is_asked w c q answered) (request_event (record { 0 = c }) q (rule_in r.known)) (request-at w c (record { 0 = c }) q (rule_in r.known) h)

-- READS

closing-moved : (w : World) (c : ℕ) → Moved w (closing w c)
closing-moved w c = record { went = rests refl refl }

unless-moved : (w : World) (fails : Bool) (c : ℕ) → IfSome (unless_failing fails (closing w c)) (Moved w)
unless-moved w true c = tt
unless-moved w false c = closing-moved w c

read-change-moved : (w : World) (c b : ℕ) (s : Result ServingState RequestRefusal) → Moved w (read_change w c b s)
read-change-moved w c b (Ok s) = record { went = rests refl refl }
read-change-moved w c b (Err r) = record { went = rests refl refl }

breaking-moved : (w : World) (c b : ℕ) (e : CoreEvent) (ms : List Message) → IsOther e → Moved w (breaking w c b (broken (replica_at w c b)) (replica_event.Other e) ms)
breaking-moved w c b e ms i = record { went = breaks_in (replica_event.Other e) refl refl (other-at w.past w.lowers (node_of w c) b (replica_at w c b) e i) }

failing-read-moved : (w : World) (c b : ℕ) (e : Result CoreEvent RequestRefusal) → IfOk e IsOther → IfSome (failing_read w c b e) (Moved w)
failing-read-moved w c b (Err r) i = tt
failing-read-moved w c b (Ok e) i = breaking-moved w c b e _ i

read-other : (r : ReadOp) → IfOk (read_event r) IsOther
unfolding read_event
read-other r = if-each (λ (e : Result CoreEvent RequestRefusal). IfOk e IsOther) (is_in_pool r.block) (Ok (core.Read r.block.stamp r.offset r.len)) (Err refusal.Pool) (λ _. tt) (λ _. tt)

read-moved : (w : World) (c : ℕ) (r : ReadOp) (fails : Bool) → IfSome (read_request w c r fails) (Moved w)
read-moved w c r true = failing-read-moved w c r.block.block.0 (read_event r) (read-other r)
read-moved w c r false = read-change-moved w c r.block.block.0 (read_at r (replica_at w c r.block.block.0))

piece-moved : (w : World) (c b : ℕ) (s : ServingState) (o : Option Packet) → Moved w (piece_as w c b s o)
piece-moved w c b s None = closing-moved w c
piece-moved w c b s (Some p) = record { went = rests refl refl }

serve-moved : (w : World) (c b : ℕ) (s : ServingState) (o : Option CoreEvent) (fails : Bool) → IfSome o IsOther → IfSome (serve_change w c b s o fails) (Moved w)
serve-moved w c b s None fails i = tt
serve-moved w c b s (Some e) true i = breaking-moved w c b e [] i
serve-moved w c b s (Some e) false i = piece-moved w c b (piece_at s (replica_at w c b)).serving (piece_at s (replica_at w c b)).packet

serving-other : (q : ServePhase) (s : ServingState) → IfSome (call_at q s) IsOther
serving-other serve_phase.Sending s = tt
serving-other serve_phase.Awaiting s = tt
serving-other serve_phase.Over s = tt

-- BLOCK RECOVERIES

init-other : (q : RecoveryOp) (b : Bool) → IfOk (if b then Err no_recovery else Ok (core.Init q.block.stamp q.recovery)) IsOther
init-other q true = tt
init-other q false = tt

kind-other : (q : RecoveryOp) (k : RecoveryKind) → IfOk (step_event k q) IsOther
kind-other q recovery_kind.Begin = tt
kind-other q recovery_kind.Init = init-other q (q.recovery.0 == 0)
kind-other q recovery_kind.Update = tt

pool-other : (b : Bool) (x : RecoveryReply) (e : Result CoreEvent RecoveryReply) → IfOk e IsOther → IfOk (if b then e else Err x) IsOther
pool-other true x e h = h
pool-other false x e h = tt

recovery-other : (q : RecoveryOp) → IfOk (recovery_event q) IsOther
unfolding recovery_event
recovery-other q = pool-other (is_in_pool q.block) _ (step_event q.kind q) (kind-other q q.kind)

served-moved : (w : World) (c : ℕ) (q : RecoveryOp) (e : Result CoreEvent RecoveryReply) → IfOk e IsOther → Moved w (recovery_change w c q (served_as (replica_at w c q.block.block.0) e) (w.breaks (node_of w c) q.block.block.0))
served-moved w c q (Err said) i = record { went = rests refl refl }
served-moved w c q (Ok e) i = record { went = takes (replica_event.Other e) refl refl (other-at w.past w.lowers (node_of w c) q.block.block.0 (replica_at w c q.block.block.0) e i) }

failing-recovery-moved : (w : World) (c : ℕ) (q : RecoveryOp) (e : Result CoreEvent RecoveryReply) → IfOk e IsOther → IfSome (failing_recovery w c q e) (Moved w)
failing-recovery-moved w c q (Err said) i = tt
failing-recovery-moved w c q (Ok e) i = record { went = breaks_in (replica_event.Other e) refl refl (other-at w.past w.lowers (node_of w c) q.block.block.0 (replica_at w c q.block.block.0) e i) }

recovery-moved : (w : World) (c : ℕ) (q : RecoveryOp) (fails : Bool) → IfSome (recovery_request w c q fails) (Moved w)
recovery-moved w c q true = failing-recovery-moved w c q (recovery_event q) (recovery-other q)
recovery-moved w c q false = served-moved w c q (recovery_event q) (recovery-other q)

-- THE LOWER END

-- a write request that is taken came first on its connection
abbrev pub CameFirst : World → ℕ → Next → Type 0
CameFirst w c (message (request (op.Write q))) = slice_get (w.downs c) 0 ≡ Some (request (op.Write q))
CameFirst w c _ = Unit {0}

request-moved : (w : World) (c : ℕ) (o : Op) (answered fails : Bool) → w.lowers c ≡ idle → CameFirst w c (message (request o)) → IfSome (first_message w c (request o) answered fails) (Moved w)
request-moved w c (op.Write q) answered fails e s = write-moved w c q answered fails (record { first = s; waits = e })
request-moved w c (op.Read r) answered fails e s = read-moved w c r fails
request-moved w c (op.Recovery q) answered fails e s = recovery-moved w c q fails
request-moved w c (op.Transfer r) answered fails e s = unless-moved w fails c
request-moved w c (op.Checksum r) answered fails e s = unless-moved w fails c

first-moved : (w : World) (c : ℕ) (m : Message) (answered fails : Bool) → w.lowers c ≡ idle → CameFirst w c (message m) → IfSome (first_message w c m answered fails) (Moved w)
first-moved w c (request o) answered fails e s = request-moved w c o answered fails e s
first-moved w c (packet p) answered fails e s = unless-moved w fails c
first-moved w c (ack a) answered fails e s = unless-moved w fails c
first-moved w c (response r) answered fails e s = unless-moved w fails c
first-moved w c (read_status t) answered fails e s = unless-moved w fails c
first-moved w c (recovery_answer a) answered fails e s = unless-moved w fails c

next-op-moved : (w : World) (c : ℕ) (o : Op) (fails : Bool) → IfSome (next_recovery w c (message (request o)) fails) (Moved w)
next-op-moved w c (op.Write q) fails = unless-moved w fails c
next-op-moved w c (op.Read r) fails = unless-moved w fails c
next-op-moved w c (op.Recovery q) fails = recovery-moved w c q fails
next-op-moved w c (op.Transfer r) fails = unless-moved w fails c
next-op-moved w c (op.Checksum r) fails = unless-moved w fails c

next-moved : (w : World) (c : ℕ) (x : Next) (fails : Bool) → IfSome (next_recovery w c x fails) (Moved w)
next-moved w c (message (request o)) fails = next-op-moved w c o fails
next-moved w c (message (packet p)) fails = unless-moved w fails c
next-moved w c (message (ack a)) fails = unless-moved w fails c
next-moved w c (message (response r)) fails = unless-moved w fails c
next-moved w c (message (read_status t)) fails = unless-moved w fails c
next-moved w c (message (recovery_answer a)) fails = unless-moved w fails c
next-moved w c the_end fails = unless-moved w fails c

lower-down-moved : (l : Lower) (w : World) (c : ℕ) (x : Next) (answered fails : Bool) → w.lowers c ≡ l → CameFirst w c x → IfSome (lower_down l w c x answered fails) (Moved w)
lower-down-moved idle w c (message m) answered fails e s = first-moved w c m answered fails e s
lower-down-moved idle w c the_end answered fails e s = unless-moved w fails c
lower-down-moved (writes m) w c x answered fails e s = down-moved w c m x fails
lower-down-moved (serves b t) w c x answered fails e s = unless-moved w fails c
lower-down-moved recovers w c x answered fails e s = next-moved w c x fails
lower-down-moved ended_below w c x answered fails e s = tt

pub lower-ready-moved : (l : Lower) (w : World) (c : ℕ) (fails : Bool) → IfSome (lower_ready l w c fails) (Moved w)
lower-ready-moved idle w c fails = tt
lower-ready-moved (writes m) w c fails =
    let r = replica_at w c (block_of m.fields) in ready-as w c m (ready_turn_at m.state r) fails (ready-idles m.state (oldest_at r) (is_written_by r.known.stream m.state.conn))
lower-ready-moved (serves b t) w c fails = serve-moved w c b t (next_call t) fails (serving-other t.phase t)
lower-ready-moved recovers w c fails = tt
lower-ready-moved ended_below w c fails = tt

mirror-up-moved : (l : Lower) (w : World) (d : ℕ) (x : Next) (fails : Bool) → IfSome (mirror_up l w d x fails) (Moved w)
mirror-up-moved idle w d x fails = tt
mirror-up-moved (writes m) w d x fails = when-each (Moved w) (is_alive w (w.dialled d).to) _ (λ _. up-moved w d m x fails)
mirror-up-moved (serves b t) w d x fails = tt
mirror-up-moved recovers w d x fails = tt
mirror-up-moved ended_below w d x fails = tt

-- EVENTS

-- a world that differs in marks alone
back-down : (w : World) (c : ℕ) (x : Next) (v : World) → AllGo (down_taken w c x) v → AllGo w v
unfolding down_taken
back-down w c x v o = record { each = o.each }

back-up : (w : World) (c : ℕ) (x : Next) (v : World) → AllGo (up_taken w c x) v → AllGo w v
unfolding up_taken
back-up w c x v o = record { each = o.each }

-- what stands next was sent
pub next-sent : (sent : List Message) (k : Marks) (m : Message) → next_on sent k ≡ Some (message m) → slice_get sent k.taken ≡ Some m
next-sent sent k m e = go k.over (ends_at k.end k.taken) e
  where
    said : (o : Option Message) → option_map message o ≡ Some (message m) → o ≡ Some m
    said None q = absurd (none-some (message m) q)
    said (Some n) q = ap (λ (y : Message). Some y) (same n (same_Some (message n) (message m) q))
      where
        same : (n : Message) → message n ≡ message m → n ≡ m
        same n r = cc

    go : (a b : Bool) → (if a then None else (if b then Some the_end else option_map message (slice_get sent k.taken))) ≡ Some (message m) → slice_get sent k.taken ≡ Some m
    go true b q = absurd (none-some (message m) q)
    go false true q = absurd (apart (same_Some the_end (message m) q))
      where
        apart : the_end ≡ message m → ⊥
        apart r = cc
    go false false q = said (slice_get sent k.taken) q

-- a message that stands next was sent
abbrev SentDown : Past → ℕ → Next → Type 0
SentDown h c (message m) = (j : ℕ) × (slice_get (h.downs c) j ≡ Some m)
SentDown h c the_end = Unit {0}

sent-down : (w : World) (c : ℕ) (x : Next) → next_down w c ≡ Some x → SentDown w.past c x
sent-down w c (message m) e = ((w.down_marks c).taken, next-sent (w.downs c) (w.down_marks c) m e)
sent-down w c the_end e = tt

came-first : (g : Givens) (w : World) (c : ℕ) (x : Next) → Carried g w → SentDown w.past c x → CameFirst w c x
came-first g w c (message (request (op.Write q))) h s = (h.downs c s.0 (request (op.Write q)) s.1).first
came-first g w c (message (request (op.Read r))) h s = tt
came-first g w c (message (request (op.Recovery q))) h s = tt
came-first g w c (message (request (op.Transfer r))) h s = tt
came-first g w c (message (request (op.Checksum r))) h s = tt
came-first g w c (message (packet p)) h s = tt
came-first g w c (message (ack a)) h s = tt
came-first g w c (message (response r)) h s = tt
came-first g w c (message (read_status t)) h s = tt
came-first g w c (message (recovery_answer a)) h s = tt
came-first g w c the_end h s = tt

taken-first : (w : World) (c : ℕ) (x y : Next) → CameFirst w c y → CameFirst (down_taken w c x) c y
unfolding down_taken
taken-first w c x (message (request (op.Write q))) s = s
taken-first w c x (message (request (op.Read r))) s = tt
taken-first w c x (message (request (op.Recovery q))) s = tt
taken-first w c x (message (request (op.Transfer r))) s = tt
taken-first w c x (message (request (op.Checksum r))) s = tt
taken-first w c x (message (packet p)) s = tt
taken-first w c x (message (ack a)) s = tt
taken-first w c x (message (response r)) s = tt
taken-first w c x (message (read_status t)) s = tt
taken-first w c x (message (recovery_answer a)) s = tt
taken-first w c x the_end s = tt

taken-lowers : (w : World) (c : ℕ) (x : Next) → (down_taken w c x).lowers c ≡ w.lowers c
unfolding down_taken
taken-lowers w c x = refl

pub down-moves : (g : Givens) (w : World) (c : ℕ) (x : Next) (answered fails : Bool) → Carried g w → next_down w c ≡ Some x → IfSome (lower_down (w.lowers c) (down_taken w c x) c x answered fails) (Moved (down_taken w c x))
down-moves g w c x answered fails h e =
    lower-down-moved (w.lowers c) (down_taken w c x) c x answered fails (taken-lowers w c x) (taken-first w c x x (came-first g w c x h (sent-down w c x e)))

down-as-on : (g : Givens) (w : World) (c : ℕ) (answered fails : Bool) (o : Option Next) → Carried g w → next_down w c ≡ o → IfSome (down_as w c answered fails o) (AllGo w)
down-as-on g w c answered fails None h e = tt
down-as-on g w c answered fails (Some x) h e =
    let v = down_taken w c x in
    let k = lower_down (w.lowers c) v c x answered fails in
    some-weaker (AllGo v) (AllGo w) (changed v k) (λ u y. back-down w c x u y)
    (changed-on v k (down-moves g w c x answered fails h e))

down-on : (g : Givens) (w : World) (c : ℕ) (answered fails : Bool) → Carried g w → IfSome (down_event w c answered fails) (AllGo w)
down-on g w c answered fails h = when-each (AllGo w) (is_served w c) _ (λ _. down-as-on g w c answered fails (next_down w c) h refl)

ready-on : (w : World) (c : ℕ) (fails : Bool) → IfSome (ready_event w c fails) (AllGo w)
ready-on w c fails = when-each (AllGo w) (is_served w c) _ (λ _. changed-on w (lower_ready (w.lowers c) w c fails) (lower-ready-moved (w.lowers c) w c fails))

unless-up : (w : World) (fails : Bool) (o : Option Change) → IfSome o (Untouched w) → IfSome (unless_fails fails o) (Moved w)
unless-up w true o u = tt
unless-up w false o u = untouched-moved w o u

pub upper-moved : (u : Upper) (w : World) (c : ℕ) (x : Next) (fails : Bool) → IfSome (upper_up u w c x fails) (Moved w)
upper-moved (by_writer b) w c x fails = unless-up w fails (writer_up w b c x) (writer-up-untouched w b c x)
upper-moved (by_member d) w c x fails = mirror-up-moved (w.lowers d) w d x fails
upper-moved (by_reader i) w c x fails = unless-up w fails (reader_up w i c x) (reader-up-untouched w i c x)
upper-moved (by_primary i p) w c x fails = unless-up w fails (primary_up w i p c x) (primary-up-untouched w i p c x)

up-as-on : (w : World) (c : ℕ) (fails : Bool) (o : Option Next) → IfSome (up_as w c fails o) (AllGo w)
up-as-on w c fails None = tt
up-as-on w c fails (Some x) =
    let v = up_taken w c x in
    let k = upper_up (w.dialled c).upper v c x fails in
    some-weaker (AllGo v) (AllGo w) (changed v k) (λ u y. back-up w c x u y) (changed-on v k (upper-moved (w.dialled c).upper v c x fails))

up-on : (w : World) (c : ℕ) (fails : Bool) → IfSome (up_event w c fails) (AllGo w)
up-on w c fails = when-each (AllGo w) (nat_lt c w.next_conn) _ (λ _. up-as-on w c fails (next_up w c))

fault-on : (g : Givens) (w : World) (d : Delivery) → Carried g w → IfSome (fault_event w d) (AllGo w)
fault-on g w (delivery.Down c) h = down-on g w c.0 false true h
fault-on g w (delivery.Ready c) h = ready-on w c.0 true
fault-on g w (delivery.Up c) h = up-on w c.0 true

pub own-moved : (w : World) (s : OwnStep) → IfSome (own_change w s) (Moved w)
own-moved w (own.Writer b t answered) = untouched-moved w (own_change w (own.Writer b t answered)) (own-writer-untouched w b.0 t answered)
own-moved w (own.Reader i n r answered) = untouched-moved w (own_change w (own.Reader i n r answered)) (own-reader-untouched w i n.0 r answered)
own-moved w (own.Recover i n b members answers) = untouched-moved w (own_change w (own.Recover i n b members answers)) (own-recover-untouched w i n.0 b members answers)
own-moved w (own.Primary i) = untouched-moved w (own_change w (own.Primary i)) (own-primary-untouched w i)

lost-on : (w : World) (c : ℕ) (way : Direction) (more : ℕ) → AllGo w (lost w c way more)
lost-on w c direction.Down more = record { each = λ n b. rests refl refl }
lost-on w c direction.Up more = record { each = λ n b. rests refl refl }

abbrev FoundTo : World → ℕ → List FoundReplica → ℕ → ℕ → Bool → Type 0
FoundTo w n list m b t =
    GoesTo w m b ((if t then (λ (c : ℕ). restarted c (w.replicas n c) (w.breaks n c) (found_in list c)) else w.replicas m) b) ((if t then (λ (c : ℕ). None) else w.breaks m) b)

found-there : (w : World) (n : ℕ) (list : List FoundReplica) (m b : ℕ) (t : Bool) → (m == n) ≡ t → FoundTo w n list m b t
found-there w n list m b true e = subst (λ (i : ℕ). FoundTo w n list i b true) (sym (eqb-true m n e)) (is_found (found_in list b) refl refl)
found-there w n list m b false e = rests refl refl

pub restart-on : (w : World) (n : ℕ) (list : List FoundReplica) → AllGo w (restart w n list)
unfolding restart
restart-on w n list = record { each = λ m b. found-there w n list m b (m == n) refl }

where-on : (w : World) (test : Bool) (v : World) → AllGo w v → IfSome (where_so test v) (AllGo w)
where-on w true v h = h
where-on w false v h = tt

pub outcome-on : (g : Givens) (w : World) (e : Event) → Carried g w → IfSome (outcome w e) (AllGo w)
unfolding outcome
outcome-on g w (event.Own s) h = changed-on w (own_change w s) (own-moved w s)
outcome-on g w (event.Office c) h = changed-on w (office_event w c) (untouched-moved w (office_event w c) (office-untouched w c))
outcome-on g w (event.Down c answered) h = down-on g w c.0 answered false h
outcome-on g w (event.Ready c) h = ready-on w c.0 false
outcome-on g w (event.Up c) h = up-on w c.0 false
outcome-on g w (event.Lost c way more) h = where-on w (nat_lt c.0 w.next_conn) (lost w c.0 way more) (lost-on w c.0 way more)
outcome-on g w (event.Fault d) h = fault-on g w d h
outcome-on g w (event.Stop n) h = where-on w (w.running n.0) (stop w n.0) (record { each = λ m b. rests refl refl })
outcome-on g w (event.Restart n list) h = where-on w (nat_lt n.0 w.nodes && not (w.running n.0)) (restart w n.0 list) (restart-on w n.0 list)
