-- What lower ends make of replicas.
use Rattle.std.proofs.Common.{ℕ, Bool, true, false, List, [], Option, Some, None, IfSome, Result, Ok, Err, ◌∙◌}
use Rattle.hd_base.specs.declared.numbers.ConnId.{ConnId}
use Rattle.world.specs.OpHeaders.Op.{Op}
use Rattle.world.specs.OpHeaders.Op.TheVariants as op
use Rattle.world.specs.OpHeaders.ReadOp.{ReadOp}
use Rattle.world.specs.OpHeaders.RecoveryOp.{RecoveryOp}
use Rattle.world.specs.OpHeaders.Values.{WriteFields}
use Rattle.world.specs.PacketCodec.Packet.{Packet}
use Rattle.replica_core.specs.declared.events.Event.{Event}
use Rattle.replica_core.specs.declared.events.Event.TheVariants as event
use Rattle.replica_core.specs.Views.{rule_in}
use Rattle.world.specs.ReplicaModel.ReplicaEvent.{ReplicaEvent}
use Rattle.world.specs.ReplicaModel.ReplicaEvent.TheVariants as replica_event
use Rattle.world.specs.ReplicaModel.Rows.{FullReplica, IsFull, IsOther, IsWithBytes, row, row_answer, broken, event_at}
use Rattle.world.proofs.ReplicaModel.RowLemmas.{rows_keep_bytes}
use Rattle.world.proofs.ReplicaModel.BlockLemmas.{block_kept}
use Rattle.world.specs.RequestRefusals.RequestRefusal.{RequestRefusal}
use Rattle.world.specs.RequestRefusals.RequestRefusal.TheVariants as refusal
use Rattle.world.specs.RequestRefusals.Pools.{is_in_pool}
use Rattle.world.specs.MemberCore.Turn.{Turn}
use Rattle.world.specs.MemberCore.Members.{down_turn, up_turn, hears}
use Rattle.world.specs.MemberCore.Requests.{request_event}
use Rattle.world.specs.MemberCore.Steps.{replica_after, request_at, booked_request, refused_by, oldest_at, ready_turn_at}
use Rattle.replica_core.specs.Transitions.{is_written_by}
use Rattle.world.specs.ReadCore.Servings.{ServingState, read_at, read_event, next_call, call_at, piece_at}
use Rattle.world.specs.ReadCore.ServePhase.{ServePhase}
use Rattle.world.specs.ReadCore.ServePhase.TheVariants as serve_phase
use Rattle.world.specs.RecoveryCore.RecoveryReply.{RecoveryReply}
use Rattle.world.specs.RecoveryCore.Members.{recovery_event, served_as}
use Rattle.world.specs.Parts.{Message, request, packet, ack, response, read_status, recovery_answer, FullMember, Lower, idle, writes, serves, recovers, ended_below, Break}
use Rattle.world.specs.Worlds.{World, Change}
use Rattle.world.specs.Connections.{Next, message, the_end, is_alive}
use Rattle.world.specs.Nodes.{node_of, replica_at, block_of, first_break, broke_at, closing, unless_failing, above_of, below_of, failing_turn, turn_change, takes_next, pending_at, member_down, member_up, ready_change, member_ready, failing_write, write_request, is_asked, breaking, read_change, failing_read, read_request, piece_as, serve_change, failing_recovery, recovery_request, first_message, next_recovery, lower_down, lower_ready, mirror_up}
use Rattle.world_laws.specs.Filling.{IsStored, IsBreak, Filled}
use Rattle.world_laws.proofs.FactTables.{if-each, when-each}
use Rattle.world_laws.proofs.Lawful.{Calls, down-calls, up-calls, ready-calls, Others, request-other, recovery-other}

-- ROWS

pub row-stored : (b : ℕ) (r : FullReplica) (e : ReplicaEvent) → IsStored b r → IsWithBytes e → IsStored b (row r e)
row-stored b r e s h = record { full = rows_keep_bytes r e s.full h; block_is = block_kept r.known (event_at r e) ∙ s.block_is }

pub broken-stored : (b : ℕ) (r : FullReplica) → IsStored b r → IsStored b (broken r)
broken-stored b r s = row-stored b r (replica_event.Other event.FileFault) s tt

after-stored : (b : ℕ) (r : FullReplica) (o : Option ReplicaEvent) → IsStored b r → IfSome o IsWithBytes → IsStored b (replica_after r o)
after-stored b r None s h = s
after-stored b r (Some e) s h = row-stored b r e s h

first-broke : (o : Option Break) (r : FullReplica) (e : ReplicaEvent) → IfSome o IsBreak → IsFull r → IsWithBytes e → IfSome (first_break o r e) IsBreak
first-broke None r e h f k = record { before = f; event = k }
first-broke (Some x) r e h f k = h

-- WHAT A CHANGE STORES

-- the replica that a change leaves, and how it broke, if it did
pub record Stores (w : World) (k : Change) : Type 0 where
  pub replica : IsStored k.block k.replica
  pub broke : IfSome k.broke IsBreak

broke-stored : (w : World) (c b : ℕ) (e : ReplicaEvent) → Filled w → IsWithBytes e → IfSome (broke_at w c b e) IsBreak
broke-stored w c b e h k = first-broke (w.breaks (node_of w c) b) (replica_at w c b) e (h.breaks (node_of w c) b) (h.replicas (node_of w c) b).full k

closing-stores : (w : World) (c : ℕ) → Filled w → Stores w (closing w c)
closing-stores w c h = record { replica = h.replicas 0 0; broke = h.breaks 0 0 }

unless-stores : (w : World) (fails : Bool) (c : ℕ) → Filled w → IfSome (unless_failing fails (closing w c)) (Stores w)
unless-stores w true c h = tt
unless-stores w false c h = closing-stores w c h

-- MEMBERS

failing-turn-stores : (w : World) (c : ℕ) (m : FullMember) (x : Next) (t : Turn) (o : Option ReplicaEvent) → Filled w → IfSome o IsWithBytes
    → IfSome (failing_turn w c m x t o) (Stores w)
failing-turn-stores w c m x t None h k = tt
failing-turn-stores w c m x t (Some e) h k = record {
  replica = broken-stored (block_of m.fields) (replica_at w c (block_of m.fields)) (h.replicas (node_of w c) (block_of m.fields));
  broke = broke-stored w c (block_of m.fields) e h k;
}

turn-stores : (w : World) (c : ℕ) (m : FullMember) (x : Next) (t : Turn) (fails : Bool) → Filled w → Calls t → IfSome (turn_change w c m x t fails) (Stores w)
turn-stores w c m x t true h k = failing-turn-stores w c m x t t.call h k
turn-stores w c m x t false h k = record {
  replica = after-stored (block_of m.fields) (replica_at w c (block_of m.fields)) t.call (h.replicas (node_of w c) (block_of m.fields)) k;
  broke = h.breaks (node_of w c) (block_of m.fields);
}

down-stores : (w : World) (c : ℕ) (m : FullMember) (x : Next) (fails : Bool) → Filled w → IfSome (member_down w c m x fails) (Stores w)
down-stores w c m x fails h =
    when-each (Stores w) (takes_next m.state (pending_at w c m) x) _
    (λ _. turn-stores w c m x (down_turn m.state (above_of x)) fails h (down-calls m.state (above_of x)))

up-stores : (w : World) (c : ℕ) (m : FullMember) (x : Next) (fails : Bool) → Filled w → IfSome (member_up w c m x fails) (Stores w)
up-stores w c m x fails h =
    let oldest = oldest_at (replica_at w c (block_of m.fields)) in
    when-each (Stores w) (hears m.state) _
    (λ _. turn-stores w c m x (up_turn m.state oldest (below_of x)) fails h (up-calls m.state oldest (below_of x)))

ready-as : (w : World) (c : ℕ) (m : FullMember) (o : Option Turn) (fails : Bool) → Filled w → IfSome o Calls → IfSome (ready_change w c m o fails) (Stores w)
ready-as w c m None fails h k = tt
ready-as w c m (Some t) fails h k = turn-stores w c m the_end t fails h k

ready-stores : (w : World) (c : ℕ) (m : FullMember) (fails : Bool) → Filled w → IfSome (member_ready w c m fails) (Stores w)
ready-stores w c m fails h =
    let r = replica_at w c (block_of m.fields) in
    ready-as w c m (ready_turn_at m.state r) fails h (ready-calls m.state (oldest_at r) (is_written_by r.known.stream m.state.conn))

-- WRITE REQUESTS

booked-stored : (b : ℕ) (conn : ConnId) (fields : WriteFields) (asked : Bool) (r : FullReplica) (o : Option RequestRefusal) → IsStored b r
    → IsStored b (booked_request conn fields asked r o).replica
booked-stored b conn fields asked r None s = s
booked-stored b conn fields asked r (Some refused) s = s

requested-stored : (b : ℕ) (conn : ConnId) (fields : WriteFields) (asked : Bool) (r : FullReplica) (e : Result Event RequestRefusal) → IsStored b r → Others e
    → IsStored b (request_at conn fields asked r e).replica
requested-stored b conn fields asked r (Err refused) s k = s
requested-stored b conn fields asked r (Ok e) s k =
    booked-stored b conn fields asked (row r (replica_event.Other e)) (refused_by (row_answer r (replica_event.Other e))) (row-stored b r (replica_event.Other e) s k)

failing-write-stores : (w : World) (c : ℕ) (fields : WriteFields) (e : Result Event RequestRefusal) → Filled w → Others e → IfSome (failing_write w c fields e) (Stores w)
failing-write-stores w c fields (Err refused) h k = tt
failing-write-stores w c fields (Ok e) h k = record {
  replica = broken-stored (block_of fields) (replica_at w c (block_of fields)) (h.replicas (node_of w c) (block_of fields));
  broke = broke-stored w c (block_of fields) (replica_event.Other e) h k;
}

write-stores : (w : World) (c : ℕ) (fields : WriteFields) (answered fails : Bool) → Filled w → IfSome (write_request w c fields answered fails) (Stores w)
write-stores w c fields answered true h =
    let held = rule_in (replica_at w c (block_of fields)).known in
    failing-write-stores w c fields (request_event (record { 0 = c }) fields held) h (request-other (record { 0 = c }) fields held)
write-stores w c fields answered false h =
    let r = replica_at w c (block_of fields) in
    let conn : ConnId = record { 0 = c } in
    record {
      replica = requested-stored (block_of fields) conn fields (is_asked w c fields answered) r (request_event conn fields (rule_in r.known))
          (h.replicas (node_of w c) (block_of fields)) (request-other conn fields (rule_in r.known));
      broke = h.breaks (node_of w c) (block_of fields);
    }

-- READS

breaking-stores : (w : World) (c b : ℕ) (e : ReplicaEvent) (answers : List Message) → Filled w → IsWithBytes e → Stores w (breaking w c b (broken (replica_at w c b)) e answers)
breaking-stores w c b e answers h k = record {
  replica = broken-stored b (replica_at w c b) (h.replicas (node_of w c) b);
  broke = broke-stored w c b e h k;
}

read-stores : (w : World) (c b : ℕ) (s : Result ServingState RequestRefusal) → Filled w → Stores w (read_change w c b s)
read-stores w c b (Ok s) h = record { replica = h.replicas 0 0; broke = h.breaks 0 0 }
read-stores w c b (Err r) h = record { replica = h.replicas 0 0; broke = h.breaks 0 0 }

read-other : (r : ReadOp) → Others (read_event r)
unfolding read_event
read-other r = if-each (Others {E = RequestRefusal}) (is_in_pool r.block) (Ok (event.Read r.block.stamp r.offset r.len)) (Err refusal.Pool) (λ _. tt) (λ _. tt)

failing-read-stores : (w : World) (c b : ℕ) (e : Result Event RequestRefusal) → Filled w → Others e → IfSome (failing_read w c b e) (Stores w)
failing-read-stores w c b (Err r) h k = tt
failing-read-stores w c b (Ok e) h k = breaking-stores w c b (replica_event.Other e) _ h k

read-request-stores : (w : World) (c : ℕ) (r : ReadOp) (fails : Bool) → Filled w → IfSome (read_request w c r fails) (Stores w)
read-request-stores w c r true h = failing-read-stores w c r.block.block.0 (read_event r) h (read-other r)
read-request-stores w c r false h = read-stores w c r.block.block.0 (read_at r (replica_at w c r.block.block.0)) h

piece-stores : (w : World) (c b : ℕ) (s : ServingState) (o : Option Packet) → Filled w → Stores w (piece_as w c b s o)
piece-stores w c b s None h = record { replica = h.replicas 0 0; broke = h.breaks 0 0 }
piece-stores w c b s (Some p) h = record { replica = h.replicas 0 0; broke = h.breaks 0 0 }

call-other : (p : ServePhase) (s : ServingState) → IfSome (call_at p s) IsOther
call-other serve_phase.Sending s = tt
call-other serve_phase.Awaiting s = tt
call-other serve_phase.Over s = tt

serve-stores : (w : World) (c b : ℕ) (s : ServingState) (o : Option Event) (fails : Bool) → Filled w → IfSome o IsOther → IfSome (serve_change w c b s o fails) (Stores w)
serve-stores w c b s None fails h k = tt
serve-stores w c b s (Some e) true h k = breaking-stores w c b (replica_event.Other e) [] h k
serve-stores w c b s (Some e) false h k = piece-stores w c b (piece_at s (replica_at w c b)).serving (piece_at s (replica_at w c b)).packet h

-- BLOCK RECOVERIES

served-stored : (b : ℕ) (r : FullReplica) (e : Result Event RecoveryReply) → IsStored b r → Others e → IsStored b (served_as r e).replica
served-stored b r (Err said) s k = s
served-stored b r (Ok e) s k = row-stored b r (replica_event.Other e) s k

failing-recovery-stores : (w : World) (c : ℕ) (r : RecoveryOp) (e : Result Event RecoveryReply) → Filled w → Others e → IfSome (failing_recovery w c r e) (Stores w)
failing-recovery-stores w c r (Err said) h k = tt
failing-recovery-stores w c r (Ok e) h k = record {
  replica = broken-stored r.block.block.0 (replica_at w c r.block.block.0) (h.replicas (node_of w c) r.block.block.0);
  broke = broke-stored w c r.block.block.0 (replica_event.Other e) h k;
}

recovery-stores : (w : World) (c : ℕ) (r : RecoveryOp) (fails : Bool) → Filled w → IfSome (recovery_request w c r fails) (Stores w)
recovery-stores w c r true h = failing-recovery-stores w c r (recovery_event r) h (recovery-other r)
recovery-stores w c r false h = record {
  replica = served-stored r.block.block.0 (replica_at w c r.block.block.0) (recovery_event r) (h.replicas (node_of w c) r.block.block.0) (recovery-other r);
  broke = h.breaks (node_of w c) r.block.block.0;
}

-- THE LOWER END

request-stores : (w : World) (c : ℕ) (o : Op) (answered fails : Bool) → Filled w → IfSome (first_message w c (request o) answered fails) (Stores w)
request-stores w c (op.Write fields) answered fails h = write-stores w c fields answered fails h
request-stores w c (op.Read r) answered fails h = read-request-stores w c r fails h
request-stores w c (op.Recovery r) answered fails h = recovery-stores w c r fails h
request-stores w c (op.Transfer r) answered fails h = unless-stores w fails c h
request-stores w c (op.Checksum r) answered fails h = unless-stores w fails c h

first-stores : (w : World) (c : ℕ) (m : Message) (answered fails : Bool) → Filled w → IfSome (first_message w c m answered fails) (Stores w)
first-stores w c (request o) answered fails h = request-stores w c o answered fails h
first-stores w c (packet p) answered fails h = unless-stores w fails c h
first-stores w c (ack a) answered fails h = unless-stores w fails c h
first-stores w c (response r) answered fails h = unless-stores w fails c h
first-stores w c (read_status s) answered fails h = unless-stores w fails c h
first-stores w c (recovery_answer a) answered fails h = unless-stores w fails c h

next-request-stores : (w : World) (c : ℕ) (o : Op) (fails : Bool) → Filled w → IfSome (next_recovery w c (message (request o)) fails) (Stores w)
next-request-stores w c (op.Write fields) fails h = unless-stores w fails c h
next-request-stores w c (op.Read r) fails h = unless-stores w fails c h
next-request-stores w c (op.Recovery r) fails h = recovery-stores w c r fails h
next-request-stores w c (op.Transfer r) fails h = unless-stores w fails c h
next-request-stores w c (op.Checksum r) fails h = unless-stores w fails c h

next-message-stores : (w : World) (c : ℕ) (m : Message) (fails : Bool) → Filled w → IfSome (next_recovery w c (message m) fails) (Stores w)
next-message-stores w c (request o) fails h = next-request-stores w c o fails h
next-message-stores w c (packet p) fails h = unless-stores w fails c h
next-message-stores w c (ack a) fails h = unless-stores w fails c h
next-message-stores w c (response r) fails h = unless-stores w fails c h
next-message-stores w c (read_status s) fails h = unless-stores w fails c h
next-message-stores w c (recovery_answer a) fails h = unless-stores w fails c h

next-stores : (w : World) (c : ℕ) (x : Next) (fails : Bool) → Filled w → IfSome (next_recovery w c x fails) (Stores w)
next-stores w c (message m) fails h = next-message-stores w c m fails h
next-stores w c the_end fails h = unless-stores w fails c h

-- what the lower end takes
pub lower-down-stores : (l : Lower) (w : World) (c : ℕ) (x : Next) (answered fails : Bool) → Filled w → IfSome (lower_down l w c x answered fails) (Stores w)
lower-down-stores idle w c (message m) answered fails h = first-stores w c m answered fails h
lower-down-stores idle w c the_end answered fails h = unless-stores w fails c h
lower-down-stores (writes m) w c x answered fails h = down-stores w c m x fails h
lower-down-stores (serves b s) w c x answered fails h = unless-stores w fails c h
lower-down-stores recovers w c x answered fails h = next-stores w c x fails h
lower-down-stores ended_below w c x answered fails h = tt

-- what it does without a message
pub lower-ready-stores : (l : Lower) (w : World) (c : ℕ) (fails : Bool) → Filled w → IfSome (lower_ready l w c fails) (Stores w)
lower-ready-stores idle w c fails h = tt
lower-ready-stores (writes m) w c fails h = ready-stores w c m fails h
lower-ready-stores (serves b s) w c fails h = serve-stores w c b s (next_call s) fails h (call-other s.phase s)
lower-ready-stores recovers w c fails h = tt
lower-ready-stores ended_below w c fails h = tt

-- what a member takes from its mirror
pub mirror-up-stores : (l : Lower) (w : World) (d : ℕ) (x : Next) (fails : Bool) → Filled w → IfSome (mirror_up l w d x fails) (Stores w)
mirror-up-stores idle w d x fails h = tt
mirror-up-stores (writes m) w d x fails h = when-each (Stores w) (is_alive w (w.dialled d).to) _ (λ _. up-stores w d m x fails h)
mirror-up-stores (serves b s) w d x fails h = tt
mirror-up-stores recovers w d x fails h = tt
mirror-up-stores ended_below w d x fails h = tt
