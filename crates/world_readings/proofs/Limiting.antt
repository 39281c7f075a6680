-- What lower ends make of replicas: none gets more bytes than a block may have.
use Rattle.std.proofs.Common.{◌≡◌, ℕ, ◌+◌, ◌≤◌, Bool, true, false, List, [], ◌++◌, length, Option, Some, None, IfSome, Result, Ok, Err, refl, subst, arith}
use Rattle.std.specs.Prelude.{nat_lt, negsuc}
use Rattle.std.specs.Ordering.{int_eq}
use Rattle.std.proofs.lemmas.Bool.Decides.{nat_tests}
use Rattle.std.proofs.lemmas.List.{length-take}
use Rattle.hd_base.specs.Results.{◌>>=◌}
use Rattle.hd_base.specs.SumRules.{Rule}
use Rattle.replica_core.specs.declared.ack_queue.PendingPacket.{PendingPacket}
use Rattle.replica_core.specs.declared.extents.PacketExtent.{PacketExtent}
use Rattle.replica_core.specs.declared.info.ReplicaInfo.{ReplicaInfo}
use Rattle.replica_core.specs.declared.records.ReplicaRecord.{ReplicaRecord}
use Rattle.replica_core.specs.declared.refusals.Refusal.TheVariants as core_refusal
use Rattle.replica_core.specs.declared.streams.Stream.{Stream}
use Rattle.replica_core.specs.Extents.{start_of, place_check, packet_at, pending_of, heartbeat_of, stream_after}
use Rattle.replica_core.specs.Info.{state_of, is_writable}
use Rattle.replica_core.specs.Laws.{IsWritersPacket}
use Rattle.replica_core.specs.Sound.{Sound}
use Rattle.replica_core.specs.Transitions.{Outcome, record_after, present, stream_by, extent_transition, packet_transition, state_after, transition}
use Rattle.replica_core.proofs.InfoLemmas.{present_is}
use Rattle.replica_core.proofs.StepLemmas.{after_check, after_step, choice, step_ok}
use Rattle.replica_core.proofs.TransitionLemmas.{written_rises}
use Rattle.world_laws.specs.PacketStream.TheConstants.{BLOCK_LIMIT}
use Rattle.hd_base.specs.declared.numbers.ConnId.{ConnId}
use Rattle.world.specs.OpHeaders.Op.{Op}
use Rattle.world.specs.OpHeaders.Op.TheVariants as op
use Rattle.world.specs.OpHeaders.ReadOp.{ReadOp}
use Rattle.world.specs.OpHeaders.RecoveryOp.{RecoveryOp}
use Rattle.world.specs.OpHeaders.Values.{WriteFields}
use Rattle.world.specs.PacketCodec.Packet.{Packet}
use Rattle.replica_core.specs.declared.events.Event.{Event}
use Rattle.replica_core.specs.declared.events.Event.TheVariants as event
use Rattle.replica_core.specs.Views.{rule_in, written_in, written_at}
use Rattle.world.specs.ReplicaModel.ReplicaEvent.{ReplicaEvent}
use Rattle.world.specs.ReplicaModel.ReplicaEvent.TheVariants as replica_event
use Rattle.world.specs.ReplicaModel.Rows.{FullReplica, IsFull, IsOther, IsWithBytes, row, row_answer, broken, event_at, brought}
use Rattle.world.proofs.ReplicaModel.RowLemmas.{rows_keep_bytes}
use Rattle.world.specs.RequestRefusals.RequestRefusal.{RequestRefusal}
use Rattle.world.specs.RequestRefusals.RequestRefusal.TheVariants as refusal
use Rattle.world.specs.RequestRefusals.Pools.{is_in_pool}
use Rattle.world.specs.MemberCore.Turn.{Turn}
use Rattle.world.specs.MemberCore.Members.{down_turn, up_turn, hears}
use Rattle.world.specs.MemberCore.Requests.{request_event}
use Rattle.world.specs.MemberCore.Steps.{replica_after, request_at, booked_request, refused_by, oldest_at, ready_turn_at}
use Rattle.replica_core.specs.Transitions.{is_written_by}
use Rattle.world.specs.ReadCore.Servings.{ServingState, read_at, read_event, next_call, call_at, piece_at}
use Rattle.world.specs.ReadCore.ServePhase.{ServePhase}
use Rattle.world.specs.ReadCore.ServePhase.TheVariants as serve_phase
use Rattle.world.specs.RecoveryCore.RecoveryReply.{RecoveryReply}
use Rattle.world.specs.RecoveryCore.Members.{recovery_event, served_as}
use Rattle.world.specs.Parts.{Message, request, packet, ack, response, read_status, recovery_answer, FullMember, Lower, idle, writes, serves, recovers, ended_below, Break}
use Rattle.world.specs.Worlds.{World, Change}
use Rattle.world.specs.Connections.{Next, message, the_end, is_alive}
use Rattle.world.specs.Nodes.{node_of, replica_at, block_of, first_break, broke_at, closing, unless_failing, above_of, below_of, failing_turn, turn_change, takes_next, pending_at, member_down, member_up, ready_change, member_ready, failing_write, write_request, is_asked, breaking, read_change, failing_read, read_request, piece_as, serve_change, failing_recovery, recovery_request, first_message, next_recovery, lower_down, lower_ready, mirror_up}
use Rattle.world_laws.proofs.FactTables.{if-each, when-each}
use Rattle.world_laws.proofs.Lawful.{Calls, down-calls, up-calls, ready-calls, Others, request-other, recovery-other}

-- LIMITS

-- a sound replica with no more bytes than a block may have
pub record IsLimited (r : FullReplica) : Type 0 where
  pub full : IsFull r
  pub few : length r.bytes ≤ BLOCK_LIMIT

-- a replica broke in an event, before which it was such a one
pub record IsLimitedBreak (x : Break) : Type 0 where
  pub before : IsLimited x.before
  pub event : IsWithBytes x.event

pub record Limited (w : World) : Type 0 where
  pub replicas : (node block : ℕ) → IsLimited (w.replicas node block)
  pub breaks : (node block : ℕ) → IfSome (w.breaks node block) IsLimitedBreak

start-few : (p : PacketExtent) (offset : ℕ) → start_of p ≡ Ok offset → offset + p.length ≤ BLOCK_LIMIT
unfolding start_of
start-few p offset e = grind (arith, nat_tests)

packet-end : (r : Rule) (p : PacketExtent) (offset : ℕ) (e : PendingPacket) → packet_at r p offset ≡ Ok e → e.end ≡ offset + p.length
unfolding packet_at
packet-end r p offset e q = grind (arith, nat_tests)

pending-few : (r : Rule) (p : PacketExtent) (written : ℕ) (e : PendingPacket) → pending_of r p written ≡ Ok e → e.end ≤ BLOCK_LIMIT
pending-few r p written e q =
    let a = step_ok (start_of p) (λ offset. place_check p written offset >>= (λ _. packet_at r p offset)) e q in
    let b = step_ok (place_check p written a.0) (λ _. packet_at r p a.0) e a.2 in
    omega (arith, start-few p a.0 a.1, packet-end r p a.0 e b.2)

-- at most so much is written
abbrev Few : ReplicaRecord → Type 0
Few c = written_in c ≤ BLOCK_LIMIT

held-few : (c : ReplicaRecord) (h : ReplicaInfo) → c.info ≡ Some h → Few c → h.written ≤ BLOCK_LIMIT
held-few c h e few = subst (λ (o : Option ReplicaInfo). written_at o ≤ BLOCK_LIMIT) e few

extent-few : (c : ReplicaRecord) (h : ReplicaInfo) (s : Stream) (p : PacketExtent) → Few c → h.written ≤ BLOCK_LIMIT → Few (record_after c (extent_transition c h s p))
unfolding extent_transition
extent-few c h s p few held =
    choice (λ (o : Outcome). Few (record_after c o)) (int_eq p.seqno (negsuc 0)) _ _
    (λ _. after_step Few c (heartbeat_of p) _ few (λ e _. few))
    (λ _. after_step Few c (stream_after s p) _ few (λ u _. after_step Few c (pending_of h.sums p h.written) _ few (λ e q. omega (arith, held, pending-few h.sums p h.written e q))))

packet-few : (c : ReplicaRecord) (conn : ConnId) (p : PacketExtent) → Few c → Few (record_after c (packet_transition c conn p))
packet-few c conn p few =
    after_step Few c (present c) _ few (λ h i.
    after_check Few c (is_writable (state_of h)) core_refusal.NotWriter _ few (λ _.
    after_step Few c (stream_by c.stream conn) _ few (λ s _. extent-few c h s p few (held-few c h (present_is c h i).1 few))))

-- where more is written than before, it was a packet
risen-few : (c : ReplicaRecord) (e : Event) → Few c → IsWritersPacket c e → Few (state_after c e)
unfolding transition
risen-few c (event.Packet conn seqno offset n sums last sync bad) few is = packet-few c conn _ few
risen-few c (event.Create conn stamp sums) few is = absurd is
risen-few c (event.Temporary conn stamp sums) few is = absurd is
risen-few c (event.Append conn named new n) few is = absurd is
risen-few c (event.AppendRecovery conn named new n) few is = absurd is
risen-few c (event.StreamRecovery conn named new low high) few is = absurd is
risen-few c (event.CloseRecovery named new n) few is = absurd is
risen-few c (event.Ack conn seqno good) few is = absurd is
risen-few c (event.Ended conn) few is = absurd is
risen-few c (event.Init named recovery) few is = absurd is
risen-few c (event.Update recovery n) few is = absurd is
risen-few c (event.Read named offset n) few is = absurd is
risen-few c (event.Give named offset n) few is = absurd is
risen-few c event.FileFault few is = absurd is

event-few : (c : ReplicaRecord) (e : Event) → Sound c → Few c → Few (state_after c e)
event-few c e s few = go (nat_lt (written_in c) (written_in (state_after c e))) refl
  where
    go : (b : Bool) → nat_lt (written_in c) (written_in (state_after c e)) ≡ b → Few (state_after c e)
    go true q = risen-few c e few (written_rises c e s (grind (arith, nat_tests, q)))
    go false q = let le : written_in (state_after c e) ≤ written_in c = grind (arith, nat_tests, q) in omega (arith, le, few)

row-few : (r : FullReplica) (e : ReplicaEvent) → IsLimited r → length (row r e).bytes ≤ BLOCK_LIMIT
row-few r e s =
    omega (arith, length-take (written_in (state_after r.known (event_at r e))) (r.bytes ++ brought (length r.bytes) e), event-few r.known (event_at r e) s.full.sound (omega (arith, s.few, s.full.all)))

-- ROWS

pub row-limited : (b : ℕ) (r : FullReplica) (e : ReplicaEvent) → IsLimited r → IsWithBytes e → IsLimited (row r e)
row-limited b r e s h = record { full = rows_keep_bytes r e s.full h; few = row-few r e s }

pub broken-limited : (b : ℕ) (r : FullReplica) → IsLimited r → IsLimited (broken r)
broken-limited b r s = row-limited b r (replica_event.Other event.FileFault) s tt

after-limited : (b : ℕ) (r : FullReplica) (o : Option ReplicaEvent) → IsLimited r → IfSome o IsWithBytes → IsLimited (replica_after r o)
after-limited b r None s h = s
after-limited b r (Some e) s h = row-limited b r e s h

first-broke : (o : Option Break) (r : FullReplica) (e : ReplicaEvent) → IfSome o IsLimitedBreak → IsLimited r → IsWithBytes e → IfSome (first_break o r e) IsLimitedBreak
first-broke None r e h f k = record { before = f; event = k }
first-broke (Some x) r e h f k = h

-- WHAT A CHANGE STORES

-- the replica that a change leaves, and how it broke, if it did
pub record Limits (w : World) (k : Change) : Type 0 where
  pub replica : IsLimited k.replica
  pub broke : IfSome k.broke IsLimitedBreak

broke-limited : (w : World) (c b : ℕ) (e : ReplicaEvent) → Limited w → IsWithBytes e → IfSome (broke_at w c b e) IsLimitedBreak
broke-limited w c b e h k = first-broke (w.breaks (node_of w c) b) (replica_at w c b) e (h.breaks (node_of w c) b) (h.replicas (node_of w c) b) k

closing-limits : (w : World) (c : ℕ) → Limited w → Limits w (closing w c)
closing-limits w c h = record { replica = h.replicas 0 0; broke = h.breaks 0 0 }

unless-limits : (w : World) (fails : Bool) (c : ℕ) → Limited w → IfSome (unless_failing fails (closing w c)) (Limits w)
unless-limits w true c h = tt
unless-limits w false c h = closing-limits w c h

-- MEMBERS

failing-turn-limits : (w : World) (c : ℕ) (m : FullMember) (x : Next) (t : Turn) (o : Option ReplicaEvent) → Limited w → IfSome o IsWithBytes
    → IfSome (failing_turn w c m x t o) (Limits w)
failing-turn-limits w c m x t None h k = tt
failing-turn-limits w c m x t (Some e) h k = record {
  replica = broken-limited (block_of m.fields) (replica_at w c (block_of m.fields)) (h.replicas (node_of w c) (block_of m.fields));
  broke = broke-limited w c (block_of m.fields) e h k;
}

turn-limits : (w : World) (c : ℕ) (m : FullMember) (x : Next) (t : Turn) (fails : Bool) → Limited w → Calls t → IfSome (turn_change w c m x t fails) (Limits w)
turn-limits w c m x t true h k = failing-turn-limits w c m x t t.call h k
turn-limits w c m x t false h k = record {
  replica = after-limited (block_of m.fields) (replica_at w c (block_of m.fields)) t.call (h.replicas (node_of w c) (block_of m.fields)) k;
  broke = h.breaks (node_of w c) (block_of m.fields);
}

down-limits : (w : World) (c : ℕ) (m : FullMember) (x : Next) (fails : Bool) → Limited w → IfSome (member_down w c m x fails) (Limits w)
down-limits w c m x fails h =
    when-each (Limits w) (takes_next m.state (pending_at w c m) x) _
    (λ _. turn-limits w c m x (down_turn m.state (above_of x)) fails h (down-calls m.state (above_of x)))

up-limits : (w : World) (c : ℕ) (m : FullMember) (x : Next) (fails : Bool) → Limited w → IfSome (member_up w c m x fails) (Limits w)
up-limits w c m x fails h =
    let oldest = oldest_at (replica_at w c (block_of m.fields)) in
    when-each (Limits w) (hears m.state) _
    (λ _. turn-limits w c m x (up_turn m.state oldest (below_of x)) fails h (up-calls m.state oldest (below_of x)))

ready-as : (w : World) (c : ℕ) (m : FullMember) (o : Option Turn) (fails : Bool) → Limited w → IfSome o Calls → IfSome (ready_change w c m o fails) (Limits w)
ready-as w c m None fails h k = tt
ready-as w c m (Some t) fails h k = turn-limits w c m the_end t fails h k

ready-limits : (w : World) (c : ℕ) (m : FullMember) (fails : Bool) → Limited w → IfSome (member_ready w c m fails) (Limits w)
ready-limits w c m fails h =
    let r = replica_at w c (block_of m.fields) in
    ready-as w c m (ready_turn_at m.state r) fails h (ready-calls m.state (oldest_at r) (is_written_by r.known.stream m.state.conn))

-- WRITE REQUESTS

booked-limited : (b : ℕ) (conn : ConnId) (fields : WriteFields) (asked : Bool) (r : FullReplica) (o : Option RequestRefusal) → IsLimited r
    → IsLimited (booked_request conn fields asked r o).replica
booked-limited b conn fields asked r None s = s
booked-limited b conn fields asked r (Some refused) s = s

requested-limited : (b : ℕ) (conn : ConnId) (fields : WriteFields) (asked : Bool) (r : FullReplica) (e : Result Event RequestRefusal) → IsLimited r → Others e
    → IsLimited (request_at conn fields asked r e).replica
requested-limited b conn fields asked r (Err refused) s k = s
requested-limited b conn fields asked r (Ok e) s k =
    booked-limited b conn fields asked (row r (replica_event.Other e)) (refused_by (row_answer r (replica_event.Other e))) (row-limited b r (replica_event.Other e) s k)

failing-write-limits : (w : World) (c : ℕ) (fields : WriteFields) (e : Result Event RequestRefusal) → Limited w → Others e → IfSome (failing_write w c fields e) (Limits w)
failing-write-limits w c fields (Err refused) h k = tt
failing-write-limits w c fields (Ok e) h k = record {
  replica = broken-limited (block_of fields) (replica_at w c (block_of fields)) (h.replicas (node_of w c) (block_of fields));
  broke = broke-limited w c (block_of fields) (replica_event.Other e) h k;
}

write-limits : (w : World) (c : ℕ) (fields : WriteFields) (answered fails : Bool) → Limited w → IfSome (write_request w c fields answered fails) (Limits w)
write-limits w c fields answered true h =
    let held = rule_in (replica_at w c (block_of fields)).known in
    failing-write-limits w c fields (request_event (record { 0 = c }) fields held) h (request-other (record { 0 = c }) fields held)
write-limits w c fields answered false h =
    let r = replica_at w c (block_of fields) in
    let conn : ConnId = record { 0 = c } in
    record {
      replica = requested-limited (block_of fields) conn fields (is_asked w c fields answered) r (request_event conn fields (rule_in r.known))
          (h.replicas (node_of w c) (block_of fields)) (request-other conn fields (rule_in r.known));
      broke = h.breaks (node_of w c) (block_of fields);
    }

-- READS

breaking-limits : (w : World) (c b : ℕ) (e : ReplicaEvent) (answers : List Message) → Limited w → IsWithBytes e → Limits w (breaking w c b (broken (replica_at w c b)) e answers)
breaking-limits w c b e answers h k = record {
  replica = broken-limited b (replica_at w c b) (h.replicas (node_of w c) b);
  broke = broke-limited w c b e h k;
}

read-limits : (w : World) (c b : ℕ) (s : Result ServingState RequestRefusal) → Limited w → Limits w (read_change w c b s)
read-limits w c b (Ok s) h = record { replica = h.replicas 0 0; broke = h.breaks 0 0 }
read-limits w c b (Err r) h = record { replica = h.replicas 0 0; broke = h.breaks 0 0 }

read-other : (r : ReadOp) → Others (read_event r)
unfolding read_event
read-other r = if-each (Others {E = RequestRefusal}) (is_in_pool r.block) (Ok (event.Read r.block.stamp r.offset r.len)) (Err refusal.Pool) (λ _. tt) (λ _. tt)

failing-read-limits : (w : World) (c b : ℕ) (e : Result Event RequestRefusal) → Limited w → Others e → IfSome (failing_read w c b e) (Limits w)
failing-read-limits w c b (Err r) h k = tt
failing-read-limits w c b (Ok e) h k = breaking-limits w c b (replica_event.Other e) _ h k

read-request-limits : (w : World) (c : ℕ) (r : ReadOp) (fails : Bool) → Limited w → IfSome (read_request w c r fails) (Limits w)
read-request-limits w c r true h = failing-read-limits w c r.block.block.0 (read_event r) h (read-other r)
read-request-limits w c r false h = read-limits w c r.block.block.0 (read_at r (replica_at w c r.block.block.0)) h

piece-limits : (w : World) (c b : ℕ) (s : ServingState) (o : Option Packet) → Limited w → Limits w (piece_as w c b s o)
piece-limits w c b s None h = record { replica = h.replicas 0 0; broke = h.breaks 0 0 }
piece-limits w c b s (Some p) h = record { replica = h.replicas 0 0; broke = h.breaks 0 0 }

call-other : (p : ServePhase) (s : ServingState) → IfSome (call_at p s) IsOther
call-other serve_phase.Sending s = tt
call-other serve_phase.Awaiting s = tt
call-other serve_phase.Over s = tt

serve-limits : (w : World) (c b : ℕ) (s : ServingState) (o : Option Event) (fails : Bool) → Limited w → IfSome o IsOther → IfSome (serve_change w c b s o fails) (Limits w)
serve-limits w c b s None fails h k = tt
serve-limits w c b s (Some e) true h k = breaking-limits w c b (replica_event.Other e) [] h k
serve-limits w c b s (Some e) false h k = piece-limits w c b (piece_at s (replica_at w c b)).serving (piece_at s (replica_at w c b)).packet h

-- BLOCK RECOVERIES

served-limited : (b : ℕ) (r : FullReplica) (e : Result Event RecoveryReply) → IsLimited r → Others e → IsLimited (served_as r e).replica
served-limited b r (Err said) s k = s
served-limited b r (Ok e) s k = row-limited b r (replica_event.Other e) s k

failing-recovery-limits : (w : World) (c : ℕ) (r : RecoveryOp) (e : Result Event RecoveryReply) → Limited w → Others e → IfSome (failing_recovery w c r e) (Limits w)
failing-recovery-limits w c r (Err said) h k = tt
failing-recovery-limits w c r (Ok e) h k = record {
  replica = broken-limited r.block.block.0 (replica_at w c r.block.block.0) (h.replicas (node_of w c) r.block.block.0);
  broke = broke-limited w c r.block.block.0 (replica_event.Other e) h k;
}

recovery-limits : (w : World) (c : ℕ) (r : RecoveryOp) (fails : Bool) → Limited w → IfSome (recovery_request w c r fails) (Limits w)
recovery-limits w c r true h = failing-recovery-limits w c r (recovery_event r) h (recovery-other r)
recovery-limits w c r false h = record {
  replica = served-limited r.block.block.0 (replica_at w c r.block.block.0) (recovery_event r) (h.replicas (node_of w c) r.block.block.0) (recovery-other r);
  broke = h.breaks (node_of w c) r.block.block.0;
}

-- THE LOWER END

request-limits : (w : World) (c : ℕ) (o : Op) (answered fails : Bool) → Limited w → IfSome (first_message w c (request o) answered fails) (Limits w)
request-limits w c (op.Write fields) answered fails h = write-limits w c fields answered fails h
request-limits w c (op.Read r) answered fails h = read-request-limits w c r fails h
request-limits w c (op.Recovery r) answered fails h = recovery-limits w c r fails h
request-limits w c (op.Transfer r) answered fails h = unless-limits w fails c h
request-limits w c (op.Checksum r) answered fails h = unless-limits w fails c h

first-limits : (w : World) (c : ℕ) (m : Message) (answered fails : Bool) → Limited w → IfSome (first_message w c m answered fails) (Limits w)
first-limits w c (request o) answered fails h = request-limits w c o answered fails h
first-limits w c (packet p) answered fails h = unless-limits w fails c h
first-limits w c (ack a) answered fails h = unless-limits w fails c h
first-limits w c (response r) answered fails h = unless-limits w fails c h
first-limits w c (read_status s) answered fails h = unless-limits w fails c h
first-limits w c (recovery_answer a) answered fails h = unless-limits w fails c h

next-request-limits : (w : World) (c : ℕ) (o : Op) (fails : Bool) → Limited w → IfSome (next_recovery w c (message (request o)) fails) (Limits w)
next-request-limits w c (op.Write fields) fails h = unless-limits w fails c h
next-request-limits w c (op.Read r) fails h = unless-limits w fails c h
next-request-limits w c (op.Recovery r) fails h = recovery-limits w c r fails h
next-request-limits w c (op.Transfer r) fails h = unless-limits w fails c h
next-request-limits w c (op.Checksum r) fails h = unless-limits w fails c h

next-message-limits : (w : World) (c : ℕ) (m : Message) (fails : Bool) → Limited w → IfSome (next_recovery w c (message m) fails) (Limits w)
next-message-limits w c (request o) fails h = next-request-limits w c o fails h
next-message-limits w c (packet p) fails h = unless-limits w fails c h
next-message-limits w c (ack a) fails h = unless-limits w fails c h
next-message-limits w c (response r) fails h = unless-limits w fails c h
next-message-limits w c (read_status s) fails h = unless-limits w fails c h
next-message-limits w c (recovery_answer a) fails h = unless-limits w fails c h

next-limits : (w : World) (c : ℕ) (x : Next) (fails : Bool) → Limited w → IfSome (next_recovery w c x fails) (Limits w)
next-limits w c (message m) fails h = next-message-limits w c m fails h
next-limits w c the_end fails h = unless-limits w fails c h

-- what the lower end takes
pub lower-down-limits : (l : Lower) (w : World) (c : ℕ) (x : Next) (answered fails : Bool) → Limited w → IfSome (lower_down l w c x answered fails) (Limits w)
lower-down-limits idle w c (message m) answered fails h = first-limits w c m answered fails h
lower-down-limits idle w c the_end answered fails h = unless-limits w fails c h
lower-down-limits (writes m) w c x answered fails h = down-limits w c m x fails h
lower-down-limits (serves b s) w c x answered fails h = unless-limits w fails c h
lower-down-limits recovers w c x answered fails h = next-limits w c x fails h
lower-down-limits ended_below w c x answered fails h = tt

-- what it does without a message
pub lower-ready-limits : (l : Lower) (w : World) (c : ℕ) (fails : Bool) → Limited w → IfSome (lower_ready l w c fails) (Limits w)
lower-ready-limits idle w c fails h = tt
lower-ready-limits (writes m) w c fails h = ready-limits w c m fails h
lower-ready-limits (serves b s) w c fails h = serve-limits w c b s (next_call s) fails h (call-other s.phase s)
lower-ready-limits recovers w c fails h = tt
lower-ready-limits ended_below w c fails h = tt

-- what a member takes from its mirror
pub mirror-up-limits : (l : Lower) (w : World) (d : ℕ) (x : Next) (fails : Bool) → Limited w → IfSome (mirror_up l w d x fails) (Limits w)
mirror-up-limits idle w d x fails h = tt
mirror-up-limits (writes m) w d x fails h = when-each (Limits w) (is_alive w (w.dialled d).to) _ (λ _. up-limits w d m x fails h)
mirror-up-limits (serves b s) w d x fails h = tt
mirror-up-limits recovers w d x fails h = tt
mirror-up-limits ended_below w d x fails h = tt
