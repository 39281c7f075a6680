-- What lower ends leave of replicas where no call on files fails: what each event of a replica keeps, they keep.
use Rattle.std.proofs.Common.{ℕ, Bool, false, Option, Some, None, IfSome, Result, Ok, Err}
use Rattle.hd_base.specs.declared.numbers.ConnId.{ConnId}
use Rattle.op_headers.specs.declared.ops.Op.{Op}
use Rattle.op_headers.specs.declared.ops.Op.TheVariants as op
use Rattle.op_headers.specs.declared.ops.RecoveryOp.{RecoveryOp}
use Rattle.op_headers.specs.Values.{WriteFields}
use Rattle.packet_codec.specs.declared.packets.Packet.{Packet}
use Rattle.replica_core.specs.declared.events.Event.{Event}
use Rattle.replica_core.specs.Views.{rule_in}
use Rattle.replica_core.specs.Transitions.{is_written_by}
use Rattle.replica_model.specs.declared.events.ReplicaEvent.{ReplicaEvent}
use Rattle.replica_model.specs.declared.events.ReplicaEvent.TheVariants as replica_event
use Rattle.replica_model.specs.Rows.{FullReplica, IsFull, row, row_answer}
use Rattle.request_refusals.specs.declared.refusals.RequestRefusal.{RequestRefusal}
use Rattle.member_core.specs.declared.turns.Turn.{Turn}
use Rattle.member_core.specs.Members.{down_turn, up_turn, hears}
use Rattle.member_core.specs.Requests.{request_event}
use Rattle.member_core.specs.Steps.{replica_after, request_at, booked_request, refused_by, oldest_at, ready_turn_at}
use Rattle.world_laws.specs.ReadCore.Servings.{ServingState, read_at, next_call, piece_at}
use Rattle.world_laws.specs.RecoveryCore.RecoveryReply.{RecoveryReply}
use Rattle.world_laws.specs.RecoveryCore.Members.{recovery_event, served_as}
use Rattle.world_laws.specs.World.Parts.{Message, request, packet, ack, response, read_status, recovery_answer, FullMember, Lower, idle, writes, serves, recovers, ended_below, Break}
use Rattle.world_laws.specs.World.Worlds.{World}
use Rattle.world_laws.specs.World.Connections.{Next, message, the_end, is_alive}
use Rattle.world_laws.specs.World.Nodes.{node_of, replica_at, block_of, above_of, below_of, turn_change, takes_next, pending_at, member_down, member_up, ready_change, member_ready, write_request, is_asked, read_change, piece_as, serve_change, recovery_request, first_message, next_recovery, lower_down, lower_ready, mirror_up}
use Rattle.world_laws.proofs.FactTables.{when-each}
use Rattle.world_breaks.proofs.Calls.{ProperCall, Calls, down-calls, up-calls, ready-calls, Requests, request-proper, recovery-proper}
use Rattle.world_breaks.proofs.Keeping.{Fact, Rows, Held, Leaves}

module _ (P : Fact) (rows : Rows P) where
  -- MEMBERS

  after-kept : (b : ℕ) (r : FullReplica) (broke : Option Break) (o : Option ReplicaEvent) → IfSome o ProperCall → IsFull r → P b r broke → P b (replica_after r o) broke
  after-kept b r broke None p f s = s
  after-kept b r broke (Some e) p f s = rows b r broke e p f s

  turn-leaves : (w : World) (c : ℕ) (m : FullMember) (x : Next) (t : Turn) → Held P w → Calls t → IfSome (turn_change w c m x t false) (Leaves P)
  turn-leaves w c m x t h k =
      let n = node_of w c in
      let b = block_of m.fields in
      record { whole = after-kept b (replica_at w c b) (w.breaks n b) t.call k (h.full n b) (h.each n b) }

  down-leaves : (w : World) (c : ℕ) (m : FullMember) (x : Next) → Held P w → IfSome (member_down w c m x false) (Leaves P)
  down-leaves w c m x h =
      when-each (Leaves P) (takes_next m.state (pending_at w c m) x) _ (λ _. turn-leaves w c m x (down_turn m.state (above_of x)) h (down-calls m.state (above_of x)))

  up-leaves : (w : World) (c : ℕ) (m : FullMember) (x : Next) → Held P w → IfSome (member_up w c m x false) (Leaves P)
  up-leaves w c m x h =
      let oldest = oldest_at (replica_at w c (block_of m.fields)) in
      when-each (Leaves P) (hears m.state) _ (λ _. turn-leaves w c m x (up_turn m.state oldest (below_of x)) h (up-calls m.state oldest (below_of x)))

  ready-as : (w : World) (c : ℕ) (m : FullMember) (o : Option Turn) → Held P w → IfSome o Calls → IfSome (ready_change w c m o false) (Leaves P)
  ready-as w c m None h k = tt
  ready-as w c m (Some t) h k = turn-leaves w c m the_end t h k

  ready-leaves : (w : World) (c : ℕ) (m : FullMember) → Held P w → IfSome (member_ready w c m false) (Leaves P)
  ready-leaves w c m h =
      let r = replica_at w c (block_of m.fields) in
      ready-as w c m (ready_turn_at m.state r) h (ready-calls m.state (oldest_at r) (is_written_by r.known.stream m.state.conn))

  -- WRITE REQUESTS

  booked-kept : (b : ℕ) (conn : ConnId) (fields : WriteFields) (asked : Bool) (r : FullReplica) (broke : Option Break) (o : Option RequestRefusal) → P b r broke
      → P b (booked_request conn fields asked r o).replica broke
  booked-kept b conn fields asked r broke None s = s
  booked-kept b conn fields asked r broke (Some refused) s = s

  requested-kept : (b : ℕ) (conn : ConnId) (fields : WriteFields) (asked : Bool) (r : FullReplica) (broke : Option Break) (e : Result Event RequestRefusal) → Requests e → IsFull r → P b r broke
      → P b (request_at conn fields asked r e).replica broke
  requested-kept b conn fields asked r broke (Err refused) p f s = s
  requested-kept b conn fields asked r broke (Ok e) p f s =
      let made = replica_event.Other e in
      booked-kept b conn fields asked (row r made) broke (refused_by (row_answer r made)) (rows b r broke made p f s)

  write-leaves : (w : World) (c : ℕ) (fields : WriteFields) (answered : Bool) → Held P w → IfSome (write_request w c fields answered false) (Leaves P)
  write-leaves w c fields answered h =
      let n = node_of w c in
      let b = block_of fields in
      let r = replica_at w c b in
      let conn : ConnId = record { 0 = c } in
      record { whole = requested-kept b conn fields (is_asked w c fields answered) r (w.breaks n b) (request_event conn fields (rule_in r.known)) (request-proper conn fields (rule_in r.known)) (h.full n b) (h.each n b) }

  -- READS

  read-leaves : (w : World) (c b : ℕ) (s : Result ServingState RequestRefusal) → Held P w → Leaves P (read_change w c b s)
  read-leaves w c b (Ok s) h = record { whole = h.each 0 0 }
  read-leaves w c b (Err r) h = record { whole = h.each 0 0 }

  piece-leaves : (w : World) (c b : ℕ) (s : ServingState) (o : Option Packet) → Held P w → Leaves P (piece_as w c b s o)
  piece-leaves w c b s None h = record { whole = h.each 0 0 }
  piece-leaves w c b s (Some p) h = record { whole = h.each 0 0 }

  serve-leaves : (w : World) (c b : ℕ) (s : ServingState) (o : Option Event) → Held P w → IfSome (serve_change w c b s o false) (Leaves P)
  serve-leaves w c b s None h = tt
  serve-leaves w c b s (Some e) h = piece-leaves w c b (piece_at s (replica_at w c b)).serving (piece_at s (replica_at w c b)).packet h

  -- BLOCK RECOVERIES

  served-kept : (b : ℕ) (r : FullReplica) (broke : Option Break) (e : Result Event RecoveryReply) → Requests e → IsFull r → P b r broke → P b (served_as r e).replica broke
  served-kept b r broke (Err said) p f s = s
  served-kept b r broke (Ok e) p f s = rows b r broke (replica_event.Other e) p f s

  recovery-leaves : (w : World) (c : ℕ) (r : RecoveryOp) → Held P w → IfSome (recovery_request w c r false) (Leaves P)
  recovery-leaves w c r h =
      let n = node_of w c in
      let b = r.block.block.0 in
      record { whole = served-kept b (replica_at w c b) (w.breaks n b) (recovery_event r) (recovery-proper r) (h.full n b) (h.each n b) }

  -- THE LOWER END

  request-leaves : (w : World) (c : ℕ) (o : Op) (answered : Bool) → Held P w → IfSome (first_message w c (request o) answered false) (Leaves P)
  request-leaves w c (op.Write fields) answered h = write-leaves w c fields answered h
  request-leaves w c (op.Read r) answered h = read-leaves w c r.block.block.0 (read_at r (replica_at w c r.block.block.0)) h
  request-leaves w c (op.Recovery r) answered h = recovery-leaves w c r h
  request-leaves w c (op.Transfer r) answered h = record { whole = h.each 0 0 }
  request-leaves w c (op.Checksum r) answered h = record { whole = h.each 0 0 }

  first-leaves : (w : World) (c : ℕ) (m : Message) (answered : Bool) → Held P w → IfSome (first_message w c m answered false) (Leaves P)
  first-leaves w c (request o) answered h = request-leaves w c o answered h
  first-leaves w c (packet p) answered h = record { whole = h.each 0 0 }
  first-leaves w c (ack a) answered h = record { whole = h.each 0 0 }
  first-leaves w c (response r) answered h = record { whole = h.each 0 0 }
  first-leaves w c (read_status s) answered h = record { whole = h.each 0 0 }
  first-leaves w c (recovery_answer a) answered h = record { whole = h.each 0 0 }

  next-request-leaves : (w : World) (c : ℕ) (o : Op) → Held P w → IfSome (next_recovery w c (message (request o)) false) (Leaves P)
  next-request-leaves w c (op.Write fields) h = record { whole = h.each 0 0 }
  next-request-leaves w c (op.Read r) h = record { whole = h.each 0 0 }
  next-request-leaves w c (op.Recovery r) h = recovery-leaves w c r h
  next-request-leaves w c (op.Transfer r) h = record { whole = h.each 0 0 }
  next-request-leaves w c (op.Checksum r) h = record { whole = h.each 0 0 }

  next-message-leaves : (w : World) (c : ℕ) (m : Message) → Held P w → IfSome (next_recovery w c (message m) false) (Leaves P)
  next-message-leaves w c (request o) h = next-request-leaves w c o h
  next-message-leaves w c (packet p) h = record { whole = h.each 0 0 }
  next-message-leaves w c (ack a) h = record { whole = h.each 0 0 }
  next-message-leaves w c (response r) h = record { whole = h.each 0 0 }
  next-message-leaves w c (read_status s) h = record { whole = h.each 0 0 }
  next-message-leaves w c (recovery_answer a) h = record { whole = h.each 0 0 }

  next-leaves : (w : World) (c : ℕ) (x : Next) → Held P w → IfSome (next_recovery w c x false) (Leaves P)
  next-leaves w c (message m) h = next-message-leaves w c m h
  next-leaves w c the_end h = record { whole = h.each 0 0 }

  -- what the lower end takes
  pub lower-down-leaves : (l : Lower) (w : World) (c : ℕ) (x : Next) (answered : Bool) → Held P w → IfSome (lower_down l w c x answered false) (Leaves P)
  lower-down-leaves idle w c (message m) answered h = first-leaves w c m answered h
  lower-down-leaves idle w c the_end answered h = record { whole = h.each 0 0 }
  lower-down-leaves (writes m) w c x answered h = down-leaves w c m x h
  lower-down-leaves (serves b s) w c x answered h = record { whole = h.each 0 0 }
  lower-down-leaves recovers w c x answered h = next-leaves w c x h
  lower-down-leaves ended_below w c x answered h = tt

  -- what it does without a message
  pub lower-ready-leaves : (l : Lower) (w : World) (c : ℕ) → Held P w → IfSome (lower_ready l w c false) (Leaves P)
  lower-ready-leaves idle w c h = tt
  lower-ready-leaves (writes m) w c h = ready-leaves w c m h
  lower-ready-leaves (serves b s) w c h = serve-leaves w c b s (next_call s) h
  lower-ready-leaves recovers w c h = tt
  lower-ready-leaves ended_below w c h = tt

  -- what a member takes from its mirror
  pub mirror-up-leaves : (l : Lower) (w : World) (d : ℕ) (x : Next) → Held P w → IfSome (mirror_up l w d x false) (Leaves P)
  mirror-up-leaves idle w d x h = tt
  mirror-up-leaves (writes m) w d x h = when-each (Leaves P) (is_alive w (w.dialled d).to) _ (λ _. up-leaves w d m x h)
  mirror-up-leaves (serves b s) w d x h = tt
  mirror-up-leaves recovers w d x h = tt
  mirror-up-leaves ended_below w d x h = tt
