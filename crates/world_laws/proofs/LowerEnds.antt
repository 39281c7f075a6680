-- What the lower ends of connections leave in range.
use Rattle.std.proofs.Common.{ℕ, ◌<◌, ◌+◌, Bool, true, false, List, [], Option, Some, None, IfSome, Result, Ok, Err, refl, arith}
use Rattle.world.specs.OpHeaders.Op.{Op}
use Rattle.world.specs.OpHeaders.Op.TheVariants as op
use Rattle.world.specs.OpHeaders.ReadOp.{ReadOp}
use Rattle.world.specs.OpHeaders.RecoveryOp.{RecoveryOp}
use Rattle.world.specs.PacketCodec.Packet.{Packet}
use Rattle.replica_core.specs.declared.events.Event.{Event}
use Rattle.world.specs.ReplicaModel.ReplicaEvent.{ReplicaEvent}
use Rattle.world.specs.ReplicaModel.ReplicaEvent.TheVariants as replica_event
use Rattle.world.specs.RequestRefusals.RequestRefusal.{RequestRefusal}
use Rattle.world.specs.MemberCore.Turn.{Turn}
use Rattle.world.specs.MemberCore.Members.{down_turn, up_turn, hears}
use Rattle.world.specs.MemberCore.Steps.{step, faulted_step, oldest_at, ready_turn_at}
use Rattle.world.specs.ReplicaModel.Rows.{FullReplica}
use Rattle.world.specs.ReadCore.Servings.{faulted_read, faulted_piece, ServingState, read_at, read_event, next_call, piece_at}
use Rattle.world.specs.RecoveryCore.RecoveryReply.{RecoveryReply}
use Rattle.world.specs.RecoveryCore.Members.{Served, recovery_event, serve, serve_faulted}
use Rattle.world.specs.Parts.{Message, request, packet, ack, response, read_status, recovery_answer, FullMember, Lower, idle, writes, serves, recovers, ended_below, Break}
use Rattle.world.specs.Worlds.{World, still}
use Rattle.world.specs.Connections.{Next, message, the_end, sent_on, is_alive}
use Rattle.world.specs.Nodes.{replica_at, block_of, closing, unless_failing, above_of, below_of, failing_turn, turn_change, takes_next, pending_at, member_down, member_up, ready_change, breaking, read_change, failing_read, read_request, piece_as, serve_change, recovery_change, failing_recovery, recovery_request, first_message, next_recovery, lower_down, lower_ready, mirror_up}
use Rattle.world_laws.specs.Placing.{IsConn, IsDialled, IsLower, Placed}
use Rattle.world_laws.proofs.FactTables.{when-each}
use Rattle.world_laws.proofs.PlaceConns.{sent-out, one-conn}
use Rattle.world_laws.proofs.PlaceFitting.{Fits}
use Rattle.world_laws.proofs.PlaceLeaves.{rest, no-dial, closing-fits, member-fits}
use Rattle.world_laws.proofs.PlaceSetups.{write-fits}

-- MEMBERS

failing-turn-fits : (w : World) (c : ℕ) (m : FullMember) (x : Next) (t : Turn) (o : Option ReplicaEvent) → Placed w → c < w.next_conn → IsConn w.next_conn m.mirror
    → IfSome (failing_turn w c m x t o) (Fits w)
failing-turn-fits w c m x t None h lt k = tt
failing-turn-fits w c m x t (Some e) h lt k = member-fits w c m x (faulted_step m.state (replica_at w c (block_of m.fields)) t) _ h lt k

turn-fits : (w : World) (c : ℕ) (m : FullMember) (x : Next) (t : Turn) (fails : Bool) → Placed w → c < w.next_conn → IsConn w.next_conn m.mirror
    → IfSome (turn_change w c m x t fails) (Fits w)
turn-fits w c m x t true h lt k = failing-turn-fits w c m x t t.call h lt k
turn-fits w c m x t false h lt k = member-fits w c m x (step m.state (replica_at w c (block_of m.fields)) t) _ h lt k

down-fits : (w : World) (c : ℕ) (m : FullMember) (x : Next) (fails : Bool) → Placed w → c < w.next_conn → IsConn w.next_conn m.mirror
    → IfSome (member_down w c m x fails) (Fits w)
down-fits w c m x fails h lt k =
    when-each (Fits w) (takes_next m.state (pending_at w c m) x) _ (λ _. turn-fits w c m x (down_turn m.state (above_of x)) fails h lt k)

up-fits : (w : World) (c : ℕ) (m : FullMember) (x : Next) (fails : Bool) → Placed w → c < w.next_conn → IsConn w.next_conn m.mirror
    → IfSome (member_up w c m x fails) (Fits w)
up-fits w c m x fails h lt k =
    when-each (Fits w) (hears m.state) _
    (λ _. turn-fits w c m x (up_turn m.state (oldest_at (replica_at w c (block_of m.fields))) (below_of x)) fails h lt k)

ready-as : (w : World) (c : ℕ) (m : FullMember) (o : Option Turn) (fails : Bool) → Placed w → c < w.next_conn → IsConn w.next_conn m.mirror
    → IfSome (ready_change w c m o fails) (Fits w)
ready-as w c m None fails h lt k = tt
ready-as w c m (Some t) fails h lt k = turn-fits w c m the_end t fails h lt k

-- READS

breaking-fits : (w : World) (c b : ℕ) (r : FullReplica) (e : ReplicaEvent) (answers : List Message) → Placed w → c < w.next_conn → Fits w (breaking w c b r e answers)
breaking-fits w c b r e answers h lt =
    let k = closing-fits w c h lt in
    record {
      dials = k.dials;
      downs = k.downs;
      ups = λ d le. sent-out w.next_conn d (Some c) answers (one-conn w.next_conn c lt) le;
      shuts = k.shuts;
      lower_at = k.lower_at;
      lower = k.lower;
      writer = k.writer;
      reader = k.reader;
      primary = k.primary;
    }

-- an answer before the connection is shut
answering-fits : (w : World) (c : ℕ) (answers : List Message) → Placed w → c < w.next_conn → Fits w (record (closing w c) { ups = sent_on (Some c) answers })
answering-fits w c answers h lt =
    let k = closing-fits w c h lt in
    record {
      dials = k.dials;
      downs = k.downs;
      ups = λ d le. sent-out w.next_conn d (Some c) answers (one-conn w.next_conn c lt) le;
      shuts = k.shuts;
      lower_at = k.lower_at;
      lower = k.lower;
      writer = k.writer;
      reader = k.reader;
      primary = k.primary;
    }

-- a packet or an answer of a read that goes on
serving-fits : (w : World) (c b : ℕ) (s : ServingState) (answers : List Message) → Placed w → c < w.next_conn
    → Fits w (record (still w) { lower_at = c; lower = serves b s; ups = sent_on (Some c) answers })
serving-fits w c b s answers h lt =
    let r = rest w (w.next_conn + 0) (omega arith) h in
    record {
      dials = no-dial (λ d. IsDialled w.nodes (w.next_conn + 0) d.dialled);
      downs = λ d e. refl;
      ups = λ d e. sent-out w.next_conn d (Some c) answers (one-conn w.next_conn c lt) e;
      shuts = λ d e. refl;
      lower_at = λ e. absurd (omega (arith, e, lt));
      lower = tt;
      writer = r.writer;
      reader = r.reader;
      primary = r.primary;
    }

read-fits : (w : World) (c b : ℕ) (s : Result ServingState RequestRefusal) → Placed w → c < w.next_conn → Fits w (read_change w c b s)
read-fits w c b (Ok s) h lt = serving-fits w c b s _ h lt
read-fits w c b (Err r) h lt = answering-fits w c _ h lt

failing-read-fits : (w : World) (c b : ℕ) (e : Result Event RequestRefusal) → Placed w → c < w.next_conn → IfSome (failing_read w c b e) (Fits w)
failing-read-fits w c b (Err r) h lt = tt
failing-read-fits w c b (Ok e) h lt = breaking-fits w c b (faulted_read (replica_at w c b)).0 (replica_event.Other e) _ h lt

read-request-fits : (w : World) (c : ℕ) (r : ReadOp) (fails : Bool) → Placed w → c < w.next_conn → IfSome (read_request w c r fails) (Fits w)
read-request-fits w c r true h lt = failing-read-fits w c r.block.block.0 (read_event r) h lt
read-request-fits w c r false h lt = read-fits w c r.block.block.0 (read_at r (replica_at w c r.block.block.0)) h lt

piece-fits : (w : World) (c b : ℕ) (s : ServingState) (o : Option Packet) → Placed w → c < w.next_conn → Fits w (piece_as w c b s o)
piece-fits w c b s None h lt = closing-fits w c h lt
piece-fits w c b s (Some p) h lt = serving-fits w c b s _ h lt

serve-fits : (w : World) (c b : ℕ) (s : ServingState) (o : Option Event) (fails : Bool) → Placed w → c < w.next_conn → IfSome (serve_change w c b s o fails) (Fits w)
serve-fits w c b s None fails h lt = tt
serve-fits w c b s (Some e) true h lt = breaking-fits w c b (faulted_piece s (replica_at w c b)).0 (replica_event.Other e) [] h lt
serve-fits w c b s (Some e) false h lt =
    piece-fits w c b (piece_at s (replica_at w c b)).serving (piece_at s (replica_at w c b)).packet h lt

-- BLOCK RECOVERIES

recovery-fits : (w : World) (c : ℕ) (r : RecoveryOp) (s : Served) (b : Option Break) → Placed w → c < w.next_conn → Fits w (recovery_change w c r s b)
recovery-fits w c r s b h lt =
    let k = rest w (w.next_conn + 0) (omega arith) h in
    record {
      dials = no-dial (λ d. IsDialled w.nodes (w.next_conn + 0) d.dialled);
      downs = λ d e. refl;
      ups = λ d e. sent-out w.next_conn d (Some c) _ (one-conn w.next_conn c lt) e;
      shuts = λ d e. refl;
      lower_at = λ e. absurd (omega (arith, e, lt));
      lower = tt;
      writer = k.writer;
      reader = k.reader;
      primary = k.primary;
    }

failing-recovery-fits : (w : World) (c : ℕ) (r : RecoveryOp) (e : Result Event RecoveryReply) → Placed w → c < w.next_conn → IfSome (failing_recovery w c r e) (Fits w)
failing-recovery-fits w c r (Err said) h lt = tt
failing-recovery-fits w c r (Ok e) h lt = recovery-fits w c r (serve_faulted (replica_at w c r.block.block.0)) _ h lt

recovery-request-fits : (w : World) (c : ℕ) (r : RecoveryOp) (fails : Bool) → Placed w → c < w.next_conn → IfSome (recovery_request w c r fails) (Fits w)
recovery-request-fits w c r true h lt = failing-recovery-fits w c r (recovery_event r) h lt
recovery-request-fits w c r false h lt = recovery-fits w c r (serve (replica_at w c r.block.block.0) r) _ h lt

-- THE LOWER END

unless-fits : (w : World) (fails : Bool) (c : ℕ) → Placed w → c < w.next_conn → IfSome (unless_failing fails (closing w c)) (Fits w)
unless-fits w true c h lt = tt
unless-fits w false c h lt = closing-fits w c h lt

request-fits : (w : World) (c : ℕ) (o : Op) (answered fails : Bool) → Placed w → c < w.next_conn → IfSome (first_message w c (request o) answered fails) (Fits w)
request-fits w c (op.Write fields) answered fails h lt = write-fits w c fields answered fails h lt
request-fits w c (op.Read r) answered fails h lt = read-request-fits w c r fails h lt
request-fits w c (op.Recovery r) answered fails h lt = recovery-request-fits w c r fails h lt
request-fits w c (op.Transfer r) answered fails h lt = unless-fits w fails c h lt
request-fits w c (op.Checksum r) answered fails h lt = unless-fits w fails c h lt

first-fits : (w : World) (c : ℕ) (m : Message) (answered fails : Bool) → Placed w → c < w.next_conn → IfSome (first_message w c m answered fails) (Fits w)
first-fits w c (request o) answered fails h lt = request-fits w c o answered fails h lt
first-fits w c (packet p) answered fails h lt = unless-fits w fails c h lt
first-fits w c (ack a) answered fails h lt = unless-fits w fails c h lt
first-fits w c (response r) answered fails h lt = unless-fits w fails c h lt
first-fits w c (read_status s) answered fails h lt = unless-fits w fails c h lt
first-fits w c (recovery_answer a) answered fails h lt = unless-fits w fails c h lt

next-request-fits : (w : World) (c : ℕ) (o : Op) (fails : Bool) → Placed w → c < w.next_conn → IfSome (next_recovery w c (message (request o)) fails) (Fits w)
next-request-fits w c (op.Write fields) fails h lt = unless-fits w fails c h lt
next-request-fits w c (op.Read r) fails h lt = unless-fits w fails c h lt
next-request-fits w c (op.Recovery r) fails h lt = recovery-request-fits w c r fails h lt
next-request-fits w c (op.Transfer r) fails h lt = unless-fits w fails c h lt
next-request-fits w c (op.Checksum r) fails h lt = unless-fits w fails c h lt

next-message-fits : (w : World) (c : ℕ) (m : Message) (fails : Bool) → Placed w → c < w.next_conn → IfSome (next_recovery w c (message m) fails) (Fits w)
next-message-fits w c (request o) fails h lt = next-request-fits w c o fails h lt
next-message-fits w c (packet p) fails h lt = unless-fits w fails c h lt
next-message-fits w c (ack a) fails h lt = unless-fits w fails c h lt
next-message-fits w c (response r) fails h lt = unless-fits w fails c h lt
next-message-fits w c (read_status s) fails h lt = unless-fits w fails c h lt
next-message-fits w c (recovery_answer a) fails h lt = unless-fits w fails c h lt

next-fits : (w : World) (c : ℕ) (x : Next) (fails : Bool) → Placed w → c < w.next_conn → IfSome (next_recovery w c x fails) (Fits w)
next-fits w c (message m) fails h lt = next-message-fits w c m fails h lt
next-fits w c the_end fails h lt = unless-fits w fails c h lt

-- the lower end of a connection that was dialled takes something
pub lower-down-fits : (l : Lower) (w : World) (c : ℕ) (x : Next) (answered fails : Bool) → Placed w → c < w.next_conn → IsLower w.next_conn l
    → IfSome (lower_down l w c x answered fails) (Fits w)
lower-down-fits idle w c (message m) answered fails h lt k = first-fits w c m answered fails h lt
lower-down-fits idle w c the_end answered fails h lt k = unless-fits w fails c h lt
lower-down-fits (writes m) w c x answered fails h lt k = down-fits w c m x fails h lt k
lower-down-fits (serves b s) w c x answered fails h lt k = unless-fits w fails c h lt
lower-down-fits recovers w c x answered fails h lt k = next-fits w c x fails h lt
lower-down-fits ended_below w c x answered fails h lt k = tt

-- it acts without a message
pub lower-ready-fits : (l : Lower) (w : World) (c : ℕ) (fails : Bool) → Placed w → c < w.next_conn → IsLower w.next_conn l
    → IfSome (lower_ready l w c fails) (Fits w)
lower-ready-fits idle w c fails h lt k = tt
lower-ready-fits (writes m) w c fails h lt k = ready-as w c m (ready_turn_at m.state (replica_at w c (block_of m.fields))) fails h lt k
lower-ready-fits (serves b s) w c fails h lt k = serve-fits w c b s (next_call s) fails h lt
lower-ready-fits recovers w c fails h lt k = tt
lower-ready-fits ended_below w c fails h lt k = tt

-- a member takes something from its mirror
pub mirror-up-fits : (l : Lower) (w : World) (d : ℕ) (x : Next) (fails : Bool) → Placed w → d < w.next_conn → IsLower w.next_conn l
    → IfSome (mirror_up l w d x fails) (Fits w)
mirror-up-fits idle w d x fails h lt k = tt
mirror-up-fits (writes m) w d x fails h lt k = when-each (Fits w) (is_alive w (w.dialled d).to) _ (λ _. up-fits w d m x fails h lt k)
mirror-up-fits (serves b s) w d x fails h lt k = tt
mirror-up-fits recovers w d x fails h lt k = tt
mirror-up-fits ended_below w d x fails h lt k = tt
