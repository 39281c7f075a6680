-- The lower ends of connections, at nodes: requests, members of pipelines, reads that are served, and a member's part of block recoveries.
use Rattle.std.specs.Prelude.{ℕ, ◌-◌, ◌&&◌, nat_le, is_some, if◌then◌else◌, Bool, true, false, List, [], ◌∷◌, length, Option, Some, None, Result, Ok, Err}
use Rattle.member_core.specs.HdBase.Stamp.{Stamp}
use Rattle.member_core.specs.HdBase.RoadsTheConstants.{FIRST_PORT}
use Rattle.member_core.specs.PacketCodec.Packet.{Packet}
use Rattle.member_core.specs.OpHeaders.NodeRef.{NodeRef}
use Rattle.member_core.specs.OpHeaders.Op.TheVariants as op
use Rattle.member_core.specs.OpHeaders.ReadOp.{ReadOp}
use Rattle.member_core.specs.OpHeaders.RecoveryOp.{RecoveryOp}
use Rattle.member_core.specs.OpHeaders.Values.{WriteFields}
use Rattle.node_refs.specs.NodeRefs.{ref_of}
use Rattle.member_core.specs.ReplicaCore.Event.{Event}
use Rattle.member_core.specs.ReplicaCore.Views.{rule_in, stamp_in}
use Rattle.member_core.specs.ReplicaModel.ReplicaEvent.{ReplicaEvent}
use Rattle.member_core.specs.ReplicaModel.ReplicaEvent.TheVariants as replica_event
use Rattle.member_core.specs.ReplicaModel.Rows.{FullReplica}
use Rattle.member_core.specs.RequestRefusals.RequestRefusal.{RequestRefusal}
use Rattle.member_core.specs.declared.effects.Shuts.{Shuts}
use Rattle.member_core.specs.declared.effects.Shuts.TheVariants as shuts
use Rattle.member_core.specs.declared.effects.Upward.{Upward}
use Rattle.member_core.specs.declared.effects.Upward.TheVariants as upward
use Rattle.member_core.specs.declared.inputs.FromAbove.{FromAbove}
use Rattle.member_core.specs.declared.inputs.FromAbove.TheVariants as above
use Rattle.member_core.specs.declared.inputs.FromBelow.{FromBelow}
use Rattle.member_core.specs.declared.inputs.FromBelow.TheVariants as below
use Rattle.member_core.specs.declared.member.Mirror.{Mirror}
use Rattle.member_core.specs.declared.member.Mirror.TheVariants as mirror
use Rattle.member_core.specs.declared.turns.Turn.{Turn}
use Rattle.member_core.specs.Members.{MemberState, down_turn, up_turn, takes_messages, hears}
use Rattle.member_core.specs.Requests.{request_event, mirror_request, response_of}
use Rattle.member_core.specs.Steps.{Step, Setup, step, faulted_step, request_step, faulted_request, oldest_at, ready_turn_at}
use Rattle.read_core.specs.Servings.{ServingState, Piece, read_at, read_event, accepting, refusing, next_call, piece_at, faulted_read, faulted_piece}
use Rattle.recovery_core.specs.declared.members.RecoveryReply.{RecoveryReply}
use Rattle.recovery_core.specs.declared.members.RecoveryReply.TheVariants as reply
use Rattle.recovery_core.specs.Members.{Served, recovery_event, answer_of, serve, serve_faulted}
use Rattle.world.specs.Parts.{Message, request, packet, ack, response, recovery_answer, Place, by_member, FullMember, Lower, idle, writes, serves, recovers, ended_below, Break, Joined, Updated}
use Rattle.world.specs.Worlds.{World, Dial, Change, still}
use Rattle.world.specs.Connections.{Next, message, the_end, is_alive, place_of, sent_on, is_conn, is_either}

-- the node at the lower end of a connection
abbrev pub node_of : World → ℕ → ℕ
node_of w c = (w.dialled c).to.node

-- its replica of a block
abbrev pub replica_at : World → ℕ → ℕ → FullReplica
replica_at w c b = w.replicas (node_of w c) b

-- the break of its replica: the first one counts
abbrev pub first_break : Option Break → FullReplica → ReplicaEvent → Option Break
first_break None r e = Some (record { before = r; event = e })
first_break (Some b) r e = Some b

abbrev pub broke_at : World → ℕ → ℕ → ReplicaEvent → Option Break
broke_at w c b e = first_break (w.breaks (node_of w c) b) (replica_at w c b) e

-- the lower end has ended, and its connection is shut
abbrev pub closing : World → ℕ → Change
closing w c = record (still w) { lower_at = c; lower = ended_below; shuts = is_conn (Some c) }

-- this, but no such event where a call on files is to fail, since no book is called
abbrev pub unless_failing : Bool → Change → Option Change
unless_failing true k = None
unless_failing false k = Some k

-- MEMBERS OF A PIPELINE

abbrev pub above_of : Next → FromAbove
above_of (message (packet p)) = above.Packet p
above_of (message m) = above.Unreadable
above_of the_end = above.End

abbrev pub below_of : Next → FromBelow
below_of (message (response r)) = below.Response r
below_of (message (ack a)) = below.Ack a
below_of (message m) = below.Unreadable
below_of the_end = below.End

-- what a member sends up, as a message
abbrev pub upward_message : WriteFields → Upward → Message
upward_message fields (upward.Answer a) = response (response_of fields a)
upward_message fields (upward.Ack a) = ack a

abbrev pub sent_up : WriteFields → Option Upward → List Message
sent_up fields None = []
sent_up fields (Some u) = upward_message fields u ∷ []

-- what a member took is sent on, where it sends it on
abbrev pub passed : Bool → Next → List Message
passed true (message m) = m ∷ []
passed _ x = []

-- which connections a member shuts
abbrev pub shut_by : Shuts → ℕ → Option ℕ → ℕ → Bool
shut_by shuts.Nothing c below = λ _. false
shut_by shuts.Mirror c below = is_conn below
shut_by shuts.Both c below = is_either (Some c) below

abbrev pub block_of : WriteFields → ℕ
block_of fields = fields.block.block.0

-- what a member's step changes, and what it took
abbrev pub member_change : World → ℕ → FullMember → Next → Step → Option Break → Change
member_change w c m x s b = record (still w) {
  node = node_of w c;
  block = block_of m.fields;
  replica = s.replica;
  broke = b;
  lower_at = c;
  lower = writes (record m { state = s.member });
  downs = sent_on m.mirror (passed s.effect.forwards x);
  ups = sent_on (Some c) (sent_up m.fields s.effect.sends);
  shuts = shut_by s.effect.shuts c m.mirror;
}

-- a turn whose book call, if it has one, ends by a failed call on files
abbrev pub failing_turn : World → ℕ → FullMember → Next → Turn → Option ReplicaEvent → Option Change
failing_turn w c m x t None = None
failing_turn w c m x t (Some e) =
    Some (member_change w c m x (faulted_step m.state (replica_at w c (block_of m.fields)) t)
    (broke_at w c (block_of m.fields) e))

-- a turn of a member, whose book call fails or not
abbrev pub turn_change : World → ℕ → FullMember → Next → Turn → Bool → Option Change
turn_change w c m x t true = failing_turn w c m x t t.call
turn_change w c m x t false =
    Some (member_change w c m x (step m.state (replica_at w c (block_of m.fields)) t)
    (w.breaks (node_of w c) (block_of m.fields)))

-- how many packets are pending at a member's replica
abbrev pub pending_at : World → ℕ → FullMember → ℕ
pending_at w c m = length (replica_at w c (block_of m.fields)).known.pending

-- A member takes what stands next from above: a message where it takes messages, and the end where it still takes from above.
abbrev pub takes_next : MemberState → ℕ → Next → Bool
takes_next m pending (message x) = takes_messages m pending
takes_next m pending the_end = m.receives

abbrev pub member_down : World → ℕ → FullMember → Next → Bool → Option Change
member_down w c m x fails =
    if takes_next m.state (pending_at w c m) x then turn_change w c m x (down_turn m.state (above_of x)) fails else None

abbrev pub member_up : World → ℕ → FullMember → Next → Bool → Option Change
member_up w c m x fails =
    if hears m.state
    then turn_change w c m x (up_turn m.state (oldest_at (replica_at w c (block_of m.fields))) (below_of x)) fails
    else None

-- what a member does without a message
abbrev pub ready_change : World → ℕ → FullMember → Option Turn → Bool → Option Change
ready_change w c m None fails = None
ready_change w c m (Some t) fails = turn_change w c m the_end t fails

abbrev pub member_ready : World → ℕ → FullMember → Bool → Option Change
member_ready w c m fails = ready_change w c m (ready_turn_at m.state (replica_at w c (block_of m.fields))) fails

-- WRITE REQUESTS

-- the node that listens on a port
abbrev pub node_on : ℕ → Option ℕ
node_on port = if nat_le FIRST_PORT port then Some (port - FIRST_PORT) else None

-- the node of the first target
abbrev pub mirror_node : List NodeRef → Option ℕ
mirror_node [] = None
mirror_node (first ∷ rest) = node_on first.xfer

abbrev pub runs_there : World → Option ℕ → Bool
runs_there w None = false
runs_there w (Some n) = w.running n

-- The request could be sent to the mirror: there is one to send, and the dial is answered, which one to a node that doesn't run never is.
abbrev pub is_asked : World → ℕ → WriteFields → Bool → Bool
is_asked w c fields answered =
    answered && is_some (mirror_request (ref_of (record { 0 = node_of w c })) fields) &&
    runs_there w (mirror_node fields.targets)

-- the dial of a mirror, with its request
abbrev pub mirror_dial : World → ℕ → Option WriteFields → Option ℕ → List Dial
mirror_dial w c (Some fields) (Some n) =
    record {
      dialled = record { upper = by_member c; from = Some (w.dialled c).to; to = place_of w n };
      request = request (op.Write fields);
    } ∷ []
mirror_dial w c _ _ = []

-- the dials of a new member: that of its mirror, where it has asked it
abbrev pub dials_of : Mirror → World → ℕ → WriteFields → List Dial
dials_of mirror.Asked w c fields =
    mirror_dial w c (mirror_request (ref_of (record { 0 = node_of w c })) fields) (mirror_node fields.targets)
dials_of _ w c fields = []

abbrev pub member_dials : Option MemberState → World → ℕ → WriteFields → List Dial
member_dials None w c fields = []
member_dials (Some m) w c fields = dials_of m.mirror w c fields

-- the connection to the mirror has the next number
abbrev pub mirror_conn : Mirror → ℕ → Option ℕ
mirror_conn mirror.Asked next = Some next
mirror_conn _ next = None

abbrev pub lower_of : Option MemberState → WriteFields → ℕ → Lower
lower_of None fields next = ended_below
lower_of (Some m) fields next = writes (record { fields = fields; state = m; mirror = mirror_conn m.mirror next })

-- the setup of the stamp that the replica then has was accepted at this place
abbrev pub joined_at : Place → Option Stamp → List Joined
joined_at p None = []
joined_at p (Some stamp) = record { stamp = stamp.0; node = p.node; life = p.life } ∷ []

abbrev pub joined_by : Option MemberState → Place → FullReplica → List Joined
joined_by None p r = []
joined_by (Some m) p r = joined_at p (stamp_in r.known)

-- what a write request changes
abbrev pub setup_change : World → ℕ → WriteFields → Setup → Option Break → Change
setup_change w c fields s b = record (still w) {
  node = node_of w c;
  block = block_of fields;
  replica = s.replica;
  broke = b;
  lower_at = c;
  lower = lower_of s.member fields w.next_conn;
  dials = member_dials s.member w c fields;
  ups = sent_on (Some c) (sent_up fields s.effect.sends);
  shuts = shut_by s.effect.shuts c None;
  joined = joined_by s.member (w.dialled c).to s.replica;
}

-- a write request whose book call, if it has one, ends by a failed call on files
abbrev pub failing_write : World → ℕ → WriteFields → Result Event RequestRefusal → Option Change
failing_write w c fields (Err refused) = None
failing_write w c fields (Ok e) =
    Some (setup_change w c fields (faulted_request (replica_at w c (block_of fields)))
    (broke_at w c (block_of fields) (replica_event.Other e)))

abbrev pub write_request : World → ℕ → WriteFields → Bool → Bool → Option Change
write_request w c fields answered true =
    failing_write w c fields (request_event (record { 0 = c }) fields
    (rule_in (replica_at w c (block_of fields)).known))
write_request w c fields answered false =
    Some (setup_change w c fields
    (request_step (record { 0 = c }) fields (is_asked w c fields answered) (replica_at w c (block_of fields)))
    (w.breaks (node_of w c) (block_of fields)))

-- READS

-- the replica broke in an event, this is answered, and the connection is shut
abbrev pub breaking : World → ℕ → ℕ → FullReplica → ReplicaEvent → List Message → Change
breaking w c b r e answers = record (closing w c) {
  node = node_of w c;
  block = b;
  replica = r;
  broke = broke_at w c b e;
  ups = sent_on (Some c) answers;
}

-- a read that is served, or refused
abbrev pub read_change : World → ℕ → ℕ → Result ServingState RequestRefusal → Change
read_change w c b (Ok s) = record (still w) {
  lower_at = c;
  lower = serves b s;
  ups = sent_on (Some c) (response (accepting s) ∷ []);
}
read_change w c b (Err r) = record (closing w c) { ups = sent_on (Some c) (response (refusing r) ∷ []) }

abbrev pub failing_read : World → ℕ → ℕ → Result Event RequestRefusal → Option Change
failing_read w c b (Err refused) = None
failing_read w c b (Ok e) =
    let x = faulted_read (replica_at w c b) in
    Some (breaking w c b x.0 (replica_event.Other e) (response (refusing x.1) ∷ []))

abbrev pub read_request : World → ℕ → ReadOp → Bool → Option Change
read_request w c r true = failing_read w c r.block.block.0 (read_event r)
read_request w c r false = Some (read_change w c r.block.block.0 (read_at r (replica_at w c r.block.block.0)))

-- the next packet of a read, or its early end
abbrev pub piece_as : World → ℕ → ℕ → ServingState → Option Packet → Change
piece_as w c b s None = closing w c
piece_as w c b s (Some p) = record (still w) {
  lower_at = c;
  lower = serves b s;
  ups = sent_on (Some c) (packet p ∷ []);
}

abbrev pub piece_change : World → ℕ → ℕ → Piece → Change
piece_change w c b p = piece_as w c b p.serving p.packet

abbrev pub serve_change : World → ℕ → ℕ → ServingState → Option Event → Bool → Option Change
serve_change w c b s None fails = None
serve_change w c b s (Some e) true =
    Some (breaking w c b (faulted_piece s (replica_at w c b)).0 (replica_event.Other e) [])
serve_change w c b s (Some e) false = Some (piece_change w c b (piece_at s (replica_at w c b)))

-- BLOCK RECOVERIES

-- an UPDATE that was done
abbrev pub updated_by : RecoveryReply → Place → RecoveryOp → List Updated
updated_by reply.Updated p r =
    record {
      node = p.node;
      life = p.life;
      block = r.block.block.0;
      recovery = r.recovery.0;
      length = r.new_length;
    } ∷ []
updated_by _ p r = []

abbrev pub recovery_change : World → ℕ → RecoveryOp → Served → Option Break → Change
recovery_change w c r s b = record (still w) {
  node = node_of w c;
  block = r.block.block.0;
  replica = s.replica;
  broke = b;
  lower_at = c;
  lower = recovers;
  ups = sent_on (Some c) (recovery_answer (answer_of s.reply) ∷ []);
  updated = updated_by s.reply (w.dialled c).to r;
}

abbrev pub failing_recovery : World → ℕ → RecoveryOp → Result Event RecoveryReply → Option Change
failing_recovery w c r (Err said) = None
failing_recovery w c r (Ok e) =
    Some (recovery_change w c r (serve_faulted (replica_at w c r.block.block.0))
    (broke_at w c r.block.block.0 (replica_event.Other e)))

abbrev pub recovery_request : World → ℕ → RecoveryOp → Bool → Option Change
recovery_request w c r true = failing_recovery w c r (recovery_event r)
recovery_request w c r false =
    Some (recovery_change w c r (serve (replica_at w c r.block.block.0) r) (w.breaks (node_of w c) r.block.block.0))

-- THE LOWER END

-- The first message is a request to write, to read, or of a block recovery; what is anything else ends the connection.
abbrev pub first_message : World → ℕ → Message → Bool → Bool → Option Change
first_message w c (request (op.Write fields)) answered fails = write_request w c fields answered fails
first_message w c (request (op.Read r)) answered fails = read_request w c r fails
first_message w c (request (op.Recovery r)) answered fails = recovery_request w c r fails
first_message w c m answered fails = unless_failing fails (closing w c)

-- behind the first request of a block recovery come others
abbrev pub next_recovery : World → ℕ → Next → Bool → Option Change
next_recovery w c (message (request (op.Recovery r))) fails = recovery_request w c r fails
next_recovery w c x fails = unless_failing fails (closing w c)

-- The lower end takes what stands next. A node that serves a read is done once it takes the reader's answer or the end.
abbrev pub lower_down : Lower → World → ℕ → Next → Bool → Bool → Option Change
lower_down idle w c (message m) answered fails = first_message w c m answered fails
lower_down idle w c the_end answered fails = unless_failing fails (closing w c)
lower_down (writes m) w c x answered fails = member_down w c m x fails
lower_down (serves b s) w c x answered fails = unless_failing fails (closing w c)
lower_down recovers w c x answered fails = next_recovery w c x fails
lower_down ended_below w c x answered fails = None

-- the lower end acts without a message
abbrev pub lower_ready : Lower → World → ℕ → Bool → Option Change
lower_ready (writes m) w c fails = member_ready w c m fails
lower_ready (serves b s) w c fails = serve_change w c b s (next_call s) fails
lower_ready _ w c fails = None

-- A member takes what stands next on the connection to its mirror, while its own node runs in that life.
abbrev pub mirror_up : Lower → World → ℕ → Next → Bool → Option Change
mirror_up (writes m) w d x fails = if is_alive w (w.dialled d).to then member_up w d m x fails else None
mirror_up _ w d x fails = None
