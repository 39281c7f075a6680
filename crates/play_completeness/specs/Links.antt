-- Each connection of a pipeline in a play without failures. One that is live, whose lower end has its request to take,
-- or is a member that still acts, is awaited by whoever dialled it. What it carries is taken at both ends.
--
-- What keeps it, by what happens:
-- * A request is taken at an idle end: its replica may take it, so the end is a member, and its mirror's connection is
--   live and awaited by it. No other live connection reaches that replica: all live connections of a block are of the
--   stamp of its writer's setup (whoever dialled one awaits it, up to the writer), and at most one of a stamp waits to
--   be taken. That one reaches no node twice, so those behind its first still may take it.
-- * A packet is taken: it is the next one (`Leads`), so nothing is refused; it joins what the member awaits of its
--   mirror, and what is on its way there.
-- * A member without a mirror acks its oldest packet: it joins the acks on their way. The last packet is behind all
--   others, so with its ack nothing is pending or on its way, and the member is over.
-- * A member takes its mirror's answer, which is SUCCESS, and answers so; or an ack, whose number is that of its oldest
--   packet and whose replies are all there, so it acks that. The end of a connection stands behind the ack of the last
--   packet, and who has taken that doesn't take the end.
-- * A writer dials: each member's replica may take the request. It sends a packet, which is the next one. It takes the
--   answer, or an ack; with that of the last packet it gives its connection up, and no connection of the block is live.
use Rattle.std.specs.Prelude.{ℕ, ◌≡◌, ◌<◌, ◌≤◌, ◌⊎◌, suc, if◌then◌else◌, Bool, true, false, not, List, [], ◌∷◌, length, map, drop, slice_get, Option, Some, None}
use Rattle.hd_base.specs.declared.numbers.Stamp.{Stamp}
use Rattle.hd_base.specs.declared.states.ReplicaState.TheVariants as state
use Rattle.hd_base.specs.SumRules.{Rule}
use Rattle.ack_codec.specs.declared.acks.Ack.{Ack}
use Rattle.packet_codec.specs.declared.packets.Packet.{Packet}
use Rattle.op_headers.specs.declared.ops.Op.TheVariants as op
use Rattle.op_headers.specs.Values.{WriteFields}
use Rattle.request_refusals.specs.Pools.{is_in_pool}
use Rattle.request_refusals.specs.Rules.{rule_with}
use Rattle.replica_core.specs.declared.ack_queue.PendingPacket.{PendingPacket}
use Rattle.replica_core.specs.declared.info.ReplicaInfo.{ReplicaInfo}
use Rattle.replica_core.specs.declared.streams.Stream.{Stream}
use Rattle.replica_core.specs.Views.{rule_in}
use Rattle.replica_model.specs.Rows.{FullReplica}
use Rattle.member_core.specs.declared.member.Mirror.{Mirror}
use Rattle.member_core.specs.declared.member.Mirror.TheVariants as mirror
use Rattle.member_core.specs.declared.requests.SetupKind.{SetupKind}
use Rattle.member_core.specs.declared.requests.SetupKind.TheVariants as kind
use Rattle.member_core.specs.declared.requests.TheConstants.{MAX_BELOW}
use Rattle.member_core.specs.Acks.{is_success, failures}
use Rattle.member_core.specs.Members.{is_waiting}
use Rattle.member_core.specs.Requests.{setup_with}
use Rattle.world.specs.Parts.{Message, request, response, ack, Upper, by_writer, by_member, by_reader, by_primary, FullMember, Lower, idle, writes}
use Rattle.world.specs.Worlds.{World}
use Rattle.world.specs.Nodes.{block_of, replica_at}
use Rattle.world_laws.specs.Carrying.{new_stamp}
use Rattle.play_scripts.specs.WorldAcks.Acking.{Asked, promised}
use Rattle.world_closings.specs.WorldWriters.Taking.{chain}
use Rattle.play_model.specs.Dues.{is_open}
use Rattle.play_completeness.specs.Plain.{is_of_pipeline}
use Rattle.play_completeness.specs.Streams.{packets_in, acks_in, as_pending, Flows, Reach, first_reach, reach_in, reach_of, Leads}

-- WHO AWAITS A CONNECTION

-- the member whose request came on a connection still acts, and this is the one to its mirror
pub record MemberAwaits (w : World) (d c : ℕ) : Type 0 where
  pub member : FullMember
  pub is : w.lowers d ≡ writes member
  pub mirror : member.mirror ≡ Some c
  pub acts : is_open (w.lowers d) ≡ true

-- a writer has the connection, or such a member dialled it
abbrev pub Awaits : World → ℕ → Upper → Type 0
Awaits w c (by_writer b) = (w.writers b).conn ≡ Some c
Awaits w c (by_member d) = MemberAwaits w d c
Awaits w c (by_reader i) = ⊥
Awaits w c (by_primary i place) = ⊥

-- what is pending at the replica of a member, until it is over
abbrev pub pending_below : World → ℕ → Lower → List PendingPacket
pending_below w c (writes m) =
    if m.state.responds then (replica_at w c (block_of m.fields)).known.pending else []
pending_below w c other = []

-- what an upper end awaits acks of, the oldest first
abbrev pub awaited : World → Upper → List PendingPacket
awaited w (by_writer b) = map as_pending (w.writers b).known.stream.unacked
awaited w (by_member d) = pending_below w d (w.lowers d)
awaited w other = []

abbrev pub packets_left : World → ℕ → List Packet
packets_left w c = packets_in (drop (w.down_marks c).taken (w.downs c))

abbrev pub acks_left : World → ℕ → List Ack
acks_left w c = acks_in (drop (w.up_marks c).taken (w.ups c))

-- HOW FAR BOTH ENDS HAVE COME

abbrev pub reach_below : World → ℕ → WriteFields → Lower → Reach
reach_below w c f (writes m) = reach_in (replica_at w c (block_of m.fields)).known
reach_below w c f other = first_reach (promised f)

-- how far the member at a lower end has come
abbrev pub member_reach : World → ℕ → Lower → Reach
member_reach w d (writes m) = reach_in (replica_at w d (block_of m.fields)).known
member_reach w d other = first_reach 0

abbrev pub reach_above : World → Upper → Reach
reach_above w (by_writer b) = reach_of (w.writers b).known
reach_above w (by_member d) = member_reach w d (w.lowers d)
reach_above w other = first_reach 0

-- the rule of the sums above
abbrev pub member_rule : World → ℕ → Lower → Option Rule
member_rule w d (writes m) = rule_in (replica_at w d (block_of m.fields)).known
member_rule w d other = None

abbrev pub rule_above : World → Upper → Option Rule
rule_above w (by_writer b) = Some (w.writers b).known.stream.rule
rule_above w (by_member d) = member_rule w d (w.lowers d)
rule_above w other = None

-- Packets on their way lead from where the lower end is to where the upper one is; nothing follows the last packet.
abbrev pub ReachFits : Rule → Reach → List Packet → Reach → Bool → Type 0
ReachFits rule below packets above true = above.over ≡ true
ReachFits rule below packets above false = Leads rule below packets above

-- REQUESTS

-- a replica is FINALIZED under this stamp, with so many bytes, and has this rule
pub record IsFinalWith (stamp : Stamp) (bytes : ℕ) (rule : Rule) (r : FullReplica) : Type 0 where
  pub info : ReplicaInfo
  pub is : r.known.info ≡ Some info
  pub final : info.original ≡ state.Finalized
  pub stamp_is : info.stamp ≡ stamp
  pub written_is : info.written ≡ bytes
  pub rule_is : info.sums ≡ rule

-- The replica may take the request: it is absent in a create, and in an append it is as the request says.
abbrev pub MayTake : Option SetupKind → WriteFields → Rule → FullReplica → Type 0
MayTake (Some kind.Create) f rule r = r.known.info ≡ None
MayTake (Some kind.Append) f rule r = (f.block.stamp.0 < f.latest.0) × IsFinalWith f.block.stamp f.min rule r
MayTake other f rule r = ⊥

-- A request of a create or an append, with this rule, and with as many targets as it may have.
pub record IsRequest (f : WriteFields) (rule : Rule) : Type 0 where
  pub opens : (setup_with f.stage ≡ Some kind.Create) ⊎ (setup_with f.stage ≡ Some kind.Append)
  pub pool : is_in_pool f.block ≡ true
  pub few : length f.targets ≤ MAX_BELOW
  pub rule_is : rule_with f.kind f.chunk ≡ Some rule

-- LOWER ENDS

-- The request alone was sent, and nothing was taken of what goes up.
pub record IsEarly (w : World) (c : ℕ) (f : WriteFields) : Type 0 where
  pub alone : w.downs c ≡ request (op.Write f) ∷ []
  pub untaken : (w.up_marks c).taken ≡ 0

-- So it is, and each replica that the request reaches may take it.
pub record WaitsWell (w : World) (c : ℕ) (f : WriteFields) (rule : Rule) : Type 0 where
  pub early : IsEarly w c f
  pub ready : (i n : ℕ) → slice_get (chain w.past c f) i ≡ Some (Some n) →
      MayTake (setup_with f.stage) f rule (w.replicas n (block_of f))

-- A member's replica is RBW under the request's stamp, with its rule, and the connection writes it.
pub record WritesWell (c : ℕ) (f : WriteFields) (rule : Rule) (r : FullReplica) : Type 0 where
  pub info : ReplicaInfo
  pub is : r.known.info ≡ Some info
  pub rbw : info.original ≡ state.Rbw
  pub stamp_is : info.stamp ≡ new_stamp f
  pub rule_is : info.sums ≡ rule
  pub stream : Stream
  pub written : r.known.stream ≡ Some stream
  pub conn : stream.conn.0 ≡ c

-- nobody is below, or the mirror was dialled
abbrev pub MirrorFits : WriteFields → FullMember → Mirror → Type 0
MirrorFits f m mirror.Nobody = (f.targets ≡ []) × (m.mirror ≡ None)
MirrorFits f m mirror.Asked = (m.mirror ≡ None → ⊥)
MirrorFits f m mirror.Open = (m.mirror ≡ None → ⊥)
MirrorFits f m other = ⊥

-- A member that still acts. Until its mirror has answered, it has only its request.
pub record ActsWell (w : World) (c : ℕ) (f : WriteFields) (rule : Rule) (m : FullMember) : Type 0 where
  pub quiet : m.state.bad ≡ None
  pub below : m.state.below ≡ length f.targets
  pub stays : m.state.closes ≡ false
  pub mirror : MirrorFits f m m.state.mirror
  pub writes : WritesWell c f rule (replica_at w c (block_of f))
  pub waits : is_waiting m.state.mirror ≡ true → IsEarly w c f ×
      ((replica_at w c (block_of f)).known.pending ≡ [])

-- a member is over where it no longer hears its mirror
pub record MemberWell (w : World) (c : ℕ) (f : WriteFields) (rule : Rule) (m : FullMember) : Type 0 where
  pub fields_are : m.fields ≡ f
  pub receives : m.state.receives ≡ true
  pub acts : m.state.responds ≡ true → ActsWell w c f rule m

-- a lower end has taken nothing, or is a member
abbrev pub LowerWell : World → ℕ → WriteFields → Rule → Lower → Type 0
LowerWell w c f rule idle = WaitsWell w c f rule
LowerWell w c f rule (writes m) = MemberWell w c f rule m
LowerWell w c f rule other = ⊥

-- WHAT GOES UP

-- a SUCCESS of each member from the lower end on
pub record IsGoodAck (f : WriteFields) (a : Ack) : Type 0 where
  pub whole : length a.replies ≡ suc (length f.targets)
  pub good : failures a.replies ≡ 0

abbrev pub IsGoodUp : WriteFields → Message → Type 0
IsGoodUp f (response r) = is_success r.status ≡ true
IsGoodUp f (ack a) = IsGoodAck f a
IsGoodUp f other = ⊥

-- No more was taken than was sent. No end stands on a live connection; on another one the end stands behind all that
-- went up.
pub record EndsWell (w : World) (c : ℕ) : Type 0 where
  pub sent_down : (w.down_marks c).taken ≤ length (w.downs c)
  pub sent_up : (w.up_marks c).taken ≤ length (w.ups c)
  pub down : is_open (w.lowers c) ≡ true → (w.down_marks c).end ≡ None
  pub up : is_open (w.lowers c) ≡ true → (w.up_marks c).end ≡ None
  pub over : is_open (w.lowers c) ≡ false → (w.up_marks c).end ≡ Some (length (w.ups c))

-- CONNECTIONS

-- what an upper end that awaits a connection, and the lower one, have with each other
pub record Carries (w : World) (c : ℕ) (f : WriteFields) (rule : Rule) (u : Upper) (l : Lower) : Type 0 where
  pub flows : Flows (awaited w u) (acks_left w c) (pending_below w c l) (packets_left w c) (not (is_open l))
  pub reaches : ReachFits rule (reach_below w c f l) (packets_left w c) (reach_above w u) (not (is_open l))
  pub ruled : rule_above w u ≡ Some rule

pub record Link (w : World) (c : ℕ) : Type 0 where
  pub fields : WriteFields
  pub asked : Asked w.past c fields
  pub rule : Rule
  pub request_is : IsRequest fields rule
  pub lower : LowerWell w c fields rule (w.lowers c)
  pub ups : (k : ℕ) (m : Message) → slice_get (w.ups c) k ≡ Some m → IsGoodUp fields m
  pub ends : EndsWell w c
  pub live : is_open (w.lowers c) ≡ true → Awaits w c (w.dialled c).upper
  pub carries : Awaits w c (w.dialled c).upper → Carries w c fields rule (w.dialled c).upper (w.lowers c)

-- a connection that was dialled, by a writer or a member
pub record InPipeline (w : World) (c : ℕ) : Type 0 where
  pub known : c < w.next_conn
  pub of : is_of_pipeline (w.dialled c).upper ≡ true

-- each of these; readers' connections are beside them
abbrev pub Links : World → Type 0
Links w = (c : ℕ) → InPipeline w c → Link w c
