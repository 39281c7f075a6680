-- What answers to setups and acks say of the replicas below them.
use Rattle.std.specs.Prelude.{ℕ, ℤ, pos, ◌≡◌, ◌<◌, ◌≤◌, ◌⊎◌, Bool, true, false, List, [], ◌∷◌, length, take, slice_get, Option, Some, IfSome}
use Rattle.hd_base.specs.declared.numbers.Stamp.{Stamp}
use Rattle.hd_base.specs.declared.states.ReplicaState.TheVariants as state
use Rattle.op_headers.specs.declared.nodes.NodeRef.{NodeRef}
use Rattle.op_headers.specs.declared.ops.Op.TheVariants as op
use Rattle.op_headers.specs.declared.ops.ReadOp.{ReadOp}
use Rattle.op_headers.specs.Values.{WriteFields}
use Rattle.packet_codec.specs.declared.packets.Packet.{Packet}
use Rattle.world_recoveries.specs.PacketStream.Streams.{packet_end}
use Rattle.replica_core.specs.declared.ack_queue.PendingPacket.{PendingPacket}
use Rattle.replica_core.specs.declared.info.ReplicaInfo.{ReplicaInfo}
use Rattle.replica_core.specs.declared.records.ReplicaRecord.{ReplicaRecord}
use Rattle.replica_core.specs.Info.{visible_of}
use Rattle.replica_model.specs.Rows.{FullReplica}
use Rattle.member_core.specs.declared.member.Mirror.TheVariants as mirror
use Rattle.member_core.specs.declared.requests.SetupKind.{SetupKind}
use Rattle.member_core.specs.declared.requests.SetupKind.TheVariants as kind
use Rattle.member_core.specs.Acks.{is_success, failures}
use Rattle.member_core.specs.Requests.{setup_with, request_from}
use Rattle.writer_core.specs.declared.phases.Phase.{Phase}
use Rattle.writer_core.specs.declared.phases.Phase.TheVariants as phase
use Rattle.writer_core.specs.declared.phases.Setup.{Setup}
use Rattle.writer_core.specs.declared.phases.Setup.TheVariants as setup
use Rattle.writer_core.specs.declared.records.WriterRecord.{WriterRecord}
use Rattle.world_recoveries.specs.World.Event.{Event}
use Rattle.world_recoveries.specs.World.Parts.{Message, request, packet, ack, response, Upper, by_member, FullMember, Lower, writes, Updated}
use Rattle.world_recoveries.specs.World.Worlds.{Past, World, start}
use Rattle.world_recoveries.specs.World.Nodes.{node_of, node_on, block_of}
use Rattle.world_recoveries.specs.World.Events.{run}
use Rattle.world_recoveries.specs.World.Safe.{Has}
use Rattle.world_recoveries.specs.WorldLaws.Stamping.{Givens, none_given, given_in, heard}
use Rattle.world_recoveries.specs.WorldLaws.Carrying.{new_stamp}
use Rattle.world_recoveries.specs.WorldLaws.Joining.{joined_as}
use Rattle.world_recoveries.specs.Recovering.{ReplicaTold, Informs}
use Rattle.world_acks.specs.Passing.{PassesSince}
use Rattle.world_acks.specs.Closing.{StandsClosed, AllClosed}
use Rattle.world_acks.specs.Waiting.{IsQuiet}

-- WHAT A REPLICA SHOWS

-- A replica has at least this stamp, and at least so many bytes of it are visible, which are the first of these.
pub record Shown (r : FullReplica) (stamp n : ℕ) (v : List ℕ) : Type 0 where
  pub info : ReplicaInfo
  pub is : r.known.info ≡ Some info
  pub least : stamp ≤ info.stamp.0
  pub visible : ℕ
  pub sees : visible_of info ≡ Some visible
  pub enough : n ≤ visible
  pub bytes : take n r.bytes ≡ take n v
  pub within : n ≤ length v

-- each recovery with an id above this stamp that updated the block's replica at a node in this life left it at least
-- so many bytes
pub record UpdatesLeave (w : World) (b stamp n life least : ℕ) : Type 0 where
  pub each : (u : Updated) → Has w.updated u → u.node ≡ n → u.life ≡ life → u.block ≡ b → stamp < u.recovery →
      least ≤ u.length

-- the same of those with an id below another
pub record EarlierLeave (h : Past) (b stamp id n life least : ℕ) : Type 0 where
  pub each : (u : Updated) → Has h.updated u → u.node ≡ n → u.life ≡ life → u.block ≡ b → stamp < u.recovery →
      u.recovery < id → least ≤ u.length

-- A replica was told of as RBW or FINALIZED, with at least so many bytes written.
pub record TellsBytes (i : ReplicaTold) (n : ℕ) : Type 0 where
  pub is : (i.0 ≡ state.Rbw) ⊎ (i.0 ≡ state.Finalized)
  pub enough : n ≤ i.2

-- What a node told in this life of its replica to a recovery with an id above this stamp is of so many bytes, as many
-- of them as each earlier recovery left that has updated it.
pub record ToldBytes (h : Past) (b stamp n life least : ℕ) : Type 0 where
  pub each : (c : ℕ) (id : Stamp) (i : ReplicaTold) → Informs h c b id i →
      (h.dialled c).to ≡ record { node = n; life = life } → stamp < id.0 → (j : ℕ) → j ≤ least →
      EarlierLeave h b stamp id.0 n life j → TellsBytes i j

-- A node accepted the setup of a stamp of a session, in a life that isn't later than its present one. Of so many
-- bytes of the session it shows, as long as it runs in that life and its replica isn't broken, as many as each later
-- recovery left that has updated it; it told no recovery of fewer; and its replica got past all later stamps since.
pub record Seat (w : World) (b stamp session n least : ℕ) : Type 0 where
  pub life : ℕ
  pub joins : Has w.joined (joined_as stamp n life)
  pub born : life ≤ w.lives n
  pub shows : w.running n ≡ true → w.lives n ≡ life → (w.replicas n b).known.is_broken ≡ false → (j : ℕ) → j ≤ least →
      UpdatesLeave w b stamp n life j → Shown (w.replicas n b) stamp j (w.written session)
  pub told : ToldBytes w.past b stamp n life least
  pub passes : PassesSince w b stamp n life

-- CONNECTIONS

-- The connection's first message is this write request.
pub record Asked (h : Past) (c : ℕ) (f : WriteFields) : Type 0 where
  pub first : slice_get (h.downs c) 0 ≡ Some (request (op.Write f))

-- The connection's first message is a request to read.
pub record AsksToRead (h : Past) (c : ℕ) : Type 0 where
  pub asked : ReadOp
  pub first : slice_get (h.downs c) 0 ≡ Some (request (op.Read asked))

-- The node and each target of the request have such a seat.
pub record Seated (w : World) (f : WriteFields) (n session least : ℕ) : Type 0 where
  pub here : Seat w (block_of f) (new_stamp f).0 session n least
  pub below : (i m : ℕ) (t : NodeRef) → slice_get f.targets i ≡ Some t → node_on t.xfer ≡ Some m →
      Seat w (block_of f) (new_stamp f).0 session m least

-- the connection of a request whose stamp was given for its block in a session
pub record IsPipe (g : Givens) (w : World) (c : ℕ) (f : WriteFields) (session : ℕ) : Type 0 where
  pub known : c < w.next_conn
  pub asked : Asked w.past c f
  pub given : g (block_of f) (new_stamp f).0 ≡ Some session

-- the least length that a replica has once it took a setup
abbrev pub least_of : Option SetupKind → ℕ → ℕ
least_of (Some kind.Create) n = 0
least_of _ n = n

abbrev pub promised : WriteFields → ℕ
promised f = least_of (setup_with f.stage) f.min

-- All members from a connection's lower end on accepted the setup, with the least length of its request; where it
-- recovers a close, they have closed.
pub record SetUpFrom (g : Givens) (w : World) (c : ℕ) : Type 0 where
  pub fields : WriteFields
  pub session : ℕ
  pub pipe : IsPipe g w c fields session
  pub seated : Seated w fields (node_of w c) session (promised fields)
  pub closed : setup_with fields.stage ≡ Some kind.CloseRecovery → AllClosed g w fields (node_of w c)

-- A node that accepted a setup was asked to over a connection to it, in that life, and has a seat of the least length
-- of the request.
pub record JoinSeat (g : Givens) (w : World) (stamp n life : ℕ) : Type 0 where
  pub conn : ℕ
  pub fields : WriteFields
  pub session : ℕ
  pub pipe : IsPipe g w conn fields session
  pub is : (new_stamp fields).0 ≡ stamp
  pub to : (w.dialled conn).to ≡ record { node = n; life = life }
  pub seat : Seat w (block_of fields) stamp session n (promised fields)

-- where a packet ends, and whether it is the last one of its block
pub record PacketEnd : Type 0 where
  pub at : ℕ
  pub last : Bool

abbrev pub end_of : Packet → PacketEnd
end_of p = record { at = packet_end p; last = p.last }

abbrev pub pending_end : PendingPacket → PacketEnd
pending_end e = record { at = e.end; last = e.last }

-- by session and number, the end of the packet of this number
abbrev pub Ends : Type 0
Ends = ℕ → ℤ → Option PacketEnd

-- All members from a connection's lower end on show what the packet of this number ends; where it is the last one,
-- they have closed.
pub record AckedFrom (g : Givens) (t : Ends) (w : World) (c : ℕ) (seqno : ℤ) : Type 0 where
  pub fields : WriteFields
  pub session : ℕ
  pub pipe : IsPipe g w c fields session
  pub end : PacketEnd
  pub named : t session seqno ≡ Some end
  pub seated : Seated w fields (node_of w c) session end.at
  pub closed : end.last ≡ true → AllClosed g w fields (node_of w c)

-- what goes up: an answer of SUCCESS, to a setup or a read, and an ack without a bad reply
abbrev pub UpTells : Givens → Ends → World → ℕ → Message → Type 0
UpTells g t w c (response r) = is_success r.status ≡ true → SetUpFrom g w c ⊎ AsksToRead w.past c
UpTells g t w c (ack a) = failures a.replies ≡ 0 → AckedFrom g t w c a.seqno
UpTells g t w c _ = Unit {0}

-- a packet with a number, under which its end is known in this session
pub record Numbered (t : Ends) (session : ℕ) (p : Packet) : Type 0 where
  pub number : ℕ
  pub is : p.seqno ≡ pos number
  pub named : t session p.seqno ≡ Some (end_of p)

-- a packet has the number under which its end is known in its connection's session
pub record PacketTells (g : Givens) (t : Ends) (w : World) (c : ℕ) (p : Packet) : Type 0 where
  pub fields : WriteFields
  pub session : ℕ
  pub pipe : IsPipe g w c fields session
  pub numbered : Numbered t session p

abbrev pub DownTells : Givens → Ends → World → ℕ → Message → Type 0
DownTells g t w c (packet p) = PacketTells g t w c p
DownTells g t w c (request (op.Read r)) = AsksToRead w.past c
DownTells g t w c _ = Unit {0}

-- The connection's request is that of a member, without its first target, which is the node at its lower end.
pub record Mirrors (h : Past) (d c : ℕ) : Type 0 where
  pub fields : WriteFields
  pub asked : Asked h d fields
  pub source : NodeRef
  pub first : NodeRef
  pub rest : List NodeRef
  pub targets : fields.targets ≡ first ∷ rest
  pub node : node_on first.xfer ≡ Some (h.dialled c).to.node
  pub mirror : Asked h c (request_from source fields rest)

abbrev pub UpperTells : Past → ℕ → Upper → Type 0
UpperTells h c (by_member d) = Mirrors h d c
UpperTells h c _ = Unit {0}

-- LOWER ENDS

-- A member took the setup of its connection in the life of its connection, and has a seat of the least length.
-- Without a mirror it has no targets, and no request waits under its stamp that recovers an append; where it took the
-- recovery of a close it has closed.
pub record MemberTells (g : Givens) (w : World) (c : ℕ) (m : FullMember) : Type 0 where
  pub session : ℕ
  pub pipe : IsPipe g w c m.fields session
  pub joins : Has w.joined (joined_as (new_stamp m.fields).0 (node_of w c) (w.dialled c).to.life)
  pub seat : Seat w (block_of m.fields) (new_stamp m.fields).0 session (node_of w c) (promised m.fields)
  pub alone : m.state.mirror ≡ mirror.Nobody → m.fields.targets ≡ []
  pub quiet : m.state.mirror ≡ mirror.Nobody → IsQuiet w (new_stamp m.fields).0
  pub closes : setup_with m.fields.stage ≡ Some kind.CloseRecovery →
      StandsClosed g w (block_of m.fields) (new_stamp m.fields).0 (node_of w c)

abbrev pub LowerTells : Givens → World → ℕ → Lower → Type 0
LowerTells g w c (writes m) = MemberTells g w c m
LowerTells g w c _ = Unit {0}

-- what is pending under a stamp has its end by its number in the stamp's session
pub record PendingTells (g : Givens) (t : Ends) (b : ℕ) (stamp : Stamp) (e : PendingPacket) : Type 0 where
  pub session : ℕ
  pub given : g b stamp.0 ≡ Some session
  pub named : t session e.seqno ≡ Some (pending_end e)

pub record Pends (g : Givens) (t : Ends) (b : ℕ) (r : ReplicaRecord) (i : ReplicaInfo) : Type 0 where
  pub each : (j : ℕ) (e : PendingPacket) → slice_get r.pending j ≡ Some e → PendingTells g t b i.stamp e

-- WRITERS

-- how far a writer is in its session: outside of one, past its last packet, or before it
abbrev pub reach_in : Setup → ℕ
reach_in setup.CloseRecovery = 1
reach_in _ = 2

abbrev pub reach_wanted : Setup → ℕ
reach_wanted setup.Create = 0
reach_wanted setup.Append = 0
reach_wanted s = reach_in s

abbrev pub reach_of : Phase → ℕ
reach_of phase.Closed = 0
reach_of (phase.Wanted s) = reach_wanted s
reach_of (phase.Stamped s stamp) = reach_in s
reach_of (phase.Requested s stamp) = reach_in s
reach_of (phase.Accepted s stamp) = reach_in s
reach_of phase.Opened = 2
reach_of (phase.Streaming sent) = 2
reach_of phase.Closing = 1
reach_of phase.Finished = 1
reach_of phase.Completed = 1
reach_of (phase.Failed e) = 0

-- In its session, which is named by a stamp of its block, a writer's packets have numbers; they lie below the next
-- one until the last packet was formed.
pub record Numbers (f : ℕ → Option ℕ) (t : Ends) (session : ℕ) (x : WriterRecord) : Type 0 where
  pub known : 1 ≤ reach_of x.phase → f session ≡ Some session
  pub packets : 1 ≤ reach_of x.phase → (i : ℕ) (p : Packet) → slice_get x.stream.unacked i ≡ Some p →
      Numbered t session p
  pub below : 2 ≤ reach_of x.phase → (q : ℕ) (k : PacketEnd) → t session (pos q) ≡ Some k → q < x.stream.seqno

-- THE WORLD

pub record Acked (g : Givens) (t : Ends) (w : World) : Type 0 where
  pub lives : (s n l : ℕ) → Has w.joined (joined_as s n l) → l ≤ w.lives n
  pub joins : (s n l : ℕ) → Has w.joined (joined_as s n l) → JoinSeat g w s n l
  pub begun : (e : ℕ) (k : PacketEnd) (q : ℤ) → t e q ≡ Some k → e < w.office.next.0
  pub ups : (c i : ℕ) (m : Message) → slice_get (w.ups c) i ≡ Some m → UpTells g t w c m
  pub downs : (c i : ℕ) (m : Message) → slice_get (w.downs c) i ≡ Some m → DownTells g t w c m
  pub uppers : (c : ℕ) → c < w.next_conn → UpperTells w.past c (w.dialled c).upper
  pub lowers : (c : ℕ) → LowerTells g w c (w.lowers c)
  pub replicas : (n b : ℕ) → IfSome (w.replicas n b).known.info (Pends g t b (w.replicas n b).known)
  pub writers : (b : ℕ) → Numbers (g b) t (w.latest b) (heard (w.writers b))

-- So it is after every list of events, of the stamps that are given in them and some ends of packets.
abbrev pub AllAcked : Type 0
AllAcked = (nodes : ℕ) (events : List Event) →
    (t : Ends) × Acked (given_in none_given (start nodes) events) t (run (start nodes) events)
