-- Which bytes stand where: in replicas, in packets on their way, in writers, and as lengths in recoveries and in the office.
use Rattle.std.specs.Prelude.{ℕ, ◌≡◌, ◌<◌, ◌≤◌, ◌⊎◌, true, false, List, [], length, take, slice_get, Option, Some, None, IfSome, Ok}
use Rattle.hd_base.specs.declared.numbers.Stamp.{Stamp}
use Rattle.name_core.specs.declared.calls.OfficeAnswer.TheVariants as office
use Rattle.name_core.specs.declared.records.BlockRecord.{BlockRecord}
use Rattle.name_core.specs.Offices.{record_of}
use Rattle.world.specs.OpHeaders.Op.TheVariants as op
use Rattle.world.specs.OpHeaders.RecoveryOp.{RecoveryOp}
use Rattle.world.specs.OpHeaders.Values.{WriteFields}
use Rattle.world.specs.PacketCodec.Packet.{Packet}
use Rattle.world.specs.PacketStream.Carried.{Carries, IsPiece}
use Rattle.world.specs.PacketStream.Streams.{StreamState}
use Rattle.replica_core.specs.declared.info.ReplicaInfo.{ReplicaInfo}
use Rattle.replica_core.specs.declared.streams.Stream.{Stream}
use Rattle.world.specs.ReplicaModel.Rows.{FullReplica, row}
use Rattle.world.specs.ReplicaModel.Found.{IsFront}
use Rattle.world.specs.MemberCore.SetupKind.{SetupKind}
use Rattle.world.specs.MemberCore.SetupKind.TheVariants as kind
use Rattle.world.specs.MemberCore.Requests.{setup_with}
use Rattle.world.specs.RecoveryCore.Phase.{Phase as LeadPhase}
use Rattle.world.specs.RecoveryCore.Phase.TheVariants as lead_phase
use Rattle.world.specs.RecoveryCore.Standing.{Standing}
use Rattle.world.specs.RecoveryCore.Standing.TheVariants as standing
use Rattle.world.specs.WriterCore.Phase.{Phase}
use Rattle.world.specs.WriterCore.Phase.TheVariants as phase
use Rattle.world.specs.WriterCore.Setup.{Setup}
use Rattle.world.specs.WriterCore.Setup.TheVariants as setup
use Rattle.world.specs.WriterCore.Requests.{min_length}
use Rattle.world.specs.WriterCore.Sound.{Sound}
use Rattle.world.specs.WriterCore.Transitions.{is_connected}
use Rattle.world.specs.declared.events.Event.{Event}
use Rattle.world.specs.Parts.{Message, request, packet, recovery_answer, by_primary, FullMember, Lower, writes, Told, Writing, Leading, Primary, no_primary, was_told, leads, has_led, Break}
use Rattle.world.specs.Worlds.{Past, World, start}
use Rattle.world.specs.Events.{run}
use Rattle.world_laws.specs.Stamping.{Givens, none_given, given_in, heard}

-- SETUPS

-- the stamp that a replica has after a setup: in a create the block's, and else the latest one
abbrev pub stamp_set : Option SetupKind → Stamp → Stamp → Stamp
stamp_set (Some kind.Create) stamp latest = stamp
stamp_set _ stamp latest = latest

abbrev pub new_stamp : WriteFields → Stamp
new_stamp f = stamp_set (setup_with f.stage) f.block.stamp f.latest

-- The connection's first message is the request of a setup under this stamp.
pub record Sets (h : Past) (c : ℕ) (stamp : Stamp) : Type 0 where
  pub fields : WriteFields
  pub first : slice_get (h.downs c) 0 ≡ Some (request (op.Write fields))
  pub is : new_stamp fields ≡ stamp

-- two sessions have at least so many bytes, and the same ones
pub record Shares (h : Past) (old new n : ℕ) : Type 0 where
  pub same : take n (h.written old) ≡ take n (h.written new)
  pub within : n ≤ length (h.written old)
  pub inside : n ≤ length (h.written new)

-- A replica under a stamp of the one session may be set up under a stamp of the other: the recovery of a stream stays in its session; an append and
-- its recovery, which have just so many bytes, may come from a session with the same bytes.
abbrev pub Passing : Option SetupKind → Past → ℕ → ℕ → ℕ → Type 0
Passing (Some kind.Create) h old new n = Unit {0}
Passing (Some kind.Append) h old new n = (old ≡ new) ⊎ Shares h old new n
Passing (Some kind.AppendRecovery) h old new n = (old ≡ new) ⊎ Shares h old new n
Passing (Some kind.StreamRecovery) h old new n = old ≡ new
Passing (Some kind.CloseRecovery) h old new n = (old ≡ new) ⊎ Shares h old new n
Passing None h old new n = Unit {0}

-- A write request is the first message of its connection; its stamp was given for its block; and what stands under a stamp from the one that it
-- names to its own may pass to its session.
pub record WriteSays (g : Givens) (h : Past) (c : ℕ) (f : WriteFields) : Type 0 where
  pub first : slice_get (h.downs c) 0 ≡ Some (request (op.Write f))
  pub session : ℕ
  pub given : g f.block.block.0 (new_stamp f).0 ≡ Some session
  pub passes : (t e : ℕ) → g f.block.block.0 t ≡ Some e → f.block.stamp.0 ≤ t → t ≤ (new_stamp f).0 →
      Passing (setup_with f.stage) h e session f.min

-- RECOVERIES

-- The connection's first message is a request of the recovery with this id.
pub record Recovers (h : Past) (c : ℕ) (id : Stamp) : Type 0 where
  pub asked : RecoveryOp
  pub first : slice_get (h.downs c) 0 ≡ Some (request (op.Recovery asked))
  pub is : asked.recovery ≡ id

-- A recovery of a block: what was written under a stamp from the named one to below the id is a front of what was written in the id's session.
pub record IsRecovery (g : Givens) (h : Past) (b : ℕ) (named id : Stamp) : Type 0 where
  pub session : ℕ
  pub given : g b id.0 ≡ Some session
  pub fronts : (t e : ℕ) → g b t ≡ Some e → named.0 ≤ t → t < id.0 → IsFront (h.written e) (h.written session)

pub record RecoverySays (g : Givens) (h : Past) (c : ℕ) (r : RecoveryOp) : Type 0 where
  pub first : Recovers h c r.recovery
  pub recovery : IsRecovery g h r.block.block.0 r.block.stamp r.recovery

-- a length within what was written in the session of a stamp
pub record LiesIn (g : Givens) (h : Past) (stamp : Stamp) (n : ℕ) : Type 0 where
  pub block : ℕ
  pub session : ℕ
  pub given : g block stamp.0 ≡ Some session
  pub within : n ≤ length (h.written session)

-- MESSAGES

-- a packet is a piece of what was written in its connection's session
pub record PacketSays (g : Givens) (h : Past) (c : ℕ) (p : Packet) : Type 0 where
  pub stamp : Stamp
  pub sets : Sets h c stamp
  pub block : ℕ
  pub session : ℕ
  pub given : g block stamp.0 ≡ Some session
  pub piece : IsPiece (h.written session) p

abbrev pub DownSays : Givens → Past → ℕ → Message → Type 0
DownSays g h c (request (op.Write f)) = WriteSays g h c f
DownSays g h c (request (op.Recovery r)) = RecoverySays g h c r
DownSays g h c (packet p) = PacketSays g h c p
DownSays g h c _ = Unit {0}

-- what a member tells of its replica lies within the session of the recovery's id
pub record InfoSays (g : Givens) (h : Past) (c : ℕ) (n : ℕ) : Type 0 where
  pub id : Stamp
  pub first : Recovers h c id
  pub lies : LiesIn g h id n

abbrev pub UpSays : Givens → Past → ℕ → Message → Type 0
UpSays g h c (recovery_answer a) = IfSome a.info (λ i. InfoSays g h c i.2)
UpSays g h c _ = Unit {0}

-- REPLICAS

-- bytes under a stamp: a front of what was written in its session
pub record Under (g : Givens) (h : Past) (b : ℕ) (stamp : Stamp) (v : List ℕ) : Type 0 where
  pub session : ℕ
  pub given : g b stamp.0 ≡ Some session
  pub front : IsFront v (h.written session)

-- A replica has such bytes under its stamp, and where a recovery holds it, also under the recovery's id.
pub record Holds (g : Givens) (h : Past) (b : ℕ) (v : List ℕ) (i : ReplicaInfo) : Type 0 where
  pub under : Under g h b i.stamp v
  pub held : (id : Stamp) → i.recovery ≡ Some id → Under g h b id v

abbrev pub SetFor : Past → Option ReplicaInfo → Stream → Type 0
SetFor h o s = IfSome o (λ i. Sets h s.conn.0 i.stamp)

-- A replica has a front of what was written in the session of its stamp, and the connection that writes it sets up that stamp.
pub record ReplicaSays (g : Givens) (h : Past) (b : ℕ) (r : FullReplica) : Type 0 where
  pub info : IfSome r.known.info (Holds g h b r.bytes)
  pub stream : IfSome r.known.stream (SetFor h r.known.info)

-- bytes before and after an event, under one stamp
pub record Both (g : Givens) (h : Past) (b : ℕ) (v w : List ℕ) (i : ReplicaInfo) : Type 0 where
  pub before : Under g h b i.stamp v
  pub after : Under g h b i.stamp w

-- Where a replica broke, its bytes before the event and after it are fronts under both stamps.
pub record BreakSays (g : Givens) (h : Past) (b : ℕ) (x : Break) : Type 0 where
  pub old : IfSome x.before.known.info (Both g h b x.before.bytes (row x.before x.event).bytes)
  pub new : IfSome (row x.before x.event).known.info (Both g h b x.before.bytes (row x.before x.event).bytes)

-- LOWER ENDS

-- a member has its connection's number; its request came first there, and the request to its mirror is of the same stamp
pub record MemberSays (h : Past) (c : ℕ) (m : FullMember) : Type 0 where
  pub conn : m.state.conn.0 ≡ c
  pub sets : Sets h c (new_stamp m.fields)
  pub mirror : IfSome m.mirror (λ d. Sets h d (new_stamp m.fields))

abbrev pub LowerSays : Past → ℕ → Lower → Type 0
LowerSays h c (writes m) = MemberSays h c m
LowerSays h c _ = Unit {0}

-- WRITERS

-- a writer's connection is of the latest session
pub record ConnSays (g : Givens) (h : Past) (b latest c : ℕ) : Type 0 where
  pub stamp : Stamp
  pub sets : Sets h c stamp
  pub given : g b stamp.0 ≡ Some latest

-- a stream of just these bytes, whose packets are pieces of them
pub record StreamOf (v : List ℕ) (s : StreamState) : Type 0 where
  pub carries : Carries v s
  pub pieces : (i : ℕ) (p : Packet) → slice_get s.unacked i ≡ Some p → IsPiece v p

-- so it is from the first stamp of a session on, until the writer fails or the block is closed
abbrev pub Streams : List ℕ → StreamState → Phase → Type 0
Streams v s phase.Closed = Unit {0}
Streams v s (phase.Wanted setup.Create) = Unit {0}
Streams v s (phase.Wanted setup.Append) = Unit {0}
Streams v s (phase.Failed e) = Unit {0}
Streams v s _ = StreamOf v s

-- the setup of a member that a writer's setup is
abbrev pub kind_of : Setup → SetupKind
kind_of setup.Create = kind.Create
kind_of setup.Append = kind.Append
kind_of setup.AppendRecovery = kind.AppendRecovery
kind_of setup.StreamRecovery = kind.StreamRecovery
kind_of setup.CloseRecovery = kind.CloseRecovery

-- what stands under a stamp from the committed one to that of the setup may pass to the latest session; a create commits its stamp at once
pub record AsksFor (f : ℕ → Option ℕ) (h : Past) (latest : ℕ) (committed : Stamp) (s : StreamState) (way : Setup)
    (stamp : Stamp) : Type 0 where
  pub given : f stamp.0 ≡ Some latest
  pub created : way ≡ setup.Create → committed ≡ stamp
  pub passes : (t e : ℕ) → f t ≡ Some e → committed.0 ≤ t → t ≤ stamp.0 →
      Passing (Some (kind_of way)) h e latest (min_length way s)

abbrev pub Asks : (ℕ → Option ℕ) → Past → ℕ → Stamp → StreamState → Phase → Type 0
Asks f h latest committed s (phase.Stamped way stamp) = AsksFor f h latest committed s way stamp
Asks f h latest committed s _ = Unit {0}

-- A writer has a connection only where its phase has one; its own bytes are those of the latest session, once its block has one; and no command is
-- left in its queue.
pub record WriterSays (g : Givens) (h : Past) (b latest : ℕ) (x : Writing) : Type 0 where
  pub conn : IfSome x.conn (ConnSays g h b latest)
  pub linked : (c : ℕ) → x.conn ≡ Some c → is_connected x.known.phase ≡ true
  pub sound : Sound (heard x)
  pub queue : (heard x).queue ≡ []
  pub own : List ℕ
  pub are : g b latest ≡ Some latest → own ≡ h.written latest
  pub streams : Streams own (heard x).stream (heard x).phase
  pub asks : Asks (g b) h latest (heard x).committed (heard x).stream (heard x).phase

-- THE OFFICE

-- the latest session has a front of the committed one's bytes, and the length of a closed block lies within these
pub record EntrySays (f : ℕ → Option ℕ) (h : Past) (latest : ℕ) (r : BlockRecord) : Type 0 where
  pub front : (e : ℕ) → f r.committed.0 ≡ Some e → IsFront (h.written latest) (h.written e)
  pub length : r.is_open ≡ false → (e : ℕ) → f r.committed.0 ≡ Some e → r.length ≤ length (h.written e)

-- PRIMARIES

abbrev pub StandingSays : Givens → Past → Stamp → Standing → Type 0
StandingSays g h id (standing.Told state stamp bytes ended) = LiesIn g h id bytes
StandingSays g h id _ = Unit {0}

abbrev pub PhaseSays : Givens → Past → Stamp → LeadPhase → Type 0
PhaseSays g h id (lead_phase.Updating n) = LiesIn g h id n
PhaseSays g h id _ = Unit {0}

pub record LeadingSays (g : Givens) (h : Past) (l : Leading) : Type 0 where
  pub recovery : IsRecovery g h l.state.block.0 l.state.begun.committed l.state.begun.id
  pub conns : (i c : ℕ) → slice_get l.conns i ≡ Some (Some c) → Recovers h c l.state.begun.id
  pub standings : (i : ℕ) (s : Standing) → slice_get l.state.standings i ≡ Some s → StandingSays g h l.state.begun.id s
  pub phase : PhaseSays g h l.state.begun.id l.state.phase

abbrev pub ToldSays : Givens → Past → ℕ → Told → Type 0
ToldSays g h b (Ok (office.Begun begun)) = IsRecovery g h b begun.committed begun.id
ToldSays g h b _ = Unit {0}

abbrev pub PrimarySays : Givens → Past → Primary → Type 0
PrimarySays g h no_primary = Unit {0}
PrimarySays g h (was_told block told) = ToldSays g h block.0 told
PrimarySays g h (leads l) = LeadingSays g h l
PrimarySays g h (has_led r) = Unit {0}

-- a primary that dialled this connection
abbrev pub LedBy : Past → ℕ → Primary → Type 0
LedBy h c no_primary = ⊥
LedBy h c (was_told block told) = ⊥
LedBy h c (leads l) = Recovers h c l.state.begun.id
LedBy h c (has_led r) = Unit {0}

-- THE WORLD

pub record Carried (g : Givens) (w : World) : Type 0 where
  pub downs : (c i : ℕ) (m : Message) → slice_get (w.downs c) i ≡ Some m → DownSays g w.past c m
  pub ups : (c i : ℕ) (m : Message) → slice_get (w.ups c) i ≡ Some m → UpSays g w.past c m
  pub replicas : (n b : ℕ) → ReplicaSays g w.past b (w.replicas n b)
  pub breaks : (n b : ℕ) → IfSome (w.breaks n b) (BreakSays g w.past b)
  pub lowers : (c : ℕ) → LowerSays w.past c (w.lowers c)
  pub writers : (b : ℕ) → WriterSays g w.past b (w.latest b) (w.writers b)
  pub entries : (b : ℕ) → IfSome (record_of w.office (record { 0 = b })) (EntrySays (g b) w.past (w.latest b))
  pub primaries : (i : ℕ) → PrimarySays g w.past (w.primaries i)
  pub led : (c i place : ℕ) → c < w.next_conn → (w.dialled c).upper ≡ by_primary i place →
      LedBy w.past c (w.primaries i)

-- So it is after every list of events, of the stamps that are given in them.
abbrev pub AllCarried : Type 0
AllCarried = (nodes : ℕ) (events : List Event) →
    Carried (given_in none_given (start nodes) events) (run (start nodes) events)
