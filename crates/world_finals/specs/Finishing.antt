-- The lengths of FINALIZED replicas: one for each stamp.
use Rattle.std.specs.Prelude.{ℕ, ◌≡◌, ◌<◌, ◌≤◌, ◌⊎◌, ◌||◌, not, Bool, true, false, List, [], ◌∷◌, length, slice_get, Option, Some, None, IfSome}
use Rattle.hd_base.specs.declared.numbers.Stamp.{Stamp}
use Rattle.hd_base.specs.declared.states.ReplicaState.TheVariants as state
use Rattle.name_core.specs.declared.records.BlockRecord.{BlockRecord}
use Rattle.name_core.specs.Offices.{record_of}
use Rattle.op_headers.specs.declared.ops.Op.TheVariants as op
use Rattle.op_headers.specs.Values.{WriteFields}
use Rattle.packet_codec.specs.declared.packets.Packet.{Packet}
use Rattle.packet_stream.specs.Streams.{packet_end}
use Rattle.replica_core.specs.declared.ack_queue.PendingPacket.{PendingPacket}
use Rattle.replica_core.specs.declared.info.ReplicaInfo.{ReplicaInfo}
use Rattle.replica_model.specs.Rows.{FullReplica, row}
use Rattle.member_core.specs.declared.requests.SetupKind.{SetupKind}
use Rattle.member_core.specs.declared.requests.SetupKind.TheVariants as kind
use Rattle.member_core.specs.Requests.{setup_with}
use Rattle.writer_core.specs.Commands.{is_open}
use Rattle.writer_core.specs.declared.phases.Phase.{Phase}
use Rattle.writer_core.specs.declared.phases.Phase.TheVariants as phase
use Rattle.writer_core.specs.declared.phases.Setup.{Setup}
use Rattle.writer_core.specs.declared.phases.Setup.TheVariants as setup
use Rattle.writer_core.specs.declared.phases.Waiting.TheVariants as waiting
use Rattle.writer_core.specs.declared.records.WriterRecord.{WriterRecord}
use Rattle.recovery_core.specs.declared.primary.Phase.{Phase as LeadPhase}
use Rattle.recovery_core.specs.declared.primary.Phase.TheVariants as lead_phase
use Rattle.recovery_core.specs.declared.standings.Standing.{Standing}
use Rattle.recovery_core.specs.declared.standings.Standing.TheVariants as standing
use Rattle.world.specs.declared.events.Caller.TheVariants as caller
use Rattle.world.specs.declared.events.Event.{Event}
use Rattle.world.specs.declared.events.Event.TheVariants as event
use Rattle.world.specs.Parts.{Message, request, packet, Primary, leads, Break}
use Rattle.world.specs.Worlds.{Past, World, Stamped, put, start}
use Rattle.world.specs.Primaries.{office_event}
use Rattle.world.specs.Events.{happens, run}
use Rattle.world_laws.specs.Stamping.{Givens, none_given, given_in, stamped_in, heard}
use Rattle.world_laws.specs.Carrying.{new_stamp, Sets}
use Rattle.world_recoveries.specs.Recovering.{Updates, HasId}
use Rattle.world_recoveries.specs.Naming.{IsBefore, NamesPast}

-- THE IDS OF RECOVERIES

-- by stamp, whether it was given as the id of a recovery
abbrev pub Ids : Type 0
Ids = ℕ → Bool

abbrev pub no_ids : Ids
no_ids stamp = false

abbrev pub ids_with : Ids → Option Stamped → Ids
ids_with f None = f
ids_with f (Some s) = put f s.stamp true

-- with what an event gives a primary
abbrev pub ids_by : Ids → World → Event → Ids
ids_by f w (event.Office (caller.Primary i b)) = ids_with f (stamped_in (office_event w (caller.Primary i b)))
ids_by f w _ = f

abbrev pub ids_in : Ids → World → List Event → Ids
ids_in f w [] = f
ids_in f w (e ∷ events) = ids_in (ids_by f w e) (happens w e) events

-- SESSIONS THAT ARE AT THEIR END

-- in the latest session of its block a writer in this phase writes nothing more
abbrev pub ends_setup : Setup → Bool
ends_setup setup.CloseRecovery = true
ends_setup _ = false

abbrev pub begins_or_ends : Setup → Bool
begins_or_ends setup.Create = true
begins_or_ends setup.Append = true
begins_or_ends s = ends_setup s

abbrev pub writes_no_more : Phase → Bool
writes_no_more (phase.Wanted s) = begins_or_ends s
writes_no_more (phase.Stamped s stamp) = ends_setup s
writes_no_more (phase.Requested s stamp) = ends_setup s
writes_no_more (phase.Accepted s stamp) = ends_setup s
writes_no_more phase.Opened = false
writes_no_more (phase.Streaming sent) = false
writes_no_more _ = true

-- No more bytes join a session: it isn't its block's latest one, or the block's writer writes no more in that.
pub record Sealed (latest : ℕ) (x : WriterRecord) (session : ℕ) : Type 0 where
  pub is : (session < latest) ⊎ (writes_no_more x.phase ≡ true)

-- a stamp of a session at its end, and how many bytes that has
pub record EndsAt (g : Givens) (w : World) (b stamp n : ℕ) : Type 0 where
  pub session : ℕ
  pub given : g b stamp ≡ Some session
  pub shut : Sealed (w.latest b) (heard (w.writers b)) session
  pub length : n ≡ length (w.written session)

-- The length of what is FINALIZED under a stamp: under a recovery's id the one that was sent as its length, and under
-- a setup's stamp all that was written in the session.
pub data FinalLength (f : Ids) (g : Givens) (w : World) (b stamp n : ℕ) : Type 0 where
  of_recovery : f stamp ≡ true → (c d : ℕ) → Updates w.past c d (record { 0 = stamp }) n → FinalLength f g w b stamp n
  of_session : f stamp ≡ false → EndsAt g w b stamp n → FinalLength f g w b stamp n

-- CLOSED BLOCKS

-- A block's writer closed it under a stamp: with all that was written in the stamp's session, which is no earlier one
-- than that of any stamp up to it.
pub record Completes (g : Givens) (w : World) (b stamp n : ℕ) : Type 0 where
  pub ends : EndsAt g w b stamp n
  pub last : (t e : ℕ) → g b t ≡ Some e → t ≤ stamp → e ≤ ends.session

-- The length that a block is closed with under a stamp: under a recovery's id the one that was sent as its length, or
-- what its writer closed it with.
pub data ClosedLength (f : Ids) (g : Givens) (w : World) (b stamp n : ℕ) : Type 0 where
  by_recovery : f stamp ≡ true → (c d : ℕ) → Updates w.past c d (record { 0 = stamp }) n → ClosedLength f g w b stamp n
  by_writer : Completes g w b stamp n → ClosedLength f g w b stamp n

-- so it is of a closed block's committed stamp and length
pub record EntryEnds (f : Ids) (g : Givens) (w : World) (b : ℕ) (r : BlockRecord) : Type 0 where
  pub closed : r.is_open ≡ false → ClosedLength f g w b r.committed.0 r.length

-- HOW SESSIONS BEGIN

-- A session is the first of its block; or it began with the length that the block was closed with under the last stamp
-- before it, which is at most n.
pub data SessionBegins (f : Ids) (g : Givens) (w : World) (b e n : ℕ) : Type 0 where
  first_session : ((t d : ℕ) → g b t ≡ Some d → e ≤ t) → SessionBegins f g w b e n
  begins_behind : (c m : ℕ) → IsBefore (g b) c e → ClosedLength f g w b c m → m ≤ n → SessionBegins f g w b e n

-- MESSAGES

-- the least length that a setup asks for: a create's none
abbrev pub least_asked : Option SetupKind → ℕ → ℕ
least_asked (Some kind.Create) n = 0
least_asked _ n = n

-- A write request is of a stamp that was given for its block, which is no recovery's id; it names no stamp before the
-- last one before a session, if its own is later than that; the recovery of a close asks for all that was written; and
-- each setup of a session asks for what the session began with.
pub record WriteEnds (f : Ids) (g : Givens) (w : World) (q : WriteFields) : Type 0 where
  pub no_id : f (new_stamp q).0 ≡ false
  pub session : ℕ
  pub given : g q.block.block.0 (new_stamp q).0 ≡ Some session
  pub past : NamesPast (g q.block.block.0) q.block.stamp.0 (new_stamp q).0
  pub closes : setup_with q.stage ≡ Some kind.CloseRecovery → EndsAt g w q.block.block.0 (new_stamp q).0 q.min
  pub own : g q.block.block.0 session ≡ Some session
  pub opens : SessionBegins f g w q.block.block.0 session (least_asked (setup_with q.stage) q.min)

-- the last packet ends where its session does
pub record LastEnds (g : Givens) (w : World) (c : ℕ) (p : Packet) : Type 0 where
  pub stamp : Stamp
  pub sets : Sets w.past c stamp
  pub block : ℕ
  pub ends : EndsAt g w block stamp.0 (packet_end p)

abbrev pub DownEnds : Ids → Givens → World → ℕ → Message → Type 0
DownEnds f g w c (request (op.Write q)) = WriteEnds f g w q
DownEnds f g w c (request (op.Recovery q)) = f q.recovery.0 ≡ true
DownEnds f g w c (packet p) = p.last ≡ true → LastEnds g w c p
DownEnds f g w c _ = Unit {0}

-- REPLICAS

-- what is FINALIZED has the length of its stamp
abbrev pub IsFinalOf : Ids → Givens → World → ℕ → ReplicaInfo → Type 0
IsFinalOf f g w b i = i.original ≡ state.Finalized → FinalLength f g w b i.stamp.0 i.written

-- where the last packet is pending, all was written
pub record LastPending (g : Givens) (w : World) (b : ℕ) (pending : List PendingPacket) (i : ReplicaInfo) : Type 0 where
  pub ends : (j : ℕ) (e : PendingPacket) → slice_get pending j ≡ Some e → e.last ≡ true →
      EndsAt g w b i.stamp.0 i.written

pub record ReplicaEnds (f : Ids) (g : Givens) (w : World) (b : ℕ) (r : FullReplica) : Type 0 where
  pub final : IfSome r.known.info (IsFinalOf f g w b)
  pub last : IfSome r.known.info (LastPending g w b r.known.pending)

-- a replica that was FINALIZED before and after an event has as many bytes as before
pub record KeepsFinal (o p : Option ReplicaInfo) : Type 0 where
  pub same : (i k : ReplicaInfo) → o ≡ Some i → p ≡ Some k → i.original ≡ state.Finalized →
      k.original ≡ state.Finalized → k.written ≡ i.written

pub record BreakEnds (f : Ids) (g : Givens) (w : World) (b : ℕ) (x : Break) : Type 0 where
  pub before : IfSome x.before.known.info (IsFinalOf f g w b)
  pub after : IfSome (row x.before x.event).known.info (IsFinalOf f g w b)
  pub keeps : KeepsFinal x.before.known.info (row x.before x.event).known.info

-- WRITERS

-- the stamp of a setup in progress is no recovery's id
abbrev pub SetsNoId : Ids → Phase → Type 0
SetsNoId f (phase.Stamped s stamp) = f stamp.0 ≡ false
SetsNoId f _ = Unit {0}

-- a phase in which a close waits
abbrev pub is_closing : Phase → Bool
is_closing (phase.Wanted s) = ends_setup s
is_closing (phase.Stamped s stamp) = ends_setup s
is_closing (phase.Requested s stamp) = ends_setup s
is_closing (phase.Accepted s stamp) = ends_setup s
is_closing phase.Closing = true
is_closing phase.Finished = true
is_closing phase.Completed = true
is_closing _ = false

-- a phase with packets that may be sent or acked
abbrev pub has_packets : Phase → Bool
has_packets (phase.Wanted s) = not (begins_or_ends s) || ends_setup s
has_packets (phase.Stamped s stamp) = true
has_packets (phase.Requested s stamp) = true
has_packets (phase.Accepted s stamp) = true
has_packets phase.Opened = true
has_packets (phase.Streaming sent) = true
has_packets phase.Closing = true
has_packets _ = false

-- Where a close waits, or the block is closed, no more is taken in but an append; and the last packet was formed only
-- where a close waits.
pub record WriterEnds (x : WriterRecord) : Type 0 where
  pub shut : x.waiting ≡ Some waiting.Close → is_open x.intake.stand ≡ false
  pub closing : is_closing x.phase ≡ true → x.waiting ≡ Some waiting.Close
  pub closed : x.phase ≡ phase.Closed → is_open x.intake.stand ≡ false
  pub last : has_packets x.phase ≡ true → (i : ℕ) (p : Packet) → slice_get x.stream.unacked i ≡ Some p →
      p.last ≡ true → is_closing x.phase ≡ true

-- In its session, until its last packet is acked, a writer has acked what the session began with; and a create makes
-- the first one of the block.
pub record AcksFrom (f : Ids) (g : Givens) (w : World) (b latest : ℕ) (x : WriterRecord) : Type 0 where
  pub begins : has_packets x.phase ≡ true →
      (g b latest ≡ Some latest) × SessionBegins f g w b latest x.stream.acked
  pub first : (t : Stamp) → x.phase ≡ phase.Stamped setup.Create t → SessionBegins f g w b latest 0

-- PRIMARIES

-- a member that was sent the UPDATE, and didn't fail since
abbrev pub IsUpdating : Standing → Type 0
IsUpdating standing.Updating = Unit {0}
IsUpdating standing.Updated = Unit {0}
IsUpdating _ = ⊥

-- some UPDATE to this length was sent, of the recovery with this id
pub record SentLength (h : Past) (id : Stamp) (n : ℕ) : Type 0 where
  pub conn : ℕ
  pub block : ℕ
  pub sent : Updates h conn block id n

-- behind the choice such a member stands only where an UPDATE to the chosen length was sent
abbrev pub PhaseSent : Past → Stamp → LeadPhase → List Standing → Type 0
PhaseSent h id (lead_phase.Updating n) standings = (p : ℕ) (s : Standing) → slice_get standings p ≡ Some s →
    IsUpdating s → SentLength h id n
PhaseSent h id _ standings = Unit {0}

abbrev pub LeadSent : Past → Primary → Type 0
LeadSent h (leads l) = PhaseSent h l.state.begun.id l.state.phase l.state.standings
LeadSent h _ = Unit {0}

-- STAMPS

-- where a session has begun, the stamps of setups of earlier sessions are earlier
abbrev pub Earlier : Ids → Givens → Type 0
Earlier f g = (b t d e : ℕ) → g b t ≡ Some d → g b e ≡ Some e → f t ≡ false → d < e → t < e

-- THE WORLD

pub record Finals (f : Ids) (g : Givens) (w : World) : Type 0 where
  pub below : (stamp : ℕ) → f stamp ≡ true → stamp < w.office.next.0
  pub downs : (c i : ℕ) (m : Message) → slice_get (w.downs c) i ≡ Some m → DownEnds f g w c m
  pub replicas : (n b : ℕ) → ReplicaEnds f g w b (w.replicas n b)
  pub breaks : (n b : ℕ) → IfSome (w.breaks n b) (BreakEnds f g w b)
  pub writers : (b : ℕ) → WriterEnds (heard (w.writers b))
  pub stamps : (b : ℕ) → SetsNoId f (heard (w.writers b)).phase
  pub primaries : (i : ℕ) (id : Stamp) → HasId (w.primaries i) id → f id.0 ≡ true
  pub earlier : Earlier f g
  pub sends : (i : ℕ) → LeadSent w.past (w.primaries i)
  pub entries : (b : ℕ) → IfSome (record_of w.office (record { 0 = b })) (EntryEnds f g w b)
  pub sessions : (b e : ℕ) → g b e ≡ Some e → SessionBegins f g w b e (length (w.written e))
  pub acks : (b : ℕ) → AcksFrom f g w b (w.latest b) (heard (w.writers b))

-- So it is after every list of events, of the stamps and ids that are given in them.
abbrev pub AllFinal : Type 0
AllFinal = (nodes : ℕ) (events : List Event) →
    Finals (ids_in no_ids (start nodes) events) (given_in none_given (start nodes) events) (run (start nodes) events)

-- No stamp that was given for a closed block is above its committed one.
abbrev pub ClosedIsNewest : Type 0
ClosedIsNewest = (nodes : ℕ) (events : List Event) (block stamp session : ℕ) (r : BlockRecord) →
    record_of (run (start nodes) events).office (record { 0 = block }) ≡ Some r → r.is_open ≡ false →
    given_in none_given (start nodes) events block stamp ≡ Some session → stamp ≤ r.committed.0
