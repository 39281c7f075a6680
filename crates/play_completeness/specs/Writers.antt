-- The writer of each block in a play without failures, with what the office has of the block, and what stands at its
-- members.
--
-- What keeps it, by the step that the writer takes:
-- * It takes a create: nothing is known of the block, so the office grants it, and the first member is dialled; all
--   nodes run. It takes an append: the office has closed the block, grants it with the length that it has, which is
--   that of each member's replica, and the request asks for just that.
-- * The request was answered SUCCESS: a create is answered; of an append the new stamp is committed first, which is
--   above the committed one, and no recovery holds the lease.
-- * It streams: it forms what is due, answers what is reached, and takes what fits.
-- * With the ack of the last packet all members are FINALIZED with all bytes, under its stamp, and the office grants
--   the completion; from then until the next append no connection of the block is live, so they stay as they are.
--
-- It never fails, since each answer and each ack that it takes is good, and takes no end (`Links`); and a setup that
-- recovers something follows only a failure.
use Rattle.std.specs.Prelude.{ℕ, suc, ◌≡◌, ◌≤◌, ◌⊎◌, true, false, [], length, slice_get, Option, Some, None}
use Rattle.hd_base.specs.declared.numbers.NodeId.{NodeId}
use Rattle.name_core.specs.declared.records.BlockRecord.{BlockRecord}
use Rattle.name_core.specs.Offices.{record_of}
use Rattle.packet_codec.specs.declared.packets.Packet.{Packet}
use Rattle.packet_stream.specs.Streams.{StreamState, written_in, packet_end}
use Rattle.writer_core.specs.declared.intake.Stand.{Stand}
use Rattle.writer_core.specs.declared.intake.Stand.TheVariants as stand
use Rattle.writer_core.specs.Commands.{is_open}
use Rattle.writer_core.specs.declared.phases.Phase.{Phase}
use Rattle.writer_core.specs.declared.phases.Phase.TheVariants as phase
use Rattle.writer_core.specs.declared.phases.Setup.{Setup}
use Rattle.writer_core.specs.declared.phases.Setup.TheVariants as setup
use Rattle.writer_core.specs.declared.phases.Waiting.{Waiting}
use Rattle.writer_core.specs.declared.phases.Waiting.TheVariants as waiting
use Rattle.writer_core.specs.declared.records.WriterRecord.{WriterRecord}
use Rattle.world.specs.Worlds.{World}
use Rattle.world.specs.Safe.{Has}
use Rattle.play_completeness.specs.Links.{IsFinalWith}

-- THE OFFICE AND THE MEMBERS

-- the office knows nothing of the block, and no node has a replica of it
pub record IsUnknown (w : World) (b : ℕ) : Type 0 where
  pub entry : record_of w.office (record { 0 = b }) ≡ None
  pub none : (n : ℕ) → (w.replicas n b).known.info ≡ None

-- the office has the block open
pub record IsOpened (w : World) (b : ℕ) : Type 0 where
  pub entry : BlockRecord
  pub is : record_of w.office (record { 0 = b }) ≡ Some entry
  pub open_is : entry.is_open ≡ true

-- the office has the block closed, with so many bytes
pub record IsShut (w : World) (b bytes : ℕ) : Type 0 where
  pub entry : BlockRecord
  pub is : record_of w.office (record { 0 = b }) ≡ Some entry
  pub shut : entry.is_open ≡ false
  pub length_is : entry.length ≡ bytes

-- Each member of the writer has a FINALIZED replica with all bytes, under the stamp that the writer knows as committed.
pub record AreWhole (w : World) (b : ℕ) (x : WriterRecord) : Type 0 where
  pub each : (m : NodeId) → Has x.members m →
      IsFinalWith x.committed (written_in x.stream) x.stream.rule (w.replicas m.0 b)

-- closed: the office has the block closed with all that was written in its latest session, and its members are whole
pub record IsClosed (w : World) (b : ℕ) (x : WriterRecord) : Type 0 where
  pub office : IsShut w b (written_in x.stream)
  pub all : length (w.written (w.latest b)) ≡ written_in x.stream
  pub members : AreWhole w b x

-- STREAMS

-- What was formed and isn't acked ends where the packets end that were sent; where nothing is left, all that was sent
-- is acked.
pub record StreamWell (s : StreamState) : Type 0 where
  pub all : s.unacked ≡ [] → s.acked ≡ s.sent
  pub ends : (i : ℕ) (p : Packet) → slice_get s.unacked i ≡ Some p → suc i ≡ length s.unacked →
      packet_end p ≡ s.sent
  pub within : s.acked ≤ s.sent

-- what waits while packets are streamed: no create and no append, and nothing past what was written
abbrev pub StreamWaits : Option Waiting → ℕ → Type 0
StreamWaits None written = Unit {0}
StreamWaits (Some waiting.Opening) written = ⊥
StreamWaits (Some (waiting.Flush n)) written = n ≤ written
StreamWaits (Some (waiting.Sync n p)) written = n ≤ written
StreamWaits (Some waiting.Close) written = Unit {0}

-- PHASES

-- a pipeline is set up for a create or an append, which waits
pub record OpensWell (w : World) (b : ℕ) (x : WriterRecord) (s : Setup) : Type 0 where
  pub office : IsOpened w b
  pub opens : (s ≡ setup.Create) ⊎ (s ≡ setup.Append)
  pub waits : x.waiting ≡ Some waiting.Opening
  pub stand : is_open x.intake.stand ≡ true
  pub none : x.stream.unacked ≡ []

pub record StreamsWell (w : World) (b : ℕ) (x : WriterRecord) (sent : ℕ) : Type 0 where
  pub office : IsOpened w b
  pub sent_all : sent ≡ length x.stream.unacked
  pub waits : StreamWaits x.waiting (written_in x.stream)
  pub stand : (x.waiting ≡ Some waiting.Close → ⊥) → is_open x.intake.stand ≡ true

-- a close waits for the acks of the packets, the last one among them
pub record ClosesWell (w : World) (b : ℕ) (x : WriterRecord) : Type 0 where
  pub office : IsOpened w b
  pub waits : x.waiting ≡ Some waiting.Close
  pub some : x.stream.unacked ≡ [] → ⊥

-- all is acked, and the office is to be told
pub record FinishesWell (w : World) (b : ℕ) (x : WriterRecord) : Type 0 where
  pub office : IsOpened w b
  pub waits : x.waiting ≡ Some waiting.Close
  pub members : AreWhole w b x

abbrev pub RestsWell : World → ℕ → WriterRecord → Stand → Type 0
RestsWell w b x stand.Unmade = IsUnknown w b
RestsWell w b x stand.Open = ⊥
RestsWell w b x stand.Closed = IsClosed w b x

abbrev pub WantsWell : World → ℕ → WriterRecord → Setup → Type 0
WantsWell w b x setup.Create = IsUnknown w b
WantsWell w b x setup.Append = IsClosed w b x
WantsWell w b x other = ⊥

abbrev pub WellIn : World → ℕ → WriterRecord → Phase → Type 0
WellIn w b x phase.Closed = (x.waiting ≡ None) × RestsWell w b x x.intake.stand
WellIn w b x (phase.Wanted s) =
    (x.waiting ≡ Some waiting.Opening) × (is_open x.intake.stand ≡ true) × WantsWell w b x s
WellIn w b x (phase.Requested s stamp) = OpensWell w b x s
WellIn w b x (phase.Accepted s stamp) = OpensWell w b x s
WellIn w b x (phase.Streaming sent) = StreamsWell w b x sent
WellIn w b x phase.Closing = ClosesWell w b x
WellIn w b x phase.Finished = FinishesWell w b x
WellIn w b x other = ⊥

-- between the things that are due, where no answer of the office waits
pub record WriterWell (w : World) (b : ℕ) (x : WriterRecord) : Type 0 where
  pub stream : StreamWell x.stream
  pub phase_is : WellIn w b x x.phase

abbrev pub Writers : World → Type 0
Writers w = (b : ℕ) → WriterWell w b (w.writers b).known
