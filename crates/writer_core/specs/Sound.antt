-- What is true of every writer that calls make.
use Rattle.std.specs.Prelude.{ℕ, ◌≤◌, ◌+◌, length, Option, Some}
use Rattle.name_core.specs.declared.records.TheConstants.{MAX_APPEND_LENGTH}
use Rattle.packet_stream.specs.Streams.{IsStream, written_in}
use Rattle.writer_core.specs.declared.intake.TheConstants.{MAX_GIVEN, MAX_COMMANDS}
use Rattle.writer_core.specs.declared.phases.SyncPacket.TheVariants as sync
use Rattle.writer_core.specs.declared.phases.Waiting.{Waiting}
use Rattle.writer_core.specs.declared.phases.Waiting.TheVariants as waiting
use Rattle.writer_core.specs.declared.records.WriterRecord.{WriterRecord}
use Rattle.writer_core.specs.Commands.{queued_bytes}

-- how many packets without bytes the command that waits has yet to form, but for the last one
abbrev pub syncs_due : Option Waiting → ℕ
syncs_due (Some (waiting.Sync n sync.Due)) = 1
syncs_due _ = 0

-- The commands and bytes given are within their limits; the block stays within its own; and there are no more packets than bytes and
-- commands.
pub record Sound (w : WriterRecord) : Type 0 where
  pub stream : IsStream w.stream
  pub commands : w.taken + length w.queue ≤ w.intake.commands
  pub few : w.intake.commands ≤ MAX_COMMANDS
  pub queued : queued_bytes w.queue ≤ w.intake.bytes
  pub bytes : w.intake.bytes ≤ MAX_GIVEN
  pub written : written_in w.stream + queued_bytes w.queue ≤ MAX_APPEND_LENGTH + w.intake.bytes
  pub counted : syncs_due w.waiting ≤ w.taken
  pub numbers : w.stream.seqno + syncs_due w.waiting + w.stream.base ≤ w.stream.sent + w.taken
