-- What was read, in a report.
use Rattle.std.specs.Prelude.{ℕ, List, Result, Ok, Err}
use Rattle.chunk_sums.specs.Crc.{sum_of}
use Rattle.hd_base.specs.declared.sum_rule.SumKind.TheVariants as kind
use Rattle.play_primaries.specs.PlayReaders.ReadClient.{ReadClient}
use Rattle.play_primaries.specs.PlayReaders.ReadState.{ReadState}
use Rattle.play_primaries.specs.PlayReaders.ReadState.TheVariants as state
use Rattle.read_core.specs.declared.reading.ReadFault.{ReadFault}
use Rattle.read_core.specs.declared.reading.ReadFault.TheVariants as fault
use Rattle.play_primaries.specs.ReaderEvents.Hearing.{bytes_read}
use Rattle.script_lang.specs.declared.report.ReadResult.{ReadResult}
use Rattle.script_lang.specs.declared.report.ReadResult.TheVariants as result
use Rattle.script_lang.specs.declared.report.ReportLine.{ReportLine}
use Rattle.script_lang.specs.declared.report.ReportLine.TheVariants as line
use Rattle.world.specs.Parts.{Reader, has_read}
use Rattle.world.specs.Worlds.{World}

-- RESULTS

-- Why a read failed: the node refused with this message, the sum of a chunk differs, or the end came first; else what
-- came can't be read.
abbrev pub fault_told : ReadFault → ReadResult
fault_told (fault.Refused message) = result.Refused message
fault_told (fault.BadSum chunk) = result.BadSum chunk
fault_told fault.Ended = result.Ended
fault_told other = result.Malformed

-- the CRC32C of the bytes that were read, or why the read failed
abbrev pub result_told : Result (List ℕ) ReadFault → ReadResult
result_told (Ok bytes) = result.Ok (sum_of kind.Crc32c bytes)
result_told (Err why) = fault_told why

-- What a reader came to. One that has no result counts as ended.
abbrev pub read_told : Reader → ReadResult
read_told (has_read read) = result_told read
read_told other = result.Ended

-- LINES

-- the line of the reader of this number
abbrev pub read_line : World → ℕ → ReportLine
read_line w n = line.Read n (read_told (w.readers n))

-- WHAT CLIENTS KEEP

-- what a client came to
abbrev pub state_told : {I O : Type 0} → ReadState I O → ReadResult
state_told (state.HasRead read) = result_told (bytes_read read)
state_told other = result.Ended

-- its line
abbrev pub client_read : {I O : Type 0} → ReadClient I O → ReportLine
client_read c = line.Read c.ask.reader (state_told c.state)
