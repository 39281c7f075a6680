-- Lines of reports.
use Rattle.std.specs.Prelude.{ℕ, List, [], ◌∷◌, ◌++◌, flat_map, Option, Some, None, codes, decimal}
use Rattle.std.specs.Int.{w32, to_be_bytes}
use Rattle.hex.specs.Hex.{encode_lower}
use Rattle.hd_base.specs.Wire.{state_name}
use Rattle.hd_base.specs.declared.numbers.NodeId.{NodeId}
use Rattle.script_lang.specs.declared.report.ReportLine.{ReportLine}
use Rattle.script_lang.specs.declared.report.ReportLine.TheVariants as line
use Rattle.script_lang.specs.declared.report.Answer.{Answer}
use Rattle.script_lang.specs.declared.report.Answer.TheVariants as answer
use Rattle.script_lang.specs.declared.report.SetupResult.{SetupResult}
use Rattle.script_lang.specs.declared.report.SetupResult.TheVariants as setup
use Rattle.script_lang.specs.declared.report.FlushResult.{FlushResult}
use Rattle.script_lang.specs.declared.report.FlushResult.TheVariants as flush
use Rattle.script_lang.specs.declared.report.Failure.{Failure}
use Rattle.script_lang.specs.declared.report.Failure.TheVariants as failure
use Rattle.script_lang.specs.declared.report.OfficeRefusal.{OfficeRefusal}
use Rattle.script_lang.specs.declared.report.OfficeRefusal.TheVariants as refusal
use Rattle.script_lang.specs.declared.report.ReadResult.{ReadResult}
use Rattle.script_lang.specs.declared.report.ReadResult.TheVariants as read
use Rattle.script_lang.specs.declared.report.RecoveryResult.{RecoveryResult}
use Rattle.script_lang.specs.declared.report.RecoveryResult.TheVariants as recovery
use Rattle.script_lang.specs.Words.{parts_of}

-- ---- how a line is put together

-- words, each behind a space
abbrev pub spaced : List (List ℕ) → List ℕ
spaced words = flat_map (λ word. 32 ∷ word) words

-- words with one space between them
abbrev pub words_text : List (List ℕ) → List ℕ
words_text [] = []
words_text (word ∷ words) = word ++ spaced words

-- further numbers, each behind a comma
abbrev pub listed : List NodeId → List ℕ
listed nodes = flat_map (λ node. 44 ∷ decimal node.0) nodes

-- the members of a pipeline, in its order
abbrev pub members_text : List NodeId → List ℕ
members_text [] = []
members_text (node ∷ nodes) = decimal node.0 ++ listed nodes

-- a sum in eight lower-case hexadecimal digits
unfoldable pub sum_text : ℕ → List ℕ
sum_text sum = encode_lower (to_be_bytes w32 sum)

-- ---- the words of each line

-- the office's refusals
unfoldable pub refusal_name : OfficeRefusal → List ℕ
refusal_name refusal.Known = codes "known"
refusal_name refusal.Unknown = codes "unknown"
refusal_name refusal.NotOpen = codes "notopen"
refusal_name refusal.NotClosed = codes "notclosed"
refusal_name refusal.LeaseLost = codes "leaselost"
refusal_name refusal.OldStamp = codes "oldstamp"
refusal_name refusal.OldRecovery = codes "oldrecovery"
refusal_name refusal.TooLong = codes "toolong"
refusal_name refusal.Memory = codes "memory"

-- a broken replica has no sum
abbrev pub sum_words : Option ℕ → List (List ℕ)
sum_words (Some sum) = sum_text sum ∷ codes "ok" ∷ []
sum_words None = codes "-" ∷ codes "broken" ∷ []

-- any command, failed: `abandoned NODE`, `allbad NODE`, `lost ID`, `refused NAME` or `waiting`
abbrev pub failure_words : Failure → List (List ℕ)
failure_words (failure.Abandoned node) = codes "abandoned" ∷ decimal node.0 ∷ []
failure_words (failure.AllBad node) = codes "allbad" ∷ decimal node.0 ∷ []
failure_words (failure.Lost stamp) = codes "lost" ∷ decimal stamp.0 ∷ []
failure_words (failure.Refused name) = codes "refused" ∷ refusal_name name ∷ []
failure_words failure.Waiting = codes "waiting" ∷ []

-- create, append: `ok STAMP`
abbrev pub setup_words : SetupResult → List (List ℕ)
setup_words (setup.Ok stamp) = codes "ok" ∷ decimal stamp.0 ∷ []
setup_words (setup.Failed why) = failure_words why

-- hflush, hsync, close: `ok LENGTH STAMP MEMBERS`
abbrev pub flush_words : FlushResult → List (List ℕ)
flush_words (flush.Ok length stamp members) = codes "ok" ∷ decimal length ∷ decimal stamp.0 ∷ members_text members ∷ []
flush_words (flush.Failed why) = failure_words why

-- `COMMAND RESULT`
abbrev pub answer_words : Answer → List (List ℕ)
answer_words (answer.Create result) = codes "create" ∷ setup_words result
answer_words (answer.Append result) = codes "append" ∷ setup_words result
answer_words (answer.Hflush result) = codes "hflush" ∷ flush_words result
answer_words (answer.Hsync result) = codes "hsync" ∷ flush_words result
answer_words (answer.Close result) = codes "close" ∷ flush_words result

-- read: `ok SUM`, `refused TEXT`, `badsum CHUNK`, `malformed` or `ended`; a text may have spaces
abbrev pub read_words : ReadResult → List (List ℕ)
read_words (read.Ok sum) = codes "ok" ∷ sum_text sum ∷ []
read_words (read.Refused text) = codes "refused" ∷ parts_of 32 text
read_words (read.BadSum chunk) = codes "badsum" ∷ decimal chunk ∷ []
read_words read.Malformed = codes "malformed" ∷ []
read_words read.Ended = codes "ended" ∷ []

-- recovery: `ok ID LENGTH MEMBERS`, `nothing`, `unequal A B`, `noneupdated`, `refused NAME` or `ended`
abbrev pub recovery_words : RecoveryResult → List (List ℕ)
recovery_words (recovery.Ok id length members) = codes "ok" ∷ decimal id.0 ∷ decimal length ∷ members_text members ∷ []
recovery_words recovery.Nothing = codes "nothing" ∷ []
recovery_words (recovery.Unequal first second) = codes "unequal" ∷ decimal first ∷ decimal second ∷ []
recovery_words recovery.NoneUpdated = codes "noneupdated" ∷ []
recovery_words (recovery.Refused name) = codes "refused" ∷ refusal_name name ∷ []
recovery_words recovery.Ended = codes "ended" ∷ []

abbrev pub line_words : ReportLine → List (List ℕ)
line_words (line.Replica node block state stamp written acked sum) =
    codes "replica" ∷ decimal node.0 ∷ decimal block.0 ∷ state_name state ∷ decimal stamp.0 ∷ decimal written ∷
    decimal acked ∷ sum_words sum
line_words (line.Down node) = codes "down" ∷ decimal node.0 ∷ []
line_words (line.Answer block ordinal result) = codes "answer" ∷ decimal block.0 ∷ decimal ordinal ∷ answer_words result
line_words (line.Read number result) = codes "read" ∷ decimal number ∷ read_words result
line_words (line.Recovery number result) = codes "recovery" ∷ decimal number ∷ recovery_words result
line_words line.End = codes "end" ∷ []

-- What a line prints to: its words, and LF.
abbrev pub printed : ReportLine → List ℕ
printed line = words_text (line_words line) ++ 10 ∷ []
