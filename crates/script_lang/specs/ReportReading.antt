-- What the words of a report line say.
use Rattle.std.specs.Prelude.{◌≡◌, ℕ, ◌<◌, ◌≤◌, ◌^◌, ◌&&◌, nat_lt, nat_le, if◌then◌else◌, List, [], ◌∷◌, length, map, find, bytes_eq, Option, Some, None, Result, Ok, Err, codes, IfSome}
use Rattle.std.specs.Borrow.{Bor}
use Rattle.std.specs.List.{AllByRecursion}
use Rattle.std.specs.Int.{w32, from_be_bytes}
use Rattle.hex.specs.Hex.{encode_lower, decode_sized}
use Rattle.hex.specs.declared.error.FromHexError.{FromHexError}
use Rattle.hd_base.specs.Options.{◌>>=◌}
use Rattle.hd_base.specs.Blocks.{number_at}
use Rattle.hd_base.specs.Lists.{AllDistinct}
use Rattle.hd_base.specs.Wire.{state_name}
use Rattle.hd_base.specs.declared.numbers.NodeId.{NodeId}
use Rattle.script_lang.specs.declared.report.ReportLine.{ReportLine}
use Rattle.script_lang.specs.declared.report.ReportLine.TheVariants as line
use Rattle.script_lang.specs.declared.report.Answer.{Answer}
use Rattle.script_lang.specs.declared.report.Answer.TheVariants as answer
use Rattle.script_lang.specs.declared.report.SetupResult.{SetupResult}
use Rattle.script_lang.specs.declared.report.SetupResult.TheVariants as setup
use Rattle.script_lang.specs.declared.report.FlushResult.{FlushResult}
use Rattle.script_lang.specs.declared.report.FlushResult.TheVariants as flush
use Rattle.script_lang.specs.declared.report.Failure.{Failure}
use Rattle.script_lang.specs.declared.report.Failure.TheVariants as failure
use Rattle.script_lang.specs.declared.report.OfficeRefusal.{OfficeRefusal}
use Rattle.script_lang.specs.declared.report.OfficeRefusal.TheVariants as refusal
use Rattle.script_lang.specs.declared.report.ReadResult.{ReadResult}
use Rattle.script_lang.specs.declared.report.ReadResult.TheVariants as read
use Rattle.script_lang.specs.declared.report.RecoveryResult.{RecoveryResult}
use Rattle.script_lang.specs.declared.report.RecoveryResult.TheVariants as recovery
use Rattle.script_lang.specs.declared.report_words.LineWord.{LineWord}
use Rattle.script_lang.specs.declared.report_words.LineWord.TheVariants as begins
use Rattle.script_lang.specs.declared.report_words.CommandWord.{CommandWord}
use Rattle.script_lang.specs.declared.report_words.CommandWord.TheVariants as command
use Rattle.script_lang.specs.declared.report_words.ResultWord.{ResultWord}
use Rattle.script_lang.specs.declared.report_words.ResultWord.TheVariants as word
use Rattle.script_lang.specs.declared.faults.LineFault.{LineFault}
use Rattle.script_lang.specs.declared.faults.LineFault.TheVariants as fault
use Rattle.script_lang.specs.Words.{parts_of, is_nothing}
use Rattle.script_lang.specs.Numbers.{node, are_distinct}
use Rattle.script_lang.specs.Names.{states}
use Rattle.script_lang.specs.Reports.{words_text, refusal_name}

-- ---- words that stand for one thing each

unfoldable pub line_name : LineWord → List ℕ
line_name begins.Replica = codes "replica"
line_name begins.Down = codes "down"
line_name begins.Answer = codes "answer"
line_name begins.Read = codes "read"
line_name begins.Recovery = codes "recovery"
line_name begins.End = codes "end"

abbrev pub line_names : List LineWord
line_names = begins.Replica ∷ begins.Down ∷ begins.Answer ∷ begins.Read ∷ begins.Recovery ∷ begins.End ∷ []

unfoldable pub command_name : CommandWord → List ℕ
command_name command.Create = codes "create"
command_name command.Append = codes "append"
command_name command.Hflush = codes "hflush"
command_name command.Hsync = codes "hsync"
command_name command.Close = codes "close"

abbrev pub commands : List CommandWord
commands = command.Create ∷ command.Append ∷ command.Hflush ∷ command.Hsync ∷ command.Close ∷ []

unfoldable pub result_name : ResultWord → List ℕ
result_name word.Ok = codes "ok"
result_name word.Abandoned = codes "abandoned"
result_name word.AllBad = codes "allbad"
result_name word.Lost = codes "lost"
result_name word.Refused = codes "refused"
result_name word.Waiting = codes "waiting"
result_name word.BadSum = codes "badsum"
result_name word.Malformed = codes "malformed"
result_name word.Ended = codes "ended"
result_name word.Nothing = codes "nothing"
result_name word.Unequal = codes "unequal"
result_name word.NoneUpdated = codes "noneupdated"

abbrev pub results : List ResultWord
results =
    word.Ok ∷ word.Abandoned ∷ word.AllBad ∷ word.Lost ∷ word.Refused ∷ word.Waiting ∷ word.BadSum ∷ word.Malformed ∷
    word.Ended ∷ word.Nothing ∷ word.Unequal
    ∷ word.NoneUpdated ∷ []

abbrev pub refusals : List OfficeRefusal
refusals =
    refusal.Known ∷ refusal.Unknown ∷ refusal.NotOpen ∷ refusal.NotClosed ∷ refusal.LeaseLost ∷ refusal.OldStamp ∷
    refusal.OldRecovery ∷ refusal.TooLong
    ∷ refusal.Memory ∷ []

-- what a word names among these
abbrev pub found : {A : Type 0} → (A → List ℕ) → List A → List ℕ → Option A
found name all text = find (λ x. bytes_eq (name x) text) all

-- ---- one word

-- the whole of a text
abbrev pub whole : Option (ℕ × List ℕ) → Option ℕ
whole None = None
whole (Some (n, [])) = Some n
whole (Some (n, c ∷ cs)) = None

-- a number of 64 bits in least decimal
unfoldable pub number_of : List ℕ → Option ℕ
number_of text = whole (number_at text)

-- a node's number has 32 bits
unfoldable pub node_of : List ℕ → Option NodeId
node_of text = do
  n ← number_of text
  if nat_lt n (2 ^ 32) then Some (node n) else None

-- a sum in eight lower-case hexadecimal digits
abbrev pub lower : List ℕ → Result (List ℕ) FromHexError → Option ℕ
lower text (Ok bytes) = if bytes_eq (encode_lower bytes) text then Some (from_be_bytes w32 bytes) else None
lower text (Err e) = None

unfoldable pub sum_of : List ℕ → Option ℕ
sum_of text = lower text (decode_sized text 4)

-- the nodes of these words
abbrev pub nodes_of : List (List ℕ) → Option (List NodeId)
nodes_of [] = Some []
nodes_of (text ∷ texts) = node_of text >>= (λ first. nodes_of texts >>= (λ others. Some (first ∷ others)))

-- members: at most 16 distinct nodes, with commas between them, or none
abbrev pub numbers_in : List NodeId → List ℕ
numbers_in nodes = map (λ n. n.0) nodes

abbrev pub few_distinct : List NodeId → Option (List NodeId)
few_distinct nodes = if nat_le (length nodes) 16 && are_distinct (numbers_in nodes) then Some nodes else None

unfoldable pub items_named : List ℕ → Option (List NodeId)
items_named text = nodes_of (parts_of 44 text) >>= few_distinct

unfoldable pub members_of : List ℕ → Option (List NodeId)
members_of text = if is_nothing text then Some [] else items_named text

-- ---- one word after the other

-- the words that are left
abbrev pub left_of : Option (Bor (List ℕ)) → List (List ℕ)
left_of None = []
left_of (Some text) = parts_of 32 text.now

-- what the next word says, and the words behind it
unfoldable pub next : {A : Type 0} → (List ℕ → Option A) → List (List ℕ) → Option (A × List (List ℕ))
next says [] = None
next says (text ∷ texts) = says text >>= (λ x. Some (x, texts))

-- no word is left
unfoldable pub no_more : {A : Type 0} → A → List (List ℕ) → Option A
no_more x [] = Some x
no_more x (text ∷ texts) = None

-- ---- the words behind the first

unfoldable pub failure_said : ResultWord → List (List ℕ) → Option Failure
failure_said word.Abandoned words = next node_of words >>= (λ n. no_more (failure.Abandoned n.0) n.1)
failure_said word.AllBad words = next node_of words >>= (λ n. no_more (failure.AllBad n.0) n.1)
failure_said word.Lost words = next number_of words >>= (λ n. no_more (failure.Lost (record { 0 = n.0 })) n.1)
failure_said word.Refused words = next (found refusal_name refusals) words >>= (λ n. no_more (failure.Refused n.0) n.1)
failure_said word.Waiting words = no_more failure.Waiting words
failure_said _ words = None

abbrev pub setup_by : ResultWord → List (List ℕ) → Option SetupResult
setup_by word.Ok words = next number_of words >>= (λ n. no_more (setup.Ok (record { 0 = n.0 })) n.1)
setup_by other words = failure_said other words >>= (λ why. Some (setup.Failed why))

unfoldable pub setup_said : List (List ℕ) → Option SetupResult
setup_said words = next (found result_name results) words >>= (λ w. setup_by w.0 w.1)

unfoldable pub flushed_said : List (List ℕ) → Option FlushResult
flushed_said words = do
  length ← next number_of words
  stamp ← next number_of length.1
  members ← next members_of stamp.1
  no_more (flush.Ok length.0 (record { 0 = stamp.0 }) members.0) members.1

abbrev pub flush_by : ResultWord → List (List ℕ) → Option FlushResult
flush_by word.Ok words = flushed_said words
flush_by other words = failure_said other words >>= (λ why. Some (flush.Failed why))

unfoldable pub flush_said : List (List ℕ) → Option FlushResult
flush_said words = next (found result_name results) words >>= (λ w. flush_by w.0 w.1)

abbrev pub answer_by : CommandWord → List (List ℕ) → Option Answer
answer_by command.Create words = setup_said words >>= (λ r. Some (answer.Create r))
answer_by command.Append words = setup_said words >>= (λ r. Some (answer.Append r))
answer_by command.Hflush words = flush_said words >>= (λ r. Some (answer.Hflush r))
answer_by command.Hsync words = flush_said words >>= (λ r. Some (answer.Hsync r))
answer_by command.Close words = flush_said words >>= (λ r. Some (answer.Close r))

-- a text, which may have spaces
unfoldable pub text_said : List (List ℕ) → Option (List ℕ)
text_said [] = None
text_said (text ∷ texts) = Some (words_text (text ∷ texts))

unfoldable pub whole_said : List (List ℕ) → Option ReadResult
whole_said words = next sum_of words >>= (λ s. no_more (read.Ok s.0) s.1)

unfoldable pub bad_sum_said : List (List ℕ) → Option ReadResult
bad_sum_said words = next number_of words >>= (λ n. no_more (read.BadSum n.0) n.1)

unfoldable pub read_by : ResultWord → List (List ℕ) → Option ReadResult
read_by word.Ok words = whole_said words
read_by word.Refused words = text_said words >>= (λ text. Some (read.Refused text))
read_by word.BadSum words = bad_sum_said words
read_by word.Malformed words = no_more read.Malformed words
read_by word.Ended words = no_more read.Ended words
read_by _ words = None

unfoldable pub recovered_said : List (List ℕ) → Option RecoveryResult
recovered_said words = do
  id ← next number_of words
  length ← next number_of id.1
  members ← next members_of length.1
  no_more (recovery.Ok (record { 0 = id.0 }) length.0 members.0) members.1

unfoldable pub unequal_said : List (List ℕ) → Option RecoveryResult
unequal_said words = do
  first ← next number_of words
  second ← next number_of first.1
  no_more (recovery.Unequal first.0 second.0) second.1

unfoldable pub recovery_by : ResultWord → List (List ℕ) → Option RecoveryResult
recovery_by word.Ok words = recovered_said words
recovery_by word.Nothing words = no_more recovery.Nothing words
recovery_by word.Unequal words = unequal_said words
recovery_by word.NoneUpdated words = no_more recovery.NoneUpdated words
recovery_by word.Refused words = next (found refusal_name refusals) words >>= (λ n. no_more (recovery.Refused n.0) n.1)
recovery_by word.Ended words = no_more recovery.Ended words
recovery_by _ words = None

-- a sum and its mark: `SUM ok`, or `- broken`
abbrev pub mark : List ℕ → List ℕ → Option (Option ℕ)
mark sum name =
    if bytes_eq name (codes "ok") then (sum_of sum >>= (λ s. Some (Some s)))
    else if bytes_eq name (codes "broken") && bytes_eq sum (codes "-") then Some None
    else None

unfoldable pub sum_said : List (List ℕ) → Option (Option ℕ)
sum_said (sum ∷ name ∷ []) = mark sum name
sum_said _ = None

-- ---- whole lines

unfoldable pub replica_said : List (List ℕ) → Option ReportLine
replica_said words = do
  node ← next node_of words
  block ← next number_of node.1
  state ← next (found state_name states) block.1
  stamp ← next number_of state.1
  written ← next number_of stamp.1
  acked ← next number_of written.1
  sum ← sum_said acked.1
  Some (line.Replica node.0 (record { 0 = block.0 }) state.0 (record { 0 = stamp.0 }) written.0 acked.0 sum)

unfoldable pub down_said : List (List ℕ) → Option ReportLine
down_said words = next node_of words >>= (λ n. no_more (line.Down n.0) n.1)

unfoldable pub answer_said : List (List ℕ) → Option ReportLine
answer_said words = do
  block ← next number_of words
  ordinal ← next number_of block.1
  name ← next (found command_name commands) ordinal.1
  result ← answer_by name.0 name.1
  Some (line.Answer (record { 0 = block.0 }) ordinal.0 result)

-- a number, the first word of a result, and those behind it
unfoldable pub numbered_said : List (List ℕ) → Option (ℕ × ResultWord × List (List ℕ))
numbered_said words = do
  number ← next number_of words
  name ← next (found result_name results) number.1
  Some (number.0, name.0, name.1)

unfoldable pub read_said : List (List ℕ) → Option ReportLine
read_said words = do
  n ← numbered_said words
  result ← read_by n.1 n.2
  Some (line.Read n.0 result)

unfoldable pub recovery_said : List (List ℕ) → Option ReportLine
recovery_said words = do
  n ← numbered_said words
  result ← recovery_by n.1 n.2
  Some (line.Recovery n.0 result)

abbrev pub line_by : LineWord → List (List ℕ) → Option ReportLine
line_by begins.Replica words = replica_said words
line_by begins.Down words = down_said words
line_by begins.Answer words = answer_said words
line_by begins.Read words = read_said words
line_by begins.Recovery words = recovery_said words
line_by begins.End words = no_more line.End words

-- the words of a line
unfoldable pub line_said : List (List ℕ) → Option ReportLine
line_said words = next (found line_name line_names) words >>= (λ w. line_by w.0 w.1)

-- The result is what was said, or memory ran out.
abbrev pub Says : {A : Type 0} → Result A LineFault → Option A → Type 0
Says (Ok x) said = said ≡ Some x
Says (Err fault.Line) said = said ≡ None
Says (Err fault.Memory) said = Unit {0}

-- ---- what a line of the program's types may hold

-- at most 16 distinct nodes
pub record IsMembers (nodes : List NodeId) : Type 0 where
  pub few : length nodes ≤ 16
  pub distinct : AllDistinct nodes
  pub each : AllByRecursion (λ n. n.0 < 2 ^ 32) nodes

abbrev pub HoldsFailure : Failure → Type 0
HoldsFailure (failure.Abandoned n) = n.0 < 2 ^ 32
HoldsFailure (failure.AllBad n) = n.0 < 2 ^ 32
HoldsFailure (failure.Lost stamp) = stamp.0 < 2 ^ 64
HoldsFailure _ = Unit {0}

abbrev pub HoldsSetup : SetupResult → Type 0
HoldsSetup (setup.Ok stamp) = stamp.0 < 2 ^ 64
HoldsSetup (setup.Failed why) = HoldsFailure why

abbrev pub HoldsFlush : FlushResult → Type 0
HoldsFlush (flush.Ok length stamp members) = (length < 2 ^ 64) × (stamp.0 < 2 ^ 64) × IsMembers members
HoldsFlush (flush.Failed why) = HoldsFailure why

abbrev pub HoldsAnswer : Answer → Type 0
HoldsAnswer (answer.Create result) = HoldsSetup result
HoldsAnswer (answer.Append result) = HoldsSetup result
HoldsAnswer (answer.Hflush result) = HoldsFlush result
HoldsAnswer (answer.Hsync result) = HoldsFlush result
HoldsAnswer (answer.Close result) = HoldsFlush result

abbrev pub HoldsRead : ReadResult → Type 0
HoldsRead (read.Ok sum) = sum < 2 ^ 32
HoldsRead (read.BadSum chunk) = chunk < 2 ^ 64
HoldsRead _ = Unit {0}

abbrev pub HoldsRecovery : RecoveryResult → Type 0
HoldsRecovery (recovery.Ok id length members) = (id.0 < 2 ^ 64) × (length < 2 ^ 64) × IsMembers members
HoldsRecovery (recovery.Unequal first second) = (first < 2 ^ 64) × (second < 2 ^ 64)
HoldsRecovery _ = Unit {0}

-- The numbers of a line have the bits of their types, and its members are some.
abbrev pub Holds : ReportLine → Type 0
Holds (line.Replica n block state stamp written acked sum) =
    (n.0 < 2 ^ 32) × (block.0 < 2 ^ 64) × (stamp.0 < 2 ^ 64) × (written < 2 ^ 64) × (acked < 2 ^ 64) ×
    IfSome sum (λ s. s < 2 ^ 32)
Holds (line.Down n) = n.0 < 2 ^ 32
Holds (line.Answer block ordinal result) = (block.0 < 2 ^ 64) × (ordinal < 2 ^ 64) × HoldsAnswer result
Holds (line.Read number result) = (number < 2 ^ 64) × HoldsRead result
Holds (line.Recovery number result) = (number < 2 ^ 64) × HoldsRecovery result
Holds line.End = Unit {0}
