-- Lines of reports: what they print to, cut at its spaces, is their words again.
use Rattle.std.proofs.Common.{◌≡◌, ◌==◌, ℕ, zero, suc, ◌/◌, ◌%◌, ◌^◌, ◌<◌, Bool, true, false, List, [], ◌∷◌, codes, get_or, not, decimal, Option, Some, None, inl, inr, refl, arith}
use Rattle.std.specs.List.{list_all}
use Rattle.std.proofs.lemmas.Bool.{and_parts}
use Rattle.std.proofs.lemmas.Bool.Decides.{eqb_tells}
use Rattle.hd_base.specs.Wire.{state_name}
use Rattle.hd_base.specs.declared.numbers.NodeId.{NodeId}
use Rattle.hd_base.specs.declared.states.ReplicaState.{ReplicaState}
use Rattle.hd_base.specs.declared.states.ReplicaState.TheVariants as state
use Rattle.script_lang.specs.declared.report.ReportLine.{ReportLine}
use Rattle.script_lang.specs.declared.report.ReportLine.TheVariants as line
use Rattle.script_lang.specs.declared.report.Answer.{Answer}
use Rattle.script_lang.specs.declared.report.Answer.TheVariants as answer
use Rattle.script_lang.specs.declared.report.SetupResult.{SetupResult}
use Rattle.script_lang.specs.declared.report.SetupResult.TheVariants as setup
use Rattle.script_lang.specs.declared.report.FlushResult.{FlushResult}
use Rattle.script_lang.specs.declared.report.FlushResult.TheVariants as flush
use Rattle.script_lang.specs.declared.report.Failure.{Failure}
use Rattle.script_lang.specs.declared.report.Failure.TheVariants as failure
use Rattle.script_lang.specs.declared.report.OfficeRefusal.{OfficeRefusal}
use Rattle.script_lang.specs.declared.report.OfficeRefusal.TheVariants as refusal
use Rattle.script_lang.specs.declared.report.ReadResult.{ReadResult}
use Rattle.script_lang.specs.declared.report.ReadResult.TheVariants as read
use Rattle.script_lang.specs.declared.report.RecoveryResult.{RecoveryResult}
use Rattle.script_lang.specs.declared.report.RecoveryResult.TheVariants as recovery
use Rattle.script_lang.specs.Words.{parts_of, into_first}
use Rattle.script_lang.specs.Reports.{words_text, members_text, sum_text, refusal_name, sum_words, failure_words, setup_words, flush_words, answer_words, read_words, recovery_words, line_words}
use Rattle.std.specs.Int.{w32, to_be_bytes}
use Rattle.hex.specs.Hex.{encode_lower, encode_with, lower_digits}
use Rattle.script_lang.specs.ReportReading.{HoldsFailure, HoldsSetup, HoldsFlush, HoldsAnswer, HoldsRead, HoldsRecovery, Holds}
use Rattle.script_lang.proofs.WordLaws.{is_free_of}
use Rattle.script_lang.proofs.ReportLaws.{parts_of-words}
use Rattle.script_lang.proofs.MemberTextLaws.{decimal_free, members_free}

-- no space stands in any of these words
abbrev are_free : List (List ℕ) → Bool
are_free words = list_all (is_free_of 32) words

one_free : (word : List ℕ) (words : List (List ℕ)) → is_free_of 32 word ≡ true → are_free words ≡ true → are_free (word ∷ words) ≡ true
one_free word words e f = rw e f

number_free : (n : ℕ) (words : List (List ℕ)) → n < 2 ^ 64 → are_free words ≡ true → are_free (decimal n ∷ words) ≡ true
number_free n words fits all = one_free (decimal n) words (decimal_free 32 n refl fits) all

node_free : (n : NodeId) (words : List (List ℕ)) → n.0 < 2 ^ 32 → are_free words ≡ true → are_free (decimal n.0 ∷ words) ≡ true
node_free n words fits all = let wide : n.0 < 2 ^ 64 = omega arith in number_free n.0 words wide all

-- ---- sums

table_free : (xs : List ℕ) (k : ℕ) → list_all (λ c. not (c == 32)) xs ≡ true → not (get_or xs k 0 == 32) ≡ true
table_free [] k all = refl
table_free (x ∷ xs) zero all = (and_parts (not (x == 32)) (list_all (λ c. not (c == 32)) xs) all).0
table_free (x ∷ xs) (suc k) all = table_free xs k (and_parts (not (x == 32)) (list_all (λ c. not (c == 32)) xs) all).1

hex_free : (bytes : List ℕ) → is_free_of 32 (encode_lower bytes) ≡ true
unfolding encode_with
hex_free [] = refl
hex_free (b ∷ bytes) =
    let high : not (get_or lower_digits (b / 16) 0 == 32) ≡ true = table_free lower_digits (b / 16) refl in
    let low : not (get_or lower_digits (b % 16) 0 == 32) ≡ true = table_free lower_digits (b % 16) refl in
    rw high (rw low (hex_free bytes))

sum_free : (s : ℕ) → is_free_of 32 (sum_text s) ≡ true
unfolding sum_text
sum_free s = hex_free (to_be_bytes w32 s)

-- ---- results

refusal_free : (r : OfficeRefusal) → is_free_of 32 (refusal_name r) ≡ true
unfolding refusal_name
refusal_free refusal.Known = refl
refusal_free refusal.Unknown = refl
refusal_free refusal.NotOpen = refl
refusal_free refusal.NotClosed = refl
refusal_free refusal.LeaseLost = refl
refusal_free refusal.OldStamp = refl
refusal_free refusal.OldRecovery = refl
refusal_free refusal.TooLong = refl
refusal_free refusal.Memory = refl

state_free : (s : ReplicaState) → is_free_of 32 (state_name s) ≡ true
state_free state.Finalized = refl
state_free state.Rbw = refl
state_free state.Rwr = refl
state_free state.Rur = refl
state_free state.Temporary = refl

failure_free : (f : Failure) → HoldsFailure f → are_free (failure_words f) ≡ true
failure_free (failure.Abandoned n) h = node_free n [] h refl
failure_free (failure.AllBad n) h = node_free n [] h refl
failure_free (failure.Lost stamp) h = number_free stamp.0 [] h refl
failure_free (failure.Refused name) h = one_free (refusal_name name) [] (refusal_free name) refl
failure_free failure.Waiting h = refl

setup_free : (r : SetupResult) → HoldsSetup r → are_free (setup_words r) ≡ true
setup_free (setup.Ok stamp) h = number_free stamp.0 [] h refl
setup_free (setup.Failed f) h = failure_free f h

flush_free : (r : FlushResult) → HoldsFlush r → are_free (flush_words r) ≡ true
flush_free (flush.Ok length stamp members) h = number_free length (decimal stamp.0 ∷ members_text members ∷ []) h.0 (number_free stamp.0 (members_text members ∷ []) h.1 (one_free (members_text members) [] (members_free members h.2) refl))
flush_free (flush.Failed f) h = failure_free f h

answer_free : (a : Answer) → HoldsAnswer a → are_free (answer_words a) ≡ true
answer_free (answer.Create r) h = setup_free r h
answer_free (answer.Append r) h = setup_free r h
answer_free (answer.Hflush r) h = flush_free r h
answer_free (answer.Hsync r) h = flush_free r h
answer_free (answer.Close r) h = flush_free r h

-- the parts of a text
into_free : (c : ℕ) (parts : List (List ℕ)) → (c == 32) ≡ false → are_free parts ≡ true → are_free (into_first c parts) ≡ true
into_free c [] other all = rw other refl
into_free c (p ∷ parts) other all = rw other all

parts_free : (text : List ℕ) → are_free (parts_of 32 text) ≡ true
parts_free [] = refl
parts_free (c ∷ cs) = step c cs (parts_free cs) where
  step : (c : ℕ) (cs : List ℕ) → are_free (parts_of 32 cs) ≡ true → are_free (parts_of 32 (c ∷ cs)) ≡ true
  step c cs all =
      elim (eqb_tells c 32) [
        | inl same ↦ rw same.0 all
        | inr other ↦ rw other.0 (into_free c (parts_of 32 cs) other.0 all)
      ]

read_free : (r : ReadResult) → HoldsRead r → are_free (read_words r) ≡ true
read_free (read.Ok sum) h = one_free (sum_text sum) [] (sum_free sum) refl
read_free (read.Refused text) h = parts_free text
read_free (read.BadSum chunk) h = number_free chunk [] h refl
read_free read.Malformed h = refl
read_free read.Ended h = refl

recovery_free : (r : RecoveryResult) → HoldsRecovery r → are_free (recovery_words r) ≡ true
recovery_free (recovery.Ok id length members) h = number_free id.0 (decimal length ∷ members_text members ∷ []) h.0 (number_free length (members_text members ∷ []) h.1 (one_free (members_text members) [] (members_free members h.2) refl))
recovery_free recovery.Nothing h = refl
recovery_free (recovery.Unequal first second) h = number_free first (decimal second ∷ []) h.0 (number_free second [] h.1 refl)
recovery_free recovery.NoneUpdated h = refl
recovery_free (recovery.Refused name) h = one_free (refusal_name name) [] (refusal_free name) refl
recovery_free recovery.Ended h = refl

sum_words_free : (o : Option ℕ) → are_free (sum_words o) ≡ true
sum_words_free (Some s) = one_free (sum_text s) (codes "ok" ∷ []) (sum_free s) refl
sum_words_free None = refl

-- ---- whole lines

-- What a line prints to, cut at its spaces, is its words.
pub line_parts : (l : ReportLine) → Holds l → parts_of 32 (words_text (line_words l)) ≡ line_words l
line_parts (line.Replica n block state stamp written acked sum) h =
    let w5 : List (List ℕ) = decimal acked ∷ sum_words sum in
    let w4 : List (List ℕ) = decimal written ∷ w5 in
    let w3 : List (List ℕ) = decimal stamp.0 ∷ w4 in
    let w2 : List (List ℕ) = state_name state ∷ w3 in
    let w1 : List (List ℕ) = decimal block.0 ∷ w2 in
    parts_of-words 32 (codes "replica") (decimal n.0 ∷ w1) refl
    (node_free n w1 h.0 (number_free block.0 w2 h.1 (one_free (state_name state) w3 (state_free state) (number_free stamp.0 w4 h.2 (number_free written w5 h.3 (number_free acked (sum_words sum) h.4 (sum_words_free sum)))))))
line_parts (line.Down n) h = parts_of-words 32 (codes "down") (decimal n.0 ∷ []) refl (node_free n [] h refl)
line_parts (line.Answer block ordinal a) h = parts_of-words 32 (codes "answer") (decimal block.0 ∷ decimal ordinal ∷ answer_words a) refl (number_free block.0 (decimal ordinal ∷ answer_words a) h.0 (number_free ordinal (answer_words a) h.1 (answer_free a h.2)))
line_parts (line.Read n r) h = parts_of-words 32 (codes "read") (decimal n ∷ read_words r) refl (number_free n (read_words r) h.0 (read_free r h.1))
line_parts (line.Recovery n r) h = parts_of-words 32 (codes "recovery") (decimal n ∷ recovery_words r) refl (number_free n (recovery_words r) h.0 (recovery_free r h.1))
line_parts line.End h = parts_of-words 32 (codes "end") [] refl refl
