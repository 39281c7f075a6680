-- The words of report lines: a line's words say that line.
use Rattle.std.proofs.Common.{◌≡◌, ℕ, ◌^◌, ◌<◌, List, [], ◌∷◌, codes, decimal, Option, Some, None, IfSome, refl, sym, ◌∙◌, ap}
use Rattle.hd_base.specs.Options.{◌>>=◌}
use Rattle.hd_base.proofs.OptionLaws.{bind-Some}
use Rattle.hd_base.specs.Wire.{state_name}
use Rattle.hd_base.specs.declared.numbers.BlockId.{BlockId}
use Rattle.hd_base.specs.declared.numbers.NodeId.{NodeId}
use Rattle.hd_base.specs.declared.numbers.Stamp.{Stamp}
use Rattle.hd_base.specs.declared.states.ReplicaState.{ReplicaState}
use Rattle.script_lang.specs.declared.report.ReportLine.{ReportLine}
use Rattle.script_lang.specs.declared.report.ReportLine.TheVariants as line
use Rattle.script_lang.specs.declared.report.Answer.{Answer}
use Rattle.script_lang.specs.declared.report.Answer.TheVariants as answer
use Rattle.script_lang.specs.declared.report.SetupResult.{SetupResult}
use Rattle.script_lang.specs.declared.report.SetupResult.TheVariants as setup
use Rattle.script_lang.specs.declared.report.FlushResult.{FlushResult}
use Rattle.script_lang.specs.declared.report.FlushResult.TheVariants as flush
use Rattle.script_lang.specs.declared.report.Failure.{Failure}
use Rattle.script_lang.specs.declared.report.Failure.TheVariants as failure
use Rattle.script_lang.specs.declared.report.ReadResult.{ReadResult}
use Rattle.script_lang.specs.declared.report.ReadResult.TheVariants as read
use Rattle.script_lang.specs.declared.report.RecoveryResult.{RecoveryResult}
use Rattle.script_lang.specs.declared.report.RecoveryResult.TheVariants as recovery
use Rattle.script_lang.specs.declared.report_words.LineWord.{LineWord}
use Rattle.script_lang.specs.declared.report_words.LineWord.TheVariants as begins
use Rattle.script_lang.specs.declared.report_words.CommandWord.{CommandWord}
use Rattle.script_lang.specs.declared.report_words.CommandWord.TheVariants as command
use Rattle.script_lang.specs.declared.report_words.ResultWord.{ResultWord}
use Rattle.script_lang.specs.declared.report_words.ResultWord.TheVariants as word
use Rattle.script_lang.specs.Words.{parts_of}
use Rattle.script_lang.specs.Names.{states}
use Rattle.script_lang.specs.Reports.{words_text, members_text, sum_text, refusal_name, sum_words, failure_words, setup_words, flush_words, answer_words, read_words, recovery_words, line_words}
use Rattle.script_lang.specs.ReportReading.{found, line_name, line_names, command_name, commands, result_name, results, refusals, number_of, node_of, sum_of, members_of, next, no_more, failure_said, setup_by, setup_said, flushed_said, flush_by, flush_said, answer_by, text_said, whole_said, bad_sum_said, read_by, recovered_said, unequal_said, recovery_by, sum_said, replica_said, down_said, answer_said, numbered_said, read_said, recovery_said, line_by, line_said, HoldsFailure, HoldsSetup, HoldsFlush, HoldsAnswer, HoldsRead, HoldsRecovery, Holds}
use Rattle.script_lang.proofs.WordLaws.{parts_of-some}
use Rattle.script_lang.proofs.ReportLaws.{words_text-parts}
use Rattle.script_lang.proofs.FieldLaws.{number_again, node_again, sum_again, refusal_again, state_again, result_again, command_again, line_again, next_again, one_again}
use Rattle.script_lang.proofs.MemberTextLaws.{members_again}

-- the word of a failure
failure_word : Failure → ResultWord
failure_word (failure.Abandoned n) = word.Abandoned
failure_word (failure.AllBad n) = word.AllBad
failure_word (failure.Lost stamp) = word.Lost
failure_word (failure.Refused name) = word.Refused
failure_word failure.Waiting = word.Waiting

-- the words behind it
failure_rest : Failure → List (List ℕ)
failure_rest (failure.Abandoned n) = decimal n.0 ∷ []
failure_rest (failure.AllBad n) = decimal n.0 ∷ []
failure_rest (failure.Lost stamp) = decimal stamp.0 ∷ []
failure_rest (failure.Refused name) = refusal_name name ∷ []
failure_rest failure.Waiting = []

failure_parts : (f : Failure) → failure_words f ≡ result_name (failure_word f) ∷ failure_rest f
unfolding failure_word failure_rest result_name
failure_parts (failure.Abandoned n) = refl
failure_parts (failure.AllBad n) = refl
failure_parts (failure.Lost stamp) = refl
failure_parts (failure.Refused name) = refl
failure_parts failure.Waiting = refl

failure_again : (f : Failure) → HoldsFailure f → failure_said (failure_word f) (failure_rest f) ≡ Some f
unfolding failure_word failure_rest failure_said no_more
failure_again (failure.Abandoned n) h = one_again node_of failure.Abandoned (decimal n.0) n (node_again n h)
failure_again (failure.AllBad n) h = one_again node_of failure.AllBad (decimal n.0) n (node_again n h)
failure_again (failure.Lost stamp) h = one_again number_of (λ n. failure.Lost (record { 0 = n })) (decimal stamp.0) stamp.0 (number_again stamp.0 h)
failure_again (failure.Refused name) h = one_again (found refusal_name refusals) failure.Refused (refusal_name name) name (refusal_again name)
failure_again failure.Waiting h = refl

-- a failed create or append, and a failed flush
setup_fails : (f : Failure) (words : List (List ℕ)) → setup_by (failure_word f) words ≡ (failure_said (failure_word f) words >>= (λ why. Some (setup.Failed why)))
unfolding failure_word
setup_fails (failure.Abandoned n) words = refl
setup_fails (failure.AllBad n) words = refl
setup_fails (failure.Lost stamp) words = refl
setup_fails (failure.Refused name) words = refl
setup_fails failure.Waiting words = refl

flush_fails : (f : Failure) (words : List (List ℕ)) → flush_by (failure_word f) words ≡ (failure_said (failure_word f) words >>= (λ why. Some (flush.Failed why)))
unfolding failure_word
flush_fails (failure.Abandoned n) words = refl
flush_fails (failure.AllBad n) words = refl
flush_fails (failure.Lost stamp) words = refl
flush_fails (failure.Refused name) words = refl
flush_fails failure.Waiting words = refl

result_next : (w : ResultWord) (rest : List (List ℕ)) → next (found result_name results) (result_name w ∷ rest) ≡ Some (w, rest)
result_next w rest = next_again (found result_name results) (result_name w) rest w (result_again w)

setup_again : (r : SetupResult) → HoldsSetup r → setup_said (setup_words r) ≡ Some r
unfolding setup_said result_name
setup_again (setup.Ok stamp) h =
    bind-Some (next (found result_name results) (codes "ok" ∷ decimal stamp.0 ∷ [])) (λ w. setup_by w.0 w.1) (word.Ok, decimal stamp.0 ∷ []) (result_next word.Ok (decimal stamp.0 ∷ []))
    ∙ one_again number_of (λ n. setup.Ok (record { 0 = n })) (decimal stamp.0) stamp.0 (number_again stamp.0 h)
setup_again (setup.Failed f) h =
    ap setup_said (failure_parts f)
    ∙ (bind-Some (next (found result_name results) (result_name (failure_word f) ∷ failure_rest f)) (λ w. setup_by w.0 w.1) (failure_word f, failure_rest f) (result_next (failure_word f) (failure_rest f))
    ∙ (setup_fails f (failure_rest f) ∙ bind-Some (failure_said (failure_word f) (failure_rest f)) (λ why. Some (setup.Failed why)) f (failure_again f h)))

number_next : (n : ℕ) (rest : List (List ℕ)) → n < 2 ^ 64 → next number_of (decimal n ∷ rest) ≡ Some (n, rest)
number_next n rest fits = next_again number_of (decimal n) rest n (number_again n fits)

flushed_again : (length : ℕ) (stamp : Stamp) (members : List NodeId) → HoldsFlush (flush.Ok length stamp members) → flushed_said (decimal length ∷ decimal stamp.0 ∷ members_text members ∷ []) ≡ Some (flush.Ok length stamp members)
unfolding flushed_said
flushed_again length stamp members h =
    bind-Some (next number_of (decimal length ∷ decimal stamp.0 ∷ members_text members ∷ [])) _ (length, decimal stamp.0 ∷ members_text members ∷ []) (number_next length _ h.0)
    ∙ (bind-Some (next number_of (decimal stamp.0 ∷ members_text members ∷ [])) _ (stamp.0, members_text members ∷ []) (number_next stamp.0 _ h.1)
    ∙ one_again members_of (λ ms. flush.Ok length stamp ms) (members_text members) members (members_again members h.2))

flush_again : (r : FlushResult) → HoldsFlush r → flush_said (flush_words r) ≡ Some r
unfolding flush_said result_name
flush_again (flush.Ok length stamp members) h =
    bind-Some (next (found result_name results) (flush_words (flush.Ok length stamp members))) (λ w. flush_by w.0 w.1) (word.Ok, decimal length ∷ decimal stamp.0 ∷ members_text members ∷ []) (result_next word.Ok _)
    ∙ flushed_again length stamp members h
flush_again (flush.Failed f) h =
    ap flush_said (failure_parts f)
    ∙ (bind-Some (next (found result_name results) (result_name (failure_word f) ∷ failure_rest f)) (λ w. flush_by w.0 w.1) (failure_word f, failure_rest f) (result_next (failure_word f) (failure_rest f))
    ∙ (flush_fails f (failure_rest f) ∙ bind-Some (failure_said (failure_word f) (failure_rest f)) (λ why. Some (flush.Failed why)) f (failure_again f h)))

-- ---- answers

command_next : (c : CommandWord) (rest : List (List ℕ)) → next (found command_name commands) (command_name c ∷ rest) ≡ Some (c, rest)
command_next c rest = next_again (found command_name commands) (command_name c) rest c (command_again c)

command_of : Answer → CommandWord
command_of (answer.Create r) = command.Create
command_of (answer.Append r) = command.Append
command_of (answer.Hflush r) = command.Hflush
command_of (answer.Hsync r) = command.Hsync
command_of (answer.Close r) = command.Close

result_of : Answer → List (List ℕ)
result_of (answer.Create r) = setup_words r
result_of (answer.Append r) = setup_words r
result_of (answer.Hflush r) = flush_words r
result_of (answer.Hsync r) = flush_words r
result_of (answer.Close r) = flush_words r

answer_parts : (a : Answer) → answer_words a ≡ command_name (command_of a) ∷ result_of a
unfolding command_of result_of command_name
answer_parts (answer.Create r) = refl
answer_parts (answer.Append r) = refl
answer_parts (answer.Hflush r) = refl
answer_parts (answer.Hsync r) = refl
answer_parts (answer.Close r) = refl

answer_again : (a : Answer) → HoldsAnswer a → answer_by (command_of a) (result_of a) ≡ Some a
unfolding command_of result_of
answer_again (answer.Create r) h = bind-Some (setup_said (setup_words r)) (λ r. Some (answer.Create r)) r (setup_again r h)
answer_again (answer.Append r) h = bind-Some (setup_said (setup_words r)) (λ r. Some (answer.Append r)) r (setup_again r h)
answer_again (answer.Hflush r) h = bind-Some (flush_said (flush_words r)) (λ r. Some (answer.Hflush r)) r (flush_again r h)
answer_again (answer.Hsync r) h = bind-Some (flush_said (flush_words r)) (λ r. Some (answer.Hsync r)) r (flush_again r h)
answer_again (answer.Close r) h = bind-Some (flush_said (flush_words r)) (λ r. Some (answer.Close r)) r (flush_again r h)

-- ---- reads

read_word : ReadResult → ResultWord
read_word (read.Ok sum) = word.Ok
read_word (read.Refused text) = word.Refused
read_word (read.BadSum chunk) = word.BadSum
read_word read.Malformed = word.Malformed
read_word read.Ended = word.Ended

read_rest : ReadResult → List (List ℕ)
read_rest (read.Ok sum) = sum_text sum ∷ []
read_rest (read.Refused text) = parts_of 32 text
read_rest (read.BadSum chunk) = decimal chunk ∷ []
read_rest _ = []

read_parts : (r : ReadResult) → read_words r ≡ result_name (read_word r) ∷ read_rest r
unfolding read_word read_rest result_name
read_parts (read.Ok sum) = refl
read_parts (read.Refused text) = refl
read_parts (read.BadSum chunk) = refl
read_parts read.Malformed = refl
read_parts read.Ended = refl

text_again : (text : List ℕ) → text_said (parts_of 32 text) ≡ Some text
unfolding text_said
text_again text =
    let p = parts_of-some 32 text in
    ap text_said p.1.1 ∙ ap Some (sym (ap words_text p.1.1) ∙ words_text-parts text)

read_again : (r : ReadResult) → HoldsRead r → read_by (read_word r) (read_rest r) ≡ Some r
unfolding read_word read_rest read_by whole_said bad_sum_said no_more
read_again (read.Ok sum) h = one_again sum_of read.Ok (sum_text sum) sum (sum_again sum h)
read_again (read.Refused text) h = bind-Some (text_said (parts_of 32 text)) (λ text. Some (read.Refused text)) text (text_again text)
read_again (read.BadSum chunk) h = one_again number_of read.BadSum (decimal chunk) chunk (number_again chunk h)
read_again read.Malformed h = refl
read_again read.Ended h = refl

-- ---- recoveries

recovery_word : RecoveryResult → ResultWord
recovery_word (recovery.Ok id length members) = word.Ok
recovery_word recovery.Nothing = word.Nothing
recovery_word (recovery.Unequal first second) = word.Unequal
recovery_word recovery.NoneUpdated = word.NoneUpdated
recovery_word (recovery.Refused name) = word.Refused
recovery_word recovery.Ended = word.Ended

recovery_rest : RecoveryResult → List (List ℕ)
recovery_rest (recovery.Ok id length members) = decimal id.0 ∷ decimal length ∷ members_text members ∷ []
recovery_rest (recovery.Unequal first second) = decimal first ∷ decimal second ∷ []
recovery_rest (recovery.Refused name) = refusal_name name ∷ []
recovery_rest _ = []

recovery_parts : (r : RecoveryResult) → recovery_words r ≡ result_name (recovery_word r) ∷ recovery_rest r
unfolding recovery_word recovery_rest result_name
recovery_parts (recovery.Ok id length members) = refl
recovery_parts recovery.Nothing = refl
recovery_parts (recovery.Unequal first second) = refl
recovery_parts recovery.NoneUpdated = refl
recovery_parts (recovery.Refused name) = refl
recovery_parts recovery.Ended = refl

recovered_again : (id : Stamp) (length : ℕ) (members : List NodeId) → HoldsRecovery (recovery.Ok id length members) → recovered_said (decimal id.0 ∷ decimal length ∷ members_text members ∷ []) ≡ Some (recovery.Ok id length members)
unfolding recovered_said
recovered_again id length members h =
    bind-Some (next number_of (decimal id.0 ∷ decimal length ∷ members_text members ∷ [])) _ (id.0, decimal length ∷ members_text members ∷ []) (number_next id.0 _ h.0)
    ∙ (bind-Some (next number_of (decimal length ∷ members_text members ∷ [])) _ (length, members_text members ∷ []) (number_next length _ h.1)
    ∙ one_again members_of (λ ms. recovery.Ok id length ms) (members_text members) members (members_again members h.2))

unequal_again : (first second : ℕ) → HoldsRecovery (recovery.Unequal first second) → unequal_said (decimal first ∷ decimal second ∷ []) ≡ Some (recovery.Unequal first second)
unfolding unequal_said
unequal_again first second h =
    bind-Some (next number_of (decimal first ∷ decimal second ∷ [])) _ (first, decimal second ∷ []) (number_next first _ h.0)
    ∙ one_again number_of (λ n. recovery.Unequal first n) (decimal second) second (number_again second h.1)

recovery_again : (r : RecoveryResult) → HoldsRecovery r → recovery_by (recovery_word r) (recovery_rest r) ≡ Some r
unfolding recovery_word recovery_rest recovery_by no_more
recovery_again (recovery.Ok id length members) h = recovered_again id length members h
recovery_again recovery.Nothing h = refl
recovery_again (recovery.Unequal first second) h = unequal_again first second h
recovery_again recovery.NoneUpdated h = refl
recovery_again (recovery.Refused name) h = one_again (found refusal_name refusals) recovery.Refused (refusal_name name) name (refusal_again name)
recovery_again recovery.Ended h = refl

-- ---- whole lines

line_next : (w : LineWord) (rest : List (List ℕ)) → next (found line_name line_names) (line_name w ∷ rest) ≡ Some (w, rest)
line_next w rest = next_again (found line_name line_names) (line_name w) rest w (line_again w)

sum_words_again : (sum : Option ℕ) → IfSome sum (λ s. s < 2 ^ 32) → sum_said (sum_words sum) ≡ Some sum
unfolding sum_said
sum_words_again (Some s) h = bind-Some (sum_of (sum_text s)) (λ s. Some (Some s)) s (sum_again s h)
sum_words_again None h = refl

replica_again : (n : NodeId) (block : BlockId) (state : ReplicaState) (stamp : Stamp) (written acked : ℕ) (sum : Option ℕ) → Holds (line.Replica n block state stamp written acked sum) → replica_said (decimal n.0 ∷ decimal block.0 ∷ state_name state ∷ decimal stamp.0 ∷ decimal written ∷ decimal acked ∷ sum_words sum) ≡ Some (line.Replica n block state stamp written acked sum)
unfolding replica_said
replica_again n block state stamp written acked sum h =
    let w6 = sum_words sum in
    let w5 = decimal acked ∷ w6 in
    let w4 = decimal written ∷ w5 in
    let w3 = decimal stamp.0 ∷ w4 in
    let w2 = state_name state ∷ w3 in
    let w1 = decimal block.0 ∷ w2 in
    bind-Some (next node_of (decimal n.0 ∷ w1)) _ (n, w1) (next_again node_of (decimal n.0) w1 n (node_again n h.0))
    ∙ (bind-Some (next number_of w1) _ (block.0, w2) (number_next block.0 w2 h.1)
    ∙ (bind-Some (next (found state_name states) w2) _ (state, w3) (next_again (found state_name states) (state_name state) w3 state (state_again state))
    ∙ (bind-Some (next number_of w3) _ (stamp.0, w4) (number_next stamp.0 w4 h.2)
    ∙ (bind-Some (next number_of w4) _ (written, w5) (number_next written w5 h.3)
    ∙ (bind-Some (next number_of w5) _ (acked, w6) (number_next acked w6 h.4)
    ∙ bind-Some (sum_said w6) _ sum (sum_words_again sum h.5))))))

answer_line_again : (block : BlockId) (ordinal : ℕ) (a : Answer) → Holds (line.Answer block ordinal a) → answer_said (decimal block.0 ∷ decimal ordinal ∷ answer_words a) ≡ Some (line.Answer block ordinal a)
unfolding answer_said
answer_line_again block ordinal a h =
    ap (λ l. answer_said (decimal block.0 ∷ decimal ordinal ∷ l)) (answer_parts a)
    ∙ (bind-Some (next number_of (decimal block.0 ∷ decimal ordinal ∷ command_name (command_of a) ∷ result_of a)) _ (block.0, decimal ordinal ∷ command_name (command_of a) ∷ result_of a) (number_next block.0 _ h.0)
    ∙ (bind-Some (next number_of (decimal ordinal ∷ command_name (command_of a) ∷ result_of a)) _ (ordinal, command_name (command_of a) ∷ result_of a) (number_next ordinal _ h.1)
    ∙ (bind-Some (next (found command_name commands) (command_name (command_of a) ∷ result_of a)) _ (command_of a, result_of a) (command_next (command_of a) (result_of a))
    ∙ bind-Some (answer_by (command_of a) (result_of a)) _ a (answer_again a h.2))))

numbered_again : (n : ℕ) (w : ResultWord) (rest : List (List ℕ)) → n < 2 ^ 64 → numbered_said (decimal n ∷ result_name w ∷ rest) ≡ Some (n, w, rest)
unfolding numbered_said
numbered_again n w rest fits =
    bind-Some (next number_of (decimal n ∷ result_name w ∷ rest)) _ (n, result_name w ∷ rest) (number_next n _ fits)
    ∙ bind-Some (next (found result_name results) (result_name w ∷ rest)) _ (w, rest) (result_next w rest)

read_line_again : (n : ℕ) (r : ReadResult) → Holds (line.Read n r) → read_said (decimal n ∷ read_words r) ≡ Some (line.Read n r)
unfolding read_said
read_line_again n r h =
    ap (λ l. read_said (decimal n ∷ l)) (read_parts r)
    ∙ (bind-Some (numbered_said (decimal n ∷ result_name (read_word r) ∷ read_rest r)) _ (n, read_word r, read_rest r) (numbered_again n (read_word r) (read_rest r) h.0)
    ∙ bind-Some (read_by (read_word r) (read_rest r)) _ r (read_again r h.1))

recovery_line_again : (n : ℕ) (r : RecoveryResult) → Holds (line.Recovery n r) → recovery_said (decimal n ∷ recovery_words r) ≡ Some (line.Recovery n r)
unfolding recovery_said
recovery_line_again n r h =
    ap (λ l. recovery_said (decimal n ∷ l)) (recovery_parts r)
    ∙ (bind-Some (numbered_said (decimal n ∷ result_name (recovery_word r) ∷ recovery_rest r)) _ (n, recovery_word r, recovery_rest r) (numbered_again n (recovery_word r) (recovery_rest r) h.0)
    ∙ bind-Some (recovery_by (recovery_word r) (recovery_rest r)) _ r (recovery_again r h.1))

down_again : (n : NodeId) → n.0 < 2 ^ 32 → down_said (decimal n.0 ∷ []) ≡ Some (line.Down n)
unfolding down_said
down_again n h = one_again node_of line.Down (decimal n.0) n (node_again n h)

-- a line, by its first word
by_first : (w : LineWord) (rest : List (List ℕ)) (l : ReportLine) → line_by w rest ≡ Some l → line_said (line_name w ∷ rest) ≡ Some l
unfolding line_said
by_first w rest l e = bind-Some (next (found line_name line_names) (line_name w ∷ rest)) (λ w. line_by w.0 w.1) (w, rest) (line_next w rest) ∙ e

-- The words of a line say that line.
pub line_words_again : (l : ReportLine) → Holds l → line_said (line_words l) ≡ Some l
unfolding line_name no_more
line_words_again (line.Replica n block state stamp written acked sum) h = by_first begins.Replica _ (line.Replica n block state stamp written acked sum) (replica_again n block state stamp written acked sum h)
line_words_again (line.Down n) h = by_first begins.Down (decimal n.0 ∷ []) (line.Down n) (down_again n h)
line_words_again (line.Answer block ordinal a) h = by_first begins.Answer _ (line.Answer block ordinal a) (answer_line_again block ordinal a h)
line_words_again (line.Read n r) h = by_first begins.Read _ (line.Read n r) (read_line_again n r h)
line_words_again (line.Recovery n r) h = by_first begins.Recovery _ (line.Recovery n r) (recovery_line_again n r h)
line_words_again line.End h = by_first begins.End [] line.End refl
