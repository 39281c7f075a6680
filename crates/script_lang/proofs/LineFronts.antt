-- The words of report lines: words that say a line are that line's words, and the line holds what its types may hold.
use Rattle.std.proofs.Common.{◌≡◌, ℕ, ◌^◌, ◌<◌, ◌&&◌, Bool, true, false, cond, List, [], ◌∷◌, ◌++◌, codes, bytes_eq, decimal, Option, Some, None, IfSome, refl, sym, ◌∙◌, ap, subst}
use Rattle.std.proofs.lemmas.Bool.{and_parts}
use Rattle.std.proofs.lemmas.Slice.Eq.{bytes_eq-Decides}
use Rattle.hd_base.specs.Options.{◌>>=◌}
use Rattle.hd_base.proofs.OptionLaws.{bind_some}
use Rattle.hd_base.specs.Wire.{state_name}
use Rattle.hd_base.specs.declared.numbers.NodeId.{NodeId}
use Rattle.script_lang.specs.declared.report.ReportLine.{ReportLine}
use Rattle.script_lang.specs.declared.report.ReportLine.TheVariants as line
use Rattle.script_lang.specs.declared.report.Answer.{Answer}
use Rattle.script_lang.specs.declared.report.Answer.TheVariants as answer
use Rattle.script_lang.specs.declared.report.SetupResult.{SetupResult}
use Rattle.script_lang.specs.declared.report.SetupResult.TheVariants as setup
use Rattle.script_lang.specs.declared.report.FlushResult.{FlushResult}
use Rattle.script_lang.specs.declared.report.FlushResult.TheVariants as flush
use Rattle.script_lang.specs.declared.report.Failure.{Failure}
use Rattle.script_lang.specs.declared.report.Failure.TheVariants as failure
use Rattle.script_lang.specs.declared.report.OfficeRefusal.{OfficeRefusal}
use Rattle.script_lang.specs.declared.report.ReadResult.{ReadResult}
use Rattle.script_lang.specs.declared.report.ReadResult.TheVariants as read
use Rattle.script_lang.specs.declared.report.RecoveryResult.{RecoveryResult}
use Rattle.script_lang.specs.declared.report.RecoveryResult.TheVariants as recovery
use Rattle.script_lang.specs.declared.report_words.LineWord.{LineWord}
use Rattle.script_lang.specs.declared.report_words.LineWord.TheVariants as begins
use Rattle.script_lang.specs.declared.report_words.CommandWord.{CommandWord}
use Rattle.script_lang.specs.declared.report_words.CommandWord.TheVariants as command
use Rattle.script_lang.specs.declared.report_words.ResultWord.{ResultWord}
use Rattle.script_lang.specs.declared.report_words.ResultWord.TheVariants as word
use Rattle.script_lang.specs.Words.{parts_of}
use Rattle.script_lang.specs.Names.{states}
use Rattle.script_lang.specs.Reports.{words_text, spaced, members_text, sum_text, refusal_name, sum_words, failure_words, setup_words, flush_words, answer_words, read_words, recovery_words, line_words}
use Rattle.script_lang.specs.ReportReading.{found, line_name, line_names, command_name, commands, result_name, results, refusals, number_of, node_of, sum_of, members_of, next, no_more, failure_said, setup_by, setup_said, flushed_said, flush_by, flush_said, answer_by, text_said, whole_said, bad_sum_said, read_by, recovered_said, unequal_said, recovery_by, sum_said, replica_said, down_said, answer_said, numbered_said, read_said, recovery_said, line_by, line_said, IsMembers, HoldsFailure, HoldsSetup, HoldsFlush, HoldsAnswer, HoldsRead, HoldsRecovery, Holds}
use Rattle.script_lang.proofs.ReportLaws.{spaced-parts}
use Rattle.script_lang.proofs.FieldLaws.{some_value, none_some, number_front, node_front, sum_front, found_front, next_front, no_more_front, one_front}
use Rattle.script_lang.proofs.MemberTextLaws.{members_front}

-- the next word is a number, and those behind it
number_words : (words : List (List ℕ)) (n : ℕ) (rest : List (List ℕ)) → next number_of words ≡ Some (n, rest) → (words ≡ decimal n ∷ rest) × (n < 2 ^ 64)
number_words words n rest e =
    let t = next_front number_of words n rest e in
    let f = number_front t.text n t.is in
    (t.parts ∙ ap (λ w. w ∷ rest) f.0, f.1)

node_words : (words : List (List ℕ)) (n : NodeId) (rest : List (List ℕ)) → next node_of words ≡ Some (n, rest) → (words ≡ decimal n.0 ∷ rest) × (n.0 < 2 ^ 32)
node_words words n rest e =
    let t = next_front node_of words n rest e in
    let f = node_front t.text n t.is in
    (t.parts ∙ ap (λ w. w ∷ rest) f.0, f.1)

named_words : {A : Type 0} (name : A → List ℕ) (all : List A) (words : List (List ℕ)) (x : A) (rest : List (List ℕ)) → next (found name all) words ≡ Some (x, rest) → words ≡ name x ∷ rest
named_words name all words x rest e =
    let t = next_front (found name all) words x rest e in
    t.parts ∙ ap (λ w. w ∷ rest) (found_front name all t.text x t.is)

-- one number, one node or one name alone
number_alone : {B : Type 0} (made : ℕ → B) (words : List (List ℕ)) (y : B) → (next number_of words >>= (λ n. no_more (made n.0) n.1)) ≡ Some y → (n : ℕ) × (words ≡ decimal n ∷ []) × (n < 2 ^ 64) × (made n ≡ y)
number_alone made words y e =
    let o = one_front number_of made words y e in
    let f = number_front o.1.text o.0 o.1.is in
    (o.0, o.1.parts ∙ ap (λ w. w ∷ []) f.0, f.1, o.2)

node_alone : {B : Type 0} (made : NodeId → B) (words : List (List ℕ)) (y : B) → (next node_of words >>= (λ n. no_more (made n.0) n.1)) ≡ Some y → (n : NodeId) × (words ≡ decimal n.0 ∷ []) × (n.0 < 2 ^ 32) × (made n ≡ y)
node_alone made words y e =
    let o = one_front node_of made words y e in
    let f = node_front o.1.text o.0 o.1.is in
    (o.0, o.1.parts ∙ ap (λ w. w ∷ []) f.0, f.1, o.2)

refusal_alone : {B : Type 0} (made : OfficeRefusal → B) (words : List (List ℕ)) (y : B) → (next (found refusal_name refusals) words >>= (λ n. no_more (made n.0) n.1)) ≡ Some y → (r : OfficeRefusal) × (words ≡ refusal_name r ∷ []) × (made r ≡ y)
refusal_alone made words y e =
    let o = one_front (found refusal_name refusals) made words y e in
    (o.0, o.1.parts ∙ ap (λ w. w ∷ []) (found_front refusal_name refusals o.1.text o.0 o.1.is), o.2)

members_alone : {B : Type 0} (made : List NodeId → B) (words : List (List ℕ)) (y : B) → (next members_of words >>= (λ n. no_more (made n.0) n.1)) ≡ Some y → (ms : List NodeId) × (words ≡ members_text ms ∷ []) × IsMembers ms × (made ms ≡ y)
members_alone made words y e =
    let o = one_front members_of made words y e in
    let f = members_front o.1.text o.0 o.1.is in
    (o.0, o.1.parts ∙ ap (λ w. w ∷ []) f.0, f.1, o.2)

-- ---- results

abbrev IsFailure : ResultWord → List (List ℕ) → Failure → Type 0
IsFailure w words f = (result_name w ∷ words ≡ failure_words f) × HoldsFailure f

failure_front : (w : ResultWord) (words : List (List ℕ)) (f : Failure) → failure_said w words ≡ Some f → IsFailure w words f
unfolding failure_said result_name
failure_front word.Abandoned words f e =
    let n = node_alone failure.Abandoned words f e in
    subst (IsFailure word.Abandoned words) n.3 (ap (λ l. codes "abandoned" ∷ l) n.1, n.2)
failure_front word.AllBad words f e =
    let n = node_alone failure.AllBad words f e in
    subst (IsFailure word.AllBad words) n.3 (ap (λ l. codes "allbad" ∷ l) n.1, n.2)
failure_front word.Lost words f e =
    let n = number_alone (λ n. failure.Lost (record { 0 = n })) words f e in
    subst (IsFailure word.Lost words) n.3 (ap (λ l. codes "lost" ∷ l) n.1, n.2)
failure_front word.Refused words f e =
    let n = refusal_alone failure.Refused words f e in
    subst (IsFailure word.Refused words) n.2 (ap (λ l. codes "refused" ∷ l) n.1, tt)
failure_front word.Waiting words f e =
    let m = no_more_front failure.Waiting words f e in
    subst (IsFailure word.Waiting words) m.1 (ap (λ l. codes "waiting" ∷ l) m.0, tt)
failure_front word.Ok words f e = absurd (none_some f e)
failure_front word.BadSum words f e = absurd (none_some f e)
failure_front word.Malformed words f e = absurd (none_some f e)
failure_front word.Ended words f e = absurd (none_some f e)
failure_front word.Nothing words f e = absurd (none_some f e)
failure_front word.Unequal words f e = absurd (none_some f e)
failure_front word.NoneUpdated words f e = absurd (none_some f e)

abbrev IsSetup : ResultWord → List (List ℕ) → SetupResult → Type 0
IsSetup w words r = (result_name w ∷ words ≡ setup_words r) × HoldsSetup r

setup_failed : (w : ResultWord) (words : List (List ℕ)) (r : SetupResult) → (failure_said w words >>= (λ why. Some (setup.Failed why))) ≡ Some r → IsSetup w words r
setup_failed w words r e =
    let f = bind_some (failure_said w words) (λ why. Some (setup.Failed why)) r e in
    let is = failure_front w words f.0 f.1.0 in
    subst (IsSetup w words) (some_value (setup.Failed f.0) r f.1.1) (is.0, is.1)

setup_by_front : (w : ResultWord) (words : List (List ℕ)) (r : SetupResult) → setup_by w words ≡ Some r → IsSetup w words r
unfolding result_name
setup_by_front word.Ok words r e =
    let n = number_alone (λ n. setup.Ok (record { 0 = n })) words r e in
    subst (IsSetup word.Ok words) n.3 (ap (λ l. codes "ok" ∷ l) n.1, n.2)
setup_by_front word.Abandoned words r e = setup_failed word.Abandoned words r e
setup_by_front word.AllBad words r e = setup_failed word.AllBad words r e
setup_by_front word.Lost words r e = setup_failed word.Lost words r e
setup_by_front word.Refused words r e = setup_failed word.Refused words r e
setup_by_front word.Waiting words r e = setup_failed word.Waiting words r e
setup_by_front word.BadSum words r e = setup_failed word.BadSum words r e
setup_by_front word.Malformed words r e = setup_failed word.Malformed words r e
setup_by_front word.Ended words r e = setup_failed word.Ended words r e
setup_by_front word.Nothing words r e = setup_failed word.Nothing words r e
setup_by_front word.Unequal words r e = setup_failed word.Unequal words r e
setup_by_front word.NoneUpdated words r e = setup_failed word.NoneUpdated words r e

setup_front : (words : List (List ℕ)) (r : SetupResult) → setup_said words ≡ Some r → (words ≡ setup_words r) × HoldsSetup r
unfolding setup_said
setup_front words r e =
    let w = bind_some (next (found result_name results) words) (λ w. setup_by w.0 w.1) r e in
    let is = setup_by_front w.0.0 w.0.1 r w.1.1 in
    (named_words result_name results words w.0.0 w.0.1 w.1.0 ∙ is.0, is.1)

flushed_front : (words : List (List ℕ)) (r : FlushResult) → flushed_said words ≡ Some r → (codes "ok" ∷ words ≡ flush_words r) × HoldsFlush r
unfolding flushed_said
flushed_front words r e =
    let length = bind_some (next number_of words) _ r e in
    let stamp = bind_some (next number_of length.0.1) _ r length.1.1 in
    let made : List NodeId → FlushResult = λ ms. flush.Ok length.0.0 (record { 0 = stamp.0.0 }) ms in
    let ms = members_alone made stamp.0.1 r stamp.1.1 in
    let l = number_words words length.0.0 length.0.1 length.1.0 in
    let s = number_words length.0.1 stamp.0.0 stamp.0.1 stamp.1.0 in
    subst (λ r. (codes "ok" ∷ words ≡ flush_words r) × HoldsFlush r) ms.3
    (ap (λ k. codes "ok" ∷ k) (l.0 ∙ ap (λ k. decimal length.0.0 ∷ k) (s.0 ∙ ap (λ k. decimal stamp.0.0 ∷ k) ms.1)), (l.1, s.1, ms.2))

abbrev IsFlush : ResultWord → List (List ℕ) → FlushResult → Type 0
IsFlush w words r = (result_name w ∷ words ≡ flush_words r) × HoldsFlush r

flush_failed : (w : ResultWord) (words : List (List ℕ)) (r : FlushResult) → (failure_said w words >>= (λ why. Some (flush.Failed why))) ≡ Some r → IsFlush w words r
flush_failed w words r e =
    let f = bind_some (failure_said w words) (λ why. Some (flush.Failed why)) r e in
    let is = failure_front w words f.0 f.1.0 in
    subst (IsFlush w words) (some_value (flush.Failed f.0) r f.1.1) (is.0, is.1)

flush_by_front : (w : ResultWord) (words : List (List ℕ)) (r : FlushResult) → flush_by w words ≡ Some r → IsFlush w words r
unfolding result_name
flush_by_front word.Ok words r e = flushed_front words r e
flush_by_front word.Abandoned words r e = flush_failed word.Abandoned words r e
flush_by_front word.AllBad words r e = flush_failed word.AllBad words r e
flush_by_front word.Lost words r e = flush_failed word.Lost words r e
flush_by_front word.Refused words r e = flush_failed word.Refused words r e
flush_by_front word.Waiting words r e = flush_failed word.Waiting words r e
flush_by_front word.BadSum words r e = flush_failed word.BadSum words r e
flush_by_front word.Malformed words r e = flush_failed word.Malformed words r e
flush_by_front word.Ended words r e = flush_failed word.Ended words r e
flush_by_front word.Nothing words r e = flush_failed word.Nothing words r e
flush_by_front word.Unequal words r e = flush_failed word.Unequal words r e
flush_by_front word.NoneUpdated words r e = flush_failed word.NoneUpdated words r e

flush_front : (words : List (List ℕ)) (r : FlushResult) → flush_said words ≡ Some r → (words ≡ flush_words r) × HoldsFlush r
unfolding flush_said
flush_front words r e =
    let w = bind_some (next (found result_name results) words) (λ w. flush_by w.0 w.1) r e in
    let is = flush_by_front w.0.0 w.0.1 r w.1.1 in
    (named_words result_name results words w.0.0 w.0.1 w.1.0 ∙ is.0, is.1)

-- ---- answers

abbrev IsAnswer : CommandWord → List (List ℕ) → Answer → Type 0
IsAnswer c words a = (command_name c ∷ words ≡ answer_words a) × HoldsAnswer a

answer_setup : (c : CommandWord) (made : SetupResult → Answer) (words : List (List ℕ)) (a : Answer) → ((r : SetupResult) → (words ≡ setup_words r) × HoldsSetup r → IsAnswer c words (made r)) → (setup_said words >>= (λ r. Some (made r))) ≡ Some a → IsAnswer c words a
answer_setup c made words a done e =
    let r = bind_some (setup_said words) (λ r. Some (made r)) a e in
    subst (IsAnswer c words) (some_value (made r.0) a r.1.1) (done r.0 (setup_front words r.0 r.1.0))

answer_flush : (c : CommandWord) (made : FlushResult → Answer) (words : List (List ℕ)) (a : Answer) → ((r : FlushResult) → (words ≡ flush_words r) × HoldsFlush r → IsAnswer c words (made r)) → (flush_said words >>= (λ r. Some (made r))) ≡ Some a → IsAnswer c words a
answer_flush c made words a done e =
    let r = bind_some (flush_said words) (λ r. Some (made r)) a e in
    subst (IsAnswer c words) (some_value (made r.0) a r.1.1) (done r.0 (flush_front words r.0 r.1.0))

answer_front : (c : CommandWord) (words : List (List ℕ)) (a : Answer) → answer_by c words ≡ Some a → IsAnswer c words a
unfolding command_name
answer_front command.Create words a e = answer_setup command.Create answer.Create words a (λ r h. (ap (λ l. codes "create" ∷ l) h.0, h.1)) e
answer_front command.Append words a e = answer_setup command.Append answer.Append words a (λ r h. (ap (λ l. codes "append" ∷ l) h.0, h.1)) e
answer_front command.Hflush words a e = answer_flush command.Hflush answer.Hflush words a (λ r h. (ap (λ l. codes "hflush" ∷ l) h.0, h.1)) e
answer_front command.Hsync words a e = answer_flush command.Hsync answer.Hsync words a (λ r h. (ap (λ l. codes "hsync" ∷ l) h.0, h.1)) e
answer_front command.Close words a e = answer_flush command.Close answer.Close words a (λ r h. (ap (λ l. codes "close" ∷ l) h.0, h.1)) e

-- ---- reads

-- a text may have spaces, so here the texts are the same
abbrev IsRead : ResultWord → List (List ℕ) → ReadResult → Type 0
IsRead w words r = (spaced (result_name w ∷ words) ≡ spaced (read_words r)) × HoldsRead r

whole_front : (words : List (List ℕ)) (r : ReadResult) → whole_said words ≡ Some r → IsRead word.Ok words r
unfolding whole_said result_name
whole_front words r e =
    let o = one_front sum_of read.Ok words r e in
    let f = sum_front o.1.text o.0 o.1.is in
    subst (IsRead word.Ok words) o.2 (ap (λ l. spaced (codes "ok" ∷ l)) (o.1.parts ∙ ap (λ w. w ∷ []) f.0), f.1)

bad_sum_front : (words : List (List ℕ)) (r : ReadResult) → bad_sum_said words ≡ Some r → IsRead word.BadSum words r
unfolding bad_sum_said result_name
bad_sum_front words r e =
    let n = number_alone read.BadSum words r e in
    subst (IsRead word.BadSum words) n.3 (ap (λ l. spaced (codes "badsum" ∷ l)) n.1, n.2)

text_front : (words : List (List ℕ)) (text : List ℕ) → text_said words ≡ Some text → spaced words ≡ spaced (parts_of 32 text)
unfolding text_said
text_front [] text e = absurd (none_some text e)
text_front (word ∷ words) text e = ap (λ l. 32 ∷ l) (some_value (words_text (word ∷ words)) text e) ∙ sym (spaced-parts text)

refused_front : (words : List (List ℕ)) (r : ReadResult) → (text_said words >>= (λ text. Some (read.Refused text))) ≡ Some r → IsRead word.Refused words r
unfolding result_name
refused_front words r e =
    let t = bind_some (text_said words) (λ text. Some (read.Refused text)) r e in
    subst (IsRead word.Refused words) (some_value (read.Refused t.0) r t.1.1) (ap (λ l. (32 ∷ codes "refused") ++ l) (text_front words t.0 t.1.0), tt)

read_front : (w : ResultWord) (words : List (List ℕ)) (r : ReadResult) → read_by w words ≡ Some r → IsRead w words r
unfolding read_by result_name
read_front word.Ok words r e = whole_front words r e
read_front word.Refused words r e = refused_front words r e
read_front word.BadSum words r e = bad_sum_front words r e
read_front word.Malformed words r e =
    let m = no_more_front read.Malformed words r e in
    subst (IsRead word.Malformed words) m.1 (ap (λ l. spaced (codes "malformed" ∷ l)) m.0, tt)
read_front word.Ended words r e =
    let m = no_more_front read.Ended words r e in
    subst (IsRead word.Ended words) m.1 (ap (λ l. spaced (codes "ended" ∷ l)) m.0, tt)
read_front word.Abandoned words r e = absurd (none_some r e)
read_front word.AllBad words r e = absurd (none_some r e)
read_front word.Lost words r e = absurd (none_some r e)
read_front word.Waiting words r e = absurd (none_some r e)
read_front word.Nothing words r e = absurd (none_some r e)
read_front word.Unequal words r e = absurd (none_some r e)
read_front word.NoneUpdated words r e = absurd (none_some r e)

-- ---- recoveries

abbrev IsRecovery : ResultWord → List (List ℕ) → RecoveryResult → Type 0
IsRecovery w words r = (result_name w ∷ words ≡ recovery_words r) × HoldsRecovery r

recovered_front : (words : List (List ℕ)) (r : RecoveryResult) → recovered_said words ≡ Some r → IsRecovery word.Ok words r
unfolding recovered_said result_name
recovered_front words r e =
    let id = bind_some (next number_of words) _ r e in
    let length = bind_some (next number_of id.0.1) _ r id.1.1 in
    let made : List NodeId → RecoveryResult = λ ms. recovery.Ok (record { 0 = id.0.0 }) length.0.0 ms in
    let ms = members_alone made length.0.1 r length.1.1 in
    let i = number_words words id.0.0 id.0.1 id.1.0 in
    let l = number_words id.0.1 length.0.0 length.0.1 length.1.0 in
    subst (IsRecovery word.Ok words) ms.3
    (ap (λ k. codes "ok" ∷ k) (i.0 ∙ ap (λ k. decimal id.0.0 ∷ k) (l.0 ∙ ap (λ k. decimal length.0.0 ∷ k) ms.1)), (i.1, l.1, ms.2))

unequal_front : (words : List (List ℕ)) (r : RecoveryResult) → unequal_said words ≡ Some r → IsRecovery word.Unequal words r
unfolding unequal_said result_name
unequal_front words r e =
    let first = bind_some (next number_of words) _ r e in
    let second = number_alone (λ n. recovery.Unequal first.0.0 n) first.0.1 r first.1.1 in
    let f = number_words words first.0.0 first.0.1 first.1.0 in
    subst (IsRecovery word.Unequal words) second.3 (ap (λ k. codes "unequal" ∷ k) (f.0 ∙ ap (λ k. decimal first.0.0 ∷ k) second.1), (f.1, second.2))

recovery_front : (w : ResultWord) (words : List (List ℕ)) (r : RecoveryResult) → recovery_by w words ≡ Some r → IsRecovery w words r
unfolding recovery_by result_name
recovery_front word.Ok words r e = recovered_front words r e
recovery_front word.Nothing words r e =
    let m = no_more_front recovery.Nothing words r e in
    subst (IsRecovery word.Nothing words) m.1 (ap (λ l. codes "nothing" ∷ l) m.0, tt)
recovery_front word.Unequal words r e = unequal_front words r e
recovery_front word.NoneUpdated words r e =
    let m = no_more_front recovery.NoneUpdated words r e in
    subst (IsRecovery word.NoneUpdated words) m.1 (ap (λ l. codes "noneupdated" ∷ l) m.0, tt)
recovery_front word.Refused words r e =
    let n = refusal_alone recovery.Refused words r e in
    subst (IsRecovery word.Refused words) n.2 (ap (λ l. codes "refused" ∷ l) n.1, tt)
recovery_front word.Ended words r e =
    let m = no_more_front recovery.Ended words r e in
    subst (IsRecovery word.Ended words) m.1 (ap (λ l. codes "ended" ∷ l) m.0, tt)
recovery_front word.Abandoned words r e = absurd (none_some r e)
recovery_front word.AllBad words r e = absurd (none_some r e)
recovery_front word.Lost words r e = absurd (none_some r e)
recovery_front word.Waiting words r e = absurd (none_some r e)
recovery_front word.BadSum words r e = absurd (none_some r e)
recovery_front word.Malformed words r e = absurd (none_some r e)

-- ---- whole lines

abbrev IsSum : List (List ℕ) → Option ℕ → Type 0
IsSum words sum = (words ≡ sum_words sum) × IfSome sum (λ s. s < 2 ^ 32)

mark_front : (sum name : List ℕ) (o : Option ℕ) (b c : Bool) → bytes_eq name (codes "ok") ≡ b → (bytes_eq name (codes "broken") && bytes_eq sum (codes "-")) ≡ c → cond b (sum_of sum >>= (λ s. Some (Some s))) (cond c (Some None) None) ≡ Some o → IsSum (sum ∷ name ∷ []) o
mark_front sum name o true c ok broken e =
    let s = bind_some (sum_of sum) (λ s. Some (Some s)) o e in
    let f = sum_front sum s.0 s.1.0 in
    subst (IsSum (sum ∷ name ∷ [])) (some_value (Some s.0) o s.1.1) (ap (λ w. w ∷ name ∷ []) f.0 ∙ ap (λ w. sum_text s.0 ∷ w ∷ []) ((bytes_eq-Decides name (codes "ok")).0 ok), f.1)
mark_front sum name o false true ok broken e =
    let both = and_parts (bytes_eq name (codes "broken")) (bytes_eq sum (codes "-")) broken in
    subst (IsSum (sum ∷ name ∷ [])) (some_value None o e) (ap (λ w. w ∷ name ∷ []) ((bytes_eq-Decides sum (codes "-")).0 both.1) ∙ ap (λ w. codes "-" ∷ w ∷ []) ((bytes_eq-Decides name (codes "broken")).0 both.0), tt)
mark_front sum name o false false ok broken e = absurd (none_some o e)

sum_words_front : (words : List (List ℕ)) (o : Option ℕ) → sum_said words ≡ Some o → IsSum words o
unfolding sum_said
sum_words_front [] o e = absurd (none_some o e)
sum_words_front (a ∷ []) o e = absurd (none_some o e)
sum_words_front (a ∷ b ∷ []) o e = mark_front a b o _ _ refl refl e
sum_words_front (a ∷ b ∷ c ∷ more) o e = absurd (none_some o e)

abbrev IsLine : List ℕ → List (List ℕ) → ReportLine → Type 0
IsLine first words l = (words_text (first ∷ words) ≡ words_text (line_words l)) × Holds l

-- one word behind the other
seven_words : (w0 w1 w2 w3 w4 w5 w6 : List (List ℕ)) (a b c d e f : List ℕ) (rest : List (List ℕ)) → w0 ≡ a ∷ w1 → w1 ≡ b ∷ w2 → w2 ≡ c ∷ w3 → w3 ≡ d ∷ w4 → w4 ≡ e ∷ w5 → w5 ≡ f ∷ w6 → w6 ≡ rest → w0 ≡ a ∷ b ∷ c ∷ d ∷ e ∷ f ∷ rest
seven_words w0 w1 w2 w3 w4 w5 w6 a b c d e f rest p0 p1 p2 p3 p4 p5 p6 = cc

replica_front : (words : List (List ℕ)) (l : ReportLine) → replica_said words ≡ Some l → IsLine (codes "replica") words l
unfolding replica_said
replica_front words l e =
    let n = bind_some (next node_of words) _ l e in
    let b = bind_some (next number_of n.0.1) _ l n.1.1 in
    let s = bind_some (next (found state_name states) b.0.1) _ l b.1.1 in
    let t = bind_some (next number_of s.0.1) _ l s.1.1 in
    let w = bind_some (next number_of t.0.1) _ l t.1.1 in
    let a = bind_some (next number_of w.0.1) _ l w.1.1 in
    let m = bind_some (sum_said a.0.1) _ l a.1.1 in
    let fn = node_words words n.0.0 n.0.1 n.1.0 in
    let fb = number_words n.0.1 b.0.0 b.0.1 b.1.0 in
    let fs = named_words state_name states b.0.1 s.0.0 s.0.1 s.1.0 in
    let ft = number_words s.0.1 t.0.0 t.0.1 t.1.0 in
    let fw = number_words t.0.1 w.0.0 w.0.1 w.1.0 in
    let fa = number_words w.0.1 a.0.0 a.0.1 a.1.0 in
    let fm = sum_words_front a.0.1 m.0 m.1.0 in
    let whole = seven_words words n.0.1 b.0.1 s.0.1 t.0.1 w.0.1 a.0.1 _ _ _ _ _ _ _ fn.0 fb.0 fs ft.0 fw.0 fa.0 fm.0 in
    subst (IsLine (codes "replica") words) (some_value _ l m.1.1) (ap (λ k. words_text (codes "replica" ∷ k)) whole, (fn.1, fb.1, ft.1, fw.1, fa.1, fm.1))

down_front : (words : List (List ℕ)) (l : ReportLine) → down_said words ≡ Some l → IsLine (codes "down") words l
unfolding down_said
down_front words l e =
    let n = node_alone line.Down words l e in
    subst (IsLine (codes "down") words) n.3 (ap (λ k. words_text (codes "down" ∷ k)) n.1, n.2)

answer_line_front : (words : List (List ℕ)) (l : ReportLine) → answer_said words ≡ Some l → IsLine (codes "answer") words l
unfolding answer_said
answer_line_front words l e =
    let b = bind_some (next number_of words) _ l e in
    let o = bind_some (next number_of b.0.1) _ l b.1.1 in
    let c = bind_some (next (found command_name commands) o.0.1) _ l o.1.1 in
    let a = bind_some (answer_by c.0.0 c.0.1) _ l c.1.1 in
    let fb = number_words words b.0.0 b.0.1 b.1.0 in
    let fo = number_words b.0.1 o.0.0 o.0.1 o.1.0 in
    let fc = named_words command_name commands o.0.1 c.0.0 c.0.1 c.1.0 in
    let fa = answer_front c.0.0 c.0.1 a.0 a.1.0 in
    let whole : words ≡ decimal b.0.0 ∷ decimal o.0.0 ∷ answer_words a.0 = fb.0 ∙ ap (λ k. decimal b.0.0 ∷ k) (fo.0 ∙ ap (λ k. decimal o.0.0 ∷ k) (fc ∙ fa.0)) in
    subst (IsLine (codes "answer") words) (some_value _ l a.1.1) (ap (λ k. words_text (codes "answer" ∷ k)) whole, (fb.1, fo.1, fa.1))

numbered_front : (words : List (List ℕ)) (n : ℕ) (w : ResultWord) (rest : List (List ℕ)) → numbered_said words ≡ Some (n, w, rest) → (words ≡ decimal n ∷ result_name w ∷ rest) × (n < 2 ^ 64)
unfolding numbered_said
numbered_front words n w rest e =
    let a = bind_some (next number_of words) _ (n, w, rest) e in
    let b = bind_some (next (found result_name results) a.0.1) _ (n, w, rest) a.1.1 in
    let fa = number_words words a.0.0 a.0.1 a.1.0 in
    let fb = named_words result_name results a.0.1 b.0.0 b.0.1 b.1.0 in
    let made : ℕ × ResultWord × List (List ℕ) = (a.0.0, b.0.0, b.0.1) in
    let same : made ≡ (n, w, rest) = some_value made (n, w, rest) b.1.1 in
    subst (λ (t : ℕ × ResultWord × List (List ℕ)). (words ≡ decimal t.0 ∷ result_name t.1 ∷ t.2) × (t.0 < 2 ^ 64)) same (fa.0 ∙ ap (λ k. decimal a.0.0 ∷ k) fb, fa.1)

read_line_front : (words : List (List ℕ)) (l : ReportLine) → read_said words ≡ Some l → IsLine (codes "read") words l
unfolding read_said
read_line_front words l e =
    let n = bind_some (numbered_said words) _ l e in
    let r = bind_some (read_by n.0.1 n.0.2) _ l n.1.1 in
    let fn = numbered_front words n.0.0 n.0.1 n.0.2 n.1.0 in
    let fr = read_front n.0.1 n.0.2 r.0 r.1.0 in
    subst (IsLine (codes "read") words) (some_value _ l r.1.1) (ap (λ k. words_text (codes "read" ∷ k)) fn.0 ∙ ap (λ k. codes "read" ++ ((32 ∷ decimal n.0.0) ++ k)) fr.0, (fn.1, fr.1))

recovery_line_front : (words : List (List ℕ)) (l : ReportLine) → recovery_said words ≡ Some l → IsLine (codes "recovery") words l
unfolding recovery_said
recovery_line_front words l e =
    let n = bind_some (numbered_said words) _ l e in
    let r = bind_some (recovery_by n.0.1 n.0.2) _ l n.1.1 in
    let fn = numbered_front words n.0.0 n.0.1 n.0.2 n.1.0 in
    let fr = recovery_front n.0.1 n.0.2 r.0 r.1.0 in
    subst (IsLine (codes "recovery") words) (some_value _ l r.1.1) (ap (λ k. words_text (codes "recovery" ∷ k)) (fn.0 ∙ ap (λ k. decimal n.0.0 ∷ k) fr.0), (fn.1, fr.1))

line_by_front : (w : LineWord) (words : List (List ℕ)) (l : ReportLine) → line_by w words ≡ Some l → IsLine (line_name w) words l
unfolding line_name
line_by_front begins.Replica words l e = replica_front words l e
line_by_front begins.Down words l e = down_front words l e
line_by_front begins.Answer words l e = answer_line_front words l e
line_by_front begins.Read words l e = read_line_front words l e
line_by_front begins.Recovery words l e = recovery_line_front words l e
line_by_front begins.End words l e =
    let m = no_more_front line.End words l e in
    subst (IsLine (codes "end") words) m.1 (ap (λ k. words_text (codes "end" ∷ k)) m.0, tt)

-- Words that say a line make its text, and it holds what its types may hold.
pub line_words_front : (words : List (List ℕ)) (l : ReportLine) → line_said words ≡ Some l → (words_text words ≡ words_text (line_words l)) × Holds l
unfolding line_said
line_words_front words l e =
    let w = bind_some (next (found line_name line_names) words) (λ w. line_by w.0 w.1) l e in
    let is = line_by_front w.0.0 w.0.1 l w.1.1 in
    (ap words_text (named_words line_name line_names words w.0.0 w.0.1 w.1.0) ∙ is.0, is.1)
