-- Where each command was answered well, each answer in the report is an `ok`.
use Rattle.std.proofs.Common.{◌≡◌, ◌+◌, ℕ, suc, zero, inl, inr, Bool, true, false, List, [], ◌∷◌, ◌++◌, length, slice_get, Option, Some, refl, sym, ap, subst, ◌∙◌, eqb-true, arith, length-append}
use Rattle.std.specs.Prelude.{◌==◌, if◌then◌else◌}
use Rattle.std.proofs.lemmas.Bool.{false≢true}
use Rattle.std.proofs.lemmas.List.{append_assoc}
use Rattle.std.proofs.lemmas.Option.{same_Some}
use Rattle.hd_base.specs.declared.numbers.NodeId.{NodeId}
use Rattle.hd_base.specs.declared.numbers.Stamp.{Stamp}
use Rattle.script_lang.specs.declared.instructions.Instruction.{Instruction}
use Rattle.script_lang.specs.declared.instructions.Instruction.TheVariants as says
use Rattle.script_lang.specs.declared.instructions.ScriptLine.{ScriptLine}
use Rattle.script_lang.specs.declared.report.Answer.{Answer}
use Rattle.script_lang.specs.declared.report.Answer.TheVariants as answer
use Rattle.script_lang.specs.declared.report.FlushResult.{FlushResult}
use Rattle.script_lang.specs.declared.report.FlushResult.TheVariants as flush
use Rattle.script_lang.specs.declared.report.ReportLine.{ReportLine}
use Rattle.script_lang.specs.declared.report.SetupResult.{SetupResult}
use Rattle.script_lang.specs.declared.report.SetupResult.TheVariants as setup
use Rattle.whole_play.proofs.WorldAcks.Frame.{has-either}
use Rattle.world.specs.Parts.{Said}
use Rattle.world.specs.Safe.{Has}
use Rattle.world.specs.Worlds.{World}
use Rattle.whole_play.proofs.WorldOrders.Kept.{eqb-itself}
use Rattle.writer_core.specs.declared.actions.ClientAnswer.{ClientAnswer}
use Rattle.writer_core.specs.declared.actions.ClientAnswer.TheVariants as client
use Rattle.writer_core.specs.declared.commands.Command.{Command}
use Rattle.writer_core.specs.declared.commands.Command.TheVariants as command
use Rattle.whole_play.specs.PlayCompleteness.Complete.{line_commands, commands_of, is_granted, is_reached, is_answered, is_done, IsDone, IsGood, AllDone, IsComplete}
use Rattle.whole_play.specs.PlayModel.Lines.{blocks_of}
use Rattle.whole_play.specs.PlayReport.Answers.{told, is_given, answer_line, answer_lines}
use Rattle.whole_play.specs.PlayReport.Reports.{all_answers}
use Rattle.whole_play.specs.PlayReport.Results.{answer_of, setup_result, flush_result}
use Rattle.dn_run.specs.Answers.{says_ok, is_ok_line, Completes}

-- WHAT IS TOLD

-- this was told, and is so
record GoodTold (P : ClientAnswer → Type 0) (o : Option ClientAnswer) : Type 0 where
  answer : ClientAnswer
  is : o ≡ Some answer
  good : P answer

found : (P : ClientAnswer → Type 0) (k : ℕ) (said : List Said) → ((s : Said) → Has said s → s.ordinal ≡ k → P s.answer) → (a : ClientAnswer) (place : ℕ) → slice_get said place ≡ Some (record { ordinal = k; answer = a }) → GoodTold P (told said k)
found P k [] h a place at = cc
found P k (s ∷ said) h a place at = by (s.ordinal == k) refl place at (λ n here. found P k said (λ t x. h t (record { place = suc x.place; there = x.there })) a n here)
  where
    here : (x : Said) → Some s ≡ Some x → s ≡ x
    here x e = cc

    never : false ≡ true → ⊥
    never e = cc

    by : (q : Bool) → (s.ordinal == k) ≡ q → (n : ℕ) → slice_get (s ∷ said) n ≡ Some (record { ordinal = k; answer = a }) → ((m : ℕ) → slice_get said m ≡ Some (record { ordinal = k; answer = a }) → GoodTold P (told said k)) → GoodTold P (if q then Some s.answer else told said k)
    by true e n at rest = record { answer = s.answer; is = refl; good = h s (record { place = 0; there = refl }) (eqb-true s.ordinal k e) }
    by false e zero at rest = absurd (never (sym e ∙ ap (λ (x : Said). x.ordinal == k) (here (record { ordinal = k; answer = a }) at) ∙ eqb-itself k))
    by false e (suc n) at rest = rest n at

-- what was told of a command that is answered
good-told : (commands : List Command) (said : List Said) (k : ℕ) (c : Command) → AllDone commands said → slice_get commands k ≡ Some c → is_answered c ≡ true → GoodTold (λ a. is_done c a ≡ true) (told said k)
good-told commands said k c all at answered =
    let done : IsDone said k c = all.each k c at answered in
    found (λ a. is_done c a ≡ true) k said (λ s has e. good s (all.only s has) e) done.answer done.is.place done.is.there
  where
    good : (s : Said) → IsGood commands s → s.ordinal ≡ k → is_done c s.answer ≡ true
    good s g e =
        let same : g.command ≡ c = same_Some g.command c (sym g.is ∙ (ap (λ (n : ℕ). slice_get commands n) e ∙ at)) in
        subst (λ (d : Command). is_done d s.answer ≡ true) same g.good

-- LINES

at-end : {A : Type 0} (xs : List A) (x : A) (ys : List A) → slice_get (xs ++ x ∷ ys) (length xs) ≡ Some x
at-end [] x ys = refl
at-end (y ∷ xs) x ys = at-end xs x ys

length-more : {A : Type 0} (xs : List A) (x : A) → length (xs ++ x ∷ []) ≡ length xs + 1
length-more xs x = omega (arith, length-append xs (x ∷ []))

-- each of these lines is an `ok`
abbrev AreOk : List ReportLine → Type 0
AreOk ls = (l : ReportLine) → Has ls l → is_ok_line l ≡ true

none-ok : AreOk []
none-ok l has = cc has.there

both-ok : (xs ys : List ReportLine) → AreOk xs → AreOk ys → AreOk (xs ++ ys)
both-ok xs ys h k l has =
    elim (has-either xs ys l has) [
      | inl x ↦ h l x
      | inr y ↦ k l y
    ]

one-ok : (x : ReportLine) → is_ok_line x ≡ true → AreOk (x ∷ [])
one-ok x h l has = at has.place has.there
  where
    same : Some x ≡ Some l → x ≡ l
    same e = cc

    at : (n : ℕ) → slice_get (x ∷ []) n ≡ Some l → is_ok_line l ≡ true
    at zero e = subst (λ (y : ReportLine). is_ok_line y ≡ true) (same e) h
    at (suc n) e = cc e

-- what became of a create or an append that was granted
setup-ok : (made : SetupResult → Answer) → ((stamp : Stamp) → says_ok (made (setup.Ok stamp)) ≡ true) → (b k : ℕ) (o : Option ClientAnswer) → GoodTold (λ a. is_granted a ≡ true) o → AreOk (answer_line b k (Some (made (setup_result o))))
setup-ok made ok b k o t = subst (λ (x : Option ClientAnswer). AreOk (answer_line b k (Some (made (setup_result x))))) (sym t.is) (by t.answer t.good)
  where
    by : (a : ClientAnswer) → is_granted a ≡ true → AreOk (answer_line b k (Some (made (setup_result (Some a)))))
    by (client.Granted stamp) h = one-ok _ (ok stamp)
    by (client.Reached bytes stamp members) h = absurd (false≢true h)
    by (client.Abandoned member) h = absurd (false≢true h)
    by (client.AllBad member) h = absurd (false≢true h)
    by (client.Lost recovery) h = absurd (false≢true h)
    by (client.Refused why) h = absurd (false≢true h)

-- what became of an hflush, an hsync or a close that was reached
flush-ok : (made : FlushResult → Answer) → ((bytes : ℕ) (stamp : Stamp) (members : List NodeId) → says_ok (made (flush.Ok bytes stamp members)) ≡ true) → (b k : ℕ) (o : Option ClientAnswer) → GoodTold (λ a. is_reached a ≡ true) o → AreOk (answer_line b k (Some (made (flush_result o))))
flush-ok made ok b k o t = subst (λ (x : Option ClientAnswer). AreOk (answer_line b k (Some (made (flush_result x))))) (sym t.is) (by t.answer t.good)
  where
    by : (a : ClientAnswer) → is_reached a ≡ true → AreOk (answer_line b k (Some (made (flush_result (Some a)))))
    by (client.Reached bytes stamp members) h = one-ok _ (ok bytes stamp members)
    by (client.Granted stamp) h = absurd (false≢true h)
    by (client.Abandoned member) h = absurd (false≢true h)
    by (client.AllBad member) h = absurd (false≢true h)
    by (client.Lost recovery) h = absurd (false≢true h)
    by (client.Refused why) h = absurd (false≢true h)

module _ (b : ℕ) (said : List Said) where
  -- a line that gives the block a command, or another one
  step : (q : Bool) (c : Command) (tells : Option ClientAnswer → List ReportLine) → (is_answered c ≡ true → (o : Option ClientAnswer) → GoodTold (λ a. is_done c a ≡ true) o → AreOk (tells o)) → (is_answered c ≡ false → (o : Option ClientAnswer) → AreOk (tells o)) → (lines : List ScriptLine) (xs : List Command) → AllDone (xs ++ ((if q then c ∷ [] else []) ++ commands_of b lines)) said
      → ((ys : List Command) → AllDone (ys ++ commands_of b lines) said → AreOk (answer_lines b said (length ys) lines)) → AreOk ((if q then tells (told said (length xs)) else []) ++ answer_lines b said (if q then length xs + 1 else length xs) lines)
  step true c tells ok nothing lines xs all rest =
      both-ok (tells (told said (length xs))) (answer_lines b said (length xs + 1) lines) (now (is_answered c) refl)
      (subst (λ (n : ℕ). AreOk (answer_lines b said n lines)) (length-more xs c) (rest (xs ++ c ∷ []) (subst (λ (cs : List Command). AllDone cs said) (sym (append_assoc xs (c ∷ []) (commands_of b lines))) all)))
    where
      now : (r : Bool) → is_answered c ≡ r → AreOk (tells (told said (length xs)))
      now true e = ok e (told said (length xs)) (good-told (xs ++ c ∷ commands_of b lines) said (length xs) c all (at-end xs c (commands_of b lines)) e)
      now false e = nothing e (told said (length xs))
  step false c tells ok nothing lines xs all rest = both-ok [] (answer_lines b said (length xs) lines) none-ok (rest xs all)

  lines-ok : (lines : List ScriptLine) (xs : List Command) → AllDone (xs ++ commands_of b lines) said → AreOk (answer_lines b said (length xs) lines)
  lines-ok [] xs all = none-ok
  lines-ok (l ∷ lines) xs all = by l.instruction all (λ ys a. lines-ok lines ys a)
    where
      Step : Instruction → Type 0
      Step i = AllDone (xs ++ (line_commands b i ++ commands_of b lines)) said → ((ys : List Command) → AllDone (ys ++ commands_of b lines) said → AreOk (answer_lines b said (length ys) lines)) → AreOk ((if is_given b i then answer_line b (length xs) (answer_of i (told said (length xs))) else []) ++ answer_lines b said (if is_given b i then length xs + 1 else length xs) lines)

      tells : Instruction → Option ClientAnswer → List ReportLine
      tells i o = answer_line b (length xs) (answer_of i o)

      none : (i : Instruction) → ((o : Option ClientAnswer) → answer_line b (length xs) (answer_of i o) ≡ []) → (o : Option ClientAnswer) → AreOk (tells i o)
      none i e o = subst AreOk (sym (e o)) none-ok

      by : (i : Instruction) → Step i
      by (says.Create at members) a rest = step (at.0 == b) (command.Create members) (tells (says.Create at members)) (λ e o t. setup-ok answer.Create (λ stamp. refl) b (length xs) o t) (λ e. absurd (false≢true (sym e))) lines xs a rest
      by (says.Append at members) a rest = step (at.0 == b) (command.Append members) (tells (says.Append at members)) (λ e o t. setup-ok answer.Append (λ stamp. refl) b (length xs) o t) (λ e. absurd (false≢true (sym e))) lines xs a rest
      by (says.Write at bytes) a rest = step (at.0 == b) (command.Write bytes) (tells (says.Write at bytes)) (λ e. absurd (false≢true e)) (λ e. none (says.Write at bytes) (λ o. refl)) lines xs a rest
      by (says.Fill at count) a rest = step (at.0 == b) (command.Fill count) (tells (says.Fill at count)) (λ e. absurd (false≢true e)) (λ e. none (says.Fill at count) (λ o. refl)) lines xs a rest
      by (says.Hflush at) a rest = step (at.0 == b) command.Hflush (tells (says.Hflush at)) (λ e o t. flush-ok answer.Hflush (λ n stamp members. refl) b (length xs) o t) (λ e. absurd (false≢true (sym e))) lines xs a rest
      by (says.Hsync at) a rest = step (at.0 == b) command.Hsync (tells (says.Hsync at)) (λ e o t. flush-ok answer.Hsync (λ n stamp members. refl) b (length xs) o t) (λ e. absurd (false≢true (sym e))) lines xs a rest
      by (says.Close at) a rest = step (at.0 == b) command.Close (tells (says.Close at)) (λ e o t. flush-ok answer.Close (λ n stamp members. refl) b (length xs) o t) (λ e. absurd (false≢true (sym e))) lines xs a rest
      by (says.Nodes count) a rest = rest xs a
      by (says.Seed seed) a rest = rest xs a
      by (says.Sums at rule) a rest = rest xs a
      by (says.Read at node offset count) a rest = rest xs a
      by (says.Recover at node members) a rest = rest xs a
      by (says.Cut at connection down up) a rest = rest xs a
      by (says.Fault node nth) a rest = rest xs a
      by (says.Stop node) a rest = rest xs a
      by (says.Start node) a rest = rest xs a
      by (says.Run count) a rest = rest xs a
      by says.Settle a rest = rest xs a
      by (says.Step at event) a rest = rest xs a
      by (says.Expect node at state stamp written) a rest = rest xs a

-- PLAYS

blocks-ok : (w : World) (lines : List ScriptLine) → ((b : ℕ) → AllDone (commands_of b lines) (w.said b)) → (blocks : List ℕ) → AreOk (all_answers w blocks lines)
blocks-ok w lines all [] = none-ok
blocks-ok w lines all (b ∷ blocks) =
    both-ok (answer_lines b (w.said b) 0 lines) (all_answers w blocks lines) (lines-ok b (w.said b) lines [] (all b)) (blocks-ok w lines all blocks)

pub completes : (lines : List ScriptLine) (w : World) → IsComplete lines w → Completes lines w
completes lines w h = record { complete = h; answers = blocks-ok w lines h.answers (blocks_of lines) }
