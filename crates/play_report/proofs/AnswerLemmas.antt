-- The answers to a block's commands, one by one.
use Rattle.std.proofs.Common.{◌≡◌, ◌<◌, ◌≤◌, ◌+◌, ◌-◌, ◌==◌, ℕ, zero, suc, Bool, true, false, cond, List, [], ◌∷◌, ◌++◌, length, get_or, take, drop, slice_get, Option, Some, None, refl, sym, ap, subst, ◌∙◌, arith, append_assoc}
use Rattle.std.specs.Prelude.{flat_map, option_map, is_some, IfSome, nat_lt}
use Rattle.std.specs.Borrow.{Bor}
use Rattle.std.proofs.lemmas.Bool.{ltb-true}
use Rattle.std.proofs.lemmas.Bool.Decides.{nat_tests}
use Rattle.std.specs.Option.{option_copied}
use Rattle.std.proofs.lemmas.List.{append-nil, at_drop_all, drop_more}
use Rattle.std.proofs.lemmas.List.Concat.{flat_map-append}
use Rattle.play_clients.specs.ClientEvents.Said.{Said}
use Rattle.play_scripts.proofs.NodeOpening.ListLemmas.{take_next}
use Rattle.play_scripts.proofs.PlayNodes.PlaceLaws.{element_within, element_none, element_some}
use Rattle.play_clients.specs.declared.clients.Client.{Client}
use Rattle.script_lang.specs.declared.instructions.ScriptLine.{ScriptLine}
use Rattle.script_lang.specs.declared.report.ReportLine.{ReportLine}
use Rattle.world.specs.Parts as parts
use Rattle.writer_core.specs.declared.actions.ClientAnswer.{ClientAnswer}
use Rattle.play_report.specs.Results.{answer_of}
use Rattle.play_report.specs.Answers.{told, answer_at, said_in, is_given, answer_line, line_answers, next_ordinal, answer_lines, client_lines}
use Rattle.play_report.proofs.AppendLemmas.{next_appended}

-- LISTS

-- the element at an index begins what is left
pub drop_at : {A : Type 0} (xs : List A) (k : ℕ) (x : A) → slice_get xs k ≡ Some x → drop k xs ≡ x ∷ drop (k + 1) xs
drop_at {A} xs k x at = drop_more xs k x (element_within xs k x at) ∙ ap (λ (y : A). y ∷ drop (k + 1) xs) (is xs k x at)
  where
    is : {A : Type 0} (xs : List A) (k : ℕ) (x : A) → slice_get xs k ≡ Some x → get_or xs k x ≡ x
    is [] k x h = cc
    is (y ∷ xs) zero x h = cc
    is (y ∷ xs) (suc k) x h = is xs k x h

-- WHERE ANSWERS STAND

-- what stands at an option's place
at_cond : (said : List Said) (t : Bool) (a b : Option ℕ) → answer_at said (cond t a b) ≡ cond t (answer_at said a) (answer_at said b)
at_cond said true a b = refl
at_cond said false a b = refl

cond_same : {A : Type 0} (t : Bool) (a b c d : A) → a ≡ c → b ≡ d → cond t a b ≡ cond t c d
cond_same true a b c d e f = e
cond_same false a b c d e f = f

here : (said : List Said) (k : ℕ) (s : Said) → slice_get said k ≡ Some s → answer_at said (Some k) ≡ Some s.answer
here said k s at = ap (λ (o : Option Said). option_map (λ (x : Said). x.answer) o) at

-- One answer more stands in the table: that at a place before all others.
pub placed_more : (said : List Said) (old new : ℕ → Option ℕ) (k : ℕ) (s : Said) → slice_get said k ≡ Some s → drop k said ≡ s ∷ drop (k + 1) said
    → ((q : ℕ) → new q ≡ cond (s.ordinal == q) (Some k) (old q)) → ((q : ℕ) → answer_at said (old q) ≡ told (said_in (drop (k + 1) said)) q)
    → (q : ℕ) → answer_at said (new q) ≡ told (said_in (drop k said)) q
placed_more said old new k s at rest sets h q =
    ap (λ (o : Option ℕ). answer_at said o) (sets q) ∙ (at_cond said (s.ordinal == q) (Some k) (old q) ∙
    (cond_same (s.ordinal == q) (answer_at said (Some k)) (answer_at said (old q)) (Some s.answer) (told (said_in (drop (k + 1) said)) q) (here said k s at) (h q) ∙
    ap (λ (xs : List Said). told (said_in xs) q) (sym rest)))

-- Behind the last answer there is none.
pub placed_none : (said : List Said) (k : ℕ) (o : Option ℕ) (q : ℕ) → length said ≤ k → o ≡ None → answer_at said o ≡ told (said_in (drop k said)) q
placed_none said k o q past e = ap (λ (p : Option ℕ). answer_at said p) e ∙ sym (at_drop_all (λ (xs : List Said). told (said_in xs) q) said k past)

-- The same before a place.
pub placed_before : (said : List Said) (old new : ℕ → Option ℕ) (p : ℕ) (s : Said) → 0 < p → slice_get said (p - 1) ≡ Some s
    → ((q : ℕ) → new q ≡ cond (s.ordinal == q) (Some (p - 1)) (old q)) → ((q : ℕ) → answer_at said (old q) ≡ told (said_in (drop p said)) q)
    → (q : ℕ) → answer_at said (new q) ≡ told (said_in (drop (p - 1) said)) q
placed_before said old new p s some at sets h =
    let back : p ≡ (p - 1) + 1 = omega arith in
    placed_more said old new (p - 1) s at (drop_at said (p - 1) s at) sets (λ q. h q ∙ ap (λ (m : ℕ). told (said_in (drop m said)) q) back)

-- What `get` finds is the element.
pub got_is : {A : Type 0} (xs : List A) (k : ℕ) (r : Option (Bor A)) → is_some r ≡ nat_lt k (length xs) → IfSome r (λ (x : Bor A). x.now ≡ get_or xs k x.now) → option_copied r ≡ slice_get xs k
got_is xs k None e h = sym (element_none xs k (grind (arith, nat_tests, e)))
got_is xs k (Some x) e h = sym (element_some xs k x.now (ltb-true k (length xs) (sym e)) h)

-- ONE LINE

-- What a line's command was answered is appended.
pub line_appended : (all mid new : List ReportLine) (b : ℕ) (said : List parts.Said) (n next : ℕ) (l : ScriptLine) (lines : List ScriptLine) (k : ℕ) (o : Option ClientAnswer)
    → drop k lines ≡ l ∷ drop (k + 1) lines → o ≡ told said n → next ≡ next_ordinal b n l
    → mid ++ answer_lines b said n (drop k lines) ≡ all → new ≡ mid ++ line_answers b n l o
    → new ++ answer_lines b said next (drop (k + 1) lines) ≡ all
line_appended all mid new b said n next l lines k o is told_is next_is h e =
    next_appended all mid new (line_answers b n l (told said n)) (answer_lines b said next (drop (k + 1) lines))
    (ap (λ (xs : List ReportLine). mid ++ xs)
    (ap (λ (m : ℕ). line_answers b n l (told said n) ++ answer_lines b said m (drop (k + 1) lines)) next_is ∙ sym (ap (λ (ls : List ScriptLine). answer_lines b said n ls) is)) ∙ h)
    (e ∙ ap (λ (p : Option ClientAnswer). mid ++ line_answers b n l p) told_is)

-- There are no more commands than lines.
pub next_within : (b n next i : ℕ) (l : ScriptLine) → next ≡ next_ordinal b n l → n ≤ i → next ≤ i + 1
next_within b n next i l e h = subst (λ (m : ℕ). m ≤ i + 1) (sym e) (within (is_given b l.instruction))
  where
    within : (t : Bool) → cond t (n + 1) n ≤ i + 1
    within true = omega arith
    within false = omega arith

-- One line of the two ways.
pub given_line : (b n : ℕ) (l : ScriptLine) (o : Option ClientAnswer) (t : Bool) → is_given b l.instruction ≡ t → line_answers b n l o ≡ cond t (answer_line b n (answer_of l.instruction o)) []
given_line b n l o t e = ap (λ (q : Bool). cond q (answer_line b n (answer_of l.instruction o)) []) e

pub given_next : (b n : ℕ) (l : ScriptLine) (t : Bool) → is_given b l.instruction ≡ t → next_ordinal b n l ≡ cond t (n + 1) n
given_next b n l t e = ap (λ (q : Bool). cond q (n + 1) n) e

-- Behind the last line all is appended.
pub answers_end : (all out : List ReportLine) (b : ℕ) (said : List parts.Said) (n : ℕ) (lines : List ScriptLine) (k : ℕ) → length lines ≤ k
    → out ++ answer_lines b said n (drop k lines) ≡ all → out ≡ all
answers_end all out b said n lines k past h =
    sym (append-nil out) ∙ (ap (λ (xs : List ReportLine). out ++ xs) (sym (at_drop_all (λ (ls : List ScriptLine). answer_lines b said n ls) lines k past)) ∙ h)

-- ALL CLIENTS

module _ {I O : Type 0} where
  -- One client more.
  pub clients_more : (old mid new : List ReportLine) (lines : List ScriptLine) (clients : List (Client I O)) (k : ℕ) (c : Client I O) → slice_get clients k ≡ Some c
      → mid ≡ old ++ flat_map (λ (c : Client I O). client_lines lines c) (take k clients) → new ≡ mid ++ client_lines lines c
      → new ≡ old ++ flat_map (λ (c : Client I O). client_lines lines c) (take (k + 1) clients)
  clients_more old mid new lines clients k c at h e =
      e ∙ (ap (λ (t : List ReportLine). t ++ client_lines lines c) h ∙ (append_assoc old (front (take k clients)) (client_lines lines c) ∙
      ap (λ (t : List ReportLine). old ++ t) (more clients k c at)))
    where
      front : List (Client I O) → List ReportLine
      front cs = flat_map (λ (c : Client I O). client_lines lines c) cs

      more : (cs : List (Client I O)) (k : ℕ) (c : Client I O) → slice_get cs k ≡ Some c → front (take k cs) ++ client_lines lines c ≡ front (take (k + 1) cs)
      more cs k c at =
          sym (ap front (ap (λ (n : ℕ). take n cs) (one k) ∙ take_next cs k c at) ∙ (flat_map-append (λ (x : Client I O). client_lines lines x) (take k cs) (c ∷ []) ∙
          ap (λ (ys : List ReportLine). front (take k cs) ++ ys) (append-nil (client_lines lines c))))
        where
          one : (n : ℕ) → n + 1 ≡ suc n
          one n = omega arith
