-- What was read is the one script that the text is, and what was refused is refused for its first bad line and first broken rule.
use Rattle.std.proofs.Common.{◌≡◌, ◌⊎◌, ℕ, ◌+◌, ◌<◌, nat_le, Bool, true, false, cond, List, [], ◌∷◌, ◌++◌, length, Option, Some, None, Result, Ok, Err, IfOk, IfErr, inl, inr, refl, sym, ◌∙◌, ap, subst, arith, append_assoc, append-nil}
use Rattle.std.proofs.lemmas.Bool.Decides.{nat_tests}
use Rattle.std.proofs.lemmas.Bool.{leb-true}
use Rattle.hd_base.specs.Results.{with_cause}
use Rattle.hd_base.proofs.ResultLaws.{bind-Ok, bind-Err, ok_value, err_value, err_ok}
use Rattle.script_lang.specs.declared.faults.BadKind.{BadKind}
use Rattle.script_lang.specs.declared.faults.BadKind.TheVariants as kind
use Rattle.script_lang.specs.declared.faults.ScriptError.{ScriptError}
use Rattle.script_lang.specs.declared.faults.ScriptError.TheVariants as error
use Rattle.script_lang.specs.declared.instructions.Instruction.{Instruction}
use Rattle.script_lang.specs.declared.instructions.ScriptLine.{ScriptLine}
use Rattle.script_lang.specs.Rules.{by_rules, AllKept, BreaksFirst}
use Rattle.script_lang.specs.Words.{lines_of}
use Rattle.script_lang.specs.Fits.{Before, start, fit_rules, after, taken}
use Rattle.script_lang.specs.Scripts.{line_said, told, line_told, script_from, script_of, head_is_there, most_size, Reads}
use Rattle.script_lang.specs.Grammar.{numbered, AreGood, IsScript, Breaks, FirstBad, IsBad, IsBadFor}

-- ---- rules

pub all_kept : {A : Type 0} (rules : List (BadKind × Bool)) (v : A) → AllKept rules → by_rules rules v ≡ Ok v
all_kept [] v k = refl
all_kept (rule ∷ rules) v k = rw k.0 (all_kept rules v k.1)

pub broken : {A : Type 0} (rules : List (BadKind × Bool)) (v : A) (why : BadKind) → BreaksFirst rules why → by_rules rules v ≡ Err why
broken [] v why b = absurd b
broken (rule ∷ rules) v why b =
    elim b [
      | inl here ↦ rw here.0 (ap Err (sym here.1))
      | inr later ↦ rw later.0 (broken rules v why later.1)
    ]

-- ---- a line

good_line : (shelves number : ℕ) (before : Before) (said : List ScriptLine) (line : List ℕ) (i : Instruction) → line_said shelves number before line ≡ Ok (Some i) → AllKept (fit_rules before i) → line_told shelves number before said line ≡ Ok (after before i, said ++ numbered number i ∷ [])
unfolding line_told
good_line shelves number before said line i e k =
    bind-Ok (line_said shelves number before line) (told number before said) (Some i) e
    ∙ bind-Ok (taken before i) (λ next. Ok (next, said ++ numbered number i ∷ [])) (after before i) (all_kept (fit_rules before i) (after before i) k)

silent_line : (shelves number : ℕ) (before : Before) (said : List ScriptLine) (line : List ℕ) → line_said shelves number before line ≡ Ok None → line_told shelves number before said line ≡ Ok (before, said)
unfolding line_told
silent_line shelves number before said line e = bind-Ok (line_said shelves number before line) (told number before said) None e

bad_line : (shelves number : ℕ) (before : Before) (said : List ScriptLine) (line : List ℕ) (why : BadKind) → Breaks shelves number before line why → line_told shelves number before said line ≡ Err why
unfolding line_told
bad_line shelves number before said line why b =
    elim b [
      | inl itself ↦ bind-Err (line_said shelves number before line) (told number before said) why itself
      | inr fits ↦
          bind-Ok (line_said shelves number before line) (told number before said) (Some fits.0) fits.1
          ∙ bind-Err (taken before fits.0) (λ next. Ok (next, said ++ numbered number fits.0 ∷ [])) why (broken (fit_rules before fits.0) (after before fits.0) why fits.2)
    ]

-- ---- lines

goes_on : (shelves number : ℕ) (before next : Before) (said more : List ScriptLine) (line : List ℕ) (lines : List (List ℕ)) → line_told shelves number before said line ≡ Ok (next, more) → script_from shelves number before said (line ∷ lines) ≡ script_from shelves (number + 1) next more lines
unfolding script_from
goes_on shelves number before next said more line lines e = bind-Ok (with_cause (λ k. (number, k)) (line_told shelves number before said line)) _ (next, more) (ap (with_cause (λ k. (number, k))) e)

stops : (shelves number : ℕ) (before : Before) (said : List ScriptLine) (line : List ℕ) (lines : List (List ℕ)) (why : BadKind) → line_told shelves number before said line ≡ Err why → script_from shelves number before said (line ∷ lines) ≡ Err (number, why)
unfolding script_from
stops shelves number before said line lines why e = bind-Err (with_cause (λ k. (number, k)) (line_told shelves number before said line)) _ (number, why) (ap (with_cause (λ k. (number, k))) e)

-- the end of the lines
ends : (shelves number : ℕ) (before : Before) (said : List ScriptLine) → head_is_there before.head ≡ true → script_from shelves number before said [] ≡ Ok said
unfolding script_from
ends shelves number before said h = rw h refl

lacks : (shelves number : ℕ) (before : Before) (said : List ScriptLine) → head_is_there before.head ≡ false → script_from shelves number before said [] ≡ Err (number, kind.Head)
unfolding script_from
lacks shelves number before said h = rw h refl

-- good lines are read
good_read : (shelves number : ℕ) (before : Before) (lines : List (List ℕ)) (said rest : List ScriptLine) → AreGood shelves number before lines rest → script_from shelves number before said lines ≡ Ok (said ++ rest)
good_read shelves number before [] said rest g = ends shelves number before said g.1 ∙ ap Ok (sym (ap (λ l. said ++ l) g.0 ∙ append-nil said))
good_read shelves number before (line ∷ lines) said rest g =
    elim g [
      | inl silent ↦ goes_on shelves number before before said said line lines (silent_line shelves number before said line silent.0) ∙ good_read shelves (number + 1) before lines said rest silent.1
      | inr one ↦
          goes_on shelves number before (after before one.0) said (said ++ numbered number one.0 ∷ []) line lines (good_line shelves number before said line one.0 one.2 one.3)
          ∙ (good_read shelves (number + 1) (after before one.0) lines (said ++ numbered number one.0 ∷ []) one.1 one.5
          ∙ ap Ok (append_assoc said (numbered number one.0 ∷ []) one.1 ∙ ap (λ l. said ++ l) (sym one.4)))
    ]

-- a first bad line is refused
bad_read : (shelves number : ℕ) (before : Before) (lines : List (List ℕ)) (said : List ScriptLine) (bad : ℕ) (why : BadKind) → FirstBad shelves number before lines bad why → script_from shelves number before said lines ≡ Err (bad, why)
bad_read shelves number before [] said bad why f = lacks shelves number before said f.2 ∙ ap Err (ap (λ (n : ℕ). (n, kind.Head)) (sym f.0) ∙ ap (λ (k : BadKind). (bad, k)) (sym f.1))
bad_read shelves number before (line ∷ lines) said bad why f =
    elim f [
      | inl here ↦ stops shelves number before said line lines why (bad_line shelves number before said line why here.1) ∙ ap (λ (n : ℕ). Err (n, why)) (sym here.0)
      | inr later ↦
          elim later [
            | inl silent ↦ goes_on shelves number before before said said line lines (silent_line shelves number before said line silent.0) ∙ bad_read shelves (number + 1) before lines said bad why silent.1
            | inr one ↦
                goes_on shelves number before (after before one.0) said (said ++ numbered number one.0 ∷ []) line lines (good_line shelves number before said line one.0 one.1 one.2)
                ∙ bad_read shelves (number + 1) (after before one.0) lines (said ++ numbered number one.0 ∷ []) bad why one.3
          ]
    ]

-- ---- and the other way round

-- each rule is kept, or one is the first that is broken
tried : (rules : List (BadKind × Bool)) → AllKept rules ⊎ ((why : BadKind) × BreaksFirst rules why)
tried [] = inl tt
tried (rule ∷ rules) = first rule.1 refl (tried rules) where
  first : (b : Bool) → rule.1 ≡ b → AllKept rules ⊎ ((why : BadKind) × BreaksFirst rules why) → AllKept (rule ∷ rules) ⊎ ((why : BadKind) × BreaksFirst (rule ∷ rules) why)
  first true e more = elim more [ inl all ↦ inl (e, all) | inr b ↦ inr (b.0, inr (e, b.1)) ]
  first false e more = inr (rule.0, inl (e, refl))

-- a line says nothing, or says something that fits, or breaks a rule
abbrev Looked : ℕ → ℕ → Before → List ℕ → Type 0
Looked shelves number before line =
    (line_said shelves number before line ≡ Ok None)
    ⊎ (((i : Instruction) × (line_said shelves number before line ≡ Ok (Some i)) × AllKept (fit_rules before i))
    ⊎ ((why : BadKind) × Breaks shelves number before line why))

looked : (shelves number : ℕ) (before : Before) (line : List ℕ) → Looked shelves number before line
looked shelves number before line = at (line_said shelves number before line) refl where
  at : (r : Result (Option Instruction) BadKind) → line_said shelves number before line ≡ r → Looked shelves number before line
  at (Err why) e = inr (inr (why, inl e))
  at (Ok None) e = inl e
  at (Ok (Some i)) e = elim (tried (fit_rules before i)) [ inl all ↦ inr (inl (i, e, all)) | inr b ↦ inr (inr (b.0, inr (i, e, b.1))) ]

-- what was read, behind what was said before
abbrev Read : ℕ → ℕ → Before → List (List ℕ) → List ScriptLine → List ScriptLine → Type 0
Read shelves number before lines said all = (rest : List ScriptLine) × (all ≡ said ++ rest) × AreGood shelves number before lines rest

no_read : (e : ℕ × BadKind) (r : Result (List ScriptLine) (ℕ × BadKind)) (all : List ScriptLine) → r ≡ Err e → r ≡ Ok all → ⊥
no_read e r all f g = err_ok e all (sym f ∙ g)

read_good : (shelves number : ℕ) (before : Before) (lines : List (List ℕ)) (said all : List ScriptLine) → script_from shelves number before said lines ≡ Ok all → Read shelves number before lines said all
read_good shelves number before [] said all e = at (head_is_there before.head) refl where
  at : (b : Bool) → head_is_there before.head ≡ b → Read shelves number before [] said all
  at true h = ([], sym (ok_value said all (sym (ends shelves number before said h) ∙ e)) ∙ sym (append-nil said), (refl, h))
  at false h = absurd (no_read (number, kind.Head) (script_from shelves number before said []) all (lacks shelves number before said h) e)
read_good shelves number before (line ∷ lines) said all e = at (looked shelves number before line) (λ b s f. read_good shelves (number + 1) b lines s all f) where
  at : Looked shelves number before line → ((b : Before) (s : List ScriptLine) → script_from shelves (number + 1) b s lines ≡ Ok all → Read shelves (number + 1) b lines s all) → Read shelves number before (line ∷ lines) said all
  at l more =
      elim l [
        | inl silent ↦
            let r = more before said (sym (goes_on shelves number before before said said line lines (silent_line shelves number before said line silent)) ∙ e) in
            (r.0, r.1, inl (silent, r.2))
        | inr other ↦
            elim other [
              | inl one ↦
                  let r = more (after before one.0) (said ++ numbered number one.0 ∷ []) (sym (goes_on shelves number before (after before one.0) said (said ++ numbered number one.0 ∷ []) line lines (good_line shelves number before said line one.0 one.1 one.2)) ∙ e) in
                  (numbered number one.0 ∷ r.0, r.1 ∙ append_assoc said (numbered number one.0 ∷ []) r.0, inr (one.0, r.0, one.1, one.2, refl, r.2))
              | inr bad ↦ absurd (no_read (number, bad.0) (script_from shelves number before said (line ∷ lines)) all (stops shelves number before said line lines bad.0 (bad_line shelves number before said line bad.0 bad.1)) e)
            ]
      ]

pair_parts : (n m : ℕ) (k l : BadKind) (r : Result (List ScriptLine) (ℕ × BadKind)) → r ≡ Err (n, k) → r ≡ Err (m, l) → (m ≡ n) × (l ≡ k)
pair_parts n m k l r e f =
    let a : ℕ × BadKind = (n, k) in
    let b : ℕ × BadKind = (m, l) in
    let p : b ≡ a = err_value b a (sym f ∙ e) in
    (ap (λ (q : ℕ × BadKind). q.0) p, ap (λ (q : ℕ × BadKind). q.1) p)

read_bad : (shelves number : ℕ) (before : Before) (lines : List (List ℕ)) (said : List ScriptLine) (bad : ℕ) (why : BadKind) → script_from shelves number before said lines ≡ Err (bad, why) → FirstBad shelves number before lines bad why
read_bad shelves number before [] said bad why e = at (head_is_there before.head) refl where
  at : (b : Bool) → head_is_there before.head ≡ b → FirstBad shelves number before [] bad why
  at true h = absurd (no_read (bad, why) (script_from shelves number before said []) said e (ends shelves number before said h))
  at false h = let p = pair_parts number bad kind.Head why (script_from shelves number before said []) (lacks shelves number before said h) e in (p.0, p.1, h)
read_bad shelves number before (line ∷ lines) said bad why e = at (looked shelves number before line) (λ b s f. read_bad shelves (number + 1) b lines s bad why f) where
  at : Looked shelves number before line → ((b : Before) (s : List ScriptLine) → script_from shelves (number + 1) b s lines ≡ Err (bad, why) → FirstBad shelves (number + 1) b lines bad why) → FirstBad shelves number before (line ∷ lines) bad why
  at l more =
      elim l [
        | inl silent ↦ inr (inl (silent, more before said (sym (goes_on shelves number before before said said line lines (silent_line shelves number before said line silent)) ∙ e)))
        | inr other ↦
            elim other [
              | inl one ↦ inr (inr (one.0, one.1, one.2, more (after before one.0) (said ++ numbered number one.0 ∷ []) (sym (goes_on shelves number before (after before one.0) said (said ++ numbered number one.0 ∷ []) line lines (good_line shelves number before said line one.0 one.1 one.2)) ∙ e)))
              | inr b ↦
                  let p = pair_parts number bad b.0 why (script_from shelves number before said (line ∷ lines)) (stops shelves number before said line lines b.0 (bad_line shelves number before said line b.0 b.1)) e in
                  inl (p.0, subst (λ k. Breaks shelves number before line k) (sym p.1) b.1)
            ]
      ]

-- ---- whole texts

pub script_read : (shelves : ℕ) (text : List ℕ) (said : List ScriptLine) → IsScript shelves text said → script_of shelves text ≡ Ok said
unfolding script_of
script_read shelves text said s =
    let short : nat_le (length text) most_size ≡ true = grind (arith, nat_tests, s.size) in
    rw short (good_read shelves 1 start (lines_of text) [] said s.good)

pub bad_refused : (shelves : ℕ) (text : List ℕ) (bad : ℕ) (why : BadKind) → IsBad shelves text bad why → script_of shelves text ≡ Err (bad, why)
unfolding script_of
bad_refused shelves text bad why b =
    elim b [
      | inl long ↦
          let far : nat_le (length text) most_size ≡ false = grind (arith, nat_tests, long.0) in
          rw far (ap Err (ap (λ (n : ℕ). (n, kind.TooLong)) (sym long.1) ∙ ap (λ (k : BadKind). (bad, k)) (sym long.2)))
      | inr first ↦
          let short : nat_le (length text) most_size ≡ true = grind (arith, nat_tests, first.0) in
          rw short (bad_read shelves 1 start (lines_of text) [] bad why first.1)
    ]

pub read_is : (shelves : ℕ) (text : List ℕ) (said : List ScriptLine) → script_of shelves text ≡ Ok said → IsScript shelves text said
unfolding script_of
read_is shelves text said e = at (nat_le (length text) most_size) refl e where
  at : (b : Bool) → nat_le (length text) most_size ≡ b → cond b (script_from shelves 1 start [] (lines_of text)) (Err (0, kind.TooLong)) ≡ Ok said → IsScript shelves text said
  at true h e = let r = read_good shelves 1 start (lines_of text) [] said e in record { size = leb-true (length text) most_size h; good = subst (λ l. AreGood shelves 1 start (lines_of text) l) (sym r.1) r.2 }
  at false h e = absurd (err_ok (0, kind.TooLong) said e)

pub refused_is : (shelves : ℕ) (text : List ℕ) (bad : ℕ) (why : BadKind) → script_of shelves text ≡ Err (bad, why) → IsBad shelves text bad why
unfolding script_of
refused_is shelves text bad why e = at (nat_le (length text) most_size) refl e where
  at : (b : Bool) → nat_le (length text) most_size ≡ b → cond b (script_from shelves 1 start [] (lines_of text)) (Err (0, kind.TooLong)) ≡ Err (bad, why) → IsBad shelves text bad why
  at true h e = inr (leb-true (length text) most_size h, read_bad shelves 1 start (lines_of text) [] bad why e)
  at false h e =
      let p = pair_parts 0 bad kind.TooLong why (Err (0, kind.TooLong)) refl e in
      let far : most_size < length text = grind (arith, nat_tests, h) in
      inl (far, p.0, p.1)

-- ---- what a reader answers

pub answer_found : (shelves : ℕ) (text : List ℕ) (r : Result (List ScriptLine) ScriptError) → Reads r (script_of shelves text) → IfOk r (λ said. IsScript shelves text said)
answer_found shelves text (Ok said) e = read_is shelves text said e
answer_found shelves text (Err f) e = tt

pub answer_only : (shelves : ℕ) (text : List ℕ) (r : Result (List ScriptLine) ScriptError) (said : List ScriptLine) → Reads r (script_of shelves text) → IsScript shelves text said → Reads r (Ok said)
answer_only shelves text r said e s = subst (λ o. Reads r o) (script_read shelves text said s) e

pub answer_bad : (shelves : ℕ) (text : List ℕ) (r : Result (List ScriptLine) ScriptError) → Reads r (script_of shelves text) → IfErr r (IsBadFor shelves text)
answer_bad shelves text (Ok said) e = tt
answer_bad shelves text (Err (error.Bad line why)) e = refused_is shelves text line why e
answer_bad shelves text (Err error.Memory) e = tt

pub answer_refuses : (shelves : ℕ) (text : List ℕ) (r : Result (List ScriptLine) ScriptError) (line : ℕ) (why : BadKind) → Reads r (script_of shelves text) → IsBad shelves text line why → Reads r (Err (line, why))
answer_refuses shelves text r line why e b = subst (λ o. Reads r o) (bad_refused shelves text line why b) e
