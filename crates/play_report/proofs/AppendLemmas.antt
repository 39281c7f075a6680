-- Lines that are appended, part by part.
use Rattle.std.proofs.Common.{◌≡◌, ◌<◌, ◌+◌, ℕ, zero, suc, List, [], ◌++◌, refl, sym, ap, ◌∙◌, arith, append_assoc, add-one}
use Rattle.std.proofs.lemmas.List.{append-nil}
use Rattle.play_clients.specs.PlayModel.Dues.{upto}
use Rattle.script_lang.specs.declared.report.ReportLine.{ReportLine}

pub none_appended : (old : List ReportLine) → old ≡ old ++ []
none_appended old = sym (append-nil old)

-- Lines were appended, and these come next.
pub next_appended : (all mid new xs ys : List ReportLine) → mid ++ (xs ++ ys) ≡ all → new ≡ mid ++ xs → new ++ ys ≡ all
next_appended all mid new xs ys h e = ap (λ (t : List ReportLine). t ++ ys) e ∙ (append_assoc mid xs ys ∙ h)

-- So many are appended, and then one part more.
pub part_appended : (old mid new : List ReportLine) (f : ℕ → List ReportLine) (n : ℕ) → mid ≡ old ++ upto f n → new ≡ mid ++ f n → new ≡ old ++ upto f (n + 1)
part_appended old mid new f n h e =
    e ∙ (ap (λ (t : List ReportLine). t ++ f n) h ∙ (append_assoc old (upto f n) (f n) ∙ rw add-one refl))

-- the same where the part has no lines
pub part_empty : (old mid : List ReportLine) (f : ℕ → List ReportLine) (n : ℕ) → mid ≡ old ++ upto f n → f n ≡ [] → mid ≡ old ++ upto f (n + 1)
part_empty old mid f n h e = part_appended old mid mid f n h (none_appended mid ∙ ap (λ (xs : List ReportLine). mid ++ xs) (sym e))

pub upto_same : {A : Type 0} (f g : ℕ → List A) (n : ℕ) → ((k : ℕ) → k < n → f k ≡ g k) → upto f n ≡ upto g n
upto_same f g zero same = refl
upto_same {A} f g (suc n) same = ap (λ (xs : List A). xs ++ f n) (upto_same f g n (λ k h. same k (omega arith))) ∙ ap (λ (xs : List A). upto g n ++ xs) (same n (omega arith))
