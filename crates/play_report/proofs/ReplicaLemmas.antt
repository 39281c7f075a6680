-- The lines of what was read are those of the replicas.
use Rattle.std.proofs.Common.{◌≡◌, ◌<◌, ◌≤◌, ◌+◌, ◌==◌, ℕ, zero, suc, Bool, true, false, cond, List, [], ◌∷◌, ◌++◌, length, drop, slice_get, Option, Some, None, IsSome, ◌⊎◌, inl, inr, refl, sym, ap, subst, ◌∙◌, arith, eqb-true, eq-eqb}
use Rattle.std.specs.Prelude.{flat_map, unwrap_or, min}
use Rattle.hd_base.specs.declared.numbers.BlockId.{BlockId}
use Rattle.hd_base.specs.FileMaps.{FileMap}
use Rattle.play_scripts.proofs.PlayNodes.PlaceLaws.{same_some}
use Rattle.play_scripts.specs.Blocks.{numbers}
use Rattle.replica_core.specs.declared.info.ReplicaInfo.{ReplicaInfo}
use Rattle.replica_files.specs.Laws.{IsWhole}
use Rattle.replica_files.specs.Summing.{SumsWritten}
use Rattle.replica_model.specs.Rows.{FullReplica}
use Rattle.script_lang.specs.declared.report.ReportLine.{ReportLine}
use Rattle.play_report.specs.declared.rows.Row.{Row}
use Rattle.play_report.specs.Replicas.{sum_told, info_lines, replica_lines, row_lines}
use Rattle.play_report.proofs.AnswerLemmas.{drop_at}
use Rattle.play_report.proofs.AppendLemmas.{next_appended}
use Rattle.std.proofs.lemmas.Bool.{cases_lt}
use Rattle.std.proofs.lemmas.List.{append-nil, at_drop_all}

-- STEPS

pub row_next : (all mid new : List ReportLine) (node : ℕ) (blocks : List BlockId) (rows : List Row) (k : ℕ) (b : BlockId) (row : Row) → slice_get blocks k ≡ Some b → slice_get rows k ≡ Some row
    → mid ++ row_lines node (drop k blocks) (drop k rows) ≡ all → new ≡ mid ++ info_lines node b.0 row.sum row.info
    → new ++ row_lines node (drop (k + 1) blocks) (drop (k + 1) rows) ≡ all
row_next all mid new node blocks rows k b row at at' h e =
    next_appended all mid new (info_lines node b.0 row.sum row.info) (row_lines node (drop (k + 1) blocks) (drop (k + 1) rows))
    (ap (λ (xs : List ReportLine). mid ++ xs) (sym (ap (λ (bs : List BlockId). row_lines node bs (drop k rows)) (drop_at blocks k b at) ∙ ap (λ (rs : List Row). row_lines node (b ∷ drop (k + 1) blocks) rs) (drop_at rows k row at'))) ∙ h)
    e

none_rows : (node : ℕ) (blocks : List BlockId) → row_lines node blocks [] ≡ []
none_rows node [] = refl
none_rows node (b ∷ blocks) = refl

-- Behind the last block or the last row all is appended.
pub rows_end : (all out : List ReportLine) (node : ℕ) (blocks : List BlockId) (rows : List Row) (k : ℕ) → min (length blocks) (length rows) ≤ k
    → out ++ row_lines node (drop k blocks) (drop k rows) ≡ all → out ≡ all
rows_end all out node blocks rows k past h = sym (append-nil out) ∙ (ap (λ (xs : List ReportLine). out ++ xs) (sym (ends (which past))) ∙ h)
  where
    which : min (length blocks) (length rows) ≤ k → (length blocks ≤ k) ⊎ (length rows ≤ k)
    which p = either (cases_lt (length blocks) (length rows)) p
      where
        either : ((length blocks < length rows) ⊎ (length rows ≤ length blocks)) → min (length blocks) (length rows) ≤ k → (length blocks ≤ k) ⊎ (length rows ≤ k)
        either (inl l) q = inl (omega arith)
        either (inr l) q = inr (omega arith)

    ends : (length blocks ≤ k) ⊎ (length rows ≤ k) → row_lines node (drop k blocks) (drop k rows) ≡ []
    ends (inl p) = at_drop_all (λ (bs : List BlockId). row_lines node bs (drop k rows)) blocks k p
    ends (inr p) = at_drop_all (λ (rs : List Row). row_lines node (drop k blocks) rs) rows k p ∙ none_rows node (drop k blocks)

-- ONE REPLICA

-- A broken replica has no sum, and another that isn't absent has one.
sum_so : (broken : Bool) (sum : Option ℕ) → (broken ≡ true → IsSome sum → ⊥) → (broken ≡ false → IsSome sum) → sum ≡ sum_told broken (unwrap_or sum 0)
sum_so true None none some = refl
sum_so true (Some s) none some = absurd (none refl refl)
sum_so false None none some = cc (some refl)
sum_so false (Some s) none some = refl

pub row_is : (node b : ℕ) (files : Option FileMap) (r : FullReplica) (sum : Option ℕ) → SumsWritten files r sum → info_lines node b sum r.known.info ≡ replica_lines node b r (unwrap_or sum 0)
row_is node b files r sum s = at r.known.info refl
  where
    at : (info : Option ReplicaInfo) → r.known.info ≡ info → info_lines node b sum info ≡ info_lines node b (sum_told r.known.is_broken (unwrap_or sum 0)) info
    at None e = refl
    at (Some h) e = ap (λ (o : Option ℕ). info_lines node b o (Some h)) (sum_so r.known.is_broken sum
        (λ broken some. whole_too (s.some.0 some) broken)
        (λ sound. s.some.1 (record { there = subst (λ (o : Option ReplicaInfo). IsSome o) (sym e) refl; whole = sound })))
      where
        whole_too : IsWhole r → r.known.is_broken ≡ true → ⊥
        whole_too w broken = cc (w.whole, broken)

-- SUMS BY BLOCK

-- the sum that was read of a block's replica
abbrev pub sum_found : List BlockId → List Row → ℕ → ℕ
sum_found [] rows b = 0
sum_found (x ∷ blocks) [] b = 0
sum_found (x ∷ blocks) (row ∷ rows) b = cond (x.0 == b) (unwrap_or row.sum 0) (sum_found blocks rows b)

abbrev pub AreApart : List BlockId → Type 0
AreApart blocks = (j k : ℕ) (a b : BlockId) → slice_get blocks j ≡ Some a → slice_get blocks k ≡ Some b → a.0 ≡ b.0 → j ≡ k

pub found_at : (blocks : List BlockId) (rows : List Row) (k : ℕ) (b : BlockId) (row : Row) → AreApart blocks → slice_get blocks k ≡ Some b → slice_get rows k ≡ Some row
    → sum_found blocks rows b.0 ≡ unwrap_or row.sum 0
found_at [] rows k b row apart at at' = cc
found_at (x ∷ blocks) [] k b row apart at at' = cc
found_at (x ∷ blocks) (r ∷ rows) zero b row apart at at' =
    ap (λ (t : Bool). cond t (unwrap_or r.sum 0) (sum_found blocks rows b.0)) (eq-eqb x.0 b.0 (ap (λ (y : BlockId). y.0) (same_some x b at))) ∙ ap (λ (v : Row). unwrap_or v.sum 0) (same_some r row at')
found_at (x ∷ blocks) (r ∷ rows) (suc k) b row apart at at' =
    head (x.0 == b.0) refl ∙ found_at blocks rows k b row (λ i j a c p q e. cc_suc i j (apart (suc i) (suc j) a c p q e)) at at'
  where
    cc_suc : (i j : ℕ) → suc i ≡ suc j → i ≡ j
    cc_suc i j e = omega arith

    none : zero ≡ suc k → ⊥
    none e = omega arith

    head : (t : Bool) → (x.0 == b.0) ≡ t → cond t (unwrap_or r.sum 0) (sum_found blocks rows b.0) ≡ sum_found blocks rows b.0
    head true e = absurd (none (apart zero (suc k) x b refl at (eqb-true x.0 b.0 e)))
    head false e = refl

-- ALL REPLICAS OF A NODE

-- the lines of these rows are those of the replicas
pub rows_are : (node : ℕ) (g : ℕ → FullReplica) (sums : ℕ → ℕ) (blocks : List BlockId) (rows : List Row) → length blocks ≤ length rows
    → ((k : ℕ) (b : BlockId) (row : Row) → slice_get blocks k ≡ Some b → slice_get rows k ≡ Some row → info_lines node b.0 row.sum row.info ≡ replica_lines node b.0 (g b.0) (sums b.0))
    → row_lines node blocks rows ≡ flat_map (λ b. replica_lines node b (g b) (sums b)) (numbers blocks)
rows_are node g sums [] rows few each = refl
rows_are node g sums (b ∷ blocks) [] few each = absurd (none (length blocks) few)
  where
    none : (n : ℕ) → suc n ≤ 0 → ⊥
    none n h = omega arith
rows_are node g sums (b ∷ blocks) (row ∷ rows) few each =
    ap (λ (xs : List ReportLine). xs ++ row_lines node blocks rows) (each zero b row refl refl) ∙
    ap (λ (xs : List ReportLine). replica_lines node b.0 (g b.0) (sums b.0) ++ xs) (rows_are node g sums blocks rows (omega arith) (λ k c r at at'. each (suc k) c r at at'))
