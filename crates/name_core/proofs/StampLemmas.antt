-- Stamps rise.
use Rattle.std.proofs.Common.{◌≡◌, ℕ, ◌+◌, ◌<◌, ◌≤◌, List, [], ◌∷◌, ◌++◌, refl, arith}
use Rattle.std.specs.List.{All, AllPairs}
use Rattle.std.proofs.lemmas.List.Elements.{All-nil, All-cons}
use Rattle.std.proofs.lemmas.List.Kept.{AllPairs-cons}
use Rattle.name_core.specs.declared.calls.OfficeCall.{OfficeCall}
use Rattle.name_core.specs.Steps.{state_after, reply}
use Rattle.name_core.specs.Offices.{OfficeState, office_after, answer_to, run}
use Rattle.name_core.specs.Laws.{given_by, stamps_given}
use Rattle.name_core.proofs.CaseLemmas.{each_case}
use Rattle.name_core.proofs.OfficeLemmas.{next_rises}

-- no stamp is given, or the next one is
abbrev Gives : ℕ → ℕ → List ℕ → Type 0
Gives n m [] = n ≤ m
Gives n m (s ∷ []) = (s ≡ n) × (m ≡ n + 1)
Gives n m (s ∷ t ∷ given) = ⊥

gives : (o : OfficeState) (c : OfficeCall) → Gives o.next.0 (office_after o c).next.0 (given_by (answer_to o c))
gives o c =
    each_case o (λ _ step. Gives o.next.0 (state_after o step).next.0 (given_by (reply step))) (record {
      refused = λ c e. omega arith;
      created = λ block members is. (refl, refl);
      appended = λ block r is shut short. (refl, refl);
      stamped = λ block r is writers. (refl, refl);
      committed = λ block stamp members r is writers new. omega arith;
      completed = λ block stamp bytes r is writers new. omega arith;
      begun = λ block r is is_open. (refl, refl);
      synced = λ block id bytes members r is is_open latest. omega arith;
    }) c

-- the next stamp never falls
pub run_rises : (o : OfficeState) (calls : List OfficeCall) → o.next.0 ≤ (run o calls).next.0
run_rises o [] = omega arith
run_rises o (c ∷ calls) = let a = (next_rises o c).low in let b = run_rises (office_after o c) calls in omega arith

fresh_more : (n m : ℕ) (given rest : List ℕ) → Gives n m given → All (λ s. m ≤ s) rest → All (λ s. n ≤ s) (given ++ rest)
fresh_more n m [] rest le more = λ k d at. let h = more k d at in omega arith
fresh_more n m (s ∷ t ∷ given) rest never more = absurd never
fresh_more n m (s ∷ []) rest e more = All-cons (λ x. n ≤ x) s rest (let here = e.0 in omega arith) (λ k d at. let h = more k d at in let next = e.1 in omega arith)

pub fresh : (o : OfficeState) (calls : List OfficeCall) → All (λ s. o.next.0 ≤ s) (stamps_given o calls)
fresh o [] = All-nil (λ s. o.next.0 ≤ s)
fresh o (c ∷ calls) = fresh_more o.next.0 (office_after o c).next.0 (given_by (answer_to o c)) (stamps_given (office_after o c) calls) (gives o c) (fresh (office_after o c) calls)

rise_more : (n m : ℕ) (given rest : List ℕ) → Gives n m given → All (λ s. m ≤ s) rest → AllPairs (λ a b. a < b) rest → AllPairs (λ a b. a < b) (given ++ rest)
rise_more n m [] rest le more pairs = pairs
rise_more n m (s ∷ t ∷ given) rest never more pairs = absurd never
rise_more n m (s ∷ []) rest e more pairs = AllPairs-cons (λ a b. a < b) s rest (λ k d at. let h = more k d at in let here = e.0 in let next = e.1 in omega arith) pairs

pub rise : (o : OfficeState) (calls : List OfficeCall) → AllPairs (λ a b. a < b) (stamps_given o calls)
rise o [] = λ i j d before below. absurd (omega arith)
rise o (c ∷ calls) = rise_more o.next.0 (office_after o c).next.0 (given_by (answer_to o c)) (stamps_given (office_after o c) calls) (gives o c) (fresh (office_after o c) calls) (rise (office_after o c) calls)

past_more : (n m last : ℕ) (given rest : List ℕ) → Gives n m given → m ≤ last → All (λ s. s < last) rest → All (λ s. s < last) (given ++ rest)
past_more n m last [] rest le within more = more
past_more n m last (s ∷ t ∷ given) rest never within more = absurd never
past_more n m last (s ∷ []) rest e within more = All-cons (λ x. x < last) s rest (let here = e.0 in let next = e.1 in omega arith) more

pub past : (o : OfficeState) (calls : List OfficeCall) → All (λ s. s < (run o calls).next.0) (stamps_given o calls)
past o [] = All-nil (λ s. s < o.next.0)
past o (c ∷ calls) = past_more o.next.0 (office_after o c).next.0 (run (office_after o c) calls).next.0 (given_by (answer_to o c)) (stamps_given (office_after o c) calls) (gives o c) (run_rises (office_after o c) calls) (past (office_after o c) calls)
