-- What a choice keeps.
use Rattle.std.proofs.Common.{◌≡◌, ℕ, ◌≤◌, ◌==◌, ◌&&◌, ◌||◌, not, min, Bool, true, false, cond, List, [], ◌∷◌, map, Option, Some, None, refl, sym, subst, arith}
use Rattle.std.specs.List.{All, find}
use Rattle.std.specs.Option.{option_map}
use Rattle.std.specs.Result.{IfOk}
use Rattle.std.proofs.lemmas.Bool.Decides.{nat_tests}
use Rattle.std.proofs.lemmas.List.Elements.{All-nil, All-cons, All-weaker, All-filter, filter_passes}
use Rattle.hd_base.specs.declared.numbers.Stamp.{Stamp}
use Rattle.hd_base.specs.Results.{◌>>=◌}
use Rattle.name_core.specs.declared.choice.Chosen.{Chosen}
use Rattle.name_core.specs.declared.choice.Kept.{Kept}
use Rattle.name_core.specs.declared.choice.Kept.TheVariants as kept
use Rattle.name_core.specs.declared.infos.Info.{Info}
use Rattle.name_core.specs.Choice.{is_candidate, is_finalized, is_rbw, is_finalized_candidate, is_chosen, kept_infos, lesser, least, kept_lengths, chosen, shortest, unless_other, other_length, finalized_by, first_of, choice}
use Rattle.name_core.specs.Laws.{KeepsLength}

-- ---- lists

none_step : {X : Type 0} (p : X → Bool) (x : X) (xs : List X) (b : Bool) → p x ≡ b → cond b (Some x) (find p xs) ≡ None → (find p xs ≡ None → All (λ y. p y ≡ false) xs) → All (λ y. p y ≡ false) (x ∷ xs)
none_step p x xs true here is more = absurd (cc)
none_step p x xs false here is more = All-cons (λ y. p y ≡ false) x xs here (more is)

find_none : {X : Type 0} (p : X → Bool) (xs : List X) → find p xs ≡ None → All (λ y. p y ≡ false) xs
find_none p [] is = All-nil (λ y. p y ≡ false)
find_none p (x ∷ xs) is = none_step p x xs (p x) refl is (find_none p xs)

-- the least length is that of none, or below all
abbrev IsBelow : List Info → Option ℕ → Type 0
IsBelow infos None = infos ≡ []
IsBelow infos (Some n) = All (λ i. n ≤ i.length) infos

below_step : (i : Info) (infos : List Info) (found : Option ℕ) → IsBelow infos found → All (λ j. lesser i.length found ≤ j.length) (i ∷ infos)
below_step i infos None none = subst (λ is. All (λ j. i.length ≤ j.length) (i ∷ is)) (sym none) (All-cons (λ j. i.length ≤ j.length) i [] (omega arith) (All-nil (λ j. i.length ≤ j.length)))
below_step i infos (Some n) below =
    All-cons (λ j. min i.length n ≤ j.length) i infos (omega arith) (All-weaker (λ j. n ≤ j.length) (λ j. min i.length n ≤ j.length) (λ j h. omega arith) infos below)

least_is_below : (infos : List Info) → IsBelow infos (least (map (λ i. i.length) infos))
least_is_below [] = refl
least_is_below (i ∷ infos) = below_step i infos (least (map (λ j. j.length) infos)) (least_is_below infos)

-- ---- tests

and_first : (a b : Bool) → (a && b) ≡ true → a ≡ true
and_first true b e = refl
and_first false b e = absurd (cc)

same_length : (a : Bool) (m n : ℕ) → (a && not (m == n)) ≡ false → a ≡ true → m ≡ n
same_length true m n e is = grind (arith, nat_tests)
same_length false m n e is = absurd (cc)

enough_by : (a f r : Bool) (m n : ℕ) → (a && (f || (r && m == n))) ≡ true → ((a && f) ≡ true → m ≡ n) → n ≤ m
enough_by true true r m n e same = let h = same refl in omega arith
enough_by true false true m n e same = grind (arith, nat_tests)
enough_by true false false m n e same = absurd (cc)
enough_by false f r m n e same = absurd (cc)

-- ---- choices

-- what one of the ways to keep candidates gives
keeps : (s : Stamp) (k : Kept) (bytes : ℕ) (infos : List Info) → All (λ i. is_finalized_candidate s i ≡ true → i.length ≡ bytes) infos → All (λ i. bytes ≤ i.length) (kept_infos s k infos) → KeepsLength s infos (chosen bytes s k infos)
keeps s k bytes infos finalized enough = record {
  finalized = finalized;
  keep = is_chosen s k;
  members = refl;
  candidates = All-weaker (λ i. is_chosen s k i ≡ true) (λ i. is_candidate s i ≡ true) (λ i is. and_first (is_candidate s i) _ is) (kept_infos s k infos) (filter_passes (is_chosen s k) infos);
  enough = enough;
}

-- where no candidate is finalized
shortest_by : (s : Stamp) (k : Kept) (infos : List Info) (c : Chosen) (found : Option ℕ) → All (λ i. is_finalized_candidate s i ≡ false) infos → IsBelow (kept_infos s k infos) found → option_map (λ bytes. chosen bytes s k infos) found ≡ Some c → KeepsLength s infos c
shortest_by s k infos c None unfinalized below is = absurd (cc)
shortest_by s k infos c (Some bytes) unfinalized below is =
    let here : chosen bytes s k infos ≡ c = cc in
    subst (KeepsLength s infos) here (keeps s k bytes infos (All-weaker (λ i. is_finalized_candidate s i ≡ false) (λ i. is_finalized_candidate s i ≡ true → i.length ≡ bytes) (λ i isnt is. absurd (cc)) infos unfinalized) below)

shortest_keeps : (s : Stamp) (k : Kept) (infos : List Info) (c : Chosen) → All (λ i. is_finalized_candidate s i ≡ false) infos → shortest s k infos ≡ Some c → KeepsLength s infos c
shortest_keeps s k infos c unfinalized is = shortest_by s k infos c (least (kept_lengths s k infos)) unfinalized (least_is_below (kept_infos s k infos)) is

first_keeps : (s : Stamp) (infos : List Info) (rbw rwr : Option Chosen) → All (λ i. is_finalized_candidate s i ≡ false) infos → shortest s kept.Rbw infos ≡ rbw → shortest s kept.Rwr infos ≡ rwr → IfOk (first_of None rbw rwr) (KeepsLength s infos)
first_keeps s infos (Some c) rwr unfinalized a b = shortest_keeps s kept.Rbw infos c unfinalized a
first_keeps s infos None (Some c) unfinalized a b = shortest_keeps s kept.Rwr infos c unfinalized b
first_keeps s infos None None unfinalized a b = tt

-- where one is
finalized_keeps : (s : Stamp) (infos : List Info) (bytes : ℕ) (other : Option Info) (rbw rwr : Option Chosen) → other_length bytes s infos ≡ other → IfOk (unless_other other bytes s infos >>= (λ found. first_of found rbw rwr)) (KeepsLength s infos)
finalized_keeps s infos bytes (Some other) rbw rwr is = tt
finalized_keeps s infos bytes None rbw rwr is =
    let test : Info → Bool = λ i. is_finalized_candidate s i && not (i.length == bytes) in
    let same : All (λ i. is_finalized_candidate s i ≡ true → i.length ≡ bytes) infos =
    All-weaker (λ i. test i ≡ false) (λ i. is_finalized_candidate s i ≡ true → i.length ≡ bytes) (λ i isnt. same_length (is_finalized_candidate s i) i.length bytes isnt) infos (find_none test infos is) in
    let k : Kept = kept.Finalized bytes in
    let both : All (λ i. (is_chosen s k i ≡ true) × (is_finalized_candidate s i ≡ true → i.length ≡ bytes)) (kept_infos s k infos) =
    λ n d at. (filter_passes (is_chosen s k) infos n d at, All-filter (is_chosen s k) (λ i. is_finalized_candidate s i ≡ true → i.length ≡ bytes) infos same n d at) in
    keeps s k bytes infos same (All-weaker (λ i. (is_chosen s k i ≡ true) × (is_finalized_candidate s i ≡ true → i.length ≡ bytes)) (λ i. bytes ≤ i.length) (λ i h. enough_by (is_candidate s i) (is_finalized i.state) (is_rbw i.state) i.length bytes h.0 h.1) (kept_infos s k infos) both)

choice_by : (s : Stamp) (infos : List Info) (first : Option Info) → find (is_finalized_candidate s) infos ≡ first → IfOk (finalized_by first s infos >>= (λ found. first_of found (shortest s kept.Rbw infos) (shortest s kept.Rwr infos))) (KeepsLength s infos)
choice_by s infos None is = first_keeps s infos (shortest s kept.Rbw infos) (shortest s kept.Rwr infos) (find_none (is_finalized_candidate s) infos is) refl refl
choice_by s infos (Some first) is = finalized_keeps s infos first.length (other_length first.length s infos) (shortest s kept.Rbw infos) (shortest s kept.Rwr infos) refl

pub choice_keeps : (s : Stamp) (infos : List Info) → IfOk (choice s infos) (KeepsLength s infos)
unfolding choice
choice_keeps s infos = choice_by s infos (find (is_finalized_candidate s) infos) refl
