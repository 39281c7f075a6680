-- Words on lists.
use Rattle.std.specs.Prelude.{◌≡◌, ◌≢◌, ℕ, ◌<◌, ◌^◌, List, [], ◌∷◌, ◌++◌, length, All, AllPairs}
use Rattle.std.specs.Iterator.Runs.{EveryRun, ItemsMapTo}
use Rattle.std.specs.Slice.Iter.{iter_rest, iter_steps}
use Rattle.std.specs.declared.slice.Iter.{Iter}

-- no element stands twice
abbrev pub AllDistinct : {X : Type 0} → List X → Type 0
AllDistinct xs = AllPairs (λ a b. a ≢ b) xs

-- ASCII alone
abbrev pub IsAsciiText : List ℕ → Type 0
IsAsciiText bytes = All (λ b. b < 128) bytes

-- lists one behind the other
abbrev pub joined : {X : Type 0} → List (List X) → List X
joined [] = []
joined (xs ∷ rest) = xs ++ joined rest

-- The iterator gives references to the elements of this list, in order.
abbrev pub IteratesOver : {X : Type 0} → List X → Iter X → Type 0
IteratesOver {X} xs it =
    (iter_rest it ≡ xs) × (length (iter_rest it) < 2 ^ 64) ×
    EveryRun (iter_steps {A = X}) (λ p. ItemsMapTo p (λ x. x.now) (iter_rest p.from))
