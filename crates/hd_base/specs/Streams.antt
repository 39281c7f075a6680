-- What a read takes from a source and a write adds to a sink, where they are observable.
use Rattle.std.specs.Prelude.{◌≡◌, ℕ, ◌<◌, List, [], ◌++◌, length, Option, option_map}

-- Where observable, these bytes were taken from the front of what was left.
abbrev pub Took : Option (List ℕ) → Option (List ℕ) → List ℕ → Type 0
Took old new bytes = old ≡ option_map (λ rest. bytes ++ rest) new

-- Where observable, these bytes were put behind what had been written.
abbrev pub Wrote : Option (List ℕ) → Option (List ℕ) → List ℕ → Type 0
Wrote old new bytes = new ≡ option_map (λ all. all ++ bytes) old

-- A count of 0 into a buffer with room is the end: nothing is left, where observable.
abbrev pub EndsAtZero : Option (List ℕ) → ℕ → List ℕ → Type 0
EndsAtZero left count buffer = count ≡ 0 → 0 < length buffer → left ≡ option_map (λ _. []) left
