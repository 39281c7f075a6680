-- Where a required field is missing: the numbers of the fields that lead to it, from the top, filled with zeros to four.
use Rattle.std.specs.Prelude.{ℕ, List, [], ◌∷◌, take, Result, Ok, Err}

-- four field numbers
abbrev pub Path : Type 0
Path = List ℕ

-- the field of this number, of the message itself
abbrev pub only : ℕ → Path
only number = number ∷ 0 ∷ 0 ∷ 0 ∷ []

-- the path of a field within the message that the field of this number holds
abbrev pub below : ℕ → Path → Path
below number path = number ∷ take 3 path

-- Two values side by side. What the first misses comes before what the second misses.
abbrev pub both : {A B : Type 0} → Result A Path → Result B Path → Result (A × B) Path
both (Ok a) (Ok b) = Ok (a, b)
both (Ok a) (Err p) = Err p
both (Err p) r = Err p
