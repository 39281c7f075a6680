-- Fields that a message must have.
use Rattle.std.specs.Prelude.{ℕ, Option, Some, None, Result, Ok, Err}

-- The value of a required field, or the fault of the field's number.
abbrev pub required : {X E : Type 0} → (ℕ → E) → ℕ → Option X → Result X E
required missing field None = Err (missing field)
required missing field (Some x) = Ok x
