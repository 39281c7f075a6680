-- The algebra of options: steps that may fail in one way, which stand for `?` in a `do` block of a definition.
use Rattle.std.specs.Prelude.{ℕ, List, Option, Some, None}
use Rattle.std.specs.Borrow.{Bor}

infixl 10 ◌>>=◌
abbrev pub ◌>>=◌ : {A B : Type 0} → Option A → (A → Option B) → Option B
(Some x) >>= f = f x
None >>= f = None

-- What a reader returned, with the bytes that it left in place of the slice of them.
abbrev pub read_of : {A : Type 0} → Option (A × Bor (List ℕ)) → Option (A × List ℕ)
read_of (Some x) = Some (x.0, x.1.now)
read_of None = None
