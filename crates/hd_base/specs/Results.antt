-- The algebra of results: steps that may fail for several causes, which stand for `?` in a `do` block of a definition.
use Rattle.std.specs.Prelude.{◌≡◌, ◌⊎◌, ℕ, List, Result, Ok, Err}
use Rattle.std.specs.Borrow.{Bor}

infixl 10 ◌>>=◌
abbrev pub ◌>>=◌ : {A B E : Type 0} → Result A E → (A → Result B E) → Result B E
(Ok x) >>= f = f x
(Err e) >>= f = Err e

-- a result with another cause
abbrev pub with_cause : {A D E : Type 0} → (D → E) → Result A D → Result A E
with_cause f (Ok x) = Ok x
with_cause f (Err e) = Err (f e)

-- a result with another value
abbrev pub with_value : {A B E : Type 0} → (A → B) → Result A E → Result B E
with_value f (Ok x) = Ok (f x)
with_value f (Err e) = Err e

-- What a reader returned, with the bytes that it left in place of the slice of them.
abbrev pub read_of : {A E : Type 0} → Result (A × Bor (List ℕ)) E → Result (A × List ℕ) E
read_of r = with_value (λ x. (x.0, x.1.now)) r

-- The result is what reading gives, or it is this one error, want of memory, which may come at any time.
abbrev pub Gives : {A E : Type 0} → E → Result A E → Result A E → Type 0
Gives memory (Ok x) read = Ok x ≡ read
Gives memory (Err e) read = (e ≡ memory) ⊎ (Err e ≡ read)

-- The error is want of memory, or it stands in the bytes as this relation says.
abbrev pub FailsFor : {E : Type 0} → E → (E → List ℕ → Type 0) → E → List ℕ → Type 0
FailsFor memory IsRefused e bytes = (e ≡ memory) ⊎ IsRefused e bytes
