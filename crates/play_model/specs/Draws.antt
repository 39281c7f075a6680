-- The draw of what happens next.
use Rattle.std.specs.Prelude.{zero, suc, ◌≡◌, ℕ, ◌%◌, List, [], ◌∷◌, length, slice_get, Option, Some, None}
use Rattle.rand_pcg.specs.Pcg.{pcg32}
use Rattle.play_model.specs.declared.dues.Due.{Due}
use Rattle.play_model.specs.States.{PlayState}
use Rattle.play_model.specs.Dues.{dues}
use Rattle.play_model.specs.Faults.{befalls}

-- of what is due, that which this word draws
abbrev pub drawn : List Due → ℕ → Option Due
drawn due word = slice_get due (word % length due)

abbrev pub happened : PlayState → Option Due → PlayState
happened p None = p
happened p (Some d) = befalls p d

-- the generator has given one word more
abbrev pub advanced : PlayState → PlayState
advanced p = record p { generator = (pcg32 p.generator).1 }

-- Where something is due, one word is taken, and what it draws befalls.
abbrev pub drawn_from : List Due → PlayState → PlayState
drawn_from [] p = p
drawn_from (d ∷ due) p = happened (advanced p) (drawn (d ∷ due) (pcg32 p.generator).0)

-- one draw, in a play with the writers of these blocks
abbrev pub draw : List ℕ → PlayState → PlayState
draw blocks p = drawn_from (dues blocks p) p

-- up to so many draws
abbrev pub draws : List ℕ → ℕ → PlayState → PlayState
draws blocks zero p = p
draws blocks (suc n) p = draws blocks n (draw blocks p)

-- Draws come to a play in which nothing is due.
pub record Settles (blocks : List ℕ) (old new : PlayState) : Type 0 where
  pub count : ℕ
  pub drawn_so : draws blocks count old ≡ new
  pub settled : dues blocks new ≡ []
