-- Lists in which nothing stands twice.
use Rattle.std.specs.Prelude.{Bool, true, false, not, ◌&&◌, ◌||◌, List, [], ◌∷◌}

-- the value is among these
abbrev pub is_among : {X : Type 0} → (X → X → Bool) → List X → X → Bool
is_among eq [] x = false
is_among eq (y ∷ ys) x = eq y x || is_among eq ys x

-- no value stands twice
abbrev pub all_apart : {X : Type 0} → (X → X → Bool) → List X → Bool
all_apart eq [] = true
all_apart eq (x ∷ xs) = not (is_among eq xs x) && all_apart eq xs
