-- Laws of lists in which nothing stands twice.
use Rattle.std.proofs.Common.{◌≡◌, Bool, true, false, ◌||◌, List, [], ◌∷◌, ◌++◌, arith, refl}
use Rattle.std.proofs.lemmas.Grind.{common_steps}
use Rattle.mem_ports.specs.Apart.{is_among, all_apart}

is_among-push : {X : Type 0} (eq : X → X → Bool) (xs : List X) (y q : X) → is_among eq (xs ++ y ∷ []) q ≡ (is_among eq xs q || eq y q)
is_among-push eq [] y q = grind (arith, common_steps)
is_among-push eq (x ∷ xs) y q = let rest = is_among-push eq xs y q in grind (arith, common_steps)

-- A value that isn't there yet may stand behind all others.
pub all_apart-push : {X : Type 0} (eq : X → X → Bool) (comm : (x y : X) → eq x y ≡ eq y x) (xs : List X) (y : X) → all_apart eq xs ≡ true → is_among eq xs y ≡ false → all_apart eq (xs ++ y ∷ []) ≡ true
all_apart-push eq comm [] y apart none = refl
all_apart-push eq comm (x ∷ xs) y apart none =
    let rest = all_apart-push eq comm xs y (grind (arith, common_steps)) (grind (arith, common_steps)) in
    let there = is_among-push eq xs y x in
    let other = comm y x in
    grind (arith, common_steps)
