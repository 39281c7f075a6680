-- What keeps a connection spent.
use Rattle.std.proofs.Common.{◌≡◌, Bool, true, false, refl, ap, ◌∙◌}
use Rattle.std.specs.Prelude.{◌&&◌, not}

-- who took nothing, or has taken the end, takes nothing
none_led : (led over : Bool) → not led ≡ true → not (led && not over) ≡ true
none_led false over e = refl
none_led true over e = cc

none_left : (led over : Bool) → over ≡ true → not (led && not over) ≡ true
none_left false over e = refl
none_left true true e = refl
none_left true false e = cc

pub silent : (led led' over over' : Bool) → (not led ≡ true → not led' ≡ true) → (over ≡ true → over' ≡ true) → not (led && not over) ≡ true → not (led' && not over') ≡ true
silent false led' over over' still stays h = none_led led' over' (still refl)
silent true led' true over' still stays h = none_left led' over' (stays refl)
silent true led' false over' still stays h = cc

pub both : (a b c d : Bool) → (a ≡ true → c ≡ true) → (b ≡ true → d ≡ true) → (a && b) ≡ true → (c && d) ≡ true
both true true c d f g h = ap (λ (x : Bool). x && d) (f refl) ∙ g refl
both true false c d f g h = cc
both false b c d f g h = cc
