-- What rules say, each by itself.
use Rattle.std.proofs.Common.{◌≡◌, Bool, true, false, cond, Result, Ok, Err, refl}
use Rattle.script_lang.specs.declared.faults.BadKind.{BadKind}

-- a rule that was kept
pub rule_ok : {A : Type 0} (k : BadKind) (b : Bool) (x y : A) → ◌≡◌ {A = Result A BadKind} (Ok y) (cond b (Ok x) (Err k)) → (b ≡ true) × (x ≡ y)
rule_ok k true x y e = (refl, cc)
rule_ok k false x y e = cc
