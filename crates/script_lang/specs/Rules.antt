-- Rules that are tried in order.
use Rattle.std.specs.Prelude.{◌≡◌, ◌⊎◌, Bool, true, false, if◌then◌else◌, List, [], ◌∷◌, Result, Ok, Err}
use Rattle.script_lang.specs.declared.faults.BadKind.{BadKind}
use Rattle.script_lang.specs.declared.faults.Stop.{Stop}
use Rattle.script_lang.specs.declared.faults.Stop.TheVariants.{Bad, Memory}

-- The value, where each rule is kept; the kind of the first rule that is broken else. A rule is its kind, and whether it is kept.
abbrev pub by_rules : {A : Type 0} → List (BadKind × Bool) → A → Result A BadKind
by_rules [] value = Ok value
by_rules (rule ∷ rules) value = if rule.1 then by_rules rules value else Err rule.0

-- each rule is kept
abbrev pub AllKept : List (BadKind × Bool) → Type 0
AllKept [] = Unit {0}
AllKept (rule ∷ rules) = (rule.1 ≡ true) × AllKept rules

-- The first rule that is broken is of this kind: those before it are kept.
abbrev pub BreaksFirst : List (BadKind × Bool) → BadKind → Type 0
BreaksFirst [] kind = ⊥
BreaksFirst (rule ∷ rules) kind = ((rule.1 ≡ false) × (kind ≡ rule.0)) ⊎ ((rule.1 ≡ true) × BreaksFirst rules kind)

-- The result is what was said, or memory ran out.
abbrev pub Gives : {A : Type 0} → Result A Stop → Result A BadKind → Type 0
Gives (Ok x) said = said ≡ Ok x
Gives (Err (Bad kind)) said = said ≡ Err kind
Gives (Err Memory) said = Unit {0}
