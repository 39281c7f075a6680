-- The numbers of recovery steps in messages.
use Rattle.std.specs.Prelude.{◌≡◌, ℕ, ◌==◌, if◌then◌else◌, List, []}
use Rattle.op_headers.specs.declared.ops.RecoveryKind.{RecoveryKind}
use Rattle.op_headers.specs.declared.ops.RecoveryKind.TheVariants as kind

abbrev pub kind_number : RecoveryKind → ℕ
kind_number kind.Begin = 0
kind_number kind.Init = 1
kind_number kind.Update = 2

-- the kind with this number, the last from 2 on
abbrev pub kind_with : ℕ → RecoveryKind
kind_with n = if n == 0 then kind.Begin else if n == 1 then kind.Init else kind.Update

-- Only a last step has a length, and only a first one has targets.
abbrev pub HasItsLength : RecoveryKind → ℕ → Type 0
HasItsLength kind.Update n = Unit {0}
HasItsLength _ n = n ≡ 0

abbrev pub HasItsTargets : {X : Type 0} → RecoveryKind → List X → Type 0
HasItsTargets kind.Begin targets = Unit {0}
HasItsTargets _ targets = targets ≡ []
