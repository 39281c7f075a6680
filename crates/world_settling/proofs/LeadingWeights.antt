-- What each step, and each thing that is heard, makes of a primary's weight.
use Rattle.std.proofs.Common.{◌≡◌, ℕ, ◌≤◌, ◌+◌, ◌*◌, Bool, true, false, List, [], ◌∷◌, length, Option, Some, None, Result, Ok, Err, refl, ap, arith}
use Rattle.std.specs.Prelude.{slice_get, if◌then◌else◌}
use Rattle.hd_base.specs.declared.numbers.NodeId.{NodeId}
use Rattle.name_core.specs.declared.choice.ChooseFault.{ChooseFault}
use Rattle.name_core.specs.declared.choice.Chosen.{Chosen}
use Rattle.name_core.specs.Choice.{choice}
use Rattle.world.specs.RecoveryCore.OwnStep.{OwnStep}
use Rattle.world.specs.RecoveryCore.OwnStep.TheVariants as own
use Rattle.world.specs.RecoveryCore.Phase.{Phase}
use Rattle.world.specs.RecoveryCore.Phase.TheVariants as phase
use Rattle.world.specs.RecoveryCore.Heard.{Heard}
use Rattle.world.specs.RecoveryCore.Standing.{Standing}
use Rattle.world.specs.RecoveryCore.Primaries.{PrimaryState, OwnTaken, taken, waits, infos, updated_members, choosing, committing, own_at, own_step, heard_as, heard_at}
use Rattle.world_settling.specs.Leading.{leading_weight}

abbrev pub state_weight : PrimaryState → ℕ
state_weight p = leading_weight p.phase (length p.members)

-- A step pays for what it sends: UPDATE to all members at most. Where it ends, or commits and ends then, it has paid.
abbrev pub PaysFor : PrimaryState → OwnStep → PrimaryState → Type 0
PaysFor p own.Waits q = Unit {0}
PaysFor p (own.Updates c) q = state_weight q + 3 * length p.members + 1 ≤ state_weight p
PaysFor p (own.Commits c) q = 1 ≤ state_weight p
PaysFor p (own.Ends r) q = 1 ≤ state_weight p

abbrev pub TakenPays : PrimaryState → OwnTaken → Type 0
TakenPays p t = PaysFor p t.does t.primary

at-phase : (p : PrimaryState) (q : Phase) → p.phase ≡ q → state_weight p ≡ leading_weight q (length p.members)
at-phase p q is = ap (λ (x : Phase). leading_weight x (length p.members)) is

chooses : (p : PrimaryState) → p.phase ≡ phase.Informing → (r : Result Chosen ChooseFault) → TakenPays p (choosing p r)
chooses p is (Ok c) = omega (arith, at-phase p phase.Informing is)
chooses p is (Err fault) = omega (arith, at-phase p phase.Informing is)

commits : (p : PrimaryState) (bytes : ℕ) → p.phase ≡ phase.Updating bytes → (nodes : List NodeId) → TakenPays p (committing p bytes nodes)
commits p bytes is [] = omega (arith, at-phase p (phase.Updating bytes) is)
commits p bytes is (n ∷ ns) = omega (arith, at-phase p (phase.Updating bytes) is)

goes-on : (p : PrimaryState) (q : Phase) → p.phase ≡ q → TakenPays p (own_at q p)
goes-on p phase.Informing is = chooses p is (choice p.begun.committed (infos p.members p.standings))
goes-on p (phase.Updating bytes) is = commits p bytes is (updated_members p.members p.standings)
goes-on p phase.Over is = tt

pub step-pays : (p : PrimaryState) → TakenPays p (own_step p)
step-pays p = at (waits p.standings)
  where
    at : (b : Bool) → TakenPays p (if b then taken p own.Waits else own_at p.phase p)
    at true = tt
    at false = goes-on p p.phase refl

-- what is heard changes only how it stands with a member
pub heard-weighs : (p : PrimaryState) (place : ℕ) (h : Heard) → state_weight (heard_at p place h) ≡ state_weight p
heard-weighs p place h = at (slice_get p.standings place)
  where
    at : (o : Option Standing) → state_weight (heard_as p place h o) ≡ state_weight p
    at None = refl
    at (Some s) = refl
