-- When a primary's own step is to commit.
use Rattle.std.proofs.Common.{◌≡◌, ℕ, Bool, true, false, if◌then◌else◌, List, [], ◌∷◌, refl, sym, ap, ◌∙◌}
use Rattle.hd_base.specs.declared.numbers.NodeId.{NodeId}
use Rattle.recovery_core.specs.declared.primary.OwnStep.TheVariants as own
use Rattle.recovery_core.specs.declared.primary.Phase.{Phase}
use Rattle.recovery_core.specs.declared.primary.Phase.TheVariants as phase
use Rattle.recovery_core.specs.declared.standings.Standing.{Standing}
use Rattle.recovery_core.specs.declared.standings.Standing.TheVariants as standing
use Rattle.recovery_core.specs.Primaries.{PrimaryState, waits, taken, committing, own_at, is_commit, commits, updated_members, updates_any}

commits_any : (p : PrimaryState) (bytes : ℕ) (members : List NodeId) (standings : List Standing) → is_commit (committing p bytes (updated_members members standings)).does ≡ updates_any members standings
commits_any p bytes [] ss = refl
commits_any p bytes (n ∷ ns) [] = refl
commits_any p bytes (n ∷ ns) (standing.Updated ∷ ss) = refl
commits_any p bytes (n ∷ ns) (standing.Unreached ∷ ss) = commits_any p bytes ns ss
commits_any p bytes (n ∷ ns) (standing.Asked ∷ ss) = commits_any p bytes ns ss
commits_any p bytes (n ∷ ns) (standing.Told state stamp len ended ∷ ss) = commits_any p bytes ns ss
commits_any p bytes (n ∷ ns) (standing.Out ∷ ss) = commits_any p bytes ns ss
commits_any p bytes (n ∷ ns) (standing.Updating ∷ ss) = commits_any p bytes ns ss

-- One that was sent the UPDATEs, and waits for no answer, commits where a member was updated.
pub commits_so : (p : PrimaryState) (bytes : ℕ) (b : Bool) → p.phase ≡ phase.Updating bytes → b ≡ waits p.standings → b ≡ false → updates_any p.members p.standings ≡ commits p
commits_so p bytes b at is off =
    sym (ap (λ (x : Bool). is_commit (if x then taken p own.Waits else own_at p.phase p).does) (sym is ∙ off) ∙ (ap (λ (x : Phase). is_commit (own_at x p).does) at ∙ commits_any p bytes p.members p.standings))
