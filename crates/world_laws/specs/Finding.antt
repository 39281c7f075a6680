-- What a restart finds.
use Rattle.std.specs.Prelude.{ℕ, ◌≡◌, ◌↔◌, true, Option, Some, None}
use Rattle.world.specs.ReplicaModel.Rows.{FullReplica}
use Rattle.world.specs.ReplicaModel.Found.{Found, MayFind}
use Rattle.world.specs.Parts.{Break}
use Rattle.world.specs.Restarts.{may_find, replica_found, restarted}

-- what a restart may find of a replica that isn't broken, or that broke in an event
abbrev pub MayFindAt : FullReplica → Option Break → Option Found → Type 0
MayFindAt r None f = MayFind r None f
MayFindAt r (Some b) f = MayFind b.before (Some b.event) f

-- a replica as something that may be found
pub record IsFoundAt (block : ℕ) (r : FullReplica) (b : Option Break) (after : FullReplica) : Type 0 where
  pub found : Option Found
  pub is : after ≡ replica_found block found
  pub allowed : MayFindAt r b found

-- The test of what may be found is exact.
abbrev pub FindsExactly : Type 0
FindsExactly = (r : FullReplica) (b : Option Break) (f : Option Found) → (may_find r b f ≡ true) ↔ MayFindAt r b f

-- Each replica becomes one that may be found, whatever a restart is said to find.
abbrev pub FindsWhatMayBe : Type 0
FindsWhatMayBe = (block : ℕ) (r : FullReplica) (b : Option Break) (f : Option Found) →
    IsFoundAt block r b (restarted block r b f)
