-- What is left of the files of a replica that broke.
use Rattle.std.specs.Prelude.{◌≡◌, Bool, true, false, Option, IfSome}
use Rattle.hd_base.specs.Calls.{Log}
use Rattle.hd_base.specs.Faults.{FaultsIncreased}
use Rattle.hd_base.specs.FileMaps.{FileMap}
use Rattle.hd_base.specs.declared.files.Files as files
use Rattle.refusing_files.specs.Refusals.{has_data_write, AreIdle}
use Rattle.replica_model.specs.Plans.{Holds}
use Rattle.replica_model.specs.Rows.{FullReplica}

-- The files hold the replica as it was before it broke, or as it is where it isn't broken.
abbrev pub HoldsWhole : Option FileMap → FullReplica → Type 0
HoldsWhole files r = Holds files (record r { known = record r.known { is_broken = false } })

-- A write on a data file stands in the log, and all its calls leave the files as they are.
pub record TellsOnlyRefusals (l : Log) : Type 0 where
  pub idle : AreIdle l.calls
  pub marked : has_data_write l.calls ≡ true

-- What is known of the files of a broken replica: that they hold it as it was before, or that a call on files failed. They hold it where the log tells only refusals.
pub record IsLeft {F : Type 0} (f : files.Ghosts F) (drawer : F) (whole : Bool) (r : FullReplica) : Type 0 where
  pub held : whole ≡ true → HoldsWhole (f.files drawer) r
  pub cause : whole ≡ false → FaultsIncreased 0 (f.faults drawer)
  pub refused : IfSome (f.log drawer) (λ l. TellsOnlyRefusals l → HoldsWhole (f.files drawer) r)

-- Where the replica is broken, so much is known.
abbrev pub LeavesFiles : {F : Type 0} → files.Ghosts F → F → Bool → FullReplica → Type 0
LeavesFiles f drawer whole r = r.known.is_broken ≡ true → IsLeft f drawer whole r
