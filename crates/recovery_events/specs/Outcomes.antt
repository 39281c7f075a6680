-- How an event of a recovery ends, and what is left.
use Rattle.std.specs.Prelude.{Option, Some}
use Rattle.hd_base.specs.Faults.{FaultsIncreased}
use Rattle.hd_base.specs.declared.files.Files as files
use Rattle.block_recovery.specs.declared.serving.RecoveryServed.{RecoveryServed}
use Rattle.block_recovery.specs.declared.serving.RecoveryServed.TheVariants as served
use Rattle.block_recovery.specs.ReplicaFiles.BookState.{BookState}
use Rattle.recovery_events.specs.declared.answering.Outcome.{Outcome}
use Rattle.recovery_events.specs.declared.answering.Outcome.TheVariants as ended

-- what is left
abbrev pub left_in : {T : Type 0} → Outcome T → T
left_in (ended.Done left) = left
left_in (ended.Faulted left) = left

-- the outcome, by how a request was served
abbrev pub outcome_of : {T : Type 0} → RecoveryServed → T → Outcome T
outcome_of (served.File answer receipt) left = ended.Faulted left
outcome_of other left = ended.Done left

-- the outcome of an event after which the end goes on
abbrev pub going_on : {T : Type 0} → Outcome T → Outcome (Option T)
going_on (ended.Done left) = ended.Done (Some left)
going_on (ended.Faulted left) = ended.Faulted (Some left)

-- Where a call on the replica's files failed, the drawer's count rose.
abbrev pub IsFaulted : {F T : Type 0} → files.Ghosts F → BookState F → BookState F → Outcome T → Type 0
IsFaulted f book book' (ended.Done left) = Unit {0}
IsFaulted f book book' (ended.Faulted left) = FaultsIncreased (f.faults book.drawer) (f.faults book'.drawer)
