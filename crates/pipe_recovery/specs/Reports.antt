-- How a step of a setup ends.
use Rattle.std.specs.Prelude.{◌≡◌, ◌||◌, Bool, true, false, Option, Some, None, is_some}
use Rattle.hd_base.specs.declared.links.LinkIn as link_in
use Rattle.writer_core.specs.declared.phases.Failure.{Failure}
use Rattle.writer_core.specs.declared.phases.Failure.TheVariants as failure
use Rattle.writer_core.specs.declared.phases.Phase.{Phase}
use Rattle.writer_core.specs.declared.phases.Phase.TheVariants as phase
use Rattle.writer_core.specs.declared.phases.Setup.{Setup}
use Rattle.writer_core.specs.declared.phases.Setup.TheVariants as setup
use Rattle.writer_core.specs.declared.records.WriterRecord.{WriterRecord}
use Rattle.pipe_recovery.specs.declared.acting.Acted.{Acted}
use Rattle.pipe_recovery.specs.declared.acting.Acted.TheVariants as acted
use Rattle.pipe_recovery.specs.declared.hearing.Looked.{Looked}
use Rattle.pipe_recovery.specs.declared.hearing.Looked.TheVariants as looked
use Rattle.pipe_recovery.specs.declared.links.Link.{Link}
use Rattle.pipe_recovery.specs.declared.rebuilding.RebuildStep.{RebuildStep}
use Rattle.pipe_recovery.specs.declared.rebuilding.RebuildStep.TheVariants as step
use Rattle.pipe_recovery.specs.declared.rebuilding.Rebuilt.{Rebuilt}
use Rattle.pipe_recovery.specs.declared.rebuilding.Rebuilt.TheVariants as rebuilt
use Rattle.pipe_recovery.specs.Acting.{has_own_step}
use Rattle.pipe_recovery.specs.Links.{LooksAt}

-- the connection is there after a SUCCESS answer, unless it was that of a close's recovery, which is shut then
abbrev pub leads_accepted : Setup → Bool → Bool
leads_accepted setup.CloseRecovery linked = true
leads_accepted s linked = linked

-- A step comes into one of these phases, and where the writer is connected the connection is there.
abbrev pub leads_in : Phase → Bool → Bool
leads_in (phase.Wanted s) linked = true
leads_in (phase.Stamped s stamp) linked = true
leads_in (phase.Requested s stamp) linked = linked
leads_in (phase.Accepted s stamp) linked = leads_accepted s linked
leads_in phase.Opened linked = linked
leads_in (phase.Streaming sent) linked = linked
leads_in phase.Finished linked = true
leads_in (phase.Failed f) linked = true
leads_in other linked = false

-- how the setup ended of a writer that failed so
abbrev pub failed_as : {I O : Type 0} → Failure → Rebuilt I O
failed_as (failure.Abandoned member) = rebuilt.Abandoned member
failed_as (failure.AllBad member) = rebuilt.AllBad member
failed_as (failure.Lost recovery) = rebuilt.Lost recovery
failed_as (failure.Refused why) = rebuilt.Refused why

-- more can be done, or not
abbrev pub moved_if : {I O : Type 0} → Bool → RebuildStep I O
moved_if true = step.Moved
moved_if false = step.Waiting

-- The connection is handed over, with what was received there and not yet taken.
abbrev pub Streams : {I O : Type 0} → Option (Link I O) → Option (Link I O) → RebuildStep I O → Type 0
Streams None new result = ⊥
Streams (Some l) new result = (new ≡ None) × (result ≡ step.Ended (rebuilt.Streaming l.end l.heard.received))

-- It was seen what stands next, or there was no memory for that.
abbrev pub Sees : {I O : Type 0} → WriterRecord → Link I O → Looked → RebuildStep I O → Type 0
Sees w l looked.Memory result = result ≡ step.Ended rebuilt.Memory
Sees w l looked.Known result = result ≡ moved_if (is_some l.heard.next || has_own_step w)

-- Where an answer is awaited it is looked at what stands next.
pub record AwaitsOn {I O : Type 0} (i : link_in.Ghosts I) (w : WriterRecord) (old new : Link I O)
    (result : RebuildStep I O) : Type 0 where
  pub found : Looked
  pub looks : LooksAt i old new found
  pub sees : Sees w new found result

abbrev pub Awaits : {I O : Type 0} → link_in.Ghosts I → WriterRecord → Option (Link I O) → Option (Link I O)
    → RebuildStep I O → Type 0
Awaits i w (Some old) (Some new) result = AwaitsOn i w old new result
Awaits i w old new result = ⊥

-- It ends so, and what the setup holds stays.
abbrev pub EndsAs : {I O : Type 0} → Option (Link I O) → Option (Link I O) → RebuildStep I O → RebuildStep I O
    → Type 0
EndsAs old new why result = (new ≡ old) × (result ≡ why)

abbrev pub ReportsAccepted : {I O : Type 0} → Setup → Option (Link I O) → Option (Link I O) → RebuildStep I O → Type 0
ReportsAccepted setup.Create old new result = Streams old new result
ReportsAccepted s old new result = EndsAs old new step.Moved result

-- How a step ends by where the writer is then: the setup has ended, or more can be done, or not.
abbrev pub ReportsAt : {I O : Type 0} → link_in.Ghosts I → Phase → WriterRecord → Option (Link I O)
    → Option (Link I O) → RebuildStep I O → Type 0
ReportsAt i (phase.Accepted s stamp) w old new result = ReportsAccepted s old new result
ReportsAt i phase.Opened w old new result = Streams old new result
ReportsAt i (phase.Streaming sent) w old new result = Streams old new result
ReportsAt i phase.Finished w old new result = EndsAs old new (step.Ended rebuilt.Closed) result
ReportsAt i (phase.Failed f) w old new result = EndsAs old new (step.Ended (failed_as f)) result
ReportsAt i (phase.Requested s stamp) w old new result = Awaits i w old new result
ReportsAt i other w old new result = EndsAs old new (moved_if (has_own_step w)) result

-- The same, but where memory ran out in the action.
abbrev pub Reports : {I O : Type 0} → link_in.Ghosts I → Acted → WriterRecord → Option (Link I O) → Option (Link I O)
    → RebuildStep I O → Type 0
Reports i acted.Memory w old new result = EndsAs old new (step.Ended rebuilt.Memory) result
Reports i other w old new result = ReportsAt i w.phase w old new result
