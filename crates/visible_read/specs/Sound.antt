-- What holds of a read between two steps.
use Rattle.std.specs.Prelude.{◌≡◌, Result, Ok, Err}
use Rattle.hd_base.specs.SumRules.{IsChunkSize}
use Rattle.request_refusals.specs.declared.refusals.RequestRefusal.{RequestRefusal}
use Rattle.read_core.specs.declared.serving.ServePhase.TheVariants as phase
use Rattle.read_core.specs.Servings.{ServingState}
use Rattle.visible_read.specs.declared.answering.Course.{Course}
use Rattle.visible_read.specs.declared.answering.Course.TheVariants as course

-- A packet is next, under a rule that has a chunk size.
pub record IsNext (s : ServingState) : Type 0 where
  pub chunk : IsChunkSize s.rule.chunk
  pub sending : s.phase ≡ phase.Sending

-- the same of a read that is served
abbrev pub IsBegun : Result ServingState RequestRefusal → Type 0
IsBegun (Ok s) = IsNext s
IsBegun (Err refusal) = Unit {0}

-- the same where packets are sent
abbrev pub IsSound : Course → Type 0
IsSound course.Asked = Unit {0}
IsSound (course.Sending s) = IsNext s
IsSound course.Over = Unit {0}
