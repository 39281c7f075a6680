-- Why a replica refuses an event, if it does.
use Rattle.std.specs.Prelude.{Option, Some, None, Ok, Err}
use Rattle.replica_core.specs.declared.refusals.Refusal.{Refusal}
use Rattle.replica_core.specs.Transitions.{Outcome}

abbrev pub refused_in : Outcome → Option Refusal
refused_in (Ok taken) = None
refused_in (Err refusal) = Some refusal
