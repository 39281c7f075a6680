-- The event that is booked is a step.
use Rattle.std.proofs.Common.{sym, ◌∙◌}
use Rattle.block_recovery.proofs.ServingLaws.{request_is_step}
use Rattle.block_recovery.proofs.telling.serve_recovery.Goals as goal

pub tell_event-requires : goal.tell_event-requires
tell_event-requires g c = request_is_step c.args.op.now c.in-Ok.event (sym c.recovery_event.ensures ∙ c.in-Ok.is)
