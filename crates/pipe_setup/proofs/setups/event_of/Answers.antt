-- What the request is, or why it is refused, is as the member's rules say.
use Rattle.std.proofs.Common.{sym, ◌∙◌}
use Rattle.pipe_setup.proofs.RequestLemmas.{request_sets_up, request_is_refused}
use Rattle.pipe_setup.proofs.setups.event_of.Goals as goal

pub unbooked-requires : goal.unbooked-requires
unbooked-requires g c = request_is_refused c.args.conn c.args.op.now c.rule.result c.in-Err.refusal (sym c.request_event.ensures ∙ c.in-Err.is)

pub returns-in-Ok-clause-setup : goal.returns-in-Ok-clause-setup
returns-in-Ok-clause-setup g c = request_sets_up c.args.conn c.args.op.now c.rule.result c.in-Ok.event (sym c.request_event.ensures ∙ c.in-Ok.is)
