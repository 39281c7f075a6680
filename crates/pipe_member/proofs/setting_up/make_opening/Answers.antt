-- What a request is answered at once is no ack.
use Rattle.replica_core.specs.Transitions.{transition}
use Rattle.pipe_member.proofs.SetupLaws.{listed_first, opened_of}
use Rattle.pipe_member.proofs.setting_up.make_opening.Goals as goal

pub upward_text-requires : goal.upward_text-requires
upward_text-requires c = listed_first c.args.conn c.args.op.now c.refusal_at.result c.set_up-unasked.result c.first_by-first.result c.set_up-unasked.ensures c.first_by-first.ensures

pub upward_text-requires-2 : goal.upward_text-requires-2
upward_text-requires-2 c = rw c.refuse.ensures tt

pub returns : goal.returns
returns c =
    opened_of c.args.conn c.args.op.now (transition c.args.replica.now c.args.event.now) c.set_up-asked.result c.set_up-unasked.result c.refusal_at.result c.first_by-first.result c.refuse.result _ _
    c.set_up-asked.ensures c.set_up-unasked.ensures c.refusal_at.ensures c.first_by-first.ensures c.refuse.ensures c.in_ok-answer.ensures c.in_ok-fault.ensures
