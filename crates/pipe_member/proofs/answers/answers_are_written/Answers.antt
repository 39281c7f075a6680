-- By how long the parts of a response are.
use Rattle.pipe_member.proofs.AnswerSizes.{success_fits, unreached_fits, below_fits, refused_fits}
use Rattle.pipe_member.proofs.answers.answers_are_written.Goals as goal

pub returns-clause-success : goal.returns-clause-success
returns-clause-success c = success_fits c.args.op.now

pub returns-clause-unreached : goal.returns-clause-unreached
returns-clause-unreached c = unreached_fits c.args.op.now

pub returns-clause-below : goal.returns-clause-below
returns-clause-below c = below_fits c.args.op.now

pub returns-clause-refused : goal.returns-clause-refused
returns-clause-refused c = refused_fits c.args.op.now c.args.refusal c.values_are_short.ensures
