-- By what a turn's call on the book and its sending are.
use Rattle.pipe_member.proofs.SteppingLemmas.{turns_step}
use Rattle.pipe_member.proofs.laws.turns_are_steps.Goals as goal

pub returns : goal.returns
returns g c = turns_step g.F.Files g.O.LinkOut
