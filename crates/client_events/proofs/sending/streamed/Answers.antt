-- Memory ran out before anything was sent.
use Rattle.std.proofs.Common.{refl}
use Rattle.member_events.proofs.SetupKnown.{pass_same}
use Rattle.client_events.proofs.sending.streamed.Goals as goal

pub returns-in-Memory-clause-passes : goal.returns-in-Memory-clause-passes
returns-in-Memory-clause-passes g c = pass_same g.R.Roads g.I.LinkIn g.O.LinkOut c.args.roads.now c.args.roads.now refl
