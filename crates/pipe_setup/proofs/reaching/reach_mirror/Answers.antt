-- The request is the one that goes on, and so its port is one.
use Rattle.std.proofs.Common.{sym, ap, ◌∙◌, option_map}
use Rattle.pipe_setup.proofs.ReachingLemmas.{port_is_one}
use Rattle.pipe_setup.proofs.reaching.reach_mirror.Goals as goal

pub first_port-requires : goal.first_port-requires
first_port-requires g c = port_is_one c.args.node c.args.op.now c.in-Some.text.items (sym c.in-Ok.ensures ∙ ap (option_map (λ text. text.items)) c.in-Some.is)
