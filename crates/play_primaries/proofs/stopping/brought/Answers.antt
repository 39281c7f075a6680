-- All ends were brought back, or some are lost.
use Rattle.primary_events.proofs.PassLaws.{brings_pass}
use Rattle.play_primaries.proofs.stopping.brought.Goals as goal

pub returns-in-Ok-clause-pass : goal.returns-in-Ok-clause-pass
returns-in-Ok-clause-pass g c =
    let b = c.in-Ok.ensures.brings in
    brings_pass g.R.Roads g.I.LinkIn g.O.LinkOut c.args.primary.links.items b.left c.args.roads.now c.retire.new.roads b.brings

pub returns-in-Err-clause-pass : goal.returns-in-Err-clause-pass
returns-in-Err-clause-pass g c =
    let b = c.in-Err.ensures.loses in
    brings_pass g.R.Roads g.I.LinkIn g.O.LinkOut c.args.primary.links.items b.left c.args.roads.now c.retire.new.roads b.brings
