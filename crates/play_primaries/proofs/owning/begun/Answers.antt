-- A new primary begins, if there was memory for it.
use Rattle.play_primaries.proofs.BegunLaws.{begun_starves}
use Rattle.play_primaries.specs.declared.clients.PrimaryState.TheVariants as state
use Rattle.play_primaries.proofs.owning.begun.Goals as goal

pub returns-in-Err-clause-shows : goal.returns-in-Err-clause-shows
returns-in-Err-clause-shows g c = begun_starves g.D.Desk g.R.Roads g.I.LinkIn g.O.LinkOut c.args.recovery.now state.New c.args.office.now c.args.roads.now
