-- The book of an absent replica, or the drawer again.
use Rattle.std.proofs.Common.{ap}
use Rattle.node_restarts.proofs.MakingLemmas.{absent_for}
use Rattle.node_restarts.proofs.making.absent_book.Goals as goal

pub returns-in-Ok-clause-made : goal.returns-in-Ok-clause-made
returns-in-Ok-clause-made g c = absent_for g.F.Files c.args.block c.args.drawer c.in-Ok.book c.in-Ok.ensures.made

pub returns-in-Err-clause-given_back : goal.returns-in-Err-clause-given_back
returns-in-Err-clause-given_back g c = record { files = ap g.F.Files.files c.in-Err.ensures.given_back; cause = tt }
