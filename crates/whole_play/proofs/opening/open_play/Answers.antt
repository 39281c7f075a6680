-- The play that is opened is that before the first line behind the head.
use Rattle.whole_play.proofs.OpenLemmas.{begins, opened_here}
use Rattle.whole_play.proofs.opening.open_play.Goals as goal

pub open_player-requires-clause-ports : goal.open_player-requires-clause-ports
open_player-requires-clause-ports g c κs within = c.requires.fits.few

pub open_player-requires-clause-distinct : goal.open_player-requires-clause-distinct
open_player-requires-clause-distinct g c κs within = c.in_ok-blocks.ensures.distinct _ c.requires.fits.fit

pub returns-clause-begins : goal.returns-clause-begins
returns-clause-begins g c =
    begins g.S.Shelf g.S.Drawer.Files g.R.Roads g.R.Inward.LinkIn g.R.Outward.LinkOut c.args.head c.args.lines.now c.args.shelves.now c.open_player.new.shelves c.open_player.new.roads c.in_ok-blocks.blocks.items c.in_ok-player.player c.new-generator.result c.in_ok-faults.faults c.new.result
    c.requires.fits c.in_ok-blocks.ensures c.in_ok-player.ensures.opened (c.in_ok-player.ensures.stands c.requires.unused) c.new-generator.ensures c.in_ok-faults.ensures c.new.ensures

pub returns-clause-opened : goal.returns-clause-opened
returns-clause-opened g c =
    opened_here g.S.Shelf g.S.Drawer.Files g.R.Roads g.R.Inward.LinkIn g.R.Outward.LinkOut c.in_ok-blocks.blocks.items c.args.shelves.now c.open_player.new.shelves (record { nodes = c.args.head.nodes; player = c.in_ok-player.player; generator = c.new-generator.result; faults = c.in_ok-faults.faults; live = c.new.result })
    (c.in_ok-blocks.ensures.distinct _ c.requires.fits.fit) c.in_ok-player.ensures.opened
