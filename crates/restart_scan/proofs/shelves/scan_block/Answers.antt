-- One block is scanned.
use Rattle.restart_scan.proofs.ShelfLemmas.{block_scanned}
use Rattle.restart_scan.proofs.shelves.scan_block.Goals as goal

pub returns : goal.returns
returns g c =
    let e = c.in_ok-drawer.ensures in
    block_scanned g.S.Shelf g.S.Drawer.Files c.args.block c.args.shelf.now c.lend.new.self c.give_back.new.self c.in_ok-drawer.drawer c.scan_drawer-scanned.new.drawer c.scan_drawer-scanned.result
    e.drawer e.fresh e.rest e.lent e.faults c.scan_drawer-scanned.ensures c.give_back.ensures.files c.give_back.ensures.lent c.give_back.ensures.count
