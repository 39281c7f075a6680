-- A block's files are settled.
use Rattle.std.proofs.Common.{◌++◌, subst, sym, rules}
use Rattle.std.proofs.lemmas.Result.{err_from_is_err_and}
use Rattle.std.specs.Prelude.{Ok}
use Rattle.replica_calls.specs.CallLists.{remove_list}
use Rattle.restart_scan.specs.Blocks.{scanned_none}
use Rattle.restart_scan.specs.Reading.{settle_list, names_of, read_scanned}
use Rattle.restart_scan.specs.Settling.{ScansDrawer}
use Rattle.restart_scan.proofs.DrawerLemmas.{drawer_done, drawer_failed, told_pair, told_none, told_finds}
use Rattle.restart_scan.proofs.drawers.settle.Goals as goal

pub remove_temporary-requires : goal.remove_temporary-requires
remove_temporary-requires g c =
    told_finds (g.F.Files.files c.args.drawer.now) c.args.block (remove_list c.args.temporary.now) scanned_none
    (told_none (g.F.Files.files c.args.drawer.now) c.args.block c.args.temporary.now c.args.found c.requires.names c.requires.read c.in_default.is)

pub returns-in_err-remove_temporary : goal.returns-in_err-remove_temporary
returns-in_err-remove_temporary g c =
    let failed = err_from_is_err_and c.from_residual.result c.from_residual.ensures.1 in
    rw (failed.1, failed.2)
    (drawer_failed g.F.Files c.args.block c.args.drawer.now c.remove_temporary.new.drawer (remove_list c.args.temporary.now) scanned_none _ c.requires.only
    (told_none (g.F.Files.files c.args.drawer.now) c.args.block c.args.temporary.now c.args.found c.requires.names c.requires.read c.in_default.is) c.in_err-remove_temporary.ensures)

pub returns-in_default : goal.returns-in_default
returns-in_default g c =
    drawer_done g.F.Files c.args.block c.args.drawer.now c.remove_temporary.new.drawer (remove_list c.args.temporary.now) scanned_none _ c.requires.only
    (told_none (g.F.Files.files c.args.drawer.now) c.args.block c.args.temporary.now c.args.found c.requires.names c.requires.read c.in_default.is) c.in_ok-remove_temporary.ensures

pub settle_pair-requires : goal.settle_pair-requires
settle_pair-requires g c =
    told_finds (g.F.Files.files c.args.drawer.now) c.args.block (remove_list c.args.temporary.now ++ settle_list (names_of c.args.block.0 c.in-Some.pair) c.in-Some.pair) (read_scanned c.args.block c.in-Some.pair)
    (told_pair (g.F.Files.files c.args.drawer.now) c.args.block c.args.temporary.now c.args.found c.in-Some.pair (search rules) c.requires.names c.requires.read c.in-Some.is)

pub returns-in_err-settle_pair : goal.returns-in_err-settle_pair
returns-in_err-settle_pair g c =
    let failed = err_from_is_err_and c.from_residual-in_err-settle_pair.result c.from_residual-in_err-settle_pair.ensures.1 in
    rw (failed.1, failed.2)
    (drawer_failed g.F.Files c.args.block c.args.drawer.now c.settle_pair.new.drawer (remove_list c.args.temporary.now ++ settle_list (names_of c.args.block.0 c.in-Some.pair) c.in-Some.pair) (read_scanned c.args.block c.in-Some.pair) _ c.requires.only
    (told_pair (g.F.Files.files c.args.drawer.now) c.args.block c.args.temporary.now c.args.found c.in-Some.pair (search rules) c.requires.names c.requires.read c.in-Some.is) c.in_err-settle_pair.ensures)

pub returns : goal.returns
returns g c =
    subst (λ x. ScansDrawer g.F.Files c.args.block c.args.drawer.now c.settle_pair.new.drawer (Ok x)) (sym c.found.ensures)
    (drawer_done g.F.Files c.args.block c.args.drawer.now c.settle_pair.new.drawer (remove_list c.args.temporary.now ++ settle_list (names_of c.args.block.0 c.in-Some.pair) c.in-Some.pair) (read_scanned c.args.block c.in-Some.pair) _ c.requires.only
    (told_pair (g.F.Files.files c.args.drawer.now) c.args.block c.args.temporary.now c.args.found c.in-Some.pair (search rules) c.requires.names c.requires.read c.in-Some.is) c.in_ok-settle_pair.ensures)
