-- The books are closed, the shelf is scanned, and the books of what was found are made.
use Rattle.std.proofs.Common.{◌≡◌, List, IfSome, sym, ap, subst, ◌∙◌, arith}
use Rattle.hd_base.specs.declared.numbers.BlockId.{BlockId}
use Rattle.restart_scan.specs.declared.found.Seen.{Seen}
use Rattle.node_restarts.specs.Lending.{HasFound, IsUnmade}
use Rattle.node_restarts.specs.Making.{AllHeld}
use Rattle.node_restarts.specs.Restarting.{HasRestarted, AreGivenUp}
use Rattle.node_restarts.specs.Seeking.{sought_of, found_of}
use Rattle.node_restarts.proofs.RestartingLemmas.{front_lent, held_after, scan_gives_up, lending_gives_up, has_restarted, scan_cause, lend_cause, carried_on, if_ok_map, on_err_map, if_err_map}
use Rattle.node_restarts.proofs.restarting.restart_books.Goals as goal

pub close_books-requires-clause-lent : goal.close_books-requires-clause-lent
close_books-requires-clause-lent g c κs within = front_lent g.S.Shelf c.args.shelf.now c.args.blocks.now _ c.requires.count c.requires.lent

pub returns-in_default-clause-given_up : goal.returns-in_default-clause-given_up
returns-in_default-clause-given_up g c =
    scan_gives_up g.S.Shelf g.S.Drawer.Files c.args.blocks.now c.args.books.items c.args.shelf.now c.close_books.new.shelf c.requires.count c.requires.lent c.close_books.ensures.closes c.close_books.new.shelf (λ y lent. lent)

pub close_books-requires-2-clause-lent : goal.close_books-requires-2-clause-lent
close_books-requires-2-clause-lent g c κs within = front_lent g.S.Shelf c.args.shelf.now c.args.blocks.now _ c.requires.count c.requires.lent

pub returns-in-Err-clause-given_up : goal.returns-in-Err-clause-given_up
returns-in-Err-clause-given_up g c =
    scan_gives_up g.S.Shelf g.S.Drawer.Files c.args.blocks.now c.args.books.items c.args.shelf.now c.close_books-2.new.shelf c.requires.count c.requires.lent c.close_books-2.ensures.closes c.scan.new.shelf c.in-Err.ensures.lent

pub returns-in-Err-clause-cause : goal.returns-in-Err-clause-cause
returns-in-Err-clause-cause g c =
    let s = g.S.Shelf in
    scan_cause (s.faults c.args.shelf.now) (s.faults c.close_books-2.new.shelf) (s.faults c.scan.new.shelf) c.in-Err.fault c.of_scan.result c.close_books-2.ensures.closes.count.never_falls c.in-Err.ensures.cause c.of_scan.ensures

pub returns-in-Err-clause-carried : goal.returns-in-Err-clause-carried
returns-in-Err-clause-carried g c =
    let s = g.S.Shelf in
    carried_on (s.faults c.args.shelf.now) _ (s.faults c.close_books-2.new.shelf) (s.faults c.scan.new.shelf) c.close_books-2.ensures.closes.count c.in-Err.ensures.cause.never_falls

pub lend_all-requires-clause-held : goal.lend_all-requires-clause-held
lend_all-requires-clause-held g c κs within =
    let is : c.deref-3.result.now ≡ found_of c.deref-2.result.now c.in-Ok-scan.found.replicas.items = c.deref-3.ensures.value ∙ c.found_of-replicas.ensures in
    subst (λ (rs : List Seen). IfSome (g.S.Shelf.files c.scan.new.shelf) (AllHeld rs)) (sym is)
    (held_after (g.S.Shelf.files c.close_books-2.new.shelf) (g.S.Shelf.files c.scan.new.shelf) c.in-Ok-scan.found c.deref-2.result.now c.in-Ok-scan.ensures.done c.in-Ok-scan.ensures.untold)

pub returns-clause-made : goal.returns-clause-made
returns-clause-made g c =
    let s = g.S.Shelf in
    let d = g.S.Drawer.Files in
    let blocks = c.args.blocks.now in
    let mid = c.scan.new.shelf in
    let end = c.lend_all.new.shelf in
    let found = c.in-Ok-scan.found in
    let sought : c.deref-2.result.now ≡ sought_of c.args.books.items = c.deref-2.ensures.value ∙ (c.in-Ok.ensures ∙ ap sought_of c.deref.ensures.value) in
    let is : c.deref-3.result.now ≡ found_of (sought_of c.args.books.items) found.replicas.items =
    c.deref-3.ensures.value ∙ (c.found_of-replicas.ensures ∙ ap (λ (bs : List BlockId). found_of bs found.replicas.items) sought) in
    if_ok_map c.lend_all.result (λ made. HasFound s d blocks c.deref-3.result.now mid end made.items) (λ made. HasRestarted s d blocks c.args.books.items c.args.shelf.now end made.items)
    (λ made h.
    has_restarted s d blocks c.args.books.items c.args.shelf.now c.close_books-2.new.shelf c.requires.count c.requires.lent c.close_books-2.ensures.closes c.requires.of_blocks c.close_books-2.ensures.numbers found
    mid end made.items c.in-Ok-scan.ensures.lent c.in-Ok-scan.ensures.done (subst (λ (rs : List Seen). HasFound s d blocks rs mid end made.items) is h))
    c.lend_all.ensures.made

pub returns-clause-given_up : goal.returns-clause-given_up
returns-clause-given_up g c =
    let s = g.S.Shelf in
    let d = g.S.Drawer.Files in
    on_err_map c.lend_all.result (IsUnmade s c.scan.new.shelf c.lend_all.new.shelf) (AreGivenUp s c.args.blocks.now c.args.shelf.now c.lend_all.new.shelf)
    (λ why u. lending_gives_up s d c.args.blocks.now c.args.books.items c.args.shelf.now c.close_books-2.new.shelf c.requires.count c.requires.lent c.close_books-2.ensures.closes c.scan.new.shelf c.lend_all.new.shelf why c.in-Ok-scan.ensures.lent u)
    c.lend_all.ensures.unmade

pub returns-clause-cause : goal.returns-clause-cause
returns-clause-cause g c =
    let s = g.S.Shelf in
    if_err_map c.lend_all.result (IsUnmade s c.scan.new.shelf c.lend_all.new.shelf) _
    (λ why u. lend_cause s c.args.shelf.now c.close_books-2.new.shelf c.scan.new.shelf c.lend_all.new.shelf why c.close_books-2.ensures.closes.count.never_falls c.in-Ok-scan.ensures.cause.never_falls u)
    c.lend_all.ensures.unmade

pub returns-clause-carried : goal.returns-clause-carried
returns-clause-carried g c =
    let s = g.S.Shelf in
    carried_on (s.faults c.args.shelf.now) _ (s.faults c.close_books-2.new.shelf) (s.faults c.lend_all.new.shelf) c.close_books-2.ensures.closes.count (omega (arith, c.in-Ok-scan.ensures.cause.never_falls, c.lend_all.ensures.never_falls))
