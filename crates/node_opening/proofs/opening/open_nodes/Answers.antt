-- The nodes listen, their shelves are empty, and have lent all blocks; or one of these failed.
use Rattle.std.proofs.Common.{List, Err, refl, ap, subst, ◌∙◌}
use Rattle.std.proofs.lemmas.Result.{err_from_is_err_and}
use Rattle.hd_base.specs.declared.numbers.BlockId.{BlockId}
use Rattle.node_opening.specs.Shelves.{EachShelf, IsGivenBack}
use Rattle.node_opening.specs.Lending.{HaveBooks}
use Rattle.node_opening.specs.Opening.{HasOpenCause}
use Rattle.node_opening.proofs.ListLemmas.{if_err, on_err}
use Rattle.node_opening.proofs.OpenLemmas.{opened, first_stand, still_empty, given_same, given_checked, given_both, cause_road, cause_shelf, cause_memory}
use Rattle.node_opening.proofs.opening.open_nodes.Goals as goal

pub returns-in_err-listen_all-clause-cause : goal.returns-in_err-listen_all-clause-cause
returns-in_err-listen_all-clause-cause g c =
    let xs = c.args.shelves.now in
    let why = c.in_err-listen_all.field-0.0 in
    let e = err_from_is_err_and c.from_residual.result c.from_residual.ensures.1 in
    if_err c.from_residual.result why (HasOpenCause g.R.Roads g.S.Shelf c.args.roads.now c.listen_all.new.roads xs xs) (e.1 ∙ ap Err e.2)
    (cause_road g.R.Roads g.S.Shelf c.args.roads.now c.listen_all.new.roads xs xs why c.in_err-listen_all.ensures.cause)

pub returns-in_err-listen_all-clause-given_back : goal.returns-in_err-listen_all-clause-given_back
returns-in_err-listen_all-clause-given_back g c =
    let xs = c.args.shelves.now in
    on_err c.from_residual.result (EachShelf (IsGivenBack g.S.Shelf) xs xs) (given_same g.S.Shelf xs)

pub returns-in_err-check_all-clause-cause : goal.returns-in_err-check_all-clause-cause
returns-in_err-check_all-clause-cause g c =
    let old = c.args.shelves.now in
    let mid = c.check_all.new.shelves in
    let why = c.in_err-check_all.field-0.0 in
    let e = err_from_is_err_and c.from_residual-in_err-check_all.result c.from_residual-in_err-check_all.ensures.1 in
    if_err c.from_residual-in_err-check_all.result why (HasOpenCause g.R.Roads g.S.Shelf c.args.roads.now c.listen_all.new.roads old mid) (e.1 ∙ ap Err e.2)
    (cause_shelf g.R.Roads g.S.Shelf c.args.roads.now c.listen_all.new.roads old mid why c.in_err-check_all.ensures.1)

pub returns-in_err-check_all-clause-given_back : goal.returns-in_err-check_all-clause-given_back
returns-in_err-check_all-clause-given_back g c =
    let old = c.args.shelves.now in
    let mid = c.check_all.new.shelves in
    on_err c.from_residual-in_err-check_all.result (EachShelf (IsGivenBack g.S.Shelf) old mid) (given_checked g.S.Shelf old mid c.in_err-check_all.ensures.0)

pub lend_all-requires-clause-empty : goal.lend_all-requires-clause-empty
lend_all-requires-clause-empty g c = λ κs inside.
    still_empty g.S.Shelf g.S.Drawer.Files c.args.shelves.now c.check_all.new.shelves c.in_ok-check_all.ensures.0 c.in_ok-check_all.ensures.1

pub returns-in_err-nodes-clause-cause : goal.returns-in_err-nodes-clause-cause
returns-in_err-nodes-clause-cause g c =
    let old = c.args.shelves.now in
    let new = c.lend_all.new.shelves in
    let e = err_from_is_err_and c.from_residual-in_err-nodes.result c.from_residual-in_err-nodes.ensures.1 in
    if_err c.from_residual-in_err-nodes.result e.0 (HasOpenCause g.R.Roads g.S.Shelf c.args.roads.now c.listen_all.new.roads old new) e.1
    (cause_memory g.R.Roads g.S.Shelf c.args.roads.now c.listen_all.new.roads old new e.0 e.2)

pub returns-in_err-nodes-clause-given_back : goal.returns-in_err-nodes-clause-given_back
returns-in_err-nodes-clause-given_back g c =
    let old = c.args.shelves.now in
    let new = c.lend_all.new.shelves in
    on_err c.from_residual-in_err-nodes.result (EachShelf (IsGivenBack g.S.Shelf) old new)
    (given_both g.S.Shelf old c.check_all.new.shelves new c.in_ok-check_all.ensures.0 c.in_err-nodes.ensures.given_back)

pub returns-clause-opened : goal.returns-clause-opened
returns-clause-opened g c =
    let s = g.S.Shelf in
    let d = g.S.Drawer.Files in
    let mid = c.check_all.new.shelves in
    let new = c.lend_all.new.shelves in
    opened s d c.args.blocks.items c.args.shelves.now mid new (record { blocks = c.args.blocks; connections = c.new.result; nodes = c.in_ok-nodes.nodes }) refl c.new.ensures.items c.in_ok-check_all.ensures
    (subst (λ (bs : List BlockId). HaveBooks s d bs mid new c.in_ok-nodes.nodes.items) c.deref.ensures.value c.in_ok-nodes.ensures.lent)

pub returns-clause-stands : goal.returns-clause-stands
returns-clause-stands g c = λ unused.
    first_stand g.S.Shelf g.S.Drawer.Files g.R.Roads g.R.Inward.LinkIn g.R.Outward.LinkOut c.starts_are_nets.ensures c.args.blocks.items c.args.shelves.now c.lend_all.new.shelves
    (record { blocks = c.args.blocks; connections = c.new.result; nodes = c.in_ok-nodes.nodes }) c.listen_all.new.roads c.requires.distinct (returns-clause-opened g c) (c.in_ok-listen_all.ensures.shows unused)
