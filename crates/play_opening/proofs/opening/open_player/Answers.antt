-- The clients, the office and the nodes are made; or one of these failed, and nothing is lent.
use Rattle.std.proofs.Common.{List, Err, length, refl, ap, subst, ◌∙◌}
use Rattle.std.proofs.lemmas.Result.{err_from_is_err_and}
use Rattle.hd_base.specs.declared.numbers.BlockId.{BlockId}
use Rattle.play.specs.NodeOpening.Shelves.{EachShelf, IsGivenBack}
use Rattle.play.specs.NodeOpening.Opening.{HasOpenCause}
use Rattle.play.proofs.NodeOpening.ListLemmas.{if_err, on_err}
use Rattle.play.proofs.NodeOpening.OpenLemmas.{given_same, cause_memory}
use Rattle.play_opening.specs.Opening.{AreNewClients}
use Rattle.play_opening.proofs.OpenLemmas.{play_stands}
use Rattle.play_opening.proofs.opening.open_player.Goals as goal

pub returns-in_err-clients-clause-cause : goal.returns-in_err-clients-clause-cause
returns-in_err-clients-clause-cause g c =
    let xs = c.args.shelves.now in
    let road = c.args.roads.now in
    let e = err_from_is_err_and c.from_residual.result c.from_residual.ensures.1 in
    if_err c.from_residual.result e.0 (HasOpenCause g.R.Roads g.S.Shelf road road xs xs) e.1 (cause_memory g.R.Roads g.S.Shelf road road xs xs e.0 e.2)

pub returns-in_err-clients-clause-given_back : goal.returns-in_err-clients-clause-given_back
returns-in_err-clients-clause-given_back g c =
    let xs = c.args.shelves.now in
    on_err c.from_residual.result (EachShelf (IsGivenBack g.S.Shelf) xs xs) (given_same g.S.Shelf xs)

pub returns-in_err-office-clause-cause : goal.returns-in_err-office-clause-cause
returns-in_err-office-clause-cause g c =
    let xs = c.args.shelves.now in
    let road = c.args.roads.now in
    let e = err_from_is_err_and c.from_residual-in_err-office.result c.from_residual-in_err-office.ensures.1 in
    if_err c.from_residual-in_err-office.result e.0 (HasOpenCause g.R.Roads g.S.Shelf road road xs xs) e.1 (cause_memory g.R.Roads g.S.Shelf road road xs xs e.0 e.2)

pub returns-in_err-office-clause-given_back : goal.returns-in_err-office-clause-given_back
returns-in_err-office-clause-given_back g c =
    let xs = c.args.shelves.now in
    on_err c.from_residual-in_err-office.result (EachShelf (IsGivenBack g.S.Shelf) xs xs) (given_same g.S.Shelf xs)

pub returns-in_err-running-clause-cause : goal.returns-in_err-running-clause-cause
returns-in_err-running-clause-cause g c =
    let xs = c.args.shelves.now in
    let road = c.args.roads.now in
    let e = err_from_is_err_and c.from_residual-in_err-running.result c.from_residual-in_err-running.ensures.1 in
    if_err c.from_residual-in_err-running.result e.0 (HasOpenCause g.R.Roads g.S.Shelf road road xs xs) e.1 (cause_memory g.R.Roads g.S.Shelf road road xs xs e.0 e.2)

pub returns-in_err-running-clause-given_back : goal.returns-in_err-running-clause-given_back
returns-in_err-running-clause-given_back g c =
    let xs = c.args.shelves.now in
    on_err c.from_residual-in_err-running.result (EachShelf (IsGivenBack g.S.Shelf) xs xs) (given_same g.S.Shelf xs)

pub returns-in_err-nodes-clause-cause : goal.returns-in_err-nodes-clause-cause
returns-in_err-nodes-clause-cause g c =
    let old = c.args.shelves.now in
    let new = c.open_nodes.new.shelves in
    let why = c.in_err-nodes.field-0.0 in
    let e = err_from_is_err_and c.from_residual-in_err-nodes.result c.from_residual-in_err-nodes.ensures.1 in
    if_err c.from_residual-in_err-nodes.result why (HasOpenCause g.R.Roads g.S.Shelf c.args.roads.now c.open_nodes.new.roads old new) (e.1 ∙ ap Err e.2) c.in_err-nodes.ensures.cause

pub returns-in_err-nodes-clause-given_back : goal.returns-in_err-nodes-clause-given_back
returns-in_err-nodes-clause-given_back g c =
    on_err c.from_residual-in_err-nodes.result (EachShelf (IsGivenBack g.S.Shelf) c.args.shelves.now c.open_nodes.new.shelves) c.in_err-nodes.ensures.given_back

pub returns-clause-opened : goal.returns-clause-opened
returns-clause-opened g c = record {
  nodes = c.in_ok-nodes.ensures.opened;
  clients = subst (λ (bs : List BlockId). AreNewClients bs c.in_ok-clients.clients.items) c.deref.ensures.value c.in_ok-clients.ensures;
  reads = c.new-reads.ensures.none;
  recoveries = c.new-recoveries.ensures.none;
  office = c.in_ok-office.ensures;
  running = c.in_ok-running.ensures;
  events = c.new-events.ensures.items;
}

pub returns-clause-stands : goal.returns-clause-stands
returns-clause-stands g c = λ unused.
    play_stands g.S.Shelf g.S.Drawer.Files g.R.Roads g.R.Inward.LinkIn g.R.Outward.LinkOut c.args.blocks.items c.args.shelves.now c.open_nodes.new.shelves (length c.args.shelves.now) _ c.open_nodes.new.roads
    c.requires.ports refl c.requires.distinct (returns-clause-opened g c) c.new-reads.ensures.shows c.new-recoveries.ensures.shows (c.in_ok-nodes.ensures.stands unused)
