-- A block was lent, or given back.
use Rattle.std.proofs.Common.{◌≡◌, ℕ, Bool, Option, option_map, sym, ap, subst, ◌∙◌}
use Rattle.hd_base.specs.FileMaps.{FileMap, OnlyOf, part_of}
use Rattle.node_opening.proofs.FileLemmas.{part_only}
use Rattle.node_opening.proofs.LendLemmas.{unlent_none, unlent_back, marked_here}
use Rattle.node_restarts.specs.Making.{HoldsSeen, IsBookFor}
use Rattle.node_restarts.proofs.LendingLemmas.{carried_cause}
use Rattle.node_restarts.proofs.lending.lend_found.Goals as goal

pub returns-in_default : goal.returns-in_default
returns-in_default g c = record {
  unlent = unlent_none g.S.Shelf g.S.Drawer.Files c.args.block c.args.shelf.now c.lend.new.self c.in_default.ensures.err c.in_default.ensures.err_lent c.in_default.ensures.faults;
  cause = tt;
}

pub make_book-requires-clause-only : goal.make_book-requires-clause-only
make_book-requires-clause-only g c = subst (λ (f : Option FileMap). OnlyOf c.args.block.0 f) (sym c.in-Ok.ensures.drawer) (part_only c.args.block.0 (g.S.Shelf.files c.args.shelf.now))

pub make_book-requires-clause-held : goal.make_book-requires-clause-held
make_book-requires-clause-held g c = subst (λ (f : Option FileMap). HoldsSeen f c.args.block c.args.seen) (sym c.in-Ok.ensures.drawer) c.requires.held

pub give_back-requires : goal.give_back-requires
give_back-requires g c = ap (λ (f : ℕ → Bool). f c.args.block.0) c.in-Ok.ensures.lent ∙ marked_here (g.S.Shelf.lent c.args.shelf.now) c.args.block.0

pub returns-in-Ok-make_book : goal.returns-in-Ok-make_book
returns-in-Ok-make_book g c =
    let l = c.in-Ok.ensures in
    let book = c.in-Ok-make_book.book in
    record {
      made = subst (λ (f : Option FileMap). IsBookFor g.S.Drawer.Files c.args.block c.args.seen f book) l.drawer c.in-Ok-make_book.ensures.made;
      rest = l.rest;
      lent = l.lent;
      faults = l.faults;
    }

pub returns-in-Err : goal.returns-in-Err
returns-in-Err g c =
    let s = g.S.Shelf in
    let d = g.S.Drawer.Files in
    let l = c.in-Ok.ensures in
    let block = c.args.block in
    let back = c.in-Err.ensures.given_back in
    let part : d.files c.in-Err.drawer ≡ option_map (part_of block.0) (s.files c.args.shelf.now) = back.files ∙ l.drawer in
    let only : OnlyOf block.0 (d.files c.in-Err.drawer) = subst (λ (f : Option FileMap). OnlyOf block.0 f) (sym part) (part_only block.0 (s.files c.args.shelf.now)) in
    record {
      unlent = unlent_back s d block c.args.shelf.now c.lend.new.self c.give_back.new.self c.in-Err.drawer l.rest l.lent l.faults part (c.give_back.ensures.files only) c.give_back.ensures.lent c.give_back.ensures.count;
      cause = carried_cause (s.faults c.args.shelf.now) (s.faults c.lend.new.self) (s.faults c.give_back.new.self) (d.faults c.in-Err.drawer) (d.faults c.in-Ok.drawer) c.in-Err.fault l.faults l.fresh c.give_back.ensures.count back.cause;
    }
