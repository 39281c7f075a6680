-- The last of the books that are left is given back.
use Rattle.std.proofs.Common.{◌≡◌, ◌<◌, ℕ, Some, List, get_or, slice_get, take, length, sym, subst, ◌∙◌, arith}
use Rattle.hd_base.specs.declared.numbers.BlockId.{BlockId}
use Rattle.play_nodes.specs.ReplicaFiles.BookState.{BookState}
use Rattle.node_opening.specs.Closing.{NodeCloses}
use Rattle.node_opening.proofs.ListLemmas.{none_left, element_or}
use Rattle.node_opening.proofs.CloseLemmas.{gives, close_none, close_more, lent_last, left_within, left_last, left_less}
use Rattle.node_opening.proofs.closing.give_back_books.Goals as goal

pub loop-book-init : goal.loop-book-init
loop-book-init g c = record { left = record { within = c.requires.within; lent = c.requires.lent }; closes = λ end n. n }

pub bounds-blocks-len : goal.bounds-blocks-len
bounds-blocks-len g c =
    let s = g.S.Shelf in
    let blocks = c.args.blocks.now in
    let a = c.loop-book.shelf in
    let xs = c.pop.new.self.items in
    let at : c.len.result ≡ length xs = c.len.ensures ∙ c.pop.new.self.ok.0 in
    let within : length xs < length blocks = left_within s blocks xs c.loop-book.books.items c.in-Some.book a c.in-Some.ensures.items c.loop-book.invariant.left in
    subst (λ (n : ℕ). n < length blocks) (sym at) within

pub give_back-requires : goal.give_back-requires
give_back-requires g c =
    let s = g.S.Shelf in
    let blocks = c.args.blocks.now in
    let a = c.loop-book.shelf in
    let xs = c.pop.new.self.items in
    let at : c.len.result ≡ length xs = c.len.ensures ∙ c.pop.new.self.ok.0 in
    let within : length xs < length blocks = left_within s blocks xs c.loop-book.books.items c.in-Some.book a c.in-Some.ensures.items c.loop-book.invariant.left in
    let none : BlockId = record { 0 = 0 } in
    let block = get_or blocks c.len.result none in
    let here = subst (λ (n : ℕ). slice_get blocks n ≡ Some block) at (element_or blocks c.len.result none (subst (λ (n : ℕ). n < length blocks) (sym at) within)) in
    let last = left_last s blocks xs c.loop-book.books.items c.in-Some.book block a c.in-Some.ensures.items here c.loop-book.invariant.left in
    lent_last s (take (length xs) blocks) block a last.lent

pub loop-book-preserved : goal.loop-book-preserved
loop-book-preserved g c =
    let s = g.S.Shelf in
    let blocks = c.args.blocks.now in
    let a = c.loop-book.shelf in
    let xs = c.pop.new.self.items in
    let at : c.len.result ≡ length xs = c.len.ensures ∙ c.pop.new.self.ok.0 in
    let within : length xs < length blocks = left_within s blocks xs c.loop-book.books.items c.in-Some.book a c.in-Some.ensures.items c.loop-book.invariant.left in
    let none : BlockId = record { 0 = 0 } in
    let block = get_or blocks c.len.result none in
    let here = subst (λ (n : ℕ). slice_get blocks n ≡ Some block) at (element_or blocks c.len.result none (subst (λ (n : ℕ). n < length blocks) (sym at) within)) in
    let last = left_last s blocks xs c.loop-book.books.items c.in-Some.book block a c.in-Some.ensures.items here c.loop-book.invariant.left in
    let d = g.S.Drawer.Files in
    let x = c.in-Some.book in
    let b = c.give_back.new.self in
    let given = gives s d x a b block c.close_book-drawer.result.0 c.close_book-drawer.ensures.drawer c.close_book-drawer.ensures.kept c.give_back.ensures.files c.give_back.ensures.lent c.give_back.ensures.count in
    record {
      left = left_less s blocks xs block a b last c.give_back.ensures.lent;
      closes = λ end n. c.loop-book.invariant.closes end (subst (λ (ys : List (BookState g.row.S-Drawer.Denot)). NodeCloses s d blocks ys a end) (sym {A = List (BookState g.row.S-Drawer.Denot)} c.in-Some.ensures.items)
          (close_more s d blocks xs x block a b end here given n));
    }

pub returns : goal.returns
returns g c =
    let s = g.S.Shelf in
    let d = g.S.Drawer.Files in
    let a = c.loop-book.shelf in
    let none : length c.loop-book.books.items ≡ 0 = omega (arith, c.loop-book.books.ok.0, c.in_default.ensures.cases.0) in
    c.loop-book.invariant.closes a (subst (λ (ys : List (BookState g.row.S-Drawer.Denot)). NodeCloses s d c.args.blocks.now ys a a) (sym (none_left c.loop-book.books.items none)) (close_none s d c.args.blocks.now a))
