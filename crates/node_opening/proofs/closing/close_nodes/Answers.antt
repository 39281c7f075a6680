-- The last of the nodes that are left is closed.
use Rattle.std.proofs.Common.{◌≡◌, ◌<◌, ℕ, List, Some, get_or, slice_get, slice_set, length, sym, subst, ◌∙◌, arith}
use Rattle.play_nodes.specs.declared.nodes.NodeBooks.{NodeBooks}
use Rattle.node_opening.specs.Closing.{NodesClose}
use Rattle.node_opening.proofs.ListLemmas.{element_or}
use Rattle.node_opening.proofs.CloseLemmas.{NodesAreLentOut, lent_start, close_end, nodes_more, nodes_within, nodes_last, nodes_less}
use Rattle.node_opening.proofs.closing.close_nodes.Goals as goal

pub loop-node-init : goal.loop-node-init
loop-node-init g c =
    record {
      lent = lent_start g.S.Shelf c.args.blocks.now c.args.nodes.items c.truncate.new.self.items c.args.shelves.now c.truncate.ensures.items c.requires.lent;
      closes = λ end n. n;
    }

pub bounds-shelves-len : goal.bounds-shelves-len
bounds-shelves-len g c =
    let blocks = c.args.blocks.now in
    let s = g.S.Shelf in
    let at : c.len.result ≡ length c.pop.new.self.items = c.len.ensures ∙ c.pop.new.self.ok.0 in
    let lent = subst (λ (ys : List (NodeBooks g.row.S-Drawer.Denot)). NodesAreLentOut s blocks c.loop-node.shelves ys) c.in-Some.ensures.items c.loop-node.invariant.lent in
    subst (λ (n : ℕ). n < length c.loop-node.shelves) (sym at) (nodes_within s blocks c.pop.new.self.items c.in-Some.node c.loop-node.shelves lent)

pub close_node-requires-after_bounds : goal.close_node-requires-after_bounds
close_node-requires-after_bounds g c κs within =
    let blocks = c.args.blocks.now in
    let s = g.S.Shelf in
    let xs = c.loop-node.shelves in
    let nodes = c.pop.new.self.items in
    let r = c.index-shelves-len.result in
    let at : c.len.result ≡ length nodes = c.len.ensures ∙ c.pop.new.self.ok.0 in
    let lent = subst (λ (ys : List (NodeBooks g.row.S-Drawer.Denot)). NodesAreLentOut s blocks xs ys) c.in-Some.ensures.items c.loop-node.invariant.lent in
    let below : c.len.result < length xs = subst (λ (n : ℕ). n < length xs) (sym at) (nodes_within s blocks nodes c.in-Some.node xs lent) in
    nodes_last s blocks nodes c.in-Some.node xs (get_or xs c.len.result r) c.requires.distinct lent (subst (λ (n : ℕ). slice_get xs n ≡ Some (get_or xs c.len.result r)) at (element_or xs c.len.result r below))

pub loop-node-preserved : goal.loop-node-preserved
loop-node-preserved g c =
    let blocks = c.args.blocks.now in
    let s = g.S.Shelf in
    let d = g.S.Drawer.Files in
    let xs = c.loop-node.shelves in
    let nodes = c.pop.new.self.items in
    let x = c.in-Some.node in
    let r = c.index-shelves-len.result in
    let a = get_or xs c.len.result r in
    let b = c.close_node.new.shelf in
    let items = c.in-Some.ensures.items in
    let at : c.len.result ≡ length nodes = c.len.ensures ∙ c.pop.new.self.ok.0 in
    let lent = subst (λ (ys : List (NodeBooks g.row.S-Drawer.Denot)). NodesAreLentOut s blocks xs ys) items c.loop-node.invariant.lent in
    let below : c.len.result < length xs = subst (λ (n : ℕ). n < length xs) (sym at) (nodes_within s blocks nodes x xs lent) in
    let here = subst (λ (n : ℕ). slice_get xs n ≡ Some (get_or xs c.len.result r)) at (element_or xs c.len.result r below) in
    record {
      lent = subst (λ (n : ℕ). NodesAreLentOut s blocks (slice_set xs n b) nodes) (sym at) (nodes_less s blocks nodes x xs b lent);
      closes = λ end n. c.loop-node.invariant.closes end (subst (λ (ys : List (NodeBooks g.row.S-Drawer.Denot)). NodesClose s d blocks ys xs end) (sym {A = List (NodeBooks g.row.S-Drawer.Denot)} items)
          (nodes_more s d blocks nodes x xs end a b here c.close_node.ensures (subst (λ (q : ℕ). NodesClose s d blocks nodes (slice_set xs q b) end) at n)));
    }

pub returns : goal.returns
returns g c =
    let none : length c.loop-node.nodes.items ≡ 0 = omega (arith, c.loop-node.nodes.ok.0, c.in_default.ensures.cases.0) in
    close_end g.S.Shelf g.S.Drawer.Files c.args.blocks.now c.args.nodes.items c.truncate.new.self.items c.loop-node.nodes.items c.args.shelves.now c.loop-node.shelves c.truncate.ensures.items none (c.loop-node.invariant.closes c.loop-node.shelves)
