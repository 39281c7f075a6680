-- What nodes that were opened start again with.
use Rattle.std.proofs.Common.{◌≡◌, ◌<◌, ℕ, Bool, true, false, List, length, slice_get, option_map, Some, sym, ap, subst, ◌∙◌}
use Rattle.std.specs.Prelude.{◌||◌, get_or}
use Rattle.hd_base.specs.declared.files.Files as files
use Rattle.hd_base.specs.declared.numbers.BlockId.{BlockId}
use Rattle.hd_base.specs.declared.numbers.NodeId.{NodeId}
use Rattle.hd_base.specs.declared.shelves.Shelf as shelves
use Rattle.node_stops.specs.PlayNodes.NodeBooks.{NodeBooks}
use Rattle.node_stops.specs.PlayNodes.Nodes.{Nodes}
use Rattle.node_stops.proofs.PlayNodes.PlaceLaws.{same_some}
use Rattle.node_stops.proofs.PlayNodes.Tables.{element}
use Rattle.node_starts.specs.NodeOpening.Closing.{block_of, blocks_of, AreLentOut}
use Rattle.node_starts.specs.NodeOpening.Lending.{HasBooks}
use Rattle.node_starts.specs.NodeOpening.Opening.{IsOpened}
use Rattle.node_starts.specs.NodeOpening.Shelves.{is_among, AreDistinct}
use Rattle.node_starts.proofs.NodeOpening.CloseLemmas.{block_at, length_blocks}
use Rattle.node_starts.proofs.NodeOpening.ListLemmas.{element_or}
use Rattle.node_starts.specs.Books.{HasAllBooks}

or_left : (p q : Bool) → p ≡ true → (p || q) ≡ true
or_left true q h = h
or_left false q h = cc

module _ {S D I O : Type 0} (s : shelves.Ghosts S D) (d : files.Ghosts D) (blocks : List BlockId) (old new : List S) (n : Nodes D I O) (opened : IsOpened s d blocks old new n) where
  -- What a node has, and its shelf before and after.
  record NodeOpened (k : ℕ) (b : S) : Type 0 where
    before : S
    node : NodeBooks D
    at : slice_get n.nodes.items k ≡ Some node
    has : HasBooks s d blocks before b node.books.items

  opened_at : (k : ℕ) (b : S) → k < length old → slice_get new k ≡ Some b → NodeOpened k b
  opened_at k b within at =
      let have = opened.have_books in
      let a = element old k within in
      let x = element n.nodes.items k (subst (λ (m : ℕ). k < m) (sym have.count) within) in
      record { before = a.0; node = x.0; at = x.1; has = have.each k a.0 b x.0 a.1 at x.1 }

  within_new : (k : ℕ) → k < length old → k < length new
  within_new k within = subst (λ (m : ℕ). k < m) (sym opened.have_books.shelves_stay) within

  -- A node's shelf has lent the blocks.
  pub all_lent : AreDistinct blocks → (k : ℕ) (none : S) → k < length old → AreLentOut s (get_or new k none) n.blocks.items
  all_lent distinct k none within =
      let o = opened_at k (get_or new k none) within (element_or new k none (within_new k within)) in
      record {
        distinct = subst (λ (bs : List BlockId). AreDistinct bs) (sym opened.blocks_are) distinct;
        lent = λ b among. o.has.has_lent.lent b ∙ or_left (is_among blocks b) (s.lent o.before b) (ap (λ (bs : List BlockId). is_among bs b) (sym opened.blocks_are) ∙ among);
      }

  -- A node has all books.
  pub all_books : (node : NodeId) → node.0 < length old → HasAllBooks node n
  all_books node within =
      let b = element new node.0 (within_new node.0 within) in
      let o = opened_at node.0 b.0 within b.1 in
      let are : blocks_of o.node.books.items ≡ n.blocks.items = o.has.are.blocks_are ∙ sym opened.blocks_are in
      record {
        books = o.node.books.items;
        are = ap (option_map (λ (z : NodeBooks D). z.books.items)) o.at;
        count = sym (length_blocks o.node.books.items) ∙ ap length are;
        of_blocks = λ place block y at at'. same_some (block_of y) block (sym (block_at o.node.books.items place y at') ∙ (ap (λ (bs : List BlockId). slice_get bs place) are ∙ at));
      }
