-- What a report leaves of the nodes.
use Rattle.std.proofs.Common.{◌≡◌, ◌<◌, ℕ, List, length, slice_get, Option, Some, IsSome, refl, sym, ap, subst, ◌∙◌}
use Rattle.hd_base.specs.declared.files.Files as files
use Rattle.hd_base.specs.declared.links.LinkIn as link_in
use Rattle.hd_base.specs.declared.links.LinkOut as link_out
use Rattle.hd_base.specs.declared.numbers.BlockId.{BlockId}
use Rattle.play_scripts.specs.NodeOpening.Closing.{NodesFit}
use Rattle.play_scripts.specs.PlayNodes.Connection.{Connection}
use Rattle.play_scripts.specs.PlayNodes.NodeBooks.{NodeBooks}
use Rattle.play_scripts.specs.PlayNodes.Nodes.{Nodes}
use Rattle.play_scripts.specs.PlayNodes.Places.{book_at}
use Rattle.play_scripts.specs.PlayNodes.Lower.{Lower}
use Rattle.play_scripts.specs.PlayNodes.Lower.TheVariants as lower
use Rattle.play_scripts.specs.PlayNodes.Showing.{NodesShow, ConnectionShows, LowerShows}
use Rattle.play_scripts.proofs.PlayNodes.PlaceLaws.{element_within, book_found, book_within}
use Rattle.play_scripts.proofs.PlayNodes.Tables.{element}
use Rattle.replica_files.specs.Books.{replica_of}
use Rattle.replica_files.specs.Summing.{LeavesBook}
use Rattle.replica_files.specs.declared.book_state.BookState.{BookState}
use Rattle.replica_model.specs.Rows.{FullReplica}
use Rattle.road_traffic.specs.Showing.{Net}
use Rattle.world.specs.Parts as parts
use Rattle.world.specs.Worlds.{World}
use Rattle.play_report.specs.Rows.{LeavesNodes, LeavesAll}

module _ {F : Type 0} (f : files.Ghosts F) where
  -- a book is left of one that was there
  pub record WasThere (old : List (NodeBooks F)) (node place : ℕ) (now : BookState F) : Type 0 where
    pub before : BookState F
    pub was : book_at old node place ≡ Some before
    pub left : LeavesBook f before now

  pub was_there : (old new : List (NodeBooks F)) → LeavesNodes f old new → (node place : ℕ) (now : BookState F) → book_at new node place ≡ Some now → WasThere old node place now
  was_there old new l node place now at =
      let found = book_within new node place (subst (λ (y : Option (BookState F)). IsSome y) (sym at) refl) in
      let a = element old node (subst (λ (n : ℕ). node < n) l.count (element_within new node found.at found.found)) in
      let books = l.each node a.0 found.at a.1 found.found in
      let b = element a.0.books.items place (subst (λ (n : ℕ). place < n) books.count found.within) in
      record {
        before = b.0;
        was = book_found old node place a.0 a.1 ∙ b.1;
        left = books.each place b.0 now b.1 (sym (book_found new node place found.at found.found) ∙ at);
      }

  pub is_there : (old new : List (NodeBooks F)) → LeavesNodes f old new → (node place : ℕ) → IsSome (book_at old node place) → IsSome (book_at new node place)
  is_there old new l node place h =
      let found = book_within old node place h in
      let a = element new node (subst (λ (n : ℕ). node < n) (sym l.count) (element_within old node found.at found.found)) in
      let books = l.each node found.at a.0 found.found a.1 in
      let b = element a.0.books.items place (subst (λ (n : ℕ). place < n) (sym books.count) found.within) in
      subst (λ (y : Option (BookState F)). IsSome y) (sym (book_found new node place a.0 a.1 ∙ b.1)) refl

  -- what is left of a book is of the same replica
  pub same_replica : (before now : BookState F) → LeavesBook f before now → replica_of now ≡ replica_of before
  same_replica before now l = ap (λ (s : BookState F). replica_of s) l.rest

  module _ {I O : Type 0} where
    pub still_show : (i : link_in.Ghosts I) (o : link_out.Ghosts O) (w : World) (net : Net) (old new : Nodes F I O) → LeavesAll f old new → NodesShow i o w net old → NodesShow i o w net new
    still_show i o w net old new l s = record {
      count = ap length l.connections ∙ s.count;
      distinct = λ j k a b p q e. s.distinct j k a b (there j a p) (there k b q) e;
      each = λ c x at. shows c x (s.each c x (sym (ap (λ (xs : List (Connection I O)). slice_get xs c) l.connections) ∙ at));
      books = λ node place block book at h.
          let t = was_there old.nodes.items new.nodes.items l.nodes node place book h in
          same_replica t.before book t.left ∙ s.books node place block t.before (there place block at) t.was;
      has_books = λ node place block below at. is_there old.nodes.items new.nodes.items l.nodes node place (s.has_books node place block below (there place block at));
    }
      where
        there : (k : ℕ) (b : BlockId) → slice_get new.blocks.items k ≡ Some b → slice_get old.blocks.items k ≡ Some b
        there k b at = sym (ap (λ (bs : List BlockId). slice_get bs k) l.blocks) ∙ at

        lower_stays : (c : ℕ) (l : parts.Lower) (real : Lower I O) → LowerShows i o w net c old l real → LowerShows i o w net c new l real
        lower_stays c parts.idle (lower.Idle end) h = h
        lower_stays c (parts.writes full) (lower.Member m place) h = (
          h.0,
          record {
            shows = h.1.shows;
            block = h.1.block;
            at_place = ap (λ (bs : List BlockId). slice_get bs place) l.blocks ∙ h.1.at_place;
            of_block = h.1.of_block;
          },
        )
        lower_stays c parts.idle lower.Ended h = h
        lower_stays c (parts.writes full) lower.Ended h = h
        lower_stays c (parts.serves b s) lower.Ended h = h
        lower_stays c parts.recovers lower.Ended h = h
        lower_stays c parts.ended_below lower.Ended h = h
        lower_stays c parts.idle lower.Elsewhere h = tt
        lower_stays c (parts.writes full) lower.Elsewhere h = tt
        lower_stays c (parts.serves b s) lower.Elsewhere h = tt
        lower_stays c parts.recovers lower.Elsewhere h = tt
        lower_stays c parts.ended_below lower.Elsewhere h = tt
        lower_stays c parts.idle (lower.Member m place) h = absurd h
        lower_stays c (parts.writes full) (lower.Idle end) h = absurd h
        lower_stays c (parts.serves b s) (lower.Idle end) h = absurd h
        lower_stays c (parts.serves b s) (lower.Member m place) h = absurd h
        lower_stays c parts.recovers (lower.Idle end) h = absurd h
        lower_stays c parts.recovers (lower.Member m place) h = absurd h
        lower_stays c parts.ended_below (lower.Idle end) h = absurd h
        lower_stays c parts.ended_below (lower.Member m place) h = absurd h

        shows : (c : ℕ) (x : Connection I O) → ConnectionShows i o w net c old x → ConnectionShows i o w net c new x
        shows c x h = record { upper_is = h.upper_is; origin = h.origin; node = h.node; mirror = h.mirror; here = h.here; lower_is = lower_stays c (w.lowers c) x.lower h.lower_is }

    pub still_fit : (old new : Nodes F I O) → LeavesAll f old new → NodesFit old.blocks.items old.nodes.items → NodesFit new.blocks.items new.nodes.items
    still_fit old new l fit = λ node place block book at h.
        let t = was_there old.nodes.items new.nodes.items l.nodes node place book h in
        ap (λ (r : FullReplica). r.known.block) (same_replica t.before book t.left) ∙
        fit node place block t.before (sym (ap (λ (bs : List BlockId). slice_get bs place) l.blocks) ∙ at) t.was
