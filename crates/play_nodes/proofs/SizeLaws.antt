-- Blocks stay, and so does how many books each node has.
use Rattle.std.proofs.Common.{◌≡◌, ℕ, zero, suc, List, [], ◌∷◌, length, slice_get, slice_set, Option, Some, Result, Ok, Err, refl, sym, ap, ◌∙◌, length-set, Bool, None}
use Rattle.member_events.specs.declared.faults.MemberFault.{MemberFault}
use Rattle.member_events.specs.PipeMember.Member.{Member}
use Rattle.hd_base.specs.declared.ends.Conn.{Conn}
use Rattle.member_events.specs.ReplicaFiles.BookState.{BookState}
use Rattle.play_nodes.specs.declared.faults.NodesFault.{NodesFault}
use Rattle.play_nodes.specs.declared.nodes.NodeBooks.{NodeBooks}
use Rattle.play_nodes.specs.declared.nodes.Nodes.{Nodes}
use Rattle.play_nodes.specs.declared.nodes.Seat.{Seat}
use Rattle.play_nodes.specs.Places.{book_counts, KeepsSizes, Takes, TakesIdle, PutBack, Follows, FollowsDown, FollowsRefusing}
use Rattle.play_nodes.proofs.PlaceLaws.{same_some}
use Rattle.member_events.specs.declared.steps.Downed.{Downed}
use Rattle.member_events.specs.declared.steps.Downed.TheVariants as downed
use Rattle.play_nodes.specs.declared.nodes.Refused.{Refused}
use Rattle.play_nodes.specs.declared.nodes.Refused.TheVariants as refused

-- Where a node has as many books as before, each does.
counts_set : {F : Type 0} (nodes : List (NodeBooks F)) (node : ℕ) (x y : NodeBooks F) → slice_get nodes node ≡ Some x → length y.books.items ≡ length x.books.items → book_counts (slice_set nodes node y) ≡ book_counts nodes
counts_set {F} [] node x y found same = refl
counts_set {F} (z ∷ nodes) zero x y found same = ap (λ (n : ℕ). n ∷ book_counts nodes) (same ∙ ap (λ (q : NodeBooks F). length q.books.items) (same_some x z (sym found)))
counts_set {F} (z ∷ nodes) (suc node) x y found same = ap (λ (ns : List ℕ). length z.books.items ∷ ns) (counts_set nodes node x y found same)

module _ {F I O : Type 0} where
  pub sizes_same : (x : Nodes F I O) → KeepsSizes x x
  sizes_same x = record { blocks = refl; books = refl }

  pub sizes_after : (x y z : Nodes F I O) → KeepsSizes x y → KeepsSizes y z → KeepsSizes x z
  sizes_after x y z p q = record { blocks = q.blocks ∙ p.blocks; books = q.books ∙ p.books }

  pub sizes_by : (old new : Nodes F I O) → new.blocks.items ≡ old.blocks.items → new.nodes.items ≡ old.nodes.items → KeepsSizes old new
  sizes_by old new blocks nodes = record { blocks = blocks; books = ap book_counts nodes }

  pub sizes_is : (old new : Nodes F I O) → new ≡ old → KeepsSizes old new
  sizes_is old new e = sizes_by old new (ap (λ (x : Nodes F I O). x.blocks.items) e) (ap (λ (x : Nodes F I O). x.nodes.items) e)

  -- A book was set in its place.
  pub book_sizes : (old new : Nodes F I O) (node place : ℕ) (x y : NodeBooks F) (book : BookState F) → new.blocks.items ≡ old.blocks.items → slice_get old.nodes.items node ≡ Some x → y.books.items ≡ slice_set x.books.items place book
      → new.nodes.items ≡ slice_set old.nodes.items node y → KeepsSizes old new
  book_sizes old new node place x y book blocks found is set = record {
    blocks = blocks;
    books = ap book_counts set ∙ counts_set old.nodes.items node x y found (ap length is ∙ length-set x.books.items place book);
  }

  pub put_sizes : (old new : Nodes F I O) (s : Seat) (left : Option (Member I O)) → PutBack old new s left → KeepsSizes old new
  put_sizes old new s left p = sizes_by old new p.blocks p.nodes

  pub follow_sizes : (old new : Nodes F I O) (s : Seat) (left : Result (Option (Member I O)) MemberFault) (result : Result (Unit {0}) NodesFault) → Follows old new s left result → KeepsSizes old new
  follow_sizes old new s (Ok left) result f = put_sizes old new s left f.0
  follow_sizes old new s (Err why) result f = sizes_is old new f.0

  pub take_sizes : (old new : Nodes F I O) (c : ℕ) (member : Option (Member I O)) → Takes old new c member → KeepsSizes old new
  take_sizes old new c member t = sizes_by old new t.blocks t.nodes

  pub idle_sizes : (old new : Nodes F I O) (c : ℕ) (end : Option (Conn I O)) → TakesIdle old new c end → KeepsSizes old new
  idle_sizes old new c end t = sizes_by old new t.blocks t.nodes

  -- A member was taken, its book set, and what is left of it put back.
  pub followed_sizes : (old taken set new : Nodes F I O) (s : Seat) (member : Option (Member I O)) (x y : NodeBooks F) (book : BookState F) → Takes old taken s.conn member
      → set.blocks.items ≡ taken.blocks.items → slice_get taken.nodes.items s.node.0 ≡ Some x → y.books.items ≡ slice_set x.books.items s.place book → set.nodes.items ≡ slice_set taken.nodes.items s.node.0 y → KeepsSizes set new → KeepsSizes old new
  followed_sizes old taken set new s member x y book t blocks found is nodes after =
      sizes_after old taken new (take_sizes old taken s.conn member t) (sizes_after taken set new (book_sizes taken set s.node.0 s.place x y book blocks found is nodes) after)

  pub down_sizes : (old new : Nodes F I O) (s : Seat) (ended : Result (Downed I O) MemberFault) (grew : Bool) (result : Result Bool NodesFault) → FollowsDown old new s ended grew result → KeepsSizes old new
  down_sizes old new s (Ok (downed.Done left)) grew result f = put_sizes old new s left f.0
  down_sizes old new s (Ok downed.Broke) grew result f = sizes_is old new f.0
  down_sizes old new s (Err why) grew result f = sizes_is old new f.0

  pub refusing_sizes : (old new : Nodes F I O) (s : Seat) (ended : Result (Refused I O) MemberFault) (result : Result Bool NodesFault) → FollowsRefusing old new s ended result → KeepsSizes old new
  refusing_sizes old new s (Ok (refused.Done left)) result f = put_sizes old new s left f.0
  refusing_sizes old new s (Ok refused.Broke) result f = put_sizes old new s None f.0
  refusing_sizes old new s (Ok refused.Failed) result f = sizes_is old new f.0
  refusing_sizes old new s (Err why) result f = sizes_is old new f.0

  pub event_sizes : (old taken set new : Nodes F I O) (s : Seat) (member : Option (Member I O)) (x y : NodeBooks F) (book : BookState F) (left : Result (Option (Member I O)) MemberFault) (result : Result (Unit {0}) NodesFault) → Takes old taken s.conn member
      → set.blocks.items ≡ taken.blocks.items → slice_get taken.nodes.items s.node.0 ≡ Some x → y.books.items ≡ slice_set x.books.items s.place book → set.nodes.items ≡ slice_set taken.nodes.items s.node.0 y → Follows set new s left result → KeepsSizes old new
  event_sizes old taken set new s member x y book left result t blocks found is nodes f =
      sizes_after old taken new (take_sizes old taken s.conn member t)
      (sizes_after taken set new (book_sizes taken set s.node.0 s.place x y book blocks found is nodes) (follow_sizes set new s left result f))
