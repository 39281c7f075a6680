-- A member that was taken from its place, and its book; and an end that has taken nothing yet.
use Rattle.std.proofs.Common.{◌≡◌, ◌<◌, ℕ, true, List, length, get_or, slice_get, Option, Some, IsSome, refl, sym, ap, ◌∙◌, subst, length-set}
use Rattle.hd_base.specs.Ends.{IsKnown}
use Rattle.hd_base.specs.declared.ends.Conn.{Conn}
use Rattle.hd_base.specs.declared.links.LinkIn as link_in
use Rattle.hd_base.specs.declared.links.LinkOut as link_out
use Rattle.hd_base.specs.declared.roads.Roads as roads
use Rattle.member_events.specs.PipeMember.Member.{Member}
use Rattle.member_events.specs.PipeMember.Exchanges.{AreKnown}
use Rattle.road_traffic.specs.Showing.{Net}
use Rattle.play_model.specs.World.Parts as parts
use Rattle.play_model.specs.World.Parts.{idle}
use Rattle.play_model.specs.World.Worlds.{World}
use Rattle.member_events.specs.WorldNets.Nets.{IsEndOf}
use Rattle.member_events.specs.ReplicaFiles.BookState.{BookState}
use Rattle.play_nodes.specs.declared.connections.Connection.{Connection}
use Rattle.play_nodes.specs.declared.connections.Lower.{Lower}
use Rattle.play_nodes.specs.declared.connections.Lower.TheVariants as lower
use Rattle.play_nodes.specs.declared.nodes.NodeBooks.{NodeBooks}
use Rattle.play_nodes.specs.declared.nodes.Nodes.{Nodes}
use Rattle.play_nodes.specs.declared.nodes.Seat.{Seat}
use Rattle.play_nodes.specs.Places.{book_at, with_lower, IsSeated, Takes, TakesIdle, idle_of}
use Rattle.play_nodes.specs.Showing.{Stand, LowerShows}
use Rattle.play_nodes.proofs.Tables.{element}
use Rattle.play_nodes.proofs.PlaceLaws.{BookWithin, book_within, book_found, element_some, element_within, same_some}
use Rattle.play_nodes.proofs.MemberNodes.{is_member, known, ends_known}
use Rattle.play_nodes.proofs.ReadyNodes.{member_as}

module _ {F I O : Type 0} where
  pub seat_within : (n : Nodes F I O) (c : ℕ) (s : Seat) → IsSeated n c s → s.conn < length n.connections.items
  seat_within n c s seat = subst (λ (k : ℕ). k < length n.connections.items) (sym seat.conn) (element_within n.connections.items c seat.at seat.found)

  pub taken_within : (old mid : Nodes F I O) (c : ℕ) (s : Seat) (m : Option (Member I O)) → (seat : IsSeated old c s) → Takes old mid s.conn m → s.conn < length mid.connections.items
  taken_within old mid c s m seat t =
      let set = t.set seat.at (ap (slice_get old.connections.items) seat.conn ∙ seat.found) in
      subst (λ (k : ℕ). s.conn < k) (sym (ap length set ∙ length-set old.connections.items s.conn (with_lower seat.at lower.Ended))) (seat_within old c s seat)

  -- the book of the member, where it is looked for
  pub books_of : (old mid : Nodes F I O) (c : ℕ) (s : Seat) (m : Option (Member I O)) → IsSeated old c s → Takes old mid s.conn m → BookWithin mid.nodes.items s.node.0 s.place
  books_of old mid c s m seat t = book_within mid.nodes.items s.node.0 s.place (subst (λ (xs : List (NodeBooks F)). IsSome (book_at xs s.node.0 s.place)) (sym t.nodes) seat.book)

  pub place_within : (old mid : Nodes F I O) (c : ℕ) (s : Seat) (m : Option (Member I O)) (x : NodeBooks F) → IsSeated old c s → Takes old mid s.conn m → slice_get mid.nodes.items s.node.0 ≡ Some x → s.place < length x.books.items
  place_within old mid c s m x seat t found =
      let b = books_of old mid c s m seat t in
      subst (λ (y : NodeBooks F). s.place < length y.books.items) (same_some b.at x (sym b.found ∙ found)) b.within

-- A MEMBER IN ITS PLACE

module _ {F I O : Type 0} where
  pub lower_here : (n : Nodes F I O) (c : ℕ) (s : Seat) (x : Connection I O) → (seat : IsSeated n c s) → x ≡ get_or n.connections.items s.conn x → x.lower ≡ lower.Member seat.member s.place
  lower_here n c s x seat is =
      let found = element_some n.connections.items s.conn x (seat_within n c s seat) is in
      ap (λ (y : Connection I O). y.lower) (same_some x seat.at (sym found ∙ (ap (slice_get n.connections.items) seat.conn ∙ seat.found))) ∙ seat.lower

  pub member_here : (n : Nodes F I O) (c : ℕ) (s : Seat) (x : Connection I O) (m : Member I O) (place : ℕ) → (seat : IsSeated n c s) → x ≡ get_or n.connections.items s.conn x → x.lower ≡ lower.Member m place → m ≡ seat.member
  member_here n c s x m place seat is here = same_member m seat.member place s.place (sym here ∙ lower_here n c s x seat is)
    where
      same_member : (a b : Member I O) (p q : ℕ) → lower.Member a p ≡ lower.Member b q → a ≡ b
      same_member a b p q e = cc

  pub node_here : (n : Nodes F I O) (c : ℕ) (s : Seat) → IsSeated n c s → s.node.0 < length n.nodes.items
  node_here n c s seat =
      let b = book_within n.nodes.items s.node.0 s.place seat.book in
      element_within n.nodes.items s.node.0 b.at b.found

  pub place_here : (n : Nodes F I O) (c : ℕ) (s : Seat) (x : NodeBooks F) → IsSeated n c s → x ≡ get_or n.nodes.items s.node.0 x → s.place < length x.books.items
  place_here n c s x seat is =
      let b = book_within n.nodes.items s.node.0 s.place seat.book in
      subst (λ (y : NodeBooks F). s.place < length y.books.items) (same_some b.at x (sym b.found ∙ element_some n.nodes.items s.node.0 x (node_here n c s seat) is)) b.within

  pub book_here : (n : Nodes F I O) (c : ℕ) (s : Seat) (x : NodeBooks F) (book : BookState F) → IsSeated n c s → x ≡ get_or n.nodes.items s.node.0 x → book ≡ get_or x.books.items s.place book → book_at n.nodes.items s.node.0 s.place ≡ Some book
  book_here n c s x book seat is at =
      book_found n.nodes.items s.node.0 s.place x (element_some n.nodes.items s.node.0 x (node_here n c s seat) is) ∙
      element_some x.books.items s.place book (place_here n c s x seat is) at

module _ {F R I O : Type 0} (r : roads.Ghosts R I O) (i : link_in.Ghosts I) (o : link_out.Ghosts O) where
  pub lifted_known : (road : R) (old mid : Nodes F I O) (c : ℕ) (s : Seat) (m : Member I O) → Stand r i o road old → IsSeated old c s → Takes old mid s.conn (Some m) → AreKnown (r.plain road) m
  lifted_known road old mid c s m some seat t =
      let k = is_member r i o some.w some.net road c old s some.stands seat in
      subst (λ (y : Member I O). AreKnown (r.plain road) y) (sym (member_as old mid c s m seat t)) (ends_known r i o some.w some.net road c k.full seat.member some.stands.roads_are.shows k.seat.shows)

-- AN END THAT HAS TAKEN NOTHING YET

idle_is : {I O : Type 0} (l : Lower I O) (end : Conn I O) → Some end ≡ idle_of l → l ≡ lower.Idle end
idle_is (lower.Idle at_end) end h = cc
idle_is l end h = cc

-- The connections stay as many.
pub idle_within : {F I O : Type 0} (old mid : Nodes F I O) (c : ℕ) (result : Option (Conn I O)) → TakesIdle old mid c result → c < length old.connections.items → c < length mid.connections.items
idle_within old mid c result t h =
    let at = element old.connections.items c h in
    subst (λ (k : ℕ). c < k) (sym (ap length (t.set at.0 at.1) ∙ length-set old.connections.items c (with_lower at.0 lower.Ended))) h

module _ {F R I O : Type 0} (r : roads.Ghosts R I O) (i : link_in.Ghosts I) (o : link_out.Ghosts O) where
  end_shown : (w : World) (net : Net) (c : ℕ) (n : Nodes F I O) (l : parts.Lower) (end : Conn I O) → LowerShows i o w net c n l (lower.Idle end) → IsEndOf i o w net c true end
  end_shown w net c n idle end h = h.1
  end_shown w net c n l end h = absurd h

  -- Roads that show some world with the nodes know the end that was taken from its place.
  pub idle_known : (road : R) (old mid : Nodes F I O) (c : ℕ) (end : Conn I O) → Stand r i o road old → c < length old.connections.items → TakesIdle old mid c (Some end) → IsKnown (r.plain road) end.id.0
  idle_known road old mid c end some within t =
      let at = element old.connections.items c within in
      let is = idle_is at.0.lower end (t.taken at.0 at.1) in
      let shown = end_shown some.w some.net c old (some.w.lowers c) end (subst (λ (l : Lower I O). LowerShows i o some.w some.net c old (some.w.lowers c) l) is (some.stands.nodes_are.each c at.0 at.1).lower_is) in
      known r i o road some.net (r.plain road) c end.id.0 some.stands.roads_are.shows refl shown.within shown.id
