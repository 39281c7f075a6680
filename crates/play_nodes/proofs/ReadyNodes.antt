-- A member among the nodes acts without a message.
use Rattle.std.proofs.Common.{◌≡◌, ◌<◌, ℕ, Bool, true, false, slice_get, List, Option, Some, None, IsSome, is_some, Result, Ok, Err, inl, inr, refl, sym, ap, ◌∙◌, subst, arith}
use Rattle.std.specs.Prelude.{◌&&◌, nat_lt}
use Rattle.std.proofs.lemmas.Bool.Decides.{nat_tests}
use Rattle.hd_base.specs.declared.files.Files as files
use Rattle.hd_base.specs.declared.links.LinkIn as link_in
use Rattle.hd_base.specs.declared.links.LinkOut as link_out
use Rattle.hd_base.specs.declared.numbers.ConnId.{ConnId}
use Rattle.hd_base.specs.declared.roads.Roads as roads
use Rattle.member_events.specs.ReplicaFiles.BookState.{BookState}
use Rattle.member_events.specs.MemberCore.Steps.{Step, step, ready_turn_at}
use Rattle.member_events.specs.PipeMember.Member.{Member}
use Rattle.road_traffic.specs.Showing.{Net}
use Rattle.play_model.specs.World.Event.{Event}
use Rattle.play_model.specs.World.Event.TheVariants as event
use Rattle.play_model.specs.World.Parts as parts
use Rattle.play_model.specs.World.Parts.{FullMember, idle, writes, Break}
use Rattle.play_model.specs.World.Worlds.{World, apply}
use Rattle.play_model.specs.World.Connections.{is_served, is_alive, the_end}
use Rattle.play_model.specs.World.Nodes.{node_of, block_of, replica_at, member_change}
use Rattle.play_model.specs.World.Enabled.{acts_below}
use Rattle.play_model.specs.World.Events.{outcome, happens}
use Rattle.play_model.specs.WorldLaws.Placing.{Placed}
use Rattle.play_model.proofs.WorldLaws.FactTables.{and-left, and-right}
use Rattle.world_orders.specs.Orders.{Ordered}
use Rattle.member_events.specs.WorldNets.Nets.{is_over}
use Rattle.member_events.specs.WorldNets.Drawn.{break_at}
use Rattle.member_events.proofs.WorldNets.DrawnLemmas.{ready-makes}
use Rattle.member_events.proofs.WorldNets.StepLemmas.{followed, changed-over}
use Rattle.play_model.specs.Dues.{Queues, is_open, is_due}
use Rattle.play_model.specs.declared.dues.Due.TheVariants as due
use Rattle.member_events.specs.declared.faults.MemberFault.{MemberFault}
use Rattle.member_events.specs.declared.faults.MemberFault.TheVariants as member_fault
use Rattle.member_events.specs.Faults as members
use Rattle.member_events.specs.Events as member_events
use Rattle.play_nodes.specs.declared.connections.Connection.{Connection}
use Rattle.play_nodes.specs.declared.connections.Lower.{Lower}
use Rattle.play_nodes.specs.declared.connections.Lower.TheVariants as lower
use Rattle.play_nodes.specs.declared.faults.NodesFault.{NodesFault}
use Rattle.play_nodes.specs.declared.nodes.NodeBooks.{NodeBooks}
use Rattle.play_nodes.specs.declared.nodes.Nodes.{Nodes}
use Rattle.play_nodes.specs.declared.nodes.Seat.{Seat}
use Rattle.play_nodes.specs.Faults.{fault_at}
use Rattle.play_nodes.specs.Places.{book_at, IsSeated, IsUnseated, Takes, Follows, member_of, BookSet}
use Rattle.play_nodes.specs.Showing.{IsOfPipeline, has_events, stands_here, SeatShows, LowerShows, NodesShow, NodesStand}
use Rattle.play_nodes.specs.Events.{IsCaused, EventEnds, ReadyShows}
use Rattle.play_nodes.proofs.Tables.{element}
use Rattle.play_nodes.proofs.WorldFrames.{KeepsRest, rest_after, conns_after}
use Rattle.play_nodes.proofs.NodeFrames.{IsApart}
use Rattle.play_nodes.proofs.PlaceLaws.{same_some}
use Rattle.play_nodes.proofs.MemberNodes.{IsMember, is_member, member_stands, member_left}

some_of : {A : Type 0} (x : Option A) → is_some x ≡ true → (a : A) × (x ≡ Some a)
some_of None h = cc
some_of (Some a) h = (a, refl)

true_false : (b : Bool) → b ≡ true → b ≡ false → ⊥
true_false b x y = cc

-- A connection that is served was dialled.
pub served_within : (w : World) (c : ℕ) → is_served w c ≡ true → c < w.next_conn
served_within w c h = within c w.next_conn (and-left (nat_lt c w.next_conn) (is_alive w (w.dialled c).to) h)
  where
    within : (a b : ℕ) → nat_lt a b ≡ true → a < b
    within a b h = grind (arith, nat_tests, h)

risen_at : (risen : ℕ → Bool) (c : ℕ) (mirror : Option ℕ) → members.HasRisen risen c mirror → (d : ℕ) × (risen d ≡ true)
risen_at risen c None h = (c, h)
risen_at risen c (Some d) (inl h) = (c, h)
risen_at risen c (Some d) (inr h) = (d, h)

-- what is due of it
pub record ActsAt (w : World) (c : ℕ) : Type 0 where
  pub served : is_served w c ≡ true
  pub events : has_events w c ≡ true
  pub acts : acts_below (w.lowers c) w c ≡ true

pub acts_at : (w : World) (conn : ConnId) (queues : Queues) → is_due w queues (due.Ready conn) ≡ true → ActsAt w conn.0
acts_at w conn queues h =
    let c : ℕ = conn.0 in
    let opened : is_open (w.lowers c) ≡ true = and-left (is_open (w.lowers c)) (is_served w c && acts_below (w.lowers c) w c) h in
    let ready : (is_served w c && acts_below (w.lowers c) w c) ≡ true = and-right (is_open (w.lowers c)) (is_served w c && acts_below (w.lowers c) w c) h in
    record {
      served = and-left (is_served w c) (acts_below (w.lowers c) w c) ready;
      events = rw (and-left (is_served w c) (acts_below (w.lowers c) w c) ready, opened) refl;
      acts = and-right (is_served w c) (acts_below (w.lowers c) w c) ready;
    }

pub acts_busy : (w : World) (c : ℕ) → acts_below (w.lowers c) w c ≡ true → w.lowers c ≡ idle → ⊥
acts_busy w c acts is = never (sym (ap (λ (l : parts.Lower). acts_below l w c) is) ∙ acts)
  where
    never : false ≡ true → ⊥
    never e = cc

module _ {F I O : Type 0} where
  pub member_as : (old mid : Nodes F I O) (c : ℕ) (s : Seat) (m : Member I O) → (seat : IsSeated old c s) → Takes old mid s.conn (Some m) → m ≡ seat.member
  member_as old mid c s m seat t = same_some m seat.member (t.taken seat.at (ap (slice_get old.connections.items) seat.conn ∙ seat.found) ∙ ap member_of seat.lower)

  pub taken_as : (old mid : Nodes F I O) (c : ℕ) (s : Seat) (m : Member I O) → (seat : IsSeated old c s) → Takes old mid s.conn (Some m) → Takes old mid c (Some seat.member)
  taken_as old mid c s m seat t =
      subst (λ (y : Member I O). Takes old mid c (Some y)) (member_as old mid c s m seat t) (subst (λ (q : ℕ). Takes old mid q (Some m)) seat.conn t)

  pub taken_none : (old mid : Nodes F I O) (c : ℕ) (s : Seat) → IsSeated old c s → Takes old mid s.conn None → ⊥
  taken_none old mid c s seat t = never seat.member (t.taken seat.at (ap (slice_get old.connections.items) seat.conn ∙ seat.found) ∙ ap member_of seat.lower)
    where
      never : (b : Member I O) → None ≡ Some b → ⊥
      never b e = cc

module _ {F I O : Type 0} (i : link_in.Ghosts I) (o : link_out.Ghosts O) where
  -- WHERE NO MEMBER STANDS

  seat_needed : (w : World) (net : Net) (c : ℕ) (n : Nodes F I O) (at : Connection I O) (l : parts.Lower) (real : Lower I O) → slice_get n.connections.items c ≡ Some at → at.node.0 ≡ node_of w c → at.lower ≡ real → stands_here real ≡ true → has_events w c ≡ true
      → (l ≡ idle → ⊥) → ((place : ℕ) (m : Member I O) (full : FullMember) → SeatShows i o w net c n full m place → IsSome (book_at n.nodes.items (node_of w c) place)) → LowerShows i o w net c n l real → IsUnseated n c → ⊥
  seat_needed w net c n at idle (lower.Idle end) found node is here events busy books h none = busy refl
  seat_needed w net c n at (writes full) (lower.Member m place) found node is here events busy books h none =
      not_none (book_at n.nodes.items (node_of w c) place) (books place m full h.1) (ap (λ (q : ℕ). book_at n.nodes.items q place) (sym node) ∙ none at m place found is)
    where
      not_none : (x : Option (BookState F)) → IsSome x → x ≡ None → ⊥
      not_none None k e = cc
      not_none (Some b) k e = cc
  seat_needed w net c n at l lower.Ended found node is here events busy books h none = true_false (has_events w c) events h
  seat_needed w net c n at l lower.Elsewhere found node is here events busy books h none = cc
  seat_needed w net c n at l real found node is here events busy books h none = h

  -- A member stands where a lower end has events that isn't idle.
  pub seated_shown : (w : World) (net : Net) (c : ℕ) (n : Nodes F I O) → NodesShow i o w net n → IsOfPipeline w c → Placed w → has_events w c ≡ true → (w.lowers c ≡ idle → ⊥) → IsUnseated n c → ⊥
  seated_shown w net c n nodes of placed events busy none =
      let served : is_served w c ≡ true = and-left (is_served w c) (is_open (w.lowers c)) events in
      let at = element n.connections.items c (subst (λ (k : ℕ). c < k) (sym nodes.count) (served_within w c served)) in
      let shows = nodes.each c at.0 at.1 in
      seat_needed w net c n at.0 (w.lowers c) at.0.lower at.1 shows.node refl (shows.here ∙ of (served_within w c served)) events busy
      (λ place m full k. nodes.has_books (node_of w c) place k.block (placed.dialled c (served_within w c served)).to k.at_place) shows.lower_is none

module _ {F R I O : Type 0} (r : roads.Ghosts R I O) (i : link_in.Ghosts I) (o : link_out.Ghosts O) where
  pub is_seated : (w : World) (net : Net) (road : R) (c : ℕ) (n : Nodes F I O) → NodesStand r i o w net road n → IsOfPipeline w c → Placed w → has_events w c ≡ true → (w.lowers c ≡ idle → ⊥) → IsUnseated n c → ⊥
  is_seated w net road c n stands of placed events busy none = seated_shown i o w net c n stands.nodes_are of placed events busy none

module _ {F R I O : Type 0} (f : files.Ghosts F) (r : roads.Ghosts R I O) (i : link_in.Ghosts I) (o : link_out.Ghosts O) where
  -- WHY AN EVENT FAILED

  pub caused : (old mid set new : Nodes F I O) (s : Seat) (c : ℕ) (mirror : Option ℕ) (book book' : BookState F) (road road' : R) (why : MemberFault) → mid.nodes.items ≡ old.nodes.items
      → book_at mid.nodes.items s.node.0 s.place ≡ Some book → BookSet mid set s.node.0 s.place book' → new ≡ set → members.IsCaused f r c mirror book book' road road' why
      → IsCaused f r old new road road' (fault_at s.node why)
  caused old mid set new s c mirror book book' road road' member_fault.LinkFailed same at b is h = risen_at (r.risen road') c mirror h
  caused old mid set new s c mirror book book' road road' member_fault.RoadsFailed same at b is h = h
  caused old mid set new s c mirror book book' road road' member_fault.FilesFailed same at b is h = record {
    place = s.place;
    book = book;
    book' = book';
    before = ap (λ (xs : List (NodeBooks F)). book_at xs s.node.0 s.place) (sym same) ∙ at;
    now = ap (λ (n : Nodes F I O). book_at n.nodes.items s.node.0 s.place) is ∙ b.here;
    rose = h;
  }
  caused old mid set new s c mirror book book' road road' member_fault.Memory same at b is h = tt

  -- How an event of a member ends, that of the nodes does.
  pub ends_so : (old mid set new : Nodes F I O) (s : Seat) (c : ℕ) (book book' : BookState F) (left : Result (Option (Member I O)) MemberFault) (result : Result (Unit {0}) NodesFault) (road road' : R) (w : World) (net : Net) (e : Event)
      → (stands : NodesStand r i o w net road old) → Ordered w → (seat : IsSeated old c s) → (k : IsMember i o w net c old seat.member s.place) → Takes old mid c (Some seat.member) → book_at mid.nodes.items s.node.0 s.place ≡ Some book
      → BookSet mid set s.node.0 s.place book' → (happens w e).next_conn ≡ w.next_conn → KeepsRest w (happens w e) c (node_of w c) (block_of k.full.fields) → ((d : ℕ) → IsApart k.full.mirror d → is_over (happens w e) d false ≡ is_over w d false)
      → member_events.EventEnds f r i o w net e c k.full book book' road road' left → Follows set new s left result → EventEnds f r i o w net e old new road road' result
  ends_so old mid set new s c book book' (Ok left) result road road' w net e stands ordered seat k t at b conns rest over ends follows =
      subst (λ (x : Result (Unit {0}) NodesFault). EventEnds f r i o w net e old new road road' x) (sym follows.1)
      (member_left r i o w (happens w e) net road road' c old mid set new s seat.member book' left ordered stands seat k t b follows.0 conns rest over ends)
  ends_so old mid set new s c book book' (Err why) result road road' w net e stands ordered seat k t at b conns rest over ends follows =
      subst (λ (x : Result (Unit {0}) NodesFault). EventEnds f r i o w net e old new road road' x) (sym follows.1)
      (caused old mid set new s c k.full.mirror book book' road road' why t.nodes at b follows.0 ends)

  -- THE EVENT

  pub ready_shows : (old mid set new : Nodes F I O) (conn : ConnId) (s : Seat) (m : Member I O) (book book' : BookState F) (left : Result (Option (Member I O)) MemberFault) (result : Result (Unit {0}) NodesFault) (road road' : R) → (seat : IsSeated old conn.0 s)
      → Takes old mid s.conn (Some m) → book_at mid.nodes.items s.node.0 s.place ≡ Some book → BookSet mid set s.node.0 s.place book' → member_events.ReadyShows f r i o m book book' road road' left → Follows set new s left result
      → ReadyShows f r i o conn old new road road' result
  ready_shows old mid set new conn s m book book' left result road road' seat taken at b shows follows = λ w net queues stands of lawful due.
      let c : ℕ = conn.0 in
      let t : Takes old mid c (Some seat.member) = taken_as old mid c s m seat taken in
      let ready : member_events.ReadyShows f r i o seat.member book book' road road' left = subst (λ (y : Member I O). member_events.ReadyShows f r i o y book book' road road' left) (member_as old mid c s m seat taken) shows in
      let e = event.Ready conn in
      let acting : ActsAt w c = acts_at w conn queues due in
      let k : IsMember i o w net c old seat.member s.place = is_member r i o w net road c old s stands seat in
      let full : FullMember = k.full in
      let at_book : book_at old.nodes.items s.node.0 s.place ≡ Some book = ap (λ (xs : List (NodeBooks F)). book_at xs s.node.0 s.place) (sym t.nodes) ∙ at in
      let turn = some_of (ready_turn_at full.state (replica_at w c (block_of full.fields))) (ap (λ (l : parts.Lower). acts_below l w c) (sym k.lower) ∙ acting.acts) in
      let did : Step = step full.state (replica_at w c (block_of full.fields)) turn.0 in
      let broke : Option Break = break_at w c full.fields in
      let out : outcome w e ≡ Some (apply w (member_change w c full the_end did broke)) = ready-makes w conn full turn.0 acting.served k.lower turn.1 in
      let ends = ready w net conn full turn.0 (member_stands r i o w net road c old s book lawful.ordered stands seat k at_book)
      (record { served = acting.served; acts = turn.1; spelled = lawful.after.ups c }) in
      let over : (d : ℕ) → IsApart full.mirror d → is_over (happens w e) d false ≡ is_over w d false = λ d apart.
      (followed w (apply w (member_change w c full the_end did broke)) e out).over d false ∙ changed-over w (member_change w c full the_end did broke) d false in
      ends_so old mid set new s c book book' left result road road' w net e stands lawful.ordered seat k t at b
      (conns_after w w c full the_end did broke e out) (rest_after w w c full the_end did broke e out) over ends follows
