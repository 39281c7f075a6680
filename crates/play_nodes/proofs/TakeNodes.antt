-- A member among the nodes takes what stands next from above, or from its mirror.
use Rattle.std.proofs.Common.{◌≡◌, ℕ, Bool, true, false, ◌<◌, List, Option, Some, None, Result, refl, sym, ap, ◌∙◌, subst, arith, IsSome, Ok, Err}
use Rattle.std.specs.Prelude.{◌&&◌, nat_lt, is_some, option_map, slice_get}
use Rattle.std.proofs.lemmas.Bool.Decides.{nat_tests}
use Rattle.hd_base.specs.declared.files.Files as files
use Rattle.hd_base.specs.declared.links.LinkIn as link_in
use Rattle.hd_base.specs.declared.links.LinkOut as link_out
use Rattle.hd_base.specs.declared.numbers.ConnId.{ConnId}
use Rattle.hd_base.specs.declared.roads.Roads as roads
use Rattle.member_events.specs.ReplicaFiles.BookState.{BookState}
use Rattle.member_events.specs.MemberCore.Mirror.{Mirror}
use Rattle.member_events.specs.MemberCore.Mirror.TheVariants as mirror
use Rattle.member_events.specs.MemberCore.Members.{hears, down_turn}
use Rattle.member_events.specs.MemberCore.Steps.{down_step, up_step, Step, faulted_step}
use Rattle.member_events.specs.PipeMember.Member.{Member}
use Rattle.member_events.specs.PipeMember.Steps as members
use Rattle.road_traffic.specs.Showing.{Net}
use Rattle.play_model.specs.World.Event.TheVariants as event
use Rattle.play_model.specs.World.Parts as parts
use Rattle.play_model.specs.World.Parts.{Message, request, packet, ack, response, read_status, recovery_answer, FullMember, by_writer, by_member, by_reader, by_primary, idle, writes}
use Rattle.play_model.specs.World.Worlds.{World, apply}
use Rattle.play_model.specs.World.Connections.{Next, message, the_end, next_down, next_up, down_taken, up_taken, is_served, is_alive}
use Rattle.play_model.specs.World.Nodes.{block_of, replica_at, pending_at, takes_next, above_of, below_of, node_of, broke_at, member_change}
use Rattle.play_model.specs.World.Enabled.{takes_below, takes_down, hears_mirror, takes_above}
use Rattle.play_model.specs.World.Events.{happens, outcome}
use Rattle.play_model.specs.WorldLaws.Placing.{IsUpper, Placed}
use Rattle.play_model.proofs.WorldLaws.FactTables.{and-left, and-right}
use Rattle.world_orders.specs.Orders as orders
use Rattle.world_orders.specs.Orders.{Ordered, purpose_of, IsBelow, comes_up, pipeline, is_packet}
use Rattle.world_orders.specs.Takes as takes
use Rattle.world_orders.specs.Takes.{TakesInOrder}
use Rattle.world_orders.proofs.AllOrdered.{next-found}
use Rattle.member_events.specs.WorldTexts.Texts.{SpellsText, Written}
use Rattle.member_events.specs.WorldNets.Nets.{is_over}
use Rattle.member_events.specs.WorldNets.Drawn.{break_at, goes_down, goes_up, ComesDown, ComesUp, HearsMirror}
use Rattle.member_events.proofs.WorldNets.DrawnLemmas.{down-makes, up-makes}
use Rattle.member_events.proofs.WorldNets.StepLemmas.{followed, changed-over, taken-over}
use Rattle.play_model.specs.Dues.{Queues, is_open, is_open_above, is_due}
use Rattle.play_model.specs.declared.dues.Due.TheVariants as due
use Rattle.member_events.specs.declared.faults.MemberFault.{MemberFault}
use Rattle.member_events.specs.Texts.{IsPacketNext}
use Rattle.member_events.specs.Events as member_events
use Rattle.member_events.specs.Events.{IsMirrorNext, CanDown}
use Rattle.play_nodes.specs.declared.faults.NodesFault.{NodesFault}
use Rattle.play_nodes.specs.declared.nodes.NodeBooks.{NodeBooks}
use Rattle.play_nodes.specs.declared.nodes.Nodes.{Nodes}
use Rattle.play_nodes.specs.declared.nodes.Seat.{Seat}
use Rattle.play_nodes.specs.declared.connections.Connection.{Connection}
use Rattle.play_nodes.specs.declared.connections.Upper.{Upper}
use Rattle.play_nodes.specs.declared.connections.Upper.TheVariants as upper
use Rattle.play_nodes.specs.Places.{book_at, IsSeated, IsUnseated, Takes, Follows, member_above, BookSet, PutBack, FollowsDown, FollowsRefusing}
use Rattle.play_nodes.specs.Showing.{UpperShows, is_pipeline, has_events, NodesStand, NodesLeft}
use Rattle.play_nodes.specs.Events.{DownShows, UpShows, DownEnds, IsLawful}
use Rattle.play_nodes.proofs.WorldFrames.{rest_after, rest_taken, conns_after, conns_taken}
use Rattle.play_nodes.proofs.NodeFrames.{IsApart}
use Rattle.play_nodes.proofs.Tables.{element}
use Rattle.play_nodes.proofs.PlaceLaws.{same_some}
use Rattle.play_nodes.proofs.MemberNodes.{IsMember, is_member, member_stands, member_left, seat_node}
use Rattle.play_nodes.proofs.ReadyNodes.{ends_so, taken_as, member_as, is_seated, caused}
use Rattle.play_model.specs.World.Delivery.TheVariants as delivery
use Rattle.play_model.specs.World.Event.{Event}
use Rattle.member_events.specs.declared.faults.MemberFault.TheVariants as member_fault
use Rattle.member_events.specs.declared.steps.Downed.{Downed}
use Rattle.member_events.specs.declared.steps.Downed.TheVariants as downed
use Rattle.member_events.specs.Faults as member_faults
use Rattle.member_events.specs.Showing.{MemberStands, MemberLeft}
use Rattle.member_events.specs.Writes.{written_of}
use Rattle.member_events.proofs.DownEnds.{call_of, fault_made}
use Rattle.play_nodes.specs.declared.nodes.Refused.{Refused}
use Rattle.play_nodes.specs.declared.nodes.Refused.TheVariants as refused
use Rattle.play_nodes.specs.Refusing.{MemberRefuses, MemberEnds, RefusingShows, RefusingEnds, AreTold}

-- WHAT STANDS NEXT

-- A packet that stands next for a member, or the end.
packet_so : (m : Message) → is_packet m ≡ true → SpellsText m → IsPacketNext (message m)
packet_so (packet p) is h = h
packet_so (request q) is h = cc
packet_so (ack a) is h = cc
packet_so (response q) is h = cc
packet_so (read_status s) is h = cc
packet_so (recovery_answer a) is h = cc

packet_next : (w : World) (c : ℕ) (full : FullMember) (x : Next) → TakesInOrder w → Written w → w.lowers c ≡ writes full → next_down w c ≡ Some x → IsPacketNext x
packet_next w c full the_end taken written lower next = tt
packet_next w c full (message m) taken written lower next =
    packet_so m (taken.packets c full m lower next) (written.downs c (w.down_marks c).taken m (next-found (w.downs c) (w.down_marks c) m next))

-- An answer or an ack that stands next for a member that hears its mirror, or the end.
answer_so : (m : Message) → orders.is_response m ≡ true → SpellsText m → IsMirrorNext true (message m)
answer_so (response q) is h = h
answer_so (packet p) is h = cc
answer_so (request q) is h = cc
answer_so (ack a) is h = cc
answer_so (read_status s) is h = cc
answer_so (recovery_answer a) is h = cc

ack_so : (m : Message) → orders.is_ack m ≡ true → SpellsText m → IsMirrorNext false (message m)
ack_so (ack a) is h = h
ack_so (packet p) is h = cc
ack_so (request q) is h = cc
ack_so (response q) is h = cc
ack_so (read_status s) is h = cc
ack_so (recovery_answer a) is h = cc

mirror_so : (at : Mirror) (m : Message) → comes_up pipeline (takes.is_asked at) m ≡ true → SpellsText m → IsMirrorNext (members.is_asked at) (message m)
mirror_so mirror.Asked m is h = answer_so m is h
mirror_so mirror.Nobody m is h = ack_so m is h
mirror_so mirror.Unreachable m is h = ack_so m is h
mirror_so mirror.Open m is h = ack_so m is h
mirror_so mirror.Ended m is h = ack_so m is h

end_so : (b : Bool) → IsMirrorNext b the_end
end_so true = tt
end_so false = tt

mirror_next : (w : World) (d c : ℕ) (full : FullMember) (x : Next) → TakesInOrder w → Written w → w.lowers d ≡ writes full → full.mirror ≡ Some c → hears full.state ≡ true → next_up w c ≡ Some x
    → IsMirrorNext (members.is_asked full.state.mirror) x
mirror_next w d c full the_end taken written lower mirror hears next = end_so (members.is_asked full.state.mirror)
mirror_next w d c full (message m) taken written lower mirror hears next =
    mirror_so full.state.mirror m (taken.mirrors d c full m lower mirror hears next) (written.ups c (w.up_marks c).taken m (next-found (w.ups c) (w.up_marks c) m next))

-- WHAT IS DUE

-- what is due at the lower end of a connection
pub record TakesAt (w : World) (c : ℕ) : Type 0 where
  pub events : has_events w c ≡ true
  pub next : Next
  pub comes : ComesDown w c next
  pub takes : takes_below (w.lowers c) w c next ≡ true

takes_so : (w : World) (c : ℕ) (x : Option Next) → takes_down (w.lowers c) w c x ≡ true → (y : Next) × ((x ≡ Some y) × (takes_below (w.lowers c) w c y ≡ true))
takes_so w c None h = cc
takes_so w c (Some y) h = (y, (refl, h))

pub takes_at : (w : World) (conn : ConnId) (queues : Queues) → is_due w queues (due.Down conn) ≡ true → TakesAt w conn.0
takes_at w conn queues h =
    let c : ℕ = conn.0 in
    let t : Bool = takes_down (w.lowers c) w c (next_down w c) in
    let opened : is_open (w.lowers c) ≡ true = and-left (is_open (w.lowers c)) (is_served w c && t) h in
    let down : (is_served w c && t) ≡ true = and-right (is_open (w.lowers c)) (is_served w c && t) h in
    let served : is_served w c ≡ true = and-left (is_served w c) t down in
    let found = takes_so w c (next_down w c) (and-right (is_served w c) t down) in
    record { events = rw (served, opened) refl; next = found.0; comes = record { served = served; next = found.1.0 }; takes = found.1.1 }

-- what is due at the upper end of a connection that a member dialled
pub record HearsAt (w : World) (c d : ℕ) : Type 0 where
  pub full : FullMember
  pub lower : w.lowers d ≡ writes full
  pub opened : is_open (w.lowers d) ≡ true
  pub next : Next
  pub comes : ComesUp w c next
  pub heard : HearsMirror w c d full

some_so : {A : Type 0} (x : Option A) → is_some x ≡ true → (a : A) × (x ≡ Some a)
some_so None h = cc
some_so (Some a) h = (a, refl)

hears_so : (w : World) (c d : ℕ) (l : parts.Lower) → w.lowers d ≡ l → (w.dialled c).upper ≡ by_member d → hears_mirror l w d ≡ true → (full : FullMember) × HearsMirror w c d full
hears_so w c d (writes full) is upper h =
    (full, record { upper = upper; lower = is; alive = and-left (is_alive w (w.dialled d).to) (hears full.state) h; hears = and-right (is_alive w (w.dialled d).to) (hears full.state) h })
hears_so w c d l is upper h = cc

pub hears_at : (w : World) (conn : ConnId) (d : ℕ) (queues : Queues) → (w.dialled conn.0).upper ≡ by_member d → is_due w queues (due.Up conn) ≡ true → HearsAt w conn.0 d
hears_at w conn d queues upper h =
    let c : ℕ = conn.0 in
    let q : Bool = takes_above (w.dialled c).upper w c in
    let up : (nat_lt c w.next_conn && is_some (next_up w c) && q) ≡ true = and-right (is_open_above w (w.dialled c).upper) (nat_lt c w.next_conn && is_some (next_up w c) && q) h in
    let found = some_so (next_up w c) (and-right (nat_lt c w.next_conn) (is_some (next_up w c)) (and-left (nat_lt c w.next_conn && is_some (next_up w c)) q up)) in
    let hearing = hears_so w c d (w.lowers d) refl upper (ap (λ (u : parts.Upper). takes_above u w c) (sym upper) ∙ and-right (nat_lt c w.next_conn && is_some (next_up w c)) q up) in
    record {
      full = hearing.0;
      lower = hearing.1.lower;
      opened = ap (is_open_above w) (sym upper) ∙ and-left (is_open_above w (w.dialled c).upper) (nat_lt c w.next_conn && is_some (next_up w c) && q) h;
      next = found.0;
      comes = record { known = and-left (nat_lt c w.next_conn) (is_some (next_up w c)) (and-left (nat_lt c w.next_conn && is_some (next_up w c)) q up); next = found.1 };
      heard = hearing.1;
    }

-- The member hears on the connection to its mirror.
pub mirror_of_upper : (w : World) (c d : ℕ) (full : FullMember) → Ordered w → c < w.next_conn → (w.dialled c).upper ≡ by_member d → w.lowers d ≡ writes full → full.mirror ≡ Some c
mirror_of_upper w c d full ordered within upper lower = subst (λ (l : parts.Lower). orders.HasDialled c l) lower (ordered.dialled_by c d within upper)

-- THE EVENTS

-- THE MEMBER ABOVE

-- it is of a pipeline
pub pipeline_of : (u : parts.Upper) → purpose_of u ≡ pipeline → is_pipeline u ≡ true
pipeline_of (by_writer b) e = refl
pipeline_of (by_member d) e = refl
pipeline_of (by_reader i) e = cc
pipeline_of (by_primary i place) e = cc

-- A member's connection is of a pipeline.
pub writes_pipeline : (w : World) (c : ℕ) (full : FullMember) → Ordered w → w.lowers c ≡ writes full → is_pipeline (w.dialled c).upper ≡ true
writes_pipeline w c full ordered is =
    pipeline_of (w.dialled c).upper (subst (λ (l : parts.Lower). IsBelow (w.dialled c).upper (w.down_marks c).taken (w.ups c) l) is (ordered.below c)).writes

-- who dialled is the world's member
abbrev pub AboveIs : ℕ → Option ConnId → Type 0
AboveIs d a = (conn : ConnId) × ((a ≡ Some conn) × (conn.0 ≡ d))

upper_so : (d : ℕ) (u : Upper) → UpperShows (by_member d) u → AboveIs d (member_above (Some u))
upper_so d (upper.Member conn) h = (conn, (refl, h))
upper_so d u h = absurd h

within_so : (a b : ℕ) → nat_lt a b ≡ true → a < b
within_so a b h = grind (arith, nat_tests, h)

module _ {F R I O : Type 0} (r : roads.Ghosts R I O) (i : link_in.Ghosts I) (o : link_out.Ghosts O) where
  pub above_is : (w : World) (net : Net) (road : R) (conn : ConnId) (d : ℕ) (n : Nodes F I O) → NodesStand r i o w net road n → (queues : Queues) → (w.dialled conn.0).upper ≡ by_member d → is_due w queues (due.Up conn) ≡ true
      → AboveIs d (member_above (option_map (λ x. x.upper) (slice_get n.connections.items conn.0)))
  above_is w net road conn d n stands queues upper due =
      let c : ℕ = conn.0 in
      let within : c < w.next_conn = within_so c w.next_conn (hears_at w conn d queues upper due).comes.known in
      let at = element n.connections.items c (subst (λ (k : ℕ). c < k) (sym stands.nodes_are.count) within) in
      subst (λ (x : Option (Connection I O)). AboveIs d (member_above (option_map (λ y. y.upper) x))) (sym at.1)
      (upper_so d at.0.upper (subst (λ (u : parts.Upper). UpperShows u at.0.upper) upper (stands.nodes_are.each c at.0 at.1).upper_is))

  above_as : (w : World) (net : Net) (road : R) (conn : ConnId) (d : ℕ) (above : ConnId) (n : Nodes F I O) → NodesStand r i o w net road n → (queues : Queues) → (w.dialled conn.0).upper ≡ by_member d → is_due w queues (due.Up conn) ≡ true
      → member_above (option_map (λ x. x.upper) (slice_get n.connections.items conn.0)) ≡ Some above → above.0 ≡ d
  above_as w net road conn d above n stands queues upper due is =
      let a = above_is w net road conn d n stands queues upper due in
      ap (λ (x : ConnId). x.0) (same_some above a.0 (sym is ∙ a.1.0)) ∙ a.1.1

  -- No member dialled it: it isn't due there.
  pub above_needed : (w : World) (net : Net) (road : R) (conn : ConnId) (d : ℕ) (n : Nodes F I O) → NodesStand r i o w net road n → (queues : Queues) → (w.dialled conn.0).upper ≡ by_member d → is_due w queues (due.Up conn) ≡ true
      → member_above (option_map (λ x. x.upper) (slice_get n.connections.items conn.0)) ≡ None → ⊥
  above_needed w net road conn d n stands queues upper due none = never (above_is w net road conn d n stands queues upper due).0 (sym none ∙ (above_is w net road conn d n stands queues upper due).1.0)
    where
      never : (x : ConnId) → None ≡ Some x → ⊥
      never x e = cc

  -- A member stands where it hears.
  pub above_seated : (w : World) (net : Net) (road : R) (conn : ConnId) (d : ℕ) (above : ConnId) (n : Nodes F I O) → NodesStand r i o w net road n → Ordered w → Placed w → (queues : Queues) → (w.dialled conn.0).upper ≡ by_member d → is_due w queues (due.Up conn) ≡ true
      → member_above (option_map (λ x. x.upper) (slice_get n.connections.items conn.0)) ≡ Some above → IsUnseated n above.0 → ⊥
  above_seated w net road conn d above n stands ordered placed queues upper due is none =
      let hearing : HearsAt w conn.0 d = hears_at w conn d queues upper due in
      let within : conn.0 < w.next_conn = within_so conn.0 w.next_conn hearing.comes.known in
      let member : d < w.next_conn = subst (λ (u : parts.Upper). IsUpper w.next_conn u) upper (placed.dialled conn.0 within).upper in
      let served : is_served w d ≡ true = rw (test_so d w.next_conn member, hearing.heard.alive) refl in
      is_seated r i o w net road d n stands (λ dialled. writes_pipeline w d hearing.full ordered hearing.lower) placed (rw (served, hearing.opened) refl) (λ idle. busy hearing.full (sym idle ∙ hearing.lower))
      (subst (λ (q : ℕ). IsUnseated n q) (above_as w net road conn d above n stands queues upper due is) none)
    where
      busy : (full : FullMember) → idle ≡ writes full → ⊥
      busy full e = cc

      test_so : (a b : ℕ) → a < b → nat_lt a b ≡ true
      test_so a b h = grind (arith, nat_tests, h)

module _ {F R I O : Type 0} (f : files.Ghosts F) (r : roads.Ghosts R I O) (i : link_in.Ghosts I) (o : link_out.Ghosts O) where
  -- What is left of a member that has taken what stood next from above, once it is back in its place.
  left_by : (old mid set new : Nodes F I O) (s : Seat) (c : ℕ) (book' : BookState F) (left : Option (Member I O)) (road road' : R) (w : World) (net : Net) (e : Event) (x : Next) (did : Step) (broke : Option parts.Break)
      → (stands : NodesStand r i o w net road old) → Ordered w → (seat : IsSeated old c s) → (k : IsMember i o w net c old seat.member s.place) → Takes old mid c (Some seat.member) → BookSet mid set s.node.0 s.place book' → PutBack set new s left
      → outcome w e ≡ Some (apply (down_taken w c x) (member_change (down_taken w c x) c k.full x did broke)) → MemberLeft r i o w net (happens w e) c k.full book' road' left → NodesLeft r i o w net (happens w e) road' new
  left_by old mid set new s c book' left road road' w net e x did broke stands ordered seat k t b put out h =
      let w1 : World = down_taken w c x in
      let full : FullMember = k.full in
      let over : (d : ℕ) → IsApart full.mirror d → is_over (happens w e) d false ≡ is_over w d false = λ d apart.
      (followed w (apply w1 (member_change w1 c full x did broke)) e out).over d false ∙ (changed-over w1 (member_change w1 c full x did broke) d false ∙ taken-over w d false c true x (λ same. refl)) in
      member_left r i o w (happens w e) net road road' c old mid set new s seat.member book' left ordered stands seat k t b put
      (conns_after w w1 c full x did broke e out ∙ conns_taken w c true x) (rest_taken w c true x (happens w e) c (block_of full.fields) (rest_after w w1 c full x did broke e out)) over h

  -- A member among the nodes that takes what stands next from above.
  record TakesDown (w : World) (net : Net) (conn : ConnId) (answered : Bool) (old mid : Nodes F I O) (s : Seat) (book : BookState F) (road : R) (seat : IsSeated old conn.0 s) : Type 0 where
    t : Takes old mid conn.0 (Some seat.member)
    k : IsMember i o w net conn.0 old seat.member s.place
    next : Next
    stands : MemberStands r i o w net conn.0 k.full book seat.member road
    can : CanDown w conn answered k.full next
    at_book : book_at old.nodes.items s.node.0 s.place ≡ Some book

  member_takes : (w : World) (net : Net) (conn : ConnId) (answered : Bool) (queues : Queues) (old mid : Nodes F I O) (s : Seat) (m : Member I O) (book : BookState F) (road : R) (seat : IsSeated old conn.0 s) → Takes old mid s.conn (Some m) → book_at mid.nodes.items s.node.0 s.place ≡ Some book
      → NodesStand r i o w net road old → IsLawful w (event.Down conn answered) → is_due w queues (due.Down conn) ≡ true → TakesDown w net conn answered old mid s book road seat
  member_takes w net conn answered queues old mid s m book road seat taken at stands lawful due =
      let c : ℕ = conn.0 in
      let t : Takes old mid c (Some seat.member) = taken_as old mid c s m seat taken in
      let taking : TakesAt w c = takes_at w conn queues due in
      let x : Next = taking.next in
      let k : IsMember i o w net c old seat.member s.place = is_member r i o w net road c old s stands seat in
      let full : FullMember = k.full in
      let at_book : book_at old.nodes.items s.node.0 s.place ≡ Some book = ap (λ (xs : List (NodeBooks F)). book_at xs s.node.0 s.place) (sym t.nodes) ∙ at in
      record {
        t = t;
        k = k;
        next = x;
        stands = member_stands r i o w net road c old s book lawful.ordered stands seat k at_book;
        can = record {
          comes = taking.comes;
          takes = ap (λ (l : parts.Lower). takes_below l w c x) (sym k.lower) ∙ taking.takes;
          packets = packet_next w c full x lawful.taken lawful.before k.lower taking.comes.next;
          spelled = lawful.after.ups c;
        };
        at_book = at_book;
      }

  linked : (c : ℕ) (mirror : Option ℕ) (book book' : BookState F) (road road' : R) (why : MemberFault) → member_faults.IsLinkCaused r c mirror road road' why → member_faults.IsCaused f r c mirror book book' road road' why
  linked c mirror book book' road road' member_fault.LinkFailed h = h
  linked c mirror book book' road road' member_fault.RoadsFailed h = h
  linked c mirror book book' road road' member_fault.FilesFailed h = absurd h
  linked c mirror book book' road road' member_fault.Memory h = h

  -- The event was done, and what is left is back in its place.
  done_left : (w : World) (net : Net) (conn : ConnId) (answered : Bool) (old mid set new : Nodes F I O) (s : Seat) (book book' : BookState F) (left : Option (Member I O)) (road road' : R) (seat : IsSeated old conn.0 s) (d : TakesDown w net conn answered old mid s book road seat) → NodesStand r i o w net road old → Ordered w
      → BookSet mid set s.node.0 s.place book' → PutBack set new s left → MemberLeft r i o w net (happens w (event.Down conn answered)) conn.0 d.k.full book' road' left → NodesLeft r i o w net (happens w (event.Down conn answered)) road' new
  done_left w net conn answered old mid set new s book book' left road road' seat d stands ordered b put h =
      let w1 : World = down_taken w conn.0 d.next in
      left_by old mid set new s conn.0 book' left road road' w net (event.Down conn answered) d.next (down_step d.k.full.state (replica_at w1 conn.0 (block_of d.k.full.fields)) (above_of d.next)) (break_at w1 conn.0 d.k.full.fields)
      stands ordered seat d.k d.t b put ((down-makes w conn answered d.next d.can.comes).member d.k.full d.k.lower d.can.takes) h

  -- A call on files failed in it, and nothing is left.
  broke_left : (w : World) (net : Net) (conn : ConnId) (answered : Bool) (old mid set new : Nodes F I O) (s : Seat) (book book' : BookState F) (road road' : R) (seat : IsSeated old conn.0 s) (d : TakesDown w net conn answered old mid s book road seat) → NodesStand r i o w net road old → Ordered w
      → BookSet mid set s.node.0 s.place book' → PutBack set new s None → MemberLeft r i o w net (happens w (event.Fault (delivery.Down conn))) conn.0 d.k.full book' road' None → NodesLeft r i o w net (happens w (event.Fault (delivery.Down conn))) road' new
  broke_left w net conn answered old mid set new s book book' road road' seat d stands ordered b put h =
      let w1 : World = down_taken w conn.0 d.next in
      let full : FullMember = d.k.full in
      let call = call_of full.state d.next d.can.packets in
      left_by old mid set new s conn.0 book' None road road' w net (event.Fault (delivery.Down conn)) d.next (faulted_step full.state (replica_at w1 conn.0 (block_of full.fields)) (down_turn full.state (above_of d.next))) (broke_at w1 conn.0 (block_of full.fields) call.booked)
      stands ordered seat d.k d.t b put (fault_made w conn full d.next call.booked d.can.comes d.can.takes d.k.lower call.is) h

  pub down_shows : (old mid set new : Nodes F I O) (conn : ConnId) (s : Seat) (m : Member I O) (book book' : BookState F) (ended : Result (Downed I O) MemberFault) (grew : Bool) (result : Result Bool NodesFault) (road road' : R) → (seat : IsSeated old conn.0 s)
      → Takes old mid s.conn (Some m) → book_at mid.nodes.items s.node.0 s.place ≡ Some book → BookSet mid set s.node.0 s.place book' → member_events.DownShows f r i o m book book' road road' ended → grew ≡ nat_lt (written_of book) (written_of book') → FollowsDown set new s ended grew result
      → DownShows f r i o conn old new road road' result
  down_shows old mid set new conn s m book book' ended grew result road road' seat taken at b shows is follows = λ w net queues answered stands of lawful due busy.
      let d = member_takes w net conn answered queues old mid s m book road seat taken at stands lawful due in
      let down : member_events.DownShows f r i o seat.member book book' road road' ended = subst (λ (y : Member I O). member_events.DownShows f r i o y book book' road road' ended) (member_as old mid conn.0 s m seat taken) shows in
      by_end w net answered stands lawful.ordered d ended follows (down w net conn answered d.k.full d.next d.stands d.can)
    where
      by_end : (w : World) (net : Net) (answered : Bool) → NodesStand r i o w net road old → Ordered w → (d : TakesDown w net conn answered old mid s book road seat) (x : Result (Downed I O) MemberFault) → FollowsDown set new s x grew result
          → member_events.DownEnds f r i o w net conn answered d.k.full book book' road road' x → DownEnds f r i o w net conn answered old new road road' result
      by_end w net answered stands ordered d (Ok (downed.Done left)) k h =
          subst (λ (y : Result Bool NodesFault). DownEnds f r i o w net conn answered old new road road' y) (sym k.1)
          (record { grown = is ∙ sym h.told.is_grown; is_left = done_left w net conn answered old mid set new s book book' left road road' seat d stands ordered b k.0 h.is_left })
      by_end w net answered stands ordered d (Ok downed.Broke) k h =
          subst (λ (y : Result Bool NodesFault). DownEnds f r i o w net conn answered old new road road' y) (sym k.1)
          (caused f r i o old mid set new s conn.0 d.k.full.mirror book book' road road' member_fault.FilesFailed d.t.nodes at b k.0 h.rose)
      by_end w net answered stands ordered d (Err why) k h =
          subst (λ (y : Result Bool NodesFault). DownEnds f r i o w net conn answered old new road road' y) (sym k.1)
          (caused f r i o old mid set new s conn.0 d.k.full.mirror book book' road road' why d.t.nodes at b k.0 (linked conn.0 d.k.full.mirror book book' road road' why h))

  -- The same while the writes on the data file are refused.
  pub refusing_shows : (old mid set new : Nodes F I O) (conn : ConnId) (s : Seat) (m : Member I O) (book book' : BookState F) (ended : Result (Refused I O) MemberFault) (result : Result Bool NodesFault) (road road' : R) → (seat : IsSeated old conn.0 s)
      → Takes old mid s.conn (Some m) → book_at mid.nodes.items s.node.0 s.place ≡ Some book → BookSet mid set s.node.0 s.place book' → MemberRefuses f r i o m book book' road road' ended → FollowsRefusing set new s ended result
      → RefusingShows f r i o conn old new road road' result
  refusing_shows old mid set new conn s m book book' ended result road road' seat taken at b shows follows = λ w net queues answered stands of lawful due busy.
      let d = member_takes w net conn answered queues old mid s m book road seat taken at stands lawful due in
      let down : MemberRefuses f r i o seat.member book book' road road' ended = subst (λ (y : Member I O). MemberRefuses f r i o y book book' road road' ended) (member_as old mid conn.0 s m seat taken) shows in
      by_end w net answered stands lawful.ordered d ended follows (down w net conn answered d.k.full d.next d.stands d.can)
    where
      told_here : (w : World) (net : Net) (answered : Bool) → NodesStand r i o w net road old → TakesDown w net conn answered old mid s book road seat → AreTold f old (node_of w conn.0) → IsSome (f.files book.drawer)
      told_here w net answered stands d told = told s.place book (ap (λ (q : ℕ). book_at old.nodes.items q s.place) (sym (seat_node r i o w net road conn.0 old s stands seat)) ∙ d.at_book)

      by_end : (w : World) (net : Net) (answered : Bool) → NodesStand r i o w net road old → Ordered w → (d : TakesDown w net conn answered old mid s book road seat) (x : Result (Refused I O) MemberFault) → FollowsRefusing set new s x result
          → MemberEnds f r i o w net conn answered d.k.full book book' road road' x → RefusingEnds f r i o w net conn answered old new road road' result
      by_end w net answered stands ordered d (Ok (refused.Done left)) k h =
          subst (λ (y : Result Bool NodesFault). RefusingEnds f r i o w net conn answered old new road road' y) (sym k.1) (record {
            is_left = done_left w net conn answered old mid set new s book book' left road road' seat d stands ordered b k.0 h.is_left;
            still = λ told. h.still (told_here w net answered stands d told);
          })
      by_end w net answered stands ordered d (Ok refused.Broke) k h =
          subst (λ (y : Result Bool NodesFault). RefusingEnds f r i o w net conn answered old new road road' y) (sym k.1) (record {
            is_left = broke_left w net conn answered old mid set new s book book' road road' seat d stands ordered b k.0 h.is_left;
            grown = λ told. h.grown (told_here w net answered stands d told);
          })
      by_end w net answered stands ordered d (Ok refused.Failed) k h =
          subst (λ (y : Result Bool NodesFault). RefusingEnds f r i o w net conn answered old new road road' y) (sym k.1)
          (caused f r i o old mid set new s conn.0 d.k.full.mirror book book' road road' member_fault.FilesFailed d.t.nodes at b k.0 h)
      by_end w net answered stands ordered d (Err why) k h =
          subst (λ (y : Result Bool NodesFault). RefusingEnds f r i o w net conn answered old new road road' y) (sym k.1)
          (caused f r i o old mid set new s conn.0 d.k.full.mirror book book' road road' why d.t.nodes at b k.0 (linked conn.0 d.k.full.mirror book book' road road' why h))

  pub up_shows : (old mid set new : Nodes F I O) (conn above : ConnId) (s : Seat) (m : Member I O) (book book' : BookState F) (left : Result (Option (Member I O)) MemberFault) (result : Result (Unit {0}) NodesFault) (road road' : R) → (seat : IsSeated old above.0 s)
      → member_above (option_map (λ x. x.upper) (slice_get old.connections.items conn.0)) ≡ Some above
      → Takes old mid s.conn (Some m) → book_at mid.nodes.items s.node.0 s.place ≡ Some book → BookSet mid set s.node.0 s.place book' → member_events.UpShows f r i o conn m book book' road road' left → Follows set new s left result
      → UpShows f r i o conn old new road road' result
  up_shows old mid set new conn above s m book book' left result road road' seat dialled taken at b shows follows = λ w net queues d stands lawful due upper.
      let c : ℕ = above.0 in
      let t : Takes old mid c (Some seat.member) = taken_as old mid c s m seat taken in
      let up : member_events.UpShows f r i o conn seat.member book book' road road' left = subst (λ (y : Member I O). member_events.UpShows f r i o conn y book book' road road' left) (member_as old mid c s m seat taken) shows in
      let e = event.Up conn in
      let upper_is : (w.dialled conn.0).upper ≡ by_member c = upper ∙ ap by_member (sym (above_as r i o w net road conn d above old stands queues upper due dialled)) in
      let hearing : HearsAt w conn.0 c = hears_at w conn c queues upper_is due in
      let x : Next = hearing.next in
      let k : IsMember i o w net c old seat.member s.place = is_member r i o w net road c old s stands seat in
      let full : FullMember = k.full in
      let same : hearing.full ≡ full = full_same hearing.full full (sym hearing.lower ∙ k.lower) in
      let heard : HearsMirror w conn.0 c full = subst (λ (y : FullMember). HearsMirror w conn.0 c y) same hearing.heard in
      let at_book : book_at old.nodes.items s.node.0 s.place ≡ Some book = ap (λ (xs : List (NodeBooks F)). book_at xs s.node.0 s.place) (sym t.nodes) ∙ at in
      let of_mirror : full.mirror ≡ Some conn.0 = mirror_of_upper w conn.0 c full lawful.ordered (within_so conn.0 w.next_conn hearing.comes.known) upper_is k.lower in
      let w1 : World = up_taken w conn.0 x in
      let did = up_step full.state (replica_at w1 c (block_of full.fields)) (below_of x) in
      let out = (up-makes w conn x hearing.comes).member c full heard in
      let ends = up w net c full x (member_stands r i o w net road c old s book lawful.ordered stands seat k at_book)
      (record {
        comes = hearing.comes;
        heard = heard;
        of_mirror = of_mirror;
        answers = mirror_next w c conn.0 full x lawful.taken lawful.before k.lower of_mirror heard.hears hearing.comes.next;
        spelled = lawful.after.ups c;
      }) in
      let over : (d : ℕ) → IsApart full.mirror d → is_over (happens w e) d false ≡ is_over w d false = λ d apart.
      (followed w (apply w1 (goes_up w1 c full x)) e out).over d false ∙ (changed-over w1 (goes_up w1 c full x) d false ∙
      taken-over w d false conn.0 false x (λ same. absurd (subst (λ (m : Option ℕ). IsApart m d) of_mirror apart same))) in
      ends_so f r i o old mid set new s c book book' left result road road' w net e stands lawful.ordered seat k t at b
      (conns_after w w1 c full x did (break_at w1 c full.fields) e out ∙ conns_taken w conn.0 false x) (rest_taken w conn.0 false x (happens w e) c (block_of full.fields) (rest_after w w1 c full x did (break_at w1 c full.fields) e out)) over ends follows
    where
      full_same : (a b : FullMember) → writes a ≡ writes b → a ≡ b
      full_same a b e = cc
