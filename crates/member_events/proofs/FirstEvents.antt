-- An end that has taken nothing yet takes its first message, a request of any kind.
use Rattle.std.proofs.Common.{◌≡◌, ℕ, Bool, true, false, [], Option, Some, None, Result, Ok, Err, inl, refl, sym, ap, ◌∙◌, subst}
use Rattle.hd_base.specs.Links.{Inbox}
use Rattle.hd_base.specs.Ends.{has_failed}
use Rattle.hd_base.specs.declared.ends.Conn.{Conn}
use Rattle.hd_base.specs.declared.links.LinkIn as link_in
use Rattle.hd_base.specs.declared.links.LinkOut as link_out
use Rattle.hd_base.specs.declared.numbers.ConnId.{ConnId}
use Rattle.hd_base.specs.declared.roads.Roads as roads
use Rattle.pipe_member.specs.FrameFeed.Kinds.{requests}
use Rattle.pipe_member.specs.FrameFeed.KindLaws.{requests_sound}
use Rattle.pipe_member.specs.LinkMessages.Next as came
use Rattle.pipe_member.specs.LinkMessages.Next.TheVariants as next
use Rattle.link_pieces.specs.Roads.{names, ExchangesEnd}
use Rattle.op_headers.specs.declared.ops.Op.{Op}
use Rattle.pipe_member.specs.declared.stages.Looked.TheVariants as looked
use Rattle.pipe_member.specs.Looks.{looked_of}
use Rattle.road_traffic.specs.Showing.{Net}
use Rattle.road_traffic.specs.Laws.{left_net}
use Rattle.road_traffic.proofs.TrafficLemmas.{same-itself}
use Rattle.world_texts.specs.World.Event.{Event}
use Rattle.world_texts.specs.World.Event.TheVariants as event
use Rattle.world_texts.specs.World.Parts.{request, ended_below}
use Rattle.world_texts.specs.World.Worlds.{World, apply}
use Rattle.world_texts.specs.World.Connections.{Next, message, the_end, down_taken}
use Rattle.world_texts.specs.World.Nodes.{closing}
use Rattle.world_texts.specs.World.Events.{outcome, happens}
use Rattle.world_texts.specs.WorldNets.Rows.{text_of}
use Rattle.world_texts.specs.WorldNets.Nets.{IsNetOf, held_by, inbox_for, is_over}
use Rattle.world_texts.specs.WorldNets.Drawn.{ComesDown, IsNoRequest}
use Rattle.world_texts.specs.WorldNets.Steps.{taken_net, is_end}
use Rattle.world_texts.proofs.WorldNets.DrawnLemmas.{down-makes}
use Rattle.world_texts.proofs.WorldNets.FlushingLemmas.{closing-sends}
use Rattle.world_texts.proofs.WorldNets.StepLemmas.{taken-net, taken-over, changed-over, followed}
use Rattle.member_events.specs.declared.beginning.FirstRequest.{FirstRequest}
use Rattle.member_events.specs.declared.faults.MemberFault.{MemberFault}
use Rattle.member_events.specs.declared.faults.MemberFault.TheVariants as fault
use Rattle.member_events.specs.Faults.{IsRoadFault}
use Rattle.member_events.specs.Steps.{FailsBy}
use Rattle.member_events.specs.Beginning.{IsBroken, IsClosed, HandsNone, Closes, GivesFirst, LooksFirst, FollowsFirst, IdleStands, IsFirstRequest, CanTakeFirst, HasFirst, HasEnded, IsEndFault, FirstShows}
use Rattle.member_events.proofs.CauseLaws.{in_failed, one_risen}
use Rattle.member_events.proofs.DownEvents.{held_took}
use Rattle.member_events.proofs.EndLaws.{HeldAt, RoadsAt, end_held, end_from, end_sends, end_passes, end_brought}
use Rattle.member_events.proofs.NetLaws.{brought_net, other_passed, other_left}
use Rattle.member_events.proofs.TakeLaws.{message_came, end_came}
use Rattle.member_events.proofs.WorldLaws.{at_put, happened}

-- WHAT CAME

-- what the end gives where this stands next
abbrev first_of : Next → came.Next Op
first_of (message (request r)) = next.Message r
first_of (message other) = next.Unreadable
first_of the_end = next.End

record CameFirst {I : Type 0} (i : link_in.Ghosts I) (x : Next) (half' : I) (r : came.Next Op) : Type 0 where
  is : r ≡ first_of x
  holds : i.held half' ≡ Some (held_by (is_end x))

came_first : {I : Type 0} (i : link_in.Ghosts I) (x : Next) (half half' : I) (r : came.Next Op) → IsFirstRequest x → i.held half ≡ Some (inbox_for x) → GivesFirst i half half' r → looked_of r ≡ looked.Known → CameFirst i x half' r
came_first i (message (request asked)) half half' r spelled held g known =
    let k = message_came requests i requests_sound asked (text_of (request asked)) g.left half half' r spelled held g.ends known in
    record { is = k.is; holds = k.holds }
came_first i (message other) half half' r spelled held g known = absurd spelled
came_first i the_end half half' r spelled held g known =
    let k = end_came requests i g.left half half' r held g.ends known in
    record { is = k.is; holds = k.holds }

-- it is this request
came_request : (x : Next) (asked : Op) → IsFirstRequest x → next.Message asked ≡ first_of x → x ≡ message (request asked)
came_request (message (request other)) asked spelled h =
    let same : asked ≡ other = cc in ap (λ (y : Op). message (request y)) (sym same)
came_request (message other) asked spelled h = absurd spelled
came_request the_end asked spelled h = cc

-- no request
abbrev IsOther : came.Next Op → Type 0
IsOther (next.Message asked) = ⊥
IsOther other = Unit {0}

first_end : (x : Next) (r : came.Next Op) → IsFirstRequest x → IsOther r → r ≡ first_of x → x ≡ the_end
first_end (message (request asked)) r spelled h is = absurd (subst IsOther is h)
first_end (message other) r spelled h is = absurd spelled
first_end the_end r spelled h is = refl

-- THE WORLD AFTER THE END

closed_lower : (w v : World) (c : ℕ) (e : Event) → outcome w e ≡ Some (apply v (closing v c)) → (happens w e).lowers c ≡ ended_below
unfolding apply
closed_lower w v c e out = ap (λ (u : World). u.lowers c) (happened w (apply v (closing v c)) e out) ∙ at_put v.lowers c ended_below

module _ {R I O : Type 0} (r : roads.Ghosts R I O) (i : link_in.Ghosts I) (o : link_out.Ghosts O) where
  -- what an end has that was exchanged and took this
  record HasDrawn (w : World) (net : Net) (c : ℕ) (x : Next) (road : R) (e : Conn I O) : Type 0 where
    is_net : IsNetOf (down_taken w c x) (taken_net net c true)
    at : RoadsAt r (taken_net net c true) road
    held : HeldAt i o (taken_net net c true) false [] (inbox_for x) c true e
    over : is_over (down_taken w c x) c true ≡ is_end x

  has_drawn : (w : World) (net : Net) (c : ℕ) (x : Next) (old new : Conn I O) (road road' : R) → IdleStands r i o w net c old road → ComesDown w c x → ExchangesEnd r i o (names (Some old.id) old.id) old new road road' (Ok tt) → HasDrawn w net c x road' new
  has_drawn w net c x old new road road' stands comes ex =
      let takes = taken-net w net c true x stands.roads_are.is_net stands.end_is.within stands.end_is.taking comes.next in
      let at : RoadsAt r net road = record { sane = stands.roads_are.sane; shows = stands.roads_are.shows } in
      let p = end_passes r i o net true false [] (held_by (is_over w c true)) c true road road' old new at (end_held i o w net c true old stands.end_is) (λ z. ap held_by takes.before)
      (subst (λ (b : Bool). ExchangesEnd r i o b old new road road' (Ok tt)) (same-itself old.id.0) ex) in
      record {
        is_net = takes.is_net;
        at = p.roads_at;
        held = subst (λ (b : Inbox). HeldAt i o (taken_net net c true) false [] b c true new) takes.holds p.held;
        over = takes.after;
      }

  -- and what it holds once that was received
  has_taken : (w : World) (net : Net) (c : ℕ) (x : Next) (old new : Conn I O) (road : R) (q : came.Next Op) → HasDrawn w net c x road old → LooksFirst i old new q → CameFirst i x new.inward q → i.shut new.inward ≡ i.shut old.inward
      → HeldAt i o (taken_net net c true) false [] (held_by (is_end x)) c true new
  has_taken w net c x old new road q h looks k shut =
      held_took i o (taken_net net c true) false [] (inbox_for x) (held_by (is_end x)) c true old new (record { id = looks.id; lower = looks.lower; outward = looks.outward; shut = shut; holds = k.holds }) h.held

  -- A request was taken.
  requested : (w : World) (net : Net) (c : ℕ) (x : Next) (old held new : Conn I O) (asked : Op) (road middle : R) → IdleStands r i o w net c old road → CanTakeFirst w c x → ExchangesEnd r i o (names (Some old.id) old.id) old held road middle (Ok tt)
      → LooksFirst i held new (next.Message asked) → HasFirst r i o w net c x middle (record { end = new; op = asked })
  requested w net c x old held new asked road middle stands can ex looks =
      let h = has_drawn w net c x old held road middle stands can.comes ex in
      let k = came_first i x held.inward new.inward (next.Message asked) can.first h.held.is.held looks.comes refl in
      let is = came_request x asked can.first k.is in
      let n1 : Net = taken_net net c true in
      let taken = has_taken w net c x held new middle (next.Message asked) h looks k looks.comes.ends.shut in
      record {
        is_request = is;
        made = n1;
        roads_are = record { is_net = h.is_net; sane = h.at.sane; shows = h.at.shows };
        end_is = end_from i o (down_taken w c x) n1 c true (is_end x) new h.over taken;
        others = λ d b e none z. other_passed r i o w (down_taken w c x) net c None true false false false [] [] d b e none (taken-over w d b c true x none.0) z;
      }

  -- The end was taken.
  closed_by : (w : World) (net : Net) (conn : ConnId) (answered : Bool) (x : Next) (old held new : Conn I O) (q : came.Next Op) (road middle road' : R) → IdleStands r i o w net conn.0 old road → CanTakeFirst w conn.0 x → ExchangesEnd r i o (names (Some old.id) old.id) old held road middle (Ok tt)
      → LooksFirst i held new q → GivesFirst i held.inward new.inward q → IsOther q → looked_of q ≡ looked.Known → Closes r i o new middle road' → HasEnded r i o w net (happens w (event.Down conn answered)) conn.0 x road'
  closed_by w net conn answered x old held new q road middle road' stands can ex looks gives other known cl =
      let c = conn.0 in
      let w1 : World = down_taken w c x in
      let v : World = happens w (event.Down conn answered) in
      let n1 : Net = taken_net net c true in
      let h = has_drawn w net c x old held road middle stands can.comes ex in
      let k = came_first i x held.inward new.inward q can.first h.held.is.held gives known in
      let is : x ≡ the_end = first_end x q can.first other k.is in
      let taken = has_taken w net c x held new middle q h looks k gives.ends.shut in
      let sent : HeldAt i o n1 true [] (held_by (is_end x)) c true cl.shut =
      end_sends i o n1 (held_by (is_end x)) c true None true new cl.shut (record { middle = new; keeps = record { id = refl; lower = refl; inward = refl }; says = inl refl; shuts = cl.shuts }) taken in
      let left : Net = left_net true n1 c true [] in
      let at = end_brought r i o n1 true [] (held_by (is_end x)) c true middle road' cl.shut h.at sent.id sent.side sent.within sent.is cl.brings in
      let out : outcome w (event.Down conn answered) ≡ Some (apply w1 (closing w1 c)) = (down-makes w conn answered x can.comes).other stands.lower (subst IsNoRequest (sym is) tt) in
      let f = followed w (apply w1 (closing w1 c)) (event.Down conn answered) out in
      let n = brought_net w1 n1 (closing w1 c) c None true false [] [] h.is_net (closing-sends w1 c) in
      let same : (d : ℕ) (b : Bool) → is_over v d b ≡ is_over w1 d b = λ d b. f.over d b ∙ changed-over w1 (closing w1 c) d b in
      record {
        is_end = is;
        made = left;
        roads_are = record { is_net = f.nets left n; sane = at.sane; shows = at.shows };
        lower = closed_lower w w1 c (event.Down conn answered) out;
        others = λ d b e none z. other_left r i o w1 v n1 c None true false [] [] d b e none (same d b)
            (other_passed r i o w w1 net c None true false false false [] [] d b e none (taken-over w d b c true x none.0) z);
      }

  -- HOW IT FAILED

  road_fault_is : (c : ℕ) (road road' : R) (why : MemberFault) → IsRoadFault (r.faults road) (r.faults road') why → IsEndFault r c road road' why
  road_fault_is c road road' fault.RoadsFailed h = h
  road_fault_is c road road' fault.Memory h = tt
  road_fault_is c road road' fault.LinkFailed h = absurd h
  road_fault_is c road road' fault.FilesFailed h = h

  first_unmade : (old : Conn I O) (why : MemberFault) (road road' : R) → IsRoadFault (r.faults road) (r.faults road') why → FirstShows r i o old road road' (Err why)
  first_unmade old why road road' h = λ w net conn answered x stands can. road_fault_is conn.0 road road' why h

  pub first_failed : (old : Conn I O) (result : Result (Option (FirstRequest I O)) MemberFault) (why : MemberFault) (road road' : R) → result ≡ Err why → IsRoadFault (r.faults road) (r.faults road') why → FirstShows r i o old road road' result
  first_failed old result why road road' is h = subst (λ (z : Result (Option (FirstRequest I O)) MemberFault). FirstShows r i o old road road' z) (sym is) (first_unmade old why road road' h)

  memory_fault : (c : ℕ) (road road' : R) (why : MemberFault) → why ≡ fault.Memory → IsEndFault r c road road' why
  memory_fault c road road' why is = subst (λ (z : MemberFault). IsEndFault r c road road' z) (sym is) tt

  broken_fault : (c : ℕ) (first road road' : R) (e : Conn I O) (why : MemberFault) → e.id.0 ≡ c → has_failed i o e ≡ true → IsBroken r i o e road road' why → IsEndFault r c first road' why
  broken_fault c first road road' e fault.LinkFailed id failed h = subst (λ (n : ℕ). r.risen road' n ≡ true) id (one_risen r i o e road road' h failed)
  broken_fault c first road road' e fault.Memory id failed h = tt
  broken_fault c first road road' e fault.RoadsFailed id failed h = absurd h
  broken_fault c first road road' e fault.FilesFailed id failed h = absurd h

  -- WHAT FOLLOWS

  closed_shows : (old held new : Conn I O) (q : came.Next Op) (result : Result (Option (FirstRequest I O)) MemberFault) (road middle road' : R) → ExchangesEnd r i o (names (Some old.id) old.id) old held road middle (Ok tt)
      → LooksFirst i held new q → GivesFirst i held.inward new.inward q → IsOther q → looked_of q ≡ looked.Known → HandsNone (IsClosed r i o new middle road') result → FirstShows r i o old road road' result
  closed_shows old held new q (Ok None) road middle road' ex looks gives other known h = λ w net conn answered x stands can. closed_by w net conn answered x old held new q road middle road' stands can ex looks gives other known h
  closed_shows old held new q (Ok (Some made)) road middle road' ex looks gives other known h = absurd h
  closed_shows old held new q (Err why) road middle road' ex looks gives other known h = λ w net conn answered x stands can. memory_fault conn.0 road road' why h

  failed_shows : (old held new : Conn I O) (result : Result (Option (FirstRequest I O)) MemberFault) (road middle road' : R) → ExchangesEnd r i o (names (Some old.id) old.id) old held road middle (Ok tt)
      → LooksFirst i held new next.Failed → FailsBy (IsBroken r i o new middle road') result → FirstShows r i o old road road' result
  failed_shows old held new (Ok left) road middle road' ex looks h = absurd h
  failed_shows old held new (Err why) road middle road' ex looks h = λ w net conn answered x stands can.
      broken_fault conn.0 road middle road' new why (ap (λ (y : ConnId). y.0) (looks.id ∙ ex.kept.id) ∙ stands.end_is.id)
      (in_failed i o (i.faults held.inward) new looks.comes.ends.comes.0) h

  made_shows : (old held new : Conn I O) (asked : Op) (result : Result (Option (FirstRequest I O)) MemberFault) (road middle road' : R) → ExchangesEnd r i o (names (Some old.id) old.id) old held road middle (Ok tt)
      → LooksFirst i held new (next.Message asked) → road' ≡ middle → result ≡ Ok (Some (record { end = new; op = asked })) → FirstShows r i o old road road' result
  made_shows old held new asked result road middle road' ex looks same is =
      subst (λ (z : Result (Option (FirstRequest I O)) MemberFault). FirstShows r i o old road road' z) (sym is)
      (λ w net conn answered x stands can. subst (λ (y : R). HasFirst r i o w net conn.0 x y (record { end = new; op = asked })) (sym same) (requested w net conn.0 x old held new asked road middle stands can ex looks))

  memory_shows : (old : Conn I O) (result : Result (Option (FirstRequest I O)) MemberFault) (road road' : R) → result ≡ Err fault.Memory → FirstShows r i o old road road' result
  memory_shows old result road road' is = subst (λ (z : Result (Option (FirstRequest I O)) MemberFault). FirstShows r i o old road road' z) (sym is) (λ w net conn answered x stands can. tt)

  pub first_shows : (old held new : Conn I O) (q : came.Next Op) (result : Result (Option (FirstRequest I O)) MemberFault) (road middle road' : R) → ExchangesEnd r i o (names (Some old.id) old.id) old held road middle (Ok tt)
      → LooksFirst i held new q → FollowsFirst r i o q new middle road' result → FirstShows r i o old road road' result
  first_shows old held new (next.Message asked) result road middle road' ex looks h = made_shows old held new asked result road middle road' ex looks h.0 h.1
  first_shows old held new next.Failed result road middle road' ex looks h = failed_shows old held new result road middle road' ex looks h
  first_shows old held new next.Memory result road middle road' ex looks h = memory_shows old result road road' h
  first_shows old held new next.Unreadable result road middle road' ex looks h = closed_shows old held new next.Unreadable result road middle road' ex looks looks.comes tt refl h
  first_shows old held new next.End result road middle road' ex looks h = closed_shows old held new next.End result road middle road' ex looks looks.comes tt refl h
  first_shows old held new next.NotYet result road middle road' ex looks h = closed_shows old held new next.NotYet result road middle road' ex looks looks.comes tt refl h
