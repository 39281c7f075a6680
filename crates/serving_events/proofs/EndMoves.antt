-- An end that has sent what a change of the world sends is exchanged, or shut and brought back: the roads and the ends are those of the world after it.
use Rattle.std.proofs.Common.{◌≡◌, ℕ, Bool, true, false, List, [], ◌∷◌, map, Some, None, Ok, ap, ◌∙◌}
use Rattle.hd_base.specs.Links.{Inbox}
use Rattle.hd_base.specs.declared.ends.Conn.{Conn}
use Rattle.hd_base.specs.declared.links.LinkIn as link_in
use Rattle.hd_base.specs.declared.links.LinkOut as link_out
use Rattle.hd_base.specs.declared.roads.Roads as roads
use Rattle.hd_base.specs.declared.numbers.ConnId.{ConnId}
use Rattle.link_pieces.specs.Roads.{ExchangesEnd}
use Rattle.visible_read.specs.PipeTurns.Acting.{ShutsBy}
use Rattle.road_traffic.specs.Showing.{Net, exchanged_net}
use Rattle.road_traffic.specs.Laws.{left_net}
use Rattle.road_traffic.proofs.CallLemmas.{shut-shows}
use Rattle.member_events.specs.World.Event.{Event}
use Rattle.member_events.specs.World.Parts.{Message}
use Rattle.member_events.specs.World.Worlds.{World, Change, apply}
use Rattle.member_events.specs.World.Events.{outcome, happens}
use Rattle.member_events.specs.WorldNets.Rows.{text_of}
use Rattle.member_events.specs.WorldNets.Nets.{IsNetOf, IsEndOf, held_by, is_over}
use Rattle.member_events.specs.WorldNets.Flushing.{lower_flush}
use Rattle.member_events.specs.WorldNets.Steps.{SendsBy}
use Rattle.member_events.proofs.WorldNets.StepLemmas.{changed-over, followed}
use Rattle.member_events.specs.Beginning.{Closes}
use Rattle.member_events.specs.Showing.{ShowsWorld, OthersStay}
use Rattle.member_events.proofs.EndLaws.{HeldAt, RoadsAt, end_from, end_passes, end_brought}
use Rattle.member_events.proofs.MemberLaws.{never}
use Rattle.member_events.proofs.NetLaws.{passed_net, brought_net, other_passed, other_left}

module _ {I O : Type 0} (i : link_in.Ghosts I) (o : link_out.Ghosts O) where
  shut_held : (net : Net) (ms : List (List ℕ)) (inbox : Inbox) (c : ℕ) (old new : Conn I O) → ShutsBy o old new → HeldAt i o net false ms inbox c true old → HeldAt i o net true ms inbox c true new
  shut_held net ms inbox c old new h k = record {
    id = ap (λ (y : ConnId). y.0) h.id ∙ k.id;
    side = h.lower ∙ k.side;
    within = k.within;
    is = shut-shows i o net.traffic false ms inbox old new (record { id = h.id; lower = h.lower; inward = h.inward }) (record { shut = h.half.shut; sent = h.half.sent; flushed = h.half.flushed; lost = h.half.lost }) k.is;
    taking = k.taking;
  }

module _ {R I O : Type 0} (r : roads.Ghosts R I O) (i : link_in.Ghosts I) (o : link_out.Ghosts O) (w w1 : World) (net : Net) (e : Event) (c : ℕ) (k : Change) where
  -- The end has sent these messages, which are those of a change, and nothing was shut since.
  pub record HasMoved (shut : Bool) (ms : List Message) (inbox : Inbox) (road : R) (at_end : Conn I O) : Type 0 where
    pub out : outcome w e ≡ Some (apply w1 k)
    pub is_net : IsNetOf w1 net
    pub roads_at : RoadsAt r net road
    pub held : HeldAt i o net false (map text_of ms) inbox c true at_end
    pub sends : SendsBy w1 k (lower_flush c shut ms ∷ [])

  -- What the roads and the other ends are then.
  pub record Moved (road' : R) : Type 0 where
    pub made : Net
    pub roads_are : ShowsWorld r (happens w e) made road'
    pub others : OthersStay i o w1 net (happens w e) made c None

  -- And the end that was exchanged.
  pub record Opened (road' : R) (new : Conn I O) : Type 0 where
    pub moved : Moved road'
    pub end_is : IsEndOf i o (happens w e) moved.made c true new

  pub opened : (ms : List Message) (over : Bool) (road road' : R) (old new : Conn I O) → is_over w1 c true ≡ over → HasMoved false ms (held_by over) road old → ExchangesEnd r i o false old new road road' (Ok tt) → Opened road' new
  opened ms over road road' old new is_so h ex =
      let v : World = happens w e in
      let f = followed w (apply w1 k) e h.out in
      let made : Net = exchanged_net net c true false false (map text_of ms) in
      let n : IsNetOf (apply w1 k) made = passed_net w1 net k c None false false ms [] h.is_net h.sends in
      let p = end_passes r i o net false false (map text_of ms) (held_by over) c true road road' old new h.roads_at h.held (λ z. never z) ex in
      let same : (d : ℕ) (b : Bool) → is_over v d b ≡ is_over w1 d b = λ d b. f.over d b ∙ changed-over w1 k d b in
      record {
        moved = record {
          made = made;
          roads_are = record { is_net = f.nets made n; sane = p.roads_at.sane; shows = p.roads_at.shows };
          others = λ d b y none z. other_passed r i o w1 v net c None false false false false (map text_of ms) [] d b y none (same d b) z;
        };
        end_is = end_from i o v made c true over new (same c true ∙ is_so) p.held;
      }

  pub closed : (ms : List Message) (inbox : Inbox) (road road' : R) (old : Conn I O) → HasMoved true ms inbox road old → Closes r i o old road road' → Moved road'
  closed ms inbox road road' old h cl =
      let v : World = happens w e in
      let f = followed w (apply w1 k) e h.out in
      let made : Net = left_net true net c true (map text_of ms) in
      let n : IsNetOf (apply w1 k) made = brought_net w1 net k c None true false ms [] h.is_net h.sends in
      let sent : HeldAt i o net true (map text_of ms) inbox c true cl.shut = shut_held i o net (map text_of ms) inbox c old cl.shut cl.shuts h.held in
      let at = end_brought r i o net true (map text_of ms) inbox c true road road' cl.shut h.roads_at sent.id sent.side sent.within sent.is cl.brings in
      let same : (d : ℕ) (b : Bool) → is_over v d b ≡ is_over w1 d b = λ d b. f.over d b ∙ changed-over w1 k d b in
      record {
        made = made;
        roads_are = record { is_net = f.nets made n; sane = at.sane; shows = at.shows };
        others = λ d b y none z. other_left r i o w1 v net c None true false (map text_of ms) [] d b y none (same d b) z;
      }
