-- What becomes of an end of a connection in a step, and of the two ends of a member that are exchanged or brought back.
use Rattle.std.proofs.Common.{◌≡◌, inl, inr, ◌<◌, ℕ, Bool, true, false, List, [], Option, Some, None, IfSome, Result, Ok, Err, refl, sym, ap, ◌∙◌, subst}
use Rattle.hd_base.specs.Links.{Inbox}
use Rattle.hd_base.specs.declared.ends.Conn.{Conn}
use Rattle.hd_base.specs.declared.ends.RoadError.{RoadError}
use Rattle.hd_base.specs.declared.numbers.ConnId.{ConnId}
use Rattle.hd_base.specs.declared.links.LinkIn as link_in
use Rattle.hd_base.specs.declared.links.LinkOut as link_out
use Rattle.hd_base.specs.declared.roads.Roads as roads
use Rattle.link_pieces.specs.Roads.{KeepsInward, ExchangesEnd, BringsEnd, names}
use Rattle.pipe_member.specs.PipeTurns.Acting.{ShutsEnd}
use Rattle.pipe_member.specs.declared.member.Member.{Member}
use Rattle.pipe_member.specs.Exchanges.{ExchangesMirror, ExchangesBoth, BringsMirror, BringsBoth}
use Rattle.road_traffic.specs.Traffic.{Traffics}
use Rattle.road_traffic.specs.Showing.{Net, IsSane, RoadsShow, EndIs, BothShow, no_inbox, exchanged_net, exchanged_inbox}
use Rattle.road_traffic.specs.Laws.{left_net}
use Rattle.road_traffic.proofs.ShowingLemmas.{sane-exchanged, sane-lost, exchange-shows}
use Rattle.road_traffic.proofs.CallLemmas.{sent-shows, quiet-shows, shut-shows, brought-shows}
use Rattle.world_texts.specs.World.Worlds.{World, listed}
use Rattle.world_texts.specs.WorldNets.Nets.{IsEndOf, held_by, is_over}
use Rattle.world_texts.specs.WorldNets.Ends.{IsElsewhere}
use Rattle.world_texts.proofs.WorldNets.EndLemmas.{stays-event, exchanged-over}
use Rattle.member_events.proofs.TurnEnds.{HasSaid, EndSends, MirrorSends}

-- ONE END

-- An end of a connection in the middle of an event: it has sent these messages past those of the traffic, was shut since or not, and holds this.
pub record HeldAt {I O : Type 0} (i : link_in.Ghosts I) (o : link_out.Ghosts O) (net : Net) (shut : Bool) (extra : List (List ℕ)) (inbox : Inbox) (conn : ℕ) (lower : Bool) (at_end : Conn I O) : Type 0 where
  pub id : at_end.id.0 ≡ conn
  pub side : at_end.lower ≡ lower
  pub within : conn < net.conns
  pub is : EndIs i o net.traffic shut extra inbox at_end
  pub taking : (net.traffic conn lower).over ≡ false

abbrev pub MirrorAt : {I O : Type 0} → link_in.Ghosts I → link_out.Ghosts O → Net → Bool → List (List ℕ) → Inbox → Option ℕ → Option (Conn I O) → Type 0
MirrorAt i o net shut extra inbox None None = Unit {0}
MirrorAt i o net shut extra inbox (Some conn) (Some end) = HeldAt i o net shut extra inbox conn false end
MirrorAt i o net shut extra inbox conn mirror = ⊥

module _ {I O : Type 0} (i : link_in.Ghosts I) (o : link_out.Ghosts O) where
  pub end_held : (w : World) (net : Net) (conn : ℕ) (lower : Bool) (e : Conn I O) → IsEndOf i o w net conn lower e → HeldAt i o net false [] (held_by (is_over w conn lower)) conn lower e
  end_held w net conn lower e k = record { id = k.id; side = k.side; within = k.within; is = k.is; taking = k.taking }

  pub end_from : (w : World) (net : Net) (conn : ℕ) (lower over : Bool) (e : Conn I O) → is_over w conn lower ≡ over → HeldAt i o net false [] (held_by over) conn lower e → IsEndOf i o w net conn lower e
  end_from w net conn lower over e is k = record {
    id = k.id;
    side = k.side;
    within = k.within;
    is = subst (λ (b : Bool). EndIs i o net.traffic false [] (held_by b) e) (sym is) k.is;
    taking = k.taking;
  }

  -- WHAT WAS SENT

  same_end : (old new : Conn I O) → KeepsInward old new → new.outward ≡ old.outward → old ≡ new
  same_end old new k e = λ j. record { id = sym k.id j; lower = sym k.lower j; inward = sym k.inward j; outward = sym e j }

  said : (traffic : Traffics) (inbox : Inbox) (text : Option (List ℕ)) (old new : Conn I O) → KeepsInward old new → HasSaid o text old.outward new.outward → EndIs i o traffic false [] inbox old → EndIs i o traffic false (listed text) inbox new
  said traffic inbox None old new k (inl same) e = subst (λ (x : Conn I O). EndIs i o traffic false [] inbox x) (same_end old new k same) e
  said traffic inbox None old new k (inr none) e = quiet-shows i o traffic false [] inbox old new k none e
  said traffic inbox (Some text) old new k h e = sent-shows i o traffic [] inbox text old new k h e

  shuts_so : (traffic : Traffics) (extra : List (List ℕ)) (inbox : Inbox) (shut : Bool) (old new : Conn I O) → ShutsEnd o shut old new → EndIs i o traffic false extra inbox old → EndIs i o traffic shut extra inbox new
  shuts_so traffic extra inbox true old new h e =
      shut-shows i o traffic false extra inbox old new (record { id = h.id; lower = h.lower; inward = h.inward }) (record { shut = h.half.shut; sent = h.half.sent; flushed = h.half.flushed; lost = h.half.lost }) e
  shuts_so traffic extra inbox false old new h e = subst (λ (x : Conn I O). EndIs i o traffic false extra inbox x) (sym h) e

  shut_id : (shut : Bool) (old new : Conn I O) → ShutsEnd o shut old new → (new.id ≡ old.id) × (new.lower ≡ old.lower)
  shut_id true old new h = (h.id, h.lower)
  shut_id false old new h = (ap (λ (e : Conn I O). e.id) h, ap (λ (e : Conn I O). e.lower) h)

  pub end_sends : (net : Net) (inbox : Inbox) (conn : ℕ) (lower : Bool) (text : Option (List ℕ)) (shut : Bool) (old new : Conn I O) → EndSends o text shut old new → HeldAt i o net false [] inbox conn lower old → HeldAt i o net shut (listed text) inbox conn lower new
  end_sends net inbox conn lower text shut old new s k =
      let same = shut_id shut s.middle new s.shuts in record {
        id = ap (λ (y : ConnId). y.0) (same.0 ∙ s.keeps.id) ∙ k.id;
        side = same.1 ∙ (s.keeps.lower ∙ k.side);
        within = k.within;
        is = shuts_so net.traffic (listed text) inbox shut s.middle new s.shuts (said net.traffic inbox text old s.middle s.keeps s.says k.is);
        taking = k.taking;
      }

  pub mirror_sends : (net : Net) (inbox : Inbox) (conn : Option ℕ) (text : Option (List ℕ)) (shut : Bool) (old new : Option (Conn I O)) → MirrorSends o text shut old new → MirrorAt i o net false [] inbox conn old → MirrorAt i o net shut (listed text) inbox conn new
  mirror_sends net inbox None text shut None None s k = tt
  mirror_sends net inbox None text shut None (Some new) s k = absurd s
  mirror_sends net inbox None text shut (Some old) new s k = absurd k
  mirror_sends net inbox (Some conn) text shut None new s k = absurd k
  mirror_sends net inbox (Some conn) text shut (Some old) None s k = absurd s
  mirror_sends net inbox (Some conn) text shut (Some old) (Some new) s k = end_sends net inbox conn false text shut old new s k

-- ONE END AND THE ROADS

-- The roads show these connections, which are sane.
pub record RoadsAt {R I O : Type 0} (r : roads.Ghosts R I O) (net : Net) (road : R) : Type 0 where
  pub sane : IsSane net
  pub shows : RoadsShow r net road

-- An end is exchanged.
pub record Passed {R I O : Type 0} (r : roads.Ghosts R I O) (i : link_in.Ghosts I) (o : link_out.Ghosts O) (net : Net) (takes shut : Bool) (extra : List (List ℕ)) (inbox : Inbox) (conn : ℕ) (lower : Bool) (road' : R) (e' : Conn I O) : Type 0 where
  pub roads_at : RoadsAt r (exchanged_net net conn lower takes shut extra) road'
  pub held : HeldAt i o (exchanged_net net conn lower takes shut extra) false [] (exchanged_inbox net conn lower takes shut extra inbox) conn lower e'

conns_in : (net : Net) (conn : ℕ) (lower takes shut : Bool) (ms : List (List ℕ)) (c : ℕ) → c < net.conns → c < (exchanged_net net conn lower takes shut ms).conns
conns_in net conn lower true shut ms c h = h
conns_in net conn lower false shut ms c h = h

-- the connections once the mirror's end was exchanged, if there is one, and what it holds then
abbrev pub mirror_net : Net → Bool → Bool → List (List ℕ) → Option ℕ → Net
mirror_net net takes shut ms None = net
mirror_net net takes shut ms (Some conn) = exchanged_net net conn false takes shut ms

abbrev pub mirror_inbox : Net → Bool → Bool → List (List ℕ) → Inbox → Option ℕ → Inbox
mirror_inbox net takes shut ms inbox None = inbox
mirror_inbox net takes shut ms inbox (Some conn) = exchanged_inbox net conn false takes shut ms inbox

-- Both ends of a member are exchanged: the one from above, and then the one to the mirror.
pub record BothPassed {R I O : Type 0} (r : roads.Ghosts R I O) (i : link_in.Ghosts I) (o : link_out.Ghosts O) (first : Net) (takes shut : Bool) (ms : List (List ℕ)) (upper_holds lower_held : Inbox) (conn : ℕ) (mirror : Option ℕ) (road' : R) (upper' : Conn I O) (mirror' : Option (Conn I O)) : Type 0 where
  pub roads_at : RoadsAt r (mirror_net first takes shut ms mirror) road'
  pub upper : HeldAt i o (mirror_net first takes shut ms mirror) false [] upper_holds conn true upper'
  pub lower : MirrorAt i o (mirror_net first takes shut ms mirror) false [] (mirror_inbox first takes shut ms lower_held mirror) mirror mirror'

-- the connections once the mirror's end was brought back, if there is one
abbrev pub mirror_left : Net → Bool → List (List ℕ) → Option ℕ → Net
mirror_left net shut ms None = net
mirror_left net shut ms (Some conn) = left_net shut net conn false ms

module _ {R I O : Type 0} (r : roads.Ghosts R I O) (i : link_in.Ghosts I) (o : link_out.Ghosts O) where
  -- an end stays while another one is exchanged
  held_stays : (net : Net) (conn : ℕ) (lower takes shuts : Bool) (ms : List (List ℕ)) (shut : Bool) (extra : List (List ℕ)) (inbox : Inbox) (c : ℕ) (d : Bool) (e : Conn I O) → IsElsewhere conn lower c d
      → HeldAt i o net shut extra inbox c d e → HeldAt i o (exchanged_net net conn lower takes shuts ms) shut extra inbox c d e
  held_stays net conn lower takes shuts ms shut extra inbox c d e away k =
      let there : IsElsewhere conn lower e.id.0 e.lower = subst (λ (b : Bool). IsElsewhere conn lower e.id.0 b) (sym k.side) (subst (λ (n : ℕ). IsElsewhere conn lower n d) (sym k.id) away) in
      record {
        id = k.id;
        side = k.side;
        within = conns_in net conn lower takes shuts ms c k.within;
        is = (stays-event r i o net conn lower shut extra inbox e there k.is).exchanged takes shuts ms;
        taking = exchanged-over net conn lower takes shuts ms c d ∙ k.taking;
      }

  own_passes : (net : Net) (takes shut : Bool) (extra : List (List ℕ)) (inbox : Inbox) (road road' : R) (e e' : Conn I O) → RoadsAt r net road → e.id.0 < net.conns → (net.traffic e.id.0 e.lower).over ≡ false
      → EndIs i o net.traffic shut extra inbox e → (takes ≡ true → inbox ≡ no_inbox) → ExchangesEnd r i o takes e e' road road' (Ok tt) → Passed r i o net takes shut extra inbox e.id.0 e.lower road' e'
  own_passes net takes shut extra inbox road road' e e' at within taking is empty k =
      let b : BothShow r i o (exchanged_net net e.id.0 e.lower takes shut extra) false [] (exchanged_inbox net e.id.0 e.lower takes shut extra inbox) road' e' =
      exchange-shows r i o takes e e' road road' (Ok tt) k.flushed k.carried k.plain k.taken k.untaken k.kept k.err_plain k.err_carried k.err_held k.err_flushed
      net shut extra inbox at.sane (record { road_shows = at.shows; end_is = is }) (λ h. (empty h, taking)) in
      record {
        roads_at = record { sane = sane-exchanged net e.id.0 e.lower takes shut extra within at.sane; shows = b.road_shows };
        held = record {
          id = ap (λ (y : ConnId). y.0) k.kept.id;
          side = k.kept.lower;
          within = conns_in net e.id.0 e.lower takes shut extra e.id.0 within;
          is = b.end_is;
          taking = exchanged-over net e.id.0 e.lower takes shut extra e.id.0 e.lower ∙ taking;
        };
      }

  pub end_passes : (net : Net) (takes shut : Bool) (extra : List (List ℕ)) (inbox : Inbox) (conn : ℕ) (lower : Bool) (road road' : R) (e e' : Conn I O) → RoadsAt r net road → HeldAt i o net shut extra inbox conn lower e
      → (takes ≡ true → inbox ≡ no_inbox) → ExchangesEnd r i o takes e e' road road' (Ok tt) → Passed r i o net takes shut extra inbox conn lower road' e'
  end_passes net takes shut extra inbox conn lower road road' e e' at k empty x =
      subst (λ (b : Bool). Passed r i o net takes shut extra inbox conn b road' e') k.side
      (subst (λ (n : ℕ). Passed r i o net takes shut extra inbox n e.lower road' e') k.id
      (own_passes net takes shut extra inbox road road' e e' at (subst (λ (n : ℕ). n < net.conns) (sym k.id) k.within)
      (subst (λ (b : Bool). (net.traffic e.id.0 b).over ≡ false) (sym k.side) (subst (λ (n : ℕ). (net.traffic n lower).over ≡ false) (sym k.id) k.taking)) k.is empty x))

  -- BOTH ENDS

  lower_passes : (take : Option ConnId) (takes shut : Bool) (ms : List (List ℕ)) (holds inbox : Inbox) (net : Net) (conn : ℕ) (mirror : Option ℕ) (road road' : R) (upper : Conn I O) (old new : Option (Conn I O))
      → RoadsAt r net road → HeldAt i o net false [] holds conn true upper → MirrorAt i o net shut ms inbox mirror old → IfSome old (λ e. names take e.id ≡ takes) → (takes ≡ true → inbox ≡ no_inbox)
      → ExchangesMirror r i o take old new road road' (Ok tt) (Ok tt) → BothPassed r i o net takes shut ms holds inbox conn mirror road' upper new
  lower_passes take takes shut ms holds inbox net conn None road road' upper None None at k l named empty x = record {
    roads_at = subst (λ (y : R). RoadsAt r net y) (sym x.0) at;
    upper = k;
    lower = tt;
  }
  lower_passes take takes shut ms holds inbox net conn None road road' upper None (Some new) at k l named empty x = absurd x
  lower_passes take takes shut ms holds inbox net conn None road road' upper (Some old) new at k l named empty x = absurd l
  lower_passes take takes shut ms holds inbox net conn (Some c) road road' upper None new at k l named empty x = absurd l
  lower_passes take takes shut ms holds inbox net conn (Some c) road road' upper (Some old) None at k l named empty x = absurd x
  lower_passes take takes shut ms holds inbox net conn (Some c) road road' upper (Some old) (Some new) at k l named empty x =
      let p = end_passes net takes shut ms inbox c false road road' old new at l empty (subst (λ (b : Bool). ExchangesEnd r i o b old new road road' (Ok tt)) named x) in record {
        roads_at = p.roads_at;
        upper = held_stays net c false takes shut ms false [] holds conn true upper (λ e. refl) k;
        lower = p.held;
      }

  both_by : (take : Option ConnId) (up down s1 s2 : Bool) (m1 m2 : List (List ℕ)) (i1 i2 : Inbox) (net : Net) (conn : ℕ) (mirror : Option ℕ) (road middle road' : R) (upper upper' : Conn I O) (old new : Option (Conn I O)) (first : Result (Unit {0}) RoadError)
      → RoadsAt r net road → HeldAt i o net s1 m1 i1 conn true upper → MirrorAt i o net s2 m2 i2 mirror old → names take upper.id ≡ up → IfSome old (λ e. names take e.id ≡ down) → (up ≡ true → i1 ≡ no_inbox) → (down ≡ true → i2 ≡ no_inbox)
      → ExchangesEnd r i o (names take upper.id) upper upper' road middle first → ExchangesMirror r i o take old new middle road' first (Ok tt)
      → BothPassed r i o (exchanged_net net conn true up s1 m1) down s2 m2 (exchanged_inbox net conn true up s1 m1 i1) i2 conn mirror road' upper' new
  both_by take up down s1 s2 m1 m2 i1 i2 net conn mirror road middle road' upper upper' old new (Err why) at k l is_up is_down e1 e2 x y = cc (y.2)
  both_by take up down s1 s2 m1 m2 i1 i2 net conn mirror road middle road' upper upper' old new (Ok u) at k l is_up is_down e1 e2 x y =
      let p = end_passes net up s1 m1 i1 conn true road middle upper upper' at k e1 (subst (λ (b : Bool). ExchangesEnd r i o b upper upper' road middle (Ok tt)) is_up x) in
      lower_passes take down s2 m2 (exchanged_inbox net conn true up s1 m1 i1) i2 (exchanged_net net conn true up s1 m1) conn mirror middle road' upper' old new p.roads_at p.held
      (mirror_stays mirror old l) is_down e2 y
    where
      mirror_stays : (c : Option ℕ) (e : Option (Conn I O)) → MirrorAt i o net s2 m2 i2 c e → MirrorAt i o (exchanged_net net conn true up s1 m1) s2 m2 i2 c e
      mirror_stays None None h = tt
      mirror_stays None (Some e) h = absurd h
      mirror_stays (Some c) None h = absurd h
      mirror_stays (Some c) (Some e) h = held_stays net conn true up s1 m1 s2 m2 i2 c false e (λ z. refl) h

  -- Both ends of a member are exchanged.
  pub both_pass : (take : Option ConnId) (up down s1 s2 : Bool) (m1 m2 : List (List ℕ)) (i1 i2 : Inbox) (net : Net) (conn : ℕ) (mirror : Option ℕ) (road road' : R) (old new : Member I O)
      → RoadsAt r net road → HeldAt i o net s1 m1 i1 conn true old.upstream → MirrorAt i o net s2 m2 i2 mirror old.mirror → names take old.upstream.id ≡ up → IfSome old.mirror (λ e. names take e.id ≡ down) → (up ≡ true → i1 ≡ no_inbox) → (down ≡ true → i2 ≡ no_inbox)
      → ExchangesBoth r i o take old new road road' (Ok tt)
      → BothPassed r i o (exchanged_net net conn true up s1 m1) down s2 m2 (exchanged_inbox net conn true up s1 m1 i1) i2 conn mirror road' new.upstream new.mirror
  both_pass take up down s1 s2 m1 m2 i1 i2 net conn mirror road road' old new at k l is_up is_down e1 e2 x =
      both_by take up down s1 s2 m1 m2 i1 i2 net conn mirror road x.middle road' old.upstream new.upstream old.mirror new.mirror x.first at k l is_up is_down e1 e2 x.upper x.lower

  -- BRINGING BACK

  left_sane : (net : Net) (shut : Bool) (conn : ℕ) (lower : Bool) (ms : List (List ℕ)) → conn < net.conns → IsSane net → IsSane (left_net shut net conn lower ms)
  left_sane net true conn lower ms within sane = sane-lost net conn lower ms within sane
  left_sane net false conn lower ms within sane = sane-exchanged net conn lower false false ms within sane

  own_brought : (net : Net) (shut : Bool) (extra : List (List ℕ)) (inbox : Inbox) (road road' : R) (e : Conn I O) → RoadsAt r net road → e.id.0 < net.conns → EndIs i o net.traffic shut extra inbox e
      → BringsEnd r i o e road road' (Ok tt) → RoadsAt r (left_net shut net e.id.0 e.lower extra) road'
  own_brought net shut extra inbox road road' e at within is k = record {
    sane = left_sane net shut e.id.0 e.lower extra within at.sane;
    shows = brought-shows r i o e road road' (Ok tt) k net shut extra inbox at.sane (record { road_shows = at.shows; end_is = is });
  }

  pub end_brought : (net : Net) (shut : Bool) (extra : List (List ℕ)) (inbox : Inbox) (conn : ℕ) (lower : Bool) (road road' : R) (e : Conn I O) → RoadsAt r net road → e.id.0 ≡ conn → e.lower ≡ lower → conn < net.conns → EndIs i o net.traffic shut extra inbox e
      → BringsEnd r i o e road road' (Ok tt) → RoadsAt r (left_net shut net conn lower extra) road'
  end_brought net shut extra inbox conn lower road road' e at id side within is x =
      subst (λ (b : Bool). RoadsAt r (left_net shut net conn b extra) road') side
      (subst (λ (n : ℕ). RoadsAt r (left_net shut net n e.lower extra) road') id
      (own_brought net shut extra inbox road road' e at (subst (λ (n : ℕ). n < net.conns) (sym id) within) is x))

  -- an end stays while another one is brought back
  stays_left : (net : Net) (conn : ℕ) (lower shuts : Bool) (ms : List (List ℕ)) (shut : Bool) (extra : List (List ℕ)) (inbox : Inbox) (e : Conn I O) → IsElsewhere conn lower e.id.0 e.lower
      → EndIs i o net.traffic shut extra inbox e → EndIs i o (left_net shuts net conn lower ms).traffic shut extra inbox e
  stays_left net conn lower true ms shut extra inbox e there k = (stays-event r i o net conn lower shut extra inbox e there k).lost ms
  stays_left net conn lower false ms shut extra inbox e there k = (stays-event r i o net conn lower shut extra inbox e there k).exchanged false false ms

  conns_left : (net : Net) (shut : Bool) (conn : ℕ) (lower : Bool) (ms : List (List ℕ)) (c : ℕ) → c < net.conns → c < (left_net shut net conn lower ms).conns
  conns_left net true conn lower ms c h = h
  conns_left net false conn lower ms c h = h

  lower_brought : (s1 s2 : Bool) (m1 m2 : List (List ℕ)) (i2 : Inbox) (net : Net) (conn : ℕ) (mirror : Option ℕ) (road road' : R) (e : Option (Conn I O)) → RoadsAt r (left_net s1 net conn true m1) road → MirrorAt i o net s2 m2 i2 mirror e
      → BringsMirror r i o e road road' (Ok tt) (Ok tt) → RoadsAt r (mirror_left (left_net s1 net conn true m1) s2 m2 mirror) road'
  lower_brought s1 s2 m1 m2 i2 net conn None road road' None at l x = subst (λ (y : R). RoadsAt r (left_net s1 net conn true m1) y) (sym x.0) at
  lower_brought s1 s2 m1 m2 i2 net conn None road road' (Some e) at l x = absurd l
  lower_brought s1 s2 m1 m2 i2 net conn (Some c) road road' None at l x = absurd l
  lower_brought s1 s2 m1 m2 i2 net conn (Some c) road road' (Some e) at l x =
      end_brought (left_net s1 net conn true m1) s2 m2 i2 c false road road' e at l.id l.side (conns_left net s1 conn true m1 c l.within)
      (stays_left net conn true s1 m1 s2 m2 i2 e (λ z. l.side) l.is) x

  brought_by : (s1 s2 : Bool) (m1 m2 : List (List ℕ)) (i1 i2 : Inbox) (net : Net) (conn : ℕ) (mirror : Option ℕ) (road middle road' : R) (upper : Conn I O) (e : Option (Conn I O)) (first : Result (Unit {0}) RoadError)
      → RoadsAt r net road → HeldAt i o net s1 m1 i1 conn true upper → MirrorAt i o net s2 m2 i2 mirror e → BringsEnd r i o upper road middle first → BringsMirror r i o e middle road' first (Ok tt)
      → RoadsAt r (mirror_left (left_net s1 net conn true m1) s2 m2 mirror) road'
  brought_by s1 s2 m1 m2 i1 i2 net conn mirror road middle road' upper e (Err why) at k l x y = cc (y.1)
  brought_by s1 s2 m1 m2 i1 i2 net conn mirror road middle road' upper e (Ok u) at k l x y =
      lower_brought s1 s2 m1 m2 i2 net conn mirror middle road' e (end_brought net s1 m1 i1 conn true road middle upper at k.id k.side k.within k.is x) l y

  -- Both ends of a member are brought back.
  pub both_brought : (s1 s2 : Bool) (m1 m2 : List (List ℕ)) (i1 i2 : Inbox) (net : Net) (conn : ℕ) (mirror : Option ℕ) (road road' : R) (m : Member I O) → RoadsAt r net road → HeldAt i o net s1 m1 i1 conn true m.upstream → MirrorAt i o net s2 m2 i2 mirror m.mirror
      → BringsBoth r i o m road road' (Ok tt) → RoadsAt r (mirror_left (left_net s1 net conn true m1) s2 m2 mirror) road'
  both_brought s1 s2 m1 m2 i1 i2 net conn mirror road road' m at k l x =
      brought_by s1 s2 m1 m2 i1 i2 net conn mirror road x.middle road' m.upstream m.mirror x.first at k l x.upper x.lower
