-- A member that has stepped is exchanged or brought back, and what is left shows the world after the event.
use Rattle.std.proofs.Common.{◌≡◌, ◌≢◌, ℕ, ◌&&◌, Bool, true, false, List, [], map, Option, Some, None, IfSome, Ok, refl, sym, ap, ◌∙◌, subst}
use Rattle.hd_base.specs.Links.{Inbox}
use Rattle.hd_base.specs.declared.ends.Conn.{Conn}
use Rattle.hd_base.specs.declared.numbers.NodeId.{NodeId}
use Rattle.hd_base.specs.declared.links.LinkIn as link_in
use Rattle.hd_base.specs.declared.links.LinkOut as link_out
use Rattle.hd_base.specs.declared.roads.Roads as roads
use Rattle.pipe_member.specs.LinkMessages.Incomings.{IncomingState, nothing_received}
use Rattle.link_pieces.specs.Roads.{names}
use Rattle.pipe_member.specs.ReplicaFiles.BookState.{BookState}
use Rattle.pipe_member.specs.ReplicaFiles.Books.{replica_of}
use Rattle.pipe_member.specs.MemberCore.Shuts.TheVariants as shuts
use Rattle.pipe_member.specs.MemberCore.Steps.{Step}
use Rattle.pipe_member.specs.declared.member.Member.{Member}
use Rattle.pipe_member.specs.declared.stages.Stage.{Stage}
use Rattle.pipe_member.specs.declared.stages.Stage.TheVariants as stage
use Rattle.pipe_member.specs.Above.{nothing_above}
use Rattle.pipe_member.specs.Below.{BelowState}
use Rattle.pipe_member.specs.EventSteps.{HoldsMirror}
use Rattle.pipe_member.specs.Exchanges.{ExchangesBoth, BringsBoth}
use Rattle.pipe_member.specs.Steps.{stage_after}
use Rattle.road_traffic.specs.Showing.{Net, exchanged_net}
use Rattle.road_traffic.specs.Laws.{left_net}
use Rattle.world_texts.specs.World.Event.{Event}
use Rattle.world_texts.specs.World.Parts.{FullMember, Break}
use Rattle.world_texts.specs.World.Worlds.{World, Change, apply}
use Rattle.world_texts.specs.World.Connections.{Next}
use Rattle.world_texts.specs.World.Nodes.{node_of, member_change, sent_up, passed}
use Rattle.world_texts.specs.World.Events.{outcome, happens}
use Rattle.world_texts.specs.WorldNets.Rows.{text_of}
use Rattle.world_texts.specs.WorldNets.Nets.{IsNetOf, held_by, is_over}
use Rattle.world_texts.specs.WorldNets.Flushing.{shuts_above, shuts_below}
use Rattle.world_texts.proofs.WorldNets.FlushingLemmas.{member-sends}
use Rattle.world_texts.proofs.WorldNets.StepLemmas.{changed-over, followed}
use Rattle.member_events.specs.Showing.{MirrorShows, NoneReceived, both_act, OthersStay, MemberLeft}
use Rattle.member_events.proofs.EndLaws.{HeldAt, MirrorAt, RoadsAt, mirror_net, mirror_inbox, mirror_left, both_pass, both_brought, end_from}
use Rattle.member_events.proofs.NetLaws.{passed_net, brought_net, other_passed, other_left}
use Rattle.member_events.proofs.WorldLaws.{member_after}

-- A member that has done this step in a world in which it took this: what it is, what its ends have sent, and what they hold. Its ends have taken
-- the end of their direction or not.
pub record HasStepped {F I O : Type 0} (i : link_in.Ghosts I) (o : link_out.Ghosts O) (w : World) (net : Net) (c : ℕ) (full : FullMember) (x : Next) (s : Step) (up down : Bool) (m : Member I O) (book : BookState F) : Type 0 where
  pub node : m.node.0 ≡ node_of w c
  pub op : m.op ≡ full.fields
  pub stage_is : m.stage ≡ stage_after s.member s.effect.shuts
  pub holds : HoldsMirror m.stage m.mirror
  pub replica : replica_of book ≡ s.replica
  pub upper : HeldAt i o net (shuts_above s.effect.shuts) (map text_of (sent_up full.fields s.effect.sends)) (held_by up) c true m.upstream
  pub lower : MirrorAt i o net (shuts_below s.effect.shuts) (map text_of (passed s.effect.forwards x)) (held_by down) full.mirror m.mirror
  pub over_up : is_over w c true ≡ up
  pub over_down : IfSome full.mirror (λ d. is_over w d false ≡ down)
  pub above : s.effect.shuts ≡ shuts.Nothing → m.above ≡ nothing_above
  pub below_next : m.below.next ≡ None
  pub below : down ≡ false → m.below.received ≡ nothing_received

pub never_named : {I O : Type 0} (mirror : Option (Conn I O)) → IfSome mirror (λ e. names None e.id ≡ false)
never_named None = tt
never_named (Some e) = refl

false_true : false ≡ true → ⊥
false_true h = cc

pub never : {P : Type 0} → false ≡ true → P
never h = absurd (false_true h)

module _ {I O : Type 0} (i : link_in.Ghosts I) (o : link_out.Ghosts O) where
  mirror_shows : (v : World) (net : Net) (over : Bool) (mirror : Option ℕ) (e : Option (Conn I O)) → IfSome mirror (λ d. is_over v d false ≡ over) → MirrorAt i o net false [] (held_by over) mirror e → MirrorShows i o v net mirror e
  mirror_shows v net over None None is k = tt
  mirror_shows v net over None (Some e) is k = k
  mirror_shows v net over (Some c) None is k = k
  mirror_shows v net over (Some c) (Some e) is k = end_from i o v net c false over e is k

  pub kept_inbox : (net : Net) (shut : Bool) (ms : List (List ℕ)) (over : Bool) (mirror : Option ℕ) (made : Net) (e : Option (Conn I O))
      → MirrorAt i o made false [] (mirror_inbox net false shut ms (held_by over) mirror) mirror e → MirrorAt i o made false [] (held_by over) mirror e
  kept_inbox net shut ms over None made e k = k
  kept_inbox net shut ms over (Some c) made e k = k

over_on : (w v : World) (mirror : Option ℕ) (over : Bool) → ((d : ℕ) → is_over v d false ≡ is_over w d false) → IfSome mirror (λ d. is_over w d false ≡ over) → IfSome mirror (λ d. is_over v d false ≡ over)
over_on w v None over same h = tt
over_on w v (Some d) over same h = same d ∙ h

none_left : (v : World) (mirror : Option ℕ) (over : Bool) (received : IncomingState) → IfSome mirror (λ d. is_over v d false ≡ over) → (over ≡ false → received ≡ nothing_received) → NoneReceived v mirror received
none_left v None over received is h = tt
none_left v (Some d) over received is h = λ z. h (sym is ∙ z)

pub holds_like : {I O : Type 0} (i : link_in.Ghosts I) (o : link_out.Ghosts O) (st : Stage) (net made : Net) (s1 : Bool) (m1 : List (List ℕ)) (i1 i2 : Inbox) (d : Option ℕ) (old new : Option (Conn I O))
    → MirrorAt i o net s1 m1 i1 d old → MirrorAt i o made false [] i2 d new → HoldsMirror st old → HoldsMirror st new
holds_like i o st net made s1 m1 i1 i2 None None None a b h = h
holds_like i o st net made s1 m1 i1 i2 None None (Some new) a b h = absurd b
holds_like i o st net made s1 m1 i1 i2 None (Some old) new a b h = absurd a
holds_like i o st net made s1 m1 i1 i2 (Some d) None new a b h = absurd a
holds_like i o st net made s1 m1 i1 i2 (Some d) (Some old) None a b h = absurd b
holds_like i o (stage.Open m) net made s1 m1 i1 i2 (Some d) (Some old) (Some new) a b h = h
holds_like i o stage.New net made s1 m1 i1 i2 (Some d) (Some old) (Some new) a b h = tt
holds_like i o stage.Shut net made s1 m1 i1 i2 (Some d) (Some old) (Some new) a b h = tt
holds_like i o (stage.Booked receipt asked unasked) net made s1 m1 i1 i2 (Some d) (Some old) (Some new) a b h = tt

module _ {F R I O : Type 0} (r : roads.Ghosts R I O) (i : link_in.Ghosts I) (o : link_out.Ghosts O) where
  -- A member that goes on is exchanged.
  pub moved : (w w1 : World) (first net : Net) (e : Event) (c : ℕ) (full : FullMember) (x : Next) (s : Step) (broke : Option Break) (up down : Bool) (book : BookState F) (m new : Member I O) (road road' : R)
      → outcome w e ≡ Some (apply w1 (member_change w1 c full x s broke)) → full.mirror ≢ Some c → OthersStay i o w first w1 net c full.mirror → IsNetOf w1 net → RoadsAt r net road
      → HasStepped i o w1 net c full x s up down m book → s.effect.shuts ≡ shuts.Nothing → both_act (record full { state = s.member }) ≡ both_act full → ExchangesBoth r i o None m new road road' (Ok tt) → MemberLeft r i o w first (happens w e) c full book road' (Some new)
  moved w w1 first net e c full x s broke up down book m new road road' out apart others is_net at h quiet acts ex =
      let k : Change = member_change w1 c full x s broke in
      let s1 = shuts_above s.effect.shuts in
      let s2 = shuts_below s.effect.shuts in
      let m1 = sent_up full.fields s.effect.sends in
      let m2 = passed s.effect.forwards x in
      let v = happens w e in
      let f = followed w (apply w1 k) e out in
      let a = member_after w w1 c full x s broke e out in
      let made : Net = mirror_net (exchanged_net net c true false s1 (map text_of m1)) false s2 (map text_of m2) full.mirror in
      let n = passed_net w1 net k c full.mirror s1 s2 m1 m2 is_net (member-sends w1 c full x s broke apart) in
      let p = both_pass r i o None false false s1 s2 (map text_of m1) (map text_of m2) (held_by up) (held_by down) net c full.mirror road road' m new at h.upper h.lower refl (never_named m.mirror) (λ z. never z) (λ z. never z) ex in
      let low : MirrorAt i o made false [] (held_by down) full.mirror new.mirror = kept_inbox i o (exchanged_net net c true false s1 (map text_of m1)) s2 (map text_of m2) down full.mirror made new.mirror p.lower in
      let same : (d : ℕ) (b : Bool) → is_over v d b ≡ is_over w1 d b = λ d b. f.over d b ∙ changed-over w1 k d b in
      record {
        made = made;
        roads_are = record { is_net = f.nets made n; sane = p.roads_at.sane; shows = p.roads_at.shows };
        full = record full { state = s.member };
        lower = a.lower;
        fields = refl;
        mirror = refl;
        left_is = record {
          shows = record {
            node = ap (λ (y : NodeId). y.0) ex.rest.node ∙ (h.node ∙ sym a.node);
            op = ex.rest.op ∙ h.op;
            stage_is = ex.rest.stage ∙ (h.stage_is ∙ ap (stage_after s.member) quiet);
            holds = subst (λ (st : Stage). HoldsMirror st new.mirror) (sym ex.rest.stage)
                (holds_like i o m.stage net made s2 (map text_of m2) (held_by down) (held_by down) full.mirror m.mirror new.mirror h.lower low h.holds);
            upstream = end_from i o v made c true up new.upstream (same c true ∙ h.over_up) p.upper;
            mirror = mirror_shows i o v made down full.mirror new.mirror (over_on w1 v full.mirror down (λ d. same d false) h.over_down) low;
            above = ex.rest.above ∙ h.above quiet;
            below_next = ap (λ (b : BelowState). b.next) ex.rest.below ∙ h.below_next;
            below = none_left v full.mirror down new.below.received (over_on w1 v full.mirror down (λ d. same d false) h.over_down) (λ z. ap (λ (b : BelowState). b.received) ex.rest.below ∙ h.below z);
          };
          acts = acts;
        };
        replica = h.replica ∙ sym a.replica;
        others = λ d b y none z. other_passed r i o w1 v net c full.mirror false false s1 s2 (map text_of m1) (map text_of m2) d b y none (same d b) (others d b y none z);
      }

  -- One that has shut is brought back.
  pub shut : (w w1 : World) (first net : Net) (e : Event) (c : ℕ) (full : FullMember) (x : Next) (s : Step) (broke : Option Break) (up down : Bool) (book : BookState F) (m : Member I O) (road road' : R)
      → outcome w e ≡ Some (apply w1 (member_change w1 c full x s broke)) → full.mirror ≢ Some c → OthersStay i o w first w1 net c full.mirror → IsNetOf w1 net → RoadsAt r net road
      → HasStepped i o w1 net c full x s up down m book → (s.member.receives && s.member.responds) ≡ false → BringsBoth r i o m road road' (Ok tt) → MemberLeft r i o w first (happens w e) c full book road' None
  shut w w1 first net e c full x s broke up down book m road road' out apart others is_net at h over br =
      let k : Change = member_change w1 c full x s broke in
      let s1 = shuts_above s.effect.shuts in
      let s2 = shuts_below s.effect.shuts in
      let m1 = sent_up full.fields s.effect.sends in
      let m2 = passed s.effect.forwards x in
      let v = happens w e in
      let f = followed w (apply w1 k) e out in
      let a = member_after w w1 c full x s broke e out in
      let made : Net = mirror_left (left_net s1 net c true (map text_of m1)) s2 (map text_of m2) full.mirror in
      let n = brought_net w1 net k c full.mirror s1 s2 m1 m2 is_net (member-sends w1 c full x s broke apart) in
      let p = both_brought r i o s1 s2 (map text_of m1) (map text_of m2) (held_by up) (held_by down) net c full.mirror road road' m at h.upper h.lower br in
      let same : (d : ℕ) (b : Bool) → is_over v d b ≡ is_over w1 d b = λ d b. f.over d b ∙ changed-over w1 k d b in
      record {
        made = made;
        roads_are = record { is_net = f.nets made n; sane = p.sane; shows = p.shows };
        full = record full { state = s.member };
        lower = a.lower;
        fields = refl;
        mirror = refl;
        left_is = over;
        replica = h.replica ∙ sym a.replica;
        others = λ d b y none z. other_left r i o w1 v net c full.mirror s1 s2 (map text_of m1) (map text_of m2) d b y none (same d b) (others d b y none z);
      }
