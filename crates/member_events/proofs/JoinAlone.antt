-- A request that is refused, or whose member has no mirror or asks none: what is left shows the world after it.
use Rattle.std.proofs.Common.{◌≡◌, ◌≢◌, ◌⊎◌, inl, inr, ◌<◌, ◌==◌, ℕ, Bool, true, false, not, List, [], ◌∷◌, length, map, Option, Some, None, Ok, refl, sym, ap, ◌∙◌, subst, arith}
use Rattle.std.specs.Prelude.{◌&&◌}
use Rattle.std.proofs.lemmas.Bool.Decides.{nat_tests}
use Rattle.hd_base.specs.Links.{Inbox}
use Rattle.hd_base.specs.declared.ends.Conn.{Conn}
use Rattle.hd_base.specs.declared.links.LinkIn as link_in
use Rattle.hd_base.specs.declared.links.LinkOut as link_out
use Rattle.hd_base.specs.declared.numbers.ConnId.{ConnId}
use Rattle.hd_base.specs.declared.numbers.NodeId.{NodeId}
use Rattle.hd_base.specs.declared.numbers.Receipt.{Receipt}
use Rattle.hd_base.specs.declared.roads.Roads as roads
use Rattle.op_headers.specs.declared.nodes.NodeRef.{NodeRef}
use Rattle.op_headers.specs.Values.{WriteFields}
use Rattle.pipe_member.specs.ReplicaModel.Rows.{FullReplica}
use Rattle.pipe_member.specs.ReplicaFiles.BookState.{BookState}
use Rattle.pipe_member.specs.RequestRefusals.RequestRefusal.{RequestRefusal}
use Rattle.pipe_member.specs.MemberCore.Effect.{Effect}
use Rattle.pipe_member.specs.MemberCore.SetupAnswer.TheVariants as answer
use Rattle.pipe_member.specs.MemberCore.Shuts.{Shuts}
use Rattle.pipe_member.specs.MemberCore.Shuts.TheVariants as shuts
use Rattle.pipe_member.specs.MemberCore.Upward.TheVariants as upward
use Rattle.pipe_member.specs.MemberCore.Mirror.TheVariants as mirror
use Rattle.pipe_member.specs.MemberCore.Members.{MemberState, set_up, set_up_at, mirror_for, new_member, no_effect, sending}
use Rattle.pipe_member.specs.MemberCore.Requests.{closes}
use Rattle.pipe_member.specs.MemberCore.Steps.{Setup, refused_request, taken_request}
use Rattle.pipe_member.specs.PipeTurns.Acting.{texts_of}
use Rattle.pipe_member.specs.declared.member.Member.{Member}
use Rattle.pipe_member.specs.declared.stages.Stage.{Stage}
use Rattle.pipe_member.specs.declared.stages.Stage.TheVariants as stage
use Rattle.pipe_member.specs.declared.stepped.Stepped.{Stepped}
use Rattle.pipe_member.specs.Above.{nothing_above}
use Rattle.pipe_member.specs.Below.{BelowState, nothing_below}
use Rattle.pipe_member.specs.EventSteps.{HoldsMirror}
use Rattle.pipe_member.specs.Exchanges.{ExchangesBoth, BringsBoth}
use Rattle.pipe_member.specs.SetupSteps.{stage_of}
use Rattle.pipe_member.specs.Steps.{done_step, stage_after}
use Rattle.road_traffic.specs.Showing.{Net, no_inbox, exchanged_net}
use Rattle.road_traffic.specs.Laws.{left_net}
use Rattle.world_texts.specs.World.Event.{Event}
use Rattle.world_texts.specs.World.Parts.{FullMember, writes, ended_below, Break}
use Rattle.world_texts.specs.World.Worlds.{World, Change, Dial, listed, apply}
use Rattle.world_texts.specs.World.Nodes.{node_of, setup_change, sent_up, lower_of, mirror_conn, member_dials}
use Rattle.world_texts.specs.World.Events.{outcome, happens}
use Rattle.world_texts.specs.WorldNets.Rows.{text_of}
use Rattle.world_texts.specs.WorldNets.Nets.{IsNetOf, IsEndOf, held_by, is_over}
use Rattle.world_texts.specs.WorldNets.Flushing.{shuts_above, flush_above}
use Rattle.world_texts.specs.WorldNets.Steps.{SendsBy}
use Rattle.world_texts.proofs.WorldNets.FlushingLemmas.{setup-sends}
use Rattle.world_texts.proofs.WorldNets.StepLemmas.{changed-over, followed, next-conn}
use Rattle.member_events.specs.Joining.{OverJoins, MemberJoins}
use Rattle.member_events.specs.Showing.{MirrorShows, IsOver}
use Rattle.member_events.specs.Steps.{IsPlaced}
use Rattle.member_events.specs.Texts.{SpellUp}
use Rattle.member_events.proofs.EndLaws.{HeldAt, MirrorAt, RoadsAt, end_held, end_sends, both_pass, both_brought, end_from}
use Rattle.member_events.proofs.JoinWorld.{setup_after}
use Rattle.member_events.proofs.MemberLaws.{never_named, never}
use Rattle.member_events.proofs.NetLaws.{passed_net, brought_net, other_passed, other_left}
use Rattle.member_events.proofs.SetupEnds.{SetUpAs}
use Rattle.member_events.proofs.WorldLaws.{happened}
use Rattle.member_events.proofs.StepLaws.{sent_texts}

-- A member before its setup.
pub record IsUnset {I O : Type 0} (w : World) (c : ℕ) (fields : WriteFields) (m : Member I O) : Type 0 where
  pub node : m.node.0 ≡ node_of w c
  pub op : m.op ≡ fields
  pub above : m.above ≡ nothing_above
  pub below : m.below ≡ nothing_below

-- What the lower end is in the world where the member no longer acts.
pub record OverLower (s : Setup) (fields : WriteFields) (next : ℕ) : Type 0 where
  pub full : FullMember
  pub lower : lower_of s.member fields next ≡ writes full
  pub alone : full.mirror ≡ None
  pub over : IsOver full

-- What it is where the member goes on without a mirror.
pub record OpenLower (s : Setup) (next : ℕ) : Type 0 where
  pub state : MemberState
  pub member : s.member ≡ Some state
  pub alone : mirror_conn state.mirror next ≡ None
  pub acts : (state.receives && state.responds) ≡ true

abbrev pub AloneIs : Setup → WriteFields → ℕ → Shuts → Type 0
AloneIs s fields next shuts.Nothing = OpenLower s next
AloneIs s fields next shuts.Mirror = ⊥
AloneIs s fields next shuts.Both = (lower_of s.member fields next ≡ ended_below) ⊎ OverLower s fields next

-- A setup that dials no mirror.
pub record AloneSetup (s : Setup) (w : World) (c : ℕ) (fields : WriteFields) : Type 0 where
  pub dials : member_dials s.member w c fields ≡ []
  pub kind : AloneIs s fields w.next_conn s.effect.shuts

none_at : {I O : Type 0} (i : link_in.Ghosts I) (o : link_out.Ghosts O) (net : Net) (shut : Bool) (ms : List (List ℕ)) (inbox : Inbox) (e : Option (Conn I O)) → MirrorAt i o net shut ms inbox None e → e ≡ None
none_at i o net shut ms inbox None k = refl
none_at i o net shut ms inbox (Some e) k = absurd k

lower_open : (x : Option MemberState) (m : MemberState) (fields : WriteFields) (next : ℕ) → x ≡ Some m → mirror_conn m.mirror next ≡ None → lower_of x fields next ≡ writes (record { fields = fields; state = m; mirror = None })
lower_open x m fields next is alone = ap (λ (y : Option MemberState). lower_of y fields next) is ∙ ap (λ (z : Option ℕ). writes (record { fields = fields; state = m; mirror = z })) alone

stage_open : (x : Option MemberState) (m : MemberState) (sh : Shuts) → x ≡ Some m → sh ≡ shuts.Nothing → stage_of x sh ≡ stage.Open m
stage_open x m sh is still = ap (λ (y : Option MemberState). stage_of y sh) is ∙ ap (stage_after m) still

left_over : (v : World) (c : ℕ) (s : Setup) (fields : WriteFields) (next : ℕ) → v.lowers c ≡ lower_of s.member fields next → (lower_of s.member fields next ≡ ended_below) ⊎ OverLower s fields next → (v.lowers c ≡ ended_below) ⊎ OverJoins v c
left_over v c s fields next is (inl over) = inl (is ∙ over)
left_over v c s fields next is (inr over) = inr (record { full = over.full; lower = is ∙ over.lower; alone = over.alone; over = over.over })

module _ {F R I O : Type 0} (r : roads.Ghosts R I O) (i : link_in.Ghosts I) (o : link_out.Ghosts O) (w w1 : World) (net : Net) (e : Event) (c : ℕ) (fields : WriteFields) (s : Setup) (broke : Option Break) (old held : Member I O) (book' : BookState F) (result : Stepped) (road road' : R) where
  -- What is known where a setup without a mirror was done.
  pub record AloneDone : Type 0 where
    pub before : c < w1.next_conn
    pub out : outcome w e ≡ Some (apply w1 (setup_change w1 c fields s broke))
    pub is_net : IsNetOf w1 net
    pub roads_at : RoadsAt r net road
    pub end_is : IsEndOf i o w1 net c true old.upstream
    pub unset : IsUnset w1 c fields old
    pub spelled : SpellUp (happens w e) c
    pub ends : SetUpAs o s old held book' result
    pub no_mirror : held.mirror ≡ None
    pub dials : member_dials s.member w1 c fields ≡ []

  -- the end once it has said what the setup says
  alone_end : (h : AloneDone) → HeldAt i o net (shuts_above s.effect.shuts) (map text_of (sent_up fields s.effect.sends)) (held_by (is_over w1 c true)) c true held.upstream
  alone_end h =
      let a = setup_after w w1 c fields s broke e h.before h.out in
      let texts = sent_texts (happens w e) c (w1.ups c) fields s.effect.sends h.spelled a.ups in
      subst (λ (ms : List (List ℕ)). HeldAt i o net (shuts_above s.effect.shuts) ms (held_by (is_over w1 c true)) c true held.upstream)
      (ap (λ (op : WriteFields). listed (texts_of op s.effect.sends)) h.unset.op ∙ sym texts)
      (end_sends i o net (held_by (is_over w1 c true)) c true (texts_of old.op s.effect.sends) (shuts_above s.effect.shuts) old.upstream held.upstream h.ends.upper (end_held i o w1 net c true old.upstream h.end_is))

  alone_mirror : AloneDone → MirrorAt i o net false [] no_inbox None held.mirror
  alone_mirror h = subst (λ (y : Option (Conn I O)). MirrorAt i o net false [] no_inbox None y) (sym h.no_mirror) tt

  alone_sends : AloneDone → SendsBy w1 (setup_change w1 c fields s broke) (flush_above c fields s.effect ∷ [])
  alone_sends h = (setup-sends w1 c fields s broke h.before).alone h.dials

  -- nothing was dialled
  alone_conns : AloneDone → (happens w e).next_conn ≡ w1.next_conn
  alone_conns h =
      let k : Change = setup_change w1 c fields s broke in
      omega (arith, ap (λ (u : World). u.next_conn) (happened w (apply w1 k) e h.out), next-conn w1 k 0 (ap (λ (l : List Dial). length l) h.dials))

  alone_open : (h : AloneDone) (new : Member I O) → OpenLower s w1.next_conn → s.effect.shuts ≡ shuts.Nothing → ExchangesBoth r i o None held new road road' (Ok tt) → MemberJoins r i o w1 net (happens w e) c fields None book' road' (Some new)
  alone_open h new low still ex =
      let k : Change = setup_change w1 c fields s broke in
      let v : World = happens w e in
      let f = followed w (apply w1 k) e h.out in
      let a = setup_after w w1 c fields s broke e h.before h.out in
      let s1 : Bool = shuts_above s.effect.shuts in
      let ms : List (List ℕ) = map text_of (sent_up fields s.effect.sends) in
      let over : Bool = is_over w1 c true in
      let made : Net = exchanged_net net c true false s1 ms in
      let n : IsNetOf (apply w1 k) made = passed_net w1 net k c None s1 false (sent_up fields s.effect.sends) [] h.is_net (alone_sends h) in
      let p = both_pass r i o None false false s1 false ms [] (held_by over) no_inbox net c None road road' held new h.roads_at (alone_end h) (alone_mirror h) refl (never_named held.mirror) (λ z. never z) (λ z. never z) ex in
      let none : new.mirror ≡ None = none_at i o made false [] no_inbox new.mirror p.lower in
      let open_is : new.stage ≡ stage.Open low.state = ex.rest.stage ∙ (h.ends.stage_is ∙ stage_open s.member low.state s.effect.shuts low.member still) in
      let same : (d : ℕ) (b : Bool) → is_over v d b ≡ is_over w1 d b = λ d b. f.over d b ∙ changed-over w1 k d b in
      record {
        made = made;
        roads_are = record { is_net = f.nets made n; sane = p.roads_at.sane; shows = p.roads_at.shows };
        left_is = record {
          full = record { fields = fields; state = low.state; mirror = None };
          lower = a.lower ∙ lower_open s.member low.state fields w1.next_conn low.member low.alone;
          fields_are = refl;
          mirror_is = refl;
          acts = low.acts;
          shows = record {
            node = ap (λ (y : NodeId). y.0) (ex.rest.node ∙ h.ends.same.node) ∙ (h.unset.node ∙ sym a.node);
            op = ex.rest.op ∙ (h.ends.same.op ∙ h.unset.op);
            stage_is = open_is;
            holds = subst (λ (st : Stage). HoldsMirror st new.mirror) (sym open_is) (subst (λ (y : Option (Conn I O)). HoldsMirror (stage.Open low.state) y) (sym none) tt);
            upstream = end_from i o v made c true over new.upstream (same c true) p.upper;
            mirror = subst (λ (y : Option (Conn I O)). MirrorShows i o v made None y) (sym none) tt;
            above = ex.rest.above ∙ (h.ends.above ∙ h.unset.above);
            below_next = ap (λ (b : BelowState). b.next) (ex.rest.below ∙ (h.ends.below ∙ h.unset.below));
            below = tt;
          };
        };
        none_dialled = λ none. alone_conns h;
        replica = h.ends.replica ∙ sym a.replica;
        others = λ d b y none z. other_passed r i o w1 v net c None false false s1 false ms [] d b y none (same d b) z;
      }

  alone_shut : (h : AloneDone) → (lower_of s.member fields w1.next_conn ≡ ended_below) ⊎ OverLower s fields w1.next_conn → BringsBoth r i o held road road' (Ok tt) → MemberJoins r i o w1 net (happens w e) c fields None book' road' None
  alone_shut h low br =
      let k : Change = setup_change w1 c fields s broke in
      let v : World = happens w e in
      let f = followed w (apply w1 k) e h.out in
      let a = setup_after w w1 c fields s broke e h.before h.out in
      let s1 : Bool = shuts_above s.effect.shuts in
      let ms : List (List ℕ) = map text_of (sent_up fields s.effect.sends) in
      let over : Bool = is_over w1 c true in
      let made : Net = left_net s1 net c true ms in
      let n : IsNetOf (apply w1 k) made = brought_net w1 net k c None s1 false (sent_up fields s.effect.sends) [] h.is_net (alone_sends h) in
      let p = both_brought r i o s1 false ms [] (held_by over) no_inbox net c None road road' held h.roads_at (alone_end h) (alone_mirror h) br in
      let same : (d : ℕ) (b : Bool) → is_over v d b ≡ is_over w1 d b = λ d b. f.over d b ∙ changed-over w1 k d b in
      record {
        made = made;
        roads_are = record { is_net = f.nets made n; sane = p.sane; shows = p.shows };
        left_is = left_over v c s fields w1.next_conn a.lower low;
        none_dialled = λ none. alone_conns h;
        replica = h.ends.replica ∙ sym a.replica;
        others = λ d b y none z. other_left r i o w1 v net c None s1 false ms [] d b y none (same d b) z;
      }

  alone_placed : (h : AloneDone) (sh : Shuts) (receipt : Option Receipt) (left : Option (Member I O)) → s.effect.shuts ≡ sh → AloneIs s fields w1.next_conn sh → IsPlaced r i o (done_step sh receipt) held road road' (Ok left) → MemberJoins r i o w1 net (happens w e) c fields None book' road' left
  alone_placed h shuts.Nothing receipt (Some new) is low p = alone_open h new low is p
  alone_placed h shuts.Nothing receipt None is low p = absurd p
  alone_placed h shuts.Mirror receipt left is low p = absurd low
  alone_placed h shuts.Both receipt None is low p = alone_shut h low p
  alone_placed h shuts.Both receipt (Some new) is low p = absurd p

  pub alone_joins : (h : AloneDone) (left : Option (Member I O)) → AloneIs s fields w1.next_conn s.effect.shuts → IsPlaced r i o result held road road' (Ok left) → MemberJoins r i o w1 net (happens w e) c fields None book' road' left
  alone_joins h left kind p = alone_placed h s.effect.shuts h.ends.receipt left refl kind (subst (λ (y : Stepped). IsPlaced r i o y held road road' (Ok left)) h.ends.ended p)

-- WHICH SETUPS

pub refused_alone : (after : FullReplica) (why : RequestRefusal) (w : World) (c : ℕ) (fields : WriteFields) → AloneSetup (refused_request after why) w c fields
refused_alone after why w c fields = record { dials = refl; kind = inl refl }

-- a member without a mirror, by what its setup is
last_kind : (b : Bool) (after : FullReplica) (conn : ConnId) (w : World) (c : ℕ) (fields : WriteFields) → AloneSetup (taken_request after (new_member conn fields mirror.Nobody (not b), sending (upward.Answer answer.Success) b)) w c fields
last_kind true after conn w c fields = record { dials = refl; kind = inr (record { full = record { fields = fields; state = new_member conn fields mirror.Nobody false; mirror = None }; lower = refl; alone = refl; over = refl }) }
last_kind false after conn w c fields = record { dials = refl; kind = record { state = new_member conn fields mirror.Nobody true; member = refl; alone = refl; acts = refl } }

last_is_set : (conn : ConnId) (fields : WriteFields) → fields.targets ≡ [] → set_up conn fields false ≡ (new_member conn fields mirror.Nobody (not (closes fields)), sending (upward.Answer answer.Success) (closes fields))
unfolding set_up
last_is_set conn fields none = ap (λ (l : List NodeRef). set_up_at (mirror_for (length l) false) fields conn) none

pub last_alone : (after : FullReplica) (conn : ConnId) (w : World) (c : ℕ) (fields : WriteFields) → fields.targets ≡ [] → AloneSetup (taken_request after (set_up conn fields false)) w c fields
last_alone after conn w c fields none = subst (λ (u : MemberState × Effect). AloneSetup (taken_request after u) w c fields) (sym (last_is_set conn fields none)) (last_kind (closes fields) after conn w c fields)

-- one whose mirror isn't asked, or is
down_is_set : (conn : ConnId) (fields : WriteFields) → fields.targets ≢ [] → set_up conn fields false ≡ (new_member conn fields mirror.Unreachable true, no_effect)
unfolding set_up
down_is_set conn fields some = by_targets fields.targets some
  where
    by_targets : (targets : List NodeRef) → targets ≢ [] → set_up_at (mirror_for (length targets) false) fields conn ≡ (new_member conn fields mirror.Unreachable true, no_effect)
    by_targets [] some = absurd (some refl)
    by_targets (t ∷ ts) some = let apart : (length (t ∷ ts) == 0) ≡ false = grind (arith, nat_tests) in rw apart refl

pub asked_is_set : (conn : ConnId) (fields : WriteFields) → fields.targets ≢ [] → set_up conn fields true ≡ (new_member conn fields mirror.Asked true, no_effect)
unfolding set_up
asked_is_set conn fields some = by_targets fields.targets some
  where
    by_targets : (targets : List NodeRef) → targets ≢ [] → set_up_at (mirror_for (length targets) true) fields conn ≡ (new_member conn fields mirror.Asked true, no_effect)
    by_targets [] some = absurd (some refl)
    by_targets (t ∷ ts) some = let apart : (length (t ∷ ts) == 0) ≡ false = grind (arith, nat_tests) in rw apart refl

pub down_alone : (after : FullReplica) (conn : ConnId) (w : World) (c : ℕ) (fields : WriteFields) → fields.targets ≢ [] → AloneSetup (taken_request after (set_up conn fields false)) w c fields
down_alone after conn w c fields some =
    subst (λ (u : MemberState × Effect). AloneSetup (taken_request after u) w c fields) (sym (down_is_set conn fields some))
    (record { dials = refl; kind = record { state = new_member conn fields mirror.Unreachable true; member = refl; alone = refl; acts = refl } })
