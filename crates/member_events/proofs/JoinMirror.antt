-- A request whose mirror was asked: the member, its connection to the mirror, and the lower end of that show the world after it.
use Rattle.std.proofs.Common.{◌≡◌, ◌<◌, ◌≤◌, ◌+◌, ◌==◌, ℕ, Bool, true, false, List, [], ◌∷◌, ◌++◌, slice_get, Option, Some, None, IfSome, Ok, refl, sym, ap, ◌∙◌, subst, arith}
use Rattle.std.specs.Prelude.{cond, if◌then◌else◌}
use Rattle.hd_base.specs.Channels.{Plain}
use Rattle.hd_base.specs.Ends.{IsObservable}
use Rattle.hd_base.specs.declared.ends.Conn.{Conn}
use Rattle.hd_base.specs.declared.links.LinkIn as link_in
use Rattle.hd_base.specs.declared.links.LinkOut as link_out
use Rattle.hd_base.specs.declared.numbers.ConnId.{ConnId}
use Rattle.hd_base.specs.declared.numbers.NodeId.{NodeId}
use Rattle.hd_base.specs.declared.roads.Roads as roads
use Rattle.link_pieces.specs.Pieces.{SendsPiece}
use Rattle.link_pieces.specs.Roads.{IsDialled, KeepsInward}
use Rattle.op_headers.specs.declared.ops.Op.TheVariants as op
use Rattle.op_headers.specs.Values.{WriteFields}
use Rattle.pipe_member.specs.ReplicaModel.Rows.{FullReplica}
use Rattle.pipe_member.specs.ReplicaFiles.BookState.{BookState}
use Rattle.pipe_member.specs.MemberCore.Mirror.TheVariants as mirror
use Rattle.pipe_member.specs.MemberCore.Members.{new_member, no_effect}
use Rattle.pipe_member.specs.MemberCore.Steps.{Setup, taken_request}
use Rattle.pipe_member.specs.declared.member.Member.{Member}
use Rattle.pipe_member.specs.declared.stages.Stage.{Stage}
use Rattle.pipe_member.specs.declared.stages.Stage.TheVariants as stage
use Rattle.pipe_member.specs.declared.stepped.Stepped.{Stepped}
use Rattle.pipe_member.specs.Below.{BelowState}
use Rattle.pipe_member.specs.EventSteps.{HoldsMirror}
use Rattle.pipe_member.specs.Exchanges.{ExchangesBoth}
use Rattle.road_traffic.specs.Traffic.{Traffic}
use Rattle.road_traffic.specs.Showing.{Net, IsSane, no_inbox, exchanged_net, dialled_net, accepted_net}
use Rattle.road_traffic.proofs.CallLemmas.{sent-shows, dialled-shows}
use Rattle.road_traffic.proofs.ShowingLemmas.{roads-accepted}
use Rattle.road_traffic.proofs.TrafficLemmas.{same-itself}
use Rattle.world_texts.specs.World.Event.{Event}
use Rattle.world_texts.specs.World.Parts.{request, by_member, Break, Dialled}
use Rattle.world_texts.specs.World.Worlds.{World, Change, Dial, apply}
use Rattle.world_texts.specs.World.Connections.{place_of}
use Rattle.world_texts.specs.World.Nodes.{lower_of, setup_change, member_dials, mirror_node}
use Rattle.world_texts.specs.World.Events.{outcome, happens}
use Rattle.world_texts.specs.WorldNets.Rows.{text_of}
use Rattle.world_texts.specs.WorldNets.Nets.{IsNetOf, IsEndOf, held_by, is_over}
use Rattle.world_texts.specs.WorldNets.Changes.{Flush}
use Rattle.world_texts.specs.WorldNets.Dials.{DialsBy, IsAccepted, flushes_with, made_net}
use Rattle.world_texts.specs.WorldNets.Flushing.{flush_above}
use Rattle.world_texts.proofs.WorldNets.DialLemmas.{dialled-net, sane-stays, ends-made}
use Rattle.world_texts.proofs.WorldNets.EndLemmas.{same-end}
use Rattle.world_texts.proofs.WorldNets.FlushingLemmas.{setup-sends, other-number}
use Rattle.world_texts.proofs.WorldNets.StepLemmas.{changed-over, followed}
use Rattle.member_events.specs.Joining.{AcceptsDial, MirrorJoins}
use Rattle.member_events.specs.Showing.{MirrorShows}
use Rattle.member_events.proofs.EndLaws.{HeldAt, MirrorAt, RoadsAt, BothPassed, end_held, end_sends, both_pass, end_from}
use Rattle.member_events.proofs.JoinAlone.{IsUnset}
use Rattle.member_events.proofs.JoinWorld.{setup_after, NewConn, new_conn}
use Rattle.member_events.proofs.MemberLaws.{never_named, never}
use Rattle.member_events.proofs.SetupEnds.{SetUpAs}
use Rattle.member_events.proofs.WorldLaws.{happened}

-- the setup of a member that has asked its mirror
abbrev pub asked_setup : FullReplica → ConnId → WriteFields → Setup
asked_setup after conn fields = taken_request after (new_member conn fields mirror.Asked true, no_effect)

-- its dial, with this request to this node
abbrev pub asked_dial : World → ℕ → WriteFields → ℕ → Dial
asked_dial w c on number = record {
  dialled = record { upper = by_member c; from = Some (w.dialled c).to; to = place_of w number };
  request = request (op.Write on);
}

sane_dialled : (net : Net) (port : ℕ) → IsSane net → IsSane (dialled_net net port)
sane_dialled net port s = record { fits = s.fits; fresh = λ c d h. s.fresh c d (omega (arith, h)) }

more : (c n : ℕ) → c < n → c < n + 1
more c n h = omega arith

at_end_of : (c n : ℕ) → c ≡ n → c < n + 1
at_end_of c n h = omega arith

from_end : (c n : ℕ) → c ≡ n → n ≤ c
from_end c n h = omega arith

not_below : (n m : ℕ) → n < m → m ≡ n → ⊥
not_below n m h is = omega arith

first_waits : (port : ℕ) (l : List ℕ) (n : ℕ) → l ≡ [] → slice_get (cond (port == port) (l ++ n ∷ []) l) 0 ≡ Some n
first_waits port l n none = ap (λ (b : Bool). slice_get (cond b (l ++ n ∷ []) l) 0) (same-itself port) ∙ ap (λ (x : List ℕ). slice_get (x ++ n ∷ []) 0) none

none_first : (l : List ℕ) (n : ℕ) → l ≡ [] → slice_get l 0 ≡ Some n → ⊥
none_first [] n is h = cc
none_first (x ∷ xs) n is h = cc

same_some : (a b : ℕ) → Some a ≡ Some b → a ≡ b
same_some a b h = cc

-- the lower end of another connection stays
lower_kept : (w : World) (c : ℕ) (fields : WriteFields) (s : Setup) (broke : Option Break) (e : Event) (next : ℕ) → c < next → (record (apply w (setup_change w c fields s broke)) { last = Some e }).lowers next ≡ w.lowers next
unfolding apply
lower_kept w c fields s broke e next before = ap (λ (b : Bool). if b then lower_of s.member fields w.next_conn else w.lowers next) (other-number next c (not_below c next before))

module _ {I O : Type 0} (i : link_in.Ghosts I) (o : link_out.Ghosts O) where
  held_dialled : (net : Net) (port : ℕ) (shut : Bool) (ms : List (List ℕ)) (over : Bool) (c : ℕ) (d : Bool) (e : Conn I O) → HeldAt i o net shut ms (held_by over) c d e → HeldAt i o (dialled_net net port) shut ms (held_by over) c d e
  held_dialled net port shut ms over c d e k = record { id = k.id; side = k.side; within = more c net.conns k.within; is = k.is; taking = k.taking }

  held_accepted : (net : Net) (port : ℕ) (over : Bool) (c : ℕ) (d : Bool) (e : Conn I O) → HeldAt i o net false [] (held_by over) c d e → HeldAt i o (accepted_net net port) false [] (held_by over) c d e
  held_accepted net port over c d e k = record { id = k.id; side = k.side; within = k.within; is = k.is; taking = k.taking }

  mirror_made : (v : World) (net : Net) (port next : ℕ) (e : Option (Conn I O)) → is_over v next false ≡ false → MirrorAt i o net false [] no_inbox (Some next) e → MirrorShows i o v (accepted_net net port) (Some next) e
  mirror_made v net port next None over k = absurd k
  mirror_made v net port next (Some e) over k = end_from i o v (accepted_net net port) next false false e over (held_accepted net port false next false e k)

holds_asked : {I O : Type 0} (conn : ConnId) (fields : WriteFields) (e : Option (Conn I O)) → HoldsMirror (stage.Open (new_member conn fields mirror.Asked true)) e
holds_asked conn fields None = tt
holds_asked conn fields (Some e) = refl

module _ {F R I O : Type 0} (r : roads.Ghosts R I O) (i : link_in.Ghosts I) (o : link_out.Ghosts O) (w w1 : World) (net : Net) (e : Event) (c : ℕ) (conn : ConnId) (fields on : WriteFields) (number port : ℕ) (after : FullReplica) (broke : Option Break)
    (old held new : Member I O) (fresh end : Conn I O) (book' : BookState F) (result : Stepped) (road middle later : R) where
  -- What is known where a mirror was asked, and the member's ends were exchanged.
  pub record MirrorDone : Type 0 where
    pub before : c < w1.next_conn
    pub out : outcome w e ≡ Some (apply w1 (setup_change w1 c fields (asked_setup after conn fields) broke))
    pub node_is : mirror_node fields.targets ≡ Some number
    pub runs : w1.running number ≡ true
    pub dials : member_dials (asked_setup after conn fields).member w1 c fields ≡ asked_dial w1 c on number ∷ []
    pub is_net : IsNetOf w1 net
    pub roads_at : RoadsAt r net road
    pub end_is : IsEndOf i o w1 net c true old.upstream
    pub unset : IsUnset w1 c fields old
    pub ends : SetUpAs o (asked_setup after conn fields) old held book' result
    pub dialled : IsDialled r i o port road middle fresh
    pub kept : KeepsInward fresh end
    pub sent : SendsPiece o (text_of (request (op.Write on))) fresh.outward end.outward
    pub holds : held.mirror ≡ Some end
    pub exchanged : ExchangesBoth r i o None held new middle later (Ok tt)

  abbrev on_text : List ℕ
  on_text = text_of (request (op.Write on))

  abbrev dialled_at : Net
  dialled_at = dialled_net net port

  -- both ends were exchanged on the roads that were dialled
  both_passed : MirrorDone → BothPassed r i o (exchanged_net dialled_at c true false false []) false false (on_text ∷ []) (held_by (is_over w1 c true)) no_inbox c (Some w1.next_conn) later new.upstream new.mirror
  both_passed h =
      let next : ℕ = w1.next_conn in
      let over : Bool = is_over w1 c true in
      let d = dialled-shows r i o port road middle fresh h.dialled net h.roads_at.sane h.roads_at.shows in
      let at : RoadsAt r dialled_at middle = record { sane = sane_dialled net port h.roads_at.sane; shows = d.both.road_shows } in
      let last : next ≡ net.conns = sym h.is_net.conns in
      let upper : HeldAt i o dialled_at false [] (held_by over) c true held.upstream =
      end_sends i o dialled_at (held_by over) c true None false old.upstream held.upstream h.ends.upper (held_dialled i o net port false [] over c true old.upstream (end_held i o w1 net c true old.upstream h.end_is)) in
      let lower : HeldAt i o dialled_at false (on_text ∷ []) no_inbox next false end = record {
        id = ap (λ (y : ConnId). y.0) h.kept.id ∙ (d.number ∙ sym last);
        side = h.kept.lower ∙ d.upper;
        within = at_end_of next net.conns last;
        is = sent-shows i o net.traffic [] no_inbox on_text fresh end h.kept h.sent d.both.end_is;
        taking = ap (λ (t : Traffic). t.over) (h.roads_at.sane.fresh next false (from_end next net.conns last));
      } in
      let low : MirrorAt i o dialled_at false (on_text ∷ []) no_inbox (Some next) held.mirror = subst (λ (y : Option (Conn I O)). MirrorAt i o dialled_at false (on_text ∷ []) no_inbox (Some next) y) (sym h.holds) lower in
      both_pass r i o None false false false false [] (on_text ∷ []) (held_by over) no_inbox dialled_at c (Some next) middle later held new at upper low refl (never_named held.mirror) (λ z. never z) (λ z. never z) h.exchanged

  -- the dial waits at the port
  first_waiting : (h : MirrorDone) → slice_get ((both_passed h).roads_at.shows.plain.waiting port) 0 ≡ Some net.conns
  first_waiting h = ap (λ (l : List ℕ). slice_get l 0) ((both_passed h).roads_at.shows.holds.waiting port) ∙ first_waits port (net.waiting port) net.conns (h.is_net.waiting port)

  pub mirror_waits : MirrorDone → IfSome (r.plain later) (λ p. p.waiting port ≡ []) → ⊥
  mirror_waits h none =
      let empty : (both_passed h).roads_at.shows.plain.waiting port ≡ [] = subst (λ (y : Option Plain). IfSome y (λ p. p.waiting port ≡ [])) (both_passed h).roads_at.shows.is none in
      none_first ((both_passed h).roads_at.shows.plain.waiting port) net.conns empty (first_waiting h)

  pub mirror_joins : (h : MirrorDone) (at_end : Conn I O) (road' : R) → AcceptsDial r i o port later road' at_end → MirrorJoins r i o w1 net (happens w e) c w1.next_conn fields book' road' (Some new) at_end
  mirror_joins h at_end road' acc =
      let s : Setup = asked_setup after conn fields in
      let k : Change = setup_change w1 c fields s broke in
      let v : World = happens w e in
      let next : ℕ = w1.next_conn in
      let dial : Dial = asked_dial w1 c on number in
      let fs : List Flush = flush_above c fields s.effect ∷ [] in
      let f = followed w (apply w1 k) e h.out in
      let a = setup_after w w1 c fields s broke e h.before h.out in
      let over : Bool = is_over w1 c true in
      let all : Net = exchanged_net (exchanged_net dialled_at c true false false []) next false false false (on_text ∷ []) in
      let made : Net = made_net net port (flushes_with w1 fs dial) in
      let there : NewConn w1 v dial = new_conn w w1 k dial e h.dials h.out in
      let by : DialsBy w1 k dial fs = (setup-sends w1 c fields s broke h.before).mirrored dial h.dials in
      let last : next ≡ net.conns = sym h.is_net.conns in
      let p = both_passed h in
      let ends = ends-made r i o w1 net k dial port fs h.is_net h.roads_at.sane by in
      let first : slice_get (p.roads_at.shows.plain.waiting port) 0 ≡ Some at_end.id.0 = subst (λ (y : Option Plain). IfSome y (λ q. slice_get (q.waiting port) 0 ≡ Some at_end.id.0)) p.roads_at.shows.is acc.number in
      let accepted : IsAccepted i o next at_end = record {
        number = same_some at_end.id.0 net.conns (sym first ∙ first_waiting h) ∙ sym last;
        lower = acc.lower;
        fresh = acc.fresh;
        observable = subst (λ (y : Option Plain). IfSome y (λ _. IsObservable i o at_end)) p.roads_at.shows.is acc.observable;
      } in
      let open_is : new.stage ≡ stage.Open (new_member conn fields mirror.Asked true) = h.exchanged.rest.stage ∙ h.ends.stage_is in
      let same : (n : ℕ) (b : Bool) → is_over v n b ≡ is_over w1 n b = λ n b. f.over n b ∙ changed-over w1 k n b in
      record {
        joins = record {
          made = made;
          roads_are = record {
            is_net = f.nets made (dialled-net w1 net k dial port fs h.is_net by);
            sane = (sane-stays net (flushes_with w1 fs dial) h.roads_at.sane).made port (more c net.conns (subst (λ (n : ℕ). c < n) last h.before), (at_end_of next net.conns last, tt));
            shows = roads-accepted r i o all later road' port p.roads_at.shows acc.plain acc.carried;
          };
          left_is = record {
            full = record { fields = fields; state = new_member conn fields mirror.Asked true; mirror = Some next };
            lower = a.lower;
            fields_are = refl;
            mirror_is = refl;
            acts = refl;
            shows = record {
              node = ap (λ (y : NodeId). y.0) (h.exchanged.rest.node ∙ h.ends.same.node) ∙ (h.unset.node ∙ sym a.node);
              op = h.exchanged.rest.op ∙ (h.ends.same.op ∙ h.unset.op);
              stage_is = open_is;
              holds = subst (λ (st : Stage). HoldsMirror st new.mirror) (sym open_is) (holds_asked conn fields new.mirror);
              upstream = end_from i o v made c true over new.upstream (same c true) (held_accepted i o all port over c true new.upstream p.upper);
              mirror = mirror_made i o v all port next new.mirror (same next false ∙ h.is_net.none_over next false (from_end next next refl)) p.lower;
              above = h.exchanged.rest.above ∙ (h.ends.above ∙ h.unset.above);
              below_next = ap (λ (b : BelowState). b.next) (h.exchanged.rest.below ∙ (h.ends.below ∙ h.unset.below));
              below = λ z. ap (λ (b : BelowState). b.received) (h.exchanged.rest.below ∙ (h.ends.below ∙ h.unset.below));
            };
          };
          none_dialled = λ none. cc;
          replica = h.ends.replica ∙ sym a.replica;
          others = λ n b y none z. same-end r i o (apply w1 k) v made n b y (f.over n b) (ends.others n b y (none.0, tt) z);
        };
        end_is = same-end r i o (apply w1 k) v made next true at_end (f.over next true) (ends.lower at_end accepted);
        dialled = record {
          number = number;
          node_is = h.node_is;
          runs = there.running number ∙ h.runs;
          upper = ap (λ (x : Dialled). x.upper) there.dialled;
          to = ap (λ (x : Dialled). x.to) there.dialled ∙ ap (λ (l : ℕ). record { node = number; life = l }) (sym (there.lives number));
          last = there.last;
        };
        lower_same = ap (λ (u : World). u.lowers next) (happened w (apply w1 k) e h.out) ∙ lower_kept w1 c fields s broke e next h.before;
      }
