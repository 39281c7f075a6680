-- What the calls of link_pieces make of roads and ends that show the connections.
use Rattle.std.proofs.Common.{◌≡◌, ℕ, ◌+◌, Bool, true, false, List, [], ◌∷◌, ◌++◌, length, Option, Some, None, refl, sym, ap, ◌∙◌, subst, arith}
use Rattle.std.specs.Prelude.{◌||◌, not, cond, if◌then◌else◌, option_map, OnOk, Result, Ok, Err}
use Rattle.std.proofs.lemmas.List.{append_assoc}
use Rattle.hd_base.specs.Links.{Inbox, Sends}
use Rattle.hd_base.specs.declared.ends.Conn.{Conn}
use Rattle.hd_base.specs.declared.ends.RoadError.{RoadError}
use Rattle.hd_base.specs.declared.links.LinkIn as link_in
use Rattle.hd_base.specs.declared.links.LinkOut as link_out
use Rattle.hd_base.specs.declared.roads.Roads as roads
use Rattle.link_pieces.specs.Pieces.{SendsNothing, SendsPiece}
use Rattle.link_pieces.specs.Roads.{KeepsInward, IsDialled, BringsEnd, GivesUp}
use Rattle.road_traffic.specs.Traffic.{Traffic, Traffics}
use Rattle.road_traffic.specs.Showing.{Net, IsSane, RoadsShow, IsShutOr, EndIs, BothShow, no_inbox, ShowsLoss}
use Rattle.road_traffic.specs.Laws.{left_net, ShowsDialled, IsShutHalf, Took}
use Rattle.road_traffic.proofs.ShowingLemmas.{end-new, end-shut, loss-shows, roads-brought, roads-dialled, roads-lost}

or-open : (a b : Bool) → (a || b) ≡ false → b ≡ false
or-open true b h = cc
or-open false b h = h

or-shut : (a : Bool) → (a || true) ≡ true
or-shut true = refl
or-shut false = refl

lost-of : (shut : Bool) (n m : ℕ) → shut ≡ false → m ≡ (if shut then n + 1 else n) → m ≡ n
lost-of true n m h e = cc
lost-of false n m h e = e

sent-more : (before now : Option (List (List ℕ))) (sent extra : List (List ℕ)) (piece : List ℕ) → before ≡ Some (sent ++ extra) → Sends before now piece → now ≡ Some (sent ++ (extra ++ piece ∷ []))
sent-more before now sent extra piece is sends = sends ∙ ap (option_map (λ pieces. pieces ++ piece ∷ [])) is ∙ ap Some (append_assoc sent extra (piece ∷ []))

module _ {R I O : Type 0} (r : roads.Ghosts R I O) (i : link_in.Ghosts I) (o : link_out.Ghosts O) where
  -- An end that was given up.
  pub lost-shows : (end : Conn I O) (road road' : R) (g : GivesUp r i o end road road') → ShowsLoss r i o end road road' g.result
  lost-shows end road road' g =
      let shut_is : g.shut ≡ record end { outward = g.shut.outward } = λ j. record {
        id = g.kept.id j;
        lower = g.kept.lower j;
        inward = g.kept.inward j;
        outward = g.shut.outward;
      } in
      let brings : BringsEnd r i o (record end { outward = g.shut.outward }) road road' g.result = subst (λ (e : Conn I O). BringsEnd r i o e road road' g.result) shut_is g.brings in
      loss-shows r i o end g.shut.outward road road' g.result g.is_shut g.sent g.flushed g.lost brings.plain brings.carried

  -- An end that was brought back.
  pub brought-shows : (end : Conn I O) (road road' : R) (result : Result (Unit {0}) RoadError) → BringsEnd r i o end road road' result → (net : Net) (shut : Bool) (extra : List (List ℕ)) (inbox : Inbox) → IsSane net → BothShow r i o net shut extra inbox road end → OnOk result (RoadsShow r (left_net shut net end.id.0 end.lower extra) road')
  brought-shows end road road' (Err why) k net shut extra inbox sane b = tt
  brought-shows end road road' (Ok u) k net true extra inbox sane b =
      roads-lost r i o net road' end.id.0 end.lower extra (roads-brought r i o net road road' true extra inbox end sane b.road_shows b.end_is k.plain k.carried)
  brought-shows end road road' (Ok u) k net false extra inbox sane b =
      roads-brought r i o net road road' false extra inbox end sane b.road_shows b.end_is k.plain k.carried

  -- A dial that was answered.
  pub dialled-shows : (port : ℕ) (road road' : R) (end : Conn I O) → IsDialled r i o port road road' end → (net : Net) → IsSane net → RoadsShow r net road → ShowsDialled r i o net port road' end
  dialled-shows port road road' end k net sane s =
      let number : end.id.0 ≡ net.conns = (rw s.is at k.number) ∙ s.holds.dialled in
      record {
        number = number;
        upper = k.upper;
        both = record {
          road_shows = roads-dialled r i o net road road' port s k.plain k.carried;
          end_is = end-new r i o net.traffic end (λ d. sane.fresh end.id.0 d (omega (arith, number))) k.fresh (rw s.is at k.observable);
        };
      }

module _ {I O : Type 0} (i : link_in.Ghosts I) (o : link_out.Ghosts O) where
  -- An end that has sent a piece more.
  pub sent-shows : (traffic : Traffics) (extra : List (List ℕ)) (inbox : Inbox) (piece : List ℕ) (old new : Conn I O) → KeepsInward old new → SendsPiece o piece old.outward new.outward → EndIs i o traffic false extra inbox old → EndIs i o traffic false (extra ++ piece ∷ []) inbox new
  sent-shows traffic extra inbox piece old new kept sends k =
      let out : traffic new.id.0 (not new.lower) ≡ traffic old.id.0 (not old.lower) = λ j. traffic (kept.id j).0 (not (kept.lower j)) in
      let into : traffic new.id.0 new.lower ≡ traffic old.id.0 old.lower = λ j. traffic (kept.id j).0 (kept.lower j) in
      let still : IsShutOr i o false old → IsShutOr i o false new = λ x. record {
        shut_is = (λ j. i.shut (kept.inward j) || sends.kept.shut j) ∙ x.shut_is;
        none_lost = lost-of (o.shut old.outward) _ _ (or-open (i.shut old.inward) (o.shut old.outward) x.shut_is) (rw k.sent at sends.lost) ∙ x.none_lost;
      } in
      record {
        sent = sent-more _ _ _ extra piece k.sent sends.sent ∙ sym (ap (λ (t : Traffic). Some (t.sent ++ (extra ++ piece ∷ []))) out);
        flushed = sends.kept.flushed ∙ k.flushed ∙ sym (ap (λ (t : Traffic). length t.sent) out);
        held = ap i.held kept.inward ∙ k.held;
        outward = λ h. still (k.outward (sym (ap (λ (t : Traffic). t.end) out) ∙ h));
        inward = λ h. still (k.inward (sym (ap (λ (t : Traffic). t.end) into) ∙ h));
      }

  -- One on which nothing was sent.
  pub quiet-shows : (traffic : Traffics) (shut : Bool) (extra : List (List ℕ)) (inbox : Inbox) (old new : Conn I O) → KeepsInward old new → SendsNothing o old.outward new.outward → EndIs i o traffic shut extra inbox old → EndIs i o traffic shut extra inbox new
  quiet-shows traffic shut extra inbox old new kept quiet k =
      let out : traffic new.id.0 (not new.lower) ≡ traffic old.id.0 (not old.lower) = λ j. traffic (kept.id j).0 (not (kept.lower j)) in
      let into : traffic new.id.0 new.lower ≡ traffic old.id.0 old.lower = λ j. traffic (kept.id j).0 (kept.lower j) in
      let still : IsShutOr i o shut old → IsShutOr i o shut new = λ x. record {
        shut_is = (λ j. i.shut (kept.inward j) || quiet.kept.shut j) ∙ x.shut_is;
        none_lost = quiet.lost ∙ x.none_lost;
      } in
      record {
        sent = quiet.sent ∙ k.sent ∙ sym (ap (λ (t : Traffic). Some (t.sent ++ extra)) out);
        flushed = quiet.kept.flushed ∙ k.flushed ∙ sym (ap (λ (t : Traffic). length t.sent) out);
        held = ap i.held kept.inward ∙ k.held;
        outward = λ h. still (k.outward (sym (ap (λ (t : Traffic). t.end) out) ∙ h));
        inward = λ h. still (k.inward (sym (ap (λ (t : Traffic). t.end) into) ∙ h));
      }

  -- One that was shut.
  pub shut-shows : (traffic : Traffics) (shut : Bool) (extra : List (List ℕ)) (inbox : Inbox) (old new : Conn I O) → KeepsInward old new → IsShutHalf o old.outward new.outward → EndIs i o traffic shut extra inbox old → EndIs i o traffic true extra inbox new
  shut-shows traffic shut extra inbox old new kept half k =
      let out : traffic new.id.0 (not new.lower) ≡ traffic old.id.0 (not old.lower) = λ j. traffic (kept.id j).0 (not (kept.lower j)) in
      let into : traffic new.id.0 new.lower ≡ traffic old.id.0 old.lower = λ j. traffic (kept.id j).0 (kept.lower j) in
      let now : IsShutOr i o shut old → IsShutOr i o true new = λ x. record {
        shut_is = ap (λ b. i.shut new.inward || b) half.shut ∙ or-shut (i.shut new.inward);
        none_lost = half.lost ∙ x.none_lost;
      } in
      record {
        sent = half.sent ∙ k.sent ∙ sym (ap (λ (t : Traffic). Some (t.sent ++ extra)) out);
        flushed = half.flushed ∙ k.flushed ∙ sym (ap (λ (t : Traffic). length t.sent) out);
        held = ap i.held kept.inward ∙ k.held;
        outward = λ h. now (k.outward (sym (ap (λ (t : Traffic). t.end) out) ∙ h));
        inward = λ h. now (k.inward (sym (ap (λ (t : Traffic). t.end) into) ∙ h));
      }

  -- One of which something was taken.
  pub took-shows : (traffic : Traffics) (shut : Bool) (extra : List (List ℕ)) (inbox left : Inbox) (old new : Conn I O) → Took i left old new → EndIs i o traffic shut extra inbox old → EndIs i o traffic shut extra left new
  took-shows traffic shut extra inbox left old new took k =
      let out : traffic new.id.0 (not new.lower) ≡ traffic old.id.0 (not old.lower) = λ j. traffic (took.id j).0 (not (took.lower j)) in
      let into : traffic new.id.0 new.lower ≡ traffic old.id.0 old.lower = λ j. traffic (took.id j).0 (took.lower j) in
      let still : IsShutOr i o shut old → IsShutOr i o shut new = λ x. record {
        shut_is = (λ j. took.shut j || o.shut (took.outward j)) ∙ x.shut_is;
        none_lost = ap o.lost took.outward ∙ x.none_lost;
      } in
      record {
        sent = ap o.sent took.outward ∙ k.sent ∙ sym (ap (λ (t : Traffic). Some (t.sent ++ extra)) out);
        flushed = ap o.flushed took.outward ∙ k.flushed ∙ sym (ap (λ (t : Traffic). length t.sent) out);
        held = took.holds;
        outward = λ h. still (k.outward (sym (ap (λ (t : Traffic). t.end) out) ∙ h));
        inward = λ h. still (k.inward (sym (ap (λ (t : Traffic). t.end) into) ∙ h));
      }
