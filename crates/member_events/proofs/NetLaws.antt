-- The connections once both ends of a member were exchanged or brought back are those of the world after its step; and the other ends stay.
use Rattle.std.proofs.Common.{◌≡◌, ◌+◌, ℕ, Bool, true, false, List, ◌∷◌, map, Option, Some, None, refl, ◌∙◌, subst}
use Rattle.hd_base.specs.declared.ends.Conn.{Conn}
use Rattle.hd_base.specs.declared.links.LinkIn as link_in
use Rattle.hd_base.specs.declared.links.LinkOut as link_out
use Rattle.hd_base.specs.declared.roads.Roads as roads
use Rattle.hd_base.specs.declared.roads.TheConstants.{FIRST_PORT}
use Rattle.road_traffic.specs.Showing.{Net, exchanged_net}
use Rattle.road_traffic.specs.Laws.{left_net}
use Rattle.world_texts.specs.World.Parts.{Message}
use Rattle.world_texts.specs.World.Worlds.{World, Change, apply}
use Rattle.world_texts.specs.WorldNets.Rows.{Row, Rows, rows_of, text_of, rows_flushed}
use Rattle.world_texts.specs.WorldNets.Nets.{IsRow, AreRows, IsNetOf, IsEndOf, is_over}
use Rattle.world_texts.specs.WorldNets.Changes.{Flush}
use Rattle.world_texts.specs.WorldNets.Ends.{IsElsewhere, flushed_all}
use Rattle.world_texts.specs.WorldNets.Steps.{SendsBy}
use Rattle.world_texts.specs.WorldNets.Flushing.{lower_flush, upper_flushes}
use Rattle.world_texts.proofs.WorldNets.RowLemmas.{flushed, lost}
use Rattle.world_texts.proofs.WorldNets.FlushLemmas.{rows_after, after-is}
use Rattle.world_texts.proofs.WorldNets.StepLemmas.{rows-by, changed-net}
use Rattle.world_texts.proofs.WorldNets.EndLemmas.{stays}
use Rattle.member_events.specs.Showing.{IsNoneOf}
use Rattle.member_events.proofs.EndLaws.{mirror_net, mirror_left}

-- what the two ends of a member flush
abbrev pub both_flushes : ℕ → Option ℕ → Bool → Bool → List Message → List Message → List Flush
both_flushes c mirror s1 s2 m1 m2 = lower_flush c s1 m1 ∷ upper_flushes mirror s2 m2

-- EXCHANGED

passed_is : (net : Net) (c : ℕ) (mirror : Option ℕ) (s1 s2 : Bool) (m1 m2 : List Message)
    → flushed_all net (both_flushes c mirror s1 s2 m1 m2) ≡ mirror_net (exchanged_net net c true false s1 (map text_of m1)) false s2 (map text_of m2) mirror
passed_is net c None s1 s2 m1 m2 = refl
passed_is net c (Some d) s1 s2 m1 m2 = refl

pub passed_net : (w : World) (net : Net) (k : Change) (c : ℕ) (mirror : Option ℕ) (s1 s2 : Bool) (m1 m2 : List Message) → IsNetOf w net → SendsBy w k (both_flushes c mirror s1 s2 m1 m2)
    → IsNetOf (apply w k) (mirror_net (exchanged_net net c true false s1 (map text_of m1)) false s2 (map text_of m2) mirror)
passed_net w net k c mirror s1 s2 m1 m2 is by = subst (λ (n : Net). IsNetOf (apply w k) n) (passed_is net c mirror s1 s2 m1 m2) (changed-net w net k (both_flushes c mirror s1 s2 m1 m2) is by)

-- BROUGHT BACK

left_rows : (rows : Rows) (net : Net) (c : ℕ) (lower shut : Bool) (ms : List Message) → AreRows rows net.traffic → AreRows (rows_flushed rows c lower shut ms) (left_net shut net c lower (map text_of ms)).traffic
left_rows rows net c lower true ms are = lost rows net.traffic c lower ms are
left_rows rows net c lower false ms are = flushed rows net.traffic c lower false ms are

both_rows : (rows : Rows) (net : Net) (c : ℕ) (mirror : Option ℕ) (s1 s2 : Bool) (m1 m2 : List Message) → AreRows rows net.traffic
    → AreRows (rows_after rows (both_flushes c mirror s1 s2 m1 m2)) (mirror_left (left_net s1 net c true (map text_of m1)) s2 (map text_of m2) mirror).traffic
both_rows rows net c None s1 s2 m1 m2 are = left_rows rows net c true s1 m1 are
both_rows rows net c (Some d) s1 s2 m1 m2 are =
    left_rows (rows_flushed rows c true s1 m1) (left_net s1 net c true (map text_of m1)) d false s2 m2 (left_rows rows net c true s1 m1 are)

-- all but the traffic stays
record SameNet (old new : Net) : Type 0 where
  conns : new.conns ≡ old.conns
  listens : (port : ℕ) → new.listens port ≡ old.listens port
  waiting : (port : ℕ) → new.waiting port ≡ old.waiting port

left_same : (net : Net) (shut : Bool) (c : ℕ) (lower : Bool) (ms : List (List ℕ)) → SameNet net (left_net shut net c lower ms)
left_same net true c lower ms = record { conns = refl; listens = λ p. refl; waiting = λ p. refl }
left_same net false c lower ms = record { conns = refl; listens = λ p. refl; waiting = λ p. refl }

both_same : (net : Net) (c : ℕ) (mirror : Option ℕ) (s1 s2 : Bool) (m1 m2 : List (List ℕ)) → SameNet net (mirror_left (left_net s1 net c true m1) s2 m2 mirror)
both_same net c None s1 s2 m1 m2 = left_same net s1 c true m1
both_same net c (Some d) s1 s2 m1 m2 =
    let a = left_same net s1 c true m1 in
    let b = left_same (left_net s1 net c true m1) s2 d false m2 in
    record { conns = b.conns ∙ a.conns; listens = λ p. b.listens p ∙ a.listens p; waiting = λ p. b.waiting p ∙ a.waiting p }

pub brought_net : (w : World) (net : Net) (k : Change) (c : ℕ) (mirror : Option ℕ) (s1 s2 : Bool) (m1 m2 : List Message) → IsNetOf w net → SendsBy w k (both_flushes c mirror s1 s2 m1 m2)
    → IsNetOf (apply w k) (mirror_left (left_net s1 net c true (map text_of m1)) s2 (map text_of m2) mirror)
brought_net w net k c mirror s1 s2 m1 m2 is by =
    let fs = both_flushes c mirror s1 s2 m1 m2 in
    let n = changed-net w net k fs is by in
    let same = both_same net c mirror s1 s2 (map text_of m1) (map text_of m2) in
    record {
      conns = same.conns ∙ n.conns;
      listens = λ node. same.listens (FIRST_PORT + node) ∙ n.listens node;
      waiting = λ port. same.waiting port ∙ n.waiting port;
      rows_are = λ a d. subst (λ (x : Row). IsRow x ((mirror_left (left_net s1 net c true (map text_of m1)) s2 (map text_of m2) mirror).traffic a d))
          (after-is (rows_of w) fs a d by.changes.apart ∙ rows-by w k fs by.changes a d) (both_rows (rows_of w) net c mirror s1 s2 m1 m2 is.rows_are a d);
      none_over = n.none_over;
    }

-- OTHER ENDS

module _ {R I O : Type 0} (r : roads.Ghosts R I O) (i : link_in.Ghosts I) (o : link_out.Ghosts O) where
  pub other_passed : (w v : World) (net : Net) (c : ℕ) (mirror : Option ℕ) (t1 t2 s1 s2 : Bool) (m1 m2 : List (List ℕ)) (d : ℕ) (lower : Bool) (e : Conn I O) → IsNoneOf c mirror d lower → is_over v d lower ≡ is_over w d lower
      → IsEndOf i o w net d lower e → IsEndOf i o v (mirror_net (exchanged_net net c true t1 s1 m1) t2 s2 m2 mirror) d lower e
  other_passed w v net c None t1 t2 s1 s2 m1 m2 d lower e none over k = (stays r i o w v net c true d lower e none.0 over k).exchanged t1 s1 m1
  other_passed w v net c (Some b) t1 t2 s1 s2 m1 m2 d lower e none over k =
      (stays r i o v v (exchanged_net net c true t1 s1 m1) b false d lower e none.1 refl ((stays r i o w v net c true d lower e none.0 over k).exchanged t1 s1 m1)).exchanged t2 s2 m2

  one_left : (w v : World) (net : Net) (c : ℕ) (side shut : Bool) (ms : List (List ℕ)) (d : ℕ) (lower : Bool) (e : Conn I O) → IsElsewhere c side d lower → is_over v d lower ≡ is_over w d lower
      → IsEndOf i o w net d lower e → IsEndOf i o v (left_net shut net c side ms) d lower e
  one_left w v net c side true ms d lower e away over k = (stays r i o w v net c side d lower e away over k).lost ms
  one_left w v net c side false ms d lower e away over k = (stays r i o w v net c side d lower e away over k).exchanged false false ms

  pub other_left : (w v : World) (net : Net) (c : ℕ) (mirror : Option ℕ) (s1 s2 : Bool) (m1 m2 : List (List ℕ)) (d : ℕ) (lower : Bool) (e : Conn I O) → IsNoneOf c mirror d lower → is_over v d lower ≡ is_over w d lower
      → IsEndOf i o w net d lower e → IsEndOf i o v (mirror_left (left_net s1 net c true m1) s2 m2 mirror) d lower e
  other_left w v net c None s1 s2 m1 m2 d lower e none over k = one_left w v net c true s1 m1 d lower e none.0 over k
  other_left w v net c (Some b) s1 s2 m1 m2 d lower e none over k =
      one_left v v (left_net s1 net c true m1) b false s2 m2 d lower e none.1 refl (one_left w v net c true s1 m1 d lower e none.0 over k)
