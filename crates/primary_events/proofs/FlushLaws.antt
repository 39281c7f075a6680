-- A primary that has sent the UPDATE: one connection after the other is given up, and then one after the other is exchanged.
use Rattle.std.proofs.Common.{◌≡◌, ℕ, zero, suc, ◌<◌, ◌≤◌, Bool, true, false, List, [], length, slice_get, slice_set, Option, Some, None, Result, Ok, Err, ◌⊎◌, inl, inr, refl, sym, ap, ◌∙◌, subst, arith}
use Rattle.std.specs.Prelude.{cond, map, not, ◌==◌, ◌||◌, ◌&&◌}
use Rattle.hd_base.specs.Ends.{has_failed}
use Rattle.hd_base.specs.declared.ends.Conn.{Conn}
use Rattle.hd_base.specs.declared.ends.RoadError.{RoadError}
use Rattle.hd_base.specs.declared.links.LinkIn as link_in
use Rattle.hd_base.specs.declared.links.LinkOut as link_out
use Rattle.hd_base.specs.declared.numbers.ConnId.{ConnId}
use Rattle.hd_base.specs.declared.roads.Roads as roads
use Rattle.block_recovery.specs.declared.links.Seat.{Seat}
use Rattle.block_recovery.specs.declared.links.Seat.TheVariants as seat
use Rattle.block_recovery.specs.declared.links.Link.{Link}
use Rattle.block_recovery.specs.Actions.{Held, IsAt, Passes, keeps_at, Settles, SettlesAt, SettlesAll, GivesBack, place_after}
use Rattle.block_recovery.specs.Exchanging.{Exchanges, ExchangesLink, ExchangesAt, ExchangesAll}
use Rattle.link_pieces.specs.Roads.{BringsEnd}
use Rattle.recovery_core.specs.declared.standings.Standing.{Standing}
use Rattle.road_traffic.specs.Traffic.{Traffic, given_up}
use Rattle.road_traffic.specs.Showing.{Net, EndIs, exchanged_net, lost_net}
use Rattle.road_traffic.proofs.CallLemmas.{shut-shows}
use Rattle.road_traffic.proofs.TrafficLemmas.{changed-other, same-itself}
use Rattle.world.specs.Parts.{Message}
use Rattle.world.specs.Worlds.{World}
use Rattle.world_primaries.specs.WorldNets.Rows.{Row, Rows, rows_of, text_of, flushes_row, rows_flushed}
use Rattle.world_primaries.specs.WorldNets.Nets.{AreRows, IsEndOf, held_by, is_over}
use Rattle.world_primaries.specs.WorldNets.Ends.{IsElsewhere}
use Rattle.world_primaries.proofs.WorldNets.EndLemmas.{stays, stays-event, exchanged-over}
use Rattle.world_primaries.proofs.WorldNets.RowLemmas.{flushed, lost}
use Rattle.world_primaries.specs.Links.{AreDistinct}
use Rattle.client_events.proofs.MemberEvents.CauseLaws.{still_risen, out_failed, one_risen, or_first}
use Rattle.client_events.proofs.MemberEvents.EndLaws.{HeldAt, RoadsAt, Passed, end_passes, end_brought}
use Rattle.primary_events.specs.Leading.{IsNoneOf}
use Rattle.primary_events.specs.Updating.{HasRisen}
use Rattle.primary_events.proofs.GivingUpLaws.{differs, or_true, before_or}
use Rattle.primary_events.proofs.PlaceLemmas.{set_here, set_there, same_or, some_same}
use Rattle.primary_events.proofs.SendLaws.{SentAt, none_some}

true_false : true ≡ false → ⊥
true_false h = cc

-- PLACES THAT ARE DONE

abbrev adds : ℕ → (ℕ → Bool) → ℕ → Bool
adds k done = λ j. (j == k) || done j

adds_here : (k : ℕ) (done : ℕ → Bool) → adds k done k ≡ true
adds_here k done = ap (λ b. b || done k) (same-itself k)

adds_there : (k : ℕ) (done : ℕ → Bool) (j : ℕ) → (j ≡ k → ⊥) → adds k done j ≡ done j
adds_there k done j apart = ap (λ b. b || done j) (differs j k apart)

adds_on : (k : ℕ) (done : ℕ → Bool) (j : ℕ) → done j ≡ true → adds k done j ≡ true
adds_on k done j on = ap (λ b. (j == k) || b) on ∙ or_true (j == k)

adds_was : (k : ℕ) (done : ℕ → Bool) (j : ℕ) → adds k done j ≡ true → (j ≡ k) ⊎ ((j ≡ k → ⊥) × (done j ≡ true))
adds_was k done j on = by (same_or j k) where
  by : (j ≡ k) ⊎ (j ≡ k → ⊥) → (j ≡ k) ⊎ ((j ≡ k → ⊥) × (done j ≡ true))
  by (inl e) = inl e
  by (inr apart) = inr (apart, sym (adds_there k done j apart) ∙ on)

adds_not : (k : ℕ) (done : ℕ → Bool) (j : ℕ) → adds k done j ≡ false → (j ≡ k → ⊥) × (done j ≡ false)
adds_not k done j off = by (same_or j k) where
  by : (j ≡ k) ⊎ (j ≡ k → ⊥) → (j ≡ k → ⊥) × (done j ≡ false)
  by (inl e) = absurd (true_false (sym (ap (adds k done) e ∙ adds_here k done) ∙ off))
  by (inr apart) = (apart, sym (adds_there k done j apart) ∙ off)

unlike : (a b : Bool) → a ≡ b → a ≡ true → b ≡ false → ⊥
unlike a b e h k = cc

same_conn : (c d : ℕ) → Some (Some c) ≡ Some (Some d) → c ≡ d
same_conn c d e = some_same c d (some_same (Some c) (Some d) e)

no_conn : (c : ℕ) → ◌≡◌ {A = Option (Option ℕ)} (Some None) (Some (Some c)) → ⊥
no_conn c e = cc

no_place : (c : ℕ) → ◌≡◌ {A = Option (Option ℕ)} None (Some (Some c)) → ⊥
no_place c e = cc

pub lost_open : {I O : Type 0} (l : Link I O) → ◌≡◌ {A = Option (Seat I O)} (Some (seat.Open l)) (Some seat.Empty) → ⊥
lost_open l e = cc

module _ {R I O : Type 0} (r : roads.Ghosts R I O) (i : link_in.Ghosts I) (o : link_out.Ghosts O) where
  -- ends that were brought back stay so
  pub brings_risen : (e : Conn I O) (road road' : R) (result : Result (Unit {0}) RoadError) (c : ℕ) → BringsEnd r i o e road road' result → r.risen road c ≡ true → r.risen road' c ≡ true
  brings_risen e road road' (Ok u) c b h = b.risen c ∙ or_first (r.risen road c) ((e.id.0 == c) && has_failed i o e) h
  brings_risen e road road' (Err why) c b h = ap (λ (f : ℕ → Bool). f c) b.err_risen ∙ h

  settles_risen : (keeps : Bool) (x y : Seat I O) (road road' : R) (c : ℕ) → Settles r i o keeps x y road road' → r.risen road c ≡ true → r.risen road' c ≡ true
  settles_risen true x y road road' c s h = subst (λ (z : R). r.risen z c ≡ true) (sym s.1) h
  settles_risen false seat.Empty y road road' c s h = subst (λ (z : R). r.risen z c ≡ true) (sym s.1) h
  settles_risen false seat.Lost y road road' c s h = subst (λ (z : R). r.risen z c ≡ true) (sym s.1) h
  settles_risen false (seat.Open l) y road road' c s h = brings_risen s.gives.shut road road' s.gives.result c s.gives.brings h

  module _ (w : World) (net : Net) (conns : List (Option ℕ)) (sends_at : ℕ → List Message) (shuts_at : ℕ → Bool) (sent : List (Seat I O)) where
    abbrev pub texts : ℕ → List (List ℕ)
    texts j = map text_of (sends_at j)

    abbrev pub over : ℕ → Bool
    over c = is_over w c false

    -- An end that was exchanged.
    pub record KeptAt (made : Net) (c : ℕ) (y : Link I O) (z : Option (Seat I O)) : Type 0 where
      pub link : Link I O
      pub is : z ≡ Some (seat.Open link)
      pub incoming : link.incoming ≡ y.incoming
      pub failed : link.failed ≡ y.failed
      pub over_is : link.over ≡ y.over
      pub held : HeldAt i o made false [] (held_by (over c)) c false link.end

    -- One that is to be exchanged, or given up.
    pub record WaitsAt (made : Net) (j c : ℕ) (y : Link I O) (z : Option (Seat I O)) : Type 0 where
      pub is : z ≡ Some (seat.Open y)
      pub held : y.failed ≡ false → HeldAt i o made false (texts j) (held_by (over c)) c false y.end

    -- The connections of these places were exchanged or given up, and no other ones.
    pub record Flushing (done : ℕ → Bool) (held : Held R I O) : Type 0 where
      pub made : Net
      pub rows : Rows
      pub roads_at : RoadsAt r made held.road
      pub conns_are : made.conns ≡ net.conns
      pub listens_are : made.listens ≡ net.listens
      pub waiting_are : made.waiting ≡ net.waiting
      pub are : AreRows rows made.traffic
      pub early : (c : ℕ) (d : Bool) → ((j : ℕ) → done j ≡ true → slice_get conns j ≡ Some (Some c) → ⊥) → rows c d ≡ rows_of w c d
      pub late : (j c : ℕ) (d : Bool) → done j ≡ true → slice_get conns j ≡ Some (Some c) → rows c d ≡ flushes_row false (shuts_at j) (sends_at j) d (rows_of w c d)
      pub waits : (j c : ℕ) (y : Link I O) → done j ≡ false → slice_get conns j ≡ Some (Some c) → slice_get sent j ≡ Some (seat.Open y) → WaitsAt made j c y (slice_get held.links j)
      pub given : (j c : ℕ) → done j ≡ true → shuts_at j ≡ true → slice_get conns j ≡ Some (Some c) → slice_get held.links j ≡ Some seat.Empty
      pub kept : (j c : ℕ) (y : Link I O) → done j ≡ true → shuts_at j ≡ false → slice_get conns j ≡ Some (Some c) → slice_get sent j ≡ Some (seat.Open y) → KeptAt made c y (slice_get held.links j)
      pub bare : (j : ℕ) → slice_get conns j ≡ Some None → slice_get held.links j ≡ Some seat.Empty
      pub none : (j : ℕ) → slice_get conns j ≡ None → slice_get held.links j ≡ None
      pub others : (d : ℕ) (b : Bool) (e : Conn I O) → IsNoneOf conns d b → IsEndOf i o w net d b e → IsEndOf i o w made d b e

    -- nothing changes at any place
    stays_so : (done : ℕ → Bool) (a b : Held R I O) → b.road ≡ a.road → ((j : ℕ) → slice_get b.links j ≡ slice_get a.links j) → Flushing done a → Flushing done b
    stays_so done a b road same g = record {
      made = g.made;
      rows = g.rows;
      roads_at = subst (λ (z : R). RoadsAt r g.made z) (sym road) g.roads_at;
      conns_are = g.conns_are;
      listens_are = g.listens_are;
      waiting_are = g.waiting_are;
      are = g.are;
      early = g.early;
      late = g.late;
      waits = λ j c y off at open_is. subst (λ (z : Option (Seat I O)). WaitsAt g.made j c y z) (sym (same j)) (g.waits j c y off at open_is);
      given = λ j c on shut at. same j ∙ g.given j c on shut at;
      kept = λ j c y on keeps at open_is. subst (λ (z : Option (Seat I O)). KeptAt g.made c y z) (sym (same j)) (g.kept j c y on keeps at open_is);
      bare = λ j at. same j ∙ g.bare j at;
      none = λ j at. same j ∙ g.none j at;
      others = g.others;
    }

    set_same : (links : List (Seat I O)) (k : ℕ) (x y : Seat I O) → slice_get links k ≡ Some x → y ≡ x → (j : ℕ) → slice_get (slice_set links k y) j ≡ slice_get links j
    set_same links k x y stood e j = by (same_or j k) where
      by : (j ≡ k) ⊎ (j ≡ k → ⊥) → slice_get (slice_set links k y) j ≡ slice_get links j
      by (inl q) = ap (slice_get (slice_set links k y)) q ∙ (set_here links k x y stood ∙ (ap Some e ∙ (sym stood ∙ sym (ap (slice_get links) q))))
      by (inr apart) = set_there links k y j apart

    module _ (distinct : AreDistinct conns) where
      -- ONE CONNECTION

      module _ (done : ℕ → Bool) (k c : ℕ) (y : Link I O) (here : slice_get conns k ≡ Some (Some c)) (open_is : slice_get sent k ≡ Some (seat.Open y)) (off : done k ≡ false) (a b : Held R I O) (after : Seat I O) (set : b.links ≡ slice_set a.links k after) (g : Flushing done a) where
        elsewhere : (j : ℕ) → (j ≡ k → ⊥) → slice_get b.links j ≡ slice_get a.links j
        elsewhere j apart = ap (λ (xs : List (Seat I O)). slice_get xs j) set ∙ set_there a.links k after j apart

        here_is : slice_get b.links k ≡ Some after
        here_is = ap (λ (xs : List (Seat I O)). slice_get xs k) set ∙ set_here a.links k (seat.Open y) after (g.waits k c y off here open_is).is

        alone : (j : ℕ) → (j ≡ k → ⊥) → (d : ℕ) → slice_get conns j ≡ Some (Some d) → c ≡ d → ⊥
        alone j apart d at e = apart (distinct j k d at (here ∙ ap (λ (n : ℕ). Some (Some n)) e))

        not_on : (j : ℕ) → done j ≡ true → slice_get conns j ≡ Some (Some c) → ⊥
        not_on j on at = unlike (done j) (done k) (ap done (distinct j k c at here)) on off

        module _ (now : Net) (roads_at : RoadsAt r now b.road) (conns_same : now.conns ≡ g.made.conns) (listens_same : now.listens ≡ g.made.listens) (waiting_same : now.waiting ≡ g.made.waiting)
            (are : AreRows (rows_flushed g.rows c false (shuts_at k) (sends_at k)) now.traffic)
            (hold : (d : ℕ) (extra : List (List ℕ)) (e : Conn I O) → (c ≡ d → ⊥) → HeldAt i o g.made false extra (held_by (over d)) d false e → HeldAt i o now false extra (held_by (over d)) d false e)
            (stay : (d : ℕ) (q : Bool) (e : Conn I O) → IsElsewhere c false d q → IsEndOf i o w g.made d q e → IsEndOf i o w now d q e)
            (given_here : shuts_at k ≡ true → after ≡ seat.Empty) (kept_here : shuts_at k ≡ false → KeptAt now c y (Some after)) where
          abbrev more : Rows
          more = rows_flushed g.rows c false (shuts_at k) (sends_at k)

          abbrev change : Bool → Row → Row
          change q row = flushes_row false (shuts_at k) (sends_at k) q row

          row_there : (d : ℕ) (q : Bool) → (c ≡ d → ⊥) → more d q ≡ g.rows d q
          row_there d q apart = ap (λ (t : Bool). cond t (change q (g.rows d q)) (g.rows d q)) (differs c d apart)

          row_here : (q : Bool) → more c q ≡ change q (rows_of w c q)
          row_here q = ap (λ (t : Bool). cond t (change q (g.rows c q)) (g.rows c q)) (same-itself c) ∙ ap (change q) (g.early c q not_on)

          late_on : (j d : ℕ) (q : Bool) → slice_get conns j ≡ Some (Some d) → (j ≡ k) ⊎ ((j ≡ k → ⊥) × (done j ≡ true)) → more d q ≡ flushes_row false (shuts_at j) (sends_at j) q (rows_of w d q)
          late_on j d q at (inl e) =
              let same : c ≡ d = same_conn c d (sym here ∙ (sym (ap (slice_get conns) e) ∙ at)) in
              subst (λ (n : ℕ). more d q ≡ flushes_row false (shuts_at n) (sends_at n) q (rows_of w d q)) (sym e)
              (subst (λ (n : ℕ). more n q ≡ change q (rows_of w n q)) same (row_here q))
          late_on j d q at (inr x) = row_there d q (alone j x.0 d at) ∙ g.late j d q x.1 at

          early_on : (d : ℕ) (q : Bool) → ((j : ℕ) → adds k done j ≡ true → slice_get conns j ≡ Some (Some d) → ⊥) → more d q ≡ rows_of w d q
          early_on d q none_on =
              row_there d q (λ e. none_on k (adds_here k done) (here ∙ ap (λ (n : ℕ). Some (Some n)) e))
              ∙ g.early d q (λ j on at. none_on j (adds_on k done j on) at)

          kept_stays : (d : ℕ) (z : Link I O) (x : Option (Seat I O)) → (c ≡ d → ⊥) → KeptAt g.made d z x → KeptAt now d z x
          kept_stays d z x apart t = record { link = t.link; is = t.is; incoming = t.incoming; failed = t.failed; over_is = t.over_is; held = hold d [] t.link.end apart t.held }

          given_on : (j d : ℕ) → shuts_at j ≡ true → slice_get conns j ≡ Some (Some d) → (j ≡ k) ⊎ ((j ≡ k → ⊥) × (done j ≡ true)) → slice_get b.links j ≡ Some seat.Empty
          given_on j d shut at (inl e) = ap (slice_get b.links) e ∙ (here_is ∙ ap Some (given_here (sym (ap shuts_at e) ∙ shut)))
          given_on j d shut at (inr x) = elsewhere j x.0 ∙ g.given j d x.1 shut at

          kept_on : (j d : ℕ) (z : Link I O) → shuts_at j ≡ false → slice_get conns j ≡ Some (Some d) → slice_get sent j ≡ Some (seat.Open z) → (j ≡ k) ⊎ ((j ≡ k → ⊥) × (done j ≡ true)) → KeptAt now d z (slice_get b.links j)
          kept_on j d z keeps at is (inl e) =
              let same : c ≡ d = same_conn c d (sym here ∙ (sym (ap (slice_get conns) e) ∙ at)) in
              let one : y ≡ z = same_link y z (sym open_is ∙ (sym (ap (slice_get sent) e) ∙ is)) in
              subst (λ (n : ℕ). KeptAt now n z (slice_get b.links j)) same
              (subst (λ (l : Link I O). KeptAt now c l (slice_get b.links j)) one
              (subst (λ (x : Option (Seat I O)). KeptAt now c y x) (sym (ap (slice_get b.links) e ∙ here_is)) (kept_here (sym (ap shuts_at e) ∙ keeps))))
            where
              same_link : (p q : Link I O) → ◌≡◌ {A = Option (Seat I O)} (Some (seat.Open p)) (Some (seat.Open q)) → p ≡ q
              same_link p q h = cc
          kept_on j d z keeps at is (inr x) =
              subst (λ (t : Option (Seat I O)). KeptAt now d z t) (sym (elsewhere j x.0)) (kept_stays d z (slice_get a.links j) (alone j x.0 d at) (g.kept j d z x.1 keeps at is))

          waits_on : (j d : ℕ) (z : Link I O) → (j ≡ k → ⊥) × (done j ≡ false) → slice_get conns j ≡ Some (Some d) → slice_get sent j ≡ Some (seat.Open z) → WaitsAt now j d z (slice_get b.links j)
          waits_on j d z x at is =
              let t = g.waits j d z x.1 at is in
              record { is = elsewhere j x.0 ∙ t.is; held = λ works. hold d (texts j) z.end (alone j x.0 d at) (t.held works) }

          flushes_on : Flushing (adds k done) b
          flushes_on = record {
            made = now;
            rows = more;
            roads_at = roads_at;
            conns_are = conns_same ∙ g.conns_are;
            listens_are = listens_same ∙ g.listens_are;
            waiting_are = waiting_same ∙ g.waiting_are;
            are = are;
            early = early_on;
            late = λ j d q on at. late_on j d q at (adds_was k done j on);
            waits = λ j d z wait at is. waits_on j d z (adds_not k done j wait) at is;
            given = λ j d on shut at. given_on j d shut at (adds_was k done j on);
            kept = λ j d z on keeps at is. kept_on j d z keeps at is (adds_was k done j on);
            bare = λ j at. elsewhere j (λ e. no_conn c (sym at ∙ (ap (slice_get conns) e ∙ here))) ∙ g.bare j at;
            none = λ j at. elsewhere j (λ e. no_place c (sym at ∙ (ap (slice_get conns) e ∙ here))) ∙ g.none j at;
            others = λ d q e none_of is. stay d q e (none_of k c here) (g.others d q e none_of is);
          }

        mine : y.failed ≡ false → HeldAt i o g.made false (texts k) (held_by (over c)) c false y.end
        mine works = (g.waits k c y off here open_is).held works

        away : (d : ℕ) (e : Conn I O) → (c ≡ d → ⊥) → e.id.0 ≡ d → IsElsewhere c false e.id.0 e.lower
        away d e apart id = λ q. absurd (apart (q ∙ id))

        -- it is exchanged
        passes_on : shuts_at k ≡ false → y.failed ≡ false → (y' : Link I O) → after ≡ seat.Open y' → Exchanges r i o None y y' a.road b.road (Ok tt) → Flushing (adds k done) b
        passes_on keeps works y' is x =
            let p : Passed r i o g.made false false (texts k) (held_by (over c)) c false b.road y'.end = end_passes r i o g.made false false (texts k) (held_by (over c)) c false a.road b.road y.end y'.end g.roads_at (mine works) (λ t. absurd (true_false (sym t))) x.end in
            let now : Net = exchanged_net g.made c false false false (texts k) in
            flushes_on now p.roads_at refl refl refl
            (subst (λ (s : Bool). AreRows (rows_flushed g.rows c false s (sends_at k)) now.traffic) (sym keeps) (flushed g.rows g.made.traffic c false false (sends_at k) g.are))
            (λ d extra e apart h. record {
              id = h.id;
              side = h.side;
              within = h.within;
              is = (stays-event r i o g.made c false false extra (held_by (over d)) e (away d e apart h.id) h.is).exchanged false false (texts k);
              taking = exchanged-over g.made c false false false (texts k) d false ∙ h.taking;
            })
            (λ d q e there h. (stays r i o w w g.made c false d q e there refl h).exchanged false false (texts k))
            (λ shut. absurd (true_false (sym shut ∙ keeps)))
            (λ z. record { link = y'; is = ap Some is; incoming = x.incoming; failed = x.failed; over_is = x.over; held = p.held })

        -- it is given up
        gives_on : shuts_at k ≡ true → y.failed ≡ false → after ≡ seat.Empty → (gb : GivesBack r i o y.end after a.road b.road) → BringsEnd r i o gb.gives.shut a.road b.road (Ok tt) → Flushing (adds k done) b
        gives_on shut works is gb brings =
            let m : HeldAt i o g.made false (texts k) (held_by (over c)) c false y.end = mine works in
            let e : EndIs i o g.made.traffic true (texts k) (held_by (over c)) gb.gives.shut =
            shut-shows i o g.made.traffic false (texts k) (held_by (over c)) y.end gb.gives.shut gb.gives.kept (record { shut = gb.gives.is_shut; sent = gb.gives.sent; flushed = gb.gives.flushed; lost = gb.gives.lost }) m.is in
            let now : Net = lost_net g.made c false (texts k) in
            flushes_on now (end_brought r i o g.made true (texts k) (held_by (over c)) c false a.road b.road gb.gives.shut g.roads_at (ap (λ (z : ConnId). z.0) gb.gives.kept.id ∙ m.id) (gb.gives.kept.lower ∙ m.side) m.within e brings) refl refl refl
            (subst (λ (s : Bool). AreRows (rows_flushed g.rows c false s (sends_at k)) now.traffic) (sym shut) (lost g.rows g.made.traffic c false (sends_at k) g.are))
            (λ d extra e2 apart h. record {
              id = h.id;
              side = h.side;
              within = h.within;
              is = (stays-event r i o g.made c false false extra (held_by (over d)) e2 (away d e2 apart h.id) h.is).lost (texts k);
              taking = ap (λ (t : Traffic). t.over) (changed-other g.made.traffic c d (given_up false (texts k)) false (differs c d apart)) ∙ h.taking;
            })
            (λ d q e2 there h. (stays r i o w w g.made c false d q e2 there refl h).lost (texts k))
            (λ z. is)
            (λ keeps. absurd (true_false (sym shut ∙ keeps)))

      -- GIVING UP

      -- The places before this one whose connections are shut are done.
      pub record GivingUp (k : ℕ) (held : Held R I O) : Type 0 where
        pub done : ℕ → Bool
        pub state : Flushing done held
        pub before : (j c : ℕ) → j < k → slice_get conns j ≡ Some (Some c) → done j ≡ shuts_at j
        pub behind : (j : ℕ) → k ≤ j → done j ≡ false

      -- One of the ends is lost.
      pub record LostAt (k : ℕ) (held : Held R I O) : Type 0 where
        pub place : ℕ
        pub before : place < k
        pub is : slice_get held.links place ≡ Some seat.Lost

      pub data Stand (k : ℕ) (held : Held R I O) : Type 0 where
        gives : GivingUp k held → Stand k held
        loses : LostAt k held → Stand k held
        rises : HasRisen r conns held.road → Stand k held

      module _ (standings : List Standing) (shuts_are : (j : ℕ) → shuts_at j ≡ not (keeps_at standings j)) (seats : (j c : ℕ) → slice_get conns j ≡ Some (Some c) → (x : Link I O) × ((y : Link I O) × ((slice_get sent j ≡ Some (seat.Open y)) × SentAt i o w net (texts j) c x y))) where
        module _ (k : ℕ) (a b : Held R I O) (at : IsAt (λ x y. Settles r i o (keeps_at standings k) x y a.road b.road) k a.links b.links) where
          lost_on : LostAt k a → Stand (suc k) b
          lost_on l = loses (record {
            place = l.place;
            before = (let h = l.before in omega (arith, h));
            is = ap (λ (xs : List (Seat I O)). slice_get xs l.place) at.stands ∙ (set_there a.links k at.after l.place (λ e. let h = l.before in omega (arith, h, e)) ∙ l.is);
          })

          risen_on : HasRisen r conns a.road → Stand (suc k) b
          risen_on h = rises (record { place = h.place; conn = h.conn; stands = h.stands; rose = settles_risen (keeps_at standings k) at.before at.after a.road b.road h.conn at.is h.rose })

          -- nothing is given up there
          idle : (g : GivingUp k a) → b.road ≡ a.road → at.after ≡ at.before → ((c : ℕ) → slice_get conns k ≡ Some (Some c) → shuts_at k ≡ false) → Stand (suc k) b
          idle g road same none = gives (record {
            done = g.done;
            state = stays_so g.done a b road (λ j. ap (λ (xs : List (Seat I O)). slice_get xs j) at.stands ∙ set_same a.links k at.before at.after at.stood same j) g.state;
            before = λ j c lt here. by j c here (before_or j k lt);
            behind = λ j le. g.behind j (omega (arith, le));
          })
            where
              by : (j c : ℕ) → slice_get conns j ≡ Some (Some c) → (j ≡ k) ⊎ (j < k) → g.done j ≡ shuts_at j
              by j c here (inl e) =
                  ap g.done e ∙ (g.behind k (omega arith) ∙ (sym (none c (sym (ap (slice_get conns) e) ∙ here)) ∙ sym (ap shuts_at e)))
              by j c here (inr lt) = g.before j c lt here

          -- the connection there is given up
          module _ (g : GivingUp k a) (c : ℕ) (x y : Link I O) (here : slice_get conns k ≡ Some (Some c)) (open_is : slice_get sent k ≡ Some (seat.Open y)) (s : SentAt i o w net (texts k) c x y) (shut : shuts_at k ≡ true) (gb : GivesBack r i o y.end at.after a.road b.road) where
            off : g.done k ≡ false
            off = g.behind k (omega arith)

            after_on : Flushing (adds k g.done) b → Stand (suc k) b
            after_on f = gives (record {
              done = adds k g.done;
              state = f;
              before = λ j d lt at_j. by j d at_j (before_or j k lt);
              behind = λ j le. adds_there k g.done j (λ e. omega (arith, le, e)) ∙ g.behind j (omega (arith, le));
            })
              where
                by : (j d : ℕ) → slice_get conns j ≡ Some (Some d) → (j ≡ k) ⊎ (j < k) → adds k g.done j ≡ shuts_at j
                by j d at_j (inl e) = ap (adds k g.done) e ∙ (adds_here k g.done ∙ (sym shut ∙ sym (ap shuts_at e)))
                by j d at_j (inr lt) = adds_there k g.done j (λ e. omega (arith, lt, e)) ∙ g.before j d lt at_j

            brought : at.after ≡ seat.Empty → BringsEnd r i o gb.gives.shut a.road b.road (Ok tt) → (f : Bool) → y.failed ≡ f → Stand (suc k) b
            brought is brings false works = after_on (gives_on g.done k c y here open_is off a b at.after at.stands g.state shut works is gb brings)
            brought is brings true fails =
                let q = s.rose fails in
                let failed : has_failed i o gb.gives.shut ≡ true = out_failed i o q.0 gb.gives.shut (still_risen q.0 (o.faults y.end.outward) (o.faults gb.gives.shut.outward) q.1 gb.gives.never_falls) in
                rises (record {
                  place = k;
                  conn = c;
                  stands = here;
                  rose = subst (λ (n : ℕ). r.risen b.road n ≡ true) (ap (λ (z : ConnId). z.0) gb.gives.kept.id ∙ s.id) (one_risen r i o gb.gives.shut a.road b.road brings failed);
                })

            given_by : (z : Result (Unit {0}) RoadError) → gb.gives.result ≡ z → Stand (suc k) b
            given_by (Ok u) e = brought (gb.place_is ∙ ap place_after e) (subst (λ z. BringsEnd r i o gb.gives.shut a.road b.road z) e gb.gives.brings) y.failed refl
            given_by (Err why) e = loses (record {
              place = k;
              before = omega arith;
              is = ap (λ (xs : List (Seat I O)). slice_get xs k) at.stands ∙ (set_here a.links k at.before at.after at.stood ∙ ap Some (gb.place_is ∙ ap place_after e));
            })

          by_keeps : (g : GivingUp k a) (c : ℕ) (x y : Link I O) → slice_get conns k ≡ Some (Some c) → slice_get sent k ≡ Some (seat.Open y) → SentAt i o w net (texts k) c x y → (q : Bool) → keeps_at standings k ≡ q → Settles r i o q (seat.Open y) at.after a.road b.road → at.before ≡ seat.Open y → Stand (suc k) b
          by_keeps g c x y here open_is s true keeps is before = idle g is.1 (is.0 ∙ sym before) (λ d h. shuts_are k ∙ ap not keeps)
          by_keeps g c x y here open_is s false keeps is before = given_by g c x y here open_is s (shuts_are k ∙ ap not keeps) is is.gives.result refl

          bare_by : (g : GivingUp k a) (q : Bool) → at.before ≡ seat.Empty → slice_get conns k ≡ Some None → Settles r i o q at.before at.after a.road b.road → Stand (suc k) b
          bare_by g true empty here is = idle g is.1 is.0 (λ c h. absurd (no_conn c (sym here ∙ h)))
          bare_by g false empty here is =
              let s = subst (λ (z : Seat I O). Settles r i o false z at.after a.road b.road) empty is in
              idle g s.1 (s.0 ∙ sym empty) (λ c h. absurd (no_conn c (sym here ∙ h)))

          by_conn : (g : GivingUp k a) (q : Option (Option ℕ)) → slice_get conns k ≡ q → Stand (suc k) b
          by_conn g (Some (Some c)) here =
              let t = seats k c here in
              let stood : at.before ≡ seat.Open t.1.0 = some_same at.before (seat.Open t.1.0) (sym at.stood ∙ (g.state.waits k c t.1.0 (g.behind k (omega arith)) here t.1.1.0).is) in
              by_keeps g c t.0 t.1.0 here t.1.1.0 t.1.1.1 (keeps_at standings k) refl (subst (λ (z : Seat I O). Settles r i o (keeps_at standings k) z at.after a.road b.road) stood at.is) stood
          by_conn g (Some None) here = bare_by g (keeps_at standings k) (some_same at.before seat.Empty (sym at.stood ∙ g.state.bare k here)) here at.is
          by_conn g None here = absurd (none_some (slice_get a.links k) at.before (g.state.none k here) at.stood)

          one_on : Stand k a → Stand (suc k) b
          one_on (gives g) = by_conn g (slice_get conns k) refl
          one_on (loses l) = lost_on l
          one_on (rises h) = risen_on h

        all_on : (k : ℕ) (a b : Held R I O) → Passes (SettlesAt r i o standings) k a b → Stand 0 a → Stand k b
        all_on zero a b e s = subst (λ (h : Held R I O). Stand 0 h) (sym e) s
        all_on (suc k) a b q s = one_on k q.0 b q.1.1 (all_on k a q.0 q.1.0 s)

        -- Each connection was given up that is shut, or an end is lost, or one is brought back that had failed.
        pub settled : (links' : List (Seat I O)) (road road' : R) → Flushing (λ j. false) (record { links = sent; road = road }) → SettlesAll r i o standings sent links' road road' → Stand (length sent) (record { links = links'; road = road' })
        settled links' road road' start s =
            all_on (length sent) (record { links = sent; road = road }) (record { links = links'; road = road' }) s
            (gives (record { done = λ j. false; state = start; before = λ j c lt at. absurd (omega (arith, lt)); behind = λ j le. refl }))

      -- EXCHANGING

      -- The places before this one are done, and those whose connections were shut.
      pub record Exchanging (k : ℕ) (held : Held R I O) : Type 0 where
        pub done : ℕ → Bool
        pub state : Flushing done held
        pub before : (j c : ℕ) → j < k → slice_get conns j ≡ Some (Some c) → done j ≡ true
        pub behind : (j c : ℕ) → k ≤ j → slice_get conns j ≡ Some (Some c) → done j ≡ shuts_at j

      module _ (seats : (j c : ℕ) → slice_get conns j ≡ Some (Some c) → (y : Link I O) × ((slice_get sent j ≡ Some (seat.Open y)) × (shuts_at j ≡ false → y.failed ≡ false))) where
        module _ (k : ℕ) (a b : Held R I O) (at : IsAt (λ x y. ExchangesLink r i o None x y a.road b.road (Ok tt)) k a.links b.links) (g : Exchanging k a) where
          -- nothing is exchanged there
          rests : b.road ≡ a.road → at.after ≡ at.before → ((c : ℕ) → slice_get conns k ≡ Some (Some c) → g.done k ≡ true) → Exchanging (suc k) b
          rests road same on = record {
            done = g.done;
            state = stays_so g.done a b road (λ j. ap (λ (xs : List (Seat I O)). slice_get xs j) at.stands ∙ set_same a.links k at.before at.after at.stood same j) g.state;
            before = λ j c lt here. by j c here (before_or j k lt);
            behind = λ j c le here. g.behind j c (omega (arith, le)) here;
          }
            where
              by : (j c : ℕ) → slice_get conns j ≡ Some (Some c) → (j ≡ k) ⊎ (j < k) → g.done j ≡ true
              by j c here (inl e) = ap g.done e ∙ on c (sym (ap (slice_get conns) e) ∙ here)
              by j c here (inr lt) = g.before j c lt here

          empty_by : (x y : Seat I O) → x ≡ seat.Empty → ExchangesLink r i o None x y a.road b.road (Ok tt) → (y ≡ x) × (b.road ≡ a.road)
          empty_by seat.Empty seat.Empty e x = (refl, x.0)
          empty_by seat.Empty (seat.Open l) e x = absurd x
          empty_by seat.Empty seat.Lost e x = absurd x
          empty_by seat.Lost y e x = cc
          empty_by (seat.Open l) y e x = cc

          exchanged_there : (c : ℕ) (y : Link I O) → slice_get conns k ≡ Some (Some c) → slice_get sent k ≡ Some (seat.Open y) → shuts_at k ≡ false → y.failed ≡ false → g.done k ≡ false → (z : Seat I O) → at.after ≡ z → ExchangesLink r i o None (seat.Open y) z a.road b.road (Ok tt) → Exchanging (suc k) b
          exchanged_there c y here open_is keeps works off (seat.Open y') is x = record {
            done = adds k g.done;
            state = passes_on g.done k c y here open_is off a b at.after at.stands g.state keeps works y' is x;
            before = λ j d lt at_j. by j d at_j (before_or j k lt);
            behind = λ j d le at_j. adds_there k g.done j (λ e. omega (arith, le, e)) ∙ g.behind j d (omega (arith, le)) at_j;
          }
            where
              by : (j d : ℕ) → slice_get conns j ≡ Some (Some d) → (j ≡ k) ⊎ (j < k) → adds k g.done j ≡ true
              by j d at_j (inl e) = ap (adds k g.done) e ∙ adds_here k g.done
              by j d at_j (inr lt) = adds_on k g.done j (g.before j d lt at_j)
          exchanged_there c y here open_is keeps works off seat.Empty is x = absurd x
          exchanged_there c y here open_is keeps works off seat.Lost is x = absurd x

          by_shut : (c : ℕ) (y : Link I O) → slice_get conns k ≡ Some (Some c) → slice_get sent k ≡ Some (seat.Open y) → (shuts_at k ≡ false → y.failed ≡ false) → (q : Bool) → shuts_at k ≡ q → Exchanging (suc k) b
          by_shut c y here open_is works true shut =
              let on : g.done k ≡ true = g.behind k c (omega arith) here ∙ shut in
              let e = empty_by at.before at.after (some_same at.before seat.Empty (sym at.stood ∙ g.state.given k c on shut here)) at.is in
              rests e.1 e.0 (λ d h. on)
          by_shut c y here open_is works false keeps =
              let off : g.done k ≡ false = g.behind k c (omega arith) here ∙ keeps in
              let stood : at.before ≡ seat.Open y = some_same at.before (seat.Open y) (sym at.stood ∙ (g.state.waits k c y off here open_is).is) in
              exchanged_there c y here open_is keeps (works keeps) off at.after refl (subst (λ (z : Seat I O). ExchangesLink r i o None z at.after a.road b.road (Ok tt)) stood at.is)

          passes_by : (q : Option (Option ℕ)) → slice_get conns k ≡ q → Exchanging (suc k) b
          passes_by (Some (Some c)) here = let t = seats k c here in by_shut c t.0 here t.1.0 t.1.1 (shuts_at k) refl
          passes_by (Some None) here =
              let e = empty_by at.before at.after (some_same at.before seat.Empty (sym at.stood ∙ g.state.bare k here)) at.is in
              rests e.1 e.0 (λ c h. absurd (no_conn c (sym here ∙ h)))
          passes_by None here = absurd (none_some (slice_get a.links k) at.before (g.state.none k here) at.stood)

        all_pass : (k : ℕ) (a b : Held R I O) → Passes (ExchangesAt r i o None (Ok tt)) k a b → Exchanging 0 a → Exchanging k b
        all_pass zero a b e s = subst (λ (h : Held R I O). Exchanging 0 h) (sym e) s
        all_pass (suc k) a b q s = passes_by k q.0 b q.1.1 (all_pass k a q.0 q.1.0 s) (slice_get conns k) refl

        -- All connections were exchanged that weren't shut.
        pub exchanged : (links links' : List (Seat I O)) (road road' : R) → Exchanging 0 (record { links = links; road = road }) → (x : ExchangesAll r i o None links links' road road' (Ok tt)) → Exchanging x.count (record { links = links'; road = road' })
        exchanged links links' road road' start x =
            subst (λ (h : Held R I O). Exchanging x.count h) (sym x.ends.0) (all_pass x.count (record { links = links; road = road }) x.middle x.passes start)
