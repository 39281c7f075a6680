-- What a cut makes of one direction, of all, and of the ends.
use Rattle.std.proofs.Common.{◌≡◌, ℕ, ◌+◌, ◌≤◌, ◌<◌, Bool, true, false, List, [], ◌∷◌, ◌++◌, length, eqb-true, take, drop, Option, Some, None, IfSome, refl, sym, ap, ◌∙◌, subst, arith, zero, suc}
use Rattle.std.specs.Prelude.{◌==◌, not, cond, min, option_map, nat_lt, if◌then◌else◌}
use Rattle.std.proofs.lemmas.Bool.Decides.{nat_tests}
use Rattle.std.proofs.lemmas.List.{length-map, take_min, drop-take}
use Rattle.hd_base.specs.Channels.{Plain}
use Rattle.hd_base.specs.declared.links.LinkIn as link_in
use Rattle.hd_base.specs.declared.links.LinkOut as link_out
use Rattle.hd_base.specs.declared.numbers.ConnId.{ConnId}
use Rattle.hd_base.specs.declared.roads.Roads as roads
use Rattle.hd_base.specs.Lists.{joined}
use Rattle.fault_ports.specs.Cuts.{cut_channel, with_cut}
use Rattle.road_traffic.specs.Showing.{Net, IsSane, RoadsShow}
use Rattle.road_traffic.specs.Traffic.{Traffic, Traffics, before_end, channel_of, carried_of, Fits, changed}
use Rattle.road_traffic.proofs.TrafficLemmas.{each-traffic, same-itself}
use Rattle.world_nets.specs.World.Direction.TheVariants as direction
use Rattle.world_nets.specs.World.Event.{Event}
use Rattle.world_nets.specs.World.Event.TheVariants as event
use Rattle.world_nets.specs.World.Connections.{lesser, lost_marks}
use Rattle.world_nets.specs.World.Events.{happens, outcome, where_so, lost, after_event}
use Rattle.world_nets.specs.World.Parts.{Message, Marks}
use Rattle.world_nets.specs.World.Worlds.{World, put}
use Rattle.world_nets.specs.Rows.{Row, rows_of, text_of}
use Rattle.world_nets.specs.Nets.{IsRow, AreRows, IsNetOf, held_by, is_over}
use Rattle.world_cuts.specs.Cutting.{cut_traffic, cut_direction, cut_net, RoadsCut, CutsRoads, CutsShow, cut_world, IsCut, CutsNet, EndsStayInCuts}

-- ONE DIRECTION

take_twice : (a n : ℕ) (xs : List (List ℕ)) → take (min a n) xs ≡ take a (take n xs)
take_twice zero n xs = let on : min zero n ≡ zero = omega arith in ap (λ k. take k xs) on
take_twice (suc a) zero xs = let on : min (suc a) zero ≡ zero = omega arith in ap (λ k. take k xs) on
take_twice (suc a) (suc n) [] = let on : min (suc a) (suc n) ≡ suc (min a n) = omega arith in ap (λ k. take k []) on
take_twice (suc a) (suc n) (x ∷ xs) = let on : min (suc a) (suc n) ≡ suc (min a n) = omega arith in ap (λ k. take k (x ∷ xs)) on ∙ ap (λ l. x ∷ l) (take_twice a n xs)

-- what arrives of a direction that is cut
arrives : (sent : List (List ℕ)) (taken more : ℕ) (end : Option ℕ) → take (lesser (min (taken + more) (length sent)) end) sent ≡ take (taken + more) (before_end end sent)
arrives sent taken more None = take_min (taken + more) sent
arrives sent taken more (Some n) =
    let on : min (min (taken + more) (length sent)) n ≡ min (min (taken + more) n) (length sent) = omega arith in
    ap (λ k. take k sent) on ∙ (take_min (min (taken + more) n) sent ∙ take_twice (taken + more) n sent)

cut_way : (sent : List (List ℕ)) (taken more : ℕ) (end : Option ℕ) → drop taken (take (lesser (min (taken + more) (length sent)) end) sent) ≡ take more (drop taken (before_end end sent))
cut_way sent taken more end = ap (drop taken) (arrives sent taken more end) ∙ drop-take taken more (before_end end sent)

channel_cut : (more : ℕ) (t : Traffic) → cut_channel more (channel_of t) ≡ channel_of (cut_traffic more t)
channel_cut more t = ap (λ (l : List (List ℕ)). record { pieces = l; ended = true }) (sym (cut_way t.sent t.taken more t.end))

ends_fit : (end : Option ℕ) (taken more count : ℕ) → taken ≤ count → IfSome end (λ n. (taken ≤ n) × (n ≤ count)) → (taken ≤ lesser (min (taken + more) count) end) × (lesser (min (taken + more) count) end ≤ count)
ends_fit None taken more count f h = (omega (arith, f), omega arith)
ends_fit (Some n) taken more count f h = (omega (arith, f, h.0), omega (arith, h.1))

fits_cut : (more : ℕ) (t : Traffic) → Fits t → Fits (cut_traffic more t)
fits_cut more t f = record { taken = f.taken; end = ends_fit t.end t.taken more (length t.sent) f.taken f.end }

row_cut : (sent : List Message) (k : Marks) (more : ℕ) (t : Traffic) → IsRow (record { sent = sent; marks = k }) t → IsRow (record { sent = sent; marks = lost_marks sent more k }) (cut_traffic more t)
row_cut sent k more t is = record {
  sent = is.sent;
  taken = is.taken;
  end = λ taking. ap Some (
      ap (λ e. lesser (min (t.taken + more) (length t.sent)) e) (is.end taking) ∙
      (ap (λ n. lesser (min (n + more) (length t.sent)) k.end) (is.taken taking) ∙
      ap (λ n. lesser (min (k.taken + more) n) k.end) (ap length is.sent ∙ length-map sent text_of)));
}

-- ROADS

module _ {R I O : Type 0} (r : roads.Ghosts R I O) (net : Net) (c down up : ℕ) (road road' : R) (cuts : CutsRoads r c down up road road') (sane : IsSane net) (shows : RoadsShow r net road) (within : c < net.conns) where
  -- a connection that was dialled isn't one that wasn't
  elsewhere : (d : ℕ) → net.conns ≤ d → (c == d) ≡ false
  elsewhere d h = grind (arith, nat_tests, within, h)

  fresh_cut : (d : ℕ) (way : Bool) → net.conns ≤ d → changed net.traffic c (cut_direction down up) d way ≡ net.traffic d way
  unfolding changed
  fresh_cut d way h = rw (elsewhere d h) refl

  sane_cut : IsSane (cut_net net c down up)
  sane_cut = record {
    fits = each-traffic net.traffic c (cut_direction down up) (λ d way t. Fits t) (λ way. fits_cut (cond way down up) (net.traffic c way) (sane.fits c way)) (λ d way other. sane.fits d way);
    fresh = λ d way h. fresh_cut d way h ∙ sane.fresh d way h;
  }

  abbrev plain' : Plain
  plain' = with_cut shows.plain c down up

  channels_cut : (d : ℕ) (way : Bool) → (changed net.traffic c (cut_direction down up) d way).over ≡ false → plain'.channels d way ≡ channel_of (changed net.traffic c (cut_direction down up) d way)
  channels_cut = each-traffic net.traffic c (cut_direction down up) (λ d way t. t.over ≡ false → plain'.channels d way ≡ channel_of t)
      (λ way o. rw (same-itself c) (ap (cut_channel (cond way down up)) (shows.holds.channels c way o) ∙ channel_cut (cond way down up) (net.traffic c way)))
      (λ d way other o. rw other (shows.holds.channels d way o))

  carried_cut : carried_of net.traffic ≡ carried_of (changed net.traffic c (cut_direction down up))
  carried_cut = λ i d way. each-traffic net.traffic c (cut_direction down up) (λ d way t. joined (net.traffic d way).sent ≡ joined t.sent) (λ way. refl) (λ d way other. refl) d way i

  pub roads_cut : RoadsCut r (cut_net net c down up) road'
  roads_cut = record {
    sane = sane_cut;
    shows = record {
      plain = plain';
      is = cuts.plain ∙ ap (option_map (λ p. with_cut p c down up)) shows.is;
      holds = record {
        dialled = shows.holds.dialled;
        listening = shows.holds.listening;
        waiting = shows.holds.waiting;
        channels = channels_cut;
      };
      carried = cuts.carried ∙ (shows.carried ∙ (ap (λ k. option_map (λ _. k) (r.carried road)) carried_cut ∙ ap (option_map (λ _. carried_of (changed net.traffic c (cut_direction down up)))) (sym cuts.carried)));
    };
  }

pub all_cut : (R I O : Type 0) (r : roads.Ghosts R I O) → CutsShow R I O r
all_cut R I O r net c down up road road' cuts sane shows within = roads_cut r net c down up road road' cuts sane shows within

-- WORLDS

below_so : (a b : ℕ) → a < b → nat_lt a b ≡ true
below_so a b h = grind (arith, nat_tests, h)

lost_so : (w : World) (e : Event) (v : World) (so : Bool) → so ≡ true → after_event w e (where_so so v) ≡ record v { last = Some e }
lost_so w e v true is = refl
lost_so w e v false is = cc

lost_down : (w : World) (conn : ConnId) (more : ℕ) → conn.0 < w.next_conn → happens w (event.Lost conn direction.Down more) ≡ record (lost w conn.0 direction.Down more) { last = Some (event.Lost conn direction.Down more) }
unfolding happens outcome
lost_down w conn more within = lost_so w (event.Lost conn direction.Down more) (lost w conn.0 direction.Down more) (nat_lt conn.0 w.next_conn) (below_so conn.0 w.next_conn within)

lost_up : (w : World) (conn : ConnId) (more : ℕ) → conn.0 < w.next_conn → happens w (event.Lost conn direction.Up more) ≡ record (lost w conn.0 direction.Up more) { last = Some (event.Lost conn direction.Up more) }
unfolding happens outcome
lost_up w conn more within = lost_so w (event.Lost conn direction.Up more) (lost w conn.0 direction.Up more) (nat_lt conn.0 w.next_conn) (below_so conn.0 w.next_conn within)

module _ (w : World) (net : Net) (conn : ConnId) (down up : ℕ) (within : conn.0 < w.next_conn) where
  abbrev middle : World
  middle = record (lost w conn.0 direction.Down down) { last = Some (event.Lost conn direction.Down down) }

  abbrev left : World
  left = record (lost middle conn.0 direction.Up up) { last = Some (event.Lost conn direction.Up up) }

  left_so : cut_world w conn down up ≡ left
  left_so = ap (λ (v : World). happens v (event.Lost conn direction.Up up)) (lost_down w conn down within) ∙ lost_up middle conn up within

  same_there : (a b : ℕ) → (a == b) ≡ false → (b == a) ≡ false
  same_there a b h = grind (arith, nat_tests, h)

  row_here : (d : Bool) → IsRow (rows_of w conn.0 d) (net.traffic conn.0 d) → IsRow (rows_of left conn.0 d) (cut_direction down up d (net.traffic conn.0 d))
  row_here true is = rw (same-itself conn.0) (row_cut (w.downs conn.0) (w.down_marks conn.0) down (net.traffic conn.0 true) is)
  row_here false is = rw (same-itself conn.0) (row_cut (w.ups conn.0) (w.up_marks conn.0) up (net.traffic conn.0 false) is)

  rows_there : (c : ℕ) (d : Bool) → (conn.0 == c) ≡ false → rows_of left c d ≡ rows_of w c d
  rows_there c true other = rw (same_there conn.0 c other) refl
  rows_there c false other = rw (same_there conn.0 c other) refl

  rows_left : AreRows (rows_of w) net.traffic → AreRows (rows_of left) (changed net.traffic conn.0 (cut_direction down up))
  rows_left are = each-traffic net.traffic conn.0 (cut_direction down up) (λ c d t. IsRow (rows_of left c d) t)
      (λ d. row_here d (are conn.0 d))
      (λ c d other. subst (λ (row : Row). IsRow row (net.traffic c d)) (sym (rows_there c d other)) (are c d))

  apart : (c : ℕ) → w.next_conn ≤ c → (conn.0 == c) ≡ false
  apart c h = grind (arith, nat_tests, within, h)

  net_left : IsNetOf w net → IsNetOf left (cut_net net conn.0 down up)
  net_left is = record {
    conns = is.conns;
    listens = is.listens;
    waiting = is.waiting;
    rows_are = rows_left is.rows_are;
    none_over = λ c d h. ap (λ (row : Row). row.marks.over) (rows_there c d (apart c h)) ∙ is.none_over c d h;
  }

  pub net_cut : CutsNet w (cut_world w conn down up) net conn.0 down up
  net_cut = subst (λ (v : World). CutsNet w v net conn.0 down up) (sym left_so) (record { is = record { is = refl }; net_is = net_left })

-- ENDS

put_over : (f : ℕ → Marks) (c : ℕ) (m : Marks) (d : ℕ) → m.over ≡ (f c).over → (put f c m d).over ≡ (f d).over
put_over f c m d same =
    elim (d == c) as (λ b. (d == c) ≡ b → (if b then m else f d).over ≡ (f d).over) [
      | true ↦ λ e. same ∙ ap (λ n. (f n).over) (sym (eqb-true d c e))
      | false ↦ λ e. refl
    ] refl

pub over_cut : (w v : World) (c down up d : ℕ) (lower : Bool) → IsCut w v c down up → is_over v d lower ≡ is_over w d lower
over_cut w v c down up d true cut = ap (λ (k : World). (k.down_marks d).over) cut.is ∙ put_over w.down_marks c (lost_marks (w.downs c) down (w.down_marks c)) d refl
over_cut w v c down up d false cut = ap (λ (k : World). (k.up_marks d).over) cut.is ∙ put_over w.up_marks c (lost_marks (w.ups c) up (w.up_marks c)) d refl

module _ (traffic : Traffics) (c down up : ℕ) where
  abbrev cuts : Traffics
  cuts = changed traffic c (cut_direction down up)

  sent_same : (d : ℕ) (way : Bool) → (cuts d way).sent ≡ (traffic d way).sent
  sent_same = each-traffic traffic c (cut_direction down up) (λ d way t. t.sent ≡ (traffic d way).sent) (λ way. refl) (λ d way other. refl)

  taker_same : (d : ℕ) (way : Bool) → (cuts d way).over ≡ (traffic d way).over
  taker_same = each-traffic traffic c (cut_direction down up) (λ d way t. t.over ≡ (traffic d way).over) (λ way. refl) (λ d way other. refl)

  some_none : {A : Type 0} {x : A} (P : Type 0) → Some x ≡ None → P
  some_none P e = cc

  end_before : (d : ℕ) (way : Bool) → (cuts d way).end ≡ None → (traffic d way).end ≡ None
  end_before = each-traffic traffic c (cut_direction down up) (λ d way t. t.end ≡ None → (traffic d way).end ≡ None) (λ way e. some_none _ e) (λ d way other e. e)

pub ends_cut : {I O : Type 0} (i : link_in.Ghosts I) (o : link_out.Ghosts O) → EndsStayInCuts i o
ends_cut i o w v net c down up d lower end cut e = record {
  id = e.id;
  side = e.side;
  within = e.within;
  is = record {
    sent = e.is.sent ∙ ap (λ (ms : List (List ℕ)). Some (ms ++ [])) (sym (sent_same net.traffic c down up end.id.0 (not end.lower)));
    flushed = e.is.flushed ∙ ap length (sym (sent_same net.traffic c down up end.id.0 (not end.lower)));
    held = e.is.held ∙ ap (λ b. Some (held_by b)) (sym (over_cut w v c down up d lower cut));
    outward = λ none. e.is.outward (end_before net.traffic c down up end.id.0 (not end.lower) none);
    inward = λ none. e.is.inward (end_before net.traffic c down up end.id.0 end.lower none);
  };
  taking = taker_same net.traffic c down up d lower ∙ e.taking;
}
