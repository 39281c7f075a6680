-- What a stop makes of all connections and of the ends.
use Rattle.std.proofs.Common.{◌≡◌, ℕ, ◌+◌, ◌≤◌, ◌<◌, Bool, true, false, List, [], ◌∷◌, length, Option, Some, None, refl, sym, ap, subst, ◌∙◌, arith, eqb-true}
use Rattle.std.specs.Prelude.{◌==◌, ◌||◌, cond, min, nat_lt, not, unwrap_or, IsSome, if◌then◌else◌}
use Rattle.std.proofs.lemmas.Bool.Decides.{nat_tests}
use Rattle.std.proofs.lemmas.List.{append-nil, length-map}
use Rattle.hd_base.specs.Channels.{same_direction}
use Rattle.hd_base.specs.declared.links.LinkIn as link_in
use Rattle.hd_base.specs.declared.links.LinkOut as link_out
use Rattle.hd_base.specs.declared.numbers.ConnId.{ConnId}
use Rattle.hd_base.specs.declared.numbers.NodeId.{NodeId}
use Rattle.hd_base.specs.declared.roads.TheConstants.{FIRST_PORT}
use Rattle.road_traffic.specs.Showing.{Net, IsSane, EndIs, flushed_net}
use Rattle.road_traffic.specs.Traffic.{Traffic, Fits, more, closes_if, flushes}
use Rattle.road_traffic.proofs.TrafficLemmas.{each-traffic, same-itself}
use Rattle.world_laws.specs.World.Event.{Event}
use Rattle.world_laws.specs.World.Event.TheVariants as event
use Rattle.world_laws.specs.World.Connections.{lesser, lost_marks, stopped_marks, is_of_node, touches}
use Rattle.world_laws.specs.World.Events.{happens, outcome, after_event, where_so, stop}
use Rattle.world_laws.specs.World.Parts.{Message, Marks}
use Rattle.world_laws.specs.World.Worlds.{World, put}
use Rattle.world_cuts.specs.Cutting.{cut_world, IsCut, CutsAreLosses}
use Rattle.world_laws.proofs.FactTables.{and-left}
use Rattle.world_cuts.specs.WorldNets.Nets.{IsRow, AreRows, IsNetOf, held_by, is_over}
use Rattle.world_cuts.specs.WorldNets.Rows.{Row, rows_of, text_of}
use Rattle.world_cuts.specs.WorldNets.Steps.{LossesAreNets}
use Rattle.world_stops.specs.Stopping.{all_cut, is_among, AreOfNode, StopsNet, StopsAreCuts, HasEnded, StopsEnd, EndedStay}

-- CUTS

-- the marks of a connection that was cut, or wasn't
abbrev cut_if : Bool → List Message → Marks → Marks
cut_if true sent k = lost_marks sent 0 k
cut_if false sent k = k

twice : (a : ℕ) (end : Option ℕ) → lesser a (Some (lesser a end)) ≡ lesser a end
twice a None = omega arith
twice a (Some n) = omega arith

cut_twice : (b : Bool) (sent : List Message) (k : Marks) → cut_if b sent (lost_marks sent 0 k) ≡ lost_marks sent 0 k
cut_twice true sent k = ap (λ n. let x : Marks = record { taken = k.taken; end = Some n; over = k.over } in x) (twice (min (k.taken + 0) (length sent)) k.end)
cut_twice false sent k = refl

-- What the cuts leave as it was.
record CutsKeep (w v : World) : Type 0 where
  next_conn : v.next_conn ≡ w.next_conn
  running : v.running ≡ w.running
  downs : v.downs ≡ w.downs
  ups : v.ups ≡ w.ups

one_kept : (w v : World) (c down up : ℕ) → IsCut w v c down up → CutsKeep w v
one_kept w v c down up cut = record {
  next_conn = ap (λ (x : World). x.next_conn) cut.is;
  running = ap (λ (x : World). x.running) cut.is;
  downs = ap (λ (x : World). x.downs) cut.is;
  ups = ap (λ (x : World). x.ups) cut.is;
}

-- All these connections were dialled.
abbrev AreBelow : World → List ConnId → Type 0
AreBelow w conns = (c : ℕ) → is_among conns c ≡ true → c < w.next_conn

or_there : (a b : Bool) → b ≡ true → (a || b) ≡ true
or_there true b e = refl
or_there false b e = e

or_here : (a b : Bool) → a ≡ true → (a || b) ≡ true
or_here true b e = refl
or_here false b e = cc

tail_below : (w v : World) (c : ConnId) (conns : List ConnId) → v.next_conn ≡ w.next_conn → AreBelow w (c ∷ conns) → AreBelow v conns
tail_below w v c conns same below d among = omega (arith, same, below d (or_there (c.0 == d) (is_among conns d) among))

first_below : (w : World) (c : ConnId) (conns : List ConnId) → AreBelow w (c ∷ conns) → c.0 < w.next_conn
first_below w c conns below = below c.0 (or_here (c.0 == c.0) (is_among conns c.0) (same-itself c.0))

-- What the cuts make of one direction.
cut_marks : (sent : List Message) (marks : ℕ → Marks) (c d : ℕ) (rest : Bool) → cut_if rest sent (if d == c then lost_marks sent 0 (marks d) else marks d) ≡ cut_if ((c == d) || rest) sent (marks d)
cut_marks sent marks c d rest = by (d == c) refl where
  by : (b : Bool) → (d == c) ≡ b → cut_if rest sent (if b then lost_marks sent 0 (marks d) else marks d) ≡ cut_if ((c == d) || rest) sent (marks d)
  by true e =
      let here : (c == d) ≡ true = grind (arith, nat_tests, e) in
      cut_twice rest sent (marks d) ∙ sym (ap (λ b. cut_if b sent (marks d)) (or_here (c == d) rest here))
  by false e =
      let there : (c == d) ≡ false = grind (arith, nat_tests, e) in
      sym (ap (λ b. cut_if (b || rest) sent (marks d)) there)

put_at : (f : ℕ → Marks) (sents : ℕ → List Message) (c d : ℕ) → put f c (lost_marks (sents c) 0 (f c)) d ≡ (if d == c then lost_marks (sents d) 0 (f d) else f d)
put_at f sents c d = by (d == c) refl where
  by : (b : Bool) → (d == c) ≡ b → (if b then lost_marks (sents c) 0 (f c) else f d) ≡ (if b then lost_marks (sents d) 0 (f d) else f d)
  by true e = ap (λ n. lost_marks (sents n) 0 (f n)) (sym (eqb-true d c e))
  by false e = refl

module _ (cuts : CutsAreLosses) (net : Net) where
  cut_is : (w : World) (c : ConnId) → c.0 < w.next_conn → IsCut w (cut_world w c 0 0) c.0 0 0
  cut_is w c below = (cuts w net c 0 0 below).is

  all_kept : (w : World) (conns : List ConnId) → AreBelow w conns → CutsKeep w (all_cut w conns)
  all_kept w [] below = record { next_conn = refl; running = refl; downs = refl; ups = refl }
  all_kept w (c ∷ conns) below =
      let v = cut_world w c 0 0 in
      let one = one_kept w v c.0 0 0 (cut_is w c (first_below w c conns below)) in
      let rest = all_kept v conns (tail_below w v c conns one.next_conn below) in
      record {
        next_conn = rest.next_conn ∙ one.next_conn;
        running = rest.running ∙ one.running;
        downs = rest.downs ∙ one.downs;
        ups = rest.ups ∙ one.ups;
      }

  downs_cut : (w : World) (conns : List ConnId) → AreBelow w conns → (d : ℕ) → (all_cut w conns).down_marks d ≡ cut_if (is_among conns d) (w.downs d) (w.down_marks d)
  downs_cut w [] below d = refl
  downs_cut w (c ∷ conns) below d =
      let v = cut_world w c 0 0 in
      let cut = cut_is w c (first_below w c conns below) in
      let one = one_kept w v c.0 0 0 cut in
      downs_cut v conns (tail_below w v c conns one.next_conn below) d
      ∙ ((λ j. cut_if (is_among conns d) (one.downs j d) ((cut.is j).down_marks d))
      ∙ (ap (cut_if (is_among conns d) (w.downs d)) (put_at w.down_marks w.downs c.0 d)
      ∙ cut_marks (w.downs d) w.down_marks c.0 d (is_among conns d)))

  ups_cut : (w : World) (conns : List ConnId) → AreBelow w conns → (d : ℕ) → (all_cut w conns).up_marks d ≡ cut_if (is_among conns d) (w.ups d) (w.up_marks d)
  ups_cut w [] below d = refl
  ups_cut w (c ∷ conns) below d =
      let v = cut_world w c 0 0 in
      let cut = cut_is w c (first_below w c conns below) in
      let one = one_kept w v c.0 0 0 cut in
      ups_cut v conns (tail_below w v c conns one.next_conn below) d
      ∙ ((λ j. cut_if (is_among conns d) (one.ups j d) ((cut.is j).up_marks d))
      ∙ (ap (cut_if (is_among conns d) (w.ups d)) (put_at w.up_marks w.ups c.0 d)
      ∙ cut_marks (w.ups d) w.up_marks c.0 d (is_among conns d)))

-- STOPS

stopped_so : (w : World) (e : Event) (v : World) (so : Bool) → so ≡ true → after_event w e (where_so so v) ≡ record v { last = Some e }
stopped_so w e v true is = refl
stopped_so w e v false is = cc

pub stop_is : (w : World) (node : NodeId) → w.running node.0 ≡ true → happens w (event.Stop node) ≡ record (stop w node.0) { last = Some (event.Stop node) }
unfolding happens outcome
stop_is w node runs = stopped_so w (event.Stop node) (stop w node.0) (w.running node.0) runs

node_below : (w : World) (n c : ℕ) → is_of_node w n c ≡ true → c < w.next_conn
node_below w n c e =
    let below : nat_lt c w.next_conn ≡ true = and-left (nat_lt c w.next_conn) (touches n (w.dialled c)) e in
    grind (arith, nat_tests, below)

ends_same : (taken count : ℕ) (end : Option ℕ) → taken ≤ count → lesser (min (taken + 0) count) end ≡ lesser taken end
ends_same taken count None h = omega (arith, h)
ends_same taken count (Some n) h = omega (arith, h)

-- One direction that was cut is that of a connection which was stopped.
row_stopped : (b : Bool) (sent : List Message) (k : Marks) (t : Traffic) → Fits t → IsRow (record { sent = sent; marks = cut_if b sent k }) t → IsRow (record { sent = sent; marks = if b then stopped_marks k else k }) t
row_stopped true sent k t fits is = record {
  sent = is.sent;
  taken = is.taken;
  end = λ taking.
      let count : length t.sent ≡ length sent = ap (λ (l : List (List ℕ)). length l) is.sent ∙ length-map sent text_of in
      is.end taking ∙ ap Some (ends_same k.taken (length sent) k.end (omega (arith, count, is.taken taking, fits.taken)));
}
row_stopped false sent k t fits is = is

over_if : (b : Bool) (sent : List Message) (k : Marks) → (if b then stopped_marks k else k).over ≡ (cut_if b sent k).over
over_if true sent k = refl
over_if false sent k = refl

same_port : (m n : ℕ) → (FIRST_PORT + m == FIRST_PORT + n) ≡ (m == n)
same_port m n = by (m == n) refl where
  by : (b : Bool) → (m == n) ≡ b → (FIRST_PORT + m == FIRST_PORT + n) ≡ b
  by true e = grind (arith, nat_tests, e)
  by false e = grind (arith, nat_tests, e)

cond_if : (b : Bool) (x y : Bool) → cond b x y ≡ (if b then x else y)
cond_if true x y = refl
cond_if false x y = refl

module _ {I O : Type 0} (i : link_in.Ghosts I) (o : link_out.Ghosts O) (cuts : CutsAreLosses) where
  stops_net : (w : World) (net : Net) (node : NodeId) (conns : List ConnId) → w.running node.0 ≡ true → AreOfNode w node.0 conns → IsSane net → IsNetOf (all_cut w conns) net
      → StopsNet i o (all_cut w conns) (record (stop w node.0) { last = Some (event.Stop node) }) net node.0
  stops_net w net node conns runs of_node sane is = record {
    net_is = record {
      conns = is.conns ∙ kept.next_conn;
      listens = λ m.
          (λ j. cond (same_port m node.0 j) false (is.listens m j))
          ∙ ((λ j. cond (m == node.0) false (kept.running j m)) ∙ cond_if (m == node.0) false (w.running m));
      waiting = is.waiting;
      rows_are = rows;
      none_over = λ c d late. over c d ∙ is.none_over c d (omega (arith, late, kept.next_conn));
    };
    over = over;
    ends = λ c d e h. record {
      id = h.id;
      side = h.side;
      within = h.within;
      is = subst (λ (b : Bool). EndIs i o net.traffic false [] (held_by b) e) (sym (over c d)) h.is;
      taking = h.taking;
    };
  }
    where
      below : AreBelow w conns
      below c among = node_below w node.0 c (sym (of_node c) ∙ among)

      kept : CutsKeep w (all_cut w conns)
      kept = all_kept cuts net w conns below

      v : World
      v = record (stop w node.0) { last = Some (event.Stop node) }

      row_down : (c : ℕ) → rows_of (all_cut w conns) c true ≡ record { sent = w.downs c; marks = cut_if (is_of_node w node.0 c) (w.downs c) (w.down_marks c) }
      row_down c =
          (λ j. let x : Row = record { sent = kept.downs j c; marks = downs_cut cuts net w conns below c j } in x)
          ∙ ap (λ b. let x : Row = record { sent = w.downs c; marks = cut_if b (w.downs c) (w.down_marks c) } in x) (of_node c)

      row_up : (c : ℕ) → rows_of (all_cut w conns) c false ≡ record { sent = w.ups c; marks = cut_if (is_of_node w node.0 c) (w.ups c) (w.up_marks c) }
      row_up c =
          (λ j. let x : Row = record { sent = kept.ups j c; marks = ups_cut cuts net w conns below c j } in x)
          ∙ ap (λ b. let x : Row = record { sent = w.ups c; marks = cut_if b (w.ups c) (w.up_marks c) } in x) (of_node c)

      rows : AreRows (rows_of v) net.traffic
      rows c true = row_stopped (is_of_node w node.0 c) (w.downs c) (w.down_marks c) (net.traffic c true) (sane.fits c true) (subst (λ (r : Row). IsRow r (net.traffic c true)) (row_down c) (is.rows_are c true))
      rows c false = row_stopped (is_of_node w node.0 c) (w.ups c) (w.up_marks c) (net.traffic c false) (sane.fits c false) (subst (λ (r : Row). IsRow r (net.traffic c false)) (row_up c) (is.rows_are c false))

      over : (c : ℕ) (d : Bool) → is_over v c d ≡ is_over (all_cut w conns) c d
      over c true = over_if (is_of_node w node.0 c) (w.downs c) (w.down_marks c) ∙ sym (ap (λ (r : Row). r.marks.over) (row_down c))
      over c false = over_if (is_of_node w node.0 c) (w.ups c) (w.up_marks c) ∙ sym (ap (λ (r : Row). r.marks.over) (row_up c))

  pub stops_are_cuts : StopsAreCuts i o
  stops_are_cuts w net node conns runs of_node sane is =
      subst (λ (v : World). StopsNet i o (all_cut w conns) v net node.0) (sym (stop_is w node runs)) (stops_net w net node conns runs of_node sane is)

-- ENDS THAT ARE NO LONGER USED

some_end : (b : Bool) (k : Marks) → b ≡ true → IsSome (if b then stopped_marks k else k).end
some_end true k e = refl
some_end false k e = cc

pub stops_end : StopsEnd
stops_end w node c runs of_node =
    subst (λ (v : World). HasEnded v c) (sym (stop_is w node runs)) (record {
      down = some_end (is_of_node w node.0 c) (w.down_marks c) of_node;
      up = some_end (is_of_node w node.0 c) (w.up_marks c) of_node;
    })

-- nothing more is sent
row_more : (r : Row) (b : Bool) (t : Traffic) → IsRow r t → IsRow r (cond b (more [] t) t)
row_more r true t is = record { sent = append-nil t.sent ∙ is.sent; taken = is.taken; end = is.end }
row_more r false t is = is

ended_same : (a b : Option ℕ) (n : ℕ) → a ≡ b → IsSome b → Some (unwrap_or a n) ≡ b
ended_same None None n e s = cc
ended_same None (Some y) n e s = cc
ended_same (Some x) None n e s = cc
ended_same (Some x) (Some y) n e s = e

row_closed : (r : Row) (shut : Bool) (t : Traffic) → IsSome r.marks.end → IsRow r t → IsRow r (closes_if shut t)
row_closed r true t ended is = record { sent = is.sent; taken = is.taken; end = λ taking. ended_same t.end r.marks.end (length t.sent) (is.end taking) ended }
row_closed r false t ended is = is

row_flushed : (r : Row) (lower shut d : Bool) (t : Traffic) → IsSome r.marks.end → IsRow r t → IsRow r (flushes lower shut [] d t)
row_flushed r lower shut d t ended is = row_closed r shut _ ended (row_more r (same_direction (not lower) d) t is)

ended_row : (w : World) (c : ℕ) (d : Bool) → HasEnded w c → IsSome (rows_of w c d).marks.end
ended_row w c true h = h.down
ended_row w c false h = h.up

pub ended_stay : LossesAreNets → EndedStay
ended_stay losses w net c lower is ended = record { flushed = flushed; lost = losses w net c lower [] (flushed true) } where
  flushed : (shut : Bool) → IsNetOf w (flushed_net net c lower shut [])
  flushed shut = record {
    conns = is.conns;
    listens = is.listens;
    waiting = is.waiting;
    rows_are = each-traffic net.traffic c (flushes lower shut []) (λ e d t. IsRow (rows_of w e d) t)
        (λ d. row_flushed (rows_of w c d) lower shut d (net.traffic c d) (ended_row w c d ended) (is.rows_are c d))
        (λ e d other. is.rows_are e d);
    none_over = is.none_over;
  }
