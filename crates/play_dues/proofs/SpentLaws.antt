-- Nothing is due of a connection that is spent, and nodes and clients tell whether one is.
use Rattle.std.proofs.Common.{◌≡◌, ◌<◌, ◌≤◌, ◌++◌, ◌⊎◌, inl, inr, ℕ, Bool, true, false, List, [], length, get_or, slice_get, option_map, Option, Some, None, is_some, refl, sym, ap, ◌∙◌, subst, eqb-true, eq-eqb, lt-ltb, le-ltb}
use Rattle.std.specs.Prelude.{◌&&◌, ◌==◌, not, nat_lt, is_none, is_some}
use Rattle.std.proofs.lemmas.Option.{slice_get_cases}
use Rattle.hd_base.specs.declared.links.LinkIn as link_in
use Rattle.hd_base.specs.declared.links.LinkOut as link_out
use Rattle.hd_base.specs.declared.numbers.BlockId.{BlockId}
use Rattle.hd_base.specs.declared.numbers.ConnId.{ConnId}
use Rattle.hd_base.specs.declared.numbers.NodeId.{NodeId}
use Rattle.world.specs.MemberCore.Members.{hears}
use Rattle.road_traffic.specs.Showing.{Net}
use Rattle.world.specs.Connections.{Next, next_down, next_up, is_alive, is_conn, is_served}
use Rattle.world.specs.Enabled.{leads_from, takes_down, acts_below, hears_mirror, reads_from, takes_above}
use Rattle.world.specs.Parts as parts
use Rattle.world.specs.Parts.{by_writer, by_member, by_reader, by_primary, idle, writes, serves, recovers, ended_below}
use Rattle.world.specs.Worlds.{World}
use Rattle.play_model.specs.WorldLaws.Placing.{IsUpper, Placed}
use Rattle.play_model.proofs.WorldLaws.FactTables.{if-each, and-left, and-right}
use Rattle.play_reads.specs.WorldNets.Nets.{is_over}
use Rattle.play_model.specs.Dues.{Queues, is_open, is_open_above, conn_dues, when}
use Rattle.play_clients.specs.declared.clients.Client.{Client}
use Rattle.play_reads.specs.PlayNodes.Connection.{Connection}
use Rattle.play_reads.specs.PlayNodes.Lower.{Lower}
use Rattle.play_reads.specs.PlayNodes.Lower.TheVariants as lower
use Rattle.play_reads.specs.PlayNodes.Upper.{Upper}
use Rattle.play_reads.specs.PlayNodes.Upper.TheVariants as upper
use Rattle.play_reads.specs.PlayNodes.Nodes.{Nodes}
use Rattle.play_reads.specs.PlayNodes.Dues.{is_elsewhere, TellsElsewhere}
use Rattle.play_reads.specs.PlayNodes.Showing.{has_events, UpperShows, stands_here, LowerShows}
use Rattle.play_reads.proofs.PlayNodes.JoinNodes.{passes_at, place_there}
use Rattle.play_reads.proofs.PlayNodes.PlaceLaws.{element_within}
use Rattle.play_reads.specs.declared.reads.Reads.{Reads}
use Rattle.play_recoveries.specs.declared.recoveries.Recoveries.{Recoveries}
use Rattle.play_reads.specs.Dues as of_reads
use Rattle.play_dues.specs.Places.{client_place}
use Rattle.play_dues.specs.Spending.{has_shut, lower_at, has_conn_of, has_conn_at, EndsShow, TellsOf, TellsEnded, gave_up}
use Rattle.play_dues.specs.Spent.{is_given_up, is_spent}
use Rattle.play_recoveries.specs.declared.dues.Dialler.{Dialler}
use Rattle.play_recoveries.specs.Dues as of_recoveries
use Rattle.play_recoveries.specs.Dues.{TellsDialler, pair_of}
use Rattle.play_dues.proofs.ElsewhereLaws.{read_so, led_so, piped_so}
use Rattle.play_dues.proofs.GoneLaws.{never_right, true_false}
use Rattle.play_dues.proofs.SpentStays.{not_so}
use Rattle.play_dues.proofs.UpperLaws.{conn_some, not_true, none_is_some}
use Rattle.play_dues.proofs.WriterLaws.{pipe_conn}

-- NOTHING IS DUE

-- what needs a lower end that is served and open
lower_never : (served opened x : Bool) → (served && opened) ≡ false → (opened && (served && x)) ≡ false
lower_never true true x e = cc
lower_never true false x e = refl
lower_never false true x e = refl
lower_never false false x e = refl

-- what needs a connection that the writer has
writer_never : (y has x : Bool) → has ≡ false → (true && (y && (has && x))) ≡ false
writer_never true true x e = cc
writer_never true false x e = refl
writer_never false has x e = refl

-- what needs a member that is open, and whose node runs
member_never : (within alive opened y heard : Bool) → within ≡ true → ((within && alive) && opened) ≡ false → (alive ≡ false → heard ≡ false) → (opened && (y && heard)) ≡ false
member_never true alive false y heard p e h = refl
member_never true true true y heard p e h = cc
member_never true false true true heard p e h = h refl
member_never true false true false heard p e h = refl
member_never false alive opened y heard p e h = cc

-- what needs a reader that reads over it
reader_never : (y reading : Bool) → reading ≡ false → (true && (y && reading)) ≡ false
reader_never true reading e = e
reader_never false reading e = refl

-- what needs a primary that takes from it, and something that stands next
primary_never : (y led over : Bool) → (over ≡ true → y ≡ false) → (led && not over) ≡ false → (true && (y && led)) ≡ false
primary_never true true true none e = none refl
primary_never true true false none e = e
primary_never true false over none e = refl
primary_never false led over none e = refl

-- behind the end nothing stands
none_next : (w : World) (c : ℕ) → is_over w c false ≡ true → is_some (next_up w c) ≡ false
none_next w c over = if-each (λ (o : Option Next). is_some o ≡ false) (w.up_marks c).over None _ (λ _. refl) (λ still. absurd (true_false (w.up_marks c).over over still))

none_listed : {A : Type 0} (a b c : Bool) (x y z : A) → a ≡ false → b ≡ false → c ≡ false → when a x ++ (when b y ++ when c z) ≡ []
none_listed a b c x y z p q s = λ j. when (p j) x ++ (when (q j) y ++ when (s j) z)

pub nothing_due : (w : World) (queues : Queues) (c : ℕ) → Placed w → c < w.next_conn → is_spent w c ≡ true → conn_dues w queues c ≡ []
nothing_due w queues c placed lt is =
    let u : parts.Upper = (w.dialled c).upper in
    let over : (is_served w c && is_open (w.lowers c)) ≡ false = not_so (has_events w c) (and-left (not (has_events w c)) (is_given_up w c u) is) in
    none_listed _ _ _ _ _ _
    (lower_never (is_served w c) (is_open (w.lowers c)) (takes_down (w.lowers c) w c (next_down w c)) over)
    (lower_never (is_served w c) (is_open (w.lowers c)) (acts_below (w.lowers c) w c) over)
    (by u refl (and-right (not (has_events w c)) (is_given_up w c u) is))
  where
    deaf : (l : parts.Lower) (d : ℕ) → is_alive w (w.dialled d).to ≡ false → hears_mirror l w d ≡ false
    deaf (writes m) d e = ap (λ (b : Bool). b && hears m.state) e
    deaf idle d e = refl
    deaf (serves b s) d e = refl
    deaf recovers d e = refl
    deaf ended_below d e = refl

    by : (u : parts.Upper) → (w.dialled c).upper ≡ u → is_given_up w c u ≡ true → (is_open_above w u && ((nat_lt c w.next_conn && is_some (next_up w c)) && takes_above u w c)) ≡ false
    by (by_writer b) e h = writer_never (nat_lt c w.next_conn && is_some (next_up w c)) (is_conn (w.writers b).conn c) (is_none (w.writers b).told) (not_so (is_conn (w.writers b).conn c) h)
    by (by_member d) e h =
        let known : d < w.next_conn = subst (λ (v : parts.Upper). IsUpper w.next_conn v) e (placed.dialled c lt).upper in
        member_never (nat_lt d w.next_conn) (is_alive w (w.dialled d).to) (is_open (w.lowers d)) (nat_lt c w.next_conn && is_some (next_up w c)) (hears_mirror (w.lowers d) w d) (lt-ltb d w.next_conn known) (not_so (has_events w d) h) (deaf (w.lowers d) d)
    by (by_reader i) e h = reader_never (nat_lt c w.next_conn && is_some (next_up w c)) (reads_from (w.readers i) c) (not_so (reads_from (w.readers i) c) h)
    by (by_primary i place) e h =
        primary_never (nat_lt c w.next_conn && is_some (next_up w c)) (leads_from (w.primaries i) w place) (is_over w c false)
        (λ over. never_right (nat_lt c w.next_conn) (is_some (next_up w c)) (none_next w c over)) (not_so (leads_from (w.primaries i) w place && not (is_over w c false)) h)

-- WHAT IS TOLD

-- of a number that no connection has the answer is no
outside_so : (c n k : ℕ) (x : Bool) → n ≡ k → n ≤ c → false ≡ (nat_lt c k && x)
outside_so c n k x count outside = sym (ap (λ (b : Bool). b && x) (le-ltb c k (subst (λ (m : ℕ). m ≤ c) count outside)))

inside_so : (c k : ℕ) (result x : Bool) → c < k → result ≡ x → result ≡ (nat_lt c k && x)
inside_so c k result x lt is = is ∙ sym (ap (λ (b : Bool). b && x) (lt-ltb c k lt))

known_so : (c k : ℕ) (result x : Bool) → c < k → result ≡ (nat_lt c k && x) → result ≡ x
known_so c k result x lt is = is ∙ ap (λ (b : Bool). b && x) (lt-ltb c k lt)

both_told : (known a b : Bool) → ((known && a) && (known && b)) ≡ (known && (a && b))
both_told true a b = refl
both_told false a b = refl

-- what passes the first test not passes not both
first_fails : (known a b result : Bool) → result ≡ (known && a) → result ≡ false → result ≡ (known && (a && b))
first_fails true true b result is isnt = absurd (clash (sym is ∙ isnt))
  where
    clash : true ≡ false → ⊥
    clash e = cc
first_fails true false b result is isnt = isnt
first_fails false a b result is isnt = isnt

module _ {F I O : Type 0} (i : link_in.Ghosts I) (o : link_out.Ghosts O) (n : Nodes F I O) (reads : Reads I O) (recoveries : Recoveries I O) (conn : ConnId) (found : Bool) (told : TellsElsewhere i o conn n found) where
  pub ended_read : (x : Option Dialler) → TellsDialler i o conn n (option_map pair_of x) → is_some x ≡ false → (result : Bool) → found ≡ is_elsewhere n conn.0 → found ≡ true → of_reads.TellsEnded i o conn reads result → TellsEnded i o conn n reads recoveries result
  ended_read x asked none result is so tells = λ clients w net h.
      let k = read_so i o w net n conn found h.nodes_are told x asked none is so in
      inside_so conn.0 w.next_conn result (not (has_events w conn.0)) k.within (tells w net n.blocks.items h.reads_are k.within k.reading_is)

  pub ended_led : (x : Option Dialler) → TellsDialler i o conn n (option_map pair_of x) → is_some x ≡ true → (result : Bool) → found ≡ is_elsewhere n conn.0 → found ≡ true → of_recoveries.TellsEnded i o conn recoveries result → TellsEnded i o conn n reads recoveries result
  ended_led x asked some result is so tells = λ clients w net h.
      let k = led_so i o w net n conn found h.nodes_are told x asked some is so in
      inside_so conn.0 w.next_conn result (not (has_events w conn.0)) k.within (tells w net n.blocks.items h.recoveries_are k.within k.leading_is)

  shut_as : (w : World) (net : Net) (c : ℕ) (l : parts.Lower) (real : Lower I O) → stands_here real ≡ true → LowerShows i o w net c n l real → has_shut (Some real) ≡ not (has_events w c)
  shut_as w net c idle (lower.Idle end) here s = sym (ap not s.0)
  shut_as w net c (writes full) (lower.Member m place) here s = sym (ap not s.0)
  shut_as w net c l lower.Ended here s = sym (ap not s)
  shut_as w net c l lower.Elsewhere here s = cc
  shut_as w net c l real here s = absurd s

  pub ended_here : (result : Bool) → found ≡ false → result ≡ has_shut (lower_at n conn.0) → TellsEnded i o conn n reads recoveries result
  ended_here result isnt is = λ clients w net h. is ∙ by clients w net h (slice_get_cases n.connections.items conn.0).1
    where
      by : (clients : List (Client I O)) (w : World) (net : Net) → EndsShow i o w net n clients reads recoveries
          → ((x : Connection I O) × (conn.0 < length n.connections.items) × (slice_get n.connections.items conn.0 ≡ Some x) × (get_or n.connections.items conn.0 x ≡ x)) ⊎ ((length n.connections.items ≤ conn.0) × (slice_get n.connections.items conn.0 ≡ None))
          → has_shut (lower_at n conn.0) ≡ (nat_lt conn.0 w.next_conn && not (has_events w conn.0))
      by clients w net h (inr past) =
          ap (λ (x : Option (Connection I O)). has_shut (option_map (λ y. y.lower) x)) past.1
          ∙ outside_so conn.0 (length n.connections.items) w.next_conn (not (has_events w conn.0)) h.nodes_are.count past.0
      by clients w net h (inl at) =
          let lt : conn.0 < w.next_conn = subst (λ (k : ℕ). conn.0 < k) h.nodes_are.count at.1 in
          let shows = h.nodes_are.each conn.0 at.0 at.2 in
          inside_so conn.0 w.next_conn (has_shut (lower_at n conn.0)) (not (has_events w conn.0)) lt
          (ap (λ (x : Option (Connection I O)). has_shut (option_map (λ y. y.lower) x)) at.2
          ∙ shut_as w net conn.0 (w.lowers conn.0) at.0.lower (shows.here ∙ piped_so i o w net n conn found h.nodes_are told isnt lt) shows.lower_is)

module _ {F I O : Type 0} (i : link_in.Ghosts I) (o : link_out.Ghosts O) (n : Nodes F I O) (clients : List (Client I O)) (reads : Reads I O) (recoveries : Recoveries I O) (conn : ConnId) where
  conn_told : (w : World) (net : Net) → EndsShow i o w net n clients reads recoveries → (b c : ℕ) → has_conn_at clients (client_place clients b) c ≡ is_conn (w.writers b).conn c
  conn_told w net h b c = by (client_place clients b) refl
    where
      by : (sought : Option ℕ) → client_place clients b ≡ sought → has_conn_at clients sought c ≡ is_conn (w.writers b).conn c
      by None none = not_true (is_conn (w.writers b).conn c) (λ is.
          let k = h.connected b c (conn_some (w.writers b).conn c is) in
          none_is_some (client_place clients b) _ none (place_there (λ (x : Client I O). x.block.0 == b) clients k.place k.client k.found (eq-eqb k.client.block.0 b k.block)))
      by (Some place) there =
          let p = passes_at (λ (x : Client I O). x.block.0 == b) clients place there in
          let shown = h.each place p.at p.found in
          ap (λ (x : Option (Client I O)). has_conn_of x c) p.found
          ∙ (ap (λ (q : Option ℕ). is_conn q c) (sym (pipe_conn i o w net (w.writers p.at.block.0).conn p.at.pipe shown.pipe_is))
          ∙ ap (λ (q : ℕ). is_conn (w.writers q).conn c) (eqb-true p.at.block.0 b p.passes))

  pub gave_outside : length n.connections.items ≤ conn.0 → TellsOf i o gave_up conn n clients reads recoveries false
  gave_outside outside = λ w net h. outside_so conn.0 (length n.connections.items) w.next_conn (gave_up w conn.0) h.nodes_are.count outside

  -- What is told of whoever dialled is told of the connection.
  module _ (at : Connection I O) (found : slice_get n.connections.items conn.0 ≡ Some at) (result : Bool) where
    gave_so : ((w : World) (net : Net) → EndsShow i o w net n clients reads recoveries → conn.0 < w.next_conn → UpperShows (w.dialled conn.0).upper at.upper → result ≡ gave_up w conn.0) → TellsOf i o gave_up conn n clients reads recoveries result
    gave_so each = λ w net h.
        let lt : conn.0 < w.next_conn = subst (λ (k : ℕ). conn.0 < k) h.nodes_are.count (element_within n.connections.items conn.0 at found) in
        inside_so conn.0 w.next_conn result (gave_up w conn.0) lt (each w net h lt (h.nodes_are.each conn.0 at found).upper_is)

    pub gave_writer : (block : BlockId) (has : Bool) → at.upper ≡ upper.Writer block → result ≡ not has → has ≡ has_conn_at clients (client_place clients block.0) conn.0 → TellsOf i o gave_up conn n clients reads recoveries result
    gave_writer block has is told tells = gave_so (λ w net h lt shows.
        by w (w.dialled conn.0).upper (subst (λ (x : Upper). UpperShows (w.dialled conn.0).upper x) is shows) (told ∙ ap not (tells ∙ conn_told w net h block.0 conn.0)))
      where
        by : (w : World) (u : parts.Upper) → UpperShows u (upper.Writer block) → result ≡ not (is_conn (w.writers block.0).conn conn.0) → result ≡ is_given_up w conn.0 u
        by w (by_writer b) s e = e ∙ ap (λ (q : ℕ). not (is_conn (w.writers q).conn conn.0)) s
        by w u s e = absurd s

    pub gave_member : (above : ConnId) → at.upper ≡ upper.Member above → TellsEnded i o above n reads recoveries result → TellsOf i o gave_up conn n clients reads recoveries result
    gave_member above is told = gave_so (λ w net h lt shows.
        by w (w.dialled conn.0).upper (h.placed.dialled conn.0 lt).upper (subst (λ (x : Upper). UpperShows (w.dialled conn.0).upper x) is shows) (told clients w net h))
      where
        by : (w : World) (u : parts.Upper) → IsUpper w.next_conn u → UpperShows u (upper.Member above) → result ≡ (nat_lt above.0 w.next_conn && not (has_events w above.0)) → result ≡ is_given_up w conn.0 u
        by w (by_member d) known s e =
            known_so above.0 w.next_conn result (not (has_events w above.0)) (subst (λ (q : ℕ). q < w.next_conn) (sym s) known) e ∙ ap (λ (q : ℕ). not (has_events w q)) s
        by w u known s e = absurd s

    pub gave_reader : (reader : ℕ) (over : Bool) → at.upper ≡ upper.Reader reader → result ≡ not over → of_reads.TellsOver i o conn n reads over → TellsOf i o gave_up conn n clients reads recoveries result
    gave_reader reader over is told tells = gave_so (λ w net h lt shows.
        by w (w.dialled conn.0).upper (subst (λ (x : Upper). UpperShows (w.dialled conn.0).upper x) is shows) (told ∙ ap not (tells w net h.nodes_are h.reads_are lt)))
      where
        by : (w : World) (u : parts.Upper) → UpperShows u (upper.Reader reader) → result ≡ not (of_reads.is_read_by w conn.0 u) → result ≡ is_given_up w conn.0 u
        by w (by_reader line) s e = e
        by w u s e = absurd s

    pub gave_primary : (primary place : ℕ) (node : NodeId) (over : Bool) → at.upper ≡ upper.Primary primary place node → result ≡ not over → of_recoveries.TellsOver i o conn n recoveries over → TellsOf i o gave_up conn n clients reads recoveries result
    gave_primary primary place node over is told tells = gave_so (λ w net h lt shows.
        by w (w.dialled conn.0).upper (subst (λ (x : Upper). UpperShows (w.dialled conn.0).upper x) is shows) (told ∙ ap not (tells w net h.nodes_are h.recoveries_are h.primaries lt)))
      where
        by : (w : World) (u : parts.Upper) → UpperShows u (upper.Primary primary place node) → result ≡ not (of_recoveries.is_led_by w conn.0 u) → result ≡ is_given_up w conn.0 u
        by w (by_primary p at) s e = e
        by w u s e = absurd s

  pub spent_both : (ended gave : Bool) → ended ≡ true → TellsEnded i o conn n reads recoveries ended → TellsOf i o gave_up conn n clients reads recoveries gave → TellsOf i o is_spent conn n clients reads recoveries gave
  spent_both ended gave so a b = λ w net h.
      ap (λ (e : Bool). e && gave) (sym so) ∙ (λ j. a clients w net h j && b w net h j) ∙ both_told (nat_lt conn.0 w.next_conn) (not (has_events w conn.0)) (gave_up w conn.0)

  pub spent_neither : (ended : Bool) → ended ≡ false → TellsEnded i o conn n reads recoveries ended → TellsOf i o is_spent conn n clients reads recoveries ended
  spent_neither ended isnt a = λ w net h. first_fails (nat_lt conn.0 w.next_conn) (not (has_events w conn.0)) (gave_up w conn.0) ended (a clients w net h) isnt
