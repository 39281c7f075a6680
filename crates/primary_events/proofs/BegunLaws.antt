-- A primary has begun, and the world after it.
use Rattle.std.proofs.Common.{◌≡◌, ℕ, zero, suc, ◌+◌, ◌<◌, ◌≤◌, Bool, true, false, List, [], ◌∷◌, length, slice_get, Option, Some, None, refl, sym, ap, ◌∙◌, subst, arith}
use Rattle.std.specs.Prelude.{is_some, map}
use Rattle.std.proofs.lemmas.List.{length-map}
use Rattle.hd_base.specs.declared.ends.Conn.{Conn}
use Rattle.hd_base.specs.declared.links.LinkIn as link_in
use Rattle.hd_base.specs.declared.links.LinkOut as link_out
use Rattle.hd_base.specs.declared.numbers.BlockId.{BlockId}
use Rattle.hd_base.specs.declared.numbers.NodeId.{NodeId}
use Rattle.hd_base.specs.declared.roads.Roads as roads
use Rattle.hd_base.specs.declared.roads.TheConstants.{FIRST_PORT}
use Rattle.block_recovery.specs.declared.links.Link.{Link}
use Rattle.block_recovery.specs.declared.links.Seat.{Seat}
use Rattle.block_recovery.specs.declared.links.Seat.TheVariants as seat
use Rattle.block_recovery.specs.declared.primary.Primary as running
use Rattle.block_recovery.specs.Beginning.{port_of, ports_of}
use Rattle.name_core.specs.declared.calls.Begun.{Begun}
use Rattle.name_core.specs.declared.desks.Desk as desks
use Rattle.recovery_core.specs.declared.primary.Phase.TheVariants as phase
use Rattle.recovery_core.specs.declared.standings.Standing.{Standing}
use Rattle.recovery_core.specs.Primaries.{asked, begun_with}
use Rattle.road_traffic.specs.Traffic.{Traffic, Traffics, no_traffic}
use Rattle.road_traffic.specs.Showing.{Net, EndIs}
use Rattle.road_traffic.proofs.ShowingLemmas.{end-new}
use Rattle.world.specs.declared.events.Event.{Event}
use Rattle.world.specs.Parts.{Place}
use Rattle.world.specs.Worlds.{World, Change, apply}
use Rattle.world.specs.Connections.{is_alive}
use Rattle.world.specs.Events.{outcome, happens}
use Rattle.world.specs.Primaries.{recovery_message, begins_with, is_among_conns, leading, numbered}
use Rattle.world_primaries.specs.WorldNets.Rows.{Row, rows_of, text_of}
use Rattle.world_primaries.specs.WorldNets.Nets.{IsRow, IsNetOf, IsEndOf, held_by, is_over}
use Rattle.world_primaries.proofs.WorldNets.EndLemmas.{same-end}
use Rattle.world_primaries.proofs.WorldNets.StepLemmas.{next-conn, runs-on, none-over, changed-over, followed}
use Rattle.client_events.proofs.MemberEvents.EndLaws.{HeldAt, end_from}
use Rattle.client_events.proofs.MemberEvents.WorldLaws.{happened}
use Rattle.primary_events.specs.Beginning.{LowerShows, LeadsBegun}
use Rattle.primary_events.specs.Leading.{IsNoneOf}
use Rattle.primary_events.specs.Showing.{MemberShows, PlaceShows}
use Rattle.primary_events.proofs.AcceptLaws.{AcceptedAt, LowerAt, Accepting}
use Rattle.primary_events.proofs.BeginLaws.{OpenAt, open_at, seats, AllFlushed, tests_same, unanswered_at, nobody_at}
use Rattle.primary_events.proofs.DialLaws.{Dialling}
use Rattle.primary_events.proofs.FlushLaws.{KeptAt, Flushing}
use Rattle.primary_events.proofs.GivingUpLaws.{true_false, at_among, among_at}
use Rattle.primary_events.proofs.HearLaws.{alive_after, primary_put}
use Rattle.primary_events.proofs.NumberLemmas.{somes, rest_end, number_there, none_there, trues, trues_are, number_within, row_new, row_old, dials_are}
use Rattle.primary_events.proofs.PlaceLemmas.{within, some_same}
use Rattle.primary_events.proofs.RisenLaws.{mapped_at}
use Rattle.primary_events.proofs.SendLaws.{AllSent, SentAt, none_some}
use Rattle.primary_events.proofs.UpdateLaws.{office_after_event, within_some}

mapped_none : {A B : Type 0} (f : A → B) (xs : List A) (j : ℕ) → slice_get xs j ≡ None → slice_get (map f xs) j ≡ None
mapped_none f [] j h = refl
mapped_none f (x ∷ xs) zero h = cc
mapped_none f (x ∷ xs) (suc j) h = mapped_none f xs j h

-- The ports of all places.
ports_same : {I O : Type 0} (members : List NodeId) (links : List (Seat I O)) (ports : List (Option ℕ)) → length members ≡ length ports → length links ≡ length ports
    → ((j : ℕ) (m : NodeId) (x : Seat I O) (y : Option ℕ) → slice_get members j ≡ Some m → slice_get links j ≡ Some x → slice_get ports j ≡ Some y → port_of m x ≡ y) → ports_of members links ≡ ports
ports_same [] [] [] a b same = refl
ports_same [] [] (y ∷ ports) a b same = absurd (omega (arith, a))
ports_same [] (x ∷ links) [] a b same = absurd (omega (arith, b))
ports_same [] (x ∷ links) (y ∷ ports) a b same = absurd (omega (arith, a))
ports_same (m ∷ members) [] [] a b same = absurd (omega (arith, a))
ports_same (m ∷ members) [] (y ∷ ports) a b same = absurd (omega (arith, b))
ports_same (m ∷ members) (x ∷ links) [] a b same = absurd (omega (arith, a))
ports_same (m ∷ members) (x ∷ links) (y ∷ ports) a b same =
    ap (λ (p : Option ℕ). p ∷ ports_of members links) (same 0 m x y refl refl refl)
    ∙ ap (λ (l : List (Option ℕ)). y ∷ l) (ports_same members links ports (omega (arith, a)) (omega (arith, b)) (λ j n z p at_n at_z at_p. same (suc j) n z p at_n at_z at_p))

module _ {D R I O : Type 0} (d : desks.Ghosts D) (r : roads.Ghosts R I O) (i : link_in.Ghosts I) (o : link_out.Ghosts O) (u : World) (net : Net) (is_net : IsNetOf u net) (net_sane : (c : ℕ) (b : Bool) → net.conns ≤ c → net.traffic c b ≡ no_traffic)
    (block : BlockId) (begun : Begun) (members : List NodeId) (links : List (Seat I O)) (passed : R) (total : ℕ) (size : length members ≡ total) {base : ℕ} (g : Dialling r i o net members total base total (record { links = links; road = passed }))
    (held : List (Seat I O)) (sent : AllSent o (text_of (recovery_message (begun_with block begun members (map is_some g.ports)))) members members links held)
    (links' : List (Seat I O)) (later : R) (count' : length links' ≡ total) (done : AllFlushed r i o u net is_net net_sane block begun members links passed total size g held sent links' later) where
  abbrev answers : List Bool
  answers = map is_some g.ports

  abbrev conns : List (Option ℕ)
  conns = numbered u.next_conn answers

  abbrev f : Flushing r i o u g.made conns (λ j. recovery_message (begun_with block begun members (map is_some g.ports)) ∷ []) (λ j. false) held done.done (record { links = links'; road = later })
  f = done.state

  abbrev opened : (j c : ℕ) → slice_get conns j ≡ Some (Some c) → OpenAt r i o u net is_net net_sane block begun members links passed total size g j c
  opened = open_at r i o u net is_net net_sane block begun members links passed total size g

  abbrev sent_there : (j c : ℕ) (q : OpenAt r i o u net is_net net_sane block begun members links passed total size g j c)
      → (y : Link I O) × ((slice_get held j ≡ Some (seat.Open y)) × SentAt i o u g.made (map text_of (recovery_message (begun_with block begun members (map is_some g.ports)) ∷ [])) c q.link y)
  sent_there = seats r i o u net is_net net_sane block begun members links passed total size g held sent

  -- THE PORTS

  kept_at : (j c : ℕ) (at : slice_get conns j ≡ Some (Some c)) → KeptAt r i o u g.made conns (λ j. recovery_message (begun_with block begun members (map is_some g.ports)) ∷ []) (λ j. false) held f.made c (sent_there j c (opened j c at)).0 (slice_get links' j)
  kept_at j c at = f.kept j c (sent_there j c (opened j c at)).0 (done.all j c at) refl at (sent_there j c (opened j c at)).1.0

  port_at : (j : ℕ) (m : NodeId) (x : Seat I O) (y : Option ℕ) → slice_get members j ≡ Some m → slice_get links' j ≡ Some x → slice_get g.ports j ≡ Some y → port_of m x ≡ y
  port_at j m x None at_m at_x at_y = ap (port_of m) (some_same x seat.Empty (sym at_x ∙ f.bare j (none_there u.next_conn g.ports j at_y)))
  port_at j m x (Some port) at_m at_x at_y =
      let c = u.next_conn + somes j g.ports in
      let q = opened j c (number_there u.next_conn g.ports j port at_y) in
      let t = kept_at j c (number_there u.next_conn g.ports j port at_y) in
      let same : q.port ≡ port = some_same q.port port (some_same (Some q.port) (Some port) (sym q.port_is ∙ at_y)) in
      ap (port_of m) (some_same x (seat.Open t.link) (sym at_x ∙ t.is)) ∙ (q.dialled.port_is m at_m ∙ ap Some same)

  -- The ports at which the dials are accepted.
  pub ports_are : ports_of members links' ≡ g.ports
  ports_are = ports_same members links' g.ports (size ∙ sym g.size) (count' ∙ sym g.size) port_at

  -- THE WORLD

  module _ (number : ℕ) (place : Place) (e : Event) (out : outcome u e ≡ Some (apply u (begins_with u number place block begun members (map is_some g.ports)))) (lowers : List (Option (Conn I O))) (road' : R)
      (acc : Accepting r i o f.made u.next_conn g.ports (length g.ports) (record { lowers = lowers; road = road' })) where
    abbrev k : Change
    k = begins_with u number place block begun members answers

    abbrev v : World
    v = happens u e

    same_size : length answers ≡ length members
    same_size = length-map g.ports is_some ∙ (g.size ∙ sym size)

    all_dials : length k.dials ≡ trues answers
    all_dials = dials_are u number place block begun members answers same_size

    rows_by : (n : ℕ) (q b : Bool) → is_among_conns conns n ≡ b → IsRow (rows_of (apply u k) n q) (f.made.traffic n q)
    rows_by n q true among =
        let a = among_at conns n among in
        subst (λ (row : Row). IsRow row (f.made.traffic n q)) (f.late a.place n q (done.all a.place n a.is) a.is ∙ sym (row_new u number place block begun members answers same_size a.place n q a.is)) (f.are n q)
    rows_by n q false among =
        subst (λ (row : Row). IsRow row (f.made.traffic n q)) (f.early n q (λ j on at_j. true_false (sym (at_among conns j n at_j) ∙ among)) ∙ sym (row_old u number place block begun members answers same_size n q among)) (f.are n q)

    counted : acc.made.conns ≡ u.next_conn + trues answers
    counted = omega (arith, acc.conns_are, f.conns_are, g.conns_are, is_net.conns, trues_are g.ports, ap (λ (m : ℕ). somes m g.ports) g.size)

    made_net : IsNetOf (apply u k) acc.made
    made_net = record {
      conns = counted ∙ sym (next-conn u k (trues answers) all_dials);
      listens = λ m. ap (λ t. t (FIRST_PORT + m)) (acc.listens_are ∙ (f.listens_are ∙ g.listens_are)) ∙ (is_net.listens m ∙ sym (runs-on u k m));
      waiting = λ port. acc.waiting_are port ∙ rest_end port u.next_conn g.ports;
      rows_are = λ n q. subst (λ (t : Traffics). IsRow (rows_of (apply u k) n q) (t n q)) (sym acc.traffic_are) (rows_by n q (is_among_conns conns n) refl);
      none_over = none-over u k is_net.none_over (trues answers) all_dials;
    }

    over_same : (n : ℕ) (q : Bool) → is_over v n q ≡ is_over u n q
    over_same n q = (followed u (apply u k) e out).over n q ∙ changed-over u k n q

    -- ENDS

    end_moved : (n : ℕ) (q : Bool) (y : Conn I O) → IsEndOf i o u f.made n q y → IsEndOf i o v acc.made n q y
    end_moved n q y h = same-end r i o u v acc.made n q y (over_same n q) (record {
      id = h.id;
      side = h.side;
      within = omega (arith, h.within, acc.conns_are);
      is = subst (λ (t : Traffics). EndIs i o t false [] (held_by (is_over u n q)) y) (sym acc.traffic_are) h.is;
      taking = ap (λ (t : Traffics). (t n q).over) acc.traffic_are ∙ h.taking;
    })

    lower_end : (c : ℕ) (y : Conn I O) → y.id.0 ≡ c → u.next_conn ≤ c → c < g.made.conns → (j : ℕ) → AcceptedAt r i o f.made u.next_conn g.ports j y → IsEndOf i o v acc.made c true y
    lower_end c y id from to j a = end_moved c true y (f.others c true y (λ p x at e2. refl) (record {
      id = id;
      side = a.side;
      within = to;
      is = subst (λ (b : Bool). EndIs i o g.made.traffic false [] (held_by b) y) (sym (is_net.none_over c true from))
          (end-new r i o g.made.traffic y (λ b. ap (λ (t : Traffics). t y.id.0 b) g.traffic_are ∙ net_sane y.id.0 b (omega (arith, id, from, is_net.conns))) a.fresh a.observable);
      taking = ap (λ (t : Traffics). (t c true).over) g.traffic_are ∙ ap (λ (t : Traffic). t.over) (net_sane c true (omega (arith, from, is_net.conns)));
    }))

    pub old_end : (n : ℕ) (q : Bool) (y : Conn I O) → IsEndOf i o u net n q y → IsEndOf i o v acc.made n q y
    old_end n q y h = end_moved n q y (f.others n q y apart (record {
      id = h.id;
      side = h.side;
      within = omega (arith, h.within, g.conns_are);
      is = subst (λ (t : Traffics). EndIs i o t false [] (held_by (is_over u n q)) y) (sym g.traffic_are) h.is;
      taking = ap (λ (t : Traffics). (t n q).over) g.traffic_are ∙ h.taking;
    }))
      where
        apart : IsNoneOf conns n q
        apart p x at e2 = let l = (number_within u.next_conn answers p x at).0 in absurd (omega (arith, l, e2, h.within, is_net.conns))

    -- PLACES

    abbrev ShowsAt : ℕ → Option (Option ℕ) → Type 0
    ShowsAt j conn = PlaceShows i o v acc.made phase.Informing (slice_get (map asked answers) j) conn (slice_get links' j)

    place_by : (j : ℕ) (a : Option Standing) (conn : Option ℕ) (z : Option (Seat I O)) (q : Standing) (y : Seat I O) → a ≡ Some q → z ≡ Some y → MemberShows i o v acc.made phase.Informing q conn y → PlaceShows i o v acc.made phase.Informing a (Some conn) z
    place_by j a conn z q y is_a is_z h =
        subst (λ t. PlaceShows i o v acc.made phase.Informing t (Some conn) z) (sym is_a) (subst (λ t. PlaceShows i o v acc.made phase.Informing (Some q) (Some conn) t) (sym is_z) h)

    standing_at : (j : ℕ) (y : Option ℕ) → slice_get g.ports j ≡ Some y → slice_get (map asked answers) j ≡ Some (asked (is_some y))
    standing_at j y at = mapped_at asked answers j (is_some y) (mapped_at is_some g.ports j y at)

    held_moved : (c : ℕ) (y : Conn I O) → HeldAt i o f.made false [] (held_by (is_over u c false)) c false y → HeldAt i o acc.made false [] (held_by (is_over u c false)) c false y
    held_moved c y h = record {
      id = h.id;
      side = h.side;
      within = omega (arith, h.within, acc.conns_are);
      is = subst (λ (t : Traffics). EndIs i o t false [] (held_by (is_over u c false)) y) (sym acc.traffic_are) h.is;
      taking = ap (λ (t : Traffics). (t c false).over) acc.traffic_are ∙ h.taking;
    }

    open_shows : (j c : ℕ) (at : slice_get conns j ≡ Some (Some c)) → ShowsAt j (Some (Some c))
    open_shows j c at =
        let q = opened j c at in
        let y = sent_there j c q in
        let t = kept_at j c at in
        place_by j (slice_get (map asked answers) j) (Some c) (slice_get links' j) (asked true) (seat.Open t.link) (standing_at j (Some q.port) q.port_is) t.is (record {
          fits = refl;
          seat_is = record {
            end_is = end_from i o v acc.made c false (is_over u c false) t.link.end (over_same c false) (held_moved c t.link.end t.held);
            received = λ z. t.incoming ∙ (y.1.1.incoming ∙ q.dialled.incoming);
            over = t.over_is ∙ (y.1.1.over ∙ (q.dialled.over ∙ sym (over_same c false ∙ is_net.none_over c false q.from)));
            works = t.failed ∙ done.works j c y.0 at y.1.0;
          };
        })

    bare_shows : (j : ℕ) → slice_get conns j ≡ Some None → ShowsAt j (Some None)
    bare_shows j at = place_by j (slice_get (map asked answers) j) None (slice_get links' j) (asked false) seat.Empty (standing_at j None (unanswered_at u.next_conn g.ports j at)) (f.bare j at) (record { fits = refl; seat_is = refl })

    none_shows : (j : ℕ) → slice_get conns j ≡ None → ShowsAt j None
    none_shows j at =
        let a : slice_get (map asked answers) j ≡ None = mapped_none asked answers j (mapped_none is_some g.ports j (nobody_at u.next_conn g.ports j at)) in
        subst (λ z. PlaceShows i o v acc.made phase.Informing z None (slice_get links' j)) (sym a) (subst (λ z. PlaceShows i o v acc.made phase.Informing None None z) (sym (f.none j at)) tt)

    place_shows : (j : ℕ) (q : Option (Option ℕ)) → slice_get conns j ≡ q → ShowsAt j q
    place_shows j (Some (Some c)) at = open_shows j c at
    place_shows j (Some None) at = bare_shows j at
    place_shows j None at = none_shows j at

    -- LOWER ENDS

    lower_some : (j : ℕ) (y : Option ℕ) → slice_get g.ports j ≡ Some y → (x : Option (Conn I O)) × (slice_get lowers j ≡ Some x)
    lower_some j y at = within_some lowers j (let lt = within g.ports j y at in omega (arith, lt, acc.size))

    lower_open : (j c : ℕ) (port : ℕ) (at : slice_get conns j ≡ Some (Some c)) → (x : Option (Conn I O)) → LowerAt r i o f.made u.next_conn g.ports j (Some (Some port)) x → LowerShows i o v acc.made (Some (Some c)) (Some x)
    lower_open j c port at (Some y) a =
        let q = opened j c at in
        lower_end c y (a.id ∙ (ap (λ (m : ℕ). m + somes j g.ports) (sym is_net.conns) ∙ (sym q.dialled.id ∙ q.id))) q.from q.to j a
    lower_open j c port at None a = absurd a

    lower_bare : (j : ℕ) (x : Option (Conn I O)) → LowerAt r i o f.made u.next_conn g.ports j (Some None) x → LowerShows i o v acc.made (Some None) (Some x)
    lower_bare j None a = tt
    lower_bare j (Some y) a = absurd a

    lower_shows : (j : ℕ) (q : Option (Option ℕ)) → slice_get conns j ≡ q → LowerShows i o v acc.made q (slice_get lowers j)
    lower_shows j (Some (Some c)) at =
        let q = opened j c at in
        let x = lower_some j (Some q.port) q.port_is in
        subst (λ z. LowerShows i o v acc.made (Some (Some c)) z) (sym x.1) (lower_open j c q.port at x.0 (subst (λ z. LowerAt r i o f.made u.next_conn g.ports j z x.0) q.port_is (acc.ends j x.0 x.1)))
    lower_shows j (Some None) at =
        let bare = unanswered_at u.next_conn g.ports j at in
        let x = lower_some j None bare in
        subst (λ z. LowerShows i o v acc.made (Some None) z) (sym x.1) (lower_bare j x.0 (subst (λ z. LowerAt r i o f.made u.next_conn g.ports j z x.0) bare (acc.ends j x.0 x.1)))
    lower_shows j None at = subst (λ z. LowerShows i o v acc.made None z) (sym (nothing (slice_get lowers j) refl)) tt
      where
        nothing : (z : Option (Option (Conn I O))) → slice_get lowers j ≡ z → slice_get lowers j ≡ None
        nothing None is = is
        nothing (Some x) is =
            let y = within_some g.ports j (let lt = within lowers j x is in omega (arith, lt, acc.size)) in
            absurd (none_some (slice_get g.ports j) y.0 (nobody_at u.next_conn g.ports j at) y.1)

    -- The lower ends there are say which dials were answered.
    lower_said : (j : ℕ) (x : Option (Conn I O)) (y : Option ℕ) → LowerAt r i o f.made u.next_conn g.ports j (Some y) x → is_some x ≡ is_some y
    lower_said j (Some x) (Some port) a = refl
    lower_said j None None a = refl
    lower_said j None (Some port) a = absurd a
    lower_said j (Some x) None a = absurd a

    pub lowers_say : map is_some lowers ≡ map is_some g.ports
    lowers_say = tests_same is_some is_some lowers g.ports acc.size (λ j x y at_x at_y. lower_said j x y (subst (λ z. LowerAt r i o f.made u.next_conn g.ports j z x) at_y (acc.ends j x at_x)))

    lower_lacks : (j : ℕ) (y : Option ℕ) → LowerAt r i o f.made u.next_conn g.ports j (Some y) None → y ≡ None
    lower_lacks j None a = refl
    lower_lacks j (Some port) a = absurd a

    -- Where there is no lower end the dial wasn't answered.
    pub lower_none : (j : ℕ) → slice_get lowers j ≡ Some None → slice_get g.ports j ≡ Some None
    lower_none j at =
        let y = within_some g.ports j (let lt = within lowers j None at in omega (arith, lt, acc.size)) in
        y.1 ∙ ap Some (lower_lacks j y.0 (subst (λ z. LowerAt r i o f.made u.next_conn g.ports j z None) y.1 (acc.ends j None at)))

    -- The primary leads.
    pub leads_begun : (w : World) (before : Net) (shown : (n : ℕ) (q : Bool) (y : Conn I O) → IsEndOf i o w before n q y → IsEndOf i o u net n q y) (new : running.Primary I O) (office : D) → d.office office ≡ Some u.office → new.core ≡ Some (begun_with block begun members (map is_some g.ports))
        → new.block ≡ block → new.members ≡ members → new.links.items ≡ links' → (node : NodeId) → place.node ≡ node.0 → is_alive u place ≡ true → u.next_conn ≡ w.next_conn → LeadsBegun d r i o w before (happens u e) number node lowers new office road'
    leads_begun w before shown new office at core block_is members_are links_are node at_node alive next = record {
      made = acc.made;
      leading = leading place (begun_with block begun members answers) conns;
      at_node = at_node;
      alive = alive_after u k e place out ∙ alive;
      informs = refl;
      conns_are = ap (λ (n : ℕ). numbered n answers) next ∙ ap (numbered w.next_conn) (sym lowers_say);
      stands = record {
        roads_are = record { is_net = (followed u (apply u k) e out).nets acc.made made_net; sane = acc.roads_at.sane; shows = acc.roads_at.shows };
        shows = record {
          leads_so = ap (λ (x : World). x.primaries number) (happened u (apply u k) e out) ∙ primary_put u k;
          told = refl;
          core = core;
          block = block_is;
          members = members_are;
          places = λ j. subst (λ (xs : List (Seat I O)). PlaceShows i o v acc.made phase.Informing (slice_get (map asked answers) j) (slice_get conns j) (slice_get xs j)) (sym links_are) (place_shows j (slice_get conns j) refl);
        };
      };
      lowers_are = λ j. lower_shows j (slice_get conns j) refl;
      office_is = at ∙ ap Some (sym (office_after_event u k e out));
      others = λ n q y none is. old_end n q y (shown n q y is);
    }
