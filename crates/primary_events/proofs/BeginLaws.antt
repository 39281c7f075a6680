-- A primary that has dialled its members and sent the INIT: its ends are exchanged, and the dials are accepted.
use Rattle.std.proofs.Common.{◌≡◌, ℕ, zero, suc, ◌+◌, ◌<◌, ◌≤◌, Bool, true, false, List, [], ◌∷◌, length, slice_get, Option, Some, None, Ok, ◌⊎◌, inl, inr, refl, sym, ap, ◌∙◌, subst, arith}
use Rattle.std.specs.Prelude.{◌==◌, ◌||◌, if◌then◌else◌, is_some, map, nat_le}
use Rattle.std.proofs.lemmas.List.{length-map}
use Rattle.hd_base.specs.declared.links.LinkIn as link_in
use Rattle.hd_base.specs.declared.links.LinkOut as link_out
use Rattle.hd_base.specs.declared.numbers.BlockId.{BlockId}
use Rattle.hd_base.specs.declared.numbers.ConnId.{ConnId}
use Rattle.hd_base.specs.declared.numbers.NodeId.{NodeId}
use Rattle.hd_base.specs.declared.roads.Roads as roads
use Rattle.hd_base.specs.declared.roads.TheConstants.{FIRST_PORT}
use Rattle.block_recovery.specs.declared.links.Link.{Link}
use Rattle.block_recovery.specs.declared.links.Seat.{Seat}
use Rattle.block_recovery.specs.declared.links.Seat.TheVariants as seat
use Rattle.block_recovery.specs.declared.primary.Primary as running
use Rattle.block_recovery.specs.Actions.{SendsIf, is_due}
use Rattle.block_recovery.specs.Dialling.{is_open}
use Rattle.name_core.specs.declared.calls.Begun.{Begun}
use Rattle.op_headers.specs.declared.ops.Op.TheVariants as op
use Rattle.op_headers.specs.declared.ops.RecoveryKind.TheVariants as kind
use Rattle.recovery_core.specs.Primaries.{PrimaryState, begun_with, is_among, request_of}
use Rattle.road_traffic.specs.Traffic.{Traffic, Traffics, no_traffic}
use Rattle.road_traffic.specs.Showing.{Net, EndIs}
use Rattle.road_traffic.proofs.TrafficLemmas.{same-itself}
use Rattle.world.specs.Parts.{Message, request}
use Rattle.world.specs.Worlds.{World}
use Rattle.world.specs.Primaries.{dials_answered, numbered}
use Rattle.world_primaries.specs.WorldNets.Rows.{rows_of, text_of}
use Rattle.world_primaries.specs.WorldNets.Nets.{IsRow, IsNetOf, held_by, is_over}
use Rattle.world_primaries.specs.Links.{AreDistinct}
use Rattle.client_events.proofs.MemberEvents.CauseLaws.{out_failed}
use Rattle.client_events.proofs.MemberEvents.EndLaws.{HeldAt}
use Rattle.primary_events.specs.Showing.{LinkShows}
use Rattle.primary_events.specs.Updating.{HasRisen, ExchangesWhole, RetiresFailed}
use Rattle.primary_events.proofs.FlushLaws as flush
use Rattle.primary_events.proofs.FlushLaws.{WaitsAt, Flushing, Exchanging, exchanged}
use Rattle.primary_events.proofs.GivingUpLaws.{true_false, any_lost}
use Rattle.primary_events.proofs.NumberLemmas.{answered_same, somes, number_of, numbered_at, number_there, trues, trues_are, number_within, numbered_distinct}
use Rattle.primary_events.proofs.DialLaws.{DialledAt, SeatDialled, Dialling}
use Rattle.primary_events.proofs.PlaceLemmas.{past_none, within, some_same}
use Rattle.primary_events.proofs.RisenLaws.{mapped_at, FailedLink, failed_link, works_at, brought_failed}
use Rattle.primary_events.proofs.SendLaws.{AllSent, SentAt, sent_at, none_some}
use Rattle.primary_events.proofs.UpdateLaws.{within_some}

-- LISTS

-- Two tests that agree at each place.
pub tests_same : {A B : Type 0} (f : A → Bool) (g : B → Bool) (xs : List A) (ys : List B) → length xs ≡ length ys → ((j : ℕ) (x : A) (y : B) → slice_get xs j ≡ Some x → slice_get ys j ≡ Some y → f x ≡ g y) → map f xs ≡ map g ys
tests_same f g [] [] size same = refl
tests_same f g [] (y ∷ ys) size same = absurd (omega (arith, size))
tests_same f g (x ∷ xs) [] size same = absurd (omega (arith, size))
tests_same f g (x ∷ xs) (y ∷ ys) size same =
    ap (λ (b : Bool). b ∷ map f xs) (same 0 x y refl refl)
    ∙ ap (λ (l : List Bool). g y ∷ l) (tests_same f g xs ys (omega (arith, size)) (λ j a b at_x at_y. same (suc j) a b at_x at_y))

among_members : (members : List NodeId) (j : ℕ) (node : NodeId) → slice_get members j ≡ Some node → is_among members node ≡ true
among_members [] j node at = cc
among_members (m ∷ members) zero node at = ap (λ b. b || is_among members node) (ap (λ (x : NodeId). x.0 == node.0) (some_same m node at) ∙ same-itself node.0)
among_members (m ∷ members) (suc j) node at = ap (λ b. (m.0 == node.0) || b) (among_members members j node at) ∙ or_true (m.0 == node.0) where
  or_true : (b : Bool) → (b || true) ≡ true
  or_true true = refl
  or_true false = refl

-- A dial that was answered, by its number.
record Answered (n : ℕ) (ports : List (Option ℕ)) (j c : ℕ) : Type 0 where
  port : ℕ
  is : slice_get ports j ≡ Some (Some port)
  number : n + somes j ports ≡ c

answered_by : (n m : ℕ) (ports : List (Option ℕ)) (j c : ℕ) (q : Option (Option ℕ)) → m ≡ n + somes j ports → slice_get ports j ≡ q → number_of m q ≡ Some (Some c) → Answered n ports j c
answered_by n m ports j c None e is h = cc
answered_by n m ports j c (Some None) e is h = absurd (unlike c h) where
  unlike : (c : ℕ) → ◌≡◌ {A = Option (Option ℕ)} (Some None) (Some (Some c)) → ⊥
  unlike c h = cc
answered_by n m ports j c (Some (Some port)) e is h = record { port = port; is = is; number = sym e ∙ some_same m c (some_same (Some m) (Some c) h) }

answered_at : (n : ℕ) (ports : List (Option ℕ)) (j c : ℕ) → slice_get (numbered n (map is_some ports)) j ≡ Some (Some c) → Answered n ports j c
answered_at n ports j c h = answered_by n (n + somes j ports) ports j c (slice_get ports j) refl refl (sym (numbered_at n ports j) ∙ h)

unanswered_by : (m : ℕ) (q : Option (Option ℕ)) → number_of m q ≡ Some None → q ≡ Some None
unanswered_by m None h = cc
unanswered_by m (Some None) h = refl
unanswered_by m (Some (Some port)) h = absurd (unlike m h) where
  unlike : (m : ℕ) → ◌≡◌ {A = Option (Option ℕ)} (Some (Some m)) (Some None) → ⊥
  unlike m h = cc

pub unanswered_at : (n : ℕ) (ports : List (Option ℕ)) (j : ℕ) → slice_get (numbered n (map is_some ports)) j ≡ Some None → slice_get ports j ≡ Some None
unanswered_at n ports j h = unanswered_by (n + somes j ports) (slice_get ports j) (sym (numbered_at n ports j) ∙ h)

nobody_by : (m : ℕ) (q : Option (Option ℕ)) → number_of m q ≡ None → q ≡ None
nobody_by m None h = refl
nobody_by m (Some None) h = cc
nobody_by m (Some (Some port)) h = cc

pub nobody_at : (n : ℕ) (ports : List (Option ℕ)) (j : ℕ) → slice_get (numbered n (map is_some ports)) j ≡ None → slice_get ports j ≡ None
nobody_at n ports j h = nobody_by (n + somes j ports) (slice_get ports j) (sym (numbered_at n ports j) ∙ h)

module _ {R I O : Type 0} (r : roads.Ghosts R I O) (i : link_in.Ghosts I) (o : link_out.Ghosts O) (u : World) (net : Net) (is_net : IsNetOf u net) (net_sane : (c : ℕ) (d : Bool) → net.conns ≤ c → net.traffic c d ≡ no_traffic)
    (block : BlockId) (begun : Begun) (members : List NodeId) (links : List (Seat I O)) (passed : R) (total : ℕ) (size : length members ≡ total) {base : ℕ} (g : Dialling r i o net members total base total (record { links = links; road = passed })) where
  abbrev ports : List (Option ℕ)
  ports = g.ports

  abbrev pub answers : List Bool
  answers = map is_some g.ports

  abbrev pub conns : List (Option ℕ)
  conns = numbered u.next_conn answers

  abbrev core : PrimaryState
  core = begun_with block begun members answers

  abbrev first : Message
  first = request (op.Recovery (request_of core kind.Init 0))

  abbrev sends_at : ℕ → List Message
  sends_at j = first ∷ []

  abbrev shuts_at : ℕ → Bool
  shuts_at j = false

  -- AS THE MEMBERS WERE DIALLED

  open_by : (j : ℕ) (x : Seat I O) (y : Option ℕ) → SeatDialled r i o net members total g.ports j y (Some x) → is_open x ≡ is_some y
  open_by j (seat.Open l) (Some port) h = refl
  open_by j seat.Empty None h = refl
  open_by j seat.Empty (Some port) h = absurd h
  open_by j seat.Lost (Some port) h = absurd h
  open_by j (seat.Open l) None h = absurd h
  open_by j seat.Lost None h = absurd h

  -- The dials that were answered are those whose connections there are.
  pub opens_are : map is_open links ≡ answers
  opens_are = tests_same is_open is_some links g.ports (g.count ∙ sym g.size) (λ j x y at_x at_y. open_by j x y (subst (λ (z : Option (Seat I O)). SeatDialled r i o net members total g.ports j y z) at_x (g.seats j y at_y)))

  -- A connection that was dialled.
  pub record OpenAt (j c : ℕ) : Type 0 where
    pub port : ℕ
    pub port_is : slice_get g.ports j ≡ Some (Some port)
    pub link : Link I O
    pub link_is : slice_get links j ≡ Some (seat.Open link)
    pub dialled : DialledAt r i o net members total g.ports j port link
    pub id : link.end.id.0 ≡ c
    pub from : u.next_conn ≤ c
    pub to : c < g.made.conns

  seat_by : (j c : ℕ) (port : ℕ) (z : Option (Seat I O)) → slice_get links j ≡ z → SeatDialled r i o net members total g.ports j (Some port) z → (l : Link I O) × ((slice_get links j ≡ Some (seat.Open l)) × DialledAt r i o net members total g.ports j port l)
  seat_by j c port (Some (seat.Open l)) at h = (l, (at, h))
  seat_by j c port (Some seat.Empty) at h = absurd h
  seat_by j c port (Some seat.Lost) at h = absurd h
  seat_by j c port None at h = absurd h

  pub open_at : (j c : ℕ) → slice_get conns j ≡ Some (Some c) → OpenAt j c
  open_at j c at =
      let a = answered_at u.next_conn g.ports j c at in
      let s = seat_by j c a.port (slice_get links j) refl (g.seats j (Some a.port) a.is) in
      let n = number_within u.next_conn answers j c at in
      let counted : trues answers ≡ somes total g.ports = trues_are g.ports ∙ ap (λ (m : ℕ). somes m g.ports) g.size in
      record {
        port = a.port;
        port_is = a.is;
        link = s.0;
        link_is = s.1.0;
        dialled = s.1.1;
        id = s.1.1.id ∙ (ap (λ (m : ℕ). m + somes j g.ports) is_net.conns ∙ a.number);
        from = n.0;
        to = omega (arith, n.1, counted, g.conns_are, is_net.conns);
      }

  link_shows : (j c : ℕ) (q : OpenAt j c) → LinkShows i o u g.made c q.link
  link_shows j c q = record {
    end_is = record {
      id = q.id;
      side = q.dialled.side;
      within = q.to;
      is = subst (λ (t : Traffics). EndIs i o t false [] (held_by (is_over u c false)) q.link.end) (sym g.traffic_are)
          (subst (λ (b : Bool). EndIs i o net.traffic false [] (held_by b) q.link.end) (sym fresh) q.dialled.is);
      taking = ap (λ (t : Traffics). (t c false).over) g.traffic_are ∙ ap (λ (t : Traffic). t.over) (net_sane c false (omega (arith, q.from, is_net.conns)));
    };
    received = λ z. q.dialled.incoming;
    over = q.dialled.over ∙ sym fresh;
    works = q.dialled.failed;
  }
    where
      fresh : is_over u c false ≡ false
      fresh = is_net.none_over c false q.from

  bare_by : (j : ℕ) (z : Option (Seat I O)) → SeatDialled r i o net members total g.ports j None z → z ≡ Some seat.Empty
  bare_by j (Some seat.Empty) h = refl
  bare_by j (Some (seat.Open l)) h = absurd h
  bare_by j (Some seat.Lost) h = absurd h
  bare_by j None h = absurd h

  bare_dialled : (j : ℕ) → slice_get conns j ≡ Some None → slice_get links j ≡ Some seat.Empty
  bare_dialled j at = bare_by j (slice_get links j) (g.seats j None (unanswered_at u.next_conn g.ports j at))

  none_dialled : (j : ℕ) → slice_get conns j ≡ None → slice_get links j ≡ None
  none_dialled j at = past_none links j (λ lt. absurd (none_there (within_some g.ports j (omega (arith, lt, g.count, g.size))))) where
    none_there : (x : Option ℕ) × (slice_get g.ports j ≡ Some x) → ⊥
    none_there x = none_some (slice_get g.ports j) x.0 (nobody_at u.next_conn g.ports j at) x.1

  member_at : (j c : ℕ) → OpenAt j c → (node : NodeId) × (slice_get members j ≡ Some node)
  member_at j c q = within_some members j (let lt = within links j (seat.Open q.link) q.link_is in omega (arith, lt, g.count, size))

  due_at : (j c : ℕ) → OpenAt j c → is_due members (slice_get members j) ≡ true
  due_at j c q = let m = member_at j c q in ap (is_due members) m.1 ∙ among_members members j m.0 m.1

  -- IN THE WORLD

  running_at : (j : ℕ) (node : NodeId) → slice_get members j ≡ Some node → slice_get answers j ≡ Some true → u.running node.0 ≡ true
  running_at j node at on = by (within_some g.ports j (let lt = within answers j true on in omega (arith, lt, length-map g.ports is_some)))
    where
      port_was : (port : ℕ) (b : Bool) → (if b then Some (FIRST_PORT + node.0) else None) ≡ Some port → FIRST_PORT + node.0 ≡ port
      port_was port true h = some_same (FIRST_PORT + node.0) port h
      port_was port false h = cc

      by_port : (y : Option ℕ) → slice_get g.ports j ≡ Some y → is_some y ≡ true → u.running node.0 ≡ true
      by_port None at_y h = cc
      by_port (Some port) at_y h =
          let c = u.next_conn + somes j g.ports in
          let q = open_at j c (number_there u.next_conn g.ports j port at_y) in
          let is : FIRST_PORT + node.0 ≡ q.port = port_was q.port (nat_le (FIRST_PORT + node.0) 65535) (q.dialled.port_is node at) in
          sym (is_net.listens node.0) ∙ (ap net.listens is ∙ q.dialled.listens)

      by : (y : Option ℕ) × (slice_get g.ports j ≡ Some y) → u.running node.0 ≡ true
      by y = by_port y.0 y.1 (some_same (is_some y.0) true (sym (mapped_at is_some g.ports j y.0 y.1) ∙ on))

  -- The dials are answered so in the world.
  pub answers_are : dials_answered u members answers ≡ answers
  answers_are = answered_same u members answers (length-map g.ports is_some ∙ (g.size ∙ sym size)) running_at

  -- the connection of a link
  conn_by : (j : ℕ) (y : Link I O) (x : Option ℕ) → slice_get g.ports j ≡ Some x → SeatDialled r i o net members total g.ports j x (Some (seat.Open y)) → (c : ℕ) × (slice_get conns j ≡ Some (Some c))
  conn_by j y (Some port) at h = (u.next_conn + somes j g.ports, number_there u.next_conn g.ports j port at)
  conn_by j y None at h = absurd h

  pub conn_at : (j : ℕ) (y : Link I O) → slice_get links j ≡ Some (seat.Open y) → (c : ℕ) × (slice_get conns j ≡ Some (Some c))
  conn_at j y is =
      let x = within_some g.ports j (let lt = within links j (seat.Open y) is in omega (arith, lt, g.count, g.size)) in
      conn_by j y x.0 x.1 (subst (λ (z : Option (Seat I O)). SeatDialled r i o net members total g.ports j x.0 z) is (g.seats j x.0 x.1))

  -- AS THE INIT WAS SENT

  module _ (held : List (Seat I O)) (sent : AllSent o (text_of first) members members links held) where
    sent_by : (j c : ℕ) (q : OpenAt j c) (b : Bool) (z : Seat I O) → b ≡ true → slice_get held j ≡ Some z → SendsIf o (text_of first) b (seat.Open q.link) z (Ok tt)
        → (y : Link I O) × ((slice_get held j ≡ Some (seat.Open y)) × SentAt i o u g.made (map text_of (sends_at j)) c q.link y)
    sent_by j c q true (seat.Open y) on is h = (y, (is, sent_at i o u g.made c q.link (link_shows j c q) (text_of first) y h))
    sent_by j c q true seat.Empty on is h = absurd (flush.lost_open q.link (ap Some (sym h.0)))
    sent_by j c q true seat.Lost on is h = absurd (unlike q.link h.0) where
      unlike : (y : Link I O) → ◌≡◌ {A = Seat I O} seat.Lost (seat.Open y) → ⊥
      unlike y e = cc
    sent_by j c q false z on is h = absurd (true_false (sym on))

    pub seats : (j c : ℕ) (q : OpenAt j c) → (y : Link I O) × ((slice_get held j ≡ Some (seat.Open y)) × SentAt i o u g.made (map text_of (sends_at j)) c q.link y)
    seats j c q =
        let t = sent.each j (seat.Open q.link) q.link_is in
        sent_by j c q (is_due members (slice_get members j)) t.0 (due_at j c q) t.1.0 t.1.1

    empty_by : (q : Bool) (z : Seat I O) → SendsIf o (text_of first) q seat.Empty z (Ok tt) → z ≡ seat.Empty
    empty_by true z h = h.0
    empty_by false z h = h.0

    bare_at : (j : ℕ) → slice_get conns j ≡ Some None → slice_get held j ≡ Some seat.Empty
    bare_at j at =
        let t = sent.each j seat.Empty (bare_dialled j at) in
        t.1.0 ∙ ap Some (empty_by (is_due members (slice_get members j)) t.0 t.1.1)

    none_at : (j : ℕ) → slice_get conns j ≡ None → slice_get held j ≡ None
    none_at j at = sent.none j (none_dialled j at)

    same_link : (y z : Link I O) → ◌≡◌ {A = Option (Seat I O)} (Some (seat.Open y)) (Some (seat.Open z)) → y ≡ z
    same_link y z h = cc

    waits_at : (j c : ℕ) (y : Link I O) → slice_get conns j ≡ Some (Some c) → slice_get held j ≡ Some (seat.Open y) → WaitsAt r i o u g.made conns sends_at shuts_at held g.made j c y (slice_get held j)
    waits_at j c y at is =
        let t = seats j c (open_at j c at) in
        record {
          is = is;
          held = subst (λ (z : Link I O). z.failed ≡ false → HeldAt i o g.made false (map text_of (sends_at j)) (held_by (is_over u c false)) c false z.end) (same_link t.0 y (sym t.1.0 ∙ is)) t.1.1.held;
        }

    started : Flushing r i o u g.made conns sends_at shuts_at held (λ j. false) (record { links = held; road = passed })
    started = record {
      made = g.made;
      rows = rows_of u;
      roads_at = g.roads_at;
      conns_are = refl;
      listens_are = refl;
      waiting_are = refl;
      are = λ c d. subst (λ (t : Traffics). IsRow (rows_of u c d) (t c d)) (sym g.traffic_are) (is_net.rows_are c d);
      early = λ x q none. refl;
      late = λ j x q on at. absurd (true_false (sym on));
      waits = λ j x y off at is. waits_at j x y at is;
      given = λ j x on shut at. absurd (true_false (sym on));
      kept = λ j x y on keeps at is. absurd (true_false (sym on));
      bare = bare_at;
      none = none_at;
      others = λ n q x none is. is;
    }

    distinct : AreDistinct conns
    distinct = numbered_distinct u.next_conn answers

    -- A LINK THAT FAILED

    failed_conn : (j : ℕ) (y : Link I O) → slice_get held j ≡ Some (seat.Open y) → (q : Option (Option ℕ)) → slice_get conns j ≡ q → (c : ℕ) × (slice_get conns j ≡ Some (Some c))
    failed_conn j y is (Some (Some c)) at = (c, at)
    failed_conn j y is (Some None) at = absurd (flush.lost_open y (sym is ∙ bare_at j at))
    failed_conn j y is None at = absurd (none_some (slice_get held j) (seat.Open y) (none_at j at) is)

    -- The connection of a link that failed has an end that was brought back with a count that had risen.
    pub retired_risen : (old new : running.Primary I O) (road road' : R) → old.links.items ≡ held → RetiresFailed r i o old new road road' → HasRisen r conns road'
    retired_risen old new road road' same x = by_link (failed_link old.links.items x.fails)
      where
        by_sent : (j c : ℕ) (y x' : Link I O) → slice_get conns j ≡ Some (Some c) → slice_get old.links.items j ≡ Some (seat.Open y) → y.failed ≡ true → SentAt i o u g.made (map text_of (sends_at j)) c x' y → HasRisen r conns road'
        by_sent j c y x' at stands fails s = ends (brought_failed r i o j y (out_failed i o (s.rose fails).0 y.end (s.rose fails).1) old.links.items new.links.items road road' x.brings.brings stands)
          where
            ends : (r.risen road' y.end.id.0 ≡ true) ⊎ (slice_get new.links.items j ≡ Some seat.Lost) → HasRisen r conns road'
            ends (inl h) = record { place = j; conn = c; stands = at; rose = subst (λ (n : ℕ). r.risen road' n ≡ true) s.id h }
            ends (inr h) = absurd (true_false (sym (any_lost new.links.items j h) ∙ x.brings.none_lost))

        by_conn : (j c : ℕ) (y : Link I O) → slice_get conns j ≡ Some (Some c) → slice_get old.links.items j ≡ Some (seat.Open y) → y.failed ≡ true → HasRisen r conns road'
        by_conn j c y at stands fails =
            let q = open_at j c at in
            let t = seats j c q in
            let one : y ≡ t.0 = same_link y t.0 (sym stands ∙ (ap (λ (xs : List (Seat I O)). slice_get xs j) same ∙ t.1.0)) in
            by_sent j c t.0 q.link at (stands ∙ ap (λ (z : Link I O). Some (seat.Open z)) one) (sym (ap (λ (z : Link I O). z.failed) one) ∙ fails) t.1.1

        by_link : FailedLink old.links.items → HasRisen r conns road'
        by_link f =
            let c = failed_conn f.place f.link (sym (ap (λ (xs : List (Seat I O)). slice_get xs f.place) same) ∙ f.stands) (slice_get conns f.place) refl in
            by_conn f.place c.0 f.link c.1 f.stands f.fails

    -- ALL WORK

    pub record AllFlushed (links' : List (Seat I O)) (road' : R) : Type 0 where
      pub done : ℕ → Bool
      pub state : Flushing r i o u g.made conns sends_at shuts_at held done (record { links = links'; road = road' })
      pub all : (j c : ℕ) → slice_get conns j ≡ Some (Some c) → done j ≡ true
      pub works : (j c : ℕ) (y : Link I O) → slice_get conns j ≡ Some (Some c) → slice_get held j ≡ Some (seat.Open y) → y.failed ≡ false

    -- Where no link failed all ends were exchanged.
    pub all_flushed : (old new : running.Primary I O) (ids : List (Option ConnId)) (road' : R) → old.links.items ≡ held → ExchangesWhole r i o ids old new passed road' → AllFlushed new.links.items road'
    all_flushed old new ids road' same x = record {
      done = last.done;
      state = last.state;
      all = λ j c at. last.before j c (few j c at) at;
      works = works;
    }
      where
        works : (j c : ℕ) (y : Link I O) → slice_get conns j ≡ Some (Some c) → slice_get held j ≡ Some (seat.Open y) → y.failed ≡ false
        works j c y at is = works_at old.links.items j y x.work (ap (λ (xs : List (Seat I O)). slice_get xs j) same ∙ is)

        last : Exchanging r i o u g.made conns sends_at shuts_at held distinct x.exchanges.count (record { links = new.links.items; road = road' })
        last = exchanged r i o u g.made conns sends_at shuts_at held distinct
            (λ j c at. let t = seats j c (open_at j c at) in (t.0, (t.1.0, λ keeps. works j c t.0 at t.1.0)))
            old.links.items new.links.items passed road'
            (record {
              done = λ j. false;
              state = subst (λ (xs : List (Seat I O)). Flushing r i o u g.made conns sends_at shuts_at held (λ j. false) (record { links = xs; road = passed })) (sym same) started;
              before = λ j c lt at. absurd (omega (arith, lt));
              behind = λ j c le at. refl;
            })
            x.exchanges

        few : (j c : ℕ) → slice_get conns j ≡ Some (Some c) → j < x.exchanges.count
        few j c at =
            let t = seats j c (open_at j c at) in
            let lt = within held j (seat.Open t.0) t.1.0 in
            omega (arith, lt, ap (λ (xs : List (Seat I O)). length xs) same, x.exchanges.ends.1)
