-- A primary that dials each member, one after the other.
use Rattle.std.proofs.Common.{◌≡◌, ℕ, zero, suc, ◌+◌, ◌<◌, ◌≤◌, Bool, true, false, List, [], ◌∷◌, ◌++◌, length, slice_get, Option, Some, None, IfSome, Result, Ok, ◌⊎◌, inl, inr, refl, sym, ap, ◌∙◌, subst, arith}
use Rattle.std.specs.Prelude.{◌==◌, cond}
use Rattle.std.proofs.lemmas.List.{length-append, length-set}
use Rattle.std.specs.declared.alloc.AllocError.{AllocError}
use Rattle.hd_base.specs.Channels.{Plain}
use Rattle.hd_base.specs.Faults.{FaultsIncreased}
use Rattle.hd_base.specs.declared.links.LinkIn as link_in
use Rattle.hd_base.specs.declared.links.LinkOut as link_out
use Rattle.hd_base.specs.declared.numbers.NodeId.{NodeId}
use Rattle.hd_base.specs.declared.roads.Roads as roads
use Rattle.block_recovery.specs.declared.links.Link.{Link}
use Rattle.block_recovery.specs.declared.links.Seat.{Seat}
use Rattle.block_recovery.specs.declared.links.Seat.TheVariants as seat
use Rattle.block_recovery.specs.Actions.{Held, Passes, DialsNode, DialsAt, DialsAll}
use Rattle.block_recovery.specs.Dialling.{dial_port, IsLink, DialsPort, DialsAs}
use Rattle.block_recovery.specs.LinkMessages.Incomings.{nothing_received}
use Rattle.link_pieces.specs.Roads.{IsUnanswered}
use Rattle.road_traffic.specs.Traffic.{Traffics}
use Rattle.road_traffic.specs.Showing.{Net, IsSane, RoadsShow, EndIs, no_inbox, dialled_net}
use Rattle.road_traffic.specs.Laws.{ShowsDialled}
use Rattle.road_traffic.proofs.CallLemmas.{dialled-shows}
use Rattle.road_traffic.proofs.ShowingLemmas.{roads-same}
use Rattle.client_events.proofs.MemberEvents.EndLaws.{RoadsAt}
use Rattle.primary_events.proofs.NumberLemmas.{somes, somes_more, somes_none, somes_some, queue, queue_none, queue_some}
use Rattle.primary_events.proofs.PlaceLemmas.{set_here, set_there, within, some_same}

-- A list with one element more.
pub at_push : {A : Type 0} (xs : List A) (y : A) (j : ℕ) (x : A) → slice_get (xs ++ y ∷ []) j ≡ Some x → ((j ≡ length xs) × (x ≡ y)) ⊎ (slice_get xs j ≡ Some x)
at_push [] y zero x h = inl (refl, sym (some_same y x h))
at_push [] y (suc j) x h = cc
at_push (z ∷ xs) y zero x h = inr h
at_push (z ∷ xs) y (suc j) x h = by (at_push xs y j x h) where
  by : ((j ≡ length xs) × (x ≡ y)) ⊎ (slice_get xs j ≡ Some x) → ((suc j ≡ suc (length xs)) × (x ≡ y)) ⊎ (slice_get xs j ≡ Some x)
  by (inl e) = inl (ap suc e.0, e.1)
  by (inr e) = inr e

-- COUNTS

no_less : (n : ℕ) → n ≤ n
no_less n = omega arith

-- A count that has risen has risen from each earlier one, and at each later one.
pub rises_from : (a b n : ℕ) → a ≤ b → FaultsIncreased b n → FaultsIncreased a n
rises_from a b n h q = omega arith

pub rises_on : (a n m : ℕ) → FaultsIncreased a n → n ≤ m → FaultsIncreased a m
rises_on a n m q h = omega arith

-- OPTIONS

some_none : (port : ℕ) → ◌≡◌ {A = Option ℕ} (Some port) None → ⊥
some_none port h = cc

no_member : (n : NodeId) → ◌≡◌ {A = Option NodeId} None (Some n) → ⊥
no_member n h = cc

pub sane_dialled : (net : Net) (port : ℕ) → IsSane net → IsSane (dialled_net net port)
sane_dialled net port s = record { fits = s.fits; fresh = λ c d h. s.fresh c d (omega (arith, h)) }

module _ {R I O : Type 0} (r : roads.Ghosts R I O) (i : link_in.Ghosts I) (o : link_out.Ghosts O) (net : Net) (members : List NodeId) (total : ℕ) where
  -- The upper end of a dial of this port, of which nothing was done.
  pub record DialledAt (ports : List (Option ℕ)) (j port : ℕ) (link : Link I O) : Type 0 where
    pub id : link.end.id.0 ≡ net.conns + somes j ports
    pub side : link.end.lower ≡ false
    pub is : EndIs i o net.traffic false [] no_inbox link.end
    pub incoming : link.incoming ≡ nothing_received
    pub failed : link.failed ≡ false
    pub over : link.over ≡ false
    pub listens : net.listens port ≡ true
    pub port_is : (node : NodeId) → slice_get members j ≡ Some node → dial_port node ≡ Some port

  abbrev pub SeatDialled : List (Option ℕ) → ℕ → Option ℕ → Option (Seat I O) → Type 0
  SeatDialled ports j (Some port) (Some (seat.Open l)) = DialledAt ports j port l
  SeatDialled ports j None (Some seat.Empty) = Unit {0}
  SeatDialled ports j port place = ⊥

  -- A dial of the node isn't answered: nobody listens at its port, or the roads' count has risen from this one.
  abbrev pub IsSilent : ℕ → NodeId → R → Type 0
  IsSilent base node road = (port : ℕ) → dial_port node ≡ Some port → (net.listens port ≡ false) ⊎ FaultsIncreased base (r.faults road)

  -- The members so far were dialled: at these ports, those that answered. The roads' count was this one before.
  pub record Dialling (base k : ℕ) (held : Held R I O) : Type 0 where
    pub ports : List (Option ℕ)
    pub size : length ports ≡ k
    pub count : length held.links ≡ total
    pub few : k ≤ total
    pub made : Net
    pub roads_at : RoadsAt r made held.road
    pub conns_are : made.conns ≡ net.conns + somes k ports
    pub listens_are : made.listens ≡ net.listens
    pub traffic_are : made.traffic ≡ net.traffic
    pub waiting_are : (at : ℕ) → made.waiting at ≡ queue at net.conns ports
    pub seats : (j : ℕ) (port : Option ℕ) → slice_get ports j ≡ Some port → SeatDialled ports j port (slice_get held.links j)
    pub never_falls : base ≤ r.faults held.road
    pub silent : (j : ℕ) (node : NodeId) → slice_get members j ≡ Some node → slice_get ports j ≡ Some None → IsSilent base node held.road

  seat_more : (ports : List (Option ℕ)) (x : Option ℕ) (j : ℕ) (port : Option ℕ) (place : Option (Seat I O)) → j ≤ length ports → SeatDialled ports j port place → SeatDialled (ports ++ x ∷ []) j port place
  seat_more ports x j (Some port) (Some (seat.Open l)) h s = record {
    id = s.id ∙ ap (λ (n : ℕ). net.conns + n) (sym (somes_more j ports x h));
    side = s.side;
    is = s.is;
    incoming = s.incoming;
    failed = s.failed;
    over = s.over;
    listens = s.listens;
    port_is = s.port_is;
  }
  seat_more ports x j (Some port) (Some seat.Empty) h s = absurd s
  seat_more ports x j (Some port) (Some seat.Lost) h s = absurd s
  seat_more ports x j (Some port) None h s = absurd s
  seat_more ports x j None (Some (seat.Open l)) h s = absurd s
  seat_more ports x j None (Some seat.Empty) h s = tt
  seat_more ports x j None (Some seat.Lost) h s = absurd s
  seat_more ports x j None None h s = absurd s

  -- ONE MEMBER

  module _ (base k : ℕ) (a b : Held R I O) (at : DialsAt r i o members (Ok tt) k a b) (g : Dialling base k a) where
    last : k ≡ length g.ports
    last = sym g.size

    below : k < total
    below = let h = within a.links k at.before at.stood in omega (arith, h, g.count)

    here_is : slice_get b.links k ≡ Some at.after
    here_is = ap (λ (xs : List (Seat I O)). slice_get xs k) at.stands ∙ set_here a.links k at.before at.after at.stood

    counted : length b.links ≡ total
    counted = ap (λ (xs : List (Seat I O)). length xs) at.stands ∙ (length-set a.links k at.after ∙ g.count)

    grown : (x : Option ℕ) → length (g.ports ++ x ∷ []) ≡ suc k
    grown x = length-append g.ports (x ∷ []) ∙ omega (arith, g.size)

    all_seats : (x : Option ℕ) → SeatDialled (g.ports ++ x ∷ []) k x (Some at.after) → (j : ℕ) (port : Option ℕ) → slice_get (g.ports ++ x ∷ []) j ≡ Some port → SeatDialled (g.ports ++ x ∷ []) j port (slice_get b.links j)
    all_seats x here j port is = by (at_push g.ports x j port is)
      where
        by : ((j ≡ length g.ports) × (port ≡ x)) ⊎ (slice_get g.ports j ≡ Some port) → SeatDialled (g.ports ++ x ∷ []) j port (slice_get b.links j)
        by (inl e) =
            let same : k ≡ j = last ∙ sym e.0 in
            subst (λ (y : Option ℕ). SeatDialled (g.ports ++ x ∷ []) j y (slice_get b.links j)) (sym e.1)
            (subst (λ (n : ℕ). SeatDialled (g.ports ++ x ∷ []) n x (slice_get b.links n)) same
            (subst (λ (z : Option (Seat I O)). SeatDialled (g.ports ++ x ∷ []) k x z) (sym here_is) here))
        by (inr e) =
            let lt : j < length g.ports = within g.ports j port e in
            let there : slice_get b.links j ≡ slice_get a.links j = ap (λ (xs : List (Seat I O)). slice_get xs j) at.stands ∙ set_there a.links k at.after j (λ q. omega (arith, lt, q, last)) in
            subst (λ (z : Option (Seat I O)). SeatDialled (g.ports ++ x ∷ []) j port z) (sym there) (seat_more g.ports x j port (slice_get a.links j) (omega (arith, lt)) (g.seats j port e))

    falls_on : r.faults a.road ≤ r.faults b.road → base ≤ r.faults b.road
    falls_on later = omega (arith, g.never_falls, later)

    all_silent : (x : Option ℕ) → r.faults a.road ≤ r.faults b.road → (x ≡ None → (node : NodeId) → slice_get members k ≡ Some node → IsSilent base node b.road)
        → (j : ℕ) (node : NodeId) → slice_get members j ≡ Some node → slice_get (g.ports ++ x ∷ []) j ≡ Some None → IsSilent base node b.road
    all_silent x later here j node member_is none = by (at_push g.ports x j None none)
      where
        still : (port : ℕ) → (net.listens port ≡ false) ⊎ FaultsIncreased base (r.faults a.road) → (net.listens port ≡ false) ⊎ FaultsIncreased base (r.faults b.road)
        still port (inl quiet) = inl quiet
        still port (inr rose) = inr (rises_on base (r.faults a.road) (r.faults b.road) rose later)

        by : ((j ≡ length g.ports) × (◌≡◌ {A = Option ℕ} None x)) ⊎ (slice_get g.ports j ≡ Some None) → IsSilent base node b.road
        by (inl e) = here (sym e.1) node (ap (λ (n : ℕ). slice_get members n) (last ∙ sym e.0) ∙ member_is)
        by (inr e) = λ port is. still port (g.silent j node member_is e port is)

    -- it wasn't dialled, or didn't answer
    rests : RoadsShow r g.made b.road → at.after ≡ seat.Empty → r.faults a.road ≤ r.faults b.road → ((node : NodeId) → slice_get members k ≡ Some node → IsSilent base node b.road) → Dialling base (suc k) b
    rests shows empty later why = record {
      ports = g.ports ++ None ∷ [];
      size = grown None;
      count = counted;
      few = omega (arith, below);
      made = g.made;
      roads_at = record { sane = g.roads_at.sane; shows = shows };
      conns_are = g.conns_are ∙ ap (λ (n : ℕ). net.conns + n) (sym (subst (λ (n : ℕ). somes (suc n) (g.ports ++ None ∷ []) ≡ somes n g.ports) g.size (somes_none g.ports)));
      listens_are = g.listens_are;
      traffic_are = g.traffic_are;
      waiting_are = λ p. g.waiting_are p ∙ sym (queue_none p net.conns g.ports);
      seats = all_seats None (subst (λ (z : Seat I O). SeatDialled (g.ports ++ None ∷ []) k None (Some z)) (sym empty) tt);
      never_falls = falls_on later;
      silent = all_silent None later (λ e. why);
    }

    -- it answered
    answers : (node : NodeId) (port : ℕ) (l : Link I O) → slice_get members k ≡ Some node → dial_port node ≡ Some port → at.after ≡ seat.Open l → IsLink r i o port a.road b.road l → Dialling base (suc k) b
    answers node port l member_is port_is is link = record {
      ports = g.ports ++ Some port ∷ [];
      size = grown (Some port);
      count = counted;
      few = omega (arith, below);
      made = dialled_net g.made port;
      roads_at = record { sane = sane_dialled g.made port g.roads_at.sane; shows = shown.both.road_shows };
      conns_are = omega (arith, g.conns_are, subst (λ (n : ℕ). somes (suc n) (g.ports ++ Some port ∷ []) ≡ suc (somes n g.ports)) g.size (somes_some g.ports port));
      listens_are = g.listens_are;
      traffic_are = g.traffic_are;
      waiting_are = waits;
      seats = all_seats (Some port) (subst (λ (z : Seat I O). SeatDialled (g.ports ++ Some port ∷ []) k (Some port) (Some z)) (sym is) (record {
        id = shown.number ∙ (g.conns_are ∙ ap (λ (n : ℕ). net.conns + n) (sym (somes_more k g.ports (Some port) (omega (arith, g.size)))));
        side = shown.upper;
        is = subst (λ (t : Traffics). EndIs i o t false [] no_inbox l.end) g.traffic_are shown.both.end_is;
        incoming = link.incoming;
        failed = link.failed;
        over = link.over;
        listens = sym (ap (λ (f : ℕ → Bool). f port) g.listens_are) ∙ (sym (g.roads_at.shows.holds.listening port) ∙ on);
        port_is = λ n here. ap dial_port (some_same n node (sym here ∙ member_is)) ∙ port_is;
      }));
      never_falls = falls_on link.dialled.never_falls;
      silent = all_silent (Some port) link.dialled.never_falls (λ e. absurd (some_none port e));
    }
      where
        shown : ShowsDialled r i o g.made port b.road l.end
        shown = dialled-shows r i o port a.road b.road l.end link.dialled g.made g.roads_at.sane g.roads_at.shows

        on : g.roads_at.shows.plain.listening port ≡ true
        on = subst (λ (y : Option Plain). IfSome y (λ p. p.listening port ≡ true)) g.roads_at.shows.is link.listens

        waits : (p : ℕ) → cond (p == port) (g.made.waiting p ++ g.made.conns ∷ []) (g.made.waiting p) ≡ queue p net.conns (g.ports ++ Some port ∷ [])
        waits p =
            ap (λ (l : List ℕ). cond (p == port) (l ++ g.made.conns ∷ []) l) (g.waiting_are p)
            ∙ (ap (λ (n : ℕ). cond (p == port) (queue p net.conns g.ports ++ n ∷ []) (queue p net.conns g.ports)) (g.conns_are ∙ ap (λ (m : ℕ). net.conns + somes m g.ports) last)
            ∙ sym (queue_some p net.conns g.ports port))

    -- nobody listens there, or the count rose
    unanswered : (node : NodeId) (port : ℕ) → slice_get members k ≡ Some node → dial_port node ≡ Some port → IsUnanswered r port a.road b.road → (n : NodeId) → slice_get members k ≡ Some n → IsSilent base n b.road
    unanswered node port member_is port_is x n here p is = subst (λ (q : ℕ). (net.listens q ≡ false) ⊎ FaultsIncreased base (r.faults b.road)) same (by x.cause)
      where
        same : port ≡ p
        same = some_same port p (sym port_is ∙ (ap dial_port (some_same node n (sym member_is ∙ here)) ∙ is))

        quiet : IfSome (r.plain a.road) (λ y. y.listening port ≡ false) → net.listens port ≡ false
        quiet off =
            sym (ap (λ (f : ℕ → Bool). f port) g.listens_are)
            ∙ (sym (g.roads_at.shows.holds.listening port) ∙ subst (λ (y : Option Plain). IfSome y (λ z. z.listening port ≡ false)) g.roads_at.shows.is off)

        by : IfSome (r.plain a.road) (λ y. y.listening port ≡ false) ⊎ FaultsIncreased (r.faults a.road) (r.faults b.road) → (net.listens port ≡ false) ⊎ FaultsIncreased base (r.faults b.road)
        by (inl off) = inl (quiet off)
        by (inr rose) = inr (rises_from base (r.faults a.road) (r.faults b.road) g.never_falls rose)

    by_port : (node : NodeId) (port : ℕ) → slice_get members k ≡ Some node → dial_port node ≡ Some port → (z : Seat I O) → at.after ≡ z → DialsPort r i o port a.road b.road (Ok z) → Dialling base (suc k) b
    by_port node port member_is port_is (seat.Open l) is h = answers node port l member_is port_is is h
    by_port node port member_is port_is seat.Empty is h = rests (roads-same r i o g.made a.road b.road g.roads_at.shows h.kept.plain h.kept.carried) is h.kept.never_falls (unanswered node port member_is port_is h)
    by_port node port member_is port_is seat.Lost is h = absurd h

    same_road : b.road ≡ a.road → RoadsShow r g.made b.road
    same_road e = subst (λ (z : R). RoadsShow r g.made z) (sym e) g.roads_at.shows

    same_falls : b.road ≡ a.road → r.faults a.road ≤ r.faults b.road
    same_falls e = subst (λ (z : R). r.faults a.road ≤ r.faults z) (sym e) (no_less (r.faults a.road))

    ok_same : (x y : Seat I O) → ◌≡◌ {A = Result (Seat I O) AllocError} (Ok x) (Ok y) → x ≡ y
    ok_same x y e = cc

    by_node : (node : NodeId) → slice_get members k ≡ Some node → (q : Option ℕ) → dial_port node ≡ q → DialsAs r i o q a.road b.road (Ok at.after) → Dialling base (suc k) b
    by_node node member_is None port_is h =
        rests (same_road h.0) (ok_same at.after seat.Empty h.1) (same_falls h.0)
        (λ n here port is. absurd (some_none port (sym is ∙ (ap dial_port (some_same n node (sym here ∙ member_is)) ∙ port_is))))
    by_node node member_is (Some port) port_is h = by_port node port member_is port_is at.after refl h

    by_member : (q : Option NodeId) → slice_get members k ≡ q → DialsNode r i o q a.road b.road at.after → Dialling base (suc k) b
    by_member None member_is h = rests (same_road h.0) h.1 (same_falls h.0) (λ n here port is. absurd (no_member n (sym member_is ∙ here)))
    by_member (Some node) member_is h = by_node node member_is (dial_port node) refl h

    one_dialled : Dialling base (suc k) b
    one_dialled = by_member (slice_get members k) refl at.is

  -- ALL MEMBERS

  all_dialled : (base k : ℕ) (a b : Held R I O) → Passes (DialsAt r i o members (Ok tt)) k a b → Dialling base 0 a → Dialling base k b
  all_dialled base zero a b e g = subst (λ (h : Held R I O). Dialling base 0 h) (sym e) g
  all_dialled base (suc k) a b q g = one_dialled base k q.0 b q.1.1 (all_dialled base k a q.0 q.1.0 g)

  -- Each member was dialled.
  pub dialled : (links links' : List (Seat I O)) (road road' : R) → length links ≡ total → RoadsAt r net road → ((at : ℕ) → net.waiting at ≡ []) → DialsAll r i o members links links' road road' (Ok tt) → Dialling (r.faults road) total (record { links = links'; road = road' })
  dialled links links' road road' count shows none x =
      let g : Dialling (r.faults road) x.count x.middle = all_dialled (r.faults road) x.count (record { links = links; road = road }) x.middle x.passes (record {
        ports = [];
        size = refl;
        count = count;
        few = omega arith;
        made = net;
        roads_at = shows;
        conns_are = omega arith;
        listens_are = refl;
        traffic_are = refl;
        waiting_are = none;
        seats = λ j port h. absurd (no_place port h);
        never_falls = no_less (r.faults road);
        silent = λ j node member_is h. absurd (no_place None h);
      }) in
      let all : x.count ≡ total = omega (arith, x.ends.1, g.few, count) in
      subst (λ (n : ℕ). Dialling (r.faults road) n (record { links = links'; road = road' })) all (subst (λ (h : Held R I O). Dialling (r.faults road) x.count h) (sym x.ends.0) g)
    where
      no_place : (port : Option ℕ) → ◌≡◌ {A = Option (Option ℕ)} None (Some port) → ⊥
      no_place port h = cc
