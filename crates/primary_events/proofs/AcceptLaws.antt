-- The dials to the members are accepted, one after the other.
use Rattle.std.proofs.Common.{◌≡◌, ℕ, zero, suc, ◌+◌, Bool, true, false, List, [], ◌∷◌, length, slice_get, Option, Some, None, IfSome, ◌⊎◌, inl, inr, refl, sym, ap, ◌∙◌, subst, arith}
use Rattle.std.specs.Prelude.{◌==◌, cond, drop}
use Rattle.std.proofs.lemmas.List.{length-append}
use Rattle.hd_base.specs.Channels.{Plain}
use Rattle.hd_base.specs.Ends.{IsFresh, IsObservable}
use Rattle.hd_base.specs.Faults.{FaultsIncreased}
use Rattle.hd_base.specs.declared.ends.Conn.{Conn}
use Rattle.hd_base.specs.declared.links.LinkIn as link_in
use Rattle.hd_base.specs.declared.links.LinkOut as link_out
use Rattle.hd_base.specs.declared.roads.Roads as roads
use Rattle.block_recovery.specs.Actions.{Passes}
use Rattle.road_traffic.specs.Showing.{Net, RoadsShow, accepted_net}
use Rattle.road_traffic.proofs.ShowingLemmas.{roads-accepted}
use Rattle.road_traffic.proofs.TrafficLemmas.{same-itself}
use Rattle.client_events.specs.MemberEvents.Joining.{AcceptsDial}
use Rattle.client_events.proofs.MemberEvents.EndLaws.{RoadsAt}
use Rattle.primary_events.specs.declared.faults.PrimaryFault.{PrimaryFault}
use Rattle.primary_events.specs.declared.faults.PrimaryFault.TheVariants as fault
use Rattle.primary_events.specs.Beginning.{Lowers, AcceptsIf, TakesLower, AcceptFails}
use Rattle.primary_events.proofs.NumberLemmas.{somes, rest, rest_none, rest_some}
use Rattle.primary_events.proofs.DialLaws.{at_push}
use Rattle.primary_events.proofs.PlaceLemmas.{some_same}

first_of : (b : Bool) (c : ℕ) (l : List ℕ) → b ≡ true → slice_get (cond b (c ∷ l) l) 0 ≡ Some c
first_of true c l e = refl
first_of false c l e = cc

dropped : (b : Bool) (c : ℕ) (l : List ℕ) → cond b (drop 1 (cond b (c ∷ l) l)) (cond b (c ∷ l) l) ≡ l
dropped true c l = refl
dropped false c l = refl

none_first : (l : List ℕ) (c : ℕ) → l ≡ [] → slice_get l 0 ≡ Some c → ⊥
none_first [] c is h = cc
none_first (x ∷ l) c is h = cc

module _ {R I O : Type 0} (r : roads.Ghosts R I O) (i : link_in.Ghosts I) (o : link_out.Ghosts O) (net : Net) (n : ℕ) (ports : List (Option ℕ)) where
  -- The lower end of the connection of a place, on which nothing was done.
  pub record AcceptedAt (j : ℕ) (lower : Conn I O) : Type 0 where
    pub id : lower.id.0 ≡ n + somes j ports
    pub side : lower.lower ≡ true
    pub fresh : IsFresh i o lower
    pub observable : IsObservable i o lower

  abbrev pub LowerAt : ℕ → Option (Option ℕ) → Option (Conn I O) → Type 0
  LowerAt j (Some (Some port)) (Some lower) = AcceptedAt j lower
  LowerAt j (Some None) None = Unit {0}
  LowerAt j port lower = ⊥

  -- The dials so far were accepted.
  pub record Accepting (k : ℕ) (held : Lowers R I O) : Type 0 where
    pub made : Net
    pub roads_at : RoadsAt r made held.road
    pub conns_are : made.conns ≡ net.conns
    pub listens_are : made.listens ≡ net.listens
    pub traffic_are : made.traffic ≡ net.traffic
    pub waiting_are : (at : ℕ) → made.waiting at ≡ rest k at n ports
    pub size : length held.lowers ≡ k
    pub ends : (j : ℕ) (lower : Option (Conn I O)) → slice_get held.lowers j ≡ Some lower → LowerAt j (slice_get ports j) lower

  -- ONE DIAL

  -- the oldest that waits is this one
  first_waits : (k port : ℕ) (held : Lowers R I O) (g : Accepting k held) → slice_get ports k ≡ Some (Some port) → slice_get (g.roads_at.shows.plain.waiting port) 0 ≡ Some (n + somes k ports)
  first_waits k port held g is =
      ap (λ (l : List ℕ). slice_get l 0) (g.roads_at.shows.holds.waiting port ∙ (g.waiting_are port ∙ rest_some k port n ports port is))
      ∙ first_of (port == port) (n + somes k ports) (rest (suc k) port n ports) (same-itself port)

  module _ (k : ℕ) (a b : Lowers R I O) (at : TakesLower r i o ports k a b) (g : Accepting k a) where
    grown : length b.lowers ≡ suc k
    grown = ap (λ (l : List (Option (Conn I O))). length l) at.more ∙ (length-append a.lowers (at.lower ∷ []) ∙ omega (arith, g.size))

    all_ends : LowerAt k (slice_get ports k) at.lower → (j : ℕ) (x : Option (Conn I O)) → slice_get b.lowers j ≡ Some x → LowerAt j (slice_get ports j) x
    all_ends here j x is = by (at_push a.lowers at.lower j x (sym (ap (λ (l : List (Option (Conn I O))). slice_get l j) at.more) ∙ is))
      where
        by : ((j ≡ length a.lowers) × (x ≡ at.lower)) ⊎ (slice_get a.lowers j ≡ Some x) → LowerAt j (slice_get ports j) x
        by (inl e) =
            subst (λ (y : Option (Conn I O)). LowerAt j (slice_get ports j) y) (sym e.1)
            (subst (λ (m : ℕ). LowerAt m (slice_get ports m) at.lower) (sym (e.0 ∙ g.size)) here)
        by (inr e) = g.ends j x e

    rests : slice_get ports k ≡ Some None → at.lower ≡ None → b.road ≡ a.road → Accepting (suc k) b
    rests is none road = record {
      made = g.made;
      roads_at = record { sane = g.roads_at.sane; shows = subst (λ (z : R). RoadsShow r g.made z) (sym road) g.roads_at.shows };
      conns_are = g.conns_are;
      listens_are = g.listens_are;
      traffic_are = g.traffic_are;
      waiting_are = λ p. g.waiting_are p ∙ rest_none k p n ports is;
      size = grown;
      ends = all_ends (subst (λ (y : Option (Option ℕ)). LowerAt k y at.lower) (sym is) (subst (λ (y : Option (Conn I O)). LowerAt k (Some None) y) (sym none) tt));
    }

    accepts : (port : ℕ) (lower : Conn I O) → slice_get ports k ≡ Some (Some port) → at.lower ≡ Some lower → AcceptsDial r i o port a.road b.road lower → Accepting (suc k) b
    accepts port lower is some x = record {
      made = accepted_net g.made port;
      roads_at = record {
        sane = record { fits = g.roads_at.sane.fits; fresh = g.roads_at.sane.fresh };
        shows = roads-accepted r i o g.made a.road b.road port g.roads_at.shows x.plain x.carried;
      };
      conns_are = g.conns_are;
      listens_are = g.listens_are;
      traffic_are = g.traffic_are;
      waiting_are = λ p. ap (λ (l : List ℕ). cond (p == port) (drop 1 l) l) (g.waiting_are p ∙ rest_some k p n ports port is) ∙ dropped (p == port) (n + somes k ports) (rest (suc k) p n ports);
      size = grown;
      ends = all_ends (subst (λ (y : Option (Option ℕ)). LowerAt k y at.lower) (sym is) (subst (λ (y : Option (Conn I O)). LowerAt k (Some (Some port)) y) (sym some) (record {
        id = some_same lower.id.0 (n + somes k ports) (sym number ∙ first_waits k port a g is);
        side = x.lower;
        fresh = x.fresh;
        observable = seen;
      })));
    }
      where
        number : slice_get (g.roads_at.shows.plain.waiting port) 0 ≡ Some lower.id.0
        number = subst (λ (y : Option Plain). IfSome y (λ p. slice_get (p.waiting port) 0 ≡ Some lower.id.0)) g.roads_at.shows.is x.number

        seen : IsObservable i o lower
        seen = subst (λ (y : Option Plain). IfSome y (λ _. IsObservable i o lower)) g.roads_at.shows.is x.observable

    by_port : (q : Option (Option ℕ)) (z : Option (Conn I O)) → slice_get ports k ≡ q → at.lower ≡ z → AcceptsIf r i o q a.road b.road z → Accepting (suc k) b
    by_port (Some None) None is none h = rests is none h
    by_port (Some (Some port)) (Some lower) is some h = accepts port lower is some h
    by_port (Some None) (Some lower) is some h = absurd h
    by_port (Some (Some port)) None is none h = absurd h
    by_port None None is none h = absurd h
    by_port None (Some lower) is some h = absurd h

  -- ALL DIALS

  pub all_accepted : (k : ℕ) (a b : Lowers R I O) → Passes (TakesLower r i o ports) k a b → Accepting 0 a → Accepting k b
  all_accepted zero a b e g = subst (λ (h : Lowers R I O). Accepting 0 h) (sym e) g
  all_accepted (suc k) a b q g = by_port k q.0 b q.1.1 (all_accepted k a q.0 q.1.0 g) (slice_get ports k) q.1.1.lower refl refl q.1.1.accepts

  -- A dial that wasn't accepted had waited.
  pub accept_rose : (k : ℕ) (held : Lowers R I O) (road' : R) (why : PrimaryFault) → Accepting k held → (q : Option (Option ℕ)) → slice_get ports k ≡ q → AcceptFails r q held.road road' why
      → (why ≡ fault.Memory) ⊎ ((why ≡ fault.RoadsFailed) × FaultsIncreased (r.faults held.road) (r.faults road'))
  accept_rose k held road' fault.Memory g q is h = inl refl
  accept_rose k held road' fault.RoadsFailed g (Some (Some port)) is (inr rose) = inr (refl, rose)
  accept_rose k held road' fault.RoadsFailed g (Some (Some port)) is (inl none) =
      let nothing : g.roads_at.shows.plain.waiting port ≡ [] = subst (λ (y : Option Plain). IfSome y (λ p. p.waiting port ≡ [])) g.roads_at.shows.is none in
      absurd (none_first (g.roads_at.shows.plain.waiting port) (n + somes k ports) nothing (first_waits k port held g is))
  accept_rose k held road' fault.RoadsFailed g (Some None) is h = absurd h
  accept_rose k held road' fault.RoadsFailed g None is h = absurd h
  accept_rose k held road' fault.LinkFailed g (Some (Some port)) is h = absurd h
  accept_rose k held road' fault.LinkFailed g (Some None) is h = absurd h
  accept_rose k held road' fault.LinkFailed g None is h = absurd h
