-- The connections of a node.
use Rattle.std.proofs.Common.{◌≡◌, ℕ, zero, suc, ◌+◌, ◌≤◌, ◌<◌, Bool, true, false, List, [], ◌∷◌, ◌++◌, length, Option, Some, None, refl, sym, ap, subst, ◌∙◌, arith}
use Rattle.std.specs.Prelude.{◌==◌, ◌&&◌, ◌||◌, nat_lt, slice_get, option_map}
use Rattle.std.proofs.lemmas.Bool.Decides.{nat_tests}
use Rattle.std.proofs.lemmas.Bool.{eqb-true}
use Rattle.hd_base.specs.declared.links.LinkIn as link_in
use Rattle.hd_base.specs.declared.links.LinkOut as link_out
use Rattle.hd_base.specs.declared.numbers.ConnId.{ConnId}
use Rattle.hd_base.specs.declared.numbers.NodeId.{NodeId}
use Rattle.road_traffic.specs.Showing.{Net}
use Rattle.world_stops.specs.World.Connections.{is_conn, touches, is_of_node}
use Rattle.world_stops.specs.World.Parts as parts
use Rattle.world_stops.specs.World.Parts.{Place, Dialled, by_writer, by_member, by_reader, by_primary}
use Rattle.world_stops.specs.World.Worlds.{World}
use Rattle.world_stops.specs.WorldLaws.Placing.{IsUpper, Placed}
use Rattle.world_stops.specs.Origins.{IsFrom, AllAreFrom}
use Rattle.world_stops.specs.Stopping.{is_among, AreOfNode}
use Rattle.play_nodes.specs.declared.connections.Connection.{Connection}
use Rattle.play_nodes.specs.declared.connections.Upper.{Upper}
use Rattle.play_nodes.specs.declared.connections.Upper.TheVariants as upper
use Rattle.play_nodes.specs.declared.nodes.Nodes.{Nodes}
use Rattle.play_nodes.specs.Showing.{UpperShows, OriginShows, NodesShow}
use Rattle.node_stops.specs.Connections.{is_taken_at, is_dialled_at, has_end_at, is_at}

-- LISTS

pub among_more : (conns : List ConnId) (x : ConnId) (c : ℕ) → is_among (conns ++ x ∷ []) c ≡ (is_among conns c || (x.0 == c))
among_more [] x c = by (x.0 == c) where
  by : (b : Bool) → (b || false) ≡ b
  by true = refl
  by false = refl
among_more (y ∷ conns) x c = ap (λ b. (y.0 == c) || b) (among_more conns x c) ∙ by (y.0 == c) where
  by : (b : Bool) → (b || (is_among conns c || (x.0 == c))) ≡ ((b || is_among conns c) || (x.0 == c))
  by true = refl
  by false = refl

pub some_in : {X : Type 0} (xs : List X) (k : ℕ) → k < length xs → (x : X) × (slice_get xs k ≡ Some x)
some_in [] k h = absurd (omega (arith, h))
some_in (x ∷ xs) zero h = (x, refl)
some_in (x ∷ xs) (suc k) h = some_in xs k (omega (arith, h))

pub none_past : {X : Type 0} (xs : List X) (k : ℕ) → length xs ≤ k → slice_get xs k ≡ None
none_past [] k h = refl
none_past (x ∷ xs) zero h = absurd (omega (arith, h))
none_past (x ∷ xs) (suc k) h = none_past xs k (omega (arith, h))

pub in_some : {X : Type 0} (xs : List X) (k : ℕ) (x : X) → slice_get xs k ≡ Some x → k < length xs
in_some [] k x e = cc
in_some (y ∷ xs) zero x e = omega arith
in_some (y ∷ xs) (suc k) x e = let h = in_some xs k x e in omega (arith, h)

-- THE SEARCH

module _ {I O : Type 0} (connections : List (Connection I O)) (node : NodeId) where
  -- what was found of the first connections, so many
  abbrev pub FoundTo : List ConnId → ℕ → Type 0
  FoundTo found k = (c : ℕ) → is_among found c ≡ (nat_lt c k && is_at connections node c)

  pub found_none : FoundTo [] 0
  found_none c =
      let past : nat_lt c 0 ≡ false = grind (arith, nat_tests) in
      sym (ap (λ b. b && is_at connections node c) past)

  later : (c k : ℕ) (b : Bool) → (k == c) ≡ false → (nat_lt c k && b) ≡ (nat_lt c (k + 1) && b)
  later c k b other =
      let same : nat_lt c k ≡ nat_lt c (k + 1) = grind (arith, nat_tests, other) in
      ap (λ t. t && b) same

  pub found_here : (found : List ConnId) (k : ℕ) (x : ConnId) → x.0 ≡ k → is_at connections node k ≡ true → FoundTo found k → FoundTo (found ++ x ∷ []) (k + 1)
  found_here found k x is at so c = among_more found x c ∙ (ap (λ t. is_among found c || (t == c)) is ∙ (ap (λ t. t || (k == c)) (so c) ∙ by (k == c) refl)) where
    by : (b : Bool) → (k == c) ≡ b → ((nat_lt c k && is_at connections node c) || b) ≡ (nat_lt c (k + 1) && is_at connections node c)
    by true e =
        let same : k ≡ c = eqb-true k c e in
        let below : nat_lt c (k + 1) ≡ true = grind (arith, nat_tests, e) in
        let here : is_at connections node c ≡ true = subst (λ n. is_at connections node n ≡ true) same at in
        or_true (nat_lt c k && is_at connections node c) ∙ sym ((λ j. below j && is_at connections node c) ∙ here)
      where
        or_true : (t : Bool) → (t || true) ≡ true
        or_true true = refl
        or_true false = refl
    by false e = or_false (nat_lt c k && is_at connections node c) ∙ later c k (is_at connections node c) e
      where
        or_false : (t : Bool) → (t || false) ≡ t
        or_false true = refl
        or_false false = refl

  pub found_else : (found : List ConnId) (k : ℕ) → is_at connections node k ≡ false → FoundTo found k → FoundTo found (k + 1)
  found_else found k at so c = so c ∙ by (k == c) refl where
    by : (b : Bool) → (k == c) ≡ b → (nat_lt c k && is_at connections node c) ≡ (nat_lt c (k + 1) && is_at connections node c)
    by true e =
        let same : k ≡ c = eqb-true k c e in
        let there : is_at connections node c ≡ false = subst (λ n. is_at connections node n ≡ false) same at in
        ap (λ t. nat_lt c k && t) there ∙ (and_false (nat_lt c k) ∙ sym (ap (λ t. nat_lt c (k + 1) && t) there ∙ and_false (nat_lt c (k + 1))))
      where
        and_false : (t : Bool) → (t && false) ≡ false
        and_false true = refl
        and_false false = refl
    by false e = later c k (is_at connections node c) e

  pub found_all : (found : List ConnId) (k : ℕ) → length connections ≤ k → FoundTo found k → (c : ℕ) → is_among found c ≡ is_at connections node c
  found_all found k all so c = so c ∙ by (nat_lt c k) refl where
    by : (b : Bool) → nat_lt c k ≡ b → (b && is_at connections node c) ≡ is_at connections node c
    by true e = refl
    by false e =
        let past : length connections ≤ c = grind (arith, nat_tests, e, all) in
        sym (ap (has_end_at connections node) (none_past connections c past))

-- THE WORLD'S

module _ {F I O : Type 0} (i : link_in.Ghosts I) (o : link_out.Ghosts O) (w : World) (net : Net) (n : Nodes F I O) (node : NodeId) (shows : NodesShow i o w net n) (placed : Placed w) (from : AllAreFrom w) where
  abbrev all : List (Connection I O)
  all = n.connections.items

  taken_is : (c : ℕ) (x : Connection I O) → slice_get all c ≡ Some x → (node.0 == x.node.0) ≡ (node.0 == (w.dialled c).to.node)
  taken_is c x at = ap (λ m. node.0 == m) (shows.each c x at).node

  from_member : (d : ℕ) (f : Option Place) → d < w.next_conn → f ≡ Some (w.dialled d).to → is_taken_at (slice_get all d) node ≡ is_conn (option_map (λ (p : Place). p.node) f) node.0
  from_member d f below is =
      let at = some_in all d (omega (arith, below, shows.count)) in
      ap (λ s. is_taken_at s node) at.1 ∙ (taken_is d at.0 at.1 ∙ sym (ap (λ (p : Option Place). is_conn (option_map (λ (q : Place). q.node) p) node.0) is))

  from_none : (f : Option Place) → f ≡ None → false ≡ is_conn (option_map (λ (p : Place). p.node) f) node.0
  from_none f is = sym (ap (λ (p : Option Place). is_conn (option_map (λ (q : Place). q.node) p) node.0) is)

  dialled_is : (u : parts.Upper) (x : Upper) (f : Option Place) → UpperShows u x → OriginShows f x → IsUpper w.next_conn u → IsFrom w.dialled u f → is_dialled_at all node x ≡ is_conn (option_map (λ (p : Place). p.node) f) node.0
  dialled_is (by_writer b) (upper.Writer block) f same origin within is = from_none f is
  dialled_is (by_reader k) (upper.Reader reader) f same origin within is = from_none f is
  dialled_is (by_primary k place) (upper.Primary primary at from) f same origin within is = sym (ap (λ (q : Option ℕ). is_conn q node.0) origin)
  dialled_is (by_member d) (upper.Member conn) f same origin within is = ap (λ k. is_taken_at (slice_get all k) node) same ∙ from_member d f within is
  dialled_is u x f same origin within is = absurd same

  pub at_is : (c : ℕ) → is_at all node c ≡ is_of_node w node.0 c
  at_is c = by (nat_lt c w.next_conn) refl where
    by : (b : Bool) → nat_lt c w.next_conn ≡ b → is_at all node c ≡ (b && touches node.0 (w.dialled c))
    by true e =
        let below : c < w.next_conn = grind (arith, nat_tests, e) in
        let at = some_in all c (omega (arith, below, shows.count)) in
        let x = shows.each c at.0 at.1 in
        ap (has_end_at all node) at.1
        ∙ (λ j. taken_is c at.0 at.1 j || dialled_is (w.dialled c).upper at.0.upper (w.dialled c).from x.upper_is x.origin (placed.dialled c below).upper (from c below) j)
    by false e =
        let past : length all ≤ c = grind (arith, nat_tests, e, shows.count) in
        ap (has_end_at all node) (none_past all c past)

  pub of_node : (conns : List ConnId) → ((c : ℕ) → is_among conns c ≡ is_at all node c) → AreOfNode w node.0 conns
  of_node conns found c = found c ∙ at_is c
