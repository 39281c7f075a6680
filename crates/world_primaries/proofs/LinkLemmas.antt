-- The connections of a primary, and what it sends and shuts on them.
use Rattle.std.proofs.Common.{◌≡◌, ℕ, zero, suc, Bool, true, false, List, [], ◌∷◌, ◌++◌, Option, Some, None, refl, sym, ap, ◌∙◌, subst, arith}
use Rattle.std.specs.Prelude.{◌==◌, ◌-◌, ◌||◌, ◌&&◌, cond, not, nat_le, slice_get, zip, option_map, if◌then◌else◌}
use Rattle.std.proofs.lemmas.Bool.{eqb-true}
use Rattle.std.proofs.lemmas.List.{append-nil}
use Rattle.hd_base.specs.declared.numbers.NodeId.{NodeId}
use Rattle.name_core.specs.declared.calls.OfficeCall.{OfficeCall}
use Rattle.name_core.specs.declared.choice.Chosen.{Chosen}
use Rattle.world_nets.specs.RecoveryCore.Recovered.{Recovered}
use Rattle.world_nets.specs.RecoveryCore.Standing.{Standing}
use Rattle.world_nets.specs.RecoveryCore.Primaries.{PrimaryState, is_among, is_awaited, shuts_at}
use Rattle.road_traffic.proofs.TrafficLemmas.{same-itself}
use Rattle.world_nets.specs.World.Event.{Event}
use Rattle.world_nets.specs.World.Parts.{Message, Upper, by_primary, Told, Leading, Primary, no_primary, was_told, leads, has_led}
use Rattle.world_nets.specs.World.Worlds.{World, Change, Dial, start, dial_at, listed}
use Rattle.world_nets.specs.World.Connections.{Next, is_conn}
use Rattle.world_nets.specs.World.Events.{run}
use Rattle.world_nets.specs.World.Primaries.{is_among_conns, updates_on, is_done_with, updates_change, ends_change, asks_primary}
use Rattle.world_nets.specs.Changes.{Flush, sent_in, sent_by, shut_by, NotOf, AreApart}
use Rattle.world_nets.specs.Flushing.{upper_flushes}
use Rattle.world_nets.specs.Steps.{SendsBy}
use Rattle.world_orders.specs.Orders.{AllOrdered, PrimaryIs}
use Rattle.world_primaries.specs.Drawn.{hears_at}
use Rattle.world_primaries.specs.Links.{AreDistinct, IsDistinctIn, link_flushes, update_of, PrimarySends}

-- TESTS

and_false : (b : Bool) → (b && false) ≡ false
and_false true = refl
and_false false = refl

or_false : (b : Bool) → (b || false) ≡ b
or_false true = refl
or_false false = refl

or_right : (a b : Bool) → (a || b) ≡ false → b ≡ false
or_right true b e = cc
or_right false b e = e

or_left : (a b : Bool) → (a || b) ≡ false → a ≡ false
or_left true b e = cc
or_left false b e = refl

flip : (a b : ℕ) → (a == b) ≡ (b == a)
flip a b = grind (arith, Rattle.std.proofs.lemmas.Bool.Decides.nat_tests)

-- DISTINCT CONNECTIONS

same_primary : (i j k : ℕ) → by_primary i j ≡ by_primary i k → j ≡ k
same_primary i j k e = cc

distinct : (w : World) (i : ℕ) (p : Primary) → PrimaryIs w.dialled i p → IsDistinctIn p
distinct w i no_primary is = tt
distinct w i (was_told b t) is = tt
distinct w i (leads l) is = λ j k c one other. same_primary i j k (sym (is j c one) ∙ is k c other)
distinct w i (has_led r) is = tt

pub all_are_distinct : AllOrdered → (nodes : ℕ) (events : List Event) (i : ℕ) → IsDistinctIn ((run (start nodes) events).primaries i)
all_are_distinct ordered nodes events i =
    distinct (run (start nodes) events) i ((run (start nodes) events).primaries i) ((ordered nodes events).primaries_are i)

tail_distinct : (x : Option ℕ) (conns : List (Option ℕ)) → AreDistinct (x ∷ conns) → AreDistinct conns
tail_distinct x conns d j k c one other = omega (arith, d (suc j) (suc k) c one other)

-- The connection is one of these, at some place.
record IsAt (conns : List (Option ℕ)) (c : ℕ) : Type 0 where
  place : ℕ
  is : slice_get conns place ≡ Some (Some c)

conn_is : (x : Option ℕ) (c : ℕ) → is_conn x c ≡ true → x ≡ Some c
conn_is None c e = cc
conn_is (Some d) c e = ap Some (sym (eqb-true c d e))

among_at : (conns : List (Option ℕ)) (c : ℕ) → is_among_conns conns c ≡ true → IsAt conns c
among_at [] c e = cc
among_at (x ∷ conns) c e = by (is_conn x c) refl e (λ t. among_at conns c t) where
  by : (b : Bool) → is_conn x c ≡ b → (b || is_among_conns conns c) ≡ true → (is_among_conns conns c ≡ true → IsAt conns c) → IsAt (x ∷ conns) c
  by true is t later = record { place = 0; is = ap Some (conn_is x c is) }
  by false is t later = record { place = suc (later t).place; is = (later t).is }

not_again : (c : ℕ) (conns : List (Option ℕ)) → AreDistinct (Some c ∷ conns) → is_among_conns conns c ≡ false
not_again c conns d = by (is_among_conns conns c) refl where
  by : (b : Bool) → is_among_conns conns c ≡ b → b ≡ false
  by true e =
      let at = among_at conns c e in
      absurd (omega (arith, d 0 (suc at.place) c refl at.is))
  by false e = refl

-- WHAT IS FLUSHED

module _ (sends : ℕ → List Message) (shuts : ℕ → Bool) where
  sent_up : (conns : List (Option ℕ)) (c : ℕ) → sent_by (link_flushes sends shuts conns) c false ≡ []
  sent_up [] c = refl
  sent_up (None ∷ conns) c = sent_up conns c
  sent_up (Some d ∷ conns) c = by (d == c) (sent_up conns c) where
    by : (b : Bool) → sent_by (link_flushes sends shuts conns) c false ≡ [] → cond (b && false) (sends d) [] ++ sent_by (link_flushes sends shuts conns) c false ≡ []
    by true rest = rest
    by false rest = rest

  -- what this says of a connection, if it is one of those
  sent_among : (conns : List (Option ℕ)) (c : ℕ) → AreDistinct conns → sent_by (link_flushes sends shuts conns) c true ≡ (if is_among_conns conns c then sends c else [])
  sent_among [] c d = refl
  sent_among (None ∷ conns) c d = sent_among conns c (tail_distinct None conns d)
  sent_among (Some e ∷ conns) c d = by (e == c) refl (sent_among conns c (tail_distinct (Some e) conns d)) where
    by : (b : Bool) → (e == c) ≡ b → sent_by (link_flushes sends shuts conns) c true ≡ (if is_among_conns conns c then sends c else []) → cond (b && true) (sends e) [] ++ sent_by (link_flushes sends shuts conns) c true ≡ (if is_among_conns (Some e ∷ conns) c then sends c else [])
    by true is rest =
        let same : e ≡ c = eqb-true e c is in
        let none : is_among_conns conns c ≡ false = subst (λ n. is_among_conns conns n ≡ false) same (not_again e conns d) in
        let nothing : sent_by (link_flushes sends shuts conns) c true ≡ [] = rest ∙ ap (λ b. if b then sends c else []) none in
        let here : (c == e) ≡ true = flip c e ∙ is in
        ap (λ l. sends e ++ l) nothing ∙ (append-nil (sends e) ∙ (ap sends same ∙ sym (ap (λ b. if b || is_among_conns conns c then sends c else []) here)))
    by false is rest =
        let there : (c == e) ≡ false = flip c e ∙ is in
        rest ∙ sym (ap (λ b. if b || is_among_conns conns c then sends c else []) there)

  shut_among : (conns : List (Option ℕ)) (c : ℕ) → AreDistinct conns → shut_by (link_flushes sends shuts conns) c ≡ (is_among_conns conns c && shuts c)
  shut_among [] c d = refl
  shut_among (None ∷ conns) c d = shut_among conns c (tail_distinct None conns d)
  shut_among (Some e ∷ conns) c d = by (e == c) refl (shut_among conns c (tail_distinct (Some e) conns d)) where
    by : (b : Bool) → (e == c) ≡ b → shut_by (link_flushes sends shuts conns) c ≡ (is_among_conns conns c && shuts c) → ((b && shuts e) || shut_by (link_flushes sends shuts conns) c) ≡ (is_among_conns (Some e ∷ conns) c && shuts c)
    by true is rest =
        let same : e ≡ c = eqb-true e c is in
        let none : is_among_conns conns c ≡ false = subst (λ n. is_among_conns conns n ≡ false) same (not_again e conns d) in
        let nothing : shut_by (link_flushes sends shuts conns) c ≡ false = rest ∙ ap (λ b. b && shuts c) none in
        let here : (c == e) ≡ true = flip c e ∙ is in
        ap (λ b. shuts e || b) nothing ∙ (or_false (shuts e) ∙ (ap shuts same ∙ sym (ap (λ b. (b || is_among_conns conns c) && shuts c) here)))
    by false is rest =
        let there : (c == e) ≡ false = flip c e ∙ is in
        rest ∙ sym (ap (λ b. (b || is_among_conns conns c) && shuts c) there)

  not_of : (c : ℕ) (conns : List (Option ℕ)) → is_among_conns conns c ≡ false → NotOf c (link_flushes sends shuts conns)
  not_of c [] none = tt
  not_of c (None ∷ conns) none = not_of c conns none
  not_of c (Some d ∷ conns) none = (flip d c ∙ or_left (c == d) (is_among_conns conns c) none, not_of c conns (or_right (c == d) (is_among_conns conns c) none))

  apart : (conns : List (Option ℕ)) → AreDistinct conns → AreApart (link_flushes sends shuts conns)
  apart [] d = tt
  apart (None ∷ conns) d = apart conns (tail_distinct None conns d)
  apart (Some c ∷ conns) d = (not_of c conns (not_again c conns d), apart conns (tail_distinct (Some c) conns d))

-- ---- changes

-- without dials no request is sent
no_request : (next c : ℕ) → listed (option_map (λ (d : Dial). d.request) (dial_at next [] c)) ≡ []
no_request next c = nothing_at (nat_le next c) (c - next) where
  nothing_at : (b : Bool) (n : ℕ) → listed (option_map (λ (d : Dial). d.request) (if b then slice_get [] n else None)) ≡ []
  nothing_at true n = refl
  nothing_at false n = refl

-- what is said of no other connection
sent_of : (sends : ℕ → List Message) (conns : List (Option ℕ)) (c : ℕ) → (is_among_conns conns c ≡ false → sends c ≡ []) → (if is_among_conns conns c then sends c else []) ≡ sends c
sent_of sends conns c none = by (is_among_conns conns c) refl where
  by : (b : Bool) → is_among_conns conns c ≡ b → (if b then sends c else []) ≡ sends c
  by true e = refl
  by false e = sym (none e)

shut_of : (shuts : ℕ → Bool) (conns : List (Option ℕ)) (c : ℕ) → (is_among_conns conns c ≡ false → shuts c ≡ false) → (is_among_conns conns c && shuts c) ≡ shuts c
shut_of shuts conns c none = by (is_among_conns conns c) refl where
  by : (b : Bool) → is_among_conns conns c ≡ b → (b && shuts c) ≡ shuts c
  by true e = refl
  by false e = sym (none e)

-- A change without dials that sends and shuts so on some connections, and nothing on others.
links_send : (w : World) (k : Change) (conns : List (Option ℕ)) → k.dials ≡ [] → ((c : ℕ) → k.ups c ≡ []) → AreDistinct conns
    → ((c : ℕ) → is_among_conns conns c ≡ false → k.downs c ≡ []) → ((c : ℕ) → is_among_conns conns c ≡ false → k.shuts c ≡ false)
    → SendsBy w k (link_flushes k.downs k.shuts conns)
links_send w k conns none ups d sends_none shuts_none = record {
  none = none;
  changes = record {
    sends = sends;
    shuts = λ c. sym (shut_among k.downs k.shuts conns c d ∙ shut_of k.shuts conns c (shuts_none c));
    apart = apart k.downs k.shuts conns d;
  };
}
  where
    sends : (c : ℕ) (down : Bool) → sent_in w k c down ≡ sent_by (link_flushes k.downs k.shuts conns) c down
    sends c true =
        (λ j. k.downs c ++ listed (option_map (λ (x : Dial). x.request) (dial_at w.next_conn (none j) c)))
        ∙ (ap (λ l. k.downs c ++ l) (no_request w.next_conn c) ∙ (append-nil (k.downs c)
        ∙ sym (sent_among k.downs k.shuts conns c d ∙ sent_of k.downs conns c (sends_none c))))
    sends c false = ups c ∙ sym (sent_up k.downs k.shuts conns c)

updates_none : (update : Message) (chosen members : List NodeId) (conns : List (Option ℕ)) (c : ℕ) → is_among_conns conns c ≡ false → updates_on update chosen (zip members conns) c ≡ []
updates_none update chosen [] conns c none = refl
updates_none update chosen (m ∷ members) [] c none = refl
updates_none update chosen (m ∷ members) (x ∷ conns) c none =
    ap (λ b. if is_among chosen m && b then update ∷ [] else updates_on update chosen (zip members conns) c) (or_left (is_conn x c) (is_among_conns conns c) none)
    ∙ (ap (λ b. if b then update ∷ [] else updates_on update chosen (zip members conns) c) (and_false (is_among chosen m))
    ∙ updates_none update chosen members conns c (or_right (is_conn x c) (is_among_conns conns c) none))

done_none : (standings : List Standing) (conns : List (Option ℕ)) (c : ℕ) → is_among_conns conns c ≡ false → is_done_with (zip standings conns) c ≡ false
done_none [] conns c none = refl
done_none (s ∷ standings) [] c none = refl
done_none (s ∷ standings) (x ∷ conns) c none =
    ap (λ b. (not (is_awaited s) && b) || is_done_with (zip standings conns) c) (or_left (is_conn x c) (is_among_conns conns c) none)
    ∙ (ap (λ b. b || is_done_with (zip standings conns) c) (and_false (not (is_awaited s)))
    ∙ done_none standings conns c (or_right (is_conn x c) (is_among_conns conns c) none))

-- what one end flushes that sends nothing
hears_shut : (b : Bool) (c x : ℕ) → (if b then is_conn (Some c) else (λ (y : ℕ). false)) x ≡ shut_by (upper_flushes (Some c) b []) x
hears_shut true c x = sym (ap (λ t. t || false) (by (c == x)) ∙ (or_false (c == x) ∙ flip c x)) where
  by : (t : Bool) → (t && true) ≡ t
  by true = refl
  by false = refl
hears_shut false c x = sym (ap (λ t. t || false) (and_false (c == x)))

nothing_flushed : (b t : Bool) → ◌≡◌ {A = List Message} [] (cond (b && t) [] [] ++ [])
nothing_flushed true true = refl
nothing_flushed true false = refl
nothing_flushed false t = refl

pub primary_sends : (w : World) (i : ℕ) (l : Leading) → PrimarySends w i l
primary_sends w i l = record {
  updates = λ d p c. links_send w (updates_change w i l p c) l.conns refl (λ x. refl) d
      (λ x none. updates_none (update_of l.state c) c.members l.state.members l.conns x none) (λ x none. done_none p.standings l.conns x none);
  ends = λ d r. links_send w (ends_change w i l r) l.conns refl (λ x. refl) d (λ x none. refl) (λ x none. none);
  hears = λ place c x. record {
    none = refl;
    changes = record { sends = hears_nothing place c x; shuts = λ y. hears_shut (shuts_at l.state place) c y; apart = (tt, tt) };
  };
  asks = λ call p. record {
    none = refl;
    changes = record { sends = asks_nothing call p; shuts = λ y. refl; apart = tt };
  };
}
  where
    hears_nothing : (place c : ℕ) (x : Next) (y : ℕ) (d : Bool) → sent_in w (hears_at w i l place c x) y d ≡ sent_by (upper_flushes (Some c) (shuts_at l.state place) []) y d
    hears_nothing place c x y true = no_request w.next_conn y ∙ nothing_flushed (c == y) true
    hears_nothing place c x y false = nothing_flushed (c == y) false

    asks_nothing : (call : OfficeCall) (p : Told → Primary) (y : ℕ) (d : Bool) → sent_in w (asks_primary w i call p) y d ≡ []
    asks_nothing call p y true = no_request w.next_conn y
    asks_nothing call p y false = refl
