-- Several connections that are dialled in one step.
use Rattle.std.proofs.Common.{◌≡◌, ℕ, zero, suc, ◌+◌, ◌<◌, ◌≤◌, Bool, true, false, List, [], ◌∷◌, ◌++◌, length, drop, Option, Some, None, refl, sym, ap, ◌∙◌, subst, arith, append_assoc}
use Rattle.std.specs.Prelude.{◌==◌, ◌-◌, ◌||◌, ◌&&◌, cond, nat_le, map, slice_get, option_map, if◌then◌else◌}
use Rattle.std.proofs.lemmas.Bool.{eqb-true}
use Rattle.std.proofs.lemmas.Bool.Decides.{nat_tests}
use Rattle.std.proofs.lemmas.List.{append-nil, length-append}
use Rattle.hd_base.specs.declared.ends.Conn.{Conn}
use Rattle.hd_base.specs.declared.links.LinkIn as link_in
use Rattle.hd_base.specs.declared.links.LinkOut as link_out
use Rattle.hd_base.specs.declared.roads.Roads as roads
use Rattle.hd_base.specs.declared.roads.TheConstants.{FIRST_PORT}
use Rattle.hd_base.specs.declared.numbers.BlockId.{BlockId}
use Rattle.hd_base.specs.declared.numbers.NodeId.{NodeId}
use Rattle.name_core.specs.declared.calls.Begun.{Begun}
use Rattle.road_traffic.specs.Showing.{Net, IsSane, EndIs, dialled_net, accepted_net}
use Rattle.road_traffic.specs.Traffic.{Traffic, Traffics, no_traffic}
use Rattle.road_traffic.proofs.ShowingLemmas.{end-new}
use Rattle.world_nets.specs.World.Parts.{Message, Place}
use Rattle.world_nets.specs.World.Worlds.{World, Change, Dial, apply, dial_at, listed}
use Rattle.world_nets.specs.World.Primaries.{begins_with}
use Rattle.world_nets.specs.Changes.{Flush, after_flushes, sent_in, sent_by, shut_by, NotOf, AreApart}
use Rattle.world_nets.specs.Dials.{request_flush, IsAccepted}
use Rattle.world_nets.specs.Ends.{IsElsewhere, AreElsewhere, flushed_all}
use Rattle.world_nets.specs.Nets.{AreRows, IsNetOf, IsEndOf, is_over, held_by}
use Rattle.world_nets.specs.Rows.{rows_of}
use Rattle.world_nets.specs.Steps.{ChangesBy}
use Rattle.world_nets.proofs.EndLemmas.{stays-past, past-over}
use Rattle.world_nets.proofs.StepLemmas.{changed-over, rows-changed, next-conn, runs-on, none-over}
use Rattle.world_primaries.specs.Dials.{request_flushes, DialsAllBy, dialled_all, accepted_all, all_made, MakesAllEnds}

-- REQUESTS

or_false : (b : Bool) → (b || false) ≡ b
or_false true = refl
or_false false = refl

-- the request of the dial at a place, if there is one
abbrev request_at : List Dial → ℕ → List Message
request_at dials n = listed (option_map (λ (d : Dial). d.request) (slice_get dials n))

-- what is sent on a connection, by whether it is new
abbrev request_if : Bool → List Dial → ℕ → List Message
request_if new dials n = listed (option_map (λ (d : Dial). d.request) (if new then slice_get dials n else None))

if_new : (new : Bool) (dials : List Dial) (n : ℕ) → new ≡ true → request_if new dials n ≡ request_at dials n
if_new true dials n e = refl
if_new false dials n e = cc

if_old : (new : Bool) (dials : List Dial) (n : ℕ) → new ≡ false → request_if new dials n ≡ []
if_old true dials n e = cc
if_old false dials n e = refl

behind : (dial : Dial) (dials : List Dial) (n m : ℕ) → n ≡ suc m → request_at (dial ∷ dials) n ≡ request_at dials m
behind dial dials n m e = ap (request_at (dial ∷ dials)) e

-- of a first dial and others
first_or_behind : (next c : ℕ) (dial : Dial) (dials : List Dial) → cond ((next == c) && true) (dial.request ∷ []) [] ++ request_if (nat_le (next + 1) c) dials (c - (next + 1)) ≡ request_if (nat_le next c) (dial ∷ dials) (c - next)
first_or_behind next c dial dials = by (next == c) refl where
  by : (b : Bool) → (next == c) ≡ b → cond (b && true) (dial.request ∷ []) [] ++ request_if (nat_le (next + 1) c) dials (c - (next + 1)) ≡ request_if (nat_le next c) (dial ∷ dials) (c - next)
  by true e =
      let same : next ≡ c = eqb-true next c e in
      let none : nat_le (next + 1) c ≡ false = grind (arith, nat_tests) in
      let here : nat_le next c ≡ true = grind (arith, nat_tests) in
      let first : c - next ≡ 0 = omega (arith, same) in
      ap (λ l. dial.request ∷ l) (if_old (nat_le (next + 1) c) dials (c - (next + 1)) none)
      ∙ sym (if_new (nat_le next c) (dial ∷ dials) (c - next) here ∙ ap (request_at (dial ∷ dials)) first)
  by false e = old_or_new (nat_le (next + 1) c) refl where
    old_or_new : (b : Bool) → nat_le (next + 1) c ≡ b → request_if (nat_le (next + 1) c) dials (c - (next + 1)) ≡ request_if (nat_le next c) (dial ∷ dials) (c - next)
    old_or_new true later =
        let here : nat_le next c ≡ true = grind (arith, nat_tests) in
        let at : c - next ≡ suc (c - (next + 1)) = grind (arith, nat_tests) in
        if_new (nat_le (next + 1) c) dials (c - (next + 1)) later
        ∙ (sym (behind dial dials (c - next) (c - (next + 1)) at) ∙ sym (if_new (nat_le next c) (dial ∷ dials) (c - next) here))
    old_or_new false earlier =
        let there : nat_le next c ≡ false = grind (arith, nat_tests) in
        if_old (nat_le (next + 1) c) dials (c - (next + 1)) earlier ∙ sym (if_old (nat_le next c) (dial ∷ dials) (c - next) there)

nothing_at : (new : Bool) (n : ℕ) → [] ≡ request_if new [] n
nothing_at true n = refl
nothing_at false n = refl

requests_down : (next : ℕ) (dials : List Dial) (c : ℕ) → sent_by (request_flushes next dials) c true ≡ listed (option_map (λ (d : Dial). d.request) (dial_at next dials c))
requests_down next [] c = nothing_at (nat_le next c) (c - next)
requests_down next (dial ∷ dials) c =
    ap (λ l. cond ((next == c) && true) (dial.request ∷ []) [] ++ l) (requests_down (next + 1) dials c) ∙ first_or_behind next c dial dials

requests_up : (next : ℕ) (dials : List Dial) (c : ℕ) → sent_by (request_flushes next dials) c false ≡ []
requests_up next [] c = refl
requests_up next (dial ∷ dials) c = by (next == c) (requests_up (next + 1) dials c) where
  by : (b : Bool) → sent_by (request_flushes (next + 1) dials) c false ≡ [] → cond (b && false) (dial.request ∷ []) [] ++ sent_by (request_flushes (next + 1) dials) c false ≡ []
  by true rest = rest
  by false rest = rest

requests_shut : (next : ℕ) (dials : List Dial) (c : ℕ) → shut_by (request_flushes next dials) c ≡ false
requests_shut next [] c = refl
requests_shut next (dial ∷ dials) c = by (next == c) (requests_shut (next + 1) dials c) where
  by : (b : Bool) → shut_by (request_flushes (next + 1) dials) c ≡ false → ((b && false) || shut_by (request_flushes (next + 1) dials) c) ≡ false
  by true rest = rest
  by false rest = rest

not_before : (c next : ℕ) (dials : List Dial) → c < next → NotOf c (request_flushes next dials)
not_before c next [] h = tt
not_before c next (dial ∷ dials) h = (grind (arith, nat_tests), not_before c (next + 1) dials (omega (arith, h)))

requests_apart : (next : ℕ) (dials : List Dial) → AreApart (request_flushes next dials)
requests_apart next [] = tt
requests_apart next (dial ∷ dials) = (not_before next (next + 1) dials (omega arith), requests_apart (next + 1) dials)

pub begins_dial : (w : World) (i : ℕ) (at : Place) (block : BlockId) (begun : Begun) (members : List NodeId) (answers : List Bool) → DialsAllBy w (begins_with w i at block begun members answers)
begins_dial w i at block begun members answers = record {
  changes = record {
    sends = sends;
    shuts = λ c. sym (requests_shut w.next_conn k.dials c);
    apart = requests_apart w.next_conn k.dials;
  };
}
  where
    k : Change
    k = begins_with w i at block begun members answers

    sends : (c : ℕ) (d : Bool) → sent_in w k c d ≡ sent_by (request_flushes w.next_conn k.dials) c d
    sends c true = sym (requests_down w.next_conn k.dials c)
    sends c false = sym (requests_up w.next_conn k.dials c)

-- ALL CONNECTIONS

dialled_conns : (net : Net) (ports : List ℕ) → (dialled_all net ports).conns ≡ net.conns + length ports
dialled_conns net [] = omega arith
dialled_conns net (port ∷ ports) = dialled_conns (dialled_net net port) ports ∙ omega arith

dialled_same : (net : Net) (ports : List ℕ) → ((dialled_all net ports).traffic ≡ net.traffic) × ((dialled_all net ports).listens ≡ net.listens)
dialled_same net [] = (refl, refl)
dialled_same net (port ∷ ports) = dialled_same (dialled_net net port) ports

accepted_same : (net : Net) (ports : List ℕ) → ((accepted_all net ports).traffic ≡ net.traffic) × ((accepted_all net ports).listens ≡ net.listens) × ((accepted_all net ports).conns ≡ net.conns)
accepted_same net [] = (refl, refl, refl)
accepted_same net (port ∷ ports) = accepted_same (accepted_net net port) ports

-- how many of these ports are this one
abbrev count_of : List ℕ → ℕ → ℕ
count_of [] port = 0
count_of (p ∷ ports) port = cond (port == p) (suc (count_of ports port)) (count_of ports port)

longer : (b : Bool) (l : List ℕ) (n k : ℕ) → length (cond b (l ++ n ∷ []) l) + k ≡ length l + cond b (suc k) k
longer true l n k = ap (λ m. m + k) (length-append l (n ∷ [])) ∙ omega arith
longer false l n k = refl

waiting_dialled : (net : Net) (ports : List ℕ) (port : ℕ) → length ((dialled_all net ports).waiting port) ≡ length (net.waiting port) + count_of ports port
waiting_dialled net [] port = omega arith
waiting_dialled net (p ∷ ports) port =
    waiting_dialled (dialled_net net p) ports port ∙ longer (port == p) (net.waiting port) net.conns (count_of ports port)

shorter : (b : Bool) (l : List ℕ) (k : ℕ) → length (cond b (drop 1 l) l) - k ≡ length l - cond b (suc k) k
shorter true [] k = omega arith
shorter true (n ∷ l) k = omega arith
shorter false l k = refl

waiting_accepted : (net : Net) (ports : List ℕ) (port : ℕ) → length ((accepted_all net ports).waiting port) ≡ length (net.waiting port) - count_of ports port
waiting_accepted net [] port = omega arith
waiting_accepted net (p ∷ ports) port =
    waiting_accepted (accepted_net net p) ports port ∙ shorter (port == p) (net.waiting port) (count_of ports port)

empty : (l : List ℕ) → length l ≡ 0 → l ≡ []
empty [] e = refl
empty (n ∷ l) e = absurd (omega (arith, e))

none_waits : (net : Net) (ports : List ℕ) (fs : List Flush) (port : ℕ) → net.waiting port ≡ [] → (all_made net ports fs).waiting port ≡ []
none_waits net ports fs port none =
    let before : length (net.waiting port) ≡ 0 = ap (λ (l : List ℕ). length l) none in
    let at : length ((all_made net ports fs).waiting port) ≡ length ((dialled_all net ports).waiting port) - count_of ports port = waiting_accepted (flushed_all (dialled_all net ports) fs) ports port in
    empty ((all_made net ports fs).waiting port) (omega (arith, at, waiting_dialled net ports port, before))

traffic_made : (net : Net) (ports : List ℕ) (fs : List Flush) → (all_made net ports fs).traffic ≡ after_flushes net.traffic fs
traffic_made net ports fs =
    (accepted_same (flushed_all (dialled_all net ports) fs) ports).0 ∙ ap (λ (t : Traffics). after_flushes t fs) (dialled_same net ports).0

conns_made : (net : Net) (ports : List ℕ) (fs : List Flush) → (all_made net ports fs).conns ≡ net.conns + length ports
conns_made net ports fs = (accepted_same (flushed_all (dialled_all net ports) fs) ports).2 ∙ dialled_conns net ports

listens_made : (net : Net) (ports : List ℕ) (fs : List Flush) → (all_made net ports fs).listens ≡ net.listens
listens_made net ports fs = (accepted_same (flushed_all (dialled_all net ports) fs) ports).1 ∙ (dialled_same net ports).1

pub all_dials_are_nets : (w : World) (net : Net) (k : Change) (ports : List ℕ) → IsNetOf w net → DialsAllBy w k → length ports ≡ length k.dials
    → IsNetOf (apply w k) (all_made net ports (request_flushes w.next_conn k.dials))
all_dials_are_nets w net k ports is by size =
    let fs = request_flushes w.next_conn k.dials in record {
      conns = omega (arith, conns_made net ports fs, is.conns, size, next-conn w k (length k.dials) refl);
      listens = λ node. ap (λ (f : ℕ → Bool). f (FIRST_PORT + node)) (listens_made net ports fs) ∙ (is.listens node ∙ sym (runs-on w k node));
      waiting = λ port. none_waits net ports fs port (is.waiting port);
      rows_are = subst (λ (t : Traffics). AreRows (rows_of (apply w k)) t) (sym (traffic_made net ports fs)) (rows-changed w net.traffic k fs is.rows_are by.changes);
      none_over = none-over w k is.none_over (length k.dials) refl;
    }

-- ENDS

-- New upper ends are none of those that were there.
old_elsewhere : (c : ℕ) (d : Bool) (next : ℕ) (dials : List Dial) → c < next → AreElsewhere (request_flushes next dials) c d
old_elsewhere c d next [] h = tt
old_elsewhere c d next (dial ∷ dials) h = ((λ e. absurd (omega (arith, h, e))), old_elsewhere c d (next + 1) dials (omega (arith, h)))

-- Nor is a lower end.
lower_elsewhere : (c next : ℕ) (dials : List Dial) → AreElsewhere (request_flushes next dials) c true
lower_elsewhere c next [] = tt
lower_elsewhere c next (dial ∷ dials) = ((λ e. refl), lower_elsewhere c (next + 1) dials)

module _ {R I O : Type 0} (r : roads.Ghosts R I O) (i : link_in.Ghosts I) (o : link_out.Ghosts O) where
  -- The same end, where the dials were accepted.
  accepted_end : (v : World) (net : Net) (ports : List ℕ) (c : ℕ) (d : Bool) (e : Conn I O) → IsEndOf i o v net c d e → IsEndOf i o v (accepted_all net ports) c d e
  accepted_end v net [] c d e k = k
  accepted_end v net (port ∷ ports) c d e k =
      accepted_end v (accepted_net net port) ports c d e (record { id = k.id; side = k.side; within = k.within; is = k.is; taking = k.taking })

  -- The same end, where the ports were dialled.
  dialled_end : (v : World) (net : Net) (ports : List ℕ) (c : ℕ) (d : Bool) (e : Conn I O) → IsEndOf i o v net c d e → IsEndOf i o v (dialled_all net ports) c d e
  dialled_end v net [] c d e k = k
  dialled_end v net (port ∷ ports) c d e k =
      dialled_end v (dialled_net net port) ports c d e (record { id = k.id; side = k.side; within = omega (arith, k.within); is = k.is; taking = k.taking })

  -- An end of the world before is one of the world after.
  kept_end : (w v : World) (net : Net) (c : ℕ) (d : Bool) (e : Conn I O) → is_over v c d ≡ is_over w c d → IsEndOf i o w net c d e → IsEndOf i o v net c d e
  kept_end w v net c d e over k = record {
    id = k.id;
    side = k.side;
    within = k.within;
    is = subst (λ (b : Bool). EndIs i o net.traffic false [] (held_by b) e) (sym over) k.is;
    taking = k.taking;
  }

  pub all_dials_make_ends : (w : World) (net : Net) (k : Change) (ports : List ℕ) → IsNetOf w net → IsSane net → DialsAllBy w k → length ports ≡ length k.dials
      → MakesAllEnds i o w (apply w k) net (all_made net ports (request_flushes w.next_conn k.dials))
  all_dials_make_ends w net k ports is sane by size = record {
    upper = λ c e below h new. record {
      id = h.number;
      side = h.upper;
      within = within c below;
      is = subst (λ (b : Bool). EndIs i o (all_made net ports fs).traffic false [] (held_by b) e) (sym (over c false new)) h.is;
      taking = ap (λ (t : Traffics). (t c false).over) (traffic_made net ports fs) ∙ (past-over net.traffic fs c false ∙ ap (λ (t : Traffic). t.over) (fresh c false new));
    };
    lower = λ c e below h new. accepted_end v (flushed_all (dialled_all net ports) fs) ports c true e
        (stays-past r i o v v (dialled_all net ports) fs c true e (lower_elsewhere c w.next_conn k.dials) refl (lower_end c e below h new));
    others = λ c d e h. accepted_end v (flushed_all (dialled_all net ports) fs) ports c d e
        (stays-past r i o v v (dialled_all net ports) fs c d e (old_elsewhere c d w.next_conn k.dials (omega (arith, h.within, is.conns))) refl
        (dialled_end v net ports c d e (kept_end w v net c d e (changed-over w k c d) h)));
  }
    where
      v : World
      v = apply w k

      fs : List Flush
      fs = request_flushes w.next_conn k.dials

      within : (c : ℕ) → c < v.next_conn → c < (all_made net ports fs).conns
      within c below = omega (arith, below, conns_made net ports fs, is.conns, size, next-conn w k (length k.dials) refl)

      late : (c : ℕ) → (c < w.next_conn → ⊥) → w.next_conn ≤ c
      late c new = omega (arith, new)

      over : (c : ℕ) (d : Bool) → (c < w.next_conn → ⊥) → is_over v c d ≡ false
      over c d new = changed-over w k c d ∙ is.none_over c d (late c new)

      fresh : (c : ℕ) (d : Bool) → (c < w.next_conn → ⊥) → net.traffic c d ≡ no_traffic
      fresh c d new = sane.fresh c d (omega (arith, late c new, is.conns))

      lower_end : (c : ℕ) (e : Conn I O) → c < v.next_conn → IsAccepted i o c e → (c < w.next_conn → ⊥) → IsEndOf i o v (dialled_all net ports) c true e
      lower_end c e below h new = record {
        id = h.number;
        side = h.lower;
        within = omega (arith, below, dialled_conns net ports, is.conns, size, next-conn w k (length k.dials) refl);
        is = subst (λ (t : Traffics). EndIs i o t false [] (held_by (is_over v c true)) e) (sym (dialled_same net ports).0)
            (subst (λ (b : Bool). EndIs i o net.traffic false [] (held_by b) e) (sym (over c true new))
            (end-new r i o net.traffic e (λ d. fresh e.id.0 d (λ b. new (omega (arith, b, h.number)))) h.fresh h.observable));
        taking = ap (λ (t : Traffics). (t c true).over) (dialled_same net ports).0 ∙ ap (λ (t : Traffic). t.over) (fresh c true new);
      }
