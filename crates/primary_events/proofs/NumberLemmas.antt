-- Dials that were answered or not, and the numbers of the connections that they made.
use Rattle.std.proofs.Common.{◌≡◌, ℕ, zero, suc, ◌+◌, ◌<◌, ◌≤◌, Bool, true, false, if◌then◌else◌, List, [], ◌∷◌, ◌++◌, length, slice_get, Option, Some, None, refl, sym, ap, ◌∙◌, arith}
use Rattle.std.specs.Prelude.{◌-◌, ◌==◌, ◌&&◌, cond, is_some, map, nat_le, option_map}
use Rattle.std.proofs.lemmas.Bool.Decides.{nat_tests}
use Rattle.hd_base.specs.declared.numbers.BlockId.{BlockId}
use Rattle.hd_base.specs.declared.numbers.NodeId.{NodeId}
use Rattle.name_core.specs.declared.calls.Begun.{Begun}
use Rattle.recovery_core.specs.Primaries.{begun_with}
use Rattle.world.specs.Parts.{Message, Place}
use Rattle.world.specs.Worlds.{World, Change, Dial, apply, listed}
use Rattle.world.specs.Primaries.{is_among_conns, numbered, dials_answered, primary_dials, recovery_message, begins_with}
use Rattle.world_primaries.specs.WorldNets.Rows.{rows_of, sends, flushes_row}
use Rattle.world_primaries.specs.WorldNets.Changes.{sent_in}
use Rattle.world_primaries.proofs.WorldNets.ChangeLemmas.{changed_so}
use Rattle.world_primaries.specs.Links.{AreDistinct}
use Rattle.primary_events.proofs.GivingUpLaws.{at_among}
use Rattle.primary_events.proofs.PlaceLemmas.{some_same}
use Rattle.primary_events.proofs.UpdateLemmas.{nothing_more}

-- PORTS THAT WERE DIALLED

-- how many of the first so many were dialled
abbrev pub somes : ℕ → List (Option ℕ) → ℕ
somes zero ports = 0
somes (suc j) [] = 0
somes (suc j) (None ∷ ports) = somes j ports
somes (suc j) (Some port ∷ ports) = suc (somes j ports)

pub somes_more : (j : ℕ) (ports : List (Option ℕ)) (x : Option ℕ) → j ≤ length ports → somes j (ports ++ x ∷ []) ≡ somes j ports
somes_more zero ports x h = refl
somes_more (suc j) [] x h = absurd (omega (arith, h))
somes_more (suc j) (None ∷ ports) x h = somes_more j ports x (omega (arith, h))
somes_more (suc j) (Some port ∷ ports) x h = ap suc (somes_more j ports x (omega (arith, h)))

pub somes_none : (ports : List (Option ℕ)) → somes (suc (length ports)) (ports ++ None ∷ []) ≡ somes (length ports) ports
somes_none [] = refl
somes_none (None ∷ ports) = somes_none ports
somes_none (Some port ∷ ports) = ap suc (somes_none ports)

pub somes_some : (ports : List (Option ℕ)) (port : ℕ) → somes (suc (length ports)) (ports ++ Some port ∷ []) ≡ suc (somes (length ports) ports)
somes_some [] port = refl
somes_some (None ∷ ports) port = somes_some ports port
somes_some (Some q ∷ ports) port = ap suc (somes_some ports port)

-- the dials that wait at a port, of which the first has this number
abbrev pub queue : ℕ → ℕ → List (Option ℕ) → List ℕ
queue at n [] = []
queue at n (None ∷ ports) = queue at n ports
queue at n (Some port ∷ ports) = cond (at == port) (n ∷ queue at (n + 1) ports) (queue at (n + 1) ports)

pub queue_none : (at n : ℕ) (ports : List (Option ℕ)) → queue at n (ports ++ None ∷ []) ≡ queue at n ports
queue_none at n [] = refl
queue_none at n (None ∷ ports) = queue_none at n ports
queue_none at n (Some port ∷ ports) = ap (λ (l : List ℕ). cond (at == port) (n ∷ l) l) (queue_none at (n + 1) ports)

either_way : (b c : Bool) (n m : ℕ) (l : List ℕ) → cond b (n ∷ cond c (l ++ m ∷ []) l) (cond c (l ++ m ∷ []) l) ≡ cond c (cond b (n ∷ l) l ++ m ∷ []) (cond b (n ∷ l) l)
either_way true true n m l = refl
either_way true false n m l = refl
either_way false true n m l = refl
either_way false false n m l = refl

pub queue_some : (at n : ℕ) (ports : List (Option ℕ)) (port : ℕ) → queue at n (ports ++ Some port ∷ []) ≡ cond (at == port) (queue at n ports ++ (n + somes (length ports) ports) ∷ []) (queue at n ports)
queue_some at n [] port = let e : n ≡ n + 0 = omega arith in ap (λ (m : ℕ). cond (at == port) (m ∷ []) []) e
queue_some at n (None ∷ ports) port = queue_some at n ports port
queue_some at n (Some q ∷ ports) port =
    let e : (n + 1) + somes (length ports) ports ≡ n + suc (somes (length ports) ports) = omega arith in
    ap (λ (l : List ℕ). cond (at == q) (n ∷ l) l) (queue_some at (n + 1) ports port)
    ∙ (either_way (at == q) (at == port) n ((n + 1) + somes (length ports) ports) (queue at (n + 1) ports)
    ∙ ap (λ (m : ℕ). cond (at == port) (cond (at == q) (n ∷ queue at (n + 1) ports) (queue at (n + 1) ports) ++ m ∷ []) (cond (at == q) (n ∷ queue at (n + 1) ports) (queue at (n + 1) ports))) e)

-- those of them that are left once the first so many were accepted
abbrev pub rest : ℕ → ℕ → ℕ → List (Option ℕ) → List ℕ
rest zero at n ports = queue at n ports
rest (suc k) at n [] = []
rest (suc k) at n (None ∷ ports) = rest k at n ports
rest (suc k) at n (Some port ∷ ports) = rest k at (n + 1) ports

pub rest_none : (k at n : ℕ) (ports : List (Option ℕ)) → slice_get ports k ≡ Some None → rest k at n ports ≡ rest (suc k) at n ports
rest_none k at n [] h = cc
rest_none zero at n (None ∷ ports) h = refl
rest_none zero at n (Some port ∷ ports) h = absurd (unlike port h) where
  unlike : (port : ℕ) → ◌≡◌ {A = Option (Option ℕ)} (Some (Some port)) (Some None) → ⊥
  unlike port e = cc
rest_none (suc k) at n (None ∷ ports) h = rest_none k at n ports h
rest_none (suc k) at n (Some port ∷ ports) h = rest_none k at (n + 1) ports h

pub rest_some : (k at n : ℕ) (ports : List (Option ℕ)) (port : ℕ) → slice_get ports k ≡ Some (Some port)
    → rest k at n ports ≡ cond (at == port) ((n + somes k ports) ∷ rest (suc k) at n ports) (rest (suc k) at n ports)
rest_some k at n [] port h = cc
rest_some zero at n (None ∷ ports) port h = absurd (unlike port h) where
  unlike : (port : ℕ) → ◌≡◌ {A = Option (Option ℕ)} (Some None) (Some (Some port)) → ⊥
  unlike port e = cc
rest_some zero at n (Some q ∷ ports) port h =
    let e : n ≡ n + 0 = omega arith in
    let same : q ≡ port = some_same q port (some_same (Some q) (Some port) h) in
    ap (λ (p : ℕ). cond (at == p) (n ∷ queue at (n + 1) ports) (queue at (n + 1) ports)) same
    ∙ ap (λ (m : ℕ). cond (at == port) (m ∷ queue at (n + 1) ports) (queue at (n + 1) ports)) e
rest_some (suc k) at n (None ∷ ports) port h = rest_some k at n ports port h
rest_some (suc k) at n (Some q ∷ ports) port h =
    let e : (n + 1) + somes k ports ≡ n + suc (somes k ports) = omega arith in
    rest_some k at (n + 1) ports port h ∙ ap (λ (m : ℕ). cond (at == port) (m ∷ rest (suc k) at (n + 1) ports) (rest (suc k) at (n + 1) ports)) e

pub rest_end : (at n : ℕ) (ports : List (Option ℕ)) → rest (length ports) at n ports ≡ []
rest_end at n [] = refl
rest_end at n (None ∷ ports) = rest_end at n ports
rest_end at n (Some port ∷ ports) = rest_end at (n + 1) ports

-- NUMBERS

-- the number of a connection, if it was dialled
abbrev pub number_of : ℕ → Option (Option ℕ) → Option (Option ℕ)
number_of n None = None
number_of n (Some None) = Some None
number_of n (Some (Some port)) = Some (Some n)

pub numbered_at : (n : ℕ) (ports : List (Option ℕ)) (j : ℕ) → slice_get (numbered n (map is_some ports)) j ≡ number_of (n + somes j ports) (slice_get ports j)
numbered_at n [] j = refl
numbered_at n (None ∷ ports) zero = refl
numbered_at n (Some port ∷ ports) zero = let e : n ≡ n + 0 = omega arith in ap (λ (m : ℕ). Some (Some m)) e
numbered_at n (None ∷ ports) (suc j) = numbered_at n ports j
numbered_at n (Some port ∷ ports) (suc j) =
    let e : (n + 1) + somes j ports ≡ n + suc (somes j ports) = omega arith in
    numbered_at (n + 1) ports j ∙ ap (λ (m : ℕ). number_of m (slice_get ports j)) e

pub number_there : (n : ℕ) (ports : List (Option ℕ)) (j port : ℕ) → slice_get ports j ≡ Some (Some port) → slice_get (numbered n (map is_some ports)) j ≡ Some (Some (n + somes j ports))
number_there n ports j port at = numbered_at n ports j ∙ ap (number_of (n + somes j ports)) at

pub none_there : (n : ℕ) (ports : List (Option ℕ)) (j : ℕ) → slice_get ports j ≡ Some None → slice_get (numbered n (map is_some ports)) j ≡ Some None
none_there n ports j at = numbered_at n ports j ∙ ap (number_of (n + somes j ports)) at

-- how many are answered
abbrev pub trues : List Bool → ℕ
trues [] = 0
trues (true ∷ answers) = suc (trues answers)
trues (false ∷ answers) = trues answers

pub trues_are : (ports : List (Option ℕ)) → trues (map is_some ports) ≡ somes (length ports) ports
trues_are [] = refl
trues_are (None ∷ ports) = trues_are ports
trues_are (Some port ∷ ports) = ap suc (trues_are ports)

-- The numbers begin with this one.
pub number_within : (n : ℕ) (answers : List Bool) (j c : ℕ) → slice_get (numbered n answers) j ≡ Some (Some c) → (n ≤ c) × (c < n + trues answers)
number_within n [] j c h = cc
number_within n (true ∷ answers) zero c h =
    let e : n ≡ c = some_same n c (some_same (Some n) (Some c) h) in (omega (arith, e), omega (arith, e))
number_within n (true ∷ answers) (suc j) c h = let k = number_within (n + 1) answers j c h in (omega (arith, k.0), omega (arith, k.1))
number_within n (false ∷ answers) zero c h = absurd (no_number c h) where
  no_number : (c : ℕ) → ◌≡◌ {A = Option (Option ℕ)} (Some None) (Some (Some c)) → ⊥
  no_number c e = cc
number_within n (false ∷ answers) (suc j) c h = number_within n answers j c h

pub numbered_distinct : (n : ℕ) (answers : List Bool) → AreDistinct (numbered n answers)
numbered_distinct n [] = λ j k c one other. cc
numbered_distinct n (false ∷ answers) = λ j k c one other. by (numbered_distinct n answers) j k c one other
  where
    no_number : (c : ℕ) → ◌≡◌ {A = Option (Option ℕ)} (Some None) (Some (Some c)) → ⊥
    no_number c e = cc

    by : AreDistinct (numbered n answers) → (j k c : ℕ) → slice_get (None ∷ numbered n answers) j ≡ Some (Some c) → slice_get (None ∷ numbered n answers) k ≡ Some (Some c) → j ≡ k
    by behind zero k c one other = absurd (no_number c one)
    by behind (suc j) zero c one other = absurd (no_number c other)
    by behind (suc j) (suc k) c one other = ap suc (behind j k c one other)
numbered_distinct n (true ∷ answers) = λ j k c one other. by (numbered_distinct (n + 1) answers) j k c one other
  where
    by : AreDistinct (numbered (n + 1) answers) → (j k c : ℕ) → slice_get (Some n ∷ numbered (n + 1) answers) j ≡ Some (Some c) → slice_get (Some n ∷ numbered (n + 1) answers) k ≡ Some (Some c) → j ≡ k
    by behind zero zero c one other = refl
    by behind zero (suc k) c one other =
        let e : n ≡ c = some_same n c (some_same (Some n) (Some c) one) in
        let h = (number_within (n + 1) answers k c other).0 in
        absurd (omega (arith, e, h))
    by behind (suc j) zero c one other =
        let e : n ≡ c = some_same n c (some_same (Some n) (Some c) other) in
        let h = (number_within (n + 1) answers j c one).0 in
        absurd (omega (arith, e, h))
    by behind (suc j) (suc k) c one other = ap suc (behind j k c one other)

-- Each number that was given stands at a place.
pub number_stands : (n : ℕ) (answers : List Bool) (c : ℕ) → n ≤ c → c < n + trues answers → (j : ℕ) × (slice_get (numbered n answers) j ≡ Some (Some c))
number_stands n [] c from to = absurd (omega (arith, from, to))
number_stands n (false ∷ answers) c from to = let k = number_stands n answers c from to in (suc k.0, k.1)
number_stands n (true ∷ answers) c from to = by (λ less more. number_stands (n + 1) answers c less more) (n == c) refl
  where
    by : (n + 1 ≤ c → c < (n + 1) + trues answers → (j : ℕ) × (slice_get (numbered (n + 1) answers) j ≡ Some (Some c))) → (b : Bool) → (n == c) ≡ b → (j : ℕ) × (slice_get (Some n ∷ numbered (n + 1) answers) j ≡ Some (Some c))
    by behind true e = let same : n ≡ c = grind (arith, nat_tests) in (zero, ap (λ (m : ℕ). Some (Some m)) same)
    by behind false e =
        let from' : n + 1 ≤ c = grind (arith, nat_tests) in
        let k = behind from' (omega (arith, to)) in (suc k.0, k.1)

-- THE DIALS

-- Dials are answered where this says so, if the nodes run.
pub answered_same : (w : World) (members : List NodeId) (answers : List Bool) → length answers ≡ length members
    → ((j : ℕ) (node : NodeId) → slice_get members j ≡ Some node → slice_get answers j ≡ Some true → w.running node.0 ≡ true) → dials_answered w members answers ≡ answers
answered_same w [] [] size run = refl
answered_same w [] (a ∷ answers) size run = absurd (omega (arith, size))
answered_same w (m ∷ members) [] size run = absurd (omega (arith, size))
answered_same w (m ∷ members) (true ∷ answers) size run =
    ap (λ (b : Bool). b ∷ dials_answered w members answers) (run 0 m refl refl)
    ∙ ap (λ (l : List Bool). true ∷ l) (answered_same w members answers (omega (arith, size)) (λ j node at on. run (suc j) node at on))
answered_same w (m ∷ members) (false ∷ answers) size run =
    ap (λ (l : List Bool). false ∷ l) (answered_same w members answers (omega (arith, size)) (λ j node at on. run (suc j) node at on))

-- They are answered so in each world in which the same nodes run.
pub answered_alike : (w u : World) → ((n : ℕ) → u.running n ≡ w.running n) → (members : List NodeId) (answers : List Bool) → dials_answered u members answers ≡ dials_answered w members answers
answered_alike w u runs [] answers = refl
answered_alike w u runs (m ∷ members) [] = ap (λ (l : List Bool). false ∷ l) (answered_alike w u runs members [])
answered_alike w u runs (m ∷ members) (a ∷ answers) =
    ap (λ (b : Bool). (a && b) ∷ dials_answered u members answers) (runs m.0)
    ∙ ap (λ (l : List Bool). (a && w.running m.0) ∷ l) (answered_alike w u runs members answers)

module _ (w : World) (i : ℕ) (from : Place) (first : Message) where
  pub dials_length : (place : ℕ) (members : List NodeId) (answers : List Bool) → length answers ≤ length members → length (primary_dials w i from first place members answers) ≡ trues answers
  dials_length place [] [] h = refl
  dials_length place [] (a ∷ answers) h = absurd (omega (arith, h))
  dials_length place (m ∷ members) [] h = refl
  dials_length place (m ∷ members) (true ∷ answers) h = ap suc (dials_length (place + 1) members answers (omega (arith, h)))
  dials_length place (m ∷ members) (false ∷ answers) h = dials_length (place + 1) members answers (omega (arith, h))

  abbrev request_at : List Dial → ℕ → List Message
  request_at dials m = listed (option_map (λ (d : Dial). d.request) (slice_get dials m))

  dials_send : (place : ℕ) (members : List NodeId) (answers : List Bool) (m : ℕ) → length answers ≤ length members → m < trues answers → request_at (primary_dials w i from first place members answers) m ≡ first ∷ []
  dials_send place [] [] m h lt = absurd (omega (arith, lt))
  dials_send place [] (a ∷ answers) m h lt = absurd (omega (arith, h))
  dials_send place (n ∷ members) [] m h lt = absurd (omega (arith, lt))
  dials_send place (n ∷ members) (true ∷ answers) zero h lt = refl
  dials_send place (n ∷ members) (true ∷ answers) (suc m) h lt = dials_send (place + 1) members answers m (omega (arith, h)) (omega (arith, lt))
  dials_send place (n ∷ members) (false ∷ answers) m h lt = dials_send (place + 1) members answers m (omega (arith, h)) lt

past : {A : Type 0} (xs : List A) (m : ℕ) → length xs ≤ m → slice_get xs m ≡ None
past [] m h = refl
past (x ∷ xs) zero h = absurd (omega (arith, h))
past (x ∷ xs) (suc m) h = past xs m (omega (arith, h))

-- ROWS

module _ (w : World) (i : ℕ) (at : Place) (block : BlockId) (begun : Begun) (members : List NodeId) (answers : List Bool) (size : length answers ≡ length members) where
  abbrev pub k : Change
  k = begins_with w i at block begun members answers

  abbrev pub first : Message
  first = recovery_message (begun_with block begun members answers)

  abbrev pub conns : List (Option ℕ)
  conns = numbered w.next_conn answers

  pub dials_are : length k.dials ≡ trues answers
  dials_are = dials_length w i at first 0 members answers (omega (arith, size))

  abbrev request_if : Bool → ℕ → List Message
  request_if b m = listed (option_map (λ (d : Dial). d.request) (if b then slice_get k.dials m else None))

  sent_new : (x : ℕ) → w.next_conn ≤ x → x < w.next_conn + trues answers → sent_in w k x true ≡ first ∷ []
  sent_new x from to =
      let here : nat_le w.next_conn x ≡ true = grind (arith, nat_tests) in
      ap (λ (b : Bool). request_if b (x - w.next_conn)) here ∙ dials_send w i at first 0 members answers (x - w.next_conn) (omega (arith, size)) (omega (arith, from, to))

  sent_old : (x : ℕ) → is_among_conns conns x ≡ false → sent_in w k x true ≡ []
  sent_old x none = by (nat_le w.next_conn x) refl (nat_le (suc x) (w.next_conn + trues answers)) refl
    where
      true_false : true ≡ false → ⊥
      true_false h = cc

      by : (b : Bool) → nat_le w.next_conn x ≡ b → (c : Bool) → nat_le (suc x) (w.next_conn + trues answers) ≡ c → request_if (nat_le w.next_conn x) (x - w.next_conn) ≡ []
      by false old c e = ap (λ (b : Bool). request_if b (x - w.next_conn)) old
      by true new true e =
          let from : w.next_conn ≤ x = grind (arith, nat_tests) in
          let to : x < w.next_conn + trues answers = grind (arith, nat_tests) in
          let j = number_stands w.next_conn answers x from to in
          absurd (true_false (sym (at_among conns j.0 x j.1) ∙ none))
      by true new false e =
          let from : w.next_conn ≤ x = grind (arith, nat_tests) in
          let behind : w.next_conn + trues answers ≤ x = grind (arith, nat_tests) in
          let none_there : slice_get k.dials (x - w.next_conn) ≡ None = past k.dials (x - w.next_conn) (omega (arith, dials_are, from, behind)) in
          ap (λ (b : Bool). request_if b (x - w.next_conn)) new ∙ ap (λ (d : Option Dial). listed (option_map (λ (d : Dial). d.request) d)) none_there

  -- The rows of a new connection have the request.
  pub row_new : (j x : ℕ) (d : Bool) → slice_get conns j ≡ Some (Some x) → rows_of (apply w k) x d ≡ flushes_row false false (first ∷ []) d (rows_of w x d)
  row_new j x true at_j = let h = number_within w.next_conn answers j x at_j in changed_so w k x true ∙ ap (λ (ms : List Message). sends ms (rows_of w x true)) (sent_new x h.0 h.1)
  row_new j x false at_j = changed_so w k x false ∙ nothing_more (rows_of w x false)

  -- Those of each other one stay.
  pub row_old : (x : ℕ) (d : Bool) → is_among_conns conns x ≡ false → rows_of (apply w k) x d ≡ rows_of w x d
  row_old x true none = changed_so w k x true ∙ (ap (λ (ms : List Message). sends ms (rows_of w x true)) (sent_old x none) ∙ nothing_more (rows_of w x true))
  row_old x false none = changed_so w k x false ∙ nothing_more (rows_of w x false)
