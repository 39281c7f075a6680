-- Laws of a rename: two names change places.
use Rattle.std.proofs.Common.{◌≡◌, ℕ, ◌+◌, true, false, cond, List, [], ◌∷◌, map, arith, refl, ap, ◌∙◌, vec_capacity}
use Rattle.std.specs.Str.{bytes_eq}
use Rattle.std.proofs.lemmas.Grind.{common_steps}
use Rattle.std.proofs.lemmas.Slice.Eq.{bytes_eq-Decides}
use Rattle.hd_base.specs.FileMaps.{FileMap, moved, CarriesRoom}
use Rattle.mem_ports.specs.declared.entries.Entry.{Entry}
use Rattle.mem_ports.specs.Apart.{is_among, all_apart}
use Rattle.mem_ports.specs.Entries.{shown, look, space, names_of, names_apart, renamed}

-- one of two names in the place of the other
abbrev swapped : List ℕ → List ℕ → List ℕ → List ℕ
swapped from to name = cond (bytes_eq name from) to (cond (bytes_eq name to) from name)

name-renamed : (from to : List ℕ) (e : Entry) → (renamed from to e).name ≡ swapped from to e.name
name-renamed from to e =
    elim (bytes_eq e.name from) as (λ a. (cond a (record e { name = to }) (cond (bytes_eq e.name to) (record e { name = from; there = false }) e)).name ≡ cond a to (cond (bytes_eq e.name to) from e.name)) [
      | true ↦ refl
      | false ↦ elim (bytes_eq e.name to) as (λ b. (cond b (record e { name = from; there = false }) e).name ≡ cond b from e.name) [ true ↦ refl | false ↦ refl ]
    ]

names-renamed : (from to : List ℕ) (es : List Entry) → names_of (map (renamed from to) es) ≡ map (swapped from to) (names_of es)
names-renamed from to [] = refl
names-renamed from to (e ∷ es) = rw (name-renamed from to e, names-renamed from to es) refl

eq-swapped : (from to a b : List ℕ) → bytes_eq (swapped from to a) (swapped from to b) ≡ bytes_eq a b
eq-swapped from to a b =
    grind (arith, common_steps, bytes_eq-Decides a from, bytes_eq-Decides a to, bytes_eq-Decides b from, bytes_eq-Decides b to, bytes_eq-Decides a b, bytes_eq-Decides (swapped from to a) (swapped from to b))

among-swapped : (from to : List ℕ) (ns : List (List ℕ)) (n : List ℕ) → is_among bytes_eq (map (swapped from to) ns) (swapped from to n) ≡ is_among bytes_eq ns n
among-swapped from to [] n = refl
among-swapped from to (m ∷ ns) n = rw (eq-swapped from to m n, among-swapped from to ns n) refl

apart-swapped : (from to : List ℕ) (ns : List (List ℕ)) → all_apart bytes_eq (map (swapped from to) ns) ≡ all_apart bytes_eq ns
apart-swapped from to [] = refl
apart-swapped from to (n ∷ ns) = rw (among-swapped from to ns n, apart-swapped from to ns) refl

-- The names stay apart.
pub apart-renamed : (from to : List ℕ) (es : List Entry) → names_apart es ≡ true → names_apart (map (renamed from to) es) ≡ true
apart-renamed from to es apart = ap (all_apart bytes_eq) (names-renamed from to es) ∙ apart-swapped from to (names_of es) ∙ apart

-- what the first of several entries shows after a rename
look_first : (from to q : List ℕ) (e : Entry) (m : FileMap) → bytes_eq from to ≡ false → cond (bytes_eq (renamed from to e).name q) (shown (renamed from to e)) (moved m from to q) ≡ moved (λ n. cond (bytes_eq e.name n) (shown e) (m n)) from to q
look_first from to q e m apart =
    grind (arith, common_steps, bytes_eq-Decides e.name from, bytes_eq-Decides e.name to, bytes_eq-Decides e.name q, bytes_eq-Decides from q, bytes_eq-Decides to q, bytes_eq-Decides from to)

look_renamed : (from to q : List ℕ) (es : List Entry) → bytes_eq from to ≡ false → look (map (renamed from to) es) q ≡ moved (look es) from to q
look_renamed from to q [] apart = grind (arith, common_steps)
look_renamed from to q (e ∷ es) apart =
    ap (λ v. cond (bytes_eq (renamed from to e).name q) (shown (renamed from to e)) v) (look_renamed from to q es apart) ∙ look_first from to q e (look es) apart

-- The file of the first name stands under the second.
pub look-renamed : (from to : List ℕ) (es : List Entry) → bytes_eq from to ≡ false → look (map (renamed from to) es) ≡ moved (look es) from to
look-renamed from to es apart = λ i q. look_renamed from to q es apart i

moved_at : (m : FileMap) (name q : List ℕ) → moved m name name q ≡ m q
moved_at m name q = grind (arith, common_steps, bytes_eq-Decides name q)

-- A name that becomes itself changes nothing.
pub moved-same : (m : FileMap) (name : List ℕ) → moved m name name ≡ m
moved-same m name = λ i q. moved_at m name q i

-- the first of several rooms after a rename
room_first : (from to q : List ℕ) (e : Entry) (r : List ℕ → ℕ) (v : ℕ) → bytes_eq from to ≡ false → v ≡ cond (bytes_eq to q) (r from) (cond (bytes_eq from q) (r to) (r q)) → cond (bytes_eq (renamed from to e).name q) (vec_capacity (renamed from to e).bytes + 1) v ≡ cond (bytes_eq to q) (cond (bytes_eq e.name from) (vec_capacity e.bytes + 1) (r from)) (cond (bytes_eq from q) (cond (bytes_eq e.name to) (vec_capacity e.bytes + 1) (r to)) (cond (bytes_eq e.name q) (vec_capacity e.bytes + 1) (r q)))
room_first from to q e r v apart is =
    grind (arith, common_steps, bytes_eq-Decides e.name from, bytes_eq-Decides e.name to, bytes_eq-Decides e.name q, bytes_eq-Decides from q, bytes_eq-Decides to q, bytes_eq-Decides from to)

space_renamed : (from to q : List ℕ) (es : List Entry) → bytes_eq from to ≡ false → space (map (renamed from to) es) q ≡ cond (bytes_eq to q) (space es from) (cond (bytes_eq from q) (space es to) (space es q))
space_renamed from to q [] apart = grind (arith, common_steps)
space_renamed from to q (e ∷ es) apart = room_first from to q e (space es) (space (map (renamed from to) es) q) apart (space_renamed from to q es apart)

-- The room of the first name stands under the second.
pub space-renamed : (from to : List ℕ) (es : List Entry) → bytes_eq from to ≡ false → CarriesRoom (space es) (space (map (renamed from to) es)) from to
space-renamed from to es apart = record {
  carried = let new = space_renamed from to to es apart in grind (arith, common_steps, bytes_eq-Decides to to);
  others = λ q f t. let new = space_renamed from to q es apart in grind (arith, common_steps);
}
