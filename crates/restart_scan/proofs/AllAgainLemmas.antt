-- What a further scan of a whole shelf finds.
use Rattle.std.proofs.Common.{◌≡◌, ◌⊎◌, inl, inr, ℕ, zero, suc, ◌+◌, ◌-◌, ◌*◌, ◌^◌, ◌<◌, ◌==◌, nat_lt, cond, Bool, true, false, List, [], ◌∷◌, ◌++◌, Option, Some, None, IfSome, Contains, refl, sym, ap, subst, ◌∙◌, arith}
use Rattle.std.proofs.lemmas.Grind.{common_steps}
use Rattle.std.proofs.lemmas.Bool.Decides.{nat_tests, Decides-eqb}
use Rattle.std.proofs.lemmas.List.Kept.{AllPairs-from_increasing}
use Rattle.std.proofs.Common.{AllPairs, Ordering, Less, Equal, Greater}
use Rattle.std.proofs.lemmas.Cmp.{nat_list_cmp_total}
use Rattle.std.specs.Ordering.{nat_cmp, is_lt, ordering_reverse}
use Rattle.std.specs.Cmp.Lexicographic.{slice_cmp}
use Rattle.std.specs.List.{AllZip}
use Rattle.hd_base.specs.Numerals.{is_digit}
use Rattle.std.specs.Prelude.{codes, nat_eq, drop}
use Rattle.std.specs.List.{starts_with}
use Rattle.hd_base.specs.Blocks.{base_of, digits_at, number_at, whole_number, block_of, is_of_block, is_this}
use Rattle.hd_base.specs.FileMaps.{FileMap, part_of, AreNamesOf}
use Rattle.hd_base.specs.declared.numbers.BlockId.{BlockId}
use Rattle.restart_scan.specs.declared.found.Seen.{Seen}
use Rattle.restart_scan.specs.declared.found.Scanned.{Scanned}
use Rattle.restart_scan.specs.declared.found.Found.{Found}
use Rattle.restart_scan.specs.Pairs.{is_temporary, without_temporary}
use Rattle.restart_scan.specs.Blocks.{scanned_none}
use Rattle.restart_scan.specs.Shelves.{IsPartly, IsOfNone, seen_list, seen_all, moved_list, moved_all, block_numbered, IsScanned, numbers_of, stray_part, HasFiles, ScansShelf, StopsShelf}
use Rattle.restart_scan.specs.Further.{FindsAgain, FindsAllAgain, FurtherShelfScansFindTheSame}
use Rattle.restart_scan.proofs.RemovalLemmas.{IsBelow}
use Rattle.restart_scan.proofs.SettleLemmas.{is_less}
use Rattle.restart_scan.proofs.WholeLemmas.{nothing_there}
use Rattle.restart_scan.proofs.ScanLemmas.{none_some, same_some, Rises, rises_from, later, contains_back, has_or_not, no_file}
use Rattle.restart_scan.proofs.FurtherLemmas.{further_scans_find_the_same}

true_false : true ≡ false → ⊥
true_false e = cc

not_true : (t : Bool) → (t ≡ true → ⊥) → t ≡ false
not_true true h = absurd (h refl)
not_true false h = refl

-- ---- a name's block has 64 bits

abbrev Fits : Option (ℕ × List ℕ) → Type 0
Fits o = IfSome o (λ x. x.0 < 2 ^ 64)

digits_fit : (cs : List ℕ) (n : ℕ) → n < 2 ^ 64 → Fits (digits_at n cs)
digits_fit [] n fits = fits
digits_fit (c ∷ cs) n fits = by (λ less. digits_fit cs (n * 10 + (c - 48)) less) (is_digit c) (nat_lt (n * 10 + (c - 48)) (2 ^ 64)) refl where
  by : (n * 10 + (c - 48) < 2 ^ 64 → Fits (digits_at (n * 10 + (c - 48)) cs)) → (d t : Bool) → nat_lt (n * 10 + (c - 48)) (2 ^ 64) ≡ t → Fits (cond d (cond t (digits_at (n * 10 + (c - 48)) cs) None) (Some (n, c ∷ cs)))
  by rest true true e = rest (is_less (n * 10 + (c - 48)) (2 ^ 64) e)
  by rest true false e = tt
  by rest false t e = fits

digit_fits : (c : ℕ) → is_digit c ≡ true → c - 48 < 2 ^ 64
digit_fits c e = grind (arith, common_steps, nat_tests)

number_fits : (cs : List ℕ) → Fits (number_at cs)
number_fits [] = tt
number_fits (c ∷ cs) = by (c == 48) (is_digit c) refl where
  by : (z d : Bool) → is_digit c ≡ d → Fits (cond z (Some (0, cs)) (cond d (digits_at (c - 48) cs) None))
  by true d e = omega arith
  by false true e = digits_fit cs (c - 48) (digit_fits c e)
  by false false e = tt

whole_fits : (o : Option (ℕ × List ℕ)) → Fits o → IfSome (whole_number o) (λ n. n < 2 ^ 64)
whole_fits None fits = tt
whole_fits (Some (n, [])) fits = fits
whole_fits (Some (n, c ∷ cs)) fits = by (c == 95) where
  by : (t : Bool) → IfSome (cond t (Some n) None) (λ n. n < 2 ^ 64)
  by true = fits
  by false = tt

either_fits : (t : Bool) (o : Option ℕ) → IfSome o (λ n. n < 2 ^ 64) → IfSome (cond t o None) (λ n. n < 2 ^ 64)
either_fits true o fits = fits
either_fits false o fits = tt

name_fits : (name : List ℕ) → IfSome (block_of name) (λ n. n < 2 ^ 64)
unfolding block_of
name_fits name =
    let rest = drop 4 (base_of name) in
    either_fits (starts_with nat_eq (base_of name) (codes "blk_")) (whole_number (number_at rest)) (whole_fits (number_at rest) (number_fits rest))

block_fits : (name : List ℕ) (b : ℕ) → block_of name ≡ Some b → b < 2 ^ 64
block_fits name b e = subst (λ o. IfSome o (λ n. n < 2 ^ 64)) e (name_fits name)

-- ---- the files of a block

this_block : (b : ℕ) (name : List ℕ) → block_of name ≡ Some b → is_of_block b name ≡ true
this_block b name e = ap (is_this b) e ∙ (Decides-eqb b b).1 refl

of_this : (b : ℕ) (name : List ℕ) → is_of_block b name ≡ true → block_of name ≡ Some b
of_this b name e = by (block_of name) refl where
  by : (o : Option ℕ) → block_of name ≡ o → o ≡ Some b
  by None h = absurd (true_false (sym e ∙ ap (is_this b) h))
  by (Some c) h = ap Some ((Decides-eqb c b).0 (sym (ap (is_this b) h) ∙ e))

-- two maps have the same files of a block
part_same : (b : ℕ) (m n : FileMap) → ((name : List ℕ) → block_of name ≡ Some b → m name ≡ n name) → part_of b m ≡ part_of b n
part_same b m n same = λ i name. at name (is_of_block b name) refl i where
  at : (name : List ℕ) (t : Bool) → is_of_block b name ≡ t → part_of b m name ≡ part_of b n name
  at name true e = ap (λ o. cond (is_of_block b name) o None) (same name (of_this b name e))
  at name false e = ap (λ u. cond u (m name) None) e ∙ sym (ap (λ u. cond u (n name) None) e)

other_blocks : (blocks : List ℕ) (b : ℕ) (name : List ℕ) → ((c : ℕ) → Contains blocks c → c ≡ b → ⊥) → block_of name ≡ Some b → IsOfNone blocks name
other_blocks blocks b name away e c at = by (is_of_block c name) refl where
  by : (t : Bool) → is_of_block c name ≡ t → t ≡ false
  by true h = absurd (away c at (same_some c b (sym (of_this c name h) ∙ e)))
  by false h = refl

none_part : (b : ℕ) (m : FileMap) → (HasFiles m b → ⊥) → without_temporary (part_of b m) ≡ (λ _. None)
none_part b m none = λ i name. at name i where
  both : (t u : Bool) (o : Option (List ℕ)) → (u ≡ true → o ≡ None) → cond t None (cond u o None) ≡ None
  both true u o h = refl
  both false true o h = h refl
  both false false o h = refl

  at : (name : List ℕ) → without_temporary (part_of b m) name ≡ None
  at name = both (is_temporary name) (is_of_block b name) (m name) (λ e. no_file (m name) (λ there. none (name, of_this b name e, there)))

-- ---- what was found of each block

-- What a scan of a shelf found of a block, in its lists.
pub record FoundAt (m n : FileMap) (replicas : List Seen) (moved : List BlockId) (b : ℕ) : Type 0 where
  pub of : Scanned
  pub is : IsScanned m n b of
  pub listed : (s : Seen) → of.seen ≡ Some s → Contains replicas s
  pub named : of.is_moved ≡ true → Contains moved (block_numbered b)

front_contains : {A : Type 0} (xs ys : List A) (q : A) → Contains xs q → Contains (xs ++ ys) q
front_contains [] ys q at = absurd (omega (arith, at.1))
front_contains (x ∷ xs) ys q (zero, within, is) = (0, omega arith, is)
front_contains (x ∷ xs) ys q (suc k, within, is) = later x (xs ++ ys) q (front_contains xs ys q (k, omega (arith, within), is))

found_listed : (m n : FileMap) (blocks : List ℕ) (results : List Scanned) (b : ℕ) → AllZip (IsScanned m n) blocks results → Contains blocks b → FoundAt m n (seen_all results) (moved_all blocks results) b
found_listed m n [] results b h at = absurd (omega (arith, at.1))
found_listed m n (c ∷ bs) [] b h at = absurd h
found_listed m n (c ∷ bs) (x ∷ xs) b h (zero, within, is) = subst (FoundAt m n (seen_all (x ∷ xs)) (moved_all (c ∷ bs) (x ∷ xs))) is (record {
  of = x;
  is = h.0;
  listed = λ s e. subst (λ o. Contains (seen_list o ++ seen_all xs) s) (sym e) (0, omega arith, refl);
  named = λ e. subst (λ t. Contains (moved_list (block_numbered c) t ++ moved_all bs xs) (block_numbered c)) (sym e) (0, omega arith, refl);
})
found_listed m n (c ∷ bs) (x ∷ xs) b h (suc k, within, is) =
    let r = found_listed m n bs xs b h.1 (k, omega (arith, within), is) in
    record {
      of = r.of;
      is = r.is;
      listed = λ s e. contains_back (seen_list x.seen) (seen_all xs) s (r.listed s e);
      named = λ e. contains_back (moved_list (block_numbered c) x.is_moved) (moved_all bs xs) (block_numbered b) (r.named e);
    }

-- where a replica that was found comes from
record SeenAt (m n : FileMap) (blocks : List ℕ) (s : Seen) : Type 0 where
  block : ℕ
  among : Contains blocks block
  of : Scanned
  is : IsScanned m n block of
  shown : of.seen ≡ Some s

seen_source : (m n : FileMap) (blocks : List ℕ) (results : List Scanned) (s : Seen) → AllZip (IsScanned m n) blocks results → Contains (seen_all results) s → SeenAt m n blocks s
seen_source m n [] [] s h at = absurd (omega (arith, at.1))
seen_source m n [] (x ∷ xs) s h at = absurd h
seen_source m n (b ∷ bs) [] s h at = absurd h
seen_source m n (b ∷ bs) (x ∷ xs) s h at = by (λ one. seen_source m n bs xs s h.1 one) x.seen refl at where
  more : SeenAt m n bs s → SeenAt m n (b ∷ bs) s
  more w = record { block = w.block; among = later b bs w.block w.among; of = w.of; is = w.is; shown = w.shown }

  by : (Contains (seen_all xs) s → SeenAt m n bs s) → (o : Option Seen) → x.seen ≡ o → Contains (seen_list o ++ seen_all xs) s → SeenAt m n (b ∷ bs) s
  by rest None e at = more (rest at)
  by rest (Some t) e (zero, within, is) = record { block = b; among = (0, omega arith, refl); of = x; is = h.0; shown = e ∙ ap Some is }
  by rest (Some t) e (suc k, within, is) = more (rest (k, omega (arith, within), is))

-- where a block that was moved comes from
record MovedAt (m n : FileMap) (blocks : List ℕ) (block : BlockId) : Type 0 where
  among : Contains blocks block.0
  of : Scanned
  is : IsScanned m n block.0 of
  shown : of.is_moved ≡ true

moved_source : (m n : FileMap) (blocks : List ℕ) (results : List Scanned) (q : BlockId) → AllZip (IsScanned m n) blocks results → Contains (moved_all blocks results) q → MovedAt m n blocks q
moved_source m n [] [] q h at = absurd (omega (arith, at.1))
moved_source m n [] (x ∷ xs) q h at = absurd h
moved_source m n (b ∷ bs) [] q h at = absurd h
moved_source m n (b ∷ bs) (x ∷ xs) q h at = by (λ one. moved_source m n bs xs q h.1 one) x.is_moved refl at where
  more : MovedAt m n bs q → MovedAt m n (b ∷ bs) q
  more w = record { among = later b bs q.0 w.among; of = w.of; is = w.is; shown = w.shown }

  by : (Contains (moved_all bs xs) q → MovedAt m n bs q) → (t : Bool) → x.is_moved ≡ t → Contains (moved_list (block_numbered b) t ++ moved_all bs xs) q → MovedAt m n (b ∷ bs) q
  by rest false e at = more (rest at)
  by rest true e (zero, within, is) = subst (MovedAt m n (b ∷ bs)) is (record { among = (0, omega arith, refl); of = x; is = h.0; shown = e })
  by rest true e (suc k, within, is) = more (rest (k, omega (arith, within), is))

-- ---- every block, with files or without

module _ (m n : FileMap) (found : Found) (s : ScansShelf m n found) where
  -- other blocks have no files, and keep none
  found_none : (b : ℕ) → ((c : ℕ) → Contains s.blocks c → c ≡ b → ⊥) → FoundAt m n found.replicas.items found.moved.items b
  found_none b away =
      let nothing : without_temporary (part_of b m) ≡ (λ _. None) = none_part b m (λ has. away b ((s.are b).1 has) refl) in
      record {
        of = scanned_none;
        is = inr (record {
          none = nothing_there (block_numbered b) (part_of b m) nothing;
          found = refl;
          left = part_same b n m (λ name e. s.scans.others name (other_blocks s.blocks b name away e)) ∙ no_part b (λ has. away b ((s.are b).1 has) refl) ∙ sym nothing;
        });
        listed = λ x e. absurd (none_some x e);
        named = λ e. absurd (true_false (sym e));
      } where
        no_part : (b : ℕ) → (HasFiles m b → ⊥) → part_of b m ≡ (λ _. None)
        no_part b none = λ i name. at name (is_of_block b name) refl i where
          at : (name : List ℕ) (t : Bool) → is_of_block b name ≡ t → part_of b m name ≡ None
          at name true e = ap (λ u. cond u (m name) None) e ∙ no_file (m name) (λ there. none (name, of_this b name e, there))
          at name false e = ap (λ u. cond u (m name) None) e

  pub found_at : (b : ℕ) → FoundAt m n found.replicas.items found.moved.items b
  found_at b = by (has_or_not s.blocks b) where
    by : Contains s.blocks b ⊎ ((c : ℕ) → Contains s.blocks c → c ≡ b → ⊥) → FoundAt m n found.replicas.items found.moved.items b
    by (inl at) = subst (λ l. FoundAt m n l found.moved.items b) (sym s.scans.replicas_are) (subst (λ l. FoundAt m n (seen_all s.scans.results) l b) (sym s.scans.moved_are) (found_listed m n s.blocks s.scans.results b s.scans.each at))
    by (inr away) = found_none b away

  seen_at : (x : Seen) → Contains found.replicas.items x → SeenAt m n s.blocks x
  seen_at x at = seen_source m n s.blocks s.scans.results x s.scans.each (subst (λ l. Contains l x) s.scans.replicas_are at)

  moved_at : (q : BlockId) → Contains found.moved.items q → MovedAt m n s.blocks q
  moved_at q at = moved_source m n s.blocks s.scans.results q s.scans.each (subst (λ l. Contains l q) s.scans.moved_are at)

  among_fits : (b : ℕ) → Contains s.blocks b → b < 2 ^ 64
  among_fits b at = let has = (s.are b).0 at in block_fits has.0 b has.1

-- a part of each block's calls was made
partly_at : (old between : FileMap) (s : StopsShelf old between) (b : ℕ) → IsPartly (block_numbered b) (part_of b old) (part_of b between)
partly_at old between s b = by (has_or_not s.blocks b) where
  by : Contains s.blocks b ⊎ ((c : ℕ) → Contains s.blocks c → c ≡ b → ⊥) → IsPartly (block_numbered b) (part_of b old) (part_of b between)
  by (inl at) = s.stops.each b at
  by (inr away) = inl (part_same b between old (λ name e. s.stops.others name (other_blocks s.blocks b name away e)))

-- ---- replicas by ascending block

contains_number : (xs : List Seen) (s : Seen) → Contains xs s → Contains (numbers_of xs) s.block.0
contains_number [] s at = absurd (omega (arith, at.1))
contains_number (x ∷ xs) s (zero, within, is) = (0, omega arith, ap (λ (t : Seen). t.block.0) is)
contains_number (x ∷ xs) s (suc k, within, is) = later x.block.0 (numbers_of xs) s.block.0 (contains_number xs s (k, omega (arith, within), is))

-- each is below all later ones
abbrev RisesBy : {A : Type 0} → (A → A → Type 0) → List A → Type 0
RisesBy R [] = Unit {0}
RisesBy R (x ∷ xs) = ((y : _) → Contains xs y → R x y) × RisesBy R xs

by_pairs : {A : Type 0} (R : A → A → Type 0) (xs : List A) → AllPairs R xs → RisesBy R xs
by_pairs R [] h = tt
by_pairs R (x ∷ xs) h = (
  λ y at. subst (R x) at.2 (h 0 (suc at.0) y (omega arith) (omega (arith, at.1))),
  by_pairs R xs (λ i j d before within. h (suc i) (suc j) d (omega (arith, before)) (omega (arith, within))),
)

-- the replica's block comes before the other's
abbrev ComesBefore : Seen → Seen → Type 0
ComesBefore s t = s.block.0 < t.block.0

by_numbers : (xs : List Seen) → Rises (numbers_of xs) → RisesBy ComesBefore xs
by_numbers [] h = tt
by_numbers (x ∷ xs) h = (λ y at. h.0 y.block.0 (contains_number xs y at), by_numbers xs h.1)

-- what else one list has is in the other
rest_of_one : {A : Type 0} (R : A → A → Type 0) → ((x y : A) → R x y → R y x → ⊥) → (u : A) (us : List A) (v : A) (vs : List A) → u ≡ v → RisesBy R (u ∷ us) → ((s : A) → Contains (u ∷ us) s → Contains (v ∷ vs) s) → (s : A) → Contains us s
    → Contains vs s
rest_of_one R apart u us v vs same up h s at = which (h s (later u us s at)) where
  which : Contains (v ∷ vs) s → Contains vs s
  which (zero, within, is) = let below = subst (λ x. R x s) (same ∙ is) (up.0 s at) in absurd (apart s s below below)
  which (suc k, within, is) = (k, omega (arith, within), is)

-- two such lists of the same are the same
abbrev AreSame : {A : Type 0} → (A → A → Type 0) → List A → List A → Type 0
AreSame {A} R xs ys = RisesBy R xs → RisesBy R ys → ((s : A) → Contains xs s → Contains ys s) → ((s : A) → Contains ys s → Contains xs s) → xs ≡ ys

same_rising : {A : Type 0} (R : A → A → Type 0) → ((x y : A) → R x y → R y x → ⊥) → (xs ys : List A) → AreSame R xs ys
same_rising R apart [] [] a b f g = refl
same_rising R apart [] (y ∷ ys) a b f g = absurd (omega (arith, (g y (0, omega arith, refl)).1))
same_rising R apart (x ∷ xs) [] a b f g = absurd (omega (arith, (f x (0, omega arith, refl)).1))
same_rising R apart (x ∷ xs) (y ∷ ys) a b f g = by (λ c d h k. same_rising R apart xs ys c d h k) (f x (0, omega arith, refl)) (g y (0, omega arith, refl)) where
  heads : AreSame R xs ys → x ≡ y → x ∷ xs ≡ y ∷ ys
  heads rest e = ap (λ t. t ∷ xs) e ∙ ap (λ l. y ∷ l) (rest a.1 b.1 (rest_of_one R apart x xs y ys e a f) (rest_of_one R apart y ys x xs (sym e) b g))

  by : AreSame R xs ys → Contains (y ∷ ys) x → Contains (x ∷ xs) y → x ∷ xs ≡ y ∷ ys
  by rest (zero, within, is) at = heads rest (sym is)
  by rest (suc k, within, is) (zero, inside, same) = heads rest same
  by rest (suc k, within, is) (suc j, inside, same) =
      absurd (apart x y (a.0 y (j, omega (arith, inside), same)) (b.0 x (k, omega (arith, within), is)))

-- ---- names in ascending order

not_both : (o p : Ordering) → o ≡ ordering_reverse p → is_lt o ≡ true → is_lt p ≡ true → ⊥
not_both o Less e f g = true_false (sym f ∙ ap is_lt e)
not_both o Equal e f g = true_false (sym g)
not_both o Greater e f g = true_false (sym g)

below_apart : (a b : List ℕ) → IsBelow a b → IsBelow b a → ⊥
below_apart a b f g = not_both (slice_cmp nat_cmp a b) (slice_cmp nat_cmp b a) (nat_list_cmp_total.antisymm a b) f g

-- a map's names are listed in one way
names_once : (m : FileMap) (xs ys : List (List ℕ)) → AreNamesOf m xs → AreNamesOf m ys → xs ≡ ys
names_once m xs ys a b = same_rising IsBelow below_apart xs ys (by_pairs IsBelow xs a.ascending) (by_pairs IsBelow ys b.ascending)
    (λ q at. (b.each q).1 ((a.each q).0 at)) (λ q at. (a.each q).1 ((b.each q).0 at))

-- ---- both scans

module _ (old between whole last : FileMap) (first again : Found) (stops : StopsShelf old between) (one : ScansShelf old whole first) (two : ScansShelf between last again) where
  at_block : (b : ℕ) → b < 2 ^ 64 → (x y : Scanned) → IsScanned old whole b x → IsScanned between last b y → FindsAgain (block_numbered b) (part_of b between) (part_of b whole) (part_of b last) x y
  at_block b fits x y is also = further_scans_find_the_same (block_numbered b) (part_of b old) (part_of b between) (part_of b whole) (part_of b last) x y fits (partly_at old between stops b) is also

  onward : (s : Seen) → Contains again.replicas.items s → Contains first.replicas.items s
  onward s at =
      let w = seen_at between last again two s at in
      let r = found_at old whole first one w.block in
      r.listed s (sym (at_block w.block (among_fits between last again two w.block w.among) r.of w.of r.is w.is).seen ∙ w.shown)

  back : (s : Seen) → Contains first.replicas.items s → Contains again.replicas.items s
  back s at =
      let w = seen_at old whole first one s at in
      let r = found_at between last again two w.block in
      r.listed s ((at_block w.block (among_fits old whole first one w.block w.among) w.of r.of w.is r.is).seen ∙ w.shown)

  same_replicas : again.replicas.items ≡ first.replicas.items
  same_replicas = same_rising ComesBefore (λ s t f g. omega (arith, f, g)) again.replicas.items first.replicas.items
      (by_numbers again.replicas.items (rises_from _ (AllPairs-from_increasing _ two.in_order))) (by_numbers first.replicas.items (rises_from _ (AllPairs-from_increasing _ one.in_order))) onward back

  same_at : (name : List ℕ) (o : Option ℕ) → block_of name ≡ o → last name ≡ whole name
  same_at name None e =
      let apart : (blocks : List ℕ) → IsOfNone blocks name = λ blocks c at. ap (is_this c) e in
      two.scans.others name (apart two.blocks) ∙ (stops.stops.others name (apart stops.blocks) ∙ sym (one.scans.others name (apart one.blocks)))
  same_at name (Some b) e =
      let x = found_at old whole first one b in
      let y = found_at between last again two b in
      let parts : part_of b last ≡ part_of b whole = (at_block b (block_fits name b e) x.of y.of x.is y.is).files in
      let this = this_block b name e in
      sym (ap (λ u. cond u (last name) None) this) ∙ (ap (λ (f : FileMap). f name) parts ∙ ap (λ u. cond u (whole name) None) this)

  same_files : last ≡ whole
  same_files = λ i name. same_at name (block_of name) refl i

  pub all_again : FindsAllAgain between whole last first again
  all_again = record {
    replicas = same_replicas;
    files = same_files;
    strays = names_once (stray_part first.replicas.items whole) again.strays.items first.strays.items
        (subst (λ f. AreNamesOf (stray_part first.replicas.items f) again.strays.items) same_files (subst (λ l. AreNamesOf (stray_part l last) again.strays.items) same_replicas two.strays)) one.strays;
    moved = λ q at.
        let w = moved_at between last again two q at in
        let r = found_at old whole first one q.0 in
        r.named ((at_block q.0 (among_fits between last again two q.0 w.among) r.of w.of r.is w.is).moved w.shown);
    rest = λ q at away p is.
        let w = moved_at old whole first one q at in
        let r = found_at between last again two q.0 in
        (at_block q.0 (among_fits old whole first one q.0 w.among) w.of r.of w.is r.is).rest w.shown (not_true r.of.is_moved (λ e. away (r.named e))) p is;
  }

pub further_shelf_scans : FurtherShelfScansFindTheSame
further_shelf_scans old between whole last first again stops one two = all_again old between whole last first again stops one two
