-- What a scan finds on a shelf.
use Rattle.std.proofs.Common.{◌≡◌, ◌⊎◌, inl, inr, ℕ, zero, suc, ◌+◌, ◌<◌, ◌==◌, ◌||◌, ◌&&◌, not, cond, Bool, true, false, List, [], ◌∷◌, ◌++◌, get_or, take, Option, Some, None, IfSome, IsSome, Contains, AllPairs, ◌↔◌, refl, sym, ap, subst, ◌∙◌, arith}
use Rattle.std.specs.Prelude.{filter}
use Rattle.std.specs.List.{AllZip}
use Rattle.std.specs.List.Sorted.{IsStrictlyIncreasing}
use Rattle.std.proofs.lemmas.Bool.Decides.{Decides-eqb}
use Rattle.std.proofs.lemmas.List.Kept.{AllPairs-from_increasing}
use Rattle.hd_base.specs.Blocks.{is_of_block, is_this, block_of}
use Rattle.hd_base.specs.FileMaps.{FileMap, part_of, AreNamesOf}
use Rattle.hd_base.specs.declared.numbers.BlockId.{BlockId}
use Rattle.restart_scan.specs.declared.found.Seen.{Seen}
use Rattle.restart_scan.specs.declared.found.Scanned.{Scanned}
use Rattle.restart_scan.specs.declared.found.Found.{Found}
use Rattle.restart_scan.specs.Pairs.{is_temporary, without_temporary}
use Rattle.restart_scan.specs.Blocks.{ScansBlock, ScansPair, both_final, is_whole, state_when}
use Rattle.restart_scan.proofs.FrontLemmas.{has_front}
use Rattle.hd_base.specs.declared.states.ReplicaState.TheVariants as state
use Rattle.std.proofs.lemmas.List.{length-take-le}
use Rattle.restart_scan.specs.Shelves.{seen_list, seen_all, block_numbered, IsScanned, ScansAll, WhereTold, number_list, numbers_in, AreNumbers, numbers_of, is_among, is_found, is_stray_of, is_stray, stray_part, HasFiles, IsHeldAs, ScansShelf}
use Rattle.restart_scan.proofs.RemovalLemmas.{filtered}

true_false : true ≡ false → ⊥
true_false e = cc

-- ---- lists

pub later : {A : Type 0} (p : A) (xs : List A) (q : A) → Contains xs q → Contains (p ∷ xs) q
later p xs q at = (suc at.0, omega (arith, at.1), at.2)

pub contains_back : {A : Type 0} (xs ys : List A) (q : A) → Contains ys q → Contains (xs ++ ys) q
contains_back [] ys q at = at
contains_back (x ∷ xs) ys q at = later x (xs ++ ys) q (contains_back xs ys q at)

-- the numbers of the names' blocks
numbers_from : (names : List (List ℕ)) (b : ℕ) → Contains (numbers_in names) b → (name : List ℕ) × Contains names name × (block_of name ≡ Some b)
numbers_from [] b at = absurd (omega (arith, at.1))
numbers_from (x ∷ names) b at = by (λ one. numbers_from names b one) (block_of x) refl at where
  more : (name : List ℕ) × Contains names name × (block_of name ≡ Some b) → (name : List ℕ) × Contains (x ∷ names) name × (block_of name ≡ Some b)
  more h = (h.0, later x names h.0 h.1, h.2)

  by : (Contains (numbers_in names) b → (name : List ℕ) × Contains names name × (block_of name ≡ Some b)) → (o : Option ℕ) → block_of x ≡ o → Contains (number_list o ++ numbers_in names) b
      → (name : List ℕ) × Contains (x ∷ names) name × (block_of name ≡ Some b)
  by rest None e at = more (rest at)
  by rest (Some c) e (zero, within, is) = (x, (0, omega arith, refl), e ∙ ap Some is)
  by rest (Some c) e (suc k, within, is) = more (rest (k, omega (arith, within), is))

numbers_to : (names : List (List ℕ)) (b : ℕ) (name : List ℕ) → Contains names name → block_of name ≡ Some b → Contains (numbers_in names) b
numbers_to [] b name at e = absurd (omega (arith, at.1))
numbers_to (x ∷ names) b name (zero, within, is) e = subst (λ o. Contains (number_list o ++ numbers_in names) b) (sym (ap block_of is ∙ e)) (0, omega arith, refl)
numbers_to (x ∷ names) b name (suc k, within, is) e = contains_back (number_list (block_of x)) (numbers_in names) b (numbers_to names b name (k, omega (arith, within), is) e)

-- ---- what was found of a block

pub same_some : {A : Type 0} (x y : A) → ◌≡◌ {A = Option A} (Some x) (Some y) → x ≡ y
same_some x y e = cc

pub none_some : {A : Type 0} (x : A) → ◌≡◌ {A = Option A} None (Some x) → ⊥
none_some x e = cc

pub seen_block : (block : BlockId) (p q : FileMap) (x : Scanned) (s : Seen) → ScansBlock block p q x → x.seen ≡ Some s → s.block ≡ block
seen_block block p q x s (inl pair) is = ap (λ (t : Seen). t.block) (sym (same_some _ s (ap (λ (y : Scanned). y.seen) (sym pair.found) ∙ is)))
seen_block block p q x s (inr others) is = absurd (none_some s (ap (λ (y : Scanned). y.seen) (sym others.found) ∙ is))

-- without a replica, files in tmp alone are gone
left_others : (block : BlockId) (p q : FileMap) (x : Scanned) → ScansBlock block p q x → x.seen ≡ None → q ≡ without_temporary p
left_others block p q x (inl pair) is = absurd (none_some _ (sym is ∙ ap (λ (y : Scanned). y.seen) pair.found))
left_others block p q x (inr others) is = others.left

-- ---- the numbers of the replicas

seen_from : (m n : FileMap) (blocks : List ℕ) (results : List Scanned) (c : ℕ) → AllZip (IsScanned m n) blocks results → Contains (numbers_of (seen_all results)) c → Contains blocks c
seen_from m n [] [] c h at = absurd (omega (arith, at.1))
seen_from m n [] (x ∷ xs) c h at = absurd h
seen_from m n (b ∷ bs) [] c h at = absurd h
seen_from m n (b ∷ bs) (x ∷ xs) c h at = by (λ one. seen_from m n bs xs c h.1 one) x.seen refl at where
  by : (Contains (numbers_of (seen_all xs)) c → Contains bs c) → (o : Option Seen) → x.seen ≡ o → Contains (numbers_of (seen_list o ++ seen_all xs)) c → Contains (b ∷ bs) c
  by rest None e at = later b bs c (rest at)
  by rest (Some s) e (zero, within, is) = (0, omega arith, sym (ap (λ (t : BlockId). t.0) (seen_block (block_numbered b) (part_of b m) (part_of b n) x s h.0 e)) ∙ is)
  by rest (Some s) e (suc k, within, is) = later b bs c (rest (k, omega (arith, within), is))

-- each number is below all later ones
abbrev pub Rises : List ℕ → Type 0
Rises [] = Unit {0}
Rises (x ∷ xs) = ((c : ℕ) → Contains xs c → x < c) × Rises xs

pub rises_from : (xs : List ℕ) → AllPairs (λ x y. x < y) xs → Rises xs
rises_from [] h = tt
rises_from (x ∷ xs) h = (
  λ c at. subst (λ y. x < y) at.2 (h 0 (suc at.0) c (omega arith) (omega (arith, at.1))),
  rises_from xs (λ i j d before within. h (suc i) (suc j) d (omega (arith, before)) (omega (arith, within))),
)

rises_up : (xs : List ℕ) → Rises xs → IsStrictlyIncreasing xs
rises_up [] h k within = absurd (omega (arith, within))
rises_up (x ∷ []) h k within = absurd (omega (arith, within))
rises_up (x ∷ y ∷ xs) h zero within = h.0 y (0, omega arith, refl)
rises_up (x ∷ y ∷ xs) h (suc k) within =
    let e : suc k + 1 ≡ suc (k + 1) = omega arith in
    subst (λ q. get_or (y ∷ xs) k 0 < get_or (x ∷ y ∷ xs) q 0) (sym e) (rises_up (y ∷ xs) h.1 k (omega (arith, within)))

seen_rise : (m n : FileMap) (blocks : List ℕ) (results : List Scanned) → Rises blocks → AllZip (IsScanned m n) blocks results → Rises (numbers_of (seen_all results))
seen_rise m n [] [] up h = tt
seen_rise m n [] (x ∷ xs) up h = absurd h
seen_rise m n (b ∷ bs) [] up h = absurd h
seen_rise m n (b ∷ bs) (x ∷ xs) up h = by (seen_rise m n bs xs up.1 h.1) x.seen refl where
  by : Rises (numbers_of (seen_all xs)) → (o : Option Seen) → x.seen ≡ o → Rises (numbers_of (seen_list o ++ seen_all xs))
  by rest None e = rest
  by rest (Some s) e = (
    λ c at. subst (λ y. y < c) (sym (ap (λ (t : BlockId). t.0) (seen_block (block_numbered b) (part_of b m) (part_of b n) x s h.0 e))) (up.0 c (seen_from m n bs xs c h.1 at)),
    rest,
  )

-- ---- the result of a block

or_right : (p q : Bool) → q ≡ true → (p || q) ≡ true
or_right true q e = refl
or_right false q e = e

or_left : (p q : Bool) → p ≡ true → (p || q) ≡ true
or_left true q e = refl
or_left false q e = absurd (no e) where
  no : false ≡ true → ⊥
  no e = cc

among_back : (xs ys : List ℕ) (c : ℕ) → is_among ys c ≡ true → is_among (xs ++ ys) c ≡ true
among_back [] ys c e = e
among_back (x ∷ xs) ys c e = or_right (x == c) (is_among (xs ++ ys) c) (among_back xs ys c e)

map_append_numbers : (xs ys : List Seen) → numbers_of (xs ++ ys) ≡ numbers_of xs ++ numbers_of ys
map_append_numbers [] ys = refl
map_append_numbers (x ∷ xs) ys = ap (λ l. x.block.0 ∷ l) (map_append_numbers xs ys)

-- A block's result; where a replica was found, its number is listed.
pub record HasResult (m n : FileMap) (results : List Scanned) (b : ℕ) : Type 0 where
  pub of : Scanned
  pub is : IsScanned m n b of
  pub listed : (s : Seen) → of.seen ≡ Some s → is_among (numbers_of (seen_all results)) b ≡ true

result_of : (m n : FileMap) (blocks : List ℕ) (results : List Scanned) (b : ℕ) → AllZip (IsScanned m n) blocks results → Contains blocks b → HasResult m n results b
result_of m n [] results b h at = absurd (omega (arith, at.1))
result_of m n (c ∷ bs) [] b h at = absurd h
result_of m n (c ∷ bs) (x ∷ xs) b h (zero, within, is) = subst (HasResult m n (x ∷ xs)) is (record {
  of = x;
  is = h.0;
  listed = λ s e. subst (λ o. is_among (numbers_of (seen_list o ++ seen_all xs)) c ≡ true) (sym e)
      (or_left (s.block.0 == c) (is_among (numbers_of (seen_all xs)) c) ((Decides-eqb s.block.0 c).1 (ap (λ (t : BlockId). t.0) (seen_block (block_numbered c) (part_of c m) (part_of c n) x s h.0 e))));
})
result_of m n (c ∷ bs) (x ∷ xs) b h (suc k, within, is) =
    let r = result_of m n bs xs b h.1 (k, omega (arith, within), is) in
    record {
      of = r.of;
      is = r.is;
      listed = λ s e. subst (λ l. is_among l b ≡ true) (sym (map_append_numbers (seen_list x.seen) (seen_all xs))) (among_back (numbers_of (seen_list x.seen)) (numbers_of (seen_all xs)) b (r.listed s e));
    }

-- ---- what is held

settled_so : (t : Bool) → (state_when t ≡ state.Finalized) ⊎ (state_when t ≡ state.Rwr)
settled_so true = inl refl
settled_so false = inr refl

held_pair : (block : BlockId) (p q : FileMap) (x : Scanned) (s : Seen) (h : ScansPair block p q x) → x.seen ≡ Some s → IsHeldAs q s
held_pair block p q x s h is =
    let f = has_front h.pair.rule h.pair.bytes h.pair.stored h.len (omega (arith, h.is_pair.chunk_fits.least)) h.kept in
    subst (IsHeldAs q) (same_some _ s (ap (λ (y : Scanned). y.seen) (sym h.found) ∙ is)) (record {
      settled = settled_so (both_final h.pair.places && is_whole h.pair);
      lies = refl;
      bytes = take h.len h.pair.bytes;
      all = sym (length-take-le h.len h.pair.bytes f.within);
      held = h.held;
    })

held_block : (block : BlockId) (p q : FileMap) (x : Scanned) (s : Seen) → ScansBlock block p q x → x.seen ≡ Some s → IsHeldAs q s
held_block block p q x s (inl pair) is = held_pair block p q x s pair is
held_block block p q x s (inr others) is = absurd (none_some s (ap (λ (y : Scanned). y.seen) (sym others.found) ∙ is))

held_seen : (m n : FileMap) (blocks : List ℕ) (results : List Scanned) (s : Seen) → AllZip (IsScanned m n) blocks results → Contains (seen_all results) s → IsHeldAs (part_of s.block.0 n) s
held_seen m n [] [] s h at = absurd (omega (arith, at.1))
held_seen m n [] (x ∷ xs) s h at = absurd h
held_seen m n (b ∷ bs) [] s h at = absurd h
held_seen m n (b ∷ bs) (x ∷ xs) s h at = by (λ one. held_seen m n bs xs s h.1 one) x.seen refl at where
  here : (t : Seen) → x.seen ≡ Some t → IsHeldAs (part_of t.block.0 n) t
  here t e = subst (λ (c : BlockId). IsHeldAs (part_of c.0 n) t) (sym (seen_block (block_numbered b) (part_of b m) (part_of b n) x t h.0 e))
      (held_block (block_numbered b) (part_of b m) (part_of b n) x t h.0 e)

  by : (Contains (seen_all xs) s → IsHeldAs (part_of s.block.0 n) s) → (o : Option Seen) → x.seen ≡ o → Contains (seen_list o ++ seen_all xs) s → IsHeldAs (part_of s.block.0 n) s
  by rest None e at = rest at
  by rest (Some t) e (zero, within, is) = subst (λ (u : Seen). IsHeldAs (part_of u.block.0 n) u) is (here t e)
  by rest (Some t) e (suc k, within, is) = rest (k, omega (arith, within), is)

-- ---- strays

and_rest : (t : Bool) (o : Option (List ℕ)) → cond t None o ≡ cond (not t && true) o None
and_rest true o = refl
and_rest false o = refl

not_found : (t : Bool) → (not t && false) ≡ false
not_found true = refl
not_found false = refl

-- a block's file, where no replica of it was found
left_at : (m n : FileMap) (b : ℕ) (q : List ℕ) → block_of q ≡ Some b → part_of b n ≡ without_temporary (part_of b m) → n q ≡ cond (is_temporary q) None (m q)
left_at m n b q e left =
    let of : is_of_block b q ≡ true = ap (is_this b) e ∙ (Decides-eqb b b).1 refl in
    ap (λ (t : Bool). cond t (n q) None) (sym of) ∙ (ap (λ (f : FileMap). f q) left ∙ ap (λ (t : Bool). cond (is_temporary q) None (cond t (m q) None)) of)

-- a list that has a number, or not
pub has_or_not : (blocks : List ℕ) (b : ℕ) → Contains blocks b ⊎ ((c : ℕ) → Contains blocks c → c ≡ b → ⊥)
has_or_not [] b = inr (λ c at e. omega (arith, at.1))
has_or_not (x ∷ xs) b = by (x == b) refl (has_or_not xs b) where
  by : (t : Bool) → (x == b) ≡ t → Contains xs b ⊎ ((c : ℕ) → Contains xs c → c ≡ b → ⊥) → Contains (x ∷ xs) b ⊎ ((c : ℕ) → Contains (x ∷ xs) c → c ≡ b → ⊥)
  by true e rest = inl (0, omega arith, (Decides-eqb x b).0 e)
  by false e (inl at) = inl (later x xs b at)
  by false e (inr none) = inr (λ c at same. other c at same) where
    other : (c : ℕ) → Contains (x ∷ xs) c → c ≡ b → ⊥
    other c (zero, within, is) same = true_false (sym ((Decides-eqb x b).1 (is ∙ same)) ∙ e)
    other c (suc k, within, is) same = none c (k, omega (arith, within), is) same

pub no_file : (o : Option (List ℕ)) → (IsSome o → ⊥) → o ≡ None
no_file None h = refl
no_file (Some x) h = absurd (h refl)

not_of : (b c : ℕ) (q : List ℕ) → block_of q ≡ Some b → (c ≡ b → ⊥) → is_of_block c q ≡ false
not_of b c q e apart = ap (is_this c) e ∙ by (b == c) refl where
  by : (t : Bool) → (b == c) ≡ t → (b == c) ≡ false
  by true f = absurd (apart (sym ((Decides-eqb b c).0 f)))
  by false f = f

none_either : (t : Bool) → cond t None (let o : Option (List ℕ) = None in o) ≡ None
none_either true = refl
none_either false = refl

-- What is known of a shelf after all its blocks were scanned.
pub record IsListed (m n : FileMap) (names : List (List ℕ)) (blocks : List ℕ) (replicas : List Seen) (moved : List BlockId) : Type 0 where
  pub names_are : AreNamesOf m names
  pub numbers : AreNumbers names blocks
  pub scans : ScansAll blocks m n replicas moved

module _ (m n : FileMap) (names : List (List ℕ)) (blocks : List ℕ) (replicas : List Seen) (moved : List BlockId) (l : IsListed m n names blocks replicas moved) where
  blocks_are : (b : ℕ) → Contains blocks b ↔ HasFiles m b
  blocks_are b = (
    λ at. let h = numbers_from names b (l.numbers.within b at) in (h.0, h.2, (l.names_are.each h.0).0 h.1),
    λ has. l.numbers.all b (numbers_to names b has.0 ((l.names_are.each has.0).1 has.2) has.1),
  )

  numbers_rise : IsStrictlyIncreasing (numbers_of replicas)
  numbers_rise = subst (λ rs. IsStrictlyIncreasing (numbers_of rs)) (sym l.scans.replicas_are)
      (rises_up (numbers_of (seen_all l.scans.results)) (seen_rise m n blocks l.scans.results (rises_from blocks (AllPairs-from_increasing blocks l.numbers.ascending)) l.scans.each))

  -- a file of a block of which no replica was found
  of_no_replica : (b : ℕ) (q : List ℕ) → block_of q ≡ Some b → is_among (numbers_of replicas) b ≡ false → n q ≡ cond (is_temporary q) None (m q)
  of_no_replica b q e none = by (has_or_not blocks b) where
    scanned : (r : HasResult m n l.scans.results b) → (o : Option Seen) → r.of.seen ≡ o → part_of b n ≡ without_temporary (part_of b m)
    scanned r None is = left_others (block_numbered b) (part_of b m) (part_of b n) r.of r.is is
    scanned r (Some s) is = absurd (true_false (sym (r.listed s is) ∙ (ap (λ rs. is_among (numbers_of rs) b) (sym l.scans.replicas_are) ∙ none)))

    by : Contains blocks b ⊎ ((c : ℕ) → Contains blocks c → c ≡ b → ⊥) → n q ≡ cond (is_temporary q) None (m q)
    by (inl at) = let r = result_of m n blocks l.scans.results b l.scans.each at in left_at m n b q e (scanned r r.of.seen refl)
    by (inr away) =
        let gone : m q ≡ None = no_file (m q) (λ there. away b ((blocks_are b).1 (q, e, there)) refl) in
        l.scans.others q (λ c at. not_of b c q e (away c at)) ∙ (gone ∙ (sym (none_either (is_temporary q)) ∙ ap (λ o. cond (is_temporary q) None o) (sym gone)))

  stray_at : (q : List ℕ) → stray_part replicas n q ≡ cond (is_stray (numbers_of replicas) q) (m q) None
  stray_at q = by (block_of q) refl where
    found_or_not : (b : ℕ) → block_of q ≡ Some b → (t : Bool) → is_among (numbers_of replicas) b ≡ t → cond t None (n q) ≡ cond (not (is_temporary q) && not t) (m q) None
    found_or_not b e true f = sym (ap (λ u. cond u (m q) None) (not_found (is_temporary q)))
    found_or_not b e false f = of_no_replica b q e f ∙ and_rest (is_temporary q) (m q)

    by : (o : Option ℕ) → block_of q ≡ o → stray_part replicas n q ≡ cond (is_stray (numbers_of replicas) q) (m q) None
    by None e =
        ap (λ o. cond (is_found (numbers_of replicas) o) None (n q)) e
        ∙ (l.scans.others q (λ c at. ap (is_this c) e)
        ∙ sym (ap (λ o. cond (is_stray_of (numbers_of replicas) (is_temporary q) o) (m q) None) e))
    by (Some b) e =
        ap (λ o. cond (is_found (numbers_of replicas) o) None (n q)) e
        ∙ (found_or_not b e (is_among (numbers_of replicas) b) refl
        ∙ sym (ap (λ o. cond (is_stray_of (numbers_of replicas) (is_temporary q) o) (m q) None) e))

  pub shelf_found : (found : Found) → found.replicas.items ≡ replicas → found.moved.items ≡ moved
      → (IsStrictlyIncreasing (numbers_of replicas) → found.strays.items ≡ filter (is_stray (numbers_of replicas)) names) → ScansShelf m n found
  shelf_found found same gone strays = record {
    blocks = blocks;
    ascending = l.numbers.ascending;
    are = blocks_are;
    held = λ s at. held_seen m n blocks l.scans.results s l.scans.each (subst (λ rs. Contains rs s) (same ∙ l.scans.replicas_are) at);
    in_order = subst (λ rs. IsStrictlyIncreasing (numbers_of rs)) (sym same) numbers_rise;
    scans = subst (λ rs. ScansAll blocks m n rs found.moved.items) (sym same) (subst (λ ms. ScansAll blocks m n replicas ms) (sym gone) l.scans);
    strays = subst (λ rs. AreNamesOf (stray_part rs n) found.strays.items) (sym same) (subst (AreNamesOf (stray_part replicas n)) (sym (strays numbers_rise))
        (filtered m (stray_part replicas n) (is_stray (numbers_of replicas)) names stray_at l.names_are));
  }

-- the same where the shelf's files are observable
pub found_told : (a b c : Option FileMap) (names listed : List (List ℕ)) (blocks given : List ℕ) (replicas shown : List Seen) (moved : List BlockId) (found : Found)
    → b ≡ a → IfSome a (λ m. AreNamesOf m names) → listed ≡ names → AreNumbers listed blocks → given ≡ blocks → WhereTold b c (λ m n. ScansAll given m n replicas moved)
    → shown ≡ replicas → found.replicas.items ≡ replicas → found.moved.items ≡ moved
    → (IsStrictlyIncreasing (numbers_of shown) → found.strays.items ≡ filter (is_stray (numbers_of shown)) names) → WhereTold a c (λ m n. ScansShelf m n found)
found_told None b c names listed blocks given replicas shown moved found same are is numbers at scans show rs ms strays = tt
found_told (Some m) b c names listed blocks given replicas shown moved found same are is numbers at scans show rs ms strays =
    let s = subst (λ o. WhereTold o c (λ x n. ScansAll given x n replicas moved)) same scans in (
      s.0,
      s.1,
      shelf_found m s.0 names blocks replicas moved (record {
        names_are = are;
        numbers = subst (λ l. AreNumbers l blocks) is numbers;
        scans = subst (λ l. ScansAll l m s.0 replicas moved) at s.2;
      }) found rs ms (subst (λ l. IsStrictlyIncreasing (numbers_of l) → found.strays.items ≡ filter (is_stray (numbers_of l)) names) show strays),
    )
