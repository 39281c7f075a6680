-- Blocks that are lent one by one with the books of what was found of them, and books that are closed after a failure.
use Rattle.std.proofs.Common.{◌≡◌, ◌==◌, ◌≤◌, ◌+◌, ◌-◌, ◌^◌, ℕ, zero, suc, Bool, true, false, cond, List, [], ◌∷◌, ◌++◌, length, take, slice_get, find, Option, Some, None, option_map, IfSome, Contains, refl, sym, ap, subst, ◌∙◌, arith, eqb-true, add-one}
use Rattle.std.specs.Prelude.{◌||◌, ◌&&◌, not, min, Result, Err}
use Rattle.std.proofs.lemmas.List.{take_all, length-take}
use Rattle.hd_base.specs.Faults.{FaultsIncreased, CarriesFaults}
use Rattle.hd_base.specs.FileMaps.{FileMap, part_of, rest_of}
use Rattle.hd_base.specs.declared.files.Files as files
use Rattle.hd_base.specs.declared.numbers.BlockId.{BlockId}
use Rattle.hd_base.specs.declared.shelves.Shelf as shelves
use Rattle.node_opening.proofs.PlayNodes.PlaceLaws.{same_some}
use Rattle.replica_model.specs.Found.{Found}
use Rattle.replica_model.specs.Rows.{FullReplica}
use Rattle.replica_files.specs.declared.book_state.BookState.{BookState}
use Rattle.restart_scan.specs.declared.found.Seen.{Seen}
use Rattle.restart_scan.specs.Shelves.{IsHeldAs}
use Rattle.restart_scan.proofs.ScanLemmas.{later}
use Rattle.node_opening.specs.World.Restarts.{replica_found}
use Rattle.node_opening.specs.Closing.{block_of, blocks_of, AreLentOut, NodeCloses}
use Rattle.node_opening.specs.Lending.{IsUnlent}
use Rattle.node_opening.specs.Shelves.{is_among, AreDistinct}
use Rattle.node_opening.proofs.ListLemmas.{take_next}
use Rattle.node_opening.proofs.ShelfLemmas.{among_more, distinct_front}
use Rattle.node_opening.proofs.CloseLemmas.{among_apart, blocks_end, same_eqb, length_blocks}
use Rattle.node_opening.proofs.LendLemmas.{front_of, unlent_out}
use Rattle.node_restarts.specs.declared.faults.RestartFault.{RestartFault}
use Rattle.node_restarts.specs.declared.faults.RestartFault.TheVariants as fault
use Rattle.node_restarts.specs.Faults.{HasRestartCause}
use Rattle.node_restarts.specs.Making.{seen_in, HoldsSeen, AllHeld, IsBookFor}
use Rattle.node_restarts.specs.Lending.{IsLentFound, IsNotLent, IsFoundNext, LendsNextFound, HasFound, IsUnmade, rest_after}
use Rattle.node_restarts.proofs.RestLemmas.{part_told, rest_told, rest_first}

true_false : true ≡ false → ⊥
true_false e = cc

-- WHAT WAS FOUND

pub record IsFoundIn {A : Type 0} (test : A → Bool) (xs : List A) (x : A) : Type 0 where
  pub there : Contains xs x
  pub so : test x ≡ true

pub found_in_list : {A : Type 0} (test : A → Bool) (xs : List A) (x : A) → find test xs ≡ Some x → IsFoundIn test xs x
found_in_list test [] x e = cc
found_in_list {A} test (y ∷ ys) x e = by (test y) refl e (λ e'. found_in_list test ys x e')
  where
    by : (t : Bool) → test y ≡ t → cond t (Some y) (find test ys) ≡ Some x → (find test ys ≡ Some x → IsFoundIn test ys x) → IsFoundIn test (y ∷ ys) x
    by true f e' rest = record {
      there = (0, omega arith, same_some y x e');
      so = subst (λ (z : A). test z ≡ true) (same_some y x e') f;
    }
    by false f e' rest = let r = rest e' in record { there = later y ys x r.there; so = r.so }

pub same_block : (a b : BlockId) → (a.0 == b.0) ≡ true → a ≡ b
same_block a b e = ap (λ (n : ℕ). let q : BlockId = record { 0 = n } in q) (eqb-true a.0 b.0 e)

held_of : (replicas : List Seen) (block : BlockId) (m : FileMap) (o : Option Seen) → seen_in replicas block ≡ o → AllHeld replicas m → HoldsSeen (Some (part_of block.0 m)) block o
held_of replicas block m None e all = tt
held_of replicas block m (Some seen) e all =
    let f = found_in_list (λ (q : Seen). q.block.0 == block.0) replicas seen e in
    let same : seen.block ≡ block = same_block seen.block block f.so in
    record {
      of_block = same;
      held = subst (λ (q : BlockId). IsHeldAs (part_of q.0 m) seen) same (all seen f.there);
    }

held_none : (block : BlockId) (o : Option Seen) → HoldsSeen None block o
held_none block None = tt
held_none block (Some seen) = tt

held_told : (replicas : List Seen) (block : BlockId) (f : Option FileMap) → IfSome f (AllHeld replicas) → HoldsSeen (option_map (part_of block.0) f) block (seen_in replicas block)
held_told replicas block None all = held_none block (seen_in replicas block)
held_told replicas block (Some m) all = held_of replicas block m (seen_in replicas block) refl all

next_front : (blocks : List BlockId) (k : ℕ) (block : BlockId) → slice_get blocks k ≡ Some block → take k blocks ++ block ∷ [] ≡ take (k + 1) blocks
next_front blocks k block at = sym (ap (λ (n : ℕ). take n blocks) (add-one k) ∙ take_next blocks k block at)

-- A block isn't among those before it.
pub apart_next : (blocks : List BlockId) (k : ℕ) (block : BlockId) → AreDistinct blocks → slice_get blocks k ≡ Some block → is_among (take k blocks) block.0 ≡ false
apart_next blocks k block distinct at = by (is_among (take k blocks) block.0) refl
  where
    apart : AreDistinct (take k blocks ++ block ∷ [])
    apart = subst AreDistinct (sym (next_front blocks k block at)) (distinct_front blocks (k + 1) distinct)

    by : (t : Bool) → is_among (take k blocks) block.0 ≡ t → is_among (take k blocks) block.0 ≡ false
    by true e = absurd (true_false (sym (same_eqb block.0) ∙ among_apart (take k blocks) block block.0 apart e))
    by false e = e

-- The files of a block that is to be lent hold what was found of it.
pub next_held : (blocks : List BlockId) (replicas : List Seen) (k : ℕ) (block : BlockId) (f g : Option FileMap) (seen : Option Seen) → AreDistinct blocks → slice_get blocks k ≡ Some block → g ≡ option_map (rest_after (take k blocks)) f
    → IfSome f (AllHeld replicas) → seen ≡ seen_in replicas block → HoldsSeen (option_map (part_of block.0) g) block seen
next_held blocks replicas k block f g seen distinct at rest all is =
    let same : option_map (part_of block.0) g ≡ option_map (part_of block.0) f =
    ap (option_map (part_of block.0)) rest ∙ part_told (take k blocks) block.0 f (apart_next blocks k block distinct at) in
    subst (HoldsSeen (option_map (part_of block.0) g) block) (sym is)
    (subst (λ (o : Option FileMap). HoldsSeen o block (seen_in replicas block)) (sym same) (held_told replicas block f all))

-- ONE BLOCK

found_block : (block : BlockId) (o : Option Found) → (replica_found block.0 o).known.block ≡ block
found_block block None = refl
found_block block (Some f) = refl

pub own_block : {D : Type 0} (d : files.Ghosts D) (block : BlockId) (seen : Option Seen) (f : Option FileMap) (x : BookState D) → IsBookFor d block seen f x → block_of x ≡ block
own_block d block seen f x i = ap (λ (r : FullReplica). r.known.block) i.is ∙ found_block block i.found

-- A count that was carried rose.
rose : (a b c more none : ℕ) → b ≡ a → none ≡ 0 → FaultsIncreased none more → CarriesFaults b more c → FaultsIncreased a c
rose a b c more none same zero_count up k = least a b c more none same zero_count up k.counted
  where
    least : (a b c more none : ℕ) → b ≡ a → none ≡ 0 → min (none + 1) (2 ^ 64 - 1) ≤ more → min (b + more) (2 ^ 64 - 1) ≤ c → min (a + 1) (2 ^ 64 - 1) ≤ c
    least a b c more none same zero_count up k = omega (arith, same, zero_count, up, k)

pub carried_cause : (a b c more none : ℕ) (why : RestartFault) → b ≡ a → none ≡ 0 → CarriesFaults b more c → HasRestartCause none more why → HasRestartCause a c why
carried_cause a b c more none fault.Files same zero_count k h = rose a b c more none same zero_count h k
carried_cause a b c more none fault.Memory same zero_count k h = tt

pub later_cause : (a b c d : ℕ) (why : RestartFault) → a ≤ b → c ≤ d → HasRestartCause b c why → HasRestartCause a d why
later_cause a b c d fault.Files below up h = least a b c d below up h
  where
    least : (a b c d : ℕ) → a ≤ b → c ≤ d → min (b + 1) (2 ^ 64 - 1) ≤ c → min (a + 1) (2 ^ 64 - 1) ≤ d
    least a b c d below up h = omega (arith, below, up, h)
later_cause a b c d fault.Memory below up h = tt

pub next_failed : {S D : Type 0} (s : shelves.Ghosts S D) (d : files.Ghosts D) (block : BlockId) (seen : Option Seen) (a b : S) (books books' : List (BookState D)) (r : Result (Unit {0}) RestartFault) (why : RestartFault)
    → r ≡ Err why → IsNotLent s block a b why × (books' ≡ books) → LendsNextFound s d block seen a b books books' r
next_failed s d block seen a b books books' r why e h = subst (LendsNextFound s d block seen a b books books') (sym e) h

-- ALL BLOCKS

or_next : (p q r : Bool) → cond p true (q || r) ≡ ((p || q) || r)
or_next true q r = refl
or_next false q r = refl

among_true : (p q r : Bool) → p ≡ (q || r) → q ≡ true → p ≡ true
among_true p true r e h = e
among_true p false r e h = cc

lent_false : (p q r : Bool) → p ≡ (q || r) → q ≡ false → r ≡ false → p ≡ false
lent_false p true r e h k = cc
lent_false p false r e h k = e ∙ k

and_none : (p q : Bool) → q ≡ true → (p && not q) ≡ false
and_none true true h = refl
and_none false true h = refl
and_none p false h = cc

and_false : (p q : Bool) → p ≡ false → (p && not q) ≡ false
and_false true q h = cc
and_false false q h = refl

module _ {S D : Type 0} (s : shelves.Ghosts S D) (d : files.Ghosts D) where
  pub found_none : (replicas : List Seen) (a : S) → HasFound s d [] replicas a a []
  found_none replicas a = record {
    blocks_are = refl;
    each = λ k x at. cc;
    rest = rest_first (s.files a);
    lent = λ b. refl;
    faults = refl;
  }

  each_more : (P : BookState D → Type 0) (xs : List (BookState D)) (x : BookState D) → ((k : ℕ) (y : BookState D) → slice_get xs k ≡ Some y → P y) → P x → (k : ℕ) (y : BookState D) → slice_get (xs ++ x ∷ []) k ≡ Some y → P y
  each_more P [] x f p zero y h = subst P (same_some x y h) p
  each_more P [] x f p (suc k) y h = cc
  each_more P (z ∷ zs) x f p zero y h = f 0 y h
  each_more P (z ∷ zs) x f p (suc k) y h = each_more P zs x (λ j w at. f (suc j) w at) p k y h

  -- The book of one block more is for the files that the shelf had at first.
  new_made : (blocks : List BlockId) (replicas : List Seen) (block : BlockId) (seen : Option Seen) (a b c : S) (x : BookState D) → is_among blocks block.0 ≡ false → s.files b ≡ option_map (rest_after blocks) (s.files a) → seen ≡ seen_in replicas block
      → IsLentFound s d block seen b c x → IsBookFor d (block_of x) (seen_in replicas (block_of x)) (option_map (part_of (block_of x).0) (s.files a)) x
  new_made blocks replicas block seen a b c x apart rest is l =
      let same : option_map (part_of block.0) (s.files b) ≡ option_map (part_of block.0) (s.files a) = ap (option_map (part_of block.0)) rest ∙ part_told blocks block.0 (s.files a) apart in
      subst (λ (q : BlockId). IsBookFor d q (seen_in replicas q) (option_map (part_of q.0) (s.files a)) x)
      (sym (own_block d block seen (option_map (part_of block.0) (s.files b)) x l.made))
      (subst (λ (o : Option Seen). IsBookFor d block o (option_map (part_of block.0) (s.files a)) x) is
      (subst (λ (f : Option FileMap). IsBookFor d block seen f x) same l.made))

  found_more : (blocks : List BlockId) (replicas : List Seen) (block : BlockId) (seen : Option Seen) (a b c : S) (books books' : List (BookState D)) → is_among blocks block.0 ≡ false → seen ≡ seen_in replicas block → HasFound s d blocks replicas a b books
      → IsFoundNext s d block seen b c books books' → HasFound s d (blocks ++ block ∷ []) replicas a c books'
  found_more blocks replicas block seen a b c books books' apart is h n =
      subst (λ (xs : List (BookState D)). HasFound s d (blocks ++ block ∷ []) replicas a c xs) (sym n.behind) (record {
        blocks_are = blocks_end books n.book ∙ (ap (λ (q : BlockId). blocks_of books ++ q ∷ []) (own_block d block seen (option_map (part_of block.0) (s.files b)) n.book n.is_lent.made) ∙ ap (λ (bs : List BlockId). bs ++ block ∷ []) h.blocks_are);
        each = each_more (λ (x : BookState D). IsBookFor d (block_of x) (seen_in replicas (block_of x)) (option_map (part_of (block_of x).0) (s.files a)) x) books n.book h.each
            (new_made blocks replicas block seen a b c n.book apart h.rest is n.is_lent);
        rest = n.is_lent.rest ∙ (ap (option_map (rest_of block.0)) h.rest ∙ rest_told blocks block (s.files a));
        lent = λ y. ap (λ (f : ℕ → Bool). f y) n.is_lent.lent ∙ (ap (λ (q : Bool). cond (y == block.0) true q) (h.lent y) ∙
            (or_next (y == block.0) (is_among blocks y) (s.lent a y) ∙ ap (λ (q : Bool). q || s.lent a y) (sym (among_more blocks block y))));
        faults = n.is_lent.faults ∙ h.faults;
      })

  pub found_step : (blocks : List BlockId) (replicas : List Seen) (k : ℕ) (block : BlockId) (seen : Option Seen) (a b c : S) (books books' : List (BookState D)) → AreDistinct blocks → slice_get blocks k ≡ Some block → seen ≡ seen_in replicas block
      → HasFound s d (take k blocks) replicas a b books → IsFoundNext s d block seen b c books books' → HasFound s d (take (k + 1) blocks) replicas a c books'
  found_step blocks replicas k block seen a b c books books' distinct at is h n =
      subst (λ (bs : List BlockId). HasFound s d bs replicas a c books') (next_front blocks k block at) (found_more (take k blocks) replicas block seen a b c books books' (apart_next blocks k block distinct at) is h n)

  pub found_end : (blocks : List BlockId) (replicas : List Seen) (k : ℕ) (a b : S) (books : List (BookState D)) → length blocks ≤ k → HasFound s d (take k blocks) replicas a b books → HasFound s d blocks replicas a b books
  found_end blocks replicas k a b books h f = subst (λ (bs : List BlockId). HasFound s d bs replicas a b books) (take_all k blocks h) f

  -- A FAILURE

  pub fail_within : (blocks : List BlockId) (replicas : List Seen) (k : ℕ) (a b : S) (books books' : List (BookState D)) → HasFound s d (take k blocks) replicas a b books → books' ≡ books → length books' ≤ length blocks
  fail_within blocks replicas k a b books books' h e = few (ap length e) (length_blocks books) (ap length h.blocks_are) (length-take k blocks)
    where
      few : length books' ≡ length books → length (blocks_of books) ≡ length books → length (blocks_of books) ≡ length (take k blocks) → length (take k blocks) ≡ min k (length blocks) → length books' ≤ length blocks
      few p q r t = omega arith

  pub fail_out : (blocks : List BlockId) (replicas : List Seen) (k : ℕ) (block : BlockId) (a b c : S) (books books' : List (BookState D)) → AreDistinct blocks → slice_get blocks k ≡ Some block → HasFound s d (take k blocks) replicas a b books → IsUnlent s block b c
      → books' ≡ books → AreLentOut s c (take (length books') blocks)
  fail_out blocks replicas k block a b c books books' distinct at h u e =
      subst (λ (bs : List BlockId). AreLentOut s c bs) (sym (front_of blocks k books h.blocks_are) ∙ ap (λ (xs : List (BookState D)). take (length xs) blocks) (sym e))
      (unlent_out s d (take k blocks) block b c (subst AreDistinct (sym (next_front blocks k block at)) (distinct_front blocks (k + 1) distinct))
      (record { distinct = distinct_front blocks k distinct; lent = λ y m. among_true (s.lent b y) (is_among (take k blocks) y) (s.lent a y) (h.lent y) m }) u)

  unlent_at : (block : BlockId) (b c : S) (y : ℕ) (t : Bool) → (y == block.0) ≡ t → IsUnlent s block b c → s.lent b y ≡ false → s.lent c y ≡ false
  unlent_at block b c y true e u none =
      let same = eqb-true y block.0 e in
      subst (λ (q : ℕ). s.lent c q ≡ false) (sym same) (u.here (subst (λ (q : ℕ). s.lent b q ≡ false) same none))
  unlent_at block b c y false e u none = u.others y e ∙ none

  pub fail_made : (blocks : List BlockId) (replicas : List Seen) (k : ℕ) (block : BlockId) (a b c e : S) (books books' : List (BookState D)) (why : RestartFault) → HasFound s d (take k blocks) replicas a b books → IsNotLent s block b c why → books' ≡ books
      → NodeCloses s d blocks books' c e → IsUnmade s a e why
  fail_made blocks replicas k block a b c e books books' why h u same n = record {
    no_more = λ y none. n.lent y ∙ (ap (λ (bs : List BlockId). s.lent c y && not (is_among bs y)) front ∙ free y (is_among (take k blocks) y) refl none);
    never_falls = up (s.faults a) (s.faults b) (s.faults c) (s.faults e) h.faults u.unlent.never_falls n.count.never_falls;
    cause = later_cause (s.faults a) (s.faults b) (s.faults c) (s.faults e) why (least (s.faults a) (s.faults b) h.faults) n.count.never_falls u.cause;
  }
    where
      least : (p q : ℕ) → q ≡ p → p ≤ q
      least p q x = omega (arith, x)

      up : (p q r t : ℕ) → q ≡ p → q ≤ r → r ≤ t → p ≤ t
      up p q r t x y z = omega (arith, x, y, z)

      front : take (length books') blocks ≡ take k blocks
      front = ap (λ (xs : List (BookState D)). take (length xs) blocks) same ∙ front_of blocks k books h.blocks_are

      free : (y : ℕ) (q : Bool) → is_among (take k blocks) y ≡ q → s.lent a y ≡ false → (s.lent c y && not (is_among (take k blocks) y)) ≡ false
      free y true m none = and_none (s.lent c y) (is_among (take k blocks) y) m
      free y false m none = and_false (s.lent c y) (is_among (take k blocks) y)
          (unlent_at block b c y (y == block.0) refl u.unlent (lent_false (s.lent b y) (is_among (take k blocks) y) (s.lent a y) (h.lent y) m none))
