-- One block after another is scanned.
use Rattle.std.proofs.Common.{◌≡◌, ◌⊎◌, inl, inr, ℕ, zero, suc, ◌+◌, ◌<◌, ◌≤◌, ◌==◌, cond, Bool, true, false, List, [], ◌∷◌, ◌++◌, length, get_or, take, Option, Some, None, Contains, Result, Ok, Err, refl, sym, ap, subst, ◌∙◌, arith, append_assoc, append-nil}
use Rattle.std.specs.List.{AllZip}
use Rattle.std.specs.List.Sorted.{IsStrictlyIncreasing}
use Rattle.std.proofs.lemmas.Bool.{cases_lt}
use Rattle.std.proofs.lemmas.Bool.Decides.{Decides-eqb}
use Rattle.std.proofs.lemmas.List.{take_all, length-take, get_or-take}
use Rattle.std.proofs.lemmas.List.Kept.{AllPairs-from_increasing}
use Rattle.hd_base.specs.Blocks.{is_of_block, is_this, block_of}
use Rattle.hd_base.specs.FileMaps.{FileMap, part_of}
use Rattle.hd_base.specs.declared.numbers.BlockId.{BlockId}
use Rattle.hd_base.specs.declared.shelves.Shelf as shelves
use Rattle.restart_scan.specs.declared.faults.ScanFault.{ScanFault}
use Rattle.restart_scan.specs.declared.faults.ScanFault.TheVariants as fault
use Rattle.restart_scan.specs.declared.shelves.Listed.{Listed}
use Rattle.restart_scan.specs.declared.found.Seen.{Seen}
use Rattle.restart_scan.specs.declared.found.Scanned.{Scanned}
use Rattle.restart_scan.specs.Blocks.{ScansBlock}
use Rattle.restart_scan.specs.Shelves.{IsPartly, OthersStay, ScansIn, StopsIn, WhereTold, seen_list, moved_list, seen_all, moved_all, block_numbered, IsOfNone, IsScanned, ScansAll, StopsAll, StaysUntold, LendsNoMore, ScansNext, ScansBlocks}
use Rattle.restart_scan.proofs.DrawerLemmas.{risen_before, same_err}

-- ---- blocks

true_false : true ≡ false → ⊥
true_false e = cc

-- a name is of one block at most
of_one : (b c : ℕ) (name : List ℕ) → is_of_block b name ≡ true → (c ≡ b → ⊥) → is_of_block c name ≡ false
of_one b c name of apart = by (block_of name) of where
  other : (t : Bool) (x : ℕ) → (x == c) ≡ t → (x == b) ≡ true → (x == c) ≡ false
  other true x e f = absurd (apart (sym ((Decides-eqb x c).0 e) ∙ (Decides-eqb x b).0 f))
  other false x e f = e

  by : (o : Option ℕ) → is_this b o ≡ true → is_this c o ≡ false
  by None e = refl
  by (Some x) e = other (x == c) x refl e

-- the files of a block that stay
part_stays : (b : ℕ) (m n : FileMap) → ((name : List ℕ) → is_of_block b name ≡ true → n name ≡ m name) → part_of b n ≡ part_of b m
part_stays b m n same = λ i name. at name (is_of_block b name) refl i where
  at : (name : List ℕ) (t : Bool) → is_of_block b name ≡ t → part_of b n name ≡ part_of b m name
  at name true e = ap (λ (u : Bool). cond u (n name) None) e ∙ (same name e ∙ sym (ap (λ (u : Bool). cond u (m name) None) e))
  at name false e = ap (λ (u : Bool). cond u (n name) None) e ∙ sym (ap (λ (u : Bool). cond u (m name) None) e)

-- after the scan of another block
part_after : (b c : ℕ) (n k : FileMap) → OthersStay b n k → (b ≡ c → ⊥) → part_of c k ≡ part_of c n
part_after b c n k others apart = part_stays c n k (λ name of. others name (of_one c b name of apart))

-- ---- lists

take_more : (blocks : List ℕ) (i b : ℕ) → i < length blocks → b ≡ get_or blocks i b → take (i + 1) blocks ≡ take i blocks ++ b ∷ []
take_more [] i b within is = absurd (omega arith)
take_more (x ∷ blocks) zero b within is = ap (λ n. n ∷ []) (sym is)
take_more (x ∷ blocks) (suc i) b within is =
    let next : suc i + 1 ≡ suc (i + 1) = omega arith in
    ap (λ n. take n (x ∷ blocks)) next ∙ ap (λ l. x ∷ l) (take_more blocks i b (omega (arith, within)) is)

push_zip : {A B : Type 0} (R : A → B → Type 0) (xs : List A) (ys : List B) (x : A) (y : B) → AllZip R xs ys → R x y → AllZip R (xs ++ x ∷ []) (ys ++ y ∷ [])
push_zip R [] [] x y h r = (r, tt)
push_zip R [] (b ∷ ys) x y h r = absurd h
push_zip R (a ∷ xs) [] x y h r = absurd h
push_zip R (a ∷ xs) (b ∷ ys) x y h r = (h.0, push_zip R xs ys x y h.1 r)

later : {A : Type 0} (p : A) (xs : List A) (q : A) → Contains xs q → Contains (p ∷ xs) q
later p xs q at = (suc at.0, omega (arith, at.1), at.2)

map_zip : {B : Type 0} (R T : ℕ → B → Type 0) (xs : List ℕ) (ys : List B) → ((c : ℕ) (y : B) → Contains xs c → R c y → T c y) → AllZip R xs ys → AllZip T xs ys
map_zip R T [] [] on h = tt
map_zip R T [] (b ∷ ys) on h = absurd h
map_zip R T (a ∷ xs) [] on h = absurd h
map_zip R T (a ∷ xs) (b ∷ ys) on h = (on a b (0, omega arith, refl) h.0, map_zip R T xs ys (λ c y at. on c y (later a xs c at)) h.1)

seen_more : (xs : List Scanned) (x : Scanned) → seen_all (xs ++ x ∷ []) ≡ seen_all xs ++ seen_list x.seen
seen_more [] x = append-nil (seen_list x.seen)
seen_more (y ∷ xs) x = ap (λ l. seen_list y.seen ++ l) (seen_more xs x) ∙ sym (append_assoc (seen_list y.seen) (seen_all xs) (seen_list x.seen))

moved_more : (R : ℕ → Scanned → Type 0) (bs : List ℕ) (xs : List Scanned) (b : ℕ) (x : Scanned) → AllZip R bs xs → moved_all (bs ++ b ∷ []) (xs ++ x ∷ []) ≡ moved_all bs xs ++ moved_list (block_numbered b) x.is_moved
moved_more R [] [] b x h = append-nil (moved_list (block_numbered b) x.is_moved)
moved_more R [] (y ∷ xs) b x h = absurd h
moved_more R (c ∷ bs) [] b x h = absurd h
moved_more R (c ∷ bs) (y ∷ xs) b x h =
    ap (λ l. moved_list (block_numbered c) y.is_moved ++ l) (moved_more R bs xs b x h.1)
    ∙ sym (append_assoc (moved_list (block_numbered c) y.is_moved) (moved_all bs xs) (moved_list (block_numbered b) x.is_moved))

contains_end : (xs : List ℕ) (b : ℕ) → Contains (xs ++ b ∷ []) b
contains_end [] b = (0, omega arith, refl)
contains_end (x ∷ xs) b = later x (xs ++ b ∷ []) b (contains_end xs b)

contains_front : (xs : List ℕ) (b c : ℕ) → Contains xs c → Contains (xs ++ b ∷ []) c
contains_front [] b c at = absurd (omega (arith, at.1))
contains_front (x ∷ xs) b c (zero, within, is) = (0, omega arith, is)
contains_front (x ∷ xs) b c (suc k, within, is) = later x (xs ++ b ∷ []) c (contains_front xs b c (k, omega (arith, within), is))

contains_either : (xs : List ℕ) (b c : ℕ) → Contains (xs ++ b ∷ []) c → Contains xs c ⊎ (b ≡ c)
contains_either [] b c (zero, within, is) = inr is
contains_either [] b c (suc k, within, is) = absurd (omega (arith, within))
contains_either (x ∷ xs) b c (zero, within, is) = inl (0, omega arith, is)
contains_either (x ∷ xs) b c (suc k, within, is) = elim (contains_either xs b c (k, omega (arith, within), is)) [ inl at ↦ inl (later x xs c at) | inr e ↦ inr e ]

-- the blocks before a place are others
before_apart : (blocks : List ℕ) (i b c : ℕ) → IsStrictlyIncreasing blocks → i < length blocks → b ≡ get_or blocks i b → Contains (take i blocks) c → b ≡ c → ⊥
before_apart blocks i b c up within is at same =
    let j = at.0 in
    let before : j < i = omega (arith, at.1, length-take i blocks) in
    let less : get_or blocks j c < get_or blocks i c = AllPairs-from_increasing blocks up j i c before within in
    let here : get_or blocks j c ≡ c = sym (get_or-take i blocks j c before) ∙ at.2 in
    let there : get_or blocks i c ≡ b = ap (get_or blocks i) (sym same) ∙ sym is in
    omega (arith, less, here, there, same)

-- ---- how far it has come

pub record IsGoing (blocks : List ℕ) (i : ℕ) (m n : FileMap) (replicas : List Seen) (moved : List BlockId) : Type 0 where
  pub scans : ScansAll (take i blocks) m n replicas moved
  pub parts : (b : ℕ) → Contains (take i blocks) b → IsPartly (block_numbered b) (part_of b m) (part_of b n)

pub going_starts : (blocks : List ℕ) (m : FileMap) → IsGoing blocks 0 m m [] []
going_starts blocks m = record {
  scans = record { results = []; each = tt; others = λ name none. refl; replicas_are = refl; moved_are = refl };
  parts = λ b at. absurd (omega (arith, at.1));
}

module _ (blocks : List ℕ) (i b : ℕ) (m n : FileMap) (replicas : List Seen) (moved : List BlockId) (up : IsStrictlyIncreasing blocks) (within : i < length blocks) (is : b ≡ get_or blocks i b) (going : IsGoing blocks i m n replicas moved) where
  -- the block isn't scanned yet
  not_yet : part_of b n ≡ part_of b m
  not_yet = part_stays b m n (λ name of. going.scans.others name (λ c at. of_one b c name of (λ same. before_apart blocks i b c up within is at (sym same))))

  pub going_next : (k : FileMap) (x : Scanned) (seen : List Seen) (gone : List BlockId) → ScansIn (block_numbered b) n k x → seen ≡ replicas ++ seen_list x.seen → gone ≡ moved ++ moved_list (block_numbered b) x.is_moved
      → IsGoing blocks (i + 1) m k seen gone
  going_next k x seen gone s seen_is gone_is =
      let front = take i blocks in
      let next = take_more blocks i b within is in
      let results = going.scans.results in
      let each : AllZip (IsScanned m k) front results = map_zip (IsScanned m n) (IsScanned m k) front results
      (λ c y at h. subst (λ z. ScansBlock (block_numbered c) (part_of c m) z y) (sym (part_after b c n k s.others (before_apart blocks i b c up within is at))) h) going.scans.each in
      let here : IsScanned m k b x = subst (λ z. ScansBlock (block_numbered b) z (part_of b k) x) not_yet s.scanned in
      record {
        scans = subst (λ l. ScansAll l m k seen gone) (sym next) (record {
          results = results ++ x ∷ [];
          each = push_zip (IsScanned m k) front results b x each here;
          others = λ name none. s.others name (none b (contains_end front b)) ∙ going.scans.others name (λ c at. none c (contains_front front b c at));
          replicas_are = seen_is ∙ (ap (λ l. l ++ seen_list x.seen) going.scans.replicas_are ∙ sym (seen_more results x));
          moved_are = gone_is ∙ (ap (λ l. l ++ moved_list (block_numbered b) x.is_moved) going.scans.moved_are ∙ sym (moved_more (IsScanned m n) front results b x going.scans.each));
        });
        parts = λ c at. elim (contains_either front b c (subst (λ l. Contains l c) next at)) [
          | inl old ↦ subst (IsPartly (block_numbered c) (part_of c m)) (sym (part_after b c n k s.others (before_apart blocks i b c up within is old))) (going.parts c old)
          | inr same ↦ subst (λ q. IsPartly (block_numbered q) (part_of q m) (part_of q k)) same (subst (λ z. IsPartly (block_numbered b) z (part_of b k)) not_yet s.partly)
        ];
      }

  -- a block behind the place
  behind_apart : (j c : ℕ) → i < j → j < length blocks → get_or blocks j c ≡ c → b ≡ c → ⊥
  behind_apart j c after inside at same =
      let less : get_or blocks i c < get_or blocks j c = AllPairs-from_increasing blocks up i j c after inside in
      let there : get_or blocks i c ≡ b = ap (get_or blocks i) (sym same) ∙ sym is in
      omega (arith, less, at, there, same)

  behind_front : (j c d : ℕ) → i < j → j < length blocks → get_or blocks j c ≡ c → Contains (take i blocks) d → d ≡ c → ⊥
  behind_front j c d after inside at old same =
      let before : old.0 < i = omega (arith, old.1, length-take i blocks) in
      let less : get_or blocks old.0 d < get_or blocks j d = AllPairs-from_increasing blocks up old.0 j d (omega (arith, before, after)) inside in
      let here : get_or blocks old.0 d ≡ d = sym (get_or-take i blocks old.0 d before) ∙ old.2 in
      let there : get_or blocks j d ≡ c = ap (get_or blocks j) same ∙ at in
      omega (arith, less, here, there, same)

  in_front : (j c : ℕ) → j < i → get_or blocks j c ≡ c → Contains (take i blocks) c
  in_front j c before at = (j, omega (arith, length-take i blocks, before, within), get_or-take i blocks j c before ∙ at)

  pub going_stops : (k : FileMap) → StopsIn (block_numbered b) n k → StopsAll blocks m k
  going_stops k s = record {
    each = λ c at. elim (cases_lt at.0 i) [
      | inl before ↦
          let old = in_front at.0 c before at.2 in
          subst (IsPartly (block_numbered c) (part_of c m)) (sym (part_after b c n k s.others (before_apart blocks i b c up within is old))) (going.parts c old)
      | inr from ↦ elim (cases_lt i at.0) [
        | inl after ↦
            let stays : part_of c n ≡ part_of c m = part_stays c m n (λ name of. going.scans.others name (λ d old. of_one c d name of (behind_front at.0 c d after at.1 at.2 old))) in
            inl (part_after b c n k s.others (behind_apart at.0 c after at.1 at.2) ∙ stays)
        | inr until ↦
            let place : at.0 ≡ i = omega (arith, from, until) in
            let same : b ≡ c = is ∙ (here at.0 c place at.2) in
            subst (λ q. IsPartly (block_numbered q) (part_of q m) (part_of q k)) same (subst (λ z. IsPartly (block_numbered b) z (part_of b k)) not_yet s.partly)
      ]
    ];
    others = λ name none. s.others name (none b (i, within, sym is)) ∙ going.scans.others name (λ c old. none c (whole c old));
  } where
    here : (j c : ℕ) → j ≡ i → get_or blocks j c ≡ c → get_or blocks i b ≡ c
    here j c e at = any blocks i b c within ∙ (ap (λ q. get_or blocks q c) (sym e) ∙ at) where
      any : (l : List ℕ) (k : ℕ) (d e : ℕ) → k < length l → get_or l k d ≡ get_or l k e
      any [] k d e h = absurd (omega (arith, h))
      any (x ∷ l) zero d e h = refl
      any (x ∷ l) (suc k) d e h = any l k d e (omega (arith, h))

    whole : (c : ℕ) → Contains (take i blocks) c → Contains blocks c
    whole c old =
        let before : old.0 < i = omega (arith, old.1, length-take i blocks) in
        (old.0, omega (arith, before, within), sym (get_or-take i blocks old.0 c before) ∙ old.2)

-- ---- where files are observable

abbrev pub GoingTold : List ℕ → ℕ → Option FileMap → Option FileMap → List Seen → List BlockId → Type 0
GoingTold blocks i a b replicas moved = WhereTold a b (λ m n. IsGoing blocks i m n replicas moved)

pub starts_told : (blocks : List ℕ) (a : Option FileMap) → GoingTold blocks 0 a a [] []
starts_told blocks None = tt
starts_told blocks (Some m) = (m, refl, going_starts blocks m)

-- A block more was scanned, and stands in the lists.
abbrev pub NextTold : BlockId → Option FileMap → Option FileMap → List Seen → List BlockId → List Seen → List BlockId → Type 0
NextTold block a b replicas moved seen gone =
    (x : Scanned) × WhereTold a b (λ m n. ScansIn block m n x) × (seen ≡ replicas ++ seen_list x.seen) × (gone ≡ moved ++ moved_list block x.is_moved)

pub next_told : (blocks : List ℕ) (i b : ℕ) (a c e : Option FileMap) (replicas seen : List Seen) (moved gone : List BlockId) → IsStrictlyIncreasing blocks → i < length blocks → b ≡ get_or blocks i b
    → GoingTold blocks i a c replicas moved → NextTold (block_numbered b) c e replicas moved seen gone → GoingTold blocks (i + 1) a e seen gone
next_told blocks i b None c e replicas seen moved gone up within is going next = tt
next_told blocks i b (Some m) c e replicas seen moved gone up within is going next =
    let scan = subst (λ o. WhereTold o e (λ n k. ScansIn (block_numbered b) n k next.0)) going.1 next.1 in
    (scan.0, scan.1, going_next blocks i b m going.0 replicas moved up within is going.2 scan.0 next.0 seen gone scan.2 next.2 next.3)

pub stops_told : (blocks : List ℕ) (i b : ℕ) (a c e : Option FileMap) (replicas : List Seen) (moved : List BlockId) → IsStrictlyIncreasing blocks → i < length blocks → b ≡ get_or blocks i b
    → GoingTold blocks i a c replicas moved → WhereTold c e (StopsIn (block_numbered b)) → WhereTold a e (StopsAll blocks)
stops_told blocks i b None c e replicas moved up within is going stop = tt
stops_told blocks i b (Some m) c e replicas moved up within is going stop =
    let s = subst (λ o. WhereTold o e (StopsIn (block_numbered b))) going.1 stop in
    (s.0, s.1, going_stops blocks i b m going.0 replicas moved up within is going.2 s.0 s.2)

pub ends_told : (blocks : List ℕ) (i : ℕ) (a c : Option FileMap) (replicas : List Seen) (moved : List BlockId) → length blocks ≤ i → GoingTold blocks i a c replicas moved
    → WhereTold a c (λ m n. ScansAll blocks m n replicas moved)
ends_told blocks i None c replicas moved all going = tt
ends_told blocks i (Some m) c replicas moved all going = (going.0, going.1, subst (λ l. ScansAll l m going.0 replicas moved) (take_all i blocks all) going.2.scans)

pub at_same : (l : List ℕ) (k : ℕ) → k < length l → get_or l k 0 ≡ get_or l k (get_or l k 0)
at_same l k within = any l k 0 (get_or l k 0) within where
  any : (l : List ℕ) (k : ℕ) (d e : ℕ) → k < length l → get_or l k d ≡ get_or l k e
  any [] k d e h = absurd (omega (arith, h))
  any (x ∷ l) zero d e h = refl
  any (x ∷ l) (suc k) d e h = any l k d e (omega (arith, h))

-- the failed scan of a block, among those of all
pub stops_all : {S D T : Type 0} (s : shelves.Ghosts S D) (blocks : List ℕ) (i b : ℕ) (old now new : S) (before after : Listed) (e : ScanFault) → IsStrictlyIncreasing blocks → i < length blocks → b ≡ get_or blocks i b
    → GoingTold blocks i (s.files old) (s.files now) before.replicas.items before.moved.items → StaysUntold (s.files old) (s.files now) → LendsNoMore (s.lent old) (s.lent now) → s.faults old ≤ s.faults now
    → ScansNext {T = T} s (block_numbered b) now new before after (Err e) → ScansBlocks s blocks old new (Err e)
stops_all {S} {D} {T} s blocks i b old now new before after e up within is going untold lent later next = record {
  done = tt;
  in_part = stops_told blocks i b (s.files old) (s.files now) (s.files new) before.replicas.items before.moved.items up within is going next.stopped;
  untold = λ none. next.untold (untold none);
  lent = λ c h. lent c (next.lent c h);
  cause = record {
    never_falls = omega (arith, later, next.cause.never_falls);
    file = λ same. risen_before (s.faults old) (s.faults now) (s.faults new) later (next.cause.file (same_err {T = T} e fault.File same));
  };
}

-- a scan of all is one of a part
parts_told : (blocks : List ℕ) (i : ℕ) (a c : Option FileMap) (replicas : List Seen) (moved : List BlockId) → length blocks ≤ i → GoingTold blocks i a c replicas moved → WhereTold a c (StopsAll blocks)
parts_told blocks i None c replicas moved all going = tt
parts_told blocks i (Some m) c replicas moved all going =
    let same = take_all i blocks all in (
      going.0,
      going.1,
      record {
        each = λ b at. going.2.parts b (subst (λ l. Contains l b) (sym same) at);
        others = λ name none. going.2.scans.others name (subst (λ l. IsOfNone l name) (sym same) none);
      },
    )

-- all blocks were scanned
pub ends_all : {S D : Type 0} (s : shelves.Ghosts S D) (blocks : List ℕ) (i : ℕ) (old now : S) (listed : Listed) → length blocks ≤ i → GoingTold blocks i (s.files old) (s.files now) listed.replicas.items listed.moved.items
    → StaysUntold (s.files old) (s.files now) → LendsNoMore (s.lent old) (s.lent now) → s.faults old ≤ s.faults now → ScansBlocks s blocks old now (Ok listed)
ends_all s blocks i old now listed all going untold lent later = record {
  done = ends_told blocks i (s.files old) (s.files now) listed.replicas.items listed.moved.items all going;
  in_part = parts_told blocks i (s.files old) (s.files now) listed.replicas.items listed.moved.items all going;
  untold = untold;
  lent = lent;
  cause = record { never_falls = later; file = λ e. absurd (no listed e) };
} where
  no : (x : Listed) → ◌≡◌ {A = Result Listed ScanFault} (Ok x) (Err fault.File) → ⊥
  no x e = cc
