-- What is read of a block's files.
use Rattle.std.proofs.Common.{◌≡◌, ◌⊎◌, inl, inr, ℕ, zero, suc, ◌^◌, ◌<◌, cond, Bool, true, false, List, [], ◌∷◌, ◌++◌, length, take, drop, Option, Some, None, option_map, IfSome, IsSome, Result, Ok, Err, Contains, Ordering, Less, Equal, Greater, refl, sym, ap, subst, ◌∙◌, arith}
use Rattle.std.proofs.lemmas.List.{take-append-drop, length-append}
use Rattle.std.specs.Result.{IfOk}
use Rattle.std.proofs.Math.Seq.{take-append_seam}
use Rattle.std.proofs.lemmas.Grind.{common_steps}
use Rattle.std.proofs.lemmas.Slice.Eq.{bytes_eq-Decides}
use Rattle.std.proofs.lemmas.Map.Text.{is_eq-slice_cmp}
use Rattle.std.specs.Ordering.{nat_cmp, is_lt, is_eq}
use Rattle.std.specs.Cmp.Lexicographic.{slice_cmp}
use Rattle.std.specs.Str.{bytes_eq}
use Rattle.hd_base.specs.SumRules.{Rule}
use Rattle.hd_base.specs.FileMaps.{FileMap, HasLength, AreNamesOf}
use Rattle.hd_base.specs.declared.numbers.BlockId.{BlockId}
use Rattle.hd_base.specs.declared.files.FileError.{FileError}
use Rattle.hd_base.proofs.FileLaws.{bytes_eq-same}
use Rattle.meta_file.specs.Headers.{header_of}
use Rattle.block_files.specs.Placements.{data_name, meta_name}
use Rattle.block_files.proofs.NameLemmas.{data_meta, meta_data}
use Rattle.replica_calls.specs.declared.names.FileNames.{FileNames}
use Rattle.restart_scan.specs.declared.pairs.PairPlaces.{PairPlaces}
use Rattle.restart_scan.specs.declared.reading.ReadPair.{ReadPair}
use Rattle.restart_scan.specs.Kept.{IsKept, KeepsLen, AreThere}
use Rattle.restart_scan.specs.Pairs.{Pair, IsPair, AreAt, ArePair, pair_names, is_temporary, without_temporary}
use Rattle.restart_scan.specs.Reading.{IsRuleOf, IsReadOf, ReadsFiles, IsReadPair, ReadsBlock}

-- ---- both files

pub some_bytes : (x y : List ℕ) → ◌≡◌ {A = Option (List ℕ)} (Some x) (Some y) → x ≡ y
some_bytes x y e = cc

some_number : (x y : ℕ) → ◌≡◌ {A = Option ℕ} (Some x) (Some y) → x ≡ y
some_number x y e = cc

of_told : (files : Option FileMap) (m : FileMap) (P : FileMap → Type 0) → files ≡ Some m → IfSome files P → P m
of_told files m P e h = subst (λ o. IfSome o P) e h

told_of : (files : Option FileMap) (m : FileMap) (P : FileMap → Type 0) → files ≡ Some m → P m → IfSome files P
told_of files m P e h = subst (λ o. IfSome o P) (sym e) h

length_is : (files : Option FileMap) (m : FileMap) (name bytes : List ℕ) (len : ℕ) → files ≡ Some m → m name ≡ Some bytes → HasLength files name len → len ≡ length bytes
length_is files m name bytes len e is has =
    some_number len (length bytes) (sym (of_told files m (λ x. option_map (λ b. length b) (x name) ≡ Some len) e has) ∙ ap (option_map (λ b. length b)) is)

pub files_read : (files : Option FileMap) (names : FileNames) (places : PairPlaces) (r : Rule) (data_len meta_len kept : ℕ) (m : FileMap) (bytes meta : List ℕ)
    → files ≡ Some m → m names.«data» ≡ Some bytes → m names.meta ≡ Some meta → IsRuleOf meta r → HasLength files names.«data» data_len → HasLength files names.meta meta_len
    → KeepsLen files names r data_len kept → IsReadOf places bytes meta (record { places = places; rule = r; data_len = data_len; meta_len = meta_len; kept = kept })
files_read files names places r data_len meta_len kept m bytes meta told is_data is_meta rule has_data has_meta keeps =
    let stored = drop 7 meta in
    let parts : meta ≡ header_of r ++ stored = sym (take-append-drop 7 meta) ∙ ap (λ l. l ++ stored) rule.front in
    let all : data_len ≡ length bytes = length_is files m names.«data» bytes data_len told is_data has_data in
    record {
      at = refl;
      chunk_fits = rule.chunk_fits;
      stored = stored;
      meta_is = parts;
      all_data = all;
      all_meta = length_is files m names.meta meta meta_len told is_meta has_meta;
      kept_is = of_told files m (λ _. IsKept r bytes stored kept) told (keeps.value bytes stored (record {
        is_data = told_of files m (λ x. x names.«data» ≡ Some bytes) told is_data;
        is_meta = told_of files m (λ x. x names.meta ≡ Some (header_of r ++ stored)) told (is_meta ∙ ap Some parts);
        all = sym all;
      }));
    }

-- ---- two names

abbrev IsBelow : List ℕ → List ℕ → Type 0
IsBelow a b = is_lt (slice_cmp nat_cmp a b) ≡ true

less_differs : (o : Ordering) → is_lt o ≡ true → is_eq o ≡ false
less_differs Less e = refl
less_differs Equal e = cc
less_differs Greater e = refl

true_false : true ≡ false → ⊥
true_false e = cc

below_apart : (a b : List ℕ) → IsBelow a b → a ≡ b → ⊥
below_apart a b less same = true_false (sym (bytes_eq-same a) ∙ (ap (bytes_eq a) same ∙ (sym (is_eq-slice_cmp a b) ∙ less_differs (slice_cmp nat_cmp a b) less)))

same_name : (a b : List ℕ) → bytes_eq a b ≡ true → a ≡ b
same_name a b e = grind (arith, common_steps, bytes_eq-Decides a b)

some_none : (x : List ℕ) → ◌≡◌ {A = Option (List ℕ)} None (Some x) → ⊥
some_none x e = cc

is_some : (o : Option (List ℕ)) (x : List ℕ) → o ≡ Some x → IsSome o
is_some o x e = subst (λ p. IsSome p) (sym e) refl

no_file : (o : Option (List ℕ)) → o ≡ None → IsSome o → ⊥
no_file None e h = cc
no_file (Some x) e h = cc

-- the files of two names
abbrev pub two_files : List ℕ → List ℕ → List ℕ → List ℕ → FileMap
two_files a x b y = λ q. cond (bytes_eq a q) (Some x) (cond (bytes_eq b q) (Some y) None)

pub one_of : (a x b y q : List ℕ) → IsSome (two_files a x b y q) → (q ≡ a) ⊎ (q ≡ b)
one_of a x b y q there = first (bytes_eq a q) refl there where
  second : (t : Bool) → bytes_eq b q ≡ t → IsSome (cond t (Some y) None) → (q ≡ a) ⊎ (q ≡ b)
  second true e there = inr (sym (same_name b q e))
  second false e there = absurd (no_file None refl there)

  first : (t : Bool) → bytes_eq a q ≡ t → IsSome (cond t (Some x) (cond (bytes_eq b q) (Some y) None)) → (q ≡ a) ⊎ (q ≡ b)
  first true e there = inl (sym (same_name a q e))
  first false e there = second (bytes_eq b q) refl there

here_first : (a x b y : List ℕ) → IsSome (two_files a x b y a)
here_first a x b y = let e : bytes_eq a a ≡ true = bytes_eq-same a in rw e refl

here_second : (a x b y : List ℕ) → IsSome (two_files a x b y b)
here_second a x b y = by (bytes_eq a b) where
  by : (t : Bool) → IsSome (cond t (Some x) (cond (bytes_eq b b) (Some y) None))
  by true = refl
  by false = let e : bytes_eq b b ≡ true = bytes_eq-same b in rw e refl

-- names of two files are two
pub names_two : (names : List (List ℕ)) (a x b y : List ℕ) → (a ≡ b → ⊥) → AreNamesOf (two_files a x b y) names → (names ≡ a ∷ b ∷ []) ⊎ (names ≡ b ∷ a ∷ [])
names_two [] a x b y apart are = absurd (none ((are.each a).1 (here_first a x b y))) where
  none : Contains [] a → ⊥
  none at = omega (arith, at.1)
names_two (p ∷ []) a x b y apart are = absurd (apart (sym (only a ((are.each a).1 (here_first a x b y))) ∙ only b ((are.each b).1 (here_second a x b y)))) where
  only : (q : List ℕ) → Contains (p ∷ []) q → p ≡ q
  only q (zero, within, is) = is
  only q (suc k, within, is) = absurd (omega (arith, within))
names_two (p ∷ q ∷ []) a x b y apart are = by (one_of a x b y p ((are.each p).0 (0, omega arith, refl))) (one_of a x b y q ((are.each q).0 (1, omega arith, refl))) where
  differ : p ≡ q → ⊥
  differ = below_apart p q (are.ascending 0 1 [] (omega arith) (omega arith))

  by : (p ≡ a) ⊎ (p ≡ b) → (q ≡ a) ⊎ (q ≡ b) → (p ∷ q ∷ [] ≡ a ∷ b ∷ []) ⊎ (p ∷ q ∷ [] ≡ b ∷ a ∷ [])
  by (inl e) (inl f) = absurd (differ (e ∙ sym f))
  by (inl e) (inr f) = inl (ap (λ u. u ∷ q ∷ []) e ∙ ap (λ u. a ∷ u ∷ []) f)
  by (inr e) (inl f) = inr (ap (λ u. u ∷ q ∷ []) e ∙ ap (λ u. b ∷ u ∷ []) f)
  by (inr e) (inr f) = absurd (differ (e ∙ sym f))
names_two (p ∷ q ∷ s ∷ rest) a x b y apart are =
    by (one_of a x b y p ((are.each p).0 (0, omega arith, refl))) (one_of a x b y q ((are.each q).0 (1, omega arith, refl))) (one_of a x b y s ((are.each s).0 (2, omega arith, refl))) where
      pq : p ≡ q → ⊥
      pq = below_apart p q (are.ascending 0 1 [] (omega arith) (omega arith))

      ps : p ≡ s → ⊥
      ps = below_apart p s (are.ascending 0 2 [] (omega arith) (omega arith))

      qs : q ≡ s → ⊥
      qs = below_apart q s (are.ascending 1 2 [] (omega arith) (omega arith))

      by : (p ≡ a) ⊎ (p ≡ b) → (q ≡ a) ⊎ (q ≡ b) → (s ≡ a) ⊎ (s ≡ b) → (p ∷ q ∷ s ∷ rest ≡ a ∷ b ∷ []) ⊎ (p ∷ q ∷ s ∷ rest ≡ b ∷ a ∷ [])
      by (inl e) (inl f) z = absurd (pq (e ∙ sym f))
      by (inr e) (inr f) z = absurd (pq (e ∙ sym f))
      by (inl e) (inr f) (inl h) = absurd (ps (e ∙ sym h))
      by (inl e) (inr f) (inr h) = absurd (qs (f ∙ sym h))
      by (inr e) (inl f) (inl h) = absurd (qs (f ∙ sym h))
      by (inr e) (inl f) (inr h) = absurd (ps (e ∙ sym h))

-- two names are those of two files
pub files_two : (m : FileMap) (names : List (List ℕ)) (a x b y : List ℕ) → AreNamesOf m names → (names ≡ a ∷ b ∷ []) ⊎ (names ≡ b ∷ a ∷ []) → m a ≡ Some x → m b ≡ Some y → (q : List ℕ) → m q ≡ two_files a x b y q
files_two m names a x b y are two is_a is_b q = first (bytes_eq a q) refl where
  member : Contains names q → (a ≡ q) ⊎ (b ≡ q)
  member at = by two where
    either : (u v : List ℕ) → Contains (u ∷ v ∷ []) q → (u ≡ q) ⊎ (v ≡ q)
    either u v (zero, within, is) = inl is
    either u v (suc zero, within, is) = inr is
    either u v (suc (suc k), within, is) = absurd (omega (arith, within))

    by : (names ≡ a ∷ b ∷ []) ⊎ (names ≡ b ∷ a ∷ []) → (a ≡ q) ⊎ (b ≡ q)
    by (inl e) = either a b (subst (λ l. Contains l q) e at)
    by (inr e) = elim (either b a (subst (λ l. Contains l q) e at)) [ inl h ↦ inr h | inr h ↦ inl h ]

  none_there : (o : Option (List ℕ)) → m q ≡ o → bytes_eq a q ≡ false → bytes_eq b q ≡ false → m q ≡ None
  none_there None is e f = is
  none_there (Some z) is e f = elim (member ((are.each q).1 (is_some (m q) z is))) [
    | inl h ↦ absurd (true_false (sym (bytes_eq-same q) ∙ (ap (λ u. bytes_eq u q) (sym h) ∙ e)))
    | inr h ↦ absurd (true_false (sym (bytes_eq-same q) ∙ (ap (λ u. bytes_eq u q) (sym h) ∙ f)))
  ]

  second : (t : Bool) → bytes_eq a q ≡ false → bytes_eq b q ≡ t → m q ≡ cond t (Some y) None
  second true e f = ap m (sym (same_name b q f)) ∙ is_b
  second false e f = none_there (m q) refl e f

  first : (t : Bool) → bytes_eq a q ≡ t → m q ≡ cond t (Some x) (cond (bytes_eq b q) (Some y) None)
  first true e = ap m (sym (same_name a q e)) ∙ is_a
  first false e = second (bytes_eq b q) e refl

-- ---- a block's pair

-- the names of a pair's files
at_names : (block : BlockId) (a b : List ℕ) (x : PairPlaces) → AreAt block a b x → AreAt block (data_name x.folder block.0) (meta_name x.meta_folder x.stamp.0 block.0) x
at_names block a b x at = subst (λ l. AreAt block l (meta_name x.meta_folder x.stamp.0 block.0) x) at.body_at.named (subst (λ l. AreAt block a l x) at.sums_at.named at)

pair_two : (block : BlockId) (names : List (List ℕ)) (x : PairPlaces) → ArePair block names x
    → (names ≡ data_name x.folder block.0 ∷ meta_name x.meta_folder x.stamp.0 block.0 ∷ []) ⊎ (names ≡ meta_name x.meta_folder x.stamp.0 block.0 ∷ data_name x.folder block.0 ∷ [])
pair_two block names x pair = elim pair.3 [
  | inl e ↦ inl (e ∙ (ap (λ u. u ∷ pair.1 ∷ []) pair.2.body_at.named ∙ ap (λ u. data_name x.folder block.0 ∷ u ∷ []) pair.2.sums_at.named))
  | inr e ↦ inr (e ∙ (ap (λ u. u ∷ pair.0 ∷ []) pair.2.sums_at.named ∙ ap (λ u. meta_name x.meta_folder x.stamp.0 block.0 ∷ u ∷ []) pair.2.body_at.named))
]

contains_first : (names : List (List ℕ)) (a b : List ℕ) → (names ≡ a ∷ b ∷ []) ⊎ (names ≡ b ∷ a ∷ []) → Contains names a
contains_first names a b (inl e) = subst (λ l. Contains l a) (sym e) (0, omega arith, refl)
contains_first names a b (inr e) = subst (λ l. Contains l a) (sym e) (1, omega arith, refl)

contains_second : (names : List (List ℕ)) (a b : List ℕ) → (names ≡ a ∷ b ∷ []) ⊎ (names ≡ b ∷ a ∷ []) → Contains names b
contains_second names a b (inl e) = subst (λ l. Contains l b) (sym e) (1, omega arith, refl)
contains_second names a b (inr e) = subst (λ l. Contains l b) (sym e) (0, omega arith, refl)

-- what is there apart from tmp is there
cond_there : (t : Bool) (o : Option (List ℕ)) → IsSome (cond t None o) → cond t None o ≡ o
cond_there true o h = absurd (no_file None refl h)
cond_there false o h = refl

there_is : (m : FileMap) (names : List (List ℕ)) (a : List ℕ) → AreNamesOf (without_temporary m) names → Contains names a → without_temporary m a ≡ m a
there_is m names a are at = cond_there (is_temporary a) (m a) ((are.each a).0 at)

there_some : (m : FileMap) (names : List (List ℕ)) (a : List ℕ) → AreNamesOf (without_temporary m) names → Contains names a → IsSome (m a)
there_some m names a are at = subst (λ o. IsSome o) (there_is m names a are at) ((are.each a).0 at)

pub pair_there : (files : Option FileMap) (block : BlockId) (names : List (List ℕ)) (x : PairPlaces) → IfSome files (λ m. AreNamesOf (without_temporary m) names) → ArePair block names x → AreThere files (pair_names block.0 x)
pair_there None block names x are pair = tt
pair_there (Some m) block names x are pair =
    let two = pair_two block names x pair in
    (there_some m names _ are (contains_first names _ _ two), there_some m names _ are (contains_second names _ _ two))

-- the names of a block's pair are those of its files
pair_names_are : (block : BlockId) (m : FileMap) (names : List (List ℕ)) (p : Pair) → block.0 < 2 ^ 64 → AreNamesOf (without_temporary m) names → IsPair block m p
    → (names ≡ data_name p.places.folder block.0 ∷ meta_name p.places.meta_folder p.places.stamp.0 block.0 ∷ []) ⊎ (names ≡ meta_name p.places.meta_folder p.places.stamp.0 block.0 ∷ data_name p.places.folder block.0 ∷ [])
pair_names_are block m names p fits are is =
    let a = data_name p.places.folder block.0 in
    let b = meta_name p.places.meta_folder p.places.stamp.0 block.0 in
    names_two names a p.bytes b (header_of p.rule ++ p.stored)
    (λ same. true_false (sym (bytes_eq-same a) ∙ (ap (bytes_eq a) same ∙ data_meta p.places.folder p.places.meta_folder p.places.stamp.0 block.0 fits)))
    (subst (λ f. AreNamesOf f names) is.files_are are)

-- without a pair's names there is no pair
pub no_names : (block : BlockId) (m : FileMap) (names : List (List ℕ)) → block.0 < 2 ^ 64 → AreNamesOf (without_temporary m) names → ((x : PairPlaces) → ArePair block names x → ⊥) → (p : Pair) → IsPair block m p → ⊥
no_names block m names fits are none p is = none p.places (_, _, is.places_are, pair_names_are block m names p fits are is)

-- the second of the same two names
same_second : (a b c d : List ℕ) (names : List (List ℕ)) → (d ≡ a → ⊥) → (names ≡ a ∷ b ∷ []) ⊎ (names ≡ b ∷ a ∷ []) → (names ≡ c ∷ d ∷ []) ⊎ (names ≡ d ∷ c ∷ []) → d ≡ b
same_second a b c d names apart one two = by one (contains_second names c d two) where
  by : (names ≡ a ∷ b ∷ []) ⊎ (names ≡ b ∷ a ∷ []) → Contains names d → d ≡ b
  by (inl e) at = first a b (subst (λ l. Contains l d) e at) where
    first : (u v : List ℕ) → Contains (a ∷ b ∷ []) d → d ≡ b
    first u v (zero, within, is) = absurd (apart (sym is))
    first u v (suc zero, within, is) = sym is
    first u v (suc (suc k), within, is) = absurd (omega (arith, within))
  by (inr e) at = first (subst (λ l. Contains l d) e at) where
    first : Contains (b ∷ a ∷ []) d → d ≡ b
    first (zero, within, is) = sym is
    first (suc zero, within, is) = absurd (apart (sym is))
    first (suc (suc k), within, is) = absurd (omega (arith, within))

header_front : (r : Rule) (stored : List ℕ) → take 7 (header_of r ++ stored) ≡ header_of r
header_front r stored = take-append_seam (header_of r) stored

-- no rule's header, no pair
no_rule : (block : BlockId) (m : FileMap) (names : List (List ℕ)) (x : PairPlaces) (meta : List ℕ) → block.0 < 2 ^ 64 → AreNamesOf (without_temporary m) names → ArePair block names x
    → m (meta_name x.meta_folder x.stamp.0 block.0) ≡ Some meta → ((r : Rule) → IsRuleOf meta r → ⊥) → (p : Pair) → IsPair block m p → ⊥
no_rule block m names x meta fits are pair is_meta none p is =
    let a = data_name x.folder block.0 in
    let b = meta_name x.meta_folder x.stamp.0 block.0 in
    let c = data_name p.places.folder block.0 in
    let d = meta_name p.places.meta_folder p.places.stamp.0 block.0 in
    let apart : d ≡ a → ⊥ = λ same. true_false (sym (bytes_eq-same d) ∙ (ap (bytes_eq d) same ∙ meta_data x.folder p.places.meta_folder p.places.stamp.0 block.0 fits)) in
    let two = pair_two block names x pair in
    let same : d ≡ b = same_second a b c d names apart two (pair_names_are block m names p fits are is) in
    let there : two_files c p.bytes d (header_of p.rule ++ p.stored) d ≡ Some (header_of p.rule ++ p.stored) = second_is c p.bytes d (header_of p.rule ++ p.stored) (data_meta p.places.folder p.places.meta_folder p.places.stamp.0 block.0 fits) in
    let here : m d ≡ Some (header_of p.rule ++ p.stored) =
    sym (there_is m names d are (subst (λ l. Contains names l) (sym same) (contains_second names a b two))) ∙ (ap (λ (f : FileMap). f d) is.files_are ∙ there) in
    let meta_is : meta ≡ header_of p.rule ++ p.stored = some_bytes _ _ (sym is_meta ∙ (ap m (sym same) ∙ here)) in
    none p.rule (record { chunk_fits = is.chunk_fits; front = ap (take 7) meta_is ∙ header_front p.rule p.stored }) where
      second_is : (a x b y : List ℕ) → bytes_eq a b ≡ false → two_files a x b y b ≡ Some y
      second_is a x b y e = let f : bytes_eq b b ≡ true = bytes_eq-same b in rw (e, f) refl

-- a pair that was read
some_pair : (block : BlockId) (m : FileMap) (names : List (List ℕ)) (places : PairPlaces) (bytes meta : List ℕ) (x : ReadPair) → block.0 < 2 ^ 64 → AreNamesOf (without_temporary m) names → ArePair block names places
    → m (data_name places.folder block.0) ≡ Some bytes → m (meta_name places.meta_folder places.stamp.0 block.0) ≡ Some meta → IsReadOf places bytes meta x → IsReadPair block m x
some_pair block m names places bytes meta x fits are pair is_data is_meta read =
    let a = data_name places.folder block.0 in
    let b = meta_name places.meta_folder places.stamp.0 block.0 in
    let two = pair_two block names places pair in
    let p : Pair = record { places = places; rule = x.rule; bytes = bytes; stored = read.stored } in
    let data_there : without_temporary m a ≡ Some bytes = there_is m names a are (contains_first names a b two) ∙ is_data in
    let meta_there : without_temporary m b ≡ Some (header_of x.rule ++ read.stored) = there_is m names b are (contains_second names a b two) ∙ (is_meta ∙ ap Some read.meta_is) in
    record {
      pair = p;
      is_pair = record {
        files_are = λ i q. files_two (without_temporary m) names a bytes b (header_of x.rule ++ read.stored) are two data_there meta_there q i;
        chunk_fits = read.chunk_fits;
        places_are = at_names block pair.0 pair.1 places pair.2;
      };
      at = read.at;
      rule_is = refl;
      all_data = read.all_data;
      all_meta = read.all_meta ∙ (ap length read.meta_is ∙ length-append (header_of x.rule) read.stored);
      kept_is = read.kept_is;
    }

pub block_read : (block : BlockId) (m : FileMap) (names : List (List ℕ)) (places : PairPlaces) (found : Option ReadPair) → block.0 < 2 ^ 64 → AreNamesOf (without_temporary m) names → ArePair block names places
    → ((bytes meta : List ℕ) → m (data_name places.folder block.0) ≡ Some bytes → m (meta_name places.meta_folder places.stamp.0 block.0) ≡ Some meta → ReadsFiles places bytes meta found) → ReadsBlock block m found
block_read block m names places found fits are pair value = by (m (data_name places.folder block.0)) (m (meta_name places.meta_folder places.stamp.0 block.0)) refl refl where
  two : (names ≡ data_name places.folder block.0 ∷ meta_name places.meta_folder places.stamp.0 block.0 ∷ []) ⊎ (names ≡ meta_name places.meta_folder places.stamp.0 block.0 ∷ data_name places.folder block.0 ∷ [])
  two = pair_two block names places pair

  done : (found : Option ReadPair) (bytes meta : List ℕ) → m (data_name places.folder block.0) ≡ Some bytes → m (meta_name places.meta_folder places.stamp.0 block.0) ≡ Some meta → ReadsFiles places bytes meta found → ReadsBlock block m found
  done None bytes meta is_data is_meta none = no_rule block m names places meta fits are pair is_meta none
  done (Some x) bytes meta is_data is_meta read = some_pair block m names places bytes meta x fits are pair is_data is_meta read

  by : (u v : Option (List ℕ)) → m (data_name places.folder block.0) ≡ u → m (meta_name places.meta_folder places.stamp.0 block.0) ≡ v → ReadsBlock block m found
  by None v e f = absurd (no_file _ e (there_some m names _ are (contains_first names _ _ two)))
  by (Some bytes) None e f = absurd (no_file _ f (there_some m names _ are (contains_second names _ _ two)))
  by (Some bytes) (Some meta) e f = done found bytes meta e f (value bytes meta e f)

pub block_is_read : (files : Option FileMap) (block : BlockId) (names : List (List ℕ)) (places : PairPlaces) (r : Result (Option ReadPair) FileError) → block.0 < 2 ^ 64 → IfSome files (λ m. AreNamesOf (without_temporary m) names)
    → ArePair block names places
    → IfOk r (λ found. (m : FileMap) (bytes meta : List ℕ) → files ≡ Some m → m (pair_names block.0 places).«data» ≡ Some bytes → m (pair_names block.0 places).meta ≡ Some meta → ReadsFiles places bytes meta found)
    → IfOk r (λ found. (m : FileMap) → files ≡ Some m → ReadsBlock block m found)
block_is_read files block names places (Err e) fits are pair value = tt
block_is_read files block names places (Ok found) fits are pair value =
    λ m told. block_read block m names places found fits (of_told files m (λ x. AreNamesOf (without_temporary x) names) told are) pair (λ bytes meta is_data is_meta. value m bytes meta told is_data is_meta)

pub no_pair : (files : Option FileMap) (block : BlockId) (names : List (List ℕ)) → block.0 < 2 ^ 64 → IfSome files (λ m. AreNamesOf (without_temporary m) names) → ((x : PairPlaces) → ArePair block names x → ⊥)
    → (m : FileMap) → files ≡ Some m → (p : Pair) → IsPair block m p → ⊥
no_pair files block names fits are none m told = no_names block m names fits (of_told files m (λ x. AreNamesOf (without_temporary x) names) told are) none
