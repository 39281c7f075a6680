-- What is kept has just the sums in front of those that are stored.
use Rattle.std.proofs.Common.{◌≡◌, inl, inr, ℕ, zero, suc, ◌+◌, ◌-◌, ◌*◌, ◌<◌, ◌≤◌, ◌==◌, ◌&&◌, min, Bool, true, false, List, [], ◌++◌, length, take, drop, refl, sym, ap, ◌∙◌, arith}
use Rattle.std.proofs.lemmas.List.{length-append, length-take, length-take-le, length-drop, take-append-drop, take_min, take_all}
use Rattle.std.proofs.lemmas.Bool.{cases_lt}
use Rattle.std.proofs.lemmas.Bool.Decides.{Decides-eqb}
use Rattle.std.proofs.lemmas.Slice.Eq.{bytes_eq-Decides}
use Rattle.std.proofs.Math.Seq.{take-add, take-append_seam, take-append-add, drop-append_seam}
use Rattle.std.specs.Int.{w32, to_be_bytes}
use Rattle.std.specs.Str.{bytes_eq}
use Rattle.hd_base.specs.declared.sum_rule.SumKind.{SumKind}
use Rattle.hd_base.specs.declared.sum_rule.SumKind.TheVariants.{Null, Crc32, Crc32c}
use Rattle.hd_base.specs.SumRules.{Rule}
use Rattle.chunk_sums.specs.Crc.{sum_of}
use Rattle.chunk_sums.specs.Chunks.{chunks, sum_count, flat_sums, sums_of, sums}
use Rattle.chunk_sums.proofs.ChunkLemmas.{chunks-more, length-chunks, length-sums, sums-append, all_summed, all_counted}
use Rattle.meta_file.specs.Headers.{header_of}
use Rattle.replica_model.specs.Sums.{meta_len, meta_of}
use Rattle.replica_model.specs.Plans.{has_sums}
use Rattle.replica_model.proofs.SumLemmas.{sums_nothing}
use Rattle.replica_calls.proofs.GrowthLemmas.{sums_short}
use Rattle.restart_scan.specs.Kept.{chunk_of, stored_sum, IsConsidered, Matches, AreMatching, IsKeptTo, IsKeptBy, IsKept}
use Rattle.restart_scan.proofs.KeptLemmas.{chunk_count, has_sum}

-- ---- the sum of the first chunk

-- stands in front of those of the others
first_sum : (r : Rule) (bytes : List ℕ) → has_sums r.kind ≡ true → 1 ≤ r.chunk → 0 < length bytes → sums r bytes ≡ to_be_bytes w32 (sum_of r.kind (take r.chunk bytes)) ++ sums r (drop r.chunk bytes)
unfolding flat_sums
first_sum r bytes h some here =
    ap (sums_of r.kind) (all_summed r.kind (chunks r.chunk r.chunk bytes) (has_sum r.kind h) ∙ chunks-more r.chunk r.chunk bytes some some here)
    ∙ ap (λ cs. to_be_bytes w32 (sum_of r.kind (take r.chunk bytes)) ++ sums_of r.kind cs) (sym (all_summed r.kind (chunks r.chunk r.chunk (drop r.chunk bytes)) (has_sum r.kind h)))

-- ---- chunks that match

four_more : (n : ℕ) → 4 * suc n ≡ 4 * n + 4
four_more n = omega arith

less : {n : ℕ} (i : ℕ) → i < n → i < suc n
less i h = omega arith

fewer : (r : Rule) (bytes stored : List ℕ) (n : ℕ) → AreMatching r bytes stored (suc n) → AreMatching r bytes stored n
fewer r bytes stored n are = record { considered = λ i h. are.considered i (less i h); match_all = λ i h. are.match_all i (less i h) }

pub front_sums : (r : Rule) (bytes stored : List ℕ) (n : ℕ) → has_sums r.kind ≡ true → 1 ≤ r.chunk → AreMatching r bytes stored n → take (4 * n) stored ≡ sums r (take (r.chunk * n) bytes)
front_sums r bytes stored zero h some are =
    let none : r.chunk * 0 ≡ 0 = omega arith in
    sym (ap (λ k. sums r (take k bytes)) none ∙ sums_nothing r some)
front_sums r bytes stored (suc n) h some are =
    let last = are.considered n (omega arith) in
    let more : r.chunk * suc n ≡ r.chunk * n + r.chunk = omega arith in
    let front = take (r.chunk * n) bytes in
    let chunk = chunk_of r bytes n in
    let chunk_len : length chunk ≡ min r.chunk (length bytes - r.chunk * n) = length-take r.chunk (drop (r.chunk * n) bytes) ∙ ap (λ k. min r.chunk k) (length-drop (r.chunk * n) bytes) in
    let whole : length front ≡ n * r.chunk = length-take-le (r.chunk * n) bytes (omega (arith, last.has_byte)) ∙ omega arith in
    ap (λ k. take k stored) (four_more n)
    ∙ (take-add (4 * n) 4 stored
    ∙ (ap (λ l. l ++ stored_sum stored n) (front_sums r bytes stored n h some (fewer r bytes stored n are))
    ∙ (ap (λ l. sums r front ++ l) (are.match_all n (omega arith) ∙ sym (sums_short r chunk h some (omega (arith, chunk_len, last.has_byte, some)) (omega (arith, chunk_len))))
    ∙ (sym (sums-append r n front chunk some whole)
    ∙ (ap (sums r) (sym (take-add (r.chunk * n) r.chunk bytes)) ∙ ap (λ k. sums r (take k bytes)) (sym more))))))

pub matching_stored : (r : Rule) (bytes stored : List ℕ) (n : ℕ) → AreMatching r bytes stored n → 4 * n ≤ length stored
matching_stored r bytes stored zero are = omega arith
matching_stored r bytes stored (suc n) are = omega (arith, (are.considered n (omega arith)).has_sum)

-- ---- without sums

null_sums : (k : SumKind) (c : ℕ) (bytes : List ℕ) → has_sums k ≡ false → sums (record { kind = k; chunk = c }) bytes ≡ []
unfolding flat_sums
null_sums Null c bytes e = refl
null_sums Crc32 c bytes e = absurd (no e) where
  no : true ≡ false → ⊥
  no e = cc
null_sums Crc32c c bytes e = absurd (no e) where
  no : true ≡ false → ⊥
  no e = cc

-- ---- what is kept

-- The sums of what is kept stand in front.
pub record HasFront (r : Rule) (bytes stored : List ℕ) (len : ℕ) : Type 0 where
  pub within : len ≤ length bytes
  pub count_fits : 4 * sum_count r.kind len r.chunk r.chunk ≤ length stored
  pub front : take (4 * sum_count r.kind len r.chunk r.chunk) stored ≡ sums r (take len bytes)

kept_front : (r : Rule) (bytes stored : List ℕ) (len : ℕ) → has_sums r.kind ≡ true → 1 ≤ r.chunk → IsKeptTo r bytes stored len → HasFront r bytes stored len
kept_front r bytes stored len h some kept =
    let n = kept.0 in
    let are = kept.1.matching in
    let same : take len bytes ≡ take (r.chunk * n) bytes = ap (λ k. take k bytes) kept.2 ∙ take_min (r.chunk * n) bytes in
    let within : len ≤ length bytes = omega (arith, kept.2) in
    let sums_are : take (4 * n) stored ≡ sums r (take len bytes) = front_sums r bytes stored n h some are ∙ ap (sums r) (sym same) in
    let count : 4 * n ≡ 4 * sum_count r.kind len r.chunk r.chunk =
    sym (length-take-le (4 * n) stored (matching_stored r bytes stored n are)) ∙ (ap length sums_are ∙ (length-sums r (take len bytes) some
    ∙ ap (λ k. 4 * sum_count r.kind k r.chunk r.chunk) (length-take-le len bytes within))) in
    record {
      within = within;
      count_fits = omega (arith, count, matching_stored r bytes stored n are);
      front = ap (λ k. take k stored) (sym count) ∙ sums_are;
    }

null_front : (r : Rule) (bytes stored : List ℕ) (len : ℕ) → has_sums r.kind ≡ false → 1 ≤ r.chunk → len ≡ length bytes → HasFront r bytes stored len
null_front r bytes stored len h some all =
    let within : len ≤ length bytes = omega (arith, all) in
    let nothing : sums r (take len bytes) ≡ [] = null_sums r.kind r.chunk (take len bytes) h in
    let count : 0 ≡ 4 * sum_count r.kind len r.chunk r.chunk =
    sym (ap length nothing) ∙ (length-sums r (take len bytes) some ∙ ap (λ k. 4 * sum_count r.kind k r.chunk r.chunk) (length-take-le len bytes within)) in
    record { within = within; count_fits = omega (arith, count); front = ap (λ k. take k stored) (sym count) ∙ sym nothing }

front_by : (t : Bool) (r : Rule) (bytes stored : List ℕ) (len : ℕ) → has_sums r.kind ≡ t → 1 ≤ r.chunk → IsKeptBy t r bytes stored len → HasFront r bytes stored len
front_by true r bytes stored len h some kept = kept_front r bytes stored len h some kept
front_by false r bytes stored len h some kept = null_front r bytes stored len h some kept

pub has_front : (r : Rule) (bytes stored : List ℕ) (len : ℕ) → 1 ≤ r.chunk → IsKept r bytes stored len → HasFront r bytes stored len
has_front r bytes stored len some kept = front_by (has_sums r.kind) r bytes stored len refl some kept

-- The metadata file of what is kept stands in front of the one that is there.
pub meta_front : (r : Rule) (bytes stored : List ℕ) (len : ℕ) → HasFront r bytes stored len → take (meta_len r len) (header_of r ++ stored) ≡ meta_of r (take len bytes)
meta_front r bytes stored len f = take-append-add (header_of r) stored (4 * sum_count r.kind len r.chunk r.chunk) ∙ ap (λ l. header_of r ++ l) f.front

-- ---- all of it

-- the chunk behind some whole ones is the first of what is behind them
next_matches : (r : Rule) (bytes stored : List ℕ) (n : ℕ) → has_sums r.kind ≡ true → 1 ≤ r.chunk → r.chunk * n < length bytes → stored ≡ sums r bytes → IsConsidered r bytes stored n × Matches r bytes stored n
next_matches r bytes stored n h some more same =
    let front = take (r.chunk * n) bytes in
    let rest = drop (r.chunk * n) bytes in
    let whole : length front ≡ n * r.chunk = length-take-le (r.chunk * n) bytes (omega (arith, more)) ∙ omega arith in
    let here : 0 < length rest = omega (arith, length-drop (r.chunk * n) bytes, more) in
    let parts : stored ≡ sums r front ++ sums r rest = same ∙ (ap (sums r) (sym (take-append-drop (r.chunk * n) bytes)) ∙ sums-append r n front rest some whole) in
    let sum = to_be_bytes w32 (sum_of r.kind (take r.chunk rest)) in
    let behind : sums r rest ≡ sum ++ sums r (drop r.chunk rest) = first_sum r rest h some here in
    let counted : length (sums r front) ≡ 4 * n = whole_count r front n h some whole in
    let at : drop (4 * n) stored ≡ sum ++ sums r (drop r.chunk rest) =
    ap (drop (4 * n)) parts ∙ (ap (λ k. drop k (sums r front ++ sums r rest)) (sym counted) ∙ (drop-append_seam (sums r front) (sums r rest) ∙ behind)) in
    let long : length stored ≡ length (sums r front) + length (sums r rest) = ap length parts ∙ length-append (sums r front) (sums r rest) in
    let four : length (sums r rest) ≡ 4 + length (sums r (drop r.chunk rest)) = ap length behind ∙ length-append sum (sums r (drop r.chunk rest)) in (
      record { has_byte = more; has_sum = omega (arith, long, counted, four) },
      ap (take 4) at ∙ take-append_seam sum (sums r (drop r.chunk rest)),
    ) where
      whole_count : (r : Rule) (front : List ℕ) (n : ℕ) → has_sums r.kind ≡ true → 1 ≤ r.chunk → length front ≡ n * r.chunk → length (sums r front) ≡ 4 * n
      whole_count r front n h some whole =
          length-sums r front some ∙ ap (λ k. 4 * k) (all_counted r.kind (length front) r.chunk r.chunk (has_sum r.kind h)
          ∙ (sym (length-chunks r.chunk r.chunk front some some) ∙ chunk_count n r.chunk front some (omega (arith, whole)) (omega (arith, whole, some))))

kept_whole : (r : Rule) (bytes stored : List ℕ) (len : ℕ) → has_sums r.kind ≡ true → 1 ≤ r.chunk → IsKeptTo r bytes stored len → stored ≡ sums r bytes → len ≡ length bytes
kept_whole r bytes stored len h some kept same = elim (cases_lt (r.chunk * kept.0) (length bytes)) [
  | inl more ↦ let next = next_matches r bytes stored kept.0 h some more same in absurd (kept.1.ends next.0 next.1)
  | inr all ↦ omega (arith, kept.2, all)
]

pub whole_by : (t : Bool) (r : Rule) (bytes stored : List ℕ) (len : ℕ) → has_sums r.kind ≡ t → 1 ≤ r.chunk → IsKeptBy t r bytes stored len → stored ≡ sums r bytes → len ≡ length bytes
whole_by true r bytes stored len h some kept same = kept_whole r bytes stored len h some kept same
whole_by false r bytes stored len h some kept same = kept

-- all sums are stored where all bytes are kept, and there are as many
sums_all : (r : Rule) (bytes stored : List ℕ) (len : ℕ) → HasFront r bytes stored len → len ≡ length bytes → 7 + length stored ≡ meta_len r len → stored ≡ sums r bytes
sums_all r bytes stored len f all count =
    sym (take_all (4 * sum_count r.kind len r.chunk r.chunk) stored (omega (arith, count)))
    ∙ (f.front ∙ ap (sums r) (take_all len bytes (omega (arith, all))))

same_tests : (a b : Bool) → (a ≡ true → b ≡ true) → (b ≡ true → a ≡ true) → a ≡ b
same_tests true true p q = refl
same_tests true false p q = sym (p refl)
same_tests false true p q = q refl
same_tests false false p q = refl

and_true : (a b : Bool) → a ≡ true → b ≡ true → (a && b) ≡ true
and_true true b p q = q
and_true false b p q = p

and_left : (a b : Bool) → (a && b) ≡ true → a ≡ true
and_left true b e = refl
and_left false b e = e

and_right : (a b : Bool) → (a && b) ≡ true → b ≡ true
and_right true b e = e
and_right false b e = absurd (no e) where
  no : false ≡ true → ⊥
  no e = cc

-- Whether all is whole shows in the lengths.
pub whole_shows : (r : Rule) (bytes stored : List ℕ) (len data_len stored_len : ℕ) → 1 ≤ r.chunk → IsKept r bytes stored len → data_len ≡ length bytes → stored_len ≡ 7 + length stored
    → (len == data_len && stored_len == meta_len r data_len) ≡ bytes_eq stored (sums r bytes)
whole_shows r bytes stored len data_len stored_len some kept all_data all_stored =
    same_tests (len == data_len && stored_len == meta_len r data_len) (bytes_eq stored (sums r bytes)) onward back where
      onward : (len == data_len && stored_len == meta_len r data_len) ≡ true → bytes_eq stored (sums r bytes) ≡ true
      onward e =
          let lens : len ≡ data_len = (Decides-eqb len data_len).0 (and_left (len == data_len) (stored_len == meta_len r data_len) e) in
          let metas : stored_len ≡ meta_len r data_len = (Decides-eqb stored_len (meta_len r data_len)).0 (and_right (len == data_len) (stored_len == meta_len r data_len) e) in
          (bytes_eq-Decides stored (sums r bytes)).1 (sums_all r bytes stored len (has_front r bytes stored len some kept) (lens ∙ all_data) (sym all_stored ∙ (metas ∙ ap (meta_len r) (sym lens))))

      back : bytes_eq stored (sums r bytes) ≡ true → (len == data_len && stored_len == meta_len r data_len) ≡ true
      back e =
          let same : stored ≡ sums r bytes = (bytes_eq-Decides stored (sums r bytes)).0 e in
          let lens : len ≡ length bytes = whole_by (has_sums r.kind) r bytes stored len refl some kept same in
          let count : length stored ≡ 4 * sum_count r.kind (length bytes) r.chunk r.chunk = ap length same ∙ length-sums r bytes some in
          and_true (len == data_len) (stored_len == meta_len r data_len) ((Decides-eqb len data_len).1 (lens ∙ sym all_data))
          ((Decides-eqb stored_len (meta_len r data_len)).1 (all_stored ∙ (ap (λ k. 7 + k) count ∙ ap (meta_len r) (sym all_data))))
