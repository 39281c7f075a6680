-- A block has one pair at most, of which just so many bytes are kept, and of what is kept all is.
use Rattle.std.proofs.Common.{◌≡◌, ◌⊎◌, inl, inr, ℕ, ◌+◌, ◌*◌, ◌^◌, ◌<◌, ◌≤◌, min, Bool, true, false, List, ◌++◌, length, take, refl, sym, ap, ◌∙◌, arith}
use Rattle.std.proofs.lemmas.List.{length-take, length-take-le, take_all}
use Rattle.std.proofs.lemmas.Bool.{cases_lt}
use Rattle.std.specs.Int.{w32, to_be_bytes}
use Rattle.hd_base.specs.FileMaps.{FileMap}
use Rattle.hd_base.specs.SumRules.{Rule}
use Rattle.hd_base.specs.declared.numbers.BlockId.{BlockId}
use Rattle.hd_base.specs.declared.numbers.Stamp.{Stamp}
use Rattle.chunk_sums.specs.Crc.{sum_of}
use Rattle.chunk_sums.specs.Chunks.{sum_count, sums}
use Rattle.meta_file.specs.declared.names.Folder.{Folder}
use Rattle.meta_file.specs.declared.names.Folder.TheVariants.{Rbw, Finalized, Finalized56, Tmp}
use Rattle.meta_file.specs.declared.names.Named.TheVariants.{Body, Sums}
use Rattle.meta_file.specs.Names.{as_read, present_folder}
use Rattle.meta_file.specs.Headers.{header_of}
use Rattle.block_files.specs.Placements.{data_name, meta_name}
use Rattle.replica_model.specs.Plans.{has_sums}
use Rattle.restart_scan.specs.Pairs.{Pair, IsPair}
use Rattle.restart_scan.specs.Kept.{AreKept, IsKeptTo, IsKeptBy, IsKept}
use Rattle.restart_scan.proofs.KeptLemmas.{take_inside, inside}
use Rattle.restart_scan.proofs.FrontLemmas.{HasFront, has_front, front_sums, matching_stored}
use Rattle.restart_scan.proofs.WholeLemmas.{IsPresent, SameSums, these, body_same, sums_same, header_says, stored_says, present_of, printed_sums, sums_stamp}

-- ---- one pair

present_or : (f : Folder) → IsPresent f ⊎ (f ≡ Finalized56)
present_or Rbw = inl refl
present_or Finalized = inl refl
present_or Finalized56 = inr refl
present_or Tmp = inl refl

body_once : (block : BlockId) (f k : Folder) → block.0 < 2 ^ 64 → as_read (Body block f) ≡ Body block f → as_read (Body block k) ≡ Body block k → data_name f block.0 ≡ data_name k block.0 → f ≡ k
body_once block f k fits rf rk e = by (present_or f) (present_or k) where
  by : IsPresent f ⊎ (f ≡ Finalized56) → IsPresent k ⊎ (k ≡ Finalized56) → f ≡ k
  by x (inl h) = body_same block f k fits rf h e
  by (inl h) (inr old) = sym (body_same block k f fits rk h (sym e))
  by (inr older) (inr old) = older ∙ sym old

sums_once : (block : BlockId) (s t : Stamp) (f k : Folder) → block.0 < 2 ^ 64 → s.0 < 2 ^ 64 → t.0 < 2 ^ 64 → as_read (Sums block s f) ≡ Sums block s f → as_read (Sums block t k) ≡ Sums block t k
    → meta_name f s.0 block.0 ≡ meta_name k t.0 block.0 → SameSums s t f k
sums_once block s t f k fits fs ft rf rk e = by (present_or f) (present_or k) where
  turned : SameSums t s k f → SameSums s t f k
  turned x = record { stamp = sym x.stamp; folder = sym x.folder }

  by : IsPresent f ⊎ (f ≡ Finalized56) → IsPresent k ⊎ (k ≡ Finalized56) → SameSums s t f k
  by x (inl h) = sums_same block s t f k fits fs ft rf h e
  by (inl h) (inr old) = turned (sums_same block t s k f fits ft fs rk h (sym e))
  by (inr older) (inr old) = record {
    stamp = sums_stamp block block s t (present_folder f) (present_folder k)
        (present_of (Sums block s f) (Sums block t k) (fits, fs) (fits, ft) (printed_sums block s f ∙ (e ∙ sym (printed_sums block t k))));
    folder = older ∙ sym old;
  }

-- a pair, by all that is known of it
abbrev pub pair_from : Folder → Folder → Stamp → Rule → List ℕ → List ℕ → Pair
pair_from f mf stamp r bytes stored = record { places = record { folder = f; meta_folder = mf; stamp = stamp }; rule = r; bytes = bytes; stored = stored }

pub pair_once : (block : BlockId) (m : FileMap) (p q : Pair) → block.0 < 2 ^ 64 → IsPair block m p → IsPair block m q → p ≡ q
pair_once block m p q fits a b =
    let th = these block m p q.places.folder q.places.meta_folder q.places.stamp.0 q.bytes (header_of q.rule ++ q.stored) fits b.files_are a in
    let x = p.places in
    let y = q.places in
    let folder = body_once block x.folder y.folder fits a.places_are.body_at.read b.places_are.body_at.read th.body in
    let other = sums_once block x.stamp y.stamp x.meta_folder y.meta_folder fits a.places_are.sums_at.stamp_fits b.places_are.sums_at.stamp_fits a.places_are.sums_at.read b.places_are.sums_at.read th.meta in
    let says = stored_says p.rule q.rule p.stored q.stored th.meta_bytes in
    ap (λ k. pair_from k x.meta_folder x.stamp p.rule p.bytes p.stored) folder
    ∙ (ap (λ k. pair_from y.folder k x.stamp p.rule p.bytes p.stored) other.folder
    ∙ (ap (λ s. pair_from y.folder y.meta_folder s p.rule p.bytes p.stored) other.stamp
    ∙ (ap (λ r. pair_from y.folder y.meta_folder y.stamp r p.bytes p.stored) (header_says p.rule q.rule a.chunk_fits b.chunk_fits says.0)
    ∙ (ap (λ l. pair_from y.folder y.meta_folder y.stamp q.rule l p.stored) th.body_bytes
    ∙ ap (pair_from y.folder y.meta_folder y.stamp q.rule q.bytes) says.1))))

-- ---- so many bytes

count_once : (r : Rule) (bytes stored : List ℕ) (m n : ℕ) → AreKept r bytes stored m → AreKept r bytes stored n → m ≡ n
count_once r bytes stored m n a b = elim (cases_lt m n) [
  | inl less ↦ absurd (a.ends (b.matching.considered m less) (b.matching.match_all m less))
  | inr least ↦ elim (cases_lt n m) [
    | inl more ↦ absurd (b.ends (a.matching.considered n more) (a.matching.match_all n more))
    | inr most ↦ omega (arith, least, most)
  ]
]

kept_once_by : (t : Bool) (r : Rule) (bytes stored : List ℕ) (a b : ℕ) → IsKeptBy t r bytes stored a → IsKeptBy t r bytes stored b → a ≡ b
kept_once_by true r bytes stored a b x y = x.2 ∙ (ap (λ n. min (r.chunk * n) (length bytes)) (count_once r bytes stored x.0 y.0 x.1 y.1) ∙ sym y.2)
kept_once_by false r bytes stored a b x y = x ∙ sym y

pub kept_once : (r : Rule) (bytes stored : List ℕ) (a b : ℕ) → IsKept r bytes stored a → IsKept r bytes stored b → a ≡ b
kept_once r bytes stored a b x y = kept_once_by (has_sums r.kind) r bytes stored a b x y

-- ---- of what is kept all is

kept_cut_to : (r : Rule) (bytes stored : List ℕ) (len : ℕ) → 1 ≤ r.chunk → IsKeptTo r bytes stored len → IsKeptTo r (take len bytes) stored len
kept_cut_to r bytes stored len some kept = (
  kept.0,
  record {
    matching = record {
      considered = λ i h. record {
        has_byte = omega (arith, counted, kept.2, (kept.1.matching.considered i h).has_byte, inside i kept.0 r.chunk h, some);
        has_sum = (kept.1.matching.considered i h).has_sum;
      };
      match_all = λ i h. kept.1.matching.match_all i h ∙ ap (λ l. to_be_bytes w32 (sum_of r.kind l)) (sym (take_inside (r.chunk * i) r.chunk len bytes (either i h)));
    };
    ends = λ here same. absurd (omega (arith, here.has_byte, counted, kept.2));
  },
  omega (arith, counted, kept.2),
) where
  counted : length (take len bytes) ≡ min len (length bytes)
  counted = length-take len bytes

  either : (i : ℕ) → i < kept.0 → (r.chunk * i + r.chunk ≤ len) ⊎ (length bytes ≤ len)
  either i h = elim (cases_lt (length bytes) (r.chunk * kept.0)) [
    | inl less ↦ inr (omega (arith, kept.2, less))
    | inr all ↦ inl (omega (arith, kept.2, all, inside i kept.0 r.chunk h))
  ]

kept_cut_by : (t : Bool) (r : Rule) (bytes stored : List ℕ) (len : ℕ) → 1 ≤ r.chunk → IsKeptBy t r bytes stored len → IsKeptBy t r (take len bytes) stored len
kept_cut_by true r bytes stored len some kept = kept_cut_to r bytes stored len some kept
kept_cut_by false r bytes stored len some kept = omega (arith, kept, length-take len bytes)

-- once further bytes are cut off
pub kept_cut : (r : Rule) (bytes stored : List ℕ) (len : ℕ) → 1 ≤ r.chunk → IsKept r bytes stored len → IsKept r (take len bytes) stored len
kept_cut r bytes stored len some kept = kept_cut_by (has_sums r.kind) r bytes stored len some kept

kept_short_to : (r : Rule) (bytes stored : List ℕ) (len m : ℕ) → 1 ≤ r.chunk → m ≤ length stored → length bytes ≤ len → (kept : IsKeptTo r bytes stored len) → m ≡ 4 * kept.0 → IsKeptTo r bytes (take m stored) len
kept_short_to r bytes stored len m some fits all kept is = (
  kept.0,
  record {
    matching = record {
      considered = λ i h. record { has_byte = (kept.1.matching.considered i h).has_byte; has_sum = omega (arith, counted, is, inside i kept.0 4 h) };
      match_all = λ i h. take_inside (4 * i) 4 m stored (inl (omega (arith, is, inside i kept.0 4 h))) ∙ kept.1.matching.match_all i h;
    };
    ends = λ here same. absurd (omega (arith, here.has_byte, all, kept.2));
  },
  kept.2,
) where
  counted : length (take m stored) ≡ m
  counted = length-take-le m stored fits

kept_short_by : (t : Bool) (r : Rule) (bytes stored : List ℕ) (len : ℕ) → 1 ≤ r.chunk → has_sums r.kind ≡ t → length bytes ≤ len → HasFront r bytes stored len → IsKeptBy t r bytes stored len
    → IsKeptBy t r bytes (take (4 * sum_count r.kind len r.chunk r.chunk) stored) len
kept_short_by false r bytes stored len some h all front kept = kept
kept_short_by true r bytes stored len some h all front kept =
    let m = 4 * sum_count r.kind len r.chunk r.chunk in
    let own : take (4 * kept.0) stored ≡ sums r (take (r.chunk * kept.0) bytes) = front_sums r bytes stored kept.0 h some kept.1.matching in
    let lens : take len bytes ≡ take (r.chunk * kept.0) bytes = whole_take len (r.chunk * kept.0) bytes all kept.2 in
    let same : length (take m stored) ≡ length (take (4 * kept.0) stored) = ap length (front.front ∙ (ap (sums r) lens ∙ sym own)) in
    kept_short_to r bytes stored len m some front.count_fits all kept
    (omega (arith, sym (length-take-le m stored front.count_fits) ∙ (same ∙ length-take-le (4 * kept.0) stored (matching_stored r bytes stored kept.0 kept.1.matching)))) where
      whole_take : (len n : ℕ) (bytes : List ℕ) → length bytes ≤ len → len ≡ min n (length bytes) → take len bytes ≡ take n bytes
      whole_take len n bytes all is = take_all len bytes all ∙ sym (take_all n bytes (omega (arith, all, is)))

-- and further sums
pub kept_short : (r : Rule) (bytes stored : List ℕ) (len : ℕ) → 1 ≤ r.chunk → length bytes ≤ len → IsKept r bytes stored len → IsKept r bytes (take (4 * sum_count r.kind len r.chunk r.chunk) stored) len
kept_short r bytes stored len some all kept = kept_short_by (has_sums r.kind) r bytes stored len some refl all (has_front r bytes stored len some kept) kept
