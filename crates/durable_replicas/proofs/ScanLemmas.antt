-- What is found of files that begin with some bytes and the sums of their whole chunks.
use Rattle.std.proofs.Common.{◌≡◌, ◌⊎◌, inl, inr, ℕ, ◌+◌, ◌*◌, ◌^◌, ◌<◌, ◌≤◌, min, Bool, true, false, List, ◌++◌, length, take, drop, Option, Some, None, refl, sym, ap, subst, ◌∙◌, arith}
use Rattle.std.proofs.lemmas.Bool.{cases_lt}
use Rattle.std.proofs.Math.Nat.{mul-le-mul_left}
use Rattle.std.specs.Int.{w32, to_be_bytes}
use Rattle.hd_base.specs.FileMaps.{FileMap}
use Rattle.hd_base.specs.SumRules.{Rule, IsChunkSize}
use Rattle.hd_base.specs.declared.numbers.BlockId.{BlockId}
use Rattle.hd_base.specs.declared.numbers.Stamp.{Stamp}
use Rattle.hd_base.specs.declared.states.ReplicaState.{ReplicaState}
use Rattle.chunk_sums.specs.Crc.{sum_of}
use Rattle.chunk_sums.specs.Chunks.{sums}
use Rattle.meta_file.specs.declared.names.Folder.{Folder}
use Rattle.meta_file.specs.Headers.{header_of}
use Rattle.block_files.specs.Placements.{Both, files_of, data_name, meta_name}
use Rattle.replica_model.specs.Plans.{has_sums}
use Rattle.replica_model.specs.Found.{Found, found_as, IsWaiting}
use Rattle.restart_scan.specs.Pairs.{Pair, IsPair}
use Rattle.restart_scan.specs.Kept.{chunk_of, stored_sum, IsConsidered, Matches, AreKept, IsKeptBy, IsKept}
use Rattle.restart_scan.specs.Blocks.{state_of}
use Rattle.restart_scan.specs.Laws.{FindsBlock, finds, finds_none, IsFoundFinal}
use Rattle.restart_scan.specs.Laws as laws
use Rattle.restart_scan.proofs.ReadLemmas.{two_files}
use Rattle.restart_scan.proofs.KeptLemmas.{take_inside, inside}
use Rattle.restart_scan.proofs.FrontLemmas.{whole_by}
use Rattle.restart_scan.proofs.WholeLemmas.{IsPlain, plain_rbw, plain_final, two_stay, these, stored_says, header_says, two_files_are_found}

-- ---- chunks inside a front

pub same_inside : (a c m : ℕ) (xs ys : List ℕ) → a + c ≤ m → take m xs ≡ take m ys → take c (drop a xs) ≡ take c (drop a ys)
same_inside a c m xs ys within e = sym (take_inside a c m xs (inl within)) ∙ (ap (λ l. take c (drop a l)) e ∙ take_inside a c m ys (inl within))

-- The files begin with these bytes and these sums: the first s chunks, and their sums.
pub record Begins (r : Rule) (s : ℕ) (bytes stored written sums_written : List ℕ) : Type 0 where
  pub there : r.chunk * s ≤ length bytes
  pub stored_there : 4 * s ≤ length stored
  pub written_there : r.chunk * s ≤ length written
  pub sums_there : 4 * s ≤ length sums_written
  pub same : take (r.chunk * s) bytes ≡ take (r.chunk * s) written
  pub same_sums : take (4 * s) stored ≡ take (4 * s) sums_written

module _ (r : Rule) (s : ℕ) (bytes stored written sums_written : List ℕ) (some : 1 ≤ r.chunk) (b : Begins r s bytes stored written sums_written) where
  chunk_same : (i : ℕ) → i < s → chunk_of r bytes i ≡ chunk_of r written i
  chunk_same i h = same_inside (r.chunk * i) r.chunk (r.chunk * s) bytes written (inside i s r.chunk h) b.same

  sum_same : (i : ℕ) → i < s → stored_sum stored i ≡ stored_sum sums_written i
  sum_same i h = same_inside (4 * i) 4 (4 * s) stored sums_written (inside i s 4 h) b.same_sums

  here : (i : ℕ) → i < s → IsConsidered r bytes stored i
  here i h = record { has_byte = omega (arith, inside i s r.chunk h, some, b.there); has_sum = omega (arith, inside i s 4 h, b.stored_there) }

  written_here : (i : ℕ) → i < s → IsConsidered r written sums_written i
  written_here i h = record { has_byte = omega (arith, inside i s r.chunk h, some, b.written_there); has_sum = omega (arith, inside i s 4 h, b.sums_there) }

  onward : (i : ℕ) → i < s → Matches r bytes stored i → Matches r written sums_written i
  onward i h m = sym (sum_same i h) ∙ (m ∙ ap (λ l. to_be_bytes w32 (sum_of r.kind l)) (chunk_same i h))

  back : (i : ℕ) → i < s → Matches r written sums_written i → Matches r bytes stored i
  back i h m = sum_same i h ∙ (m ∙ ap (λ l. to_be_bytes w32 (sum_of r.kind l)) (sym (chunk_same i h)))

  -- what is kept of the files would else be kept of what was written, whose sums all match
  kept_here : (n : ℕ) → has_sums r.kind ≡ true → sums_written ≡ sums r written → AreKept r bytes stored n → n < s → ⊥
  kept_here n h whole kept less =
      let all : min (r.chunk * n) (length written) ≡ length written = whole_by true r written sums_written (min (r.chunk * n) (length written)) h some (n, own, refl) whole in
      omega (arith, all, inside n s r.chunk less, some, b.written_there) where
        less_too : (i : ℕ) → i < n → i < s
        less_too i k = omega (arith, k, less)

        own : AreKept r written sums_written n
        own = record {
          matching = record {
            considered = λ i k. written_here i (less_too i k);
            match_all = λ i k. onward i (less_too i k) (kept.matching.match_all i k);
          };
          ends = λ _ m. kept.ends (here n less) (back n less m);
        }

  pub kept_least : (t : Bool) (len : ℕ) → has_sums r.kind ≡ t → sums_written ≡ sums r written → IsKeptBy t r bytes stored len → r.chunk * s ≤ len
  kept_least false len h whole kept = omega (arith, kept, b.there)
  kept_least true len h whole kept = elim (cases_lt kept.0 s) [
    | inl less ↦ absurd (kept_here kept.0 h whole kept.1 less)
    | inr least ↦ omega (arith, kept.2, b.there, rises kept.0 least)
  ] where
    rises : (n : ℕ) → s ≤ n → r.chunk * s ≤ r.chunk * n
    rises n least = mul-le-mul_left r.chunk least

-- ---- what is found

plain_in : (block : BlockId) (f : Folder) (stamp : Stamp) → laws.IsPlain f → IsPlain block f stamp
plain_in block f stamp (inl e) = subst (λ q. IsPlain block q stamp) (sym e) (plain_rbw block stamp)
plain_in block f stamp (inr e) = subst (λ q. IsPlain block q stamp) (sym e) (plain_final block stamp)

-- A replica is found under this rule, with so many of the bytes as are kept.
pub record FindsKept (block : BlockId) (files : FileMap) (r : Rule) (bytes stored : List ℕ) (found : Option Found) : Type 0 where
  pub state : ReplicaState
  pub stamp : Stamp
  pub len : ℕ
  pub kept : IsKept r bytes stored len
  pub is : found ≡ found_as state stamp r (take len bytes)
  pub pair : Pair
  pub is_pair : IsPair block files pair
  pub rule_is : pair.rule ≡ r
  pub bytes_are : pair.bytes ≡ bytes
  pub stored_are : pair.stored ≡ stored

nothing_waits : (stamp : Stamp) (f mf : Folder) (r : Rule) (bytes stored : List ℕ) → IsWaiting None stamp r bytes ⊎ IsFoundFinal f mf stamp r bytes stored None → ⊥
nothing_waits stamp f mf r bytes stored (inl w) = nothing_is _ w.1 where
  nothing_is : (x : Found) → ◌≡◌ {A = Option Found} None (Some x) → ⊥
  nothing_is x e = cc
nothing_waits stamp f mf r bytes stored (inr w) = nothing_is _ w.all where
  nothing_is : (x : Found) → ◌≡◌ {A = Option Found} None (Some x) → ⊥
  nothing_is x e = cc

pub finds_kept : (block : BlockId) (f mf : Folder) (stamp : Stamp) (r : Rule) (bytes stored : List ℕ) (found : Option Found) → block.0 < 2 ^ 64 → stamp.0 < 2 ^ 64 → IsChunkSize r.chunk → laws.IsPlain f → laws.IsPlain mf
    → FindsBlock block (files_of block.0 (Both f bytes mf stamp.0 (header_of r ++ stored))) found → FindsKept block (files_of block.0 (Both f bytes mf stamp.0 (header_of r ++ stored))) r bytes stored found
finds_kept block f mf stamp r bytes stored found fits stamp_fits size plain other (finds_none none) =
    absurd (nothing_waits stamp f mf r bytes stored (two_files_are_found block f mf stamp r bytes stored None fits stamp_fits size plain other (finds_none none)))
finds_kept block f mf stamp r bytes stored found fits stamp_fits size plain other (finds p len is kept) =
    let b = block.0 in
    let a = plain_in block f stamp plain in
    let c = plain_in block mf stamp other in
    let th = these block (two_files (data_name f b) bytes (meta_name mf stamp.0 b) (header_of r ++ stored)) p f mf stamp.0 bytes (header_of r ++ stored) fits
    (two_stay (data_name f b) bytes (meta_name mf stamp.0 b) (header_of r ++ stored) a.body_apart c.sums_apart) is in
    let says = stored_says p.rule r p.stored stored th.meta_bytes in
    let rule : p.rule ≡ r = header_says p.rule r is.chunk_fits size says.0 in
    record {
      state = state_of p;
      stamp = p.places.stamp;
      len = len;
      kept = subst (λ q. IsKept q bytes stored len) rule (subst (λ l. IsKept p.rule l stored len) th.body_bytes (subst (λ l. IsKept p.rule p.bytes l len) says.1 kept));
      is = ap (λ q. found_as (state_of p) p.places.stamp q (take len p.bytes)) rule ∙ ap (λ l. found_as (state_of p) p.places.stamp r (take len l)) th.body_bytes;
      pair = p;
      is_pair = is;
      rule_is = rule;
      bytes_are = th.body_bytes;
      stored_are = says.1;
    }
