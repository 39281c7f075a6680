-- What a loss of power leaves of a replica whose files were synced.
use Rattle.std.proofs.Common.{◌≡◌, ◌⊎◌, inl, inr, ℕ, zero, suc, ◌+◌, ◌*◌, ◌/◌, ◌^◌, ◌<◌, ◌≤◌, Bool, true, false, List, ◌++◌, length, take, drop, Option, IfSome, refl, sym, ap, subst, ◌∙◌, arith, append_assoc}
use Rattle.std.specs.Str.{bytes_eq}
use Rattle.std.proofs.lemmas.List.{length-append, length-take, length-take-le, take-take, take_min, take-append-drop}
use Rattle.std.proofs.lemmas.Slice.Eq.{bytes_eq-Decides}
use Rattle.std.proofs.Math.Nat.{mul-div-le}
use Rattle.std.proofs.Math.Seq.{take-add, take-append_seam, drop-append_seam}
use Rattle.hd_base.specs.FileMaps.{FileMap}
use Rattle.hd_base.specs.Calls.{Log, stopped}
use Rattle.hd_base.specs.SumRules.{Rule}
use Rattle.hd_base.specs.declared.numbers.BlockId.{BlockId}
use Rattle.hd_base.specs.declared.numbers.Stamp.{Stamp}
use Rattle.file_calls.specs.Losses.{PowerLost}
use Rattle.chunk_sums.specs.Chunks.{sums}
use Rattle.meta_file.specs.Headers.{header_of}
use Rattle.block_files.specs.Placements.{files_of}
use Rattle.block_files.specs.BlockCalls.{AreAble, calls_of}
use Rattle.replica_core.specs.declared.info.ReplicaInfo.{ReplicaInfo}
use Rattle.replica_model.specs.declared.events.ReplicaEvent.{ReplicaEvent}
use Rattle.replica_model.specs.Sums.{meta_of}
use Rattle.replica_model.specs.Rows.{FullReplica}
use Rattle.replica_model.specs.Plans.{folder_of, has_sums, placed_info, placed_under, placement_of, sync_calls}
use Rattle.replica_model.specs.Found.{Found, IsFront}
use Rattle.restart_scan.specs.Kept.{chunk_of, IsConsidered, Matches, AreMatching, IsKeptTo, IsKeptBy}
use Rattle.restart_scan.specs.Laws.{FindsBlock}
use Rattle.durable_replicas.specs.Fronts.{whole_sums, whole_len}
use Rattle.durable_replicas.specs.Steady.{all_plans, IsSteady, IsKept, synced_calls, later_calls, EndsSynced}
use Rattle.durable_replicas.specs.Losses.{LosesAfter, KeepsChunks, LossesKeepChunks, IsTorn, NoTornMatches, LossesKeepFronts}
use Rattle.durable_replicas.proofs.PlanLemmas.{chunk_size, some_chunk, front_within, plain_folder, plans_fronts, plans_able}
use Rattle.durable_replicas.proofs.ScanLemmas.{Begins, kept_least, FindsKept, finds_kept}
use Rattle.durable_replicas.proofs.LeftLemmas.{LeavesTwo, leaves_two}

-- ---- the files that are left

abbrev stamp_of : ℕ → Stamp
stamp_of g = record { 0 = g }

-- What is found of the files that a loss of power leaves.
record Finds (r : FullReplica) (h : ReplicaInfo) (n : ℕ) (left : FileMap) (found : Option Found) : Type 0 where
  two : LeavesTwo r.known.block.0 n h.sums r.bytes left
  kept : FindsKept r.known.block left h.sums two.bytes two.stored found

finds : (log : Log) (r : FullReplica) (h : ReplicaInfo) (es : List ReplicaEvent) (n : ℕ) (left : FileMap) (found : Option Found) → IsKept r h → EndsSynced r log → n ≤ length r.bytes → IsSteady n r es
    → LosesAfter log r es left → FindsBlock r.known.block left found → Finds r h n left found
finds log r h es n left found kept synced within steady loses f = record { two = two; kept = found_so } where
  b : ℕ
  b = r.known.block.0

  lies : placement_of r ≡ placed_info h r.bytes
  lies = ap (λ (o : Option ReplicaInfo). placed_under o r.bytes) kept.there

  stamp_fits : h.stamp.0 < 2 ^ 64
  stamp_fits = subst (λ (o : Option ReplicaInfo). IfSome o (λ k. k.stamp.0 < 2 ^ 64)) kept.there kept.numbers.stamp_fits

  able : AreAble (placed_info h r.bytes) (all_plans r es)
  able = subst (λ p. AreAble p (all_plans r es)) lies (plans_able n r es kept.full steady).1.able

  lost : PowerLost log.start (synced.before ++ (calls_of b sync_calls (placed_info h r.bytes) ++ stopped loses.k loses.n (calls_of b (all_plans r es) (placed_info h r.bytes)))) left
  lost = subst (λ p. PowerLost log.start (synced.before ++ (calls_of b sync_calls p ++ stopped loses.k loses.n (calls_of b (all_plans r es) p))) left) lies
      (subst (λ l. PowerLost log.start l left) (append_assoc synced.before (synced_calls r) (stopped loses.k loses.n (later_calls r es)))
      (subst (λ l. PowerLost log.start (l ++ stopped loses.k loses.n (later_calls r es)) left) synced.calls loses.lost))

  two : LeavesTwo b n h.sums r.bytes left
  two = leaves_two log.start left synced.before b n loses.k loses.n (folder_of h.original) h.stamp.0 h.sums r.bytes (all_plans r es) kept.numbers.block_fits (some_chunk r h kept) (plain_folder h.original kept.apart) stamp_fits within
      (synced.made ∙ ap (files_of b) lies) (plans_fronts n r h es kept within steady) able lost

  found_so : FindsKept r.known.block left h.sums two.bytes two.stored found
  found_so = subst (λ m. FindsKept r.known.block m h.sums two.bytes two.stored found) (sym two.is)
      (finds_kept r.known.block two.folder two.meta_folder (stamp_of two.stamp) h.sums two.bytes two.stored found kept.numbers.block_fits two.stamp_fits (chunk_size r h kept) two.plain two.meta_plain
      (subst (λ m. FindsBlock r.known.block m found) two.is f))

-- ---- whole chunks

module _ (r : Rule) (b n : ℕ) (written : List ℕ) (left : FileMap) (some : 1 ≤ r.chunk) (within : n ≤ length written) (two : LeavesTwo b n r written left) where
  whole_within : whole_len r n ≤ n
  whole_within = mul-div-le n r.chunk

  begins : has_sums r.kind ≡ true → Begins r (n / r.chunk) two.bytes two.stored written (sums r written)
  begins h = record {
    there = omega (arith, whole_within, two.there);
    stored_there = subst (λ t. 4 * whole_sums t r n ≤ length two.stored) h two.stored_there;
    written_there = omega (arith, whole_within, within);
    sums_there = omega (arith, subst (λ t. 7 + 4 * whole_sums t r n ≤ length (meta_of r written)) h (front_within r written n some within), length-append (header_of r) (sums r written), header);
    same = sym (take-take (whole_len r n) n two.bytes whole_within) ∙ (ap (take (whole_len r n)) two.same ∙ take-take (whole_len r n) n written whole_within);
    same_sums = subst (λ t. take (4 * whole_sums t r n) two.stored ≡ take (4 * whole_sums t r n) (sums r written)) h two.same_sums;
  } where
    header : length (header_of r) ≡ 7
    header = refl

  least_by : (t : Bool) (len : ℕ) → has_sums r.kind ≡ t → IsKeptBy t r two.bytes two.stored len → whole_len r n ≤ len
  least_by true len h kept = kept_least r (n / r.chunk) two.bytes two.stored written (sums r written) some (begins h) true len h refl kept
  least_by false len h kept = omega (arith, kept, two.there, whole_within)

  chunks_kept : (found : Option Found) (block : BlockId) → FindsKept block left r two.bytes two.stored found → KeepsChunks r n written found
  chunks_kept found block f =
      let least : whole_len r n ≤ f.len = least_by (has_sums r.kind) f.len refl f.kept in
      record {
        state = f.state;
        stamp = f.stamp;
        kept = take f.len two.bytes;
        is = f.is;
        least = omega (arith, length-take f.len two.bytes, least, whole_within, two.there);
        same = take-take (whole_len r n) f.len two.bytes least
            ∙ (sym (take-take (whole_len r n) n two.bytes whole_within) ∙ (ap (take (whole_len r n)) two.same ∙ take-take (whole_len r n) n written whole_within));
      }

pub losses_keep_chunks : LossesKeepChunks
losses_keep_chunks log r h es n left found kept synced within steady loses f =
    let x = finds log r h es n left found kept synced within steady loses f in
    chunks_kept h.sums r.known.block.0 n r.bytes left (some_chunk r h kept) within x.two found r.known.block x.kept

-- ---- fronts

-- A list is a front of another, or isn't.
front_or : (xs ys : List ℕ) → IsFront xs ys ⊎ (IsFront xs ys → ⊥)
front_or xs ys = by (bytes_eq (take (length xs) ys) xs) refl where
  true_false : true ≡ false → ⊥
  true_false e = cc

  by : (t : Bool) → bytes_eq (take (length xs) ys) xs ≡ t → IsFront xs ys ⊎ (IsFront xs ys → ⊥)
  by true e = inl (drop (length xs) ys, ap (λ l. l ++ drop (length xs) ys) (sym ((bytes_eq-Decides (take (length xs) ys) xs).0 e)) ∙ take-append-drop (length xs) ys)
  by false e = inr (λ front. true_false (sym ((bytes_eq-Decides (take (length xs) ys) xs).1 (ap (take (length xs)) (sym front.1) ∙ take-append_seam xs front.0)) ∙ e))

module _ (r : Rule) (bytes stored written : List ℕ) (some : 1 ≤ r.chunk) (untorn : (i : ℕ) → IsConsidered r bytes stored i → IsTorn r bytes written i → Matches r bytes stored i → ⊥) where
  chunk_front : (i : ℕ) → IsConsidered r bytes stored i → Matches r bytes stored i → IsFront (chunk_of r bytes i) (chunk_of r written i)
  chunk_front i here m = elim (front_or (chunk_of r bytes i) (chunk_of r written i)) [ inl front ↦ front | inr torn ↦ absurd (untorn i here torn m) ]

  -- so many chunks that match are a front
  fronts : (n : ℕ) → AreMatching r bytes stored n → IsFront (take (r.chunk * n) bytes) written
  fronts zero are = (written, ap (λ k. take k bytes ++ written) none) where
    none : r.chunk * 0 ≡ 0
    none = omega arith
  fronts (suc n) are =
      let here = are.considered n (omega arith) in
      let before = fronts n (record { considered = λ i k. are.considered i (omega (arith, k)); match_all = λ i k. are.match_all i (omega (arith, k)) }) in
      let a = take (r.chunk * n) bytes in
      let next = chunk_of r bytes n in
      let chunk = chunk_front n here (are.match_all n (omega arith)) in
      let long : length a ≡ r.chunk * n = length-take-le (r.chunk * n) bytes (omega (arith, here.has_byte)) in
      let behind : drop (r.chunk * n) written ≡ before.0 = ap (λ l. drop (r.chunk * n) l) (sym before.1) ∙ (ap (λ k. drop k (a ++ before.0)) (sym long) ∙ drop-append_seam a before.0) in
      let rest = chunk.0 ++ drop r.chunk before.0 in
      let more : r.chunk * suc n ≡ r.chunk * n + r.chunk = omega arith in
      let parts : next ++ rest ≡ before.0 =
      sym (append_assoc next chunk.0 (drop r.chunk before.0)) ∙ (ap (λ l. l ++ drop r.chunk before.0) (chunk.1 ∙ ap (take r.chunk) behind) ∙ take-append-drop r.chunk before.0) in (
        rest,
        ap (λ k. take k bytes ++ rest) more ∙ (ap (λ l. l ++ rest) (take-add (r.chunk * n) r.chunk bytes) ∙ (append_assoc a next rest ∙ (ap (λ l. a ++ l) parts ∙ before.1))),
      )

  kept_front : (len : ℕ) → IsKeptTo r bytes stored len → IsFront (take len bytes) written
  kept_front len kept = subst (λ l. IsFront l written) (sym (ap (λ k. take k bytes) kept.2 ∙ take_min (r.chunk * kept.0) bytes)) (fronts kept.0 kept.1.matching)

-- No torn chunk of the pair that is found matches.
untorn_pair : (block : BlockId) (left : FileMap) (r : Rule) (bytes stored written : List ℕ) (found : Option Found) → FindsKept block left r bytes stored found → NoTornMatches block left written
    → (i : ℕ) → IsConsidered r bytes stored i → IsTorn r bytes written i → Matches r bytes stored i → ⊥
untorn_pair block left r bytes stored written found f none =
    let Untorn : Rule → List ℕ → List ℕ → Type 0 = λ q x y. (i : ℕ) → IsConsidered q x y i → IsTorn q x written i → Matches q x y i → ⊥ in
    subst (λ q. Untorn q bytes stored) f.rule_is (subst (λ x. Untorn f.pair.rule x stored) f.bytes_are (subst (λ y. Untorn f.pair.rule f.pair.bytes y) f.stored_are (λ i. none f.pair i f.is_pair)))

pub losses_keep_fronts : LossesKeepFronts
losses_keep_fronts log r h es n left found written kept synced within steady loses summed none f =
    let x = finds log r h es n left found kept synced within steady loses f in
    let k = x.kept in
    let to : IsKeptTo h.sums x.two.bytes x.two.stored k.len = subst (λ t. IsKeptBy t h.sums x.two.bytes x.two.stored k.len) summed k.kept in
    record {
      state = k.state;
      stamp = k.stamp;
      kept = take k.len x.two.bytes;
      is = k.is;
      front = kept_front h.sums x.two.bytes x.two.stored written (some_chunk r h kept) (untorn_pair r.known.block left h.sums x.two.bytes x.two.stored written found k none) k.len to;
    }
