-- What the calls of a plan make of where the files of a replica lie.
use Rattle.std.proofs.Common.{◌≡◌, ◌==◌, ℕ, ◌%◌, ◌<◌, ◌≤◌, ◌&&◌, not, nat_lt, Bool, true, false, List, [], ◌∷◌, ◌++◌, length, take, append-nil, refl, sym, ap, subst, ◌∙◌, arith}
use Rattle.std.proofs.lemmas.List.{length-take-le, take_all}
use Rattle.std.proofs.lemmas.Grind.{common_steps}
use Rattle.std.proofs.lemmas.Bool.Decides.{nat_tests}
use Rattle.hd_base.specs.SumRules.{Rule}
use Rattle.hd_base.specs.FileMaps.{overwritten}
use Rattle.hd_base.proofs.FileLaws.{overwritten-end}
use Rattle.chunk_sums.specs.Chunks.{sums}
use Rattle.meta_file.specs.declared.names.Folder.{Folder}
use Rattle.meta_file.specs.declared.names.Folder.TheVariants.{Rbw, Finalized, Finalized56, Tmp}
use Rattle.meta_file.specs.Headers.{header_of}
use Rattle.block_files.specs.Placements.{Placement, Nowhere, Both}
use Rattle.block_files.specs.BlockCalls.{BlockCall, MakeData, MakeMeta, WriteData, WriteMeta, CutData, CutMeta, MoveData, MoveMeta, placed, all_placed, IsAble, AreAble}
use Rattle.replica_model.specs.Sums.{tail, sum_place, meta_len, meta_of}
use Rattle.replica_model.specs.Plans.{when, has_sums, grow_calls, sync_calls, packet_calls, last_sum_calls, cut_calls, same_folder, move_calls}
use Rattle.replica_model.proofs.SumLemmas.{meta_grows, meta_null, len_null, meta_cut_short, meta_cut_whole, sum_within, length_cut_short, length_meta, sums_nothing}

-- The calls find their files, and lead from the one place to the other.
pub record Leads (from : Placement) (calls : List BlockCall) (to : Placement) : Type 0 where
  pub able : AreAble from calls
  pub there : all_placed calls from ≡ to

pub leads_nowhere : (p : Placement) → Leads p [] p
leads_nowhere p = record { able = tt; there = refl }

pub leads_one : (p : Placement) (call : BlockCall) (q : Placement) → IsAble p call → placed call p ≡ q → Leads p (call ∷ []) q
leads_one p call q able there = record { able = (able, tt); there = there }

pub leads_cons : (p : Placement) (call : BlockCall) (calls : List BlockCall) (q s : Placement) → IsAble p call → placed call p ≡ q → Leads q calls s → Leads p (call ∷ calls) s
leads_cons p call calls q s able there rest = record {
  able = (able, subst (λ x. AreAble x calls) (sym there) rest.able);
  there = ap (all_placed calls) there ∙ rest.there;
}

pub leads_append : (first rest : List BlockCall) (p q s : Placement) → Leads p first q → Leads q rest s → Leads p (first ++ rest) s
leads_append [] rest p q s a b = subst (λ x. Leads x rest s) (sym a.there) b
leads_append (call ∷ first) rest p q s a b =
    let later = leads_append first rest (placed call p) q s (record { able = a.able.1; there = a.there }) b in
    record { able = (a.able.0, later.able); there = later.there }

-- The calls lead to another place that is the same.
pub leads_to : (p : Placement) (calls : List BlockCall) (q s : Placement) → q ≡ s → Leads p calls q → Leads p calls s
leads_to p calls q s e a = record { able = a.able; there = a.there ∙ e }

-- Calls where a test holds.
pub leads_when : (test : Bool) (calls : List BlockCall) (p q : Placement) → (test ≡ true → Leads p calls q) → (test ≡ false → p ≡ q) → Leads p (when test calls) q
leads_when test calls p q holds fails =
    elim test as (λ b. test ≡ b → Leads p (when b calls) q) [
      | true ↦ λ here. holds here
      | false ↦ λ here. leads_to p [] p q (fails here) (leads_nowhere p)
    ] refl

-- ---- syncs and moves

pub leads_sync : (f mf : Folder) (d m : List ℕ) (g : ℕ) → Leads (Both f d mf g m) sync_calls (Both f d mf g m)
leads_sync f mf d m g = record { able = (tt, (tt, tt)); there = refl }

true_false : true ≡ false → ⊥
true_false e = cc

same_is : (f k : Folder) → same_folder f k ≡ true → f ≡ k
same_is Rbw Rbw e = refl
same_is Finalized Finalized e = refl
same_is Finalized56 Finalized56 e = refl
same_is Tmp Tmp e = refl
same_is Rbw Finalized e = absurd (true_false (sym e))
same_is Rbw Finalized56 e = absurd (true_false (sym e))
same_is Rbw Tmp e = absurd (true_false (sym e))
same_is Finalized Rbw e = absurd (true_false (sym e))
same_is Finalized Finalized56 e = absurd (true_false (sym e))
same_is Finalized Tmp e = absurd (true_false (sym e))
same_is Finalized56 Rbw e = absurd (true_false (sym e))
same_is Finalized56 Finalized e = absurd (true_false (sym e))
same_is Finalized56 Tmp e = absurd (true_false (sym e))
same_is Tmp Rbw e = absurd (true_false (sym e))
same_is Tmp Finalized e = absurd (true_false (sym e))
same_is Tmp Finalized56 e = absurd (true_false (sym e))

same_stamp : (g h : ℕ) → (g == h) ≡ true → g ≡ h
same_stamp g h e = grind (arith, common_steps, nat_tests)

both_same : (f k : Folder) (d m : List ℕ) (g h : ℕ) → f ≡ k → g ≡ h → Both f d f g m ≡ Both k d k h m
both_same f k d m g h e s = ap (λ x. Both x d x g m) e ∙ ap (λ x. Both k d k x m) s

both_there : (f k : Folder) (d m : List ℕ) (g h : ℕ) → not (same_folder f k && g == h) ≡ false → Both f d f g m ≡ Both k d k h m
both_there f k d m g h e =
    let folder : same_folder f k ≡ true = grind (arith, common_steps) in
    let stamp : (g == h) ≡ true = grind (arith, common_steps) in
    both_same f k d m g h (same_is f k folder) (same_stamp g h stamp)

-- Files that lie in one folder are moved to another, under another stamp, but for what is there already.
pub leads_move : (f k : Folder) (d m : List ℕ) (g h : ℕ) → Leads (Both f d f g m) (move_calls f g k h) (Both k d k h m)
leads_move f k d m g h =
    leads_append _ _ (Both f d f g m) (Both f d k h m) (Both k d k h m)
    (leads_when (not (same_folder f k && g == h)) (MoveMeta k h ∷ []) (Both f d f g m) (Both f d k h m)
    (λ moves. leads_one (Both f d f g m) (MoveMeta k h) (Both f d k h m) tt refl)
    (λ stays. both_there f k d m g h stays ∙ sym (data_there stays)))
    (leads_when (not (same_folder f k)) (MoveData k ∷ []) (Both f d k h m) (Both k d k h m)
    (λ moves. leads_one (Both f d k h m) (MoveData k) (Both k d k h m) tt refl)
    (λ stays. ap (λ x. Both x d k h m) (same_is f k (folder_stays stays)))) where
      folder_stays : not (same_folder f k) ≡ false → same_folder f k ≡ true
      folder_stays e = grind (arith, common_steps)

      data_there : not (same_folder f k && g == h) ≡ false → Both f d k h m ≡ Both k d k h m
      data_there e =
          let folder : same_folder f k ≡ true = grind (arith, common_steps) in
          ap (λ x. Both x d k h m) (same_is f k folder)

-- ---- bytes that grow

pub leads_grow : (r : Rule) (bytes more : List ℕ) (f mf : Folder) (g : ℕ) → 1 ≤ r.chunk → 0 < length more
    → Leads (Both f bytes mf g (meta_of r bytes)) (grow_calls r bytes more) (Both f (bytes ++ more) mf g (meta_of r (bytes ++ more)))
leads_grow r bytes more f mf g some grown =
    let longer : overwritten bytes (length bytes) more ≡ bytes ++ more = overwritten-end bytes more in
    leads_cons (Both f bytes mf g (meta_of r bytes)) (WriteData (length bytes) more) _ (Both f (bytes ++ more) mf g (meta_of r bytes)) (Both f (bytes ++ more) mf g (meta_of r (bytes ++ more)))
    (omega arith) (ap (λ x. Both f x mf g (meta_of r bytes)) longer)
    (leads_when (has_sums r.kind) (WriteMeta (sum_place r (length bytes)) (sums r (tail r bytes ++ more)) ∷ []) (Both f (bytes ++ more) mf g (meta_of r bytes)) (Both f (bytes ++ more) mf g (meta_of r (bytes ++ more)))
    (λ h. leads_one (Both f (bytes ++ more) mf g (meta_of r bytes)) (WriteMeta (sum_place r (length bytes)) (sums r (tail r bytes ++ more))) (Both f (bytes ++ more) mf g (meta_of r (bytes ++ more)))
    (let at : sum_place r (length bytes) ≤ length (meta_of r bytes) = sum_within r bytes (length bytes) h some (omega arith) in at)
    (ap (λ x. Both f (bytes ++ more) mf g x) (meta_grows r bytes more h some grown)))
    (λ h. ap (λ x. Both f (bytes ++ more) mf g x) (meta_null r bytes (bytes ++ more) h)))

no_more : (more : List ℕ) → nat_lt 0 (length more) ≡ false → more ≡ []
no_more [] e = refl
no_more (b ∷ more) e = absurd (true_false (sym (grind_some b more) ∙ e)) where
  grind_some : (b : ℕ) (more : List ℕ) → nat_lt 0 (length (b ∷ more)) ≡ true
  grind_some b more = grind (arith, common_steps, nat_tests)

some_more : (n : ℕ) → nat_lt 0 n ≡ true → 0 < n
some_more n e = grind (arith, common_steps, nat_tests)

pub leads_packet : (r : Rule) (bytes more : List ℕ) (sync : Bool) (f : Folder) (g : ℕ) → 1 ≤ r.chunk
    → Leads (Both f bytes f g (meta_of r bytes)) (packet_calls r bytes more sync) (Both f (bytes ++ more) f g (meta_of r (bytes ++ more)))
leads_packet r bytes more sync f g some =
    let before = Both f bytes f g (meta_of r bytes) in
    let after = Both f (bytes ++ more) f g (meta_of r (bytes ++ more)) in
    leads_append (when (nat_lt 0 (length more)) (grow_calls r bytes more)) (when sync sync_calls) before after after
    (leads_when (nat_lt 0 (length more)) (grow_calls r bytes more) before after
    (λ grown. leads_grow r bytes more f f g some (some_more (length more) grown))
    (λ none. ap (λ x. Both f x f g (meta_of r x)) (sym (ap (λ l. bytes ++ l) (no_more more none) ∙ append-nil bytes))))
    (leads_when sync sync_calls after after (λ h. leads_sync f f (bytes ++ more) (meta_of r (bytes ++ more)) g) (λ h. refl))

-- ---- bytes that are cut

not_less : (n m : ℕ) → nat_lt n m ≡ false → m ≤ n
not_less n m e = grind (arith, common_steps, nat_tests)

is_less : (n m : ℕ) → nat_lt n m ≡ true → n < m
is_less n m e = grind (arith, common_steps, nat_tests)

-- The metadata file is cut, where it is longer.
leads_cut_meta : (r : Rule) (n len : ℕ) (f mf : Folder) (g : ℕ) (d m left : List ℕ) → length m ≡ len → take (meta_len r n) m ≡ left
    → Leads (Both f d mf g m) (when (nat_lt (meta_len r n) len) (CutMeta (meta_len r n) ∷ [])) (Both f d mf g left)
leads_cut_meta r n len f mf g d m left is_len is_left =
    leads_when (nat_lt (meta_len r n) len) (CutMeta (meta_len r n) ∷ []) (Both f d mf g m) (Both f d mf g left)
    (λ longer. leads_one (Both f d mf g m) (CutMeta (meta_len r n)) (Both f d mf g left)
    (let within : meta_len r n ≤ length m = omega (arith, is_less (meta_len r n) len longer, is_len) in within) (ap (Both f d mf g) is_left))
    (λ same. ap (Both f d mf g) (sym (take_all (meta_len r n) m (omega (arith, not_less (meta_len r n) len same, is_len))) ∙ is_left))

even_chunk : (n c : ℕ) → not (n % c == 0) ≡ false → n % c ≡ 0
even_chunk n c e = grind (arith, common_steps, nat_tests)

pub leads_cut : (r : Rule) (bytes : List ℕ) (n : ℕ) (f mf : Folder) (g : ℕ) → 1 ≤ r.chunk → n ≤ length bytes
    → Leads (Both f bytes mf g (meta_of r bytes)) (cut_calls r bytes n) (Both f (take n bytes) mf g (meta_of r (take n bytes)))
leads_cut r bytes n f mf g some within =
    leads_when (nat_lt n (length bytes)) _ (Both f bytes mf g (meta_of r bytes)) (Both f (take n bytes) mf g (meta_of r (take n bytes)))
    (λ less. leads_cons (Both f bytes mf g (meta_of r bytes)) (CutData n) _ (Both f (take n bytes) mf g (meta_of r bytes)) (Both f (take n bytes) mf g (meta_of r (take n bytes))) within refl (rest less))
    (λ all. ap (λ x. Both f x mf g (meta_of r x)) (sym (take_all n bytes (not_less n (length bytes) all)))) where
      cut_meta : List BlockCall
      cut_meta = when (nat_lt (meta_len r n) (meta_len r (length bytes))) (CutMeta (meta_len r n) ∷ [])

      len : length (take n bytes) ≡ n
      len = length-take-le n bytes within

      written : Bool → List BlockCall
      written b = when b (WriteMeta (sum_place r (length (take n bytes))) (sums r (tail r (take n bytes))) ∷ [])

      short_chunk : has_sums r.kind ≡ true → n < length bytes → Leads (Both f (take n bytes) mf g (meta_of r bytes)) (written true ++ cut_meta) (Both f (take n bytes) mf g (meta_of r (take n bytes)))
      short_chunk h less =
          let z = sums r (tail r (take n bytes)) in
          let m = overwritten (meta_of r bytes) (sum_place r n) z in
          let here : sum_place r (length (take n bytes)) ≡ sum_place r n = ap (sum_place r) len in
          let at : sum_place r (length (take n bytes)) ≤ length (meta_of r bytes) = omega (arith, here, sum_within r bytes n h some within) in
          leads_cons (Both f (take n bytes) mf g (meta_of r bytes)) (WriteMeta (sum_place r (length (take n bytes))) z) cut_meta (Both f (take n bytes) mf g m) (Both f (take n bytes) mf g (meta_of r (take n bytes)))
          at (ap (λ x. Both f (take n bytes) mf g (overwritten (meta_of r bytes) x z)) here)
          (leads_cut_meta r n (meta_len r (length bytes)) f mf g (take n bytes) m (meta_of r (take n bytes)) (length_cut_short r bytes n h some less ∙ length_meta r bytes some) (meta_cut_short r bytes n h some within))

      chunks_summed : has_sums r.kind ≡ true → n < length bytes → Leads (Both f (take n bytes) mf g (meta_of r bytes)) (written (not (length (take n bytes) % r.chunk == 0)) ++ cut_meta) (Both f (take n bytes) mf g (meta_of r (take n bytes)))
      chunks_summed h less =
          elim (not (length (take n bytes) % r.chunk == 0)) as (λ b. not (length (take n bytes) % r.chunk == 0) ≡ b → Leads (Both f (take n bytes) mf g (meta_of r bytes)) (written b ++ cut_meta) (Both f (take n bytes) mf g (meta_of r (take n bytes)))) [
            | true ↦ λ short. short_chunk h less
            | false ↦ λ even.
                leads_cut_meta r n (meta_len r (length bytes)) f mf g (take n bytes) (meta_of r bytes) (meta_of r (take n bytes)) (length_meta r bytes some)
                (meta_cut_whole r bytes n some within (ap (λ x. x % r.chunk) (sym len) ∙ even_chunk (length (take n bytes)) r.chunk even))
          ] refl

      rest : nat_lt n (length bytes) ≡ true → Leads (Both f (take n bytes) mf g (meta_of r bytes)) (last_sum_calls r (take n bytes) ++ cut_meta) (Both f (take n bytes) mf g (meta_of r (take n bytes)))
      rest less =
          elim (has_sums r.kind) as (λ b. has_sums r.kind ≡ b → Leads (Both f (take n bytes) mf g (meta_of r bytes)) (written (b && not (length (take n bytes) % r.chunk == 0)) ++ cut_meta) (Both f (take n bytes) mf g (meta_of r (take n bytes)))) [
            | true ↦ λ h. chunks_summed h (is_less n (length bytes) less)
            | false ↦ λ h.
                leads_cut_meta r n (meta_len r (length bytes)) f mf g (take n bytes) (meta_of r bytes) (meta_of r (take n bytes)) (length_meta r bytes some)
                (take_all (meta_len r n) (meta_of r bytes) (omega (arith, length_meta r bytes some, len_null r n (length bytes) h)) ∙ meta_null r bytes (take n bytes) h)
          ] refl

-- ---- a new replica

pub leads_new : (r : Rule) (k : Folder) (stamp : ℕ) → 1 ≤ r.chunk
    → Leads Nowhere (MakeData k ∷ MakeMeta k stamp ∷ WriteMeta 0 (header_of r) ∷ []) (Both k [] k stamp (meta_of r []))
leads_new r k stamp some =
    let nothing : sums r [] ≡ [] = sums_nothing r some in
    record { able = (tt, (tt, (omega arith, tt))); there = ap (λ x. Both k [] k stamp (header_of r ++ x)) (sym nothing) }
