-- What is found of the files that hold a replica.
use Rattle.std.proofs.Common.{◌≡◌, ◌⊎◌, inl, inr, ℕ, ◌^◌, ◌<◌, ◌≤◌, ◌&&◌, cond, Bool, true, false, List, ◌∷◌, ◌++◌, length, take, drop, Option, Some, None, IfSome, IsSome, refl, sym, ap, subst, ◌∙◌, arith}
use Rattle.std.proofs.lemmas.List.{take_all, take-append-drop}
use Rattle.std.proofs.lemmas.Nat.{from_be_bytes-to_be_bytes_4}
use Rattle.std.proofs.Math.Seq.{take-append_seam, drop-append_seam}
use Rattle.std.proofs.lemmas.Grind.{common_steps}
use Rattle.std.proofs.lemmas.Slice.Eq.{bytes_eq-Decides}
use Rattle.std.specs.Int.{w32, to_be_bytes, from_be_bytes}
use Rattle.std.specs.Str.{bytes_eq}
use Rattle.hd_base.specs.declared.numbers.BlockId.{BlockId}
use Rattle.hd_base.specs.declared.numbers.Stamp.{Stamp}
use Rattle.hd_base.specs.declared.states.ReplicaState.{ReplicaState}
use Rattle.hd_base.specs.declared.states.ReplicaState.TheVariants as state
use Rattle.hd_base.specs.declared.sum_rule.SumKind.{SumKind}
use Rattle.hd_base.specs.declared.sum_rule.SumKind.TheVariants.{Null, Crc32, Crc32c}
use Rattle.hd_base.specs.SumRules.{Rule, IsChunkSize, kind_number}
use Rattle.hd_base.specs.FileMaps.{FileMap, no_files}
use Rattle.hd_base.proofs.FileLaws.{bytes_eq-same}
use Rattle.chunk_sums.specs.Chunks.{sums}
use Rattle.meta_file.specs.declared.names.Folder.{Folder}
use Rattle.meta_file.specs.declared.names.Folder.TheVariants.{Rbw, Finalized, Finalized56, Tmp}
use Rattle.meta_file.specs.declared.names.Named.{Named}
use Rattle.meta_file.specs.declared.names.Named.TheVariants.{Body, Sums}
use Rattle.meta_file.specs.Names.{printed, present_folder, in_present_layout, as_read, IsNamed, candidate_of}
use Rattle.meta_file.specs.Headers.{header_of}
use Rattle.meta_file.proofs.NameLemmas.{candidate_of-printed}
use Rattle.block_files.specs.Placements.{Both, files_of, data_name, meta_name}
use Rattle.block_files.proofs.NameLemmas.{data_meta, meta_data}
use Rattle.replica_model.specs.Sums.{meta_of}
use Rattle.replica_model.specs.Plans.{has_sums, folder_of, placed_under}
use Rattle.replica_model.specs.Found.{Found, found_as, IsWaiting, settled_state, found_whole}
use Rattle.replica_core.specs.declared.info.ReplicaInfo.{ReplicaInfo}
use Rattle.replica_core.specs.Info as info
use Rattle.restart_scan.specs.Blocks.{is_final, state_when, state_of}
use Rattle.restart_scan.specs.Pairs.{Pair, IsPair, is_temporary, without_temporary}
use Rattle.restart_scan.specs.Kept.{IsKept}
use Rattle.restart_scan.specs.Laws.{FindsBlock, finds, finds_none, HasNumbers, WholeReplicasAreFound, TwoFilesAreFound, IsFoundFinal}
use Rattle.restart_scan.specs.Laws as laws
use Rattle.restart_scan.proofs.ReadLemmas.{two_files, one_of, some_bytes}
use Rattle.restart_scan.proofs.FrontLemmas.{whole_by}

true_false : true ≡ false → ⊥
true_false e = cc

pub same_name : (a b : List ℕ) → bytes_eq a b ≡ true → a ≡ b
same_name a b e = grind (arith, common_steps, bytes_eq-Decides a b)

-- ---- which names lie in tmp

pub data_in_rbw : (b : ℕ) → is_temporary (data_name Rbw b) ≡ false
unfolding is_temporary data_name
data_in_rbw b = refl

data_in_final : (b : ℕ) → is_temporary (data_name Finalized b) ≡ false
unfolding is_temporary data_name
data_in_final b = refl

data_in_tmp : (b : ℕ) → is_temporary (data_name Tmp b) ≡ true
unfolding is_temporary data_name
data_in_tmp b = refl

pub meta_in_rbw : (g b : ℕ) → is_temporary (meta_name Rbw g b) ≡ false
unfolding is_temporary meta_name
meta_in_rbw g b = refl

meta_in_final : (g b : ℕ) → is_temporary (meta_name Finalized g b) ≡ false
unfolding is_temporary meta_name
meta_in_final g b = refl

meta_in_tmp : (g b : ℕ) → is_temporary (meta_name Tmp g b) ≡ true
unfolding is_temporary meta_name
meta_in_tmp g b = refl

-- two files apart from tmp stay, and two in tmp go
pub two_stay : (a x c y : List ℕ) → is_temporary a ≡ false → is_temporary c ≡ false → without_temporary (two_files a x c y) ≡ two_files a x c y
two_stay a x c y e f = λ i q. at q i where
  second : (q : List ℕ) (t : Bool) → is_temporary q ≡ true → bytes_eq c q ≡ t → None ≡ cond t (Some y) None
  second q true h g = absurd (true_false (sym h ∙ (ap is_temporary (sym (same_name c q g)) ∙ f)))
  second q false h g = refl

  first : (q : List ℕ) (t : Bool) → is_temporary q ≡ true → bytes_eq a q ≡ t → None ≡ cond t (Some x) (cond (bytes_eq c q) (Some y) None)
  first q true h g = absurd (true_false (sym h ∙ (ap is_temporary (sym (same_name a q g)) ∙ e)))
  first q false h g = second q (bytes_eq c q) h refl

  by : (q : List ℕ) (t : Bool) → is_temporary q ≡ t → cond t None (two_files a x c y q) ≡ two_files a x c y q
  by q true h = first q (bytes_eq a q) h refl
  by q false h = refl

  at : (q : List ℕ) → without_temporary (two_files a x c y) q ≡ two_files a x c y q
  at q = by q (is_temporary q) refl

pub two_go : (a x c y : List ℕ) → is_temporary a ≡ true → is_temporary c ≡ true → without_temporary (two_files a x c y) ≡ no_files
two_go a x c y e f = λ i q. at q i where
  second : (q : List ℕ) (t : Bool) → is_temporary q ≡ false → bytes_eq c q ≡ t → cond t (Some y) None ≡ None
  second q true h g = absurd (true_false (sym f ∙ (ap is_temporary (same_name c q g) ∙ h)))
  second q false h g = refl

  first : (q : List ℕ) (t : Bool) → is_temporary q ≡ false → bytes_eq a q ≡ t → cond t (Some x) (cond (bytes_eq c q) (Some y) None) ≡ None
  first q true h g = absurd (true_false (sym e ∙ (ap is_temporary (same_name a q g) ∙ h)))
  first q false h g = second q (bytes_eq c q) h refl

  by : (q : List ℕ) (t : Bool) → is_temporary q ≡ t → cond t None (two_files a x c y q) ≡ None
  by q true h = refl
  by q false h = first q (bytes_eq a q) h refl

  at : (q : List ℕ) → without_temporary (two_files a x c y) q ≡ no_files q
  at q = by q (is_temporary q) refl

-- ---- which pair there is

pub first_there : (a x c y : List ℕ) → two_files a x c y a ≡ Some x
first_there a x c y = let e : bytes_eq a a ≡ true = bytes_eq-same a in rw e refl

pub second_there : (a x c y : List ℕ) → bytes_eq a c ≡ false → two_files a x c y c ≡ Some y
second_there a x c y e = let f : bytes_eq c c ≡ true = bytes_eq-same c in rw (e, f) refl

pub none_some : (x : List ℕ) → ◌≡◌ {A = Option (List ℕ)} None (Some x) → ⊥
none_some x e = cc

some_of : (o : Option (List ℕ)) (x : List ℕ) → o ≡ Some x → IsSome o
some_of o x e = subst (λ p. IsSome p) (sym e) refl

-- without files there is none
pub nothing_there : (block : BlockId) (m : FileMap) → without_temporary m ≡ no_files → (p : Pair) → IsPair block m p → ⊥
nothing_there block m none p is =
    none_some p.bytes (ap (λ (f : FileMap). f (data_name p.places.folder block.0)) (sym none ∙ is.files_are)
    ∙ first_there (data_name p.places.folder block.0) p.bytes (meta_name p.places.meta_folder p.places.stamp.0 block.0) (header_of p.rule ++ p.stored))

-- The names and bytes of a pair are those of the two files.
pub record AreThese (block : BlockId) (p : Pair) (a x c y : List ℕ) : Type 0 where
  pub body : data_name p.places.folder block.0 ≡ a
  pub body_bytes : p.bytes ≡ x
  pub meta : meta_name p.places.meta_folder p.places.stamp.0 block.0 ≡ c
  pub meta_bytes : header_of p.rule ++ p.stored ≡ y

pub these : (block : BlockId) (m : FileMap) (p : Pair) (f mf : Folder) (g : ℕ) (x y : List ℕ) → block.0 < 2 ^ 64 → without_temporary m ≡ two_files (data_name f block.0) x (meta_name mf g block.0) y → IsPair block m p
    → AreThese block p (data_name f block.0) x (meta_name mf g block.0) y
these block m p f mf g x y fits there is =
    let b = block.0 in
    let a = data_name f b in
    let c = meta_name mf g b in
    let pa = data_name p.places.folder b in
    let pc = meta_name p.places.meta_folder p.places.stamp.0 b in
    let pm = header_of p.rule ++ p.stored in
    let at_body : two_files a x c y pa ≡ Some p.bytes = ap (λ (q : FileMap). q pa) (sym there ∙ is.files_are) ∙ first_there pa p.bytes pc pm in
    let at_meta : two_files a x c y pc ≡ Some pm =
    ap (λ (q : FileMap). q pc) (sym there ∙ is.files_are) ∙ second_there pa p.bytes pc pm (data_meta p.places.folder p.places.meta_folder p.places.stamp.0 b fits) in
    let body : pa ≡ a = body_of (one_of a x c y pa (some_of _ p.bytes at_body)) in
    let meta : pc ≡ c = meta_of_pair (one_of a x c y pc (some_of _ pm at_meta)) in
    record {
      body = body;
      body_bytes = some_bytes p.bytes x (sym at_body ∙ (ap (two_files a x c y) body ∙ first_there a x c y));
      meta = meta;
      meta_bytes = some_bytes pm y (sym at_meta ∙ (ap (two_files a x c y) meta ∙ second_there a x c y (data_meta f mf g b fits)));
    } where
      body_of : (data_name p.places.folder block.0 ≡ data_name f block.0) ⊎ (data_name p.places.folder block.0 ≡ meta_name mf g block.0) → data_name p.places.folder block.0 ≡ data_name f block.0
      body_of (inl e) = e
      body_of (inr e) = absurd (true_false (sym (bytes_eq-same (data_name p.places.folder block.0)) ∙ (ap (bytes_eq (data_name p.places.folder block.0)) e ∙ data_meta p.places.folder mf g block.0 fits)))

      meta_of_pair : (meta_name p.places.meta_folder p.places.stamp.0 block.0 ≡ data_name f block.0) ⊎ (meta_name p.places.meta_folder p.places.stamp.0 block.0 ≡ meta_name mf g block.0)
          → meta_name p.places.meta_folder p.places.stamp.0 block.0 ≡ meta_name mf g block.0
      meta_of_pair (inl e) = absurd (true_false (sym (bytes_eq-same (meta_name p.places.meta_folder p.places.stamp.0 block.0))
          ∙ (ap (bytes_eq (meta_name p.places.meta_folder p.places.stamp.0 block.0)) e ∙ meta_data f p.places.meta_folder p.places.stamp.0 block.0 fits)))
      meta_of_pair (inr e) = e

-- ---- what names say

same_named : (a b : Named) → ◌≡◌ {A = Option Named} (Some a) (Some b) → a ≡ b
same_named a b e = cc

pub printed_body : (block : BlockId) (f : Folder) → printed (Body block f) ≡ data_name f block.0
unfolding data_name
printed_body block f = refl

pub printed_sums : (block : BlockId) (s : Stamp) (f : Folder) → printed (Sums block s f) ≡ meta_name f s.0 block.0
unfolding meta_name
printed_sums block s f = refl

pub present_of : (a b : Named) → IsNamed a → IsNamed b → printed a ≡ printed b → in_present_layout a ≡ in_present_layout b
present_of a b fa fb e = same_named _ _ (sym (candidate_of-printed a fa) ∙ (ap candidate_of e ∙ candidate_of-printed b fb))

pub body_folder : (b c : BlockId) (f k : Folder) → Body b f ≡ Body c k → f ≡ k
body_folder b c f k e = cc

pub sums_folder : (b c : BlockId) (s t : Stamp) (f k : Folder) → Sums b s f ≡ Sums c t k → f ≡ k
sums_folder b c s t f k e = cc

pub sums_stamp : (b c : BlockId) (s t : Stamp) (f k : Folder) → Sums b s f ≡ Sums c t k → s ≡ t
sums_stamp b c s t f k e = cc

-- the folder is that of layout -57
abbrev pub IsPresent : Folder → Type 0
IsPresent f = present_folder f ≡ f

same_folder_of : (f k : Folder) → present_folder f ≡ present_folder k → IsPresent k → (f ≡ k) ⊎ ((f ≡ Finalized56) × (k ≡ Finalized))
same_folder_of Rbw k e h = inl (e ∙ h)
same_folder_of Finalized k e h = inl (e ∙ h)
same_folder_of Finalized56 k e h = inr (refl, sym (e ∙ h))
same_folder_of Tmp k e h = inl (e ∙ h)

fin_differs : (b : BlockId) → Body b Finalized ≡ Body b Finalized56 → ⊥
fin_differs b e = cc

fin_sums_differs : (b : BlockId) (s : Stamp) → Sums b s Finalized ≡ Sums b s Finalized56 → ⊥
fin_sums_differs b s e = cc

pub body_same : (block : BlockId) (f k : Folder) → block.0 < 2 ^ 64 → as_read (Body block f) ≡ Body block f → IsPresent k → data_name f block.0 ≡ data_name k block.0 → f ≡ k
body_same block f k fits read h e =
    let here : printed (Body block f) ≡ printed (Body block k) = printed_body block f ∙ (e ∙ sym (printed_body block k)) in
    by (same_folder_of f k (body_folder block block (present_folder f) (present_folder k) (present_of (Body block f) (Body block k) fits fits here)) h) here read where
      by : (f ≡ k) ⊎ ((f ≡ Finalized56) × (k ≡ Finalized)) → printed (Body block f) ≡ printed (Body block k) → as_read (Body block f) ≡ Body block f → f ≡ k
      by (inl same) here read = same
      by (inr two) here read =
          let read56 : as_read (Body block Finalized56) ≡ Body block Finalized56 = subst (λ q. as_read (Body block q) ≡ Body block q) two.0 read in
          let same : printed (Body block Finalized) ≡ printed (Body block Finalized56) =
          ap (λ q. printed (Body block q)) (sym two.1) ∙ (sym here ∙ ap (λ q. printed (Body block q)) two.0) in
          let test : bytes_eq (printed (Body block Finalized)) (printed (Body block Finalized56)) ≡ true = ap (bytes_eq (printed (Body block Finalized))) (sym same) ∙ bytes_eq-same (printed (Body block Finalized)) in
          absurd (fin_differs block (sym (ap (λ (t : Bool). cond t (Body block Finalized) (Body block Finalized56)) test) ∙ read56))

pub record SameSums (s t : Stamp) (f k : Folder) : Type 0 where
  pub stamp : s ≡ t
  pub folder : f ≡ k

pub sums_same : (block : BlockId) (s t : Stamp) (f k : Folder) → block.0 < 2 ^ 64 → s.0 < 2 ^ 64 → t.0 < 2 ^ 64 → as_read (Sums block s f) ≡ Sums block s f → IsPresent k → meta_name f s.0 block.0 ≡ meta_name k t.0 block.0 → SameSums s t f k
sums_same block s t f k fits fs ft read h e =
    let here : printed (Sums block s f) ≡ printed (Sums block t k) = printed_sums block s f ∙ (e ∙ sym (printed_sums block t k)) in
    let present = present_of (Sums block s f) (Sums block t k) (fits, fs) (fits, ft) here in
    let stamps : s ≡ t = sums_stamp block block s t (present_folder f) (present_folder k) present in
    record { stamp = stamps; folder = by stamps (same_folder_of f k (sums_folder block block s t (present_folder f) (present_folder k) present) h) here read } where
      by : s ≡ t → (f ≡ k) ⊎ ((f ≡ Finalized56) × (k ≡ Finalized)) → printed (Sums block s f) ≡ printed (Sums block t k) → as_read (Sums block s f) ≡ Sums block s f → f ≡ k
      by stamps (inl same) here read = same
      by stamps (inr two) here read =
          let read56 : as_read (Sums block s Finalized56) ≡ Sums block s Finalized56 = subst (λ q. as_read (Sums block s q) ≡ Sums block s q) two.0 read in
          let same : printed (Sums block s Finalized) ≡ printed (Sums block s Finalized56) =
          ap (λ q. printed (Sums block s q)) (sym two.1) ∙ (ap (λ q. printed (Sums block q k)) stamps ∙ (sym here ∙ ap (λ q. printed (Sums block s q)) two.0)) in
          let test : bytes_eq (printed (Sums block s Finalized)) (printed (Sums block s Finalized56)) ≡ true =
          ap (bytes_eq (printed (Sums block s Finalized))) (sym same) ∙ bytes_eq-same (printed (Sums block s Finalized)) in
          absurd (fin_sums_differs block s (sym (ap (λ (u : Bool). cond u (Sums block s Finalized) (Sums block s Finalized56)) test) ∙ read56))

-- ---- what a header says

kinds_differ : (j k : SumKind) → kind_number j ≡ kind_number k → j ≡ k
kinds_differ Null Null e = refl
kinds_differ Null Crc32 e = absurd (omega (arith, e))
kinds_differ Null Crc32c e = absurd (omega (arith, e))
kinds_differ Crc32 Null e = absurd (omega (arith, e))
kinds_differ Crc32 Crc32 e = refl
kinds_differ Crc32 Crc32c e = absurd (omega (arith, e))
kinds_differ Crc32c Null e = absurd (omega (arith, e))
kinds_differ Crc32c Crc32 e = absurd (omega (arith, e))
kinds_differ Crc32c Crc32c e = refl

rule_of : (j k : SumKind) (c d : ℕ) → j ≡ k → c ≡ d → ◌≡◌ {A = Rule} (record { kind = j; chunk = c }) (record { kind = k; chunk = d })
rule_of j k c d e f = ap (λ q. let r : Rule = record { kind = q; chunk = c } in r) e ∙ ap (λ q. let r : Rule = record { kind = k; chunk = q } in r) f

same_head : (x y : ℕ) (xs ys : List ℕ) → x ∷ xs ≡ y ∷ ys → x ≡ y
same_head x y xs ys e = cc

header_kind : (r : Rule) → drop 2 (header_of r) ≡ kind_number r.kind ∷ to_be_bytes w32 r.chunk
header_kind r = refl

pub header_says : (p r : Rule) → IsChunkSize p.chunk → IsChunkSize r.chunk → header_of p ≡ header_of r → p ≡ r
header_says p r fp fr e =
    let back : kind_number p.kind ∷ to_be_bytes w32 p.chunk ≡ kind_number r.kind ∷ to_be_bytes w32 r.chunk = ap (drop 2) e in
    let chunk : p.chunk ≡ r.chunk =
    sym (from_be_bytes-to_be_bytes_4 p.chunk (omega (arith, fp.greatest))) ∙ (ap (λ l. from_be_bytes w32 (drop 1 l)) back ∙ from_be_bytes-to_be_bytes_4 r.chunk (omega (arith, fr.greatest))) in
    rule_of p.kind r.kind p.chunk r.chunk (kinds_differ p.kind r.kind (same_head _ _ _ _ back)) chunk

pub stored_says : (p r : Rule) (s t : List ℕ) → header_of p ++ s ≡ header_of r ++ t → (header_of p ≡ header_of r) × (s ≡ t)
stored_says p r s t e = (
  sym (take-append_seam (header_of p) s) ∙ (ap (take 7) e ∙ take-append_seam (header_of r) t),
  sym (drop-append_seam (header_of p) s) ∙ (ap (drop 7) e ∙ drop-append_seam (header_of r) t),
)

-- ---- a replica's files

-- What is known of the folder of a replica that isn't TEMPORARY.
pub record IsPlain (block : BlockId) (f : Folder) (stamp : Stamp) : Type 0 where
  pub present : IsPresent f
  pub body_apart : is_temporary (data_name f block.0) ≡ false
  pub sums_apart : is_temporary (meta_name f stamp.0 block.0) ≡ false
  pub body_read : as_read (Body block f) ≡ Body block f
  pub sums_read : as_read (Sums block stamp f) ≡ Sums block stamp f

same_either : {A : Type 0} (t : Bool) (a : A) → cond t a a ≡ a
same_either true a = refl
same_either false a = refl

pub plain_rbw : (block : BlockId) (stamp : Stamp) → IsPlain block Rbw stamp
plain_rbw block stamp = record {
  present = refl;
  body_apart = data_in_rbw block.0;
  sums_apart = meta_in_rbw stamp.0 block.0;
  body_read = same_either (bytes_eq (printed (Body block Rbw)) (printed (Body block Rbw))) (Body block Rbw);
  sums_read = same_either (bytes_eq (printed (Sums block stamp Rbw)) (printed (Sums block stamp Rbw))) (Sums block stamp Rbw);
}

pub plain_final : (block : BlockId) (stamp : Stamp) → IsPlain block Finalized stamp
plain_final block stamp = record {
  present = refl;
  body_apart = data_in_final block.0;
  sums_apart = meta_in_final stamp.0 block.0;
  body_read = same_either (bytes_eq (printed (Body block Finalized)) (printed (Body block Finalized))) (Body block Finalized);
  sums_read = same_either (bytes_eq (printed (Sums block stamp Finalized)) (printed (Sums block stamp Finalized))) (Sums block stamp Finalized);
}

-- a replica's files are a pair
pair_of : (block : BlockId) (f : Folder) (stamp : Stamp) (r : Rule) (bytes : List ℕ) → stamp.0 < 2 ^ 64 → IsChunkSize r.chunk → IsPlain block f stamp
    → IsPair block (two_files (data_name f block.0) bytes (meta_name f stamp.0 block.0) (meta_of r bytes)) (record { places = record { folder = f; meta_folder = f; stamp = stamp }; rule = r; bytes = bytes; stored = sums r bytes })
pair_of block f stamp r bytes fits size plain = record {
  files_are = two_stay (data_name f block.0) bytes (meta_name f stamp.0 block.0) (meta_of r bytes) plain.body_apart plain.sums_apart;
  chunk_fits = size;
  places_are = record { body_at = record { named = refl; read = plain.body_read }; sums_at = record { stamp_fits = fits; named = refl; read = plain.sums_read } };
}

final_twice : (f : Folder) → ((is_final f && is_final f) && true) ≡ is_final f
final_twice Rbw = refl
final_twice Finalized = refl
final_twice Finalized56 = refl
final_twice Tmp = refl

abbrev pub found_by : ReplicaState → Stamp → Rule → List ℕ → Option Found
found_by s stamp r bytes = Some (record { state = s; stamp = stamp; sums = r; bytes = bytes })

pub plain_found : (block : BlockId) (f : Folder) (stamp : Stamp) (r : Rule) (bytes : List ℕ) (found : Option Found) → block.0 < 2 ^ 64 → stamp.0 < 2 ^ 64 → IsChunkSize r.chunk → IsPlain block f stamp
    → FindsBlock block (two_files (data_name f block.0) bytes (meta_name f stamp.0 block.0) (meta_of r bytes)) found → found ≡ found_by (state_when (is_final f)) stamp r bytes
unfolding found_by
plain_found block f stamp r bytes found fits stamp_fits size plain (finds_none none) = absurd (none _ (pair_of block f stamp r bytes stamp_fits size plain))
plain_found block f stamp r bytes found fits stamp_fits size plain (finds p len is kept) =
    let b = block.0 in
    let th = these block (two_files (data_name f b) bytes (meta_name f stamp.0 b) (meta_of r bytes)) p f f stamp.0 bytes (meta_of r bytes) fits
    (two_stay (data_name f b) bytes (meta_name f stamp.0 b) (meta_of r bytes) plain.body_apart plain.sums_apart) is in
    let folder : p.places.folder ≡ f = body_same block p.places.folder f fits is.places_are.body_at.read plain.present th.body in
    let other = sums_same block p.places.stamp stamp p.places.meta_folder f fits is.places_are.sums_at.stamp_fits stamp_fits is.places_are.sums_at.read plain.present th.meta in
    let says = stored_says p.rule r p.stored (sums r bytes) th.meta_bytes in
    let rule : p.rule ≡ r = header_says p.rule r is.chunk_fits size says.0 in
    let whole : p.stored ≡ sums p.rule p.bytes = says.1 ∙ (ap (λ q. sums q bytes) (sym rule) ∙ ap (sums p.rule) (sym th.body_bytes)) in
    let all : len ≡ length p.bytes = whole_by (has_sums p.rule.kind) p.rule p.bytes p.stored len refl (omega (arith, is.chunk_fits.least)) kept whole in
    let test : bytes_eq p.stored (sums p.rule p.bytes) ≡ true = ap (bytes_eq p.stored) (sym whole) ∙ bytes_eq-same p.stored in
    let state_is : state_of p ≡ state_when (is_final f) =
    ap (λ q. state_when ((is_final q && is_final p.places.meta_folder) && bytes_eq p.stored (sums p.rule p.bytes))) folder
    ∙ (ap (λ q. state_when ((is_final f && is_final q) && bytes_eq p.stored (sums p.rule p.bytes))) other.folder
    ∙ (ap (λ t. state_when ((is_final f && is_final f) && t)) test ∙ ap state_when (final_twice f))) in
    ap (λ s. found_by s p.places.stamp p.rule (take len p.bytes)) state_is
    ∙ (ap (λ g. found_by (state_when (is_final f)) g p.rule (take len p.bytes)) other.stamp
    ∙ (ap (λ q. found_by (state_when (is_final f)) stamp q (take len p.bytes)) rule
    ∙ ap (found_by (state_when (is_final f)) stamp r) (take_all len p.bytes (omega (arith, all)) ∙ th.body_bytes)))

-- a TEMPORARY replica isn't found
pub temporary_found : (block : BlockId) (stamp : Stamp) (bytes meta : List ℕ) (found : Option Found) → FindsBlock block (two_files (data_name Tmp block.0) bytes (meta_name Tmp stamp.0 block.0) meta) found → found ≡ None
temporary_found block stamp bytes meta found (finds_none none) = refl
temporary_found block stamp bytes meta found (finds p len is kept) =
    absurd (nothing_there block _ (two_go (data_name Tmp block.0) bytes (meta_name Tmp stamp.0 block.0) meta (data_in_tmp block.0) (meta_in_tmp stamp.0 block.0)) p is)

by_state : (s : ReplicaState) (block : BlockId) (stamp : Stamp) (r : Rule) (bytes : List ℕ) (found : Option Found) → block.0 < 2 ^ 64 → stamp.0 < 2 ^ 64 → IsChunkSize r.chunk
    → FindsBlock block (files_of block.0 (Both (folder_of s) bytes (folder_of s) stamp.0 (meta_of r bytes))) found → found ≡ cond (info.is_temporary s) None (found_as (settled_state s) stamp r bytes)
unfolding found_by
by_state state.Finalized block stamp r bytes found fits stamp_fits size f = plain_found block Finalized stamp r bytes found fits stamp_fits size (plain_final block stamp) f
by_state state.Rbw block stamp r bytes found fits stamp_fits size f = plain_found block Rbw stamp r bytes found fits stamp_fits size (plain_rbw block stamp) f
by_state state.Rwr block stamp r bytes found fits stamp_fits size f = plain_found block Rbw stamp r bytes found fits stamp_fits size (plain_rbw block stamp) f
by_state state.Rur block stamp r bytes found fits stamp_fits size f = plain_found block Rbw stamp r bytes found fits stamp_fits size (plain_rbw block stamp) f
by_state state.Temporary block stamp r bytes found fits stamp_fits size f = temporary_found block stamp bytes (meta_of r bytes) found f

nothing_left : without_temporary no_files ≡ no_files
nothing_left = λ i q. same_either (is_temporary q) (let o : Option (List ℕ) = None in o) i

pub none_there : (block : BlockId) → FindsBlock block no_files None
none_there block = finds_none (nothing_there block no_files nothing_left)

pub nothing_found : (block : BlockId) (found : Option Found) → FindsBlock block no_files found → found ≡ None
nothing_found block found (finds_none none) = refl
nothing_found block found (finds p len is kept) = absurd (nothing_there block no_files nothing_left p is)

by_info : (o : Option ReplicaInfo) (block : BlockId) (bytes : List ℕ) (found : Option Found) → block.0 < 2 ^ 64 → IfSome o (λ h. h.stamp.0 < 2 ^ 64) → IfSome o (λ h. IsChunkSize h.sums.chunk)
    → FindsBlock block (files_of block.0 (placed_under o bytes)) found → found ≡ found_whole o bytes
by_info None block bytes found fits stamp size f = nothing_found block found f
by_info (Some h) block bytes found fits stamp size f = by_state h.original block h.stamp h.sums bytes found fits stamp size f

pub whole_replicas_are_found : WholeReplicasAreFound
whole_replicas_are_found r found full numbers f = by_info r.known.info r.known.block r.bytes found numbers.block_fits numbers.stamp_fits full.rule f

-- ---- two files, wherever they lie

plain_in : (block : BlockId) (f : Folder) (stamp : Stamp) → laws.IsPlain f → IsPlain block f stamp
plain_in block f stamp (inl e) = subst (λ q. IsPlain block q stamp) (sym e) (plain_rbw block stamp)
plain_in block f stamp (inr e) = subst (λ q. IsPlain block q stamp) (sym e) (plain_final block stamp)

final_in : (f : Folder) → laws.IsPlain f → is_final f ≡ true → f ≡ Finalized
final_in f (inl e) h = absurd (true_false (sym h ∙ ap is_final e))
final_in f (inr e) h = e

-- the pair of two files
two_pair : (block : BlockId) (f mf : Folder) (stamp : Stamp) (r : Rule) (bytes stored : List ℕ) → stamp.0 < 2 ^ 64 → IsChunkSize r.chunk → IsPlain block f stamp → IsPlain block mf stamp
    → IsPair block (two_files (data_name f block.0) bytes (meta_name mf stamp.0 block.0) (header_of r ++ stored)) (record { places = record { folder = f; meta_folder = mf; stamp = stamp }; rule = r; bytes = bytes; stored = stored })
two_pair block f mf stamp r bytes stored fits size a c = record {
  files_are = two_stay (data_name f block.0) bytes (meta_name mf stamp.0 block.0) (header_of r ++ stored) a.body_apart c.sums_apart;
  chunk_fits = size;
  places_are = record { body_at = record { named = refl; read = a.body_read }; sums_at = record { stamp_fits = fits; named = refl; read = c.sums_read } };
}

pub and_left : (p q : Bool) → (p && q) ≡ true → p ≡ true
and_left true q e = refl
and_left false q e = e

pub and_right : (p q : Bool) → (p && q) ≡ true → q ≡ true
and_right true q e = e
and_right false q e = absurd (no e) where
  no : false ≡ true → ⊥
  no e = cc

-- what is found of a pair by whether it is FINALIZED
found_either : (t : Bool) (stamp : Stamp) (r : Rule) (bytes stored : List ℕ) (len : ℕ) (f mf : Folder) (found : Option Found) → laws.IsPlain f → laws.IsPlain mf → 1 ≤ r.chunk → IsKept r bytes stored len
    → ((is_final f && is_final mf) && bytes_eq stored (sums r bytes)) ≡ t → found ≡ found_by (state_when t) stamp r (take len bytes) → IsWaiting found stamp r bytes ⊎ IsFoundFinal f mf stamp r bytes stored found
unfolding found_by
found_either false stamp r bytes stored len f mf found a c some kept e is = inl (take len bytes, is, (drop len bytes, take-append-drop len bytes))
found_either true stamp r bytes stored len f mf found a c some kept e is =
    let both = and_left (is_final f && is_final mf) (bytes_eq stored (sums r bytes)) e in
    let whole : stored ≡ sums r bytes = same_name stored (sums r bytes) (and_right (is_final f && is_final mf) (bytes_eq stored (sums r bytes)) e) in
    let all : len ≡ length bytes = whole_by (has_sums r.kind) r bytes stored len refl some kept whole in
    inr (record {
      body = final_in f a (and_left (is_final f) (is_final mf) both);
      meta = final_in mf c (and_right (is_final f) (is_final mf) both);
      whole = whole;
      all = is ∙ ap (found_by state.Finalized stamp r) (take_all len bytes (omega (arith, all)));
    })

pub two_files_are_found : TwoFilesAreFound
unfolding found_by
two_files_are_found block f mf stamp r bytes stored found fits stamp_fits size plain other (finds_none none) =
    absurd (none _ (two_pair block f mf stamp r bytes stored stamp_fits size (plain_in block f stamp plain) (plain_in block mf stamp other)))
two_files_are_found block f mf stamp r bytes stored found fits stamp_fits size plain other (finds p len is kept) =
    let b = block.0 in
    let a = plain_in block f stamp plain in
    let c = plain_in block mf stamp other in
    let th = these block (two_files (data_name f b) bytes (meta_name mf stamp.0 b) (header_of r ++ stored)) p f mf stamp.0 bytes (header_of r ++ stored) fits
    (two_stay (data_name f b) bytes (meta_name mf stamp.0 b) (header_of r ++ stored) a.body_apart c.sums_apart) is in
    let folder : p.places.folder ≡ f = body_same block p.places.folder f fits is.places_are.body_at.read a.present th.body in
    let sum = sums_same block p.places.stamp stamp p.places.meta_folder mf fits is.places_are.sums_at.stamp_fits stamp_fits is.places_are.sums_at.read c.present th.meta in
    let says = stored_says p.rule r p.stored stored th.meta_bytes in
    let rule : p.rule ≡ r = header_says p.rule r is.chunk_fits size says.0 in
    let kept_is : IsKept r bytes stored len = subst (λ q. IsKept q bytes stored len) rule (subst (λ l. IsKept p.rule l stored len) th.body_bytes (subst (λ l. IsKept p.rule p.bytes l len) says.1 kept)) in
    let test : ((is_final p.places.folder && is_final p.places.meta_folder) && bytes_eq p.stored (sums p.rule p.bytes)) ≡ ((is_final f && is_final mf) && bytes_eq stored (sums r bytes)) =
    ap (λ q. (is_final q && is_final p.places.meta_folder) && bytes_eq p.stored (sums p.rule p.bytes)) folder
    ∙ (ap (λ q. (is_final f && is_final q) && bytes_eq p.stored (sums p.rule p.bytes)) sum.folder
    ∙ (ap (λ l. (is_final f && is_final mf) && bytes_eq l (sums p.rule p.bytes)) says.1
    ∙ (ap (λ q. (is_final f && is_final mf) && bytes_eq stored (sums q p.bytes)) rule
    ∙ ap (λ l. (is_final f && is_final mf) && bytes_eq stored (sums r l)) th.body_bytes))) in
    found_either ((is_final f && is_final mf) && bytes_eq stored (sums r bytes)) stamp r bytes stored len f mf found plain other (omega (arith, size.least)) kept_is refl
    (ap (λ t. found_by (state_when t) p.places.stamp p.rule (take len p.bytes)) test
    ∙ (ap (λ g. found_by (state_when ((is_final f && is_final mf) && bytes_eq stored (sums r bytes))) g p.rule (take len p.bytes)) sum.stamp
    ∙ (ap (λ q. found_by (state_when ((is_final f && is_final mf) && bytes_eq stored (sums r bytes))) stamp q (take len p.bytes)) rule
    ∙ ap (λ l. found_by (state_when ((is_final f && is_final mf) && bytes_eq stored (sums r bytes))) stamp r (take len l)) th.body_bytes)))

-- a data file in tmp and a metadata file elsewhere are no pair
pub no_pair : (block : BlockId) (g : ℕ) (d m : List ℕ) → block.0 < 2 ^ 64 → (p : Pair) → IsPair block (two_files (data_name Tmp block.0) d (meta_name Rbw g block.0) m) p → ⊥
no_pair block g d m fits p is = by (is_temporary (data_name p.places.folder block.0)) refl where
  there : without_temporary (two_files (data_name Tmp block.0) d (meta_name Rbw g block.0) m) (data_name p.places.folder block.0) ≡ Some p.bytes
  there = ap (λ (q : FileMap). q (data_name p.places.folder block.0)) is.files_are
      ∙ first_there (data_name p.places.folder block.0) p.bytes (meta_name p.places.meta_folder p.places.stamp.0 block.0) (header_of p.rule ++ p.stored)

  by : (t : Bool) → is_temporary (data_name p.places.folder block.0) ≡ t → ⊥
  by true e = none_some p.bytes (sym (ap (λ u. cond u None (two_files (data_name Tmp block.0) d (meta_name Rbw g block.0) m (data_name p.places.folder block.0))) e) ∙ there)
  by false e = which (one_of (data_name Tmp block.0) d (meta_name Rbw g block.0) m (data_name p.places.folder block.0)
      (some_of _ p.bytes (sym (ap (λ u. cond u None (two_files (data_name Tmp block.0) d (meta_name Rbw g block.0) m (data_name p.places.folder block.0))) e) ∙ there))) where
        which : (data_name p.places.folder block.0 ≡ data_name Tmp block.0) ⊎ (data_name p.places.folder block.0 ≡ meta_name Rbw g block.0) → ⊥
        which (inl same) = true_false (sym (data_in_tmp block.0) ∙ (ap is_temporary (sym same) ∙ e))
        which (inr same) = true_false (sym (bytes_eq-same (data_name p.places.folder block.0)) ∙ (ap (bytes_eq (data_name p.places.folder block.0)) same ∙ data_meta p.places.folder Rbw g block.0 fits))
