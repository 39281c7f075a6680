-- A pair is settled.
use Rattle.std.proofs.Common.{◌≡◌, inl, inr, ℕ, ◌+◌, ◌^◌, ◌<◌, ◌≤◌, ◌==◌, ◌&&◌, not, nat_lt, cond, Bool, true, false, List, [], ◌∷◌, ◌++◌, length, take, Some, refl, sym, ap, subst, ◌∙◌, arith}
use Rattle.std.proofs.lemmas.List.{take_all, length-append}
use Rattle.std.proofs.lemmas.Grind.{common_steps}
use Rattle.std.proofs.lemmas.Bool.Decides.{nat_tests}
use Rattle.hd_base.specs.SumRules.{Rule}
use Rattle.hd_base.specs.Blocks.{is_of_block}
use Rattle.hd_base.specs.FileMaps.{FileMap, AreNamesOf}
use Rattle.hd_base.specs.Calls.{Call, Rename, Cut, run}
use Rattle.hd_base.specs.declared.numbers.BlockId.{BlockId}
use Rattle.hd_base.specs.declared.states.ReplicaState.{ReplicaState}
use Rattle.file_calls.specs.Plans.{FindFiles}
use Rattle.meta_file.specs.declared.names.Folder.{Folder}
use Rattle.meta_file.specs.declared.names.Folder.TheVariants.{Rbw, Finalized, Finalized56, Tmp}
use Rattle.meta_file.specs.Headers.{header_of}
use Rattle.block_files.specs.Placements.{Placement, Both, files_of, data_name, meta_name}
use Rattle.block_files.specs.BlockCalls.{BlockCall, CutData, CutMeta, MoveData, MoveMeta, placed, all_placed, call_of, calls_of}
use Rattle.block_files.proofs.PlacementLaws.{calls_place_files, calls_find_files}
use Rattle.replica_core.specs.Info.{settled_at}
use Rattle.replica_model.specs.Sums.{header_len, meta_len}
use Rattle.replica_model.specs.Plans.{folder_of, same_folder, when, placed_info}
use Rattle.replica_model.proofs.PlacementLemmas.{Leads, leads_one, leads_append, leads_when}
use Rattle.replica_calls.specs.declared.names.FileNames.{FileNames}
use Rattle.replica_calls.specs.CallLists.{only, remove_list}
use Rattle.replica_files.proofs.OnlyLemmas.{StayOf, stay_append, data_of, meta_of_block}
use Rattle.restart_scan.specs.declared.found.Scanned.{Scanned}
use Rattle.restart_scan.specs.declared.pairs.PairPlaces.{PairPlaces}
use Rattle.restart_scan.specs.declared.reading.ReadPair.{ReadPair}
use Rattle.restart_scan.specs.Pairs.{Pair, IsPair, pair_names, placement_of, temporary_part}
use Rattle.restart_scan.specs.Kept.{IsKept}
use Rattle.restart_scan.specs.Blocks.{both_final, both_in, layout_places, last_places, is_moved, state_when, state_of, moves, cuts, pair_calls, move_list, cut_list, scanned_pair, ScansBlock, scanned_none, ScanCalls, settles, removes}
use Rattle.restart_scan.specs.Reading.{IsReadPair, is_read_whole, read_state, settle_list, names_of, read_scanned}
use Rattle.restart_scan.proofs.FrontLemmas.{has_front, meta_front, whole_shows}
use Rattle.restart_scan.proofs.RemovalLemmas.{temporary_found, temporary_removed, find_append, run_append}

-- ---- calls by names

calls_append : (block : ℕ) (xs ys : List BlockCall) (p : Placement) → calls_of block (xs ++ ys) p ≡ calls_of block xs p ++ calls_of block ys (all_placed xs p)
calls_append block [] ys p = refl
calls_append block (x ∷ xs) ys p = ap (λ l. call_of block p x ∷ l) (calls_append block xs ys (placed x p))

moves_named : (block : ℕ) (f mf k mk : Folder) (g : ℕ) (d m : List ℕ) (a b : Bool)
    → calls_of block (when a (MoveMeta mk g ∷ []) ++ when b (MoveData k ∷ [])) (Both f d mf g m)
    ≡ only a (Rename (meta_name mf g block) (meta_name mk g block)) ++ only b (Rename (data_name f block) (data_name k block))
moves_named block f mf k mk g d m false false = refl
moves_named block f mf k mk g d m false true = refl
moves_named block f mf k mk g d m true false = refl
moves_named block f mf k mk g d m true true = refl

cuts_named : (block : ℕ) (f mf : Folder) (g : ℕ) (d m : List ℕ) (a b : Bool) (len meta_len : ℕ)
    → calls_of block (when a (CutData len ∷ []) ++ when b (CutMeta meta_len ∷ [])) (Both f d mf g m)
    ≡ only a (Cut (data_name f block) len) ++ only b (Cut (meta_name mf g block) meta_len)
cuts_named block f mf g d m false false len meta_len = refl
cuts_named block f mf g d m false true len meta_len = refl
cuts_named block f mf g d m true false len meta_len = refl
cuts_named block f mf g d m true true len meta_len = refl

-- ---- where the files lie

true_false : true ≡ false → ⊥
true_false e = cc

pub same_is : (f k : Folder) → same_folder f k ≡ true → f ≡ k
same_is Rbw Rbw e = refl
same_is Finalized Finalized e = refl
same_is Finalized56 Finalized56 e = refl
same_is Tmp Tmp e = refl
same_is Rbw Finalized e = absurd (true_false (sym e))
same_is Rbw Finalized56 e = absurd (true_false (sym e))
same_is Rbw Tmp e = absurd (true_false (sym e))
same_is Finalized Rbw e = absurd (true_false (sym e))
same_is Finalized Finalized56 e = absurd (true_false (sym e))
same_is Finalized Tmp e = absurd (true_false (sym e))
same_is Finalized56 Rbw e = absurd (true_false (sym e))
same_is Finalized56 Finalized e = absurd (true_false (sym e))
same_is Finalized56 Tmp e = absurd (true_false (sym e))
same_is Tmp Rbw e = absurd (true_false (sym e))
same_is Tmp Finalized e = absurd (true_false (sym e))
same_is Tmp Finalized56 e = absurd (true_false (sym e))

pub not_false : (b : Bool) → not b ≡ false → b ≡ true
not_false true e = refl
not_false false e = sym e

leads_moves : (f mf k mk : Folder) (g : ℕ) (d m : List ℕ)
    → Leads (Both f d mf g m) (when (not (same_folder mf mk)) (MoveMeta mk g ∷ []) ++ when (not (same_folder f k)) (MoveData k ∷ [])) (Both k d mk g m)
leads_moves f mf k mk g d m =
    leads_append (when (not (same_folder mf mk)) (MoveMeta mk g ∷ [])) (when (not (same_folder f k)) (MoveData k ∷ [])) (Both f d mf g m) (Both f d mk g m) (Both k d mk g m)
    (leads_when (not (same_folder mf mk)) (MoveMeta mk g ∷ []) (Both f d mf g m) (Both f d mk g m)
    (λ go. leads_one (Both f d mf g m) (MoveMeta mk g) (Both f d mk g m) tt refl)
    (λ stay. ap (λ x. Both f d x g m) (same_is mf mk (not_false (same_folder mf mk) stay))))
    (leads_when (not (same_folder f k)) (MoveData k ∷ []) (Both f d mk g m) (Both k d mk g m)
    (λ go. leads_one (Both f d mk g m) (MoveData k) (Both k d mk g m) tt refl)
    (λ stay. ap (λ x. Both x d mk g m) (same_is f k (not_false (same_folder f k) stay))))

pub is_less : (n m : ℕ) → nat_lt n m ≡ true → n < m
is_less n m e = grind (arith, common_steps, nat_tests)

pub not_less : (n m : ℕ) → nat_lt n m ≡ false → m ≤ n
not_less n m e = grind (arith, common_steps, nat_tests)

leads_cuts : (f mf : Folder) (g : ℕ) (d m : List ℕ) (data_len stored_len len left : ℕ) → data_len ≡ length d → stored_len ≡ length m
    → Leads (Both f d mf g m) (when (nat_lt len data_len) (CutData len ∷ []) ++ when (nat_lt left stored_len) (CutMeta left ∷ [])) (Both f (take len d) mf g (take left m))
leads_cuts f mf g d m data_len stored_len len left all_data all_stored =
    leads_append (when (nat_lt len data_len) (CutData len ∷ [])) (when (nat_lt left stored_len) (CutMeta left ∷ [])) (Both f d mf g m) (Both f (take len d) mf g m) (Both f (take len d) mf g (take left m))
    (leads_when (nat_lt len data_len) (CutData len ∷ []) (Both f d mf g m) (Both f (take len d) mf g m)
    (λ go. leads_one (Both f d mf g m) (CutData len) (Both f (take len d) mf g m) (omega (arith, is_less len data_len go, all_data)) refl)
    (λ stay. ap (λ x. Both f x mf g m) (sym (take_all len d (omega (arith, not_less len data_len stay, all_data))))))
    (leads_when (nat_lt left stored_len) (CutMeta left ∷ []) (Both f (take len d) mf g m) (Both f (take len d) mf g (take left m))
    (λ go. leads_one (Both f (take len d) mf g m) (CutMeta left) (Both f (take len d) mf g (take left m)) (omega (arith, is_less left stored_len go, all_stored)) refl)
    (λ stay. ap (λ x. Both f (take len d) mf g x) (sym (take_all left m (omega (arith, not_less left stored_len stay, all_stored))))))

-- ---- all calls of a pair

-- a pair's calls, by where its files lie between
abbrev calls_by : PairPlaces → PairPlaces → PairPlaces → List BlockCall → List BlockCall
calls_by x y z rest = moves x y ++ (moves y z ++ rest)

stored_all : (p : Pair) → header_len + length p.stored ≡ length (header_of p.rule ++ p.stored)
stored_all p = sym (length-append (header_of p.rule) p.stored)

-- the metadata that is left
abbrev left_of : Pair → ℕ → List ℕ
left_of p len = take (meta_len p.rule len) (header_of p.rule ++ p.stored)

leads_by : (p : Pair) (f mf k mk : Folder) (len : ℕ)
    → Leads (placement_of p)
    (calls_by p.places (record { folder = f; meta_folder = mf; stamp = p.places.stamp }) (record { folder = k; meta_folder = mk; stamp = p.places.stamp }) (cuts p.rule (length p.bytes) (header_len + length p.stored) len))
    (Both k (take len p.bytes) mk p.places.stamp.0 (left_of p len))
leads_by p f mf k mk len =
    let x = p.places in
    let g = x.stamp.0 in
    let d = p.bytes in
    let m = header_of p.rule ++ p.stored in
    let y : PairPlaces = record { folder = f; meta_folder = mf; stamp = x.stamp } in
    let z : PairPlaces = record { folder = k; meta_folder = mk; stamp = x.stamp } in
    let rest = cuts p.rule (length p.bytes) (header_len + length p.stored) len in
    leads_append (moves x y) (moves y z ++ rest) (Both x.folder d x.meta_folder g m) (Both f d mf g m) (Both k (take len d) mk g (left_of p len))
    (leads_moves x.folder x.meta_folder f mf g d m)
    (leads_append (moves y z) rest (Both f d mf g m) (Both k d mk g m) (Both k (take len d) mk g (left_of p len))
    (leads_moves f mf k mk g d m)
    (leads_cuts k mk g d m (length d) (header_len + length p.stored) len (meta_len p.rule len) refl (stored_all p)))

named_by : (block : ℕ) (p : Pair) (f mf k mk : Folder) (len : ℕ)
    → calls_of block (calls_by p.places (record { folder = f; meta_folder = mf; stamp = p.places.stamp }) (record { folder = k; meta_folder = mk; stamp = p.places.stamp }) (cuts p.rule (length p.bytes) (header_len + length p.stored) len)) (placement_of p)
    ≡ move_list (pair_names block p.places) (pair_names block (record { folder = f; meta_folder = mf; stamp = p.places.stamp })) p.places (record { folder = f; meta_folder = mf; stamp = p.places.stamp })
    ++ (move_list (pair_names block (record { folder = f; meta_folder = mf; stamp = p.places.stamp })) (pair_names block (record { folder = k; meta_folder = mk; stamp = p.places.stamp }))
    (record { folder = f; meta_folder = mf; stamp = p.places.stamp }) (record { folder = k; meta_folder = mk; stamp = p.places.stamp })
    ++ cut_list (pair_names block (record { folder = k; meta_folder = mk; stamp = p.places.stamp })) p.rule (length p.bytes) (header_len + length p.stored) len)
named_by block p f mf k mk len =
    let x = p.places in
    let g = x.stamp.0 in
    let d = p.bytes in
    let m = header_of p.rule ++ p.stored in
    let y : PairPlaces = record { folder = f; meta_folder = mf; stamp = x.stamp } in
    let z : PairPlaces = record { folder = k; meta_folder = mk; stamp = x.stamp } in
    let rest = cuts p.rule (length p.bytes) (header_len + length p.stored) len in
    let first = move_list (pair_names block x) (pair_names block y) x y in
    let second = move_list (pair_names block y) (pair_names block z) y z in
    calls_append block (moves x y) (moves y z ++ rest) (Both x.folder d x.meta_folder g m)
    ∙ (ap (λ l. l ++ calls_of block (moves y z ++ rest) (all_placed (moves x y) (Both x.folder d x.meta_folder g m)))
    (moves_named block x.folder x.meta_folder f mf g d m (not (same_folder x.meta_folder mf)) (not (same_folder x.folder f)))
    ∙ (ap (λ q. first ++ calls_of block (moves y z ++ rest) q) (leads_moves x.folder x.meta_folder f mf g d m).there
    ∙ ap (λ l. first ++ l)
    (calls_append block (moves y z) rest (Both f d mf g m)
    ∙ (ap (λ l. l ++ calls_of block rest (all_placed (moves y z) (Both f d mf g m)))
    (moves_named block f mf k mk g d m (not (same_folder mf mk)) (not (same_folder f k)))
    ∙ (ap (λ q. second ++ calls_of block rest q) (leads_moves f mf k mk g d m).there
    ∙ ap (λ l. second ++ l)
    (cuts_named block k mk g d m (nat_lt len (length d)) (nat_lt (meta_len p.rule len) (header_len + length p.stored)) len (meta_len p.rule len)))))))

layout_by : (t : Bool) (x : PairPlaces) → cond t (both_in Finalized x) x ≡ record { folder = (cond t (both_in Finalized x) x).folder; meta_folder = (cond t (both_in Finalized x) x).meta_folder; stamp = x.stamp }
layout_by true x = refl
layout_by false x = refl

layout_is : (x : PairPlaces) → layout_places x ≡ record { folder = (layout_places x).folder; meta_folder = (layout_places x).meta_folder; stamp = x.stamp }
layout_is x = layout_by (both_final x) x

-- the calls of a pair, by the files' names
abbrev list_by : ℕ → PairPlaces → PairPlaces → ReplicaState → Rule → ℕ → ℕ → ℕ → List Call
list_by block x y s r data_len stored_len len =
    move_list (pair_names block x) (pair_names block y) x y
    ++ (move_list (pair_names block y) (pair_names block (last_places s x)) y (last_places s x) ++ cut_list (pair_names block (last_places s x)) r data_len stored_len len)

pub settled_leads : (p : Pair) (len : ℕ) → Leads (placement_of p) (pair_calls p len) (Both (folder_of (state_of p)) (take len p.bytes) (folder_of (state_of p)) p.places.stamp.0 (left_of p len))
settled_leads p len =
    let rest = cuts p.rule (length p.bytes) (header_len + length p.stored) len in
    let end = Both (folder_of (state_of p)) (take len p.bytes) (folder_of (state_of p)) p.places.stamp.0 (left_of p len) in
    subst (λ y. Leads (placement_of p) (calls_by p.places y (last_places (state_of p) p.places) rest) end) (sym (layout_is p.places))
    (leads_by p (layout_places p.places).folder (layout_places p.places).meta_folder (folder_of (state_of p)) (folder_of (state_of p)) len)

settled_named : (block : ℕ) (p : Pair) (len : ℕ) → calls_of block (pair_calls p len) (placement_of p)
    ≡ list_by block p.places (layout_places p.places) (state_of p) p.rule (length p.bytes) (header_len + length p.stored) len
settled_named block p len =
    let rest = cuts p.rule (length p.bytes) (header_len + length p.stored) len in
    subst (λ y. calls_of block (calls_by p.places y (last_places (state_of p) p.places) rest) (placement_of p) ≡ list_by block p.places y (state_of p) p.rule (length p.bytes) (header_len + length p.stored) len)
    (sym (layout_is p.places))
    (named_by block p (layout_places p.places).folder (layout_places p.places).meta_folder (folder_of (state_of p)) (folder_of (state_of p)) len)

-- ---- a pair that was read

state_same : (block : BlockId) (m : FileMap) (x : ReadPair) (r : IsReadPair block m x) → read_state x ≡ state_of r.pair
state_same block m x r =
    let p = r.pair in
    ap (λ q. state_when (both_final q && is_read_whole x)) r.at
    ∙ ap (λ t. state_when (both_final p.places && t))
    (ap (λ q. (x.kept == x.data_len && x.meta_len == meta_len q x.data_len)) r.rule_is
    ∙ whole_shows p.rule p.bytes p.stored x.kept x.data_len x.meta_len (omega (arith, r.is_pair.chunk_fits.least)) r.kept_is r.all_data r.all_meta)

list_same : (block : BlockId) (m : FileMap) (x : ReadPair) (r : IsReadPair block m x)
    → settle_list (names_of block.0 x) x ≡ list_by block.0 r.pair.places (layout_places r.pair.places) (state_of r.pair) r.pair.rule (length r.pair.bytes) (header_len + length r.pair.stored) x.kept
list_same block m x r =
    let p = r.pair in
    let b = block.0 in
    ap (λ q. list_by b q (layout_places q) (read_state x) x.rule x.data_len x.meta_len x.kept) r.at
    ∙ (ap (λ s. list_by b p.places (layout_places p.places) s x.rule x.data_len x.meta_len x.kept) (state_same block m x r)
    ∙ (ap (λ q. list_by b p.places (layout_places p.places) (state_of p) q x.data_len x.meta_len x.kept) r.rule_is
    ∙ (ap (λ n. list_by b p.places (layout_places p.places) (state_of p) p.rule n x.meta_len x.kept) r.all_data
    ∙ ap (λ n. list_by b p.places (layout_places p.places) (state_of p) p.rule (length p.bytes) n x.kept) r.all_meta)))

abbrev scanned_by : BlockId → PairPlaces → ReplicaState → Rule → ℕ → Scanned
scanned_by block x s r len = record {
  seen = Some (record { block = block; folder = folder_of s; state = s; stamp = x.stamp; sums = r; length = len });
  is_moved = is_moved x;
}

scanned_same : (block : BlockId) (m : FileMap) (x : ReadPair) (r : IsReadPair block m x) → read_scanned block x ≡ scanned_pair block r.pair x.kept
scanned_same block m x r =
    ap (λ q. scanned_by block q (read_state x) x.rule x.kept) r.at
    ∙ (ap (λ s. scanned_by block r.pair.places s x.rule x.kept) (state_same block m x r)
    ∙ ap (λ q. scanned_by block r.pair.places (state_of r.pair) q x.kept) r.rule_is)

-- what is kept is held
held_so : (block : ℕ) (p : Pair) (len : ℕ) → 1 ≤ p.rule.chunk → IsKept p.rule p.bytes p.stored len
    → files_of block (Both (folder_of (state_of p)) (take len p.bytes) (folder_of (state_of p)) p.places.stamp.0 (left_of p len))
    ≡ files_of block (placed_info (settled_at (state_of p) p.places.stamp p.rule (length (take len p.bytes))) (take len p.bytes))
held_so block p len some kept =
    let f = folder_of (state_of p) in
    ap (λ l. files_of block (Both f (take len p.bytes) f p.places.stamp.0 l)) (meta_front p.rule p.bytes p.stored len (has_front p.rule p.bytes p.stored len some kept))

-- ---- all calls on a block's files

-- What the calls find, and what they make of the files.
pub record Settles (block : BlockId) (m : FileMap) (calls : List Call) (x : Scanned) : Type 0 where
  pub found : FindFiles m calls
  pub are : ScanCalls block m calls
  pub made : ScansBlock block m (run calls m) x
  pub stay : StayOf block.0 calls

removals_stay : (block : ℕ) (names : List (List ℕ)) → StayOf block (remove_list names)
removals_stay block [] = tt
removals_stay block (name ∷ names) = (tt, removals_stay block names)

rename_stays : (block : ℕ) (t : Bool) (a b : List ℕ) → is_of_block block b ≡ true → StayOf block (only t (Rename a b))
rename_stays block true a b of = (of, tt)
rename_stays block false a b of = tt

cut_stays : (block : ℕ) (t : Bool) (a : List ℕ) (n : ℕ) → StayOf block (only t (Cut a n))
cut_stays block true a n = (tt, tt)
cut_stays block false a n = tt

moves_stay : (block : ℕ) (a : FileNames) (x y : PairPlaces) → block < 2 ^ 64 → y.stamp.0 < 2 ^ 64 → StayOf block (move_list a (pair_names block y) x y)
moves_stay block a x y fits stamp =
    stay_append block (only (not (same_folder x.meta_folder y.meta_folder)) (Rename a.meta (meta_name y.meta_folder y.stamp.0 block)))
    (only (not (same_folder x.folder y.folder)) (Rename a.«data» (data_name y.folder block)))
    (rename_stays block (not (same_folder x.meta_folder y.meta_folder)) a.meta (meta_name y.meta_folder y.stamp.0 block) (meta_of_block y.meta_folder block y.stamp.0 fits stamp))
    (rename_stays block (not (same_folder x.folder y.folder)) a.«data» (data_name y.folder block) (data_of y.folder block fits))

list_stays : (block : ℕ) (x y : PairPlaces) (s : ReplicaState) (r : Rule) (data_len stored_len len : ℕ) → block < 2 ^ 64 → x.stamp.0 < 2 ^ 64 → y.stamp.0 < 2 ^ 64 → StayOf block (list_by block x y s r data_len stored_len len)
list_stays block x y s r data_len stored_len len fits stamp other =
    let z = last_places s x in
    let names = pair_names block z in
    stay_append block (move_list (pair_names block x) (pair_names block y) x y) (move_list (pair_names block y) names y z ++ cut_list names r data_len stored_len len)
    (moves_stay block (pair_names block x) x y fits other)
    (stay_append block (move_list (pair_names block y) names y z) (cut_list names r data_len stored_len len)
    (moves_stay block (pair_names block y) y z fits stamp)
    (stay_append block (only (nat_lt len data_len) (Cut names.«data» len)) (only (nat_lt (meta_len r len) stored_len) (Cut names.meta (meta_len r len)))
    (cut_stays block (nat_lt len data_len) names.«data» len) (cut_stays block (nat_lt (meta_len r len) stored_len) names.meta (meta_len r len))))

pub settles_pair : (block : BlockId) (m : FileMap) (temporary : List (List ℕ)) (x : ReadPair) → block.0 < 2 ^ 64 → AreNamesOf (temporary_part m) temporary → IsReadPair block m x
    → Settles block m (remove_list temporary ++ settle_list (names_of block.0 x) x) (read_scanned block x)
settles_pair block m temporary x fits are r =
    let p = r.pair in
    let b = block.0 in
    let first = remove_list temporary in
    let second = settle_list (names_of b x) x in
    let some : 1 ≤ p.rule.chunk = omega (arith, r.is_pair.chunk_fits.least) in
    let leads = settled_leads p x.kept in
    let calls = calls_of b (pair_calls p x.kept) (placement_of p) in
    let same : second ≡ calls = list_same block m x r ∙ sym (settled_named b p x.kept) in
    let clean : run first m ≡ files_of b (placement_of p) = temporary_removed m temporary are ∙ r.is_pair.files_are in
    let stamp : p.places.stamp.0 < 2 ^ 64 = r.is_pair.places_are.sums_at.stamp_fits in
    let end : run (first ++ second) m ≡ files_of b (placed_info (settled_at (state_of p) p.places.stamp p.rule (length (take x.kept p.bytes))) (take x.kept p.bytes)) =
    run_append first second m ∙ (ap (run second) clean ∙ (ap (λ l. run l (files_of b (placement_of p))) same
    ∙ (calls_place_files b (pair_calls p x.kept) (placement_of p) fits leads.able ∙ (ap (files_of b) leads.there ∙ held_so b p x.kept some r.kept_is)))) in
    record {
      found = find_append m first second (temporary_found m temporary are)
          (subst (λ f. FindFiles f second) (sym clean) (subst (λ l. FindFiles (files_of b (placement_of p)) l) (sym same) (calls_find_files b (pair_calls p x.kept) (placement_of p) fits leads.able)));
      are = settles temporary p x.kept are r.is_pair r.kept_is (ap (λ l. first ++ l) same);
      made = inl (record { pair = p; len = x.kept; is_pair = r.is_pair; kept = r.kept_is; found = scanned_same block m x r; held = end });
      stay = stay_append b first second (removals_stay b temporary)
          (subst (StayOf b) (sym (list_same block m x r))
          (list_stays b p.places (layout_places p.places) (state_of p) p.rule (length p.bytes) (header_len + length p.stored) x.kept fits stamp
          (subst (λ (y : PairPlaces). y.stamp.0 < 2 ^ 64) (sym (layout_is p.places)) stamp)));
    }

pub settles_none : (block : BlockId) (m : FileMap) (temporary : List (List ℕ)) → AreNamesOf (temporary_part m) temporary → ((p : Pair) → IsPair block m p → ⊥) → Settles block m (remove_list temporary) scanned_none
settles_none block m temporary are none = record {
  found = temporary_found m temporary are;
  are = removes temporary are none refl;
  made = inr (record { none = none; found = refl; left = temporary_removed m temporary are });
  stay = removals_stay block.0 temporary;
}
