-- What a further scan finds after one that stopped.
use Rattle.std.proofs.Common.{◌≡◌, ◌⊎◌, inl, inr, ℕ, zero, suc, ◌+◌, ◌*◌, ◌^◌, ◌<◌, ◌≤◌, ◌&&◌, not, nat_lt, cond, Bool, true, false, List, [], ◌∷◌, ◌++◌, length, take, Option, Some, None, IsSome, Contains, refl, sym, ap, subst, ◌∙◌, arith}
use Rattle.std.proofs.lemmas.List.{take_all, length-take, take-take}
use Rattle.std.proofs.Math.Seq.{take-append-add}
use Rattle.std.specs.Str.{bytes_eq}
use Rattle.hd_base.specs.FileMaps.{FileMap, without, AreNamesOf}
use Rattle.hd_base.specs.Calls.{Call, run, stopped, effect_of}
use Rattle.hd_base.specs.declared.numbers.BlockId.{BlockId}
use Rattle.hd_base.specs.declared.numbers.Stamp.{Stamp}
use Rattle.hd_base.specs.declared.states.ReplicaState.{ReplicaState}
use Rattle.hd_base.specs.declared.states.ReplicaState.TheVariants as state
use Rattle.hd_base.specs.SumRules.{Rule}
use Rattle.chunk_sums.specs.Chunks.{sums, sum_count}
use Rattle.chunk_sums.proofs.ChunkLemmas.{length-sums}
use Rattle.meta_file.specs.declared.names.Folder.{Folder}
use Rattle.meta_file.specs.declared.names.Folder.TheVariants.{Rbw, Finalized, Finalized56, Tmp}
use Rattle.meta_file.specs.declared.names.Named.TheVariants.{Body, Sums}
use Rattle.meta_file.specs.Names.{as_read}
use Rattle.meta_file.specs.Headers.{header_of}
use Rattle.block_files.specs.Placements.{Placement, Both, files_of, data_name, meta_name}
use Rattle.block_files.specs.BlockCalls.{BlockCall, CutData, CutMeta, MoveData, MoveMeta, placed, all_placed, calls_of}
use Rattle.block_files.specs.BlockCalls as block_calls
use Rattle.block_files.proofs.PlacementLaws.{stopped_calls_place_files}
use Rattle.block_files.proofs.NameLemmas.{data_meta}
use Rattle.replica_core.specs.Info.{settled_at}
use Rattle.replica_model.specs.Sums.{header_len, meta_len}
use Rattle.replica_model.specs.Plans.{folder_of, same_folder, when, placed_info, has_sums}
use Rattle.replica_calls.specs.CallLists.{remove_list}
use Rattle.restart_scan.specs.declared.pairs.PairPlaces.{PairPlaces}
use Rattle.restart_scan.specs.declared.found.Scanned.{Scanned}
use Rattle.restart_scan.specs.Pairs.{Pair, IsPair, placement_of, is_temporary, temporary_part, without_temporary}
use Rattle.restart_scan.specs.Kept.{IsKept}
use Rattle.restart_scan.specs.Blocks.{is_final, both_final, both_in, last_places, is_moved, is_whole, state_when, state_of, moves, cuts, pair_calls, scanned_pair, ScansPair, ScansOthers, ScansBlock, ScanCalls, settles, removes}
use Rattle.restart_scan.specs.Shelves.{IsPartly}
use Rattle.restart_scan.specs.Further.{IsLaidOut, FindsAgain, FurtherScansFindTheSame}
use Rattle.restart_scan.proofs.FrontLemmas.{whole_by}
use Rattle.restart_scan.proofs.SettleLemmas.{same_is, is_less, not_less, settled_leads}
use Rattle.restart_scan.proofs.WholeLemmas.{and_left, and_right, two_stay, same_name, first_there, second_there, none_some, plain_rbw, plain_final}
use Rattle.restart_scan.proofs.StopLemmas.{Stops, stops_append, stops_when, stops_cut_data, stops_cut_meta, stops_move_meta, stops_move_data}
use Rattle.restart_scan.proofs.RemovalLemmas.{temporary_removed}
use Rattle.restart_scan.proofs.OnceLemmas.{pair_from, pair_once, kept_once, kept_cut, kept_short}

true_false : true ≡ false → ⊥
true_false e = cc

-- ---- what stays of a pair

-- The name of the data file in this folder is read so, and doesn't lie in tmp.
record IsBodyPlace (block : BlockId) (f : Folder) : Type 0 where
  apart : is_temporary (data_name f block.0) ≡ false
  read : as_read (Body block f) ≡ Body block f

-- The same of the metadata file.
record IsSumsPlace (block : BlockId) (stamp : Stamp) (f : Folder) : Type 0 where
  apart : is_temporary (meta_name f stamp.0 block.0) ≡ false
  read : as_read (Sums block stamp f) ≡ Sums block stamp f

-- the pair elsewhere, with other bytes
abbrev elsewhere : Pair → Folder → Folder → List ℕ → List ℕ → Pair
elsewhere p f mf bytes stored = pair_from f mf p.places.stamp p.rule bytes stored

-- Of a pair of which so many bytes are kept, the same is found in these folders, with these bytes.
record Stays (block : BlockId) (p : Pair) (len : ℕ) (f mf : Folder) (bytes stored : List ℕ) : Type 0 where
  kept : IsKept p.rule bytes stored len
  found : state_of (elsewhere p f mf bytes stored) ≡ state_of p
  front : take len bytes ≡ take len p.bytes
  body : IsBodyPlace block f
  meta : IsSumsPlace block p.places.stamp mf
  moved : is_moved (elsewhere p f mf bytes stored).places ≡ true → is_moved p.places ≡ true
  rest : is_moved p.places ≡ true → is_moved (elsewhere p f mf bytes stored).places ≡ false → IsLaidOut (elsewhere p f mf bytes stored).places

-- the same of where the files lie
record StaysAt (block : BlockId) (p : Pair) (len : ℕ) (at : Placement) : Type 0 where
  folder : Folder
  meta_folder : Folder
  bytes : List ℕ
  stored : List ℕ
  is : at ≡ placement_of (elsewhere p folder meta_folder bytes stored)
  stays : Stays block p len folder meta_folder bytes stored

-- ---- a pair's files lie apart from tmp

module _ (block : BlockId) (m : FileMap) (p : Pair) (fits : block.0 < 2 ^ 64) (pair : IsPair block m p) where
  body_name : List ℕ
  body_name = data_name p.places.folder block.0

  sums_name : List ℕ
  sums_name = meta_name p.places.meta_folder p.places.stamp.0 block.0

  at_name : (q x : List ℕ) → without_temporary m q ≡ Some x → is_temporary q ≡ false
  at_name q x there = by (is_temporary q) refl where
    by : (t : Bool) → is_temporary q ≡ t → t ≡ false
    by true e = absurd (none_some x (sym (ap (λ u. cond u None (m q)) e) ∙ there))
    by false e = refl

  body_apart : is_temporary (data_name p.places.folder block.0) ≡ false
  body_apart =
      let a = data_name p.places.folder block.0 in
      let c = meta_name p.places.meta_folder p.places.stamp.0 block.0 in
      at_name a p.bytes (ap (λ (g : FileMap). g a) pair.files_are ∙ first_there a p.bytes c (header_of p.rule ++ p.stored))

  sums_apart : is_temporary (meta_name p.places.meta_folder p.places.stamp.0 block.0) ≡ false
  sums_apart =
      let a = data_name p.places.folder block.0 in
      let c = meta_name p.places.meta_folder p.places.stamp.0 block.0 in
      at_name c (header_of p.rule ++ p.stored) (ap (λ (g : FileMap). g c) pair.files_are
      ∙ second_there a p.bytes c (header_of p.rule ++ p.stored) (data_meta p.places.folder p.places.meta_folder p.places.stamp.0 block.0 fits))

  body_place : IsBodyPlace block p.places.folder
  body_place = record { apart = body_apart; read = pair.places_are.body_at.read }

  sums_place : IsSumsPlace block p.places.stamp p.places.meta_folder
  sums_place = record { apart = sums_apart; read = pair.places_are.sums_at.read }

rbw_body : (block : BlockId) (stamp : Stamp) → IsBodyPlace block Rbw
rbw_body block stamp = let x = plain_rbw block stamp in record { apart = x.body_apart; read = x.body_read }

rbw_sums : (block : BlockId) (stamp : Stamp) → IsSumsPlace block stamp Rbw
rbw_sums block stamp = let x = plain_rbw block stamp in record { apart = x.sums_apart; read = x.sums_read }

final_body : (block : BlockId) (stamp : Stamp) → IsBodyPlace block Finalized
final_body block stamp = let x = plain_final block stamp in record { apart = x.body_apart; read = x.body_read }

final_sums : (block : BlockId) (stamp : Stamp) → IsSumsPlace block stamp Finalized
final_sums block stamp = let x = plain_final block stamp in record { apart = x.sums_apart; read = x.sums_read }

-- ---- stops at the calls of a pair

there_first : (f mf mk : Folder) (g : ℕ) (d m : List ℕ) → all_placed (when (not (same_folder mf mk)) (MoveMeta mk g ∷ [])) (Both f d mf g m) ≡ Both f d mk g m
there_first f mf mk g d m = by (same_folder mf mk) refl where
  by : (t : Bool) → same_folder mf mk ≡ t → all_placed (when (not t) (MoveMeta mk g ∷ [])) (Both f d mf g m) ≡ Both f d mk g m
  by true e = ap (λ x. Both f d x g m) (same_is mf mk e)
  by false e = refl

there_moved : (f mf k mk : Folder) (g : ℕ) (d m : List ℕ) → all_placed (when (not (same_folder mf mk)) (MoveMeta mk g ∷ []) ++ when (not (same_folder f k)) (MoveData k ∷ [])) (Both f d mf g m) ≡ Both k d mk g m
there_moved f mf k mk g d m = all_append (when (not (same_folder mf mk)) (MoveMeta mk g ∷ [])) (when (not (same_folder f k)) (MoveData k ∷ [])) (Both f d mf g m)
    ∙ (ap (all_placed (when (not (same_folder f k)) (MoveData k ∷ []))) (there_first f mf mk g d m) ∙ by (same_folder f k) refl) where
      all_append : (xs ys : List BlockCall) (p : Placement) → all_placed (xs ++ ys) p ≡ all_placed ys (all_placed xs p)
      all_append [] ys p = refl
      all_append (x ∷ xs) ys p = all_append xs ys (placed x p)

      by : (t : Bool) → same_folder f k ≡ t → all_placed (when (not t) (MoveData k ∷ [])) (Both f d mk g m) ≡ Both k d mk g m
      by true e = ap (λ x. Both x d mk g m) (same_is f k e)
      by false e = refl

stops_moves : (S : Placement → Type 0) (f mf k mk : Folder) (g : ℕ) (d m : List ℕ) → S (Both f d mf g m) → S (Both f d mk g m) → S (Both k d mk g m)
    → Stops S (when (not (same_folder mf mk)) (MoveMeta mk g ∷ []) ++ when (not (same_folder f k)) (MoveData k ∷ [])) (Both f d mf g m)
stops_moves S f mf k mk g d m a b c =
    let first = when (not (same_folder mf mk)) (MoveMeta mk g ∷ []) in
    let second = when (not (same_folder f k)) (MoveData k ∷ []) in
    stops_append S first second (Both f d mf g m)
    (stops_when S (not (same_folder mf mk)) (MoveMeta mk g ∷ []) (Both f d mf g m) (λ _. stops_move_meta S mk g (Both f d mf g m) a b) a)
    (subst (Stops S second) (sym (there_first f mf mk g d m))
    (stops_when S (not (same_folder f k)) (MoveData k ∷ []) (Both f d mk g m) (λ _. stops_move_data S k (Both f d mk g m) b c) b))

there_cut : (f mf : Folder) (g : ℕ) (d m : List ℕ) (len : ℕ) → all_placed (when (nat_lt len (length d)) (CutData len ∷ [])) (Both f d mf g m) ≡ Both f (take len d) mf g m
there_cut f mf g d m len = by (nat_lt len (length d)) refl where
  by : (t : Bool) → nat_lt len (length d) ≡ t → all_placed (when t (CutData len ∷ [])) (Both f d mf g m) ≡ Both f (take len d) mf g m
  by true e = refl
  by false e = ap (λ x. Both f x mf g m) (sym (take_all len d (not_less len (length d) e)))

stops_cuts : (S : Placement → Type 0) (f mf : Folder) (g : ℕ) (d m : List ℕ) (len left stored_len : ℕ) → S (Both f d mf g m) → S (Both f (take len d) mf g m) → (left < stored_len → S (Both f (take len d) mf g (take left m)))
    → Stops S (when (nat_lt len (length d)) (CutData len ∷ []) ++ when (nat_lt left stored_len) (CutMeta left ∷ [])) (Both f d mf g m)
stops_cuts S f mf g d m len left stored_len a b c =
    let second = when (nat_lt left stored_len) (CutMeta left ∷ []) in
    stops_append S (when (nat_lt len (length d)) (CutData len ∷ [])) second (Both f d mf g m)
    (stops_when S (nat_lt len (length d)) (CutData len ∷ []) (Both f d mf g m) (λ _. stops_cut_data S len (Both f d mf g m) a b) a)
    (subst (Stops S second) (sym (there_cut f mf g d m len))
    (stops_when S (nat_lt left stored_len) (CutMeta left ∷ []) (Both f (take len d) mf g m) (λ e. stops_cut_meta S left (Both f (take len d) mf g m) b (c (is_less left stored_len e))) b))

-- all calls, by where the files lie first, in layout -57, and at last
stops_pair : (S : Placement → Type 0) (f mf k mk l ml : Folder) (stamp : Stamp) (d m : List ℕ) (r : Rule) (stored_len len : ℕ)
    → S (Both f d mf stamp.0 m) → S (Both f d mk stamp.0 m) → S (Both k d mk stamp.0 m) → S (Both k d ml stamp.0 m) → S (Both l d ml stamp.0 m) → S (Both l (take len d) ml stamp.0 m)
    → (meta_len r len < stored_len → S (Both l (take len d) ml stamp.0 (take (meta_len r len) m)))
    → Stops S (moves (record { folder = f; meta_folder = mf; stamp = stamp }) (record { folder = k; meta_folder = mk; stamp = stamp })
    ++ (moves (record { folder = k; meta_folder = mk; stamp = stamp }) (record { folder = l; meta_folder = ml; stamp = stamp }) ++ cuts r (length d) stored_len len)) (Both f d mf stamp.0 m)
stops_pair S f mf k mk l ml stamp d m r stored_len len s0 s1 s2 s3 s4 s5 s6 =
    let x : PairPlaces = record { folder = f; meta_folder = mf; stamp = stamp } in
    let y : PairPlaces = record { folder = k; meta_folder = mk; stamp = stamp } in
    let z : PairPlaces = record { folder = l; meta_folder = ml; stamp = stamp } in
    let g = stamp.0 in
    let rest = cuts r (length d) stored_len len in
    stops_append S (moves x y) (moves y z ++ rest) (Both f d mf g m) (stops_moves S f mf k mk g d m s0 s1 s2)
    (subst (Stops S (moves y z ++ rest)) (sym (there_moved f mf k mk g d m))
    (stops_append S (moves y z) rest (Both k d mk g m) (stops_moves S k mk l ml g d m s2 s3 s4)
    (subst (Stops S rest) (sym (there_moved k mk l ml g d m))
    (stops_cuts S l ml g d m len (meta_len r len) stored_len s4 s5 s6))))

-- ---- which pairs are named as moved

moved_meta : (f m : Folder) → is_final f ≡ true → is_final m ≡ true → ((is_final f && true) && not (same_folder f Finalized && true)) ≡ true → ((is_final f && is_final m) && not (same_folder f Finalized && same_folder m Finalized)) ≡ true
moved_meta Finalized Finalized a b e = absurd (true_false (sym e))
moved_meta Finalized Finalized56 a b e = refl
moved_meta Finalized56 Finalized a b e = refl
moved_meta Finalized56 Finalized56 a b e = refl
moved_meta Rbw m a b e = absurd (true_false (sym a))
moved_meta Tmp m a b e = absurd (true_false (sym a))
moved_meta Finalized Rbw a b e = absurd (true_false (sym b))
moved_meta Finalized Tmp a b e = absurd (true_false (sym b))
moved_meta Finalized56 Rbw a b e = absurd (true_false (sym b))
moved_meta Finalized56 Tmp a b e = absurd (true_false (sym b))

left_there : (f : Folder) → ((is_final f && true) && not (same_folder f Finalized && true)) ≡ false → f ≡ Finalized56 → ⊥
left_there f e same = true_false (subst (λ q. ((is_final q && true) && not (same_folder q Finalized && true)) ≡ false) same e)

final_older : Finalized ≡ Finalized56 → ⊥
final_older e = cc

rbw_older : Rbw ≡ Finalized56 → ⊥
rbw_older e = cc

and_none : (p q : Bool) → ((p && false) && q) ≡ false
and_none true q = refl
and_none false q = refl

none_final : (p : Bool) → (p && false) ≡ false
none_final true = refl
none_final false = refl

-- ---- every stop

module _ (block : BlockId) (old : FileMap) (p : Pair) (len : ℕ) (fits : block.0 < 2 ^ 64) (pair : IsPair block old p) (kept : IsKept p.rule p.bytes p.stored len) where
  some : 1 ≤ p.rule.chunk
  some = omega (arith, pair.chunk_fits.least)

  -- the files where they lie at first
  stays_here : Stays block p len p.places.folder p.places.meta_folder p.bytes p.stored
  stays_here = record {
    kept = kept;
    found = refl;
    front = refl;
    body = body_place block old p fits pair;
    meta = sums_place block old p fits pair;
    moved = λ e. e;
    rest = λ a b. absurd (true_false (sym a ∙ b));
  }

  at_first : StaysAt block p len (placement_of p)
  at_first = record { folder = p.places.folder; meta_folder = p.places.meta_folder; bytes = p.bytes; stored = p.stored; is = refl; stays = stays_here }

  stays_to : (f mf : Folder) (bytes stored : List ℕ) → Stays block p len f mf bytes stored → StaysAt block p len (placement_of (elsewhere p f mf bytes stored))
  stays_to f mf bytes stored s = record { folder = f; meta_folder = mf; bytes = bytes; stored = stored; is = refl; stays = s }

  -- both files in rbw
  in_rbw : state_of p ≡ state.Rwr → (bytes stored : List ℕ) → IsKept p.rule bytes stored len → take len bytes ≡ take len p.bytes → StaysAt block p len (placement_of (elsewhere p Rbw Rbw bytes stored))
  in_rbw rwr bytes stored k front = stays_to Rbw Rbw bytes stored (record {
    kept = k;
    found = sym rwr;
    front = front;
    body = rbw_body block p.places.stamp;
    meta = rbw_sums block p.places.stamp;
    moved = λ e. absurd (true_false (sym e));
    rest = λ a b. record { body = rbw_older; meta = rbw_older };
  })

  cut_front : take len (take len p.bytes) ≡ take len p.bytes
  cut_front = take-take len len p.bytes (omega arith)

  in_rbw_cut : state_of p ≡ state.Rwr → StaysAt block p len (placement_of (elsewhere p Rbw Rbw (take len p.bytes) p.stored))
  in_rbw_cut rwr = in_rbw rwr (take len p.bytes) p.stored (kept_cut p.rule p.bytes p.stored len some kept) cut_front

  in_rbw_short : state_of p ≡ state.Rwr → StaysAt block p len (Both Rbw (take len p.bytes) Rbw p.places.stamp.0 (take (meta_len p.rule len) (header_of p.rule ++ p.stored)))
  in_rbw_short rwr =
      let r = p.rule in
      let count = 4 * sum_count r.kind len r.chunk r.chunk in
      subst (λ l. StaysAt block p len (Both Rbw (take len p.bytes) Rbw p.places.stamp.0 l)) (sym (take-append-add (header_of r) p.stored count))
      (in_rbw rwr (take len p.bytes) (take count p.stored)
      (kept_short r (take len p.bytes) p.stored len some (omega (arith, length-take len p.bytes)) (kept_cut r p.bytes p.stored len some kept)) cut_front)

  -- the data file elsewhere, in a folder that isn't that of layout -56
  meta_in_rbw : (f : Folder) → state_of p ≡ state.Rwr → IsBodyPlace block f → (is_moved p.places ≡ true → f ≡ Finalized56 → ⊥) → StaysAt block p len (placement_of (elsewhere p f Rbw p.bytes p.stored))
  meta_in_rbw f rwr body apart = stays_to f Rbw p.bytes p.stored (record {
    kept = kept;
    found = ap (λ t. state_when (t && bytes_eq p.stored (sums p.rule p.bytes))) (none_final (is_final f)) ∙ sym rwr;
    front = refl;
    body = body;
    meta = rbw_sums block p.places.stamp;
    moved = λ e. absurd (true_false (sym e ∙ and_none (is_final f) _));
    rest = λ a b. record { body = apart a; meta = rbw_older };
  })

  -- in the folder of finalized replicas
  in_final : both_final p.places ≡ true → StaysAt block p len (placement_of (elsewhere p Finalized Finalized p.bytes p.stored))
  in_final final = stays_to Finalized Finalized p.bytes p.stored (record {
    kept = kept;
    found = ap (λ t. state_when (t && is_whole p)) (sym final);
    front = refl;
    body = final_body block p.places.stamp;
    meta = final_sums block p.places.stamp;
    moved = λ e. absurd (true_false (sym e));
    rest = λ a b. record { body = final_older; meta = final_older };
  })

  meta_in_final : both_final p.places ≡ true → StaysAt block p len (placement_of (elsewhere p p.places.folder Finalized p.bytes p.stored))
  meta_in_final final =
      let f = p.places.folder in
      let a = and_left (is_final f) (is_final p.places.meta_folder) final in
      let b = and_right (is_final f) (is_final p.places.meta_folder) final in
      stays_to f Finalized p.bytes p.stored (record {
        kept = kept;
        found = ap (λ t. state_when ((t && true) && is_whole p)) a ∙ ap (λ t. state_when (t && is_whole p)) (sym final);
        front = refl;
        body = body_place block old p fits pair;
        meta = final_sums block p.places.stamp;
        moved = λ e. moved_meta f p.places.meta_folder a b e;
        rest = λ g h. record { body = left_there f h; meta = final_older };
      })

  -- nothing is cut of a whole pair
  all_kept : is_whole p ≡ true → len ≡ length p.bytes
  all_kept e = whole_by (has_sums p.rule.kind) p.rule p.bytes p.stored len refl some kept (same_name p.stored (sums p.rule p.bytes) e)

  nothing_short : is_whole p ≡ true → meta_len p.rule len < header_len + length p.stored → ⊥
  nothing_short e less =
      let count : length p.stored ≡ 4 * sum_count p.rule.kind (length p.bytes) p.rule.chunk p.rule.chunk = ap length (same_name p.stored (sums p.rule p.bytes) e) ∙ length-sums p.rule p.bytes some in
      let left : meta_len p.rule len ≡ header_len + length p.stored = ap (meta_len p.rule) (all_kept e) ∙ ap (λ n. header_len + n) (sym count) in
      absurd (omega (arith, less, left))

  -- the calls by whether both files lie in finalized, and all is whole
  abbrev calls_when : Bool → Bool → List BlockCall
  calls_when t w =
      moves p.places (cond t (both_in Finalized p.places) p.places)
      ++ (moves (cond t (both_in Finalized p.places) p.places) (last_places (state_when (t && w)) p.places)
      ++ cuts p.rule (length p.bytes) (header_len + length p.stored) len)

  stays_when : (t w : Bool) → both_final p.places ≡ t → is_whole p ≡ w → Stops (StaysAt block p len) (calls_when t w) (placement_of p)
  stays_when true true final whole =
      let all : take len p.bytes ≡ p.bytes = take_all len p.bytes (omega (arith, all_kept whole)) in
      let x = p.places in
      let at = in_final final in
      stops_pair (StaysAt block p len) x.folder x.meta_folder Finalized Finalized Finalized Finalized x.stamp p.bytes (header_of p.rule ++ p.stored) p.rule (header_len + length p.stored) len
      at_first (meta_in_final final) at at at
      (subst (λ l. StaysAt block p len (Both Finalized l Finalized x.stamp.0 (header_of p.rule ++ p.stored))) (sym all) at)
      (λ less. absurd (nothing_short whole less))
  stays_when true false final part =
      let x = p.places in
      let rwr : state_of p ≡ state.Rwr = ap (λ u. state_when (u && is_whole p)) final ∙ ap state_when part in
      let at = in_final final in
      stops_pair (StaysAt block p len) x.folder x.meta_folder Finalized Finalized Rbw Rbw x.stamp p.bytes (header_of p.rule ++ p.stored) p.rule (header_len + length p.stored) len
      at_first (meta_in_final final) at (meta_in_rbw Finalized rwr (final_body block x.stamp) (λ _. final_older))
      (in_rbw rwr p.bytes p.stored kept refl) (in_rbw_cut rwr) (λ _. in_rbw_short rwr)
  stays_when false w apart part =
      let x = p.places in
      let rwr : state_of p ≡ state.Rwr = ap (λ u. state_when (u && is_whole p)) apart in
      stops_pair (StaysAt block p len) x.folder x.meta_folder x.folder x.meta_folder Rbw Rbw x.stamp p.bytes (header_of p.rule ++ p.stored) p.rule (header_len + length p.stored) len
      at_first at_first at_first
      (meta_in_rbw x.folder rwr (body_place block old p fits pair) (λ e. absurd (true_false (sym e ∙ ap (λ u. u && not (same_folder x.folder Finalized && same_folder x.meta_folder Finalized)) apart))))
      (in_rbw rwr p.bytes p.stored kept refl) (in_rbw_cut rwr) (λ _. in_rbw_short rwr)

  stays_stopped : Stops (StaysAt block p len) (pair_calls p len) (placement_of p)
  stays_stopped = stays_when (both_final p.places) (is_whole p) refl refl

  -- the pair that is there
  pair_there : (between : FileMap) (at : Placement) → between ≡ files_of block.0 at → (s : StaysAt block p len at) → IsPair block between (elsewhere p s.folder s.meta_folder s.bytes s.stored)
  pair_there between at e s =
      let q = elsewhere p s.folder s.meta_folder s.bytes s.stored in
      record {
        files_are = ap without_temporary (e ∙ ap (files_of block.0) s.is)
            ∙ two_stay (data_name s.folder block.0) s.bytes (meta_name s.meta_folder p.places.stamp.0 block.0) (header_of p.rule ++ s.stored) s.stays.body.apart s.stays.meta.apart;
        chunk_fits = pair.chunk_fits;
        places_are = record {
          body_at = record { named = refl; read = s.stays.body.read };
          sums_at = record { stamp_fits = pair.places_are.sums_at.stamp_fits; named = refl; read = s.stays.meta.read };
        };
      }

-- ---- stops among the removals

removed_one : (m : FileMap) (name : List ℕ) → is_temporary name ≡ true → without_temporary (without m name) ≡ without_temporary m
removed_one m name temporary = λ i q. at q i where
  here : (q : List ℕ) (t : Bool) → is_temporary q ≡ false → bytes_eq name q ≡ t → cond t None (m q) ≡ m q
  here q true e same = absurd (true_false (sym temporary ∙ (ap is_temporary (same_name name q same) ∙ e)))
  here q false e same = refl

  by : (q : List ℕ) (t : Bool) → is_temporary q ≡ t → cond t None (cond (bytes_eq name q) None (m q)) ≡ cond t None (m q)
  by q true e = refl
  by q false e = here q (bytes_eq name q) e refl

  at : (q : List ℕ) → without_temporary (without m name) q ≡ without_temporary m q
  at q = by q (is_temporary q) refl

-- all these names lie in tmp
abbrev AreTemporary : List (List ℕ) → Type 0
AreTemporary names = (q : List ℕ) → Contains names q → is_temporary q ≡ true

names_temporary : (m : FileMap) (names : List (List ℕ)) → AreNamesOf (temporary_part m) names → AreTemporary names
names_temporary m names are q at = by (is_temporary q) refl ((are.each q).0 at) where
  no_file : (o : Option (List ℕ)) → o ≡ None → IsSome o → ⊥
  no_file None e h = cc
  no_file (Some x) e h = cc

  by : (t : Bool) → is_temporary q ≡ t → IsSome (cond (is_temporary q) (m q) None) → t ≡ true
  by true e h = refl
  by false e h = absurd (no_file _ (ap (λ u. cond u (m q) None) e) h)

removals_stopped : (old m : FileMap) (names : List (List ℕ)) → AreTemporary names → without_temporary m ≡ without_temporary old → (k n : ℕ) → without_temporary (run (stopped k n (remove_list names)) m) ≡ without_temporary old
removals_stopped old m [] all same k n = same
removals_stopped old m (name ∷ names) all same zero zero = same
removals_stopped old m (name ∷ names) all same zero (suc n) = removed_one m name (all name (0, omega arith, refl)) ∙ same
removals_stopped old m (name ∷ names) all same (suc k) n =
    removals_stopped old (without m name) names (λ q at. all q (suc at.0, omega (arith, at.1), at.2)) (removed_one m name (all name (0, omega arith, refl)) ∙ same) k n

stopped_append : (P : FileMap → Type 0) (xs ys : List Call) (m : FileMap) → ((k n : ℕ) → P (run (stopped k n xs) m)) → ((k n : ℕ) → P (run (stopped k n ys) (run xs m))) → (k n : ℕ) → P (run (stopped k n (xs ++ ys)) m)
stopped_append P [] ys m a b k n = b k n
stopped_append P (x ∷ xs) ys m a b zero n = a zero n
stopped_append P (x ∷ xs) ys m a b (suc k) n = stopped_append P xs ys (effect_of x m) (λ j i. a (suc j) i) b k n

-- ---- what a scan that stopped leaves

-- A pair was there, and it still is, perhaps in other folders and without further bytes.
record HasPair (block : BlockId) (old between : FileMap) : Type 0 where
  pair : Pair
  len : ℕ
  is_pair : IsPair block old pair
  kept : IsKept pair.rule pair.bytes pair.stored len
  folder : Folder
  meta_folder : Folder
  bytes : List ℕ
  stored : List ℕ
  stays : Stays block pair len folder meta_folder bytes stored
  still : IsPair block between (elsewhere pair folder meta_folder bytes stored)

-- Apart from tmp all is as it was, or there is such a pair.
abbrev Leaves : BlockId → FileMap → FileMap → Type 0
Leaves block old between = (without_temporary between ≡ without_temporary old) ⊎ HasPair block old between

has_pair : (block : BlockId) (old between : FileMap) (p : Pair) (len : ℕ) (fits : block.0 < 2 ^ 64) (is : IsPair block old p) → IsKept p.rule p.bytes p.stored len → (at : Placement) → between ≡ files_of block.0 at → StaysAt block p len at
    → HasPair block old between
has_pair block old between p len fits is kept at e s = record {
  pair = p;
  len = len;
  is_pair = is;
  kept = kept;
  folder = s.folder;
  meta_folder = s.meta_folder;
  bytes = s.bytes;
  stored = s.stored;
  stays = s.stays;
  still = pair_there block old p len fits is kept between at e s;
}

calls_leave : (block : BlockId) (old : FileMap) (calls : List Call) → block.0 < 2 ^ 64 → ScanCalls block old calls → (k n : ℕ) → Leaves block old (run (stopped k n calls) old)
calls_leave block old calls fits (settles temporary p len are is kept same) k n =
    let second = calls_of block.0 (pair_calls p len) (placement_of p) in
    let clean : run (remove_list temporary) old ≡ files_of block.0 (placement_of p) = temporary_removed old temporary are ∙ is.files_are in
    subst (λ l. Leaves block old (run (stopped k n l) old)) (sym same)
    (stopped_append (Leaves block old) (remove_list temporary) second old
    (λ j i. inl (removals_stopped old old temporary (names_temporary old temporary are) refl j i))
    (λ j i. inr (has_pair block old (run (stopped j i second) (run (remove_list temporary) old)) p len fits is kept (all_placed (block_calls.stopped j i (pair_calls p len)) (placement_of p))
    (ap (run (stopped j i second)) clean ∙ stopped_calls_place_files block.0 (pair_calls p len) (placement_of p) j i fits (settled_leads p len).able)
    (stays_stopped block old p len fits is kept j i)))
    k n)
calls_leave block old calls fits (removes temporary are none same) k n =
    subst (λ l. Leaves block old (run (stopped k n l) old)) (sym same) (inl (removals_stopped old old temporary (names_temporary old temporary are) refl k n))

partly_leaves : (block : BlockId) (old between : FileMap) → block.0 < 2 ^ 64 → IsPartly block old between → Leaves block old between
partly_leaves block old between fits (inl same) = inl (ap without_temporary same)
partly_leaves block old between fits (inr s) = subst (Leaves block old) (sym s.4) (calls_leave block old s.0 fits s.3 s.1 s.2)

-- a pair of files that are the same apart from tmp
same_pair : (block : BlockId) (old between : FileMap) (p : Pair) → without_temporary between ≡ without_temporary old → IsPair block old p → IsPair block between p
same_pair block old between p same is = record { files_are = same ∙ is.files_are; chunk_fits = is.chunk_fits; places_are = is.places_are }

-- ---- both scans

-- the files that hold what is kept of a pair
abbrev held_files : BlockId → Pair → ℕ → FileMap
held_files block p len = files_of block.0 (placed_info (settled_at (state_of p) p.places.stamp p.rule (length (take len p.bytes))) (take len p.bytes))

-- A scan found this pair, of which so many bytes are kept.
record FoundPair (block : BlockId) (p : Pair) (len : ℕ) (last : FileMap) (x : Scanned) : Type 0 where
  scanned : x ≡ scanned_pair block p len
  held : last ≡ held_files block p len

found_pair : (block : BlockId) (m last : FileMap) (x : Scanned) (p : Pair) (len : ℕ) → block.0 < 2 ^ 64 → IsPair block m p → IsKept p.rule p.bytes p.stored len → ScansPair block m last x → FoundPair block p len last x
found_pair block m last x p len fits is kept s =
    let e : s.pair ≡ p = pair_once block m s.pair p fits s.is_pair is in
    let lens : s.len ≡ len = kept_once p.rule p.bytes p.stored s.len len (subst (λ (z : Pair). IsKept z.rule z.bytes z.stored s.len) e s.kept) kept in
    record {
      scanned = s.found ∙ (ap (λ z. scanned_pair block z s.len) e ∙ ap (scanned_pair block p) lens);
      held = s.held ∙ (ap (λ z. held_files block z s.len) e ∙ ap (held_files block p) lens);
    }

abbrev scanned_as : BlockId → ReplicaState → PairPlaces → Rule → ℕ → Scanned
scanned_as block s x r len = record {
  seen = Some (record { block = block; folder = folder_of s; state = s; stamp = x.stamp; sums = r; length = len });
  is_moved = is_moved x;
}

abbrev held_as : BlockId → ReplicaState → Stamp → Rule → List ℕ → FileMap
held_as block s stamp r bytes = files_of block.0 (placed_info (settled_at s stamp r (length bytes)) bytes)

again_same : (block : BlockId) (old between whole last : FileMap) (first again : Scanned) → block.0 < 2 ^ 64 → (h : HasPair block old between) → FoundPair block h.pair h.len whole first
    → FoundPair block (elsewhere h.pair h.folder h.meta_folder h.bytes h.stored) h.len last again → FindsAgain block between whole last first again
again_same block old between whole last first again fits h a b =
    let p = h.pair in
    let q = elsewhere p h.folder h.meta_folder h.bytes h.stored in
    let was : is_moved p.places ≡ first.is_moved = ap (λ (x : Scanned). x.is_moved) (sym a.scanned) in
    let is : again.is_moved ≡ is_moved q.places = ap (λ (x : Scanned). x.is_moved) b.scanned in
    record {
      seen = ap (λ (x : Scanned). x.seen) b.scanned
          ∙ (ap (λ s. (scanned_as block s p.places p.rule h.len).seen) h.stays.found ∙ sym (ap (λ (x : Scanned). x.seen) a.scanned));
      files = b.held
          ∙ (ap (λ s. held_as block s p.places.stamp p.rule (take h.len h.bytes)) h.stays.found
          ∙ (ap (held_as block (state_of p) p.places.stamp p.rule) h.stays.front ∙ sym a.held));
      moved = λ e. sym was ∙ h.stays.moved (sym is ∙ e);
      rest = λ e g z there. subst (λ (y : Pair). IsLaidOut y.places) (sym (pair_once block between z q fits there h.still)) (h.stays.rest (was ∙ e) (sym is ∙ g));
    }

again_found : (block : BlockId) (old between whole last : FileMap) (first again : Scanned) → block.0 < 2 ^ 64 → HasPair block old between → ScansPair block old whole first → ScansBlock block between last again
    → FindsAgain block between whole last first again
again_found block old between whole last first again fits h a (inl b) =
    again_same block old between whole last first again fits h (found_pair block old whole first h.pair h.len fits h.is_pair h.kept a)
    (found_pair block between last again (elsewhere h.pair h.folder h.meta_folder h.bytes h.stored) h.len fits h.still h.stays.kept b)
again_found block old between whole last first again fits h a (inr b) = absurd (b.none _ h.still)

again_none : (block : BlockId) (old between whole last : FileMap) (first again : Scanned) → without_temporary between ≡ without_temporary old → ScansOthers block old whole first → ScansBlock block between last again
    → FindsAgain block between whole last first again
again_none block old between whole last first again same a (inl b) = absurd (a.none b.pair (same_pair block between old b.pair (sym same) b.is_pair))
again_none block old between whole last first again same a (inr b) = record {
  seen = ap (λ (x : Scanned). x.seen) (b.found ∙ sym a.found);
  files = b.left ∙ (same ∙ sym a.left);
  moved = λ e. ap (λ (x : Scanned). x.is_moved) (a.found ∙ sym b.found) ∙ e;
  rest = λ e g. absurd (true_false (sym e ∙ ap (λ (x : Scanned). x.is_moved) a.found));
}

pub further_scans_find_the_same : FurtherScansFindTheSame
further_scans_find_the_same block old between whole last first again fits partly one two = by (partly_leaves block old between fits partly) one where
  by : Leaves block old between → ScansBlock block old whole first → FindsAgain block between whole last first again
  by (inl same) (inl a) = again_found block old between whole last first again fits
      (record {
        pair = a.pair;
        len = a.len;
        is_pair = a.is_pair;
        kept = a.kept;
        folder = a.pair.places.folder;
        meta_folder = a.pair.places.meta_folder;
        bytes = a.pair.bytes;
        stored = a.pair.stored;
        stays = stays_here block old a.pair a.len fits a.is_pair a.kept;
        still = same_pair block old between a.pair same a.is_pair;
      }) a two
  by (inl same) (inr a) = again_none block old between whole last first again same a two
  by (inr h) (inl a) = again_found block old between whole last first again fits h a two
  by (inr h) (inr a) = absurd (a.none h.pair h.is_pair)
