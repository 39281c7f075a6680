-- Which files a loss of power leaves of a replica whose files were synced.
use Rattle.std.proofs.Common.{◌≡◌, ℕ, ◌+◌, ◌*◌, ◌^◌, ◌<◌, ◌≤◌, cond, Bool, true, false, List, [], ◌∷◌, ◌++◌, length, take, drop, Option, Some, None, IsSomeAnd, refl, sym, ap, subst, ◌∙◌, arith}
use Rattle.std.proofs.lemmas.List.{length-take, length-drop, take-take, take-append-drop}
use Rattle.std.proofs.Math.Seq.{take-append_seam, drop-append_seam}
use Rattle.std.specs.Str.{bytes_eq}
use Rattle.hd_base.specs.FileMaps.{FileMap}
use Rattle.hd_base.specs.SumRules.{Rule}
use Rattle.hd_base.specs.Calls.{Call, Sync, run, effect_of}
use Rattle.hd_base.specs.Calls as file_call
use Rattle.file_calls.specs.Disks.{DiskFile, disk_of}
use Rattle.file_calls.specs.Losses.{MayStand, PowerLost}
use Rattle.file_calls.specs.Durable.{HasFront, name_after}
use Rattle.file_calls.proofs.DiskLaws.{seen_of, shows_disk_of, synced-stays}
use Rattle.chunk_sums.specs.Chunks.{sums}
use Rattle.meta_file.specs.declared.names.Folder.{Folder}
use Rattle.meta_file.specs.Headers.{header_of}
use Rattle.block_files.specs.Placements.{Placement, Both, data_name, meta_name, files_of}
use Rattle.block_files.specs.BlockCalls.{BlockCall, all_placed, data_at, meta_at, calls_of, AreAble, stopped}
use Rattle.block_files.proofs.NameLemmas.{data_meta}
use Rattle.block_files.proofs.PlacementLaws.{stopped_calls_place_files}
use Rattle.replica_model.specs.Sums.{meta_of}
use Rattle.replica_model.specs.Plans.{has_sums, sync_calls}
use Rattle.restart_scan.specs.Laws.{IsPlain}
use Rattle.restart_scan.proofs.ReadLemmas.{two_files}
use Rattle.restart_scan.proofs.WholeLemmas.{same_name, first_there, second_there}
use Rattle.durable_replicas.specs.Fronts.{whole_sums, front_len, AllLeaveFronts}
use Rattle.durable_replicas.proofs.PlanLemmas.{front_within}
use Rattle.durable_replicas.proofs.SpareLemmas.{IsLaid, stays_laid, spares_data, spares_meta, stopped_named, stopped_leaves}
use Rattle.durable_replicas.proofs.ScanLemmas.{same_inside}

pub run_append : (xs ys : List Call) (m : FileMap) → run (xs ++ ys) m ≡ run ys (run xs m)
run_append [] ys m = refl
run_append (x ∷ xs) ys m = run_append xs ys (effect_of x m)

-- a file that is there, with its front
front_of : (o : Option (List ℕ)) (P : List ℕ → Type 0) → IsSomeAnd o P → (b : List ℕ) × (o ≡ Some b) × P b
front_of None P h = absurd h
front_of (Some b) P h = (b, refl, h)

-- where readers see no file, none is left
none_left : (file : Option DiskFile) (o : Option (List ℕ)) → seen_of file ≡ None → MayStand file o → o ≡ None
none_left None None e stands = refl
none_left None (Some b) e stands = absurd stands
none_left (Some f) o e stands = absurd (some_none f.bytes e) where
  some_none : (b : List ℕ) → ◌≡◌ {A = Option (List ℕ)} (Some b) None → ⊥
  some_none b e = cc

-- Of two files that are left no other is there.
two_left : (start left : FileMap) (calls : List Call) (a x c y u v : List ℕ) → PowerLost start calls left → run calls start ≡ two_files a x c y → left a ≡ Some u → left c ≡ Some v → left ≡ two_files a u c v
two_left start left calls a x c y u v lost made first second = λ i q. at q i where
  other : (q : List ℕ) (t : Bool) → bytes_eq a q ≡ false → bytes_eq c q ≡ t → left q ≡ cond t (Some v) None
  other q true ea ec = ap left (sym (same_name c q ec)) ∙ second
  other q false ea ec =
      let away : two_files a x c y q ≡ None = ap (λ t. cond t (Some x) (cond (bytes_eq c q) (Some y) None)) ea ∙ ap (λ t. cond t (Some y) None) ec in
      none_left (disk_of start calls q) (left q) (shows_disk_of start calls q ∙ (ap (λ (m : FileMap). m q) made ∙ away)) (lost q)

  by : (q : List ℕ) (t : Bool) → bytes_eq a q ≡ t → left q ≡ cond t (Some u) (cond (bytes_eq c q) (Some v) None)
  by q true e = ap left (sym (same_name a q e)) ∙ first
  by q false e = other q (bytes_eq c q) e refl

  at : (q : List ℕ) → left q ≡ two_files a u c v q
  at q = by q (bytes_eq a q) refl

-- The two files begin with these bytes and the sums of their whole chunks.
pub record LeavesTwo (block n : ℕ) (r : Rule) (written : List ℕ) (left : FileMap) : Type 0 where
  pub folder : Folder
  pub meta_folder : Folder
  pub stamp : ℕ
  pub bytes : List ℕ
  pub stored : List ℕ
  pub is : left ≡ files_of block (Both folder bytes meta_folder stamp (header_of r ++ stored))
  pub plain : IsPlain folder
  pub meta_plain : IsPlain meta_folder
  pub stamp_fits : stamp < 2 ^ 64
  pub there : n ≤ length bytes
  pub same : take n bytes ≡ take n written
  pub stored_there : 4 * whole_sums (has_sums r.kind) r n ≤ length stored
  pub same_sums : take (4 * whole_sums (has_sums r.kind) r n) stored ≡ take (4 * whole_sums (has_sums r.kind) r n) (sums r written)

as_long : (n : ℕ) (xs ys : List ℕ) → n ≤ length ys → take n xs ≡ take n ys → n ≤ length xs
as_long n xs ys there e = let lens : length (take n xs) ≡ length (take n ys) = ap length e in omega (arith, lens, length-take n xs, length-take n ys, there)

-- A metadata file whose front is that of the one that was written begins with its header.
record HasHeader (r : Rule) (s : ℕ) (meta written : List ℕ) : Type 0 where
  stored : List ℕ
  is : meta ≡ header_of r ++ stored
  there : 4 * s ≤ length stored
  same : take (4 * s) stored ≡ take (4 * s) (sums r written)

has_header : (r : Rule) (s : ℕ) (meta written : List ℕ) → 7 + 4 * s ≤ length (meta_of r written) → take (7 + 4 * s) meta ≡ take (7 + 4 * s) (meta_of r written) → HasHeader r s meta written
has_header r s meta written there e =
    let within : 7 ≤ 7 + 4 * s = omega arith in
    let head : take 7 meta ≡ header_of r =
    sym (take-take 7 (7 + 4 * s) meta within) ∙ (ap (take 7) e ∙ (take-take 7 (7 + 4 * s) (meta_of r written) within ∙ take-append_seam (header_of r) (sums r written))) in
    record {
      stored = drop 7 meta;
      is = sym (take-append-drop 7 meta) ∙ ap (λ l. l ++ drop 7 meta) head;
      there = omega (arith, length-drop 7 meta, as_long (7 + 4 * s) meta (meta_of r written) there e);
      same = same_inside 7 (4 * s) (7 + 4 * s) meta (meta_of r written) (omega arith) e ∙ ap (take (4 * s)) (drop-append_seam (header_of r) (sums r written));
    }

-- After the syncs and calls that leave the fronts, wherever these are stopped.
pub leaves_two : (start left : FileMap) (before : List Call) (block n i j : ℕ) (f : Folder) (g : ℕ) (r : Rule) (written : List ℕ) (calls : List BlockCall) → block < 2 ^ 64 → 1 ≤ r.chunk → IsPlain f → g < 2 ^ 64 → n ≤ length written
    → run before start ≡ files_of block (Both f written f g (meta_of r written)) → AllLeaveFronts n (front_len r n) calls → AreAble (Both f written f g (meta_of r written)) calls
    → PowerLost start (before ++ (calls_of block sync_calls (Both f written f g (meta_of r written)) ++ file_call.stopped i j (calls_of block calls (Both f written f g (meta_of r written))))) left
    → LeavesTwo block n r written left
leaves_two start left before block n i j f g r written calls fits some plain stamp_fits within made leaves able lost = record {
  folder = laid.folder;
  meta_folder = laid.meta_folder;
  stamp = laid.stamp;
  bytes = body.0;
  stored = header.stored;
  is = two_left start left all (data_name laid.folder block) laid.bytes (meta_name laid.meta_folder laid.stamp block) laid.meta body.0 (header_of r ++ header.stored) lost run_is body.1 (sums_file.1 ∙ ap Some header.is);
  plain = laid.plain;
  meta_plain = laid.meta_plain;
  stamp_fits = laid.stamp_fits;
  there = as_long n body.0 written within body.2;
  same = body.2;
  stored_there = header.there;
  same_sums = header.same;
} where
  m : ℕ
  m = front_len r n

  p : Placement
  p = Both f written f g (meta_of r written)

  a : List ℕ
  a = data_name f block

  c : List ℕ
  c = meta_name f g block

  more : List Call
  more = calls_of block calls p

  all : List Call
  all = before ++ Sync a ∷ Sync c ∷ file_call.stopped i j more

  laid : IsLaid (all_placed (stopped i j calls) p)
  laid = stays_laid n m (stopped i j calls) f written f g (meta_of r written) plain plain stamp_fits (stopped_leaves n m calls i j leaves)

  run_is : run all start ≡ files_of block (Both laid.folder laid.bytes laid.meta_folder laid.stamp laid.meta)
  run_is = run_append before (Sync a ∷ Sync c ∷ file_call.stopped i j more) start
      ∙ (ap (run (file_call.stopped i j more)) made ∙ (stopped_calls_place_files block calls p i j fits able ∙ ap (files_of block) laid.is))

  meta_there : m ≤ length (meta_of r written)
  meta_there = front_within r written n some within

  fronts : HasFront left (name_after (file_call.stopped i j more) a) n written × HasFront left (name_after (file_call.stopped i j more) c) m (meta_of r written)
  fronts = synced-stays start left before more a c written (meta_of r written) n m i j
      (ap (λ (q : FileMap). q a) made ∙ first_there a written c (meta_of r written)) (ap (λ (q : FileMap). q c) made ∙ second_there a written c (meta_of r written) (data_meta f f g block fits))
      within meta_there (spares_data block n m fits calls f written f g (meta_of r written) leaves).spare (spares_meta block n m fits calls f written f g (meta_of r written) leaves).spare lost

  data_named : name_after (file_call.stopped i j more) a ≡ data_name laid.folder block
  data_named = ap (λ l. name_after l a) (stopped_named block calls p i j)
      ∙ ((spares_data block n m fits (stopped i j calls) f written f g (meta_of r written) (stopped_leaves n m calls i j leaves)).named ∙ ap (data_at block) laid.is)

  meta_named : name_after (file_call.stopped i j more) c ≡ meta_name laid.meta_folder laid.stamp block
  meta_named = ap (λ l. name_after l c) (stopped_named block calls p i j)
      ∙ ((spares_meta block n m fits (stopped i j calls) f written f g (meta_of r written) (stopped_leaves n m calls i j leaves)).named ∙ ap (meta_at block) laid.is)

  body : (b : List ℕ) × (left (data_name laid.folder block) ≡ Some b) × (take n b ≡ take n written)
  body = front_of (left (data_name laid.folder block)) (λ b. take n b ≡ take n written) (subst (λ l. HasFront left l n written) data_named fronts.0)

  sums_file : (b : List ℕ) × (left (meta_name laid.meta_folder laid.stamp block) ≡ Some b) × (take m b ≡ take m (meta_of r written))
  sums_file = front_of (left (meta_name laid.meta_folder laid.stamp block)) (λ b. take m b ≡ take m (meta_of r written)) (subst (λ l. HasFront left l m (meta_of r written)) meta_named fronts.1)

  header : HasHeader r (whole_sums (has_sums r.kind) r n) sums_file.0 written
  header = has_header r (whole_sums (has_sums r.kind) r n) sums_file.0 written meta_there sums_file.2
