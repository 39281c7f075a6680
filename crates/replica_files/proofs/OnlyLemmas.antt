-- Calls that leave all files a block's.
use Rattle.std.proofs.Common.{◌≡◌, ℕ, zero, suc, ◌<◌, ◌^◌, ◌%◌, ◌==◌, ◌&&◌, not, nat_lt, Bool, true, false, List, [], ◌∷◌, ◌++◌, length, Option, Some, None, option_map, refl, sym, ap, subst, ◌∙◌, arith}
use Rattle.std.specs.Str.{bytes_eq}
use Rattle.std.specs.Map.{update}
use Rattle.std.proofs.lemmas.Slice.Eq.{bytes_eq-Decides}
use Rattle.std.proofs.lemmas.Grind.{common_steps}
use Rattle.hd_base.specs.Blocks.{is_of_block}
use Rattle.hd_base.specs.FileMaps.{FileMap, OnlyOf, without}
use Rattle.hd_base.specs.Calls.{Call, Make, Write, Cut, Sync, Rename, Remove, Log, effect_of, run, cut_short, stopped, MakesCalls, StopsWithin}
use Rattle.hd_base.specs.SumRules.{Rule}
use Rattle.meta_file.specs.declared.names.Folder.{Folder}
use Rattle.meta_file.proofs.NameLemmas.{is_of_block-data, is_of_block-meta}
use Rattle.block_files.specs.Placements.{data_name, meta_name}
use Rattle.replica_core.specs.declared.info.ReplicaInfo.{ReplicaInfo}
use Rattle.std.specs.Int.{w32, to_be_bytes}
use Rattle.replica_model.specs.Sums.{sum_place, meta_len}
use Rattle.replica_model.specs.Plans.{folder_of, has_sums, same_folder, leaves_temporary}
use Rattle.replica_calls.specs.declared.names.FileNames.{FileNames}
use Rattle.replica_calls.specs.CallLists.{only, all_if, names_of, remove_list, sync_list, move_list, cut_list, settle_list, grow_list, packet_list, new_list, create_list}

-- a call that makes no file of another block
abbrev pub StaysOf : ℕ → Call → Type 0
StaysOf block (Make name) = is_of_block block name ≡ true
StaysOf block (Write name place bytes) = Unit {0}
StaysOf block (Cut name len) = Unit {0}
StaysOf block (Sync name) = Unit {0}
StaysOf block (Rename from to) = is_of_block block to ≡ true
StaysOf block (Remove name) = Unit {0}

abbrev pub StayOf : ℕ → List Call → Type 0
StayOf block [] = Unit {0}
StayOf block (call ∷ calls) = StaysOf block call × StayOf block calls

pub stay_append : (block : ℕ) (xs ys : List Call) → StayOf block xs → StayOf block ys → StayOf block (xs ++ ys)
stay_append block [] ys a b = b
stay_append block (x ∷ xs) ys a b = (a.0, stay_append block xs ys a.1 b)

-- ---- what they leave

-- each file of the map is of the block
abbrev IsOnly : ℕ → FileMap → Type 0
IsOnly block m = (name : List ℕ) → is_of_block block name ≡ false → m name ≡ None

pub apart : (block : ℕ) (name q : List ℕ) → is_of_block block name ≡ true → is_of_block block q ≡ false → bytes_eq name q ≡ false
apart block name q mine other = grind (arith, common_steps, bytes_eq-Decides name q)

only_put : (block : ℕ) (m : FileMap) (name : List ℕ) (v : Option (List ℕ)) → is_of_block block name ≡ true → IsOnly block m → IsOnly block (update bytes_eq m name v)
only_put block m name v of kept q other = let e = apart block name q of other in rw e (kept q other)

-- a file that may be gone
only_same : (block : ℕ) (m : FileMap) (name : List ℕ) (v : Option (List ℕ)) → (m name ≡ None → v ≡ None) → IsOnly block m → IsOnly block (update bytes_eq m name v)
only_same block m name v none kept q other = by (bytes_eq name q) refl where
  same : bytes_eq name q ≡ true → name ≡ q
  same e = grind (arith, common_steps, bytes_eq-Decides name q)

  by : (b : Bool) → bytes_eq name q ≡ b → update bytes_eq m name v q ≡ None
  by true e = rw e (none (ap m (same e) ∙ kept q other))
  by false e = rw e (kept q other)

map_none : (f : List ℕ → List ℕ) (o : Option (List ℕ)) → o ≡ None → option_map f o ≡ None
map_none f o e = ap (option_map f) e

only_effect : (block : ℕ) (call : Call) (m : FileMap) → StaysOf block call → IsOnly block m → IsOnly block (effect_of call m)
only_effect block (Make name) m of kept = only_put block m name (Some []) of kept
only_effect block (Write name place bytes) m of kept = only_same block m name _ (map_none _ (m name)) kept
only_effect block (Cut name len) m of kept = only_same block m name _ (map_none _ (m name)) kept
only_effect block (Sync name) m of kept = kept
only_effect block (Rename from to) m of kept = only_put block (without m from) to (m from) of (only_same block m from None (λ _. refl) kept)
only_effect block (Remove name) m of kept = only_same block m name None (λ _. refl) kept

only_run : (block : ℕ) (calls : List Call) (m : FileMap) → StayOf block calls → IsOnly block m → IsOnly block (run calls m)
only_run block [] m of kept = kept
only_run block (call ∷ calls) m of kept = only_run block calls (effect_of call m) of.1 (only_effect block call m of.0 kept)

stay_short : (block : ℕ) (n : ℕ) (call : Call) → StaysOf block call → StayOf block (cut_short n call)
stay_short block zero call of = tt
stay_short block (suc n) (Make name) of = (of, tt)
stay_short block (suc n) (Write name place bytes) of = (tt, tt)
stay_short block (suc n) (Cut name len) of = (tt, tt)
stay_short block (suc n) (Sync name) of = (tt, tt)
stay_short block (suc n) (Rename from to) of = (of, tt)
stay_short block (suc n) (Remove name) of = (tt, tt)

stay_stopped : (block : ℕ) (k n : ℕ) (calls : List Call) → StayOf block calls → StayOf block (stopped k n calls)
stay_stopped block k n [] of = tt
stay_stopped block zero n (call ∷ calls) of = stay_short block n call of.0
stay_stopped block (suc k) n (call ∷ calls) of = (of.0, stay_stopped block k n calls of.1)

only_option : (block : ℕ) (a b : Option FileMap) (calls : List Call) → StayOf block calls → b ≡ option_map (run calls) a → OnlyOf block a → OnlyOf block b
only_option block None b calls of e kept = subst (OnlyOf block) (sym e) tt
only_option block (Some m) b calls of e kept = subst (OnlyOf block) (sym e) (only_run block calls m of kept)

-- Files on which such calls were made, or some of them.
pub only_made : (block : ℕ) (a b : Option FileMap) (x y : Option Log) (calls : List Call) → StayOf block calls → MakesCalls a b x y calls → OnlyOf block a → OnlyOf block b
only_made block a b x y calls of made kept = only_option block a b calls of made.files kept

pub only_stopped : (block : ℕ) (a b : Option FileMap) (x y : Option Log) (calls : List Call) → StayOf block calls → StopsWithin a b x y calls → OnlyOf block a → OnlyOf block b
only_stopped block a b x y calls of stop kept = only_option block a b (stopped stop.0 stop.1 calls) (stay_stopped block stop.0 stop.1 calls of) stop.2.files kept

-- ---- the lists of a replica's calls

pub data_of : (folder : Folder) (block : ℕ) → block < 2 ^ 64 → is_of_block block (data_name folder block) ≡ true
unfolding data_name
data_of folder block fits = is_of_block-data folder block fits

pub meta_of_block : (folder : Folder) (block stamp : ℕ) → block < 2 ^ 64 → stamp < 2 ^ 64 → is_of_block block (meta_name folder stamp block) ≡ true
unfolding meta_name
meta_of_block folder block stamp fits stamp_fits = is_of_block-meta folder block stamp fits stamp_fits

-- Both names are of the block.
pub record AreNames (block : ℕ) (names : FileNames) : Type 0 where
  pub bytes : is_of_block block names.«data» ≡ true
  pub sums : is_of_block block names.meta ≡ true

pub names_are : (block : ℕ) (h : ReplicaInfo) → block < 2 ^ 64 → h.stamp.0 < 2 ^ 64 → AreNames block (names_of block h)
names_are block h fits stamp = record { bytes = data_of (folder_of h.original) block fits; sums = meta_of_block (folder_of h.original) block h.stamp.0 fits stamp }

stay_only : (block : ℕ) (test : Bool) (call : Call) → StaysOf block call → StayOf block (only test call)
stay_only block true call of = (of, tt)
stay_only block false call of = tt

stay_all : (block : ℕ) (test : Bool) (calls : List Call) → StayOf block calls → StayOf block (all_if test calls)
stay_all block true calls of = of
stay_all block false calls of = tt

cuts_stay : (block : ℕ) (b s l : Bool) (name meta z : List ℕ) (n place len : ℕ) → StayOf block (all_if b (Cut name n ∷ (only s (Write meta place z) ++ only l (Cut meta len))))
cuts_stay block false s l name meta z n place len = tt
cuts_stay block true false false name meta z n place len = (tt, tt)
cuts_stay block true false true name meta z n place len = (tt, (tt, tt))
cuts_stay block true true false name meta z n place len = (tt, (tt, tt))
cuts_stay block true true true name meta z n place len = (tt, (tt, (tt, tt)))

moves_stay : (block : ℕ) (a b : Bool) (before after : FileNames) → AreNames block after → StayOf block (only a (Rename before.meta after.meta) ++ only b (Rename before.«data» after.«data»))
moves_stay block false false before after are = tt
moves_stay block false true before after are = (are.bytes, tt)
moves_stay block true false before after are = (are.sums, tt)
moves_stay block true true before after are = (are.sums, (are.bytes, tt))

pub settle_stays : (block : ℕ) (before after : FileNames) (h k : ReplicaInfo) (sum : ℕ) → AreNames block after → StayOf block (settle_list before after h k sum)
settle_stays block before after h k sum are =
    let z = to_be_bytes w32 sum in
    let f = folder_of h.original in
    let to = folder_of k.original in
    let synced = all_if (leaves_temporary h k) (sync_list before) in
    let cuts = cut_list before h.sums h.written k.written z in
    let moves = move_list before after f h.stamp.0 to k.stamp.0 in
    stay_append block synced (cuts ++ moves) (stay_all block (leaves_temporary h k) (sync_list before) (tt, (tt, tt)))
    (stay_append block cuts moves
    (cuts_stay block (nat_lt k.written h.written) (has_sums h.sums.kind && not (k.written % h.sums.chunk == 0)) (nat_lt (meta_len h.sums k.written) (meta_len h.sums h.written)) before.«data» before.meta z k.written (sum_place h.sums k.written) (meta_len h.sums k.written))
    (moves_stay block (not (same_folder f to && h.stamp.0 == k.stamp.0)) (not (same_folder f to)) before after are))

pub packet_stays : (block : ℕ) (names : FileNames) (written : ℕ) (more sums : List ℕ) (sync : Bool) (r : Rule) → StayOf block (packet_list names r written more sums sync)
packet_stays block names written more sums sync r =
    let grown = all_if (nat_lt 0 (length more)) (grow_list names r written more sums) in
    stay_append block grown (all_if sync (sync_list names))
    (stay_all block (nat_lt 0 (length more)) (grow_list names r written more sums) (tt, stay_only block (has_sums r.kind) (Write names.meta (sum_place r written) sums) tt))
    (stay_all block sync (sync_list names) (tt, (tt, tt)))

remove_stays : (block : ℕ) (strays : List (List ℕ)) → StayOf block (remove_list strays)
remove_stays block [] = tt
remove_stays block (stray ∷ strays) = (tt, remove_stays block strays)

pub create_stays : (block : ℕ) (strays : List (List ℕ)) (names : FileNames) (header : List ℕ) → AreNames block names → StayOf block (create_list strays names header)
create_stays block strays names header are = stay_append block (remove_list strays) (new_list names header) (remove_stays block strays) (are.bytes, (are.sums, (tt, tt)))
