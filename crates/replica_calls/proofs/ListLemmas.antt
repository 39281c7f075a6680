-- Lists of calls: that they are those of the plans, the room that they need, and the removal of strays.
use Rattle.std.proofs.Common.{◌≡◌, ◌⊎◌, inl, inr, ℕ, zero, suc, ◌+◌, ◌-◌, ◌*◌, ◌/◌, ◌%◌, ◌==◌, ◌<◌, ◌≤◌, ◌&&◌, not, nat_lt, cond, Bool, true, false, List, [], ◌∷◌, ◌++◌, length, take, Option, Some, None, IsSome, refl, sym, ap, subst, ◌∙◌, arith}
use Rattle.std.proofs.lemmas.List.{length-take-le, append_assoc}
use Rattle.std.proofs.lemmas.Bool.Decides.{nat_tests}
use Rattle.std.proofs.lemmas.Grind.{common_steps}
use Rattle.std.proofs.Math.Nat.{mod-lt}
use Rattle.std.specs.Int.{w32, to_be_bytes}
use Rattle.hd_base.specs.SumRules.{Rule}
use Rattle.hd_base.specs.Calls.{Call, Make, Write, Cut, Sync, Rename, Remove}
use Rattle.file_calls.specs.Plans.{FindFiles, HasRoom}
use Rattle.chunk_sums.specs.Crc.{sum_of}
use Rattle.chunk_sums.specs.Chunks.{sums}
use Rattle.meta_file.specs.declared.names.Folder.{Folder}
use Rattle.block_files.specs.Placements.{Placement, Both, data_name, meta_name}
use Rattle.block_files.specs.BlockCalls.{BlockCall, CutData, WriteMeta, CutMeta, SyncData, SyncMeta, MoveMeta, MoveData, placed, all_placed, call_of, calls_of}
use Rattle.replica_core.specs.declared.events.Event.{Event}
use Rattle.replica_core.specs.declared.info.ReplicaInfo.{ReplicaInfo}
use Rattle.replica_model.specs.declared.events.ReplicaEvent.TheVariants as replica_event
use Rattle.replica_model.specs.Sums.{tail, sum_place, meta_len, meta_of}
use Rattle.replica_model.specs.Plans.{folder_of, same_folder, placed_info, when, has_sums, sync_calls, cut_calls, move_calls, settle_calls, leaves_temporary, taken_calls}
use Rattle.replica_model.proofs.SumLemmas.{length_tail}
use Rattle.replica_calls.specs.declared.names.FileNames.{FileNames}
use Rattle.replica_calls.specs.LastSums.{IsLastSum}
use Rattle.replica_calls.specs.CallLists.{only, all_if, names_in, names_of, sync_list, cut_list, move_list, settle_list, remove_list, new_list, create_list}
use Rattle.replica_calls.specs.Laws.{SettlingFollowsPlans, SettlingHasRoom, CreatesHaveRoom}
use Rattle.replica_calls.proofs.GrowthLemmas.{sums_short}

-- ---- calls by names

calls_append : (block : ℕ) (xs ys : List BlockCall) (p : Placement) → calls_of block (xs ++ ys) p ≡ calls_of block xs p ++ calls_of block ys (all_placed xs p)
calls_append block [] ys p = refl
calls_append block (x ∷ xs) ys p = ap (λ l. call_of block p x ∷ l) (calls_append block xs ys (placed x p))

sync_named : (block : ℕ) (t : Bool) (f : Folder) (g : ℕ) (d m : List ℕ) → calls_of block (when t sync_calls) (Both f d f g m) ≡ all_if t (sync_list (names_in block f g))
sync_named block true f g d m = refl
sync_named block false f g d m = refl

sync_place : (t : Bool) (f : Folder) (g : ℕ) (d m : List ℕ) → all_placed (when t sync_calls) (Both f d f g m) ≡ Both f d f g m
sync_place true f g d m = refl
sync_place false f g d m = refl

-- the calls that cut, by whether there is a cut, a short chunk, and longer metadata
abbrev cutting : Bool → Bool → Bool → ℕ → ℕ → List ℕ → ℕ → List BlockCall
cutting b s l n place z len = when b (CutData n ∷ (when s (WriteMeta place z ∷ []) ++ when l (CutMeta len ∷ [])))

cut_named : (block : ℕ) (f : Folder) (g : ℕ) (d m : List ℕ) (b s l : Bool) (n place : ℕ) (z : List ℕ) (len : ℕ)
    → calls_of block (cutting b s l n place z len) (Both f d f g m)
    ≡ all_if b (Cut (data_name f block) n ∷ (only s (Write (meta_name f g block) place z) ++ only l (Cut (meta_name f g block) len)))
cut_named block f g d m false s l n place z len = refl
cut_named block f g d m true false false n place z len = refl
cut_named block f g d m true false true n place z len = refl
cut_named block f g d m true true false n place z len = refl
cut_named block f g d m true true true n place z len = refl

cut_place : (f : Folder) (g : ℕ) (d m : List ℕ) (b s l : Bool) (n place : ℕ) (z : List ℕ) (len : ℕ)
    → (e : List ℕ) × (y : List ℕ) × (all_placed (cutting b s l n place z len) (Both f d f g m) ≡ Both f e f g y)
cut_place f g d m false s l n place z len = (_, _, refl)
cut_place f g d m true false false n place z len = (_, _, refl)
cut_place f g d m true false true n place z len = (_, _, refl)
cut_place f g d m true true false n place z len = (_, _, refl)
cut_place f g d m true true true n place z len = (_, _, refl)

move_named : (block : ℕ) (f k : Folder) (g h : ℕ) (d m : List ℕ) (a b : Bool)
    → calls_of block (when a (MoveMeta k h ∷ []) ++ when b (MoveData k ∷ [])) (Both f d f g m)
    ≡ only a (Rename (meta_name f g block) (meta_name k h block)) ++ only b (Rename (data_name f block) (data_name k block))
move_named block f k g h d m false false = refl
move_named block f k g h d m false true = refl
move_named block f k g h d m true false = refl
move_named block f k g h d m true true = refl

same_written : (b s l : Bool) (n : ℕ) (place other : ℕ) (z w : List ℕ) (len : ℕ) → place ≡ other → (s ≡ true → z ≡ w) → cutting b s l n place z len ≡ cutting b s l n other w len
same_written b true l n place other z w len at same = ap (λ i. cutting b true l n i z len) at ∙ ap (λ x. cutting b true l n other x len) (same refl)
same_written b false l n place other z w len at same = refl

and_left : (a b : Bool) → (a && b) ≡ true → a ≡ true
and_left a b e = grind (arith, common_steps)

and_right : (a b : Bool) → (a && b) ≡ true → b ≡ true
and_right a b e = grind (arith, common_steps)

some_left : (n c : ℕ) → not (n % c == 0) ≡ true → 0 < n % c
some_left n c e = grind (arith, common_steps, nat_tests)

-- what is written where the last chunk is short is its sum
short_sum : (r : Rule) (bytes : List ℕ) (n sum : ℕ) → 1 ≤ r.chunk → length bytes ≡ n → IsLastSum r sum bytes → (has_sums r.kind && not (n % r.chunk == 0)) ≡ true
    → sums r (tail r bytes) ≡ to_be_bytes w32 sum
short_sum r bytes n sum some len last e =
    let h = and_left (has_sums r.kind) (not (n % r.chunk == 0)) e in
    let left : 0 < n % r.chunk = some_left n r.chunk (and_right (has_sums r.kind) (not (n % r.chunk == 0)) e) in
    let tails : length (tail r bytes) ≡ n % r.chunk = length_tail r bytes ∙ ap (λ x. x % r.chunk) len in
    let within : n % r.chunk < r.chunk = mod-lt n some in
    sums_short r (tail r bytes) h some (omega (arith, tails, left)) (omega (arith, tails, within)) ∙ ap (to_be_bytes w32) (sym (last h))

-- the cut of what is held to its next length
cut_is : (r : Rule) (bytes : List ℕ) (n sum : ℕ) → 1 ≤ r.chunk → n ≤ length bytes → IsLastSum r sum (take n bytes)
    → cut_calls r bytes n ≡ cutting (nat_lt n (length bytes)) (has_sums r.kind && not (n % r.chunk == 0)) (nat_lt (meta_len r n) (meta_len r (length bytes))) n (sum_place r n) (to_be_bytes w32 sum) (meta_len r n)
cut_is r bytes n sum some within last =
    let len : length (take n bytes) ≡ n = length-take-le n bytes within in
    let b = nat_lt n (length bytes) in
    let l = nat_lt (meta_len r n) (meta_len r (length bytes)) in
    let z = sums r (tail r (take n bytes)) in
    ap (λ i. cutting b (has_sums r.kind && not (i % r.chunk == 0)) l n (sum_place r i) z (meta_len r n)) len
    ∙ same_written b (has_sums r.kind && not (n % r.chunk == 0)) l n (sum_place r n) (sum_place r n) z (to_be_bytes w32 sum) (meta_len r n) refl (short_sum r (take n bytes) n sum some len last)

pub settling_follows_plans : SettlingFollowsPlans
settling_follows_plans block e h k bytes sum some all less last =
    let r = h.sums in
    let f = folder_of h.original in
    let g = h.stamp.0 in
    let m = meta_of r bytes in
    let n = k.written in
    let t = leaves_temporary h k in
    let p = Both f bytes f g m in
    let within : n ≤ length bytes = omega (arith, all, less) in
    let b = nat_lt n (length bytes) in
    let s = has_sums r.kind && not (n % r.chunk == 0) in
    let l = nat_lt (meta_len r n) (meta_len r (length bytes)) in
    let z = to_be_bytes w32 sum in
    let cuts = cutting b s l n (sum_place r n) z (meta_len r n) in
    let moves = move_calls f g (folder_of k.original) k.stamp.0 in
    let after = cut_place f g bytes m b s l n (sum_place r n) z (meta_len r n) in
    let before = names_of block h in
    let moved = move_list before (names_of block k) f g (folder_of k.original) k.stamp.0 in
    let cut = all_if b (Cut before.«data» n ∷ (only s (Write before.meta (sum_place r n) z) ++ only l (Cut before.meta (meta_len r n)))) in
    let synced = all_if t (sync_list before) in
    let named_cut : calls_of block (cut_calls r bytes n ++ moves) p ≡ cut ++ calls_of block moves (all_placed cuts p) =
    ap (λ x. calls_of block (x ++ moves) p) (cut_is r bytes n sum some within last)
    ∙ (calls_append block cuts moves p
    ∙ ap (λ x. x ++ calls_of block moves (all_placed cuts p)) (cut_named block f g bytes m b s l n (sum_place r n) z (meta_len r n))) in
    let named_moves : calls_of block moves (all_placed cuts p) ≡ moved =
    ap (calls_of block moves) after.2
    ∙ move_named block f (folder_of k.original) g k.stamp.0 after.0 after.1 (not (same_folder f (folder_of k.original) && g == k.stamp.0)) (not (same_folder f (folder_of k.original))) in
    let settled : calls_of block (settle_calls h k bytes) p ≡ cut_list before r h.written n z ++ moved =
    named_cut ∙ (ap (λ x. cut ++ x) named_moves ∙ ap (λ w. cut_list before r w n z ++ moved) all) in
    calls_append block (when t sync_calls) (settle_calls h k bytes) p
    ∙ (ap (λ x. x ++ calls_of block (settle_calls h k bytes) (all_placed (when t sync_calls) p)) (sync_named block t f g bytes m)
    ∙ ap (λ x. synced ++ x) (ap (calls_of block (settle_calls h k bytes)) (sync_place t f g bytes m) ∙ settled))

-- ---- room

move_room : (room : List ℕ → ℕ) (before after : FileNames) (a b : Bool) → HasRoom room (only a (Rename before.meta after.meta) ++ only b (Rename before.«data» after.«data»))
move_room room before after false false = tt
move_room room before after false true = tt
move_room room before after true false = tt
move_room room before after true true = tt

cut_room : (room : List ℕ → ℕ) (names : FileNames) (b s l : Bool) (n place len sum : ℕ) (rest : List Call) → (b ≡ true → place + 4 < room names.meta) → HasRoom room rest
    → HasRoom room (all_if b (Cut names.«data» n ∷ (only s (Write names.meta place (to_be_bytes w32 sum)) ++ only l (Cut names.meta len))) ++ rest)
cut_room room names false s l n place len sum rest has more = more
cut_room room names true false false n place len sum rest has more = more
cut_room room names true false true n place len sum rest has more = more
cut_room room names true true false n place len sum rest has more = (omega (arith, has refl), more)
cut_room room names true true true n place len sum rest has more = (omega (arith, has refl), more)

sync_room : (room : List ℕ → ℕ) (names : FileNames) (t : Bool) (rest : List Call) → HasRoom room rest → HasRoom room (all_if t (sync_list names) ++ rest)
sync_room room names true rest more = more
sync_room room names false rest more = more

is_less : (n m : ℕ) → nat_lt n m ≡ true → n < m
is_less n m e = grind (arith, common_steps, nat_tests)

pub settling_has_room : SettlingHasRoom
settling_has_room room before after h k sum has =
    let r = h.sums in
    let n = k.written in
    let f = folder_of h.original in
    let to = folder_of k.original in
    sync_room room before (leaves_temporary h k) _
    (cut_room room before (nat_lt n h.written) (has_sums r.kind && not (n % r.chunk == 0)) (nat_lt (meta_len r n) (meta_len r h.written)) n (sum_place r n) (meta_len r n) sum _
    (λ less. has (is_less n h.written less))
    (move_room room before after (not (same_folder f to && h.stamp.0 == k.stamp.0)) (not (same_folder f to))))

pub creates_have_room : CreatesHaveRoom
creates_have_room room [] names header bytes sums = (bytes, (omega (arith, sums), (omega (arith, sums), tt)))
creates_have_room room (stray ∷ strays) names header bytes sums = creates_have_room room strays names header bytes sums
