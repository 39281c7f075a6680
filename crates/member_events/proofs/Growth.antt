-- Which events of a member make a replica grow, and which calls on its files those take.
use Rattle.block_files.specs.BlockCalls.{BlockCall, MakeData, MakeMeta, WriteData, WriteMeta, CutData, CutMeta, SyncData, SyncMeta, MoveData, MoveMeta, placed, all_placed, calls_of}
use Rattle.block_files.specs.Placements.{Placement, Nowhere, DataAlone, Both}
use Rattle.hd_base.proofs.FileLaws.{overwritten-end}
use Rattle.hd_base.specs.Calls.{Call, Make, Write, Cut, Sync, Rename, Remove, cut_short, stopped}
use Rattle.hd_base.specs.Results.{◌>>=◌}
use Rattle.hd_base.specs.SumRules.{Rule}
use Rattle.hd_base.specs.declared.numbers.ConnId.{ConnId}
use Rattle.member_events.proofs.CauseLaws.{or_first, or_true}
use Rattle.member_events.specs.Writes.{writes_byte, has_bytes}
use Rattle.pipe_member.specs.PacketCodec.Packet.{Packet}
use Rattle.refusing_files.specs.Refusals.{is_data_write, has_data_write}
use Rattle.replica_core.proofs.StepLemmas.{choice}
use Rattle.replica_core.specs.Refusals.{check}
use Rattle.replica_core.specs.Transitions.{Taken, Outcome, record_after, there, is_written_by, end_connection, transition}
use Rattle.replica_core.specs.Views.{written_at, written_in}
use Rattle.replica_core.specs.declared.events.Event.TheVariants as event
use Rattle.replica_core.specs.declared.info.ReplicaInfo.{ReplicaInfo}
use Rattle.replica_core.specs.declared.records.ReplicaRecord.{ReplicaRecord}
use Rattle.replica_core.specs.declared.refusals.Refusal.TheVariants as refusal
use Rattle.replica_model.proofs.RowLemmas.{plans_follow_rows}
use Rattle.replica_model.specs.Plans.{when, has_sums, grow_calls, sync_calls, packet_calls, last_sum_calls, same_folder, folder_of, placed_info, placed_under, placement_of, leaves_temporary, taken_calls, outcome_calls, plan, move_calls}
use Rattle.replica_model.specs.Rows.{FullReplica, IsFull, event_at, brought, row}
use Rattle.replica_model.specs.Sums.{sum_place, meta_len}
use Rattle.replica_model.specs.declared.events.ReplicaEvent.TheVariants as replica_event
use Rattle.replica_model.specs.declared.events.ReplicaEvent.{ReplicaEvent}
use Rattle.std.proofs.Common.{◌≡◌, ◌<◌, ◌≤◌, ◌||◌, ◌++◌, ℕ, Bool, true, false, List, [], ◌∷◌, length, take, Option, Some, None, IsSome, Ok, Err, refl, sym, ap, ◌∙◌, subst, arith}
use Rattle.std.proofs.lemmas.Bool.Decides.{nat_tests}
use Rattle.std.proofs.lemmas.List.{length-append, length-take}
use Rattle.std.specs.Prelude.{nat_lt, not, zero, suc, ◌+◌, ◌&&◌, ◌==◌}

-- Bytes grow to others just where calls write a byte to a data file.
pub record ToldBy (bytes grown : List ℕ) (calls : List BlockCall) (p : Placement) : Type 0 where
  pub writes : nat_lt (length bytes) (length grown) ≡ true → (b : ℕ) → has_bytes (calls_of b calls p) ≡ true
  pub grows : (b : ℕ) → has_data_write (calls_of b calls p) ≡ true → nat_lt (length bytes) (length grown) ≡ true

-- So they do in an event of a replica.
abbrev pub ToldOf : FullReplica → ReplicaEvent → Type 0
ToldOf r e = ToldBy r.bytes (row r e).bytes (plan r e) (placement_of r)

false_true : false ≡ true → ⊥
false_true h = cc

not_grown : (bytes grown : List ℕ) → length grown ≤ length bytes → nat_lt (length bytes) (length grown) ≡ true → ⊥
not_grown bytes grown less h = let k : length bytes < length grown = grind (arith, nat_tests) in omega arith

is_grown : (bytes grown : List ℕ) → length bytes < length grown → nat_lt (length bytes) (length grown) ≡ true
is_grown bytes grown more = grind (arith, nat_tests)

-- nothing grows, and no call writes to a data file
quiet : (bytes grown : List ℕ) (calls : List BlockCall) (p : Placement) → length grown ≤ length bytes → ((b : ℕ) → has_data_write (calls_of b calls p) ≡ false) → ToldBy bytes grown calls p
quiet bytes grown calls p less none = record {
  writes = λ h. absurd (not_grown bytes grown less h);
  grows = λ b h. absurd (false_true (sym (none b) ∙ h));
}

no_calls : (bytes grown : List ℕ) (calls : List BlockCall) (p : Placement) → calls ≡ [] → length grown ≤ length bytes → ToldBy bytes grown calls p
no_calls bytes grown calls p is less = quiet bytes grown calls p less (λ b. ap (λ l. has_data_write (calls_of b l p)) is)

-- THE CALLS OF A PACKET

packet_writes : (r : Rule) (bytes more : List ℕ) (sync : Bool) (p : Placement) (b : ℕ) → nat_lt 0 (length more) ≡ true → has_bytes (calls_of b (packet_calls r bytes more sync) p) ≡ true
packet_writes r bytes more sync p b some =
    ap (λ t. has_bytes (calls_of b (when t (grow_calls r bytes more) ++ when sync sync_calls) p)) some
    ∙ or_first (nat_lt 0 (length more)) _ some

sync_quiet : (sync : Bool) (p : Placement) (b : ℕ) → has_data_write (calls_of b (when sync sync_calls) p) ≡ false
sync_quiet true p b = refl
sync_quiet false p b = refl

packet_quiet : (r : Rule) (bytes more : List ℕ) (sync : Bool) (p : Placement) (b : ℕ) → nat_lt 0 (length more) ≡ false → has_data_write (calls_of b (packet_calls r bytes more sync) p) ≡ false
packet_quiet r bytes more sync p b none =
    ap (λ t. has_data_write (calls_of b (when t (grow_calls r bytes more) ++ when sync sync_calls) p)) none
    ∙ sync_quiet sync p b

-- the bytes of a data file
abbrev data_of : Placement → List ℕ
data_of Nowhere = []
data_of (DataAlone f d) = d
data_of (Both f d mf g m) = d

rest_stays : (has sync : Bool) (place : ℕ) (sums : List ℕ) (q : Placement) → data_of (all_placed (when has (WriteMeta place sums ∷ []) ++ when sync sync_calls) q) ≡ data_of q
rest_stays true true place sums Nowhere = refl
rest_stays true false place sums Nowhere = refl
rest_stays false true place sums Nowhere = refl
rest_stays false false place sums Nowhere = refl
rest_stays true true place sums (DataAlone f d) = refl
rest_stays true false place sums (DataAlone f d) = refl
rest_stays false true place sums (DataAlone f d) = refl
rest_stays false false place sums (DataAlone f d) = refl
rest_stays true true place sums (Both f d mf g m) = refl
rest_stays true false place sums (Both f d mf g m) = refl
rest_stays false true place sums (Both f d mf g m) = refl
rest_stays false false place sums (Both f d mf g m) = refl

packet_data : (h k : ReplicaInfo) (bytes more grown : List ℕ) (sync : Bool) → nat_lt 0 (length more) ≡ true → all_placed (packet_calls h.sums bytes more sync) (placed_info h bytes) ≡ placed_info k grown → grown ≡ bytes ++ more
packet_data h k bytes more grown sync some there =
    sym (ap data_of there)
    ∙ (ap (λ t. data_of (all_placed (when t (grow_calls h.sums bytes more) ++ when sync sync_calls) (placed_info h bytes))) some
    ∙ (rest_stays (has_sums h.sums.kind) sync (sum_place h.sums (length bytes)) _ (placed (WriteData (length bytes) more) (placed_info h bytes))
    ∙ overwritten-end bytes more))

longer : (bytes more grown : List ℕ) → nat_lt 0 (length more) ≡ true → grown ≡ bytes ++ more → length bytes < length grown
longer bytes more grown some is =
    let k : 0 < length more = grind (arith, nat_tests) in
    let l : length grown ≡ length bytes + length more = ap length is ∙ length-append bytes more in
    omega arith

still : (bytes more : List ℕ) (n : ℕ) → nat_lt 0 (length more) ≡ false → length (take n (bytes ++ more)) ≤ length bytes
still bytes more n none =
    let k : length more ≤ 0 = grind (arith, nat_tests) in
    let l = length-append bytes more in
    let t = length-take n (bytes ++ more) in
    omega arith

grow_told : (h k : ReplicaInfo) (bytes more grown : List ℕ) (sync : Bool) (test : Bool) → nat_lt 0 (length more) ≡ test → grown ≡ take k.written (bytes ++ more) → all_placed (packet_calls h.sums bytes more sync) (placed_info h bytes) ≡ placed_info k grown
    → ToldBy bytes grown (packet_calls h.sums bytes more sync) (placed_info h bytes)
grow_told h k bytes more grown sync true is row there = record {
  writes = λ g b. packet_writes h.sums bytes more sync (placed_info h bytes) b is;
  grows = λ b g. is_grown bytes grown (longer bytes more grown is (packet_data h k bytes more grown sync is there));
}
grow_told h k bytes more grown sync false is row there =
    quiet bytes grown (packet_calls h.sums bytes more sync) (placed_info h bytes) (subst (λ (l : List ℕ). length l ≤ length bytes) (sym row) (still bytes more k.written is))
    (λ b. packet_quiet h.sums bytes more sync (placed_info h bytes) b is)

none_taken : (bytes more : List ℕ) → length (take 0 (bytes ++ more)) ≤ length bytes
none_taken bytes more = omega (arith, length-take 0 (bytes ++ more))

packet_told : (conn : ConnId) (p : Packet) (o q : Option ReplicaInfo) (bytes grown : List ℕ) → IsSome o → grown ≡ take (written_at q) (bytes ++ brought (length bytes) (replica_event.Packet conn p))
    → all_placed (taken_calls (replica_event.Packet conn p) o q bytes) (placed_under o bytes) ≡ placed_under q grown
    → ToldBy bytes grown (taken_calls (replica_event.Packet conn p) o q bytes) (placed_under o bytes)
packet_told conn p None q bytes grown some row there = absurd (never_there some)
  where
    never_there : IsSome {T = ReplicaInfo} None → ⊥
    never_there h = cc
packet_told conn p (Some h) None bytes grown some row there =
    no_calls bytes grown [] (placed_info h bytes) refl (subst (λ (l : List ℕ). length l ≤ length bytes) (sym row) (none_taken bytes (brought (length bytes) (replica_event.Packet conn p))))
packet_told conn p (Some h) (Some k) bytes grown some row there =
    grow_told h k bytes (brought (length bytes) (replica_event.Packet conn p)) grown p.sync _ refl row there

-- A REFUSED EVENT

refused_told : (r : FullReplica) (e : ReplicaEvent) → IsFull r → (out : Outcome) → transition r.known (event_at r e) ≡ out → record_after r.known out ≡ r.known → outcome_calls e r.known.info r.bytes out ≡ [] → ToldOf r e
refused_told r e full out is same none =
    no_calls r.bytes (row r e).bytes (plan r e) (placement_of r) (ap (outcome_calls e r.known.info r.bytes) is ∙ none)
    (within (written_in (record_after r.known (transition r.known (event_at r e)))) (r.bytes ++ brought (length r.bytes) e)
    (ap (λ o. written_in (record_after r.known o)) is ∙ (ap written_in same ∙ sym full.all)))
  where
    within : (n : ℕ) (xs : List ℕ) → n ≡ length r.bytes → length (take n xs) ≤ length r.bytes
    within n xs same = omega (arith, length-take n xs)

-- PACKETS

-- only of a replica that is there a packet is taken
some_there : (c : ReplicaRecord) (whole : Bool) (o : Option ReplicaInfo) (next : ReplicaInfo → Outcome) (t : Taken) → (check whole refusal.Broken (there o) >>= next) ≡ Ok t → IsSome o
some_there c true None next t is = cc
some_there c false None next t is = cc
some_there c whole (Some h) next t is = refl

taken_there : (r : FullReplica) (conn : ConnId) (p : Packet) (t : Taken) → transition r.known (event_at r (replica_event.Packet conn p)) ≡ Ok t → IsSome r.known.info
unfolding transition
taken_there r conn p t is = some_there r.known (not r.known.is_broken) r.known.info _ t is

packet_by : (r : FullReplica) (conn : ConnId) (p : Packet) → IsFull r → (out : Outcome) → transition r.known (event_at r (replica_event.Packet conn p)) ≡ out → ToldOf r (replica_event.Packet conn p)
packet_by r conn p full (Err why) is = refused_told r (replica_event.Packet conn p) full (Err why) is refl refl
packet_by r conn p full (Ok t) is =
    let e : ReplicaEvent = replica_event.Packet conn p in
    let calls : plan r e ≡ taken_calls e r.known.info t.replica.info r.bytes = ap (outcome_calls e r.known.info r.bytes) is in
    let after : record_after r.known (transition r.known (event_at r e)) ≡ t.replica = ap (record_after r.known) is in
    let grown : (row r e).bytes ≡ take (written_in t.replica) (r.bytes ++ brought (length r.bytes) e) =
    ap (λ (c : ReplicaRecord). take (written_in c) (r.bytes ++ brought (length r.bytes) e)) after in
    let follows : all_placed (taken_calls e r.known.info t.replica.info r.bytes) (placement_of r) ≡ placed_under t.replica.info (row r e).bytes =
    ap (λ l. all_placed l (placement_of r)) (sym calls) ∙ (plans_follow_rows r e full tt ∙ ap (λ (c : ReplicaRecord). placed_under c.info (row r e).bytes) after) in
    subst (λ (l : List BlockCall). ToldBy r.bytes (row r e).bytes l (placement_of r)) (sym calls)
    (packet_told conn p r.known.info t.replica.info r.bytes (row r e).bytes (taken_there r conn p t is) grown follows)

pub packets_tell : (r : FullReplica) (conn : ConnId) (p : Packet) → IsFull r → ToldOf r (replica_event.Packet conn p)
packets_tell r conn p full = packet_by r conn p full _ refl

-- THE END OF A CONNECTION

-- a call that writes
abbrev is_write : BlockCall → Bool
is_write (WriteData place bytes) = true
is_write (WriteMeta place bytes) = true
is_write other = false

abbrev has_write : List BlockCall → Bool
has_write [] = false
has_write (call ∷ calls) = is_write call || has_write calls

no_writes : (calls : List BlockCall) (p : Placement) (b : ℕ) → has_write calls ≡ false → has_data_write (calls_of b calls p) ≡ false
no_writes [] p b none = refl
no_writes (MakeData f ∷ calls) p b none = no_writes calls (placed (MakeData f) p) b none
no_writes (MakeMeta f g ∷ calls) p b none = no_writes calls (placed (MakeMeta f g) p) b none
no_writes (WriteData n bytes ∷ calls) p b none = cc
no_writes (WriteMeta n bytes ∷ calls) p b none = cc
no_writes (CutData n ∷ calls) p b none = no_writes calls (placed (CutData n) p) b none
no_writes (CutMeta n ∷ calls) p b none = no_writes calls (placed (CutMeta n) p) b none
no_writes (SyncData ∷ calls) p b none = no_writes calls (placed SyncData p) b none
no_writes (SyncMeta ∷ calls) p b none = no_writes calls (placed SyncMeta p) b none
no_writes (MoveData f ∷ calls) p b none = no_writes calls (placed (MoveData f) p) b none
no_writes (MoveMeta f g ∷ calls) p b none = no_writes calls (placed (MoveMeta f g) p) b none

settles_quiet : (sync moves_meta moves : Bool) (h k : ReplicaInfo) → has_write (when sync sync_calls ++ ([] ++ (when moves_meta (MoveMeta (folder_of k.original) k.stamp.0 ∷ []) ++ when moves (MoveData (folder_of k.original) ∷ [])))) ≡ false
settles_quiet true true true h k = refl
settles_quiet true true false h k = refl
settles_quiet true false true h k = refl
settles_quiet true false false h k = refl
settles_quiet false true true h k = refl
settles_quiet false true false h k = refl
settles_quiet false false true h k = refl
settles_quiet false false false h k = refl

-- the calls of a cut to what is written
abbrev cut_down : ReplicaInfo → List ℕ → List BlockCall
cut_down h bytes =
    CutData h.written ∷ (last_sum_calls h.sums (take h.written bytes) ++
    when (nat_lt (meta_len h.sums h.written) (meta_len h.sums (length bytes))) (CutMeta (meta_len h.sums h.written) ∷ []))

end_calls : (conn : ConnId) (o : Option ReplicaInfo) (bytes : List ℕ) → length bytes ≡ written_at o → has_write (taken_calls (replica_event.Other (event.Ended conn)) o o bytes) ≡ false
end_calls conn None bytes all = refl
end_calls conn (Some h) bytes all =
    let none : nat_lt h.written (length bytes) ≡ false = uncut h.written (length bytes) all in
    ap (λ t. has_write (when (leaves_temporary h h) sync_calls ++ (when t (cut_down h bytes) ++ move_calls (folder_of h.original) h.stamp.0 (folder_of h.original) h.stamp.0))) none
    ∙ settles_quiet (leaves_temporary h h) (not (same_folder (folder_of h.original) (folder_of h.original) && h.stamp.0 == h.stamp.0)) (not (same_folder (folder_of h.original) (folder_of h.original))) h h
  where
    uncut : (n m : ℕ) → m ≡ n → nat_lt n m ≡ false
    uncut n m same = grind (arith, nat_tests)

end_info : (c : ReplicaRecord) (conn : ConnId) → (end_connection c conn).info ≡ c.info
end_info c conn = choice (λ (k : ReplicaRecord). k.info ≡ c.info) (is_written_by c.stream conn) _ _ (λ z. refl) (λ z. refl)

pub ends_tell : (r : FullReplica) (conn : ConnId) → IsFull r → ToldOf r (replica_event.Other (event.Ended conn))
unfolding transition
ends_tell r conn full =
    let e : ReplicaEvent = replica_event.Other (event.Ended conn) in
    let info : (end_connection r.known conn).info ≡ r.known.info = end_info r.known conn in
    quiet r.bytes (row r e).bytes (plan r e) (placement_of r)
    (within (written_in (end_connection r.known conn)) (r.bytes ++ []) (ap written_at info ∙ sym full.all))
    (λ b. no_writes (plan r e) (placement_of r) b
    (ap (λ (q : Option ReplicaInfo). has_write (taken_calls e r.known.info q r.bytes)) info ∙ end_calls conn r.known.info r.bytes full.all))
  where
    within : (n : ℕ) (xs : List ℕ) → n ≡ length r.bytes → length (take n xs) ≤ length r.bytes
    within n xs same = omega (arith, length-take n xs)

-- CALLS THAT WERE MADE

pub bytes_behind : (xs ys : List Call) → has_bytes ys ≡ true → has_bytes (xs ++ ys) ≡ true
bytes_behind [] ys h = h
bytes_behind (x ∷ xs) ys h = ap (λ b. writes_byte x || b) (bytes_behind xs ys h) ∙ or_true (writes_byte x)

or_either : (a b c : Bool) → (b ≡ true → c ≡ true) → (a || b) ≡ true → (a || c) ≡ true
or_either true b c h k = refl
or_either false b c h k = h k

-- of a call that failed no more is done
cut_less : (n : ℕ) (call : Call) (calls : List Call) → has_data_write (cut_short n call) ≡ true → has_data_write (call ∷ calls) ≡ true
cut_less zero call calls h = cc
cut_less (suc n) (Make name) calls h = cc
cut_less (suc n) (Write name place bytes) calls h = or_either _ false (has_data_write calls) (λ z. absurd (false_true z)) h
cut_less (suc n) (Cut name len) calls h = cc
cut_less (suc n) (Sync name) calls h = cc
cut_less (suc n) (Rename from to) calls h = cc
cut_less (suc n) (Remove name) calls h = cc

pub stopped_less : (k n : ℕ) (calls : List Call) → has_data_write (stopped k n calls) ≡ true → has_data_write calls ≡ true
stopped_less k n [] h = h
stopped_less zero n (call ∷ calls) h = cut_less n call calls h
stopped_less (suc k) n (call ∷ calls) h = or_either (is_data_write call) (has_data_write (stopped k n calls)) (has_data_write calls) (stopped_less k n calls) h
