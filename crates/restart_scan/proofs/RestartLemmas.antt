-- What a restart finds of a book's replica.
use Rattle.std.proofs.Common.{◌≡◌, ◌⊎◌, inl, inr, ℕ, zero, suc, ◌^◌, ◌<◌, ◌≤◌, ◌&&◌, ◌||◌, not, Bool, true, false, List, [], ◌∷◌, ◌++◌, length, take, append-nil, Option, Some, None, IfSome, IsSome, option_map, Result, Ok, Err, refl, sym, ap, subst, ◌∙◌, arith}
use Rattle.std.specs.Result.{IfOk}
use Rattle.std.proofs.lemmas.List.{length-take-le}
use Rattle.hd_base.specs.FileMaps.{FileMap, no_files, AreNamesOf}
use Rattle.hd_base.specs.Calls.{run, stopped}
use Rattle.hd_base.specs.declared.files.Files as files
use Rattle.hd_base.specs.declared.numbers.BlockId.{BlockId}
use Rattle.hd_base.specs.declared.numbers.ConnId.{ConnId}
use Rattle.hd_base.specs.declared.numbers.Stamp.{Stamp}
use Rattle.hd_base.specs.declared.states.ReplicaState.{ReplicaState}
use Rattle.hd_base.specs.declared.states.ReplicaState.TheVariants as state
use Rattle.hd_base.specs.SumRules.{IsChunkSize}
use Rattle.meta_file.specs.declared.names.Folder.{Folder}
use Rattle.meta_file.specs.declared.names.Folder.TheVariants.{Rbw, Finalized, Tmp}
use Rattle.block_files.specs.Placements.{Placement, Nowhere, DataAlone, Both, files_of}
use Rattle.block_files.specs.BlockCalls.{BlockCall, MakeData, MakeMeta, WriteData, WriteMeta, CutData, CutMeta, SyncData, SyncMeta, MoveData, MoveMeta, placed, all_placed, calls_of}
use Rattle.block_files.specs.BlockCalls as block_calls
use Rattle.block_files.proofs.PlacementLaws.{stopped_calls_place_files}
use Rattle.packet_codec.specs.declared.packets.Packet.{Packet}
use Rattle.replica_core.specs.declared.records.ReplicaRecord.{ReplicaRecord}
use Rattle.replica_core.specs.declared.events.Event.{Event}
use Rattle.replica_core.specs.declared.extents.PacketExtent.{PacketExtent}
use Rattle.replica_core.specs.declared.info.ReplicaInfo.{ReplicaInfo}
use Rattle.replica_core.specs.declared.refusals.Refusal.{Refusal}
use Rattle.replica_core.specs.declared.refusals.Refusal.TheVariants as refusal
use Rattle.replica_core.specs.Info.{state_of, state_under, is_writable, is_temporary}
use Rattle.replica_core.specs.Views.{written_at, written_in}
use Rattle.replica_core.specs.Transitions.{Outcome, record_after, present, packet_transition, transition}
use Rattle.replica_core.proofs.StepLemmas.{if_check, if_step}
use Rattle.replica_core.proofs.InfoLemmas.{present_is}
use Rattle.replica_model.specs.declared.events.ReplicaEvent.{ReplicaEvent}
use Rattle.replica_model.specs.declared.events.ReplicaEvent.TheVariants as replica_event
use Rattle.replica_model.specs.Sums.{meta_of}
use Rattle.replica_model.specs.Rows.{FullReplica, IsFull, IsWithBytes, event_at, brought, row}
use Rattle.replica_model.specs.Plans.{HoldsInfo, folder_of, placed_info, placed_under, placement_of, when, sync_calls, settle_calls, packet_calls, taken_calls, outcome_calls, plan, is_changing, has_changing}
use Rattle.replica_model.specs.Found.{Found, IsWaiting, MayFindBetween, waits_old_after, MayFindChanged, MayFindAmid, MayFindWithin, MayFind}
use Rattle.replica_model.proofs.PlacementLemmas.{leads_packet}
use Rattle.replica_model.proofs.RowLemmas.{Settles, SettlesTo, settles, plans_find_files, plans_follow_rows, rows_keep_bytes}
use Rattle.replica_calls.specs.CallLists.{remove_list}
use Rattle.replica_files.specs.declared.book_state.BookState.{BookState}
use Rattle.replica_files.specs.Books.{IsBookOf, replica_of, event_calls, AreStrays, StopsEvent, before_all, amid}
use Rattle.restart_scan.specs.declared.found.Seen.{Seen}
use Rattle.restart_scan.specs.declared.found.Scanned.{Scanned}
use Rattle.restart_scan.specs.Blocks.{ScansPair, ScansOthers, state_of as state_of_pair}
use Rattle.restart_scan.specs.Laws.{FindsBlock, finds, finds_none, HasNumbers, IsTransfer}
use Rattle.restart_scan.specs.Pairs.{Pair, IsPair}
use Rattle.restart_scan.specs.Restarts.{Shows, NoneInTheWay, FindsAllowed, RestartRule, FailedCallsAreFound}
use Rattle.restart_scan.proofs.FrontLemmas.{has_front}
use Rattle.restart_scan.proofs.WholeLemmas.{whole_replicas_are_found, none_there}
use Rattle.restart_scan.proofs.StopLemmas.{stopped_settlings_are_found, stopped_packets_are_found, stopped_transfers_are_found, temporary_settling_found, temporary_packet_found, temporary_folder}
use Rattle.restart_scan.proofs.CreateLemmas.{stopped_creates_are_found}
use Rattle.restart_scan.proofs.EventLemmas.{Unrecovered, Becomes, Turns, TurnsTo, turns, replayed_unrecovered}

true_false : true ≡ false → ⊥
true_false e = cc

-- ---- calls that change no file

-- The call leaves the files where they lie, and isn't cut short otherwise.
record IsPlain (call : BlockCall) (rest : Bool) : Type 0 where
  same : (p : Placement) → placed call p ≡ p
  whole : (n : ℕ) → block_calls.cut_short (suc n) call ≡ call ∷ []
  none : rest ≡ false

data_synced : (p : Placement) → placed SyncData p ≡ p
data_synced Nowhere = refl
data_synced (DataAlone f d) = refl
data_synced (Both f d mf g m) = refl

meta_synced : (p : Placement) → placed SyncMeta p ≡ p
meta_synced Nowhere = refl
meta_synced (DataAlone f d) = refl
meta_synced (Both f d mf g m) = refl

plain_call : (call : BlockCall) (rest : Bool) → (is_changing call || rest) ≡ false → IsPlain call rest
plain_call SyncData rest e = record { same = data_synced; whole = λ n. refl; none = e }
plain_call SyncMeta rest e = record { same = meta_synced; whole = λ n. refl; none = e }
plain_call (MakeData f) rest e = absurd (true_false e)
plain_call (MakeMeta f g) rest e = absurd (true_false e)
plain_call (WriteData q z) rest e = absurd (true_false e)
plain_call (WriteMeta q z) rest e = absurd (true_false e)
plain_call (CutData q) rest e = absurd (true_false e)
plain_call (CutMeta q) rest e = absurd (true_false e)
plain_call (MoveData f) rest e = absurd (true_false e)
plain_call (MoveMeta f g) rest e = absurd (true_false e)

unchanging : (calls : List BlockCall) (i n : ℕ) (p : Placement) → has_changing calls ≡ false → all_placed (block_calls.stopped i n calls) p ≡ p
unchanging [] i n p e = refl
unchanging (call ∷ calls) zero zero p e = refl
unchanging (call ∷ calls) zero (suc n) p e = let plain = plain_call call (has_changing calls) e in ap (λ l. all_placed l p) (plain.whole n) ∙ plain.same p
unchanging (call ∷ calls) (suc i) n p e =
    let plain = plain_call call (has_changing calls) e in
    unchanging calls i n (placed call p) plain.none ∙ plain.same p

-- ---- an event that is no packet

module _ (block : BlockId) (bytes : List ℕ) (i n : ℕ) (found : Option Found) (fits : block.0 < 2 ^ 64) where
  -- the files after some calls were stopped
  abbrev FoundAfter : List BlockCall → Placement → Type 0
  FoundAfter calls p = FindsBlock block (files_of block.0 (all_placed (block_calls.stopped i n calls) p)) found

  other_held : (h k : ReplicaInfo) → h.stamp.0 < 2 ^ 64 → k.stamp.0 < 2 ^ 64 → IsChunkSize h.sums.chunk → length bytes ≡ h.written → k.written ≤ h.written → Becomes h k
      → (t u : Bool) → is_temporary h.original ≡ t → is_temporary k.original ≡ u → FoundAfter (when (t && not u) sync_calls ++ settle_calls h k bytes) (placed_info h bytes)
      → MayFindChanged t u h bytes k (take k.written (bytes ++ [])) found
  other_held h k hs ks size all within b true true ht kt f = temporary_settling_found block h k bytes i n found (omega (arith, size.least)) all within ht kt f
  other_held h k hs ks size all within b true false ht kt f = by (b.temporary ht) where
    by : (is_temporary k.original ≡ true) ⊎ IsTransfer h k → MayFindChanged true false h bytes k (take k.written (bytes ++ [])) found
    by (inl e) = absurd (true_false (sym e ∙ kt))
    by (inr step) = stopped_transfers_are_found block h k bytes i n found fits hs size all step f
  other_held h k hs ks size all within b false u ht kt f =
      subst (λ l. MayFindBetween h bytes k (take k.written l) found) (sym (append-nil bytes))
      (stopped_settlings_are_found block h k bytes i n found fits hs ks size all
      (record { within = within; before = ht; after = b.apart ht; final_cut = b.final_cut }) f)

  other_info : (e : Event) (o q : Option ReplicaInfo) → IfSome o (λ h. h.stamp.0 < 2 ^ 64) → IfSome q (λ h. h.stamp.0 < 2 ^ 64) → IfSome o (λ h. IsChunkSize h.sums.chunk) → IfSome q (λ h. IsChunkSize h.sums.chunk)
      → length bytes ≡ written_at o → Settles o q → Turns o q → has_changing (taken_calls (replica_event.Other e) o q bytes) ≡ true → FoundAfter (taken_calls (replica_event.Other e) o q bytes) (placed_under o bytes)
      → MayFindAmid o bytes q (take (written_at q) (bytes ++ [])) found
  unfolding Settles Turns
  other_info e None None hs ks hz kz all s t some f = absurd (true_false (sym some))
  other_info e None (Some k) hs ks hz kz all s t some f = stopped_creates_are_found block k i n found fits ks kz t.unfinished f
  other_info e (Some h) None hs ks hz kz all s t some f = absurd s
  other_info e (Some h) (Some k) hs ks hz kz all s t some f = other_held h k hs ks hz all s.1 t (is_temporary h.original) (is_temporary k.original) refl refl f

  other_amid : (c : ReplicaRecord) (e : Event) (out : Outcome) → IfSome c.info (λ h. h.stamp.0 < 2 ^ 64) → IfSome (record_after c out).info (λ h. h.stamp.0 < 2 ^ 64) → IfSome c.info (λ h. IsChunkSize h.sums.chunk)
      → IfSome (record_after c out).info (λ h. IsChunkSize h.sums.chunk) → length bytes ≡ written_in c → IfOk out (SettlesTo c) → IfOk out (TurnsTo c)
      → has_changing (outcome_calls (replica_event.Other e) c.info bytes out) ≡ true → FoundAfter (outcome_calls (replica_event.Other e) c.info bytes out) (placed_under c.info bytes)
      → MayFindAmid c.info bytes (record_after c out).info (take (written_in (record_after c out)) (bytes ++ [])) found
  other_amid c e (Ok t) hs ks hz kz all s u some f = other_info e c.info t.replica.info hs ks hz kz all s u some f
  other_amid c e (Err x) hs ks hz kz all s u some f = absurd (true_false (sym some))

-- ---- a packet

-- There is a replica that may be written.
Writes : Option ReplicaInfo → Type 0
Writes None = ⊥
Writes (Some h) = is_writable (state_of h) ≡ true

any_ok : {A : Type 0} {P : Type 0} (r : Result A Refusal) → P → IfOk r (λ _. P)
any_ok (Ok x) p = p
any_ok (Err e) p = tt

packet_writes : (c : ReplicaRecord) (conn : ConnId) (p : PacketExtent) → IfOk (packet_transition c conn p) (λ _. Writes c.info)
unfolding Writes
packet_writes c conn p =
    if_step (λ _. Writes c.info) (present c) _ (λ h there.
    if_check (λ _. Writes c.info) (is_writable (state_of h)) refusal.NotWriter _ (λ writable.
    any_ok _ (subst Writes (sym (present_is c h there).1) writable)))

writing_folder : (o : Option Stamp) (s : ReplicaState) → is_writable (state_under o s) ≡ true → is_temporary s ≡ false → folder_of s ≡ Rbw
writing_folder (Some id) s e t = absurd (true_false (sym e))
writing_folder None state.Rbw e t = refl
writing_folder None state.Finalized e t = absurd (true_false (sym e))
writing_folder None state.Rwr e t = refl
writing_folder None state.Rur e t = refl
writing_folder None state.Temporary e t = absurd (true_false t)

rbw_tmp : Rbw ≡ Tmp → ⊥
rbw_tmp e = cc

final_tmp : Finalized ≡ Tmp → ⊥
final_tmp e = cc

in_tmp : (s : ReplicaState) → folder_of s ≡ Tmp → is_temporary s ≡ true
in_tmp state.Temporary e = refl
in_tmp state.Finalized e = absurd (final_tmp e)
in_tmp state.Rbw e = absurd (rbw_tmp e)
in_tmp state.Rwr e = absurd (rbw_tmp e)
in_tmp state.Rur e = absurd (rbw_tmp e)

abbrev bytes_at : Placement → List ℕ
bytes_at Nowhere = []
bytes_at (DataAlone f d) = d
bytes_at (Both f d mf g m) = d

abbrev folder_at : Placement → Folder
folder_at Nowhere = Tmp
folder_at (DataAlone f d) = f
folder_at (Both f d mf g m) = f

module _ (block : BlockId) (bytes : List ℕ) (i n : ℕ) (found : Option Found) (fits : block.0 < 2 ^ 64) where
  packet_held : (h k : ReplicaInfo) (more after : List ℕ) (sync : Bool) → h.stamp.0 < 2 ^ 64 → IsChunkSize h.sums.chunk → is_writable (state_of h) ≡ true
      → all_placed (packet_calls h.sums bytes more sync) (placed_info h bytes) ≡ placed_info k after → FoundAfter block bytes i n found fits (packet_calls h.sums bytes more sync) (placed_info h bytes)
      → MayFindChanged (is_temporary h.original) (is_temporary k.original) h bytes k after found
  packet_held h k more after sync hs size writable follows f = by (is_temporary h.original) refl where
    there : Both (folder_of h.original) (bytes ++ more) (folder_of h.original) h.stamp.0 (meta_of h.sums (bytes ++ more)) ≡ placed_info k after
    there = sym (leads_packet h.sums bytes more sync (folder_of h.original) h.stamp.0 (omega (arith, size.least))).there ∙ follows

    by : (t : Bool) → is_temporary h.original ≡ t → MayFindChanged t (is_temporary k.original) h bytes k after found
    by true ht = subst (λ u. MayFindChanged true u h bytes k after found) (sym (in_tmp k.original (sym (ap folder_at there) ∙ temporary_folder h.original ht)))
        (temporary_packet_found block h bytes more sync i n found ht f)
    by false ht = waits_old_after (subst (IsWaiting found h.stamp h.sums) (ap bytes_at there)
        (stopped_packets_are_found block h bytes more sync i n found fits hs size (writing_folder h.recovery h.original writable ht) f))

  packet_info : (conn : ConnId) (p : Packet) (o q : Option ReplicaInfo) → IfSome o (λ h. h.stamp.0 < 2 ^ 64) → IfSome o (λ h. IsChunkSize h.sums.chunk) → Writes o
      → all_placed (taken_calls (replica_event.Packet conn p) o q bytes) (placed_under o bytes) ≡ placed_under q (take (written_at q) (bytes ++ brought (length bytes) (replica_event.Packet conn p)))
      → has_changing (taken_calls (replica_event.Packet conn p) o q bytes) ≡ true → FoundAfter block bytes i n found fits (taken_calls (replica_event.Packet conn p) o q bytes) (placed_under o bytes)
      → MayFindAmid o bytes q (take (written_at q) (bytes ++ brought (length bytes) (replica_event.Packet conn p))) found
  unfolding Writes
  packet_info conn p None q hs size w follows some f = absurd w
  packet_info conn p (Some h) None hs size w follows some f = absurd (true_false (sym some))
  packet_info conn p (Some h) (Some k) hs size w follows some f =
      let more = brought (length bytes) (replica_event.Packet conn p) in
      packet_held h k more (take k.written (bytes ++ more)) p.sync hs size w follows f

  packet_amid : (c : ReplicaRecord) (conn : ConnId) (p : Packet) (out : Outcome) → IfSome c.info (λ h. h.stamp.0 < 2 ^ 64) → IfSome c.info (λ h. IsChunkSize h.sums.chunk) → IfOk out (λ _. Writes c.info)
      → all_placed (outcome_calls (replica_event.Packet conn p) c.info bytes out) (placed_under c.info bytes)
      ≡ placed_under (record_after c out).info (take (written_in (record_after c out)) (bytes ++ brought (length bytes) (replica_event.Packet conn p)))
      → has_changing (outcome_calls (replica_event.Packet conn p) c.info bytes out) ≡ true → FoundAfter block bytes i n found fits (outcome_calls (replica_event.Packet conn p) c.info bytes out) (placed_under c.info bytes)
      → MayFindAmid c.info bytes (record_after c out).info (take (written_in (record_after c out)) (bytes ++ brought (length bytes) (replica_event.Packet conn p))) found
  packet_amid c conn p (Ok t) hs size w follows some f = packet_info conn p c.info t.replica.info hs size w follows some f
  packet_amid c conn p (Err x) hs size w follows some f = absurd (true_false (sym some))

-- ---- every event

-- After a stop at any of the calls of an event, what is found is what the model of replicas allows.
found_amid : (r : FullReplica) (e : ReplicaEvent) (i n : ℕ) (found : Option Found) → IsFull r → IsWithBytes e → HasNumbers r → HasNumbers (row r e) → Unrecovered r.known.info → has_changing (plan r e) ≡ true
    → FindsBlock r.known.block (files_of r.known.block.0 (all_placed (block_calls.stopped i n (plan r e)) (placement_of r))) found → MayFindAmid r.known.info r.bytes (row r e).known.info (row r e).bytes found
unfolding transition
found_amid r (replica_event.Packet conn p) i n found full with_bytes numbers later u some f =
    let e = replica_event.Packet conn p in
    packet_amid r.known.block r.bytes i n found numbers.block_fits r.known conn p (transition r.known (event_at r e)) numbers.stamp_fits full.rule (packet_writes r.known conn _) (plans_follow_rows r e full with_bytes) some f
found_amid r (replica_event.Other e) i n found full with_bytes numbers later u some f =
    other_amid r.known.block r.bytes i n found numbers.block_fits r.known e (transition r.known e) numbers.stamp_fits later.stamp_fits full.rule (rows_keep_bytes r (replica_event.Other e) full with_bytes).rule full.all
    (settles r.known e full.sound with_bytes) (turns r.known e u) some f

pub found_stopped : (r : FullReplica) (e : ReplicaEvent) (i n : ℕ) (found : Option Found) → IsFull r → IsWithBytes e → HasNumbers r → HasNumbers (row r e) → Unrecovered r.known.info
    → FindsBlock r.known.block (files_of r.known.block.0 (all_placed (block_calls.stopped i n (plan r e)) (placement_of r))) found → MayFind r (Some e) found
found_stopped r e i n found full with_bytes numbers later u f = by (has_changing (plan r e)) refl where
  by : (t : Bool) → has_changing (plan r e) ≡ t → MayFindWithin t r (row r e) found
  by true some = found_amid r e i n found full with_bytes numbers later u some f
  by false none = whole_replicas_are_found r found full numbers
      (subst (λ p. FindsBlock r.known.block (files_of r.known.block.0 p) found) (unchanging (plan r e) i n (placement_of r) none) f)

-- ---- what a scan shows

finds_pair : {F : Type 0} (book : BookState F) (e : ReplicaEvent) (m left : FileMap) (x : Scanned) → ((found : Option Found) → FindsBlock book.block m found → MayFind (replica_of book) (Some e) found) → ScansPair book.block m left x
    → (found : Option Found) × Shows left x.seen found × MayFind (replica_of book) (Some e) found
finds_pair book e m left x allowed s =
    let p = s.pair in
    let within = (has_front p.rule p.bytes p.stored s.len (omega (arith, s.is_pair.chunk_fits.least)) s.kept).within in (
      Some (record { state = state_of_pair p; stamp = p.places.stamp; sums = p.rule; bytes = take s.len p.bytes }),
      subst (λ (o : Option Seen). Shows left o (Some (record { state = state_of_pair p; stamp = p.places.stamp; sums = p.rule; bytes = take s.len p.bytes }))) (sym (ap (λ (y : Scanned). y.seen) s.found))
          (record { state = refl; stamp = refl; sums = refl; all = sym (length-take-le s.len p.bytes within); held = s.held }),
      allowed _ (finds p s.len s.is_pair s.kept),
    )

finds_others : {F : Type 0} (book : BookState F) (e : ReplicaEvent) (m left : FileMap) (x : Scanned) → ((found : Option Found) → FindsBlock book.block m found → MayFind (replica_of book) (Some e) found) → ScansOthers book.block m left x
    → (found : Option Found) × Shows left x.seen found × MayFind (replica_of book) (Some e) found
finds_others book e m left x allowed s = (
  None,
  subst (λ (o : Option Seen). Shows left o None) (sym (ap (λ (y : Scanned). y.seen) s.found)) tt,
  allowed None (finds_none s.none),
)

finds_allowed : {F : Type 0} (book : BookState F) (e : ReplicaEvent) (m : FileMap) → ((found : Option Found) → FindsBlock book.block m found → MayFind (replica_of book) (Some e) found) → FindsAllowed book e m
finds_allowed book e m allowed left x (inl s) = finds_pair book e m left x allowed s
finds_allowed book e m allowed left x (inr s) = finds_others book e m left x allowed s

-- ---- the files of a book

-- of an absent replica there are no files
abbrev HasNone : Option FileMap → Option ReplicaInfo → Type 0
HasNone files None = IfSome files (λ m. m ≡ no_files)
HasNone files (Some h) = Unit {0}

-- where the files of a replica that isn't broken lie, absent or not
files_placed : (o : Option FileMap) (block : ℕ) (info : Option ReplicaInfo) (is_broken : Bool) (bytes : List ℕ) → is_broken ≡ false → HoldsInfo o block info is_broken bytes → HasNone o info
    → IfSome o (λ m. m ≡ files_of block (placed_under info bytes))
files_placed o block None is_broken bytes whole holds none = none
files_placed o block (Some h) true bytes whole holds none = absurd (true_false whole)
files_placed o block (Some h) false bytes whole holds none = holds

no_names : (names : List (List ℕ)) (m : FileMap) → m ≡ no_files → AreNamesOf m names → names ≡ []
no_names [] m none are = refl
no_names (name ∷ names) m none are = absurd (no_file (m name) (ap (λ (f : FileMap). f name) none) ((are.each name).0 (0, omega arith, refl))) where
  no_file : (o : Option (List ℕ)) → o ≡ None → IsSome o → ⊥
  no_file None e h = cc
  no_file (Some x) e h = cc

-- no file is removed first
no_strays : (m : FileMap) (info next : Option ReplicaInfo) (strays : List (List ℕ)) → HasNone (Some m) info → AreStrays (Some m) info next strays → strays ≡ []
no_strays m None (Some k) strays none are = no_names strays m none are
no_strays m None None strays none are = are
no_strays m (Some h) next strays none are = are

nothing_done : (calls : List BlockCall) (p : Placement) → all_placed (block_calls.stopped 0 0 calls) p ≡ p
nothing_done [] p = refl
nothing_done (call ∷ calls) p = refl

module _ {F : Type 0} (f : files.Ghosts F) (book : BookState F) (e : ReplicaEvent) (is_book : IsBookOf f book) (whole : (replica_of book).known.is_broken ≡ false)
    (with_bytes : IsWithBytes e) (numbers : HasNumbers (replica_of book)) (later : HasNumbers (row (replica_of book) e)) where
  -- the files where some calls of the event were stopped
  allowed_there : (m : FileMap) (i n : ℕ) → m ≡ files_of (replica_of book).known.block.0 (all_placed (block_calls.stopped i n (plan (replica_of book) e)) (placement_of (replica_of book))) → FindsAllowed book e m
  allowed_there m i n there = finds_allowed book e m (λ found is.
      found_stopped (replica_of book) e i n found is_book.held.full with_bytes numbers later (replayed_unrecovered book.block book.history)
      (subst (λ q. FindsBlock (replica_of book).known.block q found) there (subst (λ b. FindsBlock b m found) (sym is_book.held.of_block) is)))

  by_files : (o : Option FileMap) (new : F) → f.files book.drawer ≡ o → HasNone o (replica_of book).known.info → IfSome o (λ m. m ≡ files_of (replica_of book).known.block.0 (placement_of (replica_of book)))
      → StopsEvent f book.drawer new (replica_of book) e → IfSome (f.files new) (FindsAllowed book e)
  by_files None new at none placed_so (before_all same) = subst (λ q. IfSome q (FindsAllowed book e)) (sym (same.files ∙ at)) tt
  by_files None new at none placed_so (amid strays are stops) =
      subst (λ q. IfSome q (FindsAllowed book e)) (sym (stops.2.files ∙ ap (option_map (run (stopped stops.0 stops.1 (event_calls (replica_of book) e strays)))) at)) tt
  by_files (Some m) new at none placed_so (before_all same) =
      subst (λ q. IfSome q (FindsAllowed book e)) (sym (same.files ∙ at))
      (allowed_there m 0 0 (placed_so ∙ ap (files_of (replica_of book).known.block.0) (sym (nothing_done (plan (replica_of book) e) (placement_of (replica_of book))))))
  by_files (Some m) new at none placed_so (amid strays are stops) =
      let r = replica_of book in
      let b = r.known.block.0 in
      let calls = calls_of b (plan r e) (placement_of r) in
      let i = stops.0 in
      let n = stops.1 in
      let nothing : strays ≡ [] = no_strays m r.known.info (row r e).known.info strays none (subst (λ q. AreStrays q r.known.info (row r e).known.info strays) at are) in
      let left : run (stopped i n (event_calls r e strays)) m ≡ files_of b (all_placed (block_calls.stopped i n (plan r e)) (placement_of r)) =
      ap (λ l. run (stopped i n (remove_list l ++ calls)) m) nothing
      ∙ (ap (run (stopped i n calls)) placed_so
      ∙ stopped_calls_place_files b (plan r e) (placement_of r) i n numbers.block_fits (plans_find_files r e is_book.held.full with_bytes)) in
      subst (λ q. IfSome q (FindsAllowed book e)) (sym (stops.2.files ∙ ap (option_map (run (stopped i n (event_calls r e strays)))) at))
      (allowed_there (run (stopped i n (event_calls r e strays)) m) i n left)

-- ---- a replica that is absent, and stays so

none_taken : (e : ReplicaEvent) (o : Option ReplicaInfo) (bytes : List ℕ) → taken_calls e o None bytes ≡ []
none_taken e None bytes = refl
none_taken e (Some h) bytes = refl

none_planned : (e : ReplicaEvent) (c : ReplicaRecord) (bytes : List ℕ) (out : Outcome) → (record_after c out).info ≡ None → outcome_calls e c.info bytes out ≡ []
none_planned e c bytes (Err x) none = refl
none_planned e c bytes (Ok t) none = ap (λ o. taken_calls e c.info o bytes) none ∙ none_taken e c.info bytes

no_pair_found : (block : BlockId) (m : FileMap) (found : Option Found) → ((p : Pair) → IsPair block m p → ⊥) → FindsBlock block m found → found ≡ None
no_pair_found block m found none (finds p len is kept) = absurd (none p is)
no_pair_found block m found none (finds_none is) = refl

module _ {F : Type 0} (f : files.Ghosts F) (book : BookState F) (e : ReplicaEvent) (is_book : IsBookOf f book) (with_bytes : IsWithBytes e) (numbers : HasNumbers (replica_of book))
    (later : HasNumbers (row (replica_of book) e)) (absent : (replica_of book).known.info ≡ None) (still : (row (replica_of book) e).known.info ≡ None) where
  no_plan : plan (replica_of book) e ≡ []
  unfolding transition
  no_plan = let r = replica_of book in none_planned e r.known r.bytes (transition r.known (event_at r e)) still

  none_left : files_of (replica_of book).known.block.0 (all_placed (block_calls.stopped 0 0 (plan (replica_of book) e)) (placement_of (replica_of book))) ≡ no_files
  none_left =
      let r = replica_of book in
      ap (files_of r.known.block.0) (nothing_done (plan r e) (placement_of r)) ∙ ap (λ o. files_of r.known.block.0 (placed_under o r.bytes)) absent

  none_allowed : MayFind (replica_of book) (Some e) None
  none_allowed =
      let r = replica_of book in
      found_stopped r e 0 0 None is_book.held.full with_bytes numbers later (replayed_unrecovered book.block book.history)
      (subst (λ m. FindsBlock r.known.block m None) (sym none_left) (none_there r.known.block))

  absent_there : (m : FileMap) → ((p : Pair) → IsPair (replica_of book).known.block m p → ⊥) → FindsAllowed book e m
  absent_there m none = finds_allowed book e m (λ found is.
      subst (λ o. MayFind (replica_of book) (Some e) o) (sym (no_pair_found (replica_of book).known.block m found none (subst (λ b. FindsBlock b m found) (sym is_book.held.of_block) is))) none_allowed)

  absent_files : (o : Option FileMap) (new : F) → f.files book.drawer ≡ o → IfSome o (λ m. (p : Pair) → IsPair (replica_of book).known.block m p → ⊥) → StopsEvent f book.drawer new (replica_of book) e
      → IfSome (f.files new) (FindsAllowed book e)
  absent_files None new at none (before_all same) = subst (λ q. IfSome q (FindsAllowed book e)) (sym (same.files ∙ at)) tt
  absent_files None new at none (amid strays are stops) =
      subst (λ q. IfSome q (FindsAllowed book e)) (sym (stops.2.files ∙ ap (option_map (run (stopped stops.0 stops.1 (event_calls (replica_of book) e strays)))) at)) tt
  absent_files (Some m) new at none (before_all same) = subst (λ q. IfSome q (FindsAllowed book e)) (sym (same.files ∙ at)) (absent_there m none)
  absent_files (Some m) new at none (amid strays are stops) =
      let r = replica_of book in
      let nothing : strays ≡ [] = subst (λ q. AreStrays (f.files book.drawer) None q strays) still (subst (λ o. AreStrays (f.files book.drawer) o (row r e).known.info strays) absent are) in
      let uncalled : event_calls r e strays ≡ [] = ap (λ l. remove_list l ++ calls_of r.known.block.0 (plan r e) (placement_of r)) nothing ∙ ap (λ l. calls_of r.known.block.0 l (placement_of r)) no_plan in
      subst (λ q. IfSome q (FindsAllowed book e))
      (sym (stops.2.files ∙ ap (option_map (run (stopped stops.0 stops.1 (event_calls r e strays)))) at ∙ ap (λ l. Some (run (stopped stops.0 stops.1 l) m)) uncalled))
      (absent_there m none)

pub restart_rule : {F : Type 0} (f : files.Ghosts F) → RestartRule f
restart_rule f book new e is_book whole with_bytes numbers later none stops = by r.known.info (row r e).known.info refl refl none where
  r : FullReplica
  r = replica_of book

  by_placed : HasNone (f.files book.drawer) r.known.info → IfSome (f.files new) (FindsAllowed book e)
  by_placed none =
      by_files f book e is_book whole with_bytes numbers later (f.files book.drawer) new refl none
      (files_placed (f.files book.drawer) r.known.block.0 r.known.info r.known.is_broken r.bytes whole is_book.held.holds none) stops

  by : (o q : Option ReplicaInfo) → r.known.info ≡ o → (row r e).known.info ≡ q → NoneInTheWay r.known.block (f.files book.drawer) o q → IfSome (f.files new) (FindsAllowed book e)
  by None None absent still none = absent_files f book e is_book with_bytes numbers later absent still (f.files book.drawer) new refl none stops
  by None (Some k) absent becomes none = by_placed (subst (HasNone (f.files book.drawer)) (sym absent) none)
  by (Some h) q is becomes none = by_placed (subst (HasNone (f.files book.drawer)) (sym is) tt)

pub failed_calls_are_found : {F : Type 0} (f : files.Ghosts F) → FailedCallsAreFound f
failed_calls_are_found f old new e receipt is_book with_bytes numbers later none ends =
    restart_rule f old new.drawer e is_book ends.whole with_bytes numbers later none ends.stopped
