-- A packet with sync that a book took ends with the syncs of the replica's files.
use Rattle.std.proofs.Common.{◌≡◌, ℕ, ◌^◌, ◌<◌, nat_lt, Bool, true, false, List, [], ◌∷◌, ◌++◌, length, Option, Some, None, IfSome, option_map, Ok, Err, refl, sym, ap, subst, ◌∙◌, append_assoc}
use Rattle.std.specs.Result.{IfOk, IsOk}
use Rattle.hd_base.specs.FileMaps.{FileMap}
use Rattle.hd_base.specs.Calls.{Log, logged, run, LogMakesFiles}
use Rattle.hd_base.specs.declared.files.Files as files
use Rattle.hd_base.specs.declared.numbers.BlockId.{BlockId}
use Rattle.hd_base.specs.declared.numbers.ConnId.{ConnId}
use Rattle.block_files.specs.Placements.{Placement, Nowhere, DataAlone, Both, files_of}
use Rattle.block_files.specs.BlockCalls.{BlockCall, placed, all_placed, call_of, calls_of, AreAble}
use Rattle.block_files.proofs.PlacementLaws.{calls_place_files}
use Rattle.packet_codec.specs.declared.packets.Packet.{Packet}
use Rattle.replica_core.specs.declared.records.ReplicaRecord.{ReplicaRecord}
use Rattle.replica_core.specs.declared.info.ReplicaInfo.{ReplicaInfo}
use Rattle.replica_core.specs.declared.extents.PacketExtent.{PacketExtent}
use Rattle.replica_core.specs.declared.refusals.Refusal.{Refusal}
use Rattle.replica_core.specs.Transitions.{Outcome, present, packet_transition, transition}
use Rattle.replica_core.proofs.StepLemmas.{if_step}
use Rattle.replica_core.proofs.InfoLemmas.{present_is}
use Rattle.replica_model.specs.declared.events.ReplicaEvent.{ReplicaEvent}
use Rattle.replica_model.specs.declared.events.ReplicaEvent.TheVariants as replica_event
use Rattle.replica_model.specs.Rows.{FullReplica, IsFull, IsWithBytes, event_at, brought, row}
use Rattle.replica_model.specs.Plans.{HoldsInfo, placed_under, placed_info, placement_of, when, grow_calls, sync_calls, taken_calls, outcome_calls, plan}
use Rattle.replica_model.proofs.BlockLemmas.{block_kept}
use Rattle.replica_model.proofs.RowLemmas.{plans_find_files, plans_follow_rows}
use Rattle.replica_calls.specs.CallLists.{remove_list}
use Rattle.replica_files.specs.Books.{replica_of, event_calls, AreStrays}
use Rattle.restart_scan.proofs.EventLemmas.{Turns, TurnsTo, turns, replayed_unrecovered}
use Rattle.durable_replicas.specs.Steady.{EndsSynced}
use Rattle.durable_replicas.specs.Hsyncs.{PacketsEndSynced}
use Rattle.durable_replicas.proofs.LeftLemmas.{run_append}

-- ---- lists of calls

pub calls_append : (block : ℕ) (xs ys : List BlockCall) (p : Placement) → calls_of block (xs ++ ys) p ≡ calls_of block xs p ++ calls_of block ys (all_placed xs p)
calls_append block [] ys p = refl
calls_append block (x ∷ xs) ys p = ap (λ l. call_of block p x ∷ l) (calls_append block xs ys (placed x p))

placed_append : (xs ys : List BlockCall) (p : Placement) → all_placed (xs ++ ys) p ≡ all_placed ys (all_placed xs p)
placed_append [] ys p = refl
placed_append (x ∷ xs) ys p = placed_append xs ys (placed x p)

able_front : (xs ys : List BlockCall) (p : Placement) → AreAble p (xs ++ ys) → AreAble p xs
able_front [] ys p able = tt
able_front (x ∷ xs) ys p able = (able.0, able_front xs ys (placed x p) able.1)

syncs_stay : (p : Placement) → all_placed sync_calls p ≡ p
syncs_stay Nowhere = refl
syncs_stay (DataAlone f d) = refl
syncs_stay (Both f d mf g m) = refl

-- ---- the packet

-- There is a replica that isn't broken.
record IsThere (c : ReplicaRecord) : Type 0 where
  whole : c.is_broken ≡ false
  held : ReplicaInfo
  there : c.info ≡ Some held

packet_there : (c : ReplicaRecord) (conn : ConnId) (p : PacketExtent) → IfOk (packet_transition c conn p) (λ _. IsThere c)
packet_there c conn p =
    if_step (λ _. IsThere c) (present c) _ (λ h there.
    let is = present_is c h there in
    let here : IsThere c = record { whole = is.0; held = h; there = is.1 } in
    all_ok _ here) where
      all_ok : (o : Outcome) → IsThere c → IfOk o (λ _. IsThere c)
      all_ok (Ok t) x = x
      all_ok (Err e) x = tt

refused_ok : (o : Outcome) (e : Refusal) → o ≡ Err e → IsOk o → ⊥
refused_ok o e is taken = cc

-- Its calls end with the syncs.
record PlansSync (calls : List BlockCall) : Type 0 where
  first : List BlockCall
  are : calls ≡ first ++ sync_calls

pub none_some : (h : ReplicaInfo) → ◌≡◌ {A = Option ReplicaInfo} None (Some h) → ⊥
none_some h e = cc

taken_sync : (conn : ConnId) (p : Packet) (o q : Option ReplicaInfo) (h : ReplicaInfo) (bytes : List ℕ) → p.sync ≡ true → o ≡ Some h → Turns o q → PlansSync (taken_calls (replica_event.Packet conn p) o q bytes)
unfolding Turns
taken_sync conn p None q h bytes sync there turned = absurd (none_some h there)
taken_sync conn p (Some g) None h bytes sync there turned = absurd turned
taken_sync conn p (Some g) (Some k) h bytes sync there turned =
    let more = brought (length bytes) (replica_event.Packet conn p) in
    let first = when (nat_lt 0 (length more)) (grow_calls g.sums bytes more) in
    record { first = first; are = ap (λ t. first ++ when t sync_calls) sync }

outcome_sync : (c : ReplicaRecord) (conn : ConnId) (p : Packet) (bytes : List ℕ) (out : Outcome) → p.sync ≡ true → IsThere c → IsOk out → IfOk out (TurnsTo c) → PlansSync (outcome_calls (replica_event.Packet conn p) c.info bytes out)
outcome_sync c conn p bytes (Ok t) sync here taken turned = taken_sync conn p c.info t.replica.info here.held bytes sync here.there turned
outcome_sync c conn p bytes (Err e) sync here taken turned = absurd (refused_ok (Err e) e refl taken)

-- ---- the log

-- After the calls of an event that end with the syncs, the log ends with those of the replica that it leads to.
ends_synced : (r : FullReplica) (e : ReplicaEvent) (first : List BlockCall) (log : Log) → IsFull r → IsWithBytes e → r.known.block.0 < 2 ^ 64 → plan r e ≡ first ++ sync_calls
    → run log.calls log.start ≡ files_of r.known.block.0 (placement_of r) → EndsSynced (row r e) (logged (calls_of r.known.block.0 (plan r e) (placement_of r)) log)
ends_synced r e first log full with_bytes fits split holds = record {
  before = log.calls ++ calls_of b first p;
  calls = ap (λ l. log.calls ++ l) (ap (λ l. calls_of b l p) split ∙ (calls_append b first sync_calls p ∙ ap (λ x. calls_of b first p ++ calls_of b sync_calls x) there))
      ∙ (sym (append_assoc log.calls (calls_of b first p) (calls_of b sync_calls q)) ∙ ap (λ k. (log.calls ++ calls_of b first p) ++ calls_of k sync_calls q) (sym same));
  made = run_append log.calls (calls_of b first p) log.start
      ∙ (ap (run (calls_of b first p)) holds ∙ (calls_place_files b first p fits able ∙ (ap (files_of b) there ∙ ap (λ k. files_of k q) (sym same))));
} where
  b : ℕ
  b = r.known.block.0

  p : Placement
  p = placement_of r

  q : Placement
  q = placement_of (row r e)

  there : all_placed first p ≡ q
  there = sym (syncs_stay (all_placed first p)) ∙ (sym (placed_append first sync_calls p) ∙ (ap (λ l. all_placed l p) (sym split) ∙ plans_follow_rows r e full with_bytes))

  able : AreAble p first
  able = able_front first sync_calls p (subst (λ l. AreAble p l) split (plans_find_files r e full with_bytes))

  same : (row r e).known.block.0 ≡ b
  same = ap (λ (k : BlockId). k.0) (block_kept r.known (event_at r e))

-- ---- the book

-- the files of a replica that is there and isn't broken
held_files : (o : Option FileMap) (b : ℕ) (info : Option ReplicaInfo) (is_broken : Bool) (bytes : List ℕ) (h : ReplicaInfo) (m : FileMap) → info ≡ Some h → is_broken ≡ false → o ≡ Some m → HoldsInfo o b info is_broken bytes
    → m ≡ files_of b (placed_under info bytes)
held_files o b None is_broken bytes h m there whole told holds = absurd (none_some h there)
held_files o b (Some g) true bytes h m there whole told holds = absurd (true_false whole) where
  true_false : true ≡ false → ⊥
  true_false e = cc
held_files o b (Some g) false bytes h m there whole told holds = subst (λ (x : Option FileMap). IfSome x (λ k. k ≡ files_of b (placed_info g bytes))) told holds

pub no_strays : (o : Option FileMap) (info next : Option ReplicaInfo) (strays : List (List ℕ)) (h : ReplicaInfo) → info ≡ Some h → AreStrays o info next strays → strays ≡ []
no_strays o None next strays h there are = absurd (none_some h there)
no_strays o (Some g) next strays h there are = are

taken_there : (c : ReplicaRecord) (out : Outcome) → IsOk out → IfOk out (λ _. IsThere c) → IsThere c
taken_there c (Ok t) taken here = here
taken_there c (Err e) taken here = absurd (refused_ok (Err e) e refl taken)

packet_is_there : (r : FullReplica) (conn : ConnId) (p : Packet) → IsOk (transition r.known (event_at r (replica_event.Packet conn p))) → IsThere r.known
unfolding transition
packet_is_there r conn p taken = taken_there r.known (transition r.known (event_at r (replica_event.Packet conn p))) taken (packet_there r.known conn _)

pub packets_end_synced : {F : Type 0} (f : files.Ghosts F) → ((drawer : F) → LogMakesFiles (f.log drawer) (f.files drawer)) → PacketsEndSynced f
packets_end_synced f tells old new conn p receipt is_book sync ends = by_log (f.log old.drawer) refl where
  r : FullReplica
  r = replica_of old

  e : ReplicaEvent
  e = replica_event.Packet conn p

  here : IsThere r.known
  here = packet_is_there r conn p ends.takes

  syncs : PlansSync (plan r e)
  syncs = outcome_sync r.known conn p r.bytes (transition r.known (event_at r e)) sync here ends.takes (turns r.known (event_at r e) (replayed_unrecovered old.block old.history))

  calls_are : event_calls r e ends.made.strays ≡ calls_of r.known.block.0 (plan r e) (placement_of r)
  calls_are = ap (λ l. remove_list l ++ calls_of r.known.block.0 (plan r e) (placement_of r)) (no_strays (f.files old.drawer) r.known.info (row r e).known.info ends.made.strays here.held here.there ends.made.are)

  fits : r.known.block.0 < 2 ^ 64
  fits = subst (λ (k : BlockId). k.0 < 2 ^ 64) (sym is_book.held.of_block) is_book.held.fits

  by_log : (o : Option Log) → f.log old.drawer ≡ o → IfSome (f.log new.drawer) (EndsSynced (row r e))
  by_log None at = subst (λ (q : Option Log). IfSome q (EndsSynced (row r e))) (sym (ends.made.made.log ∙ ap (option_map (logged (event_calls r e ends.made.strays))) at)) tt
  by_log (Some log) at =
      let told = subst (λ (q : Option Log). LogMakesFiles q (f.files old.drawer)) at (tells old.drawer) in
      let holds = held_files (f.files old.drawer) r.known.block.0 r.known.info r.known.is_broken r.bytes here.held (run log.calls log.start) here.there here.whole told is_book.held.holds in
      subst (λ (q : Option Log). IfSome q (EndsSynced (row r e))) (sym (ends.made.made.log ∙ ap (option_map (logged (event_calls r e ends.made.strays))) at))
      (subst (λ l. EndsSynced (row r e) (logged l log)) (sym calls_are) (ends_synced r e syncs.first log is_book.held.full tt fits syncs.are holds))
