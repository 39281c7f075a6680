-- The calls of events that leave a replica with some bytes leave the fronts of its files that hold them.
use Rattle.std.proofs.Common.{◌≡◌, inl, inr, ℕ, negsuc, ◌+◌, ◌*◌, ◌/◌, ◌%◌, ◌^◌, ◌<◌, ◌≤◌, ◌==◌, ◌&&◌, not, nat_lt, Bool, true, false, List, [], ◌∷◌, ◌++◌, length, take, Option, Some, None, IfSome, Ok, Err, refl, sym, ap, subst, ◌∙◌, arith}
use Rattle.std.specs.Result.{IfOk}
use Rattle.std.specs.Ordering.{int_eq}
use Rattle.std.proofs.lemmas.List.{length-append, length-take-le}
use Rattle.std.proofs.lemmas.Nat.{le-div}
use Rattle.std.proofs.Math.Nat.{div-mul-le_self}
use Rattle.hd_base.specs.SumRules.{Rule, IsChunkSize}
use Rattle.hd_base.specs.declared.numbers.ConnId.{ConnId}
use Rattle.hd_base.specs.declared.states.ReplicaState.{ReplicaState}
use Rattle.hd_base.specs.declared.states.ReplicaState.TheVariants as state
use Rattle.chunk_sums.specs.Chunks.{sums}
use Rattle.meta_file.specs.declared.names.Folder.{Folder}
use Rattle.meta_file.specs.Headers.{header_of}
use Rattle.block_files.specs.Placements.{Placement}
use Rattle.block_files.specs.BlockCalls.{BlockCall, WriteMeta, CutMeta, MoveData, MoveMeta}
use Rattle.packet_codec.specs.declared.packets.Packet.{Packet}
use Rattle.replica_core.specs.declared.records.ReplicaRecord.{ReplicaRecord}
use Rattle.replica_core.specs.declared.events.Event.{Event}
use Rattle.replica_core.specs.declared.extents.PacketExtent.{PacketExtent}
use Rattle.replica_core.specs.declared.info.ReplicaInfo.{ReplicaInfo}
use Rattle.replica_core.specs.declared.refusals.Refusal.TheVariants as refusal
use Rattle.replica_core.specs.Info.{state_of, is_writable, is_temporary, extend_written}
use Rattle.replica_core.specs.Views.{written_at, written_in}
use Rattle.replica_core.specs.Extents.{stream_after, heartbeat_of, pending_of}
use Rattle.replica_core.specs.Transitions.{Taken, Outcome, record_after, present, extent_transition, packet_transition, stream_by, transition}
use Rattle.replica_core.proofs.StepLemmas.{choice, if_check, if_step}
use Rattle.replica_core.proofs.InfoLemmas.{present_is}
use Rattle.replica_model.specs.declared.events.ReplicaEvent.{ReplicaEvent}
use Rattle.replica_model.specs.declared.events.ReplicaEvent.TheVariants as replica_event
use Rattle.replica_model.specs.Sums.{header_len, tail, sum_place, meta_len, meta_of}
use Rattle.replica_model.specs.Rows.{FullReplica, IsFull, event_at, brought, row}
use Rattle.replica_model.specs.Plans.{folder_of, placement_of, same_folder, when, has_sums, grow_calls, sync_calls, packet_calls, last_sum_calls, cut_calls, move_calls, settle_calls, leaves_temporary, taken_calls, outcome_calls, plan}
use Rattle.replica_model.proofs.SumLemmas.{length_meta, sum_within}
use Rattle.replica_model.proofs.PlacementLemmas.{Leads, leads_nowhere, leads_append}
use Rattle.replica_model.proofs.RowLemmas.{Settles, SettlesTo, settles, plan_leads, rows_keep_bytes}
use Rattle.restart_scan.specs.Laws.{IsPlain}
use Rattle.restart_scan.proofs.EventLemmas.{IsUnrecovered, Unrecovered, Turns, TurnsTo, turns}
use Rattle.durable_replicas.specs.Fronts.{whole_sums, front_len, AllLeaveFronts}
use Rattle.durable_replicas.specs.Steady.{all_plans, KeepsLength, IsSteady, IsKept}

true_false : true ≡ false → ⊥
true_false e = cc

-- ---- lists of calls

fronts_append : (k m : ℕ) (xs ys : List BlockCall) → AllLeaveFronts k m xs → AllLeaveFronts k m ys → AllLeaveFronts k m (xs ++ ys)
fronts_append k m [] ys a b = b
fronts_append k m (x ∷ xs) ys a b = (a.0, fronts_append k m xs ys a.1 b)

fronts_when : (k m : ℕ) (t : Bool) (calls : List BlockCall) → AllLeaveFronts k m calls → AllLeaveFronts k m (when t calls)
fronts_when k m true calls a = a
fronts_when k m false calls a = tt

-- ---- how long the front of the metadata file is

div_rises : (n q c : ℕ) → 1 ≤ c → n ≤ q → n / c ≤ q / c
div_rises n q c some within = le-div (n / c) q c (omega (arith, some)) (omega (arith, div-mul-le_self n c, within))

front_place : (r : Rule) (n q : ℕ) → 1 ≤ r.chunk → n ≤ q → front_len r n ≤ sum_place r q
front_place r n q some within = by (has_sums r.kind) where
  by : (t : Bool) → header_len + 4 * whole_sums t r n ≤ sum_place r q
  by true = let rises = div_rises n q r.chunk some within in omega (arith, rises)
  by false = omega arith

pub front_within : (r : Rule) (bytes : List ℕ) (n : ℕ) → 1 ≤ r.chunk → n ≤ length bytes → front_len r n ≤ length (meta_of r bytes)
front_within r bytes n some within = by (has_sums r.kind) refl where
  header : length (header_of r) ≡ 7
  header = refl

  by : (t : Bool) → has_sums r.kind ≡ t → header_len + 4 * whole_sums t r n ≤ length (meta_of r bytes)
  by true h = sum_within r bytes n h some within
  by false h = omega (arith, length-append (header_of r) (sums r bytes), header)

front_cut : (r : Rule) (bytes : List ℕ) (n q : ℕ) → 1 ≤ r.chunk → n ≤ q → q ≤ length bytes → front_len r n ≤ meta_len r q
front_cut r bytes n q some within there =
    let len : length (take q bytes) ≡ q = length-take-le q bytes there in
    subst (λ c. front_len r n ≤ meta_len r c) len
    (subst (λ c. front_len r n ≤ c) (length_meta r (take q bytes) some) (front_within r (take q bytes) n some (subst (λ c. n ≤ c) (sym len) within)))

-- ---- the calls of each kind of event

packet_fronts : (r : Rule) (bytes more : List ℕ) (sync : Bool) (n : ℕ) → 1 ≤ r.chunk → n ≤ length bytes → AllLeaveFronts n (front_len r n) (packet_calls r bytes more sync)
packet_fronts r bytes more sync n some within =
    let m = front_len r n in
    fronts_append n m (when (nat_lt 0 (length more)) (grow_calls r bytes more)) (when sync sync_calls)
    (fronts_when n m (nat_lt 0 (length more)) (grow_calls r bytes more)
    (within, fronts_when n m (has_sums r.kind) (WriteMeta (sum_place r (length bytes)) (sums r (tail r bytes ++ more)) ∷ []) (front_place r n (length bytes) some within, tt)))
    (fronts_when n m sync sync_calls (tt, (tt, tt)))

cut_fronts : (r : Rule) (bytes : List ℕ) (n q : ℕ) → 1 ≤ r.chunk → n ≤ q → q ≤ length bytes → AllLeaveFronts n (front_len r n) (cut_calls r bytes q)
cut_fronts r bytes n q some within there =
    let m = front_len r n in
    let left = take q bytes in
    let place : front_len r n ≤ sum_place r (length left) = front_place r n (length left) some (subst (λ c. n ≤ c) (sym (length-take-le q bytes there)) within) in
    let last : AllLeaveFronts n m (last_sum_calls r left) =
    fronts_when n m (has_sums r.kind && not (length left % r.chunk == 0)) (WriteMeta (sum_place r (length left)) (sums r (tail r left)) ∷ []) (place, tt) in
    let cut : AllLeaveFronts n m (when (nat_lt (meta_len r q) (meta_len r (length bytes))) (CutMeta (meta_len r q) ∷ [])) =
    fronts_when n m (nat_lt (meta_len r q) (meta_len r (length bytes))) (CutMeta (meta_len r q) ∷ []) (front_cut r bytes n q some within there, tt) in
    fronts_when n m (nat_lt q (length bytes)) _
    (within, fronts_append n m (last_sum_calls r left) (when (nat_lt (meta_len r q) (meta_len r (length bytes))) (CutMeta (meta_len r q) ∷ [])) last cut)

move_fronts : (k m : ℕ) (from : Folder) (held : ℕ) (folder : Folder) (stamp : ℕ) → IsPlain folder → stamp < 2 ^ 64 → AllLeaveFronts k m (move_calls from held folder stamp)
move_fronts k m from held folder stamp plain fits =
    fronts_append k m (when (not (same_folder from folder && held == stamp)) (MoveMeta folder stamp ∷ [])) (when (not (same_folder from folder)) (MoveData folder ∷ []))
    (fronts_when k m (not (same_folder from folder && held == stamp)) (MoveMeta folder stamp ∷ []) ((plain, fits), tt))
    (fronts_when k m (not (same_folder from folder)) (MoveData folder ∷ []) (plain, tt))

pub plain_folder : (s : ReplicaState) → is_temporary s ≡ false → IsPlain (folder_of s)
plain_folder state.Finalized e = inr refl
plain_folder state.Rbw e = inl refl
plain_folder state.Rwr e = inl refl
plain_folder state.Rur e = inl refl
plain_folder state.Temporary e = absurd (true_false e)

settle_fronts : (h k : ReplicaInfo) (bytes : List ℕ) (n : ℕ) → 1 ≤ h.sums.chunk → n ≤ k.written → k.written ≤ length bytes → is_temporary k.original ≡ false → k.stamp.0 < 2 ^ 64
    → AllLeaveFronts n (front_len h.sums n) (settle_calls h k bytes)
settle_fronts h k bytes n some within there apart fits =
    let m = front_len h.sums n in
    fronts_append n m (cut_calls h.sums bytes k.written) (move_calls (folder_of h.original) h.stamp.0 (folder_of k.original) k.stamp.0)
    (cut_fronts h.sums bytes n k.written some within there)
    (move_fronts n m (folder_of h.original) h.stamp.0 (folder_of k.original) k.stamp.0 (plain_folder k.original apart) fits)

-- ---- what is held after an event

-- What is held then has the same rule and isn't TEMPORARY, and the calls leave the fronts.
record Goes (q : Option ReplicaInfo) (h : ReplicaInfo) (n : ℕ) (calls : List BlockCall) : Type 0 where
  next : ReplicaInfo
  there : q ≡ Some next
  rule : next.sums ≡ h.sums
  apart : is_temporary next.original ≡ false
  fronts : AllLeaveFronts n (front_len h.sums n) calls

other_fronts : (e : Event) (q : Option ReplicaInfo) (h : ReplicaInfo) (bytes : List ℕ) (n : ℕ) → is_temporary h.original ≡ false → 1 ≤ h.sums.chunk → length bytes ≡ h.written → n ≤ written_at q
    → IfSome q (λ k. k.stamp.0 < 2 ^ 64) → Settles (Some h) q → Turns (Some h) q → Goes q h n (taken_calls (replica_event.Other e) (Some h) q bytes)
unfolding Settles Turns
other_fronts e None h bytes n apart some all enough fits settled turned = absurd turned
other_fronts e (Some k) h bytes n apart some all enough fits settled turned =
    let m = front_len h.sums n in
    record {
      next = k;
      there = refl;
      rule = settled.0;
      apart = turned.apart apart;
      fronts = fronts_append n m (when (leaves_temporary h k) sync_calls) (settle_calls h k bytes)
          (fronts_when n m (leaves_temporary h k) sync_calls (tt, (tt, tt)))
          (settle_fronts h k bytes n some enough (omega (arith, settled.1, all)) (turned.apart apart) fits);
    }

other_goes : (c : ReplicaRecord) (e : Event) (h : ReplicaInfo) (bytes : List ℕ) (n : ℕ) (out : Outcome) → c.info ≡ Some h → is_temporary h.original ≡ false → 1 ≤ h.sums.chunk → length bytes ≡ h.written
    → n ≤ written_in (record_after c out) → IfSome (record_after c out).info (λ k. k.stamp.0 < 2 ^ 64) → IfOk out (SettlesTo c) → IfOk out (TurnsTo c) → Goes (record_after c out).info h n (outcome_calls (replica_event.Other e) c.info bytes out)
other_goes c e h bytes n (Ok t) there apart some all enough fits settled turned =
    subst (λ (o : Option ReplicaInfo). Goes t.replica.info h n (taken_calls (replica_event.Other e) o t.replica.info bytes)) (sym there)
    (other_fronts e t.replica.info h bytes n apart some all enough fits
    (subst (λ (o : Option ReplicaInfo). Settles o t.replica.info) there settled) (subst (λ (o : Option ReplicaInfo). Turns o t.replica.info) there turned))
other_goes c e h bytes n (Err x) there apart some all enough fits settled turned = record { next = h; there = there; rule = refl; apart = apart; fronts = tt }

-- ---- packets

-- the rule is the same
SameRule : Option ReplicaInfo → Option ReplicaInfo → Type 0
SameRule None q = Unit {0}
SameRule (Some h) None = Unit {0}
SameRule (Some h) (Some k) = k.sums ≡ h.sums

same_rule : (o : Option ReplicaInfo) → SameRule o o
unfolding SameRule
same_rule None = tt
same_rule (Some h) = refl

rule_some : (o : Option ReplicaInfo) (h k : ReplicaInfo) → o ≡ Some h → k.sums ≡ h.sums → SameRule o (Some k)
unfolding SameRule
rule_some o h k is e = subst (λ p. SameRule p (Some k)) (sym is) e

packet_rule : (c : ReplicaRecord) (conn : ConnId) (p : PacketExtent) → IfOk (packet_transition c conn p) (λ t. SameRule c.info t.replica.info)
unfolding extent_transition
packet_rule c conn p =
    let P : Taken → Type 0 = λ t. SameRule c.info t.replica.info in
    if_step P (present c) _ (λ h there.
    let is = (present_is c h there).1 in
    if_check P (is_writable (state_of h)) refusal.NotWriter _ (λ _.
    if_step P (stream_by c.stream conn) _ (λ s _.
    choice (λ (o : Outcome). IfOk o P) (int_eq p.seqno (negsuc 0)) _ _
    (λ _. if_step P (heartbeat_of p) _ (λ e _. same_rule c.info))
    (λ _. if_step P (stream_after s p) _ (λ t _.
    if_step P (pending_of h.sums p h.written) _ (λ e _.
    rule_some c.info h (extend_written h e.end) is refl))))))

packet_held : (conn : ConnId) (p : Packet) (q : Option ReplicaInfo) (h : ReplicaInfo) (bytes : List ℕ) (n : ℕ) → is_temporary h.original ≡ false → 1 ≤ h.sums.chunk → n ≤ length bytes
    → SameRule (Some h) q → Turns (Some h) q → Goes q h n (taken_calls (replica_event.Packet conn p) (Some h) q bytes)
unfolding SameRule Turns
packet_held conn p None h bytes n apart some within same turned = absurd turned
packet_held conn p (Some k) h bytes n apart some within same turned = record {
  next = k;
  there = refl;
  rule = same;
  apart = turned.apart apart;
  fronts = packet_fronts h.sums bytes (brought (length bytes) (replica_event.Packet conn p)) p.sync n some within;
}

packet_goes : (c : ReplicaRecord) (conn : ConnId) (p : Packet) (h : ReplicaInfo) (bytes : List ℕ) (n : ℕ) (out : Outcome) → c.info ≡ Some h → is_temporary h.original ≡ false → 1 ≤ h.sums.chunk → n ≤ length bytes
    → IfOk out (λ t. SameRule c.info t.replica.info) → IfOk out (TurnsTo c) → Goes (record_after c out).info h n (outcome_calls (replica_event.Packet conn p) c.info bytes out)
packet_goes c conn p h bytes n (Ok t) there apart some within same turned =
    subst (λ (o : Option ReplicaInfo). Goes t.replica.info h n (taken_calls (replica_event.Packet conn p) o t.replica.info bytes)) (sym there)
    (packet_held conn p t.replica.info h bytes n apart some within
    (subst (λ (o : Option ReplicaInfo). SameRule o t.replica.info) there same) (subst (λ (o : Option ReplicaInfo). Turns o t.replica.info) there turned))
packet_goes c conn p h bytes n (Err x) there apart some within same turned = record { next = h; there = there; rule = refl; apart = apart; fronts = tt }

-- ---- every event

unrecovered : (o : Option ReplicaInfo) (h : ReplicaInfo) → o ≡ Some h → is_temporary h.original ≡ false → Unrecovered o
unrecovered o h there apart =
    let free : IsUnrecovered h = λ t. absurd (true_false (sym t ∙ apart)) in
    subst (λ (q : Option ReplicaInfo). IfSome q IsUnrecovered) (sym there) free

pub chunk_size : (r : FullReplica) (h : ReplicaInfo) → IsKept r h → IsChunkSize h.sums.chunk
chunk_size r h kept = subst (λ (o : Option ReplicaInfo). IfSome o (λ k. IsChunkSize k.sums.chunk)) kept.there kept.full.rule

pub some_chunk : (r : FullReplica) (h : ReplicaInfo) → IsKept r h → 1 ≤ h.sums.chunk
some_chunk r h kept = omega (arith, (chunk_size r h kept).least)

plan_goes : (r : FullReplica) (e : ReplicaEvent) (h : ReplicaInfo) (n : ℕ) → IsKept r h → n ≤ length r.bytes → KeepsLength n r e → Goes (row r e).known.info h n (plan r e)
unfolding transition
plan_goes r (replica_event.Packet conn p) h n kept within keeps =
    let e = replica_event.Packet conn p in
    packet_goes r.known conn p h r.bytes n (transition r.known (event_at r e)) kept.there kept.apart (some_chunk r h kept) within
    (packet_rule r.known conn _) (turns r.known (event_at r e) (unrecovered r.known.info h kept.there kept.apart))
plan_goes r (replica_event.Other e) h n kept within keeps =
    other_goes r.known e h r.bytes n (transition r.known e) kept.there kept.apart (some_chunk r h kept) (kept.full.all ∙ ap written_at kept.there)
    keeps.enough keeps.numbers.stamp_fits (settles r.known e kept.full.sound keeps.with_bytes) (turns r.known e (unrecovered r.known.info h kept.there kept.apart))

-- The calls of all the events leave the fronts.
pub plans_fronts : (n : ℕ) (r : FullReplica) (h : ReplicaInfo) (es : List ReplicaEvent) → IsKept r h → n ≤ length r.bytes → IsSteady n r es → AllLeaveFronts n (front_len h.sums n) (all_plans r es)
plans_fronts n r h [] kept within steady = tt
plans_fronts n r h (e ∷ es) kept within steady =
    let goes = plan_goes r e h n kept within steady.0 in
    let full : IsFull (row r e) = rows_keep_bytes r e kept.full steady.0.with_bytes in
    let later : IsKept (row r e) goes.next = record { full = full; numbers = steady.0.numbers; there = goes.there; apart = goes.apart } in
    fronts_append n (front_len h.sums n) (plan r e) (all_plans (row r e) es) goes.fronts
    (subst (λ (q : Rule). AllLeaveFronts n (front_len q n) (all_plans (row r e) es)) goes.rule
    (plans_fronts n (row r e) goes.next es later (subst (λ c. n ≤ c) (sym full.all) steady.0.enough) steady.1))

-- The calls find the replica's files, and lead to some placement.
pub plans_able : (n : ℕ) (r : FullReplica) (es : List ReplicaEvent) → IsFull r → IsSteady n r es → (q : Placement) × Leads (placement_of r) (all_plans r es) q
plans_able n r [] full steady = (placement_of r, leads_nowhere (placement_of r))
plans_able n r (e ∷ es) full steady =
    let rest = plans_able n (row r e) es (rows_keep_bytes r e full steady.0.with_bytes) steady.1 in
    (rest.0, leads_append (plan r e) (all_plans (row r e) es) (placement_of r) (placement_of (row r e)) rest.0 (plan_leads r e full steady.0.with_bytes) rest.1)
