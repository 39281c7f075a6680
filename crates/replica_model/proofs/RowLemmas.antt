-- What every event makes of what is held, of the bytes, and of where the files lie.
use Rattle.std.proofs.Common.{◌≡◌, ℕ, ℤ, pos, negsuc, nat_abs, ◌+◌, ◌-◌, ◌≤◌, max, not, is_none, Bool, true, false, List, [], ◌++◌, length, take, drop, append-nil, Option, Some, None, Result, Ok, Err, IfSome, refl, sym, ap, subst, ◌∙◌, arith}
use Rattle.std.specs.Result.{IfOk}
use Rattle.std.specs.Ordering.{int_eq}
use Rattle.std.proofs.lemmas.List.{length-append, length-drop, length-take-le, take_all}
use Rattle.std.proofs.Math.Seq.{take-append_seam}
use Rattle.std.proofs.lemmas.Bool.Decides.{nat_tests}
use Rattle.hd_base.specs.declared.states.ReplicaState.{ReplicaState}
use Rattle.hd_base.specs.declared.states.ReplicaState.TheVariants as state
use Rattle.hd_base.specs.declared.numbers.ConnId.{ConnId}
use Rattle.hd_base.specs.declared.numbers.Stamp.{Stamp}
use Rattle.hd_base.specs.SumRules.{Rule, IsChunkSize}
use Rattle.hd_base.specs.Results.{◌>>=◌}
use Rattle.block_files.specs.Placements.{Nowhere, Both}
use Rattle.packet_codec.specs.declared.packets.Packet.{Packet}
use Rattle.replica_core.specs.declared.records.ReplicaRecord.{ReplicaRecord}
use Rattle.replica_core.specs.declared.ack_queue.PendingPacket.{PendingPacket}
use Rattle.replica_core.specs.declared.events.Event.{Event}
use Rattle.replica_core.specs.declared.events.Event.TheVariants as event
use Rattle.replica_core.specs.declared.info.ReplicaInfo.{ReplicaInfo}
use Rattle.replica_core.specs.declared.extents.PacketExtent.{PacketExtent}
use Rattle.replica_core.specs.declared.refusals.Refusal.{Refusal}
use Rattle.replica_core.specs.declared.refusals.Refusal.TheVariants as refusal
use Rattle.replica_core.specs.Refusals.{check}
use Rattle.replica_core.specs.Info.{state_of, is_writable, settled_at, reopen, recover_setup, recover_stream, begin_recovery, end_recovery, readable, given, visible_of, advance_acked, close_stream, extend_written}
use Rattle.replica_core.specs.Extents.{stream_after, heartbeat_of, pending_of}
use Rattle.replica_core.specs.Transitions.{Taken, Outcome, done, record_after, present, set_writer, with_writer, new_transition, extent_transition, packet_transition, stream_by, oldest_of, acknowledge, is_written_by, end_connection, transition}
use Rattle.replica_core.specs.Views.{written_at, written_in}
use Rattle.replica_core.specs.Sound.{Sound}
use Rattle.replica_core.proofs.StepLemmas.{choice, if_check, if_step}
use Rattle.replica_core.proofs.InfoLemmas.{present_is, reopen_is, recover_setup_is, recover_stream_is, begin_recovery_is, end_recovery_is, pending_of_is}
use Rattle.replica_core.proofs.SoundLemmas.{info_in, kept}
use Rattle.replica_model.specs.declared.events.ReplicaEvent.{ReplicaEvent}
use Rattle.replica_model.specs.declared.events.ReplicaEvent.TheVariants as replica_event
use Rattle.replica_model.specs.Sums.{meta_of}
use Rattle.replica_model.specs.Rows.{FullReplica, IsFull, IsOther, IsWithBytes, event_at, brought, row}
use Rattle.replica_model.specs.Plans.{folder_of, placed_info, placed_under, placement_of, when, sync_calls, settle_calls, create_calls, leaves_temporary, taken_calls, outcome_calls, plan}
use Rattle.replica_model.specs.Laws.{RowsKeepBytes, PlansFindFiles, PlansFollowRows}
use Rattle.replica_model.proofs.PlacementLemmas.{Leads, leads_nowhere, leads_append, leads_to, leads_when, leads_sync, leads_move, leads_packet, leads_cut, leads_new}

-- ---- events that aren't packets: a new replica has no bytes, and others keep their rule and no more bytes

-- What is held becomes this.
unfoldable pub Settles : Option ReplicaInfo → Option ReplicaInfo → Type 0
Settles None None = Unit {0}
Settles None (Some k) = (k.written ≡ 0) × IsChunkSize k.sums.chunk
Settles (Some h) None = ⊥
Settles (Some h) (Some k) = (k.sums ≡ h.sums) × (k.written ≤ h.written)

abbrev pub SettlesTo : ReplicaRecord → Taken → Type 0
SettlesTo c t = Settles c.info t.replica.info

settles_same : (o : Option ReplicaInfo) → Settles o o
unfolding Settles
settles_same None = tt
settles_same (Some h) = (refl, omega arith)

settles_none : (c : ReplicaRecord) (k : ReplicaInfo) → is_none c.info ≡ true → k.written ≡ 0 → IsChunkSize k.sums.chunk → Settles c.info (Some k)
unfolding Settles
settles_none c k none nothing size = elim c.info as (λ o. is_none o ≡ true → Settles o (Some k)) [ None ↦ λ e. (nothing, size) | Some h ↦ λ e. absurd (true_false e) ] none where
  true_false : false ≡ true → ⊥
  true_false e = cc

-- from what is there
settles_some : (c : ReplicaRecord) (h k : ReplicaInfo) → c.info ≡ Some h → k.sums ≡ h.sums → k.written ≤ h.written → Settles c.info (Some k)
unfolding Settles
settles_some c h k is sums less = subst (λ o. Settles o (Some k)) (sym is) (sums, less)

new_settles : (c : ReplicaRecord) (original : ReplicaState) (conn : ConnId) (stamp : Stamp) (r : Rule) → IsChunkSize r.chunk → IfOk (new_transition c original conn stamp r) (SettlesTo c)
new_settles c original conn stamp r size =
    let made = done (set_writer c (settled_at original stamp r 0) (Some conn)) in
    if_check (SettlesTo c) (not c.is_broken) refusal.Broken (check (is_none c.info) refusal.Exists made) (λ whole.
    if_check (SettlesTo c) (is_none c.info) refusal.Exists made (λ none.
    settles_none c (settled_at original stamp r 0) none refl size))

-- a step on what is there, which is given a writer
with_settles : (c : ReplicaRecord) (h : ReplicaInfo) (writer : Option ConnId) (next : Result ReplicaInfo Refusal) → c.info ≡ Some h
    → IfOk next (λ k. (k.sums ≡ h.sums) × (k.written ≤ h.written)) → IfOk (with_writer c writer next) (SettlesTo c)
with_settles c h writer (Ok k) is kept = settles_some c h k is kept.0 kept.1
with_settles c h writer (Err e) is kept = tt

-- a step on what is there
there_settles : (c : ReplicaRecord) (next : ReplicaInfo → Outcome) → ((h : ReplicaInfo) → c.info ≡ Some h → IfOk (next h) (SettlesTo c)) → IfOk (present c >>= next) (SettlesTo c)
there_settles c next onward = if_step (SettlesTo c) (present c) next (λ h is. onward h (present_is c h is).1)

if_ok : {A : Type 0} (P : A → Type 0) (r : Result A Refusal) → ((x : A) → r ≡ Ok x → P x) → IfOk r P
if_ok P (Ok x) onward = onward x refl
if_ok P (Err e) onward = tt

reopen_settles : (h : ReplicaInfo) (named new : Stamp) (n : ℕ) → IfOk (reopen h named new n) (λ k. (k.sums ≡ h.sums) × (k.written ≤ h.written))
reopen_settles h named new n = if_ok _ (reopen h named new n) (λ k e.
    let is = reopen_is h k named new n e in (ap (λ x. x.sums) is.0, omega (arith, ap (λ x. x.written) is.0, is.1)))

setup_settles : (h : ReplicaInfo) (named new : Stamp) (n : ℕ) (into : ReplicaState) → IfOk (recover_setup h named new n into) (λ k. (k.sums ≡ h.sums) × (k.written ≤ h.written))
setup_settles h named new n into = if_ok _ (recover_setup h named new n into) (λ k e.
    let is = recover_setup_is h k named new n into e in (ap (λ x. x.sums) is.0, omega (arith, ap (λ x. x.written) is.0, is.1)))

stream_settles : (h : ReplicaInfo) (named new : Stamp) (low high : ℕ) → h.acked ≤ h.written → IfOk (recover_stream h named new low high) (λ k. (k.sums ≡ h.sums) × (k.written ≤ h.written))
stream_settles h named new low high acked = if_ok _ (recover_stream h named new low high) (λ k e.
    let is = recover_stream_is h k named new low high e in (ap (λ x. x.sums) is, omega (arith, ap (λ x. x.written) is, acked)))

update_settles : (h : ReplicaInfo) (recovery : Stamp) (n : ℕ) → IfOk (end_recovery h h.recovery recovery n) (λ k. (k.sums ≡ h.sums) × (k.written ≤ h.written))
update_settles h recovery n = if_ok _ (end_recovery h h.recovery recovery n) (λ k e.
    let is = end_recovery_is h k h.recovery recovery n e in (ap (λ x. x.sums) is.0, omega (arith, ap (λ x. x.written) is.0, is.1)))

acknowledge_settles : (c : ReplicaRecord) (h : ReplicaInfo) (e : PendingPacket) (good : Bool) → c.info ≡ Some h → Settles c.info (acknowledge c h e good).info
acknowledge_settles c h e false is = settles_same c.info
acknowledge_settles c h e true is =
    choice (λ (k : ReplicaRecord). Settles c.info k.info) e.last _ _
    (λ _. settles_some c h (close_stream (advance_acked h e.end)) is refl (omega arith))
    (λ _. settles_some c h (advance_acked h e.end) is refl (omega arith))

end_settles : (c : ReplicaRecord) (conn : ConnId) → Settles c.info (end_connection c conn).info
end_settles c conn = choice (λ (k : ReplicaRecord). Settles c.info k.info) (is_written_by c.stream conn) _ _ (λ _. settles_same c.info) (λ _. settles_same c.info)

-- Every event that isn't a packet.
pub settles : (c : ReplicaRecord) (e : Event) → Sound c → IsOther e → IfOk (transition c e) (SettlesTo c)
unfolding transition
settles c (event.Create conn stamp sums) s size = new_settles c state.Rbw conn stamp sums size
settles c (event.Temporary conn stamp sums) s size = new_settles c state.Temporary conn stamp sums size
settles c (event.Append conn named new n) s other =
    there_settles c _ (λ h is. with_settles c h (Some conn) (reopen h named new n) is (reopen_settles h named new n))
settles c (event.AppendRecovery conn named new n) s other =
    there_settles c _ (λ h is. with_settles c h (Some conn) (recover_setup h named new n state.Rbw) is (setup_settles h named new n state.Rbw))
settles c (event.StreamRecovery conn named new low high) s other =
    there_settles c _ (λ h is. with_settles c h (Some conn) (recover_stream h named new low high) is (stream_settles h named new low high (info_in c h is s).acked))
settles c (event.CloseRecovery named new n) s other =
    there_settles c _ (λ h is. with_settles c h None (recover_setup h named new n state.Finalized) is (setup_settles h named new n state.Finalized))
settles c (event.Packet conn seqno offset bytes sums last sync bad) s other = absurd other
settles c (event.Ack conn seqno good) s other =
    there_settles c _ (λ h is.
    if_step (SettlesTo c) (stream_by c.stream conn) _ (λ t _.
    if_step (SettlesTo c) (oldest_of _ seqno) _ (λ e _. acknowledge_settles c h e good is)))
settles c (event.Ended conn) s other = end_settles c conn
settles c (event.Init named recovery) s other =
    there_settles c _ (λ h is.
    if_step (SettlesTo c) (begin_recovery h named recovery) _ (λ k e.
    let same = begin_recovery_is h k named recovery e in
    settles_some c h k is (ap (λ x. x.sums) same) (omega (arith, ap (λ x. x.written) same))))
settles c (event.Update recovery n) s other =
    there_settles c _ (λ h is. with_settles c h None (end_recovery h h.recovery recovery n) is (update_settles h recovery n))
settles c (event.Read named offset n) s other =
    there_settles c _ (λ h is. if_step (SettlesTo c) (readable h (visible_of h) named offset n) _ (λ v _. settles_same c.info))
settles c (event.Give named offset n) s other =
    there_settles c _ (λ h is. if_step (SettlesTo c) (given h named offset n) _ (λ v _. settles_same c.info))
settles c event.FileFault s other = settles_same c.info

-- ---- packets: what is held stays, but for the bytes that they bring

Grows : Option ReplicaInfo → Option ReplicaInfo → ℤ → ℕ → Type 0
Grows None k offset n = ⊥
Grows (Some h) None offset n = ⊥
Grows (Some h) (Some k) offset n =
    (k.sums ≡ h.sums) × (k.original ≡ h.original) × (k.stamp ≡ h.stamp) × (k.written ≡ h.written + (n - (h.written - nat_abs offset)))

grows_some : (c : ReplicaRecord) (h k : ReplicaInfo) (offset : ℤ) (n : ℕ) → c.info ≡ Some h → k.sums ≡ h.sums → k.original ≡ h.original → k.stamp ≡ h.stamp
    → k.written ≡ h.written + (n - (h.written - nat_abs offset)) → Grows c.info (Some k) offset n
unfolding Grows
grows_some c h k offset n is sums original stamp more = subst (λ o. Grows o (Some k) offset n) (sym is) (sums, original, stamp, more)

grows_none : (c : ReplicaRecord) (h : ReplicaInfo) (offset : ℤ) (n : ℕ) → c.info ≡ Some h → n ≡ 0 → Grows c.info c.info offset n
grows_none c h offset n is none =
    subst (λ o. Grows c.info o offset n) (sym is) (grows_some c h h offset n is refl refl refl (omega arith))

heartbeat_empty : (p : PacketExtent) (e : PendingPacket) → heartbeat_of p ≡ Ok e → p.length ≡ 0
unfolding heartbeat_of
heartbeat_empty p e q = grind (arith, nat_tests)

start_abs : (z : ℤ) (n : ℕ) → z ≡ pos n → nat_abs z ≡ n
start_abs z n e = ap nat_abs e

longer : (w o l : ℕ) → o ≤ w → max w (o + l) ≡ w + (l - (w - o))
longer w o l near = omega arith

packet_grows : (c : ReplicaRecord) (conn : ConnId) (p : PacketExtent) → IfOk (packet_transition c conn p) (λ t. Grows c.info t.replica.info p.offset p.length)
unfolding extent_transition
packet_grows c conn p =
    let P : Taken → Type 0 = λ t. Grows c.info t.replica.info p.offset p.length in
    if_step P (present c) _ (λ h present.
    let is = (present_is c h present).1 in
    if_check P (is_writable (state_of h)) refusal.NotWriter _ (λ _.
    if_step P (stream_by c.stream conn) _ (λ s _.
    choice (λ (o : Outcome). IfOk o P) (int_eq p.seqno (negsuc 0)) _ _
    (λ _. if_step P (heartbeat_of p) _ (λ e beat. grows_none c h p.offset p.length is (heartbeat_empty p e beat)))
    (λ _. if_step P (stream_after s p) _ (λ t _.
    if_step P (pending_of h.sums p h.written) _ (λ e pending.
    let here = (pending_of_is h.sums p h.written e pending).adjoins in
    let at = start_abs p.offset here.start here.is in
    grows_some c h (extend_written h e.end) p.offset p.length is refl refl refl
    (here.reach ∙ longer h.written here.start p.length here.near ∙ ap (λ x. h.written + (p.length - (h.written - x))) (sym at))))))))

-- ---- the files

-- An event that isn't a packet, by what is held before and after it.
other_leads : (e : Event) (o q : Option ReplicaInfo) (bytes : List ℕ) → IfSome o (λ h. IsChunkSize h.sums.chunk) → length bytes ≡ written_at o → Settles o q
    → Leads (placed_under o bytes) (taken_calls (replica_event.Other e) o q bytes) (placed_under q (take (written_at q) (bytes ++ [])))
unfolding Settles
other_leads e None None bytes size all settled = leads_nowhere Nowhere
other_leads e None (Some k) bytes size all settled =
    let none : take k.written (bytes ++ []) ≡ [] = ap (λ n. take n (bytes ++ [])) settled.0 in
    leads_to Nowhere (create_calls k) (placed_info k []) (placed_info k (take k.written (bytes ++ []))) (ap (placed_info k) (sym none))
    (leads_new k.sums (folder_of k.original) k.stamp.0 (omega (arith, settled.1.least)))
other_leads e (Some h) None bytes size all settled = absurd settled
other_leads e (Some h) (Some k) bytes size all settled =
    let from = placed_info h bytes in
    let left = take k.written bytes in
    let cut = Both (folder_of h.original) left (folder_of h.original) h.stamp.0 (meta_of h.sums left) in
    let there = Both (folder_of k.original) left (folder_of k.original) k.stamp.0 (meta_of h.sums left) in
    let within : k.written ≤ length bytes = omega (arith, all, settled.1) in
    let whole : take k.written bytes ≡ take k.written (bytes ++ []) = ap (take k.written) (sym (append-nil bytes)) in
    leads_to from (taken_calls (replica_event.Other e) (Some h) (Some k) bytes) there (placed_info k (take k.written (bytes ++ [])))
    (ap (λ r. Both (folder_of k.original) left (folder_of k.original) k.stamp.0 (meta_of r left)) (sym settled.0) ∙ ap (placed_info k) whole)
    (leads_append (when (leaves_temporary h k) sync_calls) (settle_calls h k bytes) from from there
    (leads_when (leaves_temporary h k) sync_calls from from (λ _. leads_sync (folder_of h.original) (folder_of h.original) bytes (meta_of h.sums bytes) h.stamp.0) (λ _. refl))
    (leads_append _ _ from cut there
    (leads_cut h.sums bytes k.written (folder_of h.original) (folder_of h.original) h.stamp.0 (omega (arith, size.least)) within)
    (leads_move (folder_of h.original) (folder_of k.original) left (meta_of h.sums left) h.stamp.0 k.stamp.0)))

length_brought : (bytes body : List ℕ) (w o : ℕ) → length bytes ≡ w → length (bytes ++ drop (length bytes - o) body) ≡ w + (length body - (w - o))
length_brought bytes body w o e = omega (arith, length-append bytes (drop (length bytes - o) body), length-drop (length bytes - o) body)

-- A packet, by what is held before and after it.
packet_leads : (conn : ConnId) (p : Packet) (o q : Option ReplicaInfo) (bytes : List ℕ) → IfSome o (λ h. IsChunkSize h.sums.chunk) → length bytes ≡ written_at o → Grows o q p.offset (length p.body)
    → Leads (placed_under o bytes) (taken_calls (replica_event.Packet conn p) o q bytes) (placed_under q (take (written_at q) (bytes ++ brought (length bytes) (replica_event.Packet conn p))))
unfolding Grows
packet_leads conn p None q bytes size all grows = absurd grows
packet_leads conn p (Some h) None bytes size all grows = absurd grows
packet_leads conn p (Some h) (Some k) bytes size all grows =
    let more = brought (length bytes) (replica_event.Packet conn p) in
    let len : length (bytes ++ more) ≡ k.written = length_brought bytes p.body h.written (nat_abs p.offset) all ∙ sym grows.3 in
    let whole : take k.written (bytes ++ more) ≡ bytes ++ more = take_all k.written (bytes ++ more) (omega (arith, len)) in
    let reached = Both (folder_of h.original) (bytes ++ more) (folder_of h.original) h.stamp.0 (meta_of h.sums (bytes ++ more)) in
    leads_to (placed_info h bytes) (taken_calls (replica_event.Packet conn p) (Some h) (Some k) bytes) reached (placed_info k (take k.written (bytes ++ more)))
    (ap (λ f. Both (folder_of f) (bytes ++ more) (folder_of f) h.stamp.0 (meta_of h.sums (bytes ++ more))) (sym grows.1)
    ∙ ap (λ s. Both (folder_of k.original) (bytes ++ more) (folder_of k.original) s.0 (meta_of h.sums (bytes ++ more))) (sym grows.2)
    ∙ ap (λ r. Both (folder_of k.original) (bytes ++ more) (folder_of k.original) k.stamp.0 (meta_of r (bytes ++ more))) (sym grows.0)
    ∙ ap (placed_info k) (sym whole))
    (leads_packet h.sums bytes more p.sync (folder_of h.original) h.stamp.0 (omega (arith, size.least)))

-- an event that is refused leaves all as it is
refused_same : (bytes more : List ℕ) (n : ℕ) → length bytes ≡ n → take n (bytes ++ more) ≡ bytes
refused_same bytes more n e =
    ap (λ m. take m (bytes ++ more)) (sym e) ∙ take-append_seam bytes more

-- An event, by what it comes to.
outcome_leads : (c : ReplicaRecord) (e : ReplicaEvent) (bytes : List ℕ) (out : Outcome) → length bytes ≡ written_in c
    → IfOk out (λ t. Leads (placed_under c.info bytes) (taken_calls e c.info t.replica.info bytes) (placed_under t.replica.info (take (written_in t.replica) (bytes ++ brought (length bytes) e))))
    → Leads (placed_under c.info bytes) (outcome_calls e c.info bytes out) (placed_under (record_after c out).info (take (written_in (record_after c out)) (bytes ++ brought (length bytes) e)))
outcome_leads c e bytes (Ok t) all leads = leads
outcome_leads c e bytes (Err x) all leads =
    leads_to (placed_under c.info bytes) [] (placed_under c.info bytes) _ (ap (placed_under c.info) (sym (refused_same bytes (brought (length bytes) e) (written_in c) all))) (leads_nowhere (placed_under c.info bytes))

map_ok : {A : Type 0} (P Q : A → Type 0) (r : Result A Refusal) → ((x : A) → P x → Q x) → IfOk r P → IfOk r Q
map_ok P Q (Ok x) f h = f x h
map_ok P Q (Err e) f h = tt

pub plan_leads : (r : FullReplica) (e : ReplicaEvent) → IsFull r → IsWithBytes e → Leads (placement_of r) (plan r e) (placement_of (row r e))
unfolding transition
plan_leads r (replica_event.Packet conn p) full with_bytes =
    outcome_leads r.known (replica_event.Packet conn p) r.bytes (transition r.known (event_at r (replica_event.Packet conn p))) full.all
    (map_ok _ _ (transition r.known (event_at r (replica_event.Packet conn p))) (λ t grows. packet_leads conn p r.known.info t.replica.info r.bytes full.rule full.all grows)
    (packet_grows r.known conn _))
plan_leads r (replica_event.Other e) full with_bytes =
    outcome_leads r.known (replica_event.Other e) r.bytes (transition r.known e) full.all
    (map_ok (SettlesTo r.known) _ (transition r.known e) (λ t settled. other_leads e r.known.info t.replica.info r.bytes full.rule full.all settled)
    (settles r.known e full.sound with_bytes))

pub plans_find_files : PlansFindFiles
plans_find_files r e full with_bytes = (plan_leads r e full with_bytes).able

pub plans_follow_rows : PlansFollowRows
plans_follow_rows r e full with_bytes = (plan_leads r e full with_bytes).there

-- ---- the bytes

-- The rule has a chunk size, and there are as many bytes as are written.
record Reaches (o : Option ReplicaInfo) (n : ℕ) : Type 0 where
  size : IfSome o (λ h. IsChunkSize h.sums.chunk)
  enough : written_at o ≤ n

other_reaches : (o q : Option ReplicaInfo) (n : ℕ) → IfSome o (λ h. IsChunkSize h.sums.chunk) → written_at o ≡ n → Settles o q → Reaches q n
unfolding Settles
other_reaches None None n size all settled = record { size = tt; enough = omega (arith, all) }
other_reaches None (Some k) n size all settled = record { size = settled.1; enough = omega (arith, settled.0) }
other_reaches (Some h) None n size all settled = absurd settled
other_reaches (Some h) (Some k) n size all settled = record {
  size = subst (λ (r : Rule). IsChunkSize r.chunk) (sym settled.0) size;
  enough = omega (arith, all, settled.1);
}

packet_reaches : (o q : Option ReplicaInfo) (offset : ℤ) (n m : ℕ) → IfSome o (λ h. IsChunkSize h.sums.chunk) → Grows o q offset n → m ≡ written_at o + (n - (written_at o - nat_abs offset)) → Reaches q m
unfolding Grows
packet_reaches None q offset n m size grows e = absurd grows
packet_reaches (Some h) None offset n m size grows e = absurd grows
packet_reaches (Some h) (Some k) offset n m size grows e = record {
  size = subst (λ (r : Rule). IsChunkSize r.chunk) (sym grows.0) size;
  enough = omega (arith, grows.3, e);
}

outcome_reaches : (c : ReplicaRecord) (out : Outcome) (n : ℕ) → IfSome c.info (λ h. IsChunkSize h.sums.chunk) → written_in c ≤ n
    → IfOk out (λ t. Reaches t.replica.info n) → Reaches (record_after c out).info n
outcome_reaches c (Ok t) n size all reaches = reaches
outcome_reaches c (Err x) n size all reaches = record { size = size; enough = all }

row_full : (r : FullReplica) (e : ReplicaEvent) → IsFull r → Reaches (row r e).known.info (length (r.bytes ++ brought (length r.bytes) e)) → IsFull (row r e)
row_full r e full reaches = record {
  sound = kept r.known (event_at r e) full.sound;
  rule = reaches.size;
  all = length-take-le (written_in (row r e).known) (r.bytes ++ brought (length r.bytes) e) reaches.enough;
}

pub rows_keep_bytes : RowsKeepBytes
unfolding transition
rows_keep_bytes r (replica_event.Packet conn p) full with_bytes =
    let e = replica_event.Packet conn p in
    let n = length (r.bytes ++ brought (length r.bytes) e) in
    let len : n ≡ written_in r.known + (length p.body - (written_in r.known - nat_abs p.offset)) = length_brought r.bytes p.body (written_in r.known) (nat_abs p.offset) full.all in
    row_full r e full
    (outcome_reaches r.known (transition r.known (event_at r e)) n full.rule (omega (arith, len))
    (map_ok _ _ (transition r.known (event_at r e)) (λ t grows. packet_reaches r.known.info t.replica.info p.offset (length p.body) n full.rule grows len)
    (packet_grows r.known conn _)))
rows_keep_bytes r (replica_event.Other e) full with_bytes =
    let n = length (r.bytes ++ []) in
    let len : written_in r.known ≡ n = sym (ap length (append-nil r.bytes) ∙ full.all) in
    row_full r (replica_event.Other e) full
    (outcome_reaches r.known (transition r.known e) n full.rule (omega (arith, len))
    (map_ok (SettlesTo r.known) _ (transition r.known e) (λ t settled. other_reaches r.known.info t.replica.info n full.rule len settled)
    (settles r.known e full.sound with_bytes)))
