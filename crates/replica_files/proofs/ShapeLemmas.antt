-- What an event that is taken makes of block and state, and of what is held.
use Rattle.std.proofs.Common.{◌≡◌, ◌⊎◌, inl, inr, ℕ, ℤ, pos, negsuc, nat_abs, ◌+◌, ◌-◌, ◌<◌, ◌≤◌, max, not, is_none, Bool, true, false, [], slice_get, Option, Some, None, Result, Ok, Err, refl, sym, ap, subst, ◌∙◌, arith}
use Rattle.std.specs.Result.{IfOk}
use Rattle.std.specs.Ordering.{int_eq}
use Rattle.std.proofs.lemmas.Bool.Decides.{nat_tests}
use Rattle.hd_base.specs.declared.states.ReplicaState.{ReplicaState}
use Rattle.hd_base.specs.declared.states.ReplicaState.TheVariants as state
use Rattle.hd_base.specs.declared.numbers.ConnId.{ConnId}
use Rattle.hd_base.specs.declared.numbers.Stamp.{Stamp}
use Rattle.hd_base.specs.SumRules.{Rule}
use Rattle.hd_base.specs.Results.{◌>>=◌}
use Rattle.replica_core.specs.declared.records.ReplicaRecord.{ReplicaRecord}
use Rattle.replica_core.specs.declared.ack_queue.PendingPacket.{PendingPacket}
use Rattle.replica_core.specs.declared.events.Answer.TheVariants as answer
use Rattle.replica_core.specs.declared.events.Event.{Event}
use Rattle.replica_core.specs.declared.events.Event.TheVariants as event
use Rattle.replica_core.specs.declared.info.ReplicaInfo.{ReplicaInfo}
use Rattle.replica_core.specs.declared.extents.PacketExtent.{PacketExtent}
use Rattle.replica_core.specs.declared.refusals.Refusal.{Refusal}
use Rattle.replica_core.specs.declared.refusals.Refusal.TheVariants as refusal
use Rattle.replica_core.specs.declared.streams.Stream.{Stream}
use Rattle.replica_core.specs.Refusals.{check}
use Rattle.replica_core.specs.Info.{state_of, is_writable, settled_at, reopen, recover_setup, recover_stream, begin_recovery, end_recovery, readable, given, visible_of, advance_acked, close_stream, extend_written}
use Rattle.replica_core.specs.Extents.{stream_after, heartbeat_of, pending_of, start_of, place_check, packet_at}
use Rattle.replica_core.specs.Transitions.{Taken, Outcome, done, record_after, present, set_writer, with_writer, new_transition, enqueue, extend, extent_transition, packet_transition, stream_by, oldest_of, acknowledge, is_written_by, transition, state_after}
use Rattle.replica_core.specs.Sound.{Sound}
use Rattle.replica_core.proofs.StepLemmas.{after_check, after_step, choice, if_check, if_step, step_ok}
use Rattle.replica_core.proofs.InfoLemmas.{present_is, reopen_is, recover_setup_is, recover_stream_is, begin_recovery_is, end_recovery_is, pending_of_is}
use Rattle.replica_core.proofs.SoundLemmas.{info_in}
use Rattle.replica_files.specs.Events.{IsSettling, IsCutting}

-- ---- the block, and a broken replica

-- The replica is of the same block, and broken just where it was.
abbrev Keeps : ReplicaRecord → ReplicaRecord → Type 0
Keeps c k = (k.block ≡ c.block) × (k.is_broken ≡ c.is_broken)

-- The replica is of the same block, and broken if it was.
abbrev pub StaysOf : ReplicaRecord → ReplicaRecord → Type 0
StaysOf c k = (k.block ≡ c.block) × (c.is_broken ≡ true → k.is_broken ≡ true)

same_kept : (c : ReplicaRecord) → Keeps c c
same_kept c = (refl, refl)

new_keeps : (c : ReplicaRecord) (original : ReplicaState) (conn : ConnId) (stamp : Stamp) (r : Rule) → Keeps c (record_after c (new_transition c original conn stamp r))
new_keeps c original conn stamp r =
    let made = done (set_writer c (settled_at original stamp r 0) (Some conn)) in
    after_check (Keeps c) c (not c.is_broken) refusal.Broken (check (is_none c.info) refusal.Exists made) (same_kept c) (λ _.
    after_check (Keeps c) c (is_none c.info) refusal.Exists made (same_kept c) (λ _. (refl, refl)))

with_keeps : (c : ReplicaRecord) (writer : Option ConnId) (make : ReplicaInfo → Result ReplicaInfo Refusal) → Keeps c (record_after c (present c >>= (λ h. with_writer c writer (make h))))
with_keeps c writer make =
    after_step (Keeps c) c (present c) (λ h. with_writer c writer (make h)) (same_kept c) (λ h _.
    after_step (Keeps c) c (make h) (λ k. done (set_writer c k writer)) (same_kept c) (λ k _. (refl, refl)))

extent_keeps : (c : ReplicaRecord) (h : ReplicaInfo) (s : Stream) (p : PacketExtent) → Keeps c (record_after c (extent_transition c h s p))
unfolding extent_transition
extent_keeps c h s p =
    choice (λ (o : Outcome). Keeps c (record_after c o)) (int_eq p.seqno (negsuc 0)) _ _
    (λ _. after_step (Keeps c) c (heartbeat_of p) (λ e. done (enqueue c e)) (same_kept c) (λ e _. (refl, refl)))
    (λ _. after_step (Keeps c) c (stream_after s p) (λ u. pending_of h.sums p h.written >>= (λ e. done (extend c h u e))) (same_kept c) (λ u _.
    after_step (Keeps c) c (pending_of h.sums p h.written) (λ e. done (extend c h u e)) (same_kept c) (λ e _. (refl, refl))))

packet_keeps : (c : ReplicaRecord) (conn : ConnId) (p : PacketExtent) → Keeps c (record_after c (packet_transition c conn p))
packet_keeps c conn p =
    after_step (Keeps c) c (present c) (λ h. check (is_writable (state_of h)) refusal.NotWriter (stream_by c.stream conn >>= (λ s. extent_transition c h s p))) (same_kept c) (λ h _.
    after_check (Keeps c) c (is_writable (state_of h)) refusal.NotWriter (stream_by c.stream conn >>= (λ s. extent_transition c h s p)) (same_kept c) (λ _.
    after_step (Keeps c) c (stream_by c.stream conn) (λ s. extent_transition c h s p) (same_kept c) (λ s _. extent_keeps c h s p)))

acknowledge_keeps : (c : ReplicaRecord) (h : ReplicaInfo) (e : PendingPacket) (good : Bool) → Keeps c (acknowledge c h e good)
acknowledge_keeps c h e false = (refl, refl)
acknowledge_keeps c h e true = choice (Keeps c) e.last _ _ (λ _. (refl, refl)) (λ _. (refl, refl))

ack_keeps : (c : ReplicaRecord) (conn : ConnId) (seqno : ℤ) (good : Bool) → Keeps c (state_after c (event.Ack conn seqno good))
unfolding transition
ack_keeps c conn seqno good =
    after_step (Keeps c) c (present c) (λ h. stream_by c.stream conn >>= (λ t. oldest_of (slice_get c.pending 0) seqno >>= (λ e. done (acknowledge c h e good)))) (same_kept c) (λ h _.
    after_step (Keeps c) c (stream_by c.stream conn) (λ t. oldest_of (slice_get c.pending 0) seqno >>= (λ e. done (acknowledge c h e good))) (same_kept c) (λ t _.
    after_step (Keeps c) c (oldest_of (slice_get c.pending 0) seqno) (λ e. done (acknowledge c h e good)) (same_kept c) (λ e _. acknowledge_keeps c h e good)))

-- Every event but a fault of files leaves the block, and a replica broken or not.
keeps_of : (c : ReplicaRecord) (e : Event) → Keeps c (state_after c e) ⊎ (e ≡ event.FileFault)
unfolding transition
keeps_of c (event.Create conn stamp sums) =
    inl (new_keeps c state.Rbw conn stamp sums)
keeps_of c (event.Temporary conn stamp sums) =
    inl (new_keeps c state.Temporary conn stamp sums)
keeps_of c (event.Append conn named new n) =
    inl (with_keeps c (Some conn) (λ h. reopen h named new n))
keeps_of c (event.AppendRecovery conn named new n) =
    inl (with_keeps c (Some conn) (λ h. recover_setup h named new n state.Rbw))
keeps_of c (event.StreamRecovery conn named new low high) =
    inl (with_keeps c (Some conn) (λ h. recover_stream h named new low high))
keeps_of c (event.CloseRecovery named new n) =
    inl (with_keeps c None (λ h. recover_setup h named new n state.Finalized))
keeps_of c (event.Packet conn seqno offset n sums last sync bad) =
    inl (packet_keeps c conn (record { seqno = seqno; offset = offset; length = n; sums = sums; last = last; sync = sync; bad = bad }))
keeps_of c (event.Ack conn seqno good) =
    inl (ack_keeps c conn seqno good)
keeps_of c (event.Ended conn) =
    inl (choice (Keeps c) (is_written_by c.stream conn) (record c { stream = None; pending = [] }) c (λ _. (refl, refl)) (λ _. same_kept c))
keeps_of c (event.Init named recovery) =
    inl (after_step (Keeps c) c (present c) (λ h. begin_recovery h named recovery >>= (λ k. Ok (record { replica = set_writer c k None; answer = answer.Info h.original h.stamp h.written }))) (same_kept c) (λ h _.
    after_step (Keeps c) c (begin_recovery h named recovery) (λ k. Ok (record { replica = set_writer c k None; answer = answer.Info h.original h.stamp h.written })) (same_kept c) (λ k _. (refl, refl))))
keeps_of c (event.Update recovery n) =
    inl (with_keeps c None (λ h. end_recovery h h.recovery recovery n))
keeps_of c (event.Read named offset n) =
    inl (after_step (Keeps c) c (present c) (λ h. readable h (visible_of h) named offset n >>= (λ visible. Ok (record { replica = c; answer = answer.Visible visible }))) (same_kept c) (λ h _.
    after_step (Keeps c) c (readable h (visible_of h) named offset n) (λ visible. Ok (record { replica = c; answer = answer.Visible visible })) (same_kept c) (λ _ _. same_kept c)))
keeps_of c (event.Give named offset n) =
    inl (after_step (Keeps c) c (present c) (λ h. given h named offset n >>= (λ visible. Ok (record { replica = c; answer = answer.Visible visible }))) (same_kept c) (λ h _.
    after_step (Keeps c) c (given h named offset n) (λ visible. Ok (record { replica = c; answer = answer.Visible visible })) (same_kept c) (λ _ _. same_kept c)))
keeps_of c event.FileFault = inr refl

fault_stays : (c : ReplicaRecord) → StaysOf c (state_after c event.FileFault)
unfolding transition
fault_stays c = (refl, λ _. refl)

-- Every event leaves the block, and a broken replica broken.
pub stays_of : (c : ReplicaRecord) (e : Event) → StaysOf c (state_after c e)
stays_of c e = by (keeps_of c e) where
  by : Keeps c (state_after c e) ⊎ (e ≡ event.FileFault) → StaysOf c (state_after c e)
  by (inl kept) = (kept.0, λ broken. kept.1 ∙ broken)
  by (inr is) = subst (λ (x : Event). StaysOf c (state_after c x)) (sym is) (fault_stays c)

-- Any but a fault of files leaves one unbroken.
pub unbroken_of : (c : ReplicaRecord) (e : Event) → (e ≡ event.FileFault → ⊥) → c.is_broken ≡ false → (state_after c e).is_broken ≡ false
unbroken_of c e no_fault unbroken = by (keeps_of c e) where
  by : Keeps c (state_after c e) ⊎ (e ≡ event.FileFault) → (state_after c e).is_broken ≡ false
  by (inl kept) = kept.1 ∙ unbroken
  by (inr is) = absurd (no_fault is)

-- ---- events that are neither packets nor make a new replica

-- What is held is settled: under the same rule, no longer, and shorter only by a cut; it stays where the replica is broken.
pub record Settled (e : Event) (is_broken : Bool) (h k : ReplicaInfo) : Type 0 where
  pub same_rule : k.sums ≡ h.sums
  pub within : k.written ≤ h.written
  pub cut : k.written < h.written → IsCutting e
  pub still : is_broken ≡ true → k ≡ h

unfoldable pub SettledFrom : Event → Bool → Option ReplicaInfo → Option ReplicaInfo → Type 0
SettledFrom e b None None = Unit {0}
SettledFrom e b None (Some k) = ⊥
SettledFrom e b (Some h) None = ⊥
SettledFrom e b (Some h) (Some k) = Settled e b h k

abbrev SettlesTo : Event → ReplicaRecord → Taken → Type 0
SettlesTo e c t = SettledFrom e c.is_broken c.info t.replica.info

true_false : {P : Type 0} (b : Bool) → b ≡ false → b ≡ true → P
true_false b f t = absurd (cc)

settled_same : (e : Event) (b : Bool) (o : Option ReplicaInfo) → SettledFrom e b o o
unfolding SettledFrom
settled_same e b None = tt
settled_same e b (Some h) = record { same_rule = refl; within = omega arith; cut = λ less. absurd (let no : ⊥ = omega (arith, less) in no); still = λ _. refl }

-- what is made of what is there
abbrev Makes : Event → ReplicaInfo → ReplicaInfo → Type 0
Makes e h k = (k.sums ≡ h.sums) × (k.written ≤ h.written) × (k.written < h.written → IsCutting e)

settled_some : (e : Event) (c : ReplicaRecord) (h k : ReplicaInfo) → (c.is_broken ≡ false) × (c.info ≡ Some h) → Makes e h k → SettledFrom e c.is_broken c.info (Some k)
unfolding SettledFrom
settled_some e c h k known made =
    subst (λ o. SettledFrom e c.is_broken o (Some k)) (sym known.1)
    (record { same_rule = made.0; within = made.1; cut = made.2; still = true_false c.is_broken known.0 })

there_settles : (e : Event) (c : ReplicaRecord) (next : ReplicaInfo → Outcome) → ((h : ReplicaInfo) → (c.is_broken ≡ false) × (c.info ≡ Some h) → IfOk (next h) (SettlesTo e c)) → IfOk (present c >>= next) (SettlesTo e c)
there_settles e c next onward = if_step (SettlesTo e c) (present c) next (λ h is. onward h (present_is c h is))

if_ok : {A : Type 0} (P : A → Type 0) (r : Result A Refusal) → ((x : A) → r ≡ Ok x → P x) → IfOk r P
if_ok P (Ok x) onward = onward x refl
if_ok P (Err e) onward = tt

with_settles : (e : Event) (c : ReplicaRecord) (writer : Option ConnId) (make : ReplicaInfo → Result ReplicaInfo Refusal)
    → ((h k : ReplicaInfo) → c.info ≡ Some h → make h ≡ Ok k → Makes e h k) → IfOk (present c >>= (λ h. with_writer c writer (make h))) (SettlesTo e c)
with_settles e c writer make onward =
    there_settles e c (λ h. with_writer c writer (make h)) (λ h known.
    if_step (SettlesTo e c) (make h) (λ k. done (set_writer c k writer)) (λ k made. settled_some e c h k known (onward h k known.1 made)))

makes_settled : (e : Event) (h k : ReplicaInfo) (original : ReplicaState) (stamp : Stamp) (n : ℕ) → k ≡ settled_at original stamp h.sums n → n ≤ h.written → (n < h.written → IsCutting e) → Makes e h k
makes_settled e h k original stamp n is within cut =
    subst (λ (x : ReplicaInfo). Makes e h x) (sym is) (refl, within, cut)

no_less : {P : Type 0} (n w : ℕ) → n ≡ w → n < w → P
no_less n w e less = absurd (let no : ⊥ = omega (arith, e, less) in no)

acknowledge_settles : (e : Event) (c : ReplicaRecord) (h : ReplicaInfo) (p : PendingPacket) (good : Bool) → (c.is_broken ≡ false) × (c.info ≡ Some h) → SettledFrom e c.is_broken c.info (acknowledge c h p good).info
acknowledge_settles e c h p false known = settled_same e c.is_broken c.info
acknowledge_settles e c h p true known =
    choice (λ (k : ReplicaRecord). SettledFrom e c.is_broken c.info k.info) p.last _ _
    (λ _. settled_some e c h (close_stream (advance_acked h p.end)) known (refl, omega arith, λ less. no_less h.written h.written refl less))
    (λ _. settled_some e c h (advance_acked h p.end) known (refl, omega arith, λ less. no_less h.written h.written refl less))

pub settled_from : (c : ReplicaRecord) (e : Event) → Sound c → IsSettling e → IfOk (transition c e) (λ t. SettledFrom e c.is_broken c.info t.replica.info)
unfolding transition
settled_from c (event.Create conn stamp sums) s is = absurd is
settled_from c (event.Temporary conn stamp sums) s is = absurd is
settled_from c (event.Packet conn seqno offset bytes sums last sync bad) s is = absurd is
settled_from c event.FileFault s is = absurd is
settled_from c (event.Append conn named new n) s is =
    with_settles _ c (Some conn) (λ h. reopen h named new n) (λ h k _ e.
    let made = reopen_is h k named new n e in
    makes_settled (event.Append conn named new n) h k state.Rbw new n made.0 (omega (arith, made.1)) (no_less n h.written made.1))
settled_from c (event.AppendRecovery conn named new n) s is =
    with_settles _ c (Some conn) (λ h. recover_setup h named new n state.Rbw) (λ h k _ e.
    let made = recover_setup_is h k named new n state.Rbw e in
    makes_settled (event.AppendRecovery conn named new n) h k state.Rbw new n made.0 (omega (arith, made.1)) (no_less n h.written made.1))
settled_from c (event.StreamRecovery conn named new low high) s is =
    with_settles _ c (Some conn) (λ h. recover_stream h named new low high) (λ h k there e.
    makes_settled (event.StreamRecovery conn named new low high) h k state.Rbw new h.acked (recover_stream_is h k named new low high e) (info_in c h there s).acked (λ _. tt))
settled_from c (event.CloseRecovery named new n) s is =
    with_settles _ c None (λ h. recover_setup h named new n state.Finalized) (λ h k _ e.
    let made = recover_setup_is h k named new n state.Finalized e in
    makes_settled (event.CloseRecovery named new n) h k state.Finalized new n made.0 (omega (arith, made.1)) (no_less n h.written made.1))
settled_from c (event.Ack conn seqno good) s is =
    there_settles _ c _ (λ h known.
    if_step (SettlesTo _ c) (stream_by c.stream conn) _ (λ t _.
    if_step (SettlesTo _ c) (oldest_of _ seqno) _ (λ p _. acknowledge_settles _ c h p good known)))
settled_from c (event.Ended conn) s is =
    choice (λ (k : ReplicaRecord). SettledFrom (event.Ended conn) c.is_broken c.info k.info) (is_written_by c.stream conn) _ _ (λ _. settled_same _ c.is_broken c.info) (λ _. settled_same _ c.is_broken c.info)
settled_from c (event.Init named recovery) s is =
    there_settles _ c _ (λ h known.
    if_step (SettlesTo _ c) (begin_recovery h named recovery) _ (λ k e.
    let same = begin_recovery_is h k named recovery e in
    settled_some _ c h k known (ap (λ x. x.sums) same, omega (arith, ap (λ x. x.written) same), no_less k.written h.written (ap (λ x. x.written) same))))
settled_from c (event.Update recovery n) s is =
    with_settles _ c None (λ h. end_recovery h h.recovery recovery n) (λ h k _ e.
    let made = end_recovery_is h k h.recovery recovery n e in
    makes_settled (event.Update recovery n) h k state.Finalized recovery n made.0 made.1 (λ _. tt))
settled_from c (event.Read named offset n) s is =
    there_settles _ c _ (λ h known. if_step (SettlesTo _ c) (readable h (visible_of h) named offset n) _ (λ v _. settled_same _ c.is_broken c.info))
settled_from c (event.Give named offset n) s is =
    there_settles _ c _ (λ h known. if_step (SettlesTo _ c) (given h named offset n) _ (λ v _. settled_same _ c.is_broken c.info))

-- ---- new replicas

-- It was absent, and holds this now.
pub record IsMade (c : ReplicaRecord) (k : ReplicaInfo) (t : Taken) : Type 0 where
  pub unbroken : c.is_broken ≡ false
  pub absent : c.info ≡ None
  pub held : t.replica.info ≡ Some k

is_absent : (o : Option ReplicaInfo) → is_none o ≡ true → o ≡ None
is_absent None e = refl
is_absent (Some h) e = absurd (cc)

unbroken : (b : Bool) → not b ≡ true → b ≡ false
unbroken true e = absurd (cc)
unbroken false e = refl

pub made_from : (c : ReplicaRecord) (original : ReplicaState) (conn : ConnId) (stamp : Stamp) (r : Rule) → IfOk (new_transition c original conn stamp r) (IsMade c (settled_at original stamp r 0))
made_from c original conn stamp r =
    let k = settled_at original stamp r 0 in
    let made = done (set_writer c k (Some conn)) in
    if_check (IsMade c k) (not c.is_broken) refusal.Broken (check (is_none c.info) refusal.Exists made) (λ whole.
    if_check (IsMade c k) (is_none c.info) refusal.Exists made (λ none.
    record { unbroken = unbroken c.is_broken whole; absent = is_absent c.info none; held = refl }))

-- ---- packets

-- no block has more bytes
abbrev pub most_bytes : ℕ
most_bytes = 134217728

-- Of a replica that is there and isn't broken; what is held stays, but for the bytes that are brought.
pub record Grows (c : ReplicaRecord) (offset : ℤ) (n : ℕ) (t : Taken) : Type 0 where
  pub h : ReplicaInfo
  pub k : ReplicaInfo
  pub unbroken : c.is_broken ≡ false
  pub before : c.info ≡ Some h
  pub after : t.replica.info ≡ Some k
  pub same_rule : k.sums ≡ h.sums
  pub original : k.original ≡ h.original
  pub stamp : k.stamp ≡ h.stamp
  pub written : k.written ≡ h.written + (n - (h.written - nat_abs offset))
  pub within : k.written ≤ max h.written most_bytes

heartbeat_empty : (p : PacketExtent) (e : PendingPacket) → heartbeat_of p ≡ Ok e → p.length ≡ 0
unfolding heartbeat_of
heartbeat_empty p e q = grind (arith, nat_tests)

start_abs : (z : ℤ) (n : ℕ) → z ≡ pos n → nat_abs z ≡ n
start_abs z n e = ap nat_abs e

longer : (w o l : ℕ) → o ≤ w → max w (o + l) ≡ w + (l - (w - o))
longer w o l near = omega arith

nothing_more : (w n o : ℕ) → n ≡ 0 → w ≡ w + (n - (w - o))
nothing_more w n o none = omega (arith, none)

start_within : (p : PacketExtent) (offset : ℕ) → start_of p ≡ Ok offset → nat_abs p.offset + p.length ≤ most_bytes
unfolding start_of
start_within p offset e = grind (arith, nat_tests)

pending_within : (r : Rule) (p : PacketExtent) (written : ℕ) (e : PendingPacket) → pending_of r p written ≡ Ok e → nat_abs p.offset + p.length ≤ most_bytes
pending_within r p written e is =
    let first = step_ok (start_of p) (λ offset. place_check p written offset >>= (λ _. packet_at r p offset)) e is in
    start_within p first.0 first.1

reaches_within : (w end start l : ℕ) → max w end ≡ max w (start + l) → start + l ≤ most_bytes → max w end ≤ max w most_bytes
reaches_within w end start l e within = omega (arith, e, within)

pub grows : (c : ReplicaRecord) (conn : ConnId) (p : PacketExtent) → IfOk (packet_transition c conn p) (Grows c p.offset p.length)
unfolding extent_transition
grows c conn p =
    let P : Taken → Type 0 = Grows c p.offset p.length in
    if_step P (present c) _ (λ h there.
    let known = present_is c h there in
    if_check P (is_writable (state_of h)) refusal.NotWriter _ (λ _.
    if_step P (stream_by c.stream conn) _ (λ s _.
    choice (λ (o : Outcome). IfOk o P) (int_eq p.seqno (negsuc 0)) _ _
    (λ _. if_step P (heartbeat_of p) _ (λ e beat. record {
      h = h;
      k = h;
      unbroken = known.0;
      before = known.1;
      after = known.1;
      same_rule = refl;
      original = refl;
      stamp = refl;
      written = nothing_more h.written p.length (nat_abs p.offset) (heartbeat_empty p e beat);
      within = omega arith;
    }))
    (λ _. if_step P (stream_after s p) _ (λ t _.
    if_step P (pending_of h.sums p h.written) _ (λ e pending.
    let here = (pending_of_is h.sums p h.written e pending).adjoins in
    record {
      h = h;
      k = extend_written h e.end;
      unbroken = known.0;
      before = known.1;
      after = refl;
      same_rule = refl;
      original = refl;
      stamp = refl;
      written = here.reach ∙ longer h.written here.start p.length here.near ∙ ap (λ x. h.written + (p.length - (h.written - x))) (sym (start_abs p.offset here.start here.is));
      within = reaches_within h.written e.end here.start p.length here.reach (omega (arith, pending_within h.sums p h.written e pending, start_abs p.offset here.start here.is));
    }))))))
