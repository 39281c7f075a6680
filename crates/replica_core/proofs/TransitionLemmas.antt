-- The laws of replicas.
use Rattle.std.proofs.Common.{◌≡◌, ◌≢◌, ◌↔◌, ℕ, ℤ, negsuc, ◌<◌, ◌≤◌, max, Bool, true, false, not, is_none, List, [], length, slice_get, Option, Some, None, option_map, Result, Ok, refl, sym, ◌∙◌, ap, subst, length-drop, eqb-true, ◌⊎◌, inl, inr, IfSome, option_and_then, arith}
use Rattle.std.specs.Result.{IfOk, IsErr}
use Rattle.std.specs.Ordering.{int_eq}
use Rattle.std.proofs.lemmas.Bool.Decides.{nat_tests, Decides-int_eq}
use Rattle.std.proofs.lemmas.Option.{none-some}
use Rattle.hd_base.specs.declared.states.ReplicaState.{ReplicaState}
use Rattle.hd_base.specs.declared.states.ReplicaState.TheVariants as state
use Rattle.hd_base.specs.declared.numbers.BlockId.{BlockId}
use Rattle.hd_base.specs.declared.numbers.ConnId.{ConnId}
use Rattle.hd_base.specs.declared.numbers.Stamp.{Stamp}
use Rattle.hd_base.specs.SumRules.{Rule}
use Rattle.replica_core.specs.declared.records.ReplicaRecord.{ReplicaRecord}
use Rattle.replica_core.specs.declared.ack_queue.PendingPacket.{PendingPacket}
use Rattle.replica_core.specs.declared.events.Answer.TheVariants as answer
use Rattle.replica_core.specs.declared.events.Event.{Event}
use Rattle.replica_core.specs.declared.events.Event.TheVariants as event
use Rattle.replica_core.specs.declared.info.ReplicaInfo.{ReplicaInfo}
use Rattle.replica_core.specs.declared.extents.PacketExtent.{PacketExtent}
use Rattle.replica_core.specs.declared.refusals.Refusal.{Refusal}
use Rattle.replica_core.specs.declared.refusals.Refusal.TheVariants as refusal
use Rattle.replica_core.specs.declared.streams.Stream.{Stream}
use Rattle.hd_base.specs.Results.{◌>>=◌}
use Rattle.replica_core.specs.Refusals.{check}
use Rattle.replica_core.specs.Info.{state_of, is_writable, advance_acked, close_stream, settled_at, reopen, recover_setup, recover_stream, begin_recovery, end_recovery, readable, given, visible_of}
use Rattle.replica_core.specs.Extents.{stream_after, heartbeat_of, pending_of}
use Rattle.replica_core.specs.Transitions.{new_transition, Taken, Outcome, record_after, present, there, set_writer, with_writer, extend, enqueue, extent_transition, packet_transition, stream_by, oldest_of, acknowledge, ack_transition, is_written_by, end_connection, mark_broken, transition, state_after, run, absent, found}
use Rattle.replica_core.specs.Views.{written_at, written_in, acked_at, acked_in, writer_in, visible_in}
use Rattle.replica_core.specs.Sound.{IsConsistent, Sound}
use Rattle.replica_core.specs.Laws.{Adjoins, LeavesNoGap, stream_conn, IsWritersPacket, RefusesReads}
use Rattle.replica_core.proofs.StepLemmas.{after_check, after_step, choice, if_check, if_step, refused_step, refused_first, taken_step, Stays, stays_check, stays_step, stays_done}
use Rattle.replica_core.proofs.InfoLemmas.{present_is, reopen_is, recover_setup_is, recover_stream_is, begin_recovery_is, end_recovery_is, pending_of_is, stream_by_is}
use Rattle.replica_core.proofs.SoundLemmas.{two_ways, info_in, run_sound, absent_sound, found_sound}

-- ---- acked and written

acked_below : (at : Option ReplicaInfo) → IfSome at IsConsistent → acked_at at ≤ written_at at
acked_below None info = omega arith
acked_below (Some h) info = info.acked

-- of a sound replica no more is acked than is written
pub acked_within : (c : ReplicaRecord) → Sound c → acked_in c ≤ written_in c
acked_within c s = acked_below c.info s.info

pub made_acked : (block : BlockId) (es : List Event) → acked_in (run (absent block) es) ≤ written_in (run (absent block) es)
made_acked block es = acked_within (run (absent block) es) (run_sound (absent block) es (absent_sound block))

pub found_acked : (block : BlockId) (original : ReplicaState) (stamp : Stamp) (r : Rule) (n : ℕ) (es : List Event) → acked_in (run (found block (settled_at original stamp r n)) es) ≤ written_in (run (found block (settled_at original stamp r n)) es)
found_acked block original stamp r n es =
    acked_within (run (found block (settled_at original stamp r n)) es) (run_sound (found block (settled_at original stamp r n)) es (found_sound block original stamp r n))

-- ---- no gap

same_seqno : (a b : ℤ) → int_eq a b ≡ true → a ≡ b
same_seqno a b e = (Decides-int_eq a b).0 e

packet_adjoins : (c : ReplicaRecord) (conn : ConnId) (p : PacketExtent) → p.seqno ≢ negsuc 0 → IfOk (packet_transition c conn p) (λ t. Adjoins (written_in c) (written_in t.replica) p.offset p.length)
unfolding extent_transition
packet_adjoins c conn p other =
    let P : Taken → Type 0 = λ t. Adjoins (written_in c) (written_in t.replica) p.offset p.length in
    if_step P (present c) _ (λ h is.
    if_check P (is_writable (state_of h)) refusal.NotWriter _ (λ _.
    if_step P (stream_by c.stream conn) _ (λ t _.
    choice (λ (o : Outcome). IfOk o P) (int_eq p.seqno (negsuc 0)) _ _
    (λ same. absurd (other (same_seqno p.seqno (negsuc 0) same)))
    (λ _.
    if_step P (stream_after t p) _ (λ u _.
    if_step P (pending_of h.sums p h.written) _ (λ e q.
    subst (λ (o : Option ReplicaInfo). Adjoins (written_at o) (max h.written e.end) p.offset p.length) (sym (present_is c h is).1) (pending_of_is h.sums p h.written e q).adjoins))))))

pub no_gap : (c : ReplicaRecord) (e : Event) → LeavesNoGap c e
unfolding transition
no_gap c (event.Packet conn seqno offset n sums last sync bad) = packet_adjoins c conn (record { seqno = seqno; offset = offset; length = n; sums = sums; last = last; sync = sync; bad = bad })
no_gap c _ = tt

-- ---- the writing connection

same_conn : (a b : ConnId) → a.0 ≡ b.0 → a ≡ b
same_conn a b e = let made : ℕ → ConnId = λ n. record { 0 = n } in ap made e

-- the connection whose stream was found writes
writes : (c : ReplicaRecord) (conn : ConnId) (t : Stream) → stream_by c.stream conn ≡ Ok t → writer_in c ≡ Some conn
writes c conn t e =
    let is = stream_by_is c.stream conn t e in
    ap (option_map (λ s. s.conn)) is.0 ∙ ap Some (same_conn t.conn conn is.1)

writes_too : (at : Option Stream) (conn : ConnId) → is_written_by at conn ≡ true → option_map (λ (s : Stream). s.conn) at ≡ Some conn
writes_too None conn e = absurd (cc)
writes_too (Some s) conn e = ap Some (same_conn s.conn conn (eqb-true s.conn.0 conn.0 e))

packet_other : (c : ReplicaRecord) (conn : ConnId) (p : PacketExtent) → writer_in c ≢ Some conn → record_after c (packet_transition c conn p) ≡ c
packet_other c conn p other =
    let P : ReplicaRecord → Type 0 = λ k. k ≡ c in
    after_step P c (present c) _ refl (λ h _.
    after_check P c (is_writable (state_of h)) refusal.NotWriter _ refl (λ _.
    after_step P c (stream_by c.stream conn) _ refl (λ t by. absurd (other (writes c conn t by)))))

ack_other : (c : ReplicaRecord) (conn : ConnId) (seqno : ℤ) (good : Bool) → writer_in c ≢ Some conn → record_after c (ack_transition c conn seqno good) ≡ c
ack_other c conn seqno good other =
    let P : ReplicaRecord → Type 0 = λ k. k ≡ c in
    after_step P c (present c) _ refl (λ h _.
    after_step P c (stream_by c.stream conn) _ refl (λ t by. absurd (other (writes c conn t by))))

end_connection_other : (c : ReplicaRecord) (conn : ConnId) → writer_in c ≢ Some conn → end_connection c conn ≡ c
end_connection_other c conn other =
    choice (λ k. k ≡ c) (is_written_by c.stream conn) (record c { stream = None; pending = [] }) c
    (λ by. absurd (other (writes_too c.stream conn by))) (λ _. refl)

-- what comes on the stream of another connection than the writing one changes nothing
pub others : (c : ReplicaRecord) (e : Event) (conn : ConnId) → stream_conn e ≡ Some conn → writer_in c ≢ Some conn → state_after c e ≡ c
unfolding transition
others c (event.Packet from seqno offset n sums last sync bad) conn is other =
    packet_other c from (record { seqno = seqno; offset = offset; length = n; sums = sums; last = last; sync = sync; bad = bad })
    (λ w. other (w ∙ is))
others c (event.Ack from seqno good) conn is other = ack_other c from seqno good (λ w. other (w ∙ is))
others c (event.Ended from) conn is other = end_connection_other c from (λ w. other (w ∙ is))
others c _ conn is other = absurd (none-some conn is)

-- ---- what grows

-- neither written bytes nor pending packets are more than before
pub record NoMore (c k : ReplicaRecord) : Type 0 where
  pub written : written_in k ≤ written_in c
  pub pending : length k.pending ≤ length c.pending

no_more : (c : ReplicaRecord) → NoMore c c
no_more c = record { written = omega arith; pending = omega arith }

written_is : (c : ReplicaRecord) (h : ReplicaInfo) → c.info ≡ Some h → written_in c ≡ h.written
written_is c h is = ap written_at is

-- a replica with another writer holds no more than was there
set_writer_less : (c : ReplicaRecord) (h k : ReplicaInfo) (writer : Option ConnId) → c.info ≡ Some h → k.written ≤ h.written → NoMore c (set_writer c k writer)
set_writer_less c h k writer is less = record { written = omega (arith, written_is c h is, less); pending = omega arith }

with_writer_less : (c : ReplicaRecord) (writer : Option ConnId) (make : ReplicaInfo → Result ReplicaInfo Refusal) → ((h k : ReplicaInfo) → c.info ≡ Some h → make h ≡ Ok k → k.written ≤ h.written) → NoMore c (record_after c (present c >>= (λ h. with_writer c writer (make h))))
with_writer_less c writer make less =
    after_step (NoMore c) c (present c) _ (no_more c) (λ h is.
    after_step (NoMore c) c (make h) _ (no_more c) (λ k e.
    let there = (present_is c h is).1 in
    set_writer_less c h k writer there (less h k there e)))

settled_less : (h k : ReplicaInfo) (original : ReplicaState) (stamp : Stamp) (r : Rule) (n : ℕ) → k ≡ settled_at original stamp r n → n ≤ h.written → k.written ≤ h.written
settled_less h k original stamp r n e less = subst (λ (x : ReplicaInfo). x.written ≤ h.written) (sym e) less

-- a recovery's end never lengthens
pub update_less : (c : ReplicaRecord) (recovery : Stamp) (n : ℕ) → NoMore c (state_after c (event.Update recovery n))
unfolding transition
update_less c recovery n =
    with_writer_less c None (λ h. end_recovery h h.recovery recovery n) (λ h k _ e.
    let is = end_recovery_is h k h.recovery recovery n e in settled_less h k state.Finalized recovery h.sums n is.0 is.1)

init_less : (c : ReplicaRecord) (named recovery : Stamp) → NoMore c (state_after c (event.Init named recovery))
unfolding transition
init_less c named recovery =
    after_step (NoMore c) c (present c) _ (no_more c) (λ h is.
    after_step (NoMore c) c (begin_recovery h named recovery) _ (no_more c) (λ k e.
    set_writer_less c h k None (present_is c h is).1 (subst (λ (x : ReplicaInfo). x.written ≤ h.written) (sym (begin_recovery_is h k named recovery e)) (omega arith))))

acknowledge_less : (c : ReplicaRecord) (h : ReplicaInfo) (e : PendingPacket) (good : Bool) → c.info ≡ Some h → NoMore c (acknowledge c h e good)
acknowledge_less c h e false is = record { written = omega arith; pending = omega (arith, length-drop 1 c.pending) }
acknowledge_less c h e true is =
    choice (NoMore c) e.last _ _
    (λ _. set_writer_less c h (close_stream (advance_acked h e.end)) None is (omega arith))
    (λ _. record { written = omega (arith, written_is c h is); pending = omega (arith, length-drop 1 c.pending) })

ack_less : (c : ReplicaRecord) (conn : ConnId) (seqno : ℤ) (good : Bool) → NoMore c (record_after c (ack_transition c conn seqno good))
ack_less c conn seqno good =
    after_step (NoMore c) c (present c) _ (no_more c) (λ h is.
    after_step (NoMore c) c (stream_by c.stream conn) _ (no_more c) (λ t _.
    after_step (NoMore c) c (oldest_of (slice_get c.pending 0) seqno) _ (no_more c) (λ e _. acknowledge_less c h e good (present_is c h is).1)))

new_less : (c : ReplicaRecord) (original : ReplicaState) (conn : ConnId) (stamp : Stamp) (r : Rule)
    → NoMore c (record_after c (new_transition c original conn stamp r))
new_less c original conn stamp r =
    after_check (NoMore c) c (not c.is_broken) refusal.Broken _ (no_more c) (λ _.
    after_check (NoMore c) c (is_none c.info) refusal.Exists _ (no_more c) (λ _. record { written = omega arith; pending = omega arith }))

read_less : (c : ReplicaRecord) (named : Stamp) (offset n : ℕ) → NoMore c (state_after c (event.Read named offset n))
unfolding transition
read_less c named offset n =
    after_step (NoMore c) c (present c) _ (no_more c) (λ h _.
    after_step (NoMore c) c (readable h (visible_of h) named offset n) _ (no_more c) (λ _ _. no_more c))

give_less : (c : ReplicaRecord) (named : Stamp) (offset n : ℕ) → NoMore c (state_after c (event.Give named offset n))
unfolding transition
give_less c named offset n =
    after_step (NoMore c) c (present c) _ (no_more c) (λ h _.
    after_step (NoMore c) c (given h named offset n) _ (no_more c) (λ _ _. no_more c))

-- a packet adds something only on the writing connection
packet_writes : (c : ReplicaRecord) (conn : ConnId) (p : PacketExtent) → NoMore c (record_after c (packet_transition c conn p)) ⊎ (writer_in c ≡ Some conn)
packet_writes c conn p =
    let P : ReplicaRecord → Type 0 = λ k. NoMore c k ⊎ (writer_in c ≡ Some conn) in
    let same : P c = inl (no_more c) in
    after_step P c (present c) _ same (λ h _.
    after_check P c (is_writable (state_of h)) refusal.NotWriter _ same (λ _.
    after_step P c (stream_by c.stream conn) _ same (λ t by. inr (writes c conn t by))))

-- nothing but a packet of the writing connection adds bytes or packets
grows : (c : ReplicaRecord) (e : Event) → Sound c → NoMore c (state_after c e) ⊎ IsWritersPacket c e
unfolding transition
grows c (event.Packet conn seqno offset n sums last sync bad) s = packet_writes c conn (record { seqno = seqno; offset = offset; length = n; sums = sums; last = last; sync = sync; bad = bad })
grows c (event.Create conn stamp sums) s = inl (new_less c state.Rbw conn stamp sums)
grows c (event.Temporary conn stamp sums) s = inl (new_less c state.Temporary conn stamp sums)
grows c (event.Append conn named new n) s =
    inl (with_writer_less c (Some conn) (λ h. reopen h named new n) (λ h k _ e. let is = reopen_is h k named new n e in settled_less h k state.Rbw new h.sums n is.0 (omega (arith, is.1))))
grows c (event.AppendRecovery conn named new n) s =
    inl (with_writer_less c (Some conn) (λ h. recover_setup h named new n state.Rbw) (λ h k _ e. let is = recover_setup_is h k named new n state.Rbw e in settled_less h k state.Rbw new h.sums n is.0 (omega (arith, is.1))))
grows c (event.StreamRecovery conn named new low high) s =
    inl (with_writer_less c (Some conn) (λ h. recover_stream h named new low high) (λ h k there e.
    settled_less h k state.Rbw new h.sums h.acked (recover_stream_is h k named new low high e) (info_in c h there s).acked))
grows c (event.CloseRecovery named new n) s =
    inl (with_writer_less c None (λ h. recover_setup h named new n state.Finalized) (λ h k _ e. let is = recover_setup_is h k named new n state.Finalized e in settled_less h k state.Finalized new h.sums n is.0 (omega (arith, is.1))))
grows c (event.Ack conn seqno good) s = inl (ack_less c conn seqno good)
grows c (event.Ended conn) s =
    inl (choice (NoMore c) (is_written_by c.stream conn) (record c { stream = None; pending = [] }) c
    (λ _. record { written = omega arith; pending = omega arith }) (λ _. no_more c))
grows c (event.Init named recovery) s = inl (init_less c named recovery)
grows c (event.Update recovery n) s = inl (update_less c recovery n)
grows c (event.Read named offset n) s = inl (read_less c named offset n)
grows c (event.Give named offset n) s = inl (give_less c named offset n)
grows c event.FileFault s = inl (record { written = omega arith; pending = omega arith })

more_written : (c k : ReplicaRecord) {P : Type 0} → NoMore c k ⊎ P → written_in c < written_in k → P
more_written c k (inl less) more = absurd (omega (arith, less.written))
more_written c k (inr p) more = p

more_pending : (c k : ReplicaRecord) {P : Type 0} → NoMore c k ⊎ P → length c.pending < length k.pending → P
more_pending c k (inl less) more = absurd (omega (arith, less.pending))
more_pending c k (inr p) more = p

pub written_rises : (c : ReplicaRecord) (e : Event) → Sound c → written_in c < written_in (state_after c e) → IsWritersPacket c e
written_rises c e s more = more_written c (state_after c e) (grows c e s) more

pub pending_rises : (c : ReplicaRecord) (e : Event) → Sound c → length c.pending < length (state_after c e).pending → IsWritersPacket c e
pending_rises c e s more = more_pending c (state_after c e) (grows c e s) more

-- ---- readers

not_readable : (h : ReplicaInfo) (named : Stamp) (offset n : ℕ) → IsErr (readable h None named offset n)
unfolding readable
not_readable h named offset n = refl

-- where nothing is visible, every read is refused
pub invisible : (c : ReplicaRecord) → visible_in c ≡ None → RefusesReads c
unfolding transition
invisible c none named offset n =
    refused_step (present c) _ (λ h is.
    let hidden : visible_of h ≡ None = subst (λ (o : Option ReplicaInfo). option_and_then visible_of o ≡ None) (present_is c h is).1 none in
    refused_first (readable h (visible_of h) named offset n) _ (subst (λ (o : Option ℕ). IsErr (readable h o named offset n)) (sym hidden) (not_readable h named offset n)))

-- a broken replica refuses every read
pub broken_unread : (c : ReplicaRecord) → c.is_broken ≡ true → RefusesReads c
unfolding transition
broken_unread c broken named offset n = refused_step (present c) _ (λ h is. absurd (two_ways c.is_broken broken (present_is c h is).0))

-- the read of no byte under no stamp, which any reader may do
least_read : (h : ReplicaInfo) (v : ℕ) → readable h (Some v) (record { 0 = 0 }) 0 0 ≡ Ok v
unfolding readable
least_read h v = grind (arith, nat_tests)

present_there : (c : ReplicaRecord) (h : ReplicaInfo) → c.is_broken ≡ false → c.info ≡ Some h → present c ≡ Ok h
present_there c h whole is = ap (λ b. check (not b) refusal.Broken (there c.info)) whole ∙ ap there is

-- where something is visible, that read is answered
reads : (c : ReplicaRecord) (h : ReplicaInfo) (v : ℕ) → c.is_broken ≡ false → c.info ≡ Some h → visible_of h ≡ Some v → transition c (event.Read (record { 0 = 0 }) 0 0) ≡ Ok (record { replica = c; answer = answer.Visible v })
unfolding transition
reads c h v whole is e =
    taken_step (present c) _ h (present_there c h whole is)
    ∙ taken_step (readable h (visible_of h) (record { 0 = 0 }) 0 0) _ v (ap (λ o. readable h o (record { 0 = 0 }) 0 0) e ∙ least_read h v)

not_taken : (o : Outcome) (t : Taken) → o ≡ Ok t → IsErr o → ⊥
not_taken o t e refused = cc

none_or : (o : Option ℕ) → ((v : ℕ) → o ≡ Some v → ⊥) → o ≡ None
none_or None never = refl
none_or (Some v) never = absurd (never v refl)

seen_at : (c : ReplicaRecord) (at : Option ReplicaInfo) → c.is_broken ≡ false → c.info ≡ at → RefusesReads c → option_and_then visible_of at ≡ None
seen_at c None whole is refuses = refl
seen_at c (Some h) whole is refuses =
    none_or (visible_of h) (λ v e. not_taken (transition c (event.Read (record { 0 = 0 }) 0 0)) (record { replica = c; answer = answer.Visible v }) (reads c h v whole is e) (refuses (record { 0 = 0 }) 0 0))

-- nothing is visible exactly where no reader may read
pub seen : (c : ReplicaRecord) → c.is_broken ≡ false → (visible_in c ≡ None) ↔ RefusesReads c
seen c whole = (invisible c, λ refuses. seen_at c c.info whole refl refuses)

-- ---- refused events

with_writer_stays : (c : ReplicaRecord) (writer : Option ConnId) (make : ReplicaInfo → Result ReplicaInfo Refusal) → Stays c (present c >>= (λ h. with_writer c writer (make h)))
with_writer_stays c writer make = stays_step c (present c) _ (λ h. stays_step c (make h) _ (λ k. stays_done c (set_writer c k writer)))

packet_stays : (c : ReplicaRecord) (conn : ConnId) (p : PacketExtent) → Stays c (packet_transition c conn p)
unfolding extent_transition
packet_stays c conn p =
    stays_step c (present c) _ (λ h.
    stays_check c (is_writable (state_of h)) refusal.NotWriter _
    (stays_step c (stream_by c.stream conn) _ (λ t.
    choice (Stays c) (int_eq p.seqno (negsuc 0)) _ _
    (λ _. stays_step c (heartbeat_of p) _ (λ e. stays_done c (enqueue c e)))
    (λ _. stays_step c (stream_after t p) _ (λ u. stays_step c (pending_of h.sums p h.written) _ (λ e. stays_done c (extend c h u e)))))))

new_stays : (c : ReplicaRecord) (original : ReplicaState) (conn : ConnId) (stamp : Stamp) (r : Rule) → Stays c (new_transition c original conn stamp r)
new_stays c original conn stamp r =
    stays_check c (not c.is_broken) refusal.Broken _
    (stays_check c (is_none c.info) refusal.Exists _ (stays_done c (set_writer c (settled_at original stamp r 0) (Some conn))))

-- an event that is answered with a refusal changes nothing
pub stays : (c : ReplicaRecord) (e : Event) → Stays c (transition c e)
unfolding transition
stays c (event.Create conn stamp sums) = new_stays c state.Rbw conn stamp sums
stays c (event.Temporary conn stamp sums) = new_stays c state.Temporary conn stamp sums
stays c (event.Append conn named new n) = with_writer_stays c (Some conn) (λ h. reopen h named new n)
stays c (event.AppendRecovery conn named new n) = with_writer_stays c (Some conn) (λ h. recover_setup h named new n state.Rbw)
stays c (event.StreamRecovery conn named new low high) = with_writer_stays c (Some conn) (λ h. recover_stream h named new low high)
stays c (event.CloseRecovery named new n) = with_writer_stays c None (λ h. recover_setup h named new n state.Finalized)
stays c (event.Packet conn seqno offset n sums last sync bad) = packet_stays c conn (record { seqno = seqno; offset = offset; length = n; sums = sums; last = last; sync = sync; bad = bad })
stays c (event.Ack conn seqno good) =
    stays_step c (present c) _ (λ h. stays_step c (stream_by c.stream conn) _ (λ t. stays_step c (oldest_of (slice_get c.pending 0) seqno) _ (λ e. stays_done c (acknowledge c h e good))))
stays c (event.Ended conn) = stays_done c (end_connection c conn)
stays c (event.Init named recovery) = stays_step c (present c) _ (λ h. stays_step c (begin_recovery h named recovery) _ (λ k x e. absurd (cc)))
stays c (event.Update recovery n) = with_writer_stays c None (λ h. end_recovery h h.recovery recovery n)
stays c (event.Read named offset n) = stays_step c (present c) _ (λ h. stays_step c (readable h (visible_of h) named offset n) _ (λ v x e. refl))
stays c (event.Give named offset n) = stays_step c (present c) _ (λ h. stays_step c (given h named offset n) _ (λ v x e. refl))
stays c event.FileFault = stays_done c (mark_broken c)
