-- Every event keeps a replica sound.
use Rattle.std.proofs.Common.{◌≡◌, ℕ, ◌≤◌, max, Bool, true, false, List, [], ◌∷◌, ◌++◌, drop, slice_get, Option, Some, None, IfSome, option_map, Result, Ok, refl, sym, ◌∙◌, ap, subst, not, is_none, negsuc, ℤ, arith}
use Rattle.std.proofs.lemmas.Option.{same_Some, none-some}
use Rattle.std.specs.List.{AllByRecursion}
use Rattle.hd_base.specs.declared.states.ReplicaState.{ReplicaState}
use Rattle.hd_base.specs.declared.states.ReplicaState.TheVariants as state
use Rattle.hd_base.specs.declared.numbers.BlockId.{BlockId}
use Rattle.hd_base.specs.declared.numbers.ConnId.{ConnId}
use Rattle.hd_base.specs.declared.numbers.Stamp.{Stamp}
use Rattle.hd_base.specs.SumRules.{Rule}
use Rattle.replica_core.specs.declared.records.ReplicaRecord.{ReplicaRecord}
use Rattle.replica_core.specs.declared.ack_queue.PendingPacket.{PendingPacket}
use Rattle.replica_core.specs.declared.events.Event.{Event}
use Rattle.replica_core.specs.declared.events.Event.TheVariants as event
use Rattle.replica_core.specs.declared.info.ReplicaInfo.{ReplicaInfo}
use Rattle.replica_core.specs.declared.extents.PacketExtent.{PacketExtent}
use Rattle.replica_core.specs.declared.refusals.Refusal.{Refusal}
use Rattle.replica_core.specs.declared.refusals.Refusal.TheVariants as refusal
use Rattle.replica_core.specs.declared.events.Answer.TheVariants as answer
use Rattle.replica_core.specs.declared.streams.Stream.{Stream}
use Rattle.hd_base.specs.Results.{◌>>=◌}
use Rattle.replica_core.specs.Refusals.{check}
use Rattle.std.specs.Ordering.{int_eq}
use Rattle.replica_core.specs.Info.{state_of, state_under, is_writable, settled_at, advance_acked, close_stream, reopen, recover_setup, recover_stream, begin_recovery, end_recovery, readable, given, visible_of}
use Rattle.replica_core.specs.Extents.{pending_of, heartbeat_of, stream_after}
use Rattle.replica_core.specs.Transitions.{new_transition, Outcome, record_after, done, is_written_by, packet_transition, ack_transition, present, set_writer, with_writer, extend, enqueue, extent_transition, stream_by, oldest_of, acknowledge, mark_broken, transition, state_after, run, absent, found}
use Rattle.replica_core.specs.Views.{state_in, written_at, written_in}
use Rattle.replica_core.specs.Sound.{IsWritable, is_settled, IsConsistent, IsPending, IsNotLast, IsStream, Sound}
use Rattle.replica_core.proofs.StepLemmas.{after_check, after_step, choice}
use Rattle.replica_core.proofs.InfoLemmas.{present_is, reopen_is, recover_setup_is, recover_stream_is, begin_recovery_is, end_recovery_is, heartbeat_is, stream_after_is, pending_of_is, IsPendingOf, stream_by_is, oldest_is}

-- ---- tests

pub two_ways : (b : Bool) → b ≡ true → b ≡ false → ⊥
two_ways b holds fails = cc

not_true : (b : Bool) → not b ≡ true → b ≡ false
not_true true e = absurd (cc)
not_true false e = refl

-- ---- lists of packets

each-append : (P : PendingPacket → Type 0) (es : List PendingPacket) (e : PendingPacket) → AllByRecursion P es → P e → AllByRecursion P (es ++ e ∷ [])
each-append P [] e all here = (here, tt)
each-append P (x ∷ xs) e all here = (all.0, each-append P xs e all.1 here)

each-rest : (P : PendingPacket → Type 0) (es : List PendingPacket) → AllByRecursion P es → AllByRecursion P (drop 1 es)
each-rest P [] all = tt
each-rest P (x ∷ xs) all = all.1

each-first : (P : PendingPacket → Type 0) (es : List PendingPacket) (e : PendingPacket) → slice_get es 0 ≡ Some e → AllByRecursion P es → P e
each-first P [] e is all = absurd (none-some e is)
each-first P (x ∷ xs) e is all = subst P (same_Some x e is) all.0

-- pending packets that aren't the last are still written when more is
still_pending : (less more : ℕ) (es : List PendingPacket) → less ≤ more → AllByRecursion IsNotLast es → AllByRecursion (IsPending less) es → AllByRecursion (IsPending more) es
still_pending less more [] below open_yet all = tt
still_pending less more (x ∷ xs) below open_yet all =
    (record { within = omega (arith, all.0.within); last = λ l. absurd (two_ways x.last l open_yet.0.not_last) }, still_pending less more xs below open_yet.1 all.1)

-- ---- what is there

pub settled_consistent : (original : ReplicaState) (stamp : Stamp) (r : Rule) (n : ℕ) → IsConsistent (settled_at original stamp r n)
settled_consistent original stamp r n = record { acked = omega arith; settled = λ _. refl }

-- a new writer, or none
pub set_writer_sound : (c : ReplicaRecord) (h : ReplicaInfo) (writer : Option ConnId) → IsConsistent h → c.is_broken ≡ false → IfSome writer (λ _. is_writable (state_of h) ≡ true) → Sound (set_writer c h writer)
set_writer_sound c h None info whole rbw = record { info = info; pending = tt; stream = tt; writing = tt; sound = tt; quiet = λ _. refl }
set_writer_sound c h (Some conn) info whole rbw =
    record { info = info; pending = tt; stream = record { open_yet = λ _. tt }; writing = ap Some rbw; sound = whole; quiet = λ _. refl }

-- what is there, of a sound replica
pub info_in : (c : ReplicaRecord) (h : ReplicaInfo) → c.info ≡ Some h → Sound c → IsConsistent h
info_in c h is s = subst (λ (o : Option ReplicaInfo). IfSome o IsConsistent) is s.info

-- a setup or the end of a recovery, which makes something sound of what is there
with_writer_keeps : (c : ReplicaRecord) (writer : Option ConnId) (make : ReplicaInfo → Result ReplicaInfo Refusal) → Sound c → ((h k : ReplicaInfo) → make h ≡ Ok k → IsConsistent h → IsConsistent k × IfSome writer (λ _. is_writable (state_of k) ≡ true)) → Sound (record_after c (present c >>= (λ h. with_writer c writer (make h))))
with_writer_keeps c writer make s good =
    after_step Sound c (present c) (λ h. with_writer c writer (make h)) s (λ h is.
    after_step Sound c (make h) (λ k. done (set_writer c k writer)) s (λ k e.
    let known = present_is c h is in
    let made = good h k e (info_in c h known.1 s) in
    set_writer_sound c k writer made.0 known.0 made.1))

-- what was made settled is sound
settled_is : (k : ReplicaInfo) (original : ReplicaState) (stamp : Stamp) (r : Rule) (n : ℕ) → k ≡ settled_at original stamp r n → IsConsistent k
settled_is k original stamp r n e = subst IsConsistent (sym e) (settled_consistent original stamp r n)

rbw_is : (k : ReplicaInfo) (stamp : Stamp) (r : Rule) (n : ℕ) → k ≡ settled_at state.Rbw stamp r n → is_writable (state_of k) ≡ true
rbw_is k stamp r n e = subst (λ (h : ReplicaInfo). is_writable (state_of h) ≡ true) (sym e) refl

-- ---- a replica that a connection writes

-- a replica that may be written is under no recovery
writable_parts : (recovery : Option Stamp) (original : ReplicaState) → is_writable (state_under recovery original) ≡ true → is_writable original ≡ true
writable_parts None original e = e
writable_parts (Some id) original e = absurd (cc)

unsettled : (original : ReplicaState) → is_writable original ≡ true → is_settled original ≡ true → ⊥
unsettled state.Finalized e settled = cc
unsettled state.Rbw e settled = cc
unsettled state.Rwr e settled = cc
unsettled state.Rur e settled = cc
unsettled state.Temporary e settled = cc

-- what is true of what a connection writes
record Written (h : ReplicaInfo) (t : Stream) (es : List PendingPacket) : Type 0 where
  info : IsConsistent h
  writable : is_writable (state_of h) ≡ true
  pending : AllByRecursion (IsPending h.written) es
  stream : IsStream es t

written : (c : ReplicaRecord) (h : ReplicaInfo) (t : Stream) → Sound c → c.info ≡ Some h → c.stream ≡ Some t → Written h t c.pending
written c h t s is by =
    let open_yet : IsWritable (state_in c) = subst (λ (o : Option Stream). IfSome o (λ _. IsWritable (state_in c))) by s.writing in
    record {
      info = info_in c h is s;
      writable = same_Some (is_writable (state_of h)) true (subst (λ (o : Option ReplicaInfo). IsWritable (option_map state_of o)) is open_yet);
      pending = subst (λ (o : Option ReplicaInfo). AllByRecursion (IsPending (written_at o)) c.pending) is s.pending;
      stream = subst (λ (o : Option Stream). IfSome o (IsStream c.pending)) by s.stream;
    }

not_quiet : {P : Type 0} (c : ReplicaRecord) (t : Stream) → c.stream ≡ Some t → c.stream ≡ None → P
not_quiet c t by none = absurd (none-some t (sym none ∙ by))

-- ---- packets

streams_append : (at : Option Stream) (es : List PendingPacket) (e : PendingPacket) → e.last ≡ false → IfSome at (IsStream es) → IfSome at (IsStream (es ++ e ∷ []))
streams_append None es e not_last all = tt
streams_append (Some t) es e not_last all = record { open_yet = λ o. each-append IsNotLast es e (all.open_yet o) (record { not_last = not_last }) }

enqueue_sound : (c : ReplicaRecord) (t : Stream) (e : PendingPacket) → Sound c → c.stream ≡ Some t → (e.end ≡ 0) × (e.last ≡ false) → Sound (enqueue c e)
enqueue_sound c t e s by is =
    record {
      info = s.info;
      pending = each-append (IsPending (written_in c)) c.pending e s.pending (record { within = omega (arith, is.0); last = λ l. absurd (two_ways e.last l is.1) });
      stream = streams_append c.stream c.pending e is.1 s.stream;
      writing = s.writing;
      sound = s.sound;
      quiet = not_quiet c t by;
    }

extend_consistent : (h : ReplicaInfo) (t : Stream) (pending : List PendingPacket) (n : ℕ) → Written h t pending → IsConsistent (record h { written = max h.written n })
extend_consistent h t pending n w =
    record {
      acked = omega (arith, w.info.acked);
      settled = λ settled. absurd (unsettled h.original (writable_parts h.recovery h.original w.writable) settled);
    }

extend_sound : (c : ReplicaRecord) (h : ReplicaInfo) (t u : Stream) (p : PacketExtent) (e : PendingPacket) → Written h t c.pending → c.is_broken ≡ false → (t.is_over ≡ false) × (u.conn ≡ t.conn) × (u.is_over ≡ p.last) → IsPendingOf p h.written e → Sound (extend c h u e)
extend_sound c h t u p e w whole went entry =
    let open_yet : AllByRecursion IsNotLast c.pending = w.stream.open_yet went.0 in
    record {
      info = extend_consistent h t c.pending e.end w;
      pending = each-append (IsPending (max h.written e.end)) c.pending e
          (still_pending h.written (max h.written e.end) c.pending (omega arith) open_yet w.pending)
          (record { within = omega arith; last = λ l. omega (arith, entry.last l) });
      stream = record { open_yet = λ o. each-append IsNotLast c.pending e open_yet (record { not_last = entry.same ∙ sym went.2 ∙ o }) };
      writing = ap Some w.writable;
      sound = whole;
      quiet = λ none. absurd (cc);
    }

extent_keeps : (c : ReplicaRecord) (h : ReplicaInfo) (t : Stream) (p : PacketExtent) → Sound c → (c.is_broken ≡ false) × (c.info ≡ Some h) → c.stream ≡ Some t → Sound (record_after c (extent_transition c h t p))
unfolding extent_transition
extent_keeps c h t p s known by =
    choice (λ (o : Outcome). Sound (record_after c o)) (int_eq p.seqno (negsuc 0)) _ _
    (λ _. after_step Sound c (heartbeat_of p) (λ e. done (enqueue c e)) s (λ e is. enqueue_sound c t e s by (heartbeat_is p e is)))
    (λ _. after_step Sound c (stream_after t p) (λ u. pending_of h.sums p h.written >>= (λ e. done (extend c h u e))) s (λ u went.
    after_step Sound c (pending_of h.sums p h.written) (λ e. done (extend c h u e)) s (λ e is.
    extend_sound c h t u p e (written c h t s known.1 by) known.0 (stream_after_is t u p went) (pending_of_is h.sums p h.written e is))))

packet_keeps : (c : ReplicaRecord) (conn : ConnId) (p : PacketExtent) → Sound c → Sound (record_after c (packet_transition c conn p))
packet_keeps c conn p s =
    after_step Sound c (present c) (λ h. check (is_writable (state_of h)) refusal.NotWriter (stream_by c.stream conn >>= (λ t. extent_transition c h t p))) s (λ h is.
    after_check Sound c (is_writable (state_of h)) refusal.NotWriter (stream_by c.stream conn >>= (λ t. extent_transition c h t p)) s (λ _.
    after_step Sound c (stream_by c.stream conn) (λ t. extent_transition c h t p) s (λ t by.
    extent_keeps c h t p s (present_is c h is) (stream_by_is c.stream conn t by).0)))

-- ---- acks

streams_rest : (at : Option Stream) (es : List PendingPacket) → IfSome at (IsStream es) → IfSome at (IsStream (drop 1 es))
streams_rest None es all = tt
streams_rest (Some t) es all = record { open_yet = λ o. each-rest IsNotLast es (all.open_yet o) }

acknowledge_sound : (c : ReplicaRecord) (h : ReplicaInfo) (t : Stream) (e : PendingPacket) (good : Bool) → Sound c → (c.is_broken ≡ false) × (c.info ≡ Some h) → c.stream ≡ Some t → slice_get c.pending 0 ≡ Some e → Sound (acknowledge c h e good)
acknowledge_sound c h t e false s known by is =
    record {
      info = s.info;
      pending = each-rest (IsPending (written_in c)) c.pending s.pending;
      stream = streams_rest c.stream c.pending s.stream;
      writing = s.writing;
      sound = s.sound;
      quiet = not_quiet c t by;
    }
acknowledge_sound c h t e true s known by is =
    let w = written c h t s known.1 by in
    let first : IsPending h.written e = each-first (IsPending h.written) c.pending e is w.pending in
    choice Sound e.last _ _
    (λ last. set_writer_sound c (close_stream (advance_acked h e.end)) None (record { acked = omega (arith, w.info.acked, first.within); settled = λ _. omega (arith, w.info.acked, first.last last) }) known.0 tt)
    (λ _. record {
      info = record { acked = omega (arith, w.info.acked, first.within); settled = λ settled. absurd (unsettled h.original (writable_parts h.recovery h.original w.writable) settled) };
      pending = each-rest (IsPending h.written) c.pending w.pending;
      stream = streams_rest c.stream c.pending s.stream;
      writing = subst (λ (o : Option Stream). IfSome o (λ _. IsWritable (Some (state_of h)))) (sym by) (ap Some w.writable);
      sound = s.sound;
      quiet = not_quiet c t by;
    })

ack_keeps : (c : ReplicaRecord) (conn : ConnId) (seqno : ℤ) (good : Bool) → Sound c → Sound (record_after c (ack_transition c conn seqno good))
ack_keeps c conn seqno good s =
    after_step Sound c (present c) (λ h. stream_by c.stream conn >>= (λ t. oldest_of (slice_get c.pending 0) seqno >>= (λ e. done (acknowledge c h e good)))) s (λ h is.
    after_step Sound c (stream_by c.stream conn) (λ t. oldest_of (slice_get c.pending 0) seqno >>= (λ e. done (acknowledge c h e good))) s (λ t by.
    after_step Sound c (oldest_of (slice_get c.pending 0) seqno) (λ e. done (acknowledge c h e good)) s (λ e first.
    acknowledge_sound c h t e good s (present_is c h is) (stream_by_is c.stream conn t by).0 (oldest_is (slice_get c.pending 0) seqno e first))))

-- ---- events

-- where nobody writes any more
unwritten_sound : (c : ReplicaRecord) → Sound c → Sound (record c { stream = None; pending = [] })
unwritten_sound c s = record { info = s.info; pending = tt; stream = tt; writing = tt; sound = tt; quiet = λ _. refl }

mark_broken_sound : (c : ReplicaRecord) → Sound c → Sound (mark_broken c)
mark_broken_sound c s = record { info = s.info; pending = tt; stream = tt; writing = tt; sound = tt; quiet = λ _. refl }

begin_recovery_consistent : (h k : ReplicaInfo) (recovery : Stamp) → k ≡ record h { recovery = Some recovery } → IsConsistent h → IsConsistent k
begin_recovery_consistent h k recovery e info = subst IsConsistent (sym e) (record { acked = info.acked; settled = info.settled })

new_sound : (c : ReplicaRecord) (original : ReplicaState) (conn : ConnId) (stamp : Stamp) (r : Rule) → is_writable original ≡ true → Sound c
    → Sound (record_after c (new_transition c original conn stamp r))
new_sound c original conn stamp r writable s =
    let made = settled_at original stamp r 0 in
    after_check Sound c (not c.is_broken) refusal.Broken (check (is_none c.info) refusal.Exists (done (set_writer c made (Some conn)))) s (λ whole.
    after_check Sound c (is_none c.info) refusal.Exists (done (set_writer c made (Some conn))) s (λ _.
    set_writer_sound c made (Some conn) (settled_consistent original stamp r 0) (not_true c.is_broken whole) writable))

-- Every event keeps a replica sound.
pub kept : (c : ReplicaRecord) (e : Event) → Sound c → Sound (state_after c e)
unfolding transition
kept c (event.Create conn stamp sums) s = new_sound c state.Rbw conn stamp sums refl s
kept c (event.Temporary conn stamp sums) s = new_sound c state.Temporary conn stamp sums refl s
kept c (event.Append conn named new n) s =
    with_writer_keeps c (Some conn) (λ h. reopen h named new n) s (λ h k e _. let is = (reopen_is h k named new n e).0 in (settled_is k state.Rbw new h.sums n is, rbw_is k new h.sums n is))
kept c (event.AppendRecovery conn named new n) s =
    with_writer_keeps c (Some conn) (λ h. recover_setup h named new n state.Rbw) s (λ h k e _. let is = (recover_setup_is h k named new n state.Rbw e).0 in (settled_is k state.Rbw new h.sums n is, rbw_is k new h.sums n is))
kept c (event.StreamRecovery conn named new low high) s =
    with_writer_keeps c (Some conn) (λ h. recover_stream h named new low high) s (λ h k e _. let is = recover_stream_is h k named new low high e in (settled_is k state.Rbw new h.sums h.acked is, rbw_is k new h.sums h.acked is))
kept c (event.CloseRecovery named new n) s =
    with_writer_keeps c None (λ h. recover_setup h named new n state.Finalized) s (λ h k e _. (settled_is k state.Finalized new h.sums n (recover_setup_is h k named new n state.Finalized e).0, tt))
kept c (event.Packet conn seqno offset n sums last sync bad) s =
    packet_keeps c conn (record { seqno = seqno; offset = offset; length = n; sums = sums; last = last; sync = sync; bad = bad }) s
kept c (event.Ack conn seqno good) s = ack_keeps c conn seqno good s
kept c (event.Ended conn) s = choice Sound (is_written_by c.stream conn) (record c { stream = None; pending = [] }) c (λ _. unwritten_sound c s) (λ _. s)
kept c (event.Init named recovery) s =
    after_step Sound c (present c) (λ h. begin_recovery h named recovery >>= (λ k. Ok (record { replica = set_writer c k None; answer = answer.Info h.original h.stamp h.written }))) s (λ h is.
    after_step Sound c (begin_recovery h named recovery) (λ k. Ok (record { replica = set_writer c k None; answer = answer.Info h.original h.stamp h.written })) s (λ k e.
    let known = present_is c h is in
    set_writer_sound c k None (begin_recovery_consistent h k recovery (begin_recovery_is h k named recovery e) (info_in c h known.1 s)) known.0 tt))
kept c (event.Update recovery n) s =
    with_writer_keeps c None (λ h. end_recovery h h.recovery recovery n) s (λ h k e _. (settled_is k state.Finalized recovery h.sums n (end_recovery_is h k h.recovery recovery n e).0, tt))
kept c (event.Read named offset n) s =
    after_step Sound c (present c) (λ h. readable h (visible_of h) named offset n >>= (λ visible. Ok (record { replica = c; answer = answer.Visible visible }))) s (λ h _.
    after_step Sound c (readable h (visible_of h) named offset n) (λ visible. Ok (record { replica = c; answer = answer.Visible visible })) s (λ _ _. s))
kept c (event.Give named offset n) s =
    after_step Sound c (present c) (λ h. given h named offset n >>= (λ visible. Ok (record { replica = c; answer = answer.Visible visible }))) s (λ h _.
    after_step Sound c (given h named offset n) (λ visible. Ok (record { replica = c; answer = answer.Visible visible })) s (λ _ _. s))
kept c event.FileFault s = mark_broken_sound c s

-- ---- whole runs

pub absent_sound : (block : BlockId) → Sound (absent block)
absent_sound block = record { info = tt; pending = tt; stream = tt; writing = tt; sound = tt; quiet = λ _. refl }

pub found_sound : (block : BlockId) (original : ReplicaState) (stamp : Stamp) (r : Rule) (n : ℕ) → Sound (found block (settled_at original stamp r n))
found_sound block original stamp r n = record { info = settled_consistent original stamp r n; pending = tt; stream = tt; writing = tt; sound = tt; quiet = λ _. refl }

pub run_sound : (c : ReplicaRecord) (es : List Event) → Sound c → Sound (run c es)
run_sound c [] s = s
run_sound c (e ∷ es) s = run_sound (state_after c e) es (kept c e s)
