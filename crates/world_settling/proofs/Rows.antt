-- What book calls make of the entries that are pending at a replica.
use Rattle.std.proofs.Common.{◌≡◌, ℕ, ℤ, negsuc, ◌≤◌, ◌+◌, ◌*◌, Bool, true, false, List, [], ◌∷◌, ◌++◌, length, drop, slice_get, Option, Some, None, Result, Ok, Err, length-append, length-drop, refl, sym, ap, ◌∙◌, subst, arith, eqb-true}
use Rattle.std.specs.Prelude.{◌==◌, not, is_none, if◌then◌else◌}
use Rattle.std.proofs.lemmas.Bool.Decides.{nat_tests}
use Rattle.std.proofs.lemmas.Bool.{ne_eqb, false≢true}
use Rattle.std.proofs.lemmas.Option.{none-some}
use Rattle.std.specs.Ordering.{int_eq}
use Rattle.hd_base.specs.Results.{◌>>=◌}
use Rattle.hd_base.specs.declared.numbers.ConnId.{ConnId}
use Rattle.hd_base.specs.declared.numbers.Stamp.{Stamp}
use Rattle.hd_base.specs.declared.states.ReplicaState.{ReplicaState}
use Rattle.hd_base.specs.declared.states.ReplicaState.TheVariants as state
use Rattle.hd_base.specs.SumRules.{Rule}
use Rattle.replica_core.specs.declared.ack_queue.PendingPacket.{PendingPacket}
use Rattle.replica_core.specs.declared.events.Answer.{Answer}
use Rattle.replica_core.specs.declared.events.Answer.TheVariants as answer
use Rattle.replica_core.specs.declared.events.Event.{Event}
use Rattle.replica_core.specs.declared.events.Event.TheVariants as event
use Rattle.replica_core.specs.declared.extents.PacketExtent.{PacketExtent}
use Rattle.replica_core.specs.declared.info.ReplicaInfo.{ReplicaInfo}
use Rattle.replica_core.specs.declared.records.ReplicaRecord.{ReplicaRecord}
use Rattle.replica_core.specs.declared.refusals.Refusal.{Refusal}
use Rattle.replica_core.specs.declared.refusals.Refusal.TheVariants as refusal
use Rattle.replica_core.specs.declared.streams.Stream.{Stream}
use Rattle.replica_core.specs.Extents.{stream_after, heartbeat_of, pending_of}
use Rattle.replica_core.specs.Info.{close_stream, advance_acked, is_writable, state_of, settled_at, reopen, recover_setup, recover_stream, begin_recovery, end_recovery, readable, visible_of, given}
use Rattle.replica_core.specs.Refusals.{check}
use Rattle.replica_core.specs.Transitions.{Taken, Outcome, done, present, record_after, set_writer, with_writer, new_transition, init_transition, stream_by, enqueue, extend, extent_transition, packet_transition, acknowledge, oldest_of, ack_transition, is_written_by, transition, state_after, answer_of, answer_to, reply}
use Rattle.member_core.specs.declared.turns.Booked.TheVariants as booked
use Rattle.member_core.specs.Steps.{booked_as, refused_by}
use Rattle.request_refusals.specs.declared.refusals.RequestRefusal.TheVariants as request_refusal
use Rattle.world_settling.specs.Traffic.{entries_by}

-- of this connection nothing more is pending
record Calm (i : ℕ) (c : ReplicaRecord) (o : Outcome) : Type 0 where
  is : entries_by i (record_after c o) ≤ entries_by i c

err-calm : (i : ℕ) (c : ReplicaRecord) (e : Refusal) → Calm i c (Err e)
err-calm i c e = record { is = omega arith }

bind-calm : {A : Type 0} (i : ℕ) (c : ReplicaRecord) (o : Result A Refusal) (f : A → Outcome) → ((x : A) → Calm i c (f x)) → Calm i c (o >>= f)
bind-calm i c (Ok x) f h = h x
bind-calm i c (Err e) f h = err-calm i c e

check-calm : (i : ℕ) (c : ReplicaRecord) (b : Bool) (x : Refusal) (o : Outcome) → Calm i c o → Calm i c (check b x o)
check-calm i c true x o h = h
check-calm i c false x o h = err-calm i c x

nothing-held : (b : Bool) (n : ℕ) → (if b then 3 * 0 else 0) ≤ n
nothing-held true n = omega arith
nothing-held false n = omega arith

set-calm : (i : ℕ) (c : ReplicaRecord) (h : ReplicaInfo) (w : Option ConnId) → Calm i c (done (set_writer c h w))
set-calm i c h w = record { is = nothing-held (is_written_by (set_writer c h w).stream (record { 0 = i })) _ }

with-calm : (i : ℕ) (c : ReplicaRecord) (w : Option ConnId) (o : Result ReplicaInfo Refusal) → Calm i c (with_writer c w o)
with-calm i c w o = bind-calm i c o _ (λ h. set-calm i c h w)

same-calm : (i : ℕ) (c : ReplicaRecord) (a : Answer) → Calm i c (Ok (record { replica = c; answer = a }))
same-calm i c a = record { is = omega arith }

fewer : (b : Bool) (xs : List PendingPacket) → (if b then 3 * length (drop 1 xs) else 0) ≤ (if b then 3 * length xs else 0)
fewer true xs = omega (arith, length-drop 1 xs)
fewer false xs = omega arith

acknowledge-calm : (i : ℕ) (c : ReplicaRecord) (h : ReplicaInfo) (e : PendingPacket) (good : Bool) → Calm i c (done (acknowledge c h e good))
acknowledge-calm i c h e false = record { is = fewer (is_written_by c.stream (record { 0 = i })) c.pending }
acknowledge-calm i c h e true = at e.last
  where
    at : (b : Bool) → Calm i c (done (if b then set_writer c (close_stream (advance_acked h e.end)) None else record c { info = Some (advance_acked h e.end); pending = drop 1 c.pending }))
    at true = set-calm i c (close_stream (advance_acked h e.end)) None
    at false = record { is = fewer (is_written_by c.stream (record { 0 = i })) c.pending }

ended-calm : (i : ℕ) (c : ReplicaRecord) (b : Bool) → Calm i c (done (if b then record c { stream = None; pending = [] } else c))
ended-calm i c true = record { is = omega arith }
ended-calm i c false = record { is = omega arith }

-- no event but a packet makes one pending
abbrev pub IsPacket : Event → Bool
IsPacket (event.Packet conn seqno offset bytes sums last sync bad) = true
IsPacket _ = false

new-calm : (i : ℕ) (c : ReplicaRecord) (original : ReplicaState) (conn : ConnId) (stamp : Stamp) (sums : Rule) → Calm i c (new_transition c original conn stamp sums)
new-calm i c original conn stamp sums =
    let o : Outcome = done (set_writer c (settled_at original stamp sums 0) (Some conn)) in
    check-calm i c (not c.is_broken) refusal.Broken (check (is_none c.info) refusal.Exists o)
    (check-calm i c (is_none c.info) refusal.Exists o (set-calm i c (settled_at original stamp sums 0) (Some conn)))

present-calm : (i : ℕ) (c : ReplicaRecord) (w : Option ConnId) (g : ReplicaInfo → Result ReplicaInfo Refusal) → Calm i c (present c >>= (λ h. with_writer c w (g h)))
present-calm i c w g = bind-calm i c (present c) (λ h. with_writer c w (g h)) (λ h. with-calm i c w (g h))

seen-calm : (i : ℕ) (c : ReplicaRecord) (g : ReplicaInfo → Result ℕ Refusal) → Calm i c (present c >>= (λ h. g h >>= (λ v. Ok (record { replica = c; answer = answer.Visible v }))))
seen-calm i c g =
    bind-calm i c (present c) (λ h. g h >>= (λ v. Ok (record { replica = c; answer = answer.Visible v })))
    (λ h. bind-calm i c (g h) (λ v. Ok (record { replica = c; answer = answer.Visible v })) (λ v. same-calm i c (answer.Visible v)))

init-calm : (i : ℕ) (c : ReplicaRecord) (named recovery : Stamp) → Calm i c (init_transition c named recovery)
init-calm i c named recovery =
    bind-calm i c (present c) (λ h. begin_recovery h named recovery >>= (λ k. Ok (record { replica = set_writer c k None; answer = answer.Info h.original h.stamp h.written })))
    (λ h. bind-calm i c (begin_recovery h named recovery) (λ k. Ok (record { replica = set_writer c k None; answer = answer.Info h.original h.stamp h.written }))
    (λ k. record { is = (set-calm i c k None).is }))

ack-calm : (i : ℕ) (c : ReplicaRecord) (conn : ConnId) (seqno : ℤ) (good : Bool) → Calm i c (ack_transition c conn seqno good)
ack-calm i c conn seqno good =
    bind-calm i c (present c) (λ h. stream_by c.stream conn >>= (λ s. oldest_of (slice_get c.pending 0) seqno >>= (λ e. done (acknowledge c h e good))))
    (λ h. bind-calm i c (stream_by c.stream conn) (λ s. oldest_of (slice_get c.pending 0) seqno >>= (λ e. done (acknowledge c h e good)))
    (λ s. bind-calm i c (oldest_of (slice_get c.pending 0) seqno) (λ e. done (acknowledge c h e good)) (λ e. acknowledge-calm i c h e good)))

transition-calm : (i : ℕ) (c : ReplicaRecord) (e : Event) → IsPacket e ≡ false → Calm i c (transition c e)
unfolding transition
transition-calm i c (event.Create conn stamp sums) n = new-calm i c state.Rbw conn stamp sums
transition-calm i c (event.Temporary conn stamp sums) n = new-calm i c state.Temporary conn stamp sums
transition-calm i c (event.Append conn named new bytes) n = present-calm i c (Some conn) (λ h. reopen h named new bytes)
transition-calm i c (event.AppendRecovery conn named new bytes) n = present-calm i c (Some conn) (λ h. recover_setup h named new bytes state.Rbw)
transition-calm i c (event.StreamRecovery conn named new low high) n = present-calm i c (Some conn) (λ h. recover_stream h named new low high)
transition-calm i c (event.CloseRecovery named new bytes) n = present-calm i c None (λ h. recover_setup h named new bytes state.Finalized)
transition-calm i c (event.Packet conn seqno offset bytes sums last sync bad) n = absurd (false≢true (sym n))
transition-calm i c (event.Ack conn seqno good) n = ack-calm i c conn seqno good
transition-calm i c (event.Ended conn) n = ended-calm i c (is_written_by c.stream conn)
transition-calm i c (event.Init named recovery) n = init-calm i c named recovery
transition-calm i c (event.Update recovery bytes) n = present-calm i c None (λ h. end_recovery h h.recovery recovery bytes)
transition-calm i c (event.Read named offset bytes) n = seen-calm i c (λ h. readable h (visible_of h) named offset bytes)
transition-calm i c (event.Give named offset bytes) n = seen-calm i c (λ h. given h named offset bytes)
transition-calm i c event.FileFault n = record { is = omega arith }

pub other-calm : (i : ℕ) (c : ReplicaRecord) (e : Event) → IsPacket e ≡ false → entries_by i (state_after c e) ≤ entries_by i c
other-calm i c e n = (transition-calm i c e n).is

-- PACKETS

-- of its own connection a packet makes one pending at most, and of any other none
record OneMore (conn i : ℕ) (c : ReplicaRecord) (o : Outcome) : Type 0 where
  most : entries_by i (record_after c o) ≤ entries_by i c + 3
  others : (i ≡ conn → ⊥) → entries_by i (record_after c o) ≤ entries_by i c

err-more : (n i : ℕ) (c : ReplicaRecord) (e : Refusal) → OneMore n i c (Err e)
err-more n i c e = record { most = omega arith; others = λ ne. omega arith }

bind-more : {A : Type 0} (n i : ℕ) (c : ReplicaRecord) (o : Result A Refusal) (f : A → Outcome) → ((x : A) → o ≡ Ok x → OneMore n i c (f x)) → OneMore n i c (o >>= f)
bind-more n i c (Ok x) f h = h x refl
bind-more n i c (Err e) f h = err-more n i c e

check-more : (n i : ℕ) (c : ReplicaRecord) (b : Bool) (x : Refusal) (o : Outcome) → OneMore n i c o → OneMore n i c (check b x o)
check-more n i c true x o h = h
check-more n i c false x o h = err-more n i c x

one-held : (b : Bool) (xs : List PendingPacket) (e : PendingPacket) → (if b then 3 * length (xs ++ e ∷ []) else 0) ≤ (if b then 3 * length xs else 0) + 3
one-held true xs e = omega (arith, length-append xs (e ∷ []))
one-held false xs e = omega arith

-- the stream that a connection writes is that of the replica
record Writes (o : Option Stream) (conn : ConnId) (s : Stream) : Type 0 where
  is : o ≡ Some s
  by : s.conn.0 ≡ conn.0

err-ok : {A : Type 0} (x : Refusal) (s : A) → Err x ≡ Ok s → ⊥
err-ok x s q = cc

ok-same : {A : Type 0} (y z : A) → ◌≡◌ {A = Result A Refusal} (Ok y) (Ok z) → y ≡ z
ok-same y z q = cc

checked-is : {A : Type 0} (b : Bool) (x : Refusal) (s t : A) → check b x (Ok t) ≡ Ok s → (b ≡ true) × (t ≡ s)
checked-is true x s t e = (refl, ok-same t s e)
checked-is false x s t e = absurd (err-ok x s e)

writes-of : (o : Option Stream) (conn : ConnId) (s : Stream) → stream_by o conn ≡ Ok s → Writes o conn s
writes-of None conn s e = absurd (err-ok refusal.NotWriter s e)
writes-of (Some t) conn s e =
    let p = checked-is (t.conn.0 == conn.0) refusal.NotWriter s t e in
    record { is = ap (λ (z : Stream). Some z) p.1; by = subst (λ (z : Stream). z.conn.0 ≡ conn.0) p.1 (eqb-true t.conn.0 conn.0 p.0) }

after-conn : (s t : Stream) (p : PacketExtent) → stream_after s p ≡ Ok t → t.conn ≡ s.conn
unfolding stream_after
after-conn s t p e = grind (arith, e)

held-more : (conn : ConnId) (i : ℕ) (c : ReplicaRecord) (s t : Stream) (x : ReplicaRecord) (e : PendingPacket) → Writes c.stream conn s → x.stream ≡ Some t → t.conn ≡ s.conn
    → x.pending ≡ c.pending ++ e ∷ [] → OneMore conn.0 i c (done x)
held-more conn i c s t x e w xs tc xp = record {
  most = rw xs (rw xp (rw w.is (rw tc (one-held (s.conn.0 == i) c.pending e))));
  others = λ ne. rw xs (rw tc (rw (ne_eqb s.conn.0 i (λ q. ne (sym q ∙ w.by))) (omega arith)));
}

extent-more : (conn : ConnId) (i : ℕ) (c : ReplicaRecord) (h : ReplicaInfo) (s : Stream) (p : PacketExtent) → Writes c.stream conn s → OneMore conn.0 i c (extent_transition c h s p)
unfolding extent_transition
extent-more conn i c h s p w = at (int_eq p.seqno (negsuc 0))
  where
    at : (b : Bool) → OneMore conn.0 i c (if b then heartbeat_of p >>= (λ e. done (enqueue c e)) else stream_after s p >>= (λ t. pending_of h.sums p h.written >>= (λ e. done (extend c h t e))))
    at true = bind-more conn.0 i c (heartbeat_of p) _ (λ e q. held-more conn i c s s (enqueue c e) e w w.is refl refl)
    at false = bind-more conn.0 i c (stream_after s p) _ (λ t q. bind-more conn.0 i c (pending_of h.sums p h.written) _ (λ e r. held-more conn i c s t (extend c h t e) e w refl (after-conn s t p q) refl))

packet-more : (i : ℕ) (c : ReplicaRecord) (conn : ConnId) (p : PacketExtent) → OneMore conn.0 i c (packet_transition c conn p)
packet-more i c conn p =
    bind-more conn.0 i c (present c) (λ h. check (is_writable (state_of h)) refusal.NotWriter (stream_by c.stream conn >>= (λ s. extent_transition c h s p)))
    (λ h q. check-more conn.0 i c (is_writable (state_of h)) refusal.NotWriter (stream_by c.stream conn >>= (λ s. extent_transition c h s p))
    (bind-more conn.0 i c (stream_by c.stream conn) (λ s. extent_transition c h s p) (λ s r. extent-more conn i c h s p (writes-of c.stream conn s r))))

transition-more : (i : ℕ) (c : ReplicaRecord) (conn : ConnId) (seqno offset : ℤ) (bytes sums : ℕ) (last sync : Bool) (bad : Option ℕ)
    → OneMore conn.0 i c (transition c (event.Packet conn seqno offset bytes sums last sync bad))
unfolding transition
transition-more i c conn seqno offset bytes sums last sync bad =
    packet-more i c conn (record { seqno = seqno; offset = offset; length = bytes; sums = sums; last = last; sync = sync; bad = bad })

pub packet-most : (i : ℕ) (c : ReplicaRecord) (conn : ConnId) (seqno offset : ℤ) (bytes sums : ℕ) (last sync : Bool) (bad : Option ℕ)
    → entries_by i (state_after c (event.Packet conn seqno offset bytes sums last sync bad)) ≤ entries_by i c + 3
packet-most i c conn seqno offset bytes sums last sync bad = (transition-more i c conn seqno offset bytes sums last sync bad).most

pub packet-others : (i : ℕ) (c : ReplicaRecord) (conn : ConnId) (seqno offset : ℤ) (bytes sums : ℕ) (last sync : Bool) (bad : Option ℕ) → (i ≡ conn.0 → ⊥)
    → entries_by i (state_after c (event.Packet conn seqno offset bytes sums last sync bad)) ≤ entries_by i c
packet-others i c conn seqno offset bytes sums last sync bad ne = (transition-more i c conn seqno offset bytes sums last sync bad).others ne

-- ACKS

-- an ack that is taken removes one
record Pays (n : ℕ) (c : ReplicaRecord) (o : Outcome) : Type 0 where
  is : (a : Taken) → o ≡ Ok a → entries_by n (record_after c o) + 3 ≤ entries_by n c

bind-pays : {A : Type 0} (n : ℕ) (c : ReplicaRecord) (o : Result A Refusal) (f : A → Outcome) → ((x : A) → o ≡ Ok x → Pays n c (f x)) → Pays n c (o >>= f)
bind-pays n c (Ok x) f h = h x refl
bind-pays n c (Err e) f h = record { is = λ a q. absurd (err-ok e a q) }

first-gone : (xs : List PendingPacket) (e : PendingPacket) → slice_get xs 0 ≡ Some e → 3 * length (drop 1 xs) + 3 ≤ 3 * length xs
first-gone [] e q = absurd (none-some e q)
first-gone (x ∷ xs) e q = omega arith

at-most : (b : Bool) (n : ℕ) → (if b then n else 0) ≤ n
at-most true n = omega arith
at-most false n = omega arith

oldest-is : (o : Option PendingPacket) (seqno : ℤ) (e : PendingPacket) → oldest_of o seqno ≡ Ok e → o ≡ Some e
oldest-is None seqno e q = absurd (err-ok (refusal.Seqno None seqno) e q)
oldest-is (Some x) seqno e q = let p = checked-is (int_eq x.seqno seqno) (refusal.Seqno (Some x.seqno) seqno) e x q in ap (λ (z : PendingPacket). Some z) p.1

acknowledge-pays : (conn : ConnId) (c : ReplicaRecord) (h : ReplicaInfo) (s : Stream) (e : PendingPacket) (good : Bool) → Writes c.stream conn s → slice_get c.pending 0 ≡ Some e
    → Pays conn.0 c (done (acknowledge c h e good))
acknowledge-pays conn c h s e good w q = record { is = λ a r. by-good good }
  where
    itself : (n : ℕ) → (n == n) ≡ true
    itself n = grind (arith, nat_tests)

    whole : entries_by conn.0 c ≡ 3 * length c.pending
    whole = rw w.is (rw w.by (rw (itself conn.0) refl))

    by-last : (b : Bool) (k : ReplicaInfo) → entries_by conn.0 (if b then set_writer c (close_stream k) None else record c { info = Some k; pending = drop 1 c.pending }) + 3 ≤ entries_by conn.0 c
    by-last true k = omega (arith, whole, first-gone c.pending e q)
    by-last false k = omega (arith, whole, first-gone c.pending e q, at-most (is_written_by c.stream (record { 0 = conn.0 })) (3 * length (drop 1 c.pending)))

    by-good : (b : Bool) → entries_by conn.0 (acknowledge c h e b) + 3 ≤ entries_by conn.0 c
    by-good true = by-last e.last (advance_acked h e.end)
    by-good false = omega (arith, whole, first-gone c.pending e q, at-most (is_written_by c.stream (record { 0 = conn.0 })) (3 * length (drop 1 c.pending)))

ack-transition : (c : ReplicaRecord) (conn : ConnId) (seqno : ℤ) (good : Bool) → Pays conn.0 c (transition c (event.Ack conn seqno good))
unfolding transition
ack-transition c conn seqno good =
    bind-pays conn.0 c (present c) (λ h. stream_by c.stream conn >>= (λ s. oldest_of (slice_get c.pending 0) seqno >>= (λ e. done (acknowledge c h e good))))
    (λ h p. bind-pays conn.0 c (stream_by c.stream conn) (λ s. oldest_of (slice_get c.pending 0) seqno >>= (λ e. done (acknowledge c h e good)))
    (λ s r. bind-pays conn.0 c (oldest_of (slice_get c.pending 0) seqno) (λ e. done (acknowledge c h e good))
    (λ e q. acknowledge-pays conn c h s e good (writes-of c.stream conn s r) (oldest-is (slice_get c.pending 0) seqno e q))))

pub ack-pays : (c : ReplicaRecord) (conn : ConnId) (seqno : ℤ) (good : Bool) → booked_as (answer_to c (event.Ack conn seqno good)) ≡ booked.Taken
    → entries_by conn.0 (state_after c (event.Ack conn seqno good)) + 3 ≤ entries_by conn.0 c
ack-pays c conn seqno good e = at (transition c (event.Ack conn seqno good)) (ack-transition c conn seqno good) e
  where
    at : (o : Outcome) → Pays conn.0 c o → booked_as (answer_of (reply o)) ≡ booked.Taken → entries_by conn.0 (record_after c o) + 3 ≤ entries_by conn.0 c
    at (Ok a) p q = p.is a refl
    at (Err x) p q = absurd (other q)
      where
        other : booked.Refused x ≡ booked.Taken → ⊥
        other z = cc

-- SETUPS

abbrev pub IsSetup : Event → Bool
IsSetup (event.Create conn stamp sums) = true
IsSetup (event.Append conn named new bytes) = true
IsSetup (event.AppendRecovery conn named new bytes) = true
IsSetup (event.StreamRecovery conn named new low high) = true
IsSetup (event.CloseRecovery named new bytes) = true
IsSetup _ = false

pub setup-calm : (i : ℕ) (c : ReplicaRecord) (e : Event) → IsSetup e ≡ true → entries_by i (state_after c e) ≤ entries_by i c
setup-calm i c (event.Create conn stamp sums) s = other-calm i c (event.Create conn stamp sums) refl
setup-calm i c (event.Append conn named new bytes) s = other-calm i c (event.Append conn named new bytes) refl
setup-calm i c (event.AppendRecovery conn named new bytes) s = other-calm i c (event.AppendRecovery conn named new bytes) refl
setup-calm i c (event.StreamRecovery conn named new low high) s = other-calm i c (event.StreamRecovery conn named new low high) refl
setup-calm i c (event.CloseRecovery named new bytes) s = other-calm i c (event.CloseRecovery named new bytes) refl
setup-calm i c (event.Temporary conn stamp sums) s = absurd (false≢true s)
setup-calm i c (event.Packet conn seqno offset bytes sums last sync bad) s = absurd (false≢true s)
setup-calm i c (event.Ack conn seqno good) s = absurd (false≢true s)
setup-calm i c (event.Ended conn) s = absurd (false≢true s)
setup-calm i c (event.Init named recovery) s = absurd (false≢true s)
setup-calm i c (event.Update recovery bytes) s = absurd (false≢true s)
setup-calm i c (event.Read named offset bytes) s = absurd (false≢true s)
setup-calm i c (event.Give named offset bytes) s = absurd (false≢true s)
setup-calm i c event.FileFault s = absurd (false≢true s)

-- behind a setup that is taken nothing is pending
record Clear (i : ℕ) (c : ReplicaRecord) (o : Outcome) : Type 0 where
  is : (a : Taken) → o ≡ Ok a → entries_by i (record_after c o) ≡ 0

zero-either : (b : Bool) → (if b then 3 * 0 else 0) ≡ 0
zero-either true = refl
zero-either false = refl

set-clear : (i : ℕ) (c : ReplicaRecord) (h : ReplicaInfo) (w : Option ConnId) → Clear i c (done (set_writer c h w))
set-clear i c h w = record { is = λ a e. zero-either (is_written_by (set_writer c h w).stream (record { 0 = i })) }

bind-clear : {A : Type 0} (i : ℕ) (c : ReplicaRecord) (o : Result A Refusal) (f : A → Outcome) → ((x : A) → Clear i c (f x)) → Clear i c (o >>= f)
bind-clear i c (Ok x) f h = h x
bind-clear i c (Err e) f h = record { is = λ a q. absurd (err-ok e a q) }

check-clear : (i : ℕ) (c : ReplicaRecord) (b : Bool) (x : Refusal) (o : Outcome) → Clear i c o → Clear i c (check b x o)
check-clear i c true x o h = h
check-clear i c false x o h = record { is = λ a q. absurd (err-ok x a q) }

present-clear : (i : ℕ) (c : ReplicaRecord) (w : Option ConnId) (g : ReplicaInfo → Result ReplicaInfo Refusal) → Clear i c (present c >>= (λ h. with_writer c w (g h)))
present-clear i c w g = bind-clear i c (present c) (λ h. with_writer c w (g h)) (λ h. bind-clear i c (g h) (λ x. done (set_writer c x w)) (λ x. set-clear i c x w))

new-clear : (i : ℕ) (c : ReplicaRecord) (original : ReplicaState) (conn : ConnId) (stamp : Stamp) (sums : Rule) → Clear i c (new_transition c original conn stamp sums)
new-clear i c original conn stamp sums =
    let o : Outcome = done (set_writer c (settled_at original stamp sums 0) (Some conn)) in
    check-clear i c (not c.is_broken) refusal.Broken (check (is_none c.info) refusal.Exists o)
    (check-clear i c (is_none c.info) refusal.Exists o (set-clear i c (settled_at original stamp sums 0) (Some conn)))

transition-clear : (i : ℕ) (c : ReplicaRecord) (e : Event) → IsSetup e ≡ true → Clear i c (transition c e)
unfolding transition
transition-clear i c (event.Create conn stamp sums) s = new-clear i c state.Rbw conn stamp sums
transition-clear i c (event.Append conn named new bytes) s = present-clear i c (Some conn) (λ h. reopen h named new bytes)
transition-clear i c (event.AppendRecovery conn named new bytes) s = present-clear i c (Some conn) (λ h. recover_setup h named new bytes state.Rbw)
transition-clear i c (event.StreamRecovery conn named new low high) s = present-clear i c (Some conn) (λ h. recover_stream h named new low high)
transition-clear i c (event.CloseRecovery named new bytes) s = present-clear i c None (λ h. recover_setup h named new bytes state.Finalized)
transition-clear i c (event.Temporary conn stamp sums) s = absurd (false≢true s)
transition-clear i c (event.Packet conn seqno offset bytes sums last sync bad) s = absurd (false≢true s)
transition-clear i c (event.Ack conn seqno good) s = absurd (false≢true s)
transition-clear i c (event.Ended conn) s = absurd (false≢true s)
transition-clear i c (event.Init named recovery) s = absurd (false≢true s)
transition-clear i c (event.Update recovery bytes) s = absurd (false≢true s)
transition-clear i c (event.Read named offset bytes) s = absurd (false≢true s)
transition-clear i c (event.Give named offset bytes) s = absurd (false≢true s)
transition-clear i c event.FileFault s = absurd (false≢true s)

pub setup-none : (i : ℕ) (c : ReplicaRecord) (e : Event) → IsSetup e ≡ true → refused_by (answer_to c e) ≡ None → entries_by i (state_after c e) ≡ 0
setup-none i c e s q = at (transition c e) (transition-clear i c e s) q
  where
    at : (o : Outcome) → Clear i c o → refused_by (answer_of (reply o)) ≡ None → entries_by i (record_after c o) ≡ 0
    at (Ok a) h z = h.is a refl
    at (Err x) h z = absurd (none-some (request_refusal.Core x) (sym z))
