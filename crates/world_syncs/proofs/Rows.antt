-- What packets, acks and reads make of a replica.
use Rattle.std.proofs.Common.{◌≡◌, ℕ, ℤ, ◌≤◌, ◌+◌, true, false, List, [], ◌∷◌, ◌++◌, length, take, take_all, append-nil, slice_get, Option, Some, None, IfSome, Ok, Err, refl, sym, ◌∙◌, ap, subst, arith}
use Rattle.std.specs.Prelude.{max, nat_abs, negsuc, option_map}
use Rattle.std.proofs.lemmas.Option.{same_Some}
use Rattle.std.specs.Result.{IfOk}
use Rattle.std.specs.Ordering.{int_eq}
use Rattle.std.proofs.lemmas.Bool.{false≢true}
use Rattle.std.proofs.lemmas.Bool.Decides.{nat_tests}
use Rattle.hd_base.specs.Results.{◌>>=◌}
use Rattle.hd_base.specs.SumRules.{Rule}
use Rattle.hd_base.specs.declared.numbers.ConnId.{ConnId}
use Rattle.hd_base.specs.declared.numbers.Stamp.{Stamp}
use Rattle.hd_base.specs.declared.states.ReplicaState.{ReplicaState}
use Rattle.hd_base.specs.declared.states.ReplicaState.TheVariants as state
use Rattle.replica_core.specs.declared.ack_queue.PendingPacket.{PendingPacket}
use Rattle.replica_core.specs.declared.events.Answer.TheVariants as answer
use Rattle.replica_core.specs.declared.events.Event.{Event}
use Rattle.replica_core.specs.declared.events.Event.TheVariants as event
use Rattle.replica_core.specs.declared.extents.PacketExtent.{PacketExtent}
use Rattle.replica_core.specs.declared.info.ReplicaInfo.{ReplicaInfo}
use Rattle.replica_core.specs.declared.records.ReplicaRecord.{ReplicaRecord}
use Rattle.replica_core.specs.declared.refusals.Refusal.{Refusal}
use Rattle.replica_core.specs.declared.refusals.Refusal.TheVariants as refusal
use Rattle.replica_core.specs.declared.streams.Stream.{Stream}
use Rattle.replica_core.specs.Extents.{stream_after, pending_of, start_of, place_check, packet_at}
use Rattle.replica_core.specs.Info.{is_writable, state_of, state_under, readable, visible_of, advance_acked, close_stream}
use Rattle.replica_core.specs.Transitions.{Outcome, Taken, transition, present, packet_transition, ack_transition, extent_transition, acknowledge, oldest_of, stream_by, record_after, state_after}
use Rattle.replica_core.specs.Views.{written_in, written_at, state_in}
use Rattle.replica_core.proofs.InfoLemmas.{present_is, stream_by_is, oldest_is}
use Rattle.replica_core.proofs.StepLemmas.{if_check, if_step, step_ok, choice, after_step}
use Rattle.replica_model.specs.declared.events.ReplicaEvent.TheVariants as replica_event
use Rattle.replica_model.specs.Rows.{FullReplica, IsFull, row}
use Rattle.replica_core.specs.Sound.{Sound, IsConsistent, IsWritable}
use Rattle.replica_core.specs.Transitions.{answer_of, reply}
use Rattle.member_core.specs.declared.turns.Booked.TheVariants as booked
use Rattle.member_core.specs.Steps.{booked_as, outcome_of}
use Rattle.world_laws.specs.Joining.{IsPlain}
use Rattle.world_acks.specs.Acking.{Shown}

-- PACKETS

starts : (p : PacketExtent) (offset : ℕ) → start_of p ≡ Ok offset → offset ≡ nat_abs p.offset
unfolding start_of
starts p offset e = grind (arith, nat_tests)

packs : (r : Rule) (p : PacketExtent) (offset : ℕ) (e : PendingPacket) → packet_at r p offset ≡ Ok e → (e.seqno ≡ p.seqno) × (e.end ≡ offset + p.length)
unfolding packet_at
packs r p offset e q = grind (arith, nat_tests)

-- what is pending of a packet
pending-is : (r : Rule) (p : PacketExtent) (w : ℕ) (e : PendingPacket) → pending_of r p w ≡ Ok e → (e.seqno ≡ p.seqno) × (e.end ≡ nat_abs p.offset + p.length)
pending-is r p w e q = outer (step_ok (start_of p) (λ offset. place_check p w offset >>= (λ _. packet_at r p offset)) e q)
  where
    outer : (offset : ℕ) × (start_of p ≡ Ok offset) × ((place_check p w offset >>= (λ _. packet_at r p offset)) ≡ Ok e) → (e.seqno ≡ p.seqno) × (e.end ≡ nat_abs p.offset + p.length)
    outer x = inner x.0 x.1 (step_ok (place_check p w x.0) (λ _. packet_at r p x.0) e x.2)
      where
        inner : (offset : ℕ) → start_of p ≡ Ok offset → (y : Unit {0}) × (place_check p w offset ≡ Ok y) × (packet_at r p offset ≡ Ok e) → (e.seqno ≡ p.seqno) × (e.end ≡ nat_abs p.offset + p.length)
        inner offset a b = let z = packs r p offset e b.2 in (z.0, z.1 ∙ ap (λ (n : ℕ). n + p.length) (starts p offset a))

-- a packet that was taken is pending behind the others
pub record Adds (c : ReplicaRecord) (conn : ConnId) (q : PacketExtent) (t : Taken) : Type 0 where
  pub entry : PendingPacket
  pub pending : t.replica.pending ≡ c.pending ++ entry ∷ []
  pub number : entry.seqno ≡ q.seqno
  pub end : entry.end ≡ nat_abs q.offset + q.length
  pub done : t.answer ≡ answer.Done
  pub info : ReplicaInfo
  pub was : c.info ≡ Some info
  pub after : ReplicaInfo
  pub is : t.replica.info ≡ Some after
  pub stamp : after.stamp ≡ info.stamp
  pub stream : Stream
  pub writes : c.stream ≡ Some stream
  pub by : stream.conn.0 ≡ conn.0

pub packet-adds : (c : ReplicaRecord) (conn : ConnId) (q : PacketExtent) → int_eq q.seqno (negsuc 0) ≡ false → IfOk (packet_transition c conn q) (Adds c conn q)
unfolding extent_transition
packet-adds c conn q n =
    if_step (Adds c conn q) (present c) _ (λ i there.
    if_check (Adds c conn q) (is_writable (state_of i)) refusal.NotWriter _ (λ _.
    if_step (Adds c conn q) (stream_by c.stream conn) _ (λ s by.
    choice (λ (o : Outcome). IfOk o (Adds c conn q)) (int_eq q.seqno (negsuc 0)) _ _
    (λ e. absurd (false≢true (sym n ∙ e)))
    (λ _. if_step (Adds c conn q) (stream_after s q) _ (λ t _. if_step (Adds c conn q) (pending_of i.sums q i.written) _ (λ e pend.
    let z = pending-is i.sums q i.written e pend in
    let b = stream_by_is c.stream conn s by in
    record { entry = e; pending = refl; number = z.0; end = z.1; done = refl; info = i; was = (present_is c i there).1; after = _; is = refl; stamp = refl; stream = s; writes = b.0; by = b.1 }))))))

-- ACKS

none-of : (o : Option Stamp) (s : ReplicaState) → is_writable (state_under o s) ≡ true → o ≡ None
none-of None s e = refl
none-of (Some id) s e = absurd (false≢true e)

rbw-of : (o : Option Stamp) (s : ReplicaState) → is_writable (state_under o s) ≡ true → (s ≡ state.Temporary → ⊥) → s ≡ state.Rbw
rbw-of (Some id) s e l = absurd (false≢true e)
rbw-of None state.Rbw e l = refl
rbw-of None state.Temporary e l = absurd (l refl)
rbw-of None state.Finalized e l = absurd (false≢true e)
rbw-of None state.Rwr e l = absurd (false≢true e)
rbw-of None state.Rur e l = absurd (false≢true e)

-- what a good ack leaves: the packet was the oldest one, and what it ends is visible
pub record AckShows (c : ReplicaRecord) (conn : ConnId) (seqno : ℤ) (d : ReplicaRecord) : Type 0 where
  pub entry : PendingPacket
  pub oldest : slice_get c.pending 0 ≡ Some entry
  pub info : ReplicaInfo
  pub was : c.info ≡ Some info
  pub stream : Stream
  pub writes : c.stream ≡ Some stream
  pub by : stream.conn.0 ≡ conn.0
  pub after : ReplicaInfo
  pub is : d.info ≡ Some after
  pub stamp : after.stamp ≡ info.stamp
  pub visible : ℕ
  pub sees : visible_of after ≡ Some visible
  pub enough : IsConsistent after → entry.end ≤ visible
  pub within : IsConsistent after → visible ≤ after.written

record Shows (d : ReplicaRecord) (i : ReplicaInfo) (p : PendingPacket) : Type 0 where
  pub after : ReplicaInfo
  pub is : d.info ≡ Some after
  pub stamp : after.stamp ≡ i.stamp
  pub visible : ℕ
  pub sees : visible_of after ≡ Some visible
  pub enough : IsConsistent after → p.end ≤ visible
  pub within : IsConsistent after → visible ≤ after.written

acknowledged : (c : ReplicaRecord) (i : ReplicaInfo) (p : PendingPacket) → i.original ≡ state.Rbw → Shows (acknowledge c i p true) i p
acknowledged c i p e =
    choice (λ (d : ReplicaRecord). Shows d i p) p.last _ _
    (λ _. record {
      after = close_stream (advance_acked i p.end);
      is = refl;
      stamp = refl;
      visible = i.written;
      sees = subst (λ (s : ReplicaState). visible_of (close_stream (record (advance_acked i p.end) { original = s })) ≡ Some i.written) (sym e) refl;
      enough = λ h. omega (arith, h.acked);
      within = λ h. omega arith;
    })
    (λ q. record {
      after = advance_acked i p.end;
      is = refl;
      stamp = refl;
      visible = max i.acked p.end;
      sees = subst (λ (s : ReplicaState). visible_of (record (advance_acked i p.end) { original = s }) ≡ Some (max i.acked p.end)) (sym e) refl;
      enough = λ h. omega arith;
      within = λ h. omega (arith, h.acked);
    })

writable-at : (c : ReplicaRecord) (i : ReplicaInfo) (s : Stream) → Sound c → c.info ≡ Some i → c.stream ≡ Some s → is_writable (state_of i) ≡ true
writable-at c i s h is by =
    same_Some (is_writable (state_of i)) true (subst (λ (o : Option ReplicaInfo). IsWritable (option_map state_of o)) is (subst (λ (o : Option Stream). IfSome o (λ _. IsWritable (state_in c))) by h.writing))

pub ack-shows : (c : ReplicaRecord) (conn : ConnId) (seqno : ℤ) → Sound c → IfSome c.info IsPlain → IfOk (ack_transition c conn seqno true) (λ t. AckShows c conn seqno t.replica)
ack-shows c conn seqno sound plain =
    if_step (λ t. AckShows c conn seqno t.replica) (present c) _ (λ i there.
    if_step (λ t. AckShows c conn seqno t.replica) (stream_by c.stream conn) _ (λ s by.
    if_step (λ t. AckShows c conn seqno t.replica) (oldest_of (slice_get c.pending 0) seqno) _ (λ e old.
    go i s e (present_is c i there).1 (stream_by_is c.stream conn s by).0 (stream_by_is c.stream conn s by).1 (oldest_is (slice_get c.pending 0) seqno e old))))
  where
    go : (i : ReplicaInfo) (s : Stream) (e : PendingPacket) → c.info ≡ Some i → c.stream ≡ Some s → s.conn.0 ≡ conn.0 → slice_get c.pending 0 ≡ Some e → AckShows c conn seqno (acknowledge c i e true)
    go i s e is writes by old =
        let x = acknowledged c i e (rbw-of i.recovery i.original (writable-at c i s sound is writes) (subst (λ (o : Option ReplicaInfo). IfSome o IsPlain) is plain).lasting) in
        record { entry = e; oldest = old; info = i; was = is; stream = s; writes = writes; by = by; after = x.after; is = x.is; stamp = x.stamp; visible = x.visible; sees = x.sees; enough = x.enough; within = x.within }

-- a book call that was taken
ok-of : (o : Outcome) → booked_as (answer_of (reply o)) ≡ booked.Taken → (x : Taken) × (o ≡ Ok x)
ok-of (Ok x) e = (x, refl)
ok-of (Err f) e = absurd (refused e)
  where
    refused : booked.Refused f ≡ booked.Taken → ⊥
    refused q = cc

pub taken-as : (P : Taken → Type 0) (c : ReplicaRecord) (o : Outcome) → booked_as (answer_of (reply o)) ≡ booked.Taken → IfOk o P → (x : Taken) × P x × (record_after c o ≡ x.replica) × (answer_of (reply o) ≡ x.answer)
taken-as P c (Ok x) e h = (x, h, refl, refl)
taken-as P c (Err f) e h = absurd (absurd-of f (ok-of (Err f) e))
  where
    absurd-of : (f : Refusal) → (x : Taken) × (Err f ≡ Ok x) → ⊥
    absurd-of f y = absurd (apart f y.0 y.1)
      where
        apart : (f : Refusal) (x : Taken) → ◌≡◌ {A = Outcome} (Err f) (Ok x) → ⊥
        apart f x q = cc

-- what a good ack was taken of is shown
pub good-shown : (r : FullReplica) (conn : ConnId) (seqno : ℤ) → IsFull r → IfSome r.known.info IsPlain → IsFull (row r (replica_event.Other (event.Ack conn seqno true))) → outcome_of r (Some (replica_event.Other (event.Ack conn seqno true))) ≡ booked.Taken
    → (x : AckShows r.known conn seqno (row r (replica_event.Other (event.Ack conn seqno true))).known) × Shown (row r (replica_event.Other (event.Ack conn seqno true))) x.info.stamp.0 x.entry.end (row r (replica_event.Other (event.Ack conn seqno true))).bytes
unfolding transition
good-shown r conn seqno full plain after taken =
    let y = taken-as (λ t. AckShows r.known conn seqno t.replica) r.known (transition r.known (event.Ack conn seqno true)) taken (ack-shows r.known conn seqno full.sound plain) in
    let x : AckShows r.known conn seqno (row r (replica_event.Other (event.Ack conn seqno true))).known = subst (λ (d : ReplicaRecord). AckShows r.known conn seqno d) (sym y.2) y.1 in
    let good : IsConsistent x.after = subst (λ (o : Option ReplicaInfo). IfSome o IsConsistent) x.is after.sound.info in
    let long = after.all ∙ ap (λ (o : Option ReplicaInfo). written_at o) x.is in (
      x,
      record {
        info = x.after;
        is = x.is;
        least = omega (arith, ap (λ (s : Stamp). s.0) x.stamp);
        visible = x.visible;
        sees = x.sees;
        enough = x.enough good;
        bytes = refl;
        within = omega (arith, x.enough good, x.within good, long);
      },
    )

-- READS

-- an event that leaves the record leaves all
pub row-same : (r : FullReplica) (e : Event) → IsFull r → state_after r.known e ≡ r.known → row r (replica_event.Other e) ≡ r
row-same r e f q = ap (λ (d : ReplicaRecord). record { known = d; bytes = take (written_in d) (r.bytes ++ []) }) q ∙ ap (λ (bytes : List ℕ). record { known = r.known; bytes = bytes }) (whole (written_in r.known) r.bytes f.all)
  where
    whole : (n : ℕ) (v : List ℕ) → length v ≡ n → take n (v ++ []) ≡ v
    whole n v z = ap (λ (xs : List ℕ). take n xs) (append-nil v) ∙ take_all n v (omega (arith, z))

pub read-same : (c : ReplicaRecord) (named : Stamp) (offset n : ℕ) → state_after c (event.Read named offset n) ≡ c
unfolding transition
read-same c named offset n =
    after_step (λ d. d ≡ c) c (present c) _ refl (λ i _. after_step (λ d. d ≡ c) c (readable i (visible_of i) named offset n) _ refl (λ _ _. refl))
