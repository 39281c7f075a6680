-- A replica that grows isn't broken, and the packet that makes it grow changes its files; a broken one stays as it is.
use Rattle.std.proofs.Common.{◌≡◌, ℕ, ◌<◌, ◌≤◌, ◌+◌, Bool, true, false, not, List, [], ◌++◌, length, take, Option, Some, None, Ok, Err, refl, sym, ◌∙◌, ap, arith, length-append}
use Rattle.std.specs.Prelude.{nat_lt}
use Rattle.std.proofs.lemmas.Bool.{false≢true}
use Rattle.std.proofs.lemmas.Bool.Decides.{nat_tests}
use Rattle.std.proofs.lemmas.Option.{none-some}
use Rattle.std.proofs.lemmas.List.{length-take}
use Rattle.std.proofs.Math.Seq.{take-append_seam}
use Rattle.hd_base.specs.declared.states.ReplicaState.{ReplicaState}
use Rattle.hd_base.specs.declared.states.ReplicaState.TheVariants as state
use Rattle.hd_base.specs.declared.numbers.ConnId.{ConnId}
use Rattle.hd_base.specs.declared.numbers.Stamp.{Stamp}
use Rattle.hd_base.specs.SumRules.{Rule}
use Rattle.hd_base.specs.Results.{◌>>=◌}
use Rattle.packet_codec.specs.declared.packets.Packet.{Packet}
use Rattle.replica_core.specs.declared.records.ReplicaRecord.{ReplicaRecord}
use Rattle.replica_core.specs.declared.events.Event.{Event}
use Rattle.replica_core.specs.declared.events.Event.TheVariants as event
use Rattle.replica_core.specs.declared.info.ReplicaInfo.{ReplicaInfo}
use Rattle.replica_core.specs.declared.refusals.Refusal.TheVariants as refusal
use Rattle.replica_core.specs.Transitions.{new_transition, Outcome, record_after, present, is_written_by, transition, state_after}
use Rattle.replica_core.specs.Views.{written_in, written_at, rule_in}
use Rattle.replica_core.proofs.StepLemmas.{after_check, after_step, choice}
use Rattle.replica_core.proofs.InfoLemmas.{present_is}
use Rattle.replica_model.specs.declared.events.ReplicaEvent.{ReplicaEvent}
use Rattle.replica_model.specs.declared.events.ReplicaEvent.TheVariants as replica_event
use Rattle.replica_model.specs.Plans.{plan, has_changing, taken_calls, outcome_calls}
use Rattle.replica_model.specs.Rows.{FullReplica, IsFull, row, broken, record_event, event_at, brought}
use Rattle.member_core.specs.Steps.{replica_after}

-- BROKEN REPLICAS

-- it holds the same
abbrev Same : ReplicaRecord → ReplicaRecord → Type 0
Same c d = d.info ≡ c.info

two-ways : (b : Bool) → b ≡ true → b ≡ false → ⊥
two-ways b t f = false≢true (sym f ∙ t)

not-broken : (b : Bool) → b ≡ true → not b ≡ true → ⊥
not-broken true h e = false≢true e
not-broken false h e = false≢true h

same-there : (c : ReplicaRecord) (next : ReplicaInfo → Outcome) → c.is_broken ≡ true → Same c (record_after c (present c >>= next))
same-there c next h = after_step (Same c) c (present c) next refl (λ i e. absurd (two-ways c.is_broken h (present_is c i e).0))

same-new : (c : ReplicaRecord) (at : ReplicaState) (conn : ConnId) (t : Stamp) (r : Rule) → c.is_broken ≡ true → Same c (record_after c (new_transition c at conn t r))
same-new c at conn t r h = after_check (Same c) c (not c.is_broken) refusal.Broken _ refl (λ e. absurd (not-broken c.is_broken h e))

event-same : (c : ReplicaRecord) (e : Event) → c.is_broken ≡ true → Same c (state_after c e)
unfolding transition
event-same c (event.Create conn t r) h = same-new c state.Rbw conn t r h
event-same c (event.Temporary conn t r) h = same-new c state.Temporary conn t r h
event-same c (event.Append conn named new n) h = same-there c _ h
event-same c (event.AppendRecovery conn named new n) h = same-there c _ h
event-same c (event.StreamRecovery conn named new low high) h = same-there c _ h
event-same c (event.CloseRecovery named new n) h = same-there c _ h
event-same c (event.Packet conn seqno offset n sums last sync bad) h = same-there c _ h
event-same c (event.Ack conn seqno good) h = same-there c _ h
event-same c (event.Ended conn) h = choice (Same c) (is_written_by c.stream conn) _ _ (λ _. refl) (λ _. refl)
event-same c (event.Init named id) h = same-there c _ h
event-same c (event.Update id n) h = same-there c _ h
event-same c (event.Read named offset n) h = same-there c _ h
event-same c (event.Give named offset n) h = same-there c _ h
event-same c event.FileFault h = refl

-- where it holds the same, it has the same bytes
same-bytes : (r : FullReplica) (d : ReplicaRecord) (more : List ℕ) → IsFull r → Same r.known d → take (written_in d) (r.bytes ++ more) ≡ r.bytes
same-bytes r d more f e =
    let n : written_in d ≡ length r.bytes = ap written_at e ∙ sym f.all in
    ap (λ k. take k (r.bytes ++ more)) n ∙ take-append_seam r.bytes more

-- a broken replica holds the same after every event, and has the same bytes
pub row-same : (r : FullReplica) (e : ReplicaEvent) → IsFull r → r.known.is_broken ≡ true → ((row r e).known.info ≡ r.known.info) × ((row r e).bytes ≡ r.bytes)
row-same r e f h =
    let same = event-same r.known (event_at r e) h in
    (same, same-bytes r (state_after r.known (event_at r e)) (brought (length r.bytes) e) f same)

-- so does one that breaks
pub broken-same : (r : FullReplica) → IsFull r → ((broken r).known.info ≡ r.known.info) × ((broken r).bytes ≡ r.bytes)
unfolding transition
broken-same r f = (refl, same-bytes r (broken r).known [] f refl)

pub broken-is : (r : FullReplica) → (broken r).known.is_broken ≡ true
unfolding transition
broken-is r = refl

-- REPLICAS THAT GROW

-- The replica is there, and isn't broken, and the event changes its files and leaves it there.
pub record Grown (r : FullReplica) (e : ReplicaEvent) : Type 0 where
  pub whole : r.known.is_broken ≡ false
  pub before : ReplicaInfo
  pub was : r.known.info ≡ Some before
  pub after : ReplicaInfo
  pub is : (row r e).known.info ≡ Some after
  pub changing : has_changing (plan r e) ≡ true

-- the bytes of a row are no more than the record says, nor than there were and came
row-few : (r : FullReplica) (e : ReplicaEvent) → (length (row r e).bytes ≤ written_in (row r e).known) × (length (row r e).bytes ≤ length r.bytes + length (brought (length r.bytes) e))
row-few r e =
    let n = written_in (row r e).known in
    let all = r.bytes ++ brought (length r.bytes) e in
    (omega (arith, length-take n all), omega (arith, length-take n all, length-append r.bytes (brought (length r.bytes) e)))

-- one that holds the same doesn't grow
not-grown : (r : FullReplica) (e : ReplicaEvent) → IsFull r → Same r.known (row r e).known → length r.bytes < length (row r e).bytes → ⊥
not-grown r e f same more =
    let n : written_in (row r e).known ≡ length r.bytes = ap written_at same ∙ sym f.all in
    omega (arith, n, (row-few r e).0, more)

-- an absent one neither
there-after : (r : FullReplica) (e : ReplicaEvent) → length r.bytes < length (row r e).bytes → (o : Option ReplicaInfo) → (row r e).known.info ≡ o → (k : ReplicaInfo) × (o ≡ Some k)
there-after r e more None is =
    let n : written_in (row r e).known ≡ 0 = ap written_at is in
    absurd (omega (arith, n, (row-few r e).0, more))
there-after r e more (Some k) is = (k, refl)

-- a packet at what is absent
packet-nowhere : (c : ReplicaRecord) (next : ReplicaInfo → Outcome) → c.info ≡ None → Same c (record_after c (present c >>= next))
packet-nowhere c next gone = after_step (Same c) c (present c) next refl (λ i e. absurd (none-some i (sym gone ∙ (present_is c i e).1)))

packet-same : (c : ReplicaRecord) (rule : Option Rule) (conn : ConnId) (p : Packet) → c.info ≡ None → Same c (state_after c (record_event rule (replica_event.Packet conn p)))
unfolding transition
packet-same c rule conn p gone = packet-nowhere c _ gone

-- bytes that a packet brings are written
packet-writes : (conn : ConnId) (p : Packet) (h : ReplicaInfo) (k : Option ReplicaInfo) (after : ReplicaInfo) (bytes : List ℕ) → k ≡ Some after → 0 < length (brought (length bytes) (replica_event.Packet conn p)) → has_changing (taken_calls (replica_event.Packet conn p) (Some h) k bytes) ≡ true
packet-writes conn p h k after bytes is some =
    let test : nat_lt 0 (length (brought (length bytes) (replica_event.Packet conn p))) ≡ true = grind (arith, nat_tests) in
    rw (is, test) refl

-- a packet that was taken, and brought bytes
outcome-writes : (c : ReplicaRecord) (conn : ConnId) (p : Packet) (h after : ReplicaInfo) (bytes : List ℕ) (o : Outcome) → c.info ≡ Some h → (record_after c o).info ≡ Some after → (record_after c o ≡ c → ⊥) → 0 < length (brought (length bytes) (replica_event.Packet conn p)) → has_changing (outcome_calls (replica_event.Packet conn p) c.info bytes o) ≡ true
outcome-writes c conn p h after bytes (Err e) was is other some = absurd (other refl)
outcome-writes c conn p h after bytes (Ok t) was is other some = rw was (packet-writes conn p h t.replica.info after bytes is some)

packet-grown : (r : FullReplica) (conn : ConnId) (p : Packet) → IsFull r → length r.bytes < length (row r (replica_event.Packet conn p)).bytes → Grown r (replica_event.Packet conn p)
packet-grown r conn p f more = record {
  whole = whole r.known.is_broken refl;
  before = (there r.known.info refl).0;
  was = (there r.known.info refl).1;
  after = later.0;
  is = later.1;
  changing = outcome-writes r.known conn p (there r.known.info refl).0 later.0 r.bytes (transition r.known (event_at r e)) (there r.known.info refl).1 later.1
      (λ same. not-grown r e f (ap (λ (c : ReplicaRecord). c.info) same) more) (omega (arith, (row-few r e).1, more));
}
  where
    e : ReplicaEvent
    e = replica_event.Packet conn p

    later : (k : ReplicaInfo) × ((row r e).known.info ≡ Some k)
    later = there-after r e more (row r e).known.info refl

    whole : (b : Bool) → r.known.is_broken ≡ b → b ≡ false
    whole true h = absurd (not-grown r e f (row-same r e f h).0 more)
    whole false h = refl

    there : (o : Option ReplicaInfo) → r.known.info ≡ o → (k : ReplicaInfo) × (o ≡ Some k)
    there None gone = absurd (not-grown r e f (packet-same r.known (rule_in r.known) conn p gone) more)
    there (Some k) is = (k, refl)

-- A replica that an event makes grow.
pub row-grown : (r : FullReplica) (e : ReplicaEvent) → IsFull r → length r.bytes < length (row r e).bytes → Grown r e
row-grown r (replica_event.Packet conn p) f more = packet-grown r conn p f more
row-grown r (replica_event.Other x) f more = absurd (omega (arith, (row-few r (replica_event.Other x)).1, more))

-- the same of a call that a turn may have
pub call-grown : (r : FullReplica) (o : Option ReplicaEvent) → IsFull r → length r.bytes < length (replica_after r o).bytes → (e : ReplicaEvent) × (o ≡ Some e) × Grown r e
call-grown r None f more = absurd (omega (arith, more))
call-grown r (Some e) f more = (e, refl, row-grown r e f more)
