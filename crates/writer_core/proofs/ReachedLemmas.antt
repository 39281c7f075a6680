-- A flush, a sync or a close is answered only with bytes that are acked.
use Rattle.std.proofs.Common.{ℕ, ℤ, pos, ◌≡◌, ◌==◌, ◌≤◌, ◌<◌, ◌+◌, ◌-◌, max, nat_le, nat_lt, ◌&&◌, Bool, true, false, List, [], ◌∷◌, ◌++◌, length, drop, slice_get, Option, Some, None, Result, Ok, Err, if◌then◌else◌, refl, subst, sym, ap, arith}
use Rattle.std.specs.Prelude.{int_lt, is_some}
use Rattle.std.specs.Option.{IfSome}
use Rattle.std.proofs.lemmas.Bool.Decides.{nat_tests}
use Rattle.std.proofs.lemmas.List.{length-take}
use Rattle.hd_base.specs.declared.numbers.BlockId.{BlockId}
use Rattle.hd_base.specs.declared.numbers.NodeId.{NodeId}
use Rattle.hd_base.specs.declared.numbers.Stamp.{Stamp}
use Rattle.hd_base.specs.SumRules.{Rule, IsChunkSize}
use Rattle.ack_codec.specs.declared.acks.Ack.{Ack}
use Rattle.ack_codec.specs.declared.responses.Response.{Response}
use Rattle.name_core.specs.declared.calls.OfficeAnswer.{OfficeAnswer}
use Rattle.name_core.specs.declared.calls.OfficeAnswer.TheVariants as office
use Rattle.name_core.specs.declared.calls.Reopened.{Reopened}
use Rattle.name_core.specs.declared.faults.OfficeFault.{OfficeFault}
use Rattle.name_core.specs.declared.faults.OfficeFault.TheVariants as fault
use Rattle.name_core.specs.declared.records.TheConstants.{MAX_APPEND_LENGTH}
use Rattle.packet_codec.specs.declared.packets.Packet.{Packet}
use Rattle.packet_stream.specs.declared.stream.TheConstants.{MAX_UNACKED}
use Rattle.packet_stream.specs.Extents.{greatest_end}
use Rattle.packet_stream.specs.Streams.{StreamState, IsStream, start_in, written_in, packet_end, begun, with_bytes, fill_bytes, next_packet, formed, sync_packet, sync_formed, last_packet, last_formed, acked_packet, is_last, oldest_seqno}
use Rattle.packet_stream.proofs.StreamLemmas.{next_start_near, formed_written}
use Rattle.writer_core.specs.declared.actions.Action.TheVariants as action
use Rattle.writer_core.specs.declared.actions.ClientAnswer.TheVariants as answer
use Rattle.writer_core.specs.declared.commands.Command.{Command}
use Rattle.writer_core.specs.declared.commands.Command.TheVariants as command
use Rattle.writer_core.specs.declared.commands.CommandFault.{CommandFault}
use Rattle.writer_core.specs.declared.intake.Intake.{Intake}
use Rattle.writer_core.specs.declared.phases.DuePacket.{DuePacket}
use Rattle.writer_core.specs.declared.phases.DuePacket.TheVariants as due
use Rattle.writer_core.specs.declared.phases.Failure.{Failure}
use Rattle.writer_core.specs.declared.phases.Failure.TheVariants as failure
use Rattle.writer_core.specs.declared.phases.Phase.{Phase}
use Rattle.writer_core.specs.declared.phases.Phase.TheVariants as phase
use Rattle.writer_core.specs.declared.phases.Remedy.{Remedy}
use Rattle.writer_core.specs.declared.phases.Remedy.TheVariants as remedy
use Rattle.writer_core.specs.declared.phases.Setup.{Setup}
use Rattle.writer_core.specs.declared.phases.Setup.TheVariants as setup
use Rattle.writer_core.specs.declared.phases.SyncPacket.TheVariants as sync
use Rattle.writer_core.specs.declared.phases.Verdict.{Verdict}
use Rattle.writer_core.specs.declared.phases.Verdict.TheVariants as verdict
use Rattle.writer_core.specs.declared.phases.Waiting.{Waiting}
use Rattle.writer_core.specs.declared.phases.Waiting.TheVariants as waiting
use Rattle.writer_core.specs.declared.records.WriterRecord.{WriterRecord}
use Rattle.writer_core.specs.Commands.{admitted}
use Rattle.writer_core.specs.Phases.{remedy_after, remedy_accepted, remedy_in, remedy_at_ack, is_success, ack_verdict, bad_place, without}
use Rattle.writer_core.specs.Transitions.{ordinal, wrote, taken_as, take_first, free_step_as, free_step, failure_answer, failed_command, failed_first, failed_step_as, dial_step_as, accepted_step, reached, is_flushing, ends_sync, empty_due, due_in, due_now, sync_formed_as, form_step, is_acked, reached_length, reach_step_as, due_step, stream_step_as, step_in, own_step, dropped, fail_named, fail_at, ended_as, ended, phase_acked, acked_oldest, acked_as, acked_in, acked, setup_answered_in, setup_answered, dialled_in, dialled, refused, begin_session, stamped, reopened, stamp_given, committed_as, commit_given, complete_given, granted_in, asks, granted_as, granted, fresh, given_as, given}
use Rattle.writer_core.specs.Sound.{Sound, syncs_due}
use Rattle.writer_core.specs.Laws.{Move, Gives, Steps, Grants, Dials, Answers, Acks, Ends, after_move, after_moves, IsReached, AnsweredIsAcked}
use Rattle.writer_core.proofs.DueLemmas.{choice, IsDueNow, due_now_is}
use Rattle.writer_core.proofs.SoundLemmas.{fresh_sound, given_sound, own_step_sound, granted_sound, dialled_sound, setup_sound, acked_sound, ended_sound}

-- ---- the packets that aren't acked

-- none of them is the last one
abbrev NoLast : List Packet → Type 0
NoLast [] = Unit {0}
NoLast (p ∷ ps) = (p.last ≡ false) × NoLast ps

no_last_append : (ps : List Packet) (p : Packet) → NoLast ps → p.last ≡ false → NoLast (ps ++ p ∷ [])
no_last_append [] p h e = (e, tt)
no_last_append (x ∷ xs) p h e = (h.0, no_last_append xs p h.1 e)

no_last_drop : (ps : List Packet) → NoLast ps → NoLast (drop 1 ps)
no_last_drop [] h = tt
no_last_drop (x ∷ xs) h = h.1

no_last_first : (ps : List Packet) (p : Packet) → NoLast ps → slice_get ps 0 ≡ Some p → p.last ≡ false
no_last_first [] p h e = absurd (cc)
no_last_first (x ∷ xs) p h e =
    let same : x ≡ p = cc in
    subst (λ (y : Packet). y.last ≡ false) same h.0

-- a packet's number is at most this one
record IsUpTo (k : ℕ) (p : Packet) : Type 0 where
  number : ℕ
  is : p.seqno ≡ pos number
  few : number ≤ k

abbrev Numbered : ℕ → List Packet → Type 0
Numbered k [] = Unit {0}
Numbered k (p ∷ ps) = IsUpTo k p × Numbered k ps

numbered_append : (k : ℕ) (ps : List Packet) (p : Packet) → Numbered k ps → IsUpTo k p → Numbered k (ps ++ p ∷ [])
numbered_append k [] p h e = (e, tt)
numbered_append k (x ∷ xs) p h e = (h.0, numbered_append k xs p h.1 e)

numbered_more : (k : ℕ) (ps : List Packet) → Numbered k ps → Numbered (k + 1) ps
numbered_more k [] h = tt
numbered_more k (x ∷ xs) h =
    (record { number = h.0.number; is = h.0.is; few = omega (arith, h.0.few) }, numbered_more k xs h.1)

numbered_drop : (k : ℕ) (ps : List Packet) → Numbered k ps → Numbered k (drop 1 ps)
numbered_drop k [] h = tt
numbered_drop k (x ∷ xs) h = h.1

-- where the acked bytes end once all packets up to this number are acked
abbrev reach_to : ℤ → ℕ → List Packet → ℕ
reach_to q a [] = a
reach_to q a (p ∷ ps) = if int_lt q p.seqno then a else reach_to q (max a (packet_end p)) ps

reach_above : (q : ℤ) (a : ℕ) (ps : List Packet) → a ≤ reach_to q a ps
reach_above q a [] = omega arith
reach_above q a (p ∷ ps) =
    choice (λ n. a ≤ n) (int_lt q p.seqno) a (reach_to q (max a (packet_end p)) ps) (λ _. omega arith)
    (λ _. omega (arith, reach_above q (max a (packet_end p)) ps))

either_le : (b : Bool) (x y z : ℕ) → y ≤ z → (if b then x else y) ≤ (if b then x else z)
either_le true x y z h = omega arith
either_le false x y z h = h

reach_append : (q : ℤ) (a : ℕ) (ps : List Packet) (p : Packet) → reach_to q a ps ≤ reach_to q a (ps ++ p ∷ [])
reach_append q a [] p = reach_above q a (p ∷ [])
reach_append q a (x ∷ xs) p =
    either_le (int_lt q x.seqno) a (reach_to q (max a (packet_end x)) xs) (reach_to q (max a (packet_end x)) (xs ++ p ∷ []))
    (reach_append q (max a (packet_end x)) xs p)

not_behind : (k m : ℕ) → m ≤ k → int_lt (pos k) (pos m) ≡ false
not_behind k m h = grind (arith, nat_tests)

up_to_not_behind : (k : ℕ) (p : Packet) → IsUpTo k p → int_lt (pos k) p.seqno ≡ false
up_to_not_behind k p h = subst (λ (z : ℤ). int_lt (pos k) z ≡ false) (sym h.is) (not_behind k h.number h.few)

other_le : (b : Bool) (n x y : ℕ) → b ≡ false → n ≤ y → n ≤ (if b then x else y)
other_le true n x y e h = absurd (cc)
other_le false n x y e h = h

-- a packet of that number, behind others of no greater one, is among those
reach_last : (k a : ℕ) (ps : List Packet) (p : Packet) → Numbered k ps → IsUpTo k p → packet_end p ≤ reach_to (pos k) a (ps ++ p ∷ [])
reach_last k a [] p h e = other_le (int_lt (pos k) p.seqno) (packet_end p) a (max a (packet_end p)) (up_to_not_behind k p e) (omega arith)
reach_last k a (x ∷ xs) p h e =
    other_le (int_lt (pos k) x.seqno) (packet_end p) a (reach_to (pos k) (max a (packet_end x)) (xs ++ p ∷ [])) (up_to_not_behind k x h.0)
    (reach_last k (max a (packet_end x)) xs p h.1 e)

reach_on : (b : Bool) (n a c rest : ℕ) → a ≤ c → c ≤ rest → n ≤ (if b then a else rest) → n ≤ rest
reach_on true n a c rest h k e = omega arith
reach_on false n a c rest h k e = e

-- acking the oldest one changes none of it
reach_acked : (q : ℤ) (s : StreamState) (o : Option Packet) (ps : List Packet) (n : ℕ) → s.unacked ≡ ps → slice_get ps 0 ≡ o
    → n ≤ reach_to q s.acked ps → n ≤ reach_to q (acked_packet s o).acked (acked_packet s o).unacked
reach_acked q s None ps n e f h = subst (λ (xs : List Packet). n ≤ reach_to q s.acked xs) (sym e) h
reach_acked q s (Some p) [] n e f h = absurd (cc)
reach_acked q s (Some p) (x ∷ xs) n e f h =
    let same : x ≡ p = cc in
    let rest : drop 1 s.unacked ≡ xs = ap (λ (ys : List Packet). drop 1 ys) e in
    let there : n ≤ reach_to q (max s.acked (packet_end x)) xs =
    reach_on (int_lt q x.seqno) n s.acked (max s.acked (packet_end x)) (reach_to q (max s.acked (packet_end x)) xs) (omega arith)
    (reach_above q (max s.acked (packet_end x)) xs) h in
    let at : n ≤ reach_to q (max s.acked (packet_end p)) xs =
    subst (λ (y : Packet). n ≤ reach_to q (max s.acked (packet_end y)) xs) same there in
    subst (λ (ys : List Packet). n ≤ reach_to q (max s.acked (packet_end p)) ys) (sym rest) at

-- ---- what is kept

-- the bytes that a sync waits for are written; once its packet was formed, they are acked when it is
abbrev OfWaiting : StreamState → Option Waiting → Type 0
OfWaiting s (Some (waiting.Sync n sync.Due)) = n ≤ written_in s
OfWaiting s (Some (waiting.Sync n (sync.Formed q))) = n ≤ reach_to q s.acked s.unacked
OfWaiting s _ = Unit {0}

-- all bytes are acked, and a close waits
record IsClosing (s : StreamState) (x : Option Waiting) : Type 0 where
  whole : written_in s ≤ s.acked
  close : x ≡ Some waiting.Close

abbrev OfSetup : StreamState → Option Waiting → Setup → Type 0
OfSetup s x setup.CloseRecovery = IsClosing s x
OfSetup s x _ = NoLast s.unacked

abbrev OfWanted : StreamState → Option Waiting → Setup → Type 0
OfWanted s x setup.Create = x ≡ Some waiting.Opening
OfWanted s x setup.Append = x ≡ Some waiting.Opening
OfWanted s x setup.AppendRecovery = NoLast s.unacked
OfWanted s x setup.StreamRecovery = NoLast s.unacked
OfWanted s x setup.CloseRecovery = IsClosing s x

-- An open is wanted while it waits; amid a session the last packet wasn't formed; and once it was, all bytes are acked.
abbrev OfPhase : StreamState → Option Waiting → Phase → Type 0
OfPhase s x phase.Closed = Unit {0}
OfPhase s x (phase.Wanted u) = OfWanted s x u
OfPhase s x (phase.Stamped u stamp) = OfSetup s x u
OfPhase s x (phase.Requested u stamp) = OfSetup s x u
OfPhase s x (phase.Accepted u stamp) = OfSetup s x u
OfPhase s x phase.Opened = NoLast s.unacked
OfPhase s x (phase.Streaming sent) = NoLast s.unacked
OfPhase s x phase.Closing = IsClosing s x
OfPhase s x phase.Finished = IsClosing s x
OfPhase s x phase.Completed = IsClosing s x
OfPhase s x (phase.Failed f) = Unit {0}

record Kept (w : WriterRecord) : Type 0 where
  numbers : Numbered w.stream.seqno w.stream.unacked
  waits : OfWaiting w.stream w.waiting
  at : OfPhase w.stream w.waiting w.phase

-- elsewhere, with other members, under another stamp
moved : (w : WriterRecord) (members : List NodeId) (stamp : Stamp) (p : Phase) → Kept w → OfPhase w.stream w.waiting p
    → Kept (record w { members = members; committed = stamp; phase = p })
moved w members stamp p h k = record { numbers = h.numbers; waits = h.waits; at = k }

-- ---- failures

abbrev OfRemedy : StreamState → Option Waiting → Remedy → Type 0
OfRemedy s x remedy.Abandon = Unit {0}
OfRemedy s x (remedy.Recover u) = OfWanted s x u

after_kept : (s : StreamState) (x : Option Waiting) (u : Setup) → OfSetup s x u → OfRemedy s x (remedy_after u)
after_kept s x setup.Create h = tt
after_kept s x setup.Append h = h
after_kept s x setup.AppendRecovery h = h
after_kept s x setup.StreamRecovery h = h
after_kept s x setup.CloseRecovery h = h

accepted_kept : (s : StreamState) (x : Option Waiting) (u : Setup) → OfSetup s x u → IfSome (remedy_accepted u) (OfRemedy s x)
accepted_kept s x setup.Create h = tt
accepted_kept s x setup.Append h = h
accepted_kept s x setup.AppendRecovery h = h
accepted_kept s x setup.StreamRecovery h = h
accepted_kept s x setup.CloseRecovery h = tt

remedy_kept : (s : StreamState) (x : Option Waiting) (p : Phase) → OfPhase s x p → IfSome (remedy_in p) (OfRemedy s x)
remedy_kept s x phase.Closed h = tt
remedy_kept s x (phase.Wanted u) h = tt
remedy_kept s x (phase.Stamped u stamp) h = tt
remedy_kept s x (phase.Requested u stamp) h = after_kept s x u h
remedy_kept s x (phase.Accepted u stamp) h = accepted_kept s x u h
remedy_kept s x phase.Opened h = h
remedy_kept s x (phase.Streaming sent) h = h
remedy_kept s x phase.Closing h = h
remedy_kept s x phase.Finished h = tt
remedy_kept s x phase.Completed h = tt
remedy_kept s x (phase.Failed f) h = tt

dropped_kept : (w : WriterRecord) (u : Setup) (bad : NodeId) (left : List NodeId) → Kept w → OfWanted w.stream w.waiting u → Kept (dropped w u bad left)
dropped_kept w u bad [] h k = moved w [] w.committed (phase.Failed (failure.AllBad bad)) h tt
dropped_kept w u bad (m ∷ ms) h k = moved w (m ∷ ms) w.committed (phase.Wanted u) h k

fail_named_kept : (w : WriterRecord) (r : Remedy) (o : Option NodeId) → Kept w → OfRemedy w.stream w.waiting r → Kept (fail_named w r o)
fail_named_kept w r None h k = h
fail_named_kept w remedy.Abandon (Some bad) h k = moved w w.members w.committed (phase.Failed (failure.Abandoned bad)) h tt
fail_named_kept w (remedy.Recover u) (Some bad) h k = dropped_kept w u bad (without w.members bad) h k

fail_kept : (w : WriterRecord) (r : Remedy) (place : ℕ) → Kept w → OfRemedy w.stream w.waiting r → Kept (fail_at w r place)
fail_kept w r place h k = fail_named_kept w r (slice_get w.members place) h k

ended_as_kept : (w : WriterRecord) (o : Option Remedy) → Kept w → IfSome o (OfRemedy w.stream w.waiting) → Kept (ended_as w o)
ended_as_kept w None h k = h
ended_as_kept w (Some r) h k = fail_kept w r 0 h k

ended_kept : (w : WriterRecord) → Kept w → Kept (ended w)
unfolding ended
ended_kept w h = ended_as_kept w (remedy_in w.phase) h (remedy_kept w.stream w.waiting w.phase h.at)

dialled_in_kept : (w : WriterRecord) (p : Phase) (b : Bool) → Kept w → OfPhase w.stream w.waiting p → Kept (dialled_in w p b)
dialled_in_kept w (phase.Stamped u stamp) true h k = moved w w.members w.committed (phase.Requested u stamp) h k
dialled_in_kept w (phase.Stamped u stamp) false h k = fail_kept w (remedy_after u) 0 h (after_kept w.stream w.waiting u k)
dialled_in_kept w _ b h k = h

dialled_kept : (w : WriterRecord) (b : Bool) → Kept w → Kept (dialled w b)
unfolding dialled
dialled_kept w b h = dialled_in_kept w w.phase b h h.at

setup_in_kept : (w : WriterRecord) (p : Phase) (good : Bool) (bad : Option NodeId) → Kept w → OfPhase w.stream w.waiting p → Kept (setup_answered_in w p good bad)
setup_in_kept w (phase.Requested u stamp) true bad h k = moved w w.members w.committed (phase.Accepted u stamp) h k
setup_in_kept w (phase.Requested u stamp) false bad h k =
    fail_kept w (remedy_after u) (bad_place w.members bad) h (after_kept w.stream w.waiting u k)
setup_in_kept w _ good bad h k = h

setup_kept : (w : WriterRecord) (r : Response) (bad : Option NodeId) → Kept w → Kept (setup_answered w r bad)
unfolding setup_answered
setup_kept w r bad h = setup_in_kept w w.phase (is_success r.status) bad h h.at

-- ---- acks

acked_closing : (s : StreamState) (x : Option Waiting) (o : Option Packet) → IsClosing s x → IsClosing (acked_packet s o) x
acked_closing s x None h = h
acked_closing s x (Some p) h = record { whole = omega (arith, h.whole); close = h.close }

acked_no_last : (s : StreamState) (o : Option Packet) → NoLast s.unacked → NoLast (acked_packet s o).unacked
acked_no_last s None h = h
acked_no_last s (Some p) h = no_last_drop s.unacked h

oldest_not_last : (s : StreamState) (o : Option Packet) → slice_get s.unacked 0 ≡ o → NoLast s.unacked → is_last o ≡ false
oldest_not_last s None e h = refl
oldest_not_last s (Some p) e h = no_last_first s.unacked p h e

closing_acked : (s : StreamState) (x : Option Waiting) (o : Option Packet) (b : Bool) → IsClosing s x
    → OfPhase (acked_packet s o) x (phase_acked b phase.Closing)
closing_acked s x o true h = acked_closing s x o h
closing_acked s x o false h = acked_closing s x o h

-- amid a session the oldest packet isn't the last one
session_acked : (s : StreamState) (x : Option Waiting) (o : Option Packet) (p : Phase) → slice_get s.unacked 0 ≡ o → NoLast s.unacked
    → OfPhase (acked_packet s o) x (phase_acked false p) → OfPhase (acked_packet s o) x (phase_acked (is_last o) p)
session_acked s x o p e h k =
    subst (λ (b : Bool). OfPhase (acked_packet s o) x (phase_acked b p)) (sym (oldest_not_last s o e h)) k

phase_kept : (s : StreamState) (x : Option Waiting) (o : Option Packet) (p : Phase) → slice_get s.unacked 0 ≡ o
    → is_some (remedy_at_ack p) ≡ true → OfPhase s x p → OfPhase (acked_packet s o) x (phase_acked (is_last o) p)
phase_kept s x o phase.Closed e heard h = absurd (cc)
phase_kept s x o (phase.Wanted u) e heard h = absurd (cc)
phase_kept s x o (phase.Stamped u stamp) e heard h = absurd (cc)
phase_kept s x o (phase.Requested u stamp) e heard h = absurd (cc)
phase_kept s x o (phase.Accepted setup.Create stamp) e heard h = session_acked s x o (phase.Accepted setup.Create stamp) e h (acked_no_last s o h)
phase_kept s x o (phase.Accepted setup.Append stamp) e heard h = session_acked s x o (phase.Accepted setup.Append stamp) e h (acked_no_last s o h)
phase_kept s x o (phase.Accepted setup.AppendRecovery stamp) e heard h =
    session_acked s x o (phase.Accepted setup.AppendRecovery stamp) e h (acked_no_last s o h)
phase_kept s x o (phase.Accepted setup.StreamRecovery stamp) e heard h =
    session_acked s x o (phase.Accepted setup.StreamRecovery stamp) e h (acked_no_last s o h)
phase_kept s x o (phase.Accepted setup.CloseRecovery stamp) e heard h = absurd (cc)
phase_kept s x o phase.Opened e heard h = session_acked s x o phase.Opened e h (acked_no_last s o h)
phase_kept s x o (phase.Streaming sent) e heard h = session_acked s x o (phase.Streaming sent) e h (acked_no_last s o h)
phase_kept s x o phase.Closing e heard h = closing_acked s x o (is_last o) h
phase_kept s x o phase.Finished e heard h = absurd (cc)
phase_kept s x o phase.Completed e heard h = absurd (cc)
phase_kept s x o (phase.Failed f) e heard h = absurd (cc)

waits_acked : (s : StreamState) (o : Option Packet) (x : Option Waiting) → slice_get s.unacked 0 ≡ o → OfWaiting s x → OfWaiting (acked_packet s o) x
waits_acked s None x e h = h
waits_acked s (Some p) None e h = tt
waits_acked s (Some p) (Some waiting.Opening) e h = tt
waits_acked s (Some p) (Some (waiting.Flush n)) e h = tt
waits_acked s (Some p) (Some (waiting.Sync n sync.Due)) e h = h
waits_acked s (Some p) (Some (waiting.Sync n (sync.Formed q))) e h = reach_acked q s (Some p) s.unacked n refl e h
waits_acked s (Some p) (Some waiting.Close) e h = tt

numbers_acked : (s : StreamState) (o : Option Packet) → Numbered s.seqno s.unacked → Numbered (acked_packet s o).seqno (acked_packet s o).unacked
numbers_acked s None h = h
numbers_acked s (Some p) h = numbered_drop s.seqno s.unacked h

acked_oldest_kept : (w : WriterRecord) → is_some (remedy_at_ack w.phase) ≡ true → Kept w → Kept (acked_oldest w)
acked_oldest_kept w heard h =
    let o = slice_get w.stream.unacked 0 in
    record {
      numbers = numbers_acked w.stream o h.numbers;
      waits = waits_acked w.stream o w.waiting refl h.waits;
      at = phase_kept w.stream w.waiting o w.phase refl heard h.at;
    }

acked_as_kept : (w : WriterRecord) (r : Remedy) (v : Verdict) → is_some (remedy_at_ack w.phase) ≡ true → OfRemedy w.stream w.waiting r → Kept w
    → Kept (acked_as w r v)
acked_as_kept w r verdict.Good heard k h = acked_oldest_kept w heard h
acked_as_kept w r (verdict.Bad place) heard k h = fail_kept w r place h k

at_ack_kept : (s : StreamState) (x : Option Waiting) (p : Phase) → IfSome (remedy_in p) (OfRemedy s x) → IfSome (remedy_at_ack p) (OfRemedy s x)
at_ack_kept s x (phase.Requested u stamp) h = tt
at_ack_kept s x phase.Closed h = h
at_ack_kept s x (phase.Wanted u) h = h
at_ack_kept s x (phase.Stamped u stamp) h = h
at_ack_kept s x (phase.Accepted u stamp) h = h
at_ack_kept s x phase.Opened h = h
at_ack_kept s x (phase.Streaming sent) h = h
at_ack_kept s x phase.Closing h = h
at_ack_kept s x phase.Finished h = h
at_ack_kept s x phase.Completed h = h
at_ack_kept s x (phase.Failed f) h = h

acked_in_kept : (w : WriterRecord) (ack : Ack) (o : Option Remedy) → remedy_at_ack w.phase ≡ o → IfSome o (OfRemedy w.stream w.waiting) → Kept w
    → Kept (acked_in w ack o)
acked_in_kept w ack None e k h = h
acked_in_kept w ack (Some r) e k h =
    let heard : is_some (remedy_at_ack w.phase) ≡ true = ap (λ (o : Option Remedy). is_some o) e in
    acked_as_kept w r (ack_verdict (oldest_seqno w.stream) (length w.members) ack) heard k h

acked_kept : (w : WriterRecord) (ack : Ack) → Kept w → Kept (acked w ack)
unfolding acked
acked_kept w ack h =
    acked_in_kept w ack (remedy_at_ack w.phase) refl
    (at_ack_kept w.stream w.waiting w.phase (remedy_kept w.stream w.waiting w.phase h.at)) h

-- ---- the office

refused_kept : (w : WriterRecord) (e : OfficeFault) → Kept w → Kept (refused w e)
refused_kept w fault.Memory h = h
refused_kept w (fault.LeaseLost recovery) h = moved w w.members w.committed (phase.Failed (failure.Lost recovery)) h tt
refused_kept w e h = moved w w.members w.committed _ h tt

opening_waits : (s : StreamState) (x : Option Waiting) → x ≡ Some waiting.Opening → OfWaiting s x
opening_waits s x e = subst (λ (y : Option Waiting). OfWaiting s y) (sym e) tt

session_kept : (w : WriterRecord) (stamp : Stamp) (base : ℕ) (p : Phase) → w.waiting ≡ Some waiting.Opening
    → OfPhase (begun w.stream.rule base) w.waiting p → Kept (record (begin_session w stamp base) { phase = p })
session_kept w stamp base p e k = record {
  numbers = tt;
  waits = opening_waits (begun w.stream.rule base) w.waiting e;
  at = k;
}

stamped_kept : (w : WriterRecord) (u : Setup) (stamp : Stamp) → Kept w → OfWanted w.stream w.waiting u → Kept (stamped w u stamp)
stamped_kept w setup.Create stamp h k = session_kept w stamp 0 (phase.Stamped setup.Create stamp) k tt
stamped_kept w setup.Append stamp h k = h
stamped_kept w setup.AppendRecovery stamp h k = moved w w.members w.committed (phase.Stamped setup.AppendRecovery stamp) h k
stamped_kept w setup.StreamRecovery stamp h k = moved w w.members w.committed (phase.Stamped setup.StreamRecovery stamp) h k
stamped_kept w setup.CloseRecovery stamp h k = moved w w.members w.committed (phase.Stamped setup.CloseRecovery stamp) h k

reopened_kept : (w : WriterRecord) (u : Setup) (r : Reopened) → Kept w → OfWanted w.stream w.waiting u → Kept (reopened w u r)
reopened_kept w setup.Append r h k =
    choice Kept (nat_le r.length MAX_APPEND_LENGTH) (record (begin_session w r.committed r.length) { phase = phase.Stamped setup.Append r.new }) w
    (λ _. session_kept w r.committed r.length (phase.Stamped setup.Append r.new) k tt) (λ _. h)
reopened_kept w _ r h k = h

stamp_given_kept : (w : WriterRecord) (u : Setup) (a : OfficeAnswer) → Kept w → OfWanted w.stream w.waiting u → Kept (stamp_given w u a)
stamp_given_kept w u (office.Stamp stamp) h k = stamped_kept w u stamp h k
stamp_given_kept w u (office.Reopened r) h k = reopened_kept w u r h k
stamp_given_kept w u _ h k = h

committed_kept : (w : WriterRecord) (u : Setup) (stamp : Stamp) → Kept w → OfSetup w.stream w.waiting u → Kept (committed_as w u stamp)
committed_kept w setup.Create stamp h k = h
committed_kept w setup.Append stamp h k = moved w w.members stamp phase.Opened h k
committed_kept w setup.AppendRecovery stamp h k = moved w w.members stamp phase.Opened h k
committed_kept w setup.StreamRecovery stamp h k = moved w w.members stamp (phase.Streaming 0) h k
committed_kept w setup.CloseRecovery stamp h k = moved w w.members stamp phase.Finished h k

commit_given_kept : (w : WriterRecord) (u : Setup) (stamp : Stamp) (a : OfficeAnswer) → Kept w → OfSetup w.stream w.waiting u
    → Kept (commit_given w u stamp a)
commit_given_kept w u stamp office.Nothing h k = committed_kept w u stamp h k
commit_given_kept w u stamp _ h k = h

complete_given_kept : (w : WriterRecord) (a : OfficeAnswer) → Kept w → IsClosing w.stream w.waiting → Kept (complete_given w a)
complete_given_kept w office.Nothing h k = moved w w.members w.committed phase.Completed h k
complete_given_kept w _ h k = h

granted_in_kept : (w : WriterRecord) (p : Phase) (a : OfficeAnswer) → Kept w → OfPhase w.stream w.waiting p → Kept (granted_in w p a)
granted_in_kept w (phase.Wanted u) a h k = stamp_given_kept w u a h k
granted_in_kept w (phase.Accepted u stamp) a h k = commit_given_kept w u stamp a h k
granted_in_kept w phase.Finished a h k = complete_given_kept w a h k
granted_in_kept w _ a h k = h

granted_as_kept : (w : WriterRecord) (r : Result OfficeAnswer OfficeFault) → Kept w → Kept (granted_as w r)
granted_as_kept w (Ok a) h = granted_in_kept w w.phase a h h.at
granted_as_kept w (Err e) h = choice Kept (asks w.phase) (refused w e) w (λ _. refused_kept w e h) (λ _. h)

granted_kept : (w : WriterRecord) (r : Result OfficeAnswer OfficeFault) → Kept w → Kept (granted w r)
unfolding granted
granted_kept w r h = granted_as_kept w r h

-- ---- commands

given_as_kept : (w : WriterRecord) (c : Command) (r : Result Intake CommandFault) → Kept w → Kept (given_as w c r)
given_as_kept w c (Ok i) h = record { numbers = h.numbers; waits = h.waits; at = h.at }
given_as_kept w c (Err e) h = h

given_kept : (w : WriterRecord) (c : Command) → Kept w → Kept (given w c)
given_kept w c h = given_as_kept w c (admitted w.intake c) h

no_closing : (s t : StreamState) (y : Option Waiting) → IsClosing s None → IsClosing t y
no_closing s t y h = let e = h.close in absurd (cc)

free_wanted : (s t : StreamState) (y : Option Waiting) (u : Setup) → s.unacked ≡ t.unacked → OfWanted s None u → OfWanted t y u
free_wanted s t y setup.Create e h = absurd (cc)
free_wanted s t y setup.Append e h = absurd (cc)
free_wanted s t y setup.AppendRecovery e h = subst NoLast e h
free_wanted s t y setup.StreamRecovery e h = subst NoLast e h
free_wanted s t y setup.CloseRecovery e h = no_closing s t y h

free_setup : (s t : StreamState) (y : Option Waiting) (u : Setup) → s.unacked ≡ t.unacked → OfSetup s None u → OfSetup t y u
free_setup s t y setup.Create e h = subst NoLast e h
free_setup s t y setup.Append e h = subst NoLast e h
free_setup s t y setup.AppendRecovery e h = subst NoLast e h
free_setup s t y setup.StreamRecovery e h = subst NoLast e h
free_setup s t y setup.CloseRecovery e h = no_closing s t y h

-- where no command waits, any may, and bytes may be written
free_phase : (s t : StreamState) (y : Option Waiting) (p : Phase) → s.unacked ≡ t.unacked → OfPhase s None p → OfPhase t y p
free_phase s t y phase.Closed e h = tt
free_phase s t y (phase.Wanted u) e h = free_wanted s t y u e h
free_phase s t y (phase.Stamped u stamp) e h = free_setup s t y u e h
free_phase s t y (phase.Requested u stamp) e h = free_setup s t y u e h
free_phase s t y (phase.Accepted u stamp) e h = free_setup s t y u e h
free_phase s t y phase.Opened e h = subst NoLast e h
free_phase s t y (phase.Streaming sent) e h = subst NoLast e h
free_phase s t y phase.Closing e h = no_closing s t y h
free_phase s t y phase.Finished e h = no_closing s t y h
free_phase s t y phase.Completed e h = no_closing s t y h
free_phase s t y (phase.Failed f) e h = tt

-- the phase of a writer for which no command waits
free_at : (w : WriterRecord) → w.waiting ≡ None → Kept w → OfPhase w.stream None w.phase
free_at w e h = subst (λ (x : Option Waiting). OfPhase w.stream x w.phase) e h.at

wrote_kept : (w : WriterRecord) (bytes : List ℕ) → w.waiting ≡ None → Kept w → Kept (wrote w bytes)
wrote_kept w bytes e h = record {
  numbers = h.numbers;
  waits = subst (λ (x : Option Waiting). OfWaiting (with_bytes w.stream bytes) x) (sym e) tt;
  at = free_phase w.stream (with_bytes w.stream bytes) w.waiting w.phase refl (free_at w e h);
}

taken_kept : (w : WriterRecord) (c : Command) → w.waiting ≡ None → Kept w → Kept (taken_as w c)
taken_kept w (command.Create members) e h = record { numbers = h.numbers; waits = tt; at = refl }
taken_kept w (command.Append members) e h = record { numbers = h.numbers; waits = tt; at = refl }
taken_kept w (command.Write bytes) e h = wrote_kept w bytes e h
taken_kept w (command.Fill count) e h = wrote_kept w (fill_bytes w.block (written_in w.stream) count) e h
taken_kept w command.Hflush e h =
    record { numbers = h.numbers; waits = tt; at = free_phase w.stream w.stream (Some (waiting.Flush (written_in w.stream))) w.phase refl (free_at w e h) }
taken_kept w command.Hsync e h =
    record { numbers = h.numbers; waits = omega arith; at = free_phase w.stream w.stream (Some (waiting.Sync (written_in w.stream) sync.Due)) w.phase refl (free_at w e h) }
taken_kept w command.Close e h =
    record { numbers = h.numbers; waits = tt; at = free_phase w.stream w.stream (Some waiting.Close) w.phase refl (free_at w e h) }

first_kept : (w : WriterRecord) (o : Option Command) → w.waiting ≡ None → Kept w → Kept (take_first w o).writer
first_kept w None e h = h
first_kept w (Some c) e h = taken_kept w c e h

free_as_kept : (w : WriterRecord) (x : Option Waiting) → w.waiting ≡ x → Kept w → Kept (free_step_as w x).writer
free_as_kept w None e h = first_kept w (slice_get w.queue 0) e h
free_as_kept w (Some x) e h = h

free_kept : (w : WriterRecord) → Kept w → Kept (free_step w).writer
free_kept w h = free_as_kept w w.waiting refl h

failed_command_kept : (w : WriterRecord) (f : Failure) (c : Command) → w.waiting ≡ None → Kept w → Kept (failed_command w f c).writer
failed_command_kept w f (command.Append members) e h = record { numbers = h.numbers; waits = tt; at = refl }
failed_command_kept w f c e h = record { numbers = h.numbers; waits = h.waits; at = h.at }

failed_first_kept : (w : WriterRecord) (f : Failure) (o : Option Command) → w.waiting ≡ None → Kept w → Kept (failed_first w f o).writer
failed_first_kept w f None e h = h
failed_first_kept w f (Some c) e h = failed_command_kept w f c e h

answered_kept : (w : WriterRecord) (p : Phase) → Kept w → OfPhase w.stream None p → Kept (record w { waiting = None; phase = p })
answered_kept w p h k = record { numbers = h.numbers; waits = tt; at = k }

failed_at : (w : WriterRecord) (f : Failure) → phase.Failed f ≡ w.phase → OfPhase w.stream None w.phase
failed_at w f e = subst (λ (p : Phase). OfPhase w.stream None p) e tt

failed_as_kept : (w : WriterRecord) (f : Failure) (x : Option Waiting) → phase.Failed f ≡ w.phase → w.waiting ≡ x → Kept w
    → Kept (failed_step_as w f x).writer
failed_as_kept w f None at e h = failed_first_kept w f (slice_get w.queue 0) e h
failed_as_kept w f (Some x) at e h = answered_kept w w.phase h (failed_at w f at)

-- ---- streaming

-- what is known of the packet that is due: one with bytes is a sync's exactly where that sync's bytes end with it, one for a sync
-- comes once all is sent, and the last one once all is acked
abbrev IsDueTo : Option Waiting → StreamState → DuePacket → Type 0
IsDueTo x s (due.Data end is_sync) = is_sync ≡ ends_sync x end
IsDueTo x s due.Sync = written_in s ≤ s.sent
IsDueTo x s due.Last = IsClosing s x

empty_due_to : (x : Option Waiting) (s : StreamState) → (is_flushing x && nat_lt s.sent (written_in s)) ≡ false → IfSome (empty_due x s) (IsDueTo x s)
empty_due_to None s e = tt
empty_due_to (Some waiting.Opening) s e = tt
empty_due_to (Some (waiting.Flush n)) s e = tt
empty_due_to (Some (waiting.Sync n sync.Due)) s e = grind (arith, nat_tests)
empty_due_to (Some (waiting.Sync n (sync.Formed q))) s e = tt
empty_due_to (Some waiting.Close) s e =
    choice (λ d. IfSome d (IsDueTo (Some waiting.Close) s)) (s.acked == written_in s) (Some due.Last) None
    (λ same. record { whole = grind (arith, nat_tests); close = refl }) (λ _. tt)

due_to : (x : Option Waiting) (s : StreamState) → IfSome (due_in x s) (IsDueTo x s)
due_to x s =
    choice (λ d. IfSome d (IsDueTo x s)) (nat_le (greatest_end s.rule.chunk (start_in s)) (written_in s)) _ _
    (λ _. refl)
    (λ _. choice (λ d. IfSome d (IsDueTo x s)) (is_flushing x && nat_lt s.sent (written_in s)) _ _ (λ _. refl) (λ f. empty_due_to x s f))

due_now_to : (w : WriterRecord) (d : DuePacket) → due_now w ≡ Some d → IsDueTo w.waiting w.stream d
due_now_to w d e =
    let all : IfSome (due_now w) (IsDueTo w.waiting w.stream) =
    choice (λ o. IfSome o (IsDueTo w.waiting w.stream)) (nat_lt (length w.stream.unacked) MAX_UNACKED) (due_in w.waiting w.stream) None
    (λ _. due_to w.waiting w.stream) (λ _. tt) in
    subst (λ o. IfSome o (IsDueTo w.waiting w.stream)) e all

-- where the next packet ends
next_end : (s : StreamState) (end : ℕ) (b : Bool) → IsStream s → s.sent < end → end ≤ written_in s → packet_end (next_packet s end b) ≡ end
next_end s end b h past within =
    let near : start_in s ≤ s.sent = next_start_near s.rule.chunk s.base s.sent h.base in
    rw (length-take (end - start_in s) s.tail) (omega arith)

formed_waits : (s : StreamState) (x : Option Waiting) (end : ℕ) (b : Bool) → IsStream s → s.sent < end → end ≤ written_in s
    → b ≡ ends_sync x end → Numbered s.seqno s.unacked → OfWaiting s x → OfWaiting (formed s end b) (sync_formed_as b (pos s.seqno) x)
formed_waits s None end true h past within e k waits = absurd (cc)
formed_waits s (Some waiting.Opening) end true h past within e k waits = absurd (cc)
formed_waits s (Some (waiting.Flush n)) end true h past within e k waits = absurd (cc)
formed_waits s (Some (waiting.Sync n sync.Due)) end true h past within e k waits =
    let same : n ≤ end = grind (arith, nat_tests) in
    let there = reach_last s.seqno s.acked s.unacked (next_packet s end true) k (record { number = s.seqno; is = refl; few = omega arith }) in
    omega (arith, same, next_end s end true h past within, there)
formed_waits s (Some (waiting.Sync n (sync.Formed q))) end true h past within e k waits = absurd (cc)
formed_waits s (Some waiting.Close) end true h past within e k waits = absurd (cc)
formed_waits s None end false h past within e k waits = tt
formed_waits s (Some waiting.Opening) end false h past within e k waits = tt
formed_waits s (Some (waiting.Flush n)) end false h past within e k waits = tt
formed_waits s (Some (waiting.Sync n sync.Due)) end false h past within e k waits =
    omega (arith, waits, formed_written s end false h past within)
formed_waits s (Some (waiting.Sync n (sync.Formed q))) end false h past within e k waits =
    let more = reach_append q s.acked s.unacked (next_packet s end false) in
    omega (arith, waits, more)
formed_waits s (Some waiting.Close) end false h past within e k waits = tt

sync_waits : (s : StreamState) (x : Option Waiting) → syncs_due x ≡ 1 → written_in s ≤ s.sent → Numbered s.seqno s.unacked → OfWaiting s x
    → OfWaiting (sync_formed s) (sync_formed_as true (pos s.seqno) x)
sync_waits s None one all k waits = tt
sync_waits s (Some waiting.Opening) one all k waits = tt
sync_waits s (Some (waiting.Flush n)) one all k waits = tt
sync_waits s (Some (waiting.Sync n sync.Due)) one all k waits =
    let there = reach_last s.seqno s.acked s.unacked (sync_packet s) k (record { number = s.seqno; is = refl; few = omega arith }) in
    omega (arith, waits, all, there)
sync_waits s (Some (waiting.Sync n (sync.Formed q))) one all k waits = absurd (cc)
sync_waits s (Some waiting.Close) one all k waits = tt

close_waits : (s : StreamState) (x : Option Waiting) → x ≡ Some waiting.Close → OfWaiting s x
close_waits s x e = subst (λ (y : Option Waiting). OfWaiting s y) (sym e) tt

form_kept : (w : WriterRecord) (d : DuePacket) → Sound w → IsDueNow w d → IsDueTo w.waiting w.stream d → NoLast w.stream.unacked → Kept w
    → Kept (form_step w d).writer
form_kept w (due.Data end b) sound d to none h = record {
  numbers = numbered_append (w.stream.seqno + 1) w.stream.unacked (next_packet w.stream end b) (numbered_more w.stream.seqno w.stream.unacked h.numbers)
      (record { number = w.stream.seqno; is = refl; few = omega arith });
  waits = formed_waits w.stream w.waiting end b sound.stream d.fits.0 d.fits.1 to h.numbers h.waits;
  at = no_last_append w.stream.unacked (next_packet w.stream end b) none refl;
}
form_kept w due.Sync sound d to none h = record {
  numbers = numbered_append (w.stream.seqno + 1) w.stream.unacked (sync_packet w.stream) (numbered_more w.stream.seqno w.stream.unacked h.numbers)
      (record { number = w.stream.seqno; is = refl; few = omega arith });
  waits = sync_waits w.stream w.waiting d.fits to h.numbers h.waits;
  at = no_last_append w.stream.unacked (sync_packet w.stream) none refl;
}
form_kept w due.Last sound d to none h = record {
  numbers = numbered_append w.stream.seqno w.stream.unacked (last_packet w.stream w.had_sync) h.numbers
      (record { number = w.stream.seqno; is = refl; few = omega arith });
  waits = close_waits (last_formed w.stream w.had_sync) w.waiting to.close;
  at = record { whole = to.whole; close = to.close };
}

streaming_at : (w : WriterRecord) (sent : ℕ) → phase.Streaming sent ≡ w.phase → NoLast w.stream.unacked → OfPhase w.stream None w.phase
streaming_at w sent e h = subst (λ (p : Phase). OfPhase w.stream None p) e h

reach_as_kept : (w : WriterRecord) (sent : ℕ) (o : Option ℕ) → phase.Streaming sent ≡ w.phase → NoLast w.stream.unacked → Kept w
    → Kept (reach_step_as w o).writer
reach_as_kept w sent None e none h = free_kept w h
reach_as_kept w sent (Some n) e none h = answered_kept w w.phase h (streaming_at w sent e none)

due_step_kept : (w : WriterRecord) (sent : ℕ) (o : Option DuePacket) → due_now w ≡ o → Sound w → phase.Streaming sent ≡ w.phase → NoLast w.stream.unacked
    → Kept w → Kept (due_step w o).writer
due_step_kept w sent None e sound at none h = reach_as_kept w sent (reached_length w.waiting w.stream) at none h
due_step_kept w sent (Some d) e sound at none h = form_kept w d sound (due_now_is w d sound.stream e) (due_now_to w d e) none h

stream_as_kept : (w : WriterRecord) (sent : ℕ) (o : Option Packet) → Sound w → phase.Streaming sent ≡ w.phase → NoLast w.stream.unacked → Kept w
    → Kept (stream_step_as w sent o).writer
stream_as_kept w sent None sound e none h = due_step_kept w sent (due_now w) refl sound e none h
stream_as_kept w sent (Some p) sound e none h = moved w w.members w.committed (phase.Streaming (sent + 1)) h none

-- ---- the own step

dial_as_kept : (w : WriterRecord) (u : Setup) (stamp : Stamp) (members : List NodeId) → Kept w → Kept (dial_step_as w u stamp members).writer
dial_as_kept w u stamp [] h = h
dial_as_kept w u stamp (m ∷ ms) h = h

accepted_step_kept : (w : WriterRecord) (u : Setup) (stamp : Stamp) → OfSetup w.stream w.waiting u → Kept w → Kept (accepted_step w u stamp).writer
accepted_step_kept w setup.Create stamp k h = answered_kept w (phase.Streaming 0) h k
accepted_step_kept w _ stamp k h = h

step_in_kept : (w : WriterRecord) (p : Phase) → p ≡ w.phase → Sound w → OfPhase w.stream w.waiting p → Kept w → Kept (step_in w p).writer
step_in_kept w phase.Closed e sound k h = free_kept w h
step_in_kept w (phase.Wanted u) e sound k h = h
step_in_kept w (phase.Stamped u stamp) e sound k h = dial_as_kept w u stamp w.members h
step_in_kept w (phase.Requested u stamp) e sound k h = free_kept w h
step_in_kept w (phase.Accepted u stamp) e sound k h = accepted_step_kept w u stamp k h
step_in_kept w phase.Opened e sound k h = answered_kept w (phase.Streaming 0) h k
step_in_kept w (phase.Streaming sent) e sound k h = stream_as_kept w sent (slice_get w.stream.unacked sent) sound e k h
step_in_kept w phase.Closing e sound k h = free_kept w h
step_in_kept w phase.Finished e sound k h = h
step_in_kept w phase.Completed e sound k h = answered_kept w phase.Closed h tt
step_in_kept w (phase.Failed f) e sound k h = failed_as_kept w f w.waiting e refl h

own_step_kept : (w : WriterRecord) → Sound w → Kept w → Kept (own_step w).writer
unfolding own_step
own_step_kept w sound h = step_in_kept w w.phase refl sound h.at h

-- ---- whatever happens

record Keeps (w : WriterRecord) : Type 0 where
  sound : Sound w
  kept : Kept w

move_keeps : (w : WriterRecord) (m : Move) → Keeps w → Keeps (after_move w m)
move_keeps w (Gives c) h = record { sound = given_sound w c h.sound; kept = given_kept w c h.kept }
move_keeps w Steps h = record { sound = own_step_sound w h.sound; kept = own_step_kept w h.sound h.kept }
move_keeps w (Grants r) h = record { sound = granted_sound w r h.sound; kept = granted_kept w r h.kept }
move_keeps w (Dials b) h = record { sound = dialled_sound w b h.sound; kept = dialled_kept w b h.kept }
move_keeps w (Answers r bad) h = record { sound = setup_sound w r bad h.sound; kept = setup_kept w r bad h.kept }
move_keeps w (Acks a) h = record { sound = acked_sound w a h.sound; kept = acked_kept w a h.kept }
move_keeps w Ends h = record { sound = ended_sound w h.sound; kept = ended_kept w h.kept }

moves_keep : (w : WriterRecord) (ms : List Move) → Keeps w → Keeps (after_moves w ms)
moves_keep w [] h = h
moves_keep w (m ∷ ms) h = moves_keep (after_move w m) ms (move_keeps w m h)

fresh_keeps : (block : BlockId) (rule : Rule) → IsChunkSize rule.chunk → Keeps (fresh block rule)
fresh_keeps block rule c = record { sound = fresh_sound block rule c; kept = record { numbers = tt; waits = tt; at = tt } }

-- ---- the answer

head_acked : (q z : ℤ) (n a rest : ℕ) → int_lt q z ≡ true → n ≤ (if int_lt q z then a else rest) → n ≤ a
head_acked q z n a rest e h = subst (λ (b : Bool). n ≤ (if b then a else rest)) e h

sync_reached : (q : ℤ) (s : StreamState) (ps : List Packet) (n : ℕ) → s.unacked ≡ ps → is_acked q (oldest_seqno s) ≡ true → n ≤ reach_to q s.acked ps
    → n ≤ s.acked
sync_reached q s [] n e acked h = h
sync_reached q s (p ∷ ps) n e acked h =
    let first : oldest_seqno s ≡ Some p.seqno = rw e refl in
    let past : int_lt q p.seqno ≡ true = subst (λ (o : Option ℤ). is_acked q o ≡ true) first acked in
    head_acked q p.seqno n s.acked (reach_to q (max s.acked (packet_end p)) ps) past h

some_when : (b : Bool) (n m : ℕ) → (if b then Some n else None) ≡ Some m → (b ≡ true) × (n ≡ m)
some_when true n m e = (refl, cc)
some_when false n m e = absurd (cc)

length_acked : (x : Option Waiting) (s : StreamState) (n : ℕ) → OfWaiting s x → reached_length x s ≡ Some n → n ≤ s.acked
length_acked None s n k e = absurd (cc)
length_acked (Some waiting.Opening) s n k e = absurd (cc)
length_acked (Some (waiting.Flush m)) s n k e =
    let both = some_when (nat_le m s.acked) m n e in
    let same = both.1 in
    let small = both.0 in
    grind (arith, nat_tests)
length_acked (Some (waiting.Sync m sync.Due)) s n k e = absurd (cc)
length_acked (Some (waiting.Sync m (sync.Formed q))) s n k e =
    let both = some_when (is_acked q (oldest_seqno s)) m n e in
    omega (arith, both.1, sync_reached q s s.unacked m refl both.0 k)
length_acked (Some waiting.Close) s n k e = absurd (cc)

no_close_length : (x : Option Waiting) (s : StreamState) (n : ℕ) → x ≡ Some waiting.Close → reached_length x s ≡ Some n → ⊥
no_close_length x s n e f =
    let g : reached_length (Some waiting.Close) s ≡ Some n = subst (λ (y : Option Waiting). reached_length y s ≡ Some n) e f in
    cc

-- the answer that so many bytes are reached
abbrev HasAnswered : WriterRecord → ℕ → ℕ → ℕ → Stamp → List NodeId → Type 0
HasAnswered w m ordinal bytes stamp members = (reached w m).action ≡ action.Answered ordinal (answer.Reached bytes stamp members)

answered_is : (w : WriterRecord) (m k n : ℕ) (stamp : Stamp) (members : List NodeId) → m ≤ w.stream.acked
    → (w.waiting ≡ Some waiting.Close → m ≡ written_in w.stream) → HasAnswered w m k n stamp members → IsReached w n stamp members
answered_is w m k n stamp members small whole e =
    let same : m ≡ n = cc in
    record {
      acked = subst (λ (x : ℕ). x ≤ w.stream.acked) same small;
      whole = subst (λ (x : ℕ). w.waiting ≡ Some waiting.Close → x ≡ written_in w.stream) same whole;
      committed = cc;
      pipeline = cc;
    }

first_silent : (w : WriterRecord) (o : Option Command) (k n : ℕ) (stamp : Stamp) (members : List NodeId)
    → (take_first w o).action ≡ action.Answered k (answer.Reached n stamp members) → ⊥
first_silent w None k n stamp members e = cc
first_silent w (Some c) k n stamp members e = cc

free_silent : (w : WriterRecord) (x : Option Waiting) (k n : ℕ) (stamp : Stamp) (members : List NodeId)
    → (free_step_as w x).action ≡ action.Answered k (answer.Reached n stamp members) → ⊥
free_silent w None k n stamp members e = first_silent w (slice_get w.queue 0) k n stamp members e
free_silent w (Some x) k n stamp members e = cc

failure_silent : (f : Failure) (n : ℕ) (stamp : Stamp) (members : List NodeId) → failure_answer f ≡ answer.Reached n stamp members → ⊥
failure_silent (failure.Abandoned m) n stamp members e = cc
failure_silent (failure.AllBad m) n stamp members e = cc
failure_silent (failure.Lost recovery) n stamp members e = cc
failure_silent (failure.Refused fault) n stamp members e = cc

told_silent : (f : Failure) (i k n : ℕ) (stamp : Stamp) (members : List NodeId)
    → action.Answered i (failure_answer f) ≡ action.Answered k (answer.Reached n stamp members) → ⊥
told_silent f i k n stamp members e = let g : failure_answer f ≡ answer.Reached n stamp members = cc in failure_silent f n stamp members g

failed_command_silent : (w : WriterRecord) (f : Failure) (c : Command) (k n : ℕ) (stamp : Stamp) (members : List NodeId)
    → (failed_command w f c).action ≡ action.Answered k (answer.Reached n stamp members) → ⊥
failed_command_silent w f (command.Append ms) k n stamp members e = cc
failed_command_silent w f c k n stamp members e = told_silent f w.taken k n stamp members e

failed_first_silent : (w : WriterRecord) (f : Failure) (o : Option Command) (k n : ℕ) (stamp : Stamp) (members : List NodeId)
    → (failed_first w f o).action ≡ action.Answered k (answer.Reached n stamp members) → ⊥
failed_first_silent w f None k n stamp members e = cc
failed_first_silent w f (Some c) k n stamp members e = failed_command_silent w f c k n stamp members e

failed_silent : (w : WriterRecord) (f : Failure) (x : Option Waiting) (k n : ℕ) (stamp : Stamp) (members : List NodeId)
    → (failed_step_as w f x).action ≡ action.Answered k (answer.Reached n stamp members) → ⊥
failed_silent w f None k n stamp members e = failed_first_silent w f (slice_get w.queue 0) k n stamp members e
failed_silent w f (Some x) k n stamp members e = told_silent f (ordinal w) k n stamp members e

dial_silent : (w : WriterRecord) (u : Setup) (at : Stamp) (left : List NodeId) (k n : ℕ) (stamp : Stamp) (members : List NodeId)
    → (dial_step_as w u at left).action ≡ action.Answered k (answer.Reached n stamp members) → ⊥
dial_silent w u at [] k n stamp members e = cc
dial_silent w u at (m ∷ ms) k n stamp members e = cc

accepted_silent : (w : WriterRecord) (u : Setup) (at : Stamp) (k n : ℕ) (stamp : Stamp) (members : List NodeId)
    → (accepted_step w u at).action ≡ action.Answered k (answer.Reached n stamp members) → ⊥
accepted_silent w setup.Create at k n stamp members e = cc
accepted_silent w setup.Append at k n stamp members e = cc
accepted_silent w setup.AppendRecovery at k n stamp members e = cc
accepted_silent w setup.StreamRecovery at k n stamp members e = cc
accepted_silent w setup.CloseRecovery at k n stamp members e = cc

form_silent : (w : WriterRecord) (d : DuePacket) (k n : ℕ) (stamp : Stamp) (members : List NodeId)
    → (form_step w d).action ≡ action.Answered k (answer.Reached n stamp members) → ⊥
form_silent w (due.Data end b) k n stamp members e = cc
form_silent w due.Sync k n stamp members e = cc
form_silent w due.Last k n stamp members e = cc

reach_is : (w : WriterRecord) (o : Option ℕ) (k n : ℕ) (stamp : Stamp) (members : List NodeId) → reached_length w.waiting w.stream ≡ o → Kept w
    → (reach_step_as w o).action ≡ action.Answered k (answer.Reached n stamp members) → IsReached w n stamp members
reach_is w None k n stamp members f h e = absurd (free_silent w w.waiting k n stamp members e)
reach_is w (Some m) k n stamp members f h e =
    answered_is w m k n stamp members (length_acked w.waiting w.stream m h.waits f)
    (λ close. absurd (no_close_length w.waiting w.stream m close f)) e

due_step_is : (w : WriterRecord) (o : Option DuePacket) (k n : ℕ) (stamp : Stamp) (members : List NodeId) → Kept w
    → (due_step w o).action ≡ action.Answered k (answer.Reached n stamp members) → IsReached w n stamp members
due_step_is w None k n stamp members h e = reach_is w (reached_length w.waiting w.stream) k n stamp members refl h e
due_step_is w (Some d) k n stamp members h e = absurd (form_silent w d k n stamp members e)

stream_is : (w : WriterRecord) (sent : ℕ) (o : Option Packet) (k n : ℕ) (stamp : Stamp) (members : List NodeId) → Kept w
    → (stream_step_as w sent o).action ≡ action.Answered k (answer.Reached n stamp members) → IsReached w n stamp members
stream_is w sent None k n stamp members h e = due_step_is w (due_now w) k n stamp members h e
stream_is w sent (Some p) k n stamp members h e = absurd (cc)

step_is : (w : WriterRecord) (p : Phase) (k n : ℕ) (stamp : Stamp) (members : List NodeId) → OfPhase w.stream w.waiting p → Kept w
    → (step_in w p).action ≡ action.Answered k (answer.Reached n stamp members) → IsReached w n stamp members
step_is w phase.Closed k n stamp members at h e = absurd (free_silent w w.waiting k n stamp members e)
step_is w (phase.Wanted u) k n stamp members at h e = absurd (cc)
step_is w (phase.Stamped u s) k n stamp members at h e = absurd (dial_silent w u s w.members k n stamp members e)
step_is w (phase.Requested u s) k n stamp members at h e = absurd (free_silent w w.waiting k n stamp members e)
step_is w (phase.Accepted u s) k n stamp members at h e = absurd (accepted_silent w u s k n stamp members e)
step_is w phase.Opened k n stamp members at h e = absurd (cc)
step_is w (phase.Streaming sent) k n stamp members at h e = stream_is w sent (slice_get w.stream.unacked sent) k n stamp members h e
step_is w phase.Closing k n stamp members at h e = absurd (free_silent w w.waiting k n stamp members e)
step_is w phase.Finished k n stamp members at h e = absurd (cc)
step_is w phase.Completed k n stamp members at h e = answered_is w (written_in w.stream) k n stamp members at.whole (λ _. refl) e
step_is w (phase.Failed f) k n stamp members at h e = absurd (failed_silent w f w.waiting k n stamp members e)

own_is : (w : WriterRecord) (k n : ℕ) (stamp : Stamp) (members : List NodeId) → Kept w
    → (own_step w).action ≡ action.Answered k (answer.Reached n stamp members) → IsReached w n stamp members
unfolding own_step
own_is w k n stamp members h e = step_is w w.phase k n stamp members h.at h e

pub answered_is_acked : AnsweredIsAcked
answered_is_acked block rule moves k n stamp members c e =
    let h = moves_keep (fresh block rule) moves (fresh_keeps block rule c) in
    own_is (after_moves (fresh block rule) moves) k n stamp members h.kept e
