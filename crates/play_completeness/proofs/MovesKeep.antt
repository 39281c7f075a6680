-- Whatever happens at a writer, it has formed what it should, and keeps the rule of its sums.
use Rattle.std.proofs.Common.{◌≡◌, ℕ, zero, suc, ◌≤◌, Bool, true, false, List, [], ◌∷◌, drop, length, slice_get, Option, Some, None, Result, Ok, Err, refl, sym, ◌∙◌, ap, subst}
use Rattle.std.specs.Prelude.{nat_le}
use Rattle.std.proofs.lemmas.Bool.{false≢true}
use Rattle.std.proofs.lemmas.Option.{none-some, same_Some}
use Rattle.hd_base.specs.declared.numbers.NodeId.{NodeId}
use Rattle.hd_base.specs.declared.numbers.Stamp.{Stamp}
use Rattle.ack_codec.specs.declared.acks.Ack.{Ack}
use Rattle.ack_codec.specs.declared.responses.Response.{Response}
use Rattle.name_core.specs.declared.calls.OfficeAnswer.{OfficeAnswer}
use Rattle.name_core.specs.declared.calls.OfficeAnswer.TheVariants as office
use Rattle.name_core.specs.declared.calls.Reopened.{Reopened}
use Rattle.name_core.specs.declared.records.TheConstants.{MAX_APPEND_LENGTH}
use Rattle.name_core.specs.declared.faults.OfficeFault.{OfficeFault}
use Rattle.name_core.specs.declared.faults.OfficeFault.TheVariants as fault
use Rattle.packet_codec.specs.declared.packets.Packet.{Packet}
use Rattle.packet_stream.specs.Streams.{packet_end, acked_packet, is_last, oldest_seqno}
use Rattle.writer_core.specs.declared.phases.Phase.{Phase}
use Rattle.writer_core.specs.declared.phases.Phase.TheVariants as phase
use Rattle.writer_core.specs.declared.phases.Remedy.{Remedy}
use Rattle.writer_core.specs.declared.phases.Remedy.TheVariants as remedy
use Rattle.writer_core.specs.declared.phases.Setup.{Setup}
use Rattle.writer_core.specs.declared.phases.Setup.TheVariants as setup
use Rattle.writer_core.specs.declared.phases.Verdict.{Verdict}
use Rattle.writer_core.specs.declared.phases.Verdict.TheVariants as verdict
use Rattle.writer_core.specs.declared.records.WriterRecord.{WriterRecord}
use Rattle.writer_core.specs.Phases.{remedy_after, remedy_in, remedy_at_ack, is_success, bad_place, ack_verdict, without}
use Rattle.writer_core.specs.Transitions.{begin_session, dropped, fail_for, fail_named, fail_at, ended_as, ended, phase_acked, acked_oldest, acked_as, acked_in, acked, setup_answered_in, setup_answered, dialled_in, dialled, refused, stamped, reopened, stamp_given, committed_as, commit_given, complete_given, granted_in, granted_as, granted, asks}
use Rattle.world_laws.proofs.FactTables.{if-each}
use Rattle.play_completeness.specs.Formed.{LastFormed, FormedWell}

-- One writer after another: it has formed what it should, and has the same rule.
pub record Goes (x y : WriterRecord) : Type 0 where
  pub formed : FormedWell x → FormedWell y
  pub rule : y.stream.rule ≡ x.stream.rule

abbrev is_closing : Phase → Bool
is_closing phase.Closing = true
is_closing other = false

pub goes-same : (x : WriterRecord) → Goes x x
goes-same x = record { formed = λ h. h; rule = refl }

-- nothing is formed or acked
pub keeps : (x y : WriterRecord) → y.stream.unacked ≡ x.stream.unacked → y.stream.sent ≡ x.stream.sent → y.stream.rule ≡ x.stream.rule → (y.phase ≡ phase.Closing → x.phase ≡ phase.Closing) → Goes x y
keeps x y u s r c = record {
  formed = λ h. record {
    inside = λ i p at. subst (λ (n : ℕ). packet_end p ≤ n) (sym s) (h.inside i p (sym (ap (λ (qs : List Packet). slice_get qs i) u) ∙ at));
    closing = λ e. subst LastFormed (sym u) (h.closing (c e));
  };
  rule = r;
}

not-closing : (p : Phase) → is_closing p ≡ false → p ≡ phase.Closing → ⊥
not-closing p n e = false≢true (sym n ∙ ap is_closing e)

-- the same stream, and no close waits for acks
pub moves : (x y : WriterRecord) → y.stream.unacked ≡ x.stream.unacked → y.stream.sent ≡ x.stream.sent → y.stream.rule ≡ x.stream.rule → is_closing y.phase ≡ false → Goes x y
moves x y u s r n = keeps x y u s r (λ e. absurd (not-closing y.phase n e))

-- FAILURES

drops : (x : WriterRecord) (s : Setup) (bad : NodeId) (ms : List NodeId) → Goes x (dropped x s bad ms)
drops x s bad [] = moves x (dropped x s bad []) refl refl refl refl
drops x s bad (m ∷ ms) = moves x (dropped x s bad (m ∷ ms)) refl refl refl refl

fails-for : (x : WriterRecord) (r : Remedy) (bad : NodeId) → Goes x (fail_for x r bad)
fails-for x remedy.Abandon bad = moves x (fail_for x remedy.Abandon bad) refl refl refl refl
fails-for x (remedy.Recover s) bad = drops x s bad (without x.members bad)

fails-named : (x : WriterRecord) (r : Remedy) (o : Option NodeId) → Goes x (fail_named x r o)
fails-named x r None = goes-same x
fails-named x r (Some bad) = fails-for x r bad

fails : (x : WriterRecord) (r : Remedy) (place : ℕ) → Goes x (fail_at x r place)
fails x r place = fails-named x r (slice_get x.members place)

ends-as : (x : WriterRecord) (o : Option Remedy) → Goes x (ended_as x o)
ends-as x None = goes-same x
ends-as x (Some r) = fails x r 0

pub ended-goes : (x : WriterRecord) → Goes x (ended x)
unfolding ended
ended-goes x = ends-as x (remedy_in x.phase)

-- ANSWERS AND ACKS

answers-in : (x : WriterRecord) (p : Phase) (good : Bool) (bad : Option NodeId) → Goes x (setup_answered_in x p good bad)
answers-in x (phase.Requested s t) true bad = moves x (record x { phase = phase.Accepted s t }) refl refl refl refl
answers-in x (phase.Requested s t) false bad = fails x (remedy_after s) (bad_place x.members bad)
answers-in x phase.Closed good bad = goes-same x
answers-in x (phase.Wanted s) good bad = goes-same x
answers-in x (phase.Stamped s t) good bad = goes-same x
answers-in x (phase.Accepted s t) good bad = goes-same x
answers-in x phase.Opened good bad = goes-same x
answers-in x (phase.Streaming n) good bad = goes-same x
answers-in x phase.Closing good bad = goes-same x
answers-in x phase.Finished good bad = goes-same x
answers-in x phase.Completed good bad = goes-same x
answers-in x (phase.Failed f) good bad = goes-same x

pub answered-goes : (x : WriterRecord) (r : Response) (bad : Option NodeId) → Goes x (setup_answered x r bad)
unfolding setup_answered
answered-goes x r bad = answers-in x x.phase (is_success r.status) bad

dials-in : (x : WriterRecord) (p : Phase) (b : Bool) → Goes x (dialled_in x p b)
dials-in x (phase.Stamped s t) true = moves x (record x { phase = phase.Requested s t }) refl refl refl refl
dials-in x (phase.Stamped s t) false = fails x (remedy_after s) 0
dials-in x phase.Closed b = goes-same x
dials-in x (phase.Wanted s) b = goes-same x
dials-in x (phase.Requested s t) b = goes-same x
dials-in x (phase.Accepted s t) b = goes-same x
dials-in x phase.Opened b = goes-same x
dials-in x (phase.Streaming n) b = goes-same x
dials-in x phase.Closing b = goes-same x
dials-in x phase.Finished b = goes-same x
dials-in x phase.Completed b = goes-same x
dials-in x (phase.Failed f) b = goes-same x

pub dialled-goes : (x : WriterRecord) (b : Bool) → Goes x (dialled x b)
unfolding dialled
dialled-goes x b = dials-in x x.phase b

-- a phase in which the oldest packet was acked, and it wasn't the last one
after-ack : (p : Phase) → phase_acked false p ≡ phase.Closing → p ≡ phase.Closing
after-ack phase.Closing e = refl
after-ack (phase.Streaming n) e = absurd (cc)
after-ack phase.Closed e = e
after-ack (phase.Wanted s) e = e
after-ack (phase.Stamped s t) e = e
after-ack (phase.Requested s t) e = e
after-ack (phase.Accepted s t) e = e
after-ack phase.Opened e = e
after-ack phase.Finished e = e
after-ack phase.Completed e = e
after-ack (phase.Failed f) e = e

-- the last packet is behind one that isn't
pub last-behind : (p : Packet) (ps : List Packet) → p.last ≡ false → LastFormed (p ∷ ps) → LastFormed ps
last-behind p ps isnt h = go h.place h.there
  where
    go : (i : ℕ) → slice_get (p ∷ ps) i ≡ Some h.packet → LastFormed ps
    go zero at = absurd (false≢true (sym isnt ∙ (ap (λ (q : Packet). q.last) (same_Some p h.packet at) ∙ h.last)))
    go (suc i) at = record { place = i; packet = h.packet; there = at; last = h.last }

acks-some : (x : WriterRecord) (p : Packet) (ps : List Packet) → x.stream.unacked ≡ p ∷ ps → Goes x (record x { stream = acked_packet x.stream (Some p); phase = phase_acked p.last x.phase })
acks-some x p ps is = record {
  formed = λ h. record {
    inside = λ i q at. h.inside (suc i) q (ap (λ (qs : List Packet). slice_get qs (suc i)) is ∙ (sym (ap (λ (qs : List Packet). slice_get qs i) left) ∙ at));
    closing = λ e. subst LastFormed (sym left) (rest h p.last refl e);
  };
  rule = refl;
}
  where
    left : (acked_packet x.stream (Some p)).unacked ≡ ps
    left = ap (λ (qs : List Packet). drop 1 qs) is

    rest : FormedWell x → (b : Bool) → p.last ≡ b → phase_acked p.last x.phase ≡ phase.Closing → LastFormed ps
    rest h false isnt e = last-behind p ps isnt (subst LastFormed is (h.closing (after-ack x.phase (ap (λ (b : Bool). phase_acked b x.phase) (sym isnt) ∙ e))))
    rest h true last e = absurd (finished (ap (λ (b : Bool). phase_acked b x.phase) (sym last) ∙ e))
      where
        finished : phase.Finished ≡ phase.Closing → ⊥
        finished q = cc

acks-oldest : (x : WriterRecord) (ps : List Packet) → x.stream.unacked ≡ ps → Goes x (acked_oldest x)
acks-oldest x [] is = subst (λ (o : Option Packet). Goes x (record x { stream = acked_packet x.stream o; phase = phase_acked (is_last o) x.phase })) (sym (ap (λ (qs : List Packet). slice_get qs 0) is)) nothing
  where
    nothing : Goes x (record x { phase = phase_acked false x.phase })
    nothing = keeps x (record x { phase = phase_acked false x.phase }) refl refl refl (after-ack x.phase)
acks-oldest x (p ∷ ps) is = subst (λ (o : Option Packet). Goes x (record x { stream = acked_packet x.stream o; phase = phase_acked (is_last o) x.phase })) (sym (ap (λ (qs : List Packet). slice_get qs 0) is)) (acks-some x p ps is)

acks-as : (x : WriterRecord) (r : Remedy) (v : Verdict) → Goes x (acked_as x r v)
acks-as x r verdict.Good = acks-oldest x x.stream.unacked refl
acks-as x r (verdict.Bad place) = fails x r place

acks-in : (x : WriterRecord) (a : Ack) (o : Option Remedy) → Goes x (acked_in x a o)
acks-in x a None = goes-same x
acks-in x a (Some r) = acks-as x r (ack_verdict (oldest_seqno x.stream) (length x.members) a)

pub acked-goes : (x : WriterRecord) (a : Ack) → Goes x (acked x a)
unfolding acked
acked-goes x a = acks-in x a (remedy_at_ack x.phase)

-- THE OFFICE

begins : (x : WriterRecord) (t : Stamp) (n : ℕ) (p : Phase) → is_closing p ≡ false → Goes x (record (begin_session x t n) { phase = p })
begins x t n p other = record {
  formed = λ h. record { inside = λ i q at. absurd (none-some q at); closing = λ e. absurd (not-closing p other e) };
  rule = refl;
}

stamps : (x : WriterRecord) (s : Setup) (t : Stamp) → Goes x (stamped x s t)
stamps x setup.Create t = begins x t 0 (phase.Stamped setup.Create t) refl
stamps x setup.Append t = goes-same x
stamps x setup.AppendRecovery t = moves x (stamped x setup.AppendRecovery t) refl refl refl refl
stamps x setup.StreamRecovery t = moves x (stamped x setup.StreamRecovery t) refl refl refl refl
stamps x setup.CloseRecovery t = moves x (stamped x setup.CloseRecovery t) refl refl refl refl

reopens : (x : WriterRecord) (s : Setup) (r : Reopened) → Goes x (reopened x s r)
reopens x setup.Append r =
    if-each (Goes x) (nat_le r.length MAX_APPEND_LENGTH) (record (begin_session x r.committed r.length) { phase = phase.Stamped setup.Append r.new }) x
    (λ _. begins x r.committed r.length (phase.Stamped setup.Append r.new) refl) (λ _. goes-same x)
reopens x setup.Create r = goes-same x
reopens x setup.AppendRecovery r = goes-same x
reopens x setup.StreamRecovery r = goes-same x
reopens x setup.CloseRecovery r = goes-same x

gives-stamp : (x : WriterRecord) (s : Setup) (a : OfficeAnswer) → Goes x (stamp_given x s a)
gives-stamp x s (office.Stamp t) = stamps x s t
gives-stamp x s (office.Reopened r) = reopens x s r
gives-stamp x s (office.Begun b) = goes-same x
gives-stamp x s office.Nothing = goes-same x

commits-as : (x : WriterRecord) (s : Setup) (t : Stamp) → Goes x (committed_as x s t)
commits-as x setup.Create t = goes-same x
commits-as x setup.Append t = moves x (committed_as x setup.Append t) refl refl refl refl
commits-as x setup.AppendRecovery t = moves x (committed_as x setup.AppendRecovery t) refl refl refl refl
commits-as x setup.StreamRecovery t = moves x (committed_as x setup.StreamRecovery t) refl refl refl refl
commits-as x setup.CloseRecovery t = moves x (committed_as x setup.CloseRecovery t) refl refl refl refl

commits : (x : WriterRecord) (s : Setup) (t : Stamp) (a : OfficeAnswer) → Goes x (commit_given x s t a)
commits x s t office.Nothing = commits-as x s t
commits x s t (office.Stamp u) = goes-same x
commits x s t (office.Reopened r) = goes-same x
commits x s t (office.Begun b) = goes-same x

completes : (x : WriterRecord) (a : OfficeAnswer) → Goes x (complete_given x a)
completes x office.Nothing = moves x (complete_given x office.Nothing) refl refl refl refl
completes x (office.Stamp u) = goes-same x
completes x (office.Reopened r) = goes-same x
completes x (office.Begun b) = goes-same x

grants-in : (x : WriterRecord) (p : Phase) (a : OfficeAnswer) → Goes x (granted_in x p a)
grants-in x (phase.Wanted s) a = gives-stamp x s a
grants-in x (phase.Accepted s t) a = commits x s t a
grants-in x phase.Finished a = completes x a
grants-in x phase.Closed a = goes-same x
grants-in x (phase.Stamped s t) a = goes-same x
grants-in x (phase.Requested s t) a = goes-same x
grants-in x phase.Opened a = goes-same x
grants-in x (phase.Streaming n) a = goes-same x
grants-in x phase.Closing a = goes-same x
grants-in x phase.Completed a = goes-same x
grants-in x (phase.Failed f) a = goes-same x

refuses : (x : WriterRecord) (e : OfficeFault) → Goes x (refused x e)
refuses x fault.Memory = goes-same x
refuses x (fault.LeaseLost r) = moves x (refused x (fault.LeaseLost r)) refl refl refl refl
refuses x fault.Known = moves x (refused x fault.Known) refl refl refl refl
refuses x fault.Unknown = moves x (refused x fault.Unknown) refl refl refl refl
refuses x fault.NotOpen = moves x (refused x fault.NotOpen) refl refl refl refl
refuses x fault.NotClosed = moves x (refused x fault.NotClosed) refl refl refl refl
refuses x (fault.OldStamp s) = moves x (refused x (fault.OldStamp s)) refl refl refl refl
refuses x (fault.OldRecovery s) = moves x (refused x (fault.OldRecovery s)) refl refl refl refl
refuses x (fault.TooLong n) = moves x (refused x (fault.TooLong n)) refl refl refl refl

grants-as : (x : WriterRecord) (a : Result OfficeAnswer OfficeFault) → Goes x (granted_as x a)
grants-as x (Ok a) = grants-in x x.phase a
grants-as x (Err e) = if-each (Goes x) (asks x.phase) (refused x e) x (λ _. refuses x e) (λ _. goes-same x)

pub granted-goes : (x : WriterRecord) (a : Result OfficeAnswer OfficeFault) → Goes x (granted x a)
unfolding granted
granted-goes x a = grants-as x a
