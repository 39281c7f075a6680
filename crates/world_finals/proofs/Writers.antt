-- What a writer does keeps a session at its end.
use Rattle.std.proofs.Common.{◌≡◌, ℕ, zero, suc, ◌≤◌, ◌⊎◌, inl, inr, Bool, true, false, List, [], ◌∷◌, ◌++◌, drop, slice_get, Option, Some, None, Result, Ok, Err, refl, sym, ◌∙◌, ap, subst, arith}
use Rattle.std.specs.Prelude.{◌&&◌, ◌||◌, not, nat_le, nat_lt, if◌then◌else◌, max, pos, ℤ, length}
use Rattle.std.proofs.lemmas.Bool.{false≢true}
use Rattle.std.proofs.lemmas.Option.{none-some, same_Some}
use Rattle.hd_base.specs.declared.numbers.NodeId.{NodeId}
use Rattle.hd_base.specs.declared.numbers.Stamp.{Stamp}
use Rattle.ack_codec.specs.declared.acks.Ack.{Ack}
use Rattle.ack_codec.specs.declared.responses.Response.{Response}
use Rattle.name_core.specs.declared.calls.OfficeAnswer.{OfficeAnswer}
use Rattle.name_core.specs.declared.calls.OfficeAnswer.TheVariants as office
use Rattle.name_core.specs.declared.calls.Reopened.{Reopened}
use Rattle.name_core.specs.declared.records.TheConstants.{MAX_APPEND_LENGTH}
use Rattle.name_core.specs.declared.faults.OfficeFault.{OfficeFault}
use Rattle.name_core.specs.declared.faults.OfficeFault.TheVariants as fault
use Rattle.packet_codec.specs.declared.packets.Packet.{Packet}
use Rattle.packet_stream.specs.Streams.{StreamState, written_in, packet_end, start_in, next_packet, sync_packet, acked_packet, oldest_acked, oldest_is_last, is_last}
use Rattle.packet_stream.specs.Extents.{greatest_end}
use Rattle.packet_stream.specs.declared.stream.TheConstants.{MAX_UNACKED}
use Rattle.writer_core.specs.declared.actions.Action.{Action}
use Rattle.writer_core.specs.declared.actions.Action.TheVariants as action
use Rattle.writer_core.specs.declared.actions.ClientAnswer.{ClientAnswer}
use Rattle.writer_core.specs.declared.commands.Command.{Command}
use Rattle.writer_core.specs.declared.commands.Command.TheVariants as command
use Rattle.writer_core.specs.declared.commands.CommandFault.{CommandFault}
use Rattle.writer_core.specs.declared.commands.CommandFault.TheVariants as command_fault
use Rattle.writer_core.specs.declared.intake.Intake.{Intake}
use Rattle.writer_core.specs.declared.phases.DuePacket.{DuePacket}
use Rattle.writer_core.specs.declared.phases.DuePacket.TheVariants as due
use Rattle.writer_core.specs.declared.phases.Failure.{Failure}
use Rattle.writer_core.specs.declared.phases.Phase.{Phase}
use Rattle.writer_core.specs.declared.phases.Phase.TheVariants as phase
use Rattle.writer_core.specs.declared.phases.Remedy.{Remedy}
use Rattle.writer_core.specs.declared.phases.Remedy.TheVariants as remedy
use Rattle.writer_core.specs.declared.phases.Setup.{Setup}
use Rattle.writer_core.specs.declared.phases.Setup.TheVariants as setup
use Rattle.writer_core.specs.declared.phases.SyncPacket.{SyncPacket}
use Rattle.writer_core.specs.declared.phases.SyncPacket.TheVariants as sync
use Rattle.writer_core.specs.declared.phases.Verdict.{Verdict}
use Rattle.writer_core.specs.declared.phases.Verdict.TheVariants as verdict
use Rattle.writer_core.specs.declared.phases.Waiting.{Waiting}
use Rattle.writer_core.specs.declared.phases.Waiting.TheVariants as waiting
use Rattle.writer_core.specs.declared.records.WriterRecord.{WriterRecord}
use Rattle.writer_core.specs.Commands.{stand_after, is_open, fits, admitted, intake_after, is_too_much}
use Rattle.writer_core.specs.Phases.{remedy_after, remedy_accepted, remedy_in, remedy_at_ack, is_success, without}
use Rattle.writer_core.specs.Transitions.{Step, begin_session, failure_answer, given_as, given, taken_as, take_first, free_step_as, failed_first, failed_command, failed_step_as, dial_step_as, open_step, accepted_step, completed_step, due_in, due_now, data_due, empty_due, is_flushing, sync_formed_as, form_step, reached_length, reach_step_as, due_step, stream_step_as, step_in, own_step, dropped, fail_for, fail_named, fail_at, ended_as, ended, phase_acked, acked_oldest, acked_as, acked_in, acked, setup_answered_in, setup_answered, dialled_in, dialled, refused, stamped, reopened, stamp_given, committed_as, commit_given, complete_given, granted_in, granted_as, granted, asks, opening, took}
use Rattle.world.specs.Connections.{Next, message, the_end}
use Rattle.world.specs.Parts.{request, packet, ack, response, read_status, recovery_answer}
use Rattle.world.specs.Clients.{command_bytes, is_empty, named_member, writer_hears}
use Rattle.world_laws.proofs.FactTables.{if-each}
use Rattle.world_finals.specs.Finishing.{Ids, ends_setup, begins_or_ends, writes_no_more, SetsNoId, is_closing, has_packets, WriterEnds}

-- PHASES

-- one phase after another
pub record PhaseGoes (p q : Phase) : Type 0 where
  pub closing : is_closing q ≡ true → is_closing p ≡ true
  pub closed : q ≡ phase.Closed → p ≡ phase.Closed
  pub packets : has_packets q ≡ true → has_packets p ≡ true
  pub ends : has_packets q ≡ true → is_closing p ≡ true → is_closing q ≡ true
  pub shuts : writes_no_more p ≡ true → writes_no_more q ≡ true
  pub stamps : (f : Ids) → SetsNoId f p → SetsNoId f q
  pub creates : (t : Stamp) → q ≡ phase.Stamped setup.Create t → p ≡ phase.Stamped setup.Create t

-- one writer after another, which has acked no less in its session
pub record Follows (x y : WriterRecord) : Type 0 where
  pub ends : WriterEnds x → WriterEnds y
  pub shuts : WriterEnds x → writes_no_more x.phase ≡ true → writes_no_more y.phase ≡ true
  pub stamps : (f : Ids) → SetsNoId f x.phase → SetsNoId f y.phase
  pub acks : has_packets y.phase ≡ true → (has_packets x.phase ≡ true) × (x.stream.acked ≤ y.stream.acked)
  pub creates : (t : Stamp) → y.phase ≡ phase.Stamped setup.Create t → x.phase ≡ phase.Stamped setup.Create t

-- as much is acked
same-acked : (x : WriterRecord) → x.stream.acked ≤ x.stream.acked
same-acked x = omega arith

pub follows-same : (x : WriterRecord) → Follows x x
follows-same x = record { ends = λ h. h; shuts = λ h e. e; stamps = λ f s. s; acks = λ q. (q, same-acked x); creates = λ t q. q }

pub follows-then : (x y z : WriterRecord) → Follows x y → Follows y z → Follows x z
follows-then x y z a b = record {
  ends = λ h. b.ends (a.ends h);
  shuts = λ h e. b.shuts (a.ends h) (a.shuts h e);
  stamps = λ f s. b.stamps f (a.stamps f s);
  acks = λ q. let u = b.acks q in let v = a.acks u.0 in (v.0, omega (arith, u.1, v.1));
  creates = λ t q. a.creates t (b.creates t q);
}

-- no packets but those that it had
abbrev FewPackets : WriterRecord → WriterRecord → Type 0
FewPackets x y = (i : ℕ) (p : Packet) → slice_get y.stream.unacked i ≡ Some p → (j : ℕ) × (slice_get x.stream.unacked j ≡ Some p)

by-phase : (x y : WriterRecord) → y.waiting ≡ x.waiting → y.intake ≡ x.intake → FewPackets x y → x.stream.acked ≤ y.stream.acked → PhaseGoes x.phase y.phase → Follows x y
by-phase x y w i few le g = record {
  ends = λ h. record {
    shut = λ e. ap (λ (t : Intake). is_open t.stand) i ∙ h.shut (sym w ∙ e);
    closing = λ e. w ∙ h.closing (g.closing e);
    closed = λ e. ap (λ (t : Intake). is_open t.stand) i ∙ h.closed (g.closed e);
    last = λ e j p q l. let r = few j p q in g.ends e (h.last (g.packets e) r.0 p r.1 l);
  };
  shuts = λ h e. g.shuts e;
  stamps = g.stamps;
  acks = λ q. (g.packets q, le);
  creates = g.creates;
}

same-packets : (x y : WriterRecord) → y.stream ≡ x.stream → FewPackets x y
same-packets x y e i p q = (i, ap (λ (s : StreamState). slice_get s.unacked i) (sym e) ∙ q)

phase-failed : (p : Phase) (e : Failure) → PhaseGoes p (phase.Failed e)
phase-failed p e = record { closing = λ q. absurd (false≢true q); closed = λ q. absurd (cc); packets = λ q. absurd (false≢true q); ends = λ q. absurd (false≢true q); shuts = λ _. refl; stamps = λ f s. tt; creates = λ v q. absurd (cc) }

-- FAILURES

-- a phase from which a setup is wanted anew
abbrev Wants : Phase → Setup → Type 0
Wants p s = PhaseGoes p (phase.Wanted s)

dropped-follows : (x : WriterRecord) (s : Setup) (bad : NodeId) (ms : List NodeId) → Wants x.phase s → Follows x (dropped x s bad ms)
dropped-follows x s bad [] g = by-phase x (dropped x s bad []) refl refl (same-packets x (dropped x s bad []) refl) (same-acked x) (phase-failed x.phase _)
dropped-follows x s bad (m ∷ ms) g = by-phase x (dropped x s bad (m ∷ ms)) refl refl (same-packets x (dropped x s bad (m ∷ ms)) refl) (same-acked x) g

abbrev Mends : Phase → Remedy → Type 0
Mends p remedy.Abandon = Unit {0}
Mends p (remedy.Recover s) = Wants p s

for-follows : (x : WriterRecord) (r : Remedy) (bad : NodeId) → Mends x.phase r → Follows x (fail_for x r bad)
for-follows x remedy.Abandon bad g = by-phase x (fail_for x remedy.Abandon bad) refl refl (same-packets x (fail_for x remedy.Abandon bad) refl) (same-acked x) (phase-failed x.phase _)
for-follows x (remedy.Recover s) bad g = dropped-follows x s bad (without x.members bad) g

named-follows : (x : WriterRecord) (r : Remedy) (o : Option NodeId) → Mends x.phase r → Follows x (fail_named x r o)
named-follows x r None g = follows-same x
named-follows x r (Some bad) g = for-follows x r bad g

fail-follows : (x : WriterRecord) (r : Remedy) (place : ℕ) → Mends x.phase r → Follows x (fail_at x r place)
fail-follows x r place g = named-follows x r (slice_get x.members place) g

-- from the phases of a setup
from-setup : (p : Phase) (s t : Setup) → is_closing p ≡ ends_setup s → writes_no_more p ≡ ends_setup s → has_packets p ≡ true → remedy_after s ≡ remedy.Recover t → Wants p t
from-setup p setup.Create t a b c e = absurd (cc)
from-setup p setup.Append t a b c e = subst (λ (r : Remedy). Mends p r) e (record { closing = λ q. absurd (false≢true q); closed = λ q. absurd (cc); packets = λ _. c; ends = λ _ q. a' q; shuts = λ q. absurd (false≢true (sym b ∙ q)); stamps = λ f s. tt; creates = λ v q. absurd (cc) })
  where
    a' : is_closing p ≡ true → false ≡ true
    a' q = sym a ∙ q
from-setup p setup.AppendRecovery t a b c e = subst (λ (r : Remedy). Mends p r) e (record { closing = λ q. absurd (false≢true q); closed = λ q. absurd (cc); packets = λ _. c; ends = λ _ q. sym a ∙ q; shuts = λ q. absurd (false≢true (sym b ∙ q)); stamps = λ f s. tt; creates = λ v q. absurd (cc) })
from-setup p setup.StreamRecovery t a b c e = subst (λ (r : Remedy). Mends p r) e (record { closing = λ q. absurd (false≢true q); closed = λ q. absurd (cc); packets = λ _. c; ends = λ _ q. sym a ∙ q; shuts = λ q. absurd (false≢true (sym b ∙ q)); stamps = λ f s. tt; creates = λ v q. absurd (cc) })
from-setup p setup.CloseRecovery t a b c e = subst (λ (r : Remedy). Mends p r) e (record { closing = λ _. a; closed = λ q. absurd (cc); packets = λ _. c; ends = λ _ _. refl; shuts = λ _. refl; stamps = λ f s. tt; creates = λ v q. absurd (cc) })

setup-mends : (p : Phase) (s : Setup) → is_closing p ≡ ends_setup s → writes_no_more p ≡ ends_setup s → has_packets p ≡ true → Mends p (remedy_after s)
setup-mends p setup.Create a b c = tt
setup-mends p setup.Append a b c = from-setup p setup.Append setup.AppendRecovery a b c refl
setup-mends p setup.AppendRecovery a b c = from-setup p setup.AppendRecovery setup.AppendRecovery a b c refl
setup-mends p setup.StreamRecovery a b c = from-setup p setup.StreamRecovery setup.StreamRecovery a b c refl
setup-mends p setup.CloseRecovery a b c = from-setup p setup.CloseRecovery setup.CloseRecovery a b c refl

accepted-mends : (s : Setup) (t : Stamp) (r : Remedy) → remedy_accepted s ≡ Some r → Mends (phase.Accepted s t) r
accepted-mends setup.Create t r e = subst (λ (x : Remedy). Mends (phase.Accepted setup.Create t) x) (same_Some _ r e) tt
accepted-mends setup.Append t r e = subst (λ (x : Remedy). Mends (phase.Accepted setup.Append t) x) (same_Some _ r e) (setup-mends (phase.Accepted setup.Append t) setup.Append refl refl refl)
accepted-mends setup.AppendRecovery t r e = subst (λ (x : Remedy). Mends (phase.Accepted setup.AppendRecovery t) x) (same_Some _ r e) (setup-mends (phase.Accepted setup.AppendRecovery t) setup.AppendRecovery refl refl refl)
accepted-mends setup.StreamRecovery t r e = subst (λ (x : Remedy). Mends (phase.Accepted setup.StreamRecovery t) x) (same_Some _ r e) (setup-mends (phase.Accepted setup.StreamRecovery t) setup.StreamRecovery refl refl refl)
accepted-mends setup.CloseRecovery t r e = absurd (none-some r e)

in-mends : (p : Phase) (r : Remedy) → remedy_in p ≡ Some r → Mends p r
in-mends (phase.Requested s t) r e = subst (λ (x : Remedy). Mends (phase.Requested s t) x) (same_Some _ r e) (setup-mends (phase.Requested s t) s refl refl refl)
in-mends (phase.Accepted s t) r e = accepted-mends s t r e
in-mends phase.Opened r e = subst (λ (x : Remedy). Mends phase.Opened x) (same_Some _ r e) (setup-mends phase.Opened setup.AppendRecovery refl refl refl)
in-mends (phase.Streaming sent) r e = subst (λ (x : Remedy). Mends (phase.Streaming sent) x) (same_Some _ r e) (setup-mends (phase.Streaming sent) setup.StreamRecovery refl refl refl)
in-mends phase.Closing r e = subst (λ (x : Remedy). Mends phase.Closing x) (same_Some _ r e) (setup-mends phase.Closing setup.CloseRecovery refl refl refl)
in-mends phase.Closed r e = absurd (none-some r e)
in-mends (phase.Wanted s) r e = absurd (none-some r e)
in-mends (phase.Stamped s t) r e = absurd (none-some r e)
in-mends phase.Finished r e = absurd (none-some r e)
in-mends phase.Completed r e = absurd (none-some r e)
in-mends (phase.Failed f) r e = absurd (none-some r e)

-- WHAT COMES ON THE CONNECTION

ended-as : (x : WriterRecord) (o : Option Remedy) → remedy_in x.phase ≡ o → Follows x (ended_as x o)
ended-as x None e = follows-same x
ended-as x (Some r) e = fail-follows x r 0 (in-mends x.phase r e)

ended-follows : (x : WriterRecord) → Follows x (ended x)
unfolding ended
ended-follows x = ended-as x (remedy_in x.phase) refl

-- an ack comes only in these phases
pub record AckPhase (p : Phase) : Type 0 where
  pub remedies : (r : Remedy) → remedy_at_ack p ≡ Some r → remedy_in p ≡ Some r
  pub packets : (r : Remedy) → remedy_at_ack p ≡ Some r → has_packets p ≡ true
  pub goes : (r : Remedy) → remedy_at_ack p ≡ Some r → PhaseGoes p (phase_acked false p)

stays-phase : (p : Phase) → PhaseGoes p p
stays-phase p = record { closing = λ q. q; closed = λ q. q; packets = λ q. q; ends = λ _ q. q; shuts = λ q. q; stamps = λ f s. s; creates = λ v q. q }

ack-phase : (p : Phase) → AckPhase p
ack-phase (phase.Requested s t) = record { remedies = λ r e. absurd (none-some r e); packets = λ r e. refl; goes = λ r e. stays-phase (phase.Requested s t) }
ack-phase (phase.Accepted s t) = record { remedies = λ r e. e; packets = λ r e. refl; goes = λ r e. stays-phase (phase.Accepted s t) }
ack-phase phase.Opened = record { remedies = λ r e. e; packets = λ r e. refl; goes = λ r e. stays-phase phase.Opened }
ack-phase (phase.Streaming sent) = record {
  remedies = λ r e. e;
  packets = λ r e. refl;
  goes = λ r e. record { closing = λ q. q; closed = λ q. absurd (cc); packets = λ _. refl; ends = λ _ q. q; shuts = λ q. q; stamps = λ f s. s; creates = λ v q. absurd (cc) };
}
ack-phase phase.Closing = record { remedies = λ r e. e; packets = λ r e. refl; goes = λ r e. stays-phase phase.Closing }
ack-phase phase.Closed = record { remedies = λ r e. e; packets = λ r e. absurd (none-some r e); goes = λ r e. stays-phase phase.Closed }
ack-phase (phase.Wanted s) = record { remedies = λ r e. e; packets = λ r e. absurd (none-some r e); goes = λ r e. stays-phase (phase.Wanted s) }
ack-phase (phase.Stamped s t) = record { remedies = λ r e. e; packets = λ r e. refl; goes = λ r e. stays-phase (phase.Stamped s t) }
ack-phase phase.Finished = record { remedies = λ r e. e; packets = λ r e. absurd (none-some r e); goes = λ r e. stays-phase phase.Finished }
ack-phase phase.Completed = record { remedies = λ r e. e; packets = λ r e. absurd (none-some r e); goes = λ r e. stays-phase phase.Completed }
ack-phase (phase.Failed f) = record { remedies = λ r e. e; packets = λ r e. absurd (none-some r e); goes = λ r e. stays-phase (phase.Failed f) }

drop-few : (xs : List Packet) (i : ℕ) (p : Packet) → slice_get (drop 1 xs) i ≡ Some p → (j : ℕ) × (slice_get xs j ≡ Some p)
drop-few [] i p e = (i, e)
drop-few (x ∷ xs) i p e = (suc i, e)

acked-few : (s : StreamState) (o : Option Packet) (i : ℕ) (p : Packet) → slice_get (acked_packet s o).unacked i ≡ Some p → (j : ℕ) × (slice_get s.unacked j ≡ Some p)
acked-few s None i p e = (i, e)
acked-few s (Some q) i p e = drop-few s.unacked i p e

max-above : (a b : ℕ) → a ≤ max a b
max-above a b = omega arith

acked-rises : (s : StreamState) (o : Option Packet) → s.acked ≤ (acked_packet s o).acked
acked-rises s None = omega arith
acked-rises s (Some p) = max-above s.acked (packet_end p)

-- the oldest packet is acked
oldest-follows : (x : WriterRecord) (r : Remedy) → remedy_at_ack x.phase ≡ Some r → Follows x (acked_oldest x)
oldest-follows x r e = by (oldest_is_last x.stream) refl
  where
    few : (i : ℕ) (p : Packet) → slice_get (oldest_acked x.stream).unacked i ≡ Some p → (j : ℕ) × (slice_get x.stream.unacked j ≡ Some p)
    few i p q = acked-few x.stream (slice_get x.stream.unacked 0) i p q

    found : (o : Option Packet) → slice_get x.stream.unacked 0 ≡ o → is_last o ≡ true → WriterEnds x → is_closing x.phase ≡ true
    found None q l h = absurd (false≢true l)
    found (Some p) q l h = h.last ((ack-phase x.phase).packets r e) 0 p q l

    by : (b : Bool) → oldest_is_last x.stream ≡ b → Follows x (record x { stream = oldest_acked x.stream; phase = phase_acked b x.phase })
    by false q = by-phase x (record x { stream = oldest_acked x.stream; phase = phase_acked false x.phase }) refl refl few (acked-rises x.stream (slice_get x.stream.unacked 0)) ((ack-phase x.phase).goes r e)
    by true q = record {
      ends = λ h. record {
        shut = h.shut;
        closing = λ _. h.closing (found (slice_get x.stream.unacked 0) refl q h);
        closed = λ t. absurd (cc);
        last = λ t. absurd (false≢true t);
      };
      shuts = λ h t. refl;
      stamps = λ f s. tt;
      acks = λ t. absurd (false≢true t);
      creates = λ v t. absurd (cc);
    }

verdict-follows : (x : WriterRecord) (r : Remedy) (v : Verdict) → remedy_at_ack x.phase ≡ Some r → Follows x (acked_as x r v)
verdict-follows x r verdict.Good e = oldest-follows x r e
verdict-follows x r (verdict.Bad place) e = fail-follows x r place (in-mends x.phase r ((ack-phase x.phase).remedies r e))

acked-in : (x : WriterRecord) (a : Ack) (o : Option Remedy) → remedy_at_ack x.phase ≡ o → Follows x (acked_in x a o)
acked-in x a None e = follows-same x
acked-in x a (Some r) e = verdict-follows x r _ e

acked-follows : (x : WriterRecord) (a : Ack) → Follows x (acked x a)
unfolding acked
acked-follows x a = acked-in x a (remedy_at_ack x.phase) refl

setup-in : (x : WriterRecord) (p : Phase) (good : Bool) (bad : Option NodeId) → x.phase ≡ p → Follows x (setup_answered_in x p good bad)
setup-in x (phase.Requested s t) true bad e =
    by-phase x (record x { phase = phase.Accepted s t }) refl refl (same-packets x (record x { phase = phase.Accepted s t }) refl) (same-acked x)
    (subst (λ (p : Phase). PhaseGoes p (phase.Accepted s t)) (sym e) (record { closing = λ q. q; closed = λ q. absurd (cc); packets = λ _. refl; ends = λ _ q. q; shuts = λ q. q; stamps = λ f k. tt; creates = λ v q. absurd (cc) }))
setup-in x (phase.Requested s t) false bad e = fail-follows x (remedy_after s) _ (subst (λ (p : Phase). Mends p (remedy_after s)) (sym e) (setup-mends (phase.Requested s t) s refl refl refl))
setup-in x phase.Closed good bad e = follows-same x
setup-in x (phase.Wanted s) good bad e = follows-same x
setup-in x (phase.Stamped s t) good bad e = follows-same x
setup-in x (phase.Accepted s t) good bad e = follows-same x
setup-in x phase.Opened good bad e = follows-same x
setup-in x (phase.Streaming sent) good bad e = follows-same x
setup-in x phase.Closing good bad e = follows-same x
setup-in x phase.Finished good bad e = follows-same x
setup-in x phase.Completed good bad e = follows-same x
setup-in x (phase.Failed f) good bad e = follows-same x

setup-follows : (x : WriterRecord) (a : Response) (bad : Option NodeId) → Follows x (setup_answered x a bad)
unfolding setup_answered
setup-follows x a bad = setup-in x x.phase (is_success a.status) bad refl

pub hears-follows : (x : WriterRecord) (n : Next) → Follows x (writer_hears x n)
hears-follows x (message (response r)) = setup-follows x r (named_member x.members r.first_bad)
hears-follows x (message (ack a)) = acked-follows x a
hears-follows x (message (request q)) = ended-follows x
hears-follows x (message (packet p)) = ended-follows x
hears-follows x (message (read_status s)) = ended-follows x
hears-follows x (message (recovery_answer a)) = ended-follows x
hears-follows x the_end = ended-follows x

dialled-in-follows : (x : WriterRecord) (p : Phase) (b : Bool) → x.phase ≡ p → Follows x (dialled_in x p b)
dialled-in-follows x (phase.Stamped s t) true e =
    by-phase x (record x { phase = phase.Requested s t }) refl refl (same-packets x (record x { phase = phase.Requested s t }) refl) (same-acked x)
    (subst (λ (p : Phase). PhaseGoes p (phase.Requested s t)) (sym e) (record { closing = λ q. q; closed = λ q. absurd (cc); packets = λ _. refl; ends = λ _ q. q; shuts = λ q. q; stamps = λ f k. tt; creates = λ v q. absurd (cc) }))
dialled-in-follows x (phase.Stamped s t) false e = fail-follows x (remedy_after s) 0 (subst (λ (p : Phase). Mends p (remedy_after s)) (sym e) (setup-mends (phase.Stamped s t) s refl refl refl))
dialled-in-follows x phase.Closed b e = follows-same x
dialled-in-follows x (phase.Wanted s) b e = follows-same x
dialled-in-follows x (phase.Requested s t) b e = follows-same x
dialled-in-follows x (phase.Accepted s t) b e = follows-same x
dialled-in-follows x phase.Opened b e = follows-same x
dialled-in-follows x (phase.Streaming sent) b e = follows-same x
dialled-in-follows x phase.Closing b e = follows-same x
dialled-in-follows x phase.Finished b e = follows-same x
dialled-in-follows x phase.Completed b e = follows-same x
dialled-in-follows x (phase.Failed f) b e = follows-same x

pub dialled-follows : (x : WriterRecord) (b : Bool) → Follows x (dialled x b)
unfolding dialled
dialled-follows x b = dialled-in-follows x x.phase b refl

-- OWN STEPS

-- what a step sends: a last packet only where it comes to its end
abbrev pub SendsEnd : WriterRecord → Action → WriterRecord → Type 0
SendsEnd x (action.Send p) y = p.last ≡ true → (writes_no_more y.phase ≡ true) × (packet_end p ≡ written_in y.stream) × (y.phase ≡ phase.Closing)
SendsEnd x _ y = Unit {0}

pub record OwnEnds (x : WriterRecord) (a : Action) (y : WriterRecord) : Type 0 where
  pub follows : Follows x y
  pub sends : WriterEnds x → SendsEnd x a y

abbrev StepEnds : WriterRecord → Step → Type 0
StepEnds x s = OwnEnds x s.action s.writer

waits-still : (x : WriterRecord) → StepEnds x (record { action = action.Wait; writer = x })
waits-still x = record { follows = follows-same x; sends = λ h. tt }

-- the writer streams on, and no command waits
open-ends : (x : WriterRecord) → has_packets x.phase ≡ true → is_closing x.phase ≡ false → writes_no_more x.phase ≡ false → StepEnds x (open_step x)
open-ends x a b c = record {
  follows = record {
    ends = λ h. record { shut = λ e. absurd (none-some _ e); closing = λ e. absurd (false≢true e); closed = λ e. absurd (cc); last = λ _ i p q l. absurd (false≢true (sym b ∙ h.last a i p q l)) };
    shuts = λ h e. absurd (false≢true (sym c ∙ e));
    stamps = λ f s. tt;
    acks = λ _. (a, same-acked x);
    creates = λ t q. absurd (cc);
  };
  sends = λ h. tt;
}

pub opened-ends : (x : WriterRecord) → x.phase ≡ phase.Opened → StepEnds x (open_step x)
opened-ends x e = open-ends x (ap has_packets e) (ap is_closing e) (ap writes_no_more e)

pub completed-ends : (x : WriterRecord) → x.phase ≡ phase.Completed → StepEnds x (completed_step x)
completed-ends x e = record {
  follows = record {
    ends = λ h. record { shut = λ q. absurd (none-some _ q); closing = λ q. absurd (false≢true q); closed = λ _. h.shut (h.closing (ap is_closing e)); last = λ q. absurd (false≢true q) };
    shuts = λ h q. refl;
    stamps = λ f s. tt;
    acks = λ q. absurd (false≢true q);
    creates = λ t q. absurd (cc);
  };
  sends = λ h. tt;
}

-- a phase of streaming
record IsStreaming (x : WriterRecord) : Type 0 where
  pub sent : ℕ
  pub is : x.phase ≡ phase.Streaming sent

streams-on : (x y : WriterRecord) (n : ℕ) → IsStreaming x → y.phase ≡ phase.Streaming n → (WriterEnds x → y.waiting ≡ Some waiting.Close → is_open y.intake.stand ≡ false)
    → (WriterEnds x → (i : ℕ) (p : Packet) → slice_get y.stream.unacked i ≡ Some p → p.last ≡ true → ⊥) → x.stream.acked ≤ y.stream.acked → Follows x y
streams-on x y n s e w few le = record {
  ends = λ h. record {
    shut = w h;
    closing = λ q. absurd (false≢true (sym (ap is_closing e) ∙ q));
    closed = λ q. absurd (apart (sym e ∙ q));
    last = λ _ i p q l. absurd (few h i p q l);
  };
  shuts = λ h q. absurd (false≢true (sym (ap writes_no_more s.is) ∙ q));
  stamps = λ f k. subst (λ (p : Phase). SetsNoId f p) (sym e) tt;
  acks = λ _. (ap has_packets s.is, le);
  creates = λ t q. absurd (unlike t (sym e ∙ q));
}
  where
    apart : phase.Streaming n ≡ phase.Closed → ⊥
    apart q = cc

    unlike : (t : Stamp) → phase.Streaming n ≡ phase.Stamped setup.Create t → ⊥
    unlike t q = cc

-- a streaming writer has formed no last packet
no-last : (x : WriterRecord) → IsStreaming x → WriterEnds x → (i : ℕ) (p : Packet) → slice_get x.stream.unacked i ≡ Some p → p.last ≡ true → ⊥
no-last x s h i p q l = false≢true (sym (ap is_closing s.is) ∙ h.last (ap has_packets s.is) i p q l)

push-none : (xs : List Packet) (q : Packet) → ((i : ℕ) (p : Packet) → slice_get xs i ≡ Some p → p.last ≡ true → ⊥) → q.last ≡ false → (i : ℕ) (p : Packet) → slice_get (xs ++ q ∷ []) i ≡ Some p → p.last ≡ true → ⊥
push-none [] q h n zero p e l = false≢true (sym n ∙ ap (λ (x : Packet). x.last) (same_Some q p e) ∙ l)
push-none [] q h n (suc i) p e l = none-some p e
push-none (x ∷ xs) q h n zero p e l = h zero p e l
push-none (x ∷ xs) q h n (suc i) p e l = push-none xs q (λ j y r. h (suc j) y r) n i p e l

-- a close that waits waited before
close-formed : (b : Bool) (n : ℤ) (o : Option Waiting) → sync_formed_as b n o ≡ Some waiting.Close → o ≡ Some waiting.Close
close-formed true n (Some (waiting.Sync m p)) e = absurd (cc)
close-formed true n (Some (waiting.Flush m)) e = e
close-formed true n (Some waiting.Opening) e = e
close-formed true n (Some waiting.Close) e = e
close-formed true n None e = e
close-formed false n o e = e

form-ends : (x : WriterRecord) (d : DuePacket) → IsStreaming x → (d ≡ due.Last → x.waiting ≡ Some waiting.Close) → StepEnds x (form_step x d)
form-ends x (due.Data end is_sync) s l = record {
  follows = streams-on x _ _ s refl (λ h e. h.shut (close-formed is_sync (pos x.stream.seqno) x.waiting e)) (λ h. push-none x.stream.unacked (next_packet x.stream end is_sync) (no-last x s h) refl) (same-acked x);
  sends = λ h e. absurd (false≢true e);
}
form-ends x due.Sync s l = record {
  follows = streams-on x _ _ s refl (λ h e. h.shut (close-formed true (pos x.stream.seqno) x.waiting e)) (λ h. push-none x.stream.unacked (sync_packet x.stream) (no-last x s h) refl) (same-acked x);
  sends = λ h e. absurd (false≢true e);
}
form-ends x due.Last s l = record {
  follows = record {
    ends = λ h. record { shut = h.shut; closing = λ _. l refl; closed = λ q. absurd (cc); last = λ _ i p q t. refl };
    shuts = λ h q. refl;
    stamps = λ f k. tt;
    acks = λ q. (ap has_packets s.is, same-acked x);
    creates = λ t q. absurd (cc);
  };
  sends = λ h e. (refl, omega arith, refl);
}

-- the last packet is due only where a close waits
empty-last : (o : Option Waiting) (s : StreamState) → empty_due o s ≡ Some due.Last → o ≡ Some waiting.Close
empty-last (Some waiting.Close) s e = refl
empty-last (Some (waiting.Sync n sync.Due)) s e = absurd (cc)
empty-last (Some (waiting.Sync n (sync.Formed q))) s e = absurd (cc)
empty-last (Some (waiting.Flush n)) s e = absurd (cc)
empty-last (Some waiting.Opening) s e = absurd (cc)
empty-last None s e = absurd (cc)

data-isnt-last : (o : Option Waiting) (end : ℕ) → Some (data_due o end) ≡ Some due.Last → ⊥
data-isnt-last o end e = cc

due-last : (o : Option Waiting) (s : StreamState) → due_in o s ≡ Some due.Last → o ≡ Some waiting.Close
due-last o s =
    if-each (λ (d : Option DuePacket). d ≡ Some due.Last → o ≡ Some waiting.Close) (nat_le (greatest_end s.rule.chunk (start_in s)) (written_in s)) (Some (data_due o (greatest_end s.rule.chunk (start_in s))))
    (if is_flushing o && nat_lt s.sent (written_in s) then Some (data_due o (written_in s)) else empty_due o s) (λ _ e. absurd (data-isnt-last o _ e))
    (λ _. if-each (λ (d : Option DuePacket). d ≡ Some due.Last → o ≡ Some waiting.Close) (is_flushing o && nat_lt s.sent (written_in s)) (Some (data_due o (written_in s))) (empty_due o s)
    (λ _ e. absurd (data-isnt-last o _ e)) (λ _ e. empty-last o s e))

now-last : (x : WriterRecord) → due_now x ≡ Some due.Last → x.waiting ≡ Some waiting.Close
now-last x =
    if-each (λ (d : Option DuePacket). d ≡ Some due.Last → x.waiting ≡ Some waiting.Close) (nat_lt (length x.stream.unacked) MAX_UNACKED) (due_in x.waiting x.stream) None
    (λ _. due-last x.waiting x.stream) (λ _ e. absurd (none-some _ e))

-- a length is reached, and no command waits
reached-ends : (x : WriterRecord) (n : ℕ) → IsStreaming x → StepEnds x (reach_step_as x (Some n))
reached-ends x n s = record { follows = streams-on x _ s.sent s s.is (λ h e. absurd (none-some _ e)) (λ h. no-last x s h) (same-acked x); sends = λ h. tt }

-- where no command is given the writer stays
free-ends : (x : WriterRecord) (o : Option Waiting) → x.queue ≡ [] → StepEnds x (free_step_as x o)
free-ends x (Some c) e = waits-still x
free-ends x None e = subst (λ (o : Option Command). StepEnds x (take_first x o)) (sym (ap (λ (q : List Command). slice_get q 0) e)) (waits-still x)

reach-ends : (x : WriterRecord) (o : Option ℕ) → IsStreaming x → x.queue ≡ [] → StepEnds x (reach_step_as x o)
reach-ends x (Some n) s e = reached-ends x n s
reach-ends x None s e = free-ends x x.waiting e

due-ends : (x : WriterRecord) (o : Option DuePacket) → due_now x ≡ o → IsStreaming x → x.queue ≡ [] → StepEnds x (due_step x o)
due-ends x (Some d) q s e = form-ends x d s (λ l. now-last x (q ∙ ap (λ (y : DuePacket). Some y) l))
due-ends x None q s e = reach-ends x (reached_length x.waiting x.stream) s e

stream-ends : (x : WriterRecord) (sent : ℕ) (o : Option Packet) → x.phase ≡ phase.Streaming sent → slice_get x.stream.unacked sent ≡ o → x.queue ≡ [] → StepEnds x (stream_step_as x sent o)
stream-ends x sent (Some p) e q k = record {
  follows = streams-on x _ _ (record { sent = sent; is = e }) refl (λ h. h.shut) (λ h. no-last x (record { sent = sent; is = e }) h) (same-acked x);
  sends = λ h l. absurd (no-last x (record { sent = sent; is = e }) h sent p q l);
}
stream-ends x sent None e q k = due-ends x (due_now x) refl (record { sent = sent; is = e }) k

dial-ends : (x : WriterRecord) (s : Setup) (t : Stamp) (ms : List NodeId) → StepEnds x (dial_step_as x s t ms)
dial-ends x s t [] = waits-still x
dial-ends x s t (m ∷ ms) = record { follows = follows-same x; sends = λ h. tt }

accepted-ends : (x : WriterRecord) (s : Setup) (t : Stamp) → x.phase ≡ phase.Accepted s t → StepEnds x (accepted_step x s t)
accepted-ends x setup.Create t e = open-ends x (ap has_packets e) (ap is_closing e) (ap writes_no_more e)
accepted-ends x setup.Append t e = record { follows = follows-same x; sends = λ h. tt }
accepted-ends x setup.AppendRecovery t e = record { follows = follows-same x; sends = λ h. tt }
accepted-ends x setup.StreamRecovery t e = record { follows = follows-same x; sends = λ h. tt }
accepted-ends x setup.CloseRecovery t e = record { follows = follows-same x; sends = λ h. tt }

-- a failed writer
failed-first-ends : (x : WriterRecord) (d : Failure) (o : Option Command) → x.queue ≡ [] → slice_get x.queue 0 ≡ o → StepEnds x (failed_first x d o)
failed-first-ends x d None e q = waits-still x
failed-first-ends x d (Some c) e q = absurd (none-some c (sym (ap (λ (cs : List Command). slice_get cs 0) e) ∙ q))

failed-ends : (x : WriterRecord) (d : Failure) (o : Option Waiting) → x.phase ≡ phase.Failed d → x.queue ≡ [] → StepEnds x (failed_step_as x d o)
failed-ends x d None e q = failed-first-ends x d (slice_get x.queue 0) q refl
failed-ends x d (Some c) e q = record {
  follows = record {
    ends = λ h. record { shut = λ t. absurd (none-some _ t); closing = λ t. absurd (false≢true (sym (ap is_closing e) ∙ t)); closed = h.closed; last = h.last };
    shuts = λ h t. t;
    stamps = λ f s. s;
    acks = λ t. (t, same-acked x);
    creates = λ v t. t;
  };
  sends = λ h. tt;
}

step-ends : (x : WriterRecord) (p : Phase) → x.phase ≡ p → x.queue ≡ [] → StepEnds x (step_in x p)
step-ends x phase.Closed e q = free-ends x x.waiting q
step-ends x (phase.Wanted s) e q = record { follows = follows-same x; sends = λ h. tt }
step-ends x (phase.Stamped s t) e q = dial-ends x s t x.members
step-ends x (phase.Requested s t) e q = free-ends x x.waiting q
step-ends x (phase.Accepted s t) e q = accepted-ends x s t e
step-ends x phase.Opened e q = opened-ends x e
step-ends x (phase.Streaming sent) e q = stream-ends x sent (slice_get x.stream.unacked sent) e refl q
step-ends x phase.Closing e q = free-ends x x.waiting q
step-ends x phase.Finished e q = record { follows = follows-same x; sends = λ h. tt }
step-ends x phase.Completed e q = completed-ends x e
step-ends x (phase.Failed f) e q = failed-ends x f x.waiting e q

pub own-step-ends : (x : WriterRecord) → x.queue ≡ [] → OwnEnds x (own_step x).action (own_step x).writer
unfolding own_step
own-step-ends x q = step-ends x x.phase refl q

-- COMMANDS

-- what a command that is given and taken brings: none of it a byte where no more is written
pub record TakenEnds (x : WriterRecord) (a : Action) (y : WriterRecord) (bytes : List ℕ) : Type 0 where
  pub follows : Follows x y
  pub bytes_none : WriterEnds x → writes_no_more x.phase ≡ true → a ≡ action.Took → bytes ≡ []
  pub sends : (p : Packet) → a ≡ action.Send p → ⊥

-- a writer that was given this command, which fits
record IsGiven (x z : WriterRecord) (c : Command) : Type 0 where
  pub queue : z.queue ≡ c ∷ []
  pub waiting_is : z.waiting ≡ x.waiting
  pub phase_is : z.phase ≡ x.phase
  pub stream_is : z.stream ≡ x.stream
  pub stand_is : z.intake.stand ≡ stand_after x.intake.stand c
  pub fits_so : fits x.intake.stand c ≡ true

admitted-is : (i j : Intake) (c : Command) → admitted i c ≡ Ok j → (j ≡ intake_after i c) × (fits i.stand c ≡ true)
unfolding admitted
admitted-is i j c = go (is_too_much i c) (fits i.stand c) refl
  where
    go : (a b : Bool) → fits i.stand c ≡ b → (if a then Err command_fault.TooMuch else if b then Ok (intake_after i c) else Err command_fault.Unfit) ≡ Ok j → (j ≡ intake_after i c) × (fits i.stand c ≡ true)
    go true b q e = absurd (cc)
    go false true q e = (cc, q)
    go false false q e = absurd (cc)

given-as-is : (x : WriterRecord) (c : Command) (r : Result Intake CommandFault) → admitted x.intake c ≡ r → x.queue ≡ [] → not (is_empty (given_as x c r).queue) ≡ true → IsGiven x (given_as x c r) c
given-as-is x c (Ok i) q e t =
    let a = admitted-is x.intake i c q in
    record { queue = ap (λ (y : List Command). y ++ c ∷ []) e; waiting_is = refl; phase_is = refl; stream_is = refl; stand_is = ap (λ (y : Intake). y.stand) a.0; fits_so = a.1 }
given-as-is x c (Err d) q e t = absurd (false≢true (sym (ap (λ (y : List Command). not (is_empty y)) e) ∙ t))

given-is : (x : WriterRecord) (c : Command) → x.queue ≡ [] → not (is_empty (given x c).queue) ≡ true → IsGiven x (given x c) c
given-is x c e t = given-as-is x c (admitted x.intake c) refl e t

not-taken : (q : List Command) (c : Command) → q ≡ c ∷ [] → is_empty q ≡ true → ⊥
not-taken q c e t = false≢true (sym (ap is_empty e) ∙ t)

-- a step by which the command is taken
abbrev Takes : WriterRecord → Command → Step → Type 0
Takes x c s = is_empty s.writer.queue ≡ true → TakenEnds x s.action s.writer (command_bytes x c)

-- a step that leaves the queue
left : (x z : WriterRecord) (c : Command) (s : Step) → IsGiven x z c → s.writer.queue ≡ z.queue → Takes x c s
left x z c s g e t = absurd (not-taken s.writer.queue c (e ∙ g.queue) t)

-- an opening: a pipeline is wanted
opens : (x z y : WriterRecord) (s : Setup) (bytes : List ℕ) → begins_or_ends s ≡ true → ends_setup s ≡ false → y.waiting ≡ Some waiting.Opening → y.phase ≡ phase.Wanted s → bytes ≡ [] → TakenEnds x action.Took y bytes
opens x z y s bytes b n w e k = record {
  follows = record {
    ends = λ h. record {
      shut = λ q. absurd (apart (same_Some waiting.Opening waiting.Close (sym w ∙ q)));
      closing = λ q. absurd (false≢true (sym (ap is_closing e ∙ n) ∙ q));
      closed = λ q. absurd (differ (sym e ∙ q));
      last = λ q. absurd (false≢true (sym (ap has_packets e ∙ ap (λ (t : Bool). not t || ends_setup s) b ∙ n) ∙ q));
    };
    shuts = λ h q. ap writes_no_more e ∙ b;
    stamps = λ f t. subst (λ (p : Phase). SetsNoId f p) (sym e) tt;
    acks = λ q. absurd (false≢true (sym (ap has_packets e ∙ ap (λ (t : Bool). not t || ends_setup s) b ∙ n) ∙ q));
    creates = λ t q. absurd (unlike t (sym e ∙ q));
  };
  bytes_none = λ h q r. k;
  sends = λ p q. absurd (cc);
}
  where
    apart : waiting.Opening ≡ waiting.Close → ⊥
    apart q = cc

    differ : phase.Wanted s ≡ phase.Closed → ⊥
    differ q = cc

    unlike : (t : Stamp) → phase.Wanted s ≡ phase.Stamped setup.Create t → ⊥
    unlike t q = cc

-- a command that waits from now on, or writes, in a phase that isn't one of an end
goes-on : (x z y : WriterRecord) (c : Command) (bytes : List ℕ) → IsGiven x z c → (WriterEnds x → writes_no_more x.phase ≡ true → ⊥) → (WriterEnds x → is_closing x.phase ≡ true → ⊥) → y.phase ≡ x.phase → y.stream.unacked ≡ x.stream.unacked
    → (WriterEnds x → y.waiting ≡ Some waiting.Close → is_open y.intake.stand ≡ false) → z.stream.acked ≤ y.stream.acked → TakenEnds x action.Took y bytes
goes-on x z y c bytes g more open_yet e few w le = record {
  follows = record {
    ends = λ h. record {
      shut = w h;
      closing = λ q. absurd (open_yet h (sym (ap is_closing e) ∙ q));
      closed = λ q. absurd (more h (ap writes_no_more (sym e ∙ q)));
      last = λ q i p r l. ap is_closing e ∙ h.last (sym (ap has_packets e) ∙ q) i p (ap (λ (xs : List Packet). slice_get xs i) (sym few) ∙ r) l;
    };
    shuts = λ h q. absurd (more h q);
    stamps = λ f t. subst (λ (p : Phase). SetsNoId f p) (sym e) t;
    acks = λ q. (sym (ap has_packets e) ∙ q, omega (arith, ap (λ (v : StreamState). v.acked) g.stream_is, le));
    creates = λ t q. sym e ∙ q;
  };
  bytes_none = λ h q r. absurd (more h q);
  sends = λ p q. absurd (cc);
}

-- where more is written, or the block is closed
abbrev Free : WriterRecord → Type 0
Free x = (WriterEnds x → writes_no_more x.phase ≡ true → ⊥) × (WriterEnds x → is_closing x.phase ≡ true → ⊥)

taken-ends : (x z : WriterRecord) (c : Command) → IsGiven x z c → x.waiting ≡ None → ((is_open x.intake.stand ≡ true) → Free x) → TakenEnds x action.Took (taken_as z c) (command_bytes x c)
taken-ends x z (command.Create ms) g n free = opens x z (taken_as z (command.Create ms)) setup.Create [] refl refl refl refl refl
taken-ends x z (command.Append ms) g n free = opens x z (taken_as z (command.Append ms)) setup.Append [] refl refl refl refl refl
taken-ends x z (command.Write v) g n free =
    let k = free g.fits_so in
    goes-on x z (taken_as z (command.Write v)) (command.Write v) v g k.0 k.1 g.phase_is (ap (λ (s : StreamState). s.unacked) g.stream_is) (λ h e. absurd (none-some _ (sym (g.waiting_is ∙ n) ∙ e))) (same-acked z)
taken-ends x z (command.Fill m) g n free =
    let k = free g.fits_so in
    goes-on x z (taken_as z (command.Fill m)) (command.Fill m) _ g k.0 k.1 g.phase_is (ap (λ (s : StreamState). s.unacked) g.stream_is) (λ h e. absurd (none-some _ (sym (g.waiting_is ∙ n) ∙ e))) (same-acked z)
taken-ends x z command.Hflush g n free =
    let k = free g.fits_so in
    goes-on x z (taken_as z command.Hflush) command.Hflush _ g k.0 k.1 g.phase_is (ap (λ (s : StreamState). s.unacked) g.stream_is) (λ h e. absurd (apart _ e)) (same-acked z)
  where
    apart : (m : ℕ) → Some (waiting.Flush m) ≡ Some waiting.Close → ⊥
    apart m e = cc
taken-ends x z command.Hsync g n free =
    let k = free g.fits_so in
    goes-on x z (taken_as z command.Hsync) command.Hsync _ g k.0 k.1 g.phase_is (ap (λ (s : StreamState). s.unacked) g.stream_is) (λ h e. absurd (apart _ _ e)) (same-acked z)
  where
    apart : (m : ℕ) (q : SyncPacket) → Some (waiting.Sync m q) ≡ Some waiting.Close → ⊥
    apart m q e = cc
taken-ends x z command.Close g n free =
    let k = free g.fits_so in
    goes-on x z (taken_as z command.Close) command.Close _ g k.0 k.1 g.phase_is (ap (λ (s : StreamState). s.unacked) g.stream_is) (λ h e. ap is_open g.stand_is) (same-acked z)

first-takes : (x z : WriterRecord) (c : Command) (o : Option Command) → IsGiven x z c → slice_get z.queue 0 ≡ o → x.waiting ≡ None → ((is_open x.intake.stand ≡ true) → Free x) → Takes x c (take_first z o)
first-takes x z c None g e n free t = absurd (not-taken z.queue c g.queue t)
first-takes x z c (Some d) g e n free t =
    subst (λ (y : Command). TakenEnds x action.Took (taken_as z y) (command_bytes x c)) (same_Some c d (sym (ap (λ (cs : List Command). slice_get cs 0) g.queue) ∙ e)) (taken-ends x z c g n free)

free-takes : (x z : WriterRecord) (c : Command) (o : Option Waiting) → IsGiven x z c → z.waiting ≡ o → (x.waiting ≡ None → (is_open x.intake.stand ≡ true) → Free x) → Takes x c (free_step_as z o)
free-takes x z c None g e free = first-takes x z c (slice_get z.queue 0) g refl (sym g.waiting_is ∙ e) (free (sym g.waiting_is ∙ e))
free-takes x z c (Some w) g e free = left x z c (free_step_as z (Some w)) g refl

-- a failed writer answers a command
failed-answer : (x z : WriterRecord) (d : Failure) (c : Command) (a : Action) (bytes : List ℕ) → IsGiven x z c → x.waiting ≡ None → x.phase ≡ phase.Failed d → (a ≡ action.Took → ⊥) → ((p : Packet) → a ≡ action.Send p → ⊥) → TakenEnds x a (took z) bytes
failed-answer x z d c a bytes g n e k s = record {
  follows = record {
    ends = λ h. record {
      shut = λ q. absurd (none-some _ (sym (g.waiting_is ∙ n) ∙ q));
      closing = λ q. absurd (false≢true (sym (ap is_closing (g.phase_is ∙ e)) ∙ q));
      closed = λ q. absurd (differ (sym (g.phase_is ∙ e) ∙ q));
      last = λ q. absurd (false≢true (sym (ap has_packets (g.phase_is ∙ e)) ∙ q));
    };
    shuts = λ h q. ap writes_no_more (g.phase_is ∙ e);
    stamps = λ f t. subst (λ (p : Phase). SetsNoId f p) (sym (g.phase_is ∙ e)) tt;
    acks = λ q. absurd (false≢true (sym (ap has_packets (g.phase_is ∙ e)) ∙ q));
    creates = λ t q. absurd (unlike t (sym (g.phase_is ∙ e) ∙ q));
  };
  bytes_none = λ h q r. absurd (k r);
  sends = s;
}
  where
    differ : phase.Failed d ≡ phase.Closed → ⊥
    differ q = cc

    unlike : (t : Stamp) → phase.Failed d ≡ phase.Stamped setup.Create t → ⊥
    unlike t q = cc

answers-not : (n : ℕ) (a : ClientAnswer) → (action.Answered n a ≡ action.Took → ⊥) × ((p : Packet) → action.Answered n a ≡ action.Send p → ⊥)
answers-not n a = (λ e. cc, λ p e. cc)

failed-command-takes : (x z : WriterRecord) (d : Failure) (c : Command) → IsGiven x z c → x.waiting ≡ None → x.phase ≡ phase.Failed d → TakenEnds x (failed_command z d c).action (failed_command z d c).writer (command_bytes x c)
failed-command-takes x z d (command.Append ms) g n e = opens x z (opening z setup.Append ms) setup.Append [] refl refl refl refl refl
failed-command-takes x z d (command.Create ms) g n e = let k = answers-not z.taken (failure_answer d) in failed-answer x z d (command.Create ms) _ _ g n e k.0 k.1
failed-command-takes x z d (command.Write v) g n e = let k = answers-not z.taken (failure_answer d) in failed-answer x z d (command.Write v) _ _ g n e k.0 k.1
failed-command-takes x z d (command.Fill m) g n e = let k = answers-not z.taken (failure_answer d) in failed-answer x z d (command.Fill m) _ _ g n e k.0 k.1
failed-command-takes x z d command.Hflush g n e = let k = answers-not z.taken (failure_answer d) in failed-answer x z d command.Hflush _ _ g n e k.0 k.1
failed-command-takes x z d command.Hsync g n e = let k = answers-not z.taken (failure_answer d) in failed-answer x z d command.Hsync _ _ g n e k.0 k.1
failed-command-takes x z d command.Close g n e = let k = answers-not z.taken (failure_answer d) in failed-answer x z d command.Close _ _ g n e k.0 k.1

failed-first-takes : (x z : WriterRecord) (d : Failure) (c : Command) (o : Option Command) → IsGiven x z c → slice_get z.queue 0 ≡ o → x.waiting ≡ None → x.phase ≡ phase.Failed d → Takes x c (failed_first z d o)
failed-first-takes x z d c None g e n p t = absurd (not-taken z.queue c g.queue t)
failed-first-takes x z d c (Some k) g e n p t =
    subst (λ (y : Command). TakenEnds x (failed_command z d y).action (failed_command z d y).writer (command_bytes x c)) (same_Some c k (sym (ap (λ (cs : List Command). slice_get cs 0) g.queue) ∙ e)) (failed-command-takes x z d c g n p)

failed-takes : (x z : WriterRecord) (d : Failure) (c : Command) (o : Option Waiting) → IsGiven x z c → z.waiting ≡ o → x.phase ≡ phase.Failed d → Takes x c (failed_step_as z d o)
failed-takes x z d c None g e p = failed-first-takes x z d c (slice_get z.queue 0) g refl (sym g.waiting_is ∙ e) p
failed-takes x z d c (Some w) g e p = left x z c (failed_step_as z d (Some w)) g refl

dial-takes : (x z : WriterRecord) (c : Command) (s : Setup) (t : Stamp) (ms : List NodeId) → IsGiven x z c → Takes x c (dial_step_as z s t ms)
dial-takes x z c s t [] g = left x z c (dial_step_as z s t []) g refl
dial-takes x z c s t (m ∷ ms) g = left x z c (dial_step_as z s t (m ∷ ms)) g refl

accepted-takes : (x z : WriterRecord) (c : Command) (s : Setup) (t : Stamp) → IsGiven x z c → Takes x c (accepted_step z s t)
accepted-takes x z c setup.Create t g = left x z c (accepted_step z setup.Create t) g refl
accepted-takes x z c setup.Append t g = left x z c (accepted_step z setup.Append t) g refl
accepted-takes x z c setup.AppendRecovery t g = left x z c (accepted_step z setup.AppendRecovery t) g refl
accepted-takes x z c setup.StreamRecovery t g = left x z c (accepted_step z setup.StreamRecovery t) g refl
accepted-takes x z c setup.CloseRecovery t g = left x z c (accepted_step z setup.CloseRecovery t) g refl

form-takes : (x z : WriterRecord) (c : Command) (d : DuePacket) → IsGiven x z c → Takes x c (form_step z d)
form-takes x z c (due.Data end is_sync) g = left x z c (form_step z (due.Data end is_sync)) g refl
form-takes x z c due.Sync g = left x z c (form_step z due.Sync) g refl
form-takes x z c due.Last g = left x z c (form_step z due.Last) g refl

-- a streaming writer is free
streaming-free : (x : WriterRecord) (sent : ℕ) → x.phase ≡ phase.Streaming sent → Free x
streaming-free x sent e = (λ h q. false≢true (sym (ap writes_no_more e) ∙ q), λ h q. false≢true (sym (ap is_closing e) ∙ q))

reach-takes : (x z : WriterRecord) (c : Command) (sent : ℕ) (o : Option ℕ) → IsGiven x z c → x.phase ≡ phase.Streaming sent → Takes x c (reach_step_as z o)
reach-takes x z c sent (Some n) g e = left x z c (reach_step_as z (Some n)) g refl
reach-takes x z c sent None g e = free-takes x z c z.waiting g refl (λ _ _. streaming-free x sent e)

due-takes : (x z : WriterRecord) (c : Command) (sent : ℕ) (o : Option DuePacket) → IsGiven x z c → x.phase ≡ phase.Streaming sent → Takes x c (due_step z o)
due-takes x z c sent (Some d) g e = form-takes x z c d g
due-takes x z c sent None g e = reach-takes x z c sent (reached_length z.waiting z.stream) g e

stream-takes : (x z : WriterRecord) (c : Command) (sent : ℕ) (o : Option Packet) → IsGiven x z c → x.phase ≡ phase.Streaming sent → Takes x c (stream_step_as z sent o)
stream-takes x z c sent (Some p) g e = left x z c (stream_step_as z sent (Some p)) g refl
stream-takes x z c sent None g e = due-takes x z c sent (due_now z) g e

-- a close doesn't wait where nothing does
none-close : (o : Option Waiting) → o ≡ None → o ≡ Some waiting.Close → ⊥
none-close o e q = none-some waiting.Close (sym e ∙ q)

step-takes : (x z : WriterRecord) (c : Command) (p : Phase) → IsGiven x z c → x.phase ≡ p → WriterEnds x → Takes x c (step_in z p)
step-takes x z c phase.Closed g e h = free-takes x z c z.waiting g refl (λ n o. absurd (false≢true (sym (h.closed e) ∙ o)))
step-takes x z c (phase.Wanted s) g e h = left x z c (step_in z (phase.Wanted s)) g refl
step-takes x z c (phase.Stamped s t) g e h = dial-takes x z c s t z.members g
step-takes x z c (phase.Requested s t) g e h =
    free-takes x z c z.waiting g refl (λ n o. (λ k q. none-close x.waiting n (h.closing (ap is_closing e ∙ sym (ap writes_no_more e) ∙ q)), λ k q. none-close x.waiting n (h.closing q)))
step-takes x z c (phase.Accepted s t) g e h = accepted-takes x z c s t g
step-takes x z c phase.Opened g e h = left x z c (step_in z phase.Opened) g refl
step-takes x z c (phase.Streaming sent) g e h = stream-takes x z c sent (slice_get z.stream.unacked sent) g e
step-takes x z c phase.Closing g e h = free-takes x z c z.waiting g refl (λ n o. absurd (none-close x.waiting n (h.closing (ap is_closing e))))
step-takes x z c phase.Finished g e h = left x z c (step_in z phase.Finished) g refl
step-takes x z c phase.Completed g e h = left x z c (step_in z phase.Completed) g refl
step-takes x z c (phase.Failed d) g e h = failed-takes x z d c z.waiting g refl e

pub command-ends : (x : WriterRecord) (c : Command) → x.queue ≡ [] → WriterEnds x → not (is_empty (given x c).queue) ≡ true → is_empty (own_step (given x c)).writer.queue ≡ true
    → TakenEnds x (own_step (given x c)).action (own_step (given x c)).writer (command_bytes x c)
unfolding own_step
command-ends x c q h t u =
    let g = given-is x c q t in
    step-takes x (given x c) c (given x c).phase g (sym g.phase_is) h u

-- a step by which a create is taken: the writer has no packets then
abbrev Creates : Step → Type 0
Creates s = is_empty s.writer.queue ≡ true → has_packets s.writer.phase ≡ false

untaken : (z : WriterRecord) (c : Command) (s : Step) → z.queue ≡ c ∷ [] → s.writer.queue ≡ z.queue → Creates s
untaken z c s q e t = absurd (not-taken s.writer.queue c (e ∙ q) t)

first-creates : (z : WriterRecord) (ms : List NodeId) (o : Option Command) → z.queue ≡ command.Create ms ∷ [] → slice_get z.queue 0 ≡ o → Creates (take_first z o)
first-creates z ms None q e = untaken z (command.Create ms) (take_first z None) q refl
first-creates z ms (Some d) q e = subst (λ (c : Command). Creates (take_first z (Some c))) (same_Some (command.Create ms) d (sym (ap (λ (cs : List Command). slice_get cs 0) q) ∙ e)) (λ _. refl)

free-creates : (z : WriterRecord) (ms : List NodeId) (o : Option Waiting) → z.queue ≡ command.Create ms ∷ [] → Creates (free_step_as z o)
free-creates z ms None q = first-creates z ms (slice_get z.queue 0) q refl
free-creates z ms (Some c) q = untaken z (command.Create ms) (free_step_as z (Some c)) q refl

failed-first-creates : (z : WriterRecord) (d : Failure) (ms : List NodeId) (o : Option Command) → z.queue ≡ command.Create ms ∷ [] → slice_get z.queue 0 ≡ o → z.phase ≡ phase.Failed d → Creates (failed_first z d o)
failed-first-creates z d ms None q e p = untaken z (command.Create ms) (failed_first z d None) q refl
failed-first-creates z d ms (Some k) q e p = subst (λ (c : Command). Creates (failed_first z d (Some c))) (same_Some (command.Create ms) k (sym (ap (λ (cs : List Command). slice_get cs 0) q) ∙ e)) (λ _. ap has_packets p)

failed-creates : (z : WriterRecord) (d : Failure) (ms : List NodeId) (o : Option Waiting) → z.queue ≡ command.Create ms ∷ [] → z.phase ≡ phase.Failed d → Creates (failed_step_as z d o)
failed-creates z d ms None q p = failed-first-creates z d ms (slice_get z.queue 0) q refl p
failed-creates z d ms (Some c) q p = untaken z (command.Create ms) (failed_step_as z d (Some c)) q refl

dial-creates : (z : WriterRecord) (ms : List NodeId) (s : Setup) (t : Stamp) (ns : List NodeId) → z.queue ≡ command.Create ms ∷ [] → Creates (dial_step_as z s t ns)
dial-creates z ms s t [] q = untaken z (command.Create ms) (dial_step_as z s t []) q refl
dial-creates z ms s t (n ∷ ns) q = untaken z (command.Create ms) (dial_step_as z s t (n ∷ ns)) q refl

accepted-creates : (z : WriterRecord) (ms : List NodeId) (s : Setup) (t : Stamp) → z.queue ≡ command.Create ms ∷ [] → Creates (accepted_step z s t)
accepted-creates z ms setup.Create t q = untaken z (command.Create ms) (accepted_step z setup.Create t) q refl
accepted-creates z ms setup.Append t q = untaken z (command.Create ms) (accepted_step z setup.Append t) q refl
accepted-creates z ms setup.AppendRecovery t q = untaken z (command.Create ms) (accepted_step z setup.AppendRecovery t) q refl
accepted-creates z ms setup.StreamRecovery t q = untaken z (command.Create ms) (accepted_step z setup.StreamRecovery t) q refl
accepted-creates z ms setup.CloseRecovery t q = untaken z (command.Create ms) (accepted_step z setup.CloseRecovery t) q refl

form-creates : (z : WriterRecord) (ms : List NodeId) (d : DuePacket) → z.queue ≡ command.Create ms ∷ [] → Creates (form_step z d)
form-creates z ms (due.Data end is_sync) q = untaken z (command.Create ms) (form_step z (due.Data end is_sync)) q refl
form-creates z ms due.Sync q = untaken z (command.Create ms) (form_step z due.Sync) q refl
form-creates z ms due.Last q = untaken z (command.Create ms) (form_step z due.Last) q refl

reach-creates : (z : WriterRecord) (ms : List NodeId) (o : Option ℕ) → z.queue ≡ command.Create ms ∷ [] → Creates (reach_step_as z o)
reach-creates z ms (Some n) q = untaken z (command.Create ms) (reach_step_as z (Some n)) q refl
reach-creates z ms None q = free-creates z ms z.waiting q

due-creates : (z : WriterRecord) (ms : List NodeId) (o : Option DuePacket) → z.queue ≡ command.Create ms ∷ [] → Creates (due_step z o)
due-creates z ms (Some d) q = form-creates z ms d q
due-creates z ms None q = reach-creates z ms (reached_length z.waiting z.stream) q

stream-creates : (z : WriterRecord) (ms : List NodeId) (sent : ℕ) (o : Option Packet) → z.queue ≡ command.Create ms ∷ [] → Creates (stream_step_as z sent o)
stream-creates z ms sent (Some p) q = untaken z (command.Create ms) (stream_step_as z sent (Some p)) q refl
stream-creates z ms sent None q = due-creates z ms (due_now z) q

step-creates : (z : WriterRecord) (ms : List NodeId) (p : Phase) → z.queue ≡ command.Create ms ∷ [] → z.phase ≡ p → Creates (step_in z p)
step-creates z ms phase.Closed q e = free-creates z ms z.waiting q
step-creates z ms (phase.Wanted s) q e = untaken z (command.Create ms) (step_in z (phase.Wanted s)) q refl
step-creates z ms (phase.Stamped s t) q e = dial-creates z ms s t z.members q
step-creates z ms (phase.Requested s t) q e = free-creates z ms z.waiting q
step-creates z ms (phase.Accepted s t) q e = accepted-creates z ms s t q
step-creates z ms phase.Opened q e = untaken z (command.Create ms) (step_in z phase.Opened) q refl
step-creates z ms (phase.Streaming sent) q e = stream-creates z ms sent (slice_get z.stream.unacked sent) q
step-creates z ms phase.Closing q e = free-creates z ms z.waiting q
step-creates z ms phase.Finished q e = untaken z (command.Create ms) (step_in z phase.Finished) q refl
step-creates z ms phase.Completed q e = untaken z (command.Create ms) (step_in z phase.Completed) q refl
step-creates z ms (phase.Failed d) q e = failed-creates z d ms z.waiting q e

create-packets : (x : WriterRecord) (ms : List NodeId) → x.queue ≡ [] → not (is_empty (given x (command.Create ms)).queue) ≡ true → Creates (own_step (given x (command.Create ms)))
unfolding own_step
create-packets x ms q t = let z = given x (command.Create ms) in step-creates z ms z.phase (given-is x (command.Create ms) q t).queue refl

-- a writer that took a create has no packets
pub taken-packets : (x : WriterRecord) (c : Command) → x.queue ≡ [] → not (is_empty (given x c).queue) ≡ true → is_empty (own_step (given x c)).writer.queue ≡ true → (ms : List NodeId) → c ≡ command.Create ms → has_packets (own_step (given x c)).writer.phase ≡ false
taken-packets x (command.Create ns) q t u ms e = create-packets x ns q t u
taken-packets x (command.Append ns) q t u ms e = absurd (cc)
taken-packets x (command.Write v) q t u ms e = absurd (cc)
taken-packets x (command.Fill n) q t u ms e = absurd (cc)
taken-packets x command.Hflush q t u ms e = absurd (cc)
taken-packets x command.Hsync q t u ms e = absurd (cc)
taken-packets x command.Close q t u ms e = absurd (cc)

-- WHAT THE OFFICE ANSWERS

-- the office gives a stamp that begins a session
abbrev pub BeginsSession : Phase → Result OfficeAnswer OfficeFault → Type 0
BeginsSession (phase.Wanted setup.Create) (Ok (office.Stamp s)) = Unit {0}
BeginsSession (phase.Wanted setup.Append) (Ok (office.Reopened r)) = Unit {0}
BeginsSession _ a = ⊥

-- the stamp that an answer gives
abbrev pub StampNoId : Ids → Result OfficeAnswer OfficeFault → Type 0
StampNoId f (Ok (office.Stamp s)) = f s.0 ≡ false
StampNoId f (Ok (office.Reopened r)) = f r.new.0 ≡ false
StampNoId f _ = Unit {0}

-- a writer that the office answered: where the answer begins no session, a writer that wrote no more writes no more
pub record AnswerEnds (x : WriterRecord) (a : Result OfficeAnswer OfficeFault) (y : WriterRecord) : Type 0 where
  pub ends : WriterEnds x → WriterEnds y
  pub shuts : writes_no_more x.phase ≡ true → (writes_no_more y.phase ≡ true) ⊎ BeginsSession x.phase a
  pub stamps : (f : Ids) → StampNoId f a → SetsNoId f x.phase → SetsNoId f y.phase

answered-by : (x y : WriterRecord) (a : Result OfficeAnswer OfficeFault) → Follows x y → WriterEnds x → AnswerEnds x a y
answered-by x y a g h = record { ends = g.ends; shuts = λ e. inl (g.shuts h e); stamps = λ f _ s. g.stamps f s }

same-answer : (x : WriterRecord) (a : Result OfficeAnswer OfficeFault) → AnswerEnds x a x
same-answer x a = record { ends = λ h. h; shuts = λ e. inl e; stamps = λ f _ s. s }

-- a session that begins has no packets
begun-ends : (x y : WriterRecord) (s : Setup) (t : Stamp) (a : Result OfficeAnswer OfficeFault) → x.phase ≡ phase.Wanted s → ends_setup s ≡ false → y.waiting ≡ x.waiting → y.intake ≡ x.intake → y.stream.unacked ≡ [] → y.phase ≡ phase.Stamped s t → BeginsSession x.phase a
    → ((f : Ids) → StampNoId f a → f t.0 ≡ false) → AnswerEnds x a y
begun-ends x y s t a e n w i u p b k = record {
  ends = λ h. record {
    shut = λ q. ap (λ (z : Intake). is_open z.stand) i ∙ h.shut (sym w ∙ q);
    closing = λ q. absurd (false≢true (sym (ap is_closing p ∙ n) ∙ q));
    closed = λ q. absurd (differ (sym p ∙ q));
    last = λ _ j z q l. absurd (none-some z (sym (ap (λ (xs : List Packet). slice_get xs j) u) ∙ q));
  };
  shuts = λ q. inr b;
  stamps = λ f m _. subst (λ (z : Phase). SetsNoId f z) (sym p) (k f m);
}
  where
    differ : phase.Stamped s t ≡ phase.Closed → ⊥
    differ q = cc

-- a stamp for a setup in the same session
stamped-ends : (x : WriterRecord) (s : Setup) (t : Stamp) → x.phase ≡ phase.Wanted s → begins_or_ends s ≡ ends_setup s → has_packets x.phase ≡ true → AnswerEnds x (Ok (office.Stamp t)) (record x { phase = phase.Stamped s t })
stamped-ends x s t e b k = record {
  ends = λ h. record {
    shut = h.shut;
    closing = λ q. h.closing (ap is_closing e ∙ q);
    closed = λ q. absurd (differ q);
    last = λ _ i p q l. sym (ap is_closing e) ∙ h.last k i p q l;
  };
  shuts = λ q. inl (sym b ∙ sym (ap writes_no_more e) ∙ q);
  stamps = λ f m _. m;
}
  where
    differ : phase.Stamped s t ≡ phase.Closed → ⊥
    differ q = cc

begins-at : (x : WriterRecord) (p : Phase) (a : Result OfficeAnswer OfficeFault) → x.phase ≡ p → BeginsSession p a → BeginsSession x.phase a
begins-at x p a e b = subst (λ (q : Phase). BeginsSession q a) (sym e) b

stamp-ends : (x : WriterRecord) (s : Setup) (t : Stamp) → x.phase ≡ phase.Wanted s → AnswerEnds x (Ok (office.Stamp t)) (stamped x s t)
stamp-ends x setup.Create t e =
    begun-ends x (stamped x setup.Create t) setup.Create t (Ok (office.Stamp t)) e refl refl refl refl refl (begins-at x (phase.Wanted setup.Create) (Ok (office.Stamp t)) e tt) (λ f m. m)
stamp-ends x setup.Append t e = same-answer x (Ok (office.Stamp t))
stamp-ends x setup.AppendRecovery t e = stamped-ends x setup.AppendRecovery t e refl (ap has_packets e)
stamp-ends x setup.StreamRecovery t e = stamped-ends x setup.StreamRecovery t e refl (ap has_packets e)
stamp-ends x setup.CloseRecovery t e = stamped-ends x setup.CloseRecovery t e refl (ap has_packets e)

reopened-ends : (x : WriterRecord) (s : Setup) (r : Reopened) → x.phase ≡ phase.Wanted s → AnswerEnds x (Ok (office.Reopened r)) (reopened x s r)
reopened-ends x setup.Append r e =
    if-each (λ (y : WriterRecord). AnswerEnds x (Ok (office.Reopened r)) y) (nat_le r.length MAX_APPEND_LENGTH) (record (begin_session x r.committed r.length) { phase = phase.Stamped setup.Append r.new }) x
    (λ _. begun-ends x (record (begin_session x r.committed r.length) { phase = phase.Stamped setup.Append r.new }) setup.Append r.new (Ok (office.Reopened r)) e refl refl refl refl refl
    (begins-at x (phase.Wanted setup.Append) (Ok (office.Reopened r)) e tt) (λ f m. m))
    (λ _. same-answer x (Ok (office.Reopened r)))
reopened-ends x setup.Create r e = same-answer x (Ok (office.Reopened r))
reopened-ends x setup.AppendRecovery r e = same-answer x (Ok (office.Reopened r))
reopened-ends x setup.StreamRecovery r e = same-answer x (Ok (office.Reopened r))
reopened-ends x setup.CloseRecovery r e = same-answer x (Ok (office.Reopened r))

wanted-ends : (x : WriterRecord) (s : Setup) (a : OfficeAnswer) → x.phase ≡ phase.Wanted s → AnswerEnds x (Ok a) (stamp_given x s a)
wanted-ends x s (office.Stamp t) e = stamp-ends x s t e
wanted-ends x s (office.Reopened r) e = reopened-ends x s r e
wanted-ends x s (office.Begun b) e = same-answer x (Ok (office.Begun b))
wanted-ends x s office.Nothing e = same-answer x (Ok office.Nothing)

-- a stamp that is committed
phase-committed : (x : WriterRecord) (s : Setup) (t : Stamp) (q : Phase) → x.phase ≡ phase.Accepted s t → is_closing q ≡ ends_setup s → writes_no_more q ≡ ends_setup s → (q ≡ phase.Closed → ⊥) → ((f : Ids) → SetsNoId f q)
    → AnswerEnds x (Ok office.Nothing) (record x { committed = t; phase = q })
phase-committed x s t q e a b c k = record {
  ends = λ h. record {
    shut = h.shut;
    closing = λ r. h.closing (ap is_closing e ∙ sym a ∙ r);
    closed = λ r. absurd (c r);
    last = λ _ i p r l. a ∙ sym (ap is_closing e) ∙ h.last (ap has_packets e) i p r l;
  };
  shuts = λ r. inl (b ∙ sym (ap writes_no_more e) ∙ r);
  stamps = λ f _ _. k f;
}

committed-ends : (x : WriterRecord) (s : Setup) (t : Stamp) → x.phase ≡ phase.Accepted s t → AnswerEnds x (Ok office.Nothing) (committed_as x s t)
committed-ends x setup.Create t e = same-answer x (Ok office.Nothing)
committed-ends x setup.Append t e = phase-committed x setup.Append t phase.Opened e refl refl (λ q. cc) (λ f. tt)
committed-ends x setup.AppendRecovery t e = phase-committed x setup.AppendRecovery t phase.Opened e refl refl (λ q. cc) (λ f. tt)
committed-ends x setup.StreamRecovery t e = phase-committed x setup.StreamRecovery t (phase.Streaming 0) e refl refl (λ q. cc) (λ f. tt)
committed-ends x setup.CloseRecovery t e = phase-committed x setup.CloseRecovery t phase.Finished e refl refl (λ q. cc) (λ f. tt)

commit-ends : (x : WriterRecord) (s : Setup) (t : Stamp) (a : OfficeAnswer) → x.phase ≡ phase.Accepted s t → AnswerEnds x (Ok a) (commit_given x s t a)
commit-ends x s t office.Nothing e = committed-ends x s t e
commit-ends x s t (office.Stamp q) e = same-answer x (Ok (office.Stamp q))
commit-ends x s t (office.Reopened r) e = same-answer x (Ok (office.Reopened r))
commit-ends x s t (office.Begun b) e = same-answer x (Ok (office.Begun b))

complete-ends : (x : WriterRecord) (a : OfficeAnswer) → x.phase ≡ phase.Finished → AnswerEnds x (Ok a) (complete_given x a)
complete-ends x office.Nothing e = record {
  ends = λ h. record { shut = h.shut; closing = λ _. h.closing (ap is_closing e); closed = λ q. absurd (cc); last = λ q. absurd (false≢true q) };
  shuts = λ _. inl refl;
  stamps = λ f _ _. tt;
}
complete-ends x (office.Stamp q) e = same-answer x (Ok (office.Stamp q))
complete-ends x (office.Reopened r) e = same-answer x (Ok (office.Reopened r))
complete-ends x (office.Begun b) e = same-answer x (Ok (office.Begun b))

granted-in : (x : WriterRecord) (p : Phase) (a : OfficeAnswer) → x.phase ≡ p → AnswerEnds x (Ok a) (granted_in x p a)
granted-in x (phase.Wanted s) a e = wanted-ends x s a e
granted-in x (phase.Accepted s t) a e = commit-ends x s t a e
granted-in x phase.Finished a e = complete-ends x a e
granted-in x phase.Closed a e = same-answer x (Ok a)
granted-in x (phase.Stamped s t) a e = same-answer x (Ok a)
granted-in x (phase.Requested s t) a e = same-answer x (Ok a)
granted-in x phase.Opened a e = same-answer x (Ok a)
granted-in x (phase.Streaming sent) a e = same-answer x (Ok a)
granted-in x phase.Closing a e = same-answer x (Ok a)
granted-in x phase.Completed a e = same-answer x (Ok a)
granted-in x (phase.Failed f) a e = same-answer x (Ok a)

failed-answer-ends : (x : WriterRecord) (d : Failure) (e : OfficeFault) → AnswerEnds x (Err e) (record x { phase = phase.Failed d })
failed-answer-ends x d e = record {
  ends = λ h. record { shut = h.shut; closing = λ q. absurd (false≢true q); closed = λ q. absurd (cc); last = λ q. absurd (false≢true q) };
  shuts = λ _. inl refl;
  stamps = λ f _ _. tt;
}

refused-ends : (x : WriterRecord) (e : OfficeFault) → AnswerEnds x (Err e) (refused x e)
refused-ends x fault.Memory = same-answer x (Err fault.Memory)
refused-ends x (fault.LeaseLost r) = failed-answer-ends x _ (fault.LeaseLost r)
refused-ends x fault.Known = failed-answer-ends x _ fault.Known
refused-ends x fault.Unknown = failed-answer-ends x _ fault.Unknown
refused-ends x fault.NotOpen = failed-answer-ends x _ fault.NotOpen
refused-ends x fault.NotClosed = failed-answer-ends x _ fault.NotClosed
refused-ends x (fault.OldStamp s) = failed-answer-ends x _ (fault.OldStamp s)
refused-ends x (fault.OldRecovery s) = failed-answer-ends x _ (fault.OldRecovery s)
refused-ends x (fault.TooLong n) = failed-answer-ends x _ (fault.TooLong n)

granted-as : (x : WriterRecord) (a : Result OfficeAnswer OfficeFault) → AnswerEnds x a (granted_as x a)
granted-as x (Ok a) = granted-in x x.phase a refl
granted-as x (Err e) = if-each (λ (y : WriterRecord). AnswerEnds x (Err e) y) (asks x.phase) (refused x e) x (λ _. refused-ends x e) (λ _. same-answer x (Err e))

pub granted-ends : (x : WriterRecord) (a : Result OfficeAnswer OfficeFault) → AnswerEnds x a (granted x a)
unfolding granted
granted-ends x a = granted-as x a
