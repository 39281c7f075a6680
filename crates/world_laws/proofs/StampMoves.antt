-- What a writer does by itself, and what it takes, fits the stamps that were given.
use Rattle.std.proofs.Common.{◌≡◌, ℕ, zero, suc, Bool, true, false, List, [], ◌∷◌, ◌++◌, Option, Some, None, Result, Ok, Err, refl, sym, subst, arith}
use Rattle.std.specs.Prelude.{slice_get, length, drop}
use Rattle.std.proofs.lemmas.Option.{none-some}
use Rattle.std.proofs.lemmas.Bool.{false≢true}
use Rattle.hd_base.specs.declared.numbers.NodeId.{NodeId}
use Rattle.hd_base.specs.declared.numbers.Stamp.{Stamp}
use Rattle.hd_base.specs.SumRules.{Rule}
use Rattle.world.specs.AckCodec.Ack.{Ack}
use Rattle.world.specs.AckCodec.Response.{Response}
use Rattle.world.specs.PacketCodec.Packet.{Packet}
use Rattle.world.specs.PacketStream.Streams.{StreamState, next_packet, sync_packet, oldest_acked, acked_packet, oldest_is_last, oldest_seqno, is_last}
use Rattle.world.specs.WriterCore.Command.{Command}
use Rattle.world.specs.WriterCore.Command.TheVariants as command
use Rattle.world.specs.WriterCore.CommandFault.{CommandFault}
use Rattle.world.specs.WriterCore.Intake.{Intake}
use Rattle.world.specs.WriterCore.DuePacket.{DuePacket}
use Rattle.world.specs.WriterCore.DuePacket.TheVariants as due
use Rattle.world.specs.WriterCore.Failure.{Failure}
use Rattle.world.specs.WriterCore.Phase.{Phase}
use Rattle.world.specs.WriterCore.Phase.TheVariants as phase
use Rattle.world.specs.WriterCore.Remedy.{Remedy}
use Rattle.world.specs.WriterCore.Remedy.TheVariants as remedy
use Rattle.world.specs.WriterCore.Setup.{Setup}
use Rattle.world.specs.WriterCore.Setup.TheVariants as setup
use Rattle.world.specs.WriterCore.Verdict.{Verdict}
use Rattle.world.specs.WriterCore.Verdict.TheVariants as verdict
use Rattle.world.specs.WriterCore.Waiting.{Waiting}
use Rattle.world.specs.WriterCore.WriterRecord.{WriterRecord}
use Rattle.world.specs.WriterCore.Commands.{admitted}
use Rattle.world.specs.WriterCore.Phases.{remedy_after, remedy_in, remedy_at_ack, remedy_accepted, is_success, ack_verdict, bad_place, without}
use Rattle.world.specs.WriterCore.Transitions.{taken_as, take_first, free_step_as, failed_command, failed_first, failed_step_as, dial_step_as, open_step, completed_step, accepted_step, due_now, form_step, reached_length, reach_step_as, due_step, stream_step_as, step_in, own_step, dropped, fail_for, fail_named, fail_at, ended_as, ended, phase_acked, acked_as, acked_in, acked, setup_answered_in, setup_answered, dialled_in, dialled, given_as, given}
use Rattle.world.specs.Connections.{Next, message, the_end}
use Rattle.world.specs.Parts.{request, packet, ack, response, read_status, recovery_answer}
use Rattle.world.specs.Clients.{ruled, named_member, writer_hears}
use Rattle.world_laws.specs.Stamping.{IsOfLatest, IsSetup, Waits, NoLast, Wanting, Setting, InPhase, Fits}

-- PACKETS

pub no-last-nil : NoLast []
no-last-nil = record { none = λ i p e. absurd (none-some p e) }

no-last-drop : (xs : List Packet) → NoLast xs → NoLast (drop 1 xs)
no-last-drop [] h = h
no-last-drop (x ∷ xs) h = record { none = λ i p e. h.none (suc i) p e }

no-last-one : (p : Packet) → p.last ≡ false → NoLast (p ∷ [])
no-last-one p e = record { none = one }
  where
    one : (i : ℕ) (q : Packet) → slice_get (p ∷ []) i ≡ Some q → q.last ≡ false
    one zero q t = grind (arith, t, e)
    one (suc i) q t = absurd (none-some q t)

no-last-cons : (x : Packet) (xs : List Packet) → x.last ≡ false → NoLast xs → NoLast (x ∷ xs)
no-last-cons x xs e h = record { none = rest }
  where
    rest : (i : ℕ) (q : Packet) → slice_get (x ∷ xs) i ≡ Some q → q.last ≡ false
    rest zero q t = grind (arith, t, e)
    rest (suc i) q t = h.none i q t

no-last-push : (xs : List Packet) (p : Packet) → NoLast xs → p.last ≡ false → NoLast (xs ++ p ∷ [])
no-last-push [] p h e = no-last-one p e
no-last-push (x ∷ xs) p h e = no-last-cons x (xs ++ p ∷ []) (h.none zero x refl) (no-last-push xs p (record { none = λ i q t. h.none (suc i) q t }) e)

acked-no-last : (s : StreamState) (o : Option Packet) → NoLast s.unacked → NoLast (acked_packet s o).unacked
acked-no-last s None h = h
acked-no-last s (Some p) h = no-last-drop s.unacked h

oldest-no-last : (xs : List Packet) → NoLast xs → is_last (slice_get xs 0) ≡ false
oldest-no-last xs h = go (slice_get xs 0) refl
  where
    go : (o : Option Packet) → slice_get xs 0 ≡ o → is_last o ≡ false
    go None e = refl
    go (Some p) e = h.none 0 p e

-- WHAT FITS ELSEWHERE

-- what is the same, or said of more
pub record Passes (f g : ℕ → Option ℕ) (l m : ℕ) (r q : Option Stamp) (w v : Option Waiting) (u y : List Packet) : Type 0 where
  pub latest : (t : Stamp) → IsOfLatest f l t → IsOfLatest g m t
  pub setup : (t : Stamp) → IsSetup f l r t → IsSetup g m q t
  pub waits : Waits w → Waits v
  pub packets : NoLast u → NoLast y

setting-by : (f g : ℕ → Option ℕ) (l m : ℕ) (r q : Option Stamp) (w v : Option Waiting) (u y : List Packet) (h t : Stamp) (s : Setup) → Passes f g l m r q w v u y
    → Setting f l h w u t s → Setting g m h v y t s
setting-by f g l m r q w v u y h t setup.Create b k = (k.0, b.packets k.1)
setting-by f g l m r q w v u y h t setup.Append b k = (b.waits k.0, b.packets k.1)
setting-by f g l m r q w v u y h t setup.AppendRecovery b k = (b.waits k.0, b.packets k.1)
setting-by f g l m r q w v u y h t setup.StreamRecovery b k = (b.latest h k.0, b.packets k.1)
setting-by f g l m r q w v u y h t setup.CloseRecovery b k = b.latest h k

wanting-by : (f g : ℕ → Option ℕ) (l m : ℕ) (r q : Option Stamp) (w v : Option Waiting) (u y : List Packet) (h : Stamp) (s : Setup) → Passes f g l m r q w v u y
    → Wanting f l h w u s → Wanting g m h v y s
wanting-by f g l m r q w v u y h setup.Create b k = tt
wanting-by f g l m r q w v u y h setup.Append b k = b.waits k
wanting-by f g l m r q w v u y h setup.AppendRecovery b k = (b.waits k.0, b.packets k.1)
wanting-by f g l m r q w v u y h setup.StreamRecovery b k = (b.latest h k.0, b.packets k.1)
wanting-by f g l m r q w v u y h setup.CloseRecovery b k = b.latest h k

pub phase-by : (f g : ℕ → Option ℕ) (l m : ℕ) (r q : Option Stamp) (w v : Option Waiting) (u y : List Packet) (h : Stamp) (p : Phase) → Passes f g l m r q w v u y
    → InPhase f l r h w u p → InPhase g m q h v y p
phase-by f g l m r q w v u y h phase.Closed b k = b.latest h k
phase-by f g l m r q w v u y h (phase.Wanted s) b k = wanting-by f g l m r q w v u y h s b k
phase-by f g l m r q w v u y h (phase.Stamped s t) b k = (b.setup t k.0, setting-by f g l m r q w v u y h t s b k.1)
phase-by f g l m r q w v u y h (phase.Requested s t) b k = (b.setup t k.0, setting-by f g l m r q w v u y h t s b k.1)
phase-by f g l m r q w v u y h (phase.Accepted s t) b k = (b.setup t k.0, setting-by f g l m r q w v u y h t s b k.1)
phase-by f g l m r q w v u y h phase.Opened b k = (b.setup h k.0, b.waits k.1, b.packets k.2)
phase-by f g l m r q w v u y h (phase.Streaming sent) b k = (b.setup h k.0, b.packets k.1)
phase-by f g l m r q w v u y h phase.Closing b k = b.setup h k
phase-by f g l m r q w v u y h phase.Finished b k = b.setup h k
phase-by f g l m r q w v u y h phase.Completed b k = b.setup h k
phase-by f g l m r q w v u y h (phase.Failed e) b k = tt

-- COMMANDS THAT ARE TAKEN

-- what fits while no command waits fits whatever waits
any-waits : (f : ℕ → Option ℕ) (l : ℕ) (r : Option Stamp) (h : Stamp) (u : List Packet) (p : Phase) (w : Option Waiting) → InPhase f l r h None u p → InPhase f l r h w u p
any-waits f l r h u p w k =
    phase-by f f l l r r None w u u h p (record { latest = λ t i. i; setup = λ t i. i; waits = λ i. absurd (false≢true i.is); packets = λ i. i }) k

taken-fits : (f : ℕ → Option ℕ) (l : ℕ) (r : Option Stamp) (x : WriterRecord) (c : Command)
    → InPhase f l r x.committed None x.stream.unacked x.phase → x.waiting ≡ None → Fits f l r (taken_as x c)
taken-fits f l r x (command.Create members) k e = tt
taken-fits f l r x (command.Append members) k e = record { is = refl }
taken-fits f l r x (command.Write bytes) k e = any-waits f l r x.committed x.stream.unacked x.phase x.waiting k
taken-fits f l r x (command.Fill count) k e = any-waits f l r x.committed x.stream.unacked x.phase x.waiting k
taken-fits f l r x command.Hflush k e = any-waits f l r x.committed x.stream.unacked x.phase _ k
taken-fits f l r x command.Hsync k e = any-waits f l r x.committed x.stream.unacked x.phase _ k
taken-fits f l r x command.Close k e = any-waits f l r x.committed x.stream.unacked x.phase _ k

first-fits : (f : ℕ → Option ℕ) (l : ℕ) (r : Option Stamp) (x : WriterRecord) (o : Option Command) → Fits f l r x → x.waiting ≡ None → Fits f l r (take_first x o).writer
first-fits f l r x None k e = k
first-fits f l r x (Some c) k e =
    taken-fits f l r x c (subst (λ (w : Option Waiting). InPhase f l r x.committed w x.stream.unacked x.phase) e k) e

free-fits : (f : ℕ → Option ℕ) (l : ℕ) (r : Option Stamp) (x : WriterRecord) (o : Option Waiting) → Fits f l r x → x.waiting ≡ o → Fits f l r (free_step_as x o).writer
free-fits f l r x None k e = first-fits f l r x (slice_get x.queue 0) k e
free-fits f l r x (Some w) k e = k

failed-command-fits : (f : ℕ → Option ℕ) (l : ℕ) (r : Option Stamp) (x : WriterRecord) (e : Failure) (c : Command) → x.phase ≡ phase.Failed e → Fits f l r (failed_command x e c).writer
failed-command-fits f l r x e (command.Create members) t = rw t tt
failed-command-fits f l r x e (command.Append members) t = record { is = refl }
failed-command-fits f l r x e (command.Write bytes) t = rw t tt
failed-command-fits f l r x e (command.Fill count) t = rw t tt
failed-command-fits f l r x e command.Hflush t = rw t tt
failed-command-fits f l r x e command.Hsync t = rw t tt
failed-command-fits f l r x e command.Close t = rw t tt

failed-first-fits : (f : ℕ → Option ℕ) (l : ℕ) (r : Option Stamp) (x : WriterRecord) (e : Failure) (o : Option Command) → x.phase ≡ phase.Failed e → Fits f l r (failed_first x e o).writer
failed-first-fits f l r x e None t = rw t tt
failed-first-fits f l r x e (Some c) t = failed-command-fits f l r x e c t

failed-fits : (f : ℕ → Option ℕ) (l : ℕ) (r : Option Stamp) (x : WriterRecord) (e : Failure) (o : Option Waiting) → x.phase ≡ phase.Failed e → Fits f l r (failed_step_as x e o).writer
failed-fits f l r x e None t = failed-first-fits f l r x e (slice_get x.queue 0) t
failed-fits f l r x e (Some w) t = rw t tt

-- OWN STEPS

dial-fits : (f : ℕ → Option ℕ) (l : ℕ) (r : Option Stamp) (x : WriterRecord) (s : Setup) (t : Stamp) (ms : List NodeId) → Fits f l r x → Fits f l r (dial_step_as x s t ms).writer
dial-fits f l r x s t [] k = k
dial-fits f l r x s t (m ∷ ms) k = k

same-setup : (f : ℕ → Option ℕ) (l : ℕ) (r : Option Stamp) (h t : Stamp) → h ≡ t → IsSetup f l r t → IsSetup f l r h
same-setup f l r h t e k = subst (λ (s : Stamp). IsSetup f l r s) (sym e) k

accepted-fits : (f : ℕ → Option ℕ) (l : ℕ) (r : Option Stamp) (x : WriterRecord) (s : Setup) (t : Stamp) → x.phase ≡ phase.Accepted s t
    → InPhase f l r x.committed x.waiting x.stream.unacked (phase.Accepted s t) → Fits f l r (accepted_step x s t).writer
accepted-fits f l r x setup.Create t e k = (same-setup f l r x.committed t k.1.0.is k.0, k.1.1)
accepted-fits f l r x setup.Append t e k = rw e k
accepted-fits f l r x setup.AppendRecovery t e k = rw e k
accepted-fits f l r x setup.StreamRecovery t e k = rw e k
accepted-fits f l r x setup.CloseRecovery t e k = rw e k

form-fits : (f : ℕ → Option ℕ) (l : ℕ) (r : Option Stamp) (x : WriterRecord) (d : DuePacket) → IsSetup f l r x.committed → NoLast x.stream.unacked → Fits f l r (form_step x d).writer
form-fits f l r x (due.Data end s) k n = (k, no-last-push x.stream.unacked (next_packet x.stream end s) n refl)
form-fits f l r x due.Sync k n = (k, no-last-push x.stream.unacked (sync_packet x.stream) n refl)
form-fits f l r x due.Last k n = k

reach-fits : (f : ℕ → Option ℕ) (l : ℕ) (r : Option Stamp) (x : WriterRecord) (sent : ℕ) (o : Option ℕ) → x.phase ≡ phase.Streaming sent
    → InPhase f l r x.committed x.waiting x.stream.unacked (phase.Streaming sent) → Fits f l r (reach_step_as x o).writer
reach-fits f l r x sent None e k = free-fits f l r x x.waiting (rw e k) refl
reach-fits f l r x sent (Some n) e k = rw e k

due-fits : (f : ℕ → Option ℕ) (l : ℕ) (r : Option Stamp) (x : WriterRecord) (sent : ℕ) (o : Option DuePacket) → x.phase ≡ phase.Streaming sent
    → InPhase f l r x.committed x.waiting x.stream.unacked (phase.Streaming sent) → Fits f l r (due_step x o).writer
due-fits f l r x sent None e k = reach-fits f l r x sent (reached_length x.waiting x.stream) e k
due-fits f l r x sent (Some d) e k = form-fits f l r x d k.0 k.1

stream-fits : (f : ℕ → Option ℕ) (l : ℕ) (r : Option Stamp) (x : WriterRecord) (sent : ℕ) (o : Option Packet) → x.phase ≡ phase.Streaming sent
    → InPhase f l r x.committed x.waiting x.stream.unacked (phase.Streaming sent) → Fits f l r (stream_step_as x sent o).writer
stream-fits f l r x sent None e k = due-fits f l r x sent (due_now x) e k
stream-fits f l r x sent (Some p) e k = k

pub open-fits : (f : ℕ → Option ℕ) (l : ℕ) (r : Option Stamp) (x : WriterRecord) → InPhase f l r x.committed x.waiting x.stream.unacked phase.Opened → Fits f l r (open_step x).writer
open-fits f l r x k = (k.0, k.2)

pub completed-fits : (f : ℕ → Option ℕ) (l : ℕ) (r : Option Stamp) (x : WriterRecord) → InPhase f l r x.committed x.waiting x.stream.unacked phase.Completed → Fits f l r (completed_step x).writer
completed-fits f l r x k = k.session

step-fits : (f : ℕ → Option ℕ) (l : ℕ) (r : Option Stamp) (x : WriterRecord) (p : Phase) → x.phase ≡ p → InPhase f l r x.committed x.waiting x.stream.unacked p
    → Fits f l r (step_in x p).writer
step-fits f l r x phase.Closed e k = free-fits f l r x x.waiting (rw e k) refl
step-fits f l r x (phase.Wanted s) e k = rw e k
step-fits f l r x (phase.Stamped s t) e k = dial-fits f l r x s t x.members (rw e k)
step-fits f l r x (phase.Requested s t) e k = free-fits f l r x x.waiting (rw e k) refl
step-fits f l r x (phase.Accepted s t) e k = accepted-fits f l r x s t e k
step-fits f l r x phase.Opened e k = (k.0, k.2)
step-fits f l r x (phase.Streaming sent) e k = stream-fits f l r x sent (slice_get x.stream.unacked sent) e k
step-fits f l r x phase.Closing e k = free-fits f l r x x.waiting (rw e k) refl
step-fits f l r x phase.Finished e k = rw e k
step-fits f l r x phase.Completed e k = k.session
step-fits f l r x (phase.Failed d) e k = failed-fits f l r x d x.waiting e

pub own-step-fits : (f : ℕ → Option ℕ) (l : ℕ) (r : Option Stamp) (x : WriterRecord) → Fits f l r x → Fits f l r (own_step x).writer
unfolding own_step
own-step-fits f l r x k = step-fits f l r x x.phase refl k

-- WHAT IT TAKES

-- once a pipeline failed that was set up so, or that streamed
abbrev Remedied : (ℕ → Option ℕ) → ℕ → WriterRecord → Remedy → Type 0
Remedied f l x remedy.Abandon = Unit {0}
Remedied f l x (remedy.Recover s) = Wanting f l x.committed x.waiting x.stream.unacked s

dropped-fits : (f : ℕ → Option ℕ) (l : ℕ) (r : Option Stamp) (x : WriterRecord) (s : Setup) (bad : NodeId) (ms : List NodeId) → Remedied f l x (remedy.Recover s) → Fits f l r (dropped x s bad ms)
dropped-fits f l r x s bad [] k = tt
dropped-fits f l r x s bad (m ∷ ms) k = k

for-fits : (f : ℕ → Option ℕ) (l : ℕ) (r : Option Stamp) (x : WriterRecord) (d : Remedy) (bad : NodeId) → Remedied f l x d → Fits f l r (fail_for x d bad)
for-fits f l r x remedy.Abandon bad k = tt
for-fits f l r x (remedy.Recover s) bad k = dropped-fits f l r x s bad (without x.members bad) k

fail-named-fits : (f : ℕ → Option ℕ) (l : ℕ) (r : Option Stamp) (x : WriterRecord) (d : Remedy) (o : Option NodeId) → Fits f l r x → Remedied f l x d → Fits f l r (fail_named x d o)
fail-named-fits f l r x d None h k = h
fail-named-fits f l r x d (Some bad) h k = for-fits f l r x d bad k

fail-fits : (f : ℕ → Option ℕ) (l : ℕ) (r : Option Stamp) (x : WriterRecord) (d : Remedy) (place : ℕ) → Fits f l r x → Remedied f l x d → Fits f l r (fail_at x d place)
fail-fits f l r x d place h k = fail-named-fits f l r x d (slice_get x.members place) h k

setting-remedied : (f : ℕ → Option ℕ) (l : ℕ) (x : WriterRecord) (s : Setup) (t : Stamp) → Setting f l x.committed x.waiting x.stream.unacked t s → Remedied f l x (remedy_after s)
setting-remedied f l x setup.Create t k = tt
setting-remedied f l x setup.Append t k = k
setting-remedied f l x setup.AppendRecovery t k = k
setting-remedied f l x setup.StreamRecovery t k = k
setting-remedied f l x setup.CloseRecovery t k = k

-- The remedy of a phase, if it has one.
abbrev Remedies : (ℕ → Option ℕ) → ℕ → WriterRecord → Option Remedy → Type 0
Remedies f l x None = Unit {0}
Remedies f l x (Some d) = Remedied f l x d

accepted-remedies : (f : ℕ → Option ℕ) (l : ℕ) (x : WriterRecord) (s : Setup) (t : Stamp) → Setting f l x.committed x.waiting x.stream.unacked t s → Remedies f l x (remedy_accepted s)
accepted-remedies f l x setup.Create t k = tt
accepted-remedies f l x setup.Append t k = k
accepted-remedies f l x setup.AppendRecovery t k = k
accepted-remedies f l x setup.StreamRecovery t k = k
accepted-remedies f l x setup.CloseRecovery t k = tt

remedies : (f : ℕ → Option ℕ) (l : ℕ) (r : Option Stamp) (x : WriterRecord) (p : Phase) → InPhase f l r x.committed x.waiting x.stream.unacked p → Remedies f l x (remedy_in p)
remedies f l r x phase.Closed k = tt
remedies f l r x (phase.Wanted s) k = tt
remedies f l r x (phase.Stamped s t) k = tt
remedies f l r x (phase.Requested s t) k = setting-remedied f l x s t k.1
remedies f l r x (phase.Accepted s t) k = accepted-remedies f l x s t k.1
remedies f l r x phase.Opened k = (k.1, k.2)
remedies f l r x (phase.Streaming sent) k = (k.0.session, k.1)
remedies f l r x phase.Closing k = k.session
remedies f l r x phase.Finished k = tt
remedies f l r x phase.Completed k = tt
remedies f l r x (phase.Failed e) k = tt

-- what the writer hears on its connection: its remedy, if it has one
ended-fits : (f : ℕ → Option ℕ) (l : ℕ) (r : Option Stamp) (x : WriterRecord) (o : Option Remedy) → Fits f l r x → Remedies f l x o → Fits f l r (ended_as x o)
ended-fits f l r x None h k = h
ended-fits f l r x (Some d) h k = fail-fits f l r x d 0 h k

end-fits : (f : ℕ → Option ℕ) (l : ℕ) (r : Option Stamp) (x : WriterRecord) → Fits f l r x → Fits f l r (ended x)
unfolding ended
end-fits f l r x h = ended-fits f l r x (remedy_in x.phase) h (remedies f l r x x.phase h)

-- In which phases an ack is heard: the oldest packet that isn't acked is the last one only where the writer closes.
good-fits : (f : ℕ → Option ℕ) (l : ℕ) (r : Option Stamp) (x : WriterRecord) (p : Phase) (d : Remedy) → InPhase f l r x.committed x.waiting x.stream.unacked p → remedy_at_ack p ≡ Some d
    → InPhase f l r x.committed x.waiting (oldest_acked x.stream).unacked (phase_acked (oldest_is_last x.stream) p)
good-fits f l r x phase.Closed d k e = absurd (none-some d e)
good-fits f l r x (phase.Wanted s) d k e = absurd (none-some d e)
good-fits f l r x (phase.Stamped s t) d k e = absurd (none-some d e)
good-fits f l r x (phase.Requested s t) d k e = absurd (none-some d e)
good-fits f l r x (phase.Accepted setup.Create t) d k e = rw (oldest-no-last x.stream.unacked k.1.1) (k.0, (k.1.0, acked-no-last x.stream (slice_get x.stream.unacked 0) k.1.1))
good-fits f l r x (phase.Accepted setup.Append t) d k e = rw (oldest-no-last x.stream.unacked k.1.1) (k.0, (k.1.0, acked-no-last x.stream (slice_get x.stream.unacked 0) k.1.1))
good-fits f l r x (phase.Accepted setup.AppendRecovery t) d k e = rw (oldest-no-last x.stream.unacked k.1.1) (k.0, (k.1.0, acked-no-last x.stream (slice_get x.stream.unacked 0) k.1.1))
good-fits f l r x (phase.Accepted setup.StreamRecovery t) d k e = rw (oldest-no-last x.stream.unacked k.1.1) (k.0, (k.1.0, acked-no-last x.stream (slice_get x.stream.unacked 0) k.1.1))
good-fits f l r x (phase.Accepted setup.CloseRecovery t) d k e = absurd (none-some d e)
good-fits f l r x phase.Opened d k e = rw (oldest-no-last x.stream.unacked k.2) (k.0, k.1, acked-no-last x.stream (slice_get x.stream.unacked 0) k.2)
good-fits f l r x (phase.Streaming sent) d k e = rw (oldest-no-last x.stream.unacked k.1) (k.0, acked-no-last x.stream (slice_get x.stream.unacked 0) k.1)
good-fits f l r x phase.Closing d k e = go (oldest_is_last x.stream)
  where
    go : (b : Bool) → InPhase f l r x.committed x.waiting (oldest_acked x.stream).unacked (phase_acked b phase.Closing)
    go true = k
    go false = k
good-fits f l r x phase.Finished d k e = absurd (none-some d e)
good-fits f l r x phase.Completed d k e = absurd (none-some d e)
good-fits f l r x (phase.Failed c) d k e = absurd (none-some d e)

ack-remedies : (f : ℕ → Option ℕ) (l : ℕ) (r : Option Stamp) (x : WriterRecord) (p : Phase) → InPhase f l r x.committed x.waiting x.stream.unacked p → Remedies f l x (remedy_at_ack p)
ack-remedies f l r x (phase.Requested s t) k = tt
ack-remedies f l r x phase.Closed k = tt
ack-remedies f l r x (phase.Wanted s) k = tt
ack-remedies f l r x (phase.Stamped s t) k = tt
ack-remedies f l r x (phase.Accepted s t) k = remedies f l r x (phase.Accepted s t) k
ack-remedies f l r x phase.Opened k = remedies f l r x phase.Opened k
ack-remedies f l r x (phase.Streaming sent) k = remedies f l r x (phase.Streaming sent) k
ack-remedies f l r x phase.Closing k = remedies f l r x phase.Closing k
ack-remedies f l r x phase.Finished k = tt
ack-remedies f l r x phase.Completed k = tt
ack-remedies f l r x (phase.Failed e) k = tt

verdict-fits : (f : ℕ → Option ℕ) (l : ℕ) (r : Option Stamp) (x : WriterRecord) (d : Remedy) (v : Verdict) → Fits f l r x → Remedied f l x d → remedy_at_ack x.phase ≡ Some d → Fits f l r (acked_as x d v)
verdict-fits f l r x d verdict.Good h k e = good-fits f l r x x.phase d h e
verdict-fits f l r x d (verdict.Bad place) h k e = fail-fits f l r x d place h k

acked-in-fits : (f : ℕ → Option ℕ) (l : ℕ) (r : Option Stamp) (x : WriterRecord) (a : Ack) (o : Option Remedy) → Fits f l r x → Remedies f l x o → remedy_at_ack x.phase ≡ o → Fits f l r (acked_in x a o)
acked-in-fits f l r x a None h k e = h
acked-in-fits f l r x a (Some d) h k e = verdict-fits f l r x d (ack_verdict (oldest_seqno x.stream) (length x.members) a) h k e

acked-fits : (f : ℕ → Option ℕ) (l : ℕ) (r : Option Stamp) (x : WriterRecord) (a : Ack) → Fits f l r x → Fits f l r (acked x a)
unfolding acked
acked-fits f l r x a h = acked-in-fits f l r x a (remedy_at_ack x.phase) h (ack-remedies f l r x x.phase h) refl

setup-in-fits : (f : ℕ → Option ℕ) (l : ℕ) (r : Option Stamp) (x : WriterRecord) (p : Phase) (good : Bool) (bad : Option NodeId) → Fits f l r x → x.phase ≡ p → Fits f l r (setup_answered_in x p good bad)
setup-in-fits f l r x (phase.Requested s t) true bad h e = subst (λ (p : Phase). InPhase f l r x.committed x.waiting x.stream.unacked p) e h
setup-in-fits f l r x (phase.Requested s t) false bad h e =
    fail-fits f l r x (remedy_after s) (bad_place x.members bad) h
    (setting-remedied f l x s t (subst (λ (p : Phase). InPhase f l r x.committed x.waiting x.stream.unacked p) e h).1)
setup-in-fits f l r x phase.Closed good bad h e = h
setup-in-fits f l r x (phase.Wanted s) good bad h e = h
setup-in-fits f l r x (phase.Stamped s t) good bad h e = h
setup-in-fits f l r x (phase.Accepted s t) good bad h e = h
setup-in-fits f l r x phase.Opened good bad h e = h
setup-in-fits f l r x (phase.Streaming sent) good bad h e = h
setup-in-fits f l r x phase.Closing good bad h e = h
setup-in-fits f l r x phase.Finished good bad h e = h
setup-in-fits f l r x phase.Completed good bad h e = h
setup-in-fits f l r x (phase.Failed c) good bad h e = h

setup-fits : (f : ℕ → Option ℕ) (l : ℕ) (r : Option Stamp) (x : WriterRecord) (a : Response) (bad : Option NodeId) → Fits f l r x → Fits f l r (setup_answered x a bad)
unfolding setup_answered
setup-fits f l r x a bad h = setup-in-fits f l r x x.phase (is_success a.status) bad h refl

pub hears-fits : (f : ℕ → Option ℕ) (l : ℕ) (r : Option Stamp) (x : WriterRecord) (n : Next) → Fits f l r x → Fits f l r (writer_hears x n)
hears-fits f l r x (message (request q)) h = end-fits f l r x h
hears-fits f l r x (message (packet p)) h = end-fits f l r x h
hears-fits f l r x (message (ack a)) h = acked-fits f l r x a h
hears-fits f l r x (message (response a)) h = setup-fits f l r x a (named_member x.members a.first_bad) h
hears-fits f l r x (message (read_status s)) h = end-fits f l r x h
hears-fits f l r x (message (recovery_answer a)) h = end-fits f l r x h
hears-fits f l r x the_end h = end-fits f l r x h

dialled-in-fits : (f : ℕ → Option ℕ) (l : ℕ) (r : Option Stamp) (x : WriterRecord) (p : Phase) (answered : Bool) → Fits f l r x → x.phase ≡ p → Fits f l r (dialled_in x p answered)
dialled-in-fits f l r x (phase.Stamped s t) true h e = subst (λ (p : Phase). InPhase f l r x.committed x.waiting x.stream.unacked p) e h
dialled-in-fits f l r x (phase.Stamped s t) false h e =
    fail-fits f l r x (remedy_after s) 0 h (setting-remedied f l x s t (subst (λ (p : Phase). InPhase f l r x.committed x.waiting x.stream.unacked p) e h).1)
dialled-in-fits f l r x phase.Closed answered h e = h
dialled-in-fits f l r x (phase.Wanted s) answered h e = h
dialled-in-fits f l r x (phase.Requested s t) answered h e = h
dialled-in-fits f l r x (phase.Accepted s t) answered h e = h
dialled-in-fits f l r x phase.Opened answered h e = h
dialled-in-fits f l r x (phase.Streaming sent) answered h e = h
dialled-in-fits f l r x phase.Closing answered h e = h
dialled-in-fits f l r x phase.Finished answered h e = h
dialled-in-fits f l r x phase.Completed answered h e = h
dialled-in-fits f l r x (phase.Failed c) answered h e = h

pub dialled-fits : (f : ℕ → Option ℕ) (l : ℕ) (r : Option Stamp) (x : WriterRecord) (answered : Bool) → Fits f l r x → Fits f l r (dialled x answered)
unfolding dialled
dialled-fits f l r x answered h = dialled-in-fits f l r x x.phase answered h refl

-- COMMANDS THAT ARE GIVEN

given-as-fits : (f : ℕ → Option ℕ) (l : ℕ) (r : Option Stamp) (x : WriterRecord) (c : Command) (g : Result Intake CommandFault) → Fits f l r x → Fits f l r (given_as x c g)
given-as-fits f l r x c (Ok i) h = h
given-as-fits f l r x c (Err e) h = h

pub given-fits : (f : ℕ → Option ℕ) (l : ℕ) (r : Option Stamp) (x : WriterRecord) (c : Command) → Fits f l r x → Fits f l r (given x c)
given-fits f l r x c h = given-as-fits f l r x c (admitted x.intake c) h

pub ruled-fits : (f : ℕ → Option ℕ) (l : ℕ) (r : Option Stamp) (x : WriterRecord) (c : Command) (rule : Rule) → Fits f l r x → Fits f l r (ruled x c rule)
ruled-fits f l r x (command.Create members) rule h =
    phase-by f f l l r r x.waiting x.waiting x.stream.unacked [] x.committed x.phase (record { latest = λ t i. i; setup = λ t i. i; waits = λ i. i; packets = λ _. no-last-nil }) h
ruled-fits f l r x (command.Append members) rule h = h
ruled-fits f l r x (command.Write bytes) rule h = h
ruled-fits f l r x (command.Fill count) rule h = h
ruled-fits f l r x command.Hflush rule h = h
ruled-fits f l r x command.Hsync rule h = h
ruled-fits f l r x command.Close rule h = h
