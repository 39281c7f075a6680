-- Writers that wait for an hsync: what their steps form and ack.
use Rattle.std.proofs.Common.{◌≡◌, ℕ, ℤ, zero, suc, ◌<◌, ◌≤◌, ◌+◌, ◌⊎◌, inl, inr, Bool, true, false, List, [], ◌∷◌, ◌++◌, drop, length, length-take, slice_get, Option, Some, None, IfSome, Result, Ok, Err, refl, sym, ap, subst, ◌∙◌, arith}
use Rattle.std.specs.Prelude.{◌==◌, ◌-◌, ◌&&◌, pos, nat_le, nat_lt, int_lt, filter, is_some, option_map, if◌then◌else◌}
use Rattle.std.proofs.lemmas.Bool.{false≢true}
use Rattle.std.proofs.lemmas.Bool.Decides.{nat_tests}
use Rattle.std.proofs.lemmas.Option.{none-some, same_Some}
use Rattle.hd_base.specs.declared.numbers.NodeId.{NodeId}
use Rattle.hd_base.specs.declared.numbers.Stamp.{Stamp}
use Rattle.hd_base.specs.SumRules.{Rule}
use Rattle.ack_codec.specs.declared.acks.Ack.{Ack}
use Rattle.ack_codec.specs.declared.responses.Response.{Response}
use Rattle.name_core.specs.declared.calls.OfficeAnswer.{OfficeAnswer}
use Rattle.name_core.specs.declared.calls.OfficeAnswer.TheVariants as office
use Rattle.name_core.specs.declared.calls.Reopened.{Reopened}
use Rattle.name_core.specs.declared.faults.OfficeFault.{OfficeFault}
use Rattle.name_core.specs.declared.faults.OfficeFault.TheVariants as fault
use Rattle.name_core.specs.declared.records.TheConstants.{MAX_APPEND_LENGTH}
use Rattle.packet_codec.specs.declared.packets.Packet.{Packet}
use Rattle.packet_stream.specs.declared.stream.TheConstants.{MAX_UNACKED}
use Rattle.packet_stream.specs.Extents.{greatest_end}
use Rattle.packet_stream.specs.Streams.{StreamState, IsStream, start_in, written_in, packet_end, begun, with_bytes, next_packet, formed, sync_packet, sync_formed, acked_packet, oldest_seqno, oldest_is_last, last_packet}
use Rattle.packet_stream.proofs.StreamLemmas.{formed_written, next_start_near}
use Rattle.writer_core.specs.declared.actions.Action.{Action}
use Rattle.writer_core.specs.declared.actions.Action.TheVariants as action
use Rattle.writer_core.specs.declared.actions.ClientAnswer.TheVariants as answer
use Rattle.writer_core.specs.declared.commands.Command.{Command}
use Rattle.writer_core.specs.declared.commands.Command.TheVariants as command
use Rattle.writer_core.specs.declared.commands.CommandFault.{CommandFault}
use Rattle.writer_core.specs.declared.intake.Intake.{Intake}
use Rattle.writer_core.specs.declared.phases.DuePacket.{DuePacket}
use Rattle.writer_core.specs.declared.phases.DuePacket.TheVariants as due
use Rattle.writer_core.specs.declared.phases.Failure.{Failure}
use Rattle.writer_core.specs.declared.phases.Failure.TheVariants as failure
use Rattle.writer_core.specs.declared.phases.Phase.{Phase}
use Rattle.writer_core.specs.declared.phases.Phase.TheVariants as phase
use Rattle.writer_core.specs.declared.phases.Remedy.{Remedy}
use Rattle.writer_core.specs.declared.phases.Remedy.TheVariants as remedy
use Rattle.writer_core.specs.declared.phases.Setup.{Setup}
use Rattle.writer_core.specs.declared.phases.Setup.TheVariants as setup
use Rattle.writer_core.specs.declared.phases.SyncPacket.{SyncPacket}
use Rattle.writer_core.specs.declared.phases.SyncPacket.TheVariants as sync
use Rattle.writer_core.specs.declared.phases.Verdict.{Verdict}
use Rattle.writer_core.specs.declared.phases.Verdict.TheVariants as verdict
use Rattle.writer_core.specs.declared.phases.Waiting.{Waiting}
use Rattle.writer_core.specs.declared.phases.Waiting.TheVariants as waiting
use Rattle.writer_core.specs.declared.records.WriterRecord.{WriterRecord}
use Rattle.writer_core.specs.Commands.{admitted}
use Rattle.writer_core.specs.Phases.{remedy_after, remedy_accepted, remedy_in, remedy_at_ack, is_success, ack_verdict, bad_place, without}
use Rattle.writer_core.specs.Sound.{Sound, syncs_due}
use Rattle.writer_core.specs.Laws.{Move, Gives, Steps, Grants, Dials, Answers, Acks, Ends, after_move, after_moves}
use Rattle.writer_core.specs.Transitions.{Step, fresh, taken_as, take_first, free_step_as, failed_command, failed_first, failed_step_as, dial_step_as, open_step, completed_step, accepted_step, is_flushing, ends_sync, empty_due, due_in, due_now, sync_formed_as, form_step, is_acked, reached_length, reach_step_as, due_step, stream_step_as, step_in, own_step, given_as, given, dropped, fail_named, fail_at, ended_as, ended, phase_acked, acked_oldest, acked_as, acked_in, acked, setup_answered_in, setup_answered, dialled_in, dialled, refused, begin_session, stamped, reopened, stamp_given, committed_as, commit_given, complete_given, granted_in, granted, asks}
use Rattle.writer_core.proofs.DueLemmas.{IsDueNow, due_now_is, choice}
use Rattle.writer_core.proofs.SoundLemmas.{own_step_sound, given_sound, granted_sound, dialled_sound, setup_sound, acked_sound, ended_sound, fresh_sound}
use Rattle.world.specs.Safe.{Has}
use Rattle.world_acks.specs.Acking.{reach_in, reach_wanted, reach_of}
use Rattle.world_writers.specs.Moving.{IsMoved}

-- THE NUMBERS OF PACKETS

-- some packets' numbers don't fall, from the one to the other
abbrev pub Ordered : ℕ → ℕ → List Packet → Type 0
Ordered low high [] = low ≤ high
Ordered low high (p ∷ ps) = (n : ℕ) × (p.seqno ≡ pos n) × (low ≤ n) × Ordered n high ps

ordered-low : (a b high : ℕ) (ps : List Packet) → a ≤ b → Ordered b high ps → Ordered a high ps
ordered-low a b high [] le h = omega (arith, le, h)
ordered-low a b high (p ∷ ps) le h = (h.0, h.1, omega (arith, le, h.2), h.3)

ordered-end : (low high more : ℕ) (ps : List Packet) (p : Packet) → high ≤ more → p.seqno ≡ pos high → Ordered low high ps → Ordered low more (ps ++ p ∷ [])
ordered-end low high more [] p le e h = (high, e, h, le)
ordered-end low high more (x ∷ xs) p le e h = (h.0, h.1, h.2, ordered-end h.0 high more xs p le e h.3)

ordered-drop : (low high : ℕ) (ps : List Packet) → Ordered low high ps → Ordered low high (drop 1 ps)
ordered-drop low high [] h = h
ordered-drop low high (p ∷ ps) h = ordered-low low h.0 high ps h.2 h.3

ordered-at : (low high : ℕ) (ps : List Packet) (j : ℕ) (q : Packet) → Ordered low high ps → slice_get ps j ≡ Some q → (n : ℕ) × (q.seqno ≡ pos n) × (low ≤ n)
ordered-at low high [] j q h e = absurd (none-some q e)
ordered-at low high (p ∷ ps) zero q h e = (h.0, ap (λ (x : Packet). x.seqno) (sym (same_Some p q e)) ∙ h.1, h.2)
ordered-at low high (p ∷ ps) (suc j) q h e = let x = ordered-at h.0 high ps j q h.3 e in (x.0, x.1, omega (arith, x.2, h.2))

not-before : (m n : ℕ) → m ≤ n → int_lt (pos n) (pos m) ≡ true → ⊥
not-before m n le e = absurd (omega (arith, le, low))
  where
    low : n < m
    low = grind (arith, nat_tests, e)

-- none of these packets is acked before the oldest
pub unacked-first : (low high : ℕ) (ps : List Packet) (j : ℕ) (q : Packet) → Ordered low high ps → slice_get ps j ≡ Some q → is_acked q.seqno (option_map (λ (p : Packet). p.seqno) (slice_get ps 0)) ≡ true → ⊥
unacked-first low high [] j q h e a = absurd (none-some q e)
unacked-first low high (p ∷ ps) zero q h e a = not-before h.0 h.0 (omega arith) (subst (λ (z : ℤ). int_lt z (pos h.0) ≡ true) (ap (λ (x : Packet). x.seqno) (sym (same_Some p q e)) ∙ h.1) (subst (λ (z : ℤ). int_lt q.seqno z ≡ true) h.1 a))
unacked-first low high (p ∷ ps) (suc j) q h e a =
    let x = ordered-at h.0 high ps j q h.3 e in not-before h.0 x.0 x.2 (subst (λ (z : ℤ). int_lt z (pos h.0) ≡ true) x.1 (subst (λ (z : ℤ). int_lt q.seqno z ≡ true) h.1 a))

-- WHAT WAITS

-- the bytes that a due sync waits for are written
abbrev pub IsWritten : StreamState → Option Waiting → Type 0
IsWritten s (Some (waiting.Sync n sync.Due)) = n ≤ written_in s
IsWritten s _ = Unit {0}

-- an open waits
abbrev pub SetupOpens : Setup → Option Waiting → Type 0
SetupOpens setup.Create w = w ≡ Some waiting.Opening
SetupOpens setup.Append w = w ≡ Some waiting.Opening
SetupOpens setup.AppendRecovery w = w ≡ Some waiting.Opening
SetupOpens s w = Unit {0}

abbrev pub PhaseOpens : Phase → Option Waiting → Type 0
PhaseOpens (phase.Wanted s) w = SetupOpens s w
PhaseOpens (phase.Stamped s t) w = SetupOpens s w
PhaseOpens (phase.Requested s t) w = SetupOpens s w
PhaseOpens (phase.Accepted s t) w = SetupOpens s w
PhaseOpens phase.Opened w = w ≡ Some waiting.Opening
PhaseOpens p w = Unit {0}

pub record Waited (s : StreamState) (w : Option Waiting) (p : Phase) : Type 0 where
  pub written : IsWritten s w
  pub opens : PhaseOpens p w
  pub ordered : Ordered 0 s.seqno s.unacked

abbrev pub WaitedOf : WriterRecord → Type 0
WaitedOf x = Waited x.stream x.waiting x.phase

none-opening : ◌≡◌ {A = Option Waiting} None (Some waiting.Opening) → ⊥
none-opening e = cc

setup-none : (s : Setup) (w : Option Waiting) → SetupOpens s None → SetupOpens s w
setup-none setup.Create w h = absurd (none-opening h)
setup-none setup.Append w h = absurd (none-opening h)
setup-none setup.AppendRecovery w h = absurd (none-opening h)
setup-none setup.StreamRecovery w h = tt
setup-none setup.CloseRecovery w h = tt

opens-none : (p : Phase) (w : Option Waiting) → PhaseOpens p None → PhaseOpens p w
opens-none phase.Closed w h = tt
opens-none (phase.Wanted s) w h = setup-none s w h
opens-none (phase.Stamped s t) w h = setup-none s w h
opens-none (phase.Requested s t) w h = setup-none s w h
opens-none (phase.Accepted s t) w h = setup-none s w h
opens-none phase.Opened w h = absurd (none-opening h)
opens-none (phase.Streaming n) w h = tt
opens-none phase.Closing w h = tt
opens-none phase.Finished w h = tt
opens-none phase.Completed w h = tt
opens-none (phase.Failed f) w h = tt

-- elsewhere, with the same stream
waited-at : (s : StreamState) (w : Option Waiting) (p q : Phase) → PhaseOpens q w → Waited s w p → Waited s w q
waited-at s w p q o h = record { written = h.written; opens = o; ordered = h.ordered }

-- COMMANDS

taken-waited : (x : WriterRecord) (c : Command) → x.waiting ≡ None → WaitedOf x → WaitedOf (taken_as x c)
taken-waited x (command.Create ms) e h = record { written = tt; opens = refl; ordered = h.ordered }
taken-waited x (command.Append ms) e h = record { written = tt; opens = refl; ordered = h.ordered }
taken-waited x (command.Write bytes) e h = record { written = subst (λ (w : Option Waiting). IsWritten (with_bytes x.stream bytes) w) (sym e) tt; opens = h.opens; ordered = h.ordered }
taken-waited x (command.Fill n) e h = record { written = subst (λ (w : Option Waiting). IsWritten (taken_as x (command.Fill n)).stream w) (sym e) tt; opens = h.opens; ordered = h.ordered }
taken-waited x command.Hflush e h = record { written = tt; opens = opens-none x.phase _ (subst (λ (w : Option Waiting). PhaseOpens x.phase w) e h.opens); ordered = h.ordered }
taken-waited x command.Hsync e h = record { written = omega arith; opens = opens-none x.phase _ (subst (λ (w : Option Waiting). PhaseOpens x.phase w) e h.opens); ordered = h.ordered }
taken-waited x command.Close e h = record { written = tt; opens = opens-none x.phase _ (subst (λ (w : Option Waiting). PhaseOpens x.phase w) e h.opens); ordered = h.ordered }

first-waited : (x : WriterRecord) (o : Option Command) → x.waiting ≡ None → WaitedOf x → WaitedOf (take_first x o).writer
first-waited x None e h = h
first-waited x (Some c) e h = taken-waited x c e h

free-waited : (x : WriterRecord) (o : Option Waiting) → x.waiting ≡ o → WaitedOf x → WaitedOf (free_step_as x o).writer
free-waited x None e h = first-waited x (slice_get x.queue 0) e h
free-waited x (Some w) e h = h

answered-waited : (x : WriterRecord) (p : Phase) → PhaseOpens p None → WaitedOf x → WaitedOf (record x { waiting = None; phase = p })
answered-waited x p o h = record { written = tt; opens = o; ordered = h.ordered }

failed-command-waited : (x : WriterRecord) (f : Failure) (c : Command) → x.waiting ≡ None → WaitedOf x → WaitedOf (failed_command x f c).writer
failed-command-waited x f (command.Append ms) e h = taken-waited x (command.Append ms) e h
failed-command-waited x f (command.Create ms) e h = h
failed-command-waited x f (command.Write bytes) e h = h
failed-command-waited x f (command.Fill n) e h = h
failed-command-waited x f command.Hflush e h = h
failed-command-waited x f command.Hsync e h = h
failed-command-waited x f command.Close e h = h

failed-first-waited : (x : WriterRecord) (f : Failure) (o : Option Command) → x.waiting ≡ None → WaitedOf x → WaitedOf (failed_first x f o).writer
failed-first-waited x f None e h = h
failed-first-waited x f (Some c) e h = failed-command-waited x f c e h

failed-waited : (x : WriterRecord) (f : Failure) (o : Option Waiting) → x.waiting ≡ o → x.phase ≡ phase.Failed f → WaitedOf x → WaitedOf (failed_step_as x f o).writer
failed-waited x f None e p h = failed-first-waited x f (slice_get x.queue 0) e h
failed-waited x f (Some w) e p h = answered-waited x x.phase (subst (λ (q : Phase). PhaseOpens q None) (sym p) tt) h

-- FORMING

-- what is known of the packet that is due
abbrev DueTo : Option Waiting → StreamState → DuePacket → Type 0
DueTo w s (due.Data end b) = b ≡ ends_sync w end
DueTo w s due.Sync = written_in s ≤ s.sent
DueTo w s due.Last = Unit {0}

empty-due-to : (w : Option Waiting) (s : StreamState) → (is_flushing w && nat_lt s.sent (written_in s)) ≡ false → IfSome (empty_due w s) (DueTo w s)
empty-due-to None s e = tt
empty-due-to (Some waiting.Opening) s e = tt
empty-due-to (Some (waiting.Flush n)) s e = tt
empty-due-to (Some (waiting.Sync n sync.Due)) s e = grind (arith, nat_tests)
empty-due-to (Some (waiting.Sync n (sync.Formed q))) s e = tt
empty-due-to (Some waiting.Close) s e = choice (λ d. IfSome d (DueTo (Some waiting.Close) s)) (s.acked == written_in s) (Some due.Last) None (λ _. tt) (λ _. tt)

due-to : (w : Option Waiting) (s : StreamState) → IfSome (due_in w s) (DueTo w s)
due-to w s =
    choice (λ d. IfSome d (DueTo w s)) (nat_le (greatest_end s.rule.chunk (start_in s)) (written_in s)) _ _
    (λ _. refl)
    (λ _. choice (λ d. IfSome d (DueTo w s)) (is_flushing w && nat_lt s.sent (written_in s)) _ _ (λ _. refl) (λ f. empty-due-to w s f))

due-now-to : (x : WriterRecord) (d : DuePacket) → due_now x ≡ Some d → DueTo x.waiting x.stream d
due-now-to x d e =
    let all : IfSome (due_now x) (DueTo x.waiting x.stream) =
    choice (λ o. IfSome o (DueTo x.waiting x.stream)) (nat_lt (length x.stream.unacked) MAX_UNACKED) (due_in x.waiting x.stream) None (λ _. due-to x.waiting x.stream) (λ _. tt) in
    subst (λ o. IfSome o (DueTo x.waiting x.stream)) e all

-- where the next packet ends
next-end : (s : StreamState) (end : ℕ) (b : Bool) → IsStream s → s.sent < end → end ≤ written_in s → packet_end (next_packet s end b) ≡ end
next-end s end b h past within =
    let near : start_in s ≤ s.sent = next_start_near s.rule.chunk s.base s.sent h.base in
    rw (length-take (end - start_in s) s.tail) (omega arith)

formed-written : (s : StreamState) (w : Option Waiting) (end : ℕ) (b : Bool) → IsStream s → s.sent < end → end ≤ written_in s → IsWritten s w → IsWritten (formed s end b) (sync_formed_as b (pos s.seqno) w)
formed-written s None end true h past within k = tt
formed-written s (Some waiting.Opening) end true h past within k = tt
formed-written s (Some (waiting.Flush n)) end true h past within k = tt
formed-written s (Some (waiting.Sync n p)) end true h past within k = tt
formed-written s (Some waiting.Close) end true h past within k = tt
formed-written s None end false h past within k = tt
formed-written s (Some waiting.Opening) end false h past within k = tt
formed-written s (Some (waiting.Flush n)) end false h past within k = tt
formed-written s (Some (waiting.Sync n sync.Due)) end false h past within k = omega (arith, k, formed_written s end false h past within)
formed-written s (Some (waiting.Sync n (sync.Formed q))) end false h past within k = tt
formed-written s (Some waiting.Close) end false h past within k = tt

sync-written : (s : StreamState) (w : Option Waiting) → IsWritten s w → IsWritten (sync_formed s) (sync_formed_as true (pos s.seqno) w)
sync-written s None k = tt
sync-written s (Some waiting.Opening) k = tt
sync-written s (Some (waiting.Flush n)) k = tt
sync-written s (Some (waiting.Sync n p)) k = tt
sync-written s (Some waiting.Close) k = tt

form-waited : (x : WriterRecord) (d : DuePacket) → Sound x → IsDueNow x d → WaitedOf x → WaitedOf (form_step x d).writer
form-waited x (due.Data end b) sound n h = record {
  written = formed-written x.stream x.waiting end b sound.stream n.fits.0 n.fits.1 h.written;
  opens = tt;
  ordered = ordered-end 0 x.stream.seqno (x.stream.seqno + 1) x.stream.unacked (next_packet x.stream end b) (omega arith) refl h.ordered;
}
form-waited x due.Sync sound n h = record {
  written = sync-written x.stream x.waiting h.written;
  opens = tt;
  ordered = ordered-end 0 x.stream.seqno (x.stream.seqno + 1) x.stream.unacked (sync_packet x.stream) (omega arith) refl h.ordered;
}
form-waited x due.Last sound n h = record {
  written = last x.waiting h.written;
  opens = tt;
  ordered = ordered-end 0 x.stream.seqno x.stream.seqno x.stream.unacked (last_packet x.stream x.had_sync) (omega arith) refl h.ordered;
}
  where
    last : (w : Option Waiting) → IsWritten x.stream w → IsWritten (form_step x due.Last).writer.stream w
    last None k = tt
    last (Some waiting.Opening) k = tt
    last (Some (waiting.Flush m)) k = tt
    last (Some (waiting.Sync m sync.Due)) k = k
    last (Some (waiting.Sync m (sync.Formed q))) k = tt
    last (Some waiting.Close) k = tt

reach-waited : (x : WriterRecord) (n : ℕ) (o : Option ℕ) → x.phase ≡ phase.Streaming n → WaitedOf x → WaitedOf (reach_step_as x o).writer
reach-waited x n None e h = free-waited x x.waiting refl h
reach-waited x n (Some m) e h = answered-waited x x.phase (subst (λ (q : Phase). PhaseOpens q None) (sym e) tt) h

due-waited : (x : WriterRecord) (n : ℕ) (o : Option DuePacket) → due_now x ≡ o → x.phase ≡ phase.Streaming n → Sound x → WaitedOf x → WaitedOf (due_step x o).writer
due-waited x n None q e sound h = reach-waited x n (reached_length x.waiting x.stream) e h
due-waited x n (Some d) q e sound h = form-waited x d sound (due_now_is x d sound.stream q) h

stream-waited : (x : WriterRecord) (n : ℕ) (o : Option Packet) → x.phase ≡ phase.Streaming n → Sound x → WaitedOf x → WaitedOf (stream_step_as x n o).writer
stream-waited x n None e sound h = due-waited x n (due_now x) refl e sound h
stream-waited x n (Some p) e sound h = waited-at x.stream x.waiting x.phase (phase.Streaming (n + 1)) tt h

dial-waited : (x : WriterRecord) (s : Setup) (t : Stamp) (ms : List NodeId) → WaitedOf x → WaitedOf (dial_step_as x s t ms).writer
dial-waited x s t [] h = h
dial-waited x s t (m ∷ ms) h = h

accepted-waited : (x : WriterRecord) (s : Setup) (t : Stamp) → WaitedOf x → WaitedOf (accepted_step x s t).writer
accepted-waited x setup.Create t h = answered-waited x (phase.Streaming 0) tt h
accepted-waited x setup.Append t h = h
accepted-waited x setup.AppendRecovery t h = h
accepted-waited x setup.StreamRecovery t h = h
accepted-waited x setup.CloseRecovery t h = h

step-waited : (x : WriterRecord) (p : Phase) → x.phase ≡ p → Sound x → WaitedOf x → WaitedOf (step_in x p).writer
step-waited x phase.Closed e sound h = free-waited x x.waiting refl h
step-waited x (phase.Wanted s) e sound h = h
step-waited x (phase.Stamped s t) e sound h = dial-waited x s t x.members h
step-waited x (phase.Requested s t) e sound h = free-waited x x.waiting refl h
step-waited x (phase.Accepted s t) e sound h = accepted-waited x s t h
step-waited x phase.Opened e sound h = answered-waited x (phase.Streaming 0) tt h
step-waited x (phase.Streaming n) e sound h = stream-waited x n (slice_get x.stream.unacked n) e sound h
step-waited x phase.Closing e sound h = free-waited x x.waiting refl h
step-waited x phase.Finished e sound h = h
step-waited x phase.Completed e sound h = answered-waited x phase.Closed tt h
step-waited x (phase.Failed f) e sound h = failed-waited x f x.waiting refl e h

own-step-waited : (x : WriterRecord) → Sound x → WaitedOf x → WaitedOf (own_step x).writer
unfolding own_step
own-step-waited x sound h = step-waited x x.phase refl sound h

-- WHAT COMES

abbrev RemedyOpens : Remedy → Option Waiting → Type 0
RemedyOpens remedy.Abandon w = Unit {0}
RemedyOpens (remedy.Recover s) w = SetupOpens s w

after-opens : (s : Setup) (w : Option Waiting) → SetupOpens s w → RemedyOpens (remedy_after s) w
after-opens setup.Create w h = tt
after-opens setup.Append w h = h
after-opens setup.AppendRecovery w h = h
after-opens setup.StreamRecovery w h = tt
after-opens setup.CloseRecovery w h = tt

accepted-opens : (s : Setup) (w : Option Waiting) → SetupOpens s w → IfSome (remedy_accepted s) (λ r. RemedyOpens r w)
accepted-opens setup.Create w h = tt
accepted-opens setup.Append w h = h
accepted-opens setup.AppendRecovery w h = h
accepted-opens setup.StreamRecovery w h = tt
accepted-opens setup.CloseRecovery w h = tt

remedy-opens : (p : Phase) (w : Option Waiting) → PhaseOpens p w → IfSome (remedy_in p) (λ r. RemedyOpens r w)
remedy-opens phase.Closed w h = tt
remedy-opens (phase.Wanted s) w h = tt
remedy-opens (phase.Stamped s t) w h = tt
remedy-opens (phase.Requested s t) w h = after-opens s w h
remedy-opens (phase.Accepted s t) w h = accepted-opens s w h
remedy-opens phase.Opened w h = h
remedy-opens (phase.Streaming n) w h = tt
remedy-opens phase.Closing w h = tt
remedy-opens phase.Finished w h = tt
remedy-opens phase.Completed w h = tt
remedy-opens (phase.Failed f) w h = tt

ack-opens : (p : Phase) (w : Option Waiting) → PhaseOpens p w → IfSome (remedy_at_ack p) (λ r. RemedyOpens r w)
ack-opens phase.Closed w h = tt
ack-opens (phase.Wanted s) w h = tt
ack-opens (phase.Stamped s t) w h = tt
ack-opens (phase.Requested s t) w h = tt
ack-opens (phase.Accepted s t) w h = accepted-opens s w h
ack-opens phase.Opened w h = h
ack-opens (phase.Streaming n) w h = tt
ack-opens phase.Closing w h = tt
ack-opens phase.Finished w h = tt
ack-opens phase.Completed w h = tt
ack-opens (phase.Failed f) w h = tt

dropped-waited : (x : WriterRecord) (s : Setup) (bad : NodeId) (ms : List NodeId) → SetupOpens s x.waiting → WaitedOf x → WaitedOf (dropped x s bad ms)
dropped-waited x s bad [] o h = waited-at x.stream x.waiting x.phase (phase.Failed (failure.AllBad bad)) tt h
dropped-waited x s bad (m ∷ ms) o h = waited-at x.stream x.waiting x.phase (phase.Wanted s) o h

named-waited : (x : WriterRecord) (r : Remedy) (o : Option NodeId) → RemedyOpens r x.waiting → WaitedOf x → WaitedOf (fail_named x r o)
named-waited x r None o h = h
named-waited x remedy.Abandon (Some bad) o h = waited-at x.stream x.waiting x.phase (phase.Failed (failure.Abandoned bad)) tt h
named-waited x (remedy.Recover s) (Some bad) o h = dropped-waited x s bad (without x.members bad) o h

fail-waited : (x : WriterRecord) (r : Remedy) (place : ℕ) → RemedyOpens r x.waiting → WaitedOf x → WaitedOf (fail_at x r place)
fail-waited x r place o h = named-waited x r (slice_get x.members place) o h

ended-as-waited : (x : WriterRecord) (o : Option Remedy) → IfSome o (λ r. RemedyOpens r x.waiting) → WaitedOf x → WaitedOf (ended_as x o)
ended-as-waited x None o h = h
ended-as-waited x (Some r) o h = fail-waited x r 0 o h

ended-waited : (x : WriterRecord) → WaitedOf x → WaitedOf (ended x)
unfolding ended
ended-waited x h = ended-as-waited x (remedy_in x.phase) (remedy-opens x.phase x.waiting h.opens) h

acked-opens : (b : Bool) (p : Phase) (w : Option Waiting) → PhaseOpens p w → PhaseOpens (phase_acked b p) w
acked-opens true p w h = tt
acked-opens false phase.Closed w h = h
acked-opens false (phase.Wanted s) w h = h
acked-opens false (phase.Stamped s t) w h = h
acked-opens false (phase.Requested s t) w h = h
acked-opens false (phase.Accepted s t) w h = h
acked-opens false phase.Opened w h = h
acked-opens false (phase.Streaming n) w h = tt
acked-opens false phase.Closing w h = h
acked-opens false phase.Finished w h = h
acked-opens false phase.Completed w h = h
acked-opens false (phase.Failed f) w h = h

oldest-waited : (x : WriterRecord) (o : Option Packet) (q : Phase) → PhaseOpens q x.waiting → WaitedOf x → Waited (acked_packet x.stream o) x.waiting q
oldest-waited x None q p h = waited-at x.stream x.waiting x.phase q p h
oldest-waited x (Some d) q p h = record { written = go x.waiting h.written; opens = p; ordered = ordered-drop 0 x.stream.seqno x.stream.unacked h.ordered }
  where
    go : (w : Option Waiting) → IsWritten x.stream w → IsWritten (acked_packet x.stream (Some d)) w
    go None k = tt
    go (Some waiting.Opening) k = tt
    go (Some (waiting.Flush m)) k = tt
    go (Some (waiting.Sync m sync.Due)) k = k
    go (Some (waiting.Sync m (sync.Formed q))) k = tt
    go (Some waiting.Close) k = tt

acked-as-waited : (x : WriterRecord) (r : Remedy) (v : Verdict) → RemedyOpens r x.waiting → WaitedOf x → WaitedOf (acked_as x r v)
acked-as-waited x r verdict.Good o h = oldest-waited x (slice_get x.stream.unacked 0) (phase_acked (oldest_is_last x.stream) x.phase) (acked-opens (oldest_is_last x.stream) x.phase x.waiting h.opens) h
acked-as-waited x r (verdict.Bad place) o h = fail-waited x r place o h

acked-in-waited : (x : WriterRecord) (a : Ack) (o : Option Remedy) → IfSome o (λ r. RemedyOpens r x.waiting) → WaitedOf x → WaitedOf (acked_in x a o)
acked-in-waited x a None o h = h
acked-in-waited x a (Some r) o h = acked-as-waited x r _ o h

acked-waited : (x : WriterRecord) (a : Ack) → WaitedOf x → WaitedOf (acked x a)
unfolding acked
acked-waited x a h = acked-in-waited x a (remedy_at_ack x.phase) (ack-opens x.phase x.waiting h.opens) h

answered-in-waited : (x : WriterRecord) (p : Phase) (good : Bool) (bad : Option NodeId) → x.phase ≡ p → PhaseOpens p x.waiting → WaitedOf x → WaitedOf (setup_answered_in x p good bad)
answered-in-waited x (phase.Requested s t) true bad e o h = waited-at x.stream x.waiting x.phase (phase.Accepted s t) o h
answered-in-waited x (phase.Requested s t) false bad e o h = fail-waited x (remedy_after s) (bad_place x.members bad) (after-opens s x.waiting o) h
answered-in-waited x phase.Closed good bad e o h = h
answered-in-waited x (phase.Wanted s) good bad e o h = h
answered-in-waited x (phase.Stamped s t) good bad e o h = h
answered-in-waited x (phase.Accepted s t) good bad e o h = h
answered-in-waited x phase.Opened good bad e o h = h
answered-in-waited x (phase.Streaming n) good bad e o h = h
answered-in-waited x phase.Closing good bad e o h = h
answered-in-waited x phase.Finished good bad e o h = h
answered-in-waited x phase.Completed good bad e o h = h
answered-in-waited x (phase.Failed f) good bad e o h = h

setup-waited : (x : WriterRecord) (r : Response) (bad : Option NodeId) → WaitedOf x → WaitedOf (setup_answered x r bad)
unfolding setup_answered
setup-waited x r bad h = answered-in-waited x x.phase (is_success r.status) bad refl h.opens h

dialled-in-waited : (x : WriterRecord) (p : Phase) (b : Bool) → PhaseOpens p x.waiting → WaitedOf x → WaitedOf (dialled_in x p b)
dialled-in-waited x (phase.Stamped s t) true o h = waited-at x.stream x.waiting x.phase (phase.Requested s t) o h
dialled-in-waited x (phase.Stamped s t) false o h = fail-waited x (remedy_after s) 0 (after-opens s x.waiting o) h
dialled-in-waited x phase.Closed b o h = h
dialled-in-waited x (phase.Wanted s) b o h = h
dialled-in-waited x (phase.Requested s t) b o h = h
dialled-in-waited x (phase.Accepted s t) b o h = h
dialled-in-waited x phase.Opened b o h = h
dialled-in-waited x (phase.Streaming n) b o h = h
dialled-in-waited x phase.Closing b o h = h
dialled-in-waited x phase.Finished b o h = h
dialled-in-waited x phase.Completed b o h = h
dialled-in-waited x (phase.Failed f) b o h = h

dialled-waited : (x : WriterRecord) (b : Bool) → WaitedOf x → WaitedOf (dialled x b)
unfolding dialled
dialled-waited x b h = dialled-in-waited x x.phase b h.opens h

-- THE OFFICE

begun-waited : (s : StreamState) (r : Rule) (base : ℕ) (w : Option Waiting) (p : Phase) → s ≡ begun r base → w ≡ Some waiting.Opening → PhaseOpens p w → Waited s w p
begun-waited s r base w p e q o = subst (λ (z : StreamState). Waited z w p) (sym e) (record { written = subst (λ (z : Option Waiting). IsWritten (begun r base) z) (sym q) tt; opens = o; ordered = omega arith })

stamped-waited : (x : WriterRecord) (s : Setup) (t : Stamp) → SetupOpens s x.waiting → WaitedOf x → WaitedOf (stamped x s t)
stamped-waited x setup.Create t o h = begun-waited _ x.stream.rule 0 x.waiting (phase.Stamped setup.Create t) refl o o
stamped-waited x setup.Append t o h = h
stamped-waited x setup.AppendRecovery t o h = waited-at x.stream x.waiting x.phase (phase.Stamped setup.AppendRecovery t) o h
stamped-waited x setup.StreamRecovery t o h = waited-at x.stream x.waiting x.phase (phase.Stamped setup.StreamRecovery t) tt h
stamped-waited x setup.CloseRecovery t o h = waited-at x.stream x.waiting x.phase (phase.Stamped setup.CloseRecovery t) tt h

reopened-waited : (x : WriterRecord) (s : Setup) (r : Reopened) → SetupOpens s x.waiting → WaitedOf x → WaitedOf (reopened x s r)
reopened-waited x setup.Append r o h =
    choice (λ (y : WriterRecord). WaitedOf y) (nat_le r.length MAX_APPEND_LENGTH) (record (begin_session x r.committed r.length) { phase = phase.Stamped setup.Append r.new }) x
    (λ _. begun-waited _ x.stream.rule r.length x.waiting (phase.Stamped setup.Append r.new) refl o o) (λ _. h)
reopened-waited x setup.Create r o h = h
reopened-waited x setup.AppendRecovery r o h = h
reopened-waited x setup.StreamRecovery r o h = h
reopened-waited x setup.CloseRecovery r o h = h

given-stamp-waited : (x : WriterRecord) (s : Setup) (a : OfficeAnswer) → SetupOpens s x.waiting → WaitedOf x → WaitedOf (stamp_given x s a)
given-stamp-waited x s (office.Stamp t) o h = stamped-waited x s t o h
given-stamp-waited x s (office.Reopened r) o h = reopened-waited x s r o h
given-stamp-waited x s (office.Begun b) o h = h
given-stamp-waited x s office.Nothing o h = h

committed-waited : (x : WriterRecord) (s : Setup) (t : Stamp) → SetupOpens s x.waiting → WaitedOf x → WaitedOf (committed_as x s t)
committed-waited x setup.Create t o h = h
committed-waited x setup.Append t o h = waited-at x.stream x.waiting x.phase phase.Opened o h
committed-waited x setup.AppendRecovery t o h = waited-at x.stream x.waiting x.phase phase.Opened o h
committed-waited x setup.StreamRecovery t o h = waited-at x.stream x.waiting x.phase (phase.Streaming 0) tt h
committed-waited x setup.CloseRecovery t o h = waited-at x.stream x.waiting x.phase phase.Finished tt h

commit-waited : (x : WriterRecord) (s : Setup) (t : Stamp) (a : OfficeAnswer) → SetupOpens s x.waiting → WaitedOf x → WaitedOf (commit_given x s t a)
commit-waited x s t office.Nothing o h = committed-waited x s t o h
commit-waited x s t (office.Stamp u) o h = h
commit-waited x s t (office.Reopened r) o h = h
commit-waited x s t (office.Begun b) o h = h

complete-waited : (x : WriterRecord) (a : OfficeAnswer) → WaitedOf x → WaitedOf (complete_given x a)
complete-waited x office.Nothing h = waited-at x.stream x.waiting x.phase phase.Completed tt h
complete-waited x (office.Stamp u) h = h
complete-waited x (office.Reopened r) h = h
complete-waited x (office.Begun b) h = h

granted-in-waited : (x : WriterRecord) (p : Phase) (a : OfficeAnswer) → PhaseOpens p x.waiting → WaitedOf x → WaitedOf (granted_in x p a)
granted-in-waited x (phase.Wanted s) a o h = given-stamp-waited x s a o h
granted-in-waited x (phase.Accepted s t) a o h = commit-waited x s t a o h
granted-in-waited x phase.Finished a o h = complete-waited x a h
granted-in-waited x phase.Closed a o h = h
granted-in-waited x (phase.Stamped s t) a o h = h
granted-in-waited x (phase.Requested s t) a o h = h
granted-in-waited x phase.Opened a o h = h
granted-in-waited x (phase.Streaming n) a o h = h
granted-in-waited x phase.Closing a o h = h
granted-in-waited x phase.Completed a o h = h
granted-in-waited x (phase.Failed f) a o h = h

refused-waited : (x : WriterRecord) (e : OfficeFault) → WaitedOf x → WaitedOf (refused x e)
refused-waited x fault.Memory h = h
refused-waited x (fault.LeaseLost id) h = waited-at x.stream x.waiting x.phase (phase.Failed (failure.Lost id)) tt h
refused-waited x fault.Unknown h = waited-at x.stream x.waiting x.phase _ tt h
refused-waited x _ h = waited-at x.stream x.waiting x.phase _ tt h

granted-waited : (x : WriterRecord) (r : Result OfficeAnswer OfficeFault) → WaitedOf x → WaitedOf (granted x r)
unfolding granted
granted-waited x (Ok a) h = granted-in-waited x x.phase a h.opens h
granted-waited x (Err e) h = choice (λ (y : WriterRecord). WaitedOf y) (asks x.phase) (refused x e) x (λ _. refused-waited x e h) (λ _. h)

pub given-waited : (x : WriterRecord) (c : Command) → WaitedOf x → WaitedOf (given x c)
given-waited x c h = go (admitted x.intake c)
  where
    go : (r : Result Intake CommandFault) → WaitedOf (given_as x c r)
    go (Ok i) = h
    go (Err e) = h

-- WHATEVER HAPPENS

record Keeps (x : WriterRecord) : Type 0 where
  sound : Sound x
  waited : WaitedOf x

move-keeps : (x : WriterRecord) (m : Move) → Keeps x → Keeps (after_move x m)
move-keeps x (Gives c) h = record { sound = given_sound x c h.sound; waited = given-waited x c h.waited }
move-keeps x Steps h = record { sound = own_step_sound x h.sound; waited = own-step-waited x h.sound h.waited }
move-keeps x (Grants r) h = record { sound = granted_sound x r h.sound; waited = granted-waited x r h.waited }
move-keeps x (Dials b) h = record { sound = dialled_sound x b h.sound; waited = dialled-waited x b h.waited }
move-keeps x (Answers r bad) h = record { sound = setup_sound x r bad h.sound; waited = setup-waited x r bad h.waited }
move-keeps x (Acks a) h = record { sound = acked_sound x a h.sound; waited = acked-waited x a h.waited }
move-keeps x Ends h = record { sound = ended_sound x h.sound; waited = ended-waited x h.waited }

moves-keep : (x : WriterRecord) (ms : List Move) → Keeps x → Keeps (after_moves x ms)
moves-keep x [] h = h
moves-keep x (m ∷ ms) h = moves-keep (after_move x m) ms (move-keeps x m h)

-- a writer that moves have made
pub moved-waited : (b : ℕ) (x : WriterRecord) → IsMoved b x → WaitedOf x
moved-waited b x m =
    subst WaitedOf (sym m.is) (moves-keep (fresh (record { 0 = b }) m.rule) m.moves (record { sound = fresh_sound (record { 0 = b }) m.rule m.chunk; waited = record { written = tt; opens = tt; ordered = omega arith } })).waited

-- A SYNC WHOSE PACKET WAS FORMED

abbrev pub Formed : ℕ → ℤ → Option Waiting
Formed n q = Some (waiting.Sync n (sync.Formed q))

-- where the one waits for a packet that was formed, so did the other, with the same packets unacked and the same stamp, and among these members
pub record WaitsOn (x y : WriterRecord) (n : ℕ) (q : ℤ) : Type 0 where
  pub waits : x.waiting ≡ Formed n q
  pub reach : 2 ≤ reach_of x.phase
  pub unacked : y.stream.unacked ≡ x.stream.unacked
  pub number : y.stream.seqno ≡ x.stream.seqno
  pub members : (m : NodeId) → Has y.members m → Has x.members m

-- the stamp of a setup that was asked
abbrev pub asked_stamp : Phase → Option Stamp
asked_stamp (phase.Requested s t) = Some t
asked_stamp (phase.Accepted s t) = Some t
asked_stamp _ = None

pub record WaitsSame (x y : WriterRecord) : Type 0 where
  pub committed : y.committed ≡ x.committed
  pub each : (n : ℕ) (q : ℤ) → y.waiting ≡ Formed n q → 2 ≤ reach_of y.phase → WaitsOn x y n q

-- and where a setup was asked, it was before
pub record KeepsWait (x y : WriterRecord) : Type 0 where
  pub same : WaitsSame x y
  pub asked : (t : Stamp) → asked_stamp y.phase ≡ Some t → asked_stamp x.phase ≡ Some t

abbrev Asks : WriterRecord → WriterRecord → Type 0
Asks x y = (t : Stamp) → asked_stamp y.phase ≡ Some t → asked_stamp x.phase ≡ Some t

waits-same : (x y : WriterRecord) → y.waiting ≡ x.waiting → y.stream ≡ x.stream → y.committed ≡ x.committed → reach_of y.phase ≤ reach_of x.phase → ((m : NodeId) → Has y.members m → Has x.members m) → WaitsSame x y
waits-same x y w s c r ms = record {
  committed = c;
  each = λ n q e le. record { waits = sym w ∙ e; reach = omega (arith, le, r); unacked = ap (λ (z : StreamState). z.unacked) s; number = ap (λ (z : StreamState). z.seqno) s; members = ms };
}

keeps-same : (x y : WriterRecord) → y.waiting ≡ x.waiting → y.stream ≡ x.stream → y.committed ≡ x.committed → reach_of y.phase ≤ reach_of x.phase → ((m : NodeId) → Has y.members m → Has x.members m) → Asks x y → KeepsWait x y
keeps-same x y w s c r ms a = record { same = waits-same x y w s c r ms; asked = a }

keeps-none : (x y : WriterRecord) → y.committed ≡ x.committed → ((n : ℕ) (q : ℤ) → y.waiting ≡ Formed n q → ⊥) → Asks x y → KeepsWait x y
keeps-none x y c h a = record { same = record { committed = c; each = λ n q e le. absurd (h n q e) }; asked = a }

-- where none is asked
none-asked : (x y : WriterRecord) → asked_stamp y.phase ≡ None → Asks x y
none-asked x y e = λ t k. absurd (none-some t (sym e ∙ k))

same-asked : (x y : WriterRecord) → y.phase ≡ x.phase → Asks x y
same-asked x y e = λ t k. ap asked_stamp (sym e) ∙ k

keeps-here : (x y : WriterRecord) → y.waiting ≡ x.waiting → y.stream ≡ x.stream → y.committed ≡ x.committed → y.phase ≡ x.phase → y.members ≡ x.members → KeepsWait x y
keeps-here x y w s c p ms = keeps-same x y w s c (omega (arith, ap reach_of p)) (λ m h. subst (λ (xs : List NodeId). Has xs m) ms h) (same-asked x y p)

-- members that are left
has-filter : (f : NodeId → Bool) (xs : List NodeId) (m : NodeId) → Has (filter f xs) m → Has xs m
has-filter f [] m h = h
has-filter f (x ∷ xs) m h = go (λ k. has-filter f xs m k) (f x) h
  where
    up : Has xs m → Has (x ∷ xs) m
    up k = record { place = suc k.place; there = k.there }

    here : (Has (filter f xs) m → Has xs m) → (i : ℕ) → slice_get (x ∷ filter f xs) i ≡ Some m → Has (x ∷ xs) m
    here g zero e = record { place = zero; there = e }
    here g (suc i) e = up (g (record { place = i; there = e }))

    go : (Has (filter f xs) m → Has xs m) → (b : Bool) → Has (if b then x ∷ filter f xs else filter f xs) m → Has (x ∷ xs) m
    go g true k = here g k.place k.there
    go g false k = up (g k)

-- ITS OWN STEP

-- A packet that is formed: of an hsync that waited for one before, or that this one is for, which has sync and ends with its bytes.
pub data FormsFor (x y : WriterRecord) (p : Packet) (n : ℕ) (q : ℤ) : Type 0 where
  forms_other : x.waiting ≡ Formed n q → FormsFor x y p n q
  forms_this : q ≡ pos x.stream.seqno → p.sync ≡ true → n ≤ packet_end p → FormsFor x y p n q

pub record FormsWait (x y : WriterRecord) (p : Packet) : Type 0 where
  pub committed : y.committed ≡ x.committed
  pub members : y.members ≡ x.members
  pub reach : reach_of x.phase ≡ 2
  pub number : p.seqno ≡ pos x.stream.seqno
  pub unacked : y.stream.unacked ≡ x.stream.unacked ++ p ∷ []
  pub next : 2 ≤ reach_of y.phase → y.stream.seqno ≡ x.stream.seqno + 1
  pub asked : asked_stamp y.phase ≡ None
  pub each : (n : ℕ) (q : ℤ) → y.waiting ≡ Formed n q → 2 ≤ reach_of y.phase → FormsFor x y p n q

-- one that is sent again
pub record ResendsWait (x y : WriterRecord) (p : Packet) : Type 0 where
  pub keeps : KeepsWait x y
  pub place : ℕ
  pub old : slice_get x.stream.unacked place ≡ Some p
  pub reach : reach_of x.phase ≡ 2
  pub asked : asked_stamp y.phase ≡ None

abbrev pub GoesWait : WriterRecord → Action → WriterRecord → Type 0
GoesWait x (action.Send p) y = ResendsWait x y p ⊎ FormsWait x y p
GoesWait x _ y = KeepsWait x y

abbrev GoesTo : WriterRecord → Step → Type 0
GoesTo x s = GoesWait x s.action s.writer

pub keeps-itself : (x : WriterRecord) → KeepsWait x x
keeps-itself x = keeps-here x x refl refl refl refl refl

none-formed : (x y : WriterRecord) → y.committed ≡ x.committed → y.waiting ≡ None → Asks x y → KeepsWait x y
none-formed x y c e a = keeps-none x y c (λ n q f. none-some _ (sym e ∙ f)) a

due-apart : (m n : ℕ) (q : ℤ) → Some (waiting.Sync m sync.Due) ≡ Formed n q → ⊥
due-apart m n q e = cc

opening-apart : (n : ℕ) (q : ℤ) → Some waiting.Opening ≡ Formed n q → ⊥
opening-apart n q e = cc

flush-apart : (m n : ℕ) (q : ℤ) → Some (waiting.Flush m) ≡ Formed n q → ⊥
flush-apart m n q e = cc

close-apart : (n : ℕ) (q : ℤ) → Some waiting.Close ≡ Formed n q → ⊥
close-apart n q e = cc

formed-same : (m n : ℕ) (p q : ℤ) → Formed m p ≡ Formed n q → (m ≡ n) × (p ≡ q)
formed-same m n p q e = (cc, cc)

taken-keeps : (x : WriterRecord) (c : Command) → x.waiting ≡ None → KeepsWait x (taken_as x c)
taken-keeps x (command.Create ms) e = keeps-none x _ refl (λ n q f. opening-apart n q f) (λ u k. absurd (none-some u k))
taken-keeps x (command.Append ms) e = keeps-none x _ refl (λ n q f. opening-apart n q f) (λ u k. absurd (none-some u k))
taken-keeps x (command.Write bytes) e = none-formed x _ refl e (λ u k. k)
taken-keeps x (command.Fill k) e = none-formed x _ refl e (λ u k. k)
taken-keeps x command.Hflush e = keeps-none x _ refl (λ n q f. flush-apart _ n q f) (λ u k. k)
taken-keeps x command.Hsync e = keeps-none x _ refl (λ n q f. due-apart _ n q f) (λ u k. k)
taken-keeps x command.Close e = keeps-none x _ refl (λ n q f. close-apart n q f) (λ u k. k)

first-goes : (x : WriterRecord) (o : Option Command) → x.waiting ≡ None → GoesTo x (take_first x o)
first-goes x None e = keeps-itself x
first-goes x (Some c) e = taken-keeps x c e

free-goes : (x : WriterRecord) (o : Option Waiting) → x.waiting ≡ o → GoesTo x (free_step_as x o)
free-goes x None e = first-goes x (slice_get x.queue 0) e
free-goes x (Some w) e = keeps-itself x

failed-command-goes : (x : WriterRecord) (f : Failure) (c : Command) → x.waiting ≡ None → GoesTo x (failed_command x f c)
failed-command-goes x f (command.Create ms) e = none-formed x _ refl e (λ u k. k)
failed-command-goes x f (command.Append ms) e = taken-keeps x (command.Append ms) e
failed-command-goes x f (command.Write bytes) e = none-formed x _ refl e (λ u k. k)
failed-command-goes x f (command.Fill k) e = none-formed x _ refl e (λ u k. k)
failed-command-goes x f command.Hflush e = none-formed x _ refl e (λ u k. k)
failed-command-goes x f command.Hsync e = none-formed x _ refl e (λ u k. k)
failed-command-goes x f command.Close e = none-formed x _ refl e (λ u k. k)

failed-first-goes : (x : WriterRecord) (f : Failure) (o : Option Command) → x.waiting ≡ None → GoesTo x (failed_first x f o)
failed-first-goes x f None e = keeps-itself x
failed-first-goes x f (Some c) e = failed-command-goes x f c e

failed-goes : (x : WriterRecord) (f : Failure) (o : Option Waiting) → x.waiting ≡ o → GoesTo x (failed_step_as x f o)
failed-goes x f None e = failed-first-goes x f (slice_get x.queue 0) e
failed-goes x f (Some w) e = none-formed x _ refl refl (λ u k. k)

dial-goes : (x : WriterRecord) (s : Setup) (t : Stamp) (ms : List NodeId) → GoesTo x (dial_step_as x s t ms)
dial-goes x s t [] = keeps-itself x
dial-goes x s t (m ∷ ms) = keeps-itself x

pub open-wait : (x : WriterRecord) → GoesTo x (open_step x)
open-wait x = none-formed x _ refl refl (λ u k. absurd (none-some u k))

pub completed-wait : (x : WriterRecord) → GoesTo x (completed_step x)
completed-wait x = none-formed x _ refl refl (λ u k. absurd (none-some u k))

accepted-goes : (x : WriterRecord) (s : Setup) (t : Stamp) → GoesTo x (accepted_step x s t)
accepted-goes x setup.Create t = open-wait x
accepted-goes x setup.Append t = keeps-itself x
accepted-goes x setup.AppendRecovery t = keeps-itself x
accepted-goes x setup.StreamRecovery t = keeps-itself x
accepted-goes x setup.CloseRecovery t = keeps-itself x

-- what the packet that is formed is for
formed-for : (w : Option Waiting) (b : Bool) (end : ℕ) (z : ℤ) → b ≡ ends_sync w end → (n : ℕ) (q : ℤ) → sync_formed_as b z w ≡ Formed n q → (w ≡ Formed n q) ⊎ ((q ≡ z) × (n ≡ end) × (b ≡ true))
formed-for None true end z e n q f = absurd (none-some _ f)
formed-for None false end z e n q f = absurd (none-some _ f)
formed-for (Some waiting.Opening) true end z e n q f = absurd (opening-apart n q f)
formed-for (Some waiting.Opening) false end z e n q f = absurd (opening-apart n q f)
formed-for (Some (waiting.Flush m)) true end z e n q f = absurd (flush-apart m n q f)
formed-for (Some (waiting.Flush m)) false end z e n q f = absurd (flush-apart m n q f)
formed-for (Some (waiting.Sync m sync.Due)) true end z e n q f = let s = formed-same m n z q f in inr (sym s.1, sym s.0 ∙ same, refl)
  where
    same : m ≡ end
    same = grind (arith, nat_tests, e)
formed-for (Some (waiting.Sync m sync.Due)) false end z e n q f = absurd (due-apart m n q f)
formed-for (Some (waiting.Sync m (sync.Formed p))) true end z e n q f = absurd (false≢true (sym e))
formed-for (Some (waiting.Sync m (sync.Formed p))) false end z e n q f = inl f
formed-for (Some waiting.Close) true end z e n q f = absurd (close-apart n q f)
formed-for (Some waiting.Close) false end z e n q f = absurd (close-apart n q f)

sync-for : (s : StreamState) (w : Option Waiting) (z : ℤ) → syncs_due w ≡ 1 → written_in s ≤ s.sent → IsWritten s w → (n : ℕ) (q : ℤ) → sync_formed_as true z w ≡ Formed n q → (q ≡ z) × (n ≤ s.sent)
sync-for s None z one le k n q f = absurd (none-some _ f)
sync-for s (Some waiting.Opening) z one le k n q f = absurd (opening-apart n q f)
sync-for s (Some (waiting.Flush m)) z one le k n q f = absurd (flush-apart m n q f)
sync-for s (Some (waiting.Sync m sync.Due)) z one le k n q f = let e = formed-same m n z q f in (sym e.1, omega (arith, e.0, le, k))
sync-for s (Some (waiting.Sync m (sync.Formed p))) z one le k n q f = absurd (omega (arith, one))
sync-for s (Some waiting.Close) z one le k n q f = absurd (close-apart n q f)

form-goes : (x : WriterRecord) (d : DuePacket) → Sound x → IsDueNow x d → DueTo x.waiting x.stream d → WaitedOf x → reach_of x.phase ≡ 2 → GoesTo x (form_step x d)
form-goes x (due.Data end b) sound now to h r = inr (record {
  committed = refl;
  members = refl;
  reach = r;
  number = refl;
  unacked = refl;
  next = λ _. refl;
  asked = refl;
  each = λ n q f le. go n q (formed-for x.waiting b end (pos x.stream.seqno) to n q f);
})
  where
    go : (n : ℕ) (q : ℤ) → (x.waiting ≡ Formed n q) ⊎ ((q ≡ pos x.stream.seqno) × (n ≡ end) × (b ≡ true)) → FormsFor x (form_step x (due.Data end b)).writer (next_packet x.stream end b) n q
    go n q (inl e) = forms_other e
    go n q (inr e) = forms_this e.0 e.2 (omega (arith, e.1, next-end x.stream end b sound.stream now.fits.0 now.fits.1))
form-goes x due.Sync sound now to h r = inr (record {
  committed = refl;
  members = refl;
  reach = r;
  number = refl;
  unacked = refl;
  next = λ _. refl;
  asked = refl;
  each = λ n q f le. let e = sync-for x.stream x.waiting (pos x.stream.seqno) now.fits to h.written n q f in forms_this e.0 refl (omega (arith, e.1));
})
form-goes x due.Last sound now to h r = inr (record {
  committed = refl;
  members = refl;
  reach = r;
  number = refl;
  unacked = refl;
  next = λ le. absurd (omega (arith, le));
  asked = refl;
  each = λ n q f le. absurd (omega (arith, le));
})

reach-goes : (x : WriterRecord) (o : Option ℕ) → GoesTo x (reach_step_as x o)
reach-goes x None = free-goes x x.waiting refl
reach-goes x (Some n) = none-formed x _ refl refl (λ u k. k)

due-goes : (x : WriterRecord) (o : Option DuePacket) → due_now x ≡ o → Sound x → WaitedOf x → reach_of x.phase ≡ 2 → GoesTo x (due_step x o)
due-goes x None q sound h r = reach-goes x (reached_length x.waiting x.stream)
due-goes x (Some d) q sound h r = form-goes x d sound (due_now_is x d sound.stream q) (due-now-to x d q) h r

stream-goes : (x : WriterRecord) (sent : ℕ) (o : Option Packet) → slice_get x.stream.unacked sent ≡ o → Sound x → WaitedOf x → reach_of x.phase ≡ 2 → GoesTo x (stream_step_as x sent o)
stream-goes x sent None q sound h r = due-goes x (due_now x) refl sound h r
stream-goes x sent (Some p) q sound h r = inl (record { keeps = keeps-same x _ refl refl refl (omega (arith, r)) (λ m k. k) (λ u k. absurd (none-some u k)); place = sent; old = q; reach = r; asked = refl })

step-goes : (x : WriterRecord) (p : Phase) → x.phase ≡ p → Sound x → WaitedOf x → GoesTo x (step_in x p)
step-goes x phase.Closed e sound h = free-goes x x.waiting refl
step-goes x (phase.Wanted s) e sound h = keeps-itself x
step-goes x (phase.Stamped s t) e sound h = dial-goes x s t x.members
step-goes x (phase.Requested s t) e sound h = free-goes x x.waiting refl
step-goes x (phase.Accepted s t) e sound h = accepted-goes x s t
step-goes x phase.Opened e sound h = open-wait x
step-goes x (phase.Streaming sent) e sound h = stream-goes x sent (slice_get x.stream.unacked sent) refl sound h (ap reach_of e)
step-goes x phase.Closing e sound h = free-goes x x.waiting refl
step-goes x phase.Finished e sound h = keeps-itself x
step-goes x phase.Completed e sound h = completed-wait x
step-goes x (phase.Failed f) e sound h = failed-goes x f x.waiting refl

pub own-step-wait : (x : WriterRecord) → Sound x → WaitedOf x → GoesTo x (own_step x)
unfolding own_step
own-step-wait x sound h = step-goes x x.phase refl sound h

-- WHAT COMES

dropped-keeps : (x : WriterRecord) (s : Setup) (bad : NodeId) (ms : List NodeId) → reach_wanted s ≤ reach_of x.phase → ((m : NodeId) → Has ms m → Has x.members m) → KeepsWait x (dropped x s bad ms)
dropped-keeps x s bad [] r h = keeps-same x _ refl refl refl (omega arith) h (λ u k. absurd (none-some u k))
dropped-keeps x s bad (m ∷ ms) r h = keeps-same x _ refl refl refl r h (λ u k. absurd (none-some u k))

abbrev reach-after : Remedy → ℕ
reach-after remedy.Abandon = 0
reach-after (remedy.Recover s) = reach_wanted s

named-keeps : (x : WriterRecord) (r : Remedy) (o : Option NodeId) → reach-after r ≤ reach_of x.phase → KeepsWait x (fail_named x r o)
named-keeps x r None h = keeps-itself x
named-keeps x remedy.Abandon (Some bad) h = keeps-same x _ refl refl refl (omega arith) (λ m k. k) (λ u k. absurd (none-some u k))
named-keeps x (remedy.Recover s) (Some bad) h = dropped-keeps x s bad (without x.members bad) h (λ m k. has-filter _ x.members m k)

fail-keeps : (x : WriterRecord) (r : Remedy) (place : ℕ) → reach-after r ≤ reach_of x.phase → KeepsWait x (fail_at x r place)
fail-keeps x r place h = named-keeps x r (slice_get x.members place) h

after-reach : (s : Setup) → reach-after (remedy_after s) ≤ reach_in s
after-reach setup.Create = omega arith
after-reach setup.Append = omega arith
after-reach setup.AppendRecovery = omega arith
after-reach setup.StreamRecovery = omega arith
after-reach setup.CloseRecovery = omega arith

abbrev Within : ℕ → Option Remedy → Type 0
Within n None = Unit {0}
Within n (Some r) = reach-after r ≤ n

accepted-within : (s : Setup) → Within (reach_in s) (remedy_accepted s)
accepted-within setup.Create = omega arith
accepted-within setup.Append = omega arith
accepted-within setup.AppendRecovery = omega arith
accepted-within setup.StreamRecovery = omega arith
accepted-within setup.CloseRecovery = tt

remedy-within : (p : Phase) → Within (reach_of p) (remedy_in p)
remedy-within phase.Closed = tt
remedy-within (phase.Wanted s) = tt
remedy-within (phase.Stamped s t) = tt
remedy-within (phase.Requested s t) = after-reach s
remedy-within (phase.Accepted s t) = accepted-within s
remedy-within phase.Opened = omega arith
remedy-within (phase.Streaming sent) = omega arith
remedy-within phase.Closing = omega arith
remedy-within phase.Finished = tt
remedy-within phase.Completed = tt
remedy-within (phase.Failed e) = tt

ack-within : (p : Phase) → Within (reach_of p) (remedy_at_ack p)
ack-within phase.Closed = tt
ack-within (phase.Wanted s) = tt
ack-within (phase.Stamped s t) = tt
ack-within (phase.Requested s t) = tt
ack-within (phase.Accepted s t) = accepted-within s
ack-within phase.Opened = omega arith
ack-within (phase.Streaming sent) = omega arith
ack-within phase.Closing = omega arith
ack-within phase.Finished = tt
ack-within phase.Completed = tt
ack-within (phase.Failed e) = tt

ended-as-keeps : (x : WriterRecord) (o : Option Remedy) → Within (reach_of x.phase) o → KeepsWait x (ended_as x o)
ended-as-keeps x None h = keeps-itself x
ended-as-keeps x (Some r) h = fail-keeps x r 0 h

pub ended-wait : (x : WriterRecord) → KeepsWait x (ended x)
unfolding ended
ended-wait x = ended-as-keeps x (remedy_in x.phase) (remedy-within x.phase)

-- An ack leaves what is unacked, or it is a good one of the oldest packet.
pub record AcksWait (x y : WriterRecord) (a : Ack) : Type 0 where
  pub is : y ≡ acked_oldest x
  pub good : ack_verdict (oldest_seqno x.stream) (length x.members) a ≡ verdict.Good
  pub hears : is_some (remedy_at_ack x.phase) ≡ true

acked-as-wait : (x : WriterRecord) (a : Ack) (r : Remedy) (v : Verdict) → reach-after r ≤ reach_of x.phase → ack_verdict (oldest_seqno x.stream) (length x.members) a ≡ v → is_some (remedy_at_ack x.phase) ≡ true → KeepsWait x (acked_as x r v) ⊎ AcksWait x (acked_as x r v) a
acked-as-wait x a r verdict.Good h e k = inr (record { is = refl; good = e; hears = k })
acked-as-wait x a r (verdict.Bad place) h e k = inl (fail-keeps x r place h)

acked-in-wait : (x : WriterRecord) (a : Ack) (o : Option Remedy) → remedy_at_ack x.phase ≡ o → Within (reach_of x.phase) o → KeepsWait x (acked_in x a o) ⊎ AcksWait x (acked_in x a o) a
acked-in-wait x a None e h = inl (keeps-itself x)
acked-in-wait x a (Some r) e h = acked-as-wait x a r _ h refl (ap (λ (o : Option Remedy). is_some o) e)

pub acked-wait : (x : WriterRecord) (a : Ack) → KeepsWait x (acked x a) ⊎ AcksWait x (acked x a) a
unfolding acked
acked-wait x a = acked-in-wait x a (remedy_at_ack x.phase) refl (ack-within x.phase)

answered-in-keeps : (x : WriterRecord) (p : Phase) (good : Bool) (bad : Option NodeId) → x.phase ≡ p → KeepsWait x (setup_answered_in x p good bad)
answered-in-keeps x (phase.Requested s t) true bad e = keeps-same x _ refl refl refl (omega (arith, ap reach_of e)) (λ m k. k) (λ u k. ap asked_stamp e ∙ k)
answered-in-keeps x (phase.Requested s t) false bad e = fail-keeps x (remedy_after s) (bad_place x.members bad) (omega (arith, after-reach s, ap reach_of e))
answered-in-keeps x phase.Closed good bad e = keeps-itself x
answered-in-keeps x (phase.Wanted s) good bad e = keeps-itself x
answered-in-keeps x (phase.Stamped s t) good bad e = keeps-itself x
answered-in-keeps x (phase.Accepted s t) good bad e = keeps-itself x
answered-in-keeps x phase.Opened good bad e = keeps-itself x
answered-in-keeps x (phase.Streaming n) good bad e = keeps-itself x
answered-in-keeps x phase.Closing good bad e = keeps-itself x
answered-in-keeps x phase.Finished good bad e = keeps-itself x
answered-in-keeps x phase.Completed good bad e = keeps-itself x
answered-in-keeps x (phase.Failed f) good bad e = keeps-itself x

pub setup-wait : (x : WriterRecord) (r : Response) (bad : Option NodeId) → KeepsWait x (setup_answered x r bad)
unfolding setup_answered
setup-wait x r bad = answered-in-keeps x x.phase (is_success r.status) bad refl

dialled-in-keeps : (x : WriterRecord) (p : Phase) → x.phase ≡ p → KeepsWait x (dialled_in x p false)
dialled-in-keeps x (phase.Stamped s t) e = fail-keeps x (remedy_after s) 0 (omega (arith, after-reach s, ap reach_of e))
dialled-in-keeps x phase.Closed e = keeps-itself x
dialled-in-keeps x (phase.Wanted s) e = keeps-itself x
dialled-in-keeps x (phase.Requested s t) e = keeps-itself x
dialled-in-keeps x (phase.Accepted s t) e = keeps-itself x
dialled-in-keeps x phase.Opened e = keeps-itself x
dialled-in-keeps x (phase.Streaming n) e = keeps-itself x
dialled-in-keeps x phase.Closing e = keeps-itself x
dialled-in-keeps x phase.Finished e = keeps-itself x
dialled-in-keeps x phase.Completed e = keeps-itself x
dialled-in-keeps x (phase.Failed f) e = keeps-itself x

-- a dial that isn't answered
pub missed-wait : (x : WriterRecord) → KeepsWait x (dialled x false)
unfolding dialled
missed-wait x = dialled-in-keeps x x.phase refl

-- one that is asks under the stamp of the setup
pub asked-wait : (x : WriterRecord) (s : Setup) (t : Stamp) → x.phase ≡ phase.Stamped s t → WaitsSame x (dialled x true) × ((u : Stamp) → asked_stamp (dialled x true).phase ≡ Some u → u ≡ t)
unfolding dialled
asked-wait x s t e =
    subst (λ (p : Phase). WaitsSame x (dialled_in x p true) × ((u : Stamp) → asked_stamp (dialled_in x p true).phase ≡ Some u → u ≡ t)) (sym e)
    (waits-same x _ refl refl refl (omega (arith, ap reach_of e)) (λ m k. k), λ u k. sym (same_Some t u k))

pub given-wait : (x : WriterRecord) (c : Command) → KeepsWait x (given x c)
given-wait x c = go (admitted x.intake c)
  where
    go : (r : Result Intake CommandFault) → KeepsWait x (given_as x c r)
    go (Ok i) = keeps-here x _ refl refl refl refl refl
    go (Err e) = keeps-itself x

acked-asked : (b : Bool) (p : Phase) (t : Stamp) → asked_stamp (phase_acked b p) ≡ Some t → asked_stamp p ≡ Some t
acked-asked true p t e = absurd (none-some t e)
acked-asked false phase.Closed t e = e
acked-asked false (phase.Wanted s) t e = e
acked-asked false (phase.Stamped s u) t e = e
acked-asked false (phase.Requested s u) t e = e
acked-asked false (phase.Accepted s u) t e = e
acked-asked false phase.Opened t e = e
acked-asked false (phase.Streaming n) t e = absurd (none-some t e)
acked-asked false phase.Closing t e = e
acked-asked false phase.Finished t e = e
acked-asked false phase.Completed t e = e
acked-asked false (phase.Failed f) t e = e

-- where a setup was asked once the oldest packet is acked, it was before
pub oldest-asked : (x : WriterRecord) (t : Stamp) → asked_stamp (acked_oldest x).phase ≡ Some t → asked_stamp x.phase ≡ Some t
oldest-asked x t e = acked-asked (oldest_is_last x.stream) x.phase t e

-- WHAT THE OFFICE ANSWERS

-- the stamp that was committed is so still, or that of the setup that was accepted is
abbrev pub Commits : WriterRecord → WriterRecord → Type 0
Commits x y = (y.committed ≡ x.committed) ⊎ ((s : Setup) × (t : Stamp) × (x.phase ≡ phase.Accepted s t) × (y.committed ≡ t))

pub record GrantsWait (x y : WriterRecord) : Type 0 where
  pub each : (n : ℕ) (q : ℤ) → y.waiting ≡ Formed n q → 2 ≤ reach_of y.phase → WaitsOn x y n q × Commits x y
  pub asked : (t : Stamp) → asked_stamp y.phase ≡ Some t → asked_stamp x.phase ≡ Some t

keeps-grants : (x y : WriterRecord) → KeepsWait x y → GrantsWait x y
keeps-grants x y k = record { each = λ n q e le. (k.same.each n q e le, inl k.same.committed); asked = k.asked }

opens-grants : (x y : WriterRecord) → y.waiting ≡ x.waiting → x.waiting ≡ Some waiting.Opening → asked_stamp y.phase ≡ None → GrantsWait x y
opens-grants x y w e a = record { each = λ n q f le. absurd (opening-apart n q (sym (w ∙ e) ∙ f)); asked = none-asked x y a }

stamped-grants : (x : WriterRecord) (s : Setup) (t : Stamp) → x.phase ≡ phase.Wanted s → SetupOpens s x.waiting → GrantsWait x (stamped x s t)
stamped-grants x setup.Create t e o = opens-grants x _ refl o refl
stamped-grants x setup.Append t e o = keeps-grants x x (keeps-itself x)
stamped-grants x setup.AppendRecovery t e o = opens-grants x _ refl o refl
stamped-grants x setup.StreamRecovery t e o = keeps-grants x _ (keeps-same x _ refl refl refl (omega (arith, ap reach_of e)) (λ m k. k) (λ u k. absurd (none-some u k)))
stamped-grants x setup.CloseRecovery t e o = keeps-grants x _ (keeps-same x _ refl refl refl (omega (arith, ap reach_of e)) (λ m k. k) (λ u k. absurd (none-some u k)))

reopened-grants : (x : WriterRecord) (s : Setup) (r : Reopened) → SetupOpens s x.waiting → GrantsWait x (reopened x s r)
reopened-grants x setup.Append r o =
    choice (λ (y : WriterRecord). GrantsWait x y) (nat_le r.length MAX_APPEND_LENGTH) (record (begin_session x r.committed r.length) { phase = phase.Stamped setup.Append r.new }) x
    (λ _. opens-grants x _ refl o refl) (λ _. keeps-grants x x (keeps-itself x))
reopened-grants x setup.Create r o = keeps-grants x x (keeps-itself x)
reopened-grants x setup.AppendRecovery r o = keeps-grants x x (keeps-itself x)
reopened-grants x setup.StreamRecovery r o = keeps-grants x x (keeps-itself x)
reopened-grants x setup.CloseRecovery r o = keeps-grants x x (keeps-itself x)

stamp-grants : (x : WriterRecord) (s : Setup) (a : OfficeAnswer) → x.phase ≡ phase.Wanted s → SetupOpens s x.waiting → GrantsWait x (stamp_given x s a)
stamp-grants x s (office.Stamp t) e o = stamped-grants x s t e o
stamp-grants x s (office.Reopened r) e o = reopened-grants x s r o
stamp-grants x s (office.Begun b) e o = keeps-grants x x (keeps-itself x)
stamp-grants x s office.Nothing e o = keeps-grants x x (keeps-itself x)

commits-to : (x y : WriterRecord) (s : Setup) (t : Stamp) → x.phase ≡ phase.Accepted s t → y.committed ≡ t → y.waiting ≡ x.waiting → y.stream ≡ x.stream → y.members ≡ x.members → reach_of y.phase ≤ reach_of x.phase → asked_stamp y.phase ≡ None → GrantsWait x y
commits-to x y s t e c w u ms r a = record {
  each = λ n q f le. (record { waits = sym w ∙ f; reach = omega (arith, le, r); unacked = ap (λ (z : StreamState). z.unacked) u; number = ap (λ (z : StreamState). z.seqno) u; members = λ m h. subst (λ (xs : List NodeId). Has xs m) ms h }, inr (s, t, e, c));
  asked = none-asked x y a;
}

committed-grants : (x : WriterRecord) (s : Setup) (t : Stamp) → x.phase ≡ phase.Accepted s t → SetupOpens s x.waiting → GrantsWait x (committed_as x s t)
committed-grants x setup.Create t e o = keeps-grants x x (keeps-itself x)
committed-grants x setup.Append t e o = opens-grants x _ refl o refl
committed-grants x setup.AppendRecovery t e o = opens-grants x _ refl o refl
committed-grants x setup.StreamRecovery t e o = commits-to x _ setup.StreamRecovery t e refl refl refl refl (omega (arith, ap reach_of e)) refl
committed-grants x setup.CloseRecovery t e o = commits-to x _ setup.CloseRecovery t e refl refl refl refl (omega (arith, ap reach_of e)) refl

commit-grants : (x : WriterRecord) (s : Setup) (t : Stamp) (a : OfficeAnswer) → x.phase ≡ phase.Accepted s t → SetupOpens s x.waiting → GrantsWait x (commit_given x s t a)
commit-grants x s t office.Nothing e o = committed-grants x s t e o
commit-grants x s t (office.Stamp u) e o = keeps-grants x x (keeps-itself x)
commit-grants x s t (office.Reopened r) e o = keeps-grants x x (keeps-itself x)
commit-grants x s t (office.Begun b) e o = keeps-grants x x (keeps-itself x)

complete-grants : (x : WriterRecord) (a : OfficeAnswer) → x.phase ≡ phase.Finished → GrantsWait x (complete_given x a)
complete-grants x office.Nothing e = keeps-grants x _ (keeps-same x _ refl refl refl (omega (arith, ap reach_of e)) (λ m k. k) (λ u k. absurd (none-some u k)))
complete-grants x (office.Stamp u) e = keeps-grants x x (keeps-itself x)
complete-grants x (office.Reopened r) e = keeps-grants x x (keeps-itself x)
complete-grants x (office.Begun b) e = keeps-grants x x (keeps-itself x)

granted-in-wait : (x : WriterRecord) (p : Phase) (a : OfficeAnswer) → x.phase ≡ p → PhaseOpens p x.waiting → GrantsWait x (granted_in x p a)
granted-in-wait x (phase.Wanted s) a e o = stamp-grants x s a e o
granted-in-wait x (phase.Accepted s t) a e o = commit-grants x s t a e o
granted-in-wait x phase.Finished a e o = complete-grants x a e
granted-in-wait x phase.Closed a e o = keeps-grants x x (keeps-itself x)
granted-in-wait x (phase.Stamped s t) a e o = keeps-grants x x (keeps-itself x)
granted-in-wait x (phase.Requested s t) a e o = keeps-grants x x (keeps-itself x)
granted-in-wait x phase.Opened a e o = keeps-grants x x (keeps-itself x)
granted-in-wait x (phase.Streaming n) a e o = keeps-grants x x (keeps-itself x)
granted-in-wait x phase.Closing a e o = keeps-grants x x (keeps-itself x)
granted-in-wait x phase.Completed a e o = keeps-grants x x (keeps-itself x)
granted-in-wait x (phase.Failed f) a e o = keeps-grants x x (keeps-itself x)

failed-keeps : (x : WriterRecord) (f : Failure) → KeepsWait x (record x { phase = phase.Failed f })
failed-keeps x f = keeps-same x _ refl refl refl (omega arith) (λ m k. k) (λ u k. absurd (none-some u k))

refused-grants : (x : WriterRecord) (e : OfficeFault) → GrantsWait x (refused x e)
refused-grants x fault.Memory = keeps-grants x x (keeps-itself x)
refused-grants x (fault.LeaseLost id) = keeps-grants x _ (failed-keeps x _)
refused-grants x _ = keeps-grants x _ (failed-keeps x _)

pub granted-wait : (x : WriterRecord) (r : Result OfficeAnswer OfficeFault) → WaitedOf x → GrantsWait x (granted x r)
unfolding granted
granted-wait x (Ok a) h = granted-in-wait x x.phase a refl h.opens
granted-wait x (Err e) h = choice (λ (y : WriterRecord). GrantsWait x y) (asks x.phase) (refused x e) x (λ _. refused-grants x e) (λ _. keeps-grants x x (keeps-itself x))

-- THE ANSWER

-- an answer to an hsync: its packet was formed, and is acked
pub record SyncAnswers (x : WriterRecord) (n : ℕ) (s : Stamp) (ms : List NodeId) : Type 0 where
  pub number : ℤ
  pub waits : x.waiting ≡ Formed n number
  pub acked : is_acked number (oldest_seqno x.stream) ≡ true
  pub stamp : s ≡ x.committed
  pub members : ms ≡ x.members
  pub sent : ℕ
  pub streams : x.phase ≡ phase.Streaming sent

-- what an action answers with a length
abbrev Reached : Action → ℕ → Stamp → List NodeId → Type 0
Reached a n s ms = (i : ℕ) × (a ≡ action.Answered i (answer.Reached n s ms))

-- an hsync waits
pub record WaitsSync (x : WriterRecord) : Type 0 where
  pub least : ℕ
  pub packet : SyncPacket
  pub is : x.waiting ≡ Some (waiting.Sync least packet)

some-when : (b : Bool) (n m : ℕ) → (if b then Some n else None) ≡ Some m → (b ≡ true) × (n ≡ m)
some-when true n m e = (refl, same_Some n m e)
some-when false n m e = absurd (none-some m e)

reached-formed : (x : WriterRecord) (n m : ℕ) (p : SyncPacket) → x.waiting ≡ Some (waiting.Sync m p) → reached_length (Some (waiting.Sync m p)) x.stream ≡ Some n → (q : ℤ) × (x.waiting ≡ Formed n q) × (is_acked q (oldest_seqno x.stream) ≡ true)
reached-formed x n m sync.Due w e = absurd (none-some n e)
reached-formed x n m (sync.Formed q) w e =
    let z = some-when (is_acked q (oldest_seqno x.stream)) m n e in
    (q, w ∙ ap (λ (k : ℕ). Formed k q) z.1, z.0)

answered-parts : (i j n m : ℕ) (s t : Stamp) (ms ks : List NodeId) → action.Answered i (answer.Reached n s ms) ≡ action.Answered j (answer.Reached m t ks) → (n ≡ m) × (s ≡ t) × (ms ≡ ks)
answered-parts i j n m s t ms ks e = (cc, cc, cc)

reach-answers : (x : WriterRecord) (sent n : ℕ) (s : Stamp) (ms : List NodeId) (o : Option ℕ) → reached_length x.waiting x.stream ≡ o → x.phase ≡ phase.Streaming sent → WaitsSync x → Reached (reach_step_as x o).action n s ms → SyncAnswers x n s ms
reach-answers x sent n s ms None q p w (i, e) = absurd (waits-apart x.waiting w.is e)
  where
    waits-apart : (o : Option Waiting) → o ≡ Some (waiting.Sync w.least w.packet) → (free_step_as x o).action ≡ action.Answered i (answer.Reached n s ms) → ⊥
    waits-apart None f e = absurd (none-some _ f)
    waits-apart (Some y) f e = cc
reach-answers x sent n s ms (Some m) q p w (i, e) =
    let z = answered-parts _ i m n x.committed s x.members ms e in
    let y = reached-formed x m w.least w.packet w.is (ap (λ (o : Option Waiting). reached_length o x.stream) (sym w.is) ∙ q) in
    record { number = y.0; waits = y.1 ∙ ap (λ (k : ℕ). Formed k y.0) z.0; acked = y.2; stamp = sym z.1; members = sym z.2; sent = sent; streams = p }

due-answers : (x : WriterRecord) (sent n : ℕ) (s : Stamp) (ms : List NodeId) (o : Option DuePacket) → x.phase ≡ phase.Streaming sent → WaitsSync x → Reached (due_step x o).action n s ms → SyncAnswers x n s ms
due-answers x sent n s ms None p w r = reach-answers x sent n s ms (reached_length x.waiting x.stream) refl p w r
due-answers x sent n s ms (Some (due.Data end b)) p w r = absurd (sent-apart _ r.0 r.1)
  where
    sent-apart : (d : Packet) (i : ℕ) → action.Send d ≡ action.Answered i (answer.Reached n s ms) → ⊥
    sent-apart d i e = cc
due-answers x sent n s ms (Some due.Sync) p w r = absurd (sent-apart _ r.0 r.1)
  where
    sent-apart : (d : Packet) (i : ℕ) → action.Send d ≡ action.Answered i (answer.Reached n s ms) → ⊥
    sent-apart d i e = cc
due-answers x sent n s ms (Some due.Last) p w r = absurd (sent-apart _ r.0 r.1)
  where
    sent-apart : (d : Packet) (i : ℕ) → action.Send d ≡ action.Answered i (answer.Reached n s ms) → ⊥
    sent-apart d i e = cc

stream-answers : (x : WriterRecord) (sent n : ℕ) (s : Stamp) (ms : List NodeId) (o : Option Packet) → x.phase ≡ phase.Streaming sent → WaitsSync x → Reached (stream_step_as x sent o).action n s ms → SyncAnswers x n s ms
stream-answers x sent n s ms None p w r = due-answers x sent n s ms (due_now x) p w r
stream-answers x sent n s ms (Some d) p w r = absurd (sent-apart d r.0 r.1)
  where
    sent-apart : (d : Packet) (i : ℕ) → action.Send d ≡ action.Answered i (answer.Reached n s ms) → ⊥
    sent-apart d i e = cc

pub stream-sync-answers : (x : WriterRecord) (sent i n : ℕ) (s : Stamp) (ms : List NodeId) → x.phase ≡ phase.Streaming sent → WaitsSync x → (own_step x).action ≡ action.Answered i (answer.Reached n s ms) → SyncAnswers x n s ms
unfolding own_step
stream-sync-answers x sent i n s ms p w e = stream-answers x sent n s ms (slice_get x.stream.unacked sent) p w (i, ap (λ (q : Phase). (step_in x q).action) (sym p) ∙ e)

-- a command that is given changes nothing of it
given-on : (x z y : WriterRecord) (n : ℕ) (q : ℤ) → z.waiting ≡ x.waiting → z.phase ≡ x.phase → z.stream ≡ x.stream → z.members ≡ x.members → WaitsOn z y n q → WaitsOn x y n q
given-on x z y n q a b c d o = record {
  waits = sym a ∙ o.waits;
  reach = subst (λ (p : Phase). 2 ≤ reach_of p) b o.reach;
  unacked = o.unacked ∙ ap (λ (s : StreamState). s.unacked) c;
  number = o.number ∙ ap (λ (s : StreamState). s.seqno) c;
  members = λ m h. subst (λ (ms : List NodeId). Has ms m) d (o.members m h);
}

given-keeps : (x z y : WriterRecord) → z.waiting ≡ x.waiting → z.phase ≡ x.phase → z.stream ≡ x.stream → z.members ≡ x.members → z.committed ≡ x.committed → KeepsWait z y → KeepsWait x y
given-keeps x z y a b c d e k = record {
  same = record { committed = k.same.committed ∙ e; each = λ n q f r. given-on x z y n q a b c d (k.same.each n q f r) };
  asked = λ t q. ap asked_stamp (sym b) ∙ k.asked t q;
}

given-for : (x z y : WriterRecord) (p : Packet) (n : ℕ) (q : ℤ) → z.waiting ≡ x.waiting → z.stream ≡ x.stream → FormsFor z y p n q → FormsFor x y p n q
given-for x z y p n q a c (forms_other w) = forms_other (sym a ∙ w)
given-for x z y p n q a c (forms_this e s l) = forms_this (e ∙ ap (λ (s : StreamState). pos s.seqno) c) s l

pub given-goes : (x z : WriterRecord) (b : Action) (y : WriterRecord) → z.waiting ≡ x.waiting → z.phase ≡ x.phase → z.stream ≡ x.stream → z.members ≡ x.members → z.committed ≡ x.committed → GoesWait z b y → GoesWait x b y
given-goes x z action.Wait y w p s m c k = given-keeps x z y w p s m c k
given-goes x z action.Took y w p s m c k = given-keeps x z y w p s m c k
given-goes x z (action.Ask q) y w p s m c k = given-keeps x z y w p s m c k
given-goes x z (action.Dial to r) y w p s m c k = given-keeps x z y w p s m c k
given-goes x z (action.Answered i a) y w p s m c k = given-keeps x z y w p s m c k
given-goes x z action.Memory y w p s m c k = given-keeps x z y w p s m c k
given-goes x z (action.Send d) y w p s m c (inl k) = inl (record { keeps = given-keeps x z y w p s m c k.keeps; place = k.place; old = subst (λ (u : StreamState). slice_get u.unacked k.place ≡ Some d) s k.old; reach = ap reach_of (sym p) ∙ k.reach; asked = k.asked })
given-goes x z (action.Send d) y w p s m c (inr k) = inr (record {
  committed = k.committed ∙ c;
  members = k.members ∙ m;
  reach = ap reach_of (sym p) ∙ k.reach;
  number = k.number ∙ ap (λ (u : StreamState). pos u.seqno) s;
  unacked = k.unacked ∙ ap (λ (u : StreamState). u.unacked ++ d ∷ []) s;
  next = λ r. k.next r ∙ ap (λ (u : StreamState). u.seqno + 1) s;
  asked = k.asked;
  each = λ n q f r. given-for x z y d n q w s (k.each n q f r);
})
