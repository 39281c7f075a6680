-- A writer that is given a command or does its own step has formed what it should, and keeps the rule of its sums; so
-- has every writer of a world.
use Rattle.std.proofs.Common.{◌≡◌, ℕ, zero, suc, ◌<◌, ◌≤◌, ◌-◌, Bool, true, false, List, [], ◌∷◌, ◌++◌, length, slice_get, Option, Some, None, Result, Ok, Err, refl, sym, ◌∙◌, ap, subst, arith, ◌⊎◌, inl, inr, length-take}
use Rattle.std.specs.Prelude.{◌&&◌, nat_le, nat_lt, if◌then◌else◌}
use Rattle.std.proofs.lemmas.Bool.Decides.{nat_tests}
use Rattle.std.proofs.lemmas.Option.{none-some, same_Some}
use Rattle.packet_codec.specs.declared.packets.Packet.{Packet}
use Rattle.packet_stream.specs.Streams.{StreamState, IsStream, start_in, written_in, packet_end, next_packet, sync_packet, last_packet}
use Rattle.packet_stream.specs.Extents.{greatest_end}
use Rattle.packet_stream.proofs.CarryLemmas.{start_near}
use Rattle.hd_base.specs.declared.numbers.NodeId.{NodeId}
use Rattle.hd_base.specs.declared.numbers.Stamp.{Stamp}
use Rattle.writer_core.specs.declared.commands.Command.{Command}
use Rattle.writer_core.specs.declared.commands.Command.TheVariants as command
use Rattle.writer_core.specs.declared.commands.CommandFault.{CommandFault}
use Rattle.writer_core.specs.declared.intake.Intake.{Intake}
use Rattle.writer_core.specs.declared.phases.DuePacket.{DuePacket}
use Rattle.writer_core.specs.declared.phases.DuePacket.TheVariants as due
use Rattle.writer_core.specs.declared.phases.Failure.{Failure}
use Rattle.writer_core.specs.declared.phases.Phase.{Phase}
use Rattle.writer_core.specs.declared.phases.Phase.TheVariants as phase
use Rattle.writer_core.specs.declared.phases.Setup.{Setup}
use Rattle.writer_core.specs.declared.phases.Setup.TheVariants as setup
use Rattle.writer_core.specs.declared.phases.SyncPacket.TheVariants as sync
use Rattle.writer_core.specs.declared.phases.Waiting.{Waiting}
use Rattle.writer_core.specs.declared.phases.Waiting.TheVariants as waiting
use Rattle.writer_core.specs.declared.records.WriterRecord.{WriterRecord}
use Rattle.writer_core.specs.Commands.{admitted}
use Rattle.writer_core.specs.Laws.{Move, Gives, Steps, Grants, Dials, Answers, Acks, Ends, after_move, after_moves}
use Rattle.writer_core.specs.Sound.{Sound}
use Rattle.writer_core.specs.Transitions.{fresh, given_as, given, taken_as, take_first, free_step_as, failed_first, failed_command, failed_step_as, dial_step_as, open_step, accepted_step, due_in, due_now, data_due, empty_due, is_flushing, form_step, reach_step_as, reached_length, due_step, stream_step_as, step_in, own_step}
use Rattle.writer_core.proofs.DueLemmas.{IsDueNow, due_now_is, choice}
use Rattle.writer_core.proofs.SoundLemmas.{ended_sound, dialled_sound, setup_sound, acked_sound, granted_sound, own_step_sound, fresh_sound, given_sound}
use Rattle.world.specs.declared.events.Event.{Event}
use Rattle.world.specs.Worlds.{start}
use Rattle.world.specs.Events.{run}
use Rattle.world_laws.specs.Stamping.{known_heard, heard}
use Rattle.world_orders.proofs.Lists.{Behind, get-append}
use Rattle.world_closings.proofs.WorldWriters.AllMove.{all-move}
use Rattle.play_completeness.specs.Formed.{FormedWell, AllFormed}
use Rattle.play_completeness.proofs.Flowing.{end-found}
use Rattle.play_completeness.proofs.MovesKeep.{Goes, goes-same, keeps, moves, ended-goes, answered-goes, dialled-goes, acked-goes, granted-goes}

-- COMMANDS

gives-as : (x : WriterRecord) (c : Command) (r : Result Intake CommandFault) → Goes x (given_as x c r)
gives-as x c (Ok i) = keeps x (given_as x c (Ok i)) refl refl refl (λ e. e)
gives-as x c (Err f) = goes-same x

pub given-goes : (x : WriterRecord) (c : Command) → Goes x (given x c)
given-goes x c = gives-as x c (admitted x.intake c)

takes : (x : WriterRecord) (c : Command) → Goes x (taken_as x c)
takes x (command.Create ms) = moves x (taken_as x (command.Create ms)) refl refl refl refl
takes x (command.Append ms) = moves x (taken_as x (command.Append ms)) refl refl refl refl
takes x (command.Write v) = keeps x (taken_as x (command.Write v)) refl refl refl (λ e. e)
takes x (command.Fill n) = keeps x (taken_as x (command.Fill n)) refl refl refl (λ e. e)
takes x command.Hflush = keeps x (taken_as x command.Hflush) refl refl refl (λ e. e)
takes x command.Hsync = keeps x (taken_as x command.Hsync) refl refl refl (λ e. e)
takes x command.Close = keeps x (taken_as x command.Close) refl refl refl (λ e. e)

takes-first : (x : WriterRecord) (o : Option Command) → Goes x (take_first x o).writer
takes-first x None = goes-same x
takes-first x (Some c) = takes x c

free-goes : (x : WriterRecord) (o : Option Waiting) → Goes x (free_step_as x o).writer
free-goes x None = takes-first x (slice_get x.queue 0)
free-goes x (Some y) = goes-same x

failed-takes : (x : WriterRecord) (f : Failure) (c : Command) → Goes x (failed_command x f c).writer
failed-takes x f (command.Append ms) = moves x (failed_command x f (command.Append ms)).writer refl refl refl refl
failed-takes x f (command.Create ms) = keeps x (failed_command x f (command.Create ms)).writer refl refl refl (λ e. e)
failed-takes x f (command.Write v) = keeps x (failed_command x f (command.Write v)).writer refl refl refl (λ e. e)
failed-takes x f (command.Fill n) = keeps x (failed_command x f (command.Fill n)).writer refl refl refl (λ e. e)
failed-takes x f command.Hflush = keeps x (failed_command x f command.Hflush).writer refl refl refl (λ e. e)
failed-takes x f command.Hsync = keeps x (failed_command x f command.Hsync).writer refl refl refl (λ e. e)
failed-takes x f command.Close = keeps x (failed_command x f command.Close).writer refl refl refl (λ e. e)

failed-goes-first : (x : WriterRecord) (f : Failure) (o : Option Command) → Goes x (failed_first x f o).writer
failed-goes-first x f None = goes-same x
failed-goes-first x f (Some c) = failed-takes x f c

failed-goes : (x : WriterRecord) (f : Failure) (o : Option Waiting) → Goes x (failed_step_as x f o).writer
failed-goes x f None = failed-goes-first x f (slice_get x.queue 0)
failed-goes x f (Some y) = keeps x (failed_step_as x f (Some y)).writer refl refl refl (λ e. e)

-- PIPELINES

dial-goes : (x : WriterRecord) (s : Setup) (t : Stamp) (ms : List NodeId) → Goes x (dial_step_as x s t ms).writer
dial-goes x s t [] = goes-same x
dial-goes x s t (m ∷ ms) = goes-same x

open-goes : (x : WriterRecord) → Goes x (open_step x).writer
open-goes x = moves x (open_step x).writer refl refl refl refl

accepted-goes : (x : WriterRecord) (s : Setup) (t : Stamp) → Goes x (accepted_step x s t).writer
accepted-goes x setup.Create t = open-goes x
accepted-goes x setup.Append t = goes-same x
accepted-goes x setup.AppendRecovery t = goes-same x
accepted-goes x setup.StreamRecovery t = goes-same x
accepted-goes x setup.CloseRecovery t = goes-same x

-- PACKETS

-- one packet more, which ends where all do that were sent
more-inside : (ps : List Packet) (q : Packet) (old new : ℕ) → old ≤ new → packet_end q ≤ new → ((i : ℕ) (p : Packet) → slice_get ps i ≡ Some p → packet_end p ≤ old) → (i : ℕ) (p : Packet) → slice_get (ps ++ q ∷ []) i ≡ Some p → packet_end p ≤ new
more-inside ps q old new le end inside i p at = go (get-append ps (q ∷ []) i p at)
  where
    one : (k : ℕ) → slice_get (q ∷ []) k ≡ Some p → packet_end p ≤ new
    one zero e = subst (λ (x : Packet). packet_end x ≤ new) (same_Some q p e) end
    one (suc k) e = absurd (none-some p e)

    go : (slice_get ps i ≡ Some p) ⊎ Behind ps (q ∷ []) i p → packet_end p ≤ new
    go (inl e) = let l : packet_end p ≤ old = inside i p e in omega (arith, l, le)
    go (inr b) = one b.place b.found

next-within : (s : StreamState) (end : ℕ) (b : Bool) → IsStream s → s.sent < end → packet_end (next_packet s end b) ≤ end
next-within s end b h past =
    let near : start_in s ≤ s.sent = start_near s h in
    let l = length-take (end - start_in s) s.tail in
    omega (arith, near, past, l)

-- The last packet is due only where all that was written is sent.
last-is-due : (x : Option Waiting) (s : StreamState) → (is_flushing x && nat_lt s.sent (written_in s)) ≡ false → empty_due x s ≡ Some due.Last → written_in s ≤ s.sent
last-is-due (Some waiting.Close) s f e = grind (arith, nat_tests, f)
last-is-due None s f e = absurd (none-some due.Last e)
last-is-due (Some waiting.Opening) s f e = absurd (none-some due.Last e)
last-is-due (Some (waiting.Flush n)) s f e = absurd (none-some due.Last e)
last-is-due (Some (waiting.Sync n sync.Due)) s f e = absurd (cc)
last-is-due (Some (waiting.Sync n (sync.Formed q))) s f e = absurd (none-some due.Last e)

data-no-last : (x : Option Waiting) (end : ℕ) → Some (data_due x end) ≡ Some due.Last → ⊥
data-no-last x end e = cc

last-due : (x : Option Waiting) (s : StreamState) → due_in x s ≡ Some due.Last → written_in s ≤ s.sent
last-due x s =
    choice (λ (o : Option DuePacket). o ≡ Some due.Last → written_in s ≤ s.sent) (nat_le (greatest_end s.rule.chunk (start_in s)) (written_in s)) _ _
    (λ _ e. absurd (data-no-last x (greatest_end s.rule.chunk (start_in s)) e))
    (λ _. choice (λ (o : Option DuePacket). o ≡ Some due.Last → written_in s ≤ s.sent) (is_flushing x && nat_lt s.sent (written_in s)) _ _
    (λ _ e. absurd (data-no-last x (written_in s) e))
    (λ f e. last-is-due x s f e))

last-now : (x : WriterRecord) (n : Bool) → (if n then due_in x.waiting x.stream else None) ≡ Some due.Last → written_in x.stream ≤ x.stream.sent
last-now x true e = last-due x.waiting x.stream e
last-now x false e = absurd (none-some due.Last e)

forms : (x : WriterRecord) (d : DuePacket) → IsStream x.stream → IsDueNow x d → (d ≡ due.Last → written_in x.stream ≤ x.stream.sent) → Goes x (form_step x d).writer
forms x (due.Data end b) h now all = record {
  formed = λ f. record {
    inside = more-inside x.stream.unacked (next_packet x.stream end b) x.stream.sent end (let l : x.stream.sent < end = now.fits.0 in omega (arith, l)) (next-within x.stream end b h now.fits.0) f.inside;
    closing = λ e. absurd (apart e);
  };
  rule = refl;
}
  where
    apart : {n : ℕ} → phase.Streaming n ≡ phase.Closing → ⊥
    apart e = cc
forms x due.Sync h now all = record {
  formed = λ f. record {
    inside = more-inside x.stream.unacked (sync_packet x.stream) x.stream.sent x.stream.sent (omega arith) (omega arith) f.inside;
    closing = λ e. absurd (apart e);
  };
  rule = refl;
}
  where
    apart : {n : ℕ} → phase.Streaming n ≡ phase.Closing → ⊥
    apart e = cc
forms x due.Last h now all = record {
  formed = λ f. record {
    inside = more-inside x.stream.unacked (last_packet x.stream x.had_sync) x.stream.sent x.stream.sent (omega arith) (let l : written_in x.stream ≤ x.stream.sent = all refl in omega (arith, l)) f.inside;
    closing = λ _. record { place = length x.stream.unacked; packet = last_packet x.stream x.had_sync; there = end-found x.stream.unacked (last_packet x.stream x.had_sync); last = refl };
  };
  rule = refl;
}

-- OWN STEPS

reaches : (x : WriterRecord) (o : Option ℕ) → Goes x (reach_step_as x o).writer
reaches x (Some n) = keeps x (reach_step_as x (Some n)).writer refl refl refl (λ e. e)
reaches x None = free-goes x x.waiting

due-goes : (x : WriterRecord) (o : Option DuePacket) → IsStream x.stream → due_now x ≡ o → Goes x (due_step x o).writer
due-goes x (Some d) h e = forms x d h (due_now_is x d h e) (λ is. last-now x _ (e ∙ ap (λ (k : DuePacket). Some k) is))
due-goes x None h e = reaches x (reached_length x.waiting x.stream)

streams-on : (x : WriterRecord) (n : ℕ) (o : Option Packet) → IsStream x.stream → Goes x (stream_step_as x n o).writer
streams-on x n (Some p) h = moves x (stream_step_as x n (Some p)).writer refl refl refl refl
streams-on x n None h = due-goes x (due_now x) h refl

steps-in : (x : WriterRecord) (p : Phase) → IsStream x.stream → Goes x (step_in x p).writer
steps-in x phase.Closed h = free-goes x x.waiting
steps-in x (phase.Wanted s) h = goes-same x
steps-in x (phase.Stamped s t) h = dial-goes x s t x.members
steps-in x (phase.Requested s t) h = free-goes x x.waiting
steps-in x (phase.Accepted s t) h = accepted-goes x s t
steps-in x phase.Opened h = open-goes x
steps-in x (phase.Streaming n) h = streams-on x n (slice_get x.stream.unacked n) h
steps-in x phase.Closing h = free-goes x x.waiting
steps-in x phase.Finished h = goes-same x
steps-in x phase.Completed h = moves x (step_in x phase.Completed).writer refl refl refl refl
steps-in x (phase.Failed f) h = failed-goes x f x.waiting

pub own-goes : (x : WriterRecord) → IsStream x.stream → Goes x (own_step x).writer
unfolding own_step
own-goes x h = steps-in x x.phase h

-- EVERY WRITER

move-formed : (x : WriterRecord) (m : Move) → Sound x → FormedWell x → FormedWell (after_move x m)
move-formed x (Gives c) s h = (given-goes x c).formed h
move-formed x Steps s h = (own-goes x s.stream).formed h
move-formed x (Grants r) s h = (granted-goes x r).formed h
move-formed x (Dials b) s h = (dialled-goes x b).formed h
move-formed x (Answers r bad) s h = (answered-goes x r bad).formed h
move-formed x (Acks a) s h = (acked-goes x a).formed h
move-formed x Ends s h = (ended-goes x).formed h

move-sound : (x : WriterRecord) (m : Move) → Sound x → Sound (after_move x m)
move-sound x (Gives c) s = given_sound x c s
move-sound x Steps s = own_step_sound x s
move-sound x (Grants r) s = granted_sound x r s
move-sound x (Dials b) s = dialled_sound x b s
move-sound x (Answers r bad) s = setup_sound x r bad s
move-sound x (Acks a) s = acked_sound x a s
move-sound x Ends s = ended_sound x s

moves-formed : (ms : List Move) (x : WriterRecord) → Sound x → FormedWell x → FormedWell (after_moves x ms)
moves-formed [] x s h = h
moves-formed (m ∷ ms) x s h = moves-formed ms (after_move x m) (move-sound x m s) (move-formed x m s h)

pub all-formed : (nodes : ℕ) (events : List Event) (b : ℕ) → FormedWell (heard ((run (start nodes) events).writers b))
all-formed nodes events b =
    let m = (all-move nodes events b).moved in
    subst FormedWell (sym m.is) (moves-formed m.moves (fresh (record { 0 = b }) m.rule) (fresh_sound (record { 0 = b }) m.rule m.chunk) (record { inside = λ i p at. absurd (none-some p at); closing = λ e. absurd (cc) }))

pub quiet-formed : AllFormed
quiet-formed nodes events quiet b = subst FormedWell (ap (known_heard ((run (start nodes) events).writers b).known) (quiet b)) (all-formed nodes events b)
