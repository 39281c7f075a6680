-- The connection fits the writer after each event.
use Rattle.std.proofs.Common.{◌≡◌, Bool, true, false, slice_get, Option, Some, None, Result, Ok, Err, refl, sym, ap, ◌∙◌, subst, inl, inr}
use Rattle.std.specs.Prelude.{is_some}
use Rattle.hd_base.specs.declared.ends.Conn.{Conn}
use Rattle.hd_base.specs.declared.links.LinkIn as link_in
use Rattle.hd_base.specs.declared.links.LinkOut as link_out
use Rattle.hd_base.specs.declared.numbers.Stamp.{Stamp}
use Rattle.hd_base.specs.declared.roads.Roads as roads
use Rattle.pipe_recovery.specs.LinkMessages.Incomings.{IncomingState}
use Rattle.name_core.specs.declared.calls.OfficeCall.{OfficeCall}
use Rattle.name_core.specs.declared.desks.Desk as desks
use Rattle.member_events.specs.PipeMember.Looked.{Looked}
use Rattle.pipe_recovery.specs.declared.acting.Acted as acting
use Rattle.pipe_recovery.specs.declared.acting.Acted.TheVariants as acted
use Rattle.pipe_recovery.specs.declared.hearing.Answer.{Answer}
use Rattle.pipe_recovery.specs.declared.hearing.Looked as recovery_looked
use Rattle.pipe_recovery.specs.declared.hearing.Looked.TheVariants as looked
use Rattle.pipe_recovery.specs.declared.links.Link.{Link}
use Rattle.pipe_recovery.specs.declared.rebuilding.Rebuild.{Rebuild}
use Rattle.pipe_recovery.specs.declared.rebuilding.RebuildStep.{RebuildStep}
use Rattle.pipe_recovery.specs.declared.rebuilding.RebuildStep.TheVariants as step
use Rattle.pipe_recovery.specs.declared.rebuilding.Rebuilt.TheVariants as rebuilt
use Rattle.pipe_recovery.specs.Acting.{MovesOn, has_own_step}
use Rattle.pipe_recovery.specs.Asking.{Asks, AsksBy}
use Rattle.pipe_recovery.specs.Reports.{failed_as, moved_if, Streams, Sees, Awaits, ReportsAccepted, ReportsAt, Reports}
use Rattle.pipe_recovery.specs.Steps as recovery
use Rattle.pipe_recovery.specs.Steps.{fits_in, fits_accepted, is_stamped, Acts, Waits, FollowsLook, TakesAs, HearsGiven, HearsSeen, HearsNextAs, ElseAsks, GoesOn, StillFits, Steps}
use Rattle.writer_core.specs.declared.actions.Action.{Action}
use Rattle.writer_core.specs.declared.actions.Action.TheVariants as action
use Rattle.writer_core.specs.declared.commands.Command.{Command}
use Rattle.writer_core.specs.declared.commands.Command.TheVariants as command
use Rattle.writer_core.specs.declared.phases.Failure.{Failure}
use Rattle.writer_core.specs.declared.phases.Failure.TheVariants as failure
use Rattle.writer_core.specs.declared.phases.Phase.{Phase}
use Rattle.writer_core.specs.declared.phases.Phase.TheVariants as phase
use Rattle.writer_core.specs.declared.phases.Setup.{Setup}
use Rattle.writer_core.specs.declared.phases.Setup.TheVariants as setup
use Rattle.writer_core.specs.declared.phases.Waiting.{Waiting}
use Rattle.writer_core.specs.declared.records.WriterRecord.{WriterRecord}
use Rattle.writer_core.specs.Transitions.{own_step, step_in, is_connected, taken_as, take_first, free_step_as}
use Rattle.client_events.specs.declared.faults.ClientFault.{ClientFault}
use Rattle.client_events.specs.declared.faults.ClientFault.TheVariants as fault
use Rattle.client_events.specs.declared.pipes.Pipe.{Pipe}
use Rattle.client_events.specs.declared.pipes.Pipe.TheVariants as pipe
use Rattle.client_events.specs.declared.sending.Sending.{Sending}
use Rattle.client_events.specs.declared.sending.Sending.TheVariants as sending
use Rattle.client_events.specs.declared.acting.Said.{Said}
use Rattle.client_events.specs.Acting.{AnswersIf}
use Rattle.client_events.specs.Answering.{piped}
use Rattle.client_events.specs.Committing.{IsAccepted, is_opened, IsReadOff}
use Rattle.client_events.specs.Completing.{Puts, is_completed}
use Rattle.client_events.specs.Events.{KeepsSetup, FitsCompleted}
use Rattle.client_events.specs.Hearing.{Hears}
use Rattle.client_events.specs.Sending.{IsFollowed, FollowsSending}
use Rattle.client_events.specs.Showing.{awaits, PipeFits, FitsAfter}
use Rattle.client_events.specs.Steps.{IsSettled}
use Rattle.client_events.proofs.PhaseLaws.{told_of_free, step_free, granted_free, told_unstamped, wants, granted_unstamped, free_quiet}

abbrev left_from : {A : Type 0} → A → Result A ClientFault → A
left_from z (Ok a) = a
left_from z (Err why) = z

-- WHERE A SETUP IS UNDER WAY

-- What a setup that is still under way asks of the writer.
abbrev pub StillSets : Phase → Bool → Type 0
StillSets p linked = (fits_in p linked ≡ true) × (is_stamped p ≡ false)

taken_sets : (x : WriterRecord) (c : Command) (linked : Bool) → is_connected (taken_as x c).phase ≡ true → StillSets x.phase linked → StillSets (taken_as x c).phase linked
taken_sets x (command.Create members) linked k h = cc
taken_sets x (command.Append members) linked k h = cc
taken_sets x (command.Write bytes) linked k h = h
taken_sets x (command.Fill count) linked k h = h
taken_sets x command.Hflush linked k h = h
taken_sets x command.Hsync linked k h = h
taken_sets x command.Close linked k h = h

first_sets : (x : WriterRecord) (c : Option Command) (linked : Bool) → (take_first x c).action ≡ action.Took → is_connected (take_first x c).writer.phase ≡ true → StillSets x.phase linked → StillSets (take_first x c).writer.phase linked
first_sets x None linked e k h = cc
first_sets x (Some c) linked e k h = taken_sets x c linked k h

free_sets : (x : WriterRecord) (w : Option Waiting) (linked : Bool) → (free_step_as x w).action ≡ action.Took → is_connected (free_step_as x w).writer.phase ≡ true → StillSets x.phase linked → StillSets (free_step_as x w).writer.phase linked
free_sets x None linked e k h = first_sets x (slice_get x.queue 0) linked e k h
free_sets x (Some w) linked e k h = cc

accepted_sets : (x : WriterRecord) (s : Setup) (stamp : Stamp) (linked : Bool) → (step_in x (phase.Accepted s stamp)).action ≡ action.Took → fits_accepted s linked ≡ true → ⊥
accepted_sets x setup.Create stamp linked e h = cc
accepted_sets x setup.Append stamp linked e h = cc
accepted_sets x setup.AppendRecovery stamp linked e h = cc
accepted_sets x setup.StreamRecovery stamp linked e h = cc
accepted_sets x setup.CloseRecovery stamp linked e h = cc

step_sets : (x : WriterRecord) (p : Phase) (linked : Bool) → (step_in x p).action ≡ action.Took → is_connected (step_in x p).writer.phase ≡ true → StillSets p linked → StillSets x.phase linked → StillSets (step_in x p).writer.phase linked
step_sets x (phase.Wanted s) linked e k f h = cc
step_sets x (phase.Stamped s stamp) linked e k f h = cc
step_sets x (phase.Requested s stamp) linked e k f h = free_sets x x.waiting linked e k h
step_sets x (phase.Accepted s stamp) linked e k f h = absurd (accepted_sets x s stamp linked e f.0)
step_sets x p linked e k f h = cc

-- A writer that takes a command while its setup is under way, and keeps the connection, is where it was.
own_sets : (x : WriterRecord) (linked : Bool) → (own_step x).action ≡ action.Took → is_connected (own_step x).writer.phase ≡ true → StillSets x.phase linked → StillSets (own_step x).writer.phase linked
unfolding own_step
own_sets x linked e k h = step_sets x x.phase linked e k h h

-- WHERE THE PIPELINE STANDS

module _ {R I O : Type 0} (r : roads.Ghosts R I O) (i : link_in.Ghosts I) (o : link_out.Ghosts O) where
  -- An end that was settled is that of a pipeline that stands, or there is none.
  settled_fits : (on : Bool) (end : Conn I O) (incoming : IncomingState) (road road' : R) (p : Phase) (left : Pipe I O) → IsSettled r i o on end incoming road road' (Ok left) → awaits p ≡ false → PipeFits p left
  settled_fits true end incoming road road' p (pipe.Streaming e n) h k = k
  settled_fits true end incoming road road' p pipe.Closed h k = absurd h
  settled_fits true end incoming road road' p (pipe.SettingUp s) h k = absurd h
  settled_fits false end incoming road road' p pipe.Closed h k = k
  settled_fits false end incoming road road' p (pipe.Streaming e n) h k = absurd h
  settled_fits false end incoming road road' p (pipe.SettingUp s) h k = absurd h

  pub hear_fits : (known known' : WriterRecord) (old : Conn I O) (before : IncomingState) (on : Bool) (end : Conn I O) (incoming : IncomingState) (half half' : I) (looked : Looked) (road road' : R) (result : Result (Pipe I O) ClientFault) → Hears i known known' before incoming half half' looked
      → IsSettled r i o on end incoming road road' result → FitsAfter known known' (pipe.Streaming old before) result
  hear_fits known known' old before on end incoming half half' looked road road' (Err why) hears h = tt
  hear_fits known known' old before on end incoming half half' looked road road' (Ok left) hears h = λ k.
      settled_fits on end incoming road road' known'.phase left h (ap (λ (x : WriterRecord). awaits x.phase) hears.writer ∙ told_of_free known hears.came k)

  sent_fits : (how : Sending) (on : Bool) (end : Conn I O) (incoming : IncomingState) (road road' : R) (p : Phase) (left : Pipe I O) → FollowsSending r i o how on end incoming road road' (Ok left) → awaits p ≡ false → PipeFits p left
  sent_fits sending.Done on end incoming road road' p left h k = settled_fits on end incoming road road' p left h k
  sent_fits sending.Failed on end incoming road road' p left h k = absurd h
  sent_fits sending.Memory on end incoming road road' p left h k = absurd h

  -- ACTING

  kept_as : (p : Phase) (left other : Pipe I O) → ◌≡◌ {A = Result (Pipe I O) ClientFault} (Ok left) (Ok other) → PipeFits p other → PipeFits p left
  kept_as p left other e h = subst (λ (c : Pipe I O). PipeFits p c) (sym (ap (left_from other) e)) h

  pub act_fits : (known after : WriterRecord) (on : Bool) (does : Action) (c left : Pipe I O) (road road' : R) → after ≡ (own_step known).writer → IsFollowed r i o on does c road road' (Ok left) → KeepsSetup c (own_step known) → PipeFits known.phase c → PipeFits after.phase left
  act_fits known after on does (pipe.Streaming end incoming) left road road' is h keeps k = sent_fits h.how on _ incoming road road' after.phase left h.follows (ap (λ (x : WriterRecord). awaits x.phase) is ∙ step_free known k)
  act_fits known after on does pipe.Closed left road road' is h keeps k = kept_as after.phase left pipe.Closed h.0 (ap (λ (x : WriterRecord). awaits x.phase) is ∙ step_free known k)
  act_fits known after on does (pipe.SettingUp s) left road road' is h keeps k =
      kept_as after.phase left (pipe.SettingUp s) h.0 (subst (λ (x : WriterRecord). StillSets x.phase (is_some s.link)) (sym is) (own_sets known (is_some s.link) keeps.0 keeps.1 k))

-- A STEP OF A SETUP

moves_unstamped : (x x' : WriterRecord) (a : acting.Acted) (s stamp : _) → x.phase ≡ phase.Requested s stamp → MovesOn (own_step x) x x' a → is_stamped x'.phase ≡ false
unfolding own_step
moves_unstamped x x' a s stamp e (inl h) = ap (λ (y : WriterRecord). is_stamped y.phase) h.1 ∙ ap is_stamped e
moves_unstamped x x' a s stamp e (inr h) = ap (λ (y : WriterRecord). is_stamped y.phase) h.1 ∙ (ap (λ (p : Phase). is_stamped (step_in x p).writer.phase) e ∙ free_quiet is_stamped x (λ t. refl) (ap is_stamped e))

module _ {I O : Type 0} where
  takes_unstamped : (x x' : WriterRecord) (next : Option Answer) (old new : Link I O) (a : acting.Acted) (s : Setup) (stamp : Stamp) → x.phase ≡ phase.Requested s stamp → TakesAs next x x' old new a → is_stamped x'.phase ≡ false
  takes_unstamped x x' (Some n) old new a s stamp e h = ap (λ (y : WriterRecord). is_stamped y.phase) h.0 ∙ told_unstamped x n (ap is_stamped e)
  takes_unstamped x x' None old new a s stamp e h = moves_unstamped x x' a s stamp e h.1

  looks_unstamped : (x x' : WriterRecord) (found : recovery_looked.Looked) (old new : Link I O) (a : acting.Acted) (s : Setup) (stamp : Stamp) → x.phase ≡ phase.Requested s stamp → FollowsLook found x x' old new a → is_stamped x'.phase ≡ false
  looks_unstamped x x' looked.Memory old new a s stamp e h = ap (λ (y : WriterRecord). is_stamped y.phase) h.0 ∙ ap is_stamped e
  looks_unstamped x x' looked.Known old new a s stamp e h = takes_unstamped x x' old.heard.next old new a s stamp e h

  waits_unstamped : (i : link_in.Ghosts I) (x x' : WriterRecord) (old new : Option (Link I O)) (a : acting.Acted) (s : Setup) (stamp : Stamp) → x.phase ≡ phase.Requested s stamp → Waits i x x' old new a → is_stamped x'.phase ≡ false
  waits_unstamped i x x' None None a s stamp e h = moves_unstamped x x' a s stamp e h
  waits_unstamped i x x' (Some old) (Some new) a s stamp e h = looks_unstamped x x' h.found h.seen new a s stamp e h.follows
  waits_unstamped i x x' None (Some new) a s stamp e h = absurd h
  waits_unstamped i x x' (Some old) None a s stamp e h = absurd h

  -- HOW IT ENDS

  ended_closed : (p : Phase) (f : Failure) (setup : Rebuild I O) (left : Pipe I O) → piped setup (step.Ended (failed_as f)) ≡ Ok left → awaits p ≡ false → PipeFits p left
  ended_closed p (failure.Abandoned member) setup left e h = subst (λ (c : Pipe I O). PipeFits p c) (ap (left_from pipe.Closed) e) h
  ended_closed p (failure.AllBad member) setup left e h = subst (λ (c : Pipe I O). PipeFits p c) (ap (left_from pipe.Closed) e) h
  ended_closed p (failure.Lost recovery) setup left e h = subst (λ (c : Pipe I O). PipeFits p c) (ap (left_from pipe.Closed) e) h
  ended_closed p (failure.Refused why) setup left e h = subst (λ (c : Pipe I O). PipeFits p c) (ap (left_from pipe.Closed) e) h

  moved_fits : (p : Phase) (more : Bool) (setup : Rebuild I O) (left : Pipe I O) → piped setup (moved_if more) ≡ Ok left → StillFits p (is_some setup.link) (moved_if {I = I} {O = O} more) → is_stamped p ≡ false → PipeFits p left
  moved_fits p true setup left e f n = subst (λ (c : Pipe I O). PipeFits p c) (ap (left_from (pipe.SettingUp setup)) e) (f, n)
  moved_fits p false setup left e f n = subst (λ (c : Pipe I O). PipeFits p c) (ap (left_from (pipe.SettingUp setup)) e) (f, n)

  streams_fits : (p : Phase) (old : Option (Link I O)) (setup : Rebuild I O) (r : RebuildStep I O) (left : Pipe I O) → Streams old setup.link r → piped setup r ≡ Ok left → awaits p ≡ false → PipeFits p left
  streams_fits p None setup r left h e k = absurd h
  streams_fits p (Some l) setup r left h e k =
      subst (λ (c : Pipe I O). PipeFits p c) (ap (left_from (pipe.Streaming l.end l.heard.received)) (ap (piped setup) (sym h.1) ∙ e)) k

  closed_fits : (p : Phase) (setup : Rebuild I O) (r : RebuildStep I O) (left : Pipe I O) → r ≡ step.Ended rebuilt.Closed → piped setup r ≡ Ok left → awaits p ≡ false → PipeFits p left
  closed_fits p setup r left is e k = subst (λ (c : Pipe I O). PipeFits p c) (ap (left_from pipe.Closed) (ap (piped setup) (sym is) ∙ e)) k

  failed_fits : (p : Phase) (f : Failure) (setup : Rebuild I O) (r : RebuildStep I O) (left : Pipe I O) → r ≡ step.Ended (failed_as f) → piped setup r ≡ Ok left → awaits p ≡ false → PipeFits p left
  failed_fits p f setup r left is e k = ended_closed p f setup left (ap (piped setup) (sym is) ∙ e) k

  more_fits : (p : Phase) (more : Bool) (setup : Rebuild I O) (r : RebuildStep I O) (left : Pipe I O) → r ≡ moved_if more → piped setup r ≡ Ok left → StillFits p (is_some setup.link) r → is_stamped p ≡ false → PipeFits p left
  more_fits p more setup r left is e f n = moved_fits p more setup left (ap (piped setup) (sym is) ∙ e) (subst (λ (z : RebuildStep I O). StillFits p (is_some setup.link) z) is f) n

  never_left : (setup : Rebuild I O) (r : RebuildStep I O) (left : Pipe I O) → r ≡ step.Ended rebuilt.Memory → piped setup r ≡ Ok left → ⊥
  never_left setup r left is e = no (ap (piped setup) (sym is) ∙ e)
    where
      no : ◌≡◌ {A = Result (Pipe I O) ClientFault} (Err fault.Memory) (Ok left) → ⊥
      no z = cc

  sees_fits : (p : Phase) (x : WriterRecord) (l : Link I O) (found : recovery_looked.Looked) (setup : Rebuild I O) (r : RebuildStep I O) (left : Pipe I O) → Sees x l found r → piped setup r ≡ Ok left → StillFits p (is_some setup.link) r → is_stamped p ≡ false → PipeFits p left
  sees_fits p x l looked.Memory setup r left h e f n = absurd (never_left setup r left h e)
  sees_fits p x l looked.Known setup r left h e f n = more_fits p _ setup r left h e f n

  awaits_fits : (i : link_in.Ghosts I) (p : Phase) (x : WriterRecord) (old new : Option (Link I O)) (setup : Rebuild I O) (r : RebuildStep I O) (left : Pipe I O) → Awaits i x old new r → piped setup r ≡ Ok left → StillFits p (is_some setup.link) r → is_stamped p ≡ false → PipeFits p left
  awaits_fits i p x (Some old) (Some new) setup r left h e f n = sees_fits p x new h.found setup r left h.sees e f n
  awaits_fits i p x None None setup r left h e f n = absurd h
  awaits_fits i p x None (Some new) setup r left h e f n = absurd h
  awaits_fits i p x (Some old) None setup r left h e f n = absurd h

  accepted_fits : (s : Setup) (stamp : Stamp) (old : Option (Link I O)) (u : Rebuild I O) (r : RebuildStep I O) (left : Pipe I O) → ReportsAccepted s old u.link r → piped u r ≡ Ok left → StillFits (phase.Accepted s stamp) (is_some u.link) r → PipeFits (phase.Accepted s stamp) left
  accepted_fits setup.Create stamp old u r left h e f = streams_fits (phase.Accepted setup.Create stamp) old u r left h e refl
  accepted_fits setup.Append stamp old u r left h e f = more_fits (phase.Accepted setup.Append stamp) true u r left h.1 e f refl
  accepted_fits setup.AppendRecovery stamp old u r left h e f = more_fits (phase.Accepted setup.AppendRecovery stamp) true u r left h.1 e f refl
  accepted_fits setup.StreamRecovery stamp old u r left h e f = more_fits (phase.Accepted setup.StreamRecovery stamp) true u r left h.1 e f refl
  accepted_fits setup.CloseRecovery stamp old u r left h e f = more_fits (phase.Accepted setup.CloseRecovery stamp) true u r left h.1 e f refl

  report_fits_at : (i : link_in.Ghosts I) (p : Phase) (x : WriterRecord) (old : Option (Link I O)) (setup : Rebuild I O) (r : RebuildStep I O) (left : Pipe I O) → ReportsAt i p x old setup.link r → piped setup r ≡ Ok left → StillFits p (is_some setup.link) r → is_stamped p ≡ false → PipeFits p left
  report_fits_at i (phase.Accepted s stamp) x old setup r left h e f n = accepted_fits s stamp old setup r left h e f
  report_fits_at i phase.Opened x old setup r left h e f n = streams_fits phase.Opened old setup r left h e refl
  report_fits_at i (phase.Streaming sent) x old setup r left h e f n = streams_fits (phase.Streaming sent) old setup r left h e refl
  report_fits_at i phase.Finished x old setup r left h e f n = closed_fits phase.Finished setup r left h.1 e refl
  report_fits_at i (phase.Failed f0) x old setup r left h e f n = failed_fits (phase.Failed f0) f0 setup r left h.1 e refl
  report_fits_at i (phase.Requested s stamp) x old setup r left h e f n = awaits_fits i (phase.Requested s stamp) x old setup.link setup r left h e f n
  report_fits_at i p x old setup r left h e f n = more_fits p (has_own_step x) setup r left h.1 e f n

  -- A step of a setup leaves a connection that fits the writer.
  pub report_fits : (i : link_in.Ghosts I) (a : acting.Acted) (x : WriterRecord) (old : Option (Link I O)) (setup : Rebuild I O) (r : RebuildStep I O) (left : Pipe I O) → Reports i a x old setup.link r → piped setup r ≡ Ok left → StillFits x.phase (is_some setup.link) r → is_stamped x.phase ≡ false → PipeFits x.phase left
  report_fits i acted.Memory x old setup r left h e f n = absurd (never_left setup r left h.1 e)
  report_fits i a x old setup r left h e f n = report_fits_at i x.phase x old setup r left h e f n

module _ {D R I O : Type 0} (d : desks.Ghosts D) (r : roads.Ghosts R I O) (i : link_in.Ghosts I) (o : link_out.Ghosts O) where
  -- COMMITTING

  heard_as : (x after : WriterRecord) (next : Option Answer) (old new : Link I O) (heard : Option acting.Acted) → HearsNextAs next x after old new heard → is_stamped x.phase ≡ false → (is_stamped after.phase ≡ false) × (heard ≡ None → after ≡ x)
  heard_as x after (Some n) old new heard h k = (ap (λ (y : WriterRecord). is_stamped y.phase) h.0 ∙ told_unstamped x n k, λ e. absurd (some_none heard h.2 e))
    where
      some_none : (a : Option acting.Acted) → a ≡ Some acted.Moved → a ≡ None → ⊥
      some_none a e z = cc
  heard_as x after None old new heard h k = (ap (λ (y : WriterRecord). is_stamped y.phase) h.0 ∙ k, λ e. h.0)

  heard_seen : (x after : WriterRecord) (found : recovery_looked.Looked) (old new : Link I O) (heard : Option acting.Acted) → HearsSeen found x after old new heard → is_stamped x.phase ≡ false → (is_stamped after.phase ≡ false) × (heard ≡ None → after ≡ x)
  heard_seen x after looked.Memory old new heard h k = (ap (λ (y : WriterRecord). is_stamped y.phase) h.0 ∙ k, λ e. h.0)
  heard_seen x after looked.Known old new heard h k = heard_as x after old.heard.next old new heard h k

  heard_given : (x after : WriterRecord) (given : Bool) (old new : Link I O) (heard : Option acting.Acted) → HearsGiven i given x after old new heard → is_stamped x.phase ≡ false → (is_stamped after.phase ≡ false) × (heard ≡ None → after ≡ x)
  heard_given x after true old new heard h k = heard_seen x after h.found h.seen new heard h.hears k
  heard_given x after false old new heard h k = (ap (λ (y : WriterRecord). is_stamped y.phase) h.0 ∙ k, λ e. h.0)

  heard_first : (x after : WriterRecord) (old new : Option (Link I O)) (heard : Option acting.Acted) → recovery.Hears i x after old new heard → is_stamped x.phase ≡ false → (is_stamped after.phase ≡ false) × (heard ≡ None → after ≡ x)
  heard_first x after None None heard h k = (ap (λ (y : WriterRecord). is_stamped y.phase) h.0 ∙ k, λ e. h.0)
  heard_first x after (Some old) (Some new) heard h k = heard_given x after old.asked old new heard h k
  heard_first x after None (Some new) heard h k = absurd h
  heard_first x after (Some old) None heard h k = absurd h

  accepted_writer : (x : WriterRecord) (s : Setup) (stamp : Stamp) → is_stamped x.phase ≡ false → is_stamped (step_in x (phase.Accepted s stamp)).writer.phase ≡ false
  accepted_writer x setup.Create stamp k = refl
  accepted_writer x setup.Append stamp k = k
  accepted_writer x setup.AppendRecovery stamp k = k
  accepted_writer x setup.StreamRecovery stamp k = k
  accepted_writer x setup.CloseRecovery stamp k = k

  accepted_wants : (x : WriterRecord) (s : Setup) (stamp : Stamp) → wants x.phase ≡ false → wants (step_in x (phase.Accepted s stamp)).writer.phase ≡ false
  accepted_wants x setup.Create stamp k = refl
  accepted_wants x setup.Append stamp k = k
  accepted_wants x setup.AppendRecovery stamp k = k
  accepted_wants x setup.StreamRecovery stamp k = k
  accepted_wants x setup.CloseRecovery stamp k = k

  asks_unstamped_by : (a : Action) (y answered : WriterRecord) (desk desk' : D) (first : acting.Acted) → AsksBy d a y answered desk desk' first → wants y.phase ≡ false → is_stamped y.phase ≡ false → is_stamped answered.phase ≡ false
  asks_unstamped_by (action.Ask call) y answered desk desk' first h w k = ap (λ (z : WriterRecord). is_stamped z.phase) h.writer ∙ granted_unstamped y h.answer w k
  asks_unstamped_by a y answered desk desk' first h w k = ap (λ (z : WriterRecord). is_stamped z.phase) h.writer ∙ k

  asks_unstamped : (x answered : WriterRecord) (s : Setup) (stamp : Stamp) (desk desk' : D) (first : acting.Acted) → x.phase ≡ phase.Accepted s stamp → Asks d (own_step x) x answered desk desk' first → is_stamped answered.phase ≡ false
  unfolding own_step
  asks_unstamped x answered s stamp desk desk' first e (inl h) = ap (λ (z : WriterRecord). is_stamped z.phase) h.writer ∙ ap is_stamped e
  asks_unstamped x answered s stamp desk desk' first e (inr h) =
      asks_unstamped_by (own_step x).action (own_step x).writer answered desk desk' first h
      (ap (λ (p : Phase). wants (step_in x p).writer.phase) e ∙ accepted_wants x s stamp (ap wants e)) (ap (λ (p : Phase). is_stamped (step_in x p).writer.phase) e ∙ accepted_writer x s stamp (ap is_stamped e))

  goes_unstamped : (q : Bool) (answered x' : WriterRecord) (link link' : Option (Link I O)) (road road' : R) (first a : acting.Acted) → q ≡ false → GoesOn r i o q answered x' link link' road road' first a → x' ≡ answered
  goes_unstamped true answered x' link link' road road' first a e h = cc
  goes_unstamped false answered x' link link' road road' first a e h = h.0

  else_unstamped : (heard : Option acting.Acted) (x after x' : WriterRecord) (s : Setup) (stamp : Stamp) (link link' : Option (Link I O)) (desk desk' : D) (road road' : R) (a : acting.Acted) → x.phase ≡ phase.Accepted s stamp → (is_stamped after.phase ≡ false) × (heard ≡ None → after ≡ x)
      → ElseAsks d r i o heard after x' link link' desk desk' road road' a → is_stamped x'.phase ≡ false
  else_unstamped (Some b) x after x' s stamp link link' desk desk' road road' a e k h = ap (λ (z : WriterRecord). is_stamped z.phase) h.0 ∙ k.0
  else_unstamped None x after x' s stamp link link' desk desk' road road' a e k h =
      let same : after ≡ x = k.1 refl in
      let free : is_stamped h.answered.phase ≡ false = asks_unstamped after h.answered s stamp desk desk' h.first (ap (λ (z : WriterRecord). z.phase) same ∙ e) h.asks in
      ap (λ (z : WriterRecord). is_stamped z.phase) (goes_unstamped (is_stamped h.answered.phase) h.answered x' link link' road road' h.first a free h.goes_on) ∙ free

  commits_unstamped : (p : Phase) (x x' : WriterRecord) (link link' : Option (Link I O)) (desk desk' : D) (road road' : R) (a : acting.Acted) → IsAccepted p → x.phase ≡ p → Acts d r i o p x x' link link' desk desk' road road' a → is_stamped x'.phase ≡ false
  commits_unstamped (phase.Accepted s stamp) x x' link link' desk desk' road road' a w e h = else_unstamped h.heard x h.after x' s stamp h.held link' desk desk' road road' a e (heard_first x h.after link h.held h.heard h.hears (ap is_stamped e)) h.else_asks
  commits_unstamped p x x' link link' desk desk' road road' a w e h = absurd w

  read_fits : (p : Phase) (held left : Pipe I O) → IsReadOff held (Ok left) → PipeFits p held → PipeFits p left
  read_fits p (pipe.Streaming end incoming) left h k = subst (λ (c : Pipe I O). PipeFits p c) (sym h) k
  read_fits p (pipe.SettingUp u) left h k = subst (λ (c : Pipe I O). PipeFits p c) (sym h) k
  read_fits p pipe.Closed left h k = subst (λ (c : Pipe I O). PipeFits p c) (sym h) k

  opened_fits : (q : Phase) (c : Pipe I O) → PipeFits phase.Opened c → awaits q ≡ false → PipeFits q c
  opened_fits q (pipe.Streaming end incoming) k h = h
  opened_fits q (pipe.SettingUp u) k h = absurd (never k.0)
    where
      never : false ≡ true → ⊥
      never e = cc
  opened_fits q pipe.Closed k h = h

  opened_at : (p : Phase) → is_opened p ≡ true → p ≡ phase.Opened
  opened_at phase.Opened h = refl
  opened_at p h = cc

  answered_fits : (due : Bool) (x x' : WriterRecord) (said : Option Said) (c : Pipe I O) → is_opened x.phase ≡ due → AnswersIf due x x' (Ok said) → PipeFits x.phase c → PipeFits x'.phase c
  answered_fits false x x' said c e h k = subst (λ (y : WriterRecord). PipeFits y.phase c) (sym h.0) k
  answered_fits true x x' said c e h k =
      let at : x.phase ≡ phase.Opened = opened_at x.phase e in
      opened_fits x'.phase c (subst (λ (p : Phase). PipeFits p c) at k) (ap (λ (y : WriterRecord). awaits y.phase) h.0 ∙ step_free x (ap awaits at))

  pub commit_fits : (known middle known' : WriterRecord) (u u' : Rebuild I O) (desk desk' : D) (road road' : R) (ends : RebuildStep I O) (held left : Pipe I O) (said : Option Said) → IsAccepted known.phase → Steps d r i o known middle u.link u'.link desk desk' road road' u'.lost ends
      → StillFits middle.phase (is_some u'.link) ends → piped u' ends ≡ Ok held → IsReadOff held (Ok left) → AnswersIf (is_opened middle.phase) middle known' (Ok said) → PipeFits known'.phase left
  commit_fits known middle known' u u' desk desk' road road' ends held left said accepted steps fits is read answers =
      answered_fits (is_opened middle.phase) middle known' said left refl answers (read_fits middle.phase held left read
      (report_fits i steps.acted middle steps.kept u' ends held steps.reports is fits (commits_unstamped known.phase known middle u.link steps.held desk desk' road steps.middle steps.acted accepted refl steps.acts)))

  -- HEARING THE ANSWER TO A REQUEST

  acts_unstamped : (p : Phase) (x x' : WriterRecord) (link link' : Option (Link I O)) (desk desk' : D) (road road' : R) (a : acting.Acted) → awaits p ≡ true → x.phase ≡ p → Acts d r i o p x x' link link' desk desk' road road' a → is_stamped x'.phase ≡ false
  acts_unstamped (phase.Requested s stamp) x x' link link' desk desk' road road' a w e h = waits_unstamped i x x' link link' a s stamp e h.1.1
  acts_unstamped (phase.Accepted s stamp) x x' link link' desk desk' road road' a w e h = commits_unstamped (phase.Accepted s stamp) x x' link link' desk desk' road road' a tt e h
  acts_unstamped p x x' link link' desk desk' road road' a w e h = cc

  pub answer_fits : (known known' : WriterRecord) (setup taken setup' : Rebuild I O) (desk desk' : D) (road road' : R) (ends : RebuildStep I O) (result : Result (Pipe I O) ClientFault) → awaits known.phase ≡ true → Steps d r i o known known' taken.link setup'.link desk desk' road road' setup'.lost ends
      → StillFits known'.phase (is_some setup'.link) ends → piped setup' ends ≡ result → FitsAfter known known' (pipe.SettingUp setup) result
  answer_fits known known' setup taken setup' desk desk' road road' ends (Err why) waits steps fits is = tt
  answer_fits known known' setup taken setup' desk desk' road road' ends (Ok left) waits steps fits is = λ k.
      report_fits i steps.acted known' steps.kept setup' ends left steps.reports is fits (acts_unstamped known.phase known known' taken.link steps.held desk desk' road steps.middle steps.acted waits refl steps.acts)

-- COMPLETING

answers_free : (due : Bool) (x x' : WriterRecord) (said : Option Said) → AnswersIf due x x' (Ok said) → awaits x.phase ≡ false → awaits x'.phase ≡ false
answers_free false x x' said h k = ap (λ (y : WriterRecord). awaits y.phase) h.0 ∙ k
answers_free true x x' said h k = ap (λ (y : WriterRecord). awaits y.phase) h.0 ∙ step_free x k

module _ {D : Type 0} (d : desks.Ghosts D) where
  pub complete_fits : (known stepped put known' : WriterRecord) (call : OfficeCall) (desk desk' : D) (first : Result (Unit {0}) ClientFault) (result : Result (Option Said) ClientFault) → stepped ≡ (own_step known).writer → Puts d call stepped put desk desk' first → AnswersIf (is_completed put.phase) put known' result
      → FitsCompleted known known' result
  complete_fits known stepped put known' call desk desk' first (Err why) is puts answers = tt
  complete_fits known stepped put known' call desk desk' first (Ok said) is puts answers = λ k.
      answers_free (is_completed put.phase) put known' said answers (ap (λ (y : WriterRecord). awaits y.phase) puts.writer ∙ granted_free stepped puts.answer (ap (λ (y : WriterRecord). awaits y.phase) is ∙ step_free known k))

pub stepped_fits : (known stepped : WriterRecord) → stepped ≡ (own_step known).writer → awaits known.phase ≡ false → awaits stepped.phase ≡ false
stepped_fits known stepped is k = ap (λ (y : WriterRecord). awaits y.phase) is ∙ step_free known k
