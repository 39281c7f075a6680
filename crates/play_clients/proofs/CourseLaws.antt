-- What a writer's own step is, and which events it makes.
use Rattle.std.proofs.lemmas.Bool.Decides.{nat_tests}
use Rattle.std.proofs.Common.{arith, suc, ◌≡◌, ℕ, Bool, true, false, List, [], ◌∷◌, ◌++◌, if◌then◌else◌, slice_get, Option, Some, None, refl, sym, ap, ◌∙◌}
use Rattle.std.specs.Prelude.{◌==◌, option_to_list, length, drop, ◌||◌, ◌&&◌, is_some, is_none, not}
use Rattle.hd_base.specs.declared.numbers.BlockId.{BlockId}
use Rattle.hd_base.specs.declared.numbers.NodeId.{NodeId}
use Rattle.hd_base.specs.declared.numbers.Stamp.{Stamp}
use Rattle.hd_base.specs.SumRules.{default_rule}
use Rattle.packet_codec.specs.declared.packets.Packet.{Packet}
use Rattle.world.specs.declared.events.Event.{Event}
use Rattle.world.specs.declared.events.TakenCommand.{TakenCommand}
use Rattle.world.specs.Enabled.{is_question}
use Rattle.writer_core.specs.declared.actions.Action.{Action}
use Rattle.writer_core.specs.declared.actions.Action.TheVariants as action
use Rattle.writer_core.specs.declared.commands.Command.{Command}
use Rattle.writer_core.specs.declared.commands.Command.TheVariants as command
use Rattle.writer_core.specs.declared.phases.DuePacket.{DuePacket}
use Rattle.writer_core.specs.declared.phases.DuePacket.TheVariants as due
use Rattle.writer_core.specs.declared.phases.Failure.{Failure}
use Rattle.writer_core.specs.declared.phases.Phase.{Phase}
use Rattle.writer_core.specs.declared.phases.Phase.TheVariants as phase
use Rattle.writer_core.specs.declared.phases.Setup.{Setup}
use Rattle.writer_core.specs.declared.phases.Setup.TheVariants as setup
use Rattle.writer_core.specs.declared.phases.Waiting.{Waiting}
use Rattle.writer_core.specs.declared.records.WriterRecord.{WriterRecord}
use Rattle.writer_core.specs.Transitions.{fresh, own_step, step_in, has_step, is_action, take_first, free_step, free_step_as, reach_step_as, reached_length, due_step, due_now, stream_step_as, failed_first, failed_step_as, dial_step_as}
use Rattle.play_model.specs.Dues.{asking, acting, own_events, queue_left}
use Rattle.client_events.specs.Committing.{IsAccepted}
use Rattle.client_events.specs.SettingUp.{IsWanted}
use Rattle.play_clients.specs.declared.clients.Client.{Client}
use Rattle.play_clients.specs.declared.courses.Course.{Course}
use Rattle.play_clients.specs.declared.courses.Course.TheVariants as course
use Rattle.play_clients.specs.Clients.{known_of, client_has_step}
use Rattle.play_clients.specs.Courses.{course_of, course_in}

-- A WRITER THAT WAS GIVEN NOTHING

abbrev pub is_nil : {A : Type 0} → List A → Bool
is_nil [] = true
is_nil (x ∷ xs) = false

-- A writer that was given nothing has nothing to do.
pub fresh_waits : (block : BlockId) → has_step (fresh block default_rule) ≡ false
unfolding own_step
fresh_waits block = refl

pub fresh_course : (block : BlockId) (writer : Option WriterRecord) → writer ≡ None → course_of (known_of block writer) ≡ course.Takes
fresh_course block None e = rw (fresh_waits block) refl
fresh_course block (Some x) e = cc

pub nil_length : {A : Type 0} (xs : List A) → (length xs == 0) ≡ is_nil xs
nil_length [] = refl
nil_length (x ∷ xs) = above (length xs)
  where
    above : (n : ℕ) → (suc n == 0) ≡ false
    above n = grind (arith, nat_tests)

has_more : (xs : List TakenCommand) (q : Bool) → q ≡ is_nil xs → not q ≡ is_some (slice_get xs 0)
has_more [] q e = rw (e) refl
has_more (x ∷ xs) q e = rw (e) refl

unmade_step : (block : BlockId) (writer : Option WriterRecord) (more : Bool) → writer ≡ None → has_step (known_of block writer) || (is_none (known_of block writer).waiting && more) ≡ more
unmade_step block None more e = rw (fresh_waits block) refl
unmade_step block (Some x) more e = cc

pub unmade_has_step : {I O : Type 0} (c : Client I O) (empty : Bool) → c.writer ≡ None → empty ≡ is_nil c.queue.items → not empty ≡ client_has_step c
unmade_has_step c empty none is = has_more c.queue.items empty is ∙ sym (unmade_step c.block c.writer (is_some (slice_get c.queue.items 0)) none)

-- The command that was taken off the queue was its first.
pub popped_first : {A : Type 0} (xs ys : List A) (x : A) → xs ≡ option_to_list (Some x) ++ ys → slice_get xs 0 ≡ Some x
popped_first {A} xs ys x e = ap (λ (zs : List A). slice_get zs 0) e

-- COURSES

-- What a course says of the writer: whether it has a step, and where it is.
pub record IsCourse (x : WriterRecord) (k : Course) : Type 0 where
  pub steps : has_step x ≡ true
  pub at : course_in x.phase ≡ k

course_at : (q : Bool) (x : WriterRecord) (k : Course) → has_step x ≡ q → (if q then course_in x.phase else course.Takes) ≡ k → (k ≡ course.Takes → ⊥) → IsCourse x k
course_at true x k e h apart = record { steps = e; at = h }
course_at false x k e h apart = absurd (apart (sym h))

pub course_is : (x : WriterRecord) (k : Course) → course_of x ≡ k → (k ≡ course.Takes → ⊥) → IsCourse x k
course_is x k h apart = course_at (has_step x) x k refl h apart

after_acts : (s : Setup) (stamp : Stamp) → course_in (phase.Accepted s stamp) ≡ course.Takes → ⊥
after_acts setup.Create stamp e = cc
after_acts setup.Append stamp e = cc
after_acts setup.AppendRecovery stamp e = cc
after_acts setup.StreamRecovery stamp e = cc
after_acts setup.CloseRecovery stamp e = cc

never_takes : (p : Phase) → course_in p ≡ course.Takes → ⊥
never_takes (phase.Wanted s) e = cc
never_takes (phase.Accepted s stamp) e = after_acts s stamp e
never_takes phase.Finished e = cc
never_takes p e = cc

takes_at : (q : Bool) (x : WriterRecord) → has_step x ≡ q → (if q then course_in x.phase else course.Takes) ≡ course.Takes → has_step x ≡ false
takes_at true x e h = absurd (never_takes x.phase h)
takes_at false x e h = e

pub takes_is : (x : WriterRecord) → course_of x ≡ course.Takes → has_step x ≡ false
takes_is x h = takes_at (has_step x) x refl h

after_sets_up : (s : Setup) (stamp : Stamp) → course_in (phase.Accepted s stamp) ≡ course.SetsUp → ⊥
after_sets_up setup.Create stamp e = cc
after_sets_up setup.Append stamp e = cc
after_sets_up setup.AppendRecovery stamp e = cc
after_sets_up setup.StreamRecovery stamp e = cc
after_sets_up setup.CloseRecovery stamp e = cc

pub wanted_so : (p : Phase) → course_in p ≡ course.SetsUp → IsWanted p
wanted_so (phase.Wanted s) e = tt
wanted_so (phase.Accepted s stamp) e = absurd (after_sets_up s stamp e)
wanted_so phase.Finished e = cc
wanted_so p e = cc

pub accepted_so : (p : Phase) → course_in p ≡ course.Commits → IsAccepted p
accepted_so (phase.Accepted s stamp) e = tt
accepted_so (phase.Wanted s) e = cc
accepted_so phase.Finished e = cc
accepted_so p e = cc

after_completes : (s : Setup) (stamp : Stamp) → course_in (phase.Accepted s stamp) ≡ course.Completes → ⊥
after_completes setup.Create stamp e = cc
after_completes setup.Append stamp e = cc
after_completes setup.AppendRecovery stamp e = cc
after_completes setup.StreamRecovery stamp e = cc
after_completes setup.CloseRecovery stamp e = cc

pub finished_so : (p : Phase) → course_in p ≡ course.Completes → p ≡ phase.Finished
finished_so phase.Finished e = refl
finished_so (phase.Wanted s) e = cc
finished_so (phase.Accepted s stamp) e = absurd (after_completes s stamp e)
finished_so p e = cc

-- WHO ASKS

take_quiet : (x : WriterRecord) (c : Option Command) → is_question (take_first x c).action ≡ false
take_quiet x None = refl
take_quiet x (Some c) = refl

free_quiet_as : (x : WriterRecord) (w : Option Waiting) → is_question (free_step_as x w).action ≡ false
free_quiet_as x None = take_quiet x (slice_get x.queue 0)
free_quiet_as x (Some w) = refl

free_quiet : (x : WriterRecord) → is_question (free_step x).action ≡ false
free_quiet x = free_quiet_as x x.waiting

reach_quiet : (x : WriterRecord) (n : Option ℕ) → is_question (reach_step_as x n).action ≡ false
reach_quiet x None = free_quiet x
reach_quiet x (Some n) = refl

due_quiet : (x : WriterRecord) (d : Option DuePacket) → is_question (due_step x d).action ≡ false
due_quiet x None = reach_quiet x (reached_length x.waiting x.stream)
due_quiet x (Some (due.Data end is_sync)) = refl
due_quiet x (Some due.Sync) = refl
due_quiet x (Some due.Last) = refl

stream_quiet : (x : WriterRecord) (sent : ℕ) (p : Option Packet) → is_question (stream_step_as x sent p).action ≡ false
stream_quiet x sent None = due_quiet x (due_now x)
stream_quiet x sent (Some p) = refl

failed_quiet : (x : WriterRecord) (f : Failure) (c : Option Command) → is_question (failed_first x f c).action ≡ false
failed_quiet x f None = refl
failed_quiet x f (Some (command.Append members)) = refl
failed_quiet x f (Some c) = refl

failed_quiet_as : (x : WriterRecord) (f : Failure) (w : Option Waiting) → is_question (failed_step_as x f w).action ≡ false
failed_quiet_as x f None = failed_quiet x f (slice_get x.queue 0)
failed_quiet_as x f (Some w) = refl

dial_quiet : (x : WriterRecord) (s : Setup) (stamp : Stamp) (ns : List NodeId) → is_question (dial_step_as x s stamp ns).action ≡ false
dial_quiet x s stamp [] = refl
dial_quiet x s stamp (n ∷ ns) = refl

accepted_quiet : (x : WriterRecord) (s : Setup) (stamp : Stamp) → course_in (phase.Accepted s stamp) ≡ course.Acts → is_question (step_in x (phase.Accepted s stamp)).action ≡ false
accepted_quiet x setup.Create stamp e = refl
accepted_quiet x setup.Append stamp e = cc
accepted_quiet x setup.AppendRecovery stamp e = cc
accepted_quiet x setup.StreamRecovery stamp e = cc
accepted_quiet x setup.CloseRecovery stamp e = cc

step_quiet : (x : WriterRecord) (p : Phase) → course_in p ≡ course.Acts → is_question (step_in x p).action ≡ false
step_quiet x phase.Closed e = free_quiet x
step_quiet x (phase.Wanted s) e = cc
step_quiet x (phase.Stamped s stamp) e = dial_quiet x s stamp x.members
step_quiet x (phase.Requested s stamp) e = free_quiet x
step_quiet x (phase.Accepted s stamp) e = accepted_quiet x s stamp e
step_quiet x phase.Opened e = refl
step_quiet x (phase.Streaming sent) e = stream_quiet x sent (slice_get x.stream.unacked sent)
step_quiet x phase.Closing e = free_quiet x
step_quiet x phase.Finished e = cc
step_quiet x phase.Completed e = refl
step_quiet x (phase.Failed f) e = failed_quiet_as x f x.waiting

accepted_asks : (x : WriterRecord) (s : Setup) (stamp : Stamp) → course_in (phase.Accepted s stamp) ≡ course.Commits → is_question (step_in x (phase.Accepted s stamp)).action ≡ true
accepted_asks x setup.Create stamp e = cc
accepted_asks x setup.Append stamp e = refl
accepted_asks x setup.AppendRecovery stamp e = refl
accepted_asks x setup.StreamRecovery stamp e = refl
accepted_asks x setup.CloseRecovery stamp e = refl

step_commits : (x : WriterRecord) (p : Phase) → course_in p ≡ course.Commits → is_question (step_in x p).action ≡ true
step_commits x (phase.Accepted s stamp) e = accepted_asks x s stamp e
step_commits x (phase.Wanted s) e = cc
step_commits x phase.Finished e = cc
step_commits x p e = cc

step_wants : (x : WriterRecord) (p : Phase) → IsWanted p → is_question (step_in x p).action ≡ true
step_wants x (phase.Wanted s) h = refl
step_wants x p h = absurd h

-- WHICH EVENTS

-- The events of an own step, and what is left of the queue.
pub record IsDone (a : Action) (b : ℕ) (queue : List TakenCommand) (events : List Event) (left : List TakenCommand) : Type 0 where
  pub events_are : own_events a b queue ≡ events
  pub queue_is : queue_left a queue ≡ left

quiet_done : (a : Action) (b : ℕ) (queue : List TakenCommand) → is_action a ≡ true → is_question a ≡ false → IsDone a b queue (acting b None ∷ []) queue
quiet_done action.Wait b queue h k = cc
quiet_done (action.Ask call) b queue h k = cc
quiet_done a b queue h k = record { events_are = refl; queue_is = refl }

asked_done : (a : Action) (b : ℕ) (queue : List TakenCommand) → is_question a ≡ true → IsDone a b queue (asking b ∷ acting b None ∷ []) queue
asked_done (action.Ask call) b queue k = record { events_are = refl; queue_is = refl }
asked_done a b queue k = cc

waits_done : (a : Action) (b : ℕ) (queue : List TakenCommand) → is_action a ≡ false → IsDone a b queue (acting b (slice_get queue 0) ∷ []) (drop 1 queue)
waits_done action.Wait b queue k = record { events_are = refl; queue_is = refl }
waits_done a b queue k = cc

pub acts_done : (x : WriterRecord) (b : ℕ) (queue : List TakenCommand) → IsCourse x course.Acts → IsDone (own_step x).action b queue (acting b None ∷ []) queue
unfolding own_step
acts_done x b queue k = quiet_done (own_step x).action b queue k.steps (step_quiet x x.phase k.at)

pub commits_done : (x : WriterRecord) (b : ℕ) (queue : List TakenCommand) → IsCourse x course.Commits → IsDone (own_step x).action b queue (asking b ∷ acting b None ∷ []) queue
unfolding own_step
commits_done x b queue k = asked_done (own_step x).action b queue (step_commits x x.phase k.at)

pub sets_up_done : (x : WriterRecord) (b : ℕ) (queue : List TakenCommand) → IsWanted x.phase → IsDone (own_step x).action b queue (asking b ∷ acting b None ∷ []) queue
unfolding own_step
sets_up_done x b queue k = asked_done (own_step x).action b queue (step_wants x x.phase k)

pub completes_done : (x : WriterRecord) (b : ℕ) (queue : List TakenCommand) → x.phase ≡ phase.Finished → IsDone (own_step x).action b queue (asking b ∷ acting b None ∷ []) queue
unfolding own_step
completes_done x b queue k = asked_done (own_step x).action b queue (ap (λ (p : Phase). is_question (step_in x p).action) k)

pub takes_done : (x : WriterRecord) (b : ℕ) (queue : List TakenCommand) → has_step x ≡ false → IsDone (own_step x).action b queue (acting b (slice_get queue 0) ∷ []) (drop 1 queue)
takes_done x b queue k = waits_done (own_step x).action b queue k
