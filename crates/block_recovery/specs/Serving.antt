-- How a step of a block recovery is served at a member.
use Rattle.std.specs.Prelude.{◌≡◌, ◌⊎◌, ◌≤◌, Result, Ok, Err}
use Rattle.hd_base.specs.declared.files.Files as files
use Rattle.hd_base.specs.declared.numbers.Receipt.{Receipt}
use Rattle.op_headers.specs.declared.ops.RecoveryOp.{RecoveryOp}
use Rattle.recovery_core.specs.declared.members.RecoveryReply.{RecoveryReply}
use Rattle.recovery_core.specs.declared.members.RecoveryReply.TheVariants as reply
use Rattle.recovery_core.specs.Members.{recovery_event, reply_to, answer_of}
use Rattle.replica_core.specs.declared.events.Event.{Event}
use Rattle.replica_core.specs.declared.events.Event.TheVariants as event
use Rattle.replica_core.specs.declared.refusals.Refusal.{Refusal}
use Rattle.replica_model.specs.declared.events.ReplicaEvent.{ReplicaEvent}
use Rattle.replica_model.specs.declared.events.ReplicaEvent.TheVariants as replica_event
use Rattle.replica_model.specs.Rows.{row_answer}
use Rattle.replica_files.specs.declared.book_state.BookState.{BookState}
use Rattle.replica_files.specs.declared.faults.BookFault.TheVariants as fault
use Rattle.replica_files.specs.Books.{replica_of}
use Rattle.replica_files.specs.Endings.{BookEnds}
use Rattle.request_refusals.specs.declared.refusals.RequestRefusal.TheVariants as refusal
use Rattle.block_recovery.specs.declared.serving.RecoveryServed.{RecoveryServed}
use Rattle.block_recovery.specs.declared.serving.RecoveryServed.TheVariants as served

-- A step of a block recovery: INIT, whose id isn't 0, or UPDATE.
abbrev pub IsStep : Event → Type 0
IsStep (event.Init named recovery) = 1 ≤ recovery.0
IsStep (event.Update recovery bytes) = Unit {0}
IsStep _ = ⊥

-- The book took the step, or the replica refused it: either way its history has an entry more, which the receipt names.
abbrev pub IsBooked : {F : Type 0} → files.Ghosts F → BookState F → BookState F → ReplicaEvent → Receipt → Type 0
IsBooked f old new e receipt = BookEnds f old new e (Ok receipt)
    ⊎ ((why : Refusal) × BookEnds f old new e (Err (fault.Refused why receipt)))

-- How a step is served that is booked: it is answered as the replica answers it; or a call on the files failed, which
-- is answered with the number of that fault; or memory ran out, and nothing is booked.
abbrev pub ServesEvent : {F : Type 0} → files.Ghosts F → ReplicaEvent → BookState F → BookState F → RecoveryServed
    → Type 0
ServesEvent f e old new (served.Answered answer receipt) =
    (answer ≡ answer_of (reply_to (row_answer (replica_of old) e))) × IsBooked f old new e receipt
ServesEvent f e old new (served.File answer receipt) = (answer ≡ answer_of (reply.Refused refusal.File))
    × BookEnds f old new e (Err (fault.File receipt))
ServesEvent f e old new (served.Unbooked answer) = ⊥
ServesEvent f e old new served.Memory = (new ≡ old) ⊎ BookEnds f old new e (Err fault.Memory)

-- How a step is answered of which nothing is booked.
abbrev pub AnswersUnbooked : RecoveryReply → RecoveryServed → Type 0
AnswersUnbooked said (served.Unbooked answer) = answer ≡ answer_of said
AnswersUnbooked said served.Memory = Unit {0}
AnswersUnbooked said other = ⊥

abbrev pub ServesAs : {F : Type 0} → files.Ghosts F → Result Event RecoveryReply → BookState F → BookState F
    → RecoveryServed → Type 0
ServesAs f (Ok e) old new result = ServesEvent f (replica_event.Other e) old new result
ServesAs f (Err said) old new result = (new ≡ old) × AnswersUnbooked said result

-- How a step of a block recovery is served, by the event that it is at the replica, or how it is answered where nothing
-- is booked.
abbrev pub Serves : {F : Type 0} → files.Ghosts F → RecoveryOp → BookState F → BookState F → RecoveryServed → Type 0
Serves f op old new result = ServesAs f (recovery_event op) old new result
