-- A member's side of a block recovery: the event that a step is, and how it is answered.
use Rattle.std.specs.Prelude.{ℕ, ◌==◌, if◌then◌else◌, List, [], Option, Some, None, Result, Ok, Err}
use Rattle.hd_base.specs.declared.numbers.Stamp.{Stamp}
use Rattle.hd_base.specs.declared.states.ReplicaState.{ReplicaState}
use Rattle.hd_base.specs.declared.states.Status.TheVariants as status
use Rattle.op_headers.specs.declared.answers.RecoveryAnswer.{RecoveryAnswer}
use Rattle.op_headers.specs.declared.ops.RecoveryOp.{RecoveryOp}
use Rattle.op_headers.specs.declared.ops.RecoveryKind.{RecoveryKind}
use Rattle.op_headers.specs.declared.ops.RecoveryKind.TheVariants as kind
use Rattle.replica_core.specs.declared.events.Answer.{Answer}
use Rattle.replica_core.specs.declared.events.Answer.TheVariants as answer
use Rattle.replica_core.specs.declared.events.Event.{Event}
use Rattle.replica_core.specs.declared.events.Event.TheVariants as event
use Rattle.replica_core.specs.declared.refusals.Refusal.TheVariants as replica_refusal
use Rattle.replica_model.specs.declared.events.ReplicaEvent.TheVariants as replica_event
use Rattle.replica_model.specs.Rows.{FullReplica, row, row_answer, broken}
use Rattle.request_refusals.specs.declared.refusals.RequestRefusal.TheVariants as refusal
use Rattle.request_refusals.specs.Pools.{is_in_pool}
use Rattle.request_refusals.specs.Texts.{refusal_text}
use Rattle.recovery_core.specs.declared.members.RecoveryReply.{RecoveryReply}
use Rattle.recovery_core.specs.declared.members.RecoveryReply.TheVariants as reply

abbrev pub no_stamp : Stamp
no_stamp = record { 0 = 0 }

-- no recovery has the id 0, and no stamp lies below it
abbrev pub no_recovery : RecoveryReply
no_recovery = reply.Refused (refusal.Core (replica_refusal.Stale no_stamp no_stamp no_stamp))

-- an INIT, whose id isn't 0
abbrev pub init_event : Stamp → Stamp → Result Event RecoveryReply
init_event named recovery = if recovery.0 == 0 then Err no_recovery else Ok (event.Init named recovery)

-- the event that a step of this kind is; a node holds no office, so it takes no BEGIN
abbrev pub step_event : RecoveryKind → RecoveryOp → Result Event RecoveryReply
step_event kind.Begin op = Err reply.NoOffice
step_event kind.Init op = init_event op.block.stamp op.recovery
step_event kind.Update op = Ok (event.Update op.recovery op.new_length)

-- The event that a step of a block recovery is, or how it is answered where nothing is booked.
unfoldable pub recovery_event : RecoveryOp → Result Event RecoveryReply
recovery_event op = if is_in_pool op.block then step_event op.kind op else Err (reply.Refused refusal.Pool)

-- how a step is answered that the replica answered so
abbrev pub reply_to : Answer → RecoveryReply
reply_to (answer.Info state stamp bytes) = reply.Informed state stamp bytes
reply_to (answer.Refused r) = reply.Refused (refusal.Core r)
reply_to _ = reply.Updated

-- an error with this message
abbrev pub refusing : List ℕ → RecoveryAnswer
refusing message = record { status = status.Error; message = message; info = None }

-- SUCCESS, with what is told of the replica
abbrev pub succeeding : Option (ReplicaState × Stamp × ℕ) → RecoveryAnswer
succeeding info = record { status = status.Success; message = []; info = info }

-- the message that an answer is
unfoldable pub answer_of : RecoveryReply → RecoveryAnswer
answer_of (reply.Informed state stamp bytes) = succeeding (Some (state, stamp, bytes))
answer_of reply.Updated = succeeding None
answer_of reply.NoOffice = refusing []
answer_of (reply.Refused r) = refusing (refusal_text r)

-- a replica after a step, and how it is answered
pub record Served : Type 0 where
  pub replica : FullReplica
  pub reply : RecoveryReply

abbrev pub served_as : FullReplica → Result Event RecoveryReply → Served
served_as r (Err said) = record { replica = r; reply = said }
served_as r (Ok e) = record {
  replica = row r (replica_event.Other e);
  reply = reply_to (row_answer r (replica_event.Other e));
}

-- one step of a block recovery at a replica
abbrev pub serve : FullReplica → RecoveryOp → Served
serve r op = served_as r (recovery_event op)

-- the same where the book call ends by a failed call on files
abbrev pub serve_faulted : FullReplica → Served
serve_faulted r = record { replica = broken r; reply = reply.Refused refusal.File }
