-- A member over its replica: one turn, with its book call and what follows.
use Rattle.std.specs.Prelude.{Bool, slice_get, Option, Some, None, Result, Ok, Err}
use Rattle.hd_base.specs.declared.numbers.ConnId.{ConnId}
use Rattle.replica_core.specs.declared.ack_queue.PendingPacket.{PendingPacket}
use Rattle.replica_core.specs.declared.events.Answer.{Answer}
use Rattle.replica_core.specs.declared.events.Answer.TheVariants as answer
use Rattle.replica_core.specs.declared.events.Event.{Event}
use Rattle.replica_core.specs.Views.{rule_in}
use Rattle.replica_model.specs.declared.events.ReplicaEvent.{ReplicaEvent}
use Rattle.replica_model.specs.declared.events.ReplicaEvent.TheVariants as replica_event
use Rattle.replica_model.specs.Rows.{FullReplica, row, row_answer, broken}
use Rattle.op_headers.specs.Values.{WriteFields}
use Rattle.request_refusals.specs.declared.refusals.RequestRefusal.{RequestRefusal}
use Rattle.request_refusals.specs.declared.refusals.RequestRefusal.TheVariants as request
use Rattle.member_core.specs.declared.inputs.FromAbove.{FromAbove}
use Rattle.member_core.specs.declared.inputs.FromBelow.{FromBelow}
use Rattle.member_core.specs.declared.effects.Effect.{Effect}
use Rattle.member_core.specs.declared.turns.Booked.{Booked}
use Rattle.member_core.specs.declared.turns.Booked.TheVariants as booked
use Rattle.member_core.specs.declared.turns.Turn.{Turn}
use Rattle.member_core.specs.Members.{MemberState, set_up, refused_setup, down_turn, up_turn, ready_turn_by, settled}
use Rattle.member_core.specs.Requests.{request_event}

-- a member and its replica after an event, and what the member sends and shuts
pub record Step : Type 0 where
  pub member : MemberState
  pub replica : FullReplica
  pub effect : Effect

-- the oldest packet that is pending at a replica
abbrev pub oldest_at : FullReplica → Option PendingPacket
oldest_at r = slice_get r.known.pending 0

-- how a book call was taken
abbrev pub booked_as : Answer → Booked
booked_as (answer.Refused r) = booked.Refused r
booked_as _ = booked.Taken

-- the replica after a book call, if there is one
abbrev pub replica_after : FullReplica → Option ReplicaEvent → FullReplica
replica_after r None = r
replica_after r (Some e) = row r e

-- how the call was taken; where there is none, nothing is refused
abbrev pub outcome_of : FullReplica → Option ReplicaEvent → Booked
outcome_of r None = booked.Taken
outcome_of r (Some e) = booked_as (row_answer r e)

abbrev pub with_replica : FullReplica → MemberState × Effect → Step
with_replica r x = record { member = x.0; replica = r; effect = x.1 }

-- one turn of a member over its replica
abbrev pub step : MemberState → FullReplica → Turn → Step
step m r t = with_replica (replica_after r t.call) (settled m t (outcome_of r t.call))

-- the same where the book call ends by a failed call on files: the replica is broken
abbrev pub faulted_step : MemberState → FullReplica → Turn → Step
faulted_step m r t = with_replica (broken r) (settled m t booked.Failed)

-- a member takes this from above
abbrev pub down_step : MemberState → FullReplica → FromAbove → Step
down_step m r taken = step m r (down_turn m taken)

-- a member takes this from its mirror
abbrev pub up_step : MemberState → FullReplica → FromBelow → Step
up_step m r taken = step m r (up_turn m (oldest_at r) taken)

-- a member acts without a message from below, where it can
abbrev pub ready_turn_at : MemberState → FullReplica → Option Turn
ready_turn_at m r = ready_turn_by m r.known

-- why a request is refused that the replica answered so, if it is
abbrev pub refused_by : Answer → Option RequestRefusal
refused_by (answer.Refused r) = Some (request.Core r)
refused_by _ = None

-- a request at a replica: the member, where it was taken, the replica, and what is sent
pub record Setup : Type 0 where
  pub member : Option MemberState
  pub replica : FullReplica
  pub effect : Effect

abbrev pub refused_request : FullReplica → RequestRefusal → Setup
refused_request r refused = record { member = None; replica = r; effect = refused_setup refused }

abbrev pub taken_request : FullReplica → MemberState × Effect → Setup
taken_request r x = record { member = Some x.0; replica = r; effect = x.1 }

abbrev pub booked_request : ConnId → WriteFields → Bool → FullReplica → Option RequestRefusal → Setup
booked_request conn op asked r None = taken_request r (set_up conn op asked)
booked_request conn op asked r (Some refused) = refused_request r refused

abbrev pub request_at : ConnId → WriteFields → Bool → FullReplica → Result Event RequestRefusal → Setup
request_at conn op asked r (Err refused) = refused_request r refused
request_at conn op asked r (Ok e) =
    booked_request conn op asked (row r (replica_event.Other e)) (refused_by (row_answer r (replica_event.Other e)))

-- a write request at a replica, by whether the request to the mirror could be sent and its dial was answered
abbrev pub request_step : ConnId → WriteFields → Bool → FullReplica → Setup
request_step conn op asked r = request_at conn op asked r (request_event conn op (rule_in r.known))

-- a write request whose book call ends by a failed call on files
abbrev pub faulted_request : FullReplica → Setup
faulted_request r = refused_request (broken r) request.File
