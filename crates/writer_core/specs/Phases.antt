-- What a failure leads to, and what an ack says.
use Rattle.std.specs.Prelude.{ℕ, ℤ, ◌==◌, ◌+◌, ◌||◌, not, nat_lt, if◌then◌else◌, Bool, true, false, List, [], ◌∷◌, length, filter, position, Option, Some, None}
use Rattle.std.specs.Ordering.{int_eq}
use Rattle.hd_base.specs.declared.numbers.NodeId.{NodeId}
use Rattle.hd_base.specs.declared.states.Status.{Status}
use Rattle.hd_base.specs.declared.states.Status.TheVariants as status
use Rattle.ack_codec.specs.declared.acks.Ack.{Ack}
use Rattle.writer_core.specs.declared.phases.Phase.{Phase}
use Rattle.writer_core.specs.declared.phases.Phase.TheVariants as phase
use Rattle.writer_core.specs.declared.phases.Remedy.{Remedy}
use Rattle.writer_core.specs.declared.phases.Remedy.TheVariants as remedy
use Rattle.writer_core.specs.declared.phases.Setup.{Setup}
use Rattle.writer_core.specs.declared.phases.Setup.TheVariants as setup
use Rattle.writer_core.specs.declared.phases.Verdict.{Verdict}
use Rattle.writer_core.specs.declared.phases.Verdict.TheVariants as verdict

-- what is to be done when a pipeline fails while it is set up so
abbrev pub remedy_after : Setup → Remedy
remedy_after setup.Create = remedy.Abandon
remedy_after setup.Append = remedy.Recover setup.AppendRecovery
remedy_after setup.AppendRecovery = remedy.Recover setup.AppendRecovery
remedy_after setup.StreamRecovery = remedy.Recover setup.StreamRecovery
remedy_after setup.CloseRecovery = remedy.Recover setup.CloseRecovery

-- the same once the setup was answered SUCCESS; the connection of a close's recovery is shut then
abbrev pub remedy_accepted : Setup → Option Remedy
remedy_accepted setup.CloseRecovery = None
remedy_accepted s = Some (remedy_after s)

-- What is to be done when the writer's connection fails; none where it has no connection.
abbrev pub remedy_in : Phase → Option Remedy
remedy_in (phase.Requested s stamp) = Some (remedy_after s)
remedy_in (phase.Accepted s stamp) = remedy_accepted s
remedy_in phase.Opened = Some (remedy.Recover setup.AppendRecovery)
remedy_in (phase.Streaming sent) = Some (remedy.Recover setup.StreamRecovery)
remedy_in phase.Closing = Some (remedy.Recover setup.CloseRecovery)
remedy_in _ = None

-- The same when an ack is taken, which a writer that waits for the answer of a request doesn't do.
abbrev pub remedy_at_ack : Phase → Option Remedy
remedy_at_ack (phase.Requested s stamp) = None
remedy_at_ack p = remedy_in p

abbrev pub is_success : Status → Bool
is_success status.Success = true
is_success _ = false

-- the place of the last reply that isn't SUCCESS, given that of those behind it
abbrev pub bad_behind : Bool → Option ℕ → Option ℕ
bad_behind good (Some i) = Some (i + 1)
bad_behind true None = None
bad_behind false None = Some 0

-- the place of the last reply that isn't SUCCESS
abbrev pub last_bad : List Status → Option ℕ
last_bad [] = None
last_bad (r ∷ rs) = bad_behind (is_success r) (last_bad rs)

-- What replies without a bad one say: one of each member is needed.
abbrev pub whole_verdict : Bool → Option ℕ → Verdict
whole_verdict whole (Some i) = verdict.Bad i
whole_verdict true None = verdict.Good
whole_verdict false None = verdict.Bad 0

-- What the replies of so many members say. Where there is none, or more than there are members, the ack counts as unreadable.
abbrev pub replies_verdict : ℕ → List Status → Verdict
replies_verdict members replies =
    if length replies == 0 || nat_lt members (length replies) then verdict.Bad 0
    else whole_verdict (length replies == members) (last_bad replies)

-- What an ack says where this is the number of the oldest packet that isn't acked.
abbrev pub ack_verdict : Option ℤ → ℕ → Ack → Verdict
ack_verdict None members ack = verdict.Bad 0
ack_verdict (Some seqno) members ack = if int_eq seqno ack.seqno then replies_verdict members ack.replies
    else verdict.Bad 0

-- the place of a member, 0 of another node
abbrev pub place_of : Option ℕ → ℕ
place_of None = 0
place_of (Some i) = i

-- the place of the member that is named bad, 0 where none is
abbrev pub bad_place : List NodeId → Option NodeId → ℕ
bad_place members None = 0
bad_place members (Some bad) = place_of (position (λ n. n.0 == bad.0) members)

-- the members without this one
abbrev pub without : List NodeId → NodeId → List NodeId
without members bad = filter (λ n. not (n.0 == bad.0)) members
