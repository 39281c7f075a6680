-- The laws of writers, over whatever happens at one.
use Rattle.std.specs.Prelude.{ℕ, ◌≡◌, ◌≤◌, ◌⊎◌, Bool, List, [], ◌∷◌, Option, Some, Result, Ok}
use Rattle.hd_base.specs.declared.numbers.BlockId.{BlockId}
use Rattle.hd_base.specs.declared.numbers.NodeId.{NodeId}
use Rattle.hd_base.specs.declared.numbers.Stamp.{Stamp}
use Rattle.hd_base.specs.SumRules.{Rule, IsChunkSize}
use Rattle.ack_codec.specs.declared.acks.Ack.{Ack}
use Rattle.ack_codec.specs.declared.responses.Response.{Response}
use Rattle.name_core.specs.declared.calls.OfficeAnswer.{OfficeAnswer}
use Rattle.name_core.specs.declared.calls.OfficeAnswer.TheVariants as office
use Rattle.name_core.specs.declared.calls.OfficeCall.TheVariants as call
use Rattle.name_core.specs.declared.faults.OfficeFault.{OfficeFault}
use Rattle.op_headers.specs.declared.ops.Op.TheVariants as op
use Rattle.packet_stream.specs.Streams.{written_in}
use Rattle.writer_core.specs.declared.actions.Action.{Action}
use Rattle.writer_core.specs.declared.actions.Action.TheVariants as action
use Rattle.writer_core.specs.declared.actions.ClientAnswer.TheVariants as answer
use Rattle.writer_core.specs.declared.commands.Command.{Command}
use Rattle.writer_core.specs.declared.phases.Phase.{Phase}
use Rattle.writer_core.specs.declared.phases.Phase.TheVariants as phase
use Rattle.writer_core.specs.declared.phases.Waiting.TheVariants as waiting
use Rattle.writer_core.specs.declared.records.WriterRecord.{WriterRecord}
use Rattle.writer_core.specs.Transitions.{fresh, given, own_step, granted, dialled, setup_answered, acked, ended}

-- what happens at a writer: it is given a command, does its own step, or is told what came of what it asked and sent
pub data Move : Type 0 where
  Gives : Command → Move
  Steps : Move
  Grants : Result OfficeAnswer OfficeFault → Move
  Dials : Bool → Move
  Answers : Response → Option NodeId → Move
  Acks : Ack → Move
  Ends : Move

abbrev pub after_move : WriterRecord → Move → WriterRecord
after_move w (Gives c) = given w c
after_move w Steps = (own_step w).writer
after_move w (Grants r) = granted w r
after_move w (Dials answered) = dialled w answered
after_move w (Answers response bad) = setup_answered w response bad
after_move w (Acks a) = acked w a
after_move w Ends = ended w

-- a writer after these, one after another
abbrev pub after_moves : WriterRecord → List Move → WriterRecord
after_moves w [] = w
after_moves w (m ∷ ms) = after_moves (after_move w m) ms

-- So many bytes are acked, the stamp is the committed one and the members are those of the pipeline; a close has all bytes written.
pub record IsReached (w : WriterRecord) (bytes : ℕ) (stamp : Stamp) (members : List NodeId) : Type 0 where
  pub acked : bytes ≤ w.stream.acked
  pub whole : w.waiting ≡ Some waiting.Close → bytes ≡ written_in w.stream
  pub committed : stamp ≡ w.committed
  pub pipeline : members ≡ w.members

-- Whatever happens at a writer, a flush, a sync or a close is answered only with bytes that all members have acked.
abbrev pub AnsweredIsAcked : Type 0
AnsweredIsAcked = (block : BlockId) (rule : Rule) (moves : List Move) (ordinal bytes : ℕ) (stamp : Stamp)
    (members : List NodeId) →
    IsChunkSize rule.chunk →
    (own_step (after_moves (fresh block rule) moves)).action ≡
    action.Answered ordinal (answer.Reached bytes stamp members) →
    IsReached (after_moves (fresh block rule) moves) bytes stamp members

-- A request names the committed stamp, and so do a call to complete the block and an answer.
abbrev pub NamesCommitted : Stamp → Action → Type 0
NamesCommitted g (action.Dial to (op.Write request)) = request.block.stamp ≡ g
NamesCommitted g (action.Ask (call.Complete block stamp bytes)) = stamp ≡ g
NamesCommitted g (action.Answered ordinal (answer.Granted stamp)) = stamp ≡ g
NamesCommitted g (action.Answered ordinal (answer.Reached bytes stamp members)) = stamp ≡ g
NamesCommitted g _ = Unit {0}

-- Each stamp that a writer names in an own step is the committed one, but in a call to commit another.
abbrev pub StampsAreCommitted : Type 0
StampsAreCommitted = (w : WriterRecord) → NamesCommitted w.committed (own_step w).action

-- the office is asked to commit this stamp
abbrev pub CommitsIn : Phase → Stamp → Type 0
CommitsIn (phase.Accepted kind stamp) g = g ≡ stamp
CommitsIn _ g = ⊥

-- The office gave this stamp to a new block, told it with an append, or has committed it.
abbrev pub IsGiven : Phase → Move → Stamp → Type 0
IsGiven p (Grants (Ok (office.Stamp stamp))) g = g ≡ stamp
IsGiven p (Grants (Ok (office.Reopened told))) g = g ≡ told.committed
IsGiven p (Grants (Ok office.Nothing)) g = CommitsIn p g
IsGiven p _ g = ⊥

-- Only an answer of the office changes the committed stamp, to one that it gave, told or committed.
abbrev pub OnlyTheOfficeCommits : Type 0
OnlyTheOfficeCommits = (w : WriterRecord) (m : Move) →
    ((after_move w m).committed ≡ w.committed) ⊎ IsGiven w.phase m (after_move w m).committed
