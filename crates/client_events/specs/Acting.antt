-- What a writer answers in its own step.
use Rattle.std.specs.Prelude.{◌≡◌, Bool, true, false, Option, Some, None, List, [], ◌∷◌, Result, Ok, Err}
use Rattle.writer_core.specs.declared.actions.Action.{Action}
use Rattle.writer_core.specs.declared.actions.Action.TheVariants as action
use Rattle.writer_core.specs.declared.records.WriterRecord.{WriterRecord}
use Rattle.writer_core.specs.Transitions.{Step, own_step}
use Rattle.member_events.specs.World.Parts as parts
use Rattle.client_events.specs.declared.acting.Said.{Said}
use Rattle.client_events.specs.declared.faults.ClientFault.{ClientFault}
use Rattle.client_events.specs.declared.faults.ClientFault.TheVariants as fault

-- A writer took a step, or memory was wanting for it.
abbrev pub IsStepped : Step → WriterRecord → Result Action ClientFault → Type 0
IsStepped s after (Ok does) = (does ≡ s.action) × (after ≡ s.writer)
IsStepped s after (Err why) = why ≡ fault.Memory

-- what an action answers
abbrev pub said_by : Action → Option Said
said_by (action.Answered n a) = Some (record { ordinal = n; answer = a })
said_by other = None

-- the entry of the world's record of answers
abbrev pub said_in : Option Said → List parts.Said
said_in None = []
said_in (Some s) = record { ordinal = s.ordinal; answer = s.answer } ∷ []

-- Where an answer is due the writer gives it in its own step, or memory was wanting for that.
abbrev pub AnswersIf : Bool → WriterRecord → WriterRecord → Result (Option Said) ClientFault → Type 0
AnswersIf false w w' result = (w' ≡ w) × (result ≡ Ok None)
AnswersIf true w w' (Ok said) = (w' ≡ (own_step w).writer) × (said ≡ said_by (own_step w).action)
AnswersIf true w w' (Err why) = why ≡ fault.Memory
