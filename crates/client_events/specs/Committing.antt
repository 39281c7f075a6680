-- The commit of a stamp by the writer of a block.
use Rattle.std.specs.Prelude.{◌≡◌, Bool, true, false, Result, Ok, Err}
use Rattle.pipe_recovery.specs.LinkMessages.Incomings.{nothing_received}
use Rattle.writer_core.specs.declared.phases.Phase.{Phase}
use Rattle.writer_core.specs.declared.phases.Phase.TheVariants as phase
use Rattle.client_events.specs.declared.faults.ClientFault.{ClientFault}
use Rattle.client_events.specs.declared.faults.ClientFault.TheVariants as fault
use Rattle.client_events.specs.declared.pipes.Pipe.{Pipe}
use Rattle.client_events.specs.declared.pipes.Pipe.TheVariants as pipe

-- The request of the writer was answered.
abbrev pub IsAccepted : Phase → Type 0
IsAccepted (phase.Accepted s stamp) = Unit {0}
IsAccepted other = ⊥

-- the create or append is to be answered
abbrev pub is_opened : Phase → Bool
is_opened phase.Opened = true
is_opened other = false

-- the connection, once nothing that was received there is to be read again
abbrev pub read_off : {I O : Type 0} → Pipe I O → Pipe I O
read_off (pipe.Streaming end incoming) = pipe.Streaming end nothing_received
read_off other = other

-- It is that connection, or memory ran out.
abbrev pub IsReadOff : {I O : Type 0} → Pipe I O → Result (Pipe I O) ClientFault → Type 0
IsReadOff p (Ok left) = left ≡ read_off p
IsReadOff p (Err why) = why ≡ fault.Memory
