-- What a writer hears that waits on the connection of its setup.
use Rattle.std.specs.Prelude.{ℕ, Bool, false, option_map, Option, Some, None, Result, Ok, Err}
use Rattle.hd_base.specs.declared.numbers.ConnId.{ConnId}
use Rattle.hd_base.specs.declared.links.LinkIn as link_in
use Rattle.hd_base.specs.declared.links.LinkOut as link_out
use Rattle.hd_base.specs.declared.roads.Roads as roads
use Rattle.pipe_recovery.specs.declared.links.Link.{Link}
use Rattle.pipe_recovery.specs.declared.rebuilding.Rebuild.{Rebuild}
use Rattle.pipe_recovery.specs.declared.rebuilding.RebuildStep.{RebuildStep}
use Rattle.pipe_recovery.specs.declared.rebuilding.RebuildStep.TheVariants as step
use Rattle.pipe_recovery.specs.declared.rebuilding.Rebuilt.TheVariants as rebuilt
use Rattle.pipe_recovery.specs.Exchanging.{ExchangesLink}
use Rattle.writer_core.specs.declared.phases.Phase.{Phase}
use Rattle.writer_core.specs.declared.phases.Phase.TheVariants as phase
use Rattle.client_events.specs.declared.faults.ClientFault.{ClientFault}
use Rattle.client_events.specs.declared.faults.ClientFault.TheVariants as fault
use Rattle.client_events.specs.declared.pipes.Pipe.{Pipe}
use Rattle.client_events.specs.declared.pipes.Pipe.TheVariants as pipe
use Rattle.client_events.specs.Faults.{IsRoadFault}

-- The writer waits for the answer to its request.
abbrev pub IsWaiting : Phase → Type 0
IsWaiting (phase.Requested s stamp) = Unit {0}
IsWaiting other = ⊥

-- The connection of a setup was exchanged, and took what stands next there.
abbrev pub TakesLink : {R I O : Type 0} → roads.Ghosts R I O → link_in.Ghosts I → link_out.Ghosts O →
    Option (Link I O) → R → R → Result (Rebuild I O) ClientFault → Type 0
TakesLink r i o link road road' (Ok setup) =
    ExchangesLink r i o (option_map (λ l. l.end.id) link) link setup.link road road' (Ok tt)
TakesLink r i o link road road' (Err why) = IsRoadFault (r.faults road) (r.faults road') why

-- the count of this connection's end had risen when it was brought back
abbrev pub is_risen : (ℕ → Bool) → Option ConnId → Bool
is_risen risen None = false
is_risen risen (Some conn) = risen conn.0

-- the connection after a step of its setup, which hands it over where the pipeline stands
abbrev pub piped : {I O : Type 0} → Rebuild I O → RebuildStep I O → Result (Pipe I O) ClientFault
piped setup step.Moved = Ok (pipe.SettingUp setup)
piped setup step.Waiting = Ok (pipe.SettingUp setup)
piped setup (step.Ended (rebuilt.Streaming end incoming)) = Ok (pipe.Streaming end incoming)
piped setup (step.Ended rebuilt.Memory) = Err fault.Memory
piped setup (step.Ended other) = Ok pipe.Closed
