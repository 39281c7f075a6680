-- What an end that answers a primary takes next.
use Rattle.std.specs.Prelude.{◌≡◌, ℕ, List, slice_get, Some}
use Rattle.op_headers.specs.declared.ops.Op.TheVariants as op
use Rattle.op_headers.specs.declared.ops.RecoveryOp.{RecoveryOp}
use Rattle.world_orders.specs.World.Event.{Event}
use Rattle.world_orders.specs.World.Parts.{request, recovers}
use Rattle.world_orders.specs.World.Worlds.{World, start}
use Rattle.world_orders.specs.World.Connections.{Next, message, the_end, next_down}
use Rattle.world_orders.specs.World.Events.{run}
use Rattle.recovery_events.specs.Drawn.{recovery_next, asked_block}

-- A request of a recovery, or the end.
abbrev pub IsRequestOrEnd : Next → Type 0
IsRequestOrEnd (message (request (op.Recovery r))) = Unit {0}
IsRequestOrEnd (message other) = ⊥
IsRequestOrEnd the_end = Unit {0}

-- What stands next for an end that answers a primary is a request of a recovery, or the end.
abbrev pub TakeRecoveries : World → Type 0
TakeRecoveries w = (c : ℕ) (x : Next) → w.lowers c ≡ recovers → next_down w c ≡ Some x → IsRequestOrEnd x

-- So it is after every list of events.
abbrev pub RecoveriesComeInOrder : Type 0
RecoveriesComeInOrder = (nodes : ℕ) (events : List Event) → TakeRecoveries (run (start nodes) events)

-- A request of a recovery that stands next on a connection names the block that the first message there names.
abbrev pub NameOneBlock : World → Type 0
NameOneBlock w = (c : ℕ) (first asked : RecoveryOp) → slice_get (w.downs c) 0 ≡ Some (request (op.Recovery first)) →
    next_down w c ≡ Some (recovery_next asked) → asked_block asked ≡ asked_block first

-- So it is after every list of events.
abbrev pub RecoveriesNameOneBlock : Type 0
RecoveriesNameOneBlock = (nodes : ℕ) (events : List Event) → NameOneBlock (run (start nodes) events)
