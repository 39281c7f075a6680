-- What the answer to a request of a recovery sends, as an end that is flushed.
use Rattle.std.specs.Prelude.{ℕ, false, List, [], ◌∷◌, Option}
use Rattle.op_headers.specs.declared.ops.RecoveryOp.{RecoveryOp}
use Rattle.block_recovery.specs.RecoveryCore.Members.{Served, answer_of}
use Rattle.world_orders.specs.World.Parts.{Message, recovery_answer, Break}
use Rattle.world_orders.specs.World.Worlds.{World}
use Rattle.world_orders.specs.World.Nodes.{recovery_change}
use Rattle.member_events.specs.WorldNets.Steps.{SendsBy}
use Rattle.member_events.specs.WorldNets.Flushing.{lower_flush}

-- the answer, as the messages that are sent up
abbrev pub answer_messages : Served → List Message
answer_messages s = recovery_answer (answer_of s.reply) ∷ []

-- The lower end of the connection flushes one answer, and isn't shut.
abbrev pub RecoveriesSend : Type 0
RecoveriesSend = (w : World) (c : ℕ) (r : RecoveryOp) (s : Served) (b : Option Break) →
    SendsBy w (recovery_change w c r s b) (lower_flush c false (answer_messages s) ∷ [])
