-- What a writer has formed, and the rule of the sums at its members: with these, what stands in `Writers` stays so
-- where a writer takes an ack.
use Rattle.std.specs.Prelude.{ℕ, ◌≡◌, ◌≤◌, true, List, slice_get, Some, IfSome}
use Rattle.hd_base.specs.SumRules.{Rule}
use Rattle.packet_codec.specs.declared.packets.Packet.{Packet}
use Rattle.packet_stream.specs.Streams.{packet_end}
use Rattle.replica_model.specs.Rows.{FullReplica}
use Rattle.writer_core.specs.declared.phases.Phase.TheVariants as phase
use Rattle.writer_core.specs.declared.records.WriterRecord.{WriterRecord}
use Rattle.world.specs.declared.events.Event.{Event}
use Rattle.world.specs.Worlds.{World, start}
use Rattle.world.specs.Events.{run}
use Rattle.play_model.specs.Laws.{IsQuiet}

-- the last packet of a block is among these
pub record LastFormed (packets : List Packet) : Type 0 where
  pub place : ℕ
  pub packet : Packet
  pub there : slice_get packets place ≡ Some packet
  pub last : packet.last ≡ true

-- No packet that isn't acked ends behind what was sent; and the last one isn't acked as long as a close waits for it.
pub record FormedWell (x : WriterRecord) : Type 0 where
  pub inside : (i : ℕ) (p : Packet) → slice_get x.stream.unacked i ≡ Some p → packet_end p ≤ x.stream.sent
  pub closing : x.phase ≡ phase.Closing → LastFormed x.stream.unacked

abbrev pub Formed : World → Type 0
Formed w = (b : ℕ) → FormedWell (w.writers b).known

-- a replica that is there has this rule
abbrev pub HasRule : Rule → FullReplica → Type 0
HasRule rule r = IfSome r.known.info (λ i. i.sums ≡ rule)

-- so it is of each node's replica of a block
pub record AllHave (w : World) (block : ℕ) (rule : Rule) : Type 0 where
  pub each : (n : ℕ) → HasRule rule (w.replicas n block)

-- each block's replicas have the rule that its writer has
abbrev pub Ruled : World → Type 0
Ruled w = (b : ℕ) → AllHave w b (w.writers b).known.stream.rule

-- A writer that no answer of the office waits for has formed what it should, after every list of events.
abbrev pub AllFormed : Type 0
AllFormed = (nodes : ℕ) (events : List Event) → IsQuiet (run (start nodes) events) → Formed (run (start nodes) events)
