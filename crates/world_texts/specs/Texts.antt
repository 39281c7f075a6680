-- Each message is spelled by its text.
use Rattle.std.specs.Prelude.{ℕ, ◌≡◌, ◌^◌, ◌<◌, ◌≤◌, List, [], ◌∷◌, slice_get, Some}
use Rattle.op_headers.specs.declared.ops.Op.TheVariants as op
use Rattle.op_headers.specs.declared.ops.ReadOp.{ReadOp}
use Rattle.op_headers.specs.Requests.{OpFits, IsEncodable}
use Rattle.frame_feed.specs.Kinds.{requests, packets, acks, responses, read_statuses, answers}
use Rattle.world_laws.specs.World.Event.{Event}
use Rattle.world_laws.specs.World.Event.TheVariants as event
use Rattle.world_laws.specs.World.OwnStep.TheVariants as own
use Rattle.world_laws.specs.World.Parts.{Message, request, packet, ack, response, read_status, recovery_answer}
use Rattle.world_laws.specs.World.Worlds.{World, start}
use Rattle.world_laws.specs.World.Events.{run}
use Rattle.world_nets.specs.Rows.{text_of}

-- The bytes as which the message is written spell it.
abbrev pub SpellsText : Message → Type 0
SpellsText (request r) = requests.spells r (text_of (request r))
SpellsText (packet p) = packets.spells p (text_of (packet p))
SpellsText (ack a) = acks.spells a (text_of (ack a))
SpellsText (response r) = responses.spells r (text_of (response r))
SpellsText (read_status s) = read_statuses.spells s (text_of (read_status s))
SpellsText (recovery_answer a) = answers.spells a (text_of (recovery_answer a))

-- each message that was sent on a connection
pub record Written (w : World) : Type 0 where
  pub downs : (c k : ℕ) (m : Message) → slice_get (w.downs c) k ≡ Some m → SpellsText m
  pub ups : (c k : ℕ) (m : Message) → slice_get (w.ups c) k ≡ Some m → SpellsText m

-- A read can be asked for: its numbers have their widths, and its message is within the limit.
pub record CanBeAsked (r : ReadOp) : Type 0 where
  pub fits : OpFits (op.Read r)
  pub encodable : IsEncodable (op.Read r)

-- The block of a writer or a primary that acts has a number of 64 bits, and what a reader asks for can be asked.
abbrev pub EventFits : Event → Type 0
EventFits (event.Own (own.Writer b takes answered)) = b.0 < 2 ^ 64
EventFits (event.Own (own.Reader i n r answered)) = CanBeAsked r
EventFits (event.Own (own.Recover i n b members dialled)) = b.0 < 2 ^ 64
EventFits _ = Unit {0}

abbrev pub AllFit : List Event → Type 0
AllFit [] = Unit {0}
AllFit (e ∷ events) = EventFits e × AllFit events

-- So it is after every list of events that fit, as long as the office has given only stamps of 64 bits.
abbrev pub AllWritten : Type 0
AllWritten = (nodes : ℕ) (events : List Event) → AllFit events → (run (start nodes) events).office.next.0 ≤ 2 ^ 64 →
    Written (run (start nodes) events)
