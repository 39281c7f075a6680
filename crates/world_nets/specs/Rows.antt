-- What was sent on each direction of each connection of a world, and what became of it.
use Rattle.std.specs.Prelude.{ℕ, ◌==◌, not, Bool, true, false, cond, List, ◌++◌, length}
use Rattle.hd_base.specs.Channels.{same_direction}
use Rattle.hd_base.specs.Wire.{status_number}
use Rattle.proto_fields.specs.Varint.{least_varint}
use Rattle.proto_fields.specs.Writing.{varint_field}
use Rattle.world.specs.AckCodec.AckTexts.{ack_text}
use Rattle.world.specs.AckCodec.ResponseTexts.{response_text}
use Rattle.world.specs.OpHeaders.Answers.{answer_text}
use Rattle.world.specs.OpHeaders.Requests.{op_text}
use Rattle.world.specs.PacketCodec.Packets.{packet_text}
use Rattle.world.specs.Parts.{Message, request, packet, ack, response, read_status, recovery_answer, Marks}
use Rattle.world.specs.Worlds.{World, shut_marks}
use Rattle.world.specs.Connections.{Next, marks_taken}

-- MESSAGES

-- with its length in front
abbrev pub with_length : List ℕ → List ℕ
with_length message = least_varint (length message) ++ message

-- a message as it is written
abbrev pub text_of : Message → List ℕ
text_of (request r) = op_text r
text_of (packet p) = packet_text p
text_of (ack a) = ack_text a
text_of (response r) = response_text r
text_of (read_status s) = with_length (varint_field 1 (status_number s))
text_of (recovery_answer a) = answer_text a

-- ROWS

-- One direction of a connection: what was sent on it, and its marks.
pub record Row : Type 0 where
  pub sent : List Message
  pub marks : Marks

-- the rows by connection and direction (true is down)
abbrev pub Rows : Type 0
Rows = ℕ → Bool → Row

-- the rows of a world
abbrev pub rows_of : World → Rows
rows_of w c true = record { sent = w.downs c; marks = w.down_marks c }
rows_of w c false = record { sent = w.ups c; marks = w.up_marks c }

-- one connection's rows become this, by direction
abbrev pub changed_rows : Rows → ℕ → (Bool → Row → Row) → Rows
changed_rows rows conn f = λ c d. cond (conn == c) (f d (rows c d)) (rows c d)

-- more messages were sent
abbrev pub sends : List Message → Row → Row
sends messages r = record r { sent = r.sent ++ messages }

-- the end stands behind all that was sent, where it doesn't stand already
abbrev pub shuts : Row → Row
shuts r = record r { marks = shut_marks r.sent r.marks }

abbrev pub shuts_if : Bool → Row → Row
shuts_if shut r = cond shut (shuts r) r

-- An end, the lower one or the upper one, has sent these messages, and was shut or not: a shut ends both directions.
abbrev pub flushes_row : Bool → Bool → List Message → Bool → Row → Row
flushes_row lower shut messages d r = shuts_if shut (cond (same_direction (not lower) d) (sends messages r) r)

abbrev pub rows_flushed : Rows → ℕ → Bool → Bool → List Message → Rows
rows_flushed rows conn lower shut messages = changed_rows rows conn (flushes_row lower shut messages)

-- what stood next was taken
abbrev pub takes_row : Next → Row → Row
takes_row x r = record r { marks = marks_taken r.marks x }

-- the same on one direction alone
abbrev pub takes_on : Bool → Next → Bool → Row → Row
takes_on lower x d r = cond (same_direction lower d) (takes_row x r) r

-- An end has taken what stood next on its inward direction.
abbrev pub rows_taken : Rows → ℕ → Bool → Next → Rows
rows_taken rows conn lower x = changed_rows rows conn (takes_on lower x)
