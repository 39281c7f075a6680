-- Why no message is taken, for the fault that each decoder has.
use Rattle.std.specs.Prelude.{◌≡◌, ◌≢◌, List, ℕ}
use Rattle.packet_codec.specs.declared.faults.PacketFault.{PacketFault}
use Rattle.packet_codec.specs.declared.faults.PacketFault.TheVariants as packet
use Rattle.ack_codec.specs.declared.faults.AckFault.{AckFault}
use Rattle.ack_codec.specs.declared.faults.AckFault.TheVariants as ack
use Rattle.ack_codec.specs.declared.faults.ResponseFault.{ResponseFault}
use Rattle.ack_codec.specs.declared.faults.ResponseFault.TheVariants as response
use Rattle.op_headers.specs.declared.faults.OpFault.{OpFault}
use Rattle.op_headers.specs.declared.faults.OpFault.TheVariants as op
use Rattle.op_headers.specs.declared.faults.AnswerFault.{AnswerFault}
use Rattle.op_headers.specs.declared.faults.AnswerFault.TheVariants as answer
use Rattle.frame_feed.specs.declared.faults.FeedFault.{FeedFault}
use Rattle.frame_feed.specs.declared.faults.FeedFault.TheVariants as feed
use Rattle.frame_feed.specs.declared.faults.NoMessage.{NoMessage}
use Rattle.frame_feed.specs.declared.faults.NoMessage.TheVariants.{Short, Memory, Refused}

-- The decoder's Short and Memory are no faults of the stream; each other fault is.
abbrev pub no_op : OpFault → NoMessage
no_op op.Short = Short
no_op op.Memory = Memory
no_op fault = Refused (feed.Op fault)

abbrev pub no_packet : PacketFault → NoMessage
no_packet packet.Short = Short
no_packet packet.Memory = Memory
no_packet fault = Refused (feed.Packet fault)

abbrev pub no_ack : AckFault → NoMessage
no_ack ack.Short = Short
no_ack fault = Refused (feed.Ack fault)

abbrev pub no_response : ResponseFault → NoMessage
no_response response.Short = Short
no_response response.Memory = Memory
no_response fault = Refused (feed.Response fault)

abbrev pub no_answer : AnswerFault → NoMessage
no_answer answer.Short = Short
no_answer answer.Memory = Memory
no_answer fault = Refused (feed.Recovery fault)

-- A fault of the decoder that stands in the bytes is why no message is taken.
abbrev pub StandsThere : {E : Type 0} → (E → NoMessage) → (E → List ℕ → Type 0) → NoMessage → List ℕ → Type 0
StandsThere {E} cause IsRefused why bytes = (fault : E) × (cause fault ≡ why) × IsRefused fault bytes

-- The fault has neither a Memory nor a Short within, and isn't Memory itself.
abbrev pub IsOfStream : FeedFault → Type 0
IsOfStream (feed.Op fault) = (fault ≢ op.Memory) × (fault ≢ op.Short)
IsOfStream (feed.Packet fault) = (fault ≢ packet.Memory) × (fault ≢ packet.Short)
IsOfStream (feed.Ack fault) = fault ≢ ack.Short
IsOfStream (feed.Response fault) = (fault ≢ response.Memory) × (fault ≢ response.Short)
IsOfStream (feed.Recovery fault) = (fault ≢ answer.Memory) × (fault ≢ answer.Short)
IsOfStream feed.Memory = ⊥

-- a fault that a feed answers: want of memory, or one of the stream
abbrev pub IsAnswer : FeedFault → Type 0
IsAnswer feed.Memory = Unit {0}
IsAnswer fault = IsOfStream fault
