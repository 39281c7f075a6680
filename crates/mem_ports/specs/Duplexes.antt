-- What queues and connections hold, as channels.
use Rattle.std.specs.Prelude.{ℕ, zero, suc, Bool, cond, if◌then◌else◌, List, [], ◌∷◌, drop}
use Rattle.hd_base.specs.Channels.{Channel, Channels, empty_channel, extended_channel, closed_channel, same_direction}
use Rattle.mem_ports.specs.Pieces.{pieces_of}
use Rattle.mem_ports.specs.declared.queues.Queue.{Queue}
use Rattle.mem_ports.specs.declared.duplexes.DuplexChannel.{DuplexChannel}

-- what stands on a queue
abbrev pub channel_of : Queue → Channel
channel_of queue = record { pieces = pieces_of queue.pieces.items; ended = queue.ended }

-- what stands on one direction of a connection (true is down)
abbrev pub channel_at : DuplexChannel → Bool → Channel
channel_at duplex down = cond down (channel_of duplex.down) (channel_of duplex.up)

-- a channel whose first piece was taken
abbrev pub first_taken : Channel → Channel
first_taken channel = record { pieces = drop 1 channel.pieces; ended = channel.ended }

-- the channels of a connection after an end sent pieces one way, and perhaps a shut, which ends both
abbrev pub after_send : (Bool → Channel) → Bool → List (List ℕ) → Bool → Bool → Channel
after_send channels down pieces shut d =
    if same_direction down d then extended_channel (channels d) pieces shut else closed_channel (channels d) shut

-- the channels of a connection after a half was offered what stands next one way, which it takes where it is hungry
abbrev pub after_offer : (Bool → Channel) → Bool → Bool → Bool → Channel
after_offer channels down hungry d =
    if hungry then (if same_direction down d then first_taken (channels d) else channels d) else channels d

-- what stands on the channels of all connections, which are numbered from 0
abbrev pub channels_of : List DuplexChannel → Channels
channels_of [] conn down = empty_channel
channels_of (duplex ∷ rest) zero down = channel_at duplex down
channels_of (duplex ∷ rest) (suc conn) down = channels_of rest conn down
