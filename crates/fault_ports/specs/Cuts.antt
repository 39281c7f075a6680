-- What a cut makes of connections, and what roads hold whose connections were cut.
use Rattle.std.specs.Prelude.{◌≡◌, ℕ, ◌<◌, ◌≤◌, ◌==◌, Bool, true, false, cond, List, length, take, Option, Some, None, IfSome, IsSome}
use Rattle.hd_base.specs.Channels.{Channel, Channels, Plain}
use Rattle.hd_base.specs.declared.links.LinkIn as link_in
use Rattle.hd_base.specs.declared.links.LinkOut as link_out
use Rattle.fault_ports.specs.declared.piece_counts.PieceCount.{PieceCount}
use Rattle.fault_ports.specs.declared.piece_counts.DuplexCount.{DuplexCount}
use Rattle.fault_ports.specs.PieceCounts.{count_at}

-- a channel on which so many pieces stand at most, and then the end
abbrev pub cut_channel : ℕ → Channel → Channel
cut_channel pieces channel = record { pieces = take pieces channel.pieces; ended = true }

-- the channels after one connection was cut behind so many pieces down, and up
abbrev pub cut_channels : Channels → ℕ → ℕ → ℕ → Channels
cut_channels channels conn down up =
    λ c d. cond (conn == c) (cut_channel (cond d down up) (channels c d)) (channels c d)

-- what roads hold after one connection was cut
abbrev pub with_cut : Plain → ℕ → ℕ → ℕ → Plain
with_cut plain conn down up = record plain { channels = cut_channels plain.channels conn down up }

-- a channel that was cut, or wasn't
abbrev pub limited : Option ℕ → Channel → Channel
limited None channel = channel
limited (Some left) channel = cut_channel left channel

-- the channels that are seen, where some were cut
abbrev pub seen_channels : List DuplexCount → Channels → Channels
seen_channels counts channels = λ c d. limited (count_at counts c d).left (channels c d)

-- what is seen of roads, where some connections were cut
abbrev pub seen_plain : List DuplexCount → Plain → Plain
seen_plain counts plain = record plain { channels = seen_channels counts plain.channels }

-- The count is that of the pieces on a channel, or greater where the channel has ended; and a cut stands within the pieces.
abbrev pub CountsPieces : PieceCount → Channel → Type 0
CountsPieces count channel =
    (length channel.pieces ≤ count.standing)
    × (channel.ended ≡ false → count.standing ≡ length channel.pieces)
    × IfSome count.left (λ left. channel.ended ≡ false → left ≤ length channel.pieces)

-- Each connection that was dialled is counted, and no other is listed.
abbrev pub CountsAll : List DuplexCount → Plain → Type 0
CountsAll counts plain =
    (length counts ≤ plain.dialled)
    × ((c : ℕ) (d : Bool) → c < plain.dialled → CountsPieces (count_at counts c d) (plain.channels c d))

-- What every end of these kinds holds and has sent is observable.
abbrev pub AllObservable : {I O : Type 0} → link_in.Ghosts I → link_out.Ghosts O → Type 0
AllObservable {I} {O} i o = ((half : I) → IsSome (i.held half)) × ((half : O) → IsSome (o.sent half))
