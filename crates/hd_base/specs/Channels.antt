-- What roads have carried, and what roads over plain memory hold.
use Rattle.std.specs.Prelude.{◌≡◌, ◌==◌, ℕ, ◌+◌, ◌-◌, ◌&&◌, ◌||◌, not, Bool, true, false, cond, if◌then◌else◌, List, [], ◌∷◌, ◌++◌, length, take, drop, Option, option_map, option_and_then}
use Rattle.hd_base.specs.Lists.{joined}
use Rattle.hd_base.specs.Links.{Inbox}
use Rattle.hd_base.specs.declared.ends.Standing.{Standing}
use Rattle.hd_base.specs.declared.ends.Standing.TheVariants as standing

-- the bytes carried by connection and direction (true is down), in the order sent
abbrev pub Carried : Type 0
Carried = ℕ → Bool → List ℕ

-- nothing
abbrev pub nothing_carried : Carried
nothing_carried = λ _ _. []

-- two directions are one
abbrev pub same_direction : Bool → Bool → Bool
same_direction down other = cond down other (not other)

-- with these bytes behind those of one connection's direction
abbrev pub carry : Carried → ℕ → Bool → List ℕ → Carried
carry carried conn down bytes = λ c d. cond ((conn == c) && same_direction down d) (carried c d ++ bytes) (carried c d)

-- with all that a share carried behind what these carried
abbrev pub gathered : Carried → Carried → Carried
gathered carried share = λ c d. carried c d ++ share c d

-- Where observable, the roads now carried what the end had sent past the pieces that it had handed on, and nothing else.
abbrev pub Carries : Option Carried → Option Carried → ℕ → Bool → ℕ → Option (List (List ℕ)) → Type 0
Carries old new conn down flushed sent =
    new ≡ option_and_then (λ carried. option_map (λ pieces. carry carried conn down (joined (drop flushed pieces)))
    sent) old

-- what stands on one direction of a connection over plain memory: pieces not yet taken, and whether the end stands behind them
pub record Channel : Type 0 where
  pub pieces : List (List ℕ)
  pub ended : Bool

-- nothing stands
abbrev pub empty_channel : Channel
empty_channel = record { pieces = []; ended = false }

-- the channels by connection and direction (true is down)
abbrev pub Channels : Type 0
Channels = ℕ → Bool → Channel

-- what roads over plain memory hold: the ports that are listened on, the dials that wait by port (the oldest first), how many were dialled, and the channels
pub record Plain : Type 0 where
  pub listening : ℕ → Bool
  pub waiting : ℕ → List ℕ
  pub dialled : ℕ
  pub channels : Channels

-- a port is listened on, or no longer
abbrev pub with_listening : Plain → ℕ → Bool → Plain
with_listening plain port on = record plain { listening = λ p. cond (p == port) on (plain.listening p) }

-- one more dial, under the next number, waits at the port
abbrev pub with_dial : Plain → ℕ → Plain
with_dial plain port =
    record plain {
      waiting = λ p. cond (p == port) (plain.waiting p ++ plain.dialled ∷ []) (plain.waiting p);
      dialled = plain.dialled + 1;
    }

-- the oldest dial no longer waits at the port
abbrev pub with_accept : Plain → ℕ → Plain
with_accept plain port = record plain { waiting = λ p. cond (p == port) (drop 1 (plain.waiting p)) (plain.waiting p) }

-- a channel with more pieces behind those that stand, and then perhaps the end: behind the end all is lost
abbrev pub extended_channel : Channel → List (List ℕ) → Bool → Channel
extended_channel channel pieces shut = if channel.ended then channel
    else record { pieces = channel.pieces ++ pieces; ended = shut }

-- a channel that ends behind what stands, where a shut was made
abbrev pub closed_channel : Channel → Bool → Channel
closed_channel channel shut = record channel { ended = channel.ended || shut }

-- the channels after an end gave its pieces, and perhaps a shut, which ends both directions
abbrev pub with_given : Channels → ℕ → Bool → List (List ℕ) → Bool → Channels
with_given channels conn down pieces shut =
    λ c d. cond (conn == c) (cond (same_direction down d) (extended_channel (channels c d) pieces shut)
    (closed_channel (channels c d) shut)) (channels c d)

-- the channels after an end took the next piece of one
abbrev pub with_taken : Channels → ℕ → Bool → Channels
with_taken channels conn down =
    λ c d. cond ((conn == c) && same_direction down d) (record {
      pieces = drop 1 (channels c d).pieces;
      ended = (channels c d).ended;
    }) (channels c d)

-- an inbox that holds nothing, and no end, takes what stands next
abbrev pub is_hungry : Inbox → Bool
is_hungry inbox = (length inbox.bytes == 0) && not inbox.ended

-- the next piece, or the end, or nothing
abbrev pub next_inbox : List (List ℕ) → Bool → Inbox
next_inbox [] ended = record { bytes = []; ended = ended }
next_inbox (piece ∷ pieces) ended = record { bytes = piece; ended = false }

-- an inbox after it was offered what stands on a channel
abbrev pub filled : Inbox → Channel → Inbox
filled inbox channel = if is_hungry inbox then next_inbox channel.pieces channel.ended else inbox

-- of the pieces that an outward half sent, those that it has still to hand on: those after its shut are lost
abbrev pub unflushed : List (List ℕ) → ℕ → ℕ → List (List ℕ)
unflushed sent flushed lost = drop flushed (take (length sent - lost) sent)

-- the channels after an end's pieces, and perhaps its shut, were flushed: the end that dialled sends down
abbrev pub with_flushed : Plain → ℕ → Bool → List (List ℕ) → Bool → Plain
with_flushed plain conn lower pieces shut =
    record plain { channels = with_given plain.channels conn (not lower) pieces shut }

-- the channels after an end whose inbox is hungry, or not, was offered the next piece
abbrev pub with_offer : Plain → ℕ → Bool → Bool → Plain
with_offer plain conn lower hungry = record plain {
  channels = if hungry then with_taken plain.channels conn lower
      else plain.channels;
}

-- a piece, or the end behind the last piece, or nothing
abbrev pub next_standing : List (List ℕ) → Bool → Standing
next_standing (piece ∷ pieces) ended = standing.Piece
next_standing [] true = standing.End
next_standing [] false = standing.Nothing

-- what stands next on a channel
abbrev pub standing_of : Channel → Standing
standing_of channel = next_standing channel.pieces channel.ended
