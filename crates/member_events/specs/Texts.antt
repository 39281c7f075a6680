-- Messages of a member that are spelled by the bytes as which they are written.
use Rattle.std.specs.Prelude.{◌≡◌, ℕ, slice_get, Some}
use Rattle.world_texts.specs.World.Parts.{Message, packet}
use Rattle.world_texts.specs.World.Worlds.{World}
use Rattle.world_texts.specs.World.Connections.{Next, message, the_end}
use Rattle.world_texts.specs.Texts.{SpellsText}

-- Each message that was sent up on the connection is spelled by the bytes as which it is written.
abbrev pub SpellUp : World → ℕ → Type 0
SpellUp w c = (k : ℕ) (m : Message) → slice_get (w.ups c) k ≡ Some m → SpellsText m

-- A packet that is spelled so, or the end.
abbrev pub IsPacketNext : Next → Type 0
IsPacketNext (message (packet p)) = SpellsText (packet p)
IsPacketNext (message other) = ⊥
IsPacketNext the_end = Unit {0}
