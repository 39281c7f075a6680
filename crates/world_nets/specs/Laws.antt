-- What exchanges and shuts make of the roads' connections is what they make of the world's.
use Rattle.std.specs.Prelude.{◌≡◌, ℕ, Bool, true, false, List, map, Some}
use Rattle.road_traffic.specs.Traffic.{Traffics, after_flush, after_draw, after_loss}
use Rattle.road_traffic.specs.Showing.{inbox_of}
use Rattle.world.specs.Parts.{Message}
use Rattle.world.specs.Connections.{Next, next_on}
use Rattle.world_nets.specs.Rows.{Rows, text_of, rows_flushed, rows_taken}
use Rattle.world_nets.specs.Nets.{AreRows, inbox_for}

-- An end has flushed these messages, and was shut or not.
abbrev pub FlushesAreRows : Type 0
FlushesAreRows = (rows : Rows) (traffic : Traffics) (conn : ℕ) (lower shut : Bool) (messages : List Message)
    → AreRows rows traffic → AreRows (rows_flushed rows conn lower shut messages)
    (after_flush traffic conn lower shut (map text_of messages))

-- An end that sent these messages was given up.
abbrev pub LossesAreRows : Type 0
LossesAreRows = (rows : Rows) (traffic : Traffics) (conn : ℕ) (lower : Bool) (messages : List Message)
    → AreRows rows traffic → AreRows (rows_flushed rows conn lower true messages)
    (after_loss traffic conn lower (map text_of messages))

-- What an end takes: the traffic then, and what the end holds.
pub record TakesRow (rows : Rows) (traffic : Traffics) (conn : ℕ) (lower : Bool) (x : Next) : Type 0 where
  pub rows_are : AreRows (rows_taken rows conn lower x) (after_draw traffic conn lower)
  pub holds : inbox_of (traffic conn lower) ≡ inbox_for x

-- An end whose inward direction may still be taken from takes what stands next.
abbrev pub TakesAreRows : Type 0
TakesAreRows = (rows : Rows) (traffic : Traffics) (conn : ℕ) (lower : Bool) (x : Next) → AreRows rows traffic →
    (traffic conn lower).over ≡ false
    → next_on (rows conn lower).sent (rows conn lower).marks ≡ Some x → TakesRow rows traffic conn lower x
