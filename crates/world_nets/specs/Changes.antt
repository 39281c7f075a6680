-- What a change of the world, and what is taken from a connection, make of the world's rows; and ends that are
-- flushed one after the other.
use Rattle.std.specs.Prelude.{◌≡◌, ◌||◌, ◌&&◌, ◌==◌, ℕ, not, Bool, true, false, cond, List, [], ◌∷◌, ◌++◌, map, option_map}
use Rattle.hd_base.specs.Channels.{same_direction}
use Rattle.road_traffic.specs.Traffic.{Traffics, after_flush}
use Rattle.world.specs.Parts.{Message}
use Rattle.world.specs.Worlds.{World, Change, apply, dial_at, listed}
use Rattle.world.specs.Connections.{Next, down_taken, up_taken}
use Rattle.world_nets.specs.Rows.{Rows, rows_of, text_of, sends, shuts_if, rows_taken}
use Rattle.world_nets.specs.Nets.{AreRows}

-- CHANGES

-- what a change sends on a direction of a connection: a new connection has its request
abbrev pub sent_in : World → Change → ℕ → Bool → List Message
sent_in w k c true = k.downs c ++ listed (option_map (λ d. d.request) (dial_at w.next_conn k.dials c))
sent_in w k c false = k.ups c

-- These messages are sent by connection and direction, and these connections are shut then.
abbrev pub rows_changed : Rows → (ℕ → Bool → List Message) → (ℕ → Bool) → Rows
rows_changed rows sent shut = λ c d. shuts_if (shut c) (sends (sent c d) (rows c d))

-- A change sends and shuts as it says.
abbrev pub ChangesAreRows : Type 0
ChangesAreRows = (w : World) (k : Change) (c : ℕ) (d : Bool) →
    rows_of (apply w k) c d ≡ rows_changed (rows_of w) (sent_in w k) k.shuts c d

-- WHAT IS TAKEN

-- a world in which something was taken from a connection by its lower end, or by its upper one
abbrev pub world_taken : World → ℕ → Bool → Next → World
world_taken w c true x = down_taken w c x
world_taken w c false x = up_taken w c x

abbrev pub TakingIsRows : Type 0
TakingIsRows = (w : World) (conn : ℕ) (lower : Bool) (x : Next) (c : ℕ) (d : Bool) →
    rows_of (world_taken w conn lower x) c d ≡ rows_taken (rows_of w) conn lower x c d

-- ENDS THAT ARE FLUSHED

-- An end, the lower one or the upper one of a connection, flushes these messages, and is shut or not.
pub record Flush : Type 0 where
  pub conn : ℕ
  pub lower : Bool
  pub shut : Bool
  pub messages : List Message

-- the traffic after these, one after the other
abbrev pub after_flushes : Traffics → List Flush → Traffics
after_flushes traffic [] = traffic
after_flushes traffic (f ∷ fs) = after_flushes (after_flush traffic f.conn f.lower f.shut (map text_of f.messages)) fs

-- what these send on a direction of a connection: the lower end sends up
abbrev pub sent_by : List Flush → ℕ → Bool → List Message
sent_by [] c d = []
sent_by (f ∷ fs) c d = cond ((f.conn == c) && same_direction (not f.lower) d) f.messages [] ++ sent_by fs c d

-- one of these shuts the connection
abbrev pub shut_by : List Flush → ℕ → Bool
shut_by [] c = false
shut_by (f ∷ fs) c = ((f.conn == c) && f.shut) || shut_by fs c

-- None of these is of this connection.
abbrev pub NotOf : ℕ → List Flush → Type 0
NotOf conn [] = Unit {0}
NotOf conn (f ∷ fs) = ((f.conn == conn) ≡ false) × NotOf conn fs

-- No two of these are of one connection.
abbrev pub AreApart : List Flush → Type 0
AreApart [] = Unit {0}
AreApart (f ∷ fs) = NotOf f.conn fs × AreApart fs

-- Where ends of different connections are flushed one after the other, the roads' connections become what the world's
-- become by these messages and shuts.
abbrev pub AllFlushesAreRows : Type 0
AllFlushesAreRows = (rows : Rows) (traffic : Traffics) (flushes : List Flush) → AreApart flushes → AreRows rows traffic
    → AreRows (rows_changed rows (sent_by flushes) (shut_by flushes)) (after_flushes traffic flushes)
