-- What stands next on a connection, and what is sent and shut.
use Rattle.std.specs.Prelude.{ℕ, ◌==◌, ◌+◌, ◌&&◌, ◌||◌, nat_le, nat_lt, min, if◌then◌else◌, Bool, true, false, List, [], length, slice_get, option_map, Option, Some, None}
use Rattle.world.specs.Parts.{Message, Place, Dialled, Marks}
use Rattle.world.specs.Worlds.{World, put}

-- what stands next: a message, or the end
pub data Next : Type 0 where
  message : Message → Next
  the_end : Next

-- the end stands behind so many messages
abbrev pub ends_at : Option ℕ → ℕ → Bool
ends_at None n = false
ends_at (Some e) n = nat_le e n

-- What stands next in a direction, if something does: once the end was taken, nothing does.
abbrev pub next_on : List Message → Marks → Option Next
next_on sent k = if k.over then None
    else (if ends_at k.end k.taken then Some the_end else option_map message (slice_get sent k.taken))

-- the marks once this was taken
abbrev pub marks_taken : Marks → Next → Marks
marks_taken k (message m) = record k { taken = k.taken + 1 }
marks_taken k the_end = record k { over = true }

abbrev pub next_down : World → ℕ → Option Next
next_down w c = next_on (w.downs c) (w.down_marks c)

abbrev pub next_up : World → ℕ → Option Next
next_up w c = next_on (w.ups c) (w.up_marks c)

-- what stands next was taken
unfoldable pub down_taken : World → ℕ → Next → World
down_taken w c x = record w { down_marks = put w.down_marks c (marks_taken (w.down_marks c) x) }

unfoldable pub up_taken : World → ℕ → Next → World
up_taken w c x = record w { up_marks = put w.up_marks c (marks_taken (w.up_marks c) x) }

-- the node runs, and is still in this life
abbrev pub is_alive : World → Place → Bool
is_alive w p = w.running p.node && w.lives p.node == p.life

-- the connection was dialled, and its lower end's node runs in that life
abbrev pub is_served : World → ℕ → Bool
is_served w c = nat_lt c w.next_conn && is_alive w (w.dialled c).to

-- the node as it is now
abbrev pub place_of : World → ℕ → Place
place_of w n = record { node = n; life = w.lives n }

-- SENDING AND SHUTTING

-- these messages on this connection, if it is there, and none on the others
abbrev pub sent_on : Option ℕ → List Message → ℕ → List Message
sent_on None ms c = []
sent_on (Some d) ms c = if c == d then ms else []

-- this connection alone, if it is there
abbrev pub is_conn : Option ℕ → ℕ → Bool
is_conn None c = false
is_conn (Some d) c = c == d

abbrev pub is_either : Option ℕ → Option ℕ → ℕ → Bool
is_either a b c = is_conn a c || is_conn b c

-- LOSSES AND STOPS

-- the lesser of a number and one that may be wanting
abbrev pub lesser : ℕ → Option ℕ → ℕ
lesser n None = n
lesser n (Some m) = min n m

-- The end is put so many messages behind those taken, or behind all that were sent where these are fewer, but no later than where it stands.
abbrev pub lost_marks : List Message → ℕ → Marks → Marks
lost_marks sent more k = record k { end = Some (lesser (min (k.taken + more) (length sent)) k.end) }

-- nothing further arrives
abbrev pub stopped_marks : Marks → Marks
stopped_marks k = record k { end = Some (lesser k.taken k.end) }

-- one end of the connection is at this node
abbrev pub touches : ℕ → Dialled → Bool
touches n d = is_either (Some d.to.node) (option_map (λ (p : Place). p.node) d.from) n

abbrev pub stopped_where : (ℕ → Bool) → (ℕ → Marks) → ℕ → Marks
stopped_where test marks c = if test c then stopped_marks (marks c) else marks c

-- the connections of a node
abbrev pub is_of_node : World → ℕ → ℕ → Bool
is_of_node w n c = nat_lt c w.next_conn && touches n (w.dialled c)
