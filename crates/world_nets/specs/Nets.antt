-- The roads' connections, and the ends of connections, are those of a world.
use Rattle.std.specs.Prelude.{◌≡◌, ℕ, ◌+◌, ◌<◌, ◌≤◌, Bool, true, false, [], map}
use Rattle.hd_base.specs.Links.{Inbox}
use Rattle.hd_base.specs.declared.ends.Conn.{Conn}
use Rattle.hd_base.specs.declared.links.LinkIn as link_in
use Rattle.hd_base.specs.declared.links.LinkOut as link_out
use Rattle.hd_base.specs.declared.roads.TheConstants.{FIRST_PORT}
use Rattle.road_traffic.specs.Traffic.{Traffic, Traffics}
use Rattle.road_traffic.specs.Showing.{Net, EndIs}
use Rattle.world.specs.Worlds.{World}
use Rattle.world.specs.Connections.{Next, message, the_end}
use Rattle.world_nets.specs.Rows.{Row, Rows, rows_of, text_of}

-- ROWS

-- These messages were sent on the direction, as they are written; and where its taker hasn't gone as much was taken,
-- and the end stands there.
pub record IsRow (r : Row) (t : Traffic) : Type 0 where
  pub sent : t.sent ≡ map text_of r.sent
  pub taken : t.over ≡ false → t.taken ≡ r.marks.taken
  pub end : t.over ≡ false → t.end ≡ r.marks.end

-- The traffic is that of these rows.
abbrev pub AreRows : Rows → Traffics → Type 0
AreRows rows traffic = (c : ℕ) (d : Bool) → IsRow (rows c d) (traffic c d)

-- what an end holds that has just taken this
abbrev pub inbox_for : Next → Inbox
inbox_for (message m) = record { bytes = text_of m; ended = false }
inbox_for the_end = record { bytes = []; ended = true }

-- ALL CONNECTIONS

-- These are the connections of the world, whose running nodes listen. No dial waits, and of a connection that wasn't
-- dialled no end was taken.
pub record IsNetOf (w : World) (net : Net) : Type 0 where
  pub conns : net.conns ≡ w.next_conn
  pub listens : (node : ℕ) → net.listens (FIRST_PORT + node) ≡ w.running node
  pub waiting : (port : ℕ) → net.waiting port ≡ []
  pub rows_are : AreRows (rows_of w) net.traffic
  pub none_over : (c : ℕ) (d : Bool) → w.next_conn ≤ c → (rows_of w c d).marks.over ≡ false

-- ENDS

-- what an end holds that took, or didn't take, the end of its inward direction
abbrev pub held_by : Bool → Inbox
held_by over = record { bytes = []; ended = over }

-- whether the end of the direction was taken that an end takes from, which is down of the lower end
abbrev pub is_over : World → ℕ → Bool → Bool
is_over w conn lower = (rows_of w conn lower).marks.over

-- Between two events an end of this connection, the lower one or the upper one, has handed over all that it sent, and
-- its inward direction may still be taken from.
pub record IsEndOf {I O : Type 0} (i : link_in.Ghosts I) (o : link_out.Ghosts O) (w : World) (net : Net) (conn : ℕ)
    (lower : Bool) (at_end : Conn I O) : Type 0 where
  pub id : at_end.id.0 ≡ conn
  pub side : at_end.lower ≡ lower
  pub within : conn < net.conns
  pub is : EndIs i o net.traffic false [] (held_by (is_over w conn lower)) at_end
  pub taking : (net.traffic conn lower).over ≡ false
