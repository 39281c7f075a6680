-- What stands next on the roads, where they show a world.
use Rattle.std.specs.Prelude.{◌≡◌, Bool, true, false, Option, Some, None}
use Rattle.hd_base.specs.declared.ends.Standing.{Standing}
use Rattle.hd_base.specs.declared.ends.Standing.TheVariants as standing
use Rattle.road_traffic.specs.Showing.{standing_on}
use Rattle.road_traffic.specs.Traffic.{Traffic, Fits}
use Rattle.world_nets.specs.World.Connections.{Next, message, the_end, next_on}
use Rattle.world_nets.specs.Nets.{IsRow}
use Rattle.world_nets.specs.Rows.{Row}

-- what stands next on the roads where this does in the world
abbrev pub standing_for : Option Next → Standing
standing_for None = standing.Nothing
standing_for (Some (message m)) = standing.Piece
standing_for (Some the_end) = standing.End

-- something stands next
abbrev pub stands : Standing → Bool
stands standing.Nothing = false
stands other = true

-- So it is on a direction that the roads show, as long as its end wasn't taken.
abbrev pub StandingsAgree : Type 0
StandingsAgree = (r : Row) (t : Traffic) → IsRow r t → Fits t → t.over ≡ false → r.marks.over ≡ false
    → standing_on t ≡ standing_for (next_on r.sent r.marks)
