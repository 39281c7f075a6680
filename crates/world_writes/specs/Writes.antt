-- Whether what stands next on a connection makes the replica at its lower end grow: then its bytes are written to the data
-- file.
use Rattle.std.specs.Prelude.{ℕ, nat_lt, Bool, true, false, length}
use Rattle.hd_base.specs.declared.numbers.ConnId.{ConnId}
use Rattle.world_laws.specs.World.Event.{Event}
use Rattle.world_laws.specs.World.Event.TheVariants as event
use Rattle.world_laws.specs.World.Parts.{Lower, writes}
use Rattle.world_laws.specs.World.Worlds.{World}
use Rattle.world_laws.specs.World.Nodes.{replica_at, block_of}
use Rattle.world_laws.specs.World.Events.{happens}

-- how many bytes a replica has at the node of a connection
abbrev pub written_at : World → ℕ → ℕ → ℕ
written_at w c b = length (replica_at w c b).bytes

-- the replica of the member at the lower end of a connection has more bytes in the second world
abbrev pub has_grown : World → World → ℕ → Lower → Bool
has_grown w v c (writes m) = nat_lt (written_at w c (block_of m.fields)) (written_at v c (block_of m.fields))
has_grown w v c other = false

-- The lower end takes what stands next, and its replica grows.
unfoldable pub grows : World → ℕ → Bool
grows w c = has_grown w (happens w (event.Down (record { 0 = c }) true)) c (w.lowers c)
