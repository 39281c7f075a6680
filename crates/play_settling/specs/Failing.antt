-- Where a replica grows, the write that makes it grow may fail.
use Rattle.std.specs.Prelude.{◌≡◌, true}
use Rattle.hd_base.specs.declared.numbers.ConnId.{ConnId}
use Rattle.world.specs.declared.events.Delivery.TheVariants as delivery
use Rattle.world.specs.declared.events.Event.TheVariants as event
use Rattle.world.specs.Worlds.{World}
use Rattle.world.specs.Events.{is_enabled}
use Rattle.world_writes.specs.Writes.{grows}

-- So it is in every world.
abbrev pub WritesMayFail : Type 0
WritesMayFail = (w : World) (c : ConnId) → grows w c.0 ≡ true → is_enabled w (event.Fault (delivery.Down c)) ≡ true
