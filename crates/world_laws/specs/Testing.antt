-- Events are enabled just where the tests of what takes part in them say so.
use Rattle.std.specs.Prelude.{ℕ, ◌≡◌, Bool, None}
use Rattle.hd_base.specs.declared.numbers.BlockId.{BlockId}
use Rattle.hd_base.specs.declared.numbers.ConnId.{ConnId}
use Rattle.world.specs.declared.events.Caller.{Caller}
use Rattle.world.specs.declared.events.Event.TheVariants as event
use Rattle.world.specs.declared.events.OwnStep.TheVariants as own
use Rattle.world.specs.Worlds.{World}
use Rattle.world.specs.Enabled.{can_down, can_ready, can_up, can_write, can_lead, can_ask}
use Rattle.world.specs.Events.{is_enabled}

-- In each world a delivery, a writer's step without a command, a primary's further step and a question to the office are enabled just so.
pub record IsTested (w : World) : Type 0 where
  pub down : (c : ConnId) (answered : Bool) → is_enabled w (event.Down c answered) ≡ can_down w c.0
  pub ready : (c : ConnId) → is_enabled w (event.Ready c) ≡ can_ready w c.0
  pub up : (c : ConnId) → is_enabled w (event.Up c) ≡ can_up w c.0
  pub write : (b : BlockId) (answered : Bool) → is_enabled w (event.Own (own.Writer b None answered)) ≡ can_write w b.0
  pub lead : (i : ℕ) → is_enabled w (event.Own (own.Primary i)) ≡ can_lead w i
  pub ask : (c : Caller) → is_enabled w (event.Office c) ≡ can_ask w c

abbrev pub AllTested : Type 0
AllTested = (w : World) → IsTested w
