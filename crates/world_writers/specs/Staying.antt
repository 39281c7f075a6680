-- Answered bytes stay as far as later recoveries left them.
use Rattle.std.specs.Prelude.{◌≡◌}
use Rattle.hd_base.specs.declared.numbers.NodeId.{NodeId}
use Rattle.world.specs.Parts.{Answered}
use Rattle.world.specs.Worlds.{World}
use Rattle.world.specs.Safe.{Has, Steady, KeptAt}
use Rattle.world_acks.specs.Acking.{UpdatesLeave}

-- Bytes for which an hflush, hsync or close was answered stay at each member that is steady since the stamp of the
-- answer, where each later recovery that updated it in this life left it at least so many.
abbrev pub AnsweredStay : World → Type 0
AnsweredStay w = (a : Answered) (m : NodeId) → Has w.answered a → Has a.members m → Steady w a.block a.stamp m.0 →
    UpdatesLeave w a.block a.stamp m.0 (w.lives m.0) a.length → KeptAt w a m.0

-- Of answers of the latest session of their block, all of part Kept holds at each member that is steady since.
abbrev pub LatestStay : World → Type 0
LatestStay w = (a : Answered) (m : NodeId) → Has w.answered a → w.session_of a.stamp ≡ w.latest a.block →
    Has a.members m → Steady w a.block a.stamp m.0 → KeptAt w a m.0
