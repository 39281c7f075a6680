-- Roads that are unused.
use Rattle.std.specs.Prelude.{◌≡◌, ℕ, false, Some}
use Rattle.hd_base.specs.Channels.{nothing_carried}
use Rattle.hd_base.specs.declared.roads.Roads as roads
use Rattle.mem_ports.specs.Roads.{nothing_held}
use Rattle.play_report.specs.NodeOpening.Listening.{AreUnused}

abbrev pub NewAreUnused : {R I O : Type 0} → roads.Ghosts R I O → Type 0
NewAreUnused {R} r = (road : R) → r.plain road ≡ Some nothing_held → r.carried road ≡ Some nothing_carried →
    ((c : ℕ) → r.risen road c ≡ false)
    → AreUnused r road
