-- Nothing is held and nothing was carried.
use Rattle.std.proofs.Common.{refl, Option, sym, ◌∙◌, ap}
use Rattle.std.specs.Prelude.{option_map}
use Rattle.hd_base.specs.Channels.{Carried, nothing_carried}
use Rattle.mem_ports.specs.Roads.{nothing_held}
use Rattle.whole_play.proofs.laws.new_roads_are_unused.Goals as goal

pub returns : goal.returns
returns g c = λ road plain carried none. record {
  plain = nothing_held;
  is = plain;
  dialled = refl;
  listening = λ port. refl;
  waiting = λ port. refl;
  channels = λ k d. refl;
  none_risen = none;
  carried = carried ∙ sym (ap (λ (x : Option Carried). option_map (λ _. nothing_carried) x) carried);
}
