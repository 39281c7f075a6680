-- Opened nodes stand on roads that were unused.
use Rattle.std.proofs.Common.{refl, sym, ap, ◌∙◌}
use Rattle.std.specs.Prelude.{option_map}
use Rattle.hd_base.specs.Channels.{nothing_carried}
use Rattle.mem_ports.specs.Roads.{nothing_held}
use Rattle.opening_tests.proofs.stopping.a_stopped_node_is_not_dialled.Goals as goal

pub stop_node-requires-clause-stand : goal.stop_node-requires-clause-stand
stop_node-requires-clause-stand g c κs =
    let carried = c.new-roads.ensures.carried ∙ c.in_ok-new.ensures.carried in
    let stands = c.in_ok-nodes.ensures.stands (record {
      plain = nothing_held;
      is = c.new-roads.ensures.plain ∙ c.in_ok-new.ensures.plain;
      dialled = refl;
      listening = λ port. refl;
      waiting = λ port. refl;
      channels = λ conn way. refl;
      none_risen = c.new-roads.ensures.risen;
      carried = carried ∙ sym (ap (option_map (λ _. nothing_carried)) carried);
    }) in
    record { w = _; net = _; stands = stands }
