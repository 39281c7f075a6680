-- One client more.
use Rattle.std.proofs.Common.{get_or}
use Rattle.hd_base.specs.declared.numbers.BlockId.{BlockId}
use Rattle.play.proofs.NodeOpening.ListLemmas.{element_or}
use Rattle.play_opening.proofs.ClientLemmas.{clients_none, clients_next, clients_end}
use Rattle.play_opening.proofs.clients.new_clients.Goals as goal

pub loop-block-init : goal.loop-block-init
loop-block-init g c = clients_none _ c.new-clients.ensures.items

pub loop-block-preserved : goal.loop-block-preserved
loop-block-preserved g c =
    let k = c.loop-block.block-index in
    let none : BlockId = record { 0 = 0 } in
    clients_next c.args.blocks.now k (get_or c.args.blocks.now k none) c.loop-block.clients.items c.push.new.self.items c.new_client.result
    (element_or c.args.blocks.now k none c.loop-block-test.true) c.loop-block.invariant c.new_client.ensures c.in_ok-push.ensures.items

pub returns : goal.returns
returns g c = clients_end c.args.blocks.now c.loop-block.block-index c.loop-block.clients.items c.loop-block-test.false c.loop-block.invariant
