-- What was found of the blocks is kept.
use Rattle.std.proofs.Common.{rules}
use Rattle.std.proofs.lemmas.Fn.{filter_same}
use Rattle.restart_scan.specs.declared.found.Seen.{Seen}
use Rattle.node_restarts.specs.Seeking.{has_block}
use Rattle.node_restarts.proofs.seeking.found_of.Goals as goal

pub returns : goal.returns
returns c =
    filter_same _ (λ (seen : Seen). has_block c.args.blocks.now seen.block.0) _ (λ x b q called. (search rules, search rules)) c.args.replicas.items c.retain.new.self.items c.retain.ensures.filtered
