-- At the start there is no value, and each turn takes one field more.
use Rattle.std.proofs.Common.{replicate, ap, ◌∙◌, arith}
use Rattle.proto_fields.proofs.ValueLemmas.{last_values_from-none, newer_list-turn}
use Rattle.proto_fields.proofs.listing.Fields.last_values.Goals as goal

pub loop-number-init : goal.loop-number-init
loop-number-init g c = ap (replicate g.row.N) c.none-last.ensures ∙ last_values_from-none g.row.N 1

pub loop-number-preserved : goal.loop-number-preserved
loop-number-preserved g c =
    newer_list-turn g.row.N c.deref-number-items.result.now c.loop-number.number-index _ _ _ (omega arith) c.loop-number.invariant c.replace_last.ensures
