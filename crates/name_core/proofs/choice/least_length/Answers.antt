-- One info more.
use Rattle.std.proofs.Common.{Some, get_or, ap, sym, ◌∙◌}
use Rattle.name_core.specs.Choice.{lesser}
use Rattle.name_core.proofs.InfoLemmas.{past_end}
use Rattle.name_core.proofs.ChoiceLemmas.{least_more, least_same}
use Rattle.name_core.proofs.choice.least_length.Goals as goal
use Rattle.name_core.proofs.choice.least_length.Goals.{then-is_chosen, else-is_chosen}

pub loop-info-preserved : goal.loop-info-preserved
loop-info-preserved c = elim c.if-is_chosen.branch [
  | then-is_chosen w ↦
      let more = least_more c.args.block_stamp c.args.kept c.as_slice-infos.result.now c.loop-info.info-index past_end c.loop-info-test.true (sym c.is_chosen.ensures ∙ w.if-is_chosen.true) in
      w.least-is ∙ ap Some (w.lesser.ensures ∙ ap (lesser (get_or c.as_slice-infos.result.now c.loop-info.info-index past_end).length) c.loop-info.invariant) ∙ sym more
  | else-is_chosen w ↦
      let same = least_same c.args.block_stamp c.args.kept c.as_slice-infos.result.now c.loop-info.info-index past_end c.loop-info-test.true (sym c.is_chosen.ensures ∙ w.if-is_chosen.false) in
      w.least-is ∙ c.loop-info.invariant ∙ sym same
]
