-- One info more, and at the end the members.
use Rattle.std.proofs.Common.{sym, ◌∙◌, arith}
use Rattle.name_core.proofs.InfoLemmas.{past_end}
use Rattle.name_core.proofs.ChoiceLemmas.{kept_so_far-more, kept_so_far-same, kept_members_fit}
use Rattle.name_core.proofs.choice.kept_members.Goals as goal
use Rattle.name_core.proofs.choice.kept_members.Goals.{then-is_chosen, else-is_chosen}

pub loop-info-preserved : goal.loop-info-preserved
loop-info-preserved c = elim c.if-is_chosen.branch [
  | then-is_chosen w ↦
      let long = c.loop-info.invariant.long in
      let within = c.loop-info.invariant.within in
      let short = c.as_slice-infos.ensures.within_limit in
      rw (w.nodes-is, w.count-is) (kept_so_far-more c.args.block_stamp c.args.kept c.as_slice-infos.result.now c.loop-info.info-index past_end c.loop-info.nodes c.loop-info.count c.loop-info-test.true (sym c.is_chosen.ensures ∙ w.if-is_chosen.true) (omega arith) c.loop-info.invariant)
  | else-is_chosen w ↦
      rw (w.nodes-is, w.count-is) (kept_so_far-same c.args.block_stamp c.args.kept c.as_slice-infos.result.now c.loop-info.info-index past_end c.loop-info.nodes c.loop-info.count c.loop-info-test.true (sym c.is_chosen.ensures ∙ w.if-is_chosen.false) c.loop-info.invariant)
]

pub unwrap-requires : goal.unwrap-requires
unwrap-requires c =
    c.new.ensures.made.1 (kept_members_fit c.args.block_stamp c.args.kept c.as_slice-infos.result.now c.loop-info.info-index c.loop-info.nodes c.loop-info.count c.as_slice-infos.ensures.different c.loop-info-test.false c.loop-info.auto.info-index-end c.as_slice-infos.ensures.within_limit c.loop-info.invariant)
