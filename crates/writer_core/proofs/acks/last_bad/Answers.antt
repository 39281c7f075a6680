-- One reply more.
use Rattle.std.proofs.Common.{Some, if◌then◌else◌, get_or, sym, ap, ◌∙◌}
use Rattle.hd_base.specs.declared.states.Status.TheVariants.{Success}
use Rattle.writer_core.specs.Phases.{is_success}
use Rattle.writer_core.proofs.AckLemmas.{last_bad_along}
use Rattle.writer_core.proofs.acks.last_bad.Goals as goal

pub loop-i-preserved : goal.loop-i-preserved
loop-i-preserved c =
    let more = last_bad_along c.args.replies.now c.loop-i.i _ c.loop-i-test.true in
    c.last_bad_with-last.ensures
    ∙ (ap (λ l. if is_success (get_or c.args.replies.now c.loop-i.i Success) then l else Some c.loop-i.i) c.loop-i.invariant ∙ sym more)
