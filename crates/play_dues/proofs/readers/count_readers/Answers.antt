-- One client more.
use Rattle.std.proofs.Common.{sym, ◌∙◌, arith}
use Rattle.play_model.specs.declared.dues.Due.TheVariants as due
use Rattle.play_reads.specs.PlayReaders.Clients.{is_new}
use Rattle.play_dues.proofs.CountLaws.{counts_one, counts_none}
use Rattle.play_dues.proofs.readers.count_readers.Goals as goal
use Rattle.play_dues.proofs.readers.count_readers.Goals.{then-has_step, else-has_step}

pub loop-client-preserved : goal.loop-client-preserved
loop-client-preserved g c = elim c.if-has_step.branch [
  | then-has_step w ↦
      let le = c.loop-client.invariant.1 in
      rw (w.count-is)
      (counts_one (λ x. is_new x.state) (λ x. due.Reader x.ask) c.args.clients.now c.loop-client.client-index c.client-item.result c.loop-client-test.true c.client-item.is c.loop-client.count (sym c.has_step.ensures.value ∙ w.if-has_step.true) c.loop-client.invariant.0, omega arith)
  | else-has_step w ↦
      let le = c.loop-client.invariant.1 in
      rw (w.count-is)
      (counts_none (λ x. is_new x.state) (λ x. due.Reader x.ask) c.args.clients.now c.loop-client.client-index c.client-item.result c.loop-client-test.true c.client-item.is c.loop-client.count (sym c.has_step.ensures.value ∙ w.if-has_step.false) c.loop-client.invariant.0, omega arith)
]
