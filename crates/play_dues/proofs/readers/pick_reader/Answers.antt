-- One client more.
use Rattle.std.proofs.Common.{sym, ◌∙◌}
use Rattle.play_model.specs.declared.dues.Due.TheVariants as due
use Rattle.play_reads.specs.PlayReaders.Clients.{is_new}
use Rattle.play_dues.proofs.CountLaws.{picks_later, picks_past}
use Rattle.play_dues.proofs.readers.pick_reader.Goals as goal
use Rattle.play_dues.proofs.readers.pick_reader.Goals.{then-has_step+else-rest-eq0, else-has_step}

pub loop-client-preserved : goal.loop-client-preserved
loop-client-preserved g c = elim c.if-has_step.branch [
  | then-has_step+else-rest-eq0 w ↦
      rw (w.rest-is)
      (picks_later (λ x. is_new x.state) (λ x. due.Reader x.ask) c.args.clients.now c.loop-client.client-index c.client-item.result c.loop-client-test.true c.client-item.is c.loop-client.rest c.args.number (sym c.has_step.ensures.value ∙ w.if-has_step.true) w.if-rest-eq0.false c.loop-client.invariant)
  | else-has_step w ↦
      rw (w.rest-is)
      (picks_past (λ x. is_new x.state) (λ x. due.Reader x.ask) c.args.clients.now c.loop-client.client-index c.client-item.result c.loop-client-test.true c.client-item.is c.loop-client.rest c.args.number (sym c.has_step.ensures.value ∙ w.if-has_step.false) c.loop-client.invariant)
]
