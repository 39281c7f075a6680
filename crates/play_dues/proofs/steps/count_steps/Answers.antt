-- Those of the writers, those of the readers, and those of the primaries.
use Rattle.std.proofs.Common.{length, ap, ◌∙◌}
use Rattle.play_dues.specs.Own.{own_listed}
use Rattle.play_dues.specs.Primaries.{primaries_listed}
use Rattle.play_dues.specs.Readers.{readers_listed}
use Rattle.play_dues.proofs.StepLaws.{three_counted}
use Rattle.play_dues.proofs.steps.count_steps.Goals as goal

pub returns-clause-counts : goal.returns-clause-counts
returns-clause-counts g c =
    three_counted (own_listed c.args.clients.now) (readers_listed c.args.reads.now.clients.items) (primaries_listed c.args.recoveries.now.clients.items) c.count_own-own.result c.count_readers-reading.result c.count_primaries.result
    c.count_own-own.ensures (c.count_readers-reading.ensures ∙ ap (λ xs. length (readers_listed xs)) c.as_slice.ensures.value) (c.count_primaries.ensures ∙ ap (λ xs. length (primaries_listed xs)) c.as_slice-2.ensures.value)
