-- The record of a book's replica counts its bytes.
use Rattle.std.proofs.Common.{sym, ap, ◌∙◌}
use Rattle.replica_core.specs.Views.{written_in}
use Rattle.play_nodes.proofs.events.written_of.Goals as goal

pub returns : goal.returns
returns g c = c.written.ensures ∙ (ap written_in (c.replica.ensures.replica ∙ c.replica.ensures.kept.known) ∙ sym c.replica.ensures.kept.held.full.all)
