-- The pipeline of a block that has a client.
use Rattle.std.proofs.Common.{rules, ◌≡◌, ◌∙◌, subst}
use Rattle.play_opening.specs.PlayDues.Places.{client_place}
use Rattle.play_lines.proofs.Stepped.{for_client}
use Rattle.play_lines.proofs.playing.Playing.due_for.Goals as goal

pub returns : goal.returns
returns g c =
    c.due_behind.ensures ∙ for_client c.args.self.now c.args.block c.args.event c.client_of.result c.in_ok-client_of.field-0
    (subst (λ xs. c.client_of.result ≡ client_place xs c.args.block.0) c.as_slice.ensures.value c.client_of.ensures) (search rules)
