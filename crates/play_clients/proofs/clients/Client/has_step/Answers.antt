-- A writer that was given nothing takes a command, where there is one.
use Rattle.std.proofs.Common.{ℕ, ap, ◌∙◌}
use Rattle.std.specs.Prelude.{◌==◌}
use Rattle.play_clients.proofs.CourseLaws.{nil_length, unmade_has_step}
use Rattle.play_clients.proofs.clients.Client.has_step.Goals as goal

pub returns-in-None : goal.returns-in-None
returns-in-None g c = unmade_has_step c.args.self.now c.is_empty-in-None.result c.in-None.is (c.is_empty-in-None.ensures ∙ (ap (λ (n : ℕ). n == 0) c.args.self.now.queue.ok.0 ∙ nil_length c.args.self.now.queue.items))
