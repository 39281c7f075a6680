-- The law is proved of histories, and of the files' own law on their log.
use Rattle.std.proofs.Common.{arith}
use Rattle.durable_answers.proofs.LawLemmas.{answers-survive}
use Rattle.durable_answers.proofs.laws.answers_survive.Goals as goal

pub returns : goal.returns
returns g c = answers-survive _ (λ drawer. g.met.F.Files.log_makes_files drawer) c.args.schedule.now.nodes c.args.schedule.now.events (omega arith)
