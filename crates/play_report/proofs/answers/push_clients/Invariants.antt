-- The answers to the clients so far are appended.
use Rattle.std.proofs.Common.{◌≡◌, ◌++◌, take}
use Rattle.std.specs.Prelude.{flat_map}
use Rattle.play_report.specs.Answers.{client_lines}
use Rattle.play_report.proofs.answers.push_clients.Given as goal

abbrev pub invariant-loop-client : goal.invariant-loop-client
invariant-loop-client g l = l.out.items ≡ l.fn.out.items ++ flat_map (λ c. client_lines l.lines c) (take l.client-index l.clients)
