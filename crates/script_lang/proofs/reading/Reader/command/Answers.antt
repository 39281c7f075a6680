-- What is said is in range.
use Rattle.std.proofs.Common.{ℕ, ◌≤◌, List, Result, Ok, Err, IfOk, sym}
use Rattle.script_lang.specs.declared.faults.Stop.{Stop}
use Rattle.script_lang.specs.declared.instructions.Instruction.{Instruction}
use Rattle.script_lang.specs.Words.{words_of}
use Rattle.script_lang.specs.Rules.{Gives}
use Rattle.script_lang.specs.Said.{body_said}
use Rattle.script_lang.specs.Fits.{IsInRange}
use Rattle.script_lang.proofs.SaidLaws.{body_names, in_range, nodes_few, seed_free}
use Rattle.script_lang.proofs.reading.Reader.command.Goals as goal

body_in_range : (nodes : ℕ) (word : List ℕ) (words : List (List ℕ)) (r : Result Instruction Stop) → nodes ≤ 16 → Gives r (body_said nodes word words) → IfOk r IsInRange
body_in_range nodes word words (Ok i) few e = in_range nodes i few (body_names nodes word words i e)
body_in_range nodes word words (Err stop) few e = tt

pub returns-in_ok-nodes-in-Nodes-clause-in_range : goal.returns-in_ok-nodes-in-Nodes-clause-in_range
returns-in_ok-nodes-in-Nodes-clause-in_range c = nodes_few c.args.self.now.shelves (words_of c.args.rest.now) c.in_ok-nodes-in-Nodes.field-0 (sym c.in_ok-nodes-in-Nodes.ensures)

pub returns-in_ok-seed-in-Seed-clause-in_range : goal.returns-in_ok-seed-in-Seed-clause-in_range
returns-in_ok-seed-in-Seed-clause-in_range c = seed_free (words_of c.args.rest.now) c.in_ok-seed-in-Seed.field-0 (sym c.in_ok-seed-in-Seed.ensures)

pub returns-in-Body-clause-in_range : goal.returns-in-Body-clause-in_range
returns-in-Body-clause-in_range c = body_in_range c.args.self.now.progress.nodes c.args.word.now (words_of c.args.rest.now) c.body.result c.args.self.now.progress.few c.body.ensures
