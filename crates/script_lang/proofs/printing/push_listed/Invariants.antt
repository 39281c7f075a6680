-- The nodes so far are appended.
use Rattle.std.proofs.Common.{◌≡◌, ◌++◌, take}
use Rattle.script_lang.specs.Reports.{listed}
use Rattle.script_lang.proofs.printing.push_listed.Given as goal

abbrev pub invariant-nodes : goal.invariant-nodes
invariant-nodes l = l.out.items ≡ l.fn.out.items ++ listed (take l.node-index l.nodes)
