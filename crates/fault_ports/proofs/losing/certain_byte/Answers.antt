-- The list says which byte is certain.
use Rattle.fault_ports.proofs.CertainLaws.{certain_at-within, certain_at-past}
use Rattle.fault_ports.proofs.losing.certain_byte.Goals as goal

pub returns-then-i-certain : goal.returns-then-i-certain
returns-then-i-certain c = certain_at-within c.args.certain.now c.args.i c.if-i-certain.true

pub returns-else-i-certain : goal.returns-else-i-certain
returns-else-i-certain c = certain_at-past c.args.certain.now c.args.i c.if-i-certain.false
