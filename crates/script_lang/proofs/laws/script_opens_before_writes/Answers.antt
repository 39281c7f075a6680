-- A closed block stays closed until a line opens it.
use Rattle.script_lang.proofs.WholeLaws.{opens_before}
use Rattle.script_lang.proofs.laws.script_opens_before_writes.Goals as goal

pub returns : goal.returns
returns c shelves text lines s = opens_before shelves text lines s
