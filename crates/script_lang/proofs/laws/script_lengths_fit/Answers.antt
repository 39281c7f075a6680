-- Each line keeps the sums within the limit.
use Rattle.script_lang.proofs.WholeLaws.{lengths_fit}
use Rattle.script_lang.proofs.laws.script_lengths_fit.Goals as goal

pub returns-clause-written : goal.returns-clause-written
returns-clause-written c shelves text lines s = (lengths_fit shelves text lines s).0

pub returns-clause-read : goal.returns-clause-read
returns-clause-read c shelves text lines s = (lengths_fit shelves text lines s).1
