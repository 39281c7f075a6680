-- The one script that the text is, or its first bad line and why.
use Rattle.script_lang.proofs.GrammarLaws.{answer_found, answer_only, answer_bad, answer_refuses}
use Rattle.script_lang.proofs.reading.read_script.Goals as goal

pub returns-clause-found : goal.returns-clause-found
returns-clause-found c = answer_found c.args.shelves c.args.bytes.now c.read_text.result c.read_text.ensures

pub returns-clause-only : goal.returns-clause-only
returns-clause-only c lines s = answer_only c.args.shelves c.args.bytes.now c.read_text.result lines c.read_text.ensures s

pub returns-clause-bad : goal.returns-clause-bad
returns-clause-bad c = answer_bad c.args.shelves c.args.bytes.now c.read_text.result c.read_text.ensures

pub returns-clause-refused : goal.returns-clause-refused
returns-clause-refused c line kind b = answer_refuses c.args.shelves c.args.bytes.now c.read_text.result line kind c.read_text.ensures b
