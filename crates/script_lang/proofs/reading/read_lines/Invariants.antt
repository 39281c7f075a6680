-- What is left leads to the same script, and has one line less each time.
use Rattle.std.proofs.Common.{◌≡◌, [], length}
use Rattle.script_lang.specs.Words.{lines_of}
use Rattle.script_lang.specs.Fits.{start, before_of}
use Rattle.script_lang.specs.Scripts.{script_from}
use Rattle.script_lang.proofs.reading.read_lines.Given as goal

abbrev pub invariant-lines : goal.invariant-lines
invariant-lines l = script_from l.reader.shelves l.reader.number (before_of l.reader.progress) l.reader.lines.items (lines_of l.rest) ≡ script_from l.fn.shelves 1 start [] (lines_of l.fn.text)

abbrev pub decreases-lines : goal.decreases-lines
decreases-lines l = length l.rest
