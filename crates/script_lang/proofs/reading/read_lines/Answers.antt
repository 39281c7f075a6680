-- Line by line.
use Rattle.std.proofs.Common.{ℕ, List, Result, Err, sym, ◌∙◌, ap, subst}
use Rattle.std.proofs.lemmas.Result.{err_from_is_err_and}
use Rattle.script_lang.specs.declared.faults.BadKind.{BadKind}
use Rattle.script_lang.specs.declared.instructions.ScriptLine.{ScriptLine}
use Rattle.script_lang.specs.Words.{lines_of}
use Rattle.script_lang.specs.Fits.{before_of}
use Rattle.script_lang.specs.Scripts.{script_from, Reads}
use Rattle.script_lang.proofs.ScriptLaws.{script_next, script_stops}
use Rattle.script_lang.proofs.reading.read_lines.Goals as goal

pub returns-in_err-take : goal.returns-in_err-take
returns-in_err-take c =
    let o = c.lines.reader in
    let failed = err_from_is_err_and c.from_residual.result c.from_residual.ensures.1 in
    let R : Result (List ScriptLine) (ℕ × BadKind) → Type 0 = λ said. Reads {A = List ScriptLine} (Err c.in_err-take.field-0.0) said in
    let bad = script_stops o.shelves o.number (before_of o.progress) o.lines.items c.split_line.result.0.now (lines_of c.split_line.result.1.now) c.in_err-take.field-0.0 c.in_err-take.ensures.told in
    let whole = ap (script_from o.shelves o.number (before_of o.progress) o.lines.items) (sym c.split_line.ensures.first) ∙ c.lines.invariant in
    rw (failed.1, failed.2) (subst R whole bad)

pub lines-preserved : goal.lines-preserved
lines-preserved c =
    let o = c.lines.reader in
    let n = c.take.new.self in
    let next = script_next o.shelves o.number (before_of o.progress) (before_of n.progress) o.lines.items n.lines.items c.split_line.result.0.now (lines_of c.split_line.result.1.now) c.in_ok-take.ensures.told in
    ap (λ s. script_from s n.number (before_of n.progress) n.lines.items (lines_of c.split_line.result.1.now)) c.in_ok-take.ensures.shelves
    ∙ (ap (λ k. script_from o.shelves k (before_of n.progress) n.lines.items (lines_of c.split_line.result.1.now)) c.in_ok-take.ensures.number
    ∙ (sym next ∙ (ap (script_from o.shelves o.number (before_of o.progress) o.lines.items) (sym c.split_line.ensures.first) ∙ c.lines.invariant)))
