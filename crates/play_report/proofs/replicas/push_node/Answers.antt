-- The node is down, or runs.
use Rattle.std.proofs.Common.{◌≡◌, ◌++◌, Bool, OnOk, sym, subst}
use Rattle.std.specs.Option.{option_copied}
use Rattle.script_lang.specs.declared.report.ReportLine.TheVariants as line
use Rattle.play_report.specs.Replicas.{rows_lines}
use Rattle.play_report.proofs.replicas.push_node.Goals as goal

pub returns-then-not-runs : goal.returns-then-not-runs
returns-then-not-runs c =
    let old = c.args.out.now.items in
    let new = c.append.new.out.items in
    subst (λ (t : Bool). OnOk c.append.result (new ≡ old ++ rows_lines c.args.node.0 t c.args.blocks.now (option_copied c.args.rows))) (sym c.if-not-runs.true)
    c.append.ensures
