-- There is a line to tell, or none.
use Rattle.std.proofs.Common.{◌≡◌, ◌++◌, Option, OnOk, sym, subst}
use Rattle.script_lang.specs.declared.report.Answer.{Answer}
use Rattle.script_lang.specs.declared.report.ReportLine.TheVariants as line
use Rattle.play_report.specs.Answers.{answer_line}
use Rattle.play_report.proofs.AppendLemmas.{none_appended}
use Rattle.play_report.proofs.answers.push_answer.Goals as goal

pub returns-in-Some : goal.returns-in-Some
returns-in-Some c =
    let old = c.args.out.now.items in
    let new = c.append.new.out.items in
    subst (λ (a : Option Answer). OnOk c.append.result (new ≡ old ++ answer_line c.args.block.0 c.args.ordinal a)) (sym c.in-Some.is)
    c.append.ensures

pub returns-in-None : goal.returns-in-None
returns-in-None c =
    let old = c.args.out.now.items in
    subst (λ (a : Option Answer). old ≡ old ++ answer_line c.args.block.0 c.args.ordinal a) (sym c.in-None.is) (none_appended old)
