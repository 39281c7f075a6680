-- One line more.
use Rattle.std.proofs.lemmas.List.{drop_all}
use Rattle.play_scripts.proofs.PlayNodes.PlaceLaws.{element_some}
use Rattle.play_report.specs.Reads.{client_read}
use Rattle.play_report.specs.Recoveries.{client_recovery}
use Rattle.play_report.proofs.AnswerLemmas.{drop_at}
use Rattle.play_report.proofs.RecoveryLemmas.{next_asked, all_asked}
use Rattle.play_report.proofs.recoveries.push_asked.Goals as goal

pub loop-line-preserved : goal.loop-line-preserved
loop-line-preserved g c =
    let k = c.loop-line.line-index in
    let l = c.line-item.result in
    let lines = c.args.lines.now in
    next_asked client_read client_recovery _ c.loop-line.out.items c.push_next.new.out.items c.loop-line.reads.now c.in_ok-next_reads.next_reads.now c.loop-line.recoveries.now c.in_ok-next_reads.next_recoveries.now l _ _
    (drop_at lines k l (element_some lines k l c.loop-line-test.true c.line-item.is)) c.loop-line.invariant
    c.in_ok-next_reads.ensures.lines c.in_ok-next_reads.ensures.reads c.in_ok-next_reads.ensures.recoveries

pub returns : goal.returns
returns g c =
    all_asked client_read client_recovery _ c.loop-line.out.items c.loop-line.reads.now c.loop-line.recoveries.now _ (drop_all c.loop-line.line-index c.args.lines.now c.loop-line-test.false) c.loop-line.invariant
