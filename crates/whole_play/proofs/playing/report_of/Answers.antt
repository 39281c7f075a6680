-- The report, and the first difference, are those of the world that is shown.
use Rattle.std.proofs.Common.{Bool, List, ap, subst, sym, ◌∙◌}
use Rattle.std.proofs.lemmas.Result.{err_from_is_err_and}
use Rattle.hd_base.specs.declared.numbers.BlockId.{BlockId}
use Rattle.play_report.proofs.NodeOpening.ListLemmas.{if_err}
use Rattle.play_report.specs.PlayScripts.Blocks.{numbers}
use Rattle.play_report.specs.PlayClients.Client.{Client}
use Rattle.play_report.specs.PlayPrimaries.PrimaryClient.{PrimaryClient}
use Rattle.play_report.specs.PlayReaders.ReadClient.{ReadClient}
use Rattle.play_report.specs.Expecting.{differing}
use Rattle.play_report.specs.Reports.{NodesAre, ClientsAre, ReadersAre, PrimariesAre}
use Rattle.whole_play.specs.declared.faults.RunFault.{RunFault}
use Rattle.whole_play.specs.Playing.{IsReportFault}
use Rattle.whole_play.proofs.FaultLemmas.{report_fault}
use Rattle.whole_play.proofs.playing.report_of.Goals as goal

pub returns-in_err-report-clause-cause : goal.returns-in_err-report-clause-cause
returns-in_err-report-clause-cause g c =
    let old = c.args.playing.now in
    let new = record old { player = record old.player { nodes = c.report_lines.new.nodes } } in
    let e = err_from_is_err_and c.from_residual.result c.from_residual.ensures.1 in
    if_err c.from_residual.result e.0 (IsReportFault g.F.Files new) e.1 (subst (λ (why : RunFault). IsReportFault g.F.Files new why) (sym e.2) (report_fault g.F.Files old new c.in_err-report.field-0.0 c.in_err-report.ensures.cause))

pub returns-clause-told : goal.returns-clause-told
returns-clause-told g c = λ w net are clients readers primaries.
    let count = c.args.playing.now.nodes in
    let runs = c.args.playing.now.player.running.items in
    let old = c.args.playing.now.player.nodes in
    let new = c.report_lines.new.nodes in
    let kept = c.in_ok-report.ensures.kept in
    let still : NodesAre g.I.LinkIn g.O.LinkOut count runs w net new = record { show = c.reports_keep_nodes.ensures.show w net old new kept are.show; count_is = are.count_is; tells = are.tells } in
    record {
      report = λ tell. c.reports_are_true.ensures count runs w net old c.args.script.now c.in_ok-report.report.items are (λ node place book at. tell book.drawer)
          (c.in_ok-report.ensures.report w net (subst (λ (rs : List Bool). NodesAre g.I.LinkIn g.O.LinkOut count rs w net old) (sym c.deref.ensures.value) are)
          (subst (λ (cs : List (Client g.row.I.Denot g.row.O.Denot)). ClientsAre w old cs) (sym c.deref-2.ensures.value) clients)
          (subst (λ (rs : List (ReadClient g.row.I.Denot g.row.O.Denot)). ReadersAre g.I.LinkIn g.O.LinkOut w net rs c.args.script.now) (sym c.deref-3.ensures.value) readers)
          (subst (λ (ps : List (PrimaryClient g.row.I.Denot g.row.O.Denot)). PrimariesAre g.I.LinkIn g.O.LinkOut w net ps c.args.script.now) (sym c.deref-4.ensures.value) primaries));
      difference = c.first_difference-difference.ensures w net (subst (λ (rs : List Bool). NodesAre g.I.LinkIn g.O.LinkOut count rs w net new) (sym c.deref-5.ensures.value) still)
          ∙ ap (λ (bs : List BlockId). differing w (numbers bs) c.args.script.now) kept.blocks;
    }
