-- The report is written, or a fault has its cause.
use Rattle.std.proofs.Common.{◌≡◌, [], ◌∷◌, Err, length, refl, ap, ◌∙◌, arith}
use Rattle.std.specs.Prelude.{map, flat_map}
use Rattle.std.proofs.lemmas.Result.{err_from_is_err_and}
use Rattle.play_scripts.proofs.NodeOpening.ListLemmas.{if_err}
use Rattle.script_lang.specs.declared.report.ReportLine.TheVariants as line
use Rattle.play_report.specs.declared.faults.ReportFault.TheVariants as fault
use Rattle.play_report.specs.Answers.{client_lines}
use Rattle.play_report.specs.Reads.{client_read}
use Rattle.play_report.specs.Recoveries.{client_recovery, merged}
use Rattle.play_report.specs.Replicas.{all_lines}
use Rattle.play_report.specs.Rows.{IsNodesFault}
use Rattle.play_report.proofs.ReportLemmas.{report_is, four_parts, same_lines}
use Rattle.play_report.proofs.RowLemmas.{rewritten, nodes_left_as, nodes_fault_as, nodes_rows_as}
use Rattle.play_report.proofs.report.report_lines.Goals as goal

pub returns-in_err-all-clause-kept : goal.returns-in_err-all-clause-kept
returns-in_err-all-clause-kept g c =
    let v = c.args.nodes.now.nodes in
    let is : v.len ≡ length v.items = omega (arith, v.ok.0) in
    record { blocks = refl; connections = refl; nodes = nodes_left_as g.F.Files v.len c.as_mut_slice.result.now v.items c.all_rows.new.nodes c.as_mut_slice.ensures.value is c.all_rows.ensures.kept }

pub returns-in_err-all-clause-cause : goal.returns-in_err-all-clause-cause
returns-in_err-all-clause-cause g c =
    let v = c.args.nodes.now.nodes in
    let is : v.len ≡ length v.items = omega (arith, v.ok.0) in
    let why = c.in_err-all.field-0.0 in
    let e = err_from_is_err_and c.from_residual.result c.from_residual.ensures.1 in
    if_err c.from_residual.result why (IsNodesFault g.F.Files v.items (rewritten v.len v.items c.all_rows.new.nodes)) (e.1 ∙ ap Err e.2)
    (nodes_fault_as g.F.Files v.len c.as_mut_slice.result.now v.items c.all_rows.new.nodes why c.as_mut_slice.ensures.value is c.all_rows.ensures.kept c.in_err-all.ensures.cause)

pub returns-in_err-push_nodes-clause-kept : goal.returns-in_err-push_nodes-clause-kept
returns-in_err-push_nodes-clause-kept g c =
    let v = c.args.nodes.now.nodes in
    let is : v.len ≡ length v.items = omega (arith, v.ok.0) in
    record { blocks = refl; connections = refl; nodes = nodes_left_as g.F.Files v.len c.as_mut_slice.result.now v.items c.all_rows.new.nodes c.as_mut_slice.ensures.value is c.all_rows.ensures.kept }

pub returns-in_err-push_nodes-clause-cause : goal.returns-in_err-push_nodes-clause-cause
returns-in_err-push_nodes-clause-cause g c =
    let v = c.args.nodes.now.nodes in
    let e = err_from_is_err_and c.from_residual-in_err-push_nodes.result c.from_residual-in_err-push_nodes.ensures.1 in
    if_err c.from_residual-in_err-push_nodes.result fault.Memory (IsNodesFault g.F.Files v.items (rewritten v.len v.items c.all_rows.new.nodes)) (e.1 ∙ ap Err e.2) tt

pub returns-in_err-push_clients-clause-kept : goal.returns-in_err-push_clients-clause-kept
returns-in_err-push_clients-clause-kept g c =
    let v = c.args.nodes.now.nodes in
    let is : v.len ≡ length v.items = omega (arith, v.ok.0) in
    record { blocks = refl; connections = refl; nodes = nodes_left_as g.F.Files v.len c.as_mut_slice.result.now v.items c.all_rows.new.nodes c.as_mut_slice.ensures.value is c.all_rows.ensures.kept }

pub returns-in_err-push_clients-clause-cause : goal.returns-in_err-push_clients-clause-cause
returns-in_err-push_clients-clause-cause g c =
    let v = c.args.nodes.now.nodes in
    let e = err_from_is_err_and c.from_residual-in_err-push_clients.result c.from_residual-in_err-push_clients.ensures.1 in
    if_err c.from_residual-in_err-push_clients.result fault.Memory (IsNodesFault g.F.Files v.items (rewritten v.len v.items c.all_rows.new.nodes)) (e.1 ∙ ap Err e.2) tt

pub returns-in_err-push_asked-clause-kept : goal.returns-in_err-push_asked-clause-kept
returns-in_err-push_asked-clause-kept g c =
    let v = c.args.nodes.now.nodes in
    let is : v.len ≡ length v.items = omega (arith, v.ok.0) in
    record { blocks = refl; connections = refl; nodes = nodes_left_as g.F.Files v.len c.as_mut_slice.result.now v.items c.all_rows.new.nodes c.as_mut_slice.ensures.value is c.all_rows.ensures.kept }

pub returns-in_err-push_asked-clause-cause : goal.returns-in_err-push_asked-clause-cause
returns-in_err-push_asked-clause-cause g c =
    let v = c.args.nodes.now.nodes in
    let e = err_from_is_err_and c.from_residual-in_err-push_asked.result c.from_residual-in_err-push_asked.ensures.1 in
    if_err c.from_residual-in_err-push_asked.result fault.Memory (IsNodesFault g.F.Files v.items (rewritten v.len v.items c.all_rows.new.nodes)) (e.1 ∙ ap Err e.2) tt

pub returns-in_err-append-clause-kept : goal.returns-in_err-append-clause-kept
returns-in_err-append-clause-kept g c =
    let v = c.args.nodes.now.nodes in
    let is : v.len ≡ length v.items = omega (arith, v.ok.0) in
    record { blocks = refl; connections = refl; nodes = nodes_left_as g.F.Files v.len c.as_mut_slice.result.now v.items c.all_rows.new.nodes c.as_mut_slice.ensures.value is c.all_rows.ensures.kept }

pub returns-in_err-append-clause-cause : goal.returns-in_err-append-clause-cause
returns-in_err-append-clause-cause g c =
    let v = c.args.nodes.now.nodes in
    let e = err_from_is_err_and c.from_residual-in_err-append.result c.from_residual-in_err-append.ensures.1 in
    if_err c.from_residual-in_err-append.result fault.Memory (IsNodesFault g.F.Files v.items (rewritten v.len v.items c.all_rows.new.nodes)) (e.1 ∙ ap Err e.2) tt

pub returns-clause-report : goal.returns-clause-report
returns-clause-report g c =
    let n = c.args.nodes.now in
    let lines = c.args.lines.now in
    let all = c.in_ok-all.all.items in
    report_is g.F.Files g.I.LinkIn g.O.LinkOut c.args.count c.args.running.now n c.args.clients.now c.args.reads.now c.args.recoveries.now lines all c.append.new.out.items
    (nodes_rows_as g.F.Files c.args.count c.args.running.now c.as_mut_slice.result.now n.nodes.items all c.as_mut_slice.ensures.value c.in_ok-all.ensures.rows)
    (four_parts c.new-report.result.items c.push_nodes.new.out.items c.push_clients.new.out.items c.push_asked.new.out.items c.append.new.out.items
    ((all_lines c.args.running.now c.as_slice.result.now c.as_slice-2.result.now c.args.count)) ((flat_map (λ x. client_lines lines x) c.args.clients.now)) ((merged (map client_read c.args.reads.now) (map client_recovery c.args.recoveries.now) lines)) ((all_lines c.args.running.now n.blocks.items all c.args.count)) (line.End ∷ [])
    c.new-report.ensures.items c.in_ok-push_nodes.ensures (same_lines c.args.running.now n.blocks.items c.as_slice.result.now all c.as_slice-2.result.now c.args.count c.as_slice.ensures.value c.as_slice-2.ensures.value)
    c.in_ok-push_clients.ensures c.in_ok-push_asked.ensures c.in_ok-append.ensures)

pub returns-clause-kept : goal.returns-clause-kept
returns-clause-kept g c =
    let v = c.args.nodes.now.nodes in
    let is : v.len ≡ length v.items = omega (arith, v.ok.0) in
    record { blocks = refl; connections = refl; nodes = nodes_left_as g.F.Files v.len c.as_mut_slice.result.now v.items c.all_rows.new.nodes c.as_mut_slice.ensures.value is c.all_rows.ensures.kept }
