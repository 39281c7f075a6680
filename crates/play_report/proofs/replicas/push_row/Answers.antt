-- There is a replica, or none.
use Rattle.std.proofs.Common.{◌≡◌, [], ◌∷◌, ◌++◌, Option, OnOk, sym, subst}
use Rattle.replica_core.specs.declared.info.ReplicaInfo.{ReplicaInfo}
use Rattle.hd_base.specs.declared.states.ReplicaState.{ReplicaState}
use Rattle.script_lang.specs.declared.report.ReportLine.TheVariants as line
use Rattle.play_report.specs.Replicas.{info_lines}
use Rattle.play_report.proofs.AppendLemmas.{none_appended}
use Rattle.play_report.proofs.replicas.push_row.Goals as goal

pub returns-in-Some : goal.returns-in-Some
returns-in-Some c =
    let old = c.args.out.now.items in
    let new = c.append.new.out.items in
    let h = c.in-Some.info in
    let l = line.Replica c.args.node c.args.block c.state.result h.stamp h.written h.acked c.args.row.sum in
    subst (λ (i : Option ReplicaInfo). OnOk c.append.result (new ≡ old ++ info_lines c.args.node.0 c.args.block.0 c.args.row.sum i)) (sym c.in-Some.is)
    (subst (λ (s : ReplicaState). OnOk c.append.result (new ≡ old ++ (line.Replica c.args.node c.args.block s h.stamp h.written h.acked c.args.row.sum ∷ []))) c.state.ensures
    c.append.ensures)

pub returns-in-None : goal.returns-in-None
returns-in-None c =
    let old = c.args.out.now.items in
    subst (λ (h : Option ReplicaInfo). old ≡ old ++ info_lines c.args.node.0 c.args.block.0 c.args.row.sum h) (sym c.in-None.is) (none_appended old)
