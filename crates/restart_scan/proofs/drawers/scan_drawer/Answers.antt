-- One block's files are scanned.
use Rattle.std.proofs.Common.{◌∙◌, arith}
use Rattle.restart_scan.proofs.DrawerLemmas.{others_told, temporary_told, scans_after}
use Rattle.restart_scan.proofs.drawers.scan_drawer.Goals as goal

pub read_pair-requires : goal.read_pair-requires
read_pair-requires g c =
    others_told (g.F.Files.files c.args.drawer.now) (g.F.Files.files c.names.new.self) c.in_ok-names.field-0.items c.in_ok-names-2.names.others.items c.deref.result.now
    c.names.ensures.files c.in_ok-names.ensures.names c.in_ok-names-2.ensures.others c.deref.ensures.value

pub settle-requires-clause-names : goal.settle-requires-clause-names
settle-requires-clause-names g c =
    temporary_told (g.F.Files.files c.args.drawer.now) (g.F.Files.files c.read_pair.new.drawer) c.in_ok-names.field-0.items c.in_ok-names-2.names.temporary.items c.deref-2.result.now
    (c.read_pair.ensures.kept.same ∙ c.names.ensures.files) c.in_ok-names.ensures.names c.in_ok-names-2.ensures.temporary c.deref-2.ensures.value

pub returns : goal.returns
returns g c =
    scans_after g.F.Files c.args.block c.args.drawer.now c.read_pair.new.drawer c.settle.new.drawer c.settle.result
    (c.read_pair.ensures.kept.same ∙ c.names.ensures.files) (c.read_pair.ensures.kept.log ∙ c.names.ensures.log)
    (omega (arith, c.names.ensures.cause.never_falls, c.read_pair.ensures.cause.never_falls)) c.settle.ensures
