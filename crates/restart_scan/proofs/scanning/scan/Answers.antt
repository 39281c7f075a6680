-- A shelf is scanned.
use Rattle.std.proofs.Common.{refl, ◌∙◌}
use Rattle.restart_scan.proofs.ScanLemmas.{found_told}
use Rattle.restart_scan.proofs.scanning.scan.Goals as goal

pub returns-clause-done : goal.returns-clause-done
returns-clause-done g c =
    found_told (g.S.Shelf.files c.args.shelf.now) (g.S.Shelf.files c.list.new.self) (g.S.Shelf.files c.scan_blocks.new.shelf) c.in_ok-names.names.items c.deref.result.now
    c.in_ok-blocks.blocks.items c.deref-2.result.now c.in_ok-replicas.field-0.replicas.items c.deref-3.result.now c.in_ok-replicas.field-0.moved.items _
    c.list.ensures.files c.in_ok-names.ensures.names c.deref.ensures.value c.in_ok-blocks.ensures c.deref-2.ensures.value c.in_ok-replicas.ensures.done c.deref-3.ensures.value refl refl c.in_ok-strays.ensures

pub returns-clause-untold : goal.returns-clause-untold
returns-clause-untold g c = λ none. c.in_ok-replicas.ensures.untold (c.list.ensures.files ∙ none)
