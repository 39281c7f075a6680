-- The bytes are those of the files.
use Rattle.std.proofs.Common.{false, refl, ap, ◌∙◌, arith}
use Rattle.replica_model.specs.Histories.{replay}
use Rattle.replica_core.specs.Info.{settled_at}
use Rattle.replica_core.specs.Transitions.{found}
use Rattle.replica_files.proofs.BookLemmas.{book_as}
use Rattle.replica_files.proofs.FindLemmas.{begun_with, found_bytes, found_held}
use Rattle.replica_files.proofs.book.ReplicaBook.found.Goals as goal

pub invariant_of-result : goal.invariant_of-result
invariant_of-result g c =
    let r = begun_with c.args.block c.args.state c.args.stamp c.args.sums c.in-Ok.found.0 in
    book_as g.F.Files _ c.read_found.new.drawer c.args.block c.in-Ok.found.1 false r refl refl refl refl (ap (replay r) c.new.ensures.items)
    (c.in-Ok-found.ensures ∙ ap (λ n. found c.args.block (settled_at c.args.state c.args.stamp c.args.sums n)) c.len-len.ensures.value)
    (found_held g.F.Files c.args.drawer c.read_found.new.drawer c.args.block c.args.state c.args.stamp c.args.sums c.in-Ok.found.0 c.in-Ok.found.1 (omega arith) (omega arith)
    (record { least = omega arith; greatest = omega arith }) c.in-Ok.ensures.bytes c.in-Ok.ensures.kept
    (found_bytes (g.F.Files.files c.args.drawer) c.args.block c.args.state c.args.stamp c.args.sums c.in-Ok.found.0 c.requires.held
    (rw (c.new-names.ensures, c.folder_of.ensures) at c.in-Ok.ensures.value)) c.in-Ok.ensures.last)
    (λ broke. absurd (cc))

pub returns-clause-made : goal.returns-clause-made
returns-clause-made g c =
    record {
      bytes = c.in-Ok.found.0;
      of_block = refl;
      start = refl;
      entries = c.new.ensures.items;
      files = c.in-Ok.ensures.kept.same;
      log = c.in-Ok.ensures.kept.log;
      held = found_bytes (g.F.Files.files c.args.drawer) c.args.block c.args.state c.args.stamp c.args.sums c.in-Ok.found.0 c.requires.held
          (rw (c.new-names.ensures, c.folder_of.ensures) at c.in-Ok.ensures.value);
    }
