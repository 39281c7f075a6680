-- The names of all files, and room for the new ones.
use Rattle.std.proofs.Common.{Option, IfSome, subst, sym, ◌∙◌}
use Rattle.hd_base.specs.FileMaps.{FileMap, AreNamesOf}
use Rattle.replica_files.proofs.book_state.BookState.prepare_new.Goals as goal

pub returns-clause-ready : goal.returns-clause-ready
returns-clause-ready g c absent =
    record {
      strays_are = subst (λ (o : Option FileMap). IfSome o (λ m. AreNamesOf m c.in_ok-strays.strays.items)) (sym (c.in_ok-secure.ensures.kept.same ∙ c.in_ok-strays.ensures.files)) c.in_ok-strays.ensures.names;
      room = rw c.of-names.ensures at c.in_ok-secure.ensures.covers;
      size = c.requires.size;
    }
