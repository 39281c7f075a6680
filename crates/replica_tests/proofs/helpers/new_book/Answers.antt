-- A drawer of an empty shelf has no files.
use Rattle.std.proofs.Common.{option_map, refl, ap, ◌∙◌}
use Rattle.std.proofs.lemmas.Option.{same_Some}
use Rattle.hd_base.specs.FileMaps.{part_of}
use Rattle.replica_tests.proofs.helpers.new_book.Goals as goal

pub new-requires-3 : goal.new-requires-3
new-requires-3 c name other =
    rw c.new-2.ensures.files
    (ap (λ m. m name) (same_Some _ _ (c.in_ok-drawer.ensures.drawer ∙ ap (option_map (part_of 7)) c.in_ok-shelf.ensures.files)) ∙ rw other refl)
