-- A drawer of an empty shelf has no files.
use Rattle.std.proofs.Common.{option_map, refl, ap, ◌∙◌}
use Rattle.std.proofs.lemmas.Option.{same_Some}
use Rattle.hd_base.specs.FileMaps.{part_of}
use Rattle.read_tests.proofs.helpers.absent.Goals as goal

pub new-requires-2 : goal.new-requires-2
new-requires-2 c name other =
    ap (λ m. m name) (same_Some _ _ (c.in_ok-drawer.ensures.drawer ∙ ap (option_map (part_of 7)) c.in_ok-shelf.ensures.files)) ∙ rw other refl
