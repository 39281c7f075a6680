-- A drawer of an empty shelf has no files, and its block is lent.
use Rattle.std.proofs.Common.{option_map, refl, ap, ◌∙◌}
use Rattle.std.proofs.lemmas.Option.{same_Some}
use Rattle.hd_base.specs.FileMaps.{part_of}
use Rattle.scan_tests.proofs.lives.outlive.Goals as goal

pub new-requires-4 : goal.new-requires-4
new-requires-4 g c name other =
    rw c.new-3.ensures.files
    (ap (λ m. m name) (same_Some _ _ (c.in_ok-drawer.ensures.drawer ∙ ap (option_map (part_of 7)) c.in_ok-shelf.ensures.files)) ∙ rw other refl)

pub give_back-requires : goal.give_back-requires
give_back-requires g c = ap (λ f. f 7) c.in_ok-drawer.ensures.lent
