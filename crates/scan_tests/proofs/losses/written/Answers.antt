-- New files are none.
use Rattle.std.proofs.Common.{ap}
use Rattle.std.proofs.lemmas.Option.{same_Some}
use Rattle.scan_tests.proofs.losses.written.Goals as goal

pub new-requires-2 : goal.new-requires-2
new-requires-2 g c name other = ap (λ m. m name) (same_Some _ _ c.in_ok-new.ensures.files)
