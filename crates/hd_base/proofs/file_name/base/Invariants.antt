-- The last part of the path is the one that what is left leads to.
use Rattle.std.proofs.Common.{◌≡◌, length}
use Rattle.hd_base.specs.Blocks.{behind_slash, base_of}
use Rattle.hd_base.proofs.file_name.base.Given as goal

abbrev pub invariant-parts : goal.invariant-parts
invariant-parts l = behind_slash l.base l.rest ≡ base_of l.fn.name

abbrev pub decreases-parts : goal.decreases-parts
decreases-parts l = length l.rest
