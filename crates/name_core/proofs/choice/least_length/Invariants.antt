-- The least length of the candidates that are kept among the infos so far.
use Rattle.std.proofs.Common.{◌≡◌, take}
use Rattle.name_core.specs.Choice.{kept_lengths, least}
use Rattle.name_core.proofs.choice.least_length.Given as goal

abbrev pub invariant-loop-info : goal.invariant-loop-info
invariant-loop-info l = l.least ≡ least (kept_lengths l.block_stamp l.kept (take l.info-index l.infos))
