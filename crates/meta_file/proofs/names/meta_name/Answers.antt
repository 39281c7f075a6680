-- The name is of its block, as it is printed.
use Rattle.std.proofs.Common.{arith}
use Rattle.meta_file.proofs.NameLemmas.{is_of_block-meta}
use Rattle.meta_file.proofs.names.meta_name.Goals as goal

pub returns-clause-block : goal.returns-clause-block
returns-clause-block c =
    rw (c.push_sums.ensures, c.path-name.ensures.path) (is_of_block-meta c.args.folder c.args.block.0 c.args.stamp.0 (omega arith) (omega arith))
