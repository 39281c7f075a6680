-- The name is of its block, as it is printed.
use Rattle.std.proofs.Common.{arith}
use Rattle.meta_file.proofs.NameLemmas.{is_of_block-data}
use Rattle.meta_file.proofs.names.data_name.Goals as goal

pub returns-clause-block : goal.returns-clause-block
returns-clause-block c =
    rw (c.push_block.ensures.text, c.path-name.ensures.path) (is_of_block-data c.args.folder c.args.block.0 (omega arith))
