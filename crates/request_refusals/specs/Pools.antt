-- The block pool.
use Rattle.std.specs.Prelude.{◌==◌, Bool}
use Rattle.std.specs.Cmp.Lexicographic.{pointwise}
use Rattle.hd_base.specs.Blocks.{block_pool}
use Rattle.op_headers.specs.declared.blocks.BlockRef.{BlockRef}

-- a block of the one block pool
unfoldable pub is_in_pool : BlockRef → Bool
is_in_pool block = pointwise ◌==◌ block.pool block_pool
