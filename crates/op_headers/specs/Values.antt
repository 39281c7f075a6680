-- What contracts see of messages whose fields are bounded.
use Rattle.std.specs.Prelude.{ℕ, List, Option}
use Rattle.hd_base.specs.declared.numbers.Stamp.{Stamp}
use Rattle.op_headers.specs.declared.blocks.BlockRef.{BlockRef}
use Rattle.op_headers.specs.declared.nodes.NodeRef.{NodeRef}

-- a kind of sums, and how many bytes each is of
pub record ChecksumFields : Type 0 where
  pub kind : ℕ
  pub chunk : ℕ

-- a write request
pub record WriteFields : Type 0 where
  pub block : BlockRef
  pub client : List ℕ
  pub targets : List NodeRef
  pub source : Option NodeRef
  pub stage : ℕ
  pub pipeline : ℕ
  pub min : ℕ
  pub max : ℕ
  pub latest : Stamp
  pub kind : ℕ
  pub chunk : ℕ
