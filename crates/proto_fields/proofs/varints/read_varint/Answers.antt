-- Each clause from what the recursion ensures, by the laws of varints.
use Rattle.std.proofs.Common.{arith}
use Rattle.proto_fields.proofs.VarintLemmas.{read_found, read_only, read_fault, read_fault_is, read_varint_cut, read_varint_cut_is, read_varint_long, read_varint_long_is}
use Rattle.proto_fields.proofs.varints.read_varint.Goals as goal

pub returns-clause-found : goal.returns-clause-found
returns-clause-found c = read_found c.args.bytes.now _ c.varint_of.ensures.exact (λ i. omega (arith, c.type_inv.bytes i))

pub returns-clause-only : goal.returns-clause-only
returns-clause-only c = read_only c.args.bytes.now _ c.varint_of.ensures.exact

pub returns-clause-short : goal.returns-clause-short
returns-clause-short c = (
  λ h. read_varint_cut_is _ (read_fault_is c.args.bytes.now _ c.varint_of.ensures.exact _ h),
  λ s. read_fault c.args.bytes.now _ c.varint_of.ensures.exact _ (read_varint_cut _ s),
)

pub returns-clause-long : goal.returns-clause-long
returns-clause-long c = (
  λ h. read_varint_long_is _ (read_fault_is c.args.bytes.now _ c.varint_of.ensures.exact _ h),
  λ s. read_fault c.args.bytes.now _ c.varint_of.ensures.exact _ (read_varint_long _ s),
)
