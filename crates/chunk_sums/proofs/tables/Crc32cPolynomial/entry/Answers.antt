use Rattle.std.proofs.Common.{arith}
use Rattle.chunk_sums.proofs.TableLemmas.{get_or-castagnoli}
use Rattle.chunk_sums.proofs.tables.Crc32cPolynomial.entry.Goals as goal

pub returns : goal.returns
returns c = get_or-castagnoli c.args.row c.args.byte c.requires (omega arith)
