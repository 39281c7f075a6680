use Rattle.std.proofs.Common.{arith}
use Rattle.chunk_sums.proofs.TableLemmas.{get_or-ieee}
use Rattle.chunk_sums.proofs.tables.Crc32Polynomial.entry.Goals as goal

pub returns : goal.returns
returns c = get_or-ieee c.args.row c.args.byte c.requires (omega arith)
