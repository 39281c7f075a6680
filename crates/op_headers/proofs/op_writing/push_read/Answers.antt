-- The numbers have their widths.
use Rattle.std.proofs.Common.{arith}
use Rattle.std.proofs.lemmas.Result.{on_ok_weaker}
use Rattle.op_headers.proofs.FormatLemmas.{read_fits}
use Rattle.op_headers.proofs.op_writing.push_read.Goals as goal

pub returns-clause-fits : goal.returns-clause-fits
returns-clause-fits c = on_ok_weaker c.put_varint-2.result (λ e. read_fits c.args.op.now c.in_ok-put_header.ensures.fits (omega arith) (omega arith)) c.put_varint-2.ensures.ok
