-- The block's numbers have their widths.
use Rattle.std.proofs.lemmas.Result.{on_ok_weaker}
use Rattle.op_headers.proofs.FormatLemmas.{checksum_op_fits}
use Rattle.op_headers.proofs.op_writing.push_checksum.Goals as goal

pub returns-clause-fits : goal.returns-clause-fits
returns-clause-fits c = on_ok_weaker c.put_bytes.result (λ e. checksum_op_fits c.args.op.now c.in_ok-push_base.ensures.fits) c.put_bytes.ensures.ok
