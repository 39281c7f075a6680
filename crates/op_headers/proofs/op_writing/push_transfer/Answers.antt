-- The numbers have their widths.
use Rattle.std.proofs.Common.{subst}
use Rattle.std.proofs.lemmas.Result.{on_ok_weaker}
use Rattle.op_headers.specs.Tables.{EachFits}
use Rattle.op_headers.specs.Formats.{node_format}
use Rattle.op_headers.proofs.FormatLemmas.{transfer_fits}
use Rattle.op_headers.proofs.op_writing.push_transfer.Goals as goal

pub returns-clause-fits : goal.returns-clause-fits
returns-clause-fits c =
    on_ok_weaker c.put_nodes.result (λ h. transfer_fits c.args.op.now c.in_ok-put_header.ensures.fits (subst (EachFits (node_format).fits) c.as_slice-2.ensures h)) c.put_nodes.ensures.fits
