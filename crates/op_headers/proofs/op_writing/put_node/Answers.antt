-- The ports have their widths.
use Rattle.std.proofs.lemmas.Result.{on_ok_weaker}
use Rattle.op_headers.proofs.FormatLemmas.{node_fits}
use Rattle.op_headers.proofs.op_writing.put_node.Goals as goal

pub returns-clause-fits : goal.returns-clause-fits
returns-clause-fits c =
    let ports = c.in_ok-push_identity.ensures.fits in
    on_ok_weaker c.put_bytes-2.result (λ e. node_fits c.args.node.now ports.0 ports.1 ports.2) c.put_bytes-2.ensures.ok
