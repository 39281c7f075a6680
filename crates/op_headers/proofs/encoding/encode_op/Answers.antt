-- What was written spells the request, and is read again.
use Rattle.proto_fields.proofs.WrittenLemmas.{kept_ok, kept_fact}
use Rattle.op_headers.proofs.RequestTextLemmas.{request_spelled, request_written}
use Rattle.op_headers.proofs.encoding.encode_op.Goals as goal

pub returns-clause-spelled : goal.returns-clause-spelled
returns-clause-spelled c =
    let done = c.push_request-done in
    kept_fact c.cut_back.result done.result _ c.cut_back.ensures.same
    (request_spelled done.result c.args.op.now done.ensures.fits c.requires.step c.requires.within_limit)

pub returns-clause-again : goal.returns-clause-again
returns-clause-again c =
    let done = c.push_request-done in
    let old = c.args.out.now.items in
    let ok = kept_ok c.cut_back.result done.result old done.new.out.items c.cut_back.new.out.items _ c.cut_back.ensures.same done.ensures.ok c.cut_back.ensures.ok in
    let spelled = kept_fact c.cut_back.result done.result _ c.cut_back.ensures.same (request_spelled done.result c.args.op.now done.ensures.fits c.requires.step c.requires.within_limit) in
    request_written c.cut_back.result c.args.op.now old c.cut_back.new.out.items ok spelled
