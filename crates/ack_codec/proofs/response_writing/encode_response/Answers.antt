-- What was written spells the response, and is read again.
use Rattle.proto_fields.proofs.WrittenLemmas.{kept_ok, kept_fact}
use Rattle.ack_codec.specs.ResponseTexts.{IsEncodable}
use Rattle.ack_codec.proofs.ResponseTextLemmas.{response_spelled, response_written}
use Rattle.ack_codec.proofs.response_writing.encode_response.Goals as goal
use Rattle.ack_codec.proofs.response_writing.encode_response.Goals.{After-cut_back}

may : (c : After-cut_back) → IsEncodable c.args.response.now
may c = record { listed = c.requires.listed; no_link = c.requires.no_link; listed_kind = c.requires.listed_kind; within_limit = c.requires.within_limit }

pub returns-clause-spelled : goal.returns-clause-spelled
returns-clause-spelled c =
    let done = c.push_response-done in
    kept_fact c.cut_back.result done.result _ c.cut_back.ensures.same
    (response_spelled done.result c.args.response.now done.ensures.status done.ensures.widths (may c))

pub returns-clause-again : goal.returns-clause-again
returns-clause-again c =
    let done = c.push_response-done in
    let old = c.args.out.now.items in
    let ok = kept_ok c.cut_back.result done.result old done.new.out.items c.cut_back.new.out.items _ c.cut_back.ensures.same done.ensures.ok c.cut_back.ensures.ok in
    let spelled = kept_fact c.cut_back.result done.result _ c.cut_back.ensures.same (response_spelled done.result c.args.response.now done.ensures.status done.ensures.widths (may c)) in
    response_written c.cut_back.result c.args.response.now old c.cut_back.new.out.items ok spelled
