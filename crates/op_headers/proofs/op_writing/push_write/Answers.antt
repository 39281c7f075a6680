-- The fields are appended one behind the other, and the numbers have their widths.
use Rattle.std.proofs.Common.{◌≡◌, ◌++◌, subst, arith}
use Rattle.std.specs.Prelude.{OnOk}
use Rattle.std.proofs.lemmas.Result.{on_ok_weaker}
use Rattle.op_headers.specs.Values.{WriteFields}
use Rattle.op_headers.specs.Tables.{EachFits}
use Rattle.op_headers.specs.Formats.{node_format, write_format}
use Rattle.op_headers.proofs.FormatLemmas.{write_fits}
use Rattle.op_headers.proofs.WritingLemmas.{write_appended}
use Rattle.op_headers.proofs.op_writing.push_write.Goals as goal

pub returns-clause-ok : goal.returns-clause-ok
returns-clause-ok c =
    subst (λ (w : WriteFields). OnOk c.put_checksum.result (c.put_checksum.new.out.items ≡ c.args.out.now.items ++ (write_format).text w)) c.op.view_is
    (on_ok_weaker c.put_checksum.result
    (λ e. write_appended _ _ _ _ _ _ _ _ _ _ _ c.as_slice.ensures c.as_slice-2.ensures c.from.ensures c.from-2.ensures
    c.in_ok-put_header.ensures.ok c.in_ok-put_nodes.ensures.ok c.in_ok-put_source.ensures.ok c.in_ok-put_varint.ensures.ok c.in_ok-put_varint-2.ensures.ok
    c.in_ok-put_varint-3.ensures.ok c.in_ok-put_varint-4.ensures.ok c.in_ok-put_varint-5.ensures.ok e)
    c.put_checksum.ensures.ok)

pub returns-clause-fits : goal.returns-clause-fits
returns-clause-fits c =
    subst (λ (w : WriteFields). OnOk c.put_checksum.result ((write_format).fits w)) c.op.view_is
    (on_ok_weaker c.put_checksum.result
    (λ low. write_fits _ c.in_ok-put_header.ensures.fits (subst (EachFits (node_format).fits) c.as_slice-2.ensures c.in_ok-put_nodes.ensures.fits) c.in_ok-put_source.ensures.fits
    (record { stage = c.op.invariant.0; pipeline = omega arith; min = omega arith; max = omega arith; latest = omega arith; kind = c.op.invariant.1; chunk = low }))
    c.put_checksum.ensures.fits)
