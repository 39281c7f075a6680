-- The seqno takes at most eleven bytes, and each reply at most six.
use Rattle.std.proofs.Common.{◌≡◌, ◌^◌, ◌<◌, ◌≤◌, ◌++◌, List, length, subst, ap, sym, ◌∙◌, append-nil, length-append, arith, rules}
use Rattle.std.specs.Prelude.{FitsSigned}
use Rattle.std.specs.Int.{w64}
use Rattle.std.proofs.lemmas.Int.{to_z-of_z}
use Rattle.std.specs.List.{flat_map}
use Rattle.hd_base.specs.declared.states.Status.{Status}
use Rattle.std.proofs.lemmas.List.{take_all}
use Rattle.proto_fields.specs.Writing.{varint_field}
use Rattle.ack_codec.specs.AckTexts.{zigzag, reply_text, ack_message}
use Rattle.ack_codec.proofs.AckTextLemmas.{varint_field_few, varint_field_most, reply_more, low_more}
use Rattle.ack_codec.proofs.encoding.put_message.Goals as goal

pub push_field-requires : goal.push_field-requires
push_field-requires c = omega (arith, varint_field_most 1 c.zigzag_of.result (omega arith) (omega arith))

pub loop-status-init : goal.loop-status-init
loop-status-init c =
    let seqno = c.args.ack.now.seqno in
    let fits : FitsSigned w64 seqno = search rules in
    let number : c.zigzag_of.result ≡ zigzag seqno = c.zigzag_of.ensures ∙ ap zigzag (to_z-of_z w64 seqno fits) in record {
      written = c.push_field.ensures ∙ ap (λ l. c.args.out.now ++ l) (ap (varint_field 1) number ∙ sym (append-nil _));
      few = omega (arith, ap length c.push_field.ensures ∙ length-append c.args.out.now (varint_field 1 c.zigzag_of.result), varint_field_most 1 c.zigzag_of.result (omega arith) (omega arith));
      low = λ k d none. absurd (omega arith);
    }

pub push_field-requires-in-loop-status : goal.push_field-requires-in-loop-status
push_field-requires-in-loop-status c =
    omega (arith, c.loop-status.invariant.few, c.as_slice-status-items.ensures.within_limit, varint_field_few 2 c.from.result (omega arith) (omega arith))

pub loop-status-preserved : goal.loop-status-preserved
loop-status-preserved c =
    let items = c.as_slice-status-items.result.now in
    let i = c.loop-status.status-index in
    let within : i < length items = omega arith in record {
      written = reply_more items i _ c.from.result c.args.out.now _ c.loop-status.out _ within (c.from.ensures ∙ c.number.ensures) c.loop-status.invariant.written c.push_field-in-loop-status.ensures;
      few = omega (arith, c.loop-status.invariant.few, ap length c.push_field-in-loop-status.ensures ∙ length-append c.loop-status.out (varint_field 2 c.from.result), varint_field_few 2 c.from.result (omega arith) (omega arith));
      low = low_more items i _ within (subst (λ n. n < 2 ^ 32) c.number.ensures c.number.type_inv) c.loop-status.invariant.low;
    }

pub returns-clause-message : goal.returns-clause-message
unfolding ack_message
returns-clause-message c =
    let all : length c.as_slice-status-items.result.now ≤ c.loop-status.status-index = omega arith in
    c.loop-status.invariant.written
    ∙ ap (λ (l : List Status). c.args.out.now ++ (varint_field 1 (zigzag c.args.ack.now.seqno) ++ flat_map reply_text l)) (take_all _ _ all ∙ c.as_slice-status-items.ensures.value)
