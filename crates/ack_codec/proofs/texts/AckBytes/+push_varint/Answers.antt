-- The last byte stands for itself, and one before it has seven bits of the number.
use Rattle.std.proofs.Common.{◌≡◌, ◌+◌, ◌/◌, ◌%◌, [], ◌++◌, ◌∷◌, length, ap, sym, ◌∙◌, append_assoc, length-append, arith}
use Rattle.proto_fields.specs.Varint.{least_varint}
use Rattle.proto_fields.proofs.VarintLemmas.{least_varint-last, least_varint-more}
use Rattle.ack_codec.proofs.texts.AckBytes.+push_varint.Goals as goal

pub push-requires : goal.push-requires
push-requires t c = omega (arith, ap length (least_varint-last c.args.value (omega arith)))

pub returns-then-value-lt128 : goal.returns-then-value-lt128
returns-then-value-lt128 t c = c.push.ensures ∙ ap (λ l. c.args.self.now ++ l) (sym (least_varint-last c.args.value (omega arith)))

pub push-requires-2 : goal.push-requires-2
push-requires-2 t c = omega (arith, ap length (least_varint-more c.args.value (omega arith) (omega arith)))

pub push_varint-requires : goal.push_varint-requires
push_varint-requires t c =
    let v = c.args.value in
    let pushed : length c.push-2.new.self ≡ length c.args.self.now + 1 = ap length c.push-2.ensures ∙ length-append c.args.self.now ((v % 128 + 128) ∷ []) in
    (omega arith, omega (arith, ap length (least_varint-more v (omega arith) (omega arith))))

pub returns : goal.returns
returns t c =
    let v = c.args.value in
    let text = least_varint-more v (omega arith) (omega arith) in
    c.push_varint.ensures
    ∙ (ap (λ l. l ++ least_varint (v / 128)) c.push-2.ensures
    ∙ (append_assoc c.args.self.now ((v % 128 + 128) ∷ []) (least_varint (v / 128)) ∙ ap (λ l. c.args.self.now ++ l) (sym text)))
