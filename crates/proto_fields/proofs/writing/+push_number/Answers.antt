-- The last byte stands for itself, and one before it has seven bits of the number.
use Rattle.std.proofs.Common.{◌+◌, ◌/◌, ◌%◌, [], ◌++◌, ◌∷◌, ap, sym, ◌∙◌, append_assoc, arith}
use Rattle.std.proofs.lemmas.Result.{on_ok_weaker}
use Rattle.proto_fields.specs.Varint.{least_varint}
use Rattle.proto_fields.proofs.VarintLemmas.{least_varint-last, least_varint-more}
use Rattle.proto_fields.proofs.writing.+push_number.Goals as goal

pub returns-then-value-lt128-clause-ok : goal.returns-then-value-lt128-clause-ok
returns-then-value-lt128-clause-ok t c =
    c.in_ok-push.ensures.items ∙ ap (λ l. c.args.out.now.items ++ l) (sym (least_varint-last c.args.value (omega arith)))

pub returns-clause-ok : goal.returns-clause-ok
returns-clause-ok t c =
    let v = c.args.value in
    let text = least_varint-more v (omega arith) (omega arith) in
    on_ok_weaker c.push_number.result
    (λ e. e ∙ (ap (λ l. l ++ least_varint (v / 128)) c.in_ok-push-2.ensures.items
    ∙ (append_assoc c.args.out.now.items ((v % 128 + 128) ∷ []) (least_varint (v / 128)) ∙ ap (λ l. c.args.out.now.items ++ l) (sym text))))
    c.push_number.ensures.ok
