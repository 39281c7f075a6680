-- An empty text is left out.
use Rattle.std.proofs.Common.{◌≡◌, ◌<◌, ◌++◌, length, ap, sym, ◌∙◌, append-nil, arith}
use Rattle.std.proofs.lemmas.Bool.Decides.{nat_tests}
use Rattle.std.proofs.lemmas.Result.{on_ok_weaker}
use Rattle.ack_codec.proofs.ResponseTextLemmas.{reason_empty, reason_there}
use Rattle.ack_codec.proofs.response_writing.push_reason.Goals as goal

pub returns-then-is_empty : goal.returns-then-is_empty
returns-then-is_empty c =
    let none : length c.args.message.now ≡ 0 = grind (arith, nat_tests) in
    record { ok = sym (ap (λ l. c.args.out.now.items ++ l) (reason_empty c.args.message.now none) ∙ append-nil c.args.out.now.items) }

pub returns : goal.returns
returns c =
    let some : 0 < length c.args.message.now = grind (arith, nat_tests) in
    record { ok = on_ok_weaker c.put_bytes.result (λ e. e ∙ ap (λ l. c.args.out.now.items ++ l) (sym (reason_there c.args.message.now some))) c.put_bytes.ensures.ok }
