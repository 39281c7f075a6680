-- The first byte becomes the length of the message behind it, and the whole spells the ack.
use Rattle.std.proofs.Common.{◌≡◌, ◌-◌, ◌≤◌, [], ◌∷◌, ◌++◌, length, subst, ap, sym, ◌∙◌, arith}
use Rattle.ack_codec.specs.Acks.{SpellsAck}
use Rattle.ack_codec.specs.AckTexts.{ack_message, ack_text}
use Rattle.ack_codec.proofs.AckTextLemmas.{length_first, ack_text_spells}
use Rattle.ack_codec.proofs.DecodingLemmas.{ack_again}
use Rattle.ack_codec.proofs.encoding.encode_ack.Goals as goal
use Rattle.ack_codec.proofs.encoding.encode_ack.Goals.{After-set_first}

one_byte : (c : After-set_first) → c.push.new.self ≡ 0 ∷ []
one_byte c = c.push.ensures ∙ ap (λ l. l ++ 0 ∷ []) c.clear.ensures

whole : (c : After-set_first) → c.put_message.new.out ≡ 0 ∷ ack_message c.args.ack.now
whole c = c.put_message.ensures.message ∙ ap (λ l. l ++ ack_message c.args.ack.now) (one_byte c)

few : (c : After-set_first) → length (ack_message c.args.ack.now) ≤ 107
few c = omega (arith, ap length (one_byte c), ap length (whole c), c.put_message.ensures.few)

text : (c : After-set_first) → c.set_first.new.self ≡ ack_text c.args.ack.now
text c = length_first (ack_message c.args.ack.now) c.put_message.new.out c.set_first.new.self _ (whole c) (ap (λ n. n - 1) c.len.ensures.value) (omega (arith, few c)) c.set_first.ensures

spelled : (c : After-set_first) → SpellsAck c.args.ack.now c.set_first.new.self
spelled c =
    subst (SpellsAck c.args.ack.now) (sym (text c))
    (ack_text_spells c.args.ack.now c.put_message.ensures.count c.requires c.put_message.ensures.seqno c.put_message.ensures.replies (few c))

pub returns-clause-written : goal.returns-clause-written
returns-clause-written c = text c

pub returns-clause-spelled : goal.returns-clause-spelled
returns-clause-spelled c = spelled c

pub returns-clause-again : goal.returns-clause-again
returns-clause-again c = λ rest. ack_again c.args.ack.now c.set_first.new.self rest (spelled c)
