-- Each clause from what reading gives, by the laws of acks.
use Rattle.std.proofs.Common.{ap, ◌∙◌, arith}
use Rattle.ack_codec.specs.Acks.{ack_at}
use Rattle.ack_codec.proofs.DecodingLemmas.{ack_found, ack_within, ack_again, ack_prefix, ack_refused, refuses_ack, ack_listed}
use Rattle.ack_codec.proofs.decoding.decode_ack.Goals as goal

pub returns-clause-found : goal.returns-clause-found
returns-clause-found c = ack_found c.args.bytes.now c.framed_ack.result (λ i. omega (arith, c.type_inv.bytes i)) c.framed_ack.ensures

pub returns-clause-within : goal.returns-clause-within
returns-clause-within c = ack_within c.args.bytes.now c.framed_ack.result (λ i. omega (arith, c.type_inv.bytes i)) c.framed_ack.ensures

pub returns-clause-only : goal.returns-clause-only
returns-clause-only c = λ ack text rest s e. c.framed_ack.ensures ∙ (ap ack_at e ∙ ack_again ack text rest s)

pub returns-clause-prefix : goal.returns-clause-prefix
returns-clause-prefix c = ack_prefix

pub returns-clause-refused : goal.returns-clause-refused
returns-clause-refused c = ack_refused c.args.bytes.now c.framed_ack.result (λ i. omega (arith, c.type_inv.bytes i)) c.framed_ack.ensures

pub returns-clause-refuses : goal.returns-clause-refuses
returns-clause-refuses c = λ e s. c.framed_ack.ensures ∙ refuses_ack c.args.bytes.now e (λ i. omega (arith, c.type_inv.bytes i)) s

pub returns-clause-listed : goal.returns-clause-listed
returns-clause-listed c = ack_listed c.args.bytes.now c.framed_ack.result (λ i. omega (arith, c.type_inv.bytes i)) c.framed_ack.ensures
