-- Each clause from what reading gives, by the laws of read statuses.
use Rattle.std.proofs.Common.{ap, ◌∙◌, arith}
use Rattle.ack_codec.specs.Acks.{read_status_at}
use Rattle.ack_codec.proofs.DecodingLemmas.{read_status_found, read_status_within, read_status_again, read_status_prefix, read_status_refused, refuses_read_status, read_status_listed}
use Rattle.ack_codec.proofs.decoding.decode_read_status.Goals as goal

pub returns-clause-found : goal.returns-clause-found
returns-clause-found c = read_status_found c.args.bytes.now c.framed_read_status.result (λ i. omega (arith, c.type_inv.bytes i)) c.framed_read_status.ensures

pub returns-clause-within : goal.returns-clause-within
returns-clause-within c = read_status_within c.args.bytes.now c.framed_read_status.result (λ i. omega (arith, c.type_inv.bytes i)) c.framed_read_status.ensures

pub returns-clause-only : goal.returns-clause-only
returns-clause-only c = λ status text rest s e. c.framed_read_status.ensures ∙ (ap read_status_at e ∙ read_status_again status text rest s)

pub returns-clause-prefix : goal.returns-clause-prefix
returns-clause-prefix c = read_status_prefix

pub returns-clause-refused : goal.returns-clause-refused
returns-clause-refused c = read_status_refused c.args.bytes.now c.framed_read_status.result (λ i. omega (arith, c.type_inv.bytes i)) c.framed_read_status.ensures

pub returns-clause-refuses : goal.returns-clause-refuses
returns-clause-refuses c = λ e s. c.framed_read_status.ensures ∙ refuses_read_status c.args.bytes.now e (λ i. omega (arith, c.type_inv.bytes i)) s

pub returns-clause-listed : goal.returns-clause-listed
returns-clause-listed c = read_status_listed c.args.bytes.now c.framed_read_status.result (λ i. omega (arith, c.type_inv.bytes i)) c.framed_read_status.ensures
