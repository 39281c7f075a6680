-- Each clause from what reading gives, by the laws of responses.
use Rattle.std.proofs.Common.{arith}
use Rattle.ack_codec.proofs.ResponseDecodingLemmas.{read_found, read_within, read_only, response_prefix, read_refused, read_refuses, read_listed}
use Rattle.ack_codec.proofs.decoding.decode_response.Goals as goal

pub returns-clause-found : goal.returns-clause-found
returns-clause-found c = read_found c.args.bytes.now c.framed_response.result (λ i. omega (arith, c.type_inv.bytes i)) c.framed_response.ensures

pub returns-clause-within : goal.returns-clause-within
returns-clause-within c = read_within c.args.bytes.now c.framed_response.result (λ i. omega (arith, c.type_inv.bytes i)) c.framed_response.ensures

pub returns-clause-only : goal.returns-clause-only
returns-clause-only c = λ response text rest s e. read_only c.args.bytes.now c.framed_response.result response text rest c.framed_response.ensures s e

pub returns-clause-prefix : goal.returns-clause-prefix
returns-clause-prefix c = response_prefix

pub returns-clause-refused : goal.returns-clause-refused
returns-clause-refused c = read_refused c.args.bytes.now c.framed_response.result (λ i. omega (arith, c.type_inv.bytes i)) c.framed_response.ensures

pub returns-clause-refuses : goal.returns-clause-refuses
returns-clause-refuses c = λ e s. read_refuses c.args.bytes.now c.framed_response.result e (λ i. omega (arith, c.type_inv.bytes i)) c.framed_response.ensures s

pub returns-clause-listed : goal.returns-clause-listed
returns-clause-listed c = read_listed c.args.bytes.now c.framed_response.result (λ i. omega (arith, c.type_inv.bytes i)) c.framed_response.ensures
