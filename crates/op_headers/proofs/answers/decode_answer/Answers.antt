-- Each clause from what reading gives, by the laws of answers.
use Rattle.std.proofs.Common.{arith}
use Rattle.proto_fields.proofs.GivesLemmas.{Gives-same}
use Rattle.op_headers.specs.declared.faults.AnswerFault.TheVariants as fault
use Rattle.op_headers.proofs.AnswerLemmas.{answer_found, answer_within, answer_only, answer_prefix, answer_refused, answer_refuses, answer_listed}
use Rattle.op_headers.proofs.answers.decode_answer.Goals as goal

pub returns-clause-found : goal.returns-clause-found
returns-clause-found c = answer_found c.args.bytes.now c.framed_answer.result (λ i. omega (arith, c.type_inv.bytes i)) c.framed_answer.ensures

pub returns-clause-within : goal.returns-clause-within
returns-clause-within c = answer_within c.args.bytes.now c.framed_answer.result (λ i. omega (arith, c.type_inv.bytes i)) c.framed_answer.ensures

pub returns-clause-only : goal.returns-clause-only
returns-clause-only c = λ answer text rest s e. answer_only c.args.bytes.now c.framed_answer.result answer text rest c.framed_answer.ensures s e

pub returns-clause-prefix : goal.returns-clause-prefix
returns-clause-prefix c = answer_prefix

pub returns-clause-refused : goal.returns-clause-refused
returns-clause-refused c = answer_refused c.args.bytes.now c.framed_answer.result (λ i. omega (arith, c.type_inv.bytes i)) c.framed_answer.ensures

pub returns-clause-refuses : goal.returns-clause-refuses
returns-clause-refuses c = λ e s. Gives-same fault.Memory _ _ _ (answer_refuses c.args.bytes.now e (λ i. omega (arith, c.type_inv.bytes i)) s) c.framed_answer.ensures

pub returns-clause-listed : goal.returns-clause-listed
returns-clause-listed c = answer_listed c.args.bytes.now c.framed_answer.result (λ i. omega (arith, c.type_inv.bytes i)) c.framed_answer.ensures
