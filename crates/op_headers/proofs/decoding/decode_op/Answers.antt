-- Each clause from what reading gives, by the laws of requests.
use Rattle.std.proofs.Common.{arith}
use Rattle.proto_fields.proofs.GivesLemmas.{Gives-same}
use Rattle.op_headers.specs.declared.faults.OpFault.TheVariants as fault
use Rattle.op_headers.proofs.RequestLemmas.{request_found, request_within, request_only, request_prefix, request_refused, request_refuses}
use Rattle.op_headers.proofs.decoding.decode_op.Goals as goal

pub returns-clause-found : goal.returns-clause-found
returns-clause-found c = request_found c.args.bytes.now c.framed_op.result (λ i. omega (arith, c.type_inv.bytes i)) c.framed_op.ensures

pub returns-clause-within : goal.returns-clause-within
returns-clause-within c = request_within c.args.bytes.now c.framed_op.result (λ i. omega (arith, c.type_inv.bytes i)) c.framed_op.ensures

pub returns-clause-only : goal.returns-clause-only
returns-clause-only c = λ request text rest s e. request_only c.args.bytes.now c.framed_op.result request text rest c.framed_op.ensures s e

pub returns-clause-prefix : goal.returns-clause-prefix
returns-clause-prefix c = request_prefix

pub returns-clause-refused : goal.returns-clause-refused
returns-clause-refused c = request_refused c.args.bytes.now c.framed_op.result (λ i. omega (arith, c.type_inv.bytes i)) c.framed_op.ensures

pub returns-clause-refuses : goal.returns-clause-refuses
returns-clause-refuses c = λ e s. Gives-same fault.Memory _ _ _ (request_refuses c.args.bytes.now e (λ i. omega (arith, c.type_inv.bytes i)) s) c.framed_op.ensures
