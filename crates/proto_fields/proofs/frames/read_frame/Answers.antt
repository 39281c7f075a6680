-- Each clause from what the reader ensures, by the laws of frames.
use Rattle.std.proofs.Common.{◌∙◌, arith}
use Rattle.proto_fields.proofs.FrameLemmas.{frame_again, frame_found, frame_within, frame_refused, frame_refuses}
use Rattle.proto_fields.proofs.frames.read_frame.Goals as goal

pub returns-clause-found : goal.returns-clause-found
returns-clause-found c = frame_found c.args.bytes.now c.frame_of.result (λ i. omega (arith, c.type_inv.bytes i)) c.frame_of.ensures

pub returns-clause-only : goal.returns-clause-only
returns-clause-only c = λ message f. c.frame_of.ensures ∙ frame_again c.args.bytes.now message f

pub returns-clause-refused : goal.returns-clause-refused
returns-clause-refused c = frame_refused c.args.bytes.now c.frame_of.result (λ i. omega (arith, c.type_inv.bytes i)) c.frame_of.ensures

pub returns-clause-refuses : goal.returns-clause-refuses
returns-clause-refuses c = λ e s. frame_refuses c.args.bytes.now c.frame_of.result e (λ i. omega (arith, c.type_inv.bytes i)) c.frame_of.ensures s

pub returns-clause-within : goal.returns-clause-within
returns-clause-within c = frame_within c.args.bytes.now c.frame_of.result (λ i. omega (arith, c.type_inv.bytes i)) c.frame_of.ensures
