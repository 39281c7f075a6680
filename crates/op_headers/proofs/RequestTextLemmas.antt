-- The written text of a request spells it.
use Rattle.std.proofs.Common.{◌≡◌, ℕ, ◌<◌, ◌≤◌, ◌^◌, List, ◌++◌, length, drop, Result, Ok, Err, refl, ap, ◌∙◌, arith, append_assoc}
use Rattle.std.specs.Prelude.{OnOk}
use Rattle.std.proofs.lemmas.List.{drop_at}
use Rattle.proto_fields.specs.Frames.{limit}
use Rattle.proto_fields.specs.Varint.{least_varint}
use Rattle.proto_fields.proofs.VarintLemmas.{least_varint_spells}
use Rattle.op_headers.specs.declared.ops.Op.{Op}
use Rattle.op_headers.specs.declared.ops.Op.TheVariants as op
use Rattle.op_headers.specs.Requests.{ReadsOp, OpSays, SpellsOp, IsLawfulStep, OpFits, op_code, op_message, op_text, request_at}
use Rattle.op_headers.proofs.FormatLemmas.{written_write, written_read, written_transfer, written_checksum_op, written_recovery}
use Rattle.op_headers.proofs.RequestLemmas.{request_again}

message_says : (request : Op) → OpFits request → IsLawfulStep request → length (op_message request) < 2 ^ 64 → OpSays (op_code request) (op_message request) (Ok request)
message_says (op.Write w) fits step few = record { decoded = Ok w; says = written_write.says w fits few; op_is = refl }
message_says (op.Read r) fits step few = record { decoded = Ok r; says = written_read.says r fits few; op_is = refl }
message_says (op.Transfer t) fits step few = record { decoded = Ok t; says = written_transfer.says t fits few; op_is = refl }
message_says (op.Checksum c) fits step few = record { decoded = Ok c; says = written_checksum_op.says c fits few; op_is = refl }
message_says (op.Recovery r) fits step few = record { decoded = Ok r; says = written_recovery.says r (fits step.0) few; op_is = refl }

op_text_spells : (request : Op) → OpFits request → IsLawfulStep request → length (op_message request) ≤ limit → SpellsOp request (op_text request)
op_text_spells request fits step few = record {
  code = op_code request;
  rest = least_varint (length (op_message request)) ++ op_message request;
  parts = refl;
  holds = record {
    prefix = least_varint (length (op_message request));
    message = op_message request;
    parts = refl;
    spelled = least_varint_spells (length (op_message request)) (omega arith);
    few = few;
    holds = message_says request fits step (omega arith);
  };
}

-- What was written spells the request.
pub request_spelled : {A E : Type 0} (q : Result A E) (request : Op) → OnOk q (OpFits request) → IsLawfulStep request → length (op_message request) ≤ limit → OnOk q (SpellsOp request (op_text request))
request_spelled (Ok x) request fits step few = op_text_spells request fits step few
request_spelled (Err e) request fits step few = tt

-- What was written behind other bytes is read there, whatever follows.
pub request_written : {A E : Type 0} (q : Result A E) (request : Op) (old new : List ℕ) → OnOk q (new ≡ old ++ op_text request) → OnOk q (SpellsOp request (op_text request)) → OnOk q (ReadsOp old new request)
request_written (Ok x) request old new ok spelled = λ rest.
    let regrouped : new ++ rest ≡ old ++ (op_text request ++ rest) = ap (λ l. l ++ rest) ok ∙ append_assoc old (op_text request) rest in
    ap request_at (ap (drop (length old)) regrouped ∙ drop_at old (op_text request ++ rest) (length old) refl)
    ∙ request_again request (op_text request) rest spelled
request_written (Err e) request old new ok spelled = tt
