-- Each clause from what the reader ensures, by the laws of fields.
use Rattle.std.proofs.Common.{ap, sym, ◌∙◌, arith}
use Rattle.proto_fields.specs.Fields.{next_at}
use Rattle.proto_fields.proofs.PlaceLemmas.{next_at-end, next_at-none, next_found, next_fault, stands_at_next, fault_at_next}
use Rattle.proto_fields.proofs.reading.next_field.Goals as goal

pub returns-clause-found : goal.returns-clause-found
returns-clause-found c = next_found c.args.bytes.now c.args.at _ (λ i. omega (arith, c.type_inv.bytes i)) c.requires c.next_of.ensures.exact

pub returns-clause-only : goal.returns-clause-only
returns-clause-only c = λ f s. c.next_of.ensures.exact ∙ stands_at_next c.args.bytes.now c.args.at f c.requires s

pub returns-clause-end : goal.returns-clause-end
returns-clause-end c = (
  λ h. next_at-none c.args.bytes.now c.args.at c.requires (sym c.next_of.ensures.exact ∙ h),
  λ h. c.next_of.ensures.exact ∙ (ap (next_at c.args.bytes.now) h ∙ next_at-end c.args.bytes.now),
)

pub returns-clause-fault : goal.returns-clause-fault
returns-clause-fault c = next_fault c.args.bytes.now c.args.at _ (λ i. omega (arith, c.type_inv.bytes i)) c.requires c.next_of.ensures.exact

pub returns-clause-refused : goal.returns-clause-refused
returns-clause-refused c = λ e s. c.next_of.ensures.exact ∙ fault_at_next c.args.bytes.now c.args.at e s
