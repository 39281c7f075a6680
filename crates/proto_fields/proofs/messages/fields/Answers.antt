-- Each clause from what the list ensures, by the laws of fields.
use Rattle.std.proofs.Common.{ap, arith}
use Rattle.hd_base.specs.Results.{with_cause}
use Rattle.proto_fields.proofs.PlaceLemmas.{listed_found, listed_first, spelled_fields_at, faulty_fields_at}
use Rattle.proto_fields.proofs.GivesLemmas.{Gives-same}
use Rattle.proto_fields.specs.declared.listing.FieldsFault.TheVariants as fault
use Rattle.proto_fields.proofs.messages.fields.Goals as goal

pub returns-clause-found : goal.returns-clause-found
returns-clause-found c = listed_found c.args.bytes.now _ (λ i. omega (arith, c.type_inv.bytes i)) c.listed.ensures

pub returns-clause-only : goal.returns-clause-only
returns-clause-only c = λ fs s. Gives-same fault.Memory _ _ _ (ap (with_cause fault.Wire) (spelled_fields_at c.args.bytes.now fs s)) c.listed.ensures

pub returns-clause-fault : goal.returns-clause-fault
returns-clause-fault c = λ e h. listed_first c.args.bytes.now _ e (λ i. omega (arith, c.type_inv.bytes i)) c.listed.ensures h

pub returns-clause-refused : goal.returns-clause-refused
returns-clause-refused c = λ e s. Gives-same fault.Memory _ _ _ (ap (with_cause fault.Wire) (faulty_fields_at c.args.bytes.now e s)) c.listed.ensures
