-- The field's number has a place in the list, or the list stays.
use Rattle.std.proofs.Common.{◌-◌, ap, sym, ◌∙◌, arith}
use Rattle.std.specs.Prelude.{slice_set}
use Rattle.proto_fields.proofs.ValueLemmas.{newer_list-before, newer_list-past, newer_list-at}
use Rattle.proto_fields.proofs.listing.replace_last.Goals as goal

pub returns-then-number-eq0 : goal.returns-then-number-eq0
returns-then-number-eq0 c = sym (newer_list-before 1 c.args.last.now (c.args.number, c.args.value) (omega arith))

pub returns-then-place-last : goal.returns-then-place-last
returns-then-place-last c =
    ap (λ v. slice_set c.args.last.now (c.args.number - 1) v) c.after.ensures
    ∙ newer_list-at 1 c.args.last.now (c.args.number, c.args.value) (c.args.number - 1) _ (omega arith) (omega arith)

pub returns-else-place-last : goal.returns-else-place-last
returns-else-place-last c = sym (newer_list-past 1 c.args.last.now (c.args.number, c.args.value) (omega arith))
