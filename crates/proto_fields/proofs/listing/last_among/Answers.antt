-- At the end all fields are behind.
use Rattle.std.proofs.Common.{length, fold, ap, ◌∙◌, ◌≤◌, arith}
use Rattle.std.proofs.lemmas.List.{take_all}
use Rattle.proto_fields.specs.Values.{newer_values, no_values}
use Rattle.proto_fields.proofs.ValueLemmas.{fold_last_values}
use Rattle.proto_fields.proofs.listing.last_among.Goals as goal

pub returns : goal.returns
returns c =
    let all : length c.args.entries.now ≤ c.loop-number.number-index = omega arith in
    c.loop-number.invariant ∙ (ap (fold (newer_values c.args.field) no_values) (take_all _ _ all) ∙ fold_last_values c.args.field c.args.entries.now)
