-- At the end all fields are behind.
use Rattle.std.proofs.Common.{◌≤◌, None, length, fold, ap, ◌∙◌}
use Rattle.std.proofs.lemmas.List.{take_all}
use Rattle.proto_fields.specs.Values.{newer, last_of}
use Rattle.op_headers.specs.Tables.{Below, number_of}
use Rattle.proto_fields.proofs.ValueLemmas.{fold_newer_last}
use Rattle.op_headers.proofs.messages.small_under.Goals as goal

pub returns-clause-last : goal.returns-clause-last
returns-clause-last c =
    let pick = number_of (Below c.args.bound) in
    let all : length c.entries-number-items.result.now ≤ c.loop-number.number-index = c.loop-number-test.false in
    c.loop-number.invariant.0
    ∙ (ap (fold (newer pick c.args.field) None) (take_all _ _ all)
    ∙ (fold_newer_last pick c.args.field c.entries-number-items.result.now ∙ ap (last_of pick c.args.field) c.entries-number-items.ensures))
