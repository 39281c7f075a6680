-- The first part, with a separator behind it or as the whole text.
use Rattle.std.proofs.Common.{◌==◌, not}
use Rattle.std.proofs.lemmas.List.Sums.{prefix_len-le-length}
use Rattle.script_lang.proofs.WordLaws.{split_is, nothing, only_part, first_part}
use Rattle.script_lang.proofs.words.split_part.Goals as goal

pub split_at-requires : goal.split_at-requires
split_at-requires c = rw c.part_length.ensures (prefix_len-le-length _ c.args.text.now)

pub returns-in-Some-clause-first : goal.returns-in-Some-clause-first
returns-in-Some-clause-first c =
    let s = split_is (λ b. not (b == c.args.separator)) c.args.text.now c.split_at.result.0.now c.split_at.result.1.now c.part_length.result c.part_length.ensures c.split_at.ensures.front c.split_at.ensures.back in
    first_part c.args.separator c.args.text.now c.split_at.result.0.now c.split_at.result.1.now _ _ s c.in-Some.ensures.cases.0

pub returns-in-None-clause-first : goal.returns-in-None-clause-first
returns-in-None-clause-first c =
    let s = split_is (λ b. not (b == c.args.separator)) c.args.text.now c.split_at.result.0.now c.split_at.result.1.now c.part_length.result c.part_length.ensures c.split_at.ensures.front c.split_at.ensures.back in
    only_part c.args.separator c.args.text.now c.split_at.result.0.now c.split_at.result.1.now s (nothing c.split_at.result.1.now c.in-None.ensures.cases)
