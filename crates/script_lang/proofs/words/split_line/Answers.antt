-- The first line, with an LF behind it or as the whole text.
use Rattle.std.proofs.Common.{◌==◌, ◌∷◌, not, sym, ◌∙◌, ap}
use Rattle.std.proofs.lemmas.List.Sums.{prefix_len-le-length}
use Rattle.script_lang.specs.Words.{lines_of}
use Rattle.script_lang.proofs.WordLaws.{split_is, nothing, only_line, first_line}
use Rattle.script_lang.proofs.words.split_line.Goals as goal

pub split_at-requires : goal.split_at-requires
split_at-requires c = rw c.plain_length.ensures (prefix_len-le-length _ c.args.text.now)

pub returns-in-Some-clause-first : goal.returns-in-Some-clause-first
returns-in-Some-clause-first c =
    let s = split_is (λ c. not (c == 10)) c.args.text.now c.split_at.result.0.now c.split_at.result.1.now c.plain_length.result c.plain_length.ensures c.split_at.ensures.front c.split_at.ensures.back in
    first_line c.args.text.now c.split_at.result.0.now c.split_at.result.1.now _ _ s c.in-Some.ensures.cases.0 ∙ ap (λ l. l ∷ lines_of c.in-Some.rest.now) (sym c.without_return.ensures)

pub returns-in-None-clause-first : goal.returns-in-None-clause-first
returns-in-None-clause-first c =
    let s = split_is (λ c. not (c == 10)) c.args.text.now c.split_at.result.0.now c.split_at.result.1.now c.plain_length.result c.plain_length.ensures c.split_at.ensures.front c.split_at.ensures.back in
    only_line c.args.text.now c.split_at.result.0.now c.split_at.result.1.now c.requires s (nothing c.split_at.result.1.now c.in-None.ensures.cases)
