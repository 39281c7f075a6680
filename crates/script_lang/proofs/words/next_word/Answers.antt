-- Blanks, and a word behind them or none.
use Rattle.std.proofs.Common.{not}
use Rattle.std.proofs.lemmas.List.Sums.{prefix_len-le-length}
use Rattle.script_lang.specs.Words.{is_blank}
use Rattle.script_lang.proofs.WordLaws.{split_is, none_there, some_there, no_word, first_word}
use Rattle.script_lang.proofs.words.next_word.Goals as goal

pub split_at-requires : goal.split_at-requires
split_at-requires c = rw c.blank_length.ensures (prefix_len-le-length _ c.args.line.now)

pub split_at-requires-2 : goal.split_at-requires-2
split_at-requires-2 c = rw c.word_length.ensures (prefix_len-le-length _ c.split_at.result.1.now)

pub returns-then-is_empty : goal.returns-then-is_empty
returns-then-is_empty c =
    let s = split_is is_blank c.args.line.now c.split_at.result.0.now c.split_at.result.1.now c.blank_length.result c.blank_length.ensures c.split_at.ensures.front c.split_at.ensures.back in
    no_word c.args.line.now c.split_at.result.0.now c.split_at.result.1.now s (none_there c.split_at.result.1.now c.is_empty.result c.is_empty.ensures c.if-is_empty.true)

pub returns : goal.returns
returns c =
    let s = split_is is_blank c.args.line.now c.split_at.result.0.now c.split_at.result.1.now c.blank_length.result c.blank_length.ensures c.split_at.ensures.front c.split_at.ensures.back in
    let t = split_is (λ c. not (is_blank c)) c.split_at.result.1.now c.split_at-2.result.0.now c.split_at-2.result.1.now c.word_length.result c.word_length.ensures c.split_at-2.ensures.front c.split_at-2.ensures.back in
    first_word c.args.line.now c.split_at.result.0.now c.split_at.result.1.now c.split_at-2.result.0.now c.split_at-2.result.1.now (some_there c.split_at.result.1.now c.is_empty.result c.is_empty.ensures c.if-is_empty.false) s t
