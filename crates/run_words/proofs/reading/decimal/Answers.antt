use Rattle.std.proofs.Common.{◌∙◌, ℕ, List, ap, sym}
use Rattle.std.specs.List.{slice_get}
use Rattle.run_words.proofs.CallLaws.{number_parsed, plus_spells_none, nothing_spells_none}
use Rattle.run_words.proofs.reading.decimal.Goals as goal

pub returns-in_err-first : goal.returns-in_err-first
returns-in_err-first c =
    let word = c.args.word.now in
    c.from_residual.ensures ∙ nothing_spells_none word (ap (λ (w : List ℕ). slice_get w 0) (sym c.as_bytes.ensures.value) ∙ sym c.in_err-first.ensures.value)

pub returns-then-first-eq43 : goal.returns-then-first-eq43
returns-then-first-eq43 c =
    let word = c.args.word.now in
    plus_spells_none word c.in_ok-first.first.now (ap (λ (w : List ℕ). slice_get w 0) (sym c.as_bytes.ensures.value) ∙ sym c.in_ok-first.ensures.value) c.if-first-eq43.true

pub returns : goal.returns
returns c =
    let word = c.args.word.now in
    c.ok.ensures.value ∙ number_parsed word c.in_ok-first.first.now c.parse.result (ap (λ (w : List ℕ). slice_get w 0) (sym c.as_bytes.ensures.value) ∙ sym c.in_ok-first.ensures.value) c.if-first-eq43.false c.parse.ensures.value.0
