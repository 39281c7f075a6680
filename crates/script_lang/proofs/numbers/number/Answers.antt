-- A word of some digits, as its rule says.
use Rattle.std.proofs.Common.{◌≡◌, ◌==◌, ℕ, Bool, true, false, List, [], ◌∷◌, length, sym, ◌∙◌, arith}
use Rattle.script_lang.specs.declared.faults.BadKind.TheVariants as kind
use Rattle.script_lang.specs.Rules.{by_rules}
use Rattle.script_lang.specs.Numbers.{digits_on, is_number, value_of}
use Rattle.script_lang.proofs.NumberLaws.{digits_on-is}
use Rattle.script_lang.proofs.numbers.number.Goals as goal

some_digits : (word : List ℕ) (b : Bool) → b ≡ (length word == 0) → b ≡ false → digits_on 0 word ≡ by_rules ((kind.Number, is_number word) ∷ []) (value_of word)
some_digits [] b e f = absurd (let h : true ≡ false = sym e ∙ f in cc)
some_digits (c ∷ cs) b e f = digits_on-is 0 (c ∷ cs) (omega arith)

pub returns : goal.returns
returns c = c.digits.ensures ∙ some_digits c.args.word.now c.is_empty.result c.is_empty.ensures c.if-is_empty.false
