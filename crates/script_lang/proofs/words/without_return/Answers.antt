-- A CR at the end, or none.
use Rattle.std.proofs.Common.{◌≡◌, ◌≢◌, ℕ, List, [], ◌∷◌, ◌++◌, Option, Some, None, Bor, MatchOption, sym, ◌∙◌, ap}
use Rattle.std.specs.Option.{unwrap_or}
use Rattle.std.proofs.lemmas.Bool.Decides.{Decides-eqb}
use Rattle.std.proofs.lemmas.Slice.Eq.{strip_suffix_is}
use Rattle.script_lang.specs.Words.{without_return}
use Rattle.script_lang.proofs.WordLaws.{without_return-last, without_return-same}
use Rattle.script_lang.proofs.words.without_return.Goals as goal

either_way : (line : Bor (List ℕ)) (o : Option (Bor (List ℕ))) → MatchOption o ((front : List ℕ) → line.now ≢ front ++ 13 ∷ []) (λ x. line.now ≡ x.now ++ 13 ∷ []) → (unwrap_or o line).now ≡ without_return line.now
either_way line None other = sym (without_return-same line.now other)
either_way line (Some x) is = sym (ap without_return is ∙ without_return-last x.now)

pub returns : goal.returns
returns c = ap (λ r. r.now) c.unwrap_or.ensures ∙ either_way c.args.line c.strip_suffix.result (strip_suffix_is Decides-eqb c.args.line.now (13 ∷ []) c.strip_suffix.result c.strip_suffix.ensures.cases)
