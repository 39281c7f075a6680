-- What is read prints to these bytes, and what prints to them is read.
use Rattle.std.proofs.Common.{◌≡◌, ◌≢◌, ℕ, List, [], ◌∷◌, ◌++◌, Option, Some, None, Bor, MatchOption, sym}
use Rattle.std.proofs.lemmas.Bool.Decides.{Decides-eqb}
use Rattle.std.proofs.lemmas.Slice.Eq.{strip_suffix_is}
use Rattle.script_lang.proofs.InverseLaws.{read_prints, printed_read, none_printed}
use Rattle.script_lang.proofs.report_reading.read_line.Goals as goal

stripped : (bytes : List ℕ) (o : Option (Bor (List ℕ))) (text : Bor (List ℕ)) → MatchOption o ((front : List ℕ) → bytes ≢ front ++ 10 ∷ []) (λ x. bytes ≡ x.now ++ 10 ∷ []) → o ≡ Some text → bytes ≡ text.now ++ 10 ∷ []
stripped bytes o text m is = rw is at m

bare : (bytes : List ℕ) (o : Option (Bor (List ℕ))) → MatchOption o ((front : List ℕ) → bytes ≢ front ++ 10 ∷ []) (λ x. bytes ≡ x.now ++ 10 ∷ []) → o ≡ None → (front : List ℕ) → bytes ≢ front ++ 10 ∷ []
bare bytes o m is = rw is at m

pub returns-in-Some-clause-found : goal.returns-in-Some-clause-found
returns-in-Some-clause-found c =
    let e = stripped c.args.bytes.now c.strip_suffix.result c.in-Some.text (strip_suffix_is Decides-eqb c.args.bytes.now (10 ∷ []) c.strip_suffix.result c.strip_suffix.ensures.cases) c.in-Some.is in
    read_prints c.args.bytes.now c.in-Some.text.now c.line.result e c.line.ensures

pub returns-in-Some-clause-only : goal.returns-in-Some-clause-only
returns-in-Some-clause-only c l holds prints =
    let e = stripped c.args.bytes.now c.strip_suffix.result c.in-Some.text (strip_suffix_is Decides-eqb c.args.bytes.now (10 ∷ []) c.strip_suffix.result c.strip_suffix.ensures.cases) c.in-Some.is in
    printed_read c.args.bytes.now c.in-Some.text.now c.line.result l e c.line.ensures holds prints

pub returns-in-Some-clause-none : goal.returns-in-Some-clause-none
returns-in-Some-clause-none c bad l holds prints =
    let e = stripped c.args.bytes.now c.strip_suffix.result c.in-Some.text (strip_suffix_is Decides-eqb c.args.bytes.now (10 ∷ []) c.strip_suffix.result c.strip_suffix.ensures.cases) c.in-Some.is in
    none_printed c.args.bytes.now c.in-Some.text.now c.line.result l e c.line.ensures bad holds prints

pub returns-in-None-clause-only : goal.returns-in-None-clause-only
returns-in-None-clause-only c l holds prints =
    absurd (bare c.args.bytes.now c.strip_suffix.result (strip_suffix_is Decides-eqb c.args.bytes.now (10 ∷ []) c.strip_suffix.result c.strip_suffix.ensures.cases) c.in-None.is _ (sym prints))

pub returns-in-None-clause-none : goal.returns-in-None-clause-none
returns-in-None-clause-none c bad l holds prints =
    bare c.args.bytes.now c.strip_suffix.result (strip_suffix_is Decides-eqb c.args.bytes.now (10 ∷ []) c.strip_suffix.result c.strip_suffix.ensures.cases) c.in-None.is _ (sym prints)
