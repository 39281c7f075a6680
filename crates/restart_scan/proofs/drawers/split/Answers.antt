-- The two filters.
use Rattle.std.proofs.Common.{◌≡◌, ◌∙◌, not, ap, rules}
use Rattle.std.specs.Prelude.{filter}
use Rattle.std.proofs.lemmas.List.Elements.{filter_from_retain}
use Rattle.std.specs.List.{AllZip}
use Rattle.std.specs.Prelude.{List, ℕ, [], ◌∷◌, refl}
use Rattle.restart_scan.specs.Pairs.{is_temporary}
use Rattle.restart_scan.proofs.drawers.split.Goals as goal

copied : (xs ys : List (List ℕ)) → AllZip (λ x y. y ≡ x) xs ys → ys ≡ xs
copied [] [] h = refl
copied [] (y ∷ ys) h = absurd h
copied (x ∷ xs) [] h = absurd h
copied (x ∷ xs) (y ∷ ys) h = ap (λ u. u ∷ ys) h.0 ∙ ap (λ u. x ∷ u) (copied xs ys h.1)

pub returns-clause-temporary : goal.returns-clause-temporary
returns-clause-temporary c = let same : c.in_ok-temporary.temporary.items ≡ c.args.names.items = copied c.args.names.items c.in_ok-temporary.temporary.items c.in_ok-temporary.ensures.cases.0 in
    filter_from_retain _ is_temporary (λ p x b q called. search rules) _ c.in_ok-temporary.temporary.items c.retain.new.self.items c.retain.ensures.filtered ∙ ap (filter is_temporary) same

pub returns-clause-others : goal.returns-clause-others
returns-clause-others c = filter_from_retain _ (λ name. not (is_temporary name)) (λ p x b q called. search rules) _ c.args.names.items c.retain-2.new.self.items c.retain-2.ensures.filtered
