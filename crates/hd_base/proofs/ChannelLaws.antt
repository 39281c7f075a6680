-- Laws of the words on what roads carry.
use Rattle.std.proofs.Common.{◌≡◌, List, [], ◌∷◌, ◌++◌, sym, append_assoc, ap, refl, ◌∙◌}
use Rattle.hd_base.specs.Lists.{joined}

-- Lists one behind the other, in two parts.
pub joined-append : {X : Type 0} (xss yss : List (List X)) → joined (xss ++ yss) ≡ joined xss ++ joined yss
joined-append [] yss = refl
joined-append (xs ∷ xss) yss = ap (λ l. xs ++ l) (joined-append xss yss) ∙ sym (append_assoc xs (joined xss) (joined yss))
