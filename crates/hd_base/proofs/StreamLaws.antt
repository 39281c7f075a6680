-- How reads and writes join.
use Rattle.std.proofs.Common.{ℕ, List, ◌++◌, Option, Some, None, option_map, ◌∙◌, sym, ap, append_assoc}
use Rattle.hd_base.specs.Streams.{Took, Wrote}

-- Bytes taken in two steps were taken one behind the other.
pub Took-join : (a b c : Option (List ℕ)) (xs ys : List ℕ) → Took a b xs → Took b c ys → Took a c (xs ++ ys)
Took-join a b None xs ys p q = p ∙ ap (option_map (λ rest. xs ++ rest)) q
Took-join a b (Some rest) xs ys p q = p ∙ ap (option_map (λ rest. xs ++ rest)) q ∙ ap Some (sym (append_assoc xs ys rest))

-- Bytes written in two steps stand one behind the other.
pub Wrote-join : (a b c : Option (List ℕ)) (xs ys : List ℕ) → Wrote a b xs → Wrote b c ys → Wrote a c (xs ++ ys)
Wrote-join None b c xs ys p q = q ∙ ap (option_map (λ all. all ++ ys)) p
Wrote-join (Some all) b c xs ys p q = q ∙ ap (option_map (λ all. all ++ ys)) p ∙ ap Some (append_assoc all xs ys)
