-- Shelves that lend nothing, or more, or have all given back.
use Rattle.std.proofs.Common.{◌≡◌, ◌≤◌, ℕ, Bool, true, false, List, [], ◌∷◌, ◌++◌, take, Option, Some, None, option_map, IfSome, refl, ap, ◌∙◌, arith}
use Rattle.std.specs.Prelude.{◌||◌, ◌==◌}
use Rattle.hd_base.specs.FileMaps.{FileMap, no_files}
use Rattle.hd_base.specs.declared.numbers.BlockId.{BlockId}
use Rattle.hd_base.specs.declared.shelves.Shelf as shelves
use Rattle.node_opening.specs.Shelves.{is_among, AreDistinct, IsEmpty, HasLent, IsGivenBack}
use Rattle.node_opening.proofs.ListLemmas.{get_take}

-- BLOCKS

or_swap : (p q r : Bool) → (p || (q || r)) ≡ (q || (p || r))
or_swap true true r = refl
or_swap true false r = refl
or_swap false true r = refl
or_swap false false r = refl

pub among_more : (xs : List BlockId) (x : BlockId) (b : ℕ) → is_among (xs ++ x ∷ []) b ≡ ((b == x.0) || is_among xs b)
among_more [] x b = refl
among_more (a ∷ xs) x b = ap (λ (q : Bool). (b == a.0) || q) (among_more xs x b) ∙ or_swap (b == a.0) (b == x.0) (is_among xs b)

pub distinct_front : (xs : List BlockId) (n : ℕ) → AreDistinct xs → AreDistinct (take n xs)
distinct_front xs n d = λ j k a b at at' same. d j k a b (get_take xs n j a at) (get_take xs n k b at') same

-- FILES

-- Files of which none is there, where they are told, are those of no files.
pub empty_told : (f : Option FileMap) → IfSome f (λ m. m ≡ no_files) → f ≡ option_map (λ _. no_files) f
empty_told None h = refl
empty_told (Some m) h = ap Some h

-- SHELVES

module _ {S D : Type 0} (s : shelves.Ghosts S D) where
  pub empty_is : (a : S) → IsEmpty s a → s.files a ≡ option_map (λ _. no_files) (s.files a)
  empty_is a h = empty_told (s.files a) h

  pub lent_none : (a : S) → HasLent s [] a a
  lent_none a = record { files = refl; lent = λ b. refl; never_falls = omega arith }

  up : (a b c : ℕ) → a ≤ b → b ≤ c → a ≤ c
  up a b c p q = omega arith

  pub lent_after : (blocks : List BlockId) (a b c : S) → HasLent s [] a b → HasLent s blocks b c → HasLent s blocks a c
  lent_after blocks a b c p q = record {
    files = q.files ∙ p.files;
    lent = λ x. q.lent x ∙ ap (λ (y : Bool). is_among blocks x || y) (p.lent x);
    never_falls = up (s.faults a) (s.faults b) (s.faults c) p.never_falls q.never_falls;
  }

  pub given_none : (a : S) → IsGivenBack s a a
  given_none a = record { files = refl; lent = λ b h. h; never_falls = omega arith }

  pub given_lent : (a b : S) → HasLent s [] a b → IsGivenBack s a b
  given_lent a b p = record { files = p.files; lent = λ x h. p.lent x ∙ h; never_falls = p.never_falls }

  pub given_after : (a b c : S) → IsGivenBack s a b → IsGivenBack s b c → IsGivenBack s a c
  given_after a b c p q = record {
    files = q.files ∙ p.files;
    lent = λ x h. q.lent x (p.lent x h);
    never_falls = up (s.faults a) (s.faults b) (s.faults c) p.never_falls q.never_falls;
  }
