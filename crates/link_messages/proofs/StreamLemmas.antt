-- What is to be taken of a connection, while it is received and read.
use Rattle.std.proofs.Common.{◌≡◌, ℕ, List, [], ◌∷◌, ◌++◌, Option, Some, None, option_map, refl, sym, ap, ◌∙◌, append_assoc}
use Rattle.hd_base.specs.Links.{Inbox, in_front}

-- more bytes in front, at once or one after the other
pub in_front_twice : (a b : List ℕ) (held : Option Inbox) → option_map (in_front (a ++ b)) held ≡ option_map (in_front a) (option_map (in_front b) held)
in_front_twice a b None = refl
in_front_twice a b (Some x) = ap (λ (l : List ℕ). Some (record { bytes = l; ended = x.ended })) (append_assoc a b x.bytes)

-- What comes of one list of bytes is a front of the other, or the other way round.
pub data Fronts (a b : List ℕ) : Type 0 where
  inside : (more : List ℕ) → a ≡ b ++ more → Fronts a b
  beyond : (x : ℕ) (more : List ℕ) → b ≡ a ++ (x ∷ more) → Fronts a b

-- Of two fronts of one list one is a front of the other.
pub fronts : (a b c d : List ℕ) → a ++ c ≡ b ++ d → Fronts a b
fronts a [] c d e = inside a refl
fronts [] (y ∷ b) c d e = beyond y b refl
fronts (x ∷ a) (y ∷ b) c d e =
    let heads : x ≡ y = cc in
    let tails : a ++ c ≡ b ++ d = cc in
    elim (fronts a b c d tails) [
      | inside more is ↦ inside more (ap (λ (l : List ℕ). x ∷ l) is ∙ ap (λ (n : ℕ). n ∷ (b ++ more)) heads)
      | beyond z more is ↦ beyond z more (ap (λ (l : List ℕ). y ∷ l) is ∙ ap (λ (n : ℕ). n ∷ (a ++ (z ∷ more))) (sym heads))
    ]
