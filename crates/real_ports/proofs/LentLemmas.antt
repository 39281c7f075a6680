-- Which blocks are lent once one isn't any more.
use Rattle.std.proofs.Common.{◌≡◌, ◌∙◌, ◌==◌, ℕ, Bool, true, false, not, cond, ◌||◌, List, [], ◌∷◌, filter, refl, arith}
use Rattle.std.proofs.lemmas.Bool.Decides.{nat_tests}
use Rattle.hd_base.specs.declared.numbers.BlockId.{BlockId}
use Rattle.hd_base.specs.FileMaps.{marked}
use Rattle.real_ports.specs.Lent.{lent_of}

none-left : (b : Bool) → false ≡ cond b false false
none-left b = elim b as (λ v. false ≡ cond v false false) [ true ↦ refl | false ↦ refl ]

-- one more in front, if it is there
lent_of-cond : (x : BlockId) (xs : List BlockId) (b : ℕ) (there : Bool) →
    lent_of (cond there (x ∷ xs) xs) b ≡ cond there ((x.0 == b) || lent_of xs b) (lent_of xs b)
lent_of-cond x xs b there =
    elim there as (λ v. lent_of (cond v (x ∷ xs) xs) b ≡ cond v ((x.0 == b) || lent_of xs b) (lent_of xs b)) [ true ↦ refl | false ↦ refl ]

-- one more in front, given what is lent behind it
lent-step : (x block b : ℕ) (rest kept : Bool) → kept ≡ cond (b == block) false rest →
    (cond (not (x == block)) ((x == b) || kept) kept) ≡ cond (b == block) false ((x == b) || rest)
lent-step x block b rest kept e = grind (arith, nat_tests)

-- without a block, each other block is lent as before, and that one isn't
pub lent_of-without : (lent : List BlockId) (block : ℕ) (b : ℕ) → lent_of (filter (λ x. not (x.0 == block)) lent) b ≡ marked (lent_of lent) block false b
lent_of-without [] block b = none-left (b == block)
lent_of-without (x ∷ xs) block b =
    lent_of-cond x (filter (λ y. not (y.0 == block)) xs) b (not (x.0 == block))
    ∙ lent-step x.0 block b (lent_of xs b) (lent_of (filter (λ y. not (y.0 == block)) xs) b) (lent_of-without xs block b)
