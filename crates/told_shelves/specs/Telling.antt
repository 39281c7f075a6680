-- What shelves tell.
use Rattle.std.proofs.Common.{subst}
use Rattle.std.specs.Prelude.{◌≡◌, Bool, true, false, IsSome}
use Rattle.hd_base.specs.declared.files.Files as files
use Rattle.hd_base.specs.declared.shelves.Shelf as shelves

-- All shelves of this kind, and their drawers, tell their files.
pub record TheyTell {S D : Type 0} (s : shelves.Ghosts S D) (d : files.Ghosts D) : Type 0 where
  pub shelves : (x : S) → IsSome (s.files x)
  pub drawers : (x : D) → IsSome (d.files x)

-- this, where it is so
abbrev pub Where : Bool → Type 0 → Type 0
Where true P = P
Where false P = Unit {0}

-- What isn't so tells anything.
pub never : {P : Type 0} → false ≡ true → P
never {P} e = subst (λ (b : Bool). Where b P) e tt
