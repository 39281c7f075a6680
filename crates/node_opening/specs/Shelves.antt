-- The shelves of nodes, before and after: their files, and the blocks that are lent.
use Rattle.std.specs.Prelude.{◌≡◌, ◌==◌, ◌||◌, ◌≤◌, ℕ, Bool, false, List, [], ◌∷◌, length, slice_get, Some, IfSome}
use Rattle.hd_base.specs.FileMaps.{no_files}
use Rattle.hd_base.specs.declared.numbers.BlockId.{BlockId}
use Rattle.hd_base.specs.declared.shelves.Shelf as shelves

-- BLOCKS

-- whether a block of this number is among them
abbrev pub is_among : List BlockId → ℕ → Bool
is_among [] b = false
is_among (x ∷ xs) b = (b == x.0) || is_among xs b

-- No block stands at two places.
abbrev pub AreDistinct : List BlockId → Type 0
AreDistinct blocks =
    (j k : ℕ) (a b : BlockId) → slice_get blocks j ≡ Some a → slice_get blocks k ≡ Some b → a.0 ≡ b.0 → j ≡ k

-- ONE SHELF

-- Where the shelf tells its files, it has none.
abbrev pub IsEmpty : {S D : Type 0} → shelves.Ghosts S D → S → Type 0
IsEmpty s shelf = IfSome (s.files shelf) (λ m. m ≡ no_files)

-- The files are the same, these blocks are lent beside those that were, and the count of faults hasn't fallen.
pub record HasLent {S D : Type 0} (s : shelves.Ghosts S D) (blocks : List BlockId) (old new : S) : Type 0 where
  pub files : s.files new ≡ s.files old
  pub lent : (b : ℕ) → s.lent new b ≡ is_among blocks b || s.lent old b
  pub never_falls : s.faults old ≤ s.faults new

-- The shelf lends no block that it didn't.
abbrev pub LendsNoMore : {S D : Type 0} → shelves.Ghosts S D → S → S → Type 0
LendsNoMore s old new = (b : ℕ) → s.lent old b ≡ false → s.lent new b ≡ false

-- The files are the same, no block is lent that wasn't, and the count of faults hasn't fallen.
pub record IsGivenBack {S D : Type 0} (s : shelves.Ghosts S D) (old new : S) : Type 0 where
  pub files : s.files new ≡ s.files old
  pub lent : LendsNoMore s old new
  pub never_falls : s.faults old ≤ s.faults new

-- ALL SHELVES

-- There are as many shelves as before, and this is so of each.
pub record EachShelf {S : Type 0} (P : S → S → Type 0) (old new : List S) : Type 0 where
  pub count : length new ≡ length old
  pub each : (k : ℕ) (a b : S) → slice_get old k ≡ Some a → slice_get new k ≡ Some b → P a b

-- Where the shelves tell their files, they have none.
abbrev pub AllEmpty : {S D : Type 0} → shelves.Ghosts S D → List S → Type 0
AllEmpty {S} s xs = (k : ℕ) (a : S) → slice_get xs k ≡ Some a → IsEmpty s a
