-- A shelf that failed before the nodes were closed counts it afterwards.
use Rattle.std.proofs.Common.{◌≡◌, ◌<◌, ◌≤◌, ℕ, zero, suc, List, [], ◌∷◌, length, slice_get, Some, refl, subst, arith}
use Rattle.hd_base.specs.Faults.{FaultsIncreased}
use Rattle.hd_base.specs.declared.files.Files as files
use Rattle.hd_base.specs.declared.numbers.NodeId.{NodeId}
use Rattle.hd_base.specs.declared.shelves.Shelf as shelves
use Rattle.play_report.specs.PlayNodes.Nodes.{Nodes}
use Rattle.play_report.proofs.PlayNodes.PlaceLaws.{element_within}
use Rattle.play_report.specs.NodeOpening.Emptiness.{ShelfRose}
use Rattle.play_report.specs.NodeOpening.Laws.{NeverFell, HaveClosed}
use Rattle.completing_lines.specs.PlayLines.Drawing.{HasFailed}

-- LISTS

-- What stands at a place that is there.
pub record Stands {A : Type 0} (xs : List A) (k : ℕ) : Type 0 where
  pub x : A
  pub at : slice_get xs k ≡ Some x

pub stands : {A : Type 0} (xs : List A) (k : ℕ) → k < length xs → Stands xs k
stands [] k h = absurd (never k h)
  where
    never : (k : ℕ) → k < 0 → ⊥
    never k h = omega (arith, h)
stands (y ∷ ys) zero h = record { x = y; at = refl }
stands (y ∷ ys) (suc k) h = behind (stands ys k (less k (length ys) h))
  where
    less : (k n : ℕ) → suc k < suc n → k < n
    less k n h = omega (arith, h)

    behind : Stands ys k → Stands (y ∷ ys) (suc k)
    behind s = record { x = s.x; at = s.at }

-- SHELVES

rose_later : (a b n : ℕ) → a ≤ b → FaultsIncreased b n → FaultsIncreased a n
rose_later a b n h e = omega (arith, h, e)

module _ {S D : Type 0} (s : shelves.Ghosts S D) where
  -- A count that rose has risen since it was less.
  rose_since : (before mid now : List S) (node : NodeId) → NeverFell s before mid → ShelfRose s mid now node → ShelfRose s before now node
  rose_since before mid now node never rose =
      let k = node.0 in
      let a : Stands before k = stands before k (subst (λ (n : ℕ). k < n) never.count (element_within mid k rose.before rose.was)) in
      record {
        before = a.x;
        after = rose.after;
        was = a.at;
        is = rose.is;
        so = rose_later (s.faults a.x) (s.faults rose.before) (s.faults rose.after) (never.each k a.x rose.before a.at rose.was) rose.so;
      }

module _ {S D I O : Type 0} (s : shelves.Ghosts S D) (d : files.Ghosts D) where
  -- The shelf of a node whose drawer has failed, or that failed itself, counts it in the end.
  pub drawer_counts : (before now closed : List S) (n : Nodes D I O) (node : NodeId) → HaveClosed s d before now closed n → HasFailed d n node → ShelfRose s before closed node
  drawer_counts before now closed n node close failed = close.failed node failed.place failed.book failed.at_place failed.failed

  pub shelf_counts : (before mid now closed : List S) (n : Nodes D I O) (node : NodeId) → NeverFell s before mid → HaveClosed s d before now closed n → ShelfRose s mid now node → ShelfRose s before closed node
  shelf_counts before mid now closed n node never close rose = close.rose node (rose_since s before mid now node never rose)
