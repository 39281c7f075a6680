-- Laws of counts by connection.
use Rattle.std.proofs.Common.{◌≡◌, ℕ, zero, suc, ◌≤◌, Bool, true, false, List, [], ◌∷◌, ◌++◌, length, refl, arith}
use Rattle.fault_ports.specs.declared.piece_counts.DuplexCount.{DuplexCount}
use Rattle.fault_ports.specs.PieceCounts.{none_counted, count_at}

-- Nothing is counted past the last one that is listed.
pub count-past : (counts : List DuplexCount) (c : ℕ) (d : Bool) → length counts ≤ c → count_at counts c d ≡ none_counted
count-past [] c d past = refl
count-past (x ∷ xs) zero d past = absurd (omega (arith, past))
count-past (x ∷ xs) (suc c) d past = count-past xs c d (omega (arith, past))

-- One more that is listed, on which nothing stands, changes nothing.
pub count-listed : (counts : List DuplexCount) (new : DuplexCount) (c : ℕ) (d : Bool) → new.down ≡ none_counted → new.up ≡ none_counted → count_at (counts ++ new ∷ []) c d ≡ count_at counts c d
count-listed [] new zero true down up = down
count-listed [] new zero false down up = up
count-listed [] new (suc c) d down up = refl
count-listed (x ∷ xs) new zero d down up = refl
count-listed (x ∷ xs) new (suc c) d down up = count-listed xs new c d down up
