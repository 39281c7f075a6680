-- The sum of a replica's bytes.
use Rattle.std.proofs.Common.{◌≡◌, ℕ, ◌+◌, ◌-◌, ◌<◌, ◌≤◌, List, ◌++◌, length, take, drop, Option, Some, None, refl, sym, ap, ◌∙◌, arith}
use Rattle.std.proofs.lemmas.List.{length-drop, length-take-le}
use Rattle.std.proofs.Math.Seq.{take-add}
use Rattle.hd_base.proofs.ByteLaws.{IsBytes-take}
use Rattle.hd_base.specs.Bytes.{IsBytes}
use Rattle.hd_base.specs.FileMaps.{FileMap, HasBytesAt}
use Rattle.hd_base.specs.declared.sum_rule.SumKind.TheVariants as kind
use Rattle.chunk_sums.specs.Crc.{sum_of}
use Rattle.replica_calls.proofs.GrowthLemmas.{read_is}
use Rattle.replica_files.specs.Summing.{IsFile, SumsOn}
use Rattle.replica_files.specs.declared.summing.Summed.{Summed}

-- ---- a file that is read piece by piece

-- What was read is all that was asked for.
pub record IsPiece (bytes : List ℕ) (place most count : ℕ) (got : List ℕ) : Type 0 where
  pub is : got ≡ take most (drop place bytes)
  pub all : count ≡ most

piece_is : (m : FileMap) (name : List ℕ) (len place most count : ℕ) (got bytes : List ℕ) → place ≤ len → most ≤ len - place → length got ≡ count → HasBytesAt (Some m) name place most got → IsFile (Some m) name len bytes
    → IsPiece bytes place most count got
piece_is m name len place most count got bytes within few many has file =
    let is : got ≡ take most (drop place bytes) = read_is (Some m) m name bytes got place most refl file.there has in
    record {
      is = is;
      all = sym many ∙ (ap (λ (l : List ℕ). length l) is ∙ length-take-le most (drop place bytes) (omega (arith, length-drop place bytes, file.all, few)));
    }

piece_sums : (bytes : List ℕ) (old : Summed) (most count sum : ℕ) (got : List ℕ) → IsBytes bytes → IsPiece bytes old.place most count got → ((front : List ℕ) → IsBytes front → old.sum ≡ sum_of kind.Crc32c front → sum ≡ sum_of kind.Crc32c (front ++ got))
    → old.sum ≡ sum_of kind.Crc32c (take old.place bytes) → sum ≡ sum_of kind.Crc32c (take (old.place + count) bytes)
piece_sums bytes old most count sum got are piece more so_far =
    more (take old.place bytes) (IsBytes-take old.place bytes are) so_far
    ∙ ap (sum_of kind.Crc32c) (ap (λ (l : List ℕ). take old.place bytes ++ l) piece.is ∙ (sym (take-add old.place most bytes) ∙ ap (λ n. take (old.place + n) bytes) (sym piece.all)))

-- A piece more was read and summed.
pub summed_on : (files : Option FileMap) (name : List ℕ) (len : ℕ) (old : Summed) (most count sum : ℕ) (got : List ℕ) → old.place ≤ len → most ≤ len - old.place → (old.place < len → 0 < most) → length got ≡ count → count ≤ most
    → HasBytesAt files name old.place most got → ((front : List ℕ) → IsBytes front → old.sum ≡ sum_of kind.Crc32c front → sum ≡ sum_of kind.Crc32c (front ++ got)) → SumsOn files name len old (record { place = old.place + count; sum = sum })
summed_on None name len old most count sum got within few some many fits has more =
    record { behind = omega arith; within = omega (arith, within, few, fits); sums = λ bytes file so_far. tt; goes_on = λ bytes file. tt }
summed_on (Some m) name len old most count sum got within few some many fits has more =
    record {
      behind = omega arith;
      within = omega (arith, within, few, fits);
      sums = λ bytes file so_far. piece_sums bytes old most count sum got file.are_bytes (piece_is m name len old.place most count got bytes within few many has file) more so_far;
      goes_on = λ bytes file left. let all = (piece_is m name len old.place most count got bytes within few many has file).all in omega (arith, all, some left);
    }
