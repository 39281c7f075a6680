-- Four pieces in four lanes.
use Rattle.std.specs.Prelude.{ℕ, ◌≡◌, ◌+◌, ◌-◌, ◌≤◌, List, [], ◌∷◌, length}
use Rattle.std.specs.Int.{w32, bit_not}
use Rattle.hd_base.specs.Bytes.{IsBytes}
use Rattle.chunk_sums.specs.Crc.{register}
use Rattle.chunk_sums.specs.Lanes.{IsClean, IsSpread, IsBrought, IsMixed, carried}
use Rattle.chunk_sums.specs.declared.four.Lane.{Lane}
use Rattle.chunk_sums.specs.declared.four.Lanes.{Lanes}
use Rattle.chunk_sums.specs.declared.four.Pieces.{Pieces}

-- the sum of some bytes by a polynomial in its reflected form
abbrev pub sum_by : ℕ → List ℕ → ℕ
sum_by poly bytes = bit_not w32 (register poly 0xFFFF_FFFF bytes)

module _ {N : ℕ} where
  -- a relation of each of four pieces to its lane
  abbrev pub OfEach : (List ℕ → Lane N → Type 0) → Pieces → Lanes N → Type 0
  OfEach R pieces lanes =
      R pieces.a.now lanes.a × R pieces.b.now lanes.b × R pieces.c.now lanes.c × R pieces.d.now lanes.d

  -- a piece is long enough to be moved, and fits into its lane
  abbrev pub HasRoom : List ℕ → Lane N → Type 0
  HasRoom piece lane = (512 ≤ length piece) × (length piece + 16 ≤ N)

  -- the first n bytes of a piece were moved along the wide lane
  abbrev pub IsSpreadTo : List ℕ → ℕ → List ℕ → Lane N → Type 0
  IsSpreadTo wide n piece lane =
      HasRoom piece lane × IsSpread wide piece lane.wide n × IsClean 112 112 lane.near

  -- the first n of the last 224 bytes of a piece were moved along the near lane
  abbrev pub IsBroughtTo : List ℕ → List ℕ → ℕ → List ℕ → Lane N → Type 0
  IsBroughtTo wide near n piece lane = HasRoom piece lane × IsBrought wide near piece lane.wide lane.near n

  -- the first n of the last 112 bytes of a piece were mixed with all that was moved
  abbrev pub IsMixedTo : List ℕ → List ℕ → ℕ → List ℕ → Lane N → Type 0
  IsMixedTo wide near n piece lane =
      IsBroughtTo wide near 112 piece lane × IsMixed near (carried wide piece lane.wide) lane.near lane.mixed n

  -- a piece and the buffers of its lane hold bytes, and the buffers have their lengths
  abbrev pub IsSound : List ℕ → Lane N → Type 0
  IsSound piece lane =
      IsBytes piece × IsBytes lane.wide × IsBytes lane.near × (length piece ≤ length lane.wide)
      × (length lane.near ≡ 240) × (length lane.mixed ≡ 112)

  -- a lane is 0 but for where a piece of so many bytes is moved
  abbrev pub IsReady : ℕ → Lane N → Type 0
  IsReady size lane = IsClean 224 (size - 224) lane.wide × IsClean 112 112 lane.near

  -- each lane is
  abbrev pub AreReady : ℕ → Lanes N → Type 0
  AreReady size lanes = IsReady size lanes.a × IsReady size lanes.b × IsReady size lanes.c × IsReady size lanes.d

  -- the last bytes of four pieces
  abbrev pub all_mixed : Lanes N → List (List ℕ)
  all_mixed lanes = lanes.a.mixed ∷ lanes.b.mixed ∷ lanes.c.mixed ∷ lanes.d.mixed ∷ []
