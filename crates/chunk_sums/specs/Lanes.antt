-- Pieces of a body in lanes. A lane is a buffer that begins with a window of zeros; the bytes of a piece that are moved ahead
-- stand behind it in order, and zeros behind these.
use Rattle.std.specs.Prelude.{ℕ, ◌≡◌, ◌+◌, ◌-◌, ◌<◌, ◌≤◌, List, [], ◌∷◌, length, drop, slice_index}
use Rattle.chunk_sums.specs.Ahead.{joined, mixed}

-- bytes, with the register that a sum starts from joined to the first four
abbrev pub started : List ℕ → List ℕ
started bytes = mixed (0 ∷ []) (255 ∷ 255 ∷ 255 ∷ 255 ∷ []) bytes

-- a lane whose window has `far` bytes is 0 before and behind the bytes that are moved, of which there are at most `room`
pub record IsClean (far room : ℕ) (lane : List ℕ) : Type 0 where
  pub before : (k : ℕ) → k < far → slice_index lane k ≡ 0
  pub behind : (k : ℕ) → far + room ≤ k → slice_index lane k ≡ 0

-- The first n of some bytes were moved along a lane whose window has `far` bytes: each was joined to what stands at the places
-- of the window before it.
pub record IsMoved (places : List ℕ) (far room : ℕ) (bytes lane : List ℕ) (n : ℕ) : Type 0 where
  pub moved : (k : ℕ) → k < n → slice_index lane (far + k) ≡ joined places (drop k lane) (slice_index bytes k)
  pub clean : IsClean far room lane

-- the first n bytes of a piece were moved along a lane; the last 224 of the piece are not to be
abbrev pub IsSpread : List ℕ → List ℕ → List ℕ → ℕ → Type 0
IsSpread places piece lane n = IsMoved places 224 (length piece - 224) (started piece) lane n

-- the last 224 bytes of a piece, each joined to what a lane has for it, along which those before them were moved
abbrev pub carried : List ℕ → List ℕ → List ℕ → List ℕ
carried places piece lane = mixed places (drop (length piece - 224) lane) (drop (length piece - 224) (started piece))

-- the first n bytes behind those that were moved along a lane, each joined to what the lane has for it
abbrev pub IsMixed : List ℕ → List ℕ → List ℕ → List ℕ → ℕ → Type 0
IsMixed places bytes lane mixed n =
    (k : ℕ) → k < n → slice_index mixed k ≡ joined places (drop (112 + k) lane) (slice_index bytes (112 + k))

-- the first n of the last 224 bytes of a piece were moved along the near lane, once all before them were along the wide one
abbrev pub IsBrought : List ℕ → List ℕ → List ℕ → List ℕ → List ℕ → ℕ → Type 0
IsBrought wide near piece wide_lane near_lane n =
    IsSpread wide piece wide_lane (length piece - 224) × IsMoved near 112 112 (carried wide piece wide_lane) near_lane n
