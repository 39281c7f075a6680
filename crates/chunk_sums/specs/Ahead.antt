-- Bytes moved ahead. The register is linear, and some sparse polynomials are multiples of that of
-- CRC32C: so a byte counts as much as the same byte joined, by exclusive or, onto a few bytes behind
-- it. A window holds the bytes that were moved last. Its places are counted from its front: a byte
-- that goes t bytes ahead is read at the window's length less t.
use Rattle.std.specs.Prelude.{ℕ, zero, suc, ◌≡◌, ◌-◌, ◌^◌, ◌&&◌, Bool, true, cond, eqb, ltb, T, List, [], ◌∷◌, drop, slice_index, bit_xor, refl}
use Rattle.chunk_sums.specs.Crc.{register, bit_step, byte_step, advance, crc32_polynomial, crc32c_polynomial}

-- a byte, joined to those at some places of a window
unfoldable pub joined : List ℕ → List ℕ → ℕ → ℕ
joined [] window b = b
joined (i ∷ is) window b = joined is window (bit_xor b (slice_index window i))

-- bytes, each joined to what the window that slides along them has for it
unfoldable pub mixed : List ℕ → List ℕ → List ℕ → List ℕ
mixed places window [] = []
mixed places window (b ∷ bs) = joined places window b ∷ mixed places (drop 1 window) bs

-- the register after bytes onto which a window is still to be moved, from 0
abbrev pub held : ℕ → List ℕ → List ℕ → List ℕ → ℕ
held poly places window bytes = register poly 0 (mixed places window bytes)

-- 130, 310, 340, 390 and 418 bytes on, in a window of 418
abbrev pub far_places : List ℕ
far_places = 288 ∷ 108 ∷ 78 ∷ 28 ∷ 0 ∷ []

-- For CRC32C 65, 155, 170, 195 and 209 bytes on, in a window of 224.
abbrev pub crc32c_wide : List ℕ
crc32c_wide = 159 ∷ 69 ∷ 54 ∷ 29 ∷ 15 ∷ []

-- For CRC32C 47, 51, 55, 85, 90, 100 and 104 bytes on, in a window of 112.
abbrev pub crc32c_near : List ℕ
crc32c_near = 65 ∷ 61 ∷ 57 ∷ 27 ∷ 22 ∷ 12 ∷ 8 ∷ []

-- For CRC32 129, 138, 150, 169, 183 and 212 bytes on, in a window of 224.
abbrev pub crc32_wide : List ℕ
crc32_wide = 95 ∷ 86 ∷ 74 ∷ 55 ∷ 41 ∷ 12 ∷ []

-- For CRC32 37, 49, 60, 62, 75, 80 and 109 bytes on, in a window of 112.
abbrev pub crc32_near : List ℕ
crc32_near = 75 ∷ 63 ∷ 52 ∷ 50 ∷ 37 ∷ 32 ∷ 3 ∷ []

-- ---- which places count alike

-- what stands at place i of a window that has v at place p and 0 elsewhere
unfoldable pub only : ℕ → ℕ → ℕ → ℕ
only i p v = cond (eqb i p) v 0

-- what such a window gives for the places
unfoldable pub struck : List ℕ → ℕ → ℕ → ℕ → ℕ
struck [] p v b = b
struck (i ∷ is) p v b = struck is p v (bit_xor b (only i p v))

-- the register after the bytes that such a window gives as it slides along, until v has left it
unfoldable pub walk : ℕ → List ℕ → ℕ → ℕ → ℕ → ℕ
walk poly places zero r v = r
walk poly places (suc p) r v = walk poly places p (byte_step poly (bit_xor r (struck places p v 0))) v

-- v counts as much from the places as where it stands
unfoldable pub Agrees : ℕ → List ℕ → ℕ → ℕ → Type 0
Agrees poly places far v = walk poly places far 0 v ≡ advance poly (suc far) v

-- each place is less than `far`
unfoldable pub within : ℕ → List ℕ → Bool
within far [] = true
within far (i ∷ is) = ltb i far && within far is

-- The places of a window of `far` bytes by which bytes are moved ahead. They are those of a multiple of the polynomial: one
-- equation says so. Each is sixteen bytes or more before the end of the window.
pub record IsSpan (poly : ℕ) (places : List ℕ) (far : ℕ) : Type 0 where
  pub top : Agrees poly places far (2 ^ 31)
  pub inside : T (within (far - 15) places)

pub crc32c_wide_span : IsSpan crc32c_polynomial crc32c_wide 224
unfolding Agrees walk struck only advance byte_step bit_step within
crc32c_wide_span = record { top = refl; inside = tt }

pub crc32c_near_span : IsSpan crc32c_polynomial crc32c_near 112
unfolding Agrees walk struck only advance byte_step bit_step within
crc32c_near_span = record { top = refl; inside = tt }

pub crc32_wide_span : IsSpan crc32_polynomial crc32_wide 224
unfolding Agrees walk struck only advance byte_step bit_step within
crc32_wide_span = record { top = refl; inside = tt }

pub crc32_near_span : IsSpan crc32_polynomial crc32_near 112
unfolding Agrees walk struck only advance byte_step bit_step within
crc32_near_span = record { top = refl; inside = tt }
