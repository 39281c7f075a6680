-- The sum of bytes over a polynomial, one bit at a time over a register of 32 bits: the polynomial in its reflected form, the
-- register all ones at first, each byte least bit first, and the register inverted at the end. CRC32 (Ethernet, zip) is the
-- polynomial 0x04C11DB7, CRC32C (iSCSI, RFC 3720) is 0x1EDC6F41.
use Rattle.std.specs.Prelude.{ℕ, zero, suc, ◌≡◌, ◌<◌, ◌≤◌, ◌/◌, ◌%◌, ◌*◌, List, [], ◌∷◌, length, take, drop, slice_index, fold, bit_xor, ◌==◌, if◌then◌else◌}
use Rattle.std.specs.Int.{w32, bit_not}
use Rattle.hd_base.specs.declared.sum_rule.SumKind.{SumKind}
use Rattle.hd_base.specs.declared.sum_rule.SumKind.TheVariants as kind

-- the register after one bit
unfoldable pub bit_step : ℕ → ℕ → ℕ
bit_step poly r = if r % 2 == 1 then bit_xor (r / 2) poly else r / 2

-- the register after eight bits, where the byte was joined to its low end before
unfoldable pub byte_step : ℕ → ℕ → ℕ
byte_step poly r =
    bit_step poly (bit_step poly (bit_step poly (bit_step poly (
    bit_step poly (bit_step poly (bit_step poly (bit_step poly r)))))))

-- the register after a byte
unfoldable pub enter : ℕ → ℕ → ℕ → ℕ
enter poly r byte = byte_step poly (bit_xor r byte)

-- the register after some bytes
abbrev pub register : ℕ → ℕ → List ℕ → ℕ
register poly r bytes = fold (enter poly) r bytes

-- the polynomial of CRC32 in its reflected form
abbrev pub crc32_polynomial : ℕ
crc32_polynomial = 0xEDB88320

-- the polynomial of CRC32C in its reflected form
abbrev pub crc32c_polynomial : ℕ
crc32c_polynomial = 0x82F63B78

-- the polynomial of a kind of sums; Null has none
abbrev pub polynomial : SumKind → ℕ
polynomial kind.Null = 0
polynomial kind.Crc32 = crc32_polynomial
polynomial kind.Crc32c = crc32c_polynomial

-- Bytes have a sum of this kind: not under Null.
abbrev pub HasSum : SumKind → Type 0
HasSum kind.Null = ⊥
HasSum kind.Crc32 = Unit {0}
HasSum kind.Crc32c = Unit {0}

-- the sum of some bytes
abbrev pub sum_of : SumKind → List ℕ → ℕ
sum_of k bytes = bit_not w32 (register (polynomial k) 0xFFFF_FFFF bytes)

-- the sum of bytes that go on behind others, whose sum is given
abbrev pub extended : SumKind → ℕ → List ℕ → ℕ
extended k sum bytes = bit_not w32 (register (polynomial k) (bit_not w32 sum) bytes)

-- the register after n times eight bits
unfoldable pub advance : ℕ → ℕ → ℕ → ℕ
advance poly zero r = r
advance poly (suc n) r = advance poly n (byte_step poly r)

-- the bytes as one number, the first lowest
unfoldable pub number : List ℕ → ℕ
number [] = 0
number (b ∷ bs) = bit_xor b (number bs * 256)

-- the register from 0 after four words, of four bytes each
abbrev pub through_four : ℕ → ℕ → ℕ → ℕ → ℕ → ℕ
through_four poly first second third fourth =
    bit_xor (bit_xor (bit_xor (advance poly 4 fourth) (advance poly 8 third)) (advance poly 12 second))
    (advance poly 16 first)

-- some words are those of some bytes, four bytes each
abbrev pub AreWords : List ℕ → List ℕ → Type 0
AreWords bytes words =
    (4 * length words ≤ length bytes)
    × ((k : ℕ) → k < length words → slice_index words k ≡ number (take 4 (drop (4 * k) bytes)))
