-- Varints of Protocol Buffers: seven bits a byte, the least first, and the high bit on all bytes but the last.
use Rattle.std.specs.Prelude.{◌≡◌, ℕ, zero, suc, ◌+◌, ◌-◌, ◌*◌, ◌/◌, ◌%◌, ◌^◌, ◌<◌, ◌≤◌, List, [], ◌∷◌, ◌++◌, length, take, nat_lt, if◌then◌else◌, Result, Ok, Err}
use Rattle.proto_fields.specs.declared.varints.VarintFault.{VarintFault}
use Rattle.proto_fields.specs.declared.varints.VarintFault.TheVariants.{Short, Long}
use Rattle.hd_base.specs.Results.{◌>>=◌}

-- the number that the low seven bits of the bytes spell, the least first
abbrev pub sevens : List ℕ → ℕ
sevens [] = 0
sevens (b ∷ bs) = b % 128 + 128 * sevens bs

-- The last byte has no high bit, and each byte before it has one.
abbrev pub IsVarint : List ℕ → Type 0
IsVarint [] = ⊥
IsVarint (b ∷ []) = b < 128
IsVarint (b ∷ c ∷ bs) = (128 ≤ b) × (b < 256) × IsVarint (c ∷ bs)

-- A varint has at most ten bytes, and its value is its low 64 bits.
pub record SpellsVarint (text : List ℕ) (n : ℕ) : Type 0 where
  pub shape : IsVarint text
  pub short : length text ≤ 10
  pub value : n ≡ sevens text % 2 ^ 64

-- The bytes begin with a varint of this value, and go on with this rest.
pub record BeginsWithVarint (bytes : List ℕ) (n : ℕ) (rest : List ℕ) : Type 0 where
  pub text : List ℕ
  pub parts : bytes ≡ text ++ rest
  pub spelled : SpellsVarint text n

-- Every byte has its high bit, so none of them ends a varint.
abbrev pub IsUnended : List ℕ → Type 0
IsUnended [] = Unit {0}
IsUnended (b ∷ bs) = (128 ≤ b) × IsUnended bs

-- The bytes end before the varint that they begin with.
pub record IsCutVarint (bytes : List ℕ) : Type 0 where
  pub open_end : IsUnended bytes
  pub few : length bytes < 10

-- The bytes begin with ten that don't end a varint.
pub record IsLongVarint (bytes : List ℕ) : Type 0 where
  pub open_end : IsUnended (take 10 bytes)
  pub many : 10 ≤ length bytes

-- The varint at the front of the bytes, of at most so many bytes, and the bytes behind it.
unfoldable pub varint_within : ℕ → List ℕ → Result (ℕ × List ℕ) VarintFault
varint_within zero bytes = Err Long
varint_within (suc left) [] = Err Short
varint_within (suc left) (b ∷ bs) = if nat_lt b 128 then Ok (b, bs) else do
  high ← varint_within left bs
  Ok ((high.0 * 128 + (b - 128)) % 2 ^ 64, high.1)

abbrev pub varint_at : List ℕ → Result (ℕ × List ℕ) VarintFault
varint_at bytes = varint_within 10 bytes

-- The least spelling of a number of at most so many times seven bits.
unfoldable pub least_within : ℕ → ℕ → List ℕ
least_within zero n = []
least_within (suc left) n = if nat_lt n 128 then n ∷ [] else (n % 128 + 128) ∷ least_within left (n / 128)

-- The least spelling of a number below 2 ^ 64.
abbrev pub least_varint : ℕ → List ℕ
least_varint n = least_within 10 n
