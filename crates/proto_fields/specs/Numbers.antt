-- Numbers of a fixed width in bytes.
use Rattle.std.specs.Prelude.{ℕ, List, length, take, drop, nat_lt, if◌then◌else◌, Option, Some, None, ℤ}
use Rattle.std.specs.Int.{Width, byte_len, to_le_bytes, from_le_bytes, to_be_bytes, from_be_bytes, cast_signed, cast_unsigned}
use Rattle.hd_base.specs.Options.{◌>>=◌}

-- The unsigned number of this width at the front, its lowest byte first, and the bytes behind it; nothing where the bytes end before.
unfoldable pub le_number_at : Width → List ℕ → Option (ℕ × List ℕ)
le_number_at w bytes = if nat_lt (length bytes) (byte_len w) then None
    else Some (from_le_bytes w (take (byte_len w) bytes), drop (byte_len w) bytes)

-- The same with the highest byte first.
unfoldable pub be_number_at : Width → List ℕ → Option (ℕ × List ℕ)
be_number_at w bytes = if nat_lt (length bytes) (byte_len w) then None
    else Some (from_be_bytes w (take (byte_len w) bytes), drop (byte_len w) bytes)

-- The signed number of this width at the front, in two's complement.
unfoldable pub le_signed_at : Width → List ℕ → Option (ℤ × List ℕ)
le_signed_at w bytes = do
  n ← le_number_at w bytes
  Some (cast_signed w n.0, n.1)

unfoldable pub be_signed_at : Width → List ℕ → Option (ℤ × List ℕ)
be_signed_at w bytes = do
  n ← be_number_at w bytes
  Some (cast_signed w n.0, n.1)

-- The bytes of a signed number.
abbrev pub le_signed_text : Width → ℤ → List ℕ
le_signed_text w z = to_le_bytes w (cast_unsigned w z)

abbrev pub be_signed_text : Width → ℤ → List ℕ
be_signed_text w z = to_be_bytes w (cast_unsigned w z)
