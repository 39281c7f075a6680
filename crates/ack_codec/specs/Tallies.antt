-- Repeated numbers, counted one after the other: the first 16 are kept as statuses.
use Rattle.std.specs.Prelude.{ℕ, ◌+◌, ◌-◌, ◌^◌, ◌≤◌, nat_lt, if◌then◌else◌, List, [], ◌∷◌, ◌++◌, length, Result, fold, min}
use Rattle.hd_base.specs.Results.{◌>>=◌, with_value}
use Rattle.proto_fields.specs.declared.reading.Wire.{Wire}
use Rattle.proto_fields.specs.declared.reading.Wire.TheVariants as wire
use Rattle.proto_fields.specs.declared.reading.WireFault.{WireFault}
use Rattle.hd_base.specs.Wire.{decoded_status}
use Rattle.ack_codec.specs.Packed.{given, given_under}
use Rattle.ack_codec.specs.declared.tallies.Tally.{Tally}

-- no number so far
abbrev pub empty_tally : Tally
empty_tally = record { kept = []; count = 0 }

-- one number more
unfoldable pub counted : Tally → ℕ → Tally
counted t n = record {
  kept = if nat_lt (length t.kept) 16 then t.kept ++ decoded_status n ∷ [] else t.kept;
  count = min (t.count + 1) (2 ^ 64 - 1);
}

-- the numbers that a value gives more
abbrev pub tallied : List ℕ → Tally → Wire → Result Tally WireFault
tallied bytes t value = with_value (fold counted t) (given bytes value)

-- The same of a field, where it has the number, unless a fault was found before.
abbrev pub newer_tally : ℕ → List ℕ → Result Tally WireFault → ℕ × Wire → Result Tally WireFault
newer_tally number bytes found f = found >>= λ t. with_value (fold counted t) (given_under number bytes f)

-- The places of a part lie within so many bytes.
abbrev pub LiesWithin : ℕ → Wire → Type 0
LiesWithin size (wire.Part from to) = (from ≤ to) × (to ≤ size)
LiesWithin size _ = Unit {0}
