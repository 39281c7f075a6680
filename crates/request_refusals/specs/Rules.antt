-- The rule of sums that a message names by two numbers.
use Rattle.std.specs.Prelude.{ℕ, ◌==◌, ◌&&◌, nat_le, if◌then◌else◌, Option, Some, None}
use Rattle.hd_base.specs.declared.sum_rule.SumKind.{SumKind}
use Rattle.hd_base.specs.declared.sum_rule.SumKind.TheVariants as kind
use Rattle.hd_base.specs.declared.sum_rule.TheConstants.{MIN_CHUNK_SIZE, MAX_CHUNK_SIZE}
use Rattle.hd_base.specs.SumRules.{Rule}

-- the kind of sums with this number
abbrev pub kind_with : ℕ → Option SumKind
kind_with number =
    if number == 0 then Some kind.Null
    else if number == 1 then Some kind.Crc32
    else if number == 2 then Some kind.Crc32c
    else None

-- the rule of this kind, where a chunk may have so many bytes
abbrev pub rule_of_kind : Option SumKind → ℕ → Option Rule
rule_of_kind None chunk = None
rule_of_kind (Some k) chunk =
    if nat_le MIN_CHUNK_SIZE chunk && nat_le chunk MAX_CHUNK_SIZE then Some (record { kind = k; chunk = chunk })
    else None

-- The rule of the kind with this number and of this chunk size, if there is one.
unfoldable pub rule_with : ℕ → ℕ → Option Rule
rule_with kind chunk = rule_of_kind (kind_with kind) chunk
