-- The numbers of refusals, and tests that refuse.
use Rattle.std.specs.Prelude.{ℕ, Bool, if◌then◌else◌, Result, Err}
use Rattle.replica_core.specs.declared.refusals.Refusal.{Refusal}
use Rattle.replica_core.specs.declared.refusals.Refusal.TheVariants as refusal
use Rattle.replica_core.specs.declared.refusals.PieceRule.{PieceRule}
use Rattle.replica_core.specs.declared.refusals.PieceRule.TheVariants as rule

-- the number of a refusal
abbrev pub refusal_number : Refusal → ℕ
refusal_number refusal.NoReplica = 1
refusal_number refusal.Exists = 2
refusal_number (refusal.WrongState state) = 3
refusal_number (refusal.Stale info low high) = 4
refusal_number (refusal.LengthOut acked written min max) = 5
refusal_number refusal.NotWriter = 6
refusal_number (refusal.Gap written offset) = 7
refusal_number (refusal.BadSum chunk) = 8
refusal_number (refusal.Piece rule) = 9
refusal_number refusal.Broken = 10
refusal_number (refusal.RecoveryHeld id) = 11
refusal_number (refusal.Seqno want got) = 12
refusal_number (refusal.OutOfRange visible) = 13

-- the number of a rule
abbrev pub rule_number : PieceRule → ℕ
rule_number rule.Negative = 0
rule_number rule.Heartbeat = 1
rule_number rule.AfterLast = 2
rule_number rule.LastShape = 3
rule_number rule.MidChunk = 4
rule_number rule.Sums = 5
rule_number rule.TooLong = 6

-- a test, its refusal where it fails, and what follows where it holds
abbrev pub check : {X : Type 0} → Bool → Refusal → Result X Refusal → Result X Refusal
check holds refused next = if holds then next else Err refused
