-- The message of a refusal: its number and the values that it keeps, in the order of its fields, in decimal, with a space between two.
use Rattle.std.specs.Prelude.{ℕ, ℤ, List, [], ◌∷◌, ◌++◌, Option, Some, None, decimal}
use Rattle.std.specs.Fmt.{signed_decimal}
use Rattle.hd_base.specs.Wire.{state_number}
use Rattle.replica_core.specs.Refusals.{refusal_number, rule_number}
use Rattle.replica_core.specs.declared.refusals.Refusal.{Refusal}
use Rattle.replica_core.specs.declared.refusals.Refusal.TheVariants as refusal
use Rattle.request_refusals.specs.declared.refusals.RequestRefusal.{RequestRefusal}
use Rattle.request_refusals.specs.declared.refusals.RequestRefusal.TheVariants as request

-- the number of a refusal
abbrev pub request_refusal_number : RequestRefusal → ℕ
request_refusal_number (request.Core r) = refusal_number r
request_refusal_number (request.Stage stage) = 14
request_refusal_number request.Pool = 15
request_refusal_number (request.Checksum kind chunk) = 16
request_refusal_number request.File = 17
request_refusal_number request.Memory = 18
request_refusal_number (request.TooMany targets) = 19

-- a space and a number
unfoldable pub spaced : ℕ → List ℕ
spaced n = 32 ∷ decimal n

-- a space and a number that may be negative
unfoldable pub spaced_signed : ℤ → List ℕ
spaced_signed n = 32 ∷ signed_decimal n

-- a space and a number, or a dash where there is none
abbrev pub spaced_if_there : Option ℤ → List ℕ
spaced_if_there None = 32 ∷ 45 ∷ []
spaced_if_there (Some n) = spaced_signed n

-- the values that a replica's refusal keeps
unfoldable pub kept_text : Refusal → List ℕ
kept_text refusal.NoReplica = []
kept_text refusal.Exists = []
kept_text (refusal.WrongState state) = spaced (state_number state)
kept_text (refusal.Stale held low high) = (spaced held.0 ++ spaced low.0) ++ spaced high.0
kept_text (refusal.LengthOut acked written min max) = ((spaced acked ++ spaced written) ++ spaced min) ++ spaced max
kept_text refusal.NotWriter = []
kept_text (refusal.Gap written offset) = spaced written ++ spaced offset
kept_text (refusal.BadSum chunk) = spaced chunk
kept_text (refusal.Piece rule) = spaced (rule_number rule)
kept_text refusal.Broken = []
kept_text (refusal.RecoveryHeld id) = spaced id.0
kept_text (refusal.Seqno want got) = spaced_if_there want ++ spaced_signed got
kept_text (refusal.OutOfRange visible) = spaced visible

-- the values that a refusal keeps
unfoldable pub values_text : RequestRefusal → List ℕ
values_text (request.Core r) = kept_text r
values_text (request.Stage stage) = spaced stage
values_text request.Pool = []
values_text (request.Checksum kind chunk) = spaced kind ++ spaced chunk
values_text request.File = []
values_text request.Memory = []
values_text (request.TooMany targets) = spaced targets

-- the message
abbrev pub refusal_text : RequestRefusal → List ℕ
refusal_text r = decimal (request_refusal_number r) ++ values_text r
