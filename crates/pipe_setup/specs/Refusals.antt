-- Why a member refuses a write request.
use Rattle.member_core.specs.RequestRefusals.RequestRefusal.{RequestRefusal}
use Rattle.member_core.specs.RequestRefusals.RequestRefusal.TheVariants as request
use Rattle.pipe_setup.specs.declared.refusals.SetupRefusal.{SetupRefusal}
use Rattle.pipe_setup.specs.declared.refusals.SetupRefusal.TheVariants as setup

-- what the answer to the request says
abbrev pub refusal_of : SetupRefusal → RequestRefusal
refusal_of (setup.Core refusal receipt) = request.Core refusal
refusal_of (setup.Stage stage) = request.Stage stage
refusal_of setup.Pool = request.Pool
refusal_of (setup.Checksum kind chunk) = request.Checksum kind chunk
refusal_of (setup.TooMany targets) = request.TooMany targets

-- The replica wasn't asked.
abbrev pub IsUnbooked : SetupRefusal → Type 0
IsUnbooked (setup.Core refusal receipt) = ⊥
IsUnbooked other = Unit {0}

-- A request may be refused so before the replica is asked.
abbrev pub IsBefore : RequestRefusal → Type 0
IsBefore (request.Core refusal) = ⊥
IsBefore request.File = ⊥
IsBefore request.Memory = ⊥
IsBefore other = Unit {0}
