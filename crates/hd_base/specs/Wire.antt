-- The numbers of statuses and replica states in messages.
use Rattle.std.specs.Prelude.{ℕ, ◌%◌, ◌^◌, ◌<◌, ◌==◌, if◌then◌else◌, List, codes}
use Rattle.hd_base.specs.declared.states.Status.{Status}
use Rattle.hd_base.specs.declared.states.Status.TheVariants as status
use Rattle.hd_base.specs.declared.states.ReplicaState.{ReplicaState}
use Rattle.hd_base.specs.declared.states.ReplicaState.TheVariants as state

-- the number of a status
abbrev pub status_number : Status → ℕ
status_number status.Success = 0
status_number status.Error = 1
status_number status.ErrorChecksum = 2
status_number status.ErrorInvalid = 3
status_number status.ErrorExists = 4
status_number status.ErrorAccessToken = 5
status_number status.ChecksumOk = 6
status_number status.ErrorUnsupported = 7
status_number (status.Other n) = n

-- No Other in its place has a number that is listed.
abbrev pub IsStatus : Status → Type 0
IsStatus (status.Other n) = 7 < n
IsStatus _ = Unit {0}

-- the status with this number
abbrev pub status_with : ℕ → Status
status_with n =
    if n == 0 then status.Success
    else if n == 1 then status.Error
    else if n == 2 then status.ErrorChecksum
    else if n == 3 then status.ErrorInvalid
    else if n == 4 then status.ErrorExists
    else if n == 5 then status.ErrorAccessToken
    else if n == 6 then status.ChecksumOk
    else if n == 7 then status.ErrorUnsupported
    else status.Other n

-- The status that a varint of a message stands for: an enum takes its low 32 bits.
unfoldable pub decoded_status : ℕ → Status
decoded_status n = status_with (n % 2 ^ 32)

-- the number of a replica's state
abbrev pub state_number : ReplicaState → ℕ
state_number state.Finalized = 0
state_number state.Rbw = 1
state_number state.Rwr = 2
state_number state.Rur = 3
state_number state.Temporary = 4

-- the name of a replica's state in reports
abbrev pub state_name : ReplicaState → List ℕ
state_name state.Finalized = codes "FINALIZED"
state_name state.Rbw = codes "RBW"
state_name state.Rwr = codes "RWR"
state_name state.Rur = codes "RUR"
state_name state.Temporary = codes "TEMPORARY"
