-- The numbers by which replies are compared.
use Rattle.std.specs.Prelude.{ℕ, ◌+◌}
use Rattle.hd_base.specs.declared.states.Status.{Status}
use Rattle.hd_base.specs.declared.states.Status.TheVariants as status
use Rattle.hd_base.specs.Wire.{status_number}

-- a number for each status, another one for each
abbrev pub status_code : Status → ℕ
status_code (status.Other n) = n + 8
status_code s = status_number s
