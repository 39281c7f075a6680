-- The numbers of opcodes.
use Rattle.std.specs.Prelude.{ℕ, ◌==◌, if◌then◌else◌, Option, Some, None}
use Rattle.op_headers.specs.declared.opcodes.Opcode.{Opcode}
use Rattle.op_headers.specs.declared.opcodes.Opcode.TheVariants as opcode

abbrev pub opcode_number : Opcode → ℕ
opcode_number opcode.WriteBlock = 80
opcode_number opcode.ReadBlock = 81
opcode_number opcode.BlockChecksum = 85
opcode_number opcode.TransferBlock = 86
opcode_number opcode.Custom = 127

-- the opcode with this number, if there is one
abbrev pub opcode_with : ℕ → Option Opcode
opcode_with n =
    if n == 80 then Some opcode.WriteBlock
    else if n == 81 then Some opcode.ReadBlock
    else if n == 85 then Some opcode.BlockChecksum
    else if n == 86 then Some opcode.TransferBlock
    else if n == 127 then Some opcode.Custom
    else None
