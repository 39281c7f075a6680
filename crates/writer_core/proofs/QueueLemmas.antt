-- The first command of a queue.
use Rattle.std.proofs.Common.{◌≡◌, ◌+◌, List, [], ◌∷◌, ◌++◌, length, drop, slice_get, Some, ap, sym, arith, add-one}
use Rattle.writer_core.specs.declared.commands.Command.{Command}
use Rattle.writer_core.specs.Commands.{command_length, queued_bytes}

-- how much is queued, apart from the first command
pub first_off : (q : List Command) (c : Command) → slice_get q 0 ≡ Some c → queued_bytes q ≡ command_length c + queued_bytes (drop 1 q)
first_off [] c e = absurd (cc)
first_off (x ∷ q) c e = let s : x ≡ c = cc in ap (λ y. command_length y + queued_bytes q) s

pub one_less : (q : List Command) (c : Command) → slice_get q 0 ≡ Some c → length q ≡ length (drop 1 q) + 1
one_less [] c e = absurd (cc)
one_less (x ∷ q) c e = sym (add-one (length q))

pub queued_more : (q : List Command) (c : Command) → queued_bytes (q ++ c ∷ []) ≡ queued_bytes q + command_length c
queued_more [] c = omega arith
queued_more (x ∷ q) c = omega (arith, queued_more q c)
