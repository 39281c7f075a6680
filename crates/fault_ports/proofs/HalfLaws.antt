-- Laws of what an inward half holds behind a byte that was received in advance.
use Rattle.std.proofs.Common.{◌≡◌, ℕ, ◌<◌, ◌≤◌, ◌==◌, Bool, true, false, List, [], ◌∷◌, length, take, set, Option, Some, None, option_map, option_and_then, refl, ap, arith, lit<, length-set}
use Rattle.std.proofs.lemmas.Grind.{common_steps}
use Rattle.std.proofs.lemmas.Bool.Decides.{nat_tests}
use Rattle.hd_base.specs.Links.{Inbox, in_front}
use Rattle.fault_ports.specs.Halves.{inbox_behind, held_behind}

taken_first : (byte : ℕ) (ended : Bool) (inbox : Inbox) → inbox_behind (Some byte) ended inbox ≡ in_front (byte ∷ []) (inbox_behind None false inbox)
taken_first byte true inbox = let apart : (length (byte ∷ inbox.bytes) == 0) ≡ false = grind (arith, nat_tests) in rw apart refl
taken_first byte false inbox = refl

taken_first_in : (byte : ℕ) (ended : Bool) (held : Option Inbox) → option_map (inbox_behind (Some byte) ended) held ≡ option_map (in_front (byte ∷ [])) (option_map (inbox_behind None false) held)
taken_first_in byte ended None = refl
taken_first_in byte ended (Some inbox) = ap Some (taken_first byte ended inbox)

taken_front : (buffer : List ℕ) (byte : ℕ) → 0 < length buffer → take 1 (set buffer 0 byte) ≡ byte ∷ []
taken_front [] byte some = absurd (omega (arith, some))
taken_front (x ∷ xs) byte some = grind (arith, common_steps)

-- The byte that was received in advance is given first.
pub received-first : {I : Type 0} (held : I → Option Inbox) (half : Option I) (first now : Option ℕ) (byte : ℕ) (ended : Bool) (buffer : List ℕ) → first ≡ Some byte → now ≡ None → 0 < length buffer → (0 < 1) × (1 ≤ length (set buffer 0 byte)) × (held_behind held half first ended ≡ option_map (in_front (take 1 (set buffer 0 byte))) (held_behind held half now false))
received-first held half first now byte ended buffer is gone some =
    (lit< tt, omega (arith, some, length-set buffer 0 byte), rw (is, gone, taken_front buffer byte some) (taken_first_in byte ended (option_and_then held half)))
