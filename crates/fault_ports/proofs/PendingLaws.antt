-- Laws of the pieces that wait to be flushed.
use Rattle.std.proofs.Common.{◌≡◌, ℕ, Bool, cond, List, length, Option, Some, None, IfSome, MatchOption, is_some, arith}
use Rattle.std.proofs.lemmas.Grind.{common_steps}
use Rattle.hd_base.specs.Channels.{Plain, unflushed}
use Rattle.fault_ports.specs.Halves.{PendingIs}

none_left : (sent : List (List ℕ)) (lost : ℕ) → 0 ≡ length (unflushed sent (length sent) lost)
none_left sent lost = grind (arith, common_steps)

flushed_all : (P : Option Plain) (pending : ℕ) (S : Option (List (List ℕ))) (fl now lost : ℕ) (shut : Bool) → MatchOption P (now ≡ fl) (λ p. IfSome S (λ sent. now ≡ length sent))
    → PendingIs pending S fl lost shut → PendingIs (cond (is_some P) 0 pending) S now lost shut
flushed_all P pending None fl now lost shut is h = h
flushed_all None pending (Some sent) fl now lost shut is h = rw is h
flushed_all (Some p) pending (Some sent) fl now lost shut is h = rw is (none_left sent lost, omega arith, h.2)

-- After an exchange all that was sent is flushed, over plain memory.
pub pending-after : (P : Option Plain) (plain : Bool) (pending result : ℕ) (S S' : Option (List (List ℕ))) (fl now lost lost' : ℕ) (shut : Bool) → plain ≡ is_some P → result ≡ cond plain 0 pending → S' ≡ S → lost' ≡ lost
    → MatchOption P (now ≡ fl) (λ p. IfSome S (λ sent. now ≡ length sent)) → PendingIs pending S fl lost shut → PendingIs result S' now lost' shut
pending-after P plain pending result S S' fl now lost lost' shut told is same none flushed h =
    rw (is, same, none, told) (flushed_all P pending S fl now lost shut flushed h)
