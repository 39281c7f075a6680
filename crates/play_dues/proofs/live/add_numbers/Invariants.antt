-- The numbers so far are listed.
use Rattle.std.proofs.Common.{◌≡◌, ℕ, Bool}
use Rattle.play_dues.specs.Live.{passing, or_from}
use Rattle.play_dues.proofs.live.add_numbers.Given as goal

abbrev pub invariant-loop-index : goal.invariant-loop-index
invariant-loop-index l =
    (has : ℕ → Bool) → l.fn.conns.items ≡ passing has l.from → l.conns.items ≡ passing (or_from l.from has) l.index
