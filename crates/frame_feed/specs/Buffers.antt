-- The bytes of a stream that are not yet taken.
use Rattle.std.specs.Prelude.{◌≡◌, ◌⊎◌, ℕ, List, ◌++◌, drop, Result, Ok, Err}
use Rattle.frame_feed.specs.declared.buffer.Buffer.{Buffer}
use Rattle.frame_feed.specs.declared.faults.NoMessage.{NoMessage}
use Rattle.frame_feed.specs.declared.faults.NoMessage.TheVariants.{Memory}

-- all of them, in order
abbrev pub held : Buffer → List ℕ
held b = b.front ++ b.bytes.items

-- What a call takes off the front is what reading gives; where it takes nothing, memory ran out or reading says why, and the bytes stay.
abbrev pub TakesAsRead : {M : Type 0} → (List ℕ → Result (M × ℕ) NoMessage) → List ℕ → Result M NoMessage → List ℕ →
    Type 0
TakesAsRead reads old (Ok m) new = (k : ℕ) × ((reads old ≡ Ok (m, k)) × (new ≡ drop k old))
TakesAsRead reads old (Err why) new = (new ≡ old) × ((why ≡ Memory) ⊎ (reads old ≡ Err why))
