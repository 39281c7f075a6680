-- Reads that go on over connections of which the end wasn't taken, and changes that leave them so.
use Rattle.std.proofs.Common.{◌≡◌, ℕ, Bool, false, List, refl, sym, ◌∙◌, subst}
use Rattle.std.specs.Prelude.{◌==◌}
use Rattle.read_core.specs.Readings.{ReadingState}
use Rattle.world_settling.specs.World.Parts.{Message, Marks, Reader, no_reader, reads, has_read}
use Rattle.world_settling.specs.World.Worlds.{World, Change, ups_with, marks_with, apply}
use Rattle.world_orders.proofs.WorldLaws.FactTables.{if-each}
use Rattle.world_settling.proofs.ReaderNodeAsides.{Stays}
use Rattle.reader_events.specs.Orders.{HasTaken, IsOpenRead}

-- A reader that reads reads on, over a connection with these marks.
abbrev pub ReadsOn : (ℕ → Marks) → Reader → Type 0
ReadsOn marks (reads c s) = IsOpenRead (marks c) s
ReadsOn marks other = Unit {0}

-- so do all
pub record AllRead (w : World) : Type 0 where
  pub all : (line : ℕ) → ReadsOn w.up_marks (w.readers line)

-- of this connection as much was taken
pub record SameTaken (a b : Marks) : Type 0 where
  pub taken : b.taken ≡ a.taken
  pub over : b.over ≡ a.over

pub open-on : (a b : Marks) (s : ReadingState) → SameTaken a b → IsOpenRead a s → IsOpenRead b s
open-on a b s e h = record { heard = subst (HasTaken s.phase) (sym e.taken) h.heard; open_is = e.over ∙ h.open_is }

pub reads-on : (p q : ℕ → Marks) (r : Reader) → ((c : ℕ) (s : ReadingState) → r ≡ reads c s → SameTaken (p c) (q c)) → ReadsOn p r → ReadsOn q r
reads-on p q no_reader same h = tt
reads-on p q (reads c s) same h = open-on (p c) (q c) s (same c s refl) h
reads-on p q (has_read x) same h = tt

-- a shut takes nothing
pub shut-same : (shuts : ℕ → Bool) (sent : ℕ → List Message) (marks : ℕ → Marks) (c : ℕ) → SameTaken (marks c) (marks_with shuts sent marks c)
shut-same shuts sent marks c = if-each (λ (m : Marks). SameTaken (marks c) m) (shuts c) _ _ (λ e. record { taken = refl; over = refl }) (λ e. record { taken = refl; over = refl })

-- what a change leaves, where what holds of its reader is known
pub change-reads : (w : World) (k : Change) → ReadsOn w.up_marks k.reader → ((line : ℕ) → (line == k.reader_at) ≡ false → ReadsOn w.up_marks (w.readers line)) → AllRead (apply w k)
unfolding apply
change-reads w k here others = record {
  all = λ line.
      if-each (ReadsOn (marks_with k.shuts (ups_with w k) w.up_marks)) (line == k.reader_at) k.reader (w.readers line)
      (λ e. reads-on w.up_marks _ k.reader (λ c s is. shut-same k.shuts (ups_with w k) w.up_marks c) here)
      (λ e. reads-on w.up_marks _ (w.readers line) (λ c s is. shut-same k.shuts (ups_with w k) w.up_marks c) (others line e));
}

pub stays-read : (w : World) (k : Change) → Stays w k → AllRead w → AllRead (apply w k)
stays-read w k same h = change-reads w k (subst (ReadsOn w.up_marks) (sym same.reader) (h.all k.reader_at)) (λ line e. h.all line)
