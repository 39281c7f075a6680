-- What is true of the packet that is due.
use Rattle.std.proofs.Common.{◌≡◌, ◌≤◌, ◌<◌, ◌==◌, nat_le, nat_lt, ◌&&◌, Bool, true, false, length, Option, Some, None, if◌then◌else◌, refl, subst, arith}
use Rattle.std.specs.Option.{IfSome}
use Rattle.std.proofs.lemmas.Bool.Decides.{nat_tests}
use Rattle.packet_stream.specs.declared.stream.TheConstants.{MAX_UNACKED}
use Rattle.packet_stream.specs.Extents.{greatest_end}
use Rattle.packet_stream.specs.Streams.{StreamState, IsStream, start_in, written_in}
use Rattle.packet_stream.proofs.StreamLemmas.{greatest_past}
use Rattle.writer_core.specs.declared.phases.DuePacket.{DuePacket}
use Rattle.writer_core.specs.declared.phases.DuePacket.TheVariants as due
use Rattle.writer_core.specs.declared.phases.SyncPacket.TheVariants as sync
use Rattle.writer_core.specs.declared.phases.Waiting.{Waiting}
use Rattle.writer_core.specs.declared.phases.Waiting.TheVariants as waiting
use Rattle.writer_core.specs.declared.records.WriterRecord.{WriterRecord}
use Rattle.writer_core.specs.Transitions.{due_in, due_now, empty_due, is_flushing}
use Rattle.writer_core.specs.Sound.{syncs_due}

-- one thing or another
pub choice : {A : Type 0} (P : A → Type 0) (b : Bool) (x y : A) → (b ≡ true → P x) → (b ≡ false → P y) → P (if b then x else y)
choice P true x y given otherwise = given refl
choice P false x y given otherwise = otherwise refl

-- A packet with bytes ends past the sent end, and within what is written; one for an hsync is due to the hsync that waits.
abbrev pub IsDue : Option Waiting → StreamState → DuePacket → Type 0
IsDue x s (due.Data end is_sync) = (s.sent < end) × (end ≤ written_in s)
IsDue x s due.Sync = syncs_due x ≡ 1
IsDue x s due.Last = Unit {0}

empty_is : (x : Option Waiting) (s : StreamState) → IfSome (empty_due x s) (IsDue x s)
empty_is None s = tt
empty_is (Some waiting.Opening) s = tt
empty_is (Some (waiting.Flush n)) s = tt
empty_is (Some (waiting.Sync n sync.Due)) s = refl
empty_is (Some (waiting.Sync n (sync.Formed q))) s = tt
empty_is (Some waiting.Close) s = choice (λ d. IfSome d (IsDue (Some waiting.Close) s)) (s.acked == written_in s) (Some due.Last) None (λ e. tt) (λ e. tt)

pub due_is : (x : Option Waiting) (s : StreamState) → IsStream s → IfSome (due_in x s) (IsDue x s)
due_is x s h =
    choice (λ d. IfSome d (IsDue x s)) (nat_le (greatest_end s.rule.chunk (start_in s)) (written_in s)) _ _
    (λ e. (greatest_past s h, grind (arith, nat_tests)))
    (λ e. choice (λ d. IfSome d (IsDue x s)) (is_flushing x && nat_lt s.sent (written_in s)) _ _
    (λ f. (grind (arith, nat_tests), omega arith))
    (λ f. empty_is x s))

-- The packet that is due is so, and there is room for it.
pub record IsDueNow (w : WriterRecord) (d : DuePacket) : Type 0 where
  pub room : length w.stream.unacked < MAX_UNACKED
  pub fits : IsDue w.waiting w.stream d

both : (w : WriterRecord) (o : Option DuePacket) → length w.stream.unacked < MAX_UNACKED → IfSome o (IsDue w.waiting w.stream) → IfSome o (IsDueNow w)
both w None room h = tt
both w (Some d) room h = record { room = room; fits = h }

pub due_now_is : (w : WriterRecord) (d : DuePacket) → IsStream w.stream → due_now w ≡ Some d → IsDueNow w d
due_now_is w d h e =
    let all : IfSome (due_now w) (IsDueNow w) =
    choice (λ o. IfSome o (IsDueNow w)) (nat_lt (length w.stream.unacked) MAX_UNACKED) (due_in w.waiting w.stream) None
    (λ r. both w (due_in w.waiting w.stream) (grind (arith, nat_tests)) (due_is w.waiting w.stream h))
    (λ r. tt) in
    subst (λ o. IfSome o (IsDueNow w)) e all
