-- What each call makes of a writer's weight.
use Rattle.std.proofs.Common.{◌≡◌, ℕ, zero, suc, ◌<◌, ◌≤◌, ◌+◌, ◌-◌, ◌*◌, Bool, true, false, List, [], ◌∷◌, ◌++◌, length, drop, slice_get, Option, Some, None, append-nil, length-append, refl, sym, ap, ◌∙◌, subst, arith}
use Rattle.std.specs.Prelude.{sum_by, nat_le, nat_lt, if◌then◌else◌, ◌==◌, ◌&&◌, ℤ, pos, IfSome}
use Rattle.std.proofs.lemmas.Bool.Decides.{nat_tests}
use Rattle.std.proofs.lemmas.List.Sums.{sum_by-cons, sum_by-append}
use Rattle.hd_base.specs.declared.numbers.BlockId.{BlockId}
use Rattle.hd_base.specs.declared.numbers.NodeId.{NodeId}
use Rattle.hd_base.specs.declared.numbers.Stamp.{Stamp}
use Rattle.packet_codec.specs.declared.packets.Packet.{Packet}
use Rattle.packet_stream.specs.Extents.{greatest_end}
use Rattle.packet_stream.specs.Streams.{StreamState, IsStream, start_in, written_in, with_bytes, fill_bytes, formed, next_packet, sync_packet}
use Rattle.packet_stream.specs.declared.stream.TheConstants.{MAX_UNACKED}
use Rattle.packet_stream.proofs.StreamLemmas.{formed_written, fill_length}
use Rattle.writer_core.specs.declared.actions.Action.{Action}
use Rattle.writer_core.specs.declared.actions.Action.TheVariants as action
use Rattle.writer_core.specs.declared.commands.Command.{Command}
use Rattle.writer_core.specs.declared.commands.Command.TheVariants as command
use Rattle.writer_core.specs.declared.phases.DuePacket.{DuePacket}
use Rattle.writer_core.specs.declared.phases.DuePacket.TheVariants as due
use Rattle.writer_core.specs.declared.phases.Failure.{Failure}
use Rattle.writer_core.specs.declared.phases.Phase.{Phase}
use Rattle.writer_core.specs.declared.phases.Phase.TheVariants as phase
use Rattle.writer_core.specs.declared.phases.Setup.{Setup}
use Rattle.writer_core.specs.declared.phases.Setup.TheVariants as setup
use Rattle.writer_core.specs.declared.phases.SyncPacket.{SyncPacket}
use Rattle.writer_core.specs.declared.phases.SyncPacket.TheVariants as sync
use Rattle.writer_core.specs.Sound.{syncs_due}
use Rattle.writer_core.proofs.DueLemmas.{choice, IsDueNow, due_now_is}
use Rattle.writer_core.specs.declared.phases.Waiting.{Waiting}
use Rattle.writer_core.specs.declared.phases.Waiting.TheVariants as waiting
use Rattle.writer_core.specs.declared.records.WriterRecord.{WriterRecord}
use Rattle.writer_core.specs.Transitions.{Step, own_step, step_in, free_step, free_step_as, take_first, taken_as, opening, wrote, failed_step, failed_step_as, failed_first, failed_command, dial_step, dial_step_as, open_step, accepted_step, completed_step, reached, stream_step, stream_step_as, due_step, due_now, due_in, form_step, reach_step, reach_step_as, reached_length, empty_due, data_due, sync_formed_as, is_flushing, ends_sync}
use Rattle.world_settling.specs.Measure.{Pays, cost, per_packet, per_setup, per_pipeline, per_member, past_last, is_closing, phase_weight, wait_weight, last_weight, unformed, command_weight, writer_weight}

-- COMMANDS

first-weight : (queue : List Command) (c : Command) → slice_get queue 0 ≡ Some c → sum_by command_weight (drop 1 queue) + command_weight c ≤ sum_by command_weight queue
first-weight [] c is = cc
first-weight (d ∷ ds) c is =
    let same : d ≡ c = cc in
    let rest : sum_by command_weight (drop 1 (d ∷ ds)) ≡ sum_by command_weight ds = refl in
    omega (arith, ap command_weight same, sum_by-cons command_weight d ds, rest)

command-some : (c : Command) → 1 ≤ command_weight c
command-some (command.Create members) = omega arith
command-some (command.Append members) = omega arith
command-some (command.Write bytes) = omega arith
command-some (command.Fill count) = omega arith
command-some command.Hflush = omega arith
command-some command.Hsync = omega arith
command-some command.Close = omega arith

-- WHAT WAITS

wait-some : (y : Waiting) → 1 ≤ wait_weight (Some y)
wait-some waiting.Opening = omega arith
wait-some (waiting.Flush n) = omega arith
wait-some (waiting.Sync n sync.Due) = omega arith
wait-some (waiting.Sync n (sync.Formed q)) = omega arith
wait-some waiting.Close = omega arith

last-none : (b : Bool) → last_weight b None ≡ 0
last-none true = refl
last-none false = refl

last-flush : (b : Bool) (n : ℕ) → last_weight b (Some (waiting.Flush n)) ≡ 0
last-flush true n = refl
last-flush false n = refl

last-sync : (b : Bool) (n : ℕ) (q : SyncPacket) → last_weight b (Some (waiting.Sync n q)) ≡ 0
last-sync true n q = refl
last-sync false n q = refl

pub last-most : (b : Bool) (x : Option Waiting) → last_weight b x ≤ per_packet
last-most true x = omega arith
last-most false None = omega arith
last-most false (Some waiting.Opening) = omega arith
last-most false (Some (waiting.Flush n)) = omega arith
last-most false (Some (waiting.Sync n q)) = omega arith
last-most false (Some waiting.Close) = omega arith

-- where the writer is
pub at-phase : (x : WriterRecord) (p : Phase) → x.phase ≡ p → phase_weight x.phase (length x.stream.unacked) ≡ phase_weight p (length x.stream.unacked)
at-phase x p is = ap (λ (q : Phase). phase_weight q (length x.stream.unacked)) is

pub at-last : (x : WriterRecord) (p : Phase) → x.phase ≡ p → last_weight (past_last x.phase) x.waiting ≡ last_weight (past_last p) x.waiting
at-last x p is = ap (λ (q : Phase). last_weight (past_last q) x.waiting) is

at-wait : (x : WriterRecord) (o : Option Waiting) → x.waiting ≡ o → wait_weight x.waiting ≡ wait_weight o
at-wait x o is = ap wait_weight is

-- COMMANDS THAT ARE TAKEN

-- bytes that were written make so many more
more-unformed : (s : StreamState) (bytes : List ℕ) → unformed (with_bytes s bytes) ≤ unformed s + length bytes
more-unformed s bytes = omega (arith, length-append s.tail bytes)

pub taken-pays : (x : WriterRecord) (c : Command) → x.waiting ≡ None → slice_get x.queue 0 ≡ Some c → writer_weight (taken_as x c) + 1 ≤ writer_weight x
taken-pays x (command.Create members) free is = omega (arith, first-weight x.queue _ is)
taken-pays x (command.Append members) free is = omega (arith, first-weight x.queue _ is)
taken-pays x (command.Write bytes) free is = omega (arith, first-weight x.queue _ is, more-unformed x.stream bytes)
taken-pays x (command.Fill count) free is =
    let bytes : List ℕ = fill_bytes x.block (written_in x.stream) count in
    omega (arith, first-weight x.queue _ is, more-unformed x.stream bytes, fill_length x.block (written_in x.stream) count)
taken-pays x command.Hflush free is = omega (arith, first-weight x.queue _ is, last-flush (past_last x.phase) (written_in x.stream))
taken-pays x command.Hsync free is = omega (arith, first-weight x.queue _ is, last-sync (past_last x.phase) (written_in x.stream) sync.Due)
taken-pays x command.Close free is = omega (arith, first-weight x.queue _ is, last-most (past_last x.phase) (Some waiting.Close))

pub free-pays : (x : WriterRecord) (o : Option Waiting) → x.waiting ≡ o → Pays x (free_step_as x o)
free-pays x (Some y) is = record { is = omega arith }
free-pays x None is = first (slice_get x.queue 0) refl where
  first : (o : Option Command) → slice_get x.queue 0 ≡ o → Pays x (take_first x o)
  first None at = record { is = omega arith }
  first (Some c) at = record { is = taken-pays x c is at }

-- A WRITER THAT FAILED

failed-takes : (x : WriterRecord) (f : Failure) (c : Command) → x.waiting ≡ None → slice_get x.queue 0 ≡ Some c → Pays x (failed_command x f c)
failed-takes x f (command.Append members) free is = record { is = taken-pays x (command.Append members) free is }
failed-takes x f (command.Create members) free is = record { is = omega (arith, first-weight x.queue _ is) }
failed-takes x f (command.Write bytes) free is = record { is = omega (arith, first-weight x.queue _ is) }
failed-takes x f (command.Fill count) free is = record { is = omega (arith, first-weight x.queue _ is) }
failed-takes x f command.Hflush free is = record { is = omega (arith, first-weight x.queue _ is) }
failed-takes x f command.Hsync free is = record { is = omega (arith, first-weight x.queue _ is) }
failed-takes x f command.Close free is = record { is = omega (arith, first-weight x.queue _ is) }

failed-pays : (x : WriterRecord) (f : Failure) (o : Option Waiting) → x.waiting ≡ o → Pays x (failed_step_as x f o)
failed-pays x f (Some y) waits = record { is = omega (arith, at-wait x (Some y) waits, wait-some y, last-none (past_last x.phase)) }
failed-pays x f None waits = first (slice_get x.queue 0) refl where
  first : (o : Option Command) → slice_get x.queue 0 ≡ o → Pays x (failed_first x f o)
  first None at = record { is = omega arith }
  first (Some c) at = failed-takes x f c waits at

-- SETTING UP

pub opens-pay : (x : WriterRecord) → IsStream x.stream → per_setup ≤ phase_weight x.phase (length x.stream.unacked) → Pays x (open_step x)
opens-pay x s h = record { is = omega (arith, h, s.few) }

dials-pay : (x : WriterRecord) (q : Setup) (stamp : Stamp) (members : List NodeId) → Pays x (dial_step_as x q stamp members)
dials-pay x q stamp [] = record { is = omega arith }
dials-pay x q stamp (m ∷ ms) = record { is = omega arith }

accepted-pays : (x : WriterRecord) (q : Setup) (stamp : Stamp) → IsStream x.stream → x.phase ≡ phase.Accepted q stamp → Pays x (accepted_step x q stamp)
accepted-pays x setup.Create stamp s is = opens-pay x s (omega (arith, at-phase x (phase.Accepted setup.Create stamp) is))
accepted-pays x setup.Append stamp s is = record { is = omega arith }
accepted-pays x setup.AppendRecovery stamp s is = record { is = omega arith }
accepted-pays x setup.StreamRecovery stamp s is = record { is = omega arith }
accepted-pays x setup.CloseRecovery stamp s is = record { is = omega arith }

-- STREAMING

below-length : {A : Type 0} (xs : List A) (k : ℕ) (x : A) → slice_get xs k ≡ Some x → k < length xs
below-length [] k x is = cc
below-length (y ∷ ys) zero x is = omega arith
below-length (y ∷ ys) (suc k) x is = omega (arith, below-length ys k x is)

-- an hsync whose packet was formed waits as it did, or for less
formed-wait : (b : Bool) (q : ℤ) (x : Option Waiting) → (wait_weight (sync_formed_as b q x) ≤ wait_weight x) × (last_weight false (sync_formed_as b q x) ≤ last_weight false x)
formed-wait true q (Some (waiting.Sync n sync.Due)) = (omega arith, omega arith)
formed-wait true q (Some (waiting.Sync n (sync.Formed p))) = (omega arith, omega arith)
formed-wait true q (Some waiting.Opening) = (omega arith, omega arith)
formed-wait true q (Some (waiting.Flush n)) = (omega arith, omega arith)
formed-wait true q (Some waiting.Close) = (omega arith, omega arith)
formed-wait true q None = (omega arith, omega arith)
formed-wait false q x = (omega arith, omega arith)

-- the hsync that is due pays for its packet
synced-wait : (q : ℤ) (x : Option Waiting) → syncs_due x ≡ 1 → (wait_weight (sync_formed_as true q x) + per_packet ≤ wait_weight x) × (last_weight false (sync_formed_as true q x) ≤ last_weight false x)
synced-wait q (Some (waiting.Sync n sync.Due)) is = (omega arith, omega arith)
synced-wait q (Some (waiting.Sync n (sync.Formed p))) is = cc
synced-wait q (Some waiting.Opening) is = cc
synced-wait q (Some (waiting.Flush n)) is = cc
synced-wait q (Some waiting.Close) is = cc
synced-wait q None is = cc

-- the last packet is due to a close
abbrev IsLastOf : Option Waiting → DuePacket → Type 0
IsLastOf x d = d ≡ due.Last → x ≡ Some waiting.Close

empty-last : (x : Option Waiting) (s : StreamState) → IfSome (empty_due x s) (IsLastOf x)
empty-last None s = tt
empty-last (Some waiting.Opening) s = tt
empty-last (Some (waiting.Flush n)) s = tt
empty-last (Some (waiting.Sync n sync.Due)) s = λ e. cc
empty-last (Some (waiting.Sync n (sync.Formed q))) s = tt
empty-last (Some waiting.Close) s = choice (λ d. IfSome d (IsLastOf (Some waiting.Close))) (s.acked == written_in s) (Some due.Last) None (λ e. λ h. refl) (λ e. tt)

due-last : (x : Option Waiting) (s : StreamState) → IfSome (due_in x s) (IsLastOf x)
due-last x s =
    choice (λ d. IfSome d (IsLastOf x)) (nat_le (greatest_end s.rule.chunk (start_in s)) (written_in s)) _ _
    (λ e. λ h. cc)
    (λ e. choice (λ d. IfSome d (IsLastOf x)) (is_flushing x && nat_lt s.sent (written_in s)) _ _ (λ f. λ h. cc) (λ f. empty-last x s))

now-last : (x : WriterRecord) → due_now x ≡ Some due.Last → x.waiting ≡ Some waiting.Close
now-last x is =
    let all : IfSome (due_now x) (IsLastOf x.waiting) =
    choice (λ d. IfSome d (IsLastOf x.waiting)) (nat_lt (length x.stream.unacked) MAX_UNACKED) (due_in x.waiting x.stream) None (λ e. due-last x.waiting x.stream) (λ e. tt) in
    (subst (λ d. IfSome d (IsLastOf x.waiting)) is all) refl

forms-pay : (x : WriterRecord) (sent : ℕ) (d : DuePacket) → IsStream x.stream → x.phase ≡ phase.Streaming sent → due_now x ≡ Some d → Pays x (form_step x d)
forms-pay x sent (due.Data end is_sync) s is due_is =
    let n : IsDueNow x (due.Data end is_sync) = due_now_is x (due.Data end is_sync) s due_is in
    let stays : written_in (formed x.stream end is_sync) ≡ written_in x.stream = formed_written x.stream end is_sync s n.fits.0 n.fits.1 in
    let w = formed-wait is_sync (pos x.stream.seqno) x.waiting in
    record { is = omega (arith, stays, n.fits.0, n.fits.1, w.0, w.1, at-last x (phase.Streaming sent) is, length-append x.stream.unacked (next_packet x.stream end is_sync ∷ [])) }
forms-pay x sent due.Sync s is due_is =
    let n : IsDueNow x due.Sync = due_now_is x due.Sync s due_is in
    let w = synced-wait (pos x.stream.seqno) x.waiting n.fits in
    record { is = omega (arith, w.0, w.1, at-last x (phase.Streaming sent) is, length-append x.stream.unacked (sync_packet x.stream ∷ [])) }
forms-pay x sent due.Last s is due_is =
    let w : x.waiting ≡ Some waiting.Close = now-last x due_is in
    let last : last_weight (past_last x.phase) x.waiting ≡ per_packet = at-last x (phase.Streaming sent) is ∙ ap (last_weight false) w in
    record { is = omega (arith, last) }

reach-wait : (x : WriterRecord) (n : ℕ) → reached_length x.waiting x.stream ≡ Some n → 1 ≤ wait_weight x.waiting
reach-wait x n is = by x.waiting refl where
  by : (o : Option Waiting) → x.waiting ≡ o → 1 ≤ wait_weight x.waiting
  by None at = let h : reached_length None x.stream ≡ Some n = subst (λ (o : Option Waiting). reached_length o x.stream ≡ Some n) at is in cc
  by (Some y) at = omega (arith, at-wait x (Some y) at, wait-some y)

reach-pays : (x : WriterRecord) (o : Option ℕ) → reached_length x.waiting x.stream ≡ o → Pays x (reach_step_as x o)
reach-pays x (Some n) is = record { is = omega (arith, reach-wait x n is, last-none (past_last x.phase)) }
reach-pays x None is = free-pays x x.waiting refl

due-pays : (x : WriterRecord) (sent : ℕ) (o : Option DuePacket) → IsStream x.stream → x.phase ≡ phase.Streaming sent → due_now x ≡ o → Pays x (due_step x o)
due-pays x sent (Some d) s is e = forms-pay x sent d s is e
due-pays x sent None s is e = reach-pays x (reached_length x.waiting x.stream) refl

stream-pays : (x : WriterRecord) (sent : ℕ) (o : Option Packet) → IsStream x.stream → x.phase ≡ phase.Streaming sent → slice_get x.stream.unacked sent ≡ o → Pays x (stream_step_as x sent o)
stream-pays x sent (Some p) s is at = record { is = omega (arith, below-length x.stream.unacked sent p at, at-phase x (phase.Streaming sent) is, at-last x (phase.Streaming sent) is) }
stream-pays x sent None s is at = due-pays x sent (due_now x) s is refl

-- BY WHERE THE WRITER IS

pub completes-pay : (x : WriterRecord) → x.phase ≡ phase.Completed → Pays x (completed_step x)
completes-pay x is = record { is = omega (arith, at-phase x phase.Completed is) }

in-pays : (x : WriterRecord) (p : Phase) → x.phase ≡ p → IsStream x.stream → Pays x (step_in x p)
in-pays x phase.Closed is s = free-pays x x.waiting refl
in-pays x (phase.Wanted q) is s = record { is = omega arith }
in-pays x (phase.Stamped q stamp) is s = dials-pay x q stamp x.members
in-pays x (phase.Requested q stamp) is s = free-pays x x.waiting refl
in-pays x (phase.Accepted q stamp) is s = accepted-pays x q stamp s is
in-pays x phase.Opened is s = opens-pay x s (omega (arith, at-phase x phase.Opened is))
in-pays x (phase.Streaming sent) is s = stream-pays x sent (slice_get x.stream.unacked sent) s is refl
in-pays x phase.Closing is s = free-pays x x.waiting refl
in-pays x phase.Finished is s = record { is = omega arith }
in-pays x phase.Completed is s = completes-pay x is
in-pays x (phase.Failed f) is s = failed-pays x f x.waiting refl

pub steps-pay : (x : WriterRecord) → IsStream x.stream → Pays x (own_step x)
unfolding own_step
steps-pay x s = in-pays x x.phase refl s
