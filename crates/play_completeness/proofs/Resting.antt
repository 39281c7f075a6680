-- A writer that streams, with a command that waits and no packet that isn't acked, has a step.
use Rattle.std.proofs.Common.{◌≡◌, ℕ, ◌≤◌, Bool, true, false, List, [], ◌∷◌, length, slice_get, Option, Some, None, refl, sym, ◌∙◌, ap, subst, arith}
use Rattle.std.specs.Prelude.{◌==◌, ◌&&◌, nat_lt, nat_le, if◌then◌else◌}
use Rattle.std.proofs.lemmas.Bool.Decides.{nat_tests}
use Rattle.packet_codec.specs.declared.packets.Packet.{Packet}
use Rattle.packet_stream.specs.Extents.{greatest_end}
use Rattle.packet_stream.specs.declared.stream.TheConstants.{MAX_UNACKED}
use Rattle.packet_stream.specs.Streams.{StreamState, start_in, written_in}
use Rattle.writer_core.specs.declared.phases.DuePacket.{DuePacket}
use Rattle.writer_core.specs.declared.phases.DuePacket.TheVariants as due
use Rattle.writer_core.specs.declared.phases.SyncPacket.TheVariants as sync
use Rattle.writer_core.specs.declared.phases.Waiting.{Waiting}
use Rattle.writer_core.specs.declared.phases.Waiting.TheVariants as waiting
use Rattle.writer_core.specs.declared.records.WriterRecord.{WriterRecord}
use Rattle.writer_core.specs.Transitions.{Step, form_step, is_flushing, data_due, due_in, due_now, empty_due, reached_length, reach_step_as, due_step, stream_step_as, stream_step, is_action}
use Rattle.play_completeness.specs.Writers.{StreamWell, StreamWaits}

-- what such a step does
abbrev Does : Step → Type 0
Does s = is_action s.action ≡ true

form-does : (x : WriterRecord) (d : DuePacket) → Does (form_step x d)
form-does x (due.Data end sync) = refl
form-does x due.Sync = refl
form-does x due.Last = refl

reach-does : (x : WriterRecord) (o : Option ℕ) (n : ℕ) → o ≡ Some n → Does (reach_step_as x o)
reach-does x (Some n) k e = refl
reach-does x None k e = absurd (cc)

-- a packet is due, or what waits is reached
pub data Either (x : WriterRecord) : Type 0 where
  forms : (d : DuePacket) → due_in x.waiting x.stream ≡ Some d → Either x
  reaches : (n : ℕ) → due_in x.waiting x.stream ≡ None → reached_length x.waiting x.stream ≡ Some n → Either x

now-is : (x : WriterRecord) → x.stream.unacked ≡ [] → due_now x ≡ due_in x.waiting x.stream
now-is x none = ap (λ (xs : List Packet). if nat_lt (length xs) MAX_UNACKED then due_in x.waiting x.stream else None) none

either-does : (x : WriterRecord) → x.stream.unacked ≡ [] → Either x → Does (due_step x (due_now x))
either-does x none (forms d e) = subst (λ (o : Option DuePacket). Does (due_step x o)) (sym (now-is x none ∙ e)) (form-does x d)
either-does x none (reaches n e r) =
    subst (λ (o : Option DuePacket). Does (due_step x o)) (sym (now-is x none ∙ e)) (reach-does x (reached_length x.waiting x.stream) n r)

-- the tests of what is due
due-as : (x : Option Waiting) (s : StreamState) (full flushing : Bool) → nat_le (greatest_end s.rule.chunk (start_in s)) (written_in s) ≡ full → (is_flushing x && nat_lt s.sent (written_in s)) ≡ flushing
    → due_in x s ≡ (if full then Some (data_due x (greatest_end s.rule.chunk (start_in s))) else (if flushing then Some (data_due x (written_in s)) else empty_due x s))
due-as x s full flushing e f = rw (e, f) refl

-- Nothing is due, so all is sent; and what waits asks for no packet.
pub record NoneDue (x : Option Waiting) (s : StreamState) : Type 0 where
  pub sent : is_flushing x ≡ true → written_in s ≤ s.sent
  pub empty : empty_due x s ≡ None

no-some : {A B : Type 0} (x : A) → Some x ≡ None → B
no-some x e = absurd (cc)

none-due : (x : Option Waiting) (s : StreamState) → due_in x s ≡ None → NoneDue x s
none-due x s e = at (nat_le (greatest_end s.rule.chunk (start_in s)) (written_in s)) (is_flushing x && nat_lt s.sent (written_in s)) refl refl
  where
    at : (full flushing : Bool) → nat_le (greatest_end s.rule.chunk (start_in s)) (written_in s) ≡ full → (is_flushing x && nat_lt s.sent (written_in s)) ≡ flushing → NoneDue x s
    at true flushing p q = no-some _ (sym (due-as x s true flushing p q) ∙ e)
    at false true p q = no-some _ (sym (due-as x s false true p q) ∙ e)
    at false false p q = record { sent = λ f. late f (sym (ap (λ (b : Bool). b && nat_lt s.sent (written_in s)) f) ∙ q); empty = sym (due-as x s false false p q) ∙ e }
      where
        late : is_flushing x ≡ true → nat_lt s.sent (written_in s) ≡ false → written_in s ≤ s.sent
        late f l = grind (arith, nat_tests, l)

-- all that was written is acked
all-acked : (s : StreamState) → s.unacked ≡ [] → StreamWell s → written_in s ≤ s.sent → written_in s ≤ s.acked
all-acked s none well le = omega (arith, well.all none, le)

either-none : (x : WriterRecord) → x.stream.unacked ≡ [] → StreamWell x.stream → x.stream.sent ≤ written_in x.stream → (y : Waiting) → x.waiting ≡ Some y → StreamWaits (Some y) (written_in x.stream) → due_in (Some y) x.stream ≡ None → NoneDue (Some y) x.stream → Either x
either-none x none well within waiting.Opening at fits e d = absurd fits
either-none x none well within (waiting.Flush n) at fits e d =
    reaches n (ap (λ (o : Option Waiting). due_in o x.stream) at ∙ e)
    (ap (λ (o : Option Waiting). reached_length o x.stream) at ∙ ap (λ (b : Bool). if b then Some n else None) (reached (all-acked x.stream none well (d.sent refl))))
  where
    reached : written_in x.stream ≤ x.stream.acked → nat_le n x.stream.acked ≡ true
    reached le = let l : n ≤ x.stream.acked = omega (arith, le, fits) in grind (arith, nat_tests, l)
either-none x none well within (waiting.Sync n sync.Due) at fits e d = no-some due.Sync d.empty
either-none x none well within (waiting.Sync n (sync.Formed q)) at fits e d =
    reaches n (ap (λ (o : Option Waiting). due_in o x.stream) at ∙ e)
    (ap (λ (o : Option Waiting). reached_length o x.stream) at ∙ rw none refl)
either-none x none well within waiting.Close at fits e d = no-some due.Last (sym (ap (λ (b : Bool). if b then Some due.Last else None) whole) ∙ d.empty)
  where
    whole : (x.stream.acked == written_in x.stream) ≡ true
    whole = let l : x.stream.acked ≡ written_in x.stream = omega (arith, all-acked x.stream none well (d.sent refl), well.within, within) in grind (arith, nat_tests, l)

either : (x : WriterRecord) → x.stream.unacked ≡ [] → StreamWell x.stream → x.stream.sent ≤ written_in x.stream → (y : Waiting) → x.waiting ≡ Some y → StreamWaits (Some y) (written_in x.stream) → Either x
either x none well within y at fits = go (due_in (Some y) x.stream) refl
  where
    go : (o : Option DuePacket) → due_in (Some y) x.stream ≡ o → Either x
    go (Some d) e = forms d (ap (λ (q : Option Waiting). due_in q x.stream) at ∙ e)
    go None e = either-none x none well within y at fits e (none-due (Some y) x.stream e)

none-got : (xs : List Packet) (n : ℕ) → xs ≡ [] → slice_get xs n ≡ None
none-got [] n e = refl
none-got (p ∷ xs) n e = absurd (cc)

pub streams-on : (x : WriterRecord) (sent : ℕ) → x.stream.unacked ≡ [] → StreamWell x.stream → x.stream.sent ≤ written_in x.stream → (y : Waiting) → x.waiting ≡ Some y → StreamWaits (Some y) (written_in x.stream) → is_action (stream_step x sent).action ≡ true
streams-on x sent none well within y at fits =
    subst (λ (o : Option Packet). is_action (stream_step_as x sent o).action ≡ true) (sym (none-got x.stream.unacked sent none))
    (either-does x none (either x none well within y at fits))
