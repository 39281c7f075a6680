-- The packet that is due: what it is, that it is the next one, and what the stream is behind it.
use Rattle.std.proofs.Common.{◌≡◌, ℕ, suc, ◌<◌, ◌≤◌, ◌+◌, ◌-◌, max, Bool, true, false, List, [], ◌∷◌, ◌++◌, length, take, slice_get, Option, Some, None, IfSome, Ok, refl, sym, ◌∙◌, ap, subst, arith, length-append, ◌⊎◌, inl, inr}
use Rattle.std.specs.Prelude.{ℤ, pos, ◌==◌, ◌&&◌, nat_le, nat_lt}
use Rattle.std.proofs.lemmas.Bool.Decides.{nat_tests}
use Rattle.std.proofs.lemmas.List.{length-take-le}
use Rattle.packet_codec.specs.declared.packets.Packet.{Packet}
use Rattle.packet_stream.specs.Extents.{greatest_end}
use Rattle.packet_stream.specs.Streams.{StreamState, IsStream, start_in, written_in, packet_end, next_packet, sync_packet, last_packet}
use Rattle.packet_stream.proofs.StreamLemmas.{greatest_past}
use Rattle.packet_stream.proofs.CarryLemmas.{start_near, next_within_chunk}
use Rattle.replica_core.specs.Extents.{pending_of}
use Rattle.writer_core.specs.declared.commands.Command.{Command}
use Rattle.writer_core.specs.declared.commands.Command.TheVariants as command
use Rattle.writer_core.specs.declared.phases.DuePacket.{DuePacket}
use Rattle.writer_core.specs.declared.phases.DuePacket.TheVariants as due
use Rattle.writer_core.specs.declared.phases.SyncPacket.{SyncPacket}
use Rattle.writer_core.specs.declared.phases.SyncPacket.TheVariants as sync
use Rattle.writer_core.specs.declared.phases.Waiting.{Waiting}
use Rattle.writer_core.specs.declared.phases.Waiting.TheVariants as waiting
use Rattle.writer_core.specs.Transitions.{is_flushing, empty_due, due_in, sync_formed_as}
use Rattle.writer_core.proofs.DueLemmas.{choice}
use Rattle.world.specs.Parts.{Said}
use Rattle.play_completeness.proofs.WorldOrders.Lists.{Behind, get-append}
use Rattle.play_completeness.specs.Complete.{IsDone}
use Rattle.play_completeness.specs.Streams.{as_pending, extent_of, Reach, number_before, reach_after, IsNext}
use Rattle.play_completeness.specs.Writers.{StreamWell, StreamWaits}
use Rattle.play_completeness.specs.Played.{IsOf, WaitsLast, DoneSoFar}
use Rattle.play_completeness.proofs.Flowing.{one-place, get-within}
use Rattle.completing_writers.proofs.Fitting.{next-number, number-more, number-real, data-taken, empty-taken, last-taken}

-- WHAT IS DUE

-- One with bytes ends past the sent end, within what is written, and no later than it may; the last one is due to a close,
-- once all is acked.
abbrev pub DueWell : Option Waiting → StreamState → DuePacket → Type 0
DueWell x s (due.Data end is_sync) = (s.sent < end) × (end ≤ written_in s) × (end ≤ greatest_end s.rule.chunk (start_in s))
DueWell x s due.Sync = Unit {0}
DueWell x s due.Last = (x ≡ Some waiting.Close) × (s.acked ≡ written_in s)

empty-well : (x : Option Waiting) (s : StreamState) → IfSome (empty_due x s) (DueWell x s)
empty-well None s = tt
empty-well (Some waiting.Opening) s = tt
empty-well (Some (waiting.Flush n)) s = tt
empty-well (Some (waiting.Sync n sync.Due)) s = tt
empty-well (Some (waiting.Sync n (sync.Formed q))) s = tt
empty-well (Some waiting.Close) s =
    choice (λ (d : Option DuePacket). IfSome d (DueWell (Some waiting.Close) s)) (s.acked == written_in s) (Some due.Last) None (λ e. (refl, grind (arith, nat_tests))) (λ e. tt)

pub due-well : (x : Option Waiting) (s : StreamState) → IsStream s → IfSome (due_in x s) (DueWell x s)
due-well x s h =
    choice (λ (d : Option DuePacket). IfSome d (DueWell x s)) (nat_le (greatest_end s.rule.chunk (start_in s)) (written_in s)) _ _
    (λ e. (greatest_past s h, grind (arith, nat_tests), omega arith))
    (λ e. choice (λ (d : Option DuePacket). IfSome d (DueWell x s)) (is_flushing x && nat_lt s.sent (written_in s)) _ _
    (λ f. (grind (arith, nat_tests), omega arith, grind (arith, nat_tests)))
    (λ f. empty-well x s))

-- THE NEXT PACKET

-- where a stream has come that has formed no last packet
abbrev pub reach_here : StreamState → Reach
reach_here s = record { previous = number_before s.seqno; over = false; written = s.sent }

abbrev pub reach_as : Option ℤ → Bool → ℕ → Reach
reach_as previous over written = record { previous = previous; over = over; written = written }

reach-eq : (a b : Option ℤ) (over : Bool) (m n : ℕ) → a ≡ b → m ≡ n → reach_as a over m ≡ reach_as b over n
reach-eq a b over m n e f = ap (λ (x : Option ℤ). reach_as x over m) e ∙ ap (λ (x : ℕ). reach_as b over x) f

module _ (s : StreamState) (h : IsStream s) where
  some-chunk : 1 ≤ s.rule.chunk
  some-chunk = omega (arith, h.chunk.least)

  -- WITH BYTES

  module _ (end : ℕ) (is_sync : Bool) (past : s.sent < end) (within : end ≤ written_in s) (near : end ≤ greatest_end s.rule.chunk (start_in s)) where
    body-long : length (take (end - start_in s) s.tail) ≡ end - start_in s
    body-long = length-take-le (end - start_in s) s.tail (omega (arith, within))

    ends-there : start_in s + length (take (end - start_in s) s.tail) ≡ end
    ends-there = let low : start_in s ≤ s.sent = start_near s h in let long : length (take (end - start_in s) s.tail) ≡ end - start_in s = body-long in omega (arith, low, long, past)

    pub data-end : packet_end (next_packet s end is_sync) ≡ end
    data-end = ends-there

    pub data-next : IsNext s.rule (reach_here s) (next_packet s end is_sync)
    data-next =
        let there : start_in s + length (take (end - start_in s) s.tail) ≡ end = ends-there in
        record {
          number = next-number s.seqno h.number;
          real = number-real s.seqno;
          before_last = refl;
          taken = data-taken s.rule (start_in s) s.seqno s.sent is_sync (take (end - start_in s) s.tail) some-chunk (start_near s h) (omega (arith, h.within, there, within))
              (λ amid. omega (arith, there, next_within_chunk s end near amid));
        }

    pub data-reach : reach_as (number_before (s.seqno + 1)) false end ≡ reach_after (reach_here s) (next_packet s end is_sync)
    data-reach = reach-eq (number_before (s.seqno + 1)) (Some (pos s.seqno)) false end (max s.sent (packet_end (next_packet s end is_sync))) (number-more s.seqno) (omega (arith, data-end, past))

  -- WITHOUT

  pub sync-next : IsNext s.rule (reach_here s) (sync_packet s)
  sync-next =
      let sent : s.sent ≤ written_in s = h.sent in
      record {
        number = next-number s.seqno h.number;
        real = number-real s.seqno;
        before_last = refl;
        taken = empty-taken s.rule s.sent s.seqno s.sent true some-chunk (omega arith) (omega (arith, h.within, sent));
      }

  pub sync-reach : reach_as (number_before (s.seqno + 1)) false s.sent ≡ reach_after (reach_here s) (sync_packet s)
  sync-reach = reach-eq (number_before (s.seqno + 1)) (Some (pos s.seqno)) false s.sent (max s.sent (packet_end (sync_packet s))) (number-more s.seqno) (omega arith)

  pub last-next : (had : Bool) → s.sent ≡ written_in s → IsNext s.rule (reach_here s) (last_packet s had)
  last-next had all =
      record {
        number = next-number s.seqno h.number;
        real = number-real s.seqno;
        before_last = refl;
        taken = subst (λ (k : ℕ). pending_of s.rule (extent_of s.rule (last_packet s had)) k ≡ Ok (as_pending (last_packet s had))) (sym all) (last-taken s.rule (written_in s) s.seqno had some-chunk (omega (arith, h.within)));
      }

  pub last-reach : (had : Bool) → s.sent ≡ written_in s → reach_as (Some (pos s.seqno)) true s.sent ≡ reach_after (reach_here s) (last_packet s had)
  last-reach had all = reach-eq (Some (pos s.seqno)) (Some (pos s.seqno)) true s.sent (max s.sent (packet_end (last_packet s had))) refl (omega (arith, all))

-- WHAT ISN'T ACKED

append-some : {A : Type 0} (xs : List A) (x : A) → xs ++ x ∷ [] ≡ [] → ⊥
append-some [] x e = cc
append-some (y ∷ xs) x e = cc

-- a stream with one packet more, behind the others
pub stream-more : (s z : StreamState) (q : Packet) → StreamWell s → z.unacked ≡ s.unacked ++ q ∷ [] → z.acked ≡ s.acked → packet_end q ≡ z.sent → s.sent ≤ z.sent → StreamWell z
stream-more s z q h more acked end rises = record {
  all = λ none. absurd (append-some s.unacked q (sym more ∙ none));
  ends = λ i p found last. ends i p last (get-append s.unacked (q ∷ []) i p (subst (λ (xs : List Packet). slice_get xs i ≡ Some p) more found));
  within = let low : s.acked ≤ s.sent = h.within in omega (arith, low, acked, rises);
}
  where
    long : length z.unacked ≡ length s.unacked + 1
    long = ap (λ (xs : List Packet). length xs) more ∙ length-append s.unacked (q ∷ [])

    ends : (i : ℕ) (p : Packet) → suc i ≡ length z.unacked → (slice_get s.unacked i ≡ Some p) ⊎ Behind s.unacked (q ∷ []) i p → packet_end p ≡ z.sent
    ends i p last (inl found) = let low : i < length s.unacked = get-within s.unacked i p found in absurd (omega (arith, low, last, long))
    ends i p last (inr x) = subst (λ (r : Packet). packet_end r ≡ z.sent) (one-place q p x.place x.found).1 end

pub more-left : (s : StreamState) (z : StreamState) (q : Packet) → z.unacked ≡ s.unacked ++ q ∷ [] → z.unacked ≡ [] → ⊥
more-left s z q more none = append-some s.unacked q (sym more ∙ none)

-- WHAT WAITS

pub formed-waits : (b : Bool) (q : ℤ) (o : Option Waiting) (m n : ℕ) → n ≡ m → StreamWaits o m → StreamWaits (sync_formed_as b q o) n
formed-waits true q None m n e h = tt
formed-waits true q (Some waiting.Opening) m n e h = h
formed-waits true q (Some (waiting.Flush k)) m n e h = omega (arith, e, h)
formed-waits true q (Some (waiting.Sync k x)) m n e h = omega (arith, e, h)
formed-waits true q (Some waiting.Close) m n e h = tt
formed-waits false q None m n e h = tt
formed-waits false q (Some waiting.Opening) m n e h = h
formed-waits false q (Some (waiting.Flush k)) m n e h = omega (arith, e, h)
formed-waits false q (Some (waiting.Sync k x)) m n e h = omega (arith, e, h)
formed-waits false q (Some waiting.Close) m n e h = tt

pub formed-close : (b : Bool) (q : ℤ) → sync_formed_as b q (Some waiting.Close) ≡ Some waiting.Close
formed-close true q = refl
formed-close false q = refl

sync-of : (n : ℕ) (x y : SyncPacket) (c : Command) → IsOf (waiting.Sync n x) c → IsOf (waiting.Sync n y) c
sync-of n x y command.Hsync o = o
sync-of n x y (command.Create ms) o = o
sync-of n x y (command.Append ms) o = o
sync-of n x y (command.Write bytes) o = o
sync-of n x y (command.Fill k) o = o
sync-of n x y command.Hflush o = o
sync-of n x y command.Close o = o

-- The same command waits.
pub formed-done : (b : Bool) (q : ℤ) (taken : List Command) (said : List Said) (o : Option Waiting) → DoneSoFar taken said o → DoneSoFar taken said (sync_formed_as b q o)
formed-done false q taken said o h = h
formed-done true q taken said None h = h
formed-done true q taken said (Some waiting.Opening) h = h
formed-done true q taken said (Some (waiting.Flush n)) h = h
formed-done true q taken said (Some waiting.Close) h = h
formed-done true q taken said (Some (waiting.Sync n x)) h =
    let l : WaitsLast taken (waiting.Sync n x) = h.last in
    record {
      each = λ k c found answered. later k c (h.each k c found answered);
      only = h.only;
      last = record { place = l.place; command = l.command; is = l.is; last = l.last; of = sync-of n x (sync.Formed q) l.command l.of };
    }
  where
    some : Some (waiting.Sync n (sync.Formed q)) ≡ None → ⊥
    some e = cc

    later : (k : ℕ) (c : Command) → IsDone said k c ⊎ ((suc k ≡ length taken) × (Some (waiting.Sync n x) ≡ None → ⊥)) → IsDone said k c ⊎ ((suc k ≡ length taken) × (Some (waiting.Sync n (sync.Formed q)) ≡ None → ⊥))
    later k c (inl done) = inl done
    later k c (inr late) = inr (late.0, some)
