-- What writers, readers and primaries take lowers what is to be delivered.
use Rattle.std.proofs.Common.{◌≡◌, ℕ, ◌≤◌, ◌+◌, [], ◌∷◌, Option, Some, None, IfSome, refl, ap, arith}
use Rattle.std.specs.Prelude.{◌==◌, ◌&&◌, is_none, slice_get}
use Rattle.hd_base.specs.declared.states.Status.TheVariants as status
use Rattle.world.specs.ReadCore.FromNode.TheVariants as from_node
use Rattle.world.specs.ReadCore.ReadPhase.{ReadPhase}
use Rattle.world.specs.ReadCore.ReadPhase.TheVariants as read_phase
use Rattle.world.specs.ReadCore.ReadTurn.{ReadTurn}
use Rattle.world.specs.ReadCore.ReadTurn.TheVariants as turn
use Rattle.world.specs.ReadCore.Readings.{ReadingState, ReadTaken, taken_at, take_from}
use Rattle.world.specs.RecoveryCore.Standing.{Standing}
use Rattle.world.specs.Parts.{Message, read_status, Leading, Primary, no_primary, was_told, leads, has_led, Reader, no_reader, reads, has_read}
use Rattle.world.specs.Worlds.{World, Change, apply}
use Rattle.world.specs.Connections.{Next, message, the_end, is_conn, is_alive}
use Rattle.world.specs.Clients.{writer_up, from_node_of, reader_turn, reader_up_as, reader_up}
use Rattle.world.specs.Primaries.{listens, hears_change, primary_up_as, primary_up}
use Rattle.world_settling.specs.Traffic.{sum_to, down_way, up_way, sides, lower_weight, entries, traffic}
use Rattle.world_settling.proofs.Sums.{sum-le}
use Rattle.world_settling.proofs.Frame.{Eases, HasFirst, entries-each, downs-sent, ups-quiet, sides-same}
use Rattle.world_settling.proofs.Outer.{Quiet, quiet-keeps, lower-stays, conns-stay, when-each}
use Rattle.world_settling.proofs.Taking.{up_paid}

-- what was paid is more than what the change makes
pub record Falls (w : World) (paid : ℕ) (k : Change) : Type 0 where
  pub is : traffic (apply w k) + 1 ≤ traffic w + paid

pub up-pays : (x : Next) → 1 ≤ up_paid x
up-pays (message m) = omega arith
up-pays the_end = omega arith

pub quiet-falls : (w : World) (k : Change) (paid : ℕ) → 1 ≤ paid → Quiet w k → Falls w paid k
quiet-falls w k paid p q = record { is = omega (arith, quiet-keeps w k q, p) }

-- WRITERS

pub writer-falls : (w : World) (b c : ℕ) (x : Next) → IfSome (writer_up w b c x) (Falls w (up_paid x))
writer-falls w b c x =
    when-each (Falls w (up_paid x)) (is_conn (w.writers b).conn c && is_none (w.writers b).told) _
    (λ e. quiet-falls w _ (up_paid x) (up-pays x) (record { dials = refl; downs = λ d. refl; ups = λ d. refl; lower = refl; replica = refl }))

-- READERS

-- The answer to a read that is verified weighs less than the packet that was taken.
verified-falls : (w : World) (i c : ℕ) (t : ReadTaken) (m : Message) → HasFirst (w.downs c) → Falls w (up_paid (message m)) (reader_turn w i c t turn.Verified)
unfolding traffic
verified-falls w i c t m b =
    let k : Change = reader_turn w i c t turn.Verified in
    let eases : (d : ℕ) → Eases w k d = λ d. omega arith in
    let lowers = sum-le (λ d. lower_weight (w.lowers d)) (λ d. lower_weight ((apply w k).lowers d)) w.next_conn (λ d lt. rw (lower-stays w k d refl) (omega arith)) in
    let held = sum-le (entries w) (entries (apply w k)) w.next_conn (λ d lt. rw (lower-stays w k d refl) (entries-each w k d (w.lowers d) lt (eases d))) in
    let downs = downs-sent w k c (read_status status.ChecksumOk ∷ []) (λ d. refl) b in
    let ups = ups-quiet w k (λ d. refl) in
    let ends = sides-same w k in
    let v : World = apply w k in
    let n = conns-stay w k refl in
    record { is = omega (arith, downs, ups, ends, lowers, held, ap (sum_to (down_way v)) n, ap (sum_to (up_way v)) n, ap (sum_to (sides v)) n, ap (sum_to (λ d. lower_weight (v.lowers d))) n, ap (sum_to (entries v)) n) }

turn-falls : (w : World) (i c : ℕ) (t : ReadTaken) (x : Next) (y : ReadTurn) → (y ≡ turn.Verified → (m : Message) × (x ≡ message m)) → HasFirst (w.downs c) → Falls w (up_paid x) (reader_turn w i c t y)
turn-falls w i c t x turn.Goes v b = quiet-falls w _ (up_paid x) (up-pays x) (record { dials = refl; downs = λ d. refl; ups = λ d. refl; lower = refl; replica = refl })
turn-falls w i c t x (turn.Fails f) v b = quiet-falls w _ (up_paid x) (up-pays x) (record { dials = refl; downs = λ d. refl; ups = λ d. refl; lower = refl; replica = refl })
turn-falls w i c t x turn.Verified v b = let p = v refl in rw p.1 (verified-falls w i c t p.0 b)

-- no end completes a read
end-fails : (p : ReadPhase) (s : ReadingState) → (taken_at p s from_node.End).does ≡ turn.Verified → ⊥
end-fails read_phase.Asked s e = cc
end-fails (read_phase.Receiving rule at seqno) s e = cc
end-fails read_phase.Over s e = cc

verified-by : (s : ReadingState) (x : Next) → (take_from s (from_node_of x)).does ≡ turn.Verified → (m : Message) × (x ≡ message m)
verified-by s (message m) e = (m, refl)
verified-by s the_end e = absurd (end-fails s.phase s e)

reader-as : (r : Reader) (w : World) (i c : ℕ) (x : Next) → HasFirst (w.downs c) → IfSome (reader_up_as r w i c x) (Falls w (up_paid x))
reader-as (reads d s) w i c x b =
    when-each (Falls w (up_paid x)) (d == c) _ (λ e. turn-falls w i c (take_from s (from_node_of x)) x (take_from s (from_node_of x)).does (verified-by s x) b)
reader-as no_reader w i c x b = tt
reader-as (has_read r) w i c x b = tt

pub reader-falls : (w : World) (i c : ℕ) (x : Next) → HasFirst (w.downs c) → IfSome (reader_up w i c x) (Falls w (up_paid x))
reader-falls w i c x b = reader-as (w.readers i) w i c x b

-- PRIMARIES

hears-falls : (w : World) (i : ℕ) (l : Leading) (place c : ℕ) (x : Next) (o : Option Standing) → IfSome (hears_change w i l place c x o) (Falls w (up_paid x))
hears-falls w i l place c x None = tt
hears-falls w i l place c x (Some s) =
    when-each (Falls w (up_paid x)) (listens l.state.phase s) _
    (λ e. quiet-falls w _ (up_paid x) (up-pays x) (record { dials = refl; downs = λ d. refl; ups = λ d. refl; lower = refl; replica = refl }))

primary-as : (p : Primary) (w : World) (i place c : ℕ) (x : Next) → IfSome (primary_up_as p w i place c x) (Falls w (up_paid x))
primary-as (leads l) w i place c x =
    when-each (Falls w (up_paid x)) (is_alive w l.at && is_none l.told) _ (λ e. hears-falls w i l place c x (slice_get l.state.standings place))
primary-as no_primary w i place c x = tt
primary-as (was_told b t) w i place c x = tt
primary-as (has_led r) w i place c x = tt

pub primary-falls : (w : World) (i place c : ℕ) (x : Next) → IfSome (primary_up w i place c x) (Falls w (up_paid x))
primary-falls w i place c x = primary-as (w.primaries i) w i place c x
