-- What a turn of a member changes.
use Rattle.std.proofs.Common.{◌≡◌, ℕ, ◌<◌, ◌≤◌, ◌+◌, true, List, Option, Some, None, IfSome, refl, sym, ap, subst, arith}
use Rattle.std.specs.Prelude.{sum_by, ◌==◌}
use Rattle.std.proofs.lemmas.Bool.Decides.{nat_tests}
use Rattle.member_core.specs.Steps.{Step}
use Rattle.world.specs.Parts.{Message, Dialled, FullMember, Lower, writes, Break}
use Rattle.world.specs.Worlds.{World, Change, put_at, apply}
use Rattle.world.specs.Connections.{Next, sent_on}
use Rattle.world.specs.Nodes.{node_of, replica_at, block_of, passed, sent_up, member_change}
use Rattle.world_settling.specs.Traffic.{sum_to, hops, down_weight, up_weight, down_way, up_way, sides, member_weight, lower_weight, entries, entries_by, entries_of, traffic}
use Rattle.world_settling.proofs.Sums.{sum-at}
use Rattle.world_settling.proofs.Frame.{Eases, HasFirst, old-dialled, entries-each, put-other, put-here, downs-quiet, downs-sent, ups-sent, sides-same}
use Rattle.world_settling.proofs.Outer.{conns-stay}

itself : (n : ℕ) → (n == n) ≡ true
itself n = grind (arith, nat_tests)

-- the replica at a connection's lower end that changes
here-put : (w : World) (k : Change) (n b : ℕ) → k.node ≡ n → k.block ≡ b → put_at w.replicas k.node k.block k.replica n b ≡ k.replica
here-put w k n b p q = rw p (rw q (rw (itself n) (rw (itself b) refl)))

pub here-replica : (w : World) (k : Change) (c b : ℕ) → c < w.next_conn → k.node ≡ node_of w c → k.block ≡ b → replica_at (apply w k) c b ≡ k.replica
unfolding apply
here-replica w k c b lt n l =
    subst (λ (d : Dialled). put_at w.replicas k.node k.block k.replica d.to.node b ≡ k.replica) (sym (old-dialled w k c lt)) (here-put w k (w.dialled c).to.node b n l)

-- what is sent on to a mirror, if there is one
abbrev pub onward : World → Option ℕ → List Message → ℕ
onward w None ms = 0
onward w (Some d) ms = sum_by (down_weight (hops w d)) ms

onward-sent : (w : World) (k : Change) (o : Option ℕ) (ms : List Message) → ((c : ℕ) → k.downs c ≡ sent_on o ms c) → IfSome o (λ d. HasFirst (w.downs d))
    → sum_to (down_way (apply w k)) w.next_conn ≤ sum_to (down_way w) w.next_conn + onward w o ms
onward-sent w k None ms h b = omega (arith, downs-quiet w k h)
onward-sent w k (Some d) ms h b = downs-sent w k d ms h b

pub lower-other : (w : World) (k : Change) (i : ℕ) → (i ≡ k.lower_at → ⊥) → (apply w k).lowers i ≡ w.lowers i
unfolding apply
lower-other w k i ne = put-other w.lowers k.lower_at i k.lower ne

pub lower-here : (w : World) (k : Change) → (apply w k).lowers k.lower_at ≡ k.lower
unfolding apply
lower-here w k = put-here w.lowers k.lower_at k.lower

-- a member that is at the lower end of a connection
pub record Stands (w : World) (c : ℕ) (m : FullMember) : Type 0 where
  pub known : c < w.next_conn
  pub lower : w.lowers c ≡ writes m
  pub mirror : IfSome m.mirror (λ d. HasFirst (w.downs d))

pub member-frame : (w : World) (c : ℕ) (m : FullMember) (x : Next) (s : Step) (b : Option Break) → Stands w c m → ((i : ℕ) → (i ≡ c → ⊥) → Eases w (member_change w c m x s b) i)
    → traffic (apply w (member_change w c m x s b)) + member_weight m.state + entries_by c (replica_at w c (block_of m.fields)).known
    ≤ traffic w + onward w m.mirror (passed s.effect.forwards x) + sum_by up_weight (sent_up m.fields s.effect.sends) + member_weight s.member + entries_by c s.replica.known
unfolding traffic
member-frame w c m x s b st eases =
    let k : Change = member_change w c m x s b in
    let v : World = apply w k in
    let downs = onward-sent w k m.mirror (passed s.effect.forwards x) (λ d. refl) st.mirror in
    let ups = ups-sent w k c (sent_up m.fields s.effect.sends) (λ d. refl) in
    let ends = sides-same w k in
    let lowers : sum_to (λ i. lower_weight (v.lowers i)) w.next_conn + lower_weight (w.lowers c) ≤ sum_to (λ i. lower_weight (w.lowers i)) w.next_conn + lower_weight (v.lowers c) =
    sum-at (λ i. lower_weight (w.lowers i)) (λ i. lower_weight (v.lowers i)) w.next_conn c (λ i l ne. let e = ap lower_weight (lower-other w k i ne) in omega (arith, e)) st.known in
    let held : sum_to (entries v) w.next_conn + entries w c ≤ sum_to (entries w) w.next_conn + entries v c =
    sum-at (entries w) (entries v) w.next_conn c
    (λ i l ne. let e = ap (λ (y : Lower). entries_of y v i) (lower-other w k i ne) in omega (arith, e, entries-each w k i (w.lowers i) l (eases i ne))) st.known in
    let old-weight = ap lower_weight st.lower in
    let new-weight = ap lower_weight (lower-here w k) in
    let old-held = ap (λ (y : Lower). entries_of y w c) st.lower in
    let new-held = ap (λ (y : Lower). entries_of y v c) (lower-here w k) in
    let replica = ap (λ r. entries_by c r.known) (here-replica w k c (block_of m.fields) st.known refl refl) in
    let n = conns-stay w k refl in
    omega (
      arith,
      downs,
      ups,
      ends,
      lowers,
      held,
      old-weight,
      new-weight,
      old-held,
      new-held,
      replica,
      ap (sum_to (down_way v)) n,
      ap (sum_to (up_way v)) n,
      ap (sum_to (sides v)) n,
      ap (sum_to (λ i. lower_weight (v.lowers i))) n,
      ap (sum_to (entries v)) n,
    )
