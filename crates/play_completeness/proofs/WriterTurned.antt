-- A turn of a writer leaves all connections but its own as they are.
use Rattle.std.proofs.Common.{◌≡◌, ℕ, ◌<◌, Bool, true, false, List, [], drop, map, Some, refl, sym, ◌∙◌, ap, eqb-true}
use Rattle.std.specs.Prelude.{◌==◌, if◌then◌else◌}
use Rattle.std.proofs.lemmas.Bool.{false≢true}
use Rattle.std.proofs.lemmas.Option.{same_Some}
use Rattle.op_headers.specs.Values.{WriteFields}
use Rattle.replica_core.specs.Views.{rule_in}
use Rattle.replica_model.specs.Rows.{FullReplica}
use Rattle.world.specs.Parts.{Message, Upper, by_writer, by_member, by_reader, by_primary, Dialled, Lower, writes, idle, serves, recovers, ended_below, Writing}
use Rattle.world.specs.Worlds.{World}
use Rattle.world.specs.Nodes.{block_of, node_of, replica_at}
use Rattle.world_laws.specs.Placing.{Placed, IsUpper}
use Rattle.world_orders.proofs.Kept.{eqb-itself}
use Rattle.play_model.specs.Dues.{is_open}
use Rattle.play_completeness.specs.Streams.{packets_in, acks_in, as_pending, reach_in, reach_of}
use Rattle.play_completeness.specs.Links.{Awaits, pending_below, awaited, member_reach, member_rule, reach_below, reach_above, rule_above, Link, InPipeline, Links}
use Rattle.play_completeness.proofs.LinkFrame.{link-same}

-- What a turn of the writer of a block, which has a connection, makes of the world: the writer, and whether the
-- connection is shut.
pub record WriterTurned (w v : World) (b c : ℕ) (new : Writing) : Type 0 where
  pub conns : v.next_conn ≡ w.next_conn
  pub dialled : (k : ℕ) → k < w.next_conn → v.dialled k ≡ w.dialled k
  pub downs : (k : ℕ) → (k == c) ≡ false → v.downs k ≡ w.downs k
  pub ups : (k : ℕ) → v.ups k ≡ w.ups k
  pub lowers : (k : ℕ) → v.lowers k ≡ w.lowers k
  pub replicas : (n k : ℕ) → v.replicas n k ≡ w.replicas n k
  pub writer : v.writers b ≡ new
  pub writers : (k : ℕ) → (k == b) ≡ false → v.writers k ≡ w.writers k
  pub down_end : (k : ℕ) → (k == c) ≡ false → (v.down_marks k).end ≡ (w.down_marks k).end
  pub up_end : (k : ℕ) → (k == c) ≡ false → (v.up_marks k).end ≡ (w.up_marks k).end
  pub down_taken : (k : ℕ) → (v.down_marks k).taken ≡ (w.down_marks k).taken
  pub up_taken : (k : ℕ) → (k == c) ≡ false → (v.up_marks k).taken ≡ (w.up_marks k).taken

module _ (w v : World) (placed : Placed w) (links : Links w) (b c : ℕ) (new : Writing) (t : WriterTurned w v b c new) (conn : (w.writers b).conn ≡ Some c) (kept : (k : ℕ) → new.conn ≡ Some k → k ≡ c) where
  pub replica-same : (k : ℕ) → k < w.next_conn → (f : WriteFields) → replica_at v k (block_of f) ≡ replica_at w k (block_of f)
  replica-same k lk f = ap (λ (q : Dialled). v.replicas q.to.node (block_of f)) (t.dialled k lk) ∙ t.replicas (node_of w k) (block_of f)

  -- who awaits another connection
  not-it : (k n : ℕ) → (k == c) ≡ false → (w.writers n).conn ≡ Some k → (n == b) ≡ false
  not-it k n other a = go (n == b) refl
    where
      go : (q : Bool) → (n == b) ≡ q → (n == b) ≡ false
      go false e = e
      go true e =
          let one : k ≡ c = same_Some k c (sym a ∙ (ap (λ (i : ℕ). (w.writers i).conn) (eqb-true n b e) ∙ conn)) in
          absurd (false≢true (sym other ∙ (ap (λ (i : ℕ). i == c) one ∙ eqb-itself c)))

  not-it-after : (k n : ℕ) → (k == c) ≡ false → (v.writers n).conn ≡ Some k → (n == b) ≡ false
  not-it-after k n other a = go (n == b) refl
    where
      go : (q : Bool) → (n == b) ≡ q → (n == b) ≡ false
      go false e = e
      go true e =
          let one : k ≡ c = kept k (sym (ap (λ (i : ℕ). (v.writers i).conn) (eqb-true n b e) ∙ ap (λ (x : Writing). x.conn) t.writer) ∙ a) in
          absurd (false≢true (sym other ∙ (ap (λ (i : ℕ). i == c) one ∙ eqb-itself c)))

  awaits-on : (k : ℕ) → (k == c) ≡ false → (u : Upper) → Awaits w k u → Awaits v k u
  awaits-on k other (by_writer n) a = ap (λ (x : Writing). x.conn) (t.writers n (not-it k n other a)) ∙ a
  awaits-on k other (by_member e) a = record { member = a.member; is = t.lowers e ∙ a.is; mirror = a.mirror; acts = ap is_open (t.lowers e) ∙ a.acts }
  awaits-on k other (by_reader i) a = a
  awaits-on k other (by_primary i place) a = a

  awaits-back : (k : ℕ) → (k == c) ≡ false → (u : Upper) → Awaits v k u → Awaits w k u
  awaits-back k other (by_writer n) a = sym (ap (λ (x : Writing). x.conn) (t.writers n (not-it-after k n other a))) ∙ a
  awaits-back k other (by_member e) a = record { member = a.member; is = sym (t.lowers e) ∙ a.is; mirror = a.mirror; acts = sym (ap is_open (t.lowers e)) ∙ a.acts }
  awaits-back k other (by_reader i) a = a
  awaits-back k other (by_primary i place) a = a

  above-same : (k : ℕ) → (k == c) ≡ false → (u : Upper) → IsUpper w.next_conn u → Awaits w k u → (awaited v u ≡ awaited w u) × (reach_above v u ≡ reach_above w u) × (rule_above v u ≡ rule_above w u)
  above-same k other (by_writer n) within a =
      let same : v.writers n ≡ w.writers n = t.writers n (not-it k n other a) in (
        ap (λ (x : Writing). map as_pending x.known.stream.unacked) same,
        ap (λ (x : Writing). reach_of x.known) same,
        ap (λ (x : Writing). Some x.known.stream.rule) same,
      )
  above-same k other (by_member e) within a =
      let at : replica_at v e (block_of a.member.fields) ≡ replica_at w e (block_of a.member.fields) = replica-same e within a.member.fields in
      let same : v.lowers e ≡ w.lowers e = t.lowers e in (
        ap (pending_below v e) (same ∙ a.is) ∙ (ap (λ (x : FullReplica). if a.member.state.responds then x.known.pending else []) at ∙ sym (ap (pending_below w e) a.is)),
        ap (member_reach v e) (same ∙ a.is) ∙ (ap (λ (x : FullReplica). reach_in x.known) at ∙ sym (ap (member_reach w e) a.is)),
        ap (member_rule v e) (same ∙ a.is) ∙ (ap (λ (x : FullReplica). rule_in x.known) at ∙ sym (ap (member_rule w e) a.is)),
      )
  above-same k other (by_reader i) within a = absurd a
  above-same k other (by_primary i place) within a = absurd a

  pub pending-same : (k : ℕ) → k < w.next_conn → (l : Lower) → pending_below v k l ≡ pending_below w k l
  pending-same k lk (writes x) = ap (λ (y : FullReplica). if x.state.responds then y.known.pending else []) (replica-same k lk x.fields)
  pending-same k lk idle = refl
  pending-same k lk (serves n s) = refl
  pending-same k lk recovers = refl
  pending-same k lk ended_below = refl

  pub reach-below-same : (k : ℕ) → k < w.next_conn → (f : WriteFields) (l : Lower) → reach_below v k f l ≡ reach_below w k f l
  reach-below-same k lk f (writes x) = ap (λ (y : FullReplica). reach_in y.known) (replica-same k lk x.fields)
  reach-below-same k lk f idle = refl
  reach-below-same k lk f (serves n s) = refl
  reach-below-same k lk f recovers = refl
  reach-below-same k lk f ended_below = refl

  pub other-kept : (k : ℕ) (lk : InPipeline w k) → (k == c) ≡ false → Link v k
  other-kept k lk other =
      let u : Upper = (w.dialled k).upper in
      link-same w v k (links k lk) (record {
        below = record {
          dialled = t.dialled k lk.known;
          downs = t.downs k other;
          ups = t.ups k;
          down_end = t.down_end k other;
          up_end = t.up_end k other;
          down_taken = t.down_taken k;
          up_taken = t.up_taken k other;
          lowers = t.lowers k;
          ready = λ at i n found. t.replicas n (block_of (links k lk).fields);
          replica = λ x at acts. t.replicas (node_of w k) (block_of (links k lk).fields);
        };
        onward = awaits-on k other u;
        back = awaits-back k other u;
        carry = λ a.
            let s = above-same k other u (placed.dialled k lk.known).upper a in
            record {
              waits = s.0;
              acks = ap (λ (n : ℕ). acks_in (drop n (v.ups k))) (t.up_taken k other) ∙ ap (λ (ms : List Message). acks_in (drop (w.up_marks k).taken ms)) (t.ups k);
              pending = pending-same k lk.known (w.lowers k);
              packets = ap (λ (n : ℕ). packets_in (drop n (v.downs k))) (t.down_taken k) ∙ ap (λ (ms : List Message). packets_in (drop (w.down_marks k).taken ms)) (t.downs k other);
              below = λ _. reach-below-same k lk.known (links k lk).fields (w.lowers k);
              above = s.1;
              rule = s.2;
            };
      })
