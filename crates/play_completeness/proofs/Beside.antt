-- What leaves alone all but readers, and connections that aren't of pipelines, keeps a play without failures as it should
-- be.
use Rattle.std.proofs.Common.{◌≡◌, ℕ, List, [], drop, map, Some, refl, sym, ◌∙◌, ap, subst}
use Rattle.std.specs.Prelude.{if◌then◌else◌}
use Rattle.op_headers.specs.Values.{WriteFields}
use Rattle.replica_core.specs.Views.{rule_in}
use Rattle.replica_model.specs.Rows.{FullReplica}
use Rattle.world.specs.Parts.{Message, Upper, by_writer, by_member, by_reader, by_primary, Dialled, Marks, FullMember, Lower, idle, writes, serves, recovers, ended_below, Writing}
use Rattle.world.specs.Worlds.{World}
use Rattle.world.specs.Nodes.{node_of, block_of, replica_at}
use Rattle.world_laws.specs.Placing.{Placed, IsUpper}
use Rattle.world_orders.specs.Orders.{Ordered}
use Rattle.play_model.specs.Dues.{is_open}
use Rattle.play_completeness.specs.Formed.{HasRule, AllHave, Ruled}
use Rattle.play_completeness.specs.Streams.{packets_in, acks_in, as_pending, reach_in, reach_of}
use Rattle.play_completeness.specs.Links.{Awaits, pending_below, awaited, member_reach, member_rule, reach_below, reach_above, rule_above, Link, InPipeline, Links}
use Rattle.play_completeness.specs.Writers.{WriterWell, Writers}
use Rattle.play_completeness.proofs.EndsKeep.{SameBlock, well-same}
use Rattle.play_completeness.proofs.LinkFrame.{link-same}
use Rattle.play_completeness.proofs.Pipelines.{writing-in}

-- a connection of which all stays
pub record SameConn (w v : World) (c : ℕ) : Type 0 where
  pub dialled : v.dialled c ≡ w.dialled c
  pub downs : v.downs c ≡ w.downs c
  pub ups : v.ups c ≡ w.ups c
  pub down_marks : v.down_marks c ≡ w.down_marks c
  pub up_marks : v.up_marks c ≡ w.up_marks c
  pub lowers : v.lowers c ≡ w.lowers c

-- All stays but readers, and connections that aren't of pipelines; on those no member begins or ends.
pub record Beside (w v : World) : Type 0 where
  pub nodes : v.nodes ≡ w.nodes
  pub office : v.office ≡ w.office
  pub latest : (b : ℕ) → v.latest b ≡ w.latest b
  pub written : (s : ℕ) → v.written s ≡ w.written s
  pub writers : (b : ℕ) → v.writers b ≡ w.writers b
  pub said : (b : ℕ) → v.said b ≡ w.said b
  pub replicas : (n b : ℕ) → v.replicas n b ≡ w.replicas n b
  pub before : (c : ℕ) → InPipeline v c → InPipeline w c
  pub conns : (c : ℕ) → InPipeline w c → SameConn w v c
  pub onward : (c : ℕ) (m : FullMember) → w.lowers c ≡ writes m → v.lowers c ≡ writes m
  pub back : (c : ℕ) (m : FullMember) → v.lowers c ≡ writes m → w.lowers c ≡ writes m

pub beside-itself : (w : World) → Beside w w
beside-itself w = record {
  nodes = refl;
  office = refl;
  latest = λ b. refl;
  written = λ s. refl;
  writers = λ b. refl;
  said = λ b. refl;
  replicas = λ n b. refl;
  before = λ c p. p;
  conns = λ c p. record { dialled = refl; downs = refl; ups = refl; down_marks = refl; up_marks = refl; lowers = refl };
  onward = λ c m is. is;
  back = λ c m is. is;
}

-- CONNECTIONS

module _ (w v : World) (o : Ordered w) (placed : Placed w) (links : Links w) (s : Beside w v) where
  replica-same : (k : ℕ) → InPipeline w k → (b : ℕ) → replica_at v k b ≡ replica_at w k b
  replica-same k lk b = ap (λ (q : Dialled). v.replicas q.to.node b) (s.conns k lk).dialled ∙ s.replicas (node_of w k) b

  pending-same : (k : ℕ) → InPipeline w k → (l : Lower) → pending_below v k l ≡ pending_below w k l
  pending-same k lk (writes x) = ap (λ (y : FullReplica). if x.state.responds then y.known.pending else []) (replica-same k lk (block_of x.fields))
  pending-same k lk idle = refl
  pending-same k lk (serves n t) = refl
  pending-same k lk recovers = refl
  pending-same k lk ended_below = refl

  reach-below-same : (k : ℕ) → InPipeline w k → (f : WriteFields) (l : Lower) → reach_below v k f l ≡ reach_below w k f l
  reach-below-same k lk f (writes x) = ap (λ (y : FullReplica). reach_in y.known) (replica-same k lk (block_of x.fields))
  reach-below-same k lk f idle = refl
  reach-below-same k lk f (serves n t) = refl
  reach-below-same k lk f recovers = refl
  reach-below-same k lk f ended_below = refl

  awaits-on : (k : ℕ) (u : Upper) → Awaits w k u → Awaits v k u
  awaits-on k (by_writer n) x = ap (λ (y : Writing). y.conn) (s.writers n) ∙ x
  awaits-on k (by_member e) x =
      let is : v.lowers e ≡ writes x.member = s.onward e x.member x.is in
      record { member = x.member; is = is; mirror = x.mirror; acts = ap is_open (is ∙ sym x.is) ∙ x.acts }
  awaits-on k (by_reader i) x = x
  awaits-on k (by_primary i place) x = x

  awaits-back : (k : ℕ) (u : Upper) → Awaits v k u → Awaits w k u
  awaits-back k (by_writer n) x = sym (ap (λ (y : Writing). y.conn) (s.writers n)) ∙ x
  awaits-back k (by_member e) x =
      let is : w.lowers e ≡ writes x.member = s.back e x.member x.is in
      record { member = x.member; is = is; mirror = x.mirror; acts = ap is_open (is ∙ sym x.is) ∙ x.acts }
  awaits-back k (by_reader i) x = x
  awaits-back k (by_primary i place) x = x

  above-same : (k : ℕ) (u : Upper) → IsUpper w.next_conn u → Awaits w k u → (awaited v u ≡ awaited w u) × (reach_above v u ≡ reach_above w u) × (rule_above v u ≡ rule_above w u)
  above-same k (by_writer n) within x = (
    ap (λ (y : Writing). map as_pending y.known.stream.unacked) (s.writers n),
    ap (λ (y : Writing). reach_of y.known) (s.writers n),
    ap (λ (y : Writing). Some y.known.stream.rule) (s.writers n),
  )
  above-same k (by_member e) within x =
      let le : InPipeline w e = writing-in w o e x.member x.is within in
      let at : replica_at v e (block_of x.member.fields) ≡ replica_at w e (block_of x.member.fields) = replica-same e le (block_of x.member.fields) in
      let now : v.lowers e ≡ writes x.member = s.onward e x.member x.is in (
        ap (pending_below v e) now ∙ (ap (λ (y : FullReplica). if x.member.state.responds then y.known.pending else []) at ∙ sym (ap (pending_below w e) x.is)),
        ap (member_reach v e) now ∙ (ap (λ (y : FullReplica). reach_in y.known) at ∙ sym (ap (member_reach w e) x.is)),
        ap (member_rule v e) now ∙ (ap (λ (y : FullReplica). rule_in y.known) at ∙ sym (ap (member_rule w e) x.is)),
      )
  above-same k (by_reader i) within x = absurd x
  above-same k (by_primary i place) within x = absurd x

  conn-kept : (k : ℕ) (lk : InPipeline w k) → SameConn w v k → Link v k
  conn-kept k lk t =
      let u : Upper = (w.dialled k).upper in
      link-same w v k (links k lk) (record {
        below = record {
          dialled = t.dialled;
          downs = t.downs;
          ups = t.ups;
          down_end = ap (λ (m : Marks). m.end) t.down_marks;
          up_end = ap (λ (m : Marks). m.end) t.up_marks;
          down_taken = ap (λ (m : Marks). m.taken) t.down_marks;
          up_taken = ap (λ (m : Marks). m.taken) t.up_marks;
          lowers = t.lowers;
          ready = λ at i n found. s.replicas n (block_of (links k lk).fields);
          replica = λ x at acts. s.replicas (node_of w k) (block_of (links k lk).fields);
        };
        onward = awaits-on k u;
        back = awaits-back k u;
        carry = λ x.
            let a = above-same k u (placed.dialled k lk.known).upper x in
            record {
              waits = a.0;
              acks = ap (λ (m : Marks). acks_in (drop m.taken (v.ups k))) t.up_marks ∙ ap (λ (ms : List Message). acks_in (drop (w.up_marks k).taken ms)) t.ups;
              pending = pending-same k lk (w.lowers k);
              packets = ap (λ (m : Marks). packets_in (drop m.taken (v.downs k))) t.down_marks ∙ ap (λ (ms : List Message). packets_in (drop (w.down_marks k).taken ms)) t.downs;
              below = λ _. reach-below-same k lk (links k lk).fields (w.lowers k);
              above = a.1;
              rule = a.2;
            };
      })

  pub beside-links : Links v
  beside-links k lk = conn-kept k (s.before k lk) (s.conns k (s.before k lk))

-- WRITERS, RULES AND BLOCKS

module _ (w v : World) (s : Beside w v) where
  well-kept : (b : ℕ) → WriterWell w b (w.writers b).known → WriterWell v b (w.writers b).known
  well-kept b h = record {
    stream = h.stream;
    phase_is = well-same w v b (w.writers b).known (w.writers b).known.phase (record { office = s.office; latest = s.latest b; written = s.written; replicas = λ off n. s.replicas n b }) h.phase_is;
  }

  pub beside-writers : Writers w → Writers v
  beside-writers h b = subst (λ (x : Writing). WriterWell v b x.known) (sym (s.writers b)) (well-kept b (h b))

  pub beside-ruled : Ruled w → Ruled v
  beside-ruled h b =
      subst (λ (x : Writing). AllHave v b x.known.stream.rule) (sym (s.writers b))
      (record { each = λ n. subst (λ (r : FullReplica). HasRule (w.writers b).known.stream.rule r) (sym (s.replicas n b)) ((h b).each n) })

  pub beside-block : (b : ℕ) → SameBlock w v b
  beside-block b = record {
    nodes = s.nodes;
    taken = ap (λ (x : Writing). x.known.taken) (s.writers b);
    intake = ap (λ (x : Writing). x.known.intake) (s.writers b);
    members = ap (λ (x : Writing). x.known.members) (s.writers b);
    waiting = ap (λ (x : Writing). x.known.waiting) (s.writers b);
    said = s.said b;
    bytes = s.written (v.latest b) ∙ ap w.written (s.latest b);
  }
