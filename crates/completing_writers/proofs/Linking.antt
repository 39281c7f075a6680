-- An own step of a writer keeps each connection on which it sends nothing.
use Rattle.std.proofs.Common.{◌≡◌, ℕ, ◌<◌, Bool, true, false, List, [], drop, map, Some, refl, sym, ◌∙◌, ap, subst, eqb-true}
use Rattle.std.specs.Prelude.{◌==◌, if◌then◌else◌}
use Rattle.hd_base.specs.SumRules.{Rule}
use Rattle.op_headers.specs.Values.{WriteFields}
use Rattle.replica_core.specs.Views.{rule_in}
use Rattle.replica_model.specs.Rows.{FullReplica}
use Rattle.writer_core.specs.declared.records.WriterRecord.{WriterRecord}
use Rattle.world.specs.Parts.{Message, Marks, Upper, by_writer, by_member, by_reader, by_primary, Dialled, Lower, writes, idle, serves, recovers, ended_below, Writing}
use Rattle.world.specs.Worlds.{World}
use Rattle.world.specs.Nodes.{block_of, node_of, replica_at}
use Rattle.world_laws.specs.Placing.{Placed, IsUpper}
use Rattle.play_model.specs.Dues.{is_open}
use Rattle.play_completeness.specs.Streams.{packets_in, acks_in, as_pending, reach_in, reach_of}
use Rattle.play_completeness.specs.Links.{Awaits, pending_below, awaited, member_reach, member_rule, reach_below, reach_above, rule_above, Link, InPipeline, Links}
use Rattle.play_completeness.proofs.LinkFrame.{link-same}
use Rattle.play_completeness.proofs.Pipelines.{piped-before}
use Rattle.completing_writers.proofs.Leaving.{Aside, Unsent}

-- A writer awaits the same, and has come as far, under the same rule.
pub record SameStream (n x : WriterRecord) : Type 0 where
  pub waits : map as_pending n.stream.unacked ≡ map as_pending x.stream.unacked
  pub reach : reach_of n ≡ reach_of x
  pub rule : n.stream.rule ≡ x.stream.rule

-- Where a connection is the writer's, it stays so, with the same stream; and it is no other one.
pub record KeepsConn (w : World) (b k : ℕ) (new : Writing) : Type 0 where
  pub onward : (w.writers b).conn ≡ Some k → new.conn ≡ Some k
  pub back : new.conn ≡ Some k → (w.writers b).conn ≡ Some k
  pub stream : (w.writers b).conn ≡ Some k → SameStream new.known (w.writers b).known

-- what is above a connection
abbrev pub Above : World → World → Upper → Type 0
Above v w u = (awaited v u ≡ awaited w u) × (reach_above v u ≡ reach_above w u) × (rule_above v u ≡ rule_above w u)

module _ (w v : World) (b : ℕ) (new : Writing) (placed : Placed w) (links : Links w) (a : Aside w v b new) where
  pub replica-same : (k : ℕ) → k < w.next_conn → (f : WriteFields) → replica_at v k (block_of f) ≡ replica_at w k (block_of f)
  replica-same k lk f = ap (λ (q : Dialled). v.replicas q.to.node (block_of f)) (a.dialled k lk) ∙ a.replicas (node_of w k) (block_of f)

  pub pending-same : (k : ℕ) → k < w.next_conn → (l : Lower) → pending_below v k l ≡ pending_below w k l
  pending-same k lk (writes x) = ap (λ (y : FullReplica). if x.state.responds then y.known.pending else []) (replica-same k lk x.fields)
  pending-same k lk idle = refl
  pending-same k lk (serves n s) = refl
  pending-same k lk recovers = refl
  pending-same k lk ended_below = refl

  pub reach-below-same : (k : ℕ) → k < w.next_conn → (f : WriteFields) (l : Lower) → reach_below v k f l ≡ reach_below w k f l
  reach-below-same k lk f (writes x) = ap (λ (y : FullReplica). reach_in y.known) (replica-same k lk x.fields)
  reach-below-same k lk f idle = refl
  reach-below-same k lk f (serves n s) = refl
  reach-below-same k lk f recovers = refl
  reach-below-same k lk f ended_below = refl

  -- who awaits a connection
  awaits-on : (k : ℕ) → KeepsConn w b k new → (u : Upper) → Awaits w k u → Awaits v k u
  awaits-on k o (by_writer n) x = go (n == b) refl
    where
      go : (q : Bool) → (n == b) ≡ q → (v.writers n).conn ≡ Some k
      go true e =
          let at : n ≡ b = eqb-true n b e in
          subst (λ (i : ℕ). (v.writers i).conn ≡ Some k) (sym at) (ap (λ (y : Writing). y.conn) a.writer ∙ o.onward (subst (λ (i : ℕ). (w.writers i).conn ≡ Some k) at x))
      go false e = ap (λ (y : Writing). y.conn) (a.writers n e) ∙ x
  awaits-on k o (by_member e) x = record { member = x.member; is = a.lowers e ∙ x.is; mirror = x.mirror; acts = ap is_open (a.lowers e) ∙ x.acts }
  awaits-on k o (by_reader i) x = x
  awaits-on k o (by_primary i place) x = x

  awaits-back : (k : ℕ) → KeepsConn w b k new → (u : Upper) → Awaits v k u → Awaits w k u
  awaits-back k o (by_writer n) x = go (n == b) refl
    where
      go : (q : Bool) → (n == b) ≡ q → (w.writers n).conn ≡ Some k
      go true e =
          let at : n ≡ b = eqb-true n b e in
          subst (λ (i : ℕ). (w.writers i).conn ≡ Some k) (sym at) (o.back (sym (ap (λ (y : Writing). y.conn) a.writer) ∙ subst (λ (i : ℕ). (v.writers i).conn ≡ Some k) at x))
      go false e = sym (ap (λ (y : Writing). y.conn) (a.writers n e)) ∙ x
  awaits-back k o (by_member e) x = record { member = x.member; is = sym (a.lowers e) ∙ x.is; mirror = x.mirror; acts = sym (ap is_open (a.lowers e)) ∙ x.acts }
  awaits-back k o (by_reader i) x = x
  awaits-back k o (by_primary i place) x = x

  above-same : (k : ℕ) → KeepsConn w b k new → (u : Upper) → IsUpper w.next_conn u → Awaits w k u → Above v w u
  above-same k o (by_writer n) within x = go (n == b) refl
    where
      mine : (w.writers b).conn ≡ Some k → Above v w (by_writer b)
      mine c =
          let s : SameStream new.known (w.writers b).known = o.stream c in (
            ap (λ (y : Writing). map as_pending y.known.stream.unacked) a.writer ∙ s.waits,
            ap (λ (y : Writing). reach_of y.known) a.writer ∙ s.reach,
            ap (λ (y : Writing). Some y.known.stream.rule) a.writer ∙ ap (λ (r : Rule). Some r) s.rule,
          )

      go : (q : Bool) → (n == b) ≡ q → Above v w (by_writer n)
      go true e =
          let at : n ≡ b = eqb-true n b e in
          subst (λ (i : ℕ). Above v w (by_writer i)) (sym at) (mine (subst (λ (i : ℕ). (w.writers i).conn ≡ Some k) at x))
      go false e =
          let same : v.writers n ≡ w.writers n = a.writers n e in (
            ap (λ (y : Writing). map as_pending y.known.stream.unacked) same,
            ap (λ (y : Writing). reach_of y.known) same,
            ap (λ (y : Writing). Some y.known.stream.rule) same,
          )
  above-same k o (by_member e) within x =
      let at : replica_at v e (block_of x.member.fields) ≡ replica_at w e (block_of x.member.fields) = replica-same e within x.member.fields in
      let same : v.lowers e ≡ w.lowers e = a.lowers e in (
        ap (pending_below v e) (same ∙ x.is) ∙ (ap (λ (y : FullReplica). if x.member.state.responds then y.known.pending else []) at ∙ sym (ap (pending_below w e) x.is)),
        ap (member_reach v e) (same ∙ x.is) ∙ (ap (λ (y : FullReplica). reach_in y.known) at ∙ sym (ap (member_reach w e) x.is)),
        ap (member_rule v e) (same ∙ x.is) ∙ (ap (λ (y : FullReplica). rule_in y.known) at ∙ sym (ap (member_rule w e) x.is)),
      )
  above-same k o (by_reader i) within x = absurd x
  above-same k o (by_primary i place) within x = absurd x

  -- A connection on which nothing was sent.
  pub conn-kept : (k : ℕ) (lk : InPipeline w k) → v.downs k ≡ w.downs k → KeepsConn w b k new → Link v k
  conn-kept k lk quiet o =
      let u : Upper = (w.dialled k).upper in
      link-same w v k (links k lk) (record {
        below = record {
          dialled = a.dialled k lk.known;
          downs = quiet;
          ups = a.ups k;
          down_end = ap (λ (m : Marks). m.end) (a.down_marks k);
          up_end = ap (λ (m : Marks). m.end) (a.up_marks k);
          down_taken = ap (λ (m : Marks). m.taken) (a.down_marks k);
          up_taken = ap (λ (m : Marks). m.taken) (a.up_marks k);
          lowers = a.lowers k;
          ready = λ at i n found. a.replicas n (block_of (links k lk).fields);
          replica = λ x at acts. a.replicas (node_of w k) (block_of (links k lk).fields);
        };
        onward = awaits-on k o u;
        back = awaits-back k o u;
        carry = λ x.
            let s = above-same k o u (placed.dialled k lk.known).upper x in
            record {
              waits = s.0;
              acks = ap (λ (m : Marks). acks_in (drop m.taken (v.ups k))) (a.up_marks k) ∙ ap (λ (ms : List Message). acks_in (drop (w.up_marks k).taken ms)) (a.ups k);
              pending = pending-same k lk.known (w.lowers k);
              packets = ap (λ (m : Marks). packets_in (drop m.taken (v.downs k))) (a.down_marks k) ∙ ap (λ (ms : List Message). packets_in (drop (w.down_marks k).taken ms)) quiet;
              below = λ _. reach-below-same k lk.known (links k lk).fields (w.lowers k);
              above = s.1;
              rule = s.2;
            };
      })

  -- All connections, where the writer has the connection that it had, if any, and sends nothing.
  pub quiet-links : Unsent w v → new.conn ≡ (w.writers b).conn → ((k : ℕ) → (w.writers b).conn ≡ Some k → SameStream new.known (w.writers b).known) → Links v
  quiet-links s conn same k lk =
      let known : k < w.next_conn = subst (λ (i : ℕ). k < i) s.conns lk.known in
      conn-kept k (piped-before w v k known (a.dialled k known) lk) (s.downs k) (record { onward = λ e. conn ∙ e; back = λ e. sym conn ∙ e; stream = same k })
