-- An idle end takes its request: all connections but its own, and the one that it dials, stay as they are.
use Rattle.std.proofs.Common.{◌≡◌, ℕ, ◌<◌, ◌≤◌, Bool, true, false, List, [], ◌++◌, drop, map, Some, refl, sym, ◌∙◌, ap, subst, arith, eqb-true}
use Rattle.std.specs.Prelude.{◌==◌, ◌&&◌, if◌then◌else◌}
use Rattle.std.proofs.lemmas.Bool.{false≢true}
use Rattle.std.proofs.lemmas.List.{append-nil}
use Rattle.hd_base.specs.SumRules.{Rule}
use Rattle.op_headers.specs.Values.{WriteFields}
use Rattle.replica_core.specs.Views.{rule_in}
use Rattle.replica_model.specs.Rows.{FullReplica}
use Rattle.member_core.specs.Requests.{setup_with}
use Rattle.world.specs.Parts.{Message, Upper, by_writer, by_member, by_reader, by_primary, Dialled, FullMember, Lower, idle, writes, serves, recovers, ended_below, Writing}
use Rattle.world.specs.Worlds.{World}
use Rattle.world.specs.Connections.{sent_on}
use Rattle.world.specs.Nodes.{block_of, node_of, replica_at}
use Rattle.world_laws.specs.Placing.{Placed, IsUpper}
use Rattle.world_laws.proofs.FactTables.{and-left, and-right}
use Rattle.world_orders.proofs.Kept.{eqb-itself}
use Rattle.world_orders.specs.Orders.{Ordered}
use Rattle.play_model.specs.Dues.{is_open}
use Rattle.play_completeness.specs.Streams.{packets_in, acks_in, as_pending, reach_in, reach_of}
use Rattle.play_completeness.specs.Links.{MemberAwaits, Awaits, pending_below, awaited, member_reach, member_rule, reach_below, reach_above, rule_above, MayTake, WaitsWell, WritesWell, MemberWell, LowerWell, Link, InPipeline, Links}
use Rattle.play_completeness.proofs.LinkFrame.{link-same}
use Rattle.play_completeness.proofs.Turned.{sent-off, same-writes, never-both}
use Rattle.play_completeness.proofs.Pipelines.{writing-in}

-- What an idle end that takes its request makes of the world: the member, its replica, and what it answers. The
-- connection that it dials, if it does, comes behind all others.
pub record TookRequest (w v : World) (c : ℕ) (f : WriteFields) (m : FullMember) (r : FullReplica) (sent : List Message) : Type 0 where
  pub more : w.next_conn ≤ v.next_conn
  pub dialled : (k : ℕ) → k < w.next_conn → v.dialled k ≡ w.dialled k
  pub downs : (k : ℕ) → k < w.next_conn → v.downs k ≡ w.downs k
  pub ups : (k : ℕ) → v.ups k ≡ w.ups k ++ sent_on (Some c) sent k
  pub lower : v.lowers c ≡ writes m
  pub lowers : (k : ℕ) → (k == c) ≡ false → v.lowers k ≡ w.lowers k
  pub replica : v.replicas (node_of w c) (block_of f) ≡ r
  pub replicas : (n b : ℕ) → (n == node_of w c && b == block_of f) ≡ false → v.replicas n b ≡ w.replicas n b
  pub writers : (b : ℕ) → v.writers b ≡ w.writers b
  pub down_end : (k : ℕ) → (v.down_marks k).end ≡ (w.down_marks k).end
  pub up_end : (k : ℕ) → (v.up_marks k).end ≡ (w.up_marks k).end
  pub down_taken : (k : ℕ) → (k == c) ≡ false → (v.down_marks k).taken ≡ (w.down_marks k).taken
  pub up_taken : (k : ℕ) → (v.up_marks k).taken ≡ (w.up_marks k).taken

idle-no-member : (m : FullMember) → idle ≡ writes m → ⊥
idle-no-member m e = cc

-- Of one block only this connection waits to be asked.
pub record WaitsAlone (w : World) (links : Links w) (c : ℕ) (f : WriteFields) : Type 0 where
  pub each : (d : ℕ) (ld : InPipeline w d) → w.lowers d ≡ idle → block_of (links d ld).fields ≡ block_of f → d ≡ c

module _ (w v : World) (o : Ordered w) (placed : Placed w) (links : Links w) (c : ℕ) (lc : InPipeline w c) (is : w.lowers c ≡ idle) (alone : WaitsAlone w links c (links c lc).fields)
    (m : FullMember) (r : FullReplica) (sent : List Message) (t : TookRequest w v c (links c lc).fields m r sent) (beyond : (k : ℕ) → m.mirror ≡ Some k → w.next_conn ≤ k) where
  abbrev f : WriteFields
  f = (links c lc).fields

  abbrev rule : Rule
  rule = (links c lc).rule

  pub waits-well : WaitsWell w c f rule
  waits-well = subst (λ (l : Lower). LowerWell w c f rule l) is (links c lc).lower

  pub own-may : MayTake (setup_with f.stage) f rule (w.replicas (node_of w c) (block_of f))
  own-may = waits-well.ready 0 (node_of w c) refl

  -- REPLICAS

  pub stays : (n b : ℕ) → (n ≡ node_of w c → b ≡ block_of f → ⊥) → v.replicas n b ≡ w.replicas n b
  stays n b apart = go (n == node_of w c && b == block_of f) refl
    where
      go : (q : Bool) → (n == node_of w c && b == block_of f) ≡ q → v.replicas n b ≡ w.replicas n b
      go false e = t.replicas n b e
      go true e =
          let n_is : n ≡ node_of w c = eqb-true n (node_of w c) (and-left (n == node_of w c) (b == block_of f) e) in
          let b_is : b ≡ block_of f = eqb-true b (block_of f) (and-right (n == node_of w c) (b == block_of f) e) in
          absurd (apart n_is b_is)

  -- the replica of a member that acts
  other-stays : (k : ℕ) (lk : InPipeline w k) → (x : FullMember) → w.lowers k ≡ writes x → x.state.responds ≡ true → v.replicas (node_of w k) (block_of (links k lk).fields) ≡ w.replicas (node_of w k) (block_of (links k lk).fields)
  other-stays k lk x at acts =
      let l : Link w k = links k lk in
      let well : MemberWell w k l.fields l.rule x = subst (λ (y : Lower). LowerWell w k l.fields l.rule y) at l.lower in
      stays (node_of w k) (block_of l.fields) (λ n_is b_is.
      let same : w.replicas (node_of w k) (block_of l.fields) ≡ w.replicas (node_of w c) (block_of f) = ap (λ (n : ℕ). w.replicas n (block_of l.fields)) n_is ∙ ap (w.replicas (node_of w c)) b_is in
      never-both (setup_with f.stage) f rule l.rule k l.fields (w.replicas (node_of w c) (block_of f)) own-may (subst (λ (y : FullReplica). WritesWell k l.fields l.rule y) same (well.acts acts).writes))

  other-fields : (k : ℕ) (lk : InPipeline w k) → (x : FullMember) → w.lowers k ≡ writes x → x.fields ≡ (links k lk).fields
  other-fields k lk x at = (subst (λ (y : Lower). LowerWell w k (links k lk).fields (links k lk).rule y) at (links k lk).lower).fields_are

  other-at : (k : ℕ) (lk : InPipeline w k) → (x : FullMember) → w.lowers k ≡ writes x → x.state.responds ≡ true → replica_at v k (block_of x.fields) ≡ replica_at w k (block_of x.fields)
  other-at k lk x at acts =
      ap (λ (y : Dialled). v.replicas y.to.node (block_of x.fields)) (t.dialled k lk.known)
      ∙ subst (λ (g : WriteFields). v.replicas (node_of w k) (block_of g) ≡ w.replicas (node_of w k) (block_of g)) (sym (other-fields k lk x at)) (other-stays k lk x at acts)

  -- WHOEVER AWAITS ANOTHER CONNECTION

  not-own : (e : ℕ) (x : FullMember) → w.lowers e ≡ writes x → (e == c) ≡ false
  not-own e x at = go (e == c) refl
    where
      go : (q : Bool) → (e == c) ≡ q → (e == c) ≡ false
      go false k = k
      go true k = absurd (idle-no-member x (sym is ∙ (ap w.lowers (sym (eqb-true e c k)) ∙ at)))

  -- the new member awaits a new connection
  not-own-after : (e k : ℕ) → k < w.next_conn → MemberAwaits v e k → (e == c) ≡ false
  not-own-after e k lk a = go (e == c) refl
    where
      go : (q : Bool) → (e == c) ≡ q → (e == c) ≡ false
      go false z = z
      go true z =
          let own : a.member ≡ m = same-writes a.member m (sym a.is ∙ (ap v.lowers (eqb-true e c z) ∙ t.lower)) in
          let le : w.next_conn ≤ k = beyond k (sym (ap (λ (x : FullMember). x.mirror) own) ∙ a.mirror) in
          absurd (omega (arith, le, lk))

  pub awaits-on : (k : ℕ) (u : Upper) → Awaits w k u → Awaits v k u
  awaits-on k (by_writer b) a = ap (λ (x : Writing). x.conn) (t.writers b) ∙ a
  awaits-on k (by_member e) a =
      let same : v.lowers e ≡ w.lowers e = t.lowers e (not-own e a.member a.is) in
      record { member = a.member; is = same ∙ a.is; mirror = a.mirror; acts = ap is_open same ∙ a.acts }
  awaits-on k (by_reader i) a = a
  awaits-on k (by_primary i place) a = a

  awaits-back : (k : ℕ) → k < w.next_conn → (u : Upper) → Awaits v k u → Awaits w k u
  awaits-back k lk (by_writer b) a = sym (ap (λ (x : Writing). x.conn) (t.writers b)) ∙ a
  awaits-back k lk (by_member e) a =
      let same : v.lowers e ≡ w.lowers e = t.lowers e (not-own-after e k lk a) in
      record { member = a.member; is = sym same ∙ a.is; mirror = a.mirror; acts = sym (ap is_open same) ∙ a.acts }
  awaits-back k lk (by_reader i) a = a
  awaits-back k lk (by_primary i place) a = a

  acting : (e k : ℕ) → (a : MemberAwaits w e k) → a.member.state.responds ≡ true
  acting e k a = and-right a.member.state.receives a.member.state.responds (sym (ap is_open a.is) ∙ a.acts)

  pub above-same : (k : ℕ) (u : Upper) → IsUpper w.next_conn u → Awaits w k u → (awaited v u ≡ awaited w u) × (reach_above v u ≡ reach_above w u) × (rule_above v u ≡ rule_above w u)
  above-same k (by_writer b) within a = (
    ap (λ (x : Writing). map as_pending x.known.stream.unacked) (t.writers b),
    ap (λ (x : Writing). reach_of x.known) (t.writers b),
    ap (λ (x : Writing). Some x.known.stream.rule) (t.writers b),
  )
  above-same k (by_member e) within a =
      let same : v.lowers e ≡ w.lowers e = t.lowers e (not-own e a.member a.is) in
      let at : replica_at v e (block_of a.member.fields) ≡ replica_at w e (block_of a.member.fields) = other-at e (writing-in w o e a.member a.is within) a.member a.is (acting e k a) in (
        ap (pending_below v e) (same ∙ a.is) ∙ (ap (λ (x : FullReplica). if a.member.state.responds then x.known.pending else []) at ∙ sym (ap (pending_below w e) a.is)),
        ap (member_reach v e) (same ∙ a.is) ∙ (ap (λ (x : FullReplica). reach_in x.known) at ∙ sym (ap (member_reach w e) a.is)),
        ap (member_rule v e) (same ∙ a.is) ∙ (ap (λ (x : FullReplica). rule_in x.known) at ∙ sym (ap (member_rule w e) a.is)),
      )
  above-same k (by_reader i) within a = absurd a
  above-same k (by_primary i place) within a = absurd a

  -- ANOTHER CONNECTION

  ups-same : (k : ℕ) → (k == c) ≡ false → v.ups k ≡ w.ups k
  ups-same k other = t.ups k ∙ (ap (λ (ms : List Message). w.ups k ++ ms) (sent-off (Some c) sent k other) ∙ append-nil (w.ups k))

  pending-same : (k : ℕ) (lk : InPipeline w k) → (l : Lower) → w.lowers k ≡ l → pending_below v k l ≡ pending_below w k l
  pending-same k lk (writes x) at = go x.state.responds refl
    where
      go : (b : Bool) → x.state.responds ≡ b → pending_below v k (writes x) ≡ pending_below w k (writes x)
      go true acts = ap (λ (y : FullReplica). if x.state.responds then y.known.pending else []) (other-at k lk x at acts)
      go false acts = rw acts refl
  pending-same k lk idle at = refl
  pending-same k lk (serves b s) at = refl
  pending-same k lk recovers at = refl
  pending-same k lk ended_below at = refl

  reach-below-same : (k : ℕ) (lk : InPipeline w k) → (l : Lower) → w.lowers k ≡ l → is_open l ≡ true → reach_below v k (links k lk).fields l ≡ reach_below w k (links k lk).fields l
  reach-below-same k lk (writes x) at acts = ap (λ (y : FullReplica). reach_in y.known) (other-at k lk x at (and-right x.state.receives x.state.responds acts))
  reach-below-same k lk idle at acts = refl
  reach-below-same k lk (serves b s) at acts = refl
  reach-below-same k lk recovers at acts = refl
  reach-below-same k lk ended_below at acts = refl

  pub others-kept : (k : ℕ) (lk : InPipeline w k) → (k == c) ≡ false → Link v k
  others-kept k lk other =
      let u : Upper = (w.dialled k).upper in
      link-same w v k (links k lk) (record {
        below = record {
          dialled = t.dialled k lk.known;
          downs = t.downs k lk.known;
          ups = ups-same k other;
          down_end = t.down_end k;
          up_end = t.up_end k;
          down_taken = t.down_taken k other;
          up_taken = t.up_taken k;
          lowers = t.lowers k other;
          ready = λ at i n found. stays n (block_of (links k lk).fields) (λ _ b_is. false≢true (sym other ∙ (ap (λ (j : ℕ). j == c) (alone.each k lk at b_is) ∙ eqb-itself c)));
          replica = λ x at acts. other-stays k lk x at acts;
        };
        onward = awaits-on k u;
        back = awaits-back k lk.known u;
        carry = λ a.
            let s = above-same k u (placed.dialled k lk.known).upper a in
            record {
              waits = s.0;
              acks = ap (λ (n : ℕ). acks_in (drop n (v.ups k))) (t.up_taken k) ∙ ap (λ (ms : List Message). acks_in (drop (w.up_marks k).taken ms)) (ups-same k other);
              pending = pending-same k lk (w.lowers k) refl;
              packets = ap (λ (n : ℕ). packets_in (drop n (v.downs k))) (t.down_taken k other) ∙ ap (λ (ms : List Message). packets_in (drop (w.down_marks k).taken ms)) (t.downs k lk.known);
              below = reach-below-same k lk (w.lowers k) refl;
              above = s.1;
              rule = s.2;
            };
      })
