-- A turn of a member leaves all connections but its own and its mirror's as they are.
use Rattle.std.proofs.Common.{◌≡◌, ℕ, ◌<◌, Bool, true, false, List, [], ◌++◌, drop, length, map, Option, Some, None, refl, sym, ◌∙◌, ap, subst, eqb-true}
use Rattle.std.specs.Prelude.{◌==◌, ◌&&◌, if◌then◌else◌}
use Rattle.std.proofs.lemmas.Bool.{false≢true}
use Rattle.std.proofs.lemmas.List.{append-nil}
use Rattle.std.proofs.lemmas.Option.{none-some, same_Some}
use Rattle.hd_base.specs.SumRules.{Rule}
use Rattle.hd_base.specs.declared.states.ReplicaState.TheVariants as state
use Rattle.op_headers.specs.Values.{WriteFields}
use Rattle.replica_core.specs.declared.info.ReplicaInfo.{ReplicaInfo}
use Rattle.replica_core.specs.declared.streams.Stream.{Stream}
use Rattle.replica_core.specs.Views.{rule_in}
use Rattle.replica_model.specs.Rows.{FullReplica}
use Rattle.member_core.specs.declared.effects.Shuts.{Shuts}
use Rattle.member_core.specs.declared.effects.Shuts.TheVariants as shuts
use Rattle.member_core.specs.declared.requests.SetupKind.{SetupKind}
use Rattle.member_core.specs.declared.requests.SetupKind.TheVariants as kind
use Rattle.member_core.specs.Members.{MemberState}
use Rattle.member_core.specs.Requests.{setup_with}
use Rattle.world.specs.Parts.{Message, Upper, by_writer, by_member, by_reader, by_primary, Dialled, FullMember, Lower, idle, writes, serves, recovers, ended_below, Writing}
use Rattle.world.specs.Worlds.{World}
use Rattle.world.specs.Connections.{sent_on, is_conn}
use Rattle.world.specs.Nodes.{shut_by, block_of, node_of, replica_at}
use Rattle.world_laws.specs.Placing.{Placed, IsUpper}
use Rattle.world_laws.proofs.FactTables.{and-left, and-right}
use Rattle.world_orders.proofs.Kept.{eqb-itself}
use Rattle.world_orders.specs.Orders.{Ordered}
use Rattle.play_model.specs.Dues.{is_open}
use Rattle.play_completeness.specs.Streams.{packets_in, acks_in, as_pending, reach_in, reach_of}
use Rattle.play_completeness.specs.Links.{MemberAwaits, Awaits, pending_below, awaited, member_reach, member_rule, reach_below, reach_above, rule_above, MayTake, WaitsWell, WritesWell, MemberWell, LowerWell, Link, InPipeline, Links}
use Rattle.play_completeness.proofs.LinkFrame.{SameBelow, link-same}
use Rattle.play_completeness.proofs.Pipelines.{writing-in}

-- What a turn of the member at the lower end of a connection makes of the world: its state, its replica, what it sends
-- to its mirror and up, and which connections it shuts.
pub record Turned (w v : World) (d : ℕ) (m : FullMember) (new : MemberState) (r : FullReplica) (forwarded sent : List Message) (shut : Shuts) : Type 0 where
  pub conns : v.next_conn ≡ w.next_conn
  pub dialled : (c : ℕ) → c < w.next_conn → v.dialled c ≡ w.dialled c
  pub downs : (c : ℕ) → v.downs c ≡ w.downs c ++ sent_on m.mirror forwarded c
  pub ups : (c : ℕ) → v.ups c ≡ w.ups c ++ sent_on (Some d) sent c
  pub lower : v.lowers d ≡ writes (record m { state = new })
  pub lowers : (c : ℕ) → (c == d) ≡ false → v.lowers c ≡ w.lowers c
  pub replica : v.replicas (node_of w d) (block_of m.fields) ≡ r
  pub replicas : (n b : ℕ) → (n == node_of w d && b == block_of m.fields) ≡ false → v.replicas n b ≡ w.replicas n b
  pub writers : (b : ℕ) → v.writers b ≡ w.writers b
  pub down_end : (c : ℕ) → shut_by shut d m.mirror c ≡ false → (v.down_marks c).end ≡ (w.down_marks c).end
  pub up_end : (c : ℕ) → shut_by shut d m.mirror c ≡ false → (v.up_marks c).end ≡ (w.up_marks c).end
  pub up_shut : (c : ℕ) → shut_by shut d m.mirror c ≡ true → (w.up_marks c).end ≡ None → (v.up_marks c).end ≡ Some (length (v.ups c))
  pub up_stays : (c n : ℕ) → (w.up_marks c).end ≡ Some n → (v.up_marks c).end ≡ Some n
  pub down_taken : (c : ℕ) → (c == d) ≡ false → (v.down_marks c).taken ≡ (w.down_marks c).taken
  pub up_taken : (c : ℕ) → is_conn m.mirror c ≡ false → (v.up_marks c).taken ≡ (w.up_marks c).taken

-- BESIDE THE TURN

pub sent-off : (o : Option ℕ) (ms : List Message) (c : ℕ) → is_conn o c ≡ false → sent_on o ms c ≡ []
sent-off None ms c e = refl
sent-off (Some d) ms c e = ap (λ (b : Bool). if b then ms else []) e

shut-off : (s : Shuts) (d : ℕ) (o : Option ℕ) (c : ℕ) → (c == d) ≡ false → is_conn o c ≡ false → shut_by s d o c ≡ false
shut-off shuts.Nothing d o c e f = refl
shut-off shuts.Mirror d o c e f = f
shut-off shuts.Both d o c e f = rw (e, f) refl

pub same-writes : (m n : FullMember) → writes m ≡ writes n → m ≡ n
same-writes m n e = cc

-- a FINALIZED or absent replica isn't one that is written
pub never-both : (o : Option SetupKind) (f : WriteFields) (rule rule' : Rule) (d : ℕ) (g : WriteFields) (r : FullReplica) → MayTake o f rule r → WritesWell d g rule' r → ⊥
never-both (Some kind.Create) f rule rule' d g r x y = none-some y.info (sym x ∙ y.is)
never-both (Some kind.Append) f rule rule' d g r x y = clash (sym (sym (ap (λ (i : ReplicaInfo). i.original) (same_Some x.1.info y.info (sym x.1.is ∙ y.is))) ∙ x.1.final) ∙ y.rbw)
  where
    clash : state.Finalized ≡ state.Rbw → ⊥
    clash e = cc
never-both (Some kind.AppendRecovery) f rule rule' d g r x y = x
never-both (Some kind.StreamRecovery) f rule rule' d g r x y = x
never-both (Some kind.CloseRecovery) f rule rule' d g r x y = x
never-both None f rule rule' d g r x y = x

-- two connections don't write one replica
one-writer : (c d : ℕ) (f g : WriteFields) (rule rule' : Rule) (r : FullReplica) → WritesWell c f rule r → WritesWell d g rule' r → c ≡ d
one-writer c d f g rule rule' r x y = sym x.conn ∙ (ap (λ (s : Stream). s.conn.0) (same_Some x.stream y.stream (sym x.written ∙ y.written)) ∙ y.conn)

module _ (w v : World) (o : Ordered w) (placed : Placed w) (links : Links w) (d : ℕ) (m : FullMember) (lt : InPipeline w d) (is : w.lowers d ≡ writes m) (responds : m.state.responds ≡ true)
    (new : MemberState) (r : FullReplica) (forwarded sent : List Message) (shut : Shuts) (t : Turned w v d m new r forwarded sent shut) where
  own-link : Link w d
  own-link = links d lt

  pub own-well : MemberWell w d (links d lt).fields (links d lt).rule m
  own-well = subst (λ (x : Lower). LowerWell w d (links d lt).fields (links d lt).rule x) is (links d lt).lower

  own-written : WritesWell d (links d lt).fields (links d lt).rule (w.replicas (node_of w d) (block_of m.fields))
  own-written = subst (λ (f : WriteFields). WritesWell d (links d lt).fields (links d lt).rule (w.replicas (node_of w d) (block_of f))) (sym own-well.fields_are) (own-well.acts responds).writes

  -- a replica that doesn't fit the member's stays
  stays : (n b : ℕ) → (w.replicas n b ≡ w.replicas (node_of w d) (block_of m.fields) → ⊥) → v.replicas n b ≡ w.replicas n b
  stays n b apart = go (n == node_of w d && b == block_of m.fields) refl
    where
      go : (q : Bool) → (n == node_of w d && b == block_of m.fields) ≡ q → v.replicas n b ≡ w.replicas n b
      go false e = t.replicas n b e
      go true e =
          let n_is : n ≡ node_of w d = eqb-true n (node_of w d) (and-left (n == node_of w d) (b == block_of m.fields) e) in
          let b_is : b ≡ block_of m.fields = eqb-true b (block_of m.fields) (and-right (n == node_of w d) (b == block_of m.fields) e) in
          absurd (apart (ap (λ (k : ℕ). w.replicas k b) n_is ∙ ap (w.replicas (node_of w d)) b_is))

  -- the replica of another member that acts
  pub other-stays : (c : ℕ) (lc : InPipeline w c) → (c == d) ≡ false → (x : FullMember) → w.lowers c ≡ writes x → x.state.responds ≡ true → v.replicas (node_of w c) (block_of (links c lc).fields) ≡ w.replicas (node_of w c) (block_of (links c lc).fields)
  other-stays c lc other x at acts =
      let l : Link w c = links c lc in
      let well : MemberWell w c l.fields l.rule x = subst (λ (y : Lower). LowerWell w c l.fields l.rule y) at l.lower in
      stays (node_of w c) (block_of l.fields) (λ same.
      let one : c ≡ d = one-writer c d l.fields (links d lt).fields l.rule (links d lt).rule _ (subst (λ (y : FullReplica). WritesWell c l.fields l.rule y) same (well.acts acts).writes) own-written in
      false≢true (sym other ∙ (ap (λ (k : ℕ). k == d) one ∙ eqb-itself d)))

  other-fields : (c : ℕ) (lc : InPipeline w c) → (x : FullMember) → w.lowers c ≡ writes x → x.fields ≡ (links c lc).fields
  other-fields c lc x at = (subst (λ (y : Lower). LowerWell w c (links c lc).fields (links c lc).rule y) at (links c lc).lower).fields_are

  -- the whole replica at the lower end of another member that acts, by its own fields
  other-at : (c : ℕ) (lc : InPipeline w c) → (c == d) ≡ false → (x : FullMember) → w.lowers c ≡ writes x → x.state.responds ≡ true → replica_at v c (block_of x.fields) ≡ replica_at w c (block_of x.fields)
  other-at c lc other x at acts =
      ap (λ (y : Dialled). v.replicas y.to.node (block_of x.fields)) (t.dialled c lc.known)
      ∙ subst (λ (f : WriteFields). v.replicas (node_of w c) (block_of f) ≡ w.replicas (node_of w c) (block_of f)) (sym (other-fields c lc x at)) (other-stays c lc other x at acts)

  -- WHOEVER AWAITS ANOTHER CONNECTION

  -- a member that awaits one that isn't the mirror's is another
  not-own : (e c : ℕ) → is_conn m.mirror c ≡ false → MemberAwaits w e c → (e == d) ≡ false
  not-own e c off a = go (e == d) refl
    where
      go : (q : Bool) → (e == d) ≡ q → (e == d) ≡ false
      go false k = k
      go true k =
          let one : e ≡ d = eqb-true e d k in
          let own : a.member ≡ m = same-writes a.member m (sym a.is ∙ (ap w.lowers one ∙ is)) in
          absurd (false≢true (sym off ∙ (ap (λ (o : Option ℕ). is_conn o c) (sym (ap (λ (x : FullMember). x.mirror) own) ∙ a.mirror) ∙ eqb-itself c)))

  not-own-after : (e c : ℕ) → is_conn m.mirror c ≡ false → MemberAwaits v e c → (e == d) ≡ false
  not-own-after e c off a = go (e == d) refl
    where
      go : (q : Bool) → (e == d) ≡ q → (e == d) ≡ false
      go false k = k
      go true k =
          let one : e ≡ d = eqb-true e d k in
          let own : a.member ≡ record m { state = new } = same-writes a.member (record m { state = new }) (sym a.is ∙ (ap v.lowers one ∙ t.lower)) in
          absurd (false≢true (sym off ∙ (ap (λ (o : Option ℕ). is_conn o c) (sym (ap (λ (x : FullMember). x.mirror) own) ∙ a.mirror) ∙ eqb-itself c)))

  pub awaits-on : (c : ℕ) → is_conn m.mirror c ≡ false → (u : Upper) → Awaits w c u → Awaits v c u
  awaits-on c off (by_writer b) a = ap (λ (x : Writing). x.conn) (t.writers b) ∙ a
  awaits-on c off (by_member e) a =
      let same : v.lowers e ≡ w.lowers e = t.lowers e (not-own e c off a) in
      record { member = a.member; is = same ∙ a.is; mirror = a.mirror; acts = ap is_open same ∙ a.acts }
  awaits-on c off (by_reader i) a = a
  awaits-on c off (by_primary i place) a = a

  pub awaits-back : (c : ℕ) → is_conn m.mirror c ≡ false → (u : Upper) → Awaits v c u → Awaits w c u
  awaits-back c off (by_writer b) a = sym (ap (λ (x : Writing). x.conn) (t.writers b)) ∙ a
  awaits-back c off (by_member e) a =
      let same : v.lowers e ≡ w.lowers e = t.lowers e (not-own-after e c off a) in
      record { member = a.member; is = sym same ∙ a.is; mirror = a.mirror; acts = sym (ap is_open same) ∙ a.acts }
  awaits-back c off (by_reader i) a = a
  awaits-back c off (by_primary i place) a = a

  -- WHAT IS AWAITED OF ANOTHER CONNECTION

  acting : (e c : ℕ) → (a : MemberAwaits w e c) → a.member.state.responds ≡ true
  acting e c a = and-right a.member.state.receives a.member.state.responds (sym (ap is_open a.is) ∙ a.acts)

  pub above-same : (c : ℕ) → is_conn m.mirror c ≡ false → (u : Upper) → IsUpper w.next_conn u → Awaits w c u → (awaited v u ≡ awaited w u) × (reach_above v u ≡ reach_above w u) × (rule_above v u ≡ rule_above w u)
  above-same c off (by_writer b) within a = (
    ap (λ (x : Writing). map as_pending x.known.stream.unacked) (t.writers b),
    ap (λ (x : Writing). reach_of x.known) (t.writers b),
    ap (λ (x : Writing). Some x.known.stream.rule) (t.writers b),
  )
  above-same c off (by_member e) within a =
      let other : (e == d) ≡ false = not-own e c off a in
      let same : v.lowers e ≡ w.lowers e = t.lowers e other in
      let at : replica_at v e (block_of a.member.fields) ≡ replica_at w e (block_of a.member.fields) = other-at e (writing-in w o e a.member a.is within) other a.member a.is (acting e c a) in (
        ap (pending_below v e) (same ∙ a.is) ∙ (ap (λ (x : FullReplica). if a.member.state.responds then x.known.pending else []) at ∙ sym (ap (pending_below w e) a.is)),
        ap (member_reach v e) (same ∙ a.is) ∙ (ap (λ (x : FullReplica). reach_in x.known) at ∙ sym (ap (member_reach w e) a.is)),
        ap (member_rule v e) (same ∙ a.is) ∙ (ap (λ (x : FullReplica). rule_in x.known) at ∙ sym (ap (member_rule w e) a.is)),
      )
  above-same c off (by_reader i) within a = absurd a
  above-same c off (by_primary i place) within a = absurd a

  -- ANOTHER CONNECTION

  downs-same : (c : ℕ) → is_conn m.mirror c ≡ false → v.downs c ≡ w.downs c
  downs-same c off = t.downs c ∙ (ap (λ (ms : List Message). w.downs c ++ ms) (sent-off m.mirror forwarded c off) ∙ append-nil (w.downs c))

  ups-same : (c : ℕ) → (c == d) ≡ false → v.ups c ≡ w.ups c
  ups-same c other = t.ups c ∙ (ap (λ (ms : List Message). w.ups c ++ ms) (sent-off (Some d) sent c other) ∙ append-nil (w.ups c))

  same-below : (c : ℕ) (lc : InPipeline w c) → (c == d) ≡ false → is_conn m.mirror c ≡ false → SameBelow w v c (links c lc).fields
  same-below c lc other off = record {
    dialled = t.dialled c lc.known;
    downs = downs-same c off;
    ups = ups-same c other;
    down_end = t.down_end c (shut-off shut d m.mirror c other off);
    up_end = t.up_end c (shut-off shut d m.mirror c other off);
    down_taken = t.down_taken c other;
    up_taken = t.up_taken c off;
    lowers = t.lowers c other;
    ready = λ at i n found.
        let l : Link w c = links c lc in
        let waits : WaitsWell w c l.fields l.rule = subst (λ (y : Lower). LowerWell w c l.fields l.rule y) at l.lower in
        stays n (block_of l.fields) (λ same.
        never-both (setup_with l.fields.stage) l.fields l.rule (links d lt).rule d (links d lt).fields _ (subst (λ (y : FullReplica). MayTake (setup_with l.fields.stage) l.fields l.rule y) same (waits.ready i n found)) own-written);
    replica = λ x at acts. other-stays c lc other x at acts;
  }

  pub pending-same : (c : ℕ) (lc : InPipeline w c) → (c == d) ≡ false → (l : Lower) → w.lowers c ≡ l → pending_below v c l ≡ pending_below w c l
  pending-same c lc other (writes x) at = go x.state.responds refl
    where
      go : (b : Bool) → x.state.responds ≡ b → pending_below v c (writes x) ≡ pending_below w c (writes x)
      go true acts = ap (λ (y : FullReplica). if x.state.responds then y.known.pending else []) (other-at c lc other x at acts)
      go false acts = rw acts refl
  pending-same c lc other idle at = refl
  pending-same c lc other (serves b s) at = refl
  pending-same c lc other recovers at = refl
  pending-same c lc other ended_below at = refl

  pub reach-below-same : (c : ℕ) (lc : InPipeline w c) → (c == d) ≡ false → (l : Lower) → w.lowers c ≡ l → is_open l ≡ true → reach_below v c (links c lc).fields l ≡ reach_below w c (links c lc).fields l
  reach-below-same c lc other (writes x) at acts = ap (λ (y : FullReplica). reach_in y.known) (other-at c lc other x at (and-right x.state.receives x.state.responds acts))
  reach-below-same c lc other idle at acts = refl
  reach-below-same c lc other (serves b s) at acts = refl
  reach-below-same c lc other recovers at acts = refl
  reach-below-same c lc other ended_below at acts = refl

  pub other-kept : (c : ℕ) (lc : InPipeline w c) → (c == d) ≡ false → is_conn m.mirror c ≡ false → Link v c
  other-kept c lc other off =
      let u : Upper = (w.dialled c).upper in
      link-same w v c (links c lc) (record {
        below = same-below c lc other off;
        onward = awaits-on c off u;
        back = awaits-back c off u;
        carry = λ a.
            let s = above-same c off u (placed.dialled c lc.known).upper a in
            record {
              waits = s.0;
              acks = ap (λ (n : ℕ). acks_in (drop n (v.ups c))) (t.up_taken c off) ∙ ap (λ (ms : List Message). acks_in (drop (w.up_marks c).taken ms)) (ups-same c other);
              pending = pending-same c lc other (w.lowers c) refl;
              packets = ap (λ (n : ℕ). packets_in (drop n (v.downs c))) (t.down_taken c other) ∙ ap (λ (ms : List Message). packets_in (drop (w.down_marks c).taken ms)) (downs-same c off);
              below = reach-below-same c lc other (w.lowers c) refl;
              above = s.1;
              rule = s.2;
            };
      })
