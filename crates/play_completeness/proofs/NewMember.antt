-- An idle end takes its request: its own connection, and the one to its mirror.
use Rattle.std.proofs.Common.{◌≡◌, ℕ, suc, ◌≤◌, true, false, List, [], ◌∷◌, ◌++◌, drop, length, map, slice_get, Option, Some, None, refl, sym, ◌∙◌, ap, subst, arith}
use Rattle.std.proofs.lemmas.Bool.{false≢true}
use Rattle.std.proofs.lemmas.Option.{none-some}
use Rattle.hd_base.specs.SumRules.{Rule}
use Rattle.op_headers.specs.declared.nodes.NodeRef.{NodeRef}
use Rattle.op_headers.specs.declared.ops.Op.TheVariants as op
use Rattle.op_headers.specs.Values.{WriteFields}
use Rattle.replica_core.specs.declared.records.ReplicaRecord.{ReplicaRecord}
use Rattle.replica_core.specs.Extents.{fresh}
use Rattle.replica_core.specs.Transitions.{set_writer}
use Rattle.replica_core.specs.Views.{rule_in}
use Rattle.replica_model.specs.Rows.{FullReplica}
use Rattle.member_core.specs.declared.member.Mirror.{Mirror}
use Rattle.member_core.specs.declared.requests.SetupKind.{SetupKind}
use Rattle.member_core.specs.declared.requests.SetupKind.TheVariants as kind
use Rattle.member_core.specs.declared.requests.TheConstants.{MAX_BELOW}
use Rattle.member_core.specs.Members.{new_member}
use Rattle.member_core.specs.Requests.{setup_with, request_from}
use Rattle.world.specs.Parts.{Message, request, Upper, by_member, Dialled, FullMember, Lower, idle, writes}
use Rattle.world.specs.Worlds.{World}
use Rattle.world.specs.Nodes.{block_of, node_of, node_on, replica_at}
use Rattle.world_laws.specs.Placing.{Placed}
use Rattle.play_scripts.specs.WorldAcks.Acking.{promised}
use Rattle.world_orders.proofs.Kept.{sent-here}
use Rattle.world_orders.specs.Orders.{IsBelow, Ordered}
use Rattle.world_closings.specs.WorldWriters.Taking.{chain}
use Rattle.play_model.specs.Dues.{is_open}
use Rattle.play_completeness.specs.Streams.{packets_in, acks_in, first_reach, reach_in}
use Rattle.play_completeness.specs.Links.{MemberAwaits, Awaits, pending_below, awaited, packets_left, acks_left, member_reach, member_rule, reach_below, reach_above, MayTake, IsRequest, IsEarly, WritesWell, MirrorFits, ActsWell, LowerWell, IsGoodUp, Carries, Link, InPipeline, Links}
use Rattle.play_completeness.proofs.Flowing.{flows-none}
use Rattle.play_completeness.proofs.LinkFrame.{BelowWell, flows-same, reach-same, link-of}
use Rattle.play_completeness.proofs.RequestRow.{Opens, stays-open}
use Rattle.play_completeness.proofs.TookRequest.{TookRequest, WaitsAlone, waits-well, stays, awaits-on, above-same}

drop-none : {A : Type 0} (xs : List A) → drop 0 xs ≡ xs
drop-none [] = refl
drop-none (x ∷ xs) = refl

-- the member that takes a request, with such a mirror
abbrev pub member_with : ℕ → WriteFields → Mirror → Option ℕ → FullMember
member_with c f z q = record { fields = f; state = new_member (record { 0 = c }) f z true; mirror = q }

may-onward : (o : Option SetupKind) (source : NodeRef) (f : WriteFields) (rest : List NodeRef) (rule : Rule) (r : FullReplica) → MayTake o f rule r → MayTake o (request_from source f rest) rule r
may-onward (Some kind.Create) source f rest rule r x = x
may-onward (Some kind.Append) source f rest rule r x = x
may-onward (Some kind.AppendRecovery) source f rest rule r x = x
may-onward (Some kind.StreamRecovery) source f rest rule r x = x
may-onward (Some kind.CloseRecovery) source f rest rule r x = x
may-onward None source f rest rule r x = x

module _ (w v : World) (o : Ordered w) (placed : Placed w) (links : Links w) (c : ℕ) (lc : InPipeline w c) (is : w.lowers c ≡ idle) (alone : WaitsAlone w links c (links c lc).fields)
    (z : Mirror) (q : Option ℕ) (r : FullReplica) (sent : List Message) (t : TookRequest w v c (links c lc).fields (member_with c (links c lc).fields z q) r sent) (beyond : (k : ℕ) → q ≡ Some k → w.next_conn ≤ k)
    (x : Opens (record { 0 = c }) (links c lc).fields (links c lc).rule (w.replicas (node_of w c) (block_of (links c lc).fields))) (now : r.known ≡ set_writer (w.replicas (node_of w c) (block_of (links c lc).fields)).known x.info (Some (record { 0 = c })))
    (fits : MirrorFits (links c lc).fields (member_with c (links c lc).fields z q) z) (good : (i : ℕ) (y : Message) → slice_get sent i ≡ Some y → IsGoodUp (links c lc).fields y) (silent : acks_in sent ≡ [])
    (one : (v.down_marks c).taken ≡ 1) where
  abbrev f : WriteFields
  f = (links c lc).fields

  abbrev rule : Rule
  rule = (links c lc).rule

  abbrev u : Upper
  u = (w.dialled c).upper

  abbrev m : FullMember
  m = member_with c f z q

  abbrev K : ReplicaRecord
  K = (w.replicas (node_of w c) (block_of f)).known

  early : IsEarly w c f
  early = (waits-well w v o placed links c lc is alone m r sent t beyond).early

  -- nothing was taken or sent up
  below-none : ((w.down_marks c).taken ≡ 0) × (w.ups c ≡ [])
  below-none = subst (λ (l : Lower). IsBelow u (w.down_marks c).taken (w.ups c) l) is (o.below c)

  awaits : Awaits w c u
  awaits = (links c lc).live (ap is_open is)

  old : Carries w c f rule u idle
  old = subst (λ (l : Lower). Carries w c f rule u l) is ((links c lc).carries awaits)

  now-known : (replica_at v c (block_of f)).known ≡ set_writer K x.info (Some (record { 0 = c }))
  now-known = ap (λ (y : Dialled). (v.replicas y.to.node (block_of f)).known) (t.dialled c lc.known) ∙ (ap (λ (y : FullReplica). y.known) t.replica ∙ now)

  -- WHAT STANDS ON ITS CONNECTION

  downs-are : v.downs c ≡ request (op.Write f) ∷ []
  downs-are = t.downs c lc.known ∙ early.alone

  ups-are : v.ups c ≡ sent
  ups-are = t.ups c ∙ (ap (λ (ms : List Message). w.ups c ++ ms) (sent-here c sent) ∙ ap (λ (ms : List Message). ms ++ sent) below-none.1)

  unheard : (v.up_marks c).taken ≡ 0
  unheard = t.up_taken c ∙ early.untaken

  packets-before : packets_left w c ≡ []
  packets-before = ap (λ (n : ℕ). packets_in (drop n (w.downs c))) below-none.0 ∙ (ap packets_in (drop-none (w.downs c)) ∙ ap packets_in early.alone)

  packets-now : packets_left v c ≡ []
  packets-now = ap (λ (n : ℕ). packets_in (drop n (v.downs c))) one ∙ ap (λ (ms : List Message). packets_in (drop 1 ms)) downs-are

  acks-before : acks_left w c ≡ []
  acks-before = ap (λ (n : ℕ). acks_in (drop n (w.ups c))) early.untaken ∙ (ap acks_in (drop-none (w.ups c)) ∙ ap acks_in below-none.1)

  acks-now : acks_left v c ≡ []
  acks-now = ap (λ (n : ℕ). acks_in (drop n (v.ups c))) unheard ∙ (ap acks_in (drop-none (v.ups c)) ∙ (ap acks_in ups-are ∙ silent))

  pending-now : pending_below v c (writes m) ≡ []
  pending-now = ap (λ (k : ReplicaRecord). k.pending) now-known

  reach-now : reach_in (replica_at v c (block_of f)).known ≡ first_reach (promised f)
  reach-now = ap reach_in now-known ∙ ap first_reach x.written_is

  -- THE MEMBER

  new-writes : WritesWell c f rule (replica_at v c (block_of f))
  new-writes = record {
    info = x.info;
    is = ap (λ (k : ReplicaRecord). k.info) now-known;
    rbw = x.rbw;
    stamp_is = x.stamp_is;
    rule_is = x.rule_is;
    stream = fresh (record { 0 = c });
    written = ap (λ (k : ReplicaRecord). k.stream) now-known;
    conn = refl;
  }

  new-acts : ActsWell v c f rule m
  new-acts = record {
    quiet = refl;
    below = refl;
    stays = stays-open f (links c lc).request_is.opens;
    mirror = fits;
    writes = new-writes;
    waits = λ _. (record { alone = downs-are; untaken = unheard }, ap (λ (k : ReplicaRecord). k.pending) now-known);
  }

  new-below : BelowWell v c f rule
  new-below = record {
    asked = record { first = ap (λ (ms : List Message). slice_get ms 0) downs-are };
    lower = subst (λ (l : Lower). LowerWell v c f rule l) (sym t.lower) (record { fields_are = refl; receives = refl; acts = λ _. new-acts });
    ups = λ k y at. good k y (sym (ap (λ (ms : List Message). slice_get ms k) ups-are) ∙ at);
    ends = record {
      sent_down = subst (λ (n : ℕ). n ≤ length (v.downs c)) (sym one) (subst (λ (ms : List Message). 1 ≤ length ms) (sym downs-are) (omega arith));
      sent_up = subst (λ (n : ℕ). n ≤ length (v.ups c)) (sym unheard) (omega arith);
      down = λ _. t.down_end c ∙ (links c lc).ends.down (ap is_open is);
      up = λ _. t.up_end c ∙ (links c lc).ends.up (ap is_open is);
      over = λ e. absurd (false≢true (sym e ∙ ap is_open t.lower));
    };
  }

  new-carries : Carries v c f rule u (writes m)
  new-carries =
      let s = above-same w v o placed links c lc is alone m r sent t beyond c u (placed.dialled c lc.known).upper awaits in
      record {
        flows = flows-same (awaited w u) (awaited v u) (acks_left w c) (acks_left v c) [] (pending_below v c (writes m)) (packets_left w c) (packets_left v c) false s.0 (acks-now ∙ sym acks-before) pending-now (packets-now ∙ sym packets-before) old.flows;
        reaches = reach-same rule (first_reach (promised f)) (reach_below v c f (writes m)) (packets_left w c) (packets_left v c) (reach_above w u) (reach_above v u) false (λ _. reach-now) (packets-now ∙ sym packets-before) s.1 old.reaches;
        ruled = s.2 ∙ old.ruled;
      }

  pub own-kept : Link v c
  own-kept = link-of v c f rule u (writes m) (ap (λ (y : Dialled). y.upper) (t.dialled c lc.known)) t.lower new-below (links c lc).request_is
      (λ _. awaits-on w v o placed links c lc is alone m r sent t beyond c u awaits) (λ _. new-carries)

  -- THE CONNECTION TO ITS MIRROR

  module _ (k : ℕ) (mirrored : q ≡ Some k) (source target : NodeRef) (rest : List NodeRef) (targets : f.targets ≡ target ∷ rest) (upper : (v.dialled k).upper ≡ by_member c) (node : node_on target.xfer ≡ Some (v.dialled k).to.node)
      (downs : v.downs k ≡ request (op.Write (request_from source f rest)) ∷ []) (ups : v.ups k ≡ []) (lower : v.lowers k ≡ idle) (down_none : ((v.down_marks k).taken ≡ 0) × ((v.down_marks k).end ≡ None)) (up_none : ((v.up_marks k).taken ≡ 0) × ((v.up_marks k).end ≡ None))
      (apart : (i : ℕ) → slice_get (chain w.past c f) (suc i) ≡ Some (Some (node_of w c)) → ⊥) where
    abbrev g : WriteFields
    g = request_from source f rest

    mirror-awaits : MemberAwaits v c k
    mirror-awaits = record { member = m; is = t.lower; mirror = mirrored; acts = ap is_open t.lower }

    -- the request reaches those that the member's reaches behind it
    chain-onward : chain v.past k g ≡ map (λ (y : NodeRef). node_on y.xfer) f.targets
    chain-onward =
        ap (λ (j : Option ℕ). j ∷ map (λ (y : NodeRef). node_on y.xfer) rest) (sym node) ∙ ap (map (λ (y : NodeRef). node_on y.xfer)) (sym targets)

    mirror-ready : (i n : ℕ) → slice_get (chain v.past k g) i ≡ Some (Some n) → MayTake (setup_with f.stage) g rule (v.replicas n (block_of f))
    mirror-ready i n found =
        let before : slice_get (chain w.past c f) (suc i) ≡ Some (Some n) = sym (ap (λ (ns : List (Option ℕ)). slice_get ns i) chain-onward) ∙ found in
        let same : v.replicas n (block_of f) ≡ w.replicas n (block_of f) =
        stays w v o placed links c lc is alone m r sent t beyond n (block_of f) (λ n_is _. apart i (before ∙ ap (λ (j : ℕ). Some (Some j)) n_is)) in
        may-onward (setup_with f.stage) source f rest rule (v.replicas n (block_of f))
        (subst (λ (y : FullReplica). MayTake (setup_with f.stage) f rule y) (sym same) ((waits-well w v o placed links c lc is alone m r sent t beyond).ready (suc i) n before))

    mirror-request : IsRequest g rule
    mirror-request =
        let asks : IsRequest f rule = (links c lc).request_is in
        let few : length f.targets ≤ MAX_BELOW = asks.few in
        let long : length f.targets ≡ suc (length rest) = ap length targets in
        record { opens = asks.opens; pool = asks.pool; few = omega (arith, few, long); rule_is = asks.rule_is }

    mirror-below : BelowWell v k g rule
    mirror-below = record {
      asked = record { first = ap (λ (ms : List Message). slice_get ms 0) downs };
      lower = subst (λ (l : Lower). LowerWell v k g rule l) (sym lower) (record { early = record { alone = downs; untaken = up_none.0 }; ready = mirror-ready });
      ups = λ i y at. absurd (none-some y (sym (ap (λ (ms : List Message). slice_get ms i) ups) ∙ at));
      ends = record {
        sent_down = subst (λ (n : ℕ). n ≤ length (v.downs k)) (sym down_none.0) (omega arith);
        sent_up = subst (λ (n : ℕ). n ≤ length (v.ups k)) (sym up_none.0) (omega arith);
        down = λ _. down_none.1;
        up = λ _. up_none.1;
        over = λ e. absurd (false≢true (sym e ∙ ap is_open lower));
      };
    }

    mirror-packets : packets_left v k ≡ []
    mirror-packets = ap (λ (n : ℕ). packets_in (drop n (v.downs k))) down_none.0 ∙ (ap packets_in (drop-none (v.downs k)) ∙ ap packets_in downs)

    mirror-acks : acks_left v k ≡ []
    mirror-acks = ap (λ (n : ℕ). acks_in (drop n (v.ups k))) up_none.0 ∙ (ap acks_in (drop-none (v.ups k)) ∙ ap acks_in ups)

    above-now : reach_above v (by_member c) ≡ first_reach (promised f)
    above-now = ap (member_reach v c) t.lower ∙ reach-now

    mirror-carries : Carries v k g rule (by_member c) idle
    mirror-carries = record {
      flows = flows-same [] (awaited v (by_member c)) [] (acks_left v k) [] [] [] (packets_left v k) false (ap (pending_below v c) t.lower ∙ pending-now) mirror-acks refl mirror-packets flows-none;
      reaches = reach-same rule (first_reach (promised f)) (first_reach (promised g)) [] (packets_left v k) (first_reach (promised f)) (reach_above v (by_member c)) false (λ _. refl) mirror-packets above-now refl;
      ruled = ap (member_rule v c) t.lower ∙ (ap rule_in now-known ∙ ap (λ (y : Rule). Some y) x.rule_is);
    }

    pub mirror-kept : Link v k
    mirror-kept = link-of v k g rule (by_member c) idle upper lower mirror-below mirror-request (λ _. mirror-awaits) (λ _. mirror-carries)
