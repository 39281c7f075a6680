-- A member takes a packet that is the next one: its own connection, and its mirror's.
use Rattle.std.proofs.Common.{◌≡◌, ℕ, suc, zero, ◌<◌, ◌≤◌, Bool, true, false, List, [], ◌∷◌, ◌++◌, drop, length, slice_get, Option, Some, refl, sym, ◌∙◌, ap, subst, arith}
use Rattle.std.specs.Prelude.{not, option_map, if◌then◌else◌}
use Rattle.std.proofs.lemmas.Bool.{false≢true}
use Rattle.std.proofs.lemmas.List.{append-nil, drop-append-le}
use Rattle.std.proofs.lemmas.Option.{none-some, same_Some}
use Rattle.hd_base.specs.SumRules.{Rule}
use Rattle.op_headers.specs.Values.{WriteFields}
use Rattle.packet_codec.specs.declared.packets.Packet.{Packet}
use Rattle.replica_core.specs.declared.info.ReplicaInfo.{ReplicaInfo}
use Rattle.replica_core.specs.declared.records.ReplicaRecord.{ReplicaRecord}
use Rattle.replica_core.specs.declared.streams.Stream.{Stream}
use Rattle.replica_core.specs.Info.{extend_written}
use Rattle.replica_core.specs.Transitions.{extend}
use Rattle.replica_core.specs.Views.{rule_in}
use Rattle.replica_model.specs.Rows.{FullReplica}
use Rattle.member_core.specs.declared.effects.Shuts.TheVariants as shuts
use Rattle.member_core.specs.Members.{is_waiting}
use Rattle.world.specs.Parts.{Message, packet, request, ack, response, read_status, recovery_answer, Upper, Dialled, FullMember, Lower, writes}
use Rattle.world.specs.Worlds.{World}
use Rattle.world.specs.Connections.{sent_on, is_conn}
use Rattle.world.specs.Nodes.{block_of, node_of, replica_at}
use Rattle.world_laws.specs.Placing.{Placed}
use Rattle.world_orders.proofs.Kept.{eqb-itself}
use Rattle.world_orders.specs.Orders.{Ordered}
use Rattle.play_model.specs.Dues.{is_open}
use Rattle.play_completeness.specs.Streams.{packets_in, acks_in, as_pending, Flows, Reach, reach_after, reach_in, IsNext, Leads}
use Rattle.play_completeness.specs.Links.{Awaits, pending_below, awaited, packets_left, acks_left, reach_below, reach_above, ReachFits, WritesWell, ActsWell, MemberWell, LowerWell, Carries, Link, InPipeline, Links}
use Rattle.play_completeness.proofs.Flowing.{NoneLast, get-within, flows-take, flows-none-last}
use Rattle.play_completeness.proofs.LinkFrame.{BelowWell, below-of, flows-same, link-of}
use Rattle.play_completeness.proofs.Rows.{stream_with}
use Rattle.play_completeness.proofs.Turned.{Turned, sent-off, own-well, awaits-on, above-same}

-- MESSAGES

pub drop-found : {A : Type 0} (xs : List A) (n : ℕ) (x : A) → slice_get xs n ≡ Some x → drop n xs ≡ x ∷ drop (suc n) xs
drop-found [] n x e = absurd (none-some x e)
drop-found {A} (y ∷ xs) zero x e = ap (λ (z : A). z ∷ xs) (same_Some y x e)
drop-found (y ∷ xs) (suc n) x e = drop-found xs n x e

pub packets-join : (xs ys : List Message) → packets_in (xs ++ ys) ≡ packets_in xs ++ packets_in ys
packets-join [] ys = refl
packets-join (packet p ∷ xs) ys = ap (λ (ps : List Packet). p ∷ ps) (packets-join xs ys)
packets-join (request o ∷ xs) ys = packets-join xs ys
packets-join (ack a ∷ xs) ys = packets-join xs ys
packets-join (response r ∷ xs) ys = packets-join xs ys
packets-join (read_status s ∷ xs) ys = packets-join xs ys
packets-join (recovery_answer a ∷ xs) ys = packets-join xs ys

-- one packet more was sent
pub packets-more : (xs : List Message) (n : ℕ) (p : Packet) → n ≤ length xs → packets_in (drop n (xs ++ packet p ∷ [])) ≡ packets_in (drop n xs) ++ p ∷ []
packets-more xs n p le = ap packets_in (drop-append-le n xs (packet p ∷ []) le) ∙ packets-join (drop n xs) (packet p ∷ [])

-- What a packet that is the next one makes of a replica.
pub record Grows (rule : Rule) (old new : ReplicaRecord) (p : Packet) : Type 0 where
  pub next : IsNext rule (reach_in old) p
  pub none : NoneLast old.pending
  pub pending : new.pending ≡ old.pending ++ as_pending p ∷ []
  pub reach : reach_in new ≡ reach_after (reach_in old) p
  pub rules : rule_in new ≡ rule_in old

module _ (w v : World) (o : Ordered w) (placed : Placed w) (links : Links w) (d : ℕ) (m : FullMember) (lt : InPipeline w d) (is : w.lowers d ≡ writes m) (responds : m.state.responds ≡ true)
    (r : FullReplica) (forwarded : List Message) (t : Turned w v d m m.state r forwarded [] shuts.Nothing)
    (off : is_conn m.mirror d ≡ false) (answered : is_waiting m.state.mirror ≡ false)
    (p : Packet) (found : slice_get (w.downs d) (w.down_marks d).taken ≡ Some (packet p)) (taken : (v.down_marks d).taken ≡ suc (w.down_marks d).taken)
    (info : ReplicaInfo) (there : (w.replicas (node_of w d) (block_of m.fields)).known.info ≡ Some info) (s : Stream) (by : (w.replicas (node_of w d) (block_of m.fields)).known.stream ≡ Some s)
    (grown : r.known ≡ extend (w.replicas (node_of w d) (block_of m.fields)).known info (stream_with s p) (as_pending p)) where
  abbrev K : ReplicaRecord
  K = (w.replicas (node_of w d) (block_of m.fields)).known

  abbrev f : WriteFields
  f = (links d lt).fields

  abbrev rule : Rule
  rule = (links d lt).rule

  abbrev u : Upper
  u = (w.dialled d).upper

  well : MemberWell w d f rule m
  well = own-well w v o placed links d m lt is responds m.state r forwarded [] shuts.Nothing t

  acts : is_open (w.lowers d) ≡ true
  acts = ap is_open is ∙ rw (well.receives, responds) refl

  opened : is_open (writes m) ≡ true
  opened = rw (well.receives, responds) refl

  now-at : replica_at v d (block_of m.fields) ≡ r
  now-at = ap (λ (y : Dialled). v.replicas y.to.node (block_of m.fields)) (t.dialled d lt.known) ∙ t.replica

  now-known : (replica_at v d (block_of m.fields)).known ≡ extend K info (stream_with s p) (as_pending p)
  now-known = ap (λ (x : FullReplica). x.known) now-at ∙ grown

  downs-same : v.downs d ≡ w.downs d
  downs-same = t.downs d ∙ (ap (λ (ms : List Message). w.downs d ++ ms) (sent-off m.mirror forwarded d off) ∙ append-nil (w.downs d))

  ups-same : v.ups d ≡ w.ups d
  ups-same = t.ups d ∙ (ap (λ (ms : List Message). w.ups d ++ ms) none ∙ append-nil (w.ups d))
    where
      none : sent_on (Some d) [] d ≡ []
      none = ap (λ (b : Bool). if b then [] else []) (eqb-itself d)

  -- what was on its way down
  left-before : packets_left w d ≡ p ∷ packets_left v d
  left-before =
      ap packets_in (drop-found (w.downs d) (w.down_marks d).taken (packet p) found)
      ∙ ap (λ (ps : List Packet). p ∷ ps) (sym (ap (λ (n : ℕ). packets_in (drop n (v.downs d))) taken ∙ ap (λ (ms : List Message). packets_in (drop (suc (w.down_marks d).taken) ms)) downs-same))

  acks-same : acks_left v d ≡ acks_left w d
  acks-same = ap (λ (n : ℕ). acks_in (drop n (v.ups d))) (t.up_taken d off) ∙ ap (λ (ms : List Message). acks_in (drop (w.up_marks d).taken ms)) ups-same

  awaits : Awaits w d u
  awaits = (links d lt).live acts

  old : Carries w d f rule u (writes m)
  old = subst (λ (l : Lower). Carries w d f rule u l) is ((links d lt).carries awaits)

  pending-before : pending_below w d (writes m) ≡ K.pending
  pending-before = rw responds refl

  pending-now : pending_below v d (writes m) ≡ K.pending ++ as_pending p ∷ []
  pending-now = rw responds (ap (λ (c : ReplicaRecord). c.pending) now-known)

  old-flows : Flows (awaited w u) (acks_left w d) K.pending (p ∷ packets_left v d) false
  old-flows =
      subst (λ (b : Bool). Flows (awaited w u) (acks_left w d) K.pending (p ∷ packets_left v d) (not b)) opened
      (flows-same (awaited w u) (awaited w u) (acks_left w d) (acks_left w d) (pending_below w d (writes m)) K.pending (packets_left w d) (p ∷ packets_left v d) (not (is_open (writes m))) refl refl (sym pending-before) (sym left-before) old.flows)

  -- the packet is the next one
  pub old-leads : Leads rule (reach_in K) (p ∷ packets_left v d) (reach_above w u)
  old-leads =
      subst (λ (ps : List Packet). Leads rule (reach_in K) ps (reach_above w u)) left-before
      (subst (λ (b : Bool). ReachFits rule (reach_in K) (packets_left w d) (reach_above w u) (not b)) opened old.reaches)

  -- THE MEMBER'S OWN CONNECTION

  reach-now : reach_in (replica_at v d (block_of m.fields)).known ≡ reach_after (reach_in K) p
  reach-now = ap reach_in now-known ∙ grow
    where
      grow : reach_in (extend K info (stream_with s p) (as_pending p)) ≡ reach_after (reach_in K) p
      grow = rw (there, by) refl

  own-carries : Carries v d f rule u (writes m)
  own-carries =
      let z = above-same w v o placed links d m lt is responds m.state r forwarded [] shuts.Nothing t d off u (placed.dialled d lt.known).upper awaits in
      record {
        flows = subst (λ (b : Bool). Flows (awaited v u) (acks_left v d) (pending_below v d (writes m)) (packets_left v d) (not b)) (sym opened)
            (flows-same (awaited w u) (awaited v u) (acks_left w d) (acks_left v d) (K.pending ++ as_pending p ∷ []) (pending_below v d (writes m)) (packets_left v d) (packets_left v d) false z.0 acks-same pending-now refl
            (flows-take (awaited w u) (acks_left w d) K.pending (packets_left v d) p false old-flows));
        reaches = subst (λ (b : Bool). ReachFits rule (reach_below v d f (writes m)) (packets_left v d) (reach_above v u) (not b)) (sym opened)
            (subst (λ (a : Reach). Leads rule a (packets_left v d) (reach_above v u)) (sym reach-now)
            (subst (λ (a : Reach). Leads rule (reach_after (reach_in K) p) (packets_left v d) a) (sym z.1) old-leads.1));
        ruled = z.2 ∙ old.ruled;
      }

  -- what the member has by itself
  extend-writes : WritesWell d f rule (replica_at v d (block_of f))
  extend-writes =
      let y : WritesWell d f rule (replica_at w d (block_of f)) = (well.acts responds).writes in
      let at : (replica_at v d (block_of f)).known ≡ extend K info (stream_with s p) (as_pending p) = subst (λ (q : WriteFields). (replica_at v d (block_of q)).known ≡ extend K info (stream_with s p) (as_pending p)) well.fields_are now-known in
      let K_at : (replica_at w d (block_of f)).known ≡ K = ap (λ (q : WriteFields). (replica_at w d (block_of q)).known) (sym well.fields_are) in
      let i_is : y.info ≡ info = same_Some y.info info (sym y.is ∙ (ap (λ (c : ReplicaRecord). c.info) K_at ∙ there)) in
      let s_is : y.stream ≡ s = same_Some y.stream s (sym y.written ∙ (ap (λ (c : ReplicaRecord). c.stream) K_at ∙ by)) in
      record {
        info = extend_written info (as_pending p).end;
        is = ap (λ (c : ReplicaRecord). c.info) at;
        rbw = ap (λ (i : ReplicaInfo). i.original) (sym i_is) ∙ y.rbw;
        stamp_is = ap (λ (i : ReplicaInfo). i.stamp) (sym i_is) ∙ y.stamp_is;
        rule_is = ap (λ (i : ReplicaInfo). i.sums) (sym i_is) ∙ y.rule_is;
        stream = stream_with s p;
        written = ap (λ (c : ReplicaRecord). c.stream) at;
        conn = ap (λ (z : Stream). z.conn.0) (sym s_is) ∙ y.conn;
      }

  own-below : BelowWell v d f rule
  own-below =
      let b : BelowWell w d f rule = below-of w d (links d lt) in
      let y : ActsWell w d f rule m = well.acts responds in
      record {
        asked = record { first = ap (λ (ms : List Message). slice_get ms 0) downs-same ∙ b.asked.first };
        lower = subst (λ (l : Lower). LowerWell v d f rule l) (sym t.lower) (record {
          fields_are = well.fields_are;
          receives = well.receives;
          acts = λ _. record {
            quiet = y.quiet;
            below = y.below;
            stays = y.stays;
            mirror = y.mirror;
            writes = extend-writes;
            waits = λ e. absurd (false≢true (sym answered ∙ e));
          };
        });
        ups = λ k x at. b.ups k x (sym (ap (λ (ms : List Message). slice_get ms k) ups-same) ∙ at);
        ends = record {
          sent_down = subst (λ (n : ℕ). n ≤ length (v.downs d)) (sym taken) (subst (λ (ms : List Message). suc (w.down_marks d).taken ≤ length ms) (sym downs-same) (within (get-within (w.downs d) (w.down_marks d).taken (packet p) found)));
          sent_up = subst (λ (n : ℕ). n ≤ length (v.ups d)) (sym (t.up_taken d off)) (subst (λ (ms : List Message). (w.up_marks d).taken ≤ length ms) (sym ups-same) b.ends.sent_up);
          down = λ _. t.down_end d refl ∙ b.ends.down acts;
          up = λ _. t.up_end d refl ∙ b.ends.up acts;
          over = λ e. absurd (false≢true (sym e ∙ (ap is_open t.lower ∙ opened)));
        };
      }
    where
      within : {a b : ℕ} → a < b → suc a ≤ b
      within {a} {b} l = omega (arith, l)

  pub own-kept : Link v d
  own-kept = link-of v d f rule u (writes m) (ap (λ (y : Dialled). y.upper) (t.dialled d lt.known)) t.lower own-below (links d lt).request_is
      (λ _. awaits-on w v o placed links d m lt is responds m.state r forwarded [] shuts.Nothing t d off u awaits) (λ _. own-carries)

  pub grows : Grows rule K r.known p
  grows = record {
    next = old-leads.0;
    none = flows-none-last (awaited w u) (acks_left w d) K.pending p (packets_left v d) false old-flows;
    pending = ap (λ (k : ReplicaRecord). k.pending) grown;
    reach = sym (ap (λ (x : FullReplica). reach_in x.known) now-at) ∙ reach-now;
    rules = ap rule_in grown ∙ sym (ap (λ (o : Option ReplicaInfo). option_map (λ (i : ReplicaInfo). i.sums) o) there);
  }
