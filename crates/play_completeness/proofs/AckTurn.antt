-- A member acks its oldest packet: its own connection. With the ack of the last packet it is over.
use Rattle.std.proofs.Common.{◌≡◌, ℕ, zero, suc, ◌≤◌, ◌+◌, Bool, true, false, List, [], ◌∷◌, ◌++◌, drop, length, slice_get, Some, refl, sym, ◌∙◌, ap, subst, arith, length-append, ◌⊎◌, inl, inr}
use Rattle.std.specs.Prelude.{◌&&◌, ◌||◌, not}
use Rattle.std.proofs.lemmas.Bool.{false≢true}
use Rattle.std.proofs.lemmas.List.{append-nil, drop-append-le}
use Rattle.std.proofs.lemmas.Option.{none-some, same_Some}
use Rattle.hd_base.specs.SumRules.{Rule}
use Rattle.ack_codec.specs.declared.acks.Ack.{Ack}
use Rattle.op_headers.specs.Values.{WriteFields}
use Rattle.packet_codec.specs.declared.packets.Packet.{Packet}
use Rattle.replica_core.specs.declared.ack_queue.PendingPacket.{PendingPacket}
use Rattle.replica_core.specs.declared.info.ReplicaInfo.{ReplicaInfo}
use Rattle.replica_core.specs.declared.records.ReplicaRecord.{ReplicaRecord}
use Rattle.replica_core.specs.Info.{advance_acked}
use Rattle.replica_model.specs.Rows.{FullReplica}
use Rattle.member_core.specs.declared.effects.Shuts.{Shuts}
use Rattle.member_core.specs.declared.effects.Shuts.TheVariants as shuts
use Rattle.member_core.specs.Members.{MemberState, is_waiting}
use Rattle.world.specs.Parts.{Message, packet, request, ack, response, read_status, recovery_answer, Upper, Dialled, FullMember, Lower, writes}
use Rattle.world.specs.Worlds.{World}
use Rattle.world.specs.Connections.{is_conn}
use Rattle.world.specs.Nodes.{shut_by, block_of, node_of, replica_at}
use Rattle.world_laws.specs.Placing.{Placed}
use Rattle.world_orders.proofs.Kept.{eqb-itself, sent-here}
use Rattle.world_orders.proofs.Lists.{Behind, get-append}
use Rattle.world_orders.specs.Orders.{Ordered}
use Rattle.play_model.specs.Dues.{is_open}
use Rattle.play_completeness.specs.Streams.{packets_in, acks_in, Flows, Reach, reach_in, Leads}
use Rattle.play_completeness.specs.Links.{Awaits, pending_below, awaited, packets_left, acks_left, reach_below, reach_above, ReachFits, WritesWell, ActsWell, MemberWell, LowerWell, IsGoodAck, IsGoodUp, Carries, Link, InPipeline, Links}
use Rattle.play_completeness.proofs.Flowing.{flows-ack, flows-over}
use Rattle.play_completeness.proofs.LinkFrame.{BelowWell, below-of, flows-same, link-of}
use Rattle.play_completeness.proofs.Turned.{Turned, sent-off, own-well, awaits-on, above-same}

-- MESSAGES

pub acks-join : (xs ys : List Message) → acks_in (xs ++ ys) ≡ acks_in xs ++ acks_in ys
acks-join [] ys = refl
acks-join (ack a ∷ xs) ys = ap (λ (bs : List Ack). a ∷ bs) (acks-join xs ys)
acks-join (request o ∷ xs) ys = acks-join xs ys
acks-join (packet p ∷ xs) ys = acks-join xs ys
acks-join (response r ∷ xs) ys = acks-join xs ys
acks-join (read_status s ∷ xs) ys = acks-join xs ys
acks-join (recovery_answer a ∷ xs) ys = acks-join xs ys

-- one ack more was sent
pub acks-more : (xs : List Message) (n : ℕ) (a : Ack) → n ≤ length xs → acks_in (drop n (xs ++ ack a ∷ [])) ≡ acks_in (drop n xs) ++ a ∷ []
acks-more xs n a le = ap acks_in (drop-append-le n xs (ack a ∷ []) le) ∙ acks-join (drop n xs) (ack a ∷ [])

-- what the replica is once its oldest packet was acked, where that wasn't the last one
pub record GoesOn (K k : ReplicaRecord) (rest : List PendingPacket) : Type 0 where
  pub info : ReplicaInfo
  pub is : K.info ≡ Some info
  pub at : ℕ
  pub now : k.info ≡ Some (advance_acked info at)
  pub stream : k.stream ≡ K.stream
  pub pending : k.pending ≡ rest

module _ (w v : World) (o : Ordered w) (placed : Placed w) (links : Links w) (d : ℕ) (m : FullMember) (lt : InPipeline w d) (is : w.lowers d ≡ writes m) (responds : m.state.responds ≡ true)
    (new : MemberState) (r : FullReplica) (a : Ack) (shut : Shuts) (t : Turned w v d m new r [] (ack a ∷ []) shut)
    (off : is_conn m.mirror d ≡ false) (answered : is_waiting m.state.mirror ≡ false) (unmoved : (v.down_marks d).taken ≡ (w.down_marks d).taken)
    (e : PendingPacket) (rest : List PendingPacket) (oldest : (w.replicas (node_of w d) (block_of m.fields)).known.pending ≡ e ∷ rest) (number : a.seqno ≡ e.seqno)
    (good : IsGoodAck (links d lt).fields a) (received : new.receives ≡ true) where
  abbrev K : ReplicaRecord
  K = (w.replicas (node_of w d) (block_of m.fields)).known

  abbrev f : WriteFields
  f = (links d lt).fields

  abbrev rule : Rule
  rule = (links d lt).rule

  abbrev u : Upper
  u = (w.dialled d).upper

  abbrev left : FullMember
  left = record m { state = new }

  well : MemberWell w d f rule m
  well = own-well w v o placed links d m lt is responds new r [] (ack a ∷ []) shut t

  opened : is_open (writes m) ≡ true
  opened = rw (well.receives, responds) refl

  acts : is_open (w.lowers d) ≡ true
  acts = ap is_open is ∙ opened

  awaits : Awaits w d u
  awaits = (links d lt).live acts

  old : Carries w d f rule u (writes m)
  old = subst (λ (l : Lower). Carries w d f rule u l) is ((links d lt).carries awaits)

  now-at : replica_at v d (block_of m.fields) ≡ r
  now-at = ap (λ (y : Dialled). v.replicas y.to.node (block_of m.fields)) (t.dialled d lt.known) ∙ t.replica

  downs-same : v.downs d ≡ w.downs d
  downs-same = t.downs d ∙ (ap (λ (ms : List Message). w.downs d ++ ms) (sent-off m.mirror [] d off) ∙ append-nil (w.downs d))

  ups-more : v.ups d ≡ w.ups d ++ ack a ∷ []
  ups-more = t.ups d ∙ ap (λ (ms : List Message). w.ups d ++ ms) (sent-here d (ack a ∷ []))

  acks-now : acks_left v d ≡ acks_left w d ++ a ∷ []
  acks-now =
      ap (λ (n : ℕ). acks_in (drop n (v.ups d))) (t.up_taken d off)
      ∙ (ap (λ (ms : List Message). acks_in (drop (w.up_marks d).taken ms)) ups-more ∙ acks-more (w.ups d) (w.up_marks d).taken a (links d lt).ends.sent_up)

  packets-same : packets_left v d ≡ packets_left w d
  packets-same = ap (λ (n : ℕ). packets_in (drop n (v.downs d))) unmoved ∙ ap (λ (ms : List Message). packets_in (drop (w.down_marks d).taken ms)) downs-same

  pending-before : pending_below w d (writes m) ≡ e ∷ rest
  pending-before = rw responds oldest

  -- what flows once it is acked
  pub acked-flows : Flows (awaited w u) (acks_left w d ++ a ∷ []) rest (packets_left w d) e.last
  acked-flows =
      let before : Flows (awaited w u) (acks_left w d) (pending_below w d (writes m)) (packets_left w d) false =
      subst (λ (b : Bool). Flows (awaited w u) (acks_left w d) (pending_below w d (writes m)) (packets_left w d) (not b)) opened old.flows in
      flows-ack (awaited w u) (acks_left w d) rest (packets_left w d) e a number
      (subst (λ (ps : List PendingPacket). Flows (awaited w u) (acks_left w d) ps (packets_left w d) false) pending-before before)

  old-leads : Leads rule (reach_in K) (packets_left w d) (reach_above w u)
  old-leads = subst (λ (b : Bool). ReachFits rule (reach_in K) (packets_left w d) (reach_above w u) (not b)) opened old.reaches

  goods : (k : ℕ) (x : Message) → slice_get (v.ups d) k ≡ Some x → IsGoodUp f x
  goods k x at = go (get-append (w.ups d) (ack a ∷ []) k x (sym (ap (λ (ms : List Message). slice_get ms k) ups-more) ∙ at))
    where
      one : (n : ℕ) → slice_get (ack a ∷ []) n ≡ Some x → IsGoodUp f x
      one zero q = subst (IsGoodUp f) (same_Some (ack a) x q) good
      one (suc n) q = absurd (none-some x q)

      go : (slice_get (w.ups d) k ≡ Some x) ⊎ Behind (w.ups d) (ack a ∷ []) k x → IsGoodUp f x
      go (inl q) = (links d lt).ups k x q
      go (inr q) = one q.place q.found

  sent-down : (v.down_marks d).taken ≤ length (v.downs d)
  sent-down = subst (λ (n : ℕ). n ≤ length (v.downs d)) (sym unmoved) (subst (λ (ms : List Message). (w.down_marks d).taken ≤ length ms) (sym downs-same) (links d lt).ends.sent_down)

  sent-up : (v.up_marks d).taken ≤ length (v.ups d)
  sent-up =
      let l : length (w.ups d ++ ack a ∷ []) ≡ length (w.ups d) + 1 = length-append (w.ups d) (ack a ∷ []) in
      let n : (w.up_marks d).taken ≤ length (w.ups d) = (links d lt).ends.sent_up in
      subst (λ (k : ℕ). k ≤ length (v.ups d)) (sym (t.up_taken d off)) (subst (λ (ms : List Message). (w.up_marks d).taken ≤ length ms) (sym ups-more) (omega (arith, l, n)))

  -- THE MEMBER GOES ON

  module _ (onward : e.last ≡ false) (stays : new ≡ m.state) (quiet : shut ≡ shuts.Nothing) (g : GoesOn K r.known rest) where
    opened-now : is_open (writes left) ≡ true
    opened-now = ap (λ (x : MemberState). x.receives && x.responds) stays ∙ opened

    responds-now : new.responds ≡ true
    responds-now = ap (λ (x : MemberState). x.responds) stays ∙ responds

    pub pending-now : pending_below v d (writes left) ≡ rest
    pending-now = rw responds-now (ap (λ (x : FullReplica). x.known.pending) now-at ∙ g.pending)

    reach-now : reach_in (replica_at v d (block_of m.fields)).known ≡ reach_in K
    reach-now = ap (λ (x : FullReplica). reach_in x.known) now-at ∙ (rw (g.stream, g.now) (sym (rw g.is refl)))

    on-carries : Carries v d f rule u (writes left)
    on-carries =
        let z = above-same w v o placed links d m lt is responds new r [] (ack a ∷ []) shut t d off u (placed.dialled d lt.known).upper awaits in
        record {
          flows = subst (λ (b : Bool). Flows (awaited v u) (acks_left v d) (pending_below v d (writes left)) (packets_left v d) (not b)) (sym opened-now)
              (flows-same (awaited w u) (awaited v u) (acks_left w d ++ a ∷ []) (acks_left v d) rest (pending_below v d (writes left)) (packets_left w d) (packets_left v d) false z.0 acks-now pending-now packets-same
              (subst (λ (b : Bool). Flows (awaited w u) (acks_left w d ++ a ∷ []) rest (packets_left w d) b) onward acked-flows));
          reaches = subst (λ (b : Bool). ReachFits rule (reach_below v d f (writes left)) (packets_left v d) (reach_above v u) (not b)) (sym opened-now)
              (subst (λ (x : Reach). Leads rule x (packets_left v d) (reach_above v u)) (sym reach-now)
              (subst (λ (ps : List Packet). Leads rule (reach_in K) ps (reach_above v u)) (sym packets-same)
              (subst (λ (x : Reach). Leads rule (reach_in K) (packets_left w d) x) (sym z.1) old-leads)));
          ruled = z.2 ∙ old.ruled;
        }

    known-at : (replica_at v d (block_of f)).known ≡ r.known
    known-at = ap (λ (q : WriteFields). (replica_at v d (block_of q)).known) (sym well.fields_are) ∙ ap (λ (x : FullReplica). x.known) now-at

    on-writes : WritesWell d f rule (replica_at v d (block_of f))
    on-writes =
        let y : WritesWell d f rule (replica_at w d (block_of f)) = (well.acts responds).writes in
        let K_at : (replica_at w d (block_of f)).known ≡ K = ap (λ (q : WriteFields). (replica_at w d (block_of q)).known) (sym well.fields_are) in
        let i_is : y.info ≡ g.info = same_Some y.info g.info (sym y.is ∙ (ap (λ (c : ReplicaRecord). c.info) K_at ∙ g.is)) in
        record {
          info = advance_acked g.info g.at;
          is = ap (λ (c : ReplicaRecord). c.info) known-at ∙ g.now;
          rbw = ap (λ (i : ReplicaInfo). i.original) (sym i_is) ∙ y.rbw;
          stamp_is = ap (λ (i : ReplicaInfo). i.stamp) (sym i_is) ∙ y.stamp_is;
          rule_is = ap (λ (i : ReplicaInfo). i.sums) (sym i_is) ∙ y.rule_is;
          stream = y.stream;
          written = ap (λ (c : ReplicaRecord). c.stream) known-at ∙ (g.stream ∙ (sym (ap (λ (c : ReplicaRecord). c.stream) K_at) ∙ y.written));
          conn = y.conn;
        }

    on-acts : ActsWell v d f rule left
    on-acts =
        let y : ActsWell w d f rule m = well.acts responds in
        subst (λ (x : MemberState). ActsWell v d f rule (record m { state = x })) (sym stays) (record {
          quiet = y.quiet;
          below = y.below;
          stays = y.stays;
          mirror = y.mirror;
          writes = on-writes;
          waits = λ q. absurd (false≢true (sym answered ∙ q));
        })

    not-shut : shut_by shut d m.mirror d ≡ false
    not-shut = ap (λ (s : Shuts). shut_by s d m.mirror d) quiet

    on-below : BelowWell v d f rule
    on-below =
        let b : BelowWell w d f rule = below-of w d (links d lt) in
        record {
          asked = record { first = ap (λ (ms : List Message). slice_get ms 0) downs-same ∙ b.asked.first };
          lower = subst (λ (l : Lower). LowerWell v d f rule l) (sym t.lower) (record { fields_are = well.fields_are; receives = received; acts = λ _. on-acts });
          ups = goods;
          ends = record {
            sent_down = sent-down;
            sent_up = sent-up;
            down = λ _. t.down_end d not-shut ∙ b.ends.down acts;
            up = λ _. t.up_end d not-shut ∙ b.ends.up acts;
            over = λ q. absurd (false≢true (sym q ∙ (ap is_open t.lower ∙ opened-now)));
          };
        }

    pub on-kept : Link v d
    on-kept = link-of v d f rule u (writes left) (ap (λ (y : Dialled). y.upper) (t.dialled d lt.known)) t.lower on-below (links d lt).request_is
        (λ _. awaits-on w v o placed links d m lt is responds new r [] (ack a ∷ []) shut t d off u awaits) (λ _. on-carries)

  -- THE MEMBER IS OVER

  module _ (final : e.last ≡ true) (gone : new.responds ≡ false) (both : shut ≡ shuts.Both) (last_taken : (reach_in K).over ≡ true) where
    closed-now : is_open (writes left) ≡ false
    closed-now = rw (received, gone) refl

    final-flows : Flows (awaited w u) (acks_left w d ++ a ∷ []) rest (packets_left w d) true
    final-flows = subst (λ (b : Bool). Flows (awaited w u) (acks_left w d ++ a ∷ []) rest (packets_left w d) b) final acked-flows

    nothing-left : (rest ≡ []) × (packets_left w d ≡ [])
    nothing-left = flows-over (awaited w u) (acks_left w d ++ a ∷ []) rest (packets_left w d) final-flows

    pending-none : pending_below v d (writes left) ≡ rest
    pending-none = rw gone (sym nothing-left.0)

    above-over : (reach_above w u).over ≡ true
    above-over =
        let same : reach_in K ≡ reach_above w u = subst (λ (ps : List Packet). Leads rule (reach_in K) ps (reach_above w u)) nothing-left.1 old-leads in
        sym (ap (λ (x : Reach). x.over) same) ∙ last_taken

    over-carries : Carries v d f rule u (writes left)
    over-carries =
        let z = above-same w v o placed links d m lt is responds new r [] (ack a ∷ []) shut t d off u (placed.dialled d lt.known).upper awaits in
        record {
          flows = subst (λ (b : Bool). Flows (awaited v u) (acks_left v d) (pending_below v d (writes left)) (packets_left v d) (not b)) (sym closed-now)
              (flows-same (awaited w u) (awaited v u) (acks_left w d ++ a ∷ []) (acks_left v d) rest (pending_below v d (writes left)) (packets_left w d) (packets_left v d) true z.0 acks-now pending-none packets-same final-flows);
          reaches = subst (λ (b : Bool). ReachFits rule (reach_below v d f (writes left)) (packets_left v d) (reach_above v u) (not b)) (sym closed-now)
              (ap (λ (x : Reach). x.over) z.1 ∙ above-over);
          ruled = z.2 ∙ old.ruled;
        }

    is-shut : shut_by shut d m.mirror d ≡ true
    is-shut = ap (λ (s : Shuts). shut_by s d m.mirror d) both ∙ ap (λ (b : Bool). b || is_conn m.mirror d) (eqb-itself d)

    over-below : BelowWell v d f rule
    over-below =
        let b : BelowWell w d f rule = below-of w d (links d lt) in
        record {
          asked = record { first = ap (λ (ms : List Message). slice_get ms 0) downs-same ∙ b.asked.first };
          lower = subst (λ (l : Lower). LowerWell v d f rule l) (sym t.lower) (record { fields_are = well.fields_are; receives = received; acts = λ q. absurd (false≢true (sym gone ∙ q)) });
          ups = goods;
          ends = record {
            sent_down = sent-down;
            sent_up = sent-up;
            down = λ q. absurd (false≢true (sym closed-now ∙ (sym (ap is_open t.lower) ∙ q)));
            up = λ q. absurd (false≢true (sym closed-now ∙ (sym (ap is_open t.lower) ∙ q)));
            over = λ _. t.up_shut d is-shut (b.ends.up acts);
          };
        }

    pub over-kept : Link v d
    over-kept = link-of v d f rule u (writes left) (ap (λ (y : Dialled). y.upper) (t.dialled d lt.known)) t.lower over-below (links d lt).request_is
        (λ q. absurd (false≢true (sym closed-now ∙ q))) (λ _. over-carries)
