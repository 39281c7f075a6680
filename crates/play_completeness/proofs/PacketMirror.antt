-- A member takes a packet that is the next one: the connection to its mirror.
use Rattle.std.proofs.Common.{◌≡◌, ℕ, ◌<◌, ◌≤◌, ◌+◌, Bool, true, false, List, [], ◌∷◌, ◌++◌, drop, length, slice_get, Option, Some, refl, sym, ◌∙◌, ap, subst, arith, length-append}
use Rattle.std.specs.Prelude.{◌==◌, not, option_map, if◌then◌else◌}
use Rattle.std.proofs.lemmas.Bool.{false≢true}
use Rattle.std.proofs.lemmas.List.{append-nil}
use Rattle.std.proofs.lemmas.Option.{same_Some}
use Rattle.hd_base.specs.SumRules.{Rule}
use Rattle.op_headers.specs.Values.{WriteFields}
use Rattle.packet_codec.specs.declared.packets.Packet.{Packet}
use Rattle.replica_core.specs.declared.ack_queue.PendingPacket.{PendingPacket}
use Rattle.replica_core.specs.declared.info.ReplicaInfo.{ReplicaInfo}
use Rattle.replica_core.specs.declared.records.ReplicaRecord.{ReplicaRecord}
use Rattle.replica_core.specs.Views.{rule_in}
use Rattle.replica_model.specs.Rows.{FullReplica}
use Rattle.member_core.specs.declared.effects.Shuts.TheVariants as shuts
use Rattle.world.specs.Parts.{Message, packet, Upper, by_member, Dialled, FullMember, Lower, idle, writes, serves, recovers, ended_below}
use Rattle.world.specs.Worlds.{World}
use Rattle.world.specs.Connections.{sent_on}
use Rattle.world.specs.Nodes.{block_of, node_of, replica_at}
use Rattle.world_laws.specs.Placing.{Placed}
use Rattle.world_orders.proofs.Kept.{eqb-itself}
use Rattle.world_orders.specs.Orders.{Ordered}
use Rattle.play_model.specs.Dues.{is_open}
use Rattle.play_completeness.specs.Streams.{packets_in, acks_in, as_pending, Flows, Reach, reach_after, reach_in, IsNext, Leads}
use Rattle.play_completeness.specs.Links.{MemberAwaits, Awaits, pending_below, awaited, packets_left, acks_left, member_reach, member_rule, reach_below, reach_above, ReachFits, IsEarly, WritesWell, ActsWell, MemberWell, LowerWell, Carries, Link, InPipeline, Links}
use Rattle.play_completeness.proofs.Flowing.{NoneLast, get-front, flows-send, leads-more}
use Rattle.play_completeness.proofs.LinkFrame.{BelowWell, below-of, flows-same, link-of}
use Rattle.play_completeness.proofs.Turned.{Turned, sent-off, own-well, other-stays, pending-same, reach-below-same}
use Rattle.play_completeness.proofs.PacketTurn.{packets-more, Grows}

module _ (w v : World) (o : Ordered w) (placed : Placed w) (links : Links w) (d : ℕ) (m : FullMember) (lt : InPipeline w d) (is : w.lowers d ≡ writes m) (responds : m.state.responds ≡ true)
    (r : FullReplica) (forwarded : List Message) (t : Turned w v d m m.state r forwarded [] shuts.Nothing) (p : Packet) (g : Grows (links d lt).rule (w.replicas (node_of w d) (block_of m.fields)).known r.known p) where
  abbrev K : ReplicaRecord
  K = (w.replicas (node_of w d) (block_of m.fields)).known

  abbrev f : WriteFields
  f = (links d lt).fields

  abbrev rule : Rule
  rule = (links d lt).rule

  well : MemberWell w d f rule m
  well = own-well w v o placed links d m lt is responds m.state r forwarded [] shuts.Nothing t

  opened : is_open (writes m) ≡ true
  opened = rw (well.receives, responds) refl

  acts : is_open (w.lowers d) ≡ true
  acts = ap is_open is ∙ opened

  now-at : replica_at v d (block_of m.fields) ≡ r
  now-at = ap (λ (y : Dialled). v.replicas y.to.node (block_of m.fields)) (t.dialled d lt.known) ∙ t.replica

  pending-before : pending_below w d (writes m) ≡ K.pending
  pending-before = rw responds refl

  pending-now : pending_below v d (writes m) ≡ K.pending ++ as_pending p ∷ []
  pending-now = rw responds (ap (λ (x : FullReplica). x.known.pending) now-at ∙ g.pending)

  reach-now : reach_in (replica_at v d (block_of m.fields)).known ≡ reach_after (reach_in K) p
  reach-now = ap (λ (x : FullReplica). reach_in x.known) now-at ∙ g.reach

  module _ (c : ℕ) (mirrored : m.mirror ≡ Some c) (lc : InPipeline w c) (other : (c == d) ≡ false) (upper : (w.dialled c).upper ≡ by_member d) (heard : 0 < (w.up_marks c).taken) (unheard : (v.up_marks c).taken ≡ (w.up_marks c).taken) (sent : forwarded ≡ packet p ∷ []) where
    mirror-awaits : MemberAwaits w d c
    mirror-awaits = record { member = m; is = is; mirror = mirrored; acts = acts }

    mirror-awaits-now : MemberAwaits v d c
    mirror-awaits-now = record { member = m; is = t.lower; mirror = mirrored; acts = ap is_open t.lower ∙ opened }

    forwarded-here : sent_on m.mirror forwarded c ≡ packet p ∷ []
    forwarded-here = ap (λ (o : Option ℕ). sent_on o forwarded c) mirrored ∙ (ap (λ (b : Bool). if b then forwarded else []) (eqb-itself c) ∙ sent)

    mirror-downs : v.downs c ≡ w.downs c ++ packet p ∷ []
    mirror-downs = t.downs c ∙ ap (λ (ms : List Message). w.downs c ++ ms) forwarded-here

    mirror-ups : v.ups c ≡ w.ups c
    mirror-ups = t.ups c ∙ (ap (λ (ms : List Message). w.ups c ++ ms) (sent-off (Some d) [] c other) ∙ append-nil (w.ups c))

    abbrev fc : WriteFields
    fc = (links c lc).fields

    abbrev rulec : Rule
    rulec = (links c lc).rule

    mirror-acks : acks_left v c ≡ acks_left w c
    mirror-acks = ap (λ (n : ℕ). acks_in (drop n (v.ups c))) unheard ∙ ap (λ (ms : List Message). acks_in (drop (w.up_marks c).taken ms)) mirror-ups

    mirror-packets : packets_left v c ≡ packets_left w c ++ p ∷ []
    mirror-packets =
        ap (λ (n : ℕ). packets_in (drop n (v.downs c))) (t.down_taken c other)
        ∙ (ap (λ (ms : List Message). packets_in (drop (w.down_marks c).taken ms)) mirror-downs
        ∙ packets-more (w.downs c) (w.down_marks c).taken p (links c lc).ends.sent_down)

    not-early : IsEarly w c fc → ⊥
    not-early x = let z : (w.up_marks c).taken ≡ 0 = x.untaken in absurd (omega (arith, z, heard))

    mirror-lower : (l : Lower) → w.lowers c ≡ l → LowerWell w c fc rulec l → LowerWell v c fc rulec l
    mirror-lower idle at x = absurd (not-early x.early)
    mirror-lower (writes x) at y = record {
      fields_are = y.fields_are;
      receives = y.receives;
      acts = λ a.
          let z : ActsWell w c fc rulec x = y.acts a in
          let same : replica_at v c (block_of fc) ≡ replica_at w c (block_of fc) =
          ap (λ (q : Dialled). v.replicas q.to.node (block_of fc)) (t.dialled c lc.known) ∙ other-stays w v o placed links d m lt is responds m.state r forwarded [] shuts.Nothing t c lc other x at a in
          record {
            quiet = z.quiet;
            below = z.below;
            stays = z.stays;
            mirror = z.mirror;
            writes = subst (WritesWell c fc rulec) (sym same) z.writes;
            waits = λ e. absurd (not-early (z.waits e).0);
          };
    }
    mirror-lower (serves b z) at x = x
    mirror-lower recovers at x = x
    mirror-lower ended_below at x = x

    mirror-below : BelowWell v c fc rulec
    mirror-below =
        let b : BelowWell w c fc rulec = below-of w c (links c lc) in
        let low : v.lowers c ≡ w.lowers c = t.lowers c other in
        record {
          asked = record { first = ap (λ (ms : List Message). slice_get ms 0) mirror-downs ∙ get-front (w.downs c) (packet p ∷ []) 0 _ b.asked.first };
          lower = subst (λ (l : Lower). LowerWell v c fc rulec l) (sym low) (mirror-lower (w.lowers c) refl b.lower);
          ups = λ k x at. b.ups k x (sym (ap (λ (ms : List Message). slice_get ms k) mirror-ups) ∙ at);
          ends = record {
            sent_down = subst (λ (n : ℕ). n ≤ length (v.downs c)) (sym (t.down_taken c other)) (subst (λ (ms : List Message). (w.down_marks c).taken ≤ length ms) (sym mirror-downs) (longer (w.down_marks c).taken (w.downs c) b.ends.sent_down));
            sent_up = subst (λ (n : ℕ). n ≤ length (v.ups c)) (sym unheard) (subst (λ (ms : List Message). (w.up_marks c).taken ≤ length ms) (sym mirror-ups) b.ends.sent_up);
            down = λ e. t.down_end c refl ∙ b.ends.down (sym (ap is_open low) ∙ e);
            up = λ e. t.up_end c refl ∙ b.ends.up (sym (ap is_open low) ∙ e);
            over = λ e. t.up_end c refl ∙ (b.ends.over (sym (ap is_open low) ∙ e) ∙ ap (λ (ms : List Message). Some (length ms)) (sym mirror-ups));
          };
        }
      where
        longer : (n : ℕ) (xs : List Message) → n ≤ length xs → n ≤ length (xs ++ packet p ∷ [])
        longer n xs le = let l : length (xs ++ packet p ∷ []) ≡ length xs + 1 = length-append xs (packet p ∷ []) in omega (arith, le, l)

    mirror-old : Carries w c fc rulec (by_member d) (w.lowers c)
    mirror-old = subst (λ (x : Upper). Carries w c fc rulec x (w.lowers c)) upper ((links c lc).carries (subst (λ (x : Upper). Awaits w c x) (sym upper) mirror-awaits))

    above-before : reach_above w (by_member d) ≡ reach_in K
    above-before = ap (member_reach w d) is

    -- the mirror isn't over, since the last packet wasn't taken yet
    mirror-opened : is_open (w.lowers c) ≡ true
    mirror-opened = go (is_open (w.lowers c)) refl
      where
        go : (b : Bool) → is_open (w.lowers c) ≡ b → is_open (w.lowers c) ≡ true
        go true e = e
        go false e =
            let over : (reach_above w (by_member d)).over ≡ true =
            subst (λ (b : Bool). ReachFits rulec (reach_below w c fc (w.lowers c)) (packets_left w c) (reach_above w (by_member d)) (not b)) e mirror-old.reaches in
            absurd (false≢true (sym g.next.before_last ∙ (sym (ap (λ (z : Reach). z.over) above-before) ∙ over)))

    rules-same : rulec ≡ rule
    rules-same =
        let y : WritesWell d f rule (replica_at w d (block_of f)) = (well.acts responds).writes in
        let K_at : (replica_at w d (block_of f)).known ≡ K = ap (λ (q : WriteFields). (replica_at w d (block_of q)).known) (sym well.fields_are) in
        let has : rule_in K ≡ Some rule = sym (ap rule_in K_at) ∙ (ap (λ (o : Option ReplicaInfo). option_map (λ (i : ReplicaInfo). i.sums) o) y.is ∙ ap (λ (z : Rule). Some z) y.rule_is) in
        same_Some rulec rule (sym (sym (ap (member_rule w d) is) ∙ mirror-old.ruled) ∙ has)

    mirror-flows : Flows (awaited v (by_member d)) (acks_left v c) (pending_below v c (w.lowers c)) (packets_left v c) false
    mirror-flows =
        let before : Flows (awaited w (by_member d)) (acks_left w c) (pending_below w c (w.lowers c)) (packets_left w c) false =
        subst (λ (b : Bool). Flows (awaited w (by_member d)) (acks_left w c) (pending_below w c (w.lowers c)) (packets_left w c) (not b)) mirror-opened mirror-old.flows in
        let waits : awaited w (by_member d) ≡ K.pending = ap (pending_below w d) is ∙ pending-before in
        let none : NoneLast K.pending = g.none in
        let more = flows-send K.pending (acks_left w c) (pending_below w c (w.lowers c)) (packets_left w c) p none
        (subst (λ (xs : List PendingPacket). Flows xs (acks_left w c) (pending_below w c (w.lowers c)) (packets_left w c) false) waits before) in
        flows-same (K.pending ++ as_pending p ∷ []) (awaited v (by_member d)) (acks_left w c) (acks_left v c) (pending_below w c (w.lowers c)) (pending_below v c (w.lowers c)) (packets_left w c ++ p ∷ []) (packets_left v c) false
        (ap (pending_below v d) t.lower ∙ pending-now) mirror-acks (pending-same w v o placed links d m lt is responds m.state r forwarded [] shuts.Nothing t c lc other (w.lowers c) refl) mirror-packets more

    above-now : reach_above v (by_member d) ≡ reach_after (reach_in K) p
    above-now = ap (member_reach v d) t.lower ∙ reach-now

    mirror-leads : Leads rulec (reach_below v c fc (w.lowers c)) (packets_left v c) (reach_above v (by_member d))
    mirror-leads =
        let before : Leads rulec (reach_below w c fc (w.lowers c)) (packets_left w c) (reach_above w (by_member d)) =
        subst (λ (b : Bool). ReachFits rulec (reach_below w c fc (w.lowers c)) (packets_left w c) (reach_above w (by_member d)) (not b)) mirror-opened mirror-old.reaches in
        let next : IsNext rulec (reach_in K) p = subst (λ (z : Rule). IsNext z (reach_in K) p) (sym rules-same) g.next in
        let more = leads-more rulec (reach_below w c fc (w.lowers c)) (reach_in K) (packets_left w c) p (subst (λ (z : Reach). Leads rulec (reach_below w c fc (w.lowers c)) (packets_left w c) z) above-before before) next in
        subst (λ (z : Reach). Leads rulec z (packets_left v c) (reach_above v (by_member d))) (sym (reach-below-same w v o placed links d m lt is responds m.state r forwarded [] shuts.Nothing t c lc other (w.lowers c) refl mirror-opened))
        (subst (λ (ps : List Packet). Leads rulec (reach_below w c fc (w.lowers c)) ps (reach_above v (by_member d))) (sym mirror-packets)
        (subst (λ (z : Reach). Leads rulec (reach_below w c fc (w.lowers c)) (packets_left w c ++ p ∷ []) z) (sym above-now) more))

    mirror-carries : Carries v c fc rulec (by_member d) (w.lowers c)
    mirror-carries = record {
      flows = subst (λ (b : Bool). Flows (awaited v (by_member d)) (acks_left v c) (pending_below v c (w.lowers c)) (packets_left v c) (not b)) (sym mirror-opened) mirror-flows;
      reaches = subst (λ (b : Bool). ReachFits rulec (reach_below v c fc (w.lowers c)) (packets_left v c) (reach_above v (by_member d)) (not b)) (sym mirror-opened) mirror-leads;
      ruled = ap (member_rule v d) t.lower ∙ (ap (λ (x : FullReplica). rule_in x.known) now-at ∙ (g.rules ∙ (sym (ap (member_rule w d) is) ∙ mirror-old.ruled)));
    }

    pub mirror-kept : Link v c
    mirror-kept = link-of v c fc rulec (by_member d) (w.lowers c) (ap (λ (y : Dialled). y.upper) (t.dialled c lc.known) ∙ upper) (t.lowers c other) mirror-below (links c lc).request_is (λ _. mirror-awaits-now) (λ _. mirror-carries)
