-- A member takes something from its mirror: the mirror's connection.
use Rattle.std.proofs.Common.{◌≡◌, ℕ, suc, ◌<◌, ◌≤◌, Bool, true, false, List, [], ◌∷◌, ◌++◌, drop, length, slice_get, Option, Some, refl, sym, ◌∙◌, ap, subst, arith}
use Rattle.std.specs.Prelude.{◌==◌, not, if◌then◌else◌}
use Rattle.std.proofs.lemmas.Bool.{false≢true}
use Rattle.std.proofs.lemmas.List.{append-nil}
use Rattle.std.proofs.lemmas.Option.{none-some}
use Rattle.hd_base.specs.SumRules.{Rule}
use Rattle.op_headers.specs.Values.{WriteFields}
use Rattle.replica_core.specs.declared.ack_queue.PendingPacket.{PendingPacket}
use Rattle.replica_core.specs.declared.records.ReplicaRecord.{ReplicaRecord}
use Rattle.replica_core.specs.Views.{rule_in}
use Rattle.replica_model.specs.Rows.{FullReplica}
use Rattle.member_core.specs.declared.effects.Shuts.{Shuts}
use Rattle.member_core.specs.declared.effects.Shuts.TheVariants as shuts
use Rattle.member_core.specs.Members.{MemberState}
use Rattle.world.specs.Parts.{Message, Upper, by_member, Dialled, FullMember, Lower, idle, writes, serves, recovers, ended_below}
use Rattle.world.specs.Worlds.{World}
use Rattle.world.specs.Connections.{sent_on}
use Rattle.world.specs.Nodes.{shut_by, block_of, node_of, replica_at}
use Rattle.world_laws.specs.Placing.{Placed}
use Rattle.world_orders.specs.Orders.{is_empty, IsMember, IsBelow, Ordered}
use Rattle.world_orders.proofs.Kept.{eqb-itself}
use Rattle.play_model.specs.Dues.{is_open}
use Rattle.play_completeness.specs.Streams.{acks_in, packets_in, Flows, reach_in}
use Rattle.play_completeness.specs.Links.{MemberAwaits, Awaits, pending_below, awaited, packets_left, acks_left, member_reach, member_rule, reach_below, reach_above, rule_above, WritesWell, ActsWell, LowerWell, Carries, Link, InPipeline, Links}
use Rattle.play_completeness.proofs.Flowing.{get-within}
use Rattle.play_completeness.proofs.LinkFrame.{BelowWell, below-of, flows-same, reach-same, link-of}
use Rattle.play_completeness.proofs.Turned.{Turned, sent-off, own-well, other-stays, pending-same, reach-below-same}

-- what stands somewhere isn't nothing
pub not-empty : (xs : List Message) (n : ℕ) (x : Message) → slice_get xs n ≡ Some x → is_empty xs ≡ false
not-empty [] n x e = absurd (none-some x e)
not-empty (y ∷ xs) n x e = refl

module _ (w v : World) (o : Ordered w) (placed : Placed w) (links : Links w) (d : ℕ) (m : FullMember) (lt : InPipeline w d) (is : w.lowers d ≡ writes m) (responds : m.state.responds ≡ true)
    (new : MemberState) (r : FullReplica) (sent : List Message) (shut : Shuts) (t : Turned w v d m new r [] sent shut)
    (c : ℕ) (mirrored : m.mirror ≡ Some c) (lc : InPipeline w c) (other : (c == d) ≡ false) (upper : (w.dialled c).upper ≡ by_member d)
    (y : Message) (found : slice_get (w.ups c) (w.up_marks c).taken ≡ Some y) (heard : (v.up_marks c).taken ≡ suc (w.up_marks c).taken) where
  abbrev K : ReplicaRecord
  K = (w.replicas (node_of w d) (block_of m.fields)).known

  abbrev fc : WriteFields
  fc = (links c lc).fields

  abbrev rulec : Rule
  rulec = (links c lc).rule

  abbrev left : FullMember
  left = record m { state = new }

  now-at : replica_at v d (block_of m.fields) ≡ r
  now-at = ap (λ (z : Dialled). v.replicas z.to.node (block_of m.fields)) (t.dialled d lt.known) ∙ t.replica

  downs-same : v.downs c ≡ w.downs c
  downs-same = t.downs c ∙ (ap (λ (ms : List Message). w.downs c ++ ms) nothing ∙ append-nil (w.downs c))
    where
      nothing : sent_on m.mirror [] c ≡ []
      nothing = ap (λ (q : Option ℕ). sent_on q [] c) mirrored ∙ ap (λ (b : Bool). if b then [] else []) (eqb-itself c)

  ups-same : v.ups c ≡ w.ups c
  ups-same = t.ups c ∙ (ap (λ (ms : List Message). w.ups c ++ ms) (sent-off (Some d) sent c other) ∙ append-nil (w.ups c))

  packets-same : packets_left v c ≡ packets_left w c
  packets-same = ap (λ (n : ℕ). packets_in (drop n (v.downs c))) (t.down_taken c other) ∙ ap (λ (ms : List Message). packets_in (drop (w.down_marks c).taken ms)) downs-same

  pub acks-rest : acks_left v c ≡ acks_in (drop (suc (w.up_marks c).taken) (w.ups c))
  acks-rest = ap (λ (n : ℕ). acks_in (drop n (v.ups c))) heard ∙ ap (λ (ms : List Message). acks_in (drop (suc (w.up_marks c).taken) ms)) ups-same

  sent-some : is_empty (w.ups c) ≡ false
  sent-some = not-empty (w.ups c) (w.up_marks c).taken y found

  hear-lower : (l : Lower) → w.lowers c ≡ l → LowerWell w c fc rulec l → LowerWell v c fc rulec l
  hear-lower idle at x =
      let none : w.ups c ≡ [] = (subst (λ (q : Lower). IsBelow (w.dialled c).upper (w.down_marks c).taken (w.ups c) q) at (o.below c)).1 in
      absurd (false≢true (sym sent-some ∙ ap is_empty none))
  hear-lower (writes x) at z = record {
    fields_are = z.fields_are;
    receives = z.receives;
    acts = λ a.
        let k : ActsWell w c fc rulec x = z.acts a in
        let same : replica_at v c (block_of fc) ≡ replica_at w c (block_of fc) =
        ap (λ (q : Dialled). v.replicas q.to.node (block_of fc)) (t.dialled c lc.known) ∙ other-stays w v o placed links d m lt is responds new r [] sent shut t c lc other x at a in
        let member : IsMember (w.dialled c).upper (w.down_marks c).taken (w.ups c) x.state.mirror = subst (λ (q : Lower). IsBelow (w.dialled c).upper (w.down_marks c).taken (w.ups c) q) at (o.below c) in
        record {
          quiet = k.quiet;
          below = k.below;
          stays = k.stays;
          mirror = k.mirror;
          writes = subst (WritesWell c fc rulec) (sym same) k.writes;
          waits = λ e. absurd (false≢true (sym sent-some ∙ (member.answered ∙ e)));
        };
  }
  hear-lower (serves b z) at x = x
  hear-lower recovers at x = x
  hear-lower ended_below at x = x

  -- the ends of a connection that isn't shut, or on which the end stands already
  hear-below : (is_open (w.lowers c) ≡ true → shut_by shut d m.mirror c ≡ false) → BelowWell v c fc rulec
  hear-below open_yet =
      let b : BelowWell w c fc rulec = below-of w c (links c lc) in
      let low : v.lowers c ≡ w.lowers c = t.lowers c other in
      record {
        asked = record { first = ap (λ (ms : List Message). slice_get ms 0) downs-same ∙ b.asked.first };
        lower = subst (λ (l : Lower). LowerWell v c fc rulec l) (sym low) (hear-lower (w.lowers c) refl b.lower);
        ups = λ k x at. b.ups k x (sym (ap (λ (ms : List Message). slice_get ms k) ups-same) ∙ at);
        ends = record {
          sent_down = subst (λ (n : ℕ). n ≤ length (v.downs c)) (sym (t.down_taken c other)) (subst (λ (ms : List Message). (w.down_marks c).taken ≤ length ms) (sym downs-same) b.ends.sent_down);
          sent_up = subst (λ (n : ℕ). n ≤ length (v.ups c)) (sym heard) (subst (λ (ms : List Message). suc (w.up_marks c).taken ≤ length ms) (sym ups-same) (within (get-within (w.ups c) (w.up_marks c).taken y found)));
          down = λ e. let was = sym (ap is_open low) ∙ e in t.down_end c (open_yet was) ∙ b.ends.down was;
          up = λ e. let was = sym (ap is_open low) ∙ e in t.up_end c (open_yet was) ∙ b.ends.up was;
          over = λ e. t.up_stays c (length (w.ups c)) (b.ends.over (sym (ap is_open low) ∙ e)) ∙ ap (λ (ms : List Message). Some (length ms)) (sym ups-same);
        };
      }
    where
      within : {a b : ℕ} → a < b → suc a ≤ b
      within {a} {b} l = omega (arith, l)

  acting : is_open (w.lowers d) ≡ true
  acting = ap is_open is ∙ rw ((own-well w v o placed links d m lt is responds new r [] sent shut t).receives, responds) refl

  awaits-before : MemberAwaits w d c
  awaits-before = record { member = m; is = is; mirror = mirrored; acts = acting }

  pub hear-old : Carries w c fc rulec (by_member d) (w.lowers c)
  hear-old = subst (λ (x : Upper). Carries w c fc rulec x (w.lowers c)) upper ((links c lc).carries (subst (λ (x : Upper). Awaits w c x) (sym upper) awaits-before))

  -- the member goes on, and how far it has come is as before
  module _ (opened : is_open (writes left) ≡ true) (quiet : shut ≡ shuts.Nothing) (reach : reach_in r.known ≡ reach_in K) (rules : rule_in r.known ≡ rule_in K)
      (pending : List PendingPacket) (pends : pending_below v d (writes left) ≡ pending) (flows : Flows pending (acks_left v c) (pending_below w c (w.lowers c)) (packets_left w c) (not (is_open (w.lowers c)))) where
    awaits-now : MemberAwaits v d c
    awaits-now = record { member = left; is = t.lower; mirror = mirrored; acts = ap is_open t.lower ∙ opened }

    above-now : reach_above v (by_member d) ≡ reach_above w (by_member d)
    above-now = ap (member_reach v d) t.lower ∙ (ap (λ (x : FullReplica). reach_in x.known) now-at ∙ (reach ∙ sym (ap (member_reach w d) is)))

    rule-now : rule_above v (by_member d) ≡ rule_above w (by_member d)
    rule-now = ap (member_rule v d) t.lower ∙ (ap (λ (x : FullReplica). rule_in x.known) now-at ∙ (rules ∙ sym (ap (member_rule w d) is)))

    hear-carries : Carries v c fc rulec (by_member d) (w.lowers c)
    hear-carries = record {
      flows = flows-same pending (awaited v (by_member d)) (acks_left v c) (acks_left v c) (pending_below w c (w.lowers c)) (pending_below v c (w.lowers c)) (packets_left w c) (packets_left v c) (not (is_open (w.lowers c)))
          (ap (pending_below v d) t.lower ∙ pends) refl (pending-same w v o placed links d m lt is responds new r [] sent shut t c lc other (w.lowers c) refl) packets-same flows;
      reaches = reach-same rulec (reach_below w c fc (w.lowers c)) (reach_below v c fc (w.lowers c)) (packets_left w c) (packets_left v c) (reach_above w (by_member d)) (reach_above v (by_member d)) (not (is_open (w.lowers c)))
          (λ e. reach-below-same w v o placed links d m lt is responds new r [] sent shut t c lc other (w.lowers c) refl (opens (is_open (w.lowers c)) e)) packets-same above-now hear-old.reaches;
      ruled = rule-now ∙ hear-old.ruled;
    }
      where
        opens : (b : Bool) → not b ≡ false → b ≡ true
        opens true e = refl
        opens false e = absurd (false≢true (sym e))

    pub hear-kept : Link v c
    hear-kept = link-of v c fc rulec (by_member d) (w.lowers c) (ap (λ (z : Dialled). z.upper) (t.dialled c lc.known) ∙ upper) (t.lowers c other) (hear-below (λ _. ap (λ (s : Shuts). shut_by s d m.mirror c) quiet)) (links c lc).request_is
        (λ _. awaits-now) (λ _. hear-carries)

  -- the member is over, and so is its mirror
  pub hear-over : is_open (writes left) ≡ false → is_open (w.lowers c) ≡ false → Link v c
  hear-over closed mirror_closed =
      link-of v c fc rulec (by_member d) (w.lowers c) (ap (λ (z : Dialled). z.upper) (t.dialled c lc.known) ∙ upper) (t.lowers c other) (hear-below (λ q. absurd (false≢true (sym mirror_closed ∙ q)))) (links c lc).request_is
      (λ q. absurd (false≢true (sym mirror_closed ∙ q))) (λ a. absurd (false≢true (sym closed ∙ (sym (ap is_open t.lower) ∙ a.acts))))
