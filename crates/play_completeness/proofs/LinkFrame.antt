-- What of a connection stays as it was, where what it speaks of does.
use Rattle.std.proofs.Common.{◌≡◌, ℕ, ◌≤◌, Bool, true, false, List, ◌∷◌, length, map, slice_get, Some, refl, sym, ◌∙◌, ap, subst}
use Rattle.std.specs.Prelude.{not}
use Rattle.std.proofs.lemmas.Bool.{false≢true}
use Rattle.hd_base.specs.SumRules.{Rule}
use Rattle.ack_codec.specs.declared.acks.Ack.{Ack}
use Rattle.op_headers.specs.declared.nodes.NodeRef.{NodeRef}
use Rattle.op_headers.specs.Values.{WriteFields}
use Rattle.packet_codec.specs.declared.packets.Packet.{Packet}
use Rattle.replica_core.specs.declared.ack_queue.PendingPacket.{PendingPacket}
use Rattle.replica_model.specs.Rows.{FullReplica}
use Rattle.member_core.specs.Requests.{setup_with}
use Rattle.world.specs.Parts.{Message, Upper, Dialled, FullMember, Lower, idle, writes, serves, recovers, ended_below}
use Rattle.world.specs.Worlds.{World}
use Rattle.world.specs.Nodes.{node_on, block_of, node_of, replica_at}
use Rattle.play_scripts.specs.WorldAcks.Acking.{Asked}
use Rattle.world_closings.specs.WorldWriters.Taking.{chain}
use Rattle.play_model.specs.Dues.{is_open}
use Rattle.play_completeness.specs.Streams.{Flows, Reach}
use Rattle.play_completeness.specs.Links.{Awaits, pending_below, awaited, packets_left, acks_left, reach_below, reach_above, rule_above, ReachFits, MayTake, IsEarly, WritesWell, ActsWell, LowerWell, IsRequest, IsGoodUp, EndsWell, Carries, Link}

-- THE LOWER END

-- what a connection has by itself
pub record BelowWell (w : World) (c : ℕ) (f : WriteFields) (rule : Rule) : Type 0 where
  pub asked : Asked w.past c f
  pub lower : LowerWell w c f rule (w.lowers c)
  pub ups : (k : ℕ) (m : Message) → slice_get (w.ups c) k ≡ Some m → IsGoodUp f m
  pub ends : EndsWell w c

pub below-of : (w : World) (c : ℕ) (l : Link w c) → BelowWell w c l.fields l.rule
below-of w c l = record { asked = l.asked; lower = l.lower; ups = l.ups; ends = l.ends }

pub record SameBelow (w v : World) (c : ℕ) (f : WriteFields) : Type 0 where
  pub dialled : v.dialled c ≡ w.dialled c
  pub downs : v.downs c ≡ w.downs c
  pub ups : v.ups c ≡ w.ups c
  pub down_end : (v.down_marks c).end ≡ (w.down_marks c).end
  pub up_end : (v.up_marks c).end ≡ (w.up_marks c).end
  pub down_taken : (v.down_marks c).taken ≡ (w.down_marks c).taken
  pub up_taken : (v.up_marks c).taken ≡ (w.up_marks c).taken
  pub lowers : v.lowers c ≡ w.lowers c
  pub ready : w.lowers c ≡ idle → (i n : ℕ) → slice_get (chain w.past c f) i ≡ Some (Some n) → v.replicas n (block_of f) ≡ w.replicas n (block_of f)
  pub replica : (m : FullMember) → w.lowers c ≡ writes m → m.state.responds ≡ true → v.replicas (node_of w c) (block_of f) ≡ w.replicas (node_of w c) (block_of f)

early-same : (w v : World) (c : ℕ) (f : WriteFields) → SameBelow w v c f → IsEarly w c f → IsEarly v c f
early-same w v c f s x = record { alone = s.downs ∙ x.alone; untaken = s.up_taken ∙ x.untaken }

lower-same : (w v : World) (c : ℕ) (f : WriteFields) (rule : Rule) → SameBelow w v c f → (l : Lower) → w.lowers c ≡ l → LowerWell w c f rule l → LowerWell v c f rule l
lower-same w v c f rule s idle is x = record {
  early = early-same w v c f s x.early;
  ready = λ i n found.
      let old : slice_get (chain w.past c f) i ≡ Some (Some n) = subst (λ (d : Dialled). slice_get (Some d.to.node ∷ map (λ (t : NodeRef). node_on t.xfer) f.targets) i ≡ Some (Some n)) s.dialled found in
      subst (λ (r : FullReplica). MayTake (setup_with f.stage) f rule r) (sym (s.ready is i n old)) (x.ready i n old);
}
lower-same w v c f rule s (writes m) is x = record {
  fields_are = x.fields_are;
  receives = x.receives;
  acts = λ responds.
      let y : ActsWell w c f rule m = x.acts responds in
      let same : replica_at v c (block_of f) ≡ replica_at w c (block_of f) = ap (λ (d : Dialled). v.replicas d.to.node (block_of f)) s.dialled ∙ s.replica m is responds in
      record {
        quiet = y.quiet;
        below = y.below;
        stays = y.stays;
        mirror = y.mirror;
        writes = subst (WritesWell c f rule) (sym same) y.writes;
        waits = λ e. let z = y.waits e in (early-same w v c f s z.0, ap (λ (r : FullReplica). r.known.pending) same ∙ z.1);
      };
}
lower-same w v c f rule s (serves b t) is x = x
lower-same w v c f rule s recovers is x = x
lower-same w v c f rule s ended_below is x = x

pub below-same : (w v : World) (c : ℕ) (f : WriteFields) (rule : Rule) → SameBelow w v c f → BelowWell w c f rule → BelowWell v c f rule
below-same w v c f rule s x = record {
  asked = record { first = ap (λ (ms : List Message). slice_get ms 0) s.downs ∙ x.asked.first };
  lower = subst (λ (l : Lower). LowerWell v c f rule l) (sym s.lowers) (lower-same w v c f rule s (w.lowers c) refl x.lower);
  ups = λ k m found. x.ups k m (sym (ap (λ (ms : List Message). slice_get ms k) s.ups) ∙ found);
  ends = record {
    sent_down = subst (λ (n : ℕ). n ≤ length (v.downs c)) (sym s.down_taken) (subst (λ (ms : List Message). (w.down_marks c).taken ≤ length ms) (sym s.downs) x.ends.sent_down);
    sent_up = subst (λ (n : ℕ). n ≤ length (v.ups c)) (sym s.up_taken) (subst (λ (ms : List Message). (w.up_marks c).taken ≤ length ms) (sym s.ups) x.ends.sent_up);
    down = λ e. s.down_end ∙ x.ends.down (sym (ap is_open s.lowers) ∙ e);
    up = λ e. s.up_end ∙ x.ends.up (sym (ap is_open s.lowers) ∙ e);
    over = λ e. s.up_end ∙ (x.ends.over (sym (ap is_open s.lowers) ∙ e) ∙ ap (λ (ms : List Message). Some (length ms)) (sym s.ups));
  };
}

-- BOTH ENDS

pub record SameCarry (w v : World) (c : ℕ) (f : WriteFields) (u : Upper) (l : Lower) : Type 0 where
  pub waits : awaited v u ≡ awaited w u
  pub acks : acks_left v c ≡ acks_left w c
  pub pending : pending_below v c l ≡ pending_below w c l
  pub packets : packets_left v c ≡ packets_left w c
  pub below : is_open l ≡ true → reach_below v c f l ≡ reach_below w c f l
  pub above : reach_above v u ≡ reach_above w u
  pub rule : rule_above v u ≡ rule_above w u

pub flows-same : (xs ys : List PendingPacket) (acks bcks : List Ack) (ps qs : List PendingPacket) (ms ns : List Packet) (over : Bool) → ys ≡ xs → bcks ≡ acks → qs ≡ ps → ns ≡ ms → Flows xs acks ps ms over → Flows ys bcks qs ns over
flows-same xs ys acks bcks ps qs ms ns over e f g h x =
    subst (λ (a : List PendingPacket). Flows a bcks qs ns over) (sym e)
    (subst (λ (a : List Ack). Flows xs a qs ns over) (sym f)
    (subst (λ (a : List PendingPacket). Flows xs acks a ns over) (sym g)
    (subst (λ (a : List Packet). Flows xs acks ps a over) (sym h) x)))

pub reach-same : (rule : Rule) (a b : Reach) (ms ns : List Packet) (r s : Reach) (over : Bool) → (over ≡ false → b ≡ a) → ns ≡ ms → s ≡ r → ReachFits rule a ms r over → ReachFits rule b ns s over
reach-same rule a b ms ns r s true e f g x = ap (λ (z : Reach). z.over) g ∙ x
reach-same rule a b ms ns r s false e f g x =
    subst (λ (z : Reach). ReachFits rule z ns s false) (sym (e refl))
    (subst (λ (z : List Packet). ReachFits rule a z s false) (sym f)
    (subst (λ (z : Reach). ReachFits rule a ms z false) (sym g) x))

opens : (b : Bool) → not b ≡ false → b ≡ true
opens true e = refl
opens false e = absurd (false≢true (sym e))

pub carries-same : (w v : World) (c : ℕ) (f : WriteFields) (rule : Rule) (u : Upper) (l : Lower) → SameCarry w v c f u l → Carries w c f rule u l → Carries v c f rule u l
carries-same w v c f rule u l s x = record {
  flows = flows-same (awaited w u) (awaited v u) (acks_left w c) (acks_left v c) (pending_below w c l) (pending_below v c l) (packets_left w c) (packets_left v c) (not (is_open l)) s.waits s.acks s.pending s.packets x.flows;
  reaches = reach-same rule (reach_below w c f l) (reach_below v c f l) (packets_left w c) (packets_left v c) (reach_above w u) (reach_above v u) (not (is_open l)) (λ e. s.below (opens (is_open l) e)) s.packets s.above x.reaches;
  ruled = s.rule ∙ x.ruled;
}

-- A connection, of what it has by itself, who awaits it, and what both ends have with each other.
pub link-of : (v : World) (c : ℕ) (f : WriteFields) (rule : Rule) (u : Upper) (l : Lower) → (v.dialled c).upper ≡ u → v.lowers c ≡ l → BelowWell v c f rule → IsRequest f rule → (is_open l ≡ true → Awaits v c u) → (Awaits v c u → Carries v c f rule u l) → Link v c
link-of v c f rule u l up low b r live carries = record {
  fields = f;
  asked = b.asked;
  rule = rule;
  request_is = r;
  lower = b.lower;
  ups = b.ups;
  ends = b.ends;
  live = λ e. subst (λ (x : Upper). Awaits v c x) (sym up) (live (sym (ap is_open low) ∙ e));
  carries = λ a. subst (λ (x : Upper). Carries v c f rule x (v.lowers c)) (sym up) (subst (λ (y : Lower). Carries v c f rule u y) (sym low) (carries (subst (λ (x : Upper). Awaits v c x) up a)));
}

-- A connection of which all stays.
pub record SameLink (w v : World) (c : ℕ) (f : WriteFields) : Type 0 where
  pub below : SameBelow w v c f
  pub onward : Awaits w c (w.dialled c).upper → Awaits v c (w.dialled c).upper
  pub back : Awaits v c (w.dialled c).upper → Awaits w c (w.dialled c).upper
  pub carry : Awaits w c (w.dialled c).upper → SameCarry w v c f (w.dialled c).upper (w.lowers c)

pub link-same : (w v : World) (c : ℕ) (l : Link w c) → SameLink w v c l.fields → Link v c
link-same w v c l s =
    let u : Upper = (w.dialled c).upper in
    link-of v c l.fields l.rule u (w.lowers c) (ap (λ (d : Dialled). d.upper) s.below.dialled) s.below.lowers (below-same w v c l.fields l.rule s.below (below-of w c l)) l.request_is
    (λ e. s.onward (l.live e))
    (λ a. let old = s.back a in carries-same w v c l.fields l.rule u (w.lowers c) (s.carry old) (l.carries old))
