-- A member answers its request once its mirror has: its own connection.
use Rattle.std.proofs.Common.{◌≡◌, ℕ, zero, suc, ◌≤◌, ◌+◌, true, false, List, [], ◌∷◌, ◌++◌, drop, length, slice_get, Some, None, refl, sym, ◌∙◌, ap, subst, arith, length-append, ◌⊎◌, inl, inr}
use Rattle.std.specs.Prelude.{not, if◌then◌else◌}
use Rattle.std.proofs.lemmas.Bool.{false≢true}
use Rattle.std.proofs.lemmas.List.{append-nil, drop-append-le}
use Rattle.std.proofs.lemmas.Option.{none-some, same_Some}
use Rattle.hd_base.specs.SumRules.{Rule}
use Rattle.ack_codec.specs.declared.responses.Response.{Response}
use Rattle.op_headers.specs.Values.{WriteFields}
use Rattle.replica_model.specs.Rows.{FullReplica}
use Rattle.member_core.specs.Acks.{is_success}
use Rattle.member_core.specs.declared.effects.Shuts.TheVariants as shuts
use Rattle.member_core.specs.declared.member.Mirror.TheVariants as mirror
use Rattle.member_core.specs.Members.{MemberState}
use Rattle.world.specs.Parts.{Message, response, Upper, Dialled, FullMember, Lower, writes}
use Rattle.world.specs.Worlds.{World}
use Rattle.world.specs.Connections.{is_conn}
use Rattle.world.specs.Nodes.{block_of, node_of, replica_at}
use Rattle.world_laws.specs.Placing.{Placed}
use Rattle.world_orders.proofs.Kept.{sent-here}
use Rattle.world_orders.proofs.Lists.{Behind, get-append}
use Rattle.world_orders.specs.Orders.{Ordered}
use Rattle.play_model.specs.Dues.{is_open}
use Rattle.play_completeness.specs.Streams.{packets_in, acks_in, reach_in}
use Rattle.play_completeness.specs.Links.{Awaits, pending_below, awaited, packets_left, acks_left, reach_below, reach_above, WritesWell, ActsWell, MemberWell, LowerWell, IsGoodUp, Carries, Link, InPipeline, Links}
use Rattle.play_completeness.proofs.AckTurn.{acks-join}
use Rattle.play_completeness.proofs.LinkFrame.{BelowWell, below-of, flows-same, reach-same, link-of}
use Rattle.play_completeness.proofs.Turned.{Turned, sent-off, own-well, awaits-on, above-same}

module _ (w v : World) (o : Ordered w) (placed : Placed w) (links : Links w) (d : ℕ) (m : FullMember) (lt : InPipeline w d) (is : w.lowers d ≡ writes m) (responds : m.state.responds ≡ true)
    (a : Response) (t : Turned w v d m (record m.state { mirror = mirror.Open }) (w.replicas (node_of w d) (block_of m.fields)) [] (response a ∷ []) shuts.Nothing)
    (off : is_conn m.mirror d ≡ false) (unmoved : (v.down_marks d).taken ≡ (w.down_marks d).taken) (good : is_success a.status ≡ true) (mirrored : m.mirror ≡ None → ⊥) where
  abbrev R : FullReplica
  R = w.replicas (node_of w d) (block_of m.fields)

  abbrev new : MemberState
  new = record m.state { mirror = mirror.Open }

  abbrev left : FullMember
  left = record m { state = new }

  abbrev f : WriteFields
  f = (links d lt).fields

  abbrev rule : Rule
  rule = (links d lt).rule

  abbrev u : Upper
  u = (w.dialled d).upper

  well : MemberWell w d f rule m
  well = own-well w v o placed links d m lt is responds new R [] (response a ∷ []) shuts.Nothing t

  opened : is_open (writes m) ≡ true
  opened = rw (well.receives, responds) refl

  acts : is_open (w.lowers d) ≡ true
  acts = ap is_open is ∙ opened

  awaits : Awaits w d u
  awaits = (links d lt).live acts

  old : Carries w d f rule u (writes m)
  old = subst (λ (l : Lower). Carries w d f rule u l) is ((links d lt).carries awaits)

  now-at : replica_at v d (block_of m.fields) ≡ R
  now-at = ap (λ (y : Dialled). v.replicas y.to.node (block_of m.fields)) (t.dialled d lt.known) ∙ t.replica

  downs-same : v.downs d ≡ w.downs d
  downs-same = t.downs d ∙ (ap (λ (ms : List Message). w.downs d ++ ms) (sent-off m.mirror [] d off) ∙ append-nil (w.downs d))

  ups-more : v.ups d ≡ w.ups d ++ response a ∷ []
  ups-more = t.ups d ∙ ap (λ (ms : List Message). w.ups d ++ ms) (sent-here d (response a ∷ []))

  acks-same : acks_left v d ≡ acks_left w d
  acks-same =
      ap (λ (n : ℕ). acks_in (drop n (v.ups d))) (t.up_taken d off)
      ∙ (ap (λ (ms : List Message). acks_in (drop (w.up_marks d).taken ms)) ups-more
      ∙ (ap acks_in (drop-append-le (w.up_marks d).taken (w.ups d) (response a ∷ []) (links d lt).ends.sent_up)
      ∙ (acks-join (drop (w.up_marks d).taken (w.ups d)) (response a ∷ []) ∙ append-nil (acks_left w d))))

  packets-same : packets_left v d ≡ packets_left w d
  packets-same = ap (λ (n : ℕ). packets_in (drop n (v.downs d))) unmoved ∙ ap (λ (ms : List Message). packets_in (drop (w.down_marks d).taken ms)) downs-same

  pub pending-same-now : pending_below v d (writes left) ≡ pending_below w d (writes m)
  pending-same-now = ap (λ (x : FullReplica). if m.state.responds then x.known.pending else []) now-at

  accept-carries : Carries v d f rule u (writes left)
  accept-carries =
      let z = above-same w v o placed links d m lt is responds new R [] (response a ∷ []) shuts.Nothing t d off u (placed.dialled d lt.known).upper awaits in
      record {
        flows = flows-same (awaited w u) (awaited v u) (acks_left w d) (acks_left v d) (pending_below w d (writes m)) (pending_below v d (writes left)) (packets_left w d) (packets_left v d) (not (is_open (writes m))) z.0 acks-same pending-same-now packets-same old.flows;
        reaches = reach-same rule (reach_below w d f (writes m)) (reach_below v d f (writes left)) (packets_left w d) (packets_left v d) (reach_above w u) (reach_above v u) (not (is_open (writes m)))
            (λ _. ap (λ (x : FullReplica). reach_in x.known) now-at) packets-same z.1 old.reaches;
        ruled = z.2 ∙ old.ruled;
      }

  goods : (k : ℕ) (x : Message) → slice_get (v.ups d) k ≡ Some x → IsGoodUp f x
  goods k x at = go (get-append (w.ups d) (response a ∷ []) k x (sym (ap (λ (ms : List Message). slice_get ms k) ups-more) ∙ at))
    where
      one : (n : ℕ) → slice_get (response a ∷ []) n ≡ Some x → IsGoodUp f x
      one zero q = subst (IsGoodUp f) (same_Some (response a) x q) good
      one (suc n) q = absurd (none-some x q)

      go : (slice_get (w.ups d) k ≡ Some x) ⊎ Behind (w.ups d) (response a ∷ []) k x → IsGoodUp f x
      go (inl q) = (links d lt).ups k x q
      go (inr q) = one q.place q.found

  accept-acts : ActsWell v d f rule left
  accept-acts =
      let y : ActsWell w d f rule m = well.acts responds in
      let at : replica_at v d (block_of f) ≡ replica_at w d (block_of f) = subst (λ (q : WriteFields). replica_at v d (block_of q) ≡ replica_at w d (block_of q)) well.fields_are now-at in
      record {
        quiet = y.quiet;
        below = y.below;
        stays = y.stays;
        mirror = mirrored;
        writes = subst (WritesWell d f rule) (sym at) y.writes;
        waits = λ q. absurd (false≢true q);
      }

  accept-below : BelowWell v d f rule
  accept-below =
      let b : BelowWell w d f rule = below-of w d (links d lt) in
      let l : length (w.ups d ++ response a ∷ []) ≡ length (w.ups d) + 1 = length-append (w.ups d) (response a ∷ []) in
      let n : (w.up_marks d).taken ≤ length (w.ups d) = b.ends.sent_up in
      record {
        asked = record { first = ap (λ (ms : List Message). slice_get ms 0) downs-same ∙ b.asked.first };
        lower = subst (λ (x : Lower). LowerWell v d f rule x) (sym t.lower) (record { fields_are = well.fields_are; receives = well.receives; acts = λ _. accept-acts });
        ups = goods;
        ends = record {
          sent_down = subst (λ (k : ℕ). k ≤ length (v.downs d)) (sym unmoved) (subst (λ (ms : List Message). (w.down_marks d).taken ≤ length ms) (sym downs-same) b.ends.sent_down);
          sent_up = subst (λ (k : ℕ). k ≤ length (v.ups d)) (sym (t.up_taken d off)) (subst (λ (ms : List Message). (w.up_marks d).taken ≤ length ms) (sym ups-more) (omega (arith, l, n)));
          down = λ _. t.down_end d refl ∙ b.ends.down acts;
          up = λ _. t.up_end d refl ∙ b.ends.up acts;
          over = λ q. absurd (false≢true (sym q ∙ (ap is_open t.lower ∙ opened)));
        };
      }

  pub accept-kept : Link v d
  accept-kept = link-of v d f rule u (writes left) (ap (λ (y : Dialled). y.upper) (t.dialled d lt.known)) t.lower accept-below (links d lt).request_is
      (λ _. awaits-on w v o placed links d m lt is responds new R [] (response a ∷ []) shuts.Nothing t d off u awaits) (λ _. accept-carries)
