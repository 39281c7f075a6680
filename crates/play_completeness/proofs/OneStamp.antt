-- All live connections of a block are of the stamp of its writer's setup, so at most one of them waits to be asked.
use Rattle.std.proofs.Common.{◌≡◌, ℕ, zero, suc, ◌<◌, Bool, true, false, slice_get, Option, Some, IfSome, refl, sym, ◌∙◌, ap, subst, arith}
use Rattle.std.specs.Prelude.{option_map}
use Rattle.std.proofs.lemmas.Option.{none-some, same_Some}
use Rattle.hd_base.specs.SumRules.{Rule}
use Rattle.hd_base.specs.declared.numbers.Stamp.{Stamp}
use Rattle.op_headers.specs.declared.ops.Op.TheVariants as op
use Rattle.op_headers.specs.Values.{WriteFields}
use Rattle.replica_core.specs.declared.info.ReplicaInfo.{ReplicaInfo}
use Rattle.replica_core.specs.Views.{rule_in}
use Rattle.member_core.specs.Requests.{request_from}
use Rattle.writer_core.specs.declared.records.WriterRecord.{WriterRecord}
use Rattle.writer_core.specs.Transitions.{is_connected}
use Rattle.world.specs.Parts.{request, Upper, by_writer, by_member, by_reader, by_primary, Lower, idle, writes}
use Rattle.world.specs.Worlds.{World}
use Rattle.world.specs.Nodes.{block_of, replica_at}
use Rattle.world_laws.specs.Carrying.{new_stamp}
use Rattle.world_laws.specs.Placing.{Placed, IsUpper}
use Rattle.world_laws.specs.Stamping.{known_heard, heard}
use Rattle.world_laws.proofs.FactTables.{and-right}
use Rattle.play_scripts.specs.WorldAcks.Acking.{Mirrors, UpperTells}
use Rattle.play_scripts.specs.WorldAcks.Waiting.{Requests}
use Rattle.world_orders.specs.Orders.{IsMirror, MirrorIs, Ordered}
use Rattle.world_closings.specs.WorldWriters.Piping.{setup_stamp, Piped, PipedOf}
use Rattle.play_model.specs.Dues.{is_open}
use Rattle.play_model.specs.Laws.{IsQuiet}
use Rattle.play_scripts.specs.PlayLaws.Writers.{Rests}
use Rattle.play_completeness.specs.Links.{MemberAwaits, Awaits, member_rule, rule_above, WritesWell, MemberWell, LowerWell, Link, InPipeline, Links}
use Rattle.play_completeness.proofs.UpSteps.{same-fields}
use Rattle.play_completeness.proofs.Pipelines.{writing-in}

-- the stamp of the setup of a block's writer
abbrev pub stamp_at : World → ℕ → Stamp
stamp_at w b = setup_stamp (heard (w.writers b)).phase (heard (w.writers b)).committed

-- The writer of a request's block has a connection, and the request is of the stamp of its setup, and of its rule.
pub record OfWriter (w : World) (f : WriteFields) (rule : Rule) : Type 0 where
  pub connected : is_connected (w.writers (block_of f)).known.phase ≡ true
  pub stamp_is : new_stamp f ≡ stamp_at w (block_of f)
  pub rule_is : rule ≡ (w.writers (block_of f)).known.stream.rule

same-asked : (f g : WriteFields) → Some (request (op.Write f)) ≡ Some (request (op.Write g)) → f ≡ g
same-asked f g e = same-fields f g (same_Some (request (op.Write f)) (request (op.Write g)) e)

of-same : (w : World) (f g : WriteFields) (rule : Rule) → block_of f ≡ block_of g → new_stamp f ≡ new_stamp g → OfWriter w f rule → OfWriter w g rule
of-same w f g rule b s h = record {
  connected = subst (λ (n : ℕ). is_connected (w.writers n).known.phase ≡ true) b h.connected;
  stamp_is = sym s ∙ (h.stamp_is ∙ ap (stamp_at w) b);
  rule_is = h.rule_is ∙ ap (λ (n : ℕ). (w.writers n).known.stream.rule) b;
}

module _ (w : World) (o : Ordered w) (placed : Placed w) (piped : (b : ℕ) → PipedOf w b) (rest : (b : ℕ) → Rests (w.writers b))
    (tells : (c : ℕ) → c < w.next_conn → UpperTells w.past c (w.dialled c).upper) (quiet : IsQuiet w) (links : Links w) where
  -- FROM WHOEVER DIALLED THEM

  connected-by : (b c : ℕ) → (w.writers b).conn ≡ Some c → is_connected (w.writers b).known.phase ≡ true
  connected-by b c conn = go (is_connected (w.writers b).known.phase) refl
    where
      go : (q : Bool) → is_connected (w.writers b).known.phase ≡ q → is_connected (w.writers b).known.phase ≡ true
      go true e = e
      go false e = absurd (none-some c (sym ((rest b).alone e) ∙ conn))

  of-writer : (c b : ℕ) (lc : InPipeline w c) → (w.dialled c).upper ≡ by_writer b → (w.writers b).conn ≡ Some c → OfWriter w (links c lc).fields (links c lc).rule
  of-writer c b lc up conn =
      let same : heard (w.writers b) ≡ (w.writers b).known = ap (known_heard (w.writers b).known) (quiet b) in
      let on : is_connected (w.writers b).known.phase ≡ true = connected-by b c conn in
      let p : Piped w.past b (heard (w.writers b)) (w.writers b).conn = piped b (ap (λ (x : WriterRecord). is_connected x.phase) same ∙ on) in
      let f : WriteFields = p.pipeline.fields in
      let at : p.at ≡ c = same_Some p.at c (sym p.is ∙ conn) in
      let asked : slice_get (w.downs c) 0 ≡ Some (request (op.Write f)) = subst (λ (k : ℕ). slice_get (w.downs k) 0 ≡ Some (request (op.Write f))) at p.pipeline.asked in
      let fields : f ≡ (links c lc).fields = same-asked f (links c lc).fields (sym asked ∙ (links c lc).asked.first) in
      let block : b ≡ block_of f = sym p.pipeline.block_is in
      let awaits : Awaits w c (w.dialled c).upper = subst (λ (u : Upper). Awaits w c u) (sym up) conn in
      let ruled : rule_above w (by_writer b) ≡ Some (links c lc).rule = sym (ap (rule_above w) up) ∙ ((links c lc).carries awaits).ruled in
      of-same w f (links c lc).fields (links c lc).rule (ap block_of fields) (ap new_stamp fields) (record {
        connected = subst (λ (n : ℕ). is_connected (w.writers n).known.phase ≡ true) block on;
        stamp_is = p.pipeline.stamp_is ∙ ap (stamp_at w) block;
        rule_is = sym (same_Some (w.writers b).known.stream.rule (links c lc).rule ruled) ∙ ap (λ (n : ℕ). (w.writers n).known.stream.rule) block;
      })

  -- a member has the rule of its request
  member-ruled : (d c : ℕ) (ld : InPipeline w d) (a : MemberAwaits w d c) → rule_above w (by_member d) ≡ Some (links d ld).rule
  member-ruled d c ld a =
      let l : Link w d = links d ld in
      let well : MemberWell w d l.fields l.rule a.member = subst (λ (x : Lower). LowerWell w d l.fields l.rule x) a.is l.lower in
      let y : WritesWell d l.fields l.rule (replica_at w d (block_of l.fields)) = (well.acts (and-right a.member.state.receives a.member.state.responds (sym (ap is_open a.is) ∙ a.acts))).writes in
      let at : rule_in (replica_at w d (block_of a.member.fields)).known ≡ rule_in (replica_at w d (block_of l.fields)).known = ap (λ (f : WriteFields). rule_in (replica_at w d (block_of f)).known) well.fields_are in
      ap (member_rule w d) a.is ∙ (at ∙ (ap (λ (o : Option ReplicaInfo). option_map (λ (i : ReplicaInfo). i.sums) o) y.is ∙ ap (λ (r : Rule). Some r) y.rule_is))

  of-member : (c d : ℕ) (lc : InPipeline w c) (ld : InPipeline w d) → (w.dialled c).upper ≡ by_member d → MemberAwaits w d c → Mirrors w.past d c → OfWriter w (links d ld).fields (links d ld).rule → OfWriter w (links c lc).fields (links c lc).rule
  of-member c d lc ld up a m h =
      let awaits : Awaits w c (w.dialled c).upper = subst (λ (u : Upper). Awaits w c u) (sym up) a in
      let ruled : rule_above w (by_member d) ≡ Some (links c lc).rule = sym (ap (rule_above w) up) ∙ ((links c lc).carries awaits).ruled in
      let rule : (links d ld).rule ≡ (links c lc).rule = same_Some (links d ld).rule (links c lc).rule (sym (member-ruled d c ld a) ∙ ruled) in
      let one : (links d ld).fields ≡ m.fields = same-asked (links d ld).fields m.fields (sym (links d ld).asked.first ∙ m.asked.first) in
      let onward : WriteFields = request_from m.source m.fields m.rest in
      let two : (links c lc).fields ≡ onward = same-asked (links c lc).fields onward (sym (links c lc).asked.first ∙ m.mirror.first) in
      of-same w (links d ld).fields (links c lc).fields (links c lc).rule (ap block_of one ∙ sym (ap block_of two)) (ap new_stamp one ∙ sym (ap new_stamp two))
      (subst (λ (r : Rule). OfWriter w (links d ld).fields r) rule h)

  -- so it is of each live connection below this number
  abbrev Known : ℕ → Type 0
  Known k = (c : ℕ) (lc : InPipeline w c) → c < k → is_open (w.lowers c) ≡ true → OfWriter w (links c lc).fields (links c lc).rule

  by-upper : (c : ℕ) (lc : InPipeline w c) → Known c → (u : Upper) → (w.dialled c).upper ≡ u → Awaits w c u → OfWriter w (links c lc).fields (links c lc).rule
  by-upper c lc below (by_writer b) up a = of-writer c b lc up a
  by-upper c lc below (by_member d) up a =
      let ld : InPipeline w d = writing-in w o d a.member a.is (subst (λ (u : Upper). IsUpper w.next_conn u) up (placed.dialled c lc.known).upper) in
      let mirrors : MirrorIs w.dialled w.up_marks d (writes a.member) = subst (λ (l : Lower). MirrorIs w.dialled w.up_marks d l) a.is (o.mirrors d) in
      let is : IsMirror (w.dialled c) (w.up_marks c).taken d c a.member.state =
      subst (λ (q : Option ℕ). IfSome q (λ n. IsMirror (w.dialled n) (w.up_marks n).taken d n a.member.state)) a.mirror mirrors in
      of-member c d lc ld up a (subst (λ (u : Upper). UpperTells w.past c u) up (tells c lc.known)) (below d ld is.later a.acts)
  by-upper c lc below (by_reader i) up a = absurd a
  by-upper c lc below (by_primary i place) up a = absurd a

  known-below : (k : ℕ) → Known k
  known-below zero c lc lt live = absurd (omega (arith, lt))
  known-below (suc k) c lc lt live =
      by-upper c lc (λ d ld later acts. known-below k d ld (omega (arith, later, lt)) acts) (w.dialled c).upper refl ((links c lc).live live)

  -- The writer of a live connection's block is connected, and the connection is of its stamp.
  pub live-of : (c : ℕ) (lc : InPipeline w c) → is_open (w.lowers c) ≡ true → OfWriter w (links c lc).fields (links c lc).rule
  live-of c lc live = known-below (suc c) c lc (omega arith) live

  -- Of one block at most one connection waits to be asked.
  pub one-waits : Requests w → (c d : ℕ) (lc : InPipeline w c) (ld : InPipeline w d) → w.lowers c ≡ idle → w.lowers d ≡ idle → block_of (links c lc).fields ≡ block_of (links d ld).fields → c ≡ d
  one-waits q c d lc ld ic id same =
      let a = live-of c lc (ap is_open ic) in
      let b = live-of d ld (ap is_open id) in
      q.once c d (links c lc).fields (links d ld).fields (record { first = (links c lc).asked.first; waits = ic }) (record { first = (links d ld).asked.first; waits = id })
      (a.stamp_is ∙ (ap (stamp_at w) same ∙ sym b.stamp_is))
