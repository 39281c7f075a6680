-- A writer sends the packet that is next: its own connection.
use Rattle.std.proofs.Common.{◌≡◌, ℕ, ◌<◌, ◌≤◌, ◌+◌, Bool, true, false, List, [], ◌∷◌, ◌++◌, drop, length, map, slice_get, Some, refl, sym, ◌∙◌, ap, subst, arith, length-append, eqb-true}
use Rattle.std.specs.Prelude.{◌==◌, not}
use Rattle.std.proofs.lemmas.Bool.{false≢true}
use Rattle.std.proofs.lemmas.List.{map-append, drop-append-le}
use Rattle.std.proofs.lemmas.Option.{same_Some}
use Rattle.hd_base.specs.SumRules.{Rule}
use Rattle.op_headers.specs.declared.ops.Op.TheVariants as op
use Rattle.op_headers.specs.Values.{WriteFields}
use Rattle.packet_codec.specs.declared.packets.Packet.{Packet}
use Rattle.writer_core.specs.declared.records.WriterRecord.{WriterRecord}
use Rattle.world.specs.Parts.{Message, request, packet, ack, response, read_status, recovery_answer, Marks, Upper, by_writer, Dialled, Lower, idle, writes, serves, recovers, ended_below, Writing}
use Rattle.world.specs.Worlds.{World}
use Rattle.world_laws.specs.Placing.{Placed}
use Rattle.play_completeness.specs.WorldOrders.Orders.{is_empty, IsMember, IsBelow, Ordered}
use Rattle.play_completeness.proofs.WorldOrders.Kept.{eqb-itself}
use Rattle.play_model.specs.Dues.{is_open}
use Rattle.play_completeness.specs.Streams.{packets_in, acks_in, as_pending, Flows, reach_of, reach_after, IsNext, Leads}
use Rattle.play_completeness.specs.Links.{Awaits, pending_below, awaited, packets_left, acks_left, reach_below, reach_above, ReachFits, WritesWell, ActsWell, LowerWell, Carries, Link, InPipeline, Links}
use Rattle.play_completeness.proofs.Flowing.{NoneLast, get-front, flows-send, leads-more}
use Rattle.play_completeness.proofs.LinkFrame.{BelowWell, below-of, flows-same, reach-same, link-of}
use Rattle.play_completeness.proofs.HearTurn.{not-empty}
use Rattle.play_completeness.proofs.Next.{found-at}
use Rattle.play_completeness.proofs.Pipelines.{piped-before}
use Rattle.completing_writers.proofs.Leaving.{Aside}
use Rattle.completing_writers.proofs.Linking.{replica-same, pending-same, reach-below-same, conn-kept}

-- PACKETS

packets-join : (xs ys : List Message) → packets_in (xs ++ ys) ≡ packets_in xs ++ packets_in ys
packets-join [] ys = refl
packets-join (packet p ∷ xs) ys = ap (λ (ps : List Packet). p ∷ ps) (packets-join xs ys)
packets-join (request o ∷ xs) ys = packets-join xs ys
packets-join (ack a ∷ xs) ys = packets-join xs ys
packets-join (response r ∷ xs) ys = packets-join xs ys
packets-join (read_status s ∷ xs) ys = packets-join xs ys
packets-join (recovery_answer a ∷ xs) ys = packets-join xs ys

-- What is sent is behind all that is on its way.
packets-more : (xs : List Message) (n : ℕ) (p : Packet) → n ≤ length xs → packets_in (drop n (xs ++ packet p ∷ [])) ≡ packets_in (drop n xs) ++ p ∷ []
packets-more xs n p le = ap packets_in (drop-append-le n xs (packet p ∷ []) le) ∙ packets-join (drop n xs) (packet p ∷ [])

-- THE CONNECTION

-- A writer has formed one packet more, the next one, and sends it.
pub record SendsNext (x n : WriterRecord) (p : Packet) : Type 0 where
  pub next : IsNext x.stream.rule (reach_of x) p
  pub reach : reach_of n ≡ reach_after (reach_of x) p
  pub unacked : n.stream.unacked ≡ x.stream.unacked ++ p ∷ []
  pub rule : n.stream.rule ≡ x.stream.rule

module _ (w v : World) (o : Ordered w) (placed : Placed w) (links : Links w) (b c : ℕ) (new : Writing) (a : Aside w v b new) (conn : (w.writers b).conn ≡ Some c) (keeps : new.conn ≡ Some c) (lc : InPipeline w c) (upper : (w.dialled c).upper ≡ by_writer b)
    (p : Packet) (conns : v.next_conn ≡ w.next_conn) (downs : v.downs c ≡ w.downs c ++ packet p ∷ []) (others : (k : ℕ) → (k == c) ≡ false → v.downs k ≡ w.downs k)
    (taken : 0 < (w.up_marks c).taken) (sends : SendsNext (w.writers b).known new.known p) (none : NoneLast (map as_pending (w.writers b).known.stream.unacked)) where
  abbrev X : WriterRecord
  X = (w.writers b).known

  abbrev f : WriteFields
  f = (links c lc).fields

  abbrev rule : Rule
  rule = (links c lc).rule

  abbrev l : Lower
  l = w.lowers c

  old : Carries w c f rule (by_writer b) l
  old = subst (λ (u : Upper). Carries w c f rule u l) upper ((links c lc).carries (subst (λ (u : Upper). Awaits w c u) (sym upper) conn))

  -- the lower end acts: the last packet wasn't formed
  opened : is_open l ≡ true
  opened = go (is_open l) refl
    where
      go : (q : Bool) → is_open l ≡ q → is_open l ≡ true
      go true e = e
      go false e =
          let over : (reach_of X).over ≡ true = subst (λ (q : Bool). ReachFits rule (reach_below w c f l) (packets_left w c) (reach_of X) (not q)) e old.reaches in
          absurd (false≢true (sym sends.next.before_last ∙ over))

  leads : Leads rule (reach_below w c f l) (packets_left w c) (reach_of X)
  leads = subst (λ (q : Bool). ReachFits rule (reach_below w c f l) (packets_left w c) (reach_of X) (not q)) opened old.reaches

  flows : Flows (map as_pending X.stream.unacked) (acks_left w c) (pending_below w c l) (packets_left w c) false
  flows = subst (λ (q : Bool). Flows (map as_pending X.stream.unacked) (acks_left w c) (pending_below w c l) (packets_left w c) (not q)) opened old.flows

  -- something came up
  sent-some : is_empty (w.ups c) ≡ false
  sent-some =
      let up : (w.up_marks c).taken ≤ length (w.ups c) = (links c lc).ends.sent_up in
      let there = found-at (w.ups c) 0 (omega (arith, taken, up)) in
      not-empty (w.ups c) 0 there.0 there.1

  packets-now : packets_left v c ≡ packets_left w c ++ p ∷ []
  packets-now =
      ap (λ (m : Marks). packets_in (drop m.taken (v.downs c))) (a.down_marks c)
      ∙ (ap (λ (ms : List Message). packets_in (drop (w.down_marks c).taken ms)) downs ∙ packets-more (w.downs c) (w.down_marks c).taken p (links c lc).ends.sent_down)

  acks-same : acks_left v c ≡ acks_left w c
  acks-same = ap (λ (m : Marks). acks_in (drop m.taken (v.ups c))) (a.up_marks c) ∙ ap (λ (ms : List Message). acks_in (drop (w.up_marks c).taken ms)) (a.ups c)

  first-same : (m : Message) → slice_get (w.downs c) 0 ≡ Some m → slice_get (v.downs c) 0 ≡ Some m
  first-same m e = ap (λ (ms : List Message). slice_get ms 0) downs ∙ get-front (w.downs c) (packet p ∷ []) 0 m e

  send-lower : (z : Lower) → w.lowers c ≡ z → LowerWell w c f rule z → LowerWell v c f rule z
  send-lower idle at x =
      let nothing : w.ups c ≡ [] = (subst (λ (q : Lower). IsBelow (w.dialled c).upper (w.down_marks c).taken (w.ups c) q) at (o.below c)).1 in
      absurd (false≢true (sym sent-some ∙ ap is_empty nothing))
  send-lower (writes x) at z = record {
    fields_are = z.fields_are;
    receives = z.receives;
    acts = λ q.
        let k : ActsWell w c f rule x = z.acts q in
        let member : IsMember (w.dialled c).upper (w.down_marks c).taken (w.ups c) x.state.mirror = subst (λ (y : Lower). IsBelow (w.dialled c).upper (w.down_marks c).taken (w.ups c) y) at (o.below c) in
        record {
          quiet = k.quiet;
          below = k.below;
          stays = k.stays;
          mirror = k.mirror;
          writes = subst (WritesWell c f rule) (sym (replica-same w v b new placed links a c lc.known f)) k.writes;
          waits = λ e. absurd (false≢true (sym sent-some ∙ (member.answered ∙ e)));
        };
  }
  send-lower (serves n z) at x = x
  send-lower recovers at x = x
  send-lower ended_below at x = x

  send-below : BelowWell v c f rule
  send-below =
      let q : BelowWell w c f rule = below-of w c (links c lc) in
      let low : v.lowers c ≡ w.lowers c = a.lowers c in
      let down : (v.down_marks c).taken ≡ (w.down_marks c).taken = ap (λ (m : Marks). m.taken) (a.down_marks c) in
      let up : (v.up_marks c).taken ≡ (w.up_marks c).taken = ap (λ (m : Marks). m.taken) (a.up_marks c) in
      let long : length (v.downs c) ≡ length (w.downs c) + 1 = ap (λ (ms : List Message). length ms) downs ∙ length-append (w.downs c) (packet p ∷ []) in
      let sent_down : (w.down_marks c).taken ≤ length (w.downs c) = q.ends.sent_down in
      record {
        asked = record { first = first-same (request (op.Write f)) q.asked.first };
        lower = subst (λ (z : Lower). LowerWell v c f rule z) (sym low) (send-lower (w.lowers c) refl q.lower);
        ups = λ k x at. q.ups k x (sym (ap (λ (ms : List Message). slice_get ms k) (a.ups c)) ∙ at);
        ends = record {
          sent_down = omega (arith, down, long, sent_down);
          sent_up = subst (λ (n : ℕ). n ≤ length (v.ups c)) (sym up) (subst (λ (ms : List Message). (w.up_marks c).taken ≤ length ms) (sym (a.ups c)) q.ends.sent_up);
          down = λ e. ap (λ (m : Marks). m.end) (a.down_marks c) ∙ q.ends.down (sym (ap is_open low) ∙ e);
          up = λ e. ap (λ (m : Marks). m.end) (a.up_marks c) ∙ q.ends.up (sym (ap is_open low) ∙ e);
          over = λ e. ap (λ (m : Marks). m.end) (a.up_marks c) ∙ (q.ends.over (sym (ap is_open low) ∙ e) ∙ ap (λ (ms : List Message). Some (length ms)) (sym (a.ups c)));
        };
      }

  ruled : Some X.stream.rule ≡ Some rule
  ruled = old.ruled

  flows-now : Flows (awaited v (by_writer b)) (acks_left v c) (pending_below v c l) (packets_left v c) (not (is_open l))
  flows-now =
      let waits : awaited v (by_writer b) ≡ map as_pending X.stream.unacked ++ as_pending p ∷ [] =
      ap (λ (y : Writing). map as_pending y.known.stream.unacked) a.writer ∙ (ap (map as_pending) sends.unacked ∙ map-append as_pending X.stream.unacked (p ∷ [])) in
      let z : Flows (map as_pending X.stream.unacked ++ as_pending p ∷ []) (acks_left w c) (pending_below w c l) (packets_left w c ++ p ∷ []) false =
      flows-send (map as_pending X.stream.unacked) (acks_left w c) (pending_below w c l) (packets_left w c) p none flows in
      flows-same (map as_pending X.stream.unacked ++ as_pending p ∷ []) (awaited v (by_writer b)) (acks_left w c) (acks_left v c) (pending_below w c l) (pending_below v c l) (packets_left w c ++ p ∷ []) (packets_left v c) (not (is_open l))
      waits acks-same (pending-same w v b new placed links a c lc.known l) packets-now
      (subst (λ (q : Bool). Flows (map as_pending X.stream.unacked ++ as_pending p ∷ []) (acks_left w c) (pending_below w c l) (packets_left w c ++ p ∷ []) (not q)) (sym opened) z)

  reaches-now : ReachFits rule (reach_below v c f l) (packets_left v c) (reach_above v (by_writer b)) (not (is_open l))
  reaches-now =
      let above : reach_above v (by_writer b) ≡ reach_after (reach_of X) p = ap (λ (y : Writing). reach_of y.known) a.writer ∙ sends.reach in
      let next : IsNext rule (reach_of X) p = subst (λ (r : Rule). IsNext r (reach_of X) p) (same_Some X.stream.rule rule ruled) sends.next in
      let z : Leads rule (reach_below w c f l) (packets_left w c ++ p ∷ []) (reach_after (reach_of X) p) = leads-more rule (reach_below w c f l) (reach_of X) (packets_left w c) p leads next in
      reach-same rule (reach_below w c f l) (reach_below v c f l) (packets_left w c ++ p ∷ []) (packets_left v c) (reach_after (reach_of X) p) (reach_above v (by_writer b)) (not (is_open l))
      (λ _. reach-below-same w v b new placed links a c lc.known f l) packets-now above
      (subst (λ (q : Bool). ReachFits rule (reach_below w c f l) (packets_left w c ++ p ∷ []) (reach_after (reach_of X) p) (not q)) (sym opened) z)

  send-kept : Link v c
  send-kept =
      link-of v c f rule (by_writer b) l (ap (λ (z : Dialled). z.upper) (a.dialled c lc.known) ∙ upper) (a.lowers c) send-below (links c lc).request_is
      (λ _. ap (λ (y : Writing). y.conn) a.writer ∙ keeps)
      (λ _. record { flows = flows-now; reaches = reaches-now; ruled = ap (λ (y : Writing). Some y.known.stream.rule) a.writer ∙ (ap (λ (r : Rule). Some r) sends.rule ∙ ruled) })

  -- All connections: on another one nothing happens.
  pub sends-links : Links v
  sends-links k lk = go (k == c) refl
    where
      before : k < w.next_conn
      before = subst (λ (i : ℕ). k < i) conns lk.known

      known : InPipeline w k
      known = piped-before w v k before (a.dialled k before) lk

      other : (k == c) ≡ false → k ≡ c → ⊥
      other e same = false≢true (sym e ∙ subst (λ (i : ℕ). (i == c) ≡ true) (sym same) (eqb-itself c))

      go : (q : Bool) → (k == c) ≡ q → Link v k
      go true e = subst (λ (i : ℕ). Link v i) (sym (eqb-true k c e)) send-kept
      go false e = conn-kept w v b new placed links a k known (others k e) (record {
        onward = λ x. absurd (other e (same_Some k c (sym x ∙ conn)));
        back = λ x. absurd (other e (same_Some k c (sym x ∙ keeps)));
        stream = λ x. absurd (other e (same_Some k c (sym x ∙ conn)));
      })
