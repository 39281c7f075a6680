-- A writer takes something from its connection, or sends a packet on it: that connection.
use Rattle.std.proofs.Common.{◌≡◌, ℕ, suc, ◌<◌, ◌≤◌, true, false, List, [], drop, length, map, slice_get, Some, None, refl, sym, ◌∙◌, ap, subst, arith}
use Rattle.std.specs.Prelude.{not}
use Rattle.std.proofs.lemmas.Bool.{false≢true}
use Rattle.std.proofs.lemmas.Option.{none-some}
use Rattle.hd_base.specs.SumRules.{Rule}
use Rattle.op_headers.specs.Values.{WriteFields}
use Rattle.world.specs.Parts.{Message, Upper, by_writer, Dialled, Lower, idle, writes, serves, recovers, ended_below, Writing}
use Rattle.world.specs.Worlds.{World}
use Rattle.world_laws.specs.Placing.{Placed}
use Rattle.world_orders.specs.Orders.{is_empty, IsMember, IsBelow, Ordered}
use Rattle.play_model.specs.Dues.{is_open}
use Rattle.play_completeness.specs.Streams.{acks_in, packets_in, as_pending, Flows, reach_of}
use Rattle.play_completeness.specs.Links.{Awaits, pending_below, awaited, packets_left, acks_left, reach_below, reach_above, WritesWell, ActsWell, LowerWell, Carries, Link, InPipeline, Links}
use Rattle.play_completeness.proofs.Flowing.{get-within}
use Rattle.play_completeness.proofs.LinkFrame.{BelowWell, below-of, flows-same, reach-same, link-of}
use Rattle.play_completeness.proofs.HearTurn.{not-empty}
use Rattle.play_completeness.proofs.WriterTurned.{WriterTurned, replica-same, pending-same, reach-below-same}

-- what a turn in which a writer takes a message makes of its connection
pub record Hears (w v : World) (c : ℕ) : Type 0 where
  pub downs : v.downs c ≡ w.downs c
  pub heard : (v.up_marks c).taken ≡ suc (w.up_marks c).taken
  pub down_end : is_open (w.lowers c) ≡ true → (v.down_marks c).end ≡ (w.down_marks c).end
  pub up_end : is_open (w.lowers c) ≡ true → (v.up_marks c).end ≡ (w.up_marks c).end
  pub up_stays : (n : ℕ) → (w.up_marks c).end ≡ Some n → (v.up_marks c).end ≡ Some n

module _ (w v : World) (o : Ordered w) (placed : Placed w) (links : Links w) (b c : ℕ) (new : Writing) (t : WriterTurned w v b c new) (conn : (w.writers b).conn ≡ Some c) (kept : (k : ℕ) → new.conn ≡ Some k → k ≡ c)
    (lc : InPipeline w c) (upper : (w.dialled c).upper ≡ by_writer b) (y : Message) (found : slice_get (w.ups c) (w.up_marks c).taken ≡ Some y) (h : Hears w v c) where
  abbrev fc : WriteFields
  fc = (links c lc).fields

  abbrev rulec : Rule
  rulec = (links c lc).rule

  packets-same : packets_left v c ≡ packets_left w c
  packets-same = ap (λ (n : ℕ). packets_in (drop n (v.downs c))) (t.down_taken c) ∙ ap (λ (ms : List Message). packets_in (drop (w.down_marks c).taken ms)) h.downs

  pub acks-rest : acks_left v c ≡ acks_in (drop (suc (w.up_marks c).taken) (w.ups c))
  acks-rest = ap (λ (n : ℕ). acks_in (drop n (v.ups c))) h.heard ∙ ap (λ (ms : List Message). acks_in (drop (suc (w.up_marks c).taken) ms)) (t.ups c)

  sent-some : is_empty (w.ups c) ≡ false
  sent-some = not-empty (w.ups c) (w.up_marks c).taken y found

  hear-lower : (l : Lower) → w.lowers c ≡ l → LowerWell w c fc rulec l → LowerWell v c fc rulec l
  hear-lower idle at x =
      let none : w.ups c ≡ [] = (subst (λ (q : Lower). IsBelow (w.dialled c).upper (w.down_marks c).taken (w.ups c) q) at (o.below c)).1 in
      absurd (false≢true (sym sent-some ∙ ap is_empty none))
  hear-lower (writes x) at z = record {
    fields_are = z.fields_are;
    receives = z.receives;
    acts = λ a.
        let k : ActsWell w c fc rulec x = z.acts a in
        let member : IsMember (w.dialled c).upper (w.down_marks c).taken (w.ups c) x.state.mirror = subst (λ (q : Lower). IsBelow (w.dialled c).upper (w.down_marks c).taken (w.ups c) q) at (o.below c) in
        record {
          quiet = k.quiet;
          below = k.below;
          stays = k.stays;
          mirror = k.mirror;
          writes = subst (WritesWell c fc rulec) (sym (replica-same w v placed links b c new t conn kept c lc.known fc)) k.writes;
          waits = λ e. absurd (false≢true (sym sent-some ∙ (member.answered ∙ e)));
        };
  }
  hear-lower (serves n z) at x = x
  hear-lower recovers at x = x
  hear-lower ended_below at x = x

  hear-below : BelowWell v c fc rulec
  hear-below =
      let q : BelowWell w c fc rulec = below-of w c (links c lc) in
      let low : v.lowers c ≡ w.lowers c = t.lowers c in
      record {
        asked = record { first = ap (λ (ms : List Message). slice_get ms 0) h.downs ∙ q.asked.first };
        lower = subst (λ (l : Lower). LowerWell v c fc rulec l) (sym low) (hear-lower (w.lowers c) refl q.lower);
        ups = λ k x at. q.ups k x (sym (ap (λ (ms : List Message). slice_get ms k) (t.ups c)) ∙ at);
        ends = record {
          sent_down = subst (λ (n : ℕ). n ≤ length (v.downs c)) (sym (t.down_taken c)) (subst (λ (ms : List Message). (w.down_marks c).taken ≤ length ms) (sym h.downs) q.ends.sent_down);
          sent_up = subst (λ (n : ℕ). n ≤ length (v.ups c)) (sym h.heard) (subst (λ (ms : List Message). suc (w.up_marks c).taken ≤ length ms) (sym (t.ups c)) (within (get-within (w.ups c) (w.up_marks c).taken y found)));
          down = λ e. let was = sym (ap is_open low) ∙ e in h.down_end was ∙ q.ends.down was;
          up = λ e. let was = sym (ap is_open low) ∙ e in h.up_end was ∙ q.ends.up was;
          over = λ e. h.up_stays (length (w.ups c)) (q.ends.over (sym (ap is_open low) ∙ e)) ∙ ap (λ (ms : List Message). Some (length ms)) (sym (t.ups c));
        };
      }
    where
      within : {a b : ℕ} → a < b → suc a ≤ b
      within {a} {b} l = omega (arith, l)

  pub hear-old : Carries w c fc rulec (by_writer b) (w.lowers c)
  hear-old = subst (λ (x : Upper). Carries w c fc rulec x (w.lowers c)) upper ((links c lc).carries (subst (λ (x : Upper). Awaits w c x) (sym upper) conn))

  -- the writer keeps its connection, and has formed and written what it had
  module _ (keeps : new.conn ≡ Some c) (reach : reach_of new.known ≡ reach_of (w.writers b).known) (rules : new.known.stream.rule ≡ (w.writers b).known.stream.rule)
      (flows : Flows (map as_pending new.known.stream.unacked) (acks_left v c) (pending_below w c (w.lowers c)) (packets_left w c) (not (is_open (w.lowers c)))) where
    awaits-now : (v.writers b).conn ≡ Some c
    awaits-now = ap (λ (x : Writing). x.conn) t.writer ∙ keeps

    hear-carries : Carries v c fc rulec (by_writer b) (w.lowers c)
    hear-carries = record {
      flows = flows-same (map as_pending new.known.stream.unacked) (awaited v (by_writer b)) (acks_left v c) (acks_left v c) (pending_below w c (w.lowers c)) (pending_below v c (w.lowers c)) (packets_left w c) (packets_left v c) (not (is_open (w.lowers c)))
          (ap (λ (x : Writing). map as_pending x.known.stream.unacked) t.writer) refl (pending-same w v placed links b c new t conn kept c lc.known (w.lowers c)) packets-same flows;
      reaches = reach-same rulec (reach_below w c fc (w.lowers c)) (reach_below v c fc (w.lowers c)) (packets_left w c) (packets_left v c) (reach_above w (by_writer b)) (reach_above v (by_writer b)) (not (is_open (w.lowers c)))
          (λ _. reach-below-same w v placed links b c new t conn kept c lc.known fc (w.lowers c)) packets-same (ap (λ (x : Writing). reach_of x.known) t.writer ∙ reach) hear-old.reaches;
      ruled = ap (λ (x : Writing). Some x.known.stream.rule) t.writer ∙ (ap (λ (z : Rule). Some z) rules ∙ hear-old.ruled);
    }

    pub hear-kept : Link v c
    hear-kept = link-of v c fc rulec (by_writer b) (w.lowers c) (ap (λ (z : Dialled). z.upper) (t.dialled c lc.known) ∙ upper) (t.lowers c) hear-below (links c lc).request_is (λ _. awaits-now) (λ _. hear-carries)

  -- the writer has given its connection up, whose lower end is over
  pub hear-over : new.conn ≡ None → is_open (w.lowers c) ≡ false → Link v c
  hear-over gone closed =
      link-of v c fc rulec (by_writer b) (w.lowers c) (ap (λ (z : Dialled). z.upper) (t.dialled c lc.known) ∙ upper) (t.lowers c) hear-below (links c lc).request_is
      (λ q. absurd (false≢true (sym closed ∙ q))) (λ a. absurd (none-some c (sym (ap (λ (x : Writing). x.conn) t.writer ∙ gone) ∙ a)))
