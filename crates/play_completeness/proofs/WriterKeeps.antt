-- What a writer hears keeps the writers, and what was done of each block's commands.
use Rattle.std.proofs.Common.{◌≡◌, ℕ, Bool, true, false, Option, Some, None, refl, sym, ◌∙◌, ap, subst, eqb-true}
use Rattle.std.specs.Prelude.{◌==◌, ◌&&◌, is_none, nat_lt, if◌then◌else◌}
use Rattle.hd_base.specs.SumRules.{Rule}
use Rattle.hd_base.specs.declared.numbers.ConnId.{ConnId}
use Rattle.replica_model.specs.Rows.{FullReplica}
use Rattle.writer_core.specs.declared.records.WriterRecord.{WriterRecord}
use Rattle.writer_core.specs.Transitions.{is_connected}
use Rattle.world.specs.declared.events.Event.{Event}
use Rattle.world.specs.declared.events.Event.TheVariants as event
use Rattle.world.specs.Parts.{Upper, by_writer, Writing}
use Rattle.world.specs.Worlds.{World, apply}
use Rattle.world.specs.Connections.{Next, next_up, up_taken, is_conn}
use Rattle.world.specs.Clients.{writing_as, writer_change, writer_hears}
use Rattle.world.specs.Events.{changed, upper_up, up_as, outcome, after_event, happens}
use Rattle.world_laws.proofs.StampGivens.{put-here}
use Rattle.play_completeness.specs.Formed.{HasRule, Ruled}
use Rattle.play_completeness.specs.Writers.{WriterWell, Writers}
use Rattle.play_completeness.proofs.AckKeeps.{SameWriter, HeardWell}
use Rattle.play_completeness.proofs.EndTurns.{add-none}
use Rattle.play_completeness.proofs.EndsKeep.{SameFor, well-same, SameBlock}
use Rattle.play_completeness.proofs.TurnWorld.{named, put-else}
use Rattle.play_completeness.proofs.WriterWorld.{at-same}

-- THE WORLD

-- A writer took something: all but its state, and connections, stays.
pub record WriterHeard (w v : World) (b : ℕ) (new : Writing) : Type 0 where
  pub nodes : v.nodes ≡ w.nodes
  pub office : v.office ≡ w.office
  pub latest : (k : ℕ) → v.latest k ≡ w.latest k
  pub written : (s : ℕ) → v.written s ≡ w.written s
  pub said : (k : ℕ) → v.said k ≡ w.said k
  pub replicas : (n k : ℕ) → v.replicas n k ≡ w.replicas n k
  pub writer : v.writers b ≡ new
  pub writers : (k : ℕ) → (k == b) ≡ false → v.writers k ≡ w.writers k

-- the world once a writer came into this state by what it took
abbrev pub heard_as : World → ℕ → ℕ → Next → WriterRecord → Event → World
heard_as w b c x n e = named e (apply (up_taken w c x) (writer_change (up_taken w c x) b n))

pub writer-heard : (w : World) (b c : ℕ) (x : Next) (n : WriterRecord) (e : Event) → WriterHeard w (heard_as w b c x n e) b (writing_as n (w.writers b).conn)
unfolding apply up_taken
writer-heard w b c x n e = record {
  nodes = refl;
  office = refl;
  latest = λ k. refl;
  written = λ s. add-none w.written 0 s;
  said = λ k. add-none w.said b k;
  replicas = λ m k. at-same w.replicas 0 0 m k;
  writer = put-here w.writers b (writing_as n (w.writers b).conn);
  writers = λ k other. put-else w.writers b (writing_as n (w.writers b).conn) k other;
}

-- The event is what the writer makes of what stands next.
pub up-is : (w : World) (c : ConnId) (b : ℕ) (x : Next) → nat_lt c.0 w.next_conn ≡ true → next_up w c.0 ≡ Some x → (w.dialled c.0).upper ≡ by_writer b → (is_conn (w.writers b).conn c.0 && is_none (w.writers b).told) ≡ true
    → happens w (event.Up c) ≡ heard_as w b c.0 x (writer_hears (w.writers b).known x) (event.Up c)
unfolding happens outcome up_taken
up-is w c b x known next upper takes =
    let e : Event = event.Up c in
    ap (λ (q : Bool). after_event w e (if q then up_as w c.0 false (next_up w c.0) else None)) known
    ∙ (ap (λ (o : Option Next). after_event w e (up_as w c.0 false o)) next
    ∙ (ap (λ (u : Upper). after_event w e (changed (up_taken w c.0 x) (upper_up u (up_taken w c.0 x) c.0 x false))) upper
    ∙ ap (λ (q : Bool). after_event w e (changed (up_taken w c.0 x) (if q then Some (writer_change (up_taken w c.0 x) b (writer_hears (w.writers b).known x)) else None))) takes))

-- WHAT STAYS

module _ (w v : World) (b : ℕ) (new : Writing) (t : WriterHeard w v b new) (h : HeardWell w b (w.writers b).known new.known) where
  same-for : (k : ℕ) (connected : Bool) → SameFor w v k connected
  same-for k connected = record { office = t.office; latest = t.latest k; written = t.written; replicas = λ _ n. t.replicas n k }

  well-on : (k : ℕ) (x : WriterRecord) → WriterWell w k x → WriterWell v k x
  well-on k x y = record { stream = y.stream; phase_is = well-same w v k x x.phase (same-for k (is_connected x.phase)) y.phase_is }

  pub heard-writers : Writers w → Writers v
  heard-writers y k = go (k == b) refl
    where
      go : (q : Bool) → (k == b) ≡ q → WriterWell v k (v.writers k).known
      go true e = subst (λ (n : ℕ). WriterWell v n (v.writers n).known) (sym (eqb-true k b e)) (subst (λ (z : Writing). WriterWell v b z.known) (sym t.writer) (well-on b new.known h.well))
      go false e = subst (λ (z : Writing). WriterWell v k z.known) (sym (t.writers k e)) (well-on k (w.writers k).known (y k))

  pub heard-same : (k : ℕ) → SameWriter (w.writers k).known (v.writers k).known
  heard-same k = go (k == b) refl
    where
      go : (q : Bool) → (k == b) ≡ q → SameWriter (w.writers k).known (v.writers k).known
      go true e = subst (λ (n : ℕ). SameWriter (w.writers n).known (v.writers n).known) (sym (eqb-true k b e)) (subst (λ (z : Writing). SameWriter (w.writers b).known z.known) (sym t.writer) h.same)
      go false e = subst (λ (z : Writing). SameWriter (w.writers k).known z.known) (sym (t.writers k e)) (record { taken = refl; intake = refl; members = refl; waiting = refl; rule = refl })

  pub heard-ruled : Ruled w → Ruled v
  heard-ruled y k = record {
    each = λ n.
        subst (λ (r : Rule). HasRule r (v.replicas n k)) (sym (heard-same k).rule)
        (subst (λ (r : FullReplica). HasRule (w.writers k).known.stream.rule r) (sym (t.replicas n k)) ((y k).each n));
  }

  pub heard-block : (k : ℕ) → SameBlock w v k
  heard-block k = record {
    nodes = t.nodes;
    taken = (heard-same k).taken;
    intake = (heard-same k).intake;
    members = (heard-same k).members;
    waiting = (heard-same k).waiting;
    said = t.said k;
    bytes = t.written (v.latest k) ∙ ap w.written (t.latest k);
  }
