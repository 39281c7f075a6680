-- A writer asks the office: the world once the office has answered, and once the writer has gone on with the answer.
use Rattle.std.proofs.Common.{◌≡◌, ℕ, true, false, List, [], ◌++◌, Option, Some, None, refl, sym, ◌∙◌, ap, subst, ◌⊎◌, inl, inr}
use Rattle.std.specs.Prelude.{◌==◌, is_none, if◌then◌else◌}
use Rattle.std.specs.BTreeMap.{is_at}
use Rattle.std.proofs.lemmas.Bool.{false≢true}
use Rattle.std.proofs.lemmas.List.{append-nil}
use Rattle.hd_base.specs.declared.numbers.BlockId.{BlockId}
use Rattle.name_core.specs.declared.calls.OfficeCall.{OfficeCall}
use Rattle.name_core.specs.Offices.{block_order, record_of, office_after, answer_to}
use Rattle.name_core.proofs.BlockLemmas.{same_or_other}
use Rattle.writer_core.specs.declared.actions.Action.{Action}
use Rattle.writer_core.specs.declared.actions.Action.TheVariants as action
use Rattle.writer_core.specs.declared.records.WriterRecord.{WriterRecord}
use Rattle.writer_core.specs.Transitions.{own_step, granted}
use Rattle.world.specs.Parts.{Told, Writing, Said}
use Rattle.world.specs.Worlds.{World, Change, add, latest_with, apply}
use Rattle.world.specs.Clients.{writer_step, rest_change}
use Rattle.world.specs.Primaries.{stamped_by, base_of, session_begun, office_change, writer_asks}
use Rattle.world.specs.Events.{changed, outcome, after_event, happens, run}
use Rattle.world_laws.proofs.OfficeSteps.{block_in, keeps-other}
use Rattle.play_completeness.proofs.WorldOrders.Kept.{eqb-itself}
use Rattle.play_model.specs.Dues.{Queues, asking, acting, own_events, action_of}
use Rattle.play_completeness.proofs.TurnWorld.{named}
use Rattle.completing_writers.proofs.Leaving.{Aside, Unsent, OfWriter, aside-of, unsent-of, said-here, happens-own, aside-then}
use Rattle.completing_writers.proofs.Doing.{Did}

-- the office answers the writer of a block so
abbrev pub asks_as : World → ℕ → OfficeCall → Told → Change
asks_as w b c told = record (office_change w c told) {
  writer_at = b;
  writer = record (w.writers b) { told = Some told };
}

-- the world then
abbrev pub told_world : World → ℕ → OfficeCall → Told → World
told_world w b c told = named (asking b) (apply w (asks_as w b c told))

abbrev pub told_writer : World → ℕ → Told → Writing
told_writer w b told = record (w.writers b) { told = Some told }

module _ (w : World) (b : ℕ) (c : OfficeCall) (told : Told) (block : block_in c ≡ record { 0 = b }) where
  -- what the office has of other blocks
  entry-same : (n : ℕ) → (n == b) ≡ false → record_of (office_after w.office c) (record { 0 = n }) ≡ record_of w.office (record { 0 = n })
  entry-same n other = keeps-other w.office c (record { 0 = n }) (go (same_or_other (block_in c) (record { 0 = n })))
    where
      go : (block_in c ≡ record { 0 = n }) ⊎ (is_at (block_order (record { 0 = n })) (block_in c) ≡ false) → is_at (block_order (record { 0 = n })) (block_in c) ≡ false
      go (inr e) = e
      go (inl e) =
          let same : b ≡ n = ap (λ (q : BlockId). q.0) (sym block ∙ e) in
          absurd (false≢true (sym other ∙ subst (λ (k : ℕ). (n == k) ≡ true) (sym same) (eqb-itself n)))

  -- what it leaves of the sessions
  pub record Begins : Type 0 where
    pub others : (n : ℕ) → (n == b) ≡ false → add w.written (session_begun (stamped_by w c told)) (base_of w told) (latest_with w.latest (stamped_by w c told) n) ≡ w.written (w.latest n)
    pub unused : add w.written (session_begun (stamped_by w c told)) (base_of w told) 0 ≡ w.written 0

  of-asking : Begins → OfWriter w (asks_as w b c told) b
  of-asking x = record {
    place = refl;
    replica = refl;
    lower = refl;
    ups = λ k. refl;
    shuts = λ k. refl;
    entries = entry-same;
    written = x.others;
    unused = x.unused;
  }

  -- what the office's answer leaves
  pub asks-aside : Begins → Aside w (told_world w b c told) b (told_writer w b told)
  asks-aside x = aside-of w (asks_as w b c told) b (asking b) (of-asking x)

  pub asks-unsent : Unsent w (told_world w b c told)
  asks-unsent = unsent-of w (asks_as w b c told) b (asking b) refl (λ k. refl)

  pub asks-office : (told_world w b c told).office ≡ office_after w.office c
  unfolding apply
  asks-office = refl

  pub asks-running : (told_world w b c told).running ≡ w.running
  unfolding apply
  asks-running = refl

  pub asks-said : (told_world w b c told).said b ≡ w.said b
  asks-said = said-here w (asks_as w b c told) b (asking b) refl ∙ append-nil (w.said b)

  pub asks-written : (told_world w b c told).written ((told_world w b c told).latest b) ≡ add w.written (session_begun (stamped_by w c told)) (base_of w told) (latest_with w.latest (stamped_by w c told) b)
  unfolding apply
  asks-written = refl

-- THE EVENTS

-- the office's answer
pub happens-asking : (w : World) (b : ℕ) (c : OfficeCall) (told : Told) → (w.writers b).told ≡ None → (own_step (w.writers b).known).action ≡ action.Ask c → answer_to w.office c ≡ told → happens w (asking b) ≡ told_world w b c told
unfolding happens outcome
happens-asking w b c told quiet asks answer =
    ap (λ (o : Option Change). after_event w (asking b) (changed w o))
    (ap (λ (o : Option Told). if is_none o then writer_asks (own_step (w.writers b).known).action w b else None) quiet
    ∙ (ap (λ (a : Action). writer_asks a w b) asks ∙ ap (λ (t : Told). Some (asks_as w b c t)) answer))

-- and what the writer does with it
pub happens-then : (u : World) (b : ℕ) (x : WriterRecord) (told : Told) (k : Change) → (u.writers b).known ≡ x → (u.writers b).told ≡ Some told → rest_change u b (granted x told) true ≡ Some k → happens u (acting b None) ≡ named (acting b None) (apply u k)
happens-then u b x told k known waits goes =
    happens-own u b None k
    (ap (λ (o : Option Told). writer_step u b (u.writers b).known o None true) waits ∙ (ap (λ (z : WriterRecord). rest_change u b (granted z told) true) known ∙ goes))

-- both, one after the other
pub asks-then : (w v : World) (queues : Queues) (b : BlockId) (c : OfficeCall) (told : Told) → action_of w b ≡ action.Ask c → happens w (asking b.0) ≡ told_world w b.0 c told → happens (told_world w b.0 c told) (acting b.0 None) ≡ v
    → run w (own_events (action_of w b) b.0 (queues b.0)) ≡ v
asks-then w v queues b c told next first second =
    ap (λ (a : Action). run w (own_events a b.0 (queues b.0))) next ∙ (ap (λ (z : World). happens z (acting b.0 None)) first ∙ second)

-- WHAT WAS DONE IN BOTH

-- where the office's answer leaves what the block's latest session has
pub did-then : (w u v : World) (b : ℕ) (m n : Writing) (said : List Said) → Unsent w u → Aside w u b m → u.said b ≡ w.said b → u.written (u.latest b) ≡ w.written (w.latest b) → Did u v b n said [] → Did w v b n said []
did-then w u v b m n said s a none same d = record {
  aside = aside-then w u v b m n s a d.aside;
  answered = d.answered ∙ ap (λ (l : List Said). l ++ said) none;
  wrote = d.wrote ∙ ap (λ (l : List ℕ). l ++ []) same;
}
