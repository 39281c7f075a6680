-- Where a writer takes no command its intake stays.
use Rattle.std.proofs.Common.{◌≡◌, ℕ, Bool, true, false, List, [], Option, Some, None, IfSome, refl, sym, subst}
use Rattle.std.specs.Prelude.{◌&&◌, nat_lt, is_none}
use Rattle.std.proofs.lemmas.Bool.{false≢true}
use Rattle.hd_base.specs.declared.numbers.ConnId.{ConnId}
use Rattle.hd_base.specs.declared.numbers.NodeId.{NodeId}
use Rattle.op_headers.specs.declared.ops.Op.{Op}
use Rattle.writer_core.specs.declared.actions.Action.{Action}
use Rattle.writer_core.specs.declared.actions.Action.TheVariants as action
use Rattle.writer_core.specs.declared.intake.Intake.{Intake}
use Rattle.writer_core.specs.declared.phases.Phase.{Phase}
use Rattle.writer_core.specs.declared.phases.Phase.TheVariants as phase
use Rattle.writer_core.specs.declared.phases.Waiting.{Waiting}
use Rattle.writer_core.specs.declared.records.WriterRecord.{WriterRecord}
use Rattle.writer_core.specs.Transitions.{own_step, open_step, completed_step, dial_step, granted}
use Rattle.world.specs.declared.events.Event.{Event}
use Rattle.world.specs.declared.events.Event.TheVariants as event
use Rattle.world.specs.declared.events.TakenCommand.{TakenCommand}
use Rattle.world.specs.Parts.{Upper, by_writer, Told, Writing}
use Rattle.world.specs.Worlds.{World, Change, apply, start}
use Rattle.world.specs.Connections.{Next, next_up, up_taken, is_conn}
use Rattle.world.specs.Clients.{did, dialled_change, dialling, rest_in, own_writer, writer_step, writer_up}
use Rattle.world.specs.Primaries.{writer_asks, writer_asks_office}
use Rattle.world.specs.Events.{changed, upper_up, up_as, outcome, after_event, happens, run}
use Rattle.play_model.proofs.WorldLaws.FactTables.{put-each, when-each}
use Rattle.play_model.specs.Dues.{asking, acting, own_events, action_of}
use Rattle.play_laws.specs.Intakes.{is_wait, intake_of, OwnStepsKeepIntakes, HearingKeepsIntakes}
use Rattle.play_laws.proofs.Queues.{Still, own-still, hears-still, dialled-still, granted-still}
use Rattle.play_laws.proofs.Resting.{all-rest}

module _ (b : ℕ) (i : Intake) where
  -- the block's writer has this intake, and was given no command that it hasn't taken
  abbrev Keeps : World → Type 0
  Keeps v = Still i (v.writers b).known

  -- a change of this writer alone leaves it so
  abbrev Leaves : Change → Type 0
  Leaves k = (k.writer_at ≡ b) × Still i k.writer.known

  module _ (w : World) where
    -- STEPS

    did-leaves : (waits : Option Waiting) (a : Action) (x : WriterRecord) (bytes : List ℕ) → Still i x → IfSome (did w b waits a x bytes) Leaves
    did-leaves waits action.Took x bytes h = (refl, h)
    did-leaves waits (action.Send p) x bytes h = (refl, h)
    did-leaves waits (action.Answered k said) x bytes h = (refl, h)
    did-leaves waits action.Wait x bytes h = tt
    did-leaves waits (action.Ask c) x bytes h = tt
    did-leaves waits (action.Dial to r) x bytes h = tt
    did-leaves waits action.Memory x bytes h = tt

    dialled-leaves : (x : WriterRecord) (to : NodeId) (r : Op) (answered : Bool) → Still i x → Leaves (dialled_change w b x to r answered)
    dialled-leaves x to r true h = (refl, dialled-still i x true h)
    dialled-leaves x to r false h = (refl, dialled-still i x false h)

    dialling-leaves : (x : WriterRecord) (a : Action) (answered : Bool) → Still i x → Leaves (dialling w b x a answered)
    dialling-leaves x (action.Dial to r) answered h = dialled-leaves x to r (answered && w.running to.0) h
    dialling-leaves x action.Wait answered h = (refl, h)
    dialling-leaves x action.Took answered h = (refl, h)
    dialling-leaves x (action.Ask c) answered h = (refl, h)
    dialling-leaves x (action.Send p) answered h = (refl, h)
    dialling-leaves x (action.Answered k said) answered h = (refl, h)
    dialling-leaves x action.Memory answered h = (refl, h)

    rest-leaves : (p : Phase) (x : WriterRecord) (answered : Bool) → Still i x → IfSome (rest_in p w b x answered) Leaves
    rest-leaves (phase.Stamped s stamp) x answered h = dialling-leaves x (dial_step x s stamp).action answered h
    rest-leaves phase.Opened x answered h = did-leaves x.waiting (open_step x).action (open_step x).writer [] h
    rest-leaves phase.Completed x answered h = did-leaves x.waiting (completed_step x).action (completed_step x).writer [] h
    rest-leaves phase.Closed x answered h = (refl, h)
    rest-leaves (phase.Wanted s) x answered h = (refl, h)
    rest-leaves (phase.Requested s stamp) x answered h = (refl, h)
    rest-leaves (phase.Accepted s stamp) x answered h = (refl, h)
    rest-leaves (phase.Streaming n) x answered h = (refl, h)
    rest-leaves phase.Closing x answered h = (refl, h)
    rest-leaves phase.Finished x answered h = (refl, h)
    rest-leaves (phase.Failed f) x answered h = (refl, h)

    step-leaves : (x : WriterRecord) (told : Option Told) (answered : Bool) → Still i x → IfSome (writer_step w b x told None answered) Leaves
    step-leaves x (Some t) answered h = rest-leaves (granted x t).phase (granted x t) answered (granted-still i x t h)
    step-leaves x None answered h = did-leaves x.waiting (own_step x).action (own_step x).writer [] (own-still i x h)

    up-leaves : (c : ℕ) (n : Next) → Keeps w → IfSome (writer_up w b c n) Leaves
    up-leaves c n h = when-each Leaves (is_conn (w.writers b).conn c && is_none (w.writers b).told) _ (λ _. (refl, hears-still i (w.writers b).known n h))

    asks-leaves : (a : Action) → Keeps w → IfSome (writer_asks a w b) Leaves
    asks-leaves (action.Ask c) h = (refl, h)
    asks-leaves action.Wait h = tt
    asks-leaves action.Took h = tt
    asks-leaves (action.Dial to r) h = tt
    asks-leaves (action.Send p) h = tt
    asks-leaves (action.Answered k said) h = tt
    asks-leaves action.Memory h = tt

    office-leaves : Keeps w → IfSome (writer_asks_office w b) Leaves
    office-leaves h = when-each Leaves (is_none (w.writers b).told) _ (λ _. asks-leaves (own_step (w.writers b).known).action h)

    -- WORLDS

    -- the writer at this place
    abbrev At : ℕ → Writing → Type 0
    At j x = j ≡ b → Still i x.known

    others : Keeps w → (j : ℕ) → At j (w.writers j)
    others h j e = subst (λ (k : ℕ). Still i (w.writers k).known) (sym e) h

    apply-keeps : (k : Change) → Keeps w → Leaves k → Keeps (apply w k)
    unfolding apply
    apply-keeps k h n = put-each At w.writers k.writer_at k.writer (λ _. n.1) (others h) b refl

    changed-keeps : (o : Option Change) → Keeps w → IfSome o Leaves → IfSome (changed w o) Keeps
    changed-keeps None h n = tt
    changed-keeps (Some k) h n = apply-keeps k h n

  after-keeps : (w : World) (e : Event) (o : Option World) → Keeps w → IfSome o Keeps → Keeps (after_event w e o)
  after-keeps w e None h n = h
  after-keeps w e (Some v) h n = n

  -- EVENTS

  asking-keeps : (w : World) → Keeps w → Keeps (happens w (asking b))
  unfolding happens outcome
  asking-keeps w h = after-keeps w (asking b) (changed w (writer_asks_office w b)) h (changed-keeps w (writer_asks_office w b) h (office-leaves w h))

  acting-keeps : (w : World) → Keeps w → Keeps (happens w (acting b None))
  unfolding happens outcome
  acting-keeps w h = after-keeps w (acting b None) (changed w (own_writer w b None true)) h (changed-keeps w (own_writer w b None true) h (step-leaves w (w.writers b).known (w.writers b).told true h))

  up-taken-keeps : (w : World) (c : ℕ) (x : Next) → Keeps w → Keeps (up_taken w c x)
  unfolding up_taken
  up-taken-keeps w c x h = h

  unless-keeps : (w : World) (c : ℕ) (x : Next) → Keeps w → IfSome (upper_up (by_writer b) w c x false) Leaves
  unless-keeps w c x h = up-leaves w c x h

  up-as-keeps : (w : World) (c : ℕ) (o : Option Next) → (w.dialled c).upper ≡ by_writer b → Keeps w → IfSome (up_as w c false o) Keeps
  up-as-keeps w c None e h = tt
  up-as-keeps w c (Some x) e h =
      let v : World = up_taken w c x in
      let kept : Keeps v = up-taken-keeps w c x h in
      subst (λ (u : Upper). IfSome (changed v (upper_up u v c x false)) Keeps) (sym e) (changed-keeps v (upper_up (by_writer b) v c x false) kept (unless-keeps v c x kept))

  hearing-keeps : (w : World) (conn : ConnId) → (w.dialled conn.0).upper ≡ by_writer b → Keeps w → Keeps (happens w (event.Up conn))
  unfolding happens outcome
  hearing-keeps w conn e h = after-keeps w (event.Up conn) _ h (when-each Keeps (nat_lt conn.0 w.next_conn) _ (λ _. up-as-keeps w conn.0 (next_up w conn.0) e h))

  own-keeps : (w : World) (a : Action) (queue : List TakenCommand) → is_wait a ≡ false → Keeps w → Keeps (run w (own_events a b queue))
  own-keeps w action.Wait queue e h = absurd (false≢true (sym e))
  own-keeps w (action.Ask c) queue e h = acting-keeps (happens w (asking b)) (asking-keeps w h)
  own-keeps w action.Took queue e h = acting-keeps w h
  own-keeps w (action.Dial to r) queue e h = acting-keeps w h
  own-keeps w (action.Send p) queue e h = acting-keeps w h
  own-keeps w (action.Answered k said) queue e h = acting-keeps w h
  own-keeps w action.Memory queue e h = acting-keeps w h

pub own-steps-keep : OwnStepsKeepIntakes
own-steps-keep nodes events queues block e =
    let w : World = run (start nodes) events in
    (own-keeps block.0 (intake_of w block.0) w (action_of w block) (queues block.0) e ((all-rest nodes events block.0).queue, refl)).1

pub hearing-keeps-intakes : HearingKeepsIntakes
hearing-keeps-intakes nodes events conn b e =
    let w : World = run (start nodes) events in
    (hearing-keeps b (intake_of w b) w conn e ((all-rest nodes events b).queue, refl)).1
