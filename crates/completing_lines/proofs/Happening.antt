-- What is due leaves a play behind the same lines.
use Rattle.std.proofs.Common.{◌≡◌, ℕ, Bool, true, false, List, ◌∷◌, None, refl, sym, ◌∙◌, ap, subst, eqb-true}
use Rattle.std.specs.Prelude.{◌==◌}
use Rattle.std.proofs.lemmas.Bool.{false≢true, eqb-false}
use Rattle.hd_base.specs.declared.numbers.BlockId.{BlockId}
use Rattle.hd_base.specs.declared.numbers.ConnId.{ConnId}
use Rattle.script_lang.specs.Fits.{Before}
use Rattle.writer_core.specs.declared.actions.Action.{Action}
use Rattle.writer_core.specs.declared.actions.Action.TheVariants as action
use Rattle.writer_core.specs.declared.commands.Command.{Command}
use Rattle.writer_core.specs.declared.intake.Intake.{Intake}
use Rattle.writer_core.specs.Transitions.{has_step, is_action}
use Rattle.completing_writers.proofs.PlayCompleteness.ReaderTurns.{asking-beside, hearing-beside}
use Rattle.completing_writers.specs.World.Event.TheVariants as event
use Rattle.completing_writers.specs.World.TakenCommand.{TakenCommand}
use Rattle.completing_writers.specs.World.Parts.{Upper, by_writer, by_member, by_reader, by_primary, Writing}
use Rattle.completing_writers.specs.World.Worlds.{World, start}
use Rattle.completing_writers.specs.World.Events.{happens, run}
use Rattle.completing_writers.proofs.WorldLaws.RunLaws.{runs-join}
use Rattle.completing_writers.proofs.WorldLaws.StampGivens.{put-here, put-there}
use Rattle.play_model.specs.declared.dues.Due.{Due}
use Rattle.play_model.specs.declared.dues.Due.TheVariants as due
use Rattle.play_model.specs.States.{PlayState, world_of}
use Rattle.play_model.specs.Dues.{own_events, queue_left, action_of, is_due, due_events, queues_after, after_due}
use Rattle.play_lines.specs.PlayLaws.Intakes.{intake_of, is_wait}
use Rattle.play_lines.proofs.PlayLaws.Intakes.{own-steps-keep, hearing-keeps-intakes}
use Rattle.play_lines.proofs.PlayLaws.Commanding.{commands-taken}
use Rattle.play_lines.proofs.PlayLaws.Taking.{admitted-is}
use Rattle.play_lines.proofs.PlayNodes.WriterKeeping.{down_keeps, ready_keeps, mirror_keeps}
use Rattle.play_lines.proofs.PlayClients.OtherLaws.{own_steps_keep, hearing_keeps}
use Rattle.play_lines.specs.PlayLaws.Commands.{given_with}
use Rattle.play_lines.specs.Lines.{GivenIs}
use Rattle.play_lines.specs.Showing.{given_in}
use Rattle.completing_writers.specs.PlayCompleteness.Plain.{is_of_primary}
use Rattle.completing_writers.specs.PlayCompleteness.Played.{QueueFits, Played}
use Rattle.completing_writers.specs.Steps.{PlaysWell, is_own}
use Rattle.completing_writers.proofs.AllSteps.{all-steps-keep}
use Rattle.completing_writers.proofs.Delivering.{others-keep}
use Rattle.completing_writers.proofs.Taken.{Queued, queued}
use Rattle.completing_lines.specs.Following.{Follows, OwnStepsFollow, OthersFollow}

-- a writer that has something to do takes nothing of its queue
left-queue : (a : Action) (queue : List TakenCommand) → is_wait a ≡ false → queue_left a queue ≡ queue
left-queue action.Wait queue e = absurd (false≢true (sym e))
left-queue action.Took queue e = refl
left-queue (action.Ask call) queue e = refl
left-queue (action.Dial to req) queue e = refl
left-queue (action.Send p) queue e = refl
left-queue (action.Answered n said) queue e = refl
left-queue action.Memory queue e = refl

wait-is : (a : Action) → is_wait a ≡ true → action.Wait ≡ a
wait-is action.Wait e = refl
wait-is action.Took e = absurd (false≢true e)
wait-is (action.Ask call) e = absurd (false≢true e)
wait-is (action.Dial to req) e = absurd (false≢true e)
wait-is (action.Send p) e = absurd (false≢true e)
wait-is (action.Answered n said) e = absurd (false≢true e)
wait-is action.Memory e = absurd (false≢true e)

module _ (p : PlayState) (commands : ℕ → List Command) (h : Played p commands) where
  abbrev w : World
  w = world_of p

  -- What the writer of a block was given, with what is queued for it then, is what it was.
  abbrev Same : Due → ℕ → Type 0
  Same d b = given_with (intake_of (run w (due_events w p.queues d)) b) (queues_after w p.queues d b) ≡ given_in p b

  -- A WRITER'S OWN STEP

  module _ (b : BlockId) where
    abbrev SameWith : Action → List TakenCommand → Type 0
    SameWith a queue = given_with (intake_of (run w (own_events a b.0 queue)) b.0) (queue_left a queue) ≡ given_with (intake_of w b.0) queue

    -- it takes the command that is queued first,
    taken : (t : TakenCommand) (rest : List TakenCommand) → has_step (w.writers b.0).known ≡ false → (w.writers b.0).known.waiting ≡ None → QueueFits w.nodes (intake_of w b.0) (t ∷ rest) → SameWith action.Wait (t ∷ rest)
    taken t rest idle free fit =
        ap (λ (j : Intake). given_with j rest)
        ((commands-taken p.nodes p.events b.0 t fit.2 (record { told = h.quiet b.0; idle = idle; free = free; formed = fit.0; admits = fit.3 })).intake ∙ (admitted-is (intake_of w b.0) fit.2 t.command fit.3).is)

    takes : action.Wait ≡ action_of w b → is_due w p.queues (due.Own b) ≡ true → SameWith action.Wait (p.queues b.0)
    takes next is =
        let idle : has_step (w.writers b.0).known ≡ false = ap is_action (sym next) in
        let q : Queued (w.writers b.0).known (p.queues b.0) = queued (w.writers b.0) (p.queues b.0) idle is in
        subst (SameWith action.Wait) (sym q.are) (taken q.first q.rest idle q.free (subst (QueueFits w.nodes (intake_of w b.0)) q.are (h.blocks b.0).queued))

    -- or does something else
    acts : is_wait (action_of w b) ≡ false → SameWith (action_of w b) (p.queues b.0)
    acts other =
        ap (given_with (intake_of (run w (own_events (action_of w b) b.0 (p.queues b.0))) b.0)) (left-queue (action_of w b) (p.queues b.0) other)
        ∙ ap (λ (j : Intake). given_with j (p.queues b.0)) (own-steps-keep p.nodes p.events p.queues b other)

    steps : is_due w p.queues (due.Own b) ≡ true → SameWith (action_of w b) (p.queues b.0)
    steps is = go (is_wait (action_of w b)) refl
      where
        go : (q : Bool) → is_wait (action_of w b) ≡ q → SameWith (action_of w b) (p.queues b.0)
        go true e = let next : action.Wait ≡ action_of w b = wait-is (action_of w b) e in subst (λ (a : Action). SameWith a (p.queues b.0)) next (takes next is)
        go false e = acts e

    here : is_due w p.queues (due.Own b) ≡ true → Same (due.Own b) b.0
    here is = ap (given_with (intake_of (run w (due_events w p.queues (due.Own b))) b.0)) (put-here p.queues b.0 (queue_left (action_of w b) (p.queues b.0))) ∙ steps is

    there : (k : ℕ) → (k ≡ b.0 → ⊥) → Same (due.Own b) k
    there k apart =
        ap (given_with (intake_of (run w (due_events w p.queues (due.Own b))) k)) (put-there p.queues b.0 (queue_left (action_of w b) (p.queues b.0)) k apart)
        ∙ ap (λ (x : Writing). given_with x.known.intake (p.queues k)) ((own_steps_keep w p.queues b).0.writers k apart)

    pub own-same : is_due w p.queues (due.Own b) ≡ true → (k : ℕ) → Same (due.Own b) k
    own-same is k = go (k == b.0) refl
      where
        go : (q : Bool) → (k == b.0) ≡ q → Same (due.Own b) k
        go true e = subst (Same (due.Own b)) (sym (eqb-true k b.0 e)) (here is)
        go false e = there k (eqb-false k b.0 e)

  -- MEMBERS, AND WHAT WRITERS HEAR

  heard : (c : ConnId) (a b : ℕ) → (w.dialled c.0).upper ≡ by_writer a → intake_of (happens w (event.Up c)) b ≡ intake_of w b
  heard c a b e = go (b == a) refl
    where
      go : (q : Bool) → (b == a) ≡ q → intake_of (happens w (event.Up c)) b ≡ intake_of w b
      go true same = hearing-keeps-intakes p.nodes p.events c b (e ∙ ap by_writer (sym (eqb-true b a same)))
      go false other = ap (λ (x : Writing). x.known.intake) ((hearing_keeps w c a e).0.writers b (eqb-false b a other))

  up : (c : ConnId) (b : ℕ) (u : Upper) → (w.dialled c.0).upper ≡ u → is_of_primary u ≡ false → intake_of (happens w (event.Up c)) b ≡ intake_of w b
  up c b (by_writer a) e one = heard c a b e
  up c b (by_member d) e one = ap (λ (x : Writing). x.known.intake) ((mirror_keeps w c d e).writers b)
  up c b (by_reader i) e one = ap (λ (x : Writing). x.known.intake) ((hearing-beside p.nodes p.events c i e).writers b)
  up c b (by_primary i place) e one = absurd (false≢true (sym one))

  pub other-same : (d : Due) → is_own d ≡ false → (b : ℕ) → Same d b
  other-same (due.Own a) other b = absurd (false≢true (sym other))
  other-same (due.Reader ask) other b = ap (λ (x : Writing). given_with x.known.intake (p.queues b)) ((asking-beside w ask).writers b)
  other-same (due.Primary r) other b = absurd (false≢true (sym other))
  other-same (due.Down c) other b = ap (λ (x : Writing). given_with x.known.intake (p.queues b)) ((down_keeps w c true).writers b)
  other-same (due.Ready c) other b = ap (λ (x : Writing). given_with x.known.intake (p.queues b)) ((ready_keeps w c).writers b)
  other-same (due.Up c) other b = ap (λ (j : Intake). given_with j (p.queues b)) (up c b (w.dialled c.0).upper refl (h.peaceful.uppers c.0))

  -- THE PLAY

  after-is : (d : Due) (b : ℕ) → Same d b → given_in (after_due p d) b ≡ given_in p b
  unfolding after_due
  after-is d b e = ap (λ (v : World). given_with (intake_of v b) (queues_after w p.queues d b)) (runs-join (start p.nodes) p.events (due_events w p.queues d)) ∙ e

  pub follows-after : (before : Before) (lines : ℕ) (d : Due) → Follows before lines p commands → PlaysWell (after_due p d) commands → ((b : ℕ) → Same d b) → Follows before lines (after_due p d) commands
  unfolding after_due
  follows-after before lines d f well same = record {
    well = well;
    nodes = f.nodes;
    written = f.written;
    chunks = f.chunks;
    given = λ b. subst (GivenIs before lines b) (sym (after-is d b (same b))) (f.given b);
    bytes = f.bytes;
  }

pub own-steps-follow : OwnStepsFollow
own-steps-follow before lines p commands b h is =
    follows-after p commands h.well.played before lines (due.Own b) h (all-steps-keep p commands b h.well is) (own-same p commands h.well.played b is)

pub others-follow : OthersFollow
others-follow before lines p commands d other h played =
    follows-after p commands h.well.played before lines d h (others-keep p commands d other h.well played) (other-same p commands h.well.played d other)
