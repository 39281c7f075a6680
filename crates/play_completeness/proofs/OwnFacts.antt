-- What is due of a writer keeps that commands name nodes of the world, and that replicas have their writers' rules.
use Rattle.std.proofs.Common.{◌≡◌, ℕ, true, List, [], ◌∷◌, ◌++◌, slice_get, Option, None, IfSome, Ok, sym, ◌∙◌, ap, subst}
use Rattle.std.proofs.lemmas.Option.{none-some, same_Some}
use Rattle.hd_base.specs.SumRules.{default_rule}
use Rattle.hd_base.specs.declared.numbers.NodeId.{NodeId}
use Rattle.writer_core.specs.declared.actions.Action.{Action}
use Rattle.writer_core.specs.declared.actions.Action.TheVariants as action
use Rattle.writer_core.specs.declared.commands.Command.{Command}
use Rattle.writer_core.specs.declared.commands.Command.TheVariants as command
use Rattle.writer_core.specs.declared.intake.Intake.{Intake}
use Rattle.writer_core.specs.declared.records.WriterRecord.{WriterRecord}
use Rattle.writer_core.specs.Commands.{admitted}
use Rattle.writer_core.specs.Transitions.{fresh}
use Rattle.world.specs.declared.events.Event.{Event}
use Rattle.world.specs.declared.events.TakenCommand.{TakenCommand}
use Rattle.world.specs.Worlds.{World, start}
use Rattle.world.specs.Primaries.{writer_asks_office}
use Rattle.world.specs.Clients.{own_writer}
use Rattle.world.specs.Events.{outcome, happens, run}
use Rattle.world_laws.specs.Carrying.{WriterSays}
use Rattle.world_laws.specs.Stamping.{none_given, given_in}
use Rattle.world_laws.proofs.AllCarried.{all-carried}
use Rattle.world_laws.proofs.RunLaws.{runs-join, runs-end}
use Rattle.play_model.specs.States.{PlayState, world_of}
use Rattle.play_model.specs.Dues.{asking, acting, own_events, action_of, after_due}
use Rattle.play_scripts.specs.PlayLaws.Members.{IsNode, Names, AllName}
use Rattle.play_scripts.proofs.PlayLaws.Commanding.{creates-first}
use Rattle.play_scripts.proofs.PlayLaws.Running.{all-run}
use Rattle.play_completeness.specs.Formed.{Ruled}
use Rattle.play_completeness.specs.Keeping.{OwnKeepsNames}
use Rattle.play_completeness.specs.Played.{QueueFits, Played}
use Rattle.play_completeness.specs.Writers.{WellIn}
use Rattle.play_completeness.proofs.Awaiting.{plain-keeps-nodes}
use Rattle.play_completeness.proofs.OwnRules.{FindsNone, ruled-changed, own-rules, office-rules}

-- NAMES

names-join : (Of : NodeId → Type 0) (events others : List Event) → AllName Of events → AllName Of others → AllName Of (events ++ others)
names-join Of [] others h k = k
names-join Of (x ∷ events) others h k = (h.0, names-join Of events others h.1 k)

-- the command that is taken names nodes
first-names : (nodes : ℕ) (i : Intake) (queue : List TakenCommand) → QueueFits nodes i queue → IfSome (slice_get queue 0) (λ t. Names (IsNode nodes) t.command)
first-names nodes i [] h = tt
first-names nodes i (t ∷ queue) h = h.1

own-names : (nodes : ℕ) (i : Intake) (a : Action) (b : ℕ) (queue : List TakenCommand) → QueueFits nodes i queue → AllName (IsNode nodes) (own_events a b queue)
own-names nodes i action.Wait b queue h = (first-names nodes i queue h, tt)
own-names nodes i (action.Ask c) b queue h = (tt, (tt, tt))
own-names nodes i action.Took b queue h = (tt, tt)
own-names nodes i (action.Dial to r) b queue h = (tt, tt)
own-names nodes i (action.Send p) b queue h = (tt, tt)
own-names nodes i (action.Answered n c) b queue h = (tt, tt)
own-names nodes i action.Memory b queue h = (tt, tt)

-- RULES

module _ (nodes : ℕ) (events : List Event) (b : ℕ) where
  abbrev w : World
  w = run (start nodes) events

  says : WriterSays (given_in none_given (start nodes) events) w.past b (w.latest b) (w.writers b)
  says = (all-carried nodes events).writers b

  acts-ruled : (takes : Option TakenCommand) → FindsNone w b takes → Ruled w → Ruled (happens w (acting b takes))
  unfolding happens outcome
  acts-ruled takes none h = ruled-changed w b (acting b takes) (own_writer w b takes true) (own-rules w b takes says.sound none) h

  asks-ruled : Ruled w → Ruled (happens w (asking b))
  unfolding happens outcome
  asks-ruled h = ruled-changed w b (asking b) (writer_asks_office w b) (office-rules w b) h

takes-none : (w : World) (b : ℕ) → FindsNone w b None
takes-none w b t members e c = absurd (none-some t e)

-- one step, or an answer of the office and what follows it
both-ruled : (nodes : ℕ) (events : List Event) (b : ℕ) → Ruled (run (start nodes) events) → Ruled (happens (happens (run (start nodes) events) (asking b)) (acting b None))
both-ruled nodes events b h =
    let is : happens (run (start nodes) events) (asking b) ≡ run (start nodes) (events ++ asking b ∷ []) = sym (runs-end (start nodes) events (asking b)) in
    subst (λ (v : World). Ruled (happens v (acting b None))) (sym is)
    (acts-ruled nodes (events ++ asking b ∷ []) b None (takes-none (run (start nodes) (events ++ asking b ∷ [])) b) (subst Ruled is (asks-ruled nodes events b h)))

own-ruled : (nodes : ℕ) (events : List Event) (b : ℕ) (a : Action) (queue : List TakenCommand) → FindsNone (run (start nodes) events) b (slice_get queue 0) → Ruled (run (start nodes) events) → Ruled (run (run (start nodes) events) (own_events a b queue))
own-ruled nodes events b action.Wait queue none h = acts-ruled nodes events b (slice_get queue 0) none h
own-ruled nodes events b (action.Ask c) queue none h = both-ruled nodes events b h
own-ruled nodes events b action.Took queue none h = acts-ruled nodes events b None (takes-none (run (start nodes) events) b) h
own-ruled nodes events b (action.Dial to r) queue none h = acts-ruled nodes events b None (takes-none (run (start nodes) events) b) h
own-ruled nodes events b (action.Send p) queue none h = acts-ruled nodes events b None (takes-none (run (start nodes) events) b) h
own-ruled nodes events b (action.Answered n c) queue none h = acts-ruled nodes events b None (takes-none (run (start nodes) events) b) h
own-ruled nodes events b action.Memory queue none h = acts-ruled nodes events b None (takes-none (run (start nodes) events) b) h

-- PLAYS

module _ (p : PlayState) (commands : ℕ → List Command) (h : Played p commands) (b : ℕ) where
  -- where a create is the next command, nobody has a replica of the block
  next-finds : (queue : List TakenCommand) → QueueFits (world_of p).nodes ((world_of p).writers b).known.intake queue → FindsNone (world_of p) b (slice_get queue 0)
  next-finds [] q t members e c = absurd (none-some t e)
  next-finds (x ∷ queue) q t members e c =
      let w : World = world_of p in
      let same : x.command ≡ command.Create members = ap (λ (y : TakenCommand). y.command) (same_Some x t e) ∙ c in
      let taken : admitted (w.writers b).known.intake (command.Create members) ≡ Ok q.2 = ap (admitted (w.writers b).known.intake) (sym same) ∙ q.3 in
      let first : (w.writers b).known ≡ fresh (record { 0 = b }) default_rule = creates-first p.nodes p.events b members q.2 taken in
      let well : WellIn w b (fresh (record { 0 = b }) default_rule) (fresh (record { 0 = b }) default_rule).phase = subst (λ (y : WriterRecord). WellIn w b y y.phase) first (h.writers b).phase_is in
      well.1.none

pub own-keeps : OwnKeepsNames
unfolding after_due
own-keeps p commands b h names ruled =
    let w : World = world_of p in
    let a : Action = action_of w b in
    let queue : List TakenCommand = p.queues b.0 in
    let fits = (h.blocks b.0).queued in
    let nodes : w.nodes ≡ p.nodes = (all-run p.nodes p.events (plain-keeps-nodes p.events h.plain)).nodes_are in (
      record { few = names.few; named = names-join (IsNode p.nodes) p.events (own_events a b.0 queue) names.named (subst (λ (n : ℕ). AllName (IsNode n) (own_events a b.0 queue)) nodes (own-names w.nodes (w.writers b.0).known.intake a b.0 queue fits)) },
      subst Ruled (sym (runs-join (start p.nodes) p.events (own_events a b.0 queue))) (own-ruled p.nodes p.events b.0 a queue (next-finds p commands h b.0 queue fits) ruled),
    )
