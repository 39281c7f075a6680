-- What a writer's own step asks of the world of a play holds of it.
use Rattle.std.proofs.Common.{◌≡◌, ℕ, ◌≤◌, ◌<◌, ◌+◌, Bool, true, false, List, [], ◌∷◌, slice_get, Option, Some, None, IfSome, Ok, refl, sym, ap, ◌∙◌, subst, arith}
use Rattle.std.specs.Prelude.{◌==◌, ◌&&◌, ◌||◌, not, length, is_some, is_none}
use Rattle.hd_base.specs.declared.links.LinkIn as link_in
use Rattle.hd_base.specs.declared.links.LinkOut as link_out
use Rattle.hd_base.specs.declared.numbers.ConnId.{ConnId}
use Rattle.hd_base.specs.declared.numbers.NodeId.{NodeId}
use Rattle.hd_base.specs.declared.roads.TheConstants.{FIRST_PORT, MAX_NODES}
use Rattle.node_starts.specs.MemberCore.TheConstants.{MAX_PORT}
use Rattle.road_traffic.specs.Showing.{Net}
use Rattle.writer_core.specs.declared.actions.Action.{Action}
use Rattle.writer_core.specs.declared.actions.Action.TheVariants as action
use Rattle.writer_core.specs.declared.commands.Command.{Command}
use Rattle.writer_core.specs.declared.commands.Command.TheVariants as command
use Rattle.writer_core.specs.declared.intake.Intake.{Intake}
use Rattle.writer_core.specs.declared.phases.Phase.{Phase}
use Rattle.writer_core.specs.declared.phases.Phase.TheVariants as phase
use Rattle.writer_core.specs.declared.phases.Setup.TheVariants as setup
use Rattle.writer_core.specs.declared.records.WriterRecord.{WriterRecord}
use Rattle.writer_core.specs.Commands.{admitted, intake_after, is_unmade}
use Rattle.writer_core.specs.Transitions.{own_step, has_step, is_connected}
use Rattle.world.specs.declared.events.Event.{Event}
use Rattle.world.specs.declared.events.TakenCommand.{TakenCommand}
use Rattle.world.specs.Worlds.{World, start}
use Rattle.world.specs.Parts.{Told}
use Rattle.world.specs.Enabled.{is_deed, is_question, acts_with}
use Rattle.world.specs.Events.{happens, is_enabled}
use Rattle.play_model.proofs.WorldLaws.FactTables.{and-left}
use Rattle.play_laws.specs.WorldTexts.Texts.{AllFit}
use Rattle.play_model.specs.declared.dues.Due.TheVariants as due
use Rattle.play_model.specs.Dues.{Queues, is_due, asking, acting, own_events}
use Rattle.play_laws.specs.Taking.{MayTake, IsTaken}
use Rattle.play_laws.specs.Writers.{needs_members, Rests}
use Rattle.play_laws.proofs.Taking.{admitted-is}
use Rattle.node_stops.specs.WorldNets.Nets.{is_over}
use Rattle.node_stops.specs.MemberEvents.Joining.{SpellDown}
use Rattle.play_dues.specs.ClientEvents.Events.{own_event}
use Rattle.play_dues.specs.ClientEvents.Showing.{awaits}
use Rattle.play_dues.specs.PlayClients.Client.{Client}
use Rattle.play_dues.specs.PlayClients.Course.{Course}
use Rattle.play_dues.specs.PlayClients.Course.TheVariants as course
use Rattle.play_dues.specs.PlayClients.Clients.{known_of}
use Rattle.play_dues.specs.PlayClients.Courses.{course_of}
use Rattle.play_dues.specs.PlayClients.Events.{IsFirst, CanTake, CanActAlone, CanAskFirst, CanOwnAs, CanOwn}
use Rattle.play_dues.proofs.PlayClients.CourseLaws.{IsCourse, course_is, takes_is, wanted_so, accepted_so, acts_done}
use Rattle.play_dues.specs.ClientEvents.SettingUp.{IsWanted}
use Rattle.play_dues.specs.ClientEvents.Committing.{IsAccepted}
use Rattle.play.specs.declared.player.Player.{Player}
use Rattle.play.specs.Laws.{Laws}
use Rattle.play.specs.Showing.{IsClient}
use Rattle.play_laws.specs.Commands.{CommandFits, CommandsFit}
use Rattle.play.specs.Standing.{ClientFits, EventsFit, world_of}
use Rattle.play.proofs.Lawful.{spelled}

-- WHAT IT IS

-- a writer that wants a pipeline, and one whose request was accepted, needs members
wanted_needs : (p : Phase) → IsWanted p → needs_members p ≡ true
wanted_needs (phase.Wanted s) h = refl
wanted_needs p h = absurd h

accepted_needs : (p : Phase) → IsAccepted p → needs_members p ≡ true
accepted_needs (phase.Accepted s stamp) h = refl
accepted_needs p h = absurd h

-- where it does something alone it doesn't ask
question_no : (a : Action) (b : ℕ) (queue : List TakenCommand) → own_events a b queue ≡ acting b None ∷ [] → is_question a ≡ false
question_no (action.Ask c) b queue e = cc
question_no action.Wait b queue e = refl
question_no action.Took b queue e = refl
question_no (action.Dial to r) b queue e = refl
question_no (action.Send q) b queue e = refl
question_no (action.Answered k said) b queue e = refl
question_no action.Memory b queue e = refl

deed_so : (a q : Bool) → (a || q) ≡ true → q ≡ false → a ≡ true
deed_so true q h k = refl
deed_so false q h k = cc

-- a writer that waits on the connection of a setup has it
awaits_connected : (p : Phase) → awaits p ≡ true → is_connected p ≡ true
awaits_connected (phase.Requested s stamp) h = refl
awaits_connected (phase.Accepted setup.Create stamp) h = cc
awaits_connected (phase.Accepted setup.Append stamp) h = refl
awaits_connected (phase.Accepted setup.AppendRecovery stamp) h = refl
awaits_connected (phase.Accepted setup.StreamRecovery stamp) h = refl
awaits_connected (phase.Accepted setup.CloseRecovery stamp) h = cc
awaits_connected p h = cc

due_free : (steps waits some : Bool) → (steps || (waits && some)) ≡ true → steps ≡ false → waits ≡ true
due_free true waits some h k = cc
due_free false true some h k = refl
due_free false false some h k = cc

none_so : {A : Type 0} (x : Option A) → is_none x ≡ true → x ≡ None
none_so None e = refl
none_so (Some a) e = cc

no_command : (waits : Bool) (queue : List Command) → queue ≡ [] → (waits && is_some (slice_get queue 0)) ≡ false
no_command true queue e = ap (λ (q : List Command). is_some (slice_get q 0)) e
no_command false queue e = refl

true_false : {A : Type 0} (b : Bool) → b ≡ true → b ≡ false → A
true_false true x y = cc
true_false false x y = cc

-- a create isn't given to a writer that was given one
first_of : (x : WriterRecord) (c : Command) (j k : Intake) → j ≡ x.intake → is_unmade x.intake.stand ≡ false → admitted j c ≡ Ok k → IsFirst (Some x) c
first_of x (command.Create ms) j k same made e = true_false (is_unmade x.intake.stand) (and-left (is_unmade x.intake.stand) (not (length ms == 0)) (admitted-is x.intake k (command.Create ms) (subst (λ (m : Intake). admitted m (command.Create ms) ≡ Ok k) same e)).fits_so) made
first_of x (command.Append ms) j k same made e = tt
first_of x (command.Write bytes) j k same made e = tt
first_of x (command.Fill count) j k same made e = tt
first_of x command.Hflush j k same made e = tt
first_of x command.Hsync j k same made e = tt
first_of x command.Close j k same made e = tt

module _ {F I O : Type 0} (i : link_in.Ghosts I) (o : link_out.Ghosts O) (L : Laws) (nodes : ℕ) (p : Player F I O) (h : EventsFit (start nodes) nodes p.nodes.blocks.items p.events.items) (few : nodes ≤ MAX_NODES) where
  -- the world of the play
  abbrev here : World
  here = world_of nodes p

  spells_on : (e : Event) → AllFit (e ∷ []) → (n : Option ℕ) → IfSome n (SpellDown (happens here e))
  spells_on e fit None = tt
  spells_on e fit (Some m) = λ k x at. (spelled L nodes p h (e ∷ []) fit (omega arith)).downs m k x at

  module _ (net : Net) (queues : Queues) (c : Client I O) (shows : IsClient i o here net queues c) (fits : ClientFits nodes p.nodes.blocks.items here c) (is : is_due here queues (due.Own c.block) ≡ true) where
    -- what is known of its writer
    abbrev known : WriterRecord
    known = (here.writers c.block.0).known

    abbrev rest : Rests (here.writers c.block.0)
    rest = L.rest nodes p.events.items c.block.0

    -- COMMANDS

    first_made : (writer : Option WriterRecord) (t : TakenCommand) → known ≡ known_of c.block writer → IfSome writer (λ x. is_unmade x.intake.stand ≡ false) → CommandFits nodes known.intake t → IsFirst writer t.command
    first_made None t same made fit = tt
    first_made (Some x) t same made fit = first_of x t.command known.intake (intake_after known.intake t.command) (ap (λ (y : WriterRecord). y.intake) same) made fit.admits

    may_take : (t : TakenCommand) → has_step known ≡ false → CommandFits nodes known.intake t → MayTake (here.writers c.block.0) t (intake_after known.intake t.command)
    may_take t idle fit = record {
      told = shows.shows.told;
      idle = idle;
      free = none_so known.waiting (due_free (has_step known) (is_none known.waiting) (is_some (slice_get (queues c.block.0) 0)) is idle);
      formed = fit.formed;
      admits = fit.admits;
    }

    pub takes_so : (t : TakenCommand) → has_step known ≡ false → CommandFits nodes known.intake t → IsTaken here c.block.0 t (intake_after known.intake t.command)
    takes_so t idle fit = L.takes nodes p.events.items c.block.0 t (intake_after known.intake t.command) (may_take t idle fit)

    can_take : (t : TakenCommand) → has_step known ≡ false → CommandFits nodes known.intake t → CanTake here c t
    can_take t idle fit =
        let k : IsTaken here c.block.0 t (intake_after known.intake t.command) = takes_so t idle fit in
        record {
          makes = first_made c.writer t shows.shows.writer fits.made fit;
          enabled = k.enabled;
          keeps = λ waits. k.keeps (awaits_connected known.phase waits);
          spelled = spells_on (acting c.block.0 (Some t)) (fits.width, tt) (here.writers c.block.0).conn;
        }

    take_first : (queue : List TakenCommand) → has_step known ≡ false → CommandsFit nodes known.intake queue → IfSome (slice_get queue 0) (CanTake here c)
    take_first [] idle fit = tt
    take_first (t ∷ queue) idle fit = can_take t idle fit.0

    -- SETUPS

    member_within : (first : NodeId) → slice_get known.members 0 ≡ Some first → first.0 < nodes
    member_within first at = L.members nodes p.events.items c.block.0 h.names 0 first at

    port_within : (n : ℕ) → n < nodes → FIRST_PORT + n ≤ MAX_PORT
    port_within n within = omega (arith, within, few)

    first_port : (x : Option NodeId) → slice_get known.members 0 ≡ x → IfSome x (λ first. FIRST_PORT + first.0 ≤ MAX_PORT)
    first_port None at = tt
    first_port (Some first) at = port_within first.0 (member_within first at)

    can_ask_first : (next : ConnId) → next.0 ≡ here.next_conn → IsWanted known.phase → CanAskFirst here c.block next
    can_ask_first next at wanted = record {
      next_is = at;
      undialled = (L.undialled nodes p.events.items next.0 (subst (λ (n : ℕ). here.next_conn ≤ n) (sym at) (omega arith))).lower;
      members = rest.members (wanted_needs known.phase wanted);
      no_command = no_command (is_none known.waiting) known.queue rest.queue;
      has_port = first_port (slice_get known.members 0) refl;
      spelled = λ k x found. (spelled L nodes p h (asking c.block.0 ∷ acting c.block.0 None ∷ []) (tt, (fits.width, tt)) (omega arith)).downs next.0 k x found;
    }

    conn_open : (x : Option ℕ) → (here.writers c.block.0).conn ≡ x → IfSome x (λ d. is_over here d false ≡ false)
    conn_open None at = tt
    conn_open (Some d) at = L.opened nodes p.events.items c.block.0 d at

    -- ALONE

    acts_enabled : IsCourse known course.Acts → is_enabled here (own_event c.block None true) ≡ true
    acts_enabled k =
        let a : Action = (own_step known).action in
        let asks : is_question a ≡ false = question_no a c.block.0 [] (acts_done known c.block.0 [] k).events_are in
        let deed : is_deed a ≡ true = deed_so (is_deed a) (is_question a) (L.acts nodes p.events.items c.block shows.shows.told k.steps) asks in
        (L.tested here).write c.block true ∙ (ap (λ (t : Option Told). acts_with t a) shows.shows.told ∙ deed)

    can_act_alone : IsCourse known course.Acts → CanActAlone here c
    can_act_alone k = record {
      enabled = acts_enabled k;
      quiet = rest.queue;
      spelled = spells_on (acting c.block.0 None) (fits.width, tt) (here.writers c.block.0).conn;
    }

    -- EACH STEP

    can_own_as : (next : ConnId) (k : Course) → next.0 ≡ here.next_conn → course_of known ≡ k → CanOwnAs k here c next
    can_own_as next course.Takes at e = take_first c.queue.items (takes_is known e) fits.queue
    can_own_as next course.SetsUp at e = can_ask_first next at (wanted_so known.phase (course_is known course.SetsUp e (λ z. cc)).at)
    can_own_as next course.Commits at e = record {
      members = rest.members (accepted_needs known.phase (accepted_so known.phase (course_is known course.Commits e (λ z. cc)).at));
      untaken = conn_open (here.writers c.block.0).conn refl;
    }
    can_own_as next course.Completes at e = tt
    can_own_as next course.Acts at e = can_act_alone (course_is known course.Acts e (λ z. cc))

    pub can_own : (next : ConnId) → next.0 ≡ here.next_conn → CanOwn here c next
    can_own next at = record {
      rests = rest.alone;
      does = can_own_as next (course_of (known_of c.block c.writer)) at (ap course_of shows.shows.writer);
    }
