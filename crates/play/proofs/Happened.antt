-- What has happened leaves a play whose events and commands fit.
use Rattle.std.proofs.Common.{◌≡◌, ◌⊎◌, inl, inr, ℕ, zero, suc, ◌<◌, ◌^◌, Bool, true, false, List, [], ◌∷◌, drop, slice_get, option_map, Option, Some, None, IfSome, Result, Ok, Err, refl, sym, ap, ◌∙◌, subst, eqb-true}
use Rattle.std.specs.Prelude.{◌==◌, ◌&&◌, ◌||◌, is_some, is_none}
use Rattle.std.proofs.lemmas.Bool.{eqb-false}
use Rattle.std.proofs.lemmas.Option.{none-some, same_Some, slice_get-map}
use Rattle.hd_base.specs.declared.files.Files as files
use Rattle.hd_base.specs.declared.links.LinkIn as link_in
use Rattle.hd_base.specs.declared.links.LinkOut as link_out
use Rattle.hd_base.specs.declared.numbers.BlockId.{BlockId}
use Rattle.hd_base.specs.declared.numbers.ConnId.{ConnId}
use Rattle.hd_base.specs.declared.roads.Roads as roads
use Rattle.writer_core.specs.declared.actions.Action.{Action}
use Rattle.writer_core.specs.declared.actions.Action.TheVariants as action
use Rattle.writer_core.specs.declared.commands.Command.{Command}
use Rattle.writer_core.specs.declared.commands.Command.TheVariants as command
use Rattle.writer_core.specs.declared.intake.Intake.{Intake}
use Rattle.writer_core.specs.declared.intake.Stand.{Stand}
use Rattle.writer_core.specs.declared.intake.Stand.TheVariants as stand
use Rattle.writer_core.specs.declared.records.WriterRecord.{WriterRecord}
use Rattle.writer_core.specs.Commands.{admitted, intake_after, is_unmade, is_open}
use Rattle.writer_core.specs.Transitions.{own_step, has_step, is_action, is_connected}
use Rattle.world.specs.declared.events.Event.{Event}
use Rattle.world.specs.declared.events.Event.TheVariants as event
use Rattle.world.specs.declared.events.TakenCommand.{TakenCommand}
use Rattle.world.specs.Parts as parts
use Rattle.world.specs.Parts.{by_writer, by_member, by_reader, by_primary, Writing}
use Rattle.world.specs.Worlds.{World, start}
use Rattle.world.specs.Events.{happens, run}
use Rattle.play_model.proofs.WorldLaws.StampGivens.{put-here, put-there}
use Rattle.node_stops.specs.PlayNodes.Frames.{FaultKeeps}
use Rattle.node_stops.specs.WorldRequests.Requests.{IsAmong}
use Rattle.world_writes.specs.Writes.{grows}
use Rattle.play_model.specs.declared.dues.Due.{Due}
use Rattle.play_model.specs.declared.dues.Due.TheVariants as due
use Rattle.play_model.specs.Dues.{Queues, is_due, due_events, queues_after, own_events, queue_left, action_of, acting}
use Rattle.play_laws.specs.Intakes.{intake_of, is_wait}
use Rattle.play_laws.specs.Members.{IsNode, Names}
use Rattle.play_laws.proofs.Taking.{admitted-is}
use Rattle.play_dues.specs.PlayClients.Client.{Client}
use Rattle.play_dues.specs.PlayClients.Clients.{known_of}
use Rattle.play_dues.proofs.PlayClients.CourseLaws.{fresh_waits}
use Rattle.play_model.specs.declared.asks.ReadAsk.{ReadAsk}
use Rattle.play_model.specs.Asks.{request_of, asking_node}
use Rattle.play_dues.specs.PlayReaders.ReadClient.{ReadClient}
use Rattle.play_dues.specs.PlayReaders.Asks.{asks_of}
use Rattle.play_dues.specs.PlayPrimaries.PrimaryClient.{PrimaryClient}
use Rattle.play_dues.specs.PlayRecoveries.Places.{recoveries_of}
use Rattle.recovery_core.specs.declared.primary.OwnStep.{OwnStep}
use Rattle.recovery_core.specs.declared.primary.OwnStep.TheVariants as step
use Rattle.recovery_core.specs.Primaries as recovery
use Rattle.play_model.specs.declared.recoveries.Recovery.{Recovery}
use Rattle.play_model.specs.Recoveries.{all_answered, begins_so, leads_events, primary_asks, primary_events}
use Rattle.play_dues.specs.Showing.{HasClient}
use Rattle.play_dues.proofs.UpperLaws.{heard_conn}
use Rattle.play.specs.declared.faults.PlayFault.{PlayFault}
use Rattle.play.specs.declared.player.Player.{Player}
use Rattle.play.specs.Laws.{Laws}
use Rattle.play.specs.Showing.{IsClient, PlayerShows}
use Rattle.play.specs.Events.{writer_at, actor_of, StaysAt, blocks_of, Happening, due_happens, write_fails, HappeningLeft, PlayEnds}
use Rattle.play_laws.specs.Commands.{given_with, CommandsFit}
use Rattle.play.specs.Standing.{ClientFits, EventsFit, AskFits, AsksFit, RecoveryFits, RecoveriesFit, world_of, PlayStands, HasDone, HappenEnds, ActorIsClient}
use Rattle.play.proofs.Lawful.{fits_more}
use Rattle.play.proofs.RecoveryEvents.{recovery_kept}
use Rattle.play.proofs.CanOwning.{takes_so}

true_false : {A : Type 0} (b : Bool) → b ≡ true → b ≡ false → A
true_false true x y = cc
true_false false x y = cc

-- CLIENTS AT THEIR PLACES

-- an element of one list has one of the other, of the same block
same_place : {I O : Type 0} (xs ys : List (Client I O)) → blocks_of xs ≡ blocks_of ys → (k : ℕ) (y : Client I O) → slice_get ys k ≡ Some y → (x : Client I O) × ((slice_get xs k ≡ Some x) × (x.block ≡ y.block))
same_place xs [] e k y at = cc
same_place [] (z ∷ ys) e k y at = cc
same_place (x ∷ xs) (z ∷ ys) e zero y at = (x, (refl, same_Some x.block y.block (ap (λ (bs : List BlockId). slice_get bs 0) e ∙ ap (λ (c : _). Some c.block) (same_Some z y at))))
same_place (x ∷ xs) (z ∷ ys) e (suc k) y at = same_place xs ys (ap (λ (bs : List BlockId). drop 1 bs) e) k y at

has_moved : {I O : Type 0} (xs ys : List (Client I O)) (b : ℕ) → blocks_of xs ≡ blocks_of ys → HasClient ys b → HasClient xs b
has_moved xs ys b e h =
    let k = same_place xs ys e h.place h.client h.found in
    record { place = h.place; client = k.0; found = k.1.0; block = ap (λ (a : BlockId). a.0) k.1.1 ∙ h.block }

-- COMMANDS

unmade_open : (s : Stand) → is_open s ≡ true → is_unmade s ≡ false
unmade_open stand.Open e = refl
unmade_open s e = cc

-- after a command that fits the block was made
made_by : (nodes : ℕ) (i : Intake) (c : Command) → admitted i c ≡ Ok (intake_after i c) → is_unmade (intake_after i c).stand ≡ false
made_by nodes i (command.Create ms) e = refl
made_by nodes i (command.Append ms) e = refl
made_by nodes i (command.Write bytes) e = unmade_open i.stand (admitted-is i (intake_after i (command.Write bytes)) (command.Write bytes) e).fits_so
made_by nodes i (command.Fill count) e = unmade_open i.stand (admitted-is i (intake_after i (command.Fill count)) (command.Fill count) e).fits_so
made_by nodes i command.Hflush e = unmade_open i.stand (admitted-is i (intake_after i command.Hflush) command.Hflush e).fits_so
made_by nodes i command.Hsync e = unmade_open i.stand (admitted-is i (intake_after i command.Hsync) command.Hsync e).fits_so
made_by nodes i command.Close e = refl

-- a writer's next action is to wait just where it has no step
wait_no_step : (x : WriterRecord) → is_wait (own_step x).action ≡ true → has_step x ≡ false
wait_no_step x e = go (own_step x).action e
  where
    go : (a : Action) → is_wait a ≡ true → is_action a ≡ false
    go action.Wait e = refl
    go a e = cc

no_wait_step : (x : WriterRecord) → is_wait (own_step x).action ≡ false → has_step x ≡ true
no_wait_step x e = go (own_step x).action e
  where
    go : (a : Action) → is_wait a ≡ false → is_action a ≡ true
    go action.Wait e = cc
    go a e = refl

due_some : (steps waits some : Bool) → (steps || (waits && some)) ≡ true → steps ≡ false → some ≡ true
due_some true waits some h k = cc
due_some false true some h k = h
due_some false false some h k = cc

-- THE UPPER END

pub data UpperKind (u : parts.Upper) : Type 0 where
  of_writer : (b : ℕ) → u ≡ by_writer b → UpperKind u
  of_member : (d : ℕ) → u ≡ by_member d → UpperKind u
  of_reader : (n : ℕ) → u ≡ by_reader n → UpperKind u
  of_primary : (n place : ℕ) → u ≡ by_primary n place → UpperKind u

pub upper_kind : (u : parts.Upper) → UpperKind u
upper_kind (by_writer b) = of_writer b refl
upper_kind (by_member d) = of_member d refl
upper_kind (by_reader n) = of_reader n refl
upper_kind (by_primary n place) = of_primary n place refl

-- WHAT IS DUE

module _ {F R I O : Type 0} (r : roads.Ghosts R I O) (i : link_in.Ghosts I) (o : link_out.Ghosts O) (L : Laws) (nodes : ℕ) (queues : Queues) (old : Player F I O) (road : R) (s : PlayStands r i o nodes queues road old) where
  -- the world of the play
  abbrev here : World
  here = world_of nodes old

  -- A WRITER'S OWN STEP

  module _ (c : Client I O) (shows : IsClient i o here s.net queues c) (fits : ClientFits nodes old.nodes.blocks.items here c) (is : is_due here queues (due.Own c.block) ≡ true) where
    abbrev known : WriterRecord
    known = (here.writers c.block.0).known

    abbrev act : Action
    act = (own_step known).action

    -- the world after it, and the queue
    abbrev later : World
    later = run here (own_events act c.block.0 (queues c.block.0))

    -- The commands that are left fit, and the block was made.
    record Goes (a : Action) (queue : List TakenCommand) : Type 0 where
      fit : CommandsFit nodes (intake_of (run here (own_events a c.block.0 queue)) c.block.0) (queue_left a queue)
      made : is_unmade (intake_of (run here (own_events a c.block.0 queue)) c.block.0).stand ≡ false
      given : given_with (intake_of (run here (own_events a c.block.0 queue)) c.block.0) (queue_left a queue) ≡ given_with known.intake queue

    takes_goes : (queue : List TakenCommand) → has_step known ≡ false → is_some (slice_get queue 0) ≡ true → CommandsFit nodes known.intake queue → Goes action.Wait queue
    takes_goes [] idle some fit = cc
    takes_goes (t ∷ queue) idle some fit =
        let k = takes_so i o L nodes old s.events s.few s.net queues c shows fits is t idle fit.0 in
        record {
          fit = subst (λ (j : Intake). CommandsFit nodes j queue) (sym k.intake) fit.1;
          made = ap (λ (j : Intake). is_unmade j.stand) k.intake ∙ made_by nodes known.intake t.command fit.0.admits;
          given = ap (λ (j : Intake). given_with j queue) k.intake;
        }

    -- one that has something to do isn't new
    not_new : has_step known ≡ true → is_unmade known.intake.stand ≡ false
    not_new steps = go (is_unmade known.intake.stand) refl
      where
        go : (q : Bool) → is_unmade known.intake.stand ≡ q → q ≡ false
        go false e = refl
        go true e = true_false (has_step known) steps (ap has_step (L.fresh nodes old.events.items c.block.0 e) ∙ fresh_waits (record { 0 = c.block.0 }))

    left_queue : (a : Action) (queue : List TakenCommand) → is_wait a ≡ false → queue_left a queue ≡ queue
    left_queue action.Wait queue e = cc
    left_queue (action.Ask call) queue e = refl
    left_queue action.Took queue e = refl
    left_queue (action.Dial to req) queue e = refl
    left_queue (action.Send p) queue e = refl
    left_queue (action.Answered n said) queue e = refl
    left_queue action.Memory queue e = refl

    acts_goes : is_wait act ≡ false → CommandsFit nodes known.intake (queues c.block.0) → Goes act (queues c.block.0)
    acts_goes apart fit =
        let same : intake_of later c.block.0 ≡ known.intake = L.own_intakes nodes old.events.items queues c.block apart in
        record {
          fit = subst (λ (q : List TakenCommand). CommandsFit nodes (intake_of later c.block.0) q) (sym (left_queue act (queues c.block.0) apart)) (subst (λ (j : Intake). CommandsFit nodes j (queues c.block.0)) (sym same) fit);
          made = ap (λ (j : Intake). is_unmade j.stand) same ∙ not_new (no_wait_step known apart);
          given = ap (λ (q : List TakenCommand). given_with (intake_of later c.block.0) q) (left_queue act (queues c.block.0) apart) ∙ ap (λ (j : Intake). given_with j (queues c.block.0)) same;
        }

    wait_is : (a : Action) → is_wait a ≡ true → action.Wait ≡ a
    wait_is action.Wait e = refl
    wait_is a e = cc

    own_goes : CommandsFit nodes known.intake (queues c.block.0) → Goes act (queues c.block.0)
    own_goes fit = go (is_wait act) refl
      where
        go : (q : Bool) → is_wait act ≡ q → Goes act (queues c.block.0)
        go false e = acts_goes e fit
        go true e = subst (λ (a : Action). Goes a (queues c.block.0)) (wait_is act e)
            (takes_goes (queues c.block.0) (wait_no_step known e) (due_some (has_step known) (is_none known.waiting) (is_some (slice_get (queues c.block.0) 0)) is (wait_no_step known e)) fit)

    -- ITS EVENTS

    first_names : (queue : List TakenCommand) → CommandsFit nodes known.intake queue → IfSome (slice_get queue 0) (λ t. Names (IsNode nodes) t.command)
    first_names [] fit = tt
    first_names (t ∷ queue) fit = fit.0.names

    -- one event that takes this command, if any
    acting_fits : (takes : Option TakenCommand) → IfSome takes (λ t. Names (IsNode nodes) t.command) → EventsFit here nodes old.nodes.blocks.items (acting c.block.0 takes ∷ [])
    acting_fits takes names = record { widths = (fits.width, tt); names = (names, tt); among = (fits.among, tt); whole = (tt, tt) }

    own_fits : (a : Action) (queue : List TakenCommand) → CommandsFit nodes known.intake queue → EventsFit here nodes old.nodes.blocks.items (own_events a c.block.0 queue)
    own_fits action.Wait queue fit = acting_fits (slice_get queue 0) (first_names queue fit)
    own_fits (action.Ask call) queue fit = record { widths = (tt, (fits.width, tt)); names = (tt, (tt, tt)); among = (tt, (fits.among, tt)); whole = (tt, (tt, tt)) }
    own_fits action.Took queue fit = acting_fits None tt
    own_fits (action.Dial to req) queue fit = acting_fits None tt
    own_fits (action.Send p) queue fit = acting_fits None tt
    own_fits (action.Answered n said) queue fit = acting_fits None tt
    own_fits action.Memory queue fit = acting_fits None tt

  -- the commands of a client fit what is known of its writer
  queue_fits : (c : Client I O) → IsClient i o here s.net queues c → ClientFits nodes old.nodes.blocks.items here c → CommandsFit nodes (intake_of here c.block.0) (queues c.block.0)
  queue_fits c shows fits = subst (λ (q : List TakenCommand). CommandsFit nodes (intake_of here c.block.0) q) shows.queue fits.queue

  -- ANY EVENT

  -- a due event of the client of a block
  record Actor (b : BlockId) : Type 0 where
    client : Client I O
    shows : IsClient i o here s.net queues client
    fits : ClientFits nodes old.nodes.blocks.items here client
    block : client.block ≡ b

  actor_of_block : (b : BlockId) → HasClient old.clients.items b.0 → Actor b
  actor_of_block b h = record {
    client = h.client;
    shows = s.shows.clients h.place h.client h.found;
    fits = s.clients h.place h.client h.found;
    block = ap (λ (n : ℕ). record { 0 = n }) h.block;
  }

  -- what a reader sends
  asking_fits : (ask : ReadAsk) → AskFits nodes old.nodes.blocks.items ask → EventsFit here nodes old.nodes.blocks.items (asking_node ask true ∷ [])
  unfolding request_of
  asking_fits ask h = record { widths = (h.asked, tt); names = (tt, tt); among = (h.among, tt); whole = (tt, tt) }

  -- what a primary does
  leads_fit : (step : OwnStep) (rec : Recovery) → RecoveryFits nodes old.nodes.blocks.items rec → EventsFit here nodes old.nodes.blocks.items (leads_events step rec)
  leads_fit (step.Commits c) rec h = record { widths = (tt, (tt, tt)); names = (tt, (tt, tt)); among = (tt, (tt, tt)); whole = (tt, (tt, tt)) }
  leads_fit step.Waits rec h = record { widths = (tt, tt); names = (tt, tt); among = (tt, tt); whole = (tt, tt) }
  leads_fit (step.Updates c) rec h = record { widths = (tt, tt); names = (tt, tt); among = (tt, tt); whole = (tt, tt) }
  leads_fit (step.Ends e) rec h = record { widths = (tt, tt); names = (tt, tt); among = (tt, tt); whole = (tt, tt) }

  begins_fit : (rec : Recovery) → RecoveryFits nodes old.nodes.blocks.items rec → EventsFit here nodes old.nodes.blocks.items (primary_asks rec ∷ (begins_so rec (all_answered rec.members) ∷ []))
  begins_fit rec h = record { widths = (tt, (h.width, tt)); names = (tt, (tt, tt)); among = (tt, (h.among, tt)); whole = (tt, (tt, tt)) }

  recovery_fits : (w : World) (p : parts.Primary) (rec : Recovery) → RecoveryFits nodes old.nodes.blocks.items rec → EventsFit here nodes old.nodes.blocks.items (primary_events p rec)
  recovery_fits w (parts.leads l) rec h = leads_fit (recovery.own_step l.state).does rec h
  recovery_fits w parts.no_primary rec h = begins_fit rec h
  recovery_fits w (parts.was_told block told) rec h = begins_fit rec h
  recovery_fits w (parts.has_led e) rec h = begins_fit rec h

  events_fit : (d : Due) → is_due here queues d ≡ true → ActorIsClient old d → EventsFit here nodes old.nodes.blocks.items (due_events here queues d)
  events_fit (due.Own b) is actor =
      let k : Actor b = actor_of_block b actor in
      subst (λ (a : BlockId). EventsFit here nodes old.nodes.blocks.items (due_events here queues (due.Own a))) k.block
      (own_fits k.client k.shows k.fits (subst (λ (a : BlockId). is_due here queues (due.Own a) ≡ true) (sym k.block) is) (action_of here k.client.block) (queues k.client.block.0) (queue_fits k.client k.shows k.fits))
  events_fit (due.Reader ask) is actor = subst (λ (a : ReadAsk). EventsFit here nodes old.nodes.blocks.items (due_events here queues (due.Reader a))) actor.asks
      (asking_fits actor.client.ask (s.asks actor.place actor.client.ask (slice_get-map (λ (c : ReadClient I O). c.ask) old.reads.clients.items actor.place ∙ ap (λ (x : Option (ReadClient I O)). option_map (λ (c : ReadClient I O). c.ask) x) actor.at)))
  events_fit (due.Primary rec) is actor = subst (λ (a : Recovery). EventsFit here nodes old.nodes.blocks.items (due_events here queues (due.Primary a))) actor.recovers
      (recovery_fits here (here.primaries actor.client.recovery.primary) actor.client.recovery (s.recovers actor.place actor.client.recovery (slice_get-map (λ (c : PrimaryClient I O). c.recovery) old.recoveries.clients.items actor.place ∙ ap (λ (x : Option (PrimaryClient I O)). option_map (λ (c : PrimaryClient I O). c.recovery) x) actor.at)))
  events_fit (due.Down c) is actor = record { widths = (tt, tt); names = (tt, tt); among = (tt, tt); whole = (tt, tt) }
  events_fit (due.Ready c) is actor = record { widths = (tt, tt); names = (tt, tt); among = (tt, tt); whole = (tt, tt) }
  events_fit (due.Up c) is actor = record { widths = (tt, tt); names = (tt, tt); among = (tt, tt); whole = (tt, tt) }

  -- writers that don't act stay
  writers_stay : (d : Due) → is_due here queues d ≡ true → ActorIsClient old d → (b : ℕ) → (actor_of here d ≡ Some b → ⊥) → (run here (due_events here queues d)).writers b ≡ here.writers b
  writers_stay (due.Own a) is actor b apart = (L.own_keeps here queues a).0.writers b (λ same. apart (ap (λ (n : ℕ). Some n) (sym same)))
  writers_stay (due.Reader ask) is actor b apart = (L.asking_others here ask.reader ask.node (request_of ask) true).0.writers b
  writers_stay (due.Primary rec) is actor b apart = (recovery_kept L.leading_others L.leading_nodes here rec).others.writers b
  writers_stay (due.Down c) is actor b apart = (L.down_keeps here c true).writers b
  writers_stay (due.Ready c) is actor b apart = (L.ready_keeps here c).writers b
  writers_stay (due.Up c) is actor b apart = by (upper_kind (here.dialled c.0).upper)
    where
      by : UpperKind (here.dialled c.0).upper → (happens here (event.Up c)).writers b ≡ here.writers b
      by (of_writer a e) = (L.heard_keeps here c a e).0.writers b (λ same. apart (ap writer_at e ∙ ap (λ (n : ℕ). Some n) (sym same)))
      by (of_member m e) = (L.mirror_keeps here c m e).writers b
      by (of_reader n e) = (L.hearing_others here c n e).0.writers b
      by (of_primary n place e) = (L.told_others here c n place e).others.writers b

  -- What is left of a writer's commands fits; once it has acted its block was made.
  pub record FitsAfter (h : Happening) (b : ℕ) : Type 0 where
    pub fit : CommandsFit nodes (intake_of (run here h.events) b) (h.queues b)
    pub made : h.actor ≡ Some b → is_unmade (intake_of (run here h.events) b).stand ≡ false
    pub given : given_with (intake_of (run here h.events) b) (h.queues b) ≡ given_with (intake_of here b) (queues b)

  abbrev Fits : Due → ℕ → Type 0
  Fits d b = FitsAfter (due_happens here queues d) b

  still_fits : (d : Due) → is_due here queues d ≡ true → ActorIsClient old d → (b : ℕ) → (actor_of here d ≡ Some b → ⊥) → queues_after here queues d b ≡ queues b → CommandsFit nodes (intake_of here b) (queues b) → Fits d b
  still_fits d is actor b apart same fit = record {
    fit = subst (λ (q : List TakenCommand). CommandsFit nodes (intake_of (run here (due_events here queues d)) b) q) (sym same)
        (subst (λ (x : Writing). CommandsFit nodes x.known.intake (queues b)) (sym (writers_stay d is actor b apart)) fit);
    made = λ e. absurd (apart e);
    given = ap (λ (q : List TakenCommand). given_with (intake_of (run here (due_events here queues d)) b) q) same ∙ ap (λ (x : Writing). given_with x.known.intake (queues b)) (writers_stay d is actor b apart);
  }

  -- a writer that hears something was given a create
  heard_made : (c : ConnId) (b : ℕ) → is_due here queues (due.Up c) ≡ true → (here.dialled c.0).upper ≡ by_writer b → is_unmade (intake_of here b).stand ≡ false
  heard_made c b is e = go (is_unmade (intake_of here b).stand) refl
    where
      go : (q : Bool) → is_unmade (intake_of here b).stand ≡ q → q ≡ false
      go false k = refl
      go true k = absurd (none-some c.0 (sym ((L.rest nodes old.events.items b).alone (ap (λ (x : WriterRecord). is_connected x.phase) (L.fresh nodes old.events.items b k))) ∙ heard_conn here queues c b is e))

  fits_after : (d : Due) → is_due here queues d ≡ true → ActorIsClient old d → (b : ℕ) → CommandsFit nodes (intake_of here b) (queues b) → Fits d b
  fits_after (due.Reader ask) is actor b fit = still_fits (due.Reader ask) is actor b (λ e. none-some b e) refl fit
  fits_after (due.Primary rec) is actor b fit = still_fits (due.Primary rec) is actor b (λ e. none-some b e) refl fit
  fits_after (due.Down c) is actor b fit = still_fits (due.Down c) is actor b (λ e. none-some b e) refl fit
  fits_after (due.Ready c) is actor b fit = still_fits (due.Ready c) is actor b (λ e. none-some b e) refl fit
  fits_after (due.Up c) is actor b fit = by (upper_kind (here.dialled c.0).upper)
    where
      hears : (a : ℕ) → (here.dialled c.0).upper ≡ by_writer a → (q : Bool) → (a == b) ≡ q → Fits (due.Up c) b
      hears a e false k = still_fits (due.Up c) is actor b (λ z. eqb-false a b k (same_Some a b (sym (ap writer_at e) ∙ z))) refl fit
      hears a e true k =
          let upper_is : (here.dialled c.0).upper ≡ by_writer b = e ∙ ap by_writer (eqb-true a b k) in
          let same = L.heard_intakes nodes old.events.items c b upper_is in
          record {
            fit = subst (λ (j : Intake). CommandsFit nodes j (queues b)) (sym same) fit;
            made = λ z. ap (λ (j : Intake). is_unmade j.stand) same ∙ heard_made c b is upper_is;
            given = ap (λ (j : Intake). given_with j (queues b)) same;
          }

      by : UpperKind (here.dialled c.0).upper → Fits (due.Up c) b
      by (of_writer a e) = hears a e (a == b) refl
      by (of_member m e) = still_fits (due.Up c) is actor b (λ z. none-some b (sym (ap writer_at e) ∙ z)) refl fit
      by (of_reader n e) = still_fits (due.Up c) is actor b (λ z. none-some b (sym (ap writer_at e) ∙ z)) refl fit
      by (of_primary n place e) = still_fits (due.Up c) is actor b (λ z. none-some b (sym (ap writer_at e) ∙ z)) refl fit
  fits_after (due.Own a) is actor b fit = go (a.0 == b) refl
    where
      go : (q : Bool) → (a.0 == b) ≡ q → Fits (due.Own a) b
      go false k = still_fits (due.Own a) is actor b (λ z. eqb-false a.0 b k (same_Some a.0 b z)) (put-there queues a.0 (queue_left (action_of here a) (queues a.0)) b (λ same. eqb-false a.0 b k (sym same))) fit
      go true k =
          let x : Actor a = actor_of_block a actor in
          subst (λ (n : ℕ). Fits (due.Own a) n) (eqb-true a.0 b k) (subst (λ (m : BlockId). Fits (due.Own m) m.0) x.block (acts x (queue_fits x.client x.shows x.fits)))
        where
          acts : (x : Actor a) → CommandsFit nodes (intake_of here x.client.block.0) (queues x.client.block.0) → Fits (due.Own x.client.block) x.client.block.0
          acts x fit =
              let z = own_goes x.client x.shows x.fits (subst (λ (m : BlockId). is_due here queues (due.Own m) ≡ true) (sym x.block) is) fit in
              record {
                fit = subst (λ (q : List TakenCommand). CommandsFit nodes (intake_of (run here (due_events here queues (due.Own x.client.block))) x.client.block.0) q) (sym (put-here queues x.client.block.0 (queue_left (action_of here x.client.block) (queues x.client.block.0)))) z.fit;
                made = λ e. z.made;
                given = ap (λ (q : List TakenCommand). given_with (intake_of (run here (due_events here queues (due.Own x.client.block))) x.client.block.0) q) (put-here queues x.client.block.0 (queue_left (action_of here x.client.block) (queues x.client.block.0))) ∙ z.given;
              }

  -- a writer that acts, or hears something, has a client
  actor_client : (d : Due) → is_due here queues d ≡ true → ActorIsClient old d → (b : ℕ) → actor_of here d ≡ Some b → HasClient old.clients.items b
  actor_client (due.Own a) is actor b e = subst (λ (n : ℕ). HasClient old.clients.items n) (same_Some a.0 b e) actor
  actor_client (due.Reader ask) is actor b e = absurd (none-some b e)
  actor_client (due.Primary rec) is actor b e = absurd (none-some b e)
  actor_client (due.Down c) is actor b e = absurd (none-some b e)
  actor_client (due.Ready c) is actor b e = absurd (none-some b e)
  actor_client (due.Up c) is actor b e = by (upper_kind (here.dialled c.0).upper)
    where
      by : UpperKind (here.dialled c.0).upper → HasClient old.clients.items b
      by (of_writer a k) = s.connected b c.0 (heard_conn here queues c b is (k ∙ ap by_writer (same_Some a b (sym (ap writer_at k) ∙ e))))
      by (of_member m k) = absurd (none-some b (sym (ap writer_at k) ∙ e))
      by (of_reader n k) = absurd (none-some b (sym (ap writer_at k) ∙ e))
      by (of_primary n place k) = absurd (none-some b (sym (ap writer_at k) ∙ e))

  -- What a play asks of what happens in it: its events fit, and what it leaves of each writer's commands; a writer that acts
  -- has a client, and the others stay.
  pub record CanHappen (h : Happening) : Type 0 where
    pub events : EventsFit here nodes old.nodes.blocks.items h.events
    pub fits : (b : ℕ) → CommandsFit nodes (intake_of here b) (queues b) → FitsAfter h b
    pub stay : (b : ℕ) → (h.actor ≡ Some b → ⊥) → (run here h.events).writers b ≡ here.writers b
    pub client : (b : ℕ) → h.actor ≡ Some b → HasClient old.clients.items b

  pub due_can : (d : Due) → is_due here queues d ≡ true → ActorIsClient old d → CanHappen (due_happens here queues d)
  due_can d is actor = record {
    events = events_fit d is actor;
    fits = fits_after d is actor;
    stay = writers_stay d is actor;
    client = actor_client d is actor;
  }

  -- A write that makes a replica grow may fail.
  pub fault_can : FaultKeeps → (conn : ConnId) → grows here conn.0 ≡ true → CanHappen (write_fails queues conn)
  fault_can keeps conn grown = record {
    events = record { widths = (tt, tt); names = (tt, tt); among = (tt, tt); whole = (grown, tt) };
    fits = λ b fit. record {
      fit = subst (λ (x : Writing). CommandsFit nodes x.known.intake (queues b)) (sym ((keeps here conn).writers b)) fit;
      made = λ e. absurd (none-some b e);
      given = ap (λ (x : Writing). given_with x.known.intake (queues b)) ((keeps here conn).writers b);
    };
    stay = λ b apart. (keeps here conn).writers b;
    client = λ b e. absurd (none-some b e);
  }

  -- WHAT IS LEFT

  module _ (h : Happening) (can : CanHappen h) (new : Player F I O) (road' : R) (left : HappeningLeft r i o here h old new road') where
    abbrev there : World
    there = run here h.events

    world_is : world_of nodes new ≡ there
    world_is = ap (λ (es : List Event). run (start nodes) es) left.events ∙ L.joined (start nodes) old.events.items h.events

    made_so : (writer : Option WriterRecord) (b : BlockId) (x : WriterRecord) → x ≡ known_of b writer → is_unmade x.intake.stand ≡ false → IfSome writer (λ y. is_unmade y.intake.stand ≡ false)
    made_so None b x same made = tt
    made_so (Some y) b x same made = ap (λ (z : WriterRecord). is_unmade z.intake.stand) (sym same) ∙ made

    actor_or : (x : Option ℕ) (b : ℕ) → (x ≡ Some b) ⊎ (x ≡ Some b → ⊥)
    actor_or None b = inr (λ e. none-some b e)
    actor_or (Some a) b = go (a == b) refl
      where
        go : (q : Bool) → (a == b) ≡ q → (Some a ≡ Some b) ⊎ (Some a ≡ Some b → ⊥)
        go true e = inl (ap (λ (n : ℕ). Some n) (eqb-true a b e))
        go false e = inr (λ z. eqb-false a b e (same_Some a b z))

    client_fits : (k : ℕ) (c : Client I O) → slice_get new.clients.items k ≡ Some c → ClientFits nodes new.nodes.blocks.items there c
    client_fits k c at =
        let z : StaysAt old.clients.items h.actor k c = left.places.each k c at in
        let fits : ClientFits nodes old.nodes.blocks.items here z.was = s.clients k z.was z.at in
        let number : c.block.0 ≡ z.was.block.0 = ap (λ (b : BlockId). b.0) z.block in
        let now : IsClient i o there left.made h.queues c = left.shows.clients k c at in
        let after : FitsAfter h z.was.block.0 = can.fits z.was.block.0 (queue_fits z.was (s.shows.clients k z.was z.at) fits) in
        let after' : FitsAfter h c.block.0 = subst (λ (n : ℕ). FitsAfter h n) (sym number) after in
        record {
          among = subst (λ (bs : List BlockId). IsAmong bs c.block.0) (sym left.places.blocks) (subst (λ (n : ℕ). IsAmong old.nodes.blocks.items n) (sym number) fits.among);
          width = subst (λ (n : ℕ). n < 2 ^ 64) (sym number) fits.width;
          queue = subst (λ (q : List TakenCommand). CommandsFit nodes (intake_of there c.block.0) q) (sym now.queue) after'.fit;
          made = by z (actor_or h.actor z.was.block.0) fits now after';
        }
      where
        by : (q : StaysAt old.clients.items h.actor k c) → (h.actor ≡ Some q.was.block.0) ⊎ (h.actor ≡ Some q.was.block.0 → ⊥) → ClientFits nodes old.nodes.blocks.items here q.was → IsClient i o there left.made h.queues c → FitsAfter h c.block.0 → IfSome c.writer (λ x. is_unmade x.intake.stand ≡ false)
        by q (inl e) fits now after = made_so c.writer c.block (there.writers c.block.0).known now.shows.writer (after.made (e ∙ ap (λ (b : BlockId). Some b.0) (sym q.block)))
        by q (inr apart) fits now after = subst (λ (y : Client I O). IfSome y.writer (λ x. is_unmade x.intake.stand ≡ false)) (sym (q.same apart)) fits.made

    connected : (b c : ℕ) → (there.writers b).conn ≡ Some c → HasClient new.clients.items b
    connected b c has = has_moved new.clients.items old.clients.items b left.places.order (by (actor_or h.actor b))
      where
        by : (h.actor ≡ Some b) ⊎ (h.actor ≡ Some b → ⊥) → HasClient old.clients.items b
        by (inl e) = can.client b e
        by (inr apart) = s.connected b c (sym (ap (λ (x : Writing). x.conn) (can.stay b apart)) ∙ has)

    -- the commands that are queued for a client's block
    client_queue : (b : ℕ) → HasClient old.clients.items b → CommandsFit nodes (intake_of here b) (queues b)
    client_queue b at =
        subst (λ (n : ℕ). CommandsFit nodes (intake_of here n) (queues n)) at.block (queue_fits at.client (s.shows.clients at.place at.client at.found) (s.clients at.place at.client at.found))

    pub has_done : HasDone r i o nodes queues h old new road'
    has_done = record {
      stands = record {
        net = left.made;
        shows = subst (λ (v : World). PlayerShows r i o v left.made h.queues road' new) (sym world_is) left.shows;
        few = s.few;
        events = subst (λ (bs : List BlockId). EventsFit (start nodes) nodes bs new.events.items) (sym left.places.blocks)
            (subst (λ (es : List Event). EventsFit (start nodes) nodes old.nodes.blocks.items es) (sym left.events) (fits_more nodes old.nodes.blocks.items old.events.items h.events s.events can.events));
        clients = λ k c at. subst (λ (v : World). ClientFits nodes new.nodes.blocks.items v c) (sym world_is) (client_fits k c at);
        asks = subst (λ (bs : List BlockId). AsksFit nodes bs (asks_of new.reads.clients.items)) (sym left.places.blocks) (subst (λ (xs : List ReadAsk). AsksFit nodes old.nodes.blocks.items xs) (sym left.places.asks) s.asks);
        recovers = subst (λ (bs : List BlockId). RecoveriesFit nodes bs (recoveries_of new.recoveries.clients.items)) (sym left.places.blocks) (subst (λ (xs : List Recovery). RecoveriesFit nodes old.nodes.blocks.items xs) (sym left.places.recovers) s.recovers);
        connected = λ b c has. connected b c (sym (ap (λ (v : World). (v.writers b).conn) world_is) ∙ has);
      };
      events = left.events;
      places = left.places;
      given = λ b at. ap (λ (v : World). given_with (intake_of v b) (h.queues b)) world_is ∙ (can.fits b (client_queue b at)).given;
    }

  pub happened_so : (f : files.Ghosts F) (d : Due) → is_due here queues d ≡ true → ActorIsClient old d → (new : Player F I O) (road' : R) (result : Result (Unit {0}) PlayFault) → PlayEnds f r i o here queues d old new road road' result → HappenEnds f r i o nodes queues d old new road road' result
  happened_so f d is actor new road' (Ok u) left = has_done (due_happens here queues d) (due_can d is actor) new road' left
  happened_so f d is actor new road' (Err why) h = h
