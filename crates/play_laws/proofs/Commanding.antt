-- A command that fits is taken, and a create comes first.
use Rattle.std.proofs.Common.{◌≡◌, ℕ, Bool, true, false, List, [], ◌∷◌, ◌++◌, slice_get, Option, Some, None, Result, Ok, refl, sym, ◌∙◌, ap, subst}
use Rattle.std.specs.Prelude.{◌&&◌, not, is_some, if◌then◌else◌}
use Rattle.std.proofs.lemmas.Bool.{false≢true}
use Rattle.hd_base.specs.declared.numbers.BlockId.{BlockId}
use Rattle.hd_base.specs.declared.numbers.NodeId.{NodeId}
use Rattle.hd_base.specs.declared.numbers.Stamp.{Stamp}
use Rattle.hd_base.specs.SumRules.{Rule, default_rule}
use Rattle.packet_codec.specs.declared.packets.Packet.{Packet}
use Rattle.writer_core.specs.declared.actions.Action.{Action}
use Rattle.writer_core.specs.declared.actions.Action.TheVariants as action
use Rattle.writer_core.specs.declared.commands.Command.{Command}
use Rattle.writer_core.specs.declared.commands.Command.TheVariants as command
use Rattle.writer_core.specs.declared.commands.CommandFault.{CommandFault}
use Rattle.writer_core.specs.declared.intake.Intake.{Intake}
use Rattle.writer_core.specs.declared.phases.DuePacket.{DuePacket}
use Rattle.writer_core.specs.declared.phases.DuePacket.TheVariants as due
use Rattle.writer_core.specs.declared.phases.Failure.{Failure}
use Rattle.writer_core.specs.declared.phases.Phase.{Phase}
use Rattle.writer_core.specs.declared.phases.Phase.TheVariants as phase
use Rattle.writer_core.specs.declared.phases.Setup.{Setup}
use Rattle.writer_core.specs.declared.phases.Setup.TheVariants as setup
use Rattle.writer_core.specs.declared.phases.Waiting.{Waiting}
use Rattle.writer_core.specs.declared.records.WriterRecord.{WriterRecord}
use Rattle.writer_core.specs.Commands.{admitted, is_unmade, is_closed}
use Rattle.writer_core.specs.Transitions.{Step, fresh, given, given_as, taken_as, free_step_as, failed_first, failed_step_as, accepted_step, due_step, due_now, reach_step_as, reached_length, stream_step_as, step_in, own_step, has_step, is_action, is_connected, granted}
use Rattle.world.specs.declared.events.Event.{Event}
use Rattle.world.specs.declared.events.TakenCommand.{TakenCommand}
use Rattle.world.specs.Parts.{Told, Writing}
use Rattle.world.specs.Worlds.{World, Change, apply, put, start}
use Rattle.world.specs.Clients.{did, did_step, is_formed, ruled, command_bytes, is_empty, takes_given, takes_command, writer_step, own_writer}
use Rattle.world.specs.Events.{changed, outcome, after_event, happens, is_enabled, run}
use Rattle.play_model.specs.WorldLaws.Stamping.{known_heard}
use Rattle.play_model.proofs.WorldLaws.AllRecorded.{all-recorded}
use Rattle.play_model.proofs.WorldLaws.StampGivens.{put-here}
use Rattle.play_model.proofs.WorldLaws.FactTables.{and-left}
use Rattle.play_laws.specs.Taking.{MayTake, IsTaken, CommandsTaken, CreatesFirst, UnmadeAreFresh, taking}
use Rattle.play_laws.specs.Writers.{is_settled}
use Rattle.play_laws.proofs.Standing.{is_close, is_live, shut-closes}
use Rattle.play_laws.proofs.Taking.{Kept, admitted-is, fresh-granted}
use Rattle.play_laws.proofs.Resting.{Any, Stands, any-events, all-stand}

-- THE STEP

-- what a writer does by itself
abbrev is_did : Action → Bool
is_did action.Took = true
is_did (action.Send p) = true
is_did (action.Answered k said) = true
is_did other = false

-- a create or an append
abbrev is_opener : Command → Bool
is_opener (command.Create ms) = true
is_opener (command.Append ms) = true
is_opener other = false

-- a step that takes the command
record Does (p : Phase) (c : Command) (i : Intake) (s : Step) : Type 0 where
  pub did_so : is_did s.action ≡ true
  pub empty : s.writer.queue ≡ []
  pub intake : s.writer.intake ≡ i
  pub keeps : is_connected p ≡ true → is_opener c ≡ false → is_connected s.writer.phase ≡ true

no : {A : Type 0} → true ≡ false → A
no e = absurd (false≢true (sym e))

-- the command is given to a writer that waits for nothing
module _ (x : WriterRecord) (i : Intake) (c : Command) (w : x.waiting ≡ None) where
  abbrev with_it : WriterRecord
  with_it = record x { intake = i; queue = c ∷ [] }

  does-take : (d : Command) → Does x.phase d i (record { action = action.Took; writer = taken_as (record x { intake = i; queue = d ∷ [] }) d })
  does-take (command.Create ms) = record { did_so = refl; empty = refl; intake = refl; keeps = λ k o. no o }
  does-take (command.Append ms) = record { did_so = refl; empty = refl; intake = refl; keeps = λ k o. no o }
  does-take (command.Write bytes) = record { did_so = refl; empty = refl; intake = refl; keeps = λ k o. k }
  does-take (command.Fill count) = record { did_so = refl; empty = refl; intake = refl; keeps = λ k o. k }
  does-take command.Hflush = record { did_so = refl; empty = refl; intake = refl; keeps = λ k o. k }
  does-take command.Hsync = record { did_so = refl; empty = refl; intake = refl; keeps = λ k o. k }
  does-take command.Close = record { did_so = refl; empty = refl; intake = refl; keeps = λ k o. k }

  does-free : (o : Option Waiting) → o ≡ None → Does x.phase c i (free_step_as with_it o)
  does-free None e = does-take c
  does-free (Some y) e = absurd (cc)

  does-fail : (f : Failure) (d : Command) → Does x.phase d i (failed_first (record x { intake = i; queue = d ∷ [] }) f (Some d))
  does-fail f (command.Create ms) = record { did_so = refl; empty = refl; intake = refl; keeps = λ k o. no o }
  does-fail f (command.Append ms) = record { did_so = refl; empty = refl; intake = refl; keeps = λ k o. no o }
  does-fail f (command.Write bytes) = record { did_so = refl; empty = refl; intake = refl; keeps = λ k o. k }
  does-fail f (command.Fill count) = record { did_so = refl; empty = refl; intake = refl; keeps = λ k o. k }
  does-fail f command.Hflush = record { did_so = refl; empty = refl; intake = refl; keeps = λ k o. k }
  does-fail f command.Hsync = record { did_so = refl; empty = refl; intake = refl; keeps = λ k o. k }
  does-fail f command.Close = record { did_so = refl; empty = refl; intake = refl; keeps = λ k o. k }

  does-failed : (f : Failure) (o : Option Waiting) → o ≡ None → Does x.phase c i (failed_step_as with_it f o)
  does-failed f None e = does-fail f c
  does-failed f (Some y) e = absurd (cc)

  does-accepted : (s : Setup) (stamp : Stamp) → is_action (accepted_step x s stamp).action ≡ false → Does x.phase c i (accepted_step with_it s stamp)
  does-accepted setup.Create stamp e = no e
  does-accepted setup.Append stamp e = no e
  does-accepted setup.AppendRecovery stamp e = no e
  does-accepted setup.StreamRecovery stamp e = no e
  does-accepted setup.CloseRecovery stamp e = no e

  does-reach : (o : Option ℕ) → is_action (reach_step_as x o).action ≡ false → Does x.phase c i (reach_step_as with_it o)
  does-reach (Some n) e = no e
  does-reach None e = does-free x.waiting w

  does-due : (o : Option DuePacket) → is_action (due_step x o).action ≡ false → Does x.phase c i (due_step with_it o)
  does-due (Some (due.Data end is_sync)) e = no e
  does-due (Some due.Sync) e = no e
  does-due (Some due.Last) e = no e
  does-due None e = does-reach (reached_length x.waiting x.stream) e

  does-stream : (sent : ℕ) (o : Option Packet) → is_action (stream_step_as x sent o).action ≡ false → Does x.phase c i (stream_step_as with_it sent o)
  does-stream sent (Some p) e = no e
  does-stream sent None e = does-due (due_now x) e

  does-step : (p : Phase) → is_settled p ≡ true → is_action (step_in x p).action ≡ false → Does x.phase c i (step_in with_it p)
  does-step phase.Closed s e = does-free x.waiting w
  does-step (phase.Wanted t) s e = no e
  does-step (phase.Stamped t stamp) s e = absurd (false≢true s)
  does-step (phase.Requested t stamp) s e = does-free x.waiting w
  does-step (phase.Accepted t stamp) s e = does-accepted t stamp e
  does-step phase.Opened s e = absurd (false≢true s)
  does-step (phase.Streaming sent) s e = does-stream sent (slice_get x.stream.unacked sent) e
  does-step phase.Closing s e = does-free x.waiting w
  does-step phase.Finished s e = no e
  does-step phase.Completed s e = absurd (false≢true s)
  does-step (phase.Failed f) s e = does-failed f x.waiting w

  does-own : is_settled x.phase ≡ true → has_step x ≡ false → Does x.phase c i (own_step with_it)
  unfolding own_step
  does-own s e = does-step x.phase s e

-- A COMMAND THAT FITS

-- what a writer has that has nothing else to do
record Free (x : WriterRecord) : Type 0 where
  pub idle : has_step x ≡ false
  pub free : x.waiting ≡ None
  pub queue : x.queue ≡ []
  pub settled : is_settled x.phase ≡ true

-- the rule of a create changes only a writer that was given nothing
ruled-fresh : (b : BlockId) (ms : List NodeId) (r : Rule) → Free (ruled (fresh b default_rule) (command.Create ms) r)
unfolding own_step
ruled-fresh b ms r = record { idle = refl; free = refl; queue = refl; settled = refl }

-- that was given nothing where a create may be given
made-first : (x : WriterRecord) (ms : List NodeId) (i : Intake) → Kept x → admitted x.intake (command.Create ms) ≡ Ok i → x ≡ fresh x.block default_rule
made-first x ms i h e = h.unmade (and-left (is_unmade x.intake.stand) _ (admitted-is x.intake i (command.Create ms) e).fits_so)

ruled-free : (x : WriterRecord) (c : Command) (r : Rule) (i : Intake) → Kept x → admitted x.intake c ≡ Ok i → Free x → Free (ruled x c r)
ruled-free x (command.Create ms) r i h e f = subst (λ (z : WriterRecord). Free (ruled z (command.Create ms) r)) (sym (made-first x ms i h e)) (ruled-fresh x.block ms r)
ruled-free x (command.Append ms) r i h e f = f
ruled-free x (command.Write bytes) r i h e f = f
ruled-free x (command.Fill count) r i h e f = f
ruled-free x command.Hflush r i h e f = f
ruled-free x command.Hsync r i h e f = f
ruled-free x command.Close r i h e f = f

ruled-intake : (x : WriterRecord) (c : Command) (r : Rule) → (ruled x c r).intake ≡ x.intake
ruled-intake x (command.Create ms) r = refl
ruled-intake x (command.Append ms) r = refl
ruled-intake x (command.Write bytes) r = refl
ruled-intake x (command.Fill count) r = refl
ruled-intake x command.Hflush r = refl
ruled-intake x command.Hsync r = refl
ruled-intake x command.Close r = refl

ruled-phase : (x : WriterRecord) (c : Command) (r : Rule) → (ruled x c r).phase ≡ x.phase
ruled-phase x (command.Create ms) r = refl
ruled-phase x (command.Append ms) r = refl
ruled-phase x (command.Write bytes) r = refl
ruled-phase x (command.Fill count) r = refl
ruled-phase x command.Hflush r = refl
ruled-phase x command.Hsync r = refl
ruled-phase x command.Close r = refl

connected-live : (p : Phase) → is_connected p ≡ true → is_live p ≡ true
connected-live phase.Closed e = absurd (false≢true e)
connected-live (phase.Failed f) e = absurd (false≢true e)
connected-live (phase.Wanted s) e = refl
connected-live (phase.Stamped s stamp) e = refl
connected-live (phase.Requested s stamp) e = refl
connected-live (phase.Accepted s stamp) e = refl
connected-live phase.Opened e = refl
connected-live (phase.Streaming n) e = refl
connected-live phase.Closing e = refl
connected-live phase.Finished e = refl
connected-live phase.Completed e = refl

-- neither a create nor an append may be given to a writer with a connection for which no command waits
unopens : (x : WriterRecord) (c : Command) (i : Intake) → Kept x → x.waiting ≡ None → admitted x.intake c ≡ Ok i → is_connected x.phase ≡ true → is_opener c ≡ false
unopens x (command.Create ms) i h w e k = absurd (false≢true (ap (λ (z : WriterRecord). is_connected z.phase) (sym (made-first x ms i h e)) ∙ k))
unopens x (command.Append ms) i h w e k =
    let closed : is_closed x.intake.stand ≡ true = and-left (is_closed x.intake.stand) _ (admitted-is x.intake i (command.Append ms) e).fits_so in
    let waits : is_close x.waiting ≡ true = shut-closes x.phase x.waiting (connected-live x.phase k) (h.held.shut closed) in
    absurd (false≢true (ap is_close (sym w) ∙ waits))
unopens x (command.Write bytes) i h w e k = refl
unopens x (command.Fill count) i h w e k = refl
unopens x command.Hflush i h w e k = refl
unopens x command.Hsync i h w e k = refl
unopens x command.Close i h w e k = refl

given-is : (y : WriterRecord) (c : Command) (i : Intake) → admitted y.intake c ≡ Ok i → y.queue ≡ [] → given y c ≡ record y { intake = i; queue = c ∷ [] }
given-is y c i e q =
    subst (λ (r : Result Intake CommandFault). given_as y c r ≡ record y { intake = i; queue = c ∷ [] }) (sym e)
    (ap (λ (l : List Command). record y { intake = i; queue = l ++ c ∷ [] }) q)

given-does : (y : WriterRecord) (c : Command) (i : Intake) → admitted y.intake c ≡ Ok i → Free y → Does y.phase c i (own_step (given y c))
given-does y c i e f = subst (λ (g : WriterRecord). Does y.phase c i (own_step g)) (sym (given-is y c i e f.queue)) (does-own y i c f.free f.settled f.idle)

-- THE CHANGE

record Made (b : ℕ) (z : WriterRecord) (o : Option Change) : Type 0 where
  pub change : Change
  pub is : o ≡ Some change
  pub place : change.writer_at ≡ b
  pub known : change.writer.known ≡ z

did-made : (w : World) (b : ℕ) (waits : Option Waiting) (a : Action) (z : WriterRecord) (bytes : List ℕ) → is_did a ≡ true → Made b z (did w b waits a z bytes)
did-made w b waits action.Took z bytes e = record { change = _; is = refl; place = refl; known = refl }
did-made w b waits (action.Send p) z bytes e = record { change = _; is = refl; place = refl; known = refl }
did-made w b waits (action.Answered k said) z bytes e = record { change = _; is = refl; place = refl; known = refl }
did-made w b waits action.Wait z bytes e = absurd (false≢true e)
did-made w b waits (action.Ask c) z bytes e = absurd (false≢true e)
did-made w b waits (action.Dial to r) z bytes e = absurd (false≢true e)
did-made w b waits action.Memory z bytes e = absurd (false≢true e)

module _ (w : World) (b : ℕ) (x : WriterRecord) (t : TakenCommand) (i : Intake) where
  abbrev rule_in : WriterRecord
  rule_in = ruled x t.command t.rule

  abbrev after : Step
  after = own_step (given rule_in t.command)

  given-made : Does rule_in.phase t.command i after → Made b after.writer (takes_given w b rule_in t.command)
  given-made d =
      subst (λ (l : List Command). Made b after.writer (if is_empty l then did_step w b rule_in.waiting after (command_bytes rule_in t.command) else None)) (sym d.empty)
      (did-made w b rule_in.waiting after.action after.writer (command_bytes rule_in t.command) d.did_so)

  both : (p q : Bool) → p ≡ true → q ≡ true → (p && q) ≡ true
  both true q e f = f
  both false q e f = absurd (false≢true e)

  takes-made : is_formed t.command t.rule ≡ true → admitted x.intake t.command ≡ Ok i → x.queue ≡ [] → Does rule_in.phase t.command i after → Made b after.writer (takes_command w b x t)
  takes-made f e q d =
      let full : not (is_empty (given x t.command).queue) ≡ true = ap (λ (g : WriterRecord). not (is_empty g.queue)) (given-is x t.command i e q) in
      subst (λ (k : Bool). Made b after.writer (if k then takes_given w b rule_in t.command else None))
      (sym (both (is_formed t.command t.rule) (not (is_empty (given x t.command).queue)) f full)) (given-made d)

-- THE WORLD

module _ (w : World) (b : ℕ) (t : TakenCommand) (i : Intake) (z : WriterRecord) (m : Made b z (own_writer w b (Some t) true)) where
  is-enabled : is_enabled w (taking b t) ≡ true
  unfolding outcome
  is-enabled = subst (λ (o : Option Change). is_some (changed w o) ≡ true) (sym m.is) refl

  there : (k : Change) → k.writer_at ≡ b → (apply w k).writers b ≡ k.writer
  unfolding apply
  there k e = subst (λ (n : ℕ). (put w.writers n k.writer) b ≡ k.writer) (sym e) (put-here w.writers b k.writer)

  has-intake : z.intake ≡ i → ((happens w (taking b t)).writers b).known.intake ≡ i
  unfolding happens outcome
  has-intake e = subst (λ (o : Option Change). ((after_event w (taking b t) (changed w o)).writers b).known.intake ≡ i) (sym m.is)
      (ap (λ (y : Writing). y.known.intake) (there m.change m.place) ∙ (ap (λ (y : WriterRecord). y.intake) m.known ∙ e))

is-taken : (w : World) (b : ℕ) (t : TakenCommand) (i : Intake) → Stands Any (w.writers b) → MayTake (w.writers b) t i → IsTaken w b t i
is-taken w b t i h m =
    let x : WriterRecord = (w.writers b).known in
    let free : Free x = record { idle = m.idle; free = m.free; queue = h.queue; settled = h.fits.settled refl } in
    let y : WriterRecord = ruled x t.command t.rule in
    let d : Does y.phase t.command i (own_step (given y t.command)) = given-does y t.command i
    (ap (λ (j : Intake). admitted j t.command) (ruled-intake x t.command t.rule) ∙ m.admits) (ruled-free x t.command t.rule i h.kept m.admits free) in
    let made : Made b (own_step (given y t.command)).writer (own_writer w b (Some t) true) =
    subst (λ (o : Option Told). Made b (own_step (given y t.command)).writer (writer_step w b x o (Some t) true)) (sym m.told)
    (takes-made w b x t i m.formed m.admits h.queue d) in
    record {
      enabled = is-enabled w b t i (own_step (given y t.command)).writer made;
      keeps = λ k. d.keeps (ap is_connected (ruled-phase x t.command t.rule) ∙ k) (unopens x t.command i h.kept m.free m.admits k);
      intake = has-intake w b t i (own_step (given y t.command)).writer made d.intake;
    }

-- LAWS

pub commands-taken : CommandsTaken
commands-taken nodes events b t i m = is-taken (run (start nodes) events) b t i (all-stand Any nodes events (any-events events) b) m

-- a writer that was given nothing has nothing to go on with
heard-first : (x : WriterRecord) (o : Option Told) → x ≡ fresh x.block default_rule → known_heard x o ≡ x
heard-first x None e = refl
heard-first x (Some t) e = ap (λ (z : WriterRecord). granted z t) e ∙ (fresh-granted x.block t ∙ sym e)

-- one that is fresh is that of its block
fresh-at : (nodes : ℕ) (events : List Event) (b : ℕ) → ((run (start nodes) events).writers b).known ≡ fresh ((run (start nodes) events).writers b).known.block default_rule → ((run (start nodes) events).writers b).known ≡ fresh (record { 0 = b }) default_rule
fresh-at nodes events b f =
    let v : Writing = (run (start nodes) events).writers b in
    let at : v.known.block ≡ record { 0 = b } = ap (λ (z : WriterRecord). z.block) (sym (heard-first v.known v.told f)) ∙ (all-recorded nodes events).writers b in
    f ∙ ap (λ (a : BlockId). fresh a default_rule) at

pub creates-first : CreatesFirst
creates-first nodes events b members i e =
    let v : Writing = (run (start nodes) events).writers b in
    fresh-at nodes events b (made-first v.known members i (all-stand Any nodes events (any-events events) b).kept e)

pub unmade-fresh : UnmadeAreFresh
unmade-fresh nodes events b e = fresh-at nodes events b ((all-stand Any nodes events (any-events events) b).kept.unmade e)
