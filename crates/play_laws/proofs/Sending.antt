-- A writer sends packets only once its setup is done.
use Rattle.std.proofs.Common.{◌≡◌, ℕ, Bool, true, false, List, [], ◌∷◌, length, slice_get, Option, Some, None, IfSome, refl, sym, ◌∙◌, ap, subst, eqb-true}
use Rattle.std.specs.Prelude.{◌==◌, ◌&&◌, not, is_none, is_some, if◌then◌else◌}
use Rattle.std.proofs.lemmas.Bool.{false≢true}
use Rattle.std.proofs.lemmas.Option.{none-some, same_Some}
use Rattle.hd_base.specs.declared.numbers.NodeId.{NodeId}
use Rattle.hd_base.specs.declared.numbers.Stamp.{Stamp}
use Rattle.op_headers.specs.declared.ops.Op.{Op}
use Rattle.packet_codec.specs.declared.packets.Packet.{Packet}
use Rattle.writer_core.specs.declared.actions.Action.{Action}
use Rattle.writer_core.specs.declared.actions.Action.TheVariants as action
use Rattle.writer_core.specs.declared.commands.Command.{Command}
use Rattle.writer_core.specs.declared.commands.Command.TheVariants as command
use Rattle.writer_core.specs.declared.phases.DuePacket.{DuePacket}
use Rattle.writer_core.specs.declared.phases.DuePacket.TheVariants as due
use Rattle.writer_core.specs.declared.phases.Failure.{Failure}
use Rattle.writer_core.specs.declared.phases.Phase.{Phase}
use Rattle.writer_core.specs.declared.phases.Phase.TheVariants as phase
use Rattle.writer_core.specs.declared.phases.Setup.{Setup}
use Rattle.writer_core.specs.declared.phases.Setup.TheVariants as setup
use Rattle.writer_core.specs.declared.phases.Waiting.{Waiting}
use Rattle.writer_core.specs.declared.records.WriterRecord.{WriterRecord}
use Rattle.writer_core.specs.Requests.{request_for}
use Rattle.writer_core.specs.Transitions.{Step, given, take_first, free_step_as, failed_first, failed_step_as, dial_step_as, accepted_step, due_step, due_now, reach_step_as, reached_length, stream_step_as, step_in, own_step, open_step, completed_step, granted, dialled, is_connected}
use Rattle.world.specs.declared.events.TakenCommand.{TakenCommand}
use Rattle.world.specs.Parts.{Message, Told, Writing}
use Rattle.world.specs.Worlds.{World, Change}
use Rattle.world.specs.Connections.{Next, sent_on, is_conn}
use Rattle.world.specs.Clients.{writing_as, did, did_step, dialled_change, dialling, rest_in, is_formed, ruled, is_empty, takes_command, writer_step, own_writer, writer_hears, writer_up}
use Rattle.play_model.proofs.WorldLaws.FactTables.{when-each, and-right}
use Rattle.play_laws.proofs.Steps.{is_early, Sits, Gets, hears-fits, undialled-fits, own-fits, granted-fits, ruled-gets, none-opens}
use Rattle.play_laws.proofs.Resting.{Any, Stands, any-names, allowed}

-- A STEP THAT SENDS

abbrev is_send : Action → Bool
is_send (action.Send p) = true
is_send other = false

-- where a step sends a packet, the setup is done
abbrev IsLate : Step → Type 0
IsLate s = is_send s.action ≡ true → is_early s.writer.phase ≡ false

free-late : (x : WriterRecord) (o : Option Waiting) → IsLate (free_step_as x o)
free-late x (Some y) = λ e. absurd (false≢true e)
free-late x None = go (slice_get x.queue 0)
  where
    go : (o : Option Command) → IsLate (take_first x o)
    go None = λ e. absurd (false≢true e)
    go (Some c) = λ e. absurd (false≢true e)

failed-late : (x : WriterRecord) (f : Failure) (o : Option Waiting) → IsLate (failed_step_as x f o)
failed-late x f (Some y) = λ e. absurd (false≢true e)
failed-late x f None = go (slice_get x.queue 0)
  where
    go : (o : Option Command) → IsLate (failed_first x f o)
    go None = λ e. absurd (false≢true e)
    go (Some (command.Create ms)) = λ e. absurd (false≢true e)
    go (Some (command.Append ms)) = λ e. absurd (false≢true e)
    go (Some (command.Write bytes)) = λ e. absurd (false≢true e)
    go (Some (command.Fill count)) = λ e. absurd (false≢true e)
    go (Some command.Hflush) = λ e. absurd (false≢true e)
    go (Some command.Hsync) = λ e. absurd (false≢true e)
    go (Some command.Close) = λ e. absurd (false≢true e)

accepted-late : (x : WriterRecord) (s : Setup) (stamp : Stamp) → IsLate (accepted_step x s stamp)
accepted-late x setup.Create stamp = λ e. absurd (false≢true e)
accepted-late x setup.Append stamp = λ e. absurd (false≢true e)
accepted-late x setup.AppendRecovery stamp = λ e. absurd (false≢true e)
accepted-late x setup.StreamRecovery stamp = λ e. absurd (false≢true e)
accepted-late x setup.CloseRecovery stamp = λ e. absurd (false≢true e)

reach-late : (x : WriterRecord) (o : Option ℕ) → IsLate (reach_step_as x o)
reach-late x (Some n) = λ e. absurd (false≢true e)
reach-late x None = free-late x x.waiting

due-late : (x : WriterRecord) (o : Option DuePacket) → IsLate (due_step x o)
due-late x (Some (due.Data end is_sync)) = λ e. refl
due-late x (Some due.Sync) = λ e. refl
due-late x (Some due.Last) = λ e. refl
due-late x None = reach-late x (reached_length x.waiting x.stream)

stream-late : (x : WriterRecord) (sent : ℕ) (o : Option Packet) → IsLate (stream_step_as x sent o)
stream-late x sent (Some p) = λ e. refl
stream-late x sent None = due-late x (due_now x)

dial-late : (x : WriterRecord) (s : Setup) (stamp : Stamp) (ns : List NodeId) → IsLate (dial_step_as x s stamp ns)
dial-late x s stamp [] = λ e. absurd (false≢true e)
dial-late x s stamp (n ∷ ns) = λ e. absurd (false≢true e)

step-late : (x : WriterRecord) (p : Phase) → IsLate (step_in x p)
step-late x phase.Closed = free-late x x.waiting
step-late x (phase.Wanted s) = λ e. absurd (false≢true e)
step-late x (phase.Stamped s stamp) = dial-late x s stamp x.members
step-late x (phase.Requested s stamp) = free-late x x.waiting
step-late x (phase.Accepted s stamp) = accepted-late x s stamp
step-late x phase.Opened = λ e. absurd (false≢true e)
step-late x (phase.Streaming sent) = stream-late x sent (slice_get x.stream.unacked sent)
step-late x phase.Closing = free-late x x.waiting
step-late x phase.Finished = λ e. absurd (false≢true e)
step-late x phase.Completed = λ e. absurd (false≢true e)
step-late x (phase.Failed f) = failed-late x f x.waiting

own-late : (x : WriterRecord) → IsLate (own_step x)
unfolding own_step
own-late x = step-late x x.phase

-- A WRITER'S CHANGES

-- the connection of a writer whose setup isn't done: the one that it had, or a new one
pub data Goes (w : World) (b : ℕ) (k : Change) (e : ℕ) : Type 0 where
  goes_on : (w.writers b).conn ≡ Some e → is_early (w.writers b).known.phase ≡ true → k.downs e ≡ [] → Goes w b k e
  begins : e ≡ w.next_conn → k.downs e ≡ [] → Goes w b k e

pub record Carries (w : World) (b : ℕ) (k : Change) : Type 0 where
  pub at : k.writer_at ≡ b
  pub others : (e : ℕ) → ((w.writers b).conn ≡ Some e → ⊥) → k.downs e ≡ []
  pub own : (e : ℕ) → k.writer.conn ≡ Some e → is_early k.writer.known.phase ≡ true → Goes w b k e

kept-conn : (t : Bool) (o : Option ℕ) (e : ℕ) → (if t then o else None) ≡ Some e → o ≡ Some e
kept-conn true o e q = q
kept-conn false o e q = absurd (none-some e q)

module _ (w : World) (b : ℕ) where
  -- nothing early comes of what wasn't
  abbrev Stays : WriterRecord → Type 0
  Stays x = is_early x.phase ≡ true → is_early (w.writers b).known.phase ≡ true

  quiet-carries : (x : WriterRecord) (k : Change) → k.writer_at ≡ b → k.writer ≡ writing_as x (w.writers b).conn → ((e : ℕ) → k.downs e ≡ []) → Stays x → Carries w b k
  quiet-carries x k a r d h = record {
    at = a;
    others = λ e n. d e;
    own = λ e q l. goes_on
        (kept-conn (is_connected x.phase) (w.writers b).conn e (subst (λ (y : Writing). y.conn ≡ Some e) r q))
        (h (subst (λ (y : Writing). is_early y.known.phase ≡ true) r l)) (d e);
  }

  sent-others : (o : Option ℕ) (e : ℕ) (ms : List Message) → (o ≡ Some e → ⊥) → sent_on o ms e ≡ []
  sent-others None e ms n = refl
  sent-others (Some d) e ms n = go (e == d) refl
    where
      go : (t : Bool) → (e == d) ≡ t → (if t then ms else []) ≡ []
      go true q = absurd (n (ap (λ (j : ℕ). Some j) (sym (eqb-true e d q))))
      go false q = refl

  did-carries : (waits : Option Waiting) (a : Action) (x : WriterRecord) (bytes : List ℕ) → Stays x → (is_send a ≡ true → is_early x.phase ≡ false) → IfSome (did w b waits a x bytes) (Carries w b)
  did-carries waits action.Took x bytes h l = quiet-carries x _ refl refl (λ e. refl) h
  did-carries waits (action.Send p) x bytes h l = record {
    at = refl;
    others = λ e n. sent-others (w.writers b).conn e _ n;
    own = λ e q i. absurd (false≢true (sym (l refl) ∙ i));
  }
  did-carries waits (action.Answered k said) x bytes h l = quiet-carries x _ refl refl (λ e. refl) h
  did-carries waits action.Wait x bytes h l = tt
  did-carries waits (action.Ask c) x bytes h l = tt
  did-carries waits (action.Dial to r) x bytes h l = tt
  did-carries waits action.Memory x bytes h l = tt

  given-carries : (waits : Option Waiting) (x : WriterRecord) (bytes : List ℕ) → Gets Any (is_some (w.writers b).conn) (is_early (w.writers b).known.phase) x → IfSome (did_step w b waits (own_step x) bytes) (Carries w b)
  given-carries waits x bytes g = did-carries waits (own_step x).action (own_step x).writer bytes (own-fits Any (is_some (w.writers b).conn) (is_early (w.writers b).known.phase) x g.first g.sits).early (own-late x)

  takes-carries : (x : WriterRecord) (t : TakenCommand) → Sits Any (is_some (w.writers b).conn) (is_early (w.writers b).known.phase) true x → x.queue ≡ [] → IfSome (takes_command w b x t) (Carries w b)
  takes-carries x t h q = when-each (Carries w b) (is_formed t.command t.rule && not (is_empty (given x t.command).queue)) _
      (λ e. when-each (Carries w b) (is_empty (own_step (given (ruled x t.command t.rule) t.command)).writer.queue) _
      (λ _. given-carries _ (given (ruled x t.command t.rule) t.command) _
      (ruled-gets Any (is_some (w.writers b).conn) (is_early (w.writers b).known.phase) x t.command t.rule (and-right (is_formed t.command t.rule) (not (is_empty (given x t.command).queue)) e) q (allowed Any w b t.command (any-names t.command)) h)))

  dialled-carries : (x : WriterRecord) (to : NodeId) (r : Op) (answered : Bool) (s : Setup) (stamp : Stamp) (ns : List NodeId) → x.members ≡ to ∷ ns → x.phase ≡ phase.Stamped s stamp → Sits Any (is_some (w.writers b).conn) (is_early (w.writers b).known.phase) false x
      → Carries w b (dialled_change w b x to r answered)
  dialled-carries x to r true s stamp ns m p h = record {
    at = refl;
    others = λ e n. refl;
    own = λ e q l. begins (sym (same_Some w.next_conn e q)) refl;
  }
  dialled-carries x to r false s stamp ns m p h =
      quiet-carries (dialled x false) _ refl refl (λ e. refl) (undialled-fits Any (is_some (w.writers b).conn) (is_early (w.writers b).known.phase) x s stamp to ns m p h.each).early

  dialling-carries : (x : WriterRecord) (s : Setup) (stamp : Stamp) (ns : List NodeId) (answered : Bool) → x.members ≡ ns → x.phase ≡ phase.Stamped s stamp → Sits Any (is_some (w.writers b).conn) (is_early (w.writers b).known.phase) false x
      → Carries w b (dialling w b x (dial_step_as x s stamp ns).action answered)
  dialling-carries x s stamp [] answered m p h = quiet-carries x _ refl refl (λ e. refl) h.early
  dialling-carries x s stamp (n ∷ ns) answered m p h = dialled-carries x n (request_for x.block x.committed x.stream s stamp (length x.members) ns) (answered && w.running n.0) s stamp ns m p h

  rest-carries : (p : Phase) (x : WriterRecord) (answered : Bool) → x.phase ≡ p → Sits Any (is_some (w.writers b).conn) (is_early (w.writers b).known.phase) false x → IfSome (rest_in p w b x answered) (Carries w b)
  rest-carries (phase.Stamped s stamp) x answered e h = dialling-carries x s stamp x.members answered refl e h
  rest-carries phase.Opened x answered e h = did-carries x.waiting (open_step x).action (open_step x).writer [] (λ i. absurd (false≢true i)) (λ i. absurd (false≢true i))
  rest-carries phase.Completed x answered e h = did-carries x.waiting (completed_step x).action (completed_step x).writer [] (λ i. absurd (false≢true i)) (λ i. absurd (false≢true i))
  rest-carries phase.Closed x answered e h = quiet-carries x _ refl refl (λ d. refl) h.early
  rest-carries (phase.Wanted s) x answered e h = quiet-carries x _ refl refl (λ d. refl) h.early
  rest-carries (phase.Requested s stamp) x answered e h = quiet-carries x _ refl refl (λ d. refl) h.early
  rest-carries (phase.Accepted s stamp) x answered e h = quiet-carries x _ refl refl (λ d. refl) h.early
  rest-carries (phase.Streaming n) x answered e h = quiet-carries x _ refl refl (λ d. refl) h.early
  rest-carries phase.Closing x answered e h = quiet-carries x _ refl refl (λ d. refl) h.early
  rest-carries phase.Finished x answered e h = quiet-carries x _ refl refl (λ d. refl) h.early
  rest-carries (phase.Failed f) x answered e h = quiet-carries x _ refl refl (λ d. refl) h.early

  step-carries : (x : WriterRecord) (told : Option Told) (takes : Option TakenCommand) (answered : Bool) → Sits Any (is_some (w.writers b).conn) (is_early (w.writers b).known.phase) true x → x.queue ≡ [] → IfSome (writer_step w b x told takes answered) (Carries w b)
  step-carries x (Some t) None answered h q = rest-carries (granted x t).phase (granted x t) answered refl (granted-fits Any (is_some (w.writers b).conn) (is_early (w.writers b).known.phase) x t h)
  step-carries x (Some t) (Some c) answered h q = tt
  step-carries x None None answered h q = given-carries x.waiting x [] (record { first = none-opens Any (is_some (w.writers b).conn) (is_early (w.writers b).known.phase) x.queue q; sits = h })
  step-carries x None (Some t) answered h q = takes-carries x t h q

  pub own-writer-carries : (takes : Option TakenCommand) (answered : Bool) → Stands Any (w.writers b) → IfSome (own_writer w b takes answered) (Carries w b)
  own-writer-carries takes answered h = step-carries (w.writers b).known (w.writers b).told takes answered h.fits h.queue

  pub writer-up-carries : (e : ℕ) (n : Next) → Stands Any (w.writers b) → IfSome (writer_up w b e n) (Carries w b)
  writer-up-carries e n h = when-each (Carries w b) (is_conn (w.writers b).conn e && is_none (w.writers b).told) _
      (λ _. quiet-carries (writer_hears (w.writers b).known n) _ refl refl (λ d. refl) (hears-fits Any (is_some (w.writers b).conn) (is_early (w.writers b).known.phase) true (w.writers b).known n h.fits).early)
