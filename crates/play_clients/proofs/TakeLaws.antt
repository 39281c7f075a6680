-- A client whose writer takes a command, and the world after it.
use Rattle.std.proofs.Common.{◌≡◌, ℕ, Bool, true, false, List, [], ◌∷◌, ◌++◌, if◌then◌else◌, slice_get, Option, Some, None, Result, Ok, Err, refl, sym, ap, ◌∙◌, subst}
use Rattle.std.specs.Prelude.{◌&&◌, is_some, drop, not, option_map}
use Rattle.hd_base.specs.declared.numbers.BlockId.{BlockId}
use Rattle.hd_base.specs.declared.numbers.ConnId.{ConnId}
use Rattle.hd_base.specs.declared.numbers.Stamp.{Stamp}
use Rattle.hd_base.specs.SumRules.{default_rule}
use Rattle.hd_base.specs.declared.links.LinkIn as link_in
use Rattle.hd_base.specs.declared.links.LinkOut as link_out
use Rattle.hd_base.specs.declared.roads.Roads as roads
use Rattle.name_core.specs.declared.desks.Desk as desks
use Rattle.client_events.specs.PipeRecovery.Steps.{fits_in, fits_accepted, is_stamped}
use Rattle.road_traffic.specs.Showing.{Net}
use Rattle.world.specs.declared.events.TakenCommand.{TakenCommand}
use Rattle.world.specs.Parts.{Told}
use Rattle.world.specs.Worlds.{World, Change, apply}
use Rattle.world.specs.Events.{happens, is_enabled, outcome}
use Rattle.world.specs.Enabled.{is_deed}
use Rattle.world.specs.Clients.{is_formed, ruled, is_empty, did, takes_given, takes_command, writer_step, own_writer}
use Rattle.play_model.proofs.WorldLaws.FactTables.{and-right}
use Rattle.world_orders.specs.Orders.{is_requested}
use Rattle.writer_core.specs.declared.actions.Action.{Action}
use Rattle.writer_core.specs.declared.actions.Action.TheVariants as action
use Rattle.writer_core.specs.declared.commands.Command.{Command}
use Rattle.writer_core.specs.declared.commands.Command.TheVariants as command
use Rattle.writer_core.specs.declared.phases.Phase.{Phase}
use Rattle.writer_core.specs.declared.phases.Phase.TheVariants as phase
use Rattle.writer_core.specs.declared.phases.Setup.{Setup}
use Rattle.writer_core.specs.declared.phases.Setup.TheVariants as setup
use Rattle.writer_core.specs.declared.phases.Waiting.{Waiting}
use Rattle.writer_core.specs.declared.records.WriterRecord.{WriterRecord}
use Rattle.writer_core.specs.Commands.{admitted, fits, is_too_much}
use Rattle.writer_core.specs.Transitions.{Step, fresh, given, given_as, own_step, step_in, has_step, is_action, is_connected, take_first, free_step_as}
use Rattle.play_model.specs.Dues.{Queues, own_events, acting}
use Rattle.client_events.specs.declared.acting.Acted.{Acted}
use Rattle.client_events.specs.declared.acting.Said.{Said}
use Rattle.client_events.specs.declared.faults.ClientFault.{ClientFault}
use Rattle.client_events.specs.declared.pipes.Pipe.{Pipe}
use Rattle.client_events.specs.declared.pipes.Pipe.TheVariants as pipe
use Rattle.client_events.specs.Events as events
use Rattle.client_events.specs.Events.{own_event, given_to}
use Rattle.client_events.specs.Showing.{PipeFits, awaits}
use Rattle.play_clients.specs.declared.clients.Client.{Client}
use Rattle.play_clients.specs.declared.clients.Owned.{Owned}
use Rattle.play_clients.specs.declared.courses.Course.TheVariants as course
use Rattle.play_clients.specs.Clients.{known_of, ClientShows, ClientStands}
use Rattle.play_clients.specs.Courses.{course_of}
use Rattle.play_clients.specs.Events.{IsCaused, IsFirst, CanTake, OwnLeft}
use Rattle.play_clients.specs.Owning.{made_as, said_list, FollowsActed, ActsBy, ActsIf, Acts, GivesBy, taken_of, TakesBy}
use Rattle.play_clients.proofs.CourseLaws.{IsDone, takes_is, takes_done}
use Rattle.play_clients.proofs.DialLaws.{untold_conns}
use Rattle.play_clients.proofs.OwnLaws.{client_left_of, queue_same, same_action, memory_caused}
use Rattle.play_clients.proofs.HearLaws.{caused}

abbrev ok_from : {A : Type 0} → A → Result A ClientFault → A
ok_from z (Ok a) = a
ok_from z (Err e) = z

-- WHAT MAY BE TAKEN

-- A command that doesn't fit leaves a writer as it is.
unfit_as : (x : WriterRecord) (c : Command) (q : Bool) → is_too_much x.intake c ≡ q → fits x.intake.stand c ≡ false → given x c ≡ x
unfolding admitted
unfit_as x c true e f = rw (e) refl
unfit_as x c false e f = rw (e, f) refl

unfit : (x : WriterRecord) (c : Command) → fits x.intake.stand c ≡ false → given x c ≡ x
unfit x c f = unfit_as x c (is_too_much x.intake c) refl f

none_enabled : (w : World) (b : BlockId) (t : TakenCommand) → own_writer w b.0 (Some t) true ≡ None → is_enabled w (own_event b (Some t) true) ≡ false
unfolding outcome
none_enabled w b t e = ap (λ (k : Option Change). is_some (option_map (apply w) k)) e

-- A writer that may take a command takes it: the step that it takes does something.
did_deed : (w : World) (b : ℕ) (waits : Option Waiting) (a : Action) (x : WriterRecord) (bytes : List ℕ) → is_some (did w b waits a x bytes) ≡ true → is_deed a ≡ true
did_deed w b waits action.Took x bytes h = refl
did_deed w b waits (action.Send p) x bytes h = refl
did_deed w b waits (action.Answered n s) x bytes h = refl
did_deed w b waits a x bytes h = cc

some_when : {A : Type 0} (q : Bool) (k : Option A) → is_some (if q then k else None) ≡ true → (q ≡ true) × (is_some k ≡ true)
some_when true k h = (refl, h)
some_when false k h = cc

some_mapped : {A B : Type 0} (f : A → B) (k : Option A) → is_some (option_map f k) ≡ true → is_some k ≡ true
some_mapped f None h = h
some_mapped f (Some a) h = refl

step_some : (w : World) (b : ℕ) (x : WriterRecord) (told : Option Told) (t : TakenCommand) → told ≡ None → is_some (writer_step w b x told (Some t) true) ≡ true → is_some (takes_command w b x t) ≡ true
step_some w b x None t e h = h
step_some w b x (Some a) t e h = cc

-- What a writer does that takes a command which it may take.
pub record TakesIt (x : WriterRecord) (t : TakenCommand) : Type 0 where
  pub deed : is_deed (own_step (given_to x (Some t))).action ≡ true
  pub filled : not (is_empty (given x t.command).queue) ≡ true

pub takes_it : (w : World) (b : BlockId) (t : TakenCommand) → (w.writers b.0).told ≡ None → is_enabled w (own_event b (Some t) true) ≡ true → TakesIt (w.writers b.0).known t
unfolding outcome
takes_it w b t told h =
    let x : WriterRecord = (w.writers b.0).known in
    let taken = step_some w b.0 x (w.writers b.0).told t told (some_mapped (apply w) (own_writer w b.0 (Some t) true) h) in
    let both = some_when (is_formed t.command t.rule && not (is_empty (given x t.command).queue)) (takes_given w b.0 (ruled x t.command t.rule) t.command) taken in
    let s : Step = own_step (given (ruled x t.command t.rule) t.command) in
    let did_so = some_when (is_empty s.writer.queue) _ both.1 in
    record { deed = did_deed w b.0 _ s.action s.writer _ did_so.1; filled = and-right (is_formed t.command t.rule) (not (is_empty (given x t.command).queue)) both.0 }

-- THE WRITER THAT IS GIVEN IT

create_only : (block : BlockId) (c : Command) → not (is_empty (given (fresh block default_rule) c).queue) ≡ true → fits (fresh block default_rule).intake.stand c ≡ false → ⊥
create_only block c h f = never (sym (ap (λ (y : WriterRecord). not (is_empty y.queue)) (unfit (fresh block default_rule) c f)) ∙ h)
  where
    never : false ≡ true → ⊥
    never e = cc

-- The writer that is made, or is there already, is that which the world gives the command to.
pub made_given : (block : BlockId) (writer : Option WriterRecord) (t : TakenCommand) → IsFirst writer t.command → not (is_empty (given (known_of block writer) t.command).queue) ≡ true → given (made_as block writer t) t.command ≡ given_to (known_of block writer) (Some t)
made_given block writer t first filled = by_command block writer t.command t.rule first filled
  where
    by_command : (block : BlockId) (writer : Option WriterRecord) (c : Command) (rule : _) → IsFirst writer c → not (is_empty (given (known_of block writer) c).queue) ≡ true → given (made_as block writer (record { command = c; rule = rule })) c ≡ given (ruled (known_of block writer) c rule) c
    by_command block None (command.Create members) rule first filled = refl
    by_command block None (command.Append members) rule first filled = absurd (create_only block (command.Append members) filled refl)
    by_command block None (command.Write bytes) rule first filled = absurd (create_only block (command.Write bytes) filled refl)
    by_command block None (command.Fill count) rule first filled = absurd (create_only block (command.Fill count) filled refl)
    by_command block None command.Hflush rule first filled = absurd (create_only block command.Hflush filled refl)
    by_command block None command.Hsync rule first filled = absurd (create_only block command.Hsync filled refl)
    by_command block None command.Close rule first filled = absurd (create_only block command.Close filled refl)
    by_command block (Some x) (command.Create members) rule first filled = absurd first
    by_command block (Some x) c rule first filled = refl

-- WHERE A SETUP IS UNDER WAY

given_phase_as : (x : WriterRecord) (c : Command) (r : Result _ _) → (given_as x c r).phase ≡ x.phase
given_phase_as x c (Ok i) = refl
given_phase_as x c (Err e) = refl

given_phase : (x : WriterRecord) (c : Command) → (given x c).phase ≡ x.phase
given_phase x c = given_phase_as x c (admitted x.intake c)

ruled_phase : (x : WriterRecord) (c : Command) (rule : _) → (ruled x c rule).phase ≡ x.phase
ruled_phase x (command.Create members) rule = refl
ruled_phase x c rule = refl

take_deed : (x : WriterRecord) (c : Option Command) → is_deed (take_first x c).action ≡ true → (take_first x c).action ≡ action.Took
take_deed x None h = cc
take_deed x (Some c) h = refl

free_deed_as : (x : WriterRecord) (w : Option Waiting) → is_deed (free_step_as x w).action ≡ true → (free_step_as x w).action ≡ action.Took
free_deed_as x None h = take_deed x (slice_get x.queue 0) h
free_deed_as x (Some w) h = cc

-- Where a writer waits for the answer to its request it can only take a command.
requested_took : (x : WriterRecord) (p : Phase) → is_requested p ≡ true → is_deed (step_in x p).action ≡ true → (step_in x p).action ≡ action.Took
requested_took x (phase.Requested s stamp) r h = free_deed_as x x.waiting h
requested_took x p r h = cc

accepted_step_asks : (x : WriterRecord) (s : Setup) (stamp : Stamp) (linked : Bool) → is_action (step_in x (phase.Accepted s stamp)).action ≡ false → fits_accepted s linked ≡ true → ⊥
accepted_step_asks x setup.Create stamp linked h f = cc
accepted_step_asks x setup.Append stamp linked h f = cc
accepted_step_asks x setup.AppendRecovery stamp linked h f = cc
accepted_step_asks x setup.StreamRecovery stamp linked h f = cc
accepted_step_asks x setup.CloseRecovery stamp linked h f = cc

-- A writer that has nothing to do, and whose setup is under way, waits for the answer to its request.
takes_requested : (x : WriterRecord) (p : Phase) (linked : Bool) → is_action (step_in x p).action ≡ false → fits_in p linked ≡ true → is_stamped p ≡ false → is_requested p ≡ true
takes_requested x (phase.Wanted s) linked h f n = cc
takes_requested x (phase.Stamped s stamp) linked h f n = cc
takes_requested x (phase.Requested s stamp) linked h f n = refl
takes_requested x (phase.Accepted s stamp) linked h f n = absurd (accepted_step_asks x s stamp linked h f)
takes_requested x p linked h f n = cc

waiting_awaits : (p : Phase) → is_requested p ≡ true → awaits p ≡ true
waiting_awaits (phase.Requested s stamp) h = refl
waiting_awaits p h = cc

module _ {I O : Type 0} where
  takes_keeps : (x given_as : WriterRecord) (c : Pipe I O) → has_step x ≡ false → PipeFits x.phase c → given_as.phase ≡ x.phase → is_deed (own_step given_as).action ≡ true → (awaits x.phase ≡ true → is_connected (own_step given_as).writer.phase ≡ true) → events.KeepsSetup c (own_step given_as)
  unfolding own_step
  takes_keeps x y pipe.Closed idle fits same deed keeps = tt
  takes_keeps x y (pipe.Streaming end incoming) idle fits same deed keeps = tt
  takes_keeps x y (pipe.SettingUp setup) idle fits same deed keeps =
      let waits : is_requested x.phase ≡ true = takes_requested x x.phase (is_some setup.link) idle fits.0 fits.1 in
      (requested_took y y.phase (ap is_requested same ∙ waits) deed, keeps (waiting_awaits x.phase waits))

-- THE EVENT

module _ {D R I O : Type 0} (d : desks.Ghosts D) (r : roads.Ghosts R I O) (i : link_in.Ghosts I) (o : link_out.Ghosts O) where
  -- what was taken
  abbrev pub took : TakenCommand → Owned I O
  took t = record { took = Some t; asked = false; first = None; unreached = None }

  -- What the writer did that was given the command.
  record IsTaken (w : World) (net : Net) (old : Client I O) (t : TakenCommand) (known after : WriterRecord) (acted : Result (Acted I O) ClientFault) (desk : D) (road road' : R) : Type 0 where
    pub ends : events.StepEnds r i o w net (happens w (own_event old.block (Some t) true)) old.block.0 w.office after road road' acted
    pub fits : (a : Acted I O) → acted ≡ Ok a → PipeFits after.phase a.pipe

  taken_by : (w : World) (net : Net) (old : Client I O) (t : TakenCommand) (known after : WriterRecord) (acted : Result (Acted I O) ClientFault) (desk : D) (road road' : R) → known ≡ given (made_as old.block old.writer t) t.command → events.ActShows r i o known after old.pipe road road' acted → events.FitsActed known after old.pipe acted
      → course_of (known_of old.block old.writer) ≡ course.Takes → ClientStands d r i o w net old desk road → CanTake w old t → IsTaken w net old t known after acted desk road road'
  taken_by w net old t known after acted desk road road' is shows fits of stands can =
      let c : ClientShows i o w net old = stands.client_is in
      let x : WriterRecord = known_of old.block old.writer in
      let does : TakesIt (w.writers old.block.0).known t = takes_it w old.block t c.told can.enabled in
      let filled : not (is_empty (given x t.command).queue) ≡ true = subst (λ (y : WriterRecord). not (is_empty (given y t.command).queue) ≡ true) c.writer does.filled in
      let given_is : known ≡ given_to (w.writers old.block.0).known (Some t) = is ∙ (made_given old.block old.writer t can.makes filled ∙ ap (λ (y : WriterRecord). given_to y (Some t)) (sym c.writer)) in
      let deed : is_deed (own_step known).action ≡ true = ap (λ (y : WriterRecord). is_deed (own_step y).action) given_is ∙ does.deed in
      let phase_is : known.phase ≡ x.phase = ap (λ (y : WriterRecord). y.phase) given_is ∙ (given_to_phase (w.writers old.block.0).known t ∙ ap (λ (y : WriterRecord). y.phase) c.writer) in
      let connects : awaits x.phase ≡ true → is_connected (own_step known).writer.phase ≡ true = λ a.
      ap (λ (y : WriterRecord). is_connected (own_step y).writer.phase) given_is ∙ can.keeps (ap (λ (y : WriterRecord). awaits y.phase) c.writer ∙ a) in
      let keeps : events.KeepsSetup old.pipe (own_step known) = takes_keeps x known old.pipe (takes_is x of) c.fits phase_is deed connects in
      record {
        ends = shows w net old.block w.office (Some t) true (record { roads_are = stands.roads_are; writer = refl; told = c.told; pipe_is = c.pipe_is; office_is = refl })
            (record { given_is = given_is; enabled = can.enabled; keeps = keeps; spelled = can.spelled });
        fits = λ a e. fits_of known after old.pipe acted a e fits keeps (subst (λ (p : Phase). PipeFits p old.pipe) (sym phase_is) c.fits);
      }
    where
      given_to_phase : (y : WriterRecord) (t : TakenCommand) → (given_to y (Some t)).phase ≡ y.phase
      given_to_phase y t = given_phase (ruled y t.command t.rule) t.command ∙ ruled_phase y t.command t.rule

      fits_of : (known after : WriterRecord) (p : Pipe I O) (acted : Result (Acted I O) ClientFault) (a : Acted I O) → acted ≡ Ok a → events.FitsActed known after p acted → events.KeepsSetup p (own_step known) → PipeFits known.phase p → PipeFits after.phase a.pipe
      fits_of known after p (Ok b) a e fits keeps before = subst (λ (z : Acted I O). PipeFits after.phase z.pipe) (ap (ok_from b) e) (fits keeps before)
      fits_of known after p (Err why) a e fits keeps before = cc

  left_by : (old new : Client I O) (q : Client I O) (middle : Client I O) (t : TakenCommand) (next : ConnId) (desk : D) (road road' : R) (known after : WriterRecord) (acted : Result (Acted I O) ClientFault) → q ≡ record old { queue = q.queue } → q.queue.items ≡ drop 1 old.queue.items → GivesBy q middle t
      → FollowsActed middle new after acted (Ok tt) → course_of (known_of old.block old.writer) ≡ course.Takes → slice_get old.queue.items 0 ≡ Some t → (w : World) (net : Net) (queues : Queues) → ClientStands d r i o w net old desk road → old.queue.items ≡ queues old.block.0
      → IsTaken w net old t known after acted desk road road' → OwnLeft d r i o w net queues next old new desk road' (took t) true
  left_by old new q middle t next desk road road' known after (Err why) same rest gives follows of first w net queues stands queue h = absurd follows
  left_by old new q middle t next desk road road' known after (Ok acted) same rest gives follows of first w net queues stands queue h =
      let c : ClientShows i o w net old = stands.client_is in
      let x : WriterRecord = known_of old.block old.writer in
      let v : World = happens w (own_event old.block (Some t) true) in
      let e : events.StepLeft r i o w net v old.block.0 w.office after acted road' = h.ends in
      let does : IsDone (own_step x).action old.block.0 (queues old.block.0) (acting old.block.0 (slice_get (queues old.block.0) 0) ∷ []) (drop 1 (queues old.block.0)) = takes_done x old.block.0 (queues old.block.0) (takes_is x of) in
      let front : slice_get (queues old.block.0) 0 ≡ Some t = ap (λ (xs : List TakenCommand). slice_get xs 0) (sym queue) ∙ first in
      record {
        made = e.shows.made;
        events = ap (λ (a : Action). own_events a old.block.0 (queues old.block.0)) (same_action w old.block x c.writer) ∙ (does.events_are ∙ ap (λ (o : Option TakenCommand). acting old.block.0 o ∷ []) front);
        shows = client_left_of d r i o w net v e.shows.made old new after acted.pipe acted.said desk road' (follows.block ∙ (gives.block ∙ ap (λ (y : Client I O). y.block) same)) (follows.rule ∙ (gives.rule ∙ ap (λ (y : Client I O). y.rule) same)) follows.writer_is follows.pipe_is
            (follows.said_is ∙ ap (λ (xs : List Said). xs ++ said_list acted.said) (gives.said_is ∙ ap (λ (y : Client I O). y.said.items) same)) c
            (record { roads_are = e.shows.stands.roads_are; writer = e.shows.stands.writer; told = e.shows.stands.told; pipe_is = e.shows.stands.pipe_is; office_is = refl }) e.shows.others (h.fits acted refl)
            (stands.office_is ∙ ap Some e.shows.stands.office_is) e.said;
        queue = queue_same w old.block (record old { queue = q.queue }) new queues x (drop 1 (queues old.block.0)) c.writer (follows.queue ∙ gives.queue) (rest ∙ ap (drop 1) queue) does.queue_is;
        first = tt;
        none = λ _. untold_conns w old.block (Some t) true c.told;
        more = tt;
      }

  acts_with : (middle new : Client I O) (known : WriterRecord) (road road' : R) (result : Result (Unit {0}) ClientFault) → middle.writer ≡ Some known → Acts r i o middle new road road' result → ActsBy r i o known middle new road road' result
  acts_with middle new known road road' result e h = subst (λ (y : Option WriterRecord). ActsIf r i o y middle new road road' result) e h

  ok_taken : (t : TakenCommand) (acted : Result (Unit {0}) ClientFault) → Ok (Some t) ≡ taken_of t acted → acted ≡ Ok tt
  ok_taken t (Ok u) e = refl
  ok_taken t (Err why) e = cc

  pub takes_left : (old new : Client I O) (t : TakenCommand) (next : ConnId) (desk : D) (road road' : R) → TakesBy r i o old new t road road' (Ok (Some t)) → course_of (known_of old.block old.writer) ≡ course.Takes → slice_get old.queue.items 0 ≡ Some t
      → (w : World) (net : Net) (queues : Queues) → ClientStands d r i o w net old desk road → old.queue.items ≡ queues old.block.0 → CanTake w old t → OwnLeft d r i o w net queues next old new desk road' (took t) true
  takes_left old new t next desk road road' by of first w net queues stands queue can =
      let known : WriterRecord = given (made_as old.block old.writer t) t.command in
      let g : GivesBy by.popped by.middle t = by.gives in
      let written : by.middle.writer ≡ Some known = g.writer_is ∙ ap (λ (y : Client I O). Some (given (made_as y.block y.writer t) t.command)) by.same in
      let acts : ActsBy r i o known by.middle new road road' (Ok tt) = acts_with by.middle new known road road' (Ok tt) written (subst (λ (z : Result (Unit {0}) ClientFault). Acts r i o by.middle new road road' z) (ok_taken t by.acted by.ends) by.acts) in
      let piped : by.middle.pipe ≡ old.pipe = g.pipe_is ∙ ap (λ (y : Client I O). y.pipe) by.same in
      left_by old new by.popped by.middle t next desk road road' known acts.after acts.acted by.same by.queue g acts.follows of first w net queues stands queue
      (taken_by w net old t known acts.after acts.acted desk road road' refl (subst (λ (p : Pipe I O). events.ActShows r i o known acts.after p road road' acts.acted) piped acts.shows) (subst (λ (p : Pipe I O). events.FitsActed known acts.after p acts.acted) piped acts.fits) of stands can)

  failed_by : (middle new : Client I O) (why : ClientFault) (w : World) (net : Net) (v : World) (b : ℕ) (after : WriterRecord) (acted : Result (Acted I O) ClientFault) (road road' : R) → FollowsActed middle new after acted (Err why) → events.StepEnds r i o w net v b w.office after road road' acted → IsCaused r road road' why
  failed_by middle new why w net v b after (Ok acted) road road' follows ends = memory_caused d r i o why road road' follows
  failed_by middle new why w net v b after (Err first) road road' follows ends = subst (λ (e : ClientFault). IsCaused r road road' e) (sym follows) (caused d r i o (w.writers b).conn road road' first ends)

  err_taken : (t : TakenCommand) (why : ClientFault) (acted : Result (Unit {0}) ClientFault) → Err why ≡ taken_of t acted → acted ≡ Err why
  err_taken t why (Ok u) e = cc
  err_taken t why (Err other) e = ap (λ (z : Result (Option TakenCommand) ClientFault). err_as why z) (sym e)
    where
      err_as : ClientFault → Result (Option TakenCommand) ClientFault → Result (Unit {0}) ClientFault
      err_as z (Ok a) = Err z
      err_as z (Err f) = Err f

  pub takes_failed : (old new : Client I O) (t : TakenCommand) (desk : D) (road road' : R) (why : ClientFault) → TakesBy r i o old new t road road' (Err why) → course_of (known_of old.block old.writer) ≡ course.Takes
      → (w : World) (net : Net) → ClientStands d r i o w net old desk road → CanTake w old t → IsCaused r road road' why
  takes_failed old new t desk road road' why by of w net stands can =
      let known : WriterRecord = given (made_as old.block old.writer t) t.command in
      let g : GivesBy by.popped by.middle t = by.gives in
      let written : by.middle.writer ≡ Some known = g.writer_is ∙ ap (λ (y : Client I O). Some (given (made_as y.block y.writer t) t.command)) by.same in
      let acts : ActsBy r i o known by.middle new road road' (Err why) = acts_with by.middle new known road road' (Err why) written (subst (λ (z : Result (Unit {0}) ClientFault). Acts r i o by.middle new road road' z) (err_taken t why by.acted by.ends) by.acts) in
      let piped : by.middle.pipe ≡ old.pipe = g.pipe_is ∙ ap (λ (y : Client I O). y.pipe) by.same in
      let h = taken_by w net old t known acts.after acts.acted desk road road' refl (subst (λ (p : Pipe I O). events.ActShows r i o known acts.after p road road' acts.acted) piped acts.shows) (subst (λ (p : Pipe I O). events.FitsActed known acts.after p acts.acted) piped acts.fits) of stands can in
      failed_by by.middle new why w net (happens w (own_event old.block (Some t) true)) old.block.0 acts.after acts.acted road road' acts.follows h.ends
