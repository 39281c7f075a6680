-- A client's own step, and the world after it.
use Rattle.std.proofs.Common.{◌≡◌, ◌≢◌, ◌≤◌, ◌<◌, ◌+◌, ℕ, Bool, true, false, List, [], ◌∷◌, ◌++◌, map, slice_get, Option, Some, None, IfSome, Result, Ok, Err, refl, sym, ap, ◌∙◌, subst, append-nil}
use Rattle.std.specs.Prelude.{is_some, ◌&&◌}
use Rattle.hd_base.specs.declared.ends.Conn.{Conn}
use Rattle.hd_base.specs.declared.numbers.BlockId.{BlockId}
use Rattle.hd_base.specs.declared.numbers.ConnId.{ConnId}
use Rattle.hd_base.specs.declared.numbers.NodeId.{NodeId}
use Rattle.hd_base.specs.declared.numbers.Stamp.{Stamp}
use Rattle.hd_base.specs.declared.links.LinkIn as link_in
use Rattle.hd_base.specs.declared.links.LinkOut as link_out
use Rattle.hd_base.specs.declared.roads.Roads as roads
use Rattle.hd_base.specs.declared.roads.TheConstants.{FIRST_PORT}
use Rattle.world.specs.MemberCore.TheConstants.{MAX_PORT}
use Rattle.name_core.specs.declared.desks.Desk as desks
use Rattle.client_events.specs.PipeRecovery.Rebuild.{Rebuild}
use Rattle.client_events.specs.PipeRecovery.Steps.{fits_in, fits_accepted, is_stamped}
use Rattle.road_traffic.specs.Showing.{Net, EndIs}
use Rattle.world.specs.declared.events.TakenCommand.{TakenCommand}
use Rattle.world.specs.Parts as parts
use Rattle.world.specs.Parts.{by_writer, idle}
use Rattle.world.specs.Worlds.{World}
use Rattle.world.specs.Events.{happens}
use Rattle.client_events.specs.WorldNets.Nets.{IsEndOf, held_by}
use Rattle.writer_core.specs.declared.actions.Action.{Action}
use Rattle.writer_core.specs.declared.commands.Command.{Command}
use Rattle.writer_core.specs.declared.phases.Phase.{Phase}
use Rattle.writer_core.specs.declared.phases.Phase.TheVariants as phase
use Rattle.writer_core.specs.declared.phases.Setup.{Setup}
use Rattle.writer_core.specs.declared.phases.Setup.TheVariants as setup
use Rattle.writer_core.specs.declared.phases.Waiting.{Waiting}
use Rattle.writer_core.specs.declared.records.WriterRecord.{WriterRecord}
use Rattle.writer_core.specs.Transitions.{has_command_due, is_connected, own_step, step_in, is_action, take_first, free_step_as}
use Rattle.play_model.specs.declared.dues.Due.TheVariants as due
use Rattle.play_model.specs.Dues.{Queues, queues_after, own_events, queue_left, asking, acting}
use Rattle.client_events.proofs.MemberEvents.WorldLaws.{at_put}
use Rattle.client_events.specs.declared.acting.Acted.{Acted}
use Rattle.client_events.specs.declared.acting.Said.{Said}
use Rattle.client_events.specs.declared.faults.ClientFault.{ClientFault}
use Rattle.client_events.specs.declared.faults.ClientFault.TheVariants as fault
use Rattle.client_events.specs.declared.pipes.Pipe.{Pipe}
use Rattle.client_events.specs.declared.pipes.Pipe.TheVariants as pipe
use Rattle.client_events.specs.declared.setting_up.SetUp.{SetUp}
use Rattle.client_events.specs.Acting.{said_in}
use Rattle.client_events.specs.Events as events
use Rattle.client_events.specs.Events.{own_event, asked_world}
use Rattle.client_events.specs.Faults as faults
use Rattle.client_events.specs.SettingUp as setting_up
use Rattle.client_events.specs.SettingUp.{IsWanted, IsUnasked}
use Rattle.client_events.specs.Showing as showing
use Rattle.client_events.specs.Showing.{PipeShows, PipeFits, OthersStay, awaits}
use Rattle.play_clients.specs.declared.clients.Client.{Client}
use Rattle.play_clients.specs.declared.clients.First.{First}
use Rattle.play_clients.specs.declared.clients.Owned.{Owned}
use Rattle.play_clients.specs.declared.courses.Course.TheVariants as course
use Rattle.play_clients.specs.Clients.{known_of, said_as, ClientShows, ClientStands, ClientLeft}
use Rattle.play_clients.specs.Courses.{course_of, course_in}
use Rattle.play_clients.specs.Events.{IsCaused, CanActAlone, CanHaveCommitted, CanAskFirst, Reaches, FirstShows, OwnLeft, OwnDone}
use Rattle.play_clients.specs.Owning.{IsWith, said_list, FollowsActed, ActsBy, FollowsSaid, CompletesBy, CommitsBy, first_node, first_of, FollowsSetUp, SetsUpBy}
use Rattle.play_clients.proofs.CourseLaws.{IsCourse, IsDone, course_is, acts_done, commits_done, sets_up_done, completes_done, finished_so}
use Rattle.play_clients.proofs.HearLaws.{caused}
use Rattle.play_clients.proofs.DialLaws.{untold_conns, unanswered_conns, asked_conns, asked_dials}

-- ANSWERS

said_more : (old : List Said) (s : Option Said) (was now : List parts.Said) → map said_as old ≡ was → now ≡ was ++ said_in s → map said_as (old ++ said_list s) ≡ now
said_more old s was now h k = joined old s ∙ (ap (λ (xs : List parts.Said). xs ++ said_in s) h ∙ sym k)
  where
    one : (s : Option Said) → map said_as (said_list s) ≡ said_in s
    one None = refl
    one (Some x) = refl

    joined : (old : List Said) (s : Option Said) → map said_as (old ++ said_list s) ≡ map said_as old ++ said_in s
    joined [] s = one s
    joined (x ∷ xs) s = ap (λ (ys : List parts.Said). said_as x ∷ ys) (joined xs s)

-- RESULTS

abbrev ok_of : {A : Type 0} → A → Result A ClientFault → A
ok_of z (Ok a) = a
ok_of z (Err e) = z

abbrev err_of : {A : Type 0} → ClientFault → Result A ClientFault → ClientFault
err_of z (Ok a) = z
err_of z (Err e) = e

-- WHAT IS DUE

-- The writer's next action is that of the world's.
pub same_action : (w : World) (block : BlockId) (x : WriterRecord) → (w.writers block.0).known ≡ x → (own_step (w.writers block.0).known).action ≡ (own_step x).action
same_action w block x e = ap (λ (y : WriterRecord). (own_step y).action) e

-- A writer that has no command does nothing while it waits for the answer to its request.
take_idle : (x : WriterRecord) (queue : List Command) → queue ≡ [] → is_action (take_first x (slice_get queue 0)).action ≡ false
take_idle x [] e = refl
take_idle x (c ∷ cs) e = cc

free_idle : (x : WriterRecord) (w : Option Waiting) → x.queue ≡ [] → is_action (free_step_as x w).action ≡ false
free_idle x None e = take_idle x x.queue e
free_idle x (Some w) e = refl

never_after : (x : WriterRecord) (s : Setup) (stamp : Stamp) (linked : Bool) → course_in (phase.Accepted s stamp) ≡ course.Acts → fits_accepted s linked ≡ true → ⊥
never_after x setup.Create stamp linked k f = cc
never_after x setup.Append stamp linked k f = cc
never_after x setup.AppendRecovery stamp linked k f = cc
never_after x setup.StreamRecovery stamp linked k f = cc
never_after x setup.CloseRecovery stamp linked k f = cc

true_false : true ≡ false → ⊥
true_false e = cc

never_at : (x : WriterRecord) (p : Phase) (linked : Bool) → is_action (step_in x p).action ≡ true → course_in p ≡ course.Acts → fits_in p linked ≡ true → is_stamped p ≡ false → x.queue ≡ [] → ⊥
never_at x (phase.Wanted s) linked h k f n q = cc
never_at x (phase.Stamped s stamp) linked h k f n q = cc
never_at x (phase.Requested s stamp) linked h k f n q = true_false (sym h ∙ free_idle x x.waiting q)
never_at x (phase.Accepted s stamp) linked h k f n q = never_after x s stamp linked k f
never_at x p linked h k f n q = cc

-- Where a writer does something alone no setup has its connection.
never_acts : (x : WriterRecord) (linked : Bool) → IsCourse x course.Acts → fits_in x.phase linked ≡ true → is_stamped x.phase ≡ false → x.queue ≡ [] → ⊥
unfolding own_step
never_acts x linked k f n q = never_at x x.phase linked k.steps k.at f n q

module _ {I O : Type 0} where
  -- The queue after a step that takes no command.
  pub queue_same : (w : World) (block : BlockId) (old new : Client I O) (queues : Queues) (x : WriterRecord) (left : List TakenCommand) → (w.writers block.0).known ≡ x → new.queue.items ≡ old.queue.items → old.queue.items ≡ left → queue_left (own_step x).action (queues block.0) ≡ left
      → new.queue.items ≡ queues_after w queues (due.Own block) block.0
  queue_same w block old new queues x left is same was h =
      same ∙ (was ∙ (sym h ∙ (sym (ap (λ (a : Action). queue_left a (queues block.0)) (same_action w block x is)) ∙ sym (at_put queues block.0 (queue_left (own_step (w.writers block.0).known).action (queues block.0))))))

  -- There is no connection.
  abbrev pub IsClosed : Pipe I O → Type 0
  IsClosed pipe.Closed = Unit {0}
  IsClosed other = ⊥

  fits_closed : (p : Phase) (c : Pipe I O) → IsClosed c → awaits p ≡ false → PipeFits p c
  fits_closed p pipe.Closed h k = k
  fits_closed p (pipe.SettingUp setup) h k = absurd h
  fits_closed p (pipe.Streaming end incoming) h k = absurd h

module _ {I O : Type 0} (i : link_in.Ghosts I) (o : link_out.Ghosts O) where
  unlinked : (v : World) (net : Net) (conn : Option ℕ) (c : Pipe I O) → conn ≡ None → IsClosed c → PipeShows i o v net conn c
  unlinked v net conn pipe.Closed e h = e
  unlinked v net conn (pipe.SettingUp setup) e h = absurd h
  unlinked v net conn (pipe.Streaming end incoming) e h = absurd h

  -- A writer without a connection, whose setup isn't under way, has none.
  is_closed : (w : World) (net : Net) (conn : Option ℕ) (p : Phase) (c : Pipe I O) → conn ≡ None → p ≡ phase.Finished → PipeShows i o w net conn c → PipeFits p c → IsClosed c
  is_closed w net conn p pipe.Closed e f shows fits = tt
  is_closed w net conn p (pipe.SettingUp setup) e f shows fits = absurd (never (is_some setup.link) (subst (λ (q : Phase). fits_in q (is_some setup.link) ≡ true) f fits.0))
    where
      never : (linked : Bool) → false ≡ true → ⊥
      never linked e = cc
  is_closed w net conn p (pipe.Streaming end incoming) e f shows fits = absurd (none_some end.id.0 (sym e ∙ shows.conn_is))
    where
      none_some : (c : ℕ) → None ≡ Some c → ⊥
      none_some c e = cc

  end_kept : (w v : World) (net : Net) (c : ℕ) (lower : Bool) (e : Conn I O) → showing.StayShown w v → IsEndOf i o w net c lower e → IsEndOf i o v net c lower e
  end_kept w v net c lower e stay h = record {
    id = h.id;
    side = h.side;
    within = h.within;
    is = subst (λ (q : Bool). EndIs i o net.traffic false [] (held_by q) e) (sym (stay.over c lower)) h.is;
    taking = h.taking;
  }

module _ {D R I O : Type 0} (d : desks.Ghosts D) (r : roads.Ghosts R I O) (i : link_in.Ghosts I) (o : link_out.Ghosts O) where
  -- The client that has this writer, connection and answer.
  pub client_left_of : (w : World) (net : Net) (v : World) (made : Net) (old new : Client I O) (known : WriterRecord) (left : Pipe I O) (said : Option Said) (desk : D) (road : R) → new.block ≡ old.block → new.rule ≡ old.rule → new.writer ≡ Some known → new.pipe ≡ left
      → new.said.items ≡ old.said.items ++ said_list said → ClientShows i o w net old → showing.ClientStands r i o v made old.block.0 v.office known left road → OthersStay i o w net v made (w.writers old.block.0).conn → PipeFits known.phase left → d.office desk ≡ Some v.office
      → v.said old.block.0 ≡ w.said old.block.0 ++ said_in said → ClientLeft d r i o w net v made old new desk road
  client_left_of w net v made old new known left said desk road block rule writer pipe_is said_is was stands others fits office answers = record {
    stands = record {
      roads_are = stands.roads_are;
      client_is = record {
        writer = ap (λ (b : BlockId). (v.writers b.0).known) block ∙ (sym stands.writer ∙ sym (ap (known_of new.block) writer));
        told = ap (λ (b : BlockId). (v.writers b.0).told) block ∙ stands.told;
        pipe_is = subst (λ (p : Pipe I O). PipeShows i o v made (v.writers new.block.0).conn p) (sym pipe_is)
            (subst (λ (b : BlockId). PipeShows i o v made (v.writers b.0).conn left) (sym block) stands.pipe_is);
        fits = subst (λ (p : Pipe I O). PipeFits (known_of new.block new.writer).phase p) (sym pipe_is)
            (subst (λ (x : WriterRecord). PipeFits x.phase left) (sym (ap (known_of new.block) writer)) fits);
        said = ap (map said_as) said_is ∙ (said_more old.said.items said (w.said old.block.0) (v.said old.block.0) was.said answers ∙ ap (λ (b : BlockId). v.said b.0) (sym block));
      };
      office_is = office;
    };
    others = others;
    block = block;
    rule = rule;
  }

  pub client_left : (w : World) (net : Net) (v : World) (made : Net) (old new : Client I O) (known : WriterRecord) (left : Pipe I O) (said : Option Said) (desk : D) (road : R) → IsWith old new (Some known) left said → ClientShows i o w net old
      → showing.ClientStands r i o v made old.block.0 v.office known left road → OthersStay i o w net v made (w.writers old.block.0).conn → PipeFits known.phase left → d.office desk ≡ Some v.office → v.said old.block.0 ≡ w.said old.block.0 ++ said_in said
      → ClientLeft d r i o w net v made old new desk road
  client_left w net v made old new known left said desk road is was stands others fits office answers =
      client_left_of w net v made old new known left said desk road is.block is.rule is.writer_is is.pipe_is is.said_is was stands others fits office answers

  -- ACTING

  keeps_setup : (x : WriterRecord) (p : Pipe I O) → IsCourse x course.Acts → PipeFits x.phase p → x.queue ≡ [] → events.KeepsSetup p (own_step x)
  keeps_setup x pipe.Closed k f q = tt
  keeps_setup x (pipe.Streaming end incoming) k f q = tt
  keeps_setup x (pipe.SettingUp setup) k f q = absurd (never_acts x (is_some setup.link) k f.0 f.1 q)

  -- what was done alone, with no command
  abbrev pub alone : Owned I O
  alone = record { took = None; asked = false; first = None; unreached = None }

  -- where the office was asked, and nothing dialled
  abbrev pub asked : Owned I O
  asked = record { took = None; asked = true; first = None; unreached = None }

  -- Where no dial was made in vain it is the world in which a dial would be answered.
  pub done_by : (w : World) (net : Net) (queues : Queues) (next : ConnId) (old new : Client I O) (desk : D) (road road' : R) (left : Owned I O) → left.unreached ≡ None → OwnLeft d r i o w net queues next old new desk road' left true → OwnDone d r i o w net queues next old new desk road road' left
  done_by w net queues next old new desk road road' left none h = record {
    cause = subst (λ (u : Option NodeId). IfSome u (λ node. IsUnasked r w node road road')) (sym none) tt;
    alone = subst (λ (u : Option NodeId). IfSome u (λ node. left.first ≡ None)) (sym none) tt;
    shows = λ answered reaches.
        subst (λ (q : Bool). OwnLeft d r i o w net queues next old new desk road' left q) (sym (subst (λ (u : Option NodeId). Reaches w u answered) none reaches)) h;
  }

  pub acts_left : (known : WriterRecord) (old new : Client I O) (next : ConnId) (desk : D) (road road' : R) → old.writer ≡ Some known → ActsBy r i o known old new road road' (Ok tt) → course_of known ≡ course.Acts
      → (w : World) (net : Net) (queues : Queues) → ClientStands d r i o w net old desk road → old.queue.items ≡ queues old.block.0 → CanActAlone w old → OwnLeft d r i o w net queues next old new desk road' alone true
  acts_left known old new next desk road road' is acts of w net queues stands queue can =
      acts_by known old new next desk road road' is acts.after acts.acted acts.shows acts.fits acts.follows (course_is known course.Acts of (λ e. cc)) w net queues stands queue can
    where
      acts_by : (known : WriterRecord) (old new : Client I O) (next : ConnId) (desk : D) (road road' : R) → old.writer ≡ Some known → (after : WriterRecord) (acted : Result (Acted I O) ClientFault) → events.ActShows r i o known after old.pipe road road' acted → events.FitsActed known after old.pipe acted
          → FollowsActed old new after acted (Ok tt) → IsCourse known course.Acts → (w : World) (net : Net) (queues : Queues) → ClientStands d r i o w net old desk road → old.queue.items ≡ queues old.block.0 → CanActAlone w old → OwnLeft d r i o w net queues next old new desk road' alone true
      acts_by known old new next desk road road' is after (Err why) shows fits follows k w net queues stands queue can = absurd follows
      acts_by known old new next desk road road' is after (Ok acted) shows fits follows k w net queues stands queue can =
          let c : ClientShows i o w net old = stands.client_is in
          let known_is : (w.writers old.block.0).known ≡ known = c.writer ∙ ap (known_of old.block) is in
          let v : World = happens w (own_event old.block None true) in
          let quiet : known.queue ≡ [] = subst (λ (x : WriterRecord). x.queue ≡ []) known_is can.quiet in
          let fits_before : PipeFits known.phase old.pipe = subst (λ (x : Option WriterRecord). PipeFits (known_of old.block x).phase old.pipe) is c.fits in
          let keeps : events.KeepsSetup old.pipe (own_step known) = keeps_setup known old.pipe k fits_before quiet in
          let h : events.StepLeft r i o w net v old.block.0 w.office after acted road' = shows w net old.block w.office None true (record { roads_are = stands.roads_are; writer = refl; told = c.told; pipe_is = c.pipe_is; office_is = refl })
          (record { given_is = sym known_is; enabled = can.enabled; keeps = keeps; spelled = can.spelled }) in
          let does : IsDone (own_step known).action old.block.0 (queues old.block.0) (acting old.block.0 None ∷ []) (queues old.block.0) = acts_done known old.block.0 (queues old.block.0) k in
          record {
            made = h.shows.made;
            events = ap (λ (a : Action). own_events a old.block.0 (queues old.block.0)) (same_action w old.block known known_is) ∙ does.events_are;
            shows = client_left w net v h.shows.made old new after acted.pipe acted.said desk road' follows c
                (record { roads_are = h.shows.stands.roads_are; writer = h.shows.stands.writer; told = h.shows.stands.told; pipe_is = h.shows.stands.pipe_is; office_is = refl }) h.shows.others (fits keeps fits_before)
                (stands.office_is ∙ ap Some h.shows.stands.office_is) h.said;
            queue = queue_same w old.block old new queues known (queues old.block.0) known_is follows.queue queue does.queue_is;
            first = tt;
            none = λ _. untold_conns w old.block None true c.told;
            more = tt;
          }

  -- A fault that was there before, or want of memory.
  acted_caused : (w : World) (conn : Option ℕ) (old new : Client I O) (after : WriterRecord) (first why : ClientFault) (road road' : R) → faults.IsCaused r conn road road' first → FollowsActed old new after (Err first) (Err why) → IsCaused r road road' why
  acted_caused w conn old new after first why road road' h follows = subst (λ (e : ClientFault). IsCaused r road road' e) (sym follows) (caused d r i o conn road road' first h)

  pub memory_caused : (why : ClientFault) (road road' : R) → why ≡ fault.Memory → IsCaused r road road' why
  memory_caused why road road' e = subst (λ (f : ClientFault). IsCaused r road road' f) (sym e) tt

  pub acts_failed : (known : WriterRecord) (old new : Client I O) (desk : D) (road road' : R) (why : ClientFault) → old.writer ≡ Some known → ActsBy r i o known old new road road' (Err why) → course_of known ≡ course.Acts
      → (w : World) (net : Net) (queues : Queues) → ClientStands d r i o w net old desk road → CanActAlone w old → IsCaused r road road' why
  acts_failed known old new desk road road' why is acts of w net queues stands can =
      fails acts.after acts.acted acts.shows acts.follows
    where
      fails : (after : WriterRecord) (acted : Result (Acted I O) ClientFault) → events.ActShows r i o known after old.pipe road road' acted → FollowsActed old new after acted (Err why) → IsCaused r road road' why
      fails after (Ok acted) shows follows = memory_caused why road road' follows
      fails after (Err first) shows follows =
          let c : ClientShows i o w net old = stands.client_is in
          let known_is : (w.writers old.block.0).known ≡ known = c.writer ∙ ap (known_of old.block) is in
          let quiet : known.queue ≡ [] = subst (λ (x : WriterRecord). x.queue ≡ []) known_is can.quiet in
          let fits_before : PipeFits known.phase old.pipe = subst (λ (x : Option WriterRecord). PipeFits (known_of old.block x).phase old.pipe) is c.fits in
          acted_caused w (w.writers old.block.0).conn old new after first why road road'
          (shows w net old.block w.office None true (record { roads_are = stands.roads_are; writer = refl; told = c.told; pipe_is = c.pipe_is; office_is = refl })
          (record { given_is = sym known_is; enabled = can.enabled; keeps = keeps_setup known old.pipe (course_is known course.Acts of (λ e. cc)) fits_before quiet; spelled = can.spelled })) follows

  -- COMPLETING

  pub completes_left : (known : WriterRecord) (old new : Client I O) (next : ConnId) (desk desk' : D) (road : R) → old.writer ≡ Some known → CompletesBy d known old new desk desk' (Ok tt) → course_of known ≡ course.Completes
      → (w : World) (net : Net) (queues : Queues) → ClientStands d r i o w net old desk road → old.queue.items ≡ queues old.block.0 → (is_connected (w.writers old.block.0).known.phase ≡ false → (w.writers old.block.0).conn ≡ None)
      → OwnLeft d r i o w net queues next old new desk' road asked true
  completes_left known old new next desk desk' road is by of w net queues stands queue rests = completes_as by.after by.said by.shows by.fits by.follows
    where
      completes_as : (after : WriterRecord) (said : Result (Option Said) ClientFault) → events.CompleteShows d known after desk desk' said → (awaits known.phase ≡ false → awaits after.phase ≡ false) → FollowsSaid old new after said (Ok tt) → OwnLeft d r i o w net queues next old new desk' road asked true
      completes_as after (Err first) shows fits follows = absurd follows
      completes_as after (Ok said) shows fits follows =
          let c : ClientShows i o w net old = stands.client_is in
          let known_is : (w.writers old.block.0).known ≡ known = c.writer ∙ ap (known_of old.block) is in
          let k : IsCourse known course.Completes = course_is known course.Completes of (λ e. cc) in
          let finished : known.phase ≡ phase.Finished = finished_so known.phase k.at in
          let unconnected : is_connected (w.writers old.block.0).known.phase ≡ false = ap (λ (x : WriterRecord). is_connected x.phase) known_is ∙ ap is_connected finished in
          let conn : (w.writers old.block.0).conn ≡ None = rests unconnected in
          let closed : IsClosed old.pipe = is_closed i o w net (w.writers old.block.0).conn known.phase old.pipe conn finished c.pipe_is (subst (λ (x : Option WriterRecord). PipeFits (known_of old.block x).phase old.pipe) is c.fits) in
          let v : World = asked_world w old.block true in
          let h : events.CompleteLeft d w v old.block.0 after desk' said = shows w old.block true (record { writer = sym known_is; finished = finished; conn = conn; told = c.told; office = stands.office_is }) in
          let does : IsDone (own_step known).action old.block.0 (queues old.block.0) (asking old.block.0 ∷ acting old.block.0 None ∷ []) (queues old.block.0) = completes_done known old.block.0 (queues old.block.0) finished in
          record {
            made = net;
            events = ap (λ (a : Action). own_events a old.block.0 (queues old.block.0)) (same_action w old.block known known_is) ∙ does.events_are;
            shows = client_left w net v net old new after old.pipe said desk' road follows c
                (record {
                  roads_are = record { is_net = h.stay.nets net stands.roads_are.is_net; sane = stands.roads_are.sane; shows = stands.roads_are.shows };
                  writer = sym (ap (λ (x : parts.Writing). x.known) h.writer);
                  told = ap (λ (x : parts.Writing). x.told) h.writer;
                  pipe_is = unlinked i o v net (v.writers old.block.0).conn old.pipe (ap (λ (x : parts.Writing). x.conn) h.writer) closed;
                  office_is = refl;
                }) (λ e lower at_end apart. end_kept i o w v net e lower at_end h.stay) (fits_closed after.phase old.pipe closed (fits (ap awaits finished))) h.office h.said_is;
            queue = queue_same w old.block old new queues known (queues old.block.0) known_is follows.queue queue does.queue_is;
            first = tt;
            none = λ _. asked_conns w old.block after (sym (ap (λ (x : parts.Writing). x.known) h.writer))
                (sym (ap (λ (x : parts.Writing). x.known) (shows w old.block false (record { writer = sym known_is; finished = finished; conn = conn; told = c.told; office = stands.office_is })).writer));
            more = tt;
          }

  pub completes_failed : (known : WriterRecord) (old new : Client I O) (desk desk' : D) (road : R) (why : ClientFault) → old.writer ≡ Some known → CompletesBy d known old new desk desk' (Err why) → course_of known ≡ course.Completes
      → (w : World) (net : Net) → ClientStands d r i o w net old desk road → (is_connected (w.writers old.block.0).known.phase ≡ false → (w.writers old.block.0).conn ≡ None) → IsCaused r road road why
  completes_failed known old new desk desk' road why is by of w net stands rests = fails by.after by.said by.shows by.follows
    where
      fails : (after : WriterRecord) (said : Result (Option Said) ClientFault) → events.CompleteShows d known after desk desk' said → FollowsSaid old new after said (Err why) → IsCaused r road road why
      fails after (Ok said) shows follows = memory_caused why road road follows
      fails after (Err first) shows follows =
          let c : ClientShows i o w net old = stands.client_is in
          let known_is : (w.writers old.block.0).known ≡ known = c.writer ∙ ap (known_of old.block) is in
          let k : IsCourse known course.Completes = course_is known course.Completes of (λ e. cc) in
          let finished : known.phase ≡ phase.Finished = finished_so known.phase k.at in
          let unconnected : is_connected (w.writers old.block.0).known.phase ≡ false = ap (λ (x : WriterRecord). is_connected x.phase) known_is ∙ ap is_connected finished in
          memory_caused why road road (follows ∙ shows w old.block true (record { writer = sym known_is; finished = finished; conn = rests unconnected; told = c.told; office = stands.office_is }))

  -- COMMITTING

  pub commits_left : (known : WriterRecord) (setup : Rebuild I O) (old new : Client I O) (next : ConnId) (desk desk' : D) (road road' : R) → old.writer ≡ Some known → CommitsBy d r i o known setup old new desk desk' road road' (Ok tt) → course_of known ≡ course.Commits
      → (w : World) (net : Net) (queues : Queues) → ClientStands d r i o w net old desk road → PipeShows i o w net (w.writers old.block.0).conn (pipe.SettingUp setup) → PipeFits known.phase (pipe.SettingUp setup) → old.queue.items ≡ queues old.block.0 → CanHaveCommitted w old.block.0
      → OwnLeft d r i o w net queues next old new desk' road' asked true
  commits_left known setup old new next desk desk' road road' is by of w net queues stands linked fitted queue can = commits_as by.after by.acted by.shows by.fits by.follows
    where
      commits_as : (after : WriterRecord) (acted : Result (Acted I O) ClientFault) → events.CommitShows d r i o known after setup desk desk' road road' acted → events.FitsCommitted known after setup acted → FollowsActed old new after acted (Ok tt)
          → OwnLeft d r i o w net queues next old new desk' road' asked true
      commits_as after (Err first) shows fits follows = absurd follows
      commits_as after (Ok acted) shows fits follows =
          let c : ClientShows i o w net old = stands.client_is in
          let known_is : (w.writers old.block.0).known ≡ known = c.writer ∙ ap (known_of old.block) is in
          let v : World = asked_world w old.block true in
          let either = λ (answered : Bool). shows w net old.block answered (record { roads_are = stands.roads_are; writer = sym known_is; told = c.told; pipe_is = linked; office_is = refl })
          (record { office = stands.office_is; members = subst (λ (x : WriterRecord). x.members ≢ []) known_is can.members; untaken = can.untaken }) in
          let h = either true in
          let does : IsDone (own_step known).action old.block.0 (queues old.block.0) (asking old.block.0 ∷ acting old.block.0 None ∷ []) (queues old.block.0) = commits_done known old.block.0 (queues old.block.0) (course_is known course.Commits of (λ e. cc)) in
          record {
            made = h.1.shows.made;
            events = ap (λ (a : Action). own_events a old.block.0 (queues old.block.0)) (same_action w old.block known known_is) ∙ does.events_are;
            shows = client_left w net v h.1.shows.made old new after acted.pipe acted.said desk' road' follows c h.1.shows.stands h.1.shows.others (fits fitted) h.0 h.1.said;
            queue = queue_same w old.block old new queues known (queues old.block.0) known_is follows.queue queue does.queue_is;
            first = tt;
            none = λ _. asked_conns w old.block after h.1.shows.stands.writer (either false).1.shows.stands.writer;
            more = tt;
          }

  pub commits_failed : (known : WriterRecord) (setup : Rebuild I O) (old new : Client I O) (desk desk' : D) (road road' : R) (why : ClientFault) → old.writer ≡ Some known → CommitsBy d r i o known setup old new desk desk' road road' (Err why)
      → (w : World) (net : Net) → ClientStands d r i o w net old desk road → PipeShows i o w net (w.writers old.block.0).conn (pipe.SettingUp setup) → CanHaveCommitted w old.block.0 → IsCaused r road road' why
  commits_failed known setup old new desk desk' road road' why is by w net stands linked can = fails by.after by.acted by.shows by.follows
    where
      fails : (after : WriterRecord) (acted : Result (Acted I O) ClientFault) → events.CommitShows d r i o known after setup desk desk' road road' acted → FollowsActed old new after acted (Err why) → IsCaused r road road' why
      fails after (Ok acted) shows follows = memory_caused why road road' follows
      fails after (Err first) shows follows =
          let c : ClientShows i o w net old = stands.client_is in
          let known_is : (w.writers old.block.0).known ≡ known = c.writer ∙ ap (known_of old.block) is in
          acted_caused w (w.writers old.block.0).conn old new after first why road road'
          (shows w net old.block true (record { roads_are = stands.roads_are; writer = sym known_is; told = c.told; pipe_is = linked; office_is = refl })
          (record { office = stands.office_is; members = subst (λ (x : WriterRecord). x.members ≢ []) known_is can.members; untaken = can.untaken })) follows

  -- SETTING UP

  first_shown : (v : World) (made : Net) (b : ℕ) (next : ConnId) (after : WriterRecord) (at_end : Conn I O) (member : NodeId) → IsEndOf i o v made next.0 true at_end → (v.dialled next.0).upper ≡ by_writer b → slice_get after.members 0 ≡ Some member → (v.dialled next.0).to.node ≡ member.0 → v.lowers next.0 ≡ idle
      → IfSome (first_of after (Some at_end)) (FirstShows i o v made b next)
  first_shown v made b next after at_end member end upper first node lower = record {
    end_is = end;
    upper = upper;
    node = node ∙ ap (λ (n : NodeId). n.0) (first_same after.members member first);
    idle_is = lower;
  }
    where
      first_same : (ns : List NodeId) (m : NodeId) → slice_get ns 0 ≡ Some m → m ≡ first_node ns
      first_same [] m e = cc
      first_same (n ∷ ns) m e = cc

  -- What is left, the lower end that is handed back, and which connections there are.
  record SetUpSo (w : World) (net : Net) (block : BlockId) (next : ConnId) (after : WriterRecord) (desk' : D) (road' : R) (p : Pipe I O) (first : Option (First I O)) (answered : Bool) : Type 0 where
    left : setting_up.SetUpLeft d r i o w net (asked_world w block answered) block.0 after desk' p road'
    shown : IfSome first (FirstShows i o (asked_world w block answered) left.shows.made block.0 next)
    none : first ≡ None → (asked_world w block answered).next_conn ≡ w.next_conn
    more : IfSome first (λ f. (asked_world w block answered).next_conn ≡ w.next_conn + 1)

  -- The same by the dial of the first member.
  record SetUpAs (w : World) (net : Net) (block : BlockId) (next : ConnId) (after : WriterRecord) (desk' : D) (road road' : R) (p : Pipe I O) (first : Option (First I O)) (unreached : Option NodeId) : Type 0 where
    cause : IfSome unreached (λ node. IsUnasked r w node road road')
    alone_is : IfSome unreached (λ node. first ≡ None)
    so : (answered : Bool) → Reaches w unreached answered → SetUpSo w net block next after desk' road' p first answered

  some_none : (f : First I O) → Some f ≡ None → ⊥
  some_none f e = cc

  -- Nothing was dialled where the first member wasn't reached.
  unreached_conns : (w : World) (net : Net) (block : BlockId) (known after : WriterRecord) (desk' : D) (road road' : R) (p : Pipe I O) (node : NodeId) → setting_up.FirstUnreached d r i o w net block known after desk' road road' p node → (answered : Bool) → (answered && w.running node.0) ≡ false
      → (asked_world w block answered).next_conn ≡ w.next_conn
  unreached_conns w net block known after desk' road road' p node h false off = unanswered_conns w block
  unreached_conns w net block known after desk' road road' p node h true off = asked_conns w block after (h.is_left true off).shows.stands.writer (h.is_left false refl).shows.stands.writer

  set_up_by : (w : World) (net : Net) (block : BlockId) (next : ConnId) (known after : WriterRecord) (desk' : D) (road road' : R) (p : Pipe I O) (first : Option (Conn I O)) (unreached : Option NodeId) → setting_up.SetUpBy d r i o w net block next.0 known after desk' road road' p first unreached → w.lowers next.0 ≡ idle
      → next.0 ≡ w.next_conn → SetUpAs w net block next after desk' road road' p (first_of after first) unreached
  set_up_by w net block next known after desk' road road' p None None h lower is = record {
    cause = tt;
    alone_is = tt;
    so = λ answered at. subst (λ (q : Bool). SetUpSo w net block next after desk' road' p None q) (sym at) (record {
      left = h true;
      shown = tt;
      none = λ _. asked_conns w block after (h true).shows.stands.writer (h false).shows.stands.writer;
      more = tt;
    });
  }
  set_up_by w net block next known after desk' road road' p (Some at_end) None h lower is = record {
    cause = tt;
    alone_is = tt;
    so = λ answered at. subst (λ (q : Bool). SetUpSo w net block next after desk' road' p (first_of after (Some at_end)) q) (sym at) (record {
      left = h.is_left;
      shown = first_shown (asked_world w block true) h.is_left.shows.made block.0 next after at_end h.member h.end_is h.upper h.first h.node (h.lower_same ∙ lower);
      none = λ e. absurd (some_none (record { node = first_node after.members; end = at_end }) e);
      more = asked_dials w block
          (subst (λ (n : ℕ). w.next_conn < n) h.is_left.shows.stands.roads_are.is_net.conns (subst (λ (n : ℕ). n < h.is_left.shows.made.conns) is h.end_is.within));
    });
  }
  set_up_by w net block next known after desk' road road' p None (Some node) h lower is = record {
    cause = h.cause;
    alone_is = refl;
    so = λ answered off. record {
      left = h.is_left answered off;
      shown = tt;
      none = λ _. unreached_conns w net block known after desk' road road' p node h answered off;
      more = tt;
    };
  }
  set_up_by w net block next known after desk' road road' p (Some at_end) (Some node) h lower is = absurd h

  pub sets_up_left : (known : WriterRecord) (setup : Rebuild I O) (old new : Client I O) (next : ConnId) (desk desk' : D) (road road' : R) (owned : Owned I O) → old.writer ≡ Some known → SetsUpBy d r i o next known setup old new desk desk' road road' (Ok owned)
      → IsWanted known.phase → (w : World) (net : Net) (queues : Queues) → ClientStands d r i o w net old desk road → PipeShows i o w net (w.writers old.block.0).conn (pipe.SettingUp setup) → PipeFits known.phase (pipe.SettingUp setup) → old.queue.items ≡ queues old.block.0
      → CanAskFirst w old.block next → OwnDone d r i o w net queues next old new desk' road road' owned
  sets_up_left known setup old new next desk desk' road road' owned is by wanted w net queues stands linked fitted queue can = sets_up_as by.after by.left by.shows by.fits by.follows
    where
      sets_up_as : (after : WriterRecord) (left : Result (SetUp I O) ClientFault) → setting_up.SetUpShows d r i o next known after setup desk desk' road road' left → setting_up.FitsSetUp known after setup left → FollowsSetUp old new after left (Ok owned)
          → OwnDone d r i o w net queues next old new desk' road road' owned
      sets_up_as after (Err why) shows fits follows = cc
      sets_up_as after (Ok left) shows fits follows =
          let c : ClientShows i o w net old = stands.client_is in
          let known_is : (w.writers old.block.0).known ≡ known = c.writer ∙ ap (known_of old.block) is in
          let met = set_up_by w net old.block next known after desk' road road' left.pipe left.first left.unreached (shows w net old.block (record { roads_are = stands.roads_are; writer = sym known_is; told = c.told; pipe_is = linked; office_is = refl })
          (record {
            office = stands.office_is;
            next_is = can.next_is;
            no_command = subst (λ (x : WriterRecord). has_command_due x ≡ false) known_is can.no_command;
            has_port = subst (λ (x : WriterRecord). IfSome (slice_get x.members 0) (λ n. FIRST_PORT + n.0 ≤ MAX_PORT)) known_is can.has_port;
            spelled = can.spelled;
          })) can.undialled can.next_is in
          let does : IsDone (own_step known).action old.block.0 (queues old.block.0) (asking old.block.0 ∷ acting old.block.0 None ∷ []) (queues old.block.0) = sets_up_done known old.block.0 (queues old.block.0) wanted in
          subst (λ (q : Owned I O). OwnDone d r i o w net queues next old new desk' road road' q) (sym (ap (ok_of owned) follows.1)) (record {
            cause = met.cause;
            alone = met.alone_is;
            shows = λ answered reaches.
                let h = met.so answered reaches in
                record {
                  made = h.left.shows.made;
                  events = ap (λ (a : Action). own_events a old.block.0 (queues old.block.0)) (same_action w old.block known known_is) ∙ does.events_are;
                  shows = client_left w net (asked_world w old.block answered) h.left.shows.made old new after left.pipe None desk' road' follows.0 c h.left.shows.stands h.left.shows.others (fits (subst (λ (x : WriterRecord). x.members ≢ []) known_is can.members) fitted) h.left.office (h.left.said ∙ sym (append-nil (w.said old.block.0)));
                  queue = queue_same w old.block old new queues known (queues old.block.0) known_is follows.0.queue queue does.queue_is;
                  first = h.shown;
                  none = h.none;
                  more = h.more;
                };
          })

  pub sets_up_failed : (known : WriterRecord) (setup : Rebuild I O) (old new : Client I O) (next : ConnId) (desk desk' : D) (road road' : R) (why : ClientFault) → old.writer ≡ Some known → SetsUpBy d r i o next known setup old new desk desk' road road' (Err why)
      → (w : World) (net : Net) → ClientStands d r i o w net old desk road → PipeShows i o w net (w.writers old.block.0).conn (pipe.SettingUp setup) → CanAskFirst w old.block next → IsCaused r road road' why
  sets_up_failed known setup old new next desk desk' road road' why is by w net stands linked can = fails by.after by.left by.shows by.follows
    where
      fails : (after : WriterRecord) (left : Result (SetUp I O) ClientFault) → setting_up.SetUpShows d r i o next known after setup desk desk' road road' left → FollowsSetUp old new after left (Err why) → IsCaused r road road' why
      fails after (Ok left) shows follows = cc
      fails after (Err first) shows follows =
          let c : ClientShows i o w net old = stands.client_is in
          let known_is : (w.writers old.block.0).known ≡ known = c.writer ∙ ap (known_of old.block) is in
          subst (λ (e : ClientFault). IsCaused r road road' e) (ap (err_of first) (sym follows)) (caused d r i o (Some next.0) road road' first
          (shows w net old.block (record { roads_are = stands.roads_are; writer = sym known_is; told = c.told; pipe_is = linked; office_is = refl })
          (record {
            office = stands.office_is;
            next_is = can.next_is;
            no_command = subst (λ (x : WriterRecord). has_command_due x ≡ false) known_is can.no_command;
            has_port = subst (λ (x : WriterRecord). IfSome (slice_get x.members 0) (λ n. FIRST_PORT + n.0 ≤ MAX_PORT)) known_is can.has_port;
            spelled = can.spelled;
          })))
