-- A client's own step shows the world after it, whatever the step is.
use Rattle.std.proofs.Common.{◌≡◌, ℕ, Bool, true, false, List, slice_get, Option, Some, None, IfSome, Result, Ok, Err, refl, sym, ap, ◌∙◌, subst, ◌⊎◌, inl, inr}
use Rattle.std.specs.Prelude.{◌||◌, ◌&&◌, is_some, is_none}
use Rattle.hd_base.specs.declared.numbers.BlockId.{BlockId}
use Rattle.hd_base.specs.declared.numbers.ConnId.{ConnId}
use Rattle.hd_base.specs.declared.numbers.Stamp.{Stamp}
use Rattle.hd_base.specs.declared.links.LinkIn as link_in
use Rattle.hd_base.specs.declared.links.LinkOut as link_out
use Rattle.hd_base.specs.declared.roads.Roads as roads
use Rattle.name_core.specs.declared.desks.Desk as desks
use Rattle.client_events.specs.PipeRecovery.Rebuild.{Rebuild}
use Rattle.client_events.specs.PipeRecovery.Steps.{fits_in, is_stamped}
use Rattle.road_traffic.specs.Showing.{Net}
use Rattle.world.specs.declared.events.TakenCommand.{TakenCommand}
use Rattle.world.specs.Worlds.{World}
use Rattle.writer_core.specs.declared.phases.Phase.{Phase}
use Rattle.writer_core.specs.declared.phases.Phase.TheVariants as phase
use Rattle.writer_core.specs.declared.phases.Setup.{Setup}
use Rattle.writer_core.specs.declared.phases.Setup.TheVariants as setup
use Rattle.writer_core.specs.declared.records.WriterRecord.{WriterRecord}
use Rattle.writer_core.specs.Transitions.{has_step, is_connected}
use Rattle.play_model.specs.declared.dues.Due.TheVariants as due
use Rattle.play_model.specs.Dues.{Queues, is_due}
use Rattle.client_events.specs.declared.faults.ClientFault.{ClientFault}
use Rattle.client_events.specs.declared.faults.ClientFault.TheVariants as fault
use Rattle.client_events.specs.declared.pipes.Pipe.{Pipe}
use Rattle.client_events.specs.declared.pipes.Pipe.TheVariants as pipe
use Rattle.client_events.specs.SettingUp.{IsWanted}
use Rattle.client_events.specs.Showing.{awaits, PipeFits, PipeShows}
use Rattle.play_clients.specs.declared.clients.Client.{Client}
use Rattle.play_clients.specs.declared.clients.Owned.{Owned}
use Rattle.play_clients.specs.declared.courses.Course.{Course}
use Rattle.play_clients.specs.declared.courses.Course.TheVariants as course
use Rattle.play_clients.specs.Clients.{known_of, ClientShows, ClientStands}
use Rattle.play_clients.specs.Courses.{course_of, course_in}
use Rattle.play_clients.specs.Events.{IsCaused, CanTake, CanOwn, CanOwnAs, OwnEnds, OwnShows}
use Rattle.play_clients.specs.Owning.{ActsBy, ActsIf, Acts, taken_of, TakesBy, TakesIf, Takes, CompletesBy, CompletesIf, Completes, setup_of, CommitsBy, CommitsFitting, CommitsIf, Commits, SetsUpBy, SetsUpFitting, SetsUpIf, SetsUp}
use Rattle.play_clients.proofs.CourseLaws.{fresh_course, course_is, takes_is, wanted_so}
use Rattle.play_clients.proofs.HearLaws.{FailsAs}
use Rattle.play_clients.proofs.OwnLaws.{alone, asked, done_by, acts_left, acts_failed, completes_left, completes_failed, commits_left, commits_failed, sets_up_left, sets_up_failed, memory_caused}
use Rattle.play_clients.proofs.TakeLaws.{took, takes_left, takes_failed}

-- WHERE THERE IS A WRITER

writer_by : (block : BlockId) (writer : Option WriterRecord) (k : Course) → course_of (known_of block writer) ≡ k → (k ≡ course.Takes → ⊥) → (x : WriterRecord) × ((writer ≡ Some x) × (course_of x ≡ k))
writer_by block None k e apart = absurd (apart (sym e ∙ fresh_course block None refl))
writer_by block (Some x) k e apart = (x, (refl, e))

-- WHERE A SETUP IS UNDER WAY

-- What holds where a setup is to go on that has no connection.
record SetsUnlinked (p : Phase) : Type 0 where
  fits : fits_in p false ≡ true
  unstamped : is_stamped p ≡ false
  unconnected : is_connected p ≡ false

after_unlinked : (s : Setup) (stamp : Stamp) → course_in (phase.Accepted s stamp) ≡ course.Commits → awaits (phase.Accepted s stamp) ≡ false → SetsUnlinked (phase.Accepted s stamp)
after_unlinked setup.Create stamp k a = cc
after_unlinked setup.Append stamp k a = cc
after_unlinked setup.AppendRecovery stamp k a = cc
after_unlinked setup.StreamRecovery stamp k a = cc
after_unlinked setup.CloseRecovery stamp k a = record { fits = refl; unstamped = refl; unconnected = refl }

commits_unlinked : (p : Phase) → course_in p ≡ course.Commits → awaits p ≡ false → SetsUnlinked p
commits_unlinked (phase.Accepted s stamp) k a = after_unlinked s stamp k a
commits_unlinked (phase.Wanted s) k a = cc
commits_unlinked phase.Finished k a = cc
commits_unlinked p k a = cc

wants_unlinked : (p : Phase) → IsWanted p → awaits p ≡ false → SetsUnlinked p
wants_unlinked (phase.Wanted s) k a = record { fits = refl; unstamped = refl; unconnected = refl }
wants_unlinked p k a = absurd k

module _ {I O : Type 0} (i : link_in.Ghosts I) (o : link_out.Ghosts O) where
  -- The setup that goes on.
  record SetupAt (w : World) (net : Net) (conn : Option ℕ) (p : Phase) (c : Pipe I O) : Type 0 where
    going : Rebuild I O
    held : setup_of c ≡ Some going
    shows : PipeShows i o w net conn (pipe.SettingUp going)
    fits : PipeFits p (pipe.SettingUp going)

  setup_at : (w : World) (net : Net) (conn : Option ℕ) (p : Phase) (c : Pipe I O) → (awaits p ≡ false → SetsUnlinked p) → (is_connected p ≡ false → conn ≡ None) → PipeShows i o w net conn c → PipeFits p c → SetupAt w net conn p c
  setup_at w net conn p pipe.Closed sets rests shows fits = let u : SetsUnlinked p = sets fits in record { going = record { link = None; lost = false }; held = refl; shows = shows; fits = (u.fits, u.unstamped) }
  setup_at w net conn p (pipe.SettingUp going) sets rests shows fits = record { going = going; held = refl; shows = shows; fits = fits }
  setup_at w net conn p (pipe.Streaming end incoming) sets rests shows fits = let u : SetsUnlinked p = sets fits in absurd (none_some end.id.0 (sym (rests u.unconnected) ∙ shows.conn_is))
    where
      none_some : (c : ℕ) → None ≡ Some c → ⊥
      none_some c e = cc

module _ {D R I O : Type 0} (d : desks.Ghosts D) (r : roads.Ghosts R I O) (i : link_in.Ghosts I) (o : link_out.Ghosts O) where
  can_as : (w : World) (old : Client I O) (next : ConnId) (k : Course) → course_of (known_of old.block old.writer) ≡ k → CanOwn w old next → CanOwnAs k w old next
  can_as w old next k e can = subst (λ (z : Course). CanOwnAs z w old next) e can.does

  -- ACTING

  pub own_acts : (next : ConnId) (old new : Client I O) (desk : D) (road road' : R) → course_of (known_of old.block old.writer) ≡ course.Acts → Acts r i o old new road road' (Ok tt) → OwnShows d r i o next old new desk desk road road' (Ok (alone d r i o))
  own_acts next old new desk road road' of acts = λ w net queues stands queue due can.
      let k = writer_by old.block old.writer course.Acts of (λ e. cc) in
      let by : ActsBy r i o k.0 old new road road' (Ok tt) = subst (λ (x : Option WriterRecord). ActsIf r i o x old new road road' (Ok tt)) k.1.0 acts in
      done_by d r i o w net queues next old new desk road road' (alone d r i o) refl
      (acts_left d r i o k.0 old new next desk road road' k.1.0 by k.1.1 w net queues stands queue (can_as w old next course.Acts of can))

  pub own_acts_failed : (next : ConnId) (old new : Client I O) (desk : D) (road road' : R) (why : ClientFault) (end : Result (Owned I O) ClientFault) → course_of (known_of old.block old.writer) ≡ course.Acts → Acts r i o old new road road' (Err why) → FailsAs why end → OwnShows d r i o next old new desk desk road road' end
  own_acts_failed next old new desk road road' why (Ok left) of acts fails = absurd fails
  own_acts_failed next old new desk road road' why (Err other) of acts fails = λ w net queues stands queue due can.
      let k = writer_by old.block old.writer course.Acts of (λ e. cc) in
      let by : ActsBy r i o k.0 old new road road' (Err why) = subst (λ (x : Option WriterRecord). ActsIf r i o x old new road road' (Err why)) k.1.0 acts in
      subst (λ (e : ClientFault). IsCaused r road road' e) (sym fails) (acts_failed d r i o k.0 old new desk road road' why k.1.0 by k.1.1 w net queues stands (can_as w old next course.Acts of can))

  -- COMPLETING

  pub own_completes : (next : ConnId) (old new : Client I O) (desk desk' : D) (road : R) → course_of (known_of old.block old.writer) ≡ course.Completes → Completes d old new desk desk' (Ok tt) → OwnShows d r i o next old new desk desk' road road (Ok (asked d r i o))
  own_completes next old new desk desk' road of does = λ w net queues stands queue due can.
      let k = writer_by old.block old.writer course.Completes of (λ e. cc) in
      let by : CompletesBy d k.0 old new desk desk' (Ok tt) = subst (λ (x : Option WriterRecord). CompletesIf d x old new desk desk' (Ok tt)) k.1.0 does in
      done_by d r i o w net queues next old new desk' road road (asked d r i o) refl (completes_left d r i o k.0 old new next desk desk' road k.1.0 by k.1.1 w net queues stands queue can.rests)

  pub own_completes_failed : (next : ConnId) (old new : Client I O) (desk desk' : D) (road : R) (why : ClientFault) (end : Result (Owned I O) ClientFault) → course_of (known_of old.block old.writer) ≡ course.Completes → Completes d old new desk desk' (Err why) → FailsAs why end
      → OwnShows d r i o next old new desk desk' road road end
  own_completes_failed next old new desk desk' road why (Ok left) of does fails = absurd fails
  own_completes_failed next old new desk desk' road why (Err other) of does fails = λ w net queues stands queue due can.
      let k = writer_by old.block old.writer course.Completes of (λ e. cc) in
      let by : CompletesBy d k.0 old new desk desk' (Err why) = subst (λ (x : Option WriterRecord). CompletesIf d x old new desk desk' (Err why)) k.1.0 does in
      subst (λ (e : ClientFault). IsCaused r road road e) (sym fails) (completes_failed d r i o k.0 old new desk desk' road why k.1.0 by k.1.1 w net stands can.rests)

  -- COMMITTING

  -- Where the writer is, and its setup.
  setup_of_client : (w : World) (net : Net) (old : Client I O) (x : WriterRecord) → old.writer ≡ Some x → ClientShows i o w net old → (is_connected (w.writers old.block.0).known.phase ≡ false → (w.writers old.block.0).conn ≡ None) → (awaits x.phase ≡ false → SetsUnlinked x.phase)
      → SetupAt i o w net (w.writers old.block.0).conn x.phase old.pipe
  setup_of_client w net old x is c rests sets =
      let known_is : (w.writers old.block.0).known ≡ x = c.writer ∙ ap (known_of old.block) is in
      setup_at i o w net (w.writers old.block.0).conn x.phase old.pipe sets (λ e. rests (ap (λ (y : WriterRecord). is_connected y.phase) known_is ∙ e)) c.pipe_is
      (subst (λ (y : Option WriterRecord). PipeFits (known_of old.block y).phase old.pipe) is c.fits)

  commits_by : (old new : Client I O) (x : WriterRecord) (going : Rebuild I O) (desk desk' : D) (road road' : R) (result : Result (Unit {0}) ClientFault) → old.writer ≡ Some x → setup_of old.pipe ≡ Some going → fits_in x.phase (is_some going.link) ≡ true → Commits d r i o old new desk desk' road road' result
      → CommitsBy d r i o x going old new desk desk' road road' result
  commits_by old new x going desk desk' road road' result is held fits h =
      subst (λ (q : Bool). CommitsFitting d r i o q x going old new desk desk' road road' result) fits
      (subst (λ (z : Option (Rebuild I O)). CommitsIf d r i o (Some x) z old new desk desk' road road' result) held
      (subst (λ (y : Option WriterRecord). CommitsIf d r i o y (setup_of old.pipe) old new desk desk' road road' result) is h))

  pub own_commits : (next : ConnId) (old new : Client I O) (desk desk' : D) (road road' : R) → course_of (known_of old.block old.writer) ≡ course.Commits → Commits d r i o old new desk desk' road road' (Ok tt) → OwnShows d r i o next old new desk desk' road road' (Ok (asked d r i o))
  own_commits next old new desk desk' road road' of does = λ w net queues stands queue due can.
      let k = writer_by old.block old.writer course.Commits of (λ e. cc) in
      let at : SetupAt i o w net (w.writers old.block.0).conn k.0.phase old.pipe = setup_of_client w net old k.0 k.1.0 stands.client_is can.rests (commits_unlinked k.0.phase (course_is k.0 course.Commits k.1.1 (λ e. cc)).at) in
      done_by d r i o w net queues next old new desk' road road' (asked d r i o) refl
      (commits_left d r i o k.0 at.going old new next desk desk' road road' k.1.0 (commits_by old new k.0 at.going desk desk' road road' (Ok tt) k.1.0 at.held at.fits.0 does) k.1.1 w net queues stands at.shows at.fits queue (can_as w old next course.Commits of can))

  pub own_commits_failed : (next : ConnId) (old new : Client I O) (desk desk' : D) (road road' : R) (why : ClientFault) (end : Result (Owned I O) ClientFault) → course_of (known_of old.block old.writer) ≡ course.Commits → Commits d r i o old new desk desk' road road' (Err why) → FailsAs why end
      → OwnShows d r i o next old new desk desk' road road' end
  own_commits_failed next old new desk desk' road road' why (Ok left) of does fails = absurd fails
  own_commits_failed next old new desk desk' road road' why (Err other) of does fails = λ w net queues stands queue due can.
      let k = writer_by old.block old.writer course.Commits of (λ e. cc) in
      let at : SetupAt i o w net (w.writers old.block.0).conn k.0.phase old.pipe = setup_of_client w net old k.0 k.1.0 stands.client_is can.rests (commits_unlinked k.0.phase (course_is k.0 course.Commits k.1.1 (λ e. cc)).at) in
      subst (λ (e : ClientFault). IsCaused r road road' e) (sym fails)
      (commits_failed d r i o k.0 at.going old new desk desk' road road' why k.1.0 (commits_by old new k.0 at.going desk desk' road road' (Err why) k.1.0 at.held at.fits.0 does) w net stands at.shows (can_as w old next course.Commits of can))

  -- SETTING UP

  sets_up_by : (next : ConnId) (old new : Client I O) (x : WriterRecord) (going : Rebuild I O) (desk desk' : D) (road road' : R) (result : Result (Owned I O) ClientFault) → old.writer ≡ Some x → setup_of old.pipe ≡ Some going → fits_in x.phase (is_some going.link) ≡ true → SetsUp d r i o next old new desk desk' road road' result
      → SetsUpBy d r i o next x going old new desk desk' road road' result
  sets_up_by next old new x going desk desk' road road' result is held fits h =
      subst (λ (q : Bool). SetsUpFitting d r i o q next x going old new desk desk' road road' result) fits
      (subst (λ (z : Option (Rebuild I O)). SetsUpIf d r i o next (Some x) z old new desk desk' road road' result) held
      (subst (λ (y : Option WriterRecord). SetsUpIf d r i o next y (setup_of old.pipe) old new desk desk' road road' result) is h))

  pub own_sets_up : (next : ConnId) (old new : Client I O) (desk desk' : D) (road road' : R) (end : Result (Owned I O) ClientFault) → course_of (known_of old.block old.writer) ≡ course.SetsUp → SetsUp d r i o next old new desk desk' road road' end → OwnShows d r i o next old new desk desk' road road' end
  own_sets_up next old new desk desk' road road' (Ok left) of does = λ w net queues stands queue due can.
      let k = writer_by old.block old.writer course.SetsUp of (λ e. cc) in
      let wanted : IsWanted k.0.phase = wanted_so k.0.phase (course_is k.0 course.SetsUp k.1.1 (λ e. cc)).at in
      let at : SetupAt i o w net (w.writers old.block.0).conn k.0.phase old.pipe = setup_of_client w net old k.0 k.1.0 stands.client_is can.rests (wants_unlinked k.0.phase wanted) in
      sets_up_left d r i o k.0 at.going old new next desk desk' road road' left k.1.0 (sets_up_by next old new k.0 at.going desk desk' road road' (Ok left) k.1.0 at.held at.fits.0 does) wanted w net queues stands at.shows at.fits queue (can_as w old next course.SetsUp of can)
  own_sets_up next old new desk desk' road road' (Err why) of does = λ w net queues stands queue due can.
      let k = writer_by old.block old.writer course.SetsUp of (λ e. cc) in
      let wanted : IsWanted k.0.phase = wanted_so k.0.phase (course_is k.0 course.SetsUp k.1.1 (λ e. cc)).at in
      let at : SetupAt i o w net (w.writers old.block.0).conn k.0.phase old.pipe = setup_of_client w net old k.0 k.1.0 stands.client_is can.rests (wants_unlinked k.0.phase wanted) in
      sets_up_failed d r i o k.0 at.going old new next desk desk' road road' why k.1.0 (sets_up_by next old new k.0 at.going desk desk' road road' (Err why) k.1.0 at.held at.fits.0 does) w net stands at.shows (can_as w old next course.SetsUp of can)

  -- TAKING A COMMAND

  -- What was taken.
  record TookSo (old new : Client I O) (road road' : R) (result : Result (Option TakenCommand) ClientFault) : Type 0 where
    taken : TakenCommand
    front : slice_get old.queue.items 0 ≡ Some taken
    by : (result ≡ Err fault.Memory) ⊎ TakesBy r i o old new taken road road' result

  took_so : (old new : Client I O) (front : Option TakenCommand) (road road' : R) (result : Result (Option TakenCommand) ClientFault) → slice_get old.queue.items 0 ≡ front → is_some front ≡ true → TakesIf r i o front old new road road' result → TookSo old new road road' result
  took_so old new None road road' result e some h = cc
  took_so old new (Some t) road road' result e some h = record { taken = t; front = e; by = h }

  due_some : (q : Bool) (free : Bool) (more : Bool) → q ≡ false → (q || (free && more)) ≡ true → more ≡ true
  due_some true free more e h = cc
  due_some false true more e h = h
  due_some false false more e h = cc

  -- A command is queued where the writer is to take one.
  queued : (w : World) (net : Net) (old : Client I O) (queues : Queues) → ClientShows i o w net old → course_of (known_of old.block old.writer) ≡ course.Takes → old.queue.items ≡ queues old.block.0 → is_due w queues (due.Own old.block) ≡ true → is_some (slice_get old.queue.items 0) ≡ true
  queued w net old queues c of queue due =
      let idle : has_step (w.writers old.block.0).known ≡ false = ap has_step c.writer ∙ takes_is (known_of old.block old.writer) of in
      ap (λ (xs : List TakenCommand). is_some (slice_get xs 0)) queue ∙ due_some (has_step (w.writers old.block.0).known) (is_none (w.writers old.block.0).known.waiting) (is_some (slice_get (queues old.block.0) 0)) idle due

  can_take : (w : World) (old : Client I O) (t : TakenCommand) (front : Option TakenCommand) → front ≡ Some t → IfSome front (CanTake w old) → CanTake w old t
  can_take w old t front e h = subst (λ (z : Option TakenCommand). IfSome z (CanTake w old)) e h

  taken_same : (t : TakenCommand) (taken : Option TakenCommand) (acted : Result (Unit {0}) ClientFault) → ◌≡◌ {A = Result (Option TakenCommand) ClientFault} (Ok taken) (taken_of t acted) → taken ≡ Some t
  taken_same t taken (Ok u) e = ap (taken_from taken) e
    where
      taken_from : Option TakenCommand → Result (Option TakenCommand) ClientFault → Option TakenCommand
      taken_from z (Ok a) = a
      taken_from z (Err why) = z
  taken_same t taken (Err why) e = cc

  takes_by : (next : ConnId) (old new : Client I O) (desk : D) (road road' : R) (taken : Option TakenCommand) → course_of (known_of old.block old.writer) ≡ course.Takes → (w : World) (net : Net) (queues : Queues) → ClientStands d r i o w net old desk road → old.queue.items ≡ queues old.block.0 → CanOwn w old next
      → (t : TakenCommand) → slice_get old.queue.items 0 ≡ Some t → (Ok taken ≡ Err fault.Memory) ⊎ TakesBy r i o old new t road road' (Ok taken) → OwnEnds d r i o w net queues next old new desk road road' (Ok (record { took = taken; asked = false; first = None; unreached = None }))
  takes_by next old new desk road road' taken of w net queues stands queue can t front (inl e) = cc
  takes_by next old new desk road road' taken of w net queues stands queue can t front (inr by) =
      let same : taken ≡ Some t = taken_same t taken by.acted by.ends in
      subst (λ (z : Option TakenCommand). OwnEnds d r i o w net queues next old new desk road road' (Ok (record { took = z; asked = false; first = None; unreached = None }))) (sym same)
      (done_by d r i o w net queues next old new desk road road' (took d r i o t) refl
      (takes_left d r i o old new t next desk road road' (subst (λ (z : Option TakenCommand). TakesBy r i o old new t road road' (Ok z)) same by) of front w net queues stands queue
      (can_take w old t (slice_get old.queue.items 0) front (can_as w old next course.Takes of can))))

  pub own_takes : (next : ConnId) (old new : Client I O) (desk : D) (road road' : R) (taken : Option TakenCommand) → course_of (known_of old.block old.writer) ≡ course.Takes → Takes r i o old new road road' (Ok taken) → OwnShows d r i o next old new desk desk road road' (Ok (record { took = taken; asked = false; first = None; unreached = None }))
  own_takes next old new desk road road' taken of does = λ w net queues stands queue due can.
      let k : TookSo old new road road' (Ok taken) = took_so old new (slice_get old.queue.items 0) road road' (Ok taken) refl (queued w net old queues stands.client_is of queue due) does in
      takes_by next old new desk road road' taken of w net queues stands queue can k.taken k.front k.by

  fails_by : (next : ConnId) (old new : Client I O) (desk : D) (road road' : R) (why : ClientFault) → course_of (known_of old.block old.writer) ≡ course.Takes → (w : World) (net : Net) → ClientStands d r i o w net old desk road → CanOwn w old next
      → (t : TakenCommand) → slice_get old.queue.items 0 ≡ Some t → (◌≡◌ {A = Result (Option TakenCommand) ClientFault} (Err why) (Err fault.Memory)) ⊎ TakesBy r i o old new t road road' (Err why) → IsCaused r road road' why
  fails_by next old new desk road road' why of w net stands can t front (inl e) = memory_caused d r i o why road road' (ap (fault_from why) e)
    where
      fault_from : ClientFault → Result (Option TakenCommand) ClientFault → ClientFault
      fault_from z (Ok a) = z
      fault_from z (Err f) = f
  fails_by next old new desk road road' why of w net stands can t front (inr by) =
      takes_failed d r i o old new t desk road road' why by of w net stands (can_take w old t (slice_get old.queue.items 0) front (can_as w old next course.Takes of can))

  pub own_takes_failed : (next : ConnId) (old new : Client I O) (desk : D) (road road' : R) (why : ClientFault) (end : Result (Owned I O) ClientFault) → course_of (known_of old.block old.writer) ≡ course.Takes → Takes r i o old new road road' (Err why) → FailsAs why end → OwnShows d r i o next old new desk desk road road' end
  own_takes_failed next old new desk road road' why (Ok left) of does fails = absurd fails
  own_takes_failed next old new desk road road' why (Err other) of does fails = λ w net queues stands queue due can.
      let k : TookSo old new road road' (Err why) = took_so old new (slice_get old.queue.items 0) road road' (Err why) refl (queued w net old queues stands.client_is of queue due) does in
      subst (λ (e : ClientFault). IsCaused r road road' e) (sym fails) (fails_by next old new desk road road' why of w net stands can k.taken k.front k.by)
