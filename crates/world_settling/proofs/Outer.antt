-- Events that deliver nothing make no more to be delivered.
use Rattle.std.proofs.Common.{◌≡◌, ℕ, ◌≤◌, Bool, true, false, List, [], Option, Some, None, IfSome, refl, sym, ap, ◌∙◌, subst, arith}
use Rattle.std.specs.Prelude.{sum_by, nat_lt, is_none, ◌==◌, ◌&&◌, not, if◌then◌else◌}
use Rattle.std.proofs.Common.{eqb-true}
use Rattle.std.proofs.lemmas.Bool.{false≢true}
use Rattle.hd_base.specs.declared.numbers.BlockId.{BlockId}
use Rattle.replica_model.specs.Rows.{FullReplica}
use Rattle.replica_model.specs.Found.{Found}
use Rattle.name_core.specs.declared.calls.OfficeCall.{OfficeCall}
use Rattle.name_core.specs.declared.calls.OfficeCall.TheVariants as call
use Rattle.writer_core.specs.declared.actions.Action.{Action}
use Rattle.writer_core.specs.declared.actions.Action.TheVariants as action
use Rattle.writer_core.specs.Transitions as writer
use Rattle.world.specs.RecoveryCore.OwnStep.{OwnStep}
use Rattle.world.specs.RecoveryCore.OwnStep.TheVariants as own
use Rattle.world.specs.RecoveryCore.Primaries.{own_step, sync_call}
use Rattle.world.specs.declared.events.Caller.{Caller}
use Rattle.world.specs.declared.events.Caller.TheVariants as caller
use Rattle.world.specs.declared.events.Direction.{Direction}
use Rattle.world.specs.declared.events.Direction.TheVariants as direction
use Rattle.world.specs.declared.events.Event.{Event}
use Rattle.world.specs.declared.events.Event.TheVariants as event
use Rattle.world.specs.declared.events.FoundReplica.{FoundReplica}
use Rattle.world.specs.Parts.{Message, Marks, Lower, idle, writes, serves, recovers, ended_below, Break, Answered, Told, Leading, Primary, no_primary, was_told, leads, has_led}
use Rattle.world.specs.Worlds.{World, Change, put, apply}
use Rattle.world.specs.Connections.{is_alive, lesser, lost_marks, stopped_marks, stopped_where, is_of_node}
use Rattle.world.specs.Nodes.{node_of, block_of}
use Rattle.world.specs.Restarts.{found_in, replica_found, restarted, restart}
use Rattle.world.specs.Primaries.{asks_primary, primary_commits, primary_asks, writer_asks, office_event}
use Rattle.world.specs.Events.{changed, lost, stop, where_so, outcome, after_event, happens}
use Rattle.world_settling.specs.Traffic.{sum_to, hops, down_weight, up_weight, on_way, open_weight, down_way, up_way, sides, lower_weight, entries, entries_by, entries_of, traffic, is_outer}
use Rattle.world_settling.proofs.Sums.{sum-le}
use Rattle.world_settling.proofs.Ways.{ended-way}
use Rattle.world_settling.proofs.Frame.{Eases, entries-each, downs-quiet, ups-quiet, sides-same}

-- A change that sends and dials nothing, and leaves replicas and lower ends as they are.
pub record Quiet (w : World) (k : Change) : Type 0 where
  pub dials : k.dials ≡ []
  pub downs : (c : ℕ) → k.downs c ≡ []
  pub ups : (c : ℕ) → k.ups c ≡ []
  pub lower : k.lower ≡ w.lowers k.lower_at
  pub replica : k.replica ≡ w.replicas k.node k.block

pub lower-stays : (w : World) (k : Change) (c : ℕ) → k.lower ≡ w.lowers k.lower_at → (apply w k).lowers c ≡ w.lowers c
unfolding apply
lower-stays w k c e = at (c == k.lower_at) refl
  where
    at : (b : Bool) → (c == k.lower_at) ≡ b → (if b then k.lower else w.lowers c) ≡ w.lowers c
    at true q = e ∙ ap w.lowers (sym (eqb-true c k.lower_at q))
    at false q = refl

pub conns-stay : (w : World) (k : Change) → k.dials ≡ [] → (apply w k).next_conn ≡ w.next_conn
unfolding apply
conns-stay w k e = rw e omega arith

pub quiet-keeps : (w : World) (k : Change) → Quiet w k → traffic (apply w k) ≤ traffic w
unfolding traffic
quiet-keeps w k q =
    let eases : (c : ℕ) → Eases w k c = λ c. rw q.replica (omega arith) in
    let lowers = sum-le (λ c. lower_weight (w.lowers c)) (λ c. lower_weight ((apply w k).lowers c)) w.next_conn (λ c lt. rw (lower-stays w k c q.lower) (omega arith)) in
    let held = sum-le (entries w) (entries (apply w k)) w.next_conn (λ c lt. rw (lower-stays w k c q.lower) (entries-each w k c (w.lowers c) lt (eases c))) in
    let v : World = apply w k in
    let n = conns-stay w k q.dials in
    omega (
      arith,
      downs-quiet w k q.downs,
      ups-quiet w k q.ups,
      sides-same w k,
      lowers,
      held,
      ap (sum_to (down_way v)) n,
      ap (sum_to (up_way v)) n,
      ap (sum_to (sides v)) n,
      ap (sum_to (λ c. lower_weight (v.lowers c))) n,
      ap (sum_to (entries v)) n,
    )

-- THE OFFICE

writer-quiet : (a : Action) (w : World) (b : ℕ) → IfSome (writer_asks a w b) (Quiet w)
writer-quiet (action.Ask c) w b = record { dials = refl; downs = λ d. refl; ups = λ d. refl; lower = refl; replica = refl }
writer-quiet action.Wait w b = tt
writer-quiet action.Took w b = tt
writer-quiet (action.Dial to r) w b = tt
writer-quiet (action.Send p) w b = tt
writer-quiet (action.Answered n a) w b = tt
writer-quiet action.Memory w b = tt

pub when-each : {A : Type 0} (P : A → Type 0) (b : Bool) (o : Option A) → (b ≡ true → IfSome o P) → IfSome (if b then o else None) P
when-each P true o h = h refl
when-each P false o h = tt

asked-quiet : (w : World) (i : ℕ) (c : OfficeCall) (p : Told → Primary) → Quiet w (asks_primary w i c p)
asked-quiet w i c p = record { dials = refl; downs = λ d. refl; ups = λ d. refl; lower = refl; replica = refl }

commits-quiet : (s : OwnStep) (w : World) (i : ℕ) (l : Leading) → IfSome (primary_commits s w i l) (Quiet w)
commits-quiet (own.Commits c) w i l = asked-quiet w i (sync_call l.state c) (λ told. leads (record l { told = Some told }))
commits-quiet own.Waits w i l = tt
commits-quiet (own.Updates c) w i l = tt
commits-quiet (own.Ends r) w i l = tt

primary-quiet : (p : Primary) (w : World) (i : ℕ) (b : BlockId) → IfSome (primary_asks p w i b) (Quiet w)
primary-quiet no_primary w i b = asked-quiet w i (call.BeginRecovery b) (was_told b)
primary-quiet (leads l) w i b = when-each (Quiet w) (is_alive w l.at && is_none l.told) _ (λ e. commits-quiet (own_step l.state).does w i l)
primary-quiet (was_told a t) w i b = tt
primary-quiet (has_led r) w i b = tt

office-quiet : (w : World) (c : Caller) → IfSome (office_event w c) (Quiet w)
office-quiet w (caller.Writer b) = when-each (Quiet w) (is_none (w.writers b.0).told) _ (λ e. writer-quiet (writer.own_step (w.writers b.0).known).action w b.0)
office-quiet w (caller.Primary i b) = primary-quiet (w.primaries i) w i b

pub changed-quiet : (w : World) (o : Option Change) → IfSome o (Quiet w) → IfSome (changed w o) (λ v. traffic v ≤ traffic w)
changed-quiet w None h = tt
changed-quiet w (Some k) h = quiet-keeps w k h

-- MARKS

-- no more is on its way under these marks, and no end may still be taken that couldn't
pub record Less (sent : List Message) (new old : Marks) : Type 0 where
  pub way : (f : Message → ℕ) → sum_by f (on_way new sent) ≤ sum_by f (on_way old sent)
  pub over : open_weight new ≤ open_weight old

same-less : (sent : List Message) (k : Marks) → Less sent k k
same-less sent k = record { way = λ f. omega arith; over = omega arith }

ended-less : (sent : List Message) (k : Marks) (n : ℕ) → Less sent (record k { end = Some (lesser n k.end) }) k
ended-less sent k n = record { way = λ f. ended-way f k.taken n k.end sent; over = omega arith }

put-less : (f : ℕ → List Message) (m : ℕ → Marks) (d : ℕ) (k : Marks) → Less (f d) k (m d) → (c : ℕ) → Less (f c) (put m d k c) (m c)
put-less f m d k h c = at (c == d) refl
  where
    at : (b : Bool) → (c == d) ≡ b → Less (f c) (if b then k else m c) (m c)
    at true e = let q : c ≡ d = eqb-true c d e in subst (λ (i : ℕ). Less (f i) k (m i)) (sym q) h
    at false e = same-less (f c) (m c)

stopped-less : (sent : List Message) (b : Bool) (k : Marks) → Less sent (if b then stopped_marks k else k) k
stopped-less sent true k = ended-less sent k k.taken
stopped-less sent false k = same-less sent k

pub marked : (w : World) (m u : ℕ → Marks) (r : ℕ → Bool) (a : Option Answered) → ((c : ℕ) → Less (w.downs c) (m c) (w.down_marks c)) → ((c : ℕ) → Less (w.ups c) (u c) (w.up_marks c))
    → traffic (record w { running = r; down_marks = m; up_marks = u; last_answer = a }) ≤ traffic w
unfolding traffic
marked w m u r a d x =
    let v : World = record w { running = r; down_marks = m; up_marks = u; last_answer = a } in
    let downs : sum_to (down_way v) w.next_conn ≤ sum_to (down_way w) w.next_conn = sum-le (down_way w) (down_way v) w.next_conn (λ c lt. (d c).way (down_weight (hops w c))) in
    let ups : sum_to (up_way v) w.next_conn ≤ sum_to (up_way w) w.next_conn = sum-le (up_way w) (up_way v) w.next_conn (λ c lt. (x c).way up_weight) in
    let ends : sum_to (sides v) w.next_conn ≤ sum_to (sides w) w.next_conn = sum-le (sides w) (sides v) w.next_conn (λ c lt. omega (arith, (d c).over, (x c).over)) in
    let held : sum_to (entries v) w.next_conn ≤ sum_to (entries w) w.next_conn = sum-le (entries w) (entries v) w.next_conn (λ c lt. held-as c (w.lowers c)) in
    omega (arith, downs, ups, ends, held)
  where
    held-as : (c : ℕ) (l : Lower) → entries_of l (record w { running = r; down_marks = m; up_marks = u; last_answer = a }) c ≤ entries_of l w c
    held-as c (writes y) = omega arith
    held-as c idle = omega arith
    held-as c (serves b s) = omega arith
    held-as c recovers = omega arith
    held-as c ended_below = omega arith

lost-keeps : (w : World) (c : ℕ) (way : Direction) (more : ℕ) → traffic (lost w c way more) ≤ traffic w
lost-keeps w c direction.Down more =
    marked w (put w.down_marks c (lost_marks (w.downs c) more (w.down_marks c))) w.up_marks w.running None
    (put-less w.downs w.down_marks c _ (ended-less (w.downs c) (w.down_marks c) _)) (λ d. same-less (w.ups d) (w.up_marks d))
lost-keeps w c direction.Up more =
    marked w w.down_marks (put w.up_marks c (lost_marks (w.ups c) more (w.up_marks c))) w.running None
    (λ d. same-less (w.downs d) (w.down_marks d)) (put-less w.ups w.up_marks c _ (ended-less (w.ups c) (w.up_marks c) _))

stop-keeps : (w : World) (n : ℕ) → traffic (stop w n) ≤ traffic w
stop-keeps w n =
    marked w (stopped_where (is_of_node w n) w.down_marks) (stopped_where (is_of_node w n) w.up_marks) (put w.running n false) None
    (λ c. stopped-less (w.downs c) (is_of_node w n c) (w.down_marks c)) (λ c. stopped-less (w.ups c) (is_of_node w n c) (w.up_marks c))

-- RESTARTS

-- nothing is pending at a replica that was found
found-quiet : (c b : ℕ) (o : Option Found) → entries_by c (replica_found b o).known ≡ 0
found-quiet c b None = refl
found-quiet c b (Some f) = refl

restarted-quiet : (c b : ℕ) (r : FullReplica) (o : Option Break) (f : Option Found) → entries_by c (restarted b r o f).known ≡ 0
unfolding restarted
restarted-quiet c b r o f = found-quiet c b _

restart-keeps : (w : World) (n : ℕ) (list : List FoundReplica) → traffic (restart w n list) ≤ traffic w
unfolding traffic restart
restart-keeps w n list =
    let v : World = restart w n list in
    let held : sum_to (entries v) w.next_conn ≤ sum_to (entries w) w.next_conn = sum-le (entries w) (entries v) w.next_conn (λ c lt. held-as c (w.lowers c)) in
    omega (arith, held)
  where
    found-less : (c b : ℕ) (t : Bool) → entries_by c ((if t then (λ d. restarted d (w.replicas n d) (w.breaks n d) (found_in list d)) else w.replicas (node_of w c)) b).known ≤ entries_by c (w.replicas (node_of w c) b).known
    found-less c b true = let e = restarted-quiet c b (w.replicas n b) (w.breaks n b) (found_in list b) in omega (arith, e)
    found-less c b false = omega arith

    held-as : (c : ℕ) (l : Lower) → entries_of l (restart w n list) c ≤ entries_of l w c
    held-as c (writes y) = found-less c (block_of y.fields) (node_of w c == n)
    held-as c idle = omega arith
    held-as c (serves b s) = omega arith
    held-as c recovers = omega arith
    held-as c ended_below = omega arith

-- EVENTS

where-keeps : (w v : World) (test : Bool) → traffic v ≤ traffic w → IfSome (where_so test v) (λ x. traffic x ≤ traffic w)
where-keeps w v true h = h
where-keeps w v false h = tt

pub named-keeps : (v : World) (e : Event) → traffic (record v { last = Some e }) ≤ traffic v
unfolding traffic
named-keeps v e =
    let u : World = record v { last = Some e } in
    let held : sum_to (entries u) v.next_conn ≤ sum_to (entries v) v.next_conn = sum-le (entries v) (entries u) v.next_conn (λ c lt. held-as c (v.lowers c)) in
    omega (arith, held)
  where
    held-as : (c : ℕ) (l : Lower) → entries_of l (record v { last = Some e }) c ≤ entries_of l v c
    held-as c (writes y) = omega arith
    held-as c idle = omega arith
    held-as c (serves b s) = omega arith
    held-as c recovers = omega arith
    held-as c ended_below = omega arith

after-keeps : (w : World) (e : Event) (o : Option World) → IfSome o (λ v. traffic v ≤ traffic w) → traffic (after_event w e o) ≤ traffic w
after-keeps w e None h = omega arith
after-keeps w e (Some v) h = omega (arith, named-keeps v e, h)

outcome-keeps : (w : World) (e : Event) → is_outer e ≡ true → IfSome (outcome w e) (λ v. traffic v ≤ traffic w)
unfolding outcome
outcome-keeps w (event.Office c) h = changed-quiet w (office_event w c) (office-quiet w c)
outcome-keeps w (event.Lost c way more) h = where-keeps w _ (nat_lt c.0 w.next_conn) (lost-keeps w c.0 way more)
outcome-keeps w (event.Stop n) h = where-keeps w _ (w.running n.0) (stop-keeps w n.0)
outcome-keeps w (event.Restart n list) h =
    where-keeps w _ (nat_lt n.0 w.nodes && not (w.running n.0)) (restart-keeps w n.0 list)
outcome-keeps w (event.Own s) h = absurd (false≢true h)
outcome-keeps w (event.Down c answered) h = absurd (false≢true h)
outcome-keeps w (event.Ready c) h = absurd (false≢true h)
outcome-keeps w (event.Up c) h = absurd (false≢true h)
outcome-keeps w (event.Fault d) h = absurd (false≢true h)

pub outer-keep : (w : World) (e : Event) → is_outer e ≡ true → traffic (happens w e) ≤ traffic w
unfolding happens
outer-keep w e h = after-keeps w e (outcome w e) (outcome-keeps w e h)
