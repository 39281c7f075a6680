-- What each event of a replica keeps holds after each event of the world, unless it is a failed call on files.
use Rattle.std.proofs.Common.{◌≡◌, ℕ, Bool, true, false, List, Option, Some, None, IfSome, refl, sym, subst, eqb-true}
use Rattle.std.specs.Prelude.{◌==◌, ◌&&◌, not, nat_lt, if◌then◌else◌}
use Rattle.replica_model.specs.Rows.{FullReplica}
use Rattle.replica_model.specs.Found.{Found}
use Rattle.world_laws.specs.World.Direction.{Direction}
use Rattle.world_laws.specs.World.Direction.TheVariants as direction
use Rattle.world_laws.specs.World.Event.{Event}
use Rattle.world_laws.specs.World.Event.TheVariants as event
use Rattle.world_laws.specs.World.FoundReplica.{FoundReplica}
use Rattle.world_laws.specs.World.OwnStep.{OwnStep}
use Rattle.world_laws.specs.World.OwnStep.TheVariants as own
use Rattle.world_laws.specs.World.Parts.{Upper, by_writer, by_member, by_reader, by_primary, Break}
use Rattle.world_laws.specs.World.Worlds.{World, Change, apply}
use Rattle.world_laws.specs.World.Connections.{Next, next_down, next_up, down_taken, up_taken, is_served}
use Rattle.world_laws.specs.World.Nodes.{lower_down, lower_ready}
use Rattle.world_laws.specs.World.Clients.{writer_up, reader_up}
use Rattle.world_laws.specs.World.Primaries.{primary_up, office_event}
use Rattle.world_laws.specs.World.Restarts.{found_in, restarted, restart}
use Rattle.world_laws.specs.World.Events.{changed, own_change, down_as, down_event, ready_event, upper_up, up_as, up_event, fault_event, lost, stop, where_so, outcome, after_event, happens}
use Rattle.world_laws.proofs.FactTables.{when-each, and-right}
use Rattle.world_laws.proofs.ReplicaUntouching.{Untouched, own-writer-untouched, writer-up-untouched, own-reader-untouched, reader-up-untouched, own-recover-untouched, own-primary-untouched, primary-up-untouched, office-untouched}
use Rattle.world_breaks.proofs.Keeping.{Fact, Rows, Finds, Every, Held, Leaves}
use Rattle.world_breaks.proofs.Leaving.{lower-down-leaves, lower-ready-leaves, mirror-up-leaves}

-- A failed call on files leaves every replica so.
abbrev pub FaultKeeps : Fact → World → Event → Type 0
FaultKeeps P w (event.Fault d) = IfSome (fault_event w d) (Every P)
FaultKeeps P w other = Unit {0}

own-untouched : (w : World) (s : OwnStep) → IfSome (own_change w s) (Untouched w)
own-untouched w (own.Writer b takes answered) = own-writer-untouched w b.0 takes answered
own-untouched w (own.Reader i n r answered) = own-reader-untouched w i n.0 r answered
own-untouched w (own.Recover i n b members answers) = own-recover-untouched w i n.0 b members answers
own-untouched w (own.Primary i) = own-primary-untouched w i

-- CHANGES

-- a change that leaves its replica so
pub leaves-every : (P : Fact) (w : World) (k : Change) → Every P w → Leaves P k → Every P (apply w k)
unfolding apply
leaves-every P w k h l n b = at (n == k.node && b == k.block) refl
  where
    at : (t : Bool) → (n == k.node && b == k.block) ≡ t → P b (if t then k.replica else w.replicas n b) (if t then k.broke else w.breaks n b)
    at true e = subst (λ (d : ℕ). P d k.replica k.broke) (sym (eqb-true b k.block (and-right (n == k.node) (b == k.block) e))) l.whole
    at false e = h n b

untouched-leaves : (P : Fact) (w : World) (k : Change) → Every P w → Untouched w k → Leaves P k
untouched-leaves P w k h u = record {
  whole = subst (λ (r : FullReplica). P k.block r k.broke) (sym u.replica)
      (subst (λ (o : Option Break). P k.block (w.replicas k.node k.block) o) (sym u.broke) (h k.node k.block));
}

untouched-all : (P : Fact) (w : World) (o : Option Change) → Every P w → IfSome o (Untouched w) → IfSome o (Leaves P)
untouched-all P w None h u = tt
untouched-all P w (Some k) h u = untouched-leaves P w k h u

pub changed-every : (P : Fact) (w : World) (o : Option Change) → Every P w → IfSome o (Leaves P) → IfSome (changed w o) (Every P)
changed-every P w None h l = tt
changed-every P w (Some k) h l = leaves-every P w k h l

lost-every : (P : Fact) (w : World) (c : ℕ) (way : Direction) (more : ℕ) → Every P w → Every P (lost w c way more)
lost-every P w c direction.Down more h = h
lost-every P w c direction.Up more h = h

where-every : (P : Fact) (test : Bool) (v : World) → Every P v → IfSome (where_so test v) (Every P)
where-every P true v h = h
where-every P false v h = tt

after-every : (P : Fact) (w : World) (e : Event) (o : Option World) → Every P w → IfSome o (Every P) → Every P (after_event w e o)
after-every P w e None h k = h
after-every P w e (Some v) h k = k

pub down-taken-held : (P : Fact) (w : World) (c : ℕ) (x : Next) → Held P w → Held P (down_taken w c x)
unfolding down_taken
down-taken-held P w c x h = record { full = h.full; each = h.each }

up-taken-held : (P : Fact) (w : World) (c : ℕ) (x : Next) → Held P w → Held P (up_taken w c x)
unfolding up_taken
up-taken-held P w c x h = record { full = h.full; each = h.each }

-- RESTARTS

restarted-is : (P : Fact) → Finds P → (b : ℕ) (r : FullReplica) (o : Option Break) (f : Option Found) → P b (restarted b r o f) None
unfolding restarted
restarted-is P finds b r o f = finds b _

restart-every : (P : Fact) → Finds P → (w : World) (n : ℕ) (list : List FoundReplica) → Every P w → Every P (restart w n list)
unfolding restart
restart-every P finds w n list h m b = at (m == n)
  where
    at : (t : Bool) → P b ((if t then (λ c. restarted c (w.replicas n c) (w.breaks n c) (found_in list c)) else w.replicas m) b) ((if t then (λ c. None) else w.breaks m) b)
    at true = restarted-is P finds b (w.replicas n b) (w.breaks n b) (found_in list b)
    at false = h m b

module _ (P : Fact) (rows : Rows P) (finds : Finds P) where
  -- DELIVERIES

  down-as-every : (w : World) (c : ℕ) (answered : Bool) (o : Option Next) → Held P w → IfSome (down_as w c answered false o) (Every P)
  down-as-every w c answered None h = tt
  down-as-every w c answered (Some x) h =
      let v = down_taken w c x in
      let k = down-taken-held P w c x h in
      changed-every P v (lower_down (w.lowers c) v c x answered false) k.each (lower-down-leaves P rows (w.lowers c) v c x answered k)

  down-every : (w : World) (c : ℕ) (answered : Bool) → Held P w → IfSome (down_event w c answered false) (Every P)
  down-every w c answered h = when-each (Every P) (is_served w c) _ (λ _. down-as-every w c answered (next_down w c) h)

  ready-every : (w : World) (c : ℕ) → Held P w → IfSome (ready_event w c false) (Every P)
  ready-every w c h =
      when-each (Every P) (is_served w c) _ (λ _. changed-every P w (lower_ready (w.lowers c) w c false) h.each (lower-ready-leaves P rows (w.lowers c) w c h))

  upper-leaves : (u : Upper) (w : World) (c : ℕ) (x : Next) → Held P w → IfSome (upper_up u w c x false) (Leaves P)
  upper-leaves (by_writer b) w c x h = untouched-all P w (writer_up w b c x) h.each (writer-up-untouched w b c x)
  upper-leaves (by_member d) w c x h = mirror-up-leaves P rows (w.lowers d) w d x h
  upper-leaves (by_reader i) w c x h = untouched-all P w (reader_up w i c x) h.each (reader-up-untouched w i c x)
  upper-leaves (by_primary i p) w c x h = untouched-all P w (primary_up w i p c x) h.each (primary-up-untouched w i p c x)

  up-as-every : (w : World) (c : ℕ) (o : Option Next) → Held P w → IfSome (up_as w c false o) (Every P)
  up-as-every w c None h = tt
  up-as-every w c (Some x) h =
      let v = up_taken w c x in
      let k = up-taken-held P w c x h in
      changed-every P v (upper_up (w.dialled c).upper v c x false) k.each (upper-leaves (w.dialled c).upper v c x k)

  up-every : (w : World) (c : ℕ) → Held P w → IfSome (up_event w c false) (Every P)
  up-every w c h = when-each (Every P) (nat_lt c w.next_conn) _ (λ _. up-as-every w c (next_up w c) h)

  -- ALL EVENTS

  outcome-every : (w : World) (e : Event) → FaultKeeps P w e → Held P w → IfSome (outcome w e) (Every P)
  unfolding outcome
  outcome-every w (event.Own s) q h = changed-every P w (own_change w s) h.each (untouched-all P w (own_change w s) h.each (own-untouched w s))
  outcome-every w (event.Office c) q h = changed-every P w (office_event w c) h.each (untouched-all P w (office_event w c) h.each (office-untouched w c))
  outcome-every w (event.Down c answered) q h = down-every w c.0 answered h
  outcome-every w (event.Ready c) q h = ready-every w c.0 h
  outcome-every w (event.Up c) q h = up-every w c.0 h
  outcome-every w (event.Lost c way more) q h = where-every P (nat_lt c.0 w.next_conn) (lost w c.0 way more) (lost-every P w c.0 way more h.each)
  outcome-every w (event.Fault d) q h = q
  outcome-every w (event.Stop n) q h = where-every P (w.running n.0) (stop w n.0) h.each
  outcome-every w (event.Restart n list) q h =
      where-every P (nat_lt n.0 w.nodes && not (w.running n.0)) (restart w n.0 list) (restart-every P finds w n.0 list h.each)

  pub happens-every : (w : World) (e : Event) → FaultKeeps P w e → Held P w → Every P (happens w e)
  unfolding happens
  happens-every w e q h = after-every P w e (outcome w e) h.each (outcome-every w e q h)
