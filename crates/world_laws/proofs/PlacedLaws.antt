-- Every index is in range after every list of events.
use Rattle.std.proofs.Common.{◌≡◌, ℕ, ◌<◌, ◌≤◌, Bool, true, false, List, [], ◌∷◌, Option, Some, None, IfSome, refl, arith, eqb-true}
use Rattle.std.specs.Prelude.{◌==◌, ◌&&◌, not, nat_lt}
use Rattle.std.proofs.lemmas.Bool.Decides.{nat_tests}
use Rattle.std.proofs.lemmas.Bool.{false≢true}
use Rattle.world.specs.declared.events.Delivery.{Delivery}
use Rattle.world.specs.declared.events.Delivery.TheVariants as delivery
use Rattle.world.specs.declared.events.Direction.{Direction}
use Rattle.world.specs.declared.events.Direction.TheVariants as direction
use Rattle.world.specs.declared.events.Event.{Event}
use Rattle.world.specs.declared.events.Event.TheVariants as event
use Rattle.world.specs.declared.events.FoundReplica.{FoundReplica}
use Rattle.world.specs.declared.events.OwnStep.{OwnStep}
use Rattle.world.specs.declared.events.OwnStep.TheVariants as own
use Rattle.world.specs.Parts.{Upper, by_writer, by_member, by_reader, by_primary, Marks, new_marks}
use Rattle.world.specs.Worlds.{World, Change, put, start}
use Rattle.world.specs.Connections.{Next, next_down, next_up, down_taken, up_taken, is_alive, is_served, stopped_marks, stopped_where, is_of_node, touches}
use Rattle.world.specs.Nodes.{lower_down, lower_ready}
use Rattle.world.specs.Clients.{writer_up, reader_up}
use Rattle.world.specs.Primaries.{primary_up, office_event}
use Rattle.world.specs.Restarts.{restart}
use Rattle.world.specs.Events.{changed, own_change, down_as, down_event, ready_event, unless_fails, upper_up, up_as, up_event, fault_event, lost, stop, where_so, outcome, after_event, happens, run}
use Rattle.world_laws.specs.Placing.{IsUpper, IsUndialled, Placed}
use Rattle.world_laws.proofs.FactTables.{if-each, when-each, and-left}
use Rattle.world_laws.proofs.PlaceFitting.{Fits, placed-after}
use Rattle.world_laws.proofs.LowerEnds.{lower-down-fits, lower-ready-fits, mirror-up-fits}
use Rattle.world_laws.proofs.ClientEnds.{own-writer-fits, writer-up-fits, own-reader-fits, reader-up-fits}
use Rattle.world_laws.proofs.PrimaryEnds.{own-recover-fits, own-primary-fits, primary-up-fits, office-fits}

-- a change that fits
changed-placed : (w : World) (k : Option Change) → Placed w → IfSome k (Fits w) → IfSome (changed w k) Placed
changed-placed w None h f = tt
changed-placed w (Some k) h f = placed-after w k h f

-- MARKS

-- the same world with other marks down, where those of connections that weren't dialled are new
down-marked : (w : World) (marks : ℕ → Marks) → ((c : ℕ) → w.next_conn ≤ c → marks c ≡ new_marks) → Placed w → Placed (record w { down_marks = marks })
down-marked w marks m h = record {
  runs = h.runs;
  dialled = h.dialled;
  lowers = h.lowers;
  writers = h.writers;
  readers = h.readers;
  primaries = h.primaries;
  undialled = λ c le. let u = h.undialled c le in record { downs = u.downs; ups = u.ups; lower = u.lower; down_marks = m c le; up_marks = u.up_marks };
}

up-marked : (w : World) (marks : ℕ → Marks) → ((c : ℕ) → w.next_conn ≤ c → marks c ≡ new_marks) → Placed w → Placed (record w { up_marks = marks })
up-marked w marks m h = record {
  runs = h.runs;
  dialled = h.dialled;
  lowers = h.lowers;
  writers = h.writers;
  readers = h.readers;
  primaries = h.primaries;
  undialled = λ c le. let u = h.undialled c le in record { downs = u.downs; ups = u.ups; lower = u.lower; down_marks = u.down_marks; up_marks = m c le };
}

-- marks that change at a connection that was dialled
put-out : (n c : ℕ) (marks : ℕ → Marks) (x : Marks) → c < n → ((d : ℕ) → n ≤ d → marks d ≡ new_marks) → (d : ℕ) → n ≤ d → put marks c x d ≡ new_marks
put-out n c marks x lt h d le =
    if-each (λ (m : Marks). m ≡ new_marks) (d == c) x (marks d) (λ e. absurd (omega (arith, eqb-true d c e, lt, le))) (λ e. h d le)

down-taken-placed : (w : World) (c : ℕ) (x : Next) → c < w.next_conn → Placed w → Placed (down_taken w c x)
unfolding down_taken
down-taken-placed w c x lt h = down-marked w _ (put-out w.next_conn c w.down_marks _ lt (λ d le. (h.undialled d le).down_marks)) h

up-taken-placed : (w : World) (c : ℕ) (x : Next) → c < w.next_conn → Placed w → Placed (up_taken w c x)
unfolding up_taken
up-taken-placed w c x lt h = up-marked w _ (put-out w.next_conn c w.up_marks _ lt (λ d le. (h.undialled d le).up_marks)) h

-- DELIVERIES

lt-true : (a b : ℕ) → nat_lt a b ≡ true → a < b
lt-true a b e = grind (arith, nat_tests, e)

served-below : (w : World) (c : ℕ) → is_served w c ≡ true → c < w.next_conn
served-below w c e = lt-true c w.next_conn (and-left (nat_lt c w.next_conn) (is_alive w (w.dialled c).to) e)

down-as-placed : (w : World) (c : ℕ) (answered fails : Bool) (o : Option Next) → c < w.next_conn → Placed w → IfSome (down_as w c answered fails o) Placed
unfolding down_taken
down-as-placed w c answered fails None lt h = tt
down-as-placed w c answered fails (Some x) lt h =
    let v = down_taken w c x in
    let k = down-taken-placed w c x lt h in
    changed-placed v (lower_down (w.lowers c) v c x answered fails) k (lower-down-fits (w.lowers c) v c x answered fails k lt (h.lowers c))

down-placed : (w : World) (c : ℕ) (answered fails : Bool) → Placed w → IfSome (down_event w c answered fails) Placed
down-placed w c answered fails h =
    when-each Placed (is_served w c) _ (λ e. down-as-placed w c answered fails (next_down w c) (served-below w c e) h)

ready-placed : (w : World) (c : ℕ) (fails : Bool) → Placed w → IfSome (ready_event w c fails) Placed
ready-placed w c fails h =
    when-each Placed (is_served w c) _
    (λ e. changed-placed w (lower_ready (w.lowers c) w c fails) h (lower-ready-fits (w.lowers c) w c fails h (served-below w c e) (h.lowers c)))

unless-fits : (w : World) (fails : Bool) (k : Option Change) → IfSome k (Fits w) → IfSome (unless_fails fails k) (Fits w)
unless-fits w true k f = tt
unless-fits w false k f = f

upper-fits : (u : Upper) (w : World) (c : ℕ) (x : Next) (fails : Bool) → c < w.next_conn → IsUpper w.next_conn u → Placed w → IfSome (upper_up u w c x fails) (Fits w)
upper-fits (by_writer b) w c x fails lt q h = unless-fits w fails (writer_up w b c x) (writer-up-fits w b c x h)
upper-fits (by_member d) w c x fails lt q h = mirror-up-fits (w.lowers d) w d x fails h q (h.lowers d)
upper-fits (by_reader i) w c x fails lt q h = unless-fits w fails (reader_up w i c x) (reader-up-fits w i c x lt h)
upper-fits (by_primary i p) w c x fails lt q h = unless-fits w fails (primary_up w i p c x) (primary-up-fits w i p c x lt h)

up-as-placed : (w : World) (c : ℕ) (fails : Bool) (o : Option Next) → c < w.next_conn → Placed w → IfSome (up_as w c fails o) Placed
unfolding up_taken
up-as-placed w c fails None lt h = tt
up-as-placed w c fails (Some x) lt h =
    let v = up_taken w c x in
    let k = up-taken-placed w c x lt h in
    changed-placed v (upper_up (w.dialled c).upper v c x fails) k (upper-fits (w.dialled c).upper v c x fails lt (h.dialled c lt).upper k)

up-placed : (w : World) (c : ℕ) (fails : Bool) → Placed w → IfSome (up_event w c fails) Placed
up-placed w c fails h =
    when-each Placed (nat_lt c w.next_conn) _ (λ e. up-as-placed w c fails (next_up w c) (lt-true c w.next_conn e) h)

fault-placed : (w : World) (d : Delivery) → Placed w → IfSome (fault_event w d) Placed
fault-placed w (delivery.Down c) h = down-placed w c.0 false true h
fault-placed w (delivery.Ready c) h = ready-placed w c.0 true h
fault-placed w (delivery.Up c) h = up-placed w c.0 true h

-- LOSSES, STOPS, RESTARTS

told-nothing : (w : World) → Placed w → Placed (record w { last_answer = None })
told-nothing w h = record {
  runs = h.runs;
  dialled = h.dialled;
  lowers = h.lowers;
  writers = h.writers;
  readers = h.readers;
  primaries = h.primaries;
  undialled = λ c le. let u = h.undialled c le in record { downs = u.downs; ups = u.ups; lower = u.lower; down_marks = u.down_marks; up_marks = u.up_marks };
}

lost-placed : (w : World) (c : ℕ) (way : Direction) (more : ℕ) → c < w.next_conn → Placed w → Placed (lost w c way more)
lost-placed w c direction.Down more lt h =
    told-nothing _ (down-marked w _ (put-out w.next_conn c w.down_marks _ lt (λ d le. (h.undialled d le).down_marks)) h)
lost-placed w c direction.Up more lt h =
    told-nothing _ (up-marked w _ (put-out w.next_conn c w.up_marks _ lt (λ d le. (h.undialled d le).up_marks)) h)

stopped-out : (w : World) (n : ℕ) (marks : ℕ → Marks) → ((d : ℕ) → w.next_conn ≤ d → marks d ≡ new_marks)
    → (d : ℕ) → w.next_conn ≤ d → stopped_where (is_of_node w n) marks d ≡ new_marks
stopped-out w n marks h d le =
    if-each (λ (m : Marks). m ≡ new_marks) (is_of_node w n d) (stopped_marks (marks d)) (marks d)
    (λ e. absurd (omega (arith, lt-true d w.next_conn (and-left (nat_lt d w.next_conn) (touches n (w.dialled d)) e), le)))
    (λ e. h d le)

stop-placed : (w : World) (n : ℕ) → Placed w → Placed (stop w n)
stop-placed w n h = record {
  runs = λ m e. h.runs m (still-runs m e);
  dialled = h.dialled;
  lowers = h.lowers;
  writers = h.writers;
  readers = h.readers;
  primaries = h.primaries;
  undialled = λ c le.
      let u = h.undialled c le in
      record {
        downs = u.downs;
        ups = u.ups;
        lower = u.lower;
        down_marks = stopped-out w n w.down_marks (λ d e. (h.undialled d e).down_marks) c le;
        up_marks = stopped-out w n w.up_marks (λ d e. (h.undialled d e).up_marks) c le;
      };
}
  where
    still-runs : (m : ℕ) → put w.running n false m ≡ true → w.running m ≡ true
    still-runs m e = if-each (λ (b : Bool). b ≡ true → w.running m ≡ true) (m == n) false (w.running m) (λ _ f. absurd (false≢true f)) (λ _ f. f) e

restart-placed : (w : World) (n : ℕ) (list : List FoundReplica) → n < w.nodes → Placed w → Placed (restart w n list)
unfolding restart
restart-placed w n list lt h = record {
  runs = λ m e. runs-below m e;
  dialled = h.dialled;
  lowers = h.lowers;
  writers = h.writers;
  readers = h.readers;
  primaries = h.primaries;
  undialled = λ c le. let u = h.undialled c le in record { downs = u.downs; ups = u.ups; lower = u.lower; down_marks = u.down_marks; up_marks = u.up_marks };
}
  where
    runs-below : (m : ℕ) → put w.running n true m ≡ true → m < w.nodes
    runs-below m e =
        if-each (λ (b : Bool). b ≡ true → m < w.nodes) (m == n) true (w.running m) (λ f _. omega (arith, eqb-true m n f, lt)) (λ _ f. h.runs m f) e

-- EVENTS

own-fits : (w : World) (s : OwnStep) → Placed w → IfSome (own_change w s) (Fits w)
own-fits w (own.Writer b takes answered) h = own-writer-fits w b.0 takes answered h
own-fits w (own.Reader i n r answered) h = own-reader-fits w i n.0 r answered h
own-fits w (own.Recover i n b members answers) h = own-recover-fits w i n.0 b members answers h
own-fits w (own.Primary i) h = own-primary-fits w i h

where-placed : (test : Bool) (v : World) → (test ≡ true → Placed v) → IfSome (where_so test v) Placed
where-placed true v h = h refl
where-placed false v h = tt

outcome-placed : (w : World) (e : Event) → Placed w → IfSome (outcome w e) Placed
unfolding outcome
outcome-placed w (event.Own s) h = changed-placed w (own_change w s) h (own-fits w s h)
outcome-placed w (event.Office c) h = changed-placed w (office_event w c) h (office-fits w c h)
outcome-placed w (event.Down c answered) h = down-placed w c.0 answered false h
outcome-placed w (event.Ready c) h = ready-placed w c.0 false h
outcome-placed w (event.Up c) h = up-placed w c.0 false h
outcome-placed w (event.Lost c way more) h = where-placed (nat_lt c.0 w.next_conn) _ (λ e. lost-placed w c.0 way more (lt-true c.0 w.next_conn e) h)
outcome-placed w (event.Fault d) h = fault-placed w d h
outcome-placed w (event.Stop n) h = where-placed (w.running n.0) _ (λ _. stop-placed w n.0 h)
outcome-placed w (event.Restart n list) h =
    where-placed (nat_lt n.0 w.nodes && not (w.running n.0)) _
    (λ e. restart-placed w n.0 list
    (lt-true n.0 w.nodes (and-left (nat_lt n.0 w.nodes) (not (w.running n.0)) e)) h)

named : (v : World) (e : Event) → Placed v → Placed (record v { last = Some e })
named v e h = record {
  runs = h.runs;
  dialled = h.dialled;
  lowers = h.lowers;
  writers = h.writers;
  readers = h.readers;
  primaries = h.primaries;
  undialled = λ c le. let u = h.undialled c le in record { downs = u.downs; ups = u.ups; lower = u.lower; down_marks = u.down_marks; up_marks = u.up_marks };
}

after-placed : (w : World) (e : Event) (o : Option World) → Placed w → IfSome o Placed → Placed (after_event w e o)
after-placed w e None h k = h
after-placed w e (Some v) h k = named v e k

pub happens-placed : (w : World) (e : Event) → Placed w → Placed (happens w e)
unfolding happens
happens-placed w e h = after-placed w e (outcome w e) h (outcome-placed w e h)

run-placed : (w : World) (events : List Event) → Placed w → Placed (run w events)
run-placed w [] h = h
run-placed w (e ∷ events) h = run-placed (happens w e) events (happens-placed w e h)

start-placed : (nodes : ℕ) → Placed (start nodes)
unfolding start
start-placed nodes = record {
  runs = λ n e. lt-true n nodes e;
  dialled = λ c lt. absurd (omega (arith, lt));
  lowers = λ c. tt;
  writers = λ b. record { below = tt };
  readers = λ i. tt;
  primaries = λ i. tt;
  undialled = λ c le. record { downs = refl; ups = refl; lower = refl; down_marks = refl; up_marks = refl };
}

pub all-placed : (nodes : ℕ) (events : List Event) → Placed (run (start nodes) events)
all-placed nodes events = run-placed (start nodes) events (start-placed nodes)

pub only-dialled-carry : (nodes : ℕ) (events : List Event) (c : ℕ) → (run (start nodes) events).next_conn ≤ c → IsUndialled (run (start nodes) events) c
only-dialled-carry nodes events c le = (all-placed nodes events).undialled c le
