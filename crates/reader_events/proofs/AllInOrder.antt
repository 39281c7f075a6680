-- Readers take in order after every list of events.
use Rattle.std.proofs.Common.{◌≡◌, ℕ, Bool, true, false, List, [], ◌∷◌, Option, Some, None, IfSome, refl, sym, ap, ◌∙◌, subst, arith, eqb-true}
use Rattle.std.specs.Prelude.{◌==◌, ◌&&◌, not, nat_lt}
use Rattle.world_settling.specs.World.Delivery.{Delivery}
use Rattle.world_settling.specs.World.Delivery.TheVariants as delivery
use Rattle.world_settling.specs.World.Direction.{Direction}
use Rattle.world_settling.specs.World.Direction.TheVariants as direction
use Rattle.world_settling.specs.World.Event.{Event}
use Rattle.world_settling.specs.World.Event.TheVariants as event
use Rattle.world_settling.specs.World.FoundReplica.{FoundReplica}
use Rattle.world_settling.specs.World.OwnStep.{OwnStep}
use Rattle.world_settling.specs.World.OwnStep.TheVariants as own
use Rattle.world_settling.specs.World.Parts.{Upper, by_writer, by_member, by_reader, by_primary, Marks, Reader}
use Rattle.world_settling.specs.World.Worlds.{World, Change, apply, put, start}
use Rattle.world_settling.specs.World.Connections.{Next, marks_taken, next_down, next_up, down_taken, up_taken, is_served, stopped_where, is_of_node, lost_marks}
use Rattle.world_settling.specs.World.Nodes.{lower_down, lower_ready}
use Rattle.world_settling.specs.World.Restarts.{restart}
use Rattle.world_settling.specs.World.Events.{changed, own_change, down_as, down_event, ready_event, unless_fails, upper_up, up_as, up_event, fault_event, lost, stop, where_so, outcome, after_event, happens, run}
use Rattle.world_settling.specs.World.Primaries.{office_event}
use Rattle.world_orders.specs.WorldLaws.Placing.{Placed}
use Rattle.world_orders.proofs.WorldLaws.FactTables.{if-each, when-each}
use Rattle.world_orders.proofs.WorldLaws.PlacedLaws.{happens-placed, all-placed}
use Rattle.world_orders.specs.Orders.{ReaderIs, Ordered}
use Rattle.world_orders.proofs.AllOrdered.{put-here, happens-ordered, start-ordered, all-ordered}
use Rattle.world_orders.proofs.Clients.{clash}
use Rattle.world_orders.proofs.Kept.{eqb-itself}
use Rattle.reader_events.specs.Orders.{ReadersTakeInOrder}
use Rattle.reader_events.proofs.Staying.{ReadsOn, AllRead, SameTaken, reads-on, change-reads, stays-read}
use Rattle.world_settling.proofs.ReaderNodeAsides.{Stays, lower-down-stays, lower-ready-stays, mirror-up-stays}
use Rattle.world_settling.proofs.ReaderAsides.{own-writer-stays, writer-up-stays, own-recover-stays, own-primary-stays, primary-up-stays, office-stays}
use Rattle.reader_events.proofs.OrderLaws.{ReaderReads, own-reads, up-reads, in-order}

-- what a change leaves that does so much
changed-reads : (w : World) (k : Option Change) (P : Change → Type 0) → ((j : Change) → P j → AllRead (apply w j)) → IfSome k P → IfSome (changed w k) AllRead
changed-reads w None P f o = tt
changed-reads w (Some k) P f o = f k o

-- WHAT COMES DOWN

down-as-reads : (w : World) (c : ℕ) (answered fails : Bool) (o : Option Next) → AllRead w → IfSome (down_as w c answered fails o) AllRead
unfolding down_taken
down-as-reads w c answered fails None h = tt
down-as-reads w c answered fails (Some x) h =
    let v : World = record w { down_marks = put w.down_marks c (marks_taken (w.down_marks c) x) } in
    changed-reads v (lower_down (w.lowers c) v c x answered fails) (Stays v) (λ j s. stays-read v j s (record { all = h.all })) (lower-down-stays (w.lowers c) v c x answered fails)

down-reads : (w : World) (c : ℕ) (answered fails : Bool) → AllRead w → IfSome (down_event w c answered fails) AllRead
down-reads w c answered fails h = when-each AllRead (is_served w c) _ (λ e. down-as-reads w c answered fails (next_down w c) h)

ready-reads : (w : World) (c : ℕ) (fails : Bool) → AllRead w → IfSome (ready_event w c fails) AllRead
ready-reads w c fails h = when-each AllRead (is_served w c) _ (λ e. changed-reads w (lower_ready (w.lowers c) w c fails) (Stays w) (λ j s. stays-read w j s h) (lower-ready-stays (w.lowers c) w c fails))

-- WHAT COMES UP

unless-some : (P : Change → Type 0) (fails : Bool) (k : Option Change) → IfSome k P → IfSome (unless_fails fails k) P
unless-some P true k f = tt
unless-some P false k f = f

different : (d c : ℕ) → (d == c) ≡ false → d ≡ c → ⊥
different d c e is = clash (d == c) e (subst (λ (n : ℕ). (d == n) ≡ true) is (eqb-itself d))

module _ (w : World) (c : ℕ) (x : Next) (g : Ordered w) (h : AllRead w) where
  um : ℕ → Marks
  um = put w.up_marks c (marks_taken (w.up_marks c) x)

  v : World
  v = record w { up_marks = um }

  -- a connection that another reader dialled
  apart : (d : ℕ) → ((d == c) ≡ true → ⊥) → SameTaken (w.up_marks d) (um d)
  unfolding um
  apart d never = if-each (λ (m : Marks). SameTaken (w.up_marks d) m) (d == c) _ _ (λ e. absurd (never e)) (λ e. record { taken = refl; over = refl })

  -- of a reader that didn't dial this connection
  elsewhere : (line : ℕ) → ((w.dialled c).upper ≡ by_reader line → ⊥) → ReadsOn um (w.readers line)
  elsewhere line never = reads-on w.up_marks um (w.readers line)
      (λ d s is. apart d (λ e. never (subst (λ (n : ℕ). (w.dialled n).upper ≡ by_reader line) (eqb-true d c e) (subst (ReaderIs w.dialled line) is (g.readers_are line)))))
      (h.all line)

  -- where no reader takes
  nobody : ((line : ℕ) → (w.dialled c).upper ≡ by_reader line → ⊥) → AllRead v
  unfolding v
  nobody never = record { all = λ line. elsewhere line (never line) }

  reader-same : (a b : ℕ) → by_reader a ≡ by_reader b → a ≡ b
  reader-same a b e = ap number e
    where
      number : Upper → ℕ
      number (by_writer n) = n
      number (by_member n) = 0
      number (by_reader n) = n
      number (by_primary n place) = 0

  reader-after : (line : ℕ) → (w.dialled c).upper ≡ by_reader line → (j : Change) → ReaderReads v line j → AllRead (apply v j)
  unfolding v
  reader-after line is j k = change-reads v j k.reader
      (λ other e. elsewhere other (λ f. different other line (subst (λ (n : ℕ). (other == n) ≡ false) k.at_is e) (reader-same other line (sym f ∙ is))))

  upper-reads : (u : Upper) (fails : Bool) → (w.dialled c).upper ≡ u → IfSome (changed v (upper_up u v c x fails)) AllRead
  unfolding v um
  upper-reads (by_writer b) fails is =
      changed-reads v _ (Stays v) (λ j s. stays-read v j s (nobody (λ line e. none line (sym is ∙ e)))) (unless-some (Stays v) fails _ (writer-up-stays v b c x))
    where
      none : (line : ℕ) → by_writer b ≡ by_reader line → ⊥
      none line e = cc
  upper-reads (by_member d) fails is =
      changed-reads v _ (Stays v) (λ j s. stays-read v j s (nobody (λ line e. none line (sym is ∙ e)))) (mirror-up-stays (w.lowers d) v d x fails)
    where
      none : (line : ℕ) → by_member d ≡ by_reader line → ⊥
      none line e = cc
  upper-reads (by_reader line) fails is =
      changed-reads v _ (ReaderReads v line) (reader-after line is) (unless-some (ReaderReads v line) fails _ (up-reads v w.up_marks line c x (put-here w.up_marks c _) (h.all line)))
  upper-reads (by_primary i place) fails is =
      changed-reads v _ (Stays v) (λ j s. stays-read v j s (nobody (λ line e. none line (sym is ∙ e)))) (unless-some (Stays v) fails _ (primary-up-stays v i place c x))
    where
      none : (line : ℕ) → by_primary i place ≡ by_reader line → ⊥
      none line e = cc

  up-some : (fails : Bool) → IfSome (up_as w c fails (Some x)) AllRead
  unfolding up_taken um v
  up-some fails = upper-reads (w.dialled c).upper fails refl

up-as-reads : (w : World) (c : ℕ) (fails : Bool) (o : Option Next) → Ordered w → AllRead w → IfSome (up_as w c fails o) AllRead
up-as-reads w c fails None g h = tt
up-as-reads w c fails (Some x) g h = up-some w c x g h fails

up-event-reads : (w : World) (c : ℕ) (fails : Bool) → Ordered w → AllRead w → IfSome (up_event w c fails) AllRead
up-event-reads w c fails g h = when-each AllRead (nat_lt c w.next_conn) _ (λ e. up-as-reads w c fails (next_up w c) g h)

fault-reads : (w : World) (d : Delivery) → Ordered w → AllRead w → IfSome (fault_event w d) AllRead
fault-reads w (delivery.Down c) g h = down-reads w c.0 false true h
fault-reads w (delivery.Ready c) g h = ready-reads w c.0 true h
fault-reads w (delivery.Up c) g h = up-event-reads w c.0 true g h

-- LOSSES, STOPS, RESTARTS

-- a world with other marks, of which as much was taken
other-marks : (w v : World) → v.readers ≡ w.readers → ((c : ℕ) → SameTaken (w.up_marks c) (v.up_marks c)) → AllRead w → AllRead v
other-marks w v is same h = record {
  all = λ line. subst (λ (f : ℕ → Reader). ReadsOn v.up_marks (f line)) (sym is) (reads-on w.up_marks v.up_marks (w.readers line) (λ c s e. same c) (h.all line));
}

put-same : (marks : ℕ → Marks) (c : ℕ) (x : Marks) → SameTaken (marks c) x → (d : ℕ) → SameTaken (marks d) (put marks c x d)
put-same marks c x same d = if-each (λ (m : Marks). SameTaken (marks d) m) (d == c) x (marks d) (λ e. subst (λ (n : ℕ). SameTaken (marks n) x) (sym (eqb-true d c e)) same) (λ e. record { taken = refl; over = refl })

lost-reads : (w : World) (c : ℕ) (way : Direction) (more : ℕ) → AllRead w → AllRead (lost w c way more)
lost-reads w c direction.Down more h = other-marks w (lost w c direction.Down more) refl (λ d. record { taken = refl; over = refl }) h
lost-reads w c direction.Up more h = other-marks w (lost w c direction.Up more) refl (put-same w.up_marks c (lost_marks (w.ups c) more (w.up_marks c)) (record { taken = refl; over = refl })) h

stopped-same : (test : ℕ → Bool) (marks : ℕ → Marks) (d : ℕ) → SameTaken (marks d) (stopped_where test marks d)
stopped-same test marks d = if-each (λ (m : Marks). SameTaken (marks d) m) (test d) _ _ (λ e. record { taken = refl; over = refl }) (λ e. record { taken = refl; over = refl })

stop-reads : (w : World) (n : ℕ) → AllRead w → AllRead (stop w n)
stop-reads w n h = other-marks w (stop w n) refl (stopped-same (is_of_node w n) w.up_marks) h

restart-reads : (w : World) (n : ℕ) (list : List FoundReplica) → AllRead w → AllRead (restart w n list)
unfolding restart
restart-reads w n list h = record { all = h.all }

-- EVENTS

own-step-reads : (w : World) (s : OwnStep) → Placed w → AllRead w → IfSome (changed w (own_change w s)) AllRead
own-step-reads w (own.Writer b takes answered) p h = changed-reads w _ (Stays w) (λ j s. stays-read w j s h) (own-writer-stays w b.0 takes answered)
own-step-reads w (own.Reader line n r answered) p h =
    changed-reads w _ (ReaderReads w line) (λ j k. change-reads w j k.reader (λ other e. h.all other))
    (own-reads w line n.0 r answered ((p.undialled w.next_conn (omega arith)).up_marks))
own-step-reads w (own.Recover i n b members answers) p h = changed-reads w _ (Stays w) (λ j s. stays-read w j s h) (own-recover-stays w i n.0 b members answers)
own-step-reads w (own.Primary i) p h = changed-reads w _ (Stays w) (λ j s. stays-read w j s h) (own-primary-stays w i)

where-reads : (test : Bool) (v : World) → AllRead v → IfSome (where_so test v) AllRead
where-reads true v h = h
where-reads false v h = tt

outcome-reads : (w : World) (e : Event) → Placed w → Ordered w → AllRead w → IfSome (outcome w e) AllRead
unfolding outcome
outcome-reads w (event.Own s) p g h = own-step-reads w s p h
outcome-reads w (event.Office c) p g h = changed-reads w (office_event w c) (Stays w) (λ j s. stays-read w j s h) (office-stays w c)
outcome-reads w (event.Down c answered) p g h = down-reads w c.0 answered false h
outcome-reads w (event.Ready c) p g h = ready-reads w c.0 false h
outcome-reads w (event.Up c) p g h = up-event-reads w c.0 false g h
outcome-reads w (event.Lost c way more) p g h = where-reads (nat_lt c.0 w.next_conn) _ (lost-reads w c.0 way more h)
outcome-reads w (event.Fault d) p g h = fault-reads w d g h
outcome-reads w (event.Stop n) p g h = where-reads (w.running n.0) _ (stop-reads w n.0 h)
outcome-reads w (event.Restart n list) p g h = where-reads (nat_lt n.0 w.nodes && not (w.running n.0)) _ (restart-reads w n.0 list h)

after-reads : (w : World) (e : Event) (o : Option World) → AllRead w → IfSome o AllRead → AllRead (after_event w e o)
after-reads w e None h k = h
after-reads w e (Some v) h k = record { all = k.all }

happens-reads : (w : World) (e : Event) → Placed w → Ordered w → AllRead w → AllRead (happens w e)
unfolding happens
happens-reads w e p g h = after-reads w e (outcome w e) h (outcome-reads w e p g h)

run-reads : (w : World) (events : List Event) → Placed w → Ordered w → AllRead w → AllRead (run w events)
run-reads w [] p g h = h
run-reads w (e ∷ events) p g h = run-reads (happens w e) events (happens-placed w e p) (happens-ordered w e p g) (happens-reads w e p g h)

start-reads : (nodes : ℕ) → AllRead (start nodes)
unfolding start
start-reads nodes = record { all = λ line. tt }

pub all-in-order : (nodes : ℕ) (events : List Event) → ReadersTakeInOrder (run (start nodes) events)
all-in-order nodes events = in-order (run (start nodes) events) (all-ordered nodes events) (run-reads (start nodes) events (all-placed nodes []) (start-ordered nodes) (start-reads nodes))
