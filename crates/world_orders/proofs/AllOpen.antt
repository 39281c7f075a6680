-- Whoever may still take hasn't taken the end, after every list of events.
use Rattle.std.proofs.Common.{◌≡◌, ℕ, ◌<◌, Bool, true, false, List, [], ◌∷◌, Option, Some, None, IfSome, refl, sym, ap, ◌∙◌, subst, arith, eqb-true}
use Rattle.std.specs.Prelude.{◌==◌, ◌&&◌, not, nat_lt}
use Rattle.world_laws.specs.World.Caller.{Caller}
use Rattle.world_laws.specs.World.Caller.TheVariants as caller
use Rattle.world_laws.specs.World.Delivery.{Delivery}
use Rattle.world_laws.specs.World.Delivery.TheVariants as delivery
use Rattle.world_laws.specs.World.Direction.{Direction}
use Rattle.world_laws.specs.World.Direction.TheVariants as direction
use Rattle.world_laws.specs.World.Event.{Event}
use Rattle.world_laws.specs.World.Event.TheVariants as event
use Rattle.world_laws.specs.World.FoundReplica.{FoundReplica}
use Rattle.world_laws.specs.World.OwnStep.{OwnStep}
use Rattle.world_laws.specs.World.OwnStep.TheVariants as own
use Rattle.world_laws.specs.World.Parts.{Message, Upper, by_writer, by_member, by_reader, by_primary, Marks, Lower, Writing}
use Rattle.world_laws.specs.World.Worlds.{World, Change, apply, put, start}
use Rattle.world_laws.specs.World.Connections.{Next, message, the_end, marks_taken, next_down, next_up, down_taken, up_taken, is_served, stopped_where, is_of_node, lost_marks}
use Rattle.world_laws.specs.World.Nodes.{lower_down, lower_ready}
use Rattle.world_laws.specs.World.Restarts.{restart}
use Rattle.world_laws.specs.World.Events.{changed, own_change, down_as, down_event, ready_event, unless_fails, upper_up, up_as, up_event, fault_event, lost, stop, where_so, outcome, after_event, happens, run}
use Rattle.world_laws.specs.World.Primaries.{office_event}
use Rattle.world_laws.specs.Placing.{Placed}
use Rattle.world_laws.proofs.FactTables.{if-each, when-each}
use Rattle.world_laws.proofs.PlacedLaws.{happens-placed, all-placed}
use Rattle.world_orders.specs.Orders.{Ordered}
use Rattle.world_orders.specs.Open.{IsOpenBelow, OpenEnds}
use Rattle.world_orders.proofs.AllOrdered.{lt-true, happens-ordered, start-ordered}
use Rattle.world_orders.proofs.Kept.{eqb-itself}
use Rattle.world_orders.proofs.Clients.{clash}
use Rattle.world_orders.proofs.Nodes.{member-same}
use Rattle.world_orders.proofs.OpenFrame.{IsOpenMirror, IsOpenWriter, Opens, open-ends, below-over, mirror-over, writer-over, mirror-apart, writer-apart, Beside, beside-opens, LowerOpens, lower-opens, WriterOpens, writer-opens}
use Rattle.world_orders.proofs.OpenLowers.{lower-down-opens, lower-ready-opens, mirror-up-opens}
use Rattle.world_orders.proofs.OpenClients.{own-writer-opens, writer-up-opens, own-reader-beside, reader-up-beside}
use Rattle.world_orders.proofs.OpenPrimaries.{own-recover-beside, own-primary-beside, primary-up-beside, asks-opens, primary-asks-beside}

-- what a change leaves that does so much
changed-opens : (v : World) (k : Option Change) (P : Change → Type 0) → ((j : Change) → P j → Opens (apply v j)) → IfSome k P → IfSome (changed v k) Opens
changed-opens v None P f o = tt
changed-opens v (Some k) P f o = f k o

-- MARKS

message-over : (k : Marks) (x : Next) (y : Message) → x ≡ message y → (marks_taken k x).over ≡ k.over
message-over k (message m) y e = refl
message-over k the_end y e = cc

-- a message leaves every end as it was
put-over : (marks : ℕ → Marks) (c : ℕ) (x : Marks) → x.over ≡ (marks c).over → (d : ℕ) → (marks d).over ≡ (put marks c x d).over
put-over marks c x e d = if-each (λ (m : Marks). (marks d).over ≡ m.over) (d == c) x (marks d) (λ f. ap (λ (n : ℕ). (marks n).over) (eqb-true d c f) ∙ sym e) (λ f. refl)

-- and the end of one connection leaves all others
put-elsewhere : (marks : ℕ → Marks) (c : ℕ) (x : Marks) (d : ℕ) → (d ≡ c → ⊥) → (marks d).over ≡ (put marks c x d).over
put-elsewhere marks c x d other = if-each (λ (m : Marks). (marks d).over ≡ m.over) (d == c) x (marks d) (λ f. absurd (other (eqb-true d c f))) (λ f. refl)

different : (d c : ℕ) → (d == c) ≡ false → d ≡ c → ⊥
different d c e is = clash (d == c) e (subst (λ (n : ℕ). (d == n) ≡ true) is (eqb-itself d))

fresh-over : (w : World) → Placed w → (w.up_marks w.next_conn).over ≡ false
fresh-over w p = ap (λ (m : Marks). m.over) ((p.undialled w.next_conn (omega arith)).up_marks)

-- WHAT COMES DOWN

down-as-opens : (w : World) (c : ℕ) (answered fails : Bool) (o : Option Next) → Placed w → Opens w → IfSome (down_as w c answered fails o) Opens
unfolding down_taken
down-as-opens w c answered fails None p h = tt
down-as-opens w c answered fails (Some x) p h =
    let dm : ℕ → Marks = put w.down_marks c (marks_taken (w.down_marks c) x) in
    let v : World = record w { down_marks = dm } in
    changed-opens v (lower_down (w.lowers c) v c x answered fails) (LowerOpens v c)
    (λ j. lower-opens v c j (record {
      below = λ d e. below-over (w.lowers d) _ _ (put-elsewhere w.down_marks c _ d (different d c e)) (h.below d);
      mirrors = λ d e. h.mirrors d;
      writers = h.writers;
    }))
    (lower-down-opens v c (w.lowers c) x answered fails
    (λ y f. below-over (w.lowers c) _ _ (put-over w.down_marks c (marks_taken (w.down_marks c) x) (message-over (w.down_marks c) x y f) c) (h.below c))
    (h.mirrors c) (fresh-over w p))

down-opens : (w : World) (c : ℕ) (answered fails : Bool) → Placed w → Opens w → IfSome (down_event w c answered fails) Opens
down-opens w c answered fails p h = when-each Opens (is_served w c) _ (λ e. down-as-opens w c answered fails (next_down w c) p h)

-- the lower end acts by itself
ready-opens : (w : World) (c : ℕ) (fails : Bool) → Opens w → IfSome (ready_event w c fails) Opens
ready-opens w c fails h = when-each Opens (is_served w c) _ (λ e.
    changed-opens w (lower_ready (w.lowers c) w c fails) (LowerOpens w c)
    (λ j. lower-opens w c j (record { below = λ d f. h.below d; mirrors = λ d f. h.mirrors d; writers = h.writers }))
    (lower-ready-opens w c (w.lowers c) fails (h.below c) (h.mirrors c)))

-- WHAT COMES UP

unless-some : (P : Change → Type 0) (fails : Bool) (k : Option Change) → IfSome k P → IfSome (unless_fails fails k) P
unless-some P true k f = tt
unless-some P false k f = f

module _ (w : World) (c : ℕ) (x : Next) (lt : c < w.next_conn) (g : Ordered w) (h : Opens w) where
  um : ℕ → Marks
  um = put w.up_marks c (marks_taken (w.up_marks c) x)

  v : World
  v = record w { up_marks = um }

  -- of connections that others dialled no end was taken
  elsewhere : (u : Upper) → ((w.dialled c).upper ≡ u → ⊥) → (d : ℕ) → (w.dialled d).upper ≡ u → (w.up_marks d).over ≡ (um d).over
  unfolding um
  elsewhere u never d is = put-elsewhere w.up_marks c _ d (λ e. never (ap (λ (n : ℕ). (w.dialled n).upper) (sym e) ∙ is))

  same-over : (y : Message) → x ≡ message y → (d : ℕ) → (w.up_marks d).over ≡ (um d).over
  unfolding um
  same-over y f d = put-over w.up_marks c _ (message-over (w.up_marks c) x y f) d

  mirror-else : (d : ℕ) → ((w.dialled c).upper ≡ by_member d → ⊥) → IsOpenMirror um (w.lowers d)
  mirror-else d never = mirror-apart w.dialled w.up_marks um d (w.lowers d) (g.mirrors d) (elsewhere (by_member d) never) (h.mirrors d)

  writer-else : (b : ℕ) → ((w.dialled c).upper ≡ by_writer b → ⊥) → IsOpenWriter um (w.writers b)
  writer-else b never = writer-apart w.dialled w.up_marks um b (w.writers b) (g.writers_are b) (elsewhere (by_writer b) never) (h.writers b)

  writer-same : (a b : ℕ) → by_writer a ≡ by_writer b → a ≡ b
  writer-same a b e = ap number e
    where
      number : Upper → ℕ
      number (by_writer n) = n
      number (by_member n) = 0
      number (by_reader n) = 0
      number (by_primary n place) = 0

  -- of all others, where neither a member nor a writer takes
  others : ((d : ℕ) → (w.dialled c).upper ≡ by_member d → ⊥) → ((b : ℕ) → (w.dialled c).upper ≡ by_writer b → ⊥) → Opens v
  unfolding v
  others never none = record { below = h.below; mirrors = λ d. mirror-else d (never d); writers = λ b. writer-else b (none b) }

  upper-opens : (u : Upper) (fails : Bool) → (w.dialled c).upper ≡ u → IfSome (changed v (upper_up u v c x fails)) Opens
  unfolding v
  upper-opens (by_writer b) fails is = changed-opens v _ (WriterOpens v b)
      (λ j. writer-opens v b j (record {
        below = h.below;
        mirrors = λ d. mirror-else d (λ e. no-member d (sym is ∙ e));
        writers = λ d e. writer-else d (λ f. different d b e (writer-same d b (sym f ∙ is)));
      }))
      (unless-some (WriterOpens v b) fails _ (writer-up-opens v w.up_marks b c x (h.writers b) (λ y f. writer-over w.up_marks um (w.writers b) (same-over y f) (h.writers b))))
    where
      no-member : (d : ℕ) → by_writer b ≡ by_member d → ⊥
      no-member d e = cc
  upper-opens (by_member d) fails is = changed-opens v _ (LowerOpens v d)
      (λ j. lower-opens v d j (record {
        below = λ e f. h.below e;
        mirrors = λ e f. mirror-else e (λ k. different e d f (member-same e d (sym k ∙ is)));
        writers = λ b. writer-else b (λ e. no-writer b (sym is ∙ e));
      }))
      (mirror-up-opens v d (w.lowers d) x fails (h.below d) (λ y f. mirror-over w.up_marks um (w.lowers d) (same-over y f) (h.mirrors d)))
    where
      no-writer : (b : ℕ) → by_member d ≡ by_writer b → ⊥
      no-writer b e = cc
  upper-opens (by_reader i) fails is = changed-opens v _ (Beside v) (λ j. beside-opens v j (others (λ d e. no-member d (sym is ∙ e)) (λ b e. no-writer b (sym is ∙ e))))
      (unless-some (Beside v) fails _ (reader-up-beside v i c x))
    where
      no-member : (d : ℕ) → by_reader i ≡ by_member d → ⊥
      no-member d e = cc

      no-writer : (b : ℕ) → by_reader i ≡ by_writer b → ⊥
      no-writer b e = cc
  upper-opens (by_primary i place) fails is = changed-opens v _ (Beside v) (λ j. beside-opens v j (others (λ d e. no-member d (sym is ∙ e)) (λ b e. no-writer b (sym is ∙ e))))
      (unless-some (Beside v) fails _ (primary-up-beside v i place c x))
    where
      no-member : (d : ℕ) → by_primary i place ≡ by_member d → ⊥
      no-member d e = cc

      no-writer : (b : ℕ) → by_primary i place ≡ by_writer b → ⊥
      no-writer b e = cc

  up-some-opens : (fails : Bool) → IfSome (up_as w c fails (Some x)) Opens
  unfolding up_taken um v
  up-some-opens fails = upper-opens (w.dialled c).upper fails refl

up-as-opens : (w : World) (c : ℕ) (fails : Bool) (o : Option Next) → c < w.next_conn → Ordered w → Opens w → IfSome (up_as w c fails o) Opens
up-as-opens w c fails None lt g h = tt
up-as-opens w c fails (Some x) lt g h = up-some-opens w c x lt g h fails

up-opens : (w : World) (c : ℕ) (fails : Bool) → Ordered w → Opens w → IfSome (up_event w c fails) Opens
up-opens w c fails g h = when-each Opens (nat_lt c w.next_conn) _ (λ e. up-as-opens w c fails (next_up w c) (lt-true c w.next_conn e) g h)

fault-opens : (w : World) (d : Delivery) → Placed w → Ordered w → Opens w → IfSome (fault_event w d) Opens
fault-opens w (delivery.Down c) p g h = down-opens w c.0 false true p h
fault-opens w (delivery.Ready c) p g h = ready-opens w c.0 true h
fault-opens w (delivery.Up c) p g h = up-opens w c.0 true g h

-- LOSSES, STOPS, RESTARTS

-- a world with other marks, of which the same ends were taken
other-marks : (w v : World) → v.lowers ≡ w.lowers → v.writers ≡ w.writers → ((c : ℕ) → (w.down_marks c).over ≡ (v.down_marks c).over) → ((c : ℕ) → (w.up_marks c).over ≡ (v.up_marks c).over) → Opens w → Opens v
other-marks w v l x d u h = record {
  below = λ c. subst (λ (f : ℕ → Lower). IsOpenBelow (f c) (v.down_marks c).over) (sym l) (below-over (w.lowers c) _ _ (d c) (h.below c));
  mirrors = λ c. subst (λ (f : ℕ → Lower). IsOpenMirror v.up_marks (f c)) (sym l) (mirror-over w.up_marks v.up_marks (w.lowers c) u (h.mirrors c));
  writers = λ b. subst (λ (f : ℕ → Writing). IsOpenWriter v.up_marks (f b)) (sym x) (writer-over w.up_marks v.up_marks (w.writers b) u (h.writers b));
}

lost-opens : (w : World) (c : ℕ) (way : Direction) (more : ℕ) → Opens w → Opens (lost w c way more)
lost-opens w c direction.Down more h = other-marks w (lost w c direction.Down more) refl refl (put-over w.down_marks c (lost_marks (w.downs c) more (w.down_marks c)) refl) (λ d. refl) h
lost-opens w c direction.Up more h = other-marks w (lost w c direction.Up more) refl refl (λ d. refl) (put-over w.up_marks c (lost_marks (w.ups c) more (w.up_marks c)) refl) h

stopped-over : (test : ℕ → Bool) (marks : ℕ → Marks) (d : ℕ) → (marks d).over ≡ (stopped_where test marks d).over
stopped-over test marks d = if-each (λ (m : Marks). (marks d).over ≡ m.over) (test d) _ _ (λ e. refl) (λ e. refl)

stop-opens : (w : World) (n : ℕ) → Opens w → Opens (stop w n)
stop-opens w n h = other-marks w (stop w n) refl refl (stopped-over (is_of_node w n) w.down_marks) (stopped-over (is_of_node w n) w.up_marks) h

restart-opens : (w : World) (n : ℕ) (list : List FoundReplica) → Opens w → Opens (restart w n list)
unfolding restart
restart-opens w n list h = record { below = h.below; mirrors = h.mirrors; writers = h.writers }

-- EVENTS

own-opens : (w : World) (s : OwnStep) → Placed w → Opens w → IfSome (changed w (own_change w s)) Opens
own-opens w (own.Writer b takes answered) p h = changed-opens w _ (WriterOpens w b.0) (λ j. writer-opens w b.0 j (record { below = h.below; mirrors = h.mirrors; writers = λ d e. h.writers d }))
    (own-writer-opens w b.0 takes answered (h.writers b.0) (fresh-over w p))
own-opens w (own.Reader i n r answered) p h = changed-opens w _ (Beside w) (λ j. beside-opens w j h) (own-reader-beside w i n.0 r answered)
own-opens w (own.Recover i n b members answers) p h = changed-opens w _ (Beside w) (λ j. beside-opens w j h) (own-recover-beside w i n.0 b members answers)
own-opens w (own.Primary i) p h = changed-opens w _ (Beside w) (λ j. beside-opens w j h) (own-primary-beside w i)

office-opens : (w : World) (c : Caller) → Opens w → IfSome (changed w (office_event w c)) Opens
office-opens w (caller.Writer b) h = changed-opens w _ (WriterOpens w b.0) (λ j. writer-opens w b.0 j (record { below = h.below; mirrors = h.mirrors; writers = λ d e. h.writers d })) (asks-opens w b.0 (h.writers b.0))
office-opens w (caller.Primary i b) h = changed-opens w _ (Beside w) (λ j. beside-opens w j h) (primary-asks-beside w i b)

where-opens : (test : Bool) (v : World) → Opens v → IfSome (where_so test v) Opens
where-opens true v h = h
where-opens false v h = tt

outcome-opens : (w : World) (e : Event) → Placed w → Ordered w → Opens w → IfSome (outcome w e) Opens
unfolding outcome
outcome-opens w (event.Own s) p g h = own-opens w s p h
outcome-opens w (event.Office c) p g h = office-opens w c h
outcome-opens w (event.Down c answered) p g h = down-opens w c.0 answered false p h
outcome-opens w (event.Ready c) p g h = ready-opens w c.0 false h
outcome-opens w (event.Up c) p g h = up-opens w c.0 false g h
outcome-opens w (event.Lost c way more) p g h = where-opens (nat_lt c.0 w.next_conn) _ (lost-opens w c.0 way more h)
outcome-opens w (event.Fault d) p g h = fault-opens w d p g h
outcome-opens w (event.Stop n) p g h = where-opens (w.running n.0) _ (stop-opens w n.0 h)
outcome-opens w (event.Restart n list) p g h = where-opens (nat_lt n.0 w.nodes && not (w.running n.0)) _ (restart-opens w n.0 list h)

after-opens : (w : World) (e : Event) (o : Option World) → Opens w → IfSome o Opens → Opens (after_event w e o)
after-opens w e None h k = h
after-opens w e (Some v) h k = record { below = k.below; mirrors = k.mirrors; writers = k.writers }

happens-opens : (w : World) (e : Event) → Placed w → Ordered w → Opens w → Opens (happens w e)
unfolding happens
happens-opens w e p g h = after-opens w e (outcome w e) h (outcome-opens w e p g h)

run-opens : (w : World) (events : List Event) → Placed w → Ordered w → Opens w → Opens (run w events)
run-opens w [] p g h = h
run-opens w (e ∷ events) p g h = run-opens (happens w e) events (happens-placed w e p) (happens-ordered w e p g) (happens-opens w e p g h)

start-opens : (nodes : ℕ) → Opens (start nodes)
unfolding start
start-opens nodes = record { below = λ c. refl; mirrors = λ c. tt; writers = λ b. tt }

pub all-open : (nodes : ℕ) (events : List Event) → OpenEnds (run (start nodes) events)
all-open nodes events = open-ends (run (start nodes) events) (run-opens (start nodes) events (all-placed nodes []) (start-ordered nodes) (start-opens nodes))
