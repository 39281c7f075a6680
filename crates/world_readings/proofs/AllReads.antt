-- How readers, their connections and nodes belong together after every list of events.
use Rattle.std.proofs.Common.{◌≡◌, ℕ, ◌+◌, ◌<◌, ◌≤◌, ◌⊎◌, inl, inr, Bool, true, false, List, [], ◌∷◌, ◌++◌, length, slice_get, Option, Some, None, IfSome, Result, Ok, Err, refl, sym, ap, ◌∙◌, subst, arith, eqb-true, append-nil}
use Rattle.std.specs.Prelude.{◌==◌, ◌&&◌, not, nat_lt, min, IsSome}
use Rattle.std.proofs.lemmas.Bool.Decides.{nat_tests}
use Rattle.world.specs.declared.events.Delivery.{Delivery}
use Rattle.world.specs.declared.events.Delivery.TheVariants as delivery
use Rattle.world.specs.declared.events.Direction.{Direction}
use Rattle.world.specs.declared.events.Direction.TheVariants as direction
use Rattle.world.specs.declared.events.Event.{Event}
use Rattle.world.specs.declared.events.Event.TheVariants as event
use Rattle.world.specs.declared.events.FoundReplica.{FoundReplica}
use Rattle.world.specs.declared.events.OwnStep.{OwnStep}
use Rattle.world.specs.declared.events.OwnStep.TheVariants as own
use Rattle.world.specs.Parts.{Message, Upper, by_writer, by_member, by_reader, by_primary, Place, Marks, idle, Reader, no_reader, reads, has_read, Break, Answered}
use Rattle.world.specs.Worlds.{Past, World, Change, put, start}
use Rattle.world.specs.Connections.{Next, message, marks_taken, next_down, next_up, down_taken, up_taken, is_alive, is_served, lesser, lost_marks, stopped_where, is_of_node}
use Rattle.replica_model.specs.Rows.{FullReplica}
use Rattle.world.specs.Nodes.{lower_down, lower_ready, mirror_up}
use Rattle.world.specs.Restarts.{restart}
use Rattle.world.specs.Events.{changed, own_change, down_as, down_event, ready_event, unless_fails, upper_up, up_as, up_event, fault_event, lost, stop, where_so, outcome, after_event, happens, run}
use Rattle.world_laws.specs.Growing.{Grows}
use Rattle.world_laws.specs.Placing.{IsUpper, Placed}
use Rattle.world_laws.proofs.FactTables.{if-each, when-each, and-right}
use Rattle.world_laws.proofs.PlacedLaws.{happens-placed, all-placed}
use Rattle.world_orders.specs.Orders.{Ordered, IsBelow}
use Rattle.world_orders.proofs.AllOrdered.{happens-ordered, start-ordered, next-found, lt-true, served-below}
use Rattle.world_orders.proofs.Kept.{eqb-itself}
use Rattle.read_core.specs.declared.reading.ReadFault.{ReadFault}
use Rattle.read_core.specs.declared.reading.ReadFault.TheVariants as fault
use Rattle.world_readings.specs.Results.{ComesTo, Ends}
use Rattle.world_readings.proofs.Giving.{HasTaken}
use Rattle.world_readings.proofs.Limiting.{Limited}
use Rattle.world_readings.proofs.AllLimited.{down-taken-limited, happens-limited, start-limited}
use Rattle.world_readings.proofs.Keeping.{IsMarked, ConnRead, IsOf, ReaderFits, Reads, put-here, put-else, Leaves, reader-later, Owes, Aside, aside-owes, reads-after}
use Rattle.world_readings.proofs.Asides.{own-writer-aside, writer-up-aside, own-recover-aside, own-primary-aside, primary-up-aside, office-aside}
use Rattle.world_readings.proofs.Lowers.{lower-down-owes, lower-ready-owes, mirror-up-owes}
use Rattle.world_readings.proofs.Readers.{reader-up-reads, own-reader-reads}

-- CHANGES

pub changed-reads : (w : World) (o : Option Change) → Reads w → IfSome o (Owes w) → IfSome (changed w o) Reads
changed-reads w None h n = tt
changed-reads w (Some k) h n = reads-after w k h n

pub aside-all : (w : World) (o : Option Change) → IfSome o (Aside w) → IfSome o (Owes w)
aside-all w None a = tt
aside-all w (Some k) a = aside-owes w k a

-- WORLDS IN WHICH ONLY MARKS, LIVES AND REPLICAS DIFFER

-- the marks of a connection after such an event, and that the end stands where its node doesn't live on
record Stays (w : World) (um : ℕ → Marks) (running : ℕ → Bool) (lives : ℕ → ℕ) (c : ℕ) : Type 0 where
  taken : (um c).taken ≡ (w.up_marks c).taken
  over : (um c).over ≡ (w.up_marks c).over
  end : IsSome (w.up_marks c).end → IsSome (um c).end
  marked : IsMarked (w.up_marks c) (w.ups c) → IsMarked (um c) (w.ups c)
  stopped : is_alive (record w { running = running; lives = lives }) (w.dialled c).to ≡ false → (is_alive w (w.dialled c).to ≡ false) ⊎ IsSome (um c).end

same-grows : (p : Past) → Grows p p
same-grows p = record {
  written = λ s. record { rest = []; joins = none (p.written s) };
  conns = omega arith;
  dialled = λ c lt. refl;
  downs = λ c. record { rest = []; joins = none (p.downs c) };
  ups = λ c. record { rest = []; joins = none (p.ups c) };
  joined = record { rest = []; joins = none p.joined };
  updated = record { rest = []; joins = none p.updated };
  answered = record { rest = []; joins = none p.answered };
  said = λ b. record { rest = []; joins = none (p.said b) };
}
  where
    none : {A : Type 0} (xs : List A) → xs ++ [] ≡ xs
    none xs = append-nil xs

-- what doesn't matter for reads
record Rest : Type 0 where
  down_marks : ℕ → Marks
  replicas : ℕ → ℕ → FullReplica
  breaks : ℕ → ℕ → Option Break
  last : Option Event
  last_answer : Option Answered

-- such a world
abbrev like : World → (ℕ → Marks) → (ℕ → Bool) → (ℕ → ℕ) → Rest → World
like w um running lives r = record w {
  down_marks = r.down_marks;
  up_marks = um;
  running = running;
  lives = lives;
  replicas = r.replicas;
  breaks = r.breaks;
  last = r.last;
  last_answer = r.last_answer;
}

like-reads : (w : World) (um : ℕ → Marks) (running : ℕ → Bool) (lives : ℕ → ℕ) (r : Rest) → Reads w → ((i c : ℕ) → IsOf w.past i c → Stays w um running lives c) → Reads (like w um running lives r)
like-reads w um running lives r h s = record { conns = conn; readers = λ i. reader-later w (like w um running lives r) i (w.readers i) (leaves i) (h.readers i) }
  where
    leaves : (i : ℕ) → Leaves w (like w um running lives r) i
    leaves i = record { grows = same-grows w.past; no_new = λ c o. o; over = λ c o e. (s i c o).over ∙ e }

    conn : (i c : ℕ) → IsOf w.past i c → ConnRead (like w um running lives r) i c
    conn i c o =
        let x = h.conns i c o in
        let t = s i c o in
        record {
          base = record {
            read = x.read;
            asked = x.asked;
            start = x.start;
            below = x.below;
            marked = t.marked x.marked;
            ended = λ e. t.end (x.ended e);
            stopped = λ e. go (t.stopped e);
          };
          taken = λ q e. subst (λ (n : ℕ). HasTaken x.read x.start q n (w.ups c)) (sym t.taken) (x.taken q e);
          open_yet = λ q e. t.over ∙ x.open_yet q e;
          seen = λ e. x.seen (sym t.over ∙ e);
        }
      where
        go : (is_alive w (w.dialled c).to ≡ false) ⊎ IsSome (um c).end → IsSome (um c).end
        go (inl e) = (s i c o).end ((h.conns i c o).stopped e)
        go (inr e) = e

-- nothing of it changes
still-stays : (w : World) (c : ℕ) → Stays w w.up_marks w.running w.lives c
still-stays w c = record { taken = refl; over = refl; end = λ e. e; marked = λ g. g; stopped = λ e. inl e }

-- WHAT IS TAKEN

down-taken-reads : (w : World) (c : ℕ) (x : Next) → Reads w → Reads (down_taken w c x)
unfolding down_taken
down-taken-reads w c x h = like-reads w w.up_marks w.running w.lives (record { down_marks = put w.down_marks c (marks_taken (w.down_marks c) x); replicas = w.replicas; breaks = w.breaks; last = w.last; last_answer = w.last_answer }) h (λ i d o. still-stays w d)

-- somebody else than a reader takes
up-taken-reads : (w : World) (c : ℕ) (x : Next) → ((i : ℕ) → (w.dialled c).upper ≡ by_reader i → ⊥) → Reads w → Reads (up_taken w c x)
unfolding up_taken
up-taken-reads w c x other h = like-reads w (put w.up_marks c (marks_taken (w.up_marks c) x)) w.running w.lives (record { down_marks = w.down_marks; replicas = w.replicas; breaks = w.breaks; last = w.last; last_answer = w.last_answer }) h stays
  where
    stays : (i d : ℕ) → IsOf w.past i d → Stays w (put w.up_marks c (marks_taken (w.up_marks c) x)) w.running w.lives d
    stays i d o = go (d == c) refl
      where
        go : (b : Bool) → (d == c) ≡ b → Stays w (put w.up_marks c (marks_taken (w.up_marks c) x)) w.running w.lives d
        go true e = absurd (other i (ap (λ (n : ℕ). (w.dialled n).upper) (sym (eqb-true d c e)) ∙ o.upper))
        go false e =
            let same : put w.up_marks c (marks_taken (w.up_marks c) x) d ≡ w.up_marks d = put-else w.up_marks c (marks_taken (w.up_marks c) x) d e in
            record {
              taken = ap (λ (k : Marks). k.taken) same;
              over = ap (λ (k : Marks). k.over) same;
              end = λ q. subst (λ (k : Marks). IsSome k.end) (sym same) q;
              marked = λ q. subst (λ (k : Marks). IsMarked k (w.ups d)) (sym same) q;
              stopped = λ q. inl q;
            }

-- LOSSES

lesser-below : (n m : ℕ) (o : Option ℕ) → n ≤ m → lesser n o ≤ m
lesser-below n m None le = le
lesser-below n m (Some e) le = omega (arith, le)

lost-stays : (w : World) (c more d : ℕ) → Stays w (put w.up_marks c (lost_marks (w.ups c) more (w.up_marks c))) w.running w.lives d
lost-stays w c more d = go (d == c) refl
  where
    um : ℕ → Marks
    um = put w.up_marks c (lost_marks (w.ups c) more (w.up_marks c))

    here : (n : ℕ) → um n ≡ lost_marks (w.ups n) more (w.up_marks n) → Stays w um w.running w.lives n
    here n e = record {
      taken = ap (λ (k : Marks). k.taken) e;
      over = ap (λ (k : Marks). k.over) e;
      end = λ q. subst (λ (k : Marks). IsSome k.end) (sym e) refl;
      marked = λ q. subst (λ (k : Marks). IsMarked k (w.ups n)) (sym e) (record { within = q.within; end = lesser-below (min ((w.up_marks n).taken + more) (length (w.ups n))) (length (w.ups n)) (w.up_marks n).end (omega arith) });
      stopped = λ q. inl q;
    }

    go : (b : Bool) → (d == c) ≡ b → Stays w um w.running w.lives d
    go true e = subst (λ (n : ℕ). um n ≡ lost_marks (w.ups n) more (w.up_marks n) → Stays w um w.running w.lives n) refl (here d) (put-here w.up_marks c (lost_marks (w.ups c) more (w.up_marks c)) d e ∙ ap (λ (n : ℕ). lost_marks (w.ups n) more (w.up_marks n)) (sym (eqb-true d c e)))
    go false e =
        let same : um d ≡ w.up_marks d = put-else w.up_marks c (lost_marks (w.ups c) more (w.up_marks c)) d e in
        record {
          taken = ap (λ (k : Marks). k.taken) same;
          over = ap (λ (k : Marks). k.over) same;
          end = λ q. subst (λ (k : Marks). IsSome k.end) (sym same) q;
          marked = λ q. subst (λ (k : Marks). IsMarked k (w.ups d)) (sym same) q;
          stopped = λ q. inl q;
        }

lost-reads : (w : World) (c : ℕ) (way : Direction) (more : ℕ) → Reads w → Reads (lost w c way more)
lost-reads w c direction.Down more h = like-reads w w.up_marks w.running w.lives (record { down_marks = put w.down_marks c (lost_marks (w.downs c) more (w.down_marks c)); replicas = w.replicas; breaks = w.breaks; last = w.last; last_answer = None }) h (λ i d o. still-stays w d)
lost-reads w c direction.Up more h = like-reads w (put w.up_marks c (lost_marks (w.ups c) more (w.up_marks c))) w.running w.lives (record { down_marks = w.down_marks; replicas = w.replicas; breaks = w.breaks; last = w.last; last_answer = None }) h (λ i d o. lost-stays w c more d)

-- STOPS

below-true : (a b : ℕ) → a < b → nat_lt a b ≡ true
below-true a b h = grind (arith, nat_tests, h)

equal-back : (a b : ℕ) → (a == b) ≡ true → (b == a) ≡ true
equal-back a b e = subst (λ (n : ℕ). (n == a) ≡ true) (eqb-true a b e) (eqb-itself a)

stopped-end : (test : ℕ → Bool) (marks : ℕ → Marks) (c : ℕ) → test c ≡ true → IsSome (stopped_where test marks c).end
stopped-end test marks c e = rw e refl

alive-else : (w : World) (n : ℕ) (p : Place) (at : Bool) → (p.node == n) ≡ false → is_alive (record w { running = put w.running n at; lives = w.lives }) p ≡ is_alive w p
alive-else w n p at e = ap (λ (b : Bool). b && (w.lives p.node == p.life)) (put-else w.running n at p.node e)

stop-stays : (w : World) (n c : ℕ) → c < w.next_conn → Stays w (stopped_where (is_of_node w n) w.up_marks) (put w.running n false) w.lives c
stop-stays w n c lt = record {
  taken = if-each (λ (k : Marks). k.taken ≡ (w.up_marks c).taken) (is_of_node w n c) _ _ (λ _. refl) (λ _. refl);
  over = if-each (λ (k : Marks). k.over ≡ (w.up_marks c).over) (is_of_node w n c) _ _ (λ _. refl) (λ _. refl);
  end = λ q. if-each (λ (k : Marks). IsSome k.end) (is_of_node w n c) _ _ (λ _. refl) (λ _. q);
  marked = λ q. if-each (λ (k : Marks). IsMarked k (w.ups c)) (is_of_node w n c) _ _ (λ _. record { within = q.within; end = lesser-below (w.up_marks c).taken (length (w.ups c)) (w.up_marks c).end q.within }) (λ _. q);
  stopped = λ q. go ((w.dialled c).to.node == n) refl q;
}
  where
    there : ((w.dialled c).to.node == n) ≡ true → is_of_node w n c ≡ true
    there e = rw (below-true c w.next_conn lt) (rw (equal-back (w.dialled c).to.node n e) refl)

    go : (b : Bool) → ((w.dialled c).to.node == n) ≡ b → is_alive (record w { running = put w.running n false; lives = w.lives }) (w.dialled c).to ≡ false → (is_alive w (w.dialled c).to ≡ false) ⊎ IsSome (stopped_where (is_of_node w n) w.up_marks c).end
    go true e q = inr (stopped-end (is_of_node w n) w.up_marks c (there e))
    go false e q = inl (sym (alive-else w n (w.dialled c).to false e) ∙ q)

stop-reads : (w : World) (n : ℕ) → Reads w → Reads (stop w n)
stop-reads w n h = like-reads w (stopped_where (is_of_node w n) w.up_marks) (put w.running n false) w.lives (record { down_marks = stopped_where (is_of_node w n) w.down_marks; replicas = w.replicas; breaks = w.breaks; last = w.last; last_answer = None }) h (λ i c o. stop-stays w n c o.known)

-- RESTARTS

dead : (a b : Bool) → a ≡ false → (a && b) ≡ false
dead false b e = refl
dead true b e = cc

restart-stays : (w : World) (n c : ℕ) → w.running n ≡ false → Stays w w.up_marks (put w.running n true) (put w.lives n (w.lives n + 1)) c
restart-stays w n c down = record { taken = refl; over = refl; end = λ q. q; marked = λ q. q; stopped = λ q. inl (go ((w.dialled c).to.node == n) refl q) }
  where
    p : Place
    p = (w.dialled c).to

    go : (b : Bool) → ((w.dialled c).to.node == n) ≡ b → is_alive (record w { running = put w.running n true; lives = put w.lives n (w.lives n + 1) }) (w.dialled c).to ≡ false → is_alive w (w.dialled c).to ≡ false
    go true e q = dead (w.running (w.dialled c).to.node) _ (ap w.running (eqb-true (w.dialled c).to.node n e) ∙ down)
    go false e q =
        let runs = put-else w.running n true (w.dialled c).to.node e in
        let lives = put-else w.lives n (w.lives n + 1) (w.dialled c).to.node e in
        sym (ap (λ (b : Bool). b && (put w.lives n (w.lives n + 1) (w.dialled c).to.node == (w.dialled c).to.life)) runs ∙ ap (λ (m : ℕ). w.running (w.dialled c).to.node && (m == (w.dialled c).to.life)) lives) ∙ q

restart-reads : (w : World) (n : ℕ) (list : List FoundReplica) → w.running n ≡ false → Reads w → Reads (restart w n list)
unfolding restart
restart-reads w n list down h = like-reads w w.up_marks (put w.running n true) (put w.lives n (w.lives n + 1)) (record { down_marks = w.down_marks; replicas = (restart w n list).replicas; breaks = (restart w n list).breaks; last = w.last; last_answer = None }) h (λ i c o. restart-stays w n c down)

-- DELIVERIES

pub first-message : (w : World) (c : ℕ) (x : Next) (m : Message) → Ordered w → next_down w c ≡ Some x → w.lowers c ≡ idle → x ≡ message m → slice_get (w.downs c) 0 ≡ Some m
first-message w c x m g e l is =
    let none : (w.down_marks c).taken ≡ 0 = (subst (IsBelow (w.dialled c).upper (w.down_marks c).taken (w.ups c)) l (g.below c)).0 in
    subst (λ (n : ℕ). slice_get (w.downs c) n ≡ Some m) none (next-found (w.downs c) (w.down_marks c) m (e ∙ ap Some is))

down-as-reads : (w : World) (c : ℕ) (answered fails : Bool) (o : Option Next) → Ordered w → Limited w → Reads w → next_down w c ≡ o → c < w.next_conn → IfSome (down_as w c answered fails o) Reads
unfolding down_taken
down-as-reads w c answered fails None g l h e lt = tt
down-as-reads w c answered fails (Some x) g l h e lt =
    let v = down_taken w c x in
    changed-reads v (lower_down (w.lowers c) v c x answered fails) (down-taken-reads w c x h)
    (lower-down-owes v c lt (w.lowers c) x answered fails (down-taken-limited w c x l) refl (λ is m q. first-message w c x m g e is q))

down-reads : (w : World) (c : ℕ) (answered fails : Bool) → Ordered w → Limited w → Reads w → IfSome (down_event w c answered fails) Reads
down-reads w c answered fails g l h = when-each Reads (is_served w c) _ (λ e. down-as-reads w c answered fails (next_down w c) g l h refl (served-below w c e))

ready-reads : (w : World) (c : ℕ) (fails : Bool) → Limited w → Reads w → IfSome (ready_event w c fails) Reads
ready-reads w c fails l h = when-each Reads (is_served w c) _ (λ e. changed-reads w (lower_ready (w.lowers c) w c fails) h (lower-ready-owes w c (served-below w c e) (w.lowers c) fails l refl))

pub lowers-are : (w : World) (c : ℕ) (x : Next) (d : ℕ) (fails : Bool) → d < w.next_conn → IfSome (mirror_up ((up_taken w c x).lowers d) (up_taken w c x) d x fails) (Owes (up_taken w c x))
unfolding up_taken
lowers-are w c x d fails lt = mirror-up-owes (up_taken w c x) d lt (w.lowers d) x fails refl

pub unless-owes : (w : World) (fails : Bool) (o : Option Change) → IfSome o (Owes w) → IfSome (unless_fails fails o) (Owes w)
unless-owes w true o n = tt
unless-owes w false o n = n

upper-reads : (w : World) (c : ℕ) (x : Next) (fails : Bool) (u : Upper) → (w.dialled c).upper ≡ u → c < w.next_conn → next_up w c ≡ Some x → Placed w → Reads w → IfSome (changed (up_taken w c x) (upper_up u (up_taken w c x) c x fails)) Reads
upper-reads w c x fails (by_writer b) is lt e p h =
    changed-reads (up_taken w c x) _ (up-taken-reads w c x (λ i q. differ i (sym is ∙ q)) h) (unless-owes (up_taken w c x) fails _ (aside-all (up_taken w c x) _ (writer-up-aside (up_taken w c x) b c x)))
  where
    differ : (i : ℕ) → by_writer b ≡ by_reader i → ⊥
    differ i q = cc
upper-reads w c x fails (by_member d) is lt e p h =
    changed-reads (up_taken w c x) _ (up-taken-reads w c x (λ i q. differ i (sym is ∙ q)) h) (lowers-are w c x d fails (subst (IsUpper w.next_conn) is (p.dialled c lt).upper))
  where
    differ : (i : ℕ) → by_member d ≡ by_reader i → ⊥
    differ i q = cc
upper-reads w c x true (by_reader i) is lt e p h = tt
upper-reads w c x false (by_reader i) is lt e p h = reader-up-reads w i c x h e (record { known = lt; upper = is })
upper-reads w c x fails (by_primary i place) is lt e p h =
    changed-reads (up_taken w c x) _ (up-taken-reads w c x (λ j q. differ j (sym is ∙ q)) h) (unless-owes (up_taken w c x) fails _ (aside-all (up_taken w c x) _ (primary-up-aside (up_taken w c x) i place c x)))
  where
    differ : (j : ℕ) → by_primary i place ≡ by_reader j → ⊥
    differ j q = cc

up-as-reads : (w : World) (c : ℕ) (fails : Bool) (o : Option Next) → c < w.next_conn → next_up w c ≡ o → Placed w → Reads w → IfSome (up_as w c fails o) Reads
up-as-reads w c fails None lt e p h = tt
up-as-reads w c fails (Some x) lt e p h = upper-reads w c x fails (w.dialled c).upper refl lt e p h

up-reads : (w : World) (c : ℕ) (fails : Bool) → Placed w → Reads w → IfSome (up_event w c fails) Reads
up-reads w c fails p h = when-each Reads (nat_lt c w.next_conn) _ (λ e. up-as-reads w c fails (next_up w c) (lt-true c w.next_conn e) refl p h)

fault-reads : (w : World) (d : Delivery) → Placed w → Ordered w → Limited w → Reads w → IfSome (fault_event w d) Reads
fault-reads w (delivery.Down c) p g l h = down-reads w c.0 false true g l h
fault-reads w (delivery.Ready c) p g l h = ready-reads w c.0 true l h
fault-reads w (delivery.Up c) p g l h = up-reads w c.0 true p h

-- EVENTS

own-reads : (w : World) (s : OwnStep) → Placed w → Reads w → IfSome (changed w (own_change w s)) Reads
own-reads w (own.Writer b takes answered) p h = changed-reads w _ h (aside-all w _ (own-writer-aside w b.0 takes answered))
own-reads w (own.Reader i n r answered) p h = own-reader-reads w i n.0 r answered h p
own-reads w (own.Recover i n b members answers) p h = changed-reads w _ h (aside-all w _ (own-recover-aside w i n.0 b members answers))
own-reads w (own.Primary i) p h = changed-reads w _ h (aside-all w _ (own-primary-aside w i))

where-reads : (test : Bool) (v : World) → (test ≡ true → Reads v) → IfSome (where_so test v) Reads
where-reads true v h = h refl
where-reads false v h = tt

not-running : (b : Bool) → not b ≡ true → b ≡ false
not-running true e = cc
not-running false e = refl

outcome-reads : (w : World) (e : Event) → Placed w → Ordered w → Limited w → Reads w → IfSome (outcome w e) Reads
unfolding outcome
outcome-reads w (event.Own s) p g l h = own-reads w s p h
outcome-reads w (event.Office c) p g l h = changed-reads w _ h (aside-all w _ (office-aside w c))
outcome-reads w (event.Down c answered) p g l h = down-reads w c.0 answered false g l h
outcome-reads w (event.Ready c) p g l h = ready-reads w c.0 false l h
outcome-reads w (event.Up c) p g l h = up-reads w c.0 false p h
outcome-reads w (event.Lost c way more) p g l h = where-reads (nat_lt c.0 w.next_conn) _ (λ _. lost-reads w c.0 way more h)
outcome-reads w (event.Fault d) p g l h = fault-reads w d p g l h
outcome-reads w (event.Stop n) p g l h = where-reads (w.running n.0) _ (λ _. stop-reads w n.0 h)
outcome-reads w (event.Restart n list) p g l h = where-reads (nat_lt n.0 w.nodes && not (w.running n.0)) _ (λ e. restart-reads w n.0 list (not-running (w.running n.0) (and-right (nat_lt n.0 w.nodes) (not (w.running n.0)) e)) h)

named-reads : (w : World) (e : Event) → Reads w → Reads (record w { last = Some e })
named-reads w e h = like-reads w w.up_marks w.running w.lives (record { down_marks = w.down_marks; replicas = w.replicas; breaks = w.breaks; last = Some e; last_answer = w.last_answer }) h (λ i c o. still-stays w c)

after-reads : (w : World) (e : Event) (o : Option World) → Reads w → IfSome o Reads → Reads (after_event w e o)
after-reads w e None h k = h
after-reads w e (Some v) h k = named-reads v e k

happens-reads : (w : World) (e : Event) → Placed w → Ordered w → Limited w → Reads w → Reads (happens w e)
unfolding happens
happens-reads w e p g l h = after-reads w e (outcome w e) h (outcome-reads w e p g l h)

run-reads : (w : World) (events : List Event) → Placed w → Ordered w → Limited w → Reads w → Reads (run w events)
run-reads w [] p g l h = h
run-reads w (e ∷ events) p g l h = run-reads (happens w e) events (happens-placed w e p) (happens-ordered w e p g) (happens-limited w e l) (happens-reads w e p g l h)

start-reads : (nodes : ℕ) → Reads (start nodes)
unfolding start
start-reads nodes = record { conns = λ i c o. absurd (omega (arith, o.known)); readers = λ i c o. omega (arith, o.known) }

pub all-reads : (nodes : ℕ) (events : List Event) → Reads (run (start nodes) events)
all-reads nodes events = run-reads (start nodes) events (all-placed nodes []) (start-ordered nodes) (start-limited nodes) (start-reads nodes)

-- WHAT READERS COME TO

come-to : (w : World) (i : ℕ) (x : Reader) → ReaderFits w i x → ComesTo w i x
come-to w i no_reader h = tt
come-to w i (reads c s) h = tt
come-to w i (has_read r) h = h

pub all-come-to : (nodes : ℕ) (events : List Event) (i : ℕ) → ComesTo (run (start nodes) events) i ((run (start nodes) events).readers i)
all-come-to nodes events i = come-to (run (start nodes) events) i _ ((all-reads nodes events).readers i)

-- where it has taken the end, or has no connection
ends-so : (w : World) (i : ℕ) → Reads w → Ends w i
ends-so w i h = record {
  taken = λ c read a e. (h.conns i c (record { known = a.known; upper = a.upper })).seen e;
  unanswered = λ none begun. go (w.readers i) refl (h.readers i) none begun;
}
  where
    ended-as : (x : Result (List ℕ) ReadFault) → ComesTo w i (has_read x) → ((c : ℕ) → c < w.next_conn → (w.dialled c).upper ≡ by_reader i → ⊥) → has_read x ≡ has_read (Err fault.Ended)
    ended-as (Ok bytes) h none = absurd (none h.conn h.asks.known h.asks.upper)
    ended-as (Err (fault.Refused text)) h none = absurd (none h.conn h.asks.known h.asks.upper)
    ended-as (Err fault.Ended) h none = refl
    ended-as (Err (fault.Rule kind chunk)) h none = absurd h
    ended-as (Err (fault.BadSum chunk)) h none = absurd h
    ended-as (Err fault.SumCount) h none = absurd h
    ended-as (Err fault.Unreadable) h none = absurd h
    ended-as (Err (fault.OutOfPlace want got)) h none = absurd h

    go : (x : Reader) → w.readers i ≡ x → ReaderFits w i (w.readers i) → ((c : ℕ) → c < w.next_conn → (w.dialled c).upper ≡ by_reader i → ⊥) → (w.readers i ≡ no_reader → ⊥) → w.readers i ≡ has_read (Err fault.Ended)
    go no_reader e f none begun = absurd (begun e)
    go (reads c s) e f none begun = let o = subst (ReaderFits w i) e f in absurd (none c o.known o.upper)
    go (has_read x) e f none begun = e ∙ ended-as x (subst (ReaderFits w i) e f) none

pub all-end : (nodes : ℕ) (events : List Event) (i : ℕ) → Ends (run (start nodes) events) i
all-end nodes events i = ends-so (run (start nodes) events) i (all-reads nodes events)
