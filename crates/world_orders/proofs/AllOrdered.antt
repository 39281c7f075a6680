-- The messages come in order after every list of events.
use Rattle.std.proofs.Common.{◌≡◌, ℕ, ◌<◌, ◌≤◌, ◌⊎◌, inl, inr, Bool, true, false, List, [], ◌∷◌, slice_get, Option, Some, None, IfSome, option_map, refl, sym, ap, ◌∙◌, subst, arith, eqb-true}
use Rattle.std.specs.Prelude.{◌==◌, ◌&&◌, not, nat_lt, if◌then◌else◌}
use Rattle.std.proofs.lemmas.Bool.Decides.{nat_tests}
use Rattle.std.proofs.lemmas.Option.{none-some, same_Some}
use Rattle.world_laws.specs.World.Delivery.{Delivery}
use Rattle.world_laws.specs.World.Delivery.TheVariants as delivery
use Rattle.world_laws.specs.World.Direction.{Direction}
use Rattle.world_laws.specs.World.Direction.TheVariants as direction
use Rattle.world_laws.specs.World.Event.{Event}
use Rattle.world_laws.specs.World.Event.TheVariants as event
use Rattle.world_laws.specs.World.FoundReplica.{FoundReplica}
use Rattle.world_laws.specs.World.OwnStep.{OwnStep}
use Rattle.world_laws.specs.World.OwnStep.TheVariants as own
use Rattle.world_laws.specs.World.Parts.{Message, Upper, by_writer, by_member, by_reader, by_primary, Marks, new_marks, FullMember, writes}
use Rattle.world_laws.specs.World.Worlds.{World, Change, put, start}
use Rattle.world_laws.specs.World.Connections.{Next, message, the_end, ends_at, next_on, marks_taken, next_down, next_up, down_taken, up_taken, is_alive, is_served, stopped_where, is_of_node, lost_marks}
use Rattle.world_laws.specs.World.Nodes.{lower_down, lower_ready}
use Rattle.world_laws.specs.World.Restarts.{restart}
use Rattle.world_laws.specs.World.Events.{changed, own_change, down_as, down_event, ready_event, unless_fails, upper_up, up_as, up_event, fault_event, lost, stop, where_so, outcome, after_event, happens, run}
use Rattle.world_laws.specs.Placing.{IsUpper, Placed}
use Rattle.world_laws.proofs.FactTables.{if-each, when-each, and-left}
use Rattle.world_laws.proofs.PlaceFitting.{Fits}
use Rattle.world_laws.proofs.LowerEnds.{lower-down-fits, lower-ready-fits, mirror-up-fits}
use Rattle.world_laws.proofs.ClientEnds.{own-writer-fits, writer-up-fits, own-reader-fits, reader-up-fits}
use Rattle.world_laws.proofs.PrimaryEnds.{own-recover-fits, own-primary-fits, primary-up-fits, office-fits}
use Rattle.world_laws.proofs.PlacedLaws.{happens-placed, all-placed}
use Rattle.world_orders.specs.Orders.{comes_up, purpose_of, HasDialled, IsBelow, Ordered}
use Rattle.world_orders.proofs.Lists.{first-of}
use Rattle.world_orders.proofs.Frame.{marked, Owes, ordered-after, mirror-same, writer-same}
use Rattle.world_orders.proofs.Kept.{OnlyOf, nobody, nowhere, eqb-itself}
use Rattle.world_orders.proofs.Clients.{TakenUp, own-writer-owes, own-reader-owes, writer-up-owes, reader-up-owes}
use Rattle.world_orders.proofs.Nodes.{lower-down-owes, lower-ready-owes, mirror-up-owes}
use Rattle.world_orders.proofs.Primaries.{own-recover-owes, own-primary-owes, primary-up-owes, office-owes}

changed-ordered : (w : World) (dm um : ℕ → Marks) (k : Option Change) → Placed (marked w dm um) → Ordered w → IfSome k (Fits (marked w dm um)) → IfSome k (Owes w dm um) → IfSome (changed (marked w dm um) k) Ordered
changed-ordered w dm um None p h f o = tt
changed-ordered w dm um (Some k) p h f o = ordered-after w dm um k p f h o

-- MARKS

placed-marked : (w : World) (dm um : ℕ → Marks) → ((c : ℕ) → w.next_conn ≤ c → dm c ≡ new_marks) → ((c : ℕ) → w.next_conn ≤ c → um c ≡ new_marks) → Placed w → Placed (marked w dm um)
placed-marked w dm um d u h = record {
  runs = h.runs;
  dialled = h.dialled;
  lowers = h.lowers;
  writers = h.writers;
  readers = h.readers;
  primaries = h.primaries;
  undialled = λ c le. let x = h.undialled c le in record { downs = x.downs; ups = x.ups; lower = x.lower; down_marks = d c le; up_marks = u c le };
}

-- the same world with other marks, of which as much was taken
same-marks : (w : World) (dm um : ℕ → Marks) → ((c : ℕ) → (dm c).taken ≡ (w.down_marks c).taken) → ((c : ℕ) → (um c).taken ≡ (w.up_marks c).taken) → Placed w → Ordered w → Ordered (marked w dm um)
same-marks w dm um d u p h = record {
  downs = h.downs;
  ups = h.ups;
  begun = h.begun;
  below = λ c. subst (λ (n : ℕ). IsBelow (w.dialled c).upper n (w.ups c) (w.lowers c)) (sym (d c)) (h.below c);
  mirrors = λ c. mirror-same w.dialled w.dialled w.up_marks um w.next_conn c (w.lowers c) (p.lowers c) (λ e lt. refl) (λ e x. sym (u e)) (h.mirrors c);
  dialled_by = h.dialled_by;
  writers_are = λ b. writer-same w.dialled w.dialled w.up_marks um w.next_conn b (w.writers b) (p.writers b) (λ e lt. refl) (λ e x. sym (u e)) (h.writers_are b);
  readers_are = h.readers_are;
  primaries_are = h.primaries_are;
}

taken-after : (k : Marks) (x : Next) → k.taken ≤ (marks_taken k x).taken
taken-after k (message m) = omega arith
taken-after k the_end = omega arith

taken-grown : (k : Marks) (x : Next) (y : Message) → x ≡ message y → 0 < (marks_taken k x).taken
taken-grown k (message m) y e = omega arith
taken-grown k the_end y e = cc

taken-same : (k : Marks) (x : Next) → x ≡ the_end → (marks_taken k x).taken ≡ k.taken
taken-same k (message m) e = cc
taken-same k the_end e = refl

-- what stands next stands at the place of what was taken
pub next-found : (sent : List Message) (k : Marks) (m : Message) → next_on sent k ≡ Some (message m) → slice_get sent k.taken ≡ Some m
next-found sent k m e = go k.over (ends_at k.end k.taken) e
  where
    found : (o : Option Message) → option_map message o ≡ Some (message m) → o ≡ Some m
    found None f = cc
    found (Some y) f = ap Some (named y (same_Some (message y) (message m) f))
      where
        named : (y : Message) → message y ≡ message m → y ≡ m
        named y g = cc

    go : (a b : Bool) → (if a then None else (if b then Some the_end else option_map message (slice_get sent k.taken))) ≡ Some (message m) → slice_get sent k.taken ≡ Some m
    go true b f = cc
    go false true f = cc
    go false false f = found (slice_get sent k.taken) f

pub put-here : (f : ℕ → Marks) (c : ℕ) (x : Marks) → put f c x c ≡ x
put-here f c x = rw (eqb-itself c) refl

put-past : (n c : ℕ) (marks : ℕ → Marks) (x : Marks) → c < n → ((d : ℕ) → n ≤ d → marks d ≡ new_marks) → (d : ℕ) → n ≤ d → put marks c x d ≡ new_marks
put-past n c marks x lt h d le =
    if-each (λ (m : Marks). m ≡ new_marks) (d == c) x (marks d) (λ e. absurd (omega (arith, eqb-true d c e, lt, le))) (λ e. h d le)

pub lt-true : (a b : ℕ) → nat_lt a b ≡ true → a < b
lt-true a b e = grind (arith, nat_tests, e)

pub served-below : (w : World) (c : ℕ) → is_served w c ≡ true → c < w.next_conn
served-below w c e = lt-true c w.next_conn (and-left (nat_lt c w.next_conn) (is_alive w (w.dialled c).to) e)

-- DELIVERIES

down-as-ordered : (w : World) (c : ℕ) (answered fails : Bool) (o : Option Next) → next_down w c ≡ o → c < w.next_conn → Placed w → Ordered w → IfSome (down_as w c answered fails o) Ordered
unfolding down_taken
down-as-ordered w c answered fails None e lt p h = tt
down-as-ordered w c answered fails (Some x) e lt p h =
    let dm : ℕ → Marks = put w.down_marks c (marks_taken (w.down_marks c) x) in
    let q : Placed (marked w dm w.up_marks) = placed-marked w dm w.up_marks (put-past w.next_conn c w.down_marks _ lt (λ d le. (p.undialled d le).down_marks)) (λ d le. (p.undialled d le).up_marks) p in
    let here : dm c ≡ marks_taken (w.down_marks c) x = put-here w.down_marks c _ in
    changed-ordered w dm w.up_marks (lower_down (w.lowers c) (marked w dm w.up_marks) c x answered fails) q h
    (lower-down-fits (w.lowers c) (marked w dm w.up_marks) c x answered fails q lt (p.lowers c))
    (lower-down-owes w dm w.up_marks c h q (λ d other. if-each (λ (m : Marks). m.taken ≡ (w.down_marks d).taken) (d == c) _ _ (λ f. absurd (clash (d == c) other f)) (λ f. refl)) (nobody w (by_member c))
    (w.lowers c) x answered fails lt refl
    (subst (λ (m : Marks). (w.down_marks c).taken ≤ m.taken) (sym here) (taken-after (w.down_marks c) x)) (λ d. refl)
    (λ y f. subst (λ (m : Marks). 0 < m.taken) (sym here) (taken-grown (w.down_marks c) x y f))
    (λ y f. h.downs c (w.down_marks c).taken y (next-found (w.downs c) (w.down_marks c) y (e ∙ ap Some f))))
  where
    clash : (b : Bool) → b ≡ false → b ≡ true → ⊥
    clash true f t = cc
    clash false f t = cc

down-ordered : (w : World) (c : ℕ) (answered fails : Bool) → Placed w → Ordered w → IfSome (down_event w c answered fails) Ordered
down-ordered w c answered fails p h = when-each Ordered (is_served w c) _ (λ e. down-as-ordered w c answered fails (next_down w c) refl (served-below w c e) p h)

ready-ordered : (w : World) (c : ℕ) (fails : Bool) → Placed w → Ordered w → IfSome (ready_event w c fails) Ordered
ready-ordered w c fails p h = when-each Ordered (is_served w c) _ (λ e.
    changed-ordered w w.down_marks w.up_marks (lower_ready (w.lowers c) w c fails) p h (lower-ready-fits (w.lowers c) w c fails p (served-below w c e) (p.lowers c))
    (lower-ready-owes w w.down_marks w.up_marks c h p (nowhere w c) (nobody w (by_member c)) (w.lowers c) fails refl (omega arith) (λ d. refl)))

unless-both : (w : World) (um : ℕ → Marks) (fails : Bool) (k : Option Change) → (P : Change → Type 0) → IfSome k P → IfSome (unless_fails fails k) P
unless-both w um true k P f = tt
unless-both w um false k P f = f

module _ (w : World) (c : ℕ) (x : Next) (next : next_up w c ≡ Some x) (lt : c < w.next_conn) (p : Placed w) (h : Ordered w) where
  um : ℕ → Marks
  um = put w.up_marks c (marks_taken (w.up_marks c) x)

  um-here : um c ≡ marks_taken (w.up_marks c) x
  unfolding um
  um-here = put-here w.up_marks c (marks_taken (w.up_marks c) x)

  um-placed : Placed (marked w w.down_marks um)
  unfolding um
  um-placed = placed-marked w w.down_marks um (λ d le. (p.undialled d le).down_marks) (put-past w.next_conn c w.up_marks _ lt (λ d le. (p.undialled d le).up_marks)) p

  um-only : (u : Upper) → (w.dialled c).upper ≡ u → OnlyOf w um u
  unfolding um
  um-only u is d = if-each (λ (m : Marks). ((w.dialled d).upper ≡ u) ⊎ (m.taken ≡ (w.up_marks d).taken)) (d == c) _ _
      (λ e. inl (ap (λ (n : ℕ). (w.dialled n).upper) (eqb-true d c e) ∙ is)) (λ e. inr refl)

  um-taken : TakenUp w um c x
  um-taken = record {
    grown = λ y f. subst (λ (m : Marks). 0 < m.taken) (sym um-here) (taken-grown (w.up_marks c) x y f);
    same = λ f. ap (λ (m : Marks). m.taken) um-here ∙ taken-same (w.up_marks c) x f;
    order = λ y f none. subst (λ (b : Bool). comes_up (purpose_of (w.dialled c).upper) b y ≡ true) (first-of (w.up_marks c).taken none)
        (h.ups c (w.up_marks c).taken y (next-found (w.ups c) (w.up_marks c) y (next ∙ ap Some f)));
  }

  mirror-is : (d : ℕ) → (w.dialled c).upper ≡ by_member d → (m : FullMember) → w.lowers d ≡ writes m → m.mirror ≡ Some c
  mirror-is d u m l = subst (HasDialled c) l (h.dialled_by c d lt u)

  upper-owes : (u : Upper) (fails : Bool) → (w.dialled c).upper ≡ u → IfSome (upper_up u (marked w w.down_marks um) c x fails) (Owes w w.down_marks um)
  upper-owes (by_writer b) fails is = unless-both w um fails _ (Owes w w.down_marks um) (writer-up-owes w um b c x h um-placed (um-only (by_writer b) is) um-taken)
  upper-owes (by_member d) fails is =
      mirror-up-owes w w.down_marks um d h um-placed (nowhere w d) (um-only (by_member d) is) (w.lowers d) x fails refl (omega arith)
      (λ m l e f y g. subst (λ (n : ℕ). 0 < (um n).taken) (same_Some c e (sym (mirror-is d is m l) ∙ f)) (um-taken.grown y g))
  upper-owes (by_reader i) fails is = unless-both w um fails _ (Owes w w.down_marks um) (reader-up-owes w um i c x h um-placed (um-only (by_reader i) is) lt is)
  upper-owes (by_primary i place) fails is = unless-both w um fails _ (Owes w w.down_marks um) (primary-up-owes w um i place c x h p um-placed (um-only (by_primary i place) is))

  upper-fits : (u : Upper) (fails : Bool) → IsUpper w.next_conn u → IfSome (upper_up u (marked w w.down_marks um) c x fails) (Fits (marked w w.down_marks um))
  upper-fits (by_writer b) fails q = unless-both w um fails _ (Fits (marked w w.down_marks um)) (writer-up-fits (marked w w.down_marks um) b c x um-placed)
  upper-fits (by_member d) fails q = mirror-up-fits (w.lowers d) (marked w w.down_marks um) d x fails um-placed q (p.lowers d)
  upper-fits (by_reader i) fails q = unless-both w um fails _ (Fits (marked w w.down_marks um)) (reader-up-fits (marked w w.down_marks um) i c x lt um-placed)
  upper-fits (by_primary i place) fails q = unless-both w um fails _ (Fits (marked w w.down_marks um)) (primary-up-fits (marked w w.down_marks um) i place c x lt um-placed)

  up-some : (fails : Bool) → IfSome (changed (marked w w.down_marks um) (upper_up (w.dialled c).upper (marked w w.down_marks um) c x fails)) Ordered
  up-some fails = changed-ordered w w.down_marks um _ um-placed h (upper-fits (w.dialled c).upper fails (p.dialled c lt).upper) (upper-owes (w.dialled c).upper fails refl)

  up-taken-some : (fails : Bool) → IfSome (up_as w c fails (Some x)) Ordered
  unfolding up_taken um
  up-taken-some fails = up-some fails

up-as-ordered : (w : World) (c : ℕ) (fails : Bool) (o : Option Next) → next_up w c ≡ o → c < w.next_conn → Placed w → Ordered w → IfSome (up_as w c fails o) Ordered
up-as-ordered w c fails None e lt p h = tt
up-as-ordered w c fails (Some x) e lt p h = up-taken-some w c x e lt p h fails

up-ordered : (w : World) (c : ℕ) (fails : Bool) → Placed w → Ordered w → IfSome (up_event w c fails) Ordered
up-ordered w c fails p h = when-each Ordered (nat_lt c w.next_conn) _ (λ e. up-as-ordered w c fails (next_up w c) refl (lt-true c w.next_conn e) p h)

fault-ordered : (w : World) (d : Delivery) → Placed w → Ordered w → IfSome (fault_event w d) Ordered
fault-ordered w (delivery.Down c) p h = down-ordered w c.0 false true p h
fault-ordered w (delivery.Ready c) p h = ready-ordered w c.0 true p h
fault-ordered w (delivery.Up c) p h = up-ordered w c.0 true p h

-- LOSSES, STOPS, RESTARTS

put-taken : (marks : ℕ → Marks) (c : ℕ) (x : Marks) → x.taken ≡ (marks c).taken → (d : ℕ) → (put marks c x d).taken ≡ (marks d).taken
put-taken marks c x e d = if-each (λ (m : Marks). m.taken ≡ (marks d).taken) (d == c) x (marks d) (λ f. e ∙ ap (λ (n : ℕ). (marks n).taken) (sym (eqb-true d c f))) (λ f. refl)

lost-ordered : (w : World) (c : ℕ) (way : Direction) (more : ℕ) → Placed w → Ordered w → Ordered (lost w c way more)
lost-ordered w c direction.Down more p h = same-marks w (put w.down_marks c (lost_marks (w.downs c) more (w.down_marks c))) w.up_marks (put-taken w.down_marks c _ refl) (λ d. refl) p h
lost-ordered w c direction.Up more p h = same-marks w w.down_marks (put w.up_marks c (lost_marks (w.ups c) more (w.up_marks c))) (λ d. refl) (put-taken w.up_marks c _ refl) p h

stopped-taken : (test : ℕ → Bool) (marks : ℕ → Marks) (d : ℕ) → (stopped_where test marks d).taken ≡ (marks d).taken
stopped-taken test marks d = if-each (λ (m : Marks). m.taken ≡ (marks d).taken) (test d) _ _ (λ e. refl) (λ e. refl)

stop-ordered : (w : World) (n : ℕ) → Placed w → Ordered w → Ordered (stop w n)
stop-ordered w n p h = same-marks w (stopped_where (is_of_node w n) w.down_marks) (stopped_where (is_of_node w n) w.up_marks) (stopped-taken (is_of_node w n) w.down_marks) (stopped-taken (is_of_node w n) w.up_marks) p h

restart-ordered : (w : World) (n : ℕ) (list : List FoundReplica) → Ordered w → Ordered (restart w n list)
unfolding restart
restart-ordered w n list h = h

-- EVENTS

own-ordered : (w : World) (s : OwnStep) → Placed w → Ordered w → IfSome (changed w (own_change w s)) Ordered
own-ordered w (own.Writer b takes answered) p h = changed-ordered w w.down_marks w.up_marks _ p h (own-writer-fits w b.0 takes answered p) (own-writer-owes w b.0 takes answered h p)
own-ordered w (own.Reader i n r answered) p h = changed-ordered w w.down_marks w.up_marks _ p h (own-reader-fits w i n.0 r answered p) (own-reader-owes w i n.0 r answered h p)
own-ordered w (own.Recover i n b members answers) p h = changed-ordered w w.down_marks w.up_marks _ p h (own-recover-fits w i n.0 b members answers p) (own-recover-owes w i n.0 b members answers h p)
own-ordered w (own.Primary i) p h = changed-ordered w w.down_marks w.up_marks _ p h (own-primary-fits w i p) (own-primary-owes w i h p)

where-ordered : (test : Bool) (v : World) → Ordered v → IfSome (where_so test v) Ordered
where-ordered true v h = h
where-ordered false v h = tt

outcome-ordered : (w : World) (e : Event) → Placed w → Ordered w → IfSome (outcome w e) Ordered
unfolding outcome
outcome-ordered w (event.Own s) p h = own-ordered w s p h
outcome-ordered w (event.Office c) p h = changed-ordered w w.down_marks w.up_marks _ p h (office-fits w c p) (office-owes w c h p)
outcome-ordered w (event.Down c answered) p h = down-ordered w c.0 answered false p h
outcome-ordered w (event.Ready c) p h = ready-ordered w c.0 false p h
outcome-ordered w (event.Up c) p h = up-ordered w c.0 false p h
outcome-ordered w (event.Lost c way more) p h = where-ordered (nat_lt c.0 w.next_conn) _ (lost-ordered w c.0 way more p h)
outcome-ordered w (event.Fault d) p h = fault-ordered w d p h
outcome-ordered w (event.Stop n) p h = where-ordered (w.running n.0) _ (stop-ordered w n.0 p h)
outcome-ordered w (event.Restart n list) p h = where-ordered (nat_lt n.0 w.nodes && not (w.running n.0)) _ (restart-ordered w n.0 list h)

after-ordered : (w : World) (e : Event) (o : Option World) → Ordered w → IfSome o Ordered → Ordered (after_event w e o)
after-ordered w e None h k = h
after-ordered w e (Some v) h k = k

pub happens-ordered : (w : World) (e : Event) → Placed w → Ordered w → Ordered (happens w e)
unfolding happens
happens-ordered w e p h = after-ordered w e (outcome w e) h (outcome-ordered w e p h)

run-ordered : (w : World) (events : List Event) → Placed w → Ordered w → Ordered (run w events)
run-ordered w [] p h = h
run-ordered w (e ∷ events) p h = run-ordered (happens w e) events (happens-placed w e p) (happens-ordered w e p h)

pub start-ordered : (nodes : ℕ) → Ordered (start nodes)
unfolding start
start-ordered nodes = record {
  downs = λ c k m e. absurd (none-some m e);
  ups = λ c k m e. absurd (none-some m e);
  begun = λ c lt. absurd (omega (arith, lt));
  below = λ c. (refl, refl);
  mirrors = λ c. tt;
  dialled_by = λ c d lt e. absurd (omega (arith, lt));
  writers_are = λ b. tt;
  readers_are = λ i. tt;
  primaries_are = λ i. tt;
}

pub all-ordered : (nodes : ℕ) (events : List Event) → Ordered (run (start nodes) events)
all-ordered nodes events = run-ordered (start nodes) events (all-placed nodes []) (start-ordered nodes)
