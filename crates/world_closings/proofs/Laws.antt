-- A close that was answered leaves each member that runs and isn't broken closed, after every list of events.
use Rattle.std.proofs.Common.{◌≡◌, ℕ, ◌<◌, ◌≤◌, ◌+◌, inl, inr, Bool, true, false, List, [], ◌∷◌, ◌++◌, append-nil, Option, Some, None, IfSome, refl, sym, ◌∙◌, ap, subst, arith}
use Rattle.std.specs.Prelude.{◌&&◌, ◌^◌, ◌-◌, min, nat_lt, not}
use Rattle.std.proofs.lemmas.Bool.Decides.{nat_tests}
use Rattle.std.proofs.lemmas.Option.{none-some}
use Rattle.hd_base.specs.declared.roads.TheConstants.{FIRST_PORT, MAX_NODES}
use Rattle.world.specs.declared.events.Delivery.{Delivery}
use Rattle.world.specs.declared.events.Delivery.TheVariants as delivery
use Rattle.world.specs.declared.events.Direction.{Direction}
use Rattle.world.specs.declared.events.Direction.TheVariants as direction
use Rattle.world.specs.declared.events.Event.{Event}
use Rattle.world.specs.declared.events.Event.TheVariants as event
use Rattle.world.specs.Worlds.{World, Change, apply, start}
use Rattle.world.specs.Connections.{Next, next_down, next_up, down_taken, up_taken, is_served}
use Rattle.world.specs.Nodes.{node_on, lower_down, lower_ready}
use Rattle.world.specs.Primaries.{office_event}
use Rattle.world.specs.Restarts.{restart}
use Rattle.world.specs.Events.{changed, own_change, down_as, upper_up, up_as, fault_event, lost, stop, where_so, outcome, after_event, happens, run}
use Rattle.world.specs.Safe.{Closed, Safe}
use Rattle.world_laws.specs.Growing.{Grows}
use Rattle.world_laws.proofs.ByteLaws.{prefix}
use Rattle.world_laws.proofs.FactTables.{when-each}
use Rattle.world_laws.proofs.GrowthLaws.{run-grows}
use Rattle.world_laws.proofs.RunLaws.{runs-end}
use Rattle.world_laws.proofs.PlacedLaws.{all-placed}
use Rattle.world_laws.proofs.Agreements.{office-and-writer-agree}
use Rattle.world_laws.specs.Stamping.{Givens, none_given, given_by, given_in, heard}
use Rattle.world_laws.proofs.ByteLeaves.{Facts}
use Rattle.world_writers.proofs.WorldRecoveries.AllRecovering.{happens-fits}
use Rattle.world_writers.specs.WorldAcks.Closing.{HasClosed, StandsClosed}
use Rattle.world_writers.specs.WorldAcks.Acking.{Ends}
use Rattle.world_writers.proofs.WorldAcks.Turning.{Known}
use Rattle.world_writers.proofs.WorldAcks.AllAcked.{Told, happens-told, last-closed, all-known}
use Rattle.world_writers.proofs.AllPiped.{all-piped}
use Rattle.world_writers.proofs.Kept.{kept}
use Rattle.world_writers.specs.WorldFinals.Finishing.{no_ids, ids_in}
use Rattle.world_writers.proofs.WorldFinals.AllFinal.{all-final}
use Rattle.world_writers.proofs.WorldFinals.Laws.{all-agree}
use Rattle.world_closings.specs.Answering.{Closes, AllClose}
use Rattle.world_closings.proofs.Completing.{known-of}
use Rattle.world_closings.proofs.Answers.{RunsNamed, happens-closed}
use Rattle.world_closings.proofs.Hearing.{Later}
use Rattle.world_closings.proofs.Events.{Before, closes-later, same-office, still-closes, outcome-closes}

-- ONE EVENT

-- what stands closed after an event does so in its outcome
back-closed : (l : Givens) (v : World) (e : Event) (b s n : ℕ) → StandsClosed l (record v { last = Some e }) b s n → StandsClosed l v b s n
back-closed l v e b s n h = record {
  has = go h.has;
  quiet = record { conn = h.quiet.conn; asked = h.quiet.asked; none = λ c f x. h.quiet.none c f (record { first = x.first; waits = x.waits }) };
}
  where
    go : HasClosed l (record v { last = Some e }) b s n → HasClosed l v b s n
    go (inl x) = inl (record { replica = x.replica; broke = x.broke })
    go (inr x) = inr x

-- the world with its last event named
last-closes : (l : Givens) (v : World) (e : Event) → Closes l v → Closes l (record v { last = Some e })
last-closes l v e h =
    let u : World = record v { last = Some e } in
    let later : Later l l v u = record { closed = λ b s n x. last-closed l v e b s n x; grows = run-grows v [] } in
    record { writers = λ b. closes-later l l v u b (v.writers b).conn (heard (v.writers b)) (heard (v.writers b)).phase later (λ q s x. same-office v u refl b q s x) (h.writers b) }

after-closes : (g l : Givens) (t : Ends) (w : World) (e : Event) (o : Option World) → Before g t w → ((b s n : ℕ) → StandsClosed g w b s n → StandsClosed l (after_event w e o) b s n) → Grows w.past (after_event w e o).past
    → (IfSome o (Later g l w) → IfSome o (Closes l)) → Closes l (after_event w e o)
after-closes g l t w e None h c k m = still-closes g l t w w h (λ b. refl) refl (record { closed = c; grows = k })
after-closes g l t w e (Some v) h c k m = last-closes l v e (m (record { closed = λ b s n x. back-closed l v e b s n (c b s n x); grows = k }))

grows-by : (w : World) (e : Event) → Grows w.past (happens w e).past
grows-by w e = run-grows w (e ∷ [])

happens-closes : (g : Givens) (t : Ends) (w : World) (e : Event) → Before g t w → Facts (given_by g w e) (happens w e) → Closes (given_by g w e) (happens w e)
unfolding happens
happens-closes g t w e h f =
    let l = given_by g w e in
    let k : Told g w l (happens w e) = happens-told g t w e h.known (record { facts = f; coming = happens-fits g w e h.known.facts h.agreed h.known.recovering h.known.sets.writes }) in
    after-closes g l t w e (outcome w e) h k.closed (grows-by w e) (λ y. outcome-closes g l t w e h y)

-- THE NUMBER OF NODES

apply-nodes : (w : World) (k : Change) → (apply w k).nodes ≡ w.nodes
unfolding apply
apply-nodes w k = refl

abbrev SameNodes : World → World → Type 0
SameNodes w v = v.nodes ≡ w.nodes

changed-nodes : (w : World) (o : Option Change) → IfSome (changed w o) (SameNodes w)
changed-nodes w None = tt
changed-nodes w (Some k) = apply-nodes w k

down-nodes : (w : World) (c : ℕ) (answered fails : Bool) (o : Option Next) → IfSome (down_as w c answered fails o) (SameNodes w)
unfolding down_taken
down-nodes w c answered fails None = tt
down-nodes w c answered fails (Some x) = changed-nodes (down_taken w c x) (lower_down (w.lowers c) (down_taken w c x) c x answered fails)

up-nodes : (w : World) (c : ℕ) (fails : Bool) (o : Option Next) → IfSome (up_as w c fails o) (SameNodes w)
unfolding up_taken
up-nodes w c fails None = tt
up-nodes w c fails (Some x) = changed-nodes (up_taken w c x) (upper_up (w.dialled c).upper (up_taken w c x) c x fails)

fault-nodes : (w : World) (d : Delivery) → IfSome (fault_event w d) (SameNodes w)
fault-nodes w (delivery.Down c) = when-each (SameNodes w) (is_served w c.0) _ (λ _. down-nodes w c.0 false true (next_down w c.0))
fault-nodes w (delivery.Ready c) = when-each (SameNodes w) (is_served w c.0) _ (λ _. changed-nodes w (lower_ready (w.lowers c.0) w c.0 true))
fault-nodes w (delivery.Up c) = when-each (SameNodes w) (nat_lt c.0 w.next_conn) _ (λ _. up-nodes w c.0 true (next_up w c.0))

lost-nodes : (w : World) (c : ℕ) (way : Direction) (more : ℕ) → SameNodes w (lost w c way more)
lost-nodes w c direction.Down more = refl
lost-nodes w c direction.Up more = refl

where-nodes : (w : World) (test : Bool) (v : World) → SameNodes w v → IfSome (where_so test v) (SameNodes w)
where-nodes w true v h = h
where-nodes w false v h = tt

outcome-nodes : (w : World) (e : Event) → IfSome (outcome w e) (SameNodes w)
unfolding outcome restart
outcome-nodes w (event.Own s) = changed-nodes w (own_change w s)
outcome-nodes w (event.Office c) = changed-nodes w (office_event w c)
outcome-nodes w (event.Down c answered) = when-each (SameNodes w) (is_served w c.0) _ (λ _. down-nodes w c.0 answered false (next_down w c.0))
outcome-nodes w (event.Ready c) = when-each (SameNodes w) (is_served w c.0) _ (λ _. changed-nodes w (lower_ready (w.lowers c.0) w c.0 false))
outcome-nodes w (event.Up c) = when-each (SameNodes w) (nat_lt c.0 w.next_conn) _ (λ _. up-nodes w c.0 false (next_up w c.0))
outcome-nodes w (event.Lost c way more) = where-nodes w (nat_lt c.0 w.next_conn) (lost w c.0 way more) (lost-nodes w c.0 way more)
outcome-nodes w (event.Fault d) = fault-nodes w d
outcome-nodes w (event.Stop n) = where-nodes w (w.running n.0) (stop w n.0) refl
outcome-nodes w (event.Restart n list) = where-nodes w (nat_lt n.0 w.nodes && not (w.running n.0)) (restart w n.0 list) refl

after-nodes : (w : World) (e : Event) (o : Option World) → IfSome o (SameNodes w) → SameNodes w (after_event w e o)
after-nodes w e None h = refl
after-nodes w e (Some v) h = h

happens-nodes : (w : World) (e : Event) → SameNodes w (happens w e)
unfolding happens
happens-nodes w e = after-nodes w e (outcome w e) (outcome-nodes w e)

run-nodes : (w : World) (events : List Event) → SameNodes w (run w events)
run-nodes w [] = refl
run-nodes w (e ∷ events) = run-nodes (happens w e) events ∙ happens-nodes w e

start-nodes : (nodes : ℕ) → (start nodes).nodes ≡ nodes
unfolding start
start-nodes nodes = refl

-- the port of a node with a small number
port-node : (n : ℕ) → n < MAX_NODES → node_on (min (FIRST_PORT + n) (2 ^ 32 - 1)) ≡ Some n
port-node n lt = grind (arith, nat_tests, lt, min (FIRST_PORT + n) (2 ^ 32 - 1))

runs-named : (nodes : ℕ) (events : List Event) → nodes ≤ MAX_NODES → RunsNamed (run (start nodes) events)
runs-named nodes events le m runs =
    let lt = (all-placed nodes events).runs m.0 runs in
    port-node m.0 (omega (arith, le, lt, run-nodes (start nodes) events, start-nodes nodes))

-- ALL EVENTS

givens-end : (g : Givens) (w : World) (events : List Event) (e : Event) → given_in g w (events ++ e ∷ []) ≡ given_by (given_in g w events) (run w events) e
givens-end g w [] e = refl
givens-end g w (d ∷ events) e = givens-end (given_by g w d) (happens w d) events e

record Holds (nodes : ℕ) (events : List Event) : Type 0 where
  pub closes : Closes (given_in none_given (start nodes) events) (run (start nodes) events)
  pub closed : nodes ≤ MAX_NODES → Closed (run (start nodes) events)

one-more : (nodes : ℕ) (events : List Event) (e : Event) → Holds nodes events → Holds nodes (events ++ e ∷ [])
one-more nodes events e h = record {
  closes = subst (λ (l : Givens). Closes l (run (start nodes) (events ++ e ∷ []))) (sym given) (subst (λ (v : World). Closes (given_by g w e) v) (sym runs) closes);
  closed = λ le. subst (λ (v : World). Closed v) (sym runs) (happens-closed (ids_in no_ids (start nodes) events) g w e (known-of nodes events) h.closes (subst (λ (v : World). RunsNamed v) runs (runs-named nodes (events ++ e ∷ []) le)) (h.closed le));
}
  where
    w : World
    w = run (start nodes) events

    g : Givens
    g = given_in none_given (start nodes) events

    runs : run (start nodes) (events ++ e ∷ []) ≡ happens w e
    runs = runs-end (start nodes) events e

    given : given_in none_given (start nodes) (events ++ e ∷ []) ≡ given_by g w e
    given = givens-end none_given (start nodes) events e

    facts : Facts (given_by g w e) (happens w e)
    facts = subst (λ (v : World). Facts (given_by g w e) v) runs (subst (λ (l : Givens). Facts l (run (start nodes) (events ++ e ∷ []))) given (all-known nodes (events ++ e ∷ [])).1.facts)

    before : (k : (t : Ends) × Known g t w) → Before g k.0 w
    before k = record { known = k.1; piped = λ b. all-piped nodes events b; agreed = λ b. office-and-writer-agree nodes events b; ends = (all-final nodes events).writers; closes = h.closes }

    closes : Closes (given_by g w e) (happens w e)
    closes = let k = all-known nodes events in happens-closes g k.0 w e (before k) facts

at-start : (nodes : ℕ) → Holds nodes []
unfolding start
at-start nodes = record { closes = record { writers = λ b. tt }; closed = λ le a m e. absurd (none-some a e) }

joins : (xs ys : List Event) (e : Event) → (xs ++ e ∷ []) ++ ys ≡ xs ++ e ∷ ys
joins [] ys e = refl
joins (x ∷ xs) ys e = ap (λ (zs : List Event). x ∷ zs) (joins xs ys e)

goes-on : (nodes : ℕ) (done rest : List Event) → Holds nodes done → Holds nodes (done ++ rest)
goes-on nodes done [] h = subst (λ (xs : List Event). Holds nodes xs) (sym (append-nil done)) h
goes-on nodes done (e ∷ rest) h = subst (λ (xs : List Event). Holds nodes xs) (joins done rest e) (goes-on nodes (done ++ e ∷ []) rest (one-more nodes done e h))

all-hold : (nodes : ℕ) (events : List Event) → Holds nodes events
all-hold nodes events = goes-on nodes [] events (at-start nodes)

pub all-close : AllClose
all-close nodes events = (all-hold nodes events).closes

pub all-closed : (nodes : ℕ) (events : List Event) → nodes ≤ MAX_NODES → Closed (run (start nodes) events)
all-closed nodes events le = (all-hold nodes events).closed le

-- THE HEADLINE

pub all-safe : (nodes : ℕ) (events : List Event) → nodes ≤ MAX_NODES → Safe (run (start nodes) events)
all-safe nodes events le = record { prefix = prefix nodes events; kept = kept nodes events le; agree = all-agree nodes events; closed = all-closed nodes events le }
