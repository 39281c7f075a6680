-- Setups are kept, after every list of events.
use Rattle.std.proofs.Common.{◌≡◌, ℕ, ◌<◌, inl, inr, Bool, true, false, List, [], ◌∷◌, Option, Some, None, IfSome, refl, sym, subst, arith, eqb-true}
use Rattle.std.specs.Prelude.{◌==◌, ◌&&◌, not, nat_lt, if◌then◌else◌}
use Rattle.std.proofs.lemmas.Bool.Decides.{nat_tests}
use Rattle.std.proofs.lemmas.Bool.{false≢true}
use Rattle.std.proofs.lemmas.Option.{none-some}
use Rattle.replica_core.specs.declared.info.ReplicaInfo.{ReplicaInfo}
use Rattle.world.specs.declared.events.Delivery.{Delivery}
use Rattle.world.specs.declared.events.Delivery.TheVariants as delivery
use Rattle.world.specs.declared.events.Direction.{Direction}
use Rattle.world.specs.declared.events.Direction.TheVariants as direction
use Rattle.world.specs.declared.events.Event.{Event}
use Rattle.world.specs.declared.events.Event.TheVariants as event
use Rattle.world.specs.declared.events.OwnStep.{OwnStep}
use Rattle.world.specs.declared.events.OwnStep.TheVariants as own
use Rattle.world.specs.Parts.{Upper, by_writer, by_member, by_reader, by_primary, Joined, Answered}
use Rattle.world.specs.Worlds.{World, Change, Stamped, put, apply, start}
use Rattle.world.specs.Connections.{Next, next_down, next_up, down_taken, up_taken, is_alive, is_served}
use Rattle.world.specs.Nodes.{node_of, lower_down, lower_ready}
use Rattle.world.specs.Clients.{writer_up, reader_up}
use Rattle.world.specs.Primaries.{primary_up, office_event}
use Rattle.world.specs.Restarts.{restart}
use Rattle.world.specs.Events.{changed, own_change, down_as, down_event, ready_event, unless_fails, upper_up, up_as, up_event, fault_event, lost, stop, where_so, outcome, after_event, happens, run}
use Rattle.world.specs.Safe.{Has}
use Rattle.world_laws.proofs.FactTables.{if-each, when-each, and-right, some-weaker}
use Rattle.world_laws.specs.Stamping.{Givens, none_given, given_with, stamped_in, given_by, given_in, Recorded}
use Rattle.world_laws.proofs.AllRecorded.{happens-recorded, Reached, reached-next, reached-agreed, start-recorded}
use Rattle.world_laws.proofs.StampRecording.{Agreed}
use Rattle.world_laws.specs.Carrying.{Carried}
use Rattle.world_laws.proofs.ByteLeaves.{Facts}
use Rattle.world_laws.proofs.ByteEnds.{lower-ready-keeps}
use Rattle.world_laws.proofs.ByteOffices.{office-event-keeps}
use Rattle.world_laws.proofs.AllCarried.{down-taken-facts, up-taken-facts, changed-carried, down-as-carried, up-as-carried, own-keeps, office-carried, happens-carried, reached-facts, at-start, start-carried}
use Rattle.world_laws.specs.Joining.{joined_as, HasReached, BreakReached, IsGiven, IsOfBlock, SetUps}
use Rattle.world_laws.proofs.SetupTelling.{tells-in}
use Rattle.world_laws.proofs.SetupUntouching.{Untouched, own-writer-untouched, writer-up-untouched, own-reader-untouched, reader-up-untouched, own-recover-untouched, own-primary-untouched, primary-up-untouched, office-untouched}
use Rattle.world_laws.proofs.SetupNodes.{NodeJoins, IsOfOne, node-joins}
use Rattle.world_laws.proofs.SetupLowers.{Plain, lower-down-joins, lower-ready-joins, mirror-up-joins, untouched-joins}
use Rattle.world_laws.proofs.SetupRestarting.{restart-set}

-- CHANGES

changed-set : (g : Givens) (w : World) (o : Option Change) → SetUps g w → Recorded g w → IfSome (changed w o) (Carried g) → IfSome o (NodeJoins w) → IfSome (changed w o) (SetUps g)
changed-set g w None h i c n = tt
changed-set g w (Some k) h i c n = node-joins g w k h i.one c (tells-in g w k i n.tells) n

untouched-set : (w : World) (o : Option Change) → Plain w → IfSome o (Untouched w) → IfSome o (NodeJoins w)
untouched-set w o h u = some-weaker (Untouched w) (NodeJoins w) o (λ k x. untouched-joins w k h x) u

unless-joins : (w : World) (fails : Bool) (o : Option Change) → IfSome o (NodeJoins w) → IfSome (unless_fails fails o) (NodeJoins w)
unless-joins w true o n = tt
unless-joins w false o n = n

-- MARKS

down-taken-set : (g : Givens) (w : World) (c : ℕ) (x : Next) → SetUps g w → SetUps g (down_taken w c x)
unfolding down_taken
down-taken-set g w c x h = record { answers = h.answers; given = h.given; reached = h.reached; plain = h.plain; writes = h.writes; breaks = h.breaks }

up-taken-set : (g : Givens) (w : World) (c : ℕ) (x : Next) → SetUps g w → SetUps g (up_taken w c x)
unfolding up_taken
up-taken-set g w c x h = record { answers = h.answers; given = h.given; reached = h.reached; plain = h.plain; writes = h.writes; breaks = h.breaks }

-- DELIVERIES

-- the lower end's node is in the life of the connection
pub served-life : (w : World) (c : ℕ) → is_served w c ≡ true → w.lives (node_of w c) ≡ (w.dialled c).to.life
served-life w c e =
    let p = (w.dialled c).to in
    eqb-true (w.lives p.node) p.life (and-right (w.running p.node) (w.lives p.node == p.life) (and-right (nat_lt c w.next_conn) (is_alive w p) e))

down-as-set : (g : Givens) (w : World) (c : ℕ) (answered fails : Bool) (o : Option Next) → Facts g w → SetUps g w → w.lives (node_of w c) ≡ (w.dialled c).to.life → next_down w c ≡ o → IfSome (down_as w c answered fails o) (SetUps g)
unfolding down_taken
down-as-set g w c answered fails None f h alive e = tt
down-as-set g w c answered fails (Some x) f h alive e =
    let v = down_taken w c x in
    changed-set g v (lower_down (w.lowers c) v c x answered fails) (down-taken-set g w c x h) (down-taken-facts g w c x f).recorded (down-as-carried g w c answered fails (Some x) f e)
    (lower-down-joins (w.lowers c) v c x answered fails h.plain alive)

down-set : (g : Givens) (w : World) (c : ℕ) (answered fails : Bool) → Facts g w → SetUps g w → IfSome (down_event w c answered fails) (SetUps g)
down-set g w c answered fails f h = when-each (SetUps g) (is_served w c) _ (λ e. down-as-set g w c answered fails (next_down w c) f h (served-life w c e) refl)

ready-set : (g : Givens) (w : World) (c : ℕ) (fails : Bool) → Facts g w → SetUps g w → IfSome (ready_event w c fails) (SetUps g)
ready-set g w c fails f h =
    when-each (SetUps g) (is_served w c) _ (λ _.
    let k = lower_ready (w.lowers c) w c fails in
    changed-set g w k h f.recorded (changed-carried g w k (lower-ready-keeps (w.lowers c) g w c fails f (f.carried.lowers c))) (lower-ready-joins (w.lowers c) w c fails h.plain))

upper-joins : (u : Upper) (w : World) (c : ℕ) (x : Next) (fails : Bool) → Plain w → IfSome (upper_up u w c x fails) (NodeJoins w)
upper-joins (by_writer b) w c x fails h = unless-joins w fails (writer_up w b c x) (untouched-set w (writer_up w b c x) h (writer-up-untouched w b c x))
upper-joins (by_member d) w c x fails h = mirror-up-joins (w.lowers d) w d x fails h
upper-joins (by_reader i) w c x fails h = unless-joins w fails (reader_up w i c x) (untouched-set w (reader_up w i c x) h (reader-up-untouched w i c x))
upper-joins (by_primary i p) w c x fails h = unless-joins w fails (primary_up w i p c x) (untouched-set w (primary_up w i p c x) h (primary-up-untouched w i p c x))

up-as-set : (g : Givens) (w : World) (c : ℕ) (fails : Bool) (o : Option Next) → Facts g w → SetUps g w → c < w.next_conn → next_up w c ≡ o → IfSome (up_as w c fails o) (SetUps g)
unfolding up_taken
up-as-set g w c fails None f h lt e = tt
up-as-set g w c fails (Some x) f h lt e =
    let v = up_taken w c x in
    changed-set g v (upper_up (w.dialled c).upper v c x fails) (up-taken-set g w c x h) (up-taken-facts g w c x f).recorded (up-as-carried g w c fails (Some x) f lt e) (upper-joins (w.dialled c).upper v c x fails h.plain)

up-set : (g : Givens) (w : World) (c : ℕ) (fails : Bool) → Facts g w → SetUps g w → IfSome (up_event w c fails) (SetUps g)
up-set g w c fails f h = when-each (SetUps g) (nat_lt c w.next_conn) _ (λ e. up-as-set g w c fails (next_up w c) f h (lt-true c w.next_conn e) refl)
  where
    lt-true : (a b : ℕ) → nat_lt a b ≡ true → a < b
    lt-true a b e = grind (arith, nat_tests, e)

fault-set : (g : Givens) (w : World) (d : Delivery) → Facts g w → SetUps g w → IfSome (fault_event w d) (SetUps g)
fault-set g w (delivery.Down c) f h = down-set g w c.0 false true f h
fault-set g w (delivery.Ready c) f h = ready-set g w c.0 true f h
fault-set g w (delivery.Up c) f h = up-set g w c.0 true f h

own-untouched : (w : World) (s : OwnStep) → IfSome (own_change w s) (Untouched w)
own-untouched w (own.Writer b takes answered) = own-writer-untouched w b.0 takes answered
own-untouched w (own.Reader i n r answered) = own-reader-untouched w i n.0 r answered
own-untouched w (own.Recover i n b members answers) = own-recover-untouched w i n.0 b members answers
own-untouched w (own.Primary i) = own-primary-untouched w i

-- STAMPS THAT ARE GIVEN

-- a stamp that was given stays given
pub given-stays : (g : Givens) (o : Option Stamped) (b t e : ℕ) → g b t ≡ Some e → (d : ℕ) × (given_with g o b t ≡ Some d)
given-stays g None b t e q = (e, q)
given-stays g (Some s) b t e q = at (b == s.block) refl
  where
    own : (c : Bool) → (d : ℕ) × ((if c then Some s.session else g s.block t) ≡ Some d) → (d : ℕ) × ((if c then Some s.session else g s.block t) ≡ Some d)
    own c x = x

    inner : (c : Bool) → g s.block t ≡ Some e → (d : ℕ) × ((if c then Some s.session else g s.block t) ≡ Some d)
    inner true x = (s.session, refl)
    inner false x = (e, x)

    at : (c : Bool) → (b == s.block) ≡ c → (d : ℕ) × ((if c then put (g s.block) s.stamp (Some s.session) else g b) t ≡ Some d)
    at true x = inner (t == s.stamp) (subst (λ (y : ℕ). g y t ≡ Some e) (eqb-true b s.block x) q)
    at false x = (e, q)

later-given : (g : Givens) (o : Option Stamped) (s : ℕ) → IsGiven g s → IsGiven (given_with g o) s
later-given g o s i = let x = given-stays g o i.block s i.session i.is in record { block = i.block; session = x.0; is = x.1 }

later-answer : (g : Givens) (o : Option Stamped) (a : Answered) → IsOfBlock g a → IsOfBlock (given_with g o) a
later-answer g o a (inl e) = inl e
later-answer g o a (inr x) = inr (given-stays g o a.block a.stamp x.0 x.1)

-- a replica has reached the setups of its block, whatever was given since
later-reached : (g : Givens) (o : Option Stamped) (joined : List Joined) (n b : ℕ) (i : Option ReplicaInfo) → IsOfOne (given_with g o) → ((s n l : ℕ) → Has joined (joined_as s n l) → IsGiven g s)
    → HasReached g joined n b i → HasReached (given_with g o) joined n b i
later-reached g o joined n b i one given h = record {
  least = λ s l e j q.
      let x = given s n l j in
      let y = given-stays g o x.block s x.session x.is in
      h.least s l x.session j (subst (λ (c : ℕ). g c s ≡ Some x.session) (one x.block b s y.0 e y.1 q) x.is);
}

later-set : (g : Givens) (o : Option Stamped) (w : World) → IsOfOne (given_with g o) → SetUps g w → SetUps (given_with g o) w
later-set g o w one h = record {
  answers = λ a j. later-answer g o a (h.answers a j);
  given = λ s n l j. later-given g o s (h.given s n l j);
  reached = λ n b. later-reached g o w.joined n b (w.replicas n b).known.info one h.given (h.reached n b);
  plain = h.plain;
  writes = h.writes;
  breaks = λ n b. some-weaker (BreakReached g w.joined n b (w.replicas n b)) (BreakReached (given_with g o) w.joined n b (w.replicas n b)) (w.breaks n b) (λ x r. record {
    reached = later-reached g o w.joined n b x.before.known.info one h.given r.reached;
    plain = r.plain;
    rises = r.rises;
    broken = r.broken;
  }) (h.breaks n b);
}

office-set : (g : Givens) (w : World) (o : Option Change) → SetUps g w → Recorded g w → IsOfOne (given_with g (stamped_in o)) → IfSome (changed w o) (Carried (given_with g (stamped_in o))) → IfSome o (Untouched w)
    → IfSome (changed w o) (SetUps (given_with g (stamped_in o)))
office-set g w None h i one c u = tt
office-set g w (Some k) h i one c u =
    node-joins (given_with g k.stamped) w k (later-set g k.stamped w one h) one c (some-weaker (IsOfBlock g) (IsOfBlock (given_with g k.stamped)) k.answered (λ a x. later-answer g k.stamped a x) (tells-in g w k i u.tells))
    (untouched-joins w k h.plain u)

-- ALL EVENTS

where-set : (g : Givens) (test : Bool) (v : World) → SetUps g v → IfSome (where_so test v) (SetUps g)
where-set g true v h = h
where-set g false v h = tt

stop-set : (g : Givens) (w : World) (n : ℕ) → SetUps g w → SetUps g (stop w n)
stop-set g w n h = record {
  answers = h.answers;
  given = h.given;
  reached = h.reached;
  plain = h.plain;
  writes = λ m b. record { joins = λ runs sound. (h.writes m b).joins (if-each (λ (t : Bool). t ≡ true → w.running m ≡ true) (m == n) false (w.running m) (λ _ e. absurd (false≢true e)) (λ _ e. e) runs) sound };
  breaks = h.breaks;
}

lost-set : (g : Givens) (w : World) (c : ℕ) (way : Direction) (more : ℕ) → SetUps g w → SetUps g (lost w c way more)
lost-set g w c direction.Down more h = record { answers = h.answers; given = h.given; reached = h.reached; plain = h.plain; writes = h.writes; breaks = h.breaks }
lost-set g w c direction.Up more h = record { answers = h.answers; given = h.given; reached = h.reached; plain = h.plain; writes = h.writes; breaks = h.breaks }

outcome-set : (g : Givens) (w : World) (e : Event) → Facts g w → Agreed w → IsOfOne (given_by g w e) → SetUps g w → IfSome (outcome w e) (SetUps (given_by g w e))
unfolding outcome
outcome-set g w (event.Own s) f a one h = changed-set g w (own_change w s) h f.recorded (changed-carried g w (own_change w s) (own-keeps g w s f)) (untouched-set w (own_change w s) h.plain (own-untouched w s))
outcome-set g w (event.Office c) f a one h = office-set g w (office_event w c) h f.recorded one (office-carried g w (office_event w c) (office-event-keeps g w c f a)) (office-untouched w c)
outcome-set g w (event.Down c answered) f a one h = down-set g w c.0 answered false f h
outcome-set g w (event.Ready c) f a one h = ready-set g w c.0 false f h
outcome-set g w (event.Up c) f a one h = up-set g w c.0 false f h
outcome-set g w (event.Lost c way more) f a one h = where-set g (nat_lt c.0 w.next_conn) (lost w c.0 way more) (lost-set g w c.0 way more h)
outcome-set g w (event.Fault d) f a one h = fault-set g w d f h
outcome-set g w (event.Stop n) f a one h = where-set g (w.running n.0) (stop w n.0) (stop-set g w n.0 h)
outcome-set g w (event.Restart n list) f a one h =
    where-set g (nat_lt n.0 w.nodes && not (w.running n.0)) (restart w n.0 list) (restart-set g w n.0 list h)

-- an event that isn't enabled gives no stamp
idle-office : (g : Givens) (w : World) (o : Option Change) → changed w o ≡ None → SetUps g w → SetUps (given_with g (stamped_in o)) w
idle-office g w None e h = h
idle-office g w (Some k) e h = absurd (none-some (apply w k) (sym e))

idle-set : (g : Givens) (w : World) (e : Event) → outcome w e ≡ None → SetUps g w → SetUps (given_by g w e) w
unfolding outcome
idle-set g w (event.Own s) i h = h
idle-set g w (event.Office c) i h = idle-office g w (office_event w c) i h
idle-set g w (event.Down c answered) i h = h
idle-set g w (event.Ready c) i h = h
idle-set g w (event.Up c) i h = h
idle-set g w (event.Lost c way more) i h = h
idle-set g w (event.Fault d) i h = h
idle-set g w (event.Stop n) i h = h
idle-set g w (event.Restart n list) i h = h

after-set : (g : Givens) (w : World) (e : Event) (o : Option World) → outcome w e ≡ o → SetUps g w → IfSome o (SetUps (given_by g w e)) → SetUps (given_by g w e) (after_event w e o)
after-set g w e None i h k = idle-set g w e i h
after-set g w e (Some v) i h k = record { answers = k.answers; given = k.given; reached = k.reached; plain = k.plain; writes = k.writes; breaks = k.breaks }

pub happens-set : (g : Givens) (w : World) (e : Event) → Facts g w → Agreed w → IsOfOne (given_by g w e) → SetUps g w → SetUps (given_by g w e) (happens w e)
unfolding happens
happens-set g w e f a one h = after-set g w e (outcome w e) refl h (outcome-set g w e f a one h)

run-set : (g : Givens) (w : World) (events : List Event) → Reached w → Recorded g w → Carried g w → SetUps g w → SetUps (given_in g w events) (run w events)
run-set g w [] r i c h = h
run-set g w (e ∷ events) r i c h =
    let a = reached-agreed w r in
    let f = reached-facts g w r i c in
    let j = happens-recorded g w e i a in
    run-set (given_by g w e) (happens w e) events (reached-next w e r) j (happens-carried g w e f a) (happens-set g w e f a j.one h)

pub start-set : (nodes : ℕ) → SetUps none_given (start nodes)
unfolding start
start-set nodes = record {
  answers = λ a j. absurd (none-some a j.there);
  given = λ s n l j. absurd (none-some _ j.there);
  reached = λ n b. record { least = λ s l e j q. absurd (none-some _ j.there) };
  plain = λ n b. tt;
  writes = λ n b. record { joins = λ _ _. tt };
  breaks = λ n b. tt;
}

pub all-set : (nodes : ℕ) (events : List Event) → SetUps (given_in none_given (start nodes) events) (run (start nodes) events)
all-set nodes events = run-set none_given (start nodes) events (at-start nodes) (start-recorded nodes) (start-carried nodes) (start-set nodes)
