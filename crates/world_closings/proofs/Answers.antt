-- A close that is answered leaves each member closed, where what writers are known to have holds before it.
use Rattle.std.proofs.Common.{◌≡◌, ℕ, Bool, true, false, List, [], ◌++◌, length, append-nil, Option, Some, None, IfSome, refl, sym, ◌∙◌, ap, subst, eqb-true}
use Rattle.std.specs.Prelude.{◌==◌, ◌&&◌, nat_lt, not}
use Rattle.std.proofs.lemmas.Option.{none-some}
use Rattle.hd_base.specs.declared.numbers.NodeId.{NodeId}
use Rattle.replica_model.specs.Rows.{FullReplica}
use Rattle.writer_core.specs.declared.phases.Phase.{Phase}
use Rattle.world.specs.declared.events.Delivery.{Delivery}
use Rattle.world.specs.declared.events.Delivery.TheVariants as delivery
use Rattle.world.specs.declared.events.Direction.{Direction}
use Rattle.world.specs.declared.events.Direction.TheVariants as direction
use Rattle.world.specs.declared.events.Event.{Event}
use Rattle.world.specs.declared.events.Event.TheVariants as event
use Rattle.world.specs.declared.events.FoundReplica.{FoundReplica}
use Rattle.world.specs.declared.events.OwnStep.{OwnStep}
use Rattle.world.specs.declared.events.OwnStep.TheVariants as own
use Rattle.world.specs.Parts.{Upper, by_writer, by_member, by_reader, by_primary, Answered}
use Rattle.world.specs.Worlds.{World, Change, Stamped, put_at, add, sessions_with, apply}
use Rattle.world.specs.Connections.{Next, next_down, next_up, down_taken, up_taken, is_served}
use Rattle.world.specs.Nodes.{lower_down, lower_ready}
use Rattle.world.specs.Clients.{writer_up, reader_up}
use Rattle.world.specs.Primaries.{office_event, primary_up}
use Rattle.world.specs.Restarts.{restart}
use Rattle.world.specs.Events.{changed, own_change, down_as, down_event, ready_event, unless_fails, upper_up, up_as, up_event, fault_event, lost, stop, where_so, outcome, after_event, happens}
use Rattle.world.specs.Safe.{Has, Final, written_under, ClosedAt, IsClose, Closed}
use Rattle.world_laws.proofs.FactTables.{if-each, when-each, and-left, and-right}
use Rattle.world_laws.specs.Stamping.{Givens, heard}
use Rattle.world_writers.specs.WorldFinals.Finishing.{Ids}
use Rattle.world_closings.specs.Answering.{AnswersClose, ClosesIn, Closes}
use Rattle.world_closings.proofs.Completing.{Known, closed-member}
use Rattle.node_refs.specs.NodeRefs.{port_of}
use Rattle.world.specs.Nodes.{node_on}
use Rattle.world_closings.proofs.Telling.{Silent, Tells, is_silent, tells_of, silent-tells, lower-down-silent, lower-ready-silent, mirror-up-silent, own-writer-tells, writer-up-silent, own-reader-silent, reader-up-silent, own-recover-silent, own-primary-silent, primary-up-silent, office-silent}

-- WHAT AN EVENT ANSWERS

-- An event that answers nothing, or a writer's answer, with replicas and bytes as they were.
pub data Told (w v : World) : Type 0 where
  told_none : v.last_answer ≡ None → Told w v
  told_of : (b : ℕ) → ((n d : ℕ) → v.replicas n d ≡ w.replicas n d) → ((s : ℕ) → written_under v s ≡ written_under w s) → IfSome v.last_answer (λ a. IsClose a → AnswersClose b (heard (w.writers b)) a) → Told w v

put-same : {A : Type 0} (f : ℕ → ℕ → A) (i k : ℕ) (x : A) → x ≡ f i k → (j l : ℕ) → put_at f i k x j l ≡ f j l
put-same {A} f i k x e j l =
    if-each (λ (y : A). y ≡ f j l) (j == i && l == k) x (f j l)
    (λ t. e ∙ ap (λ (a : ℕ). f a k) (sym (eqb-true j i (and-left (j == i) (l == k) t))) ∙ ap (λ (b : ℕ). f j b) (sym (eqb-true l k (and-right (j == i) (l == k) t)))) (λ _. refl)

add-none : (f : ℕ → List ℕ) (i : ℕ) (xs : List ℕ) → xs ≡ [] → (j : ℕ) → add f i xs j ≡ f j
add-none f i xs e j =
    if-each (λ (y : List ℕ). y ≡ f j) (j == i) (f j ++ xs) (f j) (λ _. ap (λ (y : List ℕ). f j ++ y) e ∙ append-nil (f j)) (λ _. refl)

-- bytes and sessions stay
same-written : (f : ℕ → List ℕ) (h : ℕ → ℕ) (i : ℕ) (xs : List ℕ) (o : Option Stamped) → xs ≡ [] → o ≡ None → (s : ℕ) → add f i xs (sessions_with h o s) ≡ f (h s)
same-written f h i xs o e q s = ap (λ (z : Option Stamped). add f i xs (sessions_with h z s)) q ∙ add-none f i xs e (h s)

change-told : (w : World) (k : Change) → Tells w k → Told w (apply w k)
unfolding apply
change-told w k (is_silent e) = told_none e
change-told w k (tells_of b a) = told_of b (put-same w.replicas k.node k.block k.replica a.replica) (same-written w.written w.session_of k.session k.bytes k.stamped a.bytes a.stamped) a.told

changed-told : (w : World) (o : Option Change) → IfSome o (Tells w) → IfSome (changed w o) (Told w)
changed-told w None t = tt
changed-told w (Some k) t = change-told w k t

none-at : (v : World) (k : Change) → k.answered ≡ None → (apply v k).last_answer ≡ None
unfolding apply
none-at v k e = e

-- only writers answer
silent-told : (w v : World) (o : Option Change) → IfSome o Silent → IfSome (changed v o) (Told w)
silent-told w v None s = tt
silent-told w v (Some k) s = told_none (none-at v k s.none)

-- EVENTS

down-as-told : (w : World) (c : ℕ) (answered fails : Bool) (o : Option Next) → IfSome (down_as w c answered fails o) (Told w)
down-as-told w c answered fails None = tt
down-as-told w c answered fails (Some x) =
    let v = down_taken w c x in silent-told w v (lower_down (w.lowers c) v c x answered fails) (lower-down-silent (w.lowers c) v c x answered fails)

down-told : (w : World) (c : ℕ) (answered fails : Bool) → IfSome (down_event w c answered fails) (Told w)
down-told w c answered fails = when-each (Told w) (is_served w c) _ (λ _. down-as-told w c answered fails (next_down w c))

ready-told : (w : World) (c : ℕ) (fails : Bool) → IfSome (ready_event w c fails) (Told w)
ready-told w c fails = when-each (Told w) (is_served w c) _ (λ _. silent-told w w (lower_ready (w.lowers c) w c fails) (lower-ready-silent (w.lowers c) w c fails))

unless-silent : (fails : Bool) (o : Option Change) → IfSome o Silent → IfSome (unless_fails fails o) Silent
unless-silent true o s = tt
unless-silent false o s = s

upper-silent : (u : Upper) (w : World) (c : ℕ) (x : Next) (fails : Bool) → IfSome (upper_up u w c x fails) Silent
upper-silent (by_writer b) w c x fails = unless-silent fails (writer_up w b c x) (writer-up-silent w b c x)
upper-silent (by_member d) w c x fails = mirror-up-silent (w.lowers d) w d x fails
upper-silent (by_reader i) w c x fails = unless-silent fails (reader_up w i c x) (reader-up-silent w i c x)
upper-silent (by_primary i p) w c x fails = unless-silent fails (primary_up w i p c x) (primary-up-silent w i p c x)

up-as-told : (w : World) (c : ℕ) (fails : Bool) (o : Option Next) → IfSome (up_as w c fails o) (Told w)
up-as-told w c fails None = tt
up-as-told w c fails (Some x) =
    let v = up_taken w c x in silent-told w v (upper_up (w.dialled c).upper v c x fails) (upper-silent (w.dialled c).upper v c x fails)

up-told : (w : World) (c : ℕ) (fails : Bool) → IfSome (up_event w c fails) (Told w)
up-told w c fails = when-each (Told w) (nat_lt c w.next_conn) _ (λ _. up-as-told w c fails (next_up w c))

fault-told : (w : World) (d : Delivery) → IfSome (fault_event w d) (Told w)
fault-told w (delivery.Down c) = down-told w c.0 false true
fault-told w (delivery.Ready c) = ready-told w c.0 true
fault-told w (delivery.Up c) = up-told w c.0 true

own-tells : (w : World) (s : OwnStep) → IfSome (own_change w s) (Tells w)
own-tells w (own.Writer b t answered) = own-writer-tells w b.0 t answered
own-tells w (own.Reader i n r answered) = silent-tells w (own_change w (own.Reader i n r answered)) (own-reader-silent w i n.0 r answered)
own-tells w (own.Recover i n b members answers) = silent-tells w (own_change w (own.Recover i n b members answers)) (own-recover-silent w i n.0 b members answers)
own-tells w (own.Primary i) = silent-tells w (own_change w (own.Primary i)) (own-primary-silent w i)

lost-told : (w : World) (c : ℕ) (way : Direction) (more : ℕ) → Told w (lost w c way more)
lost-told w c direction.Down more = told_none refl
lost-told w c direction.Up more = told_none refl

restart-told : (w : World) (n : ℕ) (list : List FoundReplica) → Told w (restart w n list)
unfolding restart
restart-told w n list = told_none refl

where-told : (w : World) (test : Bool) (v : World) → Told w v → IfSome (where_so test v) (Told w)
where-told w true v t = t
where-told w false v t = tt

outcome-told : (w : World) (e : Event) → IfSome (outcome w e) (Told w)
unfolding outcome
outcome-told w (event.Own s) = changed-told w (own_change w s) (own-tells w s)
outcome-told w (event.Office c) = silent-told w w (office_event w c) (office-silent w c)
outcome-told w (event.Down c answered) = down-told w c.0 answered false
outcome-told w (event.Ready c) = ready-told w c.0 false
outcome-told w (event.Up c) = up-told w c.0 false
outcome-told w (event.Lost c way more) = where-told w (nat_lt c.0 w.next_conn) (lost w c.0 way more) (lost-told w c.0 way more)
outcome-told w (event.Fault d) = fault-told w d
outcome-told w (event.Stop n) = where-told w (w.running n.0) (stop w n.0) (told_none refl)
outcome-told w (event.Restart n list) = where-told w (nat_lt n.0 w.nodes && not (w.running n.0)) (restart w n.0 list) (restart-told w n.0 list)

-- THE LAW

-- the same of a world with these replicas and bytes
closed-same : (w v : World) (a : Answered) (n : ℕ) → ((m d : ℕ) → v.replicas m d ≡ w.replicas m d) → ((s : ℕ) → written_under v s ≡ written_under w s) → ClosedAt w a n → ClosedAt v a n
closed-same w v a n r u h = record {
  final = subst (λ (x : FullReplica). Final x a.stamp) (sym (r n a.block)) h.final;
  bytes = ap (λ (x : FullReplica). x.bytes) (r n a.block) ∙ h.bytes ∙ sym (u a.stamp);
  length_of = ap (λ (xs : List ℕ). length xs) (u a.stamp) ∙ h.length_of;
}

told-closed : (f : Ids) (g : Givens) (w v : World) (a : Answered) (m : NodeId) → Known f g w → Closes g w → Told w v → v.last_answer ≡ Some a → IsClose a → Has a.members m → node_on (port_of m) ≡ Some m.0 → ClosedAt v a m.0
told-closed f g w v a m k c (told_none e) q close has there = absurd (none-some a (sym e ∙ q))
told-closed f g w v a m k c (told_of b r u t) q close has there =
    let x : AnswersClose b (heard (w.writers b)) a = subst (λ (o : Option Answered). IfSome o (λ z. IsClose z → AnswersClose b (heard (w.writers b)) z)) q t close in
    let y = subst (λ (p : Phase). ClosesIn g w b (w.writers b).conn (heard (w.writers b)) p) x.phase_is (c.writers b) in
    closed-same w v a m.0 r u (closed-member f g w b a m k x y.0 y.1 has there)

-- a node that runs has the port of its number in requests
abbrev pub RunsNamed : World → Type 0
RunsNamed w = (m : NodeId) → w.running m.0 ≡ true → node_on (port_of m) ≡ Some m.0

after-closed : (f : Ids) (g : Givens) (w : World) (e : Event) (o : Option World) → Known f g w → Closes g w → RunsNamed (after_event w e o) → Closed w → IfSome o (Told w) → Closed (after_event w e o)
after-closed f g w e None k c n h t = h
after-closed f g w e (Some v) k c n h t = λ a m q close has runs sound. let x = told-closed f g w v a m k c t q close has (n m runs) in record { final = x.final; bytes = x.bytes; length_of = x.length_of }

pub happens-closed : (f : Ids) (g : Givens) (w : World) (e : Event) → Known f g w → Closes g w → RunsNamed (happens w e) → Closed w → Closed (happens w e)
unfolding happens
happens-closed f g w e k c n h = after-closed f g w e (outcome w e) k c n h (outcome-told w e)
