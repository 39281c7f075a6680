-- After events in which only writes fail that make a replica grow, a restart finds all of each broken replica.
use Rattle.std.proofs.Common.{◌≡◌, ℕ, ◌<◌, Bool, true, false, ◌||◌, ◌-◌, arith, eq-eqb, List, [], ◌∷◌, ◌++◌, length, Option, Some, None, IfSome, refl, sym, ◌∙◌, ap, subst}
use Rattle.std.specs.Prelude.{◌&&◌, nat_le, nat_lt, option_map, unwrap_or, slice_get, if◌then◌else◌}
use Rattle.std.specs.Option.{IsSome}
use Rattle.std.proofs.lemmas.Bool.{false≢true}
use Rattle.std.proofs.lemmas.Bool.Decides.{nat_tests}
use Rattle.hd_base.specs.declared.states.ReplicaState.{ReplicaState}
use Rattle.hd_base.specs.declared.states.ReplicaState.TheVariants as state
use Rattle.replica_core.specs.declared.info.ReplicaInfo.{ReplicaInfo}
use Rattle.replica_core.specs.Info.{is_finalized, is_temporary}
use Rattle.replica_model.specs.declared.events.ReplicaEvent.{ReplicaEvent}
use Rattle.replica_model.specs.Plans.{plan, has_changing}
use Rattle.replica_model.specs.Rows.{FullReplica, IsFull, row, broken, event_at}
use Rattle.replica_model.specs.Found.{found_whole}
use Rattle.member_core.specs.declared.turns.Turn.{Turn}
use Rattle.member_core.specs.Members.{down_turn}
use Rattle.member_core.specs.Steps.{Step, replica_after, step}
use Rattle.world_laws.specs.Joining.{IsPlain, BreakReached}
use Rattle.world_laws.specs.Stamping.{none_given, given_in}
use Rattle.world_laws.specs.World.Connections.{Next, next_down, down_taken, is_served}
use Rattle.world_laws.specs.World.Delivery.{Delivery}
use Rattle.world_laws.specs.World.Delivery.TheVariants as delivery
use Rattle.world_laws.specs.World.Event.{Event}
use Rattle.world_laws.specs.World.Event.TheVariants as event
use Rattle.world_laws.specs.World.Events.{changed, down_as, down_event, fault_event, outcome, after_event, happens, run}
use Rattle.world_laws.specs.World.Nodes.{node_of, replica_at, block_of, above_of, first_break, failing_turn, turn_change, member_change, takes_next, pending_at, lower_down}
use Rattle.world_laws.specs.World.Parts.{FullMember, Lower, idle, writes, serves, recovers, ended_below, Break, Dialled}
use Rattle.world_laws.specs.World.Restarts.{is_found_changed, is_found_within, may_find, replica_found, whole_found, restarted}
use Rattle.world_laws.specs.World.Worlds.{World, Dial, put_at, dial_at, apply, start}
use Rattle.world_laws.proofs.AllSetUp.{all-set}
use Rattle.world_laws.proofs.FactTables.{if-each, some-weaker}
use Rattle.world_laws.proofs.FilledLaws.{all-filled}
use Rattle.world_laws.proofs.RunLaws.{runs-end}
use Rattle.world_laws.proofs.SetupRising.{event-broken}
use Rattle.world_writes.specs.Writes.{written_at, has_grown, grows}
use Rattle.world_breaks.specs.Breaks.{IsUnbroken, IsWrite, FailsInWrite, FaultsAreWrites, IsSpared, IsWholeAgain, WholeAfterRefusedWrites}
use Rattle.world_breaks.proofs.AllUnbroken.{found-unbroken}
use Rattle.world_breaks.proofs.Growing.{Grown, row-same, broken-same, broken-is, call-grown}
use Rattle.world_breaks.proofs.Happening.{FaultKeeps, changed-every, down-taken-held, happens-every}
use Rattle.world_breaks.proofs.Keeping.{Rows, Finds, Every, Held, Leaves}
use Rattle.world_breaks.proofs.Rows.{row-unbroken}

-- WHAT IS KEPT

-- A replica broke in a write that was to make it grow, and holds what it was before.
record Refused (r : FullReplica) (x : Break) : Type 0 where
  pub broken : r.known.is_broken ≡ true
  pub info : r.known.info ≡ x.before.known.info
  pub bytes : r.bytes ≡ x.before.bytes
  pub grown : Grown x.before x.event

-- A replica isn't broken, or broke so.
abbrev Stands : ℕ → FullReplica → Option Break → Type 0
Stands b r None = IsUnbroken b r None
Stands b r (Some x) = Refused r x

stands-rows : Rows Stands
stands-rows b r None e p f s = row-unbroken b r None e p s
stands-rows b r (Some x) e p f s =
    let same = row-same r e f s.broken in
    record {
      broken = event-broken r.known (event_at r e) s.broken;
      info = same.0 ∙ s.info;
      bytes = same.1 ∙ s.bytes;
      grown = s.grown;
    }

stands-found : Finds Stands
stands-found b o = found-unbroken b o

-- the replica that was to grow breaks
stands-broken : (b : ℕ) (r : FullReplica) (o : Option Break) (e : ReplicaEvent) → IsFull r → Grown r e → Stands b r o → Stands b (broken r) (first_break o r e)
stands-broken b r None e f g s =
    let same = broken-same r f in
    record { broken = broken-is r; info = same.0; bytes = same.1; grown = g }
stands-broken b r (Some x) e f g s = absurd (false≢true (sym g.whole ∙ s.broken))

-- FAILED WRITES

-- a turn whose call makes the replica grow
fault-turn : (v : World) (c : ℕ) (m : FullMember) (x : Next) (t : Turn) → Held Stands v → length (replica_at v c (block_of m.fields)).bytes < length (replica_after (replica_at v c (block_of m.fields)) t.call).bytes
    → IfSome (failing_turn v c m x t t.call) (Leaves Stands)
fault-turn v c m x t h more =
    let b = block_of m.fields in
    let n = node_of v c in
    let r = replica_at v c b in
    let g = call-grown r t.call (h.full n b) more in
    subst (λ (o : Option ReplicaEvent). IfSome (failing_turn v c m x t o) (Leaves Stands)) (sym g.1)
    (record { whole = stands-broken b r (v.breaks n b) g.0 (h.full n b) g.2 (h.each n b) })

no-dial : (next c : ℕ) → dial_at next [] c ≡ None
no-dial next c = if-each (λ (o : Option Dial). o ≡ None) (nat_le next c) (slice_get [] (c - next)) None (λ _. refl) (λ _. refl)

put-here : {A : Type 0} (f : ℕ → ℕ → A) (n b : ℕ) (x : A) → put_at f n b x n b ≡ x
put-here f n b x = rw (eq-eqb n n refl, eq-eqb b b refl) refl

-- what a turn leaves at the lower end's node
turn-written : (v : World) (c : ℕ) (m : FullMember) (x : Next) (s : Step) (o : Option Break) → written_at (apply v (member_change v c m x s o)) c (block_of m.fields) ≡ length s.replica.bytes
unfolding apply
turn-written v c m x s o =
    let n = node_of v c in
    let b = block_of m.fields in
    let same : option_map (λ d. d.dialled) (dial_at v.next_conn [] c) ≡ None = ap (option_map (λ d. d.dialled)) (no-dial v.next_conn c) in
    ap (λ (d : Option Dialled). length (put_at v.replicas n b s.replica (unwrap_or d (v.dialled c)).to.node b).bytes) same
    ∙ ap (λ (r : FullReplica). length r.bytes) (put-here v.replicas n b s.replica)

less-is : (a b : ℕ) → nat_lt a b ≡ true → a < b
less-is a b h = grind (arith, nat_tests)

takes-fault : (w v : World) (c : ℕ) (m : FullMember) (x : Next) (t : Turn) (e : Event) (b : Bool) → Held Stands v → written_at v c (block_of m.fields) ≡ written_at w c (block_of m.fields)
    → has_grown w (after_event w e (changed v (if b then turn_change v c m x t false else None))) c (writes m) ≡ true
    → IfSome (changed v (if b then turn_change v c m x t true else None)) (Every Stands)
takes-fault w v c m x t e false h same g = tt
takes-fault w v c m x t e true h same g =
    let r = replica_at v c (block_of m.fields) in
    let now = turn-written v c m x (step m.state r t) (v.breaks (node_of v c) (block_of m.fields)) in
    let more : length r.bytes < length (replica_after r t.call).bytes = omega (arith, same, now, less-is _ _ g) in
    changed-every Stands v (failing_turn v c m x t t.call) h.each (fault-turn v c m x t h more)

lower-fault : (l : Lower) (w v : World) (c : ℕ) (x : Next) (e : Event) → Held Stands v → ((b : ℕ) → written_at v c b ≡ written_at w c b)
    → has_grown w (after_event w e (changed v (lower_down l v c x true false))) c l ≡ true
    → IfSome (changed v (lower_down l v c x false true)) (Every Stands)
lower-fault idle w v c x e h same g = absurd (false≢true g)
lower-fault (writes m) w v c x e h same g =
    takes-fault w v c m x (down_turn m.state (above_of x)) e (takes_next m.state (pending_at v c m) x) h (same (block_of m.fields)) g
lower-fault (serves b s) w v c x e h same g = absurd (false≢true g)
lower-fault recovers w v c x e h same g = absurd (false≢true g)
lower-fault ended_below w v c x e h same g = absurd (false≢true g)

taken-written : (w : World) (c d : ℕ) (x : Next) (b : ℕ) → written_at (down_taken w d x) c b ≡ written_at w c b
unfolding down_taken
taken-written w c d x b = refl

served-fault : (w : World) (c : ℕ) (e : Event) (s : Bool) (o : Option Next) → Held Stands w → has_grown w (after_event w e (if s then down_as w c true false o else None)) c (w.lowers c) ≡ true
    → IfSome (if s then down_as w c false true o else None) (Every Stands)
served-fault w c e false o h g = tt
served-fault w c e true None h g = tt
served-fault w c e true (Some x) h g =
    lower-fault (w.lowers c) w (down_taken w c x) c x e (down-taken-held Stands w c x h) (taken-written w c c x) g

down-fault : (w : World) (c : ℕ) → Held Stands w → grows w c ≡ true → IfSome (down_event w c false true) (Every Stands)
unfolding grows happens outcome
down-fault w c h g = served-fault w c (event.Down (record { 0 = c }) true) (is_served w c) (next_down w c) h g

delivery-fault : (w : World) (d : Delivery) → Held Stands w → IsWrite w d → IfSome (fault_event w d) (Every Stands)
delivery-fault w (delivery.Down c) h g = down-fault w c.0 h g
delivery-fault w (delivery.Ready c) h g = absurd g
delivery-fault w (delivery.Up c) h g = absurd g

write-keeps : (w : World) (e : Event) → Held Stands w → FailsInWrite w e → FaultKeeps Stands w e
write-keeps w (event.Own s) h q = tt
write-keeps w (event.Office c) h q = tt
write-keeps w (event.Down c answered) h q = tt
write-keeps w (event.Ready c) h q = tt
write-keeps w (event.Up c) h q = tt
write-keeps w (event.Lost c way more) h q = tt
write-keeps w (event.Fault d) h q = delivery-fault w d h q
write-keeps w (event.Stop n) h q = tt
write-keeps w (event.Restart n list) h q = tt

-- ALL EVENTS

-- some events have happened, and then others
run-stands : (nodes : ℕ) (past events : List Event) → FaultsAreWrites (run (start nodes) past) events → Every Stands (run (start nodes) past) → Every Stands (run (run (start nodes) past) events)
run-stands nodes past [] q h = h
run-stands nodes past (e ∷ events) q h =
    let w = run (start nodes) past in
    let held : Held Stands w = record { full = λ n b. ((all-filled nodes past).replicas n b).full; each = h } in
    let next : Every Stands (happens w e) = happens-every Stands stands-rows stands-found w e (write-keeps w e held q.0) held in
    let joined = runs-end (start nodes) past e in
    subst (λ (v : World). Every Stands (run v events)) joined
    (run-stands nodes (past ++ e ∷ []) events (subst (λ (v : World). FaultsAreWrites v events) (sym joined) q.1) (subst (Every Stands) (sym joined) next))

start-stands : (nodes : ℕ) → Every Stands (start nodes)
unfolding start
start-stands nodes n b = stands-found b None

-- WHAT A RESTART FINDS

no-final : (s t : Bool) → ((s && false) || (t && false) || (s && t && false)) ≡ false
no-final true true = refl
no-final true false = refl
no-final false true = refl
no-final false false = refl

-- Of a replica that wasn't TEMPORARY, and broke amid a change, it may not be that nothing is found.
not-lost : (p : Bool) (h k : ReplicaInfo) (before after : List ℕ) → is_found_changed false p h before k after None ≡ false
not-lost true h k before after = no-final (is_finalized h.original) (is_finalized k.original)
not-lost false h k before after = no-final (is_finalized h.original) (is_finalized k.original)

not-lost-within : (changing : Bool) (before after : FullReplica) (h k : ReplicaInfo) → changing ≡ true → before.known.info ≡ Some h → after.known.info ≡ Some k → is_temporary h.original ≡ false → is_found_within changing before after None ≡ false
not-lost-within changing before after h k does was is lasting = rw (does, was, is, lasting) (not-lost (is_temporary k.original) h k before.bytes after.bytes)

lasting-is : (s : ReplicaState) → (s ≡ state.Temporary → ⊥) → is_temporary s ≡ false
lasting-is state.Temporary h = absurd (h refl)
lasting-is state.Finalized h = refl
lasting-is state.Rbw h = refl
lasting-is state.Rwr h = refl
lasting-is state.Rur h = refl

not-found : (r : FullReplica) (x : Break) → Refused r x → IfSome x.before.known.info IsPlain → may_find r (Some x) None ≡ false
unfolding may_find
not-found r x s p =
    let g = s.grown in
    let plain : IsPlain g.before = subst (λ (o : Option ReplicaInfo). IfSome o IsPlain) g.was p in
    not-lost-within (has_changing (plan x.before x.event)) x.before (row x.before x.event) g.before g.after g.changing g.was g.is (lasting-is g.before.original plain.lasting)

spared : (b : ℕ) (r : FullReplica) (x : Break) → Refused r x → IfSome x.before.known.info IsPlain → IsSpared b r x
unfolding restarted
spared b r x s p = record {
  broken = s.broken;
  there = subst (λ (o : Option ReplicaInfo). IsSome o) (sym (s.info ∙ s.grown.was)) refl;
  found = ap (λ t. replica_found b (if t then None else whole_found r (Some x))) (not-found r x s p)
      ∙ ap (λ o. replica_found b (found_whole o x.before.bytes)) (sym s.info)
      ∙ ap (λ v. replica_found b (found_whole r.known.info v)) (sym s.bytes);
}

whole-again : (b : ℕ) (r : FullReplica) (o : Option Break) → Stands b r o → IfSome o (λ x. IfSome x.before.known.info IsPlain) → IsWholeAgain b r o
whole-again b r None s p = s
whole-again b r (Some x) s p = spared b r x s p

pub all-whole-again : WholeAfterRefusedWrites
all-whole-again nodes events q n b =
    let w = run (start nodes) events in
    let g = given_in none_given (start nodes) events in
    let sets = all-set nodes events in
    whole-again b (w.replicas n b) (w.breaks n b) (run-stands nodes [] events q (start-stands nodes) n b)
    (some-weaker (BreakReached g w.joined n b (w.replicas n b)) (λ x. IfSome x.before.known.info IsPlain) (w.breaks n b) (λ x y. y.plain) (sets.breaks n b))
