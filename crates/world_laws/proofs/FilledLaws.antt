-- Every replica has just the bytes that it has written, after every list of events.
use Rattle.std.proofs.Common.{◌≡◌, ℕ, Bool, true, false, List, [], ◌∷◌, length, Option, Some, None, IfSome, refl, sym, subst, inl, inr, eqb-true}
use Rattle.std.specs.Prelude.{◌==◌, ◌&&◌, not, nat_lt, if◌then◌else◌}
use Rattle.hd_base.specs.declared.numbers.BlockId.{BlockId}
use Rattle.hd_base.specs.declared.numbers.Stamp.{Stamp}
use Rattle.hd_base.specs.declared.states.ReplicaState.{ReplicaState}
use Rattle.hd_base.specs.SumRules.{Rule, IsChunkSize}
use Rattle.replica_core.specs.declared.info.ReplicaInfo.{ReplicaInfo}
use Rattle.replica_core.specs.Info.{is_temporary}
use Rattle.replica_core.proofs.SoundLemmas.{absent_sound, found_sound}
use Rattle.world.specs.ReplicaModel.Rows.{FullReplica, IsFull, row}
use Rattle.world.specs.ReplicaModel.Plans.{plan, has_changing}
use Rattle.world.specs.ReplicaModel.Found.{Found, found_as, found_whole, settled_state, IsWaiting, MayFindBetween, waits_old_before, waits_old_after, waits_new_before, waits_new_after, stays_final, becomes_final, cut_final, MayFindNew, MayFindReceived, MayFindChanged, MayFindAmid, MayFindWithin}
use Rattle.world.proofs.ReplicaModel.RowLemmas.{rows_keep_bytes}
use Rattle.world.specs.declared.events.Delivery.{Delivery}
use Rattle.world.specs.declared.events.Delivery.TheVariants as delivery
use Rattle.world.specs.declared.events.Direction.{Direction}
use Rattle.world.specs.declared.events.Direction.TheVariants as direction
use Rattle.world.specs.declared.events.Event.{Event}
use Rattle.world.specs.declared.events.Event.TheVariants as event
use Rattle.world.specs.declared.events.FoundReplica.{FoundReplica}
use Rattle.world.specs.declared.events.OwnStep.{OwnStep}
use Rattle.world.specs.declared.events.OwnStep.TheVariants as own
use Rattle.world.specs.Parts.{Upper, by_writer, by_member, by_reader, by_primary, Break}
use Rattle.world.specs.Worlds.{World, Change, apply, put_at, start}
use Rattle.world.specs.Connections.{Next, next_down, next_up, down_taken, up_taken, is_served}
use Rattle.world.specs.Nodes.{lower_down, lower_ready}
use Rattle.world.specs.Clients.{writer_up, reader_up}
use Rattle.world.specs.Primaries.{primary_up, office_event}
use Rattle.world.specs.Restarts.{found_in, replica_found, restarted, restart}
use Rattle.world.specs.Events.{changed, own_change, down_as, down_event, ready_event, unless_fails, upper_up, up_as, up_event, fault_event, lost, stop, where_so, outcome, after_event, happens, run}
use Rattle.world_laws.specs.Finding.{MayFindAt}
use Rattle.world_laws.specs.Filling.{IsStored, IsBreak, Filled}
use Rattle.world_laws.proofs.FactTables.{if-each, when-each, and-left, and-right}
use Rattle.world_laws.proofs.FoundLaws.{restarts-find}
use Rattle.world_laws.proofs.ReplicaStoring.{Stores, lower-down-stores, lower-ready-stores, mirror-up-stores}
use Rattle.world_laws.proofs.ReplicaUntouching.{Untouched, own-writer-untouched, writer-up-untouched, own-reader-untouched, reader-up-untouched, own-recover-untouched, own-primary-untouched, primary-up-untouched, office-untouched}

-- CHANGES

put-at-each : {A : Type 0} (P : ℕ → ℕ → A → Type 0) (f : ℕ → ℕ → A) (i k : ℕ) (x : A) → P i k x → ((j l : ℕ) → P j l (f j l)) → (j l : ℕ) → P j l (put_at f i k x j l)
put-at-each {A} P f i k x h q j l =
    if-each (λ (y : A). P j l y) (j == i && l == k) x (f j l)
    (λ e. subst (λ (n : ℕ). P n l x) (sym (eqb-true j i (and-left (j == i) (l == k) e)))
    (subst (λ (n : ℕ). P i n x) (sym (eqb-true l k (and-right (j == i) (l == k) e))) h))
    (λ e. q j l)

stores-filled : (w : World) (k : Change) → Filled w → Stores w k → Filled (apply w k)
unfolding apply
stores-filled w k h s = record {
  replicas = put-at-each (λ (n b : ℕ) (r : FullReplica). IsStored b r) w.replicas k.node k.block k.replica s.replica h.replicas;
  breaks = put-at-each (λ (n b : ℕ) (o : Option Break). IfSome o IsBreak) w.breaks k.node k.block k.broke s.broke h.breaks;
}

untouched-stores : (w : World) (k : Change) → Filled w → Untouched w k → Stores w k
untouched-stores w k h u = record {
  replica = subst (λ (r : FullReplica). IsStored k.block r) (sym u.replica) (h.replicas k.node k.block);
  broke = subst (λ (o : Option Break). IfSome o IsBreak) (sym u.broke) (h.breaks k.node k.block);
}

untouched-all : (w : World) (o : Option Change) → Filled w → IfSome o (Untouched w) → IfSome o (Stores w)
untouched-all w None h u = tt
untouched-all w (Some k) h u = untouched-stores w k h u

changed-filled : (w : World) (o : Option Change) → Filled w → IfSome o (Stores w) → IfSome (changed w o) Filled
changed-filled w None h s = tt
changed-filled w (Some k) h s = stores-filled w k h s

-- RESTARTS

-- what is found has a rule with a chunk of a lawful size
abbrev LawfulFound : Option Found → Type 0
LawfulFound f = IfSome f (λ x. IsChunkSize x.sums.chunk)

found-lawful : (f : Option Found) (at : ReplicaState) (stamp : Stamp) (sums : Rule) (bytes : List ℕ) → f ≡ found_as at stamp sums bytes → IsChunkSize sums.chunk → LawfulFound f
found-lawful f at stamp sums bytes e h = subst (λ (o : Option Found). LawfulFound o) (sym e) h

none-lawful : (f : Option Found) → f ≡ None → LawfulFound f
none-lawful f e = subst (λ (o : Option Found). LawfulFound o) (sym e) tt

waiting-lawful : (f : Option Found) (stamp : Stamp) (sums : Rule) (bytes : List ℕ) → IsWaiting f stamp sums bytes → IsChunkSize sums.chunk → LawfulFound f
waiting-lawful f stamp sums bytes w h = found-lawful f _ stamp sums w.0 w.1 h

-- a replica that is there has a rule with such a chunk
abbrev LawfulInfo : Option ReplicaInfo → Type 0
LawfulInfo o = IfSome o (λ h. IsChunkSize h.sums.chunk)

whole-as-lawful : (b : Bool) (at : ReplicaState) (stamp : Stamp) (sums : Rule) (bytes : List ℕ) → IsChunkSize sums.chunk
    → LawfulFound (if b then None else found_as at stamp sums bytes)
whole-as-lawful true at stamp sums bytes h = tt
whole-as-lawful false at stamp sums bytes h = h

whole-lawful : (o : Option ReplicaInfo) (bytes : List ℕ) → LawfulInfo o → LawfulFound (found_whole o bytes)
whole-lawful None bytes h = tt
whole-lawful (Some i) bytes h = whole-as-lawful (is_temporary i.original) (settled_state i.original) i.stamp i.sums bytes h

is-whole-lawful : (o : Option ReplicaInfo) (bytes : List ℕ) (f : Option Found) → LawfulInfo o → f ≡ found_whole o bytes → LawfulFound f
is-whole-lawful o bytes f h e = subst (λ (x : Option Found). LawfulFound x) (sym e) (whole-lawful o bytes h)

between-lawful : (h : ReplicaInfo) (before : List ℕ) (k : ReplicaInfo) (after : List ℕ) (f : Option Found) → MayFindBetween h before k after f → IsChunkSize h.sums.chunk → LawfulFound f
between-lawful h before k after f (waits_old_before w) c = waiting-lawful f h.stamp h.sums before w c
between-lawful h before k after f (waits_old_after w) c = waiting-lawful f h.stamp h.sums after w c
between-lawful h before k after f (waits_new_before w) c = waiting-lawful f k.stamp h.sums before w c
between-lawful h before k after f (waits_new_after w) c = waiting-lawful f k.stamp h.sums after w c
between-lawful h before k after f (stays_final a e) c = found-lawful f _ h.stamp h.sums before e c
between-lawful h before k after f (becomes_final a e) c = found-lawful f _ k.stamp h.sums after e c
between-lawful h before k after f (cut_final a b e) c = found-lawful f _ h.stamp h.sums after e c

new-lawful : (k : ReplicaInfo) (f : Option Found) → MayFindNew k f → IsChunkSize k.sums.chunk → LawfulFound f
new-lawful k f (inl e) c = none-lawful f e
new-lawful k f (inr p) c = found-lawful f _ k.stamp k.sums [] p.1 c

received-lawful : (h : ReplicaInfo) (bytes : List ℕ) (f : Option Found) → MayFindReceived h bytes f → IsChunkSize h.sums.chunk → LawfulFound f
received-lawful h bytes f (inl e) c = none-lawful f e
received-lawful h bytes f (inr e) c = found-lawful f _ h.stamp h.sums bytes e c

changed-lawful : (a b : Bool) (h : ReplicaInfo) (before : List ℕ) (k : ReplicaInfo) (after : List ℕ) (f : Option Found) → MayFindChanged a b h before k after f
    → IsChunkSize h.sums.chunk → LawfulFound f
changed-lawful true true h before k after f m c = none-lawful f m
changed-lawful true false h before k after f m c = received-lawful h before f m c
changed-lawful false true h before k after f m c = between-lawful h before k after f m c
changed-lawful false false h before k after f m c = between-lawful h before k after f m c

amid-lawful : (h : Option ReplicaInfo) (before : List ℕ) (k : Option ReplicaInfo) (after : List ℕ) (f : Option Found) → MayFindAmid h before k after f
    → LawfulInfo h → LawfulInfo k → LawfulFound f
amid-lawful None before None after f m c d = none-lawful f m
amid-lawful None before (Some k) after f m c d = new-lawful k f m d
amid-lawful (Some h) before None after f m c d = is-whole-lawful (Some h) before f c m
amid-lawful (Some h) before (Some k) after f m c d = changed-lawful (is_temporary h.original) (is_temporary k.original) h before k after f m c

within-lawful : (changing : Bool) (before after : FullReplica) (f : Option Found) → MayFindWithin changing before after f → IsFull before → IsFull after → LawfulFound f
within-lawful true before after f m b a = amid-lawful before.known.info before.bytes after.known.info after.bytes f m b.rule a.rule
within-lawful false before after f m b a = is-whole-lawful before.known.info before.bytes f b.rule m

at-lawful : (r : FullReplica) (o : Option Break) (f : Option Found) → IsFull r → IfSome o IsBreak → MayFindAt r o f → LawfulFound f
at-lawful r None f h k m = is-whole-lawful r.known.info r.bytes f h.rule m
at-lawful r (Some b) f h k m =
    within-lawful (has_changing (plan b.before b.event)) b.before (row b.before b.event) f m k.before (rows_keep_bytes b.before b.event k.before k.event)

block-of : (b : ℕ) → BlockId
block-of b = record { 0 = b }

found-stored : (b : ℕ) (f : Option Found) → LawfulFound f → IsStored b (replica_found b f)
unfolding block-of
found-stored b None h = record { full = record { sound = absent_sound (block-of b); rule = tt; all = refl }; block_is = refl }
found-stored b (Some f) h = record {
  full = record { sound = found_sound (block-of b) f.state f.stamp f.sums (length f.bytes); rule = h; all = refl };
  block_is = refl;
}

restarted-stored : (b : ℕ) (r : FullReplica) (o : Option Break) (f : Option Found) → IsStored b r → IfSome o IsBreak → IsStored b (restarted b r o f)
restarted-stored b r o f s k =
    let g = restarts-find b r o f in
    subst (λ (x : FullReplica). IsStored b x) (sym g.is) (found-stored b g.found (at-lawful r o g.found s.full k g.allowed))

restart-filled : (w : World) (n : ℕ) (list : List FoundReplica) → Filled w → Filled (restart w n list)
unfolding restart
restart-filled w n list h = record {
  replicas = λ m b. if-each (λ (f : ℕ → FullReplica). IsStored b (f b)) (m == n) (λ c. restarted c (w.replicas n c) (w.breaks n c) (found_in list c)) (w.replicas m)
      (λ _. restarted-stored b (w.replicas n b) (w.breaks n b) (found_in list b) (h.replicas n b) (h.breaks n b)) (λ _. h.replicas m b);
  breaks = λ m b. if-each (λ (f : ℕ → Option Break). IfSome (f b) IsBreak) (m == n) (λ _. None) (w.breaks m) (λ _. tt) (λ _. h.breaks m b);
}

-- ALL EVENTS

-- the same replicas
same-filled : (w v : World) → v.replicas ≡ w.replicas → v.breaks ≡ w.breaks → Filled w → Filled v
same-filled w v r b h = record {
  replicas = λ n q. subst (λ (f : ℕ → ℕ → FullReplica). IsStored q (f n q)) (sym r) (h.replicas n q);
  breaks = λ n q. subst (λ (f : ℕ → ℕ → Option Break). IfSome (f n q) IsBreak) (sym b) (h.breaks n q);
}

down-taken-filled : (w : World) (c : ℕ) (x : Next) → Filled w → Filled (down_taken w c x)
unfolding down_taken
down-taken-filled w c x h = same-filled w (down_taken w c x) refl refl h

up-taken-filled : (w : World) (c : ℕ) (x : Next) → Filled w → Filled (up_taken w c x)
unfolding up_taken
up-taken-filled w c x h = same-filled w (up_taken w c x) refl refl h

down-as-filled : (w : World) (c : ℕ) (answered fails : Bool) (o : Option Next) → Filled w → IfSome (down_as w c answered fails o) Filled
down-as-filled w c answered fails None h = tt
down-as-filled w c answered fails (Some x) h =
    let v = down_taken w c x in
    let k = down-taken-filled w c x h in
    changed-filled v (lower_down (w.lowers c) v c x answered fails) k (lower-down-stores (w.lowers c) v c x answered fails k)

down-filled : (w : World) (c : ℕ) (answered fails : Bool) → Filled w → IfSome (down_event w c answered fails) Filled
down-filled w c answered fails h = when-each Filled (is_served w c) _ (λ _. down-as-filled w c answered fails (next_down w c) h)

ready-filled : (w : World) (c : ℕ) (fails : Bool) → Filled w → IfSome (ready_event w c fails) Filled
ready-filled w c fails h =
    when-each Filled (is_served w c) _ (λ _. changed-filled w (lower_ready (w.lowers c) w c fails) h (lower-ready-stores (w.lowers c) w c fails h))

unless-stores : (w : World) (fails : Bool) (k : Option Change) → IfSome k (Stores w) → IfSome (unless_fails fails k) (Stores w)
unless-stores w true k s = tt
unless-stores w false k s = s

upper-stores : (u : Upper) (w : World) (c : ℕ) (x : Next) (fails : Bool) → Filled w → IfSome (upper_up u w c x fails) (Stores w)
upper-stores (by_writer b) w c x fails h = unless-stores w fails (writer_up w b c x) (untouched-all w (writer_up w b c x) h (writer-up-untouched w b c x))
upper-stores (by_member d) w c x fails h = mirror-up-stores (w.lowers d) w d x fails h
upper-stores (by_reader i) w c x fails h = unless-stores w fails (reader_up w i c x) (untouched-all w (reader_up w i c x) h (reader-up-untouched w i c x))
upper-stores (by_primary i p) w c x fails h =
    unless-stores w fails (primary_up w i p c x) (untouched-all w (primary_up w i p c x) h (primary-up-untouched w i p c x))

up-as-filled : (w : World) (c : ℕ) (fails : Bool) (o : Option Next) → Filled w → IfSome (up_as w c fails o) Filled
up-as-filled w c fails None h = tt
up-as-filled w c fails (Some x) h =
    let v = up_taken w c x in
    let k = up-taken-filled w c x h in
    changed-filled v (upper_up (w.dialled c).upper v c x fails) k (upper-stores (w.dialled c).upper v c x fails k)

up-filled : (w : World) (c : ℕ) (fails : Bool) → Filled w → IfSome (up_event w c fails) Filled
up-filled w c fails h = when-each Filled (nat_lt c w.next_conn) _ (λ _. up-as-filled w c fails (next_up w c) h)

fault-filled : (w : World) (d : Delivery) → Filled w → IfSome (fault_event w d) Filled
fault-filled w (delivery.Down c) h = down-filled w c.0 false true h
fault-filled w (delivery.Ready c) h = ready-filled w c.0 true h
fault-filled w (delivery.Up c) h = up-filled w c.0 true h

own-untouched : (w : World) (s : OwnStep) → IfSome (own_change w s) (Untouched w)
own-untouched w (own.Writer b takes answered) = own-writer-untouched w b.0 takes answered
own-untouched w (own.Reader i n r answered) = own-reader-untouched w i n.0 r answered
own-untouched w (own.Recover i n b members answers) = own-recover-untouched w i n.0 b members answers
own-untouched w (own.Primary i) = own-primary-untouched w i

where-filled : (test : Bool) (v : World) → Filled v → IfSome (where_so test v) Filled
where-filled true v h = h
where-filled false v h = tt

lost-filled : (w : World) (c : ℕ) (way : Direction) (more : ℕ) → Filled w → Filled (lost w c way more)
lost-filled w c direction.Down more h = same-filled w (lost w c direction.Down more) refl refl h
lost-filled w c direction.Up more h = same-filled w (lost w c direction.Up more) refl refl h

outcome-filled : (w : World) (e : Event) → Filled w → IfSome (outcome w e) Filled
unfolding outcome
outcome-filled w (event.Own s) h = changed-filled w (own_change w s) h (untouched-all w (own_change w s) h (own-untouched w s))
outcome-filled w (event.Office c) h = changed-filled w (office_event w c) h (untouched-all w (office_event w c) h (office-untouched w c))
outcome-filled w (event.Down c answered) h = down-filled w c.0 answered false h
outcome-filled w (event.Ready c) h = ready-filled w c.0 false h
outcome-filled w (event.Up c) h = up-filled w c.0 false h
outcome-filled w (event.Lost c way more) h = where-filled (nat_lt c.0 w.next_conn) (lost w c.0 way more) (lost-filled w c.0 way more h)
outcome-filled w (event.Fault d) h = fault-filled w d h
outcome-filled w (event.Stop n) h = where-filled (w.running n.0) (stop w n.0) (same-filled w (stop w n.0) refl refl h)
outcome-filled w (event.Restart n list) h =
    where-filled (nat_lt n.0 w.nodes && not (w.running n.0)) (restart w n.0 list) (restart-filled w n.0 list h)

after-filled : (w : World) (e : Event) (o : Option World) → Filled w → IfSome o Filled → Filled (after_event w e o)
after-filled w e None h k = h
after-filled w e (Some v) h k = same-filled v (record v { last = Some e }) refl refl k

happens-filled : (w : World) (e : Event) → Filled w → Filled (happens w e)
unfolding happens
happens-filled w e h = after-filled w e (outcome w e) h (outcome-filled w e h)

run-filled : (w : World) (events : List Event) → Filled w → Filled (run w events)
run-filled w [] h = h
run-filled w (e ∷ events) h = run-filled (happens w e) events (happens-filled w e h)

start-filled : (nodes : ℕ) → Filled (start nodes)
unfolding start
start-filled nodes = record { replicas = λ n b. found-stored b None tt; breaks = λ n b. tt }

pub all-filled : (nodes : ℕ) (events : List Event) → Filled (run (start nodes) events)
all-filled nodes events = run-filled (start nodes) events (start-filled nodes)
