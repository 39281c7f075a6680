-- No replica has more bytes than a block may have, after every list of events.
use Rattle.std.proofs.Common.{◌≡◌, ℕ, ◌≤◌, Bool, true, false, List, [], ◌∷◌, length, Option, Some, None, IfSome, refl, sym, subst, inl, inr, eqb-true, arith}
use Rattle.std.specs.Prelude.{◌==◌, ◌&&◌, not, nat_lt, if◌then◌else◌}
use Rattle.hd_base.specs.declared.numbers.BlockId.{BlockId}
use Rattle.hd_base.specs.declared.numbers.Stamp.{Stamp}
use Rattle.hd_base.specs.declared.states.ReplicaState.{ReplicaState}
use Rattle.hd_base.specs.SumRules.{Rule, IsChunkSize}
use Rattle.replica_core.specs.declared.info.ReplicaInfo.{ReplicaInfo}
use Rattle.replica_core.specs.Info.{is_temporary}
use Rattle.replica_core.proofs.SoundLemmas.{absent_sound, found_sound}
use Rattle.world.specs.ReplicaModel.Rows.{FullReplica, row}
use Rattle.world.specs.ReplicaModel.Plans.{plan, has_changing}
use Rattle.world.specs.ReplicaModel.Found.{Found, found_as, found_whole, settled_state, IsWaiting, MayFindBetween, waits_old_before, waits_old_after, waits_new_before, waits_new_after, stays_final, becomes_final, cut_final, MayFindNew, MayFindReceived, MayFindChanged, MayFindAmid, MayFindWithin}
use Rattle.world.specs.declared.events.Delivery.{Delivery}
use Rattle.world.specs.declared.events.Delivery.TheVariants as delivery
use Rattle.world.specs.declared.events.Direction.{Direction}
use Rattle.world.specs.declared.events.Direction.TheVariants as direction
use Rattle.world.specs.declared.events.Event.{Event}
use Rattle.world.specs.declared.events.Event.TheVariants as event
use Rattle.world.specs.declared.events.FoundReplica.{FoundReplica}
use Rattle.world.specs.declared.events.OwnStep.{OwnStep}
use Rattle.world.specs.declared.events.OwnStep.TheVariants as own
use Rattle.world.specs.Parts.{Upper, by_writer, by_member, by_reader, by_primary, Break}
use Rattle.world.specs.Worlds.{World, Change, apply, put_at, start}
use Rattle.world.specs.Connections.{Next, next_down, next_up, down_taken, up_taken, is_served}
use Rattle.world.specs.Nodes.{lower_down, lower_ready}
use Rattle.world.specs.Clients.{writer_up, reader_up}
use Rattle.world.specs.Primaries.{primary_up, office_event}
use Rattle.world.specs.Restarts.{found_in, replica_found, restarted, restart}
use Rattle.world.specs.Events.{changed, own_change, down_as, down_event, ready_event, unless_fails, upper_up, up_as, up_event, fault_event, lost, stop, where_so, outcome, after_event, happens, run}
use Rattle.world_laws.specs.Finding.{MayFindAt}
use Rattle.world_laws.proofs.FactTables.{if-each, when-each, and-left, and-right}
use Rattle.world_laws.specs.PacketStream.TheConstants.{BLOCK_LIMIT}
use Rattle.world_laws.proofs.FoundLaws.{restarts-find}
use Rattle.world_laws.proofs.Fronts.{front-length}
use Rattle.world_readings.proofs.Limiting.{IsLimited, IsLimitedBreak, Limited, Limits, row-limited, lower-down-limits, lower-ready-limits, mirror-up-limits}
use Rattle.world_laws.proofs.ReplicaUntouching.{Untouched, own-writer-untouched, writer-up-untouched, own-reader-untouched, reader-up-untouched, own-recover-untouched, own-primary-untouched, primary-up-untouched, office-untouched}

-- CHANGES

put-at-each : {A : Type 0} (P : ℕ → ℕ → A → Type 0) (f : ℕ → ℕ → A) (i k : ℕ) (x : A) → P i k x → ((j l : ℕ) → P j l (f j l)) → (j l : ℕ) → P j l (put_at f i k x j l)
put-at-each {A} P f i k x h q j l =
    if-each (λ (y : A). P j l y) (j == i && l == k) x (f j l)
    (λ e. subst (λ (n : ℕ). P n l x) (sym (eqb-true j i (and-left (j == i) (l == k) e)))
    (subst (λ (n : ℕ). P i n x) (sym (eqb-true l k (and-right (j == i) (l == k) e))) h))
    (λ e. q j l)

limits-limited : (w : World) (k : Change) → Limited w → Limits w k → Limited (apply w k)
unfolding apply
limits-limited w k h s = record {
  replicas = put-at-each (λ (n b : ℕ) (r : FullReplica). IsLimited r) w.replicas k.node k.block k.replica s.replica h.replicas;
  breaks = put-at-each (λ (n b : ℕ) (o : Option Break). IfSome o IsLimitedBreak) w.breaks k.node k.block k.broke s.broke h.breaks;
}

untouched-limits : (w : World) (k : Change) → Limited w → Untouched w k → Limits w k
untouched-limits w k h u = record {
  replica = subst (λ (r : FullReplica). IsLimited r) (sym u.replica) (h.replicas k.node k.block);
  broke = subst (λ (o : Option Break). IfSome o IsLimitedBreak) (sym u.broke) (h.breaks k.node k.block);
}

untouched-all : (w : World) (o : Option Change) → Limited w → IfSome o (Untouched w) → IfSome o (Limits w)
untouched-all w None h u = tt
untouched-all w (Some k) h u = untouched-limits w k h u

changed-limited : (w : World) (o : Option Change) → Limited w → IfSome o (Limits w) → IfSome (changed w o) Limited
changed-limited w None h s = tt
changed-limited w (Some k) h s = limits-limited w k h s

-- RESTARTS

-- what is found has a rule with a chunk of a lawful size, and no more bytes
abbrev FoundFits : Option Found → Type 0
FoundFits f = IfSome f (λ x. IsChunkSize x.sums.chunk × (length x.bytes ≤ BLOCK_LIMIT))

found-fits : (f : Option Found) (at : ReplicaState) (stamp : Stamp) (sums : Rule) (bytes : List ℕ) → f ≡ found_as at stamp sums bytes → IsChunkSize sums.chunk → length bytes ≤ BLOCK_LIMIT → FoundFits f
found-fits f at stamp sums bytes e h few = subst (λ (o : Option Found). FoundFits o) (sym e) (h, few)

none-fits : (f : Option Found) → f ≡ None → FoundFits f
none-fits f e = subst (λ (o : Option Found). FoundFits o) (sym e) tt

waiting-fits : (f : Option Found) (stamp : Stamp) (sums : Rule) (bytes : List ℕ) → IsWaiting f stamp sums bytes → IsChunkSize sums.chunk → length bytes ≤ BLOCK_LIMIT → FoundFits f
waiting-fits f stamp sums bytes w h few = found-fits f _ stamp sums w.0 w.1 h (omega (arith, front-length w.0 bytes w.2, few))

-- a replica that is there has a rule with such a chunk
abbrev InfoFits : Option ReplicaInfo → Type 0
InfoFits o = IfSome o (λ h. IsChunkSize h.sums.chunk)

whole-as-fits : (b : Bool) (at : ReplicaState) (stamp : Stamp) (sums : Rule) (bytes : List ℕ) → IsChunkSize sums.chunk → length bytes ≤ BLOCK_LIMIT
    → FoundFits (if b then None else found_as at stamp sums bytes)
whole-as-fits true at stamp sums bytes h few = tt
whole-as-fits false at stamp sums bytes h few = (h, few)

whole-fits : (o : Option ReplicaInfo) (bytes : List ℕ) (f : Option Found) → InfoFits o → length bytes ≤ BLOCK_LIMIT → f ≡ found_whole o bytes → FoundFits f
whole-fits o bytes f h few e = subst (λ (x : Option Found). FoundFits x) (sym e) (go o h)
  where
    go : (o : Option ReplicaInfo) → InfoFits o → FoundFits (found_whole o bytes)
    go None h = tt
    go (Some i) h = whole-as-fits (is_temporary i.original) (settled_state i.original) i.stamp i.sums bytes h few

module _ (before after : List ℕ) (old : length before ≤ BLOCK_LIMIT) (new : length after ≤ BLOCK_LIMIT) where
  between-fits : (h k : ReplicaInfo) (f : Option Found) → MayFindBetween h before k after f → IsChunkSize h.sums.chunk → FoundFits f
  between-fits h k f (waits_old_before w) c = waiting-fits f h.stamp h.sums before w c old
  between-fits h k f (waits_old_after w) c = waiting-fits f h.stamp h.sums after w c new
  between-fits h k f (waits_new_before w) c = waiting-fits f k.stamp h.sums before w c old
  between-fits h k f (waits_new_after w) c = waiting-fits f k.stamp h.sums after w c new
  between-fits h k f (stays_final a e) c = found-fits f _ h.stamp h.sums before e c old
  between-fits h k f (becomes_final a e) c = found-fits f _ k.stamp h.sums after e c new
  between-fits h k f (cut_final a b e) c = found-fits f _ h.stamp h.sums after e c new

  new-fits : (k : ReplicaInfo) (f : Option Found) → MayFindNew k f → IsChunkSize k.sums.chunk → FoundFits f
  new-fits k f (inl e) c = none-fits f e
  new-fits k f (inr p) c = found-fits f _ k.stamp k.sums [] p.1 c (omega arith)

  received-fits : (h : ReplicaInfo) (f : Option Found) → MayFindReceived h before f → IsChunkSize h.sums.chunk → FoundFits f
  received-fits h f (inl e) c = none-fits f e
  received-fits h f (inr e) c = found-fits f _ h.stamp h.sums before e c old

  changed-fits : (a b : Bool) (h k : ReplicaInfo) (f : Option Found) → MayFindChanged a b h before k after f → IsChunkSize h.sums.chunk → FoundFits f
  changed-fits true true h k f m c = none-fits f m
  changed-fits true false h k f m c = received-fits h f m c
  changed-fits false true h k f m c = between-fits h k f m c
  changed-fits false false h k f m c = between-fits h k f m c

  amid-fits : (h k : Option ReplicaInfo) (f : Option Found) → MayFindAmid h before k after f → InfoFits h → InfoFits k → FoundFits f
  amid-fits None None f m c d = none-fits f m
  amid-fits None (Some k) f m c d = new-fits k f m d
  amid-fits (Some h) None f m c d = whole-fits (Some h) before f c old m
  amid-fits (Some h) (Some k) f m c d = changed-fits (is_temporary h.original) (is_temporary k.original) h k f m c

within-fits : (changing : Bool) (before after : FullReplica) (f : Option Found) → MayFindWithin changing before after f → IsLimited before → IsLimited after → FoundFits f
within-fits true before after f m b a = amid-fits before.bytes after.bytes b.few a.few before.known.info after.known.info f m b.full.rule a.full.rule
within-fits false before after f m b a = whole-fits before.known.info before.bytes f b.full.rule b.few m

at-fits : (r : FullReplica) (o : Option Break) (f : Option Found) → IsLimited r → IfSome o IsLimitedBreak → MayFindAt r o f → FoundFits f
at-fits r None f h k m = whole-fits r.known.info r.bytes f h.full.rule h.few m
at-fits r (Some b) f h k m =
    within-fits (has_changing (plan b.before b.event)) b.before (row b.before b.event) f m k.before (row-limited 0 b.before b.event k.before k.event)

block-of : (b : ℕ) → BlockId
block-of b = record { 0 = b }

found-limited : (b : ℕ) (f : Option Found) → FoundFits f → IsLimited (replica_found b f)
unfolding block-of
found-limited b None h = record { full = record { sound = absent_sound (block-of b); rule = tt; all = refl }; few = omega arith }
found-limited b (Some f) h = record {
  full = record { sound = found_sound (block-of b) f.state f.stamp f.sums (length f.bytes); rule = h.0; all = refl };
  few = h.1;
}

restarted-limited : (b : ℕ) (r : FullReplica) (o : Option Break) (f : Option Found) → IsLimited r → IfSome o IsLimitedBreak → IsLimited (restarted b r o f)
restarted-limited b r o f s k =
    let g = restarts-find b r o f in
    subst (λ (x : FullReplica). IsLimited x) (sym g.is) (found-limited b g.found (at-fits r o g.found s k g.allowed))

restart-limited : (w : World) (n : ℕ) (list : List FoundReplica) → Limited w → Limited (restart w n list)
unfolding restart
restart-limited w n list h = record {
  replicas = λ m b. if-each (λ (f : ℕ → FullReplica). IsLimited (f b)) (m == n) (λ c. restarted c (w.replicas n c) (w.breaks n c) (found_in list c)) (w.replicas m)
      (λ _. restarted-limited b (w.replicas n b) (w.breaks n b) (found_in list b) (h.replicas n b) (h.breaks n b)) (λ _. h.replicas m b);
  breaks = λ m b. if-each (λ (f : ℕ → Option Break). IfSome (f b) IsLimitedBreak) (m == n) (λ _. None) (w.breaks m) (λ _. tt) (λ _. h.breaks m b);
}

-- ALL EVENTS

-- the same replicas
same-limited : (w v : World) → v.replicas ≡ w.replicas → v.breaks ≡ w.breaks → Limited w → Limited v
same-limited w v r b h = record {
  replicas = λ n q. subst (λ (f : ℕ → ℕ → FullReplica). IsLimited (f n q)) (sym r) (h.replicas n q);
  breaks = λ n q. subst (λ (f : ℕ → ℕ → Option Break). IfSome (f n q) IsLimitedBreak) (sym b) (h.breaks n q);
}

pub down-taken-limited : (w : World) (c : ℕ) (x : Next) → Limited w → Limited (down_taken w c x)
unfolding down_taken
down-taken-limited w c x h = same-limited w (down_taken w c x) refl refl h

up-taken-limited : (w : World) (c : ℕ) (x : Next) → Limited w → Limited (up_taken w c x)
unfolding up_taken
up-taken-limited w c x h = same-limited w (up_taken w c x) refl refl h

down-as-limited : (w : World) (c : ℕ) (answered fails : Bool) (o : Option Next) → Limited w → IfSome (down_as w c answered fails o) Limited
down-as-limited w c answered fails None h = tt
down-as-limited w c answered fails (Some x) h =
    let v = down_taken w c x in
    let k = down-taken-limited w c x h in
    changed-limited v (lower_down (w.lowers c) v c x answered fails) k (lower-down-limits (w.lowers c) v c x answered fails k)

down-limited : (w : World) (c : ℕ) (answered fails : Bool) → Limited w → IfSome (down_event w c answered fails) Limited
down-limited w c answered fails h = when-each Limited (is_served w c) _ (λ _. down-as-limited w c answered fails (next_down w c) h)

ready-limited : (w : World) (c : ℕ) (fails : Bool) → Limited w → IfSome (ready_event w c fails) Limited
ready-limited w c fails h =
    when-each Limited (is_served w c) _ (λ _. changed-limited w (lower_ready (w.lowers c) w c fails) h (lower-ready-limits (w.lowers c) w c fails h))

unless-limits : (w : World) (fails : Bool) (k : Option Change) → IfSome k (Limits w) → IfSome (unless_fails fails k) (Limits w)
unless-limits w true k s = tt
unless-limits w false k s = s

upper-limits : (u : Upper) (w : World) (c : ℕ) (x : Next) (fails : Bool) → Limited w → IfSome (upper_up u w c x fails) (Limits w)
upper-limits (by_writer b) w c x fails h = unless-limits w fails (writer_up w b c x) (untouched-all w (writer_up w b c x) h (writer-up-untouched w b c x))
upper-limits (by_member d) w c x fails h = mirror-up-limits (w.lowers d) w d x fails h
upper-limits (by_reader i) w c x fails h = unless-limits w fails (reader_up w i c x) (untouched-all w (reader_up w i c x) h (reader-up-untouched w i c x))
upper-limits (by_primary i p) w c x fails h =
    unless-limits w fails (primary_up w i p c x) (untouched-all w (primary_up w i p c x) h (primary-up-untouched w i p c x))

up-as-limited : (w : World) (c : ℕ) (fails : Bool) (o : Option Next) → Limited w → IfSome (up_as w c fails o) Limited
up-as-limited w c fails None h = tt
up-as-limited w c fails (Some x) h =
    let v = up_taken w c x in
    let k = up-taken-limited w c x h in
    changed-limited v (upper_up (w.dialled c).upper v c x fails) k (upper-limits (w.dialled c).upper v c x fails k)

up-limited : (w : World) (c : ℕ) (fails : Bool) → Limited w → IfSome (up_event w c fails) Limited
up-limited w c fails h = when-each Limited (nat_lt c w.next_conn) _ (λ _. up-as-limited w c fails (next_up w c) h)

fault-limited : (w : World) (d : Delivery) → Limited w → IfSome (fault_event w d) Limited
fault-limited w (delivery.Down c) h = down-limited w c.0 false true h
fault-limited w (delivery.Ready c) h = ready-limited w c.0 true h
fault-limited w (delivery.Up c) h = up-limited w c.0 true h

own-untouched : (w : World) (s : OwnStep) → IfSome (own_change w s) (Untouched w)
own-untouched w (own.Writer b takes answered) = own-writer-untouched w b.0 takes answered
own-untouched w (own.Reader i n r answered) = own-reader-untouched w i n.0 r answered
own-untouched w (own.Recover i n b members answers) = own-recover-untouched w i n.0 b members answers
own-untouched w (own.Primary i) = own-primary-untouched w i

where-limited : (test : Bool) (v : World) → Limited v → IfSome (where_so test v) Limited
where-limited true v h = h
where-limited false v h = tt

lost-limited : (w : World) (c : ℕ) (way : Direction) (more : ℕ) → Limited w → Limited (lost w c way more)
lost-limited w c direction.Down more h = same-limited w (lost w c direction.Down more) refl refl h
lost-limited w c direction.Up more h = same-limited w (lost w c direction.Up more) refl refl h

outcome-limited : (w : World) (e : Event) → Limited w → IfSome (outcome w e) Limited
unfolding outcome
outcome-limited w (event.Own s) h = changed-limited w (own_change w s) h (untouched-all w (own_change w s) h (own-untouched w s))
outcome-limited w (event.Office c) h = changed-limited w (office_event w c) h (untouched-all w (office_event w c) h (office-untouched w c))
outcome-limited w (event.Down c answered) h = down-limited w c.0 answered false h
outcome-limited w (event.Ready c) h = ready-limited w c.0 false h
outcome-limited w (event.Up c) h = up-limited w c.0 false h
outcome-limited w (event.Lost c way more) h = where-limited (nat_lt c.0 w.next_conn) (lost w c.0 way more) (lost-limited w c.0 way more h)
outcome-limited w (event.Fault d) h = fault-limited w d h
outcome-limited w (event.Stop n) h = where-limited (w.running n.0) (stop w n.0) (same-limited w (stop w n.0) refl refl h)
outcome-limited w (event.Restart n list) h =
    where-limited (nat_lt n.0 w.nodes && not (w.running n.0)) (restart w n.0 list) (restart-limited w n.0 list h)

after-limited : (w : World) (e : Event) (o : Option World) → Limited w → IfSome o Limited → Limited (after_event w e o)
after-limited w e None h k = h
after-limited w e (Some v) h k = same-limited v (record v { last = Some e }) refl refl k

pub happens-limited : (w : World) (e : Event) → Limited w → Limited (happens w e)
unfolding happens
happens-limited w e h = after-limited w e (outcome w e) h (outcome-limited w e h)

run-limited : (w : World) (events : List Event) → Limited w → Limited (run w events)
run-limited w [] h = h
run-limited w (e ∷ events) h = run-limited (happens w e) events (happens-limited w e h)

pub start-limited : (nodes : ℕ) → Limited (start nodes)
unfolding start
start-limited nodes = record { replicas = λ n b. found-limited b None tt; breaks = λ n b. tt }

pub all-limited : (nodes : ℕ) (events : List Event) → Limited (run (start nodes) events)
all-limited nodes events = run-limited (start nodes) events (start-limited nodes)
