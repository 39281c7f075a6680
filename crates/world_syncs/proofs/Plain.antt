-- No replica of a history is TEMPORARY.
use Rattle.std.proofs.Common.{◌≡◌, ℕ, List, [], ◌∷◌, ◌++◌, Option, Some, None, IfSome, refl, sym, subst, ap, ◌∙◌, eqb-true}
use Rattle.std.specs.Prelude.{◌==◌, ◌&&◌}
use Rattle.replica_model.specs.declared.events.ReplicaEvent.{ReplicaEvent}
use Rattle.replica_model.specs.Rows.{FullReplica, row}
use Rattle.world.specs.declared.events.Event.{Event}
use Rattle.world.specs.declared.events.Event.TheVariants as event
use Rattle.world.specs.Worlds.{World, start}
use Rattle.world.specs.Events.{is_enabled, happens}
use Rattle.world_laws.proofs.FactTables.{if-each, and-left, and-right}
use Rattle.world_laws.specs.Joining.{IsPlain, SetUps}
use Rattle.world_laws.specs.Stamping.{Givens, none_given, given_by}
use Rattle.world_laws.proofs.AllRecorded.{happens-recorded, Reached, reached-next, reached-agreed, start-recorded}
use Rattle.world_laws.proofs.AllCarried.{happens-carried, reached-facts, at-start, start-carried}
use Rattle.world_laws.proofs.AllSetUp.{happens-set, start-set}
use Rattle.world_acks.specs.Acking.{Ends}
use Rattle.world_acks.proofs.Turning.{Known}
use Rattle.world_acks.proofs.WorldRecoveries.AllRecovering.{happens-fits, start-fits}
use Rattle.world_acks.proofs.AllAcked.{Follows, happens-told, no_ends, start-requests, start-acked}
use Rattle.world_syncs.specs.Histories.{TakenEvent, History, Histories, at_first, more_events, no_events, with_event, event_of, history_with, history_by, history_in, replayed}
use Rattle.world_syncs.specs.Replaying.{StaysPlain, ArePlain, AllPlain}
use Rattle.world_syncs.proofs.Running.{Syncs, happens-steps, start-syncs}

-- what becomes of a history: it stays, has one event more, or begins anew
data Grows (x y : History) : Type 0 where
  same : y ≡ x → Grows x y
  more : (e : ReplicaEvent) → y ≡ more_events x e → Grows x y
  anew : (r : FullReplica) → y ≡ at_first r → Grows x y

with-grows : (h : Histories) (o : Option TakenEvent) (n b : ℕ) → Grows (h n b) (with_event h o n b)
with-grows h None n b = same refl
with-grows h (Some x) n b =
    if-each (λ (y : History). Grows (h n b) y) (n == x.node && b == x.block) (more_events (h x.node x.block) x.event) (h n b)
    (λ e. more x.event (ap (λ (i : ℕ). more_events (h i x.block) x.event) (sym (eqb-true n x.node (and-left (n == x.node) (b == x.block) e))) ∙ ap (λ (i : ℕ). more_events (h n i) x.event) (sym (eqb-true b x.block (and-right (n == x.node) (b == x.block) e)))))
    (λ e. same refl)

history-grows : (h : Histories) (w : World) (e : Event) (n b : ℕ) → Grows (h n b) (history_with h w e n b)
history-grows h w (event.Own s) n b = with-grows h (event_of w (event.Own s)) n b
history-grows h w (event.Office c) n b = with-grows h (event_of w (event.Office c)) n b
history-grows h w (event.Down c answered) n b = with-grows h (event_of w (event.Down c answered)) n b
history-grows h w (event.Ready c) n b = with-grows h (event_of w (event.Ready c)) n b
history-grows h w (event.Up c) n b = with-grows h (event_of w (event.Up c)) n b
history-grows h w (event.Lost c way least) n b = with-grows h (event_of w (event.Lost c way least)) n b
history-grows h w (event.Fault d) n b = with-grows h (event_of w (event.Fault d)) n b
history-grows h w (event.Stop m) n b = with-grows h (event_of w (event.Stop m)) n b
history-grows h w (event.Restart m list) n b =
    if-each (λ (f : ℕ → History). Grows (h n b) (f b)) (n == m.0) (λ i. at_first ((happens w (event.Restart m list)).replicas m.0 i)) (h n) (λ _. anew _ refl) (λ _. same refl)

by-grows : (h : Histories) (w : World) (e : Event) (n b : ℕ) → Grows (h n b) (history_by h w e n b)
by-grows h w e n b = if-each (λ (k : Histories). Grows (h n b) (k n b)) (is_enabled w e) (history_with h w e) h (λ _. history-grows h w e n b) (λ _. same refl)

-- with one event more
plain-more : (r : FullReplica) (es : List ReplicaEvent) (e : ReplicaEvent) → StaysPlain r es → IfSome (replayed r (es ++ e ∷ [])).known.info IsPlain → StaysPlain r (es ++ e ∷ [])
plain-more r [] e x new = (x, new)
plain-more r (d ∷ es) e x new = (x.0, plain-more (row r d) es e x.1 new)

grows-plain : (x y : History) → Grows x y → IfSome (replayed y.first y.events).known.info IsPlain → StaysPlain x.first x.events → StaysPlain y.first y.events
grows-plain x y (same q) new old = subst (λ (z : History). StaysPlain z.first z.events) (sym q) old
grows-plain x y (more e q) new old = subst (λ (z : History). StaysPlain z.first z.events) (sym q) (plain-more x.first x.events e old (subst (λ (z : History). IfSome (replayed z.first z.events).known.info IsPlain) q new))
grows-plain x y (anew r q) new old = subst (λ (z : History). StaysPlain z.first z.events) (sym q) (subst (λ (z : History). IfSome (replayed z.first z.events).known.info IsPlain) q new)

happens-plain : (g : Givens) (h : Histories) (w : World) (e : Event) → SetUps g (happens w e) → Syncs (history_by h w e) (happens w e) → ArePlain h → ArePlain (history_by h w e)
happens-plain g h w e sets s old n b =
    grows-plain (h n b) (history_by h w e n b) (by-grows h w e n b) (subst (λ (r : FullReplica). IfSome r.known.info IsPlain) (sym (s.replays n b).is) (sets.plain n b)) (old n b)

run-plain : (g : Givens) (t : Ends) (h : Histories) (w : World) (events : List Event) → Reached w → Known g t w → Syncs h w → ArePlain h → ArePlain (history_in h w events)
run-plain g t h w [] r k s p = p
run-plain g t h w (e ∷ events) r k s p =
    let a = reached-agreed w r in
    let j = happens-recorded g w e k.facts.recorded a in
    let c = happens-carried g w e k.facts a in
    let q = happens-set g w e k.facts a j.one k.sets in
    let n = reached-next w e r in
    let f = reached-facts (given_by g w e) (happens w e) n j c in
    let m = happens-fits g w e k.facts a k.recovering k.sets.writes in
    let y : Follows (given_by g w e) w (happens w e) = record { facts = f; coming = m } in
    let z = happens-told g t w e k y in
    let x = (happens-steps g t h w e k s y).syncs in
    run-plain (given_by g w e) z.ends (history_by h w e) (happens w e) events n (record { facts = f; sets = q; requests = z.requests; acked = z.acked; recovering = m.recovering }) x (happens-plain (given_by g w e) h w e q x p)

pub all-plain : AllPlain
all-plain nodes events =
    let c = start-carried nodes in
    let r = start-recorded nodes in
    run-plain none_given no_ends no_events (start nodes) events (at-start nodes) (record { facts = reached-facts none_given (start nodes) (at-start nodes) r c; sets = start-set nodes; requests = start-requests nodes; acked = start-acked nodes; recovering = start-fits nodes }) (start-syncs nodes) (λ n b. tt)
