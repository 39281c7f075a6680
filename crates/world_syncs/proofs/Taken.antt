-- Answers to hsyncs are tied to what members took, after every list of events.
use Rattle.std.proofs.Common.{◌≡◌, ℕ, ◌<◌, ◌≤◌, List, [], ◌∷◌, ◌++◌, IfSome, refl, sym, ap, subst, ◌∙◌, arith}
use Rattle.std.proofs.lemmas.Option.{none-some}
use Rattle.hd_base.specs.declared.roads.TheConstants.{MAX_NODES}
use Rattle.world.specs.declared.events.Event.{Event}
use Rattle.world.specs.Worlds.{World, start}
use Rattle.world.specs.Events.{outcome, happens, run}
use Rattle.world.specs.Safe.{KeptAt}
use Rattle.world_laws.specs.Placing.{Placed}
use Rattle.world_laws.specs.Stamping.{Givens, none_given, given_by, heard}
use Rattle.world_laws.proofs.PlacedLaws.{all-placed}
use Rattle.world_laws.proofs.AllRecorded.{happens-recorded, Reached, reached-agreed, start-recorded}
use Rattle.world_laws.proofs.RunLaws.{runs-end}
use Rattle.world_laws.proofs.AllCarried.{happens-carried, reached-facts, at-start, start-carried}
use Rattle.world_laws.proofs.AllSetUp.{happens-set, start-set}
use Rattle.world_finals.specs.Finishing.{WriterEnds}
use Rattle.world_finals.proofs.AllFinal.{all-final}
use Rattle.world_acks.specs.Acking.{Ends, UpdatesLeave}
use Rattle.world_acks.proofs.Turning.{Known}
use Rattle.world_acks.proofs.WorldRecoveries.AllRecovering.{happens-fits, start-fits}
use Rattle.world_acks.proofs.AllAcked.{Follows, outcome-follows, happens-told, no_ends, start-requests, start-acked}
use Rattle.world_writers.specs.Piping.{PipedOf}
use Rattle.world_writers.specs.Showing.{ShowsOf}
use Rattle.world_writers.specs.Taking.{Joins}
use Rattle.world_writers.proofs.AllJoin.{all-join}
use Rattle.world_writers.proofs.AllMove.{all-move}
use Rattle.world_writers.proofs.AllPiped.{all-piped}
use Rattle.world_writers.proofs.AllShow.{all-show}
use Rattle.world_writers.proofs.Kept.{kept}
use Rattle.world_syncs.specs.Histories.{Histories, no_events, history_with, history_by, history_in}
use Rattle.world_syncs.specs.Syncing.{AllTaken}
use Rattle.world_syncs.proofs.Seats.{SyncSeat, Holds}
use Rattle.world_syncs.proofs.Running.{Syncs, Onwards, outcome-steps, happens-steps, start-syncs}
use Rattle.world_syncs.proofs.Writers.{WaitedOf, moved-waited}
use Rattle.world_syncs.proofs.Waiting.{Waits}
use Rattle.world_syncs.proofs.Stepping.{Around}
use Rattle.world_syncs.proofs.Events.{happens-waits}

-- a world of so many nodes that some events led to
record Led (nodes : ℕ) (w : World) : Type 0 where
  events : List Event
  is : run (start nodes) events ≡ w

led-next : (nodes : ℕ) (w : World) (e : Event) → Led nodes w → Led nodes (happens w e)
led-next nodes w e r = record { events = r.events ++ e ∷ []; is = runs-end (start nodes) r.events e ∙ ap (λ (v : World). happens v e) r.is }

reached-of : (nodes : ℕ) (w : World) → Led nodes w → Reached w
reached-of nodes w r = record { nodes = nodes; events = r.events; is = r.is }

led-joins : (nodes : ℕ) (w : World) → nodes ≤ MAX_NODES → Led nodes w → Joins w
led-joins nodes w low r = subst (λ (v : World). Joins v) r.is (all-join nodes r.events low)

-- what is known of a world that events of few nodes led to
around-at : (g : Givens) (t : Ends) (h : Histories) (w : World) (nodes : ℕ) → Led nodes w → nodes ≤ MAX_NODES → Known g t w → Syncs h w → Waits g h w → Around g t h w
around-at g t h w nodes r low k s x = record {
  known = k;
  joins = led-joins nodes w low r;
  runs = (subst (λ (v : World). Placed v) r.is (all-placed nodes r.events)).runs;
  syncs = s;
  waits = x;
  shows = subst (λ (v : World). (b : ℕ) → ShowsOf v b) r.is (all-show nodes r.events);
  piped = subst (λ (v : World). (b : ℕ) → PipedOf v b) r.is (all-piped nodes r.events);
  ends = subst (λ (v : World). (b : ℕ) → WriterEnds (heard (v.writers b))) r.is (all-final nodes r.events).writers;
  waited = subst (λ (v : World). (b : ℕ) → WaitedOf (heard (v.writers b))) r.is (λ b. moved-waited b _ (all-move nodes r.events b).moved);
}

outcome-onwards : (g : Givens) (t : Ends) (h : Histories) (w : World) (e : Event) → Known g t w → Syncs h w → Follows (given_by g w e) w (happens w e) → IfSome (outcome w e) (Onwards h (history_with h w e) w)
unfolding happens
outcome-onwards g t h w e k s f = outcome-steps g t h w e k s (outcome-follows (given_by g w e) w e (outcome w e) f)

record AtEnd (h : Histories) (w : World) : Type 0 where
  given : Givens
  syncs : Syncs h w
  waits : Waits given h w

run-waits : (g : Givens) (t : Ends) (h : Histories) (w : World) (events : List Event) (nodes : ℕ) → Led nodes w → nodes ≤ MAX_NODES → Known g t w → Syncs h w → Waits g h w → AtEnd (history_in h w events) (run w events)
run-waits g t h w [] nodes r low k s x = record { given = g; syncs = s; waits = x }
run-waits g t h w (e ∷ events) nodes r low k s x =
    let p = led-next nodes w e r in
    let a = reached-agreed w (reached-of nodes w r) in
    let j = happens-recorded g w e k.facts.recorded a in
    let c = happens-carried g w e k.facts a in
    let q = happens-set g w e k.facts a j.one k.sets in
    let n = reached-of nodes (happens w e) p in
    let f = reached-facts (given_by g w e) (happens w e) n j c in
    let m = happens-fits g w e k.facts a k.recovering k.sets.writes in
    let y : Follows (given_by g w e) w (happens w e) = record { facts = f; coming = m } in
    let z = happens-told g t w e k y in
    run-waits (given_by g w e) z.ends (history_by h w e) (happens w e) events nodes p low (record { facts = f; sets = q; requests = z.requests; acked = z.acked; recovering = m.recovering }) (happens-steps g t h w e k s y).syncs
    (happens-waits g t h w e (around-at g t h w nodes r low k s x) q (led-joins nodes (happens w e) low p) j (outcome-onwards g t h w e k s y))

start-waits : (nodes : ℕ) → Waits none_given no_events (start nodes)
unfolding start
start-waits nodes = record {
  writers = λ b n q e. absurd (none-some _ e);
  unsent = λ b t e. absurd (none-some t e);
  answers = λ a has. absurd (none-some a has.there);
}

at-end : (nodes : ℕ) (events : List Event) → nodes ≤ MAX_NODES → AtEnd (history_in no_events (start nodes) events) (run (start nodes) events)
at-end nodes events low =
    let c = start-carried nodes in
    let r = start-recorded nodes in
    run-waits none_given no_ends no_events (start nodes) events nodes (record { events = []; is = refl }) low (record { facts = reached-facts none_given (start nodes) (at-start nodes) r c; sets = start-set nodes; requests = start-requests nodes; acked = start-acked nodes; recovering = start-fits nodes }) (start-syncs nodes) (start-waits nodes)

pub all-taken : (nodes : ℕ) (events : List Event) → nodes ≤ MAX_NODES → AllTaken nodes events
all-taken nodes events low a m has command member steady = record { replica = (e.syncs.replays m.0 a.block).is; synced = holds.synced }
  where
    h : Histories
    h = history_in no_events (start nodes) events

    w : World
    w = run (start nodes) events

    e : AtEnd h w
    e = at-end nodes events low

    low-node : m.0 < w.nodes
    low-node = (all-placed nodes events).runs m.0 steady.runs

    s : SyncSeat h w a.block a.stamp m.0 a.length
    s = e.waits.answers a has command m member low-node

    life : s.life ≡ w.lives m.0
    life = (all-join nodes events low).single a.stamp m.0 s.life (w.lives m.0) low-node s.joins steady.joins

    stays : KeptAt w a m.0
    stays = kept nodes events low a m has member steady

    left : UpdatesLeave w a.block a.stamp m.0 s.life a.length
    left = record { each = λ u q d c p above. stays.updates u q d (c ∙ life) p above }

    holds : Holds (h m.0 a.block) (w.replicas m.0 a.block) a.stamp a.length
    holds = s.holds steady.runs (sym life) steady.sound a.length (omega arith) left
