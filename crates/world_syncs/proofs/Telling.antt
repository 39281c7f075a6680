-- Replicas are what their histories made of them after every list of events.
use Rattle.std.proofs.Common.{ℕ, List, [], ◌∷◌}
use Rattle.world.specs.declared.events.Event.{Event}
use Rattle.world.specs.Worlds.{World, start}
use Rattle.world.specs.Events.{happens, run}
use Rattle.world_laws.specs.Stamping.{Givens, none_given, given_by}
use Rattle.world_laws.proofs.AllRecorded.{happens-recorded, Reached, reached-next, reached-agreed, start-recorded}
use Rattle.world_laws.proofs.AllCarried.{happens-carried, reached-facts, at-start, start-carried}
use Rattle.world_laws.proofs.AllSetUp.{happens-set, start-set}
use Rattle.world_acks.specs.Acking.{Ends}
use Rattle.world_acks.proofs.Turning.{Known}
use Rattle.world_acks.proofs.WorldRecoveries.AllRecovering.{happens-fits, start-fits}
use Rattle.world_acks.proofs.AllAcked.{Follows, happens-told, no_ends, start-requests, start-acked}
use Rattle.world_syncs.specs.Histories.{Histories, no_events, history_by, history_in}
use Rattle.world_syncs.specs.Replaying.{AllReplayed}
use Rattle.world_syncs.proofs.Running.{Syncs, happens-steps, start-syncs}

run-syncs : (g : Givens) (t : Ends) (h : Histories) (w : World) (events : List Event) → Reached w → Known g t w → Syncs h w → Syncs (history_in h w events) (run w events)
run-syncs g t h w [] r k s = s
run-syncs g t h w (e ∷ events) r k s =
    let a = reached-agreed w r in
    let j = happens-recorded g w e k.facts.recorded a in
    let c = happens-carried g w e k.facts a in
    let q = happens-set g w e k.facts a j.one k.sets in
    let n = reached-next w e r in
    let f = reached-facts (given_by g w e) (happens w e) n j c in
    let m = happens-fits g w e k.facts a k.recovering k.sets.writes in
    let y : Follows (given_by g w e) w (happens w e) = record { facts = f; coming = m } in
    let z = happens-told g t w e k y in
    run-syncs (given_by g w e) z.ends (history_by h w e) (happens w e) events n (record { facts = f; sets = q; requests = z.requests; acked = z.acked; recovering = m.recovering }) (happens-steps g t h w e k s y).syncs

pub all-syncs : (nodes : ℕ) (events : List Event) → Syncs (history_in no_events (start nodes) events) (run (start nodes) events)
all-syncs nodes events =
    let c = start-carried nodes in
    let r = start-recorded nodes in
    run-syncs none_given no_ends no_events (start nodes) events (at-start nodes) (record { facts = reached-facts none_given (start nodes) (at-start nodes) r c; sets = start-set nodes; requests = start-requests nodes; acked = start-acked nodes; recovering = start-fits nodes }) (start-syncs nodes)

pub all-replayed : AllReplayed
all-replayed nodes events n b = ((all-syncs nodes events).replays n b).is
