-- Answered bytes stay.
use Rattle.std.proofs.Common.{◌≡◌, ℕ, ◌≤◌, List, Some, sym, ◌∙◌, ap, arith}
use Rattle.hd_base.specs.declared.numbers.NodeId.{NodeId}
use Rattle.hd_base.specs.declared.roads.TheConstants.{MAX_NODES}
use Rattle.world.specs.declared.events.Event.{Event}
use Rattle.world.specs.Parts.{Place, Answered}
use Rattle.world.specs.Worlds.{World, start}
use Rattle.world.specs.Events.{run}
use Rattle.world.specs.Safe.{Has, Kept, KeptAt, Steady}
use Rattle.world.specs.Nodes.{block_of}
use Rattle.world_laws.specs.Carrying.{new_stamp}
use Rattle.world_laws.specs.Stamping.{Givens, none_given, given_in, Recorded}
use Rattle.world_writers.specs.Taking.{Joins}
use Rattle.world_laws.proofs.PlacedLaws.{all-placed}
use Rattle.world_acks.proofs.WorldRecoveries.AllRecovering.{all-recovering}
use Rattle.world_acks.proofs.WorldRecoveries.AllNaming.{all-naming, all-none-stale}
use Rattle.world_acks.specs.Acking.{UpdatesLeave}
use Rattle.world_writers.specs.Leaving.{JoinedSince, RequestsCover, LaterSessionsKeep}
use Rattle.world_writers.specs.Staying.{LatestStay}
use Rattle.world_finals.specs.Finishing.{no_ids, ids_in}
use Rattle.world_finals.proofs.AllFinal.{all-final}
use Rattle.world_writers.proofs.Opening.{Opening, later-keeps}
use Rattle.world_acks.proofs.AllAcked.{all-acked}
use Rattle.world_laws.proofs.AllRecorded.{all-recorded}
use Rattle.world_writers.proofs.AllJoin.{all-join}
use Rattle.world_writers.proofs.AllShow.{all-sit}
use Rattle.world_writers.proofs.Seating.{Seating, told-since, latest-keeps}
use Rattle.world_writers.proofs.Leaving.{Leaving, updates-keep}
use Rattle.world_writers.proofs.Staying.{answered-stay}

covers : (nodes : ℕ) (events : List Event) → nodes ≤ MAX_NODES → RequestsCover (given_in none_given (start nodes) events) (run (start nodes) events)
covers nodes events le a c session f h x b ga gf lt = j.cover a c y.0 f h x b y.1 (there ∙ ap (λ (e : ℕ). Some e) (sym same)) lt
  where
    w : World
    w = run (start nodes) events

    j : Joins w
    j = all-join nodes events le

    r : Recorded (given_in none_given (start nodes) events) w
    r = all-recorded nodes events

    y : (e : ℕ) × (j.setups a.block a.stamp ≡ Some e)
    y = j.answered a h

    z : (e : ℕ) × (j.setups (block_of f) (new_stamp f).0 ≡ Some e)
    z = j.given c f x

    there : j.setups a.block (new_stamp f).0 ≡ Some z.0
    there = ap (λ (v : ℕ). j.setups v (new_stamp f).0) (sym b) ∙ z.1

    -- both are of the session that events have given them
    same : y.0 ≡ z.0
    same = sym (j.sessions a.block a.stamp y.0 y.1) ∙ r.session a.block a.stamp session ga ∙ sym (r.session a.block (new_stamp f).0 session gf) ∙ j.sessions a.block (new_stamp f).0 z.0 there

seating : (nodes : ℕ) (events : List Event) → nodes ≤ MAX_NODES → Seating (given_in none_given (start nodes) events) (run (start nodes) events)
seating nodes events le = record {
  ends = (all-acked nodes events).0;
  recorded = all-recorded nodes events;
  recovering = all-recovering nodes events;
  stale = all-none-stale nodes events;
  placed = all-placed nodes events;
  acked = (all-acked nodes events).1;
  joins = all-join nodes events le;
  sits = all-sit nodes events;
  covers = covers nodes events le;
}

leaving : (nodes : ℕ) (events : List Event) (a : Answered) → nodes ≤ MAX_NODES → Has (run (start nodes) events).answered a → LaterSessionsKeep (given_in none_given (start nodes) events) (run (start nodes) events) a
    → Leaving (given_in none_given (start nodes) events) (run (start nodes) events) a
leaving nodes events a le h later = record {
  recovering = all-recovering nodes events;
  stale = all-none-stale nodes events;
  placed = all-placed nodes events;
  told = told-since (given_in none_given (start nodes) events) (run (start nodes) events) a (seating nodes events le) h;
  later = later;
}

answer-kept : (nodes : ℕ) (events : List Event) (a : Answered) (m : NodeId) → nodes ≤ MAX_NODES → Has (run (start nodes) events).answered a → Has a.members m → Steady (run (start nodes) events) a.block a.stamp m.0
    → LaterSessionsKeep (given_in none_given (start nodes) events) (run (start nodes) events) a → KeptAt (run (start nodes) events) a m.0
answer-kept nodes events a m le h member s later = answered-stay nodes events le a m h member s left
  where
    g : Givens
    g = given_in none_given (start nodes) events

    w : World
    w = run (start nodes) events

    at : Place
    at = record { node = m.0; life = w.lives m.0 }

    since : JoinedSince g w a a.stamp at
    since = record { session = (all-sit nodes events a h).session; answer = (all-sit nodes events a h).given; given = (all-sit nodes events a h).given; since = omega arith; joins = s.joins }

    left : UpdatesLeave w a.block a.stamp m.0 (w.lives m.0) a.length
    left = updates-keep g w a (leaving nodes events a le h later) h a.stamp at ((all-placed nodes events).runs m.0 s.runs) since

opening : (nodes : ℕ) (events : List Event) → nodes ≤ MAX_NODES → Opening (ids_in no_ids (start nodes) events) (given_in none_given (start nodes) events) (run (start nodes) events)
opening nodes events le = record { seating = seating nodes events le; naming = all-naming nodes events; finals = all-final nodes events }

pub kept : (nodes : ℕ) (events : List Event) → nodes ≤ MAX_NODES → Kept (run (start nodes) events)
kept nodes events le a m h member s =
    answer-kept nodes events a m le h member s (later-keeps (ids_in no_ids (start nodes) events) (given_in none_given (start nodes) events) (run (start nodes) events) a (opening nodes events le) h)

pub latest-stay : (nodes : ℕ) (events : List Event) → nodes ≤ MAX_NODES → LatestStay (run (start nodes) events)
latest-stay nodes events le a m h latest member s =
    answer-kept nodes events a m le h member s (latest-keeps (given_in none_given (start nodes) events) (run (start nodes) events) a (seating nodes events le) h latest)
