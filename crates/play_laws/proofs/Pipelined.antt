-- Members stand on connections of pipelines.
use Rattle.std.proofs.Common.{◌≡◌, ◌<◌, ℕ, true, List, refl, subst}
use Rattle.op_headers.specs.declared.ops.Op.TheVariants as op
use Rattle.op_headers.specs.Values.{WriteFields}
use Rattle.world.specs.declared.events.Event.{Event}
use Rattle.world.specs.Parts.{Upper, request, by_member}
use Rattle.world.specs.Worlds.{World, start}
use Rattle.world.specs.Events.{run}
use Rattle.world_acks.specs.Acking.{UpperTells, Mirrors, AllAcked}
use Rattle.world_orders.specs.Orders.{Purpose, pipeline, reading, recovering, purpose_of, comes_down, AllOrdered}
use Rattle.play_laws.specs.Pipelines.{AllArePiped}

-- a request to write comes first on a pipeline's connection alone
writes_first : (p : Purpose) (f : WriteFields) → comes_down p true (request (op.Write f)) ≡ true → p ≡ pipeline
writes_first pipeline f e = refl
writes_first reading f e = cc
writes_first recovering f e = cc

pub all_piped : AllAcked → AllOrdered → AllArePiped
all_piped acked ordered = λ nodes events c d within upper.
    let w : World = run (start nodes) events in
    let m : Mirrors w.past d c = subst (λ (u : Upper). UpperTells w.past c u) upper ((acked nodes events).1.uppers c within) in
    writes_first (purpose_of (w.dialled d).upper) m.fields ((ordered nodes events).downs d 0 (request (op.Write m.fields)) m.asked.first)
