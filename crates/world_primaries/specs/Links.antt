-- The connections of a primary, and what it sends and shuts on them.
use Rattle.std.specs.Prelude.{◌≡◌, ◌≢◌, ℕ, Bool, false, List, [], ◌∷◌, slice_get, zip, Option, Some, None}
use Rattle.name_core.specs.declared.choice.Chosen.{Chosen}
use Rattle.name_core.specs.declared.calls.OfficeCall.{OfficeCall}
use Rattle.op_headers.specs.declared.ops.Op.TheVariants as op
use Rattle.op_headers.specs.declared.ops.RecoveryKind.TheVariants as kind
use Rattle.world_nets.specs.RecoveryCore.Recovered.{Recovered}
use Rattle.world_nets.specs.RecoveryCore.Primaries.{PrimaryState, request_of, shuts_at}
use Rattle.world_nets.specs.World.Event.{Event}
use Rattle.world_nets.specs.World.Parts.{Message, request, Told, Leading, Primary, leads}
use Rattle.world_nets.specs.World.Worlds.{World, start}
use Rattle.world_nets.specs.World.Connections.{Next}
use Rattle.world_nets.specs.World.Primaries.{is_among_conns, updates_on, is_done_with, updates_change, ends_change, asks_primary}
use Rattle.world_nets.specs.World.Events.{run}
use Rattle.world_nets.specs.Changes.{Flush}
use Rattle.world_nets.specs.Flushing.{upper_flushes}
use Rattle.world_nets.specs.Steps.{SendsBy}
use Rattle.world_primaries.specs.Drawn.{hears_at}

-- DISTINCT CONNECTIONS

-- No connection stands at two places.
abbrev pub AreDistinct : List (Option ℕ) → Type 0
AreDistinct conns = (j k c : ℕ) → slice_get conns j ≡ Some (Some c) → slice_get conns k ≡ Some (Some c) → j ≡ k

abbrev pub IsDistinctIn : Primary → Type 0
IsDistinctIn (leads l) = AreDistinct l.conns
IsDistinctIn other = Unit {0}

-- So it is of each primary after every list of events.
abbrev pub AllAreDistinct : Type 0
AllAreDistinct = (nodes : ℕ) (events : List Event) (i : ℕ) → IsDistinctIn ((run (start nodes) events).primaries i)

-- WHAT IS FLUSHED

-- The upper end of each of these connections flushes what this says of it, and is shut or not as this says.
abbrev pub link_flushes : (ℕ → List Message) → (ℕ → Bool) → List (Option ℕ) → List Flush
link_flushes sends shuts [] = []
link_flushes sends shuts (None ∷ conns) = link_flushes sends shuts conns
link_flushes sends shuts (Some c ∷ conns) =
    record { conn = c; lower = false; shut = shuts c; messages = sends c } ∷ link_flushes sends shuts conns

-- the UPDATE of a primary
abbrev pub update_of : PrimaryState → Chosen → Message
update_of p c = request (op.Recovery (request_of p kind.Update c.length))

-- The chosen members are sent the UPDATE, and connections of which nothing more is awaited are shut.
abbrev pub updates_flushes : Leading → PrimaryState → Chosen → List Flush
updates_flushes l p c = link_flushes
    (updates_on (update_of l.state c) c.members (zip l.state.members l.conns)) (is_done_with (zip p.standings l.conns))
    l.conns

-- All connections are shut.
abbrev pub ends_flushes : Leading → List Flush
ends_flushes l = link_flushes (λ _. []) (is_among_conns l.conns) l.conns

-- What a primary with distinct connections sends and shuts: the updates, its end, behind what it hears, and nothing where
-- the office answers it.
pub record PrimarySends (w : World) (i : ℕ) (l : Leading) : Type 0 where
  pub updates : AreDistinct l.conns → (p : PrimaryState) (c : Chosen) →
      SendsBy w (updates_change w i l p c) (updates_flushes l p c)
  pub ends : AreDistinct l.conns → (r : Recovered) → SendsBy w (ends_change w i l r) (ends_flushes l)
  pub hears : (place c : ℕ) (x : Next) →
      SendsBy w (hears_at w i l place c x) (upper_flushes (Some c) (shuts_at l.state place) [])
  pub asks : (call : OfficeCall) (p : Told → Primary) → SendsBy w (asks_primary w i call p) []

abbrev pub PrimariesSend : Type 0
PrimariesSend = (w : World) (i : ℕ) (l : Leading) → PrimarySends w i l
