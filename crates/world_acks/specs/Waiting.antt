-- Write requests that wait to be taken: of one stamp there is at most one.
use Rattle.std.specs.Prelude.{ℕ, ◌≡◌, ◌<◌, List, slice_get, Some}
use Rattle.op_headers.specs.declared.ops.Op.TheVariants as op
use Rattle.op_headers.specs.Values.{WriteFields}
use Rattle.member_core.specs.declared.requests.SetupKind.TheVariants as kind
use Rattle.member_core.specs.Requests.{setup_with}
use Rattle.writer_core.specs.declared.phases.Phase.{Phase}
use Rattle.writer_core.specs.declared.phases.Phase.TheVariants as phase
use Rattle.world_recoveries.specs.World.Parts.{Message, request, idle}
use Rattle.world_recoveries.specs.World.Event.{Event}
use Rattle.world_recoveries.specs.World.Worlds.{Past, World, start}
use Rattle.world_recoveries.specs.World.Events.{run}
use Rattle.world_recoveries.specs.WorldLaws.Stamping.{heard}
use Rattle.world_recoveries.specs.WorldLaws.Carrying.{new_stamp, Sets}

-- a write request that its connection's lower end hasn't taken
pub record Waits (w : World) (c : ℕ) (f : WriteFields) : Type 0 where
  pub first : slice_get (w.downs c) 0 ≡ Some (request (op.Write f))
  pub waits : w.lowers c ≡ idle

-- something was sent down on the connection
pub record HasFirst (h : Past) (c : ℕ) : Type 0 where
  pub first : Message
  pub is : slice_get (h.downs c) 0 ≡ Some first

-- no request was sent under the stamp of a setup that isn't dialled yet
abbrev pub Unasked : Past → Phase → Type 0
Unasked h (phase.Stamped s stamp) = (c : ℕ) → Sets h c stamp → ⊥
Unasked h _ = Unit {0}

-- Each connection begins with a message; of one stamp at most one request waits; and a writer hasn't asked under a
-- stamp that it is to dial under.
pub record Requests (w : World) : Type 0 where
  pub begun : (c : ℕ) → c < w.next_conn → HasFirst w.past c
  pub once : (c d : ℕ) (f k : WriteFields) → Waits w c f → Waits w d k → new_stamp f ≡ new_stamp k → c ≡ d
  pub unasked : (b : ℕ) → Unasked w.past (heard (w.writers b)).phase

-- A request of this stamp was sent, and none that recovers an append waits under it.
pub record IsQuiet (w : World) (stamp : ℕ) : Type 0 where
  pub conn : ℕ
  pub asked : Sets w.past conn (record { 0 = stamp })
  pub none : (c : ℕ) (f : WriteFields) → Waits w c f → (new_stamp f).0 ≡ stamp →
      setup_with f.stage ≡ Some kind.AppendRecovery → ⊥

-- So it is after every list of events.
abbrev pub AllWaiting : Type 0
AllWaiting = (nodes : ℕ) (events : List Event) → Requests (run (start nodes) events)
