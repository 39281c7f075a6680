-- Nodes accept the setup of a stamp once, and only those that the writer's request reaches.
use Rattle.std.specs.Prelude.{ℕ, ◌≡◌, ◌<◌, ◌≤◌, true, List, ◌∷◌, map, slice_get, Option, Some, None}
use Rattle.hd_base.specs.declared.numbers.Stamp.{Stamp}
use Rattle.hd_base.specs.declared.roads.TheConstants.{MAX_NODES}
use Rattle.op_headers.specs.declared.nodes.NodeRef.{NodeRef}
use Rattle.op_headers.specs.Values.{WriteFields}
use Rattle.writer_core.specs.declared.phases.Phase.TheVariants as phase
use Rattle.writer_core.specs.declared.phases.Setup.{Setup}
use Rattle.world.specs.declared.events.Event.{Event}
use Rattle.world.specs.Parts.{Message, Lower, Answered, idle, by_writer}
use Rattle.world.specs.Worlds.{Past, World, start}
use Rattle.world.specs.Nodes.{node_on, block_of}
use Rattle.world.specs.Clients.{are_distinct}
use Rattle.world.specs.Events.{run}
use Rattle.world.specs.Safe.{Has}
use Rattle.world_laws.specs.Stamping.{Givens, Fits, heard}
use Rattle.world_laws.specs.Carrying.{new_stamp}
use Rattle.world_laws.specs.Joining.{joined_as}
use Rattle.world_acks.specs.Acking.{Asked, promised}

-- a write request that its connection's lower end hasn't taken
pub record Waits (h : Past) (lowers : ℕ → Lower) (c : ℕ) (f : WriteFields) : Type 0 where
  pub asked : Asked h c f
  pub waits : lowers c ≡ idle

-- the nodes that a request reaches, in their order: the one at its connection's lower end, and those of its targets
-- that name one
abbrev pub chain : Past → ℕ → WriteFields → List (Option ℕ)
chain h c f = Some (h.dialled c).to.node ∷ map (λ (t : NodeRef). node_on t.xfer) f.targets

-- A request reaches each node of the world once, and none that has accepted the setup of its stamp.
pub record IsUnmet (h : Past) (nodes c : ℕ) (f : WriteFields) : Type 0 where
  pub apart : (i j n : ℕ) → n < nodes → slice_get (chain h c f) i ≡ Some (Some n) →
      slice_get (chain h c f) j ≡ Some (Some n) → i ≡ j
  pub unmet : (i n l : ℕ) → n < nodes → slice_get (chain h c f) i ≡ Some (Some n) →
      Has h.joined (joined_as (new_stamp f).0 n l) → ⊥

-- nothing was asked under this stamp, and no node has accepted its setup
pub record IsUnasked (h : Past) (stamp : Stamp) : Type 0 where
  pub asked : (c : ℕ) (f : WriteFields) → Asked h c f → new_stamp f ≡ stamp → ⊥
  pub joined : (n l : ℕ) → Has h.joined (joined_as stamp.0 n l) → ⊥

pub record Joins (w : World) : Type 0 where
  pub few : w.nodes ≤ MAX_NODES
  -- on each connection something was sent down
  pub begun : (c : ℕ) → c < w.next_conn → (m : Message) × (slice_get (w.downs c) 0 ≡ Some m)
  -- of one stamp at most one request waits to be taken
  pub once : (c d : ℕ) (f k : WriteFields) → Waits w.past w.lowers c f → Waits w.past w.lowers d k →
      new_stamp f ≡ new_stamp k → c ≡ d
  pub unmet : (c : ℕ) (f : WriteFields) → Waits w.past w.lowers c f → IsUnmet w.past w.nodes c f
  pub stamped : (b : ℕ) (s : Setup) (stamp : Stamp) → (heard (w.writers b)).phase ≡ phase.Stamped s stamp →
      IsUnasked w.past stamp
  pub members : (b : ℕ) → are_distinct (heard (w.writers b)).members ≡ true
  -- the stamps that were given to writers: what writers know fits these, as if no recovery had begun, and requests
  -- are of such stamps
  pub setups : Givens
  pub fits : (b : ℕ) → Fits (setups b) (w.latest b) None (heard (w.writers b))
  pub under : (b t e : ℕ) → setups b t ≡ Some e → t < w.office.next.0
  pub sessions : (b t e : ℕ) → setups b t ≡ Some e → w.session_of t ≡ e
  pub early : (b t e : ℕ) → setups b t ≡ Some e → e < w.office.next.0
  pub late : (b : ℕ) → w.latest b < w.office.next.0
  -- they are of no session later than the latest, and a later one is of no earlier session
  pub within : (b t e : ℕ) → setups b t ≡ Some e → e ≤ w.latest b
  pub order : (b t u e d : ℕ) → setups b t ≡ Some e → setups b u ≡ Some d → t ≤ u → e ≤ d
  -- what was answered in a writer's session is acked there, and each later setup of the session asks for it
  pub answered : (a : Answered) → Has w.answered a → (e : ℕ) × (setups a.block a.stamp ≡ Some e)
  pub acked : (a : Answered) → Has w.answered a → setups a.block a.stamp ≡ Some (w.latest a.block) →
      a.length ≤ (heard (w.writers a.block)).stream.acked
  pub cover : (a : Answered) (c e : ℕ) (f : WriteFields) → Has w.answered a → Asked w.past c f →
      block_of f ≡ a.block → setups a.block a.stamp ≡ Some e →
      setups a.block (new_stamp f).0 ≡ Some e → a.stamp < (new_stamp f).0 → a.length ≤ promised f
  pub given : (c : ℕ) (f : WriteFields) → Asked w.past c f → (e : ℕ) × (setups (block_of f) (new_stamp f).0 ≡ Some e)
  -- a writer's request reaches all that any request of its stamp reaches
  pub reach : (c d b : ℕ) (f k : WriteFields) (o : Option ℕ) → Asked w.past c f → Asked w.past d k →
      new_stamp f ≡ new_stamp k → (w.dialled c).upper ≡ by_writer b →
      Has (chain w.past d k) o → Has (chain w.past c f) o
  pub single : (stamp n l k : ℕ) → n < w.nodes → Has w.joined (joined_as stamp n l) →
      Has w.joined (joined_as stamp n k) → l ≡ k

-- So it is after every list of events of at most 16 nodes.
abbrev pub AllJoin : Type 0
AllJoin = (nodes : ℕ) (events : List Event) → nodes ≤ MAX_NODES → Joins (run (start nodes) events)
