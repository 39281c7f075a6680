-- Which nodes the members of writers are.
use Rattle.std.specs.Prelude.{ℕ, ◌≡◌, ◌<◌, List, [], ◌∷◌, slice_get, Some, IfSome}
use Rattle.hd_base.specs.declared.numbers.NodeId.{NodeId}
use Rattle.op_headers.specs.declared.nodes.NodeRef.{NodeRef}
use Rattle.op_headers.specs.declared.ops.Op.TheVariants as op
use Rattle.op_headers.specs.Values.{WriteFields}
use Rattle.node_refs.specs.NodeRefs.{ref_of}
use Rattle.writer_core.specs.declared.commands.Command.{Command}
use Rattle.writer_core.specs.declared.commands.Command.TheVariants as command
use Rattle.world.specs.declared.events.Event.{Event}
use Rattle.world.specs.declared.events.Event.TheVariants as event
use Rattle.world.specs.declared.events.OwnStep.TheVariants as own
use Rattle.world.specs.Parts.{request}
use Rattle.world.specs.Worlds.{start}
use Rattle.world.specs.Events.{run}

-- WHAT COMMANDS NAME

-- each of them is so
abbrev pub AreAll : (NodeId → Type 0) → List NodeId → Type 0
AreAll Of members = (k : ℕ) (m : NodeId) → slice_get members k ≡ Some m → Of m

-- the members that a create or an append names
abbrev pub Names : (NodeId → Type 0) → Command → Type 0
Names Of (command.Create members) = AreAll Of members
Names Of (command.Append members) = AreAll Of members
Names Of other = Unit {0}

-- the command that a writer takes
abbrev pub EventNames : (NodeId → Type 0) → Event → Type 0
EventNames Of (event.Own (own.Writer b takes answered)) = IfSome takes (λ t. Names Of t.command)
EventNames Of other = Unit {0}

abbrev pub AllName : (NodeId → Type 0) → List Event → Type 0
AllName Of [] = Unit {0}
AllName Of (e ∷ events) = EventNames Of e × AllName Of events

-- the first nodes, so many
abbrev pub IsNode : ℕ → NodeId → Type 0
IsNode nodes n = n.0 < nodes

-- LAWS

-- Where each command that a writer takes names only nodes of the world, so are the members of each writer.
abbrev pub MembersAre : Type 0
MembersAre = (nodes : ℕ) (events : List Event) (b : ℕ) → AllName (IsNode nodes) events →
    AreAll (IsNode nodes) ((run (start nodes) events).writers b).known.members

-- the node's own reference
pub record IsRef (Of : NodeId → Type 0) (t : NodeRef) : Type 0 where
  pub node : NodeId
  pub of : Of node
  pub is : t ≡ ref_of node

-- each target of a request is a node
abbrev pub AreRefs : (NodeId → Type 0) → WriteFields → Type 0
AreRefs Of fields = (k : ℕ) (t : NodeRef) → slice_get fields.targets k ≡ Some t → IsRef Of t

-- So are the targets of each request to write that was sent on a connection.
abbrev pub TargetsAre : Type 0
TargetsAre = (nodes : ℕ) (events : List Event) (c k : ℕ) (fields : WriteFields) → AllName (IsNode nodes) events →
    slice_get ((run (start nodes) events).downs c) k ≡ Some (request (op.Write fields)) →
    AreRefs (IsNode nodes) fields
