-- A writer's own step in a play without failures: what is known of the commands of its block, and what the step keeps.
--
-- What it does, by the phase in which the writer is between the things that are due (`WellIn` of play_completeness,
-- specs/Writers), and why the play stays as it should be (`Played`, specs/Played):
-- * Closed: it takes a create or an append, which is queued and fits (`QueueFits`). A create finds nothing known of the
--   block; an append names the members of the create, which are whole.
-- * It wants a pipeline: the office gives a stamp, and the first member is dialled, which runs. The request is taken
--   wherever it arrives: no node has a replica, or each member's is as the append says. The stamp is new, so the session
--   that begins with it has no bytes but those that the block was closed with.
-- * It awaits the answer to its request, or the acks of its last packets: nothing of it is due.
-- * The request was answered: a create is answered; of an append the stamp is committed first, which is later than the
--   committed one, and then the append is answered.
-- * It streams, and a packet is due: that is the next one where the stream has come to. Its sums are those that its bytes
--   have, it begins no later than what was sent ends, and it ends within the chunk that it begins amid. It goes behind all
--   packets on their way, and none of those is the last one.
-- * It streams, and what it waits for is reached: the hflush or hsync is answered.
-- * It streams, and waits for nothing: it takes the next command, which is no create and no append.
-- * All is acked: the office closes the block, with all that was written, and the close is answered.
use Rattle.std.specs.Prelude.{ℕ, ◌≡◌, ◌≤◌, Bool, true, false, List, [], ◌∷◌, length, slice_get, Some}
use Rattle.hd_base.specs.declared.numbers.BlockId.{BlockId}
use Rattle.hd_base.specs.declared.numbers.NodeId.{NodeId}
use Rattle.hd_base.specs.declared.pipeline.TheConstants.{MAX_MEMBERS}
use Rattle.hd_base.specs.declared.roads.TheConstants.{MAX_NODES}
use Rattle.name_core.specs.declared.records.TheConstants.{MAX_APPEND_LENGTH}
use Rattle.writer_core.specs.declared.actions.Action.{Action}
use Rattle.writer_core.specs.declared.actions.Action.TheVariants as action
use Rattle.writer_core.specs.declared.commands.Command.{Command}
use Rattle.writer_core.specs.declared.commands.Command.TheVariants as command
use Rattle.writer_core.specs.Commands.{queued_bytes}
use Rattle.world.specs.Worlds.{add}
use Rattle.play_model.specs.declared.dues.Due.{Due}
use Rattle.play_model.specs.declared.dues.Due.TheVariants as due
use Rattle.play_model.specs.States.{PlayState, world_of, opened, ordered}
use Rattle.play_model.specs.Dues.{is_due, action_of, after_due}
use Rattle.play_completeness.specs.PlayLaws.Members.{IsNode, AreAll}
use Rattle.play_completeness.specs.Complete.{KeepsMembers, WritesBytes}
use Rattle.play_completeness.specs.Played.{QueueFits, ordered_queue, Played}

-- THE COMMANDS OF A BLOCK

abbrev pub IsCreate : Command → Type 0
IsCreate c = (members : List NodeId) × (c ≡ command.Create members)

-- The first command is a create; each create names a few nodes of the world, and each append the members of the create;
-- together they write no more bytes than a block may have that is appended to.
pub record CommandsWell (nodes : ℕ) (commands : List Command) : Type 0 where
  pub first : (c : Command) → slice_get commands 0 ≡ Some c → IsCreate c
  pub few : (i : ℕ) (members : List NodeId) → slice_get commands i ≡ Some (command.Create members) →
      length members ≤ MAX_MEMBERS
  pub are_nodes : (i : ℕ) (members : List NodeId) → slice_get commands i ≡ Some (command.Create members) →
      AreAll (IsNode nodes) members
  pub keeps : KeepsMembers commands
  pub short : queued_bytes commands ≤ MAX_APPEND_LENGTH

-- A play of at most 16 nodes is as it should be, and so are the commands of each block; no session has the number 0.
pub record PlaysWell (p : PlayState) (commands : ℕ → List Command) : Type 0 where
  pub played : Played p commands
  pub unused : (world_of p).written 0 ≡ []
  pub few : p.nodes ≤ MAX_NODES
  pub fit : (b : ℕ) → CommandsWell p.nodes (commands b)

-- STEPS

-- a step that asks the office
abbrev pub is_asking : Action → Bool
is_asking (action.Ask call) = true
is_asking other = false

-- Such a play stays so where the writer of a block has an own step that asks the office for nothing: it takes a command,
-- answers one, or sends a packet.
abbrev pub OwnStepsKeep : Type 0
OwnStepsKeep = (p : PlayState) (commands : ℕ → List Command) (b : BlockId) → PlaysWell p commands →
    is_due (world_of p) p.queues (due.Own b) ≡ true → is_asking (action_of (world_of p) b) ≡ false
    → PlaysWell (after_due p (due.Own b)) commands

-- So it does where the writer asks the office, and goes on with its answer.
abbrev pub AllOwnStepsKeep : Type 0
AllOwnStepsKeep = (p : PlayState) (commands : ℕ → List Command) (b : BlockId) → PlaysWell p commands →
    is_due (world_of p) p.queues (due.Own b) ≡ true
    → PlaysWell (after_due p (due.Own b)) commands

-- OTHER DUES, AND COMMANDS

-- an own step of a writer or a primary
abbrev pub is_own : Due → Bool
is_own (due.Own b) = true
is_own (due.Primary r) = true
is_own other = false

-- Of what else is due only that `Played` holds after it is left to be shown.
abbrev pub OthersKeep : Type 0
OthersKeep = (p : PlayState) (commands : ℕ → List Command) (d : Due) → is_own d ≡ false → PlaysWell p commands →
    Played (after_due p d) commands
    → PlaysWell (after_due p d) commands

-- A play that was only opened is so,
abbrev pub OpenedAreWell : Type 0
OpenedAreWell = (nodes seed : ℕ) → nodes ≤ MAX_NODES → PlaysWell (opened nodes seed) (λ b. [])

-- and stays so where a command joins that fits those before it, and leaves the commands of its block as they should be.
abbrev pub CommandsJoinWell : Type 0
CommandsJoinWell = (p : PlayState) (commands : ℕ → List Command) (b : ℕ) (c : Command) → PlaysWell p commands →
    WritesBytes (c ∷ []) →
    QueueFits (world_of p).nodes ((world_of p).writers b).known.intake (ordered_queue p b c) →
    ((k : ℕ) → CommandsWell p.nodes (add commands b (c ∷ []) k))
    → PlaysWell (ordered p b c) (add commands b (c ∷ []))
