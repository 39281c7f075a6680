-- What is due of connections and of readers keeps a play without failures as it should be.
use Rattle.std.specs.Prelude.{ℕ, ◌≡◌, ◌≤◌, true, List, [], ◌∷◌}
use Rattle.hd_base.specs.declared.numbers.BlockId.{BlockId}
use Rattle.hd_base.specs.declared.roads.TheConstants.{MAX_NODES}
use Rattle.writer_core.specs.declared.commands.Command.{Command}
use Rattle.play_model.specs.declared.asks.ReadAsk.{ReadAsk}
use Rattle.play_model.specs.declared.dues.Due.{Due}
use Rattle.play_model.specs.declared.dues.Due.TheVariants as due
use Rattle.world.specs.Worlds.{add}
use Rattle.play_model.specs.States.{PlayState, world_of, opened, ordered}
use Rattle.play_model.specs.Dues.{is_due, after_due}
use Rattle.play_scripts.specs.PlayLaws.Members.{IsNode, AllName}
use Rattle.play_completeness.specs.Complete.{WritesBytes}
use Rattle.play_completeness.specs.Formed.{Ruled}
use Rattle.play_completeness.specs.Played.{QueueFits, Played, ordered_queue}

-- A play of at most 16 nodes, in which each command that a writer took names nodes of the world.
pub record PlayNames (p : PlayState) : Type 0 where
  pub few : p.nodes ≤ MAX_NODES
  pub named : AllName (IsNode p.nodes) p.events

-- So is a play without failures, and the replicas of each block have the rule that its writer has.
pub record PlayedOn (p : PlayState) (commands : ℕ → List Command) : Type 0 where
  pub played : Played p commands
  pub names : PlayNames p
  pub ruled : Ruled (world_of p)

-- what is due of a connection
abbrev pub IsOfConn : Due → Type 0
IsOfConn (due.Own b) = ⊥
IsOfConn (due.Reader ask) = ⊥
IsOfConn (due.Primary r) = ⊥
IsOfConn other = Unit {0}

-- A play stays so where what is due of a connection happens.
abbrev pub ConnsKeepPlays : Type 0
ConnsKeepPlays = (p : PlayState) (commands : ℕ → List Command) (d : Due) → PlayedOn p commands →
    is_due (world_of p) p.queues d ≡ true → IsOfConn d
    → PlayedOn (after_due p d) commands

-- So it does where a reader asks its node.
abbrev pub ReadersKeepPlays : Type 0
ReadersKeepPlays = (p : PlayState) (commands : ℕ → List Command) (ask : ReadAsk) → PlayedOn p commands
    → PlayedOn (after_due p (due.Reader ask)) commands

-- What a writer does keeps names and rules.
abbrev pub OwnKeepsNames : Type 0
OwnKeepsNames = (p : PlayState) (commands : ℕ → List Command) (b : BlockId) → Played p commands → PlayNames p →
    Ruled (world_of p)
    → PlayNames (after_due p (due.Own b)) × Ruled (world_of (after_due p (due.Own b)))

-- So is a play of few nodes that was only opened, without commands.
abbrev pub OpenedPlayOn : Type 0
OpenedPlayOn = (nodes seed : ℕ) → nodes ≤ MAX_NODES → PlayedOn (opened nodes seed) (λ b. [])

-- It stays so where a command joins the queue of its block that fits those before it, and writes bytes, if it writes.
abbrev pub CommandsJoinOn : Type 0
CommandsJoinOn = (p : PlayState) (commands : ℕ → List Command) (b : ℕ) (c : Command) → PlayedOn p commands →
    WritesBytes (c ∷ []) →
    QueueFits (world_of p).nodes ((world_of p).writers b).known.intake (ordered_queue p b c)
    → PlayedOn (ordered p b c) (add commands b (c ∷ []))
