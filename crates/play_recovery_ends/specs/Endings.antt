-- At the end of a play each of its block recoveries has a result, but where its node stopped, or didn't run.
use Rattle.std.specs.Prelude.{ℕ, ◌≡◌, ◌⊎◌, false, List, [], ◌∷◌, ◌++◌}
use Rattle.hd_base.specs.declared.numbers.BlockId.{BlockId}
use Rattle.hd_base.specs.declared.numbers.NodeId.{NodeId}
use Rattle.world.specs.RecoveryCore.Recovered.{Recovered}
use Rattle.script_lang.specs.declared.instructions.Instruction.TheVariants as says
use Rattle.script_lang.specs.declared.instructions.ScriptLine.{ScriptLine}
use Rattle.world.specs.declared.events.Event.{Event}
use Rattle.world.specs.declared.events.Event.TheVariants as event
use Rattle.world.specs.Parts.{Leading, no_primary, leads, has_led}
use Rattle.world.specs.Safe.{Has}
use Rattle.play_model.specs.Lines.{PlaysLine, Plays, blocks_of}
use Rattle.play_model.specs.States.{PlayState, world_of, opened}
use Rattle.play_scripts.specs.Fitting.{ScriptFits}
use Rattle.play_scripts.specs.Recoveries.{recovery_numbers}
use Rattle.world_recovery_ends.specs.Stopping.{HasStopped}

-- WHERE A LINE IS TAKEN

-- These lines, one after the other, make the one play of the other; behind the last one nothing need be settled.
abbrev pub PlaysTo : List ℕ → List ScriptLine → PlayState → PlayState → Type 0
PlaysTo blocks [] old new = new ≡ old
PlaysTo blocks (l ∷ lines) old new = (middle : PlayState) ×
    (PlaysLine blocks l.number l.instruction old middle × PlaysTo blocks lines middle new)

-- The script gives so many nodes and the seed, and then it has a line of this number that is to recover a block at this
-- node; the lines between them make this play.
pub record IsTaken (script : List ScriptLine) (number : ℕ) (node : NodeId) (p : PlayState) : Type 0 where
  pub first : ScriptLine
  pub second : ScriptLine
  pub front : List ScriptLine
  pub line : ScriptLine
  pub rest : List ScriptLine
  pub parts : script ≡ first ∷ second ∷ (front ++ line ∷ rest)
  pub count : ℕ
  pub nodes_are : first.instruction ≡ says.Nodes count
  pub seed : ℕ
  pub seed_is : second.instruction ≡ says.Seed seed
  pub came : PlaysTo (blocks_of (front ++ line ∷ rest)) front (opened count seed) p
  pub number_is : line.number ≡ number
  pub block : BlockId
  pub members : List NodeId
  pub says_so : line.instruction ≡ says.Recover block node members

-- WHAT A RECOVERY COMES TO

-- A line of this number that recovers, the play that came to it, and what has happened since.
pub record TakenLine (script : List ScriptLine) (end : PlayState) (i : ℕ) : Type 0 where
  pub node : NodeId
  pub taken : PlayState
  pub is_taken : IsTaken script i node taken
  pub since : List Event
  pub joins : taken.events ++ since ≡ end.events

-- The primary led at the line's node, and that has stopped since, while the primary led.
pub record WasStopped (script : List ScriptLine) (end : PlayState) (i : ℕ) (l : Leading) : Type 0 where
  pub line : TakenLine script end i
  pub there : l.at.node ≡ line.node.0
  pub stops : Has line.since (event.Stop line.node)
  pub leading : HasStopped end.nodes end.events i l

-- The line's node didn't run when the line was taken, or has stopped since.
pub record NeverBegan (script : List ScriptLine) (end : PlayState) (i : ℕ) : Type 0 where
  pub line : TakenLine script end i
  pub idle : ((world_of line.taken).running line.node.0 ≡ false) ⊎ Has line.since (event.Stop line.node)

-- The primary of this number has a result; or was stopped; or never began.
pub data RecoveryEnds (script : List ScriptLine) (end : PlayState) (i : ℕ) : Type 0 where
  result : (r : Recovered) → (world_of end).primaries i ≡ has_led r → RecoveryEnds script end i
  stopped : (l : Leading) → (world_of end).primaries i ≡ leads l → WasStopped script end i l →
      RecoveryEnds script end i
  unbegun : (world_of end).primaries i ≡ no_primary → NeverBegan script end i → RecoveryEnds script end i

-- So it is of the primary of each line that recovers, at an end of the play of a script that fits.
abbrev pub PlaysEndTheirRecoveries : Type 0
PlaysEndTheirRecoveries = (shelves : ℕ) (script : List ScriptLine) (end : PlayState) (i : ℕ) →
    ScriptFits shelves script → Plays script end → Has (recovery_numbers script) i
    → RecoveryEnds script end i
