-- The play of a script is opened.
use Rattle.std.specs.Prelude.{◌≡◌, ◌≤◌, ℕ, List, ◌∷◌, length, replicate}
use Rattle.hd_base.specs.declared.files.Files as files
use Rattle.hd_base.specs.declared.links.LinkIn as link_in
use Rattle.hd_base.specs.declared.links.LinkOut as link_out
use Rattle.hd_base.specs.declared.roads.Roads as roads
use Rattle.hd_base.specs.declared.roads.TheConstants.{MAX_NODES}
use Rattle.hd_base.specs.declared.shelves.Shelf as shelves
use Rattle.script_lang.specs.declared.instructions.Instruction.TheVariants as says
use Rattle.script_lang.specs.declared.instructions.ScriptLine.{ScriptLine}
use Rattle.script_lang.specs.Grammar.{numbered}
use Rattle.writer_core.specs.declared.intake.TheConstants.{MAX_COMMANDS}
use Rattle.play_report.specs.NodeOpening.Shelves.{AreDistinct}
use Rattle.completing_lines.specs.Play.Events as events
use Rattle.play_model.specs.States.{PlayState, opened}
use Rattle.completing_lines.specs.PlayOpening.Opening.{IsOpenedPlay}
use Rattle.play_report.specs.PlayScripts.Head.{Head}
use Rattle.play_report.specs.PlayScripts.Blocks.{AreBlocks}
use Rattle.play_report.specs.PlayScripts.Numbering.{LinesAscend}
use Rattle.play_report.specs.PlayScripts.Fitting.{LinesFit, begun}
use Rattle.completing_lines.specs.PlayLines.Playing.{Playing}
use Rattle.completing_lines.specs.PlayLines.Lines.{CanPlay}
use Rattle.completing_lines.specs.PlayLines.Showing.{PlayIs}

-- HEADS

-- The script has this head, and this body behind it.
pub record HasHead (head : Head) (body script : List ScriptLine) : Type 0 where
  pub first : ℕ
  pub second : ℕ
  pub parts : script ≡ numbered first (says.Nodes head.nodes) ∷ numbered second (says.Seed head.seed) ∷ body

-- The head gives as many nodes as there are shelves, for which there are ports, and the lines behind it, which are few,
-- fit, and their numbers ascend.
pub record HeadFits (shelves : ℕ) (head : Head) (lines : List ScriptLine) : Type 0 where
  pub nodes : head.nodes ≡ shelves
  pub few : shelves ≤ MAX_NODES
  pub fit : LinesFit (begun head.nodes head.seed) lines
  pub count : length lines ≤ MAX_COMMANDS
  pub ascend : LinesAscend 0 lines

-- PLAYS

-- the numbers of so many nodes, at none of which a write is to fail
abbrev pub HaveNoFaults : ℕ → List ℕ → Type 0
HaveNoFaults nodes numbers = numbers ≡ replicate nodes 0

-- the play before the first line behind the head
abbrev pub first_of : Head → PlayState
first_of head = opened head.nodes head.seed

-- The play is the model's before the first line behind the head, its blocks are those that the lines create, and it can
-- play them.
pub record Begins {F R I O : Type 0} (f : files.Ghosts F) (r : roads.Ghosts R I O) (i : link_in.Ghosts I)
    (o : link_out.Ghosts O) (head : Head) (lines : List ScriptLine) (road : R) (x : Playing F I O) : Type 0 where
  pub are : AreBlocks lines x.player.nodes.blocks.items
  pub clients : events.blocks_of x.player.clients.items ≡ x.player.nodes.blocks.items
  pub is : PlayIs f r i o (first_of head) road x
  pub can : CanPlay lines (begun head.nodes head.seed) 0 (first_of head) x

-- Its shelves have lent the files of its blocks, each of which stands once.
pub record HasOpened {S D I O : Type 0} (s : shelves.Ghosts S D) (d : files.Ghosts D) (old new : List S)
    (x : Playing D I O) : Type 0 where
  pub distinct : AreDistinct x.player.nodes.blocks.items
  pub opened_so : IsOpenedPlay s d x.player.nodes.blocks.items old new x.player
