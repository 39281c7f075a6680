-- What the lines of a script make of a play.
use Rattle.std.specs.Prelude.{◌≡◌, ◌<◌, ◌≤◌, ◌+◌, ◌||◌, ℕ, suc, Bool, true, false, List, [], ◌∷◌, length, slice_get, Option, Some, None, Result, Ok, Err}
use Rattle.hd_base.specs.declared.files.Files as files
use Rattle.hd_base.specs.declared.links.LinkIn as link_in
use Rattle.hd_base.specs.declared.links.LinkOut as link_out
use Rattle.hd_base.specs.declared.roads.Roads as roads
use Rattle.hd_base.specs.declared.shelves.Shelf as shelves
use Rattle.hd_base.specs.SumRules.{IsChunkSize}
use Rattle.script_lang.specs.declared.instructions.Instruction.{Instruction}
use Rattle.script_lang.specs.declared.instructions.Instruction.TheVariants as says
use Rattle.script_lang.specs.declared.instructions.ScriptLine.{ScriptLine}
use Rattle.script_lang.specs.Fits.{Before, is_open, is_closed, is_created, most_bytes, after}
use Rattle.writer_core.specs.declared.commands.Command.TheVariants as command
use Rattle.writer_core.specs.declared.intake.Intake.{Intake}
use Rattle.writer_core.specs.declared.intake.Stand.{Stand}
use Rattle.writer_core.specs.declared.intake.Stand.TheVariants as stand
use Rattle.writer_core.specs.declared.intake.TheConstants.{MAX_COMMANDS}
use Rattle.play_model.specs.Lines.{PlaysLine, PlaysLines}
use Rattle.play_model.specs.States.{PlayState}
use Rattle.play_model.specs.declared.asks.ReadAsk.{ReadAsk}
use Rattle.play_model.specs.declared.recoveries.Recovery.{Recovery}
use Rattle.play_scripts.specs.Numbering.{LinesAscend}
use Rattle.play_scripts.specs.Fitting.{LineFits, LinesFit}
use Rattle.play_opening.specs.PlayDues.Showing.{HasClient}
use Rattle.play_opening.specs.Play.PlayFault.{PlayFault}
use Rattle.play_lines.specs.declared.lines.Ordered.{Ordered}
use Rattle.play_lines.specs.declared.playing.Playing.{Playing}
use Rattle.play_lines.specs.Drawing.{IsCaused, blocks_in}
use Rattle.play_lines.specs.Shelves.{IsLineFault}
use Rattle.play_lines.specs.Showing.{PlayIs, given_in}

-- COMMANDS

-- the command of a line, and its block
abbrev pub ordered_by : Instruction → Option Ordered
ordered_by (says.Create b members) = Some (record { block = b; command = command.Create members })
ordered_by (says.Append b members) = Some (record { block = b; command = command.Append members })
ordered_by (says.Write b bytes) = Some (record { block = b; command = command.Write bytes })
ordered_by (says.Fill b count) = Some (record { block = b; command = command.Fill count })
ordered_by (says.Hflush b) = Some (record { block = b; command = command.Hflush })
ordered_by (says.Hsync b) = Some (record { block = b; command = command.Hsync })
ordered_by (says.Close b) = Some (record { block = b; command = command.Close })
ordered_by other = None

-- THE LINES BEFORE

-- Where the lines of a block leave what its writer was given.
pub record StandIs (before : Before) (b : ℕ) (s : Stand) : Type 0 where
  pub unmade : is_created (before.stage b) ≡ false → s ≡ stand.Unmade
  pub open_is : is_open (before.stage b) ≡ true → s ≡ stand.Open
  pub closed : is_closed (before.stage b) ≡ true → s ≡ stand.Closed

-- What the writer of a block was given is what the lines before tell, so many.
pub record GivenIs (before : Before) (lines b : ℕ) (i : Intake) : Type 0 where
  pub stand : StandIs before b i.stand
  pub bytes : i.bytes ≤ before.written
  pub commands : i.commands ≤ lines

-- whether the lines before create a block: one that is open or closed was created
abbrev pub is_made : Before → ℕ → Bool
is_made before b = is_created (before.stage b) || (is_open (before.stage b) || is_closed (before.stage b))

-- The play stands behind lines, so many, that tell this: each block that was created has a client, and each client was
-- given what they tell.
pub record IsBehind {F I O : Type 0} (before : Before) (lines : ℕ) (p : PlayState) (x : Playing F I O) : Type 0 where
  pub nodes : before.nodes ≡ p.nodes
  pub written : before.written ≤ most_bytes
  pub chunks : (b : ℕ) → IsChunkSize (p.rules b).chunk
  pub clients : (b : ℕ) → is_made before b ≡ true → HasClient x.player.clients.items b
  pub given : (b : ℕ) → HasClient x.player.clients.items b → GivenIs before lines b (given_in p b)

-- a block that the line creates has a client
abbrev pub CreatesHere : {F I O : Type 0} → Playing F I O → Instruction → Type 0
CreatesHere x (says.Create b members) = HasClient x.player.clients.items b.0
CreatesHere x other = Unit {0}

-- The readers that ask this, and the primaries that recover this, have numbers below this one.
pub record AreBelow (number : ℕ) (asks : List ReadAsk) (recoveries : List Recovery) : Type 0 where
  pub reads : (k : ℕ) (ask : ReadAsk) → slice_get asks k ≡ Some ask → ask.reader < number
  pub recovers : (k : ℕ) (rec : Recovery) → slice_get recoveries k ≡ Some rec → rec.primary < number

-- What was asked so far, to read and to recover, was asked by lines below this number.
abbrev pub AsksBelow : ℕ → PlayState → Type 0
AsksBelow number p = AreBelow number p.asks p.recoveries

-- ONE LINE

-- What is left is the play after the line, which has this number, of as many nodes, and stands behind it.
pub record LineLeft {F R I O : Type 0} (f : files.Ghosts F) (r : roads.Ghosts R I O) (i : link_in.Ghosts I)
    (o : link_out.Ghosts O) (number : ℕ) (line : Instruction) (before : Before) (lines : ℕ) (p : PlayState)
    (old new : Playing F I O) (road : R) : Type 0 where
  pub left : PlayState
  pub plays : PlaysLine (blocks_in old) number line p left
  pub nodes : left.nodes ≡ p.nodes
  pub is : PlayIs f r i o left road new
  pub blocks : blocks_in new ≡ blocks_in old
  pub behind : IsBehind (after before line) (suc lines) left new
  pub asked : AsksBelow (number + 1) left

abbrev pub LineEnds : {F R I O : Type 0} → files.Ghosts F → roads.Ghosts R I O → link_in.Ghosts I → link_out.Ghosts O →
    ℕ → Instruction → Before → ℕ → PlayState → Playing F I O → Playing F I O → R → R → Result (Unit {0}) PlayFault →
    Type 0
LineEnds f r i o number line before lines p old new road road' (Ok u) =
    LineLeft f r i o number line before lines p old new road'
LineEnds f r i o number line before lines p old new road road' (Err why) = IsCaused f r new road road' why

-- A line that fits, and neither starts a node, nor makes a write fail, nor asks to read or to recover, is played,
-- whatever its number.
abbrev pub LineShows : {F R I O : Type 0} → files.Ghosts F → roads.Ghosts R I O → link_in.Ghosts I → link_out.Ghosts O →
    Instruction → Playing F I O → Playing F I O → R → R → Result (Unit {0}) PlayFault → Type 0
LineShows f r i o line old new road road' result = (number : ℕ) (before : Before) (lines : ℕ) (p : PlayState) →
    PlayIs f r i o p road old → IsBehind before lines p old → AsksBelow number p → LineFits before line →
    CreatesHere old line → lines < MAX_COMMANDS
    → LineEnds f r i o number line before lines p old new road road' result

abbrev pub LineEndsOver : {S F R I O : Type 0} → shelves.Ghosts S F → files.Ghosts F → roads.Ghosts R I O →
    link_in.Ghosts I → link_out.Ghosts O → ScriptLine → Before → ℕ → PlayState → List S → List S → Playing F I O →
    Playing F I O → R → R → Result (Unit {0}) PlayFault → Type 0
LineEndsOver s f r i o l before lines p shelves shelves' old new road road' (Ok u) =
    LineLeft f r i o l.number l.instruction before lines p old new road'
LineEndsOver s f r i o l before lines p shelves shelves' old new road road' (Err why) =
    IsLineFault s f r shelves shelves' new road road' why

-- A line that fits is played, where there is a shelf for each node.
abbrev pub LineShowsOver : {S F R I O : Type 0} → shelves.Ghosts S F → files.Ghosts F → roads.Ghosts R I O →
    link_in.Ghosts I → link_out.Ghosts O → ScriptLine → List S → List S → Playing F I O → Playing F I O → R → R →
    Result (Unit {0}) PlayFault → Type 0
LineShowsOver s f r i o l shelves shelves' old new road road' result = (before : Before) (lines : ℕ) (p : PlayState) →
    PlayIs f r i o p road old → IsBehind before lines p old → AsksBelow l.number p →
    LineFits before l.instruction → CreatesHere old l.instruction → lines < MAX_COMMANDS → length shelves ≡ p.nodes
    → LineEndsOver s f r i o l before lines p shelves shelves' old new road road' result

-- ALL LINES

-- What is left is the play in which the lines were played and that settled.
pub record LinesLeft {F R I O : Type 0} (f : files.Ghosts F) (r : roads.Ghosts R I O) (i : link_in.Ghosts I)
    (o : link_out.Ghosts O) (lines : List ScriptLine) (p : PlayState) (old new : Playing F I O) (road : R) : Type 0 where
  pub left : PlayState
  pub plays : PlaysLines (blocks_in old) lines p left
  pub is : PlayIs f r i o left road new
  pub blocks : blocks_in new ≡ blocks_in old

abbrev pub LinesEnd : {S F R I O : Type 0} → shelves.Ghosts S F → files.Ghosts F → roads.Ghosts R I O →
    link_in.Ghosts I → link_out.Ghosts O → List ScriptLine → PlayState → List S → List S → Playing F I O →
    Playing F I O → R → R → Result (Unit {0}) PlayFault → Type 0
LinesEnd s f r i o lines p shelves shelves' old new road road' (Ok u) = LinesLeft f r i o lines p old new road'
LinesEnd s f r i o lines p shelves shelves' old new road road' (Err why) =
    IsLineFault s f r shelves shelves' new road road' why

-- each block that one of the lines creates has a client
abbrev pub AllCreateHere : {F I O : Type 0} → Playing F I O → List ScriptLine → Type 0
AllCreateHere x [] = Unit {0}
AllCreateHere x (l ∷ lines) = CreatesHere x l.instruction × AllCreateHere x lines

-- The play stands behind lines, so many, and these fit them: each block that they create has a client, and their
-- numbers ascend, above those of the lines that asked to read or to recover.
pub record CanPlay {F I O : Type 0} (lines : List ScriptLine) (before : Before) (count : ℕ) (p : PlayState)
    (x : Playing F I O) : Type 0 where
  pub behind : IsBehind before count p x
  pub fit : LinesFit before lines
  pub here : AllCreateHere x lines
  pub few : count + length lines ≤ MAX_COMMANDS
  pub least : ℕ
  pub ascend : LinesAscend least lines
  pub asked : AsksBelow least p

-- Some play does, which has as many nodes as there are shelves.
pub record IsReady {F R I O : Type 0} (f : files.Ghosts F) (r : roads.Ghosts R I O) (i : link_in.Ghosts I)
    (o : link_out.Ghosts O) (lines : List ScriptLine) (shelves : ℕ) (road : R) (x : Playing F I O) : Type 0 where
  pub p : PlayState
  pub is : PlayIs f r i o p road x
  pub before : Before
  pub count : ℕ
  pub can : CanPlay lines before count p x
  pub shelved : shelves ≡ p.nodes

-- The lines are played, and then it settles, where there is a shelf for each node.
abbrev pub LinesShow : {S F R I O : Type 0} → shelves.Ghosts S F → files.Ghosts F → roads.Ghosts R I O →
    link_in.Ghosts I → link_out.Ghosts O → List ScriptLine → List S → List S → Playing F I O → Playing F I O → R → R →
    Result (Unit {0}) PlayFault → Type 0
LinesShow s f r i o lines shelves shelves' old new road road' result = (before : Before) (count : ℕ) (p : PlayState) →
    PlayIs f r i o p road old → CanPlay lines before count p old → length shelves ≡ p.nodes
    → LinesEnd s f r i o lines p shelves shelves' old new road road' result
