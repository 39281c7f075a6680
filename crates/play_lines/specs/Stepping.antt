-- One event of a block's pipeline.
use Rattle.std.specs.Prelude.{◌≡◌, ℕ, List, Option, Some, None, option_map, Result, Ok, Err}
use Rattle.hd_base.specs.declared.files.Files as files
use Rattle.hd_base.specs.declared.links.LinkIn as link_in
use Rattle.hd_base.specs.declared.links.LinkOut as link_out
use Rattle.hd_base.specs.declared.numbers.BlockId.{BlockId}
use Rattle.hd_base.specs.declared.roads.Roads as roads
use Rattle.script_lang.specs.declared.instructions.StepEvent.{StepEvent}
use Rattle.script_lang.specs.declared.instructions.StepEvent.TheVariants as step
use Rattle.play_model.specs.declared.dues.Due.{Due}
use Rattle.play_model.specs.declared.dues.Due.TheVariants as due
use Rattle.play_model.specs.Lines.{step_due, stepped}
use Rattle.play_model.specs.States.{PlayState, world_of}
use Rattle.play_scripts.specs.PlayNodes.Connection.{Connection}
use Rattle.play_opening.specs.PlayDues.Places.{client_place}
use Rattle.play_opening.specs.PlayDues.Showing.{HasClient}
use Rattle.play_opening.specs.Play.PlayFault.{PlayFault}
use Rattle.play_lines.specs.declared.playing.Playing.{Playing}
use Rattle.play_lines.specs.Drawing.{IsCaused, IsDrawn}
use Rattle.play_lines.specs.Pipelines.{pipeline_at}
use Rattle.play_lines.specs.Showing.{PlayIs}

-- EVENTS

-- what an event of the present pipeline of a block is, where the pipeline has that connection
abbrev pub due_behind : {I O : Type 0} → List (Connection I O) → BlockId → StepEvent → Option Due
due_behind conns block step.Writer = Some (due.Own block)
due_behind conns block (step.Down place) =
    option_map (λ c. due.Down (record { 0 = c })) (pipeline_at conns block.0 place)
due_behind conns block (step.Ready place) =
    option_map (λ c. due.Ready (record { 0 = c })) (pipeline_at conns block.0 place)
due_behind conns block (step.Up place) = option_map (λ c. due.Up (record { 0 = c })) (pipeline_at conns block.0 place)

-- the same, where the client of the block stands at a place; nothing where the block has none
abbrev pub due_where : {I O : Type 0} → Option ℕ → List (Connection I O) → BlockId → StepEvent → Option Due
due_where None conns block event = None
due_where (Some place) conns block event = due_behind conns block event

abbrev pub due_for : {F I O : Type 0} → Playing F I O → BlockId → StepEvent → Option Due
due_for x block event =
    due_where (client_place x.player.clients.items block.0) x.player.nodes.connections.items block event

-- STEPS

-- What is left is the play after the event, where it was due.
abbrev pub StepEnds : {F R I O : Type 0} → files.Ghosts F → roads.Ghosts R I O → link_in.Ghosts I → link_out.Ghosts O →
    BlockId → StepEvent → PlayState → Playing F I O → Playing F I O → R → R → Result (Unit {0}) PlayFault → Type 0
StepEnds f r i o block event p old new road road' (Ok u) =
    IsDrawn f r i o p (stepped p (step_due (world_of p) block.0 event)) old new road'
StepEnds f r i o block event p old new road road' (Err why) = IsCaused f r new road road' why

-- So it is of each block that has a client.
abbrev pub StepShows : {F R I O : Type 0} → files.Ghosts F → roads.Ghosts R I O → link_in.Ghosts I → link_out.Ghosts O →
    BlockId → StepEvent → Playing F I O → Playing F I O → R → R → Result (Unit {0}) PlayFault → Type 0
StepShows f r i o block event old new road road' result =
    (p : PlayState) → PlayIs f r i o p road old → HasClient old.player.clients.items block.0
    → StepEnds f r i o block event p old new road road' result

-- Nothing was done.
pub record IsUndone {F R I O : Type 0} (old new : Playing F I O) (road road' : R)
    (result : Result (Unit {0}) PlayFault) : Type 0 where
  pub ends : result ≡ Ok tt
  pub same : new ≡ old
  pub roads_same : road' ≡ road

-- Nothing is done where the block has no client.
abbrev pub StaysAlone : {F R I O : Type 0} → BlockId → Playing F I O → Playing F I O → R → R →
    Result (Unit {0}) PlayFault → Type 0
StaysAlone block old new road road' result =
    client_place old.player.clients.items block.0 ≡ None → IsUndone old new road road' result
