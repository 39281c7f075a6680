-- What a draw makes of a play.
use Rattle.std.specs.Prelude.{◌≡◌, ◌<◌, ℕ, Bool, List, is_some, slice_get, Some, Result, Ok, Err}
use Rattle.hd_base.specs.declared.files.Files as files
use Rattle.hd_base.specs.declared.links.LinkIn as link_in
use Rattle.hd_base.specs.declared.links.LinkOut as link_out
use Rattle.hd_base.specs.declared.numbers.NodeId.{NodeId}
use Rattle.hd_base.specs.declared.roads.Roads as roads
use Rattle.play_opening.specs.ReplicaFiles.BookState.{BookState}
use Rattle.play_model.specs.Draws.{draw, draws, Settles}
use Rattle.play_model.specs.Dues.{dues}
use Rattle.play_model.specs.States.{PlayState}
use Rattle.play_opening.specs.PlayClients.Blocks.{blocks_of}
use Rattle.play_opening.specs.PlayDues.Showing.{HasClient}
use Rattle.play_scripts.specs.PlayNodes.Nodes.{Nodes}
use Rattle.play_scripts.specs.PlayNodes.Places.{book_at}
use Rattle.play_opening.specs.Play.PlayFault.{PlayFault}
use Rattle.play_opening.specs.Play.PlayFault.TheVariants as fault
use Rattle.hd_base.specs.RoadFaults.{RoadsFailed}
use Rattle.play_lines.specs.declared.playing.Playing.{Playing}
use Rattle.play_lines.specs.Showing.{PlayIs, given_in}

-- FAULTS

-- Calls on the files of a book of the node have failed: the count of its drawer isn't 0, as it is in the beginning.
pub record HasFailed {F I O : Type 0} (f : files.Ghosts F) (n : Nodes F I O) (node : NodeId) : Type 0 where
  pub place : ℕ
  pub book : BookState F
  pub at_place : book_at n.nodes.items node.0 place ≡ Some book
  pub failed : 0 < f.faults book.drawer

-- Each fault has its cause.
abbrev pub IsCaused : {F R I O : Type 0} → files.Ghosts F → roads.Ghosts R I O → Playing F I O → R → R → PlayFault →
    Type 0
IsCaused f r new road road' fault.RoadFault = RoadsFailed r road road'
IsCaused f r new road road' (fault.ShelfFault node) = HasFailed f new.player.nodes node
IsCaused f r new road road' fault.Memory = Unit {0}

-- DRAWS

-- the blocks of the clients
abbrev pub blocks_in : {F I O : Type 0} → Playing F I O → List ℕ
blocks_in x = blocks_of x.player.clients.items

-- What is left is this play, with the same blocks.
pub record IsLeft {F R I O : Type 0} (f : files.Ghosts F) (r : roads.Ghosts R I O) (i : link_in.Ghosts I)
    (o : link_out.Ghosts O) (p : PlayState) (old new : Playing F I O) (road : R) : Type 0 where
  pub is : PlayIs f r i o p road new
  pub blocks : blocks_in new ≡ blocks_in old

-- What was drawn leaves another play, in which what each client's writer was given, with what is queued for it, is as
-- before.
pub record IsDrawn {F R I O : Type 0} (f : files.Ghosts F) (r : roads.Ghosts R I O) (i : link_in.Ghosts I)
    (o : link_out.Ghosts O) (p after : PlayState) (old new : Playing F I O) (road : R) : Type 0 where
  pub is : PlayIs f r i o after road new
  pub blocks : blocks_in new ≡ blocks_in old
  pub given : (b : ℕ) → HasClient old.player.clients.items b → given_in after b ≡ given_in p b

abbrev pub DrawEnds : {F R I O : Type 0} → files.Ghosts F → roads.Ghosts R I O → link_in.Ghosts I → link_out.Ghosts O →
    PlayState → Playing F I O → Playing F I O → R → R → Result Bool PlayFault → Type 0
DrawEnds f r i o p old new road road' (Ok more) =
    IsDrawn f r i o p (draw (blocks_in old) p) old new road' × (more ≡ is_some (slice_get (dues (blocks_in old) p) 0))
DrawEnds f r i o p old new road road' (Err why) = IsCaused f r new road road' why

abbrev pub DrawShows : {F R I O : Type 0} → files.Ghosts F → roads.Ghosts R I O → link_in.Ghosts I →
    link_out.Ghosts O → Playing F I O → Playing F I O → R → R → Result Bool PlayFault → Type 0
DrawShows f r i o old new road road' result =
    (p : PlayState) → PlayIs f r i o p road old → DrawEnds f r i o p old new road road' result

-- MORE DRAWS

-- What is left is the play after up to so many draws.
abbrev pub RunEnds : {F R I O : Type 0} → files.Ghosts F → roads.Ghosts R I O → link_in.Ghosts I → link_out.Ghosts O →
    ℕ → PlayState → Playing F I O → Playing F I O → R → R → Result (Unit {0}) PlayFault → Type 0
RunEnds f r i o count p old new road road' (Ok u) =
    IsDrawn f r i o p (draws (blocks_in old) count p) old new road'
RunEnds f r i o count p old new road road' (Err why) = IsCaused f r new road road' why

abbrev pub RunShows : {F R I O : Type 0} → files.Ghosts F → roads.Ghosts R I O → link_in.Ghosts I → link_out.Ghosts O →
    ℕ → Playing F I O → Playing F I O → R → R → Result (Unit {0}) PlayFault → Type 0
RunShows f r i o count old new road road' result =
    (p : PlayState) → PlayIs f r i o p road old → RunEnds f r i o count p old new road road' result

-- What is left is the play that settled, in which nothing is due.
pub record HasSettled {F R I O : Type 0} (f : files.Ghosts F) (r : roads.Ghosts R I O) (i : link_in.Ghosts I)
    (o : link_out.Ghosts O) (p : PlayState) (old new : Playing F I O) (road : R) : Type 0 where
  pub after : PlayState
  pub settles : Settles (blocks_in old) p after
  pub left : IsDrawn f r i o p after old new road

abbrev pub SettleEnds : {F R I O : Type 0} → files.Ghosts F → roads.Ghosts R I O → link_in.Ghosts I →
    link_out.Ghosts O → PlayState → Playing F I O → Playing F I O → R → R → Result (Unit {0}) PlayFault → Type 0
SettleEnds f r i o p old new road road' (Ok u) = HasSettled f r i o p old new road'
SettleEnds f r i o p old new road road' (Err why) = IsCaused f r new road road' why

abbrev pub SettleShows : {F R I O : Type 0} → files.Ghosts F → roads.Ghosts R I O → link_in.Ghosts I →
    link_out.Ghosts O → Playing F I O → Playing F I O → R → R → Result (Unit {0}) PlayFault → Type 0
SettleShows f r i o old new road road' result =
    (p : PlayState) → PlayIs f r i o p road old → SettleEnds f r i o p old new road road' result
