-- What a line that asks to read makes of a play.
use Rattle.std.specs.Prelude.{◌≡◌, ◌<◌, ℕ, slice_get, Some, Result, Ok, Err}
use Rattle.hd_base.specs.declared.files.Files as files
use Rattle.hd_base.specs.declared.links.LinkIn as link_in
use Rattle.hd_base.specs.declared.links.LinkOut as link_out
use Rattle.hd_base.specs.declared.numbers.BlockId.{BlockId}
use Rattle.hd_base.specs.declared.numbers.NodeId.{NodeId}
use Rattle.hd_base.specs.declared.roads.Roads as roads
use Rattle.name_core.specs.Offices.{committed_in}
use Rattle.play_model.specs.declared.asks.ReadAsk.{ReadAsk}
use Rattle.play_model.specs.States.{PlayState, asked}
use Rattle.play_opening.specs.PlayReads.Joining.{HasJoined}
use Rattle.play_opening.specs.Play.PlayFault.{PlayFault}
use Rattle.play_opening.specs.Play.PlayFault.TheVariants as fault
use Rattle.play_opening.specs.Play.Events.{FilesTell}
use Rattle.play_opening.specs.Play.Standing.{AskFits}
use Rattle.play_lines.specs.declared.playing.Playing.{Playing}
use Rattle.play_lines.specs.Drawing.{IsLeft}
use Rattle.play_lines.specs.Showing.{PlayIs}

-- what the line of this number asks in a play: under the stamp that the office has committed
abbrev pub ask_in : {F I O : Type 0} → Playing F I O → ℕ → BlockId → NodeId → ℕ → ℕ → ReadAsk
ask_in x number block node offset count = record {
  reader = number;
  node = node;
  block = block;
  stamp = committed_in x.player.office.office block;
  offset = offset;
  len = count;
}

-- A reading client that asks this stands behind the others, and all else is as it was.
pub record HasAsked {F I O : Type 0} (i : link_in.Ghosts I) (o : link_out.Ghosts O) (ask : ReadAsk)
    (old new : Playing F I O) : Type 0 where
  pub same : new ≡ record old { player = record old.player { reads = new.player.reads } }
  pub joined : HasJoined i o ask old.player.reads new.player.reads

-- So it does, or memory ran out.
abbrev pub Asks : {F I O : Type 0} → link_in.Ghosts I → link_out.Ghosts O → ReadAsk → Playing F I O → Playing F I O →
    Result (Unit {0}) PlayFault → Type 0
Asks i o ask old new (Ok u) = HasAsked i o ask old new
Asks i o ask old new (Err why) = why ≡ fault.Memory

-- So what is left is the play in which this was asked, of files that are told, where all other readers' numbers are
-- below that of the new one.
abbrev pub AsksArePlays : {F R I O : Type 0} → files.Ghosts F → roads.Ghosts R I O → link_in.Ghosts I →
    link_out.Ghosts O → Type 0
AsksArePlays {F} {R} {I} {O} f r i o =
    (old new : Playing F I O) (ask : ReadAsk) (p : PlayState) (road : R) → HasAsked i o ask old new →
    PlayIs f r i o p road old → FilesTell f → AskFits p.nodes old.player.nodes.blocks.items ask →
    ((k : ℕ) (other : ReadAsk) → slice_get p.asks k ≡ Some other → other.reader < ask.reader)
    → IsLeft f r i o (asked p ask) old new road
