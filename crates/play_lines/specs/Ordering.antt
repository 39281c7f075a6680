-- What a command makes of a play.
use Rattle.std.specs.Prelude.{◌≡◌, ◌++◌, ℕ, [], ◌∷◌, slice_get, slice_set, Option, Some, None, Result, Ok, Err}
use Rattle.hd_base.specs.declared.files.Files as files
use Rattle.hd_base.specs.declared.links.LinkIn as link_in
use Rattle.hd_base.specs.declared.links.LinkOut as link_out
use Rattle.hd_base.specs.declared.numbers.BlockId.{BlockId}
use Rattle.hd_base.specs.declared.roads.Roads as roads
use Rattle.writer_core.specs.declared.commands.Command.{Command}
use Rattle.play_model.specs.States.{PlayState, ordered}
use Rattle.play_opening.specs.PlayClients.Client.{Client}
use Rattle.play_opening.specs.PlayDues.Places.{client_place}
use Rattle.play_opening.specs.Play.PlayFault.{PlayFault}
use Rattle.play_opening.specs.Play.PlayFault.TheVariants as fault
use Rattle.play_scripts.specs.PlayLaws.Commands.{CommandFits}
use Rattle.play_lines.specs.declared.playing.Playing.{Playing}
use Rattle.play_lines.specs.Drawing.{IsLeft}
use Rattle.play_lines.specs.Showing.{PlayIs, given_in}

-- The client at a place has the command behind those of its queue, with its rule, and all else is as it was.
pub record IsOrdered {F I O : Type 0} (block : BlockId) (c : Command) (place : ℕ) (old new : Playing F I O) : Type 0 where
  pub was : Client I O
  pub now : Client I O
  pub at : slice_get old.player.clients.items place ≡ Some was
  pub block_is : was.block ≡ block
  pub same : new ≡ record old { player = record old.player { clients = new.player.clients } }
  pub set : new.player.clients.items ≡ slice_set old.player.clients.items place now
  pub rest : now ≡ record was { queue = now.queue }
  pub queue : now.queue.items ≡ was.queue.items ++ record { command = c; rule = was.rule } ∷ []

abbrev pub OrdersAt : {F I O : Type 0} → BlockId → Command → Option ℕ → Playing F I O → Playing F I O →
    Result (Unit {0}) PlayFault → Type 0
OrdersAt block c None old new result = (new ≡ old) × (result ≡ Ok tt)
OrdersAt block c (Some place) old new (Ok u) = IsOrdered block c place old new
OrdersAt block c (Some place) old new (Err why) = why ≡ fault.Memory

-- The client of the block has the command, if the block has one.
abbrev pub Orders : {F I O : Type 0} → BlockId → Command → Playing F I O → Playing F I O → Result (Unit {0}) PlayFault →
    Type 0
Orders block c old new result = OrdersAt block c (client_place old.player.clients.items block.0) old new result

-- So what is left is the play with the command, where this fits those before it.
abbrev pub OrdersArePlays : {F R I O : Type 0} → files.Ghosts F → roads.Ghosts R I O → link_in.Ghosts I →
    link_out.Ghosts O → Type 0
OrdersArePlays {F} {R} {I} {O} f r i o =
    (old new : Playing F I O) (block : BlockId) (c : Command) (place : ℕ) (p : PlayState) (road : R) →
    IsOrdered block c place old new → PlayIs f r i o p road old →
    CommandFits p.nodes (given_in p block.0) (record { command = c; rule = p.rules block.0 })
    → IsLeft f r i o (ordered p block.0 c) old new road
