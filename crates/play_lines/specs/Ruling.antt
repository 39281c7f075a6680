-- What a rule of sums makes of a play.
use Rattle.std.specs.Prelude.{◌≡◌, ℕ, slice_get, slice_set, Option, Some, None}
use Rattle.hd_base.specs.declared.files.Files as files
use Rattle.hd_base.specs.declared.links.LinkIn as link_in
use Rattle.hd_base.specs.declared.links.LinkOut as link_out
use Rattle.hd_base.specs.declared.numbers.BlockId.{BlockId}
use Rattle.hd_base.specs.declared.roads.Roads as roads
use Rattle.hd_base.specs.SumRules.{Rule}
use Rattle.play_model.specs.States.{PlayState, ruled}
use Rattle.play_opening.specs.PlayClients.Client.{Client}
use Rattle.play_opening.specs.PlayDues.Places.{client_place}
use Rattle.play_lines.specs.declared.playing.Playing.{Playing}
use Rattle.play_lines.specs.Drawing.{IsLeft}
use Rattle.play_lines.specs.Showing.{PlayIs}

-- The client at a place has the rule, and all else is as it was.
pub record IsRuled {F I O : Type 0} (block : BlockId) (rule : Rule) (place : ℕ) (old new : Playing F I O) : Type 0 where
  pub was : Client I O
  pub now : Client I O
  pub at : slice_get old.player.clients.items place ≡ Some was
  pub block_is : was.block ≡ block
  pub same : new ≡ record old { player = record old.player { clients = new.player.clients } }
  pub set : new.player.clients.items ≡ slice_set old.player.clients.items place now
  pub ruled_so : now ≡ record was { rule = rule }

abbrev pub RulesAt : {F I O : Type 0} → BlockId → Rule → Option ℕ → Playing F I O → Playing F I O → Type 0
RulesAt block rule None old new = new ≡ old
RulesAt block rule (Some place) old new = IsRuled block rule place old new

-- The client of the block has the rule, if the block has one.
abbrev pub Rules : {F I O : Type 0} → BlockId → Rule → Playing F I O → Playing F I O → Type 0
Rules block rule old new = RulesAt block rule (client_place old.player.clients.items block.0) old new

-- So what is left is the play with the rule.
abbrev pub RulesArePlays : {F R I O : Type 0} → files.Ghosts F → roads.Ghosts R I O → link_in.Ghosts I →
    link_out.Ghosts O → Type 0
RulesArePlays {F} {R} {I} {O} f r i o =
    (old new : Playing F I O) (block : BlockId) (rule : Rule) (place : ℕ) (p : PlayState) (road : R) →
    IsRuled block rule place old new → PlayIs f r i o p road old
    → IsLeft f r i o (ruled p block.0 rule) old new road
