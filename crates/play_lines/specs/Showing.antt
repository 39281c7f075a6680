-- A play, with its roads, is one so far of the model.
use Rattle.std.specs.Prelude.{◌≡◌, ℕ, true, List, length, slice_get, Some}
use Rattle.hd_base.specs.declared.files.Files as files
use Rattle.hd_base.specs.declared.links.LinkIn as link_in
use Rattle.hd_base.specs.declared.links.LinkOut as link_out
use Rattle.hd_base.specs.declared.roads.Roads as roads
use Rattle.writer_core.specs.declared.intake.Intake.{Intake}
use Rattle.world.specs.Clients.{are_members}
use Rattle.play_model.specs.declared.asks.ReadAsk.{ReadAsk}
use Rattle.play_model.specs.declared.recoveries.Recovery.{Recovery}
use Rattle.play_model.specs.Faults.{Faults}
use Rattle.play_model.specs.States as states
use Rattle.play_model.specs.States.{PlayState}
use Rattle.play_scripts.specs.PlayLaws.Intakes.{intake_of}
use Rattle.play_opening.specs.PlayClients.Client.{Client}
use Rattle.play_opening.specs.PlayDues.Live.{Covers}
use Rattle.play_opening.specs.PlayReaders.Asks.{asks_of}
use Rattle.play_opening.specs.PlayRecoveries.Places.{recoveries_of}
use Rattle.play.specs.Befalling.{TellsFaults, FaultsAreTold}
use Rattle.play_opening.specs.Play.Events.{FilesTell}
use Rattle.play_scripts.specs.PlayLaws.Commands.{given_with}
use Rattle.play_opening.specs.Play.Standing.{PlayStands, world_of}
use Rattle.play_lines.specs.declared.playing.Playing.{Playing}

-- Where something is asked all files are told.
abbrev pub AsksAreTold : {F : Type 0} → files.Ghosts F → List ReadAsk → Type 0
AsksAreTold f asks = (k : ℕ) (ask : ReadAsk) → slice_get asks k ≡ Some ask → FilesTell f

-- Each recovery is of at most 16 members, none of them twice.
abbrev pub AreFormed : List Recovery → Type 0
AreFormed rs = (k : ℕ) (rec : Recovery) → slice_get rs k ≡ Some rec → are_members rec.members ≡ true

-- There is a number for each node, so many: it tells which of the writes on a data file that come there fails. Wherever
-- one is to fail all files are told.
pub record FaultsShow {F : Type 0} (f : files.Ghosts F) (nodes : ℕ) (faults : Faults) (numbers : List ℕ) : Type 0 where
  pub count : length numbers ≡ nodes
  pub tells : TellsFaults faults numbers
  pub told : FaultsAreTold f faults

-- The player stands for its events and queues, with as many nodes; the generator is the same, the same writes are to
-- fail, each client has the rule of its block, the readers ask what the lines asked, over files that are told, the
-- primaries are to recover what the lines asked, of members, and of connections that aren't listed as live nothing will
-- ever be due.
pub record PlayIs {F R I O : Type 0} (f : files.Ghosts F) (r : roads.Ghosts R I O) (i : link_in.Ghosts I)
    (o : link_out.Ghosts O) (p : PlayState) (road : R) (x : Playing F I O) : Type 0 where
  pub stands : PlayStands r i o p.nodes p.queues road x.player
  pub nodes_are : p.nodes ≡ x.nodes
  pub events : p.events ≡ x.player.events.items
  pub generator : x.generator ≡ p.generator
  pub faults : FaultsShow f p.nodes p.faults x.faults.items
  pub asks : asks_of x.player.reads.clients.items ≡ p.asks
  pub told : AsksAreTold f p.asks
  pub recovers : recoveries_of x.player.recoveries.clients.items ≡ p.recoveries
  pub formed : AreFormed p.recoveries
  pub rules : (k : ℕ) (c : Client I O) → slice_get x.player.clients.items k ≡ Some c → c.rule ≡ p.rules c.block.0
  pub live : Covers (world_of p.nodes x.player) x.live

-- It is some play.
pub record IsPlaying {F R I O : Type 0} (f : files.Ghosts F) (r : roads.Ghosts R I O) (i : link_in.Ghosts I)
    (o : link_out.Ghosts O) (road : R) (x : Playing F I O) : Type 0 where
  pub p : PlayState
  pub is : PlayIs f r i o p road x

-- what the writer of a block was given, with what is queued for it
abbrev pub given_in : PlayState → ℕ → Intake
given_in p b = given_with (intake_of (states.world_of p) b) (p.queues b)
