-- A player, with its roads, shows the world of the events that happened, and its commands fit.
use Rattle.std.specs.Prelude.{ℕ, ◌≡◌, ◌≤◌, ◌<◌, ◌^◌, true, false, List, ◌++◌, slice_get, Some, IfSome, Result, Ok, Err}
use Rattle.hd_base.specs.declared.files.Files as files
use Rattle.hd_base.specs.declared.links.LinkIn as link_in
use Rattle.hd_base.specs.declared.links.LinkOut as link_out
use Rattle.hd_base.specs.declared.numbers.BlockId.{BlockId}
use Rattle.hd_base.specs.declared.numbers.ConnId.{ConnId}
use Rattle.hd_base.specs.declared.roads.Roads as roads
use Rattle.hd_base.specs.declared.roads.TheConstants.{MAX_NODES}
use Rattle.road_traffic.specs.Showing.{Net}
use Rattle.writer_core.specs.Commands.{is_unmade}
use Rattle.world.specs.declared.events.Event.{Event}
use Rattle.world.specs.Worlds.{World, start}
use Rattle.world.specs.Events.{run}
use Rattle.node_starts.specs.WorldBreaks.Breaks.{FaultsAreWrites}
use Rattle.node_stops.specs.WorldRequests.Requests.{IsAmong, AllAmong}
use Rattle.play_laws.specs.WorldTexts.Texts.{AllFit, CanBeAsked}
use Rattle.play_model.specs.declared.asks.ReadAsk.{ReadAsk}
use Rattle.play_model.specs.declared.recoveries.Recovery.{Recovery}
use Rattle.play_model.specs.declared.dues.Due.{Due}
use Rattle.play_model.specs.declared.dues.Due.TheVariants as due
use Rattle.play_model.specs.Asks.{request_of}
use Rattle.play_model.specs.Dues.{Queues, is_due}
use Rattle.play_laws.specs.Commands.{CommandsFit, given_with}
use Rattle.play_laws.specs.Intakes.{intake_of}
use Rattle.play_laws.specs.Members.{IsNode, AllName}
use Rattle.play_dues.specs.PlayClients.Client.{Client}
use Rattle.play_dues.specs.Showing.{HasClient}
use Rattle.node_stops.specs.PlayNodes.Showing.{is_pipeline}
use Rattle.play_dues.specs.PlayReaders.Asks.{asks_of}
use Rattle.play_dues.specs.PlayReads.Places.{HasAsk}
use Rattle.play_dues.specs.PlayRecoveries.Places.{recoveries_of, HasRecovery}
use Rattle.play.specs.declared.faults.PlayFault.{PlayFault}
use Rattle.play.specs.declared.player.Player.{Player}
use Rattle.play.specs.Showing.{PlayerShows}
use Rattle.play.specs.Events.{Happening, IsCaused, KeepsPlaces, due_happens}
use Rattle.play.specs.Reading.{ReadsAreTold}

-- CLIENTS

-- The block of a client is among these, and has a number of 64 bits; its queue fits; and its writer, once it is there, was
-- given a create.
pub record ClientFits {I O : Type 0} (nodes : ℕ) (blocks : List BlockId) (w : World) (c : Client I O) : Type 0 where
  pub among : IsAmong blocks c.block.0
  pub width : c.block.0 < 2 ^ 64
  pub queue : CommandsFit nodes (intake_of w c.block.0) c.queue.items
  pub made : IfSome c.writer (λ x. is_unmade x.intake.stand ≡ false)

-- EVENTS

-- Events, from this world on, of writers of these blocks, whose commands name only the first nodes, so many. Of the calls on
-- files only writes fail in them that make a replica grow.
pub record EventsFit (w : World) (nodes : ℕ) (blocks : List BlockId) (events : List Event) : Type 0 where
  pub widths : AllFit events
  pub names : AllName (IsNode nodes) events
  pub among : AllAmong blocks events
  pub whole : FaultsAreWrites w events

-- PLAYS

-- the world after the events that happened, of so many nodes
abbrev pub world_of : {F I O : Type 0} → ℕ → Player F I O → World
world_of nodes p = run (start nodes) p.events.items

-- What is asked is a block of these, at one of the first nodes, so many, and its request can be sent.
pub record AskFits (nodes : ℕ) (blocks : List BlockId) (ask : ReadAsk) : Type 0 where
  pub among : IsAmong blocks ask.block.0
  pub node : IsNode nodes ask.node
  pub asked : CanBeAsked (request_of ask)

-- So it is of all of these.
abbrev pub AsksFit : ℕ → List BlockId → List ReadAsk → Type 0
AsksFit nodes blocks asks = (k : ℕ) (ask : ReadAsk) → slice_get asks k ≡ Some ask → AskFits nodes blocks ask

-- What is to be recovered is a block of these, at a primary that is one of the first nodes, so many.
pub record RecoveryFits (nodes : ℕ) (blocks : List BlockId) (r : Recovery) : Type 0 where
  pub among : IsAmong blocks r.block.0
  pub width : r.block.0 < 2 ^ 64
  pub node : IsNode nodes r.node

-- So it is of all of these.
abbrev pub RecoveriesFit : ℕ → List BlockId → List Recovery → Type 0
RecoveriesFit nodes blocks rs = (k : ℕ) (r : Recovery) → slice_get rs k ≡ Some r → RecoveryFits nodes blocks r

-- The player shows this world; there are no more nodes than a play may have, so that each has a port; the events, the
-- commands, what readers ask and what primaries are to recover fit; and a writer that has a connection is that of a client.
pub record PlayStands {F R I O : Type 0} (r : roads.Ghosts R I O) (i : link_in.Ghosts I) (o : link_out.Ghosts O)
    (nodes : ℕ) (queues : Queues) (road : R) (p : Player F I O) : Type 0 where
  pub net : Net
  pub shows : PlayerShows r i o (world_of nodes p) net queues road p
  pub few : nodes ≤ MAX_NODES
  pub events : EventsFit (start nodes) nodes p.nodes.blocks.items p.events.items
  pub clients : (k : ℕ) (c : Client I O) → slice_get p.clients.items k ≡ Some c →
      ClientFits nodes p.nodes.blocks.items (world_of nodes p) c
  pub asks : AsksFit nodes p.nodes.blocks.items (asks_of p.reads.clients.items)
  pub recovers : RecoveriesFit nodes p.nodes.blocks.items (recoveries_of p.recoveries.clients.items)
  pub connected : (b c : ℕ) → ((world_of nodes p).writers b).conn ≡ Some c → HasClient p.clients.items b

-- What is left of a play in which this has happened: its events stand behind the others, and what each client's writer was
-- given, with what is queued for it, is as before.
pub record HasDone {F R I O : Type 0} (r : roads.Ghosts R I O) (i : link_in.Ghosts I) (o : link_out.Ghosts O)
    (nodes : ℕ) (queues : Queues) (h : Happening) (old new : Player F I O) (road : R) : Type 0 where
  pub stands : PlayStands r i o nodes h.queues road new
  pub events : new.events.items ≡ old.events.items ++ h.events
  pub places : KeepsPlaces h.actor old new
  pub given : (b : ℕ) → HasClient old.clients.items b →
      given_with (intake_of (world_of nodes new) b) (h.queues b) ≡ given_with (intake_of (world_of nodes old) b) (queues b)

-- Something that was due has happened.
abbrev pub HasHappened : {F R I O : Type 0} → roads.Ghosts R I O → link_in.Ghosts I → link_out.Ghosts O → ℕ → Queues →
    Due → Player F I O → Player F I O → R → Type 0
HasHappened r i o nodes queues d old new road =
    HasDone r i o nodes queues (due_happens (world_of nodes old) queues d) old new road

-- How it ends: so, or by a fault that has its cause.
abbrev pub HappenEnds : {F R I O : Type 0} → files.Ghosts F → roads.Ghosts R I O → link_in.Ghosts I →
    link_out.Ghosts O → ℕ → Queues → Due → Player F I O → Player F I O → R → R → Result (Unit {0}) PlayFault → Type 0
HappenEnds f r i o nodes queues d old new road road' (Ok u) = HasHappened r i o nodes queues d old new road'
HappenEnds f r i o nodes queues d old new road road' (Err why) = IsCaused f r old new road road' why

-- a writer that takes its own step has a client, and so have a reader that asks, and a primary
abbrev pub ActorIsClient : {F I O : Type 0} → Player F I O → Due → Type 0
ActorIsClient p (due.Own b) = HasClient p.clients.items b.0
ActorIsClient p (due.Reader ask) = HasAsk p.reads.clients.items ask
ActorIsClient p (due.Primary r) = HasRecovery p.recoveries.clients.items r
ActorIsClient p other = Unit {0}

-- Something that is due happens. Where there is a reader all files are told.
abbrev pub HappenShows : {F R I O : Type 0} → files.Ghosts F → roads.Ghosts R I O → link_in.Ghosts I →
    link_out.Ghosts O → Due → Player F I O → Player F I O → R → R → Result (Unit {0}) PlayFault → Type 0
HappenShows f r i o d old new road road' result =
    (nodes : ℕ) (queues : Queues) → PlayStands r i o nodes queues road old →
    is_due (world_of nodes old) queues d ≡ true → ActorIsClient old d → ReadsAreTold f old
    → HappenEnds f r i o nodes queues d old new road road' result

-- Something that is due on a connection that is none of a pipeline happens. Where there is a reader all files are told.
abbrev pub ElsewhereShows : {F R I O : Type 0} → files.Ghosts F → roads.Ghosts R I O → link_in.Ghosts I →
    link_out.Ghosts O → ConnId → Due → Player F I O → Player F I O → R → R → Result (Unit {0}) PlayFault → Type 0
ElsewhereShows f r i o conn d old new road road' result =
    (nodes : ℕ) (queues : Queues) → PlayStands r i o nodes queues road old → conn.0 < (world_of nodes old).next_conn →
    is_pipeline ((world_of nodes old).dialled conn.0).upper ≡ false → is_due (world_of nodes old) queues d ≡ true →
    ReadsAreTold f old
    → HappenEnds f r i o nodes queues d old new road road' result
