-- A play so far.
use Rattle.std.specs.Prelude.{ℕ, List, [], ◌∷◌, ◌++◌}
use Rattle.hd_base.specs.SumRules.{Rule, default_rule}
use Rattle.rand_pcg.specs.Lcg.{Lcg, started, increment_of}
use Rattle.rand_pcg.specs.Pcg.{multiplier_64}
use Rattle.world_laws.specs.WriterCore.Command.{Command}
use Rattle.world_laws.specs.World.Event.{Event}
use Rattle.world_laws.specs.World.TakenCommand.{TakenCommand}
use Rattle.world_laws.specs.World.Worlds.{World, start, put, add}
use Rattle.world_laws.specs.World.Events.{run}
use Rattle.play_model.specs.declared.asks.ReadAsk.{ReadAsk}
use Rattle.play_model.specs.declared.recoveries.Recovery.{Recovery}

-- A play so far: how many nodes there are; the events that happened; by node which of the coming writes on a data file
-- there fails, 0 where none does; by block the commands that its writer hasn't taken, and the rule of its sums; what the
-- lines so far ask to read, and to recover, in their order; and the generator that draws.
pub record PlayState : Type 0 where
  pub nodes : ℕ
  pub events : List Event
  pub faults : ℕ → ℕ
  pub queues : ℕ → List TakenCommand
  pub rules : ℕ → Rule
  pub asks : List ReadAsk
  pub recoveries : List Recovery
  pub generator : Lcg

-- the world of a play
abbrev pub world_of : PlayState → World
world_of p = run (start p.nodes) p.events

-- the stream of the generator that draws events
abbrev pub event_stream : ℕ
event_stream = 1

-- nothing was played yet
abbrev pub opened : ℕ → ℕ → PlayState
opened nodes seed = record {
  nodes = nodes;
  events = [];
  faults = λ _. 0;
  queues = λ _. [];
  rules = λ _. default_rule;
  asks = [];
  recoveries = [];
  generator = started 64 multiplier_64 seed (increment_of 64 event_stream);
}

-- a command joins the queue of its block, with the rule that the block's sums have
abbrev pub ordered : PlayState → ℕ → Command → PlayState
ordered p b c = record p { queues = add p.queues b (record { command = c; rule = p.rules b } ∷ []) }

-- the rule of a block's sums is this
abbrev pub ruled : PlayState → ℕ → Rule → PlayState
ruled p b rule = record p { rules = put p.rules b rule }

-- of the writes on a data file that come at a node this one is to fail
abbrev pub armed : PlayState → ℕ → ℕ → PlayState
armed p node nth = record p { faults = put p.faults node nth }

-- a reader joins the play, which asks this
abbrev pub asked : PlayState → ReadAsk → PlayState
asked p ask = record p { asks = p.asks ++ ask ∷ [] }

-- a primary joins the play, which is to recover this
abbrev pub recovering : PlayState → Recovery → PlayState
recovering p r = record p { recoveries = p.recoveries ++ r ∷ [] }
