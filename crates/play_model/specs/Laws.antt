-- What is true of all plays.
use Rattle.std.specs.Prelude.{◌≡◌, ℕ, ◌||◌, true, List, [], ◌∷◌, slice_get, Some, None}
use Rattle.script_lang.specs.declared.instructions.ScriptLine.{ScriptLine}
use Rattle.world_laws.specs.World.Event.{Event}
use Rattle.world_laws.specs.World.Safe.{Has}
use Rattle.world_laws.specs.World.Worlds.{World}
use Rattle.world_laws.specs.World.Clients.{are_members}
use Rattle.world_laws.specs.World.Enabled.{is_deed, is_question}
use Rattle.world_laws.specs.World.Events.{is_enabled, happens}
use Rattle.play_model.specs.declared.asks.ReadAsk.{ReadAsk}
use Rattle.play_model.specs.declared.dues.Due.{Due}
use Rattle.play_model.specs.declared.dues.Due.TheVariants as due
use Rattle.play_model.specs.declared.recoveries.Recovery.{Recovery}
use Rattle.play_model.specs.States.{PlayState, world_of}
use Rattle.play_model.specs.Dues.{dues, is_due, due_events, action_of}
use Rattle.play_model.specs.Lines.{Plays}

-- A script is played to one end.
abbrev pub HaveOneEnd : Type 0
HaveOneEnd = (script : List ScriptLine) (one other : PlayState) → Plays script one → Plays script other → one ≡ other

-- Each of these events is enabled where it stands.
abbrev pub AreEnabled : World → List Event → Type 0
AreEnabled w [] = Unit {0}
AreEnabled w (e ∷ events) = (is_enabled w e ≡ true) × AreEnabled (happens w e) events

-- Of a writer's step: it does something, or asks the office, and takes no command. Of a primary's: it is of members.
abbrev pub IsDeed : World → Due → Type 0
IsDeed w (due.Own b) = (is_deed (action_of w b) || is_question (action_of w b)) ≡ true
IsDeed w (due.Primary r) = are_members r.members ≡ true
IsDeed w other = Unit {0}

-- no answer of the office waits for a writer
abbrev pub IsQuiet : World → Type 0
IsQuiet w = (b : ℕ) → (w.writers b).told ≡ None

abbrev pub AreEnabledWhereListed : Type 0
AreEnabledWhereListed =
    (blocks : List ℕ) (p : PlayState) (i : ℕ) (d : Due) → IsQuiet (world_of p) → slice_get (dues blocks p) i ≡ Some d →
    IsDeed (world_of p) d
    → AreEnabled (world_of p) (due_events (world_of p) p.queues d)

-- a writer's step is of one of these blocks
abbrev pub OwnAmong : List ℕ → Due → Type 0
OwnAmong blocks (due.Own b) = Has blocks b.0
OwnAmong blocks other = Unit {0}

-- a reader's step is of one that asks one of these
abbrev pub AskAmong : List ReadAsk → Due → Type 0
AskAmong asks (due.Reader ask) = Has asks ask
AskAmong asks other = Unit {0}

-- a primary's step is of one that recovers one of these
abbrev pub RecoveryAmong : List Recovery → Due → Type 0
RecoveryAmong rs (due.Primary r) = Has rs r
RecoveryAmong rs other = Unit {0}

-- It is due. A writer that takes a step in it is of one of these blocks, a reader asks what a line of the play has asked,
-- and a primary recovers what one has asked.
pub record IsListed (blocks : List ℕ) (p : PlayState) (d : Due) : Type 0 where
  pub is : is_due (world_of p) p.queues d ≡ true
  pub among : OwnAmong blocks d
  pub asked : AskAmong p.asks d
  pub recovers : RecoveryAmong p.recoveries d

abbrev pub ListedAreDue : Type 0
ListedAreDue = (blocks : List ℕ) (p : PlayState) (i : ℕ) (d : Due) → slice_get (dues blocks p) i ≡ Some d
    → IsListed blocks p d
