-- What members and writers send and shut in their events, as ends that are flushed.
use Rattle.std.specs.Prelude.{◌≡◌, ◌≢◌, ℕ, ◌<◌, not, Bool, true, false, List, [], ◌∷◌, Option, Some, None}
use Rattle.hd_base.specs.declared.numbers.NodeId.{NodeId}
use Rattle.world.specs.OpHeaders.Op.{Op}
use Rattle.world.specs.OpHeaders.Values.{WriteFields}
use Rattle.world.specs.MemberCore.Effect.{Effect}
use Rattle.world.specs.MemberCore.Shuts.{Shuts}
use Rattle.world.specs.MemberCore.Shuts.TheVariants as shuts
use Rattle.world.specs.MemberCore.Steps.{Step, Setup}
use Rattle.world.specs.NameCore.OfficeCall.{OfficeCall}
use Rattle.world.specs.WriterCore.Action.{Action}
use Rattle.world.specs.WriterCore.Action.TheVariants as action
use Rattle.world.specs.WriterCore.Waiting.{Waiting}
use Rattle.world.specs.WriterCore.WriterRecord.{WriterRecord}
use Rattle.world.specs.WriterCore.Transitions.{is_connected}
use Rattle.world.specs.Parts.{Message, request, packet, by_writer, FullMember, Break}
use Rattle.world.specs.Worlds.{World, Change, Dial}
use Rattle.world.specs.Connections.{Next, place_of}
use Rattle.world.specs.Nodes.{closing, member_change, setup_change, member_dials, sent_up, passed}
use Rattle.world.specs.Clients.{writer_change, dialled_change, did}
use Rattle.world.specs.Primaries.{asks_writer}
use Rattle.world_nets.specs.Changes.{Flush}
use Rattle.world_nets.specs.Steps.{SendsBy}
use Rattle.world_nets.specs.Dials.{DialsBy}

-- ENDS

-- the lower end of a connection flushes these messages, and is shut or not
abbrev pub lower_flush : ℕ → Bool → List Message → Flush
lower_flush conn shut messages = record { conn = conn; lower = true; shut = shut; messages = messages }

-- so does the upper end of a connection, if there is one
abbrev pub upper_flushes : Option ℕ → Bool → List Message → List Flush
upper_flushes None shut messages = []
upper_flushes (Some conn) shut messages =
    record { conn = conn; lower = false; shut = shut; messages = messages } ∷ []

-- MEMBERS

-- a member shuts the connection from above
abbrev pub shuts_above : Shuts → Bool
shuts_above shuts.Nothing = false
shuts_above shuts.Mirror = false
shuts_above shuts.Both = true

-- and the one to its mirror
abbrev pub shuts_below : Shuts → Bool
shuts_below shuts.Nothing = false
shuts_below shuts.Mirror = true
shuts_below shuts.Both = true

-- what the lower end of a member's connection flushes
abbrev pub flush_above : ℕ → WriteFields → Effect → Flush
flush_above c fields e = lower_flush c (shuts_above e.shuts) (sent_up fields e.sends)

-- what its two ends flush that took this: the second one sends it on to the mirror, or doesn't
abbrev pub member_flushes : ℕ → FullMember → Next → Effect → List Flush
member_flushes c m x e = flush_above c m.fields e ∷ upper_flushes m.mirror (shuts_below e.shuts) (passed e.forwards x)

-- A member's step, at a connection that isn't the one to its mirror.
abbrev pub MembersSend : Type 0
MembersSend = (w : World) (c : ℕ) (m : FullMember) (x : Next) (s : Step) (b : Option Break) → m.mirror ≢ Some c
    → SendsBy w (member_change w c m x s b) (member_flushes c m x s.effect)

-- A lower end that ends shuts its connection.
abbrev pub ClosingsSend : Type 0
ClosingsSend = (w : World) (c : ℕ) → SendsBy w (closing w c) (lower_flush c true [] ∷ [])

-- The setup of a member, which dials no mirror, or does.
pub record SetupSends (w : World) (c : ℕ) (fields : WriteFields) (s : Setup) (b : Option Break) : Type 0 where
  pub alone : member_dials s.member w c fields ≡ [] → SendsBy w (setup_change w c fields s b)
      (flush_above c fields s.effect ∷ [])
  pub mirrored : (dial : Dial) → member_dials s.member w c fields ≡ dial ∷ [] →
      DialsBy w (setup_change w c fields s b) dial (flush_above c fields s.effect ∷ [])

abbrev pub SetupsSend : Type 0
SetupsSend = (w : World) (c : ℕ) (fields : WriteFields) (s : Setup) (b : Option Break) → c < w.next_conn
    → SetupSends w c fields s b

-- WRITERS

-- what a writer's end flushes that comes into a state: where it has no connection in it, its end is shut
abbrev pub writer_flushes : World → ℕ → WriterRecord → List Message → List Flush
writer_flushes w b x messages = upper_flushes (w.writers b).conn (not (is_connected x.phase)) messages

-- what an action sends
abbrev pub action_sends : Action → List Message
action_sends (action.Send p) = packet p ∷ []
action_sends a = []

-- the dial of a writer, with its request
abbrev pub writer_dial : World → ℕ → NodeId → Op → Dial
writer_dial w b to r = record {
  dialled = record { upper = by_writer b; from = None; to = place_of w to.0 };
  request = request r;
}

-- What a writer does: it comes into a state; it does what its own step says; it asks the office; or it dials and is
-- answered.
pub record WriterSends (w : World) (b : ℕ) (x : WriterRecord) : Type 0 where
  pub moves : SendsBy w (writer_change w b x) (writer_flushes w b x [])
  pub does : (waits : Option Waiting) (a : Action) (bytes : List ℕ) (k : Change) → did w b waits a x bytes ≡ Some k →
      SendsBy w k (writer_flushes w b x (action_sends a))
  pub asks : (c : OfficeCall) → SendsBy w (asks_writer w b c) []
  pub dials : (to : NodeId) (r : Op) → DialsBy w (dialled_change w b x to r true) (writer_dial w b to r) []

abbrev pub WritersSend : Type 0
WritersSend = (w : World) (b : ℕ) (x : WriterRecord) → WriterSends w b x
