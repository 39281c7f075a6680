-- The seats of those members that answers name.
use Rattle.std.specs.Prelude.{ℕ, ◌≡◌, List, Some, ◌≤◌, length}
use Rattle.hd_base.specs.declared.numbers.NodeId.{NodeId}
use Rattle.hd_base.specs.declared.numbers.Stamp.{Stamp}
use Rattle.op_headers.specs.Values.{WriteFields}
use Rattle.world.specs.declared.events.Event.{Event}
use Rattle.world.specs.Parts.{Answered}
use Rattle.world.specs.Worlds.{World, start}
use Rattle.world.specs.Nodes.{node_of}
use Rattle.world.specs.Events.{run}
use Rattle.world.specs.Safe.{Has}
use Rattle.world_laws.specs.Stamping.{Givens, none_given, given_in}
use Rattle.world_acks.specs.Acking.{Asked, Seated}
use Rattle.world_writers.specs.Piping.{IsPipeline}

-- These members were asked over a connection to accept a setup of this stamp, and have seats of so many bytes of a
-- session.
pub record MembersSit (w : World) (block : ℕ) (stamp : Stamp) (members : List NodeId) (session least : ℕ) : Type 0 where
  pub conn : ℕ
  pub pipeline : IsPipeline w.past block stamp members conn
  pub seated : (f : WriteFields) → Asked w.past conn f → Seated w f (node_of w conn) session least

-- The stamp of an answer is of a session of its block, in which as many bytes are written, and its members have seats
-- of the answered bytes.
pub record AnswerSits (g : Givens) (w : World) (a : Answered) : Type 0 where
  pub session : ℕ
  pub given : g a.block a.stamp ≡ Some session
  pub within : a.length ≤ length (w.written session)
  pub sit : MembersSit w a.block (record { 0 = a.stamp }) a.members session a.length

-- So it is of each answer to a flush, a sync or a close after every list of events, of the stamps that are given in
-- them.
abbrev pub AllSit : Type 0
AllSit = (nodes : ℕ) (events : List Event) (a : Answered) → Has (run (start nodes) events).answered a →
    AnswerSits (given_in none_given (start nodes) events) (run (start nodes) events) a
