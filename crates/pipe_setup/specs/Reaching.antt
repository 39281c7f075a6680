-- How a member reaches its mirror.
use Rattle.std.specs.Prelude.{◌≡◌, ◌⊎◌, ℕ, true, List, Some, None, IfSome, Result, Err}
use Rattle.hd_base.specs.declared.ends.Conn.{Conn}
use Rattle.hd_base.specs.declared.ends.RoadError.{RoadError}
use Rattle.hd_base.specs.declared.numbers.NodeId.{NodeId}
use Rattle.hd_base.specs.declared.links.LinkIn as link_in
use Rattle.hd_base.specs.declared.links.LinkOut as link_out
use Rattle.hd_base.specs.declared.roads.Roads as roads
use Rattle.link_pieces.specs.Pieces.{SendsPiece, FailsToSend, SendsNothing}
use Rattle.link_pieces.specs.Roads.{KeepsRoads, IsDialled, IsUnanswered, KeepsInward, GivesUp}
use Rattle.op_headers.specs.Values.{WriteFields}
use Rattle.pipe_setup.specs.Requests.{request_text, first_port}
use Rattle.pipe_setup.specs.declared.reaching.Reached.{Reached}
use Rattle.pipe_setup.specs.declared.reaching.Reached.TheVariants as reached

-- Somebody listens on the port, where observable.
abbrev pub IsListening : {R I O : Type 0} → roads.Ghosts R I O → ℕ → R → Type 0
IsListening r port road = IfSome (r.plain road) (λ p. p.listening port ≡ true)

-- The request was sent on the end of a dial, which was answered because somebody listens there.
pub record IsAsked {R I O : Type 0} (r : roads.Ghosts R I O) (i : link_in.Ghosts I) (o : link_out.Ghosts O)
    (text : List ℕ) (port : ℕ) (old new : R) (end : Conn I O) : Type 0 where
  pub fresh : Conn I O
  pub listening : IsListening r port old
  pub dialled : IsDialled r i o port old new fresh
  pub kept : KeepsInward fresh end
  pub sent : SendsPiece o text fresh.outward end.outward

-- The dial was answered, and the link failed before the request was sent.
pub record IsUnsent {R I O : Type 0} (r : roads.Ghosts R I O) (i : link_in.Ghosts I) (o : link_out.Ghosts O) (port : ℕ)
    (old new : R) (end : Conn I O) : Type 0 where
  pub fresh : Conn I O
  pub dialled : IsDialled r i o port old new fresh
  pub kept : KeepsInward fresh end
  pub failed : FailsToSend o fresh.outward end.outward

-- An end was shut and brought back, which ended so.
pub record Loses {R I O : Type 0} (r : roads.Ghosts R I O) (i : link_in.Ghosts I) (o : link_out.Ghosts O)
    (end : Conn I O) (old new : R) (result : Result (Unit {0}) RoadError) : Type 0 where
  pub given_up : GivesUp r i o end old new
  pub ends : given_up.result ≡ result

-- Memory ran out before the dial or in it, and the roads stay; or for the request on the end of the dial, which is given up;
-- or for an end that is brought back because its link failed.
pub data FindsNoMemory {R I O : Type 0} (r : roads.Ghosts R I O) (i : link_in.Ghosts I) (o : link_out.Ghosts O)
    (port : ℕ) (old new : R) : Type 0 where
  before : KeepsRoads r old new → FindsNoMemory r i o port old new
  after : (middle : R) (fresh end : Conn I O) → IsDialled r i o port old middle fresh → KeepsInward fresh end
      → SendsNothing o fresh.outward end.outward → GivesUp r i o end middle new → FindsNoMemory r i o port old new
  unsent : (middle : R) (end : Conn I O) (why : RoadError) → IsUnsent r i o port old middle end
      → Loses r i o end middle new (Err why) → FindsNoMemory r i o port old new

-- How a port is reached with a request.
abbrev pub ReachesPort : {R I O : Type 0} → roads.Ghosts R I O → link_in.Ghosts I → link_out.Ghosts O → List ℕ → ℕ →
    R → R → Reached I O → Type 0
ReachesPort r i o text port old new (reached.Asked end) = IsAsked r i o text port old new end
ReachesPort r i o text port old new (reached.Unsent end) = IsUnsent r i o port old new end
ReachesPort r i o text port old new reached.NotDialled = IsUnanswered r port old new
ReachesPort r i o text port old new reached.Memory = FindsNoMemory r i o port old new

-- The request to the mirror, as it is written, was sent.
pub record IsAskedBy {R I O : Type 0} (r : roads.Ghosts R I O) (i : link_in.Ghosts I) (o : link_out.Ghosts O)
    (node : NodeId) (w : WriteFields) (old new : R) (end : Conn I O) : Type 0 where
  pub text : List ℕ
  pub is : request_text node w ≡ Some text
  pub asked : IsAsked r i o text (first_port w.targets) old new end

-- No request can go on, and the roads stay.
pub record IsUnwritten {R : Type 0} (node : NodeId) (w : WriteFields) (old new : R) : Type 0 where
  pub unwritten : request_text node w ≡ None
  pub same : new ≡ old

-- How the mirror of a request is reached.
abbrev pub Reaches : {R I O : Type 0} → roads.Ghosts R I O → link_in.Ghosts I → link_out.Ghosts O → NodeId →
    WriteFields → R → R → Reached I O → Type 0
Reaches r i o node w old new (reached.Asked end) = IsAskedBy r i o node w old new end
Reaches r i o node w old new (reached.Unsent end) = IsUnsent r i o (first_port w.targets) old new end
Reaches r i o node w old new reached.NotDialled = IsUnwritten node w old new ⊎
    IsUnanswered r (first_port w.targets) old new
Reaches r i o node w old new reached.Memory = FindsNoMemory r i o (first_port w.targets) old new
