-- How a member is dialled.
use Rattle.std.specs.Prelude.{◌≡◌, ℕ, ◌+◌, ◌≤◌, nat_le, if◌then◌else◌, Bool, true, false, List, length, All, Option}
use Rattle.std.specs.Prelude.{Some, None, IfSome, Result, Ok, Err}
use Rattle.std.specs.declared.alloc.AllocError.{AllocError}
use Rattle.hd_base.specs.Channels.{Plain}
use Rattle.hd_base.specs.Ends.{IsKnown}
use Rattle.hd_base.specs.declared.numbers.ConnId.{ConnId}
use Rattle.hd_base.specs.declared.numbers.NodeId.{NodeId}
use Rattle.hd_base.specs.declared.links.LinkIn as link_in
use Rattle.hd_base.specs.declared.links.LinkOut as link_out
use Rattle.hd_base.specs.declared.roads.Roads as roads
use Rattle.hd_base.specs.declared.roads.TheConstants.{FIRST_PORT}
use Rattle.link_messages.specs.Incomings.{nothing_received}
use Rattle.link_pieces.specs.Roads.{KeepsRoads, IsDialled, IsUnanswered}
use Rattle.block_recovery.specs.declared.links.Link.{Link}
use Rattle.block_recovery.specs.declared.links.Seat.{Seat}
use Rattle.block_recovery.specs.declared.links.Seat.TheVariants as seat

-- a node's port, none where its number is too great for one
abbrev pub dial_port : NodeId → Option ℕ
dial_port node = if nat_le (FIRST_PORT + node.0) 65535 then Some (FIRST_PORT + node.0) else None

-- there is a connection
abbrev pub is_open : {I O : Type 0} → Seat I O → Bool
is_open (seat.Open l) = true
is_open seat.Empty = false
is_open seat.Lost = false

-- the connection, if there is one
abbrev pub conn_of : {I O : Type 0} → Seat I O → Option ConnId
conn_of (seat.Open l) = Some l.end.id
conn_of seat.Empty = None
conn_of seat.Lost = None

-- the end is lost of the connection to the member at a place
abbrev pub is_lost : {I O : Type 0} → Option (Seat I O) → Bool
is_lost (Some seat.Lost) = true
is_lost other = false

-- The roads know the end of the connection, if there is one, where observable.
abbrev pub LinkIsKnown : {I O : Type 0} → Option Plain → Seat I O → Type 0
LinkIsKnown plain (seat.Open l) = IsKnown plain l.end.id.0
LinkIsKnown plain seat.Empty = Unit {0}
LinkIsKnown plain seat.Lost = Unit {0}

-- The roads know what they knew.
abbrev pub KeepsKnown : Option Plain → Option Plain → Type 0
KeepsKnown old new = (conn : ℕ) → IsKnown old conn → IsKnown new conn

-- It is the same connection, or there is none as before.
abbrev pub SameEnd : {I O : Type 0} → Seat I O → Seat I O → Type 0
SameEnd old new = conn_of new ≡ conn_of old

-- Roads that know the ends of all connections know them afterwards.
abbrev pub KeepsEnds : {I O : Type 0} → List (Seat I O) → List (Seat I O) → Type 0
KeepsEnds old new = (plain : Option Plain) → All (LinkIsKnown plain) old → All (LinkIsKnown plain) new

-- Each connection has its place still, and the roads know the ends of all, and what they knew; their count of faults
-- doesn't fall.
pub record LinksStay {R I O : Type 0} (r : roads.Ghosts R I O) (links links' : List (Seat I O)) (old new : R)
    : Type 0 where
  pub count : length links' ≡ length links
  pub known : All (LinkIsKnown (r.plain new)) links'
  pub kept : KeepsKnown (r.plain old) (r.plain new)
  pub faults : r.faults old ≤ r.faults new

-- The end of a dial that was answered, at a port that is listened on; nothing was sent or heard on it.
pub record IsLink {R I O : Type 0} (r : roads.Ghosts R I O) (i : link_in.Ghosts I) (o : link_out.Ghosts O) (port : ℕ)
    (old new : R) (link : Link I O) : Type 0 where
  pub dialled : IsDialled r i o port old new link.end
  pub listens : IfSome (r.plain old) (λ p. p.listening port ≡ true)
  pub incoming : link.incoming ≡ nothing_received
  pub asked : link.asked ≡ false
  pub failed : link.failed ≡ false
  pub over : link.over ≡ false

-- How a port is dialled.
abbrev pub DialsPort : {R I O : Type 0} → roads.Ghosts R I O → link_in.Ghosts I → link_out.Ghosts O → ℕ → R → R
    → Result (Seat I O) AllocError → Type 0
DialsPort r i o port old new (Ok (seat.Open link)) = IsLink r i o port old new link
DialsPort r i o port old new (Ok seat.Empty) = IsUnanswered r port old new
DialsPort r i o port old new (Ok seat.Lost) = ⊥
DialsPort r i o port old new (Err e) = KeepsRoads r old new

-- A node that has no port is not dialled.
abbrev pub DialsAs : {R I O : Type 0} → roads.Ghosts R I O → link_in.Ghosts I → link_out.Ghosts O → Option ℕ → R → R
    → Result (Seat I O) AllocError → Type 0
DialsAs r i o None old new result = (new ≡ old) × (result ≡ Ok seat.Empty)
DialsAs r i o (Some port) old new result = DialsPort r i o port old new result

abbrev pub Dials : {R I O : Type 0} → roads.Ghosts R I O → link_in.Ghosts I → link_out.Ghosts O → NodeId → R → R
    → Result (Seat I O) AllocError → Type 0
Dials r i o node old new result = DialsAs r i o (dial_port node) old new result
