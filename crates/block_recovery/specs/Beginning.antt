-- The first step of a primary, and whatever becomes of the roads in it.
use Rattle.std.specs.Prelude.{◌≡◌, ℕ, Option, None, List, [], map, zip, Result, Ok, Err}
use Rattle.std.specs.declared.alloc.AllocError.{AllocError}
use Rattle.hd_base.specs.declared.numbers.BlockId.{BlockId}
use Rattle.hd_base.specs.declared.numbers.NodeId.{NodeId}
use Rattle.hd_base.specs.declared.links.LinkIn as link_in
use Rattle.hd_base.specs.declared.links.LinkOut as link_out
use Rattle.hd_base.specs.declared.roads.Roads as roads
use Rattle.name_core.specs.declared.calls.Begun.{Begun}
use Rattle.name_core.specs.declared.calls.OfficeAnswer.{OfficeAnswer}
use Rattle.name_core.specs.declared.calls.OfficeAnswer.TheVariants as answer
use Rattle.name_core.specs.declared.calls.OfficeCall.TheVariants as call
use Rattle.name_core.specs.declared.desks.Desk as desk
use Rattle.name_core.specs.declared.faults.OfficeFault.{OfficeFault}
use Rattle.op_headers.specs.declared.ops.Op.TheVariants as op
use Rattle.op_headers.specs.declared.ops.RecoveryKind.TheVariants as kind
use Rattle.recovery_core.specs.declared.primary.Recovered.{Recovered}
use Rattle.recovery_core.specs.declared.primary.Recovered.TheVariants as recovered
use Rattle.recovery_core.specs.Primaries.{PrimaryState, begun_with, request_of, office_refused}
use Rattle.block_recovery.specs.declared.links.Link.{Link}
use Rattle.block_recovery.specs.declared.links.Seat.{Seat}
use Rattle.block_recovery.specs.declared.links.Seat.TheVariants as seat
use Rattle.block_recovery.specs.declared.primary.Primary.{Primary}
use Rattle.block_recovery.specs.declared.primary.PrimaryStep.{PrimaryStep}
use Rattle.block_recovery.specs.Actions.{Held, DialsAll, SettlesAll}
use Rattle.block_recovery.specs.Dialling.{dial_port, is_open}
use Rattle.block_recovery.specs.Requests.{SendsRequest}
use Rattle.block_recovery.specs.Steps.{AsksOffice, Reaches, begun_as, core_of}

-- THE PORTS OF ITS CONNECTIONS

-- the port that was dialled, where there is a connection
abbrev pub port_of : {I O : Type 0} → NodeId → Seat I O → Option ℕ
port_of node (seat.Open l) = dial_port node
port_of node seat.Empty = None
port_of node seat.Lost = None

abbrev pub ports_of : {I O : Type 0} → List NodeId → List (Seat I O) → List (Option ℕ)
ports_of members links = map (λ x. port_of x.0 x.1) (zip members links)

-- THE FIRST STEP

-- Where memory allowed it all members were dialled, and those that answered were sent the INIT.
pub record Prepares {I O : Type 0} (o : link_out.Ghosts O) (block : BlockId) (begun : Begun) (members : List NodeId)
    (dialled : Result (Unit {0}) AllocError) (links links' : List (Seat I O)) (core : PrimaryState) : Type 0 where
  pub all : dialled ≡ Ok tt
  pub begins : core ≡ begun_with block begun members (map is_open links)
  pub sends : SendsRequest o (op.Recovery (request_of core kind.Init 0)) members members links links' (Ok tt)

-- Memory ran out while the members were dialled, or behind that, and all connections that there are then are given up.
pub record GivesDialledUp {R I O : Type 0} (r : roads.Ghosts R I O) (i : link_in.Ghosts I) (o : link_out.Ghosts O)
    (members : List NodeId) (links links' : List (Seat I O)) (old new : R) : Type 0 where
  pub dialled : Result (Unit {0}) AllocError
  pub first : Held R I O
  pub held : List (Seat I O)
  pub dials : DialsAll r i o members links first.links old first.road dialled
  pub settles : SettlesAll r i o [] held links' first.road new

abbrev pub StartsWith : {R I O : Type 0} → roads.Ghosts R I O → link_in.Ghosts I → link_out.Ghosts O → BlockId → Begun
    → List NodeId → List (Seat I O) → List (Seat I O) → R → R → Result PrimaryState Recovered → Type 0
StartsWith r i o block begun members links links' old new (Ok core) =
    Reaches r i o block begun members links links' old new core
StartsWith r i o block begun members links links' old new (Err end) =
    (end ≡ recovered.Memory) × GivesDialledUp r i o members links links' old new

-- What the office's answer leads to: the recovery begins, or ends by the refusal.
abbrev pub StartsAs : {R I O : Type 0} → roads.Ghosts R I O → link_in.Ghosts I → link_out.Ghosts O
    → Result OfficeAnswer OfficeFault → BlockId → List NodeId → List (Seat I O) → List (Seat I O)
    → R → R → Result PrimaryState Recovered → Type 0
StartsAs r i o (Ok (answer.Begun begun)) block members links links' old new result =
    StartsWith r i o block begun members links links' old new result
StartsAs r i o (Ok other) block members links links' old new result = ⊥
StartsAs r i o (Err fault) block members links links' old new result =
    (links' ≡ links) × (new ≡ old) × (result ≡ Err (office_refused fault))

-- The office is asked to begin.
pub record Starts {D R I O : Type 0} (d : desk.Ghosts D) (r : roads.Ghosts R I O) (i : link_in.Ghosts I)
    (o : link_out.Ghosts O) (block : BlockId) (members : List NodeId) (links links' : List (Seat I O))
    (office office' : D) (old new : R) (result : Result PrimaryState Recovered) : Type 0 where
  pub said : Result OfficeAnswer OfficeFault
  pub asks : AsksOffice d (call.BeginRecovery block) office office' said
  pub starts : StartsAs r i o said block members links links' old new result

-- It has begun, or the recovery has ended.
pub record StartsSo {D R I O : Type 0} (d : desk.Ghosts D) (r : roads.Ghosts R I O) (i : link_in.Ghosts I)
    (o : link_out.Ghosts O) (p p' : Primary I O) (office office' : D) (old new : R) (result : PrimaryStep) : Type 0
  where
    pub begun : Result PrimaryState Recovered
    pub starts : Starts d r i o p.block p.members p.links.items p'.links.items office office' old new begun
    pub core : p'.core ≡ core_of begun
    pub is : result ≡ begun_as begun
