-- A primary, step by step.
use Rattle.std.specs.Prelude.{◌≡◌, ◌⊎◌, ℕ, not, List, [], Option, Some, None, map, option_map, IfOk, Result, Ok, Err}
use Rattle.std.specs.declared.alloc.AllocError.{AllocError}
use Rattle.hd_base.specs.declared.numbers.BlockId.{BlockId}
use Rattle.hd_base.specs.declared.numbers.NodeId.{NodeId}
use Rattle.hd_base.specs.declared.links.LinkIn as link_in
use Rattle.hd_base.specs.declared.links.LinkOut as link_out
use Rattle.hd_base.specs.declared.roads.Roads as roads
use Rattle.name_core.specs.declared.calls.Begun.{Begun}
use Rattle.name_core.specs.declared.calls.OfficeAnswer.{OfficeAnswer}
use Rattle.name_core.specs.declared.calls.OfficeCall.{OfficeCall}
use Rattle.name_core.specs.declared.choice.Chosen.{Chosen}
use Rattle.name_core.specs.declared.desks.Desk as desk
use Rattle.name_core.specs.declared.faults.OfficeFault.{OfficeFault}
use Rattle.name_core.specs.Desks.{FitsCall, AnswersAsOffice, office_after_answer}
use Rattle.op_headers.specs.declared.ops.Op.TheVariants as op
use Rattle.op_headers.specs.declared.ops.RecoveryKind.TheVariants as kind
use Rattle.recovery_core.specs.declared.primary.OwnStep.{OwnStep}
use Rattle.recovery_core.specs.declared.primary.OwnStep.TheVariants as own
use Rattle.recovery_core.specs.declared.primary.Recovered.{Recovered}
use Rattle.recovery_core.specs.declared.primary.Recovered.TheVariants as recovered
use Rattle.recovery_core.specs.declared.standings.Heard.{Heard}
use Rattle.recovery_core.specs.Primaries.{PrimaryState, begun_with, heard_at, shuts_at, own_step, request_of, sync_call}
use Rattle.recovery_core.specs.Primaries.{end_with}
use Rattle.block_recovery.specs.declared.actions.Found.{Found}
use Rattle.block_recovery.specs.declared.actions.Found.TheVariants as found
use Rattle.block_recovery.specs.declared.links.Link.{Link}
use Rattle.block_recovery.specs.declared.links.Seat.{Seat}
use Rattle.block_recovery.specs.declared.links.Seat.TheVariants as seat
use Rattle.block_recovery.specs.declared.primary.Primary.{Primary}
use Rattle.block_recovery.specs.declared.primary.PrimaryStep.{PrimaryStep}
use Rattle.block_recovery.specs.declared.primary.PrimaryStep.TheVariants as step
use Rattle.block_recovery.specs.Actions.{IsAt, DialsAll, Settles, SettlesAll, PollsAll}
use Rattle.block_recovery.specs.Dialling.{is_open}
use Rattle.block_recovery.specs.Requests.{SendsRequest}

-- no connection to any of these
abbrev pub no_links : {I O : Type 0} → List NodeId → List (Seat I O)
no_links nodes = map (λ _. seat.Empty) nodes

-- A primary that has done nothing.
pub record IsNew {I O : Type 0} (block : BlockId) (members : List NodeId) (p : Primary I O) : Type 0 where
  pub of_block : p.block ≡ block
  pub at_members : p.members ≡ members
  pub not_begun : p.core ≡ None
  pub no_links : p.links.items ≡ no_links members

-- THE OFFICE

-- A call is put to the office, and answered so.
pub record AsksOffice {D : Type 0} (d : desk.Ghosts D) (c : OfficeCall) (old new : D)
    (said : Result OfficeAnswer OfficeFault) : Type 0 where
  pub fits : IfOk said (FitsCall c)
  pub answers : AnswersAsOffice (d.office old) c said
  pub office : d.office new ≡ option_map (office_after_answer c said) (d.office old)

-- ENDS

-- The recovery ends so, and all connections are given up.
abbrev pub EndsSo : {R I O : Type 0} → roads.Ghosts R I O → link_in.Ghosts I → link_out.Ghosts O → Recovered
    → List (Seat I O) → List (Seat I O) → R → R → PrimaryStep → Type 0
EndsSo r i o end links links' old new result = SettlesAll r i o [] links links' old new × (result ≡ step.Ended end)

-- ITS FIRST STEP

-- Each member was dialled, and those that answered were sent the INIT.
pub record Reaches {R I O : Type 0} (r : roads.Ghosts R I O) (i : link_in.Ghosts I) (o : link_out.Ghosts O)
    (block : BlockId) (begun : Begun) (members : List NodeId) (links links' : List (Seat I O)) (old new : R)
    (core : PrimaryState) : Type 0 where
  pub held : List (Seat I O)
  pub dials : DialsAll r i o members links held old new (Ok tt)
  pub begins : core ≡ begun_with block begun members (map is_open held)
  pub sends : SendsRequest o (op.Recovery (request_of core kind.Init 0)) members members held links' (Ok tt)

-- WHAT IT TAKES

-- This is taken from the member at this place, whose connection is given up behind the answer to the UPDATE.
pub record Hears {R I O : Type 0} (r : roads.Ghosts R I O) (i : link_in.Ghosts I) (o : link_out.Ghosts O)
    (core core' : PrimaryState) (place : ℕ) (h : Heard) (links links' : List (Seat I O)) (old new : R)
    : Type 0 where
  pub hears : core' ≡ heard_at core place h
  pub settles : IsAt (λ before after. Settles r i o (not (shuts_at core place)) before after old new) place links links'

-- ITS FURTHER STEPS

abbrev pub UpdatesEnd : {R I O : Type 0} → roads.Ghosts R I O → link_in.Ghosts I → link_out.Ghosts O → PrimaryState
    → List (Seat I O) → List (Seat I O) → R → R → Result (Unit {0}) AllocError → PrimaryStep → Type 0
UpdatesEnd r i o core links links' old new (Ok _) result =
    SettlesAll r i o core.standings links links' old new × (result ≡ step.Moved)
UpdatesEnd r i o core links links' old new (Err _) result = EndsSo r i o recovered.Memory links links' old new result

-- The chosen members are sent the UPDATE, and the connections are given up on which no answer is awaited then.
pub record Updates {R I O : Type 0} (r : roads.Ghosts R I O) (i : link_in.Ghosts I) (o : link_out.Ghosts O)
    (core : PrimaryState) (chosen : Chosen) (members : List NodeId) (links links' : List (Seat I O))
    (old new : R) (result : PrimaryStep) : Type 0 where
  pub held : List (Seat I O)
  pub sending : Result (Unit {0}) AllocError
  pub sends : SendsRequest o (op.Recovery (request_of core kind.Update chosen.length)) members chosen.members links held
      sending
  pub ends : UpdatesEnd r i o core held links' old new sending result

-- The office is asked to commit, and the recovery ends by its answer.
pub record Commits {D R I O : Type 0} (d : desk.Ghosts D) (r : roads.Ghosts R I O) (i : link_in.Ghosts I)
    (o : link_out.Ghosts O) (core : PrimaryState) (chosen : Chosen) (links links' : List (Seat I O))
    (office office' : D) (old new : R) (result : PrimaryStep) : Type 0 where
  pub said : Result OfficeAnswer OfficeFault
  pub asks : AsksOffice d (sync_call core chosen) office office' said
  pub ends : EndsSo r i o (end_with core chosen said) links links' old new result

-- Nothing is done.
pub record IsIdle {D R I O : Type 0} (links links' : List (Seat I O)) (office office' : D) (old new : R)
    (result : PrimaryStep) : Type 0 where
  pub links_same : links' ≡ links
  pub office_same : office' ≡ office
  pub roads_same : new ≡ old
  pub waits : result ≡ step.Waiting

abbrev pub OwnsBy : {D R I O : Type 0} → desk.Ghosts D → roads.Ghosts R I O → link_in.Ghosts I → link_out.Ghosts O
    → OwnStep → PrimaryState → List NodeId → List (Seat I O) → List (Seat I O) → D → D → R → R
    → PrimaryStep → Type 0
OwnsBy d r i o own.Waits core members links links' office office' old new result =
    IsIdle links links' office office' old new result
OwnsBy d r i o (own.Updates c) core members links links' office office' old new result =
    (office' ≡ office) × Updates r i o core c members links links' old new result
OwnsBy d r i o (own.Commits c) core members links links' office office' old new result =
    Commits d r i o core c links links' office office' old new result
OwnsBy d r i o (own.Ends end) core members links links' office office' old new result =
    (office' ≡ office) × EndsSo r i o end links links' old new result

-- Memory ran out before anything was done.
pub record EndsUndone {D R I O : Type 0} (r : roads.Ghosts R I O) (i : link_in.Ghosts I) (o : link_out.Ghosts O)
    (core core' : PrimaryState) (links links' : List (Seat I O)) (office office' : D) (old new : R)
    (result : PrimaryStep) : Type 0 where
  pub core_same : core' ≡ core
  pub office_same : office' ≡ office
  pub ends : EndsSo r i o recovered.Memory links links' old new result

-- Its own step is done.
pub record OwnsSo {D R I O : Type 0} (d : desk.Ghosts D) (r : roads.Ghosts R I O) (i : link_in.Ghosts I)
    (o : link_out.Ghosts O) (core core' : PrimaryState) (members : List NodeId) (links links' : List (Seat I O))
    (office office' : D) (old new : R) (result : PrimaryStep) : Type 0 where
  pub core_after : core' ≡ (own_step core).primary
  pub does : OwnsBy d r i o (own_step core).does core' members links links' office office' old new result

abbrev pub Owns : {D R I O : Type 0} → desk.Ghosts D → roads.Ghosts R I O → link_in.Ghosts I → link_out.Ghosts O
    → PrimaryState → PrimaryState → List NodeId → List (Seat I O) → List (Seat I O) → D → D → R → R
    → PrimaryStep → Type 0
Owns d r i o core core' members links links' office office' old new result =
    EndsUndone r i o core core' links links' office office' old new result
    ⊎ OwnsSo d r i o core core' members links links' office office' old new result

-- What follows the looks: what was found is taken, or its own step is done where nothing was.
abbrev pub LeadsBy : {D R I O : Type 0} → desk.Ghosts D → roads.Ghosts R I O → link_in.Ghosts I → link_out.Ghosts O
    → Found → PrimaryState → PrimaryState → List NodeId → List (Seat I O) → List (Seat I O) → D → D
    → R → R → PrimaryStep → Type 0
LeadsBy d r i o (found.Heard place h) core core' members links links' office office' old new result =
    Hears r i o core core' place h links links' old new × (office' ≡ office) × (result ≡ step.Moved)
LeadsBy d r i o found.Nothing core core' members links links' office office' old new result =
    Owns d r i o core core' members links links' office office' old new result
LeadsBy d r i o found.Memory core core' members links links' office office' old new result =
    EndsUndone r i o core core' links links' office office' old new result

-- A step of a primary that has begun.
pub record Leads {D R I O : Type 0} (d : desk.Ghosts D) (r : roads.Ghosts R I O) (i : link_in.Ghosts I)
    (o : link_out.Ghosts O) (core core' : PrimaryState) (members : List NodeId) (links links' : List (Seat I O))
    (office office' : D) (old new : R) (result : PrimaryStep) : Type 0 where
  pub looked : Found
  pub seen : List (Seat I O)
  pub polls : PollsAll i core.standings links seen looked
  pub leads : LeadsBy d r i o looked core core' members seen links' office office' old new result

-- how the first step ended
abbrev pub begun_as : Result PrimaryState Recovered → PrimaryStep
begun_as (Ok core) = step.Moved
begun_as (Err end) = step.Ended end

-- how far the primary is then
abbrev pub core_of : Result PrimaryState Recovered → Option PrimaryState
core_of (Ok core) = Some core
core_of (Err end) = None

-- A primary that has begun does its own step, whatever stands on the connections.
abbrev pub OwnsAs : {D R I O : Type 0} → desk.Ghosts D → roads.Ghosts R I O → link_in.Ghosts I → link_out.Ghosts O
    → Option PrimaryState → Option PrimaryState → Primary I O → Primary I O → D → D → R → R → PrimaryStep → Type 0
OwnsAs d r i o (Some core) (Some core') p p' office office' old new result =
    Owns d r i o core core' p.members p.links.items p'.links.items office office' old new result
OwnsAs d r i o None None p p' office office' old new result =
    IsIdle p.links.items p'.links.items office office' old new result
OwnsAs d r i o core core' p p' office office' old new result = ⊥

abbrev pub LeadsOn : {D R I O : Type 0} → desk.Ghosts D → roads.Ghosts R I O → link_in.Ghosts I → link_out.Ghosts O
    → Primary I O → Primary I O → D → D → R → R → PrimaryStep → Type 0
LeadsOn d r i o p p' office office' old new result =
    OwnsAs d r i o p.core p'.core p p' office office' old new result
