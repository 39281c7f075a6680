-- A block recovery, from its first step to its last.
use Rattle.std.specs.Prelude.{◌≡◌, ◌⊎◌, ℕ, Bool, true, false, List, Option, Some, None}
use Rattle.std.specs.List.{list_any}
use Rattle.hd_base.specs.declared.numbers.BlockId.{BlockId}
use Rattle.hd_base.specs.declared.numbers.NodeId.{NodeId}
use Rattle.hd_base.specs.declared.links.LinkIn as link_in
use Rattle.hd_base.specs.declared.links.LinkOut as link_out
use Rattle.hd_base.specs.declared.roads.Roads as roads
use Rattle.name_core.specs.declared.desks.Desk as desk
use Rattle.recovery_core.specs.declared.primary.Recovered.{Recovered}
use Rattle.recovery_core.specs.declared.primary.Recovered.TheVariants as recovered
use Rattle.recovery_core.specs.Primaries.{PrimaryState}
use Rattle.block_recovery.specs.declared.primary.Primary.{Primary}
use Rattle.block_recovery.specs.declared.primary.PrimaryStep.{PrimaryStep}
use Rattle.block_recovery.specs.declared.primary.PrimaryStep.TheVariants as step
use Rattle.block_recovery.specs.Actions.{Passes}
use Rattle.block_recovery.specs.Beginning.{StartsSo}
use Rattle.block_recovery.specs.Dialling.{is_lost}
use Rattle.block_recovery.specs.Steps.{IsNew, Leads}

-- Its first step, or one of a primary that has begun.
abbrev pub StepsAs : {D R I O : Type 0} → desk.Ghosts D → roads.Ghosts R I O → link_in.Ghosts I → link_out.Ghosts O
    → Option PrimaryState → Option PrimaryState → Primary I O → Primary I O → D → D → R → R → PrimaryStep → Type 0
StepsAs d r i o None core' p p' office office' old new result = StartsSo d r i o p p' office office' old new result
StepsAs d r i o (Some core) (Some core') p p' office office' old new result =
    Leads d r i o core core' p.members p.links.items p'.links.items office office' old new result
StepsAs d r i o (Some core) None p p' office office' old new result = ⊥

-- A step of a primary.
abbrev pub Steps : {D R I O : Type 0} → desk.Ghosts D → roads.Ghosts R I O → link_in.Ghosts I → link_out.Ghosts O
    → Primary I O → Primary I O → D → D → R → R → PrimaryStep → Type 0
Steps d r i o p p' office office' old new result =
    StepsAs d r i o p.core p'.core p p' office office' old new result

-- Between two steps: the primary, the office and the roads.
pub record Place (D R I O : Type 0) : Type 0 where
  pub primary : Primary I O
  pub office : D
  pub road : R

-- A step leads from one place to another, and ends so.
abbrev pub StepLeads : {D R I O : Type 0} → desk.Ghosts D → roads.Ghosts R I O → link_in.Ghosts I → link_out.Ghosts O
    → Place D R I O → Place D R I O → PrimaryStep → Type 0
StepLeads d r i o a b result = Steps d r i o a.primary b.primary a.office b.office a.road b.road result

-- It didn't end the recovery.
abbrev pub LeadsOn : {D R I O : Type 0} → desk.Ghosts D → roads.Ghosts R I O → link_in.Ghosts I → link_out.Ghosts O
    → ℕ → Place D R I O → Place D R I O → Type 0
LeadsOn d r i o k a b = StepLeads d r i o a b step.Moved ⊎ StepLeads d r i o a b step.Waiting

-- Steps lead from one place to another, and none of them ended the recovery.
pub record Comes {D R I O : Type 0} (d : desk.Ghosts D) (r : roads.Ghosts R I O) (i : link_in.Ghosts I)
    (o : link_out.Ghosts O) (a b : Place D R I O) : Type 0 where
  pub count : ℕ
  pub passes : Passes (LeadsOn d r i o) count a b

-- an end is lost only where memory ran out
abbrev pub ended_as : Recovered → Bool → Recovered
ended_as end true = recovered.Memory
ended_as end false = end

-- The steps of a recovery, the last of which ended it so, or an end was lost in them for want of memory.
pub record EndsIn {D R I O : Type 0} (d : desk.Ghosts D) (r : roads.Ghosts R I O) (i : link_in.Ghosts I)
    (o : link_out.Ghosts O) (block : BlockId) (members : List NodeId) (office office' : D) (old new : R)
    (result : Recovered) : Type 0 where
  pub first : Primary I O
  pub last : Primary I O
  pub before : Place D R I O
  pub is_new : IsNew block members first
  pub comes : Comes d r i o (record { primary = first; office = office; road = old }) before
  pub end : Recovered
  pub ends : StepLeads d r i o before (record { primary = last; office = office'; road = new }) (step.Ended end)
  pub is : result ≡ ended_as end (list_any (λ link. is_lost (Some link)) last.links.items)

-- There was no memory to begin, and nothing was done.
pub record IsUndone {D R : Type 0} (office office' : D) (old new : R) (result : Recovered) : Type 0 where
  pub office_same : office' ≡ office
  pub roads_same : new ≡ old
  pub is : result ≡ recovered.Memory

abbrev pub Recovers : {D R I O : Type 0} → desk.Ghosts D → roads.Ghosts R I O → link_in.Ghosts I → link_out.Ghosts O
    → BlockId → List NodeId → D → D → R → R → Recovered → Type 0
Recovers d r i o block members office office' old new result =
    IsUndone office office' old new result ⊎ EndsIn d r i o block members office office' old new result
