-- What follows a primary's own step that sent the UPDATE.
use Rattle.std.specs.Prelude.{◌≡◌, ◌⊎◌, ℕ, Bool, true, false, List, slice_get, Option, Some, None, Result, Ok, Err}
use Rattle.std.specs.List.{list_any}
use Rattle.hd_base.specs.Faults.{FaultsIncreased}
use Rattle.hd_base.specs.declared.links.LinkIn as link_in
use Rattle.hd_base.specs.declared.links.LinkOut as link_out
use Rattle.hd_base.specs.declared.numbers.ConnId.{ConnId}
use Rattle.hd_base.specs.declared.roads.Roads as roads
use Rattle.block_recovery.specs.declared.primary.Primary as running
use Rattle.block_recovery.specs.declared.primary.PrimaryStep.{PrimaryStep}
use Rattle.block_recovery.specs.declared.primary.PrimaryStep.TheVariants as step
use Rattle.block_recovery.specs.Dialling.{is_lost}
use Rattle.block_recovery.specs.Exchanging.{ExchangesAll, BringsAll}
use Rattle.block_recovery.specs.Failing.{link_failed}
use Rattle.primary_events.specs.declared.faults.PrimaryFault.{PrimaryFault}
use Rattle.primary_events.specs.declared.faults.PrimaryFault.TheVariants as fault

-- an end of the connection, if there is one, was brought back with a count that had risen
abbrev pub is_risen : (ℕ → Bool) → Option ConnId → Bool
is_risen risen None = false
is_risen risen (Some conn) = risen conn.0

-- One of these connections is such a one.
pub record HasRisen {R I O : Type 0} (r : roads.Ghosts R I O) (conns : List (Option ℕ)) (road : R) : Type 0 where
  pub place : ℕ
  pub conn : ℕ
  pub stands : slice_get conns place ≡ Some (Some conn)
  pub rose : r.risen road conn ≡ true

-- No link to a member has failed, nor is one of these connections such a one; all ends were exchanged.
pub record ExchangesWhole {R I O : Type 0} (r : roads.Ghosts R I O) (i : link_in.Ghosts I) (o : link_out.Ghosts O)
    (conns : List (Option ConnId)) (old new : running.Primary I O) (road road' : R) : Type 0 where
  pub work : list_any link_failed old.links.items ≡ false
  pub none_risen : list_any (is_risen (r.risen road)) conns ≡ false
  pub exchanges : ExchangesAll r i o None old.links.items new.links.items road road' (Ok tt)
  pub core : new.core ≡ old.core

-- All ends were brought back, or one of them is lost.
pub record Brings {R I O : Type 0} (r : roads.Ghosts R I O) (i : link_in.Ghosts I) (o : link_out.Ghosts O)
    (old new : running.Primary I O) (road road' : R) : Type 0 where
  pub brings : BringsAll r i o old.links.items new.links.items road road'
  pub none_lost : list_any (λ link. is_lost (Some link)) new.links.items ≡ false

abbrev pub Retires : {R I O : Type 0} → roads.Ghosts R I O → link_in.Ghosts I → link_out.Ghosts O →
    running.Primary I O → running.Primary I O → R → R → PrimaryFault → Type 0
Retires r i o old new road road' fault.LinkFailed = Brings r i o old new road road'
Retires r i o old new road road' fault.RoadsFailed = ⊥
Retires r i o old new road road' fault.Memory = Unit {0}

-- The link to a member had failed, and all ends were brought back.
pub record RetiresFailed {R I O : Type 0} (r : roads.Ghosts R I O) (i : link_in.Ghosts I) (o : link_out.Ghosts O)
    (old new : running.Primary I O) (road road' : R) : Type 0 where
  pub fails : list_any link_failed old.links.items ≡ true
  pub brings : Brings r i o old new road road'

-- All ends are exchanged, unless a link had failed, or the roads fail.
abbrev pub Flushes : {R I O : Type 0} → roads.Ghosts R I O → link_in.Ghosts I → link_out.Ghosts O →
    List (Option ConnId) → running.Primary I O → running.Primary I O → R → R → Result PrimaryStep PrimaryFault → Type 0
Flushes r i o conns old new road road' (Ok s) = (s ≡ step.Moved) × ExchangesWhole r i o conns old new road road'
Flushes r i o conns old new road road' (Err fault.LinkFailed) =
    RetiresFailed r i o old new road road' ⊎ (list_any (is_risen (r.risen road')) conns ≡ true)
Flushes r i o conns old new road road' (Err fault.RoadsFailed) = FaultsIncreased (r.faults road) (r.faults road')
Flushes r i o conns old new road road' (Err fault.Memory) = Unit {0}

-- Behind each other step nothing more is done.
pub record IsDone {R I O : Type 0} (old new : running.Primary I O) (road road' : R)
    (first result : Result PrimaryStep PrimaryFault) : Type 0 where
  pub primary_same : new ≡ old
  pub roads_same : road' ≡ road
  pub is : result ≡ first

abbrev pub FollowsStep : {R I O : Type 0} → roads.Ghosts R I O → link_in.Ghosts I → link_out.Ghosts O →
    List (Option ConnId) → PrimaryStep → running.Primary I O → running.Primary I O → R → R →
    Result PrimaryStep PrimaryFault → Type 0
FollowsStep r i o conns step.Moved old new road road' result = Flushes r i o conns old new road road' result
FollowsStep r i o conns other old new road road' result = IsDone old new road road' (Ok other) result

abbrev pub Follows : {R I O : Type 0} → roads.Ghosts R I O → link_in.Ghosts I → link_out.Ghosts O →
    List (Option ConnId) → Result PrimaryStep PrimaryFault → running.Primary I O → running.Primary I O → R → R →
    Result PrimaryStep PrimaryFault → Type 0
Follows r i o conns (Ok s) old new road road' result = FollowsStep r i o conns s old new road road' result
Follows r i o conns (Err why) old new road road' result = IsDone old new road road' (Err why) result
