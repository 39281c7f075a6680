-- What follows a step of a member.
use Rattle.std.specs.Prelude.{◌≡◌, Bool, true, false, Option, Some, None, Result, Ok, Err}
use Rattle.hd_base.specs.declared.numbers.ConnId.{ConnId}
use Rattle.hd_base.specs.declared.links.LinkIn as link_in
use Rattle.hd_base.specs.declared.links.LinkOut as link_out
use Rattle.hd_base.specs.declared.roads.Roads as roads
use Rattle.pipe_member.specs.declared.member.Member.{Member}
use Rattle.pipe_member.specs.declared.stepped.Stepped.{Stepped}
use Rattle.pipe_member.specs.declared.stepped.Stepped.TheVariants as stepped
use Rattle.pipe_member.specs.Exchanges.{ExchangesBoth, BringsBoth}
use Rattle.member_events.specs.declared.faults.MemberFault.{MemberFault}
use Rattle.member_events.specs.declared.faults.MemberFault.TheVariants as fault
use Rattle.member_events.specs.declared.steps.Downed.{Downed}
use Rattle.member_events.specs.declared.steps.Downed.TheVariants as downed
use Rattle.member_events.specs.Faults.{IsRoadFault}

-- Both ends were exchanged, or the exchange failed.
abbrev pub IsExchanged : {R I O : Type 0} → roads.Ghosts R I O → link_in.Ghosts I → link_out.Ghosts O →
    Option ConnId → Member I O → R → R → Result (Member I O) MemberFault → Type 0
IsExchanged r i o take old road road' (Ok new) = ExchangesBoth r i o take old new road road' (Ok tt)
IsExchanged r i o take old road road' (Err why) = IsRoadFault (r.faults road) (r.faults road') why

-- Both ends were brought back, or memory ran out.
abbrev pub IsRetired : {R I O : Type 0} → roads.Ghosts R I O → link_in.Ghosts I → link_out.Ghosts O → Member I O → R →
    R → Result (Unit {0}) MemberFault → Type 0
IsRetired r i o m road road' (Ok u) = BringsBoth r i o m road road' (Ok u)
IsRetired r i o m road road' (Err why) = why ≡ fault.Memory

-- Both ends of a member of which a link failed were brought back, or memory ran out.
abbrev pub IsLost : {R I O : Type 0} → roads.Ghosts R I O → link_in.Ghosts I → link_out.Ghosts O → Member I O → R → R →
    MemberFault → Type 0
IsLost r i o m road road' fault.LinkFailed = BringsBoth r i o m road road' (Ok tt)
IsLost r i o m road road' fault.Memory = Unit {0}
IsLost r i o m road road' other = ⊥

-- The step failed so.
abbrev pub FailsBy : {M : Type 0} → (MemberFault → Type 0) → Result (Option M) MemberFault → Type 0
FailsBy P (Ok left) = ⊥
FailsBy P (Err why) = P why

-- A member that has shut is brought back.
abbrev pub PlacesShut : {R I O : Type 0} → roads.Ghosts R I O → link_in.Ghosts I → link_out.Ghosts O → Member I O → R →
    R → Result (Option (Member I O)) MemberFault → Type 0
PlacesShut r i o m road road' (Ok None) = BringsBoth r i o m road road' (Ok tt)
PlacesShut r i o m road road' (Ok (Some new)) = ⊥
PlacesShut r i o m road road' (Err why) = why ≡ fault.Memory

-- One that goes on is exchanged, and handed back.
abbrev pub PlacesOpen : {R I O : Type 0} → roads.Ghosts R I O → link_in.Ghosts I → link_out.Ghosts O → Member I O → R →
    R → Result (Option (Member I O)) MemberFault → Type 0
PlacesOpen r i o m road road' (Ok None) = ⊥
PlacesOpen r i o m road road' (Ok (Some new)) = ExchangesBoth r i o None m new road road' (Ok tt)
PlacesOpen r i o m road road' (Err why) = IsRoadFault (r.faults road) (r.faults road') why

-- What follows a step that ended so.
abbrev pub IsPlaced : {R I O : Type 0} → roads.Ghosts R I O → link_in.Ghosts I → link_out.Ghosts O → Stepped →
    Member I O → R → R → Result (Option (Member I O)) MemberFault → Type 0
IsPlaced r i o (stepped.LinkFailed receipt) m road road' result = FailsBy (IsLost r i o m road road') result
IsPlaced r i o (stepped.File receipt) m road road' result = FailsBy (λ why. why ≡ fault.FilesFailed) result
IsPlaced r i o stepped.Memory m road road' result = FailsBy (λ why. why ≡ fault.Memory) result
IsPlaced r i o (stepped.Shut receipt) m road road' result = PlacesShut r i o m road road' result
IsPlaced r i o (stepped.Moved receipt) m road road' result = PlacesOpen r i o m road road' result
IsPlaced r i o stepped.NotReady m road road' result = PlacesOpen r i o m road road' result

-- what is left of a member that has taken what stood next from above
abbrev pub member_left : {I O : Type 0} → Downed I O → Option (Member I O)
member_left (downed.Done left) = left
member_left downed.Broke = None

-- The link from above has failed, or memory ran out.
abbrev pub IsLinkFault : Bool → MemberFault → Type 0
IsLinkFault risen fault.LinkFailed = risen ≡ true
IsLinkFault risen fault.Memory = Unit {0}
IsLinkFault risen other = ⊥

-- Both ends of a member whose replica broke were brought back, and its link from above hasn't failed.
pub record BringsBroken {R I O : Type 0} (r : roads.Ghosts R I O) (i : link_in.Ghosts I) (o : link_out.Ghosts O)
    (m : Member I O) (road road' : R) : Type 0 where
  pub brought : BringsBoth r i o m road road' (Ok tt)
  pub unfailed : r.risen road' m.upstream.id.0 ≡ false

-- So they were, or the link from above has failed, or memory ran out.
abbrev pub IsBroken : {R I O : Type 0} → roads.Ghosts R I O → link_in.Ghosts I → link_out.Ghosts O → Member I O → R →
    R → Result (Downed I O) MemberFault → Type 0
IsBroken r i o m road road' (Ok downed.Broke) = BringsBroken r i o m road road'
IsBroken r i o m road road' (Ok (downed.Done left)) = ⊥
IsBroken r i o m road road' (Err why) = IsLinkFault (r.risen road' m.upstream.id.0) why

-- The step ended by a failed call on files.
abbrev pub EndsBroken : Stepped → Type 0 → Type 0
EndsBroken (stepped.File receipt) P = P
EndsBroken other P = ⊥

-- A step down failed so.
abbrev pub IsDownFault : {R I O : Type 0} → roads.Ghosts R I O → link_in.Ghosts I → link_out.Ghosts O → Stepped →
    Member I O → R → R → MemberFault → Type 0
IsDownFault r i o (stepped.File receipt) m road road' why = IsLinkFault (r.risen road' m.upstream.id.0) why
IsDownFault r i o other m road road' why = IsPlaced r i o other m road road' (Err why)

-- What follows a step down that ended so.
abbrev pub IsDowned : {R I O : Type 0} → roads.Ghosts R I O → link_in.Ghosts I → link_out.Ghosts O → Stepped →
    Member I O → R → R → Result (Downed I O) MemberFault → Type 0
IsDowned r i o ended m road road' (Ok (downed.Done left)) = IsPlaced r i o ended m road road' (Ok left)
IsDowned r i o ended m road road' (Ok downed.Broke) = EndsBroken ended (BringsBroken r i o m road road')
IsDowned r i o ended m road road' (Err why) = IsDownFault r i o ended m road road' why
