-- A step that didn't end by a failed call on files.
use Rattle.std.proofs.Common.{◌≡◌, Err, refl}
use Rattle.hd_base.specs.declared.links.LinkIn as link_in
use Rattle.hd_base.specs.declared.links.LinkOut as link_out
use Rattle.hd_base.specs.declared.numbers.Receipt.{Receipt}
use Rattle.hd_base.specs.declared.roads.Roads as roads
use Rattle.pipe_member.specs.declared.member.Member.{Member}
use Rattle.pipe_member.specs.declared.stepped.Stepped.{Stepped}
use Rattle.pipe_member.specs.declared.stepped.Stepped.TheVariants as stepped
use Rattle.member_events.specs.declared.faults.MemberFault.{MemberFault}
use Rattle.member_events.specs.Steps.{IsPlaced, IsDownFault}
use Rattle.member_events.proofs.steps.placed_down.Goals as goal

other_fault : {R I O : Type 0} (r : roads.Ghosts R I O) (i : link_in.Ghosts I) (o : link_out.Ghosts O) (ended : Stepped) (m : Member I O) (road road' : R) (why : MemberFault) → ((receipt : Receipt) → ended ≡ stepped.File receipt → ⊥) → IsPlaced r i o ended m road road' (Err why) → IsDownFault r i o ended m road road' why
other_fault r i o (stepped.File receipt) m road road' why other p = absurd (other receipt refl)
other_fault r i o (stepped.LinkFailed receipt) m road road' why other p = p
other_fault r i o stepped.Memory m road road' why other p = p
other_fault r i o (stepped.Shut receipt) m road road' why other p = p
other_fault r i o (stepped.Moved receipt) m road road' why other p = p
other_fault r i o stepped.NotReady m road road' why other p = p

pub returns-in-Err-clause-ends : goal.returns-in-Err-clause-ends
returns-in-Err-clause-ends g c = other_fault g.R.Roads g.I.LinkIn g.O.LinkOut c.args.stepped c.args.member c.args.roads.now c.placed.new.roads c.in-Err.fault c.in_default.not-File c.in-Err.ensures.ends
