-- The end was shut, and brought back.
use Rattle.std.proofs.Common.{true, Result, Ok, Err, rules}
use Rattle.hd_base.specs.declared.ends.Conn.{Conn}
use Rattle.hd_base.specs.declared.links.LinkIn as link_in
use Rattle.hd_base.specs.declared.links.LinkOut as link_out
use Rattle.hd_base.specs.declared.roads.Roads as roads
use Rattle.pipe_member.specs.PipeTurns.Acting.{ShutsEnd}
use Rattle.member_events.specs.declared.faults.MemberFault.{MemberFault}
use Rattle.member_events.specs.Beginning.{IsBrought, IsClosed}
use Rattle.member_events.proofs.beginning.closed.Goals as goal

closed_as : {R I O : Type 0} (r : roads.Ghosts R I O) (i : link_in.Ghosts I) (o : link_out.Ghosts O) (old shut : Conn I O) (result : Result (Unit {0}) MemberFault) (road road' : R) → ShutsEnd o true old shut
    → IsBrought r i o shut road road' result → IsClosed r i o old road road' result
closed_as r i o old shut (Ok u) road road' shuts h = record { shut = shut; shuts = shuts; brings = h }
closed_as r i o old shut (Err why) road road' shuts h = h

pub returns-clause-ends : goal.returns-clause-ends
returns-clause-ends g c =
    closed_as g.R.Roads g.I.LinkIn g.O.LinkOut c.args.end (record c.args.end { outward = c.shut.new.self }) c.brought.result c.args.roads.now c.brought.new.roads (search rules) c.brought.ensures.ends
