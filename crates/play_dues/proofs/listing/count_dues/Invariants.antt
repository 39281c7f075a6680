-- The count so far, with what is due of the connections that are left, makes that of all.
use Rattle.std.proofs.Common.{◌<◌, ◌+◌, ◌*◌, ◌^◌, drop}
use Rattle.play_clients.specs.MemberEvents.Roads.{RoadsPass}
use Rattle.play_dues.specs.Listing.{CountsFront}
use Rattle.play_dues.proofs.listing.count_dues.Given as goal

abbrev pub invariant-loop-conn : goal.invariant-loop-conn
invariant-loop-conn g l = record {
  counts : CountsFront g.R.Roads g.I.LinkIn g.O.LinkOut (drop l.conn-index l.conns) l.conns l.nodes l.clients l.reads l.recoveries l.fn.roads l.roads l.count;
  pass : RoadsPass g.R.Roads l.fn.roads l.roads;
  bound : l.count < 2 ^ 66 + 3 * l.conn-index;
}
