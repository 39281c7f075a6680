-- What is sought is what is sought among the connections that are left.
use Rattle.std.proofs.Common.{drop}
use Rattle.play_clients.specs.MemberEvents.Roads.{RoadsPass}
use Rattle.play_dues.specs.Listing.{StandsBehind}
use Rattle.play_dues.proofs.listing.pick_dues.Given as goal

abbrev pub invariant-loop-conn : goal.invariant-loop-conn
invariant-loop-conn g l = record {
  behind : StandsBehind g.R.Roads g.I.LinkIn g.O.LinkOut l.fn.number (drop l.conn-index l.conns) l.conns l.nodes l.clients l.reads l.recoveries l.fn.roads l.roads l.rest;
  pass : RoadsPass g.R.Roads l.fn.roads l.roads;
}
