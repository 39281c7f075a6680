-- A primary takes what stands next on a connection that it has.
use Rattle.std.proofs.Common.{false}
use Rattle.play_readers.proofs.DueLaws.{nothing_so, something_so, stands_so, asked_pass}
use Rattle.play_primaries.specs.Clients.{hears_on}
use Rattle.play_primaries.proofs.DueLaws.{primary_tells}
use Rattle.play_primaries.proofs.clients.PrimaryClient.can_up.Goals as goal

pub returns-in-Nothing-clause-tells : goal.returns-in-Nothing-clause-tells
returns-in-Nothing-clause-tells g c = primary_tells g.R.Roads g.I.LinkIn g.O.LinkOut c.args.self.now c.args.conn c.args.place c.args.roads.now c.standing.new.roads c.standing.result false c.standing.ensures.shows
    (nothing_so (hears_on c.args.self.now.state c.args.conn.0 c.args.place) c.standing.result c.in-Nothing.is)

pub returns-in-Piece : goal.returns-in-Piece
returns-in-Piece g c = record {
  tells = primary_tells g.R.Roads g.I.LinkIn g.O.LinkOut c.args.self.now c.args.conn c.args.place c.args.roads.now c.standing.new.roads c.standing.result c.hears_on.result c.standing.ensures.shows
      (something_so (hears_on c.args.self.now.state c.args.conn.0 c.args.place) c.hears_on.result c.standing.result (stands_so c.standing.result c.in-Piece.is) c.hears_on.ensures);
  pass = asked_pass g.R.Roads g.I.LinkIn g.O.LinkOut c.args.roads.now c.standing.new.roads c.standing.ensures.plain c.standing.ensures.faults;
}
