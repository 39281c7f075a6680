-- A reader takes what stands next on the connection over which it reads.
use Rattle.std.proofs.Common.{false}
use Rattle.play_readers.specs.Clients.{reads_over}
use Rattle.play_readers.proofs.DueLaws.{nothing_so, something_so, stands_so, asked_pass, reader_tells}
use Rattle.play_readers.proofs.clients.ReadClient.can_up.Goals as goal

pub returns-in-Nothing-clause-tells : goal.returns-in-Nothing-clause-tells
returns-in-Nothing-clause-tells g c = reader_tells g.R.Roads g.I.LinkIn g.O.LinkOut c.args.self.now c.args.conn c.args.roads.now c.standing.new.roads c.standing.result false c.standing.ensures.shows
    (nothing_so (reads_over c.args.self.now.state c.args.conn.0) c.standing.result c.in-Nothing.is)

pub returns-in-Piece : goal.returns-in-Piece
returns-in-Piece g c = record {
  tells = reader_tells g.R.Roads g.I.LinkIn g.O.LinkOut c.args.self.now c.args.conn c.args.roads.now c.standing.new.roads c.standing.result c.reads_over.result c.standing.ensures.shows
      (something_so (reads_over c.args.self.now.state c.args.conn.0) c.reads_over.result c.standing.result (stands_so c.standing.result c.in-Piece.is) c.reads_over.ensures);
  pass = asked_pass g.R.Roads g.I.LinkIn g.O.LinkOut c.args.roads.now c.standing.new.roads c.standing.ensures.plain c.standing.ensures.faults;
}
