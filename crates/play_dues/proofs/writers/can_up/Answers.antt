-- A writer takes what stands next on the connection that it has.
use Rattle.std.proofs.Common.{false}
use Rattle.play_clients.proofs.ClientEvents.SetUpPass.{pass_plain}
use Rattle.world.specs.Connections.{is_conn}
use Rattle.play_dues.specs.Writers.{conn_of}
use Rattle.play_dues.proofs.WriterLaws.{nothing_so, something_so, stands_so, writer_tells}
use Rattle.play_dues.proofs.writers.can_up.Goals as goal

pub returns-in-Nothing-clause-tells : goal.returns-in-Nothing-clause-tells
returns-in-Nothing-clause-tells g c = writer_tells g.R.Roads g.I.LinkIn g.O.LinkOut c.args.client.now c.args.conn c.args.roads.now c.standing.new.roads c.standing.result false c.standing.ensures.shows
    (nothing_so (is_conn (conn_of c.args.client.now.pipe) c.args.conn.0) c.standing.result c.in-Nothing.is)

pub returns-in-Piece : goal.returns-in-Piece
returns-in-Piece g c = record {
  tells = writer_tells g.R.Roads g.I.LinkIn g.O.LinkOut c.args.client.now c.args.conn c.args.roads.now c.standing.new.roads c.standing.result c.has_conn.result c.standing.ensures.shows
      (something_so (is_conn (conn_of c.args.client.now.pipe) c.args.conn.0) c.has_conn.result c.standing.result (stands_so c.standing.result c.in-Piece.is) c.has_conn.ensures);
  pass = pass_plain g.R.Roads g.I.LinkIn g.O.LinkOut c.args.roads.now c.standing.new.roads c.standing.ensures.plain c.standing.ensures.faults;
}
