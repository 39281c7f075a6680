-- An end that goes on takes what stands next.
use Rattle.std.proofs.Common.{false, is_some}
use Rattle.play_servers.specs.Answering.{answer_conn}
use Rattle.play_servers.proofs.DueLaws.{nothing_so, something_so, stands_so, asked_pass, request_tells}
use Rattle.play_servers.proofs.recoveries.RecoveryServer.can_down.Goals as goal

pub returns-in-Nothing-clause-tells : goal.returns-in-Nothing-clause-tells
returns-in-Nothing-clause-tells g c =
    request_tells g.R.Roads g.I.LinkIn g.O.LinkOut c.args.self.now c.args.roads.now c.standing.new.roads c.standing.result false c.standing.ensures.shows
    (nothing_so (is_some (answer_conn c.args.self.now.end)) c.standing.result c.in-Nothing.is)

pub returns-in-Piece : goal.returns-in-Piece
returns-in-Piece g c = record {
  tells = request_tells g.R.Roads g.I.LinkIn g.O.LinkOut c.args.self.now c.args.roads.now c.standing.new.roads c.standing.result c.goes_on.result c.standing.ensures.shows
      (something_so (is_some (answer_conn c.args.self.now.end)) c.goes_on.result c.standing.result (stands_so c.standing.result c.in-Piece.is) c.goes_on.ensures);
  pass = asked_pass g.R.Roads g.I.LinkIn g.O.LinkOut c.args.roads.now c.standing.new.roads c.standing.ensures.plain c.standing.ensures.faults;
}
