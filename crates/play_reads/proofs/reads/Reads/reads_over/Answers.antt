-- The client of the reader that dialled says over which connection it reads.
use Rattle.std.proofs.Common.{Some, subst}
use Rattle.play_nodes.proofs.PlaceLaws.{none_so, element_some}
use Rattle.play_reads.specs.Dues.{TellsClient}
use Rattle.play_reads.proofs.OverLaws.{none_over, told_over}
use Rattle.play_reads.proofs.reads.Reads.reads_over.Goals as goal

pub returns-in_default : goal.returns-in_default
returns-in_default g c =
    none_over g.I.LinkIn g.O.LinkOut c.args.conn c.args.nodes.now c.args.self.now
    (subst (λ x. TellsClient g.I.LinkIn g.O.LinkOut c.args.conn c.args.nodes.now c.args.self.now x) (none_so c.client_at.result c.in_default.not-Some) c.client_at.ensures.tells)

pub returns : goal.returns
returns g c =
    told_over g.I.LinkIn g.O.LinkOut c.args.conn c.args.nodes.now c.args.self.now c.in-Some.place c.index.result.now (Some c.in-Some-conn.over) c.in-Some.ensures.tells
    (element_some c.args.self.now.clients.items c.in-Some.place c.index.result.now c.in-Some.ensures.within c.index.ensures) c.in-Some-conn.ensures.tells
