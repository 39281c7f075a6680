-- The client of the reader that dialled.
use Rattle.std.proofs.Common.{subst}
use Rattle.play_reads.specs.Places.{IsClientPlace}
use Rattle.play_reads.proofs.DueLaws.{client_within, client_told}
use Rattle.play_reads.proofs.reads.Reads.client_at.Goals as goal

pub returns-clause-tells : goal.returns-clause-tells
returns-clause-tells g c =
    client_told g.I.LinkIn g.O.LinkOut c.args.nodes.now c.args.conn c.args.self.now c.in-Some.reader c.client_of.result c.in-Some.ensures
    (subst (λ xs. IsClientPlace xs c.in-Some.reader c.client_of.result) c.as_slice.ensures.value c.client_of.ensures)

pub returns-clause-within : goal.returns-clause-within
returns-clause-within g c =
    client_within c.args.self.now.clients.items c.in-Some.reader c.client_of.result (subst (λ xs. IsClientPlace xs c.in-Some.reader c.client_of.result) c.as_slice.ensures.value c.client_of.ensures)
