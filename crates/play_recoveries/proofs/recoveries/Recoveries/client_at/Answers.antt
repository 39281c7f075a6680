-- The client of the primary that dialled.
use Rattle.std.proofs.Common.{option_map, Some, None, subst}
use Rattle.play_nodes.proofs.PlaceLaws.{none_so}
use Rattle.play_recoveries.specs.Dues.{pair_of, TellsDialler}
use Rattle.play_recoveries.proofs.DueLaws.{client_at, client_within, no_dialler, no_client, client_told}
use Rattle.play_recoveries.proofs.recoveries.Recoveries.client_at.Goals as goal

pub returns-in_default-clause-tells : goal.returns-in_default-clause-tells
returns-in_default-clause-tells g c =
    no_dialler g.I.LinkIn g.O.LinkOut c.args.nodes.now c.args.conn c.args.self.now
    (subst (λ x. TellsDialler g.I.LinkIn g.O.LinkOut c.args.conn c.args.nodes.now (option_map pair_of x)) (none_so c.primary_of.result c.in_default.not-Some) c.primary_of.ensures)

pub returns-in_default-client_of-clause-tells : goal.returns-in_default-client_of-clause-tells
returns-in_default-client_of-clause-tells g c =
    no_client g.I.LinkIn g.O.LinkOut c.args.nodes.now c.args.conn c.args.self.now (pair_of c.in-Some.dialler)
    (subst (λ x. TellsDialler g.I.LinkIn g.O.LinkOut c.args.conn c.args.nodes.now (option_map pair_of x)) c.in-Some.is c.primary_of.ensures)
    (client_at c.as_slice.result.now c.args.self.now.clients.items c.in-Some.dialler.primary c.client_of.result None c.as_slice.ensures.value (none_so c.client_of.result c.in_default-client_of.not-Some) c.client_of.ensures)

pub returns-clause-tells : goal.returns-clause-tells
returns-clause-tells g c =
    client_told g.I.LinkIn g.O.LinkOut c.args.nodes.now c.args.conn c.args.self.now (pair_of c.in-Some.dialler) c.in-Some-client_of.client
    (subst (λ x. TellsDialler g.I.LinkIn g.O.LinkOut c.args.conn c.args.nodes.now (option_map pair_of x)) c.in-Some.is c.primary_of.ensures)
    (client_at c.as_slice.result.now c.args.self.now.clients.items c.in-Some.dialler.primary c.client_of.result (Some c.in-Some-client_of.client) c.as_slice.ensures.value c.in-Some-client_of.is c.client_of.ensures)

pub returns-clause-within : goal.returns-clause-within
returns-clause-within g c =
    client_within c.args.self.now.clients.items c.in-Some.dialler.primary (Some c.in-Some-client_of.client)
    (client_at c.as_slice.result.now c.args.self.now.clients.items c.in-Some.dialler.primary c.client_of.result (Some c.in-Some-client_of.client) c.as_slice.ensures.value c.in-Some-client_of.is c.client_of.ensures)
