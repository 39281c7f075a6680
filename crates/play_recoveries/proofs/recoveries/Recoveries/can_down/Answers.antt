-- The lower end says whether it takes what stands next.
use Rattle.std.proofs.Common.{◌<◌, Some, None, sym, subst}
use Rattle.play_nodes.proofs.PlaceLaws.{none_so, element_some}
use Rattle.play_recoveries.proofs.DueLaws.{server_at, server_within}
use Rattle.play_recoveries.proofs.ToldLaws.{told_down, none_down}
use Rattle.play_recoveries.proofs.recoveries.Recoveries.can_down.Goals as goal

pub returns-in_default-clause-tells : goal.returns-in_default-clause-tells
returns-in_default-clause-tells g c =
    none_down g.R.Roads g.I.LinkIn g.O.LinkOut c.args.conn c.args.self.now c.args.roads.now
    (server_at c.as_slice.result.now c.args.self.now.servers.items c.args.conn.0 c.server_of.result None c.as_slice.ensures.value (none_so c.server_of.result c.in_default.not-Some) c.server_of.ensures)

pub index-requires : goal.index-requires
index-requires g c =
    let place = server_at c.as_slice.result.now c.args.self.now.servers.items c.args.conn.0 c.server_of.result (Some c.in-Some.place) c.as_slice.ensures.value c.in-Some.is c.server_of.ensures in
    subst (λ n. c.in-Some.place < n) (sym c.args.self.now.servers.ok.0) (server_within c.args.self.now.servers.items c.args.conn.0 (Some c.in-Some.place) place)

pub returns-clause-tells : goal.returns-clause-tells
returns-clause-tells g c =
    let xs = c.args.self.now.servers.items in
    let place = server_at c.as_slice.result.now xs c.args.conn.0 c.server_of.result (Some c.in-Some.place) c.as_slice.ensures.value c.in-Some.is c.server_of.ensures in
    told_down g.R.Roads g.I.LinkIn g.O.LinkOut c.args.conn c.args.self.now c.in-Some.place c.index.result.now c.args.roads.now c.can_down.new.roads c.can_down.result place
    (element_some xs c.in-Some.place c.index.result.now (server_within xs c.args.conn.0 (Some c.in-Some.place) place) c.index.ensures) c.can_down.ensures.tells
