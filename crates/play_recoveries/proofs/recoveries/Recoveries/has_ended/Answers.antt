-- The lower end says whether it has further events.
use Rattle.std.proofs.Common.{◌<◌, Some, None, sym, ap, ◌∙◌, subst}
use Rattle.std.specs.Prelude.{is_none}
use Rattle.play_nodes.proofs.PlaceLaws.{none_so, element_some}
use Rattle.play_recoveries.specs.Dues.{TellsEnded}
use Rattle.play_recoveries.proofs.DueLaws.{server_at, server_within}
use Rattle.play_recoveries.proofs.OverLaws.{told_ended, none_ended, none_told}
use Rattle.play_recoveries.proofs.recoveries.Recoveries.has_ended.Goals as goal

pub returns-in_default : goal.returns-in_default
returns-in_default g c =
    none_ended g.I.LinkIn g.O.LinkOut c.args.conn c.args.self.now
    (server_at c.as_slice.result.now c.args.self.now.servers.items c.args.conn.0 c.server_of.result None c.as_slice.ensures.value (none_so c.server_of.result c.in_default.not-Some) c.server_of.ensures)

pub index-requires : goal.index-requires
index-requires g c =
    let place = server_at c.as_slice.result.now c.args.self.now.servers.items c.args.conn.0 c.server_of.result (Some c.in-Some.place) c.as_slice.ensures.value c.in-Some.is c.server_of.ensures in
    subst (λ n. c.in-Some.place < n) (sym c.args.self.now.servers.ok.0) (server_within c.args.self.now.servers.items c.args.conn.0 (Some c.in-Some.place) place)

pub returns : goal.returns
returns g c =
    let xs = c.args.self.now.servers.items in
    let place = server_at c.as_slice.result.now xs c.args.conn.0 c.server_of.result (Some c.in-Some.place) c.as_slice.ensures.value c.in-Some.is c.server_of.ensures in
    subst (λ b. TellsEnded g.I.LinkIn g.O.LinkOut c.args.conn c.args.self.now b) (sym (none_told c.open_conn.result c.is_none.result c.is_none.ensures ∙ ap (λ x. is_none x) c.open_conn.ensures))
    (told_ended g.I.LinkIn g.O.LinkOut c.args.conn c.args.self.now c.in-Some.place c.index.result.now place
    (element_some xs c.in-Some.place c.index.result.now (server_within xs c.args.conn.0 (Some c.in-Some.place) place) c.index.ensures))
