-- What stands on the connection, or nothing past the last one.
use Rattle.std.proofs.Common.{arith, ap, sym, ◌∙◌}
use Rattle.hd_base.specs.Channels.{standing_of}
use Rattle.mem_ports.proofs.DuplexLaws.{channels-at, channels-past}
use Rattle.mem_ports.proofs.roads.MemRoadsRoads.standing.Goals as goal

pub returns-then-place-len-clause-next : goal.returns-then-place-len-clause-next
returns-then-place-len-clause-next c =
    let duplexes = c.args.self.now.duplexes in
    c.standing.ensures ∙ ap standing_of (sym (channels-at duplexes.items c.args.conn.0 c.index.result.now c.args.down (omega (arith, c.if-place-len.true, c.len.ensures, duplexes.ok.0)) c.index.ensures))

pub returns-else-place-len-clause-next : goal.returns-else-place-len-clause-next
returns-else-place-len-clause-next c =
    let duplexes = c.args.self.now.duplexes in
    ap standing_of (sym (channels-past duplexes.items c.args.conn.0 c.args.down (omega (arith, c.if-place-len.false, c.len.ensures, duplexes.ok.0))))
