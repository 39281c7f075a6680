-- The counts of the connection are cut.
use Rattle.fault_ports.specs.PieceCounts.{dialled_by}
use Rattle.fault_ports.proofs.EndLaws.{known_seen}
use Rattle.fault_ports.proofs.StandingLaws.{cuts_of, seen_cut-of, counts_cut-of, keeps_cut}
use Rattle.fault_ports.proofs.cutting.CuttingCutRoads.cut.Goals as goal

pub invariant_of-self-2-clause-counted : goal.invariant_of-self-2-clause-counted
invariant_of-self-2-clause-counted g c =
    let P = g.R.Roads.plain c.args.self.now.inner in
    let old = c.args.self.now.counts.duplexes.items in
    let new = c.cut.new.self.duplexes.items in
    let cuts = cuts_of P old c.list.new.self.duplexes.items new c.args.conn.0 (dialled_by c.args.self.now.newest) c.args.down c.args.up (known_seen old P c.args.conn.0 c.requires) c.args.self.now.dialled c.args.self.now.counted
    c.in_ok-list.ensures.listed c.in_ok-list.ensures.counts c.in_ok-list.ensures.bounded c.cut.ensures.listed c.cut.ensures.counts in
    counts_cut-of P old new c.args.conn.0 c.args.down c.args.up cuts

pub returns-clause-cut : goal.returns-clause-cut
returns-clause-cut g c =
    let P = g.R.Roads.plain c.args.self.now.inner in
    let old = c.args.self.now.counts.duplexes.items in
    let new = c.cut.new.self.duplexes.items in
    let cuts = cuts_of P old c.list.new.self.duplexes.items new c.args.conn.0 (dialled_by c.args.self.now.newest) c.args.down c.args.up (known_seen old P c.args.conn.0 c.requires) c.args.self.now.dialled c.args.self.now.counted
    c.in_ok-list.ensures.listed c.in_ok-list.ensures.counts c.in_ok-list.ensures.bounded c.cut.ensures.listed c.cut.ensures.counts in
    seen_cut-of P old new c.args.conn.0 c.args.down c.args.up cuts

pub returns-clause-connections : goal.returns-clause-connections
returns-clause-connections g c = keeps_cut (g.R.Roads.plain c.args.self.now.inner) c.args.self.now.counts.duplexes.items c.cut.new.self.duplexes.items
