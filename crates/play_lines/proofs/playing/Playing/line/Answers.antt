-- A line starts a node, makes a write fail, asks to read or to recover, or does something else.
use Rattle.play_scripts.proofs.MemberEvents.SetupKnown.{pass_same}
use Rattle.std.proofs.Common.{Ok, refl}
use Rattle.play_lines.proofs.FaultLines.{fault_line, told_fault, none_arms}
use Rattle.play_lines.proofs.ReadLines.{read_line}
use Rattle.play_lines.proofs.RecoverLines.{recover_line}
use Rattle.play_lines.proofs.ShelfLemmas.{go_on}
use Rattle.play_lines.proofs.StartLines.{start_line, other_line, told_so, told_read, none_starts, none_asks, none_recovers}
use Rattle.play_lines.proofs.playing.Playing.line.Goals as goal

pub start-requires-clause-told : goal.start-requires-clause-told
start-requires-clause-told g c κs within = told_so g.S.ToldShelf.told c.args.line.now.instruction c.in-Start.node c.in-Start.is c.requires.told

pub returns-in-Start-clause-shows : goal.returns-in-Start-clause-shows
returns-in-Start-clause-shows g c =
    start_line g.S.Shelf g.F.Files g.R.Roads g.I.LinkIn g.O.LinkOut c.args.self.now c.start.new.self c.args.roads.now c.start.new.roads c.args.shelves.now c.start.new.shelves c.args.line.now c.in-Start.node c.start.result c.in-Start.is c.start.ensures.shows

pub returns-in-Read-clause-shows : goal.returns-in-Read-clause-shows
returns-in-Read-clause-shows g c =
    read_line g.S.Shelf g.F.Files g.R.Roads g.I.LinkIn g.O.LinkOut c.args.self.now c.ask.new.self c.args.roads.now c.args.shelves.now c.args.line.now c.in-Read.block c.in-Read.node c.in-Read.offset c.in-Read.count c.ask.result c.in-Read.is
    (c.told_shelves_tell.ensures (told_read g.S.ToldShelf.told c.args.line.now.instruction c.in-Read.block c.in-Read.node c.in-Read.offset c.in-Read.count c.in-Read.is c.requires.told)).drawers
    c.asks_are_plays.ensures c.ask.ensures.fits c.ask.ensures.asks

pub returns-in-Read-clause-shelves : goal.returns-in-Read-clause-shelves
returns-in-Read-clause-shelves g c =
    go_on g.S.Shelf g.F.Files c.args.shelves.now c.args.self.now c.ask.new.self c.ask.result c.ask.ensures.sizes c.requires.serve

pub returns-in-Recover-clause-shows : goal.returns-in-Recover-clause-shows
returns-in-Recover-clause-shows g c =
    recover_line g.S.Shelf g.F.Files g.R.Roads g.I.LinkIn g.O.LinkOut c.args.self.now c.recover.new.self c.args.roads.now c.args.shelves.now c.args.line.now c.in-Recover.block c.in-Recover.node c.in-Recover.members c.duplicate.result c.recover.result c.duplicate.ensures c.in-Recover.is
    c.recovers_are_plays.ensures c.recover.ensures.recovers

pub returns-in-Recover-clause-shelves : goal.returns-in-Recover-clause-shelves
returns-in-Recover-clause-shelves g c =
    go_on g.S.Shelf g.F.Files c.args.shelves.now c.args.self.now c.recover.new.self c.recover.result c.recover.ensures.sizes c.requires.serve

pub returns-in-Fault-clause-shows : goal.returns-in-Fault-clause-shows
returns-in-Fault-clause-shows g c =
    fault_line g.S.Shelf g.F.Files g.R.Roads g.I.LinkIn g.O.LinkOut c.args.self.now c.arm.new.self c.args.roads.now c.args.shelves.now c.args.line.now c.in-Fault.node c.in-Fault.nth c.in-Fault.is
    (c.told_shelves_tell.ensures (told_fault g.S.ToldShelf.told c.args.line.now.instruction c.in-Fault.node c.in-Fault.nth c.in-Fault.is c.requires.told)).drawers
    c.arms_are_plays.ensures c.arm.ensures.arms

pub returns-in-Fault-clause-shelves : goal.returns-in-Fault-clause-shelves
returns-in-Fault-clause-shelves g c =
    go_on g.S.Shelf g.F.Files c.args.shelves.now c.args.self.now c.arm.new.self (Ok tt) c.arm.ensures.sizes c.requires.serve

pub other_line-requires-clause-other : goal.other_line-requires-clause-other
other_line-requires-clause-other g c κs within = none_starts c.args.line.now.instruction (λ n. c.in_default.not-Start n)

pub other_line-requires-clause-arms_nothing : goal.other_line-requires-clause-arms_nothing
other_line-requires-clause-arms_nothing g c κs within = none_arms c.args.line.now.instruction (λ n nth. c.in_default.not-Fault n nth)

pub other_line-requires-clause-asks_nothing : goal.other_line-requires-clause-asks_nothing
other_line-requires-clause-asks_nothing g c κs within = none_asks c.args.line.now.instruction (λ b n offset count. c.in_default.not-Read b n offset count)

pub other_line-requires-clause-recovers_nothing : goal.other_line-requires-clause-recovers_nothing
other_line-requires-clause-recovers_nothing g c κs within = none_recovers c.args.line.now.instruction (λ b n members. c.in_default.not-Recover b n members)

pub returns-in_default-clause-shows : goal.returns-in_default-clause-shows
returns-in_default-clause-shows g c =
    other_line g.S.Shelf g.F.Files g.R.Roads g.I.LinkIn g.O.LinkOut c.args.self.now c.other_line.new.self c.args.roads.now c.other_line.new.roads c.args.shelves.now c.args.shelves.now c.args.line.now c.other_line.result c.other_line.ensures.shows

pub returns-in_default-clause-shelves : goal.returns-in_default-clause-shelves
returns-in_default-clause-shelves g c =
    go_on g.S.Shelf g.F.Files c.args.shelves.now c.args.self.now c.other_line.new.self c.other_line.result c.other_line.ensures.sizes c.requires.serve
