-- A packet was sent, and what followed.
use Rattle.std.proofs.Common.{◌∙◌, sym}
use Rattle.serving_events.proofs.PacketEvents.{packet_shows, packet_missing, packet_over}
use Rattle.serving_events.proofs.packets.serve_packet.Goals as goal

pub returns-then-is_over-clause-shows : goal.returns-then-is_over-clause-shows
returns-then-is_over-clause-shows g c =
    packet_over g.F.Files g.R.Roads g.I.LinkIn g.O.LinkOut c.args.read c.args.book.now c.args.book.now c.args.roads.now c.args.roads.now (sym c.is_over.ensures.value ∙ c.if-is_over.true)

pub returns-then-is_short-clause-shows : goal.returns-then-is_short-clause-shows
returns-then-is_short-clause-shows g c =
    packet_missing g.F.Files g.R.Roads g.I.LinkIn g.O.LinkOut c.args.read c.args.book.now c.step-stepped.new.book c.args.roads.now c.missing.new.roads c.step-stepped.result c.missing.result
    c.step-stepped.ensures (sym c.is_short.ensures ∙ c.if-is_short.true) c.missing.ensures.ends

pub returns-clause-shows : goal.returns-clause-shows
returns-clause-shows g c =
    packet_shows g.F.Files g.R.Roads g.I.LinkIn g.O.LinkOut c.args.read c.args.book.now c.step-stepped.new.book c.args.roads.now c.placed.new.roads c.step-stepped.result c.placed.result
    c.step-stepped.ensures (sym c.is_short.ensures ∙ c.if-is_short.false) c.placed.ensures.ends
