-- Once its node has stopped.
use Rattle.std.proofs.Common.{sym, ◌∙◌}
use Rattle.play_primaries.proofs.StopLaws.{stop_new, stop_led, stop_past, stop_brought}
use Rattle.play_primaries.proofs.clients.PrimaryClient.stop.Goals as goal

pub returns-in-New-clause-shows : goal.returns-in-New-clause-shows
returns-in-New-clause-shows g c = stop_new g.R.Roads g.I.LinkIn g.O.LinkOut c.args.self.now c.args.roads.now (sym c.replace.ensures.value ∙ c.in-New.is)

pub returns-in-HasLed-clause-shows : goal.returns-in-HasLed-clause-shows
returns-in-HasLed-clause-shows g c = stop_led g.R.Roads g.I.LinkIn g.O.LinkOut c.args.self.now c.in-HasLed.led c.args.roads.now (sym c.replace.ensures.value ∙ c.in-HasLed.is)

pub returns-in-Stopped-clause-shows : goal.returns-in-Stopped-clause-shows
returns-in-Stopped-clause-shows g c = stop_past g.R.Roads g.I.LinkIn g.O.LinkOut c.args.self.now c.replace.new.dest c.args.roads.now c.replace.ensures.after (sym c.replace.ensures.value ∙ c.in-Stopped.is)

pub returns-in-Leads-clause-shows : goal.returns-in-Leads-clause-shows
returns-in-Leads-clause-shows g c =
    stop_brought g.R.Roads g.I.LinkIn g.O.LinkOut c.brings_show.ensures c.idle_flushes_are_nets.ensures c.nets_stay_sane.ensures c.ends_elsewhere_stay.ensures c.args.self.now c.replace.new.dest c.in-Leads.primary c.args.roads.now c.brought.new.roads c.brought.result
    c.replace.ensures.after (sym c.replace.ensures.value ∙ c.in-Leads.is) c.brought.ensures.brings
