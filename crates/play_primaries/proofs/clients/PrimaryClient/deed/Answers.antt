-- What the primary's next own step is.
use Rattle.std.proofs.Common.{true, false, sym, ◌∙◌}
use Rattle.play_primaries.specs.declared.deeds.Deed.TheVariants as deed
use Rattle.play_primaries.proofs.DeedLaws.{new_tells, led_tells, idle_tells}
use Rattle.play_primaries.proofs.clients.PrimaryClient.deed.Goals as goal

pub returns-in-New : goal.returns-in-New
returns-in-New g c = new_tells g.I.LinkIn g.O.LinkOut c.args.self.now c.in-New.is

pub returns-then-commits : goal.returns-then-commits
returns-then-commits g c = led_tells g.I.LinkIn g.O.LinkOut c.args.self.now _ true c.in-Leads.is (sym c.if-commits.true ∙ c.commits.ensures)

pub returns-else-commits : goal.returns-else-commits
returns-else-commits g c = led_tells g.I.LinkIn g.O.LinkOut c.args.self.now _ false c.in-Leads.is (sym c.if-commits.false ∙ c.commits.ensures)

pub returns-in-HasLed : goal.returns-in-HasLed
returns-in-HasLed g c = idle_tells g.I.LinkIn g.O.LinkOut c.args.self.now deed.GoesOn c.in-HasLed.is
