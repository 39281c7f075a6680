-- All ends are back, or some are lost.
use Rattle.std.proofs.Common.{sym, ◌∙◌}
use Rattle.block_recovery.proofs.primary.Primary.retire.Goals as goal

pub returns-then-has_lost_any-clause-loses : goal.returns-then-has_lost_any-clause-loses
returns-then-has_lost_any-clause-loses g c = record {
  left = c.bring_back.new.self.links.items;
  brings = c.bring_back.ensures.brings;
  some_lost = sym c.has_lost_any.ensures ∙ c.if-has_lost_any.true;
}

pub returns-clause-brings : goal.returns-clause-brings
returns-clause-brings g c = record {
  left = c.bring_back.new.self.links.items;
  brings = c.bring_back.ensures.brings;
  none_lost = sym c.has_lost_any.ensures ∙ c.if-has_lost_any.false;
}
