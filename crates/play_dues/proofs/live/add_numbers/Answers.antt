-- One number more.
use Rattle.std.proofs.Common.{refl}
use Rattle.play_dues.proofs.LiveLaws.{more_first, more_next, more_last}
use Rattle.play_dues.proofs.live.add_numbers.Goals as goal

pub loop-index-init : goal.loop-index-init
loop-index-init c = λ has is. more_first c.args.conns.now.items has c.args.from is

pub loop-index-preserved : goal.loop-index-preserved
loop-index-preserved c = λ has is. more_next c.loop-index.conns.items c.push.new.self.items has c.args.from c.loop-index.index _ c.loop-index.auto.index refl c.in_ok-push.ensures.items (c.loop-index.invariant has is)

pub returns : goal.returns
returns c = λ has rises is. more_last c.loop-index.conns.items has c.args.from c.loop-index.index c.args.count (c.loop-index.auto.index-end rises) c.loop-index-test.false (c.loop-index.invariant has is)
