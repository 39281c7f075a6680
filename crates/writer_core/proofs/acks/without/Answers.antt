-- Some of the members are members.
use Rattle.std.proofs.Common.{◌≢◌, ◌==◌, not, subst, sym}
use Rattle.std.proofs.lemmas.List.Kept.{AllPairs-filter}
use Rattle.hd_base.specs.Lists.{AllDistinct}
use Rattle.writer_core.specs.Phases.{without}
use Rattle.writer_core.proofs.AckLemmas.{few_taken, some_not_none}
use Rattle.writer_core.proofs.acks.without.Goals as goal

pub unreachable-requires : goal.unreachable-requires
unreachable-requires c =
    let left : AllDistinct (without c.as_slice.result.now c.args.bad) = AllPairs-filter (λ a b. a ≢ b) (λ n. not (n.0 == c.args.bad.0)) c.as_slice.result.now c.as_slice.ensures.distinct in
    let made = c.new.ensures.made.1 (few_taken c.others-count.result.1 c.others-count.result.0 16 c.others-count.ensures.few, subst AllDistinct (sym c.others-count.ensures.others) left) in
    some_not_none c.new.result made c.in_default.is
