use Rattle.std.proofs.Common.{refl, sym, subst, arith}
use Rattle.std.proofs.lemmas.List.Elements.{All-set}
use Rattle.chunk_sums.specs.Four.{AreReady}
use Rattle.chunk_sums.proofs.chunks.four_first.Goals as goal

pub returns-in-Crc32-clause-ready : goal.returns-in-Crc32-clause-ready
returns-in-Crc32-clause-ready g c = All-set (AreReady c.args.chunk) c.args.lanes.now 0 c.four_sums.new.lanes c.four_sums.ensures.ready c.requires.ready

pub returns-in-Crc32c-clause-ready : goal.returns-in-Crc32c-clause-ready
returns-in-Crc32c-clause-ready g c =
    All-set (AreReady c.args.chunk) c.args.lanes.now 0 c.four_sums-in-Crc32c.new.lanes c.four_sums-in-Crc32c.ensures.ready c.requires.ready

pub four_sums-requires : goal.four_sums-requires
four_sums-requires g c =
    let even = c.if-not-has_four.ensures.0 refl in
    let first = c.in_ok-lanes.ensures.item in
    let ready = subst (AreReady c.args.chunk) (sym first.1) (c.requires.ready 0 c.in_ok-lanes.lanes.now first.3.0) in
    (omega (arith, c.requires.lane_len), (even.1, (even.3, (omega arith, (even.4, ready)))))

pub four_sums-requires-in-Crc32c : goal.four_sums-requires-in-Crc32c
four_sums-requires-in-Crc32c g c =
    let even = c.if-not-has_four.ensures.0 refl in
    let first = c.in_ok-lanes.ensures.item in
    let ready = subst (AreReady c.args.chunk) (sym first.1) (c.requires.ready 0 c.in_ok-lanes.lanes.now first.3.0) in
    (omega (arith, c.requires.lane_len), (even.1, (even.3, (omega arith, (even.4, ready)))))
