-- One member more was sent the text, where it is chosen.
use Rattle.std.proofs.Common.{◌<◌, length, slice_get, slice_set, Ok, Err, arith, ◌∙◌}
use Rattle.std.proofs.lemmas.List.{length-set}
use Rattle.block_recovery.specs.Actions.{SendsIf, SendsAt, is_due}
use Rattle.block_recovery.proofs.ActionLaws.{at_place, passes_more, ends_stay}
use Rattle.block_recovery.proofs.actions.send_all.Goals as goal

pub loop-place-preserved : goal.loop-place-preserved
loop-place-preserved g c =
    let n = c.loop-place.place in
    let xs = c.loop-place.links in
    let within : n < length xs = omega (arith, c.loop-place-test.true, c.loop-place.auto.links) in
    record {
      sent = passes_more (SendsAt g.O.LinkOut c.args.text.now c.args.members.now c.args.chosen.now (Ok tt)) n c.args.links.now xs (slice_set xs n c.send_if.new.link) c.loop-place.invariant.sent (at_place (λ before after. SendsIf g.O.LinkOut c.args.text.now (is_due c.args.chosen.now (slice_get c.args.members.now n)) before after (Ok tt)) n xs c.index-links-place.result c.send_if.new.link within
          (rw c.is_due-due.ensures at c.in_default.ensures.sends));
      count = length-set xs n c.send_if.new.link ∙ c.loop-place.invariant.count;
      ends = ends_stay n c.args.links.now xs c.index-links-place.result c.send_if.new.link within c.send_if.ensures.same c.loop-place.invariant.ends;
      within = omega arith;
    }

pub returns-in-Err-clause-ends : goal.returns-in-Err-clause-ends
returns-in-Err-clause-ends g c =
    let n = c.loop-place.place in
    let xs = c.loop-place.links in
    let within : n < length xs = omega (arith, c.loop-place-test.true, c.loop-place.auto.links) in
    ends_stay n c.args.links.now xs c.index-links-place.result c.send_if.new.link within c.send_if.ensures.same c.loop-place.invariant.ends

pub returns-in-Err-clause-sends : goal.returns-in-Err-clause-sends
returns-in-Err-clause-sends g c =
    let n = c.loop-place.place in
    let xs = c.loop-place.links in
    let within : n < length xs = omega (arith, c.loop-place-test.true, c.loop-place.auto.links) in
    record {
      count = n;
      middle = xs;
      passes = c.loop-place.invariant.sent;
      ends = at_place (λ before after. SendsIf g.O.LinkOut c.args.text.now (is_due c.args.chosen.now (slice_get c.args.members.now n)) before after (Err c.in-Err.error)) n xs c.index-links-place.result c.send_if.new.link within
          (rw c.is_due-due.ensures at c.in-Err.ensures.sends);
    }
