-- Nothing is there on one connection more, or what is there is taken.
use Rattle.std.proofs.Common.{◌<◌, length, slice_get, slice_set, arith, ◌∙◌}
use Rattle.std.proofs.lemmas.List.{length-set}
use Rattle.block_recovery.specs.declared.hearing.Looked.TheVariants as looked
use Rattle.block_recovery.specs.Actions.{PollsAt, PollsPlace}
use Rattle.block_recovery.proofs.ActionLaws.{at_place, passes_more, ends_stay}
use Rattle.block_recovery.proofs.actions.poll_all.Goals as goal

pub loop-place-preserved : goal.loop-place-preserved
loop-place-preserved g c =
    let n = c.loop-place.place in
    let xs = c.loop-place.links in
    let within : n < length xs = omega (arith, c.loop-place-test.true, c.loop-place.auto.links) in
    record {
      quiet = passes_more (PollsPlace g.I.LinkIn c.args.standings.now looked.Nothing) n c.args.links.now xs (slice_set xs n c.poll_at.new.link) c.loop-place.invariant.quiet (at_place (λ before after. PollsAt g.I.LinkIn (slice_get c.args.standings.now n) before after looked.Nothing) n xs c.index-links-place.result c.poll_at.new.link within
          c.in-Nothing.ensures.polls);
      count = length-set xs n c.poll_at.new.link ∙ c.loop-place.invariant.count;
      ends = ends_stay n c.args.links.now xs c.index-links-place.result c.poll_at.new.link within c.poll_at.ensures.same c.loop-place.invariant.ends;
      within = omega arith;
    }

pub returns-in-Heard-clause-ends : goal.returns-in-Heard-clause-ends
returns-in-Heard-clause-ends g c =
    let n = c.loop-place.place in
    let xs = c.loop-place.links in
    let within : n < length xs = omega (arith, c.loop-place-test.true, c.loop-place.auto.links) in
    ends_stay n c.args.links.now xs c.index-links-place.result c.poll_at.new.link within c.poll_at.ensures.same c.loop-place.invariant.ends

pub returns-in-Memory-clause-ends : goal.returns-in-Memory-clause-ends
returns-in-Memory-clause-ends g c =
    let n = c.loop-place.place in
    let xs = c.loop-place.links in
    let within : n < length xs = omega (arith, c.loop-place-test.true, c.loop-place.auto.links) in
    ends_stay n c.args.links.now xs c.index-links-place.result c.poll_at.new.link within c.poll_at.ensures.same c.loop-place.invariant.ends

pub returns-in-Memory-clause-polls : goal.returns-in-Memory-clause-polls
returns-in-Memory-clause-polls g c =
    let n = c.loop-place.place in
    let xs = c.loop-place.links in
    let within : n < length xs = omega (arith, c.loop-place-test.true, c.loop-place.auto.links) in
    record {
      count = n;
      middle = xs;
      quiet = c.loop-place.invariant.quiet;
      ends = at_place (λ before after. PollsAt g.I.LinkIn (slice_get c.args.standings.now n) before after looked.Memory) n xs c.index-links-place.result c.poll_at.new.link within c.in-Memory.ensures.polls;
    }
