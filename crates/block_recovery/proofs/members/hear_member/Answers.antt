-- What comes from the member is heard.
use Rattle.std.proofs.Common.{◌<◌, length, slice_set, inl, arith, ◌∙◌}
use Rattle.std.proofs.lemmas.List.{length-set}
use Rattle.block_recovery.specs.Members.{ListensOn}
use Rattle.block_recovery.proofs.ActionLaws.{at_place, ends_stay}
use Rattle.block_recovery.proofs.members.hear_member.Goals as goal

pub returns-clause-hears : goal.returns-clause-hears
returns-clause-hears g c =
    let n = c.args.place in
    let xs = c.args.links.now in
    let within : n < length xs = omega arith in
    inl (record {
      given = c.listen_on-came.result;
      seen = slice_set xs n c.listen_on-came.new.link;
      listens = at_place (λ before after. ListensOn g.R.Inward.LinkIn before after c.listen_on-came.result) n xs c.index-links-place.result c.listen_on-came.new.link within c.listen_on-came.ensures.listens;
      hears = c.hear_came.ensures.hears;
    })

pub returns-clause-stay : goal.returns-clause-stay
returns-clause-stay g c =
    let s = c.hear_came.ensures.stay in
    record {
      count = s.count ∙ length-set c.args.links.now c.args.place c.listen_on-came.new.link;
      known = s.known;
      kept = s.kept;
      faults = s.faults;
    }

pub hear_came-requires-clause-known : goal.hear_came-requires-clause-known
hear_came-requires-clause-known g c κs within_loans =
    let n = c.args.place in
    let xs = c.args.links.now in
    let within : n < length xs = omega arith in
    ends_stay n xs xs c.index-links-place.result c.listen_on-came.new.link within c.listen_on-came.ensures.same (λ plain h. h) (g.R.Roads.plain c.args.roads.now) c.requires
