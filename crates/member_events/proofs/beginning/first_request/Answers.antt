-- The end took its first message, and what followed.
use Rattle.std.proofs.Common.{◌∙◌, subst, sym, rules}
use Rattle.hd_base.specs.Ends.{IsKnown}
use Rattle.hd_base.specs.declared.numbers.ConnId.{ConnId}
use Rattle.member_events.proofs.FirstEvents.{first_failed, first_shows}
use Rattle.member_events.proofs.KnownLaws.{known_on}
use Rattle.member_events.proofs.beginning.first_request.Goals as goal

pub returns-in_err-end-clause-shows : goal.returns-in_err-end-clause-shows
returns-in_err-end-clause-shows g c = first_failed g.R.Roads g.I.LinkIn g.O.LinkOut c.args.end c.from_residual.result c.in_err-end.field-0.0 c.args.roads.now c.drawn.new.roads (search rules) c.in_err-end.ensures.ends

pub follow-requires : goal.follow-requires
follow-requires g c =
    let k : IsKnown (g.R.Roads.plain c.drawn.new.roads) c.first-next.new.end.id.0 = subst (λ (y : ConnId). IsKnown (g.R.Roads.plain c.drawn.new.roads) y.0) (sym (c.first-next.ensures.id ∙ c.in_ok-end.ensures.ends.kept.id))
    (known_on (g.R.Roads.plain c.args.roads.now) (g.R.Roads.plain c.drawn.new.roads) c.args.end.id.0 c.in_ok-end.ensures.ends.connections c.requires) in
    (first_of (assumption c.type_bounds.send-I, search rules), (first_of (assumption c.type_bounds.send-O, search rules), k))

pub returns-clause-shows : goal.returns-clause-shows
returns-clause-shows g c = first_shows g.R.Roads g.I.LinkIn g.O.LinkOut c.args.end c.in_ok-end.end c.first-next.new.end c.first-next.result c.follow.result c.args.roads.now c.drawn.new.roads c.follow.new.roads c.in_ok-end.ensures.ends c.first-next.ensures c.follow.ensures.ends
