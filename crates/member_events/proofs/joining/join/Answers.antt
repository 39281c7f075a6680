-- The member was set up, and what followed.
use Rattle.std.proofs.Common.{rules, sym, ◌∙◌}
use Rattle.pipe_member.specs.Exchanges.{AreKnown}
use Rattle.member_events.proofs.JoinEnds.{join_lost, join_failed, join_met, join_known, join_passes, at_new}
use Rattle.member_events.proofs.PassLaws.{met_known, met_reached}
use Rattle.member_events.proofs.SetupKnown.{pass_on}
use Rattle.member_events.proofs.joining.join.Goals as goal

pub lost-requires : goal.lost-requires
lost-requires g c =
    let k : AreKnown (g.R.Roads.plain c.set_up-stepped.new.roads) c.set_up-stepped.new.self = join_known g.F.Files g.R.Roads g.I.LinkIn g.O.LinkOut c.args.node c.args.next c.args.requested c.in-Ok.member c.set_up-stepped.new.self
    c.args.book.now c.set_up-stepped.new.book c.set_up-stepped.result c.args.roads.now c.set_up-stepped.new.roads c.in-Ok.ensures.made c.set_up-stepped.ensures c.requires in
    (first_of (assumption c.type_bounds.send-I, search rules), (first_of (assumption c.type_bounds.send-O, search rules), k))

pub placed-requires : goal.placed-requires
placed-requires g c =
    let k : AreKnown (g.R.Roads.plain c.set_up-stepped.new.roads) c.set_up-stepped.new.self = join_known g.F.Files g.R.Roads g.I.LinkIn g.O.LinkOut c.args.node c.args.next c.args.requested c.in-Ok.member c.set_up-stepped.new.self
    c.args.book.now c.set_up-stepped.new.book c.set_up-stepped.result c.args.roads.now c.set_up-stepped.new.roads c.in-Ok.ensures.made c.set_up-stepped.ensures c.requires in
    (first_of (assumption c.type_bounds.send-I, search rules), (first_of (assumption c.type_bounds.send-O, search rules), k))

pub returns-then-risen-clause-shows : goal.returns-then-risen-clause-shows
returns-then-risen-clause-shows g c =
    join_lost g.F.Files g.R.Roads g.I.LinkIn g.O.LinkOut c.args.node c.args.next c.args.requested c.set_up-stepped.new.self c.args.book.now c.set_up-stepped.new.book c.args.roads.now c.set_up-stepped.new.roads c.lost.new.roads c.lost.result
    (sym c.risen.ensures ∙ c.if-risen.true) c.lost.ensures.ends

pub returns-in_err-left-clause-shows : goal.returns-in_err-left-clause-shows
returns-in_err-left-clause-shows g c =
    join_failed g.F.Files g.R.Roads g.I.LinkIn g.O.LinkOut c.args.node c.args.next c.args.requested c.in-Ok.member c.set_up-stepped.new.self c.args.book.now c.set_up-stepped.new.book c.set_up-stepped.result
    c.args.roads.now c.set_up-stepped.new.roads c.placed.new.roads c.from_residual.result c.in_err-left.field-0.0 (search rules) c.in-Ok.ensures.made c.set_up-stepped.ensures c.in_err-left.ensures.ends

pub returns-clause-shows : goal.returns-clause-shows
returns-clause-shows g c =
    join_met g.F.Files g.R.Roads g.I.LinkIn g.O.LinkOut c.args.node c.args.next c.args.requested c.in-Ok.member c.set_up-stepped.new.self c.args.book.now c.set_up-stepped.new.book c.set_up-stepped.result c.mirror_port-port.result
    c.args.roads.now c.set_up-stepped.new.roads c.placed.new.roads c.meet.new.roads
    (record {
      is_new = c.in-Ok.ensures.made;
      of_history = c.replica-kept.ensures.kept.known;
      port_is = c.mirror_port-port.ensures;
      set_up = at_new g.F.Files g.R.Roads g.I.LinkIn g.O.LinkOut c.args.node c.args.next c.args.requested c.in-Ok.member c.set_up-stepped.new.self c.args.book.now c.set_up-stepped.new.book c.set_up-stepped.result
          c.args.roads.now c.set_up-stepped.new.roads c.in-Ok.ensures.made c.set_up-stepped.ensures;
      not_risen = sym c.risen.ensures ∙ c.if-risen.false;
    }) c.in_ok-left.left c.meet.result c.in_ok-left.ensures.ends c.meet.ensures.ends

pub returns-then-risen-clause-pass : goal.returns-then-risen-clause-pass
returns-then-risen-clause-pass g c = pass_on g.R.Roads g.I.LinkIn g.O.LinkOut c.args.roads.now c.set_up-stepped.new.roads c.lost.new.roads
    (join_passes g.F.Files g.R.Roads g.I.LinkIn g.O.LinkOut c.args.node c.args.next c.args.requested c.in-Ok.member c.set_up-stepped.new.self c.args.book.now c.set_up-stepped.new.book c.set_up-stepped.result
    c.args.roads.now c.set_up-stepped.new.roads c.in-Ok.ensures.made c.set_up-stepped.ensures) c.lost.ensures.pass

pub returns-in_err-left-clause-pass : goal.returns-in_err-left-clause-pass
returns-in_err-left-clause-pass g c = pass_on g.R.Roads g.I.LinkIn g.O.LinkOut c.args.roads.now c.set_up-stepped.new.roads c.placed.new.roads
    (join_passes g.F.Files g.R.Roads g.I.LinkIn g.O.LinkOut c.args.node c.args.next c.args.requested c.in-Ok.member c.set_up-stepped.new.self c.args.book.now c.set_up-stepped.new.book c.set_up-stepped.result
    c.args.roads.now c.set_up-stepped.new.roads c.in-Ok.ensures.made c.set_up-stepped.ensures) c.placed.ensures.pass

pub returns-clause-pass : goal.returns-clause-pass
returns-clause-pass g c = pass_on g.R.Roads g.I.LinkIn g.O.LinkOut c.args.roads.now c.set_up-stepped.new.roads c.meet.new.roads
    (join_passes g.F.Files g.R.Roads g.I.LinkIn g.O.LinkOut c.args.node c.args.next c.args.requested c.in-Ok.member c.set_up-stepped.new.self c.args.book.now c.set_up-stepped.new.book c.set_up-stepped.result
    c.args.roads.now c.set_up-stepped.new.roads c.in-Ok.ensures.made c.set_up-stepped.ensures) (pass_on g.R.Roads g.I.LinkIn g.O.LinkOut c.set_up-stepped.new.roads c.placed.new.roads c.meet.new.roads c.placed.ensures.pass c.meet.ensures.pass)

pub returns-clause-known : goal.returns-clause-known
returns-clause-known g c =
    met_known g.R.Roads g.I.LinkIn g.O.LinkOut c.mirror_port-port.result c.in_ok-left.left c.placed.new.roads c.meet.new.roads c.meet.result c.meet.ensures.pass c.in_ok-left.ensures.known c.meet.ensures.ends

pub returns-clause-reached : goal.returns-clause-reached
returns-clause-reached g c = met_reached g.R.Roads g.I.LinkIn g.O.LinkOut c.mirror_port-port.result c.in_ok-left.left c.placed.new.roads c.meet.new.roads c.meet.result c.meet.ensures.ends
