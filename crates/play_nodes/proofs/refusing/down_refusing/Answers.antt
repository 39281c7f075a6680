-- Writes were refused while the member took something.
use Rattle.std.proofs.Common.{sym, subst, ◌∙◌}
use Rattle.play_nodes.specs.Refusing.{MemberRefuses}
use Rattle.play_nodes.proofs.RefusingNodes.{Refuses, refuses, refuses_memory}
use Rattle.play_nodes.proofs.refusing.down_refusing.Goals as goal

pub returns-in-Err-clause-shows : goal.returns-in-Err-clause-shows
returns-in-Err-clause-shows g c = refuses_memory g.F.Files g.R.Roads g.I.LinkIn g.O.LinkOut c.args.member c.args.book.now c.refuse_writes.new.self c.args.roads.now

pub returns-clause-shows : goal.returns-clause-shows
returns-clause-shows g c =
    let book = c.args.book.now in
    let first = c.refuse_writes.new.self in
    let second = c.member_down-ended.new.book in
    let last = c.take_writes-refused.new.self in
    let k : Refuses g.F.Files book first second last c.take_writes-refused.result = record {
      begun = record { block = c.refuse_writes.ensures.kept.block; history = c.refuse_writes.ensures.kept.history };
      log = rw c.in-Ok.is at c.refuse_writes.ensures.begins;
      before = c.refuse_writes.ensures.faults;
      tells = rw (sym c.take_writes-refused.ensures.refused) at (g.met.F.Refusing.tells_refusals second.drawer);
      ended = record { block = c.take_writes-refused.ensures.kept.block; history = c.take_writes-refused.ensures.kept.history };
      after = λ none. c.take_writes-refused.ensures.faults (sym c.take_writes-refused.ensures.refused ∙ none);
    } in
    subst (λ x. MemberRefuses g.F.Files g.R.Roads g.I.LinkIn g.O.LinkOut c.args.member book last c.args.roads.now c.member_down-ended.new.roads x) (sym c.refused_in.ensures)
    (refuses g.F.Files g.R.Roads g.I.LinkIn g.O.LinkOut c.args.member book first second last c.args.roads.now c.member_down-ended.new.roads c.member_down-ended.result c.take_writes-refused.result k c.member_down-ended.ensures.shows)
