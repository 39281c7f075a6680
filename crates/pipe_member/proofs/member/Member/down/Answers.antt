-- The member looked, and takes what it found.
use Rattle.std.proofs.Common.{refl, sym, ◌∙◌}
use Rattle.pipe_member.proofs.EventLaws.{goes_down, looked_up}
use Rattle.pipe_member.proofs.member.Member.down.Goals as goal

pub returns-then-finds_no_memory : goal.returns-then-finds_no_memory
returns-then-finds_no_memory g c =
    goes_down g.F.Files g.I.LinkIn g.O.LinkOut _ c.args.self.now _ _ c.look-looked.result _ _ _ _ c.in-Open.is (sym c.finds_no_memory.ensures ∙ c.if-finds_no_memory.true)
    (looked_up g.I.LinkIn g.O.LinkOut c.args.self.now c.look-looked.new.self c.look-looked.new.inward c.shut_end.new.end c.look-looked.result _ c.is_failed.ensures c.look-looked.ensures c.shut_end.ensures)
    (record { answer = refl; member_same = refl; book_same = refl })

pub returns : goal.returns
returns g c =
    goes_down g.F.Files g.I.LinkIn g.O.LinkOut _ c.args.self.now _ _ c.look-looked.result _ _ _ _ c.in-Open.is (sym c.finds_no_memory.ensures ∙ c.if-finds_no_memory.false)
    (looked_up g.I.LinkIn g.O.LinkOut c.args.self.now c.look-looked.new.self c.look-looked.new.inward c.shut_end.new.end c.look-looked.result _ c.is_failed.ensures c.look-looked.ensures c.shut_end.ensures)
    (record { answer = c.take_above-stepped.result; takes = c.take_above-stepped.ensures; is = c.after_failure.ensures })
