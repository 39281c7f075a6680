-- The member looked, and takes what it found.
use Rattle.std.proofs.Common.{◌≡◌, true, refl, sym, ◌∙◌}
use Rattle.pipe_setup.specs.MemberCore.Members.{hears}
use Rattle.pipe_member.proofs.EventLaws.{goes_up, looked_at}
use Rattle.pipe_member.proofs.member.Member.up.Goals as goal

pub returns-then-finds_no_memory : goal.returns-then-finds_no_memory
returns-then-finds_no_memory g c =
    let heard : hears c.in-Open.core ≡ true = cc (c.hears.ensures, c.if-not-hears.false) in
    goes_up g.F.Files g.I.LinkIn g.O.LinkOut c.in-Open.core c.args.self.now _ _ c.look_down-looked.result _ _ _ _ c.in-Open.is heard (sym c.finds_no_memory.ensures ∙ c.if-finds_no_memory.true)
    (looked_at g.I.LinkIn g.O.LinkOut c.in-Open.core c.args.self.now c.look_down-looked.new.self c.look_down-looked.result c.in-Open.is c.look_down-looked.ensures)
    (record { answer = refl; member_same = refl; book_same = refl })

pub returns : goal.returns
returns g c =
    let heard : hears c.in-Open.core ≡ true = cc (c.hears.ensures, c.if-not-hears.false) in
    goes_up g.F.Files g.I.LinkIn g.O.LinkOut c.in-Open.core c.args.self.now _ _ c.look_down-looked.result _ _ _ _ c.in-Open.is heard (sym c.finds_no_memory.ensures ∙ c.if-finds_no_memory.false)
    (looked_at g.I.LinkIn g.O.LinkOut c.in-Open.core c.args.self.now c.look_down-looked.new.self c.look_down-looked.result c.in-Open.is c.look_down-looked.ensures)
    c.take_below.ensures
