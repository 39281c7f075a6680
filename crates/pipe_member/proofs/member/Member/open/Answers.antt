-- The member says this, and is here then.
use Rattle.std.proofs.Common.{refl}
use Rattle.pipe_member.proofs.TurnLaws.{follows_of}
use Rattle.pipe_member.proofs.member.Member.open.Goals as goal

pub returns : goal.returns
returns g c = record {
  done = c.say-done.result;
  half = c.say-done.new.outward;
  upper = c.shut_end.new.end;
  says = c.say-done.ensures;
  shut = rw c.shuts_up.ensures at c.shut_end.ensures;
  follows = follows_of g.O.LinkOut _ _ _ _ _ _ c.shut_end.new.end _ c.args.self.now.mirror c.args.self.now _ _ refl c.settle.ensures;
}
