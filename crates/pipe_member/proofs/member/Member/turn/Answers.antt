-- The turn is done, and then what follows it.
use Rattle.pipe_member.proofs.TurnLaws.{follows_of}
use Rattle.pipe_member.proofs.member.Member.turn.Goals as goal

pub returns : goal.returns
returns g c = record {
  settled = c.act-done.new.core;
  upstream = c.act-done.new.upstream;
  mirror = c.act-done.new.mirror;
  done = c.act-done.result.0;
  shuts = c.act-done.result.1;
  acts = c.act-done.ensures;
  follows = follows_of g.O.LinkOut _ _ _ _ _ _ c.act-done.new.upstream _ c.act-done.new.mirror c.args.self.now _ _ c.stage_after.ensures c.settle.ensures;
}
