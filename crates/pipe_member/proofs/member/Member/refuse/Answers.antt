-- The answer goes up, or finds no memory.
use Rattle.std.proofs.Common.{refl, sym, ◌∙◌}
use Rattle.pipe_turns.specs.declared.turning.Done.TheVariants as done
use Rattle.pipe_turns.proofs.StillLemmas.{sends_nothing}
use Rattle.pipe_member.proofs.TurnLaws.{follows_of}
use Rattle.pipe_member.proofs.member.Member.refuse.Goals as goal

pub returns-in_default : goal.returns-in_default
returns-in_default g c = record {
  done = done.Memory;
  half = c.args.self.now.upstream.outward;
  says = sends_nothing g.O.LinkOut _ c.args.self.now.upstream.outward;
  ends = (refl, refl);
}

pub returns-then-is_memory : goal.returns-then-is_memory
returns-then-is_memory g c = record {
  done = c.send_alone-done.result;
  half = c.send_alone-done.new.upstream;
  says = rw (c.in-Ok.ensures, c.refuse-effect.ensures) at c.send_alone-done.ensures;
  ends = rw (sym c.is_memory.ensures ∙ c.if-is_memory.true) (refl, refl);
}

pub returns : goal.returns
returns g c = record {
  done = c.send_alone-done.result;
  half = c.send_alone-done.new.upstream;
  says = rw (c.in-Ok.ensures, c.refuse-effect.ensures) at c.send_alone-done.ensures;
  ends = rw (sym c.is_memory.ensures ∙ c.if-is_memory.false) (record {
    upper = c.shut_end.new.end;
    shut = c.shut_end.ensures;
    follows = follows_of g.O.LinkOut _ _ _ _ _ _ c.shut_end.new.end _ c.args.self.now.mirror _ _ _ refl c.settle.ensures;
  });
}
