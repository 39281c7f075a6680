-- Memory ran out, before the book was touched or in its call: nothing follows.
use Rattle.std.proofs.Common.{refl, sym, ◌∙◌}
use Rattle.pipe_turns.specs.Acting.{texts_of}
use Rattle.pipe_turns.proofs.StillLemmas.{does_nothing}
use Rattle.pipe_turns.proofs.acting.act.Goals as goal

pub returns-in_default : goal.returns-in_default
returns-in_default g c = record {
  sent = c.args.upstream.now.outward;
  passed = c.args.mirror.now;
  performed = does_nothing g.F.Files g.O.LinkOut c.args.due.turn.call (texts_of c.args.op.now c.args.due.turn.effect.sends) c.args.book.now c.args.upstream.now.outward c.args.mirror.now;
  followed = (refl, refl, refl, refl);
}

pub returns-in_default-booked_of : goal.returns-in_default-booked_of
returns-in_default-booked_of g c = record {
  sent = c.perform-done.new.upstream;
  passed = c.perform-done.new.mirror;
  performed = rw (← c.in-Ok.ensures) c.perform-done.ensures;
  followed = rw (sym c.booked_of.ensures ∙ c.in_default-booked_of.is) (refl, refl, refl, refl);
}
