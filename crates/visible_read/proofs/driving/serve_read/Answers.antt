-- Steps that follow one another, until one ends the read.
use Rattle.std.proofs.Common.{inl, ap, ◌∙◌}
use Rattle.visible_read.specs.Servings.{unanswered}
use Rattle.visible_read.proofs.DrivingLaws.{sending-open, next-on, comes-on, serves-first, comes-first, sends-first}
use Rattle.visible_read.proofs.driving.serve_read.Goals as goal

pub returns-in-Some : goal.returns-in-Some
returns-in-Some g c =
    inl (serves-first g.F.Files g.O.LinkOut c.args.op.now c.new-serving.result c.step.new.self c.args.book.now c.step.new.book
    c.args.out.now c.step.new.out c.in-Some.served (c.new-serving.ensures ∙ ap unanswered c.in-Ok.ensures) c.in-Some.ensures.steps)

pub packets-init : goal.packets-init
packets-init g c = record {
  comes = comes-first g.F.Files g.O.LinkOut c.args.op.now c.new-serving.result c.step.new.self c.args.book.now c.step.new.book
      c.args.out.now c.step.new.out (c.new-serving.ensures ∙ ap unanswered c.in-Ok.ensures) c.in_default-step.ensures.steps;
  sending = sends-first g.F.Files g.O.LinkOut c.args.op.now c.new-serving.result c.step.new.self c.args.book.now c.step.new.book
      c.args.out.now c.step.new.out (c.new-serving.ensures ∙ ap unanswered c.in-Ok.ensures) c.in_default-step.ensures.steps;
  sound = c.in_default-step.ensures.sound;
}

pub step-requires-in-packets : goal.step-requires-in-packets
step-requires-in-packets g c = sending-open c.packets.serving.course c.packets.invariant.sending

pub returns-in-Some-step : goal.returns-in-Some-step
returns-in-Some-step g c = inl (record {
  before = record { run = c.packets.serving; book = c.packets.book; out = c.packets.out };
  run = c.step-in-packets.new.self;
  comes = c.packets.invariant.comes;
  ends = c.in-Some-step.ensures.steps;
})

pub packets-smaller : goal.packets-smaller
packets-smaller g c =
    (next-on g.F.Files g.O.LinkOut c.packets.serving c.step-in-packets.new.self c.packets.book c.step-in-packets.new.book
    c.packets.out c.step-in-packets.new.out c.in_default-step-2.ensures.steps c.packets.invariant.sending c.packets.invariant.sound).less

pub packets-preserved : goal.packets-preserved
packets-preserved g c = record {
  comes = comes-on g.F.Files g.O.LinkOut (record { run = unanswered c.args.op.now; book = c.args.book.now; out = c.args.out.now })
      (record { run = c.packets.serving; book = c.packets.book; out = c.packets.out })
      (record { run = c.step-in-packets.new.self; book = c.step-in-packets.new.book; out = c.step-in-packets.new.out })
      c.packets.invariant.comes c.in_default-step-2.ensures.steps;
  sending = (next-on g.F.Files g.O.LinkOut c.packets.serving c.step-in-packets.new.self c.packets.book c.step-in-packets.new.book
      c.packets.out c.step-in-packets.new.out c.in_default-step-2.ensures.steps c.packets.invariant.sending c.packets.invariant.sound).sending;
  sound = c.in_default-step-2.ensures.sound;
}
