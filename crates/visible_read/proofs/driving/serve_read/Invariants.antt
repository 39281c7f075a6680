-- Steps have led here, none of which ended the read, and a packet is next.
use Rattle.visible_read.specs.Driving.{Comes}
use Rattle.visible_read.specs.Servings.{unanswered}
use Rattle.visible_read.specs.Sound.{IsSound}
use Rattle.visible_read.proofs.DrivingLaws.{IsSending, weight}
use Rattle.visible_read.proofs.driving.serve_read.Given as goal

abbrev pub invariant-packets : goal.invariant-packets
invariant-packets g l = record {
  comes : Comes g.F.Files g.O.LinkOut
      (record { run = unanswered l.fn.op; book = l.fn.book; out = l.fn.out })
      (record { run = l.serving; book = l.book; out = l.out });
  sending : IsSending l.serving.course;
  sound : IsSound l.serving.course;
}

abbrev pub decreases-packets : goal.decreases-packets
decreases-packets g l = weight l.serving.course
