-- By what is due.
use Rattle.play_model.specs.Dues.{dues}
use Rattle.play_dues.proofs.DrawingLaws.{draw_happens, none_left}
use Rattle.play_dues.proofs.drawing.plays_are_drawn.Goals as goal

pub returns : goal.returns
returns c = record {
  draws = λ blocks p after result h. draw_happens (dues blocks p) p after result h;
  end = λ blocks p after h. none_left (dues blocks p) p.generator after h;
}
