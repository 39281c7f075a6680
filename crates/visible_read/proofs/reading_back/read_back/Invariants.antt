-- Steps have led here, none of which ended the read.
use Rattle.std.proofs.Common.{◌≡◌, true, is_some}
use Rattle.visible_read.specs.declared.talking.Talk.{Talk}
use Rattle.visible_read.specs.Talking.{Begins}
use Rattle.visible_read.specs.ReadingBack.{Comes}
use Rattle.visible_read.proofs.reading_back.read_back.Given as goal

abbrev pub invariant-steps : goal.invariant-steps
invariant-steps g l = record {
  first : Talk;
  begins : Begins l.fn.op first;
  comes : Comes g.I.LinkIn g.O.LinkOut (record { talk = first; end = l.fn.conn }) (record { talk = l.talk; end = l.conn });
  still : is_some l.talk.core ≡ true;
}
