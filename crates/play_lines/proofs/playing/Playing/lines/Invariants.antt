-- So many lines were played.
use Rattle.std.proofs.Common.{◌≡◌, drop, length}
use Rattle.play_scripts.specs.MemberEvents.Roads.{RoadsPass}
use Rattle.play_scripts.specs.Unplayed.{LinesAreTold}
use Rattle.play_scripts.specs.NodeOpening.Standing.{ShelvesStay}
use Rattle.play_lines.specs.Lines.{IsReady}
use Rattle.play_lines.specs.Shelves.{ShelvesServe}
use Rattle.play_lines.proofs.LineRuns.{Continues}
use Rattle.play_lines.proofs.playing.Playing.lines.Given as goal

abbrev pub invariant-loop-line : goal.invariant-loop-line
invariant-loop-line g l = record {
  ready : IsReady g.F.Files g.R.Roads g.I.LinkIn g.O.LinkOut (drop l.line-index l.lines) (length l.shelves) l.roads l.self;
  goes_on : Continues g.F.Files g.R.Roads g.I.LinkIn g.O.LinkOut l.lines (drop l.line-index l.lines) (length l.fn.shelves) l.fn.self l.self l.fn.roads l.roads;
  told : LinesAreTold g.S.ToldShelf.told (drop l.line-index l.lines);
  serve : ShelvesServe g.S.Shelf l.shelves l.self;
  stay : ShelvesStay g.S.Shelf l.fn.shelves l.shelves l.fn.self.player.nodes l.self.player.nodes;
  blocks : l.self.player.nodes.blocks.items ≡ l.fn.self.player.nodes.blocks.items;
  pass : RoadsPass g.R.Roads l.fn.roads l.roads;
}
