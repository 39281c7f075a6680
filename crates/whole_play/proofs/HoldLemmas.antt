-- The shelves that were closed hold the replicas of the world that the nodes show.
use Rattle.std.proofs.Common.{◌≡◌, ◌<◌, ℕ, List, length, slice_get, Some, IfSome, sym, subst}
use Rattle.hd_base.specs.declared.files.Files as files
use Rattle.hd_base.specs.declared.links.LinkIn as link_in
use Rattle.hd_base.specs.declared.links.LinkOut as link_out
use Rattle.hd_base.specs.declared.roads.Roads as roads
use Rattle.hd_base.specs.declared.shelves.Shelf as shelves
use Rattle.script_lang.specs.declared.instructions.ScriptLine.{ScriptLine}
use Rattle.world.specs.Worlds.{World}
use Rattle.play_model.specs.WorldLaws.Filling.{AllFilled}
use Rattle.play_model.specs.Lines.{blocks_of}
use Rattle.play_model.specs.States.{world_of}
use Rattle.play_report.specs.PlayScripts.Blocks.{numbers}
use Rattle.play_report.specs.NodeOpening.Closing.{NodesClose}
use Rattle.play_report.specs.NodeOpening.Laws.{ShownFit, FitEach}
use Rattle.play_report.specs.NodeOpening.Shelves.{AllEmpty}
use Rattle.play_report.specs.NodeOpening.Standing.{ShelvesStand, AllLentOut}
use Rattle.completing_lines.specs.PlayLines.Playing.{Playing}
use Rattle.whole_play.specs.declared.playing.Played.{Played}
use Rattle.whole_play.specs.Holding.{HoldsWorld}
use Rattle.whole_play.specs.Playing.{IsOver, IsClosed}
use Rattle.whole_play.proofs.ClosedLemmas.{Stands, stands}
use Rattle.whole_play.proofs.HeldLemmas.{shelf_holds}
use Rattle.play_report.proofs.PlayNodes.PlaceLaws.{element_within}

module _ {S D R I O : Type 0} (s : shelves.Ghosts S D) (d : files.Ghosts D) (r : roads.Ghosts R I O) (i : link_in.Ghosts I) (o : link_out.Ghosts O) where
  pub closed_so : (script : List ScriptLine) (old after closed : List S) (road : R) (y : Playing D I O) (p : Played) → AllEmpty s old → ShelvesStand s old after y.player.nodes → AllLentOut s after y.player.nodes
      → NodesClose s d y.player.nodes.blocks.items y.player.nodes.nodes.items after closed → AllFilled → ShownFit D I O i o → FitEach D → numbers y.player.nodes.blocks.items ≡ blocks_of script → IsOver d r i o script road y p → IsClosed s d r script old closed road p
  closed_so script old after closed road y p empty stand lent close filled fit each blocks over = record {
    through = over.through;
    empty = empty;
    hold = λ node b at. subst (λ (bs : List ℕ). IfSome (s.files b) (HoldsWorld w bs node)) blocks (holds node b at);
  }
    where
      w : World
      w = world_of over.through.end

      holds : (node : ℕ) (b : S) → slice_get closed node ≡ Some b → IfSome (s.files b) (HoldsWorld (world_of over.through.end) (numbers y.player.nodes.blocks.items) node)
      holds node b at =
          let in_after : node < length after = subst (λ (n : ℕ). node < n) close.count (element_within closed node b at) in
          let in_old : node < length old = subst (λ (n : ℕ). node < n) stand.count in_after in
          let m : Stands after node = stands after node in_after in
          let n : Stands y.player.nodes.nodes.items node = stands y.player.nodes.nodes.items node (subst (λ (n : ℕ). node < n) (sym stand.nodes) in_old) in
          let fits = fit (world_of over.through.end) over.net y.player.nodes (filled over.through.end.nodes over.through.end.events) over.show in
          shelf_holds s d i o (world_of over.through.end) over.net y.player.nodes node m.x b n.x (lent.books node n.x n.at) over.show stand.distinct (lent.empty node m.x m.at) n.at
          (each y.player.nodes.blocks.items y.player.nodes.nodes.items node n.x fits n.at) (close.each node m.x b n.x m.at at n.at)
