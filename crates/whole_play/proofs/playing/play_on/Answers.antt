-- The play was opened, played, told and closed.
use Rattle.std.proofs.Common.{◌≡◌, ◌≤◌, ℕ, List, drop, sym, ap, subst, ◌∙◌}
use Rattle.hd_base.specs.declared.numbers.BlockId.{BlockId}
use Rattle.hd_base.specs.declared.roads.TheConstants.{MAX_NODES}
use Rattle.script_lang.specs.declared.instructions.ScriptLine.{ScriptLine}
use Rattle.play_report.specs.NodeOpening.Closing.{TheyLend, NodesClose}
use Rattle.play_report.specs.NodeOpening.Laws.{HaveClosed}
use Rattle.play_report.specs.NodeOpening.Shelves.{AreDistinct}
use Rattle.play_report.specs.NodeOpening.Standing.{AllLentOut, ShelvesStand}
use Rattle.whole_play.specs.Opening.{Begins}
use Rattle.whole_play.specs.Playing.{IsOver, IsClosed, IsThroughFault, HasCause}
use Rattle.whole_play.proofs.FaultLemmas.{closed_fault}
use Rattle.whole_play.proofs.ToldLemmas.{ok_with, err_map}
use Rattle.whole_play.proofs.HoldLemmas.{closed_so}
use Rattle.whole_play.proofs.LentLemmas.{given_lends}
use Rattle.whole_play.proofs.ThroughLemmas.{head_blocks}
use Rattle.play_report.specs.PlayScripts.Blocks.{numbers}
use Rattle.play_model.specs.Lines.{blocks_of}
use Rattle.whole_play.proofs.playing.play_on.Goals as goal

pub play_through-played-requires-clause-begins : goal.play_through-played-requires-clause-begins
play_through-played-requires-clause-begins g c κs within =
    let x = c.in_ok-playing.playing in
    let opened = c.in_ok-playing.ensures.opened in
    let stood = c.opened_nodes_stand.ensures x.player.nodes.blocks.items c.args.shelves.now c.open_play.new.shelves x.player.nodes opened.distinct opened.opened_so.nodes in
    record {
      head = c.args.head;
      shelved = stood.0.count ∙ sym c.requires.fits.nodes;
      has_head = c.requires.head;
      begins = subst (λ (ls : List ScriptLine). Begins g.F.Files g.R.Roads g.R.Inward.LinkIn g.R.Outward.LinkOut c.args.head ls c.open_play.new.roads x) c.split_at.ensures.back c.in_ok-playing.ensures.begins;
    }

pub play_through-played-requires-clause-serve : goal.play_through-played-requires-clause-serve
play_through-played-requires-clause-serve g c κs within =
    let x = c.in_ok-playing.playing in
    let opened = c.in_ok-playing.ensures.opened in
    let stood = c.opened_nodes_stand.ensures x.player.nodes.blocks.items c.args.shelves.now c.open_play.new.shelves x.player.nodes opened.distinct opened.opened_so.nodes in
    record {
      before = c.args.shelves.now;
      stand = stood.0;
      lent = stood.1;
      few = subst (λ (n : ℕ). n ≤ MAX_NODES) (sym stood.0.count) c.requires.fits.few;
    }

pub close_nodes-requires-clause-distinct : goal.close_nodes-requires-clause-distinct
close_nodes-requires-clause-distinct g c κs within =
    subst (λ (bs : List BlockId). AreDistinct bs) (sym (c.deref.ensures.value ∙ c.play_through-played.ensures.blocks)) c.in_ok-playing.ensures.opened.distinct

pub close_nodes-requires-clause-lent : goal.close_nodes-requires-clause-lent
close_nodes-requires-clause-lent g c κs within =
    let x = c.in_ok-playing.playing in
    let y = c.play_through-played.new.playing in
    let opened = c.in_ok-playing.ensures.opened in
    let old = c.args.shelves.now in
    let after = c.play_through-played.new.shelves in
    let stood = c.opened_nodes_stand.ensures x.player.nodes.blocks.items old c.open_play.new.shelves x.player.nodes opened.distinct opened.opened_so.nodes in
    let stand = c.play_through-played.ensures.stay old stood.0 in
    let closing = c.standing_nodes_close.ensures old after y.player.nodes stand in
    subst (λ (bs : List BlockId). TheyLend g.S.Shelf bs y.player.nodes.nodes.items after) (sym c.deref.ensures.value) closing.lend

pub returns-clause-cause : goal.returns-clause-cause
returns-clause-cause g c =
    let s = g.S.Shelf in
    let d = g.F.Files in
    let r = g.R.Roads in
    let x = c.in_ok-playing.playing in
    let y = c.play_through-played.new.playing in
    let opened = c.in_ok-playing.ensures.opened in
    let old = c.args.shelves.now in
    let mid = c.open_play.new.shelves in
    let after = c.play_through-played.new.shelves in
    let closed = c.close_nodes.new.shelves in
    let road = c.args.roads.now in
    let road_open = c.open_play.new.roads in
    let road' = c.play_through-played.new.roads in
    let stood = c.opened_nodes_stand.ensures x.player.nodes.blocks.items old mid x.player.nodes opened.distinct opened.opened_so.nodes in
    let never = (c.standing_nodes_close.ensures old mid x.player.nodes stood.0).never_fell in
    let stand = c.play_through-played.ensures.stay old stood.0 in
    let close = subst (λ (bs : List BlockId). NodesClose s d bs y.player.nodes.nodes.items after closed) c.deref.ensures.value c.close_nodes.ensures in
    let so : HaveClosed s d old after closed y.player.nodes = (c.standing_nodes_close.ensures old after y.player.nodes stand).closed closed close in
    err_map c.play_through-played.result (IsThroughFault s d r mid after y road_open road') (HasCause s r old closed road road')
    (λ why cause. closed_fault s d r road road_open road' old mid after closed y why c.in_ok-playing.ensures.never_falls never so cause) c.play_through-played.ensures.cause

pub returns-clause-closed : goal.returns-clause-closed
returns-clause-closed g c =
    let s = g.S.Shelf in
    let d = g.F.Files in
    let r = g.R.Roads in
    let i = g.R.Inward.LinkIn in
    let o = g.R.Outward.LinkOut in
    let x = c.in_ok-playing.playing in
    let y = c.play_through-played.new.playing in
    let opened = c.in_ok-playing.ensures.opened in
    let script = c.args.script.now in
    let old = c.args.shelves.now in
    let after = c.play_through-played.new.shelves in
    let closed = c.close_nodes.new.shelves in
    let road = c.play_through-played.new.roads in
    let stood = c.opened_nodes_stand.ensures x.player.nodes.blocks.items old c.open_play.new.shelves x.player.nodes opened.distinct opened.opened_so.nodes in
    let stand : ShelvesStand s old after y.player.nodes = c.play_through-played.ensures.stay old stood.0 in
    let close = subst (λ (bs : List BlockId). NodesClose s d bs y.player.nodes.nodes.items after closed) c.deref.ensures.value c.close_nodes.ensures in
    let blocks : numbers y.player.nodes.blocks.items ≡ blocks_of script =
    ap numbers c.play_through-played.ensures.blocks ∙ (c.in_ok-playing.ensures.begins.are.are ∙ (ap blocks_of c.split_at.ensures.back ∙ sym (head_blocks c.args.head (drop 2 script) script c.requires.head))) in
    ok_with c.play_through-played.result (IsOver d r i o script road y) (IsClosed s d r script old closed road) (AllLentOut s after y.player.nodes)
    (λ lent p over. closed_so s d r i o script old after closed road y p opened.opened_so.nodes.empty stand lent close c.replicas_have_their_bytes.ensures c.shown_nodes_fit.ensures c.fitting_books_are_of_blocks.ensures blocks over) c.play_through-played.ensures.lent c.play_through-played.ensures.through

pub returns-in_err-playing-clause-lent : goal.returns-in_err-playing-clause-lent
returns-in_err-playing-clause-lent g c =
    given_lends g.S.Shelf c.args.shelves.now c.open_play.new.shelves c.in_err-playing.ensures.given_back

pub returns-clause-lent : goal.returns-clause-lent
returns-clause-lent g c =
    let s = g.S.Shelf in
    let d = g.F.Files in
    let x = c.in_ok-playing.playing in
    let y = c.play_through-played.new.playing in
    let opened = c.in_ok-playing.ensures.opened in
    let old = c.args.shelves.now in
    let after = c.play_through-played.new.shelves in
    let closed = c.close_nodes.new.shelves in
    let stood = c.opened_nodes_stand.ensures x.player.nodes.blocks.items old c.open_play.new.shelves x.player.nodes opened.distinct opened.opened_so.nodes in
    let stand = c.play_through-played.ensures.stay old stood.0 in
    let close = subst (λ (bs : List BlockId). NodesClose s d bs y.player.nodes.nodes.items after closed) c.deref.ensures.value c.close_nodes.ensures in
    ((c.standing_nodes_close.ensures old after y.player.nodes stand).closed closed close).lent
