-- What was drawn befell.
use Rattle.std.proofs.Common.{rules, Some, refl, ap, subst}
use Rattle.play_scripts.proofs.PlayNodes.PlaceLaws.{none_so}
use Rattle.play_opening.specs.PlayDues.Drawing.{DrawsDue}
use Rattle.play_opening.specs.PlayDues.Live.{IsRefreshed}
use Rattle.play_lines.specs.Befalling.{KeepsRest}
use Rattle.play_lines.proofs.Drawn.{nothing_drawn, drew, drew_failed, stands_there}
use Rattle.play_lines.proofs.playing.Playing.draw.Goals as goal

pub returns-in_default-drawn-clause-shows : goal.returns-in_default-drawn-clause-shows
returns-in_default-drawn-clause-shows g c =
    let old = c.args.self.now in
    let new = record old { generator = c.draw_due-drawn.new.generator; live = c.refresh.new.self } in
    nothing_drawn g.F.Files g.R.Roads g.I.LinkIn g.O.LinkOut c.worlds_are_lawful.ensures c.takers_are_open.ensures c.dues_are_listed.ensures c.plays_are_drawn.ensures.draws c.plays_are_drawn.ensures.end c.live_connections_are_covered.ensures.current old new c.args.roads.now c.draw_due-drawn.new.roads c.draw_due-drawn.result refl
    (none_so c.draw_due-drawn.result c.in_default-drawn.not-Some)
    (subst (λ xs. IsRefreshed g.I.LinkIn g.O.LinkOut old.live c.refresh.new.self old.player.nodes xs old.player.reads old.player.recoveries) c.as_slice-clients.ensures.value c.in-Ok.ensures)
    (subst (λ xs. DrawsDue g.R.Roads g.I.LinkIn g.O.LinkOut c.refresh.new.self old.player.nodes xs old.player.reads old.player.recoveries c.args.roads.now c.draw_due-drawn.new.roads old.generator c.draw_due-drawn.new.generator c.draw_due-drawn.result) c.as_slice-clients.ensures.value c.draw_due-drawn.ensures.draws)

pub befall-requires-after_bounds : goal.befall-requires-after_bounds
befall-requires-after_bounds g c κs within =
    let old = c.args.self.now in
    let mid = record old { generator = c.draw_due-drawn.new.generator; live = c.refresh.new.self } in
    stands_there g.F.Files g.R.Roads g.I.LinkIn g.O.LinkOut c.worlds_are_lawful.ensures c.takers_are_open.ensures old mid c.args.roads.now c.draw_due-drawn.new.roads c.draw_due-drawn.result refl c.requires
    (subst (λ xs. DrawsDue g.R.Roads g.I.LinkIn g.O.LinkOut c.refresh.new.self old.player.nodes xs old.player.reads old.player.recoveries c.args.roads.now c.draw_due-drawn.new.roads old.generator c.draw_due-drawn.new.generator c.draw_due-drawn.result) c.as_slice-clients.ensures.value c.draw_due-drawn.ensures.draws)

pub returns-in_err-befall-clause-shows : goal.returns-in_err-befall-clause-shows
returns-in_err-befall-clause-shows g c =
    let old = c.args.self.now in
    let mid = record old { generator = c.draw_due-drawn.new.generator; live = c.refresh.new.self } in
    let new = c.befall.new.self in
    drew_failed g.F.Files g.R.Roads g.I.LinkIn g.O.LinkOut c.worlds_are_lawful.ensures c.takers_are_open.ensures c.dues_are_listed.ensures c.plays_are_drawn.ensures.draws c.listed_dues_are_due.ensures old mid new c.args.roads.now c.draw_due-drawn.new.roads c.befall.new.roads c.in-Some.due c.in_err-befall.field-0.0 c.from_residual.result (search rules) c.draw_due-drawn.ensures.pass.never_falls
    (subst (λ xs. IsRefreshed g.I.LinkIn g.O.LinkOut old.live c.refresh.new.self old.player.nodes xs old.player.reads old.player.recoveries) c.as_slice-clients.ensures.value c.in-Ok.ensures)
    (subst (λ xs. DrawsDue g.R.Roads g.I.LinkIn g.O.LinkOut c.refresh.new.self old.player.nodes xs old.player.reads old.player.recoveries c.args.roads.now c.draw_due-drawn.new.roads old.generator c.draw_due-drawn.new.generator (Some c.in-Some.due)) c.as_slice-clients.ensures.value c.in-Some.ensures.draws)
    c.in_err-befall.ensures.shows

pub returns-clause-shows : goal.returns-clause-shows
returns-clause-shows g c =
    let old = c.args.self.now in
    let mid = record old { generator = c.draw_due-drawn.new.generator; live = c.refresh.new.self } in
    let new = c.befall.new.self in
    let rest : KeepsRest mid new = c.befall.ensures.rest in
    drew g.F.Files g.R.Roads g.I.LinkIn g.O.LinkOut c.worlds_are_lawful.ensures c.takers_are_open.ensures c.dues_are_listed.ensures c.plays_are_drawn.ensures.draws c.listed_dues_are_due.ensures c.live_connections_are_covered.ensures.current c.live_connections_are_covered.ensures.on old mid new c.args.roads.now c.draw_due-drawn.new.roads c.befall.new.roads c.in-Some.due
    (ap (λ x. x.nodes) rest.same) rest.count (ap (λ x. x.generator) rest.same) (ap (λ x. x.live) rest.same)
    (subst (λ xs. IsRefreshed g.I.LinkIn g.O.LinkOut old.live c.refresh.new.self old.player.nodes xs old.player.reads old.player.recoveries) c.as_slice-clients.ensures.value c.in-Ok.ensures)
    (subst (λ xs. DrawsDue g.R.Roads g.I.LinkIn g.O.LinkOut c.refresh.new.self old.player.nodes xs old.player.reads old.player.recoveries c.args.roads.now c.draw_due-drawn.new.roads old.generator c.draw_due-drawn.new.generator (Some c.in-Some.due)) c.as_slice-clients.ensures.value c.in-Some.ensures.draws)
    c.in_ok-befall.ensures.shows
