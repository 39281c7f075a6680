-- What is left of the event is in its place.
use Rattle.std.proofs.Common.{Ok, refl, subst}
use Rattle.play_servers.specs.declared.servers.ReadEnd.TheVariants as read_end
use Rattle.play_servers.specs.declared.servers.ServerEvent.TheVariants as server_event
use Rattle.play_servers.specs.Events.{EndShowsReady, left_as}
use Rattle.play_servers.proofs.DownEvents.{followed_err}
use Rattle.play_servers.proofs.PacketEvents.{serving_ready, idle_ready, ready_shows}
use Rattle.play_servers.proofs.servers.ReadServer.ready.Goals as goal

pub returns-in-Serving-clause-shows : goal.returns-in-Serving-clause-shows
returns-in-Serving-clause-shows g c =
    ready_shows g.F.Files g.R.Roads g.I.LinkIn g.O.LinkOut c.args.self.now _ c.follow.new.self (read_end.Serving c.in-Serving.read c.in-Serving.place)
    c.args.books.now c.send-left.new.books c.args.roads.now c.send-left.new.roads c.send-left.result c.follow.result c.in-Serving.ensures.value refl
    (serving_ready g.F.Files g.R.Roads g.I.LinkIn g.O.LinkOut c.in-Serving.place c.in-Serving.read c.args.books.now c.send-left.new.books c.args.roads.now c.send-left.new.roads c.send-left.result c.send-left.ensures.sends)
    c.follow.ensures

pub returns-in-Idle-clause-shows : goal.returns-in-Idle-clause-shows
returns-in-Idle-clause-shows g c =
    let kept = left_as (read_end.Idle c.in-Idle.end) (Ok server_event.Done) in
    record {
      conn = refl;
      shows = subst (λ e. EndShowsReady g.F.Files g.R.Roads g.I.LinkIn g.O.LinkOut e c.args.books.now c.args.books.now c.args.roads.now c.args.roads.now kept) c.in-Idle.ensures.value
          (idle_ready g.F.Files g.R.Roads g.I.LinkIn g.O.LinkOut c.in-Idle.end c.args.books.now c.args.books.now c.args.roads.now c.args.roads.now kept);
    }

pub returns-in-Serving-clause-failed : goal.returns-in-Serving-clause-failed
returns-in-Serving-clause-failed g c =
    let kept = followed_err g.F.Files g.R.Roads g.I.LinkIn g.O.LinkOut _ c.follow.new.self c.send-left.result c.follow.result c.follow.ensures in
    rw c.in-Serving.ensures.after at kept
