-- A read that is served and isn't over sends a packet next.
use Rattle.std.proofs.Common.{not, ap}
use Rattle.play_servers.proofs.DueLaws.{serving_tells, resting_tells}
use Rattle.play_servers.proofs.servers.ReadServer.can_ready.Goals as goal

pub returns-in-Serving : goal.returns-in-Serving
returns-in-Serving g c =
    serving_tells g.I.LinkIn g.O.LinkOut c.args.self.now c.in-Serving.read c.in-Serving.place (not c.is_over.result) c.in-Serving.is (ap not c.is_over.ensures.value) c.is_over.ensures.sound

pub returns-in-Idle : goal.returns-in-Idle
returns-in-Idle g c = resting_tells g.I.LinkIn g.O.LinkOut c.args.self.now c.in-Idle.is
