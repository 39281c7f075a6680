-- The dial was answered, and so somebody listens on the port.
use Rattle.pipe_setup.proofs.ReachingLemmas.{listened}
use Rattle.pipe_setup.proofs.reaching.dial_mirror.Goals as goal

pub returns-in-Ok : goal.returns-in-Ok
returns-in-Ok g c =
    c.ask_mirror.ensures c.args.roads.now (listened c.in-Ok.end (g.R.Roads.plain c.args.roads.now) c.args.port c.in-Ok.ensures.cause.nobody) (record {
      upper = c.in-Ok.ensures.upper;
      number = c.in-Ok.ensures.number;
      fresh = c.in-Ok.ensures.fresh;
      observable = c.in-Ok.ensures.observable;
      fail_by = c.in-Ok.ensures.schedules;
      unused = c.in-Ok.ensures.unused;
      empty = c.in-Ok.ensures.empty;
      plain = c.in-Ok.ensures.plain;
      carried = c.dial.ensures.carried;
      risen = c.dial.ensures.risen;
      never_falls = c.in-Ok.ensures.cause.never_falls;
    })
