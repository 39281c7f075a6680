use Rattle.play.proofs.laws.reads_leave_others.Goals as goal

pub returns : goal.returns
returns g c = record {
  stay = c.recoveries_stay.ensures;
  asking = c.readers_keep_recoveries.ensures.asks;
  reading = c.readers_keep_recoveries.ensures.hears;
  serving = c.readers_keep_recoveries.ensures.serves;
  sending = c.readers_keep_recoveries.ensures.sends;
}
