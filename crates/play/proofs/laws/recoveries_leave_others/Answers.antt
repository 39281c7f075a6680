use Rattle.play.proofs.laws.recoveries_leave_others.Goals as goal

pub returns : goal.returns
returns g c = record {
  stay = c.reads_stay.ensures;
  leading = c.primaries_keep_reads.ensures.leads;
  answers = c.primaries_keep_reads.ensures.hears;
  answering = c.primaries_keep_reads.ensures.answers;
}
