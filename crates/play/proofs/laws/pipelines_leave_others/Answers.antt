use Rattle.play.proofs.laws.pipelines_leave_others.Goals as goal

pub returns : goal.returns
returns g c = record {
  reads_stay = c.reads_stay.ensures;
  own_reads = c.writers_keep_reads.ensures.own;
  heard_reads = c.writers_keep_reads.ensures.hears;
  down_reads = c.members_keep_reads.ensures.downs;
  fault_reads = c.members_keep_reads.ensures.faults;
  ready_reads = c.members_keep_reads.ensures.readies;
  mirror_reads = c.members_keep_reads.ensures.mirrors;
  cut_reads = c.cuts_keep_reads.ensures;
  recoveries_stay = c.recoveries_stay.ensures;
  own_recoveries = c.writers_keep_recoveries.ensures.own;
  heard_recoveries = c.writers_keep_recoveries.ensures.hears;
  down_recoveries = c.members_keep_recoveries.ensures.downs;
  fault_recoveries = c.members_keep_recoveries.ensures.faults;
  ready_recoveries = c.members_keep_recoveries.ensures.readies;
  mirror_recoveries = c.members_keep_recoveries.ensures.mirrors;
  cut_recoveries = c.cuts_keep_recoveries.ensures;
}
