use Rattle.play.proofs.laws.worlds_are_lawful.Goals as goal

pub returns : goal.returns
returns c = record {
  joined = c.runs_join.ensures.joined;
  ended = c.runs_join.ensures.ended;
  tested = c.enabled_events_are_tested.ensures;
  placed = c.indices_are_in_range.ensures;
  undialled = c.only_dialled_connections_carry.ensures;
  ordered = c.messages_come_in_order.ensures;
  taken = c.messages_are_taken_in_order.ensures;
  written = c.messages_are_written.ensures;
  recovering = c.recoveries_fit.ensures;
  few = c.stamps_are_few.ensures;
  among = c.requests_are_among.ensures;
  only = c.only_nodes_run.ensures;
  running = c.running_stays.ensures;
  members = c.members_are_nodes.ensures;
  targets = c.targets_are_nodes.ensures;
  rest = c.writers_rest.ensures;
  opened = c.writers_are_open.ensures;
  early = c.nothing_comes_early.ensures;
  acts = c.writers_act_or_ask.ensures;
  takes = c.commands_are_taken.ensures;
  fresh = c.unmade_writers_are_fresh.ensures;
  own_intakes = c.intakes_stay.ensures.own;
  heard_intakes = c.intakes_stay.ensures.heard;
  own_keeps = c.own_steps_keep_others.ensures;
  heard_keeps = c.hearing_keeps_others.ensures;
  down_keeps = c.nodes_keep_writers.ensures.down;
  fault_keeps = c.nodes_keep_writers.ensures.fault;
  ready_keeps = c.nodes_keep_writers.ensures.ready;
  mirror_keeps = c.nodes_keep_writers.ensures.up;
  readers = c.readers_take_in_order.ensures;
  recoveries_ordered = c.recoveries_come_in_order.ensures;
  recoveries_named = c.recoveries_name_one_block.ensures;
  asking_others = c.readers_keep_others.ensures.asks;
  hearing_others = c.readers_keep_others.ensures.hears;
  leading_others = c.primaries_keep_others.ensures.owns;
  leading_nodes = c.primaries_keep_nodes.ensures.owns;
  told_others = c.primaries_keep_others.ensures.hears;
}
