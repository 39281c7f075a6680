-- The cases, by computing alone.
use Rattle.std.specs.Prelude.{refl}
use Rattle.std.specs.Fmt.{digits}
use Rattle.chunk_sums.specs.Crc.{bit_step, byte_step, enter}
use Rattle.chunk_sums.specs.Chunks.{cut, flat_sums}
use Rattle.replica_core.specs.Extents.{stream_after, heartbeat_of, start_of, place_check, packet_at}
use Rattle.replica_core.specs.Info.{reopen, recover_setup, recover_stream, begin_recovery, end_recovery, readable}
use Rattle.replica_core.specs.Transitions.{extent_transition, transition}
use Rattle.replica_model.specs.Sums.{first_wrong, bad_from}
use Rattle.request_refusals.specs.Pools.{is_in_pool}
use Rattle.request_refusals.specs.Rules.{rule_with}
use Rattle.request_refusals.specs.Texts.{spaced, spaced_signed, kept_text, values_text}
use Rattle.member_core.specs.Members.{set_up}
use Rattle.member_core.specs.Requests.{rule_for, request_event, mirror_request, response_of}
use Rattle.name_core.specs.Choice.{choice}
use Rattle.name_core.specs.Offices.{office_case}
use Rattle.writer_core.specs.Commands.{admitted}
use Rattle.writer_core.specs.Requests.{request_for}
use Rattle.writer_core.specs.Transitions.{own_step, ended, acked, setup_answered, dialled, granted}
use Rattle.recovery_core.specs.Members.{recovery_event, answer_of}
use Rattle.read_core.specs.Readings.{sums_check, wanted}
use Rattle.read_core.specs.Readings as reading
use Rattle.read_core.specs.Servings.{most_bytes, read_event, read_end, begun, piece_len, sent_before, packet_of, gone_on}
use Rattle.world.specs.Worlds.{start, apply}
use Rattle.world.specs.Connections.{down_taken, up_taken}
use Rattle.world.specs.Restarts.{may_find, restarted, restart}
use Rattle.world.specs.Events.{outcome, happens}
use Rattle.world_cases.specs.FirstWrite.{FirstWriteEnds}
use Rattle.world_cases.specs.FlushMidChunk.{FlushMidChunkEnds}
use Rattle.world_cases.specs.CutStream.{CutStreamEnds}
use Rattle.world_cases.specs.FileFault.{FileFaultEnds}
use Rattle.world_cases.specs.BlockRecovery.{BlockRecoveryEnds}
use Rattle.world_cases.specs.Restart.{RestartEnds}
use Rattle.world_cases.specs.Hsync.{HsyncEnds}
use Rattle.world_cases.specs.SumsSixteen.{SumsSixteenEnds}
use Rattle.world_cases.specs.SumsNull.{SumsNullEnds}
use Rattle.world_cases.specs.Appended.{AppendedEnds}
use Rattle.world_cases.specs.VisibleRead.{VisibleReadEnds}

pub first-write-ends : FirstWriteEnds
unfolding digits start apply down_taken up_taken may_find restarted restart outcome happens bit_step byte_step enter cut flat_sums stream_after heartbeat_of start_of place_check packet_at reopen recover_setup recover_stream begin_recovery end_recovery readable extent_transition transition first_wrong bad_from is_in_pool rule_with spaced spaced_signed kept_text values_text set_up rule_for request_event mirror_request response_of choice office_case admitted request_for own_step ended acked setup_answered dialled granted recovery_event answer_of reading.place_check sums_check wanted most_bytes read_event read_end begun piece_len sent_before packet_of gone_on
first-write-ends = record { ends = refl }

pub flush-mid-chunk-ends : FlushMidChunkEnds
unfolding digits start apply down_taken up_taken may_find restarted restart outcome happens bit_step byte_step enter cut flat_sums stream_after heartbeat_of start_of place_check packet_at reopen recover_setup recover_stream begin_recovery end_recovery readable extent_transition transition first_wrong bad_from is_in_pool rule_with spaced spaced_signed kept_text values_text set_up rule_for request_event mirror_request response_of choice office_case admitted request_for own_step ended acked setup_answered dialled granted recovery_event answer_of reading.place_check sums_check wanted most_bytes read_event read_end begun piece_len sent_before packet_of gone_on
flush-mid-chunk-ends = record { ends = refl }

pub cut-stream-ends : CutStreamEnds
unfolding digits start apply down_taken up_taken may_find restarted restart outcome happens bit_step byte_step enter cut flat_sums stream_after heartbeat_of start_of place_check packet_at reopen recover_setup recover_stream begin_recovery end_recovery readable extent_transition transition first_wrong bad_from is_in_pool rule_with spaced spaced_signed kept_text values_text set_up rule_for request_event mirror_request response_of choice office_case admitted request_for own_step ended acked setup_answered dialled granted recovery_event answer_of reading.place_check sums_check wanted most_bytes read_event read_end begun piece_len sent_before packet_of gone_on
cut-stream-ends = record { ends = refl }

pub file-fault-ends : FileFaultEnds
unfolding digits start apply down_taken up_taken may_find restarted restart outcome happens bit_step byte_step enter cut flat_sums stream_after heartbeat_of start_of place_check packet_at reopen recover_setup recover_stream begin_recovery end_recovery readable extent_transition transition first_wrong bad_from is_in_pool rule_with spaced spaced_signed kept_text values_text set_up rule_for request_event mirror_request response_of choice office_case admitted request_for own_step ended acked setup_answered dialled granted recovery_event answer_of reading.place_check sums_check wanted most_bytes read_event read_end begun piece_len sent_before packet_of gone_on
file-fault-ends = record { ends = refl }

pub block-recovery-ends : BlockRecoveryEnds
unfolding digits start apply down_taken up_taken may_find restarted restart outcome happens bit_step byte_step enter cut flat_sums stream_after heartbeat_of start_of place_check packet_at reopen recover_setup recover_stream begin_recovery end_recovery readable extent_transition transition first_wrong bad_from is_in_pool rule_with spaced spaced_signed kept_text values_text set_up rule_for request_event mirror_request response_of choice office_case admitted request_for own_step ended acked setup_answered dialled granted recovery_event answer_of reading.place_check sums_check wanted most_bytes read_event read_end begun piece_len sent_before packet_of gone_on
block-recovery-ends = record { ends = refl; recovery = refl }

pub restart-ends : RestartEnds
unfolding digits start apply down_taken up_taken may_find restarted restart outcome happens bit_step byte_step enter cut flat_sums stream_after heartbeat_of start_of place_check packet_at reopen recover_setup recover_stream begin_recovery end_recovery readable extent_transition transition first_wrong bad_from is_in_pool rule_with spaced spaced_signed kept_text values_text set_up rule_for request_event mirror_request response_of choice office_case admitted request_for own_step ended acked setup_answered dialled granted recovery_event answer_of reading.place_check sums_check wanted most_bytes read_event read_end begun piece_len sent_before packet_of gone_on
restart-ends = record { ends = refl; recovery = refl }

pub hsync-ends : HsyncEnds
unfolding digits start apply down_taken up_taken may_find restarted restart outcome happens bit_step byte_step enter cut flat_sums stream_after heartbeat_of start_of place_check packet_at reopen recover_setup recover_stream begin_recovery end_recovery readable extent_transition transition first_wrong bad_from is_in_pool rule_with spaced spaced_signed kept_text values_text set_up rule_for request_event mirror_request response_of choice office_case admitted request_for own_step ended acked setup_answered dialled granted recovery_event answer_of reading.place_check sums_check wanted most_bytes read_event read_end begun piece_len sent_before packet_of gone_on
hsync-ends = record { ends = refl }

pub sums-sixteen-ends : SumsSixteenEnds
unfolding digits start apply down_taken up_taken may_find restarted restart outcome happens bit_step byte_step enter cut flat_sums stream_after heartbeat_of start_of place_check packet_at reopen recover_setup recover_stream begin_recovery end_recovery readable extent_transition transition first_wrong bad_from is_in_pool rule_with spaced spaced_signed kept_text values_text set_up rule_for request_event mirror_request response_of choice office_case admitted request_for own_step ended acked setup_answered dialled granted recovery_event answer_of reading.place_check sums_check wanted most_bytes read_event read_end begun piece_len sent_before packet_of gone_on
sums-sixteen-ends = record { ends = refl }

pub sums-null-ends : SumsNullEnds
unfolding digits start apply down_taken up_taken may_find restarted restart outcome happens bit_step byte_step enter cut flat_sums stream_after heartbeat_of start_of place_check packet_at reopen recover_setup recover_stream begin_recovery end_recovery readable extent_transition transition first_wrong bad_from is_in_pool rule_with spaced spaced_signed kept_text values_text set_up rule_for request_event mirror_request response_of choice office_case admitted request_for own_step ended acked setup_answered dialled granted recovery_event answer_of reading.place_check sums_check wanted most_bytes read_event read_end begun piece_len sent_before packet_of gone_on
sums-null-ends = record { ends = refl }

pub appended-ends : AppendedEnds
unfolding digits start apply down_taken up_taken may_find restarted restart outcome happens bit_step byte_step enter cut flat_sums stream_after heartbeat_of start_of place_check packet_at reopen recover_setup recover_stream begin_recovery end_recovery readable extent_transition transition first_wrong bad_from is_in_pool rule_with spaced spaced_signed kept_text values_text set_up rule_for request_event mirror_request response_of choice office_case admitted request_for own_step ended acked setup_answered dialled granted recovery_event answer_of reading.place_check sums_check wanted most_bytes read_event read_end begun piece_len sent_before packet_of gone_on
appended-ends = record { ends = refl }

pub visible-read-ends : VisibleReadEnds
unfolding digits start apply down_taken up_taken may_find restarted restart outcome happens bit_step byte_step enter cut flat_sums stream_after heartbeat_of start_of place_check packet_at reopen recover_setup recover_stream begin_recovery end_recovery readable extent_transition transition first_wrong bad_from is_in_pool rule_with spaced spaced_signed kept_text values_text set_up rule_for request_event mirror_request response_of choice office_case admitted request_for own_step ended acked setup_answered dialled granted recovery_event answer_of reading.place_check sums_check wanted most_bytes read_event read_end begun piece_len sent_before packet_of gone_on
visible-read-ends = record { ends = refl; read_9 = refl; read_10 = refl; read_11 = refl; read_14 = refl }
