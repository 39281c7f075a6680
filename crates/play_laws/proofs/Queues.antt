-- A writer's steps give it no commands, and leave its intake as it is.
use Rattle.std.proofs.Common.{◌≡◌, ℕ, Bool, true, false, List, [], ◌∷◌, length, slice_get, Option, Some, None, Ok, Err, refl, sym, subst}
use Rattle.std.specs.Prelude.{nat_le}
use Rattle.hd_base.specs.declared.numbers.NodeId.{NodeId}
use Rattle.hd_base.specs.declared.numbers.Stamp.{Stamp}
use Rattle.ack_codec.specs.declared.acks.Ack.{Ack}
use Rattle.ack_codec.specs.declared.responses.Response.{Response}
use Rattle.name_core.specs.declared.calls.OfficeAnswer.{OfficeAnswer}
use Rattle.name_core.specs.declared.calls.OfficeAnswer.TheVariants as office
use Rattle.name_core.specs.declared.calls.Reopened.{Reopened}
use Rattle.name_core.specs.declared.faults.OfficeFault.{OfficeFault}
use Rattle.name_core.specs.declared.faults.OfficeFault.TheVariants as fault
use Rattle.name_core.specs.declared.records.TheConstants.{MAX_APPEND_LENGTH}
use Rattle.packet_codec.specs.declared.packets.Packet.{Packet}
use Rattle.packet_stream.specs.Streams.{oldest_seqno}
use Rattle.writer_core.specs.declared.commands.Command.{Command}
use Rattle.writer_core.specs.declared.intake.Intake.{Intake}
use Rattle.writer_core.specs.declared.phases.DuePacket.{DuePacket}
use Rattle.writer_core.specs.declared.phases.DuePacket.TheVariants as due
use Rattle.writer_core.specs.declared.phases.Failure.{Failure}
use Rattle.writer_core.specs.declared.phases.Phase.{Phase}
use Rattle.writer_core.specs.declared.phases.Phase.TheVariants as phase
use Rattle.writer_core.specs.declared.phases.Remedy.{Remedy}
use Rattle.writer_core.specs.declared.phases.Remedy.TheVariants as remedy
use Rattle.writer_core.specs.declared.phases.Setup.{Setup}
use Rattle.writer_core.specs.declared.phases.Setup.TheVariants as setup
use Rattle.writer_core.specs.declared.phases.Verdict.{Verdict}
use Rattle.writer_core.specs.declared.phases.Verdict.TheVariants as verdict
use Rattle.writer_core.specs.declared.phases.Waiting.{Waiting}
use Rattle.writer_core.specs.declared.records.WriterRecord.{WriterRecord}
use Rattle.writer_core.specs.Phases.{remedy_after, remedy_in, remedy_at_ack, is_success, ack_verdict, bad_place, without}
use Rattle.writer_core.specs.Transitions.{take_first, free_step_as, failed_first, failed_step_as, dial_step_as, accepted_step, due_step, due_now, reach_step_as, reached_length, stream_step_as, step_in, own_step, dropped, fail_for, fail_named, ended_as, ended, acked_as, acked_in, acked, setup_answered_in, setup_answered, dialled_in, dialled, refused, stamped, reopened, stamp_given, committed_as, commit_given, complete_given, granted_in, granted, asks}
use Rattle.world.specs.Parts.{request, packet, ack, response, read_status, recovery_answer, Told}
use Rattle.world.specs.Connections.{Next, message, the_end}
use Rattle.world.specs.Clients.{named_member, writer_hears}
use Rattle.play_model.proofs.WorldLaws.FactTables.{if-each}

-- no command is given and not taken
abbrev pub Bare : WriterRecord → Type 0
Bare x = x.queue ≡ []

module _ (i : Intake) where
  -- nor is one, and the intake is this one
  abbrev pub Still : WriterRecord → Type 0
  Still x = (x.queue ≡ []) × (x.intake ≡ i)

  -- ITS OWN STEPS

  free-still : (x : WriterRecord) (o : Option Waiting) → Still x → Still (free_step_as x o).writer
  free-still x (Some y) h = h
  free-still x None h = subst (λ (q : List Command). Still (take_first x (slice_get q 0)).writer) (sym h.0) h

  failed-still : (x : WriterRecord) (f : Failure) (o : Option Waiting) → Still x → Still (failed_step_as x f o).writer
  failed-still x f (Some y) h = h
  failed-still x f None h = subst (λ (q : List Command). Still (failed_first x f (slice_get q 0)).writer) (sym h.0) h

  accepted-still : (x : WriterRecord) (s : Setup) (stamp : Stamp) → Still x → Still (accepted_step x s stamp).writer
  accepted-still x setup.Create stamp h = h
  accepted-still x setup.Append stamp h = h
  accepted-still x setup.AppendRecovery stamp h = h
  accepted-still x setup.StreamRecovery stamp h = h
  accepted-still x setup.CloseRecovery stamp h = h

  reach-still : (x : WriterRecord) (o : Option ℕ) → Still x → Still (reach_step_as x o).writer
  reach-still x (Some n) h = h
  reach-still x None h = free-still x x.waiting h

  due-still : (x : WriterRecord) (o : Option DuePacket) → Still x → Still (due_step x o).writer
  due-still x (Some (due.Data end is_sync)) h = h
  due-still x (Some due.Sync) h = h
  due-still x (Some due.Last) h = h
  due-still x None h = reach-still x (reached_length x.waiting x.stream) h

  stream-still : (x : WriterRecord) (sent : ℕ) (o : Option Packet) → Still x → Still (stream_step_as x sent o).writer
  stream-still x sent (Some p) h = h
  stream-still x sent None h = due-still x (due_now x) h

  dial-still : (x : WriterRecord) (s : Setup) (stamp : Stamp) (ns : List NodeId) → Still x → Still (dial_step_as x s stamp ns).writer
  dial-still x s stamp [] h = h
  dial-still x s stamp (n ∷ ns) h = h

  step-still : (x : WriterRecord) (p : Phase) → Still x → Still (step_in x p).writer
  step-still x phase.Closed h = free-still x x.waiting h
  step-still x (phase.Wanted s) h = h
  step-still x (phase.Stamped s stamp) h = dial-still x s stamp x.members h
  step-still x (phase.Requested s stamp) h = free-still x x.waiting h
  step-still x (phase.Accepted s stamp) h = accepted-still x s stamp h
  step-still x phase.Opened h = h
  step-still x (phase.Streaming sent) h = stream-still x sent (slice_get x.stream.unacked sent) h
  step-still x phase.Closing h = free-still x x.waiting h
  step-still x phase.Finished h = h
  step-still x phase.Completed h = h
  step-still x (phase.Failed f) h = failed-still x f x.waiting h

  pub own-still : (x : WriterRecord) → Still x → Still (own_step x).writer
  unfolding own_step
  own-still x h = step-still x x.phase h

  -- WHAT IT TAKES

  dropped-still : (x : WriterRecord) (s : Setup) (bad : NodeId) (ms : List NodeId) → Still x → Still (dropped x s bad ms)
  dropped-still x s bad [] h = h
  dropped-still x s bad (m ∷ ms) h = h

  fail-still : (x : WriterRecord) (r : Remedy) (bad : NodeId) → Still x → Still (fail_for x r bad)
  fail-still x remedy.Abandon bad h = h
  fail-still x (remedy.Recover s) bad h = dropped-still x s bad (without x.members bad) h

  named-still : (x : WriterRecord) (r : Remedy) (o : Option NodeId) → Still x → Still (fail_named x r o)
  named-still x r None h = h
  named-still x r (Some bad) h = fail-still x r bad h

  ended-still : (x : WriterRecord) → Still x → Still (ended x)
  unfolding ended
  ended-still x h = go (remedy_in x.phase)
    where
      go : (o : Option Remedy) → Still (ended_as x o)
      go None = h
      go (Some r) = named-still x r (slice_get x.members 0) h

  acked-still : (x : WriterRecord) (a : Ack) → Still x → Still (acked x a)
  unfolding acked
  acked-still x a h = go (remedy_at_ack x.phase)
    where
      says : (r : Remedy) (v : Verdict) → Still (acked_as x r v)
      says r verdict.Good = h
      says r (verdict.Bad place) = named-still x r (slice_get x.members place) h

      go : (o : Option Remedy) → Still (acked_in x a o)
      go None = h
      go (Some r) = says r (ack_verdict (oldest_seqno x.stream) (length x.members) a)

  setup-still : (x : WriterRecord) (p : Phase) (good : Bool) (bad : Option NodeId) → Still x → Still (setup_answered_in x p good bad)
  setup-still x (phase.Requested s stamp) true bad h = h
  setup-still x (phase.Requested s stamp) false bad h = named-still x (remedy_after s) (slice_get x.members (bad_place x.members bad)) h
  setup-still x phase.Closed good bad h = h
  setup-still x (phase.Wanted s) good bad h = h
  setup-still x (phase.Stamped s stamp) good bad h = h
  setup-still x (phase.Accepted s stamp) good bad h = h
  setup-still x phase.Opened good bad h = h
  setup-still x (phase.Streaming sent) good bad h = h
  setup-still x phase.Closing good bad h = h
  setup-still x phase.Finished good bad h = h
  setup-still x phase.Completed good bad h = h
  setup-still x (phase.Failed f) good bad h = h

  answered-still : (x : WriterRecord) (r : Response) (bad : Option NodeId) → Still x → Still (setup_answered x r bad)
  unfolding setup_answered
  answered-still x r bad h = setup-still x x.phase (is_success r.status) bad h

  pub hears-still : (x : WriterRecord) (n : Next) → Still x → Still (writer_hears x n)
  hears-still x (message (response r)) h = answered-still x r (named_member x.members r.first_bad) h
  hears-still x (message (ack a)) h = acked-still x a h
  hears-still x (message (request r)) h = ended-still x h
  hears-still x (message (packet p)) h = ended-still x h
  hears-still x (message (read_status s)) h = ended-still x h
  hears-still x (message (recovery_answer a)) h = ended-still x h
  hears-still x the_end h = ended-still x h

  pub dialled-still : (x : WriterRecord) (answered : Bool) → Still x → Still (dialled x answered)
  unfolding dialled
  dialled-still x answered h = go x.phase answered
    where
      go : (p : Phase) (b : Bool) → Still (dialled_in x p b)
      go (phase.Stamped s stamp) true = h
      go (phase.Stamped s stamp) false = named-still x (remedy_after s) (slice_get x.members 0) h
      go phase.Closed b = h
      go (phase.Wanted s) b = h
      go (phase.Requested s stamp) b = h
      go (phase.Accepted s stamp) b = h
      go phase.Opened b = h
      go (phase.Streaming sent) b = h
      go phase.Closing b = h
      go phase.Finished b = h
      go phase.Completed b = h
      go (phase.Failed f) b = h

  -- THE OFFICE'S ANSWER

  stamped-still : (x : WriterRecord) (s : Setup) (stamp : Stamp) → Still x → Still (stamped x s stamp)
  stamped-still x setup.Create stamp h = h
  stamped-still x setup.Append stamp h = h
  stamped-still x setup.AppendRecovery stamp h = h
  stamped-still x setup.StreamRecovery stamp h = h
  stamped-still x setup.CloseRecovery stamp h = h

  reopened-still : (x : WriterRecord) (s : Setup) (r : Reopened) → Still x → Still (reopened x s r)
  reopened-still x setup.Append r h = if-each Still (nat_le r.length MAX_APPEND_LENGTH) _ _ (λ e. h) (λ e. h)
  reopened-still x setup.Create r h = h
  reopened-still x setup.AppendRecovery r h = h
  reopened-still x setup.StreamRecovery r h = h
  reopened-still x setup.CloseRecovery r h = h

  stamp-still : (x : WriterRecord) (s : Setup) (a : OfficeAnswer) → Still x → Still (stamp_given x s a)
  stamp-still x s (office.Stamp stamp) h = stamped-still x s stamp h
  stamp-still x s (office.Reopened r) h = reopened-still x s r h
  stamp-still x s (office.Begun b) h = h
  stamp-still x s office.Nothing h = h

  committed-still : (x : WriterRecord) (s : Setup) (stamp : Stamp) → Still x → Still (committed_as x s stamp)
  committed-still x setup.Create stamp h = h
  committed-still x setup.Append stamp h = h
  committed-still x setup.AppendRecovery stamp h = h
  committed-still x setup.StreamRecovery stamp h = h
  committed-still x setup.CloseRecovery stamp h = h

  commit-still : (x : WriterRecord) (s : Setup) (stamp : Stamp) (a : OfficeAnswer) → Still x → Still (commit_given x s stamp a)
  commit-still x s stamp office.Nothing h = committed-still x s stamp h
  commit-still x s stamp (office.Stamp t) h = h
  commit-still x s stamp (office.Reopened r) h = h
  commit-still x s stamp (office.Begun b) h = h

  complete-still : (x : WriterRecord) (a : OfficeAnswer) → Still x → Still (complete_given x a)
  complete-still x office.Nothing h = h
  complete-still x (office.Stamp t) h = h
  complete-still x (office.Reopened r) h = h
  complete-still x (office.Begun b) h = h

  grant-still : (x : WriterRecord) (p : Phase) (a : OfficeAnswer) → Still x → Still (granted_in x p a)
  grant-still x (phase.Wanted s) a h = stamp-still x s a h
  grant-still x (phase.Accepted s stamp) a h = commit-still x s stamp a h
  grant-still x phase.Finished a h = complete-still x a h
  grant-still x phase.Closed a h = h
  grant-still x (phase.Stamped s stamp) a h = h
  grant-still x (phase.Requested s stamp) a h = h
  grant-still x phase.Opened a h = h
  grant-still x (phase.Streaming sent) a h = h
  grant-still x phase.Closing a h = h
  grant-still x phase.Completed a h = h
  grant-still x (phase.Failed f) a h = h

  refused-still : (x : WriterRecord) (e : OfficeFault) → Still x → Still (refused x e)
  refused-still x fault.Memory h = h
  refused-still x (fault.LeaseLost r) h = h
  refused-still x fault.Known h = h
  refused-still x fault.Unknown h = h
  refused-still x fault.NotOpen h = h
  refused-still x fault.NotClosed h = h
  refused-still x (fault.OldStamp s) h = h
  refused-still x (fault.OldRecovery s) h = h
  refused-still x (fault.TooLong n) h = h

  pub granted-still : (x : WriterRecord) (t : Told) → Still x → Still (granted x t)
  unfolding granted
  granted-still x (Ok a) h = grant-still x x.phase a h
  granted-still x (Err e) h = if-each Still (asks x.phase) (refused x e) x (λ k. refused-still x e h) (λ k. h)

-- NO COMMANDS

pub own-bare : (x : WriterRecord) → Bare x → Bare (own_step x).writer
own-bare x h = (own-still x.intake x (h, refl)).0

pub hears-bare : (x : WriterRecord) (n : Next) → Bare x → Bare (writer_hears x n)
hears-bare x n h = (hears-still x.intake x n (h, refl)).0

pub dialled-bare : (x : WriterRecord) (answered : Bool) → Bare x → Bare (dialled x answered)
dialled-bare x answered h = (dialled-still x.intake x answered (h, refl)).0

pub granted-bare : (x : WriterRecord) (t : Told) → Bare x → Bare (granted x t)
granted-bare x t h = (granted-still x.intake x t (h, refl)).0
