-- What the steps of a writer leave of its members and its phase.
use Rattle.std.proofs.Common.{◌≡◌, ◌≢◌, ℕ, zero, Bool, true, false, List, [], ◌∷◌, ◌++◌, length, slice_get, Option, Some, None, Result, Ok, Err, refl, sym, ◌∙◌, subst}
use Rattle.std.specs.Prelude.{◌==◌, not, nat_le, if◌then◌else◌}
use Rattle.std.proofs.lemmas.Bool.{false≢true}
use Rattle.std.proofs.lemmas.Option.{none-some, same_Some}
use Rattle.hd_base.specs.declared.numbers.NodeId.{NodeId}
use Rattle.hd_base.specs.declared.numbers.Stamp.{Stamp}
use Rattle.hd_base.specs.SumRules.{Rule}
use Rattle.ack_codec.specs.declared.acks.Ack.{Ack}
use Rattle.ack_codec.specs.declared.responses.Response.{Response}
use Rattle.name_core.specs.declared.calls.OfficeAnswer.{OfficeAnswer}
use Rattle.name_core.specs.declared.calls.OfficeAnswer.TheVariants as office
use Rattle.name_core.specs.declared.calls.Reopened.{Reopened}
use Rattle.name_core.specs.declared.faults.OfficeFault.{OfficeFault}
use Rattle.name_core.specs.declared.faults.OfficeFault.TheVariants as fault
use Rattle.name_core.specs.declared.records.TheConstants.{MAX_APPEND_LENGTH}
use Rattle.packet_codec.specs.declared.packets.Packet.{Packet}
use Rattle.packet_stream.specs.Streams.{oldest_is_last, oldest_seqno}
use Rattle.writer_core.specs.declared.commands.Command.{Command}
use Rattle.writer_core.specs.declared.commands.Command.TheVariants as command
use Rattle.writer_core.specs.declared.commands.CommandFault.{CommandFault}
use Rattle.writer_core.specs.declared.commands.CommandFault.TheVariants as command_fault
use Rattle.writer_core.specs.declared.intake.Intake.{Intake}
use Rattle.writer_core.specs.declared.intake.Stand.{Stand}
use Rattle.writer_core.specs.declared.phases.DuePacket.{DuePacket}
use Rattle.writer_core.specs.declared.phases.DuePacket.TheVariants as due
use Rattle.writer_core.specs.declared.phases.Failure.{Failure}
use Rattle.writer_core.specs.declared.phases.Phase.{Phase}
use Rattle.writer_core.specs.declared.phases.Phase.TheVariants as phase
use Rattle.writer_core.specs.declared.phases.Remedy.{Remedy}
use Rattle.writer_core.specs.declared.phases.Remedy.TheVariants as remedy
use Rattle.writer_core.specs.declared.phases.Setup.{Setup}
use Rattle.writer_core.specs.declared.phases.Setup.TheVariants as setup
use Rattle.writer_core.specs.declared.phases.Verdict.{Verdict}
use Rattle.writer_core.specs.declared.phases.Verdict.TheVariants as verdict
use Rattle.writer_core.specs.declared.phases.Waiting.{Waiting}
use Rattle.writer_core.specs.declared.records.WriterRecord.{WriterRecord}
use Rattle.writer_core.specs.Commands.{admitted, is_too_much, is_unmade, is_closed, fits, intake_after}
use Rattle.writer_core.specs.Phases.{remedy_after, remedy_in, remedy_at_ack, is_success, ack_verdict, bad_place, without}
use Rattle.writer_core.specs.Transitions.{given, given_as, taken_as, take_first, free_step_as, failed_first, failed_step_as, dial_step_as, open_step, accepted_step, due_step, due_now, reach_step_as, reached_length, stream_step_as, step_in, own_step, completed_step, dropped, fail_for, fail_named, ended_as, ended, phase_acked, acked_as, acked_in, acked, setup_answered_in, setup_answered, dialled_in, dialled, refused, stamped, reopened, stamp_given, committed_as, commit_given, complete_given, granted_in, granted, asks, is_connected}
use Rattle.world.specs.Parts.{request, packet, ack, response, read_status, recovery_answer, Told}
use Rattle.world.specs.Connections.{Next, message, the_end}
use Rattle.world.specs.Clients.{named_member, writer_hears, ruled, is_empty}
use Rattle.play_model.proofs.WorldLaws.ByteFrame.{Each, each-nil, each-cons, each-tail}
use Rattle.play_model.proofs.WorldLaws.FactTables.{if-each, and-right}
use Rattle.play_laws.specs.Writers.{is_settled, needs_members}

pub some-member : (m : NodeId) (ms : List NodeId) → (m ∷ ms) ≢ []
some-member m ms e = cc

pub empty-queue : (q : List Command) → is_empty q ≡ true → q ≡ []
empty-queue [] e = refl
empty-queue (c ∷ q) e = absurd (false≢true e)

-- the request was sent, and nothing behind it
abbrev pub is_early : Phase → Bool
is_early (phase.Requested s stamp) = true
is_early (phase.Accepted s stamp) = true
is_early other = false

-- members that may be, in a phase that is settled where it must be, of a writer with a connection, or without one, which
-- had sent no more than its request, or had
module _ (Of : NodeId → Type 0) (was soon : Bool) where
  pub record Fits (now : Bool) (ms : List NodeId) (p : Phase) : Type 0 where
    pub settled : now ≡ true → is_settled p ≡ true
    pub some : needs_members p ≡ true → ms ≢ []
    pub each : Each Of ms
    pub conn : is_connected p ≡ true → was ≡ true
    pub early : is_early p ≡ true → soon ≡ true

  abbrev pub Sits : Bool → WriterRecord → Type 0
  Sits now x = Fits now x.members x.phase

  -- a phase without a connection
  quiet : (now : Bool) (ms : List NodeId) (p : Phase) → is_settled p ≡ true → is_connected p ≡ false → is_early p ≡ false → (needs_members p ≡ true → ms ≢ []) → Each Of ms → Fits now ms p
  quiet now ms p s c l n h = record { settled = λ e. s; some = n; each = h; conn = λ e. absurd (false≢true (sym c ∙ e)); early = λ e. absurd (false≢true (sym l ∙ e)) }

  -- a phase in which there are members
  moves : (now : Bool) (ms : List NodeId) (p : Phase) → is_settled p ≡ true → ms ≢ [] → Each Of ms → (is_connected p ≡ true → was ≡ true) → (is_early p ≡ true → soon ≡ true) → Fits now ms p
  moves now ms p s n h c l = record { settled = λ e. s; some = λ e. n; each = h; conn = c; early = l }

  -- FAILURES

  without-each : (ms : List NodeId) (bad : NodeId) → Each Of ms → Each Of (without ms bad)
  without-each [] bad h = each-nil Of
  without-each (m ∷ ms) bad h =
      if-each (Each Of) (not (m.0 == bad.0)) (m ∷ without ms bad) (without ms bad)
      (λ e. each-cons Of m (without ms bad) (h.at zero m refl) (without-each ms bad (each-tail Of m ms h)))
      (λ e. without-each ms bad (each-tail Of m ms h))

  dropped-fits : (now : Bool) (x : WriterRecord) (s : Setup) (bad : NodeId) (ms : List NodeId) → Each Of ms → Sits now (dropped x s bad ms)
  dropped-fits now x s bad [] h = quiet now [] (dropped x s bad []).phase refl refl refl (λ e. absurd (false≢true e)) h
  dropped-fits now x s bad (m ∷ ms) h = quiet now (m ∷ ms) (phase.Wanted s) refl refl refl (λ e. some-member m ms) h

  fail-fits : (now : Bool) (x : WriterRecord) (r : Remedy) (bad : NodeId) → Each Of x.members → Sits now (fail_for x r bad)
  fail-fits now x remedy.Abandon bad h = quiet now x.members (fail_for x remedy.Abandon bad).phase refl refl refl (λ e. absurd (false≢true e)) h
  fail-fits now x (remedy.Recover s) bad h = dropped-fits now x s bad (without x.members bad) (without-each x.members bad h)

  named-fits : (now : Bool) (x : WriterRecord) (r : Remedy) (o : Option NodeId) → Sits now x → Sits now (fail_named x r o)
  named-fits now x r None h = h
  named-fits now x r (Some bad) h = fail-fits now x r bad h.each

  -- WHAT IT TAKES

  ended-fits : (now : Bool) (x : WriterRecord) → Sits now x → Sits now (ended x)
  unfolding ended
  ended-fits now x h = go (remedy_in x.phase)
    where
      go : (o : Option Remedy) → Sits now (ended_as x o)
      go None = h
      go (Some r) = named-fits now x r (slice_get x.members 0) h

  finished : (now : Bool) (ms : List NodeId) (p : Phase) → needs_members p ≡ true → Fits now ms p → Fits now ms phase.Finished
  finished now ms p n h = quiet now ms phase.Finished refl refl refl (λ e. h.some n) h.each

  acked-needs : (p : Phase) (r : Remedy) → remedy_at_ack p ≡ Some r → needs_members p ≡ true
  acked-needs phase.Closed r e = absurd (none-some r e)
  acked-needs (phase.Wanted s) r e = refl
  acked-needs (phase.Stamped s stamp) r e = refl
  acked-needs (phase.Requested s stamp) r e = refl
  acked-needs (phase.Accepted s stamp) r e = refl
  acked-needs phase.Opened r e = refl
  acked-needs (phase.Streaming sent) r e = refl
  acked-needs phase.Closing r e = refl
  acked-needs phase.Finished r e = refl
  acked-needs phase.Completed r e = refl
  acked-needs (phase.Failed f) r e = absurd (none-some r e)

  acked-phase-fits : (now last : Bool) (ms : List NodeId) (p : Phase) → needs_members p ≡ true → Fits now ms p → Fits now ms (phase_acked last p)
  acked-phase-fits now true ms p n h = finished now ms p n h
  acked-phase-fits now false ms (phase.Streaming sent) n h = moves now ms (phase.Streaming _) refl (h.some n) h.each (λ e. h.conn refl) (λ e. absurd (false≢true e))
  acked-phase-fits now false ms phase.Closed n h = h
  acked-phase-fits now false ms (phase.Wanted s) n h = h
  acked-phase-fits now false ms (phase.Stamped s stamp) n h = h
  acked-phase-fits now false ms (phase.Requested s stamp) n h = h
  acked-phase-fits now false ms (phase.Accepted s stamp) n h = h
  acked-phase-fits now false ms phase.Opened n h = h
  acked-phase-fits now false ms phase.Closing n h = h
  acked-phase-fits now false ms phase.Finished n h = h
  acked-phase-fits now false ms phase.Completed n h = h
  acked-phase-fits now false ms (phase.Failed f) n h = h

  acked-fits : (now : Bool) (x : WriterRecord) (a : Ack) → Sits now x → Sits now (acked x a)
  unfolding acked
  acked-fits now x a h = go (remedy_at_ack x.phase) refl
    where
      says : (r : Remedy) (v : Verdict) → needs_members x.phase ≡ true → Sits now (acked_as x r v)
      says r verdict.Good n = acked-phase-fits now (oldest_is_last x.stream) x.members x.phase n h
      says r (verdict.Bad place) n = named-fits now x r (slice_get x.members place) h

      go : (o : Option Remedy) → remedy_at_ack x.phase ≡ o → Sits now (acked_in x a o)
      go None e = h
      go (Some r) e = says r (ack_verdict (oldest_seqno x.stream) (length x.members) a) (acked-needs x.phase r e)

  setup-fits : (now : Bool) (x : WriterRecord) (p : Phase) (good : Bool) (bad : Option NodeId) → Fits now x.members p → Sits now x → Sits now (setup_answered_in x p good bad)
  setup-fits now x (phase.Requested s stamp) true bad k h = moves now x.members (phase.Accepted s stamp) refl (k.some refl) h.each (λ e. k.conn refl) (λ e. k.early refl)
  setup-fits now x (phase.Requested s stamp) false bad k h = named-fits now x (remedy_after s) (slice_get x.members (bad_place x.members bad)) h
  setup-fits now x phase.Closed good bad k h = h
  setup-fits now x (phase.Wanted s) good bad k h = h
  setup-fits now x (phase.Stamped s stamp) good bad k h = h
  setup-fits now x (phase.Accepted s stamp) good bad k h = h
  setup-fits now x phase.Opened good bad k h = h
  setup-fits now x (phase.Streaming sent) good bad k h = h
  setup-fits now x phase.Closing good bad k h = h
  setup-fits now x phase.Finished good bad k h = h
  setup-fits now x phase.Completed good bad k h = h
  setup-fits now x (phase.Failed f) good bad k h = h

  answered-fits : (now : Bool) (x : WriterRecord) (r : Response) (bad : Option NodeId) → Sits now x → Sits now (setup_answered x r bad)
  unfolding setup_answered
  answered-fits now x r bad h = setup-fits now x x.phase (is_success r.status) bad h h

  pub hears-fits : (now : Bool) (x : WriterRecord) (n : Next) → Sits now x → Sits now (writer_hears x n)
  hears-fits now x (message (response r)) h = answered-fits now x r (named_member x.members r.first_bad) h
  hears-fits now x (message (ack a)) h = acked-fits now x a h
  hears-fits now x (message (request r)) h = ended-fits now x h
  hears-fits now x (message (packet p)) h = ended-fits now x h
  hears-fits now x (message (read_status s)) h = ended-fits now x h
  hears-fits now x (message (recovery_answer a)) h = ended-fits now x h
  hears-fits now x the_end h = ended-fits now x h

  -- a dial that isn't answered
  pub undialled-fits : (x : WriterRecord) (s : Setup) (stamp : Stamp) (n : NodeId) (ns : List NodeId) → x.members ≡ n ∷ ns → x.phase ≡ phase.Stamped s stamp → Each Of x.members → Sits true (dialled x false)
  unfolding dialled
  undialled-fits x s stamp n ns m e h =
      subst (λ (p : Phase). Sits true (dialled_in x p false)) (sym e)
      (subst (λ (ms : List NodeId). Sits true (fail_named x (remedy_after s) (slice_get ms 0))) (sym m) (fail-fits true x (remedy_after s) n h))

  -- ITS OWN STEPS

  -- a command that opens a block names members that may be
  abbrev pub Opens : Command → Type 0
  Opens (command.Create ms) = (ms ≢ []) × Each Of ms
  Opens (command.Append ms) = (ms ≢ []) × Each Of ms
  Opens other = Unit {0}

  wanted : (ms : List NodeId) (s : Setup) → (ms ≢ []) × Each Of ms → Fits true ms (phase.Wanted s)
  wanted ms s h = quiet true ms (phase.Wanted s) refl refl refl (λ e. h.0) h.1

  taken-fits : (x : WriterRecord) (c : Command) → Opens c → Sits true x → Sits true (taken_as x c)
  taken-fits x (command.Create ms) k h = wanted ms setup.Create k
  taken-fits x (command.Append ms) k h = wanted ms setup.Append k
  taken-fits x (command.Write bytes) k h = h
  taken-fits x (command.Fill count) k h = h
  taken-fits x command.Hflush k h = h
  taken-fits x command.Hsync k h = h
  taken-fits x command.Close k h = h

  abbrev pub FirstOpens : List Command → Type 0
  FirstOpens q = (c : Command) → slice_get q 0 ≡ Some c → Opens c

  free-fits : (x : WriterRecord) (o : Option Waiting) → FirstOpens x.queue → Sits true x → Sits true (free_step_as x o).writer
  free-fits x (Some y) k h = h
  free-fits x None k h = go (slice_get x.queue 0) refl
    where
      go : (o : Option Command) → slice_get x.queue 0 ≡ o → Sits true (take_first x o).writer
      go None e = h
      go (Some c) e = taken-fits x c (k c e) h

  failed-fits : (x : WriterRecord) (f : Failure) (o : Option Waiting) → FirstOpens x.queue → Sits true x → Sits true (failed_step_as x f o).writer
  failed-fits x f (Some y) k h = h
  failed-fits x f None k h = go (slice_get x.queue 0) refl
    where
      go : (o : Option Command) → slice_get x.queue 0 ≡ o → Sits true (failed_first x f o).writer
      go None e = h
      go (Some (command.Create ms)) e = h
      go (Some (command.Append ms)) e = wanted ms setup.Append (k (command.Append ms) e)
      go (Some (command.Write bytes)) e = h
      go (Some (command.Fill count)) e = h
      go (Some command.Hflush) e = h
      go (Some command.Hsync) e = h
      go (Some command.Close) e = h

  streams : (ms : List NodeId) (sent : ℕ) (p : Phase) (now : Bool) → needs_members p ≡ true → is_connected p ≡ true → Fits now ms p → Fits true ms (phase.Streaming sent)
  streams ms sent p now n c h = moves true ms (phase.Streaming sent) refl (h.some n) h.each (λ e. h.conn c) (λ e. absurd (false≢true e))

  accepted-fits : (x : WriterRecord) (s : Setup) (stamp : Stamp) → Fits true x.members (phase.Accepted s stamp) → Sits true x → Sits true (accepted_step x s stamp).writer
  accepted-fits x setup.Create stamp k h = streams x.members 0 (phase.Accepted setup.Create stamp) true refl refl k
  accepted-fits x setup.Append stamp k h = h
  accepted-fits x setup.AppendRecovery stamp k h = h
  accepted-fits x setup.StreamRecovery stamp k h = h
  accepted-fits x setup.CloseRecovery stamp k h = h

  pub opened-fits : (x : WriterRecord) → Fits false x.members phase.Opened → Sits true (open_step x).writer
  opened-fits x k = streams x.members 0 phase.Opened false refl refl k

  reach-fits : (x : WriterRecord) (o : Option ℕ) → FirstOpens x.queue → Sits true x → Sits true (reach_step_as x o).writer
  reach-fits x (Some n) k h = h
  reach-fits x None k h = free-fits x x.waiting k h

  due-fits : (x : WriterRecord) (sent : ℕ) (o : Option DuePacket) → FirstOpens x.queue → Fits true x.members (phase.Streaming sent) → Sits true x → Sits true (due_step x o).writer
  due-fits x sent (Some (due.Data end is_sync)) k q h = streams x.members _ (phase.Streaming sent) true refl refl q
  due-fits x sent (Some due.Sync) k q h = streams x.members _ (phase.Streaming sent) true refl refl q
  due-fits x sent (Some due.Last) k q h = moves true x.members phase.Closing refl (q.some refl) h.each (λ e. q.conn refl) (λ e. absurd (false≢true e))
  due-fits x sent None k q h = reach-fits x (reached_length x.waiting x.stream) k h

  stream-fits : (x : WriterRecord) (sent : ℕ) (o : Option Packet) → FirstOpens x.queue → Fits true x.members (phase.Streaming sent) → Sits true x → Sits true (stream_step_as x sent o).writer
  stream-fits x sent (Some p) k q h = streams x.members _ (phase.Streaming sent) true refl refl q
  stream-fits x sent None k q h = due-fits x sent (due_now x) k q h

  dial-fits : (x : WriterRecord) (s : Setup) (stamp : Stamp) (ns : List NodeId) → Sits true x → Sits true (dial_step_as x s stamp ns).writer
  dial-fits x s stamp [] h = h
  dial-fits x s stamp (n ∷ ns) h = h

  pub completed-fits : (x : WriterRecord) → Each Of x.members → Sits true (completed_step x).writer
  completed-fits x h = quiet true x.members phase.Closed refl refl refl (λ e. absurd (false≢true e)) h

  step-fits : (x : WriterRecord) (p : Phase) → FirstOpens x.queue → Fits true x.members p → Sits true x → Sits true (step_in x p).writer
  step-fits x phase.Closed k q h = free-fits x x.waiting k h
  step-fits x (phase.Wanted s) k q h = h
  step-fits x (phase.Stamped s stamp) k q h = dial-fits x s stamp x.members h
  step-fits x (phase.Requested s stamp) k q h = free-fits x x.waiting k h
  step-fits x (phase.Accepted s stamp) k q h = accepted-fits x s stamp q h
  step-fits x phase.Opened k q h = absurd (false≢true (q.settled refl))
  step-fits x (phase.Streaming sent) k q h = stream-fits x sent (slice_get x.stream.unacked sent) k q h
  step-fits x phase.Closing k q h = free-fits x x.waiting k h
  step-fits x phase.Finished k q h = h
  step-fits x phase.Completed k q h = completed-fits x h.each
  step-fits x (phase.Failed f) k q h = failed-fits x f x.waiting k h

  pub own-fits : (x : WriterRecord) → FirstOpens x.queue → Sits true x → Sits true (own_step x).writer
  unfolding own_step
  own-fits x k h = step-fits x x.phase k h h

  -- THE OFFICE'S ANSWER

  later : (ms : List NodeId) (p : Phase) → Fits true ms p → Fits false ms p
  later ms p h = record { settled = λ e. absurd (false≢true e); some = h.some; each = h.each; conn = h.conn; early = h.early }

  stamped-as : (ms : List NodeId) (s t : Setup) (stamp : Stamp) → Fits true ms (phase.Wanted s) → Fits false ms (phase.Stamped t stamp)
  stamped-as ms s t stamp h = record { settled = λ e. absurd (false≢true e); some = λ e. h.some refl; each = h.each; conn = λ e. absurd (false≢true e); early = λ e. absurd (false≢true e) }

  stamped-fits : (x : WriterRecord) (s : Setup) (stamp : Stamp) → Fits true x.members (phase.Wanted s) → Sits true x → Sits false (stamped x s stamp)
  stamped-fits x setup.Create stamp q h = stamped-as x.members setup.Create setup.Create stamp q
  stamped-fits x setup.Append stamp q h = later x.members x.phase h
  stamped-fits x setup.AppendRecovery stamp q h = stamped-as x.members setup.AppendRecovery setup.AppendRecovery stamp q
  stamped-fits x setup.StreamRecovery stamp q h = stamped-as x.members setup.StreamRecovery setup.StreamRecovery stamp q
  stamped-fits x setup.CloseRecovery stamp q h = stamped-as x.members setup.CloseRecovery setup.CloseRecovery stamp q

  reopened-fits : (x : WriterRecord) (s : Setup) (r : Reopened) → Fits true x.members (phase.Wanted s) → Sits true x → Sits false (reopened x s r)
  reopened-fits x setup.Append r q h = if-each (Sits false) (nat_le r.length MAX_APPEND_LENGTH) _ _ (λ e. stamped-as x.members setup.Append setup.Append r.new q) (λ e. later x.members x.phase h)
  reopened-fits x setup.Create r q h = later x.members x.phase h
  reopened-fits x setup.AppendRecovery r q h = later x.members x.phase h
  reopened-fits x setup.StreamRecovery r q h = later x.members x.phase h
  reopened-fits x setup.CloseRecovery r q h = later x.members x.phase h

  given-stamp-fits : (x : WriterRecord) (s : Setup) (a : OfficeAnswer) → Fits true x.members (phase.Wanted s) → Sits true x → Sits false (stamp_given x s a)
  given-stamp-fits x s (office.Stamp stamp) q h = stamped-fits x s stamp q h
  given-stamp-fits x s (office.Reopened r) q h = reopened-fits x s r q h
  given-stamp-fits x s (office.Begun b) q h = later x.members x.phase h
  given-stamp-fits x s office.Nothing q h = later x.members x.phase h

  committed-fits : (x : WriterRecord) (s : Setup) (stamp : Stamp) → Fits true x.members (phase.Accepted s stamp) → Sits true x → Sits false (committed_as x s stamp)
  committed-fits x setup.Create stamp q h = later x.members x.phase h
  committed-fits x setup.Append stamp q h = record { settled = λ e. absurd (false≢true e); some = λ e. q.some refl; each = h.each; conn = λ e. q.conn refl; early = λ e. absurd (false≢true e) }
  committed-fits x setup.AppendRecovery stamp q h = record { settled = λ e. absurd (false≢true e); some = λ e. q.some refl; each = h.each; conn = λ e. q.conn refl; early = λ e. absurd (false≢true e) }
  committed-fits x setup.StreamRecovery stamp q h = moves false x.members (phase.Streaming 0) refl (q.some refl) h.each (λ e. q.conn refl) (λ e. absurd (false≢true e))
  committed-fits x setup.CloseRecovery stamp q h = finished false x.members (phase.Accepted setup.CloseRecovery stamp) refl (later x.members (phase.Accepted setup.CloseRecovery stamp) q)

  commit-fits : (x : WriterRecord) (s : Setup) (stamp : Stamp) (a : OfficeAnswer) → Fits true x.members (phase.Accepted s stamp) → Sits true x → Sits false (commit_given x s stamp a)
  commit-fits x s stamp office.Nothing q h = committed-fits x s stamp q h
  commit-fits x s stamp (office.Stamp t) q h = later x.members x.phase h
  commit-fits x s stamp (office.Reopened r) q h = later x.members x.phase h
  commit-fits x s stamp (office.Begun b) q h = later x.members x.phase h

  complete-fits : (x : WriterRecord) (a : OfficeAnswer) → Fits true x.members phase.Finished → Sits true x → Sits false (complete_given x a)
  complete-fits x office.Nothing q h = record { settled = λ e. absurd (false≢true e); some = λ e. q.some refl; each = h.each; conn = λ e. absurd (false≢true e); early = λ e. absurd (false≢true e) }
  complete-fits x (office.Stamp t) q h = later x.members x.phase h
  complete-fits x (office.Reopened r) q h = later x.members x.phase h
  complete-fits x (office.Begun b) q h = later x.members x.phase h

  grant-fits : (x : WriterRecord) (p : Phase) (a : OfficeAnswer) → Fits true x.members p → Sits true x → Sits false (granted_in x p a)
  grant-fits x (phase.Wanted s) a q h = given-stamp-fits x s a q h
  grant-fits x (phase.Accepted s stamp) a q h = commit-fits x s stamp a q h
  grant-fits x phase.Finished a q h = complete-fits x a q h
  grant-fits x phase.Closed a q h = later x.members x.phase h
  grant-fits x (phase.Stamped s stamp) a q h = later x.members x.phase h
  grant-fits x (phase.Requested s stamp) a q h = later x.members x.phase h
  grant-fits x phase.Opened a q h = later x.members x.phase h
  grant-fits x (phase.Streaming sent) a q h = later x.members x.phase h
  grant-fits x phase.Closing a q h = later x.members x.phase h
  grant-fits x phase.Completed a q h = later x.members x.phase h
  grant-fits x (phase.Failed f) a q h = later x.members x.phase h

  fails : (ms : List NodeId) (f : Failure) → Each Of ms → Fits false ms (phase.Failed f)
  fails ms f h = quiet false ms (phase.Failed f) refl refl refl (λ e. absurd (false≢true e)) h

  refused-fits : (x : WriterRecord) (e : OfficeFault) → Sits true x → Sits false (refused x e)
  refused-fits x fault.Memory h = later x.members x.phase h
  refused-fits x (fault.LeaseLost r) h = fails x.members _ h.each
  refused-fits x fault.Known h = fails x.members _ h.each
  refused-fits x fault.Unknown h = fails x.members _ h.each
  refused-fits x fault.NotOpen h = fails x.members _ h.each
  refused-fits x fault.NotClosed h = fails x.members _ h.each
  refused-fits x (fault.OldStamp s) h = fails x.members _ h.each
  refused-fits x (fault.OldRecovery s) h = fails x.members _ h.each
  refused-fits x (fault.TooLong n) h = fails x.members _ h.each

  pub granted-fits : (x : WriterRecord) (t : Told) → Sits true x → Sits false (granted x t)
  unfolding granted
  granted-fits x (Ok a) h = grant-fits x x.phase a h h
  granted-fits x (Err e) h = if-each (Sits false) (asks x.phase) (refused x e) x (λ k. refused-fits x e h) (λ k. later x.members x.phase h)

  -- A COMMAND IS GIVEN

  -- what a command that opens a block names may be members
  abbrev pub Allows : Command → Type 0
  Allows (command.Create ms) = Each Of ms
  Allows (command.Append ms) = Each Of ms
  Allows other = Unit {0}

  some-of : (ms : List NodeId) → not (length ms == 0) ≡ true → ms ≢ []
  some-of [] e = absurd (false≢true e)
  some-of (m ∷ ms) e = some-member m ms

  fits-opens : (c : Command) (s : Stand) → fits s c ≡ true → Allows c → Opens c
  fits-opens (command.Create ms) s e a = (some-of ms (and-right (is_unmade s) (not (length ms == 0)) e), a)
  fits-opens (command.Append ms) s e a = (some-of ms (and-right (is_closed s) (not (length ms == 0)) e), a)
  fits-opens (command.Write bytes) s e a = tt
  fits-opens (command.Fill count) s e a = tt
  fits-opens command.Hflush s e a = tt
  fits-opens command.Hsync s e a = tt
  fits-opens command.Close s e a = tt

  err≢ok : (f : CommandFault) (j : Intake) → Err f ≡ Ok j → ⊥
  err≢ok f j e = cc

  admitted-fits : (c : Command) (i j : Intake) → admitted i c ≡ Ok j → fits i.stand c ≡ true
  unfolding admitted
  admitted-fits c i j = go (is_too_much i c) (fits i.stand c)
    where
      go : (much fit : Bool) → (if much then Err command_fault.TooMuch else if fit then Ok (intake_after i c) else Err command_fault.Unfit) ≡ Ok j → fit ≡ true
      go true fit e = absurd (err≢ok _ j e)
      go false true e = refl
      go false false e = absurd (err≢ok _ j e)

  one-opens : (q : List Command) (c : Command) → q ≡ [] → Opens c → FirstOpens (q ++ c ∷ [])
  one-opens q c e o = subst (λ (l : List Command). FirstOpens (l ++ c ∷ [])) (sym e) (λ d i. subst Opens (same_Some c d i) o)

  -- a writer that was given a command
  pub record Gets (x : WriterRecord) : Type 0 where
    pub first : FirstOpens x.queue
    pub sits : Sits true x

  given-as-gets : (x y : WriterRecord) (c : Command) (r : Result Intake CommandFault) → admitted x.intake c ≡ r → not (is_empty (given_as x c r).queue) ≡ true → x.queue ≡ [] → y.queue ≡ [] → Allows c → Sits true y → Gets (given_as y c r)
  given-as-gets x y c (Ok i) e n q k a h = record { first = one-opens y.queue c k (fits-opens c x.intake.stand (admitted-fits c x.intake i e) a); sits = h }
  given-as-gets x y c (Err f) e n q k a h = absurd (false≢true (subst (λ (l : List Command). not (is_empty l) ≡ true) q n))

  pub ruled-gets : (x : WriterRecord) (c : Command) (r : Rule) → not (is_empty (given x c).queue) ≡ true → x.queue ≡ [] → Allows c → Sits true x → Gets (given (ruled x c r) c)
  ruled-gets x (command.Create ms) r n q a h = given-as-gets x (ruled x (command.Create ms) r) (command.Create ms) (admitted x.intake (command.Create ms)) refl n q q a h
  ruled-gets x (command.Append ms) r n q a h = given-as-gets x x (command.Append ms) (admitted x.intake (command.Append ms)) refl n q q a h
  ruled-gets x (command.Write bytes) r n q a h = given-as-gets x x (command.Write bytes) (admitted x.intake (command.Write bytes)) refl n q q a h
  ruled-gets x (command.Fill count) r n q a h = given-as-gets x x (command.Fill count) (admitted x.intake (command.Fill count)) refl n q q a h
  ruled-gets x command.Hflush r n q a h = given-as-gets x x command.Hflush (admitted x.intake command.Hflush) refl n q q a h
  ruled-gets x command.Hsync r n q a h = given-as-gets x x command.Hsync (admitted x.intake command.Hsync) refl n q q a h
  ruled-gets x command.Close r n q a h = given-as-gets x x command.Close (admitted x.intake command.Close) refl n q q a h

  pub none-opens : (q : List Command) → q ≡ [] → FirstOpens q
  none-opens q e c i = absurd (none-some c (subst (λ (l : List Command). slice_get l 0 ≡ Some c) e i))
