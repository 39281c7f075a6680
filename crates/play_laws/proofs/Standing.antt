-- Where the commands that a writer was given leave its block, beside the command that waits and the phase.
use Rattle.std.proofs.Common.{◌≡◌, ℕ, Bool, true, false, List, [], ◌∷◌, length, slice_get, Option, Some, None, Ok, Err, refl, sym, ◌∙◌, ap, subst}
use Rattle.std.specs.Prelude.{nat_le}
use Rattle.std.proofs.lemmas.Bool.{false≢true}
use Rattle.hd_base.specs.declared.numbers.NodeId.{NodeId}
use Rattle.hd_base.specs.declared.numbers.Stamp.{Stamp}
use Rattle.ack_codec.specs.declared.acks.Ack.{Ack}
use Rattle.ack_codec.specs.declared.responses.Response.{Response}
use Rattle.name_core.specs.declared.calls.OfficeAnswer.{OfficeAnswer}
use Rattle.name_core.specs.declared.calls.OfficeAnswer.TheVariants as office
use Rattle.name_core.specs.declared.calls.Reopened.{Reopened}
use Rattle.name_core.specs.declared.faults.OfficeFault.{OfficeFault}
use Rattle.name_core.specs.declared.faults.OfficeFault.TheVariants as fault
use Rattle.name_core.specs.declared.records.TheConstants.{MAX_APPEND_LENGTH}
use Rattle.packet_codec.specs.declared.packets.Packet.{Packet}
use Rattle.packet_stream.specs.Streams.{StreamState, oldest_is_last, oldest_seqno}
use Rattle.writer_core.specs.declared.commands.Command.{Command}
use Rattle.writer_core.specs.declared.intake.Stand.{Stand}
use Rattle.writer_core.specs.declared.phases.DuePacket.{DuePacket}
use Rattle.writer_core.specs.declared.phases.DuePacket.TheVariants as due
use Rattle.writer_core.specs.declared.phases.Failure.{Failure}
use Rattle.writer_core.specs.declared.phases.Phase.{Phase}
use Rattle.writer_core.specs.declared.phases.Phase.TheVariants as phase
use Rattle.writer_core.specs.declared.phases.Remedy.{Remedy}
use Rattle.writer_core.specs.declared.phases.Remedy.TheVariants as remedy
use Rattle.writer_core.specs.declared.phases.Setup.{Setup}
use Rattle.writer_core.specs.declared.phases.Setup.TheVariants as setup
use Rattle.writer_core.specs.declared.phases.Verdict.{Verdict}
use Rattle.writer_core.specs.declared.phases.Verdict.TheVariants as verdict
use Rattle.writer_core.specs.declared.phases.Waiting.{Waiting}
use Rattle.writer_core.specs.declared.phases.Waiting.TheVariants as waiting
use Rattle.writer_core.specs.declared.records.WriterRecord.{WriterRecord}
use Rattle.writer_core.specs.Commands.{is_closed}
use Rattle.writer_core.specs.Phases.{remedy_after, remedy_in, remedy_at_ack, is_success, ack_verdict, bad_place, without}
use Rattle.writer_core.specs.Transitions.{take_first, free_step_as, failed_first, failed_step_as, dial_step_as, open_step, accepted_step, completed_step, due_step, due_now, reach_step_as, reached_length, sync_formed_as, stream_step_as, step_in, own_step, dropped, fail_for, fail_named, ended_as, ended, phase_acked, acked_as, acked_in, acked, setup_answered_in, setup_answered, dialled_in, dialled, refused, stamped, reopened, stamp_given, committed_as, commit_given, complete_given, granted_in, granted, asks}
use Rattle.world.specs.Parts.{request, packet, ack, response, read_status, recovery_answer, Told}
use Rattle.world.specs.Connections.{Next, message, the_end}
use Rattle.world.specs.Clients.{named_member, writer_hears}
use Rattle.play_model.proofs.WorldLaws.FactTables.{if-each}
use Rattle.play_laws.proofs.Queues.{Bare}

-- a close waits
abbrev pub is_close : Option Waiting → Bool
is_close (Some waiting.Close) = true
is_close other = false

-- a create or an append waits
abbrev pub is_opened : Option Waiting → Bool
is_opened (Some waiting.Opening) = true
is_opened other = false

-- the block is closed or lost to the writer, or a close waits
abbrev pub is_shut : Phase → Option Waiting → Bool
is_shut phase.Closed o = true
is_shut (phase.Failed f) o = true
is_shut other o = is_close o

-- a pipeline that is set up so answers a create or an append
abbrev pub opens : Setup → Bool
opens setup.Create = true
opens setup.Append = true
opens setup.AppendRecovery = true
opens other = false

abbrev pub is_opening : Phase → Bool
is_opening (phase.Wanted s) = opens s
is_opening (phase.Stamped s stamp) = opens s
is_opening (phase.Requested s stamp) = opens s
is_opening (phase.Accepted s stamp) = opens s
is_opening phase.Opened = true
is_opening other = false

-- the writer has work to do on the block
abbrev pub is_live : Phase → Bool
is_live phase.Closed = false
is_live (phase.Failed f) = false
is_live other = true

pub not-both : (o : Option Waiting) → is_close o ≡ true → is_opened o ≡ true → ⊥
not-both None c k = false≢true c
not-both (Some waiting.Opening) c k = false≢true c
not-both (Some (waiting.Flush n)) c k = false≢true c
not-both (Some (waiting.Sync n p)) c k = false≢true c
not-both (Some waiting.Close) c k = false≢true k

pub close-shuts : (p : Phase) (o : Option Waiting) → is_close o ≡ true → is_shut p o ≡ true
close-shuts phase.Closed o c = refl
close-shuts (phase.Failed f) o c = refl
close-shuts (phase.Wanted s) o c = c
close-shuts (phase.Stamped s stamp) o c = c
close-shuts (phase.Requested s stamp) o c = c
close-shuts (phase.Accepted s stamp) o c = c
close-shuts phase.Opened o c = c
close-shuts (phase.Streaming n) o c = c
close-shuts phase.Closing o c = c
close-shuts phase.Finished o c = c
close-shuts phase.Completed o c = c

pub shut-closes : (p : Phase) (o : Option Waiting) → is_live p ≡ true → is_shut p o ≡ true → is_close o ≡ true
shut-closes phase.Closed o l c = absurd (false≢true l)
shut-closes (phase.Failed f) o l c = absurd (false≢true l)
shut-closes (phase.Wanted s) o l c = c
shut-closes (phase.Stamped s stamp) o l c = c
shut-closes (phase.Requested s stamp) o l c = c
shut-closes (phase.Accepted s stamp) o l c = c
shut-closes phase.Opened o l c = c
shut-closes (phase.Streaming n) o l c = c
shut-closes phase.Closing o l c = c
shut-closes phase.Finished o l c = c
shut-closes phase.Completed o l c = c

-- Commands leave the block so: a close waits until the block is closed; a create or an append waits while it is opened.
module _ (stand : Stand) where
  pub record Held (now : Stand) (o : Option Waiting) (p : Phase) : Type 0 where
    pub same : now ≡ stand
    pub shut : is_closed stand ≡ true → is_shut p o ≡ true
    pub opening : is_opening p ≡ true → is_opened o ≡ true

  abbrev pub Holds : WriterRecord → Type 0
  Holds x = Held x.intake.stand x.waiting x.phase

  -- on to another phase, while the same command waits
  moves : (now : Stand) (o : Option Waiting) (p q : Phase) → is_live p ≡ true → (is_opening q ≡ true → is_opening p ≡ true) → Held now o p → Held now o q
  moves now o p q l g h = record { same = h.same; shut = λ e. close-shuts q o (shut-closes p o l (h.shut e)); opening = λ e. h.opening (g e) }

  -- to where nothing more is to be done
  rests : (now : Stand) (o : Option Waiting) (p : Phase) → now ≡ stand → is_shut p o ≡ true → is_opening p ≡ false → Held now o p
  rests now o p s c l = record { same = s; shut = λ e. c; opening = λ e. absurd (false≢true (sym l ∙ e)) }

  never : {A : Type 0} → false ≡ true → A
  never e = absurd (false≢true e)

  -- FAILURES

  -- the writer may do this
  record May (now : Stand) (o : Option Waiting) (r : Remedy) : Type 0 where
    pub same : now ≡ stand
    pub shut : is_closed stand ≡ true → is_close o ≡ true
    pub opening : (s : Setup) → r ≡ remedy.Recover s → opens s ≡ true → is_opened o ≡ true

  dropped-holds : (x : WriterRecord) (s : Setup) (bad : NodeId) (ms : List NodeId) → May x.intake.stand x.waiting (remedy.Recover s) → Holds (dropped x s bad ms)
  dropped-holds x s bad [] m = rests x.intake.stand x.waiting (dropped x s bad []).phase m.same refl refl
  dropped-holds x s bad (n ∷ ms) m = record { same = m.same; shut = m.shut; opening = λ e. m.opening s refl e }

  fail-holds : (x : WriterRecord) (r : Remedy) (bad : NodeId) → May x.intake.stand x.waiting r → Holds (fail_for x r bad)
  fail-holds x remedy.Abandon bad m = rests x.intake.stand x.waiting (fail_for x remedy.Abandon bad).phase m.same refl refl
  fail-holds x (remedy.Recover s) bad m = dropped-holds x s bad (without x.members bad) m

  named-holds : (x : WriterRecord) (r : Remedy) (o : Option NodeId) → May x.intake.stand x.waiting r → Holds x → Holds (fail_named x r o)
  named-holds x r None m h = h
  named-holds x r (Some bad) m h = fail-holds x r bad m

  recovers : {s t : Setup} → remedy.Recover s ≡ remedy.Recover t → s ≡ t
  recovers e = cc

  -- what is done after a setup fails sets up for the same command
  after-opens : (s t : Setup) → remedy_after s ≡ remedy.Recover t → opens t ≡ true → opens s ≡ true
  after-opens setup.Create t e k = refl
  after-opens setup.Append t e k = refl
  after-opens setup.AppendRecovery t e k = refl
  after-opens setup.StreamRecovery t e k = ap opens (recovers e) ∙ k
  after-opens setup.CloseRecovery t e k = ap opens (recovers e) ∙ k

  may-after : (now : Stand) (o : Option Waiting) (s : Setup) (p : Phase) → is_live p ≡ true → is_opening p ≡ opens s → Held now o p → May now o (remedy_after s)
  may-after now o s p l i h = record { same = h.same; shut = λ e. shut-closes p o l (h.shut e); opening = λ t e k. h.opening (i ∙ after-opens s t e k) }

  may-recover : (now : Stand) (o : Option Waiting) (s : Setup) (p : Phase) → is_live p ≡ true → (opens s ≡ true → is_opening p ≡ true) → Held now o p → May now o (remedy.Recover s)
  may-recover now o s p l i h = record { same = h.same; shut = λ e. shut-closes p o l (h.shut e); opening = λ t e k. h.opening (i (ap opens (recovers e) ∙ k)) }

  no-remedy : {A : Type 0} (r : Remedy) → None ≡ Some r → A
  no-remedy r e = cc

  some-is : (r q : Remedy) (now : Stand) (o : Option Waiting) → Some q ≡ Some r → May now o q → May now o r
  some-is r q now o e m = subst (May now o) (the e) m
    where
      the : Some q ≡ Some r → q ≡ r
      the e = cc

  may : (now : Stand) (o : Option Waiting) (p : Phase) (r : Remedy) → remedy_in p ≡ Some r → Held now o p → May now o r
  may now o (phase.Requested s stamp) r e h = some-is r (remedy_after s) now o e (may-after now o s (phase.Requested s stamp) refl refl h)
  may now o (phase.Accepted setup.Create stamp) r e h = some-is r (remedy_after setup.Create) now o e (may-after now o setup.Create (phase.Accepted setup.Create stamp) refl refl h)
  may now o (phase.Accepted setup.Append stamp) r e h = some-is r (remedy_after setup.Append) now o e (may-after now o setup.Append (phase.Accepted setup.Append stamp) refl refl h)
  may now o (phase.Accepted setup.AppendRecovery stamp) r e h = some-is r (remedy_after setup.AppendRecovery) now o e (may-after now o setup.AppendRecovery (phase.Accepted setup.AppendRecovery stamp) refl refl h)
  may now o (phase.Accepted setup.StreamRecovery stamp) r e h = some-is r (remedy_after setup.StreamRecovery) now o e (may-after now o setup.StreamRecovery (phase.Accepted setup.StreamRecovery stamp) refl refl h)
  may now o (phase.Accepted setup.CloseRecovery stamp) r e h = no-remedy r e
  may now o phase.Opened r e h = some-is r (remedy.Recover setup.AppendRecovery) now o e (may-recover now o setup.AppendRecovery phase.Opened refl (λ k. refl) h)
  may now o (phase.Streaming n) r e h = some-is r (remedy.Recover setup.StreamRecovery) now o e (may-recover now o setup.StreamRecovery (phase.Streaming n) refl never h)
  may now o phase.Closing r e h = some-is r (remedy.Recover setup.CloseRecovery) now o e (may-recover now o setup.CloseRecovery phase.Closing refl never h)
  may now o phase.Closed r e h = no-remedy r e
  may now o (phase.Wanted s) r e h = no-remedy r e
  may now o (phase.Stamped s stamp) r e h = no-remedy r e
  may now o phase.Finished r e h = no-remedy r e
  may now o phase.Completed r e h = no-remedy r e
  may now o (phase.Failed f) r e h = no-remedy r e

  at-ack : (p : Phase) (r : Remedy) → remedy_at_ack p ≡ Some r → remedy_in p ≡ Some r
  at-ack (phase.Requested s stamp) r e = no-remedy r e
  at-ack (phase.Accepted s stamp) r e = e
  at-ack phase.Opened r e = e
  at-ack (phase.Streaming n) r e = e
  at-ack phase.Closing r e = e
  at-ack phase.Closed r e = e
  at-ack (phase.Wanted s) r e = e
  at-ack (phase.Stamped s stamp) r e = e
  at-ack phase.Finished r e = e
  at-ack phase.Completed r e = e
  at-ack (phase.Failed f) r e = e

  -- a writer with a connection has work to do
  remedy-live : (p : Phase) (r : Remedy) → remedy_in p ≡ Some r → is_live p ≡ true
  remedy-live phase.Closed r e = no-remedy r e
  remedy-live (phase.Failed f) r e = no-remedy r e
  remedy-live (phase.Wanted s) r e = refl
  remedy-live (phase.Stamped s stamp) r e = refl
  remedy-live (phase.Requested s stamp) r e = refl
  remedy-live (phase.Accepted s stamp) r e = refl
  remedy-live phase.Opened r e = refl
  remedy-live (phase.Streaming n) r e = refl
  remedy-live phase.Closing r e = refl
  remedy-live phase.Finished r e = refl
  remedy-live phase.Completed r e = refl

  -- WHAT IT TAKES

  ended-holds : (x : WriterRecord) → Holds x → Holds (ended x)
  unfolding ended
  ended-holds x h = go (remedy_in x.phase) refl
    where
      go : (o : Option Remedy) → remedy_in x.phase ≡ o → Holds (ended_as x o)
      go None e = h
      go (Some r) e = named-holds x r (slice_get x.members 0) (may x.intake.stand x.waiting x.phase r e h) h

  acked-phase : (now : Stand) (o : Option Waiting) (last : Bool) (p : Phase) → is_live p ≡ true → Held now o p → Held now o (phase_acked last p)
  acked-phase now o true p l h = moves now o p phase.Finished l never h
  acked-phase now o false (phase.Streaming n) l h = moves now o (phase.Streaming n) (phase.Streaming _) refl never h
  acked-phase now o false phase.Closed l h = h
  acked-phase now o false (phase.Wanted s) l h = h
  acked-phase now o false (phase.Stamped s stamp) l h = h
  acked-phase now o false (phase.Requested s stamp) l h = h
  acked-phase now o false (phase.Accepted s stamp) l h = h
  acked-phase now o false phase.Opened l h = h
  acked-phase now o false phase.Closing l h = h
  acked-phase now o false phase.Finished l h = h
  acked-phase now o false phase.Completed l h = h
  acked-phase now o false (phase.Failed f) l h = h

  acked-holds : (x : WriterRecord) (a : Ack) → Holds x → Holds (acked x a)
  unfolding acked
  acked-holds x a h = go (remedy_at_ack x.phase) refl
    where
      says : (r : Remedy) (v : Verdict) → remedy_in x.phase ≡ Some r → Holds (acked_as x r v)
      says r verdict.Good e = acked-phase x.intake.stand x.waiting (oldest_is_last x.stream) x.phase (remedy-live x.phase r e) h
      says r (verdict.Bad place) e = named-holds x r (slice_get x.members place) (may x.intake.stand x.waiting x.phase r e h) h

      go : (o : Option Remedy) → remedy_at_ack x.phase ≡ o → Holds (acked_in x a o)
      go None e = h
      go (Some r) e = says r (ack_verdict (oldest_seqno x.stream) (length x.members) a) (at-ack x.phase r e)

  setup-holds : (x : WriterRecord) (p : Phase) (good : Bool) (bad : Option NodeId) → Held x.intake.stand x.waiting p → Holds x → Holds (setup_answered_in x p good bad)
  setup-holds x (phase.Requested s stamp) true bad k h = moves x.intake.stand x.waiting (phase.Requested s stamp) (phase.Accepted s stamp) refl (λ e. e) k
  setup-holds x (phase.Requested s stamp) false bad k h = named-holds x (remedy_after s) (slice_get x.members (bad_place x.members bad)) (may-after x.intake.stand x.waiting s (phase.Requested s stamp) refl refl k) h
  setup-holds x phase.Closed good bad k h = h
  setup-holds x (phase.Wanted s) good bad k h = h
  setup-holds x (phase.Stamped s stamp) good bad k h = h
  setup-holds x (phase.Accepted s stamp) good bad k h = h
  setup-holds x phase.Opened good bad k h = h
  setup-holds x (phase.Streaming sent) good bad k h = h
  setup-holds x phase.Closing good bad k h = h
  setup-holds x phase.Finished good bad k h = h
  setup-holds x phase.Completed good bad k h = h
  setup-holds x (phase.Failed f) good bad k h = h

  answered-holds : (x : WriterRecord) (r : Response) (bad : Option NodeId) → Holds x → Holds (setup_answered x r bad)
  unfolding setup_answered
  answered-holds x r bad h = setup-holds x x.phase (is_success r.status) bad h h

  pub hears-holds : (x : WriterRecord) (n : Next) → Holds x → Holds (writer_hears x n)
  hears-holds x (message (response r)) h = answered-holds x r (named_member x.members r.first_bad) h
  hears-holds x (message (ack a)) h = acked-holds x a h
  hears-holds x (message (request r)) h = ended-holds x h
  hears-holds x (message (packet p)) h = ended-holds x h
  hears-holds x (message (read_status s)) h = ended-holds x h
  hears-holds x (message (recovery_answer a)) h = ended-holds x h
  hears-holds x the_end h = ended-holds x h

  pub dialled-holds : (x : WriterRecord) (answered : Bool) → Holds x → Holds (dialled x answered)
  unfolding dialled
  dialled-holds x answered h = go x.phase answered h
    where
      go : (p : Phase) (b : Bool) → Held x.intake.stand x.waiting p → Holds (dialled_in x p b)
      go (phase.Stamped s stamp) true k = moves x.intake.stand x.waiting (phase.Stamped s stamp) (phase.Requested s stamp) refl (λ e. e) k
      go (phase.Stamped s stamp) false k = named-holds x (remedy_after s) (slice_get x.members 0) (may-after x.intake.stand x.waiting s (phase.Stamped s stamp) refl refl k) h
      go phase.Closed b k = h
      go (phase.Wanted s) b k = h
      go (phase.Requested s stamp) b k = h
      go (phase.Accepted s stamp) b k = h
      go phase.Opened b k = h
      go (phase.Streaming n) b k = h
      go phase.Closing b k = h
      go phase.Finished b k = h
      go phase.Completed b k = h
      go (phase.Failed f) b k = h

  -- ITS OWN STEPS, WHERE NO COMMAND IS GIVEN

  free-holds : (x : WriterRecord) (o : Option Waiting) → Bare x → Holds x → Holds (free_step_as x o).writer
  free-holds x (Some y) q h = h
  free-holds x None q h = subst (λ (l : List Command). Holds (take_first x (slice_get l 0)).writer) (sym q) h

  failed-holds : (x : WriterRecord) (f : Failure) (o : Option Waiting) → Bare x → Held x.intake.stand x.waiting (phase.Failed f) → x.phase ≡ phase.Failed f → Holds x → Holds (failed_step_as x f o).writer
  failed-holds x f (Some y) q k e h = subst (λ (p : Phase). Held x.intake.stand None p) (sym e) (rests x.intake.stand None (phase.Failed f) h.same refl refl)
  failed-holds x f None q k e h = subst (λ (l : List Command). Holds (failed_first x f (slice_get l 0)).writer) (sym q) h

  -- a block that is opened isn't one whose close waits
  open-stands : (x : WriterRecord) (p : Phase) → is_live p ≡ true → is_opening p ≡ true → Held x.intake.stand x.waiting p → Holds (open_step x).writer
  open-stands x p l i h = record {
    same = h.same;
    shut = λ e. absurd (not-both x.waiting (shut-closes p x.waiting l (h.shut e)) (h.opening i));
    opening = never;
  }

  pub opened-holds : (x : WriterRecord) → Held x.intake.stand x.waiting phase.Opened → Holds (open_step x).writer
  opened-holds x h = open-stands x phase.Opened refl refl h

  accepted-holds : (x : WriterRecord) (s : Setup) (stamp : Stamp) → Held x.intake.stand x.waiting (phase.Accepted s stamp) → Holds x → Holds (accepted_step x s stamp).writer
  accepted-holds x setup.Create stamp k h = open-stands x (phase.Accepted setup.Create stamp) refl refl k
  accepted-holds x setup.Append stamp k h = h
  accepted-holds x setup.AppendRecovery stamp k h = h
  accepted-holds x setup.StreamRecovery stamp k h = h
  accepted-holds x setup.CloseRecovery stamp k h = h

  some-number : {A : Type 0} (n : ℕ) → None ≡ Some n → A
  some-number n e = cc

  not-close : (o : Option Waiting) (s : StreamState) (n : ℕ) → reached_length o s ≡ Some n → is_close o ≡ true → ⊥
  not-close None s n e c = false≢true c
  not-close (Some waiting.Opening) s n e c = false≢true c
  not-close (Some (waiting.Flush m)) s n e c = false≢true c
  not-close (Some (waiting.Sync m p)) s n e c = false≢true c
  not-close (Some waiting.Close) s n e c = some-number n e

  reach-holds : (x : WriterRecord) (sent : ℕ) (o : Option ℕ) → reached_length x.waiting x.stream ≡ o → Bare x → x.phase ≡ phase.Streaming sent → Held x.intake.stand x.waiting (phase.Streaming sent) → Holds x → Holds (reach_step_as x o).writer
  reach-holds x sent (Some n) r q e k h = subst (λ (p : Phase). Held x.intake.stand None p) (sym e)
      (record { same = k.same; shut = λ c. absurd (not-close x.waiting x.stream n r (k.shut c)); opening = never })
  reach-holds x sent None r q e k h = free-holds x x.waiting q h

  -- a packet that is formed leaves a close as it waits
  formed-close : (b : Bool) (n : _) (o : Option Waiting) → is_close o ≡ true → is_close (sync_formed_as b n o) ≡ true
  formed-close true n (Some waiting.Close) c = refl
  formed-close false n o c = c
  formed-close true n None c = c
  formed-close true n (Some waiting.Opening) c = c
  formed-close true n (Some (waiting.Flush m)) c = c
  formed-close true n (Some (waiting.Sync m p)) c = never c

  due-holds : (x : WriterRecord) (sent : ℕ) (o : Option DuePacket) → Bare x → x.phase ≡ phase.Streaming sent → Held x.intake.stand x.waiting (phase.Streaming sent) → Holds x → Holds (due_step x o).writer
  due-holds x sent (Some (due.Data end is_sync)) q e k h = record { same = k.same; shut = λ c. formed-close is_sync _ x.waiting (k.shut c); opening = never }
  due-holds x sent (Some due.Sync) q e k h = record { same = k.same; shut = λ c. formed-close true _ x.waiting (k.shut c); opening = never }
  due-holds x sent (Some due.Last) q e k h = moves x.intake.stand x.waiting (phase.Streaming sent) phase.Closing refl never k
  due-holds x sent None q e k h = reach-holds x sent (reached_length x.waiting x.stream) refl q e k h

  stream-holds : (x : WriterRecord) (sent : ℕ) (o : Option Packet) → Bare x → x.phase ≡ phase.Streaming sent → Held x.intake.stand x.waiting (phase.Streaming sent) → Holds x → Holds (stream_step_as x sent o).writer
  stream-holds x sent (Some p) q e k h = moves x.intake.stand x.waiting (phase.Streaming sent) (phase.Streaming _) refl never k
  stream-holds x sent None q e k h = due-holds x sent (due_now x) q e k h

  dial-holds : (x : WriterRecord) (s : Setup) (stamp : Stamp) (ns : List NodeId) → Holds x → Holds (dial_step_as x s stamp ns).writer
  dial-holds x s stamp [] h = h
  dial-holds x s stamp (n ∷ ns) h = h

  pub completed-holds : (x : WriterRecord) → Holds x → Holds (completed_step x).writer
  completed-holds x h = rests x.intake.stand None phase.Closed h.same refl refl

  step-holds : (x : WriterRecord) (p : Phase) → x.phase ≡ p → Bare x → Held x.intake.stand x.waiting p → Holds x → Holds (step_in x p).writer
  step-holds x phase.Closed e q k h = free-holds x x.waiting q h
  step-holds x (phase.Wanted s) e q k h = h
  step-holds x (phase.Stamped s stamp) e q k h = dial-holds x s stamp x.members h
  step-holds x (phase.Requested s stamp) e q k h = free-holds x x.waiting q h
  step-holds x (phase.Accepted s stamp) e q k h = accepted-holds x s stamp k h
  step-holds x phase.Opened e q k h = opened-holds x k
  step-holds x (phase.Streaming sent) e q k h = stream-holds x sent (slice_get x.stream.unacked sent) q e k h
  step-holds x phase.Closing e q k h = free-holds x x.waiting q h
  step-holds x phase.Finished e q k h = h
  step-holds x phase.Completed e q k h = completed-holds x h
  step-holds x (phase.Failed f) e q k h = failed-holds x f x.waiting q k e h

  pub own-holds : (x : WriterRecord) → Bare x → Holds x → Holds (own_step x).writer
  unfolding own_step
  own-holds x q h = step-holds x x.phase refl q h h

  -- THE OFFICE'S ANSWER

  stamped-holds : (x : WriterRecord) (s : Setup) (stamp : Stamp) → Held x.intake.stand x.waiting (phase.Wanted s) → Holds x → Holds (stamped x s stamp)
  stamped-holds x setup.Create stamp k h = moves x.intake.stand x.waiting (phase.Wanted setup.Create) (phase.Stamped setup.Create stamp) refl (λ e. e) k
  stamped-holds x setup.Append stamp k h = h
  stamped-holds x setup.AppendRecovery stamp k h = moves x.intake.stand x.waiting (phase.Wanted setup.AppendRecovery) (phase.Stamped setup.AppendRecovery stamp) refl (λ e. e) k
  stamped-holds x setup.StreamRecovery stamp k h = moves x.intake.stand x.waiting (phase.Wanted setup.StreamRecovery) (phase.Stamped setup.StreamRecovery stamp) refl (λ e. e) k
  stamped-holds x setup.CloseRecovery stamp k h = moves x.intake.stand x.waiting (phase.Wanted setup.CloseRecovery) (phase.Stamped setup.CloseRecovery stamp) refl (λ e. e) k

  reopened-holds : (x : WriterRecord) (s : Setup) (r : Reopened) → Held x.intake.stand x.waiting (phase.Wanted s) → Holds x → Holds (reopened x s r)
  reopened-holds x setup.Append r k h = if-each Holds (nat_le r.length MAX_APPEND_LENGTH) _ _
      (λ e. moves x.intake.stand x.waiting (phase.Wanted setup.Append) (phase.Stamped setup.Append r.new) refl (λ e. e) k) (λ e. h)
  reopened-holds x setup.Create r k h = h
  reopened-holds x setup.AppendRecovery r k h = h
  reopened-holds x setup.StreamRecovery r k h = h
  reopened-holds x setup.CloseRecovery r k h = h

  given-stamp-holds : (x : WriterRecord) (s : Setup) (a : OfficeAnswer) → Held x.intake.stand x.waiting (phase.Wanted s) → Holds x → Holds (stamp_given x s a)
  given-stamp-holds x s (office.Stamp stamp) k h = stamped-holds x s stamp k h
  given-stamp-holds x s (office.Reopened r) k h = reopened-holds x s r k h
  given-stamp-holds x s (office.Begun b) k h = h
  given-stamp-holds x s office.Nothing k h = h

  committed-holds : (x : WriterRecord) (s : Setup) (stamp : Stamp) → Held x.intake.stand x.waiting (phase.Accepted s stamp) → Holds x → Holds (committed_as x s stamp)
  committed-holds x setup.Create stamp k h = h
  committed-holds x setup.Append stamp k h = moves x.intake.stand x.waiting (phase.Accepted setup.Append stamp) phase.Opened refl (λ e. refl) k
  committed-holds x setup.AppendRecovery stamp k h = moves x.intake.stand x.waiting (phase.Accepted setup.AppendRecovery stamp) phase.Opened refl (λ e. refl) k
  committed-holds x setup.StreamRecovery stamp k h = moves x.intake.stand x.waiting (phase.Accepted setup.StreamRecovery stamp) (phase.Streaming 0) refl never k
  committed-holds x setup.CloseRecovery stamp k h = moves x.intake.stand x.waiting (phase.Accepted setup.CloseRecovery stamp) phase.Finished refl never k

  commit-holds : (x : WriterRecord) (s : Setup) (stamp : Stamp) (a : OfficeAnswer) → Held x.intake.stand x.waiting (phase.Accepted s stamp) → Holds x → Holds (commit_given x s stamp a)
  commit-holds x s stamp office.Nothing k h = committed-holds x s stamp k h
  commit-holds x s stamp (office.Stamp t) k h = h
  commit-holds x s stamp (office.Reopened r) k h = h
  commit-holds x s stamp (office.Begun b) k h = h

  complete-holds : (x : WriterRecord) (a : OfficeAnswer) → Held x.intake.stand x.waiting phase.Finished → Holds x → Holds (complete_given x a)
  complete-holds x office.Nothing k h = moves x.intake.stand x.waiting phase.Finished phase.Completed refl never k
  complete-holds x (office.Stamp t) k h = h
  complete-holds x (office.Reopened r) k h = h
  complete-holds x (office.Begun b) k h = h

  grant-holds : (x : WriterRecord) (p : Phase) (a : OfficeAnswer) → Held x.intake.stand x.waiting p → Holds x → Holds (granted_in x p a)
  grant-holds x (phase.Wanted s) a k h = given-stamp-holds x s a k h
  grant-holds x (phase.Accepted s stamp) a k h = commit-holds x s stamp a k h
  grant-holds x phase.Finished a k h = complete-holds x a k h
  grant-holds x phase.Closed a k h = h
  grant-holds x (phase.Stamped s stamp) a k h = h
  grant-holds x (phase.Requested s stamp) a k h = h
  grant-holds x phase.Opened a k h = h
  grant-holds x (phase.Streaming sent) a k h = h
  grant-holds x phase.Closing a k h = h
  grant-holds x phase.Completed a k h = h
  grant-holds x (phase.Failed f) a k h = h

  fails : (x : WriterRecord) (f : Failure) → Holds x → Held x.intake.stand x.waiting (phase.Failed f)
  fails x f h = rests x.intake.stand x.waiting (phase.Failed f) h.same refl refl

  refused-holds : (x : WriterRecord) (e : OfficeFault) → Holds x → Holds (refused x e)
  refused-holds x fault.Memory h = h
  refused-holds x (fault.LeaseLost r) h = fails x _ h
  refused-holds x fault.Known h = fails x _ h
  refused-holds x fault.Unknown h = fails x _ h
  refused-holds x fault.NotOpen h = fails x _ h
  refused-holds x fault.NotClosed h = fails x _ h
  refused-holds x (fault.OldStamp s) h = fails x _ h
  refused-holds x (fault.OldRecovery s) h = fails x _ h
  refused-holds x (fault.TooLong n) h = fails x _ h

  pub granted-holds : (x : WriterRecord) (t : Told) → Holds x → Holds (granted x t)
  unfolding granted
  granted-holds x (Ok a) h = grant-holds x x.phase a h h
  granted-holds x (Err e) h = if-each Holds (asks x.phase) (refused x e) x (λ k. refused-holds x e h) (λ k. h)
