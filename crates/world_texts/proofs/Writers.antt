-- What writers send fits, and so do writers afterwards.
use Rattle.std.proofs.Common.{◌≡◌, ℕ, zero, suc, ◌+◌, ◌-◌, ◌<◌, ◌≤◌, ◌^◌, Bool, true, false, List, [], ◌∷◌, ◌++◌, length, map, take, drop, slice_get, Option, Some, None, IfSome, Result, Ok, Err, pos, refl, sym, ap, subst, arith, length-append}
use Rattle.std.specs.Prelude.{◌==◌, ◌&&◌, not, nat_lt, nat_le, if◌then◌else◌, codes, decimal}
use Rattle.std.specs.List.{filter}
use Rattle.std.proofs.lemmas.Bool.{false≢true}
use Rattle.std.proofs.lemmas.Bool.Decides.{nat_tests}
use Rattle.std.proofs.lemmas.Fmt.{length-decimal-le}
use Rattle.std.proofs.lemmas.List.{length-take}
use Rattle.std.proofs.Math.Nat.{max-le}
use Rattle.hd_base.specs.declared.numbers.BlockId.{BlockId}
use Rattle.hd_base.specs.declared.numbers.NodeId.{NodeId}
use Rattle.hd_base.specs.declared.numbers.Stamp.{Stamp}
use Rattle.world_laws.specs.AckCodec.Ack.{Ack}
use Rattle.world_laws.specs.AckCodec.Response.{Response}
use Rattle.name_core.specs.declared.calls.OfficeAnswer.{OfficeAnswer}
use Rattle.name_core.specs.declared.calls.OfficeAnswer.TheVariants as office
use Rattle.name_core.specs.declared.calls.Reopened.{Reopened}
use Rattle.name_core.specs.declared.faults.OfficeFault.{OfficeFault}
use Rattle.name_core.specs.declared.faults.OfficeFault.TheVariants as fault
use Rattle.name_core.specs.declared.records.TheConstants.{MAX_APPEND_LENGTH}
use Rattle.op_headers.specs.declared.ops.Op.{Op}
use Rattle.op_headers.specs.declared.ops.Op.TheVariants as op
use Rattle.op_headers.specs.Stages.{stage_number}
use Rattle.world_laws.specs.NodeRefs.NodeRefs.{ref_of}
use Rattle.world_laws.specs.PacketCodec.Packet.{Packet}
use Rattle.world_laws.specs.PacketStream.TheConstants.{BLOCK_LIMIT}
use Rattle.world_laws.specs.PacketStream.Extents.{greatest_end, chunk_rest}
use Rattle.world_laws.specs.PacketStream.Streams.{StreamState, IsStream, start_in, written_in, next_packet, sync_packet, last_packet, acked_packet, oldest_is_last, oldest_seqno}
use Rattle.world_laws.proofs.PacketStream.CarryLemmas.{next_is_short}
use Rattle.world_laws.specs.WriterCore.Action.{Action}
use Rattle.world_laws.specs.WriterCore.Action.TheVariants as action
use Rattle.world_laws.specs.WriterCore.Command.{Command}
use Rattle.world_laws.specs.WriterCore.Command.TheVariants as command
use Rattle.world_laws.specs.WriterCore.CommandFault.{CommandFault}
use Rattle.world_laws.specs.WriterCore.CommandFault.TheVariants as command_fault
use Rattle.world_laws.specs.WriterCore.Intake.{Intake}
use Rattle.world_laws.specs.WriterCore.DuePacket.{DuePacket}
use Rattle.world_laws.specs.WriterCore.DuePacket.TheVariants as due
use Rattle.world_laws.specs.WriterCore.Failure.{Failure}
use Rattle.world_laws.specs.WriterCore.Phase.{Phase}
use Rattle.world_laws.specs.WriterCore.Phase.TheVariants as phase
use Rattle.world_laws.specs.WriterCore.Remedy.{Remedy}
use Rattle.world_laws.specs.WriterCore.Remedy.TheVariants as remedy
use Rattle.world_laws.specs.WriterCore.Setup.{Setup}
use Rattle.world_laws.specs.WriterCore.Setup.TheVariants as setup
use Rattle.world_laws.specs.WriterCore.SyncPacket.TheVariants as sync
use Rattle.world_laws.specs.WriterCore.Verdict.{Verdict}
use Rattle.world_laws.specs.WriterCore.Verdict.TheVariants as verdict
use Rattle.world_laws.specs.WriterCore.Waiting.{Waiting}
use Rattle.world_laws.specs.WriterCore.Waiting.TheVariants as waiting
use Rattle.world_laws.specs.WriterCore.WriterRecord.{WriterRecord}
use Rattle.world_laws.specs.WriterCore.Commands.{command_length, fits, is_too_much, intake_after, admitted}
use Rattle.world_laws.specs.WriterCore.Phases.{remedy_after, remedy_in, remedy_at_ack, is_success, ack_verdict, bad_place, without}
use Rattle.world_laws.specs.WriterCore.Requests.{stage_of, min_length, max_length, latest_stamp, request_for}
use Rattle.world_laws.specs.WriterCore.Sound.{Sound}
use Rattle.world_laws.specs.WriterCore.Transitions.{Step, given_as, given, taken_as, take_first, free_step_as, free_step, failed_command, failed_first, failed_step_as, dial_step_as, open_step, accepted_step, completed_step, is_flushing, empty_due, due_in, due_now, form_step, reached_length, reach_step_as, due_step, stream_step_as, step_in, own_step, dropped, fail_for, fail_named, fail_at, ended_as, ended, phase_acked, acked_oldest, acked_as, acked_in, acked, setup_answered_in, setup_answered, dialled_in, dialled, refused, stamped, reopened, stamp_given, committed_as, commit_given, complete_given, granted_in, granted, asks}
use Rattle.world_laws.specs.World.Clients.{is_empty}
use Rattle.world_laws.proofs.ByteFrame.{Each, each-nil, each-one, each-tail, each-append}
use Rattle.world_laws.proofs.FactTables.{if-each}
use Rattle.world_texts.proofs.Spelling.{PacketFits, NodesFit, WriteFits}
use Rattle.world_texts.proofs.Sums.{kind-few, SumsFit, sums-fit, limit-few, pos-fits}
use Rattle.world_texts.proofs.Frame.{UnackedFits, SetupStampFits, RecordFits}
use Rattle.world_texts.proofs.Nodes.{ref-fits}

-- PACKETS

empty-fits : (at seqno : ℕ) (last sync : Bool) → at ≤ BLOCK_LIMIT → seqno < 2 ^ 63 → UnackedFits (record { offset = pos at; seqno = pos seqno; last = last; sync = sync; sums = []; body = [] })
empty-fits at seqno last sync a q = record {
  fits = record { offset = pos-fits at (omega (arith, a)); seqno = pos-fits seqno q; whole = refl; within = omega arith };
  end = omega (arith, a);
}

next-fits : (s : StreamState) (end : ℕ) (sync : Bool) → IsStream s → end ≤ greatest_end s.rule.chunk (start_in s) → end ≤ written_in s → UnackedFits (next_packet s end sync)
next-fits s end sync h near within =
    let body : List ℕ = take (end - start_in s) s.tail in
    let sums : SumsFit _ body = sums-fit s.rule.kind (chunk_rest s.rule.chunk (start_in s)) s.rule.chunk body in
    let few : length body ≤ 65536 = omega (arith, next_is_short s end sync near within, limit-few s.rule.chunk h.chunk.greatest) in
    let start : start_in s ≤ BLOCK_LIMIT = omega (arith, h.within) in
    record {
      fits = record {
        offset = pos-fits (start_in s) (omega (arith, start));
        seqno = pos-fits s.seqno h.number;
        whole = sums.whole;
        within = omega (arith, sums.few, few);
      };
      end = omega (arith, h.within, length-take (end - start_in s) s.tail);
    }

-- WHAT IS DUE

abbrev NearEnd : StreamState → DuePacket → Type 0
NearEnd s (due.Data end is_sync) = (end ≤ greatest_end s.rule.chunk (start_in s)) × (end ≤ written_in s)
NearEnd s _ = Unit {0}

empty-near : (x : Option Waiting) (s : StreamState) → IfSome (empty_due x s) (NearEnd s)
empty-near None s = tt
empty-near (Some waiting.Opening) s = tt
empty-near (Some (waiting.Flush n)) s = tt
empty-near (Some (waiting.Sync n sync.Due)) s = tt
empty-near (Some (waiting.Sync n (sync.Formed q))) s = tt
empty-near (Some waiting.Close) s = if-each (λ (o : Option DuePacket). IfSome o (NearEnd s)) (s.acked == written_in s) (Some due.Last) None (λ e. tt) (λ e. tt)

due-near : (x : Option Waiting) (s : StreamState) → IfSome (due_in x s) (NearEnd s)
due-near x s =
    if-each (λ (o : Option DuePacket). IfSome o (NearEnd s)) (nat_le (greatest_end s.rule.chunk (start_in s)) (written_in s)) _ _
    (λ e. (omega arith, grind (arith, nat_tests, e)))
    (λ e. if-each (λ (o : Option DuePacket). IfSome o (NearEnd s)) (is_flushing x && nat_lt s.sent (written_in s)) _ _ (λ f. (grind (arith, nat_tests, e), omega arith)) (λ f. empty-near x s))

now-near : (w : WriterRecord) → IfSome (due_now w) (NearEnd w.stream)
now-near w = if-each (λ (o : Option DuePacket). IfSome o (NearEnd w.stream)) _ _ None (λ _. due-near w.waiting w.stream) (λ _. tt)

-- STEPS

-- a command names few members
abbrev pub CommandFits : Command → Type 0
CommandFits (command.Create members) = length members ≤ 16
CommandFits (command.Append members) = length members ≤ 16
CommandFits _ = Unit {0}

abbrev pub ActionFits : Action → Type 0
ActionFits (action.Send p) = PacketFits p
ActionFits _ = Unit {0}

first-of : (q : List Command) → Each CommandFits q → IfSome (slice_get q 0) CommandFits
first-of [] h = tt
first-of (c ∷ cs) h = h.at 0 c refl

unacked-fits : (ps : List Packet) (i : ℕ) → Each UnackedFits ps → IfSome (slice_get ps i) PacketFits
unacked-fits [] i h = tt
unacked-fits (p ∷ ps) zero h = (h.at 0 p refl).fits
unacked-fits (p ∷ ps) (suc i) h = unacked-fits ps i (each-tail UnackedFits p ps h)

without-few : (ns : List NodeId) (bad : NodeId) → length (without ns bad) ≤ length ns
without-few [] bad = omega arith
without-few (n ∷ ns) bad = go (not (n.0 == bad.0)) (without-few ns bad)
  where
    go : (b : Bool) → length (filter (λ (m : NodeId). not (m.0 == bad.0)) ns) ≤ length ns → length (if b then n ∷ filter (λ (m : NodeId). not (m.0 == bad.0)) ns else filter (λ (m : NodeId). not (m.0 == bad.0)) ns) ≤ suc (length ns)
    go true h = omega (arith, h)
    go false h = omega (arith, h)

phase-fits : (b : Bool) (p : Phase) → SetupStampFits p → SetupStampFits (phase_acked b p)
phase-fits true p h = tt
phase-fits false (phase.Streaming sent) h = tt
phase-fits false phase.Closed h = h
phase-fits false (phase.Wanted s) h = h
phase-fits false (phase.Stamped s stamp) h = h
phase-fits false (phase.Requested s stamp) h = h
phase-fits false (phase.Accepted s stamp) h = h
phase-fits false phase.Opened h = h
phase-fits false phase.Closing h = h
phase-fits false phase.Finished h = h
phase-fits false phase.Completed h = h
phase-fits false (phase.Failed f) h = h

-- the stamps of an answer fit
abbrev pub AnswerStamps : Result OfficeAnswer OfficeFault → Type 0
AnswerStamps (Ok (office.Stamp s)) = s.0 < 2 ^ 64
AnswerStamps (Ok (office.Reopened r)) = (r.committed.0 < 2 ^ 64) × (r.new.0 < 2 ^ 64)
AnswerStamps (Ok (office.Begun b)) = b.committed.0 < 2 ^ 64
AnswerStamps (Ok office.Nothing) = Unit {0}
AnswerStamps (Err e) = Unit {0}

-- REQUESTS

refs-fit : (ns : List NodeId) → NodesFit (map ref_of ns)
refs-fit [] = tt
refs-fit (n ∷ ns) = (ref-fits n, refs-fit ns)

refs-few : (ns : List NodeId) → length (map ref_of ns) ≡ length ns
refs-few [] = refl
refs-few (n ∷ ns) = omega (arith, refs-few ns)

stage-few : (s : Setup) → stage_number (stage_of s) ≤ 8
stage-few setup.Create = omega arith
stage-few setup.Append = omega arith
stage-few setup.AppendRecovery = omega arith
stage-few setup.StreamRecovery = omega arith
stage-few setup.CloseRecovery = omega arith

min-few : (k : Setup) (s : StreamState) → IsStream s → s.acked ≤ BLOCK_LIMIT → min_length k s ≤ BLOCK_LIMIT
min-few setup.Create s h a = omega arith
min-few setup.Append s h a = h.within
min-few setup.AppendRecovery s h a = h.within
min-few setup.StreamRecovery s h a = a
min-few setup.CloseRecovery s h a = h.within

max-few : (k : Setup) (s : StreamState) → IsStream s → max_length k s ≤ BLOCK_LIMIT
max-few setup.Create s h = omega arith
max-few setup.Append s h = h.within
max-few setup.AppendRecovery s h = h.within
max-few setup.StreamRecovery s h = omega (arith, h.sent, h.within)
max-few setup.CloseRecovery s h = h.within

latest-fits : (k : Setup) (stamp : Stamp) → stamp.0 < 2 ^ 64 → (latest_stamp k stamp).0 < 2 ^ 64
latest-fits setup.Create stamp h = omega arith
latest-fits setup.Append stamp h = h
latest-fits setup.AppendRecovery stamp h = h
latest-fits setup.StreamRecovery stamp h = h
latest-fits setup.CloseRecovery stamp h = h

-- a request to write
abbrev pub IsWriteFits : Op → Type 0
IsWriteFits (op.Write f) = WriteFits f
IsWriteFits _ = ⊥

pub request-fits : (block : BlockId) (committed : Stamp) (s : StreamState) (k : Setup) (stamp : Stamp) (members : ℕ) (ns : List NodeId) → block.0 < 2 ^ 64 → committed.0 < 2 ^ 64 → IsStream s → s.acked ≤ BLOCK_LIMIT → stamp.0 < 2 ^ 64
    → members ≤ 16 → length ns ≤ 16 → IsWriteFits (request_for block committed s k stamp members ns)
unfolding request_for
request-fits block committed s k stamp members ns b c h a t m n = record {
  pool = omega arith;
  client = omega (arith, length-append (codes "DFSClient_") (decimal block.0), length-decimal-le 20 block.0 (omega arith) (omega (arith, b)) b);
  targets = refs-fit ns;
  few = omega (arith, refs-few ns, n);
  source = tt;
  block = b;
  stamp = c;
  bytes = omega (arith, min-few k s h a);
  numbers = record {
    stage = stage-few k;
    pipeline = omega (arith, m);
    min = omega (arith, min-few k s h a);
    max = omega (arith, max-few k s h);
    latest = latest-fits k stamp t;
    kind = kind-few s.rule.kind;
    chunk = omega (arith, h.chunk.greatest);
  };
}

-- WHAT IS GIVEN

pub given-queue : (x : WriterRecord) (c : Command) → Each CommandFits x.queue → CommandFits c → Each CommandFits (given x c).queue
given-queue x c q f = go (admitted x.intake c)
  where
    go : (r : Result Intake CommandFault) → Each CommandFits (given_as x c r).queue
    go (Ok i) = each-append CommandFits x.queue (c ∷ []) q (each-one CommandFits c f)
    go (Err e) = q

admitted-bytes : (i j : Intake) (c : Command) → admitted i c ≡ Ok j → j.bytes ≡ i.bytes + command_length c
unfolding admitted
admitted-bytes i j c e = go (is_too_much i c) (fits i.stand c) e
  where
    go : (a b : Bool) → (if a then Err command_fault.TooMuch else if b then Ok (intake_after i c) else Err command_fault.Unfit) ≡ Ok j → j.bytes ≡ i.bytes + command_length c
    go true b q = cc
    go false true q = ap (λ (r : Result Intake CommandFault). bytes_in r) (sym q)
      where
        bytes_in : Result Intake CommandFault → ℕ
        bytes_in (Ok k) = k.bytes
        bytes_in (Err d) = 0
    go false false q = cc

-- a command that was given: so many bytes more were given
pub given-fits : (n : ℕ) (x : WriterRecord) (c : Command) → not (is_empty (given x c).queue) ≡ true → x.queue ≡ [] → RecordFits n x → RecordFits (n + command_length c) (given x c)
given-fits n x c t q h = go (admitted x.intake c) refl t
  where
    go : (r : Result Intake CommandFault) → admitted x.intake c ≡ r → not (is_empty (given_as x c r).queue) ≡ true → RecordFits (n + command_length c) (given_as x c r)
    go (Ok i) e u = record { few = h.few; acked = h.acked; packets = h.packets; committed = h.committed; setup = h.setup; intake = omega (arith, h.intake, admitted-bytes x.intake i c e) }
    go (Err d) e u = absurd (false≢true (subst (λ (cs : List Command). not (is_empty cs) ≡ true) q u))

module _ (n : ℕ) where
  -- a step that fits
  pub record StepFits (s : Step) : Type 0 where
    pub action : ActionFits s.action
    pub writer : RecordFits n s.writer

  -- the same writer but for what isn't said of here
  alike : (x y : WriterRecord) → y.members ≡ x.members → y.stream ≡ x.stream → y.committed ≡ x.committed → SetupStampFits y.phase → y.intake ≡ x.intake → RecordFits n x → RecordFits n y
  alike x y m s c p i h = record {
    intake = omega (arith, ap (λ (z : Intake). z.bytes) i, h.intake);
    setup = p;
    few = subst (λ (ns : List NodeId). length ns ≤ 16) (sym m) h.few;
    acked = subst (λ (z : StreamState). z.acked ≤ BLOCK_LIMIT) (sym s) h.acked;
    packets = subst (λ (z : StreamState). Each UnackedFits z.unacked) (sym s) h.packets;
    committed = subst (λ (z : Stamp). z.0 < 2 ^ 64) (sym c) h.committed;
  }

  plain : (a : Action) (x y : WriterRecord) → ActionFits a → y.members ≡ x.members → y.stream ≡ x.stream → y.committed ≡ x.committed → SetupStampFits y.phase → y.intake ≡ x.intake → RecordFits n x → StepFits (record { action = a; writer = y })
  plain a x y f m s c p i h = record { action = f; writer = alike x y m s c p i h }

  opened-as : (x y : WriterRecord) (members : List NodeId) → length members ≤ 16 → y.members ≡ members → y.stream ≡ x.stream → y.committed ≡ x.committed → SetupStampFits y.phase → y.intake ≡ x.intake → RecordFits n x → RecordFits n y
  opened-as x y members few m s c p i h =
      record { intake = omega (arith, ap (λ (z : Intake). z.bytes) i, h.intake); setup = p; few = subst (λ (ns : List NodeId). length ns ≤ 16) (sym m) few; acked = subst (λ (z : StreamState). z.acked ≤ BLOCK_LIMIT) (sym s) h.acked; packets = subst (λ (z : StreamState). Each UnackedFits z.unacked) (sym s) h.packets; committed = subst (λ (z : Stamp). z.0 < 2 ^ 64) (sym c) h.committed }

  wrote-fits : (x y : WriterRecord) → y.members ≡ x.members → y.stream.acked ≡ x.stream.acked → y.stream.unacked ≡ x.stream.unacked → y.committed ≡ x.committed → SetupStampFits y.phase → y.intake ≡ x.intake → RecordFits n x → RecordFits n y
  wrote-fits x y m a u c p i h = record {
    intake = omega (arith, ap (λ (z : Intake). z.bytes) i, h.intake);
    setup = p;
    few = subst (λ (ns : List NodeId). length ns ≤ 16) (sym m) h.few;
    acked = omega (arith, a, h.acked);
    packets = subst (Each UnackedFits) (sym u) h.packets;
    committed = subst (λ (z : Stamp). z.0 < 2 ^ 64) (sym c) h.committed;
  }

  taken-fits : (x : WriterRecord) (c : Command) → CommandFits c → RecordFits n x → RecordFits n (taken_as x c)
  taken-fits x (command.Create members) f h = opened-as x _ members f refl refl refl tt refl h
  taken-fits x (command.Append members) f h = opened-as x _ members f refl refl refl tt refl h
  taken-fits x (command.Write bytes) f h = wrote-fits x _ refl refl refl refl h.setup refl h
  taken-fits x (command.Fill count) f h = wrote-fits x _ refl refl refl refl h.setup refl h
  taken-fits x command.Hflush f h = alike x _ refl refl refl h.setup refl h
  taken-fits x command.Hsync f h = alike x _ refl refl refl h.setup refl h
  taken-fits x command.Close f h = alike x _ refl refl refl h.setup refl h

  take-fits : (x : WriterRecord) (o : Option Command) → IfSome o CommandFits → RecordFits n x → StepFits (take_first x o)
  take-fits x None f h = plain action.Wait x x tt refl refl refl h.setup refl h
  take-fits x (Some c) f h = record { action = tt; writer = taken-fits x c f h }

  free-as-fits : (x : WriterRecord) (o : Option Waiting) → Each CommandFits x.queue → RecordFits n x → StepFits (free_step_as x o)
  free-as-fits x None q h = take-fits x (slice_get x.queue 0) (first-of x.queue q) h
  free-as-fits x (Some z) q h = plain action.Wait x x tt refl refl refl h.setup refl h

  free-fits : (x : WriterRecord) → Each CommandFits x.queue → RecordFits n x → StepFits (free_step x)
  free-fits x q h = free-as-fits x x.waiting q h

  failed-command-fits : (x : WriterRecord) (f : Failure) (c : Command) → CommandFits c → RecordFits n x → StepFits (failed_command x f c)
  failed-command-fits x f (command.Append members) k h = record { action = tt; writer = opened-as x _ members k refl refl refl tt refl h }
  failed-command-fits x f (command.Create members) k h = plain _ x _ tt refl refl refl h.setup refl h
  failed-command-fits x f (command.Write bytes) k h = plain _ x _ tt refl refl refl h.setup refl h
  failed-command-fits x f (command.Fill count) k h = plain _ x _ tt refl refl refl h.setup refl h
  failed-command-fits x f command.Hflush k h = plain _ x _ tt refl refl refl h.setup refl h
  failed-command-fits x f command.Hsync k h = plain _ x _ tt refl refl refl h.setup refl h
  failed-command-fits x f command.Close k h = plain _ x _ tt refl refl refl h.setup refl h

  failed-first-fits : (x : WriterRecord) (f : Failure) (o : Option Command) → IfSome o CommandFits → RecordFits n x → StepFits (failed_first x f o)
  failed-first-fits x f None k h = plain action.Wait x x tt refl refl refl h.setup refl h
  failed-first-fits x f (Some c) k h = failed-command-fits x f c k h

  failed-as-fits : (x : WriterRecord) (f : Failure) (o : Option Waiting) → Each CommandFits x.queue → RecordFits n x → StepFits (failed_step_as x f o)
  failed-as-fits x f None q h = failed-first-fits x f (slice_get x.queue 0) (first-of x.queue q) h
  failed-as-fits x f (Some z) q h = plain _ x _ tt refl refl refl h.setup refl h

  -- a packet more that isn't acked
  more-fits : (x y : WriterRecord) (p : Packet) → UnackedFits p → y.members ≡ x.members → y.stream.acked ≡ x.stream.acked → y.stream.unacked ≡ x.stream.unacked ++ p ∷ [] → y.committed ≡ x.committed → SetupStampFits y.phase → y.intake ≡ x.intake → RecordFits n x → RecordFits n y
  more-fits x y p f m a u c q i h = record {
    intake = omega (arith, ap (λ (z : Intake). z.bytes) i, h.intake);
    setup = q;
    few = subst (λ (ns : List NodeId). length ns ≤ 16) (sym m) h.few;
    acked = omega (arith, a, h.acked);
    packets = subst (Each UnackedFits) (sym u) (each-append UnackedFits x.stream.unacked (p ∷ []) h.packets (each-one UnackedFits p f));
    committed = subst (λ (z : Stamp). z.0 < 2 ^ 64) (sym c) h.committed;
  }

  form-fits : (x : WriterRecord) (d : DuePacket) → Sound x → NearEnd x.stream d → RecordFits n x → StepFits (form_step x d)
  form-fits x (due.Data end is_sync) s n h =
      let p = next-fits x.stream end is_sync s.stream n.0 n.1 in record { action = p.fits; writer = more-fits x _ (next_packet x.stream end is_sync) p refl refl refl refl tt refl h }
  form-fits x due.Sync s n h =
      let p = empty-fits x.stream.sent x.stream.seqno false true (omega (arith, s.stream.sent, s.stream.within)) s.stream.number in
      record { action = p.fits; writer = more-fits x _ (sync_packet x.stream) p refl refl refl refl tt refl h }
  form-fits x due.Last s n h =
      let p = empty-fits (written_in x.stream) x.stream.seqno true x.had_sync s.stream.within s.stream.number in
      record { action = p.fits; writer = more-fits x _ (last_packet x.stream x.had_sync) p refl refl refl refl tt refl h }

  reach-fits : (x : WriterRecord) (o : Option ℕ) → Each CommandFits x.queue → RecordFits n x → StepFits (reach_step_as x o)
  reach-fits x (Some n) q h = plain _ x _ tt refl refl refl h.setup refl h
  reach-fits x None q h = free-fits x q h

  due-fits : (x : WriterRecord) (o : Option DuePacket) → Sound x → IfSome o (NearEnd x.stream) → Each CommandFits x.queue → RecordFits n x → StepFits (due_step x o)
  due-fits x (Some d) s n q h = form-fits x d s n h
  due-fits x None s n q h = reach-fits x (reached_length x.waiting x.stream) q h

  stream-fits : (x : WriterRecord) (sent : ℕ) (o : Option Packet) → Sound x → IfSome o PacketFits → Each CommandFits x.queue → RecordFits n x → StepFits (stream_step_as x sent o)
  stream-fits x sent (Some p) s f q h = plain (action.Send p) x _ f refl refl refl tt refl h
  stream-fits x sent None s f q h = due-fits x (due_now x) s (now-near x) q h

  dial-as-fits : (x : WriterRecord) (s : Setup) (stamp : Stamp) (ns : List NodeId) → RecordFits n x → StepFits (dial_step_as x s stamp ns)
  dial-as-fits x s stamp [] h = plain action.Wait x x tt refl refl refl h.setup refl h
  dial-as-fits x s stamp (n ∷ ns) h = plain _ x x tt refl refl refl h.setup refl h

  accepted-fits : (x : WriterRecord) (s : Setup) (stamp : Stamp) → RecordFits n x → StepFits (accepted_step x s stamp)
  accepted-fits x setup.Create stamp h = plain _ x _ tt refl refl refl tt refl h
  accepted-fits x setup.Append stamp h = plain _ x _ tt refl refl refl h.setup refl h
  accepted-fits x setup.AppendRecovery stamp h = plain _ x _ tt refl refl refl h.setup refl h
  accepted-fits x setup.StreamRecovery stamp h = plain _ x _ tt refl refl refl h.setup refl h
  accepted-fits x setup.CloseRecovery stamp h = plain _ x _ tt refl refl refl h.setup refl h

  step-fits : (x : WriterRecord) (p : Phase) → Sound x → Each CommandFits x.queue → RecordFits n x → StepFits (step_in x p)
  step-fits x phase.Closed s q h = free-fits x q h
  step-fits x (phase.Wanted k) s q h = plain _ x x tt refl refl refl h.setup refl h
  step-fits x (phase.Stamped k stamp) s q h = dial-as-fits x k stamp x.members h
  step-fits x (phase.Requested k stamp) s q h = free-fits x q h
  step-fits x (phase.Accepted k stamp) s q h = accepted-fits x k stamp h
  step-fits x phase.Opened s q h = plain _ x _ tt refl refl refl tt refl h
  step-fits x (phase.Streaming sent) s q h = stream-fits x sent (slice_get x.stream.unacked sent) s (unacked-fits x.stream.unacked sent h.packets) q h
  step-fits x phase.Closing s q h = free-fits x q h
  step-fits x phase.Finished s q h = plain _ x x tt refl refl refl h.setup refl h
  step-fits x phase.Completed s q h = plain _ x _ tt refl refl refl tt refl h
  step-fits x (phase.Failed f) s q h = failed-as-fits x f x.waiting q h

  pub own-step-fits : (x : WriterRecord) → Sound x → Each CommandFits x.queue → RecordFits n x → StepFits (own_step x)
  unfolding own_step
  own-step-fits x s q h = step-fits x x.phase s q h

  pub open-fits : (x : WriterRecord) → RecordFits n x → StepFits (open_step x)
  open-fits x h = plain _ x _ tt refl refl refl tt refl h

  pub completed-fits : (x : WriterRecord) → RecordFits n x → StepFits (completed_step x)
  completed-fits x h = plain _ x _ tt refl refl refl tt refl h

  -- WHAT COMES OF WHAT WAS ASKED AND SENT

  dropped-fits : (x : WriterRecord) (s : Setup) (bad : NodeId) (ms : List NodeId) → length ms ≤ 16 → RecordFits n x → RecordFits n (dropped x s bad ms)
  dropped-fits x s bad [] few h = opened-as x _ [] (omega arith) refl refl refl tt refl h
  dropped-fits x s bad (m ∷ ms) few h = opened-as x _ (m ∷ ms) few refl refl refl tt refl h

  fail-for-fits : (x : WriterRecord) (r : Remedy) (bad : NodeId) → RecordFits n x → RecordFits n (fail_for x r bad)
  fail-for-fits x remedy.Abandon bad h = alike x _ refl refl refl tt refl h
  fail-for-fits x (remedy.Recover s) bad h = dropped-fits x s bad (without x.members bad) (omega (arith, without-few x.members bad, h.few)) h

  fail-fits : (x : WriterRecord) (r : Remedy) (place : ℕ) → RecordFits n x → RecordFits n (fail_at x r place)
  fail-fits x r place h = go (slice_get x.members place)
    where
      go : (o : Option NodeId) → RecordFits n (fail_named x r o)
      go None = h
      go (Some bad) = fail-for-fits x r bad h

  pub ended-fits : (x : WriterRecord) → RecordFits n x → RecordFits n (ended x)
  unfolding ended
  ended-fits x h = go (remedy_in x.phase)
    where
      go : (o : Option Remedy) → RecordFits n (ended_as x o)
      go None = h
      go (Some r) = fail-fits x r 0 h

  acked-packet-fits : (x : WriterRecord) (o : Option Packet) → slice_get x.stream.unacked 0 ≡ o → RecordFits n x → (acked_packet x.stream o).acked ≤ BLOCK_LIMIT × Each UnackedFits (acked_packet x.stream o).unacked
  acked-packet-fits x None e h = (h.acked, h.packets)
  acked-packet-fits x (Some p) e h = (max-le h.acked (h.packets.at 0 p e).end, dropped-one x.stream.unacked h.packets)
    where
      dropped-one : (ps : List Packet) → Each UnackedFits ps → Each UnackedFits (drop 1 ps)
      dropped-one [] g = g
      dropped-one (q ∷ qs) g = each-tail UnackedFits q qs g

  pub acked-fits : (x : WriterRecord) (a : Ack) → RecordFits n x → RecordFits n (acked x a)
  unfolding acked
  acked-fits x a h = go (remedy_at_ack x.phase)
    where
      oldest : RecordFits n (acked_oldest x)
      oldest = let p = acked-packet-fits x (slice_get x.stream.unacked 0) refl h in record { few = h.few; acked = p.0; packets = p.1; committed = h.committed; intake = h.intake; setup = phase-fits (oldest_is_last x.stream) x.phase h.setup }

      says : (r : Remedy) (v : Verdict) → RecordFits n (acked_as x r v)
      says r verdict.Good = oldest
      says r (verdict.Bad place) = fail-fits x r place h

      go : (o : Option Remedy) → RecordFits n (acked_in x a o)
      go None = h
      go (Some r) = says r (ack_verdict (oldest_seqno x.stream) (length x.members) a)

  setup-in-fits : (x : WriterRecord) (p : Phase) (good : Bool) (bad : Option NodeId) → SetupStampFits p → RecordFits n x → RecordFits n (setup_answered_in x p good bad)
  setup-in-fits x (phase.Requested s stamp) true bad r h = alike x _ refl refl refl r refl h
  setup-in-fits x (phase.Requested s stamp) false bad r h = fail-fits x (remedy_after s) (bad_place x.members bad) h
  setup-in-fits x phase.Closed good bad r h = h
  setup-in-fits x (phase.Wanted s) good bad r h = h
  setup-in-fits x (phase.Stamped s stamp) good bad r h = h
  setup-in-fits x (phase.Accepted s stamp) good bad r h = h
  setup-in-fits x phase.Opened good bad r h = h
  setup-in-fits x (phase.Streaming sent) good bad r h = h
  setup-in-fits x phase.Closing good bad r h = h
  setup-in-fits x phase.Finished good bad r h = h
  setup-in-fits x phase.Completed good bad r h = h
  setup-in-fits x (phase.Failed f) good bad r h = h

  pub setup-answered-fits : (x : WriterRecord) (r : Response) (bad : Option NodeId) → RecordFits n x → RecordFits n (setup_answered x r bad)
  unfolding setup_answered
  setup-answered-fits x r bad h = setup-in-fits x x.phase (is_success r.status) bad h.setup h

  dialled-in-fits : (x : WriterRecord) (p : Phase) (b : Bool) → SetupStampFits p → RecordFits n x → RecordFits n (dialled_in x p b)
  dialled-in-fits x (phase.Stamped s stamp) true r h = alike x _ refl refl refl r refl h
  dialled-in-fits x (phase.Stamped s stamp) false r h = fail-fits x (remedy_after s) 0 h
  dialled-in-fits x (phase.Requested s stamp) b r h = h
  dialled-in-fits x phase.Closed b r h = h
  dialled-in-fits x (phase.Wanted s) b r h = h
  dialled-in-fits x (phase.Accepted s stamp) b r h = h
  dialled-in-fits x phase.Opened b r h = h
  dialled-in-fits x (phase.Streaming sent) b r h = h
  dialled-in-fits x phase.Closing b r h = h
  dialled-in-fits x phase.Finished b r h = h
  dialled-in-fits x phase.Completed b r h = h
  dialled-in-fits x (phase.Failed f) b r h = h

  pub dialled-fits : (x : WriterRecord) (b : Bool) → RecordFits n x → RecordFits n (dialled x b)
  unfolding dialled
  dialled-fits x b h = dialled-in-fits x x.phase b h.setup h

  -- WHAT THE OFFICE ANSWERS

  begun-fits : (x y : WriterRecord) (base : ℕ) → base ≤ BLOCK_LIMIT → y.members ≡ x.members → y.stream.acked ≡ base → y.stream.unacked ≡ [] → y.committed.0 < 2 ^ 64 → SetupStampFits y.phase → y.intake ≡ x.intake → RecordFits n x → RecordFits n y
  begun-fits x y base b m a u c p i h = record {
    intake = omega (arith, ap (λ (z : Intake). z.bytes) i, h.intake);
    setup = p;
    few = subst (λ (ns : List NodeId). length ns ≤ 16) (sym m) h.few;
    acked = omega (arith, a, b);
    packets = subst (Each UnackedFits) (sym u) (each-nil UnackedFits);
    committed = c;
  }

  stamped-fits : (x : WriterRecord) (s : Setup) (stamp : Stamp) → stamp.0 < 2 ^ 64 → RecordFits n x → RecordFits n (stamped x s stamp)
  stamped-fits x setup.Create stamp f h = begun-fits x _ 0 (omega arith) refl refl refl f f refl h
  stamped-fits x setup.Append stamp f h = h
  stamped-fits x setup.AppendRecovery stamp f h = alike x _ refl refl refl f refl h
  stamped-fits x setup.StreamRecovery stamp f h = alike x _ refl refl refl f refl h
  stamped-fits x setup.CloseRecovery stamp f h = alike x _ refl refl refl f refl h

  reopened-fits : (x : WriterRecord) (s : Setup) (r : Reopened) → (r.committed.0 < 2 ^ 64) × (r.new.0 < 2 ^ 64) → RecordFits n x → RecordFits n (reopened x s r)
  reopened-fits x setup.Append r f h =
      if-each (RecordFits n) (nat_le r.length MAX_APPEND_LENGTH) _ x (λ e. begun-fits x _ r.length (grind (arith, nat_tests, e)) refl refl refl f.0 f.1 refl h) (λ _. h)
  reopened-fits x setup.Create r f h = h
  reopened-fits x setup.AppendRecovery r f h = h
  reopened-fits x setup.StreamRecovery r f h = h
  reopened-fits x setup.CloseRecovery r f h = h

  given-stamp-fits : (x : WriterRecord) (s : Setup) (a : OfficeAnswer) → AnswerStamps (Ok a) → RecordFits n x → RecordFits n (stamp_given x s a)
  given-stamp-fits x s (office.Stamp stamp) f h = stamped-fits x s stamp f h
  given-stamp-fits x s (office.Reopened r) f h = reopened-fits x s r f h
  given-stamp-fits x s (office.Begun b) f h = h
  given-stamp-fits x s office.Nothing f h = h

  committed-fits : (x : WriterRecord) (s : Setup) (stamp : Stamp) → stamp.0 < 2 ^ 64 → RecordFits n x → RecordFits n (committed_as x s stamp)
  committed-fits x setup.Create stamp f h = h
  committed-fits x setup.Append stamp f h = record { few = h.few; acked = h.acked; packets = h.packets; committed = f; setup = tt; intake = h.intake }
  committed-fits x setup.AppendRecovery stamp f h = record { few = h.few; acked = h.acked; packets = h.packets; committed = f; setup = tt; intake = h.intake }
  committed-fits x setup.StreamRecovery stamp f h = record { few = h.few; acked = h.acked; packets = h.packets; committed = f; setup = tt; intake = h.intake }
  committed-fits x setup.CloseRecovery stamp f h = record { few = h.few; acked = h.acked; packets = h.packets; committed = f; setup = tt; intake = h.intake }

  commit-given-fits : (x : WriterRecord) (s : Setup) (stamp : Stamp) (a : OfficeAnswer) → stamp.0 < 2 ^ 64 → RecordFits n x → RecordFits n (commit_given x s stamp a)
  commit-given-fits x s stamp office.Nothing f h = committed-fits x s stamp f h
  commit-given-fits x s stamp (office.Stamp t) f h = h
  commit-given-fits x s stamp (office.Reopened r) f h = h
  commit-given-fits x s stamp (office.Begun b) f h = h

  complete-given-fits : (x : WriterRecord) (a : OfficeAnswer) → RecordFits n x → RecordFits n (complete_given x a)
  complete-given-fits x office.Nothing h = alike x _ refl refl refl tt refl h
  complete-given-fits x (office.Stamp t) h = h
  complete-given-fits x (office.Reopened r) h = h
  complete-given-fits x (office.Begun b) h = h

  granted-in-fits : (x : WriterRecord) (p : Phase) (a : OfficeAnswer) → AnswerStamps (Ok a) → SetupStampFits p → RecordFits n x → RecordFits n (granted_in x p a)
  granted-in-fits x (phase.Wanted s) a f g h = given-stamp-fits x s a f h
  granted-in-fits x (phase.Accepted s stamp) a f g h = commit-given-fits x s stamp a g h
  granted-in-fits x phase.Finished a f g h = complete-given-fits x a h
  granted-in-fits x phase.Closed a f g h = h
  granted-in-fits x (phase.Stamped s stamp) a f g h = h
  granted-in-fits x (phase.Requested s stamp) a f g h = h
  granted-in-fits x phase.Opened a f g h = h
  granted-in-fits x (phase.Streaming sent) a f g h = h
  granted-in-fits x phase.Closing a f g h = h
  granted-in-fits x phase.Completed a f g h = h
  granted-in-fits x (phase.Failed e) a f g h = h

  refused-fits : (x : WriterRecord) (e : OfficeFault) → RecordFits n x → RecordFits n (refused x e)
  refused-fits x fault.Memory h = h
  refused-fits x (fault.LeaseLost recovery) h = alike x _ refl refl refl tt refl h
  refused-fits x fault.Known h = alike x _ refl refl refl tt refl h
  refused-fits x fault.Unknown h = alike x _ refl refl refl tt refl h
  refused-fits x fault.NotOpen h = alike x _ refl refl refl tt refl h
  refused-fits x fault.NotClosed h = alike x _ refl refl refl tt refl h
  refused-fits x (fault.OldStamp c) h = alike x _ refl refl refl tt refl h
  refused-fits x (fault.OldRecovery l) h = alike x _ refl refl refl tt refl h
  refused-fits x (fault.TooLong n) h = alike x _ refl refl refl tt refl h

  pub granted-fits : (x : WriterRecord) (r : Result OfficeAnswer OfficeFault) → AnswerStamps r → RecordFits n x → RecordFits n (granted x r)
  unfolding granted
  granted-fits x (Ok a) f h = granted-in-fits x x.phase a f h.setup h
  granted-fits x (Err e) f h = if-each (RecordFits n) (asks x.phase) (refused x e) x (λ _. refused-fits x e h) (λ _. h)
