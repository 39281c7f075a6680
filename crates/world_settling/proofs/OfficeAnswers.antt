-- What the office answers a writer: what was asked for, or why it refuses; never want of memory.
use Rattle.std.proofs.Common.{◌≡◌, ◌≢◌, ℕ, ◌≤◌, Bool, true, false, List, [], ◌∷◌, Option, Some, None, Result, Ok, Err, slice_get, refl, sym, ap, ◌∙◌, subst, arith}
use Rattle.std.specs.Prelude.{nat_le, nat_lt, nat_eq, not, is_some, if◌then◌else◌}
use Rattle.std.proofs.lemmas.Bool.Decides.{nat_tests}
use Rattle.hd_base.specs.Results.{◌>>=◌, with_value}
use Rattle.hd_base.specs.declared.numbers.BlockId.{BlockId}
use Rattle.hd_base.specs.declared.numbers.NodeId.{NodeId}
use Rattle.hd_base.specs.declared.numbers.Stamp.{Stamp}
use Rattle.name_core.specs.declared.calls.OfficeAnswer.{OfficeAnswer}
use Rattle.name_core.specs.declared.calls.OfficeAnswer.TheVariants as office
use Rattle.name_core.specs.declared.calls.OfficeCall.{OfficeCall}
use Rattle.name_core.specs.declared.calls.OfficeCall.TheVariants as call
use Rattle.name_core.specs.declared.calls.Reopened.{Reopened}
use Rattle.name_core.specs.declared.faults.OfficeFault.{OfficeFault}
use Rattle.name_core.specs.declared.faults.OfficeFault.TheVariants as fault
use Rattle.name_core.specs.declared.records.BlockRecord.{BlockRecord}
use Rattle.name_core.specs.declared.records.TheConstants.{MAX_APPEND_LENGTH}
use Rattle.name_core.specs.Steps.{Step, Granted, grant, reply, check}
use Rattle.name_core.specs.Records.{opened, lease_check, writer_check, append_step, new_stamp_step, commit_step, complete_step}
use Rattle.name_core.specs.Offices.{OfficeState, stamp_given, with_record, with_new_record, record_of, known, on_block, create_case, append_case, new_stamp_case, commit_case, complete_case, answering, office_case, answer_to}
use Rattle.writer_core.specs.declared.phases.Phase.{Phase}
use Rattle.writer_core.specs.declared.phases.Phase.TheVariants as phase
use Rattle.writer_core.specs.declared.phases.Setup.{Setup}
use Rattle.writer_core.specs.declared.phases.Setup.TheVariants as setup
use Rattle.writer_core.specs.declared.records.WriterRecord.{WriterRecord}
use Rattle.writer_core.specs.Transitions.{stamp_call}
use Rattle.world.specs.Parts.{Told}

-- FAIR STEPS

-- Granted with such an answer, or refused, but not for want of memory.
abbrev pub Fair : {S A : Type 0} → (A → Type 0) → Step S A → Type 0
Fair P (Ok g) = P g.answer
Fair P (Err e) = e ≢ fault.Memory

check-fair : {S A : Type 0} (P : A → Type 0) (b : Bool) (e : OfficeFault) (s : Step S A) → e ≢ fault.Memory → (b ≡ true → Fair P s) → Fair P (check b e s)
check-fair P true e s never h = h refl
check-fair P false e s never h = never

block-fair : {A : Type 0} (P : A → Type 0) (o : OfficeState) (block : BlockId) (step : BlockRecord → Step BlockRecord A) → ((r : BlockRecord) → Fair P (step r)) → Fair P (on_block o block step)
block-fair {A} P o block step h = by (record_of o block) where
  at : (s : Step BlockRecord A) → Fair P s → Fair P (s >>= (λ g. grant (with_record o block g.state) g.answer))
  at (Ok g) f = f
  at (Err e) f = f

  by : (q : Option BlockRecord) → Fair P (known q >>= (λ r. step r >>= (λ g. grant (with_record o block g.state) g.answer)))
  by None = λ e. cc
  by (Some r) = at (step r) (h r)

abbrev open_check : Bool → Result (Unit {0}) OfficeFault
open_check b = check b fault.NotOpen (Ok tt)

writer-fair : {A : Type 0} (P : A → Type 0) (r : BlockRecord) (s : Step BlockRecord A) → Fair P s → Fair P (writer_check r >>= (λ _. s))
writer-fair {A} P r s h = lease r.recovery where
  lease : (o : Option Stamp) → Fair P ((lease_check o >>= (λ _. open_check r.is_open)) >>= (λ _. s))
  lease (Some recovery) = λ e. cc
  lease None = open_or r.is_open where
    open_or : (b : Bool) → Fair P (open_check b >>= (λ _. s))
    open_or true = h
    open_or false = λ e. cc

-- what is replied
told-by : {A : Type 0} (P : A → Type 0) (Q : Told → Type 0) (f : A → OfficeAnswer) (s : Step OfficeState A) → Fair P s → ((a : A) → P a → Q (Ok (f a))) → ((e : OfficeFault) → e ≢ fault.Memory → Q (Err e)) → Q (reply (answering f s))
told-by P Q f (Ok g) h good bad = good g.answer h
told-by P Q f (Err e) h good bad = bad e h

-- WHAT A WRITER IS TOLD

abbrev pub IsStampGiven : Told → Type 0
IsStampGiven (Ok (office.Stamp stamp)) = Unit {0}
IsStampGiven (Err e) = e ≢ fault.Memory
IsStampGiven other = ⊥

abbrev pub IsReopened : Told → Type 0
IsReopened (Ok (office.Reopened r)) = r.length ≤ MAX_APPEND_LENGTH
IsReopened (Err e) = e ≢ fault.Memory
IsReopened other = ⊥

abbrev pub IsDone : Told → Type 0
IsDone (Ok office.Nothing) = Unit {0}
IsDone (Err e) = e ≢ fault.Memory
IsDone other = ⊥

-- by where the writer is that asked
abbrev pub IsAnswer : Phase → Told → Type 0
IsAnswer (phase.Wanted setup.Append) t = IsReopened t
IsAnswer (phase.Wanted s) t = IsStampGiven t
IsAnswer (phase.Accepted setup.Create stamp) t = ⊥
IsAnswer (phase.Accepted s stamp) t = IsDone t
IsAnswer phase.Finished t = IsDone t
IsAnswer other t = ⊥

created : (o : OfficeState) (block : BlockId) (members : List NodeId) → IsStampGiven (answer_to o (call.Create block members))
unfolding office_case
created o block members = told-by (λ s. Unit {0}) IsStampGiven office.Stamp (create_case o block members) (check-fair (λ s. Unit {0}) (not (is_some (record_of o block))) fault.Known _ (λ e. cc) (λ e. tt)) (λ a h. tt) (λ e h. h)

reopened : (o : OfficeState) (block : BlockId) → IsReopened (answer_to o (call.Append block))
unfolding office_case
reopened o block =
    told-by (λ (r : Reopened). r.length ≤ MAX_APPEND_LENGTH) IsReopened office.Reopened (append_case o block)
    (block-fair (λ (r : Reopened). r.length ≤ MAX_APPEND_LENGTH) (stamp_given o) block (λ r. append_step r o.next) (λ r.
    check-fair (λ (r : Reopened). r.length ≤ MAX_APPEND_LENGTH) (not r.is_open) fault.NotClosed _ (λ e. cc)
    (λ e. check-fair (λ (r : Reopened). r.length ≤ MAX_APPEND_LENGTH) (nat_le r.length MAX_APPEND_LENGTH) (fault.TooLong r.length) _ (λ f. cc) (λ f. grind (arith, nat_tests, f)))))
    (λ a h. h) (λ e h. h)

stamped-new : (o : OfficeState) (block : BlockId) → IsStampGiven (answer_to o (call.NewStamp block))
unfolding office_case
stamped-new o block =
    told-by (λ s. Unit {0}) IsStampGiven office.Stamp (new_stamp_case o block)
    (block-fair (λ s. Unit {0}) (stamp_given o) block (λ r. new_stamp_step r o.next) (λ r. writer-fair (λ s. Unit {0}) r (grant r o.next) tt)) (λ a h. tt) (λ e h. h)

pub committed : (o : OfficeState) (block : BlockId) (stamp : Stamp) (members : List NodeId) → IsDone (answer_to o (call.Commit block stamp members))
unfolding office_case
committed o block stamp members =
    told-by (λ u. Unit {0}) IsDone (λ _. office.Nothing) (commit_case o block stamp members)
    (block-fair (λ u. Unit {0}) o block (λ r. commit_step r stamp members) (λ r. writer-fair (λ u. Unit {0}) r _ (check-fair (λ u. Unit {0}) (nat_lt r.committed.0 stamp.0) (fault.OldStamp r.committed) _ (λ e. cc) (λ e. tt))))
    (λ a h. tt) (λ e h. h)

pub completed : (o : OfficeState) (block : BlockId) (stamp : Stamp) (bytes : ℕ) → IsDone (answer_to o (call.Complete block stamp bytes))
unfolding office_case
completed o block stamp bytes =
    told-by (λ u. Unit {0}) IsDone (λ _. office.Nothing) (complete_case o block stamp bytes)
    (block-fair (λ u. Unit {0}) o block (λ r. complete_step r stamp bytes) (λ r. writer-fair (λ u. Unit {0}) r _ (check-fair (λ u. Unit {0}) (nat_le r.committed.0 stamp.0) (fault.OldStamp r.committed) _ (λ e. cc) (λ e. tt))))
    (λ a h. tt) (λ e h. h)

-- the answer to the call that gives a pipeline its stamp
pub stamps : (o : OfficeState) (x : WriterRecord) (s : Setup) (stamp : Stamp) → IsAnswer (phase.Wanted s) (answer_to o (stamp_call x s))
stamps o x setup.Create stamp = created o x.block x.members
stamps o x setup.Append stamp = reopened o x.block
stamps o x setup.AppendRecovery stamp = stamped-new o x.block
stamps o x setup.StreamRecovery stamp = stamped-new o x.block
stamps o x setup.CloseRecovery stamp = stamped-new o x.block
