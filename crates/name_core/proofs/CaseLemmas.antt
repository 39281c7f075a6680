-- The cases of a call on the office: it is refused, or it is one of the seven that are granted.
use Rattle.std.proofs.Common.{◌≡◌, Bool, true, false, ℕ, List, Option, Some, None, Result, Ok, Err, refl, nat_le, nat_lt, not, is_some}
use Rattle.hd_base.specs.declared.numbers.BlockId.{BlockId}
use Rattle.hd_base.specs.declared.numbers.NodeId.{NodeId}
use Rattle.hd_base.specs.declared.numbers.Stamp.{Stamp}
use Rattle.hd_base.specs.Results.{◌>>=◌}
use Rattle.name_core.specs.declared.calls.Begun.{Begun}
use Rattle.name_core.specs.declared.calls.Reopened.{Reopened}
use Rattle.name_core.specs.declared.calls.OfficeAnswer.{OfficeAnswer}
use Rattle.name_core.specs.declared.calls.OfficeAnswer.TheVariants as answer
use Rattle.name_core.specs.declared.calls.OfficeCall.{OfficeCall}
use Rattle.name_core.specs.declared.calls.OfficeCall.TheVariants as call
use Rattle.name_core.specs.declared.faults.OfficeFault.{OfficeFault}
use Rattle.name_core.specs.declared.faults.OfficeFault.TheVariants as fault
use Rattle.name_core.specs.declared.records.BlockRecord.{BlockRecord}
use Rattle.name_core.specs.declared.records.TheConstants.{MAX_APPEND_LENGTH}
use Rattle.name_core.specs.Steps.{Step, grant, check}
use Rattle.name_core.specs.Records.{opened, lease_check, writer_check, is_stamp, append_step, new_stamp_step, commit_step, complete_step, begin_step, sync_step}
use Rattle.name_core.specs.Offices.{OfficeState, known, record_of, stamp_given, with_record, with_new_record, answering, office_case}

-- a step, and what follows it
through : {A B : Type 0} (P : Result B OfficeFault → Type 0) (first : Result A OfficeFault) (next : A → Result B OfficeFault) → ((e : OfficeFault) → P (Err e)) → ((x : A) → first ≡ Ok x → P (next x)) → P (first >>= next)
through P (Ok x) next refused onward = onward x refl
through P (Err e) next refused onward = refused e

-- a test, and what follows it
tested : {B : Type 0} (P : Result B OfficeFault → Type 0) (holds : Bool) (e : OfficeFault) (next : Result B OfficeFault) → ((d : OfficeFault) → P (Err d)) → (holds ≡ true → P next) → P (check holds e next)
tested P true e next refused onward = onward refl
tested P false e next refused onward = refused e

known_ok : (found : Option BlockRecord) (r : BlockRecord) → known found ≡ Ok r → found ≡ Some r
known_ok None r e = absurd (cc)
known_ok (Some s) r e = cc

-- what a writer's call has where it is granted
pub record IsWriters (r : BlockRecord) : Type 0 where
  pub lease : r.recovery ≡ None
  pub is_open : r.is_open ≡ true

writer_ok : (recovery : Option Stamp) (open_yet : Bool) (u : Unit {0}) → (lease_check recovery >>= (λ _. check open_yet fault.NotOpen (Ok tt))) ≡ Ok u → (recovery ≡ None) × (open_yet ≡ true)
writer_ok None true u e = (refl, refl)
writer_ok None false u e = absurd (cc)
writer_ok (Some id) b u e = absurd (cc)

is_writers : (r : BlockRecord) (u : Unit {0}) → writer_check r ≡ Ok u → IsWriters r
is_writers r u e = let w = writer_ok r.recovery r.is_open u e in record { lease = w.0; is_open = w.1 }

not_true : (b : Bool) → not b ≡ true → b ≡ false
not_true true e = absurd (cc)
not_true false e = refl

absent : (found : Option BlockRecord) → not (is_some found) ≡ true → found ≡ None
absent None e = refl
absent (Some r) e = absurd (cc)

-- what is to be shown of each case
pub record Cases (o : OfficeState) (P : OfficeCall → Step OfficeState OfficeAnswer → Type 0) : Type 0 where
  pub refused : (c : OfficeCall) (e : OfficeFault) → P c (Err e)
  pub created : (block : BlockId) (members : List NodeId) → record_of o block ≡ None
      → P (call.Create block members) (grant (with_new_record (stamp_given o) block (opened members o.next)) (answer.Stamp o.next))
  pub appended : (block : BlockId) (r : BlockRecord) → record_of o block ≡ Some r → r.is_open ≡ false → nat_le r.length MAX_APPEND_LENGTH ≡ true
      → P (call.Append block) (grant (with_record (stamp_given o) block (record r { is_open = true; recovery = None })) (answer.Reopened (record { committed = r.committed; length = r.length; new = o.next })))
  pub stamped : (block : BlockId) (r : BlockRecord) → record_of o block ≡ Some r → IsWriters r
      → P (call.NewStamp block) (grant (with_record (stamp_given o) block r) (answer.Stamp o.next))
  pub committed : (block : BlockId) (stamp : Stamp) (members : List NodeId) (r : BlockRecord) → record_of o block ≡ Some r → IsWriters r → nat_lt r.committed.0 stamp.0 ≡ true
      → P (call.Commit block stamp members) (grant (with_record o block (record r { committed = stamp; members = members })) answer.Nothing)
  pub completed : (block : BlockId) (stamp : Stamp) (bytes : ℕ) (r : BlockRecord) → record_of o block ≡ Some r → IsWriters r → nat_le r.committed.0 stamp.0 ≡ true
      → P (call.Complete block stamp bytes) (grant (with_record o block (record r { is_open = false; length = bytes })) answer.Nothing)
  pub begun : (block : BlockId) (r : BlockRecord) → record_of o block ≡ Some r → r.is_open ≡ true
      → P (call.BeginRecovery block) (grant (with_record (stamp_given o) block (record r { recovery = Some o.next })) (answer.Begun (record { id = o.next; committed = r.committed })))
  pub synced : (block : BlockId) (id : Stamp) (bytes : ℕ) (members : List NodeId) (r : BlockRecord) → record_of o block ≡ Some r → r.is_open ≡ true → is_stamp r.recovery id ≡ true
      → P (call.CommitSync block id bytes members) (grant (with_record o block (record r { is_open = false; committed = id; members = members; length = bytes })) answer.Nothing)

-- a step of a block that is known, as far as the block's own step
on_known : {A : Type 0} (o from : OfficeState) (block : BlockId) (f : A → OfficeAnswer) (P : Step OfficeState OfficeAnswer → Type 0) (step : BlockRecord → Step BlockRecord A)
    → ((e : OfficeFault) → P (Err e))
    → ((r : BlockRecord) → record_of o block ≡ Some r → P (answering f (step r >>= (λ g. grant (with_record from block g.state) g.answer))))
    → P (answering f (known (record_of o block) >>= (λ r. step r >>= (λ g. grant (with_record from block g.state) g.answer))))
on_known o from block f P step refused onward =
    through (λ s. P (answering f s)) (known (record_of o block)) (λ r. step r >>= (λ g. grant (with_record from block g.state) g.answer)) refused (λ r is. onward r (known_ok (record_of o block) r is))

pub each_case : (o : OfficeState) (P : OfficeCall → Step OfficeState OfficeAnswer → Type 0) → Cases o P → (c : OfficeCall) → P c (office_case o c)
unfolding office_case
each_case o P cases (call.Create block members) =
    tested (λ s. P (call.Create block members) (answering answer.Stamp s)) (not (is_some (record_of o block))) fault.Known _ (cases.refused _) (λ is. cases.created block members (absent (record_of o block) is))
each_case o P cases (call.Append block) =
    on_known o (stamp_given o) block answer.Reopened (P (call.Append block)) (λ r. append_step r o.next) (cases.refused _) (λ r is.
    let Q = λ (s : Step BlockRecord Reopened). P (call.Append block) (answering answer.Reopened (s >>= (λ g. grant (with_record (stamp_given o) block g.state) g.answer))) in
    tested Q (not r.is_open) fault.NotClosed _ (cases.refused _) (λ shut. tested Q (nat_le r.length MAX_APPEND_LENGTH) (fault.TooLong r.length) _ (cases.refused _) (λ short. cases.appended block r is (not_true r.is_open shut) short)))
each_case o P cases (call.NewStamp block) =
    on_known o (stamp_given o) block answer.Stamp (P (call.NewStamp block)) (λ r. new_stamp_step r o.next) (cases.refused _) (λ r is.
    let Q = λ (s : Step BlockRecord Stamp). P (call.NewStamp block) (answering answer.Stamp (s >>= (λ g. grant (with_record (stamp_given o) block g.state) g.answer))) in
    through Q (writer_check r) _ (cases.refused _) (λ u ok. cases.stamped block r is (is_writers r u ok)))
each_case o P cases (call.Commit block stamp members) =
    on_known o o block (λ _. answer.Nothing) (P (call.Commit block stamp members)) (λ r. commit_step r stamp members) (cases.refused _) (λ r is.
    let Q = λ (s : Step BlockRecord (Unit {0})). P (call.Commit block stamp members) (answering (λ _. answer.Nothing) (s >>= (λ g. grant (with_record o block g.state) g.answer))) in
    through Q (writer_check r) _ (cases.refused _) (λ u ok. tested Q (nat_lt r.committed.0 stamp.0) (fault.OldStamp r.committed) _ (cases.refused _) (λ new. cases.committed block stamp members r is (is_writers r u ok) new)))
each_case o P cases (call.Complete block stamp bytes) =
    on_known o o block (λ _. answer.Nothing) (P (call.Complete block stamp bytes)) (λ r. complete_step r stamp bytes) (cases.refused _) (λ r is.
    let Q = λ (s : Step BlockRecord (Unit {0})). P (call.Complete block stamp bytes) (answering (λ _. answer.Nothing) (s >>= (λ g. grant (with_record o block g.state) g.answer))) in
    through Q (writer_check r) _ (cases.refused _) (λ u ok. tested Q (nat_le r.committed.0 stamp.0) (fault.OldStamp r.committed) _ (cases.refused _) (λ new. cases.completed block stamp bytes r is (is_writers r u ok) new)))
each_case o P cases (call.BeginRecovery block) =
    on_known o (stamp_given o) block answer.Begun (P (call.BeginRecovery block)) (λ r. begin_step r o.next) (cases.refused _) (λ r is.
    let Q = λ (s : Step BlockRecord Begun). P (call.BeginRecovery block) (answering answer.Begun (s >>= (λ g. grant (with_record (stamp_given o) block g.state) g.answer))) in
    tested Q r.is_open fault.NotOpen _ (cases.refused _) (λ is_open. cases.begun block r is is_open))
each_case o P cases (call.CommitSync block id bytes members) =
    on_known o o block (λ _. answer.Nothing) (P (call.CommitSync block id bytes members)) (λ r. sync_step r id bytes members) (cases.refused _) (λ r is.
    let Q = λ (s : Step BlockRecord (Unit {0})). P (call.CommitSync block id bytes members) (answering (λ _. answer.Nothing) (s >>= (λ g. grant (with_record o block g.state) g.answer))) in
    tested Q r.is_open fault.NotOpen _ (cases.refused _) (λ is_open. tested Q (is_stamp r.recovery id) (fault.OldRecovery r.recovery) _ (cases.refused _) (λ latest. cases.synced block id bytes members r is is_open latest)))
