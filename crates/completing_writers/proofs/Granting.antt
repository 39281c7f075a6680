-- What the office grants to a writer in a play without failures.
use Rattle.std.proofs.Common.{◌≡◌, ℕ, ◌<◌, ◌≤◌, true, false, List, Some, None, Ok, refl, ap, arith}
use Rattle.std.specs.Prelude.{nat_le, nat_lt}
use Rattle.std.proofs.lemmas.Bool.Decides.{nat_tests}
use Rattle.hd_base.specs.declared.numbers.BlockId.{BlockId}
use Rattle.hd_base.specs.declared.numbers.NodeId.{NodeId}
use Rattle.hd_base.specs.declared.numbers.Stamp.{Stamp}
use Rattle.name_core.specs.declared.calls.OfficeAnswer.{OfficeAnswer}
use Rattle.name_core.specs.declared.calls.OfficeAnswer.TheVariants as answer
use Rattle.name_core.specs.declared.calls.OfficeCall.{OfficeCall}
use Rattle.name_core.specs.declared.calls.OfficeCall.TheVariants as call
use Rattle.name_core.specs.declared.records.BlockRecord.{BlockRecord}
use Rattle.name_core.specs.declared.records.TheConstants.{MAX_APPEND_LENGTH}
use Rattle.name_core.specs.Steps.{Step, grant, state_after, reply}
use Rattle.name_core.specs.Records.{opened}
use Rattle.name_core.specs.Offices.{OfficeState, record_of, stamp_given, with_record, with_new_record, office_case, office_after, answer_to}

-- a call that is granted
pub record IsGranted (o : OfficeState) (c : OfficeCall) (after : OfficeState) (a : OfficeAnswer) : Type 0 where
  pub is : office_case o c ≡ grant after a

pub after-is : (o : OfficeState) (c : OfficeCall) (after : OfficeState) (a : OfficeAnswer) → IsGranted o c after a → office_after o c ≡ after
after-is o c after a g = ap (λ (s : Step OfficeState OfficeAnswer). state_after o s) g.is

pub answer-is : (o : OfficeState) (c : OfficeCall) (after : OfficeState) (a : OfficeAnswer) → IsGranted o c after a → answer_to o c ≡ Ok a
answer-is o c after a g = ap (λ (s : Step OfficeState OfficeAnswer). reply s) g.is

-- a block that isn't known
pub create-granted : (o : OfficeState) (b : BlockId) (members : List NodeId) → record_of o b ≡ None → IsGranted o (call.Create b members) (with_new_record (stamp_given o) b (opened members o.next)) (answer.Stamp o.next)
unfolding office_case
create-granted o b members none = record { is = go }
  where
    go : office_case o (call.Create b members) ≡ grant (with_new_record (stamp_given o) b (opened members o.next)) (answer.Stamp o.next)
    go = rw none refl

-- a block that is closed
pub append-granted : (o : OfficeState) (b : BlockId) (r : BlockRecord) → record_of o b ≡ Some r → r.is_open ≡ false → r.length ≤ MAX_APPEND_LENGTH
    → IsGranted o (call.Append b) (with_record (stamp_given o) b (record r { is_open = true; recovery = None })) (answer.Reopened (record { committed = r.committed; length = r.length; new = o.next }))
unfolding office_case
append-granted o b r is shut short = record { is = go }
  where
    fits : nat_le r.length MAX_APPEND_LENGTH ≡ true
    fits = grind (arith, nat_tests, short)

    go : office_case o (call.Append b) ≡ grant (with_record (stamp_given o) b (record r { is_open = true; recovery = None })) (answer.Reopened (record { committed = r.committed; length = r.length; new = o.next }))
    go = rw (is, shut, fits) refl

-- a block that is open, under no recovery
pub commit-granted : (o : OfficeState) (b : BlockId) (r : BlockRecord) (stamp : Stamp) (members : List NodeId) → record_of o b ≡ Some r → r.recovery ≡ None → r.is_open ≡ true → r.committed.0 < stamp.0
    → IsGranted o (call.Commit b stamp members) (with_record o b (record r { committed = stamp; members = members })) answer.Nothing
unfolding office_case
commit-granted o b r stamp members is free open_yet rises = record { is = go }
  where
    new : nat_lt r.committed.0 stamp.0 ≡ true
    new = grind (arith, nat_tests, rises)

    go : office_case o (call.Commit b stamp members) ≡ grant (with_record o b (record r { committed = stamp; members = members })) answer.Nothing
    go = rw (is, free, open_yet, new) refl

pub complete-granted : (o : OfficeState) (b : BlockId) (r : BlockRecord) (stamp : Stamp) (bytes : ℕ) → record_of o b ≡ Some r → r.recovery ≡ None → r.is_open ≡ true → r.committed.0 ≤ stamp.0
    → IsGranted o (call.Complete b stamp bytes) (with_record o b (record r { is_open = false; length = bytes })) answer.Nothing
unfolding office_case
complete-granted o b r stamp bytes is free open_yet rises = record { is = go }
  where
    new : nat_le r.committed.0 stamp.0 ≡ true
    new = grind (arith, nat_tests, rises)

    go : office_case o (call.Complete b stamp bytes) ≡ grant (with_record o b (record r { is_open = false; length = bytes })) answer.Nothing
    go = rw (is, free, open_yet, new) refl
