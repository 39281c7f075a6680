-- The office: what each call makes of it, and what it is answered.
use Rattle.std.specs.Prelude.{ℕ, ◌+◌, ◌-◌, ◌^◌, ◌<◌, not, is_some, List, [], ◌∷◌, Option, Some, None, Result, Ok, Err}
use Rattle.std.specs.Ordering.{on, nat_cmp}
use Rattle.std.specs.declared.cmp.Ordering.{Ordering}
use Rattle.std.specs.Map.{lookup, set_value}
use Rattle.std.specs.BTreeMap.{is_at, insert_entry}
use Rattle.hd_base.specs.declared.numbers.BlockId.{BlockId}
use Rattle.hd_base.specs.declared.numbers.NodeId.{NodeId}
use Rattle.hd_base.specs.declared.numbers.Stamp.{Stamp}
use Rattle.hd_base.specs.Results.{◌>>=◌, with_value}
use Rattle.name_core.specs.declared.calls.Begun.{Begun}
use Rattle.name_core.specs.declared.calls.OfficeAnswer.{OfficeAnswer}
use Rattle.name_core.specs.declared.calls.OfficeAnswer.TheVariants as answer
use Rattle.name_core.specs.declared.calls.OfficeCall.{OfficeCall}
use Rattle.name_core.specs.declared.calls.OfficeCall.TheVariants as call
use Rattle.name_core.specs.declared.calls.Reopened.{Reopened}
use Rattle.name_core.specs.declared.faults.OfficeFault.{OfficeFault}
use Rattle.name_core.specs.declared.faults.OfficeFault.TheVariants as fault
use Rattle.name_core.specs.declared.office.TheConstants.{FIRST_STAMP}
use Rattle.name_core.specs.declared.records.BlockRecord.{BlockRecord}
use Rattle.name_core.specs.Steps.{Step, grant, state_after, reply, check}
use Rattle.name_core.specs.Records.{opened, append_step, new_stamp_step, commit_step, complete_step, begin_step, sync_step}

-- the next stamp, and what is known of each block, in the order of the blocks' numbers
pub record OfficeState : Type 0 where
  pub next : Stamp
  pub blocks : List (BlockId × BlockRecord)

-- the order of blocks
abbrev pub block_order : BlockId → BlockId → Ordering
block_order = on (λ b. b.0) nat_cmp

-- an office that knows no block
abbrev pub new_office : OfficeState
new_office = record { next = record { 0 = FIRST_STAMP }; blocks = [] }

-- A stamp is left to be given: the next one fits, and so does the one after it.
abbrev pub HasStampLeft : OfficeState → Type 0
HasStampLeft o = o.next.0 < 2 ^ 64 - 1

-- what is known of a block
abbrev pub record_of : OfficeState → BlockId → Option BlockRecord
record_of o block = lookup (is_at (block_order block)) o.blocks

abbrev pub committed_under : Option BlockRecord → Stamp
committed_under None = record { 0 = 0 }
committed_under (Some r) = r.committed

-- the committed stamp, 0 of a block that isn't known
abbrev pub committed_in : OfficeState → BlockId → Stamp
committed_in o block = committed_under (record_of o block)

-- the next stamp was given
abbrev pub stamp_given : OfficeState → OfficeState
stamp_given o = record o { next = record { 0 = o.next.0 + 1 } }

-- with this of a block that was known
abbrev pub with_record : OfficeState → BlockId → BlockRecord → OfficeState
with_record o block r = record o { blocks = set_value (is_at (block_order block)) o.blocks r }

-- with this of a block that wasn't known
abbrev pub with_new_record : OfficeState → BlockId → BlockRecord → OfficeState
with_new_record o block r = record o { blocks = insert_entry block_order o.blocks block r }

abbrev pub known : Option BlockRecord → Result BlockRecord OfficeFault
known None = Err fault.Unknown
known (Some r) = Ok r

-- a step of a block that is known
abbrev pub on_block : {A : Type 0} → OfficeState → BlockId → (BlockRecord → Step BlockRecord A) → Step OfficeState A
on_block o block step = known (record_of o block) >>=
    (λ r. step r >>= (λ g. grant (with_record o block g.state) g.answer))

-- a step of a block that is known, which is given the next stamp
abbrev pub with_stamp : {A : Type 0} → OfficeState → BlockId → (BlockRecord → Stamp → Step BlockRecord A) →
    Step OfficeState A
with_stamp o block step = on_block (stamp_given o) block (λ r. step r o.next)

abbrev pub create_case : OfficeState → BlockId → List NodeId → Step OfficeState Stamp
create_case o block members =
    check (not (is_some (record_of o block))) fault.Known
    (grant (with_new_record (stamp_given o) block (opened members o.next)) o.next)

abbrev pub append_case : OfficeState → BlockId → Step OfficeState Reopened
append_case o block = with_stamp o block append_step

abbrev pub new_stamp_case : OfficeState → BlockId → Step OfficeState Stamp
new_stamp_case o block = with_stamp o block new_stamp_step

abbrev pub commit_case : OfficeState → BlockId → Stamp → List NodeId → Step OfficeState (Unit {0})
commit_case o block stamp members = on_block o block (λ r. commit_step r stamp members)

abbrev pub complete_case : OfficeState → BlockId → Stamp → ℕ → Step OfficeState (Unit {0})
complete_case o block stamp bytes = on_block o block (λ r. complete_step r stamp bytes)

abbrev pub begin_case : OfficeState → BlockId → Step OfficeState Begun
begin_case o block = with_stamp o block begin_step

abbrev pub sync_case : OfficeState → BlockId → Stamp → ℕ → List NodeId → Step OfficeState (Unit {0})
sync_case o block id bytes members = on_block o block (λ r. sync_step r id bytes members)

-- a step whose answer is one of these
abbrev pub answering : {A : Type 0} → (A → OfficeAnswer) → Step OfficeState A → Step OfficeState OfficeAnswer
answering f step = with_value (λ g. record { state = g.state; answer = f g.answer }) step

-- the case of each call
unfoldable pub office_case : OfficeState → OfficeCall → Step OfficeState OfficeAnswer
office_case o (call.Create block members) = answering answer.Stamp (create_case o block members)
office_case o (call.Append block) = answering answer.Reopened (append_case o block)
office_case o (call.NewStamp block) = answering answer.Stamp (new_stamp_case o block)
office_case o (call.Commit block stamp members) = answering (λ _. answer.Nothing) (commit_case o block stamp members)
office_case o (call.Complete block stamp bytes) = answering (λ _. answer.Nothing) (complete_case o block stamp bytes)
office_case o (call.BeginRecovery block) = answering answer.Begun (begin_case o block)
office_case o (call.CommitSync block id bytes members) =
    answering (λ _. answer.Nothing) (sync_case o block id bytes members)

-- a call that gives a stamp where it is granted
abbrev pub GivesStamp : OfficeCall → Type 0
GivesStamp (call.Create block members) = Unit {0}
GivesStamp (call.Append block) = Unit {0}
GivesStamp (call.NewStamp block) = Unit {0}
GivesStamp (call.BeginRecovery block) = Unit {0}
GivesStamp _ = ⊥

-- a call that makes a block known, and may want memory for it
abbrev pub IsCreate : OfficeCall → Type 0
IsCreate (call.Create block members) = Unit {0}
IsCreate _ = ⊥

-- the office after a call
abbrev pub office_after : OfficeState → OfficeCall → OfficeState
office_after o c = state_after o (office_case o c)

-- what the office answers a call
abbrev pub answer_to : OfficeState → OfficeCall → Result OfficeAnswer OfficeFault
answer_to o c = reply (office_case o c)

-- the office after calls
abbrev pub run : OfficeState → List OfficeCall → OfficeState
run o [] = o
run o (c ∷ cs) = run (office_after o c) cs
