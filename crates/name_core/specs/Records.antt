-- What the office has of a block, and what each call makes of it. The checks of a step stand in the order in which they are tried.
use Rattle.std.specs.Prelude.{ℕ, ◌==◌, not, nat_le, nat_lt, Bool, true, false, List, Option, Some, None, Result, Ok, Err}
use Rattle.hd_base.specs.declared.numbers.NodeId.{NodeId}
use Rattle.hd_base.specs.declared.numbers.Stamp.{Stamp}
use Rattle.hd_base.specs.Results.{◌>>=◌}
use Rattle.name_core.specs.declared.calls.Begun.{Begun}
use Rattle.name_core.specs.declared.calls.Reopened.{Reopened}
use Rattle.name_core.specs.declared.faults.OfficeFault.{OfficeFault}
use Rattle.name_core.specs.declared.faults.OfficeFault.TheVariants as fault
use Rattle.name_core.specs.declared.records.BlockRecord.{BlockRecord}
use Rattle.name_core.specs.declared.records.TheConstants.{MAX_APPEND_LENGTH}
use Rattle.name_core.specs.Steps.{Step, grant, check}

-- a new block
abbrev pub opened : List NodeId → Stamp → BlockRecord
opened members stamp = record { is_open = true; committed = stamp; members = members; length = 0; recovery = None }

-- no block recovery began
abbrev pub lease_check : Option Stamp → Result (Unit {0}) OfficeFault
lease_check None = Ok tt
lease_check (Some recovery) = Err (fault.LeaseLost recovery)

-- what a writer needs: its lease, and that the block is open
abbrev pub writer_check : BlockRecord → Result (Unit {0}) OfficeFault
writer_check r = lease_check r.recovery >>= (λ _. check r.is_open fault.NotOpen (Ok tt))

-- an append: the block is closed, and isn't too long
abbrev pub append_step : BlockRecord → Stamp → Step BlockRecord Reopened
append_step r new =
    check (not r.is_open) fault.NotClosed
    (check (nat_le r.length MAX_APPEND_LENGTH) (fault.TooLong r.length)
    (grant (record r { is_open = true; recovery = None }) (record {
      committed = r.committed;
      length = r.length;
      new = new;
    })))

-- the writer's new stamp
abbrev pub new_stamp_step : BlockRecord → Stamp → Step BlockRecord Stamp
new_stamp_step r new = writer_check r >>= (λ _. grant r new)

-- a commit: the stamp is above the committed one
abbrev pub commit_step : BlockRecord → Stamp → List NodeId → Step BlockRecord (Unit {0})
commit_step r stamp members =
    writer_check r >>= (λ _.
    check (nat_lt r.committed.0 stamp.0) (fault.OldStamp r.committed)
    (grant (record r { committed = stamp; members = members }) tt))

-- the writer's end: the stamp isn't below the committed one
abbrev pub complete_step : BlockRecord → Stamp → ℕ → Step BlockRecord (Unit {0})
complete_step r stamp bytes =
    writer_check r >>= (λ _.
    check (nat_le r.committed.0 stamp.0) (fault.OldStamp r.committed)
    (grant (record r { is_open = false; length = bytes }) tt))

-- the beginning of a block recovery: the block is open
abbrev pub begin_step : BlockRecord → Stamp → Step BlockRecord Begun
begin_step r id =
    check r.is_open fault.NotOpen
    (grant (record r { recovery = Some id }) (record { id = id; committed = r.committed }))

-- it is there, and it is this stamp
abbrev pub is_stamp : Option Stamp → Stamp → Bool
is_stamp None id = false
is_stamp (Some latest) id = latest.0 == id.0

-- the end of a block recovery: the block is open, and this is the latest recovery. Its id stays known.
abbrev pub sync_step : BlockRecord → Stamp → ℕ → List NodeId → Step BlockRecord (Unit {0})
sync_step r id bytes members =
    check r.is_open fault.NotOpen
    (check (is_stamp r.recovery id) (fault.OldRecovery r.recovery)
    (grant (record r { is_open = false; committed = id; members = members; length = bytes }) tt))
