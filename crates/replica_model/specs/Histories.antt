-- The history of a replica, and its replay.
use Rattle.std.specs.Prelude.{List, [], ◌∷◌, length, if◌then◌else◌}
use Rattle.hd_base.specs.declared.numbers.BlockId.{BlockId}
use Rattle.replica_core.specs.Info.{settled_at}
use Rattle.replica_core.specs.Transitions.{found}
use Rattle.replica_model.specs.declared.histories.Start.{Start}
use Rattle.replica_model.specs.declared.histories.Start.TheVariants as start
use Rattle.replica_model.specs.declared.histories.Entry.{Entry}
use Rattle.replica_model.specs.declared.histories.History.{History}
use Rattle.replica_model.specs.Rows.{FullReplica, row, broken, nothing}

-- the replica at the start of a history
abbrev pub begun : BlockId → Start → FullReplica
begun block start.Absent = nothing block
begun block (start.Found state stamp sums bytes) =
    record { known = found block (settled_at state stamp sums (length bytes)); bytes = bytes }

-- a replica after an entry
abbrev pub after_entry : FullReplica → Entry → FullReplica
after_entry r entry = if entry.failed then broken r else row r entry.event

-- a replica after some entries, in their order
abbrev pub replay : FullReplica → List Entry → FullReplica
replay r [] = r
replay r (entry ∷ entries) = replay (after_entry r entry) entries

-- the replica that a history leads to
abbrev pub replayed : BlockId → History → FullReplica
replayed block history = replay (begun block history.start) history.entries.items
