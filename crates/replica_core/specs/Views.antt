-- What a replica shows of itself.
use Rattle.std.specs.Prelude.{ℕ, Option, Some, None, option_map}
use Rattle.std.specs.Option.{option_and_then}
use Rattle.hd_base.specs.declared.states.ReplicaState.{ReplicaState}
use Rattle.hd_base.specs.declared.numbers.ConnId.{ConnId}
use Rattle.hd_base.specs.declared.numbers.Stamp.{Stamp}
use Rattle.hd_base.specs.SumRules.{Rule}
use Rattle.replica_core.specs.declared.records.ReplicaRecord.{ReplicaRecord}
use Rattle.replica_core.specs.declared.info.ReplicaInfo.{ReplicaInfo}
use Rattle.replica_core.specs.Info.{state_of, visible_of}

-- the state, None for an absent replica
abbrev pub state_in : ReplicaRecord → Option ReplicaState
state_in c = option_map state_of c.info

-- the state apart from a recovery
abbrev pub original_in : ReplicaRecord → Option ReplicaState
original_in c = option_map (λ h. h.original) c.info

-- the stamp
abbrev pub stamp_in : ReplicaRecord → Option Stamp
stamp_in c = option_map (λ h. h.stamp) c.info

abbrev pub written_at : Option ReplicaInfo → ℕ
written_at None = 0
written_at (Some h) = h.written

abbrev pub acked_at : Option ReplicaInfo → ℕ
acked_at None = 0
acked_at (Some h) = h.acked

-- how many bytes are written, 0 for an absent replica
abbrev pub written_in : ReplicaRecord → ℕ
written_in c = written_at c.info

-- how many bytes are acked
abbrev pub acked_in : ReplicaRecord → ℕ
acked_in c = acked_at c.info

-- the rule of its sums, None for an absent replica
abbrev pub rule_in : ReplicaRecord → Option Rule
rule_in c = option_map (λ h. h.sums) c.info

-- the connection that writes
abbrev pub writer_in : ReplicaRecord → Option ConnId
writer_in c = option_map (λ s. s.conn) c.stream

-- the visible length
abbrev pub visible_in : ReplicaRecord → Option ℕ
visible_in c = option_and_then visible_of c.info
