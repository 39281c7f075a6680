-- What of a replica's two files holds the first bytes of it, and which calls leave that.
use Rattle.std.specs.Prelude.{ℕ, ◌+◌, ◌*◌, ◌/◌, ◌<◌, ◌≤◌, ◌^◌, Bool, true, false, List, [], ◌∷◌}
use Rattle.hd_base.specs.SumRules.{Rule}
use Rattle.block_files.specs.BlockCalls.{BlockCall, MakeData, MakeMeta, WriteData, WriteMeta, CutData, CutMeta, SyncData, SyncMeta, MoveData, MoveMeta}
use Rattle.replica_model.specs.Sums.{header_len}
use Rattle.replica_model.specs.Plans.{has_sums}
use Rattle.restart_scan.specs.Laws.{IsPlain}

-- how many sums are those of whole chunks among the first n bytes, by whether chunks have sums
abbrev pub whole_sums : Bool → Rule → ℕ → ℕ
whole_sums true r n = n / r.chunk
whole_sums false r n = 0

-- how long the front of the metadata file is that has the header and these sums
abbrev pub front_len : Rule → ℕ → ℕ
front_len r n = header_len + 4 * whole_sums (has_sums r.kind) r n

-- how many bytes the whole chunks among the first n have
abbrev pub whole_len : Rule → ℕ → ℕ
whole_len r n = r.chunk * (n / r.chunk)

-- The call leaves the first k bytes of the data file and the first m of the metadata file: it makes neither, writes past
-- them and cuts behind them. It moves the files to rbw or to finalized alone, under a stamp of 64 bits.
abbrev pub LeavesFronts : ℕ → ℕ → BlockCall → Type 0
LeavesFronts k m (MakeData folder) = ⊥
LeavesFronts k m (MakeMeta folder stamp) = ⊥
LeavesFronts k m (WriteData place bytes) = k ≤ place
LeavesFronts k m (WriteMeta place bytes) = m ≤ place
LeavesFronts k m (CutData len) = k ≤ len
LeavesFronts k m (CutMeta len) = m ≤ len
LeavesFronts k m SyncData = Unit {0}
LeavesFronts k m SyncMeta = Unit {0}
LeavesFronts k m (MoveData folder) = IsPlain folder
LeavesFronts k m (MoveMeta folder stamp) = IsPlain folder × (stamp < 2 ^ 64)

-- each of the calls does
abbrev pub AllLeaveFronts : ℕ → ℕ → List BlockCall → Type 0
AllLeaveFronts k m [] = Unit {0}
AllLeaveFronts k m (call ∷ calls) = LeavesFronts k m call × AllLeaveFronts k m calls
