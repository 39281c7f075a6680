-- What the lines of a report are counted as.
use Rattle.std.specs.Prelude.{ℕ, Bool, true, false, if◌then◌else◌, Some, None}
use Rattle.hd_base.specs.declared.states.ReplicaState.{ReplicaState}
use Rattle.hd_base.specs.declared.states.ReplicaState.TheVariants as state
use Rattle.script_lang.specs.declared.report.Answer.{Answer}
use Rattle.script_lang.specs.declared.report.Answer.TheVariants as answer
use Rattle.script_lang.specs.declared.report.FlushResult.{FlushResult}
use Rattle.script_lang.specs.declared.report.FlushResult.TheVariants as flush
use Rattle.script_lang.specs.declared.report.RecoveryResult.TheVariants as recovery
use Rattle.script_lang.specs.declared.report.ReportLine.{ReportLine}
use Rattle.script_lang.specs.declared.report.ReportLine.TheVariants as line
use Rattle.script_lang.specs.declared.report.SetupResult.{SetupResult}
use Rattle.script_lang.specs.declared.report.SetupResult.TheVariants as setup
use Rattle.storm_summary.specs.declared.kinds.Kind.{Kind}
use Rattle.storm_summary.specs.declared.kinds.Kind.TheVariants as kind

-- it is this one
abbrev pub is_same : Kind → Kind → Bool
is_same kind.Finalized kind.Finalized = true
is_same kind.Rbw kind.Rbw = true
is_same kind.Rwr kind.Rwr = true
is_same kind.Rur kind.Rur = true
is_same kind.Broken kind.Broken = true
is_same kind.Ok kind.Ok = true
is_same kind.Failed kind.Failed = true
is_same kind.Recovered kind.Recovered = true
is_same kind.Other kind.Other = true
is_same _ _ = false

-- a replica in this state that isn't broken
abbrev pub kind_of_state : ReplicaState → Kind
kind_of_state state.Finalized = kind.Finalized
kind_of_state state.Rbw = kind.Rbw
kind_of_state state.Rwr = kind.Rwr
kind_of_state state.Rur = kind.Rur
kind_of_state state.Temporary = kind.Other

-- a create's or an append's result begins with `ok`
abbrev pub setup_is_ok : SetupResult → Bool
setup_is_ok (setup.Ok stamp) = true
setup_is_ok other = false

-- so does an hflush's, an hsync's or a close's
abbrev pub flush_is_ok : FlushResult → Bool
flush_is_ok (flush.Ok length stamp members) = true
flush_is_ok other = false

-- the result of an answer begins with `ok`
abbrev pub says_ok : Answer → Bool
says_ok (answer.Create result) = setup_is_ok result
says_ok (answer.Append result) = setup_is_ok result
says_ok (answer.Hflush result) = flush_is_ok result
says_ok (answer.Hsync result) = flush_is_ok result
says_ok (answer.Close result) = flush_is_ok result

-- A broken replica has no sum. What a report tells of reads, of recoveries that failed, and of nodes that have stopped, isn't
-- counted.
abbrev pub kind_of : ReportLine → Kind
kind_of (line.Replica node block state stamp written acked None) = kind.Broken
kind_of (line.Replica node block state stamp written acked (Some sum)) = kind_of_state state
kind_of (line.Answer block ordinal a) = if says_ok a then kind.Ok else kind.Failed
kind_of (line.Recovery number (recovery.Ok id length members)) = kind.Recovered
kind_of other = kind.Other

-- the written bytes of a replica that isn't broken
abbrev pub bytes_of : ReportLine → ℕ
bytes_of (line.Replica node block state stamp written acked (Some sum)) = written
bytes_of other = 0
