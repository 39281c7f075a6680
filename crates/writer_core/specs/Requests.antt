-- The request by which a pipeline is set up.
use Rattle.std.specs.Prelude.{ℕ, List, ◌++◌, map, codes, decimal, None}
use Rattle.hd_base.specs.declared.numbers.BlockId.{BlockId}
use Rattle.hd_base.specs.declared.numbers.NodeId.{NodeId}
use Rattle.hd_base.specs.declared.numbers.Stamp.{Stamp}
use Rattle.hd_base.specs.SumRules.{kind_number}
use Rattle.op_headers.specs.declared.ops.Op.{Op}
use Rattle.op_headers.specs.declared.ops.Op.TheVariants as op
use Rattle.op_headers.specs.declared.stages.Stage.{Stage}
use Rattle.op_headers.specs.declared.stages.Stage.TheVariants as stage
use Rattle.op_headers.specs.Stages.{stage_number}
use Rattle.node_refs.specs.NodeRefs.{ref_of}
use Rattle.packet_stream.specs.Streams.{StreamState, written_in}
use Rattle.writer_core.specs.declared.phases.Setup.{Setup}
use Rattle.writer_core.specs.declared.phases.Setup.TheVariants as setup

-- the name of the only block pool
abbrev pub pool_name : List ℕ
pool_name = codes "BP-1-127.0.0.1-1"

-- the name of the client that writes a block
abbrev pub client_name : BlockId → List ℕ
client_name block = codes "DFSClient_" ++ decimal block.0

abbrev pub stage_of : Setup → Stage
stage_of setup.Create = stage.PipelineSetupCreate
stage_of setup.Append = stage.PipelineSetupAppend
stage_of setup.AppendRecovery = stage.PipelineSetupAppendRecovery
stage_of setup.StreamRecovery = stage.PipelineSetupStreamingRecovery
stage_of setup.CloseRecovery = stage.PipelineCloseRecovery

-- how many bytes each replica has at least: in the recovery of a stream those that are acked, and else all
abbrev pub min_length : Setup → StreamState → ℕ
min_length setup.Create s = 0
min_length setup.StreamRecovery s = s.acked
min_length _ s = written_in s

-- how many bytes each replica has at most: in the recovery of a stream those that are sent, and else all
abbrev pub max_length : Setup → StreamState → ℕ
max_length setup.Create s = 0
max_length setup.StreamRecovery s = s.sent
max_length _ s = written_in s

-- the new stamp, which a new block's request doesn't say
abbrev pub latest_stamp : Setup → Stamp → Stamp
latest_stamp setup.Create stamp = record { 0 = 0 }
latest_stamp _ stamp = stamp

-- The request to the first member: the committed stamp is named, and the other members are the targets.
unfoldable pub request_for : BlockId → Stamp → StreamState → Setup → Stamp → ℕ → List NodeId → Op
request_for block committed s kind stamp members targets = op.Write (record {
  block = record { pool = pool_name; block = block; stamp = committed; bytes = min_length kind s };
  client = client_name block;
  targets = map ref_of targets;
  source = None;
  stage = stage_number (stage_of kind);
  pipeline = members;
  min = min_length kind s;
  max = max_length kind s;
  latest = latest_stamp kind stamp;
  kind = kind_number s.rule.kind;
  chunk = s.rule.chunk;
})
