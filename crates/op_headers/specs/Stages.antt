-- The numbers of a pipeline's stages in messages.
use Rattle.std.specs.Prelude.{ℕ}
use Rattle.op_headers.specs.declared.stages.Stage.{Stage}
use Rattle.op_headers.specs.declared.stages.Stage.TheVariants as stage

-- the number of a stage
abbrev pub stage_number : Stage → ℕ
stage_number stage.PipelineSetupAppend = 0
stage_number stage.PipelineSetupAppendRecovery = 1
stage_number stage.DataStreaming = 2
stage_number stage.PipelineSetupStreamingRecovery = 3
stage_number stage.PipelineClose = 4
stage_number stage.PipelineCloseRecovery = 5
stage_number stage.PipelineSetupCreate = 6
stage_number stage.TransferRbw = 7
stage_number stage.TransferFinalized = 8
