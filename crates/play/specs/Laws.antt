-- What a play takes of the world, and what its events leave of its reads and recoveries.
use Rattle.hd_base.specs.declared.links.LinkIn as link_in
use Rattle.hd_base.specs.declared.links.LinkOut as link_out
use Rattle.play_model.specs.WorldLaws.Facts.{RunsEnd, RunsJoin}
use Rattle.play_model.specs.WorldLaws.Placing.{AllPlaced, OnlyDialledCarry}
use Rattle.play_model.specs.WorldLaws.Testing.{AllTested}
use Rattle.play_laws.specs.WorldOrders.Orders.{AllOrdered}
use Rattle.play_laws.specs.WorldOrders.Takes.{AllTakeInOrder}
use Rattle.play_laws.specs.WorldRecoveries.Recovering.{AllRecovering}
use Rattle.node_stops.specs.WorldRequests.Requests.{AreAmong}
use Rattle.play_laws.specs.WorldTexts.Texts.{AllWritten}
use Rattle.play_dues.specs.ReaderEvents.Orders.{AllReadersTakeInOrder}
use Rattle.play_dues.specs.RecoveryEvents.Orders.{RecoveriesComeInOrder, RecoveriesNameOneBlock}
use Rattle.play_laws.specs.Early.{NothingEarly}
use Rattle.play_laws.specs.Intakes.{OwnStepsKeepIntakes, HearingKeepsIntakes}
use Rattle.play_laws.specs.Members.{MembersAre, TargetsAre}
use Rattle.play_laws.specs.Nodes.{OnlyNodesRun, RunningStays}
use Rattle.play_laws.specs.Stamps.{StampsAreFew}
use Rattle.play_laws.specs.Taking.{CommandsTaken, UnmadeAreFresh}
use Rattle.play_laws.specs.Writers.{AllRest, WritersOpen}
use Rattle.play_settling.specs.Settling.{ActOrAsk}
use Rattle.play_dues.specs.PlayClients.Others.{OwnStepsKeep, HearingKeeps}
use Rattle.node_stops.specs.PlayNodes.Frames.{DownKeeps, FaultKeeps, ReadyKeeps, MirrorKeeps}
use Rattle.play_dues.specs.PlayReaders.Frames.{AskingKeepsOthers, HearingKeepsOthers}
use Rattle.play_dues.specs.PlayPrimaries.Frames as primaries
use Rattle.play_dues.specs.PlayReads.Keeping.{ReadsStay, OwnStepsKeepReads, HearingKeepsReads, DownKeepsReads, FaultKeepsReads, ReadyKeepsReads, MirrorKeepsReads, CutsKeepReads}
use Rattle.play_dues.specs.PlayReads.Keeping.{LeadingKeepsReads, AnswersKeepReads, AnsweringKeepsReads}
use Rattle.play_dues.specs.PlayRecoveries.Keeping.{RecoveriesStay, CutsKeepRecoveries}
use Rattle.play_dues.specs.PlayRecoveries.Others.{OwnStepsKeepRecoveries, HearingKeepsRecoveries, DownKeepsRecoveries, FaultKeepsRecoveries, ReadyKeepsRecoveries, MirrorKeepsRecoveries}
use Rattle.play_dues.specs.PlayRecoveries.Others.{AskingKeepsRecoveries, ReadingKeepsRecoveries, ServingKeepsRecoveries, SendingKeepsRecoveries}

-- Each holds after every list of events.
pub record Laws : Type 0 where
  pub joined : RunsJoin
  pub ended : RunsEnd
  pub tested : AllTested
  pub placed : AllPlaced
  pub undialled : OnlyDialledCarry
  pub ordered : AllOrdered
  pub taken : AllTakeInOrder
  pub written : AllWritten
  pub recovering : AllRecovering
  pub few : StampsAreFew
  pub among : AreAmong
  pub only : OnlyNodesRun
  pub running : RunningStays
  pub members : MembersAre
  pub targets : TargetsAre
  pub rest : AllRest
  pub opened : WritersOpen
  pub early : NothingEarly
  pub acts : ActOrAsk
  pub takes : CommandsTaken
  pub fresh : UnmadeAreFresh
  pub own_intakes : OwnStepsKeepIntakes
  pub heard_intakes : HearingKeepsIntakes
  pub own_keeps : OwnStepsKeep
  pub heard_keeps : HearingKeeps
  pub down_keeps : DownKeeps
  pub fault_keeps : FaultKeeps
  pub ready_keeps : ReadyKeeps
  pub mirror_keeps : MirrorKeeps
  pub readers : AllReadersTakeInOrder
  pub asking_others : AskingKeepsOthers
  pub hearing_others : HearingKeepsOthers
  pub recoveries_ordered : RecoveriesComeInOrder
  pub recoveries_named : RecoveriesNameOneBlock
  pub leading_others : primaries.OwnStepsKeepOthers
  pub leading_nodes : primaries.OwnStepsKeepNodes
  pub told_others : primaries.HearingKeepsOthers

-- The events of writers and members, and cuts, keep what reads and recoveries show.
pub record PipelinesLeave {I O : Type 0} (i : link_in.Ghosts I) (o : link_out.Ghosts O) : Type 0 where
  pub reads_stay : ReadsStay i o
  pub own_reads : OwnStepsKeepReads i o
  pub heard_reads : HearingKeepsReads i o
  pub down_reads : DownKeepsReads i o
  pub fault_reads : FaultKeepsReads i o
  pub ready_reads : ReadyKeepsReads i o
  pub mirror_reads : MirrorKeepsReads i o
  pub cut_reads : CutsKeepReads i o
  pub recoveries_stay : RecoveriesStay i o
  pub own_recoveries : OwnStepsKeepRecoveries i o
  pub heard_recoveries : HearingKeepsRecoveries i o
  pub down_recoveries : DownKeepsRecoveries i o
  pub fault_recoveries : FaultKeepsRecoveries i o
  pub ready_recoveries : ReadyKeepsRecoveries i o
  pub mirror_recoveries : MirrorKeepsRecoveries i o
  pub cut_recoveries : CutsKeepRecoveries i o

-- The events of readers, and of the lower ends that they dialled, keep what recoveries show.
pub record ReadsLeave {I O : Type 0} (i : link_in.Ghosts I) (o : link_out.Ghosts O) : Type 0 where
  pub stay : RecoveriesStay i o
  pub asking : AskingKeepsRecoveries i o
  pub reading : ReadingKeepsRecoveries i o
  pub serving : ServingKeepsRecoveries i o
  pub sending : SendingKeepsRecoveries i o

-- The events of primaries, and of the lower ends that they dialled, keep what reads show.
pub record RecoveriesLeave {I O : Type 0} (i : link_in.Ghosts I) (o : link_out.Ghosts O) : Type 0 where
  pub stay : ReadsStay i o
  pub leading : LeadingKeepsReads i o
  pub answers : AnswersKeepReads i o
  pub answering : AnsweringKeepsReads i o
