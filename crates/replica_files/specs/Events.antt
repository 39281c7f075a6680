-- Events by what they do to the files.
use Rattle.std.specs.Prelude.{◌≡◌}
use Rattle.hd_base.specs.declared.states.ReplicaState.TheVariants as state
use Rattle.replica_core.specs.declared.events.Event.{Event}
use Rattle.replica_core.specs.declared.events.Event.TheVariants as event
use Rattle.replica_core.specs.declared.info.ReplicaInfo.{ReplicaInfo}
use Rattle.replica_core.specs.Info.{settled_at}
use Rattle.replica_model.specs.declared.events.ReplicaEvent.{ReplicaEvent}
use Rattle.replica_model.specs.declared.events.ReplicaEvent.TheVariants as replica_event

-- an event that is no packet, makes no new replica, and befalls no file
abbrev pub IsSettling : Event → Type 0
IsSettling (event.Create conn stamp sums) = ⊥
IsSettling (event.Temporary conn stamp sums) = ⊥
IsSettling (event.Packet conn seqno offset bytes sums last sync bad) = ⊥
IsSettling event.FileFault = ⊥
IsSettling _ = Unit {0}

-- an event that may cut bytes off
abbrev pub IsCutting : Event → Type 0
IsCutting (event.StreamRecovery conn named new low high) = Unit {0}
IsCutting (event.Update recovery bytes) = Unit {0}
IsCutting _ = ⊥

-- an event that makes a new replica
abbrev pub IsMaking : Event → Type 0
IsMaking (event.Create conn stamp sums) = Unit {0}
IsMaking (event.Temporary conn stamp sums) = Unit {0}
IsMaking _ = ⊥

-- what a replica holds that the event makes
abbrev pub IsMadeBy : Event → ReplicaInfo → Type 0
IsMadeBy (event.Create conn stamp sums) k = k ≡ settled_at state.Rbw stamp sums 0
IsMadeBy (event.Temporary conn stamp sums) k = k ≡ settled_at state.Temporary stamp sums 0
IsMadeBy _ k = ⊥

-- an event that a broken replica refuses: any but the end of a connection and a failed call on files
abbrev pub IsForWhole : Event → Type 0
IsForWhole (event.Ended conn) = ⊥
IsForWhole event.FileFault = ⊥
IsForWhole _ = Unit {0}

-- the same of an event with bytes
abbrev pub NeedsWhole : ReplicaEvent → Type 0
NeedsWhole (replica_event.Packet conn p) = Unit {0}
NeedsWhole (replica_event.Other e) = IsForWhole e

-- a write request: what sets a replica up
abbrev pub IsSetup : Event → Type 0
IsSetup (event.Create conn stamp sums) = Unit {0}
IsSetup (event.Temporary conn stamp sums) = Unit {0}
IsSetup (event.Append conn named new bytes) = Unit {0}
IsSetup (event.AppendRecovery conn named new bytes) = Unit {0}
IsSetup (event.StreamRecovery conn named new low high) = Unit {0}
IsSetup (event.CloseRecovery named new bytes) = Unit {0}
IsSetup _ = ⊥
