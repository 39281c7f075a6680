-- What the bytes of the world are, in short.
use Rattle.std.specs.Prelude.{ℕ, ◌≡◌, ◌≤◌, false, List, length, slice_get, Some, IfSome}
use Rattle.name_core.specs.declared.records.BlockRecord.{BlockRecord}
use Rattle.name_core.specs.Offices.{record_of}
use Rattle.world.specs.OpHeaders.Op.TheVariants as op
use Rattle.world.specs.OpHeaders.Values.{WriteFields}
use Rattle.world.specs.PacketCodec.Packet.{Packet}
use Rattle.world.specs.PacketStream.Carried.{IsPiece}
use Rattle.world.specs.ReplicaModel.Found.{IsFront}
use Rattle.world.specs.declared.events.Event.{Event}
use Rattle.world.specs.Parts.{request, packet}
use Rattle.world.specs.Worlds.{start}
use Rattle.world.specs.Safe.{written_under}
use Rattle.world.specs.Events.{run}
use Rattle.world_laws.specs.Carrying.{new_stamp}

-- Every replica, of a stopped node and a broken one too, holds a front of what the writer of its stamp's session has written.
abbrev pub AllHoldFronts : Type 0
AllHoldFronts = (nodes : ℕ) (events : List Event) (node block : ℕ) →
    IfSome ((run (start nodes) events).replicas node block).known.info
    (λ h. IsFront ((run (start nodes) events).replicas node block).bytes
    (written_under (run (start nodes) events) h.stamp.0))

-- Each packet that was ever sent on a connection of a setup is a piece of what was written in the session of that setup's stamp.
abbrev pub PacketsArePieces : Type 0
PacketsArePieces = (nodes : ℕ) (events : List Event) (c i : ℕ) (f : WriteFields) (p : Packet) →
    slice_get ((run (start nodes) events).downs c) 0 ≡ Some (request (op.Write f)) →
    slice_get ((run (start nodes) events).downs c) i ≡ Some (packet p) →
    IsPiece (written_under (run (start nodes) events) (new_stamp f).0) p

-- The length of a closed block lies within what was written in the session of its committed stamp.
abbrev pub LengthsAreWritten : Type 0
LengthsAreWritten = (nodes : ℕ) (events : List Event) (block : ℕ) (r : BlockRecord) →
    record_of (run (start nodes) events).office (record { 0 = block }) ≡ Some r → r.is_open ≡ false →
    r.length ≤ length (written_under (run (start nodes) events) r.committed.0)
