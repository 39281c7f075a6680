-- Packets with sync that a book takes.
use Rattle.std.specs.Prelude.{◌≡◌, true, IfSome, Ok}
use Rattle.hd_base.specs.declared.files.Files as files
use Rattle.hd_base.specs.declared.numbers.ConnId.{ConnId}
use Rattle.hd_base.specs.declared.numbers.Receipt.{Receipt}
use Rattle.packet_codec.specs.declared.packets.Packet.{Packet}
use Rattle.replica_model.specs.declared.events.ReplicaEvent.TheVariants as replica_event
use Rattle.replica_model.specs.Rows.{row}
use Rattle.replica_files.specs.declared.book_state.BookState.{BookState}
use Rattle.replica_files.specs.Books.{IsBookOf, replica_of}
use Rattle.replica_files.specs.Endings.{BookEnds}
use Rattle.durable_replicas.specs.Steady.{EndsSynced}

-- A packet with sync that a book took leaves a log that ends with the syncs of the replica's files, where it is observable.
abbrev pub PacketsEndSynced : {F : Type 0} → files.Ghosts F → Type 0
PacketsEndSynced {F} f = (old new : BookState F) (conn : ConnId) (p : Packet) (receipt : Receipt) → IsBookOf f old →
    p.sync ≡ true → BookEnds f old new (replica_event.Packet conn p) (Ok receipt) →
    IfSome (f.log new.drawer) (EndsSynced (row (replica_of old) (replica_event.Packet conn p)))
