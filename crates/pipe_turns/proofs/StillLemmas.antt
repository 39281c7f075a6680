-- Where memory runs out, nothing is done.
use Rattle.std.proofs.Common.{◌≡◌, ◌≤◌, ℕ, List, Option, Some, None, IfSome, refl, arith}
use Rattle.hd_base.specs.declared.ends.Conn.{Conn}
use Rattle.hd_base.specs.declared.files.Files as files
use Rattle.hd_base.specs.declared.links.LinkOut as link_out
use Rattle.block_receiver.specs.LinkPieces.Pieces.{SendsNothing}
use Rattle.block_receiver.specs.PacketCodec.Packet.{Packet}
use Rattle.block_receiver.specs.ReplicaModel.ReplicaEvent.{ReplicaEvent}
use Rattle.block_receiver.specs.ReplicaModel.ReplicaEvent.TheVariants as replica_event
use Rattle.block_receiver.specs.ReplicaFiles.BookState.{BookState}
use Rattle.block_receiver.specs.ReplicaFiles.Endings.{EndsUnmade}
use Rattle.block_receiver.specs.declared.packets.Taken.TheVariants as taken
use Rattle.packet_responder.specs.declared.sendings.Sending.TheVariants as sending
use Rattle.pipe_turns.specs.Turning.{Performs, PassesEnd, SendsText, SendsAlone}
use Rattle.pipe_turns.specs.declared.turning.Done.TheVariants as done

whatever : {A : Type 0} (P : Type 0) (x : Option A) → P → IfSome x (λ _. P)
whatever P None h = tt
whatever P (Some x) h = h

same_number : (n : ℕ) → n ≤ n
same_number n = omega arith

module _ {O : Type 0} (o : link_out.Ghosts O) where
  pub still : (half : O) → SendsNothing o half half
  still half = record {
    sent = refl;
    lost = refl;
    kept = record { flushed = refl; shut = refl; never_falls = same_number (o.faults half) };
    schedule = record { same = refl; still = whatever (o.faults half ≡ o.faults half) (o.schedule half) refl };
  }

  tells_nothing : (text : Option (List ℕ)) (up : O) → SendsText o text sending.Memory up up
  tells_nothing None up = (tt, refl)
  tells_nothing (Some text) up = still up

  pub sends_nothing : (text : Option (List ℕ)) (up : O) → SendsAlone o text done.Memory up up
  sends_nothing None up = still up
  sends_nothing (Some text) up = still up

module _ {F : Type 0} (f : files.Ghosts F) where
  pub unmade : (book : BookState F) → EndsUnmade f book book
  unmade book = record { block = refl; replica = refl; history = record { start = refl; entries = refl }; same = record { files = refl; log = refl } }

module _ {I O : Type 0} (o : link_out.Ghosts O) where
  passes_nothing : (p : Packet) (below : Option (Conn I O)) → PassesEnd o p taken.Memory below below
  passes_nothing p None = tt
  passes_nothing p (Some end) = (refl, refl, refl, still o end.outward)

module _ {F I O : Type 0} (f : files.Ghosts F) (o : link_out.Ghosts O) where
  pub does_nothing : (call : Option ReplicaEvent) (text : Option (List ℕ)) (book : BookState F) (up : O) (below : Option (Conn I O)) → Performs f o call text book book up up below below done.Memory
  does_nothing None text book up below = record { sends = sends_nothing o text up; book_same = refl; below_same = refl }
  does_nothing (Some (replica_event.Packet conn p)) text book up below =
      record { taken = taken.Memory; is = refl; booked = unmade f book; up_same = refl; passes = passes_nothing o p below }
  does_nothing (Some (replica_event.Other e)) text book up below =
      record { sending = sending.Memory; is = refl; booked = unmade f book; sends = tells_nothing o text up; below_same = refl }
