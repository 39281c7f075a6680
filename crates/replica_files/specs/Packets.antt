-- Packets amid their calls on the files.
use Rattle.std.specs.Prelude.{ℕ, ◌≡◌, ◌+◌, ◌-◌, ◌<◌, ◌≤◌, ◌^◌, nat_abs, List, length, drop, Option, Some, None}
use Rattle.hd_base.specs.Bytes.{IsBytes}
use Rattle.hd_base.specs.declared.numbers.BlockId.{BlockId}
use Rattle.hd_base.specs.declared.numbers.ConnId.{ConnId}
use Rattle.hd_base.specs.declared.files.Files as files
use Rattle.packet_codec.specs.declared.packets.Packet.{Packet}
use Rattle.replica_core.specs.declared.info.ReplicaInfo.{ReplicaInfo}
use Rattle.replica_core.specs.declared.events.Answer.{Answer}
use Rattle.replica_model.specs.declared.events.ReplicaEvent.{ReplicaEvent}
use Rattle.replica_model.specs.declared.events.ReplicaEvent.TheVariants as replica_event
use Rattle.replica_model.specs.Sums.{sum_place}
use Rattle.replica_model.specs.Rows.{FullReplica, row, row_answer}
use Rattle.replica_calls.specs.CallLists.{names_of}
use Rattle.replica_calls.specs.LastSums.{IsGrowing}
use Rattle.replica_calls.specs.Performed.{Covers}
use Rattle.replica_files.specs.declared.book_state.BookState.{BookState}
use Rattle.replica_files.specs.declared.book_state.Prior.{Prior}
use Rattle.replica_files.specs.declared.growing.Growth.{Growth}
use Rattle.replica_files.specs.Books.{replica_of, IsHeld, Takes}
use Rattle.replica_files.specs.Carried.{AreSumsOf}

-- a packet's bytes past so many of the block
abbrev pub brought_by : ℕ → Packet → List ℕ
brought_by written p = drop (written - nat_abs p.offset) p.body

-- What was prepared of a packet: its bytes, their sums, and room for both, unless they pass every length.
pub record FitsGrowth {F : Type 0} (f : files.Ghosts F) (drawer : F) (block : BlockId) (sum : ℕ) (h : ReplicaInfo)
    (p : Packet) (g : Growth) : Type 0 where
  pub are_bytes : IsBytes p.body
  pub bytes : drop g.from p.body ≡ brought_by h.written p
  pub within : g.from ≤ length p.body
  pub room : h.written + length (brought_by h.written p) < 2 ^ 64
      → Covers (f.room drawer) (names_of block.0 h) (h.written + length (brought_by h.written p))
      (sum_place h.sums h.written + length g.sums.sums.items)
  pub sums_are : (bytes : List ℕ) → IsGrowing h.sums h.written sum bytes →
      AreSumsOf h.sums bytes (brought_by h.written p) g.sums

-- It was prepared.
abbrev pub IsReadyWith : {F : Type 0} → files.Ghosts F → F → BlockId → ℕ → ReplicaInfo → Packet → Option Growth → Type 0
IsReadyWith f drawer block sum h p None = ⊥
IsReadyWith f drawer block sum h p (Some g) = FitsGrowth f drawer block sum h p g

-- Where the replica is there, the packet was prepared.
abbrev pub IsReadyToGrow : {F : Type 0} → files.Ghosts F → BookState F → Option ReplicaInfo → Packet → Option Growth →
    Type 0
IsReadyToGrow f s info p growth = (h : ReplicaInfo) → info ≡ Some h →
    IsReadyWith f s.drawer s.block s.last_sum h p growth

-- A replica has taken a packet.
pub record IsAmidGrowing {F : Type 0} (f : files.Ghosts F) (drawer : F) (block : BlockId) (prior : Prior) (p : Packet)
    (growth : Option Growth) (sum : ℕ) : Type 0 where
  pub r : FullReplica
  pub conn : ConnId
  pub held : IsHeld f drawer block sum r
  pub takes : Takes r (replica_event.Packet conn p)
  pub before_is : prior.info ≡ r.known.info
  pub ready : (h : ReplicaInfo) → prior.info ≡ Some h → IsReadyWith f drawer block sum h p growth

-- The replica of a book has taken a packet, and no call on the files is made yet.
pub record IsAmidPacket {F : Type 0} (f : files.Ghosts F) (s : BookState F) (e : ReplicaEvent) (prior : Prior)
    (answer : Answer) (p : Packet) (growth : Option Growth) : Type 0 where
  pub conn : ConnId
  pub is : e ≡ replica_event.Packet conn p
  pub takes : Takes (replica_of s) e
  pub answered : answer ≡ row_answer (replica_of s) e
  pub known : s.replica ≡ (row (replica_of s) e).known
  pub before_is : prior.info ≡ (replica_of s).known.info
  pub held : IsHeld f s.drawer s.block s.last_sum (replica_of s)
  pub ready : IsReadyToGrow f s prior.info p growth
