-- The calls on the files that an event takes, while its replica has met it and its entry isn't there yet.
use Rattle.std.specs.Prelude.{ℕ, ◌≡◌, ◌+◌, ◌<◌, ◌≤◌, ◌^◌, Bool, List, [], ◌++◌, length, take, Option, IfSome, IfOk, OnOk, OnErr, Result}
use Rattle.hd_base.specs.Faults.{HasCause}
use Rattle.hd_base.specs.FileMaps.{FileMap, OnlyOf, AreNamesOf}
use Rattle.hd_base.specs.Calls.{Call, MakesCalls, StopsWithin}
use Rattle.hd_base.specs.declared.numbers.BlockId.{BlockId}
use Rattle.hd_base.specs.declared.files.Files as files
use Rattle.hd_base.specs.declared.files.FileError.{FileError}
use Rattle.hd_base.specs.SumRules.{Rule, IsChunkSize}
use Rattle.block_files.specs.Placements.{Nowhere, files_of}
use Rattle.block_files.specs.BlockCalls.{calls_of}
use Rattle.replica_core.specs.declared.info.ReplicaInfo.{ReplicaInfo}
use Rattle.replica_core.specs.declared.events.Event.{Event}
use Rattle.replica_model.specs.declared.events.ReplicaEvent.{ReplicaEvent}
use Rattle.replica_model.specs.declared.events.ReplicaEvent.TheVariants as replica_event
use Rattle.replica_model.specs.Sums.{header_len, sum_place, tail}
use Rattle.replica_model.specs.Rows.{FullReplica, row}
use Rattle.replica_model.specs.Plans.{placed_info, when, sync_calls, settle_calls, leaves_temporary, create_calls, packet_calls}
use Rattle.replica_calls.specs.declared.growth.GrownSums.{GrownSums}
use Rattle.replica_calls.specs.CallLists.{names_of, remove_list}
use Rattle.replica_calls.specs.Performed.{Covers}
use Rattle.chunk_sums.specs.Chunks.{sums}
use Rattle.replica_calls.specs.LastSums.{IsLastSum}
use Rattle.replica_files.specs.declared.book_state.Prior.{Prior}
use Rattle.replica_files.specs.Events.{IsSettling, IsCutting}
use Rattle.replica_files.specs.Books.{HasLastSum, IsHeld, Takes, MakesEvent, StopsEvent}

-- The calls of an event were made, and this is the sum of the last chunk then, or one of the calls failed; all files are still of the block.
pub record CarriesOut {F : Type 0} (f : files.Ghosts F) (old new : F) (block : BlockId) (r : FullReplica)
    (e : ReplicaEvent) (result : Result ℕ FileError) : Type 0 where
  pub made : OnOk result (MakesEvent f old new r e)
  pub stopped : OnErr result (StopsEvent f old new r e)
  pub cause : HasCause (f.faults old) (f.faults new) result
  pub only : OnlyOf block.0 (f.files new)
  pub last : IfOk result (λ sum. IfSome (f.files new) (λ _. HasLastSum sum (row r e)))

-- The files hold this of the block, with these bytes, where they are observable, and the sum is that of the last chunk.
pub record Holding (files : Option FileMap) (block : BlockId) (h : ReplicaInfo) (sum : ℕ) (bytes : List ℕ) : Type 0
  where
    pub all : length bytes ≡ h.written
    pub placed : IfSome files (λ m. m ≡ files_of block.0 (placed_info h bytes))
    pub last : IfSome files (λ _. IsLastSum h.sums sum bytes)

-- There is room for the sum of a last chunk that a cut makes short, and for its bytes in a buffer of this length.
pub record HasRoomToCut (room : List ℕ → ℕ) (block : BlockId) (h : ReplicaInfo) (buffer : ℕ) : Type 0 where
  pub sums : sum_place h.sums h.written + 4 < room (names_of block.0 h).meta
  pub bytes : h.sums.chunk ≤ buffer

-- Where an event may cut bytes off, there is room for that.
abbrev pub HasRoomFor : (List ℕ → ℕ) → BlockId → Event → Option ReplicaInfo → ℕ → Type 0
HasRoomFor room block e info buffer = IsCutting e → IfSome info (λ h. HasRoomToCut room block h buffer)

-- What is held is to become what is held next: no longer, and with room where it is shorter.
pub record IsToSettle {F : Type 0} (f : files.Ghosts F) (drawer : F) (block : BlockId) (h k : ReplicaInfo)
    (sum buffer : ℕ) : Type 0 where
  pub bytes : List ℕ
  pub holding : Holding (f.files drawer) block h sum bytes
  pub size : IsChunkSize h.sums.chunk
  pub within : k.written ≤ h.written
  pub room : k.written < h.written → HasRoomToCut (f.room drawer) block h buffer

-- the calls that settle it
abbrev pub settled_calls : BlockId → ReplicaInfo → ReplicaInfo → List ℕ → List Call
settled_calls block h k bytes =
    calls_of block.0 (when (leaves_temporary h k) sync_calls ++ settle_calls h k bytes) (placed_info h bytes)

-- The calls were made, and this is the sum of the last chunk then, or one of them failed.
pub record Settles {F : Type 0} (f : files.Ghosts F) (old new : F) (block : BlockId) (h k : ReplicaInfo)
    (bytes : List ℕ) (result : Result ℕ FileError) : Type 0 where
  pub made : OnOk result (MakesCalls (f.files old) (f.files new) (f.log old) (f.log new)
      (settled_calls block h k bytes))
  pub stopped : OnErr result (StopsWithin (f.files old) (f.files new) (f.log old) (f.log new)
      (settled_calls block h k bytes))
  pub cause : HasCause (f.faults old) (f.faults new) result
  pub only : OnlyOf block.0 (f.files old) → OnlyOf block.0 (f.files new)
  pub last : IfOk result (λ sum. IfSome (f.files old) (λ _. IsLastSum h.sums sum (take k.written bytes)))

-- A replica has taken an event that settles what it held.
pub record IsAmidSettling {F : Type 0} (f : files.Ghosts F) (drawer : F) (block : BlockId) (prior : Prior)
    (next : Option ReplicaInfo) (sum buffer : ℕ) : Type 0 where
  pub r : FullReplica
  pub e : Event
  pub held : IsHeld f drawer block sum r
  pub settling : IsSettling e
  pub takes : Takes r (replica_event.Other e)
  pub broken_is : prior.is_broken ≡ r.known.is_broken
  pub before_is : prior.info ≡ r.known.info
  pub next_is : next ≡ (row r (replica_event.Other e)).known.info
  pub room : HasRoomFor (f.room drawer) block e prior.info buffer

-- ---- new replicas

-- What is to be held can be made: these are the names of all files that are there, and there is room for the new ones.
pub record IsToMake {F : Type 0} (f : files.Ghosts F) (drawer : F) (block : BlockId) (k : ReplicaInfo)
    (strays : List (List ℕ)) : Type 0 where
  pub strays_are : IfSome (f.files drawer) (λ m. AreNamesOf m strays)
  pub room : Covers (f.room drawer) (names_of block.0 k) 0 header_len
  pub size : IsChunkSize k.sums.chunk

-- the calls that make it
abbrev pub made_calls : BlockId → ReplicaInfo → List (List ℕ) → List Call
made_calls block k strays = remove_list strays ++ calls_of block.0 (create_calls k) Nowhere

-- The calls were made, or one of them failed.
pub record Makes {F : Type 0} (f : files.Ghosts F) (old new : F) (block : BlockId) (k : ReplicaInfo)
    (strays : List (List ℕ)) (result : Result ℕ FileError) : Type 0 where
  pub made : OnOk result (MakesCalls (f.files old) (f.files new) (f.log old) (f.log new) (made_calls block k strays))
  pub stopped : OnErr result (StopsWithin (f.files old) (f.files new) (f.log old) (f.log new)
      (made_calls block k strays))
  pub cause : HasCause (f.faults old) (f.faults new) result
  pub only : OnlyOf block.0 (f.files old) → OnlyOf block.0 (f.files new)
  pub last : IfOk result (λ sum. IsLastSum k.sums sum [])

-- ---- packets

-- The sums where these bytes come behind those: from the chunk on that was the last, where there are any, and of the last chunk then.
pub record AreSumsOf (r : Rule) (bytes more : List ℕ) (grown : GrownSums) : Type 0 where
  pub from_last : 0 < length more → grown.sums.items ≡ sums r (tail r bytes ++ more)
  pub last_now : IsLastSum r grown.last (bytes ++ more)

-- The files hold this of the block, with these bytes, where they are observable, and these are the sums where more come behind them.
pub record HoldsGrowing (files : Option FileMap) (block : BlockId) (h : ReplicaInfo) (bytes more : List ℕ)
    (grown : GrownSums) : Type 0 where
  pub all : length bytes ≡ h.written
  pub placed : IfSome files (λ m. m ≡ files_of block.0 (placed_info h bytes))
  pub sums_are : IfSome files (λ _. AreSumsOf h.sums bytes more grown)

-- What is held can grow by these bytes: there is room for them and for their sums.
pub record IsToGrow {F : Type 0} (f : files.Ghosts F) (drawer : F) (block : BlockId) (h : ReplicaInfo) (more : List ℕ)
    (grown : GrownSums) : Type 0 where
  pub bytes : List ℕ
  pub holds : HoldsGrowing (f.files drawer) block h bytes more grown
  pub size : IsChunkSize h.sums.chunk
  pub room : h.written < 2 ^ 64 →
      Covers (f.room drawer) (names_of block.0 h) (h.written + length more)
      (sum_place h.sums h.written + length grown.sums.items)

-- the calls by which it grows
abbrev pub grown_calls : BlockId → ReplicaInfo → List ℕ → List ℕ → Bool → List Call
grown_calls block h bytes more sync = calls_of block.0 (packet_calls h.sums bytes more sync) (placed_info h bytes)

-- The calls were made, or one of them failed.
pub record GrowsFiles {F : Type 0} (f : files.Ghosts F) (old new : F) (block : BlockId) (h : ReplicaInfo)
    (bytes more : List ℕ) (sync : Bool) (result : Result ℕ FileError) : Type 0 where
  pub made : OnOk result (MakesCalls (f.files old) (f.files new) (f.log old) (f.log new)
      (grown_calls block h bytes more sync))
  pub stopped : OnErr result (StopsWithin (f.files old) (f.files new) (f.log old) (f.log new)
      (grown_calls block h bytes more sync))
  pub cause : HasCause (f.faults old) (f.faults new) result
  pub only : OnlyOf block.0 (f.files old) → OnlyOf block.0 (f.files new)
  pub last : IfOk result (λ sum. IfSome (f.files old) (λ _. IsLastSum h.sums sum (bytes ++ more)))
