-- Books that took the events of histories, and losses of power after them.
use Rattle.std.specs.Prelude.{ℕ, ◌≡◌, List, [], ◌∷◌, take}
use Rattle.hd_base.specs.FileMaps.{FileMap, part_of}
use Rattle.hd_base.specs.declared.files.Files as files
use Rattle.hd_base.specs.declared.numbers.BlockId.{BlockId}
use Rattle.replica_core.specs.declared.info.ReplicaInfo.{ReplicaInfo}
use Rattle.replica_model.specs.declared.events.ReplicaEvent.{ReplicaEvent}
use Rattle.replica_model.specs.Rows.{FullReplica, row}
use Rattle.replica_files.specs.declared.book_state.BookState.{BookState}
use Rattle.replica_files.specs.Books.{IsBookOf, replica_of}
use Rattle.restart_scan.specs.declared.found.Found.{Found}
use Rattle.restart_scan.specs.Laws.{HasNumbers}
use Rattle.restart_scan.specs.Shelves.{ScansShelf}
use Rattle.durable_replicas.specs.Steady.{IsSteady}
use Rattle.durable_replicas.specs.Scans.{ListsChunks}
use Rattle.durable_replicas.specs.Survival.{BookCall, PassesAll, book_after, events_noted, LosesPower}
use Rattle.world.specs.Parts.{Answered, by_hsync}
use Rattle.world.specs.Worlds.{start}
use Rattle.world.specs.Events.{run}
use Rattle.world.specs.Safe.{Has, Steady, written_under}
use Rattle.world.specs.declared.events.Event.{Event}
use Rattle.hd_base.specs.declared.numbers.NodeId.{NodeId}
use Rattle.world_syncs.specs.Histories.{History, no_events, history_in}

-- The block's and the stamps' numbers fit in the names of files after each of these events.
abbrev pub HaveNumbers : FullReplica → List ReplicaEvent → Type 0
HaveNumbers r [] = Unit {0}
HaveNumbers r (e ∷ es) = HasNumbers (row r e) × HaveNumbers (row r e) es

-- A book took the events of a history. Then the power was lost while it took some more, which leave at least n bytes;
-- and the shelf was scanned.
pub record LosesHistory {F : Type 0} (f : files.Ghosts F) (x : History) (n : ℕ) (shelf new : FileMap) (found : Found)
    : Type 0 where
  pub first : BookState F
  pub calls : List (BookCall F)
  pub more : List ReplicaEvent
  pub starts : replica_of first ≡ x.first
  pub passes : PassesAll f first calls
  pub noted : events_noted calls ≡ x.events
  pub left : IsBookOf f (book_after first calls)
  pub numbers : HaveNumbers x.first x.events
  pub steady : IsSteady n (replica_of (book_after first calls)) more
  pub loses : LosesPower f (book_after first calls) more (part_of first.block.0 shelf)
  pub scans : ScansShelf shelf new found

-- The scan lists the block's replica with at least the whole chunks among the first n of the bytes that were written.
pub record ListsSynced (block : BlockId) (n : ℕ) (written : List ℕ) (new : FileMap) (found : Found) : Type 0 where
  pub info : ReplicaInfo
  pub bytes : List ℕ
  pub same : take n bytes ≡ take n written
  pub lists : ListsChunks block info.sums n bytes new found

-- So it is of each member that an answer to an hsync names, where it is steady since the answer's stamp until the loss,
-- of what was written in the stamp's session.
abbrev pub AnswersSurvive : {F : Type 0} → files.Ghosts F → ℕ → List Event → Type 0
AnswersSurvive f nodes events = (a : Answered) (m : NodeId) (shelf new : FileMap) (found : Found) →
    Has (run (start nodes) events).answered a → a.command ≡ by_hsync → Has a.members m →
    Steady (run (start nodes) events) a.block a.stamp m.0 →
    (lost : LosesHistory f (history_in no_events (start nodes) events m.0 a.block) a.length shelf new found) →
    ListsSynced lost.first.block a.length (written_under (run (start nodes) events) a.stamp) new found
