-- What a node's books are after a restart.
use Rattle.std.specs.Prelude.{◌≡◌, ℕ, Bool, true, false, List, slice_get, Option, Some, None, IfSome, IsSome}
use Rattle.hd_base.specs.FileMaps.{no_files}
use Rattle.hd_base.specs.declared.files.Files as files
use Rattle.hd_base.specs.declared.numbers.BlockId.{BlockId}
use Rattle.hd_base.specs.declared.shelves.Shelf as shelves
use Rattle.replica_core.specs.declared.info.ReplicaInfo.{ReplicaInfo}
use Rattle.replica_files.specs.Books.{replica_of}
use Rattle.replica_files.specs.Breaks.{HoldsWhole}
use Rattle.replica_files.specs.declared.book_state.BookState.{BookState}
use Rattle.replica_model.specs.Found.{Found, found_whole}
use Rattle.restart_scan.specs.Laws.{FindsBlock}
use Rattle.restart_scan.specs.Pairs.{Pair, IsPair}
use Rattle.restart_scan.specs.Restarts.{FindsAllowed}
use Rattle.node_opening.specs.World.Parts.{Break}
use Rattle.node_opening.specs.World.Restarts.{may_find, replica_found, restarted}
use Rattle.node_opening.specs.Closing.{block_of, blocks_of, AreLentOut}
use Rattle.node_opening.specs.Shelves.{is_among, LendsNoMore}
use Rattle.node_restarts.specs.Seeking.{is_sought}

-- BEFORE A RESTART

-- The files of an absent replica's block have no pair, in which a restart would find one.
abbrev pub HasNoPair : {D : Type 0} → files.Ghosts D → BookState D → Option ReplicaInfo → Type 0
HasNoPair d x None = IfSome (d.files x.drawer) (λ m. (p : Pair) → IsPair (block_of x) m p → ⊥)
HasNoPair d x (Some h) = Unit {0}

-- A book whose replica isn't broken, and whose files have no pair where it is absent.
pub record IsUnbroken {D : Type 0} (d : files.Ghosts D) (x : BookState D) : Type 0 where
  pub whole : (replica_of x).known.is_broken ≡ false
  pub no_pair : HasNoPair d x (replica_of x).known.info

-- A book that broke in this event, whose files are such as the restart rule allows after it (restart_rule).
pub record BrokeIn {D : Type 0} (d : files.Ghosts D) (x : BookState D) (broke : Break) : Type 0 where
  pub before : BookState D
  pub of_block : before.block ≡ block_of x
  pub was : replica_of before ≡ broke.before
  pub leaves : IfSome (d.files x.drawer) (FindsAllowed before broke.event)

-- A book that isn't broken, or that broke in an event.
abbrev pub StandsAs : {D : Type 0} → files.Ghosts D → BookState D → Option Break → Type 0
StandsAs d x None = IsUnbroken d x
StandsAs d x (Some broke) = BrokeIn d x broke

-- The shelf and the drawers of these books tell their files, and the shelf has none beside theirs.
pub record TellAll {S D : Type 0} (s : shelves.Ghosts S D) (d : files.Ghosts D) (shelf : S)
    (books : List (BookState D)) : Type 0 where
  pub empty : s.files shelf ≡ Some no_files
  pub each : (place : ℕ) (x : BookState D) → slice_get books place ≡ Some x → IsSome (d.files x.drawer)

-- AFTER IT

-- A book after a restart, by that of its block before it: the replica is what is found of the old one's files. Of one
-- that isn't broken just what it held is found, of one whose files hold it though it broke what it held too, and of any
-- other that broke in an event what the world's model says of it.
pub record IsRestarted {D : Type 0} (d : files.Ghosts D) (old new : BookState D) : Type 0 where
  pub found : Option Found
  pub finds : IfSome (d.files old.drawer) (λ m. FindsBlock (block_of old) m found)
  pub is : replica_of new ≡ replica_found (block_of old).0 found
  pub whole : IsUnbroken d old → found ≡ found_whole (replica_of old).known.info (replica_of old).bytes
  pub spared : IsSome (replica_of old).known.info → HoldsWhole (d.files old.drawer) (replica_of old) →
      found ≡ found_whole (replica_of old).known.info (replica_of old).bytes
  pub allowed : (broke : Option Break) → StandsAs d old broke → may_find (replica_of old) broke found ≡ true
  pub in_world : (broke : Option Break) → StandsAs d old broke →
      replica_of new ≡ restarted (block_of old).0 (replica_of old) broke found
  pub unbroken : IsUnbroken d new

-- The same by whether the restart looks for the replica: one that was absent, and isn't broken, is absent again.
abbrev pub StandsAgain : {D : Type 0} → files.Ghosts D → Bool → BookState D → BookState D → Type 0
StandsAgain d true old new = IsRestarted d old new
StandsAgain d false old new = replica_of new ≡ replica_found (block_of old).0 None

-- A node has restarted: it has a book for each block, at its place, whose files the shelf has lent again. Where all
-- files were told, and the shelf had none beside those of the books, each is that of what was found of its block, and
-- all files are told again.
pub record HasRestarted {S D : Type 0} (s : shelves.Ghosts S D) (d : files.Ghosts D) (blocks : List BlockId)
    (books : List (BookState D)) (old new : S) (made : List (BookState D)) : Type 0 where
  pub blocks_are : blocks_of made ≡ blocks
  pub lent : AreLentOut s new blocks
  pub no_more : LendsNoMore s old new
  pub each : TellAll s d old books → (place : ℕ) (x y : BookState D) → slice_get books place ≡ Some x →
      slice_get made place ≡ Some y → StandsAgain d (is_sought x) x y
  pub told : TellAll s d old books → TellAll s d new made

-- None of these blocks is lent, and no other that wasn't.
pub record AreGivenUp {S D : Type 0} (s : shelves.Ghosts S D) (blocks : List BlockId) (old new : S) : Type 0 where
  pub none : (b : ℕ) → is_among blocks b ≡ true → s.lent new b ≡ false
  pub no_more : LendsNoMore s old new
