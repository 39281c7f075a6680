-- What calls an event of a member made on the files of its replica, and whether the replica grew.
use Rattle.std.specs.Prelude.{◌≡◌, ◌||◌, ℕ, nat_lt, length, Bool, true, false, List, [], ◌∷◌, option_map}
use Rattle.hd_base.specs.Calls.{Call, Write, logged}
use Rattle.hd_base.specs.declared.files.Files as files
use Rattle.refusing_files.specs.Refusals.{has_data_write}
use Rattle.pipe_member.specs.ReplicaFiles.BookState.{BookState}
use Rattle.pipe_member.specs.ReplicaFiles.Books.{replica_of}
use Rattle.world_texts.specs.World.Worlds.{World}
use Rattle.world_writes.specs.Writes.{grows}

-- the call writes a byte
abbrev pub writes_byte : Call → Bool
writes_byte (Write name place bytes) = nat_lt 0 (length bytes)
writes_byte other = false

-- one of the calls does
abbrev pub has_bytes : List Call → Bool
has_bytes [] = false
has_bytes (call ∷ calls) = writes_byte call || has_bytes calls

-- so many bytes are written of a book's replica
abbrev pub written_of : {F : Type 0} → BookState F → ℕ
written_of book = length (replica_of book).bytes

-- The replica grows just where it has more bytes afterwards, and then a byte was written.
pub record TellsGrowth {F : Type 0} (f : files.Ghosts F) (w : World) (c : ℕ) (book book' : BookState F) : Type 0 where
  pub calls : List Call
  pub log : f.log book'.drawer ≡ option_map (logged calls) (f.log book.drawer)
  pub writes : grows w c ≡ true → has_bytes calls ≡ true
  pub is_grown : grows w c ≡ nat_lt (written_of book) (written_of book')

-- A write on the data file was begun only where the replica grows.
pub record TellsBreak {F : Type 0} (f : files.Ghosts F) (w : World) (c : ℕ) (book book' : BookState F) : Type 0 where
  pub calls : List Call
  pub log : f.log book'.drawer ≡ option_map (logged calls) (f.log book.drawer)
  pub grown : has_data_write calls ≡ true → grows w c ≡ true
