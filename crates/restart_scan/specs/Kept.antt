-- The bytes of a data file that a scan keeps: the chunks up to the first whose sum isn't the one that is stored for it.
use Rattle.std.specs.Prelude.{ℕ, ◌≡◌, ◌+◌, ◌*◌, ◌<◌, ◌≤◌, min, Bool, true, false, List, ◌++◌, length, take, drop, Option, IfSome, IsSome}
use Rattle.std.specs.Int.{w32, to_be_bytes}
use Rattle.hd_base.specs.SumRules.{Rule}
use Rattle.hd_base.specs.FileMaps.{FileMap, HasFile}
use Rattle.chunk_sums.specs.Crc.{sum_of}
use Rattle.meta_file.specs.Headers.{header_of}
use Rattle.replica_model.specs.Plans.{has_sums}
use Rattle.replica_calls.specs.declared.names.FileNames.{FileNames}
use Rattle.restart_scan.specs.declared.pieces.Reached.{Reached}

-- the bytes of a chunk, by its number from 0
abbrev pub chunk_of : Rule → List ℕ → ℕ → List ℕ
chunk_of r bytes i = take r.chunk (drop (r.chunk * i) bytes)

-- the four bytes that are stored for a chunk
abbrev pub stored_sum : List ℕ → ℕ → List ℕ
stored_sum stored i = take 4 (drop (4 * i) stored)

-- A chunk is considered: it has a byte, and its sum is stored whole.
pub record IsConsidered (r : Rule) (bytes stored : List ℕ) (i : ℕ) : Type 0 where
  pub has_byte : r.chunk * i < length bytes
  pub has_sum : 4 * i + 4 ≤ length stored

-- What is stored for it is its sum, four bytes big-endian.
abbrev pub Matches : Rule → List ℕ → List ℕ → ℕ → Type 0
Matches r bytes stored i = stored_sum stored i ≡ to_be_bytes w32 (sum_of r.kind (chunk_of r bytes i))

-- So many chunks are considered, and match.
pub record AreMatching (r : Rule) (bytes stored : List ℕ) (n : ℕ) : Type 0 where
  pub considered : (i : ℕ) → i < n → IsConsidered r bytes stored i
  pub match_all : (i : ℕ) → i < n → Matches r bytes stored i

-- So many chunks are kept: they match, and the next one, if it is considered, doesn't.
pub record AreKept (r : Rule) (bytes stored : List ℕ) (n : ℕ) : Type 0 where
  pub matching : AreMatching r bytes stored n
  pub ends : IsConsidered r bytes stored n → Matches r bytes stored n → ⊥

-- So many bytes are those of chunks that match.
abbrev pub IsMatchingTo : Rule → List ℕ → List ℕ → ℕ → Type 0
IsMatchingTo r bytes stored len = (n : ℕ) × AreMatching r bytes stored n × (len ≡ min (r.chunk * n) (length bytes))

-- So many bytes are those of the chunks that are kept.
abbrev pub IsKeptTo : Rule → List ℕ → List ℕ → ℕ → Type 0
IsKeptTo r bytes stored len = (n : ℕ) × AreKept r bytes stored n × (len ≡ min (r.chunk * n) (length bytes))

-- the same by whether chunks have sums: without, all bytes are kept
abbrev pub IsKeptBy : Bool → Rule → List ℕ → List ℕ → ℕ → Type 0
IsKeptBy true r bytes stored len = IsKeptTo r bytes stored len
IsKeptBy false r bytes stored len = len ≡ length bytes

-- so many bytes are kept
abbrev pub IsKept : Rule → List ℕ → List ℕ → ℕ → Type 0
IsKept r bytes stored len = IsKeptBy (has_sums r.kind) r bytes stored len

-- Where observable, the files have these bytes, so many, and behind the header these are stored.
pub record AreStored (files : Option FileMap) (names : FileNames) (r : Rule) (len : ℕ) (bytes stored : List ℕ) : Type 0
  where
    pub is_data : HasFile files names.«data» bytes
    pub is_meta : HasFile files names.meta (header_of r ++ stored)
    pub all : length bytes ≡ len

-- so many bytes match so far, or are kept
abbrev pub IsReached : Bool → Rule → List ℕ → List ℕ → ℕ → Type 0
IsReached true r bytes stored len = IsMatchingTo r bytes stored len
IsReached false r bytes stored len = IsKeptTo r bytes stored len

-- A piece more was looked at: where all of it matches, it goes on.
pub record ReachesOn (files : Option FileMap) (names : FileNames) (r : Rule) (len old : ℕ) (new : Reached) : Type 0 where
  pub within : new.len ≤ len
  pub goes_on : new.goes_on ≡ true → old < new.len
  pub value : (bytes stored : List ℕ) → AreStored files names r len bytes stored →
      IfSome files (λ _. IsMatchingTo r bytes stored old → IsReached new.goes_on r bytes stored new.len)

-- Where files are observable, so many bytes are kept.
pub record KeepsLen (files : Option FileMap) (names : FileNames) (r : Rule) (len kept : ℕ) : Type 0 where
  pub within : kept ≤ len
  pub value : (bytes stored : List ℕ) → AreStored files names r len bytes stored →
      IfSome files (λ _. IsKept r bytes stored kept)

-- Where observable, both files are there.
abbrev pub AreThere : Option FileMap → FileNames → Type 0
AreThere files names = IfSome files (λ m. IsSome (m names.«data») × IsSome (m names.meta))

-- buffers for the same number of chunks, one at least, and of their sums
pub record HaveRoom (r : Rule) (body sums : List ℕ) : Type 0 where
  pub chunks : ℕ
  pub some : 1 ≤ chunks
  pub chunk_some : 1 ≤ r.chunk
  pub of_data : length body ≡ r.chunk * chunks
  pub of_sums : length sums ≡ 4 * chunks
