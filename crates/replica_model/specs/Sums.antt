-- The sums of a block's bytes: of a packet that brings some of them, and where those of a chunk stand in the metadata file.
use Rattle.std.specs.Prelude.{ℕ, suc, ◌==◌, ◌+◌, ◌-◌, ◌*◌, ◌/◌, ◌%◌, if◌then◌else◌, List, [], ◌∷◌, ◌++◌, length, take, drop, Option, Some, None, option_map}
use Rattle.std.specs.Int.{w32, from_be_bytes}
use Rattle.hd_base.specs.declared.sum_rule.SumKind.{SumKind}
use Rattle.hd_base.specs.SumRules.{Rule}
use Rattle.chunk_sums.specs.Crc.{sum_of}
use Rattle.chunk_sums.specs.Chunks.{summed_chunks, sum_count, sums}
use Rattle.meta_file.specs.Headers.{header_of}

-- how many bytes the chunk that begins here, or a part of it, may have up to the next chunk
abbrev pub first_len : Rule → ℕ → ℕ
first_len r offset = r.chunk - offset % r.chunk

-- the least of some chunks whose sum isn't the one that stands for it, four bytes big-endian each
unfoldable pub first_wrong : SumKind → List (List ℕ) → List ℕ → Option ℕ
first_wrong kind [] stored = None
first_wrong kind (c ∷ cs) stored =
    if sum_of kind c == from_be_bytes w32 (take 4 stored) then option_map suc (first_wrong kind cs (drop 4 stored))
    else Some 0

-- The least chunk, counting from 0, of a body whose first chunk has so many bytes, whose sum differs. Where there aren't as many sums as chunks, none is looked at.
unfoldable pub bad_from : Rule → ℕ → List ℕ → List ℕ → Option ℕ
bad_from r first body stored =
    if length stored == 4 * length (summed_chunks r.kind first r.chunk body)
    then first_wrong r.kind (summed_chunks r.kind first r.chunk body) stored
    else None

-- the same of a packet's body from this offset on
abbrev pub bad_chunk : Rule → ℕ → List ℕ → List ℕ → Option ℕ
bad_chunk r offset body stored = bad_from r (first_len r offset) body stored

-- the bytes of the last chunk, where it is short
abbrev pub tail : Rule → List ℕ → List ℕ
tail r bytes = drop (r.chunk * (length bytes / r.chunk)) bytes

-- how many bytes the header of a metadata file has
abbrev pub header_len : ℕ
header_len = 7

-- where in the metadata file the sum of the chunk stands in which this byte lies
abbrev pub sum_place : Rule → ℕ → ℕ
sum_place r offset = header_len + 4 * (offset / r.chunk)

-- the length of the metadata file of so many bytes
abbrev pub meta_len : Rule → ℕ → ℕ
meta_len r n = header_len + 4 * sum_count r.kind n r.chunk r.chunk

-- the metadata file of some bytes
abbrev pub meta_of : Rule → List ℕ → List ℕ
meta_of r bytes = header_of r ++ sums r bytes
