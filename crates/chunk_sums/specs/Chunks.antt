-- A body cut into chunks, and the flat list of their sums.
use Rattle.std.specs.Prelude.{ℕ, zero, suc, ◌≡◌, ◌+◌, ◌-◌, ◌*◌, List, [], ◌∷◌, ◌++◌, length, map, take, drop, slice_index_or}
use Rattle.std.specs.Int.{w32, to_be_bytes, from_be_bytes, div_ceil}
use Rattle.hd_base.specs.declared.sum_rule.SumKind.{SumKind}
use Rattle.hd_base.specs.declared.sum_rule.SumKind.TheVariants as kind
use Rattle.hd_base.specs.SumRules.{Rule}
use Rattle.chunk_sums.specs.Crc.{sum_of}

-- at most n chunks of a body, the first of `first` bytes and the others of `size`; the last may be
-- shorter
unfoldable pub cut : ℕ → ℕ → ℕ → List ℕ → List (List ℕ)
cut zero first size body = []
cut (suc n) first size [] = []
cut (suc n) first size (b ∷ bs) = take first (b ∷ bs) ∷ cut n size size (drop first (b ∷ bs))

-- all chunks of a body: as each has a byte or more, there are no more of them than bytes
abbrev pub chunks : ℕ → ℕ → List ℕ → List (List ℕ)
chunks first size body = cut (length body) first size body

-- those of some chunks that have sums: none under Null, and else all
abbrev pub with_sums : SumKind → List (List ℕ) → List (List ℕ)
with_sums kind.Null cs = []
with_sums kind.Crc32 cs = cs
with_sums kind.Crc32c cs = cs

-- the chunks of a body that have sums
abbrev pub summed_chunks : SumKind → ℕ → ℕ → List ℕ → List (List ℕ)
summed_chunks k first size body = with_sums k (chunks first size body)

-- some sums in order, each as four bytes big-endian
unfoldable pub flat_sums : List ℕ → List ℕ
flat_sums [] = []
flat_sums (n ∷ ns) = to_be_bytes w32 n ++ flat_sums ns

-- the sums of some chunks in order, each as four bytes big-endian
abbrev pub sums_of : SumKind → List (List ℕ) → List ℕ
sums_of k cs = flat_sums (map (sum_of k) cs)

-- the sums of a block under its rule
abbrev pub sums : Rule → List ℕ → List ℕ
sums r body = sums_of r.kind (summed_chunks r.kind r.chunk r.chunk body)

-- the sum of chunk i is the one that stands for it in a list of sums, four bytes big-endian each
unfoldable pub IsRight : SumKind → List (List ℕ) → List ℕ → ℕ → Type 0
IsRight k cs sums i = sum_of k (slice_index_or cs i []) ≡ from_be_bytes w32 (take 4 (drop (4 * i) sums))

-- the first four chunks of so many bytes of a body that has as many
abbrev pub four_chunks : ℕ → List ℕ → List (List ℕ)
four_chunks size body =
    take size body ∷ take size (drop size body) ∷ take size (drop (2 * size) body)
    ∷ take size (drop (3 * size) body) ∷ []

-- how many chunks a body of so many bytes has
abbrev pub count_of : ℕ → ℕ → ℕ → ℕ
count_of zero first size = 0
count_of (suc n) first size = 1 + div_ceil (suc n - first) size

-- how many sums a body of so many bytes has
abbrev pub sum_count : SumKind → ℕ → ℕ → ℕ → ℕ
sum_count kind.Null n first size = 0
sum_count kind.Crc32 n first size = count_of n first size
sum_count kind.Crc32c n first size = count_of n first size

-- the bytes of chunk i, by where it stands
abbrev pub chunk_at : ℕ → ℕ → List ℕ → ℕ → List ℕ
chunk_at first size body zero = take first body
chunk_at first size body (suc i) = take size (drop (first + size * i) body)
