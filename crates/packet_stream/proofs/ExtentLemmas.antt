-- Where packets begin and end, against where chunks do.
use Rattle.std.proofs.Common.{ℕ, ◌≡◌, ◌≤◌, ◌<◌, ◌+◌, ◌-◌, ◌*◌, ◌/◌, ◌%◌, ◌==◌, max, Bool, true, false, if◌then◌else◌, List, length, drop, refl, arith, length-drop}
use Rattle.std.proofs.Math.Nat.{div-add-mod, le-div_iff_mul-le, div-mul-le_self, mul-le-mul_left, mod-lt, mul_comm}
use Rattle.std.proofs.lemmas.Bool.Decides.{nat_tests}
use Rattle.hd_base.specs.SumRules.{IsChunkSize}
use Rattle.replica_core.specs.Extents.{chunk_start}
use Rattle.packet_stream.specs.Extents.{packet_limit, next_start, greatest_end}

pub div-mod-parts : (size n : ℕ) → n / size * size ≤ n - n % size
div-mod-parts size n = omega (arith, mul_comm size (n / size), div-add-mod n size)

-- of two bytes, the chunk of the later one doesn't begin earlier
pub chunk_start_rises : (size m n : ℕ) → 0 < size → m ≤ n → chunk_start size m ≤ chunk_start size n
chunk_start_rises size m n some h =
    let d : m / size ≤ n / size = (le-div_iff_mul-le some).1 (omega (arith, div-mul-le_self m size)) in
    let e : size * (m / size) ≤ size * (n / size) = mul-le-mul_left size d in
    omega (arith, e, div-add-mod m size, div-add-mod n size)

-- where a packet begins behind a sent end that isn't before the base
pub next_start_is : (size base sent : ℕ) → base ≤ sent → next_start size base sent ≡ max (chunk_start size sent) base
next_start_is size base sent h = grind (arith, nat_tests)

-- Behind a later end the next packet begins no earlier.
pub next_start_rises : (size base m n : ℕ) → 0 < size → base ≤ m → m ≤ n → next_start size base m ≤ next_start size base n
next_start_rises size base m n some b h =
    rw (next_start_is size base m b, next_start_is size base n (omega arith)) (omega (arith, chunk_start_rises size m n some h))

-- a packet's limit is a chunk at least
pub chunk_in_limit : (size : ℕ) → size ≤ packet_limit size
chunk_in_limit size = let e : size * 1 ≤ size * max (64512 / size) 1 = mul-le-mul_left size (omega arith) in omega (arith, e)

-- the chunk in which a packet begins may be filled
pub chunk_fits : (size start : ℕ) → chunk_start size start + size ≤ greatest_end size start
chunk_fits size start = grind (arith, nat_tests, chunk_in_limit size)

-- where a byte lies, its chunk begins at or before it, and ends behind it
pub within_chunk : (size n : ℕ) → 0 < size → n < chunk_start size n + size
within_chunk size n some = omega (arith, mod-lt n some)

-- a chunk begins where its chunk begins
pub chunk_start_same : (size n : ℕ) → 0 < size → chunk_start size n ≤ chunk_start size (chunk_start size n)
chunk_start_same size n some =
    let d : n / size ≤ (n - n % size) / size = (le-div_iff_mul-le some).1 (omega (arith, div-mod-parts size n)) in
    let e : size * (n / size) ≤ size * ((n - n % size) / size) = mul-le-mul_left size d in
    omega (arith, e, div-add-mod n size, div-add-mod (n - n % size) size)

-- The next packet may end past what is sent.
pub end_past_sent : (size base sent : ℕ) → 0 < size → base ≤ sent → sent < greatest_end size (next_start size base sent)
end_past_sent size base sent some b =
    let near : chunk_start size sent ≤ next_start size base sent = rw (next_start_is size base sent b) (omega arith) in
    let on : chunk_start size (chunk_start size sent) ≤ chunk_start size (next_start size base sent) = chunk_start_rises size _ _ some near in
    omega (arith, within_chunk size sent some, chunk_start_same size sent some, on, chunk_fits size (next_start size base sent))

-- What is kept of the bytes behind a packet are those from where the next one begins.
pub kept_behind : (tail : List ℕ) (a n : ℕ) → a ≤ n → n ≤ a + length tail → n + length (drop (n - a) tail) ≡ a + length tail
kept_behind tail a n h k = simp length-drop (omega arith)
