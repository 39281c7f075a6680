-- The packets that a stream forms are taken where the stream has come to: they have the sums that their bytes have.
use Rattle.std.proofs.Common.{◌≡◌, ℕ, zero, suc, ◌<◌, ◌≤◌, ◌+◌, ◌-◌, ◌*◌, ◌/◌, ◌%◌, ◌^◌, Bool, true, false, List, [], length, map, Option, Some, None, Ok, refl, sym, ◌∙◌, ap, arith, ◌⊎◌, inl, inr}
use Rattle.std.specs.Prelude.{pos, negsuc, ◌+ℤ◌, ◌==◌, ◌||◌, nat_le, int_lt, int_le, if◌then◌else◌, Result}
use Rattle.std.specs.Int.{div_ceil}
use Rattle.std.specs.Ordering.{int_eq}
use Rattle.std.proofs.Math.Nat.{zero-div, zero-mod, div-eq_of_lt, mod-eq_of_lt, add-div_right, add-mod_right}
use Rattle.std.proofs.lemmas.Bool.{cases_lt}
use Rattle.std.proofs.lemmas.Bool.Decides.{nat_tests, Decides-int_eq}
use Rattle.std.proofs.lemmas.List.{length-map}
use Rattle.hd_base.specs.declared.sum_rule.SumKind.{SumKind}
use Rattle.hd_base.specs.declared.sum_rule.SumKind.TheVariants as kind
use Rattle.hd_base.specs.SumRules.{Rule}
use Rattle.hd_base.specs.Results.{◌>>=◌}
use Rattle.chunk_sums.specs.Crc.{sum_of}
use Rattle.chunk_sums.specs.Chunks.{cut, with_sums, summed_chunks, sums_of, count_of, sum_count as counted}
use Rattle.chunk_sums.proofs.ChunkLemmas.{length-flat_sums, length-summed_chunks, IsRight-sums_of}
use Rattle.packet_codec.specs.declared.packets.Packet.{Packet}
use Rattle.replica_core.specs.declared.ack_queue.PendingPacket.{PendingPacket}
use Rattle.replica_core.specs.declared.extents.PacketExtent.{PacketExtent}
use Rattle.replica_core.specs.declared.refusals.Refusal.{Refusal}
use Rattle.replica_core.specs.Extents.{sums_under, follows, is_number, chunk_start, chunk_count, sum_count, start_of, place_check, packet_at, pending_of}
use Rattle.replica_model.specs.Sums.{bad_from, first_wrong}
use Rattle.replica_model.proofs.BadLemmas.{all_right}
use Rattle.packet_stream.specs.declared.extents.TheConstants.{BLOCK_LIMIT}
use Rattle.packet_stream.specs.Extents.{chunk_rest}
use Rattle.packet_stream.specs.Streams.{data_packet, empty_packet}
use Rattle.packet_stream.proofs.ExtentLemmas.{within_chunk}
use Rattle.world_laws.proofs.FactTables.{if-each}
use Rattle.play_completeness.specs.Streams.{as_pending, extent_of, number_before}
use Rattle.play_completeness.proofs.Next.{lt-so}

-- NUMBERS

one-more : (k : ℕ) → k + 1 ≡ suc k
one-more k = omega arith

-- a packet's number is the next one
pub next-number : (n : ℕ) → n < 2 ^ 63 → follows (number_before n) (pos n) ≡ true
next-number zero lt = refl
next-number (suc k) lt =
    let less : int_lt (pos k) (pos (2 ^ 63 - 1)) ≡ true = lt-so k (2 ^ 63 - 1) (omega arith) in
    ap (λ (q : Bool). is_number (if q then Some (pos k +ℤ pos 1) else None) (pos (suc k))) less
    ∙ (Decides-int_eq (pos k +ℤ pos 1) (pos (suc k))).1 (ap pos (one-more k))

pub number-more : (n : ℕ) → number_before (n + 1) ≡ Some (pos n)
number-more n = ap number_before (one-more n)

pub number-real : (n : ℕ) → int_eq (pos n) (negsuc 0) ≡ false
number-real n = go (int_eq (pos n) (negsuc 0)) refl
  where
    other : pos n ≡ negsuc 0 → ⊥
    other e = cc

    go : (q : Bool) → int_eq (pos n) (negsuc 0) ≡ q → int_eq (pos n) (negsuc 0) ≡ false
    go false e = e
    go true e = absurd (other ((Decides-int_eq (pos n) (negsuc 0)).0 e))

-- WHERE A PACKET LIES

not-below : (n : ℕ) → int_le (pos 0) (pos n) ≡ true
not-below n = grind (arith, nat_tests)

le-so : (a b : ℕ) → a ≤ b → nat_le a b ≡ true
le-so a b le = grind (arith, nat_tests, le)

eq-so : (a b : ℕ) → a ≡ b → (a == b) ≡ true
eq-so a b e = grind (arith, nat_tests, e)

start-is : (e : PacketExtent) (n : ℕ) → e.offset ≡ pos n → n + e.length ≤ BLOCK_LIMIT → start_of e ≡ Ok n
unfolding start_of
start-is e n at fits = rw (at, not-below n, le-so (n + e.length) BLOCK_LIMIT fits) refl

place-is : (e : PacketExtent) (written offset : ℕ) → e.last ≡ false → offset ≤ written → place_check e written offset ≡ Ok tt
unfolding place_check
place-is e written offset last le = rw (le-so offset written le, last) refl

last-place-is : (e : PacketExtent) (written : ℕ) → e.last ≡ true → e.length ≡ 0 → place_check e written written ≡ Ok tt
unfolding place_check
last-place-is e written last none = rw (le-so written written (omega arith), last, none, eq-so written written refl) refl

-- as many sums as its chunks have, none of which differs
packet-is : (r : Rule) (e : PacketExtent) (offset : ℕ) → (offset % r.chunk == 0 || nat_le (offset + e.length) (chunk_start r.chunk offset + r.chunk)) ≡ true → e.sums ≡ sum_count r offset e.length → e.bad ≡ None
    → packet_at r e offset ≡ Ok (record { seqno = e.seqno; end = offset + e.length; last = e.last; sync = e.sync })
unfolding packet_at
packet-is r e offset within sums bad = rw (within, eq-so e.sums (sum_count r offset e.length) sums, bad) refl

pending-is : (r : Rule) (e : PacketExtent) (written offset : ℕ) (q : PendingPacket) → start_of e ≡ Ok offset → place_check e written offset ≡ Ok tt → packet_at r e offset ≡ Ok q → pending_of r e written ≡ Ok q
pending-is r e written offset q a b c =
    ap (λ (s : Result ℕ Refusal). s >>= (λ o. place_check e written o >>= (λ _. packet_at r e o))) a
    ∙ (ap (λ (s : Result (Unit {0}) Refusal). s >>= (λ _. packet_at r e offset)) b ∙ c)

-- SUMS

-- no chunk differs from the sums of all
no-bad : (r : Rule) (first : ℕ) (body : List ℕ) → bad_from r first body (sums_of r.kind (summed_chunks r.kind first r.chunk body)) ≡ None
unfolding bad_from
no-bad r first body =
    let cs : List (List ℕ) = summed_chunks r.kind first r.chunk body in
    if-each (λ (o : Option ℕ). o ≡ None) (length (sums_of r.kind cs) == 4 * length cs) (first_wrong r.kind cs (sums_of r.kind cs)) None
    (λ _. all_right r.kind cs (sums_of r.kind cs) (λ j lt. IsRight-sums_of r.kind cs j lt)) (λ _. refl)

-- the chunks of some bytes that begin where a chunk does
whole-chunks : (n c : ℕ) → 1 ≤ c → (1 + div_ceil (n - c) c ≡ div_ceil n c) ⊎ (n ≡ 0)
whole-chunks n c some = go (cases_lt n c)
  where
    go : (n < c) ⊎ (c ≤ n) → (1 + div_ceil (n - c) c ≡ div_ceil n c) ⊎ (n ≡ 0)
    go (inl small) = none (cases_lt 0 n)
      where
        none : (0 < n) ⊎ (n ≤ 0) → (1 + div_ceil (n - c) c ≡ div_ceil n c) ⊎ (n ≡ 0)
        none (inr low) = inr (omega arith)
        none (inl lt) =
            let m : n - c ≡ 0 = omega arith in
            let q : n / c ≡ 0 = div-eq_of_lt small in
            let r : n % c ≡ n = mod-eq_of_lt small in
            let s : 0 / c ≡ 0 = zero-div c in
            let u : 0 % c ≡ 0 = zero-mod c in
            let here : div_ceil n c ≡ 1 = omega (arith, q, r) in
            let rest : 1 + div_ceil 0 c ≡ 1 = omega (arith, s, u) in
            inl (ap (λ (k : ℕ). 1 + div_ceil k c) m ∙ (rest ∙ sym here))
    go (inr large) =
        let whole : n - c + c ≡ n = omega arith in
        let q : (n - c + c) / c ≡ (n - c) / c + 1 = add-div_right (n - c) some in
        let r : (n - c + c) % c ≡ (n - c) % c = add-mod_right (n - c) c in
        let more : div_ceil (n - c + c) c ≡ 1 + div_ceil (n - c) c = omega (arith, q, r) in
        inl (sym more ∙ ap (λ (k : ℕ). div_ceil k c) whole)

-- Bytes that begin where a chunk does, or end within the chunk that they begin amid, have as many chunks as they are cut into.
chunks-are : (n c offset : ℕ) → 1 ≤ c → ((offset % c == 0) ≡ false → n ≤ chunk_rest c offset) → count_of n (chunk_rest c offset) c ≡ chunk_count c offset n
chunks-are zero c offset some amid = refl
chunks-are (suc m) c offset some amid = go (offset % c == 0) refl
  where
    there : (suc m == 0) ≡ false
    there = grind (arith, nat_tests)

    go : (q : Bool) → (offset % c == 0) ≡ q → count_of (suc m) (chunk_rest c offset) c ≡ chunk_count c offset (suc m)
    go false e =
        let none : suc m - chunk_rest c offset ≡ 0 = omega (arith, amid e) in
        let s : 0 / c ≡ 0 = zero-div c in
        let u : 0 % c ≡ 0 = zero-mod c in
        let rest : 1 + div_ceil 0 c ≡ 1 = omega (arith, s, u) in
        ap (λ (k : ℕ). 1 + div_ceil k c) none ∙ (rest ∙ sym (rw (there, e) refl))
    go true e =
        let z : offset % c ≡ 0 = grind (arith, nat_tests, e) in
        let first : chunk_rest c offset ≡ c = omega (arith, z) in
        ap (λ (k : ℕ). 1 + div_ceil (suc m - k) c) first ∙ (all (whole-chunks (suc m) c some) ∙ sym (rw (there, e) refl))
      where
        all : (1 + div_ceil (suc m - c) c ≡ div_ceil (suc m) c) ⊎ (suc m ≡ 0) → 1 + div_ceil (suc m - c) c ≡ div_ceil (suc m) c
        all (inl q) = q
        all (inr q) = absurd (omega (arith, q))

-- under each kind of sums
sums-are : (k : SumKind) (n first c m : ℕ) → count_of n first c ≡ m → counted k n first c ≡ sums_under k m
sums-are kind.Null n first c m e = refl
sums-are kind.Crc32 n first c m e = e
sums-are kind.Crc32c n first c m e = e

fours : (n : ℕ) → 4 * n / 4 ≡ n
fours n = omega arith

-- A packet with bytes is taken where no more is written than it reaches back to.
pub data-taken : (r : Rule) (start seqno written : ℕ) (sync : Bool) (body : List ℕ) → 1 ≤ r.chunk → start ≤ written → start + length body ≤ BLOCK_LIMIT → ((start % r.chunk == 0) ≡ false → start + length body ≤ chunk_start r.chunk start + r.chunk)
    → pending_of r (extent_of r (data_packet r start seqno sync body)) written ≡ Ok (as_pending (data_packet r start seqno sync body))
data-taken r start seqno written sync body some low fits amid =
    let p : Packet = data_packet r start seqno sync body in
    let e : PacketExtent = extent_of r p in
    let cs : List (List ℕ) = summed_chunks r.kind (chunk_rest r.chunk start) r.chunk body in
    let first : 1 ≤ chunk_rest r.chunk start = rest-some r.chunk start some in
    let long : length p.sums ≡ 4 * length cs = length-flat_sums (map (sum_of r.kind) cs) ∙ ap (λ (k : ℕ). 4 * k) (length-map cs (sum_of r.kind)) in
    let count : length cs ≡ sum_count r start (length body) =
    length-summed_chunks r.kind (chunk_rest r.chunk start) r.chunk body first some
    ∙ sums-are r.kind (length body) (chunk_rest r.chunk start) r.chunk (chunk_count r.chunk start (length body)) (chunks-are (length body) r.chunk start some (λ q. within r.chunk start (length body) some (amid q))) in
    let sums : length p.sums / 4 ≡ sum_count r start (length body) = ap (λ (k : ℕ). k / 4) long ∙ (fours (length cs) ∙ count) in
    pending-is r e written start (as_pending p) (start-is e start refl fits) (place-is e written start refl low)
    (packet-is r e start (aligned (start % r.chunk == 0) refl) sums (no-bad r (chunk_rest r.chunk start) body))
  where
    rest-some : (c n : ℕ) → 1 ≤ c → 1 ≤ chunk_rest c n
    rest-some c n some =
        let in_chunk : n < chunk_start c n + c = within_chunk c n (omega arith) in
        omega (arith, in_chunk)

    within : (c n k : ℕ) → 1 ≤ c → n + k ≤ chunk_start c n + c → k ≤ chunk_rest c n
    within c n k some le = omega (arith, le)

    aligned : (q : Bool) → (start % r.chunk == 0) ≡ q → (start % r.chunk == 0 || nat_le (start + length body) (chunk_start r.chunk start + r.chunk)) ≡ true
    aligned true e = ap (λ (z : Bool). z || nat_le (start + length body) (chunk_start r.chunk start + r.chunk)) e
    aligned false e = ap (λ (z : Bool). z || nat_le (start + length body) (chunk_start r.chunk start + r.chunk)) e ∙ le-so (start + length body) (chunk_start r.chunk start + r.chunk) (amid e)

-- A packet without bytes is taken behind all that is written, or no later.
empty-sums : (r : Rule) (offset : ℕ) → 0 ≡ sum_count r offset 0
empty-sums r offset = go r.kind
  where
    go : (k : SumKind) → 0 ≡ sums_under k (chunk_count r.chunk offset 0)
    go kind.Null = refl
    go kind.Crc32 = refl
    go kind.Crc32c = refl

empty-good : (r : Rule) (first : ℕ) → bad_from r first [] [] ≡ None
unfolding bad_from cut first_wrong
empty-good r first = go r.kind
  where
    go : (k : SumKind) → (if 0 == 4 * length (with_sums k []) then first_wrong k (with_sums k []) [] else None) ≡ None
    go kind.Null = refl
    go kind.Crc32 = refl
    go kind.Crc32c = refl

empty-within : (c n : ℕ) → 1 ≤ c → (n % c == 0 || nat_le (n + 0) (chunk_start c n + c)) ≡ true
empty-within c n some = go (n % c == 0)
  where
    low : nat_le (n + 0) (chunk_start c n + c) ≡ true
    low =
        let in_chunk : n < chunk_start c n + c = within_chunk c n (omega arith) in
        le-so (n + 0) (chunk_start c n + c) (omega (arith, in_chunk))

    go : (q : Bool) → (q || nat_le (n + 0) (chunk_start c n + c)) ≡ true
    go true = refl
    go false = low

pub empty-taken : (r : Rule) (at seqno written : ℕ) (sync : Bool) → 1 ≤ r.chunk → at ≤ written → at ≤ BLOCK_LIMIT → pending_of r (extent_of r (empty_packet at seqno false sync)) written ≡ Ok (as_pending (empty_packet at seqno false sync))
empty-taken r at seqno written sync some low fits =
    let p : Packet = empty_packet at seqno false sync in
    let e : PacketExtent = extent_of r p in
    pending-is r e written at (as_pending p) (start-is e at refl (omega (arith, fits))) (place-is e written at refl low) (packet-is r e at (empty-within r.chunk at some) (empty-sums r at) (empty-good r (chunk_rest r.chunk at)))

pub last-taken : (r : Rule) (at seqno : ℕ) (sync : Bool) → 1 ≤ r.chunk → at ≤ BLOCK_LIMIT → pending_of r (extent_of r (empty_packet at seqno true sync)) at ≡ Ok (as_pending (empty_packet at seqno true sync))
last-taken r at seqno sync some fits =
    let p : Packet = empty_packet at seqno true sync in
    let e : PacketExtent = extent_of r p in
    pending-is r e at at (as_pending p) (start-is e at refl (omega (arith, fits))) (last-place-is e at refl refl) (packet-is r e at (empty-within r.chunk at some) (empty-sums r at) (empty-good r (chunk_rest r.chunk at)))
