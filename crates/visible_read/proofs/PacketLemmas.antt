-- The packets of a read can be written, and one that isn't the last one is followed by another.
use Rattle.std.proofs.Common.{◌≡◌, ◌==◌, ◌*◌, ◌%◌, ◌≤◌, ℕ, zero, suc, Bool, false, if◌then◌else◌, List, [], ◌∷◌, length, map, drop, refl, ap, ◌∙◌, arith}
use Rattle.std.proofs.lemmas.List.{length-map}
use Rattle.hd_base.specs.declared.sum_rule.SumKind.{SumKind}
use Rattle.hd_base.specs.declared.sum_rule.SumKind.TheVariants as kind
use Rattle.hd_base.specs.SumRules.{IsChunkSize}
use Rattle.chunk_sums.specs.Crc.{sum_of}
use Rattle.chunk_sums.specs.Chunks.{cut, summed_chunks, sums_of}
use Rattle.chunk_sums.proofs.ChunkLemmas.{length-flat_sums}
use Rattle.packet_codec.specs.Packets.{IsEncodable}
use Rattle.read_core.specs.declared.serving.ServePhase.{ServePhase}
use Rattle.read_core.specs.declared.serving.ServePhase.TheVariants as phase
use Rattle.read_core.specs.Servings.{ServingState, piece_len, packet_of, gone_on, sent_in, sent}
use Rattle.visible_read.specs.Sound.{IsNext}

cut-few : (n first size : ℕ) (body : List ℕ) → length (cut n first size body) ≤ n
unfolding cut
cut-few zero first size body = omega arith
cut-few (suc n) first size [] = omega arith
cut-few (suc n) first size (b ∷ bs) = omega (arith, cut-few n size size (drop first (b ∷ bs)))

summed-few : (k : SumKind) (first size : ℕ) (body : List ℕ) → length (summed_chunks k first size body) ≤ length body
summed-few kind.Null first size body = omega arith
summed-few kind.Crc32 first size body = cut-few (length body) first size body
summed-few kind.Crc32c first size body = cut-few (length body) first size body

same-length : (k : SumKind) (first size : ℕ) (body : List ℕ) → length (sums_of k (summed_chunks k first size body)) ≡ 4 * length (summed_chunks k first size body)
same-length k first size body = length-flat_sums (map (sum_of k) (summed_chunks k first size body)) ∙ ap (λ (n : ℕ). 4 * n) (length-map (summed_chunks k first size body) (sum_of k))

-- a packet of at most 65,536 bytes can be written
pub packet-fits : (s : ServingState) (body : List ℕ) → length body ≤ 65536 → IsEncodable (packet_of s body)
unfolding packet_of
packet-fits s body h =
    let same : _ = same-length s.rule.kind s.rule.chunk s.rule.chunk body in
    record {
      whole = ap (λ (n : ℕ). n % 4) same ∙ omega arith;
      within = omega (arith, same, summed-few s.rule.kind s.rule.chunk s.rule.chunk body, h);
    }

-- behind a packet with bytes another one is next
gone-chunk : (p : ServePhase) (s : ServingState) → IsChunkSize s.rule.chunk → IsChunkSize (sent_in p s).rule.chunk
unfolding gone_on
gone-chunk phase.Sending s h = h
gone-chunk phase.Awaiting s h = h
gone-chunk phase.Over s h = h

gone-sends : (s : ServingState) → (piece_len s == 0) ≡ false → (gone_on s).phase ≡ phase.Sending
unfolding gone_on
gone-sends s more = ap (λ (b : Bool). if b then phase.Awaiting else phase.Sending) more

pub sent-next : (s : ServingState) → IsNext s → (piece_len s == 0) ≡ false → IsNext (sent s)
sent-next s h more = record {
  chunk = gone-chunk s.phase s h.chunk;
  sending = ap (λ (p : ServePhase). (sent_in p s).phase) h.sending ∙ gone-sends s more;
}

-- it is the last one exactly where it has none
pub is-last : (s : ServingState) (body : List ℕ) → (packet_of s body).last ≡ (piece_len s == 0)
unfolding packet_of
is-last s body = refl
