-- The lengths and the header are as they are written.
use Rattle.std.proofs.Common.{◌≡◌, ◌+◌, ℕ, List, ◌++◌, length, drop, sym, ap, ◌∙◌, arith}
use Rattle.std.proofs.lemmas.Bool.Decides.{Decides-eqb}
use Rattle.std.proofs.lemmas.Slice.Eq.{starts_is}
use Rattle.packet_codec.specs.Headers.{header_text}
use Rattle.packet_codec.specs.Packets.{header_for}
use Rattle.block_receiver.proofs.SpellingLemmas.{body_within, lengths_first, written_by}
use Rattle.block_receiver.proofs.spellings.is_written.Goals as goal

pub header_text-requires : goal.header_text-requires
header_text-requires c = body_within c.args.packet.now c.args.text.now c.requires

pub split_at-requires : goal.split_at-requires
split_at-requires c = lengths_first _ _ _ c.if-text-header.false

pub returns : goal.returns
returns c = λ yes.
    let w : List ℕ = header_text (header_for c.args.packet.now) in
    let behind : List ℕ = c.split_at.result.1.now in
    let header : c.as_slice-header.result.now ≡ w = c.as_slice-header.ensures.value ∙ c.in_ok-written.ensures in
    let front : behind ≡ c.as_slice-header.result.now ++ drop (length c.as_slice-header.result.now) behind = (starts_is Decides-eqb behind c.as_slice-header.result.now c.starts_with.result c.starts_with.ensures.value).0 yes in
    let size : length c.args.text.now ≡ 6 + length w + (length c.args.packet.now.sums + length c.args.packet.now.body) =
    c.if-text-header.false ∙ sizes _ _ _ _ _ _ (ap length header) c.len.ensures.value c.len-2.ensures.value in
    written_by c.args.packet.now c.args.text.now (drop (length c.as_slice-header.result.now) behind) c.requires size
    (sym c.split_at.ensures.back ∙ (front ∙ ap (λ l. l ++ drop (length c.as_slice-header.result.now) behind) header))
  where
    sizes : (a b d e f g : ℕ) → a ≡ b → d ≡ e → f ≡ g → 6 + a + (d + f) ≡ 6 + b + (e + g)
    sizes a b d e f g one two three = omega arith
