use Rattle.std.proofs.Common.{◌≡◌, ◌+◌, ◌*◌, ◌++◌, take, get_or, ap, sym, ◌∙◌, arith}
use Rattle.std.specs.Int.{w32, to_be_bytes}
use Rattle.std.proofs.lemmas.List.{append_assoc, append-nil}
use Rattle.chunk_sums.specs.Chunks.{flat_sums}
use Rattle.chunk_sums.proofs.ChunkLemmas.{flat_sums-more}
use Rattle.chunk_sums.proofs.chunks.put_all.Goals as goal

pub loop-i-init : goal.loop-i-init
unfolding flat_sums
loop-i-init c =
    let start : c.args.at + 0 ≡ c.args.at = omega arith in
    ap (λ n. take n c.args.into.now) start ∙ sym (append-nil (take c.args.at c.args.into.now))

pub loop-i-preserved : goal.loop-i-preserved
loop-i-preserved c =
    let at = c.args.at in
    let i = c.loop-i.i in
    let sums = c.args.sums.now in
    let next : at + 4 * (i + 1) ≡ at + 4 * i + 4 = omega arith in
    ap (λ n. take n c.put.new.into) next ∙ c.put.ensures
    ∙ ap (λ l. l ++ to_be_bytes w32 (get_or sums i 0)) c.loop-i.invariant
    ∙ append_assoc (take at c.args.into.now) (flat_sums (take i sums)) (to_be_bytes w32 (get_or sums i 0))
    ∙ ap (λ l. take at c.args.into.now ++ l) (sym (flat_sums-more sums i (omega arith)))
