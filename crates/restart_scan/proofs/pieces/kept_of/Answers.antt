-- A piece is kept up to the first chunk whose sum is wrong.
use Rattle.std.proofs.Common.{arith, rules}
use Rattle.restart_scan.proofs.KeptLemmas.{IsCut, is_cut, cut_fits, cut_bad, cut_all}
use Rattle.restart_scan.proofs.pieces.kept_of.Goals as goal

pub first_bad-requires-clause-four_per_chunk : goal.first_bad-requires-clause-four_per_chunk
first_bad-requires-clause-four_per_chunk c =
    let cut : IsCut c.args.rule c.args.body.now c.args.stored.now c.min-count.result c.len_of-considered.result =
    is_cut c.args.rule c.kind.result c.from-chunk.result c.args.body.now c.args.stored.now c.piece_count-chunks.result c.min-count.result c.len_of-considered.result
    c.requires.has (omega (arith, c.chunk.ensures.in_range.least, c.chunk.ensures.value)) (search rules) (search rules) (search rules) (search rules) (search rules) (search rules) in
    rw (c.kind-2.ensures, c.from-chunk.ensures, c.chunk.ensures.value) (cut_fits c.args.rule c.args.body.now c.args.stored.now c.min-count.result c.len_of-considered.result cut)

pub returns-in-Some : goal.returns-in-Some
returns-in-Some c =
    let cut : IsCut c.args.rule c.args.body.now c.args.stored.now c.min-count.result c.len_of-considered.result =
    is_cut c.args.rule c.kind.result c.from-chunk.result c.args.body.now c.args.stored.now c.piece_count-chunks.result c.min-count.result c.len_of-considered.result
    c.requires.has (omega (arith, c.chunk.ensures.in_range.least, c.chunk.ensures.value)) (search rules) (search rules) (search rules) (search rules) (search rules) (search rules) in
    let e = c.in-Some.ensures in
    cut_bad c.args.rule c.args.body.now c.args.stored.now c.min-count.result c.len_of-considered.result c.in-Some.bad c.len_of.result cut
    (rw (c.kind-2.ensures, c.from-chunk.ensures, c.chunk.ensures.value) at e.found) (rw (c.kind-2.ensures, c.from-chunk.ensures, c.chunk.ensures.value) at e.wrong) (rw (c.kind-2.ensures, c.from-chunk.ensures, c.chunk.ensures.value) at e.least) c.len_of.ensures

pub returns-in-None : goal.returns-in-None
returns-in-None c =
    let cut : IsCut c.args.rule c.args.body.now c.args.stored.now c.min-count.result c.len_of-considered.result =
    is_cut c.args.rule c.kind.result c.from-chunk.result c.args.body.now c.args.stored.now c.piece_count-chunks.result c.min-count.result c.len_of-considered.result
    c.requires.has (omega (arith, c.chunk.ensures.in_range.least, c.chunk.ensures.value)) (search rules) (search rules) (search rules) (search rules) (search rules) (search rules) in
    let e = c.in-None.ensures in
    cut_all c.args.rule c.args.body.now c.args.stored.now c.min-count.result c.len_of-considered.result cut (rw (c.kind-2.ensures, c.from-chunk.ensures, c.chunk.ensures.value) at e.none)
