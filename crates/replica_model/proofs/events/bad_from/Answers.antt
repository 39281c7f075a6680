-- None is bad where sums are missing, and else the search finds the least.
use Rattle.std.proofs.Common.{◌≡◌, ℕ, ◌*◌, List, length, true, false, refl, sym, ap, ◌∙◌}
use Rattle.hd_base.specs.declared.sum_rule.SumKind.{SumKind}
use Rattle.chunk_sums.specs.Chunks.{summed_chunks}
use Rattle.replica_model.specs.Sums.{bad_from}
use Rattle.replica_model.proofs.BadLemmas.{bad_uncounted, bad_is}
use Rattle.replica_model.proofs.events.bad_from.Goals as goal

false_true : false ≡ true → ⊥
false_true e = cc

pub returns-then-not-has_all_sums : goal.returns-then-not-has_all_sums
returns-then-not-has_all_sums c =
    bad_uncounted c.args.rule c.args.first c.args.packet.now.body c.args.packet.now.sums (λ counted. false_true (c.if-not-has_all_sums.ensures.1 counted))

pub returns : goal.returns
returns c =
    let first = c.args.first in
    let chunk = c.from-chunk.ensures ∙ c.chunk.ensures.value in
    let number = λ (k : SumKind) (n : ℕ) (body : List ℕ). 4 * length (summed_chunks k first n body) in
    let same =
    ap (λ k. number k c.from-chunk.result c.deref.result.now) c.kind.ensures
    ∙ ap (λ n. number c.args.rule.kind n c.deref.result.now) chunk
    ∙ ap (number c.args.rule.kind c.args.rule.chunk) c.deref.ensures in
    let found =
    bad_is (record { kind = c.kind.result; chunk = c.from-chunk.result }) first c.deref.result.now c.deref-2.result.now c.first_bad.result
    (ap length c.deref-2.ensures ∙ c.if-not-has_all_sums.ensures.0 refl ∙ sym same)
    c.first_bad.ensures.found c.first_bad.ensures.wrong c.first_bad.ensures.least c.first_bad.ensures.none in
    found
    ∙ ap (λ k. bad_from (record { kind = k; chunk = c.from-chunk.result }) first c.deref.result.now c.deref-2.result.now) c.kind.ensures
    ∙ ap (λ n. bad_from (record { kind = c.args.rule.kind; chunk = n }) first c.deref.result.now c.deref-2.result.now) chunk
    ∙ ap (λ b. bad_from c.args.rule first b c.deref-2.result.now) c.deref.ensures
    ∙ ap (bad_from c.args.rule first c.args.packet.now.body) c.deref-2.ensures
