use Rattle.std.proofs.Common.{ap, sym, ◌∙◌, ◌-◌}
use Rattle.chunk_sums.proofs.SlicingLemmas.{sum_of-append}
use Rattle.chunk_sums.proofs.extend.Goals as goal

pub returns-clause-whole : goal.returns-clause-whole
returns-clause-whole c = λ front small is_sum.
    ap (λ v. 4294967295 - v) c.register_after.ensures ∙ sym (sum_of-append c.args.kind front c.args.body.now c.args.sum small is_sum)
