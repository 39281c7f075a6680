-- The sums of grown bytes.
use Rattle.std.specs.Prelude.{ℕ, ◌≡◌, ◌≤◌, ◌+◌, ◌%◌, ◌++◌, false, length}
use Rattle.std.proofs.Common.{arith, sym, ap, ◌∙◌}
use Rattle.replica_model.specs.Sums.{tail}
use Rattle.replica_model.specs.Plans.{has_sums}
use Rattle.replica_calls.proofs.GrowthLemmas.{null_sums, null_last, length_grown, last_of_grown}
use Rattle.replica_calls.proofs.growth.grown_sums.Goals as goal

pub returns-then-not-has_sums : goal.returns-then-not-has_sums
returns-then-not-has_sums c bytes growing =
    let r = c.args.rule in
    let none : false ≡ has_sums r.kind = c.if-not-has_sums.ensures ∙ ap has_sums c.kind.ensures in
    record {
      from_last = c.new.ensures.items ∙ sym (null_sums r (tail r bytes ++ c.args.more.now) none);
      last_now = null_last r 0 (bytes ++ c.args.more.now) none;
    }

pub returns : goal.returns
returns c bytes growing =
    let r = c.args.rule in
    let more = c.args.more.now in
    let some : 1 ≤ r.chunk = omega (arith, c.chunk.ensures.value, c.chunk.ensures.in_range.least) in
    let whole = c.in_ok-sums.ensures bytes growing in
    let chunk : c.from.result ≡ r.chunk = c.from.ensures ∙ c.chunk.ensures.value in
    let len : length (tail r bytes ++ more) ≡ c.args.written % c.from.result + length more =
    length_grown r bytes more ∙ ap (λ n. n % r.chunk + length more) growing.all ∙ ap (λ n. c.args.written % n + length more) (sym chunk) in
    record {
      from_last = whole;
      last_now = last_of_grown r bytes more c.last_sum_in-last.result some (c.last_sum_in-last.ensures (tail r bytes ++ more) len (c.deref.ensures.value ∙ whole));
    }
