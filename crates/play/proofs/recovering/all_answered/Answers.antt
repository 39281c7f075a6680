-- As many answers as there are members.
use Rattle.std.proofs.Common.{true, length, sym, ap, ◌∙◌}
use Rattle.std.proofs.lemmas.Simd.{splat_is_map}
use Rattle.play.proofs.recovering.all_answered.Goals as goal

pub returns : goal.returns
returns c =
    c.from_vec.ensures ∙
    (c.in_ok-answers.ensures.items_if_clones_equal (λ y e. e) ∙
    splat_is_map c.args.members.now (length c.as_slice.result.now) true (sym (ap length c.as_slice.ensures.value)))
