-- Different members were updated, and no more than there are.
use Rattle.std.proofs.Common.{◌≡◌, ◌≤◌, List, length, sym, ◌∙◌, subst, arith}
use Rattle.hd_base.specs.declared.numbers.NodeId.{NodeId}
use Rattle.hd_base.specs.declared.pipeline.TheConstants.{MAX_MEMBERS}
use Rattle.hd_base.specs.Lists.{AllDistinct}
use Rattle.recovery_core.specs.Primaries.{updated_members}
use Rattle.recovery_core.proofs.PrimaryLemmas.{updated_distinct, updated_few}
use Rattle.recovery_core.proofs.primary.Primary.updated_members.Goals as goal

pub unwrap-requires : goal.unwrap-requires
unwrap-requires c =
    let members = c.as_slice-members.result.now in
    let standings = c.deref.result.now in
    let updated : c.deref-2.result.now ≡ updated_members members standings = c.deref-2.ensures.value ∙ c.in_ok-updated.ensures in
    let few : length (updated_members members standings) ≤ MAX_MEMBERS = omega (arith, updated_few members standings, c.as_slice-members.ensures.within_limit) in
    c.new.ensures.made.1 (
      subst (λ (xs : List NodeId). length xs ≤ MAX_MEMBERS) (sym updated) few,
      subst (λ (xs : List NodeId). AllDistinct xs) (sym updated) (updated_distinct members standings c.as_slice-members.ensures.distinct),
    )
