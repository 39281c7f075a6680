-- Different members have told, and no more than there are.
use Rattle.std.proofs.Common.{◌≡◌, ◌≤◌, List, length, sym, ◌∙◌, subst, arith}
use Rattle.hd_base.specs.declared.pipeline.TheConstants.{MAX_MEMBERS}
use Rattle.name_core.specs.declared.infos.Info.{Info}
use Rattle.name_core.specs.Infos.{NodesDiffer}
use Rattle.recovery_core.specs.Primaries.{infos}
use Rattle.recovery_core.proofs.PrimaryLemmas.{infos_differ, infos_few}
use Rattle.recovery_core.proofs.primary.Primary.infos.Goals as goal

pub unwrap-requires : goal.unwrap-requires
unwrap-requires c =
    let members = c.as_slice-members.result.now in
    let standings = c.deref.result.now in
    let told : c.deref-2.result.now ≡ infos members standings = c.deref-2.ensures.value ∙ c.in_ok-told.ensures in
    let few : length (infos members standings) ≤ MAX_MEMBERS = omega (arith, infos_few members standings, c.as_slice-members.ensures.within_limit) in
    c.new.ensures.made.1 (
      subst (λ (xs : List Info). length xs ≤ MAX_MEMBERS) (sym told) few,
      subst NodesDiffer (sym told) (infos_differ members standings c.as_slice-members.ensures.distinct),
    )
