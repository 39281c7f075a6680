-- There is a place for each member, and no connection.
use Rattle.std.proofs.Common.{length, All, ap, sym, subst, ◌∙◌}
use Rattle.block_recovery.specs.Dialling.{LinkIsKnown}
use Rattle.block_recovery.proofs.DrivingLaws.{none_known, none_count}
use Rattle.block_recovery.proofs.primary.Primary.new.Goals as goal

pub returns-clause-count : goal.returns-clause-count
returns-clause-count g c =
    ap length c.in_ok-no_links.ensures ∙ (none_count g.row.I.Denot g.row.O.Denot c.as_slice.result.now ∙ ap length (c.as_slice.ensures.value ∙ sym c.duplicate.ensures))

pub returns-clause-known : goal.returns-clause-known
returns-clause-known g c = λ plain. subst (All (LinkIsKnown plain)) (sym c.in_ok-no_links.ensures) (none_known plain c.as_slice.result.now)
