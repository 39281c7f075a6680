-- What a name says of a metadata file.
use Rattle.std.proofs.Common.{rules, sym, subst}
use Rattle.restart_scan.specs.Pairs.{IsSumsAt, Finds}
use Rattle.restart_scan.proofs.PairLemmas.{no_sums, sums_read}
use Rattle.restart_scan.proofs.pairs.sums_at.Goals as goal

pub returns-in_default : goal.returns-in_default
returns-in_default c = no_sums c.args.block c.args.name.now c.in_default.field-0 (search rules) (record { only = c.in_default.ensures.only })

pub returns : goal.returns
returns c = subst (Finds (IsSumsAt c.args.block c.args.name.now)) (sym c.sums_in.ensures.value)
    (sums_read c.args.block c.args.name.now c.in-Ok.named (search rules) (rw c.sums_in.ensures.value at c.sums_in.ensures.fits) c.in-Ok.ensures.found (record { only = c.in-Ok.ensures.only }))
