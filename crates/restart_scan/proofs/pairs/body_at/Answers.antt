-- What a name says of a data file.
use Rattle.std.proofs.Common.{rules, sym, subst}
use Rattle.restart_scan.specs.Pairs.{IsBodyAt, Finds}
use Rattle.restart_scan.proofs.PairLemmas.{no_body, body_read}
use Rattle.restart_scan.proofs.pairs.body_at.Goals as goal

pub returns-in_default : goal.returns-in_default
returns-in_default c = no_body c.args.block c.args.name.now c.in_default.field-0 (search rules) (record { only = c.in_default.ensures.only })

pub returns : goal.returns
returns c = subst (Finds (IsBodyAt c.args.block c.args.name.now)) (sym c.body_in.ensures)
    (body_read c.args.block c.args.name.now c.in-Ok.named (search rules) c.in-Ok.ensures.found (record { only = c.in-Ok.ensures.only }))
