-- What was played is summed up.
use Rattle.std.proofs.Common.{length, inl, inr, refl}
use Rattle.dn_run.proofs.StormLaws.{unrefused}
use Rattle.dn_run.proofs.storming.run_storm.Goals as goal

pub returns-in-Ok-clause-storms : goal.returns-in-Ok-clause-storms
returns-in-Ok-clause-storms g c = inl (record { summary = c.in-Ok.summary; stormed = c.in-Ok.ensures.stormed; written = c.write_summary.ensures })

pub returns-in-Ok-clause-refused : goal.returns-in-Ok-clause-refused
returns-in-Ok-clause-refused g c =
    unrefused g.S.ToldShelf.told (length c.args.shelves.now.items) c.args.number c.write_summary.result c.in-Ok.ensures.playable

pub returns-in-Err-clause-storms : goal.returns-in-Err-clause-storms
returns-in-Err-clause-storms g c = inr (refl, c.in-Err.ensures.cause)
