-- All entries were renamed.
use Rattle.std.proofs.Common.{◌≡◌, length, map, arith, ap, ◌∙◌, append-nil}
use Rattle.mem_ports.specs.Entries.{renamed}
use Rattle.std.proofs.lemmas.Grind.{common_steps}
use Rattle.std.proofs.lemmas.List.{take_all, drop_all, take_at}
use Rattle.std.proofs.lemmas.List.Edits.{map_over_more}
use Rattle.mem_ports.proofs.entries.rename_entries.Goals as goal

pub loop-entry-preserved : goal.loop-entry-preserved
loop-entry-preserved c = grind (arith, common_steps, map_over_more (renamed c.args.from.now c.args.to.now))

pub returns : goal.returns
returns c =
    let all : c.loop-entry.entry-items ≡ map (renamed c.args.from.now c.args.to.now) c.args.entries.now.items = grind (arith, common_steps, take_all, drop_all, append-nil) in
    let whole : length c.loop-entry.entry-items ≡ c.args.entries.now.len = omega (arith, ap length all, c.args.entries.now.ok.0, c.loop-entry.auto.entry-items, c.deref_mut-entry-items.ensures.len) in
    take_at _ _ _ whole ∙ all
