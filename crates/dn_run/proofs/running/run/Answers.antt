-- What the words ask for is run.
use Rattle.std.proofs.Common.{◌≡◌, map, Result, Ok, inl, refl, sym, ap, subst, ◌∙◌}
use Rattle.std.specs.String.{string_bytes}
use Rattle.std.specs.Global.{Global}
use Rattle.run_words.specs.declared.faults.UsageRule.{UsageRule}
use Rattle.dn_run.specs.Calling.{Runs}
use Rattle.dn_run.specs.Tasks.{task_of, UsageFor}
use Rattle.dn_run.specs.declared.tasks.Task.{Task}
use Rattle.dn_run.specs.declared.tasks.Task.TheVariants as task
use Rattle.dn_run.proofs.CallLaws.{unread_usage, unread_runs, script_usage}
use Rattle.dn_run.proofs.StormLaws.{storm_usage}
use Rattle.dn_run.proofs.running.run.Goals as goal

pub returns-in-Ok-Play-clause-usage : goal.returns-in-Ok-Play-clause-usage
returns-in-Ok-Play-clause-usage g c =
    let asked : task_of (map (string_bytes {Z = Global}) c.args.words.now) ≡ Ok task.Play = c.in-Ok-Play.ensures ∙ ap Ok c.in-Ok-Play.field-0-is in
    subst (λ (a : Result Task UsageRule). UsageFor a c.run_script.result) (sym asked)
    (script_usage g.I.Source g.O.Sink g.S.Shelf g.R.Roads c.args.script.now c.run_script.new.script c.args.report.now c.run_script.new.report c.args.shelves.now.items c.run_script.new.shelves.items c.args.roads.now c.run_script.new.roads g.S.ToldShelf.told c.run_script.result task.Play c.run_script.ensures.cause)

pub returns-in-Ok-Play-clause-runs : goal.returns-in-Ok-Play-clause-runs
returns-in-Ok-Play-clause-runs g c =
    let asked : task_of (map (string_bytes {Z = Global}) c.args.words.now) ≡ Ok task.Play = c.in-Ok-Play.ensures ∙ ap Ok c.in-Ok-Play.field-0-is in
    subst (λ (a : Result Task UsageRule). Runs a g.S.ToldShelf.told g.I.Source g.O.Sink g.S.Shelf g.F.Files g.R.Roads c.args.script.now c.run_script.new.script c.args.report.now c.run_script.new.report c.args.shelves.now.items c.run_script.new.shelves.items c.args.roads.now c.run_script.new.roads c.run_script.result) (sym asked)
    (inl (record {
      bad = c.run_script.ensures.bad;
      refused = c.run_script.ensures.refused;
      taken = c.run_script.ensures.taken;
      untouched = c.run_script.ensures.untouched;
      kept = c.run_script.ensures.shelves;
      cause = c.run_script.ensures.cause;
      faultless = c.run_script.ensures.faultless;
      over = c.run_script.ensures.over;
    }))

pub returns-in-Ok-Storm-clause-usage : goal.returns-in-Ok-Storm-clause-usage
returns-in-Ok-Storm-clause-usage g c =
    let asked : task_of (map (string_bytes {Z = Global}) c.args.words.now) ≡ Ok (task.Storm c.in-Ok-Storm.number) = c.in-Ok-Storm.ensures ∙ ap Ok c.in-Ok-Storm.field-0-is in
    subst (λ (a : Result Task UsageRule). UsageFor a c.run_storm.result) (sym asked)
    (storm_usage g.O.Sink g.S.Shelf g.F.Files g.R.Roads c.in-Ok-Storm.number c.args.report.now c.run_storm.new.report c.args.shelves.now.items c.run_storm.new.shelves.items c.args.roads.now c.run_storm.new.roads g.S.ToldShelf.told c.run_storm.result (task.Storm c.in-Ok-Storm.number) c.run_storm.ensures.storms)

pub returns-in-Ok-Storm-clause-runs : goal.returns-in-Ok-Storm-clause-runs
returns-in-Ok-Storm-clause-runs g c =
    let asked : task_of (map (string_bytes {Z = Global}) c.args.words.now) ≡ Ok (task.Storm c.in-Ok-Storm.number) = c.in-Ok-Storm.ensures ∙ ap Ok c.in-Ok-Storm.field-0-is in
    subst (λ (a : Result Task UsageRule). Runs a g.S.ToldShelf.told g.I.Source g.O.Sink g.S.Shelf g.F.Files g.R.Roads c.args.script.now c.args.script.now c.args.report.now c.run_storm.new.report c.args.shelves.now.items c.run_storm.new.shelves.items c.args.roads.now c.run_storm.new.roads c.run_storm.result) (sym asked)
    (inl (record {
      storms = c.run_storm.ensures.storms;
      refused = c.run_storm.ensures.refused;
      keeps = c.run_storm.ensures.keeps;
      unread = refl;
    }))

pub returns-in-Err-clause-usage : goal.returns-in-Err-clause-usage
returns-in-Err-clause-usage g c = unread_usage (task_of (map (string_bytes {Z = Global}) c.args.words.now)) c.in-Err.exit c.in-Err.ensures

pub returns-in-Err-clause-runs : goal.returns-in-Err-clause-runs
returns-in-Err-clause-runs g c =
    unread_runs g.I.Source g.O.Sink g.S.Shelf g.F.Files g.R.Roads c.args.script.now c.args.report.now c.args.shelves.now.items c.args.roads.now (task_of (map (string_bytes {Z = Global}) c.args.words.now)) g.S.ToldShelf.told c.in-Err.exit c.in-Err.ensures
