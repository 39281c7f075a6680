-- A line was found, or none is there.
use Rattle.std.proofs.Common.{rules, tests, ◌≡◌, Bor, option_map, find, true, is_some, sym, ◌∙◌, ap}
use Rattle.std.proofs.lemmas.Iterator.{YieldsList-from_slice}
use Rattle.std.proofs.lemmas.Iterator.Search.{find_from_yields_List}
use Rattle.script_lang.specs.declared.instructions.ScriptLine.{ScriptLine}
use Rattle.play_scripts.specs.Unplayed.{is_unplayed}
use Rattle.play_scripts.proofs.UnplayedLemmas.{found_none}
use Rattle.play_scripts.proofs.unplayed.first_unplayed.Goals as goal

pub returns-in_err-line-clause-none : goal.returns-in_err-line-clause-none
returns-in_err-line-clause-none c =
    let found : option_map (λ (l : Bor ScriptLine). l.now) c.find.result ≡ find (λ (l : ScriptLine). is_unplayed c.args.told l.instruction) c.args.lines.now =
    find_from_yields_List (λ (l : ScriptLine). is_unplayed c.args.told l.instruction) _ _ c.find.result c.find.ensures.ran (YieldsList-from_slice c.args.lines.now cc) (λ x b q k. search (rules, tests)) in
    found_none c.args.told c.args.lines.now c.find.result (is_some c.from_residual.result) found (ap is_some c.in_err-line.was ∙ sym (ap is_some c.from_residual.ensures))

pub returns-clause-none : goal.returns-clause-none
returns-clause-none c =
    let found : option_map (λ (l : Bor ScriptLine). l.now) c.find.result ≡ find (λ (l : ScriptLine). is_unplayed c.args.told l.instruction) c.args.lines.now =
    find_from_yields_List (λ (l : ScriptLine). is_unplayed c.args.told l.instruction) _ _ c.find.result c.find.ensures.ran (YieldsList-from_slice c.args.lines.now cc) (λ x b q k. search (rules, tests)) in
    found_none c.args.told c.args.lines.now c.find.result true found (ap is_some c.in_ok-line.was)
