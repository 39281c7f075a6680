-- The script is read, and then it is played; each may end the run.
use Rattle.std.proofs.Common.{rules, ◌≡◌, ◌++◌, take, drop, ℕ, List, length, IfSome, Result, Ok, Err, sym, ap, subst, ◌∙◌}
use Rattle.std.proofs.Math.Seq.{take-append_seam}
use Rattle.std.proofs.lemmas.Result.{err_from_is_err_and}
use Rattle.whole_play.proofs.NodeOpening.ListLemmas.{if_err}
use Rattle.script_lang.specs.declared.instructions.ScriptLine.{ScriptLine}
use Rattle.whole_play.specs.declared.playing.Played.{Played}
use Rattle.dn_run.specs.declared.exits.Exit.{Exit}
use Rattle.whole_play.specs.PlayScripts.Fitting.{ScriptFits}
use Rattle.whole_play.specs.PlayScripts.Heads.{head_of}
use Rattle.whole_play.specs.PlayScripts.Unplayed.{LinesAreTold}
use Rattle.whole_play.specs.Playing.{IsPlayed, LeavesShelves}
use Rattle.dn_run.specs.Reading.{HasRead, IsReadExit, Accepts, Refuses}
use Rattle.dn_run.specs.Runs.{IsBadIn, KeepsShelves}
use Rattle.whole_play.specs.PlayModel.States.{world_of}
use Rattle.dn_run.proofs.AnswerLaws.{completes}
use Rattle.dn_run.proofs.RunLaws.{bad_text, keeps_played, refuses_any}
use Rattle.dn_run.proofs.running.play.Goals as goal

pub returns-in_err-lines-clause-refused : goal.returns-in_err-lines-clause-refused
returns-in_err-lines-clause-refused g c =
    let left = g.I.Source.left c.args.script.now in
    let n = length c.args.shelves.now.items in
    let same : c.len.result ≡ n = c.len.ensures ∙ c.args.shelves.now.ok.0 in
    let e = err_from_is_err_and c.from_residual.result c.from_residual.ensures.1 in
    subst (λ (r : Result Played Exit). IfSome left (λ text. Refuses g.S.ToldShelf.told n text r)) (sym (e.1 ∙ ap Err e.2))
    (subst (λ (m : ℕ). IfSome left (λ text. Refuses {T = List ScriptLine} g.S.ToldShelf.told m text (Err c.in_err-lines.field-0.0))) same c.in_err-lines.ensures.refused)

pub returns-in_err-played-clause-refused : goal.returns-in_err-played-clause-refused
returns-in_err-played-clause-refused g c =
    let left = g.I.Source.left c.args.script.now in
    let n = length c.args.shelves.now.items in
    let same : c.len.result ≡ n = c.len.ensures ∙ c.args.shelves.now.ok.0 in
    refuses_any g.S.ToldShelf.told left n c.in_ok-lines.lines c.from_residual-in_err-played.result
    (subst (λ (m : ℕ). IfSome left (λ text. Refuses {T = List ScriptLine} g.S.ToldShelf.told m text (Ok c.in_ok-lines.lines))) same c.in_ok-lines.ensures.refused)

pub returns-clause-refused : goal.returns-clause-refused
returns-clause-refused g c =
    let left = g.I.Source.left c.args.script.now in
    let n = length c.args.shelves.now.items in
    let same : c.len.result ≡ n = c.len.ensures ∙ c.args.shelves.now.ok.0 in
    refuses_any g.S.ToldShelf.told left n c.in_ok-lines.lines (Ok c.in_ok-played.played)
    (subst (λ (m : ℕ). IfSome left (λ text. Refuses {T = List ScriptLine} g.S.ToldShelf.told m text (Ok c.in_ok-lines.lines))) same c.in_ok-lines.ensures.refused)

pub returns-in_err-lines-clause-bad : goal.returns-in_err-lines-clause-bad
returns-in_err-lines-clause-bad g c =
    let i = g.I.Source in
    let left = i.left c.args.script.now in
    let n = length c.args.shelves.now.items in
    let ended = c.in_err-lines.field-0.0 in
    let before = i.faults c.args.script.now in
    let now = i.faults c.read_lines.new.source in
    let same : c.len.result ≡ n = c.len.ensures ∙ c.args.shelves.now.ok.0 in
    let e = err_from_is_err_and c.from_residual.result c.from_residual.ensures.1 in
    if_err c.from_residual.result ended (IsBadIn g.S.ToldShelf.told left n) (e.1 ∙ ap Err e.2)
    (bad_text g.S.ToldShelf.told left before now n ended (subst (λ (m : ℕ). IsReadExit g.S.ToldShelf.told left before now m ended) same c.in_err-lines.ensures.cause)
    (subst (λ (m : ℕ). IfSome left (λ text. Accepts g.S.ToldShelf.told m text (Err ended))) same c.in_err-lines.ensures.accepted))

pub play_script-requires-clause-told : goal.play_script-requires-clause-told
play_script-requires-clause-told g c κs within =
    let tells = g.S.ToldShelf.told in
    let lines = c.in_ok-lines.lines in
    let said : c.as_slice.result.now ≡ lines = search rules in
    subst (λ (ls : List ScriptLine). LinesAreTold tells ls) (sym said) (c.played_lines_are_told.ensures tells lines c.in_ok-lines.ensures.found.playable.played)

pub returns-clause-shelves : goal.returns-clause-shelves
returns-clause-shelves g c =
    let left = g.I.Source.left c.args.script.now in
    let old = c.args.shelves.now.items in
    let n = length old in
    let lines = c.in_ok-lines.lines in
    let same : c.len.result ≡ n = c.len.ensures ∙ c.args.shelves.now.ok.0 in
    let read = c.in_ok-lines.ensures.found in
    let fits : ScriptFits n lines = subst (λ (m : ℕ). ScriptFits m lines) same (c.scripts_fit.ensures c.len.result read.text lines read.playable.script) in
    let new = c.play_script.new.shelves in
    let played : c.as_slice.result.now ≡ lines = search rules in
    let given : c.as_mut_slice.result.now ≡ old = search rules in
    let left_so : IfSome (head_of lines) (LeavesShelves g.S.Shelf c.as_mut_slice.result.now new) =
    subst (λ (ls : List ScriptLine). IfSome (head_of ls) (LeavesShelves g.S.Shelf c.as_mut_slice.result.now new)) played c.in_ok-played.ensures.shelves in
    let kept : KeepsShelves g.S.ToldShelf.told g.S.Shelf left old new =
    keeps_played g.S.Shelf g.S.ToldShelf.told left old new lines fits
    (subst (λ (m : ℕ). IfSome left (λ text. Accepts g.S.ToldShelf.told m text (Ok lines))) same c.in_ok-lines.ensures.accepted)
    (subst (λ (xs : List _). IfSome (head_of lines) (LeavesShelves g.S.Shelf xs new)) given left_so) in
    let count : c.args.shelves.now.len ≡ length new = c.args.shelves.now.ok.0 ∙ (ap length (sym given) ∙ sym c.play_script.auto.shelves) in
    let all : new ≡ take c.args.shelves.now.len (new ++ drop (length new) old) =
    sym (ap (λ (k : ℕ). take k (new ++ drop (length new) old)) count ∙ take-append_seam new (drop (length new) old)) in
    subst (λ (xs : List _). KeepsShelves g.S.ToldShelf.told g.S.Shelf left old xs) all kept

pub returns-clause-played : goal.returns-clause-played
returns-clause-played g c =
    let i = g.I.Source in
    let s = g.S.Shelf in
    let d = g.F.Files in
    let r = g.R.Roads in
    let script = c.args.script.now in
    let script' = c.read_lines.new.source in
    let old = c.args.shelves.now.items in
    let n = length old in
    let lines = c.in_ok-lines.lines in
    let p = c.in_ok-played.played in
    let new = c.play_script.new.shelves in
    let road = c.play_script.new.roads in
    let same : c.len.result ≡ n = c.len.ensures ∙ c.args.shelves.now.ok.0 in
    let found = c.in_ok-lines.ensures.found in
    let read : HasRead g.S.ToldShelf.told (i.left script) (i.left script') n lines = subst (λ (m : ℕ). HasRead g.S.ToldShelf.told (i.left script) (i.left script') m lines) same found in
    let fits : ScriptFits n lines = subst (λ (m : ℕ). ScriptFits m lines) same (c.scripts_fit.ensures c.len.result found.text lines found.playable.script) in
    let said : c.as_slice.result.now ≡ lines = search rules in
    let given : c.as_mut_slice.result.now ≡ old = search rules in
    let count : c.args.shelves.now.len ≡ length new = c.args.shelves.now.ok.0 ∙ (ap length (sym given) ∙ sym c.play_script.auto.shelves) in
    let all : new ≡ take c.args.shelves.now.len (new ++ drop (length new) old) =
    sym (ap (λ (k : ℕ). take k (new ++ drop (length new) old)) count ∙ take-append_seam new (drop (length new) old)) in
    let first : IsPlayed s d r lines c.as_mut_slice.result.now new road p =
    subst (λ (ls : List ScriptLine). IsPlayed s d r ls c.as_mut_slice.result.now new road p) said c.in_ok-played.ensures.played in
    let second : IsPlayed s d r lines old new road p = subst (λ (xs : List _). IsPlayed s d r lines xs new road p) given first in
    let played : IsPlayed s d r lines old (take c.args.shelves.now.len (new ++ drop (length new) old)) road p =
    subst (λ (xs : List _). IsPlayed s d r lines old xs road p) all second in
    record {
      lines = lines;
      read = read;
      played = played;
      safe = c.plays_are_safe.ensures n lines played.closed.through.end fits played.closed.through.plays;
      reads = λ i has. c.plays_end_their_reads.ensures lines played.closed.through.end i played.closed.through.plays has;
      recoveries = λ i has. c.plays_end_their_recoveries.ensures n lines played.closed.through.end i fits played.closed.through.plays has;
      complete = λ sound members. completes lines (world_of played.closed.through.end) (c.plays_complete.ensures n lines played.closed.through.end fits sound members played.closed.through.plays);
    }
