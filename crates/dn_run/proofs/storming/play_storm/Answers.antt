-- A storm is refused, or its script is played; either may end for want of memory.
use Rattle.std.proofs.Common.{rules, ◌≡◌, ◌≤◌, ◌<◌, ◌++◌, take, drop, ℕ, List, length, IfSome, None, Some, inl, inr, refl, sym, ap, subst, ◌∙◌}
use Rattle.std.proofs.Math.Seq.{take-append_seam}
use Rattle.std.proofs.lemmas.Result.{err_from_is_err_and}
use Rattle.script_lang.specs.Storms.{storm}
use Rattle.script_lang.specs.declared.instructions.ScriptLine.{ScriptLine}
use Rattle.whole_play.proofs.NodeOpening.ListLemmas.{if_err}
use Rattle.whole_play.specs.PlayScripts.Fitting.{ScriptFits}
use Rattle.whole_play.specs.PlayScripts.Heads.{head_of}
use Rattle.whole_play.specs.PlayScripts.Unplayed.{first_unplayed, ArePlayed, LinesAreTold}
use Rattle.whole_play.specs.Playing.{IsPlayed, LeavesShelves, HasUsedCause}
use Rattle.storm_summary.specs.Summaries.{summary_of}
use Rattle.dn_run.specs.declared.exits.Exit.{Exit}
use Rattle.dn_run.specs.Storming.{RefusesStorm, IsStormFault, StormsKeep}
use Rattle.dn_run.proofs.StormLaws.{few_refused, unplayed_refused, can_storm, unrefused, storm_stays, storm_keeps, storm_fault}
use Rattle.dn_run.proofs.storming.play_storm.Goals as goal

-- FEW SHELVES

pub returns-then-len-clause-refused : goal.returns-then-len-clause-refused
returns-then-len-clause-refused g c =
    few_refused g.S.ToldShelf.told (length c.args.shelves.now.items) c.args.number
    (subst (λ (m : ℕ). m < 5) (c.len.ensures ∙ c.args.shelves.now.ok.0) c.if-len.true)

pub returns-then-len-clause-cause : goal.returns-then-len-clause-cause
returns-then-len-clause-cause g c =
    (inl (subst (λ (m : ℕ). m < 5) (c.len.ensures ∙ c.args.shelves.now.ok.0) c.if-len.true, refl, refl), refl, refl)

pub returns-then-len-clause-keeps : goal.returns-then-len-clause-keeps
returns-then-len-clause-keeps g c = storm_stays g.S.Shelf c.args.shelves.now.items

pub returns-in_default-clause-keeps : goal.returns-in_default-clause-keeps
returns-in_default-clause-keeps g c = storm_stays g.S.Shelf c.args.shelves.now.items

-- LINES THAT PLAYS DON'T HAVE

pub returns-in-Some-clause-refused : goal.returns-in-Some-clause-refused
returns-in-Some-clause-refused g c =
    let n = length c.args.shelves.now.items in
    let enough : 5 ≤ n = subst (λ (m : ℕ). 5 ≤ m) (c.len.ensures ∙ c.args.shelves.now.ok.0) c.if-len.false in
    let lines : c.as_slice.result.now ≡ storm c.args.number = c.as_slice.ensures ∙ c.in-Ok.ensures in
    unplayed_refused g.S.ToldShelf.told n c.args.number enough c.in-Some.line
    (sym (subst (λ (ls : List ScriptLine). Some c.in-Some.line ≡ first_unplayed g.S.ToldShelf.told ls) lines (subst (λ (t : _). Some c.in-Some.line ≡ first_unplayed t c.as_slice.result.now) c.tells.ensures c.in-Some.ensures.first)))

pub returns-in-Some-clause-cause : goal.returns-in-Some-clause-cause
returns-in-Some-clause-cause g c =
    let n = length c.args.shelves.now.items in
    let enough : 5 ≤ n = subst (λ (m : ℕ). 5 ≤ m) (c.len.ensures ∙ c.args.shelves.now.ok.0) c.if-len.false in
    let lines : c.as_slice.result.now ≡ storm c.args.number = c.as_slice.ensures ∙ c.in-Ok.ensures in
    let first = sym (subst (λ (ls : List ScriptLine). Some c.in-Some.line ≡ first_unplayed g.S.ToldShelf.told ls) lines (subst (λ (t : _). Some c.in-Some.line ≡ first_unplayed t c.as_slice.result.now) c.tells.ensures c.in-Some.ensures.first)) in
    (inr (enough, first, refl), refl, refl)

pub returns-in-Some-clause-keeps : goal.returns-in-Some-clause-keeps
returns-in-Some-clause-keeps g c = storm_stays g.S.Shelf c.args.shelves.now.items

-- THE PLAY

pub play_script-requires-clause-fits : goal.play_script-requires-clause-fits
play_script-requires-clause-fits g c κs within =
    let n = length c.args.shelves.now.items in
    let enough : 5 ≤ n = subst (λ (m : ℕ). 5 ≤ m) (c.len.ensures ∙ c.args.shelves.now.ok.0) c.if-len.false in
    let given : c.as_mut_slice.result.now ≡ c.args.shelves.now.items = search rules in
    let lines : c.as_slice-2.result.now ≡ storm c.args.number = c.as_slice-2.ensures ∙ c.in-Ok.ensures in
    let fits : ScriptFits n (storm c.args.number) = c.storms_fit.ensures n c.args.number enough in
    subst (λ (ls : List ScriptLine). ScriptFits (length c.as_mut_slice.result.now) ls) (sym lines)
    (subst (λ (xs : List _). ScriptFits (length xs) (storm c.args.number)) (sym given) fits)

pub play_script-requires-clause-told : goal.play_script-requires-clause-told
play_script-requires-clause-told g c κs within =
    let tells = g.S.ToldShelf.told in
    let lines : c.as_slice.result.now ≡ storm c.args.number = c.as_slice.ensures ∙ c.in-Ok.ensures in
    let again : c.as_slice-2.result.now ≡ storm c.args.number = c.as_slice-2.ensures ∙ c.in-Ok.ensures in
    let played = c.in_default-first_unplayed.ensures.none.0 refl in
    let first = subst (λ (t : _). ArePlayed t c.as_slice.result.now) c.tells.ensures played in
    subst (λ (ls : List ScriptLine). LinesAreTold tells ls) (sym again)
    (c.played_lines_are_told.ensures tells (storm c.args.number) (subst (λ (ls : List ScriptLine). ArePlayed tells ls) lines first))

pub returns-in_err-played-clause-refused : goal.returns-in_err-played-clause-refused
returns-in_err-played-clause-refused g c =
    let n = length c.args.shelves.now.items in
    let tells = g.S.ToldShelf.told in
    let enough : 5 ≤ n = subst (λ (m : ℕ). 5 ≤ m) (c.len.ensures ∙ c.args.shelves.now.ok.0) c.if-len.false in
    let lines : c.as_slice.result.now ≡ storm c.args.number = c.as_slice.ensures ∙ c.in-Ok.ensures in
    let none : first_unplayed tells (storm c.args.number) ≡ None =
    sym (subst (λ (ls : List ScriptLine). None ≡ first_unplayed tells ls) lines (subst (λ (t : _). None ≡ first_unplayed t c.as_slice.result.now) c.tells.ensures c.in_default-first_unplayed.ensures.first)) in
    let e = err_from_is_err_and c.from_residual.result c.from_residual.ensures.1 in
    if_err c.from_residual.result e.0 (RefusesStorm tells n c.args.number) e.1 (unrefused tells n c.args.number e.0 (can_storm tells n c.args.number enough none))

pub returns-in_err-played-clause-cause : goal.returns-in_err-played-clause-cause
returns-in_err-played-clause-cause g c =
    let tells = g.S.ToldShelf.told in
    let s = g.S.Shelf in
    let r = g.R.Roads in
    let number = c.args.number in
    let old = c.args.shelves.now.items in
    let new = c.play_script.new.shelves in
    let given : c.as_mut_slice.result.now ≡ old = search rules in
    let lines : c.as_slice-2.result.now ≡ storm number = c.as_slice-2.ensures ∙ c.in-Ok.ensures in
    let count : c.args.shelves.now.len ≡ length new = c.args.shelves.now.ok.0 ∙ (ap length (sym given) ∙ sym c.play_script.auto.shelves) in
    let all : new ≡ take c.args.shelves.now.len (new ++ drop (length new) old) =
    sym (ap (λ (k : ℕ). take k (new ++ drop (length new) old)) count ∙ take-append_seam new (drop (length new) old)) in
    let first : HasUsedCause s r (storm number) c.as_mut_slice.result.now new c.args.roads.now c.play_script.new.roads c.in_err-played.field-0.0 =
    subst (λ (ls : List ScriptLine). HasUsedCause s r ls c.as_mut_slice.result.now new c.args.roads.now c.play_script.new.roads c.in_err-played.field-0.0) lines c.in_err-played.ensures.cause in
    let second : HasUsedCause s r (storm number) old (take c.args.shelves.now.len (new ++ drop (length new) old)) c.args.roads.now c.play_script.new.roads c.in_err-played.field-0.0 =
    subst (λ (xs : List _). HasUsedCause s r (storm number) old xs c.args.roads.now c.play_script.new.roads c.in_err-played.field-0.0) all
    (subst (λ (xs : List _). HasUsedCause s r (storm number) xs new c.args.roads.now c.play_script.new.roads c.in_err-played.field-0.0) given first) in
    let so = storm_fault c.storms_fit.ensures number tells s r old (take c.args.shelves.now.len (new ++ drop (length new) old)) c.args.roads.now c.play_script.new.roads c.in_err-played.field-0.0 second in
    let e = err_from_is_err_and c.from_residual.result c.from_residual.ensures.1 in
    if_err c.from_residual.result e.0 (IsStormFault tells s r number old (take c.args.shelves.now.len (new ++ drop (length new) old)) c.args.roads.now c.play_script.new.roads) e.1
    (subst (λ (x : Exit). IsStormFault tells s r number old (take c.args.shelves.now.len (new ++ drop (length new) old)) c.args.roads.now c.play_script.new.roads x) (sym e.2) so)

pub returns-in_err-played-clause-keeps : goal.returns-in_err-played-clause-keeps
returns-in_err-played-clause-keeps g c =
    let s = g.S.Shelf in
    let number = c.args.number in
    let old = c.args.shelves.now.items in
    let new = c.play_script.new.shelves in
    let given : c.as_mut_slice.result.now ≡ old = search rules in
    let lines : c.as_slice-2.result.now ≡ storm number = c.as_slice-2.ensures ∙ c.in-Ok.ensures in
    let count : c.args.shelves.now.len ≡ length new = c.args.shelves.now.ok.0 ∙ (ap length (sym given) ∙ sym c.play_script.auto.shelves) in
    let all : new ≡ take c.args.shelves.now.len (new ++ drop (length new) old) =
    sym (ap (λ (k : ℕ). take k (new ++ drop (length new) old)) count ∙ take-append_seam new (drop (length new) old)) in
    let left : IfSome (head_of (storm number)) (LeavesShelves s c.as_mut_slice.result.now new) =
    subst (λ (ls : List ScriptLine). IfSome (head_of ls) (LeavesShelves s c.as_mut_slice.result.now new)) lines c.in_err-played.ensures.shelves in
    subst (λ (xs : List _). StormsKeep s old xs) all
    (storm_keeps c.storms_fit.ensures number s old new (subst (λ (xs : List _). IfSome (head_of (storm number)) (LeavesShelves s xs new)) given left))

pub returns-clause-keeps : goal.returns-clause-keeps
returns-clause-keeps g c =
    let s = g.S.Shelf in
    let number = c.args.number in
    let old = c.args.shelves.now.items in
    let new = c.play_script.new.shelves in
    let given : c.as_mut_slice.result.now ≡ old = search rules in
    let lines : c.as_slice-2.result.now ≡ storm number = c.as_slice-2.ensures ∙ c.in-Ok.ensures in
    let count : c.args.shelves.now.len ≡ length new = c.args.shelves.now.ok.0 ∙ (ap length (sym given) ∙ sym c.play_script.auto.shelves) in
    let all : new ≡ take c.args.shelves.now.len (new ++ drop (length new) old) =
    sym (ap (λ (k : ℕ). take k (new ++ drop (length new) old)) count ∙ take-append_seam new (drop (length new) old)) in
    let left : IfSome (head_of (storm number)) (LeavesShelves s c.as_mut_slice.result.now new) =
    subst (λ (ls : List ScriptLine). IfSome (head_of ls) (LeavesShelves s c.as_mut_slice.result.now new)) lines c.in_ok-played.ensures.shelves in
    subst (λ (xs : List _). StormsKeep s old xs) all
    (storm_keeps c.storms_fit.ensures number s old new (subst (λ (xs : List _). IfSome (head_of (storm number)) (LeavesShelves s xs new)) given left))

pub returns-clause-playable : goal.returns-clause-playable
returns-clause-playable g c =
    let n = length c.args.shelves.now.items in
    let tells = g.S.ToldShelf.told in
    let enough : 5 ≤ n = subst (λ (m : ℕ). 5 ≤ m) (c.len.ensures ∙ c.args.shelves.now.ok.0) c.if-len.false in
    let lines : c.as_slice.result.now ≡ storm c.args.number = c.as_slice.ensures ∙ c.in-Ok.ensures in
    let none : first_unplayed tells (storm c.args.number) ≡ None =
    sym (subst (λ (ls : List ScriptLine). None ≡ first_unplayed tells ls) lines (subst (λ (t : _). None ≡ first_unplayed t c.as_slice.result.now) c.tells.ensures c.in_default-first_unplayed.ensures.first)) in
    can_storm tells n c.args.number enough none

pub returns-clause-stormed : goal.returns-clause-stormed
returns-clause-stormed g c =
    let s = g.S.Shelf in
    let d = g.F.Files in
    let r = g.R.Roads in
    let number = c.args.number in
    let old = c.args.shelves.now.items in
    let n = length old in
    let p = c.in_ok-played.played in
    let new = c.play_script.new.shelves in
    let road = c.play_script.new.roads in
    let enough : 5 ≤ n = subst (λ (m : ℕ). 5 ≤ m) (c.len.ensures ∙ c.args.shelves.now.ok.0) c.if-len.false in
    let fits : ScriptFits n (storm number) = c.storms_fit.ensures n number enough in
    let given : c.as_mut_slice.result.now ≡ old = search rules in
    let lines : c.as_slice-2.result.now ≡ storm number = c.as_slice-2.ensures ∙ c.in-Ok.ensures in
    let count : c.args.shelves.now.len ≡ length new = c.args.shelves.now.ok.0 ∙ (ap length (sym given) ∙ sym c.play_script.auto.shelves) in
    let all : new ≡ take c.args.shelves.now.len (new ++ drop (length new) old) =
    sym (ap (λ (k : ℕ). take k (new ++ drop (length new) old)) count ∙ take-append_seam new (drop (length new) old)) in
    let first : IsPlayed s d r (storm number) c.as_mut_slice.result.now new road p =
    subst (λ (ls : List ScriptLine). IsPlayed s d r ls c.as_mut_slice.result.now new road p) lines c.in_ok-played.ensures.played in
    let second : IsPlayed s d r (storm number) old new road p = subst (λ (xs : List _). IsPlayed s d r (storm number) xs new road p) given first in
    let played : IsPlayed s d r (storm number) old (take c.args.shelves.now.len (new ++ drop (length new) old)) road p =
    subst (λ (xs : List _). IsPlayed s d r (storm number) old xs road p) all second in
    record {
      p = p;
      played = played;
      safe = c.plays_are_safe.ensures n (storm number) played.closed.through.end fits played.closed.through.plays;
      summed = c.summarize.ensures ∙ ap summary_of c.deref.ensures.value;
    }
