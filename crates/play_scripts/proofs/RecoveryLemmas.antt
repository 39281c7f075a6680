-- What the lines of a play are to recover.
use Rattle.std.proofs.Common.{zero, suc, ◌≡◌, ℕ, Bool, true, false, cond, List, [], ◌∷◌, ◌++◌, Option, Some, None, refl, sym, ap, ◌∙◌, append_assoc}
use Rattle.std.specs.Prelude.{◌==◌, map}
use Rattle.std.proofs.lemmas.List.{append-nil, map-append}
use Rattle.hd_base.specs.declared.numbers.NodeId.{NodeId}
use Rattle.script_lang.specs.declared.instructions.Instruction.{Instruction}
use Rattle.script_lang.specs.declared.instructions.Instruction.TheVariants as says
use Rattle.script_lang.specs.declared.instructions.ScriptLine.{ScriptLine}
use Rattle.play_laws.specs.PlayModel.Recovery.{Recovery}
use Rattle.play_laws.specs.PlayModel.Due.{Due}
use Rattle.play_laws.specs.PlayModel.Draws.{happened, advanced, drawn_from, draw, draws, Settles}
use Rattle.play_laws.specs.PlayModel.Dues.{is_due, dues}
use Rattle.play_laws.specs.PlayModel.Faults.{befalls}
use Rattle.play_laws.specs.PlayModel.Recoveries.{recovery_at, stopped_at}
use Rattle.play_laws.specs.PlayModel.Lines.{stepped, step_due, stopped, stop_at, may_start, start_at, PlaysLine, PlaysLines, PlaysFrom, Plays, blocks_of}
use Rattle.play_laws.specs.PlayModel.States.{PlayState, world_of, opened}
use Rattle.play_scripts.specs.Recoveries.{is_recovery, recovery_numbers, primaries_of}

-- WHAT HAPPENS BRINGS NO RECOVERY

befalls_recover : (p : PlayState) (d : Due) → (befalls p d).recoveries ≡ p.recoveries
unfolding befalls
befalls_recover p d = refl

happened_recover : (p : PlayState) (o : Option Due) → (happened p o).recoveries ≡ p.recoveries
happened_recover p None = refl
happened_recover p (Some d) = befalls_recover p d

drawn_recover : (due : List Due) (p : PlayState) → (drawn_from due p).recoveries ≡ p.recoveries
drawn_recover [] p = refl
drawn_recover (d ∷ due) p = happened_recover (advanced p) _

draws_recover : (blocks : List ℕ) (n : ℕ) (p : PlayState) → (draws blocks n p).recoveries ≡ p.recoveries
draws_recover blocks zero p = refl
draws_recover blocks (suc n) p = draws_recover blocks n (draw blocks p) ∙ drawn_recover (dues blocks p) p

settles_recover : (blocks : List ℕ) (old new : PlayState) → Settles blocks old new → new.recoveries ≡ old.recoveries
settles_recover blocks old new s = sym (ap (λ (p : PlayState). p.recoveries) s.drawn_so) ∙ draws_recover blocks s.count old

-- a play that is to recover what another is, whichever of two it is
either_recover : (t : Bool) (p q r : PlayState) → p.recoveries ≡ r.recoveries → q.recoveries ≡ r.recoveries → (cond t p q).recoveries ≡ r.recoveries
either_recover true p q r e f = e
either_recover false p q r e f = f

step_recover : (p : PlayState) (o : Option Due) → (stepped p o).recoveries ≡ p.recoveries
step_recover p None = refl
step_recover p (Some d) = either_recover (is_due (world_of p) p.queues d) (befalls p d) p p (befalls_recover p d) refl

same_number : (t : Bool) (r : Recovery) → (cond t (record r { may_begin = false }) r).primary ≡ r.primary
same_number true r = refl
same_number false r = refl

stopped_numbers : (node : NodeId) (rs : List Recovery) → primaries_of (map (stopped_at node) rs) ≡ primaries_of rs
stopped_numbers node [] = refl
stopped_numbers node (r ∷ rs) = λ j. same_number (r.node.0 == node.0) r j ∷ stopped_numbers node rs j

stop_numbers : (p : PlayState) (node : NodeId) (t : Bool) → primaries_of (cond t (stopped p node) p).recoveries ≡ primaries_of p.recoveries
stop_numbers p node true = stopped_numbers node p.recoveries
stop_numbers p node false = refl

start_recover : (p : PlayState) (node : NodeId) → (start_at p node).recoveries ≡ p.recoveries
start_recover p node = either_recover (may_start p node) _ p p refl refl

-- LINES

-- the primaries of a play, before others
abbrev before : PlayState → List ℕ → List ℕ
before p rest = primaries_of p.recoveries ++ rest

same_recoveries : (p q : PlayState) (rest : List ℕ) → p.recoveries ≡ q.recoveries → before p rest ≡ before q rest
same_recoveries p q rest e = ap (λ (rs : List Recovery). primaries_of rs ++ rest) e

-- one primary more
one_recovers : (rs : List Recovery) (r : Recovery) (rest : List ℕ) → primaries_of (rs ++ r ∷ []) ++ rest ≡ primaries_of rs ++ (r.primary ∷ rest)
one_recovers rs r rest = ap (λ (ns : List ℕ). ns ++ rest) (map-append (λ (a : Recovery). a.primary) rs (r ∷ [])) ∙ append_assoc (primaries_of rs) (r.primary ∷ []) rest

line_recovers : (blocks : List ℕ) (number : ℕ) (i : Instruction) (old new : PlayState) (rest : List ℕ) → PlaysLine blocks number i old new → before new rest ≡ before old (cond (is_recovery i) (number ∷ rest) rest)
line_recovers blocks number (says.Recover b node members) old new rest e =
    ap (λ (p : PlayState). before p rest) e ∙ one_recovers old.recoveries (recovery_at (world_of old) number b node members) rest
line_recovers blocks number (says.Run count) old new rest e = ap (λ (p : PlayState). before p rest) e ∙ same_recoveries (draws blocks count old) old rest (draws_recover blocks count old)
line_recovers blocks number says.Settle old new rest s = same_recoveries new old rest (settles_recover blocks old new s)
line_recovers blocks number (says.Step b event) old new rest e =
    let o = step_due (world_of old) b.0 event in
    ap (λ (p : PlayState). before p rest) e ∙ same_recoveries (stepped old o) old rest (step_recover old o)
line_recovers blocks number (says.Stop node) old new rest e = ap (λ (p : PlayState). before p rest) e ∙ ap (λ (ns : List ℕ). ns ++ rest) (stop_numbers old node ((world_of old).running node.0))
line_recovers blocks number (says.Start node) old new rest e = ap (λ (p : PlayState). before p rest) e ∙ same_recoveries (start_at old node) old rest (start_recover old node)
line_recovers blocks number _ old new rest e = ap (λ (p : PlayState). before p rest) e

lines_recover : (blocks : List ℕ) (lines : List ScriptLine) (old new : PlayState) → PlaysLines blocks lines old new → primaries_of new.recoveries ≡ before old (recovery_numbers lines)
lines_recover blocks [] old new s = ap primaries_of (settles_recover blocks old new s) ∙ sym (append-nil (primaries_of old.recoveries))
lines_recover blocks (l ∷ lines) old new h = lines_recover blocks lines h.0 new h.1.1 ∙ line_recovers blocks l.number l.instruction old h.0 (recovery_numbers lines) h.1.0

-- SCRIPTS

head_recovers : (i j : Instruction) (first second : ℕ) (lines : List ScriptLine) (end : PlayState) → PlaysFrom i j lines end
    → primaries_of end.recoveries ≡ cond (is_recovery i) (first ∷ cond (is_recovery j) (second ∷ recovery_numbers lines) (recovery_numbers lines)) (cond (is_recovery j) (second ∷ recovery_numbers lines) (recovery_numbers lines))
head_recovers (says.Nodes count) (says.Seed seed) first second lines end h = lines_recover (blocks_of lines) lines (opened count seed) end h
head_recovers (says.Nodes count) _ first second lines end h = absurd h
head_recovers _ j first second lines end h = absurd h

pub plays_recover : (lines : List ScriptLine) (end : PlayState) → Plays lines end → primaries_of end.recoveries ≡ recovery_numbers lines
plays_recover [] end h = absurd h
plays_recover (first ∷ []) end h = absurd h
plays_recover (first ∷ (second ∷ lines)) end h = head_recovers first.instruction second.instruction first.number second.number lines end h
