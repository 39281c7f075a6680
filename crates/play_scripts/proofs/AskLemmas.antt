-- What the lines of a play ask.
use Rattle.std.proofs.Common.{zero, suc, ◌≡◌, ℕ, Bool, true, false, cond, List, [], ◌∷◌, ◌++◌, Option, Some, None, refl, sym, ap, ◌∙◌, append_assoc}
use Rattle.std.proofs.lemmas.List.{append-nil, map-append}
use Rattle.hd_base.specs.declared.numbers.NodeId.{NodeId}
use Rattle.script_lang.specs.declared.instructions.Instruction.{Instruction}
use Rattle.script_lang.specs.declared.instructions.Instruction.TheVariants as says
use Rattle.script_lang.specs.declared.instructions.ScriptLine.{ScriptLine}
use Rattle.play_laws.specs.PlayModel.ReadAsk.{ReadAsk}
use Rattle.play_laws.specs.PlayModel.Due.{Due}
use Rattle.play_laws.specs.PlayModel.Asks.{ask_at}
use Rattle.play_laws.specs.PlayModel.Draws.{happened, advanced, drawn_from, draw, draws, Settles}
use Rattle.play_laws.specs.PlayModel.Dues.{is_due, dues}
use Rattle.play_laws.specs.PlayModel.Faults.{befalls}
use Rattle.play_laws.specs.PlayModel.Lines.{stepped, step_due, stop_at, may_start, start_at, PlaysLine, PlaysLines, PlaysFrom, Plays, blocks_of}
use Rattle.play_laws.specs.PlayModel.States.{PlayState, world_of, opened}
use Rattle.play_scripts.specs.Reads.{is_read, read_numbers, readers_of}

-- WHAT HAPPENS ASKS NOTHING

befalls_ask : (p : PlayState) (d : Due) → (befalls p d).asks ≡ p.asks
unfolding befalls
befalls_ask p d = refl

happened_ask : (p : PlayState) (o : Option Due) → (happened p o).asks ≡ p.asks
happened_ask p None = refl
happened_ask p (Some d) = befalls_ask p d

drawn_ask : (due : List Due) (p : PlayState) → (drawn_from due p).asks ≡ p.asks
drawn_ask [] p = refl
drawn_ask (d ∷ due) p = happened_ask (advanced p) _

draws_ask : (blocks : List ℕ) (n : ℕ) (p : PlayState) → (draws blocks n p).asks ≡ p.asks
draws_ask blocks zero p = refl
draws_ask blocks (suc n) p = draws_ask blocks n (draw blocks p) ∙ drawn_ask (dues blocks p) p

settles_ask : (blocks : List ℕ) (old new : PlayState) → Settles blocks old new → new.asks ≡ old.asks
settles_ask blocks old new s = sym (ap (λ (p : PlayState). p.asks) s.drawn_so) ∙ draws_ask blocks s.count old

-- a play that asks what another does, whichever of two it is
either_ask : (t : Bool) (p q r : PlayState) → p.asks ≡ r.asks → q.asks ≡ r.asks → (cond t p q).asks ≡ r.asks
either_ask true p q r e f = e
either_ask false p q r e f = f

step_ask : (p : PlayState) (o : Option Due) → (stepped p o).asks ≡ p.asks
step_ask p None = refl
step_ask p (Some d) = either_ask (is_due (world_of p) p.queues d) (befalls p d) p p (befalls_ask p d) refl

stop_ask : (p : PlayState) (node : NodeId) → (stop_at p node).asks ≡ p.asks
stop_ask p node = either_ask ((world_of p).running node.0) _ p p refl refl

start_ask : (p : PlayState) (node : NodeId) → (start_at p node).asks ≡ p.asks
start_ask p node = either_ask (may_start p node) _ p p refl refl

-- LINES

-- the readers of a play, before others
abbrev before : PlayState → List ℕ → List ℕ
before p rest = readers_of p.asks ++ rest

same_asks : (p q : PlayState) (rest : List ℕ) → p.asks ≡ q.asks → before p rest ≡ before q rest
same_asks p q rest e = ap (λ (asks : List ReadAsk). readers_of asks ++ rest) e

-- one reader more
one_asks : (asks : List ReadAsk) (ask : ReadAsk) (rest : List ℕ) → readers_of (asks ++ ask ∷ []) ++ rest ≡ readers_of asks ++ (ask.reader ∷ rest)
one_asks asks ask rest = ap (λ (ns : List ℕ). ns ++ rest) (map-append (λ (a : ReadAsk). a.reader) asks (ask ∷ [])) ∙ append_assoc (readers_of asks) (ask.reader ∷ []) rest

line_asks : (blocks : List ℕ) (number : ℕ) (i : Instruction) (old new : PlayState) (rest : List ℕ) → PlaysLine blocks number i old new → before new rest ≡ before old (cond (is_read i) (number ∷ rest) rest)
line_asks blocks number (says.Read b node offset count) old new rest e =
    ap (λ (p : PlayState). before p rest) e ∙ one_asks old.asks (ask_at (world_of old) number b node offset count) rest
line_asks blocks number (says.Run count) old new rest e = ap (λ (p : PlayState). before p rest) e ∙ same_asks (draws blocks count old) old rest (draws_ask blocks count old)
line_asks blocks number says.Settle old new rest s = same_asks new old rest (settles_ask blocks old new s)
line_asks blocks number (says.Step b event) old new rest e =
    let o = step_due (world_of old) b.0 event in
    ap (λ (p : PlayState). before p rest) e ∙ same_asks (stepped old o) old rest (step_ask old o)
line_asks blocks number (says.Stop node) old new rest e = ap (λ (p : PlayState). before p rest) e ∙ same_asks (stop_at old node) old rest (stop_ask old node)
line_asks blocks number (says.Start node) old new rest e = ap (λ (p : PlayState). before p rest) e ∙ same_asks (start_at old node) old rest (start_ask old node)
line_asks blocks number _ old new rest e = ap (λ (p : PlayState). before p rest) e

lines_ask : (blocks : List ℕ) (lines : List ScriptLine) (old new : PlayState) → PlaysLines blocks lines old new → readers_of new.asks ≡ before old (read_numbers lines)
lines_ask blocks [] old new s = ap readers_of (settles_ask blocks old new s) ∙ sym (append-nil (readers_of old.asks))
lines_ask blocks (l ∷ lines) old new h = lines_ask blocks lines h.0 new h.1.1 ∙ line_asks blocks l.number l.instruction old h.0 (read_numbers lines) h.1.0

-- SCRIPTS

head_asks : (i j : Instruction) (first second : ℕ) (lines : List ScriptLine) (end : PlayState) → PlaysFrom i j lines end
    → readers_of end.asks ≡ cond (is_read i) (first ∷ cond (is_read j) (second ∷ read_numbers lines) (read_numbers lines)) (cond (is_read j) (second ∷ read_numbers lines) (read_numbers lines))
head_asks (says.Nodes count) (says.Seed seed) first second lines end h = lines_ask (blocks_of lines) lines (opened count seed) end h
head_asks (says.Nodes count) _ first second lines end h = absurd h
head_asks _ j first second lines end h = absurd h

pub plays_ask : (lines : List ScriptLine) (end : PlayState) → Plays lines end → readers_of end.asks ≡ read_numbers lines
plays_ask [] end h = absurd h
plays_ask (first ∷ []) end h = absurd h
plays_ask (first ∷ (second ∷ lines)) end h = head_asks first.instruction second.instruction first.number second.number lines end h
