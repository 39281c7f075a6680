-- A script is played to one end.
use Rattle.std.specs.Prelude.{◌≡◌, ℕ, List, [], ◌∷◌}
use Rattle.std.proofs.Common.{zero, suc, sym, refl, ap, ◌∙◌, subst}
use Rattle.script_lang.specs.declared.instructions.Instruction.{Instruction}
use Rattle.script_lang.specs.declared.instructions.Instruction.TheVariants as line
use Rattle.script_lang.specs.declared.instructions.ScriptLine.{ScriptLine}
use Rattle.play_model.specs.States.{PlayState}
use Rattle.play_model.specs.Dues.{dues}
use Rattle.play_model.specs.Draws.{draws, draw, drawn_from, Settles}
use Rattle.play_model.specs.Lines.{PlaysLine, PlaysLines, PlaysFrom, Plays}

-- Where nothing is due, draws change nothing.
still_drawn : (blocks : List ℕ) (p : PlayState) → dues blocks p ≡ [] → draw blocks p ≡ p
still_drawn blocks p none = ap (λ due. drawn_from due p) none

still : (blocks : List ℕ) (n : ℕ) (p : PlayState) → dues blocks p ≡ [] → draws blocks n p ≡ p
still blocks zero p none = refl
still blocks (suc n) p none = ap (draws blocks n) (still_drawn blocks p none) ∙ still blocks n p none

-- Of two counts of draws that come to a play in which nothing is due, both come to the same.
same_draws : (blocks : List ℕ) (n m : ℕ) (p : PlayState) → dues blocks (draws blocks n p) ≡ [] → dues blocks (draws blocks m p) ≡ [] → draws blocks n p ≡ draws blocks m p
same_draws blocks zero m p one other = sym (still blocks m p one)
same_draws blocks (suc n) zero p one other = still blocks (suc n) p other
same_draws blocks (suc n) (suc m) p one other = same_draws blocks n m (draw blocks p) one other

settles_once : (blocks : List ℕ) (p one other : PlayState) → Settles blocks p one → Settles blocks p other → one ≡ other
settles_once blocks p one other s t =
    let first = subst (λ q. dues blocks q ≡ []) (sym s.drawn_so) s.settled in
    let second = subst (λ q. dues blocks q ≡ []) (sym t.drawn_so) t.settled in
    sym s.drawn_so ∙ (same_draws blocks s.count t.count p first second ∙ t.drawn_so)

same : (p one other : PlayState) → one ≡ p → other ≡ p → one ≡ other
same p one other s t = s ∙ sym t

line_once : (blocks : List ℕ) (number : ℕ) (i : Instruction) (p one other : PlayState) → PlaysLine blocks number i p one → PlaysLine blocks number i p other → one ≡ other
line_once blocks number (line.Settle) p one other s t = settles_once blocks p one other s t
line_once blocks number (line.Nodes count) p one other s t = s ∙ sym t
line_once blocks number (line.Seed seed) p one other s t = s ∙ sym t
line_once blocks number (line.Sums b rule) p one other s t = s ∙ sym t
line_once blocks number (line.Create b members) p one other s t = s ∙ sym t
line_once blocks number (line.Append b members) p one other s t = s ∙ sym t
line_once blocks number (line.Write b bytes) p one other s t = s ∙ sym t
line_once blocks number (line.Fill b count) p one other s t = s ∙ sym t
line_once blocks number (line.Hflush b) p one other s t = s ∙ sym t
line_once blocks number (line.Hsync b) p one other s t = s ∙ sym t
line_once blocks number (line.Close b) p one other s t = s ∙ sym t
line_once blocks number (line.Read b n from count) p one other s t = s ∙ sym t
line_once blocks number (line.Recover b n members) p one other s t = s ∙ sym t
line_once blocks number (line.Cut b conn down up) p one other s t = s ∙ sym t
line_once blocks number (line.Fault n nth) p one other s t = s ∙ sym t
line_once blocks number (line.Stop n) p one other s t = s ∙ sym t
line_once blocks number (line.Start n) p one other s t = s ∙ sym t
line_once blocks number (line.Run count) p one other s t = s ∙ sym t
line_once blocks number (line.Step b e) p one other s t = s ∙ sym t
line_once blocks number (line.Expect n b state stamp written) p one other s t = s ∙ sym t

lines_once : (blocks : List ℕ) (lines : List ScriptLine) (p one other : PlayState) → PlaysLines blocks lines p one → PlaysLines blocks lines p other → one ≡ other
lines_once blocks [] p one other s t = settles_once blocks p one other s t
lines_once blocks (l ∷ lines) p one other s t =
    let e = line_once blocks l.number l.instruction p s.0 t.0 s.1.0 t.1.0 in
    lines_once blocks lines t.0 one other (subst (λ m. PlaysLines blocks lines m one) e s.1.1) t.1.1

from_once : (first second : Instruction) (lines : List ScriptLine) (one other : PlayState) → PlaysFrom first second lines one → PlaysFrom first second lines other → one ≡ other
from_once (line.Nodes count) (line.Seed seed) lines one other s t = lines_once _ lines _ one other s t
from_once first second lines one other s t = absurd s

pub one_end : (script : List ScriptLine) (one other : PlayState) → Plays script one → Plays script other → one ≡ other
one_end (first ∷ (second ∷ lines)) one other s t = from_once first.instruction second.instruction lines one other s t
one_end [] one other s t = absurd s
one_end (first ∷ []) one other s t = absurd s
