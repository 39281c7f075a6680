-- The lines of a script fit.
use Rattle.std.proofs.Common.{◌≡◌, ℕ, ◌+◌, ◌<◌, ◌≤◌, List, [], ◌∷◌, length, Option, Some, None, Ok, inl, inr, refl, sym, ◌∙◌, subst, arith}
use Rattle.std.specs.List.{All, AllByRecursion}
use Rattle.std.proofs.lemmas.Bool.{leb-true}
use Rattle.std.proofs.lemmas.Option.{slice_get_within, get_or_from_slice_get}
use Rattle.hd_base.proofs.ResultLaws.{bind_ok}
use Rattle.hd_base.specs.declared.numbers.NodeId.{NodeId}
use Rattle.script_lang.specs.declared.instructions.Instruction.{Instruction}
use Rattle.script_lang.specs.declared.instructions.Instruction.TheVariants as says
use Rattle.script_lang.specs.declared.instructions.ScriptLine.{ScriptLine}
use Rattle.script_lang.specs.Rules.{by_rules, AllKept}
use Rattle.script_lang.specs.Words.{words_of, lines_of}
use Rattle.script_lang.specs.Said.{NamesBelow}
use Rattle.script_lang.specs.Fits.{Before, start, fit_rules, after}
use Rattle.script_lang.specs.Scripts.{line_said, line_rules, words_said, most_lines}
use Rattle.script_lang.specs.Grammar.{numbered, AreGood, EachScript, NamesItsNodes}
use Rattle.script_lang.proofs.SaidLaws.{kept}
use Rattle.play_scripts.specs.Fitting.{MembersFit, WordsFit, LinesFit, begun, ScriptsFit}
use Rattle.play_scripts.specs.Numbering.{LinesAscend}
use Rattle.play_scripts.proofs.Formed.{AreFormed, IsFormed, HeadIs, head_stays, line_formed}
use Rattle.play_scripts.proofs.NumberingLemmas.{ascend_from, good_ascend}

-- ONE LINE AFTER THE OTHER

-- each line is formed, and fits those before it
abbrev AllFormed : Before → List ScriptLine → Type 0
AllFormed before [] = Unit {0}
AllFormed before (l ∷ lines) = IsFormed l.instruction × AllKept (fit_rules before l.instruction) × AllFormed (after before l.instruction) lines

all_formed : (shelves number : ℕ) (before : Before) (lines : List (List ℕ)) (said : List ScriptLine) → HeadIs before → AreGood shelves number before lines said → AllFormed before said
all_formed shelves number before [] said h g = subst (AllFormed before) (sym g.0) tt
all_formed shelves number before (line ∷ lines) said h g =
    elim g [
      | inl silent ↦ all_formed shelves (number + 1) before lines said h silent.1
      | inr one ↦ subst (AllFormed before) (sym one.4) (line_formed shelves number before line one.0 h one.2, one.3, all_formed shelves (number + 1) (after before one.0) lines one.1 (head_stays before one.0 h) one.5)
    ]

-- a line that has a number has a small one
few_numbers : (shelves number : ℕ) (before : Before) (line : List ℕ) (i : Option Instruction) → line_said shelves number before line ≡ Ok i → number ≤ most_lines
few_numbers shelves number before line i e =
    let k = bind_ok (by_rules {A = Unit {0}} (line_rules number line) tt) (λ kept. words_said shelves before (words_of line)) i e in
    leb-true number most_lines (kept {A = Unit {0}} (line_rules number line) tt k.0 k.1.0).0.1.0

few_lines : (shelves number : ℕ) (before : Before) (lines : List (List ℕ)) (said : List ScriptLine) → number ≤ most_lines + 1 → AreGood shelves number before lines said → number + length said ≤ most_lines + 1
few_lines shelves number before [] said few g = subst (λ (l : List ScriptLine). number + length l ≤ most_lines + 1) (sym g.0) (omega (arith, few))
few_lines shelves number before (line ∷ lines) said few g =
    elim g [
      | inl silent ↦
          let small = few_numbers shelves number before line None silent.0 in
          let next : number + 1 ≤ most_lines + 1 = omega (arith, small) in
          let rest = few_lines shelves (number + 1) before lines said next silent.1 in
          omega (arith, rest)
      | inr one ↦
          let small = few_numbers shelves number before line (Some one.0) one.2 in
          let next : number + 1 ≤ most_lines + 1 = omega (arith, small) in
          let rest = few_lines shelves (number + 1) (after before one.0) lines one.1 next one.5 in
          subst (λ (l : List ScriptLine). number + length l ≤ most_lines + 1) (sym one.4) (omega (arith, rest))
    ]

-- THE BODY

members_fit : (nodes : ℕ) (members : List NodeId) → AreFormed members → All (λ member. member.0 < nodes) members → MembersFit nodes members
members_fit nodes members f below = record { some = f.some; formed = f.formed; below = λ k m at. subst (λ (n : NodeId). n.0 < nodes) (get_or_from_slice_get members k m m at) (below k m (slice_get_within members k m at)) }

words_fit : (nodes : ℕ) (i : Instruction) → IsFormed i → NamesBelow nodes i → WordsFit nodes i
words_fit nodes (says.Nodes count) f names = names
words_fit nodes (says.Seed seed) f names = names
words_fit nodes (says.Sums block rule) f names = f
words_fit nodes (says.Create block members) f names = members_fit nodes members f names
words_fit nodes (says.Append block members) f names = members_fit nodes members f names
words_fit nodes (says.Write block bytes) f names = f
words_fit nodes (says.Read block at offset count) f names = names
words_fit nodes (says.Recover block at members) f names = (names.0, members_fit nodes members f names.1)
words_fit nodes (says.Fault at nth) f names = names
words_fit nodes _ f names = tt

-- a line behind the head leaves the number of nodes
same_nodes : (before : Before) (n : ℕ) (i : Instruction) → NamesBelow n i → (after before i).nodes ≡ before.nodes
same_nodes before n (says.Nodes count) names = absurd names
same_nodes before n (says.Seed seed) names = absurd names
same_nodes before n _ names = refl

lines_fit : (before : Before) (n : ℕ) (lines : List ScriptLine) → before.nodes ≡ n → AllFormed before lines → AllByRecursion (λ line. NamesBelow n line.instruction) lines → LinesFit before lines
lines_fit before n [] e f named = tt
lines_fit before n (l ∷ lines) e f named =
    (record { words = subst (λ (k : ℕ). WordsFit k l.instruction) (sym e) (words_fit n l.instruction f.0 named.0); kept = f.1 }, lines_fit (after before l.instruction) n lines (same_nodes before n l.instruction named.0 ∙ e) f.2 named.1)

-- SCRIPTS

pub script_fits : EachScript NamesItsNodes → ScriptsFit
script_fits names shelves text said s = record {
  nodes = n.nodes;
  seed = n.seed;
  first = n.first;
  second = n.second;
  body = n.body;
  parts = n.parts;
  few = n.few;
  shelved = n.shelved;
  lines = lines_fit (begun n.nodes n.seed) n.nodes n.body refl formed.2.2 n.named;
  count = omega (arith, count);
  ascend = ascend_from 0 (n.second + 1) n.body (omega arith) ascent.1.1;
} where
  n : NamesItsNodes shelves said
  n = names shelves text said s

  formed : AllFormed start (numbered n.first (says.Nodes n.nodes) ∷ numbered n.second (says.Seed n.seed) ∷ n.body)
  formed = subst (AllFormed start) n.parts (all_formed shelves 1 start (lines_of text) said (inl refl) s.good)

  count : 1 + length (numbered n.first (says.Nodes n.nodes) ∷ numbered n.second (says.Seed n.seed) ∷ n.body) ≤ most_lines + 1
  count = subst (λ (l : List ScriptLine). 1 + length l ≤ most_lines + 1) n.parts (few_lines shelves 1 start (lines_of text) said (omega arith) s.good)

  ascent : LinesAscend 1 (numbered n.first (says.Nodes n.nodes) ∷ numbered n.second (says.Seed n.seed) ∷ n.body)
  ascent = subst (LinesAscend 1) n.parts (good_ascend shelves 1 start (lines_of text) said s.good)
