-- What holds of every script.
use Rattle.std.proofs.Common.{◌≡◌, ◌==◌, ℕ, ◌+◌, ◌≤◌, ◌&&◌, ◌||◌, not, nat_lt, nat_le, is_none, Bool, true, false, cond, List, [], ◌∷◌, ◌++◌, length, codes, bytes_eq, Option, Some, None, Result, Ok, Err, inl, inr, refl, sym, ◌∙◌, ap, subst, arith}
use Rattle.std.specs.List.{list_any, AllByRecursion}
use Rattle.std.proofs.lemmas.Bool.{leb-true, eqb-true, eq-eqb, and_parts}
use Rattle.std.proofs.lemmas.Bool.Decides.{eqb_tells}
use Rattle.hd_base.proofs.ResultLaws.{bind_ok, ok_value, err_ok}
use Rattle.hd_base.specs.declared.numbers.BlockId.{BlockId}
use Rattle.script_lang.specs.declared.faults.BadKind.{BadKind}
use Rattle.script_lang.specs.declared.faults.BadKind.TheVariants as kind
use Rattle.script_lang.specs.declared.instructions.Instruction.{Instruction}
use Rattle.script_lang.specs.declared.instructions.Instruction.TheVariants as says
use Rattle.script_lang.specs.declared.instructions.ScriptLine.{ScriptLine}
use Rattle.script_lang.specs.declared.progress.Head.{Head}
use Rattle.script_lang.specs.declared.progress.Head.TheVariants as head
use Rattle.script_lang.specs.declared.progress.Stage.{Stage}
use Rattle.script_lang.specs.declared.progress.Stage.TheVariants as stage
use Rattle.script_lang.specs.Rules.{by_rules, AllKept}
use Rattle.script_lang.specs.Words.{words_of, lines_of}
use Rattle.script_lang.specs.Numbers.{value_of, is_number, is_number_within}
use Rattle.script_lang.specs.Said.{NamesBelow, nodes_said, seed_said, one_of}
use Rattle.script_lang.specs.Fits.{Before, start, fit_rules, after, most_bytes, is_open, is_created}
use Rattle.script_lang.specs.Scripts.{line_said, line_rules, words_said, some_said, is_comment, command_said, head_said, head_is_there}
use Rattle.script_lang.specs.Grammar.{numbered, AreGood, IsScript, NamesItsNodes, written_by, read_by, total_of, is_append_of, writes_to, OpensBeforeWrites}
use Rattle.script_lang.proofs.SaidLaws.{kept, body_names}

-- ---- lines that fit one behind the other

abbrev pub FitsAll : Before → List ScriptLine → Type 0
FitsAll before [] = Unit {0}
FitsAll before (line ∷ lines) = AllKept (fit_rules before line.instruction) × FitsAll (after before line.instruction) lines

pub fits_all : (shelves number : ℕ) (before : Before) (lines : List (List ℕ)) (said : List ScriptLine) → AreGood shelves number before lines said → FitsAll before said
fits_all shelves number before [] said g = subst (FitsAll before) (sym g.0) tt
fits_all shelves number before (line ∷ lines) said g =
    elim g [
      | inl silent ↦ fits_all shelves (number + 1) before lines said silent.1
      | inr one ↦ subst (FitsAll before) (sym one.4) (one.3, fits_all shelves (number + 1) (after before one.0) lines one.1 one.5)
    ]

-- ---- lengths

wrote_step : (before : Before) (i : Instruction) → before.written ≤ most_bytes → AllKept (fit_rules before i) → ((after before i).written ≡ before.written + written_by i) × ((after before i).written ≤ most_bytes)
wrote_step before (says.Write block bytes) few k = (refl, leb-true (before.written + length bytes) most_bytes k.1.0)
wrote_step before (says.Fill block count) few k = (refl, leb-true (before.written + count) most_bytes k.1.0)
wrote_step before _ few k = (omega arith, few)

wrote_all : (before : Before) (said : List ScriptLine) → before.written ≤ most_bytes → FitsAll before said → before.written + total_of written_by said ≤ most_bytes
wrote_all before [] few f = omega arith
wrote_all before (line ∷ lines) few f =
    let s = wrote_step before line.instruction few f.0 in
    let rest = wrote_all (after before line.instruction) lines s.1 f.1 in
    omega (arith, s.0, rest)

read_step : (before : Before) (i : Instruction) → before.read ≤ most_bytes → AllKept (fit_rules before i) → ((after before i).read ≡ before.read + read_by i) × ((after before i).read ≤ most_bytes)
read_step before (says.Read block node offset count) few k = (refl, leb-true (before.read + count) most_bytes k.1.0)
read_step before _ few k = (omega arith, few)

read_all : (before : Before) (said : List ScriptLine) → before.read ≤ most_bytes → FitsAll before said → before.read + total_of read_by said ≤ most_bytes
read_all before [] few f = omega arith
read_all before (line ∷ lines) few f =
    let s = read_step before line.instruction few f.0 in
    let rest = read_all (after before line.instruction) lines s.1 f.1 in
    omega (arith, s.0, rest)

pub lengths_fit : (shelves : ℕ) (text : List ℕ) (said : List ScriptLine) → IsScript shelves text said → (total_of written_by said ≤ most_bytes) × (total_of read_by said ≤ most_bytes)
lengths_fit shelves text said s =
    let f = fits_all shelves 1 start (lines_of text) said s.good in
    let w = wrote_all start said (omega arith) f in
    let r = read_all start said (omega arith) f in
    (omega (arith, w), omega (arith, r))

-- ---- closes

abbrev ShutAt : Before → ℕ → Type 0
ShutAt before b = before.stage b ≡ Some stage.Closed

same_key : (b c : ℕ) → (b == c) ≡ true → c ≡ b
same_key b c e = sym (eqb-true b c e)

apart : (b c : ℕ) (x : Option Stage) (y : Stage) → (c == b) ≡ false → x ≡ Some stage.Closed → cond (b == c) (Some y) x ≡ Some stage.Closed
apart b c x y e shut =
    elim (eqb_tells b c) [
      | inl same ↦ absurd (let f : (c == b) ≡ true = eq-eqb c b (sym same.1) in let g : true ≡ false = sym f ∙ e in cc)
      | inr other ↦ rw other.0 shut
    ]

-- a line that may not stand behind a close of its block is of another block
other_block : (test : Option Stage → Bool) (before : Before) (b c : ℕ) → test (Some stage.Closed) ≡ false → ShutAt before b → test (before.stage c) ≡ true → (c == b) ≡ false
other_block test before b c bars shut e =
    elim (eqb_tells c b) [
      | inl same ↦ absurd (let f : test (before.stage c) ≡ false = ap test (ap before.stage same.1 ∙ shut) ∙ bars in let g : true ≡ false = sym e ∙ f in cc)
      | inr other ↦ other.0
    ]

stays_shut : (before : Before) (i : Instruction) (b : ℕ) → AllKept (fit_rules before i) → ShutAt before b → is_append_of b i ≡ false → ShutAt (after before i) b
stays_shut before (says.Sums c rule) b k shut bars = apart b c.0 (before.stage b) stage.Ruled (other_block is_none before b c.0 refl shut k.0) shut
stays_shut before (says.Create c members) b k shut bars =
    let both = and_parts (not (is_created (before.stage c.0))) (nat_lt before.created 1024) k.0 in
    apart b c.0 (before.stage b) stage.Open (other_block (λ s. not (is_created s)) before b c.0 refl shut both.0) shut
stays_shut before (says.Append c members) b k shut bars = apart b c.0 (before.stage b) stage.Open bars shut
stays_shut before (says.Close c) b k shut bars = at (b == c.0) where
  at : (t : Bool) → cond t (Some stage.Closed) (before.stage b) ≡ Some stage.Closed
  at true = refl
  at false = shut
stays_shut before _ b k shut bars = shut

-- what lines leave
abbrev left_by : Before → List ScriptLine → Before
left_by before [] = before
left_by before (line ∷ lines) = left_by (after before line.instruction) lines

behind : (before : Before) (front rest : List ScriptLine) → FitsAll before (front ++ rest) → FitsAll (left_by before front) rest
behind before [] rest f = f
behind before (line ∷ front) rest f = behind (after before line.instruction) front rest f.1

neither : (x y : Bool) → (x || y) ≡ false → (x ≡ false) × (y ≡ false)
neither true y e = absurd (let g : true ≡ false = e in cc)
neither false y e = (refl, e)

stay_shut : (before : Before) (between rest : List ScriptLine) (b : ℕ) → FitsAll before (between ++ rest) → ShutAt before b → list_any (λ line. is_append_of b line.instruction) between ≡ false → ShutAt (left_by before between) b
stay_shut before [] rest b f shut bars = shut
stay_shut before (line ∷ between) rest b f shut bars =
    let both = neither (is_append_of b line.instruction) (list_any (λ line. is_append_of b line.instruction) between) bars in
    stay_shut (after before line.instruction) between rest b f.1 (stays_shut before line.instruction b f.0 shut both.0) both.1

-- a line that needs its block open doesn't fit behind a close of it
open_rule : (before : Before) (b c : ℕ) → ShutAt before b → (c == b) ≡ true → is_open (before.stage c) ≡ true → ⊥
open_rule before b c shut same opened = absurd (let f : is_open (before.stage c) ≡ false = ap is_open (ap before.stage (eqb-true c b same) ∙ shut) in let g : true ≡ false = sym opened ∙ f in cc)

no_write : (before : Before) (i : Instruction) (b : ℕ) → AllKept (fit_rules before i) → ShutAt before b → writes_to b i ≡ true → ⊥
no_write before (says.Write c bytes) b k shut w = open_rule before b c.0 shut w k.0
no_write before (says.Fill c count) b k shut w = open_rule before b c.0 shut w k.0
no_write before (says.Hflush c) b k shut w = open_rule before b c.0 shut w k.0
no_write before (says.Hsync c) b k shut w = open_rule before b c.0 shut w k.0
no_write before (says.Close c) b k shut w = open_rule before b c.0 shut w k.0
no_write before _ b k shut w = absurd (let g : false ≡ true = w in cc)

just_shut : (before : Before) (b : BlockId) → ShutAt (after before (says.Close b)) b.0
just_shut before b = let same : (b.0 == b.0) ≡ true = eq-eqb b.0 b.0 refl in rw same refl

pub opens_before : (shelves : ℕ) (text : List ℕ) (said : List ScriptLine) → IsScript shelves text said → OpensBeforeWrites said
opens_before shelves text said s b n m i front between rest e w = at (list_any (λ line. is_append_of b.0 line.instruction) between) refl where
  all : FitsAll start (front ++ numbered n (says.Close b) ∷ (between ++ numbered m i ∷ rest))
  all = subst (FitsAll start) e (fits_all shelves 1 start (lines_of text) said s.good)

  closed : FitsAll (left_by start front) (numbered n (says.Close b) ∷ (between ++ numbered m i ∷ rest))
  closed = behind start front (numbered n (says.Close b) ∷ (between ++ numbered m i ∷ rest)) all

  at : (t : Bool) → list_any (λ line. is_append_of b.0 line.instruction) between ≡ t → t ≡ true
  at true bars = refl
  at false bars =
      let closing = after (left_by start front) (says.Close b) in
      let shut = stay_shut closing between (numbered m i ∷ rest) b.0 closed.1 (just_shut (left_by start front) b) bars in
      absurd (no_write (left_by closing between) i b.0 (behind closing between (numbered m i ∷ rest) closed.1).0 shut w)

-- ---- nodes

-- the command of a line that says something
record Said (shelves : ℕ) (before : Before) (i : Instruction) : Type 0 where
  word : List ℕ
  words : List (List ℕ)
  is : command_said before.head shelves before.nodes word words ≡ Ok i

none_some : (i : Instruction) → None ≡ Some i → ⊥
none_some i e = cc

some_ok : (r : Result Instruction BadKind) (i : Instruction) → some_said r ≡ Ok (Some i) → r ≡ Ok i
some_ok (Ok j) i e = let f : Some j ≡ Some i = ok_value (Some j) (Some i) e in cc
some_ok (Err k) i e = absurd (err_ok k (Some i) e)

words_command : (shelves : ℕ) (before : Before) (i : Instruction) (all : List (List ℕ)) → words_said shelves before all ≡ Ok (Some i) → Said shelves before i
unfolding words_said
words_command shelves before i [] e = absurd (none_some i (ok_value None (Some i) e))
words_command shelves before i (word ∷ words) e = at (is_comment word) e where
  at : (b : Bool) → cond b (Ok None) (some_said (command_said before.head shelves before.nodes word words)) ≡ Ok (Some i) → Said shelves before i
  at true e = absurd (none_some i (ok_value None (Some i) e))
  at false e = record { word = word; words = words; is = some_ok (command_said before.head shelves before.nodes word words) i e }

command_of : (shelves number : ℕ) (before : Before) (line : List ℕ) (i : Instruction) → line_said shelves number before line ≡ Ok (Some i) → Said shelves before i
command_of shelves number before line i e =
    let k = bind_ok (by_rules {A = Unit {0}} (line_rules number line) tt) (λ kept. words_said shelves before (words_of line)) (Some i) e in
    words_command shelves before i (words_of line) k.1.1

headed : (name word : List ℕ) (said : Result Instruction BadKind) (i : Instruction) → head_said name word said ≡ Ok i → said ≡ Ok i
headed name word said i e = at (bytes_eq word name) e where
  at : (b : Bool) → cond b said (Err kind.Head) ≡ Ok i → said ≡ Ok i
  at true e = e
  at false e = absurd (err_ok kind.Head i e)

-- the first command line, the second and the later ones
record IsNodes (shelves : ℕ) (i : Instruction) : Type 0 where
  count : ℕ
  is : i ≡ says.Nodes count
  few : count ≤ 16
  shelved : count ≤ shelves

nodes_is : (shelves : ℕ) (words : List (List ℕ)) (i : Instruction) → nodes_said shelves words ≡ Ok i → IsNodes shelves i
unfolding nodes_said
nodes_is shelves words i e =
    let w = bind_ok (one_of words) _ i e in
    let k = kept ((kind.Number, is_number_within 1 16 w.0) ∷ (kind.TooManyNodes, nat_le (value_of w.0) shelves) ∷ []) (says.Nodes (value_of w.0)) i w.1.1 in
    record {
      count = value_of w.0;
      is = sym k.1;
      few = leb-true (value_of w.0) 16 (and_parts (is_number w.0 && nat_le 1 (value_of w.0)) (nat_le (value_of w.0) 16) k.0.0).1;
      shelved = leb-true (value_of w.0) shelves k.0.1.0;
    }

first_is : (shelves : ℕ) (before : Before) (i : Instruction) → before.head ≡ head.Nodes → Said shelves before i → IsNodes shelves i
unfolding command_said
first_is shelves before i h s =
    let e : command_said head.Nodes shelves before.nodes s.word s.words ≡ Ok i = sym (ap (λ h. command_said h shelves before.nodes s.word s.words) h) ∙ s.is in
    nodes_is shelves s.words i (headed (codes "nodes") s.word (nodes_said shelves s.words) i e)

seed_is : (words : List (List ℕ)) (i : Instruction) → seed_said words ≡ Ok i → (seed : ℕ) × (i ≡ says.Seed seed)
unfolding seed_said
seed_is words i e =
    let w = bind_ok (one_of words) _ i e in
    let k = kept ((kind.Number, is_number w.0) ∷ []) (says.Seed (value_of w.0)) i w.1.1 in
    (value_of w.0, sym k.1)

second_is : (shelves : ℕ) (before : Before) (i : Instruction) → before.head ≡ head.Seed → Said shelves before i → (seed : ℕ) × (i ≡ says.Seed seed)
unfolding command_said
second_is shelves before i h s =
    let e : command_said head.Seed shelves before.nodes s.word s.words ≡ Ok i = sym (ap (λ h. command_said h shelves before.nodes s.word s.words) h) ∙ s.is in
    seed_is s.words i (headed (codes "seed") s.word (seed_said s.words) i e)

later_is : (shelves : ℕ) (before : Before) (i : Instruction) → before.head ≡ head.Body → Said shelves before i → NamesBelow before.nodes i
unfolding command_said
later_is shelves before i h s =
    let e : command_said head.Body shelves before.nodes s.word s.words ≡ Ok i = sym (ap (λ h. command_said h shelves before.nodes s.word s.words) h) ∙ s.is in
    body_names before.nodes s.word s.words i e

-- a later line leaves the head and the number of nodes
keeps_head : (before : Before) (n : ℕ) (i : Instruction) → NamesBelow n i → ((after before i).head ≡ before.head) × ((after before i).nodes ≡ before.nodes)
keeps_head before n (says.Nodes count) names = absurd names
keeps_head before n (says.Seed seed) names = absurd names
keeps_head before n _ names = (refl, refl)

body_named : (shelves number : ℕ) (before : Before) (lines : List (List ℕ)) (said : List ScriptLine) (n : ℕ) → before.head ≡ head.Body → before.nodes ≡ n → AreGood shelves number before lines said → AllByRecursion (λ line. NamesBelow n line.instruction) said
body_named shelves number before [] said n h e g = subst (AllByRecursion (λ line. NamesBelow n line.instruction)) (sym g.0) tt
body_named shelves number before (line ∷ lines) said n h e g =
    elim g [
      | inl silent ↦ body_named shelves (number + 1) before lines said n h e silent.1
      | inr one ↦
          let names = subst (λ k. NamesBelow k one.0) e (later_is shelves before one.0 h (command_of shelves number before line one.0 one.2)) in
          let same = keeps_head before n one.0 names in
          subst (AllByRecursion (λ line. NamesBelow n line.instruction)) (sym one.4) (names, body_named shelves (number + 1) (after before one.0) lines one.1 n (same.0 ∙ h) (same.1 ∙ e) one.5)
    ]

no_end : (before : Before) (h : Head) → before.head ≡ h → head_is_there h ≡ false → head_is_there before.head ≡ true → ⊥
no_end before h e bars there = let f : false ≡ true = sym (ap head_is_there e ∙ bars) ∙ there in none_true f where
  none_true : false ≡ true → ⊥
  none_true f = cc

-- the seed's line, and the body
record Seeded (n : ℕ) (said : List ScriptLine) : Type 0 where
  seed : ℕ
  second : ℕ
  body : List ScriptLine
  parts : said ≡ numbered second (says.Seed seed) ∷ body
  named : AllByRecursion (λ line. NamesBelow n line.instruction) body

seeded : (shelves number : ℕ) (before : Before) (lines : List (List ℕ)) (said : List ScriptLine) (n : ℕ) → before.head ≡ head.Seed → before.nodes ≡ n → AreGood shelves number before lines said → Seeded n said
seeded shelves number before [] said n h e g = absurd (no_end before head.Seed h refl g.1)
seeded shelves number before (line ∷ lines) said n h e g =
    elim g [
      | inl silent ↦ seeded shelves (number + 1) before lines said n h e silent.1
      | inr one ↦
          let s = second_is shelves before one.0 h (command_of shelves number before line one.0 one.2) in
          let good = subst (λ i. AreGood shelves (number + 1) (after before i) lines one.1) s.1 one.5 in
          record {
            seed = s.0;
            second = number;
            body = one.1;
            parts = one.4 ∙ ap (λ i. numbered number i ∷ one.1) s.1;
            named = body_named shelves (number + 1) (after before (says.Seed s.0)) lines one.1 n refl e good;
          }
    ]

headed_all : (shelves number : ℕ) (before : Before) (lines : List (List ℕ)) (said : List ScriptLine) → before.head ≡ head.Nodes → AreGood shelves number before lines said → NamesItsNodes shelves said
headed_all shelves number before [] said h g = absurd (no_end before head.Nodes h refl g.1)
headed_all shelves number before (line ∷ lines) said h g =
    elim g [
      | inl silent ↦ headed_all shelves (number + 1) before lines said h silent.1
      | inr one ↦
          let f = first_is shelves before one.0 h (command_of shelves number before line one.0 one.2) in
          let good = subst (λ i. AreGood shelves (number + 1) (after before i) lines one.1) f.is one.5 in
          let s = seeded shelves (number + 1) (after before (says.Nodes f.count)) lines one.1 f.count refl refl good in
          record {
            nodes = f.count;
            seed = s.seed;
            first = number;
            second = s.second;
            body = s.body;
            parts = one.4 ∙ (ap (λ i. numbered number i ∷ one.1) f.is ∙ ap (λ l. numbered number (says.Nodes f.count) ∷ l) s.parts);
            few = f.few;
            shelved = f.shelved;
            named = s.named;
          }
    ]

pub names_its_nodes : (shelves : ℕ) (text : List ℕ) (said : List ScriptLine) → IsScript shelves text said → NamesItsNodes shelves said
names_its_nodes shelves text said s = headed_all shelves 1 start (lines_of text) said refl s.good
