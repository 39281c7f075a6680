-- The lines of a storm fit, one after the other.
use Rattle.std.proofs.Common.{◌≡◌, ℕ, zero, suc, ◌+◌, ◌*◌, ◌≤◌, ◌<◌, Bool, true, false, List, [], ◌∷◌, ◌++◌, length, Option, Some, None, refl, sym, ap, subst, ◌∙◌, arith}
use Rattle.std.specs.Prelude.{◌==◌, ◌&&◌, ◌%◌, not, nat_le, nat_lt, if◌then◌else◌}
use Rattle.std.proofs.lemmas.Bool.Decides.{nat_tests}
use Rattle.std.proofs.lemmas.List.{length-append}
use Rattle.hd_base.specs.declared.numbers.BlockId.{BlockId}
use Rattle.hd_base.specs.declared.numbers.NodeId.{NodeId}
use Rattle.script_lang.specs.declared.instructions.Instruction.{Instruction}
use Rattle.script_lang.specs.declared.instructions.Instruction.TheVariants as line
use Rattle.script_lang.specs.declared.instructions.ScriptLine.{ScriptLine}
use Rattle.script_lang.specs.Fits.{Before, after, is_open, is_created, most_bytes, with_stopped}
use Rattle.script_lang.specs.Grammar.{numbered}
use Rattle.script_lang.specs.Storms.{Making, says, drawn, advanced, storm_block, block_of_round, storm_node, three_from, all_nodes, writing, cut, fault, restart, recovery, when, cutting, failing, restarting, round, begun as storm_begun, creates, rounds, closes, storm}
use Rattle.play_laws.specs.World.Clients.{are_members}
use Rattle.play_laws.specs.Members.{AreAll, IsNode}
use Rattle.play_scripts.specs.Fitting.{MembersFit, LineFits, LinesFit, begun}
use Rattle.play_scripts.specs.Storms.{StormsFit}
use Rattle.play_scripts.proofs.NumberingLemmas.{ascend_from, Counted, counted_more, counted_ascend}

-- LINES

-- what some lines leave
abbrev leaves : Before → List ScriptLine → Before
leaves before [] = before
leaves before (l ∷ lines) = leaves (after before l.instruction) lines

fits_more : (before : Before) (lines : List ScriptLine) (l : ScriptLine) → LinesFit before lines → LineFits (leaves before lines) l.instruction → LinesFit before (lines ++ l ∷ [])
fits_more before [] l fits last = (last, tt)
fits_more before (x ∷ lines) l fits last = (fits.0, fits_more (after before x.instruction) lines l fits.1 last)

leaves_more : (before : Before) (lines : List ScriptLine) (l : ScriptLine) → leaves before (lines ++ l ∷ []) ≡ after (leaves before lines) l.instruction
leaves_more before [] l = refl
leaves_more before (x ∷ lines) l = leaves_more (after before x.instruction) lines l

-- A storm's script so far: its lines behind the head fit, are counted on from the head's, are at most so many, and leave
-- this.
record Made (number : ℕ) (m : Making) (most : ℕ) (b : Before) : Type 0 where
  body : List ScriptLine
  parts : m.lines ≡ numbered 1 (line.Nodes 5) ∷ (numbered 2 (line.Seed number) ∷ body)
  fits : LinesFit (begun 5 number) body
  left : leaves (begun 5 number) body ≡ b
  few : length body ≤ most
  counted : Counted 3 body

-- the number of the line behind a head of two lines and some others
next_number : (all body : List ScriptLine) (a b : ScriptLine) → all ≡ a ∷ (b ∷ body) → length all + 1 ≡ 3 + length body
next_number all body a b e =
    let same : length all ≡ length (a ∷ (b ∷ body)) = ap length e in
    omega (arith, same)

said : (number : ℕ) (m : Making) (most : ℕ) (b : Before) (i : Instruction) → Made number m most b → LineFits b i → Made number (says i m) (most + 1) (after b i)
said number m most b i made fits =
    let l : ScriptLine = record { number = length m.lines + 1; instruction = i } in
    record {
      body = made.body ++ l ∷ [];
      parts = ap (λ (ls : List ScriptLine). ls ++ l ∷ []) made.parts;
      fits = fits_more (begun 5 number) made.body l made.fits (subst (λ (x : Before). LineFits x i) (sym made.left) fits);
      left = leaves_more (begun 5 number) made.body l ∙ ap (λ (x : Before). after x i) made.left;
      few = omega (arith, length-append made.body (l ∷ []), made.few);
      counted = counted_more 3 made.body l made.counted (next_number m.lines made.body (numbered 1 (line.Nodes 5)) (numbered 2 (line.Seed number)) made.parts);
    }

-- The same with another generator.
drew : (number : ℕ) (m : Making) (most : ℕ) (b : Before) → Made number m most b → Made number (advanced m) most b
drew number m most b made = record { body = made.body; parts = made.parts; fits = made.fits; left = made.left; few = made.few; counted = made.counted }

-- The same of no more lines.
fewer : (number : ℕ) (m : Making) (few most : ℕ) (b : Before) → few ≤ most → Made number m few b → Made number m most b
fewer number m few most b le made = record { body = made.body; parts = made.parts; fits = made.fits; left = made.left; few = omega (arith, le, made.few); counted = made.counted }

-- MEMBERS

below_five : (n : ℕ) → n % 5 < 5
below_five n = omega arith

same_node : (a b : NodeId) → ◌≡◌ {A = Option NodeId} (Some a) (Some b) → a ≡ b
same_node a b e = cc

no_node : (a : NodeId) (P : Type 0) → ◌≡◌ {A = Option NodeId} None (Some a) → P
no_node a P e = cc

three_below : (f : ℕ) → AreAll (IsNode 5) (three_from f)
three_below f zero m e = subst (λ (x : NodeId). x.0 < 5) (same_node (storm_node f) m e) (below_five f)
three_below f (suc zero) m e = subst (λ (x : NodeId). x.0 < 5) (same_node (storm_node (f + 1)) m e) (below_five (f + 1))
three_below f (suc (suc zero)) m e = subst (λ (x : NodeId). x.0 < 5) (same_node (storm_node (f + 2)) m e) (below_five (f + 2))
three_below f (suc (suc (suc k))) m e = no_node m _ e

three_formed : (f : ℕ) → f < 5 → are_members (three_from f) ≡ true
three_formed zero h = refl
three_formed (suc zero) h = refl
three_formed (suc (suc zero)) h = refl
three_formed (suc (suc (suc zero))) h = refl
three_formed (suc (suc (suc (suc zero)))) h = refl
three_formed (suc (suc (suc (suc (suc n))))) h = absurd (omega (arith, h))

three_fit : (f : ℕ) → f < 5 → MembersFit 5 (three_from f)
three_fit f h = record { some = refl; formed = three_formed f h; below = three_below f }

all_below : AreAll (IsNode 5) all_nodes
all_below zero m e = subst (λ (x : NodeId). x.0 < 5) (same_node _ m e) (omega arith)
all_below (suc zero) m e = subst (λ (x : NodeId). x.0 < 5) (same_node _ m e) (omega arith)
all_below (suc (suc zero)) m e = subst (λ (x : NodeId). x.0 < 5) (same_node _ m e) (omega arith)
all_below (suc (suc (suc zero))) m e = subst (λ (x : NodeId). x.0 < 5) (same_node _ m e) (omega arith)
all_below (suc (suc (suc (suc zero)))) m e = subst (λ (x : NodeId). x.0 < 5) (same_node _ m e) (omega arith)
all_below (suc (suc (suc (suc (suc k))))) m e = no_node m _ e

all_fit : MembersFit 5 all_nodes
all_fit = record { some = refl; formed = refl; below = all_below }

-- CREATES

abbrev first_block : ℕ
first_block = 1073741825

-- So many blocks were created, and are open.
record Creating (b : Before) (n : ℕ) : Type 0 where
  nodes : b.nodes ≡ 5
  created : b.created ≡ n
  opened : (j : ℕ) → j < n → is_open (b.stage (first_block + j)) ≡ true
  there : (j : ℕ) → j < n → is_created (b.stage (first_block + j)) ≡ true
  fresh : (j : ℕ) → n ≤ j → b.stage (first_block + j) ≡ None
  runs : (d : ℕ) → b.stopped d ≡ false
  written : b.written ≡ 0

-- Some lines of a storm, and what holds behind them.
record At (number : ℕ) (m : Making) (most : ℕ) (P : Before → Type 0) : Type 0 where
  before : Before
  made : Made number m most before
  is : P before

other_block : (j n : ℕ) → (j ≡ n → ⊥) → (first_block + j == first_block + n) ≡ false
other_block j n other = grind (arith, nat_tests, other)

same_block : (n : ℕ) → (first_block + n == first_block + n) ≡ true
same_block n = grind (arith, nat_tests)

few_created : (b : Before) (n : ℕ) → b.created ≡ n → n < 8 → nat_lt b.created 1024 ≡ true
few_created b n e h = grind (arith, nat_tests, e, h)

create_kept : (b : Before) (n : ℕ) → n < 8 → Creating b n → (not (is_created (b.stage (first_block + n))) && nat_lt b.created 1024) ≡ true
create_kept b n h c = rw (c.fresh n (omega arith)) (few_created b n c.created h)

created : (b : Before) (n : ℕ) (members : List NodeId) → Creating b n → Creating (after b (line.Create (storm_block n) members)) (suc n)
created b n members c = record {
  nodes = c.nodes;
  created = omega (arith, c.created);
  opened = λ j h. by j h (first_block + j == first_block + n) refl;
  there = λ j h. by_there j h (first_block + j == first_block + n) refl;
  fresh = λ j h. rw (other_block j n (λ e. absurd (omega (arith, e, h)))) (c.fresh j (omega (arith, h)));
  runs = c.runs;
  written = c.written;
}
  where
    by : (j : ℕ) → j < suc n → (t : Bool) → (first_block + j == first_block + n) ≡ t → is_open ((after b (line.Create (storm_block n) members)).stage (first_block + j)) ≡ true
    by j h true e = rw e refl
    by j h false e =
        let other : j < n = grind (arith, nat_tests, e, h) in
        rw e (c.opened j other)

    by_there : (j : ℕ) → j < suc n → (t : Bool) → (first_block + j == first_block + n) ≡ t → is_created ((after b (line.Create (storm_block n) members)).stage (first_block + j)) ≡ true
    by_there j h true e = rw e refl
    by_there j h false e =
        let other : j < n = grind (arith, nat_tests, e, h) in
        rw e (c.there j other)

drawn_below : (m : Making) → drawn 5 m < 5
drawn_below m = omega arith

all_created : (number : ℕ) (m : Making) (n : ℕ) → n ≤ 8 → At number m 0 (λ b. Creating b 0) → At number (creates n m) n (λ b. Creating b n)
unfolding creates
all_created number m zero h at = at
all_created number m (suc n) h at =
    let rest = all_created number m n (omega (arith, h)) at in
    let early : n < 8 = omega (arith, h) in
    let fits : LineFits rest.before (line.Create (storm_block n) (three_from (drawn 5 (creates n m)))) = record {
      words = subst (λ d. MembersFit d (three_from (drawn 5 (creates n m)))) (sym rest.is.nodes) (three_fit (drawn 5 (creates n m)) (drawn_below (creates n m)));
      kept = (create_kept rest.before n early rest.is, tt);
    } in
    let made = said number (advanced (creates n m)) n rest.before (line.Create (storm_block n) (three_from (drawn 5 (creates n m)))) (drew number (creates n m) n rest.before rest.made) fits in
    record {
      before = after rest.before (line.Create (storm_block n) (three_from (drawn 5 (creates n m))));
      made = fewer number _ (n + 1) (suc n) _ (omega arith) made;
      is = created rest.before n (three_from (drawn 5 (creates n m))) rest.is;
    }

-- ROUNDS

-- All blocks are open, all nodes run, and so many bytes were written.
record Writing (b : Before) (bytes : ℕ) : Type 0 where
  nodes : b.nodes ≡ 5
  opened : (j : ℕ) → j < 8 → is_open (b.stage (first_block + j)) ≡ true
  there : (j : ℕ) → j < 8 → is_created (b.stage (first_block + j)) ≡ true
  runs : (d : ℕ) → b.stopped d ≡ false
  written : b.written ≡ bytes

of_round : (r : ℕ) → r % 8 < 8
of_round r = omega arith

few_bytes : (b : Before) (bytes : ℕ) → b.written ≡ bytes → bytes + 65536 ≤ 33554432 → nat_le (b.written + 65536) most_bytes ≡ true
few_bytes b bytes e h = grind (arith, nat_tests, e, h)

module _ (number r : ℕ) where
  abbrev block : BlockId
  block = block_of_round r

  written : (m : Making) (most bytes : ℕ) → bytes + 65536 ≤ 33554432 → At number m most (λ b. Writing b bytes) → At number (writing block m) (most + 3) (λ b. Writing b (bytes + 65536))
  written m most bytes h at =
      let b = at.before in
      let opened = at.is.opened (r % 8) (of_round r) in
      let filled = after b (line.Fill block 65536) in
      let one = said number m most b (line.Fill block 65536) at.made (record { words = tt; kept = (opened, (few_bytes b bytes at.is.written h, tt)) }) in
      let two = said number (says (line.Fill block 65536) m) (most + 1) filled (line.Hflush block) one (record { words = tt; kept = (opened, tt) }) in
      let flushed = says (line.Hflush block) (says (line.Fill block 65536) m) in
      let three = said number (advanced flushed) (most + 1 + 1) filled (line.Run (drawn 200 flushed)) (drew number flushed (most + 1 + 1) filled two) (record { words = tt; kept = tt }) in
      record {
        before = filled;
        made = fewer number _ (most + 1 + 1 + 1) (most + 3) filled (omega arith) three;
        is = record { nodes = at.is.nodes; opened = at.is.opened; there = at.is.there; runs = at.is.runs; written = omega (arith, at.is.written) };
      }

  when_so : (t : Bool) (f : Making → Making) (m : Making) (most more : ℕ) (P : Before → Type 0) → At number m most P → (At number m most P → At number (f m) (most + more) P) → At number (when t f m) (most + more) P
  when_so true f m most more P at follows = follows at
  when_so false f m most more P at follows = record { before = at.before; made = fewer number m most (most + more) at.before (omega arith) at.made; is = at.is }

  -- a line that leaves all as it was
  quiet : (m : Making) (most : ℕ) (b : Before) (i : Instruction) → after b i ≡ b → Made number m most b → LineFits b i → Made number (says i m) (most + 1) b
  quiet m most b i same made fits = subst (λ (x : Before). Made number (says i m) (most + 1) x) same (said number m most b i made fits)

  was_cut : (m : Making) (most bytes : ℕ) → At number m most (λ b. Writing b bytes) → At number (cut block m) (most + 1) (λ b. Writing b bytes)
  was_cut m most bytes at =
      let b = at.before in
      let there = at.is.there (r % 8) (of_round r) in
      let drawn_all = drew number _ most b (drew number _ most b (drew number m most b at.made)) in
      record {
        before = b;
        made = quiet (advanced (advanced (advanced m))) most b (line.Cut block (drawn 3 m) (drawn 4 (advanced m)) (drawn 4 (advanced (advanced m)))) refl drawn_all (record { words = tt; kept = (there, tt) });
        is = at.is;
      }

  was_failed : (m : Making) (most bytes : ℕ) → At number m most (λ b. Writing b bytes) → At number (fault m) (most + 1) (λ b. Writing b bytes)
  was_failed m most bytes at =
      let b = at.before in
      record {
        before = b;
        made = quiet (advanced (advanced m)) most b (line.Fault (record { 0 = drawn 5 m }) (1 + drawn 3 (advanced m))) refl (drew number _ most b (drew number m most b at.made))
            (record { words = subst (λ d. IsNode d (record { 0 = drawn 5 m })) (sym at.is.nodes) (drawn_below m); kept = tt });
        is = at.is;
      }

  abbrev node_of : Making → NodeId
  node_of m = record { 0 = drawn 5 m }

  stopped_itself : (b : Before) (n : NodeId) → (with_stopped b n true).stopped n.0 ≡ true
  stopped_itself b n =
      let same : (n.0 == n.0) ≡ true = grind (arith, nat_tests) in
      ap (λ (t : Bool). if t then true else b.stopped n.0) same

  runs_again : (b : Before) (n : NodeId) (d : ℕ) → b.stopped d ≡ false → (with_stopped (with_stopped b n true) n false).stopped d ≡ false
  runs_again b n d e = by (d == n.0) where
    by : (t : Bool) → (if t then false else (if t then true else b.stopped d)) ≡ false
    by true = refl
    by false = e

  was_restarted : (m : Making) (most bytes : ℕ) → At number m most (λ b. Writing b bytes) → At number (restart m) (most + 3) (λ b. Writing b bytes)
  was_restarted m most bytes at =
      let b = at.before in
      let n = node_of m in
      let down = with_stopped b n true in
      let one = said number (advanced m) most b (line.Stop n) (drew number m most b at.made) (record { words = tt; kept = (ap not (at.is.runs n.0), tt) }) in
      let two = quiet (says (line.Stop n) (advanced m)) (most + 1) down (line.Run 50) refl one (record { words = tt; kept = tt }) in
      let three = said number (says (line.Run 50) (says (line.Stop n) (advanced m))) (most + 1 + 1) down (line.Start n) two (record { words = tt; kept = (stopped_itself b n, tt) }) in
      record {
        before = with_stopped down n false;
        made = fewer number _ (most + 1 + 1 + 1) (most + 3) _ (omega arith) three;
        is = record { nodes = at.is.nodes; opened = at.is.opened; there = at.is.there; runs = λ d. runs_again b n d (at.is.runs d); written = at.is.written };
      }

  was_recovered : (m : Making) (most bytes : ℕ) → At number m most (λ b. Writing b bytes) → At number (recovery block m) (most + 1) (λ b. Writing b bytes)
  was_recovered m most bytes at =
      let b = at.before in
      let there = at.is.there (r % 8) (of_round r) in
      record {
        before = b;
        made = quiet (advanced m) most b (line.Recover block (node_of m) all_nodes) refl (drew number m most b at.made)
            (record { words = subst (λ d. IsNode d (node_of m) × MembersFit d all_nodes) (sym at.is.nodes) (drawn_below m, all_fit); kept = (there, tt) });
        is = at.is;
      }

  one_round : (m : Making) (most bytes : ℕ) → bytes + 65536 ≤ 33554432 → At number m most (λ b. Writing b bytes) → At number (round r m) (most + 9) (λ b. Writing b (bytes + 65536))
  unfolding round
  one_round m most bytes h at =
      let P : Before → Type 0 = λ b. Writing b (bytes + 65536) in
      let m1 = writing block m in
      let a1 = written m most bytes h at in
      let m2 = cutting r block m1 in
      let a2 = when_so (nat_lt r 120 && r % 3 == 0) (cut block) m1 (most + 3) 1 P a1 (was_cut m1 (most + 3) (bytes + 65536)) in
      let m3 = failing r m2 in
      let a3 = when_so (nat_lt r 120 && r % 10 == 5) fault m2 (most + 3 + 1) 1 P a2 (was_failed m2 (most + 3 + 1) (bytes + 65536)) in
      let m4 = restarting r m3 in
      let a4 = when_so (r % 20 == 12) restart m3 (most + 3 + 1 + 1) 3 P a3 (was_restarted m3 (most + 3 + 1 + 1) (bytes + 65536)) in
      let a5 = when_so (r % 32 == 31) (recovery block) m4 (most + 3 + 1 + 1 + 3) 1 P a4 (was_recovered m4 (most + 3 + 1 + 1 + 3) (bytes + 65536)) in
      record { before = a5.before; made = fewer number _ (most + 3 + 1 + 1 + 3 + 1) (most + 9) a5.before (omega arith) a5.made; is = a5.is }

all_rounds : (number : ℕ) (m : Making) (n : ℕ) → n ≤ 128 → At number m 8 (λ b. Writing b 0) → At number (rounds n m) (8 + 9 * n) (λ b. Writing b (65536 * n))
unfolding rounds
all_rounds number m zero h at = record { before = at.before; made = fewer number m 8 (8 + 9 * 0) at.before (omega arith) at.made; is = subst (λ k. Writing at.before k) (omega arith) at.is }
all_rounds number m (suc n) h at =
    let rest = all_rounds number m n (omega (arith, h)) at in
    let done = one_round number n (rounds n m) (8 + 9 * n) (65536 * n) (omega (arith, h)) rest in
    record {
      before = done.before;
      made = fewer number _ (8 + 9 * n + 9) (8 + 9 * suc n) done.before (omega arith) done.made;
      is = subst (λ k. Writing done.before k) (omega arith) done.is;
    }

-- CLOSES

-- All blocks but the first ones are open, so many of which were closed.
record Closing (b : Before) (n : ℕ) : Type 0 where
  opened : (j : ℕ) → n ≤ j → j < 8 → is_open (b.stage (first_block + j)) ≡ true

all_closed : (number : ℕ) (m : Making) (n most : ℕ) → n ≤ 8 → At number m most (λ b. Closing b 0) → At number (closes n m) (most + n) (λ b. Closing b n)
unfolding closes
all_closed number m zero most h at = record { before = at.before; made = fewer number m most (most + 0) at.before (omega arith) at.made; is = at.is }
all_closed number m (suc n) most h at =
    let rest = all_closed number m n most (omega (arith, h)) at in
    let b = rest.before in
    let made = said number (closes n m) (most + n) b (line.Close (storm_block n)) rest.made (record { words = tt; kept = (rest.is.opened n (omega arith) (omega (arith, h)), tt) }) in
    record {
      before = after b (line.Close (storm_block n));
      made = fewer number _ (most + n + 1) (most + suc n) _ (omega arith) made;
      is = record {
        opened = λ j le lt.
            rw (other_block j n (λ e. absurd (omega (arith, e, le)))) (rest.is.opened j (omega (arith, le)) lt);
      };
    }

-- THE WHOLE

head : (number : ℕ) → At number (storm_begun number) 0 (λ b. Creating b 0)
head number = record {
  before = begun 5 number;
  made = record { body = []; parts = refl; fits = tt; left = refl; few = omega arith; counted = tt };
  is = record { nodes = refl; created = refl; opened = λ j h. absurd (omega (arith, h)); there = λ j h. absurd (omega (arith, h)); fresh = λ j h. refl; runs = λ d. refl; written = refl };
}

pub storms_fit : StormsFit
unfolding storm
storms_fit shelves number enough =
    let c = all_created number (storm_begun number) 8 (omega arith) (head number) in
    let ready : At number (creates 8 (storm_begun number)) 8 (λ b. Writing b 0) = record {
      before = c.before;
      made = c.made;
      is = record { nodes = c.is.nodes; opened = c.is.opened; there = c.is.there; runs = c.is.runs; written = c.is.written };
    } in
    let w = all_rounds number (creates 8 (storm_begun number)) 128 (omega arith) ready in
    let closing : At number (rounds 128 (creates 8 (storm_begun number))) (8 + 9 * 128) (λ b. Closing b 0) = record {
      before = w.before;
      made = w.made;
      is = record { opened = λ j le lt. w.is.opened j lt };
    } in
    let e = all_closed number (rounds 128 (creates 8 (storm_begun number))) 8 (8 + 9 * 128) (omega arith) closing in
    record {
      nodes = 5;
      seed = number;
      first = 1;
      second = 2;
      body = e.made.body;
      parts = e.made.parts;
      few = omega arith;
      shelved = enough;
      lines = e.made.fits;
      count = omega (arith, e.made.few);
      ascend = ascend_from 0 3 e.made.body (omega arith) (counted_ascend 3 e.made.body e.made.counted);
    }
