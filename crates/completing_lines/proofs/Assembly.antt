-- A play without failures stays as it should be in each line of its script, and completes.
use Rattle.std.proofs.Common.{◌≡◌, ℕ, zero, suc, ◌≤◌, ◌<◌, ◌+◌, Bool, true, false, List, [], ◌∷◌, ◌++◌, length, refl, sym, ◌∙◌, ap, subst, arith, eqb-true}
use Rattle.std.specs.Prelude.{◌==◌, if◌then◌else◌, is_none, Some, None}
use Rattle.std.proofs.lemmas.Bool.{false≢true}
use Rattle.std.proofs.lemmas.List.{append_assoc, append-nil}
use Rattle.hd_base.specs.Bytes.{IsBytes}
use Rattle.hd_base.specs.SumRules.{Rule, IsChunkSize}
use Rattle.hd_base.specs.declared.numbers.BlockId.{BlockId}
use Rattle.hd_base.specs.declared.numbers.NodeId.{NodeId}
use Rattle.script_lang.specs.declared.instructions.Instruction.{Instruction}
use Rattle.script_lang.specs.declared.instructions.Instruction.TheVariants as says
use Rattle.script_lang.specs.declared.instructions.ScriptLine.{ScriptLine}
use Rattle.script_lang.specs.Fits.{Before, is_created, after}
use Rattle.writer_core.specs.declared.commands.Command.{Command}
use Rattle.writer_core.specs.declared.commands.Command.TheVariants as command
use Rattle.writer_core.specs.declared.intake.Intake.{Intake}
use Rattle.writer_core.specs.declared.intake.TheConstants.{MAX_COMMANDS}
use Rattle.writer_core.specs.Commands.{queued_bytes}
use Rattle.completing_writers.specs.World.Worlds.{add, put}
use Rattle.completing_writers.proofs.WorldOrders.Kept.{eqb-itself}
use Rattle.play_model.specs.declared.asks.ReadAsk.{ReadAsk}
use Rattle.play_model.specs.declared.dues.Due.{Due}
use Rattle.play_model.specs.declared.dues.Due.TheVariants as due
use Rattle.play_model.specs.States.{PlayState, world_of, opened, ordered, ruled, asked}
use Rattle.play_model.specs.Asks.{ask_at}
use Rattle.play_model.specs.Dues.{is_due, dues, after_due}
use Rattle.play_model.specs.Draws.{advanced, draws, Settles}
use Rattle.play_model.specs.Lines.{blocks_of, step_due, PlaysLine, PlaysLines, Plays}
use Rattle.play_lines.specs.PlayScripts.Fitting.{LineFits, LinesFit, begun}
use Rattle.play_lines.specs.PlayScripts.Failures.{is_failure, HaveNoFailures}
use Rattle.play_lines.specs.Lines.{StandIs, GivenIs}
use Rattle.play_lines.specs.Showing.{given_in}
use Rattle.play_lines.proofs.Commands.{same_stand}
use Rattle.completing_writers.specs.PlayCompleteness.Complete.{for_block, line_commands, commands_of, KeepsMembers, WritesBytes, AllDone, ClosesWhole, PlaysComplete}
use Rattle.completing_writers.specs.PlayCompleteness.Keeping.{PlayedOn}
use Rattle.completing_writers.specs.PlayCompleteness.Played.{Played, BlockPlayed}
use Rattle.completing_writers.proofs.PlayCompleteness.Beginning.{opened-on, join-on}
use Rattle.completing_writers.proofs.PlayCompleteness.Flowing.{get-front}
use Rattle.completing_writers.proofs.PlayCompleteness.Folding.{advanced-keeps, draws-keep, stepped-keeps}
use Rattle.completing_writers.proofs.PlayCompleteness.Plays.{Among, none-recovered, step-asked}
use Rattle.completing_writers.proofs.PlayCompleteness.Keeping.{conns-keep, readers-keep}
use Rattle.completing_writers.proofs.PlayCompleteness.OwnFacts.{own-keeps}
use Rattle.completing_writers.proofs.PlayCompleteness.ScriptBlocks.{commands-of-blocks}
use Rattle.completing_writers.proofs.PlayCompleteness.Whole.{settled-complete}
use Rattle.completing_writers.specs.Steps.{CommandsWell}
use Rattle.completing_lines.specs.Following.{Follows}
use Rattle.completing_lines.proofs.Following.{command-fits, commands-follow, opened-follows}
use Rattle.completing_lines.proofs.Happening.{own-steps-follow, others-follow}

-- A play that is as it should be, behind so many lines that tell this.
record Behind (before : Before) (lines : ℕ) (commands : ℕ → List Command) (p : PlayState) : Type 0 where
  on : PlayedOn p commands
  follows : Follows before lines p commands

-- the same commands of each block
played-as : (p : PlayState) (f g : ℕ → List Command) → ((b : ℕ) → f b ≡ g b) → Played p f → Played p g
played-as p f g same h = record { recoveries = h.recoveries; unarmed = h.unarmed; plain = h.plain; quiet = h.quiet; peaceful = h.peaceful; links = h.links; writers = h.writers; blocks = λ b. subst (λ (cs : List Command). BlockPlayed (world_of p) b (p.queues b) cs) (same b) (h.blocks b) }

on-as : (p : PlayState) (f g : ℕ → List Command) → ((b : ℕ) → f b ≡ g b) → PlayedOn p f → PlayedOn p g
on-as p f g same h = record { played = played-as p f g same h.played; names = h.names; ruled = h.ruled }

follows-as : (before : Before) (lines : ℕ) (p : PlayState) (f g : ℕ → List Command) → ((b : ℕ) → f b ≡ g b) → Follows before lines p f → Follows before lines p g
follows-as before lines p f g same h = record {
  well = record { played = played-as p f g same h.well.played; unused = h.well.unused; few = h.well.few; fit = λ b. subst (CommandsWell p.nodes) (same b) (h.well.fit b) };
  nodes = h.nodes;
  written = h.written;
  chunks = h.chunks;
  given = h.given;
  bytes = λ b. subst (λ (cs : List Command). queued_bytes cs ≤ before.written) (same b) (h.bytes b);
}

behind-as : (before : Before) (lines : ℕ) (p : PlayState) (f g : ℕ → List Command) → ((b : ℕ) → f b ≡ g b) → Behind before lines f p → Behind before lines g p
behind-as before lines p f g same h = record { on = on-as p f g same h.on; follows = follows-as before lines p f g same h.follows }

-- one command more of one block
one-more : (commands : ℕ → List Command) (at : BlockId) (c : Command) (b : ℕ) → add commands at.0 (c ∷ []) b ≡ commands b ++ for_block b at c
one-more commands at c b = ap (λ (q : Bool). if q then commands b ++ c ∷ [] else commands b) same ∙ by (at.0 == b)
  where
    turned : (at.0 == b) ≡ true → (b == at.0) ≡ true
    turned e = ap (λ (n : ℕ). b == n) (eqb-true at.0 b e) ∙ eqb-itself b

    back : (b == at.0) ≡ true → (at.0 == b) ≡ true
    back e = ap (λ (n : ℕ). at.0 == n) (eqb-true b at.0 e) ∙ eqb-itself at.0

    same : (b == at.0) ≡ (at.0 == b)
    same = go (at.0 == b) (b == at.0) refl refl
      where
        go : (p q : Bool) → (at.0 == b) ≡ p → (b == at.0) ≡ q → q ≡ p
        go true true e f = refl
        go false false e f = refl
        go true false e f = sym f ∙ turned e
        go false true e f = sym (back f) ∙ e

    by : (q : Bool) → (if q then commands b ++ c ∷ [] else commands b) ≡ commands b ++ (if q then c ∷ [] else [])
    by true = refl
    by false = sym (append-nil (commands b))

-- FRONTS AND ENDS

front-members : (xs ys : List Command) → KeepsMembers (xs ++ ys) → KeepsMembers xs
front-members xs ys h i j created appended a b = h i j created appended (get-front xs ys i (command.Create created) a) (get-front xs ys j (command.Append appended) b)

-- LINES WITHOUT A COMMAND

given-later : (before : Before) (lines b : ℕ) (j : Intake) → GivenIs before lines b j → GivenIs before (suc lines) b j
given-later before lines b j g = record { stand = g.stand; bytes = g.bytes; commands = omega (arith, g.commands) }

-- a line more that says nothing of blocks
later : (before : Before) (lines : ℕ) (p : PlayState) (commands : ℕ → List Command) → Behind before lines commands p → Behind before (suc lines) commands p
later before lines p commands h = record {
  on = h.on;
  follows = record {
    well = h.follows.well;
    nodes = h.follows.nodes;
    written = h.follows.written;
    chunks = h.follows.chunks;
    given = λ b. given-later before lines b (given_in p b) (h.follows.given b);
    bytes = h.follows.bytes;
  };
}

module _ (before : Before) (lines : ℕ) (p : PlayState) (commands : ℕ → List Command) (at : BlockId) (rule : Rule) (fits : LineFits before (says.Sums at rule)) (h : Behind before lines commands p) where
  abbrev Next : Before
  Next = after before (says.Sums at rule)

  none-created : is_none (before.stage at.0) ≡ true → is_created (before.stage at.0) ≡ false
  none-created e = by (before.stage at.0) e
    where
      by : (s : _) → is_none s ≡ true → is_created s ≡ false
      by None e = refl
      by (Some s) e = absurd (false≢true e)

  stand-here : (b : ℕ) (j : Intake) → (b == at.0) ≡ true → GivenIs before lines b j → StandIs Next b j.stand
  stand-here b j e g = record {
    unmade = λ _. g.stand.unmade (subst (λ (n : ℕ). is_created (before.stage n) ≡ false) (sym (eqb-true b at.0 e)) (none-created fits.kept.0));
    open_is = λ k. absurd (false≢true (sym (rw (e) refl) ∙ k));
    closed = λ k. absurd (false≢true (sym (rw (e) refl) ∙ k));
  }

  given-next : (b : ℕ) (j : Intake) → GivenIs before lines b j → GivenIs Next (suc lines) b j
  given-next b j g = go (b == at.0) refl
    where
      go : (q : Bool) → (b == at.0) ≡ q → GivenIs Next (suc lines) b j
      go true e = record { stand = stand-here b j e g; bytes = g.bytes; commands = omega (arith, g.commands) }
      go false e = record { stand = same_stand before Next b j.stand (rw (e) refl) g.stand; bytes = g.bytes; commands = omega (arith, g.commands) }

  rules-next : (b : ℕ) → IsChunkSize (put p.rules at.0 rule b).chunk
  rules-next b = go (b == at.0) refl
    where
      go : (q : Bool) → (b == at.0) ≡ q → IsChunkSize (put p.rules at.0 rule b).chunk
      go true e = subst (λ (y : Bool). IsChunkSize (if y then rule else p.rules b).chunk) (sym e) fits.words
      go false e = subst (λ (y : Bool). IsChunkSize (if y then rule else p.rules b).chunk) (sym e) (h.follows.chunks b)

  ruled-played : Played (ruled p at.0 rule) commands
  ruled-played = record { recoveries = h.on.played.recoveries; unarmed = h.on.played.unarmed; plain = h.on.played.plain; quiet = h.on.played.quiet; peaceful = h.on.played.peaceful; links = h.on.played.links; writers = h.on.played.writers; blocks = h.on.played.blocks }

  behind-rule : Behind Next (suc lines) commands (ruled p at.0 rule)
  behind-rule = record {
    on = record { played = ruled-played; names = record { few = h.on.names.few; named = h.on.names.named }; ruled = h.on.ruled };
    follows = record {
      well = record { played = ruled-played; unused = h.follows.well.unused; few = h.follows.well.few; fit = h.follows.well.fit };
      nodes = h.follows.nodes;
      written = h.follows.written;
      chunks = rules-next;
      given = λ b. given-next b (given_in p b) (h.follows.given b);
      bytes = h.follows.bytes;
    };
  }

-- a line that asks to read
module _ (before : Before) (lines : ℕ) (p : PlayState) (commands : ℕ → List Command) (at : BlockId) (node : NodeId) (offset count : ℕ) (ask : ReadAsk) (h : Behind before lines commands p) where
  abbrev Then : Before
  Then = after before (says.Read at node offset count)

  given-then : (b : ℕ) (j : Intake) → GivenIs before lines b j → GivenIs Then (suc lines) b j
  given-then b j g = record { stand = same_stand before Then b j.stand refl g.stand; bytes = g.bytes; commands = omega (arith, g.commands) }

  asked-played : Played (asked p ask) commands
  asked-played = record { recoveries = h.on.played.recoveries; unarmed = h.on.played.unarmed; plain = h.on.played.plain; quiet = h.on.played.quiet; peaceful = h.on.played.peaceful; links = h.on.played.links; writers = h.on.played.writers; blocks = h.on.played.blocks }

  behind-ask : Behind Then (suc lines) commands (asked p ask)
  behind-ask = record {
    on = record { played = asked-played; names = record { few = h.on.names.few; named = h.on.names.named }; ruled = h.on.ruled };
    follows = record {
      well = record { played = asked-played; unused = h.follows.well.unused; few = h.follows.well.few; fit = h.follows.well.fit };
      nodes = h.follows.nodes;
      written = h.follows.written;
      chunks = h.follows.chunks;
      given = λ b. given-then b (given_in p b) (h.follows.given b);
      bytes = h.follows.bytes;
    };
  }

-- WHAT HAPPENS BETWEEN LINES

module _ (before : Before) (lines : ℕ) (commands : ℕ → List Command) where
  due-behind : (p : PlayState) (d : Due) → Behind before lines commands p → is_due (world_of p) p.queues d ≡ true → Among p d → Behind before lines commands (after_due p d)
  due-behind p (due.Own b) h is asked =
      let facts = own-keeps p commands b h.on.played h.on.names h.on.ruled in
      let next = own-steps-follow before lines p commands b h.follows is in
      record { on = record { played = next.well.played; names = facts.0; ruled = facts.1 }; follows = next }
  due-behind p (due.Reader ask) h is asked =
      let next = readers-keep p commands ask h.on in
      record { on = next; follows = others-follow before lines p commands (due.Reader ask) refl h.follows next.played }
  due-behind p (due.Primary r) h is asked = none-recovered p.recoveries r h.on.played.recoveries asked.1
  due-behind p (due.Down c) h is asked =
      let next = conns-keep p commands (due.Down c) h.on is tt in
      record { on = next; follows = others-follow before lines p commands (due.Down c) refl h.follows next.played }
  due-behind p (due.Ready c) h is asked =
      let next = conns-keep p commands (due.Ready c) h.on is tt in
      record { on = next; follows = others-follow before lines p commands (due.Ready c) refl h.follows next.played }
  due-behind p (due.Up c) h is asked =
      let next = conns-keep p commands (due.Up c) h.on is tt in
      record { on = next; follows = others-follow before lines p commands (due.Up c) refl h.follows next.played }

  -- a word of the generator
  words-behind : (p : PlayState) → Behind before lines commands p → Behind before lines commands (advanced p)
  words-behind p h =
      let next = advanced-keeps commands p h.on in
      record {
        on = next;
        follows = record {
          well = record { played = next.played; unused = h.follows.well.unused; few = h.follows.well.few; fit = h.follows.well.fit };
          nodes = h.follows.nodes;
          written = h.follows.written;
          chunks = h.follows.chunks;
          given = h.follows.given;
          bytes = h.follows.bytes;
        };
      }

  -- no write is to fail
  unarmed-behind : (p : PlayState) → Behind before lines commands p → (n : ℕ) → p.faults n ≡ 0
  unarmed-behind p h = h.on.played.unarmed

  draws-behind : (blocks : List ℕ) (count : ℕ) (p : PlayState) → Behind before lines commands p → Behind before lines commands (draws blocks count p)
  draws-behind blocks count p h = draws-keep (Behind before lines commands) due-behind words-behind unarmed-behind blocks count p h

  settles-behind : (blocks : List ℕ) (old new : PlayState) → Settles blocks old new → Behind before lines commands old → Behind before lines commands new
  settles-behind blocks old new s h = subst (Behind before lines commands) s.drawn_so (draws-behind blocks s.count old h)

-- WHAT LINES WRITE

none-writes : WritesBytes []
none-writes i bytes e = cc

-- a command alone, of this block or of another
one-writes : (c : Command) → ((bytes : List ℕ) → c ≡ command.Write bytes → IsBytes bytes) → (b : ℕ) (at : BlockId) → WritesBytes (for_block b at c)
one-writes c h b at = go (at.0 == b)
  where
    same : (bytes : List ℕ) → Some c ≡ Some (command.Write bytes) → c ≡ command.Write bytes
    same bytes e = cc

    go : (q : Bool) → WritesBytes (if q then c ∷ [] else [])
    go true zero bytes e = h bytes (same bytes e)
    go true (suc i) bytes e = cc
    go false i bytes e = cc

-- The command of a line that fits writes bytes, if it writes.
line-bytes : (before : Before) (i : Instruction) (b : ℕ) → LineFits before i → WritesBytes (line_commands b i)
line-bytes before (says.Write at bytes) b fits = one-writes (command.Write bytes) (λ xs e. subst IsBytes (same xs e) fits.words) b at
  where
    same : (xs : List ℕ) → command.Write bytes ≡ command.Write xs → bytes ≡ xs
    same xs e = cc
line-bytes before (says.Create at members) b fits = one-writes (command.Create members) (λ bytes e. cc) b at
line-bytes before (says.Append at members) b fits = one-writes (command.Append members) (λ bytes e. cc) b at
line-bytes before (says.Fill at count) b fits = one-writes (command.Fill count) (λ bytes e. cc) b at
line-bytes before (says.Hflush at) b fits = one-writes (command.Hflush) (λ bytes e. cc) b at
line-bytes before (says.Hsync at) b fits = one-writes (command.Hsync) (λ bytes e. cc) b at
line-bytes before (says.Close at) b fits = one-writes (command.Close) (λ bytes e. cc) b at
line-bytes before (says.Nodes count) b fits = none-writes
line-bytes before (says.Seed seed) b fits = none-writes
line-bytes before (says.Sums at rule) b fits = none-writes
line-bytes before (says.Read at node offset count) b fits = none-writes
line-bytes before (says.Recover at node members) b fits = none-writes
line-bytes before (says.Cut at connection down up) b fits = none-writes
line-bytes before (says.Fault node nth) b fits = none-writes
line-bytes before (says.Stop node) b fits = none-writes
line-bytes before (says.Start node) b fits = none-writes
line-bytes before (says.Run count) b fits = none-writes
line-bytes before says.Settle b fits = none-writes
line-bytes before (says.Step at event) b fits = none-writes
line-bytes before (says.Expect node at state stamp written) b fits = none-writes

-- LINES

-- the commands are those before, and those of a line
abbrev With : (ℕ → List Command) → Instruction → ℕ → List Command
With commands i b = commands b ++ line_commands b i

module _ (blocks : List ℕ) (before : Before) (lines : ℕ) (commands : ℕ → List Command) (few : lines < MAX_COMMANDS) where
  none-more : (i : Instruction) (p : PlayState) → ((b : ℕ) → line_commands b i ≡ []) → Behind before lines commands p → Behind before (suc lines) (With commands i) p
  none-more i p none h =
      behind-as before (suc lines) p commands (With commands i) (λ b. sym (append-nil (commands b)) ∙ ap (λ (cs : List Command). commands b ++ cs) (sym (none b))) (later before lines p commands h)

  -- a line that gives a command
  orders : (i : Instruction) (at : BlockId) (c : Command) → ((b : ℕ) → line_commands b i ≡ for_block b at c) → LineFits before i → KeepsMembers (commands at.0 ++ line_commands at.0 i) → (p : PlayState) → Behind before lines commands p → Behind (after before i) (suc lines) (With commands i) (ordered p at.0 c)
  orders i at c are fits keeps p h =
      let here : line_commands at.0 i ≡ c ∷ [] = are at.0 ∙ ap (λ (q : Bool). if q then c ∷ [] else []) (eqb-itself at.0) in
      let wrote : WritesBytes (c ∷ []) = subst WritesBytes here (line-bytes before i at.0 fits) in
      let next = commands-follow before lines i at.0 c p commands h.follows few fits here wrote (subst (λ (cs : List Command). KeepsMembers (commands at.0 ++ cs)) here keeps) in
      let all : (b : ℕ) → add commands at.0 (c ∷ []) b ≡ With commands i b = λ b. one-more commands at c b ∙ ap (λ (cs : List Command). commands b ++ cs) (sym (are b)) in
      behind-as (after before i) (suc lines) (ordered p at.0 c) (add commands at.0 (c ∷ [])) (With commands i) all
      (record { on = join-on p commands at.0 c h.on wrote (command-fits before lines i at.0 c p commands h.follows few fits here); follows = next })

  line-behind : (number : ℕ) (i : Instruction) → is_failure i ≡ false → LineFits before i → ((b : ℕ) → KeepsMembers (With commands i b)) → (old new : PlayState) → PlaysLine blocks number i old new → Behind before lines commands old → Behind (after before i) (suc lines) (With commands i) new
  line-behind number (says.Nodes count) u fits k old new is h = absurd fits.words
  line-behind number (says.Seed seed) u fits k old new is h = absurd fits.words
  line-behind number (says.Sums at rule) u fits k old new is h =
      subst (Behind (after before (says.Sums at rule)) (suc lines) (With commands (says.Sums at rule))) (sym is)
      (behind-as (after before (says.Sums at rule)) (suc lines) (ruled old at.0 rule) commands (With commands (says.Sums at rule)) (λ b. sym (append-nil (commands b))) (behind-rule before lines old commands at rule fits h))
  line-behind number (says.Create at members) u fits k old new is h = subst (Behind _ _ _) (sym is) (orders (says.Create at members) at (command.Create members) (λ b. refl) fits (k at.0) old h)
  line-behind number (says.Append at members) u fits k old new is h = subst (Behind _ _ _) (sym is) (orders (says.Append at members) at (command.Append members) (λ b. refl) fits (k at.0) old h)
  line-behind number (says.Write at bytes) u fits k old new is h = subst (Behind _ _ _) (sym is) (orders (says.Write at bytes) at (command.Write bytes) (λ b. refl) fits (k at.0) old h)
  line-behind number (says.Fill at count) u fits k old new is h = subst (Behind _ _ _) (sym is) (orders (says.Fill at count) at (command.Fill count) (λ b. refl) fits (k at.0) old h)
  line-behind number (says.Hflush at) u fits k old new is h = subst (Behind _ _ _) (sym is) (orders (says.Hflush at) at (command.Hflush) (λ b. refl) fits (k at.0) old h)
  line-behind number (says.Hsync at) u fits k old new is h = subst (Behind _ _ _) (sym is) (orders (says.Hsync at) at (command.Hsync) (λ b. refl) fits (k at.0) old h)
  line-behind number (says.Close at) u fits k old new is h = subst (Behind _ _ _) (sym is) (orders (says.Close at) at (command.Close) (λ b. refl) fits (k at.0) old h)
  line-behind number (says.Run count) u fits k old new is h =
      subst (Behind before (suc lines) (With commands (says.Run count))) (sym is) (none-more (says.Run count) (draws blocks count old) (λ b. refl) (draws-behind before lines commands blocks count old h))
  line-behind number says.Settle u fits k old new is h = none-more says.Settle new (λ b. refl) (settles-behind before lines commands blocks old new is h)
  line-behind number (says.Step at event) u fits k old new is h =
      subst (Behind before (suc lines) (With commands (says.Step at event))) (sym is)
      (none-more (says.Step at event) _ (λ b. refl) (stepped-keeps (Behind before lines commands) (due-behind before lines commands) (words-behind before lines commands) (unarmed-behind before lines commands) old (step_due (world_of old) at.0 event) (step-asked old (world_of old) at.0 event) h))
  line-behind number (says.Expect node at state stamp written) u fits k old new is h =
      subst (Behind before (suc lines) (With commands (says.Expect node at state stamp written))) (sym is) (none-more (says.Expect node at state stamp written) old (λ b. refl) h)
  line-behind number (says.Read at node offset count) u fits k old new is h =
      let i : Instruction = says.Read at node offset count in
      let ask : ReadAsk = ask_at (world_of old) number at node offset count in
      subst (Behind (after before i) (suc lines) (With commands i)) (sym is)
      (behind-as (after before i) (suc lines) (asked old ask) commands (With commands i) (λ b. sym (append-nil (commands b))) (behind-ask before lines old commands at node offset count ask h))
  line-behind number (says.Recover at node members) u fits k old new is h = absurd (false≢true (sym u))
  line-behind number (says.Cut at connection down up) u fits k old new is h = absurd (false≢true (sym u))
  line-behind number (says.Fault node nth) u fits k old new is h = absurd (false≢true (sym u))
  line-behind number (says.Stop node) u fits k old new is h = absurd (false≢true (sym u))
  line-behind number (says.Start node) u fits k old new is h = absurd (false≢true (sym u))

-- ALL LINES

lines-behind : (blocks : List ℕ) (said : List ScriptLine) (before : Before) (lines : ℕ) (commands : ℕ → List Command) (old new : PlayState) → lines + length said ≤ MAX_COMMANDS → HaveNoFailures said → LinesFit before said → ((b : ℕ) → KeepsMembers (commands b ++ commands_of b said)) → PlaysLines blocks said old new
    → Behind before lines commands old → PlayedOn new (λ b. commands b ++ commands_of b said) × (dues blocks new ≡ [])
lines-behind blocks [] before lines commands old new few played fits members s h =
    (on-as new commands (λ b. commands b ++ []) (λ b. sym (append-nil (commands b))) (settles-behind before lines commands blocks old new s h).on, s.settled)
lines-behind blocks (l ∷ said) before lines commands old new few played fits members s h =
    let i : Instruction = l.instruction in
    let joined : (b : ℕ) → With commands i b ++ commands_of b said ≡ commands b ++ (line_commands b i ++ commands_of b said) = λ b. append_assoc (commands b) (line_commands b i) (commands_of b said) in
    let all : (b : ℕ) → KeepsMembers (With commands i b ++ commands_of b said) = λ b. subst KeepsMembers (sym (joined b)) (members b) in
    let middle = line-behind blocks before lines commands (omega (arith, few)) l.number i played.0 fits.0 (λ b. front-members (With commands i b) (commands_of b said) (all b)) old s.0 s.1.0 h in
    let end = lines-behind blocks said (after before i) (suc lines) (With commands i) s.0 new (omega (arith, few)) played.1 fits.1 all s.1.1 middle in
    (on-as new (λ b. With commands i b ++ commands_of b said) (λ b. commands b ++ commands_of b (l ∷ said)) joined end.0, end.1)

-- SCRIPTS

pub plays-complete : PlaysComplete
plays-complete shelves script end fits played members plays =
    let few : fits.nodes ≤ 16 = fits.few in
    let done : PlayedOn end (λ b. commands_of b script) × (dues (blocks_of script) end ≡ []) =
    subst (λ (s : List ScriptLine). HaveNoFailures s → ((b : ℕ) → KeepsMembers (commands_of b s)) → Plays s end → PlayedOn end (λ b. commands_of b s) × (dues (blocks_of s) end ≡ [])) (sym fits.parts)
    (λ p m x. lines-behind (blocks_of fits.body) fits.body (begun fits.nodes fits.seed) 0 (λ b. []) (opened fits.nodes fits.seed) end (omega (arith, fits.count)) p.1.1 fits.lines m x (record { on = opened-on fits.nodes fits.seed few; follows = opened-follows fits.nodes fits.seed few }))
    played members plays in
    let of : (b : ℕ) → AllDone (commands_of b script) ((world_of end).said b) × ClosesWhole (world_of end) (record { 0 = b }) (commands_of b script) =
    λ b. settled-complete (blocks_of script) end (λ c. commands_of c script) b done.0.played done.1 (commands-of-blocks shelves script b fits) in
    record { answers = λ b. (of b).0; whole = λ b. (of b.0).1 }
