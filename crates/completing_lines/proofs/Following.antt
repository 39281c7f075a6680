-- A line that gives a command: the play stands behind it.
use Rattle.std.proofs.Common.{◌≡◌, ℕ, suc, ◌<◌, ◌≤◌, ◌+◌, Bool, true, false, List, [], ◌∷◌, ◌++◌, map, refl, sym, ◌∙◌, ap, subst, arith, eqb-true}
use Rattle.std.specs.Prelude.{◌==◌, if◌then◌else◌}
use Rattle.std.proofs.lemmas.Bool.{false≢true, eqb-false}
use Rattle.hd_base.specs.declared.numbers.BlockId.{BlockId}
use Rattle.hd_base.specs.SumRules.{Rule, IsChunkSize}
use Rattle.script_lang.specs.declared.instructions.Instruction.{Instruction}
use Rattle.script_lang.specs.declared.instructions.Instruction.TheVariants as says
use Rattle.script_lang.specs.Fits.{Before, most_bytes, after}
use Rattle.writer_core.specs.declared.commands.Command.{Command}
use Rattle.writer_core.specs.declared.commands.Command.TheVariants as command
use Rattle.writer_core.specs.declared.intake.Intake.{Intake}
use Rattle.writer_core.specs.declared.intake.Stand.{Stand}
use Rattle.writer_core.specs.declared.intake.Stand.TheVariants as stand
use Rattle.writer_core.specs.declared.intake.TheConstants.{MAX_COMMANDS}
use Rattle.writer_core.specs.Commands.{command_length, queued_bytes, intake_after}
use Rattle.completing_writers.specs.World.TakenCommand.{TakenCommand}
use Rattle.completing_writers.specs.World.Worlds.{World, add, start}
use Rattle.play_model.specs.States.{PlayState, world_of, ordered}
use Rattle.play_lines.specs.PlayLaws.Intakes.{intake_of}
use Rattle.play_lines.proofs.PlayLaws.Running.{all-run}
use Rattle.play_lines.specs.PlayScripts.Fitting.{LineFits}
use Rattle.play_lines.specs.PlayLaws.Commands.{CommandFits, given_with}
use Rattle.play_lines.specs.Lines.{GivenIs}
use Rattle.play_lines.specs.Showing.{given_in}
use Rattle.play_lines.proofs.Commands.{Goes, goes, given_more}
use Rattle.completing_writers.specs.PlayCompleteness.Complete.{for_block, line_commands, KeepsMembers, WritesBytes}
use Rattle.completing_writers.specs.PlayCompleteness.Played.{QueueFits, stand_of, ordered_queue, BlockPlayed}
use Rattle.completing_writers.proofs.PlayCompleteness.Awaiting.{plain-keeps-nodes}
use Rattle.completing_writers.specs.Steps.{CommandsWell}
use Rattle.completing_writers.proofs.Delivering.{opened-well, commands-join-well}
use Rattle.completing_writers.proofs.Leaving.{add-here, add-else}
use Rattle.completing_lines.specs.Following.{Follows, OpenedFollows, CommandsFollow}
use Rattle.completing_lines.proofs.Queues.{queue-more, given-stand, stand-join, queued-more, commands-more}

-- A command of a line goes to this block.
pub record GoesTo (before next : Before) (lines : ℕ) (rules : ℕ → Rule) (b : ℕ) (c : Command) : Type 0 where
  pub block : BlockId
  pub number : block.0 ≡ b
  pub goes_so : Goes before next lines before.nodes block (record { command = c; rule = rules block.0 })

-- the block and the command of a line
for-block : (b : ℕ) (at : BlockId) (d c : Command) → for_block b at d ≡ c ∷ [] → (at.0 ≡ b) × (d ≡ c)
for-block b at d c e = go (at.0 == b) refl e
  where
    go : (q : Bool) → (at.0 == b) ≡ q → (if q then d ∷ [] else []) ≡ c ∷ [] → (at.0 ≡ b) × (d ≡ c)
    go true same is = (eqb-true at.0 b same, cc)
    go false same is = absurd (cc)

goes-to : (before next : Before) (lines : ℕ) (rules : ℕ → Rule) (b : ℕ) (at : BlockId) (d c : Command) → for_block b at d ≡ c ∷ [] → Goes before next lines before.nodes at (record { command = d; rule = rules at.0 }) → GoesTo before next lines rules b c
goes-to before next lines rules b at d c e g =
    let f = for-block b at d c e in
    record { block = at; number = f.0; goes_so = subst (λ (x : Command). Goes before next lines before.nodes at (record { command = x; rule = rules at.0 })) f.1 g }

none-given : (c : Command) {A : Type 0} → [] ≡ c ∷ [] → A
none-given c e = absurd (cc)

line-goes : (before : Before) (lines : ℕ) (rules : ℕ → Rule) → ((k : ℕ) → IsChunkSize (rules k).chunk) → before.written ≤ most_bytes → lines < MAX_COMMANDS → (b : ℕ) (c : Command) (line : Instruction) → LineFits before line → line_commands b line ≡ c ∷ [] → GoesTo before (after before line) lines rules b c
line-goes before lines rules chunks most few b c (says.Create at members) fits e = goes-to before _ lines rules b at (command.Create members) c e (goes before (says.Create at members) lines rules chunks most few fits)
line-goes before lines rules chunks most few b c (says.Append at members) fits e = goes-to before _ lines rules b at (command.Append members) c e (goes before (says.Append at members) lines rules chunks most few fits)
line-goes before lines rules chunks most few b c (says.Write at bytes) fits e = goes-to before _ lines rules b at (command.Write bytes) c e (goes before (says.Write at bytes) lines rules chunks most few fits)
line-goes before lines rules chunks most few b c (says.Fill at count) fits e = goes-to before _ lines rules b at (command.Fill count) c e (goes before (says.Fill at count) lines rules chunks most few fits)
line-goes before lines rules chunks most few b c (says.Hflush at) fits e = goes-to before _ lines rules b at command.Hflush c e (goes before (says.Hflush at) lines rules chunks most few fits)
line-goes before lines rules chunks most few b c (says.Hsync at) fits e = goes-to before _ lines rules b at command.Hsync c e (goes before (says.Hsync at) lines rules chunks most few fits)
line-goes before lines rules chunks most few b c (says.Close at) fits e = goes-to before _ lines rules b at command.Close c e (goes before (says.Close at) lines rules chunks most few fits)
line-goes before lines rules chunks most few b c (says.Nodes count) fits e = none-given c e
line-goes before lines rules chunks most few b c (says.Seed seed) fits e = none-given c e
line-goes before lines rules chunks most few b c (says.Sums at rule) fits e = none-given c e
line-goes before lines rules chunks most few b c (says.Read at node from count) fits e = none-given c e
line-goes before lines rules chunks most few b c (says.Recover at node members) fits e = none-given c e
line-goes before lines rules chunks most few b c (says.Cut at conn down up) fits e = none-given c e
line-goes before lines rules chunks most few b c (says.Fault node nth) fits e = none-given c e
line-goes before lines rules chunks most few b c (says.Stop node) fits e = none-given c e
line-goes before lines rules chunks most few b c (says.Start node) fits e = none-given c e
line-goes before lines rules chunks most few b c (says.Run count) fits e = none-given c e
line-goes before lines rules chunks most few b c says.Settle fits e = none-given c e
line-goes before lines rules chunks most few b c (says.Step at event) fits e = none-given c e
line-goes before lines rules chunks most few b c (says.Expect node at state stamp written) fits e = none-given c e

module _ (before next : Before) (lines : ℕ) (block : BlockId) (c : Command) (p : PlayState) (commands : ℕ → List Command) (h : Follows before lines p commands)
    (it-goes : Goes before next lines before.nodes block (record { command = c; rule = p.rules block.0 })) where
  abbrev b : ℕ
  b = block.0

  abbrev t : TakenCommand
  t = record { command = c; rule = p.rules b }

  abbrev w : World
  w = world_of p

  abbrev B : BlockPlayed w b (p.queues b) (commands b)
  B = h.well.played.blocks b

  fit : CommandFits p.nodes (given_in p b) t
  fit = subst (λ (n : ℕ). CommandFits n (given_in p b) t) h.nodes (it-goes.fit (given_in p b) (h.given b))

  nodes-same : w.nodes ≡ p.nodes
  nodes-same = (all-run p.nodes p.events (plain-keeps-nodes p.events h.well.played.plain)).nodes_are

  -- the command fits those before it
  pub queued : QueueFits w.nodes (intake_of w b) (ordered_queue p b c)
  queued = queue-more w.nodes (intake_of w b) (p.queues b) t B.queued (subst (λ (n : ℕ). CommandFits n (given_in p b) t) (sym nodes-same) fit)

  -- how many bytes it writes
  length-so : before.written + command_length c ≤ next.written
  length-so = (it-goes.given_then (record { stand = (given_in p b).stand; bytes = before.written; commands = (given_in p b).commands }) (record { stand = (h.given b).stand; bytes = omega arith; commands = (h.given b).commands })).bytes

  stands : (given_in p b).stand ≡ stand_of stand.Unmade (commands b)
  stands =
      given-stand (intake_of w b) (p.queues b)
      ∙ (ap (λ (s : Stand). stand_of s (map (λ (x : TakenCommand). x.command) (p.queues b))) B.stand
      ∙ (sym (stand-join stand.Unmade B.taken (map (λ (x : TakenCommand). x.command) (p.queues b))) ∙ ap (stand_of stand.Unmade) (sym B.are)))

  commands-well : KeepsMembers (commands b ++ c ∷ []) → CommandsWell p.nodes (commands b ++ c ∷ [])
  commands-well keeps =
      commands-more p.nodes (commands b) (given_in p b) t (h.well.fit b) stands fit keeps
      (let low : queued_bytes (commands b) ≤ before.written = h.bytes b in let most : next.written ≤ most_bytes = it-goes.written in omega (arith, low, length-so, most))

  -- of this block, and of each other one
  by-block : (P : ℕ → List Command → Type 0) → P b (commands b ++ c ∷ []) → ((k : ℕ) → P k (commands k)) → (k : ℕ) → P k (add commands b (c ∷ []) k)
  by-block P here there k = go (k == b) refl
    where
      go : (q : Bool) → (k == b) ≡ q → P k (if q then commands k ++ c ∷ [] else commands k)
      go true e = subst (λ (j : ℕ). P j (commands j ++ c ∷ [])) (sym (eqb-true k b e)) here
      go false e = there k

  given-now : (k : ℕ) → GivenIs next (suc lines) k (given_in (ordered p b c) k)
  given-now k = go (k == b) refl
    where
      go : (q : Bool) → (k == b) ≡ q → GivenIs next (suc lines) k (given_in (ordered p b c) k)
      go true e =
          let more : given_in (ordered p b c) b ≡ intake_after (given_in p b) c =
          ap (given_with (intake_of w b)) (add-here p.queues b (t ∷ [])) ∙ given_more (intake_of w b) (p.queues b) t in
          subst (λ (j : ℕ). GivenIs next (suc lines) j (given_in (ordered p b c) j)) (sym (eqb-true k b e))
          (subst (λ (i : Intake). GivenIs next (suc lines) b i) (sym more) (it-goes.given_then (given_in p b) (h.given b)))
      go false e =
          subst (λ (i : Intake). GivenIs next (suc lines) k i) (sym (ap (given_with (intake_of w k)) (add-else p.queues b (t ∷ []) k e)))
          (it-goes.others k (given_in p k) (eqb-false k b e) (h.given k))

  pub follows : WritesBytes (c ∷ []) → KeepsMembers (commands b ++ c ∷ []) → Follows next (suc lines) (ordered p b c) (add commands b (c ∷ []))
  follows bytes keeps = record {
    well = commands-join-well p commands b c h.well bytes queued (by-block (λ k cs. CommandsWell p.nodes cs) (commands-well keeps) h.well.fit);
    nodes = it-goes.nodes_same ∙ h.nodes;
    written = it-goes.written;
    chunks = h.chunks;
    given = given-now;
    bytes = by-block (λ k cs. queued_bytes cs ≤ next.written)
        (let low : queued_bytes (commands b) ≤ before.written = h.bytes b in
        let more : queued_bytes (commands b ++ c ∷ []) ≡ queued_bytes (commands b) + command_length c = queued-more (commands b) c in
        omega (arith, low, more, length-so))
        (λ k. let low : queued_bytes (commands k) ≤ before.written = h.bytes k in omega (arith, low, length-so));
  }

-- it fits what is queued
pub command-fits : (before : Before) (lines : ℕ) (line : Instruction) (b : ℕ) (c : Command) (p : PlayState) (commands : ℕ → List Command) → Follows before lines p commands → lines < MAX_COMMANDS → LineFits before line → line_commands b line ≡ c ∷ [] → QueueFits (world_of p).nodes (intake_of (world_of p) b) (ordered_queue p b c)
command-fits before lines line b c p commands h few fits is =
    let g : GoesTo before (after before line) lines p.rules b c = line-goes before lines p.rules h.chunks h.written few b c line fits is in
    subst (λ (k : ℕ). QueueFits (world_of p).nodes (intake_of (world_of p) k) (ordered_queue p k c)) g.number (queued before (after before line) lines g.block c p commands h g.goes_so)

pub commands-follow : CommandsFollow
commands-follow before lines line b c p commands h few fits is bytes keeps =
    let g : GoesTo before (after before line) lines p.rules b c = line-goes before lines p.rules h.chunks h.written few b c line fits is in
    subst (λ (k : ℕ). Follows (after before line) (suc lines) (ordered p k c) (add commands k (c ∷ []))) g.number
    (follows before (after before line) lines g.block c p commands h g.goes_so bytes (subst (λ (k : ℕ). KeepsMembers (commands k ++ c ∷ [])) (sym g.number) keeps))

pub opened-follows : OpenedFollows
unfolding start
opened-follows nodes seed few = record {
  well = opened-well nodes seed few;
  nodes = refl;
  written = omega arith;
  chunks = λ b. record { least = omega arith; greatest = omega arith };
  given = λ b. record { stand = record { unmade = λ e. refl; open_is = λ e. absurd (false≢true e); closed = λ e. absurd (false≢true e) }; bytes = omega arith; commands = omega arith };
  bytes = λ b. omega arith;
}
