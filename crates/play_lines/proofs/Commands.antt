-- A line that gives a command: it fits what was given before, and what was given then is what the lines tell.
use Rattle.std.proofs.Common.{arith, ◌≡◌, ℕ, suc, ◌<◌, ◌≤◌, ◌+◌, ◌==◌, Bool, true, false, List, [], ◌∷◌, ◌++◌, Option, Some, None, Result, Ok, Err, refl, sym, ap, ◌∙◌, subst, eqb-true, eq-eqb}
use Rattle.std.specs.Prelude.{not, ◌&&◌, ◌||◌}
use Rattle.std.proofs.lemmas.Bool.Decides.{nat_tests}
use Rattle.std.proofs.lemmas.Option.{same_Some}
use Rattle.hd_base.specs.declared.files.Files as files
use Rattle.hd_base.specs.declared.links.LinkIn as link_in
use Rattle.hd_base.specs.declared.links.LinkOut as link_out
use Rattle.hd_base.specs.declared.roads.Roads as roads
use Rattle.play_model.specs.Lines.{PlaysLine}
use Rattle.play_model.specs.States as states
use Rattle.play_model.specs.States.{PlayState, ordered}
use Rattle.play_scripts.specs.PlayLaws.Intakes.{intake_of}
use Rattle.play_opening.specs.PlayDues.Places.{client_place}
use Rattle.play_opening.specs.PlayDues.Showing.{HasClient}
use Rattle.play_opening.specs.Play.PlayFault.{PlayFault}
use Rattle.play_opening.proofs.PlayProofs.Dispatch.{has_place}
use Rattle.play_lines.specs.declared.playing.Playing.{Playing}
use Rattle.play_lines.specs.Drawing.{IsLeft, IsCaused, blocks_in}
use Rattle.play_lines.specs.Ordering.{OrdersAt, Orders, OrdersArePlays}
use Rattle.play_lines.specs.Showing.{PlayIs, given_in}
use Rattle.play_lines.proofs.Ordered.{add_at, add_other}
use Rattle.play_lines.proofs.Places.{moved, asked_next}
use Rattle.hd_base.specs.SumRules.{Rule, IsChunkSize}
use Rattle.hd_base.specs.declared.numbers.BlockId.{BlockId}
use Rattle.script_lang.specs.declared.instructions.Instruction.{Instruction}
use Rattle.script_lang.specs.declared.instructions.Instruction.TheVariants as says
use Rattle.script_lang.specs.Fits.{Before, is_open, is_closed, is_created, most_bytes, after}
use Rattle.writer_core.specs.declared.commands.Command.{Command}
use Rattle.writer_core.specs.declared.commands.Command.TheVariants as command
use Rattle.writer_core.specs.declared.intake.Intake.{Intake}
use Rattle.writer_core.specs.declared.intake.Stand.{Stand}
use Rattle.writer_core.specs.declared.intake.Stand.TheVariants as stand
use Rattle.writer_core.specs.declared.intake.TheConstants.{MAX_COMMANDS, MAX_GIVEN}
use Rattle.writer_core.specs.Commands as given
use Rattle.writer_core.specs.Commands.{command_length, fits, stand_after, is_too_much, intake_after, admitted}
use Rattle.world.specs.declared.events.TakenCommand.{TakenCommand}
use Rattle.world.specs.Clients.{is_formed}
use Rattle.play_scripts.specs.PlayLaws.Members.{Names, IsNode}
use Rattle.play_scripts.specs.Fitting.{LineFits}
use Rattle.play_scripts.specs.PlayLaws.Commands.{CommandFits, given_with}
use Rattle.play_lines.specs.declared.lines.Ordered.{Ordered}
use Rattle.play_lines.specs.Lines.{ordered_by, StandIs, GivenIs, is_made, CreatesHere, IsBehind, AsksBelow, LineLeft, LineEnds, LineShows}

-- WHAT WAS GIVEN

-- a command more
pub given_more : (i : Intake) (queue : List TakenCommand) (t : TakenCommand) → given_with i (queue ++ t ∷ []) ≡ intake_after (given_with i queue) t.command
given_more i [] t = refl
given_more i (x ∷ queue) t = given_more (intake_after i x.command) queue t

-- a command that fits what was given before may be given
not_too_much : (i : Intake) (c : Command) → i.bytes + command_length c ≤ MAX_GIVEN → i.commands < MAX_COMMANDS → is_too_much i c ≡ false
not_too_much i c few some = grind (arith, nat_tests, few, some)

admits : (i : Intake) (c : Command) → i.bytes + command_length c ≤ MAX_GIVEN → i.commands < MAX_COMMANDS → fits i.stand c ≡ true → admitted i c ≡ Ok (intake_after i c)
unfolding admitted
admits i c few some fit = rw (not_too_much i c few some, fit) refl

-- COMMANDS OF LINES

-- The command of a line, behind lines that tell what was given before: it fits, and what was given then is what the lines
-- tell with this one.
pub record Goes (before next : Before) (lines nodes : ℕ) (block : BlockId) (taken : TakenCommand) : Type 0 where
  pub fit : (i : Intake) → GivenIs before lines block.0 i → CommandFits nodes i taken
  pub given_then : (i : Intake) → GivenIs before lines block.0 i → GivenIs next (suc lines) block.0 (intake_after i taken.command)
  pub others : (b : ℕ) (i : Intake) → (b ≡ block.0 → ⊥) → GivenIs before lines b i → GivenIs next (suc lines) b i
  pub written : next.written ≤ most_bytes
  pub nodes_same : next.nodes ≡ before.nodes
  pub made : (b : ℕ) → is_made next b ≡ true → (b ≡ block.0 → ⊥) → is_made before b ≡ true

module _ (before next : Before) (lines nodes : ℕ) (block : BlockId) (c : Command) (rule : Rule) (nodes_same : next.nodes ≡ before.nodes) (written : next.written ≡ before.written + command_length c) (most : next.written ≤ most_bytes) (few : lines < MAX_COMMANDS) (formed : is_formed c rule ≡ true) (names : Names (IsNode nodes) c)
    (fit : (s : Stand) → StandIs before block.0 s → fits s c ≡ true) (stands : (s : Stand) → StandIs before block.0 s → StandIs next block.0 (stand_after s c)) (other : (b : ℕ) → (b ≡ block.0 → ⊥) → next.stage b ≡ before.stage b) where
  goes_so : Goes before next lines nodes block (record { command = c; rule = rule })
  goes_so = record {
    fit = λ i g. record { formed = formed; names = names; admits = admits i c (omega (arith, g.bytes, written, most)) (omega (arith, g.commands, few)) (fit i.stand g.stand) };
    given_then = λ i g. record { stand = stands i.stand g.stand; bytes = omega (arith, g.bytes, written); commands = omega (arith, g.commands) };
    others = λ b i apart g. record {
      stand = record {
        unmade = λ e. g.stand.unmade (ap is_created (sym (other b apart)) ∙ e);
        open_is = λ e. g.stand.open_is (ap is_open (sym (other b apart)) ∙ e);
        closed = λ e. g.stand.closed (ap is_closed (sym (other b apart)) ∙ e);
      };
      bytes = omega (arith, g.bytes, written);
      commands = omega (arith, g.commands);
    };
    written = most;
    nodes_same = nodes_same;
    made = λ b e apart. ap (λ s. is_created s || (is_open s || is_closed s)) (sym (other b apart)) ∙ e;
  }

abbrev pub GoesWith : Before → Before → ℕ → ℕ → (ℕ → Rule) → Option Ordered → Type 0
GoesWith before next lines nodes rules None = Unit {0}
GoesWith before next lines nodes rules (Some o) = Goes before next lines nodes o.block (record { command = o.command; rule = rules o.block.0 })

-- STAGES

true_false : true ≡ false → ⊥
true_false e = cc

pub same_stand : (before next : Before) (b : ℕ) (s : Stand) → next.stage b ≡ before.stage b → StandIs before b s → StandIs next b s
same_stand before next b s same st = record {
  unmade = λ e. st.unmade (ap is_created (sym same) ∙ e);
  open_is = λ e. st.open_is (ap is_open (sym same) ∙ e);
  closed = λ e. st.closed (ap is_closed (sym same) ∙ e);
}

open_stand : (next : Before) (b : ℕ) → is_created (next.stage b) ≡ true → is_closed (next.stage b) ≡ false → StandIs next b stand.Open
open_stand next b there open_so = record {
  unmade = λ e. absurd (true_false (sym there ∙ e));
  open_is = λ e. refl;
  closed = λ e. absurd (true_false (sym e ∙ open_so));
}

closed_stand : (next : Before) (b : ℕ) → is_created (next.stage b) ≡ true → is_open (next.stage b) ≡ false → StandIs next b stand.Closed
closed_stand next b there closed_so = record {
  unmade = λ e. absurd (true_false (sym there ∙ e));
  open_is = λ e. absurd (true_false (sym e ∙ closed_so));
  closed = λ e. refl;
}

open_fits : (before : Before) (b : ℕ) (s : Stand) → is_open (before.stage b) ≡ true → StandIs before b s → given.is_open s ≡ true
open_fits before b s e st = ap given.is_open (st.open_is e)

pub not_eqb : (a b : ℕ) → (a ≡ b → ⊥) → (a == b) ≡ false
not_eqb a b apart = go (a == b) refl
  where
    go : (q : Bool) → (a == b) ≡ q → (a == b) ≡ false
    go true e = absurd (apart (eqb-true a b e))
    go false e = e

not-true : (x y : Bool) → (not x && y) ≡ true → x ≡ false
not-true true y e = absurd (true_false (sym e))
not-true false y e = refl

-- LINES

pub goes : (before : Before) (line : Instruction) (lines : ℕ) (rules : ℕ → Rule) → ((b : ℕ) → IsChunkSize (rules b).chunk) → before.written ≤ most_bytes → lines < MAX_COMMANDS → LineFits before line
    → GoesWith before (after before line) lines before.nodes rules (ordered_by line)
goes before (says.Create b members) lines rules chunks most few l =
    let next : Before = after before (says.Create b members) in
    goes_so before next lines before.nodes b (command.Create members) (rules b.0) refl (omega arith) most few
    (grind (arith, nat_tests, l.words.formed, (chunks b.0).least, (chunks b.0).greatest))
    l.words.below
    (λ s st. rw (st.unmade (not-true (is_created (before.stage b.0)) _ l.kept.0), l.words.some) refl)
    (λ s st. open_stand next b.0 (rw (eq-eqb b.0 b.0 refl) refl) (rw (eq-eqb b.0 b.0 refl) refl))
    (λ x apart. rw (not_eqb x b.0 apart) refl)
goes before (says.Append b members) lines rules chunks most few l =
    let next : Before = after before (says.Append b members) in
    goes_so before next lines before.nodes b (command.Append members) (rules b.0) refl (omega arith) most few l.words.formed
    l.words.below
    (λ s st. rw (st.closed l.kept.0, l.words.some) refl)
    (λ s st. open_stand next b.0 (rw (eq-eqb b.0 b.0 refl) refl) (rw (eq-eqb b.0 b.0 refl) refl))
    (λ x apart. rw (not_eqb x b.0 apart) refl)
goes before (says.Write b bytes) lines rules chunks most few l =
    let next : Before = after before (says.Write b bytes) in
    goes_so before next lines before.nodes b (command.Write bytes) (rules b.0) refl refl (grind (arith, nat_tests, l.kept.1.0)) few refl tt
    (λ s st. open_fits before b.0 s l.kept.0 st) (λ s st. same_stand before next b.0 s refl st) (λ x apart. refl)
goes before (says.Fill b count) lines rules chunks most few l =
    let next : Before = after before (says.Fill b count) in
    goes_so before next lines before.nodes b (command.Fill count) (rules b.0) refl refl (grind (arith, nat_tests, l.kept.1.0)) few refl tt
    (λ s st. open_fits before b.0 s l.kept.0 st) (λ s st. same_stand before next b.0 s refl st) (λ x apart. refl)
goes before (says.Hflush b) lines rules chunks most few l =
    goes_so before before lines before.nodes b command.Hflush (rules b.0) refl (omega arith) most few refl tt
    (λ s st. open_fits before b.0 s l.kept.0 st) (λ s st. st) (λ x apart. refl)
goes before (says.Hsync b) lines rules chunks most few l =
    goes_so before before lines before.nodes b command.Hsync (rules b.0) refl (omega arith) most few refl tt
    (λ s st. open_fits before b.0 s l.kept.0 st) (λ s st. st) (λ x apart. refl)
goes before (says.Close b) lines rules chunks most few l =
    let next : Before = after before (says.Close b) in
    goes_so before next lines before.nodes b command.Close (rules b.0) refl (omega arith) most few refl tt
    (λ s st. open_fits before b.0 s l.kept.0 st)
    (λ s st. closed_stand next b.0 (rw (eq-eqb b.0 b.0 refl) refl) (rw (eq-eqb b.0 b.0 refl) refl))
    (λ x apart. rw (not_eqb x b.0 apart) refl)
goes before (says.Nodes count) lines rules chunks most few l = tt
goes before (says.Seed seed) lines rules chunks most few l = tt
goes before (says.Sums b rule) lines rules chunks most few l = tt
goes before (says.Read b n offset count) lines rules chunks most few l = tt
goes before (says.Recover b n members) lines rules chunks most few l = tt
goes before (says.Cut b conn down up) lines rules chunks most few l = tt
goes before (says.Fault n nth) lines rules chunks most few l = tt
goes before (says.Stop n) lines rules chunks most few l = tt
goes before (says.Start n) lines rules chunks most few l = tt
goes before (says.Run count) lines rules chunks most few l = tt
goes before says.Settle lines rules chunks most few l = tt
goes before (says.Step b event) lines rules chunks most few l = tt
goes before (says.Expect n b state stamp written) lines rules chunks most few l = tt

-- CLIENTS

pub created_made : (before : Before) (b : ℕ) → is_created (before.stage b) ≡ true → is_made before b ≡ true
created_made before b e = rw (e) refl

open_made : (before : Before) (b : ℕ) → is_open (before.stage b) ≡ true → is_made before b ≡ true
open_made before b e = by (is_created (before.stage b)) (is_closed (before.stage b))
  where
    by : (x z : Bool) → (x || (is_open (before.stage b) || z)) ≡ true
    by true z = refl
    by false z = rw (e) refl

closed_made : (before : Before) (b : ℕ) → is_closed (before.stage b) ≡ true → is_made before b ≡ true
closed_made before b e = by (is_created (before.stage b)) (is_open (before.stage b))
  where
    by : (x y : Bool) → (x || (y || is_closed (before.stage b))) ≡ true
    by true y = refl
    by false true = refl
    by false false = e

-- the block of a line's command has a client
abbrev pub HasOwn : {F I O : Type 0} → Playing F I O → Option Ordered → Type 0
HasOwn x None = Unit {0}
HasOwn x (Some o) = HasClient x.player.clients.items o.block.0

pub has_own : {F I O : Type 0} (x : Playing F I O) (before : Before) (line : Instruction) → ((b : ℕ) → is_made before b ≡ true → HasClient x.player.clients.items b) → LineFits before line → CreatesHere x line → HasOwn x (ordered_by line)
has_own x before (says.Create b members) made l here = here
has_own x before (says.Append b members) made l here = made b.0 (closed_made before b.0 l.kept.0)
has_own x before (says.Write b bytes) made l here = made b.0 (open_made before b.0 l.kept.0)
has_own x before (says.Fill b count) made l here = made b.0 (open_made before b.0 l.kept.0)
has_own x before (says.Hflush b) made l here = made b.0 (open_made before b.0 l.kept.0)
has_own x before (says.Hsync b) made l here = made b.0 (open_made before b.0 l.kept.0)
has_own x before (says.Close b) made l here = made b.0 (open_made before b.0 l.kept.0)
has_own x before (says.Nodes count) made l here = tt
has_own x before (says.Seed seed) made l here = tt
has_own x before (says.Sums b rule) made l here = tt
has_own x before (says.Read b n offset count) made l here = tt
has_own x before (says.Recover b n members) made l here = tt
has_own x before (says.Cut b conn down up) made l here = tt
has_own x before (says.Fault n nth) made l here = tt
has_own x before (says.Stop n) made l here = tt
has_own x before (says.Start n) made l here = tt
has_own x before (says.Run count) made l here = tt
has_own x before says.Settle made l here = tt
has_own x before (says.Step b event) made l here = tt
has_own x before (says.Expect n b state stamp written) made l here = tt

-- LINES

pub plays_command : (blocks : List ℕ) (number : ℕ) (line : Instruction) (o : Ordered) (p : PlayState) → ordered_by line ≡ Some o → PlaysLine blocks number line p (ordered p o.block.0 o.command)
plays_command blocks number (says.Create b members) o p e = ap (λ (x : Ordered). ordered p x.block.0 x.command) (same_Some o _ (sym e))
plays_command blocks number (says.Append b members) o p e = ap (λ (x : Ordered). ordered p x.block.0 x.command) (same_Some o _ (sym e))
plays_command blocks number (says.Write b bytes) o p e = ap (λ (x : Ordered). ordered p x.block.0 x.command) (same_Some o _ (sym e))
plays_command blocks number (says.Fill b count) o p e = ap (λ (x : Ordered). ordered p x.block.0 x.command) (same_Some o _ (sym e))
plays_command blocks number (says.Hflush b) o p e = ap (λ (x : Ordered). ordered p x.block.0 x.command) (same_Some o _ (sym e))
plays_command blocks number (says.Hsync b) o p e = ap (λ (x : Ordered). ordered p x.block.0 x.command) (same_Some o _ (sym e))
plays_command blocks number (says.Close b) o p e = ap (λ (x : Ordered). ordered p x.block.0 x.command) (same_Some o _ (sym e))
plays_command blocks number (says.Nodes count) o p e = cc
plays_command blocks number (says.Seed seed) o p e = cc
plays_command blocks number (says.Sums b rule) o p e = cc
plays_command blocks number (says.Read b n offset count) o p e = cc
plays_command blocks number (says.Recover b n members) o p e = cc
plays_command blocks number (says.Cut b conn down up) o p e = cc
plays_command blocks number (says.Fault n nth) o p e = cc
plays_command blocks number (says.Stop n) o p e = cc
plays_command blocks number (says.Start n) o p e = cc
plays_command blocks number (says.Run count) o p e = cc
plays_command blocks number says.Settle o p e = cc
plays_command blocks number (says.Step b event) o p e = cc
plays_command blocks number (says.Expect n b state stamp written) o p e = cc

module _ {F R I O : Type 0} (f : files.Ghosts F) (r : roads.Ghosts R I O) (i : link_in.Ghosts I) (o : link_out.Ghosts O) (line : Instruction) (old new : Playing F I O) (road : R) (ord : Ordered) (is : ordered_by line ≡ Some ord) (plays : OrdersArePlays f r i o) where
  module _ (number : ℕ) (before : Before) (lines : ℕ) (p : PlayState) (stands : PlayIs f r i o p road old) (behind : IsBehind before lines p old) (asked : AsksBelow number p) (l : LineFits before line) (here : CreatesHere old line) (few : lines < MAX_COMMANDS) where
    abbrev b : ℕ
    b = ord.block.0

    abbrev taken : TakenCommand
    taken = record { command = ord.command; rule = p.rules b }

    it_goes : Goes before (after before line) lines before.nodes ord.block taken
    it_goes = subst (λ (x : Option Ordered). GoesWith before (after before line) lines before.nodes p.rules x) is (goes before line lines p.rules behind.chunks behind.written few l)

    has : HasClient old.player.clients.items b
    has = subst (λ (x : Option Ordered). HasOwn old x) is (has_own old before line behind.clients l here)

    -- what the writers were given, with this command
    given_now : (x : ℕ) → HasClient old.player.clients.items x → GivenIs (after before line) (suc lines) x (given_in (ordered p b ord.command) x)
    given_now x h = by (x == b) refl
      where
        by : (q : Bool) → (x == b) ≡ q → GivenIs (after before line) (suc lines) x (given_in (ordered p b ord.command) x)
        by true e =
            let same : x ≡ b = eqb-true x b e in
            let more : given_in (ordered p b ord.command) x ≡ intake_after (given_in p x) ord.command =
            ap (λ (q : List TakenCommand). given_with (intake_of (states.world_of p) x) q) (add_at p.queues b (taken ∷ []) x same) ∙ given_more (intake_of (states.world_of p) x) (p.queues x) taken in
            subst (λ (j : Intake). GivenIs (after before line) (suc lines) x j) (sym more)
            (subst (λ (n : ℕ). GivenIs before lines n (given_in p x) → GivenIs (after before line) (suc lines) n (intake_after (given_in p x) ord.command)) (sym same) (it_goes.given_then (given_in p x)) (behind.given x h))
        by false e =
            let apart : x ≡ b → ⊥ = λ same. true_false (sym (eq-eqb x b same) ∙ e) in
            subst (λ (j : Intake). GivenIs (after before line) (suc lines) x j)
            (sym (ap (λ (q : List TakenCommand). given_with (intake_of (states.world_of p) x) q) (add_other p.queues b (taken ∷ []) x apart)))
            (it_goes.others x (given_in p x) apart (behind.given x h))

    line_left : IsLeft f r i o (ordered p b ord.command) old new road → LineLeft f r i o number line before lines p old new road
    line_left left = record {
      left = ordered p b ord.command;
      plays = plays_command (blocks_in old) number line ord p is;
      nodes = refl;
      is = left.is;
      blocks = left.blocks;
      behind = record {
        nodes = it_goes.nodes_same ∙ behind.nodes;
        written = it_goes.written;
        chunks = behind.chunks;
        clients = λ x made. moved new.player.clients.items old.player.clients.items x left.blocks (was_made x made);
        given = λ x h. given_now x (moved old.player.clients.items new.player.clients.items x (sym left.blocks) h);
      };
      asked = asked_next number p asked;
    }
      where
        was_made : (x : ℕ) → is_made (after before line) x ≡ true → HasClient old.player.clients.items x
        was_made x made = by (x == b) refl
          where
            by : (q : Bool) → (x == b) ≡ q → HasClient old.player.clients.items x
            by true e = subst (λ (n : ℕ). HasClient old.player.clients.items n) (sym (eqb-true x b e)) has
            by false e = behind.clients x (it_goes.made x made (λ same. true_false (sym (eq-eqb x b same) ∙ e)))

    -- the client of the block was given it, or memory ran out
    line_ends : (place : Option ℕ) (result : Result (Unit {0}) PlayFault) → client_place old.player.clients.items b ≡ place → OrdersAt ord.block ord.command place old new result → LineEnds f r i o number line before lines p old new road road result
    line_ends None result none h = absurd (has_place old.player.clients.items b has none)
    line_ends (Some place) (Ok u) there h = line_left (plays old new ord.block ord.command place p road h stands
        (subst (λ (n : ℕ). CommandFits n (given_in p b) taken) behind.nodes (it_goes.fit (given_in p b) (behind.given b has))))
    line_ends (Some place) (Err why) there h = subst (λ (x : PlayFault). IsCaused f r new road road x) (sym h) tt

  pub command_shows : (result : Result (Unit {0}) PlayFault) → Orders ord.block ord.command old new result → LineShows f r i o line old new road road result
  command_shows result h = λ number before lines p stands behind asked l here few.
      line_ends number before lines p stands behind asked l here few (client_place old.player.clients.items ord.block.0) result refl h
