-- Queues of commands, and what they leave of a block.
use Rattle.std.proofs.Common.{◌≡◌, ℕ, ◌≤◌, ◌+◌, true, List, [], ◌∷◌, ◌++◌, length, map, slice_get, Some, refl, sym, ◌∙◌, ap, subst, arith, ◌⊎◌, inl, inr}
use Rattle.std.specs.Prelude.{◌&&◌, nat_le}
use Rattle.std.proofs.lemmas.Bool.{false≢true}
use Rattle.std.proofs.lemmas.Bool.Decides.{nat_tests}
use Rattle.hd_base.specs.declared.numbers.NodeId.{NodeId}
use Rattle.hd_base.specs.declared.pipeline.TheConstants.{MAX_MEMBERS}
use Rattle.hd_base.specs.declared.sum_rule.TheConstants.{MIN_CHUNK_SIZE, MAX_CHUNK_SIZE}
use Rattle.hd_base.specs.SumRules.{Rule}
use Rattle.name_core.specs.declared.records.TheConstants.{MAX_APPEND_LENGTH}
use Rattle.writer_core.specs.declared.commands.Command.{Command}
use Rattle.writer_core.specs.declared.commands.Command.TheVariants as command
use Rattle.writer_core.specs.declared.intake.Intake.{Intake}
use Rattle.writer_core.specs.declared.intake.Stand.{Stand}
use Rattle.writer_core.specs.declared.intake.Stand.TheVariants as stand
use Rattle.writer_core.specs.Commands.{command_length, queued_bytes, fits, stand_after, intake_after}
use Rattle.completing_writers.specs.World.TakenCommand.{TakenCommand}
use Rattle.completing_writers.specs.World.Clients.{are_distinct, are_members, is_formed}
use Rattle.completing_writers.proofs.WorldLaws.FactTables.{and-left}
use Rattle.completing_writers.proofs.WorldOrders.Lists.{Behind, get-append}
use Rattle.play_lines.specs.PlayLaws.Members.{IsNode, AreAll, Names}
use Rattle.play_lines.proofs.PlayLaws.Taking.{admitted-is}
use Rattle.play_lines.specs.PlayLaws.Commands.{CommandFits, given_with}
use Rattle.completing_writers.specs.PlayCompleteness.Complete.{KeepsMembers}
use Rattle.completing_writers.specs.PlayCompleteness.Played.{QueueFits, stand_of}
use Rattle.completing_writers.proofs.PlayCompleteness.Flowing.{one-place}
use Rattle.completing_writers.specs.Steps.{IsCreate, CommandsWell}

-- WHAT IS QUEUED

-- one command more, which fits behind the others
pub queue-more : (nodes : ℕ) (i : Intake) (queue : List TakenCommand) (t : TakenCommand) → QueueFits nodes i queue → CommandFits nodes (given_with i queue) t → QueueFits nodes i (queue ++ t ∷ [])
queue-more nodes i [] t h k = (k.formed, k.names, _, k.admits, tt)
queue-more nodes i (x ∷ queue) t h k =
    let is : h.2 ≡ _ = (admitted-is i h.2 x.command h.3).is in
    (h.0, h.1, h.2, h.3, queue-more nodes h.2 queue t h.4 (subst (λ (j : Intake). CommandFits nodes (given_with j queue) t) (sym is) k))

-- where the queue leaves a block
pub given-stand : (i : Intake) (queue : List TakenCommand) → (given_with i queue).stand ≡ stand_of i.stand (map (λ (t : TakenCommand). t.command) queue)
given-stand i [] = refl
given-stand i (t ∷ queue) = given-stand (intake_after i t.command) queue

pub stand-join : (s : Stand) (xs ys : List Command) → stand_of s (xs ++ ys) ≡ stand_of (stand_of s xs) ys
stand-join s [] ys = refl
stand-join s (c ∷ xs) ys = stand-join (stand_after s c) xs ys

-- HOW MANY BYTES

pub queued-more : (xs : List Command) (c : Command) → queued_bytes (xs ++ c ∷ []) ≡ queued_bytes xs + command_length c
queued-more [] c = omega arith
queued-more (x ∷ xs) c = let rest : queued_bytes (xs ++ c ∷ []) ≡ queued_bytes xs + command_length c = queued-more xs c in omega (arith, rest)

-- THE COMMANDS OF A BLOCK

-- only a create fits first
first-fits : (c : Command) → fits stand.Unmade c ≡ true → IsCreate c
first-fits (command.Create ms) e = (ms, refl)
first-fits (command.Append ms) e = absurd (false≢true e)
first-fits (command.Write bytes) e = absurd (false≢true e)
first-fits (command.Fill n) e = absurd (false≢true e)
first-fits command.Hflush e = absurd (false≢true e)
first-fits command.Hsync e = absurd (false≢true e)
first-fits command.Close e = absurd (false≢true e)

formed-few : (c : Command) (rule : Rule) (ms : List NodeId) → c ≡ command.Create ms → is_formed c rule ≡ true → length ms ≤ MAX_MEMBERS
formed-few c rule ms e formed =
    let all : is_formed (command.Create ms) rule ≡ true = ap (λ (d : Command). is_formed d rule) (sym e) ∙ formed in
    let members : are_members ms ≡ true = and-left (are_members ms) (nat_le MIN_CHUNK_SIZE rule.chunk) (and-left (are_members ms && nat_le MIN_CHUNK_SIZE rule.chunk) (nat_le rule.chunk MAX_CHUNK_SIZE) all) in
    let few : nat_le (length ms) MAX_MEMBERS ≡ true = and-left (nat_le (length ms) MAX_MEMBERS) (are_distinct ms) members in
    grind (arith, nat_tests, few)

no-length : (xs : List Command) (k : ℕ) → 0 ≡ length xs + k → xs ≡ []
no-length [] k e = refl
no-length (x ∷ xs) k e = absurd (omega (arith, e))

-- Commands that are as they should be stay so with one more that fits behind them.
pub commands-more : (nodes : ℕ) (commands : List Command) (i : Intake) (t : TakenCommand) → CommandsWell nodes commands → i.stand ≡ stand_of stand.Unmade commands → CommandFits nodes i t → KeepsMembers (commands ++ t.command ∷ []) → queued_bytes commands + command_length t.command ≤ MAX_APPEND_LENGTH
    → CommandsWell nodes (commands ++ t.command ∷ [])
commands-more nodes commands i t h stands k keeps few = record {
  first = λ d e. first d (get-append commands (t.command ∷ []) 0 d e);
  few = λ j ms e. short j ms (get-append commands (t.command ∷ []) j (command.Create ms) e);
  are_nodes = λ j ms e. named j ms (get-append commands (t.command ∷ []) j (command.Create ms) e);
  keeps = keeps;
  short = let more : queued_bytes (commands ++ t.command ∷ []) ≡ queued_bytes commands + command_length t.command = queued-more commands t.command in omega (arith, more, few);
}
  where
    first : (d : Command) → (slice_get commands 0 ≡ Some d) ⊎ Behind commands (t.command ∷ []) 0 d → IsCreate d
    first d (inl e) = h.first d e
    first d (inr q) =
        let none : commands ≡ [] = no-length commands q.place q.is in
        let unmade : i.stand ≡ stand.Unmade = stands ∙ ap (stand_of stand.Unmade) none in
        let fit : fits stand.Unmade t.command ≡ true = ap (λ (s : Stand). fits s t.command) (sym unmade) ∙ (admitted-is i _ t.command k.admits).fits_so in
        subst IsCreate (one-place t.command d q.place q.found).1 (first-fits t.command fit)

    short : (j : ℕ) (ms : List NodeId) → (slice_get commands j ≡ Some (command.Create ms)) ⊎ Behind commands (t.command ∷ []) j (command.Create ms) → length ms ≤ MAX_MEMBERS
    short j ms (inl e) = h.few j ms e
    short j ms (inr q) = formed-few t.command t.rule ms (one-place t.command (command.Create ms) q.place q.found).1 k.formed

    named : (j : ℕ) (ms : List NodeId) → (slice_get commands j ≡ Some (command.Create ms)) ⊎ Behind commands (t.command ∷ []) j (command.Create ms) → AreAll (IsNode nodes) ms
    named j ms (inl e) = h.are_nodes j ms e
    named j ms (inr q) = subst (λ (d : Command). Names (IsNode nodes) d) (one-place t.command (command.Create ms) q.place q.found).1 k.names
