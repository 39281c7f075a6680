-- A play without failures between the things that are due: what its world is, and what was done of its commands.
--
-- From here to the promise (`PlaysComplete`):
-- 1. `Played` holds of an opened play, and each line, each draw and each step keeps it. A command that joins a queue
--    fits those before it, as the script's lines do. What is due of connections and of readers keeps it
--    (specs/Keeping), as long as commands name nodes of the world, and replicas have their writers' rules, which both
--    stay so. A reader's connection is beside those of pipelines, and what happens on it leaves them, the replicas and
--    the office alone. What a writer does is to keep `Links` and `Writers` by the cases that stand there. For a packet
--    that a writer sends: it is the next one, since its sums are those that its bytes have, as long as these are below
--    256. From what writers do, and from what lines keep, the promise follows.
-- 2. Where something is awaited on a connection, something is due. By induction from the last connection up: an idle
--    end that awaits to be asked takes its request; a member whose mirror hasn't answered leads on to the mirror's
--    connection; where the answer, or an ack, is on its way, it is taken; where a packet is pending at a member without
--    a mirror, that acks it; where one is pending at another, that awaits it on its mirror's connection; where one is
--    on its way and none is pending, it is taken.
-- 3. So where nothing is due no writer has packets that aren't acked, none awaits the answer to its request, and none
--    has a step: its block is closed or streams with no command that waits, and its queue is empty. So each command was
--    taken, and answered where it is to be; and where the last one was a close, the members are whole (`RestsWell`),
--    with the bytes of all commands.
use Rattle.std.specs.Prelude.{ℕ, suc, ◌≡◌, ◌⊎◌, true, List, [], ◌∷◌, ◌++◌, length, map, slice_get, Option, Some, None, IfSome, Ok}
use Rattle.hd_base.specs.declared.numbers.NodeId.{NodeId}
use Rattle.writer_core.specs.declared.commands.Command.{Command}
use Rattle.writer_core.specs.declared.commands.Command.TheVariants as command
use Rattle.writer_core.specs.declared.intake.Intake.{Intake}
use Rattle.writer_core.specs.declared.phases.Waiting.{Waiting}
use Rattle.writer_core.specs.declared.phases.Waiting.TheVariants as waiting
use Rattle.writer_core.specs.declared.intake.Stand.{Stand}
use Rattle.writer_core.specs.declared.intake.Stand.TheVariants as stand
use Rattle.writer_core.specs.Commands.{admitted, stand_after}
use Rattle.world.specs.declared.events.TakenCommand.{TakenCommand}
use Rattle.world.specs.Clients.{is_formed}
use Rattle.world.specs.Parts.{Said}
use Rattle.world.specs.Worlds.{World, add}
use Rattle.world.specs.Safe.{Has}
use Rattle.play_model.specs.States.{PlayState, world_of, opened, ordered}
use Rattle.play_model.specs.Dues.{dues}
use Rattle.play_model.specs.Laws.{IsQuiet}
use Rattle.play_scripts.specs.PlayLaws.Members.{IsNode, Names}
use Rattle.play_completeness.specs.Complete.{WritesBytes, is_answered, bytes_after, IsDone, IsGood, AllDone, ClosesWhole}
use Rattle.play_completeness.specs.Plain.{ArePlain, Peaceful}
use Rattle.play_completeness.specs.Links.{Links}
use Rattle.play_completeness.specs.Writers.{Writers}

-- QUEUES

-- Queued commands are formed as commands are, name nodes, and fit one after the other.
abbrev pub QueueFits : ℕ → Intake → List TakenCommand → Type 0
QueueFits nodes i [] = Unit {0}
QueueFits nodes i (t ∷ queue) = (is_formed t.command t.rule ≡ true) × Names (IsNode nodes) t.command ×
    (after : Intake) × (admitted i t.command ≡ Ok after) × QueueFits nodes after queue

-- COMMANDS THAT WERE TAKEN

-- the command that waits so
abbrev pub IsOf : Waiting → Command → Type 0
IsOf waiting.Opening (command.Create members) = Unit {0}
IsOf waiting.Opening (command.Append members) = Unit {0}
IsOf (waiting.Flush n) command.Hflush = Unit {0}
IsOf (waiting.Sync n p) command.Hsync = Unit {0}
IsOf waiting.Close command.Close = Unit {0}
IsOf x c = ⊥

-- the last of these waits so
pub record WaitsLast (taken : List Command) (x : Waiting) : Type 0 where
  pub place : ℕ
  pub command : Command
  pub is : slice_get taken place ≡ Some command
  pub last : suc place ≡ length taken
  pub of : IsOf x command

-- Each command that was taken and is answered was answered well, but for the one that waits, the last; and nothing else
-- was answered.
pub record DoneSoFar (taken : List Command) (said : List Said) (waits : Option Waiting) : Type 0 where
  pub each : (k : ℕ) (c : Command) → slice_get taken k ≡ Some c → is_answered c ≡ true →
      IsDone said k c ⊎ ((suc k ≡ length taken) × (waits ≡ None → ⊥))
  pub only : (s : Said) → Has said s → IsGood taken s
  pub last : IfSome waits (WaitsLast taken)

-- where commands leave a block
abbrev pub stand_of : Stand → List Command → Stand
stand_of s [] = s
stand_of s (c ∷ commands) = stand_of (stand_after s c) commands

-- The commands of a block write bytes. Some of them were taken, the others are queued. Those taken have left the block
-- where its writer has it, with the members of its create, and have written what its latest session has.
pub record BlockPlayed (w : World) (b : ℕ) (queue : List TakenCommand) (commands : List Command) : Type 0 where
  pub taken : List Command
  pub are : commands ≡ taken ++ map (λ (t : TakenCommand). t.command) queue
  pub writes : WritesBytes commands
  pub number : (w.writers b).known.taken ≡ length taken
  pub stand : (w.writers b).known.intake.stand ≡ stand_of stand.Unmade taken
  pub members : (i : ℕ) (created : List NodeId) → slice_get taken i ≡ Some (command.Create created) →
      (w.writers b).known.members ≡ created
  pub answers : DoneSoFar taken (w.said b) (w.writers b).known.waiting
  pub bytes : w.written (w.latest b) ≡ bytes_after (record { 0 = b }) [] taken
  pub queued : QueueFits w.nodes (w.writers b).known.intake queue

-- PLAYS

-- A play in which these commands were given to the writers of blocks, no line has asked to recover, and no write is to
-- fail.
pub record Played (p : PlayState) (commands : ℕ → List Command) : Type 0 where
  pub recoveries : p.recoveries ≡ []
  pub unarmed : (n : ℕ) → p.faults n ≡ 0
  pub plain : ArePlain p.events
  pub quiet : IsQuiet (world_of p)
  pub peaceful : Peaceful (world_of p)
  pub links : Links (world_of p)
  pub writers : Writers (world_of p)
  pub blocks : (b : ℕ) → BlockPlayed (world_of p) b (p.queues b) (commands b)

-- the queue of a block that this command joins
abbrev pub ordered_queue : PlayState → ℕ → Command → List TakenCommand
ordered_queue p b c = p.queues b ++ record { command = c; rule = p.rules b } ∷ []

-- Where nothing is due with the writers of these blocks, each of them is complete; so is a block without commands.
abbrev pub SettledIsComplete : Type 0
SettledIsComplete = (blocks : List ℕ) (p : PlayState) (commands : ℕ → List Command) (b : ℕ) → Played p commands →
    dues blocks p ≡ [] → Has blocks b ⊎ (commands b ≡ [])
    → AllDone (commands b) ((world_of p).said b) × ClosesWhole (world_of p) (record { 0 = b }) (commands b)

-- So is a play that was only opened, without commands.
abbrev pub OpenedArePlayed : Type 0
OpenedArePlayed = (nodes seed : ℕ) → Played (opened nodes seed) (λ b. [])

-- It stays so where a command joins the queue of its block that fits those before it, and writes bytes, if it writes.
abbrev pub CommandsJoin : Type 0
CommandsJoin = (p : PlayState) (commands : ℕ → List Command) (b : ℕ) (c : Command) → Played p commands →
    WritesBytes (c ∷ []) →
    QueueFits (world_of p).nodes ((world_of p).writers b).known.intake (ordered_queue p b c)
    → Played (ordered p b c) (add commands b (c ∷ []))
