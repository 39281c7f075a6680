-- How much a writer has still to do: a weight of its record. Each own step lowers it by more than what it sends weighs, and what comes on its
-- connection raises it by less than what was taken weighed.
use Rattle.std.specs.Prelude.{ℕ, ◌≡◌, ◌≢◌, ◌<◌, ◌≤◌, ◌+◌, ◌-◌, ◌*◌, ◌^◌, Bool, true, false, List, length, sum_by, Option, Some, None}
use Rattle.hd_base.specs.declared.numbers.BlockId.{BlockId}
use Rattle.hd_base.specs.declared.numbers.ConnId.{ConnId}
use Rattle.writer_core.specs.declared.actions.Action.{Action}
use Rattle.writer_core.specs.declared.actions.Action.TheVariants as action
use Rattle.writer_core.specs.declared.commands.Command.{Command}
use Rattle.writer_core.specs.declared.commands.Command.TheVariants as command
use Rattle.writer_core.specs.declared.phases.Phase.{Phase}
use Rattle.writer_core.specs.declared.phases.Phase.TheVariants as phase
use Rattle.writer_core.specs.declared.phases.Setup.{Setup}
use Rattle.writer_core.specs.declared.phases.Setup.TheVariants as setup
use Rattle.writer_core.specs.declared.phases.SyncPacket.TheVariants as sync
use Rattle.writer_core.specs.declared.phases.Waiting.{Waiting}
use Rattle.writer_core.specs.declared.phases.Waiting.TheVariants as waiting
use Rattle.writer_core.specs.declared.records.WriterRecord.{WriterRecord}
use Rattle.writer_core.specs.Transitions.{Step, own_step}
use Rattle.packet_stream.specs.Streams.{StreamState, IsStream, written_in}
use Rattle.world.specs.declared.events.Caller.TheVariants as caller
use Rattle.world.specs.declared.events.Event.{Event}
use Rattle.world.specs.declared.events.Event.TheVariants as event
use Rattle.world.specs.declared.events.OwnStep.TheVariants as own
use Rattle.world.specs.declared.events.TakenCommand.{TakenCommand}
use Rattle.world.specs.Parts.{by_writer}
use Rattle.world.specs.Worlds.{World, start}
use Rattle.world.specs.Events.{is_enabled, happens, run}
use Rattle.world_texts.specs.Texts.{AllFit}
use Rattle.world_settling.specs.Traffic.{traffic}

-- A packet that may still be sent: more than it weighs on a connection with seventeen members, of which no pipeline has so many.
abbrev pub per_packet : ℕ
per_packet = 110

-- A pipeline whose request was sent: more than all packets that aren't acked, which may be sent again.
abbrev pub per_setup : ℕ
per_setup = 9000

-- A pipeline that is wanted: more than one whose request was sent, and a new connection with its request.
abbrev pub per_pipeline : ℕ
per_pipeline = 9300

-- A member of the pipeline: where one is dropped another pipeline is wanted.
abbrev pub per_member : ℕ
per_member = 9500

-- the setup comes after the last packet
abbrev pub is_closing : Setup → Bool
is_closing setup.CloseRecovery = true
is_closing _ = false

-- The last packet was formed, or no packet is to be formed any more.
abbrev pub past_last : Phase → Bool
past_last (phase.Wanted s) = is_closing s
past_last (phase.Stamped s stamp) = is_closing s
past_last (phase.Requested s stamp) = is_closing s
past_last (phase.Accepted s stamp) = is_closing s
past_last phase.Opened = false
past_last (phase.Streaming sent) = false
past_last _ = true

-- by where the writer is, with so many packets that aren't acked
abbrev pub phase_weight : Phase → ℕ → ℕ
phase_weight (phase.Wanted s) unacked = per_pipeline
phase_weight (phase.Stamped s stamp) unacked = per_pipeline - 1
phase_weight (phase.Requested s stamp) unacked = per_setup
phase_weight (phase.Accepted s stamp) unacked = per_setup
phase_weight phase.Opened unacked = per_setup
phase_weight (phase.Streaming sent) unacked = per_packet * (unacked - sent)
phase_weight phase.Finished unacked = 1
phase_weight phase.Completed unacked = 1
phase_weight _ unacked = 0

-- a command that waits is answered; an hsync has a packet of its own
abbrev pub wait_weight : Option Waiting → ℕ
wait_weight None = 0
wait_weight (Some (waiting.Sync n sync.Due)) = 1 + per_packet
wait_weight (Some _) = 1

-- the last packet, where a close waits for it
abbrev pub last_weight : Bool → Option Waiting → ℕ
last_weight false (Some waiting.Close) = per_packet
last_weight past x = 0

-- how many bytes were written and are in no packet
abbrev pub unformed : StreamState → ℕ
unformed s = written_in s - s.sent

-- what a command brings
abbrev pub command_weight : Command → ℕ
command_weight (command.Create members) = per_member * length members + per_pipeline + 2
command_weight (command.Append members) = per_member * length members + per_pipeline + 2
command_weight (command.Write bytes) = per_packet * length bytes + 1
command_weight (command.Fill count) = per_packet * count + 1
command_weight command.Hflush = 2
command_weight command.Hsync = per_packet + 2
command_weight command.Close = per_packet + 2

-- what a step is given that takes a command, or none
abbrev pub given_weight : Option TakenCommand → ℕ
given_weight None = 0
given_weight (Some t) = command_weight t.command

abbrev pub writer_weight : WriterRecord → ℕ
writer_weight x = per_member * length x.members + phase_weight x.phase (length x.stream.unacked)
    + wait_weight x.waiting + last_weight (past_last x.phase) x.waiting + per_packet * unformed x.stream
    + sum_by command_weight x.queue

-- what an action is to be paid with: a packet weighs less than this
abbrev pub cost : Action → ℕ
cost (action.Send p) = 103
cost action.Took = 1
cost (action.Answered n a) = 1
cost _ = 0

-- A step pays for its action.
pub record Pays (x : WriterRecord) (s : Step) : Type 0 where
  pub is : writer_weight s.writer + cost s.action ≤ writer_weight x

abbrev pub StepsPay : Type 0
StepsPay = (x : WriterRecord) → IsStream x.stream → Pays x (own_step x)

-- WHAT A WRITER TAKES

-- What is to be delivered, and what the writer of a block has to do, are together lower than before with what was given; other writers stay.
pub record LowersBoth (w v : World) (b given : ℕ) : Type 0 where
  pub is : traffic v + writer_weight (v.writers b).known < traffic w + writer_weight (w.writers b).known + given
  pub others : (a : ℕ) → a ≢ b → v.writers a ≡ w.writers a

-- So it is in every world where a writer takes what stands next on its connection.
abbrev pub AnswersLower : Type 0
AnswersLower = (w : World) (c : ConnId) (b : ℕ) → (w.dialled c.0).upper ≡ by_writer b →
    is_enabled w (event.Up c) ≡ true → LowersBoth w (happens w (event.Up c)) b 0

-- WHAT A WRITER DOES

-- So it is, with what the command weighs that is taken, after every list of events that fit, in each own step of a writer for which no answer of
-- the office waits. A step that asks the office is enabled only once its answer waits.
abbrev pub OwnStepsLower : Type 0
OwnStepsLower = (nodes : ℕ) (events : List Event) (b : BlockId) (takes : Option TakenCommand) (answered : Bool) →
    AllFit events → (run (start nodes) events).office.next.0 ≤ 2 ^ 64 →
    ((run (start nodes) events).writers b.0).told ≡ None →
    is_enabled (run (start nodes) events) (event.Own (own.Writer b takes answered)) ≡ true →
    LowersBoth (run (start nodes) events) (happens (run (start nodes) events) (event.Own (own.Writer b takes answered)))
    b.0 (given_weight takes)

-- The world after the office's answer to the writer of a block.
abbrev pub answered_world : World → BlockId → World
answered_world w b = happens w (event.Office (caller.Writer b))

-- So it is, too, where a writer asks the office and goes on with the answer in its next own step: it is given a stamp
-- and dials, or commits, or completes its block, or is refused.
abbrev pub AskingLowers : Type 0
AskingLowers = (nodes : ℕ) (events : List Event) (b : BlockId) (answered : Bool) →
    AllFit events → (run (start nodes) events).office.next.0 ≤ 2 ^ 64 →
    ((run (start nodes) events).writers b.0).told ≡ None →
    is_enabled (run (start nodes) events) (event.Office (caller.Writer b)) ≡ true →
    is_enabled (answered_world (run (start nodes) events) b) (event.Own (own.Writer b None answered)) ≡ true →
    LowersBoth (run (start nodes) events)
    (happens (answered_world (run (start nodes) events) b) (event.Own (own.Writer b None answered))) b.0 0
