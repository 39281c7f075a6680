-- What the lines of a script do in a play.
use Rattle.std.specs.Prelude.{zero, suc, ◌≡◌, ℕ, ◌==◌, ◌&&◌, not, nat_lt, if◌then◌else◌, Bool, false, List, [], ◌∷◌, ◌++◌, Option, Some, None, map, option_map}
use Rattle.hd_base.specs.declared.numbers.NodeId.{NodeId}
use Rattle.script_lang.specs.declared.instructions.Instruction.{Instruction}
use Rattle.script_lang.specs.declared.instructions.Instruction.TheVariants as line
use Rattle.script_lang.specs.declared.instructions.ScriptLine.{ScriptLine}
use Rattle.script_lang.specs.declared.instructions.StepEvent.{StepEvent}
use Rattle.script_lang.specs.declared.instructions.StepEvent.TheVariants as step
use Rattle.world_laws.specs.WriterCore.Command.TheVariants as command
use Rattle.world_laws.specs.World.Direction.TheVariants as direction
use Rattle.world_laws.specs.World.Event.{Event}
use Rattle.world_laws.specs.World.Event.TheVariants as event
use Rattle.world_laws.specs.World.Parts.{Upper, by_writer, Lower, writes}
use Rattle.world_laws.specs.World.Worlds.{World}
use Rattle.play_model.specs.declared.dues.Due.{Due}
use Rattle.play_model.specs.declared.dues.Due.TheVariants as due
use Rattle.play_model.specs.States.{PlayState, world_of, opened, ordered, ruled, armed, asked, recovering}
use Rattle.play_model.specs.Asks.{ask_at}
use Rattle.play_model.specs.Recoveries.{recovery_at, stopped_at}
use Rattle.play_model.specs.Dues.{is_due}
use Rattle.play_model.specs.Faults.{befalls}
use Rattle.play_model.specs.Draws.{draws, Settles}

-- THE PRESENT PIPELINE

-- the writer of this block dialled
abbrev pub is_dial_of : ℕ → Upper → Bool
is_dial_of b (by_writer c) = c == b
is_dial_of b other = false

-- of the first connections, so many, the latest that the writer of a block dialled
abbrev pub latest_dial : World → ℕ → ℕ → Option ℕ
latest_dial w b zero = None
latest_dial w b (suc n) = if is_dial_of b (w.dialled n).upper then Some n else latest_dial w b n

-- the connection to the mirror of a member
abbrev pub mirror_of : Lower → Option ℕ
mirror_of (writes m) = m.mirror
mirror_of other = None

-- the connection at this place behind one, which has place 0, from member to mirror
abbrev pub conn_behind : World → ℕ → Option ℕ → Option ℕ
conn_behind w zero first = first
conn_behind w (suc place) None = None
conn_behind w (suc place) (Some c) = conn_behind w place (mirror_of (w.lowers c))

-- The connection at a place of a block's present pipeline: the first is the latest that the writer dialled, whoever has
-- shut since.
abbrev pub pipeline_conn : World → ℕ → ℕ → Option ℕ
pipeline_conn w b place = conn_behind w place (latest_dial w b w.next_conn)

-- ONE EVENT OF A PIPELINE

abbrev pub step_due : World → ℕ → StepEvent → Option Due
step_due w b step.Writer = Some (due.Own (record { 0 = b }))
step_due w b (step.Down place) = option_map (λ c. due.Down (record { 0 = c })) (pipeline_conn w b place)
step_due w b (step.Ready place) = option_map (λ c. due.Ready (record { 0 = c })) (pipeline_conn w b place)
step_due w b (step.Up place) = option_map (λ c. due.Up (record { 0 = c })) (pipeline_conn w b place)

-- It befalls where it is due.
abbrev pub stepped : PlayState → Option Due → PlayState
stepped p None = p
stepped p (Some d) = if is_due (world_of p) p.queues d then befalls p d else p

-- CUTS

-- A connection ends: of the messages on their way so many still arrive, down and up.
abbrev pub cut_events : Option ℕ → ℕ → ℕ → List Event
cut_events None down up = []
cut_events (Some c) down up =
    event.Lost (record { 0 = c }) direction.Down down ∷ (event.Lost (record { 0 = c }) direction.Up up ∷ [])

-- It does, if there is one.
abbrev pub cut_at : PlayState → Option ℕ → ℕ → ℕ → PlayState
cut_at p conn down up = record p { events = p.events ++ cut_events conn down up }

-- STOPS

-- a node stops: a primary there that hasn't begun never does
abbrev pub stopped : PlayState → NodeId → PlayState
stopped p node = record p {
  events = p.events ++ event.Stop node ∷ [];
  recoveries = map (stopped_at node) p.recoveries;
}

-- It does, if it runs.
abbrev pub stop_at : PlayState → NodeId → PlayState
stop_at p node = if (world_of p).running node.0 then stopped p node else p

-- STARTS

-- it is a node of the play, and doesn't run
abbrev pub may_start : PlayState → NodeId → Bool
may_start p node = nat_lt node.0 p.nodes && not ((world_of p).running node.0)

-- Such a node starts again. Of a write that failed nothing was kept, so that nothing need be said of what is found: all
-- files are whole.
abbrev pub start_at : PlayState → NodeId → PlayState
start_at p node = if may_start p node then record p { events = p.events ++ event.Restart node [] ∷ [] } else p

-- LINES

-- What a line, which has this number, makes of a play with the writers of these blocks.
abbrev pub PlaysLine : List ℕ → ℕ → Instruction → PlayState → PlayState → Type 0
PlaysLine blocks number (line.Sums b rule) old new = new ≡ ruled old b.0 rule
PlaysLine blocks number (line.Create b members) old new = new ≡ ordered old b.0 (command.Create members)
PlaysLine blocks number (line.Append b members) old new = new ≡ ordered old b.0 (command.Append members)
PlaysLine blocks number (line.Write b bytes) old new = new ≡ ordered old b.0 (command.Write bytes)
PlaysLine blocks number (line.Fill b count) old new = new ≡ ordered old b.0 (command.Fill count)
PlaysLine blocks number (line.Hflush b) old new = new ≡ ordered old b.0 command.Hflush
PlaysLine blocks number (line.Hsync b) old new = new ≡ ordered old b.0 command.Hsync
PlaysLine blocks number (line.Close b) old new = new ≡ ordered old b.0 command.Close
PlaysLine blocks number (line.Read b node offset count) old new =
    new ≡ asked old (ask_at (world_of old) number b node offset count)
PlaysLine blocks number (line.Recover b node members) old new =
    new ≡ recovering old (recovery_at (world_of old) number b node members)
PlaysLine blocks number (line.Run count) old new = new ≡ draws blocks count old
PlaysLine blocks number line.Settle old new = Settles blocks old new
PlaysLine blocks number (line.Step b event) old new = new ≡ stepped old (step_due (world_of old) b.0 event)
PlaysLine blocks number (line.Cut b place down up) old new =
    new ≡ cut_at old (pipeline_conn (world_of old) b.0 place) down up
PlaysLine blocks number (line.Fault node nth) old new = new ≡ armed old node.0 nth
PlaysLine blocks number (line.Stop node) old new = new ≡ stop_at old node
PlaysLine blocks number (line.Start node) old new = new ≡ start_at old node
PlaysLine blocks number other old new = new ≡ old

-- one after the other; behind the last one all is settled
abbrev pub PlaysLines : List ℕ → List ScriptLine → PlayState → PlayState → Type 0
PlaysLines blocks [] old new = Settles blocks old new
PlaysLines blocks (l ∷ lines) old new = (middle : PlayState) ×
    (PlaysLine blocks l.number l.instruction old middle × PlaysLines blocks lines middle new)

-- SCRIPTS

-- a block among others in ascending order
abbrev pub placed : ℕ → List ℕ → List ℕ
placed b [] = b ∷ []
placed b (c ∷ cs) = if nat_lt b c then b ∷ (c ∷ cs) else c ∷ placed b cs

-- the blocks that a line makes, with others
abbrev pub with_block : Instruction → List ℕ → List ℕ
with_block (line.Create b members) blocks = placed b.0 blocks
with_block other blocks = blocks

-- the blocks that a script makes, in ascending order
abbrev pub blocks_of : List ScriptLine → List ℕ
blocks_of [] = []
blocks_of (l ∷ lines) = with_block l.instruction (blocks_of lines)

-- A script is played: its first two lines give the nodes and the seed.
abbrev pub PlaysFrom : Instruction → Instruction → List ScriptLine → PlayState → Type 0
PlaysFrom (line.Nodes count) (line.Seed seed) lines end = PlaysLines (blocks_of lines) lines (opened count seed) end
PlaysFrom first second lines end = ⊥

abbrev pub Plays : List ScriptLine → PlayState → Type 0
Plays (first ∷ (second ∷ lines)) end = PlaysFrom first.instruction second.instruction lines end
Plays other end = ⊥
