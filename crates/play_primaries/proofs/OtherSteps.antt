-- The events of writers, members and readers keep the primaries, and which ends they took.
use Rattle.std.proofs.Common.{◌≡◌, ℕ, Bool, true, false, List, Option, Some, None, IfSome, refl, sym, ap, ◌∙◌, subst}
use Rattle.std.specs.Prelude.{nat_lt, slice_get}
use Rattle.hd_base.specs.declared.numbers.BlockId.{BlockId}
use Rattle.hd_base.specs.declared.numbers.ConnId.{ConnId}
use Rattle.primary_events.specs.World.Caller.TheVariants as caller
use Rattle.primary_events.specs.World.Event.{Event}
use Rattle.primary_events.specs.World.Delivery.TheVariants as delivery
use Rattle.primary_events.specs.World.Event.TheVariants as event
use Rattle.primary_events.specs.World.OwnStep.TheVariants as own
use Rattle.primary_events.specs.World.TakenCommand.{TakenCommand}
use Rattle.primary_events.specs.World.Clients.{own_writer}
use Rattle.primary_events.specs.World.Connections.{Next, next_down, next_up, down_taken, up_taken, is_served}
use Rattle.primary_events.specs.World.Events.{changed, down_as, upper_up, up_as, outcome, after_event, happens, run}
use Rattle.primary_events.specs.World.Nodes.{lower_down, lower_ready}
use Rattle.primary_events.specs.World.Parts.{Upper, by_writer, by_member, by_reader, by_primary}
use Rattle.primary_events.specs.World.Primaries.{office_event}
use Rattle.primary_events.specs.World.Worlds.{World, Change, apply}
use Rattle.world_recoveries.proofs.WorldLaws.FactTables.{when-each}
use Rattle.play_readers.specs.WorldNets.Nets.{is_over}
use Rattle.play_readers.proofs.WorldNets.StepLemmas.{changed-over, taken-over}
use Rattle.primary_events.specs.WriterCore.Action.{Action}
use Rattle.primary_events.specs.WriterCore.Action.TheVariants as action
use Rattle.primary_events.specs.WriterCore.Transitions.{own_step}
use Rattle.play_readers.specs.PlayModel.Dues.{own_events, asking, acting}
use Rattle.play_readers.proofs.WorldSettling.PrimaryAsides.{Aside, lower-down-aside, lower-ready-aside, mirror-up-aside, own-writer-aside, writer-up-aside, asks-office-aside}
use Rattle.play_readers.proofs.OtherSteps.{put_same}
use Rattle.play_readers.proofs.ReaderSteps as reader
use Rattle.play_primaries.specs.Frames.{KeepsPrimaries, WritingKeepsPrimaries, AcksKeepPrimaries, DownKeepsPrimaries, FaultKeepsPrimaries, ReadyKeepsPrimaries, MirrorKeepsPrimaries, AskingKeepsPrimaries, PiecesKeepPrimaries}

-- STEPS

-- this connection isn't that one
abbrev IsApart : Option ℕ → ℕ → Type 0
IsApart c d = IfSome c (λ e. e ≡ d → ⊥)

-- The primaries stay, but for whether the end was taken from above on this connection, if it is one.
record StepKeeps (w v : World) (c : Option ℕ) : Type 0 where
  primaries : (number : ℕ) → v.primaries number ≡ w.primaries number
  over : (d : ℕ) → IsApart c d → is_over v d false ≡ is_over w d false

still_kept : (w : World) (c : Option ℕ) → StepKeeps w w c
still_kept w c = record { primaries = λ number. refl; over = λ d apart. refl }

named : (w v : World) (c : Option ℕ) (e : Event) → StepKeeps w v c → StepKeeps w (record v { last = Some e }) c
named w v c e h = record { primaries = h.primaries; over = h.over }

change_kept : (w : World) (k : Change) → Aside w k → StepKeeps w (apply w k) None
unfolding apply
change_kept w k h = record { primaries = λ number. put_same w.primaries k.primary_at k.primary number h.primary; over = λ d apart. changed-over w k d false }

kept_then : (w u v : World) (c : Option ℕ) → StepKeeps w u c → StepKeeps u v None → StepKeeps w v c
kept_then w u v c h k = record { primaries = λ number. k.primaries number ∙ h.primaries number; over = λ d apart. k.over d tt ∙ h.over d apart }

changed_kept : (w u : World) (c : Option ℕ) (o : Option Change) → StepKeeps w u c → IfSome o (Aside u) → IfSome (changed u o) (λ v. StepKeeps w v c)
changed_kept w u c None h k = tt
changed_kept w u c (Some x) h k = kept_then w u (apply u x) c h (change_kept u x k)

after_kept : (w : World) (c : Option ℕ) (e : Event) (o : Option World) → IfSome o (λ v. StepKeeps w v c) → StepKeeps w (after_event w e o) c
after_kept w c e None h = still_kept w c
after_kept w c e (Some v) h = named w v c e h

down_taken_kept : (w : World) (c : ℕ) (x : Next) → StepKeeps w (down_taken w c x) None
unfolding down_taken
down_taken_kept w c x = record { primaries = λ number. refl; over = λ d apart. taken-over w d false c true x (λ same. refl) }

up_taken_kept : (w : World) (c : ℕ) (x : Next) → StepKeeps w (up_taken w c x) (Some c)
unfolding up_taken
up_taken_kept w c x = record { primaries = λ number. refl; over = λ d apart. taken-over w d false c false x (λ same. absurd (apart same)) }

all_kept : (w v : World) → StepKeeps w v None → KeepsPrimaries w v
all_kept w v h = record { primaries = h.primaries; over = λ number place c by. h.over c tt }

-- LOWER ENDS

down_next : (w : World) (c : ℕ) (answered fails : Bool) (o : Option Next) → IfSome (down_as w c answered fails o) (λ v. StepKeeps w v None)
down_next w c answered fails None = tt
down_next w c answered fails (Some x) =
    changed_kept w (down_taken w c x) None (lower_down (w.lowers c) (down_taken w c x) c x answered fails) (down_taken_kept w c x) (lower-down-aside (w.lowers c) (down_taken w c x) c x answered fails)

down_kept : (w : World) (conn : ConnId) (answered : Bool) → StepKeeps w (happens w (event.Down conn answered)) None
unfolding happens outcome
down_kept w conn answered =
    after_kept w None (event.Down conn answered) (outcome w (event.Down conn answered))
    (when-each (λ v. StepKeeps w v None) (is_served w conn.0) (down_as w conn.0 answered false (next_down w conn.0)) (λ _. down_next w conn.0 answered false (next_down w conn.0)))

fault_kept : (w : World) (conn : ConnId) → StepKeeps w (happens w (event.Fault (delivery.Down conn))) None
unfolding happens outcome
fault_kept w conn =
    after_kept w None (event.Fault (delivery.Down conn)) (outcome w (event.Fault (delivery.Down conn)))
    (when-each (λ v. StepKeeps w v None) (is_served w conn.0) (down_as w conn.0 false true (next_down w conn.0)) (λ _. down_next w conn.0 false true (next_down w conn.0)))

pub fault_keeps : FaultKeepsPrimaries
fault_keeps w conn = all_kept w (happens w (event.Fault (delivery.Down conn))) (fault_kept w conn)

pub down_keeps : DownKeepsPrimaries
down_keeps w conn answered = all_kept w (happens w (event.Down conn answered)) (down_kept w conn answered)

ready_kept : (w : World) (conn : ConnId) → StepKeeps w (happens w (event.Ready conn)) None
unfolding happens outcome
ready_kept w conn =
    after_kept w None (event.Ready conn) (outcome w (event.Ready conn))
    (when-each (λ v. StepKeeps w v None) (is_served w conn.0) (changed w (lower_ready (w.lowers conn.0) w conn.0 false))
    (λ _. changed_kept w w None (lower_ready (w.lowers conn.0) w conn.0 false) (still_kept w None) (lower-ready-aside (w.lowers conn.0) w conn.0 false)))

pub ready_keeps : ReadyKeepsPrimaries
ready_keeps w conn = all_kept w (happens w (event.Ready conn)) (ready_kept w conn)

-- UPPER ENDS

-- what an upper end takes changes no primary
abbrev UpperStays : World → ℕ → Upper → Type 0
UpperStays w c u = (x : Next) → IfSome (upper_up u (up_taken w c x) c x false) (Aside (up_taken w c x))

up_next : (w : World) (c : ℕ) (o : Option Next) → UpperStays w c (w.dialled c).upper → IfSome (up_as w c false o) (λ v. StepKeeps w v (Some c))
up_next w c None h = tt
up_next w c (Some x) h = changed_kept w (up_taken w c x) (Some c) (upper_up (w.dialled c).upper (up_taken w c x) c x false) (up_taken_kept w c x) (h x)

up_kept : (w : World) (conn : ConnId) → UpperStays w conn.0 (w.dialled conn.0).upper → StepKeeps w (happens w (event.Up conn)) (Some conn.0)
unfolding happens outcome
up_kept w conn h =
    after_kept w (Some conn.0) (event.Up conn) (outcome w (event.Up conn))
    (when-each (λ v. StepKeeps w v (Some conn.0)) (nat_lt conn.0 w.next_conn) (up_as w conn.0 false (next_up w conn.0)) (λ _. up_next w conn.0 (next_up w conn.0) h))

-- no primary
abbrev IsNone : Upper → Type 0
IsNone u = (number place : ℕ) → u ≡ by_primary number place → ⊥

-- the connection is that of no primary
apart_from : (w : World) (c : ℕ) (u : Upper) → (w.dialled c).upper ≡ u → IsNone u → (number place d : ℕ) → (w.dialled d).upper ≡ by_primary number place → c ≡ d → ⊥
apart_from w c u is never number place d by same = never number place (sym is ∙ (ap (λ (n : ℕ). (w.dialled n).upper) same ∙ by))

others_kept : (w v : World) (c : ℕ) (u : Upper) → (w.dialled c).upper ≡ u → IsNone u → StepKeeps w v (Some c) → KeepsPrimaries w v
others_kept w v c u is never h = record {
  primaries = h.primaries;
  over = λ number place d by. h.over d (apart_from w c u is never number place d by);
}

pub mirror_keeps : MirrorKeepsPrimaries
mirror_keeps w conn d is =
    others_kept w (happens w (event.Up conn)) conn.0 (by_member d) is never
    (up_kept w conn (subst (UpperStays w conn.0) (sym is) (λ x. mirror-up-aside ((up_taken w conn.0 x).lowers d) (up_taken w conn.0 x) d x false)))
  where
    never : (number place : ℕ) → by_member d ≡ by_primary number place → ⊥
    never number place e = cc

pub acks_keep : AcksKeepPrimaries
acks_keep w conn b is =
    others_kept w (happens w (event.Up conn)) conn.0 (by_writer b) is never (up_kept w conn (subst (UpperStays w conn.0) (sym is) (λ x. writer-up-aside (up_taken w conn.0 x) b conn.0 x)))
  where
    never : (number place : ℕ) → by_writer b ≡ by_primary number place → ⊥
    never number place e = cc

-- OWN STEPS OF WRITERS

acts_kept : (w : World) (block : BlockId) (takes : Option TakenCommand) (answered : Bool) → StepKeeps w (happens w (event.Own (own.Writer block takes answered))) None
unfolding happens outcome
acts_kept w block takes answered =
    after_kept w None (event.Own (own.Writer block takes answered)) (outcome w (event.Own (own.Writer block takes answered)))
    (changed_kept w w None (own_writer w block.0 takes answered) (still_kept w None) (own-writer-aside w block.0 takes answered))

asks_kept : (w : World) (block : BlockId) → StepKeeps w (happens w (event.Office (caller.Writer block))) None
unfolding happens outcome
asks_kept w block =
    after_kept w None (event.Office (caller.Writer block)) (outcome w (event.Office (caller.Writer block)))
    (changed_kept w w None (office_event w (caller.Writer block)) (still_kept w None) (asks-office-aside w block.0))

own_kept : (w : World) (a : Action) (block : BlockId) (queue : List TakenCommand) → StepKeeps w (run w (own_events a block.0 queue)) None
own_kept w action.Wait block queue = acts_kept w block (slice_get queue 0) true
own_kept w (action.Ask call) block queue =
    let u : World = happens w (asking block.0) in
    kept_then w u (happens u (acting block.0 None)) None (asks_kept w block) (acts_kept u block None true)
own_kept w a block queue = acts_kept w block None true

pub writing_keeps : WritingKeepsPrimaries
writing_keeps w queues block =
    let a : Action = (own_step (w.writers block.0).known).action in
    all_kept w (run w (own_events a block.0 (queues block.0))) (own_kept w a block (queues block.0))

-- READERS

pub asking_keeps : AskingKeepsPrimaries
asking_keeps w line node read answered =
    let k = reader.asking_keeps w line node read answered in
    record { primaries = k.0.primaries; over = λ number place c by. k.1 c false }

pub pieces_keep : PiecesKeepPrimaries
pieces_keep w conn line is =
    let k = reader.hearing_keeps w conn line is in
    record {
      primaries = k.0.primaries;
      over = λ number place c by. k.1 c false (λ same. absurd (apart_from w conn.0 (by_reader line) is never number place c by same));
    }
  where
    never : (number place : ℕ) → by_reader line ≡ by_primary number place → ⊥
    never number place e = cc
