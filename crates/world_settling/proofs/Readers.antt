-- A reader that has begun stays so.
use Rattle.std.proofs.Common.{◌≡◌, ℕ, Bool, true, false, Option, Some, None, IfSome, sym, ◌∙◌}
use Rattle.std.specs.Prelude.{◌==◌, ◌&&◌, nat_lt, not}
use Rattle.op_headers.specs.declared.ops.ReadOp.{ReadOp}
use Rattle.world.specs.ReadCore.ReadTurn.{ReadTurn}
use Rattle.world.specs.ReadCore.ReadTurn.TheVariants as turn
use Rattle.world.specs.ReadCore.Readings.{ReadTaken, take_from}
use Rattle.world.specs.declared.events.Delivery.{Delivery}
use Rattle.world.specs.declared.events.Delivery.TheVariants as delivery
use Rattle.world.specs.declared.events.Direction.{Direction}
use Rattle.world.specs.declared.events.Direction.TheVariants as direction
use Rattle.world.specs.declared.events.Event.{Event}
use Rattle.world.specs.declared.events.Event.TheVariants as event
use Rattle.world.specs.declared.events.OwnStep.{OwnStep}
use Rattle.world.specs.declared.events.OwnStep.TheVariants as own
use Rattle.world.specs.Parts.{Upper, by_writer, by_member, by_reader, by_primary, Reader, no_reader, reads, has_read}
use Rattle.world.specs.Worlds.{World, Change, apply}
use Rattle.world.specs.Connections.{Next, next_down, next_up, down_taken, up_taken, is_served}
use Rattle.world.specs.Nodes.{lower_down, lower_ready, mirror_up}
use Rattle.world.specs.Clients.{own_writer, writer_up, reader_dials, own_reader_as, from_node_of, reader_turn, reader_up_as, reader_up}
use Rattle.world.specs.Primaries.{own_recover, own_primary, primary_up, office_event}
use Rattle.world.specs.Restarts.{restart}
use Rattle.world.specs.Events.{changed, own_change, down_as, down_event, ready_event, unless_fails, upper_up, up_as, up_event, fault_event, lost, stop, where_so, outcome, after_event, happens}
use Rattle.world_texts.proofs.WorldLaws.FactTables.{put-each, when-each}
use Rattle.world_settling.specs.Draws.{ReadersGoOn}
use Rattle.world_settling.proofs.ReaderNodeAsides.{Stays, lower-down-stays, lower-ready-stays, mirror-up-stays}
use Rattle.world_settling.proofs.ReaderAsides.{own-writer-stays, writer-up-stays, own-recover-stays, own-primary-stays, primary-up-stays, office-stays}

-- each reader that had begun has
abbrev GoesOn : World → World → Type 0
GoesOn w v = (i : ℕ) → v.readers i ≡ no_reader → w.readers i ≡ no_reader

-- a change leaves no reader as one that hasn't begun, unless it hadn't
abbrev Begins : World → Change → Type 0
Begins w k = k.reader ≡ no_reader → w.readers k.reader_at ≡ no_reader

-- CHANGES

stays-begun : (w : World) (o : Option Change) → IfSome o (Stays w) → IfSome o (Begins w)
stays-begun w None h = tt
stays-begun w (Some k) h = λ e. sym h.reader ∙ e

apply-goes : (w : World) (k : Change) → Begins w k → GoesOn w (apply w k)
unfolding apply
apply-goes w k h i = put-each (λ (j : ℕ) (x : Reader). x ≡ no_reader → w.readers j ≡ no_reader) w.readers k.reader_at k.reader h (λ j e. e) i

changed-goes : (u w : World) (o : Option Change) → GoesOn u w → IfSome o (Begins w) → IfSome (changed w o) (GoesOn u)
changed-goes u w None g h = tt
changed-goes u w (Some k) g h = λ i e. g i (apply-goes w k h i e)

own-goes : (w : World) (o : Option Change) → IfSome o (Begins w) → IfSome (changed w o) (GoesOn w)
own-goes w o h = changed-goes w w o (λ i e. e) h

-- READERS

dials-begun : (w : World) (i n : ℕ) (r : ReadOp) (answered : Bool) → Begins w (reader_dials w i n r answered)
dials-begun w i n r true e = cc
dials-begun w i n r false e = cc

own-reader-as-begun : (x : Reader) (w : World) (i n : ℕ) (r : ReadOp) (answered : Bool) → IfSome (own_reader_as x w i n r answered) (Begins w)
own-reader-as-begun no_reader w i n r answered = dials-begun w i n r (answered && w.running n)
own-reader-as-begun (reads c s) w i n r answered = tt
own-reader-as-begun (has_read x) w i n r answered = tt

turn-begun : (w : World) (i c : ℕ) (t : ReadTaken) (d : ReadTurn) → Begins w (reader_turn w i c t d)
turn-begun w i c t turn.Goes e = cc
turn-begun w i c t turn.Verified e = cc
turn-begun w i c t (turn.Fails f) e = cc

reader-up-as-begun : (x : Reader) (w : World) (i c : ℕ) (n : Next) → IfSome (reader_up_as x w i c n) (Begins w)
reader-up-as-begun no_reader w i c n = tt
reader-up-as-begun (reads d s) w i c n = when-each (Begins w) (d == c) _ (λ _. turn-begun w i c (take_from s (from_node_of n)) (take_from s (from_node_of n)).does)
reader-up-as-begun (has_read x) w i c n = tt

-- WHAT IS TAKEN

down-taken-goes : (w : World) (c : ℕ) (x : Next) → GoesOn w (down_taken w c x)
unfolding down_taken
down-taken-goes w c x i e = e

up-taken-goes : (w : World) (c : ℕ) (x : Next) → GoesOn w (up_taken w c x)
unfolding up_taken
up-taken-goes w c x i e = e

down-as-goes : (w : World) (c : ℕ) (answered fails : Bool) (o : Option Next) → IfSome (down_as w c answered fails o) (GoesOn w)
down-as-goes w c answered fails None = tt
down-as-goes w c answered fails (Some x) =
    let k : Option Change = lower_down (w.lowers c) (down_taken w c x) c x answered fails in
    changed-goes w (down_taken w c x) k (down-taken-goes w c x) (stays-begun (down_taken w c x) k (lower-down-stays (w.lowers c) (down_taken w c x) c x answered fails))

down-goes : (w : World) (c : ℕ) (answered fails : Bool) → IfSome (down_event w c answered fails) (GoesOn w)
down-goes w c answered fails = when-each (GoesOn w) (is_served w c) _ (λ _. down-as-goes w c answered fails (next_down w c))

ready-goes : (w : World) (c : ℕ) (fails : Bool) → IfSome (ready_event w c fails) (GoesOn w)
ready-goes w c fails =
    let k : Option Change = lower_ready (w.lowers c) w c fails in
    when-each (GoesOn w) (is_served w c) _ (λ _. own-goes w k (stays-begun w k (lower-ready-stays (w.lowers c) w c fails)))

unless-begun : (w : World) (fails : Bool) (o : Option Change) → IfSome o (Begins w) → IfSome (unless_fails fails o) (Begins w)
unless-begun w true o h = tt
unless-begun w false o h = h

upper-begun : (u : Upper) (w : World) (c : ℕ) (x : Next) (fails : Bool) → IfSome (upper_up u w c x fails) (Begins w)
upper-begun (by_writer b) w c x fails = unless-begun w fails (writer_up w b c x) (stays-begun w (writer_up w b c x) (writer-up-stays w b c x))
upper-begun (by_member d) w c x fails = stays-begun w (mirror_up (w.lowers d) w d x fails) (mirror-up-stays (w.lowers d) w d x fails)
upper-begun (by_reader i) w c x fails = unless-begun w fails (reader_up w i c x) (reader-up-as-begun (w.readers i) w i c x)
upper-begun (by_primary i place) w c x fails =
    unless-begun w fails (primary_up w i place c x) (stays-begun w (primary_up w i place c x) (primary-up-stays w i place c x))

up-as-goes : (w : World) (c : ℕ) (fails : Bool) (o : Option Next) → IfSome (up_as w c fails o) (GoesOn w)
up-as-goes w c fails None = tt
up-as-goes w c fails (Some x) =
    changed-goes w (up_taken w c x) (upper_up (w.dialled c).upper (up_taken w c x) c x fails) (up-taken-goes w c x) (upper-begun (w.dialled c).upper (up_taken w c x) c x fails)

up-goes : (w : World) (c : ℕ) (fails : Bool) → IfSome (up_event w c fails) (GoesOn w)
up-goes w c fails = when-each (GoesOn w) (nat_lt c w.next_conn) _ (λ _. up-as-goes w c fails (next_up w c))

-- EVENTS

own-step-begun : (w : World) (s : OwnStep) → IfSome (own_change w s) (Begins w)
own-step-begun w (own.Writer b takes answered) = stays-begun w (own_writer w b.0 takes answered) (own-writer-stays w b.0 takes answered)
own-step-begun w (own.Reader i n r answered) = own-reader-as-begun (w.readers i) w i n.0 r answered
own-step-begun w (own.Recover i n b members answers) = stays-begun w (own_recover w i n.0 b members answers) (own-recover-stays w i n.0 b members answers)
own-step-begun w (own.Primary i) = stays-begun w (own_primary w i) (own-primary-stays w i)

faults-go : (w : World) (d : Delivery) → IfSome (fault_event w d) (GoesOn w)
faults-go w (delivery.Down c) = down-goes w c.0 false true
faults-go w (delivery.Ready c) = ready-goes w c.0 true
faults-go w (delivery.Up c) = up-goes w c.0 true

lost-goes : (w : World) (c : ℕ) (way : Direction) (more : ℕ) → GoesOn w (lost w c way more)
lost-goes w c direction.Down more i e = e
lost-goes w c direction.Up more i e = e

where-goes : (w v : World) (test : Bool) → GoesOn w v → IfSome (where_so test v) (GoesOn w)
where-goes w v true g = g
where-goes w v false g = tt

outcome-goes : (w : World) (e : Event) → IfSome (outcome w e) (GoesOn w)
unfolding outcome restart
outcome-goes w (event.Own s) = own-goes w (own_change w s) (own-step-begun w s)
outcome-goes w (event.Office c) = own-goes w (office_event w c) (stays-begun w (office_event w c) (office-stays w c))
outcome-goes w (event.Down c answered) = down-goes w c.0 answered false
outcome-goes w (event.Ready c) = ready-goes w c.0 false
outcome-goes w (event.Up c) = up-goes w c.0 false
outcome-goes w (event.Lost c way more) = where-goes w (lost w c.0 way more) (nat_lt c.0 w.next_conn) (lost-goes w c.0 way more)
outcome-goes w (event.Fault d) = faults-go w d
outcome-goes w (event.Stop n) = where-goes w (stop w n.0) (w.running n.0) (λ i e. e)
outcome-goes w (event.Restart n list) = where-goes w (restart w n.0 list) (nat_lt n.0 w.nodes && not (w.running n.0)) (λ i e. e)

after-goes : (w : World) (e : Event) (o : Option World) → IfSome o (GoesOn w) → GoesOn w (after_event w e o)
after-goes w e None g i h = h
after-goes w e (Some v) g i h = g i h

pub readers-go-on : ReadersGoOn
unfolding happens
readers-go-on w e i h = after-goes w e (outcome w e) (outcome-goes w e) i h
