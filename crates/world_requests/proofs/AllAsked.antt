-- Each request to write is asked by a writer that acts, and each request to read by a reader, after every list of events.
use Rattle.std.proofs.Common.{◌≡◌, ℕ, Bool, true, false, List, [], ◌∷◌, Option, Some, None, IfSome, inl, inr, refl, subst}
use Rattle.std.specs.Prelude.{◌&&◌, not, nat_lt}
use Rattle.hd_base.specs.declared.numbers.BlockId.{BlockId}
use Rattle.op_headers.specs.declared.ops.Op.TheVariants as op
use Rattle.world_laws.specs.World.Delivery.{Delivery}
use Rattle.world_laws.specs.World.Delivery.TheVariants as delivery
use Rattle.world_laws.specs.World.Direction.{Direction}
use Rattle.world_laws.specs.World.Direction.TheVariants as direction
use Rattle.world_laws.specs.World.Event.{Event}
use Rattle.world_laws.specs.World.Event.TheVariants as event
use Rattle.world_laws.specs.World.FoundReplica.{FoundReplica}
use Rattle.world_laws.specs.World.OwnStep.{OwnStep}
use Rattle.world_laws.specs.World.OwnStep.TheVariants as own
use Rattle.world_laws.specs.World.Parts.{Upper, by_writer, by_member, by_reader, by_primary, request}
use Rattle.world_laws.specs.World.Worlds.{World, Change, start}
use Rattle.world_laws.specs.World.Connections.{Next, message, the_end, next_down, next_up, down_taken, up_taken, is_served}
use Rattle.world_laws.specs.World.Nodes.{lower_down, lower_ready}
use Rattle.world_laws.specs.World.Primaries.{office_event}
use Rattle.world_laws.specs.World.Restarts.{restart}
use Rattle.world_laws.specs.World.Events.{changed, own_change, down_as, down_event, ready_event, unless_fails, upper_up, up_as, up_event, fault_event, lost, stop, where_so, outcome, after_event, happens, run}
use Rattle.world_laws.specs.Stamping.{heard}
use Rattle.world_laws.proofs.AllCarried.{next-sent, at-start}
use Rattle.world_laws.proofs.AllRecorded.{Reached, reached-next, all-recorded}
use Rattle.world_laws.proofs.ByteFrame.{each-nil}
use Rattle.world_laws.proofs.FactTables.{when-each}
use Rattle.world_requests.specs.Requests.{IsStepOf, IsReadOf, IsRecoveryOf, Acts, Reads, Recovers, IsAmong, AllAmong, EventAmong, AllRequestsAmong}
use Rattle.world_requests.specs.Requests as requests
use Rattle.world_requests.proofs.Frame.{Asking, to_write, to_read, to_recover, MessageIs, NextIs, PrimariesAre, Asked, Brings, asked-after}
use Rattle.world_requests.proofs.Nodes.{lower-down-brings, lower-ready-brings, mirror-up-brings}
use Rattle.world_requests.proofs.Clients.{own-writer-brings, writer-up-brings, own-reader-brings, reader-up-brings}
use Rattle.world_requests.proofs.Primaries.{own-recover-brings, own-primary-brings, primary-up-brings, office-brings}

-- the record of a writer names its block
writer-block : (w : World) → Reached w → (b : ℕ) → (heard (w.writers b)).block ≡ record { 0 = b }
writer-block w r b = subst (λ (v : World). (heard (v.writers b)).block ≡ record { 0 = b }) r.is ((all-recorded r.nodes r.events).writers b)

-- the event asks so for a block
abbrev Asks : Asking → ℕ → Event → Type 0
Asks to_write b e = IsStepOf b e
Asks to_read b e = IsReadOf b e
Asks to_recover b e = IsRecoveryOf b e

-- one of these events does
abbrev AskAmong : Asking → List Event → ℕ → Type 0
AskAmong to_write events b = Acts events b
AskAmong to_read events b = Reads events b
AskAmong to_recover events b = Recovers events b

asks-first : (a : Asking) (e : Event) (events : List Event) (b : ℕ) → Asks a b e → AskAmong a (e ∷ events) b
asks-first to_write e events b s = inl s
asks-first to_read e events b s = inl s
asks-first to_recover e events b s = inl s

asks-later : (a : Asking) (e : Event) (events : List Event) (b : ℕ) → AskAmong a events b → AskAmong a (e ∷ events) b
asks-later to_write e events b s = inr s
asks-later to_read e events b s = inr s
asks-later to_recover e events b s = inr s

module _ (Of : Asking → ℕ → Type 0) where
  -- MARKS

  down-taken-asked : (w : World) (c : ℕ) (x : Next) → Asked Of w → Asked Of (down_taken w c x)
  unfolding down_taken
  down-taken-asked w c x h = record { downs = h.downs; ups = h.ups; primaries = h.primaries }

  up-taken-asked : (w : World) (c : ℕ) (x : Next) → Asked Of w → Asked Of (up_taken w c x)
  unfolding up_taken
  up-taken-asked w c x h = record { downs = h.downs; ups = h.ups; primaries = h.primaries }

  down-asked : (w : World) (c : ℕ) (x : Next) → Asked Of w → next_down w c ≡ Some x → NextIs Of x
  down-asked w c (message m) h e = (h.downs c).at (w.down_marks c).taken m (next-sent (w.downs c) (w.down_marks c) m e)
  down-asked w c the_end h e = tt

  up-asked : (w : World) (c : ℕ) (x : Next) → Asked Of w → next_up w c ≡ Some x → NextIs Of x
  up-asked w c (message m) h e = (h.ups c).at (w.up_marks c).taken m (next-sent (w.ups c) (w.up_marks c) m e)
  up-asked w c the_end h e = tt

  -- CHANGES

  changed-asked : (w : World) (o : Option Change) → Asked Of w → IfSome o (Brings Of w) → IfSome (changed w o) (Asked Of)
  changed-asked w None h n = tt
  changed-asked w (Some k) h n = asked-after Of w k h n

  own-brings : (w : World) (s : OwnStep) → Reached w → PrimariesAre Of w → ((a : Asking) (b : ℕ) → Asks a b (event.Own s) → Of a b) → IfSome (own_change w s) (Brings Of w)
  own-brings w (own.Writer b takes answered) r h k = own-writer-brings Of w b.0 takes answered (writer-block w r b.0) (k to_write b.0 refl)
  own-brings w (own.Reader i n op answered) r h k = own-reader-brings Of w i n.0 op answered (k to_read op.block.block.0 refl)
  own-brings w (own.Recover i n b members answers) r h k = own-recover-brings Of w i n.0 b members answers (k to_recover b.0 refl)
  own-brings w (own.Primary i) r h k = own-primary-brings Of w i h

  -- DELIVERIES

  down-as-asked : (w : World) (c : ℕ) (answered fails : Bool) (o : Option Next) → Asked Of w → next_down w c ≡ o → IfSome (down_as w c answered fails o) (Asked Of)
  down-as-asked w c answered fails None h e = tt
  down-as-asked w c answered fails (Some x) h e =
      changed-asked (down_taken w c x) (lower_down (w.lowers c) (down_taken w c x) c x answered fails) (down-taken-asked w c x h) (lower-down-brings Of (down_taken w c x) (w.lowers c) c x answered fails (down-asked w c x h e))

  down-event-asked : (w : World) (c : ℕ) (answered fails : Bool) → Asked Of w → IfSome (down_event w c answered fails) (Asked Of)
  down-event-asked w c answered fails h = when-each (Asked Of) (is_served w c) _ (λ _. down-as-asked w c answered fails (next_down w c) h refl)

  ready-asked : (w : World) (c : ℕ) (fails : Bool) → Asked Of w → IfSome (ready_event w c fails) (Asked Of)
  ready-asked w c fails h = when-each (Asked Of) (is_served w c) _ (λ _. changed-asked w (lower_ready (w.lowers c) w c fails) h (lower-ready-brings Of w (w.lowers c) c fails))

  unless-brings : (w : World) (fails : Bool) (o : Option Change) → IfSome o (Brings Of w) → IfSome (unless_fails fails o) (Brings Of w)
  unless-brings w true o n = tt
  unless-brings w false o n = n

  upper-brings : (u : Upper) (w : World) (c : ℕ) (x : Next) (fails : Bool) → NextIs Of x → PrimariesAre Of w → IfSome (upper_up u w c x fails) (Brings Of w)
  upper-brings (by_writer b) w c x fails n h = unless-brings w fails _ (writer-up-brings Of w b c x)
  upper-brings (by_member d) w c x fails n h = mirror-up-brings Of w (w.lowers d) d x fails n
  upper-brings (by_reader i) w c x fails n h = unless-brings w fails _ (reader-up-brings Of w i c x)
  upper-brings (by_primary i place) w c x fails n h = unless-brings w fails _ (primary-up-brings Of w i place c x h)

  up-as-asked : (w : World) (c : ℕ) (fails : Bool) (o : Option Next) → Asked Of w → next_up w c ≡ o → IfSome (up_as w c fails o) (Asked Of)
  up-as-asked w c fails None h e = tt
  up-as-asked w c fails (Some x) h e =
      changed-asked (up_taken w c x) (upper_up (w.dialled c).upper (up_taken w c x) c x fails) (up-taken-asked w c x h) (upper-brings (w.dialled c).upper (up_taken w c x) c x fails (up-asked w c x h e) (up-taken-asked w c x h).primaries)

  up-event-asked : (w : World) (c : ℕ) (fails : Bool) → Asked Of w → IfSome (up_event w c fails) (Asked Of)
  up-event-asked w c fails h = when-each (Asked Of) (nat_lt c w.next_conn) _ (λ _. up-as-asked w c fails (next_up w c) h refl)

  fault-asked : (w : World) (d : Delivery) → Asked Of w → IfSome (fault_event w d) (Asked Of)
  fault-asked w (delivery.Down c) h = down-event-asked w c.0 false true h
  fault-asked w (delivery.Ready c) h = ready-asked w c.0 true h
  fault-asked w (delivery.Up c) h = up-event-asked w c.0 true h

  -- LOSSES, STOPS, RESTARTS

  lost-asked : (w : World) (c : ℕ) (way : Direction) (more : ℕ) → Asked Of w → Asked Of (lost w c way more)
  lost-asked w c direction.Down more h = record { downs = h.downs; ups = h.ups; primaries = h.primaries }
  lost-asked w c direction.Up more h = record { downs = h.downs; ups = h.ups; primaries = h.primaries }

  stop-asked : (w : World) (n : ℕ) → Asked Of w → Asked Of (stop w n)
  stop-asked w n h = record { downs = h.downs; ups = h.ups; primaries = h.primaries }

  restart-asked : (w : World) (n : ℕ) (list : List FoundReplica) → Asked Of w → Asked Of (restart w n list)
  unfolding restart
  restart-asked w n list h = record { downs = h.downs; ups = h.ups; primaries = h.primaries }

  where-asked : (test : Bool) (v : World) → Asked Of v → IfSome (where_so test v) (Asked Of)
  where-asked true v h = h
  where-asked false v h = tt

  -- ALL EVENTS

  outcome-asked : (w : World) (e : Event) → Reached w → Asked Of w → ((a : Asking) (b : ℕ) → Asks a b e → Of a b) → IfSome (outcome w e) (Asked Of)
  unfolding outcome
  outcome-asked w (event.Own s) r h k = changed-asked w (own_change w s) h (own-brings w s r h.primaries k)
  outcome-asked w (event.Office c) r h k = changed-asked w (office_event w c) h (office-brings Of w c h.primaries)
  outcome-asked w (event.Down c answered) r h k = down-event-asked w c.0 answered false h
  outcome-asked w (event.Ready c) r h k = ready-asked w c.0 false h
  outcome-asked w (event.Up c) r h k = up-event-asked w c.0 false h
  outcome-asked w (event.Lost c way more) r h k = where-asked (nat_lt c.0 w.next_conn) (lost w c.0 way more) (lost-asked w c.0 way more h)
  outcome-asked w (event.Fault d) r h k = fault-asked w d h
  outcome-asked w (event.Stop n) r h k = where-asked (w.running n.0) (stop w n.0) (stop-asked w n.0 h)
  outcome-asked w (event.Restart n list) r h k =
      where-asked (nat_lt n.0 w.nodes && not (w.running n.0)) (restart w n.0 list) (restart-asked w n.0 list h)

  after-asked : (w : World) (e : Event) (o : Option World) → Asked Of w → IfSome o (Asked Of) → Asked Of (after_event w e o)
  after-asked w e None h n = h
  after-asked w e (Some v) h n = record { downs = n.downs; ups = n.ups; primaries = n.primaries }

  pub happens-asked : (w : World) (e : Event) → Reached w → Asked Of w → ((a : Asking) (b : ℕ) → Asks a b e → Of a b) → Asked Of (happens w e)
  unfolding happens
  happens-asked w e r h k = after-asked w e (outcome w e) h (outcome-asked w e r h k)

  run-asked : (w : World) (events : List Event) → Reached w → Asked Of w → ((a : Asking) (b : ℕ) → AskAmong a events b → Of a b) → Asked Of (run w events)
  run-asked w [] r h k = h
  run-asked w (e ∷ events) r h k = run-asked (happens w e) events (reached-next w e r) (happens-asked w e r h (λ a b s. k a b (asks-first a e events b s))) (λ a b s. k a b (asks-later a e events b s))

  start-asked : (nodes : ℕ) → Asked Of (start nodes)
  unfolding start
  start-asked nodes = record { downs = λ c. each-nil (MessageIs Of); ups = λ c. each-nil (MessageIs Of); primaries = λ i. tt }

  -- Where these are the blocks of all writers that act, they are the blocks of all requests to write.
  pub all-asked : (nodes : ℕ) (events : List Event) → ((a : Asking) (b : ℕ) → AskAmong a events b → Of a b) → requests.AllAsked (Of to_write) (run (start nodes) events)
  all-asked nodes events k c i f e = ((run-asked (start nodes) events (at-start nodes) (start-asked nodes) k).downs c).at i (request (op.Write f)) e

  -- Those for which readers ask are the blocks of all requests to read.
  pub all-read : (nodes : ℕ) (events : List Event) → ((a : Asking) (b : ℕ) → AskAmong a events b → Of a b) → requests.AllRead (Of to_read) (run (start nodes) events)
  all-read nodes events k c i f e = ((run-asked (start nodes) events (at-start nodes) (start-asked nodes) k).downs c).at i (request (op.Read f)) e

  -- Those that primaries are to recover are the blocks of all requests of recoveries.
  pub all-recovering : (nodes : ℕ) (events : List Event) → ((a : Asking) (b : ℕ) → AskAmong a events b → Of a b) → requests.AllRecovering (Of to_recover) (run (start nodes) events)
  all-recovering nodes events k c i f e = ((run-asked (start nodes) events (at-start nodes) (start-asked nodes) k).downs c).at i (request (op.Recovery f)) e

-- each is of those that ask
pub asked-so : (nodes : ℕ) (events : List Event) → requests.AllAsked (Acts events) (run (start nodes) events)
asked-so nodes events = all-asked (λ a. AskAmong a events) nodes events (λ a b s. s)

pub read-so : (nodes : ℕ) (events : List Event) → requests.AllRead (Reads events) (run (start nodes) events)
read-so nodes events = all-read (λ a. AskAmong a events) nodes events (λ a b s. s)

pub recovering-so : (nodes : ℕ) (events : List Event) → requests.AllRecovering (Recovers events) (run (start nodes) events)
recovering-so nodes events = all-recovering (λ a. AskAmong a events) nodes events (λ a b s. s)

-- BLOCKS IN A LIST

step-among : (blocks : List BlockId) (a : Asking) (e : Event) (b : ℕ) → EventAmong blocks e → Asks a b e → IsAmong blocks b
step-among blocks to_write (event.Own (own.Writer d takes answered)) b h s = subst (IsAmong blocks) s h
step-among blocks to_write (event.Own (own.Reader i n r answered)) b h s = absurd s
step-among blocks to_write (event.Own (own.Recover i n d members answers)) b h s = absurd s
step-among blocks to_write (event.Own (own.Primary i)) b h s = absurd s
step-among blocks to_write (event.Office c) b h s = absurd s
step-among blocks to_write (event.Down c answered) b h s = absurd s
step-among blocks to_write (event.Ready c) b h s = absurd s
step-among blocks to_write (event.Up c) b h s = absurd s
step-among blocks to_write (event.Lost c way more) b h s = absurd s
step-among blocks to_write (event.Fault d) b h s = absurd s
step-among blocks to_write (event.Stop n) b h s = absurd s
step-among blocks to_write (event.Restart n list) b h s = absurd s
step-among blocks to_read (event.Own (own.Writer d takes answered)) b h s = absurd s
step-among blocks to_read (event.Own (own.Reader i n r answered)) b h s = subst (IsAmong blocks) s h
step-among blocks to_read (event.Own (own.Recover i n d members answers)) b h s = absurd s
step-among blocks to_read (event.Own (own.Primary i)) b h s = absurd s
step-among blocks to_read (event.Office c) b h s = absurd s
step-among blocks to_read (event.Down c answered) b h s = absurd s
step-among blocks to_read (event.Ready c) b h s = absurd s
step-among blocks to_read (event.Up c) b h s = absurd s
step-among blocks to_read (event.Lost c way more) b h s = absurd s
step-among blocks to_read (event.Fault d) b h s = absurd s
step-among blocks to_read (event.Stop n) b h s = absurd s
step-among blocks to_read (event.Restart n list) b h s = absurd s
step-among blocks to_recover (event.Own (own.Writer d takes answered)) b h s = absurd s
step-among blocks to_recover (event.Own (own.Reader i n r answered)) b h s = absurd s
step-among blocks to_recover (event.Own (own.Recover i n d members answers)) b h s = subst (IsAmong blocks) s h
step-among blocks to_recover (event.Own (own.Primary i)) b h s = absurd s
step-among blocks to_recover (event.Office c) b h s = absurd s
step-among blocks to_recover (event.Down c answered) b h s = absurd s
step-among blocks to_recover (event.Ready c) b h s = absurd s
step-among blocks to_recover (event.Up c) b h s = absurd s
step-among blocks to_recover (event.Lost c way more) b h s = absurd s
step-among blocks to_recover (event.Fault d) b h s = absurd s
step-among blocks to_recover (event.Stop n) b h s = absurd s
step-among blocks to_recover (event.Restart n list) b h s = absurd s

pub asks-among : (blocks : List BlockId) (a : Asking) (events : List Event) (b : ℕ) → AllAmong blocks events → AskAmong a events b → IsAmong blocks b
asks-among blocks to_write [] b h s = absurd s
asks-among blocks to_read [] b h s = absurd s
asks-among blocks to_recover [] b h s = absurd s
asks-among blocks to_write (e ∷ events) b h (inl s) = step-among blocks to_write e b h.0 s
asks-among blocks to_read (e ∷ events) b h (inl s) = step-among blocks to_read e b h.0 s
asks-among blocks to_recover (e ∷ events) b h (inl s) = step-among blocks to_recover e b h.0 s
asks-among blocks to_write (e ∷ events) b h (inr s) = asks-among blocks to_write events b h.1 s
asks-among blocks to_read (e ∷ events) b h (inr s) = asks-among blocks to_read events b h.1 s
asks-among blocks to_recover (e ∷ events) b h (inr s) = asks-among blocks to_recover events b h.1 s

pub all-among : (nodes : ℕ) (blocks : List BlockId) (events : List Event) → AllAmong blocks events → AllRequestsAmong blocks (run (start nodes) events)
all-among nodes blocks events h = record {
  writes = all-asked (λ a. IsAmong blocks) nodes events (λ a b s. asks-among blocks a events b h s);
  reads = all-read (λ a. IsAmong blocks) nodes events (λ a b s. asks-among blocks a events b h s);
  recoveries = all-recovering (λ a. IsAmong blocks) nodes events (λ a b s. asks-among blocks a events b h s);
}
