-- The targets of all requests to write are nodes, after every list of events.
use Rattle.std.proofs.Common.{◌≡◌, ℕ, zero, suc, ◌<◌, ◌≤◌, ◌+◌, ◌-◌, Bool, true, false, List, [], ◌∷◌, ◌++◌, length, map, slice_get, Option, Some, None, IfSome, option_map, refl, sym, ◌∙◌, subst, arith}
use Rattle.std.specs.Prelude.{◌&&◌, not, nat_lt, is_none}
use Rattle.std.proofs.lemmas.Bool.{false≢true}
use Rattle.std.proofs.lemmas.Bool.Decides.{nat_tests}
use Rattle.std.proofs.lemmas.Option.{none-some, same_Some}
use Rattle.hd_base.specs.declared.numbers.BlockId.{BlockId}
use Rattle.hd_base.specs.declared.numbers.NodeId.{NodeId}
use Rattle.hd_base.specs.declared.numbers.Stamp.{Stamp}
use Rattle.op_headers.specs.declared.nodes.NodeRef.{NodeRef}
use Rattle.op_headers.specs.declared.ops.Op.{Op}
use Rattle.op_headers.specs.declared.ops.Op.TheVariants as op
use Rattle.op_headers.specs.Values.{WriteFields}
use Rattle.node_refs.specs.NodeRefs.{ref_of}
use Rattle.packet_stream.specs.Streams.{StreamState}
use Rattle.writer_core.specs.declared.actions.Action.{Action}
use Rattle.writer_core.specs.declared.actions.Action.TheVariants as action
use Rattle.writer_core.specs.declared.phases.Phase.{Phase}
use Rattle.writer_core.specs.declared.phases.Phase.TheVariants as phase
use Rattle.writer_core.specs.declared.phases.Setup.{Setup}
use Rattle.writer_core.specs.declared.phases.Waiting.{Waiting}
use Rattle.writer_core.specs.declared.records.WriterRecord.{WriterRecord}
use Rattle.writer_core.specs.Requests.{request_for}
use Rattle.writer_core.specs.Transitions.{Step, given, own_step, dial_step_as, open_step, completed_step, granted}
use Rattle.world.specs.declared.events.Delivery.{Delivery}
use Rattle.world.specs.declared.events.Delivery.TheVariants as delivery
use Rattle.world.specs.declared.events.Direction.{Direction}
use Rattle.world.specs.declared.events.Direction.TheVariants as direction
use Rattle.world.specs.declared.events.Event.{Event}
use Rattle.world.specs.declared.events.Event.TheVariants as event
use Rattle.world.specs.declared.events.FoundReplica.{FoundReplica}
use Rattle.world.specs.declared.events.OwnStep.{OwnStep}
use Rattle.world.specs.declared.events.OwnStep.TheVariants as own
use Rattle.world.specs.declared.events.TakenCommand.{TakenCommand}
use Rattle.world.specs.Parts.{Message, request, Upper, by_writer, by_member, by_reader, by_primary, Told, Lower, idle}
use Rattle.world.specs.Worlds.{World, Dial, Change, apply, dial_at, listed, start}
use Rattle.world.specs.Connections.{Next, message, the_end, next_down, next_up, down_taken, up_taken, is_served, is_conn, is_alive}
use Rattle.world.specs.Nodes.{lower_down, lower_ready}
use Rattle.world.specs.Clients.{did, did_step, dialled_change, dialling, rest_in, is_formed, ruled, is_empty, takes_command, writer_step, writer_up}
use Rattle.world.specs.Primaries.{office_event}
use Rattle.world.specs.Restarts.{restart}
use Rattle.world.specs.Events.{changed, own_change, down_as, down_event, ready_event, unless_fails, upper_up, up_as, up_event, fault_event, lost, stop, where_so, outcome, after_event, happens, run}
use Rattle.play_model.proofs.WorldLaws.AllCarried.{next-sent, at-start}
use Rattle.play_model.proofs.WorldLaws.AllRecorded.{Reached, reached-next}
use Rattle.play_model.proofs.WorldLaws.ByteFrame.{Each, each-one, each-tail, dial-place, dial-none}
use Rattle.play_model.proofs.WorldLaws.FactTables.{when-each, and-left}
use Rattle.play_model.proofs.WorldLaws.PlacedLaws.{all-placed}
use Rattle.world_orders.specs.Orders.{comes_down, purpose_of, Purpose, pipeline, reading, recovering, is_first, IsBelow, Ordered}
use Rattle.world_orders.proofs.AllOrdered.{all-ordered}
use Rattle.play_laws.specs.Members.{IsRef, AreRefs, AllName, IsNode, TargetsAre}
use Rattle.play_laws.proofs.Steps.{granted-fits}
use Rattle.play_laws.proofs.Resting.{AllStand, happens-stands, start-stands}
use Rattle.play_laws.proofs.Dials.{Aims, NextAims, Calls, quiet, lower-down-calls, lower-ready-calls, mirror-up-calls, own-reader-calls, reader-up-calls, own-recover-calls, own-primary-calls, primary-up-calls, office-calls}

module _ (Of : NodeId → Type 0) where
  -- WRITERS

  refs-of : (ns : List NodeId) (k : ℕ) (t : NodeRef) → Each Of ns → slice_get (map ref_of ns) k ≡ Some t → IsRef Of t
  refs-of [] k t h e = absurd (none-some t e)
  refs-of (n ∷ ns) zero t h e = record { node = n; of = h.at zero n refl; is = sym (same_Some (ref_of n) t e) }
  refs-of (n ∷ ns) (suc k) t h e = refs-of ns k t (each-tail Of n ns h) e

  request-aims : (block : BlockId) (committed : Stamp) (s : StreamState) (k : Setup) (stamp : Stamp) (members : ℕ) (ns : List NodeId) → Each Of ns → Aims Of (request (request_for block committed s k stamp members ns))
  unfolding request_for
  request-aims block committed s k stamp members ns h = λ j t e. refs-of ns j t h e

  module _ (w : World) (b : ℕ) where
    did-calls : (waits : Option Waiting) (a : Action) (x : WriterRecord) (bytes : List ℕ) → IfSome (did w b waits a x bytes) (Calls Of)
    did-calls waits action.Took x bytes = quiet Of _ refl
    did-calls waits (action.Send p) x bytes = quiet Of _ refl
    did-calls waits (action.Answered k said) x bytes = quiet Of _ refl
    did-calls waits action.Wait x bytes = tt
    did-calls waits (action.Ask c) x bytes = tt
    did-calls waits (action.Dial to r) x bytes = tt
    did-calls waits action.Memory x bytes = tt

    dialled-calls : (x : WriterRecord) (to : NodeId) (r : Op) (answered : Bool) → Aims Of (request r) → Calls Of (dialled_change w b x to r answered)
    dialled-calls x to r true h = record { dials = each-one (λ (d : Dial). Aims Of d.request) _ h; alone = λ i d e c. refl }
    dialled-calls x to r false h = quiet Of _ refl

    dialling-calls : (x : WriterRecord) (s : Setup) (stamp : Stamp) (ns : List NodeId) (answered : Bool) → Each Of ns → Calls Of (dialling w b x (dial_step_as x s stamp ns).action answered)
    dialling-calls x s stamp [] answered h = quiet Of _ refl
    dialling-calls x s stamp (n ∷ ns) answered h = dialled-calls x n (request_for x.block x.committed x.stream s stamp (length x.members) ns) (answered && w.running n.0) (request-aims x.block x.committed x.stream s stamp (length x.members) ns (each-tail Of n ns h))

    rest-calls : (p : Phase) (x : WriterRecord) (answered : Bool) → Each Of x.members → IfSome (rest_in p w b x answered) (Calls Of)
    rest-calls (phase.Stamped s stamp) x answered h = dialling-calls x s stamp x.members answered h
    rest-calls phase.Opened x answered h = did-calls x.waiting (open_step x).action (open_step x).writer []
    rest-calls phase.Completed x answered h = did-calls x.waiting (completed_step x).action (completed_step x).writer []
    rest-calls phase.Closed x answered h = quiet Of _ refl
    rest-calls (phase.Wanted s) x answered h = quiet Of _ refl
    rest-calls (phase.Requested s stamp) x answered h = quiet Of _ refl
    rest-calls (phase.Accepted s stamp) x answered h = quiet Of _ refl
    rest-calls (phase.Streaming n) x answered h = quiet Of _ refl
    rest-calls phase.Closing x answered h = quiet Of _ refl
    rest-calls phase.Finished x answered h = quiet Of _ refl
    rest-calls (phase.Failed f) x answered h = quiet Of _ refl

    given-calls : (waits : Option Waiting) (s : Step) (bytes : List ℕ) → IfSome (did_step w b waits s bytes) (Calls Of)
    given-calls waits s bytes = did-calls waits s.action s.writer bytes

    takes-calls : (x : WriterRecord) (t : TakenCommand) → IfSome (takes_command w b x t) (Calls Of)
    takes-calls x t = when-each (Calls Of) (is_formed t.command t.rule && not (is_empty (given x t.command).queue)) _
        (λ _. when-each (Calls Of) (is_empty (own_step (given (ruled x t.command t.rule) t.command)).writer.queue) _
        (λ _. given-calls _ (own_step (given (ruled x t.command t.rule) t.command)) _))

    writer-step-calls : (x : WriterRecord) (told : Option Told) (takes : Option TakenCommand) (answered : Bool) → ((t : Told) → Each Of (granted x t).members) → IfSome (writer_step w b x told takes answered) (Calls Of)
    writer-step-calls x (Some t) None answered h = rest-calls (granted x t).phase (granted x t) answered (h t)
    writer-step-calls x (Some t) (Some c) answered h = tt
    writer-step-calls x None None answered h = given-calls x.waiting (own_step x) []
    writer-step-calls x None (Some t) answered h = takes-calls x t

    writer-up-calls : (c : ℕ) (n : Next) → IfSome (writer_up w b c n) (Calls Of)
    writer-up-calls c n = when-each (Calls Of) (is_conn (w.writers b).conn c && is_none (w.writers b).told) _ (λ _. quiet Of _ refl)

  -- WORLDS

  -- on each connection something was sent, a request to write first only with such targets
  pub record Aimed (w : World) : Type 0 where
    pub begun : (c : ℕ) → c < w.next_conn → (m : Message) × (slice_get (w.downs c) 0 ≡ Some m)
    pub first : (c : ℕ) (m : Message) → c < w.next_conn → slice_get (w.downs c) 0 ≡ Some m → Aims Of m

  -- nothing was sent on a connection that wasn't dialled
  record Bare (w : World) : Type 0 where
    fresh : (c : ℕ) → w.next_conn ≤ c → w.downs c ≡ []

  more : (xs ys : List Message) (m : Message) → slice_get xs 0 ≡ Some m → slice_get (xs ++ ys) 0 ≡ Some m
  more [] ys m e = absurd (none-some m e)
  more (x ∷ xs) ys m e = e

  -- the first message of a connection after a change
  new-first : (xs ys : List Message) (d : Dial) → xs ≡ [] → ys ≡ [] → slice_get ((xs ++ ys) ++ d.request ∷ []) 0 ≡ Some d.request
  new-first xs ys d e f = subst (λ (l : List Message). slice_get ((l ++ ys) ++ d.request ∷ []) 0 ≡ Some d.request) (sym e)
      (subst (λ (l : List Message). slice_get (l ++ d.request ∷ []) 0 ≡ Some d.request) (sym f) refl)

  -- what is known of a connection's first message
  record HasFirst (ms : List Message) : Type 0 where
    one : Message
    there : slice_get ms 0 ≡ Some one
    aims : Aims Of one

  first-after : (w : World) (k : Change) → Bare w → Aimed w → Calls Of k → (c : ℕ) → c < w.next_conn + length k.dials → (o : Option Dial) → dial_at w.next_conn k.dials c ≡ o
      → HasFirst ((w.downs c ++ k.downs c) ++ listed (option_map (λ (d : Dial). d.request) o))
  first-after w k u h n c lt None e =
      let low : c < w.next_conn = dial-none w.next_conn k.dials c e lt in
      let m = h.begun c low in
      record { one = m.0; there = more (w.downs c ++ k.downs c) [] m.0 (more (w.downs c) (k.downs c) m.0 m.1); aims = h.first c m.0 low m.1 }
  first-after w k u h n c lt (Some d) e =
      let at = dial-place w.next_conn k.dials c d e in
      record {
        one = d.request;
        there = new-first (w.downs c) (k.downs c) d (u.fresh c (omega (arith, at.1))) (n.alone (c - w.next_conn) d at.0 c);
        aims = n.dials.at (c - w.next_conn) d at.0;
      }

  apply-aimed : (w : World) (k : Change) → Bare w → Aimed w → Calls Of k → Aimed (apply w k)
  unfolding apply
  apply-aimed w k u h n = record {
    begun = λ c lt. let f = first-after w k u h n c lt (dial_at w.next_conn k.dials c) refl in (f.one, f.there);
    first = λ c m lt e. let f = first-after w k u h n c lt (dial_at w.next_conn k.dials c) refl in subst (Aims Of) (same_Some f.one m (sym f.there ∙ e)) f.aims;
  }

  changed-aimed : (w : World) (o : Option Change) → Bare w → Aimed w → IfSome o (Calls Of) → IfSome (changed w o) Aimed
  changed-aimed w None u h n = tt
  changed-aimed w (Some k) u h n = apply-aimed w k u h n

  -- DELIVERIES

  down-taken-aimed : (w : World) (c : ℕ) (x : Next) → Aimed w → Aimed (down_taken w c x)
  unfolding down_taken
  down-taken-aimed w c x h = record { begun = h.begun; first = h.first }

  up-taken-aimed : (w : World) (c : ℕ) (x : Next) → Aimed w → Aimed (up_taken w c x)
  unfolding up_taken
  up-taken-aimed w c x h = record { begun = h.begun; first = h.first }

  down-taken-bare : (w : World) (c : ℕ) (x : Next) → Bare w → Bare (down_taken w c x)
  unfolding down_taken
  down-taken-bare w c x u = record { fresh = u.fresh }

  up-taken-bare : (w : World) (c : ℕ) (x : Next) → Bare w → Bare (up_taken w c x)
  unfolding up_taken
  up-taken-bare w c x u = record { fresh = u.fresh }

  -- an end that has taken nothing is at the first message
  idle-first : (w : World) (c : ℕ) → Ordered w → w.lowers c ≡ idle → (w.down_marks c).taken ≡ 0
  idle-first w c o e = (subst (λ (l : Lower). IsBelow (w.dialled c).upper (w.down_marks c).taken (w.ups c) l) e (o.below c)).0

  next-aims : (w : World) (c : ℕ) (x : Next) → Ordered w → Aimed w → c < w.next_conn → next_down w c ≡ Some x → w.lowers c ≡ idle → NextAims Of x
  next-aims w c (message m) o h lt e i = h.first c m lt (subst (λ (n : ℕ). slice_get (w.downs c) n ≡ Some m) (idle-first w c o i) (next-sent (w.downs c) (w.down_marks c) m e))
  next-aims w c the_end o h lt e i = tt

  down-as-aimed : (w : World) (c : ℕ) (answered fails : Bool) (n : Option Next) → Bare w → Ordered w → c < w.next_conn → Aimed w → next_down w c ≡ n → IfSome (down_as w c answered fails n) Aimed
  down-as-aimed w c answered fails None u o lt h e = tt
  down-as-aimed w c answered fails (Some x) u o lt h e =
      changed-aimed (down_taken w c x) (lower_down (w.lowers c) (down_taken w c x) c x answered fails) (down-taken-bare w c x u) (down-taken-aimed w c x h)
      (lower-down-calls Of (down_taken w c x) (w.lowers c) c x answered fails (next-aims w c x o h lt e))

  below : (c n : ℕ) → nat_lt c n ≡ true → c < n
  below c n e = grind (arith, nat_tests, e)

  down-aimed : (w : World) (c : ℕ) (answered fails : Bool) → Bare w → Ordered w → Aimed w → IfSome (down_event w c answered fails) Aimed
  down-aimed w c answered fails u o h = when-each Aimed (is_served w c) _
      (λ e. down-as-aimed w c answered fails (next_down w c) u o (below c w.next_conn (and-left (nat_lt c w.next_conn) (is_alive w (w.dialled c).to) e)) h refl)

  ready-aimed : (w : World) (c : ℕ) (fails : Bool) → Bare w → Aimed w → IfSome (ready_event w c fails) Aimed
  ready-aimed w c fails u h = when-each Aimed (is_served w c) _ (λ _. changed-aimed w (lower_ready (w.lowers c) w c fails) u h (lower-ready-calls Of w (w.lowers c) c fails))

  unless-calls : (fails : Bool) (o : Option Change) → IfSome o (Calls Of) → IfSome (unless_fails fails o) (Calls Of)
  unless-calls true o n = tt
  unless-calls false o n = n

  upper-calls : (u : Upper) (w : World) (c : ℕ) (x : Next) (fails : Bool) → IfSome (upper_up u w c x fails) (Calls Of)
  upper-calls (by_writer b) w c x fails = unless-calls fails _ (writer-up-calls w b c x)
  upper-calls (by_member d) w c x fails = mirror-up-calls Of w (w.lowers d) d x fails
  upper-calls (by_reader i) w c x fails = unless-calls fails _ (reader-up-calls Of w i c x)
  upper-calls (by_primary i place) w c x fails = unless-calls fails _ (primary-up-calls Of w i place c x)

  up-as-aimed : (w : World) (c : ℕ) (fails : Bool) (n : Option Next) → Bare w → Aimed w → IfSome (up_as w c fails n) Aimed
  up-as-aimed w c fails None u h = tt
  up-as-aimed w c fails (Some x) u h =
      changed-aimed (up_taken w c x) (upper_up (w.dialled c).upper (up_taken w c x) c x fails) (up-taken-bare w c x u) (up-taken-aimed w c x h) (upper-calls (w.dialled c).upper (up_taken w c x) c x fails)

  up-aimed : (w : World) (c : ℕ) (fails : Bool) → Bare w → Aimed w → IfSome (up_event w c fails) Aimed
  up-aimed w c fails u h = when-each Aimed (nat_lt c w.next_conn) _ (λ _. up-as-aimed w c fails (next_up w c) u h)

  fault-aimed : (w : World) (d : Delivery) → Bare w → Ordered w → Aimed w → IfSome (fault_event w d) Aimed
  fault-aimed w (delivery.Down c) u o h = down-aimed w c.0 false true u o h
  fault-aimed w (delivery.Ready c) u o h = ready-aimed w c.0 true u h
  fault-aimed w (delivery.Up c) u o h = up-aimed w c.0 true u h

  -- ALL EVENTS

  own-calls : (w : World) (s : OwnStep) → AllStand Of w → IfSome (own_change w s) (Calls Of)
  own-calls w (own.Writer b takes answered) h = writer-step-calls w b.0 (w.writers b.0).known (w.writers b.0).told takes answered (λ t. (granted-fits Of _ _ (w.writers b.0).known t (h b.0).fits).each)
  own-calls w (own.Reader i n r answered) h = own-reader-calls Of w i n.0 r answered
  own-calls w (own.Recover i n b members answers) h = own-recover-calls Of w i n.0 b members answers
  own-calls w (own.Primary i) h = own-primary-calls Of w i

  lost-aimed : (w : World) (c : ℕ) (way : Direction) (more : ℕ) → Aimed w → Aimed (lost w c way more)
  lost-aimed w c direction.Down more h = record { begun = h.begun; first = h.first }
  lost-aimed w c direction.Up more h = record { begun = h.begun; first = h.first }

  stop-aimed : (w : World) (n : ℕ) → Aimed w → Aimed (stop w n)
  stop-aimed w n h = record { begun = h.begun; first = h.first }

  restart-aimed : (w : World) (n : ℕ) (list : List FoundReplica) → Aimed w → Aimed (restart w n list)
  unfolding restart
  restart-aimed w n list h = record { begun = h.begun; first = h.first }

  where-aimed : (test : Bool) (v : World) → Aimed v → IfSome (where_so test v) Aimed
  where-aimed true v h = h
  where-aimed false v h = tt

  outcome-aimed : (w : World) (e : Event) → Bare w → Ordered w → AllStand Of w → Aimed w → IfSome (outcome w e) Aimed
  unfolding outcome
  outcome-aimed w (event.Own s) u o a h = changed-aimed w (own_change w s) u h (own-calls w s a)
  outcome-aimed w (event.Office c) u o a h = changed-aimed w (office_event w c) u h (office-calls Of w c)
  outcome-aimed w (event.Down c answered) u o a h = down-aimed w c.0 answered false u o h
  outcome-aimed w (event.Ready c) u o a h = ready-aimed w c.0 false u h
  outcome-aimed w (event.Up c) u o a h = up-aimed w c.0 false u h
  outcome-aimed w (event.Lost c way more) u o a h = where-aimed (nat_lt c.0 w.next_conn) (lost w c.0 way more) (lost-aimed w c.0 way more h)
  outcome-aimed w (event.Fault d) u o a h = fault-aimed w d u o h
  outcome-aimed w (event.Stop n) u o a h = where-aimed (w.running n.0) (stop w n.0) (stop-aimed w n.0 h)
  outcome-aimed w (event.Restart n list) u o a h =
      where-aimed (nat_lt n.0 w.nodes && not (w.running n.0)) (restart w n.0 list) (restart-aimed w n.0 list h)

  after-aimed : (w : World) (e : Event) (o : Option World) → Aimed w → IfSome o Aimed → Aimed (after_event w e o)
  after-aimed w e None h n = h
  after-aimed w e (Some v) h n = record { begun = n.begun; first = n.first }

  happens-aimed : (w : World) (e : Event) → Bare w → Ordered w → AllStand Of w → Aimed w → Aimed (happens w e)
  unfolding happens
  happens-aimed w e u o a h = after-aimed w e (outcome w e) h (outcome-aimed w e u o a h)

  reached-bare : (w : World) → Reached w → Bare w
  reached-bare w r = subst Bare r.is (record { fresh = λ c l. ((all-placed r.nodes r.events).undialled c l).downs })

  reached-ordered : (w : World) → Reached w → Ordered w
  reached-ordered w r = subst Ordered r.is (all-ordered r.nodes r.events)

  run-aimed : (w : World) (list : List Event) → AllName Of list → Reached w → AllStand Of w → Aimed w → Aimed (run w list)
  run-aimed w [] n r a h = h
  run-aimed w (e ∷ list) n r a h = run-aimed (happens w e) list n.1 (reached-next w e r) (happens-stands Of w e n.0 a) (happens-aimed w e (reached-bare w r) (reached-ordered w r) a h)

  start-aimed : (nodes : ℕ) → Aimed (start nodes)
  unfolding start
  start-aimed nodes = record { begun = λ c lt. absurd (omega (arith, lt)); first = λ c m lt e. absurd (none-some m e) }

  pub all-aimed : (nodes : ℕ) (list : List Event) → AllName Of list → Aimed (run (start nodes) list)
  all-aimed nodes list n = run-aimed (start nodes) list n (at-start nodes) (start-stands Of nodes) (start-aimed nodes)

  -- EACH REQUEST

  -- a request to write comes first
  write-first : (p : Purpose) (k : ℕ) (f : WriteFields) → comes_down p (is_first k) (request (op.Write f)) ≡ true → k ≡ 0
  write-first pipeline zero f e = refl
  write-first pipeline (suc k) f e = absurd (false≢true e)
  write-first reading zero f e = refl
  write-first reading (suc k) f e = absurd (false≢true e)
  write-first recovering k f e = absurd (false≢true e)

  dialled-here : (w : World) (c k : ℕ) (m : Message) → Bare w → slice_get (w.downs c) k ≡ Some m → c < w.next_conn
  dialled-here w c k m u e = go (nat_lt c w.next_conn) refl
    where
      go : (b : Bool) → nat_lt c w.next_conn ≡ b → c < w.next_conn
      go true q = below c w.next_conn q
      go false q = absurd (none-some m (subst (λ (l : List Message). slice_get l k ≡ Some m) (u.fresh c (grind (arith, nat_tests, q))) e))

  write-aims : (w : World) (c k : ℕ) (f : WriteFields) → Bare w → Ordered w → Aimed w → slice_get (w.downs c) k ≡ Some (request (op.Write f)) → AreRefs Of f
  write-aims w c k f u o h e =
      h.first c (request (op.Write f)) (dialled-here w c k (request (op.Write f)) u e)
      (subst (λ (n : ℕ). slice_get (w.downs c) n ≡ Some (request (op.Write f))) (write-first (purpose_of (w.dialled c).upper) k f (o.downs c k (request (op.Write f)) e)) e)

  pub all-refs : (nodes : ℕ) (list : List Event) (c k : ℕ) (f : WriteFields) → AllName Of list → slice_get ((run (start nodes) list).downs c) k ≡ Some (request (op.Write f)) → AreRefs Of f
  all-refs nodes list c k f n e =
      let r : Reached (run (start nodes) list) = record { nodes = nodes; events = list; is = refl } in
      write-aims (run (start nodes) list) c k f (reached-bare (run (start nodes) list) r) (all-ordered nodes list) (all-aimed nodes list n) e

pub targets-are : TargetsAre
targets-are nodes events c k f n e = all-refs (IsNode nodes) nodes events c k f n e
