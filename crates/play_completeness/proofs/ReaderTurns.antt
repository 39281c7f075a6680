-- What readers do, and what happens on their connections, leaves alone all else.
use Rattle.std.proofs.Common.{◌≡◌, ℕ, Bool, true, false, List, [], ◌∷◌, Option, Some, None, IfSome, Result, Ok, Err, refl, sym, ◌∙◌, ap, subst}
use Rattle.std.specs.Prelude.{◌==◌, ◌&&◌, slice_get, nat_lt}
use Rattle.std.proofs.lemmas.Bool.{false≢true}
use Rattle.hd_base.specs.declared.numbers.ConnId.{ConnId}
use Rattle.hd_base.specs.declared.states.Status.TheVariants as status
use Rattle.op_headers.specs.declared.ops.Op.{Op}
use Rattle.op_headers.specs.declared.ops.Op.TheVariants as op
use Rattle.op_headers.specs.declared.ops.ReadOp.{ReadOp}
use Rattle.packet_codec.specs.declared.packets.Packet.{Packet}
use Rattle.replica_core.specs.declared.events.Event.{Event as CoreEvent}
use Rattle.request_refusals.specs.declared.refusals.RequestRefusal.{RequestRefusal}
use Rattle.read_core.specs.declared.reading.ReadTurn.{ReadTurn}
use Rattle.read_core.specs.declared.reading.ReadTurn.TheVariants as turn
use Rattle.read_core.specs.Readings.{ReadTaken, take_from}
use Rattle.read_core.specs.Servings.{ServingState, accepting, refusing, read_at, piece_at, next_call}
use Rattle.world.specs.declared.events.Event.{Event}
use Rattle.world.specs.declared.events.Event.TheVariants as event
use Rattle.world.specs.Parts.{Message, request, packet, ack, response, read_status, recovery_answer, Upper, by_reader, Marks, Lower, idle, writes, serves, recovers, ended_below, Reader, no_reader, reads, has_read}
use Rattle.world.specs.Worlds.{World, Dial, Change, put, start}
use Rattle.world.specs.Connections.{Next, message, the_end, marks_taken, next_down, next_up, down_taken, up_taken, sent_on, is_conn, is_served}
use Rattle.world.specs.Clients.{reader_dials, own_reader_as, own_reader, from_node_of, reader_turn, reader_up_as, reader_up}
use Rattle.world.specs.Nodes.{replica_at, closing, read_change, piece_as, serve_change, first_message, lower_down, lower_ready}
use Rattle.world.specs.Events.{changed, down_as, down_event, ready_event, upper_up, up_as, up_event, outcome, after_event, happens, run}
use Rattle.world_laws.proofs.FactTables.{when-each}
use Rattle.world_laws.proofs.ByteFrame.{each-nil, each-one}
use Rattle.world_orders.specs.Orders.{Purpose, reading, recovering, pipeline, purpose_of, comes_down, is_read, IsBelow, Ordered}
use Rattle.world_orders.proofs.AllOrdered.{all-ordered, next-found}
use Rattle.world_orders.proofs.Frame.{marked}
use Rattle.play_model.specs.declared.asks.ReadAsk.{ReadAsk}
use Rattle.play_model.specs.Asks.{request_of, asking_node}
use Rattle.play_completeness.specs.Plain.{is_of_pipeline}
use Rattle.play_completeness.proofs.Beside.{Beside, beside-itself}
use Rattle.play_completeness.proofs.BesideWorld.{is_member, MarksBeside, MovesBeside, lowers-same, lowers-put, apart, beside-by}
use Rattle.play_completeness.proofs.Turned.{sent-off}
use Rattle.play_completeness.proofs.TurnWorld.{named, put-else}

changed-beside : (w : World) (dm um : ℕ → Marks) (e : Event) → MarksBeside w w.down_marks dm → MarksBeside w w.up_marks um → (k : Option Change) → IfSome k (MovesBeside w) → IfSome (changed (marked w dm um) k) (λ v. Beside w (named e v))
changed-beside w dm um e td tu None h = tt
changed-beside w dm um e td tu (Some k) h = beside-by w dm um k e td tu h

after-beside : (w : World) (e : Event) (o : Option World) → IfSome o (λ v. Beside w (named e v)) → Beside w (after_event w e o)
after-beside w e None h = beside-itself w
after-beside w e (Some v) h = h

-- A READER'S OWN STEP

dials-moves : (w : World) (i n : ℕ) (r : ReadOp) (answered : Bool) → MovesBeside w (reader_dials w i n r answered)
dials-moves w i n r true = record {
  office = refl;
  stamped = refl;
  bytes = refl;
  writer = refl;
  said = refl;
  replica = refl;
  lowers = lowers-same w 0;
  downs = λ c on. refl;
  ups = λ c on. refl;
  shuts = λ c on. refl;
  dials = each-one (λ (d : Dial). is_of_pipeline d.dialled.upper ≡ false) _ refl;
}
dials-moves w i n r false = record {
  office = refl;
  stamped = refl;
  bytes = refl;
  writer = refl;
  said = refl;
  replica = refl;
  lowers = lowers-same w 0;
  downs = λ c on. refl;
  ups = λ c on. refl;
  shuts = λ c on. refl;
  dials = each-nil (λ (d : Dial). is_of_pipeline d.dialled.upper ≡ false);
}

own-moves : (w : World) (x : Reader) (i n : ℕ) (r : ReadOp) (answered : Bool) → IfSome (own_reader_as x w i n r answered) (MovesBeside w)
own-moves w no_reader i n r answered = dials-moves w i n r (answered && w.running n)
own-moves w (reads c s) i n r answered = tt
own-moves w (has_read x) i n r answered = tt

same-marks : (w : World) (marks : ℕ → Marks) → MarksBeside w marks marks
same-marks w marks c on = refl

own-beside : (w : World) (e : Event) (i n : ℕ) (r : ReadOp) (answered : Bool) → Beside w (after_event w e (changed w (own_reader w i n r answered)))
own-beside w e i n r answered =
    after-beside w e (changed w (own_reader w i n r answered))
    (changed-beside w w.down_marks w.up_marks e (same-marks w w.down_marks) (same-marks w w.up_marks) (own_reader w i n r answered) (own-moves w (w.readers i) i n r answered))

-- A READER'S CONNECTION

module _ (w : World) (o : Ordered w) (e : Event) (c i : ℕ) (upper : (w.dialled c).upper ≡ by_reader i) where
  off : is_of_pipeline (w.dialled c).upper ≡ false
  off = ap is_of_pipeline upper

  reads-here : purpose_of (w.dialled c).upper ≡ reading
  reads-here = ap purpose_of upper

  marks-put : (marks : ℕ → Marks) (x : Marks) → MarksBeside w marks (put marks c x)
  marks-put marks x d on = put-else marks c x d (apart w c d off on)

  sent-else : (ms : List Message) (d : ℕ) → is_of_pipeline (w.dialled d).upper ≡ true → sent_on (Some c) ms d ≡ []
  sent-else ms d on = sent-off (Some c) ms d (apart w c d off on)

  module _ (dm um : ℕ → Marks) where
    abbrev z : World
    z = marked w dm um

    turn-moves : (t : ReadTaken) (does : ReadTurn) → MovesBeside w (reader_turn z i c t does)
    turn-moves t turn.Goes = record {
      office = refl;
      stamped = refl;
      bytes = refl;
      writer = refl;
      said = refl;
      replica = refl;
      lowers = lowers-same w 0;
      downs = λ d on. refl;
      ups = λ d on. refl;
      shuts = λ d on. refl;
      dials = each-nil (λ (d : Dial). is_of_pipeline d.dialled.upper ≡ false);
    }
    turn-moves t turn.Verified = record {
      office = refl;
      stamped = refl;
      bytes = refl;
      writer = refl;
      said = refl;
      replica = refl;
      lowers = lowers-same w 0;
      downs = λ d on. sent-else (read_status status.ChecksumOk ∷ []) d on;
      ups = λ d on. refl;
      shuts = λ d on. apart w c d off on;
      dials = each-nil (λ (d : Dial). is_of_pipeline d.dialled.upper ≡ false);
    }
    turn-moves t (turn.Fails f) = record {
      office = refl;
      stamped = refl;
      bytes = refl;
      writer = refl;
      said = refl;
      replica = refl;
      lowers = lowers-same w 0;
      downs = λ d on. refl;
      ups = λ d on. refl;
      shuts = λ d on. apart w c d off on;
      dials = each-nil (λ (d : Dial). is_of_pipeline d.dialled.upper ≡ false);
    }

    up-moves : (x : Reader) (n : Next) → IfSome (reader_up_as x z i c n) (MovesBeside w)
    up-moves no_reader n = tt
    up-moves (reads d s) n = when-each (MovesBeside w) (d == c) _ (λ _. turn-moves (take_from s (from_node_of n)) (take_from s (from_node_of n)).does)
    up-moves (has_read x) n = tt

    module _ (old : is_member (w.lowers c) ≡ false) where
      -- the lower end is another one, that is no member, and answers this
      answers-moves : (l : Lower) → is_member l ≡ false → (ms : List Message) (shuts : ℕ → Bool) → ((d : ℕ) → is_of_pipeline (w.dialled d).upper ≡ true → shuts d ≡ false)
          → MovesBeside w (record (closing z c) { lower = l; ups = sent_on (Some c) ms; shuts = shuts })
      answers-moves l none ms shuts open_yet = record {
        office = refl;
        stamped = refl;
        bytes = refl;
        writer = refl;
        said = refl;
        replica = refl;
        lowers = lowers-put w c off old l none;
        downs = λ d on. refl;
        ups = λ d on. sent-else ms d on;
        shuts = open_yet;
        dials = each-nil (λ (d : Dial). is_of_pipeline d.dialled.upper ≡ false);
      }

      closing-moves : MovesBeside w (closing z c)
      closing-moves = record {
        office = refl;
        stamped = refl;
        bytes = refl;
        writer = refl;
        said = refl;
        replica = refl;
        lowers = lowers-put w c off old ended_below refl;
        downs = λ d on. refl;
        ups = λ d on. refl;
        shuts = λ d on. apart w c d off on;
        dials = each-nil (λ (d : Dial). is_of_pipeline d.dialled.upper ≡ false);
      }

      read-moves : (b : ℕ) (served : Result ServingState RequestRefusal) → MovesBeside w (read_change z c b served)
      read-moves b (Ok s) = answers-moves (serves b s) refl (response (accepting s) ∷ []) (λ _. false) (λ d on. refl)
      read-moves b (Err r) = answers-moves ended_below refl (response (refusing r) ∷ []) (is_conn (Some c)) (λ d on. apart w c d off on)

      piece-moves : (b : ℕ) (s : ServingState) (p : Option Packet) → MovesBeside w (piece_as z c b s p)
      piece-moves b s None = closing-moves
      piece-moves b s (Some p) = answers-moves (serves b s) refl (packet p ∷ []) (λ _. false) (λ d on. refl)

      serve-moves : (b : ℕ) (s : ServingState) (k : Option CoreEvent) → IfSome (serve_change z c b s k false) (MovesBeside w)
      serve-moves b s None = tt
      serve-moves b s (Some k) = piece-moves b (piece_at s (replica_at z c b)).serving (piece_at s (replica_at z c b)).packet

      op-moves : (r : Op) → is_read (request r) ≡ true → IfSome (first_message z c (request r) true false) (MovesBeside w)
      op-moves (op.Read r) q = read-moves r.block.block.0 (read_at r (replica_at z c r.block.block.0))
      op-moves (op.Write f) q = absurd (false≢true q)
      op-moves (op.Recovery r) q = absurd (false≢true q)
      op-moves (op.Transfer r) q = absurd (false≢true q)
      op-moves (op.Checksum r) q = absurd (false≢true q)

      first-moves : (m : Message) → is_read m ≡ true → IfSome (first_message z c m true false) (MovesBeside w)
      first-moves (request r) q = op-moves r q
      first-moves (packet p) q = absurd (false≢true q)
      first-moves (ack a) q = absurd (false≢true q)
      first-moves (response r) q = absurd (false≢true q)
      first-moves (read_status s) q = absurd (false≢true q)
      first-moves (recovery_answer a) q = absurd (false≢true q)

  -- THE READER TAKES SOMETHING

  hears : (n : Option Next) → IfSome (up_as w c false n) (λ v. Beside w (named e v))
  unfolding up_taken
  hears None = tt
  hears (Some x) =
      let um : ℕ → Marks = put w.up_marks c (marks_taken (w.up_marks c) x) in
      subst (λ (u : Upper). IfSome (changed (up_taken w c x) (upper_up u (up_taken w c x) c x false)) (λ v. Beside w (named e v))) (sym upper)
      (changed-beside w w.down_marks um e (same-marks w w.down_marks) (marks-put w.up_marks (marks_taken (w.up_marks c) x)) (reader_up (up_taken w c x) i c x) (up-moves w.down_marks um (w.readers i) x))

  up-beside : Beside w (after_event w e (up_event w c false))
  up-beside = after-beside w e (up_event w c false) (when-each (λ (v : World). Beside w (named e v)) (nat_lt c w.next_conn) _ (λ _. hears (next_up w c)))

  -- THE LOWER END TAKES SOMETHING

  -- what stands first is a request to read
  asks-first : (m : Message) → (w.down_marks c).taken ≡ 0 → next_down w c ≡ Some (message m) → is_read m ≡ true
  asks-first m none next =
      let found : slice_get (w.downs c) 0 ≡ Some m = ap (λ (n : ℕ). slice_get (w.downs c) n) (sym none) ∙ next-found (w.downs c) (w.down_marks c) m next in
      sym (ap (λ (p : Purpose). comes_down p true m) reads-here) ∙ o.downs c 0 m found

  abbrev Took : Lower → Next → Type 0
  Took l x = IfSome (changed (down_taken w c x) (lower_down l (down_taken w c x) c x true false)) (λ v. Beside w (named e v))

  clash-member : pipeline ≡ reading → ⊥
  clash-member q = cc

  clash-primary : recovering ≡ reading → ⊥
  clash-primary q = cc

  takes : (l : Lower) → w.lowers c ≡ l → IsBelow (w.dialled c).upper (w.down_marks c).taken (w.ups c) l → (x : Next) → next_down w c ≡ Some x → Took l x
  unfolding down_taken
  takes idle is below (message m) next =
      let dm : ℕ → Marks = put w.down_marks c (marks_taken (w.down_marks c) (message m)) in
      changed-beside w dm w.up_marks e (marks-put w.down_marks (marks_taken (w.down_marks c) (message m))) (same-marks w w.up_marks) (first_message (marked w dm w.up_marks) c m true false)
      (first-moves dm w.up_marks (ap is_member is) m (asks-first m below.0 next))
  takes idle is below the_end next =
      let dm : ℕ → Marks = put w.down_marks c (marks_taken (w.down_marks c) the_end) in
      beside-by w dm w.up_marks (closing (marked w dm w.up_marks) c) e (marks-put w.down_marks (marks_taken (w.down_marks c) the_end)) (same-marks w w.up_marks) (closing-moves dm w.up_marks (ap is_member is))
  takes (serves b s) is below x next =
      let dm : ℕ → Marks = put w.down_marks c (marks_taken (w.down_marks c) x) in
      beside-by w dm w.up_marks (closing (marked w dm w.up_marks) c) e (marks-put w.down_marks (marks_taken (w.down_marks c) x)) (same-marks w w.up_marks) (closing-moves dm w.up_marks (ap is_member is))
  takes (writes m) is below x next = absurd (clash-member (sym below.writes ∙ reads-here))
  takes recovers is below x next = absurd (clash-primary (sym below ∙ reads-here))
  takes ended_below is below x next = tt

  took : (n : Option Next) → next_down w c ≡ n → IfSome (down_as w c true false n) (λ v. Beside w (named e v))
  took None next = tt
  took (Some x) next = takes (w.lowers c) refl (o.below c) x next

  down-beside : Beside w (after_event w e (down_event w c true false))
  down-beside = after-beside w e (down_event w c true false) (when-each (λ (v : World). Beside w (named e v)) (is_served w c) _ (λ _. took (next_down w c) refl))

  -- IT ACTS

  acts : (l : Lower) → w.lowers c ≡ l → IsBelow (w.dialled c).upper (w.down_marks c).taken (w.ups c) l → IfSome (changed w (lower_ready l w c false)) (λ v. Beside w (named e v))
  acts (serves b s) is below =
      changed-beside w w.down_marks w.up_marks e (same-marks w w.down_marks) (same-marks w w.up_marks) (serve_change w c b s (next_call s) false)
      (serve-moves w.down_marks w.up_marks (ap is_member is) b s (next_call s))
  acts (writes m) is below = absurd (clash-member (sym below.writes ∙ reads-here))
  acts idle is below = tt
  acts recovers is below = tt
  acts ended_below is below = tt

  ready-beside : Beside w (after_event w e (ready_event w c false))
  ready-beside = after-beside w e (ready_event w c false) (when-each (λ (v : World). Beside w (named e v)) (is_served w c) _ (λ _. acts (w.lowers c) refl (o.below c)))

-- AFTER EVENTS

pub asking-beside : (w : World) (ask : ReadAsk) → Beside w (happens w (asking_node ask true))
unfolding happens outcome
asking-beside w ask = own-beside w (asking_node ask true) ask.reader ask.node.0 (request_of ask) true

module _ (nodes : ℕ) (events : List Event) (c : ConnId) (i : ℕ) (upper : ((run (start nodes) events).dialled c.0).upper ≡ by_reader i) where
  pub hearing-beside : Beside (run (start nodes) events) (happens (run (start nodes) events) (event.Up c))
  unfolding happens outcome
  hearing-beside = up-beside (run (start nodes) events) (all-ordered nodes events) (event.Up c) c.0 i upper

  pub taking-beside : Beside (run (start nodes) events) (happens (run (start nodes) events) (event.Down c true))
  unfolding happens outcome
  taking-beside = down-beside (run (start nodes) events) (all-ordered nodes events) (event.Down c true) c.0 i upper

  pub serving-beside : Beside (run (start nodes) events) (happens (run (start nodes) events) (event.Ready c))
  unfolding happens outcome
  serving-beside = ready-beside (run (start nodes) events) (all-ordered nodes events) (event.Ready c) c.0 i upper
