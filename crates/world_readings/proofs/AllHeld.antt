-- Each packet of a read brings bytes that the node's replica had, after every list of events.
use Rattle.std.proofs.Common.{◌≡◌, ℕ, ◌^◌, ◌<◌, Bool, true, false, List, [], ◌∷◌, ◌++◌, length, take, drop, Option, Some, None, IfSome, refl, sym, ap, ◌∙◌, subst, arith, append-nil, append_assoc}
use Rattle.std.specs.Prelude.{◌==◌, ◌&&◌, not, nat_lt, nat_abs}
use Rattle.std.specs.Int.{w64, cast_signed}
use Rattle.op_headers.specs.declared.ops.ReadOp.{ReadOp}
use Rattle.packet_codec.specs.declared.packets.Packet.{Packet}
use Rattle.read_core.specs.declared.reading.ReadTurn.{ReadTurn}
use Rattle.read_core.specs.declared.reading.ReadTurn.TheVariants as turn
use Rattle.read_core.specs.Readings.{ReadTaken, take_from}
use Rattle.read_core.specs.Servings.{ServingState, piece_len, packet_of, piece_of}
use Rattle.world.specs.declared.events.Delivery.{Delivery}
use Rattle.world.specs.declared.events.Delivery.TheVariants as delivery
use Rattle.world.specs.declared.events.Direction.{Direction}
use Rattle.world.specs.declared.events.Direction.TheVariants as direction
use Rattle.world.specs.declared.events.Event.{Event}
use Rattle.world.specs.declared.events.Event.TheVariants as event
use Rattle.world.specs.declared.events.OwnStep.{OwnStep}
use Rattle.world.specs.declared.events.OwnStep.TheVariants as own
use Rattle.world.specs.Parts.{Upper, by_writer, by_member, by_reader, by_primary, Reader, no_reader, reads, has_read}
use Rattle.world.specs.Worlds.{World, Change, start}
use Rattle.world.specs.Connections.{Next, next_down, next_up, down_taken, up_taken, is_served}
use Rattle.world.specs.Clients.{reader_dials, own_reader_as, from_node_of, reader_turn, reader_up_as}
use Rattle.world.specs.Restarts.{restart}
use Rattle.world.specs.Events.{own_change, down_as, down_event, ready_event, unless_fails, upper_up, up_as, up_event, fault_event, lost, stop, where_so, outcome, after_event, happens, run}
use Rattle.world_laws.specs.Placing.{IsUpper, Placed}
use Rattle.world_laws.proofs.FactTables.{some-weaker, when-each}
use Rattle.world_laws.proofs.PlacedLaws.{all-placed}
use Rattle.world_laws.proofs.RunLaws.{runs-end}
use Rattle.world_orders.specs.Orders.{Ordered}
use Rattle.world_orders.proofs.AllOrdered.{all-ordered, lt-true, served-below}
use Rattle.world_readings.specs.Origins.{WasHeld, AllHeld}
use Rattle.world_readings.proofs.Serving.{cast-small}
use Rattle.world_readings.proofs.Limiting.{Limited}
use Rattle.world_readings.proofs.AllLimited.{down-taken-limited, all-limited}
use Rattle.world_readings.proofs.Keeping.{Reads, Sends, Owes, still-sends}
use Rattle.world_readings.proofs.Asides.{own-writer-aside, writer-up-aside, own-recover-aside, own-primary-aside, primary-up-aside, office-aside}
use Rattle.world_readings.proofs.Lowers.{lower-down-owes, lower-ready-owes}
use Rattle.world_readings.proofs.AllReads.{aside-all, first-message, unless-owes, lowers-are, all-reads}
use Rattle.world_readings.proofs.Holding.{lowlies, Held, Knows, changed-held}

-- WHAT READERS SEND UP: NOTHING

dials-send : (w : World) (i n : ℕ) (r : ReadOp) (answered : Bool) → Sends w (reader_dials w i n r answered)
dials-send w i n r true = still-sends w (reader_dials w i n r true) refl (λ d. refl)
dials-send w i n r false = still-sends w (reader_dials w i n r false) refl (λ d. refl)

own-reader-sends : (x : Reader) (w : World) (i n : ℕ) (r : ReadOp) (answered : Bool) → IfSome (own_reader_as x w i n r answered) (Sends w)
own-reader-sends no_reader w i n r answered = dials-send w i n r (answered && w.running n)
own-reader-sends (reads c s) w i n r answered = tt
own-reader-sends (has_read x) w i n r answered = tt

turn-sends : (w : World) (i c : ℕ) (t : ReadTaken) (d : ReadTurn) → Sends w (reader_turn w i c t d)
turn-sends w i c t turn.Goes = still-sends w (reader_turn w i c t turn.Goes) refl (λ d. refl)
turn-sends w i c t turn.Verified = still-sends w (reader_turn w i c t turn.Verified) refl (λ d. refl)
turn-sends w i c t (turn.Fails f) = still-sends w (reader_turn w i c t (turn.Fails f)) refl (λ d. refl)

reader-up-sends : (z : Reader) (w : World) (i c : ℕ) (x : Next) → IfSome (reader_up_as z w i c x) (Sends w)
reader-up-sends no_reader w i c x = tt
reader-up-sends (reads d s) w i c x = when-each (Sends w) (d == c) _ (λ _. turn-sends w i c (take_from s (from_node_of x)) (take_from s (from_node_of x)).does)
reader-up-sends (has_read r) w i c x = tt

owes-send : (w : World) (o : Option Change) → IfSome o (Owes w) → IfSome o (Sends w)
owes-send w o h = some-weaker (Owes w) (Sends w) o (λ k x. x.sends) h

unless-sends : (w : World) (fails : Bool) (o : Option Change) → IfSome o (Sends w) → IfSome (unless_fails fails o) (Sends w)
unless-sends w true o s = tt
unless-sends w false o s = s

module _ (H : ℕ → ℕ → Packet → Type 0) where
  -- so it is of each packet of each read
  abbrev HeldIn : World → Type 0
  HeldIn v = Held H v.past v.lowers

  record Facts (w : World) : Type 0 where
    placed : Placed w
    ordered : Ordered w
    limited : Limited w
    read : Reads w
    now : (n b : ℕ) (s : ServingState) → s.at < 2 ^ 63 → length (piece_of (w.replicas n b) s) ≡ piece_len s → H n b (packet_of s (piece_of (w.replicas n b) s))
    held : HeldIn w

  knows : (w : World) → Facts w → Knows H w.past w.lowers w.replicas
  knows w f = record {
    lower = lowlies w f.read;
    undialled = λ c le. let x = f.placed.undialled c le in (x.ups, x.lower);
    now = f.now;
    held = f.held;
  }

  module _ (w : World) (f : Facts w) where
    down-as-held : (c : ℕ) (answered fails : Bool) (o : Option Next) → c < w.next_conn → next_down w c ≡ o → IfSome (down_as w c answered fails o) HeldIn
    unfolding down_taken
    down-as-held c answered fails None lt e = tt
    down-as-held c answered fails (Some x) lt e =
        let v = down_taken w c x in
        changed-held H v _ (knows w f) (owes-send v _ (lower-down-owes v c lt (w.lowers c) x answered fails (down-taken-limited w c x f.limited) refl (λ is m q. first-message w c x m f.ordered e is q)))

    down-held : (c : ℕ) (answered fails : Bool) → IfSome (down_event w c answered fails) HeldIn
    down-held c answered fails = when-each HeldIn (is_served w c) _ (λ e. down-as-held c answered fails (next_down w c) (served-below w c e) refl)

    ready-held : (c : ℕ) (fails : Bool) → IfSome (ready_event w c fails) HeldIn
    ready-held c fails = when-each HeldIn (is_served w c) _ (λ e. changed-held H w _ (knows w f) (owes-send w _ (lower-ready-owes w c (served-below w c e) (w.lowers c) fails f.limited refl)))

    upper-sends : (c : ℕ) (x : Next) (fails : Bool) (u : Upper) → (w.dialled c).upper ≡ u → c < w.next_conn → IfSome (upper_up u (up_taken w c x) c x fails) (Sends (up_taken w c x))
    upper-sends c x fails (by_writer b) is lt = owes-send (up_taken w c x) _ (unless-owes (up_taken w c x) fails _ (aside-all (up_taken w c x) _ (writer-up-aside (up_taken w c x) b c x)))
    upper-sends c x fails (by_member d) is lt = owes-send (up_taken w c x) _ (lowers-are w c x d fails (subst (IsUpper w.next_conn) is (f.placed.dialled c lt).upper))
    upper-sends c x fails (by_reader i) is lt = unless-sends (up_taken w c x) fails _ (reader-up-sends ((up_taken w c x).readers i) (up_taken w c x) i c x)
    upper-sends c x fails (by_primary i place) is lt = owes-send (up_taken w c x) _ (unless-owes (up_taken w c x) fails _ (aside-all (up_taken w c x) _ (primary-up-aside (up_taken w c x) i place c x)))

    up-as-held : (c : ℕ) (fails : Bool) (o : Option Next) → c < w.next_conn → IfSome (up_as w c fails o) HeldIn
    unfolding up_taken
    up-as-held c fails None lt = tt
    up-as-held c fails (Some x) lt = changed-held H (up_taken w c x) _ (knows w f) (upper-sends c x fails (w.dialled c).upper refl lt)

    up-held : (c : ℕ) (fails : Bool) → IfSome (up_event w c fails) HeldIn
    up-held c fails = when-each HeldIn (nat_lt c w.next_conn) _ (λ e. up-as-held c fails (next_up w c) (lt-true c w.next_conn e))

    fault-held : (d : Delivery) → IfSome (fault_event w d) HeldIn
    fault-held (delivery.Down c) = down-held c.0 false true
    fault-held (delivery.Ready c) = ready-held c.0 true
    fault-held (delivery.Up c) = up-held c.0 true

    own-sends : (s : OwnStep) → IfSome (own_change w s) (Sends w)
    own-sends (own.Writer b takes answered) = owes-send w _ (aside-all w _ (own-writer-aside w b.0 takes answered))
    own-sends (own.Reader i n r answered) = own-reader-sends (w.readers i) w i n.0 r answered
    own-sends (own.Recover i n b members answers) = owes-send w _ (aside-all w _ (own-recover-aside w i n.0 b members answers))
    own-sends (own.Primary i) = owes-send w _ (aside-all w _ (own-primary-aside w i))

    where-held : (test : Bool) (v : World) → HeldIn v → IfSome (where_so test v) HeldIn
    where-held true v h = h
    where-held false v h = tt

    lost-held : (c : ℕ) (way : Direction) (more : ℕ) → HeldIn (lost w c way more)
    lost-held c direction.Down more = f.held
    lost-held c direction.Up more = f.held

    outcome-held : (e : Event) → IfSome (outcome w e) HeldIn
    unfolding outcome restart
    outcome-held (event.Own s) = changed-held H w _ (knows w f) (own-sends s)
    outcome-held (event.Office c) = changed-held H w _ (knows w f) (owes-send w _ (aside-all w _ (office-aside w c)))
    outcome-held (event.Down c answered) = down-held c.0 answered false
    outcome-held (event.Ready c) = ready-held c.0 false
    outcome-held (event.Up c) = up-held c.0 false
    outcome-held (event.Lost c way more) = where-held (nat_lt c.0 w.next_conn) (lost w c.0 way more) (lost-held c.0 way more)
    outcome-held (event.Fault d) = fault-held d
    outcome-held (event.Stop n) = where-held (w.running n.0) (stop w n.0) f.held
    outcome-held (event.Restart n list) = where-held (nat_lt n.0 w.nodes && not (w.running n.0)) (restart w n.0 list) f.held

    after-held : (e : Event) (o : Option World) → IfSome o HeldIn → HeldIn (after_event w e o)
    after-held e None h = f.held
    after-held e (Some v) h = h

    happens-held : (e : Event) → HeldIn (happens w e)
    unfolding happens
    happens-held e = after-held e (outcome w e) (outcome-held e)

-- what stays true of each packet
weaker : (H G : ℕ → ℕ → Packet → Type 0) (v : World) → ((n b : ℕ) (p : Packet) → H n b p → G n b p) → HeldIn H v → HeldIn G v
weaker H G v g h i c read a = let x = h i c read a in record { block = x.block; packets = λ k p e. g _ _ p (x.packets k p e) }

module _ (nodes : ℕ) where
  -- the replica had the bytes after some of these events
  abbrev Was : List Event → ℕ → ℕ → Packet → Type 0
  Was events n b p = WasHeld nodes events n b p

  was-later : (events more : List Event) (n b : ℕ) (p : Packet) → Was events n b p → Was (events ++ more) n b p
  was-later events more n b p h = record {
    before = h.before;
    rest = h.rest ++ more;
    joins = sym (append_assoc h.before h.rest more) ∙ ap (λ (es : List Event). es ++ more) h.joins;
    there = h.there;
  }

  was-now : (events : List Event) (n b : ℕ) (s : ServingState) → s.at < 2 ^ 63 → length (piece_of ((run (start nodes) events).replicas n b) s) ≡ piece_len s → Was events n b (packet_of s (piece_of ((run (start nodes) events).replicas n b) s))
  unfolding packet_of
  was-now events n b s small whole = record {
    before = events;
    rest = [];
    joins = append-nil events;
    there = ap (λ (m : ℕ). take m (drop (nat_abs (cast_signed w64 s.at)) bytes)) whole ∙ ap (λ z. take (piece_len s) (drop (nat_abs z) bytes)) (cast-small s.at small);
  }
    where
      bytes : List ℕ
      bytes = ((run (start nodes) events).replicas n b).bytes

  facts : (events : List Event) → HeldIn (Was events) (run (start nodes) events) → Facts (Was events) (run (start nodes) events)
  facts events h = record {
    placed = all-placed nodes events;
    ordered = all-ordered nodes events;
    limited = all-limited nodes events;
    read = all-reads nodes events;
    now = was-now events;
    held = h;
  }

  one-more : (events : List Event) (e : Event) → HeldIn (Was events) (run (start nodes) events) → HeldIn (Was (events ++ e ∷ [])) (run (start nodes) (events ++ e ∷ []))
  one-more events e h =
      subst (λ (v : World). HeldIn (Was (events ++ e ∷ [])) v) (sym (runs-end (start nodes) events e))
      (weaker (Was events) (Was (events ++ e ∷ [])) (happens (run (start nodes) events) e) (was-later events (e ∷ [])) (happens-held (Was events) (run (start nodes) events) (facts events h) e))

  run-held : (events more : List Event) → HeldIn (Was events) (run (start nodes) events) → HeldIn (Was (events ++ more)) (run (start nodes) (events ++ more))
  run-held events [] h = subst (λ (es : List Event). HeldIn (Was es) (run (start nodes) es)) (sym (append-nil events)) h
  run-held events (e ∷ more) h =
      subst (λ (es : List Event). HeldIn (Was es) (run (start nodes) es)) (append_assoc events (e ∷ []) more) (run-held (events ++ e ∷ []) more (one-more events e h))

  start-held : HeldIn (Was []) (start nodes)
  unfolding start
  start-held i c read a = absurd (omega (arith, a.known))

pub all-held : AllHeld
all-held nodes events i c k read p a e = (run-held nodes [] events (start-held nodes) i c read a).packets k p e
