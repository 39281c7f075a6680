-- What the events of readers make of the world, and what readers send and shut.
use Rattle.std.proofs.Common.{◌≡◌, ℕ, Bool, true, false, List, [], ◌∷◌, ◌++◌, Some, None, refl, sym, ap, ◌∙◌, subst}
use Rattle.std.specs.Prelude.{◌==◌, ◌-◌, ◌||◌, ◌&&◌, cond, nat_le, slice_get, option_map, if◌then◌else◌}
use Rattle.std.proofs.lemmas.Bool.{eqb-true}
use Rattle.std.proofs.lemmas.List.{append-nil}
use Rattle.hd_base.specs.declared.numbers.ConnId.{ConnId}
use Rattle.hd_base.specs.declared.numbers.NodeId.{NodeId}
use Rattle.hd_base.specs.declared.states.Status.TheVariants as status
use Rattle.op_headers.specs.declared.ops.ReadOp.{ReadOp}
use Rattle.read_core.specs.declared.reading.ReadTurn.{ReadTurn}
use Rattle.read_core.specs.declared.reading.ReadTurn.TheVariants as turn
use Rattle.read_core.specs.Readings.{ReadingState, ReadTaken}
use Rattle.road_traffic.proofs.TrafficLemmas.{same-itself}
use Rattle.world_settling.specs.World.Event.TheVariants as event
use Rattle.world_settling.specs.World.Parts.{Message, read_status, Reader, no_reader}
use Rattle.world_settling.specs.World.Worlds.{World, Change, Dial, dial_at, listed, apply}
use Rattle.world_settling.specs.World.Connections.{Next, up_taken, sent_on, is_conn}
use Rattle.world_settling.specs.World.Clients.{reader_dials, own_reader_as, reader_turn, reader_up_as}
use Rattle.world_settling.specs.World.Events.{outcome, changed, up_as, up_event, upper_up}
use Rattle.world_settling.specs.WorldNets.Changes.{sent_in, sent_by}
use Rattle.world_settling.specs.WorldNets.Dials.{DialsBy}
use Rattle.world_settling.specs.WorldNets.Drawn.{ComesUp}
use Rattle.world_settling.specs.WorldNets.Flushing.{upper_flushes}
use Rattle.world_settling.specs.WorldNets.Steps.{ChangesBy, SendsBy}
use Rattle.world_settling.proofs.WorldNets.FlushingLemmas.{other-number, add-dial}
use Rattle.reader_events.specs.Making.{asks_event, HearsNode, takes_next, ReadersMake, turn_flushes, reader_dial, ReadersSend}

-- EVENTS

up-by : (w : World) (c : ℕ) (x : Next) → ComesUp w c x → up_event w c false ≡ changed (up_taken w c x) (upper_up (w.dialled c).upper (up_taken w c x) c x false)
up-by w c x k = λ j. if k.known j then up_as w c false (k.next j) else None

pub hears-makes : (w : World) (conn : ConnId) (line : ℕ) (s : ReadingState) (x : Next) → ComesUp w conn.0 x → HearsNode w conn.0 line s
    → outcome w (event.Up conn) ≡ Some (apply (up_taken w conn.0 x) (takes_next (up_taken w conn.0 x) line conn.0 s x))
unfolding outcome up_taken
hears-makes w conn line s x k h =
    up-by w conn.0 x k
    ∙ ((λ j. changed (up_taken w conn.0 x) (upper_up (h.upper j) (up_taken w conn.0 x) conn.0 x false))
    ∙ ((λ j. changed (up_taken w conn.0 x) (reader_up_as (h.reader j) (up_taken w conn.0 x) line conn.0 x))
    ∙ (λ j. changed (up_taken w conn.0 x) (if same-itself conn.0 j then Some (takes_next (up_taken w conn.0 x) line conn.0 s x) else None))))

pub asks-makes : (w : World) (line : ℕ) (node : NodeId) (read : ReadOp) (answered : Bool) → w.readers line ≡ no_reader
    → outcome w (asks_event line node read answered) ≡ Some (apply w (reader_dials w line node.0 read (answered && w.running node.0)))
unfolding outcome
asks-makes w line node read answered new = ap (λ (r : Reader). changed w (own_reader_as r w line node.0 read answered)) new

pub readers-make : ReadersMake
readers-make = record {
  hears = λ w conn line s x k h. hears-makes w conn line s x k h;
  asks = λ w line node read answered new. asks-makes w line node read answered new;
}

-- WHAT IS SENT

-- without dials no request is sent
no-request : (next x : ℕ) → listed (option_map (λ (d : Dial). d.request) (dial_at next [] x)) ≡ []
no-request next x = nothing-at (nat_le next x) (x - next)
  where
    nothing-at : (b : Bool) (n : ℕ) → listed (option_map (λ (d : Dial). d.request) (if b then slice_get [] n else None)) ≡ []
    nothing-at true n = refl
    nothing-at false n = refl

flip : (a b : ℕ) → (a == b) ≡ (b == a)
flip a b =
    elim (a == b) as (λ v. (a == b) ≡ v → v ≡ (b == a)) [
      | true ↦ λ e. sym (subst (λ n. (n == a) ≡ true) (eqb-true a b e) (same-itself a))
      | false ↦ λ e. sym (other-number b a (λ k. absurd (unlike a b e (sym k))))
    ] refl
  where
    unlike : (a b : ℕ) → (a == b) ≡ false → a ≡ b → ⊥
    unlike a b e k = let f : (a == a) ≡ false = subst (λ (n : ℕ). (a == n) ≡ false) (sym k) e in cc (same-itself a)

-- what an end sends on its own direction, and on the other
sent-there : (b a : Bool) (ms : List Message) → b ≡ a → (if a then ms else []) ≡ cond (b && true) ms [] ++ []
sent-there true true ms e = sym (append-nil ms)
sent-there true false ms e = cc
sent-there false true ms e = cc
sent-there false false ms e = refl

sent-back : (b : Bool) (ms : List Message) → [] ≡ cond (b && false) ms [] ++ []
sent-back true ms = refl
sent-back false ms = refl

shut-there : (b a : Bool) → b ≡ a → a ≡ ((b && true) || false)
shut-there true true e = refl
shut-there true false e = cc
shut-there false true e = cc
shut-there false false e = refl

nothing-sent : (c x : ℕ) → [] ≡ sent_on (Some c) [] x
nothing-sent c x = either (x == c)
  where
    either : (b : Bool) → ◌≡◌ {A = List Message} [] (if b then [] else [])
    either true = refl
    either false = refl

-- A change without dials that sends this down on a connection, and shuts it.
shut-sends : (w : World) (k : Change) (c : ℕ) (ms : List Message) → k.dials ≡ [] → ((x : ℕ) → k.downs x ≡ sent_on (Some c) ms x) → ((x : ℕ) → k.ups x ≡ []) → ((x : ℕ) → k.shuts x ≡ is_conn (Some c) x)
    → SendsBy w k (upper_flushes (Some c) true ms)
shut-sends w k c ms none downs ups shuts = record {
  none = none;
  changes = record { sends = sends; shuts = λ x. shuts x ∙ shut-there (c == x) (x == c) (flip c x); apart = (tt, tt) };
}
  where
    sends : (x : ℕ) (d : Bool) → sent_in w k x d ≡ sent_by (upper_flushes (Some c) true ms) x d
    sends x true =
        ap (λ (ds : List Dial). k.downs x ++ listed (option_map (λ (d : Dial). d.request) (dial_at w.next_conn ds x))) none
        ∙ (ap (λ (l : List Message). k.downs x ++ l) (no-request w.next_conn x) ∙ (append-nil (k.downs x) ∙ (downs x ∙ sent-there (c == x) (x == c) ms (flip c x))))
    sends x false = ups x ∙ sent-back (c == x) ms

-- A change that sends nothing, and shuts nothing.
quiet-sends : (w : World) (k : Change) → k.dials ≡ [] → ((x : ℕ) → k.downs x ≡ []) → ((x : ℕ) → k.ups x ≡ []) → ((x : ℕ) → k.shuts x ≡ false) → ChangesBy w k []
quiet-sends w k none downs ups shuts = record { sends = sends; shuts = shuts; apart = tt }
  where
    sends : (x : ℕ) (d : Bool) → sent_in w k x d ≡ sent_by [] x d
    sends x true =
        ap (λ (ds : List Dial). k.downs x ++ listed (option_map (λ (d : Dial). d.request) (dial_at w.next_conn ds x))) none
        ∙ (ap (λ (l : List Message). k.downs x ++ l) (no-request w.next_conn x) ∙ (append-nil (k.downs x) ∙ downs x))
    sends x false = ups x

pub turn-sends : (w : World) (line c : ℕ) (t : ReadTaken) (does : ReadTurn) → SendsBy w (reader_turn w line c t does) (turn_flushes c does)
turn-sends w line c t turn.Goes = record { none = refl; changes = quiet-sends w (reader_turn w line c t turn.Goes) refl (λ x. refl) (λ x. refl) (λ x. refl) }
turn-sends w line c t turn.Verified = shut-sends w (reader_turn w line c t turn.Verified) c (read_status status.ChecksumOk ∷ []) refl (λ x. refl) (λ x. refl) (λ x. refl)
turn-sends w line c t (turn.Fails why) = shut-sends w (reader_turn w line c t (turn.Fails why)) c [] refl (λ x. nothing-sent c x) (λ x. refl) (λ x. refl)

pub dial-sends : (w : World) (line : ℕ) (node : NodeId) (read : ReadOp) → DialsBy w (reader_dials w line node.0 read true) (reader_dial w line node read) []
dial-sends w line node read =
    add-dial w (reader_dials w line node.0 read true) (reader_dial w line node read) [] refl tt
    (quiet-sends w (record (reader_dials w line node.0 read true) { dials = [] }) refl (λ x. refl) (λ x. refl) (λ x. refl))

pub unanswered-sends : (w : World) (line : ℕ) (node : NodeId) (read : ReadOp) → SendsBy w (reader_dials w line node.0 read false) []
unanswered-sends w line node read = record { none = refl; changes = quiet-sends w (reader_dials w line node.0 read false) refl (λ x. refl) (λ x. refl) (λ x. refl) }

pub readers-send : ReadersSend
readers-send = record {
  turns = λ w line c t does. turn-sends w line c t does;
  dials = λ w line node read. dial-sends w line node read;
  unanswered = λ w line node read. unanswered-sends w line node read;
}
