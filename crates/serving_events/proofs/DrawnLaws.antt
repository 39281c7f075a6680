-- What the events of nodes that serve reads make of the world, and what they send and shut.
use Rattle.std.proofs.Common.{◌≡◌, ℕ, Bool, true, false, List, [], ◌∷◌, ◌++◌, Option, Some, None, Result, Ok, Err, refl, sym, ap, ◌∙◌, subst}
use Rattle.std.specs.Prelude.{◌==◌, ◌-◌, ◌||◌, ◌&&◌, cond, nat_le, slice_get, option_map, if◌then◌else◌}
use Rattle.std.proofs.lemmas.Bool.{eqb-true}
use Rattle.std.proofs.lemmas.List.{append-nil}
use Rattle.road_traffic.proofs.TrafficLemmas.{same-itself}
use Rattle.hd_base.specs.declared.numbers.ConnId.{ConnId}
use Rattle.op_headers.specs.declared.ops.ReadOp.{ReadOp}
use Rattle.packet_codec.specs.declared.packets.Packet.{Packet}
use Rattle.replica_core.specs.declared.events.Event.{Event}
use Rattle.request_refusals.specs.declared.refusals.RequestRefusal.{RequestRefusal}
use Rattle.visible_read.specs.ReadCore.Servings.{ServingState, read_event, next_call}
use Rattle.visible_read.specs.Answers.{answering}
use Rattle.member_events.specs.World.Delivery.TheVariants as delivery
use Rattle.member_events.specs.World.Event.TheVariants as event
use Rattle.member_events.specs.World.Parts.{Message, response, Lower, idle, serves}
use Rattle.member_events.specs.World.Worlds.{World, Change, Dial, dial_at, listed, apply}
use Rattle.member_events.specs.World.Connections.{Next, down_taken, is_served, sent_on, is_conn}
use Rattle.member_events.specs.World.Nodes.{lower_down, lower_ready, serve_change, failing_read, closing, breaking, read_change, piece_as}
use Rattle.member_events.specs.World.Events.{outcome, changed, down_as, down_event}
use Rattle.member_events.specs.WorldNets.Changes.{sent_in, sent_by}
use Rattle.member_events.specs.WorldNets.Drawn.{ComesDown}
use Rattle.member_events.specs.WorldNets.Flushing.{lower_flush}
use Rattle.member_events.specs.WorldNets.Steps.{SendsBy}
use Rattle.member_events.proofs.WorldNets.ChangeLemmas.{flip-false}
use Rattle.serving_events.specs.Drawn.{read_next, block_of, answers_read, breaks_read, sends_packet, breaks_packet, RequestMakes, PacketMakes, is_refused, is_early, packet_sent, ReadSends}

-- EVENTS

down_by : (w : World) (c : ℕ) (answered fails : Bool) (x : Next) (l : Lower) → ComesDown w c x → w.lowers c ≡ l → down_event w c answered fails ≡ changed (down_taken w c x) (lower_down l (down_taken w c x) c x answered fails)
down_by w c answered fails x l k e =
    (λ j. if k.served j then down_as w c answered fails (k.next j) else None)
    ∙ ap (λ (m : Lower). changed (down_taken w c x) (lower_down m (down_taken w c x) c x answered fails)) e

request_answered : (w : World) (conn : ConnId) (r : ReadOp) (answered : Bool) → ComesDown w conn.0 (read_next r) → w.lowers conn.0 ≡ idle
    → outcome w (event.Down conn answered) ≡ Some (apply (down_taken w conn.0 (read_next r)) (answers_read (down_taken w conn.0 (read_next r)) conn.0 r))
unfolding outcome
request_answered w conn r answered k e = down_by w conn.0 answered false (read_next r) idle k e

request_faulted : (w : World) (conn : ConnId) (r : ReadOp) (x : Event) → ComesDown w conn.0 (read_next r) → w.lowers conn.0 ≡ idle → read_event r ≡ Ok x
    → outcome w (event.Fault (delivery.Down conn)) ≡ Some (apply (down_taken w conn.0 (read_next r)) (breaks_read (down_taken w conn.0 (read_next r)) conn.0 r x))
unfolding outcome
request_faulted w conn r x k e is =
    let w1 : World = down_taken w conn.0 (read_next r) in
    down_by w conn.0 false true (read_next r) idle k e
    ∙ ap (λ (z : Result Event RequestRefusal). changed w1 (failing_read w1 conn.0 (block_of r) z)) is

pub request_makes : (w : World) (conn : ConnId) (r : ReadOp) → ComesDown w conn.0 (read_next r) → w.lowers conn.0 ≡ idle → RequestMakes w conn r
request_makes w conn r k e = record {
  answered = λ answered. request_answered w conn r answered k e;
  faulted = λ x is. request_faulted w conn r x k e is;
}

packet_sends : (w : World) (conn : ConnId) (b : ℕ) (s : ServingState) (x : Event) → is_served w conn.0 ≡ true → w.lowers conn.0 ≡ serves b s → next_call s ≡ Some x
    → outcome w (event.Ready conn) ≡ Some (apply w (sends_packet w conn.0 b s))
unfolding outcome
packet_sends w conn b s x served e call =
    (λ j. if served j then changed w (lower_ready (e j) w conn.0 false) else None)
    ∙ ap (λ (z : Option Event). changed w (serve_change w conn.0 b s z false)) call

packet_faulted : (w : World) (conn : ConnId) (b : ℕ) (s : ServingState) (x : Event) → is_served w conn.0 ≡ true → w.lowers conn.0 ≡ serves b s → next_call s ≡ Some x
    → outcome w (event.Fault (delivery.Ready conn)) ≡ Some (apply w (breaks_packet w conn.0 b x))
unfolding outcome
packet_faulted w conn b s x served e call =
    (λ j. if served j then changed w (lower_ready (e j) w conn.0 true) else None)
    ∙ ap (λ (z : Option Event). changed w (serve_change w conn.0 b s z true)) call

pub packet_makes : (w : World) (conn : ConnId) (b : ℕ) (s : ServingState) (x : Event) → is_served w conn.0 ≡ true → w.lowers conn.0 ≡ serves b s → next_call s ≡ Some x → PacketMakes w conn b s x
packet_makes w conn b s x served e call = record { sent = packet_sends w conn b s x served e call; faulted = packet_faulted w conn b s x served e call }

pub end_makes : (w : World) (conn : ConnId) (answered : Bool) (x : Next) (b : ℕ) (s : ServingState) → ComesDown w conn.0 x → w.lowers conn.0 ≡ serves b s
    → outcome w (event.Down conn answered) ≡ Some (apply (down_taken w conn.0 x) (closing (down_taken w conn.0 x) conn.0))
unfolding outcome
end_makes w conn answered x b s k e = down_by w conn.0 answered false x (serves b s) k e

-- WHAT IS SENT AND SHUT

no_request : (next x : ℕ) (dials : List Dial) → dials ≡ [] → listed (option_map (λ (d : Dial). d.request) (dial_at next dials x)) ≡ []
no_request next x dials none = ap (λ (ds : List Dial). listed (option_map (λ (d : Dial). d.request) (dial_at next ds x))) none ∙ nothing_at (nat_le next x) (x - next)
  where
    nothing_at : (b : Bool) (n : ℕ) → listed (option_map (λ (d : Dial). d.request) (if b then slice_get [] n else None)) ≡ []
    nothing_at true n = refl
    nothing_at false n = refl

flip : (a b : ℕ) → (a == b) ≡ (b == a)
flip a b =
    elim (a == b) as (λ (v : Bool). (a == b) ≡ v → v ≡ (b == a)) [
      | true ↦ λ e. sym (subst (λ (n : ℕ). (n == a) ≡ true) (eqb-true a b e) (same-itself a))
      | false ↦ λ e. sym (flip-false a b e)
    ] refl

sent_there : (b a : Bool) (ms : List Message) → b ≡ a → cond (b && true) ms [] ++ [] ≡ (if a then ms else [])
sent_there true true ms e = append-nil ms
sent_there true false ms e = cc
sent_there false true ms e = cc
sent_there false false ms e = refl

sent_back : (b : Bool) (ms : List Message) → cond (b && false) ms [] ++ [] ≡ []
sent_back true ms = refl
sent_back false ms = refl

shuts_here : (b a : Bool) → b ≡ a → a ≡ ((b && true) || false)
shuts_here true true e = refl
shuts_here true false e = cc
shuts_here false true e = cc
shuts_here false false e = refl

shuts_none : (b : Bool) → false ≡ ((b && false) || false)
shuts_none true = refl
shuts_none false = refl

-- which connections are shut where the lower end of one is, or isn't
abbrev shut_one : Bool → ℕ → ℕ → Bool
shut_one true c x = is_conn (Some c) x
shut_one false c x = false

one_shut : (shut : Bool) (c x : ℕ) → shut_one shut c x ≡ (((c == x) && shut) || false)
one_shut true c x = shuts_here (c == x) (x == c) (flip c x)
one_shut false c x = shuts_none (c == x)

-- A change without dials that sends only up on one connection, and shuts that one or none.
lower_sends : (w : World) (k : Change) (c : ℕ) (shut : Bool) (ms : List Message) → k.dials ≡ [] → ((x : ℕ) → k.downs x ≡ []) → ((x : ℕ) → k.ups x ≡ sent_on (Some c) ms x) → ((x : ℕ) → k.shuts x ≡ shut_one shut c x)
    → SendsBy w k (lower_flush c shut ms ∷ [])
lower_sends w k c shut ms none downs ups shuts = record {
  none = none;
  changes = record {
    sends = sends;
    shuts = λ x. shuts x ∙ one_shut shut c x;
    apart = (tt, tt);
  };
}
  where
    sends : (x : ℕ) (d : Bool) → sent_in w k x d ≡ sent_by (lower_flush c shut ms ∷ []) x d
    sends x true =
        ap (λ (l : List Message). k.downs x ++ l) (no_request w.next_conn x k.dials none)
        ∙ (append-nil (k.downs x) ∙ (downs x ∙ sym (sent_back (c == x) ms)))
    sends x false = ups x ∙ sym (sent_there (c == x) (x == c) ms (flip c x))

answers_by : (w : World) (c b : ℕ) (x : Result ServingState RequestRefusal) → SendsBy w (read_change w c b x) (lower_flush c (is_refused x) (response (answering x) ∷ []) ∷ [])
answers_by w c b (Ok s) = lower_sends w (read_change w c b (Ok s)) c false (response (answering (Ok s)) ∷ []) refl (λ y. refl) (λ y. refl) (λ y. refl)
answers_by w c b (Err why) = lower_sends w (read_change w c b (Err why)) c true (response (answering (Err why)) ∷ []) refl (λ y. refl) (λ y. refl) (λ y. refl)

nothing_on : (c x : ℕ) → [] ≡ sent_on (Some c) [] x
nothing_on c x = go (x == c)
  where
    go : (b : Bool) → ◌≡◌ {A = List Message} [] (if b then [] else [])
    go true = refl
    go false = refl

sends_by : (w : World) (c b : ℕ) (s : ServingState) (p : Option Packet) → SendsBy w (piece_as w c b s p) (lower_flush c (is_early p) (packet_sent p) ∷ [])
sends_by w c b s None = lower_sends w (closing w c) c true [] refl (λ y. refl) (λ y. nothing_on c y) (λ y. refl)
sends_by w c b s (Some p) = lower_sends w (piece_as w c b s (Some p)) c false (packet_sent (Some p)) refl (λ y. refl) (λ y. refl) (λ y. refl)

pub read_sends : (w : World) (c b : ℕ) → ReadSends w c b
read_sends w c b = record {
  answers = λ x. answers_by w c b x;
  sends = λ p. sends_by w c b p.serving p.packet;
  breaks = λ r e ms. lower_sends w (breaking w c b r e ms) c true ms refl (λ y. refl) (λ y. refl) (λ y. refl);
}
