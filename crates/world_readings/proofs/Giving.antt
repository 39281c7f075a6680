-- How far a reader is with what its node has sent, and what it makes of what stands next.
use Rattle.std.proofs.Common.{◌≡◌, ℕ, zero, suc, ◌-◌, ◌<◌, ◌≤◌, Bool, true, false, List, [], ◌∷◌, ◌++◌, length, take, drop, slice_get, Some, refl, sym, ap, ◌∙◌, subst, arith, append-nil, append_assoc}
use Rattle.std.specs.Prelude.{◌==◌, if◌then◌else◌}
use Rattle.std.proofs.lemmas.Bool.Decides.{nat_tests}
use Rattle.std.proofs.lemmas.List.{take-append-drop, take-append-le}
use Rattle.std.proofs.lemmas.Option.{none-some, same_Some}
use Rattle.op_headers.specs.declared.ops.ReadOp.{ReadOp}
use Rattle.request_refusals.specs.declared.refusals.RequestRefusal.{RequestRefusal}
use Rattle.request_refusals.specs.Texts.{refusal_text}
use Rattle.read_core.specs.declared.reading.FromNode.TheVariants as from_node
use Rattle.read_core.specs.declared.reading.ReadFault.TheVariants as fault
use Rattle.read_core.specs.declared.reading.ReadTurn.TheVariants as turn
use Rattle.read_core.specs.declared.serving.ServePhase.{ServePhase}
use Rattle.read_core.specs.declared.serving.ServePhase.TheVariants as phase
use Rattle.read_core.specs.Laws.{after}
use Rattle.read_core.specs.Readings.{ReadingState, asked, take_from}
use Rattle.read_core.specs.Servings.{ServingState, piece_len, packet_of, gone_on, sent_in, sent, accepting, refusing}
use Rattle.world.specs.Parts.{Message, packet, response, Lower, idle, writes, serves, recovers, ended_below}
use Rattle.world.specs.Connections.{Next, message, the_end}
use Rattle.world.specs.Clients.{from_node_of}
use Rattle.world_readings.specs.Results.{body_of, bodies}
use Rattle.world_readings.proofs.Serving.{IsServing, gone-serving, equal}
use Rattle.world_readings.proofs.Hearing.{IsReading, answer-taken, refusal-taken, end-first, end-taken, wanted-more, piece-goes, piece-ends}

-- WHAT A NODE SENDS

-- one packet of a read in this state
pub record IsPiece (s : ServingState) (m : Message) : Type 0 where
  pub body : List ℕ
  pub is : m ≡ packet (packet_of s body)
  pub sending : s.phase ≡ phase.Sending
  pub whole : length body ≡ piece_len s

-- the answer of a read that begins so, and its packets
pub record Gives (read : ReadOp) (start : ServingState) (ups : List Message) : Type 0 where
  pub serving : IsServing read start
  pub fresh : start.at ≡ start.from
  pub begins : start.phase ≡ phase.Sending
  pub first : slice_get ups 0 ≡ Some (response (accepting start))
  pub pieces : (k : ℕ) (m : Message) → slice_get ups (suc k) ≡ Some m → IsPiece (after start k) m

pub data Says (read : ReadOp) (start : ServingState) (ups : List Message) : Type 0 where
  nothing : ups ≡ [] → Says read start ups
  refuses : (f : RequestRefusal) → ups ≡ response (refusing f) ∷ [] → Says read start ups
  gives : Gives read start ups → Says read start ups

-- the serving is as far as what was sent
pub record Serves (read : ReadOp) (start : ServingState) (ups : List Message) (s : ServingState) : Type 0 where
  pub given : Gives read start ups
  pub count : ℕ
  pub all : length ups ≡ suc count
  pub is : s ≡ after start count

-- the lower end of a reader's connection
abbrev pub Below : ReadOp → ServingState → List Message → Lower → Type 0
Below read start ups idle = ups ≡ []
Below read start ups (writes m) = ⊥
Below read start ups (serves b s) = Serves read start ups s
Below read start ups recovers = ⊥
Below read start ups ended_below = Says read start ups

pub says-below : (read : ReadOp) (start : ServingState) (ups : List Message) (l : Lower) → Below read start ups l → Says read start ups
says-below read start ups idle h = nothing h
says-below read start ups (writes m) h = absurd h
says-below read start ups (serves b s) h = gives h.given
says-below read start ups recovers h = absurd h
says-below read start ups ended_below h = h

-- WHAT A READER HAS TAKEN

pub data HasTaken (read : ReadOp) (start : ServingState) (r : ReadingState) (taken : ℕ) (ups : List Message) : Type 0 where
  awaits : taken ≡ 0 → r ≡ asked read → HasTaken read start r taken ups
  receives : (n : ℕ) → taken ≡ suc n → taken ≤ length ups → (after start n).phase ≡ phase.Sending →
      IsReading read r (after start n) (bodies (take taken ups)) → HasTaken read start r taken ups

-- more is sent
pub taken-more : (read : ReadOp) (start : ServingState) (r : ReadingState) (taken : ℕ) (ups more : List Message) → HasTaken read start r taken ups → HasTaken read start r taken (ups ++ more)
taken-more read start r taken ups more (awaits z e) = awaits z e
taken-more read start r taken ups more (receives n e le p h) =
    receives n e (omega (arith, le, grown ups more)) p (subst (λ (ms : List Message). IsReading read r (after start n) (bodies ms)) (sym (take-append-le taken ups more le)) h)
  where
    grown : (xs ys : List Message) → length xs ≤ length (xs ++ ys)
    grown [] ys = omega arith
    grown (x ∷ xs) ys = omega (arith, grown xs ys)

-- nothing was sent yet
pub taken-none : (read : ReadOp) (start other : ServingState) (r : ReadingState) (taken : ℕ) (ups more : List Message) → ups ≡ [] → HasTaken read start r taken ups → HasTaken read other r taken more
taken-none read start other r taken ups more none (awaits z e) = awaits z e
taken-none read start other r taken ups more none (receives n e le p h) = absurd (omega (arith, e, le, ap length none))

-- BODIES

bodies-append : (xs ys : List Message) → bodies (xs ++ ys) ≡ bodies xs ++ bodies ys
bodies-append [] ys = refl
bodies-append (x ∷ xs) ys = ap (λ (bs : List ℕ). body_of x ++ bs) (bodies-append xs ys) ∙ sym (append_assoc (body_of x) (bodies xs) (bodies ys))

bodies-next : (ups : List Message) (n : ℕ) (m : Message) → slice_get ups n ≡ Some m → bodies (take (suc n) ups) ≡ bodies (take n ups) ++ body_of m
bodies-next [] n m e = absurd (none-some m e)
bodies-next (x ∷ ups) zero m e = append-nil (body_of x) ∙ ap body_of (same_Some x m e)
bodies-next (x ∷ ups) (suc n) m e = ap (λ (bs : List ℕ). body_of x ++ bs) (bodies-next ups n m e) ∙ sym (append_assoc (body_of x) (bodies (take n ups)) (body_of m))

-- as many bytes as are wanted stay the same with more behind them
wanted-stays : (len k : ℕ) (front more : List ℕ) → length (take len (drop k front)) ≡ len → take len (drop k (front ++ more)) ≡ take len (drop k front)
wanted-stays len k front more all =
    let none : len - length (take len (drop k front)) ≡ 0 = omega (arith, all) in
    sym (wanted-more len k front more) ∙ ap (λ (n : ℕ). take len (drop k front) ++ take n (drop (k - length front) more)) none ∙ append-nil (take len (drop k front))

pub bodies-stay : (len k : ℕ) (ups more : List Message) (bytes : List ℕ) → length bytes ≡ len → take len (drop k (bodies ups)) ≡ bytes → take len (drop k (bodies (ups ++ more))) ≡ bytes
bodies-stay len k ups more bytes all e =
    ap (λ (bs : List ℕ). take len (drop k bs)) (bodies-append ups more) ∙ wanted-stays len k (bodies ups) (bodies more) (ap length e ∙ all) ∙ e

-- STATES

sent-serving : (read : ReadOp) (p : ServePhase) (s : ServingState) → IsServing read s → IsServing read (sent_in p s)
sent-serving read phase.Sending s h = gone-serving read s h
sent-serving read phase.Awaiting s h = h
sent-serving read phase.Over s h = h

pub after-serving : (read : ReadOp) (s : ServingState) (n : ℕ) → IsServing read s → IsServing read (after s n)
after-serving read s zero h = h
after-serving read s (suc n) h = sent-serving read (after s n).phase (after s n) (after-serving read s n h)

sent-from : (p : ServePhase) (s : ServingState) → (sent_in p s).from ≡ s.from
unfolding gone_on
sent-from phase.Sending s = refl
sent-from phase.Awaiting s = refl
sent-from phase.Over s = refl

after-from : (s : ServingState) (n : ℕ) → (after s n).from ≡ s.from
after-from s zero = refl
after-from s (suc n) = sent-from (after s n).phase (after s n) ∙ after-from s n

goes-on : (s : ServingState) → s.phase ≡ phase.Sending → sent s ≡ gone_on s
goes-on s e = ap (λ (p : ServePhase). sent_in p s) e

gone-sends : (s : ServingState) → 0 < piece_len s → (gone_on s).phase ≡ phase.Sending
unfolding gone_on
gone-sends s some = go (piece_len s == 0) refl
  where
    go : (b : Bool) → (piece_len s == 0) ≡ b → (if b then phase.Awaiting else phase.Sending) ≡ phase.Sending
    go true e = absurd (omega (arith, equal (piece_len s) 0 e, some))
    go false e = refl

-- WHAT STANDS NEXT

-- this stands next on a connection on which so much was taken
abbrev pub Stands : List Message → ℕ → Next → Type 0
Stands ups taken (message m) = slice_get ups taken ≡ Some m
Stands ups taken the_end = Unit {0}

-- What a reader comes to that takes this: it goes on, has all bytes, is refused, or ends.
pub data Hears (read : ReadOp) (start : ServingState) (r : ReadingState) (taken : ℕ) (ups : List Message) (x : Next) : Type 0 where
  goes : (m : Message) → x ≡ message m → (take_from r (from_node_of x)).does ≡ turn.Goes →
      HasTaken read start (take_from r (from_node_of x)).reading (suc taken) ups → Hears read start r taken ups x
  verifies : (m : Message) → x ≡ message m → (take_from r (from_node_of x)).does ≡ turn.Verified → Gives read start ups →
      length (take_from r (from_node_of x)).reading.bytes ≡ read.len →
      take read.len (drop (read.offset - start.from) (bodies ups)) ≡ (take_from r (from_node_of x)).reading.bytes →
      Hears read start r taken ups x
  is_refused : (m : Message) → x ≡ message m → (f : RequestRefusal) → (take_from r (from_node_of x)).does ≡ turn.Fails (fault.Refused (refusal_text f)) →
      slice_get ups 0 ≡ Some (response (refusing f)) → Hears read start r taken ups x
  ends : x ≡ the_end → (take_from r (from_node_of x)).does ≡ turn.Fails fault.Ended → Hears read start r taken ups x

pub get-within : (xs : List Message) (n : ℕ) (m : Message) → slice_get xs n ≡ Some m → suc n ≤ length xs
get-within [] n m e = absurd (none-some m e)
get-within (x ∷ xs) zero m e = omega arith
get-within (x ∷ xs) (suc n) m e = omega (arith, get-within xs n m e)

take-first : (xs : List Message) (m : Message) → slice_get xs 0 ≡ Some m → take 1 xs ≡ m ∷ []
take-first [] m e = absurd (none-some m e)
take-first (x ∷ xs) m e = ap (λ (y : Message). y ∷ []) (same_Some x m e)

piece-body : (s : ServingState) (body : List ℕ) → body_of (packet (packet_of s body)) ≡ body
unfolding packet_of
piece-body s body = refl

module _ (read : ReadOp) (start : ServingState) (ups : List Message) where
  -- the first message
  first-heard : (m : Message) → slice_get ups 0 ≡ Some m → Says read start ups → Hears read start (asked read) 0 ups (message m)
  first-heard m e (nothing none) = absurd (none-some m (subst (λ (ms : List Message). slice_get ms 0 ≡ Some m) none e))
  first-heard m e (refuses f is) =
      let same : response (refusing f) ≡ m = same_Some (response (refusing f)) m (subst (λ (ms : List Message). slice_get ms 0 ≡ Some m) is e) in
      subst (λ (y : Message). Hears read start (asked read) 0 ups (message y)) same (is_refused (response (refusing f)) refl f (refusal-taken read f) (ap (λ (ms : List Message). slice_get ms 0) is))
  first-heard m e (gives g) =
      let same : response (accepting start) ≡ m = same_Some (response (accepting start)) m (sym g.first ∙ e) in
      let t = answer-taken read start g.serving g.fresh in
      let one : bodies (take 1 ups) ≡ [] = ap bodies (take-first ups (response (accepting start)) g.first) in
      subst (λ (y : Message). Hears read start (asked read) 0 ups (message y)) same
      (goes (response (accepting start)) refl t.0 (receives 0 refl (get-within ups 0 m e) g.begins (subst (λ (bs : List ℕ). IsReading read (take_from (asked read) (from_node.Response (accepting start))).reading start bs) (sym one) t.1)))

  -- a packet
  piece-heard : (r : ReadingState) (n : ℕ) (m : Message) → slice_get ups (suc n) ≡ Some m → Gives read start ups → IsReading read r (after start n) (bodies (take (suc n) ups)) → IsPiece (after start n) m → Hears read start r (suc n) ups (message m)
  piece-heard r n m e g h p = subst (λ (y : Message). Hears read start r (suc n) ups (message y)) (sym p.is) (go (piece_len (after start n) == 0) refl)
    where
      serving : IsServing read (after start n)
      serving = after-serving read start n g.serving

      next : bodies (take (suc (suc n)) ups) ≡ bodies (take (suc n) ups) ++ p.body
      next = bodies-next ups (suc n) m e ∙ ap (λ (y : Message). bodies (take (suc n) ups) ++ body_of y) p.is ∙ ap (λ (bs : List ℕ). bodies (take (suc n) ups) ++ bs) (piece-body (after start n) p.body)

      ended : piece_len (after start n) ≡ 0 → Hears read start r (suc n) ups (message (packet (packet_of (after start n) p.body)))
      ended none =
          let t = piece-ends read r (after start n) (bodies (take (suc n) ups)) p.body serving h p.whole none in
          let k : ℕ = read.offset - start.from in
          let from : read.offset - (after start n).from ≡ k = ap (λ (x : ℕ). read.offset - x) (after-from start n) in
          let taken : take read.len (drop k (bodies (take (suc (suc n)) ups))) ≡ _ = ap (λ (bs : List ℕ). take read.len (drop k bs)) next ∙ ap (λ (x : ℕ). take read.len (drop x (bodies (take (suc n) ups) ++ p.body))) (sym from) ∙ t.1 in
          let all = bodies-stay read.len k (take (suc (suc n)) ups) (drop (suc (suc n)) ups) _ t.2 taken in
          verifies (packet (packet_of (after start n) p.body)) refl t.0 g t.2 (subst (λ (ms : List Message). take read.len (drop k (bodies ms)) ≡ (take_from r (from_node.Packet (packet_of (after start n) p.body))).reading.bytes) (take-append-drop (suc (suc n)) ups) all)

      goes-with : 0 < piece_len (after start n) → Hears read start r (suc n) ups (message (packet (packet_of (after start n) p.body)))
      goes-with some =
          let t = piece-goes read r (after start n) (bodies (take (suc n) ups)) p.body serving h p.whole some in
          let on : gone_on (after start n) ≡ after start (suc n) = sym (goes-on (after start n) p.sending) in
          goes (packet (packet_of (after start n) p.body)) refl t.0
          (receives (suc n) refl (get-within ups (suc n) m e) (subst (λ (u : ServingState). u.phase ≡ phase.Sending) on (gone-sends (after start n) some))
          (subst (λ (u : ServingState). IsReading read (take_from r (from_node.Packet (packet_of (after start n) p.body))).reading u (bodies (take (suc (suc n)) ups))) on
          (subst (λ (bs : List ℕ). IsReading read (take_from r (from_node.Packet (packet_of (after start n) p.body))).reading (gone_on (after start n)) bs) (sym next) t.1)))

      go : (b : Bool) → (piece_len (after start n) == 0) ≡ b → Hears read start r (suc n) ups (message (packet (packet_of (after start n) p.body)))
      go true q = ended (equal (piece_len (after start n)) 0 q)
      go false q = goes-with (grind (arith, nat_tests, q))

  later-heard : (r : ReadingState) (n : ℕ) (m : Message) → slice_get ups (suc n) ≡ Some m → IsReading read r (after start n) (bodies (take (suc n) ups)) → Says read start ups → Hears read start r (suc n) ups (message m)
  later-heard r n m e h (nothing none) = absurd (none-some m (subst (λ (ms : List Message). slice_get ms (suc n) ≡ Some m) none e))
  later-heard r n m e h (refuses f is) = absurd (none-some m (subst (λ (ms : List Message). slice_get ms (suc n) ≡ Some m) is e))
  later-heard r n m e h (gives g) = piece-heard r n m e g h (g.pieces n m e)

  pub heard : (r : ReadingState) (taken : ℕ) (x : Next) → Stands ups taken x → Says read start ups → HasTaken read start r taken ups → Hears read start r taken ups x
  heard r taken (message m) e s (awaits z is) =
      subst (λ (q : ReadingState). Hears read start q taken ups (message m)) (sym is) (subst (λ (n : ℕ). Hears read start (asked read) n ups (message m)) (sym z) (first-heard m (subst (λ (n : ℕ). slice_get ups n ≡ Some m) z e) s))
  heard r taken the_end e s (awaits z is) = ends refl (ap (λ (q : ReadingState). (take_from q from_node.End).does) is ∙ end-first read)
  heard r taken (message m) e s (receives n z le p h) =
      subst (λ (k : ℕ). Hears read start r k ups (message m)) (sym z) (later-heard r n m (subst (λ (k : ℕ). slice_get ups k ≡ Some m) z e) (subst (λ (k : ℕ). IsReading read r (after start n) (bodies (take k ups))) z h) s)
  heard r taken the_end e s (receives n z le p h) = ends refl (end-taken read r (after start n) (bodies (take taken ups)) h)
