-- What the events of readers leave of reads that go on, and what comes next to a reader.
use Rattle.std.proofs.Common.{◌≡◌, ℕ, ◌<◌, ◌+◌, Bool, true, false, length, IfSome, Result, Ok, Err, refl, sym, ap, ◌∙◌, subst, arith, eqb-true}
use Rattle.std.specs.Prelude.{◌==◌, ◌&&◌, not}
use Rattle.hd_base.specs.SumRules.{Rule}
use Rattle.op_headers.specs.declared.ops.ReadOp.{ReadOp}
use Rattle.packet_codec.specs.declared.packets.Packet.{Packet}
use Rattle.read_core.specs.declared.reading.ReadFault.{ReadFault}
use Rattle.read_core.specs.declared.reading.ReadPhase.{ReadPhase}
use Rattle.read_core.specs.declared.reading.ReadPhase.TheVariants as phase
use Rattle.read_core.specs.declared.reading.ReadTurn.{ReadTurn}
use Rattle.read_core.specs.declared.reading.ReadTurn.TheVariants as turn
use Rattle.read_core.specs.Readings.{ReadingState, ReadTaken, answered, accepted, received_as, packet_check, phase_behind, turn_behind, taken_at, take_from}
use Rattle.world_settling.specs.World.Parts.{Message, request, packet, ack, response, read_status, recovery_answer, Upper, by_reader, Marks, new_marks, Reader, no_reader, reads, has_read}
use Rattle.world_settling.specs.World.Worlds.{World, Change}
use Rattle.world_settling.specs.World.Connections.{Next, message, the_end, marks_taken}
use Rattle.world_settling.specs.World.Clients.{reader_dials, own_reader_as, own_reader, from_node_of, reader_turn, reader_up_as, reader_up}
use Rattle.world_orders.proofs.WorldLaws.FactTables.{when-each}
use Rattle.world_orders.specs.Orders.{reading, comes_up, purpose_of, is_first, ReaderIs, Ordered}
use Rattle.world_orders.proofs.AllOrdered.{next-found}
use Rattle.world_orders.proofs.Lists.{not-first, first-of}
use Rattle.reader_events.specs.Orders.{has_answer, HasTaken, IsOpenRead, ReadersTakeInOrder}
use Rattle.reader_events.proofs.Staying.{ReadsOn, AllRead}

-- WHAT IS TAKEN

-- the end, and what isn't to come, end a read
abbrev pub GoesOnly : ReadPhase → Next → ReadTaken → Type 0
GoesOnly p x t = t.does ≡ turn.Goes → (p ≡ phase.Over → ⊥) → (m : Message) × ((x ≡ message m) × HasTaken t.reading.phase 1)

-- in a phase in which the answer is there, so much more may be taken
later : (p : ReadPhase) (n : ℕ) → HasTaken p 1 → HasTaken p (n + 1)
later phase.Asked n h = absurd (omega (arith, h))
later (phase.Receiving rule at seqno) n h = omega arith
later phase.Over n h = absurd h

one : 0 < 1
one = omega arith

answered-goes : (s : ReadingState) (r : Result Rule ReadFault) → (answered s r).does ≡ turn.Goes → HasTaken (answered s r).reading.phase 1
answered-goes s (Ok rule) e = one
answered-goes s (Err why) e = cc

received-goes : (s : ReadingState) (rule : Rule) (at seqno : ℕ) (p : Packet) (last : Bool) (r : Result (Unit {0}) ReadFault) → p.last ≡ last → (received_as s rule at seqno p r).does ≡ turn.Goes → HasTaken (received_as s rule at seqno p r).reading.phase 1
received-goes s rule at seqno p last (Err why) is e = cc
received-goes s rule at seqno p true (Ok u) is e = let k : turn.Verified ≡ turn.Goes = ap turn_behind (sym is) ∙ e in cc
received-goes s rule at seqno p false (Ok u) is e = subst (λ (b : Bool). HasTaken (phase_behind b (phase.Receiving rule (at + length p.body) (seqno + 1))) 1) (sym is) one

-- Where a read goes on that wasn't over, a message was taken, and the answer is there.
pub goes-taken : (p : ReadPhase) (s : ReadingState) (x : Next) → GoesOnly p x (taken_at p s (from_node_of x))
goes-taken phase.Asked s (message (response r)) e never = (response r, (refl, answered-goes s (accepted r) e))
goes-taken phase.Asked s (message (request r)) e never = cc
goes-taken phase.Asked s (message (packet q)) e never = cc
goes-taken phase.Asked s (message (ack a)) e never = cc
goes-taken phase.Asked s (message (read_status t)) e never = cc
goes-taken phase.Asked s (message (recovery_answer a)) e never = cc
goes-taken phase.Asked s the_end e never = cc
goes-taken (phase.Receiving rule at seqno) s (message (packet q)) e never = (packet q, (refl, received-goes s rule at seqno q q.last (packet_check s rule at seqno q) refl e))
goes-taken (phase.Receiving rule at seqno) s (message (request r)) e never = cc
goes-taken (phase.Receiving rule at seqno) s (message (response r)) e never = cc
goes-taken (phase.Receiving rule at seqno) s (message (ack a)) e never = cc
goes-taken (phase.Receiving rule at seqno) s (message (read_status t)) e never = cc
goes-taken (phase.Receiving rule at seqno) s (message (recovery_answer a)) e never = cc
goes-taken (phase.Receiving rule at seqno) s the_end e never = cc
goes-taken phase.Over s x e never = absurd (never refl)

answer-there : (p : ReadPhase) → HasTaken p 1 → has_answer p ≡ true
answer-there phase.Asked h = absurd (omega (arith, h))
answer-there (phase.Receiving rule at seqno) h = refl
answer-there phase.Over h = refl

over-or-not : (p : ReadPhase) (P : Type 0) → (p ≡ phase.Over → P) → ((p ≡ phase.Over → ⊥) → P) → P
over-or-not phase.Asked P h k = k (λ e. cc)
over-or-not (phase.Receiving rule at seqno) P h k = k (λ e. cc)
over-or-not phase.Over P h k = h refl

-- A read that goes on has its answer.
pub goes-answered : (s : ReadingState) (x : Next) → (take_from s (from_node_of x)).does ≡ turn.Goes → has_answer (take_from s (from_node_of x)).reading.phase ≡ true
goes-answered s x e =
    over-or-not s.phase (has_answer (take_from s (from_node_of x)).reading.phase ≡ true)
    (λ over. ap (λ (p : ReadPhase). has_answer (taken_at p s (from_node_of x)).reading.phase) over)
    (λ never. answer-there (take_from s (from_node_of x)).reading.phase (goes-taken s.phase s x e never).1.1)

not-over : (p : ReadPhase) (n : ℕ) → HasTaken p n → p ≡ phase.Over → ⊥
not-over p n h e = subst (λ (q : ReadPhase). HasTaken q n) e h

-- A read that goes on once it took what stands next.
pub open-taken : (k : Marks) (s : ReadingState) (x : Next) → IsOpenRead k s → (take_from s (from_node_of x)).does ≡ turn.Goes → IsOpenRead (marks_taken k x) (take_from s (from_node_of x)).reading
open-taken k s x h e =
    let t : ReadTaken = take_from s (from_node_of x) in
    let g = goes-taken s.phase s x e (not-over s.phase k.taken h.heard) in
    subst (λ (y : Next). IsOpenRead (marks_taken k y) t.reading) (sym g.1.0) (record { heard = later t.reading.phase k.taken g.1.1; open_is = h.open_is })

-- STEPS OF READERS

-- What holds of the reader in a change, and which one it is.
pub record ReaderReads (w : World) (line : ℕ) (k : Change) : Type 0 where
  pub at_is : k.reader_at ≡ line
  pub reader : ReadsOn w.up_marks k.reader

dials-reads : (w : World) (line n : ℕ) (r : ReadOp) (answered : Bool) → w.up_marks w.next_conn ≡ new_marks → ReaderReads w line (reader_dials w line n r answered)
dials-reads w line n r true fresh = record { at_is = refl; reader = record { heard = ap (λ (m : Marks). m.taken) fresh; open_is = ap (λ (m : Marks). m.over) fresh } }
dials-reads w line n r false fresh = record { at_is = refl; reader = tt }

own-as-reads : (x : Reader) (w : World) (line n : ℕ) (r : ReadOp) (answered : Bool) → w.up_marks w.next_conn ≡ new_marks → IfSome (own_reader_as x w line n r answered) (ReaderReads w line)
own-as-reads no_reader w line n r answered fresh = dials-reads w line n r (answered && w.running n) fresh
own-as-reads (reads c s) w line n r answered fresh = tt
own-as-reads (has_read b) w line n r answered fresh = tt

pub own-reads : (w : World) (line n : ℕ) (r : ReadOp) (answered : Bool) → w.up_marks w.next_conn ≡ new_marks → IfSome (own_reader w line n r answered) (ReaderReads w line)
own-reads w line n r answered fresh = own-as-reads (w.readers line) w line n r answered fresh

turn-reads : (w : World) (line c : ℕ) (t : ReadTaken) (d : ReadTurn) → (d ≡ turn.Goes → IsOpenRead (w.up_marks c) t.reading) → ReaderReads w line (reader_turn w line c t d)
turn-reads w line c t turn.Goes h = record { at_is = refl; reader = h refl }
turn-reads w line c t turn.Verified h = record { at_is = refl; reader = tt }
turn-reads w line c t (turn.Fails why) h = record { at_is = refl; reader = tt }

up-as-reads : (r : Reader) (w : World) (marks : ℕ → Marks) (line c : ℕ) (x : Next) → w.up_marks c ≡ marks_taken (marks c) x → ReadsOn marks r → IfSome (reader_up_as r w line c x) (ReaderReads w line)
up-as-reads no_reader w marks line c x is h = tt
up-as-reads (has_read b) w marks line c x is h = tt
up-as-reads (reads d s) w marks line c x is h =
    when-each (ReaderReads w line) (d == c) _ (λ e. turn-reads w line c (take_from s (from_node_of x)) (take_from s (from_node_of x)).does
    (λ goes. subst (λ (k : Marks). IsOpenRead k (take_from s (from_node_of x)).reading) (sym is)
    (open-taken (marks c) s x (subst (λ (n : ℕ). IsOpenRead (marks n) s) (eqb-true d c e) h) goes)))

-- A reader takes something from its connection.
pub up-reads : (w : World) (marks : ℕ → Marks) (line c : ℕ) (x : Next) → w.up_marks c ≡ marks_taken (marks c) x → ReadsOn marks (w.readers line) → IfSome (reader_up w line c x) (ReaderReads w line)
up-reads w marks line c x is h = up-as-reads (w.readers line) w marks line c x is h

-- WHAT COMES NEXT

first-taken : (p : ReadPhase) (n : ℕ) → HasTaken p n → is_first n ≡ not (has_answer p)
first-taken phase.Asked n h = first-of n h
first-taken (phase.Receiving rule at seqno) n h = not-first n h
first-taken phase.Over n h = absurd h

pub in-order : (w : World) → Ordered w → AllRead w → ReadersTakeInOrder w
in-order w o h = record {
  dialled = λ line c s e. by line c s e;
  goes_on = λ line c s e. here line c s e;
  next = λ line c s m e is.
      subst (λ (b : Bool). comes_up reading b m ≡ true) (first-taken s.phase _ (here line c s e).heard)
      (subst (λ (u : Upper). comes_up (purpose_of u) (is_first (w.up_marks c).taken) m ≡ true) (by line c s e)
      (o.ups c (w.up_marks c).taken m (next-found (w.ups c) (w.up_marks c) m is)));
}
  where
    by : (line c : ℕ) (s : ReadingState) → w.readers line ≡ reads c s → (w.dialled c).upper ≡ by_reader line
    by line c s e = subst (ReaderIs w.dialled line) e (o.readers_are line)

    here : (line c : ℕ) (s : ReadingState) → w.readers line ≡ reads c s → IsOpenRead (w.up_marks c) s
    here line c s e = subst (ReadsOn w.up_marks) e (h.all line)
