-- A read that is verified has as many bytes as were asked for.
use Rattle.std.proofs.Common.{◌≡◌, ℕ, ◌+◌, ◌-◌, ◌^◌, ◌≤◌, ◌<◌, min, nat_lt, ◌⊎◌, inl, inr, Bool, true, false, not, ◌&&◌, List, [], ◌∷◌, ◌++◌, length, take, drop, Result, Ok, Err, refl, subst, arith}
use Rattle.std.specs.Prelude.{ℤ, pos, int_lt}
use Rattle.std.specs.Ordering.{int_eq}
use Rattle.std.proofs.lemmas.Bool.Decides.{nat_tests, Decides-int_eq}
use Rattle.std.proofs.lemmas.List.{length-take, length-drop, length-append}
use Rattle.hd_base.specs.SumRules.{Rule}
use Rattle.hd_base.specs.Results.{◌>>=◌}
use Rattle.op_headers.specs.declared.ops.ReadOp.{ReadOp}
use Rattle.packet_codec.specs.declared.packets.Packet.{Packet}
use Rattle.read_core.specs.declared.reading.FromNode.{FromNode}
use Rattle.read_core.specs.declared.reading.FromNode.TheVariants as taken
use Rattle.read_core.specs.declared.reading.ReadFault.{ReadFault}
use Rattle.read_core.specs.declared.reading.ReadPhase.{ReadPhase}
use Rattle.read_core.specs.declared.reading.ReadPhase.TheVariants as phase
use Rattle.read_core.specs.declared.reading.ReadTurn.TheVariants as turn
use Rattle.read_core.specs.Readings.{ReadingState, asked, check, accepted, answered, asked_end, is_short, place_check, packet_check, sums_check, wanted, kept, phase_behind, turn_behind, received_as, while_asked, while_receiving, taken_at, take_from, after_all}
use Rattle.read_core.specs.Laws.{VerifiedIsWhole}

-- as many bytes are there as the packets so far have of those that are asked for
abbrev Counted : ℕ → ℕ → List ℕ → ReadPhase → Type 0
Counted offset len bytes phase.Asked = length bytes ≡ 0
Counted offset len bytes (phase.Receiving rule at seqno) = length bytes ≡ min len (at - offset)
Counted offset len bytes phase.Over = Unit {0}

record Holds (op : ReadOp) (s : ReadingState) : Type 0 where
  offset : s.offset ≡ op.offset
  len : s.len ≡ op.len
  bytes : Counted s.offset s.len s.bytes s.phase

join_length : (bytes body : List ℕ) (offset len at : ℕ) → length bytes ≡ min len (at - offset)
    → length (bytes ++ take (len - length bytes) (drop (offset - at) body)) ≡ min len (at + length body - offset)
join_length bytes body offset len at h =
    rw (length-append bytes (take (len - length bytes) (drop (offset - at) body)), length-take (len - length bytes) (drop (offset - at) body), length-drop (offset - at) body)
    (omega arith)

kept_length : (s : ReadingState) (at : ℕ) (p : Packet) → length s.bytes ≡ min s.len (at - s.offset)
    → length (kept s at p).bytes ≡ min s.len (at + length p.body - s.offset)
unfolding wanted
kept_length s at p h = join_length s.bytes p.body s.offset s.len at h

behind_counted : (last : Bool) (offset len at seqno : ℕ) (bytes : List ℕ) (rule : Rule) → length bytes ≡ min len (at - offset)
    → Counted offset len bytes (phase_behind last (phase.Receiving rule at seqno))
behind_counted true offset len at seqno bytes rule h = tt
behind_counted false offset len at seqno bytes rule h = h

received_holds : (op : ReadOp) (s : ReadingState) (rule : Rule) (at seqno : ℕ) (p : Packet) (r : Result (Unit {0}) ReadFault)
    → s.offset ≡ op.offset → s.len ≡ op.len → length s.bytes ≡ min s.len (at - s.offset)
    → Holds op (received_as s rule at seqno p r).reading
received_holds op s rule at seqno p (Ok u) eo el h = record {
  offset = eo;
  len = el;
  bytes = behind_counted p.last s.offset s.len (at + length p.body) (seqno + 1) (kept s at p).bytes rule (kept_length s at p h);
}
received_holds op s rule at seqno p (Err f) eo el h = record { offset = eo; len = el; bytes = tt }

answered_holds : (op : ReadOp) (s : ReadingState) (r : Result Rule ReadFault) → s.offset ≡ op.offset → s.len ≡ op.len → length s.bytes ≡ 0
    → Holds op (answered s r).reading
answered_holds op s (Ok rule) eo el h = record { offset = eo; len = el; bytes = omega arith }
answered_holds op s (Err f) eo el h = record { offset = eo; len = el; bytes = tt }

asked_holds_on : (op : ReadOp) (s : ReadingState) (t : FromNode) → s.offset ≡ op.offset → s.len ≡ op.len → length s.bytes ≡ 0
    → Holds op (while_asked s t).reading
asked_holds_on op s (taken.Response r) eo el h = answered_holds op s (accepted r) eo el h
asked_holds_on op s (taken.Packet p) eo el h = record { offset = eo; len = el; bytes = tt }
asked_holds_on op s taken.Unreadable eo el h = record { offset = eo; len = el; bytes = tt }
asked_holds_on op s taken.End eo el h = record { offset = eo; len = el; bytes = tt }

receiving_holds : (op : ReadOp) (s : ReadingState) (rule : Rule) (at seqno : ℕ) (t : FromNode)
    → s.offset ≡ op.offset → s.len ≡ op.len → length s.bytes ≡ min s.len (at - s.offset)
    → Holds op (while_receiving s rule at seqno t).reading
receiving_holds op s rule at seqno (taken.Packet p) eo el h = received_holds op s rule at seqno p (packet_check s rule at seqno p) eo el h
receiving_holds op s rule at seqno (taken.Response r) eo el h = record { offset = eo; len = el; bytes = tt }
receiving_holds op s rule at seqno taken.Unreadable eo el h = record { offset = eo; len = el; bytes = tt }
receiving_holds op s rule at seqno taken.End eo el h = record { offset = eo; len = el; bytes = tt }

taken_holds : (op : ReadOp) (s : ReadingState) (t : FromNode) (at : ReadPhase) → s.offset ≡ op.offset → s.len ≡ op.len
    → Counted s.offset s.len s.bytes at → Holds op (taken_at at s t).reading
taken_holds op s t phase.Asked eo el h = asked_holds_on op s t eo el h
taken_holds op s t (phase.Receiving rule at seqno) eo el h = receiving_holds op s rule at seqno t eo el h
taken_holds op s t phase.Over eo el h = record { offset = eo; len = el; bytes = tt }

all_hold : (op : ReadOp) (s : ReadingState) (ts : List FromNode) → Holds op s → Holds op (after_all s ts)
all_hold op s [] h = h
all_hold op s (t ∷ ts) h = all_hold op (take_from s t).reading ts (taken_holds op s t s.phase h.offset h.len h.bytes)

-- THE LAST PACKET

three_hold : (a b c : Bool) (f g h : ReadFault) (u : Unit {0}) → check a f (check b g (check c h (Ok tt))) ≡ Ok u
    → (b ≡ true) × (c ≡ true)
three_hold true true true f g h u e = (refl, refl)
three_hold true true false f g h u e = cc
three_hold true false c f g h u e = cc
three_hold false b c f g h u e = cc

first_holds : (r : Result (Unit {0}) ReadFault) (next : Unit {0} → Result (Unit {0}) ReadFault) (u : Unit {0})
    → (r >>= next) ≡ Ok u → r ≡ Ok tt
first_holds (Ok x) next u e = refl
first_holds (Err f) next u e = cc

ends_behind : (len end at : ℕ) → not (true && nat_lt 0 len && int_lt (pos at) (pos end)) ≡ true → (len ≡ 0) ⊎ (end ≤ at)
ends_behind len end at e = grind (arith, nat_tests)

not_short : (s : ReadingState) (p : Packet) (at : ℕ) → p.last ≡ true → p.offset ≡ pos at → not (is_short s p) ≡ true
    → (s.len ≡ 0) ⊎ (asked_end s ≤ at)
not_short s p at last begins e =
    let f : not (true && nat_lt 0 s.len && int_lt p.offset (pos (asked_end s))) ≡ true
    = subst (λ (l : Bool). not (l && nat_lt 0 s.len && int_lt p.offset (pos (asked_end s))) ≡ true) last e in
    let g : not (true && nat_lt 0 s.len && int_lt (pos at) (pos (asked_end s))) ≡ true
    = subst (λ (o : ℤ). not (true && nat_lt 0 s.len && int_lt o (pos (asked_end s))) ≡ true) begins f in
    ends_behind s.len (asked_end s) at g

placed_end : (s : ReadingState) (at seqno : ℕ) (p : Packet) (u : Unit {0}) → p.last ≡ true → place_check s at seqno p ≡ Ok u
    → (s.len ≡ 0) ⊎ (asked_end s ≤ at)
unfolding place_check
placed_end s at seqno p u last e =
    let both = three_hold (int_eq p.seqno (pos seqno)) (int_eq p.offset (pos at)) (not (is_short s p)) _ _ _ u e in
    not_short s p at last ((Decides-int_eq p.offset (pos at)).0 both.0) both.1

-- the bytes that are there at the end
whole_count : (op_offset op_len offset len at more count : ℕ) → op_offset + op_len < 2 ^ 64 → offset ≡ op_offset → len ≡ op_len
    → (len ≡ 0) ⊎ (min (2 ^ 64 - 1) (offset + len) ≤ at) → count ≡ min len (at + more - offset) → count ≡ op_len
whole_count op_offset op_len offset len at more count small eo el (inl none) h = omega arith
whole_count op_offset op_len offset len at more count small eo el (inr behind) h = omega arith

last_is : (b : Bool) → turn_behind b ≡ turn.Verified → b ≡ true
last_is true e = refl
last_is false e = cc

received_whole : (op : ReadOp) (s : ReadingState) (rule : Rule) (at seqno : ℕ) (p : Packet) (r : Result (Unit {0}) ReadFault)
    → op.offset + op.len < 2 ^ 64 → s.offset ≡ op.offset → s.len ≡ op.len → length s.bytes ≡ min s.len (at - s.offset)
    → packet_check s rule at seqno p ≡ r → (received_as s rule at seqno p r).does ≡ turn.Verified
    → length (received_as s rule at seqno p r).reading.bytes ≡ op.len
received_whole op s rule at seqno p (Ok u) small eo el h e does =
    let placed = first_holds (place_check s at seqno p) (λ x. sums_check rule at p) u e in
    whole_count op.offset op.len s.offset s.len at (length p.body) (length (kept s at p).bytes) small eo el
    (placed_end s at seqno p tt (last_is p.last does) placed) (kept_length s at p h)
received_whole op s rule at seqno p (Err f) small eo el h e does = cc

answered_goes : (s : ReadingState) (r : Result Rule ReadFault) → (answered s r).does ≡ turn.Verified → ⊥
answered_goes s (Ok rule) e = cc
answered_goes s (Err f) e = cc

asked_goes : (s : ReadingState) (t : FromNode) → (while_asked s t).does ≡ turn.Verified → ⊥
asked_goes s (taken.Response r) e = answered_goes s (accepted r) e
asked_goes s (taken.Packet p) e = cc
asked_goes s taken.Unreadable e = cc
asked_goes s taken.End e = cc

receiving_whole : (op : ReadOp) (s : ReadingState) (rule : Rule) (at seqno : ℕ) (t : FromNode)
    → op.offset + op.len < 2 ^ 64 → s.offset ≡ op.offset → s.len ≡ op.len → length s.bytes ≡ min s.len (at - s.offset)
    → (while_receiving s rule at seqno t).does ≡ turn.Verified → length (while_receiving s rule at seqno t).reading.bytes ≡ op.len
receiving_whole op s rule at seqno (taken.Packet p) small eo el h does =
    received_whole op s rule at seqno p (packet_check s rule at seqno p) small eo el h refl does
receiving_whole op s rule at seqno (taken.Response r) small eo el h does = cc
receiving_whole op s rule at seqno taken.Unreadable small eo el h does = cc
receiving_whole op s rule at seqno taken.End small eo el h does = cc

taken_whole : (op : ReadOp) (s : ReadingState) (t : FromNode) (at : ReadPhase) → op.offset + op.len < 2 ^ 64
    → s.offset ≡ op.offset → s.len ≡ op.len → Counted s.offset s.len s.bytes at
    → (taken_at at s t).does ≡ turn.Verified → length (taken_at at s t).reading.bytes ≡ op.len
taken_whole op s t phase.Asked small eo el h does = absurd (asked_goes s t does)
taken_whole op s t (phase.Receiving rule at seqno) small eo el h does = receiving_whole op s rule at seqno t small eo el h does
taken_whole op s t phase.Over small eo el h does = cc

last_whole : (op : ReadOp) (s : ReadingState) (t : FromNode) → op.offset + op.len < 2 ^ 64 → Holds op s
    → (take_from s t).does ≡ turn.Verified → length (take_from s t).reading.bytes ≡ op.len
last_whole op s t small h does = taken_whole op s t s.phase small h.offset h.len h.bytes does

asked_holds : (op : ReadOp) → Holds op (asked op)
asked_holds op = record { offset = refl; len = refl; bytes = refl }

pub verified_is_whole : VerifiedIsWhole
verified_is_whole op before last small does =
    last_whole op (after_all (asked op) before) last small (all_hold op (asked op) before (asked_holds op)) does
