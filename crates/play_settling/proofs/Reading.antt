-- Reads that haven't begun weigh less once one of them begins, and no more otherwise.
use Rattle.std.proofs.Common.{◌≡◌, ℕ, zero, suc, ◌<◌, ◌≤◌, ◌+◌, if◌then◌else◌, Bool, true, false, List, [], ◌∷◌, slice_get, Some, Err, refl, sym, ap, subst, arith}
use Rattle.std.specs.Prelude.{◌&&◌, sum_by}
use Rattle.std.proofs.lemmas.Option.{none-some, same_Some}
use Rattle.std.proofs.lemmas.List.Sums.{sum_by-cons}
use Rattle.op_headers.specs.declared.ops.ReadOp.{ReadOp}
use Rattle.world.specs.ReadCore.ReadFault.TheVariants as read_fault
use Rattle.world.specs.ReadCore.Readings.{asked}
use Rattle.world.specs.declared.events.Event.{Event}
use Rattle.world.specs.Parts.{Reader, no_reader, reads, has_read}
use Rattle.world.specs.Worlds.{World, apply}
use Rattle.world.specs.Clients.{reader_dials, own_reader_as}
use Rattle.world.specs.Events.{changed, outcome, after_event, happens, run}
use Rattle.world.specs.Safe.{Has}
use Rattle.play_model.proofs.WorldLaws.StampGivens.{put-here}
use Rattle.world_settling.specs.Leading.{read_weight}
use Rattle.world_settling.specs.Traffic.{traffic}
use Rattle.world_settling.proofs.Actors.{writers-stay}
use Rattle.world_settling.proofs.Readers.{readers-go-on}
use Rattle.play_model.specs.declared.asks.ReadAsk.{ReadAsk}
use Rattle.play_model.specs.Asks.{request_of, asking_node}
use Rattle.play_model.specs.Dues.{Queues, is_unbegun}
use Rattle.play_settling.specs.Settling.{block_weight, ask_weight, writers_weight, reads_weight}
use Rattle.play_settling.proofs.Sums.{all-same}

-- READERS THAT HAVE BEGUN

-- each reader that had begun has
abbrev pub GoesOn : World → World → Type 0
GoesOn w v = (i : ℕ) → v.readers i ≡ no_reader → w.readers i ≡ no_reader

pub all-go-on : (w : World) (events : List Event) → GoesOn w (run w events)
all-go-on w [] i h = h
all-go-on w (e ∷ events) i h = readers-go-on w e i (all-go-on (happens w e) events i h)

unbegun-is : (x : Reader) → is_unbegun x ≡ true → x ≡ no_reader
unbegun-is no_reader h = refl
unbegun-is (reads c s) h = cc
unbegun-is (has_read r) h = cc

-- a reader that asks has begun
dials-reader : (w : World) (i n : ℕ) (r : ReadOp) (answered : Bool) → is_unbegun ((apply w (reader_dials w i n r answered)).readers i) ≡ false
unfolding apply
dials-reader w i n r true = ap is_unbegun (put-here w.readers i (reads w.next_conn (asked r)))
dials-reader w i n r false = ap is_unbegun (put-here w.readers i (has_read (Err read_fault.Ended)))

asks-as : (x : Reader) (w : World) (i n : ℕ) (r : ReadOp) (answered : Bool) (e : Event) → x ≡ no_reader → is_unbegun ((after_event w e (changed w (own_reader_as x w i n r answered))).readers i) ≡ false
asks-as no_reader w i n r answered e h = dials-reader w i n r (answered && w.running n)
asks-as (reads c s) w i n r answered e h = cc
asks-as (has_read x) w i n r answered e h = cc

has-begun : (w : World) (ask : ReadAsk) (answered : Bool) → w.readers ask.reader ≡ no_reader → is_unbegun ((happens w (asking_node ask answered)).readers ask.reader) ≡ false
unfolding happens outcome
has-begun w ask answered h = asks-as (w.readers ask.reader) w ask.reader ask.node.0 (request_of ask) answered (asking_node ask answered) h

-- SUMS

pub weight-falls : (x y : Reader) (n : ℕ) → (y ≡ no_reader → x ≡ no_reader) → (if is_unbegun y then n else 0) ≤ (if is_unbegun x then n else 0)
weight-falls x no_reader n h = subst (λ (z : Reader). n ≤ (if is_unbegun z then n else 0)) (sym (h refl)) (omega arith)
weight-falls x (reads c s) n h = omega arith
weight-falls x (has_read r) n h = omega arith

pub asks-fall : (f g : ReadAsk → ℕ) (asks : List ReadAsk) → ((a : ReadAsk) → g a ≤ f a) → sum_by g asks ≤ sum_by f asks
asks-fall f g [] h = omega arith
asks-fall f g (a ∷ asks) h = omega (arith, sum_by-cons f a asks, sum_by-cons g a asks, h a, asks-fall f g asks h)

-- one of them begins
one-falls : (f g : ReadAsk → ℕ) (asks : List ReadAsk) (i : ℕ) (ask : ReadAsk) (n : ℕ) → slice_get asks i ≡ Some ask → ((a : ReadAsk) → g a ≤ f a) → g ask + n ≤ f ask → sum_by g asks + n ≤ sum_by f asks
one-falls f g [] i ask n is h less = absurd (none-some ask is)
one-falls f g (a ∷ asks) zero ask n is h less =
    let here : a ≡ ask = same_Some a ask is in
    omega (arith, sum_by-cons f a asks, sum_by-cons g a asks, ap f here, ap g here, asks-fall f g asks h, less)
one-falls f g (a ∷ asks) (suc i) ask n is h less = omega (arith, sum_by-cons f a asks, sum_by-cons g a asks, h a, one-falls f g asks i ask n is h less)

-- PLAYS

both-fall : (x y a b : ℕ) → x < y → a ≤ b → x + a < y + b
both-fall x y a b p q = omega (arith, p, q)

-- What lowers the rest lowers the whole.
pub with-asks : (w v : World) (queues after : Queues) (blocks : List ℕ) (asks : List ReadAsk) → GoesOn w v → writers_weight v after blocks < writers_weight w queues blocks → reads_weight v after blocks asks < reads_weight w queues blocks asks
with-asks w v queues after blocks asks on less =
    both-fall (writers_weight v after blocks) (writers_weight w queues blocks) (sum_by (ask_weight v) asks) (sum_by (ask_weight w) asks) less
    (asks-fall (ask_weight w) (ask_weight v) asks (λ a. weight-falls (w.readers a.reader) (v.readers a.reader) (read_weight (request_of a)) (on a.reader)))

paid-by : (tv tw s n a b : ℕ) → tv < tw + n → a + n ≤ b → (tv + s) + a < (tw + s) + b
paid-by tv tw s n a b p q = omega (arith, p, q)

falls-so : (x y : Bool) (n : ℕ) → x ≡ false → y ≡ true → (if x then n else 0) + n ≤ (if y then n else 0)
falls-so x y n p q = rw (p, q) (omega arith)

-- A reader begins.
pub reader-lowers : (w : World) (queues : Queues) (blocks : List ℕ) (asks : List ReadAsk) (ask : ReadAsk) (answered : Bool) → Has asks ask → is_unbegun (w.readers ask.reader) ≡ true
    → traffic (happens w (asking_node ask answered)) < traffic w + read_weight (request_of ask) → reads_weight (happens w (asking_node ask answered)) queues blocks asks < reads_weight w queues blocks asks
reader-lowers w queues blocks asks ask answered has new less =
    let v : World = happens w (asking_node ask answered) in
    let n : ℕ = read_weight (request_of ask) in
    let same : sum_by (block_weight v queues) blocks ≡ sum_by (block_weight w queues) blocks = all-same w v queues queues blocks (λ b. writers-stay w (asking_node ask answered) b refl) (λ b. refl) in
    let on : GoesOn w v = λ i h. readers-go-on w (asking_node ask answered) i h in
    let falls : sum_by (ask_weight v) asks + n ≤ sum_by (ask_weight w) asks =
    one-falls (ask_weight w) (ask_weight v) asks has.place ask n has.there (λ a. weight-falls (w.readers a.reader) (v.readers a.reader) (read_weight (request_of a)) (on a.reader))
    (falls-so (is_unbegun (v.readers ask.reader)) (is_unbegun (w.readers ask.reader)) n (has-begun w ask answered (unbegun-is (w.readers ask.reader) new)) new) in
    subst (λ (s : ℕ). (traffic v + s) + sum_by (ask_weight v) asks < (traffic w + sum_by (block_weight w queues) blocks) + sum_by (ask_weight w) asks) (sym same)
    (paid-by (traffic v) (traffic w) (sum_by (block_weight w queues) blocks) n (sum_by (ask_weight v) asks) (sum_by (ask_weight w) asks) less falls)
