-- Where nothing is due any more, each reader that was asked for has a result.
use Rattle.std.proofs.Common.{◌≡◌, ℕ, zero, suc, ◌<◌, Bool, true, false, List, [], ◌∷◌, ◌++◌, slice_get, Some, refl, sym, ap, subst, arith}
use Rattle.std.specs.Prelude.{◌==◌, ◌&&◌, nat_lt}
use Rattle.std.proofs.lemmas.Bool.Decides.{nat_tests}
use Rattle.std.proofs.lemmas.Option.{none-some, same_Some}
use Rattle.script_lang.specs.declared.instructions.Instruction.{Instruction}
use Rattle.script_lang.specs.declared.instructions.Instruction.TheVariants as says
use Rattle.script_lang.specs.declared.instructions.ScriptLine.{ScriptLine}
use Rattle.world.specs.Parts.{Upper, by_reader, Lower, Reader, no_reader, reads, has_read}
use Rattle.world.specs.Safe.{Has}
use Rattle.world.specs.Worlds.{World}
use Rattle.world.specs.Connections.{is_served}
use Rattle.world.specs.Enabled.{can_down, can_ready, can_up}
use Rattle.play_model.specs.declared.asks.ReadAsk.{ReadAsk}
use Rattle.play_model.specs.declared.dues.Due.TheVariants as due
use Rattle.play_model.specs.Dues.{Queues, is_unbegun, is_open, is_open_above, when, when_due, upto, own_dues, reader_dues, primary_dues, conn_dues, dues}
use Rattle.play_model.specs.Lines.{PlaysLines, PlaysFrom, Plays, blocks_of}
use Rattle.play_model.specs.States.{PlayState, world_of, opened}
use Rattle.play_scripts.specs.Reads.{read_numbers, readers_of}
use Rattle.play_scripts.proofs.AskLemmas.{plays_ask}
use Rattle.world_laws.proofs.FactTables.{and-left}
use Rattle.world_orders.specs.Orders.{ReaderIs}
use Rattle.world_orders.proofs.AllOrdered.{all-ordered}
use Rattle.world_readings.specs.Going.{GoesOn, takes, begins, sends}
use Rattle.world_readings.specs.Results.{ComesTo}
use Rattle.world_readings.proofs.AllReads.{all-come-to, all-end}
use Rattle.world_readings.proofs.Going.{all-go-on}
use Rattle.play_readings.specs.Endings.{HasResult}

-- NOTHING IS LISTED

none-left : {A : Type 0} (xs ys : List A) → xs ++ ys ≡ [] → xs ≡ []
none-left [] ys e = refl
none-left (x ∷ xs) ys e = cc

none-right : {A : Type 0} (xs ys : List A) → xs ++ ys ≡ [] → ys ≡ []
none-right [] ys e = e
none-right (x ∷ xs) ys e = cc

not-when : {A : Type 0} (b : Bool) (x : A) → when b x ≡ [] → b ≡ false
not-when true x e = cc
not-when false x e = refl

clash : (b : Bool) → b ≡ true → b ≡ false → ⊥
clash true p q = cc
clash false p q = cc

none-below : {A : Type 0} (f : ℕ → List A) (n c : ℕ) → upto f n ≡ [] → c < n → f c ≡ []
none-below f zero c e lt = absurd (omega (arith, lt))
none-below {A} f (suc n) c e lt = go (c == n) refl (none-below f n c (none-left (upto f n) (f n) e))
  where
    go : (b : Bool) → (c == n) ≡ b → (c < n → f c ≡ []) → f c ≡ []
    go true q before = subst (λ (m : ℕ). f m ≡ []) (sym (grind (arith, nat_tests, q))) (none-right (upto f n) (f n) e)
    go false q before = before (grind (arith, nat_tests, q, lt))

-- WHAT IS SETTLED

-- nothing is due of readers and connections
record IsStill (w : World) (queues : Queues) (asks : List ReadAsk) : Type 0 where
  readers : reader_dues w queues asks ≡ []
  conns : upto (conn_dues w queues) w.next_conn ≡ []

settled-still : (blocks : List ℕ) (p : PlayState) → dues blocks p ≡ [] → IsStill (world_of p) p.queues p.asks
unfolding dues
settled-still blocks p e =
    let behind = none-right (own_dues (world_of p) p.queues blocks) _ e in
    let later = none-right (reader_dues (world_of p) p.queues p.asks) _ behind in
    record {
      readers = none-left (reader_dues (world_of p) p.queues p.asks) _ behind;
      conns = none-right (primary_dues (world_of p) p.queues p.recoveries) _ later;
    }

module _ (w : World) (queues : Queues) where
  -- a reader that was asked for has begun
  has-begun : (asks : List ReadAsk) (k : ℕ) (a : ReadAsk) → reader_dues w queues asks ≡ [] → slice_get asks k ≡ Some a → is_unbegun (w.readers a.reader) ≡ false
  has-begun [] k a e at = absurd (none-some a at)
  has-begun (x ∷ asks) zero a e at = subst (λ (y : ReadAsk). is_unbegun (w.readers y.reader) ≡ false) (same_Some x a at) (not-when (is_unbegun (w.readers x.reader)) (due.Reader x) (none-left (when_due w queues (due.Reader x)) _ e))
  has-begun (x ∷ asks) (suc k) a e at = has-begun asks k a (none-right (when_due w queues (due.Reader x)) _ e) at

  module _ (c : ℕ) (none : conn_dues w queues c ≡ []) where
    no-down : (is_open (w.lowers c) && can_down w c) ≡ false
    no-down = not-when (is_open (w.lowers c) && can_down w c) (due.Down (record { 0 = c })) (none-left (when_due w queues (due.Down (record { 0 = c }))) _ none)

    no-ready : (is_open (w.lowers c) && can_ready w c) ≡ false
    no-ready = not-when (is_open (w.lowers c) && can_ready w c) (due.Ready (record { 0 = c })) (none-left (when_due w queues (due.Ready (record { 0 = c }))) _ (none-right (when_due w queues (due.Down (record { 0 = c }))) _ none))

    no-up : (is_open_above w (w.dialled c).upper && can_up w c) ≡ false
    no-up = not-when (is_open_above w (w.dialled c).upper && can_up w c) (due.Up (record { 0 = c })) (none-right (when_due w queues (due.Ready (record { 0 = c }))) _ (none-right (when_due w queues (due.Down (record { 0 = c }))) _ none))

-- A READER THAT READS GOES ON

first-holds : (a b c : Bool) → (a && b && c) ≡ true → a ≡ true
first-holds true b c e = refl
first-holds false b c e = cc

is-below : (a b : ℕ) → nat_lt a b ≡ true → a < b
is-below a b e = grind (arith, nat_tests, e)

served-below : (w : World) (c : ℕ) → is_served w c ≡ true → c < w.next_conn
served-below w c e = is-below c w.next_conn (and-left (nat_lt c w.next_conn) _ e)

goes-below : (w : World) (c : ℕ) → GoesOn w c → c < w.next_conn
goes-below w c (takes e) = is-below c w.next_conn (first-holds (nat_lt c w.next_conn) _ _ e)
goes-below w c (begins l e) = served-below w c (and-left (is_served w c) _ e)
goes-below w c (sends b s l e) = served-below w c (and-left (is_served w c) _ e)

module _ (w : World) (queues : Queues) (i c : ℕ) (upper : (w.dialled c).upper ≡ by_reader i) where
  -- where nothing is due of its connection, it doesn't
  not-going : conn_dues w queues c ≡ [] → GoesOn w c → ⊥
  not-going none (takes e) =
      clash (can_up w c) e (subst (λ (u : Upper). (is_open_above w u && can_up w c) ≡ false) upper (no-up w queues c none))
  not-going none (begins l e) = clash (can_down w c) e (subst (λ (z : Lower). (is_open z && can_down w c) ≡ false) l (no-down w queues c none))
  not-going none (sends b s l e) = clash (can_ready w c) e (subst (λ (z : Lower). (is_open z && can_ready w c) ≡ false) l (no-ready w queues c none))

-- WHAT EACH READER HAS

module _ (p : PlayState) (still : IsStill (world_of p) p.queues p.asks) where
  has-result : (i : ℕ) → is_unbegun ((world_of p).readers i) ≡ false → HasResult (world_of p) i
  has-result i begun = go ((world_of p).readers i) refl
    where
      go : (x : Reader) → (world_of p).readers i ≡ x → HasResult (world_of p) i
      go no_reader e = absurd (clash (is_unbegun ((world_of p).readers i)) (ap is_unbegun e) begun)
      go (reads c s) e =
          let on = all-go-on p.nodes p.events i c s e in
          let upper : ((world_of p).dialled c).upper ≡ by_reader i = subst (ReaderIs (world_of p).dialled i) e ((all-ordered p.nodes p.events).readers_are i) in
          absurd (not-going (world_of p) p.queues i c upper (none-below (conn_dues (world_of p) p.queues) (world_of p).next_conn c still.conns (goes-below (world_of p) c on)) on)
      go (has_read r) e = record { result = r; is = e; came = subst (ComesTo (world_of p) i) e (all-come-to p.nodes p.events i); ends = all-end p.nodes p.events i }

-- PLAYS

-- the play of lines ends where nothing is due
lines-settled : (blocks : List ℕ) (lines : List ScriptLine) (old end : PlayState) → PlaysLines blocks lines old end → dues blocks end ≡ []
lines-settled blocks [] old end h = h.settled
lines-settled blocks (l ∷ lines) old end h = lines-settled blocks lines h.0 end h.1.1

-- one of the numbers of some askers
asker : (asks : List ReadAsk) (place i : ℕ) → slice_get (readers_of asks) place ≡ Some i → (a : ReadAsk) × (slice_get asks place ≡ Some a) × (a.reader ≡ i)
asker [] place i e = absurd (none-some i e)
asker (x ∷ asks) zero i e = (x, refl, same_Some x.reader i e)
asker (x ∷ asks) (suc place) i e = asker asks place i e

play-still : (script : List ScriptLine) (end : PlayState) → Plays script end → IsStill (world_of end) end.queues end.asks
play-still [] end h = absurd h
play-still (first ∷ []) end h = absurd h
play-still (first ∷ (second ∷ lines)) end h = go first.instruction second.instruction h
  where
    go : (a b : Instruction) → PlaysFrom a b lines end → IsStill (world_of end) end.queues end.asks
    go (says.Nodes count) (says.Seed seed) h = settled-still (blocks_of lines) end (lines-settled (blocks_of lines) lines (opened count seed) end h)
    go (says.Nodes count) _ h = absurd h
    go _ b h = absurd h

pub plays-end : (script : List ScriptLine) (end : PlayState) (i : ℕ) → Plays script end → Has (read_numbers script) i → HasResult (world_of end) i
plays-end script end i h n =
    let still = play-still script end h in
    let a = asker end.asks n.place i (subst (λ (ns : List ℕ). slice_get ns n.place ≡ Some i) (sym (plays_ask script end h)) n.there) in
    subst (λ (m : ℕ). HasResult (world_of end) m) a.2 (has-result end still a.0.reader (has-begun (world_of end) end.queues end.asks n.place a.0 still.readers a.1))
