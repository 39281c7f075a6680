-- A reader that has begun and has no result goes on, after every list of events.
use Rattle.std.proofs.Common.{◌≡◌, ℕ, zero, suc, ◌<◌, ◌≤◌, Bool, true, false, List, [], ◌∷◌, length, slice_get, Option, Some, None, IfSome, refl, sym, ap, ◌∙◌, subst, arith}
use Rattle.std.specs.Prelude.{◌&&◌, nat_lt, if◌then◌else◌, is_some, option_map, IsSome}
use Rattle.std.proofs.lemmas.Bool.Decides.{nat_tests}
use Rattle.std.proofs.lemmas.Option.{none-some}
use Rattle.read_core.specs.declared.serving.ServePhase.{ServePhase}
use Rattle.read_core.specs.declared.serving.ServePhase.TheVariants as phase
use Rattle.read_core.specs.Laws.{after}
use Rattle.read_core.specs.Readings.{ReadingState}
use Rattle.read_core.specs.Servings.{ServingState, call_at}
use Rattle.world.specs.declared.events.Event.{Event}
use Rattle.world.specs.Parts.{Message, Upper, Marks, Lower, idle, writes, serves, recovers, ended_below, Reader, reads}
use Rattle.world.specs.Worlds.{World, start}
use Rattle.world.specs.Connections.{Next, message, the_end, ends_at, next_on, next_down, next_up, is_alive, is_served}
use Rattle.world.specs.Enabled.{takes_down, acts_below, reads_from, takes_above, can_up}
use Rattle.world.specs.Events.{run}
use Rattle.world_orders.specs.Open.{IsOpenBelow, OpenEnds}
use Rattle.world_orders.specs.Orders.{IsBelow, Ordered}
use Rattle.world_orders.proofs.AllOpen.{all-open}
use Rattle.world_orders.proofs.AllOrdered.{all-ordered}
use Rattle.world_orders.proofs.Kept.{eqb-itself}
use Rattle.world_readings.specs.Going.{GoesOn, takes, begins, sends}
use Rattle.world_readings.proofs.AllReads.{all-reads}
use Rattle.world_readings.proofs.Giving.{Below, Serves, HasTaken, awaits, receives}
use Rattle.world_readings.proofs.Keeping.{IsMarked, ConnRead, IsOf, ReaderFits, Reads}

both : (a b : Bool) → a ≡ true → b ≡ true → (a && b) ≡ true
both true b p q = q
both false b p q = cc

-- WHERE NOTHING STANDS NEXT

get-past : (xs : List Message) (n : ℕ) → slice_get xs n ≡ None → length xs ≤ n
get-past [] n e = omega arith
get-past (x ∷ xs) zero e = absurd (none-some x (sym e))
get-past (x ∷ xs) (suc n) e = omega (arith, get-past xs n e)

-- all was taken, and the end doesn't stand behind it
record IsQuiet (sent : List Message) (k : Marks) : Type 0 where
  all : length sent ≤ k.taken
  no_end : ends_at k.end k.taken ≡ false

quiet : (sent : List Message) (k : Marks) → k.over ≡ false → next_on sent k ≡ None → IsQuiet sent k
quiet sent k unended e = go k.over (ends_at k.end k.taken) refl unended e
  where
    no-message : (o : Option Message) → option_map message o ≡ None → o ≡ None
    no-message None q = refl
    no-message (Some m) q = cc

    go : (a b : Bool) → ends_at k.end k.taken ≡ b → a ≡ false → (if a then None else (if b then Some the_end else option_map message (slice_get sent k.taken))) ≡ None → IsQuiet sent k
    go true b is o q = cc
    go false true is o q = cc
    go false false is o q = record { all = get-past sent k.taken (no-message (slice_get sent k.taken) q); no_end = is }

-- the end can't stand then
end-none : (sent : List Message) (k : Marks) → IsMarked k sent → IsQuiet sent k → IsSome k.end → ⊥
end-none sent k m q some = go k.end m.end q.no_end some
  where
    go : (o : Option ℕ) → IfSome o (λ e. e ≤ length sent) → ends_at o k.taken ≡ false → IsSome o → ⊥
    go None h n s = cc
    go (Some e) h n s = grind (arith, nat_tests, h, n, q.all)

-- WHERE SOMETHING IS TO BE TAKEN

next-there : (sent : List Message) (k : Marks) → k.over ≡ false → k.taken < length sent → is_some (next_on sent k) ≡ true
next-there sent k unended lt = go (next_on sent k) refl
  where
    go : (o : Option Next) → next_on sent k ≡ o → is_some o ≡ true
    go (Some x) e = refl
    go None e = absurd (omega (arith, (quiet sent k unended e).all, lt))

module _ (w : World) (i c : ℕ) (s : ReadingState) (h : Reads w) (g : Ordered w) (o : OpenEnds w) (is : w.readers i ≡ reads c s) where
  f : IsOf w.past i c
  f = subst (ReaderFits w i) is (h.readers i)

  x : ConnRead w i c
  x = h.conns i c f

  known : nat_lt c w.next_conn ≡ true
  known = below c w.next_conn f.known
    where
      below : (a b : ℕ) → a < b → nat_lt a b ≡ true
      below a b lt = grind (arith, nat_tests, lt)

  -- the reader takes what stands next
  reader-takes : is_some (next_up w c) ≡ true → can_up w c ≡ true
  reader-takes some =
      let above : takes_above (w.dialled c).upper w c ≡ true = ap (λ (u : Upper). takes_above u w c) f.upper ∙ ap (λ (r : Reader). reads_from r c) is ∙ eqb-itself c in
      rw known (rw some above)

  module _ (none : IsQuiet (w.ups c) (w.up_marks c)) where
    no-end : IsSome (w.up_marks c).end → ⊥
    no-end = end-none (w.ups c) (w.up_marks c) x.marked none

    alive : is_alive w (w.dialled c).to ≡ true
    alive = go (is_alive w (w.dialled c).to) refl
      where
        go : (b : Bool) → is_alive w (w.dialled c).to ≡ b → b ≡ true
        go true e = refl
        go false e = absurd (no-end (x.stopped e))

    served : is_served w c ≡ true
    served = both (nat_lt c w.next_conn) (is_alive w (w.dialled c).to) known alive

    -- the node hasn't taken the request
    node-begins : w.lowers c ≡ idle → GoesOn w c
    node-begins l =
        let unended : (w.down_marks c).over ≡ false = subst (λ (z : Lower). IsOpenBelow z (w.down_marks c).over) l (o.below c) in
        let zero : (w.down_marks c).taken ≡ 0 = (subst (IsBelow (w.dialled c).upper (w.down_marks c).taken (w.ups c)) l (g.below c)).0 in
        let next : is_some (next_down w c) ≡ true = next-there (w.downs c) (w.down_marks c) unended (omega (arith, zero, g.begun c f.known)) in
        begins l (both (is_served w c) _ served (subst (λ (z : Lower). takes_down z w c (next_down w c) ≡ true) (sym l) (taken (next_down w c) next)))
      where
        taken : (y : Option Next) → is_some y ≡ true → takes_down idle w c y ≡ true
        taken None e = cc
        taken (Some y) e = refl

    -- it is to send a packet
    sends-on : (n : ℕ) (t : ServingState) → (v : Serves x.read x.start (w.ups c) t) → HasTaken x.read x.start s n (w.ups c) → length (w.ups c) ≤ n → t.phase ≡ phase.Sending
    sends-on n t v (awaits e r) le = absurd (omega (arith, e, le, v.all))
    sends-on n t v (receives m e q p r) le =
        let same : m ≡ v.count = omega (arith, e, q, le, v.all) in
        ap (λ (u : ServingState). u.phase) v.is ∙ ap (λ (k : ℕ). (after x.start k).phase) (sym same) ∙ p

    node-goes : (l : Lower) → w.lowers c ≡ l → Below x.read x.start (w.ups c) l → GoesOn w c
    node-goes idle e b = node-begins e
    node-goes (writes m) e b = absurd b
    node-goes (serves n t) e b =
        let sending = sends-on (w.up_marks c).taken t b (x.taken s is) none.all in
        let acts : acts_below (w.lowers c) w c ≡ true = ap (λ (z : Lower). acts_below z w c) e ∙ ap (λ (p : ServePhase). is_some (call_at p t)) sending in
        sends n t e (both (is_served w c) (acts_below (w.lowers c) w c) served acts)
    node-goes recovers e b = absurd b
    node-goes ended_below e b = absurd (no-end (x.ended e))

  goes-on : GoesOn w c
  goes-on = go (next_up w c) refl
    where
      go : (y : Option Next) → next_up w c ≡ y → GoesOn w c
      go (Some y) e = takes (reader-takes (ap is_some e))
      go None e = node-goes (quiet (w.ups c) (w.up_marks c) (x.open_yet s is) e) (w.lowers c) refl x.below

pub all-go-on : (nodes : ℕ) (events : List Event) (i c : ℕ) (s : ReadingState) → (run (start nodes) events).readers i ≡ reads c s → GoesOn (run (start nodes) events) c
all-go-on nodes events i c s is = goes-on (run (start nodes) events) i c s (all-reads nodes events) (all-ordered nodes events) (all-open nodes events) is
