-- A primary that leads at a node that lives on goes on, after every list of events.
use Rattle.std.proofs.Common.{◌≡◌, ℕ, zero, suc, ◌<◌, ◌≤◌, Bool, true, false, cond, List, [], ◌∷◌, length, slice_get, Option, Some, None, IfSome, Result, Ok, Err, refl, sym, ap, ◌∙◌, subst, arith}
use Rattle.std.specs.Prelude.{◌&&◌, ◌||◌, nat_lt, if◌then◌else◌, is_some, is_none, option_map, IsSome}
use Rattle.std.proofs.lemmas.Bool.Decides.{nat_tests}
use Rattle.std.proofs.lemmas.Option.{none-some}
use Rattle.hd_base.specs.declared.numbers.NodeId.{NodeId}
use Rattle.name_core.specs.Choice.{choice}
use Rattle.name_core.specs.declared.choice.ChooseFault.{ChooseFault}
use Rattle.name_core.specs.declared.choice.Chosen.{Chosen}
use Rattle.world.specs.RecoveryCore.OwnStep.{OwnStep}
use Rattle.world.specs.RecoveryCore.OwnStep.TheVariants as own
use Rattle.world.specs.RecoveryCore.Phase.{Phase}
use Rattle.world.specs.RecoveryCore.Phase.TheVariants as phase
use Rattle.world.specs.RecoveryCore.Standing.{Standing}
use Rattle.world.specs.RecoveryCore.Standing.TheVariants as standing
use Rattle.world.specs.RecoveryCore.Primaries.{PrimaryState, choosing, committing, infos, is_awaited, is_commit, own_at, own_step, taken, updated_members, waits}
use Rattle.world.specs.declared.events.Event.{Event}
use Rattle.world.specs.Parts.{Message, Upper, by_primary, Marks, Lower, idle, writes, serves, recovers, ended_below, Told, Leading, Primary, leads}
use Rattle.world.specs.Worlds.{World, start}
use Rattle.world.specs.Connections.{Next, message, the_end, ends_at, next_on, next_down, next_up, is_alive, is_served}
use Rattle.world.specs.Enabled.{takes_down, takes_above, can_up, can_down, leads_from, leads_on, leads_step_on, listens_at, primary_has_asked}
use Rattle.world.specs.Events.{run}
use Rattle.world.specs.Primaries.{listens}
use Rattle.world_laws.specs.Placing.{IsPrimary, Placed}
use Rattle.world_laws.proofs.PlacedLaws.{all-placed}
use Rattle.world_orders.specs.Open.{IsOpenBelow, OpenEnds}
use Rattle.world_orders.specs.Orders.{Ordered, PrimaryIs, purpose_of}
use Rattle.world_orders.proofs.AllOpen.{all-open}
use Rattle.world_orders.proofs.AllOrdered.{all-ordered}
use Rattle.world_readings.proofs.Keeping.{IsMarked}
use Rattle.world_recovery_ends.specs.Going.{IsOf, takes_request, GoesOn, hears, answers, steps, asks}
use Rattle.world_recovery_ends.proofs.Conns.{Fits, CarriesAt}
use Rattle.world_recovery_ends.proofs.Answering.{IsRecovering, takes, ended, recovering-lower, even}
use Rattle.world_recovery_ends.proofs.Leading.{Awaits, Stands, is_over, LeadingFits, PrimaryFits}
use Rattle.world_recovery_ends.proofs.AllLeading.{all-fit}

both : (a b : Bool) → a ≡ true → b ≡ true → (a && b) ≡ true
both true b p q = q
both false b p q = cc

-- WHERE NOTHING STANDS NEXT

get-past : (xs : List Message) (n : ℕ) → slice_get xs n ≡ None → length xs ≤ n
get-past [] n e = omega arith
get-past (x ∷ xs) zero e = absurd (none-some x (sym e))
get-past (x ∷ xs) (suc n) e = omega (arith, get-past xs n e)

-- all was taken, and the end doesn't stand behind it
record IsQuiet (sent : List Message) (k : Marks) : Type 0 where
  all : length sent ≤ k.taken
  no_end : ends_at k.end k.taken ≡ false

quiet : (sent : List Message) (k : Marks) → k.over ≡ false → next_on sent k ≡ None → IsQuiet sent k
quiet sent k unended e = go k.over (ends_at k.end k.taken) refl unended e
  where
    no-message : (o : Option Message) → option_map message o ≡ None → o ≡ None
    no-message None q = refl
    no-message (Some m) q = cc

    go : (a b : Bool) → ends_at k.end k.taken ≡ b → a ≡ false → (if a then None else (if b then Some the_end else option_map message (slice_get sent k.taken))) ≡ None → IsQuiet sent k
    go true b is o q = cc
    go false true is o q = cc
    go false false is o q = record { all = get-past sent k.taken (no-message (slice_get sent k.taken) q); no_end = is }

-- the end can't stand then
end-none : (sent : List Message) (k : Marks) → IsMarked k sent → IsQuiet sent k → IsSome k.end → ⊥
end-none sent k m q some = go k.end m.end q.no_end some
  where
    go : (o : Option ℕ) → IfSome o (λ e. e ≤ length sent) → ends_at o k.taken ≡ false → IsSome o → ⊥
    go None h n s = cc
    go (Some e) h n s = grind (arith, nat_tests, h, n, q.all)

next-there : (sent : List Message) (k : Marks) → k.over ≡ false → k.taken < length sent → is_some (next_on sent k) ≡ true
next-there sent k unended lt = go (next_on sent k) refl
  where
    go : (o : Option Next) → next_on sent k ≡ o → is_some o ≡ true
    go (Some x) e = refl
    go None e = absurd (omega (arith, (quiet sent k unended e).all, lt))

-- WHERE AN ANSWER IS AWAITED

-- A member of which an answer is awaited.
record AwaitedAt (ss : List Standing) : Type 0 where
  place : ℕ
  standing : Standing
  there : slice_get ss place ≡ Some standing
  awaited : is_awaited standing ≡ true

awaited-at : (ss : List Standing) → waits ss ≡ true → AwaitedAt ss
awaited-at [] e = cc
awaited-at (s ∷ ss) e = go (is_awaited s) refl (awaited-at ss) e
  where
    go : (b : Bool) → is_awaited s ≡ b → (waits ss ≡ true → AwaitedAt ss) → (b || waits ss) ≡ true → AwaitedAt (s ∷ ss)
    go true q rest f = record { place = 0; standing = s; there = refl; awaited = q }
    go false q rest f =
        let a = rest f in
        record { place = suc a.place; standing = a.standing; there = a.there; awaited = a.awaited }

awaits-there : (w : World) (conns : List (Option ℕ)) (place : ℕ) (s : Standing) → is_awaited s ≡ true → Stands w conns place s → Awaits w conns place
awaits-there w conns place standing.Unreached e h = cc
awaits-there w conns place standing.Asked e h = h
awaits-there w conns place (standing.Told state stamp bytes over) e h = cc
awaits-there w conns place standing.Out e h = cc
awaits-there w conns place standing.Updating e h = h
awaits-there w conns place standing.Updated e h = cc

-- A primary that isn't over and waits awaits an answer.
choosing-acts : (p : PrimaryState) (r : Result Chosen ChooseFault) → (choosing p r).does ≡ own.Waits → ⊥
choosing-acts p (Ok c) e = cc
choosing-acts p (Err f) e = cc

committing-acts : (p : PrimaryState) (bytes : ℕ) (nodes : List NodeId) → (committing p bytes nodes).does ≡ own.Waits → ⊥
committing-acts p bytes [] e = cc
committing-acts p bytes (n ∷ nodes) e = cc

own-at-acts : (q : Phase) (p : PrimaryState) → is_over q ≡ false → (own_at q p).does ≡ own.Waits → ⊥
own-at-acts phase.Informing p n e = choosing-acts p (choice p.begun.committed (infos p.members p.standings)) e
own-at-acts (phase.Updating bytes) p n e = committing-acts p bytes (updated_members p.members p.standings) e
own-at-acts phase.Over p n e = cc

waits-so : (p : PrimaryState) → is_over p.phase ≡ false → (own_step p).does ≡ own.Waits → waits p.standings ≡ true
waits-so p n e = go (waits p.standings) refl e
  where
    go : (b : Bool) → waits p.standings ≡ b → (cond b (taken p own.Waits) (own_at p.phase p)).does ≡ own.Waits → b ≡ true
    go true q f = refl
    go false q f = absurd (own-at-acts p.phase p n f)

listens-so : (q : Phase) (s : Standing) → is_over q ≡ false → is_awaited s ≡ true → listens q s ≡ true
listens-so phase.Informing s n a = refl
listens-so (phase.Updating bytes) s n a = a
listens-so phase.Over s n a = cc

module _ (w : World) (i : ℕ) (l : Leading) (p : Placed w) (g : Ordered w) (o : OpenEnds w) (h : LeadingFits w l) (is : w.primaries i ≡ leads l) (alive : is_alive w l.at ≡ true) (untold : l.told ≡ None) where
  module _ (place : ℕ) (s : Standing) (there : slice_get l.state.standings place ≡ Some s) (awaited : is_awaited s ≡ true) (a : Awaits w l.conns place) where
    c : ℕ
    c = a.from.conn

    lt : c < w.next_conn
    unfolding c
    lt = (subst (IsPrimary w.nodes w.next_conn) is (p.primaries i)).conns_of place a.from.conn a.from.there

    upper : (w.dialled c).upper ≡ by_primary i place
    unfolding c
    upper = (subst (PrimaryIs w.dialled i) is (g.primaries_are i)) place a.from.conn a.from.there

    x : CarriesAt w c
    unfolding c
    x = h.conns place a.from.conn a.from.there

    mine : IsOf w i c
    mine = record { known = lt; place = place; upper = upper }

    below : nat_lt c w.next_conn ≡ true
    below = go c w.next_conn lt
      where
        go : (m n : ℕ) → m < n → nat_lt m n ≡ true
        go m n e = grind (arith, nat_tests, e)

    -- the primary takes what stands next
    primary-hears : is_some (next_up w c) ≡ true → can_up w c ≡ true
    primary-hears some =
        let hears_so : listens_at l.state.phase (slice_get l.state.standings place) ≡ true = ap (listens_at l.state.phase) there ∙ listens-so l.state.phase s h.unfinished awaited in
        let none : is_none l.told ≡ true = ap is_none untold in
        let from : leads_from (leads l) w place ≡ true = rw alive (rw none hears_so) in
        let above : takes_above (w.dialled c).upper w c ≡ true = ap (λ (u : Upper). takes_above u w c) upper ∙ ap (λ (q : Primary). leads_from q w place) is ∙ from in
        rw below (rw some above)

    module _ (none : IsQuiet (w.ups c) (w.up_marks c)) where
      no-end : IsSome (w.up_marks c).end → ⊥
      no-end = end-none (w.ups c) (w.up_marks c) x.marked none

      lives : is_alive w (w.dialled c).to ≡ true
      lives = go (is_alive w (w.dialled c).to) refl
        where
          go : (b : Bool) → is_alive w (w.dialled c).to ≡ b → b ≡ true
          go true e = refl
          go false e = absurd (no-end (x.stopped e))

      served : is_served w c ≡ true
      served = both (nat_lt c w.next_conn) (is_alive w (w.dialled c).to) below lives

      -- the member's node takes the request
      takes-it : takes_request (w.lowers c) ≡ true → can_down w c ≡ true
      unfolding c
      takes-it t =
          let same = even (w.lowers c) (length (w.ups c)) (w.down_marks c).taken (w.up_marks c).end t x.below in
          let some = next-there (w.downs c) (w.down_marks c) (unended (w.lowers c) (w.down_marks c).over t (o.below c)) (omega (arith, same, none.all, a.more)) in
          both (is_served w c) _ served (takes-next (w.lowers c) (next_down w c) t some)
        where
          unended : (z : Lower) (over : Bool) → takes_request z ≡ true → IsOpenBelow z over → over ≡ false
          unended idle over t e = e
          unended (writes m) over t e = cc
          unended (serves b q) over t e = cc
          unended recovers over t e = e
          unended ended_below over t e = cc

          takes-next : (z : Lower) (y : Option Next) → takes_request z ≡ true → is_some y ≡ true → takes_down z w c y ≡ true
          takes-next z None t e = cc
          takes-next idle (Some y) t e = refl
          takes-next (writes m) (Some y) t e = cc
          takes-next (serves b q) (Some y) t e = cc
          takes-next recovers (Some y) t e = refl
          takes-next ended_below (Some y) t e = cc

      node-goes : IsRecovering (w.lowers c) → GoesOn w i
      node-goes (takes t) = answers c mine t (takes-it t)
      node-goes (ended e) = absurd (no-end (subst (λ (z : Lower). Fits z (length (w.ups c)) (w.down_marks c).taken (w.up_marks c).end) e x.below).1)

    awaited-goes : GoesOn w i
    unfolding c
    awaited-goes = go (next_up w c) refl
      where
        go : (y : Option Next) → next_up w a.from.conn ≡ y → GoesOn w i
        go (Some y) e = hears c mine (primary-hears (ap is_some e))
        go None e = node-goes (quiet (w.ups c) (w.up_marks c) a.from.unended e) (recovering-lower w c g (ap purpose_of upper))

  waiting-goes : (own_step l.state).does ≡ own.Waits → GoesOn w i
  waiting-goes e =
      let a = awaited-at l.state.standings (waits-so l.state h.unfinished e) in
      awaited-goes a.place a.standing a.there a.awaited (awaits-there w l.conns a.place a.standing a.awaited (h.stands a.place a.standing a.there))

  -- its own step is next
  own-goes : (s : OwnStep) → (own_step l.state).does ≡ s → GoesOn w i
  own-goes own.Waits e = waiting-goes e
  own-goes (own.Updates c) e = steps (ap (λ (q : Primary). leads_step_on q w) is ∙ rw alive (ap (leads_on l.told) e ∙ ap is_none untold))
  own-goes (own.Commits c) e = asks (ap (λ (q : Primary). primary_has_asked q w) is ∙ rw alive (rw untold (rw e refl)))
  own-goes (own.Ends r) e = steps (ap (λ (q : Primary). leads_step_on q w) is ∙ rw alive (ap (leads_on l.told) e ∙ ap is_none untold))

leading-goes : (w : World) (i : ℕ) (l : Leading) → Placed w → Ordered w → OpenEnds w → LeadingFits w l → w.primaries i ≡ leads l → is_alive w l.at ≡ true → GoesOn w i
leading-goes w i l p g o h is alive = go l.told refl
  where
    told-commits : (t : Told) (s : OwnStep) → is_commit s ≡ true → leads_on (Some t) s ≡ true
    told-commits t own.Waits e = cc
    told-commits t (own.Updates c) e = cc
    told-commits t (own.Commits c) e = refl
    told-commits t (own.Ends r) e = cc

    go : (t : Option Told) → l.told ≡ t → GoesOn w i
    go None e = own-goes w i l p g o h is alive e (own_step l.state).does refl
    go (Some t) e =
        let commits = h.answered (ap is_some e) in
        steps (ap (λ (q : Primary). leads_step_on q w) is ∙ rw alive (ap (λ (q : Option Told). leads_on q (own_step l.state).does) e ∙ told-commits t (own_step l.state).does commits))

pub all-go-on : (nodes : ℕ) (events : List Event) (i : ℕ) (l : Leading) → (run (start nodes) events).primaries i ≡ leads l → is_alive (run (start nodes) events) l.at ≡ true → GoesOn (run (start nodes) events) i
all-go-on nodes events i l is alive =
    let w = run (start nodes) events in
    leading-goes w i l (all-placed nodes events) (all-ordered nodes events) (all-open nodes events) (subst (PrimaryFits w) is (all-fit nodes events i)) is alive
