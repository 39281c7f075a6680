-- What a connection of a primary carries, and what leaves it as it is.
use Rattle.std.proofs.Common.{◌≡◌, ℕ, ◌<◌, ◌≤◌, ◌⊎◌, inl, inr, Bool, false, List, [], ◌++◌, length, Option, Some, sym, ap, ◌∙◌, subst, arith, append-nil, length-append}
use Rattle.std.specs.Prelude.{IsSome}
use Rattle.world.specs.declared.events.Event.{Event}
use Rattle.world.specs.Parts.{Message, Dialled, Marks, Lower, idle, writes, serves, recovers, ended_below}
use Rattle.world.specs.Worlds.{World, Change, put, downs_with, ups_with, apply}
use Rattle.world.specs.Connections.{is_alive}
use Rattle.world_laws.specs.Growing.{Begins}
use Rattle.world_laws.proofs.GrowthLaws.{apply-grows}
use Rattle.world_orders.proofs.Lists.{dialled-before}
use Rattle.world_readings.proofs.Keeping.{IsMarked, shuts-keep, shuts-marked}

-- WHAT IT CARRIES

-- How many answers the lower end has sent, and requests taken: as many, and of one that has ended no more; the end stands then.
abbrev pub Fits : Lower → ℕ → ℕ → Option ℕ → Type 0
Fits idle answered taken end = (answered ≡ 0) × (taken ≡ 0)
Fits recovers answered taken end = answered ≡ taken
Fits ended_below answered taken end = (answered ≤ taken) × IsSome end
Fits other answered taken end = Unit {0}

-- A connection with this lower end, on which these messages were sent, and so many requests taken.
pub record Carries (l : Lower) (downs ups : List Message) (taken : ℕ) (um : Marks) (alive : Bool) : Type 0 where
  pub below : Fits l (length ups) taken um.end
  pub within : taken ≤ length downs
  pub marked : IsMarked um ups
  pub stopped : alive ≡ false → IsSome um.end

abbrev pub CarriesAt : World → ℕ → Type 0
CarriesAt w c = Carries (w.lowers c) (w.downs c) (w.ups c) (w.down_marks c).taken (w.up_marks c) (is_alive w (w.dialled c).to)

-- WHAT STAYS

-- Nothing is sent up or taken; what was shut stays so, as does the end where the node doesn't live.
pub record Stays (w v : World) (c : ℕ) : Type 0 where
  pub lower : v.lowers c ≡ w.lowers c
  pub ups : v.ups c ≡ w.ups c
  pub downs : length (w.downs c) ≤ length (v.downs c)
  pub down_taken : (v.down_marks c).taken ≡ (w.down_marks c).taken
  pub up_taken : (v.up_marks c).taken ≡ (w.up_marks c).taken
  pub over : (v.up_marks c).over ≡ (w.up_marks c).over
  pub end : IsSome (w.up_marks c).end → IsSome (v.up_marks c).end
  pub marked : IsMarked (w.up_marks c) (w.ups c) → IsMarked (v.up_marks c) (v.ups c)
  pub stopped : is_alive v (v.dialled c).to ≡ false → (is_alive w (w.dialled c).to ≡ false) ⊎ IsSome (v.up_marks c).end

-- What comes of a connection: it carries as it should, and as much was taken from it above; of what was sent down nothing is lost.
pub record Goes (w v : World) (c : ℕ) : Type 0 where
  pub carries : CarriesAt v c
  pub taken : (v.up_marks c).taken ≡ (w.up_marks c).taken
  pub over : (v.up_marks c).over ≡ (w.up_marks c).over
  pub downs : length (w.downs c) ≤ length (v.downs c)

fits-end : (l : Lower) (n t : ℕ) (e f : Option ℕ) → (IsSome e → IsSome f) → Fits l n t e → Fits l n t f
fits-end idle n t e f k h = h
fits-end (writes m) n t e f k h = tt
fits-end (serves b s) n t e f k h = tt
fits-end recovers n t e f k h = h
fits-end ended_below n t e f k h = (h.0, k h.1)

pub stays-goes : (w v : World) (c : ℕ) → Stays w v c → CarriesAt w c → Goes w v c
stays-goes w v c s x = record {
  carries = record {
    below = subst (λ (l : Lower). Fits l (length (v.ups c)) (v.down_marks c).taken (v.up_marks c).end) (sym s.lower)
        (subst (λ (ms : List Message). Fits (w.lowers c) (length ms) (v.down_marks c).taken (v.up_marks c).end) (sym s.ups)
        (subst (λ (n : ℕ). Fits (w.lowers c) (length (w.ups c)) n (v.up_marks c).end) (sym s.down_taken)
        (fits-end (w.lowers c) _ _ (w.up_marks c).end (v.up_marks c).end s.end x.below)));
    within = omega (arith, s.down_taken, s.downs, x.within);
    marked = s.marked x.marked;
    stopped = λ e. go (s.stopped e);
  };
  taken = s.up_taken;
  over = s.over;
  downs = s.downs;
}
  where
    go : (is_alive w (w.dialled c).to ≡ false) ⊎ IsSome (v.up_marks c).end → IsSome (v.up_marks c).end
    go (inl e) = s.end (x.stopped e)
    go (inr e) = e

pub stays-then : (w v u : World) (c : ℕ) → Stays w v c → Stays v u c → Stays w u c
stays-then w v u c s t = record {
  lower = t.lower ∙ s.lower;
  ups = t.ups ∙ s.ups;
  downs = omega (arith, s.downs, t.downs);
  down_taken = t.down_taken ∙ s.down_taken;
  up_taken = t.up_taken ∙ s.up_taken;
  over = t.over ∙ s.over;
  end = λ e. t.end (s.end e);
  marked = λ e. t.marked (s.marked e);
  stopped = λ e. go (t.stopped e);
}
  where
    go : (is_alive v (v.dialled c).to ≡ false) ⊎ IsSome (u.up_marks c).end → (is_alive w (w.dialled c).to ≡ false) ⊎ IsSome (u.up_marks c).end
    go (inl e) = further (s.stopped e)
      where
        further : (is_alive w (w.dialled c).to ≡ false) ⊎ IsSome (v.up_marks c).end → (is_alive w (w.dialled c).to ≡ false) ⊎ IsSome (u.up_marks c).end
        further (inl q) = inl q
        further (inr q) = inr (t.end q)
    go (inr e) = inr e

-- CHANGES

pub none-more : (ms ks : List Message) → ks ≡ [] → ms ++ ks ≡ ms
none-more ms ks e = ap (λ (xs : List Message). ms ++ xs) e ∙ append-nil ms

pub begins-longer : (xs ys : List Message) → Begins xs ys → length xs ≤ length ys
begins-longer xs ys b =
    let e : length (xs ++ b.rest) ≡ length ys = ap length b.joins in
    omega (arith, e, length-append xs b.rest)

-- a change of another lower end, which sends nothing up there
pub change-stays : (w : World) (k : Change) (c : ℕ) → c < w.next_conn → put w.lowers k.lower_at k.lower c ≡ w.lowers c → k.ups c ≡ [] → Stays w (apply w k) c
unfolding apply
change-stays w k c lt lower none =
    let marks = shuts-keep k.shuts (ups_with w k) w.up_marks c in
    record {
      lower = lower;
      ups = none-more (w.ups c) (k.ups c) none;
      downs = begins-longer (w.downs c) (downs_with w k c) ((apply-grows w k).downs c);
      down_taken = (shuts-keep k.shuts (downs_with w k) w.down_marks c).taken;
      up_taken = marks.taken;
      over = marks.over;
      end = marks.end;
      marked = λ h. shuts-marked k.shuts (ups_with w k) w.up_marks c (w.ups c) (omega (arith, length-append (w.ups c) (k.ups c))) h;
      stopped = λ e. inl (subst (λ (d : Dialled). is_alive w d.to ≡ false) (dialled-before w k c lt) e);
    }

-- Only marks, lives, replicas, the office or the last event differ.
pub still-stays : (w v : World) (c : ℕ) → v.lowers c ≡ w.lowers c → v.past ≡ w.past → (v.down_marks c).taken ≡ (w.down_marks c).taken → v.up_marks c ≡ w.up_marks c
    → (is_alive v (w.dialled c).to ≡ false → is_alive w (w.dialled c).to ≡ false) → Stays w v c
still-stays w v c lower past down up stopped = record {
  lower = lower;
  ups = ap (λ p. p.ups c) past;
  downs = omega (arith, ap (λ p. length (p.downs c)) past);
  down_taken = down;
  up_taken = ap (λ (k : Marks). k.taken) up;
  over = ap (λ (k : Marks). k.over) up;
  end = λ e. subst (λ (k : Marks). IsSome k.end) (sym up) e;
  marked = λ h. subst (λ (ms : List Message). IsMarked (v.up_marks c) ms) (sym (ap (λ p. p.ups c) past)) (subst (λ (k : Marks). IsMarked k (w.ups c)) (sym up) h);
  stopped = λ e. inl (stopped (subst (λ (d : Dialled). is_alive v d.to ≡ false) (ap (λ p. p.dialled c) past) e));
}

-- the event is named as the last one
pub named-goes : (w v : World) (e : Event) (c : ℕ) → Goes w v c → Goes w (record v { last = Some e }) c
named-goes w v e c g = record { carries = g.carries; taken = g.taken; over = g.over; downs = g.downs }
