-- FINALIZED replicas stay so.
use Rattle.std.proofs.Common.{◌≡◌, ℕ, suc, ◌≤◌, ◌⊎◌, inl, inr, Bool, true, false, List, Option, Some, None, IfSome, refl, sym, subst, arith}
use Rattle.replica_core.specs.declared.events.Event.TheVariants as core
use Rattle.replica_core.specs.declared.info.ReplicaInfo.{ReplicaInfo}
use Rattle.replica_model.specs.declared.events.ReplicaEvent.{ReplicaEvent}
use Rattle.replica_model.specs.declared.events.ReplicaEvent.TheVariants as replica_event
use Rattle.replica_model.specs.Rows.{FullReplica, IsFull, event_at, row, broken}
use Rattle.replica_model.specs.Plans.{plan, has_changing}
use Rattle.world_recoveries.specs.World.Event.{Event}
use Rattle.world_recoveries.specs.World.Parts.{Break}
use Rattle.world_recoveries.specs.World.Worlds.{World, start}
use Rattle.world_recoveries.specs.World.Nodes.{first_break}
use Rattle.world_recoveries.specs.World.Events.{outcome, after_event, happens, run}
use Rattle.world_recoveries.specs.WorldLaws.Stamping.{Givens, none_given, given_by, given_in}
use Rattle.world_recoveries.proofs.WorldLaws.AllRecorded.{Reached, reached-agreed, all-recorded}
use Rattle.world_recoveries.specs.WorldLaws.Carrying.{Under, Holds, Both, BreakSays, Carried}
use Rattle.world_recoveries.proofs.WorldLaws.AllCarried.{happens-carried, reached-facts, all-carried}
use Rattle.world_recoveries.specs.WorldLaws.Joining.{AtLeast, IsPlain}
use Rattle.world_recoveries.proofs.WorldLaws.AllSetUp.{all-set}
use Rattle.world_acks.specs.Closing.{FinalUnder, BrokeFinal, IsClosed, IsPassed, Closing, stays, passed, reopened, StaysClosed, HasClosed, StandsClosed}
use Rattle.world_acks.specs.Waiting.{IsQuiet}
use Rattle.world_acks.proofs.ClosedRows.{IsAgain, again-or, row-final, changing-later, restart-final}
use Rattle.world_acks.proofs.ClosedMoves.{Went, rests, takes, breaks_in, is_found, AllGo, outcome-on}

-- LATER STAMPS

under-passed : (g : Givens) (v : World) (b stamp : ℕ) (i : ReplicaInfo) (xs : List ℕ) → suc stamp ≤ i.stamp.0 → Under g v.past b i.stamp xs → IsPassed g b stamp
under-passed g v b stamp i xs le u = record { later = i.stamp.0; session = u.session; given = u.given; above = omega (arith, le) }

-- a replica's stamp was given for its block
replica-passed : (g : Givens) (v : World) (n b stamp : ℕ) (r : FullReplica) → Carried g v → v.replicas n b ≡ r → AtLeast r.known.info (suc stamp) → IsPassed g b stamp
replica-passed g v n b stamp r c e a =
    let x : IfSome r.known.info (Holds g v.past b r.bytes) = subst (λ (y : FullReplica). IfSome y.known.info (Holds g v.past b y.bytes)) e (c.replicas n b).info in
    let h : Holds g v.past b r.bytes a.info = subst (λ (o : Option ReplicaInfo). IfSome o (Holds g v.past b r.bytes)) a.is x in
    under-passed g v b stamp a.info r.bytes a.least h.under

-- and so was the stamp that an event gives it in which it broke
break-passed : (g : Givens) (v : World) (n b stamp : ℕ) (x : Break) → Carried g v → v.breaks n b ≡ Some x → AtLeast (row x.before x.event).known.info (suc stamp) → IsPassed g b stamp
break-passed g v n b stamp x c e a =
    let y : BreakSays g v.past b x = subst (λ (o : Option Break). IfSome o (BreakSays g v.past b)) e (c.breaks n b) in
    let h : Both g v.past b x.before.bytes (row x.before x.event).bytes a.info =
    subst (λ (o : Option ReplicaInfo). IfSome o (Both g v.past b x.before.bytes (row x.before x.event).bytes)) a.is y.new in
    under-passed g v b stamp a.info x.before.bytes a.least h.before

-- AN EVENT

abbrev After : Givens → World → World → ℕ → ℕ → ℕ → Type 0
After g w v b stamp n = Closing g w v b stamp n

closed-as : (g : Givens) (w v : World) (n b stamp : ℕ) → FinalUnder stamp (v.replicas n b).known.info → IfSome (v.breaks n b) (BrokeFinal stamp) → After g w v b stamp n
closed-as g w v n b stamp r o = stays (record { replica = r; broke = o })

-- it takes an event
taken-closes : (g : Givens) (w v : World) (n b stamp : ℕ) (e : ReplicaEvent) → Carried g v → v.replicas n b ≡ row (w.replicas n b) e → v.breaks n b ≡ w.breaks n b → IfSome (w.breaks n b) (BrokeFinal stamp)
    → FinalUnder stamp (row (w.replicas n b) e).known.info ⊎ AtLeast (row (w.replicas n b) e).known.info (suc stamp) → After g w v b stamp n
taken-closes g w v n b stamp e c q p k (inl f) =
    closed-as g w v n b stamp (subst (λ (r : FullReplica). FinalUnder stamp r.known.info) (sym q) f) (subst (λ (o : Option Break). IfSome o (BrokeFinal stamp)) (sym p) k)
taken-closes g w v n b stamp e c q p k (inr a) = passed (replica-passed g v n b stamp (row (w.replicas n b) e) c q a)

-- the break that then counts
broken-as : (g : Givens) (w v : World) (n b stamp : ℕ) (e : ReplicaEvent) (o : Option Break) → Carried g v → FinalUnder stamp (v.replicas n b).known.info → FinalUnder stamp (w.replicas n b).known.info → IfSome o (BrokeFinal stamp)
    → v.breaks n b ≡ first_break o (w.replicas n b) e → (has_changing (plan (w.replicas n b) e) ≡ true → AtLeast (row (w.replicas n b) e).known.info (suc stamp)) → After g w v b stamp n
broken-as g w v n b stamp e (Some x) c f h k p later = closed-as g w v n b stamp f (subst (λ (o : Option Break). IfSome o (BrokeFinal stamp)) (sym p) k)
broken-as g w v n b stamp e None c f h k p later = go (has_changing (plan (w.replicas n b) e)) refl
  where
    go : (t : Bool) → has_changing (plan (w.replicas n b) e) ≡ t → After g w v b stamp n
    go true q = passed (break-passed g v n b stamp (record { before = w.replicas n b; event = e }) c p (later q))
    go false q = closed-as g w v n b stamp f (subst (λ (o : Option Break). IfSome o (BrokeFinal stamp)) (sym p) (record { unchanged = q; before = h }))

breaks-close : (g : Givens) (w v : World) (n b stamp : ℕ) (e : ReplicaEvent) → Carried g v → IsFull (w.replicas n b) → IfSome (w.replicas n b).known.info IsPlain → (IsAgain stamp (event_at (w.replicas n b) e) → ⊥)
    → v.replicas n b ≡ broken (w.replicas n b) → v.breaks n b ≡ first_break (w.breaks n b) (w.replicas n b) e → IsClosed w b stamp n
    → FinalUnder stamp (broken (w.replicas n b)).known.info ⊎ AtLeast (broken (w.replicas n b)).known.info (suc stamp) → After g w v b stamp n
breaks-close g w v n b stamp e c full plain never q p h (inr a) = passed (replica-passed g v n b stamp (broken (w.replicas n b)) c q a)
breaks-close g w v n b stamp e c full plain never q p h (inl f) =
    broken-as g w v n b stamp e (w.breaks n b) c (subst (λ (r : FullReplica). FinalUnder stamp r.known.info) (sym q) f) h.replica h.broke p (λ z. changing-later (w.replicas n b) e stamp full plain never h.replica z)

fault-isnt-again : (stamp : ℕ) → IsAgain stamp core.FileFault → ⊥
fault-isnt-again stamp a = a

pub went-closes : (g : Givens) (w v : World) (n b stamp : ℕ) → Carried g v → IsFull (w.replicas n b) → IfSome (w.replicas n b).known.info IsPlain → IsClosed w b stamp n
    → Went w.past w.lowers n b (w.replicas n b) (w.breaks n b) (v.replicas n b) (v.breaks n b) → After g w v b stamp n
went-closes g w v n b stamp c full plain h (rests q p) =
    closed-as g w v n b stamp (subst (λ (r : FullReplica). FinalUnder stamp r.known.info) (sym q) h.replica) (subst (λ (o : Option Break). IfSome o (BrokeFinal stamp)) (sym p) h.broke)
went-closes g w v n b stamp c full plain h (takes e q p again) = go (again-or stamp (event_at (w.replicas n b) e))
  where
    go : IsAgain stamp (event_at (w.replicas n b) e) ⊎ (IsAgain stamp (event_at (w.replicas n b) e) → ⊥) → After g w v b stamp n
    go (inl a) = reopened (again stamp a)
    go (inr never) = taken-closes g w v n b stamp e c q p h.broke (row-final (w.replicas n b) e stamp plain never h.replica)
went-closes g w v n b stamp c full plain h (breaks_in e q p again) = go (again-or stamp (event_at (w.replicas n b) e))
  where
    go : IsAgain stamp (event_at (w.replicas n b) e) ⊎ (IsAgain stamp (event_at (w.replicas n b) e) → ⊥) → After g w v b stamp n
    go (inl a) = reopened (again stamp a)
    go (inr never) =
        breaks-close g w v n b stamp e c full plain never q p h
        (row-final (w.replicas n b) (replica_event.Other core.FileFault) stamp plain (fault-isnt-again stamp) h.replica)
went-closes g w v n b stamp c full plain h (is_found f q p) =
    closed-as g w v n b stamp (subst (λ (r : FullReplica). FinalUnder stamp r.known.info) (sym q) (restart-final b stamp (w.replicas n b) (w.breaks n b) f h.replica h.broke))
    (subst (λ (o : Option Break). IfSome o (BrokeFinal stamp)) (sym p) tt)

-- NODES THAT STAND CLOSED

-- a later world: stamps that were given stay so, each replica goes on, and a stamp under which no request waits stays so
pub record GoesOn (g k : Givens) (w v : World) : Type 0 where
  pub given : (b s e : ℕ) → g b s ≡ Some e → k b s ≡ Some e
  pub went : AllGo w v
  pub carried : Carried k v
  pub full : (n b : ℕ) → IsFull (w.replicas n b)
  pub plain : (n b : ℕ) → IfSome (w.replicas n b).known.info IsPlain
  pub quiet : (s : ℕ) → IsQuiet w s → IsQuiet v s

pub stands-on : (g k : Givens) (w v : World) (b s n : ℕ) → GoesOn g k w v → StandsClosed g w b s n → StandsClosed k v b s n
stands-on g k w v b s n o h = record { has = go h.has; quiet = o.quiet s h.quiet }
  where
    by : Closing k w v b s n → HasClosed k v b s n
    by (stays x) = inl x
    by (passed x) = inr x
    by (reopened x) = absurd (h.quiet.none x.conn x.fields (record { first = x.first; waits = x.waits }) x.is x.stage)

    go : HasClosed g w b s n → HasClosed k v b s n
    go (inl x) = by (went-closes k w v n b s o.carried (o.full n b) (o.plain n b) x (o.went.each n b))
    go (inr x) = inr (record { later = x.later; session = x.session; given = o.given b x.later x.session x.given; above = x.above })

-- the outcome, or the world as it was
after-closes : (g : Givens) (w : World) (e : Event) (o : Option World) (n b stamp : ℕ) → IfSome o (AllGo w) → Carried g (after_event w e o) → IsFull (w.replicas n b) → IfSome (w.replicas n b).known.info IsPlain → IsClosed w b stamp n
    → After g w (after_event w e o) b stamp n
after-closes g w e None n b stamp y c full plain h = stays h
after-closes g w e (Some v) n b stamp y c full plain h = went-closes g w (record v { last = Some e }) n b stamp c full plain h (y.each n b)

happens-closes : (f g : Givens) (w : World) (e : Event) (n b stamp : ℕ) → Carried f w → Carried g (happens w e) → IsFull (w.replicas n b) → IfSome (w.replicas n b).known.info IsPlain → IsClosed w b stamp n → After g w (happens w e) b stamp n
unfolding happens
happens-closes f g w e n b stamp old c full plain h = after-closes g w e (outcome w e) n b stamp (outcome-on f w e old) c full plain h

pub closed-stays : StaysClosed
closed-stays nodes events e b stamp n h =
    let w = run (start nodes) events in
    let g = given_in none_given (start nodes) events in
    let r : Reached w = record { nodes = nodes; events = events; is = refl } in
    let c = all-carried nodes events in
    let facts = reached-facts g w r (all-recorded nodes events) c in
    happens-closes g (given_by g w e) w e n b stamp c (happens-carried g w e facts (reached-agreed w r)) (facts.full n b) ((all-set nodes events).plain n b) h
