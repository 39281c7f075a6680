-- The events of primaries after every list of events.
use Rattle.std.proofs.Common.{◌≡◌, ℕ, ◌<◌, ◌≤◌, ◌+◌, true, false, [], ◌∷◌, ◌++◌, Option, Some, None, IfSome, refl, sym, ◌∙◌, subst, arith}
use Rattle.std.specs.Prelude.{is_some, nat_lt}
use Rattle.std.proofs.lemmas.Bool.Decides.{nat_tests}
use Rattle.std.proofs.lemmas.Bool.{false≢true}
use Rattle.world_texts.proofs.WorldLaws.PlacedLaws.{all-placed}
use Rattle.world_texts.proofs.WorldLaws.RunLaws.{runs-end}
use Rattle.world.specs.declared.events.Caller.TheVariants as caller
use Rattle.world.specs.declared.events.Event.{Event}
use Rattle.world.specs.declared.events.Event.TheVariants as event
use Rattle.world.specs.declared.events.OwnStep.TheVariants as own
use Rattle.world.specs.Parts.{Upper, by_primary}
use Rattle.world.specs.Worlds.{World, Change, apply, start}
use Rattle.world.specs.Connections.{Next, next_up, up_taken}
use Rattle.world.specs.Primaries.{own_recover, own_primary, primary_up, primary_asks}
use Rattle.world.specs.Events.{changed, upper_up, up_as, up_event, after_event, outcome, is_enabled, happens, run}
use Rattle.world_settling.specs.Traffic.{traffic}
use Rattle.world_settling.specs.Leading.{recovery_weight, primary_weight, LowersLeading, KeepsLeading, RecoveriesLower, PrimariesLower, PrimariesHear, told_world, TellingKeeps, BeginningLowers, CommittingLowers}
use Rattle.world_settling.proofs.Outer.{when-each, named-keeps}
use Rattle.world_settling.proofs.Taking.{up_paid, up-taken-falls}
use Rattle.world_settling.proofs.Begun.{all-begun}
use Rattle.world_settling.proofs.Clients.{up-pays}
use Rattle.world_settling.proofs.WriterHears.{changed-each}
use Rattle.world_settling.proofs.LeadingOwn.{own-recover-both, own-primary-both, primary-up-keeps, asks-keep}

-- the world names its last event
after-leading : (w : World) (e : Event) (i given : ℕ) (o : Option World) → IfSome o (λ v. LowersLeading w v i given) → is_some o ≡ true → LowersLeading w (after_event w e o) i given
after-leading w e i given None h s = absurd (false≢true s)
after-leading w e i given (Some v) h s = record { is = omega (arith, named-keeps v e, h.is); others = h.others }

after-telling : (w : World) (e : Event) (i : ℕ) (o : Option World) → IfSome o (λ v. KeepsLeading w v i) → KeepsLeading w (after_event w e o) i
after-telling w e i None h = record { is = omega arith; others = λ j other. refl }
after-telling w e i (Some v) h = record { is = omega (arith, named-keeps v e, h.is); others = h.others }

-- OWN STEPS

pub recoveries-lower : RecoveriesLower
unfolding happens outcome
recoveries-lower nodes events i n b members answers enabled =
    let w : World = run (start nodes) events in
    after-leading w (event.Own (own.Recover i n b members answers)) i (recovery_weight members) (changed w (own_recover w i n.0 b members answers))
    (changed-each (λ v. LowersLeading w v i (recovery_weight members)) w (own_recover w i n.0 b members answers) (own-recover-both w (all-placed nodes events).undialled i n.0 b members answers)) enabled

pub primaries-lower : PrimariesLower
unfolding happens outcome
primaries-lower nodes events i enabled =
    let w : World = run (start nodes) events in
    after-leading w (event.Own (own.Primary i)) i 0 (changed w (own_primary w i)) (changed-each (λ v. LowersLeading w v i 0) w (own_primary w i) (own-primary-both w i (all-begun nodes events))) enabled

-- WHAT IS TAKEN

-- what was taken weighed more than nothing
taken-lowers : (w u v : World) (i paid : ℕ) → ((j : ℕ) → u.primaries j ≡ w.primaries j) → 1 ≤ paid → traffic u + paid ≤ traffic w → KeepsLeading u v i → LowersLeading w v i 0
taken-lowers w u v i paid same some falls k = record { is = omega (arith, some, falls, k.is, at i); others = λ j other. k.others j other ∙ same j }
  where
    at : (j : ℕ) → primary_weight (u.primaries j) ≡ primary_weight (w.primaries j)
    at j = rw (same j) refl

taken-same : (w : World) (c : ℕ) (x : Next) (j : ℕ) → (up_taken w c x).primaries j ≡ w.primaries j
unfolding up_taken
taken-same w c x j = refl

hears-both : (w : World) (i place c : ℕ) (x : Next) → c < w.next_conn → next_up w c ≡ Some x → IfSome (changed (up_taken w c x) (primary_up (up_taken w c x) i place c x)) (λ v. LowersLeading w v i 0)
hears-both w i place c x lt next = at (primary_up u i place c x) (primary-up-keeps u i place c x)
  where
    u : World
    u = up_taken w c x

    at : (o : Option Change) → IfSome o (λ k. KeepsLeading u (apply u k) i) → IfSome (changed u o) (λ v. LowersLeading w v i 0)
    at None h = tt
    at (Some k) h = taken-lowers w u (apply u k) i (up_paid x) (taken-same w c x) (up-pays x) (up-taken-falls w c x lt next) h

up-both : (w : World) (i place c : ℕ) → (w.dialled c).upper ≡ by_primary i place → IfSome (up_event w c false) (λ v. LowersLeading w v i 0)
up-both w i place c is = when-each (λ v. LowersLeading w v i 0) (nat_lt c w.next_conn) _ (λ e. at (grind (arith, nat_tests, e)) (next_up w c) refl)
  where
    at : c < w.next_conn → (o : Option Next) → next_up w c ≡ o → IfSome (up_as w c false o) (λ v. LowersLeading w v i 0)
    at lt None e = tt
    at lt (Some x) e = subst (λ (u : Upper). IfSome (changed (up_taken w c x) (upper_up u (up_taken w c x) c x false)) (λ v. LowersLeading w v i 0)) (sym is) (hears-both w i place c x lt e)

pub primaries-hear : PrimariesHear
unfolding happens outcome
primaries-hear w c i place is enabled = after-leading w (event.Up c) i 0 (up_event w c.0 false) (up-both w i place c.0 is) enabled

-- THE OFFICE

pub telling-keeps : TellingKeeps
unfolding happens outcome
telling-keeps w i b =
    after-telling w (event.Office (caller.Primary i b)) i (changed w (primary_asks (w.primaries i) w i b))
    (changed-each (λ v. KeepsLeading w v i) w (primary_asks (w.primaries i) w i b) (asks-keep (w.primaries i) w i b refl))

-- the question and what follows it, together
told-lowers : (w u v : World) (i given : ℕ) → KeepsLeading w u i → LowersLeading u v i given → LowersLeading w v i given
told-lowers w u v i given k l = record { is = omega (arith, k.is, l.is); others = λ j other. l.others j other ∙ k.others j other }

pub beginning-lowers : BeginningLowers
beginning-lowers nodes events i n b members answers enabled =
    let w : World = run (start nodes) events in
    let asks : Event = event.Office (caller.Primary i b) in
    let goes : Event = event.Own (own.Recover i n b members answers) in
    let on : run (start nodes) (events ++ asks ∷ []) ≡ told_world w i b = runs-end (start nodes) events asks in
    told-lowers w (told_world w i b) (happens (told_world w i b) goes) i (recovery_weight members) (telling-keeps w i b)
    (subst (λ (u : World). is_enabled u goes ≡ true → LowersLeading u (happens u goes) i (recovery_weight members)) on (recoveries-lower nodes (events ++ asks ∷ []) i n b members answers) enabled)

pub committing-lowers : CommittingLowers
committing-lowers nodes events i b enabled =
    let w : World = run (start nodes) events in
    let asks : Event = event.Office (caller.Primary i b) in
    let goes : Event = event.Own (own.Primary i) in
    let on : run (start nodes) (events ++ asks ∷ []) ≡ told_world w i b = runs-end (start nodes) events asks in
    told-lowers w (told_world w i b) (happens (told_world w i b) goes) i 0 (telling-keeps w i b)
    (subst (λ (u : World). is_enabled u goes ≡ true → LowersLeading u (happens u goes) i 0) on (primaries-lower nodes (events ++ asks ∷ []) i) enabled)
