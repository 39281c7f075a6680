-- No replica is broken after events in which no call on files fails, and a restart finds all of one that isn't broken.
use Rattle.std.proofs.Common.{◌≡◌, ℕ, List, [], ◌∷◌, ◌++◌, Option, Some, None, refl, sym, ap, subst}
use Rattle.std.specs.Prelude.{if◌then◌else◌}
use Rattle.std.proofs.lemmas.Option.{none-some}
use Rattle.replica_model.specs.Found.{Found, found_whole}
use Rattle.world_laws.specs.World.Event.{Event}
use Rattle.world_laws.specs.World.Event.TheVariants as event
use Rattle.world_laws.specs.World.Worlds.{World, start}
use Rattle.world_laws.specs.World.Restarts.{is_whole_as, may_find, replica_found, restarted}
use Rattle.world_laws.specs.World.Events.{happens, run}
use Rattle.world_laws.proofs.FilledLaws.{all-filled}
use Rattle.world_laws.proofs.RunLaws.{runs-end}
use Rattle.world_breaks.specs.Breaks.{IsUnbroken, AllUnbroken, NeverFails, NoneFails, UnbrokenWithoutFaults, WholeIsFound}
use Rattle.world_breaks.proofs.Rows.{row-unbroken}
use Rattle.world_breaks.proofs.Keeping.{Finds}
use Rattle.world_breaks.proofs.Happening.{FaultKeeps, happens-every}

pub found-unbroken : Finds IsUnbroken
found-unbroken b None = record { none = refl; whole = refl; absent = λ e. refl }
found-unbroken b (Some f) = record { none = refl; whole = refl; absent = λ e. absurd (none-some _ (sym e)) }

never-keeps : (w : World) (e : Event) → NeverFails e → FaultKeeps IsUnbroken w e
never-keeps w (event.Own s) q = tt
never-keeps w (event.Office c) q = tt
never-keeps w (event.Down c answered) q = tt
never-keeps w (event.Ready c) q = tt
never-keeps w (event.Up c) q = tt
never-keeps w (event.Lost c way more) q = tt
never-keeps w (event.Fault d) q = absurd q
never-keeps w (event.Stop n) q = tt
never-keeps w (event.Restart n list) q = tt

-- some events have happened, and then others
run-unbroken : (nodes : ℕ) (past events : List Event) → NoneFails events → AllUnbroken (run (start nodes) past) → AllUnbroken (run (run (start nodes) past) events)
run-unbroken nodes past [] q h = h
run-unbroken nodes past (e ∷ events) q h =
    let w = run (start nodes) past in
    let next : AllUnbroken (happens w e) =
    happens-every IsUnbroken (λ b r broke x p full s. row-unbroken b r broke x p s) found-unbroken w e (never-keeps w e q.0)
    (record { full = λ n b. ((all-filled nodes past).replicas n b).full; each = h }) in
    subst (λ (v : World). AllUnbroken (run v events)) (runs-end (start nodes) past e)
    (run-unbroken nodes (past ++ e ∷ []) events q.1 (subst AllUnbroken (sym (runs-end (start nodes) past e)) next))

pub start-unbroken : (nodes : ℕ) → AllUnbroken (start nodes)
unfolding start
start-unbroken nodes n b = found-unbroken b None

pub all-unbroken : UnbrokenWithoutFaults
all-unbroken nodes events q = run-unbroken nodes [] events q (start-unbroken nodes)

-- WHAT A RESTART FINDS OF ONE THAT IS WHOLE

-- where nothing is said of it, that isn't what may be found, unless it is
unsaid : (o : Option Found) → (if is_whole_as o None then None else o) ≡ o
unsaid None = refl
unsaid (Some f) = refl

pub whole-found : WholeIsFound
unfolding restarted may_find
whole-found b r = ap (replica_found b) (unsaid (found_whole r.known.info r.bytes))
