-- Plain facts of the world.
use Rattle.std.specs.Prelude.{◌≡◌, false, List, [], ◌∷◌, ◌++◌}
use Rattle.world.specs.declared.events.Event.{Event}
use Rattle.world.specs.Worlds.{World}
use Rattle.world.specs.Events.{is_enabled, happens, run}

-- An event that isn't enabled changes nothing.
abbrev pub IdleChangesNothing : Type 0
IdleChangesNothing = (w : World) (e : Event) → is_enabled w e ≡ false → happens w e ≡ w

-- What happens in two lists of events is what happens in the one and then in the other.
abbrev pub RunsJoin : Type 0
RunsJoin = (w : World) (events others : List Event) → run w (events ++ others) ≡ run (run w events) others

-- One event more at the end happens last.
abbrev pub RunsEnd : Type 0
RunsEnd = (w : World) (events : List Event) (e : Event) → run w (events ++ e ∷ []) ≡ happens (run w events) e
