-- Events that aren't enabled, and lists of events that join.
use Rattle.std.proofs.Common.{◌≡◌, false, List, [], ◌∷◌, ◌++◌, Option, Some, None, refl, sym}
use Rattle.std.specs.Prelude.{is_some}
use Rattle.std.proofs.lemmas.Bool.{false≢true}
use Rattle.world.specs.declared.events.Event.{Event}
use Rattle.world.specs.Worlds.{World}
use Rattle.world.specs.Events.{outcome, is_enabled, after_event, happens, run}

idle-after : (w : World) (e : Event) (o : Option World) → is_some o ≡ false → after_event w e o ≡ w
idle-after w e None h = refl
idle-after w e (Some v) h = absurd (false≢true (sym h))

pub idle-stays : (w : World) (e : Event) → is_enabled w e ≡ false → happens w e ≡ w
unfolding happens
idle-stays w e h = idle-after w e (outcome w e) h

pub runs-join : (w : World) (events others : List Event) → run w (events ++ others) ≡ run (run w events) others
runs-join w [] others = refl
runs-join w (e ∷ events) others = runs-join (happens w e) events others

pub runs-end : (w : World) (events : List Event) (e : Event) → run w (events ++ e ∷ []) ≡ happens (run w events) e
runs-end w events e = runs-join w events (e ∷ [])
