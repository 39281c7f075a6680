-- Deliveries that no writer takes leave all writers as they are.
use Rattle.std.proofs.Common.{◌≡◌, ℕ, Bool, true, false, Option, Some, None, IfSome, refl, ◌∙◌}
use Rattle.std.specs.Prelude.{nat_lt}
use Rattle.hd_base.specs.declared.numbers.ConnId.{ConnId}
use Rattle.world.specs.declared.events.Delivery.TheVariants as delivery
use Rattle.world.specs.declared.events.Event.{Event}
use Rattle.world.specs.declared.events.Event.TheVariants as event
use Rattle.world.specs.Parts.{Upper, by_writer, by_member, by_reader, by_primary, Writing}
use Rattle.world.specs.Worlds.{World, Change, apply}
use Rattle.world.specs.Connections.{Next, next_down, next_up, down_taken, up_taken, is_served}
use Rattle.world.specs.Nodes.{lower_down, lower_ready}
use Rattle.world.specs.Clients.{reader_up}
use Rattle.world.specs.Primaries.{primary_up}
use Rattle.world.specs.Events.{changed, down_as, down_event, ready_event, unless_fails, upper_up, up_as, up_event, outcome, after_event, happens}
use Rattle.play_model.proofs.WorldLaws.FactTables.{put-each, when-each}
use Rattle.play_model.proofs.WorldLaws.SessionAsides.{Aside, lower-down-aside, lower-ready-aside, mirror-up-aside, reader-up-aside, primary-up-aside}

abbrev pub Stays : World → World → Type 0
Stays w v = (a : ℕ) → v.writers a ≡ w.writers a

aside-stays : (w : World) (k : Change) → Aside w k → Stays w (apply w k)
unfolding apply
aside-stays w k q a = put-each (λ (j : ℕ) (x : Writing). x ≡ w.writers j) w.writers k.writer_at k.writer q.writer (λ j. refl) a

changed-stays : (u w : World) (o : Option Change) → Stays u w → IfSome o (Aside w) → IfSome (changed w o) (Stays u)
changed-stays u w None s q = tt
changed-stays u w (Some k) s q = λ a. aside-stays w k q a ∙ s a

down-taken-stays : (w : World) (c : ℕ) (x : Next) → Stays w (down_taken w c x)
unfolding down_taken
down-taken-stays w c x a = refl

up-taken-stays : (w : World) (c : ℕ) (x : Next) → Stays w (up_taken w c x)
unfolding up_taken
up-taken-stays w c x a = refl

down-as-stays : (w : World) (c : ℕ) (answered fails : Bool) (o : Option Next) → IfSome (down_as w c answered fails o) (Stays w)
down-as-stays w c answered fails None = tt
down-as-stays w c answered fails (Some x) =
    changed-stays w (down_taken w c x) (lower_down (w.lowers c) (down_taken w c x) c x answered fails) (down-taken-stays w c x) (lower-down-aside (w.lowers c) (down_taken w c x) c x answered fails)

down-stays : (w : World) (c : ℕ) (answered fails : Bool) → IfSome (down_event w c answered fails) (Stays w)
down-stays w c answered fails = when-each (Stays w) (is_served w c) _ (λ _. down-as-stays w c answered fails (next_down w c))

ready-stays : (w : World) (c : ℕ) (fails : Bool) → IfSome (ready_event w c fails) (Stays w)
ready-stays w c fails = when-each (Stays w) (is_served w c) _ (λ _. changed-stays w w (lower_ready (w.lowers c) w c fails) (λ a. refl) (lower-ready-aside (w.lowers c) w c fails))

-- the upper end is no writer's
abbrev pub IsOther : Upper → Type 0
IsOther (by_writer b) = ⊥
IsOther other = Unit {0}

unless-aside : (w : World) (fails : Bool) (o : Option Change) → IfSome o (Aside w) → IfSome (unless_fails fails o) (Aside w)
unless-aside w true o q = tt
unless-aside w false o q = q

upper-aside : (u : Upper) (w : World) (c : ℕ) (x : Next) (fails : Bool) → IsOther u → IfSome (upper_up u w c x fails) (Aside w)
upper-aside (by_writer b) w c x fails h = absurd h
upper-aside (by_member d) w c x fails h = mirror-up-aside (w.lowers d) w d x fails
upper-aside (by_reader i) w c x fails h = unless-aside w fails (reader_up w i c x) (reader-up-aside w i c x)
upper-aside (by_primary i place) w c x fails h = unless-aside w fails (primary_up w i place c x) (primary-up-aside w i place c x)

up-as-stays : (w : World) (c : ℕ) (fails : Bool) (o : Option Next) → IsOther (w.dialled c).upper → IfSome (up_as w c fails o) (Stays w)
up-as-stays w c fails None h = tt
up-as-stays w c fails (Some x) h =
    changed-stays w (up_taken w c x) (upper_up (w.dialled c).upper (up_taken w c x) c x fails) (up-taken-stays w c x) (upper-aside (w.dialled c).upper (up_taken w c x) c x fails h)

up-stays : (w : World) (c : ℕ) (fails : Bool) → IsOther (w.dialled c).upper → IfSome (up_event w c fails) (Stays w)
up-stays w c fails h = when-each (Stays w) (nat_lt c w.next_conn) _ (λ _. up-as-stays w c fails (next_up w c) h)

after-stays : (w : World) (e : Event) (o : Option World) → IfSome o (Stays w) → Stays w (after_event w e o)
after-stays w e None h a = refl
after-stays w e (Some v) h a = h a

pub down-leaves : (w : World) (c : ConnId) (answered : Bool) → Stays w (happens w (event.Down c answered))
unfolding happens outcome
down-leaves w c answered = after-stays w (event.Down c answered) (down_event w c.0 answered false) (down-stays w c.0 answered false)

pub fault-leaves : (w : World) (c : ConnId) → Stays w (happens w (event.Fault (delivery.Down c)))
unfolding happens outcome
fault-leaves w c = after-stays w (event.Fault (delivery.Down c)) (down_event w c.0 false true) (down-stays w c.0 false true)

pub ready-leaves : (w : World) (c : ConnId) → Stays w (happens w (event.Ready c))
unfolding happens outcome
ready-leaves w c = after-stays w (event.Ready c) (ready_event w c.0 false) (ready-stays w c.0 false)

pub up-leaves : (w : World) (c : ConnId) → IsOther (w.dialled c.0).upper → Stays w (happens w (event.Up c))
unfolding happens outcome
up-leaves w c h = after-stays w (event.Up c) (up_event w c.0 false) (up-stays w c.0 false h)
