-- Plain events keep the peace.
use Rattle.std.proofs.Common.{◌≡◌, ℕ, Bool, true, false, List, [], ◌∷◌, Option, Some, None, IfSome, refl, sym}
use Rattle.std.specs.Prelude.{nat_lt}
use Rattle.std.proofs.lemmas.Bool.{false≢true}
use Rattle.std.proofs.lemmas.Option.{none-some}
use Rattle.world.specs.declared.events.Caller.{Caller}
use Rattle.world.specs.declared.events.Caller.TheVariants as caller
use Rattle.world.specs.declared.events.Event.{Event}
use Rattle.world.specs.declared.events.Event.TheVariants as event
use Rattle.world.specs.declared.events.OwnStep.{OwnStep}
use Rattle.world.specs.declared.events.OwnStep.TheVariants as own
use Rattle.world.specs.Parts.{Upper, by_writer, by_member, by_reader, by_primary}
use Rattle.world.specs.Worlds.{World, Change, start}
use Rattle.world.specs.Connections.{Next, message, the_end, next_down, next_up, down_taken, up_taken, is_served}
use Rattle.world.specs.Nodes.{lower_down, lower_ready, mirror_up}
use Rattle.world.specs.Clients.{own_writer, writer_up, own_reader, reader_up}
use Rattle.world.specs.Primaries.{writer_asks_office, office_event}
use Rattle.world.specs.Events.{changed, own_change, down_as, down_event, ready_event, upper_up, up_as, up_event, outcome, after_event, happens, run}
use Rattle.world_laws.proofs.FactTables.{some-weaker, when-each}
use Rattle.world_orders.proofs.AllOrdered.{next-found}
use Rattle.play_completeness.specs.Plain.{is_plain, is_plain_step, is_plain_call, ArePlain, is_of_primary, Peaceful, AllPeaceful}
use Rattle.play_completeness.proofs.PeaceFrame.{Brings, Leaves, leaves-brings, apply-peace}
use Rattle.play_completeness.proofs.PeaceWriters.{own-leaves, writer-up-leaves, office-leaves}
use Rattle.play_completeness.proofs.PeaceReaders.{own-reader-leaves, reader-up-leaves}
use Rattle.play_completeness.proofs.PeaceNodes.{NextIsGood, lower-down-brings, lower-ready-brings, mirror-up-brings}

-- CHANGES

changed-peace : (w : World) (o : Option Change) → Peaceful w → IfSome o Brings → IfSome (changed w o) Peaceful
changed-peace w None h n = tt
changed-peace w (Some k) h n = apply-peace w k h n

leaving-peace : (w : World) (o : Option Change) → Peaceful w → IfSome o (Leaves w) → IfSome (changed w o) Peaceful
leaving-peace w o h l = changed-peace w o h (some-weaker (Leaves w) Brings o (λ k x. leaves-brings w k h x) l)

-- DELIVERIES

down-taken-peace : (w : World) (c : ℕ) (x : Next) → Peaceful w → Peaceful (down_taken w c x)
unfolding down_taken
down-taken-peace w c x h = record { lives = h.lives; born = h.born; primaries = h.primaries; uppers = h.uppers; lowers = h.lowers; downs = h.downs; ups = h.ups; sound = h.sound; whole = h.whole; own = h.own; leases = h.leases }

up-taken-peace : (w : World) (c : ℕ) (x : Next) → Peaceful w → Peaceful (up_taken w c x)
unfolding up_taken
up-taken-peace w c x h = record { lives = h.lives; born = h.born; primaries = h.primaries; uppers = h.uppers; lowers = h.lowers; downs = h.downs; ups = h.ups; sound = h.sound; whole = h.whole; own = h.own; leases = h.leases }

next-down-good : (w : World) (c : ℕ) (x : Next) → Peaceful w → next_down w c ≡ Some x → NextIsGood x
next-down-good w c (message m) h e = h.downs c (w.down_marks c).taken m (next-found (w.downs c) (w.down_marks c) m e)
next-down-good w c the_end h e = tt

next-up-good : (w : World) (c : ℕ) (x : Next) → Peaceful w → next_up w c ≡ Some x → NextIsGood x
next-up-good w c (message m) h e = h.ups c (w.up_marks c).taken m (next-found (w.ups c) (w.up_marks c) m e)
next-up-good w c the_end h e = tt

down-as-peace : (w : World) (c : ℕ) (answered : Bool) (o : Option Next) → next_down w c ≡ o → Peaceful w → IfSome (down_as w c answered false o) Peaceful
down-as-peace w c answered None e h = tt
down-as-peace w c answered (Some x) e h =
    let v : World = down_taken w c x in
    let q : Peaceful v = down-taken-peace w c x h in
    changed-peace v (lower_down (w.lowers c) v c x answered false) q
    (lower-down-brings v q c (w.lowers c) x answered (h.lowers c) (next-down-good w c x h e))

down-peace : (w : World) (c : ℕ) (answered : Bool) → Peaceful w → IfSome (down_event w c answered false) Peaceful
down-peace w c answered h = when-each Peaceful (is_served w c) _ (λ _. down-as-peace w c answered (next_down w c) refl h)

ready-peace : (w : World) (c : ℕ) → Peaceful w → IfSome (ready_event w c false) Peaceful
ready-peace w c h =
    when-each Peaceful (is_served w c) _
    (λ _. changed-peace w (lower_ready (w.lowers c) w c false) h (lower-ready-brings w h c (w.lowers c) (h.lowers c)))

upper-peace : (w : World) (u : Upper) (c : ℕ) (x : Next) → is_of_primary u ≡ false → NextIsGood x → Peaceful w → IfSome (changed w (upper_up u w c x false)) Peaceful
upper-peace w (by_writer b) c x e good h = leaving-peace w (writer_up w b c x) h (writer-up-leaves w h b c x)
upper-peace w (by_member d) c x e good h = changed-peace w (mirror_up (w.lowers d) w d x false) h (mirror-up-brings w h d (w.lowers d) x good)
upper-peace w (by_reader i) c x e good h = leaving-peace w (reader_up w i c x) h (reader-up-leaves w h i c x)
upper-peace w (by_primary i place) c x e good h = absurd (false≢true (sym e))

up-as-peace : (w : World) (c : ℕ) (o : Option Next) → next_up w c ≡ o → Peaceful w → IfSome (up_as w c false o) Peaceful
up-as-peace w c None e h = tt
up-as-peace w c (Some x) e h =
    upper-peace (up_taken w c x) (w.dialled c).upper c x (h.uppers c) (next-up-good w c x h e) (up-taken-peace w c x h)

up-peace : (w : World) (c : ℕ) → Peaceful w → IfSome (up_event w c false) Peaceful
up-peace w c h = when-each Peaceful (nat_lt c w.next_conn) _ (λ _. up-as-peace w c (next_up w c) refl h)

-- EVENTS

own-peace : (w : World) (s : OwnStep) → is_plain_step s ≡ true → Peaceful w → IfSome (changed w (own_change w s)) Peaceful
own-peace w (own.Writer b takes answered) e h = leaving-peace w (own_writer w b.0 takes answered) h (own-leaves w h b.0 takes answered)
own-peace w (own.Reader i n r answered) e h = leaving-peace w (own_reader w i n.0 r answered) h (own-reader-leaves w h i n.0 r answered)
own-peace w (own.Recover i n b members answers) e h = absurd (false≢true e)
own-peace w (own.Primary i) e h = absurd (false≢true e)

office-peace : (w : World) (c : Caller) → is_plain_call c ≡ true → Peaceful w → IfSome (changed w (office_event w c)) Peaceful
office-peace w (caller.Writer b) e h = leaving-peace w (writer_asks_office w b.0) h (office-leaves w h b.0)
office-peace w (caller.Primary i b) e h = absurd (false≢true e)

outcome-peace : (w : World) (e : Event) → is_plain e ≡ true → Peaceful w → IfSome (outcome w e) Peaceful
unfolding outcome
outcome-peace w (event.Own s) p h = own-peace w s p h
outcome-peace w (event.Office c) p h = office-peace w c p h
outcome-peace w (event.Down c answered) p h = down-peace w c.0 answered h
outcome-peace w (event.Ready c) p h = ready-peace w c.0 h
outcome-peace w (event.Up c) p h = up-peace w c.0 h
outcome-peace w (event.Lost c way more) p h = absurd (false≢true p)
outcome-peace w (event.Fault d) p h = absurd (false≢true p)
outcome-peace w (event.Stop n) p h = absurd (false≢true p)
outcome-peace w (event.Restart n list) p h = absurd (false≢true p)

after-peace : (w : World) (e : Event) (o : Option World) → Peaceful w → IfSome o Peaceful → Peaceful (after_event w e o)
after-peace w e None h n = h
after-peace w e (Some v) h n = record { lives = n.lives; born = n.born; primaries = n.primaries; uppers = n.uppers; lowers = n.lowers; downs = n.downs; ups = n.ups; sound = n.sound; whole = n.whole; own = n.own; leases = n.leases }

pub happens-peace : (w : World) (e : Event) → is_plain e ≡ true → Peaceful w → Peaceful (happens w e)
unfolding happens
happens-peace w e p h = after-peace w e (outcome w e) h (outcome-peace w e p h)

pub run-peace : (w : World) (events : List Event) → ArePlain events → Peaceful w → Peaceful (run w events)
run-peace w [] p h = h
run-peace w (e ∷ events) p h = run-peace (happens w e) events p.1 (happens-peace w e p.0 h)

pub start-peace : (nodes : ℕ) → Peaceful (start nodes)
unfolding start
start-peace nodes = record {
  lives = λ n. refl;
  born = λ c. refl;
  primaries = λ i. refl;
  uppers = λ c. refl;
  lowers = λ c. refl;
  downs = λ c i m e. absurd (none-some m e);
  ups = λ c i m e. absurd (none-some m e);
  sound = λ n b. refl;
  whole = λ n b. refl;
  own = λ n b. tt;
  leases = λ b. tt;
}

pub all-peaceful : AllPeaceful
all-peaceful nodes events p = run-peace (start nodes) events p (start-peace nodes)
