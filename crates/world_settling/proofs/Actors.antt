-- Writers and primaries change only where they act themselves.
use Rattle.std.proofs.Common.{◌≡◌, ℕ, Bool, true, false, Option, Some, None, IfSome, refl, sym, ◌∙◌}
use Rattle.std.specs.Prelude.{nat_lt, is_none, not, ◌&&◌}
use Rattle.std.proofs.lemmas.Bool.{false≢true}
use Rattle.hd_base.specs.declared.numbers.BlockId.{BlockId}
use Rattle.world.specs.RecoveryCore.OwnStep.{OwnStep}
use Rattle.world.specs.RecoveryCore.OwnStep.TheVariants as primary_own
use Rattle.world.specs.RecoveryCore.Primaries.{own_step}
use Rattle.world.specs.declared.events.Caller.TheVariants as caller
use Rattle.world.specs.declared.events.Delivery.{Delivery}
use Rattle.world.specs.declared.events.Delivery.TheVariants as delivery
use Rattle.world.specs.declared.events.Direction.{Direction}
use Rattle.world.specs.declared.events.Direction.TheVariants as direction
use Rattle.world.specs.declared.events.Event.{Event}
use Rattle.world.specs.declared.events.Event.TheVariants as event
use Rattle.world.specs.declared.events.OwnStep.TheVariants as own
use Rattle.world.specs.Parts.{Upper, by_writer, by_member, by_reader, by_primary, Lower, Leading, Primary, no_primary, was_told, leads, has_led, Writing}
use Rattle.world.specs.Worlds.{World, Change, apply}
use Rattle.world.specs.Connections.{Next, next_down, next_up, down_taken, up_taken, is_alive, is_served}
use Rattle.world.specs.Nodes.{lower_down, lower_ready, mirror_up}
use Rattle.world.specs.Clients.{own_writer, writer_up, own_reader, reader_up}
use Rattle.world.specs.Primaries.{own_recover, own_primary, primary_up, primary_commits, primary_asks, writer_asks_office}
use Rattle.world.specs.Restarts.{restart}
use Rattle.world.specs.Events.{changed, down_as, down_event, ready_event, unless_fails, upper_up, up_as, up_event, fault_event, lost, stop, where_so, outcome, after_event, happens}
use Rattle.world_texts.proofs.WorldLaws.FactTables.{put-each, when-each}
use Rattle.world_texts.proofs.WorldLaws.SessionAsides as writers
use Rattle.world_settling.specs.Draws.{actor_above, actor_of, is_writer, is_primary, WritersStay, PrimariesStay}
use Rattle.world_settling.proofs.PrimaryAsides as primaries

-- A TABLE THAT STAYS

-- A table of the world, and what a change must meet to leave it.
module _ {A : Type 0} (table : World → ℕ → A) (Leaves : World → Change → Type 0) where
  abbrev Same : World → World → Type 0
  Same w v = (i : ℕ) → table v i ≡ table w i

  -- so it is left by changes, and by what is taken
  pub record IsLeft : Type 0 where
    pub change : (w : World) (k : Change) → Leaves w k → Same w (apply w k)
    pub down : (w : World) (c : ℕ) (x : Next) → Same w (down_taken w c x)
    pub up : (w : World) (c : ℕ) (x : Next) → Same w (up_taken w c x)
    pub downs : (l : Lower) (w : World) (c : ℕ) (x : Next) (answered fails : Bool) → IfSome (lower_down l w c x answered fails) (Leaves w)
    pub readies : (l : Lower) (w : World) (c : ℕ) (fails : Bool) → IfSome (lower_ready l w c fails) (Leaves w)

  changed-same : (u w : World) (o : Option Change) → IsLeft → Same u w → IfSome o (Leaves w) → IfSome (changed w o) (Same u)
  changed-same u w None t s q = tt
  changed-same u w (Some k) t s q = λ i. t.change w k q i ∙ s i

  pub own-same : (w : World) (o : Option Change) → IsLeft → IfSome o (Leaves w) → IfSome (changed w o) (Same w)
  own-same w o t q = changed-same w w o t (λ i. refl) q

  down-as-same : (w : World) (c : ℕ) (answered fails : Bool) (o : Option Next) → IsLeft → IfSome (down_as w c answered fails o) (Same w)
  down-as-same w c answered fails None t = tt
  down-as-same w c answered fails (Some x) t =
      changed-same w (down_taken w c x) (lower_down (w.lowers c) (down_taken w c x) c x answered fails) t (t.down w c x) (t.downs (w.lowers c) (down_taken w c x) c x answered fails)

  pub down-same : (w : World) (c : ℕ) (answered fails : Bool) → IsLeft → IfSome (down_event w c answered fails) (Same w)
  down-same w c answered fails t = when-each (Same w) (is_served w c) _ (λ _. down-as-same w c answered fails (next_down w c) t)

  pub ready-same : (w : World) (c : ℕ) (fails : Bool) → IsLeft → IfSome (ready_event w c fails) (Same w)
  ready-same w c fails t = when-each (Same w) (is_served w c) _ (λ _. own-same w (lower_ready (w.lowers c) w c fails) t (t.readies (w.lowers c) w c fails))

  up-as-same : (w : World) (c : ℕ) (fails : Bool) (o : Option Next) → IsLeft → ((v : World) (x : Next) → IfSome (upper_up (w.dialled c).upper v c x fails) (Leaves v)) → IfSome (up_as w c fails o) (Same w)
  up-as-same w c fails None t h = tt
  up-as-same w c fails (Some x) t h = changed-same w (up_taken w c x) (upper_up (w.dialled c).upper (up_taken w c x) c x fails) t (t.up w c x) (h (up_taken w c x) x)

  pub up-same : (w : World) (c : ℕ) (fails : Bool) → IsLeft → ((v : World) (x : Next) → IfSome (upper_up (w.dialled c).upper v c x fails) (Leaves v)) → IfSome (up_event w c fails) (Same w)
  up-same w c fails t h = when-each (Same w) (nat_lt c w.next_conn) _ (λ _. up-as-same w c fails (next_up w c) t h)

  pub unless-leaves : (w : World) (fails : Bool) (o : Option Change) → IfSome o (Leaves w) → IfSome (unless_fails fails o) (Leaves w)
  unless-leaves w true o q = tt
  unless-leaves w false o q = q

  pub where-same : (w v : World) (test : Bool) → Same w v → IfSome (where_so test v) (Same w)
  where-same w v true s = s
  where-same w v false s = tt

-- WRITERS

abbrev writers_of : World → ℕ → Writing
writers_of w b = w.writers b

-- no writer comes into another state
pub record WriterStays (w : World) (k : Change) : Type 0 where
  pub writer : k.writer ≡ w.writers k.writer_at

as-stays : (w : World) (o : Option Change) → IfSome o (writers.Aside w) → IfSome o (WriterStays w)
as-stays w None h = tt
as-stays w (Some k) h = record { writer = h.writer }

writer-change-same : (w : World) (k : Change) → WriterStays w k → (b : ℕ) → (apply w k).writers b ≡ w.writers b
unfolding apply
writer-change-same w k q b = put-each (λ (j : ℕ) (x : Writing). x ≡ w.writers j) w.writers k.writer_at k.writer q.writer (λ j. refl) b

writer-down-same : (w : World) (c : ℕ) (x : Next) (b : ℕ) → (down_taken w c x).writers b ≡ w.writers b
unfolding down_taken
writer-down-same w c x b = refl

writer-up-same : (w : World) (c : ℕ) (x : Next) (b : ℕ) → (up_taken w c x).writers b ≡ w.writers b
unfolding up_taken
writer-up-same w c x b = refl

writers-left : IsLeft writers_of WriterStays
writers-left = record {
  change = writer-change-same;
  down = writer-down-same;
  up = writer-up-same;
  downs = λ l w c x answered fails. as-stays w (lower_down l w c x answered fails) (writers.lower-down-aside l w c x answered fails);
  readies = λ l w c fails. as-stays w (lower_ready l w c fails) (writers.lower-ready-aside l w c fails);
}

-- the upper end is no writer's, or its event fails
writer-upper : (u : Upper) (w : World) (c : ℕ) (x : Next) (fails : Bool) → (is_writer (actor_above u) && not fails) ≡ false → IfSome (upper_up u w c x fails) (WriterStays w)
writer-upper (by_writer b) w c x true h = tt
writer-upper (by_writer b) w c x false h = absurd (false≢true (sym h))
writer-upper (by_member d) w c x fails h = as-stays w (mirror_up (w.lowers d) w d x fails) (writers.mirror-up-aside (w.lowers d) w d x fails)
writer-upper (by_reader i) w c x fails h = unless-leaves writers_of WriterStays w fails (reader_up w i c x) (as-stays w (reader_up w i c x) (writers.reader-up-aside w i c x))
writer-upper (by_primary i place) w c x fails h = unless-leaves writers_of WriterStays w fails (primary_up w i place c x) (as-stays w (primary_up w i place c x) (writers.primary-up-aside w i place c x))

no-fault : (a : Bool) → (a && false) ≡ false
no-fault true = refl
no-fault false = refl

no-actor : (a b : Bool) → a ≡ false → (a && b) ≡ false
no-actor true b h = absurd (false≢true (sym h))
no-actor false b h = refl

writer-faults : (w : World) (d : Delivery) → IfSome (fault_event w d) (λ v. (b : ℕ) → v.writers b ≡ w.writers b)
writer-faults w (delivery.Down c) = down-same writers_of WriterStays w c.0 false true writers-left
writer-faults w (delivery.Ready c) = ready-same writers_of WriterStays w c.0 true writers-left
writer-faults w (delivery.Up c) =
    up-same writers_of WriterStays w c.0 true writers-left (λ v x. writer-upper (w.dialled c.0).upper v c.0 x true (no-fault (is_writer (actor_above (w.dialled c.0).upper))))

-- a primary asks the office
commits-stay : (s : OwnStep) (w : World) (i : ℕ) (l : Leading) → IfSome (primary_commits s w i l) (WriterStays w)
commits-stay primary_own.Waits w i l = tt
commits-stay (primary_own.Updates c) w i l = tt
commits-stay (primary_own.Commits c) w i l = record { writer = refl }
commits-stay (primary_own.Ends r) w i l = tt

asks-stay : (p : Primary) (w : World) (i : ℕ) (b : BlockId) → IfSome (primary_asks p w i b) (WriterStays w)
asks-stay no_primary w i b = record { writer = refl }
asks-stay (was_told c t) w i b = tt
asks-stay (leads l) w i b = when-each (WriterStays w) (is_alive w l.at && is_none l.told) _ (λ _. commits-stay (own_step l.state).does w i l)
asks-stay (has_led r) w i b = tt

writer-lost : (w : World) (c : ℕ) (way : Direction) (more b : ℕ) → (lost w c way more).writers b ≡ w.writers b
writer-lost w c direction.Down more b = refl
writer-lost w c direction.Up more b = refl

writer-outcome : (w : World) (e : Event) → is_writer (actor_of w e) ≡ false → IfSome (outcome w e) (λ v. (b : ℕ) → v.writers b ≡ w.writers b)
unfolding outcome restart
writer-outcome w (event.Own (own.Writer b takes answered)) h = absurd (false≢true (sym h))
writer-outcome w (event.Own (own.Reader i n r answered)) h = own-same writers_of WriterStays w (own_reader w i n.0 r answered) writers-left (as-stays w (own_reader w i n.0 r answered) (writers.own-reader-aside w i n.0 r answered))
writer-outcome w (event.Own (own.Recover i n b members answers)) h =
    own-same writers_of WriterStays w (own_recover w i n.0 b members answers) writers-left (as-stays w (own_recover w i n.0 b members answers) (writers.own-recover-aside w i n.0 b members answers))
writer-outcome w (event.Own (own.Primary i)) h = own-same writers_of WriterStays w (own_primary w i) writers-left (as-stays w (own_primary w i) (writers.own-primary-aside w i))
writer-outcome w (event.Office (caller.Writer b)) h = absurd (false≢true (sym h))
writer-outcome w (event.Office (caller.Primary i b)) h = own-same writers_of WriterStays w (primary_asks (w.primaries i) w i b) writers-left (asks-stay (w.primaries i) w i b)
writer-outcome w (event.Down c answered) h = down-same writers_of WriterStays w c.0 answered false writers-left
writer-outcome w (event.Ready c) h = ready-same writers_of WriterStays w c.0 false writers-left
writer-outcome w (event.Up c) h =
    up-same writers_of WriterStays w c.0 false writers-left (λ v x. writer-upper (w.dialled c.0).upper v c.0 x false (no-actor (is_writer (actor_above (w.dialled c.0).upper)) true h))
writer-outcome w (event.Lost c way more) h = where-same writers_of WriterStays w (lost w c.0 way more) (nat_lt c.0 w.next_conn) (writer-lost w c.0 way more)
writer-outcome w (event.Fault d) h = writer-faults w d
writer-outcome w (event.Stop n) h = where-same writers_of WriterStays w (stop w n.0) (w.running n.0) (λ b. refl)
writer-outcome w (event.Restart n list) h = where-same writers_of WriterStays w (restart w n.0 list) (nat_lt n.0 w.nodes && not (w.running n.0)) (λ b. refl)

writer-after : (w : World) (e : Event) (o : Option World) → IfSome o (λ v. (b : ℕ) → v.writers b ≡ w.writers b) → (b : ℕ) → (after_event w e o).writers b ≡ w.writers b
writer-after w e None h b = refl
writer-after w e (Some v) h b = h b

pub writers-stay : WritersStay
unfolding happens
writers-stay w e b h = writer-after w e (outcome w e) (writer-outcome w e h) b

-- PRIMARIES

abbrev primaries_of : World → ℕ → Primary
primaries_of w i = w.primaries i

primary-change-same : (w : World) (k : Change) → primaries.Aside w k → (i : ℕ) → (apply w k).primaries i ≡ w.primaries i
unfolding apply
primary-change-same w k q i = put-each (λ (j : ℕ) (x : Primary). x ≡ w.primaries j) w.primaries k.primary_at k.primary q.primary (λ j. refl) i

primary-down-same : (w : World) (c : ℕ) (x : Next) (i : ℕ) → (down_taken w c x).primaries i ≡ w.primaries i
unfolding down_taken
primary-down-same w c x i = refl

primary-up-same : (w : World) (c : ℕ) (x : Next) (i : ℕ) → (up_taken w c x).primaries i ≡ w.primaries i
unfolding up_taken
primary-up-same w c x i = refl

primaries-left : IsLeft primaries_of primaries.Aside
primaries-left = record {
  change = primary-change-same;
  down = primary-down-same;
  up = primary-up-same;
  downs = primaries.lower-down-aside;
  readies = primaries.lower-ready-aside;
}

-- the upper end is no primary's, or its event fails
primary-upper : (u : Upper) (w : World) (c : ℕ) (x : Next) (fails : Bool) → (is_primary (actor_above u) && not fails) ≡ false → IfSome (upper_up u w c x fails) (primaries.Aside w)
primary-upper (by_writer b) w c x fails h = unless-leaves primaries_of primaries.Aside w fails (writer_up w b c x) (primaries.writer-up-aside w b c x)
primary-upper (by_member d) w c x fails h = primaries.mirror-up-aside (w.lowers d) w d x fails
primary-upper (by_reader i) w c x fails h = unless-leaves primaries_of primaries.Aside w fails (reader_up w i c x) (primaries.reader-up-aside w i c x)
primary-upper (by_primary i place) w c x true h = tt
primary-upper (by_primary i place) w c x false h = absurd (false≢true (sym h))

primary-faults : (w : World) (d : Delivery) → IfSome (fault_event w d) (λ v. (i : ℕ) → v.primaries i ≡ w.primaries i)
primary-faults w (delivery.Down c) = down-same primaries_of primaries.Aside w c.0 false true primaries-left
primary-faults w (delivery.Ready c) = ready-same primaries_of primaries.Aside w c.0 true primaries-left
primary-faults w (delivery.Up c) =
    up-same primaries_of primaries.Aside w c.0 true primaries-left (λ v x. primary-upper (w.dialled c.0).upper v c.0 x true (no-fault (is_primary (actor_above (w.dialled c.0).upper))))

primary-lost : (w : World) (c : ℕ) (way : Direction) (more i : ℕ) → (lost w c way more).primaries i ≡ w.primaries i
primary-lost w c direction.Down more i = refl
primary-lost w c direction.Up more i = refl

primary-outcome : (w : World) (e : Event) → is_primary (actor_of w e) ≡ false → IfSome (outcome w e) (λ v. (i : ℕ) → v.primaries i ≡ w.primaries i)
unfolding outcome restart
primary-outcome w (event.Own (own.Writer b takes answered)) h = own-same primaries_of primaries.Aside w (own_writer w b.0 takes answered) primaries-left (primaries.own-writer-aside w b.0 takes answered)
primary-outcome w (event.Own (own.Reader i n r answered)) h = own-same primaries_of primaries.Aside w (own_reader w i n.0 r answered) primaries-left (primaries.own-reader-aside w i n.0 r answered)
primary-outcome w (event.Own (own.Recover i n b members answers)) h = absurd (false≢true (sym h))
primary-outcome w (event.Own (own.Primary i)) h = absurd (false≢true (sym h))
primary-outcome w (event.Office (caller.Writer b)) h = own-same primaries_of primaries.Aside w (writer_asks_office w b.0) primaries-left (primaries.asks-office-aside w b.0)
primary-outcome w (event.Office (caller.Primary i b)) h = absurd (false≢true (sym h))
primary-outcome w (event.Down c answered) h = down-same primaries_of primaries.Aside w c.0 answered false primaries-left
primary-outcome w (event.Ready c) h = ready-same primaries_of primaries.Aside w c.0 false primaries-left
primary-outcome w (event.Up c) h =
    up-same primaries_of primaries.Aside w c.0 false primaries-left (λ v x. primary-upper (w.dialled c.0).upper v c.0 x false (no-actor (is_primary (actor_above (w.dialled c.0).upper)) true h))
primary-outcome w (event.Lost c way more) h = where-same primaries_of primaries.Aside w (lost w c.0 way more) (nat_lt c.0 w.next_conn) (primary-lost w c.0 way more)
primary-outcome w (event.Fault d) h = primary-faults w d
primary-outcome w (event.Stop n) h = where-same primaries_of primaries.Aside w (stop w n.0) (w.running n.0) (λ i. refl)
primary-outcome w (event.Restart n list) h = where-same primaries_of primaries.Aside w (restart w n.0 list) (nat_lt n.0 w.nodes && not (w.running n.0)) (λ i. refl)

primary-after : (w : World) (e : Event) (o : Option World) → IfSome o (λ v. (i : ℕ) → v.primaries i ≡ w.primaries i) → (i : ℕ) → (after_event w e o).primaries i ≡ w.primaries i
primary-after w e None h i = refl
primary-after w e (Some v) h i = h i

pub primaries-stay : PrimariesStay
unfolding happens
primaries-stay w e i h = primary-after w e (outcome w e) (primary-outcome w e h) i
