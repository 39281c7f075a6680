-- Each draw lowers all that is to be delivered and done.
use Rattle.std.proofs.Common.{◌≡◌, ℕ, ◌<◌, ◌≤◌, ◌+◌, ◌^◌, true, false, List, Option, Some, None, refl, ap, ◌∙◌, arith}
use Rattle.std.specs.Prelude.{is_some, is_none, ◌&&◌, if◌then◌else◌}
use Rattle.std.proofs.lemmas.Bool.{false≢true}
use Rattle.hd_base.specs.declared.numbers.BlockId.{BlockId}
use Rattle.hd_base.specs.declared.numbers.ConnId.{ConnId}
use Rattle.writer_core.specs.Transitions.{own_step}
use Rattle.world.specs.declared.events.Caller.TheVariants as caller
use Rattle.world.specs.declared.events.Event.{Event}
use Rattle.world.specs.declared.events.Event.TheVariants as event
use Rattle.world.specs.declared.events.OwnStep.{OwnStep}
use Rattle.world.specs.declared.events.OwnStep.TheVariants as own
use Rattle.world.specs.Parts.{Upper, by_writer, by_member, by_reader, by_primary, Told, Writing}
use Rattle.world.specs.Worlds.{World, start}
use Rattle.world.specs.Primaries.{writer_asks}
use Rattle.world.specs.Events.{changed, outcome, is_enabled, happens, run}
use Rattle.world_texts.specs.Texts.{AllFit}
use Rattle.world_texts.proofs.WorldLaws.FactTables.{and-left, and-right}
use Rattle.world_settling.specs.Traffic.{sum_to, traffic, is_delivery}
use Rattle.world_settling.specs.Measure.{given_weight, writer_weight, LowersBoth}
use Rattle.world_settling.specs.Leading.{read_weight, recovery_weight, primary_weight, LowersLeading}
use Rattle.world_settling.specs.Draws.{writer_at, primary_at, world_weight, actor_above, actor_of, is_writer, is_primary, Draw, happening, asking, beginning, committing, events_of, step_brings, brings, IsCounted, IsUntold, CanBeDrawn, DrawsLower}
use Rattle.world_settling.proofs.Sums.{sum-le, sum-at}
use Rattle.world_settling.proofs.Deliveries.{deliveries-lower}
use Rattle.world_settling.proofs.WriterHears.{answers-lower}
use Rattle.world_settling.proofs.OwnEvents.{own-steps-lower}
use Rattle.world_settling.proofs.OfficeEvents.{asking-lowers}
use Rattle.world_settling.proofs.ReaderOwn.{readers-lower}
use Rattle.world_settling.proofs.LeadingEvents.{recoveries-lower, primaries-lower, primaries-hear, beginning-lowers, committing-lowers}
use Rattle.world_settling.proofs.Actors.{writers-stay, primaries-stay}

-- SUMS

equal-most : (a b : ℕ) → a ≡ b → a ≤ b
equal-most a b e = omega (arith, e)

module _ (w v : World) (blocks primaries given : ℕ) where
  abbrev pub writers_same : Type 0
  writers_same = (b : ℕ) → v.writers b ≡ w.writers b

  abbrev pub primaries_same : Type 0
  primaries_same = (i : ℕ) → v.primaries i ≡ w.primaries i

  abbrev pub lowers : Type 0
  lowers = world_weight v blocks primaries < world_weight w blocks primaries + given

  same-writer : (b : ℕ) → v.writers b ≡ w.writers b → writer_at v b ≤ writer_at w b
  same-writer b e = equal-most (writer_at v b) (writer_at w b) (ap (λ (x : Writing). writer_weight x.known) e)

  same-primary : (i : ℕ) → v.primaries i ≡ w.primaries i → primary_at v i ≤ primary_at w i
  same-primary i e = equal-most (primary_at v i) (primary_at w i) (ap primary_weight e)

  pub all-writers : writers_same → sum_to (writer_at v) blocks ≤ sum_to (writer_at w) blocks
  all-writers s = sum-le (writer_at w) (writer_at v) blocks (λ b lt. same-writer b (s b))

  pub all-primaries : primaries_same → sum_to (primary_at v) primaries ≤ sum_to (primary_at w) primaries
  all-primaries s = sum-le (primary_at w) (primary_at v) primaries (λ i lt. same-primary i (s i))

  -- nobody changes
  neither-lowers : writers_same → primaries_same → traffic v < traffic w + given → lowers
  neither-lowers s t l = omega (arith, all-writers s, all-primaries t, l)

  -- one writer changes
  writer-lowers : (b : ℕ) → b < blocks → primaries_same → LowersBoth w v b given → lowers
  writer-lowers b lt t l =
      let one = sum-at (writer_at w) (writer_at v) blocks b (λ a less other. same-writer a (l.others a other)) lt in
      omega (arith, one, all-primaries t, l.is)

  -- one primary changes
  primary-lowers : (i : ℕ) → i < primaries → writers_same → LowersLeading w v i given → lowers
  primary-lowers i lt s l =
      let one = sum-at (primary_at w) (primary_at v) primaries i (λ j less other. same-primary j (l.others j other)) lt in
      omega (arith, one, all-writers s, l.is)

-- ONE EVENT

-- a writer asks only where no answer waits for it
asked-untold : (w : World) (b : BlockId) → is_enabled w (event.Office (caller.Writer b)) ≡ true → (w.writers b.0).told ≡ None
unfolding outcome
asked-untold w b h = at (w.writers b.0).told h
  where
    at : (o : Option Told) → is_some (changed w (if is_none o then writer_asks (own_step (w.writers b.0).known).action w b.0 else None)) ≡ true → o ≡ None
    at None q = refl
    at (Some t) q = absurd (false≢true q)

more-left : (a b : ℕ) → a < b → a < b + 0
more-left a b l = omega (arith, l)

module _ (nodes : ℕ) (events : List Event) (blocks primaries : ℕ) (fit : AllFit events) (left : (run (start nodes) events).office.next.0 ≤ 2 ^ 64) where
  abbrev now : World
  now = run (start nodes) events

  -- after this it is lower than before with what was given
  abbrev LowersTo : World → ℕ → Type 0
  LowersTo v given = world_weight v blocks primaries < world_weight now blocks primaries + given

  step-lowers : (s : OwnStep) → is_enabled now (event.Own s) ≡ true → IsCounted blocks primaries (actor_of now (event.Own s)) → IsUntold now (happening (event.Own s))
      → LowersTo (happens now (event.Own s)) (step_brings s)
  step-lowers (own.Writer b takes answered) h c u =
      writer-lowers now (happens now (event.Own (own.Writer b takes answered))) blocks primaries (given_weight takes) b.0 c
      (λ i. primaries-stay now (event.Own (own.Writer b takes answered)) i refl) (own-steps-lower nodes events b takes answered fit left u h)
  step-lowers (own.Reader i n r answered) h c u =
      neither-lowers now (happens now (event.Own (own.Reader i n r answered))) blocks primaries (read_weight r)
      (λ b. writers-stay now (event.Own (own.Reader i n r answered)) b refl) (λ j. primaries-stay now (event.Own (own.Reader i n r answered)) j refl) (readers-lower nodes events i n r answered h)
  step-lowers (own.Recover i n b members answers) h c u =
      primary-lowers now (happens now (event.Own (own.Recover i n b members answers))) blocks primaries (recovery_weight members) i c
      (λ a. writers-stay now (event.Own (own.Recover i n b members answers)) a refl) (recoveries-lower nodes events i n b members answers h)
  step-lowers (own.Primary i) h c u =
      primary-lowers now (happens now (event.Own (own.Primary i))) blocks primaries 0 i c (λ a. writers-stay now (event.Own (own.Primary i)) a refl) (primaries-lower nodes events i h)

  -- a delivery in which neither a writer nor a primary acts
  delivers : (e : Event) → is_delivery e ≡ true → is_enabled now e ≡ true → is_writer (actor_of now e) ≡ false → is_primary (actor_of now e) ≡ false → LowersTo (happens now e) 0
  delivers e d h x y =
      neither-lowers now (happens now e) blocks primaries 0 (λ b. writers-stay now e b x) (λ i. primaries-stay now e i y)
      (more-left (traffic (happens now e)) (traffic now) (deliveries-lower nodes events e d h))

  up-lowers : (c : ConnId) (u : Upper) → (now.dialled c.0).upper ≡ u → is_enabled now (event.Up c) ≡ true → IsCounted blocks primaries (actor_above u) → LowersTo (happens now (event.Up c)) 0
  up-lowers c (by_writer b) is h n =
      writer-lowers now (happens now (event.Up c)) blocks primaries 0 b n (λ i. primaries-stay now (event.Up c) i (ap (λ (u : Upper). is_primary (actor_above u)) is)) (answers-lower now c b is h)
  up-lowers c (by_primary i place) is h n =
      primary-lowers now (happens now (event.Up c)) blocks primaries 0 i n (λ b. writers-stay now (event.Up c) b (ap (λ (u : Upper). is_writer (actor_above u)) is)) (primaries-hear now c i place is h)
  up-lowers c (by_member d) is h n = delivers (event.Up c) refl h (ap (λ (u : Upper). is_writer (actor_above u)) is) (ap (λ (u : Upper). is_primary (actor_above u)) is)
  up-lowers c (by_reader i) is h n = delivers (event.Up c) refl h (ap (λ (u : Upper). is_writer (actor_above u)) is) (ap (λ (u : Upper). is_primary (actor_above u)) is)

  -- A DRAW

  draw-lowers : (d : Draw) → IsUntold now d → CanBeDrawn now d blocks primaries → LowersTo (run now (events_of d)) (brings d)
  draw-lowers (happening (event.Own s)) t c = step-lowers s (and-left (is_enabled now (event.Own s)) true c.enabled) c.counted t
  draw-lowers (happening (event.Down k answered)) t c = delivers (event.Down k answered) refl (and-left (is_enabled now (event.Down k answered)) true c.enabled) refl refl
  draw-lowers (happening (event.Ready k)) t c = delivers (event.Ready k) refl (and-left (is_enabled now (event.Ready k)) true c.enabled) refl refl
  draw-lowers (happening (event.Fault f)) t c = delivers (event.Fault f) refl (and-left (is_enabled now (event.Fault f)) true c.enabled) refl refl
  draw-lowers (happening (event.Up k)) t c = up-lowers k (now.dialled k.0).upper refl (and-left (is_enabled now (event.Up k)) true c.enabled) c.counted
  draw-lowers (happening (event.Office k)) t c = absurd (false≢true c.draw)
  draw-lowers (happening (event.Lost k way more)) t c = absurd (false≢true c.draw)
  draw-lowers (happening (event.Stop n)) t c = absurd (false≢true c.draw)
  draw-lowers (happening (event.Restart n list)) t c = absurd (false≢true c.draw)
  draw-lowers (asking b answered) t c =
      let asks : Event = event.Office (caller.Writer b) in
      let goes : Event = event.Own (own.Writer b None answered) in
      let u : World = happens now asks in
      let first = and-left (is_enabled now asks) (is_enabled u goes && true) c.enabled in
      let on = and-right (is_enabled now asks) (is_enabled u goes && true) c.enabled in
      writer-lowers now (happens u goes) blocks primaries 0 b.0 c.counted (λ i. primaries-stay u goes i refl ∙ primaries-stay now asks i refl)
      (asking-lowers nodes events b answered fit left (asked-untold now b first) first (and-left (is_enabled u goes) true on))
  draw-lowers (beginning i n b members answers) t c =
      let asks : Event = event.Office (caller.Primary i b) in
      let goes : Event = event.Own (own.Recover i n b members answers) in
      let u : World = happens now asks in
      let on = and-right (is_enabled now asks) (is_enabled u goes && true) c.enabled in
      primary-lowers now (happens u goes) blocks primaries (recovery_weight members) i c.counted (λ a. writers-stay u goes a refl ∙ writers-stay now asks a refl)
      (beginning-lowers nodes events i n b members answers (and-left (is_enabled u goes) true on))
  draw-lowers (committing i b) t c =
      let asks : Event = event.Office (caller.Primary i b) in
      let goes : Event = event.Own (own.Primary i) in
      let u : World = happens now asks in
      let on = and-right (is_enabled now asks) (is_enabled u goes && true) c.enabled in
      primary-lowers now (happens u goes) blocks primaries 0 i c.counted (λ a. writers-stay u goes a refl ∙ writers-stay now asks a refl)
      (committing-lowers nodes events i b (and-left (is_enabled u goes) true on))

pub draws-lower : DrawsLower
draws-lower nodes events d blocks primaries fit left untold c = draw-lowers nodes events blocks primaries fit left d untold c
