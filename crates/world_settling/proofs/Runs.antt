-- Draws come to an end.
use Rattle.std.proofs.Common.{◌≡◌, ℕ, zero, suc, ◌≤◌, ◌+◌, true, false, List, [], ◌∷◌, ◌++◌, append_assoc, refl, sym, ap, ◌∙◌, subst, arith}
use Rattle.std.specs.List.{flat_map}
use Rattle.std.proofs.lemmas.Bool.{false≢true}
use Rattle.std.proofs.lemmas.List.Sums.{sum_by-cons}
use Rattle.packet_stream.proofs.StreamLemmas.{begun_written}
use Rattle.hd_base.specs.SumRules.{default_rule}
use Rattle.world.specs.declared.events.Event.{Event}
use Rattle.world.specs.declared.events.Event.TheVariants as event
use Rattle.world.specs.declared.events.OwnStep.{OwnStep}
use Rattle.world.specs.declared.events.OwnStep.TheVariants as own
use Rattle.world.specs.Parts.{Writing}
use Rattle.world.specs.Worlds.{World, start}
use Rattle.world.specs.Events.{happens, run}
use Rattle.world_texts.specs.Texts.{AllFit}
use Rattle.world_texts.proofs.WorldLaws.RunLaws.{runs-join}
use Rattle.world_settling.specs.Traffic.{sum_to, traffic, is_outer}
use Rattle.world_settling.specs.Draws.{writer_at, primary_at, world_weight, actor_of, is_writer, is_primary, Draw, happening, asking, beginning, committing, IsUntold, Turn, drawing, failing, turn_events, turn_brings, drawn_in, is_failure, CanGo, AllGo, with_turns, NoneTold, DrawsEnd, RunsEnd}
use Rattle.world_settling.proofs.Outer.{outer-keep}
use Rattle.world_settling.proofs.Actors.{writers-stay, primaries-stay}
use Rattle.world_settling.proofs.Telling.{draws-answer}
use Rattle.world_settling.proofs.Drawing.{all-writers, all-primaries, draws-lower}

-- FAILURES

-- a failure delivers nothing, and none acts in it
pub record NoneActs (w : World) (e : Event) : Type 0 where
  pub outer : is_outer e ≡ true
  pub no_writer : is_writer (actor_of w e) ≡ false
  pub no_primary : is_primary (actor_of w e) ≡ false

none-acts : (w : World) (e : Event) → is_failure e ≡ true → NoneActs w e
none-acts w (event.Lost c way more) h = record { outer = refl; no_writer = refl; no_primary = refl }
none-acts w (event.Stop n) h = record { outer = refl; no_writer = refl; no_primary = refl }
none-acts w (event.Restart n list) h = record { outer = refl; no_writer = refl; no_primary = refl }
none-acts w (event.Own s) h = absurd (false≢true h)
none-acts w (event.Office c) h = absurd (false≢true h)
none-acts w (event.Down c answered) h = absurd (false≢true h)
none-acts w (event.Ready c) h = absurd (false≢true h)
none-acts w (event.Up c) h = absurd (false≢true h)
none-acts w (event.Fault d) h = absurd (false≢true h)

failure-keeps : (w : World) (e : Event) (blocks primaries : ℕ) → is_failure e ≡ true → world_weight (happens w e) blocks primaries ≤ world_weight w blocks primaries
failure-keeps w e blocks primaries h =
    let f : NoneActs w e = none-acts w e h in
    omega (
      arith,
      outer-keep w e f.outer,
      all-writers w (happens w e) blocks primaries 0 (λ b. writers-stay w e b f.no_writer),
      all-primaries w (happens w e) blocks primaries 0 (λ i. primaries-stay w e i f.no_primary),
    )

-- WHAT WAITS

step-free : (w : World) (s : OwnStep) → NoneTold w → IsUntold w (happening (event.Own s))
step-free w (own.Writer b takes answered) h = h b.0
step-free w (own.Reader i n r answered) h = tt
step-free w (own.Recover i n b members answers) h = tt
step-free w (own.Primary i) h = tt

draw-free : (w : World) (d : Draw) → NoneTold w → IsUntold w d
draw-free w (happening (event.Own s)) h = step-free w s h
draw-free w (happening (event.Office k)) h = tt
draw-free w (happening (event.Down k answered)) h = tt
draw-free w (happening (event.Ready k)) h = tt
draw-free w (happening (event.Up k)) h = tt
draw-free w (happening (event.Fault f)) h = tt
draw-free w (happening (event.Lost k way more)) h = tt
draw-free w (happening (event.Stop n)) h = tt
draw-free w (happening (event.Restart n list)) h = tt
draw-free w (asking b answered) h = tt
draw-free w (beginning i n b members answers) h = tt
draw-free w (committing i b) h = tt

turn-answers : (w : World) (t : Turn) (blocks primaries : ℕ) → CanGo w t blocks primaries → NoneTold w → NoneTold (run w (turn_events t))
turn-answers w (drawing d) blocks primaries c h = draws-answer w d c.1.draw c.1.enabled h
turn-answers w (failing e) blocks primaries c h = λ b. ap (λ (x : Writing). x.told) (writers-stay w e b (none-acts w e c).no_writer) ∙ h b

-- TURNS

fit-front : (xs ys : List Event) → AllFit (xs ++ ys) → AllFit xs
fit-front [] ys h = tt
fit-front (x ∷ xs) ys h = (h.0, fit-front xs ys h.1)

-- one turn
turn-goes : (nodes : ℕ) (events : List Event) (t : Turn) (blocks primaries : ℕ) → AllFit events → NoneTold (run (start nodes) events) → CanGo (run (start nodes) events) t blocks primaries
    → drawn_in t + world_weight (run (run (start nodes) events) (turn_events t)) blocks primaries ≤ world_weight (run (start nodes) events) blocks primaries + turn_brings t
turn-goes nodes events (drawing d) blocks primaries fit none c = omega (arith, draws-lower nodes events d blocks primaries fit c.0 (draw-free (run (start nodes) events) d none) c.1)
turn-goes nodes events (failing e) blocks primaries fit none c = omega (arith, failure-keeps (run (start nodes) events) e blocks primaries c)

joined : (events : List Event) (t : Turn) (turns : List Turn) → with_turns (events ++ turn_events t) turns ≡ with_turns events (t ∷ turns)
joined events t turns = append_assoc events (turn_events t) (flat_map turn_events turns)

none-left : (events : List Event) → with_turns events [] ≡ events
none-left [] = refl
none-left (e ∷ events) = ap (λ (es : List Event). e ∷ es) (none-left events)

pub draws-end : DrawsEnd
draws-end nodes events [] blocks primaries fit none go =
    let same : world_weight (run (start nodes) (with_turns events [])) blocks primaries ≡ world_weight (run (start nodes) events) blocks primaries =
    ap (λ (es : List Event). world_weight (run (start nodes) es) blocks primaries) (none-left events) in
    omega (arith, same)
draws-end nodes events (t ∷ turns) blocks primaries fit none go =
    let on : run (start nodes) (events ++ turn_events t) ≡ run (run (start nodes) events) (turn_events t) = runs-join (start nodes) events (turn_events t) in
    let first = turn-goes nodes events t blocks primaries (fit-front events (flat_map turn_events (t ∷ turns)) fit) none go.0 in
    let next = turn-answers (run (start nodes) events) t blocks primaries go.0 none in
    let rest = draws-end nodes (events ++ turn_events t) turns blocks primaries (subst AllFit (sym (joined events t turns)) fit) (subst NoneTold (sym on) next) (subst (λ (v : World). AllGo v turns blocks primaries) (sym on) go.1) in
    let there = ap (λ (es : List Event). world_weight (run (start nodes) es) blocks primaries) (joined events t turns) in
    let here = ap (λ (v : World). world_weight v blocks primaries) on in
    omega (arith, first, rest, there, here, sum_by-cons drawn_in t turns, sum_by-cons turn_brings t turns)

-- THE START

none-in : (f : ℕ → ℕ) (n : ℕ) → ((i : ℕ) → f i ≡ 0) → sum_to f n ≡ 0
none-in f zero h = refl
none-in f (suc n) h = omega (arith, none-in f n h, h n)

new-writer : (nodes b : ℕ) → writer_at (start nodes) b ≡ 0
unfolding start
new-writer nodes b = omega (arith, begun_written default_rule 0)

new-primary : (nodes i : ℕ) → primary_at (start nodes) i ≡ 0
unfolding start
new-primary nodes i = refl

none-on-way : (nodes : ℕ) → traffic (start nodes) ≡ 0
unfolding traffic start
none-on-way nodes = refl

none-told : (nodes : ℕ) → NoneTold (start nodes)
unfolding start
none-told nodes b = refl

nothing-at : (nodes blocks primaries : ℕ) → world_weight (start nodes) blocks primaries ≡ 0
nothing-at nodes blocks primaries = omega (arith, none-on-way nodes, none-in (writer_at (start nodes)) blocks (new-writer nodes), none-in (primary_at (start nodes)) primaries (new-primary nodes))

pub runs-end : RunsEnd
runs-end nodes turns blocks primaries fit go = omega (arith, draws-end nodes [] turns blocks primaries fit (none-told nodes) go, nothing-at nodes blocks primaries)
