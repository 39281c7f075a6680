-- Plays are safe.
use Rattle.std.proofs.Common.{◌≡◌, ℕ, ◌≤◌, Bool, true, false, List, [], ◌∷◌, ◌++◌, refl, sym, subst}
use Rattle.std.specs.Prelude.{if◌then◌else◌}
use Rattle.hd_base.specs.declared.numbers.NodeId.{NodeId}
use Rattle.script_lang.specs.declared.instructions.ScriptLine.{ScriptLine}
use Rattle.world.specs.declared.events.Event.TheVariants as event
use Rattle.world_closings.specs.Safety.{AllSafe}
use Rattle.play_model.specs.Lines.{PlaysLines, Plays, blocks_of, stopped, stop_at, may_start, start_at}
use Rattle.play_model.specs.States.{PlayState, opened, world_of}
use Rattle.play_model.specs.Faults.{befalls}
use Rattle.play_completeness.specs.Safety.{PlaysAreSafe}
use Rattle.play_completeness.proofs.Plays.{lines-keep, any-keep}

befalls-same : (n : ℕ) (p : PlayState) (d : _) → p.nodes ≡ n → (befalls p d).nodes ≡ n
unfolding befalls
befalls-same n p d e = e

stop-same : (n : ℕ) (p : PlayState) (m : NodeId) → p.nodes ≡ n → (stop_at p m).nodes ≡ n
stop-same n p m e = by ((world_of p).running m.0)
  where
    by : (b : Bool) → (if b then stopped p m else p).nodes ≡ n
    by true = e
    by false = e

start-same : (n : ℕ) (p : PlayState) (m : NodeId) → p.nodes ≡ n → (start_at p m).nodes ≡ n
start-same n p m e = by (may_start p m)
  where
    by : (b : Bool) → (if b then record p { events = p.events ++ event.Restart m [] ∷ [] } else p).nodes ≡ n
    by true = e
    by false = e

-- the lines of a script leave the nodes as many as they were
nodes-stay : (n : ℕ) (blocks : List ℕ) (lines : List ScriptLine) (p end : PlayState) → p.nodes ≡ n → PlaysLines blocks lines p end → end.nodes ≡ n
nodes-stay n blocks lines p end here plays =
    lines-keep (λ q. q.nodes ≡ n) (record { advances = λ q e. e; orders = λ q b c e. e; rules = λ q b r e. e; goes = λ q d due asked e. befalls-same n q d e }) blocks lines p end
    (any-keep (λ q. q.nodes ≡ n) (record { cuts = λ q c down up e. e; stops = λ q m e. stop-same n q m e; starts = λ q m e. start-same n q m e; recoveries = λ q r e. e; arms = λ q m nth e. e }) (λ q ask e. e) lines) plays here

pub plays-safe : AllSafe → PlaysAreSafe
plays-safe all shelves script end fits plays =
    let same : end.nodes ≡ fits.nodes = subst (λ (s : List ScriptLine). Plays s end → end.nodes ≡ fits.nodes) (sym fits.parts)
    (λ x. nodes-stay fits.nodes (blocks_of fits.body) fits.body (opened fits.nodes fits.seed) end refl x) plays in
    all end.nodes end.events (subst (λ (n : ℕ). n ≤ 16) (sym same) fits.few)
