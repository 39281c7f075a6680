-- What members do, and what writers hear, writes nothing.
use Rattle.std.proofs.Common.{◌≡◌, ℕ, true, false, List, [], Option, Some, None, IfSome, refl, sym, ◌∙◌, ap, arith}
use Rattle.std.specs.Prelude.{◌&&◌, nat_lt, is_none}
use Rattle.std.proofs.lemmas.Bool.{false≢true}
use Rattle.std.proofs.lemmas.Option.{none-some}
use Rattle.world.specs.declared.events.Event.{Event}
use Rattle.world.specs.declared.events.Event.TheVariants as event
use Rattle.world.specs.Parts.{Upper, by_writer, by_member, by_reader, by_primary}
use Rattle.world.specs.Worlds.{World, Change, add, start, apply}
use Rattle.world.specs.Connections.{Next, next_down, next_up, down_taken, up_taken, is_served, is_conn}
use Rattle.world.specs.Nodes.{lower_down, lower_ready, mirror_up}
use Rattle.world.specs.Clients.{own_reader, reader_up}
use Rattle.world.specs.Primaries.{primary_up}
use Rattle.world.specs.Events.{changed, down_as, upper_up, up_as, outcome, after_event, happens, run}
use Rattle.world_laws.proofs.FactTables.{when-each}
use Rattle.world_laws.proofs.RunLaws.{runs-join}
use Rattle.world_laws.proofs.SessionAsides.{Aside, lower-down-aside, lower-ready-aside, mirror-up-aside, own-reader-aside, reader-up-aside, primary-up-aside}
use Rattle.play_model.specs.Asks.{request_of, asking_node}
use Rattle.play_model.specs.declared.dues.Due.{Due}
use Rattle.play_model.specs.declared.dues.Due.TheVariants as due
use Rattle.play_model.specs.States.{world_of}
use Rattle.play_model.specs.Dues.{Queues, due_events, after_due}
use Rattle.play_completeness.proofs.Beginning.{opened-played, commands-join}
use Rattle.completing_writers.specs.Steps.{CommandsWell, is_own, OthersKeep, OpenedAreWell, CommandsJoinWell}
use Rattle.completing_writers.proofs.Leaving.{add-none}

-- no session has the number 0
abbrev IsUnused : World → Type 0
IsUnused w = w.written 0 ≡ []

-- a change that writes nothing
abbrev Leaves : Change → Type 0
Leaves k = k.bytes ≡ []

module _ (w : World) (h : IsUnused w) where
  aside-leaves : (o : Option Change) → IfSome o (Aside w) → IfSome o Leaves
  aside-leaves None q = tt
  aside-leaves (Some k) q = q.bytes

  upper-leaves : (u : Upper) (c : ℕ) (x : Next) → IfSome (upper_up u w c x false) Leaves
  upper-leaves (by_writer b) c x = when-each Leaves (is_conn (w.writers b).conn c && is_none (w.writers b).told) _ (λ _. refl)
  upper-leaves (by_member d) c x = aside-leaves (mirror_up (w.lowers d) w d x false) (mirror-up-aside (w.lowers d) w d x false)
  upper-leaves (by_reader i) c x = aside-leaves (reader_up w i c x) (reader-up-aside w i c x)
  upper-leaves (by_primary i place) c x = aside-leaves (primary_up w i place c x) (primary-up-aside w i place c x)

  apply-unused : (k : Change) → Leaves k → IsUnused (apply w k)
  unfolding apply
  apply-unused k n = ap (λ (bytes : List ℕ). add w.written k.session bytes 0) n ∙ (add-none w.written k.session 0 ∙ h)

  changed-unused : (o : Option Change) → IfSome o Leaves → IfSome (changed w o) IsUnused
  changed-unused None n = tt
  changed-unused (Some k) n = apply-unused k n

  after-unused : (e : Event) (o : Option World) → IfSome o IsUnused → IsUnused (after_event w e o)
  after-unused e None n = h
  after-unused e (Some v) n = n

down-as-unused : (w : World) (c : ℕ) (o : Option Next) → IsUnused w → IfSome (down_as w c true false o) IsUnused
unfolding down_taken
down-as-unused w c None h = tt
down-as-unused w c (Some x) h =
    let v : World = down_taken w c x in
    changed-unused v h (lower_down (w.lowers c) v c x true false) (aside-leaves v h (lower_down (w.lowers c) v c x true false) (lower-down-aside (w.lowers c) v c x true false))

up-as-unused : (w : World) (c : ℕ) (o : Option Next) → IsUnused w → IfSome (up_as w c false o) IsUnused
unfolding up_taken
up-as-unused w c None h = tt
up-as-unused w c (Some x) h =
    let v : World = up_taken w c x in
    changed-unused v h (upper_up (w.dialled c).upper v c x false) (upper-leaves v h (w.dialled c).upper c x)

due-unused : (w : World) (queues : Queues) (d : Due) → is_own d ≡ false → IsUnused w → IsUnused (run w (due_events w queues d))
unfolding happens outcome
due-unused w queues (due.Own b) other h = absurd (false≢true (sym other))
due-unused w queues (due.Reader ask) other h =
    let k : Option Change = own_reader w ask.reader ask.node.0 (request_of ask) true in
    after-unused w h (asking_node ask true) _ (changed-unused w h k (aside-leaves w h k (own-reader-aside w ask.reader ask.node.0 (request_of ask) true)))
due-unused w queues (due.Primary r) other h = absurd (false≢true (sym other))
due-unused w queues (due.Down c) other h = after-unused w h (event.Down c true) _ (when-each IsUnused (is_served w c.0) _ (λ _. down-as-unused w c.0 (next_down w c.0) h))
due-unused w queues (due.Ready c) other h = after-unused w h (event.Ready c) _ (when-each IsUnused (is_served w c.0) _
    (λ _. changed-unused w h (lower_ready (w.lowers c.0) w c.0 false) (aside-leaves w h (lower_ready (w.lowers c.0) w c.0 false) (lower-ready-aside (w.lowers c.0) w c.0 false))))
due-unused w queues (due.Up c) other h = after-unused w h (event.Up c) _ (when-each IsUnused (nat_lt c.0 w.next_conn) _ (λ _. up-as-unused w c.0 (next_up w c.0) h))

-- LAWS

pub others-keep : OthersKeep
unfolding after_due
others-keep p commands d other h played = record {
  played = played;
  unused = ap (λ (v : World). v.written 0) (runs-join (start p.nodes) p.events (due_events (world_of p) p.queues d)) ∙ due-unused (world_of p) p.queues d other h.unused;
  few = h.few;
  fit = h.fit;
}

none-fit : (nodes : ℕ) → CommandsWell nodes []
none-fit nodes = record {
  first = λ c e. absurd (none-some c e);
  few = λ i ms e. absurd (none-some _ e);
  are_nodes = λ i ms e. absurd (none-some _ e);
  keeps = λ i j created appended e. absurd (none-some _ e);
  short = omega arith;
}

pub opened-well : OpenedAreWell
unfolding start
opened-well nodes seed few = record { played = opened-played nodes seed; unused = refl; few = few; fit = λ b. none-fit nodes }

pub commands-join-well : CommandsJoinWell
commands-join-well p commands b c h bytes queued fit = record { played = commands-join p commands b c h.played bytes queued; unused = h.unused; few = h.few; fit = fit }
