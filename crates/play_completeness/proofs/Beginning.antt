-- A play that was only opened, and commands that join the queues of their blocks.
use Rattle.std.proofs.Common.{◌≡◌, ℕ, ◌<◌, Bool, true, false, List, [], ◌∷◌, ◌++◌, map, slice_get, Some, None, refl, sym, ◌∙◌, ap, subst, arith, eqb-true, ◌⊎◌, inl, inr}
use Rattle.std.specs.Prelude.{◌==◌, if◌then◌else◌}
use Rattle.std.proofs.lemmas.List.{append_assoc, map-append}
use Rattle.hd_base.specs.Bytes.{IsBytes}
use Rattle.std.proofs.lemmas.Option.{none-some}
use Rattle.writer_core.specs.declared.commands.Command.{Command}
use Rattle.writer_core.specs.declared.commands.Command.TheVariants as command
use Rattle.world.specs.declared.events.TakenCommand.{TakenCommand}
use Rattle.world.specs.Worlds.{World, start}
use Rattle.world_orders.proofs.Lists.{Behind, get-append}
use Rattle.play_completeness.specs.Complete.{WritesBytes}
use Rattle.play_model.specs.States.{world_of}
use Rattle.play_completeness.specs.Formed.{Ruled}
use Rattle.play_completeness.specs.Keeping.{OpenedPlayOn, CommandsJoinOn}
use Rattle.play_completeness.specs.Links.{Links}
use Rattle.play_completeness.specs.Writers.{Writers}
use Rattle.play_completeness.specs.Played.{QueueFits, BlockPlayed, OpenedArePlayed, CommandsJoin}
use Rattle.play_completeness.proofs.Peace.{start-peace}

start-links : (nodes : ℕ) → Links (start nodes)
unfolding start
start-links nodes c lt = let l : c < 0 = lt.known in absurd (omega (arith, l))

start-writers : (nodes : ℕ) → Writers (start nodes)
unfolding start
start-writers nodes b = record {
  stream = record { all = λ e. refl; ends = λ i p e. absurd (none-some p e); within = omega arith };
  phase_is = (refl, record { entry = refl; none = λ n. refl });
}

start-played : (nodes b : ℕ) → BlockPlayed (start nodes) b [] []
unfolding start
start-played nodes b = record {
  taken = [];
  are = refl;
  writes = λ i bytes e. absurd (none-some _ e);
  number = refl;
  stand = refl;
  members = λ i ms e. absurd (none-some _ e);
  answers = record { each = λ k c e. absurd (none-some c e); only = λ s h. absurd (none-some s h.there); last = tt };
  bytes = refl;
  queued = tt;
}

start-quiet : (nodes b : ℕ) → ((start nodes).writers b).told ≡ None
unfolding start
start-quiet nodes b = refl

pub opened-played : OpenedArePlayed
opened-played nodes seed = record {
  recoveries = refl;
  unarmed = λ n. refl;
  plain = tt;
  quiet = start-quiet nodes;
  peaceful = start-peace nodes;
  links = start-links nodes;
  writers = start-writers nodes;
  blocks = start-played nodes;
}

-- one command more is queued
more-queued : (w : World) (b : ℕ) (queue : List TakenCommand) (commands : List Command) (t : TakenCommand) → BlockPlayed w b queue commands → WritesBytes (t.command ∷ []) → QueueFits w.nodes (w.writers b).known.intake (queue ++ t ∷ []) → BlockPlayed w b (queue ++ t ∷ []) (commands ++ t.command ∷ [])
more-queued w b queue commands t h bytes fits = record {
  taken = h.taken;
  are = ap (λ (cs : List Command). cs ++ t.command ∷ []) h.are
      ∙ (append_assoc h.taken (map (λ (x : TakenCommand). x.command) queue) (t.command ∷ [])
      ∙ ap (λ (cs : List Command). h.taken ++ cs) (sym (map-append (λ (x : TakenCommand). x.command) queue (t ∷ []))));
  writes = λ i v e. go i v (get-append commands (t.command ∷ []) i (command.Write v) e);
  number = h.number;
  stand = h.stand;
  members = h.members;
  answers = h.answers;
  bytes = h.bytes;
  queued = fits;
}
  where
    go : (i : ℕ) (v : List ℕ) → (slice_get commands i ≡ Some (command.Write v)) ⊎ Behind commands (t.command ∷ []) i (command.Write v) → IsBytes v
    go i v (inl e) = h.writes i v e
    go i v (inr q) = bytes q.place v q.found

pub commands-join : CommandsJoin
commands-join p commands b c h bytes fits = record {
  recoveries = h.recoveries;
  unarmed = h.unarmed;
  plain = h.plain;
  quiet = h.quiet;
  peaceful = h.peaceful;
  links = h.links;
  writers = h.writers;
  blocks = λ j. go j (j == b) refl;
}
  where
    t : TakenCommand
    t = record { command = c; rule = p.rules b }

    go : (j : ℕ) (q : Bool) → (j == b) ≡ q → BlockPlayed (world_of p) j (if q then p.queues j ++ t ∷ [] else p.queues j) (if q then commands j ++ c ∷ [] else commands j)
    go j false e = h.blocks j
    go j true e =
        more-queued (world_of p) j (p.queues j) (commands j) t (h.blocks j) bytes
        (subst (λ (k : ℕ). QueueFits (world_of p).nodes ((world_of p).writers k).known.intake (p.queues k ++ t ∷ [])) (sym (eqb-true j b e)) fits)

-- WITH NAMES AND RULES

start-ruled : (nodes : ℕ) → Ruled (start nodes)
unfolding start
start-ruled nodes b = record { each = λ n. tt }

pub opened-on : OpenedPlayOn
opened-on nodes seed few = record {
  played = opened-played nodes seed;
  names = record { few = few; named = tt };
  ruled = start-ruled nodes;
}

pub join-on : CommandsJoinOn
join-on p commands b c h bytes fits = record {
  played = commands-join p commands b c h.played bytes fits;
  names = record { few = h.names.few; named = h.names.named };
  ruled = h.ruled;
}
