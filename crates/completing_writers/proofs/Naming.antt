-- Which nodes the members of a block's writer are.
use Rattle.std.proofs.Common.{◌≡◌, ℕ, ◌≤◌, List, [], ◌∷◌, length, map, slice_get, Some, refl, ◌∙◌, ap}
use Rattle.hd_base.specs.declared.numbers.BlockId.{BlockId}
use Rattle.hd_base.specs.declared.numbers.NodeId.{NodeId}
use Rattle.hd_base.specs.declared.pipeline.TheConstants.{MAX_MEMBERS}
use Rattle.writer_core.specs.declared.commands.Command.{Command}
use Rattle.writer_core.specs.declared.commands.Command.TheVariants as command
use Rattle.writer_core.specs.declared.intake.Stand.TheVariants as stand
use Rattle.world.specs.declared.events.TakenCommand.{TakenCommand}
use Rattle.world.specs.Worlds.{World}
use Rattle.play_model.specs.States.{PlayState, world_of}
use Rattle.play_completeness.specs.PlayLaws.Members.{IsNode, AreAll}
use Rattle.play_completeness.specs.Played.{stand_of, BlockPlayed, Played}
use Rattle.play_completeness.proofs.Flowing.{get-front}
use Rattle.completing_writers.specs.Steps.{IsCreate, CommandsWell}

-- the first member, with the others
pub record First (members : List NodeId) : Type 0 where
  pub first : NodeId
  pub others : List NodeId
  pub are : members ≡ first ∷ others

pub first-of : (members : List NodeId) → (members ≡ [] → ⊥) → First members
first-of [] some = absurd (some refl)
first-of (m ∷ ms) some = record { first = m; others = ms; are = refl }

-- The members of a block that was made are those of its create, the first command.
pub record IsMade (w : World) (b nodes : ℕ) (taken commands : List Command) : Type 0 where
  pub created : List NodeId
  pub taken_first : slice_get taken 0 ≡ Some (command.Create created)
  pub first : slice_get commands 0 ≡ Some (command.Create created)
  pub members : (w.writers b).known.members ≡ created
  pub few : length created ≤ MAX_MEMBERS
  pub are_nodes : AreAll (IsNode nodes) created

module _ (p : PlayState) (commands : ℕ → List Command) (h : Played p commands) (b : BlockId) (fit : CommandsWell p.nodes (commands b.0)) where
  abbrev w : World
  w = world_of p

  abbrev B : BlockPlayed w b.0 (p.queues b.0) (commands b.0)
  B = h.blocks b.0

  pub made : ((w.writers b.0).known.intake.stand ≡ stand.Unmade → ⊥) → IsMade w b.0 p.nodes B.taken (commands b.0)
  made some = go B.taken refl
    where
      of : (c : Command) (cs : List Command) → B.taken ≡ c ∷ cs → IsCreate c → IsMade w b.0 p.nodes B.taken (commands b.0)
      of c cs e x =
          let there : slice_get B.taken 0 ≡ Some (command.Create x.0) = ap (λ (l : List Command). slice_get l 0) e ∙ ap (λ (d : Command). Some d) x.1 in
          let first : slice_get (commands b.0) 0 ≡ Some (command.Create x.0) =
          ap (λ (l : List Command). slice_get l 0) B.are ∙ get-front B.taken (map (λ (t : TakenCommand). t.command) (p.queues b.0)) 0 (command.Create x.0) there in
          record {
            created = x.0;
            taken_first = there;
            first = first;
            members = B.members 0 x.0 there;
            few = fit.few 0 x.0 first;
            are_nodes = fit.are_nodes 0 x.0 first;
          }

      go : (l : List Command) → B.taken ≡ l → IsMade w b.0 p.nodes B.taken (commands b.0)
      go [] e = absurd (some (B.stand ∙ ap (stand_of stand.Unmade) e))
      go (c ∷ cs) e =
          let there : slice_get (commands b.0) 0 ≡ Some c =
          ap (λ (l : List Command). slice_get l 0) B.are ∙ get-front B.taken (map (λ (t : TakenCommand). t.command) (p.queues b.0)) 0 c (ap (λ (l : List Command). slice_get l 0) e) in
          of c cs e (fit.first c there)
