-- Recoveries leave what was answered, at the nodes that accepted a setup of the answer's session since.
use Rattle.std.specs.Prelude.{ℕ, ◌≡◌, ◌<◌, ◌≤◌, Some}
use Rattle.hd_base.specs.declared.numbers.Stamp.{Stamp}
use Rattle.hd_base.specs.declared.states.ReplicaState.TheVariants as state
use Rattle.op_headers.specs.Values.{WriteFields}
use Rattle.world.specs.Parts.{Place, Answered}
use Rattle.world.specs.Worlds.{World}
use Rattle.world.specs.Nodes.{block_of}
use Rattle.world.specs.Safe.{Has}
use Rattle.world_laws.specs.Stamping.{Givens}
use Rattle.world_laws.specs.Carrying.{new_stamp}
use Rattle.world_laws.specs.Joining.{joined_as}
use Rattle.world_acks.specs.WorldRecoveries.Recovering.{ReplicaTold, Informs}
use Rattle.world_acks.specs.Acking.{UpdatesLeave, EarlierLeave, ToldBytes, Asked, promised}

-- In this life a node accepted the setup of this stamp, which is that of an answer or a later one of its session.
pub record JoinedSince (g : Givens) (w : World) (a : Answered) (stamp : ℕ) (at : Place) : Type 0 where
  pub session : ℕ
  pub answer : g a.block a.stamp ≡ Some session
  pub given : g a.block stamp ≡ Some session
  pub since : a.stamp ≤ stamp
  pub joins : Has w.joined (joined_as stamp at.node at.life)

-- What such a node told of its replica is of the answered bytes, as far as earlier recoveries left them.
abbrev pub ToldSince : Givens → World → Answered → Type 0
ToldSince g w a = (stamp : ℕ) (at : Place) → at.node < w.nodes → JoinedSince g w a stamp at →
    ToldBytes w.past a.block stamp at.node at.life a.length

-- Each later setup of an answer's session asks for the answered bytes.
abbrev pub RequestsCover : Givens → World → Type 0
RequestsCover g w = (a : Answered) (c session : ℕ) (f : WriteFields) → Has w.answered a → Asked w.past c f →
    block_of f ≡ a.block → g a.block a.stamp ≡ Some session → g a.block (new_stamp f).0 ≡ Some session →
    a.stamp < (new_stamp f).0 → a.length ≤ promised f

-- A recovery with an id above this stamp was told of the replica of such a node, and the earlier recoveries that
-- updated it since left it the answered bytes.
pub record ToldLater (g : Givens) (w : World) (a : Answered) (stamp c : ℕ) (id : Stamp) : Type 0 where
  pub told : ReplicaTold
  pub informs : Informs w.past c a.block id told
  pub above : stamp < id.0
  pub joins : JoinedSince g w a stamp (w.dialled c).to
  pub earlier : EarlierLeave w.past a.block stamp id.0 (w.dialled c).to.node (w.dialled c).to.life a.length

-- this stamp is of another session than the answer
pub record OtherSession (g : Givens) (a : Answered) (stamp : ℕ) : Type 0 where
  pub session : ℕ
  pub given : g a.block stamp ≡ Some session
  pub apart : g a.block a.stamp ≡ Some session → ⊥

-- An RBW replica of a later session that a recovery was told of beside that of such a node is of the answered bytes.
abbrev pub LaterSessionsKeep : Givens → World → Answered → Type 0
LaterSessionsKeep g w a = (stamp c d : ℕ) (id : Stamp) (k : ReplicaTold) → ToldLater g w a stamp c id →
    Informs w.past d a.block id k → k.0 ≡ state.Rbw → OtherSession g a k.1.0 → a.length ≤ k.2

-- Each later recovery that updated such a node left it the answered bytes.
abbrev pub UpdatesKeep : Givens → World → Answered → Type 0
UpdatesKeep g w a = (stamp : ℕ) (at : Place) → at.node < w.nodes → JoinedSince g w a stamp at →
    UpdatesLeave w a.block stamp at.node at.life a.length
