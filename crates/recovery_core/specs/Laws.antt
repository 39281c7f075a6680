-- The laws of the primary.
use Rattle.std.specs.Prelude.{ℕ, ◌≡◌, true, List, [], ◌∷◌, All}
use Rattle.hd_base.specs.declared.numbers.NodeId.{NodeId}
use Rattle.name_core.specs.declared.choice.Chosen.{Chosen}
use Rattle.recovery_core.specs.declared.standings.Heard.{Heard}
use Rattle.recovery_core.specs.declared.standings.Standing.{Standing}
use Rattle.recovery_core.specs.declared.standings.Standing.TheVariants as standing
use Rattle.recovery_core.specs.declared.primary.OwnStep.TheVariants as own
use Rattle.recovery_core.specs.Primaries.{PrimaryState, heard_at, own_step, after_choice, is_among}

-- After the choice only a chosen member's answer to an UPDATE is awaited, and no member counts as updated yet.
abbrev pub OnlyChosenAreUpdated : Type 0
OnlyChosenAreUpdated = (chosen : List NodeId) (node : NodeId) (s : Standing) →
    (after_choice chosen node s ≡ standing.Updating → is_among chosen node ≡ true)
    × (after_choice chosen node s ≡ standing.Updated → ⊥)

-- what happens at a primary: it hears something from the member at a place, or does a step of its own
pub data Move : Type 0 where
  Hears : ℕ → Heard → Move
  Steps : Move

abbrev pub after_move : PrimaryState → Move → PrimaryState
after_move p (Hears at h) = heard_at p at h
after_move p Steps = (own_step p).primary

-- a primary after these, one after another
abbrev pub after_moves : PrimaryState → List Move → PrimaryState
after_moves p [] = p
after_moves p (m ∷ ms) = after_moves (after_move p m) ms

-- The members and the length that are committed are those of the choice: each is a chosen one.
pub record IsOfChoice (chosen committed : Chosen) : Type 0 where
  pub length : committed.length ≡ chosen.length
  pub members : All (λ node. is_among chosen.members node ≡ true) committed.members

-- Whatever is heard between the choice and the commit, what is committed is of the choice.
abbrev pub CommitsTheChosen : Type 0
CommitsTheChosen = (p : PrimaryState) (between : List Move) (chosen committed : Chosen) →
    (own_step p).does ≡ own.Updates chosen →
    (own_step (after_moves (own_step p).primary between)).does ≡ own.Commits committed →
    IsOfChoice chosen committed
