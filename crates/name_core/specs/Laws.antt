-- Laws of the office and of the choice.
use Rattle.std.specs.Prelude.{ℕ, ◌≡◌, ◌≤◌, Bool, true, List, [], ◌∷◌, ◌++◌, All, map, filter, Result, Ok, Err, IsErr}
use Rattle.hd_base.specs.declared.numbers.BlockId.{BlockId}
use Rattle.hd_base.specs.declared.numbers.NodeId.{NodeId}
use Rattle.hd_base.specs.declared.numbers.Stamp.{Stamp}
use Rattle.name_core.specs.declared.calls.OfficeAnswer.{OfficeAnswer}
use Rattle.name_core.specs.declared.calls.OfficeAnswer.TheVariants as answer
use Rattle.name_core.specs.declared.calls.OfficeCall.{OfficeCall}
use Rattle.name_core.specs.declared.calls.OfficeCall.TheVariants as call
use Rattle.name_core.specs.declared.choice.Chosen.{Chosen}
use Rattle.name_core.specs.declared.faults.OfficeFault.{OfficeFault}
use Rattle.name_core.specs.declared.infos.Info.{Info}
use Rattle.name_core.specs.Choice.{is_candidate, is_finalized_candidate}
use Rattle.name_core.specs.Offices.{OfficeState, office_after, answer_to}

-- the stamp that an answer gives, if it gives one
abbrev pub stamp_in : OfficeAnswer → List ℕ
stamp_in (answer.Stamp stamp) = stamp.0 ∷ []
stamp_in (answer.Reopened reopened) = reopened.new.0 ∷ []
stamp_in (answer.Begun begun) = begun.id.0 ∷ []
stamp_in answer.Nothing = []

abbrev pub given_by : Result OfficeAnswer OfficeFault → List ℕ
given_by (Ok a) = stamp_in a
given_by (Err e) = []

-- the stamps that the office gives in the course of these calls, in order
abbrev pub stamps_given : OfficeState → List OfficeCall → List ℕ
stamps_given o [] = []
stamps_given o (c ∷ calls) = given_by (answer_to o c) ++ stamps_given (office_after o c) calls

-- no commit of the block under this stamp passes, and no end of it
pub record RefusesWriter (o : OfficeState) (block : BlockId) (stamp : Stamp) : Type 0 where
  pub commit : (members : List NodeId) → IsErr (answer_to o (call.Commit block stamp members))
  pub complete : (bytes : ℕ) → IsErr (answer_to o (call.Complete block stamp bytes))

-- What is chosen: each finalized candidate has the chosen length, and the members are the nodes of candidates that have no less, in the
-- order of the infos.
pub record KeepsLength (block_stamp : Stamp) (infos : List Info) (c : Chosen) : Type 0 where
  pub finalized : All (λ i. is_finalized_candidate block_stamp i ≡ true → i.length ≡ c.length) infos
  pub keep : Info → Bool
  pub members : c.members ≡ map (λ i. i.node) (filter keep infos)
  pub candidates : All (λ i. is_candidate block_stamp i ≡ true) (filter keep infos)
  pub enough : All (λ i. c.length ≤ i.length) (filter keep infos)
