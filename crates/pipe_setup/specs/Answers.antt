-- What a member answers upstream after its mirror.
use Rattle.std.specs.Prelude.{◌≡◌, if◌then◌else◌, Option, Some, None}
use Rattle.member_core.specs.AckCodec.Response.{Response}
use Rattle.member_core.specs.declared.effects.SetupAnswer.{SetupAnswer}
use Rattle.member_core.specs.declared.effects.SetupAnswer.TheVariants as answer
use Rattle.member_core.specs.declared.effects.Upward.TheVariants as upward
use Rattle.member_core.specs.declared.inputs.FromBelow.TheVariants as below
use Rattle.member_core.specs.Acks.{is_success}
use Rattle.member_core.specs.Members.{MemberState, named_bad, setup_turn}

-- after the mirror's answer
abbrev pub answer_after : Response → SetupAnswer
answer_after r = if is_success r.status then answer.Success else named_bad r.first_bad

-- after the mirror's answer, or where none can be had
abbrev pub answer_above : Option Response → SetupAnswer
answer_above None = answer.Unreached
answer_above (Some r) = answer_after r

-- It is what the member's turn sends up.
pub record FollowsMember (m : MemberState) : Type 0 where
  pub answered : (r : Response) →
      (setup_turn m (below.Response r)).effect.sends ≡ Some (upward.Answer (answer_above (Some r)))
  pub ended : (setup_turn m below.End).effect.sends ≡ Some (upward.Answer (answer_above None))
  pub unread : (setup_turn m below.Unreadable).effect.sends ≡ Some (upward.Answer (answer_above None))
