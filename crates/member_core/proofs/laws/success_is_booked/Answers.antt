-- The law is proved of all members and messages.
use Rattle.member_core.proofs.MemberLemmas.{success_from_below, success_at_the_end}
use Rattle.member_core.proofs.laws.success_is_booked.Goals as goal

pub returns-clause-from_below : goal.returns-clause-from_below
returns-clause-from_below c = success_from_below

pub returns-clause-at_the_end : goal.returns-clause-at_the_end
returns-clause-at_the_end c = success_at_the_end
