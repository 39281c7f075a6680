-- The law is proved of all members and turns.
use Rattle.member_core.proofs.MemberLemmas.{refused_silent}
use Rattle.member_core.proofs.laws.refused_is_silent.Goals as goal

pub returns : goal.returns
returns c = refused_silent
