-- Only of a mirror whose answer is awaited the end is booked where nothing is pending.
use Rattle.std.proofs.Common.{ap, is_some, ◌∙◌}
use Rattle.pipe_setup.specs.MemberCore.Turn.{Turn}
use Rattle.pipe_member.proofs.TakeLemmas.{asks}
use Rattle.pipe_member.proofs.member.is_asked.Goals as goal

pub returns : goal.returns
returns c = c.is_some.ensures ∙ (ap (λ (t : Turn). is_some t.call) c.up.ensures ∙ asks c.args.core.now)
