-- Behind a packet with bytes another one is next.
use Rattle.std.proofs.Common.{sym, ◌∙◌}
use Rattle.visible_read.proofs.PacketLemmas.{sent-next}
use Rattle.visible_read.proofs.packets.passed_on.Goals as goal

pub returns-clause-sound : goal.returns-clause-sound
returns-clause-sound c = rw c.sent.ensures (sent-next c.args.core.now c.requires.next (sym c.requires.ends ∙ c.if-packet.false))
