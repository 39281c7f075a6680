-- No number is listed.
use Rattle.std.proofs.Common.{refl}
use Rattle.play_dues.proofs.LiveLaws.{covers_none}
use Rattle.play_dues.proofs.live.LiveConns.new.Goals as goal

pub returns : goal.returns
returns c = covers_none (record { conns = c.new.result; known = 0 }) refl c.new.ensures.items
