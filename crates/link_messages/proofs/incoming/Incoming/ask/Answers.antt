-- What the feed gives is what comes next.
use Rattle.std.proofs.Common.{take, subst}
use Rattle.link_messages.specs.Incomings.{IncomingState, AsksEnds, next_of}
use Rattle.link_messages.proofs.AskLemmas.{asks, with_feed}
use Rattle.link_messages.proofs.incoming.Incoming.ask.Goals as goal

pub returns : goal.returns
returns g c =
    let unpushed = take c.self.inside.count c.self.inside.piece.items in
    rw c.next_of.ensures
    (subst (λ (s : IncomingState). AsksEnds g.M.Streamed.kind s (with_feed c.take.new.feed unpushed) (next_of c.take.result)) c.self.view_is
    (asks g.M.Streamed.kind g.met.M.Streamed.sound c.self.inside.feed c.take.new.feed unpushed c.take.result c.take.ensures.takes))
