-- What comes next is what the feed gives, or what the link does.
use Rattle.std.proofs.Common.{Option, ap, ◌∙◌, subst}
use Rattle.link_messages.specs.declared.incoming.Next.{Next}
use Rattle.link_messages.specs.Incomings.{IncomingState, coming, AsksEnds}
use Rattle.link_messages.proofs.NextLemmas.{coming_pushed, Goes, asked}
use Rattle.link_messages.proofs.incoming.Incoming.next.Goals as goal

pub returns-in-Some : goal.returns-in-Some
returns-in-Some g c =
    let kind = g.M.Streamed.kind in
    let i = g.I.LinkIn in
    let goes : Goes kind i c.args.self.now c.pieces.self c.args.inward.now c.pieces.inward = record {
      fed = c.pieces.invariant.fed;
      stays = c.pieces.invariant.stays ∙ (ap (λ (s : IncomingState). coming s (g.I.LinkIn.held c.args.inward.now)) c.in-Ok.ensures.ok ∙ coming_pushed c.args.self.now (g.I.LinkIn.held c.args.inward.now));
      refused = c.pieces.invariant.refused ∙ ap IncomingState.refused c.in-Ok.ensures.ok;
      shut = c.pieces.invariant.shut;
      never_falls = c.pieces.invariant.never_falls;
    } in
    asked kind i c.args.self.now c.pieces.self c.args.inward.now c.pieces.inward g.met.M.Streamed.sound g.met.M.Streamed.empty goes c.ask.new.self c.in-Some.next
    (subst (λ (r : Option (Next g.row.M.Denot)). AsksEnds g.M.Streamed.kind c.pieces.self c.ask.new.self r) c.in-Some.is c.ask.ensures)
