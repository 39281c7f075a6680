-- What is known stays when a piece comes.
use Rattle.std.proofs.Common.{sym, subst}
use Rattle.frame_feed.specs.Feeds.{IsKnown}
use Rattle.frame_feed.proofs.FramingLemmas.{known_grows}
use Rattle.frame_feed.proofs.feed.Feed.push.Goals as goal

pub invariant_of-self-2 : goal.invariant_of-self-2
invariant_of-self-2 c = (
  subst (IsKnown c.self.inside.known) (sym c.in_ok-push.ensures.ok) (known_grows c.self.inside.known _ c.args.piece.now c.self.invariant.0),
  c.self.invariant.1,
)
