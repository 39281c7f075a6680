use Rattle.frame_feed.proofs.StreamLemmas.{given_is_stream, given_only}
use Rattle.frame_feed.proofs.laws.pieces_do_not_matter.Goals as goal

pub returns-clause-stream : goal.returns-clause-stream
returns-clause-stream c = given_is_stream

pub returns-clause-only : goal.returns-clause-only
returns-clause-only c = given_only
