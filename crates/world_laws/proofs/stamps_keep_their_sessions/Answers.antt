use Rattle.world_laws.proofs.Sessions.{stamps-keep-sessions}
use Rattle.world_laws.proofs.stamps_keep_their_sessions.Goals as goal

pub returns : goal.returns
returns c = stamps-keep-sessions
