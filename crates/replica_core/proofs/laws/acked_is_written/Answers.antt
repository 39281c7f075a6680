use Rattle.replica_core.proofs.SoundLemmas.{run_sound}
use Rattle.replica_core.proofs.TransitionLemmas.{made_acked, found_acked}
use Rattle.replica_core.proofs.laws.acked_is_written.Goals as goal

pub returns-clause-made : goal.returns-clause-made
returns-clause-made c = made_acked

pub returns-clause-found : goal.returns-clause-found
returns-clause-found c = found_acked

pub returns-clause-sound : goal.returns-clause-sound
returns-clause-sound c = run_sound
