use Rattle.world_laws.proofs.Agreements.{office-and-writer-agree}
use Rattle.world_laws.proofs.office_and_writer_agree.Goals as goal

pub returns : goal.returns
returns c = office-and-writer-agree
