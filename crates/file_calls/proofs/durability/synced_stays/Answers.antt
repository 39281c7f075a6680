-- The law is proved of the disk.
use Rattle.file_calls.proofs.DiskLaws.{synced-stays}
use Rattle.file_calls.proofs.durability.synced_stays.Goals as goal

pub returns : goal.returns
returns c = synced-stays
