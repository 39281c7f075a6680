-- Laws of stored files.
use Rattle.std.proofs.Common.{◌≡◌}
use Rattle.file_calls.specs.Disks.{DiskFile}

-- Files that agree in each part are one.
pub same_disk_file : (a b : DiskFile) → a.bytes ≡ b.bytes → a.certain ≡ b.certain → a.least ≡ b.least → a.greatest ≡ b.greatest → a ≡ b
same_disk_file a b bytes certain least greatest = λ i. record { bytes = bytes i; certain = certain i; least = least i; greatest = greatest i }
