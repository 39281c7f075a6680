-- The bytes that were written aren't certain.
use Rattle.std.proofs.Common.{◌≡◌, ◌+◌, ap, ◌∙◌, length, min, max}
use Rattle.hd_base.specs.FileMaps.{overwritten}
use Rattle.fault_ports.specs.Certain.{certain_at, without_range}
use Rattle.fault_ports.proofs.CertainLaws.{certain_at-without_range}
use Rattle.fault_ports.proofs.StoredLaws.{same_disk_file}
use Rattle.fault_ports.proofs.stored_files.StoredFile.written.Goals as goal

pub returns : goal.returns
returns c =
    let bytes : c.in_ok-bytes.bytes.items ≡ overwritten c.args.self.now.bytes.items c.args.place c.args.piece.now =
    c.in_ok-bytes.ensures ∙ ap (λ b. overwritten b c.args.place c.args.piece.now) c.deref.ensures.value in
    let len : c.len-len.result ≡ length (overwritten c.args.self.now.bytes.items c.args.place c.args.piece.now) =
    c.len-len.ensures ∙ (c.in_ok-bytes.bytes.ok.0 ∙ ap length bytes) in
    same_disk_file _ _ bytes
    (ap certain_at (c.in_ok-certain.ensures ∙ ap (without_range c.args.place (c.args.place + length c.args.piece.now) 0) c.deref-2.ensures.value)
    ∙ certain_at-without_range c.args.place (c.args.place + length c.args.piece.now) c.args.self.now.certain.items)
    (c.min.ensures ∙ ap (min c.args.self.now.least) len)
    (c.max.ensures ∙ ap (max c.args.self.now.greatest) len)
