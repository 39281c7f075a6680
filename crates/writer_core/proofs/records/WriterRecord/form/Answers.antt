-- The packet that is due ends past the sent end.
use Rattle.std.proofs.Common.{subst}
use Rattle.writer_core.proofs.DueLemmas.{IsDue, due_now_is}
use Rattle.writer_core.proofs.records.WriterRecord.form.Goals as goal

pub form-requires-clause-some : goal.form-requires-clause-some
form-requires-clause-some c =
    let d = due_now_is c.args.self.now c.args.packet c.requires.sound.stream c.requires.due in
    (subst (IsDue c.args.self.now.waiting c.args.self.now.stream) c.in-Data.is d.fits).0
