-- What the turn leaves of the files, and the faults of its own.
use Rattle.std.proofs.Common.{◌≡◌, ap}
use Rattle.file_calls.specs.FileCalls.{meant}
use Rattle.fault_ports.proofs.StopLaws.{kept-part, CauseOf-more, CauseOf-failed}
use Rattle.fault_ports.proofs.stop_at.StopAt.change.Goals as goal

pub returns-in-Ok-clause-in_part : goal.returns-in-Ok-clause-in_part
returns-in-Ok-clause-in_part g c =
    let inner : c.turn.new.self.inner ≡ c.args.self.now.inner = ap (λ s. s.inner) c.in-Stops.ensures.0 in
    kept-part c.turn.new.self.keep (g.F.Files.files c.args.self.now.inner) (g.F.Files.files c.keep_part.new.inner) (g.F.Files.log c.args.self.now.inner) (g.F.Files.log c.keep_part.new.inner) (meant c.args.call.now) (rw inner at c.in-Ok.ensures.kept)

pub returns-in-Ok-clause-cause : goal.returns-in-Ok-clause-cause
returns-in-Ok-clause-cause g c =
    let inner : c.turn.new.self.inner ≡ c.args.self.now.inner = ap (λ s. s.inner) c.in-Stops.ensures.0 in
    CauseOf-failed (g.F.Files.files c.args.self.now.inner) (meant c.args.call.now) (g.F.Files.faults c.args.self.now.inner) (g.F.Files.faults c.keep_part.new.inner) c.args.self.now.faults c.turn.new.self.faults tt c.in-Stops.ensures.3 c.in-Stops.ensures.4 (rw inner at c.in-Ok.ensures.cause)

pub returns-in-Err-clause-cause : goal.returns-in-Err-clause-cause
returns-in-Err-clause-cause g c =
    let inner : c.turn.new.self.inner ≡ c.args.self.now.inner = ap (λ s. s.inner) c.in-Stops.ensures.0 in
    CauseOf-more (g.F.Files.files c.args.self.now.inner) (meant c.args.call.now) (g.F.Files.faults c.args.self.now.inner) (g.F.Files.faults c.keep_part.new.inner) c.args.self.now.faults c.turn.new.self.faults c.in-Err.error c.in-Stops.ensures.3 (rw inner at c.in-Err.ensures.cause)

pub returns-in-Ok-find_file-clause-cause : goal.returns-in-Ok-find_file-clause-cause
returns-in-Ok-find_file-clause-cause g c =
    let inner : c.turn.new.self.inner ≡ c.args.self.now.inner = ap (λ s. s.inner) c.in-Late.ensures.0 in
    CauseOf-failed (g.F.Files.files c.args.self.now.inner) (meant c.args.call.now) (g.F.Files.faults c.args.self.now.inner) (g.F.Files.faults c.find_file.new.inner) c.args.self.now.faults c.turn.new.self.faults tt c.in-Late.ensures.2 c.in-Late.ensures.3 (rw inner at c.in-Ok-find_file.ensures.cause)

pub returns-in-Err-find_file-clause-cause : goal.returns-in-Err-find_file-clause-cause
returns-in-Err-find_file-clause-cause g c =
    let inner : c.turn.new.self.inner ≡ c.args.self.now.inner = ap (λ s. s.inner) c.in-Late.ensures.0 in
    CauseOf-more (g.F.Files.files c.args.self.now.inner) (meant c.args.call.now) (g.F.Files.faults c.args.self.now.inner) (g.F.Files.faults c.find_file.new.inner) c.args.self.now.faults c.turn.new.self.faults c.in-Err-find_file.error c.in-Late.ensures.2 (rw inner at c.in-Err-find_file.ensures.cause)
