-- What a line asks can be asked.
use Rattle.std.proofs.Common.{◌<◌, ◌^◌, subst, arith}
use Rattle.hd_base.specs.declared.numbers.Stamp.{Stamp}
use Rattle.play_opening.proofs.PlayReaders.AskLaws.{request_fits}
use Rattle.play_lines.proofs.playing.Playing.ask.Goals as goal

pub returns-in-Ok-clause-fits : goal.returns-in-Ok-clause-fits
returns-in-Ok-clause-fits g c = request_fits _ (omega arith) (subst (λ (s : Stamp). s.0 < 2 ^ 64) c.committed.ensures (omega arith)) (omega arith) (omega arith)

pub returns-in-Err-clause-fits : goal.returns-in-Err-clause-fits
returns-in-Err-clause-fits g c = request_fits _ (omega arith) (subst (λ (s : Stamp). s.0 < 2 ^ 64) c.committed.ensures (omega arith)) (omega arith) (omega arith)
